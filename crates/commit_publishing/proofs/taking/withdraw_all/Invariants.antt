use Rattle.std.proofs.Common.{◌≡◌, ℕ, List, [], vec_len}
use Rattle.commit_publishing.specs.Inside.Stacks.{HasTaken, IsButWithdrawn, Uses}
use Rattle.commit_publishing.specs.Inside.Steps.{StepsOn}
use Rattle.commit_publishing.proofs.taking.withdraw_all.Given as goal

abbrev pub invariant-loop-slot : goal.invariant-loop-slot
invariant-loop-slot g l =
    let S = g.S.Slots in
    record {
      home : S.home l.seat ≡ S.serves l.store;
      taken : S.reused → HasTaken (S.view l.seat) l.slots.items;
      used : S.reused → (back : List ℕ) × Uses (S.view l.fn.seat) [] back (S.view l.seat);
      kept : S.reused → IsButWithdrawn (S.view l.fn.seat) (S.view l.seat);
      steps : S.reused → StepsOn (S.view l.fn.seat) (S.view l.seat);
    }

abbrev pub decreases-loop-slot : goal.decreases-loop-slot
decreases-loop-slot g l = vec_len l.slots
