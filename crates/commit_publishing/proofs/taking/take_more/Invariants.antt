use Rattle.std.proofs.Common.{◌≡◌, ℕ, ◌+◌, List, length}
use Rattle.reader_claims.specs.Passes.{OnlyTakes}
use Rattle.reader_claims.specs.Seats.{kind_end}
use Rattle.commit_publishing.specs.Inside.Stacks.{AreLower, HasTaken}
use Rattle.commit_publishing.specs.Inside.Steps.{StepsOn}
use Rattle.commit_publishing.proofs.taking.take_more.Given as goal

abbrev pub invariant-loop-held : goal.invariant-loop-held
invariant-loop-held g l =
    let S = g.S.Slots in
    record {
      home : S.home l.seat ≡ S.serves l.store;
      taken : S.reused → HasTaken (S.view l.seat) l.slots.items;
      within : S.reused → AreLower (kind_end (S.serves l.store).sizes l.kind) l.fn.slots.items
          → AreLower (kind_end (S.serves l.store).sizes l.kind) l.slots.items;
      more : length l.slots.items ≡ length l.fn.slots.items + l.held;
      took : S.reused → (taken : List ℕ) × OnlyTakes (S.view l.fn.seat) (S.view l.seat) taken;
      steps : S.reused → StepsOn (S.view l.fn.seat) (S.view l.seat);
    }
