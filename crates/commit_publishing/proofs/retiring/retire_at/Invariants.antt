use Rattle.std.proofs.Common.{◌≡◌, [], map, take}
use Rattle.group_history.specs.Refs.{slot_of}
use Rattle.chunk_slots.specs.Seats.{MayRetire}
use Rattle.commit_publishing.specs.Retiring.{AreLetGo}
use Rattle.commit_publishing.specs.Inside.Steps.{StepsOn}
use Rattle.commit_publishing.proofs.retiring.retire_at.Given as goal

abbrev pub invariant-loop-at : goal.invariant-loop-at
invariant-loop-at g l =
    let S = g.S.Slots in
    record {
      home : S.home l.seat ≡ S.serves l.store;
      raised : S.reused → MayRetire (S.view l.seat) l.r;
      none : S.reused → (S.view l.seat).taken ≡ [];
      steps : S.reused → StepsOn (S.view l.fn.seat) (S.view l.seat);
      retired : S.reused → AreLetGo (S.serves l.store).sizes.slots l.r (map slot_of (take l.at-index l.refs))
          (S.view l.fn.seat).deeds (S.view l.seat).deeds;
    }
