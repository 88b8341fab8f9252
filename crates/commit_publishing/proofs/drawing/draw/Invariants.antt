use Rattle.std.proofs.Common.{◌≡◌, ◌+◌, ◌≤◌}
use mathlib.Core.List.{IsPrefix}
use Rattle.head_word.specs.Marks.{others, own}
use Rattle.linearized.specs.Answered.{own_moves}
use Rattle.commit_publishing.proofs.drawing.draw.Given as goal

-- each try was lost to others
abbrev pub invariant-loop-tried : goal.invariant-loop-tried
invariant-loop-tried g l = record {
  book : l.mark.book ≡ l.initial.mark.book;
  number : l.mark.seat ≡ l.initial.mark.seat;
  seen : IsPrefix l.initial.mark.log l.mark.log;
  nothing : own l.mark ≡ own l.initial.mark;
  own : own_moves l.mark ≡ own_moves l.initial.mark;
  lost : others l.initial.mark + l.tried ≤ others l.mark;
}
