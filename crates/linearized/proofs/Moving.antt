-- Where calls have their points.
use Rattle.std.proofs.Common.{◌≡◌, List, [], ◌∷◌, ◌++◌, filter, Some, None, ap, sym, subst, ◌∙◌}
use Rattle.std.proofs.lemmas.List.{append-nil}
use Rattle.std.proofs.lemmas.List.Elements.{filter-append}
use mathlib.Core.List.{IsPrefix}
use Rattle.group_history.specs.declared.changes.Change.{Change}
use Rattle.group_history.specs.declared.refs.Ref.{Ref}
use Rattle.group_history.specs.Meaning.{Meanings}
use Rattle.group_history.specs.Record.{IsLegal, after}
use Rattle.group_history.specs.Refs.{stamp_of}
use Rattle.group_history.specs.Spelling.{Spells, version_of}
use Rattle.group_history.specs.State.{State}
use Rattle.group_history.proofs.Lists.{prefix_self}
use Rattle.head_word.specs.declared.entry.Entry.{Entry}
use Rattle.head_word.specs.Books.{drawn, record_of, last_move, moved, IsOpened}
use Rattle.head_word.specs.Marks.{Known, own}
use Rattle.head_word.proofs.BookLaws.{spelled-stays}
use Rattle.linearized.specs.Answered.{IsPoint, own_moves, is_move}

-- a call that adds no move has its point where the book is that it has seen last
pub point_seen : (means : Meanings) (old new : Known) → IsPrefix old.log new.log → IsOpened means new.log
    → own_moves new ≡ own_moves old → IsPoint means old new None new.log
point_seen means old new pre opened same = record {
  to = record { bits = 0 };
  since = pre;
  until = subst (λ w. IsPrefix w new.log) (sym (append-nil new.log)) (prefix_self new.log);
  legal = subst (λ w. IsLegal means (record_of w)) (sym (append-nil new.log)) opened.0.legal;
  moves = same ∙ sym (append-nil (own_moves old));
}

-- and one that added a move directly before it
pub point_moved : (means : Meanings) (old new : Known) (to : Ref) (change : Change) (log : List Entry)
    → IsPrefix old.log log → new.log ≡ log ++ moved old.seat to change ∷ [] → IsOpened means new.log
    → own new ≡ own old ++ moved old.seat to change ∷ [] → IsPoint means old new (Some change) log
point_moved means old new to change log pre is opened once = record {
  to = to;
  since = pre;
  until = subst (λ w. IsPrefix w new.log) is (prefix_self new.log);
  legal = subst (λ w. IsLegal means (record_of w)) is opened.0.legal;
  moves = ap (filter is_move) once ∙ filter-append is_move (own old) (moved old.seat to change ∷ []);
}

-- the state of a commit to which the head led is the state of the record there
pub state_there : (means : Meanings) (mine log : List Entry) (base : Ref) (s : State) → IsPrefix mine log
    → IsOpened means log → last_move log ≡ base → Spells means (drawn mine) (stamp_of base) s
    → after (record_of log) ≡ s
state_there means mine log base s pre opened last spells =
    let here = spelled-stays mine log pre (stamp_of base) (version_of means s) spells in
    let there = subst (λ r. Spells means (drawn log) (stamp_of r) (after (record_of log))) last opened.0.spelled in
    let e : Some (version_of means (after (record_of log))) ≡ Some (version_of means s) = sym there ∙ here in
    let v : version_of means (after (record_of log)) ≡ version_of means s = cc e in
    ap (λ v. v.state) v
