-- What was found at a commit is found there by everybody who has seen more.
use Rattle.std.proofs.Common.{◌≡◌, ℕ, List, Option, Some, None, refl, sym, ap, ◌∙◌}
use mathlib.Core.List.{IsPrefix}
use Rattle.group_history.specs.Map.{Bytes}
use Rattle.group_history.specs.Spelling.{Version, version_at}
use Rattle.head_word.specs.declared.entry.Entry.{Entry}
use Rattle.head_word.specs.Books.{drawn}
use Rattle.head_word.proofs.BookLaws.{spelled-stays}
use Rattle.commit_graph.specs.LastIds.{last_in, last_at}

some_in : (client : Bytes) (o : Option Version) (id : ℕ) → last_in client o ≡ Some id → (v : Version) × (o ≡ Some v)
some_in client None id h = absurd (cc h)
some_in client (Some v) id h = (v, refl)

pub last_grown : (old new : List Entry) (stamp : ℕ) (client : Bytes) (id : ℕ) → IsPrefix old new
    → last_at (drawn old) stamp client ≡ Some id → last_at (drawn new) stamp client ≡ Some id
last_grown old new stamp client id more was =
    let v = some_in client (version_at (drawn old) stamp) id was in
    ap (last_in client) (spelled-stays old new more stamp v.0 v.1) ∙ sym (ap (last_in client) v.1) ∙ was
