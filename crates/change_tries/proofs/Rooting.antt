-- The root that was read last stays that of its commit for everybody who has seen more.
use Rattle.std.proofs.Common.{◌≡◌, List, Option, Some, None, refl, sym, ap, ◌∙◌, subst}
use Rattle.std.specs.Prelude.{IsSome}
use mathlib.Core.List.{IsPrefix}
use Rattle.group_history.specs.Map.{Entries}
use Rattle.group_history.specs.Refs.{stamp_of}
use Rattle.group_history.specs.Spelling.{Version, version_at, map_at}
use Rattle.head_word.specs.declared.entry.Entry.{Entry}
use Rattle.head_word.specs.Books.{drawn}
use Rattle.head_word.proofs.BookLaws.{drawn_begins, spelled-stays}
use Rattle.map_chunks.proofs.Shelves.{some_of}
use Rattle.commit_graph.proofs.Spelled.{map-grown}
use Rattle.change_tries.specs.declared.views.Rooted.{Rooted}
use Rattle.change_tries.specs.Rooting.{IsRooted, read_in}

read_from : (o : Option Version) (m : Entries) → read_in o ≡ Some m → (v : Version) × (o ≡ Some v) × (v.read ≡ m)
read_from (Some v) m h = (v, refl, cc h)
read_from None m h = absurd (cc h)

pub roots_stay : (old new : List Entry) (latest : Option Rooted) → IsPrefix old new
    → ((r : Rooted) → latest ≡ Some r → IsRooted (drawn old) r) → (r : Rooted) → latest ≡ Some r → IsRooted
    (drawn new) r
roots_stay old new latest more was r is =
    let w = was r is in
    let m = some_of (map_at (drawn old) (stamp_of r.root)) w.0 in
    let v = read_from (version_at (drawn old) (stamp_of r.commit)) m.0 (w.1 ∙ m.1) in
    let there = map-grown (drawn old) (drawn new) (stamp_of r.root) m.0 (drawn_begins old new more) m.1 in (
      subst (λ (o : Option Entries). IsSome o) (sym there) refl,
      ap read_in (spelled-stays old new more (stamp_of r.commit) v.0 v.1) ∙ ap (λ (x : Entries). Some x) v.2
          ∙ sym there,
    )
