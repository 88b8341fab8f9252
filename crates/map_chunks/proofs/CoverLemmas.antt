-- Chunks that have the rows of a scan among theirs.
use Rattle.std.proofs.Common.{◌≡◌, ◌≤◌, ℕ, zero, suc, List, [], ◌∷◌, ◌++◌, Option, None, Some, refl, sym, ap, ◌∙◌}
use Rattle.std.proofs.Common.{append_assoc, slice_get, subst}
use Rattle.std.proofs.lemmas.List.{append-nil}
use Rattle.std.proofs.lemmas.List.Elements.{filter-append}
use Rattle.std.specs.Prelude.{option_map, option_and_then}
use mathlib.Core.List.{IsPrefix}
use Rattle.group_history.specs.declared.nodes.Chunk.{Chunk}
use Rattle.group_history.specs.declared.nodes.Chunk.TheVariants.{Inner}
use Rattle.group_history.specs.declared.nodes.Node.{Node}
use Rattle.group_history.specs.declared.nodes.Node.TheVariants as node
use Rattle.group_history.specs.declared.refs.Ref.{Ref}
use Rattle.group_history.specs.declared.scans.Scan.{Scan}
use Rattle.group_history.specs.Map.{Bytes}
use Rattle.group_history.specs.Naming.{chunk_content}
use Rattle.group_history.specs.Rows.{Rows}
use Rattle.group_history.specs.Scans.{is_in}
use Rattle.group_history.specs.Spelling.{Contents, Segment, segment_at}
use Rattle.group_history.proofs.Folding.{and_then-some}
use Rattle.group_history.proofs.Spellings.{segment-content}
use Rattle.map_chunks.specs.Covers.{Covers, rows_together}
use Rattle.map_chunks.specs.Inside.Scanning.{children_rows}
use Rattle.map_chunks.specs.Scanning.{scanned}
use Rattle.map_chunks.specs.Shown.{chunk_rows, rows_or, IsTree}
use Rattle.map_chunks.specs.Sinks.{HasMore}
use Rattle.map_chunks.proofs.JoinLemmas.{some_is}
use Rattle.map_chunks.proofs.OpenLemmas.{known, spells_rows}
use Rattle.map_chunks.proofs.ScanLemmas.{chunk_rows-kept, opened_is, top}

-- what is there of what a function makes
mapped : {A B : Type 0} (f : A → B) (o : Option A) (b : B) → option_map f o ≡ Some b
    → (a : A) × (o ≡ Some a) × (f a ≡ b)
mapped f None b h = absurd (cc h)
mapped f (Some a) b h = (a, refl, some_is h)

-- the rows of a first chunk, and of those behind it
record Parts (contents : Contents) (k : ℕ) (ks : List ℕ) (rows : Rows) : Type 0 where
  front : Rows
  back : Rows
  front_is : chunk_rows contents k ≡ Some front
  back_is : rows_together contents ks ≡ Some back
  whole : front ++ back ≡ rows

parts : (contents : Contents) (k : ℕ) (ks : List ℕ) (rows : Rows) → rows_together contents (k ∷ ks) ≡ Some rows
    → Parts contents k ks rows
parts contents k ks rows h =
    let a = and_then-some (chunk_rows contents k)
    (λ (front : Rows). option_map (λ more. front ++ more) (rows_together contents ks)) rows h in
    let b = mapped (λ more. a.0 ++ more) (rows_together contents ks) rows a.2 in
    record { front = a.0; back = b.0; front_is = a.1; back_is = b.1; whole = b.2 }

put_together : (contents : Contents) (k : ℕ) (ks : List ℕ) (front back : Rows) → chunk_rows contents k ≡ Some front
    → rows_together contents ks ≡ Some back → rows_together contents (k ∷ ks) ≡ Some (front ++ back)
put_together contents k ks front back f b =
    ap (option_and_then (λ (rows : Rows). option_map (λ more. rows ++ more) (rows_together contents ks))) f
    ∙ ap (option_map (λ more. front ++ more)) b

-- they stay where more is placed
together-kept : (old new : Contents) (ks : List ℕ) (rows : Rows) → IsPrefix old new → rows_together old ks ≡ Some rows
    → rows_together new ks ≡ Some rows
together-kept old new [] rows g h = h
together-kept old new (k ∷ ks) rows g h =
    let p = parts old k ks rows h in
    put_together new k ks p.front p.back (chunk_rows-kept old new k p.front g p.front_is)
    (together-kept old new ks p.back g p.back_is) ∙ ap (λ w. Some w) p.whole

-- a chunk more
together-more : (contents : Contents) (ks : List ℕ) (k : ℕ) (rows here : Rows) → rows_together contents ks ≡ Some rows
    → chunk_rows contents k ≡ Some here → rows_together contents (ks ++ k ∷ []) ≡ Some (rows ++ here)
together-more contents [] k rows here h e =
    put_together contents k [] here [] e refl ∙ ap (λ w. Some w) (append-nil here)
    ∙ ap (λ w. Some (w ++ here)) (some_is h)
together-more contents (j ∷ ks) k rows here h e =
    let p = parts contents j ks rows h in
    put_together contents j (ks ++ k ∷ []) p.front (p.back ++ here) p.front_is
    (together-more contents ks k p.back here p.back_is e)
    ∙ ap (λ w. Some w) (sym (append_assoc p.front p.back here) ∙ ap (λ w. w ++ here) p.whole)

-- behind chunks that cover a scan's rows another chunk covers its own
pub cover_more : (scan : Scan) (contents : Contents) (old new : List ℕ) (k : ℕ) (here : Rows) → new ≡ old ++ k ∷ []
    → chunk_rows contents k ≡ Some here → HasMore (Covers scan contents) old new (scanned scan here)
cover_more scan contents old new k here e h rows c =
    let m = mapped (scanned scan) (rows_together contents old) rows c in
    ap (λ w. option_map (scanned scan) (rows_together contents w)) e
    ∙ ap (option_map (scanned scan)) (together-more contents old k m.0 here m.1 h)
    ∙ ap (λ w. Some w) (filter-append (λ r. is_in scan r.0) m.0 here ∙ ap (λ w. w ++ scanned scan here) m.2)

pub cover_tree : (scan : Scan) (contents : Contents) (old new : List ℕ) (k : ℕ) → new ≡ old ++ k ∷ []
    → IsTree (chunk_rows contents k)
    → HasMore (Covers scan contents) old new (scanned scan (rows_or (chunk_rows contents k)))
cover_tree scan contents old new k e t =
    let n = known (chunk_rows contents k) t in
    subst (λ w. HasMore (Covers scan contents) old new (scanned scan (rows_or w))) (sym n.is)
    (cover_more scan contents old new k n.rows e n.is)

-- Chunks of the same stamps have the same rows of a scan, also where more was placed.
pub cover_same : (scan : Scan) (old new : Contents) (ks : List ℕ) (xs ys : Rows) → IsPrefix old new
    → Covers scan old ks xs → Covers scan new ks ys → xs ≡ ys
cover_same scan old new ks xs ys g a b =
    let m = mapped (scanned scan) (rows_together old ks) xs a in
    some_is (ap (λ w. Some w) (sym m.2) ∙ sym (ap (option_map (scanned scan)) (together-kept old new ks m.0 g m.1)) ∙ b)

-- WHAT WAS KNOWN BEFORE

got_still : {A : Type 0} (xs ys : List A) (k : ℕ) (x : A) → slice_get xs k ≡ Some x → slice_get (xs ++ ys) k ≡ Some x
got_still [] ys k x h = absurd (cc h)
got_still (z ∷ xs) ys zero x h = h
got_still (z ∷ xs) ys (suc k) x h = got_still xs ys k x h

-- a stamp that spelled rows had the content that it has
content_before : (before now : Contents) (k : ℕ) (s : Segment) (n : Node ℕ) → IsPrefix before now
    → segment_at before k ≡ Some s → slice_get now k ≡ Some n → slice_get before k ≡ Some n
content_before before now k s n pre h g =
    let m = segment-content before k s h in
    m.2 ∙ sym (subst (λ (w : Contents). slice_get w k ≡ Some (node.Chunk m.0)) pre.1
    (got_still before pre.0 k (node.Chunk m.0) m.2)) ∙ g

-- the children of a chunk had its rows then
pub record Below (before : Contents) (k : ℕ) (kids : List (Bytes × Ref)) : Type 0 where
  pub rows : children_rows before kids ≡ chunk_rows before k
  pub low : top kids ≤ k

pub below : (before now : Contents) (k : ℕ) (c : Chunk Ref) (inner kids : List (Bytes × Ref)) → IsPrefix before now
    → IsTree (chunk_rows before k) → slice_get now k ≡ Some (chunk_content c) → c ≡ Inner inner → kids ≡ inner
    → Below before k kids
below before now k c inner kids pre t g e same =
    let n = known (chunk_rows before k) t in
    let s = spells_rows before k n.rows n.is in
    let was = content_before before now k s.segment (chunk_content c) pre s.is g in
    let o = opened_is before k n.rows (Inner inner) n.is
    (subst (λ (w : Chunk Ref). slice_get before k ≡ Some (chunk_content w)) e was) in
    record {
      rows = ap (children_rows before) same ∙ o.rows_are ∙ sym n.is;
      low = subst (λ w. top w ≤ k) (sym same) o.low;
    }
