-- What is shown through a copy of known nodes.
use Rattle.std.proofs.Common.{◌≡◌, ℕ, [], ◌∷◌, ◌++◌, length, take, drop, Some, slice_get, refl, sym, ap, ◌∙◌, subst}
use Rattle.std.proofs.Math.Seq.{take-append_seam}
use Rattle.std.proofs.lemmas.List.{take-append-drop}
use Rattle.std.specs.Prelude.{IsSome}
use mathlib.Core.List.{IsPrefix}
use Rattle.group_history.specs.declared.nodes.Chunk.{Chunk}
use Rattle.group_history.specs.declared.nodes.Commit.{Commit}
use Rattle.group_history.specs.declared.nodes.Node.{Node}
use Rattle.group_history.specs.declared.refs.Ref.{Ref}
use Rattle.group_history.specs.Naming.{chunk_content, commit_content}
use Rattle.group_history.specs.Spelling.{Contents, segment_at, version_at}
use Rattle.group_history.proofs.Spellings.{segment-content, version-content}
use Rattle.group_history.proofs.Lists.{prefix_trans, only_one}
use Rattle.map_chunks.specs.Places.{AreAll}
use Rattle.map_chunks.proofs.Shelves.{some_of}
use Rattle.commit_graph.proofs.Spelled.{segment-grown, version-grown}
use Rattle.commit_graph.proofs.Chained.{get_stays}

-- what lies at a stamp lies there in a longer list too
same_content : (ns more : Contents) (k : ℕ) (n m : Node ℕ) → IsPrefix ns more → slice_get ns k ≡ Some n
    → slice_get more k ≡ Some m → slice_get ns k ≡ Some m
same_content ns more k n m p h g = h ∙ (sym (get_stays ns more k n p h) ∙ g)

-- contents of which others are the beginning
pub begins : (known old : Contents) → take (length known) old ≡ known → IsPrefix known old
begins known old h = (
  drop (length known) old,
  ap (λ (w : Contents). w ++ drop (length known) old) (sym h) ∙ take-append-drop (length known) old,
)

pub begun_on : (known old new : Contents) → take (length known) old ≡ known → IsPrefix old new
    → take (length known) new ≡ known
begun_on known old new h p = let b = prefix_trans known old new (begins known old h) p in
    ap (take (length known)) (sym b.1) ∙ take-append_seam known b.0

pub known_chunk : (known old new : Contents) (k : ℕ) (x : Chunk Ref) → take (length known) old ≡ known
    → IsPrefix old new → IsSome (segment_at known k) → slice_get new k ≡ Some (chunk_content x)
    → slice_get known k ≡ Some (chunk_content x)
known_chunk known old new k x b p h g =
    let s = some_of (segment_at known k) h in
    let c = segment-content known k s.0 s.1 in
    same_content known new k _ (chunk_content x) (prefix_trans known old new (begins known old b) p) c.2 g

pub known_commit : (known old new : Contents) (k : ℕ) (x : Commit Ref) → take (length known) old ≡ known
    → IsPrefix old new → IsSome (version_at known k) → slice_get new k ≡ Some (commit_content x)
    → slice_get known k ≡ Some (commit_content x)
known_commit known old new k x b p h g =
    let v = some_of (version_at known k) h in
    let c = version-content known k v.0 v.1 in
    same_content known new k _ (commit_content x) (prefix_trans known old new (begins known old b) p) c.2 g

pub still_segment : (known old : Contents) (k : ℕ) → take (length known) old ≡ known → IsSome (segment_at known k)
    → IsSome (segment_at old k)
still_segment known old k b h = let s = some_of (segment_at known k) h in
    subst IsSome (sym (segment-grown known old k s.0 (begins known old b) s.1)) refl

pub still_version : (known old : Contents) (k : ℕ) → take (length known) old ≡ known → IsSome (version_at known k)
    → IsSome (version_at old k)
still_version known old k b h = let v = some_of (version_at known k) h in
    subst IsSome (sym (version-grown known old k v.0 (begins known old b) v.1)) refl

-- a reference alone
pub one_may : (may : Ref → Type 0) (at : Ref) → may at → AreAll may (at ∷ [])
one_may may at h r i = subst may (only_one at r i) h

-- what is made of equal parts is equal, where a fact beside them holds in one way at most
pub same_made : {A S : Type 0} (P : A → Type 0) (mk : (a : A) → P a → S) (one : (a : A) → IsProp (P a)) (a b : A)
    (p : P a) (q : P b) → b ≡ a → mk b q ≡ mk a p
same_made P mk one a b p q e = subst (λ z. (r : P z) → mk z r ≡ mk a p) (sym e) (λ r. ap (mk a) (one a r p)) q
