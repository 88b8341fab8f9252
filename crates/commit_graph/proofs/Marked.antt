-- What a shown node is to a mark that knows its stamp.
use Rattle.std.proofs.Common.{◌≡◌, ℕ, ◌⊎◌, inl, inr, true, false, List, Some, None, Option, slice_get, Result, Ok, Err}
use Rattle.std.proofs.Common.{IfOk, refl, sym, subst, ◌∙◌}
use Rattle.std.specs.Prelude.{IsSome}
use mathlib.Core.List.{IsPrefix}
use Rattle.group_history.specs.declared.nodes.Node.{Node}
use Rattle.group_history.specs.declared.nodes.Node.TheVariants as node
use Rattle.group_history.specs.declared.refs.Ref.{Ref}
use Rattle.group_history.specs.Naming.{content_of, chunk_content, commit_content}
use Rattle.group_history.specs.Spelling.{Contents, segment_at, version_at}
use Rattle.group_history.proofs.Spellings.{segment-content, version-content}
use Rattle.head_word.specs.declared.entry.Entry.{Entry}
use Rattle.head_word.specs.Books.{drawn}
use Rattle.head_word.proofs.BookLaws.{content-stays}
use Rattle.chunk_slots.specs.Contents.{IsContent}
use Rattle.commit_graph.specs.Inside.Kinds.{is_chunk, chunk_of, commit_of}
use Rattle.commit_graph.proofs.Chained.{some_version}
use Rattle.commit_graph.proofs.Rooted.{some_segment}

some_of : {A : Type 0} (o : Option A) → IsSome o → (x : A) × (o ≡ Some x)
some_of None h = absurd (cc h)
some_of (Some x) h = (x, refl)

some_is : {A : Type 0} (o : Option A) (x : A) → o ≡ Some x → IsSome o
some_is o x h = subst (λ (w : Option _). IsSome w) (sym h) refl

-- of two beginnings of one book, what the one knows under a stamp is what the other knows there, if it knows it
pub one_content : (mine other : List Entry) (k : ℕ) (n : Node Ref) → IsPrefix mine other ⊎ IsPrefix other mine
    → IsSome (slice_get (drawn mine) k) → IsContent other k n → IsContent mine k n
one_content mine other k n (inl p) here at = let d = some_of (slice_get (drawn mine) k) here in
    d.1 ∙ (sym (content-stays mine other p k d.0 d.1) ∙ at)
one_content mine other k n (inr p) here at = content-stays other mine p k (content_of n) at

-- what spells anything has a content
pub chunk_known : (cs : Contents) (k : ℕ) → IsSome (segment_at cs k) → IsSome (slice_get cs k)
chunk_known cs k h = let s = some_segment cs k h in let d = segment-content cs k s.0 s.1 in
    some_is (slice_get cs k) (node.Chunk d.0) d.2

pub commit_known : (cs : Contents) (k : ℕ) → IsSome (version_at cs k) → IsSome (slice_get cs k)
commit_known cs k h = let v = some_version cs k h in let d = version-content cs k v.0 v.1 in
    some_is (slice_get cs k) (node.Commit d.0) d.2

-- a result that is an Ok has what follows for it
pub if_ok : {A E : Type 0} (P Q : A → Type 0) (r : Result A E) → ((a : A) → P a → Q a) → IfOk r P → IfOk r Q
if_ok P Q (Ok a) f h = f a h
if_ok P Q (Err e) f h = tt

-- a content of this kind
pub chunk_content_of : (cs : Contents) (k : ℕ) (n : Node Ref) → is_chunk n ≡ true → slice_get cs k ≡ Some (content_of n)
    → slice_get cs k ≡ Some (chunk_content (chunk_of n))
chunk_content_of cs k (node.Chunk c) is at = at
chunk_content_of cs k (node.Commit c) is at = absurd (cc is)

pub commit_content_of : (cs : Contents) (k : ℕ) (n : Node Ref) → is_chunk n ≡ false
    → slice_get cs k ≡ Some (content_of n) → slice_get cs k ≡ Some (commit_content (commit_of n))
commit_content_of cs k (node.Commit c) is at = at
commit_content_of cs k (node.Chunk c) is at = absurd (cc is)
