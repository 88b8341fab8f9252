-- What the numbers of a draft become: stamps in the book, and references where its nodes are placed.
use Rattle.std.proofs.Common.{◌≡◌, ℕ, zero, suc, ◌+◌, ◌-◌, ◌<◌, ◌≤◌, Bool, true, false, List, [], ◌∷◌, ◌++◌, map, All}
use Rattle.std.proofs.Common.{Some, length, slice_get, slice_index_or, cond, nat_lt, refl, ap, sym, subst, ◌∙◌, arith}
use Rattle.std.proofs.Common.{append_assoc, length-append, Option}
use Rattle.std.specs.List.{Contains}
use Rattle.std.proofs.lemmas.List.{append-nil, length-map, map-append}
use Rattle.std.proofs.lemmas.List.Elements.{All-map, All-contains_itself, Contains-get_or}
use Rattle.std.proofs.lemmas.Bool.{cond_both, cond-false}
use Rattle.std.proofs.lemmas.Bool.Decides.{nat_tests}
use mathlib.Core.List.{IsPrefix}
use Rattle.group_history.specs.declared.nodes.Chunk.TheVariants.{Leaf, Inner}
use Rattle.group_history.specs.declared.nodes.Child.TheVariants.{Placed, Drafted}
use Rattle.group_history.specs.declared.nodes.CommitKind.{CommitKind}
use Rattle.group_history.specs.declared.nodes.CommitKind.TheVariants.{Snapshot, Over}
use Rattle.group_history.specs.declared.nodes.Node.{Node}
use Rattle.group_history.specs.declared.nodes.Node.TheVariants as node
use Rattle.group_history.specs.declared.refs.Ref.{Ref}
use Rattle.group_history.specs.Map.{Bytes}
use Rattle.group_history.specs.Naming.{children, commits_named, child_stamp, content_of, drafted_content, placed_ref}
use Rattle.group_history.specs.Naming.{renamed, renamed_kind}
use Rattle.group_history.specs.Refs.{stamp_of}
use Rattle.group_history.specs.Rows.{values_of}
use Rattle.group_history.specs.Spelling.{Contents}
use Rattle.group_history.proofs.Folding.{seam}
use Rattle.head_word.specs.declared.entry.Entry.{Entry}
use Rattle.head_word.specs.Books.{child_from, drafted, drafted_from, drafted_contents, drawn, next_stamp, IsBefore}
use Rattle.head_word.specs.Books.{AreAfter}
use Rattle.head_word.proofs.Books.{drawn_more}
use Rattle.map_chunks.specs.Drafts.{Drafted as Draft, AreBelow, AreChildrenBelow}
use Rattle.commit_publishing.specs.Placed.{IsPlaced}
use Rattle.commit_publishing.specs.Stamped.{restamped, drawn_as, AreFrom}
use Rattle.commit_publishing.specs.Inside.Steps.{AreDrawn}
use Rattle.commit_publishing.proofs.Renaming.{renamed-renamed, renamed-same}

-- STAMPS

-- the stamp of a drafted child
stamp_drawn : (from first : ℕ) (at : Ref) → child_stamp first (child_from from at) ≡ restamped from first at
stamp_drawn from first at = by (nat_lt (stamp_of at) from)
  where
    by : (b : Bool) → child_stamp first (cond b (Placed at) (Drafted (stamp_of at - from)))
        ≡ cond b (stamp_of at) (first + (stamp_of at - from))
    by true = refl
    by false = refl

node_drawn : (from first : ℕ) (n : Node Ref)
    → drafted_content first (renamed (child_from from) n) ≡ renamed (restamped from first) n
node_drawn from first n = renamed-renamed (child_from from) (child_stamp first) n ∙ renamed-same
    (λ at. child_stamp first (child_from from at)) (restamped from first) n (λ at h. stamp_drawn from first at)

-- what a draft adds to the contents of the book
drafted-drawn : (from first : ℕ) (nodes : List (Node Ref))
    → drafted_contents first (drafted_from from nodes) ≡ drawn_as from first nodes
drafted-drawn from first [] = refl
drafted-drawn from first (n ∷ ns) = ap (λ c. c ∷ drafted_contents first (drafted_from from ns))
    (node_drawn from first n) ∙ ap (λ w. renamed (restamped from first) n ∷ w) (drafted-drawn from first ns)

-- so the contents of a book that ends in the draft end in what it drew
drawn_last : (log new : List Entry) (seat : Option ℕ) (from first : ℕ) (nodes : List (Node Ref))
    → new ≡ log ++ drafted seat first (drafted_from from nodes) ∷ []
    → drawn log ++ drawn_as from first nodes ≡ drawn new
drawn_last log new seat from first nodes is =
    let last = drafted seat first (drafted_from from nodes) in
    sym (ap drawn is ∙ (drawn_more log (last ∷ []) ∙ ap (λ w. drawn log ++ w)
    (append-nil (drafted_contents first (drafted_from from nodes)) ∙ drafted-drawn from first nodes)))

pub are_drawn : (log new : List Entry) (seat : Option ℕ) (from first : ℕ) (nodes : List (Node Ref))
    → next_stamp log ≡ first → new ≡ log ++ drafted seat first (drafted_from from nodes) ∷ []
    → AreDrawn from first nodes (drawn new)
are_drawn log new seat from first nodes next is = (
  drawn log,
  next,
  (
    [],
    append-nil (drawn log ++ drawn_as from first nodes) ∙ drawn_last log new seat from
        first nodes is,
  ),
)

pub are_placed : (old log new : List Entry) (seat : Option ℕ) (draft : Draft) (first : ℕ) (refs : List Ref)
    → IsPrefix old log → next_stamp log ≡ first
    → new ≡ log ++ drafted seat first (drafted_from draft.first draft.nodes) ∷ []
    → AreFrom first refs → length refs ≡ length draft.nodes → IsPlaced (drawn old) (drawn new) draft refs
are_placed old log new seat draft first refs seen next is are count = record {
  earlier = drawn log;
  first = first;
  count = count;
  stamps = are;
  behind = next;
  since = (drawn seen.0, sym (drawn_more old seen.0) ∙ ap drawn seen.1);
  until = (
    [],
    append-nil (drawn log ++ drawn_as draft.first first draft.nodes) ∙ drawn_last log new seat draft.first
        first draft.nodes is,
  );
}

-- REFERENCES

pub from_at : (first : ℕ) (refs : List Ref) (k : ℕ) (d : Ref) → AreFrom first refs → k < length refs
    → stamp_of (slice_index_or refs k d) ≡ first + k
from_at first [] k d are low = absurd (omega (arith, low))
from_at first (r ∷ refs) zero d are low = omega (arith, are.0)
from_at first (r ∷ refs) (suc k) d are low = from_at (suc first) refs k d are.1 (omega (arith, low)) ∙
    (let e : suc first + k ≡ first + suc k = omega arith in e)

pub from_more : (first : ℕ) (refs : List Ref) (at : Ref) → AreFrom first refs → stamp_of at ≡ first + length refs
    → AreFrom first (refs ++ at ∷ [])
from_more first [] at are is = (omega (arith, is), tt)
from_more first (r ∷ refs) at are is = (are.0, from_more (suc first) refs at are.1 (omega (arith, is)))

-- the stamp of a child's reference
pub ref_stamped : (from first : ℕ) (refs : List Ref) (at : Ref) → AreFrom first refs → stamp_of at < from + length refs
    → stamp_of (placed_ref from refs at) ≡ restamped from first at
ref_stamped from first refs at are low = by (nat_lt (stamp_of at) from) refl
  where
    by : (b : Bool) → nat_lt (stamp_of at) from ≡ b
        → stamp_of (cond b at (slice_index_or refs (stamp_of at - from) at))
        ≡ cond b (stamp_of at) (first + (stamp_of at - from))
    by true is = refl
    by false is = let high : from ≤ stamp_of at = grind (arith, nat_tests, is) in
        from_at first refs (stamp_of at - from) at are (omega (arith, low, high))

-- the reference of one of the draft's own nodes is one of those at which they were placed
pub ref_among : (from : ℕ) (refs : List Ref) (at : Ref) → from ≤ stamp_of at → stamp_of at < from + length refs
    → Contains refs (placed_ref from refs at)
ref_among from refs at own low = subst (Contains refs)
    (sym (cond-false (nat_lt (stamp_of at) from) at (slice_index_or refs (stamp_of at - from) at)
    (grind (arith, nat_tests, own)))) (Contains-get_or refs (stamp_of at - from) at (omega (arith, own, low)))

-- the content of a node whose children are so named
pub node_stamped : (from first : ℕ) (refs : List Ref) (n : Node Ref) → AreFrom first refs
    → AreBelow (from + length refs) (children n)
    → content_of (renamed (placed_ref from refs) n) ≡ renamed (restamped from first) n
node_stamped from first refs n are below =
    renamed-renamed (placed_ref from refs) stamp_of n ∙ renamed-same (λ at. stamp_of (placed_ref from refs at))
    (restamped from first) n (λ at h. ref_stamped from first refs at are (below at h))

-- the order of a draft's nodes
ordered_at : (n : ℕ) (xs : List (Node Ref)) (x : Node Ref) (ys : List (Node Ref)) → AreChildrenBelow n (xs ++ x ∷ ys)
    → AreBelow (n + length xs) (children x)
ordered_at n [] x ys order = subst (λ k. AreBelow k (children x)) (let e : n ≡ n + 0 = omega arith in e) order.0
ordered_at n (w ∷ xs) x ys order = subst (λ k. AreBelow k (children x))
    (let e : suc n + length xs ≡ n + suc (length xs) = omega arith in e) (ordered_at (suc n) xs x ys order.1)

drawn_at : (from first : ℕ) (xs : List (Node Ref)) (x : Node Ref) (ys : List (Node Ref)) (contents : Contents)
    → AreDrawn from first (xs ++ x ∷ ys) contents
    → slice_get contents (first + length xs) ≡ Some (renamed (restamped from first) x)
drawn_at from first xs x ys contents are =
    let f = renamed (restamped from first) in
    let front = are.0 ++ map f xs in
    let long : length front ≡ first + length xs = omega
    (arith, length-append are.0 (map f xs), length-map xs f, are.1) in
    let split : (are.0 ++ map f (xs ++ x ∷ ys)) ++ are.2.0 ≡ front ++ f x ∷ (map f ys ++ are.2.0) =
    ap (λ w. (are.0 ++ w) ++ are.2.0) (map-append f xs (x ∷ ys)) ∙
    (ap (λ w. w ++ are.2.0) (sym (append_assoc are.0 (map f xs) (f x ∷ map f ys))) ∙ append_assoc front
    (f x ∷ map f ys) are.2.0) in
    subst (λ w. slice_get w (first + length xs) ≡ Some (f x)) (sym split ∙ are.2.1)
    (subst (λ k. slice_get (front ++ f x ∷ (map f ys ++ are.2.0)) k ≡ Some (f x)) long
    (seam front (f x) (map f ys ++ are.2.0)))

-- so each node is, where its turn comes, the content of its stamp
pub turn_drawn : (from first : ℕ) (nodes xs : List (Node Ref)) (x : Node Ref) (ys : List (Node Ref)) (refs : List Ref)
    (contents : Contents) → nodes ≡ xs ++ x ∷ ys → length refs ≡ length xs → AreChildrenBelow from nodes
    → AreFrom first refs
    → AreDrawn from first nodes contents
    → slice_get contents (first + length refs) ≡ Some (content_of (renamed (placed_ref from refs) x))
turn_drawn from first nodes xs x ys refs contents whole count order are drawn =
    let order' = subst (AreChildrenBelow from) whole order in
    let drawn' = subst (λ (w : List (Node Ref)). AreDrawn from first w contents) whole drawn in
    let below = subst (λ k. AreBelow (from + k) (children x)) (sym count) (ordered_at from xs x ys order') in
    ap (λ k. slice_get contents (first + k)) count ∙
    (drawn_at from first xs x ys contents drawn' ∙ ap (λ c. Some c)
    (sym (node_stamped from first refs x are below)))

-- CHILDREN

values-renamed : {A B : Type 0} (f : A → B) (kids : List (Bytes × A))
    → values_of (map (λ e. (e.0, f e.1)) kids) ≡ map f (values_of kids)
values-renamed f [] = refl
values-renamed f (k ∷ ks) = ap (λ w. f k.1 ∷ w) (values-renamed f ks)

named-renamed : {A B : Type 0} (f : A → B) (k : CommitKind A) → commits_named (renamed_kind f k)
    ≡ map f (commits_named k)
named-renamed f (Snapshot s) = refl
named-renamed f (Over o) = refl

pub children-renamed : {A B : Type 0} (f : A → B) (n : Node A) → children (renamed f n) ≡ map f (children n)
children-renamed f (node.Chunk (Leaf rows)) = refl
children-renamed f (node.Chunk (Inner kids)) = values-renamed f kids
children-renamed f (node.Commit c) = ap (λ w. f c.root ∷ w) (named-renamed f c.kind)

child_before : (n from place : ℕ) (at : Ref) → from ≤ n → stamp_of at < from + place
    → IsBefore n place (child_from from at)
child_before n from place at le h = cond_both (nat_lt (stamp_of at) from) (Placed at) (Drafted (stamp_of at - from))
    (IsBefore n place)
    (λ yes. let l : stamp_of at < from = grind (arith, nat_tests, yes) in omega (arith, le, l))
    (λ no. let l : from ≤ stamp_of at = grind (arith, nat_tests, no) in omega (arith, h, l))

-- children below their parents were drawn, or stand at earlier places
after_from : (n from place : ℕ) (ns : List (Node Ref)) → from ≤ n → AreChildrenBelow (from + place) ns
    → AreAfter n place (drafted_from from ns)
after_from n from place [] le h = tt
after_from n from place (c ∷ cs) le h = (
  subst (All (IsBefore n place)) (sym (children-renamed (child_from from) c))
      (All-map (IsBefore n place) (child_from from) (children c)
      (λ k d lt. child_before n from place (slice_index_or (children c) k d) le
      (h.0 (slice_index_or (children c) k d) (All-contains_itself (children c) k d lt)))),
  after_from n from (suc place) cs le (subst (λ k. AreChildrenBelow k cs)
      (let e : suc (from + place) ≡ from + suc place = omega arith in e) h.1),
)

pub ordered_after : (n from : ℕ) (ns : List (Node Ref)) → from ≤ n → AreChildrenBelow from ns
    → AreAfter n 0 (drafted_from from ns)
ordered_after n from ns le h = after_from n from 0 ns le
    (subst (λ k. AreChildrenBelow k ns) (let e : from ≡ from + 0 = omega arith in e) h)
