-- How a book grows.
use Rattle.std.proofs.Common.{◌≡◌, ℕ, zero, suc, ◌+◌, ◌<◌, ◌≤◌, ◌==◌, ◌&&◌, Bool, true, false, List, [], ◌∷◌, ◌++◌, map}
use Rattle.std.proofs.Common.{length, All, slice_index_or, refl, ap, sym, ◌∙◌, subst, arith}
use Rattle.std.proofs.Common.{append_assoc, length-append}
use Rattle.std.proofs.lemmas.List.{length-map}
use Rattle.std.proofs.lemmas.List.Elements.{All-map, All-append}
use Rattle.group_history.specs.declared.refs.Ref.{Ref}
use Rattle.group_history.specs.declared.nodes.Chunk.TheVariants.{Leaf, Inner}
use Rattle.group_history.specs.declared.nodes.CommitKind.{CommitKind}
use Rattle.group_history.specs.declared.nodes.CommitKind.TheVariants.{Snapshot, Over}
use Rattle.group_history.specs.declared.nodes.Node.{Node}
use Rattle.group_history.specs.declared.nodes.Node.TheVariants as node
use Rattle.group_history.specs.declared.nodes.Child.{Child}
use Rattle.group_history.specs.declared.nodes.Child.TheVariants.{Placed, Drafted}
use Rattle.group_history.specs.Map.{Bytes}
use Rattle.group_history.specs.Meaning.{Meanings}
use Rattle.group_history.specs.Naming.{children, commits_named, renamed, renamed_kind, child_stamp, drafted_content}
use Rattle.group_history.specs.Rows.{values_of}
use Rattle.group_history.specs.Spelling.{Contents, version_of, Spells}
use Rattle.group_history.specs.State.{State}
use Rattle.group_history.proofs.Spellings.{version-stays}
use Rattle.head_word.specs.declared.entry.Entry.{Entry}
use Rattle.head_word.specs.declared.entry.Entry.TheVariants as v
use Rattle.head_word.specs.Books.{drafted_contents, drawn, next_stamp, numbered, moved_from, record_of, seats_of}
use Rattle.head_word.specs.Books.{AreOrdered, AreRising, StartsOpened, IsBySeat, AreBySeats, IsBefore, AreAfter}

pub drawn_more : (xs ys : List Entry) → drawn (xs ++ ys) ≡ drawn xs ++ drawn ys
drawn_more [] ys = refl
drawn_more (v.Draft d ∷ xs) ys = ap (λ w. drafted_contents d.first d.contents ++ w) (drawn_more xs ys) ∙ sym
    (append_assoc (drafted_contents d.first d.contents) (drawn xs) (drawn ys))
drawn_more (v.Move m ∷ xs) ys = drawn_more xs ys
drawn_more (v.Opening o ∷ xs) ys = drawn_more xs ys

pub moved_more : (r : Ref) (xs ys : List Entry) → moved_from r (xs ++ ys) ≡ moved_from (moved_from r xs) ys
moved_more r [] ys = refl
moved_more r (v.Draft d ∷ xs) ys = moved_more r xs ys
moved_more r (v.Move m ∷ xs) ys = moved_more m.to xs ys
moved_more r (v.Opening o ∷ xs) ys = moved_more o.to xs ys

pub rising_more : (r : Ref) (xs ys : List Entry) → AreRising r xs → AreRising (moved_from r xs) ys
    → AreRising r (xs ++ ys)
rising_more r [] ys a b = b
rising_more r (v.Draft d ∷ xs) ys a b = rising_more r xs ys a b
rising_more r (v.Move m ∷ xs) ys a b = (a.0, rising_more m.to xs ys a.1 b)
rising_more r (v.Opening o ∷ xs) ys a b = (a.0, rising_more o.to xs ys a.1 b)

-- and what stands behind a beginning rises from where that went
pub rising_behind : (r : Ref) (xs ys : List Entry) → AreRising r (xs ++ ys) → AreRising (moved_from r xs) ys
rising_behind r [] ys a = a
rising_behind r (v.Draft d ∷ xs) ys a = rising_behind r xs ys a
rising_behind r (v.Move m ∷ xs) ys a = rising_behind m.to xs ys a.1
rising_behind r (v.Opening o ∷ xs) ys a = rising_behind o.to xs ys a.1

pub record_more : (xs ys : List Entry) → record_of (xs ++ ys) ≡ record_of xs ++ record_of ys
record_more [] ys = refl
record_more (v.Draft d ∷ xs) ys = record_more xs ys
record_more (v.Move m ∷ xs) ys = ap (λ w. m.change ∷ w) (record_more xs ys)
record_more (v.Opening o ∷ xs) ys = record_more xs ys

and_assoc : (a b c : Bool) → (a && (b && c)) ≡ ((a && b) && c)
and_assoc true b c = refl
and_assoc false b c = refl

pub length-drafted : (first : ℕ) (nodes : List (Node Child)) → length (drafted_contents first nodes) ≡ length nodes
length-drafted first nodes = length-map nodes (drafted_content first)

pub numbered_more : (n : ℕ) (xs ys : List Entry)
    → numbered n (xs ++ ys) ≡ (numbered n xs && numbered (n + length (drawn xs)) ys)
numbered_more n [] ys = ap (λ k. numbered k ys) (let e : n ≡ n + 0 = omega arith in e)
numbered_more n (v.Draft d ∷ xs) ys =
    let dc = drafted_contents d.first d.contents in
    let k : n + length d.contents + length (drawn xs)
    ≡ n + length (dc ++ drawn xs) = omega (arith, length-append dc (drawn xs), length-drafted d.first d.contents) in
    ap (λ b. (d.first == n) && b) (numbered_more (n + length d.contents) xs ys ∙ ap
    (λ k. numbered (n + length d.contents) xs && numbered k ys) k)
    ∙ and_assoc (d.first == n) (numbered (n + length d.contents) xs) (numbered (n + length (dc ++ drawn xs)) ys)
numbered_more n (v.Move m ∷ xs) ys = numbered_more n xs ys
numbered_more n (v.Opening o ∷ xs) ys = numbered_more n xs ys

pub ordered_more : (n : ℕ) (xs ys : Contents) → AreOrdered n xs → AreOrdered (n + length xs) ys
    → AreOrdered n (xs ++ ys)
ordered_more n [] ys a b = subst (λ k. AreOrdered k ys) (let e : n + 0 ≡ n = omega arith in e) b
ordered_more n (x ∷ xs) ys a b = (
  a.0,
  ordered_more (suc n) xs ys a.1
      (subst (λ k. AreOrdered k ys) (let e : n + suc (length xs) ≡ suc n + length xs = omega arith in e) b),
)

values-renamed : {A B : Type 0} (f : A → B) (kids : List (Bytes × A))
    → values_of (map (λ e. (e.0, f e.1)) kids) ≡ map f (values_of kids)
values-renamed f [] = refl
values-renamed f (k ∷ ks) = ap (λ w. f k.1 ∷ w) (values-renamed f ks)

named-renamed : {A B : Type 0} (f : A → B) (k : CommitKind A) → commits_named (renamed_kind f k)
    ≡ map f (commits_named k)
named-renamed f (Snapshot s) = refl
named-renamed f (Over o) = refl

children-renamed : {A B : Type 0} (f : A → B) (n : Node A) → children (renamed f n) ≡ map f (children n)
children-renamed f (node.Chunk (Leaf rows)) = refl
children-renamed f (node.Chunk (Inner kids)) = values-renamed f kids
children-renamed f (node.Commit c) = ap (λ w. f c.root ∷ w) (named-renamed f c.kind)

child_below : (n first place : ℕ) (c : Child) → n ≤ first → IsBefore n place c → child_stamp first c < first + place
child_below n first place (Placed at) le h = omega (arith, le, h)
child_below n first place (Drafted earlier) le h = omega (arith, h)

children_below : (n first place : ℕ) (cs : List Child) → n ≤ first → All (IsBefore n place) cs
    → All (λ k. k < first + place) (map (child_stamp first) cs)
children_below n first place cs le h = All-map (λ k. k < first + place) (child_stamp first) cs
    (λ k d lt. child_below n first place (slice_index_or cs k d) le (h k d lt))

-- nodes whose children were drawn, or stand earlier, become contents in order
pub drafted_ordered : (n first place : ℕ) (cs : List (Node Child)) → n ≤ first → AreAfter n place cs
    → AreOrdered (first + place) (drafted_contents first cs)
drafted_ordered n first place [] le h = tt
drafted_ordered n first place (c ∷ cs) le h = (
  subst (All (λ k. k < first + place)) (sym (children-renamed (child_stamp first) c))
      (children_below n first place (children c) le h.0),
  subst (λ k. AreOrdered k (drafted_contents first cs))
      (let e : first + suc place ≡ suc (first + place) = omega arith in e)
      (drafted_ordered n first (suc place) cs le h.1),
)

pub spells_more : (means : Meanings) (xs ys : List Entry) (stamp : ℕ) (s : State) → Spells means (drawn xs) stamp s
    → Spells means (drawn (xs ++ ys)) stamp s
spells_more means xs ys stamp s h = subst (λ w. Spells means w stamp s) (sym (drawn_more xs ys))
    (version-stays (drawn xs) (drawn ys) stamp (version_of means s) h)

one_of : {A : Type 0} (P : A → Type 0) (x : A) → P x → All P (x ∷ [])
one_of P x is zero d lt = is
one_of P x is (suc k) d lt = absurd (omega (arith, lt))

pub starts_more : (xs ys : List Entry) → StartsOpened xs → StartsOpened (xs ++ ys)
starts_more [] ys h = absurd cc
starts_more (x ∷ []) ys h = absurd cc
starts_more (x ∷ v.Draft d ∷ xs) ys h = absurd cc
starts_more (x ∷ v.Move m ∷ xs) ys h = absurd cc
starts_more (x ∷ v.Opening o ∷ xs) ys h = h

-- a book that is opened stays so for as many seats
pub seats_more : (xs ys : List Entry) → StartsOpened xs → seats_of (xs ++ ys) ≡ seats_of xs
seats_more [] ys h = absurd cc
seats_more (x ∷ []) ys h = absurd cc
seats_more (x ∷ v.Draft d ∷ xs) ys h = absurd cc
seats_more (x ∷ v.Move m ∷ xs) ys h = absurd cc
seats_more (x ∷ v.Opening o ∷ xs) ys h = refl

-- and an entry by one of its seats may be added
pub seats_added : (xs : List Entry) (e : Entry) → StartsOpened xs → AreBySeats (seats_of xs) xs
    → IsBySeat (seats_of xs) e → AreBySeats (seats_of (xs ++ e ∷ [])) (xs ++ e ∷ [])
seats_added [] e h all is = absurd cc
seats_added (x ∷ []) e h all is = absurd cc
seats_added (x ∷ v.Draft d ∷ xs) e h all is = absurd cc
seats_added (x ∷ v.Move m ∷ xs) e h all is = absurd cc
seats_added (x ∷ v.Opening o ∷ xs) e h all is = All-append (IsBySeat o.seats) xs (e ∷ []) all
    (one_of (IsBySeat o.seats) e is)

pub next_more : (xs ys : List Entry) → next_stamp (xs ++ ys) ≡ next_stamp xs + length (drawn ys)
next_more xs ys = ap length (drawn_more xs ys) ∙ length-append (drawn xs) (drawn ys)
