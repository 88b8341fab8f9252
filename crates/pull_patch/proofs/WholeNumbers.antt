-- NotWhole is told only where a number isn't whole.
use Rattle.std.proofs.Common.{◌≡◌, ◌^◌, ℕ, List, [], ◌∷◌, Bool, true, false, cond, nat_le, Option, Some, None}
use Rattle.std.proofs.Common.{option_map, option_and_then, Ok, Err, Ordering, Less, Equal, Greater, codes, refl}
use Rattle.std.proofs.Common.{bytes_eq}
use Rattle.std.specs.Prelude.{⊤, ok_or}
use Rattle.std.specs.Ordering.{match_ordering}
use Rattle.serde_json.specs.Data as tree
use Rattle.serde_json.specs.Data.{unsigned, negative, float, Data, null, boolean, string, array, object, Items}
use Rattle.serde_json.specs.Data.{no_items, item, Members, no_members, member}
use Rattle.serde_json.specs.Find.{get, get_member, as_str, as_array, as_object}
use Rattle.serde_json.specs.Written.{has_float, items_have_float, members_have_float, compact_text}
use Rattle.group_history.specs.declared.cookies.Order.{Order}
use Rattle.group_history.specs.declared.refusals.Refusal.TheVariants.{BadShape, NotWhole}
use Rattle.group_history.specs.declared.responses.Confirmed.{Confirmed}
use Rattle.group_history.specs.declared.responses.Patch.{Patch}
use Rattle.group_history.specs.declared.responses.Response.{Response}
use Rattle.group_history.specs.Answers.{◌>>=◌}
use Rattle.group_history.specs.Cookies.{Cookie, plain_order_of, order_of, cookie_of}
use Rattle.group_history.proofs.IdLemmas.{or_false}
use Rattle.pull_patch.specs.Fields.{text_at, array_at, object_at, each, items_list, members_list, ◌>>-◌}
use Rattle.pull_patch.specs.Operations.{Edit, put, del, clear, put_of, del_of, edit_named, edit_of, edits_of}
use Rattle.pull_patch.specs.Operations.{operation_of}
use Rattle.pull_patch.specs.Changes.{Entry, entry, id_of, entry_of, entries_of, confirmed_said}
use Rattle.pull_patch.specs.Grammar.{is_plain_order, has_plain_order, is_cookie, cookie_said, fields_of, pull_of}
use Rattle.pull_patch.specs.Grammar.{pull_response, error_named, error_of, by_error, response_of}
use Rattle.pull_patch.specs.Laws.{OnlyNumbersAreNotWhole}
use Rattle.pull_patch.proofs.Joins.{shape, said}
use Rattle.pull_patch.specs.Inside.Parts.{united}

-- ---- what is there has no float

abbrev WholeAt : Option Data → Type 0
WholeAt None = ⊤
WholeAt (Some d) = has_float d ≡ false

whole_by : (o : Ordering) (a b c : Option Data) → WholeAt a → WholeAt b → WholeAt c → WholeAt (match_ordering o a b c)
whole_by Less a b c p q r = p
whole_by Equal a b c p q r = q
whole_by Greater a b c p q r = r

member_whole : (k : List ℕ) (ms : Members) → members_have_float ms ≡ false → WholeAt (get_member k ms)
member_whole k no_members h = tt
member_whole k (member l e ms) h =
    let p = or_false (has_float e) (members_have_float ms) h in
    whole_by _ (get_member k ms) (Some e) (get_member k ms) (member_whole k ms p.1) p.0 (member_whole k ms p.1)

field_whole : (k : List ℕ) (d : Data) → has_float d ≡ false → WholeAt (get k d)
field_whole k null h = tt
field_whole k (boolean b) h = tt
field_whole k (tree.number n) h = tt
field_whole k (string s) h = tt
field_whole k (array ds) h = tt
field_whole k (object ms) h = member_whole k ms h

abbrev MembersWhole : Option Members → Type 0
MembersWhole None = ⊤
MembersWhole (Some ms) = members_have_float ms ≡ false

as_object_whole : (d : Data) → has_float d ≡ false → MembersWhole (as_object d)
as_object_whole null h = tt
as_object_whole (boolean b) h = tt
as_object_whole (tree.number n) h = tt
as_object_whole (string s) h = tt
as_object_whole (array ds) h = tt
as_object_whole (object ms) h = h

at_object : (o : Option Data) → WholeAt o → MembersWhole (option_and_then as_object o)
at_object None h = tt
at_object (Some d) h = as_object_whole d h

abbrev ItemsWhole : Option Items → Type 0
ItemsWhole None = ⊤
ItemsWhole (Some ds) = items_have_float ds ≡ false

as_array_whole : (d : Data) → has_float d ≡ false → ItemsWhole (as_array d)
as_array_whole null h = tt
as_array_whole (boolean b) h = tt
as_array_whole (tree.number n) h = tt
as_array_whole (string s) h = tt
as_array_whole (array ds) h = h
as_array_whole (object ms) h = tt

at_array : (o : Option Data) → WholeAt o → ItemsWhole (option_and_then as_array o)
at_array None h = tt
at_array (Some d) h = as_array_whole d h

-- ---- what is found in it

abbrev Found : {A : Type 0} → Option A → Type 0
Found None = ⊥
Found (Some x) = ⊤

-- f finds something in what is there
abbrev Finds : {A B : Type 0} → (A → Option B) → Option A → Type 0
Finds f None = ⊤
Finds f (Some x) = Found (f x)

map_found : {A B : Type 0} (f : A → B) (o : Option A) → Found o → Found (option_map f o)
map_found f None h = h
map_found f (Some x) h = tt

plain_found : (d : Data) → is_plain_order d ≡ true → has_float d ≡ false → Found (plain_order_of d)
plain_found null p h = absurd (cc)
plain_found (boolean b) p h = absurd (cc)
plain_found (tree.number (unsigned n)) p h = tt
plain_found (tree.number (negative z)) p h = tt
plain_found (tree.number (float x)) p h = absurd (cc)
plain_found (string s) p h = tt
plain_found (array ds) p h = absurd (cc)
plain_found (object ms) p h = absurd (cc)

member_order : (o : Option Data) → has_plain_order o ≡ true → WholeAt o → Found (option_and_then plain_order_of o)
member_order None p h = absurd (cc)
member_order (Some d) p h = plain_found d p h

order_found : (d : Data) → is_cookie d ≡ true → has_float d ≡ false → Found (order_of d)
order_found null p h = tt
order_found (boolean b) p h = absurd (cc)
order_found (tree.number n) p h = plain_found (tree.number n) refl h
order_found (string s) p h = tt
order_found (array ds) p h = absurd (cc)
order_found (object ms) p h = member_order (get_member (codes "order") ms) p (member_whole (codes "order") ms h)

-- a cookie of the right shape without a float is a cookie
cookie_found : (d : Data) → is_cookie d ≡ true → has_float d ≡ false → Found (cookie_of d)
unfolding cookie_of
cookie_found d p h = rw h (map_found {B = Cookie} (λ (o : Order). record { text = compact_text d; order = o })
    (order_of d) (order_found d p h))

cookie_finds : (o : Option Data) → WholeAt o → Finds cookie_of (option_and_then cookie_said o)
unfolding cookie_said
cookie_finds None h = tt
cookie_finds (Some d) h = elim (is_cookie d) as (λ b. is_cookie d ≡ b → Finds cookie_of (cond b (Some d) None)) [
  | true ↦ λ e. cookie_found d e h
  | false ↦ λ e. tt
] refl

id_found : (name : List ℕ) (b : Bool) (n : ℕ)
    → Finds confirmed_said (option_map (entry name) (cond b (Some (unsigned n)) None))
unfolding confirmed_said
id_found name true n = tt
id_found name false n = tt

entry_finds : (name : List ℕ) (d : Data) → has_float d ≡ false → Finds confirmed_said (entry_of (name, d))
unfolding entry_of id_of
entry_finds name null h = tt
entry_finds name (boolean b) h = tt
entry_finds name (tree.number (unsigned n)) h = id_found name (nat_le n (2 ^ 52)) n
entry_finds name (tree.number (negative z)) h = tt
entry_finds name (tree.number (float x)) h = absurd (cc)
entry_finds name (string s) h = tt
entry_finds name (array ds) h = tt
entry_finds name (object ms) h = tt

put_finds : (key : Option (List ℕ)) (o : Option Data) → WholeAt o
    → Finds operation_of (option_and_then (λ key. option_map (put key) o) key)
unfolding operation_of
put_finds None o h = tt
put_finds (Some key) None h = tt
put_finds (Some key) (Some d) h = rw h tt

del_finds : (key : Option (List ℕ)) → Finds operation_of (option_map del key)
unfolding operation_of
del_finds None = tt
del_finds (Some key) = tt

clear_finds : Finds operation_of (Some clear)
unfolding operation_of
clear_finds = tt

cond_finds : (b : Bool) (x y : Option Edit) → Finds operation_of x → Finds operation_of y
    → Finds operation_of (cond b x y)
cond_finds true x y p q = p
cond_finds false x y p q = q

named_finds : (name : List ℕ) (d : Data) → has_float d ≡ false → Finds operation_of (edit_named name d)
unfolding put_of del_of
named_finds name d h =
    cond_finds (bytes_eq name (codes "put")) _ _
    (put_finds (text_at (codes "key") d) (get (codes "value") d) (field_whole (codes "value") d h))
    (cond_finds (bytes_eq name (codes "del")) _ _ (del_finds (text_at (codes "key") d))
    (cond_finds (bytes_eq name (codes "clear")) _ _ clear_finds tt))

then_finds : (o : Option (List ℕ)) (f : List ℕ → Option Edit) → ((name : List ℕ) → Finds operation_of (f name))
    → Finds operation_of (option_and_then f o)
then_finds None f h = tt
then_finds (Some name) f h = h name

edit_finds : (d : Data) → has_float d ≡ false → Finds operation_of (edit_of d)
unfolding edit_of
edit_finds d h = then_finds (text_at (codes "op") d) (λ name. edit_named name d) (λ name. named_finds name d h)

-- ---- lists

abbrev AllFind : {A B C : Type 0} → (A → Option B) → (B → Option C) → List A → Type 0
AllFind g f [] = ⊤
AllFind g f (x ∷ xs) = Finds f (g x) × AllFind g f xs

both_found : {C : Type 0} (o : Option C) (p : Option (List C)) → Found o → Found p
    → Found (option_and_then (λ z. option_map (λ zs. z ∷ zs) p) o)
both_found None p h k = h
both_found (Some z) None h k = k
both_found (Some z) (Some zs) h k = tt

next_finds : {B C : Type 0} (f : B → Option C) (o : Option B) (p : Option (List B)) → Finds f o → Finds (each f) p
    → Finds (each f) (option_and_then (λ y. option_map (λ ys. y ∷ ys) p) o)
next_finds f None p h k = tt
next_finds f (Some y) None h k = tt
next_finds f (Some y) (Some ys) h k = both_found (f y) (each f ys) h k

each_finds : {A B C : Type 0} (g : A → Option B) (f : B → Option C) (xs : List A) → AllFind g f xs
    → Finds (each f) (each g xs)
each_finds g f [] h = tt
each_finds g f (x ∷ xs) h = next_finds f (g x) (each g xs) h.0 (each_finds g f xs h.1)

members_find : (ms : Members) → members_have_float ms ≡ false → AllFind entry_of confirmed_said (members_list ms)
members_find no_members h = tt
members_find (member name d ms) h =
    let p = or_false (has_float d) (members_have_float ms) h in (entry_finds name d p.0, members_find ms p.1)

changes_find : (o : Option Members) → MembersWhole o → Finds (each confirmed_said) (option_and_then entries_of o)
unfolding entries_of
changes_find None h = tt
changes_find (Some ms) h = each_finds entry_of confirmed_said (members_list ms) (members_find ms h)

items_find : (ds : Items) → items_have_float ds ≡ false → AllFind edit_of operation_of (items_list ds)
items_find no_items h = tt
items_find (item d ds) h =
    let p = or_false (has_float d) (items_have_float ds) h in (edit_finds d p.0, items_find ds p.1)

patch_finds : (o : Option Items) → ItemsWhole o → Finds (each operation_of) (option_and_then edits_of o)
unfolding edits_of
patch_finds None h = tt
patch_finds (Some ds) h = each_finds edit_of operation_of (items_list ds) (items_find ds h)

-- ---- the response

joined_found : (x : Option Cookie) (y : Option (List Confirmed)) (z : Option (List Patch)) → Found x → Found y → Found z
    → united x y z ≡ Err NotWhole → ⊥
joined_found None y z a b c e = a
joined_found (Some x) None z a b c e = b
joined_found (Some x) (Some y) None a b c e = c
joined_found (Some x) (Some y) (Some z) a b c e = cc

said_whole : (o : Option Data) (p : Option (List Entry)) (q : Option (List Edit)) → Finds cookie_of o
    → Finds (each confirmed_said) p → Finds (each operation_of) q → said (shape o p q) ≡ Err NotWhole → ⊥
unfolding pull_of
said_whole None p q a b c e = cc
said_whole (Some x) None q a b c e = cc
said_whole (Some x) (Some y) None a b c e = cc
said_whole (Some x) (Some y) (Some z) a b c e = joined_found (cookie_of x) (each confirmed_said y)
    (each operation_of z) a b c e

pull_whole : (d : Data) → has_float d ≡ false → pull_response d ≡ Err NotWhole → ⊥
unfolding pull_response fields_of
pull_whole d h e =
    said_whole (get (codes "cookie") d >>- cookie_said) (object_at (codes "lastMutationIDChanges") d >>- entries_of)
    (array_at (codes "patch") d >>- edits_of)
    (cookie_finds (get (codes "cookie") d) (field_whole (codes "cookie") d h))
    (changes_find (object_at (codes "lastMutationIDChanges") d)
    (at_object (get (codes "lastMutationIDChanges") d) (field_whole (codes "lastMutationIDChanges") d h)))
    (patch_finds (array_at (codes "patch") d) (at_array (get (codes "patch") d) (field_whole (codes "patch") d h)))
    e

by_tests : (a b : Bool) (x y : Response) → cond a (Ok x) (cond b (Ok y) (Err BadShape)) ≡ Err NotWhole → ⊥
by_tests true b x y e = cc
by_tests false true x y e = cc
by_tests false false x y e = cc

error_at : (o : Option (List ℕ)) (d : Data) → (ok_or o BadShape >>= λ name. error_named name d) ≡ Err NotWhole → ⊥
error_at None d e = cc
error_at (Some name) d e = by_tests (bytes_eq name (codes "ClientStateNotFound"))
    (bytes_eq name (codes "VersionNotSupported")) _ _ e

error_whole : (x d : Data) → error_of x d ≡ Err NotWhole → ⊥
unfolding error_of
error_whole x d e = error_at (as_str x) d e

either_whole : (o : Option Data) (d : Data) → has_float d ≡ false → by_error o d ≡ Err NotWhole → ⊥
either_whole None d h e = pull_whole d h e
either_whole (Some x) d h e = error_whole x d e

pub only_numbers : OnlyNumbersAreNotWhole
unfolding response_of
only_numbers d is = elim (has_float d) as (λ b. has_float d ≡ b → b ≡ true) [
  | true ↦ λ e. refl
  | false ↦ λ e. absurd (either_whole (get (codes "error") d) d e is)
] refl
