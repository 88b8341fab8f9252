-- How deep the value of an operation nests.
use Rattle.std.proofs.Common.{◌≡◌, ℕ, ◌≤◌, ◌+◌, List, Bool, true, false, cond, Option, Some, None, option_map}
use Rattle.std.proofs.Common.{option_and_then, Ordering, Less, Equal, Greater, codes, arith, subst, bytes_eq}
use Rattle.std.specs.Prelude.{⊤}
use Rattle.std.specs.Ordering.{match_ordering}
use Rattle.serde_json.specs.Data.{Data, null, boolean, number, string, array, object, Items, Members, no_members}
use Rattle.serde_json.specs.Data.{member, depth, items_depth, members_depth}
use Rattle.serde_json.specs.Find.{get, get_member, as_array}
use Rattle.pull_patch.specs.Fields.{text_at, array_at}
use Rattle.pull_patch.specs.Operations.{Edit, put, del, clear, edit_of, put_of, del_of, edit_named}
use Rattle.pull_patch.specs.Writes.{of_one_key, write_edit}
use Rattle.pull_patch.specs.Inside.Parts.{edit_depth}

abbrev Below : ℕ → Option Data → Type 0
Below n None = ⊤
Below n (Some d) = depth d ≤ n

below_at : (o : Ordering) (n : ℕ) (a b c : Option Data) → Below n a → Below n b → Below n c
    → Below n (match_ordering o a b c)
below_at Less n a b c p q r = p
below_at Equal n a b c p q r = q
below_at Greater n a b c p q r = r

member_below : (k : List ℕ) (ms : Members) (n : ℕ) → members_depth ms ≤ n → Below n (get_member k ms)
member_below k no_members n h = tt
member_below k (member l e ms) n h = below_at _ n (get_member k ms) (Some e) (get_member k ms)
    (member_below k ms n (omega arith)) (omega arith) (member_below k ms n (omega arith))

field_below : (k : List ℕ) (d : Data) (n : ℕ) → depth d ≤ n + 1 → Below n (get k d)
field_below k null n h = tt
field_below k (boolean b) n h = tt
field_below k (number x) n h = tt
field_below k (string s) n h = tt
field_below k (array ds) n h = tt
field_below k (object ms) n h = member_below k ms n (omega arith)

abbrev Within : ℕ → Option Edit → Type 0
Within n None = ⊤
Within n (Some e) = edit_depth e ≤ n

put_within : (key : Option (List ℕ)) (v : Option Data) (n : ℕ) → Below n v
    → Within n (option_and_then (λ key. option_map (put key) v) key)
put_within None v n h = tt
put_within (Some key) None n h = tt
put_within (Some key) (Some d) n h = h

del_within : (key : Option (List ℕ)) (n : ℕ) → Within n (option_map del key)
del_within None n = tt
del_within (Some key) n = omega arith

cond_within : (b : Bool) (x y : Option Edit) (n : ℕ) → Within n x → Within n y → Within n (cond b x y)
cond_within true x y n p q = p
cond_within false x y n p q = q

named_within : (name : List ℕ) (d : Data) (n : ℕ) → depth d ≤ n + 1 → Within n (edit_named name d)
unfolding put_of del_of
named_within name d n h =
    cond_within (bytes_eq name (codes "put")) _ _ n
    (put_within (text_at (codes "key") d) (get (codes "value") d) n (field_below (codes "value") d n h))
    (cond_within (bytes_eq name (codes "del")) _ _ n (del_within (text_at (codes "key") d) n)
    (cond_within (bytes_eq name (codes "clear")) _ _ n (omega arith) tt))

then_within : (o : Option (List ℕ)) (f : List ℕ → Option Edit) (n : ℕ) → ((name : List ℕ) → Within n (f name))
    → Within n (option_and_then f o)
then_within None f n h = tt
then_within (Some name) f n h = h name

edit_of_within : (d : Data) (n : ℕ) → depth d ≤ n + 1 → Within n (edit_of d)
unfolding edit_of
edit_of_within d n h = then_within (text_at (codes "op") d) (λ name. edit_named name d) n
    (λ name. named_within name d n h)

pub edit_within : (d : Data) (e : Edit) (n : ℕ) → depth d ≤ n + 1 → edit_of d ≡ Some e → edit_depth e ≤ n
edit_within d e n h is = subst (Within n) is (edit_of_within d n h)

one_key_within : (o : Option Edit) (n : ℕ) → Within n o → Within n (option_and_then of_one_key o)
one_key_within None n h = tt
one_key_within (Some (put key d)) n h = h
one_key_within (Some (del key)) n h = h
one_key_within (Some clear) n h = tt

pub write_within : (d : Data) (e : Edit) (n : ℕ) → depth d ≤ n + 1 → write_edit d ≡ Some e → edit_depth e ≤ n
unfolding write_edit
write_within d e n h is = subst (Within n) is (one_key_within (edit_of d) n (edit_of_within d n h))

abbrev ItemsBelow : ℕ → Option Items → Type 0
ItemsBelow n None = ⊤
ItemsBelow n (Some ds) = items_depth ds ≤ n

as_array_below : (d : Data) (n : ℕ) → depth d ≤ n + 1 → ItemsBelow n (as_array d)
as_array_below null n h = tt
as_array_below (boolean b) n h = tt
as_array_below (number x) n h = tt
as_array_below (string s) n h = tt
as_array_below (array ds) n h = omega arith
as_array_below (object ms) n h = tt

then_array_below : (o : Option Data) (n : ℕ) → Below (n + 1) o → ItemsBelow n (option_and_then as_array o)
then_array_below None n h = tt
then_array_below (Some d) n h = as_array_below d n h

-- the items of an array
pub as_array-below : (d : Data) (ds : Items) (n : ℕ) → depth d ≤ n + 1 → as_array d ≡ Some ds → items_depth ds ≤ n
as_array-below d ds n h is = subst (ItemsBelow n) is (as_array_below d n h)

-- the items of a field that is an array
pub array_at-below : (name : List ℕ) (d : Data) (ds : Items) (n : ℕ) → depth d ≤ n + 1 + 1 → array_at name d ≡ Some ds
    → items_depth ds ≤ n
array_at-below name d ds n h is = subst (ItemsBelow n) is
    (then_array_below (get name d) n (field_below name d (n + 1) h))

pub field-within : (k : List ℕ) (d v : Data) (n : ℕ) → depth d ≤ n + 1 → get k d ≡ Some v → depth v ≤ n
field-within k d v n h is = subst (Below n) is (field_below k d n h)
