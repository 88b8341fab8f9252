-- Operations that are found one after another.
use Rattle.std.proofs.Common.{◌≡◌, ◌≢◌, ℕ, List, [], ◌∷◌, ◌++◌, true, false, Bor, Option, Some, None, option_map}
use Rattle.std.proofs.Common.{option_and_then, codes, bytes_eq, true≢false, refl, sym, ap, ◌∙◌, subst, IfSome}
use Rattle.std.proofs.lemmas.Slice.Eq.{bytes_eq-Decides}
use Rattle.json.specs.Token.{Token}
use Rattle.json.specs.Json.{parse_map}
use Rattle.serde_json.specs.Data.{Data, string, object, Items, no_items, item, Members, put}
use Rattle.serde_json.specs.Find.{get_member, as_str}
use Rattle.serde_json.proofs.Views.{get_member-put, get_member-put_other}
use Rattle.group_history.specs.declared.responses.Patch.{Patch}
use Rattle.group_history.specs.declared.responses.Patch.TheVariants as patch
use Rattle.group_history.specs.Cookies.{whole_text}
use Rattle.pull_patch.specs.declared.plain.puts.OperationParts.{OperationParts}
use Rattle.pull_patch.specs.Fields.{each, items_list}
use Rattle.pull_patch.specs.Operations as operations
use Rattle.pull_patch.specs.Operations.{edit_of, edits_of, put_of, del_of, edit_named, operation_of}
use Rattle.pull_patch.proofs.Eaches.{each-append}
use Rattle.pull_patch.specs.Inside.Plain.{IsText, IsValue, IsFoundIn, IsOperation, ArePatch}

-- ---- the fields of an operation

pub names_differ : (a b : List ℕ) → bytes_eq a b ≡ false → a ≢ b
names_differ a b test same = true≢false (sym ((bytes_eq-Decides a b).1 same) ∙ test)

pub names_same : (a b : List ℕ) → bytes_eq a b ≡ true → a ≡ b
names_same a b test = (bytes_eq-Decides a b).0 test

pub kept : (q k : List ℕ) (d e : Data) (ms : Members) → q ≢ k → get_member q ms ≡ Some e
    → get_member q (put k d ms) ≡ Some e
kept q k d e ms other is = get_member-put_other q k d ms other ∙ is

text_kept : (q k : List ℕ) (d : Data) (ms : Members) → q ≢ k → (o : Option (Bor (List ℕ)))
    → IfSome o (λ s. IsText q ms s.now) → IfSome o (λ s. IsText q (put k d ms) s.now)
text_kept q k d ms other None h = tt
text_kept q k d ms other (Some s) h = record { at = kept q k d (string s.now) ms other h.at }

value_kept : (k : List ℕ) (d : Data) (ms : Members) → codes "value" ≢ k → (o : Option (List ℕ))
    → IfSome o (λ t. IsValue ms t) → IfSome o (λ t. IsValue (put k d ms) t)
value_kept k d ms other None h = tt
value_kept k d ms other (Some t) h = record {
  tree = h.tree;
  at = kept (codes "value") k d h.tree ms other h.at;
  whole = h.whole;
}

pub found_op : (f : OperationParts) (s : Bor (List ℕ)) (name : List ℕ) (ms : Members)
    → bytes_eq name (codes "op") ≡ true
    → IsFoundIn f ms → IsFoundIn (record f { op = Some s }) (put name (string s.now) ms)
found_op f s name ms test h =
    subst (λ (k : List ℕ). IsFoundIn (record f { op = Some s }) (put k (string s.now) ms))
    (sym (names_same name (codes "op") test)) record {
      op = record { at = get_member-put (codes "op") (string s.now) ms };
      key = text_kept (codes "key") (codes "op") (string s.now) ms
          (names_differ (codes "key") (codes "op") refl) f.key h.key;
      value = value_kept (codes "op") (string s.now) ms
          (names_differ (codes "value") (codes "op") refl) f.value h.value;
    }

pub found_key : (f : OperationParts) (s : Bor (List ℕ)) (name : List ℕ) (ms : Members)
    → bytes_eq name (codes "key") ≡ true
    → IsFoundIn f ms → IsFoundIn (record f { key = Some s }) (put name (string s.now) ms)
found_key f s name ms test h =
    subst (λ (k : List ℕ). IsFoundIn (record f { key = Some s }) (put k (string s.now) ms))
    (sym (names_same name (codes "key") test)) record {
      op = text_kept (codes "op") (codes "key") (string s.now) ms
          (names_differ (codes "op") (codes "key") refl) f.op h.op;
      key = record { at = get_member-put (codes "key") (string s.now) ms };
      value = value_kept (codes "key") (string s.now) ms
          (names_differ (codes "value") (codes "key") refl) f.value h.value;
    }

pub found_value : (f : OperationParts) (t : List ℕ) (d : Data) (name : List ℕ) (ms : Members)
    → bytes_eq name (codes "value") ≡ true → whole_text d ≡ Some t → IsFoundIn f ms
    → IsFoundIn (record f { value = Some t }) (put name d ms)
found_value f t d name ms test is h =
    subst (λ (k : List ℕ). IsFoundIn (record f { value = Some t }) (put k d ms))
    (sym (names_same name (codes "value") test)) record {
      op = text_kept (codes "op") (codes "value") d ms (names_differ (codes "op") (codes "value") refl) f.op h.op;
      key = text_kept (codes "key") (codes "value") d ms (names_differ (codes "key") (codes "value") refl) f.key h.key;
      value = record { tree = d; at = get_member-put (codes "value") d ms; whole = is };
    }

pub other_way : (a b : List ℕ) → bytes_eq a b ≡ false → b ≢ a
other_way a b test same = names_differ a b test (sym same)

pub found_other : (f : OperationParts) (d : Data) (name : List ℕ) (ms : Members) → bytes_eq name (codes "op") ≡ false
    → bytes_eq name (codes "key") ≡ false → bytes_eq name (codes "value") ≡ false → IsFoundIn f ms
    → IsFoundIn f (put name d ms)
found_other f d name ms op key value h = record {
  op = text_kept (codes "op") name d ms (other_way name (codes "op") op) f.op h.op;
  key = text_kept (codes "key") name d ms (other_way name (codes "key") key) f.key h.key;
  value = value_kept name d ms (other_way name (codes "value") value) f.value h.value;
}

-- ---- an operation

named : (ms : Members) (name : List ℕ) → IsText (codes "op") ms name → edit_of (object ms) ≡ edit_named name (object ms)
unfolding edit_of
named ms name h = ap (λ o. option_and_then (λ n. edit_named n (object ms)) (option_and_then as_str o)) h.at

pub IsOperation-clear : (ms : Members) (name : List ℕ) → IsText (codes "op") ms name
    → bytes_eq name (codes "clear") ≡ true → IsOperation (object ms) patch.Clear
unfolding operation_of
IsOperation-clear ms name op test =
    let h = subst (λ (n : List ℕ). IsText (codes "op") ms n) (names_same name (codes "clear") test) op in
    record { edit = operations.clear; shape = named ms (codes "clear") h; says = refl }

pub IsOperation-del : (ms : Members) (name key : List ℕ) → IsText (codes "op") ms name
    → bytes_eq name (codes "del") ≡ true → IsText (codes "key") ms key → IsOperation (object ms) (patch.Del key)
unfolding operation_of del_of
IsOperation-del ms name key op test k =
    let h = subst (λ (n : List ℕ). IsText (codes "op") ms n) (names_same name (codes "del") test) op in
    record {
      edit = operations.del key;
      shape = named ms (codes "del") h ∙ ap
          (λ o. option_map operations.del (option_and_then as_str o)) k.at;
      says = refl;
    }

pub IsOperation-put : (ms : Members) (name key text : List ℕ) → IsText (codes "op") ms name
    → bytes_eq name (codes "put") ≡ true → IsText (codes "key") ms key → IsValue ms text
    → IsOperation (object ms) (patch.Put key text)
unfolding operation_of put_of
IsOperation-put ms name key text op test k v =
    let h = subst (λ (n : List ℕ). IsText (codes "op") ms n) (names_same name (codes "put") test) op in record {
      edit = operations.put key v.tree;
      shape = named ms (codes "put") h ∙ ap (λ o. option_and_then
          (λ x. option_map (operations.put x) (get_member (codes "value") ms)) (option_and_then as_str o)) k.at
          ∙ ap (option_map (operations.put key)) v.at;
      says = ap (option_map (patch.Put key)) v.whole;
    }

-- ---- operations

abbrev pub joined : Items → Items → Items
joined no_items more = more
joined (item d ds) more = item d (joined ds more)

abbrev pub pushed : Items → Data → Items
pushed no_items d = item d no_items
pushed (item x ds) d = item x (pushed ds d)

joined-push : (ds : Items) (d : Data) (more : Items) → joined ds (item d more) ≡ joined (pushed ds d) more
joined-push no_items d more = refl
joined-push (item x ds) d more = ap (item x) (joined-push ds d more)

pub joined-none : (ds : Items) → joined ds no_items ≡ ds
joined-none no_items = refl
joined-none (item x ds) = ap (item x) (joined-none ds)

pub unjoined : (r : Option (Items × List Token)) → r ≡ parse_map (joined no_items) r
unjoined None = refl
unjoined (Some p) = refl

more_joined : (done : Items) (d : Data) (r : Option (Items × List Token))
    → parse_map (joined done) (parse_map (item d) r) ≡ parse_map (joined (pushed done d)) r
more_joined done d None = refl
more_joined done d (Some p) = ap (λ ds. Some (ds, p.1)) (joined-push done d p.0)

pub turn : (done : Items) (d : Data) (whole now next : Option (Items × List Token))
    → whole ≡ parse_map (joined done) now → now ≡ parse_map (item d) next
    → whole ≡ parse_map (joined (pushed done d)) next
turn done d whole now next e more = e ∙ ap (parse_map (joined done)) more ∙ more_joined done d next

items_list-push : (ds : Items) (d : Data) → items_list (pushed ds d) ≡ items_list ds ++ d ∷ []
items_list-push no_items d = refl
items_list-push (item x ds) d = ap (λ xs. x ∷ xs) (items_list-push ds d)

each-push : {A B : Type 0} (f : A → Option B) (xs : List A) (ys : List B) (a : A) (b : B) → each f xs ≡ Some ys
    → f a ≡ Some b → each f (xs ++ a ∷ []) ≡ Some (ys ++ b ∷ [])
each-push f xs ys a b h is = each-append f xs (a ∷ []) ∙ ap
    (λ o. option_and_then (λ u. option_map (λ v. u ++ v) (each f (a ∷ []))) o) h ∙ ap
    (λ o. option_map (λ v. ys ++ v) (option_and_then (λ y. Some (y ∷ [])) o)) is

pub ArePatch-none : ArePatch no_items []
unfolding edits_of
ArePatch-none = record { edits = []; shape = refl; say = refl }

pub ArePatch-push : (ds : Items) (ps : List Patch) (d : Data) (p : Patch) → ArePatch ds ps → IsOperation d p
    → ArePatch (pushed ds d) (ps ++ p ∷ [])
unfolding edits_of
ArePatch-push ds ps d p h o = record {
  edits = h.edits ++ o.edit ∷ [];
  shape = ap (each edit_of) (items_list-push ds d) ∙ each-push edit_of (items_list ds) h.edits d o.edit h.shape o.shape;
  say = each-push operation_of h.edits ps o.edit p h.say o.says;
}
