-- Items and members that grow at their end while they are copied.
use Rattle.std.proofs.Common.{◌≡◌, ℕ, List, [], ◌∷◌, ◌++◌, ◌&&◌, Bool, true, false, Option, Some, None, option_map}
use Rattle.std.proofs.Common.{option_and_then, Ordering, Less, Equal, Greater, refl, sym, ap, ap₂, ◌∙◌, append_assoc}
use Rattle.std.specs.Prelude.{⊤, ◌||◌}
use Rattle.std.specs.Ordering.{nat_cmp, ordering_reverse, is_lt}
use Rattle.std.proofs.lemmas.Bool.{and_parts}
use Rattle.std.specs.Cmp.Lexicographic.{slice_cmp}
use Rattle.std.proofs.lemmas.Cmp.{nat_list_cmp_total}
use Rattle.json.specs.Token.{Token}
use Rattle.json.specs.Json.{Json, Items, no_items, item, Members, no_members, member, parse_map}
use Rattle.json.specs.Tree.{json_tokens, items_tokens, members_tokens}
use Rattle.serde_json.specs.Data as data_of
use Rattle.serde_json.specs.Data.{Data, put}
use Rattle.serde_json.specs.Read.{of_items, of_members}
use Rattle.serde_json.specs.Written.{outline, members_outline, has_float, items_have_float, members_have_float}
use Rattle.pull_patch.specs.Inside.Copies.{IsPlainNumber, IsPlain, ItemsArePlain, MembersArePlain}

-- ---- items

abbrev pub items_joined : Items → Items → Items
items_joined no_items more = more
items_joined (item j js) more = item j (items_joined js more)

abbrev pub item_pushed : Items → Json → Items
item_pushed no_items j = item j no_items
item_pushed (item x js) j = item x (item_pushed js j)

-- the tokens with no closing bracket
abbrev pub items_front : Items → List Token
items_front no_items = []
items_front (item j js) = json_tokens j ++ items_front js

items_joined-push : (js : Items) (j : Json) (more : Items)
    → items_joined js (item j more) ≡ items_joined (item_pushed js j) more
items_joined-push no_items j more = refl
items_joined-push (item x js) j more = ap (item x) (items_joined-push js j more)

pub items_joined-none : (js : Items) → items_joined js no_items ≡ js
items_joined-none no_items = refl
items_joined-none (item x js) = ap (item x) (items_joined-none js)

items_front-push : (js : Items) (j : Json) → items_front (item_pushed js j) ≡ items_front js ++ json_tokens j
items_front-push no_items j = append-none (json_tokens j) where
  append-none : (ts : List Token) → ts ++ [] ≡ ts
  append-none [] = refl
  append-none (t ∷ ts) = ap (λ us. t ∷ us) (append-none ts)
items_front-push (item x js) j = ap (λ ts. json_tokens x ++ ts) (items_front-push js j) ∙ sym
    (append_assoc (json_tokens x) (items_front js) (json_tokens j))

pub items_front-closed : (js : Items) → items_front js ++ Token.end_array ∷ [] ≡ items_tokens js
items_front-closed no_items = refl
items_front-closed (item x js) = append_assoc (json_tokens x) (items_front js) (Token.end_array ∷ []) ∙ ap
    (λ ts. json_tokens x ++ ts) (items_front-closed js)

abbrev pub AllPlain : Items → Type 0
AllPlain no_items = ⊤
AllPlain (item j js) = IsPlain j × AllPlain js

AllPlain-push : (js : Items) (j : Json) → AllPlain js → IsPlain j → AllPlain (item_pushed js j)
AllPlain-push no_items j h k = (k, tt)
AllPlain-push (item x js) j h k = (h.0, AllPlain-push js j h.1 k)

or_both : (a b : Bool) → a ≡ false → b ≡ false → (a || b) ≡ false
or_both true b h k = h
or_both false b h k = k

pub ItemsArePlain-all : (js : Items) → AllPlain js → ItemsArePlain js
ItemsArePlain-all no_items h = record { tree = data_of.no_items; reads = refl; same = refl; whole = refl }
ItemsArePlain-all (item j js) h =
    let first = h.0 in
    let rest = ItemsArePlain-all js h.1 in record {
      tree = data_of.item first.tree rest.tree;
      reads = ap (option_and_then (λ d. option_map (data_of.item d) (of_items js))) first.reads ∙ ap
          (option_map (data_of.item first.tree)) rest.reads;
      same = ap₂ item first.same rest.same;
      whole = or_both (has_float first.tree) (items_have_float rest.tree) first.whole rest.whole;
    }

pub IsPlain-array : (js : Items) → ItemsArePlain js → IsPlain (Json.array js)
IsPlain-array js h = record {
  tree = data_of.array h.tree;
  reads = ap (option_map data_of.array) h.reads;
  same = ap Json.array h.same;
  whole = h.whole;
}

-- ---- members

abbrev pub members_joined : Members → Members → Members
members_joined no_members more = more
members_joined (member k j ms) more = member k j (members_joined ms more)

abbrev pub member_pushed : Members → List ℕ → Json → Members
member_pushed no_members k j = member k j no_members
member_pushed (member l x ms) k j = member l x (member_pushed ms k j)

abbrev pub members_front : Members → List Token
members_front no_members = []
members_front (member k j ms) = Token.key k ∷ (json_tokens j ++ members_front ms)

members_joined-push : (ms : Members) (k : List ℕ) (j : Json) (more : Members)
    → members_joined ms (member k j more) ≡ members_joined (member_pushed ms k j) more
members_joined-push no_members k j more = refl
members_joined-push (member l x ms) k j more = ap (member l x) (members_joined-push ms k j more)

pub members_joined-none : (ms : Members) → members_joined ms no_members ≡ ms
members_joined-none no_members = refl
members_joined-none (member l x ms) = ap (member l x) (members_joined-none ms)

members_front-push : (ms : Members) (k : List ℕ) (j : Json)
    → members_front (member_pushed ms k j) ≡ members_front ms ++ Token.key k ∷ json_tokens j
members_front-push no_members k j = ap (λ ts. Token.key k ∷ ts) (append-none (json_tokens j)) where
  append-none : (ts : List Token) → ts ++ [] ≡ ts
  append-none [] = refl
  append-none (t ∷ ts) = ap (λ us. t ∷ us) (append-none ts)
members_front-push (member l x ms) k j =
    ap (λ ts. Token.key l ∷ (json_tokens x ++ ts)) (members_front-push ms k j) ∙ ap (λ ts. Token.key l ∷ ts)
    (sym (append_assoc (json_tokens x) (members_front ms) (Token.key k ∷ json_tokens j)))

pub members_front-closed : (ms : Members) → members_front ms ++ Token.end_object ∷ [] ≡ members_tokens ms
members_front-closed no_members = refl
members_front-closed (member l x ms) = ap (λ ts. Token.key l ∷ ts)
    (append_assoc (json_tokens x) (members_front ms) (Token.end_object ∷ []) ∙ ap (λ ts. json_tokens x ++ ts)
    (members_front-closed ms))

-- the name is after all names
abbrev pub IsAfter : List ℕ → data_of.Members → Type 0
IsAfter k data_of.no_members = ⊤
IsAfter k (data_of.member l d ms) = (slice_cmp nat_cmp k l ≡ Greater) × IsAfter k ms

abbrev put_last : data_of.Members → List ℕ → Data → data_of.Members
put_last data_of.no_members k d = data_of.member k d data_of.no_members
put_last (data_of.member l e ms) k d = data_of.member l e (put_last ms k d)

put-after : (ms : data_of.Members) (k : List ℕ) (d : Data) → IsAfter k ms → put k d ms ≡ put_last ms k d
put-after data_of.no_members k d h = refl
put-after (data_of.member l e ms) k d h = rw h.0 (ap (data_of.member l e) (put-after ms k d h.1))

IsAfter-put_last : (n k : List ℕ) (d : Data) (ms : data_of.Members) → IsAfter n ms → slice_cmp nat_cmp n k ≡ Greater
    → IsAfter n (put_last ms k d)
IsAfter-put_last n k d data_of.no_members h g = (g, tt)
IsAfter-put_last n k d (data_of.member l e ms) h g = (h.0, IsAfter-put_last n k d ms h.1 g)

outline-put_last : (ms : data_of.Members) (k : List ℕ) (d : Data)
    → members_outline (put_last ms k d) ≡ member_pushed (members_outline ms) k (outline d)
outline-put_last data_of.no_members k d = refl
outline-put_last (data_of.member l e ms) k d = ap (member l (outline e)) (outline-put_last ms k d)

or_split : (a b : Bool) → (a || b) ≡ false → (a ≡ false) × (b ≡ false)
or_split true b h = absurd (cc)
or_split false b h = (refl, h)

whole-put_last : (ms : data_of.Members) (k : List ℕ) (d : Data) → members_have_float ms ≡ false → has_float d ≡ false
    → members_have_float (put_last ms k d) ≡ false
whole-put_last data_of.no_members k d h g = or_both (has_float d) false g refl
whole-put_last (data_of.member l e ms) k d h g =
    let p = or_split (has_float e) (members_have_float ms) h in
    or_both (has_float e) (members_have_float (put_last ms k d)) p.0 (whole-put_last ms k d p.1 g)

-- the members up to the name `last` are plain, and their names ascend
pub record PlainUpTo (last : List ℕ) (done : Members) : Type 0 where
  pub tree : data_of.Members
  pub reads : (more : Members) → of_members (members_joined done more) data_of.no_members ≡ of_members more tree
  pub same : members_outline tree ≡ done
  pub whole : members_have_float tree ≡ false
  pub after : (k : List ℕ) → slice_cmp nat_cmp last k ≡ Less → IsAfter k tree

pub PlainUpTo-none : PlainUpTo [] no_members
PlainUpTo-none = record {
  tree = data_of.no_members;
  reads = λ more. refl;
  same = refl;
  whole = refl;
  after = λ k h. tt;
}

PlainUpTo-push : (last k : List ℕ) (done : Members) (j : Json) → PlainUpTo last done → IsPlain j
    → slice_cmp nat_cmp last k ≡ Less → PlainUpTo k (member_pushed done k j)
PlainUpTo-push last k done j h p less =
    let ascends = put-after h.tree k p.tree (h.after k less) in record {
      tree = put_last h.tree k p.tree;
      reads = λ more. ap (λ ms. of_members ms data_of.no_members) (sym (members_joined-push done k j more)) ∙ h.reads
          (member k j more)
          ∙ ap (option_and_then (λ d. of_members more (put k d h.tree))) p.reads ∙ ap (of_members more) ascends;
      same = outline-put_last h.tree k p.tree ∙ ap₂ (λ ms x. member_pushed ms k x) h.same p.same;
      whole = whole-put_last h.tree k p.tree h.whole p.whole;
      after = λ n later.
          IsAfter-put_last n k p.tree h.tree (h.after n (nat_list_cmp_total.trans last k n less later))
          (nat_list_cmp_total.antisymm n k ∙ ap ordering_reverse later);
    }

pub MembersArePlain-all : (last : List ℕ) (ms : Members) → PlainUpTo last ms → MembersArePlain ms
MembersArePlain-all last ms h = record {
  tree = h.tree;
  reads = ap (λ xs. of_members xs data_of.no_members) (sym (members_joined-none ms)) ∙ h.reads no_members;
  same = h.same;
  whole = h.whole;
}

pub IsPlain-object : (ms : Members) → MembersArePlain ms → IsPlain (Json.object ms)
IsPlain-object ms h = record {
  tree = data_of.object h.tree;
  reads = ap (option_map data_of.object) h.reads;
  same = ap Json.object h.same;
  whole = h.whole;
}

-- ---- single values

pub IsPlain-null : IsPlain Json.null
IsPlain-null = record { tree = data_of.null; reads = refl; same = refl; whole = refl }

pub IsPlain-boolean : (b : Bool) → IsPlain (Json.boolean b)
IsPlain-boolean b = record { tree = data_of.boolean b; reads = refl; same = refl; whole = refl }

pub IsPlain-string : (s : List ℕ) → IsPlain (Json.string s)
IsPlain-string s = record { tree = data_of.string s; reads = refl; same = refl; whole = refl }

pub IsPlain-number : (s : List ℕ) → IsPlainNumber s → IsPlain (Json.number s)
IsPlain-number s h = record {
  tree = data_of.number h.num;
  reads = ap (option_map data_of.number) h.reads;
  same = ap Json.number h.same;
  whole = h.whole;
}

-- ---- a turn of each loop

pub items_unjoined : (r : Option (Items × List Token)) → r ≡ parse_map (items_joined no_items) r
items_unjoined None = refl
items_unjoined (Some p) = refl

items_more_joined : (done : Items) (j : Json) (r : Option (Items × List Token))
    → parse_map (items_joined done) (parse_map (item j) r) ≡ parse_map (items_joined (item_pushed done j)) r
items_more_joined done j None = refl
items_more_joined done j (Some p) = ap (λ js. Some (js, p.1)) (items_joined-push done j p.0)

pub items_turn : (done : Items) (j : Json) (whole now next : Option (Items × List Token))
    → whole ≡ parse_map (items_joined done) now → now ≡ parse_map (item j) next
    → whole ≡ parse_map (items_joined (item_pushed done j)) next
items_turn done j whole now next e turn = e ∙ ap (parse_map (items_joined done)) turn ∙ items_more_joined done j next

pub items_written : (done : Items) (j : Json) (start now next : List Token) → now ≡ start ++ items_front done
    → next ≡ now ++ json_tokens j → next ≡ start ++ items_front (item_pushed done j)
items_written done j start now next e more =
    more ∙ ap (λ ts. ts ++ json_tokens j) e ∙ append_assoc start (items_front done) (json_tokens j) ∙ ap
    (λ ts. start ++ ts) (sym (items_front-push done j))

pub items_plain : (done : Items) (j : Json) (a b : Bool) → (a ≡ true → AllPlain done) → (b ≡ true → IsPlain j)
    → (a && b) ≡ true → AllPlain (item_pushed done j)
items_plain done j a b h k e = let both = and_parts a b e in AllPlain-push done j (h both.0) (k both.1)

pub members_unjoined : (r : Option (Members × List Token)) → r ≡ parse_map (members_joined no_members) r
members_unjoined None = refl
members_unjoined (Some p) = refl

members_more_joined : (done : Members) (k : List ℕ) (j : Json) (r : Option (Members × List Token))
    → parse_map (members_joined done) (parse_map (member k j) r) ≡ parse_map (members_joined (member_pushed done k j)) r
members_more_joined done k j None = refl
members_more_joined done k j (Some p) = ap (λ ms. Some (ms, p.1)) (members_joined-push done k j p.0)

pub members_turn : (done : Members) (k : List ℕ) (j : Json) (whole now next : Option (Members × List Token))
    → whole ≡ parse_map (members_joined done) now → now ≡ parse_map (member k j) next
    → whole ≡ parse_map (members_joined (member_pushed done k j)) next
members_turn done k j whole now next e turn = e ∙ ap
    (parse_map (members_joined done)) turn ∙ members_more_joined done k j next

pub members_written : (done : Members) (k : List ℕ) (j : Json) (start now named next : List Token)
    → now ≡ start ++ members_front done → named ≡ now ++ Token.key k ∷ [] → next ≡ named ++ json_tokens j
    → next ≡ start ++ members_front (member_pushed done k j)
members_written done k j start now named next e name more =
    more ∙ ap (λ ts. ts ++ json_tokens j) (name ∙ ap (λ ts. ts ++ Token.key k ∷ []) e) ∙ append_assoc
    (start ++ members_front done) (Token.key k ∷ []) (json_tokens j)
    ∙ append_assoc start (members_front done) (Token.key k ∷ json_tokens j) ∙ ap (λ ts. start ++ ts)
    (sym (members_front-push done k j))

is_less : (o : Ordering) → is_lt o ≡ true → o ≡ Less
is_less Less e = refl
is_less Equal e = absurd (cc)
is_less Greater e = absurd (cc)

pub members_plain : (last k : List ℕ) (done : Members) (j : Json) (a b c : Bool) → (a ≡ true → PlainUpTo last done)
    → (b ≡ true → IsPlain j) → c ≡ is_lt (slice_cmp nat_cmp last k) → ((a && b) && c) ≡ true
    → PlainUpTo k (member_pushed done k j)
members_plain last k done j a b c h i ascends e =
    let outer = and_parts (a && b) c e in
    let both = and_parts a b outer.0 in
    PlainUpTo-push last k done j (h both.0) (i both.1) (is_less _ (sym ascends ∙ outer.1))
