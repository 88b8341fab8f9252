-- A value that was read is read again from its compact text.
use Rattle.std.proofs.Common.{◌≡◌, ℕ, zero, suc, ◌<◌, ◌≤◌, ◌^◌, ◌&&◌, ◌==◌, nat_lt, nat_le, slice_index, drop, max, pos}
use Rattle.std.proofs.Common.{neg_ℤ, negsuc, List, [], Bool, true, false, cond, true≢false, Option, Some, None, IfSome}
use Rattle.std.proofs.Common.{option_map, option_and_then, Ordering, Less, Equal, Greater, refl, sym, ap, ap₂, ◌∙◌}
use Rattle.std.proofs.Common.{subst, arith, append-nil, ltb-true}
use Rattle.std.specs.Prelude.{⊤}
use Rattle.std.specs.Float.{binary64, float_is_finite}
use Rattle.std.specs.Float.Numeral.{minus, Parts, numeral_digits, nearest_float, scan_numeral}
use Rattle.std.specs.Fmt.{signed_decimal}
use Rattle.std.specs.Ordering.{match_ordering}
use Rattle.std.proofs.lemmas.Bool.{and_parts, or_parts, leb-true}
use Rattle.json.specs.Json as json
use Rattle.json.specs.Json.{if_last, value}
use Rattle.json.specs.Lex.{tokens}
use Rattle.json.specs.Print.{IsNumber}
use Rattle.json.specs.Token.{Token}
use Rattle.json.specs.Tree as tree
use Rattle.json.specs.Tree.{json_tokens, HasNumbers, ItemsHaveNumbers, MembersHaveNumbers}
use Rattle.json.proofs.Printed.Decimals.{IsNumber-decimal, IsNumber-signed_decimal}
use Rattle.json.proofs.Printed.Tokens.{tokens-print}
use Rattle.json.proofs.Printed.Trees.{value-json_tokens, ArePrintable-json_tokens}
use Rattle.serde_json.specs.Data.{Num, unsigned, negative, float, Data, null, boolean, number, string, array, object}
use Rattle.serde_json.specs.Data.{Items, no_items, item, Members, no_members, member, put, depth, items_depth}
use Rattle.serde_json.specs.Data.{members_depth}
use Rattle.serde_json.specs.Find.{is_float}
use Rattle.serde_json.specs.Read.{number_of, is_integer, number_from, float_of, of_json, of_items, of_members, read}
use Rattle.serde_json.specs.Read.{max_depth}
use Rattle.serde_json.specs.Written.{number_text, outline, items_outline, members_outline, has_float, items_have_float}
use Rattle.serde_json.specs.Written.{members_have_float, compact_text}
use Rattle.serde_json.proofs.Texts.{print-outline}

IfSome-map : {A B : Type 0} (P : A → Type 0) (Q : B → Type 0) (h : A → B) → ((a : A) → P a → Q (h a)) → (o : Option A)
    → IfSome o P → IfSome (option_map h o) Q
IfSome-map P Q h k None x = tt
IfSome-map P Q h k (Some a) x = k a x

IfSome-and_then : {A B : Type 0} (P : A → Type 0) (Q : B → Type 0) (h : A → Option B) → ((a : A) → P a → IfSome (h a) Q)
    → (o : Option A) → IfSome o P → IfSome (option_and_then h o) Q
IfSome-and_then P Q h k None x = tt
IfSome-and_then P Q h k (Some a) x = k a x

IfSome-after : {A B : Type 0} (Q : B → Type 0) (h : A → Option B) → ((a : A) → IfSome (h a) Q) → (o : Option A)
    → IfSome (option_and_then h o) Q
IfSome-after Q h k None = tt
IfSome-after Q h k (Some a) = k a

IfSome-cond : {A : Type 0} (P : A → Type 0) (b : Bool) (x y : Option A) → (b ≡ true → IfSome x P) → IfSome y P
    → IfSome (cond b x y) P
IfSome-cond P true x y p q = p refl
IfSome-cond P false x y p q = q

-- ---- each number that was read has a number's text, unless it is a float

abbrev IsNumbered : Num → Type 0
IsNumbered n = is_float n ≡ false → IsNumber (number_text n)

abbrev mutual
  AreNumbered : Data → Type 0
  AreNumbered null = ⊤
  AreNumbered (boolean b) = ⊤
  AreNumbered (number n) = IsNumbered n
  AreNumbered (string s) = ⊤
  AreNumbered (array ds) = ItemsAreNumbered ds
  AreNumbered (object ms) = MembersAreNumbered ms

  ItemsAreNumbered : Items → Type 0
  ItemsAreNumbered no_items = ⊤
  ItemsAreNumbered (item d ds) = AreNumbered d × ItemsAreNumbered ds

  MembersAreNumbered : Members → Type 0
  MembersAreNumbered no_members = ⊤
  MembersAreNumbered (member k d ms) = AreNumbered d × MembersAreNumbered ms

negative-numbered : (n : ℕ) → 0 < n → n ≤ 2 ^ 63 → IsNumber (signed_decimal (neg_ℤ (pos n)))
negative-numbered zero some fits = absurd (omega arith)
negative-numbered (suc n) some fits = IsNumber-signed_decimal (negsuc n) (omega arith)

numbered-float_of : (sign : Bool) (p : Parts) → IfSome (float_of sign p) IsNumbered
numbered-float_of sign p =
    let x = nearest_float binary64 sign p in
    IfSome-cond IsNumbered (float_is_finite x) (Some (float x)) None (λ e h. absurd (true≢false h)) tt

numbered-number_from : (sign : Bool) (p : Parts) → IfSome (number_from sign p) IsNumbered
numbered-number_from false p =
    let n = numeral_digits p in
    IfSome-cond IsNumbered (is_integer p && nat_lt n (2 ^ 64)) (Some (unsigned n)) (float_of false p)
    (λ e h. IsNumber-decimal n (ltb-true _ _ (and_parts _ _ e).1)) (numbered-float_of false p)
numbered-number_from true p =
    let n = numeral_digits p in
    IfSome-cond IsNumbered (is_integer p && nat_lt 0 n && nat_le n (2 ^ 63)) (Some (negative (neg_ℤ (pos n))))
    (float_of true p)
    (λ e h. let both = and_parts _ _ e in negative-numbered n (ltb-true _ _ (and_parts _ _ both.0).1)
    (leb-true _ _ both.1))
    (numbered-float_of true p)

numbered-number_of : (s : List ℕ) → IfSome (number_of s) IsNumbered
unfolding number_of
numbered-number_of s =
    IfSome-cond IsNumbered (slice_index s 0 == minus) (number_from true (scan_numeral (drop 1 s)))
    (number_from false (scan_numeral s)) (λ e. numbered-number_from true (scan_numeral (drop 1 s)))
    (numbered-number_from false (scan_numeral s))

numbered-match_ordering : (o : Ordering) (a b c : Members) → MembersAreNumbered a → MembersAreNumbered b
    → MembersAreNumbered c → MembersAreNumbered (match_ordering o a b c)
numbered-match_ordering Less a b c p q r = p
numbered-match_ordering Equal a b c p q r = q
numbered-match_ordering Greater a b c p q r = r

numbered-put : (k : List ℕ) (d : Data) (ms : Members) → AreNumbered d → MembersAreNumbered ms
    → MembersAreNumbered (put k d ms)
numbered-put k d no_members p q = (p, tt)
numbered-put k d (member l e ms) p q =
    numbered-match_ordering _ (member k d (member l e ms)) (member l d ms) (member l e (put k d ms)) (p, q) (p, q.1)
    (q.0, numbered-put k d ms p q.1)

mutual
  numbered-of_json : (j : json.Json) → IfSome (of_json j) AreNumbered
  numbered-of_json json.null = tt
  numbered-of_json (json.boolean b) = tt
  numbered-of_json (json.number s) = IfSome-map IsNumbered AreNumbered number (λ n x. x) (number_of s)
      (numbered-number_of s)
  numbered-of_json (json.string s) = tt
  numbered-of_json (json.array js) = IfSome-map ItemsAreNumbered AreNumbered array (λ ds x. x) _ (numbered-of_items js)
  numbered-of_json (json.object ms) = IfSome-map MembersAreNumbered AreNumbered object (λ ds x. x) _
      (numbered-of_members ms no_members tt)

  numbered-of_items : (js : json.Items) → IfSome (of_items js) ItemsAreNumbered
  numbered-of_items json.no_items = tt
  numbered-of_items (json.item j js) =
      IfSome-and_then AreNumbered ItemsAreNumbered _
      (λ d x. IfSome-map ItemsAreNumbered ItemsAreNumbered (item d) (λ ds y. (x, y)) _ (numbered-of_items js)) _
      (numbered-of_json j)

  numbered-of_members : (ms : json.Members) (found : Members) → MembersAreNumbered found
      → IfSome (of_members ms found) MembersAreNumbered
  numbered-of_members json.no_members found h = h
  numbered-of_members (json.member k j ms) found h =
      IfSome-and_then AreNumbered MembersAreNumbered _
      (λ d x. numbered-of_members ms (put k d found) (numbered-put k d found x h)) _ (numbered-of_json j)

-- the JSON that tokens are
abbrev json_at : List Token → Option json.Json
json_at ts = option_and_then (λ p. if_last p.0 p.1) (value max_depth ts)

numbered-read : (text : List ℕ) (d : Data) → read text ≡ Some d → AreNumbered d
numbered-read text d e = subst (λ o. IfSome o AreNumbered) e
    (IfSome-after AreNumbered of_json numbered-of_json (json_at (tokens text)))

mutual
  HasNumbers-outline : (d : Data) → AreNumbered d → has_float d ≡ false → HasNumbers (outline d)
  HasNumbers-outline null h whole = tt
  HasNumbers-outline (boolean b) h whole = tt
  HasNumbers-outline (number n) h whole = h whole
  HasNumbers-outline (string s) h whole = tt
  HasNumbers-outline (array ds) h whole = ItemsHaveNumbers-outline ds h whole
  HasNumbers-outline (object ms) h whole = MembersHaveNumbers-outline ms h whole

  ItemsHaveNumbers-outline : (ds : Items) → ItemsAreNumbered ds → items_have_float ds ≡ false
      → ItemsHaveNumbers (items_outline ds)
  ItemsHaveNumbers-outline no_items h whole = tt
  ItemsHaveNumbers-outline (item d ds) h whole = let p = or_parts (has_float d) _ whole in
      (HasNumbers-outline d h.0 p.0, ItemsHaveNumbers-outline ds h.1 p.1)

  MembersHaveNumbers-outline : (ms : Members) → MembersAreNumbered ms → members_have_float ms ≡ false
      → MembersHaveNumbers (members_outline ms)
  MembersHaveNumbers-outline no_members h whole = tt
  MembersHaveNumbers-outline (member k d ms) h whole = let p = or_parts (has_float d) _ whole in
      (HasNumbers-outline d h.0 p.0, MembersHaveNumbers-outline ms h.1 p.1)

-- ---- the reading of a compact text

mutual
  pub depth-outline : (d : Data) → tree.depth (outline d) ≡ depth d
  depth-outline null = refl
  depth-outline (boolean b) = refl
  depth-outline (number n) = refl
  depth-outline (string s) = refl
  depth-outline (array ds) = ap suc (items_depth-outline ds)
  depth-outline (object ms) = ap suc (members_depth-outline ms)

  items_depth-outline : (ds : Items) → tree.items_depth (items_outline ds) ≡ items_depth ds
  items_depth-outline no_items = refl
  items_depth-outline (item d ds) = ap₂ max (depth-outline d) (items_depth-outline ds)

  members_depth-outline : (ms : Members) → tree.members_depth (members_outline ms) ≡ members_depth ms
  members_depth-outline no_members = refl
  members_depth-outline (member k d ms) = ap₂ max (depth-outline d) (members_depth-outline ms)

read-compact_text : (d : Data) → HasNumbers (outline d) → depth d ≤ max_depth
    → read (compact_text d) ≡ of_json (outline d)
read-compact_text d numbers shallow =
    let ts = json_tokens (outline d) in
    ap read (sym (print-outline d))
    ∙ ap (λ us. option_and_then of_json (json_at us))
    (tokens-print ts (ArePrintable-json_tokens (outline d) numbers) ∙ sym (append-nil ts))
    ∙ ap (λ o. option_and_then of_json (option_and_then (λ p. if_last p.0 p.1) o))
    (value-json_tokens (outline d) max_depth [] (omega (arith, depth-outline d)))

-- the value's numbers are written as numbers, and what is written for it is that value
pub record IsWritten (d : Data) : Type 0 where
  pub numbers : HasNumbers (outline d)
  pub back : of_json (outline d) ≡ Some d

pub IsWritten-read : (text : List ℕ) (d : Data) → read text ≡ Some d → has_float d ≡ false → compact_text d ≡ text
    → depth d ≤ max_depth → IsWritten d
IsWritten-read text d is whole same shallow =
    let numbers = HasNumbers-outline d (numbered-read text d is) whole in
    record { numbers = numbers; back = sym (read-compact_text d numbers shallow) ∙ ap read same ∙ is }

pub read-IsWritten : (d : Data) → IsWritten d → depth d ≤ max_depth → read (compact_text d) ≡ Some d
read-IsWritten d w shallow = read-compact_text d w.numbers shallow ∙ w.back
