-- The bodies are read back as what was sent.
use Rattle.std.proofs.Common.{◌≡◌, ℕ, ◌<◌, ◌≤◌, ◌^◌, List, [], ◌∷◌, ◌++◌, All, Bool, true, false, cond, nat_le, Option}
use Rattle.std.proofs.Common.{Some, None, option_map, option_and_then, Result, Ok, Err, codes, decimal, IsUtf8, refl}
use Rattle.std.proofs.Common.{sym, ap, ap₂, ◌∙◌, subst, arith, append_assoc, append-nil}
use Rattle.std.specs.Prelude.{⊤}
use Rattle.std.specs.Fmt.{digits}
use Rattle.std.specs.List.{concat}
use Rattle.std.specs.Str.{is_utf8}
use Rattle.std.proofs.lemmas.Bool.{leb-true}
use Rattle.std.proofs.lemmas.Fmt.{IsAscii-decimal}
use Rattle.std.proofs.lemmas.List.Elements.{All-head, All-tail}
use Rattle.std.proofs.lemmas.Str.{IsUtf8-append, IsUtf8-nil, IsUtf8-from_ascii, IsUtf8-from_is_utf8}
use Rattle.std.proofs.lemmas.Str.{is_utf8-from_IsUtf8}
use Rattle.json.specs.Print.{escape_byte}
use Rattle.json.proofs.Printed.Decimals.{IsNumber-decimal}
use Rattle.json.proofs.Printed.Utf8.{are_ascii, IsUtf8-are_ascii, IsUtf8-quoted}
use Rattle.json.specs.Tree.{ItemsHaveNumbers}
use Rattle.serde_json.specs.Data.{Data, array, Items, no_items, item, depth, items_depth}
use Rattle.serde_json.specs.Read.{of_items, read}
use Rattle.serde_json.specs.Written.{items_outline, has_float, compact_text, items_text}
use Rattle.serde_json.proofs.Numbers.{number_of-decimal}
use Rattle.group_history.specs.declared.mutations.MutationFields.{MutationFields as Mutation}
use Rattle.group_history.specs.declared.refusals.Refusal.{Refusal}
use Rattle.group_history.specs.declared.refusals.Refusal.TheVariants.{NotJson, NotWhole}
use Rattle.group_history.specs.Map.{Bytes}
use Rattle.group_history.specs.Answers.{◌>>=◌}
use Rattle.group_history.specs.Json.{reading, or_not_json, text_of, json_text}
use Rattle.group_history.specs.declared.cookies.Order.{Order}
use Rattle.group_history.specs.Cookies.{Cookie, value_read, whole_text, order_of, cookie_of, cookie_at}
use Rattle.push_body.specs.declared.identities.Identity.{Identity}
use Rattle.push_body.specs.Bodies.{mutation_text, mutations_text, push_text, pull_text}
use Rattle.push_body.specs.ReadBack.{mutation_value, mutation_values, request_value, IsIdentity, IsMutation}
use Rattle.push_body.specs.ReadBack.{PushReadsBack, PullReadsBack}
use Rattle.push_body.proofs.Pieces.{mutation_pieces, push_pieces, pull_pieces}
use Rattle.push_body.proofs.Compact.{IsWritten, IsWritten-read, read-IsWritten}

-- ---- a text that stands in a body as it is: the compact text of the value that it is read as

record IsKept (text : Bytes) (d : Data) (limit : ℕ) : Type 0 where
  utf8 : IsUtf8 text
  is : read text ≡ Some d
  whole : has_float d ≡ false
  same : compact_text d ≡ text
  shallow : depth d ≤ limit

reading_parts_at : (b : Bool) (o : Option Data) (d : Data) → cond b (or_not_json o) (Err NotJson) ≡ Ok d
    → (b ≡ true) × (o ≡ Some d)
reading_parts_at true None d e = absurd cc
reading_parts_at true (Some c) d e = (refl, cc)
reading_parts_at false o d e = absurd cc

reading_parts : (text : Bytes) (d : Data) → reading text ≡ Ok d → IsUtf8 text × (read text ≡ Some d)
unfolding reading
reading_parts text d e = let p = reading_parts_at (is_utf8 text) (read text) d e in (IsUtf8-from_is_utf8 text p.0, p.1)

reading-Ok : (text : Bytes) (d : Data) → IsUtf8 text → read text ≡ Some d → reading text ≡ Ok d
unfolding reading
reading-Ok text d utf8 is = rw (is_utf8-from_IsUtf8 text utf8) (ap or_not_json is)

text_parts_at : (b c : Bool) (t s : Bytes) → cond b (cond c (Err NotWhole) (Ok t)) (Err NotJson) ≡ Ok s
    → (b ≡ true) × (c ≡ false) × (t ≡ s)
text_parts_at true true t s e = absurd cc
text_parts_at true false t s e = (refl, refl, cc)
text_parts_at false c t s e = absurd cc

text_parts : (d : Data) (s : Bytes) → text_of d ≡ Ok s → (depth d ≤ 124) × (has_float d ≡ false) × (compact_text d ≡ s)
unfolding text_of
text_parts d s e = let p = text_parts_at (nat_le (depth d) 124) (has_float d) (compact_text d) s e in
    (leb-true _ _ p.0, p.1, p.2)

args_at : (text : Bytes) (r : Result Data Refusal) → reading text ≡ r → (r >>= text_of) ≡ Ok text
    → (d : Data) × IsKept text d 124
args_at text (Ok d) e h =
    let p = reading_parts text d e in
    let q = text_parts d text h in
    (d, record { utf8 = p.0; is = p.1; whole = q.1; same = q.2; shallow = q.0 })
args_at text (Err r) e h = absurd cc

args_kept : (text : Bytes) → json_text text ≡ Ok text → (d : Data) × IsKept text d 124
args_kept text h = args_at text (reading text) refl h

-- what a cookie is made of
abbrev cookie_text_or : Option Cookie → Bytes → Bytes
cookie_text_or None t = t
cookie_text_or (Some c) t = c.text

cookie_parts_at : (w : Option Bytes) (o : Option Order) (c : Cookie)
    → option_and_then (λ t. option_map (λ x. record { text = t; order = x }) o) w ≡ Some c → w ≡ Some c.text
cookie_parts_at None o c e = absurd cc
cookie_parts_at (Some t) None c e = absurd cc
cookie_parts_at (Some t) (Some x) c e = ap Some (ap (λ k. cookie_text_or k t) e)

whole_parts_at : (f : Bool) (t s : Bytes) → cond f None (Some t) ≡ Some s → (f ≡ false) × (t ≡ s)
whole_parts_at true t s e = absurd cc
whole_parts_at false t s e = (refl, cc)

cookie_parts : (d : Data) (c : Cookie) → cookie_of d ≡ Some c → (has_float d ≡ false) × (compact_text d ≡ c.text)
unfolding cookie_of
cookie_parts d c e = whole_parts_at (has_float d) (compact_text d) c.text
    (cookie_parts_at (whole_text d) (order_of d) c e)

shallow_parts_at : (b : Bool) (o : Option Cookie) (c : Cookie) → cond b o None ≡ Some c → (b ≡ true) × (o ≡ Some c)
shallow_parts_at true o c e = (refl, e)
shallow_parts_at false o c e = absurd cc

kept_at : (c : Cookie) (r : Result Data Refusal) → reading c.text ≡ r
    → option_and_then (λ d. cond (nat_le (depth d) 126) (cookie_of d) None) (value_read r) ≡ Some c
    → (d : Data) × IsKept c.text d 126
kept_at c (Ok d) e h =
    let p = reading_parts c.text d e in
    let q = shallow_parts_at (nat_le (depth d) 126) (cookie_of d) c h in
    let k = cookie_parts d c q.1 in
    (d, record { utf8 = p.0; is = p.1; whole = k.0; same = k.1; shallow = leb-true _ _ q.0 })
kept_at c (Err r) e h = absurd cc

cookie_kept : (c : Cookie) → cookie_at c.text ≡ Some c → (d : Data) × IsKept c.text d 126
unfolding cookie_at
cookie_kept c h = kept_at c (reading c.text) refl h

kept_written : (text : Bytes) (d : Data) (limit : ℕ) → limit ≤ 127 → IsKept text d limit → IsWritten d
kept_written text d limit low k = IsWritten-read text d k.is k.whole k.same (omega (arith, k.shallow))

-- ---- UTF-8

abbrev AreUtf8 : List Bytes → Type 0
AreUtf8 [] = ⊤
AreUtf8 (p ∷ ps) = IsUtf8 p × AreUtf8 ps

IsUtf8-concat : (ps : List Bytes) → AreUtf8 ps → IsUtf8 (concat ps)
IsUtf8-concat [] h = IsUtf8-nil
IsUtf8-concat (p ∷ ps) h = IsUtf8-append p (concat ps) h.0 (IsUtf8-concat ps h.1)

ascii : (s : Bytes) → are_ascii s ≡ true → IsUtf8 s
ascii s e = IsUtf8-are_ascii s e

IsUtf8-decimal : (n : ℕ) → n < 2 ^ 64 → IsUtf8 (decimal n)
IsUtf8-decimal n h = IsUtf8-from_ascii (decimal n) (IsAscii-decimal n h)

IsUtf8-mutation_text : (m : Mutation) → IsMutation m → IsUtf8 m.args → IsUtf8 (mutation_text m)
unfolding mutation_text
IsUtf8-mutation_text m h args =
    IsUtf8-concat (mutation_pieces m) (
      ascii _ refl,
      (
        args,
        (
          ascii _ refl,
          (
            IsUtf8-quoted m.client h.client,
            (
              ascii _ refl,
              (
                IsUtf8-decimal m.id h.id,
                (
                  ascii _ refl,
                  (
                    IsUtf8-quoted m.name h.name,
                    (ascii _ refl, (IsUtf8-decimal m.timestamp h.timestamp, (ascii _ refl, tt))),
                  ),
                ),
              ),
            ),
          ),
        ),
      ),
    )

-- ---- one mutation

mutation-written : (m : Mutation) (d : Data) → IsMutation m → IsWritten d → IsWritten (mutation_value m d)
mutation-written m d h w = record {
  numbers = (w.numbers, (tt, (IsNumber-decimal m.id h.id, (tt, (IsNumber-decimal m.timestamp h.timestamp, tt)))));
  back = rw (w.back, number_of-decimal m.id h.id, number_of-decimal m.timestamp h.timestamp) refl;
}

mutation-compact : (m : Mutation) (d : Data) → compact_text d ≡ m.args
    → compact_text (mutation_value m d) ≡ mutation_text m
unfolding mutation_text escape_byte
mutation-compact m d same = rw same refl

-- ---- the mutations

-- each with a comma before it
abbrev after_commas : List Mutation → Bytes
after_commas [] = []
after_commas (m ∷ ms) = 44 ∷ (mutation_text m ++ after_commas ms)

mutations_text-cons : (m : Mutation) (ms : List Mutation) → mutations_text (m ∷ ms) ≡ mutation_text m ++ after_commas ms
mutations_text-cons m [] = sym (append-nil (mutation_text m))
mutations_text-cons m (n ∷ ms) = ap (λ s. mutation_text m ++ 44 ∷ s) (mutations_text-cons n ms)

record AreSent (ms : List Mutation) (ds : Items) : Type 0 where
  values : mutation_values ms ≡ Some ds
  numbers : ItemsHaveNumbers (items_outline ds)
  back : of_items (items_outline ds) ≡ Some ds
  shallow : items_depth ds ≤ 125
  first : items_text false ds ≡ mutations_text ms ++ 93 ∷ []
  later : items_text true ds ≡ after_commas ms ++ 93 ∷ []
  utf8 : IsUtf8 (after_commas ms)

cons-sent : (m : Mutation) (ms : List Mutation) (d : Data) (ds : Items) → IsMutation m → IsKept m.args d 124
    → AreSent ms ds → AreSent (m ∷ ms) (item (mutation_value m d) ds)
cons-sent m ms d ds h k rest =
    let w = mutation-written m d h (kept_written m.args d 124 (omega arith) k) in
    let one = mutation-compact m d k.same in
    let both : compact_text (mutation_value m d) ++ items_text true ds
    ≡ (mutation_text m ++ after_commas ms) ++ 93
    ∷ [] = ap₂ (λ (a b : Bytes). a ++ b) one rest.later ∙ sym
    (append_assoc (mutation_text m) (after_commas ms) (93 ∷ [])) in
    record {
      values = rw (k.is, rest.values) refl;
      numbers = (w.numbers, rest.numbers);
      back = rw (w.back, rest.back) refl;
      shallow = omega (arith, k.shallow, rest.shallow);
      first = both ∙ ap (λ s. s ++ 93 ∷ []) (sym (mutations_text-cons m ms));
      later = ap (λ s. 44 ∷ s) both;
      utf8 = IsUtf8-append (44 ∷ []) _ (ascii _ refl)
          (IsUtf8-append (mutation_text m) (after_commas ms) (IsUtf8-mutation_text m h k.utf8) rest.utf8);
    }

are_sent : (ms : List Mutation) → All IsMutation ms → (ds : Items) × AreSent ms ds
are_sent [] h = (
  no_items,
  record {
    values = refl;
    numbers = tt;
    back = refl;
    shallow = omega arith;
    first = refl;
    later = refl;
    utf8 = IsUtf8-nil;
  },
)
are_sent (m ∷ ms) h =
    let one = All-head IsMutation m ms h in
    let args = args_kept m.args one.args in
    let rest = are_sent ms (All-tail IsMutation m ms h) in
    (item (mutation_value m args.0) rest.0, cons-sent m ms args.0 rest.0 one args.1 rest.1)

IsUtf8-mutations_text : (ms : List Mutation) → All IsMutation ms → IsUtf8 (mutations_text ms)
IsUtf8-mutations_text [] h = IsUtf8-nil
IsUtf8-mutations_text (m ∷ ms) h =
    let one = All-head IsMutation m ms h in
    let rest = are_sent ms (All-tail IsMutation m ms h) in
    subst IsUtf8 (sym (mutations_text-cons m ms))
    (IsUtf8-append _ _ (IsUtf8-mutation_text m one (args_kept m.args one.args).1.utf8) rest.1.utf8)

-- ---- the two bodies

array-written : (ms : List Mutation) (ds : Items) → AreSent ms ds → IsWritten (array ds)
array-written ms ds s = record { numbers = s.numbers; back = ap (option_map array) s.back }

abbrev push_with : Identity → Items → Data
push_with i ds = request_value i (codes "mutations") (array ds) (codes "pushVersion")

abbrev pull_with : Identity → Data → Data
pull_with i d = request_value i (codes "cookie") d (codes "pullVersion")

push-written : (i : Identity) (ds : Items) → IsWritten (array ds) → IsWritten (push_with i ds)
push-written i ds w = record {
  numbers = (tt, (w.numbers, (tt, (IsNumber-decimal 1 (omega arith), (tt, tt)))));
  back = rw (w.back, number_of-decimal 1 (omega arith)) refl;
}

pull-written : (i : Identity) (d : Data) → IsWritten d → IsWritten (pull_with i d)
pull-written i d w = record {
  numbers = (tt, (w.numbers, (tt, (IsNumber-decimal 1 (omega arith), (tt, tt)))));
  back = rw (w.back, number_of-decimal 1 (omega arith)) refl;
}

push-compact : (i : Identity) (ms : List Mutation) (ds : Items) → items_text false ds ≡ mutations_text ms ++ 93 ∷ []
    → compact_text (push_with i ds) ≡ push_text i ms
unfolding push_text escape_byte digits
push-compact i ms ds text = rw (text, append_assoc (mutations_text ms) (93 ∷ [])) refl

pull-compact : (i : Identity) (c : Cookie) (d : Data) → compact_text d ≡ c.text
    → compact_text (pull_with i d) ≡ pull_text i c
unfolding pull_text escape_byte digits
pull-compact i c d text = rw text refl

IsUtf8-push_text : (i : Identity) (ms : List Mutation) → IsIdentity i → IsUtf8 (mutations_text ms)
    → IsUtf8 (push_text i ms)
unfolding push_text
IsUtf8-push_text i ms h list =
    IsUtf8-concat (push_pieces i ms) (
      ascii _ refl,
      (
        IsUtf8-quoted i.group h.group,
        (
          ascii _ refl,
          (
            list,
            (
              ascii _ refl,
              (
                IsUtf8-quoted i.profile h.profile,
                (ascii _ refl, (IsUtf8-quoted i.schema h.schema, (ascii _ refl, tt))),
              ),
            ),
          ),
        ),
      ),
    )

IsUtf8-pull_text : (i : Identity) (c : Cookie) → IsIdentity i → IsUtf8 c.text → IsUtf8 (pull_text i c)
unfolding pull_text
IsUtf8-pull_text i c h cookie =
    IsUtf8-concat (pull_pieces i c) (
      ascii _ refl,
      (
        IsUtf8-quoted i.group h.group,
        (
          ascii _ refl,
          (
            cookie,
            (
              ascii _ refl,
              (
                IsUtf8-quoted i.profile h.profile,
                (ascii _ refl, (IsUtf8-quoted i.schema h.schema, (ascii _ refl, tt))),
              ),
            ),
          ),
        ),
      ),
    )

reading-compact : (text : Bytes) (d : Data) → IsUtf8 text → compact_text d ≡ text → IsWritten d → depth d ≤ 127
    → reading text ≡ Ok d
reading-compact text d utf8 same w shallow = reading-Ok text d utf8 (ap read (sym same) ∙ read-IsWritten d w shallow)

pub push-reads-back : PushReadsBack
push-reads-back i ms h all =
    let ds = (are_sent ms all).0 in
    let s = (are_sent ms all).1 in
    let utf8 = IsUtf8-push_text i ms h (IsUtf8-mutations_text ms all) in
    rw s.values (reading-compact (push_text i ms) (push_with i ds) utf8 (push-compact i ms ds s.first)
    (push-written i ds (array-written ms ds s)) (omega (arith, s.shallow)))

pub pull-reads-back : PullReadsBack
pull-reads-back i c h text =
    let d = (cookie_kept c text).0 in
    let k = (cookie_kept c text).1 in
    let utf8 = IsUtf8-pull_text i c h k.utf8 in
    rw k.is (reading-compact (pull_text i c) (pull_with i d) utf8 (pull-compact i c d k.same)
    (pull-written i d (kept_written c.text d 126 (omega arith) k)) (omega (arith, k.shallow)))
