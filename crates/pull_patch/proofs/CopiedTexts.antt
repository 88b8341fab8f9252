-- What the text of copied tokens is read as.
use Rattle.std.proofs.Common.{◌≡◌, ℕ, ◌≤◌, List, [], Bool, true, false, cond, Option, Some, None, option_map, Ok}
use Rattle.std.proofs.Common.{Err, refl, sym, ap, ◌∙◌, arith, append-nil, IsUtf8}
use Rattle.std.specs.Str.{is_utf8}
use Rattle.json.specs.Token.{Token}
use Rattle.json.specs.Json.{Json, value}
use Rattle.json.specs.Print.{print}
use Rattle.json.specs.Tree as json_tree
use Rattle.json.specs.Tree.{json_tokens}
use Rattle.json.proofs.Nesting.{value-depth}
use Rattle.json.proofs.Printed.Trees.{value-json_tokens}
use Rattle.serde_json.specs.Data.{Data, depth}
use Rattle.serde_json.specs.Read.{of_json, converted, read}
use Rattle.serde_json.specs.Written.{has_float, compact_text}
use Rattle.pull_patch.proofs.Turns.{whole}
use Rattle.serde_json.proofs.Texts.{print-outline}
use Rattle.group_history.specs.declared.refusals.Refusal.TheVariants.{NotJson, NotWhole}
use Rattle.group_history.specs.Answers.{◌>>=◌}
use Rattle.group_history.specs.Cookies.{whole_text}
use Rattle.group_history.specs.Json.{reading, or_not_json, text_of, json_text}
use Rattle.group_history.proofs.Readings.{json_text-compact}
use Rattle.push_body.proofs.Compact.{depth-outline}
use Rattle.pull_patch.specs.Inside.Copies.{IsPlain, CopiesText}
use Rattle.pull_patch.specs.Inside.Plain.{ReadsValue, ReadsText, PassesValue}

module _ (depth_most : ℕ) (old new : List Token) (text : List ℕ) (b : Bool)
    (c : CopiesText b (value depth_most old) new text) where
  -- the text is read as the tokens are
  pub read-copied : depth_most ≤ 127 → read text ≡ of_json c.what
  read-copied h =
      let within : json_tree.depth c.what ≤ 127 = omega (arith, value-depth depth_most old new c.what c.reads) in
      ap whole (ap (value 127) (c.reads_back ∙ sym (append-nil (json_tokens c.what))) ∙ value-json_tokens
      c.what 127 [] within)

  pub ReadsValue-copied : (d : Data) → of_json c.what ≡ Some d → ReadsValue depth_most old d new
  ReadsValue-copied d e = ap (converted of_json) c.reads ∙ ap (option_map (λ x. (x, new))) e

compact_if_plain : (j : Json) (text : List ℕ) (p : IsPlain j) → text ≡ print (json_tokens j)
    → text ≡ compact_text p.tree
compact_if_plain j text p e = e ∙ ap (λ x. print (json_tokens x)) (sym p.same) ∙ print-outline p.tree

pub ReadsText-plain : (old new : List Token) (text : List ℕ) (b : Bool) → CopiesText b (value 124 old) new text
    → b ≡ true → ReadsText old text new
ReadsText-plain old new text b c e =
    let p = c.is_plain e in
    record {
      tree = p.tree;
      reads = ReadsValue-copied 124 old new text b c p.tree p.reads;
      whole = rw p.whole (ap Some (sym (compact_if_plain c.what text p c.printed)));
    }

pub json_text-plain : (old new : List Token) (text : List ℕ) (b : Bool) → CopiesText b (value 124 old) new text
    → b ≡ true → IsUtf8 text → json_text text ≡ Ok text
json_text-plain old new text b c e utf8 =
    let p = c.is_plain e in
    let shallow : depth p.tree ≤ 124 = omega
    (arith, value-depth 124 old new c.what c.reads, depth-outline p.tree, ap json_tree.depth p.same) in
    json_text-compact p.tree text utf8 (read-copied 124 old new text b c (omega arith) ∙ p.reads)
    (compact_if_plain c.what text p c.printed) shallow p.whole

pub PassesValue-plain : (depth_most : ℕ) (old new : List Token) (text : List ℕ) (b : Bool)
    → CopiesText b (value depth_most old) new text → b ≡ true → PassesValue depth_most old new
PassesValue-plain depth_most old new text b c e = let p = c.is_plain e in
    record { tree = p.tree; reads = ReadsValue-copied depth_most old new text b c p.tree p.reads }

-- ---- a value that was read by itself

whole_from_tests : (a b : Bool) (s t : List ℕ) → cond a (cond b (Err NotWhole) (Ok s)) (Err NotJson) ≡ Ok t
    → cond b None (Some s) ≡ Some t
whole_from_tests true true s t e = absurd (cc)
whole_from_tests true false s t e = cc
whole_from_tests false b s t e = absurd (cc)

pub whole_from_text : (d : Data) (t : List ℕ) → text_of d ≡ Ok t → whole_text d ≡ Some t
unfolding text_of
whole_from_text d t e = whole_from_tests _ (has_float d) (compact_text d) t e

found : (o : Option Data) (t : List ℕ) → (or_not_json o >>= text_of) ≡ Ok t
    → (d : Data) × (o ≡ Some d) × (whole_text d ≡ Some t)
found None t e = absurd (cc)
found (Some d) t e = (d, refl, whole_from_text d t e)

found_in : (b : Bool) (o : Option Data) (t : List ℕ) → (cond b (or_not_json o) (Err NotJson) >>= text_of) ≡ Ok t
    → (d : Data) × (o ≡ Some d) × (whole_text d ≡ Some t)
found_in true o t e = found o t e
found_in false o t e = absurd (cc)

read_from_text : (text t : List ℕ) → json_text text ≡ Ok t → (d : Data) × (read text ≡ Some d) × (whole_text d ≡ Some t)
unfolding reading
read_from_text text t e = found_in (is_utf8 text) (read text) t e

pub ReadsText-read : (old new : List Token) (text t : List ℕ) (b : Bool) → CopiesText b (value 124 old) new text
    → json_text text ≡ Ok t → ReadsText old t new
ReadsText-read old new text t b c e =
    let f = read_from_text text t e in
    record {
      tree = f.0;
      reads = ReadsValue-copied 124 old new text b c f.0
          (sym (read-copied 124 old new text b c (omega arith)) ∙ f.1);
      whole = f.2;
    }

tree_in : (b : Bool) (o : Option Data) (d : Data) → cond b (or_not_json o) (Err NotJson) ≡ Ok d → o ≡ Some d
tree_in true None d e = absurd (cc)
tree_in true (Some x) d e = cc
tree_in false o d e = absurd (cc)

read-reading : (text : List ℕ) (d : Data) → reading text ≡ Ok d → read text ≡ Some d
unfolding reading
read-reading text d e = tree_in (is_utf8 text) (read text) d e

pub ReadsValue-read : (depth_most : ℕ) (old new : List Token) (text : List ℕ) (d : Data) (b : Bool)
    → CopiesText b (value depth_most old) new text → depth_most ≤ 127 → reading text ≡ Ok d
    → ReadsValue depth_most old d new
ReadsValue-read depth_most old new text d b c h e =
    ReadsValue-copied depth_most old new text b c d
    (sym (read-copied depth_most old new text b c h) ∙ read-reading text d e)
