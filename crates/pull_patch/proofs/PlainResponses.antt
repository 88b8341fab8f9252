-- Responses whose three fields are found one after another.
use Rattle.std.proofs.Common.{◌≡◌, ◌≢◌, ℕ, List, true, false, Option, Some, None, option_map, Ok, codes, bytes_eq, Vec}
use Rattle.std.proofs.Common.{Global, IsUtf8, refl, sym, ap, ◌∙◌, subst, IfSome}
use Rattle.std.specs.Prelude.{ok_or}
use Rattle.json.specs.Json.{value}
use Rattle.json.specs.Lex.{tokens}
use Rattle.serde_json.specs.Data.{Data, array, object, Items, Members, put}
use Rattle.serde_json.specs.Find.{get_member, as_object, as_array}
use Rattle.serde_json.proofs.Views.{get_member-put, get_member-put_other}
use Rattle.group_history.specs.declared.refusals.Refusal.TheVariants.{BadShape}
use Rattle.group_history.specs.declared.responses.Confirmed.{Confirmed}
use Rattle.group_history.specs.declared.responses.Patch.{Patch}
use Rattle.group_history.specs.declared.responses.Response.{Response}
use Rattle.group_history.specs.declared.responses.Response.TheVariants as response
use Rattle.group_history.specs.Answers.{◌>>=◌}
use Rattle.group_history.specs.Cookies.{Cookie}
use Rattle.group_history.specs.Pull.{AreInRange}
use Rattle.pull_patch.specs.declared.plain.ResponseParts.{ResponseParts}
use Rattle.pull_patch.specs.Changes.{Entry, entries_of, confirmed_said}
use Rattle.pull_patch.specs.Fields.{each, ◌>>-◌}
use Rattle.pull_patch.specs.Grammar.{is_cookie, cookie_said, fields_of, pull_of, pull_response, by_error, response_of}
use Rattle.pull_patch.specs.Grammar.{answer_to}
use Rattle.pull_patch.specs.Operations.{edits_of}
use Rattle.pull_patch.specs.Inside.Parts.{changes_part, united}
use Rattle.pull_patch.specs.Inside.Plain.{ArePatch, IsCookie, AreLastIds, HoldsCookie, HasChanges, HasPatch, ArePartsOf}
use Rattle.pull_patch.specs.Inside.Plain.{ReadsBody}
use Rattle.group_history.proofs.Readings.{reading-ok}
use Rattle.pull_patch.proofs.Turns.{whole_read}
use Rattle.pull_patch.proofs.Patches.{names_differ, names_same, other_way, kept}

-- ---- the parts, while more fields come

cookie_kept : (k : List ℕ) (d : Data) (ms : Members) → codes "cookie" ≢ k → (o : Option Cookie)
    → IfSome o (λ c. HoldsCookie ms c) → IfSome o (λ c. HoldsCookie (put k d ms) c)
cookie_kept k d ms other None h = tt
cookie_kept k d ms other (Some c) h = record {
  tree = h.tree;
  at = kept (codes "cookie") k d h.tree ms other h.at;
  is = h.is;
}

changes_kept : (k : List ℕ) (d : Data) (ms : Members) → codes "lastMutationIDChanges" ≢ k
    → (o : Option (Vec Confirmed Global)) → IfSome o (λ v. HasChanges ms v.items)
    → IfSome o (λ v. HasChanges (put k d ms) v.items)
changes_kept k d ms other None h = tt
changes_kept k d ms other (Some v) h = record {
  tree = h.tree;
  at = kept (codes "lastMutationIDChanges") k d h.tree ms other h.at;
  are = h.are;
  in_range = h.in_range;
}

patch_kept : (k : List ℕ) (d : Data) (ms : Members) → codes "patch" ≢ k → (o : Option (Vec Patch Global))
    → IfSome o (λ v. HasPatch ms v.items) → IfSome o (λ v. HasPatch (put k d ms) v.items)
patch_kept k d ms other None h = tt
patch_kept k d ms other (Some v) h = record {
  tree = h.tree;
  at = kept (codes "patch") k d (array h.tree) ms other h.at;
  are = h.are;
}

error_kept : (k : List ℕ) (d : Data) (ms : Members) → codes "error" ≢ k → get_member (codes "error") ms ≡ None
    → get_member (codes "error") (put k d ms) ≡ None
error_kept k d ms other h = get_member-put_other (codes "error") k d ms other ∙ h

pub parts_patch : (p : ResponseParts) (v : Vec Patch Global) (ds : Items) (name : List ℕ) (ms : Members)
    → bytes_eq name (codes "patch") ≡ true → ArePatch ds v.items → ArePartsOf p ms
    → ArePartsOf (record p { patch = Some v }) (put name (array ds) ms)
parts_patch p v ds name ms test are h =
    subst (λ (k : List ℕ). ArePartsOf (record p { patch = Some v }) (put k (array ds) ms))
    (sym (names_same name (codes "patch") test)) record {
      cookie = cookie_kept (codes "patch") (array ds) ms
          (names_differ (codes "cookie") (codes "patch") refl) p.cookie h.cookie;
      changes = changes_kept (codes "patch") (array ds) ms
          (names_differ (codes "lastMutationIDChanges") (codes "patch") refl) p.changes h.changes;
      patch = record { tree = ds; at = get_member-put (codes "patch") (array ds) ms; are = are };
      no_error = error_kept (codes "patch") (array ds) ms
          (names_differ (codes "error") (codes "patch") refl) h.no_error;
    }

pub parts_cookie : (p : ResponseParts) (c : Cookie) (d : Data) (name : List ℕ) (ms : Members)
    → bytes_eq name (codes "cookie") ≡ true → IsCookie d c → ArePartsOf p ms
    → ArePartsOf (record p { cookie = Some c }) (put name d ms)
parts_cookie p c d name ms test is h =
    subst (λ (k : List ℕ). ArePartsOf (record p { cookie = Some c }) (put k d ms))
    (sym (names_same name (codes "cookie") test)) record {
      cookie = record { tree = d; at = get_member-put (codes "cookie") d ms; is = is };
      changes = changes_kept (codes "cookie") d ms
          (names_differ (codes "lastMutationIDChanges") (codes "cookie") refl) p.changes h.changes;
      patch = patch_kept (codes "cookie") d ms (names_differ (codes "patch") (codes "cookie") refl) p.patch h.patch;
      no_error = error_kept (codes "cookie") d ms (names_differ (codes "error") (codes "cookie") refl) h.no_error;
    }

pub parts_changes : (p : ResponseParts) (v : Vec Confirmed Global) (d : Data) (name : List ℕ) (ms : Members)
    → bytes_eq name (codes "lastMutationIDChanges") ≡ true → AreLastIds d v.items → AreInRange v.items → ArePartsOf p ms
    → ArePartsOf (record p { changes = Some v }) (put name d ms)
parts_changes p v d name ms test are in_range h =
    subst (λ (k : List ℕ). ArePartsOf (record p { changes = Some v }) (put k d ms))
    (sym (names_same name (codes "lastMutationIDChanges") test)) record {
      cookie = cookie_kept (codes "lastMutationIDChanges") d ms
          (names_differ (codes "cookie") (codes "lastMutationIDChanges") refl) p.cookie h.cookie;
      changes = record {
        tree = d;
        at = get_member-put (codes "lastMutationIDChanges") d ms;
        are = are;
        in_range = in_range;
      };
      patch = patch_kept (codes "lastMutationIDChanges") d ms
          (names_differ (codes "patch") (codes "lastMutationIDChanges") refl) p.patch h.patch;
      no_error = error_kept (codes "lastMutationIDChanges") d ms
          (names_differ (codes "error") (codes "lastMutationIDChanges") refl) h.no_error;
    }

pub parts_other : (p : ResponseParts) (d : Data) (name : List ℕ) (ms : Members) → bytes_eq name (codes "patch") ≡ false
    → bytes_eq name (codes "error") ≡ false → bytes_eq name (codes "cookie") ≡ false
    → bytes_eq name (codes "lastMutationIDChanges") ≡ false → ArePartsOf p ms → ArePartsOf p (put name d ms)
parts_other p d name ms patch error cookie changes h = record {
  cookie = cookie_kept name d ms (other_way name (codes "cookie") cookie) p.cookie h.cookie;
  changes = changes_kept name d ms (other_way name (codes "lastMutationIDChanges") changes) p.changes h.changes;
  patch = patch_kept name d ms (other_way name (codes "patch") patch) p.patch h.patch;
  no_error = error_kept name d ms (other_way name (codes "error") error) h.no_error;
}

-- ---- single parts

pub cookie_at-some : (d : Data) → is_cookie d ≡ true → cookie_said d ≡ Some d
unfolding cookie_said
cookie_at-some d h = rw h

changes_in : (o : Option (List Entry)) (cs : List Confirmed)
    → ok_or (option_map (each confirmed_said) o) BadShape ≡ Ok (Some cs)
    → (es : List Entry) × (o ≡ Some es) × (each confirmed_said es ≡ Some cs)
changes_in None cs e = absurd (cc)
changes_in (Some es) cs e = (es, refl, cc)

pub AreChanges-part : (d : Data) (ms : Members) (cs : List Confirmed) → as_object d ≡ Some ms
    → changes_part ms ≡ Ok (Some cs) → AreLastIds d cs
unfolding changes_part
AreChanges-part d ms cs is e =
    let f = changes_in (entries_of ms) cs e in
    record { entries = f.0; shape = ap (λ o. o >>- entries_of) is ∙ f.1; say = f.2 }

-- ---- the whole

joined_response : (ms : Members) (c : Cookie) (cs : List Confirmed) (ps : List Patch)
    → get_member (codes "error") ms ≡ None → HoldsCookie ms c → HasChanges ms cs → HasPatch ms ps
    → response_of (object ms) ≡ Ok (response.Ok (record { cookie = c; changes = cs; patch = ps }))
unfolding response_of pull_response fields_of pull_of
joined_response ms c cs ps error hc hs hp =
    let cookie : (get_member (codes "cookie") ms >>- cookie_said)
    ≡ Some hc.tree = ap (λ o. o >>- cookie_said) hc.at ∙ hc.is.shape in
    let changes : ((get_member (codes "lastMutationIDChanges") ms >>- as_object) >>- entries_of)
    ≡ Some hs.are.entries = ap (λ o. (o >>- as_object) >>- entries_of) hs.at ∙ hs.are.shape in
    let patch : ((get_member (codes "patch") ms >>- as_array) >>- edits_of)
    ≡ Some hp.are.edits = ap (λ o. (o >>- as_array) >>- edits_of) hp.at ∙ hp.are.shape in
    ap (λ o. by_error o (object ms)) error ∙ rw (cookie, changes, patch) (rw (hc.is.says, hs.are.say, hp.are.say) refl)

pub in_range_if : (ms : Members) (o : Option (Vec Confirmed Global)) → IfSome o (λ v. HasChanges ms v.items)
    → IfSome o (λ v. AreInRange v.items)
in_range_if ms None h = tt
in_range_if ms (Some v) h = h.in_range

joined_by : (ms : Members) (o : Option Cookie) (cs : Option (Vec Confirmed Global)) (ps : Option (Vec Patch Global))
    (r : Response) → united o (option_map (λ v. v.items) cs) (option_map (λ v. v.items) ps) ≡ Ok r
    → get_member (codes "error") ms ≡ None → IfSome o (λ c. HoldsCookie ms c) → IfSome cs (λ v. HasChanges ms v.items)
    → IfSome ps (λ v. HasPatch ms v.items) → response_of (object ms) ≡ Ok r
joined_by ms None cs ps r e error a b c = absurd (cc)
joined_by ms (Some o) None ps r e error a b c = absurd (cc)
joined_by ms (Some o) (Some cs) None r e error a b c = absurd (cc)
joined_by ms (Some o) (Some cs) (Some ps) r e error a b c = joined_response ms o cs.items ps.items error a b c ∙ e

pub joined_parts : (ms : Members) (p : ResponseParts) (r : Response)
    → united p.cookie (option_map (λ v. v.items) p.changes) (option_map (λ v. v.items) p.patch) ≡ Ok r → ArePartsOf p ms
    → response_of (object ms) ≡ Ok r
joined_parts ms p r e h = joined_by ms p.cookie p.changes p.patch r e h.no_error h.cookie h.changes h.patch

pub answer_read : (bytes : List ℕ) (r : Response) → IsUtf8 bytes → ReadsBody (tokens bytes) r → answer_to bytes ≡ Ok r
unfolding answer_to
answer_read bytes r utf8 b = ap (λ x. x >>= response_of)
    (reading-ok bytes (object b.tree) utf8 (whole_read (value 127 (tokens bytes)) (object b.tree) b.reads)) ∙ b.is
