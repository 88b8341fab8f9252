-- Why bytes are no response: they are no JSON, of another shape, or have a number that is not whole.
use Rattle.std.proofs.Common.{◌≡◌, Bool, true, false, Option, Some, None, Result, Ok, Err, codes, ap, subst}
use Rattle.std.specs.Prelude.{if◌then◌else◌, bytes_eq, ok_or, option_map}
use Rattle.std.specs.Str.{is_utf8}
use Rattle.serde_json.specs.Data.{Data}
use Rattle.serde_json.specs.Find.{get, as_str}
use Rattle.serde_json.specs.Read.{read}
use Rattle.group_history.specs.declared.refusals.Refusal.{Refusal}
use Rattle.group_history.specs.declared.refusals.Refusal.TheVariants.{NotJson, BadShape, NotWhole}
use Rattle.group_history.specs.declared.responses.Response.TheVariants as response
use Rattle.group_history.specs.Answers.{◌>>=◌}
use Rattle.group_history.specs.Json.{or_not_json, reading}
use Rattle.group_history.specs.Map.{Bytes}
use Rattle.pull_patch.specs.Grammar.{Fields, answer_to, by_error, error_named, error_of, fields_of, kind_of, pull_of}
use Rattle.pull_patch.specs.Grammar.{pull_response, response_of}

-- what holds of the three refusals
record OfThese (P : Refusal → Type 0) : Type 0 where
  json : P NotJson
  shape : P BadShape
  whole : P NotWhole

-- it holds of the refusal
abbrev Refused : {X : Type 0} → (Refusal → Type 0) → Result X Refusal → Type 0
Refused P r = (e : Refusal) → r ≡ Err e → P e

by_err : {X : Type 0} (P : Refusal → Type 0) (e : Refusal) → P e → Refused {X = X} P (Err e)
by_err P e h w is = let same : e ≡ w = cc is in subst P same h

by_ok : {X : Type 0} (P : Refusal → Type 0) (x : X) → Refused P (Ok x)
by_ok P x e is = absurd (cc is)

by_if : {X : Type 0} (P : Refusal → Type 0) (b : Bool) (x y : Result X Refusal) → Refused P x → Refused P y
    → Refused P (let w : Result X Refusal = if b then x else y in w)
by_if P true x y h k = h
by_if P false x y h k = k

by_bind : {X Y : Type 0} (P : Refusal → Type 0) (r : Result X Refusal) (f : X → Result Y Refusal) → Refused P r
    → ((x : X) → Refused P (f x)) → Refused P (r >>= f)
by_bind P (Ok x) f h k = k x
by_bind P (Err e) f h k = λ w is. h w (let same : e ≡ w = cc is in ap Err same)

by_or : {X : Type 0} (P : Refusal → Type 0) (o : Option X) (e : Refusal) → P e → Refused P (ok_or o e)
by_or P None e h = by_err P e h
by_or P (Some x) e h = by_ok P x

of_json : (P : Refusal → Type 0) (o : Option Data) → OfThese P → Refused P (or_not_json o)
of_json P None h = by_err P NotJson h.json
of_json P (Some d) h = by_ok P d

of_reading : (P : Refusal → Type 0) (bytes : Bytes) → OfThese P → Refused P (reading bytes)
unfolding reading
of_reading P bytes h = by_if P (is_utf8 bytes) (or_not_json (read bytes)) (Err NotJson) (of_json P (read bytes) h)
    (by_err P NotJson h.json)

of_pull : (P : Refusal → Type 0) (d : Data) → OfThese P → Refused P (pull_response d)
unfolding pull_response
of_pull P d h =
    by_bind P (ok_or (fields_of d) BadShape) (λ (f : Fields). ok_or (option_map response.Ok (pull_of f)) NotWhole)
    (by_or P (fields_of d) BadShape h.shape) (λ f. by_or P (option_map response.Ok (pull_of f)) NotWhole h.whole)

of_named : (P : Refusal → Type 0) (name : Bytes) (d : Data) → OfThese P → Refused P (error_named name d)
of_named P name d h =
    by_if P (bytes_eq name (codes "ClientStateNotFound")) (Ok response.StateNotFound)
    (if bytes_eq name (codes "VersionNotSupported") then Ok
    (response.VersionNotSupported (kind_of d)) else Err BadShape) (by_ok P response.StateNotFound)
    (by_if P (bytes_eq name (codes "VersionNotSupported")) (Ok (response.VersionNotSupported (kind_of d)))
    (Err BadShape) (by_ok P (response.VersionNotSupported (kind_of d))) (by_err P BadShape h.shape))

of_error : (P : Refusal → Type 0) (x d : Data) → OfThese P → Refused P (error_of x d)
unfolding error_of
of_error P x d h = by_bind P (ok_or (as_str x) BadShape) (λ name. error_named name d)
    (by_or P (as_str x) BadShape h.shape) (λ name. of_named P name d h)

of_either : (P : Refusal → Type 0) (o : Option Data) (d : Data) → OfThese P → Refused P (by_error o d)
of_either P None d h = of_pull P d h
of_either P (Some x) d h = of_error P x d h

of_response : (P : Refusal → Type 0) (d : Data) → OfThese P → Refused P (response_of d)
unfolding response_of
of_response P d h = of_either P (get (codes "error") d) d h

-- what holds of the three holds of each refusal of bytes
pub refused_for : (P : Refusal → Type 0) → P NotJson → P BadShape → P NotWhole → (bytes : Bytes) (e : Refusal)
    → answer_to bytes ≡ Err e → P e
unfolding answer_to
refused_for P json shape whole bytes =
    let h : OfThese P = record { json = json; shape = shape; whole = whole } in
    by_bind P (reading bytes) response_of (of_reading P bytes h) (λ d. of_response P d h)
