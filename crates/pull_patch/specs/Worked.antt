-- The grammar at bodies that are written out.
use Rattle.std.specs.Prelude.{ℕ, ◌≡◌, List, codes, pos, [], ◌∷◌, Some, Result, Ok, Err}
use Rattle.std.specs.FinMap as finite
use Rattle.group_history.specs.declared.refusals.Refusal.{Refusal}
use Rattle.group_history.specs.declared.refusals.Refusal.TheVariants.{BadShape, NotWhole}
use Rattle.group_history.specs.declared.cookies.Order.TheVariants as order
use Rattle.group_history.specs.declared.responses.Response.{Response}
use Rattle.group_history.specs.declared.responses.Response.TheVariants as response
use Rattle.group_history.specs.declared.responses.VersionKind.TheVariants as kind
use Rattle.group_history.specs.declared.responses.Confirmed.{Confirmed}
use Rattle.group_history.specs.declared.responses.Patch.{Patch}
use Rattle.group_history.specs.declared.responses.Patch.TheVariants.{Put, Del, Clear}
use Rattle.group_history.specs.Map.{Bytes}
use Rattle.pull_patch.specs.declared.writes.Write.TheVariants as write
use Rattle.pull_patch.specs.Grammar.{ReadsAs}
use Rattle.pull_patch.specs.Writes.{writes_in, written}

-- a response whose cookie is the number n
abbrev pub pulled : Bytes → ℕ → List Confirmed → List Patch → Result Response Refusal
pulled text n changes patch = Ok (response.Ok
    (record { cookie = record { text = text; order = order.Number (pos n) }; changes = changes; patch = patch }))

pub record WorkedBodies : Type 0 where
  pub first_pull :
      ReadsAs
      (codes "{\"cookie\":1,\"lastMutationIDChanges\":{},\"patch\":[{\"op\":\"put\",\"key\":\"n\",\"value\":5}]}")
      (pulled (codes "1") 1 [] (Put (codes "n") (codes "5") ∷ []))
  -- the shape goes before whole numbers
  pub shape_first : ReadsAs (codes "{\"cookie\":1.5,\"lastMutationIDChanges\":{}}") (Err BadShape)
  pub put_not_whole :
      ReadsAs
      (codes "{\"cookie\":1,\"lastMutationIDChanges\":{},\"patch\":[{\"op\":\"put\",\"key\":\"n\",\"value\":1.5}]}")
      (Err NotWhole)
  -- a field `error` makes an error response, whatever its value
  pub null_error : ReadsAs (codes "{\"error\":null,\"cookie\":1,\"lastMutationIDChanges\":{},\"patch\":[]}")
      (Err BadShape)
  pub unknown_kind : ReadsAs (codes "{\"error\":\"VersionNotSupported\",\"versionType\":\"PUSH\"}")
      (Ok (response.VersionNotSupported kind.Unknown))
  -- of two fields of one name the last counts
  pub cookie_twice : ReadsAs (codes "{\"cookie\":1.5,\"cookie\":2,\"lastMutationIDChanges\":{},\"patch\":[]}")
      (pulled (codes "2") 2 [] [])
  -- numbers of unknown fields aren't looked at
  pub unknown_float : ReadsAs (codes "{\"x\":1.5,\"cookie\":2,\"lastMutationIDChanges\":{},\"patch\":[]}")
      (pulled (codes "2") 2 [] [])
  -- ids go up to 2^52
  pub greatest_id :
      ReadsAs (codes "{\"cookie\":2,\"lastMutationIDChanges\":{\"a\":4503599627370496},\"patch\":[]}")
      (pulled (codes "2") 2 (record { client = codes "a"; id = 4503599627370496 } ∷ []) [])
  pub id_too_great : ReadsAs (codes "{\"cookie\":2,\"lastMutationIDChanges\":{\"a\":4503599627370497},\"patch\":[]}")
      (Err BadShape)
  -- an object is compared by its `order`, and its other fields are part of it
  pub object_cookie :
      ReadsAs (codes "{\"cookie\":{\"order\":2,\"by\":4},\"lastMutationIDChanges\":{},\"patch\":[]}")
      (pulled (codes "{\"by\":4,\"order\":2}") 2 [] [])
  -- a put needs a value
  pub put_without_value : ReadsAs
      (codes "{\"cookie\":2,\"lastMutationIDChanges\":{},\"patch\":[{\"op\":\"put\",\"key\":\"n\"}]}") (Err BadShape)
  -- operations in order
  pub del_and_clear :
      ReadsAs
      (codes
      "{\"cookie\":2,\"lastMutationIDChanges\":{},\"patch\":[{\"op\":\"del\",\"key\":\"n\"},{\"op\":\"clear\"}]}")
      (pulled (codes "2") 2 [] (Del (codes "n") ∷ Clear ∷ []))

pub record WorkedWrites : Type 0 where
  -- writes in order
  pub put_and_del :
      writes_in (codes "[{\"op\":\"put\",\"key\":\"n\",\"value\":[ 5 ]},{\"key\":\"n\",\"op\":\"del\"}]")
      ≡ Ok (write.Put (codes "n") (codes "[5]") ∷ write.Del (codes "n") ∷ [])
  pub nothing : writes_in (codes "[]") ≡ Ok []
  -- `clear` is none; the shape of all goes before whole numbers
  pub clear_is_none :
      writes_in (codes "[{\"op\":\"put\",\"key\":\"n\",\"value\":1.5},{\"op\":\"clear\"}]") ≡ Err BadShape
  pub no_list : writes_in (codes "{\"op\":\"del\",\"key\":\"n\"}") ≡ Err BadShape
  pub write_not_whole : writes_in (codes "[{\"op\":\"put\",\"key\":\"n\",\"value\":1.5}]") ≡ Err NotWhole
  -- of two writes at one key the last counts
  pub last_counts :
      finite.get (written (write.Put (codes "n") (codes "1") ∷ write.Put (codes "n") (codes "2") ∷ []) finite.empty)
      (codes "n") ≡ Some (codes "2")
