use Rattle.std.proofs.Common.{refl}
use Rattle.std.specs.Fmt.{digits}
use Rattle.std.specs.Str.{is_utf8, chars}
use Rattle.group_history.specs.Json.{reading}
use Rattle.group_history.specs.Cookies.{cookie_of}
use Rattle.serde_json.proofs.OnLiterals.{serde_json_on_literals}
use Rattle.pull_patch.specs.Operations.{edits_of, edit_of, put_of, del_of, operation_of}
use Rattle.pull_patch.specs.Changes.{entries_of, entry_of, id_of, confirmed_said}
use Rattle.pull_patch.specs.Grammar.{answer_to, response_of, error_of, kind_of, pull_response, fields_of, pull_of}
use Rattle.pull_patch.specs.Grammar.{cookie_said}
use Rattle.pull_patch.proofs.laws.worked_bodies.Goals as goal

pub returns : goal.returns
unfolding answer_to response_of error_of kind_of pull_response fields_of pull_of cookie_said edits_of edit_of put_of
    del_of operation_of entries_of entry_of id_of confirmed_said cookie_of reading is_utf8 chars digits
    serde_json_on_literals
returns c = record {
  first_pull = refl;
  shape_first = refl;
  put_not_whole = refl;
  null_error = refl;
  unknown_kind = refl;
  cookie_twice = refl;
  unknown_float = refl;
  greatest_id = refl;
  id_too_great = refl;
  object_cookie = refl;
  put_without_value = refl;
  del_and_clear = refl;
}
