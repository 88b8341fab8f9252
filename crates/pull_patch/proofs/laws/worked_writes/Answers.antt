use Rattle.std.proofs.Common.{refl}
use Rattle.std.specs.FinMap.{gets}
use Rattle.std.specs.Fmt.{digits}
use Rattle.std.specs.Str.{is_utf8, chars}
use Rattle.group_history.specs.Json.{reading}
use Rattle.serde_json.proofs.OnLiterals.{serde_json_on_literals}
use Rattle.pull_patch.specs.Operations.{edit_of, put_of, del_of}
use Rattle.pull_patch.specs.Writes.{writes_in, writes_of, list_writes, write_edits, write_edit, write_of}
use Rattle.pull_patch.proofs.laws.worked_writes.Goals as goal

pub returns : goal.returns
unfolding writes_in writes_of list_writes write_edits write_edit write_of edit_of put_of del_of reading is_utf8 chars
    digits serde_json_on_literals
returns c = record {
  put_and_del = refl;
  nothing = refl;
  clear_is_none = refl;
  no_list = refl;
  write_not_whole = refl;
  last_counts = simp gets refl;
}
