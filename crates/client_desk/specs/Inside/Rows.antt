-- Rows that are written as they are read.
use Rattle.std.specs.Prelude.{◌≡◌, Bool, true, false, [], ◌∷◌, map}
use Rattle.std.specs.List.{join_with_byte}
use Rattle.group_history.specs.Map.{Bytes}
use Rattle.group_history.specs.Rows.{Rows}
use Rattle.push_body.specs.Rows.{row_text}
use Rattle.client_desk.specs.declared.rows.RowList.{RowList}

-- whether there are no rows
abbrev pub are_none : Rows → Bool
are_none [] = true
are_none (r ∷ rs) = false

-- the beginning of an array of rows, with commas (44) between them behind its bracket (91); none where there are no
-- rows
abbrev pub begun_array : Rows → Bytes
begun_array [] = []
begun_array (r ∷ rs) = 91 ∷ join_with_byte 44 (map row_text (r ∷ rs))

-- the list has the beginning of an array of these rows
pub record HasRows (list : RowList) (rows : Rows) : Type 0 where
  pub text : list.text.items ≡ begun_array rows
  pub empty : list.is_empty ≡ are_none rows

-- the list has the text that it had
pub record IsSame (old new : RowList) : Type 0 where
  pub text : new.text.items ≡ old.text.items
  pub empty : new.is_empty ≡ old.is_empty
