-- Texts that are appended with commas between them.
use Rattle.std.proofs.Common.{◌≡◌, ℕ, true, false, List, [], ◌∷◌, ◌++◌, Result, Ok, Err, ap, sym, ◌∙◌, append_assoc}
use Rattle.std.specs.Prelude.{OnOk}
use Rattle.group_history.specs.Map.{Bytes}
use Rattle.group_history.specs.Rows.{Rows}
use Rattle.map_chunks.specs.Sinks.{HasMore, HasStill}
use Rattle.push_body.proofs.Writings.{join-push}
use Rattle.push_body.specs.Rows.{row_text}
use Rattle.client_desk.specs.declared.rows.RowList.{RowList}
use Rattle.client_desk.specs.Inside.Rows.{HasRows, IsSame}

-- a comma and one more text behind what was appended to a start
pub more_joined : (start joined old comma new more : List ℕ) → old ≡ start ++ joined → comma ≡ old ++ 44 ∷ []
    → new ≡ comma ++ more → new ≡ start ++ (joined ++ 44 ∷ more)
more_joined start joined old comma new more was behind last =
    last ∙ ap (λ s. s ++ more) (behind ∙ ap (λ s. s ++ 44 ∷ []) was) ∙ append_assoc (start ++ joined)
    (44 ∷ []) more ∙ append_assoc start joined (44 ∷ more)

-- one row more in a list
rows_more : (old new : RowList) (rows : Rows) (x : Bytes × Bytes) → HasRows old rows → new.is_empty ≡ false
    → (old.is_empty ≡ true → new.text.items ≡ old.text.items ++ 91 ∷ row_text x)
    → (old.is_empty ≡ false → new.text.items ≡ old.text.items ++ 44 ∷ row_text x) → HasRows new (rows ++ x ∷ [])
rows_more old new [] x h e first next =
    record { text = first h.empty ∙ ap (λ (t : Bytes). t ++ 91 ∷ row_text x) h.text; empty = e }
rows_more old new (r ∷ rs) x h e first next = record {
  text = next h.empty ∙ (ap (λ (t : Bytes). t ++ 44 ∷ row_text x) h.text
      ∙ ap (λ (t : Bytes). 91 ∷ t) (sym (join-push row_text r rs x)));
  empty = e;
}

-- a list that has the text that it had has the rows that it had
pub rows_still : (old new : RowList) → IsSame old new → HasStill HasRows old new
rows_still old new s rows h = record { text = s.text ∙ h.text; empty = s.empty ∙ h.empty }

pub row_taken : {X E : Type 0} (r : Result X E) (old new : RowList) (x : Bytes × Bytes) → OnOk r (new.is_empty ≡ false)
    → (old.is_empty ≡ true → OnOk r (new.text.items ≡ old.text.items ++ 91 ∷ row_text x))
    → (old.is_empty ≡ false → OnOk r (new.text.items ≡ old.text.items ++ 44 ∷ row_text x))
    → OnOk r (HasMore HasRows old new (x ∷ []))
row_taken (Ok done) old new x e first next = λ rows h. rows_more old new rows x h e first next
row_taken (Err refused) old new x e first next = _
