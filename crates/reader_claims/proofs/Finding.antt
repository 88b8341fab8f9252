-- What looks found, as more looks are made.
use Rattle.std.proofs.Common.{◌≡◌, ℕ, ◌+◌, List, [], ◌∷◌, ◌++◌, sym, ap, ◌∙◌, append_assoc}
use Rattle.reader_claims.specs.Notes.{lost}
use Rattle.reader_claims.specs.Views.{sought}
use Rattle.reader_claims.specs.Counts as counts
use Rattle.reader_claims.specs.Counts.{Found, SlotsFound, PinsFound, CountsSlots, CountsPins}
use Rattle.reader_claims.specs.declared.counts.SlotCounts.{SlotCounts}
use Rattle.reader_claims.specs.declared.view.View.{View}
use Rattle.reader_claims.specs.declared.words.Pin.{Pin}
use Rattle.reader_claims.specs.declared.words.SlotState.{SlotState}

-- the one list is the other one with more in front
abbrev pub HasMore : {A : Type 0} → List A → List A → Type 0
HasMore {A} xs ys = (more : List A) × (ys ≡ more ++ xs)

pub then_more : {A : Type 0} (xs ys zs : List A) → HasMore xs ys → HasMore ys zs → HasMore xs zs
then_more xs ys zs a b = (b.0 ++ a.0, b.1 ∙ ap (λ l. b.0 ++ l) a.1 ∙ sym (append_assoc b.0 a.0 xs))

-- after more looks
pub found_later : (v t u : View) (p w : ℕ) → HasMore t.notes u.notes → HasMore t.read u.read → Found v t p w
    → Found v u p w
found_later v t u p w a b (counts.slot i x later before is) = counts.slot i x (a.0 ++ later) before
    (a.1 ∙ ap (λ l. a.0 ++ l) is ∙ sym (append_assoc a.0 later (lost i (sought x) x ∷ (before ++ v.notes))))
found_later v t u p w a b (counts.pin j x later before is) = counts.pin j x (b.0 ++ later) before
    (b.1 ∙ ap (λ l. b.0 ++ l) is ∙ sym (append_assoc b.0 later ((j, x) ∷ (before ++ v.read))))

-- from an earlier view on
pub found_since : (v t u : View) (p w : ℕ) → HasMore v.notes t.notes → HasMore v.read t.read → Found t u p w
    → Found v u p w
found_since v t u p w a b (counts.slot i x later before is) = counts.slot i x later (before ++ a.0)
    (is ∙ ap (λ l. later ++ (lost i (sought x) x ∷ l))
    (ap (λ l. before ++ l) a.1 ∙ sym (append_assoc before a.0 v.notes)))
found_since v t u p w a b (counts.pin j x later before is) = counts.pin j x later (before ++ b.0)
    (is ∙ ap (λ l. later ++ ((j, x) ∷ l)) (ap (λ l. before ++ l) b.1 ∙ sym (append_assoc before b.0 v.read)))

module _ (f g : ℕ → ℕ → Type 0) (up : (p w : ℕ) → f p w → g p w) where
  slots_found : (states : List SlotState) → SlotsFound f states → SlotsFound g states
  slots_found [] h = h
  slots_found (s ∷ states) h = (up _ _ h.0, slots_found states h.1)

  pins_found : (pins : List Pin) → PinsFound f pins → PinsFound g pins
  pins_found [] h = h
  pins_found (p ∷ pins) h = (up _ _ h.0, pins_found pins h.1)

  pub counts_slots : (r n : ℕ) (c : SlotCounts) → CountsSlots f r n c → CountsSlots g r n c
  counts_slots r n c h = (h.0, h.1, slots_found h.0 h.2, h.3)

  pub counts_pins : (n : ℕ) (slots c : SlotCounts) → CountsPins f n slots c → CountsPins g n slots c
  counts_pins n slots c h = (h.0, h.1, pins_found h.0 h.2, h.3)
