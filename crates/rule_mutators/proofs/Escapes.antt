-- A name that is written with its escapes, a character at a time.
use Rattle.std.proofs.Common.{◌≡◌, ◌+◌, ◌<◌, ℕ, ◌++◌, List, length, drop, get_or, sym, ap, ◌∙◌, append_assoc}
use Rattle.std.proofs.lemmas.List.{at_drop_more}
use Rattle.rule_mutators.specs.Reading.{escaped_char, escaped_chars}

pub escaped-turn : (cs old : List ℕ) (n c : ℕ) → (n < length cs) × (c ≡ get_or cs n c)
    → (old ++ escaped_char c) ++ escaped_chars (drop (n + 1) cs) ≡ old ++ escaped_chars (drop n cs)
escaped-turn cs old n c h =
    let left = escaped_chars (drop (n + 1) cs) in
    append_assoc old (escaped_char c) left
    ∙ ap (λ t. old ++ t) (ap (λ d. escaped_char d ++ left) h.1 ∙ sym (at_drop_more escaped_chars cs n c h.0))
