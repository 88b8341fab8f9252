-- What is appended: by a writer of one token, by pieces one after another, and by one more text of a list with commas.
use Rattle.std.proofs.Common.{◌≡◌, ℕ, List, [], ◌∷◌, ◌++◌, map, fold, refl, sym, ap, ◌∙◌, append_assoc, append-nil}
use Rattle.std.specs.List.{concat, join_with_byte}
use Rattle.json.specs.Token.{Token}
use Rattle.json.specs.Print.{print, print_from, token_text}
use Rattle.json.specs.Written.{Written}

print-one : (t : Token) → print (t ∷ []) ≡ token_text t
unfolding print_from
print-one t = append-nil (token_text t)

-- a writer that was given one token has that token's text
pub print-first : (old new : Written) (t : Token) → old.tokens ≡ [] → new.tokens ≡ old.tokens ++ t ∷ []
    → print new.tokens ≡ token_text t
print-first old new t none one = ap print (one ∙ ap (λ ts. ts ++ t ∷ []) none) ∙ print-one t

-- pieces that are appended one after another
pub fold-append : (start : List ℕ) (pieces : List (List ℕ)) → fold (λ s p. s ++ p) start pieces ≡ start ++ concat pieces
fold-append start [] = sym (append-nil start)
fold-append start (p ∷ ps) = fold-append (start ++ p) ps ∙ append_assoc start p (concat ps)

-- one more text in a list that is not empty
pub join-push : {A : Type 0} (text : A → List ℕ) (first : A) (xs : List A) (x : A)
    → join_with_byte 44 (map text (first ∷ (xs ++ x ∷ []))) ≡ join_with_byte 44 (map text (first ∷ xs)) ++ 44 ∷ text x
join-push text first [] x = refl
join-push text first (y ∷ xs) x = ap (λ s. text first ++ 44 ∷ s) (join-push text y xs x) ∙ sym
    (append_assoc (text first) (44 ∷ join_with_byte 44 (map text (y ∷ xs))) (44 ∷ text x))
