-- The body of a push as it grows.
use Rattle.std.proofs.Common.{◌≡◌, List, [], ◌∷◌, ◌++◌, true, refl, sym, ap, ◌∙◌, append_assoc}
use Rattle.std.proofs.lemmas.List.Folds.{concat-append}
use Rattle.group_history.specs.declared.mutations.MutationFields.{MutationFields as Mutation}
use Rattle.group_history.specs.Map.{Bytes}
use Rattle.push_body.specs.declared.identities.Identity.{Identity}
use Rattle.push_body.specs.Bodies.{mutation_text, mutations_text, push_text}
use Rattle.push_body.specs.Written.{head_text, tail_text, comma_text, has_any}
use Rattle.push_body.proofs.Pieces.{head_pieces, tail_pieces}
use Rattle.push_body.proofs.Writings.{join-push}

-- a push is its head, its mutations and its tail
pub push-parts : (i : Identity) (ms : List Mutation)
    → (head_text i ++ mutations_text ms) ++ tail_text i ≡ push_text i ms
unfolding push_text head_text tail_text
push-parts i ms =
    append_assoc (head_text i) (mutations_text ms) (tail_text i)
    ∙ sym (concat-append (head_pieces i) (mutations_text ms ∷ tail_pieces i))

mutations-more : (ms : List Mutation) (m : Mutation)
    → mutations_text (ms ++ m ∷ []) ≡ (mutations_text ms ++ comma_text (has_any ms)) ++ mutation_text m
mutations-more [] m = refl
mutations-more (first ∷ ms) m =
    join-push mutation_text first ms m
    ∙ sym (append_assoc (mutations_text (first ∷ ms)) (44 ∷ []) (mutation_text m))

pub body-more : (i : Identity) (ms : List Mutation) (m : Mutation)
    → ((head_text i ++ mutations_text ms) ++ comma_text (has_any ms)) ++ mutation_text m
    ≡ head_text i ++ mutations_text (ms ++ m ∷ [])
body-more i ms m =
    ap (λ (w : Bytes). w ++ mutation_text m) (append_assoc (head_text i) (mutations_text ms) (comma_text (has_any ms)))
    ∙ append_assoc (head_text i) (mutations_text ms ++ comma_text (has_any ms)) (mutation_text m)
    ∙ ap (λ (w : Bytes). head_text i ++ w) (sym (mutations-more ms m))

pub has_any-more : (ms : List Mutation) (m : Mutation) → has_any (ms ++ m ∷ []) ≡ true
has_any-more [] m = refl
has_any-more (first ∷ ms) m = refl
