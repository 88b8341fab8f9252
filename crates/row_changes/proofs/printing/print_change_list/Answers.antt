use Rattle.std.proofs.Common.{◌≡◌, ◌+◌, List, ℕ, [], ◌∷◌, ◌++◌, map, take, sym, ap, ◌∙◌, append_assoc, arith}
use Rattle.std.proofs.lemmas.List.{take_more}
use Rattle.std.specs.List.{join_with_byte}
use Rattle.push_body.proofs.Writings.{join-push}
use Rattle.row_changes.specs.Texts.{change_text}
use Rattle.row_changes.proofs.printing.print_change_list.Goals as goal

-- a comma and one more text behind what was appended to a start
more_joined : (start joined old comma new more : List ℕ) → old ≡ start ++ joined → comma ≡ old ++ 44 ∷ []
    → new ≡ comma ++ more → new ≡ start ++ (joined ++ 44 ∷ more)
more_joined start joined old comma new more was behind last =
    last ∙ ap (λ s. s ++ more) (behind ∙ ap (λ s. s ++ 44 ∷ []) was) ∙ append_assoc (start ++ joined)
    (44 ∷ []) more ∙ append_assoc start joined (44 ∷ more)

pub loop-change-preserved : goal.loop-change-preserved
loop-change-preserved c =
    let l = c.loop-change in
    let first = l.invariant.first in
    let xs = c.in-Some.rest.now in
    let x = c.change-item.result in
    let front : take (l.change-index + 1) xs
    ≡ take l.change-index xs ++ x ∷ [] = take_more xs l.change-index x (omega arith) ∙ ap
    (λ y. take l.change-index xs ++ y ∷ []) (sym c.change-item.is) in
    let before = join_with_byte 44 (map change_text (first ∷ take l.change-index xs)) in
    let more : join_with_byte 44 (map change_text (first ∷ take (l.change-index + 1) xs))
    ≡ before ++ 44 ∷ change_text x = ap (λ ms. join_with_byte 44 (map change_text (first ∷ ms))) front ∙ join-push
    change_text first (take l.change-index xs) x in
    record {
      first = first;
      all = l.invariant.all;
      written = more_joined _ before _ _ _ (change_text x) l.invariant.written c.in_ok-push.ensures.items
          c.in_ok-print_change-2.ensures ∙ ap (λ s. c.args.out.now.items ++ s) (sym more);
    }
