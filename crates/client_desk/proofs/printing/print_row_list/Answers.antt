use Rattle.std.proofs.Common.{◌≡◌, ◌+◌, [], ◌∷◌, ◌++◌, map, take, sym, ap, ◌∙◌, arith}
use Rattle.std.proofs.lemmas.List.{take_more}
use Rattle.std.specs.List.{join_with_byte}
use Rattle.push_body.proofs.Writings.{join-push}
use Rattle.push_body.specs.Rows.{row_text}
use Rattle.client_desk.proofs.Joining.{more_joined}
use Rattle.client_desk.proofs.printing.print_row_list.Goals as goal

pub loop-row-preserved : goal.loop-row-preserved
loop-row-preserved c =
    let l = c.loop-row in
    let first = l.invariant.first in
    let xs = c.in-Some.rest.now in
    let x = c.row-item.result in
    let front : take (l.row-index + 1) xs ≡ take l.row-index xs ++ x
    ∷ [] = take_more xs l.row-index x (omega arith) ∙ ap (λ y. take l.row-index xs ++ y ∷ []) (sym c.row-item.is) in
    let before = join_with_byte 44 (map row_text (first ∷ take l.row-index xs)) in
    let more : join_with_byte 44 (map row_text (first ∷ take (l.row-index + 1) xs))
    ≡ before ++ 44 ∷ row_text x = ap (λ ms. join_with_byte 44 (map row_text (first ∷ ms))) front ∙ join-push
    row_text first (take l.row-index xs) x in
    record {
      first = first;
      all = l.invariant.all;
      written = more_joined _ before _ _ _ (row_text x) l.invariant.written c.in_ok-push.ensures.items
          c.in_ok-print_row-2.ensures.all ∙ ap (λ s. c.args.out.now.items ++ s) (sym more);
    }
