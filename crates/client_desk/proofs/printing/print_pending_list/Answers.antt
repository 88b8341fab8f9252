use Rattle.std.proofs.Common.{◌≡◌, ◌+◌, [], ◌∷◌, ◌++◌, map, take, sym, ap, ◌∙◌, arith}
use Rattle.std.proofs.lemmas.List.{take_more}
use Rattle.std.specs.List.{join_with_byte}
use Rattle.push_body.proofs.Writings.{join-push}
use Rattle.push_body.specs.Rows.{pending_row}
use Rattle.client_desk.proofs.Joining.{more_joined}
use Rattle.client_desk.proofs.printing.print_pending_list.Goals as goal

pub loop-mutation-preserved : goal.loop-mutation-preserved
loop-mutation-preserved c =
    let l = c.loop-mutation in
    let first = l.invariant.first in
    let xs = c.in-Some.rest.now in
    let x = c.mutation-item.result in
    let front : take (l.mutation-index + 1) xs
    ≡ take l.mutation-index xs ++ x ∷ [] = take_more xs l.mutation-index x (omega arith) ∙ ap
    (λ y. take l.mutation-index xs ++ y ∷ []) (sym c.mutation-item.is) in
    let before = join_with_byte 44 (map pending_row (first ∷ take l.mutation-index xs)) in
    let more : join_with_byte 44 (map pending_row (first ∷ take (l.mutation-index + 1) xs))
    ≡ before ++ 44 ∷ pending_row x = ap (λ ms. join_with_byte 44 (map pending_row (first ∷ ms))) front ∙ join-push
    pending_row first (take l.mutation-index xs) x in
    record {
      first = first;
      all = l.invariant.all;
      written = more_joined _ before _ _ _ (pending_row x) l.invariant.written c.in_ok-push.ensures.items
          c.in_ok-print_pending_row-2.ensures ∙ ap (λ s. c.args.out.now.items ++ s) (sym more);
    }
