use Rattle.std.proofs.Common.{◌∙◌, IfErr, IfOk, Some, ap, append-nil, refl, set, subst, sym}
use Rattle.group_history.specs.Rows.{paired}
use Rattle.map_chunks.proofs.SearchLemmas.{found_in}
use Rattle.map_chunks.proofs.Texts.{same_text-is}
use Rattle.map_chunks.specs.Search.{IsAbsent, IsFound}
use Rattle.map_nodes.proofs.ChangeLemmas.{none_there, replaced, put-found}
use Rattle.map_nodes.proofs.LeafRows.{value_absent, value_differs, value_there}
use Rattle.map_nodes.specs.Nodes.{row_pieces}
use Rattle.map_nodes.proofs.nodes.putting.leaves.put_row.Goals as goal

pub returns-then-eq-clause-unput : goal.returns-then-eq-clause-unput
returns-then-eq-clause-unput c =
    let key = c.args.put.key.now in
    let keys = c.args.keys.now.texts in
    let f : IsFound key keys c.in-Ok.place = subst (λ w. IfOk w (IsFound key keys)) c.in-Ok.is c.requires.found in (
      c.args.value,
      value_there key keys c.args.values.now.items c.in-Ok.place c.index.result.now c.requires.keys.1 c.requires.pairs f
          c.index.ensures
          ∙ ap (λ w. Some w) (same_text-is c.index.result.now c.args.value (sym c.eq.ensures ∙ c.if-eq.true)),
      refl,
    )

pub returns-in-Ok-clause-rows : goal.returns-in-Ok-clause-rows
returns-in-Ok-clause-rows c =
    let key = c.args.put.key.now in
    let value = c.args.value in
    let keys = c.args.keys.now.texts in
    let values = c.args.values.now.items in
    let f : IsFound key keys c.in-Ok.place = subst (λ w. IfOk w (IsFound key keys)) c.in-Ok.is c.requires.found in
    let r = found_in key keys values c.in-Ok.place c.requires.keys.1 c.requires.pairs f in
    append-nil (row_pieces (paired keys (set values c.in-Ok.place value)))
    ∙ ap row_pieces (replaced keys values c.in-Ok.place value r.value r.front key r.back c.requires.pairs r.whole r.at
    ∙ sym (put-found key value (paired keys values) c.in-Ok.place r))

pub returns-in-Ok-clause-renewed : goal.returns-in-Ok-clause-renewed
returns-in-Ok-clause-renewed c there =
    let key = c.args.put.key.now in
    let keys = c.args.keys.now.texts in
    let f : IsFound key keys c.in-Ok.place = subst (λ w. IfOk w (IsFound key keys)) c.in-Ok.is c.requires.found in (
      value_differs _ c.index.result.now c.args.value c.eq.result
          (value_there key keys c.args.values.now.items c.in-Ok.place c.index.result.now c.requires.keys.1
          c.requires.pairs f c.index.ensures) c.eq.ensures c.if-eq.false,
      refl,
      refl,
    )

pub returns-in-Err-clause-renewed : goal.returns-in-Err-clause-renewed
returns-in-Err-clause-renewed c there =
    let key = c.args.put.key.now in
    let keys = c.args.keys.now.texts in
    let a : IsAbsent key keys c.in-Err.place = subst (λ w. IfErr w (IsAbsent key keys)) c.in-Err.is c.requires.absent
    in
    absurd (none_there _ there (value_absent key keys c.args.values.now.items c.in-Err.place c.requires.keys.1
    c.requires.pairs a))
