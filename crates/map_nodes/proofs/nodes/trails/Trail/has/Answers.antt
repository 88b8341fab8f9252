use Rattle.std.proofs.Common.{◌≡◌, ◌∙◌, ap, length, sym, is_some, nat_cmp, subst}
use Rattle.std.specs.Arc.{arc_value}
use Rattle.std.specs.Cmp.Lexicographic.{slice_cmp}
use Rattle.std.specs.FinMap.{find}
use Rattle.group_history.specs.Rows.{paired}
use Rattle.map_chunks.specs.Seeking.{is_key_in}
use Rattle.map_chunks.specs.Shown.{Seen, shown, IsTree, rows_or}
use Rattle.map_nodes.specs.Trails.{steps_seen}
use Rattle.map_nodes.proofs.TrailLemmas.{steps_end}
use Rattle.map_nodes.proofs.nodes.trails.Trail.has.Goals as goal

pub returns-in-None-clause-has : goal.returns-in-None-clause-has
returns-in-None-clause-has g c =
    let p = g.C.Chunks.contents c.args.chunks.now in
    let e = c.self.inside.end in
    let rows = paired (arc_value e.keys) e.values.items in
    let key = c.new-searched.result in
    let keys : c.as_slice.result.now ≡ arc_value e.keys = c.as_slice.ensures.keys ∙ c.deref-in-None.ensures in
    let same : length e.values.items ≡ length c.as_slice.result.now =
    (steps_end c.self.inside.steps.items e c.self.invariant).1 ∙ ap length (sym keys) in
    let seen : steps_seen c.deref.result.now e ≡ c.args.self.now =
    ap (λ ss. steps_seen ss e) c.deref.ensures.value ∙ c.self.view_is in
    let found =
    subst (λ (s : Seen). IsTree (shown p s.pieces)
    → find (slice_cmp nat_cmp) key rows ≡ find (slice_cmp nat_cmp) key (rows_or (shown p s.pieces))) seen
    (c.in-None.ensures p) c.requires.tree in
    c.has_key.ensures e.values.items same ∙ ap (λ w. is_key_in (paired w e.values.items) key) keys ∙ ap is_some found
    ∙ ap (is_key_in (rows_or (shown p c.args.self.now.pieces))) c.new-searched.ensures
