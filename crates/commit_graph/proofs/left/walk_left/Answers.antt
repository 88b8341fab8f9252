use Rattle.std.proofs.Common.{List, [], ◌++◌, reverse, ap, sym, ◌∙◌}
use Rattle.std.proofs.lemmas.List.{append-nil}
use Rattle.group_history.specs.declared.mutations.MutationFields.{MutationFields as Mutation}
use Rattle.group_history.specs.Refs.{stamp_of}
use Rattle.group_history.specs.Pulling.{left_pending}
use Rattle.group_history.proofs.Lists.{prefix_self}
use Rattle.map_chunks.proofs.KeptLemmas.{grows_on}
use Rattle.commit_graph.specs.Inside.Chains.{listed}
use Rattle.commit_graph.specs.Inside.Handing.{added_in}
use Rattle.commit_graph.proofs.Rooted.{link_may}
use Rattle.commit_graph.proofs.Chained.{descent_begins, descent_step, descent_ends, no_link, none_from}
use Rattle.commit_graph.proofs.Lefts.{left_append, left_reversed, link_over, no_basis, none_added}
use Rattle.commit_graph.proofs.left.walk_left.Goals as goal

pub loop-left-init : goal.loop-left-init
loop-left-init g c =
    let m = g.N.Chunks.contents c.args.nodes.now in (
      ([], descent_begins m (stamp_of c.args.head) c.requires.known (prefix_self m), c.new.ensures.items),
      tt,
      c.requires.place,
      (prefix_self m, λ r h. h),
    )

pub loop-left-smaller : goal.loop-left-smaller
loop-left-smaller g c =
    let m = g.N.Chunks.contents in let k = c.in_ok-basis.ensures.kept c.loop-left.invariant.1 in
    (descent_step (m c.args.nodes.now) (m c.loop-left.nodes) (m c.keep_at.new.nodes) (stamp_of c.args.head)
    (stamp_of c.loop-left.at) c.loop-left.invariant.0.0 k.0 _
    c.loop-left.invariant.0.1 c.keep_at.ensures.grown.0 k.1.1
    (link_over k.0 c.in-Some.basis (sym k.2 ∙ c.in-Some.is))).0

pub loop-left-preserved : goal.loop-left-preserved
loop-left-preserved g c =
    let m = g.N.Chunks.contents in let k = c.in_ok-basis.ensures.kept c.loop-left.invariant.1 in
    let link = link_over k.0 c.in-Some.basis (sym k.2 ∙ c.in-Some.is) in
    let met = c.loop-left.invariant.0.0 in
    let d = descent_step (m c.args.nodes.now) (m c.loop-left.nodes) (m c.keep_at.new.nodes)
    (stamp_of c.args.head) (stamp_of c.loop-left.at) met k.0 _
    c.loop-left.invariant.0.1 c.keep_at.ensures.grown.0 k.1.1 link in
    let may = g.N.Chunks.places c.keep_at.new.nodes in (
      (
        met ++ listed (added_in k.0.kind),
        d.1,
        k.3.kept
            ∙ ap (λ (w : List Mutation). w ++ left_pending c.args.ids.now (listed (added_in k.0.kind)))
            c.loop-left.invariant.0.2
            ∙ sym (left_append c.args.ids.now met (listed (added_in k.0.kind))),
      ),
      k.3.asked,
      link_may may (m c.keep_at.new.nodes) (stamp_of c.loop-left.at) k.0 _ k.1 link,
      grows_on m g.N.Chunks.places c.args.nodes.now c.loop-left.nodes c.keep_at.new.nodes
          c.loop-left.invariant.3 c.keep_at.ensures.grown,
    )

pub returns-clause-left : goal.returns-clause-left
returns-clause-left g c v h =
    let m = g.N.Chunks.contents in let k = c.in_ok-basis.ensures.kept c.loop-left.invariant.1 in
    let met = c.loop-left.invariant.0.0 in
    let last = sym k.2 ∙ none_from c.in_ok-basis.field-0 c.in_default.not-Some in
    let all = k.3.kept
    ∙ ap (λ (w : List Mutation). c.loop-left.left.mutations.items ++ left_pending c.args.ids.now w)
    (none_added k.0 last) ∙ append-nil c.loop-left.left.mutations.items ∙ c.loop-left.invariant.0.2 in
    c.reverse.ensures.items
    ∙ ap (λ (w : List Mutation). reverse w) all
    ∙ left_reversed c.args.ids.now met
    ∙ ap (left_pending c.args.ids.now)
    (descent_ends (m c.args.nodes.now) (m c.loop-left.nodes) (m c.keep_at.new.nodes) (stamp_of c.args.head)
    (stamp_of c.loop-left.at) met k.0 c.loop-left.invariant.0.1
    c.keep_at.ensures.grown.0 k.1.1 (no_link k.0 (no_basis k.0 last)) v h)
