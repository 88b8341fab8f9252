use Rattle.std.proofs.Common.{◌≡◌, Some, sym, ◌∙◌}
use Rattle.group_history.specs.Refs.{stamp_of}
use Rattle.group_history.specs.Spelling.{Version, map_at}
use Rattle.map_chunks.specs.Places.{with_nodes}
use Rattle.map_nodes.proofs.FreezeLemmas.{nodes-grown}
use Rattle.commit_graph.proofs.Spelled.{map-grown}
use Rattle.change_drafts.specs.Pending.{with_more}
use Rattle.change_drafts.proofs.BelowLemmas.{root-behind}
use Rattle.change_drafts.proofs.NeededLemmas.{needed_last}
use Rattle.map_chunks.proofs.AnswerLemmas.{if_ok_so}
use Rattle.change_drafts.proofs.locals.add_all.Goals as goal

pub add_over-requires : goal.add_over-requires
add_over-requires g c =
    let known = g.K.NamesContents.known in let t = c.requires.tip in let there = c.requires.map in
    let old = c.args.draft.now in let new = c.add_unread.new.draft in let tip = c.in_ok-tip.tip in
    let now : Version = record { state = with_more t.0.state c.args.before.now; read = t.0.read } in
    let map = map-grown (with_nodes known old.nodes) (with_nodes known new.nodes) (stamp_of c.args.root) there.0
    (nodes-grown known old.nodes new.nodes c.add_unread.ensures.grown) there.1 in
    record {
      below = root-behind known new c.args.root there.0 tip now (sym (c.add_unread.ensures.first ∙ c.requires.behind))
          map (c.in_ok-tip.ensures.tip t.0 t.1 t.2);
    }

pub returns-clause-tip : goal.returns-clause-tip
returns-clause-tip g c v m h is_open is =
    let known = g.K.NamesContents.known in let before = c.args.before.now in
    let old = c.args.draft.now in let new = c.add_unread.new.draft in
    let at = c.in_ok-tip.ensures.tip v h is_open in
    let map : map_at (with_nodes known new.nodes) (stamp_of c.args.root) ≡ Some m =
    map-grown (with_nodes known old.nodes) (with_nodes known new.nodes) (stamp_of c.args.root) m
    (nodes-grown known old.nodes new.nodes c.add_unread.ensures.grown) is in
    let behind = sym (c.add_unread.ensures.first ∙ c.requires.behind) in
    let now : Version = record { state = with_more v.state before; read = v.read } in
    c.add_over.ensures.spelled known now m behind at.0 at.2 is_open (c.requires.told v h) map

pub returns-clause-needed : goal.returns-clause-needed
returns-clause-needed g c = if_ok_so c.add_over.result c.add_over.ensures.needed (λ at p.
    needed_last c.args.basis.commit c.args.root c.in_ok-tip.tip.commit c.in_ok-tip.tip.snapshot at.commit
    c.args.draft.now c.add_unread.new.draft c.add_over.new.draft c.in_ok-tip.ensures.needed p)
