use Rattle.std.proofs.Common.{List, sym, subst}
use Rattle.group_history.specs.Map.{patched}
use Rattle.group_history.specs.State.{pulled_state}
use Rattle.group_history.specs.declared.responses.Patch.{Patch}
use Rattle.change_drafts.specs.Chaining.{HasTip}
use Rattle.map_chunks.specs.Places.{with_nodes}
use Rattle.group_history.specs.Refs.{stamp_of}
use Rattle.group_history.specs.Spelling.{map_at}
use Rattle.map_chunks.proofs.Shelves.{some_of}
use Rattle.map_tree.proofs.BelowLemmas.{tree-behind}
use Rattle.change_drafts.proofs.pulls.add_patched.Goals as goal

pub returns-clause-tip : goal.returns-clause-tip
returns-clause-tip g c m h =
    let known = g.K.NamesContents.known in let pull = c.args.pull.now in
    let P : List Patch → Type 0 = λ ops. HasTip
    (with_nodes known c.add_answered.new.draft.nodes) c.in_ok-tip.tip
    (record { state = pulled_state (patched m ops) pull.cookie c.args.confirmed; read = patched m ops }) in
    subst P c.patch.ensures (c.in_ok-tip.ensures.tip known (patched m c.patch.result.now) (sym c.requires.behind)
    (c.in_ok-tree.ensures.map m h))

pub add_answered-requires : goal.add_answered-requires
add_answered-requires g c =
    let known = g.K.NamesContents.known in
    let m = some_of (map_at (with_nodes known c.args.draft.now.nodes) (stamp_of c.args.root)) c.requires.map in
    record {
      map = tree-behind known c.args.draft.now c.in_ok-tree.tree (patched m.0 c.patch.result.now)
          (sym c.requires.behind) (c.in_ok-tree.ensures.map m.0 m.1);
    }
