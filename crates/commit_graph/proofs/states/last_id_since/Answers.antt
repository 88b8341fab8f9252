use Rattle.std.proofs.Common.{◌∙◌, sym}
use Rattle.group_history.specs.Refs.{stamp_of}
use Rattle.group_history.specs.State.{last_id}
use Rattle.group_history.proofs.Lists.{prefix_self}
use Rattle.commit_graph.proofs.Chained.{search_begins, search_ends}
use Rattle.commit_graph.proofs.states.last_id_since.Goals as goal

pub returns-in-Some-clause-id : goal.returns-in-Some-clause-id
returns-in-Some-clause-id g c v h =
    let m = g.N.Chunks.contents c.args.nodes.now in let client = c.args.client.now in
    let f = c.in-Some.ensures in
    sym f.3 ∙ search_ends m m client (last_id v.state client) c.args.head (stamp_of f.0.at) f.0.id
    (search_begins m c.args.head client v h (c.requires.ids v h)) (prefix_self m) f.2 (c.requires.before f.0 f.1)
