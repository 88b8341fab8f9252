use Rattle.std.proofs.Common.{◌≡◌, List, ap, sym, ◌∙◌}
use Rattle.group_history.specs.declared.refs.Ref.{Ref}
use Rattle.group_history.specs.Map.{Bytes}
use Rattle.group_history.specs.Rows.{paired, keys_of}
use Rattle.group_history.proofs.Pairs.{paired-parts}
use Rattle.commit_graph.specs.Inside.Meeting.{choose, child_for}
use Rattle.commit_graph.proofs.meeting.child_in.Goals as goal

pub returns-in-Inner : goal.returns-in-Inner
returns-in-Inner c =
    let kids = c.in-Inner.inner in
    let keys : c.as_slice.result.now ≡ keys_of kids = cc
    (c.as_slice.ensures.keys, c.deref.ensures, c.firsts.ensures.keys) in
    let whole : paired c.as_slice.result.now c.children.result.now ≡ kids =
    ap (λ (w : List Bytes). paired w c.children.result.now) keys ∙
    (ap (λ (w : List Ref). paired (keys_of kids) w) c.children.ensures ∙ paired-parts kids) in
    c.chosen.ensures ∙ (ap (choose c.args.key.now) whole ∙ ap (child_for c.args.key.now) (sym c.in-Inner.is))
