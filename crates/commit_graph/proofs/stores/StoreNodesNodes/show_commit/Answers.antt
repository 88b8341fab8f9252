use Rattle.std.proofs.Common.{◌≡◌, Some, ap, sym, subst, ◌∙◌}
use Rattle.std.specs.Prelude.{IsSome, slice_get}
use Rattle.group_history.specs.Naming.{content_of}
use Rattle.group_history.specs.Refs.{stamp_of}
use Rattle.head_word.specs.Books.{drawn}
use Rattle.chunk_slots.specs.Contents.{Content, IsContent}
use Rattle.commit_graph.proofs.Marked.{commit_known, commit_content_of, if_ok}
use Rattle.commit_graph.proofs.stores.StoreNodesNodes.show_commit.Goals as goal

pub returns-clause-content : goal.returns-clause-content
returns-clause-content g c =
    let mine = c.args.self.now.mark.now.log in
    let shown = c.in_ok-shown.shown in
    let k = stamp_of c.args.at in
    let same = c.in_ok-shown.ensures.stamp ∙ c.stamp.ensures.stamp in
    let agrees = subst (λ i. IsSome (slice_get (drawn mine) i) → IsContent mine i shown.node) same c.agrees.ensures in
    let at = agrees (commit_known (drawn mine) k c.requires.known) in
    if_ok _ _ c.hold_commit.result
    (λ held is. commit_content_of (drawn mine) k held.shown.node held.kind
    (subst (λ n. slice_get (drawn mine) k ≡ Some (content_of n)) (sym (ap (λ (w : Content). w.node) is)) at))
    c.hold_commit.ensures.held
