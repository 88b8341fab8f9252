use Rattle.std.proofs.Common.{◌≤◌, [], true, Some, refl, sym, ap, subst, ◌∙◌}
use Rattle.std.proofs.lemmas.Result.{err_from_is_err_and}
use Rattle.group_history.specs.declared.changes.Change.TheVariants.{Mutated}
use Rattle.group_history.specs.Map.{Entries}
use Rattle.group_history.specs.Meaning.{meaning_of}
use Rattle.group_history.specs.Mutating.{after_mutate}
use Rattle.group_history.specs.Refs.{stamp_of}
use Rattle.group_history.specs.Spelling.{Version, version_of}
use Rattle.group_history.specs.State.{view_of}
use Rattle.group_history.proofs.Lists.{prefix_self}
use Rattle.head_word.specs.Books.{drawn}
use Rattle.map_tree.proofs.BelowLemmas.{tree-behind}
use Rattle.change_drafts.proofs.BelowLemmas.{chain-behind}
use Rattle.change_drafts.proofs.RunLemmas.{left-done, reply-done}
use Rattle.change_drafts.proofs.StateLemmas.{view-mutated}
use Rattle.change_tries.specs.Missing.{map_ok}
use Rattle.change_tries.specs.Places.{HeadPlace, state_at}
use Rattle.change_tries.specs.Proposing.{asked_reply, change_asked}
use Rattle.change_tries.proofs.Making.{accepted_next, reply_next}
use Rattle.change_tries.specs.Runs.{with_draft}
use Rattle.change_tries.proofs.Running.{refused_next, want_unproposed}
use Rattle.change_tries.proofs.ending.end_new.Goals as goal

pub add_local-requires-clause-map : goal.add_local-requires-clause-map
add_local-requires-clause-map g c =
    let means = g.M.Means.means in let cs = drawn c.args.at.now.mark.log in let chain = c.args.chain in
    let s = state_at c.args.at.now in
    let tree = c.in_ok-tree.ensures.ok (with_draft cs chain) (meaning_of means c.args.mutation (view_of means s))
    c.requires.ran in
    tree-behind cs chain.draft c.in_ok-tree.tree tree.0 c.requires.new.first tree.1

pub add_local-requires-clause-chain : goal.add_local-requires-clause-chain
add_local-requires-clause-chain g c =
    let cs = drawn c.args.at.now.mark.log in let chain = c.args.chain in
    chain-behind cs chain.draft chain.tip (version_of g.M.Means.means (state_at c.args.at.now)) c.requires.new.first
    c.requires.new.tip

pub returns-clause-step : goal.returns-clause-step
returns-clause-step g c =
    let means = g.M.Means.means in let s = state_at c.args.at.now in let cs = drawn c.args.at.now.mark.log in
    let chain = c.args.chain in let x = c.args.mutation in let last = c.args.last in let n = c.requires.new in
    let right = meaning_of means x (view_of means s) in
    let tree = c.in_ok-tree.ensures.ok (with_draft cs chain) right c.requires.ran in
    let spelled = c.in_ok-after.ensures.spelled cs (version_of means s) tree.0 n.first n.tip.0 n.tip.2 n.next.opened
    c.in_ok-told.ensures.right tree.1 in
    let shape : Entries → Version = λ r. record { state = after_mutate s x; read = r } in
    let read = left-done right (view_of means s) tree.0 tree.2 ∙ sym (view-mutated means s x) in
    let reply = reply_next means s x last n.next.opened n.next.own n.next.next
    ∙ reply-done right tree.0 x.id tree.2 in (
      ap (map_ok (λ id. true)) reply,
      record {
        begins = ap (λ (p : HeadPlace). p.commit) c.at.view_is;
        contents = cs;
        drawn = prefix_self cs;
        first = n.first ∙ sym c.add_local.ensures.first;
        some = c.in_ok-after.ensures.some;
        new = subst (λ n. n ≤ stamp_of c.in_ok-after.after.commit) (sym c.add_local.ensures.first)
            c.in_ok-after.ensures.new;
        needed = c.in_ok-after.ensures.needed [] n.needed;
        kind = refl;
        accepted = accepted_next means s x last n.next.own reply n.next.initial;
        then = spelled.0 ∙ ap (λ (r : Entries). Some (shape r)) read;
      },
    )

pub returns-in_err-tree-clause-err : goal.returns-in_err-tree-clause-err
returns-in_err-tree-clause-err g c =
    let means = g.M.Means.means in let s = state_at c.args.at.now in let cs = drawn c.args.at.now.mark.log in
    let x = c.args.mutation in let meaning = meaning_of means x (view_of means s) in
    let p = err_from_is_err_and c.from_residual.result c.from_residual.ensures.1 in
    rw (p.1, p.2) (refused_next g.S.Slots.reused means s c.args.last x meaning _ c.requires.new.next refl
    (c.in_err-tree.ensures.err (with_draft cs c.args.chain) meaning c.requires.ran))

pub returns-in_err-after-clause-err : goal.returns-in_err-after-clause-err
returns-in_err-after-clause-err g c =
    let means = g.M.Means.means in let reused = g.S.Slots.reused in let x = c.args.mutation in
    let p = err_from_is_err_and c.from_residual-in_err-after.result c.from_residual-in_err-after.ensures.1 in
    rw (p.1, p.2) (want_unproposed reused (change_asked (Mutated x))
    (asked_reply means (state_at c.args.at.now) c.args.last (Mutated x)) _ c.in_err-after.ensures.why)
