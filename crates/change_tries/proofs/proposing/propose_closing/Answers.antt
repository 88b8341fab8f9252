use Rattle.std.proofs.Common.{◌≡◌, ◌≤◌, [], ◌∷◌, refl, sym, ap, subst, ◌∙◌}
use Rattle.group_history.specs.Refs.{stamp_of}
use Rattle.group_history.specs.Spelling.{Contents, version_of}
use Rattle.group_history.proofs.Lists.{prefix_self}
use Rattle.head_word.specs.Books.{drawn}
use Rattle.map_chunks.specs.Drafts.{Drafted}
use Rattle.map_chunks.specs.Places.{with_nodes}
use Rattle.change_drafts.specs.Chaining.{IsTip}
use Rattle.change_drafts.proofs.BelowLemmas.{tip-behind}
use Rattle.change_tries.specs.Places.{HeadPlace, state_at}
use Rattle.change_tries.specs.Proposing.{closing_reply}
use Rattle.change_tries.proofs.Drafting.{behind_none}
use Rattle.map_chunks.proofs.NeededLemmas.{needed_begun}
use Rattle.change_tries.proofs.proposing.propose_closing.Goals as goal

pub add_closing-requires : goal.add_closing-requires
add_closing-requires g c =
    let means = g.M.Means.means in let s = state_at c.args.at.now in let cs = drawn c.args.at.now.mark.log in
    let bare : with_nodes cs c.new-draft.result.nodes
    ≡ cs = ap (λ (d : Drafted). with_nodes cs d.nodes) c.new-draft.ensures ∙ behind_none cs in
    let ready = subst (λ (w : Contents). IsTip means w c.args.spot.tip s) (sym bare) c.requires.spot.stands in
    let behind = sym c.requires.spot.drawn ∙ sym (ap (λ (d : Drafted). d.first) c.new-draft.ensures) in
    record { below = tip-behind cs c.new-draft.result c.args.spot.tip (version_of means s) behind ready }

pub returns-clause-proposed : goal.returns-clause-proposed
returns-clause-proposed g c last =
    let means = g.M.Means.means in let s = state_at c.args.at.now in let cs = drawn c.args.at.now.mark.log in
    let bare : with_nodes cs c.new-draft.result.nodes
    ≡ cs = ap (λ (d : Drafted). with_nodes cs d.nodes) c.new-draft.ensures ∙ behind_none cs in
    let ready = subst (λ (w : Contents). IsTip means w c.args.spot.tip s) (sym bare) c.requires.spot.stands in
    let behind = sym c.requires.spot.drawn ∙ sym (ap (λ (d : Drafted). d.first) c.new-draft.ensures) in
    let done = c.in_ok-at.ensures.spelled cs (version_of means s) behind ready c.requires.spot.opened in (
      ap closing_reply c.requires.spot.opened,
      record {
        begins = ap (λ (p : HeadPlace). p.commit) c.at.view_is;
        contents = cs;
        drawn = prefix_self cs;
        first = sym c.requires.spot.drawn ∙ sym (c.in_ok-at.ensures.first ∙ ap
            (λ (d : Drafted). d.first) c.new-draft.ensures);
        some = c.in_ok-at.ensures.some;
        new = subst (λ n. n ≤ stamp_of c.in_ok-at.at) (sym c.in_ok-at.ensures.first) c.in_ok-at.ensures.new;
        needed = needed_begun (c.args.spot.tip.commit ∷ []) c.in_ok-at.at c.args.spot.first c.new-draft.result
            c.add_closing.new.draft c.new-draft.ensures c.in_ok-at.ensures.needed;
        kind = refl;
        accepted = c.requires.spot.opened;
        then = done;
      },
    )
