use Rattle.std.proofs.Common.{◌≡◌, [], IsSome, refl, sym, ap, subst, ◌∙◌}
use Rattle.group_history.specs.Map.{patched}
use Rattle.group_history.specs.Refs.{stamp_of}
use Rattle.group_history.specs.Spelling.{Contents, map_at}
use Rattle.group_history.specs.State.{pulled_state}
use Rattle.head_word.specs.Books.{drawn}
use Rattle.map_chunks.specs.Drafts.{Drafted}
use Rattle.map_chunks.specs.Places.{with_nodes}
use Rattle.change_drafts.specs.Chaining.{HasTip}
use Rattle.change_tries.specs.Places.{state_at}
use Rattle.change_tries.proofs.Drafting.{behind_none}
use Rattle.map_chunks.proofs.NeededLemmas.{needed_begun}
use Rattle.change_tries.proofs.beginning.draft_patched.Goals as goal

pub add_patched-requires-clause-map : goal.add_patched-requires-clause-map
add_patched-requires-clause-map g c =
    let cs = drawn c.nodes.result.mark.now.log in let at = stamp_of c.args.before.now.pulled in
    let bare : with_nodes cs c.new-draft.result.nodes
    ≡ cs = ap (λ (d : Drafted). with_nodes cs d.nodes) c.new-draft.ensures ∙ behind_none cs in
    subst (λ o. IsSome o) (sym (ap (λ (w : Contents). map_at w at) (bare ∙ c.nodes.ensures.nodes)
    ∙ c.requires.before.2)) refl

pub returns-clause-tip : goal.returns-clause-tip
returns-clause-tip g c =
    let s = state_at c.args.at.now in let pull = c.args.pull.now in
    let cs = drawn c.nodes.result.mark.now.log in let at = stamp_of c.args.before.now.pulled in
    let bare : with_nodes cs c.new-draft.result.nodes
    ≡ cs = ap (λ (d : Drafted). with_nodes cs d.nodes) c.new-draft.ensures ∙ behind_none cs in
    let there = ap (λ (w : Contents). map_at w at) (bare ∙ c.nodes.ensures.nodes) ∙ c.requires.before.2 in
    subst (λ (w : Contents). HasTip (with_nodes w c.add_patched.new.draft.nodes) c.in_ok-tip.tip (record {
      state = pulled_state (patched s.pulled pull.patch) pull.cookie c.args.confirmed;
      read = patched s.pulled pull.patch;
    })) c.nodes.ensures.nodes (c.in_ok-tip.ensures.tip s.pulled there)

pub returns-clause-needed : goal.returns-clause-needed
returns-clause-needed g c = needed_begun [] c.in_ok-tip.tip.commit c.args.spot.first c.new-draft.result
    c.add_patched.new.draft c.new-draft.ensures c.in_ok-tip.ensures.needed
