-- A scan of a trail: the children of a step.
use Rattle.std.proofs.Common.{◌≡◌, ◌<◌, ℕ, List, Some, length, get_or, sym, ap, ◌∙◌, arith}
use Rattle.std.specs.Arc.{arc_value}
use Rattle.group_history.specs.Map.{Bytes}
use Rattle.group_history.specs.Rows.{Rows, paired}
use Rattle.group_history.specs.Spelling.{Contents}
use Rattle.map_chunks.proofs.ScanLemmas.{got_any, shown_as}
use Rattle.map_chunks.specs.Shown.{Seen, rows_or, shown}
use Rattle.map_nodes.proofs.NodeLemmas.{kid_rows, shown-kids, shown-rows}
use Rattle.map_nodes.proofs.ScanLemmas.{kid_shown-at, shown_kid}
use Rattle.map_nodes.proofs.TrailLemmas.{kid_of, no_steps, step-pairs}
use Rattle.map_nodes.specs.Inside.Scanning.{kids_shown, step_kid}
use Rattle.map_nodes.specs.Trails.{step_kids, step_seen, steps_seen, trail_seen, IsStep}
use Rattle.map_nodes.specs.declared.nodes.OwnChild.TheVariants.{Own}
use Rattle.map_nodes.specs.declared.nodes.trails.End.{End}
use Rattle.map_nodes.specs.declared.nodes.trails.Step.{Step}

-- what a step shows, its children do
pub step_shown : (p : Contents) (s : Step) (below : Seen) (rs : Rows) → IsStep s below
    → shown p (step_seen s below).pieces ≡ Some rs
    → kids_shown p (paired (arc_value s.keys) (step_kids s below)) ≡ Some rs
step_shown p s below rs h e =
    let es = paired (arc_value s.keys) (step_kids s below) in
    shown_as (kid_rows p below.depth) (shown_kid p) (λ x w q. kid_shown-at p below.depth x.1 w q) es rs
    (sym (shown-kids p below.depth es h.3) ∙ e)

-- what the leaf has
pub end_shown : (p : Contents) (ss : List Step) (e : End) (ks vs : List Bytes) → length ss ≡ 0 → ks ≡ arc_value e.keys
    → vs ≡ e.values.items → paired ks vs ≡ rows_or (shown p (steps_seen ss e).pieces)
end_shown p ss e ks vs z k v =
    ap (λ w. paired w vs) k ∙ ap (paired (arc_value e.keys)) v
    ∙ ap rows_or (sym (shown-rows p (paired (arc_value e.keys) e.values.items)))
    ∙ ap (λ w. rows_or (shown p (trail_seen w e).pieces)) (sym (no_steps ss z))

-- the child at a place
pub kid_here : (s : Step) (below : Seen) (i : ℕ) → IsStep s below → i < length (arc_value s.keys)
    → step_kid s below i ≡ get_or (step_kids s below) i (step_kid s below i)
kid_here s below i h l = got_any (step_kids s below) i (Own (kid_of s below)) (step_kid s below i)
    (omega (arith, step-pairs s below h, l))
