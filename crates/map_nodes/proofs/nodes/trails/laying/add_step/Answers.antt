use Rattle.std.proofs.Common.{◌∙◌, refl}
use Rattle.map_nodes.proofs.nodes.trails.laying.add_step.Goals as goal

pub returns : goal.returns
returns c = (
  record { keys = c.in_ok-keys.keys; children = c.in_ok-children.children; place = c.args.place },
  (
    c.in_ok-children.ensures.items_if_clones_equal (λ x y e. e) ∙ c.children.ensures,
    c.requires.place,
    c.in_ok-keys.ensures.0,
    c.in_ok-keys.ensures.1,
  ),
  refl,
  c.in_ok-push.ensures.items,
)
