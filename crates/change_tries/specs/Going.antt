-- Mutations that stay pending, run one after the other: words between the steps.
use Rattle.std.specs.Prelude.{◌≡◌, Bool, true, false, List, [], ◌∷◌, ◌++◌, reverse, Some}
use Rattle.std.specs.List.{All}
use Rattle.group_history.specs.declared.mutations.MutationFields.{MutationFields as Mutation}
use Rattle.group_history.specs.Map.{Bytes, Entries}
use Rattle.group_history.specs.Meaning.{Meanings}
use Rattle.group_history.specs.Spelling.{Contents}
use Rattle.group_history.specs.State.{replayed, replayed_once}
use Rattle.map_tree.specs.Trees.{tree_map}
use Rattle.change_tries.specs.Runs.{with_draft}
use Rattle.change_tries.specs.declared.ending.Went.{Went}
use Rattle.change_tries.specs.declared.ending.Went.TheVariants as went
use Rattle.change_tries.specs.declared.runs.Replaying.{Replaying}

-- The group has the mutator, and its run is the newest one; or it hasn't, and the run is to be asked for.
abbrev pub HasGone : (Bytes → Bool) → Meanings → Contents → Replaying → Mutation → Entries → Went → Type 0
HasGone has means cs was x map (went.On next) = (has x.name ≡ true) × (next.chain ≡ was.chain)
    × (next.behind ≡ was.behind) × (next.ran.items ≡ was.ran.items ++ x ∷ [])
    × (tree_map (with_draft cs was.chain) next.tree ≡ Some (replayed_once means map x))
HasGone has means cs was x map (went.Asked run) = (has x.name ≡ false) × (run.chain ≡ was.chain)
    × (run.behind ≡ was.behind) × (run.ran.items ≡ was.ran.items) × (run.mutation ≡ x)
    × (run.map.before.items ≡ []) × (tree_map (with_draft cs was.chain) run.map.tree ≡ Some map)

-- So far the group ran some of the mutations that were to be run, of which it has the mutators.
pub record GoesOnReplaying (has : Bytes → Bool) (means : Meanings) (cs : Contents) (was now : Replaying) : Type 0 where
  pub own : List Mutation
  pub had : All (λ (x : Mutation). has x.name ≡ true) own
  pub order : own ++ reverse now.behind.items ≡ reverse was.behind.items
  pub chain : now.chain ≡ was.chain
  pub ran : now.ran.items ≡ was.ran.items ++ own
  pub mapped : (map : Entries) → tree_map (with_draft cs was.chain) was.tree ≡ Some map
      → tree_map (with_draft cs was.chain) now.tree ≡ Some (replayed means map own)
