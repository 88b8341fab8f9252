-- What a tree shows while it is read and written.
use Rattle.std.proofs.Common.{◌≡◌, Option, Some, None, Result, Ok, Err, IfOk, OnOk, OnErr, refl, sym, ap, ◌∙◌, subst}
use Rattle.std.proofs.Common.{◌⊎◌, inl, inr}
use Rattle.std.specs.Prelude.{IfErr, IsSome}
use mathlib.Core.List.{IsPrefix}
use Rattle.group_history.specs.Map.{Bytes, Entries}
use Rattle.group_history.specs.Updating.{UpdatesAs}
use Rattle.group_history.specs.declared.mutators.Ran.{Ran}
use Rattle.group_history.specs.declared.mutators.Update.{Update}
use Rattle.group_history.specs.declared.mutators.Update.TheVariants.{Put, Refuse}
use Rattle.group_history.specs.Spelling.{Contents}
use Rattle.group_history.specs.declared.refs.Ref.{Ref}
use Rattle.map_chunks.specs.Places.{AreAll, AreKept}
use Rattle.map_chunks.proofs.KeptLemmas.{all_kept}
use Rattle.map_tree.specs.Puts.{IsUpdate}
use Rattle.map_tree.specs.Trees.{tree_map, tree_places}
use Rattle.map_tree.specs.declared.tree.Tree.{Tree}
use Rattle.map_chunks.proofs.AnswerLemmas.{on_ok, on_err, either_way}
use Rattle.map_tree.proofs.WriteLemmas.{root_kept, kept_there}
use Rattle.transactions.specs.Maps.{map_or, shown_map}

pub some_map : (o : Option Entries) → IsSome o → o ≡ Some (map_or o)
some_map None h = absurd (cc h)
some_map (Some m) h = refl

-- what is shown stays where more is known to be placed
pub shown-kept : (old new : Contents) (t : Tree) → IsPrefix old new → IsSome (tree_map old t)
    → shown_map new t ≡ shown_map old t
shown-kept old new t p h = ap map_or (root_kept old new t.root (shown_map old t) p (some_map (tree_map old t) h))

-- a change that is done
pub shown-changed : {A E : Type 0} (r : Result A E) (old new : Contents) (t u : Tree) (f : Entries → Entries)
    → IsSome (tree_map old t)
    → ((m : Entries) → tree_map old t ≡ Some m → OnOk r (tree_map new u ≡ Some (f m)))
    → OnOk r (shown_map new u ≡ f (shown_map old t))
shown-changed r old new t u f h g = on_ok r (g (shown_map old t) (some_map (tree_map old t) h)) (λ e. ap map_or e)

-- a change that stops
pub shown-stopped : {A E : Type 0} (r : Result A E) (old new : Contents) (t u : Tree) → IsPrefix old new
    → IsSome (tree_map old t) → OnErr r (u ≡ t) → OnErr r (shown_map new u ≡ shown_map old t)
shown-stopped r old new t u p h e = on_err r e (λ is. ap (λ (w : Tree). shown_map new w) is ∙ shown-kept old new t p h)

-- in both cases a map is there
pub shown-there : {A E : Type 0} (r : Result A E) (old new : Contents) (t u : Tree) (f : Entries → Entries)
    → IsPrefix old new → IsSome (tree_map old t)
    → ((m : Entries) → tree_map old t ≡ Some m → OnOk r (tree_map new u ≡ Some (f m))) → OnErr r (u ≡ t)
    → IsSome (tree_map new u)
shown-there r old new t u f p h g e =
    either_way r (g (shown_map old t) (some_map (tree_map old t) h)) e (λ is. subst IsSome (sym is) refl)
    (λ is. subst (λ (w : Tree). IsSome (tree_map new w)) (sym is) (kept_there old new t.root p h))

-- what a changed tree names may be looked for, in both cases
pub places-there : {A E : Type 0} (r : Result A E) (may : Ref → Type 0) (t u : Tree) → AreAll may (tree_places t)
    → OnOk r (AreKept may (tree_places t) (tree_places u)) → OnErr r (u ≡ t) → AreAll may (tree_places u)
places-there r may t u all kept e = either_way r kept e (λ k. all_kept may (tree_places t) (tree_places u) all k)
    (λ is. subst (λ (w : Tree). AreAll may (tree_places w)) (sym is) all)

-- AN UPDATE

-- what an update makes of what is shown
pub shown-updated : (old new : Contents) (may : Ref → Type 0) (t u : Tree) (key : Bytes) (c : Update) (r : Ran)
    → IsPrefix old new → IsSome (tree_map old t) → IsUpdate old new may t u (shown_map old t) key c r
    → UpdatesAs c key (shown_map old t) r (shown_map new u)
shown-updated old new may t u key (Put value) r p h g =
    subst (λ w. UpdatesAs (Put value) key (shown_map old t) w (shown_map new u)) (sym g.0) (ap map_or g.1.map)
shown-updated old new may t u key (Refuse code) r p h g =
    subst (λ w. UpdatesAs (Refuse code) key (shown_map old t) w (shown_map new u)) (sym g.0)
    (refl, ap (λ (w : Tree). shown_map new w) g.1 ∙ shown-kept old new t p h)

-- a map is there still
pub updated-there : (old new : Contents) (may : Ref → Type 0) (t u : Tree) (m : Entries) (key : Bytes) (c : Update)
    (r : Ran) → IsPrefix old new → IsSome (tree_map old t) → IsUpdate old new may t u m key c r
    → IsSome (tree_map new u)
updated-there old new may t u m key (Put value) r p h g = subst IsSome (sym g.1.map) refl
updated-there old new may t u m key (Refuse code) r p h g =
    subst (λ (w : Tree). IsSome (tree_map new w)) (sym g.1) (kept_there old new t.root p h)

-- what the updated tree names may be looked for
pub places-updated : (old new : Contents) (may : Ref → Type 0) (t u : Tree) (m : Entries) (key : Bytes) (c : Update)
    (r : Ran) → AreAll may (tree_places t) → IsUpdate old new may t u m key c r → AreAll may (tree_places u)
places-updated old new may t u m key (Put value) r all g = all_kept may (tree_places t) (tree_places u) all
    g.1.places_are
places-updated old new may t u m key (Refuse code) r all g =
    subst (λ (w : Tree). AreAll may (tree_places w)) (sym g.1) all

-- in both cases, where the answer tells what was done
pub answered : {A E Q R : Type 0} {P : A → Type 0} (r : Result A E) → IfOk r P → OnErr r Q → ((a : A) → P a → R)
    → (Q → R) → R
answered (Ok a) p q f g = f a p
answered (Err e) p q f g = g q

-- what stops an update, as a view tells it
pub stopped-by : {A E : Type 0} (P Q R : E → Type 0) (r : Result A E) → IfErr r (λ e. P e ⊎ Q e ⊎ R e)
    → IfErr r (λ e. (P e ⊎ Q e) ⊎ R e)
stopped-by P Q R (Ok a) h = tt
stopped-by P Q R (Err e) (inl p) = inl (inl p)
stopped-by P Q R (Err e) (inr (inl q)) = inl (inr q)
stopped-by P Q R (Err e) (inr (inr s)) = inr s
