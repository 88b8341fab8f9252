-- What stays where a draft grows, and what mutations leave that are replayed one after the other.
use Rattle.std.proofs.Common.{◌≡◌, ℕ, ◌+◌, ◌<◌, List, [], ◌∷◌, ◌++◌, take, get_or, length, sym, ap, ◌∙◌}
use Rattle.std.proofs.Common.{Bool, true, false, refl, append_assoc, append-nil}
use mathlib.Core.List.{IsPrefix}
use Rattle.std.proofs.lemmas.List.{take_more}
use Rattle.group_history.specs.declared.mutations.MutationFields.{MutationFields as Mutation}
use Rattle.group_history.specs.declared.nodes.Node.{Node}
use Rattle.group_history.specs.declared.refs.Ref.{Ref}
use Rattle.group_history.specs.Map.{Entries}
use Rattle.group_history.specs.Meaning.{Meanings}
use Rattle.group_history.specs.Mutating.{after_mutate}
use Rattle.group_history.specs.Refs.{stamp_of}
use Rattle.group_history.specs.Spelling.{Contents, Version, version_of}
use Rattle.group_history.specs.State.{State, state, view_of, replayed, replayed_once}
use Rattle.group_history.proofs.Replays.{replayed-append}
use Rattle.map_chunks.specs.Places.{with_nodes}
use Rattle.map_nodes.proofs.FreezeLemmas.{nodes-grown}
use Rattle.commit_graph.proofs.Spelled.{version-grown, snapshot-grown, map-grown}
use Rattle.change_drafts.specs.Chaining.{HasTip}
use Rattle.change_drafts.specs.Undoing.{if_done}
use Rattle.change_drafts.specs.Pending.{with_more}
use Rattle.change_drafts.specs.declared.tips.Tip.{Tip}

-- a tip is one where the draft has more nodes
pub tip-grown : (cs : Contents) (old new : List (Node Ref)) (tip : Tip) (v : Version) → IsPrefix old new
    → HasTip (with_nodes cs old) tip v → HasTip (with_nodes cs new) tip v
tip-grown cs old new tip v p h =
    let grown = nodes-grown cs old new p in let here = with_nodes cs old in let there = with_nodes cs new in (
      version-grown here there (stamp_of tip.commit) v grown h.0,
      map-grown here there (stamp_of tip.root) v.read grown h.1,
      snapshot-grown here there (stamp_of tip.commit) (stamp_of tip.snapshot) grown h.2,
    )

-- a tip is one of a single version
pub tip-same : (cs : Contents) (tip : Tip) (v w : Version) → HasTip cs tip v → HasTip cs tip w → v ≡ w
tip-same cs tip v w h i = cc (sym h.0 ∙ i.0)

-- the map after one mutation more
pub replayed_next : (means : Meanings) (m : Entries) (xs : List Mutation) (k : ℕ) (x : Mutation) → k < length xs
    → x ≡ get_or xs k x
    → replayed_once means (replayed means m (take k xs)) x ≡ replayed means m (take (k + 1) xs)
replayed_next means m xs k x low is =
    let more : take k xs ++ x ∷ [] ≡ take (k + 1) xs =
    ap (λ (y : Mutation). take k xs ++ y ∷ []) is ∙ sym (take_more xs k x low) in
    sym (replayed-append means m (take k xs) (x ∷ [])) ∙ ap (replayed means m) more

-- and where it is left out, since it wasn't done
pub replayed_done : (means : Meanings) (m n : Entries) (xs : List Mutation) (b : Bool) (x : Mutation)
    → replayed means m xs ≡ n → (b ≡ false → replayed_once means n x ≡ n)
    → replayed means m (xs ++ if_done b x) ≡ replayed_once means n x
replayed_done means m n xs true x is same = replayed-append means m xs (x ∷ [])
    ∙ ap (λ (r : Entries). replayed_once means r x) is
replayed_done means m n xs false x is same = ap (replayed means m) (append-nil xs) ∙ is ∙ sym (same refl)

-- the version after all of the mutations, by the last one and those before it
pub version_last : (means : Meanings) (s : State) (xs before : List Mutation) (x : Mutation) (r : Entries)
    → xs ≡ before ++ x ∷ [] → r ≡ replayed means (view_of means s) xs
    → record { state = after_mutate (with_more s before) x; read = r } ≡ version_of means (with_more s xs)
version_last means s xs before x r is left =
    let all : (s.pending ++ before) ++ x ∷ [] ≡ s.pending ++ xs =
    append_assoc s.pending before (x ∷ []) ∙ ap (λ w. s.pending ++ w) (sym is) in
    let shape : List Mutation → Entries → Version = λ w m. record {
      state = state s.pulled s.cookie s.confirmed w s.closed;
      read = m;
    } in
    ap (λ (w : List Mutation). shape w r) all ∙ ap (shape (s.pending ++ xs))
    (left ∙ sym (replayed-append means s.pulled s.pending xs))
