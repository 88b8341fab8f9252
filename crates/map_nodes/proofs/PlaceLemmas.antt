-- The places that a chunk of a draft names, and those of its children.
use Rattle.std.proofs.Common.{◌≡◌, ◌<◌, ℕ, List, [], get_or, length, ap, subst, arith}
use Rattle.group_history.specs.declared.refs.Ref.{Ref}
use Rattle.group_history.specs.Map.{Bytes}
use Rattle.group_history.proofs.Lists.{one_here, no_element}
use Rattle.map_chunks.specs.Places.{AreAll, AreKept, places_of}
use Rattle.map_chunks.proofs.KeptLemmas.{all_kept}
use Rattle.map_chunks.specs.Shown.{Piece}
use Rattle.map_nodes.specs.Inside.Freezing.{child_places, kids_places}
use Rattle.map_nodes.specs.Nodes.{IsNode, body_pieces}
use Rattle.map_nodes.specs.Inside.Nodes.{Kid}
use Rattle.map_nodes.specs.declared.nodes.Body.{Body}
use Rattle.map_nodes.specs.declared.nodes.Body.TheVariants.{Inner}
use Rattle.map_nodes.specs.declared.nodes.OwnChild.{OwnChild}
use Rattle.map_nodes.specs.declared.nodes.OwnChild.TheVariants.{Placed, Own}
use Rattle.map_nodes.proofs.NamedLemmas.{kid-within, own-places}

-- a child has what all children have
pub kid_all : (may : Ref → Type 0) (kids : List OwnChild) (i : ℕ) (c : OwnChild) → i < length kids → c ≡ get_or kids i c
    → AreAll may (kids_places kids) → AreAll may (child_places c)
kid_all may kids i c l e all at h = all at (kid-within kids i c l e at h)

pub placed_may : (may : Ref → Type 0) (c : OwnChild) (at : Ref) → c ≡ Placed at → AreAll may (child_places c) → may at
placed_may may c at e all = subst (λ (x : OwnChild). AreAll may (child_places x)) e all at (one_here at)

pub own_may : (may : Ref → Type 0) (c : OwnChild) (n : Kid) → c ≡ Own n → AreAll may (child_places c)
    → AreAll may (places_of n.value.pieces)
own_may may c n e all = subst (λ (x : OwnChild). AreAll may (child_places x)) e all

-- the places of an inner chunk are its children's
pub kids_may : (may : Ref → Type 0) (depth : ℕ) (keys : List Bytes) (body : Body) (kids : _) (pieces : List Piece)
    → body_pieces depth keys body ≡ pieces → body ≡ Inner kids → IsNode depth keys body
    → AreAll may (places_of pieces) → AreAll may (kids_places kids.items)
kids_may may depth keys body kids pieces v e i all = let node : IsNode depth keys (Inner kids) = subst
    (IsNode depth keys) e i in subst (AreAll may) (own-places depth keys body kids pieces v e node.1.2) all

pub down_may : (may : Ref → Type 0) (depth : ℕ) (keys : List Bytes) (body : Body) (kids : _) (pieces : List Piece)
    (slice : List Bytes) (i : ℕ) (c : OwnChild) → body_pieces depth keys body ≡ pieces → body ≡ Inner kids
    → IsNode depth keys body
    → slice ≡ keys → i < length slice → c ≡ get_or kids.items i c → AreAll may (places_of pieces)
    → AreAll may (child_places c)
down_may may depth keys body kids pieces slice i c v e n s l g all =
    let node : IsNode depth keys (Inner kids) = subst (IsNode depth keys) e n in
    kid_all may kids.items i c (omega (arith, node.1.2, ap length s)) g
    (kids_may may depth keys body kids pieces v e n all)

-- what a copy names was shown
pub new_may : (may : Ref → Type 0) (new : List Ref) → AreKept may [] new → AreAll may new
new_may may new h = all_kept may [] new (λ at i. absurd (no_element at i)) h
