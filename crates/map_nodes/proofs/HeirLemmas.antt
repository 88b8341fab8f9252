-- What stands in a root's place.
use Rattle.std.proofs.Common.{◌≡◌, ◌<◌, ℕ, false, nat_le, List, Some, subst, arith}
use Rattle.std.proofs.lemmas.Bool.Decides.{nat_tests}
use Rattle.group_history.specs.declared.refs.Ref.{Ref}
use Rattle.group_history.specs.Map.{Bytes}
use Rattle.group_history.specs.Spelling.{Contents}
use Rattle.map_nodes.specs.Inside.Removing.{left_rows, one_shown, gives_way, AreKidsLeft, IsHeir, KeptBy, IsWideLeft}
use Rattle.map_nodes.specs.declared.nodes.OwnChild.{OwnChild}
use Rattle.map_nodes.specs.declared.nodes.removing.ChildAfter.{ChildAfter}
use Rattle.map_nodes.specs.declared.nodes.removing.ChildAfter.TheVariants.{Leaves, Stays}
use Rattle.map_nodes.specs.declared.nodes.removing.NewRoot.{NewRoot}
use Rattle.map_nodes.specs.declared.nodes.removing.NewRoot.TheVariants.{Placed, Own}
use Rattle.map_chunks.proofs.JoinLemmas.{some_is}

pub heir-rows : (q r : Contents) (ks kids : List OwnChild) (depth : ℕ) (keys : List Bytes) (h : NewRoot)
    → IsHeir q r ks h
    → left_rows r depth keys kids (Some h) ≡ one_shown q ks
heir-rows q r ks kids depth keys (Placed at) i = i.0
heir-rows q r ks kids depth keys (Own n) i = i.0

pub heir-wide : (q r : Contents) (ks : List OwnChild) (m n : ℕ) (h : NewRoot) → IsHeir q r ks h
    → IsWideLeft r m n (Some h)
heir-wide q r ks m n (Placed at) i = i.1
heir-wide q r ks m n (Own x) i = i.1

pub heir-kept : (old new : List OwnChild) (h : NewRoot) (at : Ref) → KeptBy old new h → Some h ≡ Some (Placed at)
    → new ≡ old
heir-kept old new h at k e = subst (KeptBy old new) (some_is e) k

-- a root that gives way to nothing stays wide
pub still_wide : (fate : ChildAfter) (old new n : ℕ) → n ≡ old → gives_way fate n ≡ false → AreKidsLeft fate old new
    → 1 < old → 1 < new
still_wide Leaves old new n e g l more = let f : nat_le n 2 ≡ false = g in let h : 2 < n = grind (arith, nat_tests) in
    omega (arith, l, e, h)
still_wide (Stays first) old new n e g l more = omega (arith, l, more)
