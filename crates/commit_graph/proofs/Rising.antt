-- A chain that is gone down, its references kept, and then up, each commit handed over.
use Rattle.std.proofs.Common.{◌≡◌, ◌<◌, ℕ, List, [], ◌∷◌, ◌++◌, reverse, Option, Some, None, refl, sym, ap}
use Rattle.std.proofs.Common.{◌∙◌, subst}
use Rattle.std.specs.Prelude.{IsSome}
use mathlib.Core.List.{IsPrefix, reverse-append}
use Rattle.group_history.specs.declared.nodes.Commit.{Commit}
use Rattle.group_history.specs.declared.nodes.CommitKind.{CommitKind}
use Rattle.group_history.specs.declared.nodes.CommitKind.TheVariants.{Snapshot, Over}
use Rattle.group_history.specs.declared.nodes.Snapshot.{Snapshot as Snapped}
use Rattle.group_history.specs.declared.nodes.Node.TheVariants as node
use Rattle.group_history.specs.declared.mutations.MutationFields.{MutationFields as Mutation}
use Rattle.group_history.specs.declared.refs.Ref.{Ref}
use Rattle.group_history.specs.Refs.{stamp_of}
use Rattle.group_history.specs.Naming.{renamed_kind}
use Rattle.group_history.specs.Spelling.{Contents, Version, version_at}
use Rattle.commit_graph.specs.declared.chains.Link.{Link}
use Rattle.commit_graph.specs.Inside.Chains.{LiesAt, basis_of, basis_named, added_by, listed, link_named}
use Rattle.commit_graph.specs.Inside.Handing.{AddUp, IsAdded, added_in}
use Rattle.commit_graph.proofs.Spelled.{version-grown}
use Rattle.commit_graph.proofs.Chained.{IsDescent, descent_begins, descent_step, descent_ends, reverse_listed}
use Rattle.commit_graph.proofs.Chained.{get_stays, version_stays}

-- what a commit adds does not hang on how its references are written
added_renamed : (kind : CommitKind Ref) → added_in (renamed_kind stamp_of kind) ≡ added_in kind
added_renamed (Snapshot s) = refl
added_renamed (Over o) = refl

added_stays : (ns more : Contents) (k : ℕ) (o : Option Mutation) → IsPrefix ns more → IsAdded ns k o
    → IsAdded more k o
added_stays ns more k o pre added = (added.0, get_stays ns more k (node.Commit added.0) pre added.1, added.2)

pub adds_stay : (p q : Ref → Type 0) (ns more : Contents) (ats : List Ref) (ms : List Mutation) → IsPrefix ns more
    → ((at : Ref) → p at → q at) → AddUp p ns ats ms → AddUp q more ats ms
adds_stay p q ns more [] ms pre g h = h
adds_stay p q ns more (at ∷ ats) ms pre g h = (
  h.0,
  h.1,
  g at h.2,
  version_stays ns more (stamp_of at) pre h.3,
  added_stays ns more (stamp_of at) h.0 pre h.4,
  adds_stay p q ns more ats h.1 pre g h.5,
  h.6,
)

-- While a chain is gone down from a head and its references are kept: they add what is pending above the commit at
-- hand.
pub record IsStair (places : Ref → Type 0) (first ns : Contents) (head : ℕ) (at : Ref) (chain : List Ref) : Type 0 where
  pub met : List Mutation
  pub descent : IsDescent first ns head (stamp_of at) met
  pub kept : AddUp places ns (reverse chain) (reverse met)

pub stair_begins : (places : Ref → Type 0) (first : Contents) (head : Ref) → IsSome (version_at first (stamp_of head))
    → IsPrefix first first → IsStair places first first (stamp_of head) head []
stair_begins places first head h pre = record {
  met = [];
  descent = descent_begins first (stamp_of head) h pre;
  kept = refl;
}

linked : (kind : CommitKind Ref) (basis : Ref) → basis_named kind ≡ Some basis
    → (o : Option Mutation) × (added_in kind ≡ o)
    × (link_named kind ≡ Some (let l : Link = record { added = o; basis = basis } in l))
linked (Snapshot s) basis is = absurd (cc is)
linked (Over o) basis is = let e : o.basis ≡ basis = cc is in (
  added_by o.step,
  refl,
  ap (λ (b : Ref). Some (let l : Link = record { added = added_by o.step; basis = b } in l)) e,
)

-- one commit down
pub stair_step : (p q : Ref → Type 0) (first ns more : Contents) (head : ℕ) (at : Ref) (chain : List Ref)
    (c : Commit Ref) (basis : Ref) → IsStair p first ns head at chain → IsPrefix ns more
    → ((at : Ref) → p at → q at) → p at → LiesAt more (stamp_of at) c → basis_of c ≡ Some basis
    → (stamp_of basis < stamp_of at) × IsStair q first more head basis (chain ++ at ∷ [])
stair_step p q first ns more head at chain c basis d pre g may lies is =
    let l = linked c.kind basis is in
    let m = descent_step first ns more head (stamp_of at) d.met c (record { added = l.0; basis = basis }) d.descent pre
    lies l.2 in
    let here = version-grown ns more (stamp_of at) d.descent.left pre d.descent.here in
    let up : AddUp q more (at ∷ reverse chain) (listed l.0 ++ reverse d.met) = (
      l.0,
      reverse d.met,
      g at may,
      subst (λ (o : Option Version). IsSome o) (sym here) refl,
      ((record { root = stamp_of c.root; kind = renamed_kind stamp_of c.kind }), lies, added_renamed c.kind ∙ l.1),
      adds_stay p q ns more (reverse chain) (reverse d.met) pre g d.kept,
      refl,
    ) in
    let ats : at ∷ reverse chain ≡ reverse (chain ++ at ∷ []) = sym (reverse-append chain (at ∷ [])) in
    let ms : listed l.0 ++ reverse d.met ≡ reverse (d.met ++ listed l.0) = sym
    (reverse-append d.met (listed l.0) ∙ ap (λ (w : List Mutation). w ++ reverse d.met) (reverse_listed l.0)) in (
      m.0,
      record {
        met = d.met ++ listed l.0;
        descent = m.1;
        kept = subst (λ (w : List Mutation). AddUp q more (reverse (chain ++ at ∷ [])) w) ms
            (subst (λ (w : List Ref). AddUp q more w (listed l.0 ++ reverse d.met)) ats up);
      },
    )

no_basis : (kind : CommitKind Ref) → basis_named kind ≡ None → (s : Snapped) × (kind ≡ Snapshot s)
no_basis (Snapshot s) h = (s, refl)
no_basis (Over o) h = absurd (cc h)

-- at the snapshot
pub stair_ends : (p q : Ref → Type 0) (first ns more : Contents) (head : ℕ) (at : Ref) (chain : List Ref)
    (c : Commit Ref) → IsStair p first ns head at chain → IsPrefix ns more → ((at : Ref) → p at → q at)
    → LiesAt more (stamp_of at) c → basis_of c ≡ None → (v : Version) → version_at first head ≡ Some v
    → AddUp q more (reverse chain) v.state.pending
stair_ends p q first ns more head at chain c d pre g lies none v h =
    subst (λ (w : List Mutation). AddUp q more (reverse chain) w)
    (descent_ends first ns more head (stamp_of at) d.met c d.descent pre lies (no_basis c.kind none) v h)
    (adds_stay p q ns more (reverse chain) (reverse d.met) pre g d.kept)

-- While commits are handed over: what the taker has, and then what the references that are left add, is all.
abbrev pub IsRise : (List Mutation → Type 0) → (Ref → Type 0) → Contents → List Ref → List Mutation → Type 0
IsRise has places ns chain all = (done left : List Mutation) × has done × AddUp places ns (reverse chain) left
    × (done ++ left ≡ all)

-- the last reference of a chain is the lowest
pub lowest : (p : Ref → Type 0) (ns : Contents) (chain rest : List Ref) (at : Ref) (ms : List Mutation)
    → chain ≡ rest ++ at ∷ [] → AddUp p ns (reverse chain) ms → AddUp p ns (at ∷ reverse rest) ms
lowest p ns chain rest at ms is h = subst (λ (w : List Ref). AddUp p ns w ms)
    (ap reverse is ∙ reverse-append rest (at ∷ [])) h
