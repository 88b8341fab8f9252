-- What ids leave pending of the mutations that a walk meets, the newest first.
use Rattle.std.proofs.Common.{◌≡◌, List, [], ◌∷◌, ◌++◌, reverse, map, Bool, true, false, cond, nat_lt, refl, ap, sym}
use Rattle.std.proofs.Common.{◌∙◌, Option, Some, None}
use Rattle.std.specs.List.{filter}
use Rattle.std.proofs.lemmas.List.{map-append}
use Rattle.std.proofs.lemmas.List.Elements.{filter-append}
use mathlib.Core.List.{reverse-append}
use Rattle.group_history.specs.declared.mutations.MutationFields.{MutationFields as Mutation}
use Rattle.group_history.specs.declared.nodes.Commit.{Commit}
use Rattle.group_history.specs.declared.nodes.CommitKind.{CommitKind}
use Rattle.group_history.specs.declared.nodes.CommitKind.TheVariants.{Snapshot, Over}
use Rattle.group_history.specs.declared.refs.Ref.{Ref}
use Rattle.group_history.specs.Pulling.{left_pending}
use Rattle.group_history.specs.State.{rebased}
use Rattle.group_history.specs.State.{Ids, confirmed_id}
use Rattle.commit_graph.specs.Inside.Chains.{basis_named, basis_of, link_named, link_of, listed}
use Rattle.commit_graph.specs.Inside.Handing.{added_in}

pub left_append : (ids : Ids) (xs ys : List Mutation)
    → left_pending ids (xs ++ ys) ≡ left_pending ids xs ++ left_pending ids ys
left_append ids xs ys =
    let p : Mutation → Bool = λ x. nat_lt (confirmed_id ids x.client) x.id in
    ap (map rebased) (filter-append p xs ys) ∙ map-append rebased (filter p xs) (filter p ys)

-- one mutation, or none, is the same from both ends
one_reversed : (ids : Ids) (x : Mutation) → reverse (left_pending ids (x ∷ [])) ≡ left_pending ids (x ∷ [])
one_reversed ids x = both (nat_lt (confirmed_id ids x.client) x.id)
  where
    both : (b : Bool) → reverse (map rebased (cond b (x ∷ []) [])) ≡ map rebased (cond b (x ∷ []) [])
    both true = refl
    both false = refl

pub left_reversed : (ids : Ids) (xs : List Mutation)
    → reverse (left_pending ids xs) ≡ left_pending ids (reverse xs)
left_reversed ids [] = refl
left_reversed ids (x ∷ xs) =
    ap reverse (left_append ids (x ∷ []) xs)
    ∙ reverse-append (left_pending ids (x ∷ [])) (left_pending ids xs)
    ∙ ap (λ w. w ++ reverse (left_pending ids (x ∷ []))) (left_reversed ids xs)
    ∙ ap (λ w. left_pending ids (reverse xs) ++ w) (one_reversed ids x)
    ∙ sym (left_append ids (reverse xs) (x ∷ []))
    ∙ ap (left_pending ids) (sym (reverse-append (x ∷ []) xs))

-- the link that a commit is, by the commit before it
link_here : (kind : CommitKind Ref) (basis : Ref) → basis_named kind ≡ Some basis
    → link_named kind ≡ Some (record { added = added_in kind; basis = basis })
link_here (Snapshot s) basis is = absurd (cc is)
link_here (Over o) basis is =
    ap (λ (w : Option Ref). elim w [ None ↦ None | Some b ↦ Some (record { added = added_in (Over o); basis = b }) ]) is

pub link_over : (c : Commit Ref) (basis : Ref) → basis_of c ≡ Some basis
    → link_of c ≡ Some (record { added = added_in c.kind; basis = basis })
link_over c basis is = link_here c.kind basis is

link_none : (kind : CommitKind Ref) → basis_named kind ≡ None → link_named kind ≡ None
link_none (Snapshot s) is = refl
link_none (Over o) is = absurd (cc is)

pub no_basis : (c : Commit Ref) → basis_of c ≡ None → link_of c ≡ None
no_basis c is = link_none c.kind is

none_named : (kind : CommitKind Ref) → basis_named kind ≡ None → listed (added_in kind) ≡ []
none_named (Snapshot s) is = refl
none_named (Over o) is = absurd (cc is)

pub none_added : (c : Commit Ref) → basis_of c ≡ None → listed (added_in c.kind) ≡ []
none_added c is = none_named c.kind is
