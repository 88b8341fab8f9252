-- A client's last id, commit by commit, where its ids follow.
use Rattle.std.proofs.Common.{◌≡◌, ℕ, ◌+◌, ◌<◌, max, Bool, true, false, cond, List, [], ◌∷◌, ◌++◌, map, length, fold}
use Rattle.std.proofs.Common.{ap, subst, ◌∙◌, arith, append-nil}
use Rattle.std.specs.Prelude.{if◌then◌else◌}
use Rattle.std.proofs.lemmas.List.Sums.{fold-append}
use Rattle.group_history.specs.declared.mutations.MutationFields.{MutationFields as Mutation}
use Rattle.group_history.specs.Ids.{AreConsecutive}
use Rattle.group_history.specs.Map.{Bytes, same_text}
use Rattle.group_history.specs.State.{State, confirmed_id, ids_of, last_id}
use Rattle.group_history.specs.Mutating.{after_mutate}
use Rattle.group_history.proofs.IdLemmas.{greatest-AreConsecutive, ids_of-append}

-- without the last of them the numbers still follow, and the last is the one after all before it
AreConsecutive-pop : (n : ℕ) (xs : List ℕ) (x : ℕ) → AreConsecutive n (xs ++ x ∷ []) → AreConsecutive n xs × (x
    ≡ n + length xs + 1)
AreConsecutive-pop n [] x f = (tt, omega (arith, f.0))
AreConsecutive-pop n (y ∷ ys) x f = let r = AreConsecutive-pop (n + 1) ys x f.1 in ((f.0, r.0), omega (arith, r.1))

last_of : (n : ℕ) (xs : List ℕ) (x : ℕ) → AreConsecutive n xs → x ≡ n + length xs + 1 → fold max n (xs ++ x ∷ []) ≡ x
last_of n xs x f is = let before = greatest-AreConsecutive n xs f in fold-append max n xs (x ∷ [])
    ∙ omega (arith, before, is)

-- The id of a client's newest mutation is the client's last one; a mutation of another client changes nothing.
pub newest_id : (s : State) (x : Mutation) (client : Bytes)
    → AreConsecutive (confirmed_id s.confirmed client) (ids_of client (s.pending ++ x ∷ []))
    → (0 < (if same_text x.client client then x.id else 0)
    → last_id (after_mutate s x) client ≡ (if same_text x.client client then x.id else 0))
    × ((if same_text x.client client then x.id else 0) ≡ 0
    → AreConsecutive (confirmed_id s.confirmed client) (ids_of client s.pending)
    × (last_id (after_mutate s x) client ≡ last_id s client))
newest_id s x client ids =
    let n = confirmed_id s.confirmed client in let before = ids_of client s.pending in
    let own : Bool → List ℕ = λ b. map (λ (m : Mutation). m.id) (cond b (x ∷ []) []) in
    let cut : ids_of client (s.pending ++ x ∷ [])
    ≡ before ++ own (same_text x.client client) = ids_of-append client s.pending (x ∷ []) in
    let last : last_id (after_mutate s x) client
    ≡ fold max n (before ++ own (same_text x.client client)) = ap (fold max n) cut in
    elim (same_text x.client client) as (λ b. AreConsecutive n (before ++ own b)
    → last_id (after_mutate s x) client ≡ fold max n (before ++ own b)
    → (0 < (if b then x.id else 0) → last_id (after_mutate s x) client ≡ (if b then x.id else 0))
    × ((if b then x.id else 0) ≡ 0 → AreConsecutive n before × (last_id (after_mutate s x) client
    ≡ last_id s client))) [
      | true ↦ λ f l. let r = AreConsecutive-pop n before x.id f in
          (λ h. l ∙ last_of n before x.id r.0 r.1, λ h. absurd (omega (arith, h, r.1)))
      | false ↦ λ f l. let e = append-nil before in
          (λ h. absurd (omega (arith, h)), λ h. (subst (AreConsecutive n) e f, l ∙ ap (fold max n) e))
    ] (subst (AreConsecutive n) cut ids) last
