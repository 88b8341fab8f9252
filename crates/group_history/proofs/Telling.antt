-- What a commit tells of each client's last id.
use Rattle.std.proofs.Common.{◌≡◌, ℕ, ◌+◌, Bool, true, false, cond, List, [], ◌∷◌, ◌++◌, map, filter, fold, max}
use Rattle.std.proofs.Common.{unwrap_or, refl, sym, ap, ◌∙◌, subst, arith, Some, None, Option}
use Rattle.std.specs.Prelude.{◌==◌, ◌&&◌}
use Rattle.std.specs.Bool.{Decides}
use Rattle.std.specs.Ordering.{nat_cmp, eq_by_cmp}
use Rattle.std.specs.Cmp.{both_ways, Equal-is, eq_by_cmp_equiv}
use Rattle.std.specs.Cmp.Lexicographic.{slice_cmp, pointwise, pointwise_decides, nat_list_cmp_total}
use Rattle.std.specs.FinMap as finite
use Rattle.std.proofs.lemmas.Bool.Decides.{Decides-and, Decides-eqb, Decides-like}
use Rattle.std.proofs.lemmas.Slice.Eq.{bytes_eq-Decides}
use Rattle.group_history.specs.declared.mutations.MutationFields.{MutationFields as Mutation}
use Rattle.group_history.specs.declared.responses.Confirmed.{Confirmed}
use Rattle.group_history.specs.Ids.{AreConsecutive}
use Rattle.group_history.specs.Map.{Bytes, same_text}
use Rattle.group_history.specs.Pulling.{overwritten}
use Rattle.group_history.specs.Spelling.{last_ids, said_id, same_ids, tells_right}
use Rattle.group_history.specs.State.{Ids, State, confirmed_id, ids_of, last_id}

same_entry : (a b : Bytes × ℕ) → Decides (same_text a.0 b.0 && a.1 == b.1) (a ≡ b)
same_entry a b = Decides-like (same_text a.0 b.0 && a.1 == b.1)
    (λ (h : (a.0 ≡ b.0) × (a.1 ≡ b.1)). λ i. (h.0 i, h.1 i))
    (λ (e : a ≡ b). (ap (λ (x : Bytes × ℕ). x.0) e, ap (λ (x : Bytes × ℕ). x.1) e))
    (Decides-and (same_text a.0 b.0) (a.1 == b.1) (bytes_eq-Decides a.0 b.0) (Decides-eqb a.1 b.1))

pub same_ids-Decides : (is js : Ids) → Decides (same_ids is js) (is ≡ js)
same_ids-Decides is js =
    let d = pointwise_decides same_entry (finite.entries is) (finite.entries js) in
    (λ e. finite.same_entries_map is js (d.0 e), λ e. d.1 (ap (λ (m : Ids). finite.entries m) e))

-- a commit that tells what is so tells it rightly, and what it tells is so
pub tells_right-is : (s : State) (told : Option Ids) → ((ids : Ids) → told ≡ Some ids → ids ≡ last_ids s)
    → tells_right told s ≡ true
tells_right-is s None h = refl
tells_right-is s (Some ids) h = (same_ids-Decides ids (last_ids s)).1 (h ids refl)

pub told_right : (s : State) (told : Option Ids) (ids : Ids) → tells_right told s ≡ true → told ≡ Some ids
    → ids ≡ last_ids s
told_right s None ids h e = absurd (cc e)
told_right s (Some ks) ids h e =
    let same : ks ≡ ids = cc e in
    sym same ∙ (same_ids-Decides ks (last_ids s)).0 h

pub overwritten-append : (ids : Ids) (xs ys : List Confirmed)
    → overwritten ids (xs ++ ys) ≡ overwritten (overwritten ids xs) ys
overwritten-append ids [] ys = refl
overwritten-append ids (x ∷ xs) ys = overwritten-append (finite.insert ids x.client x.id) xs ys

cond_twice : {A : Type 0} (b : Bool) (x y z : A) → cond b x (cond b y z) ≡ cond b x z
cond_twice true x y z = refl
cond_twice false x y z = refl

-- of two ids of one client the later one counts
pub insert_twice : (ids : Ids) (client : Bytes) (old new : ℕ)
    → finite.insert (finite.insert ids client old) client new ≡ finite.insert ids client new
insert_twice ids client old new =
    finite.same_map nat_list_cmp_total (finite.slice_cmp-IsAntisymmetric finite.nat_cmp-IsAntisymmetric) _ _
    (λ q. let same : Bool = eq_by_cmp (slice_cmp nat_cmp) q client in
    finite.get-insert nat_list_cmp_total (finite.insert ids client old) client new q
    ∙ ap (λ o. cond same (Some new) o) (finite.get-insert nat_list_cmp_total ids client old q)
    ∙ cond_twice same (Some new) (Some old) (finite.get ids q)
    ∙ sym (finite.get-insert nat_list_cmp_total ids client new q))

tied : (client other : Bytes) → eq_by_cmp (slice_cmp nat_cmp) client other ≡ same_text other client
tied client other = both_ways (eq_by_cmp (slice_cmp nat_cmp) client other) (same_text other client)
    (λ e. (bytes_eq-Decides other client).1 (sym
    (finite.slice_cmp-IsAntisymmetric finite.nat_cmp-IsAntisymmetric client other
    ((Equal-is (slice_cmp nat_cmp client other)).0 e))))
    (λ e. subst (λ (t : Bytes). eq_by_cmp (slice_cmp nat_cmp) t other ≡ true) ((bytes_eq-Decides other client).0 e)
    ((eq_by_cmp_equiv nat_list_cmp_total).refl other))

-- a client's id after one more is noted
id_noted : (ids : Ids) (other : Bytes) (id : ℕ) (client : Bytes)
    → confirmed_id (finite.insert ids other id) client ≡ cond (same_text other client) id (confirmed_id ids client)
id_noted ids other id client =
    ap (λ o. unwrap_or o 0) (finite.get-insert nat_list_cmp_total ids other id client)
    ∙ ap (λ b. unwrap_or (cond b (Some id) (finite.get ids client)) 0) (tied client other)
    ∙ by (same_text other client)
  where
    by : (b : Bool) → unwrap_or (cond b (Some id) (finite.get ids client)) 0 ≡ cond b id (confirmed_id ids client)
    by true = refl
    by false = refl

-- where a client's ids follow, the newest is the greatest
newest_greatest : (ids : Ids) (xs : List Mutation) (client : Bytes)
    → AreConsecutive (confirmed_id ids client) (ids_of client xs)
    → confirmed_id (overwritten ids (map said_id xs)) client ≡ fold max (confirmed_id ids client) (ids_of client xs)
newest_greatest ids [] client f = refl
newest_greatest ids (x ∷ xs) client f =
    let S : Mutation → Bool = λ m. same_text m.client client in
    let rest = ids_of client xs in
    let n = confirmed_id ids client in
    let next : Ids = finite.insert ids x.client x.id in
    let at : confirmed_id next client ≡ cond (same_text x.client client) x.id n = id_noted ids x.client x.id client in
    let goes : (k : ℕ) → confirmed_id next client ≡ k → AreConsecutive k rest
    → confirmed_id (overwritten next (map said_id xs)) client ≡ fold max k rest =
    λ k e g. newest_greatest next xs client (subst (λ (j : ℕ). AreConsecutive j rest) (sym e) g) ∙ ap
    (λ j. fold max j rest) e in
    elim (same_text x.client client) as (λ b. confirmed_id next client ≡ cond b x.id n
    → AreConsecutive n (map (λ (m : Mutation). m.id) (cond b (x ∷ filter S xs) (filter S xs)))
    → confirmed_id (overwritten next (map said_id xs)) client
    ≡ fold max n (map (λ (m : Mutation). m.id) (cond b (x ∷ filter S xs) (filter S xs)))) [
      | true ↦ λ e g.
          let top : max n x.id ≡ x.id = omega (arith, g.0) in
          goes x.id e (subst (λ (j : ℕ). AreConsecutive j rest) (sym g.0) g.1) ∙ ap (λ j. fold max j rest) (sym top)
      | false ↦ λ e g. goes n e g
    ] at f

pub last_ids-last : (s : State) (client : Bytes)
    → AreConsecutive (confirmed_id s.confirmed client) (ids_of client s.pending)
    → confirmed_id (last_ids s) client ≡ last_id s client
last_ids-last s client f = newest_greatest s.confirmed s.pending client f
