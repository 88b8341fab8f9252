-- Lists of what was found, by stamp.
use Rattle.std.proofs.Common.{◌≡◌, ℕ, ◌⊎◌, inl, inr, List, [], ◌∷◌, ◌++◌, map, refl, ap, sym, subst, ◌∙◌}
use Rattle.std.specs.List.{Contains}
use Rattle.std.specs.Ordering.{nat_cmp, match_ordering}
use Rattle.std.specs.BTreeMap.{insert_entry}
use Rattle.std.specs.declared.cmp.Ordering.{Ordering}
use Rattle.std.specs.declared.cmp.Ordering.TheVariants.{Less, Equal, Greater}
use Rattle.std.proofs.lemmas.List.Elements.{Contains-append_cases, Contains-append_left, Contains-append_right}
use Rattle.std.proofs.lemmas.Map.Lookups.{exact_unsigned}
use Rattle.commit_graph.specs.declared.founds.NamedNode.{NamedNode}
use Rattle.commit_graph.specs.Inside.Reach.{stamp_in, AreKeyed, HasStampIn, Joins, Walked, Adds}
use Rattle.group_history.proofs.Lists.{only_one, cons_cases, no_element, one_here, first_here, later_here, map_to}

keyed_first : (e : ℕ × NamedNode) (es : List (ℕ × NamedNode)) → AreKeyed (e ∷ es) → e.0 ≡ stamp_in e.1
keyed_first e es h = let p : e.0 ≡ stamp_in e.1 = cc h in p

keyed_rest : (e : ℕ × NamedNode) (es : List (ℕ × NamedNode)) → AreKeyed (e ∷ es) → AreKeyed es
keyed_rest e es h = let p : map (λ (e : ℕ × NamedNode). e.0) es ≡ map (λ (e : ℕ × NamedNode). stamp_in e.1) es =
    cc h in p

stamps_twice : (es : List (ℕ × NamedNode)) → map (λ (e : ℕ × NamedNode). stamp_in e.1) es
    ≡ map stamp_in (map (λ (e : ℕ × NamedNode). e.1) es)
stamps_twice [] = refl
stamps_twice (e ∷ es) = ap (λ w. stamp_in e.1 ∷ w) (stamps_twice es)

pub inserted : (es : List (ℕ × NamedNode)) (f : NamedNode) → AreKeyed es
    → Joins (map (λ (e : ℕ × NamedNode). e.1) es) (f ∷ [])
    (map (λ (e : ℕ × NamedNode). e.1) (insert_entry nat_cmp es (stamp_in f) f))
inserted [] f keyed = record { from = λ g h. inr h; kept = λ g h. absurd (no_element g h); added = λ g h. (g, h, refl) }
inserted (e ∷ es) f keyed =
    let vs : List NamedNode = map (λ (e : ℕ × NamedNode). e.1) es in
    let k : ℕ = stamp_in f in
    let P : Ordering → Type 0 = λ r. nat_cmp k e.0 ≡ r
    → Joins (e.1 ∷ vs) (f ∷ []) (map (λ (e : ℕ × NamedNode). e.1)
    (match_ordering r ((k, f) ∷ e ∷ es) ((e.0, f) ∷ es) (e ∷ insert_entry nat_cmp es k f))) in
    let all : (r : Ordering) → P r = λ r. elim r as P [
      | Less ↦ λ i. record {
        from = λ g h. elim (cons_cases f (e.1 ∷ vs) g h)
            [ inl p ↦ inr (subst (λ w. Contains (f ∷ []) w) p (one_here f)) | inr q ↦ inl q ];
        kept = λ g h. (g, later_here f (e.1 ∷ vs) g h, refl);
        added = λ g h. (f, first_here f (e.1 ∷ vs), ap stamp_in (only_one f g h));
      }
      | Equal ↦ λ i. record {
        from = λ g h. elim (cons_cases f vs g h)
            [ inl p ↦ inr (subst (λ w. Contains (f ∷ []) w) p (one_here f)) | inr q ↦ inl (later_here e.1 vs g q) ];
        kept = λ g h. elim (cons_cases e.1 vs g h) [
          | inl p ↦ (f, first_here f vs, exact_unsigned k e.0 i ∙ (keyed_first e es keyed ∙ ap stamp_in p))
          | inr q ↦ (g, later_here f vs g q, refl)
        ];
        added = λ g h. (f, first_here f vs, ap stamp_in (only_one f g h));
      }
      | Greater ↦ λ i. (let r = inserted es f (keyed_rest e es keyed) in
          let ws : List NamedNode = map (λ (e : ℕ × NamedNode). e.1) (insert_entry nat_cmp es k f) in record {
            from = λ g h. elim (cons_cases e.1 ws g h) [
              | inl p ↦ inl (subst (λ w. Contains (e.1 ∷ vs) w) p (first_here e.1 vs))
              | inr q ↦ elim (r.from g q) [ inl j ↦ inl (later_here e.1 vs g j) | inr j ↦ inr j ]
            ];
            kept = λ g h. elim (cons_cases e.1 vs g h) [
              | inl p ↦ (e.1, first_here e.1 ws, ap stamp_in p)
              | inr q ↦ (let s = r.kept g q in (s.0, later_here e.1 ws s.0 s.1, s.2))
            ];
            added = λ g h. (let s = r.added g h in (s.0, later_here e.1 ws s.0 s.1, s.2));
          })
    ] in all (nat_cmp k e.0) refl

cons_both : {x y : ℕ} {xs ys : List ℕ} → x ≡ y → xs ≡ ys → x ∷ xs ≡ y ∷ ys
cons_both p q = cc (p, q)

pub keyed_inserted : (es : List (ℕ × NamedNode)) (f : NamedNode) → AreKeyed es
    → AreKeyed (insert_entry nat_cmp es (stamp_in f) f)
keyed_inserted [] f keyed = refl
keyed_inserted (e ∷ es) f keyed =
    let k : ℕ = stamp_in f in
    let P : Ordering → Type 0 = λ r. nat_cmp k e.0 ≡ r
    → AreKeyed (match_ordering r ((k, f) ∷ e ∷ es) ((e.0, f) ∷ es) (e ∷ insert_entry nat_cmp es k f)) in
    let all : (r : Ordering) → P r = λ r. elim r as P [
      | Less ↦ λ i. ap (λ (w : List ℕ). k ∷ w) keyed
      | Equal ↦ λ i. cons_both (sym (exact_unsigned k e.0 i)) (keyed_rest e es keyed)
      | Greater ↦ λ i. cons_both (keyed_first e es keyed) (keyed_inserted es f (keyed_rest e es keyed))
    ] in all (nat_cmp k e.0) refl

-- each entry stands under its value's stamp
pub keyed_at : (es : List (ℕ × NamedNode)) (f : NamedNode) → AreKeyed es
    → Contains (map (λ (e : ℕ × NamedNode). e.1) es) f
    → Contains (map (λ (e : ℕ × NamedNode). e.0) es) (stamp_in f)
keyed_at es f keyed h =
    let at : List ℕ → Type 0 = λ ks. Contains ks (stamp_in f) in
    let both : map (λ (e : ℕ × NamedNode). stamp_in e.1) es
    ≡ map stamp_in (map (λ (e : ℕ × NamedNode). e.1) es) = stamps_twice es in
    subst at (sym (keyed ∙ both)) (map_to stamp_in (map (λ (e : ℕ × NamedNode). e.1) es) f h)

pub keyed_last : (es : List (ℕ × NamedNode)) (e : ℕ × NamedNode) → AreKeyed (es ++ e ∷ [])
    → AreKeyed es × (e.0 ≡ stamp_in e.1)
keyed_last [] e keyed = (refl, keyed_first e [] keyed)
keyed_last (d ∷ es) e keyed = let r = keyed_last es e (keyed_rest d (es ++ e ∷ []) keyed) in
    (cons_both (keyed_first d (es ++ e ∷ []) keyed) r.0, r.1)

-- what isn't is added and noted
pub adds_one : (a b : Walked) (f : NamedNode) → Joins a.ahead (f ∷ []) b.ahead
    → ((x : ℕ) → Contains b.met x → (x ≡ stamp_in f) ⊎ Contains a.met x) → Adds a (f ∷ []) b
adds_one a b f joins noted =
    let own = joins.added f (one_here f) in
    record {
      from = joins.from;
      kept = joins.kept;
      added = λ g h. inl (joins.added g h);
      met = λ x h. elim (noted x h) [ inl e ↦ inl (own.0, own.1, own.2 ∙ sym e) | inr k ↦ inr k ];
    }

-- what is known to be ahead or met need not be added
pub adds_known : (w : Walked) (f : NamedNode) → HasStampIn w.ahead (stamp_in f) ⊎ Contains w.met (stamp_in f)
    → Adds w (f ∷ []) w
adds_known w f known = record {
  from = λ g h. inl h;
  kept = λ g h. (g, h, refl);
  added = λ g h. subst (λ (v : NamedNode). HasStampIn w.ahead (stamp_in v) ⊎ Contains w.met (stamp_in v))
      (only_one f g h) known;
  met = λ x h. inr h;
}

pub adds_more : (a b d : Walked) (xs ys : List NamedNode) → Adds a xs b → Adds b ys d → Adds a (xs ++ ys) d
adds_more a b d xs ys p q =
    let on : (x : ℕ) → HasStampIn b.ahead x
    → HasStampIn d.ahead x = λ x h. (let r = q.kept h.0 h.1 in (r.0, r.1, r.2 ∙ h.2)) in
    let either : (x : ℕ) → HasStampIn b.ahead x ⊎ Contains a.met x
    → HasStampIn d.ahead x ⊎ Contains a.met x = λ x h. elim h [ inl i ↦ inl (on x i) | inr j ↦ inr j ] in
    record {
      from = λ g h. elim (q.from g h) [
        | inl i ↦ elim (p.from g i) [ inl j ↦ inl j | inr j ↦ inr (Contains-append_left xs ys g j) ]
        | inr i ↦ inr (Contains-append_right xs ys g i)
      ];
      kept = λ g h. on (stamp_in g) (p.kept g h);
      added = λ g h. elim (Contains-append_cases xs ys g h) [
        | inl i ↦ either (stamp_in g) (p.added g i)
        | inr i ↦ elim (q.added g i) [ inl j ↦ inl j | inr j ↦ either (stamp_in g) (p.met (stamp_in g) j) ]
      ];
      met = λ x h. elim (q.met x h) [ inl i ↦ inl i | inr j ↦ either x (p.met x j) ];
    }
