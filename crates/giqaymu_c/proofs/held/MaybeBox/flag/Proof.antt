-- `flag` copies the flag.
use Rattle.std.proofs.Common.{◌≡◌, ◌<◌, ◌⊎◌, inl, inr, ℕ, zero, suc, List, [], ◌∷◌, ◌++◌, Option, Some, None, refl}
use Rattle.std.proofs.Common.{arith, sym, subst, w64}
use Rattle.std.specs.Prelude.{IsSome}
use mir.Syntax.{a_type, dnil}
use mir.Val.{Val, vint}
use mir.MapTy.{inst_fn}
use base.Logic.{SProp, ent, emp, id⊢}
use base.Fml.{ftrue, fsep, flft}
use prog.Wp.{WpFn}
use types.Kit.{Item, Seq, Goal, ‵, raw, ◌⊛◌, ◌$◌, ◌∵◌, !, qed, by, move, keep, drop, split, fsplit, fjoin, use0}
use types.Kit.{suffices}
use types.Logic.{Logic}
use types.Run.{stop, fld, of_opd, no_more, and_then, returns, enter}
use types.ByLocal.{alloc_all, pass_all, free_all, look_at, get, get_in, sets}
use types.Part.{agg, sub, whole}
use contract.Monad.{fact, fact_i}
use contract.Running.{tables}
use denote.Exit.{no}
use denote.RattleType.{RattleType}
use denote.Signature.{plain}
use denote.RawPtr.{Ptr}
use denote.Steps.{nothing}
use denote.Param.{param, bounded}
use denote.Triple.Walked.{Stays, stay_dropped, walk_of}
use Rattle.core.proofs.alloc.Calls.{Goes-blank}
use Rattle.core.proofs.cell.Inside.{Good}
use Rattle.std.proofs.raw_atomic.Walks.{proved_at, leaves}
use Rattle.giqaymu_c.specs.Owned.{held_owns}
use Rattle.giqaymu_c.proofs.Values.{falsely, both, both_good, MaybeBox, ptr_good, marked, marked_good, held_in}
use Rattle.giqaymu_c.proofs.Values.{held_out}
use Rattle.giqaymu_c.proofs.Values.{pair_in}
use Rattle.giqaymu_c.specs.contracts.held.MaybeBox.flag.{ended, clauses}
use Rattle.giqaymu_c.specs.contracts.held.MaybeBox.flag.Key.{name as #self}
use Rattle.giqaymu_c.proofs.held.MaybeBox.flag.Statement.{statement}
use Rattle.giqaymu_c.proofs.held.MaybeBox.flag.Code as code

-- whether something is held, by the flag
abbrev Told : (R : RattleType) → ℕ → Option R.Denot → Type 0
Told R k v = ((k ≡ 0) × (v ≡ None)) ⊎ ((0 < k) × IsSome v)

told : {M : Type 1} {𝓤 : seplogic.Ra.Ura.Ura M} {𝓛 : Logic 𝓤} {K : Type 0} {Γ : List (Item 𝓤)} {G : Goal 𝓤 𝓛.H}
    (R : RattleType) → K → (k : ℕ) (p : Ptr) (v : Option R.Denot)
    → (Told R k v → Seq K 𝓛 (‵ (held_owns R k p v) ∷ Γ) G) → Seq K 𝓛 (‵ (held_owns R k p v) ∷ Γ) G
told R t zero p None k = k (inl (refl, refl))
told R t zero p (Some x) k = falsely t
told R t (suc n) p None k = falsely t
told R t (suc n) p (Some x) k = k (inr (omega arith, refl))

pub flag_spec : {M : Type 1} → statement M
flag_spec 𝓤 𝓛 𝓜 𝓡 wired X L =
    let H = 𝓛.H in let 𝓣 = tables 𝓤 H 𝓜 𝓡 𝓡.env in let R : RattleType = param 0 X in
    let En = ended X in let c = clauses X 𝓛 𝓜.mem 𝓡.returns in let inst = bounded (a_type ∷ []) (X, tt) dnil in
    let fn = inst_fn inst code.function in
    let hs : Stays En.signature.params En.kept = (stay_dropped (plain (λ _. MaybeBox R)) no, tt) in
    proved_at 𝓛 En hs c 𝓜 𝓡 (Goes-blank 𝓛 1 (plain (λ _. MaybeBox R)) no (λ κs x f. tt), tt) (#self inst) fn
    (code.unfolded 𝓤 H 𝓜 𝓡 wired (X, tt)) (λ z are.
    let κs = z.0.0 in let qs = z.0.1 in let Post : Val → SProp 𝓤 = (walk_of 𝓛 En hs c).post z in
    let Run : List Val → SProp 𝓤 = λ ws. WpFn 𝓤 H 𝓣.C 𝓣.Λ fn ws Post in
    let toks : Item 𝓤 = ‵ (flft κs.0 qs.0) ⊛ ‵ ftrue in
    let v = z.0.3.0 in let n = v.is_open in let p = v.at in let w = marked p n in
    qed 𝓛 ((toks ⊛ ‵ (fsep ((MaybeBox R).own_val v z.0.4.0) ftrue)) ∷ raw ((c κs z.0.3).requires z.1) ∷ []) ∵ move !
    (1 ∷ []) $ drop ! $ split ! $ move ! (1 ∷ []) $ fsplit ! $
    held_out R ! v z.0.4.0 (λ fits ws. told R ! n p v.value (λ is.
    -- [what is held; nothing; the token]
    suffices ! (Run (w ∷ []))
    (subst (λ (us : List Val). ent 𝓤 (Run (w ∷ [])) (Run us)) (sym (λ i. ws i ++ [])) (id⊢ 𝓤 _)) $
    let good = marked_good R p n fits in
    let number : Good (mir.Syntax.ty_int w64) (vint w64 n) = (tt, record { fits = fits }) in
    enter ! 𝓣.C 𝓣.Λ fn (w ∷ []) Post $ alloc_all ! (λ l. pass_all ! refl (good, tt) $
    sets ! (of_opd ! (get_in ! (fld ! refl (stop !)) (sub ! 0 refl (whole !)))) refl (ptr_good p) $
    sets ! (of_opd ! (get_in ! (fld ! refl (stop !)) (sub ! 1 refl (whole !)))) refl number $
    sets ! (agg ! (and_then ! (get ! refl) (and_then ! (get ! refl) (no_more !)))) refl good $
    sets ! (agg ! (and_then ! (get ! refl) (and_then ! (get ! refl) (no_more !)))) refl
    (both_good (MaybeBox R) denote.Builtin.u64 w (vint w64 n) good number) $
    returns ! (look_at ! 0 refl) $ free_all ! refl $ keep ! (0 ∷ 2 ∷ []) $
    held_in R ! p n v.value fits $ move ! (0 ∷ []) $
    denote.Steps.owned ! denote.Builtin.u64 (denote.Laws.Is denote.Builtin.u64) (denote.Plain.uint_Makes 𝓛 w64) n
    (vint w64 n ∷ []) (refl, fits) $ move ! (1 ∷ 0 ∷ []) $
    let made : (MaybeBox R).Denot = record { at = p; is_open = n; value = v.value } in
    pair_in ! (MaybeBox R) denote.Builtin.u64 made n w (vint w64 n) $
    use0 𝓛 (raw (fact 𝓤 ((made.value ≡ v.value) × Told R n v.value)))
    (fact_i 𝓤 ((made.value ≡ v.value) × Told R n v.value) (emp 𝓤) (refl, is)) $
    nothing ! $ nothing ! $ fjoin ! $ move ! (3 ∷ 0 ∷ 2 ∷ 1 ∷ []) $
    by ! (leaves 𝓛 En hs c z (both w (vint w64 n)) (made, n) (tt, tt) (tt, tt))))))
