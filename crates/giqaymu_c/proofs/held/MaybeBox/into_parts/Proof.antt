-- `into_parts` moves the pointer, and what is held goes with it.
use Rattle.std.proofs.Common.{◌≡◌, ℕ, zero, suc, List, [], ◌∷◌, ◌++◌, Option, Some, None, refl, sym, subst}
use Rattle.std.specs.Prelude.{IsSome}
use mathlib.Core.Bool.{Bool, not}
use mir.Syntax.{a_type, dnil}
use mir.Val.{Val, vptr}
use mir.MapTy.{inst_fn}
use base.Logic.{SProp, ent, emp, id⊢, never, fst∗}
use base.Fml.{ftrue, fsep, flft}
use prog.Wp.{WpFn}
use types.Kit.{Item, Seq, Goal, ‵, raw, ◌⊛◌, ◌$◌, ◌∵◌, !, qed, by, move, keep, drop, split, fsplit, fjoin, use0, use1}
use types.Kit.{suffices}
use types.Logic.{Logic, sem}
use types.Run.{stop, fld, of_opd, no_more, and_then, returns, enter}
use types.ByLocal.{alloc_all, pass_all, free_all, look_at, get, get_in, sets}
use types.Part.{agg, sub, whole}
use contract.BorrowLft.{◌⊑◌}
use contract.Monad.{fact, fact_i}
use contract.Running.{tables}
use denote.Exit.{no, yes}
use denote.RattleType.{RattleType}
use denote.Signature.{plain}
use denote.RawPtr.{Ptr, block_ptr, null_ptr, ptr_val}
use denote.Steps.{nothing, heard}
use denote.Param.{param, bounded}
use denote.Triple.Walked.{Stays, stay_dropped, walk_of}
use Rattle.core.proofs.alloc.Calls.{Goes-blank, handle_tells}
use Rattle.std_heap.specs.contracts.Global as Heap
use Rattle.std_heap.specs.contracts.GlobalAllocator.TheImpl.{ghosts}
use Rattle.std_alloc.specs.Box.Ownership.{box_owns}
use Rattle.std.proofs.raw_atomic.Walks.{proved_at, leaves}
use Rattle.giqaymu_c.specs.Owned.{heap, held_owns}
use Rattle.giqaymu_c.proofs.Values.{falsely, both, al, MaybeBox, BoxParts, ptr_good, marked, marked_good, held_out}
use Rattle.giqaymu_c.proofs.Values.{parts_good}
use Rattle.giqaymu_c.proofs.Values.{parts_in}
use Rattle.giqaymu_c.specs.contracts.held.MaybeBox.into_parts.{ended, clauses}
use Rattle.giqaymu_c.specs.contracts.held.MaybeBox.into_parts.Key.{name as #self}
use Rattle.giqaymu_c.proofs.held.MaybeBox.into_parts.Statement.{statement}
use Rattle.giqaymu_c.proofs.held.MaybeBox.into_parts.Code as code

opened : {M : Type 1} {𝓤 : seplogic.Ra.Ura.Ura M} {𝓛 : Logic 𝓤} {K : Type 0} {Γ : List (Item 𝓤)} {G : Goal 𝓤 𝓛.H}
    (R : RattleType) → K → (k : ℕ) (p : Ptr) (v : Option R.Denot) → IsSome v
    → ((x : R.Denot) (b o : ℕ) → v ≡ Some x → p ≡ block_ptr b o
    → Seq K 𝓛 (‵ (box_owns (ghosts.dealloc_token heap) R (block_ptr b o) x) ∷ Γ) G)
    → Seq K 𝓛 (‵ (held_owns R k p v) ∷ Γ) G
opened R t k p None is next = absurd (subst (λ (b : Bool). lib.Dec.T (not b)) is tt)
opened R t zero p (Some x) is next = falsely t
opened {𝓤 = 𝓤} {𝓛 = 𝓛} R t (suc n) p (Some x) is next =
    denote.RawPtr.in_a_block t p (λ q. box_owns (ghosts.dealloc_token heap) R q x)
    (fst∗ 𝓤 (never 𝓤) (sem 𝓛 (ghosts.dealloc_token heap (mir.Raw.raw (denote.Memory.lone R.mir)) null_ptr)))
    (λ b o e. next x b o refl e)

pub into_parts_spec : {M : Type 1} → statement M
into_parts_spec 𝓤 𝓛 𝓜 𝓡 wired X L =
    let H = 𝓛.H in let 𝓣 = tables 𝓤 H 𝓜 𝓡 𝓡.env in let R : RattleType = param 0 X in
    let En = ended X in let c = clauses X 𝓛 𝓜.mem 𝓡.returns in let inst = bounded (a_type ∷ []) (X, tt) dnil in
    let fn = inst_fn inst code.function in
    let hs : Stays En.signature.params En.kept =
    (stay_dropped (plain (λ _. MaybeBox R)) no, (stay_dropped (plain (λ _. Heap.the_row)) yes, tt)) in
    proved_at 𝓛 En hs c 𝓜 𝓡 (
      Goes-blank 𝓛 1 (plain (λ _. MaybeBox R)) no (λ κs x f. tt),
      (denote.Triple.Walked.Goes-dropped 𝓛 1 (plain (λ _. Heap.the_row)) yes (λ κs x f. refl), tt),
    )
    (#self inst) fn (code.unfolded 𝓤 H 𝓜 𝓡 wired (X, tt)) (λ z are.
    let κs = z.0.0 in let qs = z.0.1 in let Post : Val → SProp 𝓤 = (walk_of 𝓛 En hs c).post z in
    let Run : List Val → SProp 𝓤 = λ ws. WpFn 𝓤 H 𝓣.C 𝓣.Λ fn ws Post in
    let toks : Item 𝓤 = ‵ (flft κs.0 qs.0) ⊛ ‵ ftrue in
    let v = z.0.3.0 in let a = z.0.3.1.0 in let n = v.is_open in let p = v.at in
    qed 𝓛 ((toks ⊛ ‵ (fsep ((MaybeBox R).own_val v z.0.4.0) (fsep ((Heap.the_row).own_val a z.0.4.1.0) ftrue))) ∷ raw
    (fact 𝓤 (κs.0 ⊑ X.lives)) ∷ raw (fact 𝓤 (IsSome v.value)) ∷ []) ∵
    move ! (2 ∷ []) $ heard ! (IsSome v.value) (λ is. move ! (1 ∷ []) $ drop ! $ split ! $ move ! (1 ∷ []) $ fsplit ! $
    held_out R ! v z.0.4.0 (λ fits ws. opened R ! n p v.value is (λ x b o has at.
    move ! (1 ∷ []) $ fsplit ! $ handle_tells al ! a z.0.4.1.0 (λ hv wsA fitsA.
    -- [the heap; nothing; the box; the token]
    let w : List Val = marked p n ∷ hv ∷ [] in
    suffices ! (Run w) (subst (λ (us : List Val). ent 𝓤 (Run w) (Run us)) (sym (λ i. ws i ++ (wsA i ++ []))) (id⊢ 𝓤 _))
    $
    enter ! 𝓣.C 𝓣.Λ fn w Post $ alloc_all ! (λ l. pass_all ! refl (marked_good R p n fits, (fitsA, tt)) $
    sets ! (of_opd ! (get_in ! (fld ! refl (stop !)) (sub ! 0 refl (whole !)))) refl (ptr_good p) $
    sets ! (types.ByLocal.is ! (agg ! (and_then ! (get ! refl) (and_then ! (get ! refl) (no_more !))))
    (λ i. both (ptr_val (at i)) hv)) refl (parts_good R b o hv fitsA) $
    returns ! (look_at ! 0 refl) $ free_all ! refl $ keep ! (2 ∷ 0 ∷ 3 ∷ []) $
    use1 𝓛 (‵ (box_owns (ghosts.dealloc_token a) R (block_ptr b o) x)) (id⊢ 𝓤 _) $ parts_in R ! b o hv a x $
    let made : (BoxParts R).Denot = record { ptr = block_ptr b o; alloc = a; value = x } in
    use0 𝓛 (raw (fact 𝓤 (v.value ≡ Some made.value))) (fact_i 𝓤 (v.value ≡ Some made.value) (emp 𝓤) has) $
    nothing ! $ nothing ! $ nothing ! $ fjoin ! $ move ! (1 ∷ 0 ∷ []) $ fjoin ! $ move ! (3 ∷ 0 ∷ 2 ∷ 1 ∷ []) $
    by ! (leaves 𝓛 En hs c z (both (vptr b o) hv) made (tt, (tt, tt)) (tt, (tt, tt)))))))))
