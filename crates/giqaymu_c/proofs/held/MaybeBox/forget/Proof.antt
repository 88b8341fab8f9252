-- `forget` lets go of nothing.
use Rattle.std.proofs.Common.{List, [], ◌∷◌, ◌++◌, refl, sym, subst}
use mir.Syntax.{a_type, dcons, dnil}
use mir.Val.{Val, vunit}
use mir.MapTy.{inst_fn}
use base.Logic.{SProp, ent, id⊢}
use base.Fml.{ftrue, fsep, flft}
use prog.Wp.{WpFn}
use types.Kit.{Item, ‵, raw, ◌⊛◌, ◌$◌, ◌∵◌, !, qed, by, move, keep, drop, split, fsplit, fjoin, suffices, feq_i}
use types.Run.{of_opd, returns, enter, unit_lit}
use types.ByLocal.{alloc_all, pass_all, free_all, look_at, sets}
use contract.Running.{tables}
use denote.Exit.{no}
use denote.RattleType.{RattleType}
use denote.Signature.{plain}
use denote.Steps.{nothing}
use denote.Param.{param, bounded}
use denote.Triple.Walked.{Stays, stay_dropped, walk_of}
use Rattle.core.proofs.alloc.Calls.{Goes-blank}
use Rattle.std.proofs.raw_atomic.Walks.{proved_at, leaves}
use Rattle.giqaymu_c.proofs.Values.{MaybeBox, marked, marked_good, held_out}
use Rattle.giqaymu_c.specs.contracts.held.MaybeBox.forget.{ended, clauses}
use Rattle.giqaymu_c.specs.contracts.held.MaybeBox.forget.Key.{name as #self}
use Rattle.giqaymu_c.proofs.held.MaybeBox.forget.Statement.{statement}
use Rattle.giqaymu_c.proofs.held.MaybeBox.forget.Code as code

pub forget_spec : {M : Type 1} → statement M
forget_spec 𝓤 𝓛 𝓜 𝓡 wired X L d glued =
    let H = 𝓛.H in let 𝓣 = tables 𝓤 H 𝓜 𝓡 𝓡.env in let R : RattleType = param 0 X in
    let En = ended X d in let c = clauses X d 𝓛 𝓜.mem 𝓡.returns in
    let inst = bounded (a_type ∷ []) (X, tt) (dcons d dnil) in let fn = inst_fn inst code.function in
    let hs : Stays En.signature.params En.kept = (stay_dropped (plain (λ _. MaybeBox R)) no, tt) in
    proved_at 𝓛 En hs c 𝓜 𝓡 (Goes-blank 𝓛 1 (plain (λ _. MaybeBox R)) no (λ κs x f. tt), tt) (#self inst) fn
    (code.unfolded 𝓤 H 𝓜 𝓡 wired (X, tt) d) (λ z are.
    let κs = z.0.0 in let qs = z.0.1 in let Post : Val → SProp 𝓤 = (walk_of 𝓛 En hs c).post z in
    let Run : List Val → SProp 𝓤 = λ ws. WpFn 𝓤 H 𝓣.C 𝓣.Λ fn ws Post in
    let toks : Item 𝓤 = ‵ (flft κs.0 qs.0) ⊛ ‵ ftrue in
    let v = z.0.3.0 in let w = marked v.at v.is_open in
    qed 𝓛 ((toks ⊛ ‵ (fsep ((MaybeBox R).own_val v z.0.4.0) ftrue)) ∷ raw ((c κs z.0.3).requires z.1) ∷ []) ∵ move !
    (1 ∷ []) $ drop ! $ split ! $ move ! (1 ∷ []) $ fsplit ! $ held_out R ! v z.0.4.0 (λ fits ws. keep ! (2 ∷ []) $
    suffices ! (Run (w ∷ []))
    (subst (λ (us : List Val). ent 𝓤 (Run (w ∷ [])) (Run us)) (sym (λ i. ws i ++ [])) (id⊢ 𝓤 _)) $
    enter ! 𝓣.C 𝓣.Λ fn (w ∷ []) Post $ alloc_all ! (λ l. pass_all ! refl (marked_good R v.at v.is_open fits, tt) $
    sets ! (of_opd ! (unit_lit !)) refl (tt, tt) $
    returns ! (look_at ! 0 refl) $ free_all ! refl $
    nothing ! $ feq_i ! (List Val) (vunit ∷ []) (vunit ∷ []) refl $ nothing ! $ nothing ! $ fjoin ! $
    move ! (3 ∷ 0 ∷ 1 ∷ 2 ∷ []) $ by ! (leaves 𝓛 En hs c z vunit tt (tt, tt) (tt, tt)))))
