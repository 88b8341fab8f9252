-- `none_for` owns nothing.
use Rattle.std.proofs.Common.{◌≡◌, List, [], ◌∷◌, ◌++◌, None, refl, sym, subst, lit<}
use mir.Syntax.{named}
use mir.Val.{Val, vptr}
use base.Logic.{SProp, ent, emp, id⊢}
use base.Fml.{ftrue, fsep, flft}
use prog.Wp.{WpFn}
use types.Kit.{‵, raw, ◌⊛◌, ◌$◌, ◌∵◌, !, qed, by, move, keep, drop, split, fsplit, fjoin, use0, use1, feq_l, suffices}
use types.Run.{lit, no_more, and_then, returns, enter}
use types.ByLocal.{alloc_all, pass_all, free_all, look_at, sets}
use types.Part.{agg}
use contract.Monad.{fact, fact_i}
use contract.Running.{tables}
use denote.Builtin.{RefOf}
use denote.Exit.{yes}
use denote.RattleType.{RattleType}
use denote.Signature.{Slot, plain, named_lft}
use denote.RawPtr.{null_ptr}
use denote.Ref.{ShrRef}
use denote.Steps.{nothing}
use denote.Triple.Walked.{Stays, stay_dropped, walk_of, Goes-dropped}
use Rattle.core.proofs.alloc.Calls.{handle_tells}
use Rattle.std.proofs.raw_atomic.Walks.{proved_at, leaves}
use Rattle.giqaymu_c.specs.Owned.{place_owns}
use Rattle.giqaymu_c.proofs.Values.{marked, handle_in, handle_good, opaque}
use Rattle.giqaymu_c.specs.Jobs.{asks_for, text_for}
use Rattle.giqaymu_c.specs.contracts.jobs.Job as Job
use Rattle.giqaymu_c.proofs.jobs.Job.TheLaws as job
use Rattle.giqaymu_c.specs.contracts.handle.Handle as handle
use Rattle.giqaymu_c.specs.contracts.handle.Handle.none_for.{ended, clauses}
use Rattle.giqaymu_c.specs.contracts.handle.Handle.none_for.Key.{name as #self}
use Rattle.giqaymu_c.proofs.handle.Handle.none_for.Statement.{statement}
use Rattle.giqaymu_c.proofs.handle.Handle.none_for.Code as code

abbrev Like : Slot 2
Like = RefOf (1 ∷ []) tt (plain (λ _. handle.the_row)) (λ κs. tt)

pub none_for_spec : {M : Type 1} → statement M
none_for_spec 𝓤 𝓛 𝓜 𝓡 wired =
    let H = 𝓛.H in let 𝓣 = tables 𝓤 H 𝓜 𝓡 𝓡.env in let En = ended in let c = clauses 𝓛 𝓜.mem 𝓡.returns in
    let fn = code.function in
    let hs : Stays En.signature.params En.kept =
    (stay_dropped (plain (λ κs. Job.the_row (named_lft 2 0 tt κs))) yes, (stay_dropped Like yes, tt)) in
    proved_at 𝓛 En hs c 𝓜 𝓡 (
      Goes-dropped 𝓛 2 (plain (λ κs. Job.the_row (named_lft 2 0 tt κs))) yes (λ κs x f. refl),
      (Goes-dropped 𝓛 2 Like yes (λ κs x f. refl), tt),
    )
    #self fn (code.unfolded 𝓤 H 𝓜 𝓡 wired) (λ z are.
    let κs = z.0.0 in let qs = z.0.1 in let x = z.0.3.0 in let y = z.0.3.1.0 in
    let Jb : RattleType = Job.the_row (named_lft 2 0 tt κs) in
    let Post : Val → SProp 𝓤 = (walk_of 𝓛 En hs c).post z in
    let Run : List Val → SProp 𝓤 = λ ws. WpFn 𝓤 H 𝓣.C 𝓣.Λ fn ws Post in
    qed 𝓛 (((‵ (flft κs.0 qs.0) ⊛ ‵ (flft κs.1.0 qs.1.0) ⊛ ‵ ftrue) ⊛ ‵ (fsep (Jb.own_val x z.0.4.0)
    (fsep ((ShrRef (named 1) κs.1.0 handle.the_row).own_val y z.0.4.1.0) ftrue))) ∷ raw ((c κs z.0.3).requires z.1)
    ∷ []) ∵ move ! (1 ∷ []) $ drop ! $ split ! $ move ! (1 ∷ []) $ fsplit ! $
    handle_tells (opaque Jb (job.the_row_laws (named_lft 2 0 tt κs))) ! x z.0.4.0 (λ jv ws fits.
    move ! (1 ∷ []) $ fsplit ! $ fsplit ! $ feq_l ! (λ at. keep ! (1 ∷ 3 ∷ []) $
    let w : List Val = jv ∷ vptr y.ref_ptr.0 y.ref_ptr.1 ∷ [] in
    suffices ! (Run w) (subst (λ (us : List Val). ent 𝓤 (Run w) (Run us)) (sym (λ i. ws i ++ (at i ++ []))) (id⊢ 𝓤 _)) $
    enter ! 𝓣.C 𝓣.Λ fn w Post $ alloc_all ! (λ l. pass_all ! refl (fits, ((tt, tt), tt)) $
    sets ! (agg ! (and_then ! (lit ! tt) (and_then ! (lit ! tt) (no_more !)))) refl (handle_good null_ptr 0 (lit< tt)) $
    returns ! (look_at ! 0 refl) $ free_all ! refl $ keep ! (0 ∷ 1 ∷ []) $
    let own = y.now.own in
    let made : (handle.the_row).Denot =
    record { at = null_ptr; is_open = 0; text = text_for x; asks = asks_for x; own = own; spot = None } in
    let Made : Type 0 = (made.spot ≡ None) × (made.text ≡ text_for x) × (made.asks ≡ asks_for x)
    × (made.own ≡ own) in
    use1 𝓛 (‵ (place_owns (text_for x) (asks_for x) own 0 null_ptr None)) (id⊢ 𝓤 _) $
    handle_in ! null_ptr 0 (text_for x) (asks_for x) own None (lit< tt) $
    use0 𝓛 (raw (fact 𝓤 Made)) (fact_i 𝓤 Made (emp 𝓤) (refl, refl, refl, refl)) $
    nothing ! $ nothing ! $ nothing ! $ fjoin ! $ move ! (1 ∷ 0 ∷ []) $ fjoin ! $ move ! (3 ∷ 0 ∷ 2 ∷ 1 ∷ []) $
    by ! (leaves 𝓛 En hs c z (marked null_ptr 0) made (tt, (tt, tt)) (tt, (tt, tt)))))))
