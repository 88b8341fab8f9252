-- `act` hands what the handle owns to `act_held`, and takes it back.
use Rattle.std.proofs.Common.{List, [], ◌∷◌, ◌++◌, refl, sym, ap, ◌∙◌, subst, w64}
use mir.Syntax.{Dict, dnil, impl, tcons, tnil, ty_int, ty_struct}
use mir.Val.{Val, vint, vstruct, of_list}
use base.Fraction.{full_share}
use base.Logic.{SProp, ent, emp, id⊢}
use base.Fml.{ftrue, fsep, flft}
use prog.Wp.{WpFn}
use types.Kit.{Item, ‵, raw, ◌⊛◌, some, later, ◌$◌, ◌∵◌, !, qed, by, move, keep, drop, split, split3, join, fsplit}
use types.Kit.{fjoin, fpick, pick, use0, use1, await, feq_l, suffices}
use types.Run.{stop, fld, of_opd, no_more, and_then, returns, enter}
use types.ByLocal.{alloc_all, pass_all, free_all, look_at, get, get_in, sets, lands_as}
use types.Part.{agg, sub, whole}
use contract.BorrowLft.{◌⊑◌, ⊑_static}
use contract.Monad.{fact, fact_i}
use contract.Running.{tables}
use denote.Exit.{no, yes}
use denote.RattleType.{RattleType}
use denote.Signature.{plain, named_lft}
use denote.Steps.{heard, nothing, only}
use denote.Param.{layout, param}
use denote.Param.Laws.{Laws, arg_laws}
use denote.Param.Send.{IsSync}
use denote.Struct.Tuple.{Tuple}
use denote.Triple.Clauses.{Lasts, lasts}
use denote.Triple.Spec.{triple_of}
use denote.Triple.Call.{calls_at}
use denote.Triple.Walked.{Stays, stay_dropped, walk_of, Goes-dropped}
use Rattle.core.proofs.alloc.Calls.{handle_tells}
use Rattle.core.proofs.atomic.Steps.{fm}
use Rattle.core.proofs.cell.Inside.{Good}
use Rattle.core.proofs.marker.Brand.TheLaws.{the_row_laws}
use Rattle.core.proofs.marker.Brand.TheSendSync.{the_sync}
use Rattle.core.specs.contracts.marker.Brand as Brand
use Rattle.std_heap.specs.contracts.Global as Heap
use Rattle.std.proofs.raw_atomic.Walks.{proved_at, leaves}
use Rattle.giqaymu_c.specs.Owned.{marker, spot_row, place_owns, held_owns}
use Rattle.host_places.specs.declared.mutators.NamesMutators as NamesMutators
use Rattle.host_places.specs.Mutators.{Meant}
use Rattle.giqaymu_c.specs.Exports.{IsLike}
use Rattle.giqaymu_c.specs.Jobs.{Acts, IsFit, meant_at}
use Rattle.giqaymu_c.proofs.Values.{opaque, al, MaybeBox, ptr_good, marked, marked_good, handle_good, held_in, held_out}
use Rattle.giqaymu_c.proofs.Values.{handle_in, handle_out, three, three_good, three_in}
use Rattle.giqaymu_c.specs.contracts.handle.Handle as handle
use Rattle.giqaymu_c.specs.contracts.jobs.Job as Job
use Rattle.giqaymu_c.specs.contracts.jobs.JobReply as JobReply
use Rattle.giqaymu_c.proofs.jobs.Job.TheLaws as job
use Rattle.giqaymu_c.proofs.jobs.JobReply.TheLaws as reply
use Rattle.giqaymu_c.specs.contracts.spots.act_held as callee
use Rattle.giqaymu_c.proofs.spots.act_held.Met.{met}
use Rattle.giqaymu_c.specs.contracts.handle.act.{ended, clauses}
use Rattle.giqaymu_c.specs.contracts.handle.act.Key.{name as #self}
use Rattle.giqaymu_c.proofs.handle.act.Statement.{statement}
use Rattle.giqaymu_c.proofs.handle.act.Code as code

marker_laws : Laws marker
marker_laws = arg_laws (ty_struct [] tnil) no Brand.the_row the_row_laws refl

marker_sync : IsSync (param 0 marker)
marker_sync = record { shared = the_sync.shared }

abbrev dict : Dict
dict = impl [] tnil dnil

abbrev glue : Dict
glue = impl ("giqaymu_c::Destruct++none::drop" ∷ []) (tcons (layout marker) tnil) dnil

pub act_spec : {M : Type 1} → statement M
unfolding Rattle.giqaymu_c.proofs.Destruct++none.drop.Code.code
act_spec {M} 𝓤 𝓛 𝓜 𝓡 wired =
    let H = 𝓛.H in let 𝓣 = tables 𝓤 H 𝓜 𝓡 𝓡.env in let fn = code.function in
    let En = ended in let c = clauses 𝓛 𝓜.mem 𝓡.returns in
    let hs : Stays En.signature.params En.kept = (
      stay_dropped (plain (λ _. handle.the_row)) yes,
      (
        stay_dropped (plain (λ _. Heap.the_row)) yes,
        (stay_dropped (plain (λ κs. Job.the_row (named_lft 1 0 tt κs))) yes, tt),
      ),
    ) in
    proved_at 𝓛 En hs c 𝓜 𝓡 (
      Goes-dropped 𝓛 1 (plain (λ _. handle.the_row)) yes (λ κs x f. refl),
      (
        Goes-dropped 𝓛 1 (plain (λ _. Heap.the_row)) yes (λ κs x f. refl),
        (Goes-dropped 𝓛 1 (plain (λ κs. Job.the_row (named_lft 1 0 tt κs))) yes (λ κs x f. refl), tt),
      ),
    )
    #self fn (code.unfolded 𝓤 H 𝓜 𝓡 wired) (λ z are.
    let κs = z.0.0 in let qs = z.0.1 in let h = z.0.3.0 in let a = z.0.3.1.0 in let x = z.0.3.1.1.0 in let vs = z.0.4 in
    let Jb : RattleType = Job.the_row (named_lft 1 0 tt κs) in
    let meant : Meant = meant_at h.text h.asks h.own in
    let g : NamesMutators.Ghosts marker.Denot = record { meant = meant } in
    let R : RattleType = spot_row h.text h.asks h.own in
    let Post : Val → SProp 𝓤 = (walk_of 𝓛 En hs c).post z in
    let Run : List Val → SProp 𝓤 = λ ws. WpFn 𝓤 H 𝓣.C 𝓣.Λ fn ws Post in
    let Fits : Type 0 = IsFit x meant h.spot in
    qed 𝓛 (((‵ (flft κs.0 qs.0) ⊛ ‵ ftrue) ⊛ ‵ (fsep ((handle.the_row).own_val h vs.0)
    (fsep ((Heap.the_row).own_val a vs.1.0) (fsep (Jb.own_val x vs.1.1.0) ftrue)))) ∷ raw (fact 𝓤 Fits) ∷ []) ∵
    move ! (1 ∷ []) $ heard ! Fits (λ fit. split ! $ split ! $ move ! (2 ∷ []) $ fsplit ! $
    handle_out ! h vs.0 (λ flag wsH. move ! (1 ∷ []) $ fsplit ! $
    handle_tells al ! a vs.1.0 (λ hv wsA fitsA. move ! (1 ∷ []) $ fsplit ! $
    handle_tells (opaque Jb (job.the_row_laws (named_lft 1 0 tt κs))) ! x vs.1.1.0 (λ jv wsJ fitsJ.
    -- [what is asked; nothing; the heap; what is held; the token; nothing]
    let p = h.at in let n = h.is_open in let w : List Val = marked p n ∷ hv ∷ jv ∷ [] in
    let number : Good (ty_int w64) (vint w64 n) = (tt, record { fits = flag }) in
    suffices ! (Run w)
    (subst (λ (us : List Val). ent 𝓤 (Run w) (Run us)) (sym (λ i. wsH i ++ (wsA i ++ (wsJ i ++ []))))
    (id⊢ 𝓤 (Run w))) $
    enter ! 𝓣.C 𝓣.Λ fn w Post $ alloc_all ! (λ l. pass_all ! refl (handle_good p n flag, (fitsA, (fitsJ, tt))) $
    let typed = marked_good R p n flag in
    sets ! (of_opd ! (get_in ! (fld ! refl (stop !)) (sub ! 0 refl (whole !)))) refl (ptr_good p) $
    sets ! (of_opd ! (get_in ! (fld ! refl (stop !)) (sub ! 1 refl (whole !)))) refl number $
    sets ! (of_opd ! (get ! refl)) refl (ptr_good p) $
    sets ! (agg ! (and_then ! (get ! refl) (and_then ! (get ! refl) (no_more !)))) refl typed $
    sets ! (of_opd ! (get ! refl)) refl typed $ sets ! (of_opd ! (get ! refl)) refl fitsJ $
    let k = triple_of 𝓛 (callee.signature marker g dict)
    (callee.spec marker g dict 𝓛 𝓜.mem 𝓡.returns) in
    let Ce = callee.ended marker g dict in
    let d : (MaybeBox R).Denot = record { at = p; is_open = n; value = h.spot } in
    let y : k.Ghost = (
      (
        (κs.0, ([], tt)),
        (qs.0, (full_share, tt)),
        tt,
        (d, (a, (x, tt))),
        (marked p n ∷ [], (hv ∷ [], (jv ∷ [], tt))),
      ),
      tt,
    ) in
    let toks : Item 𝓤 = ‵ (flft κs.0 qs.0) ⊛ ‵ (flft [] full_share) ⊛ ‵ ftrue in
    fjoin ! $ move ! (1 ∷ 0 ∷ []) $ fjoin ! $ move ! (1 ∷ []) $ use1 𝓛 (‵ (held_owns R n p h.spot)) (id⊢ 𝓤 _) $
    held_in R ! p n h.spot flag $ fjoin ! $
    -- [the arguments; the token; nothing]
    use0 𝓛 (‵ (flft [] full_share)) (𝓛.lfts.lft-nil full_share) $ move ! (0 ∷ 3 ∷ []) $ join ! $ move ! (2 ∷ 0 ∷ []) $
    join ! $ join ! $
    use0 𝓛 (raw (fact 𝓤 Fits)) (fact_i 𝓤 Fits (emp 𝓤) fit) $
    use0 𝓛 (raw (fact 𝓤 (IsSync (param 0 marker)))) (fact_i 𝓤 (IsSync (param 0 marker)) (emp 𝓤) marker_sync) $ join ! $
    use0 𝓛 (raw (fact 𝓤 ([] ⊑ []))) (fact_i 𝓤 ([] ⊑ []) (emp 𝓤) (⊑_static [])) $ join ! $ move ! (1 ∷ 0 ∷ []) $ join ! $
    use1 𝓛 (raw (k.pre y)) (id⊢ 𝓤 _) $
    calls_at ! (fm 𝓛 𝓜 𝓡) k
    (met 𝓤 𝓛 𝓜 𝓡 (code.calls-giqaymu_c::spots::act_held 𝓡.env wired) marker marker_laws g dict
    (λ 𝓛' 𝓜' 𝓡' like. record {}))
    y (and_then ! (get ! refl) (and_then ! (get ! refl) (and_then ! (get ! refl) (no_more !)))) (λ u.
    let Did : (MaybeBox R).Denot × (MaybeBox R).Denot × (JobReply.the_row).Denot
    → Type 0 = λ r. Acts x meant h.spot r.2 r.0.value r.1.value in
    use1 𝓛 (later
    (some (λ (r : (MaybeBox R).Denot × (MaybeBox R).Denot × (JobReply.the_row).Denot).
    (toks ⊛ ‵ ((Tuple (MaybeBox R ∷ MaybeBox R ∷ JobReply.the_row ∷ [])).own_val r (u ∷ []))) ⊛ some
    (λ (ws : Lasts Ce y.0.0 y.0.3). ‵ (lasts Ce y.0.0 y.0.3 ws) ⊛ raw (fact 𝓤 (Did r))))))
    (id⊢ 𝓤 (k.post y u)) $
    await ! tt $ pick ! (λ r. split ! $ move ! (1 ∷ []) $ pick ! (λ ws. split ! $ drop ! $
    heard ! (Did r) (λ did. split ! $ move ! (1 ∷ []) $
    fpick ! (λ vss. fsplit ! $ feq_l ! (λ eu. fsplit ! $ held_out R ! r.0 vss.0 (λ flag₁ ws₁. move ! (1 ∷ []) $
    fsplit ! $ held_out R ! r.1 vss.1.0 (λ flag₂ ws₂. move ! (1 ∷ []) $ fsplit ! $
    handle_tells (opaque JobReply.the_row reply.the_row_laws) ! r.2 vss.1.1.0 (λ tv wsT fitsT.
    -- [what it came to; nothing; the second; the first; the tokens]
    let p₁ = r.0.at in let n₁ = r.0.is_open in let p₂ = r.1.at in let n₂ = r.1.is_open in
    let number₁ : Good (ty_int w64) (vint w64 n₁) = (tt, record { fits = flag₁ }) in
    let number₂ : Good (ty_int w64) (vint w64 n₂) = (tt, record { fits = flag₂ }) in
    let held₁ = marked_good R p₁ n₁ flag₁ in let held₂ = marked_good R p₂ n₂ flag₂ in
    let good₁ = handle_good p₁ n₁ flag₁ in let good₂ = handle_good p₂ n₂ flag₂ in
    lands_as ! (ap only (eu ∙ (λ j. vstruct (of_list (ws₁ j ++ (ws₂ j ++ (wsT j ++ [])))) ∷ []))) refl
    (three_good (MaybeBox R) (MaybeBox R) JobReply.the_row (marked p₁ n₁) (marked p₂ n₂) tv held₁ held₂ fitsT) $
    sets ! (of_opd ! (get_in ! (fld ! refl (stop !)) (sub ! 0 refl (whole !)))) refl held₁ $
    sets ! (of_opd ! (get_in ! (fld ! refl (stop !)) (sub ! 1 refl (whole !)))) refl held₂ $
    sets ! (of_opd ! (get_in ! (fld ! refl (stop !)) (sub ! 2 refl (whole !)))) refl fitsT $
    sets ! (of_opd ! (get_in ! (fld ! refl (stop !)) (sub ! 0 refl (whole !)))) refl (ptr_good p₁) $
    sets ! (of_opd ! (get_in ! (fld ! refl (stop !)) (sub ! 1 refl (whole !)))) refl number₁ $
    sets ! (of_opd ! (get ! refl)) refl (ptr_good p₁) $
    sets ! (agg ! (and_then ! (get ! refl) (and_then ! (get ! refl) (no_more !)))) refl good₁ $
    sets ! (of_opd ! (get_in ! (fld ! refl (stop !)) (sub ! 0 refl (whole !)))) refl (ptr_good p₂) $
    sets ! (of_opd ! (get_in ! (fld ! refl (stop !)) (sub ! 1 refl (whole !)))) refl number₂ $
    sets ! (of_opd ! (get ! refl)) refl (ptr_good p₂) $
    sets ! (agg ! (and_then ! (get ! refl) (and_then ! (get ! refl) (no_more !)))) refl good₂ $
    sets ! (of_opd ! (get ! refl)) refl good₁ $ sets ! (of_opd ! (get ! refl)) refl good₂ $
    sets ! (agg ! (and_then ! (get ! refl) (and_then ! (get ! refl) (and_then ! (get ! refl) (no_more !))))) refl
    (three_good handle.the_row handle.the_row JobReply.the_row (marked p₁ n₁) (marked p₂ n₂) tv good₁ good₂ fitsT) $
    let made₁ : (handle.the_row).Denot =
    record { at = p₁; is_open = n₁; text = h.text; asks = h.asks; own = h.own; spot = r.0.value } in
    let made₂ : (handle.the_row).Denot =
    record { at = p₂; is_open = n₂; text = h.text; asks = h.asks; own = h.own; spot = r.1.value } in
    let Ensured : Type 0 = IsLike h made₁ × IsLike h made₂ × Acts x meant h.spot r.2 made₁.spot made₂.spot in
    returns ! (look_at ! 0 refl) $ free_all ! refl $ keep ! (2 ∷ 3 ∷ 0 ∷ 4 ∷ []) $
    use1 𝓛 (‵ (place_owns h.text h.asks h.own n₂ p₂ r.1.value)) (id⊢ 𝓤 _) $ handle_in ! p₂ n₂ h.text h.asks h.own
    r.1.value flag₂ $
    move ! (1 ∷ []) $ use1 𝓛 (‵ (place_owns h.text h.asks h.own n₁ p₁ r.0.value)) (id⊢ 𝓤 _) $
    handle_in ! p₁ n₁ h.text h.asks h.own r.0.value flag₁ $
    three_in ! handle.the_row handle.the_row JobReply.the_row made₁ made₂ r.2 (marked p₁ n₁) (marked p₂ n₂) tv $
    use0 𝓛 (raw (fact 𝓤 Ensured)) (fact_i 𝓤 Ensured (emp 𝓤) ((refl, refl, refl), (refl, refl, refl), did)) $
    nothing ! $ nothing ! $ nothing ! $ nothing ! $ fjoin ! $ move ! (1 ∷ 0 ∷ []) $ fjoin ! $ move ! (1 ∷ 0 ∷ []) $
    fjoin ! $
    move ! (3 ∷ []) $ split3 ! $ move ! (1 ∷ []) $ drop ! $ join ! $ move ! (0 ∷ 1 ∷ 3 ∷ 2 ∷ []) $
    by ! (leaves 𝓛 En hs c z (three (marked p₁ n₁) (marked p₂ n₂) tv) (made₁, made₂, r.2) (tt, (tt, (tt, tt)))
    (tt, (tt, (tt, tt)))))))))))))))))))
