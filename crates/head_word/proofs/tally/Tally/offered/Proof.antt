use Rattle.std.proofs.Common.{ℕ, ◌<◌, [], ◌∷◌, replicate, sym, refl, subst, None}
use mir.Syntax.{a_type, dcons, dnil, named}
use mir.Val.{Val, vptr}
use mir.MapTy.{inst_fn}
use base.Logic.{SProp, emp}
use base.Fml.{Fml, ftrue, fsep, flft}
use types.Logic.{sem}
use types.Kit.{‵, raw, ◌⊛◌, given, ◌$◌, ◌∵◌, !, qed, by, move, keep, drop, split, fsplit, fjoin, learn, use0, use1}
use types.Run.{no_more, and_then, returns, enter}
use types.ByLocal.{alloc_all, pass_all, free_all, look_at, get, sets}
use types.Part.{agg}
use contract.Monad.{fact, fact_i}
use contract.Running.{tables}
use denote.Exit.{yes}
use denote.RattleType.{RattleType, owns}
use denote.Signature.{types_at, plain}
use denote.Builtin.{RefOf, unit}
use denote.Ref.{shr_vals, shr_Tells}
use denote.Steps.{nothing}
use denote.Param.{param, bounded}
use denote.Struct.Tuple.{Tuple}
use denote.Triple.Walked.{Stays, stay_dropped, walk_of, Goes-dropped}
use Rattle.logbook.proofs.Walks.{proved}
use Rattle.logbook.specs.Kept.{offer_owns}
use Rattle.logbook.proofs.Fields.{token, Token, token_told, token_made, ends}
use Rattle.head_word.specs.contracts.entry.Answer as Answer
use Rattle.head_word.specs.contracts.entry.Entry as Entry
use Rattle.head_word.specs.contracts.law.Law as Law
use Rattle.head_word.specs.contracts.law.Traded as Traded
use Rattle.head_word.specs.contracts.tally.Tally as Tally
use Rattle.head_word.specs.Tallies.{key_of}
use Rattle.head_word.specs.Inside.Parts.{key_end, kept_tallies, tally_owns, Trades, traded}
use Rattle.head_word.proofs.Trading as trading
use Rattle.head_word.specs.contracts.tally.Tally.offered.{ended, clauses}
use Rattle.head_word.specs.contracts.tally.Tally.offered.Key.{name as #self}
use Rattle.head_word.proofs.tally.Tally.offered.Statement.{statement}
use Rattle.head_word.proofs.tally.Tally.offered.Code as code

pub offered_spec : {M : Type 1} → statement M
offered_spec 𝓤 𝓛 𝓜 𝓡 wired S X N _ _ _ g d gn dn _ _ =
    let H = 𝓛.H in let 𝓣 = tables 𝓤 H 𝓜 𝓡 𝓡.env in let S' : RattleType = param 0 S in let X' : RattleType = param 1 X in
    let N' : RattleType = param 2 N in let En = ended S X N g d gn dn in
    let inst = bounded (a_type ∷ a_type ∷ a_type ∷ []) (S, (X, (N, tt))) (dcons d (dcons dn dnil)) in
    let fn = inst_fn inst code.function in let c = clauses S X N g d gn dn 𝓛 𝓜.mem 𝓡.returns in
    let T : RattleType = Tally.the_row in let All : RattleType = Tuple
    (Entry.the_row ∷ Answer.the_row ∷ Law.the_row S' ∷ Traded.the_row ∷ []) in
    let hs : Stays En.signature.params En.kept =
    (stay_dropped (plain (λ _. T)) yes, (stay_dropped (RefOf (0 ∷ []) tt (plain (λ _. X')) (λ _. tt)) yes, tt)) in
    proved 𝓛 En hs c 𝓜 𝓡 (
      Goes-dropped 𝓛 4 (plain (λ _. T)) yes (λ κs x f. refl),
      (Goes-dropped 𝓛 4 (RefOf (0 ∷ []) tt (plain (λ _. X')) (λ _. tt)) yes (λ κs x f. refl), tt),
    ) (#self inst) fn
    (code.unfolded 𝓤 H 𝓜 𝓡 wired (S, (X, (N, tt))) d dn)
    (λ κs. ((λ x. token ∷ []), (shr_vals, tt)))
    (λ κs. ((λ x vs is. token_told unit vs is.0), (shr_Tells (named 0) κs.0 X', tt))) (λ κs qs bounds a gh are.
    let me = a.0 in let x = a.1.0.now in let ask = gn.ask x in let at : Val = vptr a.1.0.ref_ptr.0 a.1.0.ref_ptr.1 in
    let y : (walk_of 𝓛 En hs c).Ghost = ((κs, qs, bounds, a, (token ∷ [], (at ∷ [], tt))), gh) in let Post : Val
    → SProp 𝓤 = (walk_of 𝓛 En hs c).post y in
    let toks : Fml = fsep (flft κs.0 qs.0)
    (fsep (flft κs.1.0 qs.1.0) (fsep (flft κs.1.1.0 qs.1.1.0) (fsep (flft κs.1.1.1.0 qs.1.1.1.0) ftrue))) in
    qed 𝓛 ((‵ toks ⊛ ‵ (owns (types_at En.signature.params κs) a y.0.4)) ∷ raw (fact 𝓤 _) ∷ raw (fact 𝓤 _)
    ∷ raw (fact 𝓤 _) ∷ given _ (‵ ftrue) ∷ []) ∵ keep ! (4 ∷ 0 ∷ []) $ learn ! (λ asked. drop ! $ split ! $
    move ! (1 ∷ []) $ fsplit ! $ fsplit ! $ keep ! (1 ∷ 3 ∷ []) $
    enter ! 𝓣.C 𝓣.Λ fn (token ∷ at ∷ []) Post $ alloc_all ! (λ l. pass_all ! refl ((tt, (tt, tt)), ((tt, tt), tt)) $
    let about = ask ∷ replicate me.count ask in
    let less : key_of ask < key_end me.names = subst (λ (k : ℕ). k < key_end me.names) (sym asked.0) asked.1 in
    let trade : Fml = offer_owns (kept_tallies me.names) (Trades ask) (traded me.names about) None in
    use1 𝓛 (‵ trade) (subst (λ (k : ℕ). base.Logic.ent 𝓤 (sem 𝓛 (tally_owns me.names k me.count)) (sem 𝓛 trade)) asked.0
    (trading.offers 𝓛 me.names ask me.count less)) $
    use0 𝓛 (‵ ((Token All).own_val (record {}, tt) (token ∷ []))) (token_made All 𝓛) $ fjoin ! $ sets !
    (agg ! (no_more !)) refl (tt, tt) $ sets ! (agg ! (and_then ! (get ! refl) (no_more !))) refl (tt, (tt, tt)) $
    nothing ! $ nothing ! $ fjoin ! $ nothing ! $ fjoin ! $
    returns ! (look_at ! 0 refl) $ free_all ! refl $ keep ! (2 ∷ 0 ∷ 1 ∷ []) $ by !
    (ends 𝓛 En hs c y token (record {
      marker = record {};
      names = me.names;
      ask = ask;
      about = about;
      state = None;
    }) (tt, (tt, tt)) (tt, (tt, tt)) (fact_i 𝓤 _ (emp 𝓤) (refl, refl, refl, refl))))))
