use Rattle.std.proofs.Common.{ℕ, List, [], ◌∷◌, ◌++◌, refl, w64}
use mir.Syntax.{a_type, dcons, dnil}
use mir.MapTy.{inst_fn}
use denote.Param.{param, bounded}
use mir.Val.{Val, vint, vstruct, vcons, vnil, of_list}
use base.Logic.{SProp, emp}
use base.Fml.{ftrue, fsep, feq, flft}
use types.Kit.{‵, raw, ◌⊛◌, some, later, ◌$◌, ◌∵◌, !, qed, by, move, keep, split, fjoin, fjoin3, fpack, pick, use0}
use types.Kit.{await, feq_i}
use types.Run.{no_more, and_then, returns, enter}
use types.ByLocal.{alloc_all, pass_all, free_all, look_at, get, sets}
use types.Part.{agg}
use contract.Monad.{fact_i}
use contract.Running.{tables}
use denote.Exit.{yes}
use denote.RattleType.{RattleType, owns, Valss}
use denote.Signature.{types_at, plain}
use denote.Builtin.{u64, unit}
use denote.Plain.{uint_vals, uint_Tells}
use denote.Steps.{nothing}
use denote.Struct.Tuple.{Tuple}
use denote.Triple.Walked.{Stays, stay_dropped, walk_of, Goes-dropped}
use Rattle.logbook.proofs.Walks.{proved}
use Rattle.logbook.specs.Kept.{pens_own}
use Rattle.logbook.specs.contracts.tokens.Start as Start
use Rattle.logbook.proofs.Fields.{token, Token, token_made, ends}
use Rattle.head_word.specs.contracts.entry.Answer as Answer
use Rattle.head_word.specs.contracts.entry.Entry as Entry
use Rattle.head_word.specs.contracts.law.Law as Law
use Rattle.head_word.specs.contracts.law.LawRuleEntryAnswer.TheImpl as rule
use Rattle.head_word.specs.contracts.tally.Tallies as Tallies
use Rattle.head_word.specs.Inside.Parts.{tally_name, kept_tallies}
use Rattle.head_word.proofs.Trading as trading
use Rattle.head_word.specs.contracts.tally.Tallies.open.{ended, clauses}
use Rattle.head_word.specs.contracts.tally.Tallies.open.Key.{name as #self}
use Rattle.head_word.proofs.tally.Tallies.open.Statement.{statement}
use Rattle.head_word.proofs.tally.Tallies.open.Code as code

pub open_spec : {M : Type 1} → statement M
open_spec 𝓤 𝓛 𝓜 𝓡 wired S _ g d _ =
    let H = 𝓛.H in let 𝓣 = tables 𝓤 H 𝓜 𝓡 𝓡.env in let S' : RattleType = param 0 S in let En = ended S g d in
    let inst = bounded (a_type ∷ []) (S, tt) (dcons d dnil) in let fn = inst_fn inst code.function in
    let c = clauses S g d 𝓛 𝓜.mem 𝓡.returns in
    let St : RattleType = Start.the_row Entry.the_row Answer.the_row (Law.the_row S') (rule.ghosts S' g rule.no_dict) in
    let All : RattleType = Tuple (Entry.the_row ∷ Answer.the_row ∷ Law.the_row S' ∷ []) in
    let hs : Stays En.signature.params En.kept = (stay_dropped (plain (λ _. u64)) yes, tt) in
    proved 𝓛 En hs c 𝓜 𝓡 (Goes-dropped 𝓛 1 (plain (λ _. u64)) yes (λ κs x f. refl), tt) (#self inst) fn
    (code.unfolded 𝓤 H 𝓜 𝓡 wired (S, tt) d)
    (λ κs. (uint_vals w64, tt)) (λ κs. (uint_Tells w64, tt)) (λ κs qs bounds a gh are.
    let n : ℕ = a.0 in
    let y : (walk_of 𝓛 En hs c).Ghost = ((κs, qs, bounds, a, (vint w64 n ∷ [], tt)), gh) in let Post : Val
    → SProp 𝓤 = (walk_of 𝓛 En hs c).post y in
    qed 𝓛 ((‵ (fsep (flft κs.0 qs.0) ftrue) ⊛ ‵ (owns (types_at En.signature.params κs) a y.0.4))
    ∷ raw ((c κs a).requires gh) ∷ []) ∵ keep ! (0 ∷ []) $ split ! $ keep ! (0 ∷ []) $
    enter ! 𝓣.C 𝓣.Λ fn (vint w64 n ∷ []) Post $ alloc_all !
    (λ l. pass_all ! refl ((tt, record { fits = are.0.1 }), tt) $
    use0 𝓛 (later (some (λ (δ : ℕ). ‵ (kept_tallies (δ ∷ n ∷ []) []) ⊛ ‵ (pens_own (tally_name (δ ∷ n ∷ [])) 0 n))))
    (trading.opens 𝓛 n) $ await ! tt $ pick ! (λ δ. split ! $
    sets ! (agg ! (no_more !)) refl (tt, tt) $ sets ! (agg ! (and_then ! (get ! refl) (no_more !))) refl
    (tt, (tt, tt)) $
    sets ! (agg ! (no_more !)) refl (tt, tt) $ sets ! (agg ! (and_then ! (get ! refl) (no_more !))) refl
    (tt, (tt, tt)) $ sets ! (agg ! (and_then ! (get ! refl) (and_then ! (get ! refl) (no_more !)))) refl
    (tt, ((tt, tt), ((tt, tt), tt))) $
    use0 𝓛 (‵ ((Token All).own_val (record {}, tt) (token ∷ []))) (token_made All 𝓛) $ fjoin ! $ move !
    (1 ∷ []) $ use0 𝓛 (‵ ((Token unit).own_val (record {}, tt) (token ∷ [])))
    (token_made unit 𝓛) $ fjoin ! $ nothing ! $ move ! (2 ∷ 1 ∷ 0 ∷ []) $ fjoin3 ! $
    let v : Val = vstruct (vcons token (vcons token vnil)) in let Rs : List RattleType = St ∷ Tallies.the_row ∷ [] in
    let s : St.Denot = record { marker = record {}; names = δ ∷ n ∷ []; shown = [] } in
    let p : Tallies.the_row.Denot = record { marker = record {}; names = δ ∷ n ∷ []; next = 0; left = n } in
    feq_i ! (List Val) (v ∷ []) (v ∷ []) refl $ fjoin ! $ fpack ! (Valss Rs)
    (λ vss. fsep (feq (List Val) (v ∷ []) (vstruct (of_list (vss.0 ++ (vss.1.0 ++ []))) ∷ []))
    (owns Rs (s, (p, tt)) vss)) (token ∷ [], (token ∷ [], tt)) $
    nothing ! $ nothing ! $ fjoin ! $
    returns ! (look_at ! 0 refl) $ free_all ! refl $ keep ! (2 ∷ 0 ∷ 1 ∷ []) $ by !
    (ends 𝓛 En hs c y v (s, p) (tt, tt) (tt, tt) (fact_i 𝓤 _ (emp 𝓤) (refl, refl, refl, refl, refl))))))
