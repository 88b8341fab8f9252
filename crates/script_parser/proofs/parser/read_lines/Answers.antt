use Rattle.std.proofs.Common.{◌≡◌, ◌+◌, ◌<◌, ◌==◌, ◌∷◌, refl, length, map, arith, lit<, sym, subst, ap, ◌∙◌}
use Rattle.std.proofs.Common.{length-append, [], Ok, Err}
use Rattle.std.proofs.lemmas.Iterator.Consumers.{YieldsList-at, YieldsList-so_far, YieldsList-turn, YieldsList-end}
use Rattle.std.proofs.lemmas.Iterator.Splits.{YieldsList-from_str_split}
use Rattle.std.proofs.lemmas.List.Splits.{length-slice_split}
use Rattle.std.proofs.lemmas.List.Sums.{count_by-le-length}
use Rattle.std.specs.Result.{result_err}
use Rattle.script_parser.specs.declared.parser.Parser.{Parser}
use Rattle.script_parser.specs.Inside.Parsing.{context_of}
use Rattle.script_parser.specs.Context.{nothing_said}
use Rattle.script_parser.specs.Faults.{lines_of, said_in, said_with, Checks}
use Rattle.script_parser.specs.Inside.Faults.{fault_at, AgreesWith}
use Rattle.script_parser.proofs.Scripts.{Said, Said-none, Said-turn, Said-fault, Said-all, Checks-fault}
use Rattle.script_parser.proofs.parser.read_lines.Goals as goal

pub loop-line-init : goal.loop-line-init
loop-line-init c = record { counted = refl; said = subst (Said 0 []) (sym c.new-parser.ensures) Said-none }

pub loop-line-preserved : goal.loop-line-preserved
loop-line-preserved c =
    let text = c.args.text.now in
    let road = YieldsList-at c.into_iter-line-iterator.ensures.into_iter_gives
    (YieldsList-from_str_split 10 text (lit< tt) c.split-line-items.ensures.text c.split-line-items.ensures.has_more
    c.split-line-items.ensures.pattern) in
    let turn = YieldsList-turn road c.loop-line.yielded _ c.loop-line.yielded_by _ _ c.in-Some.line c.in-Some.is
    c.next.ensures.steps in
    let n = length c.loop-line.yielded in
    let below : n < length (lines_of text) = turn.0 in
    let number : c.saturating_add-number.result
    ≡ n + 1 = omega (
      arith,
      below,
      length-slice_split (λ b. b == 10) text,
      count_by-le-length (λ b. b == 10) text,
    ) in
    let right = subst (λ m. said_with (context_of c.loop-line.parser) m c.in-Some.line.now
    ≡ Ok (context_of c.line.new.self)) number c.in_default.ensures in
    record {
      counted = omega (arith, number, length-append c.loop-line.yielded (c.in-Some.line ∷ []));
      said = Said-turn (λ x. x.now) c.loop-line.yielded c.in-Some.line _ _ c.loop-line.invariant.said right;
    }

pub returns-in-Err-clause-first : goal.returns-in-Err-clause-first
returns-in-Err-clause-first c =
    let text = c.args.text.now in
    let road = YieldsList-at c.into_iter-line-iterator.ensures.into_iter_gives
    (YieldsList-from_str_split 10 text (lit< tt) c.split-line-items.ensures.text c.split-line-items.ensures.has_more
    c.split-line-items.ensures.pattern) in
    let so_far = YieldsList-so_far road c.loop-line.yielded _ c.loop-line.yielded_by in
    let turn = YieldsList-turn road c.loop-line.yielded _ c.loop-line.yielded_by _ _ c.in-Some.line c.in-Some.is
    c.next.ensures.steps in
    let n = length c.loop-line.yielded in
    let below : n < length (lines_of text) = turn.0 in
    let number : c.saturating_add-number.result
    ≡ n + 1 = omega (
      arith,
      below,
      length-slice_split (λ b. b == 10) text,
      count_by-le-length (λ b. b == 10) text,
    ) in
    let lines = map (λ x. x.now) c.loop-line.yielded in
    let first = result_err (said_in 1 nothing_said (lines_of text)) in
    let follows = subst (λ m. AgreesWith {X = Unit {0}} (said_with (context_of c.loop-line.parser) m c.in-Some.line.now)
    (context_of c.line.new.self) (Err c.in-Err.fault)) number c.in-Err.ensures in
    let told = Checks-fault Parser (Unit {0}) (n + 1) first
    (said_with (context_of c.loop-line.parser) (n + 1) c.in-Some.line.now)
    (context_of c.line.new.self) c.in-Err.fault follows
    (λ f wrong. ap result_err (Said-fault n lines _ c.in-Some.line.now f
    (lines_of text) c.loop-line.invariant.said wrong below so_far turn.1)) in
    subst (λ e. Checks {X = Parser} first (Err e))
    (ap (λ m. fault_at m c.in-Err.fault) (sym number) ∙ sym c.at.ensures) told

pub returns : goal.returns
returns c =
    let text = c.args.text.now in
    let road = YieldsList-at c.into_iter-line-iterator.ensures.into_iter_gives
    (YieldsList-from_str_split 10 text (lit< tt) c.split-line-items.ensures.text c.split-line-items.ensures.has_more
    c.split-line-items.ensures.pattern) in
    let end = YieldsList-end road c.loop-line.yielded _ c.loop-line.yielded_by _ _ c.in-None.is c.next.ensures.steps in
    let all = Said-all _ _ (lines_of text)
    (subst (λ ls. Said (length c.loop-line.yielded) ls (context_of c.loop-line.parser)) end.0
    c.loop-line.invariant.said) in
    record { first = ap result_err all; said = all }
