use Rattle.std.proofs.Common.{◌≡◌, ◌+◌, ◌∙◌, sym, subst, arith, IfOk}
use Rattle.std.specs.Prelude.{IsSome}
use Rattle.group_history.specs.Refs.{stamp_of}
use Rattle.map_chunks.specs.Ends.{IsEnd}
use Rattle.map_chunks.proofs.AnswerLemmas.{if_ok_so}
use Rattle.map_chunks.proofs.EndLemmas.{depth-later, end_itself, end_over}
use Rattle.map_chunks.proofs.JoinLemmas.{some_is}
use Rattle.map_chunks.proofs.LookLemmas.{only_told}
use Rattle.map_chunks.proofs.ends.+end_placed.Goals as goal

pub end_placed-requires : goal.end_placed-requires
end_placed-requires g t c κs within =
    let l = only_told _ _ _ _ _ _ c.requires.known c.look_at.ensures.grown.0 c.in_ok-look_at.ensures.told
    c.in-Some.is in
    (omega (arith, l.0.0, c.decreases), (within.0, (within.1, (subst IsSome (sym l.0.1) c.requires.known, l.1))))

pub returns-in-None-clause-end : goal.returns-in-None-clause-end
returns-in-None-clause-end g t c =
    (only_told _ _ _ _ _ _ c.requires.known c.look_at.ensures.grown.0 c.in_ok-look_at.ensures.told c.in-None.is).0

pub returns-in-Some-clause-end : goal.returns-in-Some-clause-end
returns-in-Some-clause-end g t c =
    let l = only_told _ _ _ _ _ _ c.requires.known c.look_at.ensures.grown.0 c.in_ok-look_at.ensures.told
    c.in-Some.is in
    subst (λ rs. IfOk c.end_placed.result (IsEnd (g.C.Chunks.contents c.end_placed.new.chunks) rs)) l.0.1
    c.end_placed.ensures.end

pub returns-in-None-clause-depth : goal.returns-in-None-clause-depth
returns-in-None-clause-depth g t c d h =
    end_itself (g.C.Chunks.contents c.args.chunks.now) (g.C.Chunks.contents c.look_at.new.chunks) d c.args.at
    c.look_at.ensures.grown.0 h

pub returns-in-Some-clause-depth : goal.returns-in-Some-clause-depth
returns-in-Some-clause-depth g t c d h =
    let p = g.C.Chunks.contents c.args.chunks.now in
    let q = g.C.Chunks.contents c.look_at.new.chunks in
    let r = g.C.Chunks.contents c.end_placed.new.chunks in
    let one = (only_told _ p q _ _ _ c.requires.known c.look_at.ensures.grown.0 c.in_ok-look_at.ensures.told
    c.in-Some.is).0 in
    let deep : one.2.0 + 1 ≡ d = some_is (sym one.2.2 ∙ depth-later p q (stamp_of c.args.at) d
    c.look_at.ensures.grown.0 h) in
    if_ok_so c.end_placed.result (c.end_placed.ensures.depth one.2.0 one.2.1)
    (λ at. end_over q r d one.2.0 (stamp_of c.args.at) one.3.0 c.in-Some.child at c.end_placed.ensures.grown.0 deep
    one.3.1)
