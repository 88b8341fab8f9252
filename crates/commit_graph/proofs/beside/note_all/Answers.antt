use Rattle.std.proofs.Common.{◌≡◌, ◌<◌, ℕ, length, take, get_or, List, ap, sym, subst, ◌∙◌, rules}
use Rattle.std.proofs.Math.Seq.{take-length}
use Rattle.std.proofs.lemmas.List.{take_more}
use Rattle.std.specs.List.{Contains}
use Rattle.group_history.specs.declared.refs.Ref.{Ref}
use Rattle.commit_graph.specs.Inside.Reach.{Notes}
use Rattle.commit_graph.specs.Reach.{stamps_of}
use Rattle.commit_graph.proofs.Noting.{notes_none, notes_one}
use Rattle.commit_graph.proofs.beside.note_all.Goals as goal

pub loop-child-init : goal.loop-child-init
loop-child-init c = notes_none _ _

pub loop-child-preserved : goal.loop-child-preserved
loop-child-preserved c =
    let rs = c.args.children.now in let i = c.loop-child.child-index in
    let none : Ref = record { bits = 0 } in
    let low : i < length rs = search rules in
    subst (λ (w : List Ref). Notes (Contains (stamps_of w)) c.args.frontier.now c.note.new.self)
    (sym (take_more rs i none low))
    (notes_one (take i rs) (get_or rs i none) c.stamp.result c.args.frontier.now c.loop-child.frontier c.note.new.self
    c.stamp.ensures.stamp c.loop-child.invariant c.note.ensures)

pub returns : goal.returns
returns c =
    let rs = c.args.children.now in let i = c.loop-child.child-index in
    let all : i ≡ length rs = search rules in
    let whole : take i rs ≡ rs = ap (λ (n : ℕ). take n rs) all ∙ take-length rs in
    subst (λ (w : List Ref). Notes (Contains (stamps_of w)) c.args.frontier.now c.loop-child.frontier) whole
    c.loop-child.invariant
