use Rattle.std.proofs.Common.{rules, ℕ, [], ◌∷◌, ◌++◌, Option, sym, ap, ◌∙◌, arith}
use Rattle.std.proofs.lemmas.List.{append-nil, length-map}
use Rattle.group_history.specs.Naming.{renamed}
use Rattle.head_word.specs.declared.entry.Entry.{Entry}
use Rattle.head_word.specs.Books.{drafted, child_from, drafted_from}
use Rattle.head_word.specs.Marks.{own}
use Rattle.head_word.proofs.Stepping.{after_from}
use Rattle.head_word.proofs.Owning.{others_rise, drew_more, one_more}
use Rattle.head_word.proofs.head.Head.draft.Goals as goal
use Rattle.group_history.proofs.Lists.{prefix_length, prefix_trans}

pub add_draft-requires-clause-asked : goal.add_draft-requires-clause-asked
add_draft-requires-clause-asked g c =
    let ns = drafted_from c.args.from c.args.nodes.now in (
      ns,
      ap (λ (s : Option ℕ). drafted s c.next-first.result ns) c.seat.ensures,
      length-map c.args.nodes.now (renamed (child_from c.args.from)),
      after_from c.args.mark.now.log c.next-first.new.mark.log ns c.next-first.ensures.seen c.requires.children,
    )

pub returns-else-add_draft-clause-moved : goal.returns-else-add_draft-clause-moved
returns-else-add_draft-clause-moved g c =
    let looked = c.next-first.ensures in
    let lost = c.if-add_draft.ensures in
    let more = drew_more c.next-first.new.mark.log c.add_draft.new.mark.log lost.seen
    (λ e. lost.added (e ∙ sym looked.next)) in
    λ _. omega (arith, more, prefix_length c.args.mark.now.log c.next-first.new.mark.log looked.seen)

pub returns-else-add_draft-clause-others : goal.returns-else-add_draft-clause-others
returns-else-add_draft-clause-others g c = λ is.
    let looked = c.next-first.ensures in
    let lost = c.if-add_draft.ensures in
    others_rise c.args.mark.now c.add_draft.new.mark (returns-else-add_draft-clause-moved g c is)
    (lost.own ∙ (append-nil (own c.next-first.new.mark) ∙ looked.own))

pub returns-then-add_draft-clause-nothing : goal.returns-then-add_draft-clause-nothing
returns-then-add_draft-clause-nothing g c = search rules

pub returns-then-add_draft-clause-others : goal.returns-then-add_draft-clause-others
returns-then-add_draft-clause-others g c = search rules

pub returns-else-add_draft-clause-seen : goal.returns-else-add_draft-clause-seen
returns-else-add_draft-clause-seen g c =
    prefix_trans _ c.next-first.new.mark.log _ c.next-first.ensures.seen c.if-add_draft.ensures.seen

pub returns-else-add_draft-clause-nothing : goal.returns-else-add_draft-clause-nothing
returns-else-add_draft-clause-nothing g c =
    c.if-add_draft.ensures.own ∙ (append-nil (own c.next-first.new.mark) ∙ c.next-first.ensures.own)

pub returns-then-add_draft-clause-seen : goal.returns-then-add_draft-clause-seen
returns-then-add_draft-clause-seen g c =
    prefix_trans _ c.next-first.new.mark.log _ c.next-first.ensures.seen c.if-add_draft.ensures.seen

pub returns-then-add_draft-clause-drawn : goal.returns-then-add_draft-clause-drawn
returns-then-add_draft-clause-drawn g c =
    let ns = drafted_from c.args.from c.args.nodes.now in
    let asked = ap (λ (s : Option ℕ). drafted s c.next-first.result ns) (c.seat.ensures ∙ c.next-first.ensures.seat) in
    let added = c.if-add_draft.ensures.added in (
      added.0,
      prefix_trans _ c.next-first.new.mark.log _ c.next-first.ensures.seen added.1,
      added.2,
      added.3 ∙ ap (λ (e : Entry). added.0 ++ e ∷ []) asked,
    )

pub returns-then-add_draft-clause-once : goal.returns-then-add_draft-clause-once
returns-then-add_draft-clause-once g c =
    let ns = drafted_from c.args.from c.args.nodes.now in
    let asked = ap (λ (s : Option ℕ). drafted s c.next-first.result ns) (c.seat.ensures ∙ c.next-first.ensures.seat) in
    one_more _ _ _ _ _ c.if-add_draft.ensures.own c.next-first.ensures.own asked
