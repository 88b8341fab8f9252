use Rattle.std.proofs.Common.{ap, subst, ◌∙◌, List}
use mathlib.Core.List.{IsPrefix}
use Rattle.head_word.specs.declared.entry.Entry.{Entry}
use Rattle.head_word.specs.Marks.{Known}
use Rattle.head_word.proofs.Beginnings.{prefix_one}
use Rattle.head_word.proofs.BookLaws.{records_one}
use Rattle.head_word.proofs.laws.one_record.Goals as goal

pub returns-clause-books : goal.returns-clause-books
returns-clause-books g c =
    let all = c.learn.new.self.log in
    let one_log = ap (λ s. s.log) c.again-both.ensures ∙ ap (λ (m : Known). m.log) c.one.view_is in
    let one = subst (λ (w : List Entry). IsPrefix w all) one_log c.learn.ensures.2 in
    let other = subst (λ (w : List Entry). IsPrefix w all)
    (ap (λ (m : Known). m.log) c.other.view_is) c.learn.ensures.3 in
    prefix_one c.args.one.now.log c.args.other.now.log all one other

pub returns-clause-records : goal.returns-clause-records
returns-clause-records g c =
    let all = c.learn.new.self.log in
    let one_log = ap (λ s. s.log) c.again-both.ensures ∙ ap (λ (m : Known). m.log) c.one.view_is in
    let one = subst (λ (w : List Entry). IsPrefix w all) one_log c.learn.ensures.2 in
    let other = subst (λ (w : List Entry). IsPrefix w all)
    (ap (λ (m : Known). m.log) c.other.view_is) c.learn.ensures.3 in
    records_one c.args.one.now.log c.args.other.now.log all one other
