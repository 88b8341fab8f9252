use Rattle.std.proofs.Common.{[], ◌∷◌, ◌+◌, ℕ, length, ap, sym, subst, ◌∙◌, arith, length-append}
use Rattle.std.specs.List.{All}
use Rattle.std.proofs.lemmas.List.Elements.{All-push}
use Rattle.head_word.specs.Marks.{Known}
use Rattle.chunk_slots.specs.Inside.Places.{IsOfBook}
use Rattle.chunk_slots.proofs.blocks.places.Goals as goal

pub loop-preserved : goal.loop-preserved
loop-preserved g c =
    let book = c.args.seen.now.book in let items = c.in_ok-push.ensures.items in record {
      count = ap length items ∙ (length-append c.loop.all.items (c.new.result ∷ []) ∙
          ap (λ (n : ℕ). n + 1) c.loop.invariant.count);
      book = subst (All (IsOfBook book)) (sym items)
          (All-push (IsOfBook book) c.loop.all.items c.new.result c.loop.invariant.book
          (ap (λ (tag : Known). tag.book) c.new.ensures));
    }

pub returns-clause-count : goal.returns-clause-count
returns-clause-count g c = omega (arith, c.loop.invariant.count, c.loop-test.false, c.loop.auto.counter-end)
