use Rattle.std.proofs.Common.{rules, arith, ◌≡◌, sym, ap, subst, ◌∙◌, ◌+◌}
use Rattle.std.proofs.lemmas.Grind.{common_steps}
use Rattle.std.proofs.lemmas.List.Elements.{All-push}
use Rattle.std.specs.List.{All}
use Rattle.atomic_table.specs.Table.{Splits}
use Rattle.reader_claims.specs.declared.view.Sizes.{Sizes}
use Rattle.reader_claims.specs.declared.view.View.{View}
use Rattle.reader_claims.specs.Views.{reader}
use Rattle.reader_claims.specs.Machine.{Lawful}
use Rattle.reader_claims.specs.Inside.Plays.{dealt_left, dealt_right}
use Rattle.reader_claims.specs.Seats.{ClaimsId, IsNew}
use Rattle.reader_claims.proofs.Reaching.{deals_as, opens}
use Rattle.reader_claims.proofs.claims.Claims.new.Goals as goal

pub of_words-requires : goal.of_words-requires
of_words-requires c = opens _ c.as_slice.result.now (first_of (search rules, grind (arith, common_steps)))
    (search rules) (λ j. first_of (search rules, grind (arith, common_steps)))

pub split_seat-seat-requires : goal.split_seat-seat-requires
split_seat-seat-requires c = let k : Sizes = record { readers = c.args.readers; slots = c.args.slots } in
    let z = c.loop-dealt.dealer in let n = c.loop-dealt.dealt + 1 in (
      search rules,
      search rules,
      subst (λ (key : Sizes). Splits (Lawful key) z.id z.me.0 (dealt_left z.me.0) (dealt_right z.me.0))
          (sym c.loop-dealt.invariant.key)
          (subst (λ (v : View). Splits (Lawful k) z.id v (dealt_left v) (dealt_right v))
          (sym (ap (λ m. m.0) c.loop-dealt.invariant.me)) (deals_as k z.id n (search rules) (search rules))),
    )

pub loop-dealt-preserved : goal.loop-dealt-preserved
loop-dealt-preserved c = let cut = c.split_seat-seat.ensures in let was = c.loop-dealt.invariant.me in
    let k : Sizes = record { readers = c.args.readers; slots = c.args.slots } in
    let z : ClaimsId = record { table = c.in_ok-table.table.shared.table_id; sizes = k } in
    let s = c.split_seat-seat.result in
    let view : s.me.0 ≡ reader k (c.loop-dealt.dealt + 1) = ap (λ m. m.0) cut.4 ∙ ap (λ m. dealt_right m.0) was in
    let there : s.table_id ≡ z.table = cut.3 ∙ c.loop-dealt.invariant.table in
    let size : s.me.0.sizes ≡ k = ap (λ (v : View). v.sizes) view in
    let same : s.me.0 ≡ reader k s.me.0.number = view ∙ ap (reader k) (sym (ap (λ (v : View). v.number) view)) in
    let id : record { table = s.table_id; sizes = s.me.0.sizes }
    ≡ z = λ i. record { table = there i; sizes = size i } in record {
      table = search rules;
      key = search rules;
      me = cut.2 ∙ ap (λ m. (dealt_left m.0, m.1)) was;
      seats = (
        search rules,
        subst (All (IsNew z)) (sym c.in_ok-push.ensures.items)
            (All-push (IsNew z) _ _ c.loop-dealt.invariant.seats.1 (id, same)),
      );
    }
