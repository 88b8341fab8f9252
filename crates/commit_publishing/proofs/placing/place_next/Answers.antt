use Rattle.std.proofs.Common.{◌≡◌, ℕ, ◌+◌, List, length, ◌∷◌, ◌++◌, [], ap, map, subst, sym, ◌∙◌, rules}
use Rattle.group_history.specs.Refs.{slot_of, stamp_of}
use Rattle.group_history.specs.declared.refs.Ref.{Ref}
use Rattle.reader_claims.specs.declared.view.View.{View}
use Rattle.reader_claims.specs.Views.{with_settled, with_withdrawn}
use Rattle.commit_publishing.specs.Inside.Stacks.{Uses, UsesMore}
use Rattle.commit_publishing.proofs.Lying.{stay_placed, stay_refused}
use Rattle.commit_publishing.proofs.Popping.{headed, settled, withdrawn}
use Rattle.commit_publishing.proofs.Using.{slots_more, uses_settled, uses_withdrawn}
use Rattle.commit_publishing.proofs.placing.place_next.Goals as goal

pub returns-then-is_err-clause-taken : goal.returns-then-is_err-clause-taken
returns-then-is_err-clause-taken g c = λ r.
    let view = g.S.Slots.view in
    let slot = c.pop-slot.result in
    let same : c.place_one-placed.new.seat ≡ c.args.seat.now = search rules in
    withdrawn (view c.args.seat.now) (view c.withdraw.new.seat) c.args.slots.now.items c.pop-slot.new.slots.items slot
    c.pop-slot.ensures (c.requires.taken r)
    (c.withdraw.ensures.view r ∙ ap (λ s. with_withdrawn (view s) slot) same)

pub returns-then-is_err-clause-back : goal.returns-then-is_err-clause-back
returns-then-is_err-clause-back g c = λ r.
    let view = g.S.Slots.view in
    let slot = c.pop-slot.result in
    let slots = c.args.slots.now.items in
    let rest = c.pop-slot.new.slots.items in
    let refs = c.args.refs.now.items in
    let v = view c.args.seat.now in
    let u = view c.withdraw.new.seat in
    let same : c.place_one-placed.new.seat ≡ c.args.seat.now = search rules in
    let kept : c.place_one-placed.new.refs.items ≡ refs = search rules in
    let is = c.withdraw.ensures.view r ∙ ap (λ s. with_withdrawn (view s) slot) same in
    let left = withdrawn v u slots rest slot c.pop-slot.ensures (c.requires.taken r) is in
    let here : (back : List ℕ) × UsesMore v refs u c.place_one-placed.new.refs.items back = (
      slot ∷ [],
      λ s uses. subst (λ ats. Uses s (map slot_of ats) (slot ∷ []) u) (sym kept)
          (uses_withdrawn s v u (map slot_of refs) [] slot uses
          (headed v u slots rest slot c.pop-slot.ensures (c.requires.taken r) left) (ap (λ (w : View). w.deeds) is)),
    ) in
    search rules

pub returns-else-is_err-clause-taken : goal.returns-else-is_err-clause-taken
returns-else-is_err-clause-taken g c = λ r.
    let view = g.S.Slots.view in
    let slot = c.pop-slot.result in
    let is : view c.place_one-placed.new.seat ≡ with_settled (view c.args.seat.now) slot = search rules in
    settled (view c.args.seat.now) (view c.place_one-placed.new.seat) c.args.slots.now.items c.pop-slot.new.slots.items
    slot c.pop-slot.ensures (c.requires.taken r) is

pub returns-else-is_err-clause-used : goal.returns-else-is_err-clause-used
returns-else-is_err-clause-used g c = λ r.
    let view = g.S.Slots.view in
    let slot = c.pop-slot.result in
    let slots = c.args.slots.now.items in
    let rest = c.pop-slot.new.slots.items in
    let refs = c.args.refs.now.items in
    let more = c.place_one-placed.new.refs.items in
    let v = view c.args.seat.now in
    let u = view c.place_one-placed.new.seat in
    let is : u ≡ with_settled v slot = search rules in
    let placed : (at : Ref) × (more ≡ refs ++ at ∷ []) × (stamp_of at ≡ c.args.to.now.first + length refs)
    × (g.S.Slots.reused → slot_of at ≡ slot) = search rules in
    let left = settled v u slots rest slot c.pop-slot.ensures (c.requires.taken r) is in
    let named : map slot_of more ≡ map slot_of refs ++ slot ∷ [] = ap (map slot_of) placed.1
    ∙ slots_more refs placed.0 ∙ ap (λ i. map slot_of refs ++ i ∷ []) (placed.3 r) in
    let here : UsesMore v refs u more [] = λ s uses. subst (λ is. Uses s is [] u) (sym named)
    (uses_settled s v u (map slot_of refs) slot uses
    (headed v u slots rest slot c.pop-slot.ensures (c.requires.taken r) left) (ap (λ (w : View). w.deeds) is)) in
    search rules

pub returns-then-is_err-clause-within : goal.returns-then-is_err-clause-within
returns-then-is_err-clause-within g c = λ r.
    stay_refused c.args.slots.now.items c.pop-slot.new.slots.items c.args.refs.now.items
    c.place_one-placed.new.refs.items
    c.pop-slot.result c.pop-slot.ensures (search rules)

pub returns-else-is_err-clause-within : goal.returns-else-is_err-clause-within
returns-else-is_err-clause-within g c = λ r.
    let refs = c.args.refs.now.items in
    let more = c.place_one-placed.new.refs.items in
    let placed : (at : Ref) × (more ≡ refs ++ at ∷ []) × (stamp_of at ≡ c.args.to.now.first + length refs)
    × (g.S.Slots.reused → slot_of at ≡ c.pop-slot.result) = search rules in
    stay_placed c.args.slots.now.items c.pop-slot.new.slots.items refs more c.pop-slot.result placed.0
    c.pop-slot.ensures
    placed.1 (placed.3 r)
