-- The first pull of a group, where it brings a cookie and nothing else.
use Rattle.std.proofs.Common.{◌≡◌, ℕ, ◌+◌, ◌<◌, ◌≤◌, length, Result, Ok, Err, IfOk, List, [], ◌∷◌, ◌++◌, Some, Option}
use Rattle.std.proofs.Common.{refl, ap, sym, ◌∙◌, subst, arith}
use Rattle.std.specs.Prelude.{option_and_then, option_map}
use Rattle.std.specs.FinMap as finite
use Rattle.std.specs.declared.cmp.Ordering.TheVariants.{Greater}
use mathlib.Core.List.{IsPrefix}
use Rattle.group_history.specs.declared.refs.Ref.{Ref}
use Rattle.group_history.specs.declared.cookies.Order.TheVariants as order
use Rattle.group_history.specs.declared.nodes.CommitKind.TheVariants.{Snapshot}
use Rattle.group_history.specs.declared.nodes.Node.{Node}
use Rattle.group_history.specs.declared.nodes.Node.TheVariants as node
use Rattle.group_history.specs.declared.nodes.Child.{Child}
use Rattle.group_history.specs.declared.nodes.Child.TheVariants.{Placed}
use Rattle.group_history.specs.Cookies.{Cookie, order_cmp}
use Rattle.group_history.specs.Pulling.{by_order}
use Rattle.group_history.specs.Record.{IsAccepted}
use Rattle.group_history.specs.Refs.{stamp_of, stamps}
use Rattle.group_history.specs.Spelling.{Segment, as_version, segment_map, map_in, segment_at, spelled, version_at}
use Rattle.group_history.specs.Spelling.{version}
use Rattle.group_history.specs.Spelling.{Spells}
use Rattle.group_history.specs.State.{pulled_state, opening as opening_state}
use Rattle.group_history.proofs.Spellings.{segment-stays, version-newest}
use Rattle.group_history.proofs.TextMaps.{empty_map}
use Rattle.head_word.specs.declared.entry.Entry.{Entry}
use Rattle.head_word.specs.declared.lost.Lost.{Lost}
use Rattle.head_word.specs.Books.{drafted, drawn, next_stamp, book_opening, opened_at, seats_of, StartsOpened}
use Rattle.head_word.specs.Books.{IsChangeFrom}
use Rattle.test_group.specs.Trials.{no_mutators, bare_pull, SpellsBare}
use Rattle.head_word.proofs.Books.{drawn_more, next_more}
use Rattle.head_word.proofs.Stepping.{opening_spells, spells_from, starts_from, starts_with}

-- in every book the leaf of stamp 0 is the empty map
empty_root : (log : List Entry) → StartsOpened log → map_in (spelled (drawn log)) 0 ≡ Some finite.empty
empty_root log starts =
    let begun = starts_with log starts in
    let first = book_opening (seats_of log) (opened_at log) in
    let leaf : Segment = record { depth = 1; rows = [] } in
    let all : drawn first ++ drawn begun.0 ≡ drawn log = sym (drawn_more first begun.0) ∙ ap drawn begun.1 in
    let there : segment_at (drawn log) 0 ≡ Some leaf = subst (λ cs. segment_at cs 0 ≡ Some leaf) all
    (segment-stays (drawn first) (drawn begun.0) 0 leaf refl) in
    ap (option_and_then segment_map) there ∙ ap Some empty_map

-- the snapshot as its draft lists it
abbrev pub bare_node : Cookie → Ref → Node Child
bare_node cookie root = node.Commit (record {
  root = Placed root;
  kind = Snapshot (record { cookie = cookie; confirmed = finite.empty });
})

-- the draft of such a snapshot spells the state after the pull
pub bare_spells : (log : List Entry) (by : Option ℕ) (cookie : Cookie) (root : Ref) → StartsOpened log
    → stamp_of root ≡ 0 → SpellsBare (log ++ drafted by (next_stamp log) (bare_node cookie root ∷ []) ∷ [])
    (next_stamp log) cookie
bare_spells log by cookie root starts at_leaf =
    let e = drafted by (next_stamp log) (bare_node cookie root ∷ []) in
    let content : Node ℕ = node.Commit (record {
      root = stamp_of root;
      kind = Snapshot (record { cookie = cookie; confirmed = finite.empty });
    }) in
    let map : map_in (spelled (drawn log)) (stamp_of root)
    ≡ Some finite.empty = ap (map_in (spelled (drawn log))) at_leaf ∙ empty_root log starts in
    let made : version_at (drawn log ++ content ∷ []) (next_stamp log)
    ≡ Some (record { state = pulled_state finite.empty cookie finite.empty; read = finite.empty }) =
    version-newest (drawn log) content
    ∙ ap (λ o. option_and_then as_version (option_map (λ v. version v (length (spelled (drawn log))))
    (option_and_then (λ m. Some (record { state = pulled_state m cookie finite.empty; read = m })) o))) map in
    subst (λ cs. version_at cs (next_stamp log)
    ≡ Some (record { state = pulled_state finite.empty cookie finite.empty; read = finite.empty }))
    (sym (drawn_more log (e ∷ []))) made

-- a cookie above null is accepted at the opening
bare_accepted : (cookie : Cookie) → order_cmp cookie.order order.Null ≡ Greater
    → IsAccepted no_mutators opening_state (bare_pull cookie)
bare_accepted cookie above = (
  ap (λ o. by_order o opening_state (record { cookie = cookie; changes = []; patch = [] }))
      above,
  λ k d lt. absurd (omega (arith, lt)),
)

-- and follows the opening commit
pub bare_follows : (log : List Entry) (cookie : Cookie) (base new : Ref) → StartsOpened log → stamp_of base ≡ 1
    → stamp_of base < stamp_of new → order_cmp cookie.order order.Null ≡ Greater → SpellsBare log (stamp_of new) cookie
    → IsChangeFrom no_mutators (drawn log) base new (bare_pull cookie)
bare_follows log cookie base new starts at_opening later above spells =
    let known : Spells no_mutators (drawn log) 1 opening_state = spells_from no_mutators
    (book_opening (seats_of log) (opened_at log)) log 1 opening_state (starts_with log starts)
    (opening_spells no_mutators (seats_of log) (opened_at log)) in
    record {
      state = opening_state;
      later = later;
      before = subst (λ k. Spells no_mutators (drawn log) k opening_state) (sym at_opening) known;
      accepted = bare_accepted cookie above;
      then = spells;
    }

-- the opening drew two stamps
stamps_opened : (log : List Entry) → StartsOpened log → 2 ≤ next_stamp log
stamps_opened log starts =
    let begun = starts_with log starts in
    let first = book_opening (seats_of log) (opened_at log) in
    let two : next_stamp first ≡ 2 = refl in
    omega (arith, two, next_more first begun.0, ap next_stamp begun.1)

-- a draft that was drawn is the snapshot's
pub bare_drawn : (result : Result ℕ Lost) (old new : List Entry) (by : Option ℕ) (cookie : Cookie) (root : Ref)
    (nodes : List (Node Child)) → StartsOpened old → stamp_of root ≡ 0 → nodes ≡ bare_node cookie root ∷ []
    → IfOk result (λ first. (log : List Entry) × IsPrefix old log × (next_stamp log ≡ first)
    × (new ≡ log ++ drafted by first nodes ∷ [])) → IfOk result (λ first. first + length nodes < stamps)
    → IfOk result (λ first. (1 < first) × (first < stamps) × SpellsBare new first cookie)
bare_drawn (Err e) old new by cookie root nodes starts at_leaf is drew room = tt
bare_drawn (Ok first) old new by cookie root nodes starts at_leaf is (log, pre, next, all) room =
    let here : SpellsBare (log ++ drafted by first nodes ∷ []) first cookie = subst
    (λ (t : ℕ × List (Node Child)). SpellsBare (log ++ drafted by t.0 t.1 ∷ []) t.0 cookie)
    (λ i. (next i, sym is i)) (bare_spells log by cookie root (starts_from old log pre starts) at_leaf) in
    let low : 1 < first = omega (arith, next, stamps_opened log (starts_from old log pre starts)) in
    (low, omega (arith, room), subst (λ w. SpellsBare w first cookie) (sym all) here)
