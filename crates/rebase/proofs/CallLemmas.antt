-- Calls of a client: how they are answered, and what a list of answered calls is where no other seat moves the head.
use Rattle.std.proofs.Common.{◌≡◌, ◌≢◌, ℕ, suc, ◌+◌, ◌-◌, ◌<◌, ◌≤◌, ◌==◌, ◌⊎◌, inl, inr, Bool, true, false, cond, List}
use Rattle.std.proofs.Common.{[], ◌∷◌, ◌++◌, length, map, filter, take, get_or, Option, Some, None, Result, Ok, Err}
use Rattle.std.proofs.Common.{refl, sym, ap, subst, ◌∙◌, arith, length-append}
use Rattle.std.proofs.lemmas.List.{append-nil, take_more}
use Rattle.std.proofs.lemmas.List.Elements.{filter-append}
use Rattle.std.specs.Prelude.{IfErr, IsOkAnd, MatchResult}
use Rattle.std.specs.Borrow.{Bor}
use mathlib.Core.List.{IsPrefix}
use Rattle.group_history.specs.declared.changes.Change.{Change}
use Rattle.group_history.specs.declared.refs.Ref.{Ref}
use Rattle.group_history.specs.declared.refusals.Refusal.{Refusal}
use Rattle.group_history.specs.declared.refusals.Refusal.TheVariants as refusal
use Rattle.group_history.specs.declared.responses.Ended.{Ended}
use Rattle.group_history.specs.Map.{Bytes}
use Rattle.group_history.specs.Meaning.{Meanings}
use Rattle.group_history.specs.Mutating.{mutate_reply}
use Rattle.group_history.specs.Record.{after}
use Rattle.group_history.specs.State.{State}
use Rattle.head_word.specs.declared.entry.Entry.{Entry}
use Rattle.head_word.specs.declared.entry.Entry.TheVariants as v
use Rattle.head_word.specs.Books.{record_of, with_change}
use Rattle.head_word.specs.Marks.{Known, own, own_of}
use Rattle.head_word.specs.Tallies.{key_of, mine}
use Rattle.head_word.proofs.Books.{record_more}
use Rattle.head_word.proofs.Counting.{mine_more}
use Rattle.linearized.specs.Answered.{IsPoint, IsAnswered, IsLeft, IsRefused, IsLinearized, is_move, is_mute}
use Rattle.linearized.specs.Answered.{is_resource_refusal}
use Rattle.linearized.specs.Answered.{moves_for, no_change, own_moves}
use Rattle.linearized.specs.Changes.{after_made, change_made, change_read}
use Rattle.linearized.proofs.AtOnce.{record_at}
use Rattle.linearized.proofs.Holding.{change_laws_hold}
use Rattle.pull_patch.specs.Grammar.{answer_to}
use Rattle.rebase.specs.Asking.{end_bytes_reply}
use Rattle.commit_graph.specs.Seats.{IsLater, SeatState}
use Rattle.commit_graph.proofs.Seating.{later-self, later-trans}
use Rattle.rebase.specs.Calls.{AreAnswered, AreReplies, Caller, IsAlone, IsMade, IsReplyTo, asked_mutation}
use Rattle.rebase.specs.Calls.{caller, caller_after, caller_of, change_of, ended_in, id_in, last_after, moves_of_others}
use Rattle.rebase.specs.Calls.{reply_to}
use Rattle.rebase.specs.Clients.{ClientState, Grouped, IsSameClient}
use Rattle.change_tries.specs.Missing.{IsStoreRefusal, map_ok}
use Rattle.rebase.specs.Replies.{Replied, reply_seen, ended, id}
use Rattle.rebase.specs.declared.calls.Call.{Call}
use Rattle.rebase.specs.declared.calls.Call.TheVariants as call
use Rattle.rebase.specs.declared.calls.Mutate.{Mutate}
use Rattle.rebase.specs.declared.calls.CallReply.{CallReply}
use Rattle.rebase.specs.declared.tickets.Ticket.{Ticket}

-- MOVES

-- entries that are no moves leave the record
record_still : (es : List Entry) → length (filter is_move es) ≡ 0 → record_of es ≡ []
record_still [] h = refl
record_still (v.Draft d ∷ es) h = record_still es h
record_still (v.Move m ∷ es) h = absurd (let e : suc (length (filter is_move es)) ≡ 0 = h in omega (arith, e))
record_still (v.Opening o ∷ es) h = absurd (let e : suc (length (filter is_move es)) ≡ 0 = h in omega (arith, e))

-- how often the head was moved
abbrev moves : List Entry → ℕ
moves es = length (filter is_move es)

moves_more : (xs ys : List Entry) → moves (xs ++ ys) ≡ moves xs + moves ys
moves_more xs ys = ap length (filter-append is_move xs ys) ∙ length-append (filter is_move xs) (filter is_move ys)

moves_grow : (xs ys : List Entry) → IsPrefix xs ys → moves xs ≤ moves ys
moves_grow xs ys pre = omega (arith, moves_more xs pre.0, ap moves pre.1)

-- a book with no more moves has the same record
record_same : (xs ys : List Entry) → IsPrefix xs ys → moves ys ≡ moves xs → record_of ys ≡ record_of xs
record_same xs ys pre same =
    let none : moves pre.0 ≡ 0 = omega (arith, moves_more xs pre.0, ap moves pre.1, same) in
    sym (ap record_of pre.1) ∙ (record_more xs pre.0 ∙
    (ap (λ w. record_of xs ++ w) (record_still pre.0 none) ∙ append-nil (record_of xs)))

-- a seat's own moves are no more than all moves
own_within : (seat : Option ℕ) (es : List Entry) → length (filter is_move (own_of seat es)) ≤ moves es
own_within None es = omega arith
own_within (Some j) [] = omega arith
own_within (Some j) (e ∷ es) = by e (key_of e == suc j) (own_within (Some j) es)
  where
    by : (e : Entry) (b : Bool) → length (filter is_move (mine (suc j) es)) ≤ moves es
        → length (filter is_move (cond b (e ∷ mine (suc j) es) (mine (suc j) es))) ≤ moves (e ∷ es)
    by (v.Move m) true le = let k : length (filter is_move (mine (suc j) es)) ≤ length (filter is_move es) = le in
        let g : suc (length (filter is_move (mine (suc j) es)))
        ≤ suc (length (filter is_move es)) = omega (arith, k) in g
    by (v.Move m) false le = let k : length (filter is_move (mine (suc j) es)) ≤ length (filter is_move es) = le in
        let g : length (filter is_move (mine (suc j) es)) ≤ suc (length (filter is_move es)) = omega (arith, k) in g
    by (v.Opening o) true le = let k : length (filter is_move (mine (suc j) es)) ≤ length (filter is_move es) = le in
        let g : suc (length (filter is_move (mine (suc j) es)))
        ≤ suc (length (filter is_move es)) = omega (arith, k) in g
    by (v.Opening o) false le = let k : length (filter is_move (mine (suc j) es)) ≤ length (filter is_move es) = le in
        let g : length (filter is_move (mine (suc j) es)) ≤ suc (length (filter is_move es)) = omega (arith, k) in g
    by (v.Draft d) true le = le
    by (v.Draft d) false le = le

own_more : (seat : Option ℕ) (xs ys : List Entry) → own_of seat (xs ++ ys) ≡ own_of seat xs ++ own_of seat ys
own_more None xs ys = refl
own_more (Some j) xs ys = mine_more (suc j) xs ys

-- the own moves of a later mark, by number
own_moves_more : (old new : Known) → (pre : IsPrefix old.log new.log) → new.seat ≡ old.seat
    → length (own_moves new) ≡ length (own_moves old) + length (filter is_move (own_of old.seat pre.0))
own_moves_more old new pre seat =
    let all : own new ≡ own_of old.seat old.log
    ++ own_of old.seat pre.0 = ap (λ s. own_of s new.log) seat ∙
    (ap (own_of old.seat) (sym pre.1) ∙ own_more old.seat old.log pre.0) in
    ap (λ w. length (filter is_move w)) all ∙
    (ap length (filter-append is_move (own_of old.seat old.log) (own_of old.seat pre.0)) ∙ length-append
    (filter is_move (own_of old.seat old.log)) (filter is_move (own_of old.seat pre.0)))

-- other seats never move the head back
others_grow : (old new : Known) → IsLater old new → moves_of_others old ≤ moves_of_others new
others_grow old new later =
    let a = own_moves_more old new later.seen later.seat in
    let b = own_within old.seat later.seen.0 in
    let c = moves_more old.log later.seen.0 in
    let d = ap moves later.seen.1 in
    let e = own_within old.seat old.log in
    omega (arith, a, b, c, d, e)

-- where no other seat moved the head, the moves that came are the seat's own
alone_moves : (old new : Known) → IsLater old new → IsAlone old new
    → moves new.log + length (own_moves old) ≡ moves old.log + length (own_moves new)
alone_moves old new later alone =
    let a = own_moves_more old new later.seen later.seat in
    let b = own_within old.seat later.seen.0 in
    let c = moves_more old.log later.seen.0 in
    let d = ap moves later.seen.1 in
    let e = own_within old.seat old.log in
    let f : length (filter is_move new.log) - length (own_moves new)
    ≡ length (filter is_move old.log) - length (own_moves old) = alone in
    omega (arith, a, b, c, d, e, f)

-- CALLS

-- what one call is answered, where no other seat moved the head: the right reply at the record before it, or a refusal
-- for want of something; and the record grew by the change that the reply stands for
abbrev pub IsInTurn : Meanings → Known → Known → Result Replied Refusal → Option Change
    → (State → Result Replied Refusal) → Type 0
IsInTurn means old new r change right = IsReplyTo r (right (after (record_of old.log)))
    × (after (record_of new.log) ≡ after_made (after (record_of old.log)) change)

-- the records at a point, and behind it
at_point : (means : Meanings) (old new : Known) (change : Option Change) (log : List Entry) → IsLater old new
    → IsAlone old new → IsPoint means old new change log
    → (record_of log ≡ record_of old.log) × (record_of new.log ≡ record_of old.log ++ with_change change [])
at_point means old new change log later alone p =
    let mine = moves_for old.seat p.to change in
    let a = alone_moves old new later alone in
    let b = ap length p.moves in
    let c = length-append (own_moves old) mine in
    let d = moves_more log mine in
    let e = moves_grow old.log log p.since in
    let f = moves_grow (log ++ mine) new.log p.until in
    let g : moves mine ≡ length mine = all_moves old.seat p.to change in
    let before = record_same old.log log p.since (omega (arith, a, b, c, d, e, f, g)) in
    let behind = record_same (log ++ mine) new.log p.until (omega (arith, a, b, c, d, e, f, g)) in
    (before, behind ∙ (record_at old.seat p.to change log ∙ ap (λ w. w ++ with_change change []) before))
  where
    all_moves : (seat : Option ℕ) (to : Ref) (change : Option Change)
        → moves (moves_for seat to change) ≡ length (moves_for seat to change)
    all_moves seat to None = refl
    all_moves seat to (Some c) = refl

-- an answered call is in turn
answered_in_turn : (means : Meanings) (old new : Known) (change : Option Change)
    (right : State → Result Replied Refusal) (r : Result Replied Refusal) → IsLater old new → IsAlone old new
    → IsAnswered means old new change (λ s. right s ≡ r)
    → (right (after (record_of old.log)) ≡ r)
    × (after (record_of new.log) ≡ after_made (after (record_of old.log)) change)
answered_in_turn means old new change right r later alone is =
    let at = at_point means old new change is.0 later alone is.1 in (
      subst (λ w. right (after w) ≡ r) at.0 is.2,
      ap after at.1 ∙ (change_laws_hold means).made (record_of old.log) change,
    )

-- one that left the group alone left its record
left_in_turn : (tries : ℕ) (old new : Known) (e : Refusal) → IsLater old new → IsAlone old new → IsLeft tries old new e
    → record_of new.log ≡ record_of old.log
left_in_turn tries old new e later alone is =
    let a = alone_moves old new later alone in
    let b = ap length is.0 in
    record_same old.log new.log later.seen (omega (arith, a, b))

in_turn : (means : Meanings) (tries : ℕ) (old new : Known) (r : Result Replied Refusal)
    (change : Result Replied Refusal → Option Change) (right : State → Result Replied Refusal) → IsLater old new
    → IsAlone old new
    → IsLinearized means tries old new r change right → IsInTurn means old new r (change r) right
in_turn means tries old new (Ok x) change right later alone is = answered_in_turn means old new (change (Ok x)) right
    (Ok x) later alone is
in_turn means tries old new (Err e) change right later alone is = by (change (Err e))
    (is_mute e (change (Err e))) refl is
  where
    by : (o : Option Change) (b : Bool) → is_mute e o ≡ b → IsRefused means tries old new b e o (λ s. right s ≡ Err e)
        → IsInTurn means old new (Err e) o right
    by None true mute left = (inl mute, ap after (left_in_turn tries old new e later alone left))
    by (Some c) true mute left = absurd cc
    by o false mute answered = let got = answered_in_turn means old new o right (Err e) later alone answered in
        (inr got.0, got.1)

-- LISTS OF CALLS

-- calls only add to what their caller has seen
calls_later : (means : Meanings) (reused : Type 0) (tries : ℕ) (c : Caller) (old : SeatState) (xs : List Call)
    (rs : List (Result Replied Refusal)) (new : SeatState) (end : Caller)
    → AreAnswered means reused tries c old xs rs new end → IsLater old.mark new.mark
calls_later means reused tries c old [] [] new end all = subst (λ (s : SeatState). IsLater old.mark s.mark) (sym all.0)
    (later-self old.mark)
calls_later means reused tries c old [] (r ∷ rs) new end all = absurd all
calls_later means reused tries c old (x ∷ xs) [] new end all = absurd all
calls_later means reused tries c old (x ∷ xs) (r ∷ rs) new end all =
    later-trans old.mark all.0.mark new.mark all.1.seat.later
    (calls_later means reused tries (caller_after c r) all.0 xs rs new end all.2)

-- Where no other seat moved the head between the first call and the last, none did so in any of them.
pub alone_replies : (means : Meanings) (reused : Type 0) (tries : ℕ) (c : Caller) (old : SeatState) (xs : List Call)
    (rs : List (Result Replied Refusal)) (new : SeatState) (end : Caller)
    → AreAnswered means reused tries c old xs rs new end
    → IsAlone old.mark new.mark
    → AreReplies means c (after (record_of old.mark.log)) xs rs (after (record_of new.mark.log)) end
alone_replies means reused tries c old [] [] new end all alone =
    (ap (λ (s : SeatState). after (record_of s.mark.log)) all.0, all.1)
alone_replies means reused tries c old [] (r ∷ rs) new end all alone = absurd all
alone_replies means reused tries c old (x ∷ xs) [] new end all alone = absurd all
alone_replies means reused tries c old (x ∷ xs) (r ∷ rs) new end all alone =
    let mid = all.0 in
    let rest = calls_later means reused tries (caller_after c r) mid xs rs new end all.2 in
    let a = others_grow old.mark mid.mark all.1.seat.later in
    let b = others_grow mid.mark new.mark rest in
    let f : moves_of_others new.mark ≡ moves_of_others old.mark = alone in
    let first : moves_of_others mid.mark ≡ moves_of_others old.mark = omega (arith, a, b, f) in
    let last : moves_of_others new.mark ≡ moves_of_others mid.mark = omega (arith, a, b, f) in
    let turn = in_turn means tries old.mark mid.mark r (change_of c x)
    (λ s. reply_to means c s x) all.1.seat.later first
    all.1.answer in (
      turn.0,
      subst (λ s. AreReplies means (caller_after c r) s xs rs (after (record_of new.mark.log)) end) turn.1
          (alone_replies means reused tries (caller_after c r) mid xs rs new end all.2 last),
    )

-- one call more
answered_more : (means : Meanings) (reused : Type 0) (tries : ℕ) (c : Caller) (old mid new : SeatState) (xs : List Call)
    (rs : List (Result Replied Refusal)) (d : Caller) (x : Call) (r : Result Replied Refusal)
    → AreAnswered means reused tries c old xs rs mid d → IsMade means reused tries d x r mid new
    → AreAnswered means reused tries c old (xs ++ x ∷ []) (rs ++ r ∷ []) new (caller_after d r)
answered_more means reused tries c old mid new [] [] d x r all made = (
  new,
  subst (λ (s : SeatState). IsMade means reused tries c x r s new) all.0
      (subst (λ (e : Caller). IsMade means reused tries e x r mid new) all.1 made),
  (refl, ap (λ e. caller_after e r) all.1),
)
answered_more means reused tries c old mid new [] (q ∷ rs) d x r all made = absurd all
answered_more means reused tries c old mid new (y ∷ xs) [] d x r all made = absurd all
answered_more means reused tries c old mid new (y ∷ xs) (q ∷ rs) d x r all made = (
  all.0,
  all.1,
  answered_more means reused tries (caller_after c q) all.0 mid new xs rs d x r all.2 made,
)

map_more : {A B : Type 0} (f : A → B) (xs : List A) (x : A) → map f (xs ++ x ∷ []) ≡ map f xs ++ f x ∷ []
map_more f [] x = refl
map_more f (y ∷ xs) x = ap (λ w. f y ∷ w) (map_more f xs x)

-- a turn of the loop over the calls
pub turn : (means : Meanings) (reused : Type 0) (tries : ℕ) (c d : Caller) (old mid new : SeatState) (all : List Call)
    (i : ℕ) (x : Call) (rs news : List (Result CallReply Refusal)) (r : Result CallReply Refusal) → i < length all → x
    ≡ get_or all i x
    → AreAnswered means reused tries c old (take i all) (map (map_ok reply_seen) rs) mid d
    → IsMade means reused tries d x (map_ok reply_seen r) mid new → news ≡ rs ++ r ∷ []
    → AreAnswered means reused tries c old (take (i + 1) all) (map (map_ok reply_seen) news) new
    (caller_after d (map_ok reply_seen r))
turn means reused tries c d old mid new all i x rs news r l q h made n =
    let front : take (i + 1) all ≡ take i all ++ x
    ∷ [] = take_more all i x l ∙ ap (λ w. take i all ++ w ∷ []) (sym q) in
    let back : map (map_ok reply_seen) news ≡ map (map_ok reply_seen) rs ++ map_ok reply_seen r
    ∷ [] = ap (map (map_ok reply_seen)) n ∙ map_more (map_ok reply_seen) rs r in
    let end = caller_after d (map_ok reply_seen r) in
    subst (λ w. AreAnswered means reused tries c old w (map (map_ok reply_seen) news) new end) (sym front)
    (subst (λ w. AreAnswered means reused tries c old (take i all ++ x ∷ []) w new end) (sym back)
    (answered_more means reused tries c old mid new (take i all) (map (map_ok reply_seen) rs) d x
    (map_ok reply_seen r) h made))

-- the client after a call is the caller after its reply
pub caller_moves : (old new : ClientState) (r : Result Replied Refusal) → IsSameClient old new
    → new.last ≡ last_after old.last r → caller_after (caller_of old) r ≡ caller_of new
caller_moves old new r same is =
    sym (ap (λ (g : Grouped). caller g.identity new.id new.last) same.0
    ∙ ap (λ (i : Bytes). caller old.group.identity i new.last) same.1
    ∙ ap (caller old.group.identity old.id) is)

pub caller_stays : (old new : ClientState) → IsSameClient old new → new.last ≡ old.last → caller_of new ≡ caller_of old
caller_stays old new same is =
    ap (λ (g : Grouped). caller g.identity new.id new.last) same.0
    ∙ ap (λ (i : Bytes). caller old.group.identity i new.last) same.1
    ∙ ap (caller old.group.identity old.id) is

-- REPLIES

-- why a call is refused, as it is told
pub why_told : {X Y : Type 0} (f : X → Y) (why : Refusal → Type 0) (r : Result X Refusal) → IfErr r why
    → IfErr (map_ok f r) why
why_told f why (Ok x) is = is
why_told f why (Err e) is = is

told_refusal : {X Y : Type 0} (f : X → Y) (r : Result X Refusal) (e : Refusal) → r ≡ Err e → map_ok f r ≡ Err e
told_refusal f r e is = ap (map_ok f) is

-- an answer is told as it is
pub answers_told : {X : Type 0} (f : X → Replied) (means : Meanings) (tries : ℕ) (old new : Known)
    (r : Result X Refusal) (change : Result X Refusal → Option Change) (right : State → Result X Refusal)
    (shown : Result Replied Refusal → Option Change) (told_right : State → Result Replied Refusal)
    → shown (map_ok f r) ≡ change r → ((s : State) → told_right s ≡ map_ok f (right s))
    → IsLinearized means tries old new r change right → IsLinearized means tries old new (map_ok f r) shown told_right
answers_told f means tries old new (Ok x) change right shown told_right same seen is =
    subst (λ o. IsAnswered means old new o (λ s. told_right s ≡ Ok (f x))) (sym same)
    (is.0, is.1, seen (after (record_of is.0)) ∙ ap (map_ok f) is.2)
answers_told f means tries old new (Err e) change right shown told_right same seen is =
    subst (λ o. IsRefused means tries old new (is_mute e o) e o (λ s. told_right s ≡ Err e)) (sym same)
    (by (change (Err e)) (is_mute e (change (Err e))) is)
  where
    by : (o : Option Change) (b : Bool) → IsRefused means tries old new b e o (λ s. right s ≡ Err e)
        → IsRefused means tries old new b e o (λ s. told_right s ≡ Err e)
    by o true h = h
    by o false h = (h.0, h.1, seen (after (record_of h.0)) ∙ told_refusal f (right (after (record_of h.0))) e h.2)

-- a reply that was made of an answer, as it is told
pub mapped : {X : Type 0} (f : X → CallReply) (shown : X → Replied) (r : Result X Refusal)
    (m : Result CallReply Refusal)
    → ((x : X) → reply_seen (f x) ≡ shown x) → MatchResult r (λ x. IsOkAnd m (λ y. y ≡ f x)) (λ e. m ≡ Err e)
    → map_ok reply_seen m ≡ map_ok shown r
mapped f shown (Ok x) (Ok y) same is = ap (λ z. Ok (reply_seen z)) is ∙ ap Ok (same x)
mapped f shown (Ok x) (Err e) same is = absurd is
mapped f shown (Err e) m same is = ap (map_ok reply_seen) is

-- a call, by the one that it is
pub call_told : {X : Type 0} (f : X → Replied) (means : Meanings) (tries : ℕ) (old new : Known) (c : Caller)
    (x y : Call) (r : Result X Refusal) (m : Result Replied Refusal) (change : Result X Refusal → Option Change)
    (right : State → Result X Refusal)
    → x ≡ y → m ≡ map_ok f r → change_of c y (map_ok f r) ≡ change r
    → ((s : State) → reply_to means c s y ≡ map_ok f (right s)) → IsLinearized means tries old new r change right
    → IsLinearized means tries old new m (change_of c x) (λ s. reply_to means c s x)
call_told f means tries old new c x y r m change right is_call is_told same seen is =
    subst (λ z. IsLinearized means tries old new m (change_of c z) (λ s. reply_to means c s z)) (sym is_call)
    (subst (λ w. IsLinearized means tries old new w (change_of c y) (λ s. reply_to means c s y)) (sym is_told)
    (answers_told f means tries old new r change right (change_of c y) (λ s. reply_to means c s y) same seen is))

told_twice : {X Y Z : Type 0} (f : Y → Z) (g : X → Y) (r : Result X Refusal)
    → map_ok (λ x. f (g x)) r ≡ map_ok f (map_ok g r)
told_twice f g (Ok x) = refl
told_twice f g (Err e) = refl

-- of a query, whose answer is made a reply
pub query_told : {X Y : Type 0} (f : X → CallReply) (g : X → Y) (shown : Y → Replied) (means : Meanings) (tries : ℕ)
    (old new : Known) (c : Caller) (x y : Call) (r : Result X Refusal) (m : Result CallReply Refusal)
    (right : State → Y)
    → x ≡ y → ((z : X) → reply_seen (f z) ≡ shown (g z))
    → MatchResult r (λ z. IsOkAnd m (λ w. w ≡ f z)) (λ e. m ≡ Err e)
    → change_of c y (map_ok shown (map_ok g r)) ≡ None → ((s : State) → reply_to means c s y ≡ Ok (shown (right s)))
    → IsLinearized means tries old new (map_ok g r) no_change (λ s. Ok (right s))
    → IsLinearized means tries old new (map_ok reply_seen m) (change_of c x) (λ s. reply_to means c s x)
query_told f g shown means tries old new c x y r m right is_call same is_told none seen is =
    call_told shown means tries old new c x y (map_ok g r) (map_ok reply_seen m) no_change (λ s. Ok (right s)) is_call
    (mapped f (λ z. shown (g z)) r m same is_told ∙ told_twice shown g r) none seen is

pub ended_shown : (r : Result Ended Refusal) → map_ok ended_in (map_ok ended r) ≡ r
ended_shown (Ok e) = refl
ended_shown (Err e) = refl

pub id_shown : (r : Result ℕ Refusal) → map_ok id_in (map_ok id r) ≡ r
id_shown (Ok n) = refl
id_shown (Err e) = refl

-- of a mutation
pub mutated_told : (means : Meanings) (tries : ℕ) (old new : Known) (c : Caller) (x : Call) (m : Mutate)
    (r : Result ℕ Refusal) (reply : Result Replied Refusal) → x ≡ call.Mutate m → reply ≡ map_ok id r
    → IsLinearized means tries old new r (change_made (asked_mutation c m))
    (λ s. mutate_reply means s c.last (asked_mutation c m))
    → IsLinearized means tries old new reply (change_of c x) (λ s. reply_to means c s x)
mutated_told means tries old new c x m r reply call_is told_is is =
    call_told id means tries old new c x (call.Mutate m) r reply (change_made (asked_mutation c m))
    (λ s. mutate_reply means s c.last (asked_mutation c m)) call_is told_is
    (ap (change_made (asked_mutation c m)) (id_shown r)) (λ s. refl) is

-- of an end of a pull
pub ended_told : (means : Meanings) (tries : ℕ) (old new : Known) (c : Caller) (x : Call) (ticket : Bor Ticket)
    (body : Bor Bytes) (r : Result Ended Refusal) (reply : Result Replied Refusal) → x ≡ call.EndPull ticket body
    → reply ≡ map_ok ended r
    → IsLinearized means tries old new r (change_read ticket.now.cookie (answer_to body.now))
    (λ s. end_bytes_reply s ticket.now.cookie.text body.now)
    → IsLinearized means tries old new reply (change_of c x) (λ s. reply_to means c s x)
ended_told means tries old new c x ticket body r reply call_is told_is is =
    call_told ended means tries old new c x (call.EndPull ticket body) r reply
    (change_read ticket.now.cookie (answer_to body.now))
    (λ s. end_bytes_reply s ticket.now.cookie.text body.now) call_is told_is
    (ap (change_read ticket.now.cookie (answer_to body.now)) (ended_shown r)) (λ s. refl) is

pub missing : (reused : Type 0) (e : Refusal) → (e ≡ refusal.NoMemory) ⊎ IsStoreRefusal reused e
    → (is_resource_refusal e ≡ true) × (e ≢ refusal.Moved)
missing reused e (inl none) = (
  ap is_resource_refusal none,
  λ moved. let h : refusal.NoMemory ≡ refusal.Moved = sym none ∙ moved in cc h,
)
missing reused e (inr (inl gone)) = (
  ap is_resource_refusal gone,
  λ moved. let h : refusal.Gone ≡ refusal.Moved = sym gone ∙ moved in cc h,
)
missing reused e (inr (inr busy)) = (
  ap is_resource_refusal busy.1,
  λ moved. let h : refusal.Busy ≡ refusal.Moved = sym busy.1 ∙ moved in cc h,
)
