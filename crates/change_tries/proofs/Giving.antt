-- What a seat gives back, try after try, and why a change is refused in a later part of a call.
use Rattle.std.proofs.Common.{◌≡◌, ◌≢◌, ◌≤◌, inl, inr, ℕ, true, Err, Some, None, Option, List, [], ◌∷◌, ◌++◌, refl, sym}
use Rattle.std.proofs.Common.{ap, length, map, subst, ◌∙◌, arith}
use Rattle.std.proofs.Common.{append-nil, append_assoc, length-append, ◌<◌, ◌+◌}
use Rattle.std.proofs.lemmas.Grind.{flat_map-append}
use Rattle.std.proofs.lemmas.List.{length-map}
use Rattle.std.proofs.lemmas.List.Elements.{All-append, All-cons, All-map, All-nil}
use Rattle.std.specs.Prelude.{slice_index_or}
use mathlib.Core.List.{IsPrefix}
use Rattle.std.specs.List.{All, Contains}
use Rattle.std.proofs.lemmas.List.Elements.{All-contains_itself}
use Rattle.group_history.specs.declared.changes.Change.{Change}
use Rattle.group_history.specs.declared.changes.Change.TheVariants.{Mutated, Pulled, Closed}
use Rattle.group_history.specs.declared.refs.Ref.{Ref}
use Rattle.group_history.specs.declared.refusals.Refusal.{Refusal}
use Rattle.group_history.specs.declared.refusals.Refusal.TheVariants as refusal
use Rattle.group_history.specs.Meaning.{Meanings}
use Rattle.group_history.specs.Record.{after}
use Rattle.group_history.specs.Refs.{max_slots, slot_of, stamp_of}
use Rattle.group_history.specs.Spelling.{Contents, Version, version_at}
use Rattle.group_history.specs.State.{State}
use Rattle.group_history.proofs.Lists.{map_to, prefix_self, prefix_trans}
use Rattle.head_word.specs.declared.entry.Entry.{Entry}
use Rattle.map_chunks.specs.Drafts.{IsLate}
use Rattle.head_word.specs.Books.{drafted as drafted_by, drawn, moved, next_stamp, record_of}
use Rattle.head_word.specs.Marks.{Known, own}
use Rattle.head_word.proofs.Books.{drawn_more}
use Rattle.reader_claims.specs.declared.view.View.{View}
use Rattle.reader_claims.specs.declared.words.Pin.TheVariants.{Absent}
use Rattle.reader_claims.specs.Deeds.{Deed}
use Rattle.reader_claims.specs.Seats.{ClaimsId, kind_end}
use Rattle.reader_claims.specs.declared.slot.Kind.{Kind}
use Rattle.reader_claims.specs.declared.view.Sizes.{Sizes}
use Rattle.reader_claims.specs.Views.{with_pin}
use Rattle.commit_graph.specs.Reach.{IsDropped, Reaches}
use Rattle.commit_graph.specs.Seats.{IsCalm, IsSameSeat, SeatState}
use Rattle.commit_graph.proofs.Reached.{reaches_back, reaches_stays, there_version}
use Rattle.linearized.specs.Answered.{is_resource_refusal}
use Rattle.linearized.specs.Trying.{IsMove, IsUnproposed}
use Rattle.commit_publishing.specs.Placed.{AreDrawnBy, FoundNoneFor, LieBelow}
use Rattle.commit_publishing.specs.Retiring.{AreFreed, GivenUp, GivesOneUp, GivesUp, draft_deeds, entries_drawn}
use Rattle.commit_publishing.proofs.Leaving.{freed_known, gives_up_known, gives_up_more}
use Rattle.commit_publishing.proofs.Passing.{KnowsAs, all_shut_as, pins_as}
use Rattle.change_tries.specs.Causes.{HasCause, HasCauseAt, LacksRoom}
use Rattle.change_tries.specs.Changing.{EndsAt}
use Rattle.change_tries.specs.Leaving.{AreLeft, FreesIn, FreesNone, GivesBack, MayTake}
use Rattle.change_tries.specs.Missing.{IsStop}
use Rattle.change_tries.specs.Proposing.{IsProposalFor, asked_reply, change_asked, kind_for}
use Rattle.change_tries.specs.declared.trying.Tried.{Tried}
use Rattle.change_tries.specs.declared.trying.Tried.TheVariants as tried
use Rattle.change_tries.specs.declared.proposing.Proposal.{Proposal}
use Rattle.change_tries.proofs.Judging.{never_asked}

-- WHAT IS GIVEN BACK

-- a seat that did nothing to slots and to the book
pub gives_calm : (may : ℕ → Type 0) (old new : SeatState) → own new.mark ≡ own old.mark → IsCalm old.view new.view
    → FreesNone may 0 old new
gives_calm may old new same calm = record {
  given = [];
  few = omega arith;
  back = record {
    ends = All-nil (λ (g : GivenUp). may g.end);
    gave = calm.deeds;
    loads = calm.loads;
    reached = calm.reached;
  };
  own = same ∙ sym (append-nil (own old.mark));
}

pub gives_none : (may : ℕ → Type 0) (old : SeatState) → FreesNone may 0 old old
gives_none may old = gives_calm may old old refl
    (record { deeds = refl; taken = refl; loads = omega arith; reached = omega arith })

-- a draft that was given up
pub gives_up : (may : ℕ → Type 0) (end count : ℕ) (old new : SeatState) → may end
    → old.view.epoch_loads ≤ new.view.epoch_loads → old.view.reached ≤ new.view.reached
    → GivesOneUp old.table.sizes.slots end count old.view.deeds old new → FreesNone may 1 old new
gives_up may end count old new ends loads reached one = record {
  given = one.given ∷ [];
  few = omega arith;
  back = record {
    ends = All-cons (λ (g : GivenUp). may g.end) one.given [] (subst may (sym one.ends) ends)
        (All-nil (λ (g : GivenUp). may g.end));
    gave = (new.view.deeds, one.up, refl);
    loads = loads;
    reached = reached;
  };
  own = one.own ∙ ap (λ (es : List Entry). own old.mark ++ es) (sym (append-nil one.given.entries));
}

-- a draft that was placed, and whose slots were let go then
pub gives_lost : (may : ℕ → Type 0) (end : ℕ) (old mid new : SeatState) (refs : List Ref) → may end → LieBelow end refs
    → AreDrawnBy old.mark mid.mark refs → own new.mark ≡ own mid.mark
    → old.view.epoch_loads ≤ new.view.epoch_loads → old.view.reached ≤ new.view.reached
    → mid.view.deeds ≡ draft_deeds (map slot_of refs) [] old.view.deeds
    → AreFreed old.table.sizes.slots new.view.reached (map slot_of refs) mid.view.deeds new.view.deeds
    → FreesNone may 1 old new
gives_lost may end old mid new refs ends low d same loads reached was freed =
    gives_up may end (length refs) old new ends loads reached (record {
      given = record {
        end = end;
        settled = map slot_of refs;
        withdrawn = [];
        entries = drafted_by old.mark.seat d.first d.contents ∷ [];
      };
      ends = refl;
      few = omega (arith, many, whole);
      up = record {
        within = subst (All (λ i. i < end)) (sym (append-nil (map slot_of refs)))
            (All-map (λ i. i < end) slot_of refs low);
        drew = inr (d.first, d.contents, omega (arith, many, whole, d.count), refl);
        freed = subst (λ (xs : List Deed). AreFreed old.table.sizes.slots new.view.reached (map slot_of refs) xs
            new.view.deeds) was freed;
      };
      own = same ∙ d.own;
    })
  where
    many : length (map slot_of refs) ≡ length refs
    many = length-map refs slot_of

    whole : length (map slot_of refs ++ []) ≡ length (map slot_of refs)
    whole = ap length (append-nil (map slot_of refs))

-- which kinds of ends are allowed may be said in more words
ends_as : (may more : ℕ → Type 0) (gs : List GivenUp) → ((end : ℕ) → may end → more end) → All (λ g. may g.end) gs
    → All (λ g. more g.end) gs
ends_as may more gs f all k d low = f (slice_index_or gs k d).end (all k d low)

-- one part of a call after the other
back_since : (may more all : ℕ → Type 0) (old mid new : SeatState) (gs hs : List GivenUp) (ys : List Deed)
    → IsSameSeat old mid → ((end : ℕ) → may end → all end) → ((end : ℕ) → more end → all end)
    → GivesBack may gs old mid mid.view.deeds → GivesBack more hs mid new ys → GivesBack all (gs ++ hs) old new ys
back_since may more all old mid new gs hs ys same f h a b = record {
  ends = All-append (λ (g : GivenUp). all g.end) gs hs (ends_as may all gs f a.ends) (ends_as more all hs h b.ends);
  gave = gives_up_more old.table.sizes.slots new.view.reached old.mark.seat gs hs old.view.deeds mid.view.deeds ys
      (gives_up_known old.table.sizes.slots mid.view.reached new.view.reached old.mark.seat gs old.view.deeds
      mid.view.deeds b.reached a.gave)
      (subst (λ (t : ClaimsId). GivesUp t.sizes.slots new.view.reached old.mark.seat hs mid.view.deeds ys) same.table
      (subst (λ (n : Option ℕ). GivesUp mid.table.sizes.slots new.view.reached n hs mid.view.deeds ys)
      same.later.seat b.gave));
  loads = let x = a.loads in let y = b.loads in omega arith;
  reached = let x = a.reached in let y = b.reached in omega arith;
}

-- what was added to the book since
own_since : (old mid new : Known) (gs hs : List GivenUp) (more : List Entry) → own mid ≡ own old ++ entries_drawn gs
    → own new ≡ own mid ++ (entries_drawn hs ++ more) → own new ≡ own old ++ (entries_drawn (gs ++ hs) ++ more)
own_since old mid new gs hs more a b = b ∙ ap (λ (es : List Entry). es ++ (entries_drawn hs ++ more)) a
    ∙ append_assoc (own old) (entries_drawn gs) (entries_drawn hs ++ more)
    ∙ ap (λ (es : List Entry). own old ++ es) (sym (append_assoc (entries_drawn gs) (entries_drawn hs) more))
    ∙ ap (λ (es : List Entry). own old ++ (es ++ more)) (sym (flat_map-append (λ (g : GivenUp). g.entries) gs hs))

-- WHAT IS LEFT BEHIND

-- each of what a change leaves behind is dropped
pub are_dropped : (cs : Contents) (base new : Ref) (c : Change) (left : List Ref) → AreLeft cs base new c left
    → All (λ at. IsDropped cs (stamp_of base) (stamp_of new) (stamp_of at)) left
are_dropped cs base new (Pulled ticket r) left is k d low =
    let at = slice_index_or left k d in
    (is.0 (stamp_of at)).0 (map_to stamp_of left at (All-contains_itself left k d low))
are_dropped cs base new (Mutated m) left is k d low = absurd (omega (arith, low, ap length is))
are_dropped cs base new Closed left is k d low = absurd (omega (arith, low, ap length is))

-- it is the same by longer contents
pub are_left_grown : (cs more : Contents) (base new : Ref) (v w : Version) (c : Change) (left : List Ref)
    → IsPrefix cs more → version_at cs (stamp_of base) ≡ Some v → version_at cs (stamp_of new) ≡ Some w
    → AreLeft cs base new c left → AreLeft more base new c left
are_left_grown cs more base new v w (Pulled ticket r) left pre old head is =
    let b = stamp_of base in let n = stamp_of new in
    let at_base = there_version cs b v old in let at_new = there_version cs n w head in (
      λ x. (
        λ h. let d = (is.0 x).0 h in
            (reaches_stays cs more b x pre d.0, λ r. d.1 (reaches_back cs more n x pre at_new r)),
        λ d. (is.0 x).1 (reaches_back cs more b x pre at_base d.0, λ r. d.1 (reaches_stays cs more n x pre r)),
      ),
      is.1,
    )
are_left_grown cs more base new v w (Mutated m) left pre old head is = is
are_left_grown cs more base new v w Closed left pre old head is = is

-- WHAT A CALL RETIRES

-- a move in a later part of a call is one of the call
pub move_since : (old mid new : Known) (base to : Ref) (c : Change) → IsPrefix old.log mid.log → mid.seat ≡ old.seat
    → IsMove mid new base to c → IsMove old new base to c
move_since old mid new base to c pre seat g = (
  g.0,
  prefix_trans old.log mid.log g.0 pre g.1,
  g.2,
  subst (λ (s : Option ℕ). new.log ≡ g.0 ++ moved s to c ∷ []) seat g.3,
)

-- what is drawn goes on as the book does
pub drawn_grown : (old new : List Entry) → IsPrefix old new → IsPrefix (drawn old) (drawn new)
drawn_grown old new pre = (drawn pre.0, sym (drawn_more old pre.0) ∙ ap drawn pre.1)

-- an earlier part gave up drafts
pub frees_since : (may more all : ℕ → Type 0) (n m : ℕ) (old mid new : SeatState) (o : Option Change)
    → IsSameSeat old mid
    → ((end : ℕ) → may end → all end) → ((end : ℕ) → more end → all end) → FreesNone may n old mid
    → FreesIn more m mid new o → FreesIn all (n + m) old new o
frees_since may more all n m old mid new None same g h a b = record {
  given = a.given ++ b.given;
  few = let x = a.few in let y = b.few in omega (arith, length-append a.given b.given);
  back = back_since may more all old mid new a.given b.given new.view.deeds same g h a.back b.back;
  own = own_since old.mark mid.mark new.mark a.given b.given [] a.own
      (b.own ∙ ap (λ (es : List Entry). own mid.mark ++ es) (sym (append-nil (entries_drawn b.given))))
      ∙ ap (λ (es : List Entry). own old.mark ++ es) (append-nil (entries_drawn (a.given ++ b.given)));
}
frees_since may more all n m old mid new (Some c) same g h a f = record {
  base = f.base;
  to = f.to;
  goes = move_since old.mark mid.mark new.mark f.base f.to c same.later.seen same.later.seat f.goes;
  log = f.log;
  seen = f.seen;
  stood = f.stood;
  left = f.left;
  are = f.are;
  refs = f.refs;
  first = f.first;
  contents = f.contents;
  stamps = f.stamps;
  each = f.each;
  within = subst (λ (t : ClaimsId). LieBelow (kind_end t.sizes (kind_for (after (record_of f.log)) c)) f.refs)
      same.table f.within;
  among = f.among;
  needed = f.needed;
  given = a.given ++ f.given;
  few = let x = a.few in let y = f.few in omega (arith, length-append a.given f.given);
  lost = f.lost;
  back = back_since may more all old mid new a.given f.given f.lost same g h a.back f.back;
  own = own_since old.mark mid.mark new.mark a.given f.given
      (drafted_by old.mark.seat f.first f.contents ∷ moved old.mark.seat f.to c ∷ []) a.own
      (subst (λ (s : Option ℕ). own new.mark ≡ own mid.mark ++ (entries_drawn f.given
      ++ drafted_by s f.first f.contents ∷ moved s f.to c ∷ [])) same.later.seat f.own);
  freed = subst (λ (t : ClaimsId). AreFreed t.sizes.slots new.view.reached (map slot_of f.left)
      (draft_deeds (map slot_of f.refs) [] f.lost) new.view.deeds) same.table f.freed;
}

-- and a later part did nothing to slots, and saw nothing of the book
pub frees_then : (may all : ℕ → Type 0) (n : ℕ) (old mid new : SeatState) (o : Option Change)
    → ((end : ℕ) → may end → all end) → new.mark ≡ mid.mark → IsCalm mid.view new.view → FreesIn may n old mid o
    → FreesIn all n old new o
frees_then may all n old mid new None h same calm a = record {
  given = a.given;
  few = a.few;
  back = record {
    ends = ends_as may all a.given h a.back.ends;
    gave = subst (GivesUp old.table.sizes.slots new.view.reached old.mark.seat a.given old.view.deeds) (sym calm.deeds)
        (gives_up_known old.table.sizes.slots mid.view.reached new.view.reached old.mark.seat a.given old.view.deeds
        mid.view.deeds calm.reached a.back.gave);
    loads = let x = a.back.loads in let y = calm.loads in omega arith;
    reached = let x = a.back.reached in let y = calm.reached in omega arith;
  };
  own = ap own same ∙ a.own;
}
frees_then may all n old mid new (Some c) h same calm f = record {
  base = f.base;
  to = f.to;
  goes = subst (λ (m : Known). IsMove old.mark m f.base f.to c) (sym same) f.goes;
  log = f.log;
  seen = subst (λ (m : Known). IsPrefix f.log m.log) (sym same) f.seen;
  stood = f.stood;
  left = f.left;
  are = subst (λ (m : Known). AreLeft (drawn m.log) f.base f.to c f.left) (sym same) f.are;
  refs = f.refs;
  first = f.first;
  contents = f.contents;
  stamps = f.stamps;
  each = f.each;
  within = f.within;
  among = f.among;
  needed = subst (λ (m : Known). (at : Ref) → Contains f.refs at → Reaches (drawn m.log) (stamp_of f.to) (stamp_of at))
      (sym same) f.needed;
  given = f.given;
  few = f.few;
  lost = f.lost;
  back = record {
    ends = ends_as may all f.given h f.back.ends;
    gave = gives_up_known old.table.sizes.slots mid.view.reached new.view.reached old.mark.seat f.given old.view.deeds
        f.lost calm.reached f.back.gave;
    loads = let x = f.back.loads in let y = calm.loads in omega arith;
    reached = let x = f.back.reached in let y = calm.reached in omega arith;
  };
  own = ap own same ∙ f.own;
  freed = subst (AreFreed old.table.sizes.slots new.view.reached (map slot_of f.left)
      (draft_deeds (map slot_of f.refs) [] f.lost)) (sym calm.deeds)
      (freed_known old.table.sizes.slots mid.view.reached new.view.reached (map slot_of f.left)
      (draft_deeds (map slot_of f.refs) [] f.lost) mid.view.deeds calm.reached f.freed);
}

-- it may be said in more words which slots may be taken, and that more drafts at most were given up
pub frees_as : (may all : ℕ → Type 0) (n m : ℕ) (old new : SeatState) (o : Option Change) → n ≤ m
    → ((end : ℕ) → may end → all end) → FreesIn may n old new o → FreesIn all m old new o
frees_as may all n m old new None low h a = record {
  given = a.given;
  few = let x = a.few in omega arith;
  back = record {
    ends = ends_as may all a.given h a.back.ends;
    gave = a.back.gave;
    loads = a.back.loads;
    reached = a.back.reached;
  };
  own = a.own;
}
frees_as may all n m old new (Some c) low h f = record {
  base = f.base;
  to = f.to;
  goes = f.goes;
  log = f.log;
  seen = f.seen;
  stood = f.stood;
  left = f.left;
  are = f.are;
  refs = f.refs;
  first = f.first;
  contents = f.contents;
  stamps = f.stamps;
  each = f.each;
  within = f.within;
  among = f.among;
  needed = f.needed;
  given = f.given;
  few = let x = f.few in omega arith;
  lost = f.lost;
  back = record {
    ends = ends_as may all f.given h f.back.ends;
    gave = f.back.gave;
    loads = f.back.loads;
    reached = f.back.reached;
  };
  own = f.own;
  freed = f.freed;
}

-- what may be taken in a part of a call may be taken in the call
pub may_behind : (sizes : Sizes) (asked : Option Change) (old mid new : Known) (end : ℕ) → IsPrefix old.log mid.log
    → MayTake sizes asked mid new end → MayTake sizes asked old new end
may_behind sizes None old mid new end pre m = m
may_behind sizes (Some c) old mid new end pre (log, since, until, is) =
    (log, prefix_trans old.log mid.log log pre since, until, is)

pub may_before : (sizes : Sizes) (asked : Option Change) (old mid new : Known) (end : ℕ) → IsPrefix mid.log new.log
    → MayTake sizes asked old mid end → MayTake sizes asked old new end
may_before sizes None old mid new end post m = m
may_before sizes (Some c) old mid new end post (log, since, until, is) =
    (log, since, prefix_trans log mid.log new.log until post, is)

-- at a state that the call came to see
pub may_here : (table : ClaimsId) (old new : SeatState) (c : Change) (log : List Entry) (end : ℕ) → old.table ≡ table
    → IsPrefix old.mark.log log → IsPrefix log new.mark.log → EndsAt table.sizes (after (record_of log)) c end
    → MayTake old.table.sizes (Some c) old.mark new.mark end
may_here table old new c log end same since until is = (
  log,
  since,
  until,
  subst (λ (t : ClaimsId). end ≡ kind_end t.sizes (kind_for (after (record_of log)) c)) (sym same) is,
)

-- the try after so many
pub after_tries : (old mid new : SeatState) (asked : Option Change) (n m : ℕ) (o : Option Change) → IsSameSeat old mid
    → IsSameSeat mid new → FreesNone (MayTake old.table.sizes asked old.mark mid.mark) n old mid
    → FreesIn (MayTake mid.table.sizes asked mid.mark new.mark) m mid new o
    → FreesIn (MayTake old.table.sizes asked old.mark new.mark) (n + m) old new o
after_tries old mid new asked n m o first then a b = frees_since (MayTake old.table.sizes asked old.mark mid.mark)
    (MayTake mid.table.sizes asked mid.mark new.mark) (MayTake old.table.sizes asked old.mark new.mark) n m old mid
    new o first (λ end is. may_before old.table.sizes asked old.mark mid.mark new.mark end then.later.seen is)
    (λ end is. may_behind old.table.sizes asked old.mark mid.mark new.mark end first.later.seen
    (subst (λ (t : ClaimsId). MayTake t.sizes asked mid.mark new.mark end) first.table is)) a b

-- CAUSES

stop_full : (reused : Type 0) (e : Refusal) → IsStop reused e → e ≢ refusal.Full
stop_full reused e (inl is) full = cc (sym is ∙ full)
stop_full reused e (inr (inl is)) full = cc (sym is ∙ full)
stop_full reused e (inr (inr (inl is))) full = cc (sym is ∙ full)
stop_full reused e (inr (inr (inr is))) full = cc (sym is.1 ∙ full)

stop_busy : (reused : Type 0) (e : Refusal) → IsStop reused e → e ≡ refusal.Busy → reused
stop_busy reused e (inl is) busy = absurd (cc (sym is ∙ busy))
stop_busy reused e (inr (inl is)) busy = absurd (cc (sym is ∙ busy))
stop_busy reused e (inr (inr (inl is))) busy = absurd (cc (sym is ∙ busy))
stop_busy reused e (inr (inr (inr is))) busy = is.0

-- what could not be proposed lacks no slot
pub cause_unproposed : (means : Meanings) (reused : Type 0) (s : State) (last : ℕ) (c : Change) (old new : SeatState)
    (e : Refusal) → IsUnproposed (IsStop reused) (change_asked c) (asked_reply means s last c) e
    → (e ≡ refusal.Stamps → IsLate (next_stamp new.mark.log)) → HasCauseAt means reused s last c old new e
cause_unproposed means reused s last c old new e (inl stop, other) late = record {
  asked = λ full. absurd (stop_full reused e stop full);
  room = λ r full. absurd (stop_full reused e stop full);
  past = λ r full. absurd (stop_full reused e stop full);
  busy = stop_busy reused e stop;
  stamps = late;
}
cause_unproposed means reused s last c old new e (inr right, other) late = record {
  asked = λ full. absurd (never refusal.Full refl full);
  room = λ r full. absurd (never refusal.Full refl full);
  past = λ r full. absurd (never refusal.Full refl full);
  busy = λ busy. absurd (never refusal.Busy refl busy);
  stamps = late;
}
  where
    never : (w : Refusal) → is_resource_refusal w ≡ true → e ≡ w → ⊥
    never w want is = never_asked means s last c w want (right.0 ∙ ap Err is)

-- the pin is taken away
pub knows_unpinned : (v u : View) → u ≡ with_pin v Absent → KnowsAs v u
knows_unpinned v u is = record {
  notes = ap (λ (y : View). y.notes) is;
  number = ap (λ (y : View). y.number) is;
  sizes = ap (λ (y : View). y.sizes) is;
  read = ap (λ (y : View). y.read) is;
  loaded = ap (λ (y : View). y.loaded) is;
  reached = ap (λ (y : View). y.reached) is;
  loads = ap (λ (y : View). y.epoch_loads) is;
}

-- a pass in a part of a call behind which the pin was taken away
pub found_more : (v w u t : View) (end count : ℕ) → v.epoch_loads ≤ w.epoch_loads → FoundNoneFor w u end count
    → KnowsAs u t → t.deeds ≡ u.deeds → FoundNoneFor v t end count
found_more v w u t end count before f k same = record {
  loads = let h = f.loads in let l = k.loads in omega arith;
  epoch = k.loaded ∙ f.epoch ∙ sym k.reached;
  pins = pins_as u t k f.pins;
  own = f.own;
  few = f.few;
  before = f.before;
  back = same ∙ f.back;
  slots = all_shut_as f.own end u t k f.slots;
}

pub knows_self : (v : View) → KnowsAs v v
knows_self v = record {
  notes = refl;
  number = refl;
  sizes = refl;
  read = refl;
  loaded = refl;
  reached = refl;
  loads = refl;
}

-- what was drafted by what is drawn is so by what is drawn later
pub proposal_grown : (means : Meanings) (before more : Contents) (base : Ref) (s : State) (c : Change) (p : Proposal)
    → IsPrefix before more → IsProposalFor means before base s c p → IsProposalFor means more base s c p
proposal_grown means before more base s c p pre is = record {
  begins = is.begins;
  contents = is.contents;
  drawn = prefix_trans is.contents before more is.drawn pre;
  first = is.first;
  some = is.some;
  new = is.new;
  needed = is.needed;
  kind = is.kind;
  accepted = is.accepted;
  then = is.then;
}

-- a proposal for which no room was found
pub lacks_room : (means : Meanings) (s : State) (c : Change) (old new : SeatState) (table : ClaimsId) (p : Proposal)
    {base : Ref} → IsPrefix (drawn old.mark.log) (drawn new.mark.log) → old.table ≡ table
    → IsProposalFor means (drawn old.mark.log) base s c p
    → FoundNoneFor old.view new.view (kind_end table.sizes p.kind) (length p.draft.nodes) → LacksRoom means s c old new
lacks_room means s c old new table p {base} seen same leads none = record {
  proposal = p;
  leads = proposal_grown means (drawn old.mark.log) (drawn new.mark.log) p.base s c p seen
      (subst (λ (b : Ref). IsProposalFor means (drawn old.mark.log) b s c p) (sym leads.begins) leads);
  none = subst (λ (t : ClaimsId). FoundNoneFor old.view new.view (kind_end t.sizes (kind_for s c))
      (length p.draft.nodes))
      (sym same) (subst (λ (k : Kind). FoundNoneFor old.view new.view (kind_end table.sizes k) (length p.draft.nodes))
      leads.kind none);
}

-- what lacks room in a part of a call lacks it in the call
pub lacks_more : (means : Meanings) (s : State) (c : Change) (old mid done new : SeatState) → mid.table ≡ old.table
    → old.view.epoch_loads ≤ mid.view.epoch_loads → IsPrefix done.mark.log new.mark.log → KnowsAs done.view new.view
    → new.view.deeds ≡ done.view.deeds → LacksRoom means s c mid done → LacksRoom means s c old new
lacks_more means s c old mid done new table before seen k same l = record {
  proposal = l.proposal;
  leads = proposal_grown means (drawn done.mark.log) (drawn new.mark.log) l.proposal.base s c l.proposal
      (drawn_grown done.mark.log new.mark.log seen) l.leads;
  none = subst (λ (t : ClaimsId). FoundNoneFor old.view new.view (kind_end t.sizes (kind_for s c))
      (length l.proposal.draft.nodes)) table
      (found_more old.view mid.view done.view new.view (kind_end mid.table.sizes (kind_for s c))
      (length l.proposal.draft.nodes) before l.none k same);
}

-- what was tried at a state that the call came to see is refused with its cause
pub cause_arrived : (means : Meanings) (reused : Type 0) (last : ℕ) (c : Change) (old mid done new : SeatState)
    (log : List Entry) (e : Refusal) → IsPrefix old.mark.log log → IsPrefix log new.mark.log
    → mid.table ≡ old.table → (reused → old.view.epoch_loads ≤ mid.view.epoch_loads)
    → (reused → new.view ≡ with_pin done.view Absent) → new.mark ≡ done.mark
    → HasCauseAt means reused (after (record_of log)) last c mid done e → HasCause means reused last (Some c) old new e
cause_arrived means reused last c old mid done new log e since until table before behind same h = record {
  full = λ r is. record {
    log = log;
    since = since;
    until = until;
    asked = h.asked is;
    room = lacks_more means (after (record_of log)) c old mid done new table (before r)
        (subst (λ (m : Known). IsPrefix done.mark.log m.log) (sym same) (prefix_self done.mark.log))
        (knows_unpinned done.view new.view (behind r)) (ap (λ (y : View). y.deeds) (behind r)) (h.room r is);
  };
  past = λ r is. (refl, subst (λ (m : Known). max_slots ≤ next_stamp m.log) (sym same) (h.past r is));
  busy = h.busy;
  stamps = λ is. (refl, subst (λ (m : Known). IsLate (next_stamp m.log)) (sym same) (h.stamps is));
}

-- so is what was refused in a later part of the call
pub cause_since : (means : Meanings) (reused : Type 0) (last : ℕ) (c : Change) (old mid new : SeatState) (e : Refusal)
    → IsPrefix old.mark.log mid.mark.log → mid.table ≡ old.table
    → (reused → old.view.epoch_loads ≤ mid.view.epoch_loads)
    → HasCause means reused last (Some c) mid new e → HasCause means reused last (Some c) old new e
cause_since means reused last c old mid new e pre table before h = record {
  full = λ r is. let l = h.full r is in record {
    log = l.log;
    since = prefix_trans old.mark.log mid.mark.log l.log pre l.since;
    until = l.until;
    asked = l.asked;
    room = lacks_more means (after (record_of l.log)) c old mid new new table (before r) (prefix_self new.mark.log)
        (knows_self new.view) refl l.room;
  };
  past = h.past;
  busy = h.busy;
  stamps = h.stamps;
}

-- a refusal that is no Full, no Stamps and no Busy needs none
pub cause_other : (means : Meanings) (reused : Type 0) (last : ℕ) (c : Change) (old new : SeatState) (e : Refusal)
    → e ≢ refusal.Full → e ≢ refusal.Stamps → (e ≡ refusal.Busy → reused) → HasCause means reused last
    (Some c) old new e
cause_other means reused last c old new e other some busy = record {
  full = λ r is. absurd (other is);
  past = λ r is. absurd (other is);
  busy = busy;
  stamps = λ is. absurd (some is);
}
