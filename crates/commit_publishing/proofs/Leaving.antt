-- Slots that were let go, one after the other.
use Rattle.std.proofs.Common.{◌≡◌, ℕ, ◌<◌, ◌≤◌, ◌^◌, inl, inr, List, [], ◌∷◌, ◌++◌, length, refl, sym, ap, subst}
use Rattle.std.proofs.Common.{◌∙◌, Option, append-nil, arith}
use native.Mathlib.Decide.{dec_lt}
use mathlib.Core.Logic.{dite}
use Rattle.reader_claims.specs.Deeds as deed
use Rattle.reader_claims.specs.Deeds.{Deed}
use Rattle.reader_claims.specs.declared.view.View.{View}
use Rattle.reader_claims.specs.Passes.{IsRetired}
use Rattle.group_history.specs.declared.nodes.Child.{Child}
use Rattle.group_history.specs.declared.nodes.Node.{Node}
use Rattle.head_word.specs.Books.{drafted as drafted_by}
use Rattle.head_word.specs.Marks.{Known, own}
use Rattle.commit_graph.specs.Seats.{SeatState}
use Rattle.commit_publishing.specs.Inside.Stacks.{AreLower, HasTaken}
use Rattle.commit_publishing.specs.Retiring.{AreFreed, AreLetGo, GivenUp, GivesOneUp, GivesUp, IsGivenUp, draft_deeds}
use Rattle.commit_publishing.proofs.Lying.{taken_below}
use Rattle.commit_publishing.proofs.Popping.{length_taken}

-- and then more
pub let_go_more : (slots r : ℕ) (is js : List ℕ) (xs ys zs : List Deed) → AreLetGo slots r is xs ys
    → AreLetGo slots r js ys zs → AreLetGo slots r (is ++ js) xs zs
let_go_more slots r [] js xs ys zs a b = subst (λ (l : List Deed). AreLetGo slots r js l zs) a b
let_go_more slots r (i ∷ is) js xs ys zs a b = elim a [
  | inl h ↦ inl (h.0, let_go_more slots r is js (deed.retired i r ∷ xs) ys zs h.1 b)
  | inr other ↦ elim other [
    | inl h ↦ inr (inl (h.0, let_go_more slots r is js (deed.missed i ∷ xs) ys zs h.1 b))
    | inr h ↦ inr (inr (h.0, let_go_more slots r is js xs ys zs h.1 b))
  ]
]

-- one slot
pub let_go_one : (slots r i : ℕ) (v u : View) → (i < slots → IsRetired v u i r) → (slots ≤ i → u ≡ v)
    → AreLetGo slots r (i ∷ []) v.deeds u.deeds
let_go_one slots r i v u inside outside = dite (dec_lt i slots)
    (λ near. elim (inside near) [
      | inl is ↦ inl (near, ap (λ (y : View). y.deeds) is)
      | inr missed ↦ inr (inl (near, ap (λ (y : View). y.deeds) missed.2))
    ])
    (λ far. let past : slots ≤ i = omega arith in inr (inr (past, ap (λ (y : View). y.deeds) (outside past))))

-- where the epoch is the last one nothing is let go
pub freed_last : (slots reached : ℕ) (is : List ℕ) (xs ys : List Deed) → 2 ^ 60 ≤ reached → ys ≡ xs
    → AreFreed slots reached is xs ys
freed_last slots reached [] xs ys last same = same
freed_last slots reached (i ∷ is) xs ys last same = inl (last, same)

pub freed_at : (slots reached r e : ℕ) (is : List ℕ) (xs ys : List Deed) → 0 < length is → r ≤ e
    → AreLetGo slots r is (deed.raised e ∷ xs) ys → AreFreed slots reached is xs ys
freed_at slots reached r e [] xs ys some low go = absurd (omega (arith, some))
freed_at slots reached r e (i ∷ is) xs ys some low go = inr (r, e, low, go)

-- one who knows more of the epoch
pub freed_known : (slots reached later : ℕ) (is : List ℕ) (xs ys : List Deed) → reached ≤ later
    → AreFreed slots reached is xs ys → AreFreed slots later is xs ys
freed_known slots reached later [] xs ys low same = same
freed_known slots reached later (i ∷ is) xs ys low freed = elim freed [
  | inl last ↦ inl (let h = last.0 in omega arith, last.1)
  | inr raised ↦ inr raised
]

-- GIVING UP

pub gives_up_known : (slots reached later : ℕ) (by : Option ℕ) (gs : List GivenUp) (xs zs : List Deed) → reached ≤ later
    → GivesUp slots reached by gs xs zs → GivesUp slots later by gs xs zs
gives_up_known slots reached later by [] xs zs low same = same
gives_up_known slots reached later by (g ∷ gs) xs zs low (ys, one, rest) = (
  ys,
  record {
    within = one.within;
    drew = one.drew;
    freed = freed_known slots reached later g.settled (draft_deeds g.settled g.withdrawn xs) ys low one.freed;
  },
  gives_up_known slots reached later by gs ys zs low rest,
)

-- and then more of them
pub gives_up_more : (slots reached : ℕ) (by : Option ℕ) (gs hs : List GivenUp) (xs ys zs : List Deed)
    → GivesUp slots reached by gs xs ys → GivesUp slots reached by hs ys zs → GivesUp slots reached by (gs ++ hs) xs zs
gives_up_more slots reached by [] hs xs ys zs same b =
    subst (λ (l : List Deed). GivesUp slots reached by hs l zs) same b
gives_up_more slots reached by (g ∷ gs) hs xs ys zs (mid, one, rest) b =
    (mid, one, gives_up_more slots reached by gs hs mid ys zs rest b)

-- a draft of which no stamp was drawn: its slots were withdrawn
pub gives_unplaced : (slots end count : ℕ) (xs : List Deed) (old new : SeatState) (back : List ℕ) → length back ≤ count
    → AreLower end back → new.view.deeds ≡ draft_deeds [] back xs → own new.mark ≡ own old.mark
    → GivesOneUp slots end count xs old new
gives_unplaced slots end count xs old new back few low did same = record {
  given = record { end = end; settled = []; withdrawn = back; entries = [] };
  ends = refl;
  few = few;
  up = record { within = low; drew = inl refl; freed = did };
  own = same ∙ sym (append-nil (own old.mark));
}

-- and one whose stamps were drawn: what was settled of its slots was let go
pub gives_placed : (slots end count : ℕ) (xs : List Deed) (v : View) (old new : SeatState) (held : List ℕ) (first : ℕ)
    (contents : List (Node Child)) → HasTaken v held → AreLower end held → length held ≡ count
    → length contents ≡ count → own new.mark ≡ own old.mark ++ drafted_by old.mark.seat first contents ∷ []
    → (settled withdrawn : List ℕ) × (v.taken ≡ settled ++ withdrawn)
    × AreFreed slots new.view.reached settled (draft_deeds settled withdrawn xs) new.view.deeds
    → GivesOneUp slots end count xs old new
gives_placed slots end count xs v old new held first contents has below all each drew
    (settled, withdrawn, split, freed) =
    let many = length_taken v held has in let whole = ap length split in record {
      given = record {
        end = end;
        settled = settled;
        withdrawn = withdrawn;
        entries = drafted_by old.mark.seat first contents ∷ [];
      };
      ends = refl;
      few = omega (arith, many, whole, all);
      up = record {
        within = subst (AreLower end) split (taken_below end v held has below);
        drew = inr (first, contents, omega (arith, many, whole, all, each), refl);
        freed = freed;
      };
      own = drew;
    }

-- since the same was seen of the book
pub gives_as : (slots end count : ℕ) (xs : List Deed) (old was new : SeatState) → old.mark ≡ was.mark
    → GivesOneUp slots end count xs old new → GivesOneUp slots end count xs was new
gives_as slots end count xs old was new same g = record {
  given = g.given;
  ends = g.ends;
  few = g.few;
  up = subst (λ (m : Known). IsGivenUp slots new.view.reached m.seat g.given xs new.view.deeds) same g.up;
  own = subst (λ (m : Known). own new.mark ≡ own m ++ g.given.entries) same g.own;
}
