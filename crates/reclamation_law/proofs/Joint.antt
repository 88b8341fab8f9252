-- What holds of every world that events lead to.
use Rattle.std.proofs.Common.{◌≡◌, ◌≢◌, ◌⊎◌, ℕ, ◌<◌, ◌≤◌, get_or}
use mathlib.Core.Option.{some}
use lib.ListN.{get_elem?}
use Rattle.group_history.specs.Refs.{stamp_of}
use Rattle.head_word.specs.Books.{next_stamp, last_move}
use Rattle.reader_claims.specs.declared.words.Pin.TheVariants.{Held}
use Rattle.reader_claims.specs.declared.words.SlotState.TheVariants.{Live, Retired}
use Rattle.reader_claims.specs.declared.view.Sizes.{Sizes}
use Rattle.reader_claims.specs.declared.view.View.{View}
use Rattle.reader_claims.specs.Words.{slot_at, slot_word}
use Rattle.reader_claims.specs.Lists.{In}
use Rattle.reader_claims.proofs.Sound.{Sound}
use Rattle.reader_claims.proofs.Reaching.{state}
use Rattle.reclamation_law.specs.Worlds.{Commit, Among, Work, World, slots_of, IsLateTry, IsDrawnIn}

-- the seat j has the work a under way
abbrev pub Does : World → ℕ → Work → Type 0
Does s j a = get_elem? s.works j ≡ some a

abbrev pub Sees : World → ℕ → View → Type 0
Sees s j v = get_elem? s.views j ≡ some v

abbrev pub IsLive : World → ℕ → Type 0
IsLive s z = get_or s.words (slot_at z) 0 ≡ slot_word Live

-- the slot is live, or retired above e
abbrev pub IsSafe : World → ℕ → ℕ → Type 0
IsSafe s e z = IsLive s z ⊎ ((r : ℕ) × (e < r) × (get_or s.words (slot_at z) 0 ≡ slot_word (Retired r)))

-- the seat holds a pin, at which all slots of the commit are safe to look at
pub record Reads (k : Sizes) (s : World) (j : ℕ) (c : Commit) : Type 0 where
  pub view : View
  pub epoch : ℕ
  pub seen : Sees s j view
  pub pin : view.pin ≡ Held epoch
  pub safe : (z : ℕ) → In c.slots z → (z < k.slots) × IsSafe s epoch z

pub record Joint (k : Sizes) (s : World) : Type 0 where
  pub sound : Sound k (state s.words s.views)
  -- the slots of the head are live
  pub head : (z : ℕ) → In s.reached z → (z < k.slots) × IsLive s z
  -- a commit that a seat has was loaded under a pin that it holds
  pub held : (j : ℕ) (a : Work) (c : Commit) → Does s j a → Among a.commits c → Reads k s j c
  -- what a try settled, or has left to retire, is live, and not the head's
  pub slots : (j : ℕ) (a : Work) (z : ℕ) → Does s j a → In (slots_of a.try) z
      → (z < k.slots) × IsLive s z × (In s.reached z → ⊥)
  -- and no other seat's
  pub apart : (i j : ℕ) (a b : Work) (z : ℕ) → Does s i a → Does s j b → In (slots_of a.try) z
      → In (slots_of b.try) z → i ≡ j
  -- where a seat has loaded the epoch after its try, a pin under which some slot that it has left was reached is at
  -- most that number
  pub late : (i j : ℕ) (a b : Work) (v u : View) (c : Commit) (z e : ℕ) → Does s i a → Sees s i v → IsLateTry a.try
      → In (slots_of a.try) z
      → Does s j b → Sees s j u → Among b.commits c → In c.slots z → u.pin ≡ Held e → e ≤ v.loaded
  -- stamps are drawn before a commit has them, and one names one set of slots
  pub named : stamp_of (last_move s.log) < next_stamp s.log
  pub known : (j : ℕ) (a : Work) (c : Commit) → Does s j a → Among a.commits c → (stamp_of c.at < next_stamp s.log)
      × (c.at ≡ last_move s.log → c.slots ≡ s.reached)
  -- no commit has a stamp that was drawn in a try under way, and no other seat drew it
  pub drawn : (i : ℕ) (a : Work) (q : ℕ) → Does s i a → IsDrawnIn a.try q
      → (q < next_stamp s.log) × (stamp_of (last_move s.log) ≢ q)
  pub unnamed : (i j q : ℕ) (a b : Work) (c : Commit) → Does s i a → IsDrawnIn a.try q → Does s j b → Among b.commits c
      → stamp_of c.at ≢ q
  pub own : (i j q : ℕ) (a b : Work) → Does s i a → Does s j b → IsDrawnIn a.try q → IsDrawnIn b.try q → i ≡ j
