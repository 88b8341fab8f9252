-- What a store's seat knows of the claims table, and what the calls of a store tell of it. In each v is what the seat
-- knew before the call, and u what it knows after it.
use Rattle.std.specs.Prelude.{ℕ, suc, ◌≡◌, ◌≢◌, ◌+◌, ◌^◌, ◌<◌, ◌≤◌, List, [], ◌∷◌, ◌++◌, max}
use Rattle.std.specs.List.{All}
use Rattle.reader_claims.specs.declared.words.Pin.TheVariants.{Absent}
use Rattle.reader_claims.specs.declared.view.Sizes.{Sizes}
use Rattle.reader_claims.specs.declared.view.View.{View}
use Rattle.reader_claims.specs.Deeds as deed
use Rattle.reader_claims.specs.Passes.{IsUnpinned, pinned, unpinned}
use Rattle.reader_claims.specs.Seats.{ClaimsId}
use Rattle.reader_claims.specs.Views.{reader}

-- the seat has no pin and no taken slot
abbrev pub IsIdle : View → Type 0
IsIdle v = (v.pin ≡ Absent) × (v.taken ≡ [])

-- The seats of a store that was just opened, by their views. The last one took two slots of the table, settled them for
-- the opening's leaf and commit, and did nothing else to slots; the others have not begun
pub record IsOpening (k : Sizes) (views : List View) (commit : ℕ) : Type 0 where
  pub others : List View
  pub opener : View
  pub all : views ≡ others ++ opener ∷ []
  pub unused : All (λ v. v ≡ reader k v.number) others
  pub leaf : ℕ
  pub two : (leaf ≢ commit) × (leaf < k.slots) × (commit < k.slots)
  pub settled : opener.settled ≡ commit ∷ leaf ∷ []
  pub idle : IsIdle opener
  pub deeds : opener.deeds ≡ deed.settled commit ∷ deed.settled leaf ∷ deed.took commit ∷ deed.took leaf ∷ []

-- so many tries of a pin were lost, one after the other: at each the second load of the epoch read more than the first
pub data LosesPins : ℕ → View → View → Type 0 where
  none : (v : View) → LosesPins 0 v v
  more : (n : ℕ) (v t u : View) → LosesPins n v t → IsUnpinned t u → LosesPins (suc n) v u

-- The pin is held at the epoch that was loaded before it was stored and after. All tries before that one were lost, and
-- they were fewer than the call may make: it makes one at least
pub record IsPinned (v u : View) (tries : ℕ) : Type 0 where
  pub view : u ≡ record (pinned v u.loaded) { stores = u.stores; epoch_loads = u.epoch_loads }
  pub reached : v.reached ≤ u.loaded
  pub tried : (n : ℕ) × (t : View) × (n < max 1 tries) × LosesPins n v t × (u ≡ pinned t u.loaded)

-- The pin is absent. Each try that the call may make was lost, and one at least: others raised the epoch meanwhile, by
-- one at least at each try
pub record IsOvertaken (v u : View) (tries : ℕ) : Type 0 where
  pub view : u ≡ record (unpinned v u.loaded_before u.loaded) { stores = u.stores; epoch_loads = u.epoch_loads }
  pub lost : LosesPins (max 1 tries) v u
  pub rose : (v.reached < u.loaded) × (v.reached + tries ≤ u.loaded)

-- the seat may retire at r: that is one above the epoch that it loaded last, past which it has seen it since
abbrev pub MayRetire : View → ℕ → Type 0
MayRetire v r = (r ≡ v.loaded + 1) × (v.loaded < v.reached)

-- the epoch was loaded, and raised from the number read
abbrev pub IsRaised : View → View → ℕ → Type 0
IsRaised v u r = MayRetire u r × (u.raises ≡ v.raises + 1) × (u.deeds ≡ deed.raised u.reached ∷ v.deeds)

-- the epoch is the last one, and nothing was done
abbrev pub IsAtEnd : View → View → Type 0
IsAtEnd v u = (2 ^ 60 ≤ u.reached) × (u.raises ≡ v.raises) × (u.deeds ≡ v.deeds)

-- the table of a store that claims nothing, and what its seats know of it
abbrev pub no_table : ClaimsId
no_table = record {
  table = record {
    words = 0;
    slots = 0;
    views_name = 0;
    atom = 0;
    block = 0;
    offset = 0;
    slot_names = [];
  };
  sizes = record { readers = 0; slots = 0 };
}

abbrev pub no_view : View
no_view = reader no_table.sizes 0
