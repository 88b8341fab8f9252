-- What is proved of books, in words of their own.
use Rattle.std.specs.Prelude.{ℕ, ◌≡◌, ◌+◌, ◌<◌, ◌≤◌, ◌⊎◌, List, Some, length, slice_get, option_map}
use mathlib.Core.List.{IsPrefix}
use Rattle.group_history.specs.declared.nodes.Node.{Node}
use Rattle.group_history.specs.Meaning.{Meanings}
use Rattle.group_history.specs.Naming.{drafted_content}
use Rattle.group_history.specs.Refs.{stamp_of}
use Rattle.group_history.specs.Spelling.{Version, version_at}
use Rattle.head_word.specs.declared.entry.DraftEntry.{DraftEntry}
use Rattle.head_word.specs.declared.entry.Entry.{Entry}
use Rattle.head_word.specs.declared.entry.Entry.TheVariants as v
use Rattle.head_word.specs.Books.{drawn, IsOpened, last_move, record_of}

-- the draft stands in the book at this place
abbrev pub IsDraftAt : List Entry → ℕ → DraftEntry → Type 0
IsDraftAt log place d = slice_get log place ≡ Some (v.Draft d)

-- the stamp of the commit where the last move of a book went
abbrev pub moment : List Entry → ℕ
moment log = stamp_of (last_move log)

-- Laws of books, for mutators of any meaning.
pub record BookLaws (means : Meanings) : Type 0 where
  -- the content of a stamp is the same in every longer book
  pub content_stays : (xs ys : List Entry) → IsPrefix xs ys → (stamp : ℕ) (c : Node ℕ)
      → slice_get (drawn xs) stamp ≡ Some c → slice_get (drawn ys) stamp ≡ Some c
  -- and so is the version that it spells
  pub version_stays : (xs ys : List Entry) → IsPrefix xs ys → (stamp : ℕ) (w : Version)
      → version_at (drawn xs) stamp ≡ Some w → version_at (drawn ys) stamp ≡ Some w
  -- a draft's node at place p is the content of its first stamp plus p
  pub content_drafted : (log : List Entry) → IsOpened means log → (at : ℕ) (d : DraftEntry) → IsDraftAt log at d
      → (p : ℕ)
      → p < length d.contents
      → slice_get (drawn log) (d.first + p) ≡ option_map (drafted_content d.first) (slice_get d.contents p)
  -- a stamp names one draft of the book, and one node of it
  pub drafted_once : (log : List Entry) → IsOpened means log → (at bt : ℕ) (d e : DraftEntry) → IsDraftAt log at d
      → IsDraftAt log bt e
      → (p q : ℕ) → p < length d.contents → q < length e.contents → d.first + p ≡ e.first + q → (at ≡ bt) × (p ≡ q)
  -- of the records of two beginnings of one book one begins the other
  pub one_record : (xs ys book : List Entry) → IsPrefix xs book → IsPrefix ys book
      → IsPrefix (record_of xs) (record_of ys) ⊎ IsPrefix (record_of ys) (record_of xs)
  -- the record of a book begins the record of every longer one
  pub record_grows : (xs ys : List Entry) → IsPrefix xs ys → IsPrefix (record_of xs) (record_of ys)
  -- of two beginnings of one book the later one has the greater moment, or one as great, and then the same record
  pub moments_rise : (xs ys : List Entry) → IsPrefix xs ys → IsOpened means ys → (moment xs ≤ moment ys)
      × (moment xs ≡ moment ys → record_of xs ≡ record_of ys)
