-- The rule of the book: what its two words say of it between any two steps.
use Rattle.std.specs.Prelude.{ℕ, ◌≡◌, ◌⊎◌, true, List, [], ◌∷◌}
use Rattle.logbook.specs.Pages.{Cell, Book, Named}
use Rattle.group_history.specs.Meaning.{Meanings}
use Rattle.head_word.specs.declared.entry.Entry.{Entry}
use Rattle.head_word.specs.Books.{next_stamp, last_move, nowhere, opening_stamps, IsOpened}

-- the head word says where the last move went
abbrev pub head_says : List Entry → ℕ
head_says log = (last_move log).bits

-- the draft word says which stamp is the first one not drawn
abbrev pub drafts_say : List Entry → ℕ
drafts_say log = next_stamp log

-- the two words, once the book is opened
pub record FitsOpened (means : Meanings) (head drafts : ℕ) (log : List Entry) : Type 0 where
  pub opened : IsOpened means log
  pub head_is : head ≡ head_says log
  pub drafts_are : drafts ≡ drafts_say log

-- and before: the head word leads nowhere, and the draft word leaves room for the stamps that the opening draws
pub record FitsUnopened (head drafts : ℕ) (log : List Entry) : Type 0 where
  pub empty : log ≡ []
  pub head_is : head ≡ nowhere.bits
  pub drafts_are : drafts ≡ opening_stamps

-- the two words fit the book
abbrev pub Fits : Meanings → ℕ → ℕ → List Entry → Type 0
Fits means head drafts log = FitsOpened means head drafts log ⊎ FitsUnopened head drafts log

-- a word of this value, which is at home: the book holds its value
abbrev pub at_home : ℕ → Cell
at_home value = (value, true)

-- The book has two words, the head word and the draft word. Both are at home, and they fit it.
pub record IsKept (means : Meanings) (cells : List Cell) (log : List Entry) : Type 0 where
  pub head : ℕ
  pub drafts : ℕ
  pub words : cells ≡ at_home head ∷ at_home drafts ∷ []
  pub fits : Fits means head drafts log

-- the place of the head word among the words of the book
abbrev pub head_key : ℕ
head_key = 0

-- and the draft word's
abbrev pub drafts_key : ℕ
drafts_key = 1

-- the word at this place of the book
abbrev pub word_of : ℕ → Book → Named
word_of key book = record { tracked = true; key = key; book = book }
