-- The tally of a key is the count of its entries, cut in two parts: the book keeps one and the seat the other.
use Rattle.std.specs.Prelude.{ℕ, zero, suc, ◌≡◌, ◌≢◌, List, [], ◌∷◌, length, slice_index_or}
use base.Share.{quarter}
use base.Fml.{Fml, fsep}
use Rattle.logbook.specs.Pages.{Cell}
use Rattle.logbook.specs.Kept.{fact, part, roster}
use Rattle.head_word.specs.declared.entry.Answer.{Answer}
use Rattle.head_word.specs.declared.entry.Entry.{Entry}
use Rattle.head_word.specs.Rules.{at_home}
use Rattle.head_word.specs.Tallies.{key_of, count}

-- the counts of n keys from k on, each at home
abbrev pub counts_from : ℕ → ℕ → List Entry → List Cell
counts_from k zero log = []
counts_from k (suc n) log = at_home (count k log) ∷ counts_from (suc k) n log

-- a book has two names: the first is that of its tallies
abbrev pub tally_name : List ℕ → ℕ
tally_name names = slice_index_or names 0 0

-- and the second says how many keys there are
abbrev pub key_end : List ℕ → ℕ
key_end names = slice_index_or names 1 0

-- what the book keeps: a part of each tally, which has the count of what the key added
abbrev pub kept_tallies : List ℕ → List Entry → Fml
kept_tallies names log = roster (tally_name names) 0 (counts_from 0 (key_end names) log)

-- what a seat keeps: the other part of its tally
abbrev pub tally_owns : List ℕ → ℕ → ℕ → Fml
tally_owns names key n = part (tally_name names) key quarter n

-- An exchange by one key changes the count of no other. Its answer is the key's count before and after.
pub record Trades (ask : Entry) (xs ys : List Entry) (a : Answer) : Type 0 where
  pub before : a.before ≡ count (key_of ask) xs
  pub after : a.after ≡ count (key_of ask) ys
  pub others : (k : ℕ) → k ≢ key_of ask → count k ys ≡ count k xs

-- an offer remembers its key and its count by a list of as many entries behind one of that key: this is the key
abbrev pub told_key : List Entry → ℕ
told_key [] = 0
told_key (e ∷ es) = key_of e

-- and this the count
abbrev pub told_count : List Entry → ℕ
told_count [] = 0
told_count (e ∷ es) = length es

-- what a seat has after its exchange: its part of the tally, at the new count, and that the old count was right
abbrev pub traded : List ℕ → List Entry → Answer → Fml
traded names about a = fsep (fact (a.before ≡ told_count about)) (tally_owns names (told_key about) a.after)
