use Rattle.head_word.proofs.BookLaws.{book_laws_hold}
use Rattle.head_word.proofs.laws.book_laws.Goals as goal

pub returns : goal.returns
returns c = book_laws_hold
