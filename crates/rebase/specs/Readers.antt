-- What a reader has: the client that opened it, and what had been seen when its commit was the head.
use Rattle.std.specs.Borrow.{MutBor}
use Rattle.group_history.specs.Record.{after}
use Rattle.group_history.specs.State.{State}
use Rattle.head_word.specs.Books.{record_of}
use Rattle.head_word.specs.Marks.{Known}
use Rattle.chunk_slots.specs.declared.store.Slots.{Ghosts}
use Rattle.rebase.specs.Clients.{ClientState}
use Rattle.rebase.specs.declared.reading.ReadTx.{ReadTx}

-- the client
abbrev pub lent : {M S T : Type 0} {slots : Ghosts S M T} → ReadTx M S T slots → MutBor ClientState
lent tx = tx.client

-- what had been seen of the book
abbrev pub seen_by : {M S T : Type 0} {slots : Ghosts S M T} → ReadTx M S T slots → Known
seen_by tx = tx.at

-- the state that it reads
abbrev pub read_by : {M S T : Type 0} {slots : Ghosts S M T} → ReadTx M S T slots → State
read_by tx = after (record_of tx.at.log)
