-- Replies as clauses see them.
use Rattle.std.specs.Prelude.{ℕ, Bool, List, Option}
use Rattle.group_history.specs.declared.mutations.MutationFields.{MutationFields as Mutation}
use Rattle.group_history.specs.declared.responses.Ended.{Ended}
use Rattle.group_history.specs.Cookies.{Cookie}
use Rattle.group_history.specs.Map.{Bytes}
use Rattle.rebase.specs.declared.calls.CallReply.{CallReply}
use Rattle.rebase.specs.declared.calls.CallReply.TheVariants as reply
use Rattle.rebase.specs.Queries.{AskedQuery, asked}

pub data Replied : Type 0 where
  value : Option Bytes → Replied
  yes_or_no : Bool → Replied
  rows : List (Bytes × Bytes) → Replied
  pending : List Mutation → Replied
  cookie : Cookie → Replied
  id : ℕ → Replied
  body : Bytes → Replied
  ticket : AskedQuery → Replied
  ended : Ended → Replied

-- a reply of the code as clauses see it
abbrev pub reply_seen : CallReply → Replied
reply_seen (reply.Value v) = value v
reply_seen (reply.Is b) = yes_or_no b
reply_seen (reply.Rows rs) = rows rs.items
reply_seen (reply.Pending xs) = pending xs.items
reply_seen (reply.Cookie c) = cookie c
reply_seen (reply.Id n) = id n
reply_seen (reply.Body v) = body v.items
reply_seen (reply.Ticket t) = ticket (asked t)
reply_seen (reply.Ended e) = ended e
