-- Serving where the first phase begins.
use Rattle.std.proofs.Common.{◌+◌, ap, subst, sym}
use Rattle.std.specs.Prelude.{Option}
use Rattle.std.specs.Io.KnownBytes.{Appends}
use Rattle.group_history.specs.Map.{Bytes}
use Rattle.script_server.specs.Answers.{Answers, IsLine, OpensGroup, ok_text}
use Rattle.script_server.specs.Serving.{HasEnded, HasServed, HasServedSome, ServedPlace, Served, beginning}
use Rattle.script_server.specs.Standing.{Standing}
use Rattle.script_server.specs.Inside.Stages.{BeginsAt, IsServed, served_at}
use Rattle.script_server.specs.Inside.Writes.{WritesSome}
use Rattle.script_server.proofs.Answering.{answers_first}
use Rattle.script_server.proofs.Served.{ended_here, ended_on, ended_within, served_on, served_one}

-- the line that begins the first phase isn't answered yet
pub ended_unbegun : (old at : ServedPlace) → BeginsAt old at → HasEnded old at.output
ended_unbegun old at begun = subst (HasEnded old) (sym begun.output) (ended_here old)

answered_first : (old at : ServedPlace) (after : Standing) (begun : BeginsAt old at)
    → OpensGroup at.standing at.standing.said after
    → Answers old.number begun.line old.standing (ok_text at.number) after
answered_first old at after begun opens =
    subst (λ n. Answers old.number begun.line old.standing (ok_text n) after) (sym begun.number)
    (answers_first old.number begun.line old.standing at.standing after begun.first opens)

pub ended_first : (old at : ServedPlace) (after : Standing) (output : Option Bytes) → BeginsAt old at
    → OpensGroup at.standing at.standing.said after → WritesSome (ok_text at.number) at.output output
    → HasEnded old output
ended_first old at after output begun opens some =
    ended_within old begun.line at.input (ok_text at.number) after output begun.taken
    (answered_first old at after begun opens) (subst (λ o. WritesSome (ok_text at.number) o output) begun.output some)

pub served_first : (old at : ServedPlace) (after : Standing) (output : Option Bytes) → BeginsAt old at
    → OpensGroup at.standing at.standing.said after → IsLine (ok_text at.number)
    → Appends at.output output (ok_text at.number) → Served old (served_at after (at.number + 1) at.input output)
served_first old at after output begun opens one written =
    served_one old (served_at after (at.number + 1) at.input output) begun.line (ok_text at.number)
    (ap (λ n. n + 1) begun.number) begun.taken (answered_first old at after begun opens) one
    (subst (λ o. Appends o output (ok_text at.number)) begun.output written)

-- to the end of the input
pub end_on : (a b : ServedPlace) (output : Option Bytes) → Served a b → IsServed b output → IsServed a output
end_on a b output h k = (k.0, served_on a b k.0 h k.1, k.2)

pub all_served : (input old new : Option Bytes) → IsServed (beginning input old) new → HasServed input old new
all_served input old new h = record { end = h.0; served = h.1; whole = h.2.0; output = h.2.1 }

pub some_served : (input old new : Option Bytes) (mid : ServedPlace) → Served (beginning input old) mid
    → HasEnded mid new
    → HasServedSome input old new
some_served input old new mid h k = ended_on (beginning input old) mid new h k
