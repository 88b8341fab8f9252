use Rattle.reader_claims.proofs.Lawful.{hold_law, learnt_law, open_law, given_law, held_law, retired_law, taken_law}
use Rattle.reader_claims.proofs.Lawful.{taker_law, epoch_law, live_law, step_law}
use Rattle.reader_claims.proofs.Bare.{bare_law}
use Rattle.reader_claims.proofs.laws.claims_law.Goals as goal

pub returns-clause-hold : goal.returns-clause-hold
returns-clause-hold c = hold_law

pub returns-clause-learnt : goal.returns-clause-learnt
returns-clause-learnt c = learnt_law

pub returns-clause-open_at : goal.returns-clause-open_at
returns-clause-open_at c = open_law

pub returns-clause-given : goal.returns-clause-given
returns-clause-given c = given_law

pub returns-clause-held : goal.returns-clause-held
returns-clause-held c = held_law

pub returns-clause-retired : goal.returns-clause-retired
returns-clause-retired c = retired_law

pub returns-clause-taken : goal.returns-clause-taken
returns-clause-taken c = taken_law

pub returns-clause-taker : goal.returns-clause-taker
returns-clause-taker c = taker_law

pub returns-clause-epoch : goal.returns-clause-epoch
returns-clause-epoch c = epoch_law

pub returns-clause-live : goal.returns-clause-live
returns-clause-live c = live_law

pub returns-clause-step : goal.returns-clause-step
returns-clause-step c = step_law

pub returns-clause-bare : goal.returns-clause-bare
returns-clause-bare c = bare_law
