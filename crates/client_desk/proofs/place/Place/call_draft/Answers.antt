use Rattle.std.proofs.Common.{inr, sym, subst}
use Rattle.client_desk.specs.Drafts.{AnswersDraft}
use Rattle.client_desk.specs.Told.{told}
use Rattle.client_desk.proofs.place.Place.call_draft.Goals as goal

pub returns-in-DraftPut : goal.returns-in-DraftPut
returns-in-DraftPut g c =
    inr (subst (λ bytes. AnswersDraft c.args.call c.args.self.now (told c.draft_put.result bytes) c.draft_put.new.self)
    (sym c.requires) (rw c.in-DraftPut.is c.draft_put.ensures))

pub returns-in-DraftDel : goal.returns-in-DraftDel
returns-in-DraftDel g c =
    inr (subst (λ bytes. AnswersDraft c.args.call c.args.self.now (told c.draft_del.result bytes) c.draft_del.new.self)
    (sym c.requires) (rw c.in-DraftDel.is c.draft_del.ensures))

pub returns-in-DraftWrites : goal.returns-in-DraftWrites
returns-in-DraftWrites g c =
    inr (subst (λ bytes. AnswersDraft c.args.call c.args.self.now (told c.draft_writes.result bytes)
    c.draft_writes.new.self) (sym c.requires) (rw c.in-DraftWrites.is c.draft_writes.ensures))
