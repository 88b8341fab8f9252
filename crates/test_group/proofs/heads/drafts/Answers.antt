use Rattle.std.proofs.Common.{[], ◌∷◌, refl, ap}
use Rattle.head_word.specs.Books.{drafted_from}
use Rattle.test_group.proofs.FirstPulls.{bare_drawn}
use Rattle.test_group.proofs.heads.drafts.Goals as goal

pub returns-clause-drawn : goal.returns-clause-drawn
returns-clause-drawn c =
    bare_drawn c.draft.result c.args.mark.now.log c.draft.new.mark.log c.args.mark.now.seat c.args.cookie.now
    (record { bits = 7 }) (drafted_from 2 (c.in_ok-snapshot_at_first.field-0 ∷ [])) c.legal.ensures.opened.1 refl
    (ap (λ n. drafted_from 2 (n ∷ [])) c.in_ok-snapshot_at_first.ensures) c.draft.ensures.drawn c.draft.ensures.room
