-- A record with one change more.
use Rattle.std.proofs.Common.{◌≡◌, List, [], ◌∷◌, ◌++◌, refl}
use Rattle.group_history.specs.declared.changes.Change.{Change}
use Rattle.group_history.specs.Meaning.{Meanings}
use Rattle.group_history.specs.State.{State, opening}
use Rattle.group_history.specs.Record.{after_change, after_all, AllAccepted, IsAccepted, after, IsLegal}

after_all-append : (s : State) (cs ds : List Change) → after_all s (cs ++ ds) ≡ after_all (after_all s cs) ds
after_all-append s [] ds = refl
after_all-append s (c ∷ cs) ds = after_all-append (after_change s c) cs ds

-- the state after one more is the change's
pub after-push : (record_ : List Change) (c : Change) → after (record_ ++ c ∷ []) ≡ after_change (after record_) c
after-push record_ c = after_all-append opening record_ (c ∷ [])

all_accepted-push : (means : Meanings) (s : State) (cs : List Change) (c : Change) → AllAccepted means s cs
    → IsAccepted means (after_all s cs) c → AllAccepted means s (cs ++ c ∷ [])
all_accepted-push means s [] c all here = (here, tt)
all_accepted-push means s (d ∷ cs) c all here = (all.0, all_accepted-push means (after_change s d) cs c all.1 here)

-- a legal record stays legal with a change that is accepted after it
pub IsLegal-push : (means : Meanings) (record_ : List Change) (c : Change) → IsLegal means record_
    → IsAccepted means (after record_) c → IsLegal means (record_ ++ c ∷ [])
IsLegal-push means record_ c = all_accepted-push means opening record_ c

-- each beginning of a legal record is legal
pub IsLegal-front : (means : Meanings) (s : State) (cs ds : List Change) → AllAccepted means s (cs ++ ds)
    → AllAccepted means s cs
IsLegal-front means s [] ds all = tt
IsLegal-front means s (c ∷ cs) ds all = (all.0, IsLegal-front means (after_change s c) cs ds all.1)
