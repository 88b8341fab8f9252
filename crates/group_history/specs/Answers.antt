-- What a call answers, beside the right answer.
use Rattle.std.specs.Prelude.{◌≡◌, Result, Ok, Err, ⊤}
use Rattle.group_history.specs.declared.refusals.Refusal.{Refusal}
use Rattle.group_history.specs.declared.refusals.Refusal.TheVariants.{NoMemory}

-- want of memory may come in place of any answer, every other refusal only where it is right
abbrev pub Refuses : {Y : Type 0} → Refusal → Result Y Refusal → Type 0
Refuses NoMemory right = ⊤
Refuses e right = right ≡ Err e

-- the call answers what is right, its value seen by view
abbrev pub AnswersSeen : {X Y : Type 0} → (X → Y) → Result X Refusal → Result Y Refusal → Type 0
AnswersSeen view (Ok x) right = right ≡ Ok (view x)
AnswersSeen view (Err e) right = Refuses e right

-- the call answers what is right
abbrev pub AnswersOrNoMemory : {X : Type 0} → Result X Refusal → Result X Refusal → Type 0
AnswersOrNoMemory (Ok x) right = right ≡ Ok x
AnswersOrNoMemory (Err e) right = Refuses e right

-- what follows, where there was no error; else the first one
infixl 10 ◌>>=◌
abbrev pub ◌>>=◌ : {A B E : Type 0} → Result A E → (A → Result B E) → Result B E
(Ok x) >>= f = f x
(Err e) >>= f = Err e
