use Rattle.std.proofs.Common.{◌≡◌, take, length}
use Rattle.group_history.proofs.texts.is_word.Given as goal

abbrev pub invariant-bytes : goal.invariant-bytes
invariant-bytes g l = record { same : take l.i l.text ≡ take l.i l.word; long : length l.text ≡ length l.word }
