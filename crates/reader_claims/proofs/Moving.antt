-- Steps of one seat, one after another.
use Rattle.std.proofs.Common.{ℕ}
use Rattle.reader_claims.specs.declared.view.View.{View}
use Rattle.reader_claims.specs.Machine as machine
use Rattle.reader_claims.specs.Machine.{Move, Moves}

pub one_move : (v w : View) (i x y : ℕ) → Move v i x y w → Moves v w
one_move v w i x y m = machine.more v v w i x y (machine.still v) m

pub moves_moves : (v u w : View) → Moves v u → Moves u w → Moves v w
moves_moves v u w a (machine.still _) = a
moves_moves v u w a (machine.more _ t _ i x y b m) = machine.more v t w i x y (moves_moves v u t a b) m

pub three_moves : (v u w t : View) (i x y j z a k b c : ℕ) → Move v i x y u → Move u j z a w
    → Move w k b c t → Moves v t
three_moves v u w t i x y j z a k b c m n o = moves_moves v w t
    (moves_moves v u w (one_move v u i x y m) (one_move u w j z a n)) (one_move w t k b c o)

pub then_move : (v u w : View) (i x y : ℕ) → Moves v u → Move u i x y w → Moves v w
then_move v u w i x y a m = machine.more v u w i x y a m
