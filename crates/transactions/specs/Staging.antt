-- What is shown of placed chunks, or of a draft's.
use Rattle.group_history.specs.declared.nodes.Chunk.{Chunk}
use Rattle.group_history.specs.declared.refs.Ref.{Ref}
use Rattle.transactions.specs.declared.staged.HeldStaged.{HeldStaged}
use Rattle.transactions.specs.declared.staged.HeldStaged.TheVariants as held

-- the chunk itself
abbrev pub shown_in : {H : Type 0} → (H → Chunk Ref) → HeldStaged H → Chunk Ref
shown_in show (held.Placed h) = show h
shown_in show (held.Drafted c) = c.now
