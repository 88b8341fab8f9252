use Rattle.chunk_slots.specs.Inside.Blocks.{AreBlocks}
use Rattle.chunk_slots.proofs.blocks.row.Given as goal

abbrev pub invariant-loop-block : goal.invariant-loop-block
invariant-loop-block g l = record {
  row : AreBlocks (record { slots = l.slots; book = l.mark.book }) l.block l.all.items;
}
