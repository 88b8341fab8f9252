-- What a token shows.
use Rattle.std.specs.Prelude.{◌≡◌, [], Option, Some, None}
use Rattle.group_history.specs.declared.nodes.Chunk.TheVariants.{Leaf}
use Rattle.group_history.specs.declared.nodes.Node.TheVariants as node
use Rattle.head_word.specs.Marks.{Known}
use Rattle.chunk_slots.specs.Contents.{Content, IsDrawn}
use Rattle.chunk_slots.specs.declared.shown.Holds.{Holds}
use Rattle.chunk_slots.specs.declared.shown.Holds.TheVariants.{Claimed, Lent}

-- what stands for nothing
abbrev pub no_content : Content
no_content = record {
  stamp = 0;
  node = node.Chunk (Leaf []);
  mark = record { book = record { number = 0; log_name = 0; cells_name = 0 }; log = []; seat = None };
}

abbrev pub filled : Option Content → Content
filled None = no_content
filled (Some c) = c

abbrev pub claimed : Option (Option Content) → Content
claimed None = no_content
claimed (Some v) = filled v

-- the content of the slot that is claimed, or that is lent
abbrev pub showing : {M : Type 0} → Holds M → Content
showing (Claimed claim) = claimed claim.value
showing (Lent placed) = placed.now

-- a claim may read, and there is a value
abbrev pub IsReadable : {M : Type 0} → Holds M → Type 0
IsReadable (Claimed claim) = (claim.right ≡ 1) × ((c : Content) × (claim.value ≡ Some (Some c)))
IsReadable (Lent placed) = Unit {0}

-- and it is the content of its stamp; the mark is the one that was placed beside it
abbrev pub IsShowing : {M : Type 0} → Holds M → Known → Type 0
IsShowing holds mark = IsReadable holds × IsDrawn (showing holds) × (mark ≡ (showing holds).mark)
