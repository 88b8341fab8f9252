use Rattle.std.proofs.Common.{◌∙◌, ap, sym, subst, length, nat_cmp}
use Rattle.std.specs.Cmp.Lexicographic.{slice_cmp}
use Rattle.std.specs.FinMap.{put}
use Rattle.group_history.specs.Rows.{AreKeys, paired}
use Rattle.map_nodes.specs.Inside.Counts.{HasKept}
use Rattle.map_nodes.specs.Inside.Halves.{AreNinth}
use Rattle.map_nodes.specs.Inside.Puts.{IsLeafPut}
use Rattle.map_nodes.specs.Inside.Ready.{HasRoom}
use Rattle.map_nodes.specs.Nodes.{row_pieces}
use Rattle.map_chunks.specs.Search.{IsAbsent}
use Rattle.map_nodes.proofs.nodes.putting.leaves.insert_row.Goals as goal

pub settle_row-requires-clause-keys : goal.settle_row-requires-clause-keys
settle_row-requires-clause-keys c = subst AreKeys (sym c.make_room.ensures.keys) c.requires.keys

pub settle_row-requires-clause-pairs : goal.settle_row-requires-clause-pairs
settle_row-requires-clause-pairs c = ap length c.make_room.ensures.entries ∙ c.requires.pairs ∙ sym
    (ap length c.make_room.ensures.keys)

pub settle_row-requires-clause-absent : goal.settle_row-requires-clause-absent
settle_row-requires-clause-absent c =
    subst (λ ks. IsAbsent c.in_ok-key.key ks c.args.place) (sym c.make_room.ensures.keys)
    (subst (λ k. IsAbsent k c.args.keys.now.texts c.args.place) (sym c.in_ok-key.ensures.cases) c.requires.absent)

pub settle_row-requires-clause-spare : goal.settle_row-requires-clause-spare
settle_row-requires-clause-spare c =
    subst (λ n. HasRoom n c.in_ok-room.room) (ap length (c.as_slice.ensures ∙ sym c.make_room.ensures.keys))
    c.in_ok-room.ensures.room

pub returns-clause-rows : goal.returns-clause-rows
returns-clause-rows c =
    c.settle_row.ensures.rows
    ∙ ap (λ k. row_pieces (put (slice_cmp nat_cmp) k c.args.value
    (paired c.make_room.new.keys.texts c.make_room.new.entries.items))) c.in_ok-key.ensures.cases
    ∙ ap (λ ks. row_pieces (put (slice_cmp nat_cmp) c.args.put.key.now c.args.value
    (paired ks c.make_room.new.entries.items))) c.make_room.ensures.keys
    ∙ ap (λ vs. row_pieces (put (slice_cmp nat_cmp) c.args.put.key.now c.args.value (paired c.args.keys.now.texts vs)))
    c.make_room.ensures.entries

pub returns-clause-entries : goal.returns-clause-entries
returns-clause-entries c = subst (λ n. HasKept n (length c.settle_row.new.keys.texts) c.settle_row.result)
    (ap length c.make_room.ensures.keys) c.settle_row.ensures.entries

pub returns-clause-half : goal.returns-clause-half
returns-clause-half c =
    c.settle_row.ensures.half c.args.put.copies
    (subst (λ ks. AreNinth c.args.put.copies ks c.args.place c.in_ok-key.key c.in_ok-room.room.firsts.items)
    (c.as_slice.ensures ∙ sym c.make_room.ensures.keys)
    (subst (λ k. AreNinth c.args.put.copies c.as_slice.result.now c.args.place k c.in_ok-room.room.firsts.items)
    (sym c.in_ok-key.ensures.cases) c.in_ok-room.ensures.firsts))

pub returns-clause-keys : goal.returns-clause-keys
returns-clause-keys c = subst (λ ks. IsLeafPut ks c.settle_row.new.keys.texts c.settle_row.result)
    c.make_room.ensures.keys c.settle_row.ensures.keys
