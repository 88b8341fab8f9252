use Rattle.std.proofs.Common.{◌∙◌, ◌++◌, arith, [], ap, sym, subst, length, insert, Some, None, append-nil, get_or}
use Rattle.std.proofs.Common.{refl, nat_cmp}
use Rattle.std.specs.Cmp.Lexicographic.{slice_cmp}
use Rattle.std.specs.FinMap.{put}
use Rattle.group_history.specs.Rows.{paired}
use Rattle.map_nodes.specs.Nodes.{row_pieces, HeadIs}
use Rattle.map_chunks.specs.Shown.{Seen}
use Rattle.map_nodes.proofs.CountLemmas.{kept_alone, kept_halves, rows_put}
use Rattle.map_nodes.proofs.LeafLemmas.{parted_put, leaf_halves, leaf_whole}
use Rattle.map_nodes.proofs.PutLevels.{leaf_halved, leaf_more}
use Rattle.map_nodes.proofs.nodes.putting.leaves.settle_row.Goals as goal

pub returns-in_default-clause-rows : goal.returns-in_default-clause-rows
returns-in_default-clause-rows c =
    let keys = c.args.keys.now.texts in
    let values = c.args.values.now.items in
    let h = parted_put keys values c.args.place c.args.row.0 c.args.row.1 c.insert_entry.new.keys.texts
    c.insert_entry.new.entries.items None c.requires.keys.1 c.requires.pairs c.requires.absent
    c.in_default.ensures in
    append-nil (row_pieces (paired c.insert_entry.new.keys.texts c.insert_entry.new.entries.items)) ∙ ap
    row_pieces h.0.0

pub returns-in_default-clause-leaf : goal.returns-in_default-clause-leaf
returns-in_default-clause-leaf c =
    let keys = c.args.keys.now.texts in
    let values = c.args.values.now.items in
    let h = parted_put keys values c.args.place c.args.row.0 c.args.row.1 c.insert_entry.new.keys.texts
    c.insert_entry.new.entries.items None c.requires.keys.1 c.requires.pairs c.requires.absent
    c.in_default.ensures in
    leaf_whole keys values c.insert_entry.new.keys.texts c.insert_entry.new.entries.items c.args.place c.args.row.0
    c.args.row.1 c.requires.keys.1 c.requires.pairs c.requires.absent h

pub returns-in_default-clause-entries : goal.returns-in_default-clause-entries
returns-in_default-clause-entries c =
    let keys = c.args.keys.now.texts in
    let values = c.args.values.now.items in
    let h = parted_put keys values c.args.place c.args.row.0 c.args.row.1 c.insert_entry.new.keys.texts
    c.insert_entry.new.entries.items None c.requires.keys.1 c.requires.pairs c.requires.absent
    c.in_default.ensures in
    kept_alone (put (slice_cmp nat_cmp) c.args.row.0 c.args.row.1 (paired keys values)) c.insert_entry.new.keys.texts
    c.insert_entry.new.entries.items (length keys) h
    (rows_put keys values c.args.place c.args.row.0 c.args.row.1 c.requires.keys.1 c.requires.pairs c.requires.absent)

pub invariant_of-upper : goal.invariant_of-upper
invariant_of-upper c =
    let keys = c.args.keys.now.texts in
    let values = c.args.values.now.items in
    let h = parted_put keys values c.args.place c.args.row.0 c.args.row.1 c.insert_entry.new.keys.texts
    c.insert_entry.new.entries.items
    (Some (c.in-Some.upper_keys.texts, c.in-Some.upper.items)) c.requires.keys.1 c.requires.pairs c.requires.absent
    c.in-Some.ensures in
    let b = leaf_halves keys values c.insert_entry.new.keys.texts c.insert_entry.new.entries.items
    c.in-Some.upper_keys.texts c.in-Some.upper.items c.args.place c.args.row.0 c.args.row.1 c.requires.keys.1
    c.requires.pairs c.requires.absent h in
    (b.right.0, (refl, b.right.1))

pub housed-requires : goal.housed-requires
housed-requires c =
    let keys = c.args.keys.now.texts in
    let values = c.args.values.now.items in
    let h = parted_put keys values c.args.place c.args.row.0 c.args.row.1 c.insert_entry.new.keys.texts
    c.insert_entry.new.entries.items
    (Some (c.in-Some.upper_keys.texts, c.in-Some.upper.items)) c.requires.keys.1 c.requires.pairs c.requires.absent
    c.in-Some.ensures in
    let b = leaf_halves keys values c.insert_entry.new.keys.texts c.insert_entry.new.entries.items
    c.in-Some.upper_keys.texts c.in-Some.upper.items c.args.place c.args.row.0 c.args.row.1 c.requires.keys.1
    c.requires.pairs c.requires.absent h in
    c.requires.spare.home (omega (arith, b.full))

pub returns-clause-rows : goal.returns-clause-rows
returns-clause-rows c =
    let keys = c.args.keys.now.texts in
    let values = c.args.values.now.items in
    let h = parted_put keys values c.args.place c.args.row.0 c.args.row.1 c.insert_entry.new.keys.texts
    c.insert_entry.new.entries.items
    (Some (c.in-Some.upper_keys.texts, c.in-Some.upper.items)) c.requires.keys.1 c.requires.pairs c.requires.absent
    c.in-Some.ensures in
    let b = leaf_halves keys values c.insert_entry.new.keys.texts c.insert_entry.new.entries.items
    c.in-Some.upper_keys.texts c.in-Some.upper.items c.args.place c.args.row.0 c.args.row.1 c.requires.keys.1
    c.requires.pairs c.requires.absent h in
    ap (λ (s : Seen). row_pieces (paired c.insert_entry.new.keys.texts c.insert_entry.new.entries.items) ++ s.pieces)
    c.housed.ensures ∙ b.pieces

pub returns-clause-half : goal.returns-clause-half
returns-clause-half c copies firsts =
    let keys = c.args.keys.now.texts in
    let values = c.args.values.now.items in
    let h = parted_put keys values c.args.place c.args.row.0 c.args.row.1 c.insert_entry.new.keys.texts
    c.insert_entry.new.entries.items
    (Some (c.in-Some.upper_keys.texts, c.in-Some.upper.items)) c.requires.keys.1 c.requires.pairs c.requires.absent
    c.in-Some.ensures in
    let b = leaf_halves keys values c.insert_entry.new.keys.texts c.insert_entry.new.entries.items
    c.in-Some.upper_keys.texts c.in-Some.upper.items c.args.place c.args.row.0 c.args.row.1 c.requires.keys.1
    c.requires.pairs c.requires.absent h in
    let ninth = get_or (insert keys c.args.place c.args.row.0) 8 [] in (
      ap (λ (s : Seen). s.depth) c.housed.ensures,
      (
        ninth,
        subst (λ (s : Seen). HeadIs ninth s.pieces) (sym c.housed.ensures) b.first,
        firsts b.full c.args.row.0 (λ e. refl),
      ),
    )

pub returns-clause-leaf : goal.returns-clause-leaf
returns-clause-leaf c =
    let keys = c.args.keys.now.texts in
    let values = c.args.values.now.items in
    let h = parted_put keys values c.args.place c.args.row.0 c.args.row.1 c.insert_entry.new.keys.texts
    c.insert_entry.new.entries.items
    (Some (c.in-Some.upper_keys.texts, c.in-Some.upper.items)) c.requires.keys.1 c.requires.pairs c.requires.absent
    c.in-Some.ensures in
    let b = leaf_halves keys values c.insert_entry.new.keys.texts c.insert_entry.new.entries.items
    c.in-Some.upper_keys.texts c.in-Some.upper.items c.args.place c.args.row.0 c.args.row.1 c.requires.keys.1
    c.requires.pairs c.requires.absent h in
    b.left

pub returns-clause-entries : goal.returns-clause-entries
returns-clause-entries c =
    let keys = c.args.keys.now.texts in
    let values = c.args.values.now.items in
    let h = parted_put keys values c.args.place c.args.row.0 c.args.row.1 c.insert_entry.new.keys.texts
    c.insert_entry.new.entries.items
    (Some (c.in-Some.upper_keys.texts, c.in-Some.upper.items)) c.requires.keys.1 c.requires.pairs c.requires.absent
    c.in-Some.ensures in
    let k = kept_halves (put (slice_cmp nat_cmp) c.args.row.0 c.args.row.1 (paired keys values))
    c.insert_entry.new.keys.texts c.insert_entry.new.entries.items c.in-Some.upper_keys.texts
    c.in-Some.upper.items (length keys) h
    (rows_put keys values c.args.place c.args.row.0 c.args.row.1 c.requires.keys.1 c.requires.pairs
    c.requires.absent) in
    (k.0, k.1, ap (λ (s : Seen). s.entries) c.housed.ensures ∙ k.2)

pub returns-in_default-clause-keys : goal.returns-in_default-clause-keys
returns-in_default-clause-keys c = leaf_more c.args.keys.now.texts c.args.values.now.items c.args.place c.args.row.0
    c.args.row.1 c.insert_entry.new.keys.texts c.insert_entry.new.entries.items c.requires.pairs c.requires.absent.0.0
    c.in_default.ensures

pub returns-clause-keys : goal.returns-clause-keys
returns-clause-keys c = leaf_halved c.args.keys.now.texts c.args.values.now.items c.args.place c.args.row.0 c.args.row.1
    c.insert_entry.new.keys.texts c.insert_entry.new.entries.items c.in-Some.upper_keys.texts c.in-Some.upper.items _
    c.requires.pairs c.requires.absent.0.0 c.in-Some.ensures (ap (λ (s : Seen). s.marks) c.housed.ensures)

pub insert_entry-requires-clause-spare_keys : goal.insert_entry-requires-clause-spare_keys
insert_entry-requires-clause-spare_keys c = c.requires.spare.empty.0

pub insert_entry-requires-clause-spare_entries : goal.insert_entry-requires-clause-spare_entries
insert_entry-requires-clause-spare_entries c = c.requires.spare.empty.1

pub insert_entry-requires-clause-spare_room : goal.insert_entry-requires-clause-spare_room
insert_entry-requires-clause-spare_room c full = c.requires.spare.spare full
