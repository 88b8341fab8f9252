use Rattle.std.proofs.Common.{arith, insert, is_ok}
use Rattle.group_history.specs.Rows.{paired}
use Rattle.map_chunks.proofs.ListLemmas.{inserted, cut_pairs, succeeded}
use Rattle.map_chunks.proofs.entries.insert_entry.Goals as goal

pub returns-then-len-le-MOST : goal.returns-then-len-le-MOST
returns-then-len-le-MOST g c =
    let i = succeeded (is_ok c.insert-2.result) _ _ _
    (c.insert-2.ensures.succeeds c.requires.room.1) c.insert-2.ensures.items in
    let s = inserted c.args.keys.now.texts c.args.entries.now.items c.args.place c.args.added.0 c.args.added.1
    c.insert.new.self.texts c.insert-2.new.self.items c.requires.pairs c.requires.within c.insert.ensures.texts i in
    ((s.pairs, s.same), omega (arith, s.whole, c.len.ensures, c.insert-2.new.self.ok.0))

pub returns : goal.returns
returns g c =
    let i = succeeded (is_ok c.insert-2.result) _ _ _
    (c.insert-2.ensures.succeeds c.requires.room.1) c.insert-2.ensures.items in
    let s = inserted c.args.keys.now.texts c.args.entries.now.items c.args.place c.args.added.0 c.args.added.1
    c.insert.new.self.texts c.insert-2.new.self.items c.requires.pairs c.requires.within c.insert.ensures.texts i in
    let h = cut_pairs (insert (paired c.args.keys.now.texts c.args.entries.now.items) c.args.place
    (c.args.added.0, c.args.added.1)) c.insert.new.self.texts c.insert-2.new.self.items
    c.split-upper_keys.new.self.texts c.split-upper_keys.result.texts c.move_tail.new.left.items
    c.move_tail.new.right.items s.pairs s.same
    c.split-upper_keys.ensures.left c.split-upper_keys.ensures.right c.move_tail.ensures.left
    c.move_tail.ensures.right in
    (h.0, h.1, omega (arith, s.whole, s.more, c.requires.few, c.len.ensures, c.insert-2.new.self.ok.0))
