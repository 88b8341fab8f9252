use Rattle.std.proofs.Common.{◌≡◌, ◌++◌, List, ap, length, ◌∙◌}
use Rattle.group_history.specs.Map.{Bytes}
use Rattle.group_history.specs.Rows.{Rows, paired, keys_of, values_of}
use Rattle.group_history.proofs.Pairs.{paired-parts}
use Rattle.map_chunks.specs.Scanning.{left, taken}
use Rattle.transactions.specs.Rescans.{SoFar}
use Rattle.transactions.proofs.rescan.Rescan.take_leaf.Goals as goal

-- a leaf's keys and values side by side
leaf_pairs : (leaf : Rows) (keys values : List Bytes) → keys ≡ keys_of leaf → values ≡ values_of leaf
    → paired keys values ≡ leaf
leaf_pairs leaf keys values k v =
    ap (λ w. paired w values) k ∙ ap (paired (keys_of leaf)) v ∙ paired-parts leaf

pub returns-clause-rows : goal.returns-clause-rows
returns-clause-rows g c =
    let leaf = c.args.leaf.now in let scan = c.args.scan.now in let old = c.args.self.now.rows in
    let pairs = leaf_pairs leaf c.as_slice.result.now c.values.result.now
    (c.as_slice.ensures.keys ∙ c.deref.ensures ∙ c.keys.ensures.keys) c.values.ensures in
    c.in_ok-left.ensures.rows old (ap (λ (f : SoFar). f.rows) c.self.view_is)
    ∙ ap (λ (w : Rows). old ++ taken scan c.self.inside.room w) pairs
    ∙ ap (λ (f : SoFar). old ++ taken scan f.room leaf) c.self.view_is

pub returns-clause-room : goal.returns-clause-room
returns-clause-room g c =
    let leaf = c.args.leaf.now in let scan = c.args.scan.now in
    let pairs = leaf_pairs leaf c.as_slice.result.now c.values.result.now
    (c.as_slice.ensures.keys ∙ c.deref.ensures ∙ c.keys.ensures.keys) c.values.ensures in
    c.in_ok-left.ensures.room
    ∙ ap (λ (w : Rows). left c.self.inside.room (length (taken scan c.self.inside.room w))) pairs
    ∙ ap (λ (f : SoFar). left f.room (length (taken scan f.room leaf))) c.self.view_is
