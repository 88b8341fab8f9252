use Rattle.std.proofs.Common.{◌≡◌, ℕ, Result, Ok, Err, IfOk, IfErr, is_ok, is_some, nat_cmp, sym, ap, ◌∙◌}
use Rattle.std.specs.Cmp.Lexicographic.{slice_cmp}
use Rattle.std.specs.FinMap as finite
use Rattle.group_history.specs.Rows.{paired}
use Rattle.map_chunks.specs.Search.{IsFound, IsAbsent}
use Rattle.map_chunks.proofs.SearchLemmas.{found_in, absent_in, find-found, find-absent}
use Rattle.map_chunks.proofs.search.has_key.Goals as goal

pub returns : goal.returns
returns c values same =
    c.is_ok.ensures.value ∙ by c.search_for.result c.search_for.ensures.found c.search_for.ensures.absent
  where
    by : (r : Result ℕ ℕ) → IfOk r (IsFound c.args.key.now c.args.keys.now)
        → IfErr r (IsAbsent c.args.key.now c.args.keys.now)
        → is_ok r ≡ is_some (finite.find (slice_cmp nat_cmp) c.args.key.now (paired c.args.keys.now values))
    by (Ok i) f a = sym (ap is_some (find-found c.args.key.now (paired c.args.keys.now values) i
        (found_in c.args.key.now c.args.keys.now values i c.requires.order same f)))
    by (Err i) f a = sym (ap is_some (find-absent c.args.key.now (paired c.args.keys.now values) i
        (absent_in c.args.key.now c.args.keys.now values i c.requires.order same a)))
