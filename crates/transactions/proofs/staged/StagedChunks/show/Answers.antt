use Rattle.std.proofs.Common.{◌<◌, ◌≤◌, Some, length, ap, sym, subst, ◌∙◌, arith}
use Rattle.std.specs.Option.{option_copied}
use Rattle.std.proofs.lemmas.Bool.Decides.{nat_tests}
use Rattle.group_history.specs.Refs.{stamp_of}
use Rattle.map_chunks.specs.Places.{with_nodes}
use Rattle.transactions.proofs.StagedLemmas.{front_spells, front_content, back_content, no_commit, no_nothing}
use Rattle.transactions.proofs.staged.StagedChunks.show.Goals as goal

pub show-requires-clause-known : goal.show-requires-clause-known
show-requires-clause-known g c =
    let known = g.K.NamesContents.known in let self = c.args.self.now in
    let less : c.stamp-stamp.result < c.first.result = grind (arith, nat_tests, c.if-stamp-first.true) in
    let low : stamp_of c.args.at < length known = omega
    (arith, less, c.stamp-stamp.ensures.stamp, c.first.ensures, self.behind) in
    front_spells known self.draft.now.nodes (stamp_of c.args.at) low c.requires.known

pub returns-then-stamp-first-clause-content : goal.returns-then-stamp-first-clause-content
returns-then-stamp-first-clause-content g c =
    let known = g.K.NamesContents.known in let self = c.args.self.now in
    let less : c.stamp-stamp.result < c.first.result = grind (arith, nat_tests, c.if-stamp-first.true) in
    let low : stamp_of c.args.at < length known = omega
    (arith, less, c.stamp-stamp.ensures.stamp, c.first.ensures, self.behind) in
    front_content known self.draft.now.nodes (stamp_of c.args.at) _ low c.in_ok-held.ensures.content

pub returns-in-Some-Chunk-clause-content : goal.returns-in-Some-Chunk-clause-content
returns-in-Some-Chunk-clause-content g c =
    let self = c.args.self.now in
    let high : c.first.result ≤ c.stamp-stamp.result = grind (arith, nat_tests, c.if-stamp-first.false) in
    back_content g.K.NamesContents.known self.draft.now.nodes self.draft.now.first c.stamp-stamp.result
    (stamp_of c.args.at) _ self.behind c.stamp-stamp.ensures.stamp
    (subst (λ n. n ≤ c.stamp-stamp.result) c.first.ensures high)
    (sym (ap option_copied c.in-Some-Chunk.is ∙ ap (λ n. Some n) c.in-Some-Chunk.field-0-is) ∙ c.drafted.ensures)

pub unreachable-requires : goal.unreachable-requires
unreachable-requires g c =
    let known = g.K.NamesContents.known in let self = c.args.self.now in
    let high : c.first.result ≤ c.stamp-stamp.result = grind (arith, nat_tests, c.if-stamp-first.false) in
    no_commit (with_nodes known self.draft.now.nodes) (stamp_of c.args.at) c.in-Some-Commit.field-0-0 c.requires.known
    (back_content known self.draft.now.nodes self.draft.now.first c.stamp-stamp.result
    (stamp_of c.args.at) _ self.behind c.stamp-stamp.ensures.stamp
    (subst (λ n. n ≤ c.stamp-stamp.result) c.first.ensures high)
    (sym (ap option_copied c.in-Some-Commit.is ∙ ap (λ n. Some n) c.in-Some-Commit.field-0-is) ∙ c.drafted.ensures))

pub unreachable-requires-in-None : goal.unreachable-requires-in-None
unreachable-requires-in-None g c =
    let known = g.K.NamesContents.known in let self = c.args.self.now in
    let high : c.first.result ≤ c.stamp-stamp.result = grind (arith, nat_tests, c.if-stamp-first.false) in
    no_nothing (with_nodes known self.draft.now.nodes) (stamp_of c.args.at) c.requires.known
    (back_content known self.draft.now.nodes self.draft.now.first c.stamp-stamp.result
    (stamp_of c.args.at) _ self.behind c.stamp-stamp.ensures.stamp
    (subst (λ n. n ≤ c.stamp-stamp.result) c.first.ensures high)
    (sym (ap option_copied c.in-None.is) ∙ c.drafted.ensures))
