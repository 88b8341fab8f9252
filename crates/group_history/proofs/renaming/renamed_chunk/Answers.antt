use Rattle.std.proofs.Common.{ap, sym, ◌∙◌, map}
use Rattle.group_history.specs.declared.nodes.Chunk.TheVariants as chunk
use Rattle.group_history.specs.Naming.{placed_ref, renamed_chunk}
use Rattle.group_history.specs.Rows.{paired, keys_of}
use Rattle.group_history.proofs.Pairs.{paired-map}
use Rattle.group_history.proofs.renaming.renamed_chunk.Goals as goal

pub returns-in-Inner : goal.returns-in-Inner
returns-in-Inner c = (
    let f = placed_ref c.args.from c.args.refs.now in
    let firsts = ap (λ ks. paired ks c.rename_all.result.items) c.into_parts-firsts.ensures.firsts in
    let children = ap (λ xs. paired (keys_of c.in-Inner.inner) xs)
    (c.rename_all.ensures ∙ ap (λ xs. map f xs) c.into_parts-firsts.ensures.children) in
    ap (λ kids. chunk.Inner kids) (c.new.ensures ∙ firsts ∙ children ∙ paired-map f c.in-Inner.inner) ∙ ap
    (λ k. renamed_chunk f k) (sym c.in-Inner.is)
    )
