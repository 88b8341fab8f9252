use Rattle.std.proofs.Common.{◌∙◌, sym, ap}
use Rattle.std.specs.Cmp.Lexicographic.{slice_cmp}
use Rattle.std.specs.Ordering.{nat_cmp}
use Rattle.group_history.proofs.Fronts.{front-decides, short-decides}
use Rattle.group_history.proofs.texts.search_key.SearchKey.order_by.Goals as goal

pub returns-then-is_ne : goal.returns-then-is_ne
returns-then-is_ne c =
    let sought = c.self.inside in
    front-decides c.args.text.now sought.text.now c.args.front sought.front c.cmp-order.result
    c.requires.front sought.first c.requires.bytes sought.bytes c.cmp-order.ensures
    (sym c.is_ne.ensures ∙ c.if-is_ne.true)
    ∙ ap (slice_cmp nat_cmp c.args.text.now) c.self.view_is

pub returns-then-own-le16 : goal.returns-then-own-le16
returns-then-own-le16 c =
    let sought = c.self.inside in
    c.cmp.ensures
    ∙ short-decides c.args.text.now sought.text.now c.args.front sought.front c.cmp-order.result
    c.requires.front sought.first c.requires.bytes sought.bytes c.cmp-order.ensures
    (sym c.is_ne.ensures ∙ c.if-is_ne.false) c.if-len-le16.true c.if-own-le16.true
    ∙ ap (slice_cmp nat_cmp c.args.text.now) c.self.view_is
