use Rattle.std.proofs.Common.{◌∙◌, ◌≡◌, ◌≢◌, ◌<◌, sym, ap, take, arith}
use Rattle.std.proofs.lemmas.Bool.{lt-ltb, le-ltb}
use Rattle.std.specs.Cmp.Lexicographic.{slice_cmp}
use Rattle.std.specs.Ordering.{is_gt, nat_cmp}
use Rattle.group_history.specs.Inside.Texts.{kept_bytes}
use Rattle.group_history.proofs.Fronts.{front-above}
use Rattle.group_history.proofs.texts.search_key.SearchKey.is_below.Goals as goal

pub returns-then-front-self : goal.returns-then-front-self
returns-then-front-self c =
    let short = c.in-Short.short in
    let sought = c.self.inside in
    let text : take short.len short.bytes ≡ c.args.text.now = ap kept_bytes (sym c.in-Short.is) ∙ c.text.view_is in
    let low : c.front-front.result < sought.front = omega (arith, c.if-front-self.true) in
    let apart : c.front-front.result ≢ sought.front = λ e. absurd (omega (arith, low, e)) in
    sym (le-ltb sought.front c.front-front.result (omega (arith, low)))
    ∙ front-above (take short.len short.bytes) sought.text.now c.front-front.result sought.front
    c.front-front.ensures.front sought.first c.front-front.ensures.bytes sought.bytes apart
    ∙ ap (λ w. is_gt (slice_cmp nat_cmp w sought.text.now)) text
    ∙ ap (λ w. is_gt (slice_cmp nat_cmp c.args.text.now w)) c.self.view_is

pub returns-then-self-front : goal.returns-then-self-front
returns-then-self-front c =
    let short = c.in-Short.short in
    let sought = c.self.inside in
    let text : take short.len short.bytes ≡ c.args.text.now = ap kept_bytes (sym c.in-Short.is) ∙ c.text.view_is in
    let high : sought.front < c.front-front.result = omega (arith, c.if-self-front.true) in
    let apart : c.front-front.result ≢ sought.front = λ e. absurd (omega (arith, high, e)) in
    sym (lt-ltb sought.front c.front-front.result high)
    ∙ front-above (take short.len short.bytes) sought.text.now c.front-front.result sought.front
    c.front-front.ensures.front sought.first c.front-front.ensures.bytes sought.bytes apart
    ∙ ap (λ w. is_gt (slice_cmp nat_cmp w sought.text.now)) text
    ∙ ap (λ w. is_gt (slice_cmp nat_cmp c.args.text.now w)) c.self.view_is
