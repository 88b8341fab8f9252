use Rattle.std.proofs.Common.{◌≡◌, ◌∙◌, ◌<◌, ℕ, zero, suc, true, List, [], ◌∷◌, Some, ap, arith, get_or, length, refl}
use Rattle.std.proofs.Common.{rules, set, subst, sym}
use Rattle.group_history.specs.Map.{Bytes}
use Rattle.group_history.specs.Rows.{keys_of, AreKeys}
use Rattle.map_chunks.proofs.AnswerLemmas.{if_ok_so}
use Rattle.map_chunks.specs.Search.{is_above}
use Rattle.map_nodes.proofs.GrownLemmas.{lowered_keys}
use Rattle.map_nodes.specs.Inside.Halves.{IsLower}
use Rattle.map_nodes.proofs.nodes.trails.laying.step_keys.Goals as goal

-- what is there doesn't hang on what stands for nothing
default : (xs : List Bytes) (i : ℕ) (d e : Bytes) → i < length xs → get_or xs i d ≡ get_or xs i e
default [] i d e l = absurd (omega (arith, l))
default (x ∷ xs) zero d e l = refl
default (x ∷ xs) (suc i) d e l = default xs i d e (omega (arith, l))

pub lowered_keys-requires-clause-filled : goal.lowered_keys-requires-clause-filled
lowered_keys-requires-clause-filled c =
    omega (arith, c.requires.place.0, ap length (c.in_ok-firsts.ensures.cases ∙ c.firsts.ensures.keys))

pub lowered_keys-requires-clause-keys : goal.lowered_keys-requires-clause-keys
lowered_keys-requires-clause-keys c =
    let ks = keys_of c.args.inner.now in
    let i = c.args.place in
    let key = c.args.down.now.key.now in
    let first = c.index-as_slice-0.result in
    let copy = c.in_ok-firsts.ensures.cases ∙ c.firsts.ensures.keys in
    let here = c.as_slice.ensures.keys ∙ c.deref.ensures ∙ copy in
    let none : i ≡ 0 = omega (arith, c.if-place-gt0.false) in
    let above : is_above first key ≡ true = search rules in
    let is : first ≡ get_or ks i [] = c.index-as_slice-0.is ∙ ap (λ w. get_or w 0 first) here
    ∙ ap (λ n. get_or ks n first) (sym none) ∙ default ks i first [] c.requires.place.0 in
    let low : IsLower key (get_or ks i []) (Some key) = (refl, subst (λ w. is_above w key ≡ true) is above) in
    subst AreKeys (sym (ap (λ w. set w 0 key) copy ∙ ap (λ n. set ks n key) (sym none)))
    (lowered_keys ks i key (Some key) c.requires.place low
    (subst AreKeys c.firsts.ensures.keys c.firsts.ensures.order))

pub returns : goal.returns
returns c =
    let ks = keys_of c.args.inner.now in
    let i = c.args.place in
    let key = c.args.down.now.key.now in
    let first = c.index-as_slice-0.result in
    let copy = c.in_ok-firsts.ensures.cases ∙ c.firsts.ensures.keys in
    let here = c.as_slice.ensures.keys ∙ c.deref.ensures ∙ copy in
    let none : i ≡ 0 = omega (arith, c.if-place-gt0.false) in
    let above : is_above first key ≡ true = search rules in
    let is : first ≡ get_or ks i [] = c.index-as_slice-0.is ∙ ap (λ w. get_or w 0 first) here
    ∙ ap (λ n. get_or ks n first) (sym none) ∙ default ks i first [] c.requires.place.0 in
    let low : IsLower key (get_or ks i []) (Some key) = (refl, subst (λ w. is_above w key ≡ true) is above) in
    let texts = ap (λ w. set w 0 key) copy ∙ ap (λ n. set ks n key) (sym none) in
    let order = lowered_keys ks i key (Some key) c.requires.place low
    (subst AreKeys c.firsts.ensures.keys c.firsts.ensures.order) in
    if_ok_so c.lowered_keys.result c.lowered_keys.ensures (λ keys made. (
      subst AreKeys (sym (made ∙ texts)) order,
      (Some key, low, made ∙ texts),
    ))
