-- Rows of what is ahead.
use Rattle.std.proofs.Common.{◌≡◌, ◌<◌, ◌≤◌, ℕ, zero, suc, ◌+◌, inl, inr, List, [], ◌∷◌, ◌++◌, length, take, replicate}
use Rattle.std.proofs.Common.{get_or, Option, Some, None, refl, ap, sym, subst, ◌∙◌, arith}
use Rattle.std.specs.Prelude.{IfSome, IsTrue, slice_set}
use Rattle.std.specs.Option.{is_some}
use Rattle.std.specs.List.{Contains}
use Rattle.std.proofs.lemmas.List.{append-nil, take_all}
use Rattle.std.proofs.lemmas.List.Elements.{Contains-append_cases, Contains-append_left, Contains-append_right}
use Rattle.group_history.proofs.Lists.{cons_cases, first_here, later_here, no_element, one_here, only_one}
use Rattle.commit_graph.specs.declared.founds.NamedNode.{NamedNode}
use Rattle.commit_graph.specs.Inside.Chains.{listed}
use Rattle.commit_graph.specs.Inside.Reach.{Joins, StandFrom, row_nodes, stamp_in}

-- places without a node
pub none_nodes : (n : ℕ) → row_nodes (replicate n None) ≡ []
none_nodes zero = refl
none_nodes (suc n) = none_nodes n

pub none_stand : (low n : ℕ) → StandFrom low (replicate n None)
none_stand low zero = tt
none_stand low (suc n) = (tt, none_stand (suc low) n)

pub nodes_append : (xs ys : List (Option NamedNode)) → row_nodes (xs ++ ys) ≡ row_nodes xs ++ row_nodes ys
nodes_append [] ys = refl
nodes_append (None ∷ xs) ys = nodes_append xs ys
nodes_append (Some f ∷ xs) ys = ap (λ (w : List NamedNode). f ∷ w) (nodes_append xs ys)

alone : (o : Option NamedNode) → row_nodes (o ∷ []) ≡ listed o
alone None = refl
alone (Some f) = refl

-- what stands in a row bears a stamp of its places
pub stamp_low : (low : ℕ) (xs : List (Option NamedNode)) → StandFrom low xs → (f : NamedNode)
    → Contains (row_nodes xs) f → low ≤ stamp_in f
stamp_low low [] is f h = absurd (no_element f h)
stamp_low low (None ∷ xs) is f h = let more = stamp_low (suc low) xs is.1 f h in omega (arith, more)
stamp_low low (Some g ∷ xs) is f h = elim (cons_cases g (row_nodes xs) f h) [
  | inl e ↦ (let at : stamp_in f ≡ low = ap stamp_in (sym e) ∙ is.0 in omega (arith, at))
  | inr p ↦ (let more = stamp_low (suc low) xs is.1 f p in omega (arith, more))
]

pub stamp_high : (low : ℕ) (xs : List (Option NamedNode)) → StandFrom low xs → (f : NamedNode)
    → Contains (row_nodes xs) f → stamp_in f < low + length xs
stamp_high low [] is f h = absurd (no_element f h)
stamp_high low (None ∷ xs) is f h = let more = stamp_high (suc low) xs is.1 f h in omega (arith, more)
stamp_high low (Some g ∷ xs) is f h = elim (cons_cases g (row_nodes xs) f h) [
  | inl e ↦ (let at : stamp_in f ≡ low = ap stamp_in (sym e) ∙ is.0 in omega (arith, at))
  | inr p ↦ (let more = stamp_high (suc low) xs is.1 f p in omega (arith, more))
]

-- one more place, behind all others
pub stand_behind : (low : ℕ) (xs : List (Option NamedNode)) (o : Option NamedNode) → StandFrom low xs
    → IfSome o (λ f. stamp_in f ≡ low + length xs) → StandFrom low (xs ++ o ∷ [])
stand_behind low [] None is at = (tt, tt)
stand_behind low [] (Some f) is at = (omega (arith, at), tt)
stand_behind low (p ∷ xs) None is at = (is.0, stand_behind (suc low) xs None is.1 tt)
stand_behind low (p ∷ xs) (Some f) is at = (is.0, stand_behind (suc low) xs (Some f) is.1 (omega (arith, at)))

pub stand_before : (low : ℕ) (xs : List (Option NamedNode)) (o : Option NamedNode) → StandFrom low (xs ++ o ∷ [])
    → StandFrom low xs × IfSome o (λ f. stamp_in f ≡ low + length xs)
stand_before low [] None is = (tt, tt)
stand_before low [] (Some f) is = (tt, omega (arith, is.0))
stand_before low (p ∷ xs) None is = ((is.0, (stand_before (suc low) xs None is.1).0), tt)
stand_before low (p ∷ xs) (Some f) is = let more = stand_before (suc low) xs (Some f) is.1 in
    ((is.0, more.0), omega (arith, more.1))

pub joins_behind : (a : List NamedNode) (f : NamedNode) → Joins a (f ∷ []) (a ++ f ∷ [])
joins_behind a f = record {
  from = λ g h. elim (Contains-append_cases a (f ∷ []) g h) [ inl p ↦ inl p | inr q ↦ inr q ];
  kept = λ g h. (g, Contains-append_left a (f ∷ []) g h, refl);
  added = λ g h. (g, Contains-append_right a (f ∷ []) g h, refl);
}

-- what stands in one more place joins the others
joins_later : (o : Option NamedNode) (a b xs : List NamedNode) → Joins a xs b → Joins (listed o ++ a) xs (listed o ++ b)
joins_later o a b xs is = record {
  from = λ g h. elim (Contains-append_cases (listed o) b g h) [
    | inl p ↦ inl (Contains-append_left (listed o) a g p)
    | inr q ↦ elim (is.from g q) [ inl i ↦ inl (Contains-append_right (listed o) a g i) | inr j ↦ inr j ]
  ];
  kept = λ g h. elim (Contains-append_cases (listed o) a g h) [
    | inl p ↦ (g, Contains-append_left (listed o) b g p, refl)
    | inr q ↦ (let k = is.kept g q in (k.0, Contains-append_right (listed o) b k.0 k.1, k.2))
  ];
  added = λ g h. (let k = is.added g h in (k.0, Contains-append_right (listed o) b k.0 k.1, k.2));
}

-- a node takes the place of one of its stamp
joins_here : (low : ℕ) (o : Option NamedNode) (a : List NamedNode) (f : NamedNode) → IfSome o (λ g. stamp_in g ≡ low)
    → stamp_in f ≡ low → Joins (listed o ++ a) (f ∷ []) (f ∷ a)
joins_here low None a f is at = record {
  from = λ g h. elim (cons_cases f a g h)
      [ inl e ↦ inr (subst (λ (w : NamedNode). Contains (f ∷ []) w) e (one_here f)) | inr p ↦ inl p ];
  kept = λ g h. (g, later_here f a g h, refl);
  added = λ g h. (f, first_here f a, ap stamp_in (only_one f g h));
}
joins_here low (Some o) a f is at = record {
  from = λ g h. elim (cons_cases f a g h) [
    | inl e ↦ inr (subst (λ (w : NamedNode). Contains (f ∷ []) w) e (one_here f))
    | inr p ↦ inl (later_here o a g p)
  ];
  kept = λ g h. elim (cons_cases o a g h) [
    | inl e ↦ (f, first_here f a, at ∙ (sym is ∙ ap stamp_in e))
    | inr p ↦ (g, later_here f a g p, refl)
  ];
  added = λ g h. (f, first_here f a, ap stamp_in (only_one f g h));
}

pub placed : (low : ℕ) (xs : List (Option NamedNode)) (i : ℕ) (f : NamedNode) → StandFrom low xs → i < length xs
    → stamp_in f ≡ low + i
    → StandFrom low (slice_set xs i (Some f)) × Joins (row_nodes xs) (f ∷ []) (row_nodes (slice_set xs i (Some f)))
placed low [] i f is inside at = absurd (omega (arith, inside))
placed low (o ∷ xs) zero f is inside at =
    ((omega (arith, at), is.1), joins_here low o (row_nodes xs) f is.0 (omega (arith, at)))
placed low (o ∷ xs) (suc i) f is inside at =
    let more = placed (suc low) xs i f is.1 (omega (arith, inside)) (omega (arith, at)) in
    ((is.0, more.0), joins_later o (row_nodes xs) (row_nodes (slice_set xs i (Some f))) (f ∷ []) more.1)

-- places more, without a node
pub padded : (xs : List (Option NamedNode)) (n : ℕ) → row_nodes (xs ++ replicate n None) ≡ row_nodes xs
padded [] n = none_nodes n
padded (None ∷ xs) n = padded xs n
padded (Some f ∷ xs) n = ap (λ (w : List NamedNode). f ∷ w) (padded xs n)

pub stand_padded : (low : ℕ) (xs : List (Option NamedNode)) (n : ℕ) → StandFrom low xs
    → StandFrom low (xs ++ replicate n None)
stand_padded low [] n is = none_stand low n
stand_padded low (o ∷ xs) n is = (is.0, stand_padded (suc low) xs n is.1)

pub resized : (low : ℕ) (xs rs : List (Option NamedNode)) (n m : ℕ) → length xs ≤ n
    → rs ≡ take n xs ++ replicate m None → StandFrom low xs → StandFrom low rs × (row_nodes rs ≡ row_nodes xs)
resized low xs rs n m all is stand =
    let whole : rs ≡ xs ++ replicate m None =
    is ∙ ap (λ (w : List (Option NamedNode)). w ++ replicate m None) (take_all n xs all) in (
      subst (λ (w : List (Option NamedNode)). StandFrom low w) (sym whole) (stand_padded low xs m stand),
      ap row_nodes whole ∙ padded xs m,
    )

-- a node behind all others
pub pushed : (low : ℕ) (xs rs ps : List (Option NamedNode)) (f : NamedNode)
    → StandFrom low rs × (row_nodes rs ≡ row_nodes xs)
    → ps ≡ rs ++ Some f ∷ [] → stamp_in f ≡ low + length rs
    → StandFrom low ps × Joins (row_nodes xs) (f ∷ []) (row_nodes ps)
pushed low xs rs ps f r is at = (
  subst (λ (w : List (Option NamedNode)). StandFrom low w) (sym is) (stand_behind low rs (Some f) r.0 at),
  subst (λ (w : List NamedNode). Joins (row_nodes xs) (f ∷ []) w)
      (sym (ap row_nodes is ∙ (nodes_append rs (Some f ∷ [])
      ∙ ap (λ (w : List NamedNode). w ++ f ∷ []) r.1)))
      (joins_behind (row_nodes xs) f),
)

-- the last place is taken away, and with it what stood there
pub popped : (low : ℕ) (xs ys : List (Option NamedNode)) (o : Option NamedNode) → StandFrom low xs → xs ≡ ys ++ o ∷ []
    → StandFrom low ys × (row_nodes xs ≡ row_nodes ys ++ listed o) × IfSome o (λ f. stamp_in f ≡ low + length ys)
popped low xs ys o stand is =
    let both = stand_before low ys o (subst (λ (w : List (Option NamedNode)). StandFrom low w) is stand) in (
      both.0,
      ap row_nodes is ∙ (nodes_append ys (o ∷ []) ∙ ap (λ (w : List NamedNode). row_nodes ys ++ w) (alone o)),
      both.1,
    )

pub none_popped : (low : ℕ) (xs ys : List (Option NamedNode)) (o : Option NamedNode) → StandFrom low xs
    → xs ≡ ys ++ o ∷ [] → o ≡ None → StandFrom low ys × (row_nodes ys ≡ row_nodes xs)
none_popped low xs ys o stand is none =
    let r = popped low xs ys o stand is in
    (r.0, sym (r.1 ∙ (ap (λ (w : Option NamedNode). row_nodes ys ++ listed w) none ∙ append-nil (row_nodes ys))))

pub some_popped : (low : ℕ) (xs ys : List (Option NamedNode)) (o : Option NamedNode) (f : NamedNode) → StandFrom low xs
    → xs ≡ ys ++ o ∷ [] → o ≡ Some f
    → StandFrom low ys × (row_nodes xs ≡ row_nodes ys ++ f ∷ []) × (stamp_in f ≡ low + length ys)
some_popped low xs ys o f stand is some =
    subst (λ (w : Option NamedNode). StandFrom low ys × (row_nodes xs ≡ row_nodes ys ++ listed w)
    × IfSome w (λ g. stamp_in g ≡ low + length ys)) some (popped low xs ys o stand is)

-- a row that had no place
pub fresh : (low : ℕ) (xs rs : List (Option NamedNode)) (n m : ℕ) → xs ≡ [] → rs ≡ take n xs ++ replicate m None
    → StandFrom low rs × (row_nodes rs ≡ [])
fresh low xs rs n m none is =
    resized low [] rs n m (omega arith)
    (is ∙ ap (λ (w : List (Option NamedNode)). take n w ++ replicate m None) none) tt

-- what stands at a place bears its stamp
pub stands_at : (low : ℕ) (xs : List (Option NamedNode)) (i : ℕ) (d : Option NamedNode) → StandFrom low xs
    → i < length xs → IsTrue (is_some (get_or xs i d))
    → (f : NamedNode) × Contains (row_nodes xs) f × (stamp_in f ≡ low + i)
stands_at low [] i d is inside some = absurd (omega (arith, inside))
stands_at low (None ∷ xs) zero d is inside some = absurd (cc some)
stands_at low (Some f ∷ xs) zero d is inside some = (f, first_here f (row_nodes xs), omega (arith, is.0))
stands_at low (o ∷ xs) (suc i) d is inside some =
    let more = stands_at (suc low) xs i d is.1 (omega (arith, inside)) some in
    (more.0, Contains-append_right (listed o) (row_nodes xs) more.0 more.1, omega (arith, more.2))
