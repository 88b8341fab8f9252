-- The row of what is newest, and the tree of the others.
use Rattle.std.proofs.Common.{◌≡◌, ◌<◌, ℕ, inl, inr, List, [], ◌∷◌, ◌++◌, map, refl, ap, sym, subst}
use Rattle.std.specs.List.{Contains}
use Rattle.std.specs.Ordering.{nat_cmp}
use Rattle.std.specs.BTreeMap.{insert_entry}
use Rattle.std.proofs.lemmas.List.Elements.{Contains-append_cases, Contains-append_left, Contains-append_right}
use Rattle.group_history.proofs.Lists.{only_one}
use Rattle.commit_graph.specs.declared.founds.NamedNode.{NamedNode}
use Rattle.commit_graph.specs.Inside.Reach.{AreKeyed, AreUnder, Joins, stamp_in}
use Rattle.commit_graph.proofs.Findings.{inserted, keyed_inserted}

abbrev pub nodes_in : List (ℕ × NamedNode) → List NamedNode
nodes_in es = map (λ (e : ℕ × NamedNode). e.1) es

abbrev pub more_in : List (ℕ × NamedNode) → NamedNode → List (ℕ × NamedNode)
more_in es f = insert_entry nat_cmp es (stamp_in f) f

joins_front : (a b xs ys : List NamedNode) → Joins a xs b → Joins (a ++ ys) xs (b ++ ys)
joins_front a b xs ys is = record {
  from = λ g h. elim (Contains-append_cases b ys g h) [
    | inl p ↦ elim (is.from g p) [ inl i ↦ inl (Contains-append_left a ys g i) | inr j ↦ inr j ]
    | inr q ↦ inl (Contains-append_right a ys g q)
  ];
  kept = λ g h. elim (Contains-append_cases a ys g h) [
    | inl p ↦ (let k = is.kept g p in (k.0, Contains-append_left b ys k.0 k.1, k.2))
    | inr q ↦ (g, Contains-append_right b ys g q, refl)
  ];
  added = λ g h. (let k = is.added g h in (k.0, Contains-append_left b ys k.0 k.1, k.2));
}

-- what joins the row
pub joins_back : (ys a b xs : List NamedNode) → Joins a xs b → Joins (ys ++ a) xs (ys ++ b)
joins_back ys a b xs is = record {
  from = λ g h. elim (Contains-append_cases ys b g h) [
    | inl p ↦ inl (Contains-append_left ys a g p)
    | inr q ↦ elim (is.from g q) [ inl i ↦ inl (Contains-append_right ys a g i) | inr j ↦ inr j ]
  ];
  kept = λ g h. elim (Contains-append_cases ys a g h) [
    | inl p ↦ (g, Contains-append_left ys b g p, refl)
    | inr q ↦ (let k = is.kept g q in (k.0, Contains-append_right ys b k.0 k.1, k.2))
  ];
  added = λ g h. (let k = is.added g h in (k.0, Contains-append_right ys b k.0 k.1, k.2));
}

-- one is put into the tree, and the row stays
pub joins_below : (es more : List (ℕ × NamedNode)) (f : NamedNode) (row now : List NamedNode) → more ≡ more_in es f
    → nodes_in es ++ row ≡ now → AreKeyed es → Joins now (f ∷ []) (nodes_in more ++ row)
joins_below es more f row now grown is keyed =
    subst (λ (w : List NamedNode). Joins w (f ∷ []) (nodes_in more ++ row)) is
    (subst (λ (w : List (ℕ × NamedNode)). Joins (nodes_in es ++ row) (f ∷ []) (nodes_in w ++ row)) (sym grown)
    (joins_front (nodes_in es) (nodes_in (more_in es f)) (f ∷ []) row (inserted es f keyed)))

pub keeps_below : (es more : List (ℕ × NamedNode)) (f : NamedNode) (low : ℕ) → more ≡ more_in es f
    → AreKeyed es × AreUnder low (nodes_in es) → stamp_in f < low → AreKeyed more × AreUnder low (nodes_in more)
keeps_below es more f low grown is less =
    subst (λ (w : List (ℕ × NamedNode)). AreKeyed w × AreUnder low (nodes_in w)) (sym grown) (
      keyed_inserted es f is.0,
      λ g h. elim ((inserted es f is.0).from g h) [
        | inl p ↦ is.1 g p
        | inr q ↦ subst (λ (w : NamedNode). stamp_in w < low) (only_one f g q) less
      ],
    )

pub nodes_with : (xs ys : List (ℕ × NamedNode)) → nodes_in (xs ++ ys) ≡ nodes_in xs ++ nodes_in ys
nodes_with [] ys = refl
nodes_with (x ∷ xs) ys = ap (λ (w : List NamedNode). x.1 ∷ w) (nodes_with xs ys)

-- what was taken from the tree is gone
pub keeps_under : (es left : List (ℕ × NamedNode)) (e : ℕ × NamedNode) (low : ℕ) → es ≡ left ++ e ∷ []
    → AreUnder low (nodes_in es) → AreUnder low (nodes_in left)
keeps_under es left e low is under f h =
    under f (subst (λ (w : List (ℕ × NamedNode)). Contains (nodes_in w) f) (sym is)
    (subst (λ (w : List NamedNode). Contains w f) (sym (nodes_with left (e ∷ [])))
    (Contains-append_left (nodes_in left) (nodes_in (e ∷ [])) f h)))
