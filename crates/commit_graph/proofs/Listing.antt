-- How what a head reaches is listed, by falling stamps.
use Rattle.std.proofs.Common.{◌≡◌, ℕ, suc, max, ◌<◌, ◌≤◌, ◌⊎◌, inl, inr, List, [], ◌∷◌, ◌++◌, Some, slice_get, ap, sym}
use Rattle.std.proofs.Common.{subst, ◌∙◌, arith, ◌↔◌}
use Rattle.std.specs.List.{Contains}
use Rattle.std.proofs.lemmas.List.{map-append}
use Rattle.std.proofs.lemmas.List.Elements.{Contains-append_cases, Contains-append_left, Contains-append_right}
use mathlib.Core.List.{IsPrefix}
use Rattle.group_history.specs.declared.nodes.Node.{Node}
use Rattle.group_history.specs.declared.refs.Ref.{Ref}
use Rattle.group_history.specs.Refs.{stamp_of}
use Rattle.group_history.specs.Naming.{children, content_of}
use Rattle.group_history.specs.Spelling.{Contents, Version, version_at, map_at}
use Rattle.group_history.proofs.Lists.{prefix_trans, only_one, cons_cases, no_element, one_here, first_here, later_here}
use Rattle.group_history.proofs.Lists.{map_from, map_to}
use Rattle.map_chunks.specs.Places.{AreAll}
use Rattle.commit_graph.specs.declared.founds.NamedNode.{NamedNode}
use Rattle.commit_graph.specs.declared.founds.NamedNode.TheVariants as found
use Rattle.commit_graph.specs.Reach.{Reaches, itself, through, Falls, stamps_of}
use Rattle.commit_graph.specs.Inside.Reach.{AreFound, ref_in, stamp_in, found_in, IsSpelled, HasStampIn}
use Rattle.commit_graph.specs.Inside.Reach.{Notes, Walked, Adds}
use Rattle.std.specs.Prelude.{IsSome}
use Rattle.commit_graph.proofs.Descending.{map_ordered}
use Rattle.commit_graph.proofs.Rooted.{map_some_stays, kept_grown}
use Rattle.commit_graph.proofs.Spelled.{content-at}
use Rattle.commit_graph.proofs.Chained.{get_stays}
use Rattle.commit_graph.proofs.Reached.{IsThere, there_segment, child_there, there_found, spelled_grown, names_spelled}
use Rattle.commit_graph.proofs.Reached.{found_stamps, found_refs, reaches_stays, reaches_child, closed}

-- listed already, or still ahead, or kept by the root
abbrev pub Has : Contents → ℕ → List Ref → List NamedNode → ℕ → Type 0
Has ns root out frontier x = (Contains (stamps_of out) x ⊎ HasStampIn frontier x) ⊎ Reaches ns root x

-- While a head's reach is listed, but for what a root keeps: out is listed, and the frontier is still to be looked at.
-- Together with the root they have the children of all in out.
pub record IsListing (was may : Ref → Type 0) (first ns : Contents) (head : Ref) (root : ℕ) (out : List Ref)
    (walk : Walked) : Type 0 where
  pub listed : (r : Ref) → Contains out r → Reaches ns (stamp_of head) (stamp_of r)
  pub apart : (r : Ref) → Contains out r → Reaches ns root (stamp_of r) → ⊥
  pub ahead : (f : NamedNode) → Contains walk.ahead f → Reaches ns (stamp_of head) (stamp_in f) × IsSpelled ns f
  pub begun : Has ns root out walk.ahead (stamp_of head)
  pub whole : (r : Ref) → Contains out r → (n : Node ℕ) × (slice_get ns (stamp_of r) ≡ Some n)
      × ((c : ℕ) → Contains (children n) c → Has ns root out walk.ahead c)
  pub places : AreAll may out
  pub places_ahead : AreFound may walk.ahead
  pub falls : Falls (stamps_of out)
  pub above : (r : Ref) (f : NamedNode) → Contains out r → Contains walk.ahead f → stamp_in f < stamp_of r
  pub met : (x : ℕ) → Contains walk.met x → Has ns root out walk.ahead x
  pub rooted : IsSome (map_at ns root)
  pub grown : IsPrefix first ns
  pub wider : (r : Ref) → was r → may r

-- for a measure: a number above the stamps of all
abbrev pub bound : List NamedNode → ℕ
bound [] = 0
bound (f ∷ fs) = max (suc (stamp_in f)) (bound fs)

below_bound : (fs : List NamedNode) (f : NamedNode) → Contains fs f → stamp_in f < bound fs
below_bound [] f h = absurd (no_element f h)
below_bound (g ∷ fs) f h = elim (cons_cases g fs f h) [
  | inl e ↦ (let l : stamp_in f ≡ stamp_in g = ap stamp_in (sym e) in grind (arith, l))
  | inr q ↦ grind
      (arith, below_bound fs f q)
]

bound_all : (fs : List NamedNode) (n : ℕ) → ((f : NamedNode) → Contains fs f → stamp_in f < n) → bound fs ≤ n
bound_all [] n h = omega arith
bound_all (f ∷ fs) n h =
    let one : stamp_in f < n = h f (first_here f fs) in
    let rest = bound_all fs n (λ g i. h g (later_here f fs g i)) in grind (arith, one, rest)

pub falls_append : (xs : List ℕ) (x : ℕ) → Falls xs → ((y : ℕ) → Contains xs y → x < y) → Falls (xs ++ x ∷ [])
falls_append [] x f low = (λ y h. absurd (no_element y h), tt)
falls_append (z ∷ xs) x f low = (
  λ y h. elim (Contains-append_cases xs (x ∷ []) y h)
      [ inl p ↦ f.0 y p | inr q ↦ subst (λ w. w < z) (only_one x y q) (low z (first_here z xs)) ],
  falls_append xs x f.1 (λ y h. low y (later_here z xs y h)),
)

pub listing_grown : (was may wide : Ref → Type 0) (first ns more : Contents) (head : Ref) (root : ℕ) (out : List Ref)
    (walk : Walked) → IsListing was may first ns head root out walk → IsPrefix ns more
    → ((r : Ref) → may r → wide r)
    → IsListing was wide first more head root out walk
listing_grown was may wide first ns more head root out walk is pre on =
    let moved : (c : ℕ) → Has ns root out walk.ahead c
    → Has more root out walk.ahead c = λ c h. elim h
    [ inl p ↦ inl p | inr q ↦ inr (reaches_stays ns more root c pre q) ] in
    record {
      listed = λ r h. reaches_stays ns more (stamp_of head) (stamp_of r) pre (is.listed r h);
      apart = λ r h k. is.apart r h ((kept_grown ns more root (stamp_of r) is.rooted pre).1 k);
      ahead = λ f h. (let w = is.ahead f h in
          (reaches_stays ns more (stamp_of head) (stamp_in f) pre w.0, spelled_grown ns more f pre w.1));
      begun = moved (stamp_of head) is.begun;
      whole = λ r h. (let w = is.whole r h in
          (w.0, get_stays ns more (stamp_of r) w.0 pre w.1, λ c i. moved c (w.2 c i)));
      places = λ r h. on r (is.places r h);
      places_ahead = λ f h. on (ref_in f) (is.places_ahead f h);
      falls = is.falls;
      above = is.above;
      met = λ x h. moved x (is.met x h);
      rooted = map_some_stays ns more root pre is.rooted;
      grown = prefix_trans first ns more is.grown pre;
      wider = λ r h. on r (is.wider r h);
    }

pub listing_begins : (may : Ref → Type 0) (first : Contents) (head : Ref) (root : ℕ) (v : Version) (start walk : Walked)
    → version_at first (stamp_of head) ≡ Some v → IsSome (map_at first root) → start.ahead ≡ []
    → ((x : ℕ) → Contains start.met x → x ≡ root) → Adds start (found.Commit head ∷ []) walk
    → IsPrefix first first → may head
    → IsListing may may first first head root [] walk
listing_begins may first head root v start walk s o none only adds pre here =
    let is : (f : NamedNode) → Contains walk.ahead f
    → found.Commit head ≡ f = λ f h. elim (adds.from f h) [
      | inl p ↦ absurd (no_element f (subst (λ (w : List NamedNode). Contains w f) none p))
      | inr q ↦ only_one (found.Commit head) f q
    ] in
    let either : (x : ℕ) → HasStampIn walk.ahead x ⊎ Contains start.met x
    → Has first root [] walk.ahead x = λ x h. elim h [
      | inl p ↦ inl (inr p)
      | inr q ↦ inr (subst (λ (w : ℕ). Reaches first root w) (sym (only x q)) (itself root))
    ] in
    record {
      listed = λ r h. absurd (no_element r h);
      apart = λ r h k. no_element r h;
      ahead = λ f h. subst (λ (g : NamedNode). Reaches first (stamp_of head) (stamp_in g) × IsSpelled first g) (is f h)
          (itself (stamp_of head), (v, s));
      begun = either (stamp_of head) (adds.added (found.Commit head) (one_here (found.Commit head)));
      whole = λ r h. absurd (no_element r h);
      places = λ r h. absurd (no_element r h);
      places_ahead = λ f h. subst (λ (g : NamedNode). may (ref_in g)) (is f h) here;
      falls = tt;
      above = λ r f h i. absurd (no_element r h);
      met = λ x h. either x (adds.met x h);
      rooted = o;
      grown = pre;
      wider = λ r h. h;
    }

-- One step: the greatest of the frontier is listed, and its children join the frontier.
pub listing_step : (was may : Ref → Type 0) (first ns : Contents) (head : Ref) (root : ℕ) (at : NamedNode)
    (n : Node Ref)
    (out : List Ref) (keys rest news : Walked)
    → IsListing was may first ns head root out keys → keys.ahead ≡ rest.ahead ++ at ∷ [] → rest.met ≡ keys.met
    → ((f : NamedNode) → Contains rest.ahead f → stamp_in f < stamp_in at)
    → (Reaches ns root (stamp_in at) → ⊥) → AreAll may (children n) → slice_get ns (stamp_in at) ≡ Some (content_of n)
    → Adds rest (found_in n) news → IsListing was may first ns head root (out ++ ref_in at ∷ []) news
listing_step was may first ns head root at n out keys rest news is cut same low free shown lies adds =
    let in_rest : (f : NamedNode) → Contains rest.ahead f
    → Contains keys.ahead f = λ f h. subst (λ ks. Contains ks f) (sym cut) (Contains-append_left rest.ahead
    (at ∷ []) f h) in
    let at_keys : Contains keys.ahead at = subst (λ ks. Contains ks at) (sym cut)
    (Contains-append_right rest.ahead (at ∷ []) at (one_here at)) in
    let now = (is.ahead at at_keys).0 in
    let spelled = (is.ahead at at_keys).1 in
    let stamps : stamps_of (out ++ ref_in at ∷ [])
    ≡ stamps_of out ++ stamp_in at ∷ [] = map-append stamp_of out (ref_in at ∷ []) in
    let child : (f : NamedNode) → Contains (found_in n) f
    → Contains (children (content_of n)) (stamp_in f) = λ f h. subst (λ (w : List ℕ). Contains w (stamp_in f))
    (found_stamps n) (map_to stamp_in (found_in n) f h) in
    let lower : (f : NamedNode) → Contains (found_in n) f
    → stamp_in f < stamp_in at = λ f h. (child_there ns (stamp_in at) (stamp_in f) (content_of n)
    (there_found ns at spelled) lies (child f h)).0 in
    let listed_at : Contains (stamps_of (out ++ ref_in at ∷ [])) (stamp_in at) = subst
    (λ (w : List ℕ). Contains w (stamp_in at)) (sym stamps)
    (Contains-append_right (stamps_of out) (stamp_in at ∷ []) (stamp_in at) (one_here (stamp_in at))) in
    let moved : (c : ℕ) → Has ns root out keys.ahead c → Has ns root
    (out ++ ref_in at ∷ []) news.ahead c = λ c h. elim h [
      | inr k ↦ inr k
      | inl g ↦ inl (elim g [
        | inl p ↦ inl (subst (λ (w : List ℕ). Contains w c) (sym stamps)
            (Contains-append_left (stamps_of out) (stamp_in at ∷ []) c p))
        | inr q ↦ elim (Contains-append_cases rest.ahead (at ∷ []) q.0 (subst (λ ks. Contains ks q.0) cut q.1)) [
          | inl i ↦ (let k = adds.kept q.0 i in inr (k.0, k.1, k.2 ∙ q.2))
          | inr j ↦ inl (subst (λ (w : ℕ). Contains (stamps_of (out ++ ref_in at ∷ [])) w)
              (ap stamp_in (only_one at q.0 j) ∙ q.2) listed_at)
        ]
      ])
    ] in
    let either : (x : ℕ) → HasStampIn news.ahead x ⊎ Contains rest.met x
    → Has ns root (out ++ ref_in at ∷ []) news.ahead x = λ x h. elim h [
      | inl p ↦ inl (inr p)
      | inr q ↦ moved x (is.met x (subst (λ (w : List ℕ). Contains w x) same q))
    ] in
    record {
      listed = λ r h. elim (Contains-append_cases out (ref_in at ∷ []) r h) [
        | inl p ↦ is.listed r p
        | inr q ↦ subst (λ (w : Ref). Reaches ns (stamp_of head) (stamp_of w))
            (only_one (ref_in at) r q) now
      ];
      apart = λ r h. elim (Contains-append_cases out (ref_in at ∷ []) r h) [
        | inl p ↦ is.apart r p
        | inr q ↦ subst (λ (w : Ref). Reaches ns root (stamp_of w) → ⊥)
            (only_one (ref_in at) r q) free
      ];
      ahead = λ f h. elim (adds.from f h) [
        | inl p ↦ is.ahead f (in_rest f p)
        | inr q ↦ (
          reaches_child ns (stamp_of head) (stamp_in at) (stamp_in f) (content_of n) now lies (child f q),
          names_spelled ns at f n spelled lies q,
        )
      ];
      begun = moved (stamp_of head) is.begun;
      whole = λ r h. elim (Contains-append_cases out (ref_in at ∷ []) r h) [
        | inl p ↦ (let w = is.whole r p in (w.0, w.1, λ c i. moved c (w.2 c i)))
        | inr q ↦ (
          content_of n,
          subst (λ (w : Ref). slice_get ns (stamp_of w) ≡ Some (content_of n)) (only_one (ref_in at) r q) lies,
          λ c i. (let f = map_from stamp_in (found_in n) c
              (subst (λ (w : List ℕ). Contains w c) (sym (found_stamps n)) i) in
              either c (subst (λ (w : ℕ). HasStampIn news.ahead w ⊎ Contains rest.met w) f.2 (adds.added f.0 f.1))),
        )
      ];
      places = λ r h. elim (Contains-append_cases out (ref_in at ∷ []) r h) [
        | inl p ↦ is.places r p
        | inr q ↦ subst may (only_one (ref_in at) r q) (is.places_ahead at at_keys)
      ];
      places_ahead = λ f h. elim (adds.from f h) [
        | inl p ↦ is.places_ahead f (in_rest f p)
        | inr q ↦ shown (ref_in f) (subst (λ (w : List Ref). Contains w (ref_in f)) (found_refs n)
            (map_to ref_in (found_in n) f q))
      ];
      falls = subst Falls (sym stamps) (falls_append (stamps_of out) (stamp_in at) is.falls
          (λ y h. (let r = map_from stamp_of out y h in
          subst (λ (w : ℕ). stamp_in at < w) r.2 (is.above r.0 at r.1 at_keys))));
      above = λ r f h i. elim (Contains-append_cases out (ref_in at ∷ []) r h) [
        | inl p ↦ elim (adds.from f i) [
          | inl j ↦ is.above r f p (in_rest f j)
          | inr j ↦
              (let a : stamp_in at < stamp_of r = is.above r at p at_keys in let b = lower f j in omega (arith, a, b))
        ]
        | inr q ↦ subst (λ (w : Ref). stamp_in f < stamp_of w) (only_one (ref_in at) r q)
            (elim (adds.from f i) [ inl j ↦ low f j | inr j ↦ lower f j ])
      ];
      met = λ x h. either x (adds.met x h);
      rooted = is.rooted;
      grown = is.grown;
      wider = is.wider;
    }

-- Some stamps more that the root reaches are known as met.
pub listing_noted : (was may : Ref → Type 0) (first ns : Contents) (head : Ref) (root : ℕ) (out : List Ref)
    (keys rest noted : Walked)
    → IsListing was may first ns head root out keys → rest.met ≡ keys.met → Notes (Reaches ns root) rest noted
    → IsListing was may first ns head root out (record { ahead = keys.ahead; met = noted.met })
listing_noted was may first ns head root out keys rest noted is same notes = record {
  listed = is.listed;
  apart = is.apart;
  ahead = is.ahead;
  begun = is.begun;
  whole = is.whole;
  places = is.places;
  places_ahead = is.places_ahead;
  falls = is.falls;
  above = is.above;
  met = λ x h. elim (notes.1 x h) [
    | inl p ↦ is.met x (subst (λ (w : List ℕ). Contains w x) same p)
    | inr q ↦ inr q
  ];
  rooted = is.rooted;
  grown = is.grown;
  wider = is.wider;
}

-- What the root keeps is passed over.
pub listing_skip : (was may : Ref → Type 0) (first ns : Contents) (head : Ref) (root : ℕ) (at : NamedNode)
    (out : List Ref)
    (keys rest : Walked)
    → IsListing was may first ns head root out keys → keys.ahead ≡ rest.ahead ++ at ∷ [] → rest.met ≡ keys.met
    → Reaches ns root (stamp_in at)
    → IsListing was may first ns head root out rest
listing_skip was may first ns head root at out keys rest is cut same kept =
    let in_rest : (f : NamedNode) → Contains rest.ahead f
    → Contains keys.ahead f = λ f h. subst (λ ks. Contains ks f) (sym cut) (Contains-append_left rest.ahead
    (at ∷ []) f h) in
    let moved : (c : ℕ) → Has ns root out keys.ahead c → Has ns root out rest.ahead c = λ c h. elim h [
      | inr k ↦ inr k
      | inl g ↦ elim g [
        | inl p ↦ inl (inl p)
        | inr q ↦ elim (Contains-append_cases rest.ahead (at ∷ []) q.0 (subst (λ ks. Contains ks q.0) cut q.1)) [
          | inl i ↦ inl (inr (q.0, i, q.2))
          | inr j ↦ inr (subst (λ (w : ℕ). Reaches ns root w) (ap stamp_in (only_one at q.0 j) ∙ q.2) kept)
        ]
      ]
    ] in
    record {
      listed = is.listed;
      apart = is.apart;
      ahead = λ f h. is.ahead f (in_rest f h);
      begun = moved (stamp_of head) is.begun;
      whole = λ r h. (let w = is.whole r h in (w.0, w.1, λ c i. moved c (w.2 c i)));
      places = is.places;
      places_ahead = λ f h. is.places_ahead f (in_rest f h);
      falls = is.falls;
      above = λ r f h i. is.above r f h (in_rest f i);
      met = λ x h. moved x (is.met x (subst (λ (w : List ℕ). Contains w x) same h));
      rooted = is.rooted;
      grown = is.grown;
      wider = is.wider;
    }

-- the frontier falls
pub listing_falls : (ns : Contents) (at : NamedNode) (n : Node Ref) (keys rest news : Walked) → IsSpelled ns at
    → keys.ahead ≡ rest.ahead ++ at ∷ [] → ((f : NamedNode) → Contains rest.ahead f → stamp_in f < stamp_in at)
    → slice_get ns (stamp_in at) ≡ Some (content_of n) → Adds rest (found_in n) news
    → bound news.ahead < bound keys.ahead
listing_falls ns at n keys rest news spelled cut low lies adds =
    let at_keys : Contains keys.ahead at = subst (λ ks. Contains ks at) (sym cut)
    (Contains-append_right rest.ahead (at ∷ []) at (one_here at)) in
    let lower : (f : NamedNode) → Contains (found_in n) f
    → stamp_in f < stamp_in at = λ f h. (child_there ns (stamp_in at) (stamp_in f) (content_of n)
    (there_found ns at spelled) lies
    (subst (λ (w : List ℕ). Contains w (stamp_in f)) (found_stamps n) (map_to stamp_in (found_in n) f h))).0 in
    let top = bound_all news.ahead (stamp_in at) (λ f h.
    elim (adds.from f h) [ inl p ↦ low f p | inr q ↦ lower f q ]) in
    omega (arith, top, below_bound keys.ahead at at_keys)

pub skip_falls : (at : NamedNode) (keys rest : List NamedNode) → keys ≡ rest ++ at ∷ []
    → ((f : NamedNode) → Contains rest f → stamp_in f < stamp_in at) → bound rest < bound keys
skip_falls at keys rest cut low =
    let at_keys : Contains keys at = subst (λ ks. Contains ks at) (sym cut)
    (Contains-append_right rest (at ∷ []) at (one_here at)) in
    let top = bound_all rest (stamp_in at) low in omega (arith, top, below_bound keys at at_keys)

there_reached : (ns : Contents) (a b : ℕ) → IsThere ns a → Reaches ns a b → IsThere ns b
there_reached ns _ _ t (itself a) = t
there_reached ns _ _ t (through a c b n is child rest) = there_reached ns c b (child_there ns a c n t is child).1 rest

-- With nothing ahead, just what is reached and not kept is listed.
pub listing_ends : (was may : Ref → Type 0) (first ns : Contents) (head : Ref) (root : ℕ) (out : List Ref)
    (walk : Walked) → IsListing was may first ns head root out walk → walk.ahead ≡ []
    → (x : ℕ) → Contains (stamps_of out) x ↔ (Reaches ns (stamp_of head) x × (Reaches ns root x → ⊥))
listing_ends was may first ns head root out walk is none x =
    let only : (c : ℕ) → Has ns root out walk.ahead c
    → Contains (stamps_of out) c ⊎ Reaches ns root c = λ c h. elim h [
      | inr k ↦ inr k
      | inl g ↦ elim g [
        | inl p ↦ inl p
        | inr q ↦ absurd (no_element q.0 (subst (λ (w : List NamedNode). Contains w q.0) none q.1))
      ]
    ] in
    let o = map_ordered ns root is.rooted in
    let step : (y : ℕ) → Contains (stamps_of out) y ⊎ Reaches ns root y
    → (n : Node ℕ) × (slice_get ns y ≡ Some n)
    × ((c : ℕ) → Contains (children n) c → Contains (stamps_of out) c ⊎ Reaches ns root c) = λ y h. elim h [
      | inl p ↦ (let s = map_from stamp_of out y p in let w = is.whole s.0 s.1 in
          (w.0, subst (λ (z : ℕ). slice_get ns z ≡ Some w.0) s.2 w.1, λ c i. only c (w.2 c i)))
      | inr k ↦ (let t = there_reached ns root y (there_segment ns root o.0 o.1) k in let n = content-at ns y t.0 t.1 in
          (n.0, n.1, λ c i. inr (reaches_child ns root y c n.0 k n.1 i)))
    ] in (
      λ h. (let r = map_from stamp_of out x h in (
        subst (λ (w : ℕ). Reaches ns (stamp_of head) w) r.2 (is.listed r.0 r.1),
        subst (λ (w : ℕ). Reaches ns root w → ⊥) r.2 (is.apart r.0 r.1),
      )),
      λ q. elim (closed ns (λ y. Contains (stamps_of out) y ⊎ Reaches ns root y) step (stamp_of head) x q.0
          (only (stamp_of head) is.begun)) [ inl p ↦ p | inr k ↦ absurd (q.1 k) ],
    )
