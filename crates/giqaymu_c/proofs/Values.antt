-- The machine values of parts and of handles.
use Rattle.std.proofs.Common.{◌≡◌, ℕ, Option, ◌<◌, ◌^◌, List, [], ◌∷◌, ◌++◌, refl, subst, lit<, w64}
use mathlib.Core.Bool.{Bool, true, false, ◌&&◌}
use lib.Dec.{T}
use seplogic.Ra.Ura.{Ura}
use mir.Syntax.{impl, tnil, dnil}
use mir.Raw.{raw as bare}
use mir.Val.{Val, vptr, vint, vstruct, vcons, vnil, of_list, has_ty, WT}
use base.Logic.{never, never_e, fst∗}
use base.Fml.{Fml, ffalse, ftrue}
use types.Logic.{Logic, sem}
use types.Kit.{Item, Goal, Seq, Step, step, some, pick, use1, ‵, ◌$◌, move, drop, fsplit, fjoin, fjoin3, fpick, fpack}
use types.Kit.{feq_i, feq_l, flt_l}
use denote.RattleType.{RattleType, Valss}
use denote.Builtin.{RawPtr, u64}
use denote.Laws.{Is}
use denote.Memory.{lone}
use denote.Plain.{uint_Makes}
use denote.RawPtr.{Ptr, block_ptr, null_ptr, ptr_val, in_a_block}
use denote.Steps.{nothing, owned}
use denote.Param.{layout}
use denote.Param.Laws.{Laws}
use denote.Struct.Owning.{shape}
use denote.Struct.Struct.{within}
use denote.Struct.Tuple.{Tuple}
use Rattle.core.proofs.alloc.Calls.{Al, handle_tells}
use Rattle.core.proofs.cell.Inside.{Good}
use Rattle.std_alloc.specs.Box.Ownership.{box_owns}
use Rattle.std_heap.specs.contracts.Global as Heap
use Rattle.std_heap.specs.contracts.GlobalAllocator.TheImpl.{ghosts}
use Rattle.std_heap.proofs.Global.TheLaws as heap
use Rattle.giqaymu_c.specs.contracts.parts.BoxParts as parts
use Rattle.group_history.specs.Map.{Bytes}
use Rattle.giqaymu_c.specs.Own.{Run}
use Rattle.giqaymu_c.specs.Spots.{SpotState}
use Rattle.giqaymu_c.specs.contracts.handle.Handle as handle
use Rattle.giqaymu_c.specs.contracts.held.MaybeBox as held_row
use Rattle.giqaymu_c.specs.Owned.{place_owns, held_owns}

abbrev pub both : Val → Val → Val
both v w = vstruct (vcons v (vcons w vnil))

and_tt : (x y : Bool) → T x → T y → T (x && (y && true))
and_tt true true s t = tt
and_tt true false s t = absurd t
and_tt false y s t = absurd s

and_more : (x y : Bool) → T x → T y → T (x && y)
and_more true y s t = t
and_more false y s t = absurd s

and_last : (x : Bool) → T x → T (x && true)
and_last true s = tt
and_last false s = absurd s

-- a row whose values are one machine value each, as a handle of the heap is one
abbrev pub opaque : (Z : RattleType) → Laws Z → Al
opaque Z L = record {
  row = Z;
  laws = L;
  g = record { dealloc_token = λ a σ p. base.Fml.ftrue };
  d = impl [] tnil dnil;
  drops = impl [] tnil dnil;
}

abbrev pub al : Al
al = opaque Heap.the_row heap.the_row_laws

-- two good values side by side
pub both_good : (P Q : RattleType) (v w : Val) → Good (layout P) v → Good (layout Q) w
    → T (has_ty (layout P) v && (has_ty (layout Q) w && true)) × WT (both v w)
both_good P Q v w g h = (and_tt (has_ty (layout P) v) (has_ty (layout Q) w) g.0 h.0, (g.1, (h.1, tt)))

module _ (R : RattleType) where
  abbrev pub BoxParts : RattleType
  BoxParts = parts.the_row R Heap.the_row ghosts

  pub parts_good : (b o : ℕ) (h : Val) → Good (layout Heap.the_row) h → T (has_ty (layout Heap.the_row) h && true)
      × WT (both (vptr b o) h)
  parts_good b o h fits = (and_last (has_ty (layout Heap.the_row) h) fits.0, (tt, (fits.1, tt)))

  module _ {M : Type 1} {𝓤 : Ura M} {𝓛 : Logic 𝓤} {K : Type 0} {Γ : List (Item 𝓤)} {G : Goal 𝓤 𝓛.H} where
    pub parts_out : K → (d : BoxParts.Denot) (vs : List Val)
        → ((b o : ℕ) (h : Val) → d.ptr ≡ block_ptr b o → vs ≡ both (vptr b o) h ∷ [] → Good (layout Heap.the_row) h
        → Seq K 𝓛 (‵ (box_owns (ghosts.dealloc_token d.alloc) R (block_ptr b o) d.value)
        ∷ ‵ ((Heap.the_row).own_val d.alloc (h ∷ [])) ∷ Γ) G)
        → Seq K 𝓛 (‵ (BoxParts.own_val d vs) ∷ Γ) G
    parts_out t d vs k =
        fsplit t $ fpick t (λ vss. fsplit t $ feq_l t (λ ev. fsplit t $ feq_l t (λ ep. fsplit t $
        handle_tells al t d.alloc vss.1.0 (λ h ea fits. move t (1 ∷ []) $ drop t $ move t (1 ∷ []) $
        in_a_block t d.ptr (λ p. box_owns (ghosts.dealloc_token d.alloc) R p d.value)
        (fst∗ 𝓤 (never 𝓤) (sem 𝓛 (ghosts.dealloc_token d.alloc (bare (lone R.mir)) null_ptr))) (λ b o e. k b o h e
        (subst (λ (p : Ptr). vs ≡ vstruct (of_list (ptr_val p ∷ h ∷ [])) ∷ []) e
        (subst (λ (ws : List Val). vs ≡ vstruct (of_list (ptr_val d.ptr ∷ (ws ++ []))) ∷ []) ea
        (subst (λ (ps : List Val). vs ≡ vstruct (of_list (ps ++ (vss.1.0 ++ []))) ∷ []) ep ev))) fits)))))

    pub parts_in : K → (b o : ℕ) (h : Val) (a : (Heap.the_row).Denot) (x : R.Denot)
        → Step K 𝓛 (‵ (BoxParts.own_val (record { ptr = block_ptr b o; alloc = a; value = x }) (both (vptr b o) h ∷ []))
        ∷ Γ) G (‵ (box_owns (ghosts.dealloc_token a) R (block_ptr b o) x) ∷ ‵ ((Heap.the_row).own_val a (h ∷ []))
        ∷ Γ) G
    parts_in t b o h a x = step (λ s. let v : Val = both (vptr b o) h in
        nothing t $ move t (2 ∷ 0 ∷ []) $ fjoin t $ feq_i t (List Val) (vptr b o ∷ []) (vptr b o ∷ []) refl $ fjoin t $
        feq_i t (List Val) (v ∷ []) (v ∷ []) refl $ fjoin t $
        fpack t (Valss (RawPtr ∷ Heap.the_row ∷ []))
        (within (shape (parts.the_type R Heap.the_row ghosts)) (block_ptr b o, (a, tt)) (v ∷ []))
        (vptr b o ∷ [], (h ∷ [], tt)) $ fjoin t $ s)

module _ {M : Type 1} {𝓤 : Ura M} {𝓛 : Logic 𝓤} {K : Type 0} {Γ : List (Item 𝓤)} {G : Goal 𝓤 𝓛.H} where
  -- a pair by value
  pub pair_in : K → (P Q : RattleType) (x : P.Denot) (y : Q.Denot) (v w : Val)
      → Step K 𝓛 (‵ ((Tuple (P ∷ Q ∷ [])).own_val (x, y) (both v w ∷ [])) ∷ Γ) G
      (‵ (P.own_val x (v ∷ [])) ∷ ‵ (Q.own_val y (w ∷ [])) ∷ Γ) G
  pair_in t P Q x y v w = step (λ s. nothing t $ move t (1 ∷ 2 ∷ 0 ∷ []) $ fjoin3 t $
      feq_i t (List Val) (both v w ∷ []) (both v w ∷ []) refl $ fjoin t $
      fpack t (Valss (P ∷ Q ∷ []))
      (within (record { name = []; args = []; types = []; fields = P ∷ Q ∷ [] }) (x, (y, tt)) (both v w ∷ []))
      (v ∷ [], (w ∷ [], tt)) $ s)

-- nothing comes of what is false
pub falsely : {M : Type 1} {𝓤 : Ura M} {𝓛 : Logic 𝓤} {K : Type 0} {Γ : List (Item 𝓤)} {G : Goal 𝓤 𝓛.H} → K
    → Seq K 𝓛 (‵ ffalse ∷ Γ) G
falsely {𝓤 = 𝓤} {𝓛 = 𝓛} t = use1 𝓛 (some (λ (x : T false). ‵ ftrue)) (never_e 𝓤 _) $ pick t (λ x. absurd x)

-- a pointer fits
pub ptr_good : (p : Ptr) → Good mir.Syntax.ty_ptr (ptr_val p)
ptr_good (block_ptr b o) = (tt, tt)
ptr_good null_ptr = (tt, record { fits = lit< tt })

abbrev pub marked : Ptr → ℕ → Val
marked p k = both (ptr_val p) (vint w64 k)

module _ (R : RattleType) where
  abbrev pub MaybeBox : RattleType
  MaybeBox = held_row.the_row R

  pub marked_good : (p : Ptr) (k : ℕ) → k < 2 ^ 64 → Good (layout MaybeBox) (marked p k)
  marked_good p k fits = (
    and_tt (has_ty mir.Syntax.ty_ptr (ptr_val p)) (has_ty (mir.Syntax.ty_int w64) (vint w64 k)) (ptr_good p).0 tt,
    ((ptr_good p).1, (record { fits = fits }, tt)),
  )

  module _ {M : Type 1} {𝓤 : Ura M} {𝓛 : Logic 𝓤} {K : Type 0} {Γ : List (Item 𝓤)} {G : Goal 𝓤 𝓛.H} where
    pub held_in : K → (p : Ptr) (k : ℕ) (v : Option R.Denot) → k < 2 ^ 64
        → Step K 𝓛 (‵ (MaybeBox.own_val (record { at = p; is_open = k; value = v }) (marked p k ∷ [])) ∷ Γ) G
        (‵ (held_owns R k p v) ∷ Γ) G
    held_in t p k v fits = step (λ s. let w : Val = marked p k in
        nothing t $ owned t u64 (Is u64) (uint_Makes 𝓛 w64) k (vint w64 k ∷ []) (refl, fits) $ fjoin t $
        feq_i t (List Val) (ptr_val p ∷ []) (ptr_val p ∷ []) refl $ fjoin t $
        feq_i t (List Val) (w ∷ []) (w ∷ []) refl $ fjoin t $
        fpack t (Valss (RawPtr ∷ u64 ∷ [])) (within (shape (held_row.the_type R)) (p, (k, tt)) (w ∷ []))
        (ptr_val p ∷ [], (vint w64 k ∷ [], tt)) $ fjoin t $ s)

    pub held_out : K → (d : MaybeBox.Denot) (vs : List Val)
        → (d.is_open < 2 ^ 64 → vs ≡ marked d.at d.is_open ∷ []
        → Seq K 𝓛 (‵ (held_owns R d.is_open d.at d.value) ∷ Γ) G) → Seq K 𝓛 (‵ (MaybeBox.own_val d vs) ∷ Γ) G
    held_out t d vs k =
        fsplit t $ fpick t (λ vss. fsplit t $ feq_l t (λ ev. fsplit t $ feq_l t (λ ep. fsplit t $ fsplit t $
        feq_l t (λ en. flt_l t (λ fits. drop t $ k fits
        (subst (λ (ws : List Val). vs ≡ vstruct (of_list (ptr_val d.at ∷ (ws ++ []))) ∷ []) en
        (subst (λ (ps : List Val). vs ≡ vstruct (of_list (ps ++ (vss.1.0 ++ []))) ∷ []) ep ev)))))))

pub handle_good : (p : Ptr) (k : ℕ) → k < 2 ^ 64 → Good (layout handle.the_row) (marked p k)
handle_good p k fits = (
  and_tt (has_ty mir.Syntax.ty_ptr (ptr_val p)) (has_ty (mir.Syntax.ty_int w64) (vint w64 k)) (ptr_good p).0 tt,
  ((ptr_good p).1, (record { fits = fits }, tt)),
)

module _ {M : Type 1} {𝓤 : Ura M} {𝓛 : Logic 𝓤} {K : Type 0} {Γ : List (Item 𝓤)} {G : Goal 𝓤 𝓛.H} where
  pub handle_in : K → (p : Ptr) (k : ℕ) (text : Bytes) (asks : Bool) (own : List Run) (v : Option SpotState)
      → k < 2 ^ 64
      → Step K 𝓛 (‵ ((handle.the_row).own_val (record {
        at = p;
        is_open = k;
        text = text;
        asks = asks;
        own = own;
        spot = v;
      })
      (marked p k ∷ [])) ∷ Γ) G (‵ (place_owns text asks own k p v) ∷ Γ) G
  handle_in t p k text asks own v fits = step (λ s. let w : Val = marked p k in
      nothing t $ owned t u64 (Is u64) (uint_Makes 𝓛 w64) k (vint w64 k ∷ []) (refl, fits) $ fjoin t $
      feq_i t (List Val) (ptr_val p ∷ []) (ptr_val p ∷ []) refl $ fjoin t $ feq_i t (List Val) (w ∷ []) (w ∷ []) refl $
      fjoin t $
      fpack t (Valss (RawPtr ∷ u64 ∷ [])) (within (shape handle.the_type) (p, (k, tt)) (w ∷ []))
      (ptr_val p ∷ [], (vint w64 k ∷ [], tt)) $ fjoin t $ s)

  pub handle_out : K → (d : (handle.the_row).Denot) (vs : List Val)
      → (d.is_open < 2 ^ 64 → vs ≡ marked d.at d.is_open ∷ []
      → Seq K 𝓛 (‵ (place_owns d.text d.asks d.own d.is_open d.at d.spot) ∷ Γ) G)
      → Seq K 𝓛 (‵ ((handle.the_row).own_val d vs) ∷ Γ) G
  handle_out t d vs k =
      fsplit t $ fpick t (λ vss. fsplit t $ feq_l t (λ ev. fsplit t $ feq_l t (λ ep. fsplit t $ fsplit t $
      feq_l t (λ en. flt_l t (λ fits. drop t $ k fits
      (subst (λ (ws : List Val). vs ≡ vstruct (of_list (ptr_val d.at ∷ (ws ++ []))) ∷ []) en
      (subst (λ (ps : List Val). vs ≡ vstruct (of_list (ps ++ (vss.1.0 ++ []))) ∷ []) ep ev)))))))

-- three values by value
abbrev pub three : Val → Val → Val → Val
three v w x = vstruct (vcons v (vcons w (vcons x vnil)))

pub three_good : (P Q S : RattleType) (v w x : Val) → Good (layout P) v → Good (layout Q) w → Good (layout S) x
    → T (has_ty (layout P) v && (has_ty (layout Q) w && (has_ty (layout S) x && true))) × WT (three v w x)
three_good P Q S v w x g h k = (
  and_more (has_ty (layout P) v) (has_ty (layout Q) w && (has_ty (layout S) x && true)) g.0
      (and_tt (has_ty (layout Q) w) (has_ty (layout S) x) h.0 k.0),
  (g.1, (h.1, (k.1, tt))),
)

module _ {M : Type 1} {𝓤 : Ura M} {𝓛 : Logic 𝓤} {K : Type 0} {Γ : List (Item 𝓤)} {G : Goal 𝓤 𝓛.H} where
  pub three_in : K → (P Q S : RattleType) (x : P.Denot) (y : Q.Denot) (z : S.Denot) (v w u : Val)
      → Step K 𝓛 (‵ ((Tuple (P ∷ Q ∷ S ∷ [])).own_val (x, y, z) (three v w u ∷ [])) ∷ Γ) G
      (‵ (P.own_val x (v ∷ [])) ∷ ‵ (Q.own_val y (w ∷ [])) ∷ ‵ (S.own_val z (u ∷ [])) ∷ Γ) G
  three_in t P Q S x y z v w u = step (λ s. nothing t $ move t (3 ∷ 0 ∷ []) $ fjoin t $ move t (2 ∷ 0 ∷ []) $ fjoin t $
      move t (1 ∷ 0 ∷ []) $ fjoin t $
      feq_i t (List Val) (three v w u ∷ []) (three v w u ∷ []) refl $ fjoin t $
      fpack t (Valss (P ∷ Q ∷ S ∷ []))
      (within (record { name = []; args = []; types = []; fields = P ∷ Q ∷ S ∷ [] }) (x, (y, (z, tt)))
      (three v w u ∷ [])) (v ∷ [], (w ∷ [], (u ∷ [], tt))) $ s)
