use Rattle.std.proofs.Common.{◌≡◌, ◌∙◌, ◌++◌, ◌<◌, ◌+◌, ◌-◌, [], ◌∷◌, ap, sym, subst, arith, length, insert, Some, None}
use Rattle.std.proofs.Common.{get_or, refl}
use Rattle.std.specs.Prelude.{IsSome}
use Rattle.group_history.specs.Rows.{paired, keys_of, values_of}
use Rattle.map_nodes.specs.Inside.Halves.{with_half, IsHalf}
use Rattle.map_chunks.specs.Inserting.{Parted}
use Rattle.map_nodes.specs.Nodes.{Kids, HeadIs, kids_marks, kids_pieces, sunk}
use Rattle.map_chunks.specs.Shown.{own, Seen}
use Rattle.map_nodes.specs.declared.nodes.OwnChild.TheVariants.{Own}
use Rattle.map_nodes.proofs.CountLemmas.{kept_alone, kept_halves}
use Rattle.map_nodes.proofs.KidLemmas.{finished_alone, kid_halves, putting, chosen_are}
use Rattle.map_nodes.proofs.PathLemmas.{ninth_opened, room_opened}
use Rattle.map_chunks.proofs.ListLemmas.{length-paired}
use Rattle.map_nodes.proofs.PutLevels.{keys-halves, keys-pairs, values-halves, values-pairs}
use Rattle.map_nodes.specs.Levels.{parting}
use Rattle.group_history.proofs.Pairs.{keys_of-paired, values_of-paired}
use Rattle.map_nodes.proofs.nodes.putting.middles.finish.Goals as goal

pub returns-in_default-clause-shape : goal.returns-in_default-clause-shape
returns-in_default-clause-shape c =
    let keys = c.args.keys.now.texts in
    let kids = c.args.kids.now.items in
    let es : Kids = with_half c.args.split.place c.args.split.half (paired keys kids) in
    let e : es ≡ paired keys kids = ap (λ h. with_half c.args.split.place h (paired keys kids)) c.in_default.is in
    let n = ap length e ∙ length-paired keys kids c.requires.fits.pairs in
    finished_alone c.args.depth es keys kids (sym e, c.requires.fits.pairs) c.requires.fits.all c.requires.fits.order
    (omega (arith, n, c.requires.fits.few)) (omega (arith, n, c.requires.fits.within))

pub returns-in_default-insert_entry-clause-shape : goal.returns-in_default-insert_entry-clause-shape
returns-in_default-insert_entry-clause-shape c =
    let keys = c.args.keys.now.texts in
    let kids = c.args.kids.now.items in
    let es : Kids = with_half c.args.split.place c.args.split.half (paired keys kids) in
    let hf : IsHalf (c.requires.fits.split.0 + 1) (c.args.depth - 1) (Some c.in-Some.half) = subst
    (IsHalf (c.requires.fits.split.0 + 1) (c.args.depth - 1)) c.in-Some.is c.requires.fits.split.1 in
    let p = putting keys kids c.args.split.place c.requires.fits.split.0
    (c.args.depth - 1) c.in-Some.half c.in-Some-pop.first c.pop.new.self.items c.requires.fits.pairs
    c.requires.fits.within hf c.in-Some-pop.ensures.items in
    let back : with_half c.args.split.place (Some c.in-Some.half) (paired keys kids)
    ≡ es = ap (λ h. with_half c.args.split.place h (paired keys kids)) (sym c.in-Some.is) in
    let q : insert (paired keys kids) (c.args.split.place + 1) (c.in-Some-pop.first, Own c.in-Some.half.node)
    ≡ es = p.es_is ∙ back in
    let h = subst (λ (w : Kids). Parted w c.insert_entry.new.keys.texts c.insert_entry.new.entries.items None) q
    c.in_default-insert_entry.ensures in
    finished_alone c.args.depth es c.insert_entry.new.keys.texts c.insert_entry.new.entries.items h.0
    c.requires.fits.all c.requires.fits.order h.1 (subst (λ w. 0 < length w) back p.filled)

pub invariant_of-upper : goal.invariant_of-upper
invariant_of-upper c =
    let keys = c.args.keys.now.texts in
    let kids = c.args.kids.now.items in
    let es : Kids = with_half c.args.split.place c.args.split.half (paired keys kids) in
    let hf : IsHalf (c.requires.fits.split.0 + 1) (c.args.depth - 1) (Some c.in-Some.half) = subst
    (IsHalf (c.requires.fits.split.0 + 1) (c.args.depth - 1)) c.in-Some.is c.requires.fits.split.1 in
    let p = putting keys kids c.args.split.place c.requires.fits.split.0
    (c.args.depth - 1) c.in-Some.half c.in-Some-pop.first c.pop.new.self.items c.requires.fits.pairs
    c.requires.fits.within hf c.in-Some-pop.ensures.items in
    let back : with_half c.args.split.place (Some c.in-Some.half) (paired keys kids)
    ≡ es = ap (λ h. with_half c.args.split.place h (paired keys kids)) (sym c.in-Some.is) in
    let q : insert (paired keys kids) (c.args.split.place + 1) (c.in-Some-pop.first, Own c.in-Some.half.node)
    ≡ es = p.es_is ∙ back in
    let h = subst (λ (w : Kids). Parted w c.insert_entry.new.keys.texts c.insert_entry.new.entries.items
    (Some (c.in-Some-insert_entry.upper_keys.texts, c.in-Some-insert_entry.upper.items))) q
    c.in-Some-insert_entry.ensures in
    let b = kid_halves (c.args.depth - 1) es c.insert_entry.new.keys.texts c.insert_entry.new.entries.items
    c.in-Some-insert_entry.upper_keys.texts c.in-Some-insert_entry.upper.items h c.requires.fits.all
    c.requires.fits.order in
    (b.right.1, (c.requires.fits.above, b.right.2, b.right.0, b.right.3))

pub returns-clause-shape : goal.returns-clause-shape
returns-clause-shape c =
    let keys = c.args.keys.now.texts in
    let kids = c.args.kids.now.items in
    let es : Kids = with_half c.args.split.place c.args.split.half (paired keys kids) in
    let hf : IsHalf (c.requires.fits.split.0 + 1) (c.args.depth - 1) (Some c.in-Some.half) = subst
    (IsHalf (c.requires.fits.split.0 + 1) (c.args.depth - 1)) c.in-Some.is c.requires.fits.split.1 in
    let p = putting keys kids c.args.split.place c.requires.fits.split.0
    (c.args.depth - 1) c.in-Some.half c.in-Some-pop.first c.pop.new.self.items c.requires.fits.pairs
    c.requires.fits.within hf c.in-Some-pop.ensures.items in
    let back : with_half c.args.split.place (Some c.in-Some.half) (paired keys kids)
    ≡ es = ap (λ h. with_half c.args.split.place h (paired keys kids)) (sym c.in-Some.is) in
    let q : insert (paired keys kids) (c.args.split.place + 1) (c.in-Some-pop.first, Own c.in-Some.half.node)
    ≡ es = p.es_is ∙ back in
    let h = subst (λ (w : Kids). Parted w c.insert_entry.new.keys.texts c.insert_entry.new.entries.items
    (Some (c.in-Some-insert_entry.upper_keys.texts, c.in-Some-insert_entry.upper.items))) q
    c.in-Some-insert_entry.ensures in
    let b = kid_halves (c.args.depth - 1) es c.insert_entry.new.keys.texts c.insert_entry.new.entries.items
    c.in-Some-insert_entry.upper_keys.texts c.in-Some-insert_entry.upper.items h c.requires.fits.all
    c.requires.fits.order in (
      ap (λ (s : Seen). kids_pieces (c.args.depth - 1)
          (paired c.insert_entry.new.keys.texts c.insert_entry.new.entries.items) ++ s.pieces)
          c.housed.ensures ∙ b.pieces,
      b.left.0,
      b.left.1,
      b.left.2,
      b.left.3,
    )

pub returns-clause-half : goal.returns-clause-half
returns-clause-half c copies is firsts =
    let keys = c.args.keys.now.texts in
    let kids = c.args.kids.now.items in
    let es : Kids = with_half c.args.split.place c.args.split.half (paired keys kids) in
    let hf : IsHalf (copies + 1) (c.args.depth - 1) (Some c.in-Some.half) = subst
    (IsHalf (copies + 1) (c.args.depth - 1)) c.in-Some.is is in
    let p = putting keys kids c.args.split.place copies
    (c.args.depth - 1) c.in-Some.half c.in-Some-pop.first c.pop.new.self.items c.requires.fits.pairs
    c.requires.fits.within hf c.in-Some-pop.ensures.items in
    let back : with_half c.args.split.place (Some c.in-Some.half) (paired keys kids)
    ≡ es = ap (λ h. with_half c.args.split.place h (paired keys kids)) (sym c.in-Some.is) in
    let q : insert (paired keys kids) (c.args.split.place + 1) (c.in-Some-pop.first, Own c.in-Some.half.node)
    ≡ es = p.es_is ∙ back in
    let h = subst (λ (w : Kids). Parted w c.insert_entry.new.keys.texts c.insert_entry.new.entries.items
    (Some (c.in-Some-insert_entry.upper_keys.texts, c.in-Some-insert_entry.upper.items))) q
    c.in-Some-insert_entry.ensures in
    let b = kid_halves (c.args.depth - 1) es c.insert_entry.new.keys.texts c.insert_entry.new.entries.items
    c.in-Some-insert_entry.upper_keys.texts c.in-Some-insert_entry.upper.items h c.requires.fits.all
    c.requires.fits.order in
    let n : get_or (keys_of es) 8 [] ≡ get_or (insert keys (c.args.split.place + 1) c.in-Some-pop.first) 8 [] = ap
    (λ w. get_or (keys_of w) 8 []) (sym back) ∙ p.ninth in
    let full : length keys ≡ 16 = omega (arith, h.2, p.whole, ap length back) in (
      ap (λ (s : Seen). s.depth) c.housed.ensures,
      (
        get_or (keys_of es) 8 [],
        subst (λ (s : Seen). HeadIs (get_or (keys_of es) 8 []) s.pieces) (sym c.housed.ensures) b.head,
        chosen_are c.args.split.place copies c.in-Some-pop.first (get_or (keys_of es) 8 [])
            (get_or (insert keys (c.args.split.place + 1) c.in-Some-pop.first) 8 []) c.pop.new.self.items
            c.opened-firsts.result.firsts.items c.chosen.result.items
            n p.given_are p.at_eight c.chosen.ensures.at c.chosen.ensures.other
            (λ z. ninth_opened copies keys (c.args.split.place + 1) c.in-Some-pop.first c.args.split.room
            c.opened-firsts.result
            (c.requires.room (subst IsSome (sym c.in-Some.is) refl)) c.opened-firsts.ensures
            (firsts (subst IsSome (sym c.in-Some.is) refl) c.in-Some-pop.first z) full c.in-Some-pop.first (λ y. refl)),
      ),
    )

pub returns-in_default-clause-parted : goal.returns-in_default-clause-parted
returns-in_default-clause-parted c =
    let keys = c.args.keys.now.texts in
    let kids = c.args.kids.now.items in
    let e : paired keys kids ≡ with_half c.args.split.place c.args.split.half (paired keys kids) =
    ap (λ h. with_half c.args.split.place h (paired keys kids)) (sym c.in_default.is) in (
      sym (keys_of-paired keys kids c.requires.fits.pairs) ∙ ap keys_of e,
      sym (values_of-paired keys kids c.requires.fits.pairs) ∙ ap values_of e,
    )

pub returns-in_default-insert_entry-clause-parted : goal.returns-in_default-insert_entry-clause-parted
returns-in_default-insert_entry-clause-parted c =
    let keys = c.args.keys.now.texts in
    let kids = c.args.kids.now.items in
    let es : Kids = with_half c.args.split.place c.args.split.half (paired keys kids) in
    let hf : IsHalf (c.requires.fits.split.0 + 1) (c.args.depth - 1) (Some c.in-Some.half) = subst
    (IsHalf (c.requires.fits.split.0 + 1) (c.args.depth - 1)) c.in-Some.is c.requires.fits.split.1 in
    let p = putting keys kids c.args.split.place c.requires.fits.split.0
    (c.args.depth - 1) c.in-Some.half c.in-Some-pop.first c.pop.new.self.items c.requires.fits.pairs
    c.requires.fits.within hf c.in-Some-pop.ensures.items in
    let back : with_half c.args.split.place (Some c.in-Some.half) (paired keys kids)
    ≡ es = ap (λ h. with_half c.args.split.place h (paired keys kids)) (sym c.in-Some.is) in
    let q : insert (paired keys kids) (c.args.split.place + 1) (c.in-Some-pop.first, Own c.in-Some.half.node)
    ≡ es = p.es_is ∙ back in
    let h = subst (λ (w : Kids). Parted w c.insert_entry.new.keys.texts c.insert_entry.new.entries.items None) q
    c.in_default-insert_entry.ensures in (
      keys-pairs es c.insert_entry.new.keys.texts c.insert_entry.new.entries.items h.0,
      values-pairs es c.insert_entry.new.keys.texts c.insert_entry.new.entries.items h.0,
    )

pub returns-clause-parted : goal.returns-clause-parted
returns-clause-parted c =
    let keys = c.args.keys.now.texts in
    let kids = c.args.kids.now.items in
    let es : Kids = with_half c.args.split.place c.args.split.half (paired keys kids) in
    let hf : IsHalf (c.requires.fits.split.0 + 1) (c.args.depth - 1) (Some c.in-Some.half) = subst
    (IsHalf (c.requires.fits.split.0 + 1) (c.args.depth - 1)) c.in-Some.is c.requires.fits.split.1 in
    let p = putting keys kids c.args.split.place c.requires.fits.split.0
    (c.args.depth - 1) c.in-Some.half c.in-Some-pop.first c.pop.new.self.items c.requires.fits.pairs
    c.requires.fits.within hf c.in-Some-pop.ensures.items in
    let back : with_half c.args.split.place (Some c.in-Some.half) (paired keys kids)
    ≡ es = ap (λ h. with_half c.args.split.place h (paired keys kids)) (sym c.in-Some.is) in
    let q : insert (paired keys kids) (c.args.split.place + 1) (c.in-Some-pop.first, Own c.in-Some.half.node)
    ≡ es = p.es_is ∙ back in
    let h = subst (λ (w : Kids). Parted w c.insert_entry.new.keys.texts c.insert_entry.new.entries.items
    (Some (c.in-Some-insert_entry.upper_keys.texts, c.in-Some-insert_entry.upper.items))) q
    c.in-Some-insert_entry.ensures in
    let k = keys-halves es c.insert_entry.new.keys.texts c.insert_entry.new.entries.items
    c.in-Some-insert_entry.upper_keys.texts c.in-Some-insert_entry.upper.items h in (
      k.0,
      k.1,
      (
        c.in-Some-insert_entry.upper.items,
        values-halves es c.insert_entry.new.keys.texts c.insert_entry.new.entries.items
            c.in-Some-insert_entry.upper_keys.texts c.in-Some-insert_entry.upper.items h,
        ap (λ (s : Seen). s.marks) c.housed.ensures
            ∙ ap (λ w. own 0 (parting w) ∷ sunk (kids_marks (c.args.depth - 1) c.in-Some-insert_entry.upper.items)) k.2,
      ),
    )

pub returns-in_default-insert_entry-clause-entries : goal.returns-in_default-insert_entry-clause-entries
returns-in_default-insert_entry-clause-entries c =
    let keys = c.args.keys.now.texts in
    let kids = c.args.kids.now.items in
    let es : Kids = with_half c.args.split.place c.args.split.half (paired keys kids) in
    let hf : IsHalf (c.requires.fits.split.0 + 1) (c.args.depth - 1) (Some c.in-Some.half) = subst
    (IsHalf (c.requires.fits.split.0 + 1) (c.args.depth - 1)) c.in-Some.is c.requires.fits.split.1 in
    let p = putting keys kids c.args.split.place c.requires.fits.split.0
    (c.args.depth - 1) c.in-Some.half c.in-Some-pop.first c.pop.new.self.items c.requires.fits.pairs
    c.requires.fits.within hf c.in-Some-pop.ensures.items in
    let back : with_half c.args.split.place (Some c.in-Some.half) (paired keys kids)
    ≡ es = ap (λ h. with_half c.args.split.place h (paired keys kids)) (sym c.in-Some.is) in
    let q : insert (paired keys kids) (c.args.split.place + 1) (c.in-Some-pop.first, Own c.in-Some.half.node)
    ≡ es = p.es_is ∙ back in
    let h = subst (λ (w : Kids). Parted w c.insert_entry.new.keys.texts c.insert_entry.new.entries.items None) q
    c.in_default-insert_entry.ensures in
    kept_alone es c.insert_entry.new.keys.texts c.insert_entry.new.entries.items (length keys) h
    (sym (ap length back) ∙ p.whole)

pub returns-clause-entries : goal.returns-clause-entries
returns-clause-entries c =
    let keys = c.args.keys.now.texts in
    let kids = c.args.kids.now.items in
    let es : Kids = with_half c.args.split.place c.args.split.half (paired keys kids) in
    let hf : IsHalf (c.requires.fits.split.0 + 1) (c.args.depth - 1) (Some c.in-Some.half) = subst
    (IsHalf (c.requires.fits.split.0 + 1) (c.args.depth - 1)) c.in-Some.is c.requires.fits.split.1 in
    let p = putting keys kids c.args.split.place c.requires.fits.split.0
    (c.args.depth - 1) c.in-Some.half c.in-Some-pop.first c.pop.new.self.items c.requires.fits.pairs
    c.requires.fits.within hf c.in-Some-pop.ensures.items in
    let back : with_half c.args.split.place (Some c.in-Some.half) (paired keys kids)
    ≡ es = ap (λ h. with_half c.args.split.place h (paired keys kids)) (sym c.in-Some.is) in
    let q : insert (paired keys kids) (c.args.split.place + 1) (c.in-Some-pop.first, Own c.in-Some.half.node)
    ≡ es = p.es_is ∙ back in
    let h = subst (λ (w : Kids). Parted w c.insert_entry.new.keys.texts c.insert_entry.new.entries.items
    (Some (c.in-Some-insert_entry.upper_keys.texts, c.in-Some-insert_entry.upper.items))) q
    c.in-Some-insert_entry.ensures in
    let k = kept_halves es c.insert_entry.new.keys.texts c.insert_entry.new.entries.items
    c.in-Some-insert_entry.upper_keys.texts c.in-Some-insert_entry.upper.items (length keys) h
    (sym (ap length back) ∙ p.whole) in
    (k.0, k.1, ap (λ (s : Seen). s.entries) c.housed.ensures ∙ k.2)

pub housed-requires : goal.housed-requires
housed-requires c =
    let keys = c.args.keys.now.texts in
    let kids = c.args.kids.now.items in
    let es : Kids = with_half c.args.split.place c.args.split.half (paired keys kids) in
    let hf : IsHalf (c.requires.fits.split.0 + 1) (c.args.depth - 1) (Some c.in-Some.half) = subst
    (IsHalf (c.requires.fits.split.0 + 1) (c.args.depth - 1)) c.in-Some.is c.requires.fits.split.1 in
    let p = putting keys kids c.args.split.place c.requires.fits.split.0
    (c.args.depth - 1) c.in-Some.half c.in-Some-pop.first c.pop.new.self.items c.requires.fits.pairs
    c.requires.fits.within hf c.in-Some-pop.ensures.items in
    let back : with_half c.args.split.place (Some c.in-Some.half) (paired keys kids)
    ≡ es = ap (λ h. with_half c.args.split.place h (paired keys kids)) (sym c.in-Some.is) in
    let q : insert (paired keys kids) (c.args.split.place + 1) (c.in-Some-pop.first, Own c.in-Some.half.node)
    ≡ es = p.es_is ∙ back in
    let h = subst (λ (w : Kids). Parted w c.insert_entry.new.keys.texts c.insert_entry.new.entries.items
    (Some (c.in-Some-insert_entry.upper_keys.texts, c.in-Some-insert_entry.upper.items))) q
    c.in-Some-insert_entry.ensures in
    (room_opened (length keys) c.args.split.room c.opened-firsts.result
    (c.requires.room (subst IsSome (sym c.in-Some.is) refl))
    c.opened-firsts.ensures).home (omega (arith, h.2, p.whole, ap length back))

pub insert_entry-requires-clause-pairs : goal.insert_entry-requires-clause-pairs
insert_entry-requires-clause-pairs c = c.requires.fits.pairs

pub insert_entry-requires-clause-few : goal.insert_entry-requires-clause-few
insert_entry-requires-clause-few c = c.requires.fits.few

pub insert_entry-requires-clause-within : goal.insert_entry-requires-clause-within
insert_entry-requires-clause-within c = omega (arith, c.requires.fits.within)

pub insert_entry-requires-clause-room : goal.insert_entry-requires-clause-room
insert_entry-requires-clause-room c =
    (c.requires.keys_room (subst IsSome (sym c.in-Some.is) refl), c.requires.kids_room)

pub insert_entry-requires-clause-spare_keys : goal.insert_entry-requires-clause-spare_keys
insert_entry-requires-clause-spare_keys c =
    (room_opened (length c.args.keys.now.texts) c.args.split.room c.opened-firsts.result
    (c.requires.room (subst IsSome (sym c.in-Some.is) refl)) c.opened-firsts.ensures).empty.0

pub insert_entry-requires-clause-spare_entries : goal.insert_entry-requires-clause-spare_entries
insert_entry-requires-clause-spare_entries c =
    (room_opened (length c.args.keys.now.texts) c.args.split.room c.opened-firsts.result
    (c.requires.room (subst IsSome (sym c.in-Some.is) refl)) c.opened-firsts.ensures).empty.1

pub insert_entry-requires-clause-spare_room : goal.insert_entry-requires-clause-spare_room
insert_entry-requires-clause-spare_room c =
    (room_opened (length c.args.keys.now.texts) c.args.split.room c.opened-firsts.result
    (c.requires.room (subst IsSome (sym c.in-Some.is) refl)) c.opened-firsts.ensures).spare
