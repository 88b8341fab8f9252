use Rattle.std.proofs.Common.{◌≡◌, ◌≤◌, ◌++◌, ◌⊎◌, inl, inr, ◌∙◌, Bool, List, ℕ, Option, Some, None}
use Rattle.std.proofs.Common.{length, take, drop, filter, sym, ap, subst}
use Rattle.std.proofs.lemmas.List.{take_all, take-append-le, take-append-drop}
use Rattle.std.proofs.lemmas.List.Elements.{filter-append}
use Rattle.std.specs.FinMap as map
use Rattle.std.specs.Option.{IsSomeAnd}
use Rattle.group_history.specs.Scans.{is_in, limited, rows_of}
use Rattle.group_history.proofs.Places.{entries_made}
use Rattle.group_history.proofs.text_map.TextMap.rows.Goals as goal
use Rattle.group_history.proofs.text_map.TextMap.rows.Goals.{else-loop-key-test, then-loop-key-test+then-is_reached}
use Rattle.group_history.proofs.text_map.TextMap.rows.Goals.{in-Some, in_default}

-- rows past the limit change nothing
enough : {A : Type 0} (limit : Option ℕ) (p : A → Bool) (found es : List A) (i : ℕ) → found ≡ filter p (take i es)
    → (length es ≤ i) ⊎ IsSomeAnd limit (λ most. most ≤ length found)
    → limited limit found ≡ limited limit (filter p es)
enough limit p found es i is (inl end) = ap (limited limit) (is ∙ ap (filter p) (take_all i es end))
enough None p found es i is (inr full) = absurd full
enough (Some most) p found es i is (inr full) =
    sym (take-append-le most found (filter p (drop i es)) full)
    ∙ ap (take most) (ap (λ l. l ++ filter p (drop i es)) is ∙ sym (filter-append p (take i es) (drop i es))
    ∙ ap (filter p) (take-append-drop i es))

pub returns : goal.returns
returns g c =
    let limit = c.args.scan.now.limit in
    let found = c.loop-key.rows.items in
    let ends : (length c.deref-key-items.result.now ≤ c.loop-key.key-index)
    ⊎ IsSomeAnd limit (λ most. most ≤ length found) = elim c.loop-key-test.branch [
      | else-loop-key-test w ↦ inl w.loop-key-test.false
      | then-loop-key-test+then-is_reached w ↦ inr (subst (λ n. IsSomeAnd limit (λ most. most ≤ n))
          (w.len.ensures ∙ c.loop-key.rows.ok.0) (w.is_reached.ensures w.if-is_reached.true))
    ] in
    let all : limited limit found ≡ rows_of c.args.scan.now c.args.self.now =
    enough limit (λ e. is_in c.args.scan.now e.0) found c.deref-key-items.result.now c.loop-key.key-index
    c.loop-key.invariant ends ∙ ap (λ es. limited limit (filter (λ e. is_in c.args.scan.now e.0) es))
    (c.deref-key-items.ensures.value ∙ sym (entries_made c.self.inside.rows.items c.self.invariant)
    ∙ ap map.entries c.self.view_is) in
    elim c.match-scan.branch [
      | in-Some w ↦ ap (λ v. v.items) w.rows-is ∙ w.truncate.ensures.items ∙ ap (λ l. limited l found)
          (sym w.in-Some.is) ∙ all
      | in_default w ↦ ap (λ v. v.items) w.rows-is ∙ ap (λ l. limited l found) (sym w.in_default.is) ∙ all
    ]
