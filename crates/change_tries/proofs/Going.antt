-- Mutations that stay pending, run one after the other.
use Rattle.std.proofs.Common.{◌≡◌, Bool, true, List, [], ◌∷◌, ◌++◌, ℕ, Some, refl, reverse, sym, ap, subst, ◌∙◌}
use Rattle.std.proofs.Common.{append_assoc, arith, get_or}
use Rattle.std.proofs.lemmas.List.Elements.{All-append}
use Rattle.std.proofs.lemmas.List.{reverse-append}
use Rattle.group_history.specs.declared.changes.Change.TheVariants.{Pulled}
use Rattle.group_history.specs.declared.mutations.MutationFields.{MutationFields as Mutation}
use Rattle.group_history.specs.Cookies.{Cookie}
use Rattle.group_history.specs.Map.{Bytes, Entries}
use Rattle.group_history.specs.Meaning.{Meanings}
use Rattle.group_history.specs.Pull.{Pull}
use Rattle.group_history.specs.Pulling.{after_pull}
use Rattle.group_history.specs.Record.{IsAccepted}
use Rattle.group_history.specs.Spelling.{Contents}
use Rattle.group_history.specs.State.{State, replayed}
use Rattle.group_history.proofs.Replays.{replayed-append}
use Rattle.map_tree.specs.Trees.{tree_map}
use Rattle.change_tries.specs.Going.{GoesOnReplaying, HasGone}
use Rattle.change_tries.specs.Runs.{HasNew, IsAskedRun, IsFresh, IsNextOf, Leads, with_draft, left_of}
use Rattle.change_tries.specs.declared.ending.Went.TheVariants as went
use Rattle.change_tries.specs.declared.runs.AskedRun.{AskedRun}
use Rattle.change_tries.specs.declared.runs.Chain.{Chain}
use Rattle.change_tries.specs.declared.runs.Replaying.{Replaying}
use Rattle.change_tries.proofs.Running.{begun, leads_on}

-- it leads to the same state
pub leads_gone : (has : Bytes → Bool) (means : Meanings) (cs : Contents) (after : State) (was now : Replaying)
    (map : Entries)
    → (g : GoesOnReplaying has means cs was now)
    → Leads means cs after was.chain was.ran.items (reverse was.behind.items) map
    → Leads means cs after now.chain now.ran.items (reverse now.behind.items) (replayed means map g.own)
leads_gone has means cs after was now map g l =
    let rest = reverse now.behind.items in let m = replayed means map g.own in
    subst (λ (xs : List Mutation). Leads means cs after now.chain xs rest m) (sym g.ran)
    (subst (λ (h : Chain). Leads means cs after h (was.ran.items ++ g.own) rest m) (sym g.chain)
    (leads_on means cs after was.chain was.ran.items g.own (reverse was.behind.items) rest map g.order l))

pub mapped_gone : (has : Bytes → Bool) (means : Meanings) (cs : Contents) (was now : Replaying) (map : Entries)
    → (g : GoesOnReplaying has means cs was now) → tree_map (with_draft cs was.chain) was.tree ≡ Some map
    → tree_map (with_draft cs now.chain) now.tree ≡ Some (replayed means map g.own)
mapped_gone has means cs was now map g h =
    ap (λ (c : Chain). tree_map (with_draft cs c) now.tree) g.chain ∙ g.mapped map h

-- the last one of a list is the first one of its reverse
pub reverse_last : (xs ys : List Mutation) (x : Mutation) → xs ≡ ys ++ x ∷ [] → reverse xs ≡ x ∷ reverse ys
reverse_last xs ys x is = ap reverse is ∙ reverse-append ys (x ∷ [])

-- one more was run
pub gone_more : (has : Bytes → Bool) (means : Meanings) (cs : Contents) (was now popped next : Replaying) (x : Mutation)
    (map : Entries) → tree_map (with_draft cs was.chain) was.tree ≡ Some map
    → GoesOnReplaying has means cs was now → popped.chain ≡ now.chain → popped.ran ≡ now.ran
    → now.behind.items ≡ popped.behind.items ++ x ∷ []
    → ((m : Entries) → tree_map (with_draft cs now.chain) now.tree ≡ Some m
    → HasGone has means cs popped x m (went.On next))
    → GoesOnReplaying has means cs was next
gone_more has means cs was now popped next x map start g chain ran last went =
    let m = replayed means map g.own in let h = went m (mapped_gone has means cs was now map g start) in
    let same : next.chain ≡ was.chain = h.1 ∙ chain ∙ g.chain in
    record {
      own = g.own ++ x ∷ [];
      had = All-append (λ (y : Mutation). has y.name ≡ true) g.own (x ∷ []) g.had (λ k d low.
          let first : k ≡ 0 = omega (arith, low) in
          subst (λ (n : ℕ). has (get_or (x ∷ []) n d).name ≡ true) (sym first) h.0);
      order = append_assoc g.own (x ∷ []) (reverse next.behind.items)
          ∙ ap (λ (w : List Mutation). g.own ++ w) (ap (λ v. x ∷ reverse v.items) h.2
          ∙ sym (reverse_last now.behind.items popped.behind.items x last)) ∙ g.order;
      chain = same;
      ran = h.3 ∙ ap (λ v. v.items ++ x ∷ []) ran ∙ ap (λ (w : List Mutation). w ++ x ∷ []) g.ran
          ∙ append_assoc was.ran.items g.own (x ∷ []);
      mapped = λ n q. ap (λ (c : Chain). tree_map (with_draft cs c) next.tree) (sym (chain ∙ g.chain))
          ∙ (went (replayed means n g.own) (mapped_gone has means cs was now n g q)).4
          ∙ ap (λ (e : Entries). Some e) (sym (replayed-append means n g.own (x ∷ [])));
    }

-- the run that is asked for
pub asked_gone : (has : Bytes → Bool) (means : Meanings) (cs : Contents) (s : State) (last : ℕ) (ticket : Cookie)
    (r : Pull)
    (now popped : Replaying) (x : Mutation) (run : AskedRun) (m : Entries)
    → Leads means cs (after_pull s r) now.chain now.ran.items (reverse now.behind.items) m → HasNew now.chain
    → IsAccepted means s (Pulled ticket r) → popped.chain ≡ now.chain → popped.ran ≡ now.ran
    → now.behind.items ≡ popped.behind.items ++ x ∷ [] → HasGone has means cs popped x m (went.Asked run)
    → IsAskedRun means cs s last (Pulled ticket r) run × IsFresh has cs run
asked_gone has means cs s last ticket r now popped x run m l new accepted chain ran behind h =
    let same : run.chain ≡ now.chain = h.1 ∙ chain in let after = after_pull s r in
    let b = begun (with_draft cs run.chain) run.map run.map.tree m refl h.5
    (ap (λ (c : Chain). tree_map (with_draft cs c) run.map.tree) h.1 ∙ h.6) in
    let list : left_of run ≡ reverse now.behind.items =
    ap (λ (y : Mutation). y ∷ reverse run.behind.items) h.4 ∙ ap (λ v. x ∷ reverse v.items) h.2
    ∙ sym (reverse_last now.behind.items popped.behind.items x behind) in
    let before : run.ran.items ≡ now.ran.items = h.3 ∙ ap (λ v. v.items) ran in (
      record {
        leads = subst (λ (e : Entries). Leads means cs after run.chain run.ran.items (left_of run) e) (sym b.2)
            (subst (λ (ys : List Mutation). Leads means cs after run.chain run.ran.items ys m) (sym list)
            (subst (λ (ys : List Mutation). Leads means cs after run.chain ys (reverse now.behind.items) m) (sym before)
            (subst (λ (c : Chain). Leads means cs after c now.ran.items (reverse now.behind.items) m) (sym same) l)));
        map = b.0;
        judged = (accepted, subst HasNew (sym same) new);
      },
      (b.1 ∙ sym b.2, ap (λ (y : Mutation). has y.name) h.4 ∙ h.0),
    )

-- is the next one of those that are left
pub next_gone : (has : Bytes → Bool) (means : Meanings) (cs : Contents) (was now popped : Replaying) (x : Mutation)
    (run : AskedRun) (map : Entries) → (g : GoesOnReplaying has means cs was now)
    → now.behind.items ≡ popped.behind.items ++ x ∷ []
    → HasGone has means cs popped x (replayed means map g.own) (went.Asked run)
    → IsNextOf has means cs (reverse was.behind.items) map run
next_gone has means cs was now popped x run map g behind h = record {
  own = g.own;
  had = g.had;
  order = ap (λ (w : List Mutation). g.own ++ w) (ap (λ (y : Mutation). y ∷ reverse run.behind.items) h.4
      ∙ ap (λ v. x ∷ reverse v.items) h.2 ∙ sym (reverse_last now.behind.items popped.behind.items x behind)) ∙ g.order;
  start = (begun (with_draft cs run.chain) run.map run.map.tree (replayed means map g.own) refl h.5
      (ap (λ (c : Chain). tree_map (with_draft cs c) run.map.tree) h.1 ∙ h.6)).2;
}
