-- What comes back where writes are undone.
use Rattle.std.proofs.Common.{◌≡◌, List, [], ◌∷◌, ◌++◌, cond, false, refl, sym, ap, ◌∙◌, Option, Some, None}
use Rattle.std.proofs.Common.{Result, Ok, Err, IfOk, OnOk, OnErr}
use Rattle.std.specs.Cmp.Lexicographic.{nat_list_cmp_total}
use Rattle.std.specs.FinMap as finite
use Rattle.std.specs.Ordering.{is_eq}
use Rattle.std.specs.declared.cmp.Ordering.{Ordering}
use Rattle.std.specs.declared.cmp.Ordering.TheVariants.{Less, Equal, Greater}
use Rattle.group_history.specs.declared.mutators.Ran.{Ran}
use Rattle.group_history.specs.declared.mutators.Ran.TheVariants as ran
use Rattle.group_history.specs.declared.mutators.Update.{Update}
use Rattle.group_history.specs.declared.mutators.Update.TheVariants.{Put, Refuse}
use Rattle.group_history.specs.Map.{Bytes, Entries}
use Rattle.group_history.specs.Updating.{UpdatesAs}
use Rattle.map_chunks.proofs.RowLemmas.{cmp, same_key}
use Rattle.change_drafts.specs.Undoing.{undone, with_there}

-- the maps are alike at other keys
abbrev pub IsElsewhere : Entries → Entries → Bytes → Type 0
IsElsewhere m n key = (q : Bytes) → is_eq (cmp q key) ≡ false → finite.get n q ≡ finite.get m q

same_elsewhere : (m n : Entries) (key : Bytes) → n ≡ m → IsElsewhere m n key
same_elsewhere m n key is q h = ap (λ (w : Entries). finite.get w q) is

pub inserted : (m n : Entries) (key v : Bytes) → n ≡ finite.insert m key v → IsElsewhere m n key
inserted m n key v is q h = ap (λ (w : Entries). finite.get w q) is
    ∙ (finite.get-insert nat_list_cmp_total m key v q ∙ ap (λ b. cond b (Some v) (finite.get m q)) h)

pub removed : (m n : Entries) (key : Bytes) → n ≡ finite.remove m key → IsElsewhere m n key
removed m n key is q h = ap (λ (w : Entries). finite.get w q) is
    ∙ (finite.get-remove nat_list_cmp_total m key q ∙ ap (λ b. cond b None (finite.get m q)) h)

updated : (u : Update) (ran : Ran) (m n : Entries) (key : Bytes) → UpdatesAs u key m ran n → IsElsewhere m n key
updated (Put v) ran.Done m n key h = inserted m n key v h
updated (Put v) ran.Unknown m n key h = absurd h
updated (Put v) (ran.Refused c) m n key h = absurd h
updated (Refuse code) (ran.Refused c) m n key h = same_elsewhere m n key h.1
updated (Refuse code) ran.Done m n key h = absurd h
updated (Refuse code) ran.Unknown m n key h = absurd h

-- so they are where a key is written, whether or not the call stops
pub elsewhere_put : {A E : Type 0} (r : Result A E) (m n : Entries) (key v : Bytes) → OnOk r (n ≡ finite.insert m key v)
    → OnErr r (n ≡ m) → IsElsewhere m n key
elsewhere_put (Ok a) m n key v ok err = inserted m n key v ok
elsewhere_put (Err e) m n key v ok err = same_elsewhere m n key err

pub elsewhere_del : {A E : Type 0} (r : Result A E) (m n : Entries) (key : Bytes) → OnOk r (n ≡ finite.remove m key)
    → OnErr r (n ≡ m) → IsElsewhere m n key
elsewhere_del (Ok a) m n key ok err = removed m n key ok
elsewhere_del (Err e) m n key ok err = same_elsewhere m n key err

pub elsewhere_update : {E : Type 0} (P : Update → Type 0) (r : Result Ran E) (m n : Entries) (key : Bytes)
    → IfOk r (λ ran. (u : Update) × P u × UpdatesAs u key m ran n) → OnErr r (n ≡ m) → IsElsewhere m n key
elsewhere_update P (Ok ran) m n key ok err = updated ok.0 ran m n key ok.2
elsewhere_update P (Err e) m n key ok err = same_elsewhere m n key err

get-with : (m : Entries) (key : Bytes) (there : Option Bytes) (q : Bytes)
    → finite.get (with_there m key there) q ≡ cond (is_eq (cmp q key)) there (finite.get m q)
get-with m key None q = finite.get-remove nat_list_cmp_total m key q
get-with m key (Some v) q = finite.get-insert nat_list_cmp_total m key v q

-- a map that differs at one key alone is the old one with what was there
with_old : (m n : Entries) (key : Bytes) → IsElsewhere m n key → with_there n key (finite.get m key) ≡ m
with_old m n key h = finite.same_map nat_list_cmp_total same_key (with_there n key (finite.get m key)) m
    (λ q. get-with n key (finite.get m key) q ∙ by q (cmp q key) refl)
  where
    by : (q : Bytes) (o : Ordering) → cmp q key ≡ o
        → cond (is_eq (cmp q key)) (finite.get m key) (finite.get n q) ≡ finite.get m q
    by q Equal e = ap (λ o. cond (is_eq o) (finite.get m key) (finite.get n q)) e ∙ ap (finite.get m)
        (sym (same_key q key e))
    by q Less e = ap (λ o. cond (is_eq o) (finite.get m key) (finite.get n q)) e ∙ h q (ap is_eq e)
    by q Greater e = ap (λ o. cond (is_eq o) (finite.get m key) (finite.get n q)) e ∙ h q (ap is_eq e)

-- the newest note is put back first
undone-last : (notes : List (Bytes × Option Bytes)) (key : Bytes) (there : Option Bytes) (m : Entries)
    → undone (notes ++ (key, there) ∷ []) m ≡ undone notes (with_there m key there)
undone-last [] key there m = refl
undone-last (note ∷ newer) key there m = ap (λ (w : Entries). with_there w note.0 note.1)
    (undone-last newer key there m)

-- a write at a key is undone by a note of what was there
pub undone-written : (notes more : List (Bytes × Option Bytes)) (key : Bytes) (was m n start : Entries)
    → undone notes was ≡ start → more ≡ notes ++ (key, finite.get was key) ∷ [] → m ≡ was → IsElsewhere m n key
    → undone more n ≡ start
undone-written notes more key was m n start kept noted same h =
    ap (λ (w : List (Bytes × Option Bytes)). undone w n) noted ∙ undone-last notes key (finite.get was key) n
    ∙ ap (λ (w : Entries). undone notes (with_there n key (finite.get w key))) (sym same)
    ∙ ap (undone notes) (with_old m n key h ∙ same) ∙ kept

-- and a note alone changes nothing of what comes back, nor does one for which there was no memory
pub undone-noted : {A E : Type 0} (r : Result A E) (notes more : List (Bytes × Option Bytes)) (key k : Bytes)
    (there : Option Bytes) (was m start : Entries)
    → undone notes was ≡ start → OnOk r (more ≡ notes ++ (k, there) ∷ []) → OnErr r (more ≡ notes) → k ≡ key
    → there ≡ finite.get was key → m ≡ was → undone more m ≡ start
undone-noted (Ok a) notes more key k there was m start kept ok err named found same =
    undone-written notes more key was was m start kept
    (ok ∙ (λ i. notes ++ (named i, found i) ∷ [])) refl (same_elsewhere was m key same)
undone-noted (Err e) notes more key k there was m start kept ok err named found same =
    ap (λ (w : List (Bytes × Option Bytes)). undone w m) err ∙ ap (undone notes) same ∙ kept

-- one note less, where what it says is put back
pub undone_next : (notes rest : List (Bytes × Option Bytes)) (key : Bytes) (there : Option Bytes)
    (was m start : Entries)
    → undone notes was ≡ start → notes ≡ rest ++ (key, there) ∷ [] → m ≡ with_there was key there
    → undone rest m ≡ start
undone_next notes rest key there was m start kept is back =
    ap (undone rest) back ∙ sym (undone-last rest key there was)
    ∙ ap (λ (w : List (Bytes × Option Bytes)). undone w was) (sym is) ∙ kept
