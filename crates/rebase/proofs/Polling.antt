-- What a watch has told: rows that are the same one by one are equal, and a root's rows stay.
use Rattle.std.proofs.Common.{◌≡◌, ◌⊎◌, inl, inr, ℕ, ◌&&◌, Bool, true, false, List, Option, None, Some}
use Rattle.std.proofs.Common.{[], ◌∷◌, ◌++◌, if◌then◌else◌, refl, sym, ap, ◌∙◌, subst}
use Rattle.std.specs.List.{Contains}
use Rattle.std.specs.Option.{unwrap_or}
use Rattle.std.specs.Prelude.{IfNone, IfSome, option_and_then, option_map}
use Rattle.std.specs.Bool.{Decides}
use Rattle.std.specs.FinMap as finite
use Rattle.std.specs.Cmp.Lexicographic.{pointwise_decides, bytes_decides}
use Rattle.std.proofs.lemmas.Bool.{and_from}
use mathlib.Core.List.{IsPrefix}
use Rattle.group_history.specs.declared.scans.Scan.{Scan}
use Rattle.group_history.specs.Map.{Bytes, Entries}
use Rattle.group_history.specs.Map.{same_text as same_bytes}
use Rattle.group_history.specs.Scans.{limited, rows_of}
use Rattle.group_history.specs.Refs.{stamp_of}
use Rattle.group_history.specs.Spelling.{Contents, map_at}
use Rattle.group_history.proofs.Folding.{and_then-some}
use Rattle.group_history.proofs.Lists.{no_element}
use Rattle.head_word.specs.declared.entry.Entry.{Entry}
use Rattle.head_word.specs.Books.{drawn}
use Rattle.head_word.proofs.BookLaws.{drawn_begins}
use Rattle.commit_graph.proofs.Spelled.{map-grown}
use Rattle.map_chunks.specs.Covers.{rows_together}
use Rattle.map_chunks.specs.Scanning.{scanned}
use Rattle.map_chunks.specs.Shown.{chunk_rows}
use Rattle.map_chunks.proofs.CoverLemmas.{cover_same}
use Rattle.map_chunks.proofs.JoinLemmas.{some_is}
use Rattle.map_chunks.proofs.ScanLemmas.{chunk_rows-kept}
use Rattle.transactions.specs.Spans.{AreSpans}
use Rattle.transactions.specs.declared.spans.Span.{Span}
use Rattle.transactions.proofs.RowLemmas.{pair_is}
use Rattle.transactions.proofs.SpanLemmas.{spans_known}
use Rattle.rebase.specs.declared.watching.LastAnswer.{LastAnswer}
use Rattle.rebase.specs.declared.watching.Polled.TheVariants as polled
use Rattle.group_history.specs.Rows.{Rows}
use Rattle.rebase.specs.Inside.Watching.{AreRead, CoversMap}
use Rattle.rebase.specs.Watching.{poll_reply, same_rows, was_told}

-- what is there of what a function makes
mapped : {A B : Type 0} (f : A → B) (o : Option A) (b : B) → option_map f o ≡ Some b
    → (a : A) × (o ≡ Some a) × (f a ≡ b)
mapped f None b h = absurd (cc h)
mapped f (Some a) b h = (a, refl, some_is h)

one_map : {m n : Entries} (o : Option Entries) → o ≡ Some m → o ≡ Some n → m ≡ n
one_map o was is = cc (was, is)

-- what is read at a root by two who know one book is the same
pub read_again : (mine theirs : List Entry) (root at : ℕ) (m n : Entries) → IsPrefix mine theirs ⊎ IsPrefix theirs mine
    → map_at (drawn mine) root ≡ Some m → map_at (drawn theirs) at ≡ Some n → root ≡ at → m ≡ n
read_again mine theirs root at m n (inl more) was is same =
    one_map (map_at (drawn theirs) root) (map-grown (drawn mine) (drawn theirs) root m
    (drawn_begins mine theirs more) was) (ap (map_at (drawn theirs)) same ∙ is)
read_again mine theirs root at m n (inr more) was is same =
    one_map (map_at (drawn mine) root) was
    (ap (map_at (drawn mine)) same ∙ map-grown (drawn theirs) (drawn mine) at n (drawn_begins theirs mine more) is)

-- where two who know one book have a scan's rows in the same chunks, they have the same rows
pub covered_again : (mine theirs : List Entry) (scan : Scan) (ks js : List ℕ) (m n : Entries)
    → IsPrefix mine theirs ⊎ IsPrefix theirs mine → CoversMap (drawn mine) scan ks m
    → CoversMap (drawn theirs) scan js n → ks ≡ js → rows_of scan m ≡ rows_of scan n
covered_again mine theirs scan ks js m n (inl more) was is same =
    ap (limited scan.limit) (cover_same scan (drawn mine) (drawn theirs) ks (scanned scan (finite.entries m))
    (scanned scan (finite.entries n)) (drawn_begins mine theirs more) was
    (subst (λ w. CoversMap (drawn theirs) scan w n) (sym same) is))
covered_again mine theirs scan ks js m n (inr more) was is same =
    ap (limited scan.limit) (sym (cover_same scan (drawn theirs) (drawn mine) ks (scanned scan (finite.entries n))
    (scanned scan (finite.entries m)) (drawn_begins theirs mine more)
    (subst (λ w. CoversMap (drawn theirs) scan w n) (sym same) is) was))

-- WHERE MORE HAS BEEN SEEN

-- chunks have their rows still
together_kept : (old new : Contents) (ks : List ℕ) (rows : Rows) → IsPrefix old new
    → rows_together old ks ≡ Some rows → rows_together new ks ≡ Some rows
together_kept old new [] rows g h = h
together_kept old new (k ∷ ks) rows g h =
    let a = and_then-some (chunk_rows old k)
    (λ (front : Rows). option_map (λ more. front ++ more) (rows_together old ks)) rows h in
    let b = mapped (λ (more : Rows). a.0 ++ more) (rows_together old ks) rows a.2 in
    ap (option_and_then (λ (front : Rows). option_map (λ more. front ++ more) (rows_together new ks)))
    (chunk_rows-kept old new k a.0 g a.1)
    ∙ ap (option_map (λ more. a.0 ++ more)) (together_kept old new ks b.0 g b.1) ∙ ap (λ w. Some w) b.2

-- so they have the rows of a scan
pub covers_kept : (old new : Contents) (scan : Scan) (ks : List ℕ) (m : Entries) → IsPrefix old new
    → CoversMap old scan ks m → CoversMap new scan ks m
covers_kept old new scan ks m g h =
    let a = mapped (scanned scan) (rows_together old ks) (scanned scan (finite.entries m)) h in
    ap (option_map (scanned scan)) (together_kept old new ks a.0 g a.1) ∙ ap (λ w. Some w) a.2

-- rows that were read stay, with all that is kept of them
pub read_kept : (mine theirs : List Entry) (scan : Scan) (last : Option LastAnswer) → IsPrefix mine theirs
    → AreRead (drawn mine) scan last → AreRead (drawn theirs) scan last
read_kept mine theirs scan None more read = read
read_kept mine theirs scan (Some told) more read =
    let p = drawn_begins mine theirs more in (
      read.0,
      map-grown (drawn mine) (drawn theirs) (stamp_of told.root) read.0 p read.1,
      read.2,
      covers_kept (drawn mine) (drawn theirs) scan told.cover read.0 p read.3,
      spans_known scan (drawn mine) (drawn theirs) told.rows told.spans p read.4,
    )

-- no spans say nothing
pub spans_none : (scan : Scan) (contents : Contents) (rows : Rows) (spans : List Span) → spans ≡ []
    → AreSpans scan contents rows spans
spans_none scan contents rows spans none s met = absurd (no_element s (subst (λ w. Contains w s) none met))

both : (a b : Bool) → (a && b) ≡ true → (a ≡ true) × (b ≡ true)
both true b h = (refl, h)
both false b h = absurd cc

row_decides : (x y : Bytes × Bytes) → Decides (same_bytes x.0 y.0 && same_bytes x.1 y.1) (x ≡ y)
row_decides x y = (
  λ e. let h = both (same_bytes x.0 y.0) (same_bytes x.1 y.1) e in
      pair_is x y ((bytes_decides x.0 y.0).0 h.0) ((bytes_decides x.1 y.1).0 h.1),
  λ e. and_from (same_bytes x.0 y.0) (same_bytes x.1 y.1)
      ((bytes_decides x.0 y.0).1 (ap (λ (r : Bytes × Bytes). r.0) e))
      ((bytes_decides x.1 y.1).1 (ap (λ (r : Bytes × Bytes). r.1) e)),
)

rows_decide : (xs ys : Rows) → Decides (same_rows xs ys) (xs ≡ ys)
rows_decide xs ys = pointwise_decides row_decides xs ys

-- where the rows were told last, a poll answers so
pub told_again : (last : Option Rows) (rows : Rows) → last ≡ Some rows → polled.Unchanged ≡ poll_reply last rows
told_again last rows is =
    sym (ap (λ (l : Option Rows). poll_reply l rows) is ∙ ap
    (λ (b : Bool). if b then polled.Unchanged else polled.New rows) ((rows_decide rows rows).1 refl))

-- and where a test says that they were told, they are those that were told last
pub was_told-is : (last : Option Rows) (rows : Rows) → was_told last rows ≡ true → last ≡ Some rows
was_told-is None rows e = absurd cc
was_told-is (Some last) rows e = ap Some ((rows_decide last rows).0 e)

-- what holds of what there is, and where there is none
pub if_some : {A : Type 0} {P Q : A → Type 0} (o : Option A) → ((x : A) → P x → Q x) → IfSome o P → IfSome o Q
if_some None f h = h
if_some (Some x) f h = f x h

pub if_none : {A P Q : Type 0} (o : Option A) → (P → Q) → IfNone o P → IfNone o Q
if_none None f h = f h
if_none (Some x) f h = h

-- the value, where there is one, or another in its place
pub unwrapped : {A : Type 0} (r : A) (P : A → Type 0) (o : Option A) (other : A) → r ≡ unwrap_or o other → IfSome o P
    → IfNone o (P other) → P r
unwrapped r P None other is some none = subst P (sym is) none
unwrapped r P (Some a) other is some none = subst P (sym is) some

pub none_of : {A P : Type 0} (o : Option A) → o ≡ None → IfNone o P → P
none_of None is h = h
none_of (Some x) is h = absurd (cc is)
