-- What a watch answers: the rows of its scan, where they are others than those that it answered last.
-- This project's own rule; Replicache's subscriptions tell of the same differences.
use Rattle.std.specs.Prelude.{Bool, false, ◌&&◌, Option, Some, None, Result, Ok, if◌then◌else◌}
use Rattle.std.specs.Cmp.{IsEquivalence, and_equiv, on_equiv}
use Rattle.std.specs.Cmp.Lexicographic.{lists_equiv, nat_list_eq_equiv, pointwise}
use Rattle.logbook.specs.Pages.{Book}
use Rattle.group_history.specs.declared.refusals.Refusal.{Refusal}
use Rattle.group_history.specs.declared.scans.Scan.{Scan}
use Rattle.group_history.specs.Map.{Bytes, same_text}
use Rattle.group_history.specs.Meaning.{Meanings}
use Rattle.group_history.specs.Queries.{view_rows}
use Rattle.group_history.specs.Rows.{Rows}
use Rattle.group_history.specs.State.{State}
use Rattle.rebase.specs.declared.watching.Polled.{Polled}
use Rattle.rebase.specs.declared.watching.Polled.TheVariants as polled

-- a watch: the book of its group, what it asks for, and the rows that it answered last, none at first
pub record Watched : Type 0 where
  pub book : Book
  pub scan : Scan
  pub last : Option Rows

-- the same rows, one by one: the same keys with the same compact texts
abbrev pub same_rows : Rows → Rows → Bool
same_rows = pointwise (λ x y. same_text x.0 y.0 && same_text x.1 y.1)

pub same_rows-equiv : IsEquivalence same_rows
same_rows-equiv = lists_equiv (and_equiv (on_equiv (λ (x : Bytes × Bytes). x.0) nat_list_eq_equiv)
    (on_equiv (λ (x : Bytes × Bytes). x.1) nat_list_eq_equiv))

-- whether these rows were answered last
abbrev pub was_told : Option Rows → Rows → Bool
was_told None rows = false
was_told (Some last) rows = same_rows last rows

-- what is right to answer where these are the rows
abbrev pub poll_reply : Option Rows → Rows → Polled
poll_reply last rows = if was_told last rows then polled.Unchanged else polled.New rows

-- what is right to answer at a state
abbrev pub poll_at : Meanings → Watched → State → Polled
poll_at means watch s = poll_reply watch.last (view_rows means s watch.scan)

-- the watch after an answer: it keeps the rows that are new, and else it is as it was
abbrev pub watch_after : Watched → Result Polled Refusal → Watched
watch_after watch (Ok (polled.New rows)) = record watch { last = Some rows }
watch_after watch other = watch
