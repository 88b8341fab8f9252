-- A line beside which nobody changes the group is told what the group of one thread replies.
use Rattle.std.proofs.Common.{◌≡◌, ℕ, inl, inr, List, Option, Some, None, sym, ap, subst, ◌∙◌}
use Rattle.std.specs.Option.{option_or}
use Rattle.std.specs.Prelude.{option_map}
use Rattle.group_history.specs.declared.changes.Change.{Change}
use Rattle.group_history.specs.Map.{Bytes}
use Rattle.group_history.specs.Meaning.{Meanings}
use Rattle.group_history.specs.Record.{after}
use Rattle.group_history.specs.State.{State}
use Rattle.head_word.specs.Marks.{Known}
use Rattle.rebase.specs.Calls.{caller_of}
use Rattle.rebase.specs.Clients.{ClientState}
use Rattle.rebase.proofs.CallLemmas.{caller_stays}
use Rattle.client_desk.specs.Inside.Sitting.{IsAtRest}
use Rattle.client_desk.specs.Learning.{LearnsAt}
use Rattle.client_desk.specs.Places.{PlaceState}
use Rattle.client_desk.specs.Told.{Told}
use Rattle.script_parser.specs.declared.script.Command.{Command}
use Rattle.script_runner.specs.Answering.{IsToldAt, moment_seen, record_seen}
use Rattle.script_runner.specs.Inside.Exact.{IsExactAt}
use Rattle.script_runner.specs.Commanding.{LearnsFirst, MayTell, Player}
use Rattle.script_runner.specs.Settling.{AreSteady, IsWhole}
use Rattle.script_runner.specs.Inside.Records.{IsClientOf}
use Rattle.script_runner.specs.Plain.{IsDone, IsPlainlyTold, plain, plain_sitting}
use Rattle.script_runner.specs.Plain.{reading_at, reading_behind, client_reading}
use Rattle.script_runner.specs.Sights.{seen_behind, sight_at}
use Rattle.script_runner.proofs.Plainly.{plainly}
use Rattle.script_runner.proofs.Reading.{has_read, learns_none}
use Rattle.script_runner.proofs.Seated.{caught_up}
use Rattle.script_runner.proofs.Steady.{exact_sitting, seated}

-- a client that learns stays the same caller, with what it keeps
pub record Keeps (place mid : PlaceState) (c m : ClientState) : Type 0 where
  caller : caller_of m ≡ caller_of c
  tickets : mid.tickets ≡ place.tickets
  watches : mid.watches ≡ place.watches

keeps : (seen : Option Known) (place mid : PlaceState) (c m : ClientState) → place.client ≡ Some c
    → mid.client ≡ Some m → LearnsFirst seen place mid → Keeps place mid c m
keeps None place mid c m sat sits h =
    let whole : Some m ≡ Some c = sym sits ∙ ap (λ (q : PlaceState). q.client) h ∙ sat in
    let same : m ≡ c = cc whole in
    record {
      caller = ap caller_of same;
      tickets = ap (λ (q : PlaceState). q.tickets) h;
      watches = ap (λ (q : PlaceState). q.watches) h;
    }
keeps (Some other) place mid c m sat sits h =
    let l = subst (λ o. LearnsAt o other place mid) sat h in
    let whole : Some l.next ≡ Some m = sym (ap (λ (q : PlaceState). q.client) l.left) ∙ sits in
    let same : l.next ≡ m = cc whole in
    record {
      caller = ap caller_of (sym same) ∙ caller_stays c l.next l.same.0 l.same.1;
      tickets = ap (λ (q : PlaceState). q.tickets) l.left;
      watches = ap (λ (q : PlaceState). q.watches) l.left;
    }

module _ (means : Meanings) (sights : List (Option Known)) (x : Command) (seen : Option Known)
    (place mid next : PlaceState) (c : ClientState) (t : Told) (learnt : LearnsFirst seen place mid) where
  abbrev old : List Change
  old = record_seen seen

  abbrev s : State
  s = after old

  abbrev new : List Change
  new = record_seen (sight_at next)

  abbrev n : ℕ
  n = moment_seen (sight_at next)

  -- So is the line of a client that sits at its place, where it is exact.
  pub plain_line : place.client ≡ Some c → IsAtRest place → MayTell means sights x mid t next
      → IsExactAt means seen mid next → IsPlainlyTold means x place next t old (sight_at next)
  plain_line sat calm may exact =
      let k = caught_up c seen place mid sat calm learnt in
      let is = plainly means seen exact.old exact.new mid next t exact.sat k.calm exact.there exact.exact sights x
      may in
      let kept = keeps seen place mid c exact.old sat exact.sat learnt in
      let none : reading_at place ≡ None = ap (option_map client_reading) calm.1 in
      record {
        client = c;
        there = ap (λ o. option_or o place.reading) sat;
        done = subst (λ o. IsDone (plain means s (caller_of c) place.tickets place.watches n o x) t old new) (sym none)
            (subst (λ ws. IsDone (plain_sitting means s (caller_of c) place.tickets ws n x) t old new) kept.watches
            (subst (λ ts. IsDone (plain_sitting means s (caller_of c) ts mid.watches n x) t old new) kept.tickets
            (subst (λ o. IsDone (plain_sitting means s o mid.tickets mid.watches n x) t old new) kept.caller is.0)));
        reads = subst (λ o. reading_at next ≡ reading_behind s n o x t.outcome) (sym none) is.1;
      }

  -- and that of one that has a reading open
  pub plain_read : IsClientOf c place → place.client ≡ None → place.reading ≡ Some c → MayTell means sights x mid t next
      → IsPlainlyTold means x place next t old seen
  plain_read is none is_open may =
      let h = has_read means c place next t none is_open is.calm old sights x
      (subst (λ p. MayTell means sights x p t next) (learns_none seen place mid none learnt) may) in
      let some : reading_at place ≡ Some (client_reading c) = ap (option_map client_reading) is_open in
      record {
        client = c;
        there = ap (λ o. option_or o place.reading) none ∙ is_open;
        done = subst
            (λ o. IsDone (plain means s (caller_of c) place.tickets place.watches (moment_seen seen) o x) t old old)
            (sym some) h.done;
        reads = subst (λ o. reading_at next ≡ reading_behind s (moment_seen seen) o x t.outcome) (sym some)
            (h.reads s (moment_seen seen));
      }

-- and so is each line of clients that made all moves
pub told_plain : (means : Meanings) (sights : List (Option Known)) (seen : Option Known) (place : ℕ) (l : ℕ × Command)
    (before : List Player) (text : Bytes) (after : List Player) (now : Option Known)
    (told : IsToldAt means sights seen place l before text after now) → AreSteady before seen → IsWhole after now
    → IsPlainlyTold means l.1 told.client.place told.next.place told.may.t (record_seen seen) now
told_plain means sights seen place l before text after now h was all =
    let t = h.may.t in
    let home = seated means sights seen place l.1 before h.client h.next h.mid t h.at h.learnt h.may.may was in
    elim home.is.at [
      | inl sits ↦
          let calm : IsAtRest h.client.place = (home.is.calm, sits.1) in
          let k = caught_up home.client seen h.client.place h.mid sits.0 calm h.learnt in
          let sees : now ≡ sight_at h.next.place =
          h.sees ∙ ap (λ o. seen_behind o seen (sight_at h.next.place)) k.calm.1 in
          subst (λ o. IsPlainlyTold means l.1 h.client.place h.next.place t (record_seen seen) o) (sym sees)
          (plain_line means sights l.1 seen h.client.place h.mid h.next.place home.client t h.learnt sits.0 calm
          h.may.may
          (exact_sitting means sights seen place l.1 before h.client h.next h.mid t h.at h.learnt h.may.may was now
          sits.0
          calm sees (subst (λ ps. IsWhole ps now) h.left all)))
      | inr reads ↦
          let is_open : h.mid.reading ≡ Some home.client =
          ap (λ (p : PlaceState). p.reading) (learns_none seen h.client.place h.mid reads.0 h.learnt) ∙ reads.1 in
          let sees : now ≡ seen = h.sees ∙ ap (λ o. seen_behind o seen (sight_at h.next.place)) is_open in
          subst (λ o. IsPlainlyTold means l.1 h.client.place h.next.place t (record_seen seen) o) (sym sees)
          (plain_read means sights l.1 seen h.client.place h.mid h.next.place home.client t h.learnt home.is reads.0
          reads.1 h.may.may)
    ]
