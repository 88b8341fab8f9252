-- Clients whose lines are done one by one.
use Rattle.std.proofs.Common.{◌≡◌, ◌<◌, ◌++◌, ℕ, true, false, List, Option, Some, None, map, length, slice_index_or}
use Rattle.std.proofs.Common.{refl, slice_set, sym, subst, ap, ◌∙◌}
use Rattle.std.proofs.lemmas.Bool.{false≢true}
use Rattle.std.specs.Prelude.{is_some}
use Rattle.std.proofs.lemmas.List.{get_or-map, get_or-set_same, length-map, length-set, map-set}
use Rattle.std.proofs.lemmas.Option.{slice_get-get_or, slice_get_within}
use Rattle.group_history.specs.Map.{Bytes}
use Rattle.group_history.specs.Meaning.{Meanings}
use Rattle.head_word.specs.Marks.{Known}
use Rattle.rebase.specs.Clients.{ClientState, Grouped}
use Rattle.client_desk.specs.Told.{Told}
use Rattle.script_parser.specs.declared.script.Command.{Command}
use Rattle.script_runner.specs.declared.client.ScriptClient.{ScriptClient}
use Rattle.script_runner.specs.declared.phase.ClientTurn.{ClientTurn}
use Rattle.script_runner.specs.Answering.{IsToldAt}
use Rattle.script_runner.specs.Commanding.{LearnsFirst, MayTell, Player}
use Rattle.script_runner.specs.Printing.{line_text, told_text}
use Rattle.script_runner.specs.Sights.{seen_behind, sight_at}
use Rattle.script_runner.specs.Inside.Calls.{IsCalledAt}
use Rattle.script_runner.specs.Inside.Players.{AreNewIn, player_of, players_of}
use Rattle.script_runner.specs.Inside.Turns.{AreOf}
use Rattle.script_runner.proofs.Openings.{of_group}
use Rattle.script_runner.proofs.Telling.{prints}

-- new clients are of their group
pub are_of : {M : Type 0} (means : Meanings) (group : Grouped) (count commit : ℕ) (turns : List (ClientTurn M))
    → AreNewIn means group count commit turns → AreOf group turns
are_of means group count commit turns new k d below =
    of_group means group count commit k (player_of (slice_index_or turns k d).client) (new k d below)

-- what was seen behind a line whose client had a reading open, or none
pub seen_kept : (reading : Option ClientState) (seen now : Option Known) → is_some reading ≡ true
    → seen ≡ seen_behind reading seen now
seen_kept None seen now is = absurd (false≢true is)
seen_kept (Some reader) seen now is = refl

pub seen_anew : (reading : Option ClientState) (seen now : Option Known) → is_some reading ≡ false
    → now ≡ seen_behind reading seen now
seen_anew None seen now is = refl
seen_anew (Some reader) seen now is = absurd (false≢true (sym is))

-- a client at a place did a command, after it learnt what was seen
pub called_at : {M : Type 0} (means : Meanings) (turns : List (ClientTurn M)) (sights : List (Option Known))
    (seen : Option Known) (place : ℕ) (c : Command) (old new : ClientTurn M) (mid : ScriptClient M) (t : Told)
    (now : Option Known) → place < length (players_of turns) → old ≡ slice_index_or turns place old
    → LearnsFirst seen old.client.place mid.place → mid.name ≡ old.client.name
    → MayTell means sights c mid.place t new.client.place → new.client.name ≡ mid.name
    → now ≡ seen_behind mid.place.reading seen (sight_at new.client.place)
    → IsCalledAt means sights seen place c (players_of turns) t (players_of (slice_set turns place new)) now
called_at {M} means turns sights seen place c old new mid t now below at learnt first may second sees =
    let player : ClientTurn M → Player = λ t. player_of t.client in
    let within : place < length turns = subst (λ n. place < n) (length-map turns player) below in
    record {
      client = player old;
      at = slice_get-get_or (map player turns) place (player old) below
          ∙ ap Some (get_or-map player turns place old (player old) within ∙ ap player (sym at));
      mid = mid.place;
      learnt = learnt;
      next = player new;
      may = may;
      name = second ∙ first;
      left = map-set player turns place new;
      sees = sees;
    }

-- and its line was told
pub told_at : {M : Type 0} (means : Meanings) (turns : List (ClientTurn M)) (turn : ClientTurn M)
    (sights : List (Option Known))
    (seen : Option Known) (place : ℕ) (l : ℕ × Command) (before : List Player) (t : Told) (now : Option Known)
    (name out after : Bytes) → IsCalledAt means sights seen place l.1 before t (players_of turns) now
    → turn ≡ slice_index_or turns place turn → name ≡ turn.client.name
    → after ≡ out ++ line_text l.0 name (told_text l.1 t)
    → (text : Bytes) × (after ≡ out ++ text) × IsToldAt means sights seen place l before text (players_of turns) now
told_at {M} means turns turn sights seen place l before t now name out after h at named printed =
    let player : ClientTurn M → Player = λ t. player_of t.client in
    let below = slice_get_within before place h.client h.at in
    let long : length turns ≡ length before =
    sym (length-map turns player) ∙ ap length h.left ∙ length-set before place h.next in
    let within : place < length turns = subst (λ n. place < n) (sym long) below in
    let is : player turn ≡ h.next =
    ap player at ∙ sym (get_or-map player turns place turn (player turn) within)
    ∙ ap (λ ps. slice_index_or ps place (player turn)) h.left
    ∙ get_or-set_same before place h.next (player turn) below in (
      line_text l.0 name (told_text l.1 t),
      printed,
      record {
        client = h.client;
        at = h.at;
        mid = h.mid;
        learnt = h.learnt;
        told = told_text l.1 t;
        next = h.next;
        may = prints means sights l.1 (record { name = h.client.name; place = h.mid }) h.next t h.may;
        name = h.name;
        printed = ap (λ n. line_text l.0 n (told_text l.1 t)) (named ∙ ap (λ (p : Player). p.name) is ∙ h.name);
        left = h.left;
        sees = h.sees;
      },
    )
