-- What holds of all that the lines of a script have said.
use Rattle.std.proofs.Common.{◌≡◌, ◌+◌, ◌<◌, ◌≤◌, ℕ, Bool, true, false, List, [], ◌∷◌, ◌++◌, length, unwrap_or, is_some}
use Rattle.std.proofs.Common.{Option, Some, None, Result, Ok, Err, IfOk, IfSome, All, cond, ◌&&◌, nat_lt, codes}
use Rattle.std.proofs.Common.{replicate, ◌==◌, ◌-◌, ◌∙◌, refl, sym, subst, arith, rules}
use Rattle.std.specs.Str.{is_utf8}
use Rattle.std.specs.Str.Parse.{digits_value}
use Rattle.std.proofs.lemmas.Bool.{ltb-true, eqb-true}
use Rattle.std.proofs.lemmas.Bool.Decides.{nat_tests}
use Rattle.std.proofs.lemmas.List.{length-append, length-replicate}
use Rattle.std.proofs.lemmas.List.Elements.{All-nil, All-push, All-replicate}
use Rattle.group_history.specs.declared.scans.Scan.{Scan}
use Rattle.group_history.specs.Map.{Bytes, same_text}
use Rattle.group_history.specs.Refs.{max_slots, max_seats}
use Rattle.script_parser.specs.declared.faults.ScriptFault.{ScriptFault}
use Rattle.script_parser.specs.declared.faults.ScriptFault.TheVariants as text
use Rattle.script_parser.specs.declared.script.Command.{Command}
use Rattle.script_parser.specs.declared.script.Command.TheVariants as command
use Rattle.script_parser.specs.declared.script.Query.TheVariants as query
use Rattle.script_parser.specs.Words.{word, more, is_number, is_ticket_name}
use Rattle.script_parser.specs.Words.{text as text_of}
use Rattle.script_parser.specs.Context.{Context, Lines, nothing_said, place_of}
use Rattle.script_parser.specs.Header.{group_line, profile_line, schema_line, slots_line, client_line, header_line}
use Rattle.script_parser.specs.Header.{with_new_client}
use Rattle.script_parser.specs.Commands.{CommandSaid, phase_line, get_line, has_line, scan_words, with_part, scan_line}
use Rattle.script_parser.specs.Commands.{begin_line, end_line, watch_line, mutate_line, learn_line}
use Rattle.script_parser.specs.Commands.{push_line, skip_word, pulled_get, pulled_scan, pulled_command}
use Rattle.script_parser.specs.Commands.{pulled_line, sent_line}
use Rattle.script_parser.specs.Commands.{watch_word, watched_line}
use Rattle.script_parser.specs.Commands.{bare_command, told_bare, bare_line, look_line, named_command, command_of}
use Rattle.script_parser.specs.Commands.{reading_command}
use Rattle.script_parser.specs.Commands.{with_line, said_by, command_at, command_line}
use Rattle.script_parser.specs.Names.{changed_at, noted, number_made}
use Rattle.script_parser.specs.Faults.{is_skipped, words_line, said_with, said_after, lines_of, said_in}
use Rattle.script_parser.specs.Faults.{line_of_bad_byte, script_said}
use Rattle.script_parser.specs.Scripts.{LearnsWithin}
use Rattle.script_parser.proofs.Changes.{length-changed_at, All-changed_at}
use Rattle.script_parser.proofs.Needs.{IfOk-if, IfSome-if}

-- the commands learn from clients of which there are so many
abbrev pub LearnWithin : ℕ → Lines → Type 0
LearnWithin n lines = All (λ line. LearnsWithin n line.1) lines

-- what holds of what is said
pub record Sound (c : Context) : Type 0 where
  pub each_client : All (λ phase. length phase ≡ length c.clients) c.phases
  pub seats : length c.clients ≤ max_seats
  pub slots : IfSome c.slots (λ n. (16 ≤ n) × (n ≤ max_slots))
  pub learnt : All (λ phase. All (LearnWithin (length c.clients)) phase) c.phases

-- and of what is said with a client's line, beside its command
abbrev SoundWith : Context × Command → Type 0
SoundWith told = Sound told.0 × LearnsWithin (length told.0.clients) told.1

Sound-nothing : Sound nothing_said
Sound-nothing = record { each_client = All-nil _; seats = omega arith; slots = tt; learnt = All-nil _ }

get_line-sound : (c : Context) (rest : Option Bytes) → Sound c → IfOk (get_line c rest) SoundWith
unfolding get_line
get_line-sound c rest sound = search (rules, IfOk-if)

has_line-sound : (c : Context) (rest : Option Bytes) → Sound c → IfOk (has_line c rest) SoundWith
unfolding has_line
has_line-sound c rest sound = search (rules, IfOk-if)

with_part-sound : {X : Type 0} (said : X → Context × Command) (part : Result X ScriptFault)
    → ((x : X) → SoundWith (said x)) → IfOk (with_part said part) SoundWith
with_part-sound said (Ok x) sound = sound x
with_part-sound said (Err f) sound = tt

scan_line-sound : (c : Context) (rest : Option Bytes) → Sound c → IfOk (scan_line c rest) SoundWith
unfolding scan_line
scan_line-sound c rest sound = with_part-sound (λ scan. (c, command.Query (query.Scan scan))) (scan_words rest)
    (λ scan. (sound, tt))

push_line-sound : (c : Context) (rest : Option Bytes) → Sound c → IfOk (push_line c rest) SoundWith
push_line-sound c None sound = (sound, tt)
push_line-sound c (Some t) sound = with_part-sound (λ n. (c, command.Query (query.Push n))) (skip_word t)
    (λ n. (sound, tt))

pulled_get-sound : (c : Context) (rest : Option Bytes) → Sound c → IfOk (pulled_get c rest) SoundWith
unfolding pulled_get
pulled_get-sound c rest sound = search (rules, IfOk-if)

pulled_scan-sound : (c : Context) (rest : Option Bytes) → Sound c → IfOk (pulled_scan c rest) SoundWith
unfolding pulled_scan
pulled_scan-sound c rest sound = with_part-sound (λ scan. (c, command.Query (query.PulledScan scan)))
    (scan_words rest) (λ scan. (sound, tt))

pulled_command-sound : (c : Context) (name : Bytes) (rest : Option Bytes) → Sound c
    → IfOk (pulled_command c name rest) SoundWith
unfolding pulled_command
pulled_command-sound c name rest sound = search (rules, IfOk-if, pulled_get-sound, pulled_scan-sound)

pulled_line-sound : (c : Context) (rest : Option Bytes) → Sound c → IfOk (pulled_line c rest) SoundWith
unfolding pulled_line
pulled_line-sound c None sound = tt
pulled_line-sound c (Some rest) sound = pulled_command-sound c (word rest) (more rest) sound

mutate_line-sound : (c : Context) (rest : Option Bytes) → Sound c → IfOk (mutate_line c rest) SoundWith
unfolding mutate_line
mutate_line-sound c rest sound = search (rules, IfOk-if)

end_line-sound : (c : Context) (client : ℕ) (rest : Option Bytes) → Sound c → IfOk (end_line c client rest) SoundWith
unfolding end_line
end_line-sound c client rest sound = search (rules, IfOk-if)

-- tickets and watches are of no matter
Sound-made : (c : Context) (made : List (List Bytes)) → Sound c → Sound (record c { tickets = made })
Sound-made c made sound = record {
  each_client = sound.each_client;
  seats = sound.seats;
  slots = sound.slots;
  learnt = sound.learnt;
}

Sound-watched : (c : Context) (made : List (List Bytes)) → Sound c → Sound (record c { watches = made })
Sound-watched c made sound = record {
  each_client = sound.each_client;
  seats = sound.seats;
  slots = sound.slots;
  learnt = sound.learnt;
}

watch_line-sound : (c : Context) (client : ℕ) (rest : Option Bytes) → Sound c
    → IfOk (watch_line c client rest) SoundWith
unfolding watch_line
watch_line-sound c client rest sound =
    let name = word (text_of rest) in
    let made = noted client name c.watches in let number = number_made client name c.watches in
    IfOk-if (is_some rest && is_ticket_name name)
    (with_part (λ scan. (record c { watches = made }, command.Watch number scan)) (scan_words (more (text_of rest))))
    (Err text.BadWords) SoundWith
    (λ is. with_part-sound (λ scan. (record c { watches = made }, command.Watch number scan))
    (scan_words (more (text_of rest))) (λ scan. (Sound-watched c made sound, tt))) (λ other. tt)

begin_line-sound : (c : Context) (client : ℕ) (rest : Option Bytes) → Sound c
    → IfOk (begin_line c client rest) SoundWith
unfolding begin_line
begin_line-sound c client rest sound = search (rules, IfOk-if, Sound-made)

-- a place that was found is one in the list
within : (found : Bool) (place many : ℕ) → (found ≡ true → place < many) → is_some (cond found (Some place) None) ≡ true
    → unwrap_or (cond found (Some place) None) 0 < many
within true place many below is = below refl
within false place many below is = cc

pub place_of-within : (name : Bytes) (clients : List (Bytes × Bytes)) → is_some (place_of name clients) ≡ true
    → unwrap_or (place_of name clients) 0 < length clients
unfolding place_of
place_of-within name clients is = within _ _ (length clients) (λ e. ltb-true _ _ e) is

learn_line-sound : (c : Context) (rest : Option Bytes) → Sound c → IfOk (learn_line c rest) SoundWith
unfolding learn_line
learn_line-sound c rest sound = search (rules, IfOk-if, place_of-within)

bare_learns : (n : ℕ) (name : Bytes) → IfSome (bare_command name) (LearnsWithin n)
unfolding bare_command reading_command
bare_learns n name = search (rules, IfSome-if)

told_bare-sound : (c : Context) (o : Option Command) (rest : Option Bytes) → Sound c
    → IfSome o (LearnsWithin (length c.clients)) → IfOk (told_bare c o rest) SoundWith
told_bare-sound c None rest sound learns = tt
told_bare-sound c (Some command) rest sound learns = search (rules, IfOk-if)

bare_line-sound : (c : Context) (name : Bytes) (rest : Option Bytes) → Sound c → IfOk (bare_line c name rest) SoundWith
unfolding bare_line
bare_line-sound c name rest sound = told_bare-sound c (bare_command name) rest sound
    (bare_learns (length c.clients) name)

sent_line-sound : (c : Context) (name : Bytes) (rest : Option Bytes) → Sound c → IfOk (sent_line c name rest) SoundWith
unfolding sent_line
sent_line-sound c name rest sound = search (rules, IfOk-if, push_line-sound, pulled_line-sound, bare_line-sound)

look_line-sound : (c : Context) (name : Bytes) (rest : Option Bytes) → Sound c → IfOk (look_line c name rest) SoundWith
unfolding look_line
look_line-sound c name rest sound = search (
  rules,
  IfOk-if,
  get_line-sound,
  has_line-sound,
  scan_line-sound,
  learn_line-sound,
  mutate_line-sound,
  sent_line-sound,
)

watched_line-sound : (c : Context) (client : ℕ) (name : Bytes) (rest : Option Bytes) → Sound c
    → IfOk (watched_line c client name rest) SoundWith
unfolding watched_line
watched_line-sound c client name rest sound =
    IfOk-if (same_text name (codes "poll")) _ _ SoundWith
    (λ is. with_part-sound (λ n. (c, command.Poll n)) (watch_word c client rest) (λ n. (sound, tt)))
    (λ other. IfOk-if (same_text name (codes "changes")) _ _ SoundWith
    (λ is. with_part-sound (λ n. (c, command.Changes n)) (watch_word c client rest) (λ n. (sound, tt)))
    (λ other. IfOk-if (same_text name (codes "unwatch")) _ _ SoundWith
    (λ is. with_part-sound (λ n. (c, command.Unwatch n)) (watch_word c client rest) (λ n. (sound, tt)))
    (λ no. look_line-sound c name rest sound)))

named_command-sound : (c : Context) (client : ℕ) (name : Bytes) (rest : Option Bytes) → Sound c
    → IfOk (named_command c client name rest) SoundWith
unfolding named_command
named_command-sound c client name rest sound = search
    (rules, IfOk-if, begin_line-sound, end_line-sound, watch_line-sound, watched_line-sound)

command_of-sound : (c : Context) (client : ℕ) (rest : Option Bytes) → Sound c
    → IfOk (command_of c client rest) SoundWith
unfolding command_of
command_of-sound c client None sound = tt
command_of-sound c client (Some rest) sound = named_command-sound c client _ _ sound

-- a line more
Sound-line : (c : Context) (n client : ℕ) (k : Command) → Sound c → LearnsWithin (length c.clients) k
    → Sound (record c { phases = with_line client (n, k) c.phases })
unfolding with_line
Sound-line c n client k sound learns =
    let many = length c.clients in
    let last = length c.phases - 1 in
    let more : Lines → Lines = λ lines. lines ++ (n, k) ∷ [] in
    record {
      each_client = All-changed_at (λ phase. length phase ≡ many) (changed_at client more) last c.phases
          (λ phase is. length-changed_at more client phase ∙ is) sound.each_client;
      seats = sound.seats;
      slots = sound.slots;
      learnt = All-changed_at (All (LearnWithin many)) (changed_at client more) last c.phases
          (λ phase all. All-changed_at (LearnWithin many) more client phase
          (λ lines known. All-push (λ line. LearnsWithin many line.1) lines (n, k) known learns) all) sound.learnt;
    }

said_by-sound : (n client : ℕ) (told : CommandSaid) → IfOk told SoundWith → IfOk (said_by n client told) Sound
said_by-sound n client (Ok (c, k)) sound = Sound-line c n client k sound.0 sound.1
said_by-sound n client (Err f) sound = tt

command_at-sound : (c : Context) (n : ℕ) (client : Option ℕ) (rest : Option Bytes) → Sound c
    → IfOk (command_at c n client rest) Sound
unfolding command_at
command_at-sound c n None rest sound = tt
command_at-sound c n (Some client) rest sound = said_by-sound n client (command_of c client rest)
    (command_of-sound c client rest sound)

command_line-sound : (c : Context) (n : ℕ) (name : Bytes) (rest : Option Bytes) → Sound c
    → IfOk (command_line c n name rest) Sound
unfolding command_line
command_line-sound c n name rest sound = command_at-sound c n (place_of name c.clients) rest sound

-- a phase more
Sound-phase : (c : Context) → Sound c → Sound (record c { phases = c.phases ++ replicate (length c.clients) [] ∷ [] })
Sound-phase c sound =
    let many = length c.clients in
    record {
      each_client = All-push (λ (phase : List Lines). length phase ≡ many) c.phases
          (replicate many []) sound.each_client (length-replicate many []);
      seats = sound.seats;
      slots = sound.slots;
      learnt = All-push (All (LearnWithin many)) c.phases (replicate many []) sound.learnt
          (All-replicate (LearnWithin many) many [] (All-nil (λ line. LearnsWithin many line.1)));
    }

phase_line-sound : (c : Context) (rest : Option Bytes) → Sound c → IfOk (phase_line c rest) Sound
unfolding phase_line
phase_line-sound c rest sound = search (rules, IfOk-if, Sound-phase)

-- texts are of no matter
Sound-texts : (c : Context) (group profile schema : Option Bytes) → Sound c
    → Sound (record c { group = group; profile = profile; schema = schema })
Sound-texts c group profile schema sound =
    record { each_client = sound.each_client; seats = sound.seats; slots = sound.slots; learnt = sound.learnt }

group_line-sound : (c : Context) (rest : Option Bytes) → Sound c → IfOk (group_line c rest) Sound
unfolding group_line
group_line-sound c rest sound = search (rules, IfOk-if, Sound-texts)

profile_line-sound : (c : Context) (rest : Option Bytes) → Sound c → IfOk (profile_line c rest) Sound
unfolding profile_line
profile_line-sound c rest sound = search (rules, IfOk-if, Sound-texts)

schema_line-sound : (c : Context) (rest : Option Bytes) → Sound c → IfOk (schema_line c rest) Sound
unfolding schema_line
schema_line-sound c rest sound = search (rules, IfOk-if, Sound-texts)

Sound-slots : (c : Context) (t : Bytes) → Sound c → is_number 16 max_slots t ≡ true
    → Sound (record c { slots = Some (digits_value 10 t) })
unfolding is_number
Sound-slots c t sound is = record {
  each_client = sound.each_client;
  seats = sound.seats;
  slots = (grind (arith, nat_tests), grind (arith, nat_tests));
  learnt = sound.learnt;
}

slots_line-sound : (c : Context) (rest : Option Bytes) → Sound c → IfOk (slots_line c rest) Sound
unfolding slots_line
slots_line-sound c rest sound = search (rules, IfOk-if, Sound-slots)

-- a client more, before the first phase
Sound-client : (c : Context) (name id : Bytes) → Sound c → c.phases ≡ []
    → nat_lt (length c.clients) max_seats ≡ true → Sound (with_new_client name id c)
Sound-client c name id sound before room =
    let many = length (c.clients ++ (name, id) ∷ []) in
    let below : length c.clients < max_seats = ltb-true _ _ room in
    record {
      each_client = subst (All (λ (phase : List Lines). length phase ≡ many)) (sym before) (All-nil _);
      seats = omega (arith, length-append c.clients ((name, id) ∷ []), below);
      slots = sound.slots;
      learnt = subst (All (All (LearnWithin many))) (sym before) (All-nil _);
    }

client_line-sound : (c : Context) (rest : Option Bytes) → Sound c → c.phases ≡ [] → IfOk (client_line c rest) Sound
unfolding client_line
client_line-sound c rest sound before = search (rules, IfOk-if, Sound-client)

header_line-sound : (c : Context) (name : Bytes) (rest : Option Bytes) → Sound c → c.phases ≡ []
    → IfOk (header_line c name rest) Sound
unfolding header_line
header_line-sound c name rest sound before = search
    (rules, IfOk-if, client_line-sound, slots_line-sound, group_line-sound, profile_line-sound, schema_line-sound)

none : {X : Type 0} (xs : List X) → (length xs == 0) ≡ true → xs ≡ []
none [] is = refl
none (x ∷ xs) is = absurd (omega (arith, eqb-true (length (x ∷ xs)) 0 is))

words_line-sound : (c : Context) (n : ℕ) (name : Bytes) (rest : Option Bytes) → Sound c
    → IfOk (words_line c n name rest) Sound
unfolding words_line
words_line-sound c n name rest sound =
    IfOk-if (same_text name (codes "phase")) (phase_line c rest) _ Sound (λ is. phase_line-sound c rest sound)
    (λ other. IfOk-if (length c.phases == 0) (header_line c name rest) (command_line c n name rest) Sound
    (λ is. header_line-sound c name rest sound (none c.phases is)) (λ some. command_line-sound c n name rest sound))

pub said_with-sound : (c : Context) (n : ℕ) (l : Bytes) → Sound c → IfOk (said_with c n l) Sound
unfolding said_with
said_with-sound c n l sound = IfOk-if (is_skipped l) (Ok c) (words_line c n (word l) (more l)) Sound (λ is. sound)
    (λ other. words_line-sound c n (word l) (more l) sound)

said_after-sound : (n : ℕ) (next : Context → Result Context (ℕ × ScriptFault)) (said : Result Context ScriptFault)
    → IfOk said Sound → ((c : Context) → Sound c → IfOk (next c) Sound) → IfOk (said_after n next said) Sound
said_after-sound n next (Ok c) sound on = on c sound
said_after-sound n next (Err f) sound on = tt

said_in-sound : (n : ℕ) (c : Context) (lines : List Bytes) → Sound c → IfOk (said_in n c lines) Sound
said_in-sound n c [] sound = sound
said_in-sound n c (l ∷ lines) sound = said_after-sound n (λ d. said_in (n + 1) d lines) (said_with c n l)
    (said_with-sound c n l sound) (λ d so. said_in-sound (n + 1) d lines so)

-- what a script says
pub script_said-sound : (bytes : Bytes) (c : Context) → script_said bytes ≡ Ok c → Sound c
unfolding script_said
script_said-sound bytes c is =
    let all : IfOk (script_said bytes) Sound = IfOk-if (is_utf8 bytes) (said_in 1 nothing_said (lines_of bytes))
    (Err (line_of_bad_byte bytes, text.NotUtf8)) Sound
    (λ e. said_in-sound 1 nothing_said (lines_of bytes) Sound-nothing) (λ e. tt) in
    subst (λ (said : Result Context (ℕ × ScriptFault)). IfOk said Sound) is all
