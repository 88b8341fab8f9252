-- What holds of the values of a script that was checked.
use Rattle.std.proofs.Common.{◌≡◌, ℕ, ◌<◌, ◌≤◌, List, length, map, vec_len, All, sym, subst, ◌∙◌}
use Rattle.std.proofs.Math.ListN.{get_or-map}
use Rattle.std.proofs.lemmas.List.{length-map}
use Rattle.std.proofs.lemmas.List.Elements.{All-weaker}
use Rattle.std.proofs.lemmas.List.FromFn.{length-map-range_with_len}
use Rattle.group_history.specs.Refs.{max_seats}
use Rattle.script_parser.specs.declared.parser.Parser.{Parser}
use Rattle.script_parser.specs.Context.{Lines}
use Rattle.script_parser.specs.Inside.Parsing.{context_of}
use Rattle.script_parser.specs.Scripts.{client_said, lines_at, phase_said, IsChecked}
use Rattle.script_parser.proofs.CheckedLemmas.{Sound, LearnWithin}

-- what holds of each view holds of each value's view
All-of_map : {X Y : Type 0} (P : Y → Type 0) (f : X → Y) (xs : List X) → All P (map f xs) → All (λ x. P (f x)) xs
All-of_map P f xs all = λ k d below. subst P (get_or-map f xs k d)
    (all k (f d) (subst (λ (n : ℕ). k < n) (sym (length-map xs f)) below))

pub IsChecked-from : (p : Parser) → Sound (context_of p) → IsChecked (record { header = p.header; phases = p.phases })
IsChecked-from p sound =
    let clients = p.header.clients in
    let many : length (map client_said clients.items)
    ≡ vec_len clients = length-map clients.items client_said ∙ sym clients.ok.0 in
    record {
      each_client = All-weaker _ _ (λ phase is. sym
          (length-map-range_with_len (lines_at phase.parts.items) 0 phase.clients) ∙ is ∙ many) p.phases.items
          (All-of_map (λ (phase : List Lines). length phase ≡ length (map client_said clients.items)) phase_said
          p.phases.items sound.each_client);
      seats = subst (λ (n : ℕ). n ≤ max_seats) many sound.seats;
      slots = sound.slots;
      learnt = subst (λ (n : ℕ). All (λ phase. All (LearnWithin n) (phase_said phase)) p.phases.items) many
          (All-of_map (All (LearnWithin (length (map client_said clients.items)))) phase_said
          p.phases.items sound.learnt);
    }
