-- Places of a group that was just opened.
use Rattle.std.proofs.Common.{◌≡◌, ◌+◌, ℕ, List, [], ◌∷◌, ◌++◌, map, length, sym, ap, ◌∙◌, subst, arith}
use Rattle.std.specs.Prelude.{⊤, Some}
use Rattle.std.specs.List.{All}
use Rattle.std.proofs.lemmas.List.{length-append, length-map}
use Rattle.std.proofs.lemmas.List.Elements.{All-map, All-nil, All-pop, All-push}
use Rattle.commit_graph.specs.Seats.{IsSeatOf, SeatState}
use Rattle.head_word.specs.Books.{book_opening, opening_ref}
use Rattle.head_word.specs.Marks.{Known}
use Rattle.rebase.specs.Clients.{AreOpening, AreSeatsOf, Grouped}
use Rattle.rebase.specs.Configs.{Layout}
use Rattle.host_places.specs.Opening.{AreOpened, IsFreshPlace, SawOpening}
use Rattle.host_places.specs.Desks.{DeskState}
use Rattle.client_desk.specs.Places.{free_place}

-- so many of the group's seats have got their places
pub record Filled (group : Grouped) (total free : List SeatState) (desks : List DeskState) : Type 0 where
  pub home : AreSeatsOf group.group free
  pub count : length desks + length free ≡ length total
  pub new : (commit : ℕ) → All (SawOpening group commit) total
      → All (SawOpening group commit) free × All (λ d. IsFreshPlace group commit d.place) desks

pub none_filled : (group : Grouped) (total : List SeatState) (desks : List DeskState) → AreSeatsOf group.group total
    → desks ≡ [] → Filled group total total desks
none_filled group total desks home empty = record {
  home = home;
  count = let none : length desks ≡ 0 = ap length empty in omega (arith, none);
  new = λ commit all. (
    all,
    subst (All (λ d. IsFreshPlace group commit d.place)) (sym empty)
        (All-nil (λ d. IsFreshPlace group commit d.place)),
  );
}

-- one more has got its place
pub one_more : (group : Grouped) (total free left : List SeatState) (seat : SeatState) (desk : DeskState)
    (desks more : List DeskState) → free ≡ left ++ seat ∷ [] → desk.place ≡ free_place group seat
    → more ≡ desks ++ desk ∷ [] → Filled group total free desks → Filled group total left more
one_more group total free left seat desk desks more taken place pushed was =
    let home = All-pop (IsSeatOf group.group) free left (Some seat) taken was.home in
    record {
      home = home.0;
      count =
          let now = ap length pushed ∙ length-append desks (desk ∷ []) in
          let before = ap length taken ∙ length-append left (seat ∷ []) in
          omega (arith, now, before, was.count);
      new = λ commit all.
          let both = was.new commit all in
          let seen = All-pop (SawOpening group commit) free left (Some seat) taken both.0 in (
            seen.0,
            subst (All (λ d. IsFreshPlace group commit d.place)) (sym pushed)
                (All-push (λ d. IsFreshPlace group commit d.place) desks desk both.1
                (record { seat = seat; home = home.1; seen = seen.1; free = place })),
          );
    }

-- all have
pub opened_with : (layout : Layout) (group : Grouped) (free : List SeatState) (desks : List DeskState)
    → group.identity ≡ layout.identity → length free ≡ layout.seats
    → group.group.table.sizes ≡ record { readers = layout.seats; slots = layout.slots }
    → AreOpening ⊤ layout.seats group.group free → length desks ≡ length free
    → ((commit : ℕ) → All (SawOpening group commit) free → All (λ d. IsFreshPlace group commit d.place) desks)
    → AreOpened layout (map (λ d. d.place) desks)
opened_with layout group free desks identity seats sizes opened count new = record {
  group = group;
  commit = opened.commit;
  identity = identity;
  sizes = sizes;
  count = length-map desks (λ d. d.place) ∙ count ∙ seats;
  all = All-map (IsFreshPlace group opened.commit) (λ (d : DeskState). d.place) desks (new opened.commit
      (subst (λ (n : ℕ). All (λ (seat : SeatState). seat.mark.log ≡ book_opening n (opening_ref opened.commit)) free)
      (λ i. (sym sizes i).readers)
      (λ k d below. ap (λ (m : Known). m.log) (opened.marks k d below))));
}
