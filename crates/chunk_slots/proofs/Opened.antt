-- The seats of a store that was just opened.
use Rattle.std.proofs.Common.{◌≡◌, ◌≢◌, ℕ, ◌<◌, List, [], ◌∷◌, ◌++◌, map, ap, ◌∙◌}
use Rattle.std.specs.List.{All}
use Rattle.std.proofs.lemmas.List.{map-append}
use Rattle.std.proofs.lemmas.List.Elements.{All-map, All-weaker}
use Rattle.reader_claims.specs.declared.view.View.{View}
use Rattle.reader_claims.specs.Seats.{ClaimsId, Seated, IsNew}
use Rattle.reader_claims.specs.Views.{reader}
use Rattle.chunk_slots.specs.Seats.{IsIdle, IsOpening}
use Rattle.reader_claims.specs.Deeds as deed

-- the last one settled the two slots that it had, and the others have not begun
pub opened : (z : ClaimsId) (all others : List Seated) (opener : Seated) (leaf commit : ℕ) → all ≡ others ++ opener ∷ []
    → All (IsNew z) others → (leaf ≢ commit) × (leaf < z.sizes.slots) × (commit < z.sizes.slots)
    → opener.view.settled ≡ commit ∷ leaf ∷ [] → IsIdle opener.view
    → opener.view.deeds ≡ deed.settled commit ∷ deed.settled leaf ∷ deed.took commit ∷ deed.took leaf ∷ []
    → IsOpening z.sizes (map (λ seat. seat.view) all) commit
opened z all others opener leaf commit is new two settled idle deeds =
    let view_of = λ (seat : Seated). seat.view in record {
      others = map view_of others;
      opener = opener.view;
      all = ap (map view_of) is ∙ map-append view_of others (opener ∷ []);
      unused = All-map (λ (v : View). v ≡ reader z.sizes v.number) view_of others
          (All-weaker (IsNew z) (λ seat. seat.view ≡ reader z.sizes seat.view.number) (λ _ n. n.1) others new);
      leaf = leaf;
      two = two;
      settled = settled;
      idle = idle;
      deeds = deeds;
    }
