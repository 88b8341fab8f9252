-- The second key of a draft's chunk.
use Rattle.std.proofs.Common.{◌≡◌, ◌<◌, List, [], ◌∷◌, Option, Some, length, get_or, slice_get, refl, sym, ap, ◌∙◌}
use Rattle.std.proofs.Common.{arith}
use Rattle.std.specs.Option.{option_or}
use Rattle.group_history.specs.Map.{Bytes}
use Rattle.group_history.specs.Rows.{Rows, keys_of, paired}
use Rattle.group_history.specs.Spelling.{Contents}
use Rattle.group_history.proofs.Pairs.{keys_of-paired}
use Rattle.map_nodes.specs.Inside.Scanning.{kid_shown, kids_shown}
use Rattle.map_chunks.specs.SecondKeys.{second_key}
use Rattle.map_nodes.specs.declared.nodes.OwnChild.{OwnChild}
use Rattle.map_chunks.proofs.JoinLemmas.{split_of}
use Rattle.map_chunks.proofs.OpenLemmas.{shows_of}
use Rattle.map_nodes.proofs.ScanLemmas.{shown_kid}
use Rattle.map_chunks.proofs.SecondLemmas.{second-joined}

keys-shown : {A : Type 0} (g : Bytes × A → Option Rows) (es : List (Bytes × A)) → keys_of (shows_of g es) ≡ keys_of es
keys-shown g [] = refl
keys-shown g (e ∷ es) = ap (λ w. e.0 ∷ w) (keys-shown g es)

-- the first child of a draft's chunk
pub record FirstKid (p : Contents) (keys : List Bytes) (kid : OwnChild) (rows : Rows) : Type 0 where
  pub front : Rows
  pub shown_is : kid_shown p kid ≡ Some front
  pub second_is : option_or (second_key front) (slice_get keys 1) ≡ second_key rows

pub first_kid : (p : Contents) (keys : List Bytes) (kids : List OwnChild) (kid : OwnChild) (rows : Rows)
    → length kids ≡ length keys → 0 < length keys → kid ≡ get_or kids 0 kid
    → kids_shown p (paired keys kids) ≡ Some rows → FirstKid p keys kid rows
first_kid p [] kids kid rows l z g h = absurd (omega arith)
first_kid p (k ∷ ks) [] kid rows l z g h = absurd (omega arith)
first_kid p (k ∷ ks) (x ∷ xs) kid rows l z g h =
    let s = split_of (k, kid_shown p x) (shows_of (shown_kid p) (paired ks xs)) rows h in
    let same : slice_get ks 0 ≡ slice_get (keys_of (shows_of (shown_kid p) (paired ks xs))) 0 =
    ap (λ w. slice_get w 0) (sym (keys_of-paired ks xs (omega arith)) ∙ sym
    (keys-shown (shown_kid p) (paired ks xs))) in
    record {
      front = s.front;
      shown_is = ap (kid_shown p) g ∙ s.front_is;
      second_is = ap (option_or (second_key s.front)) same ∙ second-joined (k, kid_shown p x)
          (shows_of (shown_kid p) (paired ks xs)) rows s;
    }
