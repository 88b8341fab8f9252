-- What the clients of a phase print, one more line, one more client, one more phase.
use Rattle.std.proofs.Common.{◌≡◌, ◌<◌, ◌+◌, ℕ, arith, Option, None, Some, Result, Ok, Err, IsOk, IfOk, List, [], ◌∷◌}
use Rattle.std.proofs.Common.{◌++◌, map, take, length, get_or, slice_index_or, refl, sym, ap, ◌∙◌, subst}
use Rattle.std.proofs.lemmas.Bool.{false≢true}
use Rattle.std.proofs.lemmas.List.{take_more, append_assoc, append-nil, get_or-map, length-map, map-append}
use Rattle.std.proofs.lemmas.List.Elements.{All-push}
use Rattle.std.proofs.lemmas.List.Folds.{concat-append}
use Rattle.std.proofs.lemmas.List.FromFn.{get_or-map-range_with_len}
use Rattle.std.specs.Global.{Vec}
use Rattle.std.specs.Prelude.{IfSome}
use Rattle.std.specs.Io.KnownBytes.{Appends, Keeps}
use Rattle.std.specs.List.{All, concat}
use Rattle.group_history.specs.Map.{Bytes}
use Rattle.group_history.specs.Meaning.{Meanings}
use Rattle.head_word.specs.Marks.{Known}
use Rattle.rebase.specs.Clients.{Grouped}
use Rattle.script_runner.specs.declared.phase.ClientTurn.{ClientTurn}
use Rattle.script_parser.specs.declared.script.Command.{Command}
use Rattle.script_parser.specs.declared.script.Line.{Line}
use Rattle.script_parser.specs.declared.script.Phase.{Phase}
use Rattle.script_runner.specs.Commanding.{MayPrint, Player}
use Rattle.script_parser.specs.Context.{Lines}
use Rattle.script_runner.specs.Phases.{AreTold, AreWritten, IsPhase, all_sights}
use Rattle.script_runner.specs.Printing.{line_text}
use Rattle.script_runner.specs.Sights.{CanLearnAll, IsSeenAt}
use Rattle.script_parser.specs.Scripts.{line_said, lines_at, phase_said}
use Rattle.script_runner.specs.Inside.Players.{player_of, players_of}
use Rattle.script_runner.specs.Inside.Turns.{AreOf, AreOfOneGroup, IsPrinted, IsLineTold, IsClientTurn, StayInGroup}
use Rattle.script_runner.specs.Inside.Turns.{printed_text, turn_texts}

-- LISTS

-- a fact of each element, one element more
pub all-more : {A : Type 0} (P : A → Type 0) (all : List A) (i : ℕ) (x : A) → i < length all → x ≡ get_or all i x
    → All P (take i all) → P x → All P (take (i + 1) all)
all-more P all i x k q h p = subst (λ w. All P w) (ap (λ w. take i all ++ w ∷ []) q ∙ sym (take_more all i x k))
    (All-push P (take i all) x h p)

pub fused : {X Y Z : Type 0} (f : Y → Z) (g : X → Y) (xs : List X) → map f (map g xs) ≡ map (λ x. f (g x)) xs
fused f g [] = refl
fused f g (x ∷ xs) = ap (λ w. f (g x) ∷ w) (fused f g xs)

-- two lists that have the same views, one element more
pub mapped-more : {X Y Z : Type 0} (f : X → Z) (g : Y → Z) (xs new : List X) (x : X) (ys : List Y) (i : ℕ) (y : Y)
    → i < length ys → y ≡ get_or ys i y
    → map f xs ≡ map g (take i ys) → new ≡ xs ++ x ∷ [] → f x ≡ g y → map f new ≡ map g (take (i + 1) ys)
mapped-more f g xs new x ys i y k q so is same =
    ap (map f) is ∙ map-append f xs (x ∷ []) ∙ ap (λ w. map f xs ++ w ∷ []) same ∙ ap (λ w. w ++ g y ∷ []) so
    ∙ sym (ap (map g) (take_more ys i y k ∙ ap (λ w. take i ys ++ w ∷ []) (sym q)) ∙ map-append g (take i ys) (y ∷ []))

-- TEXTS

text_with : {M : Type 0} (ts : List (ClientTurn M)) (t : ClientTurn M)
    → concat (turn_texts (ts ++ t ∷ [])) ≡ concat (turn_texts ts) ++ printed_text t.printed
text_with ts t =
    ap concat (map-append (λ u. printed_text u.printed) ts (t ∷ [])) ∙ concat-append (turn_texts ts)
    (printed_text t.printed ∷ []) ∙ ap (λ w. concat (turn_texts ts) ++ w) (append-nil (printed_text t.printed))

-- a turn of the loop over the clients
pub text-more : {M : Type 0} (all : List (ClientTurn M)) (i : ℕ) (t : ClientTurn M) (old new : Bytes) → i < length all
    → t ≡ get_or all i t → old ≡ concat (turn_texts (take i all)) → new ≡ old ++ printed_text t.printed
    → new ≡ concat (turn_texts (take (i + 1) all))
text-more all i t old new k q o n =
    n ∙ ap (λ w. w ++ printed_text t.printed) o ∙ sym (text_with (take i all) t) ∙ ap (λ w. concat (turn_texts w))
    (ap (λ w. take i all ++ w ∷ []) q ∙ sym (take_more all i t k))

-- known bytes that grow twice
pub appends-twice : (a b c : Option (List ℕ)) (xs ys : List ℕ) → Appends a b xs → Appends b c ys
    → Appends a c (xs ++ ys)
appends-twice None b c xs ys h k = tt
appends-twice (Some x) None c xs ys h k = absurd h
appends-twice (Some x) (Some y) None xs ys h k = absurd k
appends-twice (Some x) (Some y) (Some z) xs ys h k = k ∙ ap (λ w. w ++ ys) h ∙ append_assoc x xs ys

-- known bytes that grow, and then stay
pub appends-kept : (a b c : Option (List ℕ)) (xs : List ℕ) → Appends a b xs → Keeps b c → Appends a c xs
appends-kept None b c xs h k = tt
appends-kept (Some x) None c xs h k = absurd h
appends-kept (Some x) (Some y) None xs h k = absurd k
appends-kept (Some x) (Some y) (Some z) xs h k = k ∙ h

module _ (means : Meanings) where
  -- one line more
  told_more : (sights : List (Option Known)) (c mid end : Player) (ls : Lines) (text : Bytes) (l : ℕ × Command)
      (told : Bytes)
      → AreTold means sights c ls text mid
      → MayPrint means sights mid l.1 told end → end.name ≡ mid.name
      → AreTold means sights c (ls ++ l ∷ []) (text ++ line_text l.0 mid.name told) end
  told_more sights c mid end [] text l told h may name = (
    told,
    end,
    [],
    subst (λ w. MayPrint means sights w l.1 told end) h.1 may,
    name ∙ ap (λ w. w.name) h.1,
    ap (λ w. w ++ line_text l.0 mid.name told) h.0 ∙ ap (λ w. line_text l.0 w.name told) h.1 ∙ sym
        (append-nil (line_text l.0 c.name told)),
    (refl, refl),
  )
  told_more sights c mid end (d ∷ ls) text l told h may name = (
    h.0,
    h.1,
    h.2 ++ line_text l.0 mid.name told,
    h.3,
    h.4,
    ap (λ w. w ++ line_text l.0 mid.name told) h.5 ∙ append_assoc (line_text d.0 c.name h.0) h.2
        (line_text l.0 mid.name told),
    told_more sights h.1 mid end ls h.2 l told h.6 may name,
  )

  -- a turn of the loop over the lines
  pub line-more : (sights : List (Option Known)) (c mid end : Player) (all : List Line) (i : ℕ) (l : Line)
      (old new : Bytes)
      → i < length all → l ≡ get_or all i l
      → AreTold means sights c (map line_said (take i all)) old mid
      → IsLineTold means sights mid (line_said l) old new end
      → AreTold means sights c (map line_said (take (i + 1) all)) new end
  line-more sights c mid end all i l old new k q h a =
      let front = ap (map line_said) (take_more all i l k ∙ ap (λ w. take i all ++ w ∷ []) (sym q)) ∙ map-append
      line_said (take i all) (l ∷ []) in
      subst (λ w. AreTold means sights c w new end) (sym front)
      (subst (λ w. AreTold means sights c (map line_said (take i all) ++ line_said l ∷ []) w end) (sym a.text)
      (told_more sights c mid end (map line_said (take i all)) old (line_said l) a.told h a.may a.name))

  -- one phase more
  written_more : (before mid after : List Player) (ps : List (List Lines)) (text : Bytes) (p : List Lines)
      (texts : List Bytes) → AreWritten means before ps text mid → IsPhase means p mid texts after
      → AreWritten means before (ps ++ p ∷ []) (text ++ concat texts) after
  written_more before mid after [] text p texts h a = (
    texts,
    after,
    [],
    subst (λ w. IsPhase means p w texts after) h.1 a,
    ap (λ w. w ++ concat texts) h.0 ∙ sym (append-nil (concat texts)),
    (refl, refl),
  )
  written_more before mid after (q ∷ ps) text p texts h a = (
    h.0,
    h.1,
    h.2 ++ concat texts,
    h.3,
    ap (λ w. w ++ concat texts) h.4 ∙ append_assoc (concat h.0) h.2
        (concat texts),
    written_more h.1 mid after ps h.2 p texts h.5 a,
  )

  -- a turn of the loop over the phases
  pub phase-more : (before mid after : List Player) (all : List Phase) (i : ℕ) (text : Bytes) (p : Phase)
      (texts : List Bytes) → i < length all → p ≡ get_or all i p
      → AreWritten means before (map phase_said (take i all)) text mid → IsPhase means (phase_said p) mid texts after
      → AreWritten means before (map phase_said (take (i + 1) all)) (text ++ concat texts) after
  phase-more before mid after all i text p texts k q h a =
      let front = ap (map phase_said) (take_more all i p k ∙ ap (λ w. take i all ++ w ∷ []) (sym q)) ∙ map-append
      phase_said (take i all) (p ∷ []) in
      subst (λ w. AreWritten means before w (text ++ concat texts) after) (sym front)
      (written_more before mid after (map phase_said (take i all)) text (phase_said p) texts h a)

-- A PHASE

-- some element, where there is one
pub some_of : {X : Type 0} (xs : List X) (i : ℕ) → i < length xs → X
some_of [] i below = absurd (omega (below, arith))
some_of (x ∷ xs) i below = x

-- what was printed, where memory wasn't refused
told_of : {E : Type 0} (P : Bytes → Type 0) (r : Result (Vec ℕ) E) → IsOk r → IfOk r (λ text. P text.items)
    → P (printed_text r)
told_of P (Ok text) is told = told
told_of P (Err e) is told = absurd (false≢true is)

-- what is lent to a client in a phase is of its group
pub lent : {M : Type 0} (turns : List (ClientTurn M)) (sights : List (Option Known)) (i : ℕ) (t : ClientTurn M)
    → ((group : Grouped) → AreOf group turns → CanLearnAll group sights) → AreOfOneGroup turns
    → i < length turns → t ≡ slice_index_or turns i t → CanLearnAll t.client.place.group sights
lent turns sights i t there one below at =
    subst (λ g. CanLearnAll g sights) (sym (ap (λ u. u.client.place.group) at ∙ one.1 i t below)) (there one.0 one.1)

-- what a client has seen is of its group
pub seen_one : (sight : Option Known) (group home : Grouped) → IfSome sight (λ s. s.book ≡ home.group.book)
    → home ≡ group → IsSeenAt group sight
seen_one sight group home is same seen there =
    subst (λ o. IfSome o (λ s. s.book ≡ group.group.book)) there
    (subst (λ (g : Grouped). IfSome sight (λ s. s.book ≡ g.group.book)) same is)

module _ {M : Type 0} (means : Meanings) where
  -- a client's part of a phase, as it stands in the lists
  pub part : (sights : List (Option Known)) (old new : List (ClientTurn M)) (p : Phase) (i : ℕ) (d : ClientTurn M)
      → i < length old → i < length new → i < p.clients
      → IsClientTurn means sights (lines_at p.parts.items i) (slice_index_or old i d).client
      (slice_index_or new i d) → IsPrinted (slice_index_or new i d)
      → (l : Lines) (b : Player) (t : Bytes) (a : Player)
      → AreTold means sights (slice_index_or (players_of old) i b) (slice_index_or (phase_said p) i l)
      (slice_index_or (turn_texts new) i t) (slice_index_or (players_of new) i a)
  part sights old new p i d in_old in_new in_lines turn printed l b t a =
      let before : slice_index_or (players_of old) i b
      ≡ player_of (slice_index_or old i d).client = get_or-map
      (λ u. player_of u.client) old i d b in_old in
      let said : slice_index_or (phase_said p) i l
      ≡ lines_at p.parts.items i = get_or-map-range_with_len
      (lines_at p.parts.items) 0 p.clients i i l in_lines (omega arith) in
      let text : slice_index_or (turn_texts new) i t
      ≡ printed_text (slice_index_or new i d).printed = get_or-map
      (λ u. printed_text u.printed) new i d t in_new in
      let after : slice_index_or (players_of new) i a
      ≡ player_of (slice_index_or new i d).client = get_or-map
      (λ u. player_of u.client) new i d a in_new in
      let told = told_of (λ w. AreTold means sights (player_of (slice_index_or old i d).client)
      (lines_at p.parts.items i) w (player_of (slice_index_or new i d).client))
      (slice_index_or new i d).printed printed turn.told in
      subst (λ w. AreTold means sights w (slice_index_or (phase_said p) i l) (slice_index_or (turn_texts new) i t)
      (slice_index_or (players_of new) i a)) (sym before)
      (subst (λ w. AreTold means sights (player_of (slice_index_or old i d).client) w
      (slice_index_or (turn_texts new) i t) (slice_index_or (players_of new) i a)) (sym said)
      (subst (λ w. AreTold means sights (player_of (slice_index_or old i d).client)
      (lines_at p.parts.items i) w
      (slice_index_or (players_of new) i a)) (sym text)
      (subst (λ w. AreTold means sights (player_of (slice_index_or old i d).client)
      (lines_at p.parts.items i) (printed_text (slice_index_or new i d).printed) w)
      (sym after) told)))

  -- a phase, by each client's part of it
  pub phase : (sights : List (Option Known)) (old new : List (ClientTurn M)) (p : Phase)
      → sights ≡ all_sights (players_of old) → length new ≡ length old → length old ≡ p.clients
      → ((i : ℕ) (d : ClientTurn M) → i < length old
      → IsClientTurn means sights (lines_at p.parts.items i) (slice_index_or old i d).client
      (slice_index_or new i d)) → All IsPrinted new
      → IsPhase means (phase_said p) (players_of old) (turn_texts new) (players_of new)
  phase sights old new p is as_many enough turns printed =
      let olds = length-map old (λ u. player_of u.client) in
      let news = length-map new (λ u. player_of u.client) in
      let texts = length-map new (λ u. printed_text u.printed) in
      record {
        as_many_texts = texts ∙ as_many ∙ sym olds;
        as_many = news ∙ as_many ∙ sym olds;
        each = λ i l b t a below.
            let in_old : i < length old = omega (below, olds, arith) in
            let in_new : i < length new = omega (in_old, as_many, arith) in
            let in_lines : i < p.clients = omega (in_old, enough, arith) in
            let d = some_of old i in_old in
            subst (λ ss. AreTold means ss (slice_index_or (players_of old) i b)
            (slice_index_or (phase_said p) i l) (slice_index_or (turn_texts new) i t)
            (slice_index_or (players_of new) i a)) is
            (part sights old new p i d in_old in_new in_lines (turns i d in_old)
            (printed i d in_new) l b t a);
      }

  -- and they are of one group still
  pub still_one : (sights : List (Option Known)) (old new : List (ClientTurn M)) (p : Phase) → length new ≡ length old
      → ((i : ℕ) (d : ClientTurn M) → i < length old
      → IsClientTurn means sights (lines_at p.parts.items i) (slice_index_or old i d).client
      (slice_index_or new i d))
      → StayInGroup old new
  still_one sights old new p as_many turns book of_one i d below =
      let in_old : i < length old = omega (below, as_many, arith) in
      (turns i d in_old).group ∙ of_one i d in_old
