-- Worked examples, computed by the definitions alone.
use Rattle.std.specs.Prelude.{◌≡◌, false, ℕ, ◌+◌, List, [], ◌∷◌, Option, option_map, Some, None, Ok, Err, codes}
use Rattle.std.specs.Prelude.{if◌then◌else◌, pos}
use Rattle.std.specs.declared.cmp.Ordering.TheVariants.{Less, Equal}
use Rattle.std.specs.FinMap as finite
use Rattle.group_history.specs.declared.cookies.Order.{Order}
use Rattle.group_history.specs.declared.cookies.Order.TheVariants as order
use Rattle.group_history.specs.declared.mutations.MutationFields.{MutationFields as Mutation}
use Rattle.group_history.specs.declared.mutations.Reason.{Reason}
use Rattle.group_history.specs.declared.mutations.Reason.TheVariants.{Initial, Rebase}
use Rattle.group_history.specs.declared.responses.Patch.{Patch}
use Rattle.group_history.specs.declared.responses.Patch.TheVariants.{Put, Clear}
use Rattle.group_history.specs.declared.responses.Confirmed.{Confirmed}
use Rattle.group_history.specs.declared.responses.Response.TheVariants as response
use Rattle.group_history.specs.declared.responses.Ended.TheVariants.{Same}
use Rattle.group_history.specs.declared.refusals.Refusal.TheVariants.{Refused, Overtaken, CookieWentBack, CookieNotNew}
use Rattle.group_history.specs.declared.refusals.Refusal.TheVariants.{IdWentBack, StateNotFound, Closed}
use Rattle.group_history.specs.declared.scans.Start.TheVariants.{After}
use Rattle.group_history.specs.Map.{Bytes, Entries, patched, same_text}
use Rattle.group_history.specs.Meaning.{Meaning, Meanings, unknown, refuses, done}
use Rattle.group_history.specs.Cookies.{Cookie, order_cmp, cookie_at}
use Rattle.group_history.specs.Pull.{Pull}
use Rattle.group_history.specs.State.{State, state, opening, made, rebased}
use Rattle.group_history.specs.Scans.{rows_of}
use Rattle.group_history.specs.Queries.{get_at}
use Rattle.group_history.specs.Mutating.{mutate_reply, after_mutate}
use Rattle.group_history.specs.Pulling.{end_reply, after_pull, after_closing}

-- Three mutators to try the definitions with: `up` raises the last digit of the text at `n`, and refuses with 2 where
-- there is none;
-- `note` puts its arguments at `log`, `tag` puts its reason at `t`.
abbrev pub raised : Bytes → Bytes
raised [] = []
raised (x ∷ []) = (x + 1) ∷ []
raised (x ∷ y ∷ ys) = x ∷ raised (y ∷ ys)

abbrev pub up_at : Option Bytes → Entries → Meaning
up_at None m = refuses 2
up_at (Some text) m = done (finite.insert m (codes "n") (raised text))

abbrev pub tagged : Reason → Bytes
tagged Initial = codes "i"
tagged Rebase = codes "r"

abbrev pub trial : Meanings
trial name args why m =
    if same_text name (codes "up") then up_at (finite.get m (codes "n")) m
    else (if same_text name (codes "note") then done (finite.insert m (codes "log") args)
    else (if same_text name (codes "tag") then done (finite.insert m (codes "t") (tagged why)) else unknown))

-- the client `a` makes its mutation of this id
abbrev pub made_by_a : ℕ → Bytes → Bytes → Mutation
made_by_a id name args = made (codes "a") id name args 0

abbrev pub up : ℕ → Mutation
up id = made_by_a id (codes "up") (codes "[]")

abbrev pub note : ℕ → Mutation
note id = made_by_a id (codes "note") (codes "1")

abbrev pub tag : ℕ → Mutation
tag id = made_by_a id (codes "tag") (codes "[]")

-- the cookie of a number of one digit
abbrev pub cookie : ℕ → Cookie
cookie n = record { text = (48 + n) ∷ []; order = order.Number (pos n) }

-- a response with this cookie
abbrev pub pull : ℕ → List Confirmed → List Patch → Pull
pull n changes patch = record { cookie = cookie n; changes = changes; patch = patch }

abbrev pub put_n : Bytes → List Patch
put_n value = Put (codes "n") value ∷ []

abbrev pub confirms : ℕ → List Confirmed
confirms id = record { client = codes "a"; id = id } ∷ []

-- five is pulled, then raised by a mutation that waits
abbrev pub five : State
five = after_pull opening (pull 1 [] (put_n (codes "5")))

abbrev pub raised_five : State
raised_five = after_mutate five (up 1)

-- under a pending `up` and a pending `note` the map is cleared
abbrev pub cleared : State
cleared = after_pull (after_mutate raised_five (note 2)) (pull 2 [] (Clear ∷ []))

-- what the cookie that a text is is compared by
abbrev pub order_at : Bytes → Option Order
order_at text = option_map (λ (c : Cookie). c.order) (cookie_at text)

pub record WorkedExamples : Type 0 where
  pub patch_in_order : patched finite.empty (Put (codes "a") (codes "1") ∷ Clear ∷ Put (codes "b") (codes "2") ∷ [])
      ≡ finite.insert finite.empty (codes "b") (codes "2")
  pub scan_after_put : rows_of (record { prefix = codes "k"; start = After (codes "k1"); limit = Some 1 })
      (patched finite.empty (Put (codes "k2") (codes "2") ∷ Put (codes "k1") (codes "1") ∷ Put (codes "k3") (codes "3")
      ∷ [])) ≡ (codes "k2", codes "2") ∷ []
  pub optimistic : get_at trial raised_five (codes "n") ≡ Some (codes "6")
  pub replayed_on_pull : get_at trial (after_pull raised_five (pull 2 [] (put_n (codes "10")))) (codes "n")
      ≡ Some (codes "11")
  pub confirmed : after_pull raised_five (pull 2 (confirms 1) (put_n (codes "11")))
      ≡ state (finite.insert (finite.insert finite.empty (codes "n") (codes "5")) (codes "n") (codes "11")) (cookie 2)
      (finite.insert finite.empty (codes "a") 1) [] false
  pub cleared_under_pending : (get_at trial cleared (codes "n") ≡ None)
      × (get_at trial cleared (codes "log") ≡ Some (codes "1"))
      × (cleared.pending ≡ rebased (up 1) ∷ rebased (note 2) ∷ [])
  pub refused_while_cleared : mutate_reply trial cleared 2 (up 3) ≡ Err (Refused 2)
  pub comes_back : get_at trial (after_pull cleared (pull 3 [] (put_n (codes "5")))) (codes "n") ≡ Some (codes "6")
  pub overtaken : end_reply five (codes "null") (response.Ok (pull 2 [] (put_n (codes "6")))) ≡ Err Overtaken
  -- 7 is below "1", which is equal in order to {"order":"1"}
  pub cookies_in_order :
      (order_at (codes "7") ≡ Some (order.Number (pos 7))) × (order_at (codes "\"1\"") ≡ Some (order.Text (codes "1")))
      × (order_at (codes "{\"order\":\"1\"}") ≡ Some (order.Text (codes "1")))
      × (order_cmp (order.Number (pos 7)) (order.Text (codes "1")) ≡ Less)
      × (order_cmp (order.Text (codes "1")) (order.Text (codes "1")) ≡ Equal)
  pub same_or_not_new : (end_reply five (codes "1") (response.Ok (pull 1 [] [])) ≡ Ok Same)
      × (end_reply five (codes "1") (response.Ok (pull 1 [] (put_n (codes "6")))) ≡ Err CookieNotNew)
      × (end_reply five (codes "1") (response.Ok (pull 0 [] [])) ≡ Err CookieWentBack)
  pub id_went_back : end_reply (after_pull five (pull 2 (confirms 3) [])) (codes "2")
      (response.Ok (pull 3 (confirms 2) [])) ≡ Err IdWentBack
  -- a mutator is told why it is run: first by its client, then under each pull that is applied
  pub reasons : (get_at trial (after_mutate five (tag 1)) (codes "t") ≡ Some (codes "i"))
      × (get_at trial (after_pull (after_mutate five (tag 1)) (pull 2 [] [])) (codes "t") ≡ Some (codes "r"))
  -- a response that the server doesn't know the group closes it, whatever the ticket; the view stays
  pub closes : (end_reply raised_five (codes "null") response.StateNotFound ≡ Err StateNotFound)
      × (get_at trial (after_closing raised_five) (codes "n") ≡ Some (codes "6"))
  pub closed_for_all : (mutate_reply trial (after_closing raised_five) 1 (up 2) ≡ Err Closed)
      × (end_reply (after_closing raised_five) (codes "1") (response.Ok (pull 2 [] [])) ≡ Err Closed)
