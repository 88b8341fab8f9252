-- Ending a pull: what the call answers, and the state after it.
-- Source: Pull Endpoint Reference; Replicache, How It Works, "Pull" and "Rebase". The refusals but the
-- response's own are this project's own rules.
use Rattle.std.specs.Prelude.{Bool, true, List, [], ◌∷◌, map, filter, length, nat_lt, ◌==◌, ◌&&◌, if◌then◌else◌, Result}
use Rattle.std.specs.Prelude.{Ok, Err}
use Rattle.std.specs.List.{list_any}
use Rattle.std.specs.declared.cmp.Ordering.{Ordering}
use Rattle.std.specs.declared.cmp.Ordering.TheVariants.{Less, Equal, Greater}
use Rattle.std.specs.FinMap as finite
use Rattle.group_history.specs.declared.responses.Confirmed.{Confirmed}
use Rattle.group_history.specs.declared.responses.Response.{Response}
use Rattle.group_history.specs.declared.responses.Response.TheVariants as response
use Rattle.group_history.specs.declared.responses.Ended.{Ended}
use Rattle.group_history.specs.declared.responses.Ended.TheVariants as ended
use Rattle.group_history.specs.declared.refusals.Refusal.{Refusal}
use Rattle.group_history.specs.declared.refusals.Refusal.TheVariants as refusal
use Rattle.group_history.specs.declared.mutations.MutationFields.{MutationFields as Mutation}
use Rattle.group_history.specs.Map.{Bytes, same_text, patched}
use Rattle.group_history.specs.Cookies.{Cookie, order_cmp}
use Rattle.group_history.specs.Pull.{Pull}
use Rattle.group_history.specs.State.{State, state, Ids, confirmed_id, rebased}

-- the response has the group's cookie text, and nothing else
abbrev pub says_nothing : Cookie → Pull → Bool
says_nothing cookie r = same_text r.cookie.text cookie.text && (length r.patch == 0 && length r.changes == 0)

-- some change is below the confirmed id of its client
abbrev pub goes_back : Ids → List Confirmed → Bool
goes_back ids changes = list_any (λ c. nat_lt c.id (confirmed_id ids c.client)) changes

-- by how the response's cookie stands to the group's
abbrev pub by_order : Ordering → State → Pull → Result Ended Refusal
by_order Less s r = Err refusal.CookieWentBack
by_order Equal s r = if says_nothing s.cookie r then Ok ended.Same else Err refusal.CookieNotNew
by_order Greater s r = if goes_back s.confirmed r.changes then Err refusal.IdWentBack else Ok ended.Applied

-- the reply to a response without an error: a ticket is good only while the group's cookie text is its own
abbrev pub end_at : State → Bytes → Pull → Result Ended Refusal
end_at s ticket r = if same_text s.cookie.text ticket then by_order
    (order_cmp r.cookie.order s.cookie.order) s r else Err refusal.Overtaken

-- the reply at an open state: an error response is refused as it says, whatever the ticket
abbrev pub open_end_reply : State → Bytes → Response → Result Ended Refusal
open_end_reply s ticket (response.Ok r) = end_at s ticket r
open_end_reply s ticket response.StateNotFound = Err refusal.StateNotFound
open_end_reply s ticket (response.VersionNotSupported kind) = Err (refusal.VersionNotSupported kind)

-- The reply to an end of a pull that was begun at this cookie text. A closed group ends no pull.
abbrev pub end_reply : State → Bytes → Response → Result Ended Refusal
end_reply s ticket r = if s.closed then Err refusal.Closed else open_end_reply s ticket r

-- the confirmed ids after changes, in order
abbrev pub overwritten : Ids → List Confirmed → Ids
overwritten ids [] = ids
overwritten ids (c ∷ cs) = overwritten (finite.insert ids c.client c.id) cs

-- the mutations whose id is above their client's confirmed id
abbrev pub unconfirmed : Ids → List Mutation → List Mutation
unconfirmed ids xs = filter (λ x. nat_lt (confirmed_id ids x.client) x.id) xs

-- what an applied response leaves pending: what is not confirmed, to be replayed for the reason Rebase
abbrev pub left_pending : Ids → List Mutation → List Mutation
left_pending ids xs = map rebased (unconfirmed ids xs)

-- the state after an applied response
abbrev pub after_pull : State → Pull → State
after_pull s r =
    let ids = overwritten s.confirmed r.changes in
    state (patched s.pulled r.patch) r.cookie ids (left_pending ids s.pending) s.closed

-- the state after the server said that it doesn't know the group
abbrev pub after_closing : State → State
after_closing s = state s.pulled s.cookie s.confirmed s.pending true

-- the state that a response without an error leaves, by its reply: only Applied changes it
abbrev pub left_at_end : Result Ended Refusal → State → Pull → State
left_at_end (Ok ended.Applied) s r = after_pull s r
left_at_end (Ok ended.Same) s r = s
left_at_end (Err refused) s r = s

-- the state that StateNotFound leaves, by its reply: with that reply it is closed
abbrev pub left_unknown : Result Ended Refusal → State → State
left_unknown (Err refusal.StateNotFound) s = after_closing s
left_unknown other s = s

-- The state that an end of a pull leaves, by its reply.
abbrev pub left_by_end : Result Ended Refusal → State → Response → State
left_by_end reply s (response.Ok r) = left_at_end reply s r
left_by_end reply s response.StateNotFound = left_unknown reply s
left_by_end reply s (response.VersionNotSupported kind) = s
