-- Fields of unknown names don't count.
use Rattle.std.proofs.Common.{◌≡◌, List, ℕ, codes, Option, Some, None, option_and_then, refl, ap, ◌∙◌}
use Rattle.serde_json.specs.Data.{Data, Members, object, put}
use Rattle.serde_json.specs.Find.{get_member, as_str}
use Rattle.serde_json.proofs.Views.{get_member-put_other}
use Rattle.pull_patch.specs.Fields.{text_at}
use Rattle.pull_patch.specs.Operations.{edit_of, edit_named, put_of, del_of}
use Rattle.pull_patch.specs.Grammar.{response_of, pull_response, fields_of, error_of, by_error, kind_of}
use Rattle.pull_patch.specs.Laws.{IsUnknown, IsUnknownToOperations, UnknownFieldsDontCount}

kind : (name : List ℕ) (d : Data) (ms : Members) → IsUnknown name
    → kind_of (object (put name d ms)) ≡ kind_of (object ms)
unfolding kind_of
kind name d ms u = rw (get_member-put_other (codes "versionType") name d ms u.version)

fields : (name : List ℕ) (d : Data) (ms : Members) → IsUnknown name
    → fields_of (object (put name d ms)) ≡ fields_of (object ms)
unfolding fields_of
fields name d ms u =
    rw (
      get_member-put_other (codes "cookie") name d ms u.cookie,
      get_member-put_other (codes "lastMutationIDChanges") name d ms u.changes,
      get_member-put_other (codes "patch") name d ms u.patch,
    )

pull : (d e : Data) → fields_of d ≡ fields_of e → pull_response d ≡ pull_response e
unfolding pull_response
pull d e same = rw same

error : (x d e : Data) → kind_of d ≡ kind_of e → error_of x d ≡ error_of x e
unfolding error_of
error x d e same = rw same

either : (o : Option Data) (d e : Data) → kind_of d ≡ kind_of e → pull_response d ≡ pull_response e
    → by_error o d ≡ by_error o e
either None d e k p = p
either (Some x) d e k p = error x d e k

in_response : (name : List ℕ) (d : Data) (ms : Members) → IsUnknown name
    → response_of (object (put name d ms)) ≡ response_of (object ms)
unfolding response_of
in_response name d ms u =
    ap (λ o. by_error o (object (put name d ms))) (get_member-put_other (codes "error") name d ms u.error)
    ∙ either (get_member (codes "error") ms) (object (put name d ms)) (object ms) (kind name d ms u)
    (pull _ _ (fields name d ms u))

put_parts : (name : List ℕ) (d : Data) (ms : Members) → IsUnknownToOperations name
    → put_of (object (put name d ms)) ≡ put_of (object ms)
unfolding put_of
put_parts name d ms u = rw (
  get_member-put_other (codes "key") name d ms u.key,
  get_member-put_other (codes "value") name d ms u.value,
)

del_parts : (name : List ℕ) (d : Data) (ms : Members) → IsUnknownToOperations name
    → del_of (object (put name d ms)) ≡ del_of (object ms)
unfolding del_of
del_parts name d ms u = rw (get_member-put_other (codes "key") name d ms u.key)

named : (op : List ℕ) (d e : Data) → put_of d ≡ put_of e → del_of d ≡ del_of e → edit_named op d ≡ edit_named op e
named op d e p q = rw (p, q) refl

by_name : (o : Option (List ℕ)) (d e : Data) → put_of d ≡ put_of e → del_of d ≡ del_of e
    → option_and_then (λ op. edit_named op d) o ≡ option_and_then (λ op. edit_named op e) o
by_name None d e p q = refl
by_name (Some op) d e p q = named op d e p q

in_operation : (name : List ℕ) (d : Data) (ms : Members) → IsUnknownToOperations name
    → edit_of (object (put name d ms)) ≡ edit_of (object ms)
unfolding edit_of
in_operation name d ms u =
    ap (λ o. option_and_then (λ op. edit_named op (object (put name d ms))) (option_and_then as_str o))
    (get_member-put_other (codes "op") name d ms u.op)
    ∙ by_name (text_at (codes "op") (object ms)) (object (put name d ms)) (object ms) (put_parts name d ms u)
    (del_parts name d ms u)

pub unknown : UnknownFieldsDontCount
unknown = record { of_response = in_response; of_operation = in_operation }
