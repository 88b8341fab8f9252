use Rattle.std.proofs.Common.{◌≡◌, ◌-◌, ◌<◌, [], ◌∷◌, ◌++◌, length, Some, None, refl, sym, ap, ◌∙◌, arith, rules}
use Rattle.std.proofs.Common.{append_assoc, append-nil}
use Rattle.std.proofs.lemmas.Result.{IfOk-weaker}
use Rattle.json.specs.Token.{Token}
use Rattle.json.specs.Json.{Json, no_items, no_members, array, object, parse_map, after_end_array, read_key, value}
use Rattle.json.specs.Reads.{token_of}
use Rattle.json.specs.Tree.{items_tokens, members_tokens}
use Rattle.json.proofs.Grammar.{value_is, value-begin_array, value-begin_object, read_key-shorter, items_end}
use Rattle.json.proofs.Grammar.{items_more, members_end, members_more}
use Rattle.pull_patch.proofs.Copies.{items_joined, items_front, items_joined-none, items_front-closed}
use Rattle.pull_patch.proofs.Copies.{ItemsArePlain-all, IsPlain-array, members_joined, members_front}
use Rattle.pull_patch.proofs.Copies.{members_joined-none, members_front-closed, PlainUpTo-none, MembersArePlain-all}
use Rattle.pull_patch.proofs.Copies.{IsPlain-object, IsPlain-string, IsPlain-number, IsPlain-boolean, IsPlain-null}
use Rattle.pull_patch.proofs.Copies.{items_unjoined, items_turn, items_written, items_plain, item_pushed}
use Rattle.pull_patch.proofs.Copies.{members_unjoined, members_turn, members_written, members_plain, member_pushed}
use Rattle.pull_patch.proofs.plain.copies.+copy.Goals as goal

pub copy_value-returns-in_ok-string-in-String-clause-copied :
    goal.copy_value-returns-in_ok-string-in-String-clause-copied
copy_value-returns-in_ok-string-in-String-clause-copied t c =
    let first : c.args.reader.now ≡ token_of c.in_ok-token.token ∷ c.next.new.self = grind arith in
    let is : c.args.reader.now ≡ Token.string c.in-String.text.now ∷ c.next.new.self = grind (arith, first) in
    let put : c.string.new.self.tokens ≡ c.args.out.now.tokens ++ Token.string c.in-String.text.now
    ∷ [] = search rules in
    record {
      what = Json.string c.in-String.text.now;
      reads = ap (value c.args.depth) is ∙ value_is c.args.depth _;
      written = put;
      is_plain = λ e. IsPlain-string c.in-String.text.now;
    }

pub copy_value-returns-in_ok-number-in-Number-clause-copied :
    goal.copy_value-returns-in_ok-number-in-Number-clause-copied
copy_value-returns-in_ok-number-in-Number-clause-copied t c =
    let first : c.args.reader.now ≡ token_of c.in_ok-token.token ∷ c.next.new.self = grind arith in
    let is : c.args.reader.now ≡ Token.number c.in-Number.text.now ∷ c.next.new.self = grind (arith, first) in
    let put : c.number.new.self.tokens ≡ c.args.out.now.tokens ++ Token.number c.in-Number.text.now
    ∷ [] = search rules in
    record {
      what = Json.number c.in-Number.text.now;
      reads = ap (value c.args.depth) is ∙ value_is c.args.depth _;
      written = put;
      is_plain = λ e. IsPlain-number c.in-Number.text.now (c.is_plain_number.ensures e);
    }

pub copy_value-returns-in_ok-boolean-in-Bool-clause-copied : goal.copy_value-returns-in_ok-boolean-in-Bool-clause-copied
copy_value-returns-in_ok-boolean-in-Bool-clause-copied t c =
    let first : c.args.reader.now ≡ token_of c.in_ok-token.token ∷ c.next.new.self = grind arith in
    let is : c.args.reader.now ≡ Token.boolean c.in-Bool.b ∷ c.next.new.self = grind (arith, first) in
    let put : c.boolean.new.self.tokens ≡ c.args.out.now.tokens ++ Token.boolean c.in-Bool.b ∷ [] = search rules in
    record {
      what = Json.boolean c.in-Bool.b;
      reads = ap (value c.args.depth) is ∙ value_is c.args.depth _;
      written = put;
      is_plain = λ e. IsPlain-boolean c.in-Bool.b;
    }

pub copy_value-returns-in_ok-null-in-Null-clause-copied : goal.copy_value-returns-in_ok-null-in-Null-clause-copied
copy_value-returns-in_ok-null-in-Null-clause-copied t c =
    let first : c.args.reader.now ≡ token_of c.in_ok-token.token ∷ c.next.new.self = grind arith in
    let is : c.args.reader.now ≡ Token.null ∷ c.next.new.self = grind (arith, first) in
    let put : c.null.new.self.tokens ≡ c.args.out.now.tokens ++ Token.null ∷ [] = search rules in
    record {
      what = Json.null;
      reads = ap (value c.args.depth) is ∙ value_is c.args.depth _;
      written = put;
      is_plain = λ e. IsPlain-null;
    }

pub copy_value-returns-in-BeginArray-clause-copied : goal.copy_value-returns-in-BeginArray-clause-copied
copy_value-returns-in-BeginArray-clause-copied t c =
    let first : c.args.reader.now ≡ token_of c.in_ok-token.token ∷ c.next.new.self = grind arith in
    let opened = first ∙ ap (λ k. token_of k ∷ c.next.new.self) c.in-BeginArray.is in
    IfOk-weaker c.copy_array.result _ _ (λ plain done. record {
      what = done.what;
      reads = ap (value c.args.depth) opened ∙ done.reads;
      written = done.written;
      is_plain = done.is_plain;
    }) c.copy_array.ensures.copied

pub copy_value-returns-in-BeginObject-clause-copied : goal.copy_value-returns-in-BeginObject-clause-copied
copy_value-returns-in-BeginObject-clause-copied t c =
    let first : c.args.reader.now ≡ token_of c.in_ok-token.token ∷ c.next.new.self = grind arith in
    let opened = first ∙ ap (λ k. token_of k ∷ c.next.new.self) c.in-BeginObject.is in
    IfOk-weaker c.copy_object.result _ _ (λ plain done. record {
      what = done.what;
      reads = ap (value c.args.depth) opened ∙ done.reads;
      written = done.written;
      is_plain = done.is_plain;
    }) c.copy_object.ensures.copied

pub copy_array-returns-clause-copied : goal.copy_array-returns-clause-copied
copy_array-returns-clause-copied t c =
    let opened = value-begin_array c.args.depth c.args.reader.now (omega arith) in
    let put : c.begin_array.new.self.tokens ≡ c.args.out.now.tokens ++ Token.begin_array ∷ [] = search rules in
    IfOk-weaker c.copy_items.result _ _ (λ plain done. record {
      what = Json.array done.what;
      reads = opened ∙ ap (parse_map array) done.reads;
      written = done.written ∙ ap (λ ts. ts ++ items_tokens done.what) put ∙ append_assoc c.args.out.now.tokens
          (Token.begin_array ∷ []) (items_tokens done.what);
      is_plain = λ e. IsPlain-array done.what (done.is_plain e);
    }) c.copy_items.ensures.copied

pub copy_object-returns-clause-copied : goal.copy_object-returns-clause-copied
copy_object-returns-clause-copied t c =
    let opened = value-begin_object c.args.depth c.args.reader.now (omega arith) in
    let put : c.begin_object.new.self.tokens ≡ c.args.out.now.tokens ++ Token.begin_object ∷ [] = search rules in
    IfOk-weaker c.copy_members.result _ _ (λ plain done. record {
      what = Json.object done.what;
      reads = opened ∙ ap (parse_map object) done.reads;
      written = done.written ∙ ap (λ ts. ts ++ members_tokens done.what) put ∙ append_assoc c.args.out.now.tokens
          (Token.begin_object ∷ []) (members_tokens done.what);
      is_plain = λ e. IsPlain-object done.what (done.is_plain e);
    }) c.copy_members.ensures.copied

pub copy_items-items-init : goal.copy_items-items-init
copy_items-items-init t c = (
  length c.args.reader.now,
  omega arith,
  omega arith,
  no_items,
  items_unjoined _,
  sym (append-nil _),
  λ e. tt,
  refl,
)

pub copy_items-items-preserved : goal.copy_items-items-preserved
copy_items-items-preserved t c =
    let p = value c.args.depth in
    let l = c.items in
    let n = l.invariant.0 in
    let going : (after_end_array l.reader ≡ None) × (c.take_end_array.new.self ≡ l.reader) = grind arith in
    let done = c.in_ok-item.ensures.copied in
    let r = c.copy_value.new.reader in
    let less : length r < length l.reader = rw (← going.1) c.in_ok-item.ensures.shorter in
    let turn = items_more p n l.reader r done.what (omega (arith, l.invariant.1)) going.0
    (rw (← going.1) done.reads) in (
      n - 1,
      omega (arith, l.invariant.1),
      omega (arith, l.invariant.2),
      item_pushed l.invariant.3 done.what,
      items_turn l.invariant.3 done.what _ _ _ l.invariant.4 turn,
      items_written l.invariant.3 done.what _ _ _ l.invariant.5 done.written,
      items_plain l.invariant.3 done.what _ _ l.invariant.6 done.is_plain,
      c.in_ok-item.ensures.before ∙ l.invariant.7,
    )

pub copy_items-returns-clause-copied : goal.copy_items-returns-clause-copied
copy_items-returns-clause-copied t c =
    let p = value c.args.depth in
    let l = c.items in
    let n = l.invariant.0 in
    let r = c.take_end_array.new.self in
    let over : after_end_array l.reader ≡ Some r = grind arith in
    let closed : c.end_array.new.self.tokens ≡ l.out.tokens ++ Token.end_array ∷ [] = search rules in
    record {
      what = l.invariant.3;
      reads = l.invariant.4 ∙ ap (parse_map (items_joined l.invariant.3))
          (items_end p n l.reader r l.invariant.1 over) ∙ ap (λ js. Some (js, r)) (items_joined-none l.invariant.3);
      written = closed ∙ ap (λ ts. ts ++ Token.end_array ∷ []) l.invariant.5 ∙ append_assoc c.args.out.now.tokens
          (items_front l.invariant.3) (Token.end_array ∷ [])
          ∙ ap (λ ts. c.args.out.now.tokens ++ ts) (items_front-closed l.invariant.3);
      is_plain = λ e. ItemsArePlain-all l.invariant.3 (l.invariant.6 e);
    }

pub copy_members-members-init : goal.copy_members-members-init
copy_members-members-init t c = (
  length c.args.reader.now,
  omega arith,
  omega arith,
  no_members,
  members_unjoined _,
  sym (append-nil _),
  λ e. PlainUpTo-none,
  ([], (refl, refl)),
  refl,
)

pub copy_members-members-preserved : goal.copy_members-members-preserved
copy_members-members-preserved t c =
    let p = value c.args.depth in
    let l = c.members in
    let n = l.invariant.0 in
    let k = c.in-Some.name.now in
    let s = c.next_key.new.self in
    let key : read_key l.reader ≡ Some (Some k, s) = grind arith in
    let done = c.in_ok-member.ensures.copied in
    let r = c.copy_value.new.reader in
    let less = read_key-shorter l.reader (Some k) s key in
    let lesser = c.in_ok-member.ensures.shorter in
    let named : c.key.new.self.tokens ≡ l.out.tokens ++ Token.key k ∷ [] = search rules in
    let turn = members_more p n k l.reader s r done.what (omega (arith, l.invariant.1)) key done.reads in (
      n - 1,
      omega (arith, l.invariant.1),
      omega (arith, l.invariant.2),
      member_pushed l.invariant.3 k done.what,
      members_turn l.invariant.3 k done.what _ _ _ l.invariant.4 turn,
      members_written l.invariant.3 k done.what _ _ _ _ l.invariant.5 named done.written,
      members_plain l.last.now k l.invariant.3 done.what l.plain c.in_ok-member.member c.is_before.result l.invariant.6
          done.is_plain c.is_before.ensures,
      search rules,
      search rules,
    )

pub copy_members-returns-clause-copied : goal.copy_members-returns-clause-copied
copy_members-returns-clause-copied t c =
    let p = value c.args.depth in
    let l = c.members in
    let n = l.invariant.0 in
    let r = c.next_key.new.self in
    let over : read_key l.reader ≡ Some (None, r) = grind arith in
    let closed : c.end_object.new.self.tokens ≡ l.out.tokens ++ Token.end_object ∷ [] = search rules in
    record {
      what = l.invariant.3;
      reads = l.invariant.4 ∙ ap (parse_map (members_joined l.invariant.3))
          (members_end p n l.reader r l.invariant.1 over) ∙ ap (λ ms. Some (ms, r)) (members_joined-none l.invariant.3);
      written = closed ∙ ap (λ ts. ts ++ Token.end_object ∷ []) l.invariant.5 ∙ append_assoc c.args.out.now.tokens
          (members_front l.invariant.3) (Token.end_object ∷ [])
          ∙ ap (λ ts. c.args.out.now.tokens ++ ts) (members_front-closed l.invariant.3);
      is_plain = λ e. MembersArePlain-all l.last.now l.invariant.3 (l.invariant.6 e);
    }
