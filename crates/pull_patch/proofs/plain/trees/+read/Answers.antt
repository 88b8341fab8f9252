use Rattle.std.proofs.Common.{◌≡◌, ◌-◌, ◌<◌, [], ◌∷◌, length, Some, None, string_bytes, refl, sym, ap, ◌∙◌, arith}
use Rattle.std.proofs.Common.{rules}
use Rattle.json.specs.Token.{Token}
use Rattle.json.specs.Json.{parse_map, after_end_array, read_key, items, members, value}
use Rattle.json.specs.Reads.{token_of}
use Rattle.json.proofs.Grammar.{value_is, read_key-shorter}
use Rattle.serde_json.specs.Data.{null, boolean, number, string, put}
use Rattle.serde_json.specs.Read.{of_json, of_items, of_members, converted}
use Rattle.serde_json.specs.View.{view, number_view, items_view, members_view}
use Rattle.serde_json.specs.declared.value.Value.{String, Number, Bool, Null, the_lemmas}
use Rattle.serde_json.proofs.Views.{view-Array, view-Object, members_view-insert_entry}
use Rattle.pull_patch.proofs.Turns.{item_read, items_over, member_read, members_over, array_read, object_read}
use Rattle.pull_patch.proofs.Trees.{items_before, items_before-no_items, one_more_item, none_before}
use Rattle.pull_patch.proofs.plain.trees.+read.Goals as goal

pub read_tree-returns-in_ok-from_str-in-String-clause-read :
    goal.read_tree-returns-in_ok-from_str-in-String-clause-read
read_tree-returns-in_ok-from_str-in-String-clause-read t c =
    let first : c.args.reader.now ≡ token_of c.in_ok-token.token ∷ c.next.new.self = grind arith in
    let is : c.args.reader.now ≡ Token.string c.in-String.text.now ∷ c.next.new.self = grind (arith, first) in
    let seen : view (String c.in_ok-from_str-in-String.field-0)
    ≡ string c.in-String.text.now = search (rules, the_lemmas) in
    ap (converted of_json) (ap (value c.args.depth) is ∙ value_is c.args.depth _) ∙ ap (λ d. Some (d, c.next.new.self))
    (sym seen)

pub read_tree-returns-in-Some-clause-read : goal.read_tree-returns-in-Some-clause-read
read_tree-returns-in-Some-clause-read t c =
    let first : c.args.reader.now ≡ token_of c.in_ok-token.token ∷ c.next.new.self = grind arith in
    let is : c.args.reader.now ≡ Token.number c.in-Number.text.now ∷ c.next.new.self = grind (arith, first) in
    let seen : view (Number c.in-Some.number) ≡ number (number_view c.in-Some.number) = search (rules, the_lemmas) in
    ap (converted of_json) (ap (value c.args.depth) is ∙ value_is c.args.depth _) ∙ rw
    (c.in-Some.ensures.reads, seen)

pub read_tree-returns-in-Bool-clause-read : goal.read_tree-returns-in-Bool-clause-read
read_tree-returns-in-Bool-clause-read t c =
    let first : c.args.reader.now ≡ token_of c.in_ok-token.token ∷ c.next.new.self = grind arith in
    let is : c.args.reader.now ≡ Token.boolean c.in-Bool.b ∷ c.next.new.self = grind (arith, first) in
    let seen : view (Bool c.in-Bool.b) ≡ boolean c.in-Bool.b = search (rules, the_lemmas) in
    ap (converted of_json) (ap (value c.args.depth) is ∙ value_is c.args.depth _) ∙ ap (λ d. Some (d, c.next.new.self))
    (sym seen)

pub read_tree-returns-in-Null-clause-read : goal.read_tree-returns-in-Null-clause-read
read_tree-returns-in-Null-clause-read t c =
    let first : c.args.reader.now ≡ token_of c.in_ok-token.token ∷ c.next.new.self = grind arith in
    let is : c.args.reader.now ≡ Token.null ∷ c.next.new.self = grind (arith, first) in
    let seen : view (Null) ≡ null = search (rules, the_lemmas) in
    ap (converted of_json) (ap (value c.args.depth) is ∙ value_is c.args.depth _) ∙ ap (λ d. Some (d, c.next.new.self))
    (sym seen)

pub read_tree-returns-in_ok-read_items-in-BeginArray-clause-read :
    goal.read_tree-returns-in_ok-read_items-in-BeginArray-clause-read
read_tree-returns-in_ok-read_items-in-BeginArray-clause-read t c =
    let first : c.args.reader.now ≡ token_of c.in_ok-token.token ∷ c.next.new.self = grind arith in
    let opened = first ∙ ap (λ k. token_of k ∷ c.next.new.self) c.in-BeginArray.is in
    let found = c.in_ok-read_items-in-BeginArray in
    ap (λ ts. converted of_json (value c.args.depth ts)) opened ∙ array_read c.args.depth c.next.new.self
    c.read_items.new.reader (items_view found.field-0.items) (omega arith) found.ensures.read
    ∙ ap (λ d. Some (d, c.read_items.new.reader)) (sym (view-Array found.field-0))

pub read_tree-returns-in_ok-read_members-in-BeginObject-clause-read :
    goal.read_tree-returns-in_ok-read_members-in-BeginObject-clause-read
read_tree-returns-in_ok-read_members-in-BeginObject-clause-read t c =
    let first : c.args.reader.now ≡ token_of c.in_ok-token.token ∷ c.next.new.self = grind arith in
    let opened = first ∙ ap (λ k. token_of k ∷ c.next.new.self) c.in-BeginObject.is in
    let found = c.in_ok-read_members-in-BeginObject in
    ap (λ ts. converted of_json (value c.args.depth ts)) opened ∙ object_read c.args.depth c.next.new.self
    c.read_members.new.reader (members_view found.field-0.entries) (omega arith) found.ensures.read
    ∙ ap (λ d. Some (d, c.read_members.new.reader)) (sym (view-Object found.field-0))

pub read_items-items-init : goal.read_items-items-init
read_items-items-init t c =
    let all = converted of_items (items (value c.args.depth) (length c.args.reader.now) c.args.reader.now) in (
      length c.args.reader.now,
      omega arith,
      none_before all ∙ ap (λ vs. parse_map (items_before vs) all) (sym c.new-found.ensures.items),
      omega arith,
    )

pub read_items-items-preserved : goal.read_items-items-preserved
read_items-items-preserved t c =
    let p = value c.args.depth in
    let l = c.items in
    let n = l.invariant.0 in
    let going : (after_end_array l.reader ≡ None) × (c.take_end_array.new.self ≡ l.reader) = grind arith in
    let done = c.in_ok-item.ensures in
    let v = c.in_ok-item.item in
    let r = c.read_tree.new.reader in
    let less : length r < length l.reader = rw (← going.1) done.shorter in
    let turn = item_read p n l.reader r (view v) (omega (arith, l.invariant.1)) going.0 (rw (← going.1) done.read) in (
      n - 1,
      omega (arith, l.invariant.1),
      l.invariant.2 ∙ ap (parse_map (items_before l.found.items)) turn ∙ one_more_item l.found.items v _
          ∙ ap (λ vs. parse_map (items_before vs) (converted of_items (items p (n - 1) r)))
          (sym c.in_ok-push.ensures.items),
      omega (arith, l.invariant.3),
    )

pub read_items-returns-clause-read : goal.read_items-returns-clause-read
read_items-returns-clause-read t c =
    let p = value c.args.depth in
    let l = c.items in
    let n = l.invariant.0 in
    let r = c.take_end_array.new.self in
    l.invariant.2 ∙ ap (parse_map (items_before l.found.items))
    (items_over p n l.reader r l.invariant.1 (grind arith))
    ∙ ap (λ ds. Some (ds, r)) (items_before-no_items l.found.items)

pub read_members-members-init : goal.read_members-members-init
read_members-members-init t c =
    let all = members (value c.args.depth) (length c.args.reader.now) c.args.reader.now in (
      length c.args.reader.now,
      omega arith,
      ap (λ es. converted (λ ms. of_members ms (members_view es)) all) (sym c.new-found.ensures.empty),
      omega arith,
      ([], (refl, refl)),
    )

pub read_members-members-preserved : goal.read_members-members-preserved
read_members-members-preserved t c =
    let p = value c.args.depth in
    let l = c.members in
    let n = l.invariant.0 in
    let old = members_view l.found.entries in
    let k = c.in-Some.name.now in
    let s = c.next_key.new.self in
    let named : read_key l.reader ≡ Some (Some k, s) = grind arith in
    let done = c.in_ok-member.ensures in
    let v = c.in_ok-member.member in
    let r = c.read_tree.new.reader in
    let less = read_key-shorter l.reader (Some k) s named in
    let lesser = done.shorter in
    let copied : string_bytes c.in_ok-key.key ≡ k = search rules in
    let inserted : members_view c.insert.new.self.entries ≡ put k (view v) old =
    ap members_view c.in_ok-insert.ensures.entries ∙ members_view-insert_entry l.found.entries c.in_ok-key.key v
    ∙ ap (λ name. put name (view v) old) copied in (
      n - 1,
      omega (arith, l.invariant.1),
      l.invariant.2 ∙ member_read p old n k l.reader s r (view v) (omega (arith, l.invariant.1)) named done.read
          ∙ ap (λ found. converted (λ ms. of_members ms found) (members p (n - 1) r)) (sym inserted),
      omega (arith, l.invariant.3),
      search rules,
    )

pub read_members-returns-clause-read : goal.read_members-returns-clause-read
read_members-returns-clause-read t c =
    let p = value c.args.depth in
    let l = c.members in
    let n = l.invariant.0 in
    let old = members_view l.found.entries in
    l.invariant.2 ∙ members_over p old n l.reader c.next_key.new.self l.invariant.1 (grind arith)
