-- The order of cookies is total.
use Rattle.std.proofs.Common.{◌≡◌, false, true≢false, refl, sym, ap, ◌∙◌, Some}
use Rattle.std.specs.Ordering.{is_lt, is_eq, eq_by_cmp, ordering_reverse}
use Rattle.std.specs.declared.cmp.Ordering.{Ordering}
use Rattle.std.specs.declared.cmp.Ordering.TheVariants.{Less, Equal}
use Rattle.std.specs.Cmp.{IsTotalOrder, IsPartialOrder, int_cmp_total, po}
use Rattle.std.specs.Cmp.Lexicographic.{nat_list_cmp_total}
use Rattle.group_history.specs.declared.cookies.Order.{Order}
use Rattle.group_history.specs.declared.cookies.Order.TheVariants as order
use Rattle.group_history.specs.Cookies.{order_cmp}

not_less : (r : Ordering) → is_lt r ≡ false → r ≡ Less → ⊥
not_less r other is = true≢false (sym (ap is_lt is) ∙ other)

not_equal : (r : Ordering) → is_eq r ≡ false → r ≡ Equal → ⊥
not_equal r other is = true≢false (sym (ap is_eq is) ∙ other)

turned : (x y : Order) → order_cmp x y ≡ ordering_reverse (order_cmp y x)
turned order.Null order.Null = refl
turned order.Null (order.Number b) = refl
turned order.Null (order.Text b) = refl
turned (order.Number a) order.Null = refl
turned (order.Number a) (order.Number b) = int_cmp_total.antisymm a b
turned (order.Number a) (order.Text b) = refl
turned (order.Text a) order.Null = refl
turned (order.Text a) (order.Number b) = refl
turned (order.Text a) (order.Text b) = nat_list_cmp_total.antisymm a b

chained : (x y z : Order) → order_cmp x y ≡ Less → order_cmp y z ≡ Less → order_cmp x z ≡ Less
chained order.Null order.Null order.Null p q = absurd (not_less _ refl p)
chained order.Null order.Null (order.Number c) p q = absurd (not_less _ refl p)
chained order.Null order.Null (order.Text c) p q = absurd (not_less _ refl p)
chained order.Null (order.Number b) order.Null p q = absurd (not_less _ refl q)
chained order.Null (order.Number b) (order.Number c) p q = refl
chained order.Null (order.Number b) (order.Text c) p q = refl
chained order.Null (order.Text b) order.Null p q = absurd (not_less _ refl q)
chained order.Null (order.Text b) (order.Number c) p q = absurd (not_less _ refl q)
chained order.Null (order.Text b) (order.Text c) p q = refl
chained (order.Number a) order.Null order.Null p q = absurd (not_less _ refl p)
chained (order.Number a) order.Null (order.Number c) p q = absurd (not_less _ refl p)
chained (order.Number a) order.Null (order.Text c) p q = absurd (not_less _ refl p)
chained (order.Number a) (order.Number b) order.Null p q = absurd (not_less _ refl q)
chained (order.Number a) (order.Number b) (order.Number c) p q = int_cmp_total.trans a b c p q
chained (order.Number a) (order.Number b) (order.Text c) p q = refl
chained (order.Number a) (order.Text b) order.Null p q = absurd (not_less _ refl q)
chained (order.Number a) (order.Text b) (order.Number c) p q = absurd (not_less _ refl q)
chained (order.Number a) (order.Text b) (order.Text c) p q = refl
chained (order.Text a) order.Null order.Null p q = absurd (not_less _ refl p)
chained (order.Text a) order.Null (order.Number c) p q = absurd (not_less _ refl p)
chained (order.Text a) order.Null (order.Text c) p q = absurd (not_less _ refl p)
chained (order.Text a) (order.Number b) order.Null p q = absurd (not_less _ refl p)
chained (order.Text a) (order.Number b) (order.Number c) p q = absurd (not_less _ refl p)
chained (order.Text a) (order.Number b) (order.Text c) p q = absurd (not_less _ refl p)
chained (order.Text a) (order.Text b) order.Null p q = absurd (not_less _ refl q)
chained (order.Text a) (order.Text b) (order.Number c) p q = absurd (not_less _ refl q)
chained (order.Text a) (order.Text b) (order.Text c) p q = nat_list_cmp_total.trans a b c p q

alike : (x y z : Order) → order_cmp x y ≡ Equal → order_cmp x z ≡ order_cmp y z
alike order.Null order.Null order.Null p = refl
alike order.Null order.Null (order.Number c) p = refl
alike order.Null order.Null (order.Text c) p = refl
alike order.Null (order.Number b) order.Null p = absurd (not_equal _ refl p)
alike order.Null (order.Number b) (order.Number c) p = absurd (not_equal _ refl p)
alike order.Null (order.Number b) (order.Text c) p = absurd (not_equal _ refl p)
alike order.Null (order.Text b) order.Null p = absurd (not_equal _ refl p)
alike order.Null (order.Text b) (order.Number c) p = absurd (not_equal _ refl p)
alike order.Null (order.Text b) (order.Text c) p = absurd (not_equal _ refl p)
alike (order.Number a) order.Null order.Null p = absurd (not_equal _ refl p)
alike (order.Number a) order.Null (order.Number c) p = absurd (not_equal _ refl p)
alike (order.Number a) order.Null (order.Text c) p = absurd (not_equal _ refl p)
alike (order.Number a) (order.Number b) order.Null p = refl
alike (order.Number a) (order.Number b) (order.Number c) p = int_cmp_total.congr a b c p
alike (order.Number a) (order.Number b) (order.Text c) p = refl
alike (order.Number a) (order.Text b) order.Null p = absurd (not_equal _ refl p)
alike (order.Number a) (order.Text b) (order.Number c) p = absurd (not_equal _ refl p)
alike (order.Number a) (order.Text b) (order.Text c) p = absurd (not_equal _ refl p)
alike (order.Text a) order.Null order.Null p = absurd (not_equal _ refl p)
alike (order.Text a) order.Null (order.Number c) p = absurd (not_equal _ refl p)
alike (order.Text a) order.Null (order.Text c) p = absurd (not_equal _ refl p)
alike (order.Text a) (order.Number b) order.Null p = absurd (not_equal _ refl p)
alike (order.Text a) (order.Number b) (order.Number c) p = absurd (not_equal _ refl p)
alike (order.Text a) (order.Number b) (order.Text c) p = absurd (not_equal _ refl p)
alike (order.Text a) (order.Text b) order.Null p = refl
alike (order.Text a) (order.Text b) (order.Number c) p = refl
alike (order.Text a) (order.Text b) (order.Text c) p = nat_list_cmp_total.congr a b c p

pub order_cmp_total : IsTotalOrder order_cmp
order_cmp_total = record { antisymm = turned; trans = chained; congr = alike }

pub order_po : IsPartialOrder (eq_by_cmp order_cmp) (λ x y. Some (order_cmp x y))
order_po = po order_cmp_total (λ x y. refl)
