-- The pages of a set dropped one by one, the lowest first.
use Rattle.std.specs.Prelude.{ℕ, zero, suc, ◌/◌, ◌%◌, ◌^◌, ◌≤◌, ◌<◌, ◌≡◌, ◌≢◌, refl, List}
use Rattle.std.proofs.Common.{ap, arith}
use Rattle.std.specs.Int.Count.{under, count_trailing_zeros}
use Rattle.cells.specs.Bits.{tb}
use Rattle.cells.proofs.Bits.{tb_test}
use Rattle.cells.specs.Each.{each_to}
use Rattle.cells.proofs.Each.{each_is}
use Rattle.station_state.specs.Layout.{has_bit}
use Rattle.station_pages.specs.Pages.{drop_page_b, drop_one_b, drop_to}

pub drop_each : (s : List ℕ) (d n : ℕ) → each_to drop_page_b d s n ≡ drop_to s d n
unfolding drop_to drop_one_b has_bit
drop_each s d n = each_is drop_page_b (λ t p. tb d p) d n (drop_to s d) (λ k l. rw (tb_test k d) refl) (λ t k j p q. refl) (λ k l. refl) n (omega arith)

-- the lowest member of a set of pages, taken from it as a wider word
low_by : (x d m n : ℕ) → x % 2 ≡ d → x ≢ 0 → (x / 2 ≢ 0 → m ≡ n) → under d m ≡ under d n
low_by x zero m n e z h = ap (under 0) (h (λ y. z (omega (arith, e, y))))
low_by x (suc d) m n e z h = refl

pub low_page : (w n x : ℕ) → n ≤ w → x < 2 ^ n → x ≢ 0 → count_trailing_zeros w x ≡ count_trailing_zeros n x
unfolding count_trailing_zeros
low_page w zero x h l z = absurd (z (omega arith))
low_page zero (suc n) x h l z = absurd (omega arith)
low_page (suc w) (suc n) x h l z = low_by x (x % 2) _ _ refl z (λ y. low_page w n (x / 2) (omega arith) (omega arith) y)
