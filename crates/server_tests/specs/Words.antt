-- What a waiter wants of eight pages, as a word: where that is what it wants of one of them, it wants nothing of the others.
use Rattle.std.specs.Prelude.{ℕ, zero, suc, ◌+◌, ◌*◌, ◌/◌, ◌%◌, ◌^◌, ◌≤◌, ◌<◌, ◌≡◌, refl, ◌≢◌, Bool, true, false, not, ◌&&◌, List, get_or}
use Rattle.std.proofs.Math.Path.{sym}
use Rattle.std.proofs.Common.{◌∙◌}
use native.Mathlib.Omega.{arith}
use Rattle.std.specs.Int.Bits.{bit_or, shifted_half, shifted_even}
use Rattle.std.proofs.lemmas.Nat.{or_lt}
use Rattle.std.proofs.Math.Pow.{shl_exact}
use Rattle.sets.proofs.Laws.{and_l, and_r, not_no}
use Rattle.le.specs.Le.{u64_at}
use Rattle.cells.specs.Num.{AllBytes}
use Rattle.cells.specs.Bits.{tb}
use Rattle.cells.proofs.Bits.{tb_zero, tb_or, tb_high, tb_tells}
use Rattle.station_state.specs.Layout.{has_bit, member}
use Rattle.station_state.specs.Sets.{words_members}
use Rattle.server_state.specs.Facts.{all_3}
use Rattle.server_state.specs.Layout.{read_set_from, written_set_from, read_set, written_set, wanted_on}
use Rattle.server_tests.specs.Blockers.{bit_is}
use Rattle.server_tests.specs.Alone.{Alone}

-- the object sets of the pages of group g
unfoldable pub wanted_in : List ℕ → ℕ → ℕ → ℕ
wanted_in s i g = bit_or (u64_at s (read_set_from i + g * 8)) (u64_at s (written_set_from i + g * 8))

-- nothing is wanted of the pages of group g but of p
unfoldable pub OnlyIn : List ℕ → ℕ → ℕ → ℕ → Type 0
OnlyIn s i g p = (q : ℕ) → q < 32 → q / 8 ≡ g → q ≢ p → wanted_on s i q ≡ 0

-- a byte moved up by k bits has no others than those eight
moved_bit : (x k j : ℕ) → x < 2 ^ 8 → (k ≤ j → k + 8 ≤ j) → tb (x * 2 ^ k) j ≡ false
unfolding tb
moved_bit x zero j l h = let e : x * 2 ^ 0 ≡ x = omega arith in rw e (tb_high 8 j x (omega (arith, h (omega arith))) l)
moved_bit x (suc k) zero l h = rw (shifted_even x k) refl
moved_bit x (suc k) (suc j) l h = rw (shifted_half x k) (moved_bit x k j l (λ m. omega (arith, h (omega arith))))

-- A PAGE IN ITS WORD

module _ (s : List ℕ) (b : AllBytes s) where
  byte_bit : (at q o : ℕ) → q < 32 → o < 8 → tb (get_or s (at + q) 0) o ≡ tb (u64_at s (at + q / 8 * 8)) (q % 8 * 8 + o)
  unfolding member
  byte_bit at q o l m =
      let a = q * 8 + o in
      let page : a / 8 ≡ q = omega arith in
      let object : a % 8 ≡ o = omega arith in
      let group : a / 64 ≡ q / 8 = omega arith in
      let place : a % 64 ≡ q % 8 * 8 + o = omega arith in
      let there : has_bit (get_or s (at + a / 8) 0) (a % 8) ≡ tb (u64_at s (at + a / 64 * 8)) (a % 64) =
      words_members s b at (λ k. u64_at s (at + k * 8)) (λ k _. refl) a (omega arith) in
      sym (bit_is (get_or s (at + q) 0) o) ∙ rw (page, object, group, place) at there

  module _ (i : ℕ) where
    wanted_bit : (q o : ℕ) → q < 32 → o < 8 → tb (wanted_on s i q) o ≡ tb (wanted_in s i (q / 8)) (q % 8 * 8 + o)
    unfolding wanted_in
    wanted_bit q o l m =
        tb_or o (read_set s i q) (written_set s i q)
        ∙ rw (byte_bit (read_set_from i) q o l m, byte_bit (written_set_from i) q o l m)
        (sym (tb_or (q % 8 * 8 + o) (u64_at s (read_set_from i + q / 8 * 8)) (u64_at s (written_set_from i + q / 8 * 8))))

    wanted_lt : (q : ℕ) → wanted_on s i q < 2 ^ 8
    wanted_lt q = or_lt 8 (read_set s i q) (written_set s i q) (b (read_set_from i + q)) (b (written_set_from i + q))

    none_of : (q : ℕ) → q < 32 → ((o : ℕ) → o < 8 → tb (wanted_in s i (q / 8)) (q % 8 * 8 + o) ≡ false) → wanted_on s i q ≡ 0
    none_of q l h = tb_tells 8 (wanted_on s i q) 0 (wanted_lt q) (omega arith) (λ o m. wanted_bit q o l m ∙ h o m ∙ sym (tb_zero o))

    -- the word w of group g, as the code finds it: what is wanted of p, moved to its place, or nothing
    module _ (g p : ℕ) {w : ℕ} (is : w ≡ wanted_in s i g) where
      pub only_moved : {x : ℕ} → x ≡ wanted_on s i p → g ≡ p / 8 → w ≡ (x * 2 ^ (p % 8 * 8)) % 2 ^ 64 → OnlyIn s i g p
      unfolding OnlyIn
      only_moved {x} ex eg ew q l eq n =
          let small : x < 2 ^ 8 = rw ex (wanted_lt p) in
          let word : wanted_in s i (q / 8) ≡ x * 2 ^ (p % 8 * 8) = rw eq (sym is ∙ ew ∙ shl_exact 8 (p % 8 * 8) 64 small (omega arith)) in
          none_of q l (λ o m. rw word (moved_bit x (p % 8 * 8) (q % 8 * 8 + o) small (λ k. omega (arith, eg, eq, n, m, k))))

      pub only_nothing : w ≡ 0 → OnlyIn s i g p
      unfolding OnlyIn
      only_nothing e q l eq n = none_of q l (λ o m. rw (eq, ← is, e) (tb_zero (q % 8 * 8 + o)))

-- ALL FOUR GROUPS

pub only_all : (s : List ℕ) (i p : ℕ) {a b c d : Bool} → (a ≡ true → OnlyIn s i 0 p) → (b ≡ true → OnlyIn s i 1 p) → (c ≡ true → OnlyIn s i 2 p) → (d ≡ true → OnlyIn s i 3 p)
    → not (a && b && c && d) ≡ false → Alone s i p
unfolding Alone OnlyIn
only_all s i p {a} {b} {c} {d} fa fb fc fd e l q = by (q / 8) refl
  where
    u : (a && b ≡ true) × (c ≡ true) × (d ≡ true)
    u = all_3 (a && b) c d (not_no (a && b && c && d) e)

    by : (g : ℕ) → q / 8 ≡ g → q < 32 → q ≢ p → wanted_on s i q ≡ 0
    by zero eq m = fa (and_l a b u.0) q m eq
    by (suc zero) eq m = fb (and_r a b u.0) q m eq
    by (suc (suc zero)) eq m = fc u.1 q m eq
    by (suc (suc (suc zero))) eq m = fd u.2 q m eq
    by (suc (suc (suc (suc g)))) eq m = absurd (omega arith)
