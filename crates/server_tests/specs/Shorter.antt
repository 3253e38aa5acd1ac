-- Questions answered by the bytes of a page at once.
use Rattle.std.specs.Prelude.{ℕ, ◌+◌, ◌-◌, ◌*◌, ◌/◌, ◌^◌, ◌≤◌, ◌<◌, ◌≡◌, true, false, not, cond, ◌&&◌, List, eqb}
use Rattle.std.proofs.Math.Path.{refl, sym}
use Rattle.std.proofs.Common.{◌∙◌, lt_of_le_of_lt, ne_eqb, lt-ltb}
use Rattle.std.proofs.Math.Bool.{or-false}
use native.Mathlib.Omega.{arith}
use Rattle.std.specs.Int.Bits.{bit_and}
use Rattle.std.proofs.lemmas.Nat.{and_le_l}
use Rattle.sets.specs.Laws.{by_b}
use Rattle.sets.proofs.Laws.{eqb_no, and_l, and_r, not_yes}
use Rattle.le.specs.Le.{u64_at}
use Rattle.cells.specs.Bits.{tb}
use Rattle.cells.proofs.Bits.{tb_zero, tb_mask, tb_tells}
use Rattle.cells.specs.Loops.{any_to, mask_to}
use Rattle.cells.proofs.Loops.{any_to_lem, mask_is, mask_lt}
use Rattle.station_state.specs.Layout.{has_bit}
use Rattle.server_state.specs.Facts.{zero_eight}
use Rattle.server_state.specs.Layout.{lock_from, lock_of, whole_of, written_set, other_b, wanted_on}
use Rattle.server_tests.specs.Tests.{lock_at_b, lock_on_b, drops_locked_b, shut_b, waits_to_write_b, unavailable_at, unavailable_b}
use Rattle.server_tests.specs.Blockers.{join_to, join_is, bit_is, any_none}

-- a page without locks on objects
pub lock_whole : (s : List ℕ) (i p : ℕ) → u64_at s (lock_from + p * 8) ≡ 0 → lock_on_b s i p ≡ eqb (whole_of s p) (i + 1)
unfolding lock_on_b lock_at_b
lock_whole s i p e =
    rw (any_to_lem (lock_at_b s i p) (λ k. false) 8 (λ o l. free o l), any_none 8 (λ k. false) (λ k l. refl)) (or-false (eqb (whole_of s p) (i + 1)))
  where
    free : (o : ℕ) → o < 8 → eqb (lock_of s (p * 8 + o)) (i + 1) ≡ false
    free o l =
        let at : lock_from + (p * 8 + o) ≡ lock_from + p * 8 + o = omega arith in
        rw (at, zero_eight s (lock_from + p * 8) o l e, ne_eqb 0 (i + 1) (λ z. omega arith))

-- what station j waits to write on page p, if it is another than i
unfoldable pub written_by : List ℕ → ℕ → ℕ → ℕ → ℕ
written_by s i p j = cond (eqb j i) 0 (written_set s j p)

pub others_wait : (s : List ℕ) (i p o : ℕ) → has_bit (join_to (written_by s i p) 8) o ≡ any_to (waits_to_write_b s i p o) 8
unfolding waits_to_write_b written_by
others_wait s i p o =
    bit_is (join_to (written_by s i p) 8) o ∙ join_is (written_by s i p) 8 o ∙ sym (any_to_lem (waits_to_write_b s i p o) (λ j. tb (written_by s i p j) o) 8 (λ j l. one j))
  where
    one : (j : ℕ) → waits_to_write_b s i p o j ≡ tb (written_by s i p j) o
    one j = by_b (eqb j i) (λ e. rw (e, tb_zero o)) (λ e. rw e (bit_is (written_set s j p) o))

-- where no object of the page is locked, what others wait to write is unavailable, but for what i wants
module _ (s : List ℕ) (i a : ℕ) (free : u64_at s (lock_from + a / 8 * 8) ≡ 0) where
  free_at : (o : ℕ) → o < 8 → unavailable_at s i a o ≡ (not (tb (wanted_on s i (a / 8)) o) && tb (join_to (written_by s i (a / 8)) 8) o)
  unfolding unavailable_at other_b
  free_at o l =
      let place : lock_from + (a / 8 * 8 + o) ≡ lock_from + a / 8 * 8 + o = omega arith in
      rw (place, zero_eight s (lock_from + a / 8 * 8) o l free, bit_is (wanted_on s i (a / 8)) o, ← others_wait s i (a / 8) o, bit_is (join_to (written_by s i (a / 8)) 8) o) refl

  pub unavailable_free : {w x : ℕ} → w < 2 ^ 8 → x < 2 ^ 8 → w ≡ join_to (written_by s i (a / 8)) 8 → x ≡ wanted_on s i (a / 8) → bit_and w (2 ^ 8 - 1 - x) ≡ unavailable_b s i a
  unfolding unavailable_b
  unavailable_free {w} {x} lw lx ew ex =
      tb_tells 8 (bit_and w (2 ^ 8 - 1 - x)) (mask_to (unavailable_at s i a) 8) (lt_of_le_of_lt (and_le_l w (2 ^ 8 - 1 - x)) lw) (mask_lt (unavailable_at s i a) 8)
      (λ o l. tb_mask 8 w x o lw lx ∙ sym (mask_is (unavailable_at s i a) 8 o ∙ rw (lt-ltb o 8 l, free_at o l, ew, ex) refl))

-- a page that is not dropped
pub drops_yes : (s : List ℕ) (i d p : ℕ) → has_bit d p ≡ true → drops_locked_b s i d p ≡ lock_on_b s i p
unfolding drops_locked_b
drops_yes s i d p e = rw e

pub drops_no : (s : List ℕ) (i d p : ℕ) → has_bit d p ≡ false → drops_locked_b s i d p ≡ false
unfolding drops_locked_b
drops_no s i d p e = rw e

-- a page that is another's whole is somebody's
pub shut_held : (s : List ℕ) (i p : ℕ) → shut_b s i p ≡ true → 1 ≤ whole_of s p
unfolding shut_b other_b
shut_held s i p e =
    let other : other_b (whole_of s p) i ≡ true = and_r (not (eqb (wanted_on s i p) 0)) (other_b (whole_of s p) i) e in
    let some : not (eqb (whole_of s p) 0) ≡ true = and_l (not (eqb (whole_of s p) 0)) (not (eqb (whole_of s p) (i + 1))) other in
    omega (arith, eqb_no (whole_of s p) 0 (not_yes (eqb (whole_of s p) 0) some))
