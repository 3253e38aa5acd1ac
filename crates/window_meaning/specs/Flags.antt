-- "Register 16 has flags: bit 0 open, bit 1 waiting, bit 2 done, bit 3 aborted. .. The interrupt is up exactly while flags and the mask in
-- register 17 share a bit." Of every window that number 1 lets pass.
use Rattle.std.specs.Prelude.{ℕ, ◌/◌, ◌%◌, ◌^◌, ◌≤◌, ◌<◌, ◌≡◌, Bool, not, ◌&&◌, ◌||◌, List, eqb}
use Rattle.std.proofs.Math.Path.{refl, sym}
use Rattle.std.proofs.Common.{ap, ◌∙◌, arith, eq-eqb, ne_eqb}
use Rattle.std.proofs.Math.Bool.{true, false}
use Rattle.std.proofs.lemmas.Bool.{false≢true}
use Rattle.std.specs.Int.Bits.{bit_and, bit_or, or_lt}
use Rattle.std.proofs.lemmas.Nat.{and_le_l}
use Rattle.sets.specs.Base.{any}
use Rattle.sets.specs.Laws.{by_b, by_eq}
use Rattle.sets.proofs.Laws.{eqb_no, any_no, any_some}
use Rattle.cells.specs.Bits.{tb}
use Rattle.cells.proofs.Bits.{tb_zero, tb_or, tb_and, tb_tells, tb_test, tb_high}
use Rattle.station_state.specs.Layout.{opened, wait, has_bit}
use Rattle.window_state.specs.Layout.{flags_from, mask_from, raised, mask, open_flag, waiting_flag}
use Rattle.window_state.specs.Registers.{valid, flag_if, flags_of, register_of, up, level, reading, interrupt_of}
use Rattle.window_state.specs.Facts.{Kept, valid_is}

-- BITS

pub bit_tb : (x k : ℕ) → has_bit x k ≡ tb x k
unfolding has_bit
bit_tb x k = tb_test k x

-- the two low bits
pub low_none : (x : ℕ) → x % 4 ≡ 0 → (tb x 0 ≡ false) × (tb x 1 ≡ false)
unfolding tb
low_none x e = (ne_eqb (x % 2) 1 (λ z. omega arith), ne_eqb (x / 2 % 2) 1 (λ z. omega arith))

pub none_low : (x : ℕ) → tb x 0 ≡ false → tb x 1 ≡ false → x % 4 ≡ 0
unfolding tb
none_low x e f =
    let p = eqb_no (x % 2) 1 e in
    let q = eqb_no (x / 2 % 2) 1 f in
    omega (arith, p, q)

flag_bit : (x f k : ℕ) → tb (flag_if x f) k ≡ (not (eqb x 0) && tb f k)
unfolding flag_if
flag_bit x f k = by_eq x 0 (λ e. rw e (tb_zero k)) (λ e. rw e)

flag_lt : (x f n : ℕ) → f < 2 ^ n → 0 < 2 ^ n → flag_if x f < 2 ^ n
unfolding flag_if
flag_lt x f n l z = by_eq x 0 (λ e. rw e z) (λ e. rw e l)

-- FLAGS

pub record Flagged (r s : List ℕ) : Type 0 where
  pub open_bit : has_bit (flags_of r s) 0 ≡ not (eqb (opened s) 0)
  pub waiting_bit : has_bit (flags_of r s) 1 ≡ not (eqb (wait s) 0)
  pub done_bit : has_bit (flags_of r s) 2 ≡ has_bit (raised r) 2
  pub aborted_bit : has_bit (flags_of r s) 3 ≡ has_bit (raised r) 3
  pub no_other : (k : ℕ) → 4 ≤ k → has_bit (flags_of r s) k ≡ false

module _ (r s : List ℕ) (h : Kept r) where
  flags_tb : (k : ℕ) → tb (flags_of r s) k ≡ ((not (eqb (opened s) 0) && tb open_flag k) || (not (eqb (wait s) 0) && tb waiting_flag k) || tb (raised r) k)
  unfolding flags_of
  flags_tb k =
      tb_or k (bit_or (flag_if (opened s) open_flag) (flag_if (wait s) waiting_flag)) (raised r)
      ∙ rw (tb_or k (flag_if (opened s) open_flag) (flag_if (wait s) waiting_flag), flag_bit (opened s) open_flag k, flag_bit (wait s) waiting_flag k)

  flags_lt : flags_of r s < 2 ^ 4
  unfolding flags_of
  flags_lt =
      or_lt 4 (bit_or (flag_if (opened s) open_flag) (flag_if (wait s) waiting_flag)) (raised r)
      (or_lt 4 (flag_if (opened s) open_flag) (flag_if (wait s) waiting_flag) (flag_lt (opened s) open_flag 4 (omega arith) (omega arith)) (flag_lt (wait s) waiting_flag 4 (omega arith) (omega arith)))
      h.low_flags

  pub flagged : Flagged r s
  unfolding tb
  flagged =
      let low = low_none (raised r) h.own_flags in
      record {
        open_bit = bit_tb _ 0 ∙ flags_tb 0 ∙ first (not (eqb (opened s) 0)) (not (eqb (wait s) 0)) (tb (raised r) 0) low.0;
        waiting_bit = bit_tb _ 1 ∙ flags_tb 1 ∙ second (not (eqb (opened s) 0)) (not (eqb (wait s) 0)) (tb (raised r) 1) low.1;
        done_bit = bit_tb _ 2 ∙ flags_tb 2 ∙ third (not (eqb (opened s) 0)) (not (eqb (wait s) 0)) (tb (raised r) 2) ∙ sym (bit_tb (raised r) 2);
        aborted_bit = bit_tb _ 3 ∙ flags_tb 3 ∙ third (not (eqb (opened s) 0)) (not (eqb (wait s) 0)) (tb (raised r) 3) ∙ sym (bit_tb (raised r) 3);
        no_other = λ k l. bit_tb (flags_of r s) k ∙ tb_high 4 k (flags_of r s) l flags_lt;
      }
    where
      first : (a b c : Bool) → c ≡ false → ((a && true) || (b && false) || c) ≡ a
      first true b c e = refl
      first false true c e = e
      first false false c e = e

      second : (a b c : Bool) → c ≡ false → ((a && false) || (b && true) || c) ≡ b
      second true true c e = refl
      second true false c e = e
      second false true c e = refl
      second false false c e = e

      third : (a b c : Bool) → ((a && false) || (b && false) || c) ≡ c
      third true true c = refl
      third true false c = refl
      third false true c = refl
      third false false c = refl

-- THE INTERRUPT

-- registers 16 and 17, as they are read, have bit k both
abbrev pub shared_at : List ℕ → List ℕ → ℕ → Bool
shared_at r s k = has_bit (register_of r s flags_from) k && has_bit (register_of r s mask_from) k

shared_tb : (r s : List ℕ) (k : ℕ) → shared_at r s k ≡ tb (bit_and (flags_of r s) (mask r)) k
unfolding register_of
shared_tb r s k = rw (bit_tb (flags_of r s) k, bit_tb (mask r) k) (sym (tb_and k (flags_of r s) (mask r)))

pub up_shares : (r s : List ℕ) → Kept r → up r s ≡ any 8 (shared_at r s)
unfolding up
up_shares r s h =
    let x = bit_and (flags_of r s) (mask r) in
    let small : x < 2 ^ 8 = omega (arith, and_le_l (flags_of r s) (mask r), flags_lt r s h) in
    by_b (any 8 (shared_at r s))
    (λ e.
    let k = any_some 8 (shared_at r s) e in
    let bit : tb x k.0 ≡ true = sym (shared_tb r s k.0) ∙ k.2 in
    rw (e, ne_eqb x 0 (λ z. false≢true (sym (tb_zero k.0) ∙ ap (λ (y : ℕ). tb y k.0) (sym z) ∙ bit))))
    (λ e. rw (e, eq-eqb x 0 (tb_tells 8 x 0 small (omega arith) (λ k l. sym (shared_tb r s k) ∙ any_no 8 (shared_at r s) e k l ∙ sym (tb_zero k)))))

-- what the call answers of a window that number 1 lets pass
pub interrupt_up : (r s : List ℕ) (b : ℕ) → valid r s ≡ true → interrupt_of r s b ≡ reading (level (any 8 (shared_at r s))) 0
unfolding interrupt_of
interrupt_up r s b v = rw (v, up_shares r s (valid_is r s v).kept)
