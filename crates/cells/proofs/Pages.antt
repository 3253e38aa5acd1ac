-- Sets of addresses kept as a byte for each page of eight objects: address a is object a % 8 of page a / 8.
use Rattle.std.specs.Prelude.{◌≡◌, refl, Bool, true, false, not, cond, ◌&&◌, ◌||◌, ℕ, zero, suc, ◌+◌, ◌-◌, ◌*◌, ◌≤◌, ◌<◌, ◌/◌, ◌%◌, ◌^◌, eqb, ltb}
use Rattle.std.proofs.Common.{sym, ap, ◌∙◌, add-zero, add-suc, suc-mul, lt_of_le_of_lt, arith, pow_pos}
use Rattle.std.proofs.Math.Path.{fun_ext}
use Rattle.std.proofs.Math.Bool.{or-false, or_assoc}
use Rattle.std.proofs.lemmas.Bool.{false≢true}
use Rattle.std.specs.Int.Bits.{bit_and, bit_or}
use Rattle.std.proofs.lemmas.Nat.{or_lt, and_le_l}
use Rattle.sets.specs.Base.{upd, upd2, any}
use Rattle.sets.specs.Laws.{by_b, by_eq}
use Rattle.sets.proofs.Laws.{eqb_same, eqb_yes, eqb_no, ltb_no, any_no, any_some, any_ext}
use Rattle.cells.proofs.Upd.{eqb_diff}
use Rattle.cells.specs.Bits.{tb}
use Rattle.cells.proofs.Bits.{tb_zero, tb_or, tb_and, tb_tells, tb_set, tb_clear_all}
use Rattle.cells.proofs.Loops.{any_suc, any_same}

-- a number is not 0 exactly when it has a member
pub any_bits : (n x : ℕ) → x < 2 ^ n → not (eqb x 0) ≡ any n (tb x)
any_bits n x h = by_b (any n (tb x)) some none
  where
    some : any n (tb x) ≡ true → not (eqb x 0) ≡ any n (tb x)
    some t =
        let z = any_some n (tb x) t in
        rw (t, eqb_diff x 0 (λ e. false≢true (sym (tb_zero z.0) ∙ ap (λ (y : ℕ). tb y z.0) (sym e) ∙ z.2)))

    none : any n (tb x) ≡ false → not (eqb x 0) ≡ any n (tb x)
    none t =
        let e : x ≡ 0 = tb_tells n x 0 h (pow_pos n) (λ k l. any_no n (tb x) t k l ∙ sym (tb_zero k)) in
        rw t (rw e refl)

pub any_byte : (x : ℕ) → x < 256 → not (eqb x 0) ≡ any 8 (tb x)
any_byte x h = any_bits 8 x h

-- two that meet, and two that are not both empty
pub any_meet : (x y : ℕ) → x < 256 → not (eqb (bit_and x y) 0) ≡ any 8 (λ o. tb x o && tb y o)
any_meet x y h =
    any_byte (bit_and x y) (lt_of_le_of_lt (and_le_l x y) h) ∙ any_ext 8 (tb (bit_and x y)) (λ o. tb x o && tb y o) (λ o. tb_and o x y)

pub any_join : (x y : ℕ) → x < 256 → y < 256 → not (eqb (bit_or x y) 0) ≡ any 8 (λ o. tb x o || tb y o)
any_join x y h k = any_byte (bit_or x y) (or_lt 8 x y h k) ∙ any_ext 8 (tb (bit_or x y)) (λ o. tb x o || tb y o) (λ o. tb_or o x y)

-- the eight addresses of page p
pub page_of_lem : (F : ℕ → ℕ → Bool) (p : ℕ) → any 8 (λ o. F ((p * 8 + o) / 8) ((p * 8 + o) % 8)) ≡ any 8 (F p)
page_of_lem F p = any_same (λ o. F ((p * 8 + o) / 8) ((p * 8 + o) % 8)) (F p) 8 at_page
  where
    at_page : (o : ℕ) → o < 8 → F ((p * 8 + o) / 8) ((p * 8 + o) % 8) ≡ F p o
    at_page o l =
        let d : (p * 8 + o) / 8 ≡ p = omega arith in
        let m : (p * 8 + o) % 8 ≡ o = omega arith in
        rw (d, m)

pub page_any : (D : ℕ → ℕ) (p : ℕ) → D p < 256 → any 8 (λ o. tb (D ((p * 8 + o) / 8)) ((p * 8 + o) % 8)) ≡ not (eqb (D p) 0)
page_any D p h = page_of_lem (λ q o. tb (D q) o) p ∙ sym (any_byte (D p) h)

pub page_join : (D E : ℕ → ℕ) (p : ℕ) → D p < 256 → E p < 256
    → any 8 (λ o. tb (D ((p * 8 + o) / 8)) ((p * 8 + o) % 8) || tb (E ((p * 8 + o) / 8)) ((p * 8 + o) % 8)) ≡ not (eqb (bit_or (D p) (E p)) 0)
page_join D E p h k = page_of_lem (λ q o. tb (D q) o || tb (E q) o) p ∙ sym (any_join (D p) (E p) h k)

pub page_meet : (D E : ℕ → ℕ) (p : ℕ) → D p < 256
    → any 8 (λ o. tb (D ((p * 8 + o) / 8)) ((p * 8 + o) % 8) && tb (E ((p * 8 + o) / 8)) ((p * 8 + o) % 8)) ≡ not (eqb (bit_and (D p) (E p)) 0)
page_meet D E p h = page_of_lem (λ q o. tb (D q) o && tb (E q) o) p ∙ sym (any_meet (D p) (E p) h)

-- one of m + n numbers is one of m or one of the n behind them
pub any_add : (m n : ℕ) (f : ℕ → Bool) → any (m + n) f ≡ (any m f || any n (λ o. f (m + o)))
any_add m zero f = rw (add-zero m, or-false)
any_add m (suc n) f =
    rw (add-suc m n) (any_suc (m + n) f ∙ rw (any_add m n f) (or_assoc (any m f) (any n (λ o. f (m + o))) (f (m + n)) ∙ ap (λ b. any m f || b) (sym (any_suc n (λ o. f (m + o))))))

-- one of all addresses is one of a page
pub any_pages : (n : ℕ) (f : ℕ → Bool) → any (n * 8) f ≡ any n (λ p. any 8 (λ o. f (p * 8 + o)))
any_pages zero f = refl
any_pages (suc n) f =
    rw (suc-mul n 8) (any_add (n * 8) 8 f ∙ rw (any_pages n f) (sym (any_suc n (λ p. any 8 (λ o. f (p * 8 + o))))))

pub any_all : (f : ℕ → Bool) → any 256 f ≡ any 32 (λ p. any 8 (λ o. f (p * 8 + o)))
any_all f = any_pages 32 f

-- one bit of one byte becomes b
pub upd_bits : (D : ℕ → ℕ) (p o y : ℕ) (b : Bool) → o < 8 → ((k : ℕ) → tb y k ≡ cond (eqb k o) b (tb (D p) k))
    → (a : ℕ) → tb (cond (eqb (a / 8) p) y (D (a / 8))) (a % 8) ≡ upd (λ a. tb (D (a / 8)) (a % 8)) (p * 8 + o) b a
upd_bits D p o y b l h a =
    by_eq (a / 8) p
    (λ e. rw (e, eqb_yes (a / 8) p e, h (a % 8), same (a % 8) (omega (arith, eqb_yes (a / 8) p e))))
    (λ e. rw (e, eqb_diff a (p * 8 + o) (λ g. eqb_no (a / 8) p e (omega arith))))
  where
    same : (r : ℕ) → a ≡ p * 8 + r → eqb a (p * 8 + o) ≡ eqb r o
    same r g = by_eq r o (λ e. rw (g, eqb_yes r o e, eqb_same o) (eqb_same (p * 8 + o))) (λ e. rw (e, eqb_diff a (p * 8 + o) (λ q. eqb_no r o e (omega arith))))

-- by page and object
pub page_on_lem : (D : ℕ → ℕ) (p o : ℕ) → o < 8
    → ◌≡◌ {A = ℕ → Bool} (λ a. tb (cond (eqb (a / 8) p) (bit_or (D p) (2 ^ o)) (D (a / 8))) (a % 8)) (upd (λ a. tb (D (a / 8)) (a % 8)) (p * 8 + o) true)
page_on_lem D p o l = fun_ext (upd_bits D p o (bit_or (D p) (2 ^ o)) true l (tb_set (D p) o))

pub page_off_lem : (D : ℕ → ℕ) (p o : ℕ) → o < 8 → D p < 256
    → ◌≡◌ {A = ℕ → Bool} (λ a. tb (cond (eqb (a / 8) p) (bit_and (D p) (255 - 2 ^ o)) (D (a / 8))) (a % 8)) (upd (λ a. tb (D (a / 8)) (a % 8)) (p * 8 + o) false)
page_off_lem D p o l h = fun_ext (upd_bits D p o (bit_and (D p) (255 - 2 ^ o)) false l (λ k. tb_clear_all 8 (D p) o k l h))

-- by address
whole : (a : ℕ) → a / 8 * 8 + a % 8 ≡ a
whole a = omega arith

pub addr_on : (D : ℕ → ℕ) (a : ℕ)
    → ◌≡◌ {A = ℕ → Bool} (λ b. tb (cond (eqb (b / 8) (a / 8)) (bit_or (D (a / 8)) (2 ^ (a % 8))) (D (b / 8))) (b % 8)) (upd (λ b. tb (D (b / 8)) (b % 8)) a true)
addr_on D a = rw (whole a) at (page_on_lem D (a / 8) (a % 8) (omega arith))

pub addr_off : (D : ℕ → ℕ) (a : ℕ) → D (a / 8) < 256
    → ◌≡◌ {A = ℕ → Bool} (λ b. tb (cond (eqb (b / 8) (a / 8)) (bit_and (D (a / 8)) (255 - 2 ^ (a % 8))) (D (b / 8))) (b % 8)) (upd (λ b. tb (D (b / 8)) (b % 8)) a false)
addr_off D a h = rw (whole a) at (page_off_lem D (a / 8) (a % 8) (omega arith) h)

-- the same in row st of a set of addresses for each i
pub upd2_bits : (D : ℕ → ℕ → ℕ) (st p o y : ℕ) (b : Bool) → o < 8 → ((k : ℕ) → tb y k ≡ cond (eqb k o) b (tb (D st p) k))
    → (i a : ℕ) → tb (cond (eqb i st) (cond (eqb (a / 8) p) y (D i (a / 8))) (D i (a / 8))) (a % 8) ≡ upd2 (λ i a. tb (D i (a / 8)) (a % 8)) st (p * 8 + o) b i a
upd2_bits D st p o y b l h i a = by_eq i st (λ e. rw (e, eqb_yes i st e) (upd_bits (D st) p o y b l h a)) (λ e. rw e)

pub bits_on : (D : ℕ → ℕ → ℕ) (st p o : ℕ) → o < 8
    → ◌≡◌ {A = ℕ → ℕ → Bool} (λ i a. tb (cond (eqb i st) (cond (eqb (a / 8) p) (bit_or (D st p) (2 ^ o)) (D i (a / 8))) (D i (a / 8))) (a % 8))
    (upd2 (λ i a. tb (D i (a / 8)) (a % 8)) st (p * 8 + o) true)
bits_on D st p o l = fun_ext (λ i. fun_ext (λ a. upd2_bits D st p o (bit_or (D st p) (2 ^ o)) true l (tb_set (D st p) o) i a))

pub bits_off : (D : ℕ → ℕ → ℕ) (st p o : ℕ) → o < 8 → D st p < 256
    → ◌≡◌ {A = ℕ → ℕ → Bool} (λ i a. tb (cond (eqb i st) (cond (eqb (a / 8) p) (bit_and (D st p) (255 - 2 ^ o)) (D i (a / 8))) (D i (a / 8))) (a % 8))
    (upd2 (λ i a. tb (D i (a / 8)) (a % 8)) st (p * 8 + o) false)
bits_off D st p o l h =
    fun_ext (λ i. fun_ext (λ a. upd2_bits D st p o (bit_and (D st p) (255 - 2 ^ o)) false l (λ k. tb_clear_all 8 (D st p) o k l h) i a))

pub addrs_on : (D : ℕ → ℕ → ℕ) (st a : ℕ)
    → ◌≡◌ {A = ℕ → ℕ → Bool} (λ i b. tb (cond (eqb i st) (cond (eqb (b / 8) (a / 8)) (bit_or (D st (a / 8)) (2 ^ (a % 8))) (D i (b / 8))) (D i (b / 8))) (b % 8))
    (upd2 (λ i b. tb (D i (b / 8)) (b % 8)) st a true)
addrs_on D st a = rw (whole a) at (bits_on D st (a / 8) (a % 8) (omega arith))

pub addrs_off : (D : ℕ → ℕ → ℕ) (st a : ℕ) → D st (a / 8) < 256
    → ◌≡◌ {A = ℕ → ℕ → Bool} (λ i b. tb (cond (eqb i st) (cond (eqb (b / 8) (a / 8)) (bit_and (D st (a / 8)) (255 - 2 ^ (a % 8))) (D i (b / 8))) (D i (b / 8))) (b % 8))
    (upd2 (λ i b. tb (D i (b / 8)) (b % 8)) st a false)
addrs_off D st a h = rw (whole a) at (bits_off D st (a / 8) (a % 8) (omega arith) h)

-- a whole row of bytes cleared
pub bits_none : (D : ℕ → ℕ → ℕ) (st : ℕ) → ((i j : ℕ) → 32 ≤ j → D i j ≡ 0)
    → ◌≡◌ {A = ℕ → ℕ → Bool} (λ i a. tb (cond (eqb i st) (cond (ltb (a / 8) 32) 0 (D i (a / 8))) (D i (a / 8))) (a % 8))
    (λ i a. cond (eqb i st) false (tb (D i (a / 8)) (a % 8)))
bits_none D st h =
    fun_ext
    (λ i.
    fun_ext
    (λ a.
    by_eq i st
    (λ e.
    rw e
    (by_b (ltb (a / 8) 32) (λ f. rw f (tb_zero (a % 8))) (λ f. rw (f, h i (a / 8) (ltb_no (a / 8) 32 f)) (tb_zero (a % 8)))))
    (λ e. rw e)))
