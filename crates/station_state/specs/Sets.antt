-- Object sets as words: eight pages at a time, bit b of word k being address k * 64 + b. What the words are is what the sets have.
use Rattle.std.specs.Prelude.{ℕ, zero, suc, ◌+◌, ◌-◌, ◌*◌, ◌/◌, ◌%◌, ◌^◌, ◌≤◌, ◌<◌, ◌≡◌, Bool, true, false, not, ◌&&◌, List, eqb, get_or}
use Rattle.std.proofs.Math.Path.{refl, sym, ap}
use Rattle.std.proofs.Common.{◌∙◌, ⊎_elim, eq-or-lt_of_le, le_of_suc-le-suc, eqb-true, eq-eqb}
use native.Mathlib.Omega.{arith}
use Rattle.std.specs.Int.Bits.{bit_and, bit_or, or_add_and, or_zero_r}
use Rattle.std.proofs.lemmas.Nat.{and_le_l, and_le_r, ones-le}
use Rattle.std.specs.Int.Count.{ones}
use Rattle.lists.specs.Tests.{and_l, and_r}
use Rattle.sets.specs.Size.{size}
use Rattle.sets.proofs.Size.{size_join, size_same, size_most}
use Rattle.le.specs.Le.{u32_at, u64_at}
use Rattle.le.specs.Width.{num_at}
use Rattle.le.specs.Laws.{u64_at_is, zero_bytes, bytes_zero}
use Rattle.cells.specs.Num.{AllBytes}
use Rattle.cells.proofs.Num.{num_lt}
use Rattle.cells.specs.Bits.{tb}
use Rattle.cells.proofs.Bits.{tb_zero, tb_test, tb_tells}
use Rattle.cells.proofs.Loops.{ones_size}
use Rattle.station_state.specs.Layout.{has_bit, member, count_in, none_in}

-- BITS OF A NUMBER'S BYTES

-- x, n times doubled
abbrev doubled : ℕ → ℕ → ℕ
doubled zero x = x
doubled (suc n) x = 2 * doubled n x

-- the low bits are the low part's
low_bits : (n k b x : ℕ) → k < n → tb (b + doubled n x) k ≡ tb b k
unfolding tb
low_bits zero k b x l = absurd (omega arith)
low_bits (suc n) zero b x l = let e : (b + 2 * doubled n x) % 2 ≡ b % 2 = omega arith in rw e refl
low_bits (suc n) (suc k) b x l =
    let e : (b + 2 * doubled n x) / 2 ≡ b / 2 + doubled n x = omega arith in
    rw e (low_bits n k (b / 2) x (omega arith))

-- the high bits are the high part's
high_bits : (n k b x : ℕ) → b < doubled n 1 → tb (b + doubled n x) (n + k) ≡ tb x k
unfolding tb
high_bits zero k b x l = let e : b + x ≡ x = omega arith in let f : 0 + k ≡ k = omega arith in rw (e, f) refl
high_bits (suc n) k b x l =
    let e : (b + 2 * doubled n x) / 2 ≡ b / 2 + doubled n x = omega arith in
    let f : suc n + k ≡ suc (n + k) = omega arith in
    let step : tb (b + doubled (suc n) x) (suc (n + k)) ≡ tb (b / 2 + doubled n x) (n + k) = ap (λ y. tb y (n + k)) e in
    rw f (step ∙ high_bits n k (b / 2) x (omega arith))

-- bit o of byte m of a number
byte_bit : (s : List ℕ) → AllBytes s → (n at m o : ℕ) → m < n → o < 8 → tb (num_at n s at) (m * 8 + o) ≡ tb (get_or s (at + m) 0) o
unfolding num_at
byte_bit s h zero at m o l q = absurd (omega arith)
byte_bit s h (suc n) at zero o l q =
    let e : 256 * num_at n s (suc at) ≡ doubled 8 (num_at n s (suc at)) = omega arith in
    let f : 0 * 8 + o ≡ o = omega arith in
    let g : at + 0 ≡ at = omega arith in
    rw (e, f, g) (low_bits 8 o (get_or s at 0) (num_at n s (suc at)) q)
byte_bit s h (suc n) at (suc m) o l q =
    let e : 256 * num_at n s (suc at) ≡ doubled 8 (num_at n s (suc at)) = omega arith in
    let f : suc m * 8 + o ≡ 8 + (m * 8 + o) = omega arith in
    let g : at + suc m ≡ suc at + m = omega arith in
    rw (e, f, g) (high_bits 8 (m * 8 + o) (get_or s at 0) (num_at n s (suc at)) (h at) ∙ byte_bit s h n (suc at) m o (omega arith) q)

-- THE SETS FROM A PLACE

has_is : (x k : ℕ) → has_bit x k ≡ tb x k
unfolding has_bit
has_is x k = tb_test k x

module _ (s : List ℕ) (h : AllBytes s) (at : ℕ) where
  word_bit : (a : ℕ) → member s at a ≡ tb (u64_at s (at + a / 64 * 8)) (a % 64)
  unfolding member
  word_bit a =
      let e : a % 64 ≡ (a / 8 % 8) * 8 + a % 8 = omega arith in
      let f : at + a / 64 * 8 + a / 8 % 8 ≡ at + a / 8 = omega arith in
      has_is (get_or s (at + a / 8) 0) (a % 8)
      ∙ sym (rw (u64_at_is s (at + a / 64 * 8), e) (byte_bit s h 8 (at + a / 64 * 8) (a / 8 % 8) (a % 8) (omega arith) (omega arith) ∙ rw f refl))

  -- sets whose words are w have what w has
  pub words_members : (w : ℕ → ℕ) → ((k : ℕ) → k < 4 → u64_at s (at + k * 8) ≡ w k) → (a : ℕ) → a < 256 → member s at a ≡ tb (w (a / 64)) (a % 64)
  words_members w e a l = word_bit a ∙ ap (λ x. tb x (a % 64)) (e (a / 64) (omega arith))

  -- and back
  pub members_words : (w : ℕ → ℕ) → ((k : ℕ) → w k < 2 ^ 64) → ((a : ℕ) → a < 256 → member s at a ≡ tb (w (a / 64)) (a % 64)) → (k : ℕ) → k < 4 → u64_at s (at + k * 8) ≡ w k
  members_words w small e k l =
      let width : u64_at s (at + k * 8) < 2 ^ 64 = rw (u64_at_is s (at + k * 8)) (num_lt 8 s (at + k * 8) h) in
      tb_tells 64 (u64_at s (at + k * 8)) (w k) width (small k)
      (λ b q.
      let page : (k * 64 + b) / 64 ≡ k = omega arith in
      let bit : (k * 64 + b) % 64 ≡ b = omega arith in
      let here : member s at (k * 64 + b) ≡ tb (u64_at s (at + k * 8)) b = rw (page, bit) at (word_bit (k * 64 + b)) in
      let there : member s at (k * 64 + b) ≡ tb (w k) b = rw (page, bit) at (e (k * 64 + b) (omega arith)) in
      sym here ∙ there)

  -- how many: those of each word
  word_count : (k : ℕ) → size 64 (λ b. member s at (k * 64 + b)) ≡ ones (u64_at s (at + k * 8))
  word_count k =
      let width : u64_at s (at + k * 8) < 2 ^ 64 = rw (u64_at_is s (at + k * 8)) (num_lt 8 s (at + k * 8) h) in
      rw (ones_size 64 (u64_at s (at + k * 8)) width)
      (size_same 64 (λ b. member s at (k * 64 + b)) (tb (u64_at s (at + k * 8)))
      (λ b l.
      let page : (k * 64 + b) / 64 ≡ k = omega arith in
      let bit : (k * 64 + b) % 64 ≡ b = omega arith in
      rw (page, bit) at (word_bit (k * 64 + b))))

  words_count : (n : ℕ) → size (suc n * 64) (member s at) ≡ size (n * 64) (member s at) + ones (u64_at s (at + n * 8))
  words_count n =
      let next : suc n * 64 ≡ n * 64 + 64 = omega arith in
      rw (next, size_join (n * 64) 64 (member s at), word_count n)

  none_count : size (0 * 64) (member s at) ≡ 0
  unfolding size
  none_count = refl

  pub count_words : count_in s at ≡ ones (u64_at s at) + ones (u64_at s (at + 8)) + ones (u64_at s (at + 16)) + ones (u64_at s (at + 24))
  unfolding count_in
  count_words =
      let first : ones (u64_at s (at + 0 * 8)) ≡ ones (u64_at s at) = ap (λ (p : ℕ). ones (u64_at s p)) (omega arith) in
      omega (arith, words_count 3, words_count 2, words_count 1, words_count 0, none_count, first)

  -- as the code adds them up
  word_few : (p : ℕ) {x : ℕ} → x ≡ ones (u64_at s p) → x ≤ 64
  word_few p e = rw e (ones-le 64 (u64_at s p) (rw (u64_at_is s p) (num_lt 8 s p h)))

  pub two_fit : (p q : ℕ) {x y : ℕ} → x ≡ ones (u64_at s p) → y ≡ ones (u64_at s q) → x + y < 2 ^ 32
  two_fit p q d e = omega (arith, word_few p d, word_few q e)

  pub three_fit : (p q r : ℕ) {x y z : ℕ} → x ≡ ones (u64_at s p) → y ≡ ones (u64_at s q) → z ≡ ones (u64_at s r) → x + y + z < 2 ^ 32
  three_fit p q r d e f = omega (arith, word_few p d, word_few q e, word_few r f)

  pub four_fit : (p q r t : ℕ) {x y z w : ℕ} → x ≡ ones (u64_at s p) → y ≡ ones (u64_at s q) → z ≡ ones (u64_at s r) → w ≡ ones (u64_at s t) → x + y + z + w < 2 ^ 32
  four_fit p q r t d e f g = omega (arith, word_few p d, word_few q e, word_few r f, word_few t g)

  pub count_added : {x y z w : ℕ} → x ≡ ones (u64_at s at) → y ≡ ones (u64_at s (at + 8)) → z ≡ ones (u64_at s (at + 16)) → w ≡ ones (u64_at s (at + 24)) → x + y + z + w ≡ count_in s at
  count_added d e f g = rw (d, e, f, g) (sym count_words)

-- a page's objects beside those counted
pub with_fit : (s : List ℕ) (at x y : ℕ) {n : ℕ} → n ≡ count_in s at → n + ones (bit_and x (255 - y)) < 2 ^ 32
unfolding count_in
with_fit s at x y e =
    let few = ones-le 8 (bit_and x (255 - y)) (omega (arith, and_le_r x (255 - y))) in
    omega (arith, size_most 256 (member s at), few)

-- four words as one test
pub words_of : (s : List ℕ) (at : ℕ) → none_in s at ≡ true → (k : ℕ) → k < 4 → u64_at s (at + k * 8) ≡ 0
unfolding none_in
words_of s at h k l = word k l
  where
    a : Bool
    a = eqb (u64_at s at) 0

    b : Bool
    b = eqb (u64_at s (at + 8)) 0

    c : Bool
    c = eqb (u64_at s (at + 16)) 0

    d : Bool
    d = eqb (u64_at s (at + 24)) 0

    abc : a && b && c ≡ true
    abc = and_l (a && b && c) d h

    word : (k : ℕ) → k < 4 → u64_at s (at + k * 8) ≡ 0
    word zero l = let e : at + 0 * 8 ≡ at = omega arith in rw e (eqb-true _ _ (and_l a b (and_l (a && b) c abc)))
    word (suc zero) l = eqb-true _ _ (and_r a b (and_l (a && b) c abc))
    word (suc (suc zero)) l = eqb-true _ _ (and_r (a && b) c abc)
    word (suc (suc (suc zero))) l = eqb-true _ _ (and_r (a && b && c) d h)
    word (suc (suc (suc (suc k)))) l = absurd (omega arith)

pub of_words : (s : List ℕ) (at : ℕ) → ((k : ℕ) → k < 4 → u64_at s (at + k * 8) ≡ 0) → none_in s at ≡ true
unfolding none_in
of_words s at e =
    let first : at + 0 * 8 ≡ at = omega arith in
    let z : u64_at s at ≡ 0 = rw first at (e 0 (omega arith)) in
    rw (eq-eqb (u64_at s at) 0 z, eq-eqb (u64_at s (at + 8)) 0 (e 1 (omega arith)), eq-eqb (u64_at s (at + 16)) 0 (e 2 (omega arith)), eq-eqb (u64_at s (at + 24)) 0 (e 3 (omega arith)))

-- sets that have nothing
pub none_member : (s : List ℕ) → AllBytes s → (at : ℕ) → none_in s at ≡ true → (a : ℕ) → a < 256 → member s at a ≡ false
none_member s h at e a l = words_members s h at (λ k. 0) (words_of s at e) a l ∙ tb_zero (a % 64)

pub members_none : (s : List ℕ) → AllBytes s → (at : ℕ) → ((a : ℕ) → a < 256 → member s at a ≡ false) → none_in s at ≡ true
members_none s h at e = of_words s at (members_words s h at (λ k. 0) (λ k. omega arith) (λ a l. e a l ∙ sym (tb_zero (a % 64))))

-- eight numbers of four bytes that are 0
pub none_numbers : (s : List ℕ) (at : ℕ) → none_in s at ≡ true → (r : ℕ) → r < 8 → u32_at s (at + r * 4) ≡ 0
unfolding u64_at
none_numbers s at h r l = half (r / 2) (r % 2) (omega arith) refl refl
  where
    half : (k b : ℕ) → k < 4 → r / 2 ≡ k → r % 2 ≡ b → u32_at s (at + r * 4) ≡ 0
    half k zero q e f =
        let place : at + r * 4 ≡ at + k * 8 = omega arith in
        let word : u32_at s (at + k * 8) + u32_at s (at + k * 8 + 4) * 4294967296 ≡ 0 = words_of s at h k q in
        rw place (omega arith)
    half k (suc b) q e f =
        let place : at + r * 4 ≡ at + k * 8 + 4 = omega arith in
        let word : u32_at s (at + k * 8) + u32_at s (at + k * 8 + 4) * 4294967296 ≡ 0 = words_of s at h k q in
        rw place (omega arith)

pub numbers_none : (s : List ℕ) (at : ℕ) → ((r : ℕ) → r < 8 → u32_at s (at + r * 4) ≡ 0) → none_in s at ≡ true
unfolding u64_at
numbers_none s at e =
    of_words s at
    (λ k l.
    let low : at + (k * 2) * 4 ≡ at + k * 8 = omega arith in
    let high : at + (k * 2 + 1) * 4 ≡ at + k * 8 + 4 = omega arith in
    let x : u32_at s (at + k * 8) ≡ 0 = rw low at (e (k * 2) (omega arith)) in
    let y : u32_at s (at + k * 8 + 4) ≡ 0 = rw high at (e (k * 2 + 1) (omega arith)) in
    omega (arith, x, y))

-- the four words in one: 0 where the sets have nothing (`none-joined` of Facts.antt)
unfoldable pub joined : List ℕ → ℕ → ℕ
joined s at = bit_or (bit_or (bit_or (u64_at s at) (u64_at s (at + 8))) (u64_at s (at + 16))) (u64_at s (at + 24))

-- BYTES, laid over each other

-- the n bytes from `at` in one
unfoldable pub over : List ℕ → ℕ → ℕ → ℕ
over s at zero = 0
over s at (suc n) = bit_or (over s at n) (get_or s (at + n) 0)

pub or_right : (x y : ℕ) → bit_or x y ≡ 0 → y ≡ 0
or_right x y e = omega (arith, e, or_add_and x y, and_le_l x y)

pub or_left : (x y : ℕ) → bit_or x y ≡ 0 → x ≡ 0
or_left x y e = sym (or_zero_r x) ∙ ap (bit_or x) (sym (or_right x y e)) ∙ e

-- 0, where each of them is
pub over_each : (s : List ℕ) (at n : ℕ) → over s at n ≡ 0 → (k : ℕ) → k < n → get_or s (at + k) 0 ≡ 0
unfolding over
over_each s at zero e k l = absurd (omega arith)
over_each s at (suc n) e k l =
    ⊎_elim
    (λ last. ap (λ (j : ℕ). get_or s (at + j) 0) last ∙ or_right (over s at n) (get_or s (at + n) 0) e)
    (λ before. over_each s at n (or_left (over s at n) (get_or s (at + n) 0) e) k before)
    (eq-or-lt_of_le (le_of_suc-le-suc l))

pub each_over : (s : List ℕ) (at n : ℕ) → ((k : ℕ) → k < n → get_or s (at + k) 0 ≡ 0) → over s at n ≡ 0
unfolding over
each_over s at zero e = refl
each_over s at (suc n) e = rw (each_over s at n (λ k l. e k (omega arith)), e n (omega arith)) refl

-- eight bytes at once
pub eight_bytes : (s : List ℕ) (at k : ℕ) → k < 8 → u64_at s at ≡ 0 → get_or s (at + k) 0 ≡ 0
eight_bytes s at k l e = zero_bytes 8 s at (sym (u64_at_is s at) ∙ e) k l

pub eight_zero : (s : List ℕ) (at : ℕ) → ((k : ℕ) → k < 8 → get_or s (at + k) 0 ≡ 0) → u64_at s at ≡ 0
eight_zero s at e = u64_at_is s at ∙ bytes_zero 8 s at e

-- the bytes of a row
pub row_bytes : (s : List ℕ) (at : ℕ) → none_in s at ≡ true → (k : ℕ) → k < 32 → get_or s (at + k) 0 ≡ 0
row_bytes s at h k l =
    let place : at + k ≡ at + k / 8 * 8 + k % 8 = omega arith in
    rw place (eight_bytes s (at + k / 8 * 8) (k % 8) (omega arith) (words_of s at h (k / 8) (omega arith)))

pub bytes_row : (s : List ℕ) (at : ℕ) → ((k : ℕ) → k < 32 → get_or s (at + k) 0 ≡ 0) → none_in s at ≡ true
bytes_row s at e =
    of_words s at
    (λ k l. eight_zero s (at + k * 8) (λ j q. let place : at + k * 8 + j ≡ at + (k * 8 + j) = omega arith in rw place (e (k * 8 + j) (omega arith))))
