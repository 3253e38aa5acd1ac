-- Eight station sets in one word: set i is byte i, so its bit j is bit i * 8 + j of the word.
use Rattle.std.specs.Prelude.{ℕ, zero, suc, ◌+◌, ◌-◌, ◌*◌, ◌/◌, ◌%◌, ◌^◌, ◌≤◌, ◌<◌, ◌≡◌, refl, Bool, true, false, not, ◌&&◌, ◌||◌, List, eqb, get_or}
use Rattle.std.proofs.Common.{sym, ap, ap₂, ◌∙◌, lt_of_le_of_lt, mul_assoc, add-mul, mul-le-mul, zero-mul, one-mul, arith, pow_pos, shr-shr}
use Rattle.std.proofs.Math.Bool.{and-true}
use Rattle.std.proofs.Math.Nat.{sub-zero}
use Rattle.std.specs.Int.Bits.{bit_and, bit_or}
use Rattle.std.proofs.lemmas.Nat.{and_mask, and_mod, and_shr, and_le_r}
use Rattle.lists.specs.Tests.{all_to, all_to_at}
use Rattle.le.specs.Le.{u64_at}
use Rattle.le.specs.Laws.{u64_at_is}
use Rattle.le.specs.Width.{num_at}
use Rattle.cells.specs.Num.{AllBytes}
use Rattle.cells.specs.Bits.{tb, tb_not}
use Rattle.cells.proofs.Bits.{tb_zero, tb_or, tb_and}

-- bit j of set i
abbrev pub edge_in : ℕ → ℕ → ℕ → Bool
edge_in x i j = tb x (i * 8 + j)

-- a bit in each set, the lowest
abbrev pub ones : ℕ
ones = 72340172838076673

-- each station's bit in its own set
abbrev pub diagonal : ℕ
diagonal = 9241421688590303745

-- PARTS OF A NUMBER

tb_shr : (n x k : ℕ) → tb (x / 2 ^ n) k ≡ tb x (n + k)
unfolding tb
tb_shr zero x k =
    let a : x / 2 ^ 0 ≡ x = omega arith in
    let b : 0 + k ≡ k = omega arith in
    ap (λ (y : ℕ). tb y k) a ∙ ap (tb x) (sym b)
tb_shr (suc n) x k =
    let one : 1 + n ≡ suc n = omega arith in
    let next : suc n + k ≡ suc (n + k) = omega arith in
    let half : x / 2 / 2 ^ n ≡ x / 2 ^ suc n = shr-shr x 1 n ∙ ap (λ (m : ℕ). x / 2 ^ m) one in
    ap (λ (y : ℕ). tb y k) (sym half) ∙ tb_shr n (x / 2) k ∙ ap (tb x) (sym next)

tb_low : (n x k : ℕ) → k < n → tb (x % 2 ^ n) k ≡ tb x k
tb_low n x k l =
    let full : tb (2 ^ n - 1) k ≡ true =
    ap (λ (y : ℕ). tb y k) (sym (sub-zero (2 ^ n - 1))) ∙ tb_not n k 0 l (pow_pos n) ∙ ap not (tb_zero k) in
    ap (λ (y : ℕ). tb y k) (sym (and_mask x n)) ∙ tb_and k x (2 ^ n - 1) ∙ ap (λ b. tb x k && b) full ∙ and-true (tb x k)

-- set i of a word
row_bit : (x i j : ℕ) → j < 8 → tb (x / 2 ^ (i * 8) % 256) j ≡ edge_in x i j
row_bit x i j l = tb_low 8 (x / 2 ^ (i * 8)) j l ∙ tb_shr (i * 8) x j

-- the word of eight bytes
word_at : (n : ℕ) (s : List ℕ) (at : ℕ) → AllBytes s → (i j : ℕ) → i < n → j < 8 → edge_in (num_at n s at) i j ≡ tb (get_or s (at + i) 0) j
unfolding num_at
word_at zero s at h i j l lj = absurd (omega arith)
word_at (suc n) s at h zero j l lj =
    let x = get_or s at 0 + 256 * num_at n s (suc at) in
    let low : x % 256 ≡ get_or s at 0 = omega (arith, h at) in
    let here : at + 0 ≡ at = omega arith in
    let bit : 0 * 8 + j ≡ j = omega arith in
    ap (tb x) bit ∙ sym (tb_low 8 x j lj) ∙ ap (λ (y : ℕ). tb y j) low ∙ ap (λ (k : ℕ). tb (get_or s k 0) j) (sym here)
word_at (suc n) s at h (suc i) j l lj =
    let x = get_or s at 0 + 256 * num_at n s (suc at) in
    let high : x / 256 ≡ num_at n s (suc at) = omega (arith, h at) in
    let here : suc at + i ≡ at + suc i = omega arith in
    let bit : suc i * 8 + j ≡ 8 + (i * 8 + j) = omega arith in
    ap (tb x) bit ∙ sym (tb_shr 8 x (i * 8 + j)) ∙ ap (λ (y : ℕ). tb y (i * 8 + j)) high
    ∙ word_at n s (suc at) h i j (omega arith) lj ∙ ap (λ (k : ℕ). tb (get_or s k 0) j) here

pub word_bit : (s : List ℕ) → AllBytes s → (i j : ℕ) → i < 8 → j < 8 → edge_in (u64_at s 0) i j ≡ tb (get_or s i 0) j
word_bit s h i j li lj =
    let first : 0 + i ≡ i = omega arith in
    ap (λ (x : ℕ). edge_in x i j) (u64_at_is s 0) ∙ word_at 8 s 0 h i j li lj ∙ ap (λ (k : ℕ). tb (get_or s k 0) j) first

-- A SET IN EACH OF SOME SETS

-- sets up to n have at most their lowest bit
abbrev Sparse : ℕ → ℕ → Type 0
Sparse zero m = m % 256 < 2
Sparse (suc n) m = (m % 256 < 2) × Sparse n (m / 256)

lowest : (n m : ℕ) → Sparse n m → m % 256 < 2
lowest zero m h = h
lowest (suc n) m h = h.0

sparse_and : (n y z : ℕ) → Sparse n z → Sparse n (bit_and y z)
sparse_and zero y z h = low y z h
  where
    low : (y z : ℕ) → z % 256 < 2 → bit_and y z % 256 < 2
    low y z h = rw (and_mod y z 8) (lt_of_le_of_lt (and_le_r (y % 256) (z % 256)) h)
sparse_and (suc n) y z h =
    (rw (and_mod y z 8) (lt_of_le_of_lt (and_le_r (y % 256) (z % 256)) h.0), rw (and_shr y z 8) (sparse_and n (y / 256) (z / 256) h.1))

small : (b r : ℕ) → b < 2 → r < 256 → b * r < 256
small b r hb hr = lt_of_le_of_lt (mul-le-mul {n₁ = b} {m₁ = r} {n₂ = 1} {m₂ = r} (omega arith) (omega arith)) (omega arith)

times_bit : (b r j : ℕ) → b < 2 → tb (b * r) j ≡ (eqb b 1 && tb r j)
times_bit zero r j l = ap (λ (y : ℕ). tb y j) (zero-mul r) ∙ tb_zero j
times_bit (suc zero) r j l = ap (λ (y : ℕ). tb y j) (one-mul r)
times_bit (suc (suc b)) r j l = absurd (omega arith)

parts : (m r : ℕ) → m * r ≡ m % 256 * r + 256 * (m / 256 * r)
parts m r =
    let whole : 256 * (m / 256) + m % 256 ≡ m = omega arith in
    let both = add-mul (256 * (m / 256)) (m % 256) r in
    let deep = mul_assoc 256 (m / 256) r in
    ap (λ (y : ℕ). y * r) (sym whole) ∙ omega (arith, both, deep)

mul_bit : (n m r i j : ℕ) → r < 256 → j < 8 → i ≤ n → Sparse n m → edge_in (m * r) i j ≡ (tb m (i * 8) && tb r j)
unfolding tb
mul_bit n m r zero j hr lj l h =
    let b = lowest n m h in
    let low : m * r % 256 ≡ m % 256 * r = omega (arith, parts m r, small (m % 256) r b hr) in
    let odd : m % 2 ≡ m % 256 = omega (arith, b) in
    let bit : 0 * 8 + j ≡ j = omega arith in
    ap (tb (m * r)) bit ∙ sym (tb_low 8 (m * r) j lj) ∙ ap (λ (y : ℕ). tb y j) low ∙ times_bit (m % 256) r j b
    ∙ ap (λ (y : ℕ). eqb y 1 && tb r j) (sym odd)
mul_bit zero m r (suc i) j hr lj l h = absurd (omega arith)
mul_bit (suc n) m r (suc i) j hr lj l h =
    let high : m * r / 256 ≡ m / 256 * r = omega (arith, parts m r, small (m % 256) r h.0 hr) in
    let bit : suc i * 8 + j ≡ 8 + (i * 8 + j) = omega arith in
    let first : 8 + i * 8 ≡ suc i * 8 = omega arith in
    ap (tb (m * r)) bit ∙ sym (tb_shr 8 (m * r) (i * 8 + j)) ∙ ap (λ (y : ℕ). tb y (i * 8 + j)) high
    ∙ mul_bit n (m / 256) r i j hr lj (omega arith) h.1
    ∙ ap (λ b. b && tb r j) (tb_shr 8 m (i * 8) ∙ ap (tb m) first)

-- ONE STATION MORE TO GO THROUGH

-- who leads to k leads to where k leads
unfoldable pub through_b : ℕ → ℕ → ℕ
through_b x k = bit_or x (bit_and (x / 2 ^ k) ones * (x / 2 ^ (k * 8) % 256))

ones_sparse : Sparse 7 ones
ones_sparse = (omega arith, (omega arith, (omega arith, (omega arith, (omega arith, (omega arith, (omega arith, omega arith)))))))

ones_bit : (i : ℕ) → i < 8 → tb ones (i * 8) ≡ true
unfolding tb all_to
ones_bit i l = all_to_at (λ k. tb ones (k * 8)) 8 refl i l

pub through_bit : (x k i j : ℕ) → i < 8 → j < 8 → k < 8 → edge_in (through_b x k) i j ≡ (edge_in x i j || (edge_in x i k && edge_in x k j))
unfolding through_b
through_bit x k i j li lj lk =
    let m = bit_and (x / 2 ^ k) ones in
    let r = x / 2 ^ (k * 8) % 256 in
    let at : k + i * 8 ≡ i * 8 + k = omega arith in
    let from : tb m (i * 8) ≡ edge_in x i k =
    tb_and (i * 8) (x / 2 ^ k) ones ∙ ap₂ (λ a b. a && b) (tb_shr k x (i * 8) ∙ ap (tb x) at) (ones_bit i li) ∙ and-true (edge_in x i k) in
    tb_or (i * 8 + j) x (m * r)
    ∙ ap (λ b. edge_in x i j || b)
    (mul_bit 7 m r i j (omega arith) lj (omega arith) (sparse_and 7 (x / 2 ^ k) ones ones_sparse) ∙ ap₂ (λ a b. a && b) from (row_bit x k j lj))

-- the product fits a word
pub through_fits : (x k r : ℕ) → r < 256 → bit_and (x / 2 ^ k) ones * r < 18446744073709551616
through_fits x k r h =
    lt_of_le_of_lt (mul-le-mul {n₁ = bit_and (x / 2 ^ k) ones} {m₁ = r} {n₂ = ones} {m₂ = 255} (and_le_r (x / 2 ^ k) ones) (omega arith)) (omega arith)

-- station i in its own set
pub own_bit : (x i : ℕ) → eqb (x / 2 ^ (i * 9) % 2) 1 ≡ edge_in x i i
unfolding tb
own_bit x i = let at : i * 9 + 0 ≡ i * 8 + i = omega arith in tb_shr (i * 9) x 0 ∙ ap (tb x) at

own_set : (i : ℕ) → i < 8 → edge_in diagonal i i ≡ true
unfolding tb all_to
own_set i l = all_to_at (λ k. edge_in diagonal k k) 8 refl i l

-- no station in its own set
pub own_none : (x : ℕ) → bit_and x diagonal ≡ 0 → (i : ℕ) → i < 8 → edge_in x i i ≡ false
own_none x e i l =
    sym (and-true (edge_in x i i)) ∙ ap (λ b. edge_in x i i && b) (sym (own_set i l)) ∙ sym (tb_and (i * 8 + i) x diagonal)
    ∙ ap (λ (y : ℕ). tb y (i * 8 + i)) e ∙ tb_zero (i * 8 + i)
