-- Decimal text: how long it is, what number it means, and its digits counted from the last.
use Rattle.std.specs.Prelude.{ℕ, zero, suc, ◌+◌, ◌*◌, ◌-◌, ◌/◌, ◌%◌, ◌^◌, ◌≤◌, ◌<◌, ◌≡◌, refl, List, [], ◌∷◌, ◌++◌, Bool, true, false, cond, length, ltb}
use Rattle.std.proofs.Common.{sym, ap, ◌∙◌, pow-suc, div-lt_iff_lt-mul, le-div_iff_mul-le, div-add-mod', add-one, arith, length-append, lt-ltb, le-ltb}
use Rattle.std.proofs.Math.Nat.{one-le-pow}
use Rattle.text.specs.Text.{decimal_to, decimal64, field64}

pub decimal_short : (k n : ℕ) → length (decimal_to k n) ≤ k
unfolding decimal_to
decimal_short zero n = omega arith
decimal_short (suc k) n = by_test (ltb n 10) (decimal_short k (n / 10))
  where
    by_test : (b : Bool) → length (decimal_to k (n / 10)) ≤ k → length (cond b ((48 + n) ∷ []) (decimal_to k (n / 10) ++ ((48 + n % 10) ∷ []))) ≤ suc k
    by_test true h = omega arith
    by_test false h = rw length-append (omega arith)

-- the number that a text of digits means, read from the first
abbrev pub number_from : ℕ → List ℕ → ℕ
number_from n [] = n
number_from n (c ∷ cs) = number_from (n * 10 + (c - 48)) cs

abbrev pub number : List ℕ → ℕ
number cs = number_from 0 cs

number_append : (n : ℕ) (x y : List ℕ) → number_from n (x ++ y) ≡ number_from (number_from n x) y
number_append n [] y = refl
number_append n (c ∷ x) y = number_append (n * 10 + (c - 48)) x y

one_digit_less : (k n : ℕ) → n < 10 ^ suc k → n / 10 < 10 ^ k
one_digit_less k n h = (div-lt_iff_lt-mul {k = 10} (omega arith)).1 (rw pow-suc at h)

-- the decimal text of a number means it
pub number_decimal : (k n : ℕ) → n < 10 ^ k → number (decimal_to k n) ≡ n
unfolding decimal_to
number_decimal zero n h = omega arith
number_decimal (suc k) n h = by_test (ltb n 10) (number_decimal k (n / 10) (one_digit_less k n h))
  where
    by_test : (b : Bool) → number (decimal_to k (n / 10)) ≡ n / 10 → number (cond b ((48 + n) ∷ []) (decimal_to k (n / 10) ++ ((48 + n % 10) ∷ []))) ≡ n
    by_test true rest = omega arith
    by_test false rest = rw (number_append, rest) (omega (arith, div-add-mod' n 10))

-- two numbers with one text are one
pub decimal_tells : (k m n : ℕ) → m < 10 ^ k → n < 10 ^ k → decimal_to k m ≡ decimal_to k n → m ≡ n
decimal_tells k m n hm hn e = sym (number_decimal k m hm) ∙ ap number e ∙ number_decimal k n hn

-- the last k digits of a number
unfoldable pub last_digits : ℕ → ℕ → List ℕ
last_digits zero n = []
last_digits (suc k) n = last_digits k (n / 10) ++ ((48 + n % 10) ∷ [])

pub length_digits : (k n : ℕ) → length (last_digits k n) ≡ k
unfolding last_digits
length_digits zero n = refl
length_digits (suc k) n = rw (length-append, length_digits k (n / 10)) (omega arith)

-- the text of a number of k + 1 digits is these digits
decimal_digits : (k m n : ℕ) → n < 10 ^ suc k → (0 < k → 10 ^ k ≤ n) → k < m → decimal_to m n ≡ last_digits (suc k) n
unfolding decimal_to last_digits
decimal_digits k zero n h least hm = absurd (omega arith)
decimal_digits zero (suc m) n h least hm =
    let low : n % 10 ≡ n = omega arith in
    rw (lt-ltb n 10 (omega arith), low)
decimal_digits (suc k) (suc m) n h least hm =
    let ten : 10 ^ k * 10 ≤ n = rw pow-suc at (least (omega arith)) in
    let high : 10 ^ k ≤ n / 10 = (le-div_iff_mul-le {k = 10} (omega arith)).1 ten in
    let some : 1 ≤ 10 ^ k = one-le-pow k 10 (omega arith) in
    rw (le-ltb n 10 (omega arith), decimal_digits k m (n / 10) (one_digit_less (suc k) n h) (λ _. high) (omega arith))

-- room for more digits changes no text
pub decimal_same : (k m n : ℕ) → n < 10 ^ k → 0 < k → k ≤ m → decimal_to m n ≡ decimal_to k n
unfolding decimal_to
decimal_same zero m n h some le = absurd (omega arith)
decimal_same (suc k) zero n h some le = absurd (omega arith)
decimal_same (suc zero) (suc m) n h some le = rw (lt-ltb n 10 (omega arith))
decimal_same (suc (suc k)) (suc m) n h some le = rw (decimal_same (suc k) m (n / 10) (one_digit_less (suc k) n h) (omega arith) (omega arith))

-- a number below 10 has one digit, and one from 10 ^ k on and below the next power has k + 1
pub one_digit : (n : ℕ) → n < 10 → decimal64 n ≡ last_digits 1 n
unfolding decimal64
one_digit n h = decimal_digits 0 20 n (omega arith) (λ some. absurd (omega arith)) (omega arith)

pub digits_of : (n k : ℕ) → 10 ^ k ≤ n → n < 10 * 10 ^ k → k < 20 → decimal64 n ≡ last_digits (k + 1) n
unfolding decimal64
digits_of n k least h l = rw add-one (decimal_digits k 20 n (rw pow-suc (omega arith)) (λ _. least) l)

pub digits_length : (n k : ℕ) → decimal64 n ≡ last_digits k n → length (decimal64 n) ≡ k
digits_length n k e = rw (e, length_digits)

pub field64_length : (n b : ℕ) → length (field64 n b) ≡ length (decimal64 n) + 1
unfolding field64
field64_length n b = length-append (decimal64 n) (b ∷ [])

-- a number below 10 ^ k has at most k digits
pub decimal64_short : (k n : ℕ) → n < 10 ^ k → 0 < k → k ≤ 20 → length (decimal64 n) ≤ k
unfolding decimal64
decimal64_short k n h some le = rw (decimal_same k 20 n h some le) (decimal_short k n)
