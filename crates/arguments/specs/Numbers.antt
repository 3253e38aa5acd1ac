-- A word's number, read digit by digit, and that the text of a commit number gives it back.
use Rattle.std.specs.Prelude.{Option, None, Some, ℕ, zero, suc, ◌+◌, ◌*◌, ◌-◌, ◌/◌, ◌%◌, ◌≤◌, ◌<◌, ◌≡◌, refl, List, [], ◌∷◌, ◌++◌, Bool, true, false, ◌&&◌, cond, length, drop, get_or, ltb, leb}
use Rattle.std.proofs.Common.{sym, arith, add-one, drop_of_length-le, length-append}
use Rattle.std.proofs.Math.Seq.{drop-cons}
use borrow.Author.Tests.{ltb-true, leb-true, leb-false, le-leb, lt-leb, eq-eqb, ne_eqb}
use Rattle.lists.specs.Tests.{and_l, and_r, and_both}
use Rattle.text.specs.Text.{decimal_to}
use Rattle.text.specs.Decimal.{number_from, number_decimal}
use Rattle.arguments.specs.Words.{is_digit, all_digits}
use Rattle.arguments.specs.Modes.{most_commits, is_number, commit_of}

-- the rest of a word behind digits that mean n
unfoldable pub read_from : ℕ → List ℕ → Option ℕ
read_from n [] = Some n
read_from n (b ∷ bs) = cond (is_digit b) (cond (leb (n * 10 + (b - 48)) most_commits) (read_from (n * 10 + (b - 48)) bs) None) None

-- digits only add
grows : (n : ℕ) (bs : List ℕ) → n ≤ number_from n bs
grows n [] = omega arith
grows n (b ∷ bs) = let more = grows (n * 10 + (b - 48)) bs in omega arith

and_false : (a : Bool) → a && false ≡ false
and_false true = refl
and_false false = refl

read_is : (n : ℕ) (bs : List ℕ) → n ≤ most_commits → read_from n bs ≡ cond (all_digits bs && leb (number_from n bs) most_commits) (Some (number_from n bs)) None
unfolding read_from
read_is n [] h = rw (le-leb n most_commits h)
read_is n (b ∷ bs) h = by_tests (λ le. read_is (n * 10 + (b - 48)) bs le) (is_digit b) (leb (n * 10 + (b - 48)) most_commits) refl
  where
    next : ℕ
    next = n * 10 + (b - 48)

    given : List ℕ → Option ℕ
    given cs = cond (all_digits cs && leb (number_from next cs) most_commits) (Some (number_from next cs)) None

    by_tests : (next ≤ most_commits → read_from next bs ≡ given bs) → (d k : Bool) → leb next most_commits ≡ k
        → cond d (cond k (read_from next bs) None) None ≡ cond ((d && all_digits bs) && leb (number_from next bs) most_commits) (Some (number_from next bs)) None
    by_tests rest false k e = refl
    by_tests rest true true e = rest (leb-true _ _ e)
    by_tests rest true false e =
        let over : most_commits < next = leb-false _ _ e in
        rw (lt-leb (number_from next bs) most_commits (omega (arith, grows next bs)), and_false (all_digits bs))

-- a word that is not empty is read from its first digit on
pub begins : (w : List ℕ) → (length w ≡ 0 → ⊥) → commit_of w ≡ read_from 0 w
unfolding commit_of is_number
begins w h = rw (ne_eqb (length w) 0 h) (sym (read_is 0 w (omega arith)))

pub nothing_there : (w : List ℕ) → length w ≡ 0 → commit_of w ≡ None
unfolding commit_of is_number
nothing_there w h = rw (eq-eqb (length w) 0 h)

pub record Digit (b : ℕ) : Type 0 where
  pub least : 48 ≤ b
  pub most : b ≤ 57

pub digit : (b : ℕ) → is_digit b ≡ true → Digit b
unfolding is_digit
digit b h = record { least = leb-true _ _ (and_l (leb 48 b) (leb b 57) h); most = leb-true _ _ (and_r (leb 48 b) (leb b 57) h) }

-- a turn at byte i: it is no digit, the number is too large, or it goes on
module _ (w : List ℕ) (n i : ℕ) (inside : i < length w) where
  pub stops_at : is_digit (get_or w i 0) ≡ false → read_from n (drop i w) ≡ None
  unfolding read_from
  stops_at h = rw (drop-cons w i 0 inside, h)

  pub too_large : is_digit (get_or w i 0) ≡ true → most_commits < n * 10 + (get_or w i 0 - 48) → read_from n (drop i w) ≡ None
  unfolding read_from
  too_large h over = rw (drop-cons w i 0 inside, h, lt-leb _ _ over)

  pub goes_on : is_digit (get_or w i 0) ≡ true → n * 10 + (get_or w i 0 - 48) ≤ most_commits → read_from n (drop i w) ≡ read_from (n * 10 + (get_or w i 0 - 48)) (drop (i + 1) w)
  unfolding read_from
  goes_on h le = rw (add-one, drop-cons w i 0 inside, h, le-leb _ _ le)

pub ends : (w : List ℕ) (n i : ℕ) → length w ≤ i → read_from n (drop i w) ≡ Some n
unfolding read_from
ends w n i h = rw (drop_of_length-le w h)

-- the text of a number has digits only, and at least one
digit_is : (d : ℕ) → d < 10 → all_digits ((48 + d) ∷ []) ≡ true
unfolding is_digit
digit_is d h = rw (le-leb 48 (48 + d) (omega arith), le-leb (48 + d) 57 (omega arith))

digits_append : (x y : List ℕ) → all_digits x ≡ true → all_digits y ≡ true → all_digits (x ++ y) ≡ true
digits_append [] y hx hy = hy
digits_append (b ∷ x) y hx hy = and_both (and_l (is_digit b) (all_digits x) hx) (digits_append x y (and_r (is_digit b) (all_digits x) hx) hy)

decimal_digits : (k n : ℕ) → all_digits (decimal_to k n) ≡ true
unfolding decimal_to
decimal_digits zero n = refl
decimal_digits (suc k) n = by_test (ltb n 10) refl (decimal_digits k (n / 10))
  where
    by_test : (b : Bool) → ltb n 10 ≡ b → all_digits (decimal_to k (n / 10)) ≡ true
        → all_digits (cond b ((48 + n) ∷ []) (decimal_to k (n / 10) ++ ((48 + n % 10) ∷ []))) ≡ true
    by_test true e rest = digit_is n (ltb-true _ _ e)
    by_test false e rest = digits_append (decimal_to k (n / 10)) ((48 + n % 10) ∷ []) rest (digit_is (n % 10) (omega arith))

not_empty : (k n : ℕ) → length (decimal_to (suc k) n) ≡ 0 → ⊥
unfolding decimal_to
not_empty k n = by_test (ltb n 10)
  where
    by_test : (b : Bool) → length (cond b ((48 + n) ∷ []) (decimal_to k (n / 10) ++ ((48 + n % 10) ∷ []))) ≡ 0 → ⊥
    by_test true e = omega arith
    by_test false e = omega (arith, simp length-append at e)

-- a commit number as the playback prints it is taken
pub printed_taken : (n : ℕ) → n ≤ most_commits → commit_of (decimal_to 10 n) ≡ Some n
unfolding commit_of is_number
printed_taken n h =
    rw (ne_eqb (length (decimal_to 10 n)) 0 (not_empty 9 n), decimal_digits 10 n, number_decimal 10 n (omega arith), le-leb n most_commits h)
