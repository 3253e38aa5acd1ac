-- Few members: where the words of two rows of sets, laid over each other, have at most three, each row has at most twelve, and no limit
-- is near.
use Prim.Native.Nat.{ℕ, ◌+◌, ◌-◌, ◌*◌, ◌/◌, ◌^◌, ◌≤◌, ◌<◌}
use Rattle.std.specs.Prelude.{◌≡◌, Bool, true, ◌&&◌, ◌||◌, List, eqb}
use Rattle.std.proofs.Math.Path.{refl}
use Rattle.std.proofs.Common.{◌∙◌, arith, lt-ltb, le-leb}
use Rattle.std.proofs.Math.Bool.{not, or-true}
use Rattle.std.specs.Int.Bits.{bit_and, bit_or, or_lt, and_le_r}
use Rattle.std.proofs.lemmas.Nat.{and_le_l}
use Rattle.std.specs.Int.Count.{ones, ones-le, count_trailing_zeros}
use Rattle.limits.specs.Limit.{limit}
use Rattle.sets.specs.Laws.{by_b, by_eq}
use Rattle.sets.proofs.Laws.{eqb_yes, eqb_no}
use Rattle.sets.proofs.Size.{size_part, size_joined}
use Rattle.le.specs.Le.{u64_at}
use Rattle.le.specs.Laws.{u64_at_is}
use Rattle.cells.specs.Num.{AllBytes}
use Rattle.cells.proofs.Num.{num_lt}
use Rattle.cells.specs.Bits.{tb}
use Rattle.cells.proofs.Bits.{tb_or}
use Rattle.cells.proofs.Loops.{ones_size}
use Rattle.cells.proofs.Lowest.{rest_is}
use Rattle.station_state.specs.Layout.{read_set_from, written_set_from, wait, address, waiting_set, member, count_in, written_set, written_with}
use Rattle.station_state.specs.Valid.{few_in, few_written, limited_ok}
use Rattle.station_state.specs.Sets.{joined, count_words}

-- a set without its lowest member, if it has one
abbrev pub rest : ℕ → ℕ
rest x = bit_and x (x - 1)

rest_wide : (x : ℕ) → x < 2 ^ 64 → rest x < 2 ^ 64
rest_wide x l = omega (arith, and_le_l x (x - 1))

-- .. lacks one
rest_ones : (x : ℕ) → x < 2 ^ 64 → ones x ≤ ones (rest x) + 1
rest_ones x l =
    by_eq x 0 (λ e. let z : x ≡ 0 = eqb_yes x 0 e in rw z (omega arith))
    (λ e.
    let low : ℕ = count_trailing_zeros 64 x in
    let lacks : (i : ℕ) → i < 64 → tb x i ≡ true → (tb (rest x) i || eqb i low) ≡ true =
    λ i q t. by_b (eqb i low) (λ y. rw y (or-true (tb (rest x) i))) (λ y. rw (rest_is 64 x l (eqb_no x 0 e) i, y, t) refl)
    in
    let part = size_part 64 (tb x) (λ i. tb (rest x) i || eqb i low) lacks in
    let more = size_joined 64 (tb (rest x)) low in
    omega (arith, ones_size 64 x l, ones_size 64 (rest x) (rest_wide x l), part, more))

pub three_at_most : (x : ℕ) → x < 2 ^ 64 → rest (rest (rest x)) ≡ 0 → ones x ≤ 3
unfolding ones
three_at_most x l e =
    let a = rest_ones x l in
    let b = rest_ones (rest x) (rest_wide x l) in
    let c = rest_ones (rest (rest x)) (rest_wide (rest x) (rest_wide x l)) in
    let none : ones (rest (rest (rest x))) ≡ 0 = rw e refl in
    omega (arith, a, b, c, none)

-- what is laid over a set has no fewer
ones_left : (a b : ℕ) → a < 2 ^ 64 → b < 2 ^ 64 → ones a ≤ ones (bit_or a b)
ones_left a b p q =
    rw (ones_size 64 a p, ones_size 64 (bit_or a b) (or_lt 64 a b p q)) (size_part 64 (tb a) (tb (bit_or a b)) (λ i l t. tb_or i a b ∙ rw t refl))

ones_right : (a b : ℕ) → a < 2 ^ 64 → b < 2 ^ 64 → ones b ≤ ones (bit_or a b)
ones_right a b p q =
    rw (ones_size 64 b q, ones_size 64 (bit_or a b) (or_lt 64 a b p q))
    (size_part 64 (tb b) (tb (bit_or a b)) (λ i l t. tb_or i a b ∙ rw t (or-true (tb a i))))

module _ (s : List ℕ) (h : AllBytes s) where
  word_wide : (p : ℕ) → u64_at s p < 2 ^ 64
  word_wide p = rw (u64_at_is s p) (num_lt 8 s p h)

  joined_wide : (at : ℕ) → joined s at < 2 ^ 64
  unfolding joined
  joined_wide at =
      or_lt 64 _ _ (or_lt 64 _ _ (or_lt 64 _ _ (word_wide at) (word_wide (at + 8))) (word_wide (at + 16))) (word_wide (at + 24))

  -- a row has at most four times what its words have, laid over each other
  row_few : (at : ℕ) → count_in s at ≤ 4 * ones (joined s at)
  unfolding joined
  row_few at =
      let two = or_lt 64 (u64_at s at) (u64_at s (at + 8)) (word_wide at) (word_wide (at + 8)) in
      let three = or_lt 64 (bit_or (u64_at s at) (u64_at s (at + 8))) (u64_at s (at + 16)) two (word_wide (at + 16)) in
      let first = ones_left (u64_at s at) (u64_at s (at + 8)) (word_wide at) (word_wide (at + 8)) in
      let second = ones_right (u64_at s at) (u64_at s (at + 8)) (word_wide at) (word_wide (at + 8)) in
      let both = ones_left (bit_or (u64_at s at) (u64_at s (at + 8))) (u64_at s (at + 16)) two (word_wide (at + 16)) in
      let third = ones_right (bit_or (u64_at s at) (u64_at s (at + 8))) (u64_at s (at + 16)) two (word_wide (at + 16)) in
      let all = ones_left (bit_or (bit_or (u64_at s at) (u64_at s (at + 8))) (u64_at s (at + 16))) (u64_at s (at + 24)) three (word_wide (at + 24)) in
      let fourth = ones_right (bit_or (bit_or (u64_at s at) (u64_at s (at + 8))) (u64_at s (at + 16))) (u64_at s (at + 24)) three (word_wide (at + 24)) in
      omega (arith, count_words s h at, first, second, both, third, all, fourth)

  few_in_lem : (at : ℕ) (out : Bool) → count_in s at ≤ 12 → few_in s at out ≡ true
  unfolding few_in
  few_in_lem at out l =
      by_b (out && not (member s at (address s))) (λ t. rw t (lt-ltb (count_in s at) limit (omega (arith, l)))) (λ t. rw t (le-leb (count_in s at) limit (omega (arith, l))))

  few_written_lem : count_in s written_set_from ≤ 12 → few_written s ≡ true
  unfolding few_written written_with
  few_written_lem l =
      let more = ones-le 8 (bit_and (waiting_set s) (255 - written_set s (address s / 8))) (omega (arith, and_le_r (waiting_set s) (255 - written_set s (address s / 8)))) in
      by_b (eqb (wait s) 2)
      (λ t. rw t (le-leb (count_in s written_set_from + ones (bit_and (waiting_set s) (255 - written_set s (address s / 8)))) limit (omega (arith, l, more))))
      (λ t. rw t (le-leb (count_in s written_set_from) limit (omega (arith, l))))

  -- as the code asks
  pub few_limited : {a b x y z : ℕ} → a ≡ joined s read_set_from → b ≡ joined s written_set_from → x ≡ rest (bit_or a b) → y ≡ rest x → z ≡ rest y → z ≡ 0 → true ≡ limited_ok s
  unfolding limited_ok
  few_limited d e f g k n =
      let over : ℕ = bit_or (joined s read_set_from) (joined s written_set_from) in
      let wide : over < 2 ^ 64 = or_lt 64 _ _ (joined_wide read_set_from) (joined_wide written_set_from) in
      let nothing : rest (rest (rest over)) ≡ 0 = rw (← d, ← e, ← f, ← g, ← k) n in
      let few : ones over ≤ 3 = three_at_most over wide nothing in
      let reads : count_in s read_set_from ≤ 12 = omega (arith, row_few read_set_from, ones_left (joined s read_set_from) (joined s written_set_from) (joined_wide read_set_from) (joined_wide written_set_from), few) in
      let writes : count_in s written_set_from ≤ 12 = omega (arith, row_few written_set_from, ones_right (joined s read_set_from) (joined s written_set_from) (joined_wide read_set_from) (joined_wide written_set_from), few) in
      rw (few_in_lem read_set_from (eqb (wait s) 1) reads, few_written_lem writes) refl
