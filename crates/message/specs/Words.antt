-- Fields that are 0, several bytes at a time.
use Rattle.std.specs.Prelude.{ℕ, ◌+◌, ◌-◌, ◌≤◌, ◌<◌, ◌≡◌, true, ◌&&◌, List}
use Rattle.std.proofs.Common.{sym, ◌∙◌}
use Rattle.std.proofs.Math.Bool.{Bool}
use Rattle.std.proofs.Math.Decide.{dec_lt}
use native.Mathlib.Omega.{arith}
use Rattle.std.proofs.Math.ListN.{get_or}
use Rattle.std.proofs.Math.Dec.{eqb}
use borrow.Author.Tests.{eqb-true, eq-eqb}
use Rattle.lists.specs.Tests.{and_l, and_r, and_both, all_to_at, all_to_of}
use Rattle.sets.specs.Laws.{by_b}
use Rattle.le.specs.Le.{u16_at, u64_at}
use Rattle.le.specs.Laws.{u16_at_is, u32_at_is, u64_at_is, zero_bytes, bytes_zero}
use Rattle.message.specs.Layout.{page_from, transaction_from, pages_from, sets_from, transaction_of}
use Rattle.message.specs.Range.{zero_at, zeros}

module _ (m : List ℕ) where
  -- page, object, transaction, page set and commit number: the bytes between station and sets
  abbrev pub front : Bool
  front = zeros m page_from (sets_from - page_from)

  -- .. as three numbers: page and object, the transaction, and what is behind it
  abbrev pub words : Bool
  words = eqb (u16_at m page_from) 0 && eqb (transaction_of m) 0 && eqb (u64_at m pages_from) 0

  bytes_words : front ≡ true → words ≡ true
  unfolding zeros zero_at
  bytes_words e =
      let z : (k : ℕ) → k < sets_from - page_from → get_or m (page_from + k) 0 ≡ 0 = λ k l. eqb-true (get_or m (page_from + k) 0) 0 (all_to_at (zero_at m page_from) (sets_from - page_from) e k l) in
      let p : u16_at m page_from ≡ 0 = u16_at_is m page_from ∙ bytes_zero 2 m page_from (λ j l. z j (omega arith)) in
      let t : transaction_of m ≡ 0 =
      u32_at_is m transaction_from
      ∙ bytes_zero 4 m transaction_from (λ j l. let place : transaction_from + j ≡ page_from + (2 + j) = omega arith in rw place (z (2 + j) (omega arith)))
      in
      let w : u64_at m pages_from ≡ 0 =
      u64_at_is m pages_from
      ∙ bytes_zero 8 m pages_from (λ j l. let place : pages_from + j ≡ page_from + (6 + j) = omega arith in rw place (z (6 + j) (omega arith)))
      in
      and_both (and_both (eq-eqb (u16_at m page_from) 0 p) (eq-eqb (transaction_of m) 0 t)) (eq-eqb (u64_at m pages_from) 0 w)

  words_bytes : words ≡ true → front ≡ true
  unfolding zeros zero_at
  words_bytes e = all_to_of (zero_at m page_from) (sets_from - page_from) (λ k l. eq-eqb (get_or m (page_from + k) 0) 0 (byte k l))
    where
      a : Bool
      a = eqb (u16_at m page_from) 0

      ab : a && eqb (transaction_of m) 0 ≡ true
      ab = and_l (a && eqb (transaction_of m) 0) (eqb (u64_at m pages_from) 0) e

      two : (k : ℕ) → k < 2 → get_or m (page_from + k) 0 ≡ 0
      two = zero_bytes 2 m page_from (sym (u16_at_is m page_from) ∙ eqb-true (u16_at m page_from) 0 (and_l a (eqb (transaction_of m) 0) ab))

      four : (j : ℕ) → j < 4 → get_or m (transaction_from + j) 0 ≡ 0
      four = zero_bytes 4 m transaction_from (sym (u32_at_is m transaction_from) ∙ eqb-true (transaction_of m) 0 (and_r a (eqb (transaction_of m) 0) ab))

      eight : (j : ℕ) → j < 8 → get_or m (pages_from + j) 0 ≡ 0
      eight = zero_bytes 8 m pages_from (sym (u64_at_is m pages_from) ∙ eqb-true (u64_at m pages_from) 0 (and_r (a && eqb (transaction_of m) 0) (eqb (u64_at m pages_from) 0) e))

      late : (k : ℕ) → 2 ≤ k → k < sets_from - page_from → Dec (k < 6) → get_or m (page_from + k) 0 ≡ 0
      late k g l (yes q) = let place : page_from + k ≡ transaction_from + (k - 2) = omega arith in rw place (four (k - 2) (omega arith))
      late k g l (no q) = let place : page_from + k ≡ pages_from + (k - 6) = omega arith in rw place (eight (k - 6) (omega arith))

      byte_by : (k : ℕ) → k < sets_from - page_from → Dec (k < 2) → get_or m (page_from + k) 0 ≡ 0
      byte_by k l (yes q) = two k q
      byte_by k l (no q) = late k (omega arith) l (dec_lt k 6)

      byte : (k : ℕ) → k < sets_from - page_from → get_or m (page_from + k) 0 ≡ 0
      byte k l = byte_by k l (dec_lt k 2)

  pub front_words : words ≡ front
  front_words = by_b front (λ t. bytes_words t ∙ sym t) (λ n. by_b words (λ t. t ∙ sym (words_bytes t)) (λ k. k ∙ sym n))
