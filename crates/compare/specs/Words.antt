-- The bytes of a record of few entries, compared in as many words whatever their number: past the last whole word, a turn is the word
-- that ends with the last byte.
use Prim.Native.Nat.{ℕ, zero, suc, ◌+◌, ◌*◌, ◌-◌, ◌/◌, ◌≤◌, ◌<◌}
use Rattle.std.specs.Prelude.{◌≡◌, List, Bool, ◌&&◌, cond, leb}
use Rattle.std.proofs.Math.Path.{refl, sym, ap}
use Rattle.std.proofs.Common.{◌∙◌, eq-or-lt_of_le, arith, leb-true, leb-false, le-leb, eqb-true, eq-eqb}
use Rattle.std.proofs.Math.Bool.{true, false}
use Rattle.std.proofs.Math.Logic.{⊎_elim}
use Rattle.std.proofs.Math.ListN.{get_or}
use Rattle.std.proofs.Math.Dec.{eqb}
use Rattle.std.proofs.lemmas.Bool.{lt-leb}
use Rattle.lists.specs.Tests.{all_to, all_to_at, all_to_of, and_l, and_r}
use Rattle.le.specs.Le.{u64_at}
use Rattle.le.specs.Width.{num_at}
use Rattle.le.specs.Laws.{u64_at_is}
use Rattle.layout.specs.Record.{record_length}
use Rattle.record.specs.Few.{most_few}
use Rattle.compare.specs.Compare.{same_byte}

abbrev pub word_length : ℕ
word_length = 8

-- the words of the longest record of few entries: 88 bytes, no remainder
abbrev pub few_words : ℕ
few_words = 11

unfoldable pub is_words : ℕ → Bool
is_words n = leb word_length n && leb n (few_words * word_length)

pub record Words (n : ℕ) : Type 0 where
  pub one : word_length ≤ n
  pub few : n ≤ few_words * word_length

pub words_are : (n : ℕ) → is_words n ≡ true → Words n
unfolding is_words
words_are n h =
    let a = leb word_length n in
    let b = leb n (few_words * word_length) in
    record { one = leb-true _ _ (and_l a b h); few = leb-true _ _ (and_r a b h) }

-- where word i of n bytes starts
unfoldable pub word_from : ℕ → ℕ → ℕ
word_from i n = cond (leb (i * word_length) (n - word_length)) (i * word_length) (n - word_length)

unfoldable pub same_word : List ℕ → List ℕ → ℕ → ℕ → Bool
same_word x y n i = eqb (u64_at x (word_from i n)) (u64_at y (word_from i n))

-- a word stands within the bytes, and each byte in one of the words
pub word_within : (i n : ℕ) → word_length ≤ n → word_from i n + word_length ≤ n
unfolding word_from
word_within i n h = by_test (leb (i * word_length) (n - word_length)) refl
  where
    by_test : (b : Bool) → leb (i * word_length) (n - word_length) ≡ b → cond b (i * word_length) (n - word_length) + word_length ≤ n
    by_test true e = omega (arith, leb-true (i * word_length) (n - word_length) e)
    by_test false e = omega arith

record In (at l : ℕ) : Type 0 where
  behind : at ≤ l
  before : l < at + word_length

in_word : (l n : ℕ) → word_length ≤ n → l < n → In (word_from (l / 8) n) l
unfolding word_from
in_word l n h lt = by_test (leb (l / 8 * word_length) (n - word_length)) refl
  where
    by_test : (b : Bool) → leb (l / 8 * word_length) (n - word_length) ≡ b → In (cond b (l / 8 * word_length) (n - word_length)) l
    by_test true e = record { behind = omega arith; before = omega arith }
    by_test false e = let p = leb-false (l / 8 * word_length) (n - word_length) e in record { behind = omega arith; before = omega arith }

module _ (x y : List ℕ) (x-bytes : (j : ℕ) → get_or x j 0 < 256) (y-bytes : (j : ℕ) → get_or y j 0 < 256) where
  -- numbers of k bytes that are the same have the same bytes, and the other way round
  same_each : (k at l : ℕ) → num_at k x at ≡ num_at k y at → at ≤ l → l < at + k → get_or x l 0 ≡ get_or y l 0
  unfolding num_at
  same_each zero at l e h lt = absurd (omega arith)
  same_each (suc k) at l e h lt =
      let first : get_or x at 0 ≡ get_or y at 0 = omega (arith, x-bytes at, y-bytes at) in
      let rest : num_at k x (suc at) ≡ num_at k y (suc at) = omega (arith, x-bytes at, y-bytes at) in
      ⊎_elim (λ q. ap (λ (j : ℕ). get_or x j 0) (sym q) ∙ first ∙ ap (λ (j : ℕ). get_or y j 0) q) (λ on. same_each k (suc at) l rest on (omega arith)) (eq-or-lt_of_le h)

  same_number : (k at : ℕ) → ((l : ℕ) → at ≤ l → l < at + k → get_or x l 0 ≡ get_or y l 0) → num_at k x at ≡ num_at k y at
  unfolding num_at
  same_number zero at h = refl
  same_number (suc k) at h = rw (h at (omega arith) (omega arith), same_number k (suc at) (λ l p q. h l (omega arith) (omega arith)))

  -- all words are the same where all bytes are, and only there
  pub words_same : (n : ℕ) → Words n → all_to (same_word x y n) few_words ≡ all_to (same_byte x y) n
  unfolding same_word
  words_same n w = both_ways (all_to (λ i. eqb (u64_at x (word_from i n)) (u64_at y (word_from i n))) few_words) (all_to (same_byte x y) n) bytes words
    where
      both_ways : (a b : Bool) → (a ≡ true → b ≡ true) → (b ≡ true → a ≡ true) → a ≡ b
      both_ways true b f g = sym (f refl)
      both_ways false true f g = g refl
      both_ways false false f g = refl

      bytes : all_to (λ i. eqb (u64_at x (word_from i n)) (u64_at y (word_from i n))) few_words ≡ true → all_to (same_byte x y) n ≡ true
      bytes h = all_to_of (same_byte x y) n (λ l lt. let at = word_from (l / 8) n in let here = in_word l n w.one lt in let e = eqb-true _ _ (all_to_at (λ i. eqb (u64_at x (word_from i n)) (u64_at y (word_from i n))) few_words h (l / 8) (omega (arith, w.few))) in eq-eqb _ _ (same_each 8 at l (sym (u64_at_is x at) ∙ e ∙ u64_at_is y at) here.behind here.before))

      words : all_to (same_byte x y) n ≡ true → all_to (λ i. eqb (u64_at x (word_from i n)) (u64_at y (word_from i n))) few_words ≡ true
      words h = all_to_of (λ i. eqb (u64_at x (word_from i n)) (u64_at y (word_from i n))) few_words (λ i lt. let at = word_from i n in let inside = word_within i n w.one in eq-eqb _ _ (u64_at_is x at ∙ same_number 8 at (λ l p q. eqb-true _ _ (all_to_at (same_byte x y) n h l (omega arith))) ∙ sym (u64_at_is y at)))
