-- Object sets that have one address alone, as words and by their members.
use Rattle.std.specs.Prelude.{ℕ, zero, suc, ◌+◌, ◌*◌, ◌/◌, ◌%◌, ◌^◌, ◌≤◌, ◌<◌, ◌≡◌, refl, Bool, true, false, ◌&&◌, cond, List, eqb}
use Rattle.std.proofs.Common.{sym, ap, ◌∙◌, arith, eqb-true, eq-eqb, ne_eqb}
use Rattle.std.proofs.Math.Pow.{pow-lt}
use Rattle.lists.specs.Tests.{and_l, and_r}
use Rattle.sets.specs.Laws.{by_eq}
use Rattle.sets.proofs.Laws.{eqb_yes, eqb_no}
use Rattle.le.specs.Le.{u64_at}
use Rattle.cells.specs.Num.{AllBytes}
use Rattle.cells.specs.Bits.{tb}
use Rattle.cells.proofs.Bits.{tb_zero, tb_pow}
use Rattle.station_state.specs.Layout.{member}
use Rattle.station_state.specs.Sets.{words_members, members_words}
use Rattle.server_state.specs.Valid.{word_of, only_in}

word_small : (a k : ℕ) → word_of a k < 2 ^ 64
unfolding word_of
word_small a k = by_eq k (a / 64) (λ e. rw e (pow-lt {j = 64} (omega arith))) (λ e. rw e (omega arith))

-- the word has the address's bit, and no other word any
word_bit : (a b : ℕ) → tb (word_of a (b / 64)) (b % 64) ≡ eqb b a
unfolding word_of
word_bit a b =
    by_eq (b / 64) (a / 64)
    (λ e. rw e (tb_pow (a % 64) (b % 64) ∙ same e))
    (λ e. rw e (tb_zero (b % 64) ∙ sym (ne_eqb b a (λ z. eqb_no (b / 64) (a / 64) e (ap (λ x. x / 64) z)))))
  where
    same : eqb (b / 64) (a / 64) ≡ true → eqb (b % 64) (a % 64) ≡ eqb b a
    same e =
        let k = eqb_yes (b / 64) (a / 64) e in
        by_eq (b % 64) (a % 64)
        (λ f. let m = eqb_yes (b % 64) (a % 64) f in f ∙ sym (eq-eqb b a (omega (arith, k, m))))
        (λ f. f ∙ sym (ne_eqb b a (λ z. eqb_no (b % 64) (a % 64) f (ap (λ x. x % 64) z))))

words_of : (s : List ℕ) (at a : ℕ) → only_in s at a ≡ true → (k : ℕ) → k < 4 → u64_at s (at + k * 8) ≡ word_of a k
unfolding only_in
words_of s at a h k l = word k l
  where
    e0 : Bool
    e0 = eqb (u64_at s at) (word_of a 0)

    e1 : Bool
    e1 = eqb (u64_at s (at + 8)) (word_of a 1)

    e2 : Bool
    e2 = eqb (u64_at s (at + 16)) (word_of a 2)

    e3 : Bool
    e3 = eqb (u64_at s (at + 24)) (word_of a 3)

    front : e0 && e1 && e2 ≡ true
    front = and_l (e0 && e1 && e2) e3 h

    word : (k : ℕ) → k < 4 → u64_at s (at + k * 8) ≡ word_of a k
    word zero l = let e : at + 0 * 8 ≡ at = omega arith in rw e (eqb-true _ _ (and_l e0 e1 (and_l (e0 && e1) e2 front)))
    word (suc zero) l = eqb-true _ _ (and_r e0 e1 (and_l (e0 && e1) e2 front))
    word (suc (suc zero)) l = eqb-true _ _ (and_r (e0 && e1) e2 front)
    word (suc (suc (suc zero))) l = eqb-true _ _ (and_r (e0 && e1 && e2) e3 h)
    word (suc (suc (suc (suc k)))) l = absurd (omega arith)

of_words : (s : List ℕ) (at a : ℕ) → ((k : ℕ) → k < 4 → u64_at s (at + k * 8) ≡ word_of a k) → only_in s at a ≡ true
unfolding only_in
of_words s at a e =
    let first : at + 0 * 8 ≡ at = omega arith in
    let z : u64_at s at ≡ word_of a 0 = rw first at (e 0 (omega arith)) in
    rw (eq-eqb (u64_at s at) (word_of a 0) z, eq-eqb (u64_at s (at + 8)) (word_of a 1) (e 1 (omega arith)), eq-eqb (u64_at s (at + 16)) (word_of a 2) (e 2 (omega arith)), eq-eqb (u64_at s (at + 24)) (word_of a 3) (e 3 (omega arith)))

pub only_member : (s : List ℕ) → AllBytes s → (at a : ℕ) → only_in s at a ≡ true → (b : ℕ) → b < 256 → member s at b ≡ eqb b a
only_member s h at a e b l = words_members s h at (word_of a) (words_of s at a e) b l ∙ word_bit a b

pub members_only : (s : List ℕ) → AllBytes s → (at a : ℕ) → ((b : ℕ) → b < 256 → member s at b ≡ eqb b a) → only_in s at a ≡ true
members_only s h at a e = of_words s at a (members_words s h at (word_of a) (word_small a) (λ b l. e b l ∙ sym (word_bit a b)))
