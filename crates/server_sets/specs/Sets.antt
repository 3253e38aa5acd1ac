-- Sets of stations, a bit for each: bit j is set exactly when station j is in the set. The laws are over the state's bytes; over the
-- server of `line` they are in Sets.antt of server_meaning. Who owes a 7 and who is busy stand in the state as such bytes already.
-- Who gets 20, who gets 23 and what hinders a whole lock are tests of these bits: `concerned-is`, `informed-is`, `hindered-is`.
use Rattle.std.specs.Prelude.{ℕ, zero, suc, ◌+◌, ◌-◌, ◌*◌, ◌^◌, ◌<◌, ◌≡◌, refl, Bool, true, false, not, ◌&&◌, ◌||◌, List, eqb}
use Rattle.std.proofs.Common.{sym, ap, ap₂, ◌∙◌, lt_of_le_of_lt, arith, lt-ltb, ne_eqb}
use Rattle.std.proofs.Math.Bool.{and_comm}
use Rattle.std.specs.Int.Bits.{bit_and, bit_or}
use Rattle.std.proofs.lemmas.Nat.{and_le_l, and_le_r, or_lt}
use Rattle.std.proofs.Math.Pow.{pow-lt}
use Rattle.sets.specs.Base.{any}
use Rattle.sets.proofs.Laws.{or_no, not_no, eqb_yes}
use Rattle.le.specs.Le.{u64_at}
use Rattle.cells.specs.Bits.{tb, tb_not}
use Rattle.cells.proofs.Bits.{tb_or, tb_and, tb_pow, tb_tells}
use Rattle.cells.specs.Loops.{mask_to}
use Rattle.cells.proofs.Loops.{any_to_lem, any_same, mask_is, mask_lt}
use Rattle.cells.proofs.Pages.{any_bits, any_byte}
use Rattle.station_state.specs.Layout.{has_bit}
use Rattle.server_state.specs.Layout.{lock_from, listed_of, whole_of, written_set, locking_b}
use Rattle.server_tests.specs.Tests.{lock_on_b, concerns_at, concerned_b, concerned_set, hinders_b, hindered_b, written_page_b, written_pages_b, informed_b, edge_b, edge_set}
use Rattle.server_tests.specs.Shorter.{lock_whole}
use Rattle.server_tests.specs.Blockers.{bit_is}

-- station j is listed for one of the pages d
unfoldable pub listed_b : List ℕ → ℕ → ℕ → Bool
listed_b s d j = not (eqb (bit_and (listed_of s j) d) 0)

unfoldable pub listed_set : List ℕ → ℕ → ℕ
listed_set s d = mask_to (listed_b s d) 8

unfoldable pub locking_set : List ℕ → ℕ
locking_set s = mask_to (locking_b s) 8

-- page p has a lock, whole or on an object
unfoldable pub any_lock_b : List ℕ → ℕ → Bool
any_lock_b s p = not (eqb (u64_at s (lock_from + p * 8)) 0) || not (eqb (whole_of s p) 0)

-- the stations with a lock there
unfoldable pub lock_set : List ℕ → ℕ → ℕ
lock_set s p = mask_to (λ j. lock_on_b s j p) 8

-- .. that wait to write there
unfoldable pub writer_set : List ℕ → ℕ → ℕ
writer_set s p = mask_to (λ j. written_page_b s j p) 8

-- .. that get 23 when i has written the pages d
unfoldable pub informed_set : List ℕ → ℕ → ℕ → ℕ
informed_set s i d = mask_to (informed_b s i d) 8

-- the law of them all
mask_bit : (f : ℕ → Bool) (j : ℕ) → j < 8 → tb (mask_to f 8) j ≡ f j
mask_bit f j l = mask_is f 8 j ∙ rw (lt-ltb j 8 l)

mask_has : (f : ℕ → Bool) (j : ℕ) → j < 8 → has_bit (mask_to f 8) j ≡ f j
mask_has f j l = bit_is (mask_to f 8) j ∙ mask_bit f j l

-- page p alone
pub listed_set_lem : (s : List ℕ) (p j : ℕ) → j < 8 → has_bit (listed_set s (2 ^ p)) j ≡ has_bit (listed_of s j) p
unfolding listed_set listed_b has_bit
listed_set_lem s p j l = mask_has (listed_b s (2 ^ p)) j l

pub locking_set_lem : (s : List ℕ) (j : ℕ) → j < 8 → has_bit (locking_set s) j ≡ locking_b s j
unfolding locking_set
locking_set_lem s j l = mask_has (locking_b s) j l

pub lock_set_lem : (s : List ℕ) (p j : ℕ) → j < 8 → has_bit (lock_set s p) j ≡ lock_on_b s j p
unfolding lock_set
lock_set_lem s p j l = mask_has (λ k. lock_on_b s k p) j l

mask_none : (f : ℕ → Bool) (n : ℕ) → ((j : ℕ) → j < n → f j ≡ false) → mask_to f n ≡ 0
unfolding mask_to
mask_none f zero h = refl
mask_none f (suc n) h = rw (mask_none f n (λ j l. h j (omega arith)), h n (omega arith))

-- a page without locks
pub lock_none : (s : List ℕ) (p : ℕ) → any_lock_b s p ≡ false → lock_set s p ≡ 0
unfolding lock_set any_lock_b
lock_none s p e =
    let x = u64_at s (lock_from + p * 8) in
    let n = or_no (not (eqb x 0)) (not (eqb (whole_of s p) 0)) e in
    let objects : x ≡ 0 = eqb_yes x 0 (not_no (eqb x 0) n.0) in
    let whole : whole_of s p ≡ 0 = eqb_yes (whole_of s p) 0 (not_no (eqb (whole_of s p) 0) n.1) in
    mask_none (λ j. lock_on_b s j p) 8 (λ j l. lock_whole s j p objects ∙ rw (whole, ne_eqb 0 (j + 1) (λ z. omega arith)))

pub writer_set_lem : (s : List ℕ) (p j : ℕ) → j < 8 → has_bit (writer_set s p) j ≡ written_page_b s j p
unfolding writer_set
writer_set_lem s p j l = mask_has (λ k. written_page_b s k p) j l

pub informed_set_lem : (s : List ℕ) (i d j : ℕ) → j < 8 → has_bit (informed_set s i d) j ≡ informed_b s i d j
unfolding informed_set
informed_set_lem s i d j l = mask_has (informed_b s i d) j l

pub edge_set_lem : (s : List ℕ) (i j : ℕ) → j < 8 → has_bit (edge_set s i) j ≡ edge_b s i j
unfolding edge_set
edge_set_lem s i j l = mask_has (edge_b s i) j l

-- all but station i
other_bit : (i j : ℕ) → i < 8 → j < 8 → tb (255 - 2 ^ i) j ≡ not (eqb j i)
other_bit i j li lj = tb_not 8 j (2 ^ i) lj (pow-lt {j = 8} li) ∙ ap not (tb_pow i j)

-- others that are in two sets: one bit of it, and the whole
both_bit : (a b i j : ℕ) → i < 8 → j < 8 → tb (bit_and (bit_and a b) (255 - 2 ^ i)) j ≡ (tb a j && tb b j && not (eqb j i))
both_bit a b i j li lj =
    tb_and j (bit_and a b) (255 - 2 ^ i) ∙ ap₂ (λ x y. x && y) (tb_and j a b) (other_bit i j li lj)

turn : (a b c : Bool) → (a && b && c) ≡ (b && c && a)
turn true b c = sym (and_comm (b && c) true)
turn false b c = sym (and_comm (b && c) false)

both_is : (f g h : ℕ → Bool) (a b i : ℕ) → i < 8 → a < 256 → ((j : ℕ) → j < 8 → tb a j ≡ g j) → ((j : ℕ) → j < 8 → tb b j ≡ h j)
    → ((j : ℕ) → f j ≡ (not (eqb j i) && g j && h j)) → mask_to f 8 ≡ bit_and (bit_and a b) (255 - 2 ^ i)
both_is f g h a b i li la ea eb e =
    tb_tells 8 (mask_to f 8) (bit_and (bit_and a b) (255 - 2 ^ i)) (mask_lt f 8)
    (lt_of_le_of_lt (and_le_l (bit_and a b) (255 - 2 ^ i)) (lt_of_le_of_lt (and_le_l a b) la))
    (λ j l. mask_bit f j l ∙ e j ∙ turn (not (eqb j i)) (g j) (h j) ∙ sym (both_bit a b i j li l ∙ rw (ea j l, eb j l)))

-- WHO GETS 20

-- listed for a page that i is to write
concerns_any : (s : List ℕ) (i j : ℕ) → listed_b s (written_pages_b s i) j ≡ any 32 (concerns_at s i j)
unfolding listed_b written_pages_b concerns_at written_page_b
concerns_any s i j =
    let d = mask_to (written_page_b s i) 32 in
    let x = listed_of s j in
    any_bits 32 (bit_and x d) (lt_of_le_of_lt (and_le_r x d) (mask_lt (written_page_b s i) 32))
    ∙ any_same (tb (bit_and x d)) (concerns_at s i j) 32
    (λ p l. tb_and p x d ∙ ap₂ (λ a b. a && b) (sym (bit_is x p)) (mask_is (written_page_b s i) 32 p ∙ rw (lt-ltb p 32 l)))

pub concerned_is : (s : List ℕ) (i : ℕ) → i < 8 → concerned_set s i ≡ bit_and (bit_and (locking_set s) (listed_set s (written_pages_b s i))) (255 - 2 ^ i)
unfolding concerned_set concerned_b locking_set listed_set
concerned_is s i li =
    let d = written_pages_b s i in
    both_is (concerned_b s i) (locking_b s) (listed_b s d) (mask_to (locking_b s) 8) (mask_to (listed_b s d) 8) i li (mask_lt (locking_b s) 8)
    (mask_bit (locking_b s)) (mask_bit (listed_b s d))
    (λ j. ap (λ b. not (eqb j i) && locking_b s j && b) (any_to_lem (concerns_at s i j) (concerns_at s i j) 32 (λ p _. refl) ∙ sym (concerns_any s i j)))

-- WHO GETS 23

pub informed_is : (s : List ℕ) (i d : ℕ) → i < 8 → informed_set s i d ≡ bit_and (bit_and (255 - locking_set s) (listed_set s d)) (255 - 2 ^ i)
unfolding informed_set informed_b locking_set listed_set listed_b
informed_is s i d li =
    let a = mask_to (locking_b s) 8 in
    both_is (informed_b s i d) (λ j. not (locking_b s j)) (listed_b s d) (255 - a) (mask_to (listed_b s d) 8) i li (small a)
    (λ j l. tb_not 8 j a l (mask_lt (locking_b s) 8) ∙ ap not (mask_bit (locking_b s) j l)) (mask_bit (listed_b s d)) (λ j. refl)
  where
    small : (a : ℕ) → 255 - a < 256
    small a = omega arith

-- WHAT HINDERS A WHOLE LOCK

abbrev pub hinder_set : List ℕ → ℕ → ℕ
hinder_set s p = bit_or (bit_or (bit_and (locking_set s) (listed_set s (2 ^ p))) (lock_set s p)) (writer_set s p)

pub hindered_is : (s : List ℕ) (i p : ℕ) → i < 8 → hindered_b s i p ≡ not (eqb (bit_and (hinder_set s p) (255 - 2 ^ i)) 0)
unfolding hindered_b hinders_b locking_set listed_set lock_set writer_set written_page_b listed_b has_bit
hindered_is s i p li =
    any_to_lem (hinders_b s i p) (tb (bit_and (hinder_set s p) (255 - 2 ^ i))) 8 bits ∙ sym (any_byte (bit_and (hinder_set s p) (255 - 2 ^ i)) small)
  where
    small : bit_and (hinder_set s p) (255 - 2 ^ i) < 256
    small =
        let a = mask_to (locking_b s) 8 in
        let b = mask_to (listed_b s (2 ^ p)) 8 in
        let h = mask_to (λ j. lock_on_b s j p) 8 in
        let w = mask_to (λ j. written_page_b s j p) 8 in
        lt_of_le_of_lt (and_le_l (hinder_set s p) (255 - 2 ^ i))
        (or_lt 8 (bit_or (bit_and a b) h) w
        (or_lt 8 (bit_and a b) h (lt_of_le_of_lt (and_le_l a b) (mask_lt (locking_b s) 8)) (mask_lt (λ j. lock_on_b s j p) 8)) (mask_lt (λ j. written_page_b s j p) 8))

    bits : (j : ℕ) → j < 8 → hinders_b s i p j ≡ tb (bit_and (hinder_set s p) (255 - 2 ^ i)) j
    bits j l =
        let a = mask_to (locking_b s) 8 in
        let b = mask_to (listed_b s (2 ^ p)) 8 in
        let h = mask_to (λ j. lock_on_b s j p) 8 in
        let w = mask_to (λ j. written_page_b s j p) 8 in
        and_comm (not (eqb j i)) ((locking_b s j && has_bit (listed_of s j) p) || lock_on_b s j p || not (eqb (written_set s j p) 0))
        ∙ sym
        (tb_and j (hinder_set s p) (255 - 2 ^ i)
        ∙ rw (
          other_bit i j li l,
          tb_or j (bit_or (bit_and a b) h) w,
          tb_or j (bit_and a b) h,
          tb_and j a b,
          mask_bit (locking_b s) j l,
          mask_bit (listed_b s (2 ^ p)) j l,
          mask_bit (λ k. lock_on_b s k p) j l,
          mask_bit (λ k. written_page_b s k p) j l,
        ))
