-- Who blocks a waiting station, by the bytes of pages: the stations of `blocksB` as one station set.
use Rattle.std.specs.Prelude.{ℕ, zero, suc, ◌+◌, ◌*◌, ◌<◌, ◌%◌, ◌^◌, ◌≡◌, refl, Bool, true, false, not, ◌&&◌, ◌||◌, cond, List, eqb, leb}
use Rattle.std.proofs.Common.{sym, ap, ap₂, ◌∙◌, lt_of_le_of_lt, arith, lt-ltb, le-leb, leb-true}
use Rattle.std.proofs.Math.Bool.{and-true, and-false}
use Rattle.std.specs.Int.Bits.{bit_and, bit_or}
use Rattle.std.proofs.lemmas.Nat.{and_le_l, or_lt}
use Rattle.std.proofs.Math.Pow.{pow-lt}
use Rattle.sets.specs.Base.{any}
use Rattle.sets.specs.Laws.{by_b, by_eq}
use Rattle.sets.proofs.Laws.{eqb_same, eqb_yes, eqb_no, and_l, and_r, not_yes, any_ext}
use Rattle.le.specs.Le.{u64_at}
use Rattle.cells.specs.Num.{AllBytes}
use Rattle.cells.proofs.Upd.{eqb_diff}
use Rattle.cells.specs.Bits.{tb}
use Rattle.cells.proofs.Bits.{tb_zero, tb_or, tb_and, tb_pow, tb_test, tb_tells}
use Rattle.cells.specs.Loops.{any_to, mask_to}
use Rattle.cells.proofs.Loops.{any_to_lem, any_suc, any_same, mask_is, mask_lt}
use Rattle.cells.proofs.Pages.{any_byte}
use Rattle.station_state.specs.Layout.{has_bit}
use Rattle.server_state.specs.Facts.{zero_eight}
use Rattle.server_state.specs.Layout.{lock_from, busy_from, read_set_from, written_set_from, lock_of, read_set, written_set, busy_of, waits_b, other_b, wanted_on}
use Rattle.server_tests.specs.Tests.{earlier_b, blocks_b, blocked_at_b, blocked_on_b, blocked_b, edge_at_b, edge_on_b, edge_b, edge_set}

-- r |= f(i)
unfoldable pub join_to : (ℕ → ℕ) → ℕ → ℕ
join_to f zero = 0
join_to f (suc n) = bit_or (join_to f n) (f n)

-- the objects of page p that i and j want and one of the two writes
unfoldable pub meet_on : List ℕ → ℕ → ℕ → ℕ → ℕ
meet_on s i j p = bit_and (bit_and (wanted_on s i p) (wanted_on s j p)) (bit_or (written_set s j p) (written_set s i p))

-- of all pages, laid over each other
unfoldable pub meet_set : List ℕ → ℕ → ℕ → ℕ
meet_set s i j = join_to (meet_on s i j) 32

-- "an earlier waiter wants it and one of the two writes"
unfoldable pub ahead_b : List ℕ → ℕ → ℕ → Bool
ahead_b s i j = earlier_b s j i && not (eqb (meet_set s i j) 0)

unfoldable pub ahead_set : List ℕ → ℕ → ℕ
ahead_set s i = mask_to (ahead_b s i) 8

-- "another holds a lock on an object wanted": the holder of object o of page p; a byte above 8 is no station's
unfoldable pub holder_at : List ℕ → ℕ → ℕ → ℕ → ℕ
holder_at s i p o =
    cond (has_bit (wanted_on s i p) o && other_b (lock_of s (p * 8 + o)) i && leb (lock_of s (p * 8 + o)) 8) (2 ^ ((lock_of s (p * 8 + o) + 7) % 8)) 0

-- a page without locks or on which nothing is wanted is not looked at
unfoldable pub holders_on : List ℕ → ℕ → ℕ → ℕ
holders_on s i p = cond (eqb (u64_at s (lock_from + p * 8)) 0) 0 (cond (eqb (wanted_on s i p) 0) 0 (join_to (holder_at s i p) 8))

unfoldable pub holder_set : List ℕ → ℕ → ℕ
holder_set s i = join_to (holders_on s i) 32

unfoldable pub blockers_b : List ℕ → ℕ → ℕ
blockers_b s i = bit_or (holder_set s i) (ahead_set s i)

-- tests of all numbers below n

none : (n : ℕ) → any n (λ k. false) ≡ false
none zero = refl
none (suc n) = none n

pub any_none : (n : ℕ) (f : ℕ → Bool) → ((k : ℕ) → k < n → f k ≡ false) → any n f ≡ false
any_none n f h = any_same f (λ k. false) n h ∙ none n

any_or : (n : ℕ) (f g : ℕ → Bool) → any n (λ k. f k || g k) ≡ (any n f || any n g)
any_or zero f g = refl
any_or (suc n) f g =
    any_suc n (λ k. f k || g k) ∙ rw (any_or n f g) (four (any n f) (any n g) (f n) (g n)) ∙ sym (ap₂ (λ a b. a || b) (any_suc n f) (any_suc n g))
  where
    four : (a b c d : Bool) → ((a || b) || (c || d)) ≡ ((a || c) || (b || d))
    four true b c d = refl
    four false true true d = refl
    four false true false d = refl
    four false false c d = refl

any_and : (n : ℕ) (b : Bool) (f : ℕ → Bool) → any n (λ k. b && f k) ≡ (b && any n f)
any_and n true f = refl
any_and n false f = none n

any_swap : (m n : ℕ) (f : ℕ → ℕ → Bool) → any m (λ i. any n (f i)) ≡ any n (λ k. any m (λ i. f i k))
any_swap zero n f = sym (none n)
any_swap (suc m) n f =
    any_suc m (λ i. any n (f i)) ∙ rw (any_swap m n f) (sym (any_or n (λ k. any m (λ i. f i k)) (f m)))
    ∙ any_ext n (λ k. any m (λ i. f i k) || f m k) (λ k. any (suc m) (λ i. f i k)) (λ k. sym (any_suc m (λ i. f i k)))

-- bits

pub bit_is : (x k : ℕ) → has_bit x k ≡ tb x k
unfolding has_bit
bit_is x k = tb_test k x

pub join_is : (f : ℕ → ℕ) (n k : ℕ) → tb (join_to f n) k ≡ any n (λ i. tb (f i) k)
unfolding join_to
join_is f zero k = tb_zero k
join_is f (suc n) k = rw (tb_or k (join_to f n) (f n), join_is f n k) (sym (any_suc n (λ i. tb (f i) k)))

pub join_lt : (f : ℕ → ℕ) (n : ℕ) → ((i : ℕ) → i < n → f i < 256) → join_to f n < 256
unfolding join_to
join_lt f zero h = omega arith
join_lt f (suc n) h = or_lt 8 (join_to f n) (f n) (join_lt f n (λ i l. h i (omega arith))) (h n (omega arith))

-- a page on which nothing is wanted need not be looked at
pub skip : (x : ℕ) (f r : ℕ → Bool) → ((o : ℕ) → f o ≡ (has_bit x o && r o)) → cond (eqb x 0) false (any_to f 8) ≡ any 8 f
skip x f r h =
    by_eq x 0
    (λ e. rw e (sym (any_none 8 f (λ o l. h o ∙ rw (eqb_yes x 0 e, bit_is 0 o, tb_zero o)))))
    (λ e. rw e (any_to_lem f f 8 (λ o l. refl)))

-- the holders of locks

-- the bit of a holder h, and whether it is j's
bit_of : (x : Bool) (h i j : ℕ) → j < 8 → tb (cond (x && other_b h i && leb h 8) (2 ^ ((h + 7) % 8)) 0) j ≡ (x && (eqb h (j + 1) && not (eqb j i)))
unfolding other_b
bit_of false h i j l = tb_zero j
bit_of true h i j l = by_eq h (j + 1) own (λ e. by_b (not (eqb h 0) && not (eqb h (i + 1)) && leb h 8) (other e) (λ t. rw (t, e, tb_zero j)))
  where
    other : eqb h (j + 1) ≡ false → (not (eqb h 0) && not (eqb h (i + 1)) && leb h 8) ≡ true
        → tb (cond (not (eqb h 0) && not (eqb h (i + 1)) && leb h 8) (2 ^ ((h + 7) % 8)) 0) j ≡ (eqb h (j + 1) && not (eqb j i))
    other e t =
        let most = leb-true h 8 (and_r (not (eqb h 0) && not (eqb h (i + 1))) (leb h 8) t) in
        let some = eqb_no h 0 (not_yes (eqb h 0) (and_l (not (eqb h 0)) (not (eqb h (i + 1))) (and_l (not (eqb h 0) && not (eqb h (i + 1))) (leb h 8) t))) in
        let apart = eqb_no h (j + 1) e in
        rw (t, e) (tb_pow ((h + 7) % 8) j ∙ eqb_diff j ((h + 7) % 8) (λ q. apart (omega (arith, most, some, q))))

    own : eqb h (j + 1) ≡ true → tb (cond (not (eqb h 0) && not (eqb h (i + 1)) && leb h 8) (2 ^ ((h + 7) % 8)) 0) j ≡ (eqb h (j + 1) && not (eqb j i))
    own e =
        let q : h ≡ j + 1 = eqb_yes h (j + 1) e in
        let k : (j + 1 + 7) % 8 ≡ j = omega arith in
        rw (e, q, eqb_diff (j + 1) 0 (λ z. omega arith), le-leb (j + 1) 8 (omega arith), k, and-true) (by_eq j i
        (λ t. rw (t, eqb_yes j i t, eqb_same (i + 1)) (tb_zero i))
        (λ t. rw (t, eqb_diff (j + 1) (i + 1) (λ z. eqb_no j i t (omega arith))) (tb_pow j j ∙ eqb_same j)))

pub holder_lt : (s : List ℕ) (i p o : ℕ) → holder_at s i p o < 256
unfolding holder_at
holder_lt s i p o = go (has_bit (wanted_on s i p) o && other_b (lock_of s (p * 8 + o)) i && leb (lock_of s (p * 8 + o)) 8)
  where
    go : (b : Bool) → cond b (2 ^ ((lock_of s (p * 8 + o) + 7) % 8)) 0 < 256
    go true = pow-lt {j = 8} (omega arith)
    go false = omega arith

pub holders_lt : (s : List ℕ) (i p : ℕ) → holders_on s i p < 256
unfolding holders_on
holders_lt s i p = go (eqb (u64_at s (lock_from + p * 8)) 0) (eqb (wanted_on s i p) 0)
  where
    go : (a b : Bool) → cond a 0 (cond b 0 (join_to (holder_at s i p) 8)) < 256
    go true b = omega arith
    go false true = omega arith
    go false false = join_lt (holder_at s i p) 8 (λ o l. holder_lt s i p o)

-- j has object o of page p locked before i
abbrev lock_b : List ℕ → ℕ → ℕ → ℕ → ℕ → Bool
lock_b s i j p o = has_bit (wanted_on s i p) o && (eqb (lock_of s (p * 8 + o)) (j + 1) && not (eqb j i))

holders_bit : (s : List ℕ) (i j p : ℕ) → j < 8 → tb (holders_on s i p) j ≡ any 8 (lock_b s i j p)
unfolding holders_on holder_at
holders_bit s i j p l =
    by_eq (u64_at s (lock_from + p * 8)) 0
    (λ e. rw e (tb_zero j ∙ sym (any_none 8 (lock_b s i j p) (free (eqb_yes (u64_at s (lock_from + p * 8)) 0 e)))))
    (λ e. rw e (by_eq (wanted_on s i p) 0
    (λ d. rw d (tb_zero j ∙ sym (any_none 8 (lock_b s i j p) (λ o q. rw (eqb_yes (wanted_on s i p) 0 d, bit_is 0 o, tb_zero o)))))
    (λ d. rw d (join_is (holder_at s i p) 8 j ∙ any_ext 8 (λ o. tb (holder_at s i p o) j) (lock_b s i j p) (λ o. bit_of (has_bit (wanted_on s i p) o) (lock_of s (p * 8 + o)) i j l)))))
  where
    free : u64_at s (lock_from + p * 8) ≡ 0 → (o : ℕ) → o < 8 → lock_b s i j p o ≡ false
    free e o q =
        let a : lock_from + (p * 8 + o) ≡ lock_from + p * 8 + o = omega arith in
        rw (a, zero_eight s (lock_from + p * 8) o q e, eqb_diff 0 (j + 1) (λ z. omega arith)) (and-false (has_bit (wanted_on s i p) o))

-- the waiters ahead

meet_bit : (s : List ℕ) (i j p o : ℕ) → tb (meet_on s i j p) o ≡ (has_bit (wanted_on s i p) o && has_bit (wanted_on s j p) o && (has_bit (written_set s j p) o || has_bit (written_set s i p) o))
unfolding meet_on
meet_bit s i j p o =
    let x = wanted_on s i p in
    let y = wanted_on s j p in
    let a = written_set s j p in
    let b = written_set s i p in
    rw (bit_is x o, bit_is y o, bit_is a o, bit_is b o) (tb_and o (bit_and x y) (bit_or a b) ∙ rw (tb_and o x y, tb_or o a b))

meet_lt : (s : List ℕ) → AllBytes s → (i j p : ℕ) → meet_on s i j p < 256
unfolding meet_on
meet_lt s h i j p =
    let x = wanted_on s i p in
    let y = wanted_on s j p in
    lt_of_le_of_lt (and_le_l (bit_and x y) (bit_or (written_set s j p) (written_set s i p)))
    (lt_of_le_of_lt (and_le_l x y) (or_lt 8 (read_set s i p) (written_set s i p) (h (read_set_from i + p)) (h (written_set_from i + p))))

meet_any : (s : List ℕ) → AllBytes s → (i j : ℕ) → not (eqb (meet_set s i j) 0) ≡ any 32 (λ p. any 8 (tb (meet_on s i j p)))
unfolding meet_set
meet_any s h i j =
    any_byte (join_to (meet_on s i j) 32) (join_lt (meet_on s i j) 32 (λ p l. meet_lt s h i j p))
    ∙ any_ext 8 (tb (join_to (meet_on s i j) 32)) (λ o. any 32 (λ p. tb (meet_on s i j p) o)) (join_is (meet_on s i j) 32)
    ∙ sym (any_swap 32 8 (λ p. tb (meet_on s i j p)))

-- the edges

split : (x l e w c : Bool) → (x && (l || (e && w && c))) ≡ ((x && l) || (e && (x && w && c)))
split true l true w c = refl
split true l false w c = refl
split false l true w c = refl
split false l false w c = refl

edge_split : (s : List ℕ) (i j p o : ℕ) → edge_at_b s i j p o ≡ (lock_b s i j p o || (earlier_b s j i && tb (meet_on s i j p) o))
unfolding edge_at_b blocks_b
edge_split s i j p o =
    rw (meet_bit s i j p o)
    (split (has_bit (wanted_on s i p) o) (eqb (lock_of s (p * 8 + o)) (j + 1) && not (eqb j i)) (earlier_b s j i) (has_bit (wanted_on s j p) o)
    (has_bit (written_set s j p) o || has_bit (written_set s i p) o))

edge_page : (s : List ℕ) (i j p : ℕ) → any 8 (edge_at_b s i j p) ≡ (any 8 (lock_b s i j p) || (earlier_b s j i && any 8 (tb (meet_on s i j p))))
edge_page s i j p =
    any_ext 8 (edge_at_b s i j p) (λ o. lock_b s i j p o || (earlier_b s j i && tb (meet_on s i j p) o)) (edge_split s i j p)
    ∙ any_or 8 (lock_b s i j p) (λ o. earlier_b s j i && tb (meet_on s i j p) o)
    ∙ ap (λ b. any 8 (lock_b s i j p) || b) (any_and 8 (earlier_b s j i) (tb (meet_on s i j p)))

edge_pages : (s : List ℕ) (i j : ℕ) → any 32 (λ p. any 8 (edge_at_b s i j p))
    ≡ (any 32 (λ p. any 8 (lock_b s i j p)) || (earlier_b s j i && any 32 (λ p. any 8 (tb (meet_on s i j p)))))
edge_pages s i j =
    any_ext 32 (λ p. any 8 (edge_at_b s i j p)) (λ p. any 8 (lock_b s i j p) || (earlier_b s j i && any 8 (tb (meet_on s i j p)))) (edge_page s i j)
    ∙ any_or 32 (λ p. any 8 (lock_b s i j p)) (λ p. earlier_b s j i && any 8 (tb (meet_on s i j p)))
    ∙ ap (λ b. any 32 (λ p. any 8 (lock_b s i j p)) || b) (any_and 32 (earlier_b s j i) (λ p. any 8 (tb (meet_on s i j p))))

-- j blocks i exactly when it is in the set
blockers_bit : (s : List ℕ) → AllBytes s → (i j : ℕ) → j < 8 → tb (blockers_b s i) j ≡ any 32 (λ p. any 8 (edge_at_b s i j p))
unfolding blockers_b holder_set ahead_set ahead_b
blockers_bit s h i j l =
    tb_or j (join_to (holders_on s i) 32) (mask_to (ahead_b s i) 8)
    ∙ ap₂ (λ a b. a || b)
    (join_is (holders_on s i) 32 j ∙ any_ext 32 (λ p. tb (holders_on s i p) j) (λ p. any 8 (lock_b s i j p)) (λ p. holders_bit s i j p l))
    (mask_is (ahead_b s i) 8 j ∙ rw (lt-ltb j 8 l, meet_any s h i j))
    ∙ sym (edge_pages s i j)

blockers_lt : (s : List ℕ) (i : ℕ) → blockers_b s i < 256
unfolding blockers_b holder_set ahead_set
blockers_lt s i = or_lt 8 (join_to (holders_on s i) 32) (mask_to (ahead_b s i) 8) (join_lt (holders_on s i) 32 (λ p l. holders_lt s i p)) (mask_lt (ahead_b s i) 8)

edges_any : (s : List ℕ) (i j : ℕ) → any_to (edge_on_b s i j) 32 ≡ any 32 (λ p. any 8 (edge_at_b s i j p))
unfolding edge_on_b edge_at_b
edges_any s i j = any_to_lem (edge_on_b s i j) (λ p. any 8 (edge_at_b s i j p)) 32 (λ p l. skip (wanted_on s i p) (edge_at_b s i j p) (λ o. blocks_b s i p o j) (λ o. refl))

blocked_at_lem : (s : List ℕ) (i p o : ℕ) → blocked_at_b s i p o ≡ any 8 (λ j. edge_at_b s i j p o)
unfolding blocked_at_b edge_at_b
blocked_at_lem s i p o =
    rw (any_to_lem (blocks_b s i p o) (blocks_b s i p o) 8 (λ j l. refl)) (sym (any_and 8 (has_bit (wanted_on s i p) o) (blocks_b s i p o)))

blocked_on : (s : List ℕ) (i p : ℕ) → blocked_on_b s i p ≡ any 8 (λ j. any 8 (edge_at_b s i j p))
unfolding blocked_on_b blocked_at_b
blocked_on s i p =
    skip (wanted_on s i p) (blocked_at_b s i p) (λ o. any_to (blocks_b s i p o) 8) (λ o. refl)
    ∙ any_ext 8 (blocked_at_b s i p) (λ o. any 8 (λ j. edge_at_b s i j p o)) (blocked_at_lem s i p)
    ∙ any_swap 8 8 (λ o j. edge_at_b s i j p o)

pub blocked_is : (s : List ℕ) → AllBytes s → (i : ℕ) → blocked_b s i ≡ not (eqb (blockers_b s i) 0)
unfolding blocked_b
blocked_is s h i =
    any_to_lem (blocked_on_b s i) (λ p. any 8 (λ j. any 8 (edge_at_b s i j p))) 32 (λ p l. blocked_on s i p)
    ∙ any_swap 32 8 (λ p j. any 8 (edge_at_b s i j p))
    ∙ sym (any_same (tb (blockers_b s i)) (λ j. any 32 (λ p. any 8 (edge_at_b s i j p))) 8 (λ j l. blockers_bit s h i j l))
    ∙ sym (any_byte (blockers_b s i) (blockers_lt s i))

pub edges_are : (s : List ℕ) → AllBytes s → (i : ℕ) → edge_set s i ≡ cond (waits_b s i) (bit_or (busy_of s i) (blockers_b s i)) 0
unfolding edge_set edge_b
edges_are s h i = tb_tells 8 (mask_to (edge_b s i) 8) (cond (waits_b s i) (bit_or (busy_of s i) (blockers_b s i)) 0) (mask_lt (edge_b s i) 8) (small (waits_b s i)) bits
  where
    small : (b : Bool) → cond b (bit_or (busy_of s i) (blockers_b s i)) 0 < 256
    small true = or_lt 8 (busy_of s i) (blockers_b s i) (h (busy_from + i)) (blockers_lt s i)
    small false = omega arith

    joined : (b : Bool) (j : ℕ) → j < 8 → (b && (has_bit (busy_of s i) j || any_to (edge_on_b s i j) 32)) ≡ tb (cond b (bit_or (busy_of s i) (blockers_b s i)) 0) j
    joined true j l =
        rw (tb_or j (busy_of s i) (blockers_b s i), bit_is (busy_of s i) j, edges_any s i j) (ap (λ b. tb (busy_of s i) j || b) (sym (blockers_bit s h i j l)))
    joined false j l = sym (tb_zero j)

    bits : (j : ℕ) → j < 8 → tb (mask_to (edge_b s i) 8) j ≡ tb (cond (waits_b s i) (bit_or (busy_of s i) (blockers_b s i)) 0) j
    bits j l = mask_is (edge_b s i) 8 j ∙ rw (lt-ltb j 8 l) (joined (waits_b s i) j l)
