-- Eight pages at a time: a group of which nothing is named is passed over.
use Rattle.std.specs.Prelude.{ℕ, zero, suc, ◌+◌, ◌*◌, ◌^◌, ◌<◌, ◌≡◌, refl, Bool, false, cond, List, get_or}
use Rattle.std.proofs.Common.{sym, ap, ◌∙◌, arith}
use Rattle.std.proofs.Math.Bool.{and-false, or_assoc}
use Rattle.std.proofs.lemmas.List.{set-get_or}
use Rattle.std.specs.Int.Bits.{bit_or, or_zero_r}
use Rattle.std.proofs.lemmas.Nat.{or_lt}
use Rattle.le.specs.Le.{u64_at}
use Rattle.sets.specs.Laws.{by_b}
use Rattle.cells.specs.Bits.{tb}
use Rattle.cells.proofs.Bits.{tb_or, tb_tells}
use Rattle.cells.specs.Loops.{mask_to}
use Rattle.station_state.specs.Layout.{unavailable_from, has_bit, cached, unavailable}
use Rattle.station_state.specs.Runs.{run, run_idle}
use Rattle.station_state.specs.Sets.{eight_bytes}
use Rattle.station_pages.specs.Pages.{drops_b, mark_one_b, mark_to}

-- CHANGES OF A STATE

-- a definition that goes on by f is a run of it
run_is : (f : List ℕ → ℕ → List ℕ) (to : ℕ → List ℕ) → ((k : ℕ) → to (suc k) ≡ f (to k) k) → (m : ℕ) → run f (to 0) 0 m ≡ to m
unfolding run
run_is f to h zero = refl
run_is f to h (suc m) =
    let place : 0 + m ≡ m = omega arith in
    ap (λ (t : List ℕ). f t (0 + m)) (run_is f to h m) ∙ ap (f (to m)) place ∙ sym (h m)

pub mark_run : (sets s : List ℕ) (m : ℕ) → run (mark_one_b sets) s 0 m ≡ mark_to sets s m
unfolding mark_to
mark_run sets s = run_is (mark_one_b sets) (mark_to sets s) (λ k. refl)

-- a page of which nothing is named
mark_none : (sets s : List ℕ) (p : ℕ) → get_or sets p 0 ≡ 0 → mark_one_b sets s p ≡ s
unfolding mark_one_b
mark_none sets s p e =
    by_b (has_bit (cached s) p)
    (λ t. rw (t, e, or_zero_r (unavailable s p)) (set-get_or s (unavailable_from + p) 0))
    (λ t. rw t refl)

pub none_marked : (sets : List ℕ) (g : ℕ) (s : List ℕ) → u64_at sets (g * 8) ≡ 0 → s ≡ run (mark_one_b sets) s (g * 8) 8
none_marked sets g s e = run_idle (mark_one_b sets) s (g * 8) 8 (λ k l. mark_none sets s (g * 8 + k) (eight_bytes sets (g * 8) k l e))

-- MASKS

-- m |= 1 << i where f(i), for the n numbers from a on
unfoldable pub mask_from : (ℕ → Bool) → ℕ → ℕ → ℕ
mask_from f a zero = 0
mask_from f a (suc n) = bit_or (mask_from f a n) (cond (f (a + n)) (2 ^ (a + n)) 0)

below_power : (n : ℕ) → n < 2 ^ n
below_power zero = omega arith
below_power (suc n) = omega (arith, below_power n)

bits_assoc : (a b c : ℕ) → bit_or (bit_or a b) c ≡ bit_or a (bit_or b c)
bits_assoc a b c =
    let n = a + b + c in
    let la : a < 2 ^ n = omega (arith, below_power n) in
    let lb : b < 2 ^ n = omega (arith, below_power n) in
    let lc : c < 2 ^ n = omega (arith, below_power n) in
    tb_tells n (bit_or (bit_or a b) c) (bit_or a (bit_or b c)) (or_lt n (bit_or a b) c (or_lt n a b la lb) lc) (or_lt n a (bit_or b c) la (or_lt n b c lb lc))
    (λ k l. rw (tb_or k (bit_or a b) c, tb_or k a b, tb_or k a (bit_or b c), tb_or k b c) (or_assoc (tb a k) (tb b k) (tb c k)))

mask_join : (f : ℕ → Bool) (m n : ℕ) → bit_or (mask_to f m) (mask_from f m n) ≡ mask_to f (m + n)
unfolding mask_from mask_to
mask_join f m zero = let none : m ≡ m + 0 = omega arith in or_zero_r (mask_to f m) ∙ ap (mask_to f) none
mask_join f m (suc n) =
    let next : suc (m + n) ≡ m + suc n = omega arith in
    let last = cond (f (m + n)) (2 ^ (m + n)) 0 in
    sym (bits_assoc (mask_to f m) (mask_from f m n) last) ∙ ap (λ (x : ℕ). bit_or x last) (mask_join f m n) ∙ ap (mask_to f) next

-- a group behind those before it
pub mask_group : (f : ℕ → Bool) (m n k : ℕ) {x y : ℕ} → x ≡ mask_to f m → y ≡ mask_from f m n → k ≡ m + n → bit_or x y ≡ mask_to f k
mask_group f m n k ex ey ek = rw (ex, ey, ek) (mask_join f m n)

mask_none : (f : ℕ → Bool) (a n : ℕ) → ((k : ℕ) → k < n → f (a + k) ≡ false) → mask_from f a n ≡ 0
unfolding mask_from
mask_none f a zero h = refl
mask_none f a (suc n) h = rw (mask_none f a n (λ k l. h k (omega arith)), h n (omega arith)) refl

pub none_dropped : (sets s : List ℕ) (g : ℕ) → u64_at sets (g * 8) ≡ 0 → 0 ≡ mask_from (drops_b sets s) (g * 8) 8
unfolding drops_b
none_dropped sets s g e =
    sym
    (mask_none (drops_b sets s) (g * 8) 8
    (λ k l. rw (eight_bytes sets (g * 8) k l e, and-false (has_bit (cached s) (g * 8 + k))) refl))
