-- Locks are freed page by page and eight pages at a time; a page or a group that has none is passed over.
use Rattle.std.specs.Prelude.{ℕ, zero, suc, ◌+◌, ◌*◌, ◌<◌, ◌≡◌, refl, List, get_or}
use Rattle.std.proofs.Common.{ap, ◌∙◌, arith, ne_eqb}
use Rattle.le.specs.Le.{u64_at}
use Rattle.station_state.specs.Runs.{run, run_idle}
use Rattle.station_state.specs.Sets.{over, over_each}
use Rattle.server_state.specs.Layout.{lock_from, lock_of, whole_from, whole_of}
use Rattle.server_state.specs.Facts.{zero_eight}
use Rattle.server_changes.specs.Changes.{free_page_b, free_pages_to, free_one_b, free_to}

-- from the first on they are those of the definitions
pub pages_run : (i : ℕ) (s : List ℕ) (n : ℕ) → run (free_page_b i) s 0 n ≡ free_pages_to i s n
unfolding run free_pages_to
pages_run i s zero = refl
pages_run i s (suc n) =
    let place : 0 + n ≡ n = omega arith in
    ap (λ (t : List ℕ). free_page_b i t (0 + n)) (pages_run i s n) ∙ ap (free_page_b i (free_pages_to i s n)) place

pub locks_run : (i : ℕ) (s : List ℕ) (n : ℕ) → run (free_one_b i) s 0 n ≡ free_to i s n
unfolding run free_to
locks_run i s zero = refl
locks_run i s (suc n) =
    let place : 0 + n ≡ n = omega arith in
    ap (λ (t : List ℕ). free_one_b i t (0 + n)) (locks_run i s n) ∙ ap (free_one_b i (free_to i s n)) place

-- WHAT IS PASSED OVER

-- eight pages that nobody has whole
pub none_whole : (i g : ℕ) (s : List ℕ) → u64_at s (whole_from + g * 8) ≡ 0 → s ≡ run (free_page_b i) s (g * 8) 8
unfolding free_page_b
none_whole i g s e =
    run_idle (free_page_b i) s (g * 8) 8
    (λ k l.
    let at : whole_from + (g * 8 + k) ≡ whole_from + g * 8 + k = omega arith in
    let free : whole_of s (g * 8 + k) ≡ 0 = rw at (zero_eight s (whole_from + g * 8) k l e) in
    rw (free, ne_eqb 0 (i + 1) (λ z. omega arith)) refl)

-- addresses that nobody has locked
none_locked : (i a n : ℕ) (s : List ℕ) → ((k : ℕ) → k < n → get_or s (lock_from + a + k) 0 ≡ 0) → s ≡ run (free_one_b i) s a n
unfolding free_one_b
none_locked i a n s h =
    run_idle (free_one_b i) s a n
    (λ k l.
    let at : lock_from + (a + k) ≡ lock_from + a + k = omega arith in
    let free : lock_of s (a + k) ≡ 0 = rw at (h k l) in
    rw (free, ne_eqb 0 (i + 1) (λ z. omega arith)) refl)

pub page_unlocked : (i p : ℕ) (s : List ℕ) → u64_at s (lock_from + p * 8) ≡ 0 → s ≡ run (free_one_b i) s (p * 8) 8
page_unlocked i p s e = none_locked i (p * 8) 8 s (λ k l. zero_eight s (lock_from + p * 8) k l e)

pub group_unlocked : (i g : ℕ) (s : List ℕ) → over s (lock_from + g * 64) 64 ≡ 0 → s ≡ run (free_one_b i) s (g * 64) 64
group_unlocked i g s e = none_locked i (g * 64) 64 s (over_each s (lock_from + g * 64) 64 e)
