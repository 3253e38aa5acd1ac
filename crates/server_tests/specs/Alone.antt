-- A waiter that wants objects of one page alone: no other page need be looked at. So it is with whoever waits to read or to write, and
-- with a commit of one page.
use Rattle.std.specs.Prelude.{ℕ, zero, suc, ◌+◌, ◌*◌, ◌<◌, ◌≡◌, refl, ◌≢◌, Bool, false, not, ◌&&◌, List, eqb}
use Rattle.std.proofs.Math.Path.{sym, ap₂}
use Rattle.std.proofs.Common.{ap, ◌∙◌, arith}
use Rattle.std.proofs.Math.Bool.{or-false}
use Rattle.std.specs.Int.Bits.{bit_or, or_zero_l, or_zero_r}
use Rattle.sets.specs.Laws.{by_b, by_eq}
use Rattle.sets.proofs.Laws.{eqb_yes, eqb_no}
use Rattle.le.specs.Le.{u64_at}
use Rattle.cells.specs.Loops.{any_to, mask_to}
use Rattle.cells.proofs.Loops.{mask_same}
use Rattle.station_state.specs.Sets.{or_right}
use Rattle.server_state.specs.Layout.{lock_from, read_set, written_set, wanted_on}
use Rattle.server_tests.specs.Tests.{stale_on_b, stale_b, locked_on_b, locked_b, earlier_b, shut_b, shut_out_b}
use Rattle.server_tests.specs.Blockers.{join_to, meet_on, meet_set, ahead_b, ahead_set, holders_on, holder_set, blockers_b}

-- nothing is wanted of a page other than p, where p is one
unfoldable pub Alone : List ℕ → ℕ → ℕ → Type 0
Alone s i p = p < 32 → (q : ℕ) → q < 32 → q ≢ p → wanted_on s i q ≡ 0

pub alone_none : (s : List ℕ) (i : ℕ) → Alone s i 32
unfolding Alone
alone_none s i l = absurd (omega arith)

-- j is an earlier waiter that wants an object of page p that i wants, and one of the two writes it
unfoldable pub ahead_at : List ℕ → ℕ → ℕ → ℕ → Bool
ahead_at s i p j = earlier_b s j i && not (eqb (meet_on s i j p) 0)

unfoldable pub ahead_on : List ℕ → ℕ → ℕ → ℕ
ahead_on s i p = mask_to (ahead_at s i p) 8

-- ONE OF MANY

-- what is 0 everywhere but at p
pub join_none : (f : ℕ → ℕ) (n : ℕ) → ((q : ℕ) → q < n → f q ≡ 0) → join_to f n ≡ 0
unfolding join_to
join_none f zero h = refl
join_none f (suc n) h = ap₂ bit_or (join_none f n (λ q l. h q (omega arith))) (h n (omega arith))

pub join_one : (f : ℕ → ℕ) (p n : ℕ) → p < n → ((q : ℕ) → q < n → q ≢ p → f q ≡ 0) → join_to f n ≡ f p
unfolding join_to
join_one f p zero l h = absurd (omega arith)
join_one f p (suc n) l h =
    by_eq p n
    (λ e.
    let z : p ≡ n = eqb_yes p n e in
    ap₂ bit_or (join_none f n (λ q k. h q (omega arith) (λ y. omega (arith, y, z)))) (ap f (sym z)) ∙ or_zero_l (f p))
    (λ e.
    let z : p ≢ n = eqb_no p n e in
    ap₂ bit_or (join_one f p n (omega (arith, z)) (λ q k y. h q (omega arith) y)) (h n (omega arith) (λ y. z (sym y))) ∙ or_zero_r (f p))

-- .. and what is false
pub any_none : (f : ℕ → Bool) (n : ℕ) → ((q : ℕ) → q < n → f q ≡ false) → any_to f n ≡ false
unfolding any_to
any_none f zero h = refl
any_none f (suc n) h = rw (any_none f n (λ q l. h q (omega arith)), h n (omega arith))

any_one : (f : ℕ → Bool) (p n : ℕ) → p < n → ((q : ℕ) → q < n → q ≢ p → f q ≡ false) → any_to f n ≡ f p
unfolding any_to
any_one f p zero l h = absurd (omega arith)
any_one f p (suc n) l h =
    by_eq p n
    (λ e. let z : p ≡ n = eqb_yes p n e in rw (any_none f n (λ q k. h q (omega arith) (λ y. omega (arith, y, z))), z))
    (λ e.
    let z : p ≢ n = eqb_no p n e in
    rw (any_one f p n (omega (arith, z)) (λ q k y. h q (omega arith) y), h n (omega arith) (λ y. z (sym y))) (or-false (f p)))

-- ONE PAGE

module _ (s : List ℕ) (i p : ℕ) (e : Alone s i p) (l : p < 32) where
  only : (q : ℕ) → q < 32 → q ≢ p → wanted_on s i q ≡ 0
  unfolding Alone
  only = e l

  holders_none : (q : ℕ) → q < 32 → q ≢ p → holders_on s i q ≡ 0
  unfolding holders_on
  holders_none q k n = rw (only q k n) (by_b (eqb (u64_at s (lock_from + q * 8)) 0) (λ t. rw t) (λ t. rw t))

  meet_none : (j q : ℕ) → q < 32 → q ≢ p → meet_on s i j q ≡ 0
  unfolding meet_on
  meet_none j q k n = rw (only q k n)

  shut_none : (q : ℕ) → q < 32 → q ≢ p → shut_b s i q ≡ false
  unfolding shut_b
  shut_none q k n = rw (only q k n)

  ahead_alone : (j : ℕ) → ahead_at s i p j ≡ ahead_b s i j
  unfolding ahead_at ahead_b meet_set
  ahead_alone j = rw (join_one (meet_on s i j) p 32 l (meet_none j))

  pub blockers_alone : bit_or (holders_on s i p) (ahead_on s i p) ≡ blockers_b s i
  unfolding blockers_b holder_set ahead_set ahead_on
  blockers_alone = ap₂ bit_or (sym (join_one (holders_on s i) p 32 l holders_none)) (mask_same (ahead_at s i p) (ahead_b s i) 8 (λ j m. ahead_alone j))

  pub shut_alone : shut_b s i p ≡ shut_out_b s i
  unfolding shut_out_b
  shut_alone = sym (any_one (shut_b s i) p 32 l shut_none)

  stale_none : (q : ℕ) → q < 32 → q ≢ p → stale_on_b s i q ≡ false
  unfolding stale_on_b
  stale_none q k n = rw (only q k n)

  pub stale_alone : stale_on_b s i p ≡ stale_b s i
  unfolding stale_b
  stale_alone = sym (any_one (stale_on_b s i) p 32 l stale_none)

  locked_none : (q : ℕ) → q < 32 → q ≢ p → locked_on_b s i q ≡ false
  unfolding locked_on_b
  locked_none q k n = rw (or_right (read_set s i q) (written_set s i q) (only q k n))

  pub locked_alone : locked_on_b s i p ≡ locked_b s i
  unfolding locked_b
  locked_alone = sym (any_one (locked_on_b s i) p 32 l locked_none)
