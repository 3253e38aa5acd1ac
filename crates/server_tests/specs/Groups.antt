-- Pages eight at a time: where a waiter wants or writes nothing on eight, none of them is looked at.
use Rattle.std.specs.Prelude.{ℕ, zero, suc, ◌+◌, ◌*◌, ◌<◌, ◌≡◌, Bool, true, false, ◌&&◌, ◌||◌, List, get_or}
use Rattle.std.proofs.Math.Path.{refl, sym}
use Rattle.std.proofs.Common.{◌∙◌, add-zero, add-suc, arith, eqb-true}
use Rattle.std.proofs.Math.Bool.{or-false, or_assoc}
use Rattle.std.proofs.Math.Dec.{eqb}
use Rattle.sets.specs.Base.{any}
use Rattle.sets.specs.Laws.{by_b}
use Rattle.sets.proofs.Laws.{and_l, and_r, any_ext}
use Rattle.le.specs.Le.{u64_at}
use Rattle.cells.specs.Bits.{tb}
use Rattle.cells.proofs.Bits.{tb_tells}
use Rattle.cells.specs.Loops.{any_to}
use Rattle.cells.proofs.Loops.{any_to_lem, any_suc}
use Rattle.station_state.specs.Sets.{eight_bytes}
use Rattle.server_state.specs.Layout.{lock_from, read_set_from, written_set_from, wanted_on}
use Rattle.server_tests.specs.Tests.{stale_on_b, stale_b, locked_on_b, locked_b}
use Rattle.server_tests.specs.Blockers.{join_to, join_is, join_lt, holders_on, holders_lt, holder_set}
use Rattle.server_tests.specs.Alone.{any_none, join_none}

-- page p of the group g
abbrev pub in_group : {A : Type 0} → (ℕ → A) → ℕ → ℕ → A
in_group f g p = f (g * 8 + p)

unfoldable pub stale_in : List ℕ → ℕ → ℕ → Bool
stale_in s i g = any_to (in_group (stale_on_b s i) g) 8

unfoldable pub locked_in : List ℕ → ℕ → ℕ → Bool
locked_in s i g = any_to (in_group (locked_on_b s i) g) 8

unfoldable pub holders_in : List ℕ → ℕ → ℕ → ℕ
holders_in s i g = join_to (in_group (holders_on s i) g) 8

-- ALL GROUPS

any_more : (f : ℕ → Bool) (m n : ℕ) → any (m + n) f ≡ (any m f || any n (λ k. f (m + k)))
any_more f m zero = rw (add-zero m) (sym (or-false (any m f)))
any_more f m (suc n) =
    rw (add-suc m n) (any_suc (m + n) f ∙ rw (any_more f m n, any_suc n (λ k. f (m + k))) (or_assoc (any m f) (any n (λ k. f (m + k))) (f (m + n))))

any_groups : (f : ℕ → Bool) (n : ℕ) → any n (λ g. any 8 (in_group f g)) ≡ any (n * 8) f
any_groups f zero = refl
any_groups f (suc n) =
    let next : suc n * 8 ≡ n * 8 + 8 = omega arith in
    any_suc n (λ g. any 8 (in_group f g)) ∙ rw (next, any_groups f n) (sym (any_more f (n * 8) 8))

tests_all : (f : ℕ → Bool) → any_to (λ g. any_to (in_group f g) 8) 4 ≡ any_to f 32
tests_all f =
    any_to_lem (λ g. any_to (in_group f g) 8) (λ g. any 8 (in_group f g)) 4 (λ g l. any_to_lem (in_group f g) (in_group f g) 8 (λ p m. refl))
    ∙ any_groups f 4 ∙ sym (any_to_lem f f 32 (λ p l. refl))

pub stale_all : (s : List ℕ) (i : ℕ) → any_to (stale_in s i) 4 ≡ stale_b s i
unfolding stale_in stale_b
stale_all s i = tests_all (stale_on_b s i)

pub locked_all : (s : List ℕ) (i : ℕ) → any_to (locked_in s i) 4 ≡ locked_b s i
unfolding locked_in locked_b
locked_all s i = tests_all (locked_on_b s i)

-- as sets, bit by bit
pub holders_all : (s : List ℕ) (i : ℕ) → join_to (holders_in s i) 4 ≡ holder_set s i
unfolding holders_in holder_set
holders_all s i =
    let f = holders_on s i in
    tb_tells 8 (join_to (holders_in s i) 4) (join_to f 32)
    (join_lt (holders_in s i) 4 (λ g l. join_lt (in_group f g) 8 (λ p m. holders_lt s i (g * 8 + p))))
    (join_lt f 32 (λ p l. holders_lt s i p))
    (λ j l.
    join_is (holders_in s i) 4 j
    ∙ any_ext 4 (λ g. tb (holders_in s i g) j) (λ g. any 8 (in_group (λ p. tb (f p) j) g)) (λ g. join_is (in_group f g) 8 j)
    ∙ any_groups (λ p. tb (f p) j) 4 ∙ sym (join_is f 32 j))

-- WHAT IS PASSED OVER

-- i wants nothing on the pages of group g
unfoldable pub idle_in : List ℕ → ℕ → ℕ → Bool
idle_in s i g = eqb (u64_at s (read_set_from i + g * 8)) 0 && eqb (u64_at s (written_set_from i + g * 8)) 0

module _ (s : List ℕ) (i g : ℕ) where
  set_none : (from : ℕ) → u64_at s (from + g * 8) ≡ 0 → (p : ℕ) → p < 8 → get_or s (from + (g * 8 + p)) 0 ≡ 0
  set_none from e p l =
      let at : from + (g * 8 + p) ≡ from + g * 8 + p = omega arith in
      rw at (eight_bytes s (from + g * 8) p l e)

  idle_wanted : idle_in s i g ≡ true → (p : ℕ) → p < 8 → wanted_on s i (g * 8 + p) ≡ 0
  unfolding idle_in
  idle_wanted e p l =
      let a = eqb (u64_at s (read_set_from i + g * 8)) 0 in
      let b = eqb (u64_at s (written_set_from i + g * 8)) 0 in
      rw (set_none (read_set_from i) (eqb-true _ _ (and_l a b e)) p l, set_none (written_set_from i) (eqb-true _ _ (and_r a b e)) p l) refl

  pub stale_idle : idle_in s i g ≡ true → false ≡ stale_in s i g
  unfolding stale_in stale_on_b
  stale_idle e = sym (any_none (in_group (stale_on_b s i) g) 8 (λ p l. rw (idle_wanted e p l) refl))

  pub locked_idle : u64_at s (written_set_from i + g * 8) ≡ 0 → false ≡ locked_in s i g
  unfolding locked_in locked_on_b
  locked_idle e = sym (any_none (in_group (locked_on_b s i) g) 8 (λ p l. rw (set_none (written_set_from i) e p l) refl))

  pub holders_idle : idle_in s i g ≡ true → 0 ≡ holders_in s i g
  unfolding holders_in holders_on
  holders_idle e =
      sym (join_none (in_group (holders_on s i) g) 8
      (λ p l. rw (idle_wanted e p l) (by_b (eqb (u64_at s (lock_from + (g * 8 + p) * 8)) 0) (λ t. rw t) (λ t. rw t))))
