-- Parts of a list one behind the other, and tests that agree.
use Rattle.std.specs.Prelude.{ℕ, zero, suc, ◌+◌, ◌<◌, ◌≡◌, refl, Bool, List, ◌++◌, length, take, drop}
use Rattle.std.proofs.Common.{◌∙◌, arith, take-add, drop-drop}
use Rattle.std.proofs.Math.Seq.{drop-append_seam}
use Rattle.lists.specs.Tests.{all_to}

module _ {A : Type 0} where
  -- a part of m + n elements is a part of m and the part of n behind it
  pub part_join : (m n a : ℕ) (s : List A) → take (m + n) (drop a s) ≡ take m (drop a s) ++ take n (drop (a + m) s)
  part_join m n a s = take-add m n (drop a s) ∙ rw drop-drop

  -- what stands behind x
  pub drop_behind : (x t s : List A) (a b : ℕ) → drop a s ≡ x ++ t → b ≡ a + length x → drop b s ≡ t
  drop_behind x t s a b e eb = rw (eb, ← drop-drop (length x) a s, e) (drop-append_seam x t)

-- two tests that agree at each number below n agree on all of them
pub all_to_same : (f g : ℕ → Bool) (n : ℕ) → ((k : ℕ) → k < n → f k ≡ g k) → all_to f n ≡ all_to g n
unfolding all_to
all_to_same f g zero h = refl
all_to_same f g (suc n) h = rw (all_to_same f g n (λ k l. h k (omega arith)), h n (omega arith))
