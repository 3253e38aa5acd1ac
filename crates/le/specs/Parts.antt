-- The number at a place of a part.
use Rattle.std.specs.Prelude.{ℕ, zero, suc, ◌+◌, ◌≡◌, refl, List, drop}
use Rattle.std.proofs.Common.{add-suc, get_or-drop}
use Rattle.le.specs.Width.{num_at}

pub num_at_drop : (k a : ℕ) (s : List ℕ) (i : ℕ) → num_at k (drop a s) i ≡ num_at k s (a + i)
unfolding num_at
num_at_drop zero a s i = refl
num_at_drop (suc k) a s i = rw (get_or-drop, num_at_drop k a s (suc i), add-suc)
