-- Numbers of one width, one behind the other: the "eight values" of a page, the versions of a commit's entries.
use Rattle.std.specs.Prelude.{ℕ, zero, suc, List, [], ◌++◌}
use Rattle.le.specs.Width.{bytes}

-- f p, f (p + 1), .. n numbers of w bytes
unfoldable pub numbers : ℕ → (ℕ → ℕ) → ℕ → ℕ → List ℕ
numbers w f zero p = []
numbers w f (suc n) p = bytes w (f p) ++ numbers w f n (suc p)
