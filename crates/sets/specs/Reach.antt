-- Which of n nodes are reached from a set by edges, and which lie on a cycle: "a node is on a cycle exactly when a path of edges leads
-- from it back to it" (`on-cycle`, `cycle-found`).
use Rattle.std.specs.Prelude.{◌≡◌, Bool, true, false, ◌&&◌, ◌||◌, ℕ, zero, suc, ◌<◌}
use Rattle.sets.specs.Base.{any, memo}

-- nodes reached from a set by one edge more
abbrev pub entered : ℕ → (ℕ → ℕ → Bool) → (ℕ → Bool) → ℕ → Bool
entered n e r j = r j || any n (λ k. r k && e k j)

abbrev pub grow : ℕ → (ℕ → ℕ → Bool) → (ℕ → Bool) → ℕ → Bool
grow n e r = memo n false (entered n e r)

abbrev pub grow_by : ℕ → ℕ → (ℕ → ℕ → Bool) → (ℕ → Bool) → ℕ → Bool
grow_by n zero e r = r
grow_by n (suc m) e r = grow_by n m e (grow n e r)

-- (`any`, so that a node with no edge is seen at once)
abbrev pub on_cycle : ℕ → (ℕ → ℕ → Bool) → ℕ → Bool
on_cycle n e i = any n (e i) && grow_by n n e (e i) i

-- one edge, or an edge and a path; every node on it is below n
pub data Path (n : ℕ) (e : ℕ → ℕ → Bool) : ℕ → ℕ → Type 0 where
  Last : {i j : ℕ} → i < n → j < n → e i j ≡ true → Path n e i j
  Then : {i j k : ℕ} → i < n → e i j ≡ true → Path n e j k → Path n e i k

pub path_on : {n : ℕ} {e : ℕ → ℕ → Bool} {i j k : ℕ} → Path n e i j → k < n → e j k ≡ true → Path n e i k
path_on (Last a b t) c u = Then a t (Last b c u)
path_on (Then a t p) c u = Then a t (path_on p c u)

-- two paths make one
pub path_and : {n : ℕ} {e : ℕ → ℕ → Bool} {i j k : ℕ} → Path n e i j → Path n e j k → Path n e i k
path_and (Last a b t) q = Then a t q
path_and (Then a t p) q = Then a t (path_and p q)
