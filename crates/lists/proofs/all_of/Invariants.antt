-- `lists::all_of` meets its contract. The loop's invariant: whatever test f makes, the answer is that test of all numbers passed.
use Rattle.std.proofs.Common.{◌≡◌, ℕ, Bool, ◌<◌}
use Rattle.lists.specs.Tests.{all_to}
use Rattle.lists.proofs.all_of.Given as goal

abbrev pub invariant-loop-k : goal.invariant-loop-k
invariant-loop-k g l = (t : ℕ → Bool) → ((k : ℕ) (r : Bool) → k < l.n → goal.F-post g l.f k r → r ≡ t k) → l.ok ≡ all_to t l.k
