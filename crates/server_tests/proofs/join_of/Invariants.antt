-- `server_tests::join_of` meets its contract. The loop's invariant: whatever sets f has, the answer is those of all numbers passed.
use Rattle.std.proofs.Common.{◌≡◌, ℕ, ◌<◌}
use Rattle.server_tests.specs.Blockers.{join_to}
use Rattle.server_tests.proofs.join_of.Given as goal

abbrev pub invariant-loop-k : goal.invariant-loop-k
invariant-loop-k g l = (t : ℕ → ℕ) → ((k : ℕ) (r : ℕ) → k < l.n → goal.F-post g l.f k r → r ≡ t k) → l.d ≡ join_to t l.k
