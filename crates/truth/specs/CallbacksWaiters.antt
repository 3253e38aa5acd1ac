-- G4 of all pairs of waiters: what joining, leaving, calls and their answers do to it. Over the waiting list only.
use Rattle.std.specs.Prelude.{◌≡◌, true, ℕ, ◌<◌}
use Rattle.line.specs.Server.{Server, Serving, Waiter, waits}
use Rattle.truth.specs.Clauses.{G4}

abbrev pub G4Of : (ℕ → Waiter) → Type 0
G4Of q = (i j : ℕ) → i < 8 → j < 8 → G4 (q i) (q j)

abbrev pub G4In : Serving → Type 0
G4In x = G4Of x.server.queue

-- arrivals given are below the counter: a new waiter is the last
abbrev pub Arrived : Server → Type 0
Arrived s = (i : ℕ) → i < 8 → waits s i ≡ true → (s.queue i).arrival < s.arrivals

-- two entries alike in what they want and when they came
pub record Same (v w : Waiter) : Type 0 where
  pub want : v.want ≡ w.want
  pub arrival : v.arrival ≡ w.arrival
  pub reads : v.reads ≡ w.reads
  pub writes : v.writes ≡ w.writes
