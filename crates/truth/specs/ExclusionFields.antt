-- Exclusion under a change of one field: locks, lists, waiters, lines.
use Rattle.std.specs.Prelude.{◌≡◌, true, ℕ}
use Rattle.line.specs.Server.{Waiter, is_want}

-- a called entry that was called before, with the same writes and the same stations that owe a 7
pub record SameCall (v w : Waiter) : Type 0 where
  pub waits : is_want w.want ≡ true
  pub called : w.called ≡ true
  pub writes : (a : ℕ) → v.writes a ≡ true → w.writes a ≡ true
  pub pend : (j : ℕ) → v.pend j ≡ w.pend j
