-- `station_pages::version_group` meets its contract. The loop's invariant: what is left leads to the definition's state.
use Prim.Native.Nat.{◌+◌, ◌*◌}
use mathlib.Core.Path.{◌≡◌}
use lib.ListN.{length}
use Rattle.cells.proofs.Each.{Leads}
use Rattle.station_state.specs.Runs.{run}
use Rattle.station_pages.specs.Versions.{version_at_b, version_if_b}
use Rattle.station_pages.proofs.version_group.Given as goal

abbrev pub invariant-loop-k : goal.invariant-loop-k
invariant-loop-k l = (length l.s ≡ length l.initial.s) × Leads (λ t b. version_at_b l.n t (l.g * 64 + b)) 64 l.k-iterator.left l.s (run (version_if_b l.n) l.initial.s (l.g * 64) 64)
