-- `server_state::owes_ok` meets its contract. The loop's invariant: all below the lowest of those that are left are looked at, and these are the set from
-- there on.
use Prim.Native.Nat.{◌<◌}
use mathlib.Core.Path.{◌≡◌}
use lib.Count.{count_trailing_zeros}
use Rattle.lists.specs.Tests.{all_to}
use Rattle.server_state.specs.Layout.{pend_of}
use Rattle.server_state.specs.Valid.{owes_at}
use Rattle.server_state.specs.Members.{From}
use Rattle.server_state.proofs.owes_ok.Given as goal

abbrev pub invariant-loop-j : goal.invariant-loop-j
invariant-loop-j l = (l.j-iterator.left < 256) × (l.ok ≡ all_to (owes_at l.s l.i) (count_trailing_zeros 8 l.j-iterator.left)) × From (pend_of l.s l.i) l.j-iterator.left
