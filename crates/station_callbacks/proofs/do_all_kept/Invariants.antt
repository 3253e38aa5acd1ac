-- `station_callbacks::do_all_kept` meets its contract. The loop's invariant: the posted bytes are the definition's at the count of requesters passed, with room for the rest.
use lib.ListN.{length}
use Prim.Native.Nat.{◌≤◌, ◌-◌}
use mathlib.Core.Path.{◌≡◌}
use Rattle.station_callbacks.specs.Callbacks.{posted, kept_posted_to}
use Rattle.station_callbacks.specs.Posting.{Room}
use Rattle.station_callbacks.proofs.do_all_kept.Given as goal

abbrev pub invariant-loop-r : goal.invariant-loop-r
invariant-loop-r l = (l.r ≤ 8) × Room l.i l.n l.r l.k × (length l.s ≡ length l.initial.s) × (length l.o ≡ length l.initial.o) × (posted l.s l.o l.k ≡ kept_posted_to l.i l.initial.s l.initial.o l.n l.r)
