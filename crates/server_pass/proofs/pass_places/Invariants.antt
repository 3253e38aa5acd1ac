-- `server_pass::pass_places` meets its contract. The loop's invariant: what is posted, and the edges noted, are the definition's at the count of
-- turns taken.
use Prim.Native.Nat.{◌≤◌, ◌-◌}
use mathlib.Core.Path.{◌≡◌}
use lib.ListN.{length}
use Rattle.server_actions.specs.Posting.{from, posted, post}
use Rattle.server_pass.specs.Sane.{Sane}
use Rattle.server_pass.specs.Seats.{pass_to}
use Rattle.server_pass.specs.Edges.{Noted}
use Rattle.server_pass.proofs.pass_places.Given as goal

abbrev pub invariant-loop-n : goal.invariant-loop-n
invariant-loop-n l = (l.n ≤ 8) × (length l.s ≡ length l.initial.s) × (length l.o ≡ length l.initial.o) × (length l.q ≡ length l.initial.q) × (length l.e ≡ length l.initial.e) × Sane l.s × (posted l.s l.o l.q l.b ≡ post l.initial.o l.initial.q l.initial.b (pass_to l.l (from l.initial.s) l.n)) × Noted l.initial.s (pass_to l.l (from l.initial.s) l.n) l.e
