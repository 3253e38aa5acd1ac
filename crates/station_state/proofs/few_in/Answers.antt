-- `station_state::few_in` meets its contract.
use mathlib.Core.Path.{sym}
use Rattle.station_state.specs.Valid.{few_in}
use Rattle.station_state.proofs.few_in.Goals as goal

pub returns-then-out-member : goal.returns-then-out-member
unfolding few_in
returns-then-out-member c = simp (sym c.address-a.ensures, sym c.member.ensures, c.if-out-member.true, sym c.count_in.ensures)

pub returns : goal.returns
unfolding few_in
returns c = simp (sym c.address-a.ensures, sym c.member.ensures, c.if-out-member.false, sym c.count_in-2.ensures)
