-- `station_state::copy_sets` meets its contract.
use Rattle.std.proofs.Common.{◌≡◌, ◌+◌, ◌-◌, take, arith, sym, ◌∙◌, rules, length-take, length-drop}
use Rattle.lists.specs.Stores.{put_part}
use Rattle.station_state.specs.Layout.{set_row}
use Rattle.station_state.proofs.Runs.{copy_to_is}
use Rattle.station_state.proofs.copy_sets.Goals as goal

pub copy_from_slice-requires : goal.copy_from_slice-requires
copy_from_slice-requires c = simp (length-take, length-drop) (omega arith)

pub returns : goal.returns
returns c =
    let g = c.args in
    let z : c.copy_from_slice.new.self ≡ take set_row g.sets.now = search rules in
    put_part (take set_row g.sets.now) _ g.s.now g.at (g.at + set_row - g.at) z (rw length-take (omega arith)) (omega arith) ∙ sym (copy_to_is g.s.now g.at g.sets.now set_row (omega arith))
