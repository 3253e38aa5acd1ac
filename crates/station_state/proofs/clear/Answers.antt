-- `station_state::clear` meets its contract.
use Rattle.std.proofs.Common.{◌≡◌, ◌+◌, ◌-◌, replicate, arith, sym, ◌∙◌, rules}
use Rattle.lists.specs.Stores.{put_part}
use Rattle.station_state.specs.Layout.{set_row}
use Rattle.station_state.proofs.Runs.{clear_to_is}
use Rattle.station_state.proofs.clear.Goals as goal

pub returns : goal.returns
returns c =
    let g = c.args in
    let z : c.fill.new.self ≡ replicate set_row 0 = search rules in
    put_part (replicate set_row 0) _ g.s.now g.at (g.at + set_row - g.at) z (omega arith) (omega arith) ∙ sym (clear_to_is g.s.now g.at set_row)
