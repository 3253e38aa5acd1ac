-- `set_record::put_record` meets its contract. The list has the addresses of both sets (`both-listed`); header and entries are runs of stores, which `record-filled` joins.
use native.Mathlib.Omega.{arith}
use Rattle.set_record.specs.Filled.{both_listed, record_room, record_filled_lem}
use borrow.Author.Rules.{rules}
use Rattle.set_record.proofs.put_record.Goals as goal

pub slice_bounds-put_header-end : goal.slice_bounds-put_header-end
slice_bounds-put_header-end c = let g = c.args in let room = record_room g.s.now g.reads g.read_values g.writes g.written_values g.commit g.transaction g.station g.kind _ _ c.list_set-n.ensures.1 c.list_set-k.ensures.1 g.base _ c.requires.4 in omega (arith, room)

pub put_entries-requires : goal.put_entries-requires
put_entries-requires c = let g = c.args in let room = record_room g.s.now g.reads g.read_values g.writes g.written_values g.commit g.transaction g.station g.kind _ _ c.list_set-n.ensures.1 c.list_set-k.ensures.1 g.base _ c.requires.4 in (search rules, search rules, search rules, omega (arith, room))

pub returns : goal.returns
returns c = let g = c.args in let s = g.s.now in let en = c.list_set-n.ensures.1 in let ek = c.list_set-k.ensures.1 in let all = both_listed s g.reads g.read_values g.writes g.written_values g.commit g.transaction g.station g.kind _ _ en ek _ c.list_set-n.ensures.0 c.list_set-k.ensures.0 (omega arith) in let room = record_room s g.reads g.read_values g.writes g.written_values g.commit g.transaction g.station g.kind _ _ en ek g.base _ c.requires.4 in (record_filled_lem s g.reads g.read_values g.writes g.written_values g.commit g.transaction g.station g.kind _ _ en ek g.out.now g.base _ all c.put_header.ensures c.put_entries.ensures (omega (arith, room)), search rules)
