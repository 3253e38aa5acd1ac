-- `record::Head::put_record` meets its contract. Header, addresses and values are each a run of stores, and `record-stores` joins them.
use lib.ListN.{length}
use Prim.Native.Nat.{◌+◌, ◌-◌}
use Rattle.layout.specs.Record.{header_length}
use Rattle.record.specs.Stores.{record_stores}
use Rattle.lists.specs.Stores.{put_part}
use native.Mathlib.Omega.{arith}
use Rattle.record.proofs.Head.put_record.Goals as goal

pub returns : goal.returns
returns c = let g = c.args in let h = g.self in let ads = g.addresses.now in let vs = g.values.now in let a = header_length + length ads in let s1 = c.put_header.new.out in record_stores h.reads h.writes h.commit h.transaction h.station h.kind ads vs g.out.now c.put_header.ensures (put_part ads c.fill_addresses.new.to s1 header_length (a - header_length) c.fill_addresses.ensures (omega arith) (omega arith)) (put_part vs c.fill_values.new.to _ a (a + length vs - a) c.fill_values.ensures (omega arith) (omega arith)) c.requires.0 c.requires.1 c.requires.2
