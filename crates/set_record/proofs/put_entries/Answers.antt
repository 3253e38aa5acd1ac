-- `set_record::put_entries` meets its contract. Each part is filled by its callee, and `parts_put` joins them.
use Rattle.std.proofs.Common.{◌≡◌, ◌+◌, ◌-◌, ◌*◌, ◌∙◌, sym, length, take, drop, arith}
use Rattle.std.proofs.Math.ListN.{length-take, length-drop}
use Rattle.layout.specs.Record.{header_length, value_length}
use Rattle.lists.specs.Stores.{copy_whole}
use Rattle.set_record.specs.Stores.{both_for}
use Rattle.set_record.specs.Filled.{length_both, parts_put}
use Rattle.set_record.proofs.put_entries.Goals as goal

pub returns : goal.returns
returns c =
    let g = c.args in
    let l = g.addresses.now in
    let e = g.base + header_length in
    let a = e + length l in
    let v = both_for g.s.now g.read_values g.written_values g.n l in
    let lv = length_both g.s.now g.read_values g.written_values g.n l c.requires.2 in
    let p = take (a - e) (drop e g.out.now) in
    let there : length p ≡ length l = simp (length-take, length-drop) (omega arith) in
    parts_put g.out.now l v e a (a + length l * value_length) (omega arith) (omega arith) (omega arith)
    (c.copy_from_slice.ensures.after ∙ sym (copy_whole l p there)) c.fill_values.ensures
