-- `set_record::fill_values` meets its contract. The values behind values leave nothing of the part (`values-filled`).
use mathlib.Core.Path.{◌≡◌, sym, ap, ◌∙◌}
use native.Mathlib.Omega.{arith}
use Prim.Native.Nat.{ℕ, ◌*◌, ◌-◌}
use mathlib.Core.List.{List}
use lib.ListN.{take, drop}
use lib.Seq.{sets}
use Rattle.lists.specs.Stores.{to_the_end}
use Rattle.layout.specs.Record.{value_length}
use Rattle.set_record.specs.Stores.{values_for}
use Rattle.set_record.specs.Filled.{values_filled, length_first, length_both}
use Rattle.set_record.proofs.fill_values.Goals as goal

pub returns : goal.returns
returns c = let g = c.args in let s = g.s.now in let l = g.addresses.now in let n = g.n in let within = c.requires.2 in let to-n : n - 0 ≡ n = omega arith in values_filled g.part.now (values_for s g.read_values (take n l)) (values_for s g.written_values (drop n l)) n (c.put_values.ensures ∙ ap (λ (k : ℕ). sets g.part.now (0 * value_length) (values_for s g.read_values (take k l))) to-n) (c.put_values-2.ensures ∙ ap (λ (x : List ℕ). sets c.put_values.new.part (n * value_length) (values_for s g.written_values x)) (to_the_end l n)) (length_first s g.read_values n l within) (c.requires.3 ∙ sym (length_both s g.read_values g.written_values n l within))
