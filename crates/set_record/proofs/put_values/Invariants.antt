-- `set_record::put_values` meets its contract. The loop's invariant: the part has the values of the addresses passed.
use Prim.Native.Nat.{◌≤◌, ◌-◌, ◌*◌}
use lib.ListN.{length, take}
use lib.Seq.{sets}
use mathlib.Core.Path.{◌≡◌}
use Rattle.layout.specs.Record.{value_length}
use Rattle.set_record.specs.Stores.{values_for}
use Rattle.set_record.proofs.put_values.Given as goal

abbrev pub invariant-loop-c : goal.invariant-loop-c
invariant-loop-c l = (l.c ≤ l.n) × (length l.part ≡ length l.initial.part) × (l.part ≡ sets l.initial.part (l.i * value_length) (values_for l.s l.values (take l.c l.addresses)))
