-- `host::eight` meets its contract. The first eight values are those that the definition puts one by one.
use Rattle.std.proofs.Common.{◌≡◌, ◌≤◌, ℕ, List, refl, get_or, take, length, arith, ◌∙◌, length-take}
use Rattle.std.proofs.Math.Seq.{take-suc}
use Rattle.station_state.specs.Changes.{values_to}
use Rattle.host.specs.Host.{eight_of}
use Rattle.host.proofs.eight.Goals as goal

eight_put : (f : List ℕ) → 8 ≤ length f → take 8 f ≡ values_to (λ o. get_or f o 0) 8
unfolding values_to
eight_put f h =
    rw (take-suc f 7 0 (omega arith), take-suc f 6 0 (omega arith), take-suc f 5 0 (omega arith), take-suc f 4 0 (omega arith), take-suc f 3 0 (omega arith), take-suc f 2 0 (omega arith), take-suc f 1 0 (omega arith), take-suc f 0 0 (omega arith))
    refl

pub copy_from_slice-requires : goal.copy_from_slice-requires
copy_from_slice-requires c = rw length-take (omega arith)

pub returns : goal.returns
unfolding eight_of
returns c = c.copy_from_slice.ensures.after ∙ eight_put c.args.values.now c.requires
