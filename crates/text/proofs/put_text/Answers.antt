-- `text::put_text` meets its contract.
use Rattle.text.specs.Text.{put, put_of}
use Rattle.lists.specs.Stores.{put_part}
use Rattle.std.proofs.Common.{ap, refl, ◌+◌, ◌-◌, List, ℕ, length, arith}
use Rattle.text.proofs.put_text.Goals as goal

pub returns : goal.returns
unfolding put_of
returns c =
    let at = c.args.at in
    let text = c.args.text.now in
    (ap (λ (o : List ℕ). put o (at + length text)) (put_part text _ c.args.out.now at (at + length text - at) c.copy_from_slice.ensures.after (omega arith) (omega arith)), refl)
