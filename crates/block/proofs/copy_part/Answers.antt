-- `block::copy_part` meets its contract.
use Rattle.std.proofs.Common.{ap, ◌∙◌, ◌≡◌, ◌+◌, ◌-◌, ℕ, take, drop, arith}
use Rattle.lists.specs.Stores.{put_part}
use Rattle.block.specs.Parts.{length_part}
use Rattle.block.proofs.copy_part.Goals as goal

pub returns : goal.returns
returns c =
    let g = c.args in
    let l = length_part g.n g.start g.from.now c.requires.1 in
    let k : g.start + g.n - g.start ≡ g.n = omega arith in
    let after = c.copy_from_slice.ensures.after ∙ ap (λ (j : ℕ). take j (drop g.start g.from.now)) k in
    put_part (take g.n (drop g.start g.from.now)) _ g.to.now g.at (g.at + g.n - g.at) after (omega arith) (omega arith)
