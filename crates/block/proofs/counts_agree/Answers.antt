-- `block::counts_agree` meets its contract.
use native.Mathlib.Omega.{arith}
use Rattle.block.specs.Facts.{shaped}
use mathlib.Core.Path.{sym, ◌∙◌}
use Rattle.block.proofs.counts_agree.Goals as goal

pub entries_to-requires : goal.entries_to-requires
entries_to-requires c = let h = shaped _ (sym c.shape_ok.ensures ∙ c.if-not-shape_ok.false) in (omega (arith, h.at_most), omega (arith, h.length_is))
