-- `record::Head::write` meets its contract.
use Rattle.record.specs.Facts.{fit, head_fits}
use mathlib.Core.Path.{sym, ◌∙◌}
use native.Mathlib.Omega.{arith}
use Rattle.record.proofs.Head.write.Goals as goal

pub put_record-requires : goal.put_record-requires
put_record-requires c = let f = fit _ _ _ _ _ _ _ (sym c.fits.ensures ∙ c.if-not-fits.false) in let h = head_fits _ _ _ _ _ f.head in (f.addresses_length, f.values_length, omega arith, omega arith, omega arith)
