use Rattle.totals.specs.Totals.{whole}
use native.Mathlib.Omega.{arith}
use Rattle.totals.proofs.count.Goals as goal

pub get_u16-n-requires : goal.get_u16-n-requires
get_u16-n-requires c = omega (arith, whole _ c.claimed_length.ensures c.if-part-claimed_length.false)

pub get_u16-m-requires : goal.get_u16-m-requires
get_u16-m-requires c = omega (arith, whole _ c.claimed_length.ensures c.if-part-claimed_length.false)

pub count_entry-requires : goal.count_entry-requires
count_entry-requires c = omega (arith, whole _ c.claimed_length.ensures c.if-part-claimed_length.false)
