use borrow.Author.Rules.{rules}
use Rattle.totals.specs.Totals.{whole}
use Rattle.history.specs.History.{none_to, writes_at, writes_done}
use mathlib.Core.Path.{sym, ◌∙◌}
use native.Mathlib.Numerals.{add-one}
use borrow.Author.Tests.{lt-ltb, le-ltb}
use native.Mathlib.Omega.{arith}
use Rattle.history.proofs.writes.Goals as goal

pub returns-then-part-claimed_length : goal.returns-then-part-claimed_length
unfolding writes_at
returns-then-part-claimed_length c = simp (sym c.claimed_length.ensures, lt-ltb _ _ c.if-part-claimed_length.true)

pub get_u16-n-requires : goal.get_u16-n-requires
get_u16-n-requires c = omega (arith, whole _ c.claimed_length.ensures c.if-part-claimed_length.false)

pub get_u16-m-requires : goal.get_u16-m-requires
get_u16-m-requires c = omega (arith, whole _ c.claimed_length.ensures c.if-part-claimed_length.false)

pub loop-c-init : goal.loop-c-init
unfolding none_to
loop-c-init c = search rules

pub is_entry-requires : goal.is_entry-requires
is_entry-requires c = omega (arith, whole _ c.claimed_length.ensures c.if-part-claimed_length.false)

pub loop-c-preserved : goal.loop-c-preserved
unfolding none_to
loop-c-preserved c = (search rules, rw add-one (cc))

pub returns : goal.returns
unfolding writes_at
returns c = simp (sym c.claimed_length.ensures, le-ltb _ _ c.if-part-claimed_length.false) (writes_done _ _ c.get_u16-n.ensures.0 c.get_u16-m.ensures.0 c.loop-c.invariant.0 (omega arith) c.loop-c.invariant.1)
