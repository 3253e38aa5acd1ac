-- `server_sets::concerned_set` meets its contract.
use mathlib.Core.Path.{◌≡◌, refl, sym, ◌∙◌}
use native.Mathlib.Omega.{arith}
use Rattle.server_sets.specs.Sets.{locking_set, concerned_is}
use Rattle.server_sets.proofs.concerned_set.Goals as goal

pub returns-then-l-eq0 : goal.returns-then-l-eq0
returns-then-l-eq0 c =
    let a = c.args in
    let none : locking_set a.s.now ≡ 0 = sym c.locking_set-l.ensures ∙ c.if-l-eq0.true in
    rw (concerned_is a.s.now a.i (omega arith), none) refl

pub returns : goal.returns
returns c = let a = c.args in rw (concerned_is a.s.now a.i (omega arith)) (cc)
