-- `station_owner::begin` meets its contract.
use Prim.Native.Nat.{ℕ, ◌+◌}
use native.Mathlib.Omega.{arith}
use mathlib.Core.Path.{refl, sym, ap, ◌∙◌}
use Rattle.station_answer.specs.Handed.{hand_none}
use Rattle.station_answer.specs.Did.{said}
use Rattle.station_answer.specs.declared.Answer.TheVariants.{Begun}
use Rattle.station_owner.specs.Owner.{own_begin_b}
use Rattle.station_owner.specs.Facts.{ready_is, rests_passed, begin_back, begin_spent, begin_free, call_ok}
use Rattle.station_owner.proofs.begin.Goals as goal

pub returns-then-not-at_rest : goal.returns-then-not-at_rest
returns-then-not-at_rest c = begin_back _ _ _ (sym c.at_rest.ensures ∙ c.if-not-at_rest.true) (c.number.ensures ∙ c.no_begin.ensures) c.refuse.ensures

pub number-n-requires : goal.number-n-requires
number-n-requires c = (ready_is _ _ _ (rests_passed _ _ _ (sym c.at_rest.ensures ∙ c.if-not-at_rest.false)).0).size

pub returns-then-n : goal.returns-then-n
returns-then-n c = begin_spent _ _ _ (sym c.at_rest.ensures ∙ c.if-not-at_rest.false) (sym c.number-n.ensures ∙ c.if-n.true) c.refuse-then-n.ensures

pub begin-requires : goal.begin-requires
begin-requires c = ((ready_is _ _ _ (rests_passed _ _ _ (sym c.at_rest.ensures ∙ c.if-not-at_rest.false)).0).size, omega (arith, c.if-n.false, c.number-n.ensures))

pub returns : goal.returns
unfolding own_begin_b
returns c =
    let h = (sym c.at_rest.ensures ∙ c.if-not-at_rest.false) in
    call_ok _ _ _ _ _ (rests_passed _ _ _ h).0 (begin_free _ _ _ h (λ e. c.if-n.false (c.number-n.ensures ∙ e))) refl (hand_none _ _ _ c.begin.ensures (c.say.ensures ∙ ap (λ (t : ℕ). said (Begun (t + 1)) 0 0) c.number-n.ensures))
