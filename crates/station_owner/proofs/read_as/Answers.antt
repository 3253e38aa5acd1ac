-- `station_owner::read_as` meets its contract.
use Prim.Native.Nat.{ℕ}
use mathlib.Core.Path.{refl, sym, ap, ◌∙◌}
use Rattle.station_answer.specs.Handed.{hand_none}
use Rattle.station_answer.specs.Did.{said}
use Rattle.station_answer.specs.declared.Answer.TheVariants.{Value}
use Rattle.station_owner.specs.Owner.{read_as_b}
use Rattle.station_owner.proofs.read_as.Goals as goal

pub returns-then-member : goal.returns-then-member
unfolding read_as_b
returns-then-member c = simp (sym c.member.ensures, c.if-member.true) (hand_none _ _ _ refl (c.say.ensures ∙ ap (λ (v : ℕ). said (Value v) 0 0) c.get_u64.ensures))

pub returns-then-member-2 : goal.returns-then-member-2
unfolding read_as_b
returns-then-member-2 c = simp (sym c.member.ensures, c.if-member.false, sym c.member-2.ensures, c.if-member-2.true) (hand_none _ _ _ refl (c.say-then-member-2.ensures ∙ ap (λ (v : ℕ). said (Value v) 0 0) c.get_u64-then-member-2.ensures))
