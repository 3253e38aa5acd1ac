-- `server_visit::fail` meets its contract.
use Rattle.std.specs.Prelude.{ℕ, ◌+◌, ◌≡◌, ◌≢◌, Bool, true, false, ◌||◌, List, eqb}
use Rattle.std.proofs.lemmas.Bool.{false≢true}
use mathlib.Core.Path.{refl, sym, ap, ◌∙◌}
use native.Mathlib.Omega.{arith}
use denote.Enum.Declared.{tag_of}
use denote.Enum.Bare.{sameb}
use Rattle.sets.specs.Base.{turned}
use Rattle.message.specs.contracts.Cause.{the_type}
use Rattle.message.specs.declared.Cause.{Cause}
use Rattle.message.specs.declared.Cause.TheVariants.{Deadlock, Changed, Locked, NoNumber}
use Rattle.message.specs.Kinds.{cause_code}
use Rattle.server_state.specs.Layout.{last_of}
use Rattle.server_tests.specs.Tests.{stale_b, locked_b, fault_b}
use Rattle.server_actions.specs.Posting.{room_first}
use Rattle.server_actions.specs.Parts.{acts_judge}
use Rattle.server_actions.specs.Pass.{judge_b}
use Rattle.server_visit.specs.Visits.{out_by, out_room, out_post, in_room, in_post, keepers_fault, keepers_room, keepers_chain, no_room, no_post}
use borrow.Author.Rules.{rules}
use Rattle.server_visit.proofs.fail.Goals as goal

-- the number of a cause
code_is : (k : Cause) → tag_of the_type k + 1 ≡ cause_code k
code_is Deadlock = refl
code_is Changed = refl
code_is Locked = refl
code_is NoNumber = refl

late : (k : Cause) → sameb the_type k Locked ≡ true → cause_code k ≡ 3
late Deadlock e = absurd (false≢true e)
late Changed e = absurd (false≢true e)
late Locked e = refl
late NoNumber e = absurd (false≢true e)

-- a commit's fault is no deadlock
no_cycle : (s : List ℕ) (i : ℕ) → 1 ≢ fault_b s i
unfolding fault_b
no_cycle s i = go (eqb (last_of s) 4294967295) (stale_b s i) (locked_b s i)
  where
    go : (a b c : Bool) → 1 ≢ turned a 4 (turned b 2 (turned c 3 0))
    go true b c e = omega arith
    go false true c e = omega arith
    go false false true e = omega arith
    go false false false e = omega arith

early : (s : List ℕ) (i : ℕ) (k : Cause) → cause_code k ≡ fault_b s i → sameb the_type k Locked ≡ false → (eqb (cause_code k) 2 || eqb (cause_code k) 4) ≡ true
early s i Deadlock f e = absurd (no_cycle s i f)
early s i Changed f e = refl
early s i Locked f e = absurd (false≢true (sym e))
early s i NoNumber f e = refl

pub ask_keepers-d-requires : goal.ask_keepers-d-requires
ask_keepers-d-requires c =
    let three = late c.args.cause (sym c.eq.ensures ∙ c.if-eq.true) in
    (search rules, search rules, c.requires.2, c.requires.3, room_first _ _ _ (acts_judge _) _ (in_room _ _ _ _ _ (out_by _ _ c.requires.4 (rw three refl)) c.requires.5))

pub abort-requires : goal.abort-requires
unfolding judge_b
abort-requires c =
    let three = late c.args.cause (sym c.eq.ensures ∙ c.if-eq.true) in
    let f = keepers_fault _ _ _ _ _ c.ask_keepers-d.ensures c.requires.1 c.requires.4 in
    let r = keepers_room _ _ _ _ _ c.ask_keepers-d.ensures (acts_judge _) (in_room _ _ _ _ _ (out_by _ _ c.requires.4 (rw three refl)) c.requires.5) in
    let some : eqb (fault_b c.ask_keepers-d.new.s c.args.i) 0 ≡ false = rw (← f, three) refl in
    (search rules, search rules, rw (code_is c.args.cause, f) (no_room _ _ _ _ _ _ some r))

pub returns-then-eq : goal.returns-then-eq
unfolding judge_b
returns-then-eq c =
    let three = late c.args.cause (sym c.eq.ensures ∙ c.if-eq.true) in
    let f = keepers_fault _ _ _ _ _ c.ask_keepers-d.ensures c.requires.1 c.requires.4 in
    let some : eqb (fault_b c.ask_keepers-d.new.s c.args.i) 0 ≡ false = rw (← f, three) refl in
    in_post _ _ _ _ _ (out_by _ _ c.requires.4 (rw three refl))
    (keepers_chain _ _ _ _ _ c.ask_keepers-d.ensures (acts_judge _) (no_post _ _ _ _ _ _ some (rw (code_is c.args.cause, f) at c.abort.ensures)))

pub abort-requires-2 : goal.abort-requires-2
abort-requires-2 c =
    (search rules, search rules, rw (code_is c.args.cause, c.requires.4) (out_room _ _ _ _ _ (out_by _ _ c.requires.4 (early _ _ _ c.requires.4 (sym c.eq.ensures ∙ c.if-eq.false))) c.requires.5))

pub returns : goal.returns
returns c =
    out_post _ _ _ _ _ (out_by _ _ c.requires.4 (early _ _ _ c.requires.4 (sym c.eq.ensures ∙ c.if-eq.false))) (rw (code_is c.args.cause, c.requires.4) at c.abort-2.ensures)
