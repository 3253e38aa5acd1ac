-- `server_actions::put_installed` meets its contract.
use mir.Val.{Fits}
use mir.Syntax.{w64}
use Prim.Native.Nat.{◌*◌, ◌<◌}
use mathlib.Core.Path.{ap}
use native.Mathlib.Omega.{arith}
use Rattle.message.specs.Layout.{message_length}
use Rattle.server_actions.specs.Chains.{installed_fits, installed_chain}
use borrow.Author.Rules.{rules}
use Rattle.server_actions.proofs.put_installed.Goals as goal

pub archive-e-requires : goal.archive-e-requires
archive-e-requires c = (search rules, search rules, rw c.write.ensures (installed_fits _ _ _ _ _ c.requires.3).1)

pub overflow_mul-e : goal.overflow_mul-e
overflow_mul-e c = let h = (installed_fits _ _ _ _ _ c.requires.3).0 in let k = ap (λ p. p.messages) c.archive-e.ensures.1 in omega (arith, h, k)

pub put_message-requires : goal.put_message-requires
put_message-requires c = let h = (installed_fits _ _ _ _ _ c.requires.3).0 in let k = ap (λ p. p.messages) c.archive-e.ensures.1 in omega (arith, h, k)

pub one_more-requires : goal.one_more-requires
one_more-requires c =
    let h = (installed_fits _ _ _ _ _ c.requires.3).0 in
    let k = ap (λ p. p.messages) c.archive-e.ensures.1 in
    let b : Fits w64 (c.archive-e.result.messages * message_length) = omega (arith, h, k) in
    let g : c.archive-e.result.messages < 9223372036854775808 = omega (arith, b) in g

pub returns : goal.returns
returns c = installed_chain _ _ _ _ _ c.work-t.ensures c.write.ensures c.archive-e.ensures c.leave.ensures c.finish.ensures c.last-n.ensures c.put_message.ensures c.one_more.ensures
