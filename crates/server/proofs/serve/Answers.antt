-- `server::serve` meets its contract.
use native.Mathlib.Omega.{arith}
use Rattle.server.specs.Facts.{ready_valid, ready_size, acceptable}
use Rattle.server.specs.Stepped.{accept_room, accept_sane, settle_room, settle_posted}
use borrow.Author.Rules.{rules}
use Rattle.server.proofs.serve.Goals as goal

pub accept-b-requires : goal.accept-b-requires
accept-b-requires c = (ready_size _ _ _ c.requires.0, acceptable _ _ (ready_valid _ _ _ c.requires.0) (λ j. omega (arith, c.slice_known-1.given j)) (λ j. omega (arith, c.shared_slice_known-1.given j)) c.requires.1, accept_room _ _ _ _ c.requires.0 c.requires.1 (λ j. omega (arith, c.slice_known-1.given j)) (λ j. omega (arith, c.shared_slice_known-1.given j)))

pub settle-requires : goal.settle-requires
settle-requires c = (let h = ready_size _ _ _ c.requires.0 in search rules, accept_sane _ _ _ _ c.requires.0 c.requires.1 (λ j. omega (arith, c.slice_known-1.given j)) (λ j. omega (arith, c.shared_slice_known-1.given j)) c.accept-b.ensures, settle_room _ _ _ _ c.requires.0 c.requires.1 (λ j. omega (arith, c.slice_known-1.given j)) (λ j. omega (arith, c.shared_slice_known-1.given j)) c.accept-b.ensures)

pub returns : goal.returns
returns c = settle_posted _ _ _ _ c.requires.0 c.requires.1 (λ j. omega (arith, c.slice_known-1.given j)) (λ j. omega (arith, c.shared_slice_known-1.given j)) c.accept-b.ensures c.settle.ensures
