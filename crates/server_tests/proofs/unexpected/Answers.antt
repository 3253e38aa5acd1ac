-- `server_tests::unexpected` meets its contract.
use mathlib.Core.Path.{sym, ◌∙◌}
use Rattle.server_tests.specs.Tests.{unexpected_b}
use native.Mathlib.Omega.{arith}
use borrow.Author.Rules.{rules}
use Rattle.server_tests.proofs.unexpected.Goals as goal

pub unlocked-requires : goal.unlocked-requires
unlocked-requires c =
    let e = rw c.in-Ok-Commit.field-0-is at c.in-Ok-Commit.ensures in
    let p = c.requires.4 (sym c.kind.ensures ∙ sym e) in
    (search rules, search rules, p.0, p.1)

pub lock_on-requires : goal.lock_on-requires
lock_on-requires c =
    let e = rw c.in-Ok-Purge.field-0-is at c.in-Ok-Purge.ensures in
    (search rules, search rules, omega (arith, c.requires.5 (sym c.kind.ensures ∙ sym e), c.page.ensures))

pub returns-in-Ok-Read : goal.returns-in-Ok-Read
unfolding unexpected_b
returns-in-Ok-Read c = let e = rw c.in-Ok-Read.field-0-is at c.in-Ok-Read.ensures in rw (← c.kind.ensures, ← e) (cc)

pub returns-in-Ok-Write : goal.returns-in-Ok-Write
unfolding unexpected_b
returns-in-Ok-Write c = let e = rw c.in-Ok-Write.field-0-is at c.in-Ok-Write.ensures in rw (← c.kind.ensures, ← e) (cc)

pub returns-in-Ok-Commit : goal.returns-in-Ok-Commit
unfolding unexpected_b
returns-in-Ok-Commit c = let e = rw c.in-Ok-Commit.field-0-is at c.in-Ok-Commit.ensures in rw (← c.kind.ensures, ← e) (cc)

pub returns-in-Ok-Abort : goal.returns-in-Ok-Abort
unfolding unexpected_b
returns-in-Ok-Abort c = let e = rw c.in-Ok-Abort.field-0-is at c.in-Ok-Abort.ensures in rw (← c.kind.ensures, ← e) (cc)

pub returns-in-Ok-Purge : goal.returns-in-Ok-Purge
unfolding unexpected_b
returns-in-Ok-Purge c = let e = rw c.in-Ok-Purge.field-0-is at c.in-Ok-Purge.ensures in rw (← c.kind.ensures, ← e) (cc)

pub returns-in-Ok-Busy : goal.returns-in-Ok-Busy
unfolding unexpected_b
returns-in-Ok-Busy c = let e = rw c.in-Ok-Busy.field-0-is at c.in-Ok-Busy.ensures in rw (← c.kind.ensures, ← e) (cc)

pub returns-in-Ok-Done : goal.returns-in-Ok-Done
unfolding unexpected_b
returns-in-Ok-Done c = let e = rw c.in-Ok-Done.field-0-is at c.in-Ok-Done.ensures in rw (← c.kind.ensures, ← e) (cc)

pub returns-in-Ok-WrittenSet : goal.returns-in-Ok-WrittenSet
unfolding unexpected_b
returns-in-Ok-WrittenSet c = let e = rw c.in-Ok-WrittenSet.field-0-is at c.in-Ok-WrittenSet.ensures in rw (← c.kind.ensures, ← e) (cc)
