-- `server_accept::accept` meets its contract.
use mathlib.Core.Path.{sym, ◌∙◌}
use native.Mathlib.Omega.{arith}
use Rattle.server_accept.specs.Chains.{room_as, post_as, post_still, write_still, abort_still, purge_still, busy_still, done_still, written_set_still, accept_read, accept_write, accept_commit, accept_abort, accept_purge, accept_busy, accept_done, accept_set}
use borrow.Author.Rules.{rules}
use Rattle.server_accept.proofs.accept.Goals as goal

pub on_read-requires : goal.on_read-requires
on_read-requires c =
    let sent = rw c.in-Ok-Read.field-0-is at c.in-Ok-Read.ensures in
    let h = c.requires.1.address (sym c.kind.ensures ∙ sym sent) in (search rules, search rules, search rules, h, search rules, search rules, room_as _ _ _ (accept_read _ _ (sym c.kind.ensures ∙ sym sent)) c.requires.2)

pub returns-in-Ok-Read : goal.returns-in-Ok-Read
returns-in-Ok-Read c =
    let sent = rw c.in-Ok-Read.field-0-is at c.in-Ok-Read.ensures in
    post_as _ _ _ (accept_read _ _ (sym c.kind.ensures ∙ sym sent)) c.on_read.ensures

pub on_write-requires : goal.on_write-requires
on_write-requires c =
    let sent = rw c.in-Ok-Write.field-0-is at c.in-Ok-Write.ensures in
    let h = c.requires.1.asked (sym c.kind.ensures ∙ sym sent) in search rules

pub on_commit-requires : goal.on_commit-requires
on_commit-requires c =
    let sent = rw c.in-Ok-Commit.field-0-is at c.in-Ok-Commit.ensures in
    (search rules, c.requires.1.commit (sym c.kind.ensures ∙ sym sent), search rules, c.requires.1.last (sym c.kind.ensures ∙ sym sent), search rules, search rules, room_as _ _ _ (accept_commit _ _ (sym c.kind.ensures ∙ sym sent)) c.requires.2)

pub returns-in-Ok-Commit : goal.returns-in-Ok-Commit
returns-in-Ok-Commit c =
    let sent = rw c.in-Ok-Commit.field-0-is at c.in-Ok-Commit.ensures in
    post_as _ _ _ (accept_commit _ _ (sym c.kind.ensures ∙ sym sent)) c.on_commit.ensures

pub on_purge-requires : goal.on_purge-requires
on_purge-requires c =
    let sent = rw c.in-Ok-Purge.field-0-is at c.in-Ok-Purge.ensures in
    let h = c.requires.1.page (sym c.kind.ensures ∙ sym sent) in search rules

pub on_busy-requires : goal.on_busy-requires
on_busy-requires c =
    let sent = rw c.in-Ok-Busy.field-0-is at c.in-Ok-Busy.ensures in
    let h = c.requires.1.requester (omega (arith, c.kind.ensures, sent)) (omega (arith, c.kind.ensures, sent)) in search rules

pub on_done-requires : goal.on_done-requires
on_done-requires c =
    let sent = rw c.in-Ok-Done.field-0-is at c.in-Ok-Done.ensures in
    let h = c.requires.1.requester (omega (arith, c.kind.ensures, sent)) (omega (arith, c.kind.ensures, sent)) in search rules

pub on_written_set-requires : goal.on_written_set-requires
on_written_set-requires c =
    let sent = rw c.in-Ok-WrittenSet.field-0-is at c.in-Ok-WrittenSet.ensures in
    let h = c.requires.1.loosened (sym c.kind.ensures ∙ sym sent) in search rules

pub returns-in-Ok-Write : goal.returns-in-Ok-Write
returns-in-Ok-Write c =
    let sent = rw c.in-Ok-Write.field-0-is at c.in-Ok-Write.ensures in
    post_as _ _ _ (accept_write _ _ (sym c.kind.ensures ∙ sym sent)) (post_still _ _ _ (write_still _ _) c.on_write.ensures)

pub returns-in-Ok-Abort : goal.returns-in-Ok-Abort
returns-in-Ok-Abort c =
    let sent = rw c.in-Ok-Abort.field-0-is at c.in-Ok-Abort.ensures in
    post_as _ _ _ (accept_abort _ _ (sym c.kind.ensures ∙ sym sent)) (post_still _ _ _ (abort_still _ _) c.on_abort.ensures)

pub returns-in-Ok-Purge : goal.returns-in-Ok-Purge
returns-in-Ok-Purge c =
    let sent = rw c.in-Ok-Purge.field-0-is at c.in-Ok-Purge.ensures in
    post_as _ _ _ (accept_purge _ _ (sym c.kind.ensures ∙ sym sent)) (post_still _ _ _ (purge_still _ _) c.on_purge.ensures)

pub returns-in-Ok-Busy : goal.returns-in-Ok-Busy
returns-in-Ok-Busy c =
    let sent = rw c.in-Ok-Busy.field-0-is at c.in-Ok-Busy.ensures in
    post_as _ _ _ (accept_busy _ _ (sym c.kind.ensures ∙ sym sent)) (post_still _ _ _ (busy_still _ _) c.on_busy.ensures)

pub returns-in-Ok-Done : goal.returns-in-Ok-Done
returns-in-Ok-Done c =
    let sent = rw c.in-Ok-Done.field-0-is at c.in-Ok-Done.ensures in
    post_as _ _ _ (accept_done _ _ (sym c.kind.ensures ∙ sym sent)) (post_still _ _ _ (done_still _ _) c.on_done.ensures)

pub returns-in-Ok-WrittenSet : goal.returns-in-Ok-WrittenSet
returns-in-Ok-WrittenSet c =
    let sent = rw c.in-Ok-WrittenSet.field-0-is at c.in-Ok-WrittenSet.ensures in
    post_as _ _ _ (accept_set _ _ (sym c.kind.ensures ∙ sym sent)) (post_still _ _ _ (written_set_still _ _) c.on_written_set.ensures)
