-- `window::note` meets its contract.
use Rattle.window.proofs.note.Goals as goal

pub returns-in-Value : goal.returns-in-Value
returns-in-Value c = rw c.in-Value.is c.note_value.ensures

pub returns-in-Written : goal.returns-in-Written
returns-in-Written c = rw c.in-Written.is c.raise.ensures

pub returns-in-Committed : goal.returns-in-Committed
returns-in-Committed c = rw c.in-Committed.is c.note_commit.ensures

pub returns-in-Aborted : goal.returns-in-Aborted
returns-in-Aborted c = rw c.in-Aborted.is c.note_abort.ensures
