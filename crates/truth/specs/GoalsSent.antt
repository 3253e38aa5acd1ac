-- What the server sends and archives: the clauses `Owned` of one owner, and the archive's, under each event of the server.
use Rattle.std.specs.Prelude.{◌≡◌, Bool, true, false, ℕ}
use Rattle.line.specs.Messages.{Down, Page, Deescalate, Callback, Committed, Aborted, Invalidate, Sent, To}
use Rattle.truth.specs.Clauses.{is_committed}

-- 21 and 22
abbrev pub is_answer : Down → Bool
is_answer (Page l a t v u x) = false
is_answer (Deescalate p t) = false
is_answer (Callback r t set) = false
is_answer (Committed t n) = true
is_answer (Aborted t c) = true
is_answer (Invalidate d) = false

abbrev pub is_aborted : Down → Bool
is_aborted (Page l a t v u x) = false
is_aborted (Deescalate p t) = false
is_aborted (Callback r t set) = false
is_aborted (Committed t n) = false
is_aborted (Aborted t c) = true
is_aborted (Invalidate d) = false

abbrev pub sent_answer : Sent → Bool
sent_answer (To i m) = is_answer m

abbrev pub sent_committed : Sent → Bool
sent_committed (To i m) = is_committed m

abbrev pub sent_aborted : Sent → Bool
sent_aborted (To i m) = is_aborted m

abbrev pub sent_where : Sent → ℕ
sent_where (To i m) = i

abbrev pub Quiet : Sent → Type 0
Quiet e = sent_answer e ≡ false

-- the number and transaction that a 21 or 22 names
abbrev pub named : Down → ℕ
named (Page l a t v u x) = 0
named (Deescalate p t) = 0
named (Callback r t set) = 0
named (Committed t n) = t
named (Aborted t c) = t
named (Invalidate d) = 0

abbrev pub numbered : Down → ℕ
numbered (Page l a t v u x) = 0
numbered (Deescalate p t) = 0
numbered (Callback r t set) = 0
numbered (Committed t n) = n
numbered (Aborted t c) = c
numbered (Invalidate d) = 0

abbrev pub sent_what : Sent → Down
sent_what (To i m) = m
