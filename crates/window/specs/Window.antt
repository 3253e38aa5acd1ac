-- Document 02, wish 5: what a write to a register does, and a message that is delivered. "Each command and message gives exactly the value,
-- refusal, messages and state of the station's own step": what the station does is cited from its own operations; here is what the
-- registers show of it.
use Rattle.std.specs.Prelude.{ℕ, ◌%◌, List, Bool, ◌&&◌, cond, set, eqb, ltb, leb}
use Rattle.le.specs.Le.{set_u32, set_u64}
use Rattle.station_state.specs.Layout.{kind}
use Rattle.station_answer.specs.declared.Answer.{Answer}
use Rattle.station_answer.specs.declared.Answer.TheVariants.{Refused, Begun, Value, Waits, Written, Committed, Aborted, Purged, Nothing}
use Rattle.station_answer.specs.declared.Said.{Said}
use Rattle.station_answer.specs.Did.{said, Outcome, outcome}
use Rattle.station_owner.specs.Owner.{ready, called, commit_called, own_begin_b, own_read_b, own_write_b, own_abort_b}
use Rattle.station.specs.Station.{station_step_b}
use Rattle.window_state.specs.Layout.{command_from, refusal_from, value_from, commit_from, registers, value, done_flag, aborted_flag}
use Rattle.window_state.specs.Registers.{registers_ok, address_of, stored_of, raise}

-- registers afterwards, and state, buffers and what is said
pub record Accessed : Type 0 where
  pub registers : List ℕ
  pub outcome : Outcome

abbrev pub accessed : List ℕ → Outcome → Accessed
accessed r x = record { registers = r; outcome = x }

-- number 1: registers r, state s, output o and c
unfoldable pub ready_w : List ℕ → List ℕ → List ℕ → List ℕ → Bool
ready_w r s o c = ready s o c && (eqb (kind s) 1 && registers_ok r)

-- WHAT REGISTERS SHOW OF AN ANSWER

-- "the last command's refusal or 0"
abbrev pub refusal_of : Answer → ℕ
refusal_of (Refused n) = n
refusal_of (Begun t) = 0
refusal_of (Value v) = 0
refusal_of Waits = 0
refusal_of Written = 0
refusal_of (Committed n) = 0
refusal_of (Aborted c) = 0
refusal_of Purged = 0
refusal_of Nothing = 0

-- "aborted when server or 23 ends the transaction": cause 0 is the owner's own abort
unfoldable pub noted_abort : ℕ → List ℕ → List ℕ
noted_abort c r = cond (eqb c 0) r (raise aborted_flag r)

unfoldable pub noted_value : ℕ → List ℕ → List ℕ
noted_value v r = raise done_flag (set_u64 r value_from v)

unfoldable pub noted_commit : ℕ → List ℕ → List ℕ
noted_commit n r = raise done_flag (set_u32 r commit_from n)

-- "Done rises when read, write or commit succeeds"
abbrev pub noted : Answer → List ℕ → List ℕ
noted (Refused n) r = r
noted (Begun t) r = r
noted (Value v) r = noted_value v r
noted Waits r = r
noted Written r = raise done_flag r
noted (Committed n) r = noted_commit n r
noted (Aborted c) r = noted_abort c r
noted Purged r = r
noted Nothing r = r

-- COMMANDS: "1 begin, 2 read, 3 write, 4 commit, 5 abort; another value is only stored"

abbrev pub is_command : ℕ → Bool
is_command b = leb 1 b && leb b 5

-- the station's own operation
unfoldable pub performed : ℕ → List ℕ → List ℕ → List ℕ → List ℕ → Outcome
performed b r s o c =
    cond (eqb b 1) (called s o c (own_begin_b s))
    (cond (eqb b 2) (called s o c (own_read_b (address_of r) s))
    (cond (eqb b 3) (called s o c (own_write_b (address_of r) (value r) s))
    (cond (eqb b 4) (commit_called s o c) (called s o c (own_abort_b s)))))

-- "(the register write is then accepted: registers 2 and 3 take it, all else stays as before)"
abbrev pub taken_as : Answer → Answer
taken_as (Refused n) = Nothing
taken_as (Begun t) = Begun t
taken_as (Value v) = Value v
taken_as Waits = Waits
taken_as Written = Written
taken_as (Committed n) = Committed n
taken_as (Aborted c) = Aborted c
taken_as Purged = Purged
taken_as Nothing = Nothing

abbrev pub taken_said : Said → Said
taken_said x = said (taken_as x.answer) x.messages x.commit

-- registers once a command is answered; every number of documents 01 and 02 is one byte
unfoldable pub shown : Answer → List ℕ → List ℕ
shown a r = noted a (set r refusal_from (refusal_of a % 256))

-- .. and all that is lent; r has the command already
abbrev pub commanded : List ℕ → Outcome → Accessed
commanded r x = accessed (shown x.said.answer r) (outcome x.state x.messages x.commit (taken_said x.said))

-- nothing but registers
abbrev pub stays : List ℕ → List ℕ → List ℕ → List ℕ → Accessed
stays r s o c = accessed r (outcome s o c (said Nothing 0 0))

unfoldable pub command_of : ℕ → List ℕ → List ℕ → List ℕ → List ℕ → Accessed
command_of b r s o c =
    let k = set r command_from b in
    cond (is_command b) (commanded k (performed b k s o c)) (stays k s o c)

-- ACCESS

abbrev pub refused : ℕ → List ℕ → List ℕ → List ℕ → List ℕ → Accessed
refused n r s o c = accessed r (outcome s o c (said (Refused n) 0 0))

-- byte b is written to register k
unfoldable pub write_of : ℕ → ℕ → List ℕ → List ℕ → List ℕ → List ℕ → Accessed
write_of k b r s o c =
    cond (ready_w r s o c)
    (cond (ltb k registers) (cond (eqb k command_from) (command_of b r s o c) (stays (stored_of k b r) s o c)) (refused 16 r s o c))
    (refused 1 r s o c)

-- message m is delivered: where the station refuses it, `noted` leaves the registers
unfoldable pub step_of : List ℕ → List ℕ → List ℕ → List ℕ → List ℕ → Accessed
step_of m r s o c =
    cond (ready_w r s o c)
    (let x = called s o c (station_step_b m s) in accessed (noted x.said.answer r) x)
    (refused 1 r s o c)
