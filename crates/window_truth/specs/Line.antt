-- The whole line with windows: document 02, wish 5. A line as its hosts run it (crate line_host), 32 registers beside each station's state, and
-- calls of wax_window_read, .._write, .._step and .._interrupt beside the calls of before. Nothing is said of which station stands behind a
-- window: one may be called both ways, and a locking one is turned back by number 1.
use Rattle.std.specs.Prelude.{ℕ, ◌<◌, cond, List, [], ◌∷◌, ◌++◌, eqb, ltb}
use Rattle.sets.specs.Base.{upd}
use Rattle.message.specs.Layout.{kind_of}
use Rattle.line_bytes.specs.Bytes.{WorldB, tell_b, rest_down}
use Rattle.line_host.specs.Line.{OpH, BeginH, ReadH, WriteH, CommitH, AbortH, operation, answer_in, carry_up_h, CallH, FitsH, Event, Ended, EndedByOwner, told_by, ended, WorldH, fresh_h, act_h}
use Rattle.window_state.specs.Layout.{value}
use Rattle.window_state.specs.Registers.{address_of}
use Rattle.window.specs.Window.{write_of, step_of}
use Rattle.window_host.specs.Host.{Windowed, window_of}
use Rattle.window_meaning.specs.Keeps.{fresh_registers}

-- THE FUNCTIONS: what each leaves of all that is lent to it, as its contract says (crates/window_host/src/lib.rt)

-- wax_window_write: offset, byte, registers, state; messages, commit, told
abbrev pub write_hosted : ℕ → ℕ → List ℕ → List ℕ → List ℕ → List ℕ → List ℕ → Windowed
write_hosted k b r s o c t = window_of r s o c t (write_of k b r s o c)

-- wax_window_step: message, registers, state; messages, commit, told
abbrev pub step_hosted : List ℕ → List ℕ → List ℕ → List ℕ → List ℕ → List ℕ → Windowed
step_hosted m r s o c t = window_of r s o c t (step_of m r s o c)

-- what the owner asks for by command b: "1 begin, 2 read, 3 write, 4 commit, 5 abort"
abbrev pub op_of : ℕ → List ℕ → OpH
op_of b r = cond (eqb b 1) BeginH (cond (eqb b 2) (ReadH (address_of r)) (cond (eqb b 3) (WriteH (address_of r) (value r)) (cond (eqb b 4) CommitH AbortH)))

-- THE CALLS

pub data CallW : Type 0 where
  HostW : CallH → CallW  -- a call of before: of the server, or of a station
  ReadW : ℕ → ℕ → ℕ → CallW  -- station, offset; a byte lent
  InterruptW : ℕ → ℕ → CallW  -- station; a byte lent
  WriteW : ℕ → ℕ → ℕ → List ℕ → List ℕ → List ℕ → CallW  -- station, offset, byte; lent for messages, for a commit, told
  StepW : ℕ → List ℕ → List ℕ → List ℕ → CallW  -- wax_window_step on the first message of its down line; lent for messages, for a commit, told

-- an argument is a number of its type: what is written is a byte
abbrev pub FitsW : CallW → Type 0
FitsW (HostW c) = FitsH c
FitsW (ReadW i k b) = Unit {0}
FitsW (InterruptW i b) = Unit {0}
FitsW (WriteW i k b o c t) = b < 256
FitsW (StepW i o c t) = Unit {0}

abbrev pub AllFitW : List CallW → Type 0
AllFitW [] = Unit {0}
AllFitW (c ∷ cs) = FitsW c × AllFitW cs

-- THE LINE

pub record WorldW : Type 0 where
  pub hosts : WorldH  -- the line and its history
  pub registers : ℕ → List ℕ  -- each station's, as its last access left them

-- a fresh line, and windows that nobody has used
abbrev pub fresh_w : List ℕ → WorldW
fresh_w kinds = record { hosts = fresh_h kinds; registers = λ i. fresh_registers }

-- A WRITE: what was left is carried, and the owner is told the command's answer, which its registers show (`command-own`)

unfoldable pub writes_w : ℕ → ℕ → ℕ → List ℕ → List ℕ → List ℕ → List ℕ → WorldB → WorldB
writes_w i k b o c t r w = let h = (write_hosted k b r (w.station i) o c t).hosted in tell_b i (operation (op_of b r)) (answer_in h.told) (carry_up_h i h w)

abbrev pub write_events : ℕ → ℕ → ℕ → List ℕ → List ℕ → List ℕ → List ℕ → WorldB → List Event
write_events i k b o c t r w =
    let h = (write_hosted k b r (w.station i) o c t).hosted in
    told_by i (operation (op_of b r)) (w.number i) (answer_in h.told) ++ ended (EndedByOwner i) (w.station i) h.state

-- A DELIVERY: "an accepted step takes the first message of its line, a refused call moves none"; no message, no call

unfoldable pub takes_w : ℕ → List (List ℕ) → List ℕ → List ℕ → List ℕ → List ℕ → WorldB → WorldB
takes_w i [] o c t r w = w
takes_w i (m ∷ l) o c t r w =
    let h = (step_hosted m r (w.station i) o c t).hosted in
    tell_b i (w.asked i) (answer_in h.told) (carry_up_h i h (cond (eqb h.told.number 0) (rest_down i l w) w))

abbrev pub step_events : ℕ → List (List ℕ) → List ℕ → List ℕ → List ℕ → List ℕ → WorldB → List Event
step_events i [] o c t r w = []
step_events i (m ∷ l) o c t r w = ended (λ n. Ended i n (kind_of m)) (w.station i) (step_hosted m r (w.station i) o c t).hosted.state

abbrev pub stepped_registers : List (List ℕ) → List ℕ → List ℕ → List ℕ → List ℕ → List ℕ → List ℕ
stepped_registers [] o c t r s = r
stepped_registers (m ∷ l) o c t r s = (step_hosted m r s o c t).registers

-- A CALL

abbrev pub happened : WorldH → WorldB → List Event → (ℕ → List ℕ) → WorldW
happened h w es rs = record { hosts = record { line = w; history = h.history ++ es }; registers = rs }

unfoldable pub write_w : ℕ → ℕ → ℕ → List ℕ → List ℕ → List ℕ → WorldW → WorldW
write_w i k b o c t w =
    let l = w.hosts.line in
    let r = w.registers i in
    happened w.hosts (writes_w i k b o c t r l) (write_events i k b o c t r l) (upd w.registers i (write_hosted k b r (l.station i) o c t).registers)

unfoldable pub step_w : ℕ → List ℕ → List ℕ → List ℕ → WorldW → WorldW
step_w i o c t w =
    let l = w.hosts.line in
    let r = w.registers i in
    happened w.hosts (takes_w i (l.down i) o c t r l) (step_events i (l.down i) o c t r l) (upd w.registers i (stepped_registers (l.down i) o c t r (l.station i)))

-- "Stations 0 to 7"; what is read changes nothing
unfoldable pub act_w : CallW → WorldW → WorldW
act_w (HostW c) w = record { hosts = act_h c w.hosts; registers = w.registers }
act_w (ReadW i k b) w = w
act_w (InterruptW i b) w = w
act_w (WriteW i k b o c t) w = cond (ltb i 8) (write_w i k b o c t w) w
act_w (StepW i o c t) w = cond (ltb i 8) (step_w i o c t w) w

-- any list of calls
unfoldable pub run_w : List CallW → WorldW → WorldW
run_w [] w = w
run_w (c ∷ cs) w = run_w cs (act_w c w)
