-- Wish 5's sentences as rows of one table, computed: what an access to a window leaves of its registers, and what is read of them.
use Rattle.std.specs.Prelude.{ℕ, ◌≡◌, refl, Bool, true, false, cond, List, [], ◌∷◌, set, replicate, ltb}
use Rattle.std.proofs.Common.{ap, ◌∙◌}
use Rattle.le.specs.Le.{u16_at, u32_at, u64_at, set_u32, set_u64}
use Rattle.station_state.specs.Layout.{state_length, open_from, wait_from, kind, none_in, passing_whole}
use Rattle.station_state.specs.Valid.{fields_ok, own_kept, closed_ok, first_ok, works_ok, lockless_ok, holds_ok, fresh_state}
use Rattle.station_state.specs.Valid as Station
use Rattle.station_answer.specs.declared.Answer.{Answer}
use Rattle.station_answer.specs.declared.Answer.TheVariants.{Refused, Begun, Value, Waits, Written, Committed, Aborted, Nothing}
use Rattle.station_owner.specs.Owner.{ready}
use Rattle.message.specs.Commit.{station_room, commit_room}
use Rattle.window_state.specs.Layout.{registers}
use Rattle.window_state.specs.Registers.{registers_ok, valid, flag_if, flags_of, register_of, up, Read, reading, read_of, address_of, stores, stored_of, raise}
use Rattle.window.specs.Window.{Accessed, ready_w, noted_value, noted_commit, noted_abort, noted, is_command, shown, stays, refused, command_of, write_of}

-- ROWS

-- registers by their place, all others 0
pub data Byte : Type 0 where
  At : ℕ → ℕ → Byte

abbrev pub window : List Byte → List ℕ
window [] = replicate registers 0
window (At k b ∷ l) = set (window l) k b

-- what happens at a window: a byte is stored, or a command or a message is answered by the station
pub data Event : Type 0 where
  Stored : ℕ → ℕ → Event
  Command : Answer → Event
  Message : Answer → Event

abbrev pub after : Event → List ℕ → List ℕ
after (Stored k b) r = stored_of k b r
after (Command a) r = shown a r
after (Message a) r = noted a r

pub data Case : Type 0 where
  Leaves : List Byte → Event → List Byte → Case  -- registers before, what happens, registers behind it
  Shows : List Byte → ℕ → ℕ → ℕ → Case  -- registers; the station's `open` and `wait`; what register 16 reads
  Interrupts : List Byte → ℕ → ℕ → Bool → Case  -- the same, and whether the interrupt is up
  Names : List Byte → ℕ → Case  -- registers; the address that a command takes, 256 for none
  Reads : List Byte → List ℕ → ℕ → Read → Case  -- registers, state, offset; what is read where 7 is lent
  Writes : List Byte → List ℕ → ℕ → ℕ → Answer → List Byte → Case  -- registers, state, offset, byte; what is said, registers behind it

-- a state of which the flags alone count
abbrev pub at : ℕ → ℕ → List ℕ
at o w = set (set (replicate state_length 0) open_from o) wait_from w

abbrev pub output : List ℕ
output = replicate station_room 0

abbrev pub commit_output : List ℕ
commit_output = replicate commit_room 0

pub data Holds : Case → Type 0 where
  leaves : {b c : List Byte} {e : Event} → after e (window b) ≡ window c → Holds (Leaves b e c)
  shows : {b : List Byte} {o w f : ℕ} → flags_of (window b) (at o w) ≡ f → Holds (Shows b o w f)
  interrupts : {b : List Byte} {o w : ℕ} {u : Bool} → up (window b) (at o w) ≡ u → Holds (Interrupts b o w u)
  names : {b : List Byte} {a : ℕ} → address_of (window b) ≡ a → Holds (Names b a)
  reads : {b : List Byte} {s : List ℕ} {k : ℕ} {x : Read} → read_of k (window b) s 7 ≡ x → Holds (Reads b s k x)
  writes : {b c : List Byte} {s : List ℕ} {k x : ℕ} {a : Answer} → (write_of k x (window b) s output commit_output).outcome.said.answer ≡ a
      → (write_of k x (window b) s output commit_output).registers ≡ window c → Holds (Writes b s k x a c)

abbrev pub AllHold : List Case → Type 0
AllHold [] = Unit {0}
AllHold (c ∷ cs) = Holds c × AllHold cs

-- THE TABLE

-- page 1, object 0; value 258; done and aborted; a mask
abbrev busy : List Byte
busy = At 0 1 ∷ At 3 8 ∷ At 4 2 ∷ At 5 1 ∷ At 12 9 ∷ At 16 12 ∷ At 17 8 ∷ []

unfoldable pub stored : List Case
stored =
    -- "Registers 0–1 are page and object", "Registers 4–11 are the value", "the mask in register 17": any byte
    Leaves [] (Stored 0 200) (At 0 200 ∷ [])
    ∷ Leaves [] (Stored 1 9) (At 1 9 ∷ [])
    ∷ Leaves [] (Stored 4 255) (At 4 255 ∷ [])
    ∷ Leaves [] (Stored 11 255) (At 11 255 ∷ [])
    ∷ Leaves [] (Stored 17 255) (At 17 255 ∷ [])
    -- "a one written to either clears it": it alone
    ∷ Leaves (At 16 12 ∷ []) (Stored 16 4) (At 16 8 ∷ [])
    ∷ Leaves (At 16 12 ∷ []) (Stored 16 8) (At 16 4 ∷ [])
    ∷ Leaves (At 16 12 ∷ []) (Stored 16 255) []
    -- .. and a zero leaves it; "other flag bits ignore writes"; nothing rises by a write
    ∷ Leaves (At 16 12 ∷ []) (Stored 16 243) (At 16 12 ∷ [])
    ∷ Leaves [] (Stored 16 255) []
    -- "Registers 18–31 .., read-only registers .. ignore writes"
    ∷ Leaves busy (Stored 3 1) busy
    ∷ Leaves busy (Stored 12 1) busy
    ∷ Leaves busy (Stored 15 1) busy
    ∷ Leaves busy (Stored 18 1) busy
    ∷ Leaves busy (Stored 31 1) busy
    ∷ []

unfoldable pub answered : List Case
answered =
    -- "3 the last command's refusal or 0 .. all else stays as before"
    Leaves busy (Command (Refused 7)) (At 3 7 ∷ busy)
    ∷ Leaves busy (Command Waits) (At 3 0 ∷ busy)
    -- "Done rises when read, write or commit succeeds"; the value is the read's
    ∷ Leaves [] (Command (Value 258)) (At 4 2 ∷ At 5 1 ∷ At 16 4 ∷ [])
    ∷ Leaves [] (Command Written) (At 16 4 ∷ [])
    -- an owner's abort and begin raise nothing
    ∷ Leaves [] (Command (Begun 3)) []
    ∷ Leaves (At 16 4 ∷ []) (Command (Aborted 0)) (At 16 4 ∷ [])
    -- a late answer
    ∷ Leaves (At 16 8 ∷ []) (Message (Value 1)) (At 4 1 ∷ At 16 12 ∷ [])
    ∷ Leaves [] (Message Written) (At 16 4 ∷ [])
    -- "12–15 the commit number"
    ∷ Leaves [] (Message (Committed 258)) (At 12 2 ∷ At 13 1 ∷ At 16 4 ∷ [])
    -- "aborted when server or 23 ends the transaction"; register 3 stays as it was
    ∷ Leaves (At 3 7 ∷ At 4 5 ∷ []) (Message (Aborted 2)) (At 3 7 ∷ At 4 5 ∷ At 16 8 ∷ [])
    ∷ Leaves [] (Message (Aborted 1)) (At 16 8 ∷ [])
    -- a message that tells nothing, and one that is refused
    ∷ Leaves busy (Message Nothing) busy
    ∷ Leaves busy (Message (Refused 6)) busy
    ∷ []

unfoldable pub looked : List Case
looked =
    -- "bit 0 open, bit 1 waiting, bit 2 done, bit 3 aborted"
    Shows [] 0 0 0
    ∷ Shows [] 1 0 1
    ∷ Shows [] 1 2 3
    ∷ Shows (At 16 4 ∷ []) 0 0 4
    ∷ Shows (At 16 8 ∷ []) 1 3 11
    -- "The interrupt is up exactly while flags and the mask in register 17 share a bit"; bits 4 to 7 of the mask have no effect
    ∷ Interrupts (At 17 255 ∷ []) 0 0 false
    ∷ Interrupts (At 17 1 ∷ []) 1 0 true
    ∷ Interrupts (At 17 14 ∷ []) 1 0 false
    ∷ Interrupts (At 17 2 ∷ []) 1 1 true
    ∷ Interrupts (At 16 4 ∷ At 17 4 ∷ []) 0 0 true
    ∷ Interrupts (At 16 8 ∷ At 17 4 ∷ []) 0 0 false
    ∷ Interrupts (At 16 12 ∷ At 17 240 ∷ []) 1 1 false
    -- page above 31 or object above 7: no address, which is number 4
    ∷ Names (At 0 1 ∷ At 1 2 ∷ []) 10
    ∷ Names (At 0 31 ∷ At 1 7 ∷ []) 255
    ∷ Names (At 0 32 ∷ []) 256
    ∷ Names (At 1 8 ∷ []) 256
    ∷ []

-- a validating station and a locking one, fresh
abbrev pub validating : List ℕ
validating = fresh_state 0 1

abbrev pub locking : List ℕ
locking = fresh_state 0 0

unfoldable pub accesses : List Case
accesses =
    -- "16, Register: an offset above 31, checked after 1, which a locking station's state gets too"
    Reads [] validating 31 (reading 0 0)
    ∷ Reads busy validating 32 (reading 7 16)
    ∷ Reads busy locking 32 (reading 7 1)
    ∷ Reads (At 18 1 ∷ []) validating 18 (reading 7 1)
    ∷ Reads (At 16 1 ∷ []) validating 0 (reading 7 1)
    ∷ Writes busy validating 32 1 (Refused 16) busy
    ∷ Writes busy locking 32 1 (Refused 1) busy
    -- "another value is only stored"
    ∷ Writes busy validating 2 6 Nothing (At 2 6 ∷ busy)
    ∷ Writes busy validating 2 0 Nothing busy
    ∷ []

pub stored_holds : AllHold stored
unfolding stored stored_of stores
stored_holds = (leaves refl, (leaves refl, (leaves refl, (leaves refl, (leaves refl, (leaves refl, (leaves refl, (leaves refl, (leaves refl, (leaves refl, (leaves refl, (leaves refl, (leaves refl, (leaves refl, (leaves refl, tt)))))))))))))))

pub answered_hold : AllHold answered
unfolding answered shown noted_value noted_commit noted_abort raise set_u32 set_u64
answered_hold = (leaves refl, (leaves refl, (leaves refl, (leaves refl, (leaves refl, (leaves refl, (leaves refl, (leaves refl, (leaves refl, (leaves refl, (leaves refl, (leaves refl, (leaves refl, tt)))))))))))))

pub looked_hold : AllHold looked
unfolding looked flags_of flag_if up address_of
looked_hold = (shows refl, (shows refl, (shows refl, (shows refl, (shows refl, (interrupts refl, (interrupts refl, (interrupts refl, (interrupts refl, (interrupts refl, (interrupts refl, (interrupts refl, (names refl, (names refl, (names refl, (names refl, tt))))))))))))))))

-- number 1 of the two states, and of the output, computed once
validating_valid : Station.valid validating ≡ true
unfolding Station.valid fields_ok own_kept works_ok closed_ok first_ok holds_ok lockless_ok passing_whole none_in fresh_state u32_at u64_at
validating_valid = refl

locking_valid : Station.valid locking ≡ true
unfolding Station.valid fields_ok own_kept works_ok closed_ok first_ok holds_ok lockless_ok passing_whole none_in fresh_state u32_at u64_at
locking_valid = refl

validating_kind : kind validating ≡ 1
unfolding fresh_state
validating_kind = refl

locking_kind : kind locking ≡ 0
unfolding fresh_state
locking_kind = refl

validating_ready : ready validating output commit_output ≡ true
unfolding ready
validating_ready = rw validating_valid

locking_ready : ready locking output commit_output ≡ true
unfolding ready
locking_ready = rw locking_valid

-- a read and a write by the window's own checks
validating_read : (b : List Byte) (k : ℕ) (x : Read) → cond (registers_ok (window b)) (cond (ltb k registers) (reading (register_of (window b) validating k) 0) (reading 7 16)) (reading 7 1) ≡ x
    → Holds (Reads b validating k x)
unfolding read_of valid
validating_read b k x e = reads {b = b} {s = validating} {k = k} {x = x} (rw (validating_valid, validating_kind) e)

locking_read : (b : List Byte) (k : ℕ) → Holds (Reads b locking k (reading 7 1))
unfolding read_of valid
locking_read b k = reads {b = b} {s = locking} {k = k} {x = reading 7 1} (rw (locking_valid, locking_kind))

validating_write : (b : List Byte) → registers_ok (window b) ≡ true → ready_w (window b) validating output commit_output ≡ true
unfolding ready_w
validating_write b e = rw (validating_ready, validating_kind, e)

locking_write : (b : List Byte) → ready_w (window b) locking output commit_output ≡ false
unfolding ready_w
locking_write b = rw (locking_ready, locking_kind)

above : (b : List Byte) (k x : ℕ) → registers_ok (window b) ≡ true → ltb k registers ≡ false → write_of k x (window b) validating output commit_output ≡ refused 16 (window b) validating output commit_output
unfolding write_of
above b k x e f = rw (validating_write b e, f)

turned : (b : List Byte) (k x : ℕ) → write_of k x (window b) locking output commit_output ≡ refused 1 (window b) locking output commit_output
unfolding write_of
turned b k x = rw (locking_write b)

other : (b : List Byte) (x : ℕ) → registers_ok (window b) ≡ true → is_command x ≡ false → write_of 2 x (window b) validating output commit_output ≡ stays (set (window b) 2 x) validating output commit_output
unfolding write_of command_of
other b x e f = rw (validating_write b e, f)

writes_as : {b c : List Byte} {s : List ℕ} {k x : ℕ} (a : Answer) {y : Accessed} → write_of k x (window b) s output commit_output ≡ y → y.outcome.said.answer ≡ a → y.registers ≡ window c → Holds (Writes b s k x a c)
writes_as a e f g = writes (ap (λ (y : Accessed). y.outcome.said.answer) e ∙ f) (ap (λ (y : Accessed). y.registers) e ∙ g)

pub accesses_hold : AllHold accesses
unfolding accesses registers_ok register_of u16_at u32_at u64_at
accesses_hold =
    (validating_read [] 31 (reading 0 0) refl, (validating_read busy 32 (reading 7 16) refl, (locking_read busy 32, (validating_read (At 18 1 ∷ []) 18 (reading 7 1) refl, (validating_read (At 16 1 ∷ []) 0 (reading 7 1) refl, (writes_as (Refused 16) (above busy 32 1 refl refl) refl refl, (writes_as (Refused 1) (turned busy 32 1) refl refl, (writes_as Nothing (other busy 6 refl refl) refl refl, (writes_as Nothing (other busy 0 refl refl) refl refl, tt)))))))))
