-- What the code's tests tell: answers that are no refusal, and number 1; and what an access leaves, by its branches.
use Rattle.std.specs.Prelude.{ℕ, ◌<◌, ◌≤◌, ◌≡◌, refl, ◌≢◌, true, false, List, length, set, eqb}
use Rattle.std.proofs.Common.{ap}
use borrow.Author.Tests.{eq-eqb, ne_eqb, lt-ltb, le-ltb}
use Rattle.lists.specs.Tests.{and_r}
use Rattle.station_state.specs.Layout.{state_length, kind}
use Rattle.station_answer.specs.declared.Answer.{Answer}
use Rattle.station_answer.specs.declared.Answer.TheVariants.{Refused, Begun, Value, Waits, Written, Committed, Aborted, Purged, Nothing}
use Rattle.station_answer.specs.declared.Said.{Said}
use Rattle.station_answer.specs.Did.{said, Outcome, outcome}
use Rattle.station_owner.specs.Owner.{ready, called}
use Rattle.station_owner.specs.Facts.{ready_is}
use Rattle.station.specs.Station.{station_step_b}
use Rattle.window_state.specs.Layout.{command_from, registers}
use Rattle.window_state.specs.Registers.{registers_ok, stored_of}
use Rattle.window_state.specs.Facts.{registers_are}
use Rattle.window.specs.Window.{accessed, ready_w, refusal_of, noted, is_command, performed, taken_as, taken_said, shown, command_of, write_of, step_of}

-- ANSWERS

abbrev pub NoRefusal : Answer → Type 0
NoRefusal a = (n : ℕ) → a ≢ Refused n

pub refusal_none : (a : Answer) → NoRefusal a → refusal_of a ≡ 0
refusal_none (Refused n) h = absurd (h n refl)
refusal_none (Begun t) h = refl
refusal_none (Value v) h = refl
refusal_none Waits h = refl
refusal_none Written h = refl
refusal_none (Committed n) h = refl
refusal_none (Aborted c) h = refl
refusal_none Purged h = refl
refusal_none Nothing h = refl

pub taken_none : (a : Answer) → NoRefusal a → taken_as a ≡ a
taken_none (Refused n) h = absurd (h n refl)
taken_none (Begun t) h = refl
taken_none (Value v) h = refl
taken_none Waits h = refl
taken_none Written h = refl
taken_none (Committed n) h = refl
taken_none (Aborted c) h = refl
taken_none Purged h = refl
taken_none Nothing h = refl

-- NUMBER 1

pub ready_size : (s o c : List ℕ) → ready s o c ≡ true → length s ≡ state_length
ready_size s o c h = (ready_is s o c h).size

pub window_size : (r s o c : List ℕ) → ready_w r s o c ≡ true → length r ≡ registers
unfolding ready_w
window_size r s o c h = (registers_are r (and_r (eqb (kind s) 1) (registers_ok r) (and_r (ready s o c) _ h))).size

-- A COMMAND

module _ (b : ℕ) (r s o c : List ℕ) {k : List ℕ} (stored : k ≡ set r command_from b) where
  pub command_none : {x : Said} → is_command b ≡ false → x ≡ said Nothing 0 0 → accessed k (outcome s o c x) ≡ command_of b r s o c
  unfolding command_of
  command_none e f = rw (e, f, stored)

  pub command_done : {s' o' c' r' : List ℕ} {x y : Said} → is_command b ≡ true → outcome s' o' c' x ≡ performed b k s o c
      → r' ≡ shown x.answer k → y ≡ taken_said x → accessed r' (outcome s' o' c' y) ≡ command_of b r s o c
  unfolding command_of
  command_done e f g h = rw (e, ← stored, ← f, g, h)

-- AN ACCESS

module _ (r s o c : List ℕ) where
  module _ (k b : ℕ) where
    pub write_1 : {x : Said} → ready_w r s o c ≡ false → x ≡ said (Refused 1) 0 0 → accessed r (outcome s o c x) ≡ write_of k b r s o c
    unfolding write_of
    write_1 e f = rw (e, f)

    pub write_16 : {x : Said} → ready_w r s o c ≡ true → registers ≤ k → x ≡ said (Refused 16) 0 0 → accessed r (outcome s o c x) ≡ write_of k b r s o c
    unfolding write_of
    write_16 e l f = rw (e, le-ltb k registers l, f)

    pub write_command : {r' s' o' c' : List ℕ} {x : Said} → ready_w r s o c ≡ true → k < registers → k ≡ command_from
        → accessed r' (outcome s' o' c' x) ≡ command_of b r s o c → accessed r' (outcome s' o' c' x) ≡ write_of k b r s o c
    unfolding write_of
    write_command e l q f = rw (e, lt-ltb k registers l, eq-eqb k command_from q) f

    pub write_store : {r' : List ℕ} {x : Said} → ready_w r s o c ≡ true → k < registers → k ≢ command_from
        → r' ≡ stored_of k b r → x ≡ said Nothing 0 0 → accessed r' (outcome s o c x) ≡ write_of k b r s o c
    unfolding write_of
    write_store e l q f g = rw (e, lt-ltb k registers l, ne_eqb k command_from q, f, g)

  module _ (m : List ℕ) where
    pub step_1 : {x : Said} → ready_w r s o c ≡ false → x ≡ said (Refused 1) 0 0 → accessed r (outcome s o c x) ≡ step_of m r s o c
    unfolding step_of
    step_1 e f = rw (e, f)

    pub step_done : {r' s' o' c' : List ℕ} {x : Said} → ready_w r s o c ≡ true → outcome s' o' c' x ≡ called s o c (station_step_b m s)
        → r' ≡ noted x.answer r → accessed r' (outcome s' o' c' x) ≡ step_of m r s o c
    unfolding step_of
    step_done e f g = rw (e, g) (ap (λ (z : Outcome). accessed (noted z.said.answer r) z) f)
