-- "Each command and message gives exactly the value, refusal, messages and state of the station's own step": what is left beside the registers
-- is what the station's own call leaves, and the registers show its answer.
use Rattle.std.specs.Prelude.{ℕ, ◌+◌, ◌%◌, ◌^◌, ◌≤◌, ◌<◌, ◌≡◌, Bool, true, false, not, ◌||◌, List, eqb}
use Rattle.std.proofs.Math.Nat.{mod-eq_of_lt}
use Rattle.std.proofs.Math.Path.{refl, ap}
use Rattle.std.proofs.Common.{sym, ◌∙◌, inl, inr, arith}
use Rattle.std.proofs.Math.ListN.{length, get_or, set, length-set}
use Rattle.std.proofs.Math.Seq.{sets, length-sets, get_or-set_same, get_or-set_other}
use Rattle.sets.specs.Laws.{by_eq}
use Rattle.le.specs.Le.{u64_at}
use Rattle.le.specs.Laws.{u32_at_is, u64_at_is, set_u32_is}
use Rattle.le.specs.Width.{bytes}
use Rattle.cells.specs.Num.{AllBytes}
use Rattle.cells.proofs.Num.{put_other, num_put, num_frame, num_lt}
use Rattle.cells.proofs.Le.{set_u64_is}
use Rattle.cells.specs.Bits.{tb}
use Rattle.station_state.specs.Layout.{has_bit}
use Rattle.station_answer.specs.declared.Answer.{Answer}
use Rattle.station_answer.specs.declared.Answer.TheVariants.{Refused, Begun, Value, Waits, Written, Committed, Aborted, Purged, Nothing}
use Rattle.station_answer.specs.Did.{Outcome}
use Rattle.station_owner.specs.Owner.{called}
use Rattle.station.specs.Station.{station_step_b}
use Rattle.window_state.specs.Layout.{command_from, refusal_from, value_from, commit_from, flags_from, registers, refusal, value, commit, raised, done_flag, aborted_flag}
use Rattle.window_state.specs.Registers.{raise}
use Rattle.window.specs.Window.{ready_w, refusal_of, noted_value, noted_commit, noted_abort, noted, is_command, performed, shown, command_of, write_of, step_of}
use Rattle.window.specs.Facts.{window_size}
use Rattle.window_meaning.specs.Flags.{bit_tb}
use Rattle.window_meaning.specs.Changes.{raise_bits, raise_other}
use Rattle.window_meaning.specs.Writes.{OwnerSays, performed_says}

-- THE ANSWER IN THE REGISTERS: r before, t after

-- the numbers of an answer, each of its type: a value has 64 bits, a commit number 32
abbrev pub Fits : Answer → Type 0
Fits (Refused n) = Unit {0}
Fits (Begun t) = Unit {0}
Fits (Value v) = v < 2 ^ 64
Fits Waits = Unit {0}
Fits Written = Unit {0}
Fits (Committed n) = n < 2 ^ 32
Fits (Aborted c) = Unit {0}
Fits Purged = Unit {0}
Fits Nothing = Unit {0}

abbrev pub value_after : Answer → ℕ → ℕ
value_after (Refused n) v = v
value_after (Begun t) v = v
value_after (Value x) v = x
value_after Waits v = v
value_after Written v = v
value_after (Committed n) v = v
value_after (Aborted c) v = v
value_after Purged v = v
value_after Nothing v = v

abbrev pub commit_after : Answer → ℕ → ℕ
commit_after (Refused n) k = k
commit_after (Begun t) k = k
commit_after (Value x) k = k
commit_after Waits k = k
commit_after Written k = k
commit_after (Committed n) k = n
commit_after (Aborted c) k = k
commit_after Purged k = k
commit_after Nothing k = k

-- "Done rises when read, write or commit succeeds"
abbrev pub succeeds : Answer → Bool
succeeds (Refused n) = false
succeeds (Begun t) = false
succeeds (Value x) = true
succeeds Waits = false
succeeds Written = true
succeeds (Committed n) = true
succeeds (Aborted c) = false
succeeds Purged = false
succeeds Nothing = false

-- "aborted when server or 23 ends the transaction": cause 0 is the owner's own
abbrev pub ends : Answer → Bool
ends (Refused n) = false
ends (Begun t) = false
ends (Value x) = false
ends Waits = false
ends Written = false
ends (Committed n) = false
ends (Aborted c) = not (eqb c 0)
ends Purged = false
ends Nothing = false

pub record Shows (a : Answer) (r t : List ℕ) : Type 0 where
  pub value_is : value t ≡ value_after a (value r)
  pub commit_is : commit t ≡ commit_after a (commit r)
  pub done_is : has_bit (raised t) 2 ≡ (has_bit (raised r) 2 || succeeds a)
  pub aborted_is : has_bit (raised t) 3 ≡ (has_bit (raised r) 3 || ends a)

pub value_same : (r t : List ℕ) → ((j : ℕ) → value_from ≤ j → j < value_from + 8 → get_or t j 0 ≡ get_or r j 0) → value t ≡ value r
value_same r t h = u64_at_is t value_from ∙ num_frame 8 t r value_from h ∙ sym (u64_at_is r value_from)

commit_same : (r t : List ℕ) → ((j : ℕ) → commit_from ≤ j → j < commit_from + 4 → get_or t j 0 ≡ get_or r j 0) → commit t ≡ commit r
commit_same r t h = u32_at_is t commit_from ∙ num_frame 4 t r commit_from h ∙ sym (u32_at_is r commit_from)

or_none : (b : Bool) → (b || false) ≡ b
or_none true = refl
or_none false = refl

module _ (r : List ℕ) where
  shows_nothing : (a : Answer) → value_after a (value r) ≡ value r → commit_after a (commit r) ≡ commit r → succeeds a ≡ false → ends a ≡ false → Shows a r r
  shows_nothing a v k d e =
      record { value_is = sym v; commit_is = sym k; done_is = rw d (sym (or_none (has_bit (raised r) 2))); aborted_is = rw e (sym (or_none (has_bit (raised r) 3))) }

  raise_value : (f : ℕ) → value (raise f r) ≡ value r
  raise_value f = value_same r (raise f r) (λ j l u. raise_other r f j (λ z. omega arith))

  raise_commit : (f : ℕ) → commit (raise f r) ≡ commit r
  raise_commit f = commit_same r (raise f r) (λ j l u. raise_other r f j (λ z. omega arith))

  raise_done : length r ≡ registers → (has_bit (raised (raise done_flag r)) 2 ≡ (has_bit (raised r) 2 || true)) × (has_bit (raised (raise done_flag r)) 3 ≡ (has_bit (raised r) 3 || false))
  unfolding tb
  raise_done n = (
    bit_tb _ 2 ∙ raise_bits r done_flag 2 n ∙ ap (λ (b : Bool). b || true) (sym (bit_tb (raised r) 2)),
    bit_tb _ 3 ∙ raise_bits r done_flag 3 n ∙ ap (λ (b : Bool). b || false) (sym (bit_tb (raised r) 3)),
  )

  raise_aborted : length r ≡ registers → (has_bit (raised (raise aborted_flag r)) 2 ≡ (has_bit (raised r) 2 || false)) × (has_bit (raised (raise aborted_flag r)) 3 ≡ (has_bit (raised r) 3 || true))
  unfolding tb
  raise_aborted n = (
    bit_tb _ 2 ∙ raise_bits r aborted_flag 2 n ∙ ap (λ (b : Bool). b || false) (sym (bit_tb (raised r) 2)),
    bit_tb _ 3 ∙ raise_bits r aborted_flag 3 n ∙ ap (λ (b : Bool). b || true) (sym (bit_tb (raised r) 3)),
  )

module _ (r : List ℕ) (size : length r ≡ registers) where
  value_shows : (v : ℕ) → v < 2 ^ 64 → Shows (Value v) r (noted_value v r)
  unfolding noted_value
  value_shows v l =
      let t = sets r value_from (bytes 8 v) in
      let long : length t ≡ registers = length-sets r value_from (bytes 8 v) ∙ size in
      let f = raise_done t long in
      let same : raised t ≡ raised r = put_other 8 r value_from v flags_from (inr (omega arith)) in
      rw (set_u64_is r value_from v)
      (record {
        value_is = raise_value t done_flag ∙ u64_at_is t value_from ∙ num_put 8 r value_from v (omega (arith, size)) l;
        commit_is = raise_commit t done_flag ∙ commit_same r t (λ j a b. put_other 8 r value_from v j (inr (omega arith)));
        done_is = f.0 ∙ rw same;
        aborted_is = f.1 ∙ rw same;
      })

  commit_shows : (n : ℕ) → n < 2 ^ 32 → Shows (Committed n) r (noted_commit n r)
  unfolding noted_commit
  commit_shows n l =
      let t = sets r commit_from (bytes 4 n) in
      let long : length t ≡ registers = length-sets r commit_from (bytes 4 n) ∙ size in
      let f = raise_done t long in
      let same : raised t ≡ raised r = put_other 4 r commit_from n flags_from (inr (omega arith)) in
      rw (set_u32_is r commit_from n)
      (record {
        value_is = raise_value t done_flag ∙ value_same r t (λ j a b. put_other 4 r commit_from n j (inl (omega arith)));
        commit_is = raise_commit t done_flag ∙ u32_at_is t commit_from ∙ num_put 4 r commit_from n (omega (arith, size)) l;
        done_is = f.0 ∙ rw same;
        aborted_is = f.1 ∙ rw same;
      })

  pub noted_shows : (a : Answer) → Fits a → Shows a r (noted a r)
  unfolding noted_abort
  noted_shows (Refused n) f = shows_nothing r (Refused n) refl refl refl refl
  noted_shows (Begun t) f = shows_nothing r (Begun t) refl refl refl refl
  noted_shows (Value v) f = value_shows v f
  noted_shows Waits f = shows_nothing r Waits refl refl refl refl
  noted_shows Written f =
      record { value_is = raise_value r done_flag; commit_is = raise_commit r done_flag; done_is = (raise_done r size).0; aborted_is = (raise_done r size).1 }
  noted_shows (Committed n) f = commit_shows n f
  noted_shows (Aborted c) f =
      by_eq c 0 (λ e. rw e (shows_nothing r (Aborted c) refl refl refl (rw e)))
      (λ e.
      rw e
      (record { value_is = raise_value r aborted_flag; commit_is = raise_commit r aborted_flag; done_is = (raise_aborted r size).0; aborted_is = (raise_aborted r size).1 ∙ rw e }))
  noted_shows Purged f = shows_nothing r Purged refl refl refl refl
  noted_shows Nothing f = shows_nothing r Nothing refl refl refl refl

  -- register 3 is untouched by the answer
  noted_refusal : (a : Answer) → get_or (noted a r) refusal_from 0 ≡ get_or r refusal_from 0
  unfolding noted_value noted_commit noted_abort
  noted_refusal (Refused n) = refl
  noted_refusal (Begun t) = refl
  noted_refusal (Value v) = raise_other _ done_flag refusal_from (λ z. omega arith) ∙ rw (set_u64_is r value_from v) (put_other 8 r value_from v refusal_from (inl (omega arith)))
  noted_refusal Waits = refl
  noted_refusal Written = raise_other r done_flag refusal_from (λ z. omega arith)
  noted_refusal (Committed n) = raise_other _ done_flag refusal_from (λ z. omega arith) ∙ rw (set_u32_is r commit_from n) (put_other 4 r commit_from n refusal_from (inl (omega arith)))
  noted_refusal (Aborted c) = by_eq c 0 (λ e. rw e) (λ e. rw e (raise_other r aborted_flag refusal_from (λ z. omega arith)))
  noted_refusal Purged = refl
  noted_refusal Nothing = refl

-- A COMMAND

abbrev Wide : ℕ → Type 0
Wide v = v < 2 ^ 64

said_fits : (a : Answer) → OwnerSays Wide a → (Fits a) × (refusal_of a < 256)
said_fits (Refused n) q = (tt, q)
said_fits (Begun t) q = (tt, omega arith)
said_fits (Value v) q = (q, omega arith)
said_fits Waits q = (tt, omega arith)
said_fits Written q = (tt, omega arith)
said_fits (Committed n) q = absurd q
said_fits (Aborted c) q = (tt, omega arith)
said_fits Purged q = absurd q
said_fits Nothing q = absurd q

pub wide_at : (s : List ℕ) → AllBytes s → (at : ℕ) → u64_at s at < 2 ^ 64
wide_at s b at = rw (u64_at_is s at) (num_lt 8 s at b)

-- the window's access beside the station's own call
pub record AsOwn (own : Outcome) (r : List ℕ) (state messages commit t : List ℕ) : Type 0 where
  pub same_state : state ≡ own.state
  pub same_messages : messages ≡ own.messages
  pub same_commit : commit ≡ own.commit
  pub shows : Shows own.said.answer r t

module _ (r s o c : List ℕ) (ok : ready_w r s o c ≡ true) where
  -- what the registers hold where the station's own operation is called
  abbrev pub with_command : ℕ → List ℕ
  with_command b = set r command_from b

  -- "1 begin, 2 read, 3 write, 4 commit, 5 abort": state, messages and commit are the operation's own; registers 4 to 16 show its answer, 3 its refusal
  pub command_own : (b : ℕ) → AllBytes s → is_command b ≡ true
      → let own = performed b (with_command b) s o c in
      let w = write_of command_from b r s o c in
      (AsOwn own r w.outcome.state w.outcome.messages w.outcome.commit w.registers) × (refusal w.registers ≡ refusal_of own.said.answer)
  unfolding write_of command_of shown
  command_own b all e =
      let k = with_command b in
      let own = performed b k s o c in
      let a = own.said.answer in
      let n = refusal_of a % 256 in
      let t = set k refusal_from n in
      let size = window_size r s o c ok in
      let long : length t ≡ registers = length-set k refusal_from n ∙ length-set r command_from b ∙ size in
      let fits = said_fits a (performed_says Wide s (wide_at s all) o c b k) in
      let same : (j : ℕ) → value_from ≤ j → get_or t j 0 ≡ get_or r j 0 =
      λ j l. get_or-set_other k refusal_from j n 0 (λ z. omega arith) ∙ get_or-set_other r command_from j b 0 (λ z. omega arith) in
      let h = noted_shows t long a fits.0 in
      rw (ok, e) (
        record {
          same_state = refl;
          same_messages = refl;
          same_commit = refl;
          shows =
              record {
                value_is = h.value_is ∙ ap (value_after a) (value_same r t (λ j l u. same j l));
                commit_is = h.commit_is ∙ ap (commit_after a) (commit_same r t (λ j l u. same j (omega arith)));
                done_is = h.done_is ∙ ap (λ (x : ℕ). has_bit x 2 || succeeds a) (same flags_from (omega arith));
                aborted_is = h.aborted_is ∙ ap (λ (x : ℕ). has_bit x 3 || ends a) (same flags_from (omega arith));
              };
        },
        noted_refusal t long a ∙ get_or-set_same k refusal_from n 0 (omega (arith, length-set r command_from b, size)) ∙ mod-eq_of_lt fits.1,
      )

  -- "another value is only stored"
  pub command_stored : (b : ℕ) → is_command b ≡ false → write_of command_from b r s o c ≡ record { registers = set r command_from b; outcome = record { state = s; messages = o; commit = c; said = record { answer = Nothing; messages = 0; commit = 0 } } }
  unfolding write_of command_of
  command_stored b e = rw (ok, e)

  -- A MESSAGE: all is the step's own
  pub step_own : (m : List ℕ) → Fits (called s o c (station_step_b m s)).said.answer
      → ((step_of m r s o c).outcome ≡ called s o c (station_step_b m s)) × Shows (called s o c (station_step_b m s)).said.answer r (step_of m r s o c).registers
  unfolding step_of
  step_own m f = rw ok (refl, noted_shows r (window_size r s o c ok) (called s o c (station_step_b m s)).said.answer f)

  -- "A refused message": no register changes
  pub step_refused : (m : List ℕ) (n : ℕ) → (called s o c (station_step_b m s)).said.answer ≡ Refused n → (step_of m r s o c).registers ≡ r
  unfolding step_of
  step_refused m n e = rw (ok, e)
