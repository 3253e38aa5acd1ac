-- What a fault says of the record's bytes is so, and its place is the one that it names.
use Rattle.std.specs.Prelude.{ℕ, ◌+◌, ◌-◌, ◌<◌, ◌≤◌, ◌≡◌, List, Bool, not, cond, ◌⊎◌, length, eqb}
use Rattle.std.proofs.Math.Path.{refl, ap}
use Rattle.std.proofs.Math.Bool.{true, false}
use Rattle.std.proofs.Math.Logic.{inl, inr}
use native.Mathlib.Omega.{arith}
use Rattle.std.proofs.Math.ListN.{get_or}
use Rattle.std.proofs.Math.Dec.{ltb, leb}
use borrow.Author.Tests.{ltb-true, ltb-false, leb-false, eqb-true, eqb-false, not-false}
use Rattle.le.specs.Le.{u64_at}
use Rattle.layout.specs.Record.{header_length, most_entries}
use Rattle.record.specs.Check.{zero_bytes_from, read_count, write_count, commit_number, transaction_number, station_number, station_kind, length_of, rise_at, rises}
use Rattle.replay.specs.Replay.{address_at, value_from, value_at, read_agrees, reads_agree}
use Rattle.fault.specs.declared.Fault.{Fault}
use Rattle.fault.specs.declared.Fault.TheVariants.{Nothing, Cut, Header, Sizes, Reads, Writes, Transaction, Station, Kind, Zero, Order, Sequence, Read}
use Rattle.fault.specs.First.{first, first_is}
use Rattle.fault.specs.Fault.{number_of, or_else, unless, count_fault, last_zero_from, byte_fault, fall, order_fault, address_fault, sequence_fault, differs, read_fault, whole_fault, cut_fault, fault_of}
use Rattle.kinds.specs.Kinds.{most_kind}

-- of the n addresses from a, the one at `at` is the first that is not above the one before it
pub record Falls (t : List ℕ) (a n at before is : ℕ) : Type 0 where
  pub behind : a < at
  pub within : at < a + n
  pub stands_before : before ≡ get_or t (at - 1) 0
  pub stands : is ≡ get_or t at 0
  pub falls : is ≤ before
  pub rise_before : (k : ℕ) → a + k + 1 < at → get_or t (a + k) 0 < get_or t (a + k + 1) 0

-- the read of this index is the first that differs from the value left
pub record Differs (t v : List ℕ) (at address is left : ℕ) : Type 0 where
  pub index : ℕ
  pub a_read : index < read_count t
  pub place : at ≡ value_from (read_count t + write_count t) index
  pub stands_for : address ≡ address_at t index
  pub stands : is ≡ u64_at t at
  pub remains : left ≡ get_or v address 0
  pub differ : left ≡ is → ⊥
  pub agree_before : (k : ℕ) → k < index → get_or v (address_at t k) 0 ≡ value_at t (read_count t + write_count t) k

-- what each fault says
abbrev pub Right : List ℕ → ℕ → List ℕ → Fault → Type 0
Right t last v Nothing = Unit {0}
Right t last v (Cut present size) = (present ≡ length t) × (size ≡ length_of t) × (present < size)
Right t last v (Sizes present size) = (present ≡ length t) × (size ≡ length_of t) × (present < size) × ((most_entries < read_count t) ⊎ (most_entries < write_count t))
Right t last v (Header present) = (present ≡ length t) × (present < header_length)
Right t last v (Reads n) = (n ≡ read_count t) × (most_entries < n)
Right t last v (Writes m) = (m ≡ write_count t) × (most_entries < m)
Right t last v Transaction = transaction_number t ≡ 0
Right t last v (Station s) = (s ≡ station_number t) × (7 < s)
Right t last v (Kind k) = (k ≡ station_kind t) × (most_kind < k)
Right t last v (Zero at is) = (is ≡ get_or t at 0) × (is ≡ 0 → ⊥)
Right t last v (Order at before is) =
    Falls t header_length (read_count t) at before is ⊎ ((rises t header_length (read_count t) ≡ true) × Falls t (header_length + read_count t) (write_count t) at before is)
Right t last v (Sequence commit l) = (commit ≡ commit_number t) × (l ≡ last) × (commit ≡ l + 1 → ⊥)
Right t last v (Read at address is left) = Differs t v at address is left

module _ (t : List ℕ) (last : ℕ) (v : List ℕ) where
  right_or : (f g : Fault) → Right t last v f → Right t last v g → Right t last v (or_else f g)
  unfolding or_else
  right_or f g hf hg = by_test (eqb (number_of f) 0)
    where
      by_test : (b : Bool) → Right t last v (cond b g f)
      by_test true = hg
      by_test false = hf

  right_row : (ok : Bool) (f rest : Fault) → (ok ≡ false → Right t last v f) → Right t last v rest → Right t last v (unless ok f rest)
  right_row true f rest hf hr = hr
  right_row false f rest hf hr = hf refl

  right_count : Right t last v (count_fault t)
  unfolding count_fault
  right_count =
      let transaction = unless (not (eqb (transaction_number t) 0)) Transaction Nothing in
      let writes = unless (leb (write_count t) most_entries) (Writes (write_count t)) transaction in
      right_row (leb (read_count t) most_entries) (Reads (read_count t)) writes (λ e. (refl, leb-false _ _ e))
      (right_row (leb (write_count t) most_entries) (Writes (write_count t)) transaction (λ e. (refl, leb-false _ _ e))
      (right_row (not (eqb (transaction_number t) 0)) Transaction Nothing (λ e. eqb-true _ _ (not-false (eqb (transaction_number t) 0) e)) tt))

  right_byte : Right t last v (byte_fault t)
  unfolding byte_fault
  right_byte =
      let last-zero = unless (eqb (get_or t last_zero_from 0) 0) (Zero last_zero_from (get_or t last_zero_from 0)) Nothing in
      let zeros = unless (eqb (get_or t zero_bytes_from 0) 0) (Zero zero_bytes_from (get_or t zero_bytes_from 0)) last-zero in
      let kind = unless (leb (station_kind t) most_kind) (Kind (station_kind t)) zeros in
      right_row (leb (station_number t) 7) (Station (station_number t)) kind (λ e. (refl, leb-false _ _ e))
      (right_row (leb (station_kind t) most_kind) (Kind (station_kind t)) zeros (λ e. (refl, leb-false _ _ e))
      (right_row (eqb (get_or t zero_bytes_from 0) 0) (Zero zero_bytes_from (get_or t zero_bytes_from 0)) last-zero (λ e. (refl, eqb-false _ _ e))
      (right_row (eqb (get_or t last_zero_from 0) 0) (Zero last_zero_from (get_or t last_zero_from 0)) Nothing (λ e. (refl, eqb-false _ _ e)) tt)))

  falls_at : (a n i : ℕ) → rises t a n ≡ false → i ≡ first (rise_at t a) (n - 1) → Falls t a n (a + i + 1) (get_or t (a + i) 0) (get_or t (a + i + 1) 0)
  unfolding rises rise_at
  falls_at a n i h e =
      let r = rw (← e) at (first_is (rise_at t a) (n - 1) h) in
      let b = r.below in
      let one : a + i ≡ a + i + 1 - 1 = omega arith in
      record {
        behind = omega arith;
        within = omega arith;
        stands_before = ap (λ (k : ℕ). get_or t k 0) one;
        stands = refl;
        falls = ltb-false _ _ r.fails;
        rise_before = λ k l. ltb-true _ _ (r.before k (omega arith));
      }

  right_address : Right t last v (address_fault t)
  unfolding address_fault order_fault or_else
  right_address = by_test (rises t header_length (read_count t)) refl
    where
      by_test : (b : Bool) → rises t header_length (read_count t) ≡ b
          → Right t last v (or_else (unless b (fall t header_length (first (rise_at t header_length) (read_count t - 1))) Nothing) (order_fault t (header_length + read_count t) (write_count t)))
      by_test true e =
          let a = header_length + read_count t in
          let m = write_count t in
          right_row (rises t a m) (fall t a (first (rise_at t a) (m - 1))) Nothing (λ h. inr (e, falls_at a m _ h refl)) tt
      by_test false e = inl (falls_at header_length (read_count t) _ e refl)

  right_sequence : Right t last v (sequence_fault t last)
  unfolding sequence_fault
  right_sequence = right_row (eqb (commit_number t) (last + 1)) (Sequence (commit_number t) last) Nothing (λ e. (refl, refl, eqb-false _ _ e)) tt

  differs_at : (i : ℕ) → reads_agree t v ≡ false → i ≡ first (read_agrees t v (read_count t + write_count t)) (read_count t)
      → Right t last v (differs t v (read_count t + write_count t) i)
  unfolding reads_agree read_agrees
  differs_at i h e =
      let k = read_count t + write_count t in
      let r = rw (← e) at (first_is (read_agrees t v k) (read_count t) h) in
      record {
        index = i;
        a_read = r.below;
        place = refl;
        stands_for = refl;
        stands = refl;
        remains = refl;
        differ = eqb-false _ _ r.fails;
        agree_before = λ j l. eqb-true _ _ (r.before j l);
      }

  right_read : Right t last v (read_fault t v)
  unfolding read_fault
  right_read =
      let k = read_count t + write_count t in
      right_row (reads_agree t v) (differs t v k (first (read_agrees t v k) (read_count t))) Nothing (λ e. differs_at _ e refl) tt

  right_cut : length t < length_of t → Right t last v (cut_fault t (length_of t))
  unfolding cut_fault
  right_cut h = by_tests (leb (read_count t) most_entries) (leb (write_count t) most_entries) refl refl
    where
      by_tests : (a b : Bool) → leb (read_count t) most_entries ≡ a → leb (write_count t) most_entries ≡ b
          → Right t last v (unless a (Sizes (length t) (length_of t)) (unless b (Sizes (length t) (length_of t)) (Cut (length t) (length_of t))))
      by_tests false b ea eb = (refl, refl, h, inl (leb-false _ _ ea))
      by_tests true false ea eb = (refl, refl, h, inr (leb-false _ _ eb))
      by_tests true true ea eb = (refl, refl, h)

  -- a record's fault is there
  pub fault_right : Right t last v (fault_of t last v)
  unfolding fault_of whole_fault
  fault_right =
      let head = or_else (count_fault t) (byte_fault t) in
      let rest = or_else (sequence_fault t last) (read_fault t v) in
      by_tests (ltb (length t) header_length) (ltb (length t) (length_of t)) refl refl
      (right_or (or_else head (address_fault t)) rest
      (right_or head (address_fault t) (right_or (count_fault t) (byte_fault t) right_count right_byte) right_address)
      (right_or (sequence_fault t last) (read_fault t v) right_sequence right_read))
    where
      by_tests : (a b : Bool) → ltb (length t) header_length ≡ a → ltb (length t) (length_of t) ≡ b
          → Right t last v (whole_fault t last v)
          → Right t last v (cond a (Header (length t)) (cond b (cut_fault t (length_of t)) (whole_fault t last v)))
      by_tests true b ea eb h = (refl, ltb-true _ _ ea)
      by_tests false true ea eb h = right_cut (ltb-true _ _ eb)
      by_tests false false ea eb h = h
