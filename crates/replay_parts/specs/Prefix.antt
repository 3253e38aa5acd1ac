-- A record that is whole is played the same whatever stands behind it.
use Prim.Native.Nat.{ℕ, zero, suc, ◌+◌, ◌*◌, ◌-◌, ◌≤◌, ◌<◌}
use Rattle.std.specs.Prelude.{◌≡◌, Bool, true, false, ◌&&◌, cond, drop, get_or, set, eqb, ltb}
use Rattle.std.proofs.Math.Path.{refl}
use Rattle.std.proofs.Common.{sym, ap, ◌∙◌, length-drop}
use mathlib.Core.List.{List, [], ◌++◌}
use native.Mathlib.Omega.{arith}
use Rattle.std.proofs.Math.ListN.{length, length-append, get_or-append}
use Rattle.std.proofs.lemmas.List.{drop-append-le}
use borrow.Author.Tests.{le-ltb, ltb-false, ne_eqb}
use Rattle.lists.specs.Tests.{all_to}
use Rattle.lists.specs.Parts.{all_to_same}
use Rattle.le.specs.Le.{u16_at, u32_at, u64_at}
use Rattle.layout.specs.Record.{header_length}
use Rattle.record.specs.Check.{read_count_from, write_count_from, commit_number_from, transaction_number_from, station_number_from, station_kind_from, zero_bytes_from}
use Rattle.record.specs.Check.{read_count, write_count, commit_number, transaction_number, station_number, station_kind, length_of, head_at, rises, addresses_rise, laid_out_lem, check_of}
use Rattle.record_meaning.proofs.Rise.{rises_behind}
use Rattle.archive.specs.declared.Fields.{Fields}
use Rattle.archive.specs.declared.Answer.{Answer}
use Rattle.archive.specs.declared.Answer.TheVariants.{Record, End, Refused}
use Rattle.archive.specs.Read.{fields_of, first_of, read_of}
use Rattle.replay.specs.Replay.{address_from, address_at, value_from, value_at, read_agrees, reads_agree, stored_to, stored, replayed, on_answer, replay_of}

-- all bytes that the record at the start of t claims are there
pub record Whole (t : List ℕ) : Type 0 where
  pub header_there : header_length ≤ length t
  pub all_there : length_of t ≤ length t

module _ (t y : List ℕ) where
  byte_same : (i : ℕ) → i < length t → get_or (t ++ y) i 0 ≡ get_or t i 0
  byte_same i h = get_or-append t y 0 i h

  u16_same : (i : ℕ) → i + 2 ≤ length t → u16_at (t ++ y) i ≡ u16_at t i
  unfolding u16_at
  u16_same i h = rw (byte_same i (omega arith), byte_same (i + 1) (omega arith))

  u32_same : (i : ℕ) → i + 4 ≤ length t → u32_at (t ++ y) i ≡ u32_at t i
  unfolding u32_at
  u32_same i h = rw (byte_same i (omega arith), byte_same (i + 1) (omega arith), byte_same (i + 2) (omega arith), byte_same (i + 3) (omega arith))

  u64_same : (i : ℕ) → i + 8 ≤ length t → u64_at (t ++ y) i ≡ u64_at t i
  unfolding u64_at
  u64_same i h = rw (u32_same i (omega arith), u32_same (i + 4) (omega arith))

module _ (t y : List ℕ) (w : Whole t) where
  pub reads_same : read_count (t ++ y) ≡ read_count t
  reads_same = let h = w.header_there in u16_same t y read_count_from (omega arith)

  pub writes_same : write_count (t ++ y) ≡ write_count t
  writes_same = let h = w.header_there in u16_same t y write_count_from (omega arith)

  pub commit_same : commit_number (t ++ y) ≡ commit_number t
  commit_same = let h = w.header_there in u32_same t y commit_number_from (omega arith)

  transaction_same : transaction_number (t ++ y) ≡ transaction_number t
  transaction_same = let h = w.header_there in u32_same t y transaction_number_from (omega arith)

  pub length_same : length_of (t ++ y) ≡ length_of t
  length_same = rw (reads_same, writes_same)

  byte : (i : ℕ) → i < header_length → get_or (t ++ y) i 0 ≡ get_or t i 0
  byte i l = let h = w.header_there in byte_same t y i (omega arith)

  head_same : head_at (t ++ y) ≡ head_at t
  unfolding head_at
  head_same =
      rw (reads_same, writes_same, transaction_same, byte station_number_from (omega arith), byte station_kind_from (omega arith), byte zero_bytes_from (omega arith), byte (zero_bytes_from + 1) (omega arith))

  rise_same : addresses_rise (t ++ y) ≡ addresses_rise t
  unfolding addresses_rise
  rise_same =
      let h = w.all_there in
      let n = read_count t in
      rw (reads_same, writes_same, rises_behind [] t y header_length n header_length (omega arith) (omega arith), rises_behind [] t y (header_length + n) (write_count t) (header_length + n) (omega arith) (omega arith))

  pub check_same : check_of (t ++ y) ≡ check_of t
  unfolding check_of
  check_same =
      let h = w.header_there in
      let a = w.all_there in
      let l = length-append t y in
      let more : header_length ≤ length (t ++ y) = omega arith in
      let all : length_of t ≤ length (t ++ y) = omega arith in
      rw
      (length_same, le-ltb (length (t ++ y)) header_length more, le-ltb (length (t ++ y)) (length_of t) all, le-ltb (length t) header_length h, le-ltb (length t) (length_of t) a, head_same, rise_same)

  fields_same : (at : ℕ) → fields_of (t ++ y) at ≡ fields_of t at
  unfolding fields_of
  fields_same at = rw (length_same, reads_same, writes_same, commit_same, transaction_same, byte station_number_from (omega arith), byte station_kind_from (omega arith))

  first_same : (at last : ℕ) → first_of (t ++ y) at last ≡ first_of t at last
  unfolding first_of
  first_same at last = rw (check_same, commit_same, fields_same at)

  k : ℕ
  k = read_count t + write_count t

  agree_same : (v : List ℕ) (i : ℕ) → i < read_count t → read_agrees (t ++ y) v (read_count t + write_count t) i ≡ read_agrees t v (read_count t + write_count t) i
  unfolding read_agrees
  agree_same v i l =
      let a = w.all_there in
      rw (byte_same t y (address_from i) (omega arith), u64_same t y (value_from (read_count t + write_count t) i) (omega arith))

  agrees_same : (v : List ℕ) → reads_agree (t ++ y) v ≡ reads_agree t v
  unfolding reads_agree
  agrees_same v =
      rw (reads_same, writes_same)
      (all_to_same (read_agrees (t ++ y) v (read_count t + write_count t)) (read_agrees t v (read_count t + write_count t)) (read_count t) (agree_same v))

  stored_to_same : (v : List ℕ) (c : ℕ) → c ≤ write_count t
      → stored_to (t ++ y) v (read_count t + write_count t) (read_count t) c ≡ stored_to t v (read_count t + write_count t) (read_count t) c
  unfolding stored_to
  stored_to_same v zero h = refl
  stored_to_same v (suc c) h =
      let a = w.all_there in
      let n = read_count t in
      rw (stored_to_same v c (omega arith), byte_same t y (address_from (n + c)) (omega arith), u64_same t y (value_from (n + write_count t) (n + c)) (omega arith))

  stored_same : (v : List ℕ) → stored (t ++ y) v ≡ stored t v
  unfolding stored
  stored_same v = rw (reads_same, writes_same) (stored_to_same v (write_count t) (omega arith))

  on_same : (v : List ℕ) (a : Answer) → on_answer (t ++ y) v a ≡ on_answer t v a
  on_same v (Record f) = rw (agrees_same v, stored_same v)
  on_same v End = refl
  on_same v (Refused x) = refl

  pub played_same : (at last : ℕ) (v : List ℕ) → on_answer (t ++ y) v (first_of (t ++ y) at last) ≡ on_answer t v (first_of t at last)
  played_same at last v = ap (on_answer (t ++ y) v) (first_same at last) ∙ on_same v (first_of t at last)

-- the record at a place, in front of the end
pub placed : (s : List ℕ) (at last : ℕ) (v : List ℕ) → at < length s → replay_of s at last v ≡ on_answer (drop at s) v (first_of (drop at s) at last)
unfolding replay_of read_of
placed s at last v h = rw (le-ltb (length s) at (omega arith), ne_eqb at (length s) (λ e. omega arith))

pub replay_same : (s y : List ℕ) (at last : ℕ) (v : List ℕ) → at < length s → Whole (drop at s) → replay_of (s ++ y) at last v ≡ replay_of s at last v
replay_same s y at last v h w =
    let l = length-append s y in
    placed (s ++ y) at last v (omega arith)
    ∙ ap (λ (t : List ℕ). on_answer t v (first_of t at last)) (drop-append-le at s y (omega arith))
    ∙ played_same (drop at s) y w at last v
    ∙ sym (placed s at last v h)

-- the bytes that a record claims make it whole
pub whole_start : (t y : List ℕ) → 16 ≤ length t → length_of (t ++ y) ≤ length t → Whole t
whole_start t y h all = record { header_there = h; all_there = rw (u16_same t y 0 (omega arith), u16_same t y 2 (omega arith)) at all }

pub same_start : (t y z : List ℕ) (last : ℕ) (v : List ℕ) → Whole t → replay_of (t ++ y) 0 last v ≡ replay_of (t ++ z) 0 last v
same_start t y z last v w =
    let h = w.header_there in
    replay_same t y 0 last v (omega arith) w ∙ sym (replay_same t z 0 last v (omega arith) w)

-- a record that is not whole
pub short_12 : (t : List ℕ) → (Whole t → ⊥) → check_of t ≡ 12
unfolding check_of
short_12 t cut = by_tests (ltb (length t) header_length) (ltb (length t) (length_of t)) refl refl
  where
    by_tests : (a b : Bool) → ltb (length t) header_length ≡ a → ltb (length t) (length_of t) ≡ b → ◌≡◌ {A = ℕ} (cond a 12 (cond b 12 (cond (laid_out_lem t) 0 5))) 12
    by_tests true b ea eb = refl
    by_tests false true ea eb = refl
    by_tests false false ea eb = absurd (cut (record { header_there = ltb-false _ _ ea; all_there = ltb-false _ _ eb }))

pub short_answer : (s : List ℕ) (at last : ℕ) (v : List ℕ) → at < length s → (Whole (drop at s) → ⊥) → replay_of s at last v ≡ replayed v (Refused 12)
unfolding first_of
short_answer s at last v h cut = placed s at last v h ∙ rw (short_12 (drop at s) cut)
