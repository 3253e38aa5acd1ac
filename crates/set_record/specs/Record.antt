-- A record whose entries stand in lent bytes: its reads and its writes are each a set of 256 addresses (32 bytes) and as many values of
-- 8 bytes.
use Rattle.std.specs.Prelude.{ℕ, ◌+◌, ◌*◌, List, cond, length}
use Rattle.std.proofs.lemmas.List.Edits.{sets}
use Rattle.le.specs.Le.{u64_at}
use Rattle.sets.specs.Base.{Val, none, some}
use Rattle.layout.specs.Record.{value_length, Record, bytes_of}
use Rattle.entries.specs.Entries.{entries_of}
use Rattle.station_state.specs.Layout.{member}

-- by address: its value among those from `from`, if the set from `at` has it
abbrev pub values_at : List ℕ → ℕ → ℕ → ℕ → Val
values_at s at from a = cond (member s at a) (some (u64_at s (from + a * value_length))) none

-- reads: the set from ra with the values from rv; writes: the set from wa with the values from wv
abbrev pub record_from : List ℕ → ℕ → ℕ → ℕ → ℕ → ℕ → ℕ → ℕ → ℕ → Record
record_from s ra rv wa wv commit transaction station kind =
    record {
      reads = entries_of (values_at s ra rv);
      writes = entries_of (values_at s wa wv);
      commit = commit;
      transaction = transaction;
      station = station;
      kind = kind;
    }

-- the output afterwards, and how many of its bytes were written
pub record Filled : Type 0 where
  pub out : List ℕ
  pub count : ℕ

abbrev pub filled : List ℕ → ℕ → Filled
filled o n = record { out = o; count = n }

-- .. with a record from `base` on
abbrev pub record_filled : List ℕ → ℕ → Record → Filled
record_filled o base r = filled (sets o base (bytes_of r)) (length (bytes_of r))
