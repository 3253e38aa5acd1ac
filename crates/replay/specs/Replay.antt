-- One record replayed on 256 values: the reader's numbers, then 14, else its writes are stored.
use Rattle.std.specs.Prelude.{ℕ, zero, suc, ◌+◌, ◌*◌, List, Bool, cond, drop, get_or, set, eqb}
use Rattle.lists.specs.Tests.{all_to}
use Rattle.le.specs.Le.{u64_at}
use Rattle.layout.specs.Record.{header_length, value_length}
use Rattle.record.specs.Check.{read_count, write_count}
use Rattle.archive.specs.Read.{read_of}
use Rattle.archive.specs.declared.Answer.{Answer}
use Rattle.archive.specs.declared.Answer.TheVariants.{Record, End, Refused}

-- where address and value of entry i stand in a record of k entries, and what stands there in the record at the start of t
abbrev pub address_from : ℕ → ℕ
address_from i = header_length + i

abbrev pub address_at : List ℕ → ℕ → ℕ
address_at t i = get_or t (address_from i) 0

abbrev pub value_from : ℕ → ℕ → ℕ
value_from k i = header_length + k + value_length * i

abbrev pub value_at : List ℕ → ℕ → ℕ → ℕ
value_at t k i = u64_at t (value_from k i)

-- read i of a record of k entries is the value there
unfoldable pub read_agrees : List ℕ → List ℕ → ℕ → ℕ → Bool
read_agrees t v k i = eqb (get_or v (address_at t i) 0) (value_at t k i)

-- "Replay: a read differs from the value left by earlier records": here none does
unfoldable pub reads_agree : List ℕ → List ℕ → Bool
reads_agree t v = all_to (read_agrees t v (read_count t + write_count t)) (read_count t)

-- the values after the c entries from the n-th of a record of k entries are stored, in order
unfoldable pub stored_to : List ℕ → List ℕ → ℕ → ℕ → ℕ → List ℕ
stored_to t v k n zero = v
stored_to t v k n (suc c) = set (stored_to t v k n c) (address_at t (n + c)) (value_at t k (n + c))

-- the values after the record's writes
unfoldable pub stored : List ℕ → List ℕ → List ℕ
stored t v = stored_to t v (read_count t + write_count t) (read_count t) (write_count t)

-- the values afterwards, and the answer
pub record Replayed : Type 0 where
  pub values : List ℕ
  pub answer : Answer

abbrev pub replayed : List ℕ → Answer → Replayed
replayed v a = record { values = v; answer = a }

-- what the reader's answer leads to: t is the archive from the record's start on
abbrev pub on_answer : List ℕ → List ℕ → Answer → Replayed
on_answer t v (Record f) = cond (reads_agree t v) (replayed (stored t v) (Record f)) (replayed v (Refused 14))
on_answer t v End = replayed v End
on_answer t v (Refused k) = replayed v (Refused k)

-- the record at `at`, "changed by each accepted record"
unfoldable pub replay_of : List ℕ → ℕ → ℕ → List ℕ → Replayed
replay_of s at last v = on_answer (drop at s) v (read_of s at last)
