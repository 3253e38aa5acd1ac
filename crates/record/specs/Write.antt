-- Record writer: number 1, then number 5, else 0 and the record's bytes at the start of the output.
use Rattle.std.specs.Prelude.{ℕ, ◌+◌, ◌*◌, List, ◌++◌, Bool, ◌&&◌, cond, length, drop, eqb, ltb}
use Rattle.layout.specs.Record.{value_length, header, record_length}
use Rattle.record.specs.Check.{head_ok_lem, rises}

-- the output afterwards, and the number
pub record Written : Type 0 where
  pub out : List ℕ
  pub number : ℕ

abbrev pub written : List ℕ → ℕ → Written
written o k = record { out = o; number = k }

-- the arguments make a record: as many addresses and values as the sizes say, and what number 5 asks
unfoldable pub fits : ℕ → ℕ → ℕ → ℕ → ℕ → List ℕ → List ℕ → Bool
fits n m transaction station kind addrs vals =
    eqb (length addrs) (n + m)
    && (head_ok_lem n m transaction station kind && eqb (length vals) (value_length * (n + m)) && rises addrs 0 n && rises addrs n m)

-- the record's bytes: header, addresses, values
unfoldable pub record_bytes : ℕ → ℕ → ℕ → ℕ → ℕ → ℕ → List ℕ → List ℕ → List ℕ
record_bytes n m commit transaction station kind addrs vals = header n m commit transaction station kind ++ (addrs ++ vals)

-- "output is under the record's length (writer)" is number 1, checked first; "an accepted write changes just the record's bytes"
unfoldable pub write_of : ℕ → ℕ → ℕ → ℕ → ℕ → ℕ → List ℕ → List ℕ → List ℕ → Written
write_of n m commit transaction station kind addrs vals out =
    cond (ltb (length out) (record_length n m)) (written out 1)
    (cond (fits n m transaction station kind addrs vals)
    (written (record_bytes n m commit transaction station kind addrs vals ++ drop (record_length n m) out) 0)
    (written out 5))
