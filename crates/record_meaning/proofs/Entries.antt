-- The entries: what is read from their bytes is what they were, and the other way round.
use Rattle.std.specs.Prelude.{ℕ, zero, suc, ◌+◌, ◌*◌, ◌≤◌, ◌≡◌, refl, true, List, [], ◌∷◌, ◌++◌, length, take, drop, get_or}
use Rattle.std.proofs.Common.{sym, ap, append_assoc, add-zero, zero-add, add-suc, suc-add, arith, take-append-drop, drop-cons, get_or-drop}
use Rattle.lists.specs.Bytes.{Bytes, byte_at}
use Rattle.lists.specs.Parts.{part_join, drop_behind}
use Rattle.le.specs.Le.{u64_at}
use Rattle.le.specs.Width.{bytes, length_bytes, bytes_num_at, num_at_bytes, num_at_lt}
use Rattle.le.specs.Laws.{u64_at_is}
use Rattle.le.specs.Parts.{num_at_drop}
use Rattle.layout.specs.Record.{header_length, value_length, Entry, entries, Rising, AllFit, addresses, values}
use Rattle.record.specs.Check.{read_count, write_count, length_of, rises}
use Rattle.record_meaning.specs.Parse.{entry_at, entries_at, record_of}
use Rattle.record_meaning.proofs.Rise.{rising_of_rises}

-- entries whose addresses and values stand at their places are read there
pub entries_read : (es : List Entry) (s ta tv : List ℕ) (k i : ℕ) → drop (header_length + i) s ≡ addresses es ++ ta → drop (header_length + k + value_length * i) s ≡ values es ++ tv
    → AllFit es → entries_at s k i (length es) ≡ es
unfolding entries_at
entries_read [] s ta tv k i ea ev h = refl
entries_read (e ∷ es) s ta tv k i ea ev h =
    let at = header_length + k + value_length * i in
    let ev' : drop at s ≡ bytes value_length e.value ++ (values es ++ tv) = rw append_assoc at ev in
    let address_is : get_or s (header_length + i) 0 ≡ e.address = rw (← add-zero (header_length + i), ← get_or-drop (header_length + i) s 0 0, ea) in
    let value_is : u64_at s at ≡ e.value =
    rw (u64_at_is s at, ← add-zero at, ← num_at_drop value_length at s 0, ev') (num_at_bytes value_length e.value (values es ++ tv) h.0.value) in
    let rest : entries_at s k (suc i) (length es) ≡ es =
    entries_read es s ta tv k (suc i) (drop_behind (e.address ∷ []) (addresses es ++ ta) s (header_length + i) (header_length + suc i) ea (omega arith))
    (drop_behind (bytes value_length e.value) (values es ++ tv) s at (header_length + k + value_length * suc i) ev' (rw length_bytes (omega arith))) h.1 in
    λ t. record { address = address_is t; value = value_is t } ∷ rest t

pub length_entries_at : (s : List ℕ) (k i c : ℕ) → length (entries_at s k i c) ≡ c
unfolding entries_at
length_entries_at s k i zero = refl
length_entries_at s k i (suc c) = ap suc (length_entries_at s k (suc i) c)

-- the addresses and the values of entries that are read are the bytes that they were read from
addresses_read : (s : List ℕ) (k i c : ℕ) → header_length + i + c ≤ length s → addresses (entries_at s k i c) ≡ take c (drop (header_length + i) s)
unfolding entries_at
addresses_read s k i zero h = refl
addresses_read s k i (suc c) h = rw (drop-cons s (header_length + i) 0 (omega arith), addresses_read s k (suc i) c (omega arith), add-suc)

values_read : (s : List ℕ) (k i c : ℕ) → Bytes s → header_length + k + value_length * i + value_length * c ≤ length s → values (entries_at s k i c) ≡ take (value_length * c) (drop (header_length + k + value_length * i) s)
unfolding entries_at
values_read s k i zero hs h = refl
values_read s k i (suc c) hs h =
    let at = header_length + k + value_length * i in
    let next : header_length + k + value_length * suc i ≡ at + value_length = omega arith in
    let size : value_length * suc c ≡ value_length + value_length * c = omega arith in
    rw (u64_at_is s at, bytes_num_at value_length s at hs (omega arith), values_read s k (suc i) c hs (omega arith), next, size, part_join value_length (value_length * c) at s)

pub read_fits : (s : List ℕ) (k i c : ℕ) → Bytes s → AllFit (entries_at s k i c)
unfolding entries_at
read_fits s k i zero hs = tt
read_fits s k i (suc c) hs = (record { address = byte_at s (header_length + i) hs; value = rw u64_at_is (num_at_lt value_length s (header_length + k + value_length * i) hs) }, read_fits s k (suc i) c hs)

pub rising_read : (s : List ℕ) (k i c : ℕ) → header_length + i + c ≤ length s → rises s (header_length + i) c ≡ true → Rising (entries_at s k i c)
rising_read s k i c h e =
    rising_of_rises (entries_at s k i c) (drop c (drop (header_length + i) s)) s (header_length + i) (rw (addresses_read s k i c h) (sym (take-append-drop c (drop (header_length + i) s))))
    (rw length_entries_at e)

-- all entries of the record that is read: reads, and writes behind them
entries_at_join : (s : List ℕ) (k i c d : ℕ) → entries_at s k i c ++ entries_at s k (i + c) d ≡ entries_at s k i (c + d)
unfolding entries_at
entries_at_join s k i zero d = rw (add-zero, zero-add)
entries_at_join s k i (suc c) d = rw (suc-add c d, add-suc i c, ← suc-add i c) (ap (λ (t : List Entry). entry_at s k i ∷ t) (entries_at_join s k (suc i) c d))

pub entries_of_lem : (s : List ℕ) → entries (record_of s) ≡ entries_at s (read_count s + write_count s) 0 (read_count s + write_count s)
unfolding record_of
entries_of_lem s = rw (zero-add (read_count s)) at (entries_at_join s (read_count s + write_count s) 0 (read_count s) (write_count s))

pub addresses_of : (s : List ℕ) → length_of s ≤ length s → addresses (entries (record_of s)) ≡ take (read_count s + write_count s) (drop header_length s)
addresses_of s h = let k = read_count s + write_count s in rw (entries_of_lem s) (addresses_read s k 0 k (omega arith))

pub values_of : (s : List ℕ) → Bytes s → length_of s ≤ length s
    → values (entries (record_of s)) ≡ take (value_length * (read_count s + write_count s)) (drop (header_length + (read_count s + write_count s)) s)
values_of s hs h = let k = read_count s + write_count s in rw (entries_of_lem s) (rw add-zero at (values_read s k 0 k hs (omega arith)))
