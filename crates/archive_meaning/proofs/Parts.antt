-- The address part, the value part and the single entries of a record that is read are those of the record.
use Rattle.std.specs.Prelude.{ℕ, zero, suc, ◌+◌, ◌*◌, ◌-◌, ◌<◌, ◌≡◌, List, true, length, drop}
use Rattle.std.proofs.Common.{add-zero, zero-add, add-suc, suc-add, add_assoc, arith, length-drop, drop-drop, get_or-drop, le-leb, lt-ltb, le-ltb}
use Rattle.lists.specs.Bytes.{Bytes, bytes_drop}
use Rattle.le.specs.Le.{u64_at}
use Rattle.le.specs.Laws.{u64_at_is}
use Rattle.le.specs.Parts.{num_at_drop}
use Rattle.layout.specs.Record.{header_length, entry_length}
use Rattle.record.specs.Check.{read_count, write_count}
use Rattle.record.specs.Facts.{accepted}
use Rattle.record_meaning.specs.Parse.{entry_at, entries_at}
use Rattle.record_meaning.proofs.Entries.{length_entries_at, entries_of_lem, addresses_of, values_of}
use Rattle.archive.specs.declared.Fields.{Fields}
use Rattle.archive.specs.declared.Answer.{Answer}
use Rattle.archive.specs.Read.{fields_of, read_of}
use Rattle.archive.specs.Facts.{recorded}
use Rattle.archive.specs.Parts.{holds_at, address_part, value_part, entry_of}
use Rattle.archive_meaning.specs.Parts.{Shown, nth}

nth_entries_at : (t : List ℕ) (k i c j : ℕ) → j < c → nth (entries_at t k i c) j ≡ entry_at t k (i + j)
unfolding entries_at
nth_entries_at t k i zero j h = absurd (omega arith)
nth_entries_at t k i (suc c) zero h = rw add-zero
nth_entries_at t k i (suc c) (suc j) h = rw (nth_entries_at t k (suc i) c j (omega arith), add-suc i j, suc-add i j)

u64_at_drop : (a : ℕ) (s : List ℕ) (i : ℕ) → u64_at (drop a s) i ≡ u64_at s (a + i)
u64_at_drop a s i = rw (u64_at_is (drop a s) i, u64_at_is s (a + i)) (num_at_drop 8 a s i)

pub shown : (s : List ℕ) (at last : ℕ) (f : Fields) → Bytes s → read_of s at last ≡ Answer.Record f → Shown s at f
unfolding fields_of address_part value_part entry_of holds_at
shown s at last f hs h =
    let r = recorded s at last f h in
    let t = drop at s in
    let a = accepted t r.checks in
    let k = read_count t + write_count t in
    let count : f.reads + f.writes ≡ k = rw (← r.fields) in
    let l = length-drop at s in
    let holds : holds_at s at k ≡ true = rw (le-leb at (length s) (omega arith), le-leb (header_length + entry_length * k) (length s - at) (omega arith)) in
    record {
      entries_count = rw (count, entries_of_lem t) (length_entries_at t k 0 k);
      addresses_are = rw (count, holds, addresses_of t a.all_there, drop-drop);
      values_are = rw (count, holds, values_of t (bytes_drop at s hs) a.all_there, drop-drop, add_assoc);
      entry_is =
          λ i j.
          rw (count, holds, lt-ltb i k (omega arith), entries_of_lem t, nth_entries_at t k 0 k i (omega arith)) (simp (zero-add, get_or-drop, u64_at_drop, add_assoc));
      no_entry = λ i j. rw (count, holds, le-ltb i k (omega arith));
    }
