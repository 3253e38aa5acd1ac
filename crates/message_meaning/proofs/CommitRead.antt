-- What is read of a commit: its numbers are those of the record from its place on, and the mask of its addresses is the set of pages
-- that the line calls used.
use Rattle.std.specs.Prelude.{ℕ, ◌+◌, ◌≤◌, ◌<◌, ◌≡◌, List, length, drop, get_or}
use Rattle.std.proofs.Math.Path.{sym}
use Rattle.std.proofs.Common.{ap, ◌∙◌, arith, get_or-drop, get_or-take}
use Rattle.le.specs.Le.{u16_at, u32_at}
use Rattle.le.specs.Laws.{u16_at_is, u32_at_is}
use Rattle.le.specs.Parts.{num_at_drop}
use Rattle.cells.specs.Bits.{tb}
use Rattle.layout.specs.Record.{header_length, entries, addresses}
use Rattle.record.specs.Check.{read_count_from, write_count_from, read_count, write_count, length_of}
use Rattle.record_meaning.specs.Parse.{record_of}
use Rattle.record_meaning.proofs.Entries.{addresses_of, entries_of_lem, length_entries_at}
use Rattle.line.specs.Server.{used_page}
use Rattle.message.specs.Commit.{record_at, addresses_at, entries_of, pages_to}
use Rattle.message_meaning.specs.Meant.{work_at}
use Rattle.message_meaning.proofs.Uses.{on_used, mask_on}

-- a number behind a places
pub u16_behind : (a : ℕ) (m : List ℕ) (i : ℕ) → u16_at m (a + i) ≡ u16_at (drop a m) i
u16_behind a m i = rw (u16_at_is m (a + i), u16_at_is (drop a m) i) (sym (num_at_drop 2 a m i))

pub u32_behind : (a : ℕ) (m : List ℕ) (i : ℕ) → u32_at m (a + i) ≡ u32_at (drop a m) i
u32_behind a m i = rw (u32_at_is m (a + i), u32_at_is (drop a m) i) (sym (num_at_drop 4 a m i))

-- a record's size fields
pub reads_are : (s : List ℕ) → length (record_of s).reads ≡ read_count s
unfolding record_of
reads_are s = length_entries_at s (read_count s + write_count s) 0 (read_count s)

pub writes_are : (s : List ℕ) → length (record_of s).writes ≡ write_count s
unfolding record_of
writes_are s = length_entries_at s (read_count s + write_count s) (read_count s) (write_count s)

counts_are : (s : List ℕ) → read_count s + write_count s ≡ length (entries (record_of s))
counts_are s = sym (length_entries_at s _ 0 _) ∙ ap length (sym (entries_of_lem s))

module _ (m : List ℕ) where
  count_is : entries_of m ≡ length (entries (record_of (drop (record_at m) m)))
  count_is = rw (u16_behind (record_at m) m read_count_from, u16_behind (record_at m) m write_count_from) (counts_are (drop (record_at m) m))

  address_is : length_of (drop (record_at m) m) ≤ length (drop (record_at m) m) → (i : ℕ) → i < length (entries (record_of (drop (record_at m) m)))
      → get_or m (addresses_at m + i) 0 ≡ get_or (addresses (entries (record_of (drop (record_at m) m)))) i 0
  address_is there i l =
      let s = drop (record_at m) m in
      let place : addresses_at m + i ≡ record_at m + (header_length + i) = omega arith in
      rw (place, ← get_or-drop (record_at m) m (header_length + i) 0, ← get_or-drop header_length s i 0, addresses_of s there)
      (sym (get_or-take (read_count s + write_count s) (drop header_length s) i 0 (omega (arith, counts_are s))))

  pub pages_used : length_of (drop (record_at m) m) ≤ length (drop (record_at m) m) → (p : ℕ) → tb (pages_to m (addresses_at m) (entries_of m)) p ≡ used_page (work_at m) p
  unfolding work_at
  pages_used there p =
      let r = record_of (drop (record_at m) m) in
      rw count_is (mask_on m (addresses_at m) (entries r) (address_is there) p ∙ sym (on_used r.reads r.writes p))
