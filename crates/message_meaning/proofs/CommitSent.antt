-- A commit that a station sends is taken by the server and read as meant: "3 commit (transaction, set of pages used)", and by
-- document 02 "one version for each entry of its record, in record order", then the record.
use Rattle.std.specs.Prelude.{ℕ, suc, ◌+◌, ◌-◌, ◌*◌, ◌≤◌, ◌<◌, ◌≡◌, refl, true, List, [], ◌∷◌, ◌++◌, drop, replicate, eqb}
use Rattle.std.proofs.Math.Path.{sym, ap, fun_ext}
use Rattle.std.proofs.Common.{◌∙◌, append-nil, zero-add, le_refl, arith, length-append, get_or-drop, drop_at}
use Rattle.std.proofs.Math.Bool.{or-true}
use Rattle.std.proofs.Math.ListN.{length, get_or}
use borrow.Author.Tests.{eq-eqb, ne_eqb, le-leb}
use Rattle.kinds.specs.Kinds.{locking}
use Rattle.lists.specs.Tests.{all_to, all_to_of}
use Rattle.lists.specs.Bytes.{Bytes, bytes_append}
use Rattle.lists.specs.Parts.{drop_behind}
use Rattle.le.specs.Le.{u32_at}
use Rattle.le.specs.Width.{bytes}
use Rattle.le.specs.Laws.{u32_at_is}
use Rattle.sets.specs.Laws.{by_b, by_eq}
use Rattle.sets.proofs.Laws.{eqb_same}
use Rattle.cells.proofs.Bits.{tb_tells}
use Rattle.limits.specs.Limit.{limit}
use Rattle.layout.specs.Record.{Entry, Record, WellFormed, header_length, entry_length, bytes_of}
use Rattle.record.specs.Check.{read_count_from, write_count_from, commit_number_from, transaction_number_from, station_number_from, station_kind_from, read_count, write_count, commit_number, transaction_number, station_number, station_kind, length_of, check_of}
use Rattle.record_meaning.specs.Parse.{record_of}
use Rattle.record_meaning.proofs.LayoutLaws.{bytes_of_are}
use Rattle.record_meaning.proofs.Meaning.{written_read as record_back}
use Rattle.line.specs.Messages.{Work, Commit}
use Rattle.line.specs.Server.{used_page}
use Rattle.message.specs.Stores.{length_up}
use Rattle.message.specs.Layout.{page_from, transaction_from, version_from, behind_length, version_width, message_length, kind_of, station_of, message, single, up_message}
use Rattle.message.specs.Range.{zero_at, zeros, commit_ok, up_fields_ok}
use Rattle.message.specs.Commit.{versions_at, shortest_commit, count_of, record_at, addresses_at, entries_of as entries_in, entry_version, commit_length_ok, few_ok, version_ok, pages_to, record_agrees, commit_number as commitTurned}
use Rattle.message.specs.Number.{length_ok, up_range, kinds_ok, up_number}
use Rattle.message_meaning.specs.Meant.{version_in, work_at}
use Rattle.message_meaning.proofs.KindsLaws.{up_3}
use Rattle.message_meaning.proofs.Numbers.{length_numbers, numbers_are, numbers_read}
use Rattle.message_meaning.specs.Inverse.{ReadBack}
use Rattle.message_meaning.proofs.Inverse.{written_read, message_more}
use Rattle.message_meaning.specs.Sent.{Reads}
use Rattle.message_meaning.proofs.Sent.{up_are}
use Rattle.message_meaning.proofs.Uses.{mask_fits}
use Rattle.message_meaning.proofs.CommitRead.{u16_behind, u32_behind, reads_are, writes_are, pages_used}
use Rattle.message_meaning.specs.CommitSent.{Sendable, commit_message, entry_count, place_in, version_bytes, work_in}

-- only the versions of the entries count
versions_same : (f g : ℕ → ℕ) (es : List Entry) (e : ℕ) → ((i : ℕ) → e ≤ i → i < e + length es → f i ≡ g i) → (a : ℕ) → version_in f es e a ≡ version_in g es e a
versions_same f g [] e h a = refl
versions_same f g (x ∷ es) e h a =
    by_eq a x.address (λ q. rw q (h e (omega arith) (omega arith)))
    (λ q. rw q (versions_same f g es (suc e) (λ i l k. h i (omega arith) (omega arith)) a))

-- what is read of a record's bytes
module _ (r : Record) (w : WellFormed r) where
  record_accepted : check_of (bytes_of r) ≡ 0
  record_accepted = rw append-nil at (record_back r [] w).accepts

  record_read : record_of (bytes_of r) ≡ r
  record_read = rw append-nil at (record_back r [] w).record_is

  record_size : length_of (bytes_of r) ≡ length (bytes_of r)
  record_size = rw append-nil at (record_back r [] w).length_is

  reads_read : read_count (bytes_of r) ≡ length r.reads
  reads_read = sym (reads_are (bytes_of r)) ∙ ap (λ (x : Record). length x.reads) record_read

  writes_read : write_count (bytes_of r) ≡ length r.writes
  writes_read = sym (writes_are (bytes_of r)) ∙ ap (λ (x : Record). length x.writes) record_read

  commit_read : commit_number (bytes_of r) ≡ r.commit
  unfolding record_of
  commit_read = ap (λ (x : Record). x.commit) record_read

  transaction_read : transaction_number (bytes_of r) ≡ r.transaction
  unfolding record_of
  transaction_read = ap (λ (x : Record). x.transaction) record_read

  station_read : station_number (bytes_of r) ≡ r.station
  unfolding record_of
  station_read = ap (λ (x : Record). x.station) record_read

  kind_read : station_kind (bytes_of r) ≡ r.kind
  unfolding record_of
  kind_read = ap (λ (x : Record). x.kind) record_read

-- numbers 2 to 5
takes : (kinds m : List ℕ) → kinds_ok kinds ≡ true → kind_of m ≡ 3 → commit_length_ok m ≡ true → station_of m ≤ 7 → commit_ok m ≡ true
    → commitTurned (get_or kinds (station_of m) 0) m ≡ 0 → up_number kinds m ≡ 0
unfolding up_number length_ok up_range up_fields_ok
takes kinds m ok is len st fields n = rw (ok, is, len, le-leb (station_of m) 7 st, fields, n)

zeros_commit : (st t used : ℕ) (rest : List ℕ) → (zeros (up_message 3 st 0 0 t used 0 ++ rest) page_from (transaction_from - page_from) ≡ true) × (zeros (up_message 3 st 0 0 t used 0 ++ rest) version_from (message_length - version_from) ≡ true)
unfolding message bytes zeros zero_at all_to
zeros_commit st t used rest = (refl, refl)

module _ {kinds : List ℕ} {r : Record} {used : ℕ} {v : ℕ → ℕ} (h : Sendable kinds r used v) where
  -- where its parts stand
  versions_place : drop versions_at (commit_message r used v) ≡ version_bytes v (entry_count r) ++ bytes_of r
  versions_place = drop_at (up_message 3 r.station 0 0 r.transaction used 0) _ versions_at (length_up 3 r.station 0 0 r.transaction used 0)

  length_commit : length (commit_message r used v) ≡ place_in r + length (bytes_of r)
  length_commit =
      rw (length-append, length-append, length_up 3 r.station 0 0 r.transaction used 0, length_numbers) (omega arith)

  size_sent : length (bytes_of r) ≡ header_length + entry_length * entry_count r
  size_sent = let w = h.well_formed in sym (record_size r w) ∙ rw (reads_read r w, writes_read r w)

  count_sent : count_of (commit_message r used v) ≡ entry_count r
  unfolding count_of
  count_sent = rw (length_commit, size_sent) (omega arith)

  place_sent : record_at (commit_message r used v) ≡ place_in r
  unfolding record_at
  place_sent = rw count_sent

  record_place : drop (record_at (commit_message r used v)) (commit_message r used v) ≡ bytes_of r
  record_place =
      rw place_sent (drop_behind (version_bytes v (entry_count r)) (bytes_of r) (commit_message r used v) versions_at (place_in r) versions_place (rw length_numbers))

  commit_are : Bytes (commit_message r used v)
  commit_are =
      let at : r.station < 256 = omega (arith, h.well_formed.station_is) in
      bytes_append (up_message 3 r.station 0 0 r.transaction used 0) _
      (up_are 3 r.station 0 0 r.transaction used 0 (omega arith) at (omega arith) (omega arith) (omega arith))
      (bytes_append (version_bytes v (entry_count r)) (bytes_of r) (numbers_are version_width v (entry_count r) 0) (bytes_of_are r h.well_formed))

  -- what is read of it
  head_read : ReadBack 3 r.station 0 0 r.transaction used 0 (single 0) (replicate behind_length 0 ++ (version_bytes v (entry_count r) ++ bytes_of r)) (commit_message r used v)
  head_read =
      rw (message_more 3 r.station 0 0 r.transaction used 0 (single 0) (replicate behind_length 0) (version_bytes v (entry_count r) ++ bytes_of r))
      (written_read 3 r.station 0 0 r.transaction used 0 (single 0) _ h.well_formed.transaction_fits h.pages_fit (omega arith) refl)

  version_read : (e : ℕ) → e < entry_count r → entry_version (commit_message r used v) e ≡ v e
  version_read e l =
      u32_behind versions_at (commit_message r used v) (e * version_width)
      ∙ rw (versions_place, u32_at_is) (rw zero-add at (numbers_read version_width v (entry_count r) 0 (bytes_of r) e l (rw zero-add (h.versions_fit e l))))

  work_read : work_at (commit_message r used v) ≡ work_in r v
  unfolding work_at
  work_read =
      let m = commit_message r used v in
      let reads_are : version_in (entry_version m) r.reads 0 ≡ version_in v r.reads 0 = fun_ext (versions_same (entry_version m) v r.reads 0 (λ i l k. version_read i (omega arith))) in
      let writes_are : version_in (entry_version m) r.writes (length r.reads) ≡ version_in v r.writes (length r.reads) =
      fun_ext (versions_same (entry_version m) v r.writes (length r.reads) (λ i l k. version_read i (omega arith))) in
      rw (record_place, record_read r h.well_formed, head_read.transaction_is, reads_are, writes_are)

  -- its length and its fields pass
  entries_read : entries_in (commit_message r used v) ≡ entry_count r
  entries_read =
      let m = commit_message r used v in
      let w = h.well_formed in
      rw (u16_behind (record_at m) m read_count_from, u16_behind (record_at m) m write_count_from, record_place, reads_read r w, writes_read r w)

  length_ok_lem : commit_length_ok (commit_message r used v) ≡ true
  unfolding commit_length_ok
  length_ok_lem =
      let l = place_in r + length (bytes_of r) in
      rw (
        entries_read,
        count_sent,
        length_commit,
        le-leb shortest_commit l (omega (arith, size_sent)),
        eq-eqb l (shortest_commit + entry_count r * (version_width + entry_length)) (omega (arith, size_sent)),
      )
      (eqb_same (entry_count r))

  commit_ok_lem : commit_ok (commit_message r used v) ≡ true
  unfolding commit_ok
  commit_ok_lem =
      let z = zeros_commit r.station r.transaction used (version_bytes v (entry_count r) ++ bytes_of r) in
      rw (z.0, z.1, head_read.transaction_is, ne_eqb r.transaction 0 (λ e. omega (arith, h.well_formed.transaction_not_0)))

  -- its versions
  version_ok_lem : (e : ℕ) → e < entry_count r → version_ok r.kind (commit_message r used v) e ≡ true
  unfolding version_ok
  version_ok_lem e l =
      rw (version_read e l) (by_b (locking r.kind) (λ k. rw (k, h.versions_0 e l k)) (λ k. rw k (or-true (eqb (v e) 0))))

  -- the mask of the record's addresses is the message's set
  pages_agree : pages_to (commit_message r used v) (addresses_at (commit_message r used v)) (entries_in (commit_message r used v)) ≡ used
  pages_agree =
      let m = commit_message r used v in
      let there : length_of (drop (record_at m) m) ≤ length (drop (record_at m) m) = rw record_place (rw (record_size r h.well_formed) (le_refl (length (bytes_of r)))) in
      tb_tells 32 (pages_to m (addresses_at m) (entries_in m)) used (mask_fits m (addresses_at m) (entries_in m) commit_are) h.pages_fit
      (λ p l. pages_used m there p ∙ ap (λ (x : Work). used_page x p) work_read ∙ sym (h.pages_are p l))

  agrees : record_agrees r.kind (commit_message r used v) ≡ true
  unfolding record_agrees
  agrees =
      let m = commit_message r used v in
      let w = h.well_formed in
      let commit_is : u32_at m (record_at m + commit_number_from) ≡ 0 = u32_behind (record_at m) m commit_number_from ∙ rw record_place (commit_read r w ∙ h.commit_0) in
      let transaction_is : u32_at m (record_at m + transaction_number_from) ≡ r.transaction = u32_behind (record_at m) m transaction_number_from ∙ rw record_place (transaction_read r w) in
      let station_is : get_or m (record_at m + station_number_from) 0 ≡ r.station = sym (get_or-drop (record_at m) m station_number_from 0) ∙ rw record_place (station_read r w) in
      let kind_is : get_or m (record_at m + station_kind_from) 0 ≡ r.kind = sym (get_or-drop (record_at m) m station_kind_from 0) ∙ rw record_place (kind_read r w) in
      rw (
        commit_is,
        transaction_is,
        station_is,
        kind_is,
        head_read.transaction_is,
        head_read.station_is,
        head_read.pages_are,
        eqb_same r.transaction,
        eqb_same r.station,
        eqb_same r.kind,
        all_to_of (version_ok r.kind m) (entries_in m) (λ e l. version_ok_lem e (rw entries_read at l)),
        pages_agree,
      )
      (eqb_same used)

  few_ok_lem : few_ok (commit_message r used v) ≡ true
  unfolding few_ok
  few_ok_lem =
      let m = commit_message r used v in
      let w = h.well_formed in
      rw (
        u16_behind (record_at m) m read_count_from,
        u16_behind (record_at m) m write_count_from,
        record_place,
        reads_read r w,
        writes_read r w,
        le-leb (length r.reads) limit h.reads_few,
        le-leb (length r.writes) limit h.writes_few,
      )

  turned_not : commitTurned (get_or kinds (station_of (commit_message r used v)) 0) (commit_message r used v) ≡ 0
  unfolding commitTurned
  turned_not = rw (few_ok_lem, head_read.station_is, h.kind_known, record_place, record_accepted r h.well_formed, agrees)

  -- the server takes it, and reads what the record, the set and the versions say
  pub commit_sent : Reads kinds r.station (place_in r + length (bytes_of r)) (commit_message r used v) (Commit (work_in r v))
  commit_sent =
      let m = commit_message r used v in
      record {
        length_is = length_commit;
        bytes_are = commit_are;
        accepted = takes kinds m h.kinds_ok_lem head_read.kind_is length_ok_lem (rw head_read.station_is h.well_formed.station_is) commit_ok_lem turned_not;
        station_is = head_read.station_is;
        meant = up_3 m head_read.kind_is ∙ ap Commit work_read;
      }
