-- What a message that the server takes tells of its bytes: numbers 2 to 5 are not due.
use Rattle.std.specs.Prelude.{ℕ, suc, ◌+◌, ◌-◌, ◌*◌, ◌^◌, ◌≤◌, ◌<◌, ◌≡◌, refl, Bool, true, false, not, ◌&&◌, cond, List, [], ◌∷◌, ◌≢◌, length, get_or, drop, eqb, leb}
use Rattle.std.proofs.Common.{sym, ◌∙◌, arith, length-drop, get_or-drop, eqb-true, ne_eqb, leb-true}
use Rattle.std.proofs.Math.Bool.{or-false}
use Rattle.std.proofs.lemmas.Bool.{false≢true, eqb-false, not-true}
use Rattle.kinds.specs.Kinds.{locking}
use Rattle.lists.specs.Tests.{all_to, and_l, and_r, all_to_at}
use Rattle.lists.specs.Bytes.{Bytes, bytes_drop}
use Rattle.le.specs.Le.{u16_at, u32_at}
use Rattle.le.specs.Width.{num_at_lt}
use Rattle.le.specs.Laws.{u32_at_is}
use Rattle.sets.specs.Base.{some, has}
use Rattle.sets.specs.Laws.{by_b}
use Rattle.limits.specs.Limit.{limit}
use Rattle.layout.specs.Record.{Entry, WellFormed, AllFit}
use Rattle.record.specs.Check.{read_count_from, write_count_from, commit_number_from, transaction_number_from, station_number_from, station_kind_from, length_of, check_of}
use Rattle.record_meaning.specs.Parse.{record_of}
use Rattle.record_meaning.proofs.Meaning.{read_written}
use Rattle.line.specs.Fit.{LimitedWork}
use Rattle.entries.specs.Entries.{value_in, FitVal, Within}
use Rattle.entries.proofs.Entries.{says_few}
use Rattle.message.specs.Layout.{page_from, object_from, transaction_from, pages_from, version_from, sets_from, second_set, version_width, message_length, kind_of, station_of, transaction_of, pages_of, set_of}
use Rattle.message.specs.Range.{zeros, station_ok, page_ok, request_ok, commit_ok, abort_ok, purge_ok, busy_ok, done_ok_lem, written_set_ok, write_request_ok, up_fields_ok}
use Rattle.message.specs.Commit.{versions_at, record_at, addresses_at, entries_of as entries_in, entry_version, commit_length_ok, few_ok, version_ok, pages_to, record_agrees, commit_number}
use Rattle.message.specs.Number.{length_ok, up_range, kinds_ok, record_number, up_number}
use Rattle.message_meaning.specs.Meant.{version_in, work_at}
use Rattle.message.specs.Facts.{commit_length as commit_parts}
use Rattle.message.specs.Accepted.{zeros_are, page_lt, object_lt, requester_lt, station_lt, transaction_named, passed}
use Rattle.message_meaning.proofs.CommitRead.{u16_behind, u32_behind, reads_are, writes_are, pages_used}
use Rattle.message_meaning.specs.WorkSent.{WorkFits}
use Rattle.message_meaning.specs.UpAccepted.{AbortFields, BusyFields, CommitFields, DoneFields, PurgeFields, RequestFields, UpAccepted, WriteRequestFields, WrittenSetFields}

request_fields : (m : List ℕ) → request_ok m ≡ true → RequestFields m
unfolding request_ok
request_fields m h =
    record {
      page_is = page_lt m (search (and_l, and_r));
      object_is = object_lt m (search (and_l, and_r));
      transaction_not_0 = transaction_named m (search (and_l, and_r));
      unnamed_pages = zeros_are m pages_from (message_length - pages_from) (search (and_l, and_r));
    }

abort_fields : (m : List ℕ) → abort_ok m ≡ true → AbortFields m
unfolding abort_ok
abort_fields m h =
    record {
      transaction_not_0 = transaction_named m (search (and_l, and_r));
      unnamed_page = zeros_are m page_from (transaction_from - page_from) (search (and_l, and_r));
      unnamed_pages = zeros_are m pages_from (message_length - pages_from) (search (and_l, and_r));
    }

purge_fields : (m : List ℕ) → purge_ok m ≡ true → PurgeFields m
unfolding purge_ok
purge_fields m h = record { page_is = page_lt m (and_l (page_ok m) (zeros m object_from (message_length - object_from)) h); unnamed_object = zeros_are m object_from (message_length - object_from) (and_r (page_ok m) (zeros m object_from (message_length - object_from)) h) }

busy_fields : (m : List ℕ) → busy_ok m ≡ true → BusyFields m
unfolding busy_ok
busy_fields m h =
    record {
      requester_is = requester_lt m (search (and_l, and_r));
      transaction_not_0 = transaction_named m (search (and_l, and_r));
      unnamed_object = zeros_are m object_from 1 (search (and_l, and_r));
      unnamed_pages = zeros_are m pages_from (message_length - pages_from) (search (and_l, and_r));
    }

done_fields : (m : List ℕ) → done_ok_lem m ≡ true → DoneFields m
unfolding done_ok_lem
done_fields m h =
    record {
      requester_is = requester_lt m (search (and_l, and_r));
      transaction_not_0 = transaction_named m (search (and_l, and_r));
      unnamed_object = zeros_are m object_from 1 (search (and_l, and_r));
      unnamed_version = zeros_are m version_from (message_length - version_from) (search (and_l, and_r));
    }

written_set_fields : (m : List ℕ) → written_set_ok m ≡ true → WrittenSetFields m
unfolding written_set_ok
written_set_fields m h =
    record {
      page_is = page_lt m (search (and_l, and_r));
      transaction_not_0 = transaction_named m (search (and_l, and_r));
      unnamed_object = zeros_are m object_from 1 (search (and_l, and_r));
      unnamed_pages = zeros_are m pages_from (sets_from - pages_from) (search (and_l, and_r));
      unnamed_other_sets = zeros_are m second_set (message_length - second_set) (search (and_l, and_r));
    }

write_request_fields : (m : List ℕ) → write_request_ok m ≡ true → WriteRequestFields m
unfolding write_request_ok
write_request_fields m h =
    let w = written_set_fields m (and_r (not (eqb (set_of m 0) 0)) (written_set_ok m) h) in
    record {
      some_named = eqb-false (set_of m 0) 0 (not-true (eqb (set_of m 0) 0) (and_l (not (eqb (set_of m 0) 0)) (written_set_ok m) h));
      page_is = w.page_is;
      transaction_not_0 = w.transaction_not_0;
      unnamed_object = w.unnamed_object;
      unnamed_pages = w.unnamed_pages;
      unnamed_other_sets = w.unnamed_other_sets;
    }

commit_length : (m : List ℕ) → commit_length_ok m ≡ true → length m ≡ record_at m + length_of (drop (record_at m) m)
commit_length m h =
    let c = commit_parts m h in
    rw (← u16_behind (record_at m) m read_count_from, ← u16_behind (record_at m) m write_count_from) (omega (arith, c.whole))

-- the record is there whole
record_there : (m : List ℕ) → length m ≡ record_at m + length_of (drop (record_at m) m) → length_of (drop (record_at m) m) ≤ length (drop (record_at m) m)
record_there m h = rw (length-drop (record_at m) m) (omega arith)

version_0 : (kind : ℕ) (m : List ℕ) (e : ℕ) → version_ok kind m e ≡ true → locking kind ≡ true → entry_version m e ≡ 0
unfolding version_ok
version_0 kind m e h k = eqb-true (entry_version m e) 0 (rw (k, or-false) at h)

few_fields : (m : List ℕ) → few_ok m ≡ true → (length (record_of (drop (record_at m) m)).reads ≤ limit) × (length (record_of (drop (record_at m) m)).writes ≤ limit)
unfolding few_ok
few_fields m h =
    let s = drop (record_at m) m in
    let n : u16_at m (record_at m + read_count_from) ≤ limit = leb-true _ limit (and_l (leb (u16_at m (record_at m + read_count_from)) limit) _ h) in
    let k : u16_at m (record_at m + write_count_from) ≤ limit = leb-true _ limit (and_r (leb (u16_at m (record_at m + read_count_from)) limit) _ h) in
    (rw (reads_are s, ← u16_behind (record_at m) m read_count_from) n, rw (writes_are s, ← u16_behind (record_at m) m write_count_from) k)

commit_fields : (kind : ℕ) (m : List ℕ) → commit_ok m ≡ true → commit_length_ok m ≡ true → commit_number kind m ≡ 0 → CommitFields kind m
unfolding commit_ok commit_number record_agrees record_of
commit_fields kind m h len n =
    let short = passed (few_ok m) (cond (eqb (check_of (drop (record_at m) m)) 0) (cond (record_agrees kind m) 0 5) 5) 4 n in
    let checked = passed (eqb (check_of (drop (record_at m) m)) 0) (cond (record_agrees kind m) 0 5) 4 short.1 in
    let same = (passed (record_agrees kind m) 0 4 checked.1).0 in
    let size = commit_length m len in
    let versions : all_to (version_ok kind m) (entries_in m) ≡ true = search (and_l, and_r) depth 7 in
    let pages : pages_to m (addresses_at m) (entries_in m) ≡ pages_of m = eqb-true (pages_to m (addresses_at m) (entries_in m)) (pages_of m) (search (and_l, and_r) depth 7) in
    record {
      transaction_not_0 = transaction_named m (search (and_l, and_r));
      unnamed_page = zeros_are m page_from (transaction_from - page_from) (search (and_l, and_r));
      unnamed_version = zeros_are m version_from (message_length - version_from) (search (and_l, and_r));
      length_is = size;
      reads_few = (few_fields m short.0).0;
      writes_few = (few_fields m short.0).1;
      record_accepted = eqb-true (check_of (drop (record_at m) m)) 0 checked.0;
      commit_0 = sym (u32_behind (record_at m) m commit_number_from) ∙ eqb-true (u32_at m (record_at m + commit_number_from)) 0 (search (and_l, and_r) depth 7);
      transaction_is = sym (u32_behind (record_at m) m transaction_number_from) ∙ eqb-true (u32_at m (record_at m + transaction_number_from)) (transaction_of m) (search (and_l, and_r) depth 7);
      station_is = get_or-drop (record_at m) m station_number_from 0 ∙ eqb-true (get_or m (record_at m + station_number_from) 0) (station_of m) (search (and_l, and_r) depth 7);
      kind_is = get_or-drop (record_at m) m station_kind_from 0 ∙ eqb-true (get_or m (record_at m + station_kind_from) 0) kind (search (and_l, and_r) depth 7);
      parts_are = commit_parts m len;
      versions_0 = λ e l. version_0 kind m e (all_to_at (version_ok kind m) (entries_in m) versions e l);
      pages_are = λ p. rw (← pages) (pages_used m (record_there m size) p);
    }

length_up : (m : List ℕ) → length_ok m ≡ true → kind_of m ≢ 3 → length m ≡ message_length
unfolding length_ok
length_up m h k = eqb-true (length m) message_length (rw (ne_eqb (kind_of m) 3 k) at h)

length_commit : (m : List ℕ) → length_ok m ≡ true → kind_of m ≡ 3 → commit_length_ok m ≡ true
unfolding length_ok
length_commit m h k = rw k at h

commit_kind : (m : List ℕ) → kind_of m ≡ 3 → up_fields_ok m ≡ true → commit_ok m ≡ true
unfolding up_fields_ok
commit_kind m e h = rw e at h

-- number 5 is looked at where 2 to 4 are not due
number_5 : (b : Bool) (x y : ℕ) → eqb y 0 ≡ b → cond b x y ≡ 0 → (y ≡ 0) × (x ≡ 0)
number_5 true x y e h = (eqb-true y 0 e, h)
number_5 false x y e h = absurd (eqb-false y 0 e h)

commit_5 : (kinds m : List ℕ) → record_number kinds m ≡ 0 → kind_of m ≡ 3 → commit_number (get_or kinds (station_of m) 0) m ≡ 0
commit_5 kinds m h e = rw e at h

pub up_accepted : (kinds m : List ℕ) → up_number kinds m ≡ 0 → UpAccepted kinds m
unfolding up_number up_range up_fields_ok
up_accepted kinds m h =
    let ok = passed (kinds_ok kinds) (cond (length_ok m) (cond (eqb (up_range m) 0) (record_number kinds m) (up_range m)) 2) 0 h in
    let len = passed (length_ok m) (cond (eqb (up_range m) 0) (record_number kinds m) (up_range m)) 1 ok.1 in
    let number = number_5 (eqb (up_range m) 0) (record_number kinds m) (up_range m) refl len.1 in
    let range = passed (leb 1 (kind_of m) && leb (kind_of m) 8) (cond (station_ok m && up_fields_ok m) 0 4) 2 number.0 in
    let tests = passed (station_ok m && up_fields_ok m) 0 3 range.1 in
    let fields : up_fields_ok m ≡ true = and_r (station_ok m) (up_fields_ok m) tests.0 in
    record {
      kinds_ok_lem = ok.0;
      station_is = station_lt m (and_l (station_ok m) (up_fields_ok m) tests.0);
      kind_from_lem = leb-true 1 (kind_of m) (and_l _ _ range.0);
      kind_to = leb-true (kind_of m) 8 (and_r (leb 1 (kind_of m)) _ range.0);
      length_is = length_up m len.0;
      request = λ e. request_fields m (rw e at fields);
      write_request = λ e. write_request_fields m (rw e at fields);
      commit = λ e. commit_fields (get_or kinds (station_of m) 0) m (commit_kind m e fields) (length_commit m len.0 e) (commit_5 kinds m number.1 e);
      abort = λ e. abort_fields m (rw e at fields);
      purge = λ e. purge_fields m (rw e at fields);
      busy = λ e. busy_fields m (rw e at fields);
      done = λ e. done_fields m (rw e at fields);
      written_set = λ e. written_set_fields m (rw e at fields);
    }

version_fits : (v : ℕ → ℕ) → ((e : ℕ) → v e < 2 ^ 32) → (es : List Entry) (e a : ℕ) → version_in v es e a < 2 ^ 32
version_fits v h [] e a = omega arith
version_fits v h (x ∷ es) e a = by_b (eqb a x.address) (λ q. rw q (h e)) (λ q. rw q (version_fits v h es (suc e) a))

version_within : (v : ℕ → ℕ) (es : List Entry) (e a : ℕ) → has (value_in es a) ≡ false → version_in v es e a ≡ 0
version_within v [] e a h = refl
version_within v (x ∷ es) e a h = one (eqb a x.address) h (version_within v es (suc e) a)
  where
    one : (b : Bool) → has (cond b (some x.value) (value_in es a)) ≡ false → (has (value_in es a) ≡ false → version_in v es (suc e) a ≡ 0) → cond b (v e) (version_in v es (suc e) a) ≡ 0
    one true k rest = absurd (false≢true (sym k))
    one false k rest = rest k

version_none : (v : ℕ → ℕ) (es : List Entry) (e : ℕ) → ((i : ℕ) → e ≤ i → i < e + length es → v i ≡ 0) → (a : ℕ) → version_in v es e a ≡ 0
version_none v [] e h a = refl
version_none v (x ∷ es) e h a =
    by_b (eqb a x.address) (λ q. rw q (h e (omega arith) (omega arith))) (λ q. rw q (version_none v es (suc e) (λ i l k. h i (omega arith) (omega arith)) a))

value_fits : (es : List Entry) → AllFit es → (a : ℕ) → FitVal (value_in es a)
value_fits [] h a = tt
value_fits (e ∷ es) h a = one (eqb a e.address) (value_fits es h.1 a)
  where
    one : (b : Bool) → FitVal (value_in es a) → FitVal (cond b (some e.value) (value_in es a))
    one true k = h.0.value
    one false k = k

value_within : (es : List Entry) → AllFit es → Within (value_in es)
value_within [] h a l = refl
value_within (e ∷ es) h a l = rw (ne_eqb a e.address (λ q. omega (arith, h.0.address))) (value_within es h.1 a l)

module _ (kind : ℕ) (m : List ℕ) (hm : Bytes m) (c : CommitFields kind m) where
  pub commit_record : WellFormed (record_of (drop (record_at m) m))
  commit_record = (read_written (drop (record_at m) m) (bytes_drop (record_at m) m hm) c.record_accepted).well_formed

  -- what it brings is within the limit
  pub commit_few : LimitedWork (work_at m)
  unfolding work_at
  commit_few =
      let r = record_of (drop (record_at m) m) in
      record { reads_few = omega (arith, says_few r.reads, c.reads_few); writes_few = omega (arith, says_few r.writes, c.writes_few) }

  entry_fits : (e : ℕ) → entry_version m e < 2 ^ 32
  entry_fits e = rw u32_at_is (num_at_lt 4 m (versions_at + e * version_width) hm)

  pub entries_are : entries_in m ≡ length (record_of (drop (record_at m) m)).reads + length (record_of (drop (record_at m) m)).writes
  entries_are =
      let s = drop (record_at m) m in
      rw (u16_behind (record_at m) m read_count_from, u16_behind (record_at m) m write_count_from, reads_are s, writes_are s)

  -- "from a locking station all are 0"
  pub commit_none : locking kind ≡ true → (a : ℕ) → ((work_at m).read_versions a ≡ 0) × ((work_at m).written_versions a ≡ 0)
  unfolding work_at
  commit_none k a =
      let r = record_of (drop (record_at m) m) in (
        version_none (entry_version m) r.reads 0 (λ i l q. c.versions_0 i (omega (arith, entries_are)) k) a,
        version_none (entry_version m) r.writes (length r.reads) (λ i l q. c.versions_0 i (omega (arith, entries_are)) k) a,
      )

  pub commit_work : WorkFits (work_at m)
  unfolding work_at
  commit_work =
      let r = record_of (drop (record_at m) m) in
      let w = commit_record in
      record {
        transaction_not_0 = c.transaction_not_0;
        transaction_fits = rw u32_at_is (num_at_lt 4 m transaction_from hm);
        reads_within = value_within r.reads w.reads_fit;
        writes_within = value_within r.writes w.writes_fit;
        reads_fit = value_fits r.reads w.reads_fit;
        writes_fit = value_fits r.writes w.writes_fit;
        read_versions_fit = version_fits (entry_version m) entry_fits r.reads 0;
        written_versions_fit = version_fits (entry_version m) entry_fits r.writes (length r.reads);
        read_versions_within = version_within (entry_version m) r.reads 0;
        written_versions_within = version_within (entry_version m) r.writes (length r.reads);
        few = commit_few;
      }
