-- The commit that a station sends is read as the model's by every server that knows the station's kind; and the call that sends it.
use Rattle.std.specs.Prelude.{ℕ, zero, suc, ◌+◌, ◌-◌, ◌≤◌, ◌<◌, ◌^◌, ◌≡◌, Bool, true, not, ◌&&◌, cond, List, [], ◌∷◌, ◌++◌, leb, ltb, length, take, drop, get_or}
use Rattle.std.proofs.Math.Path.{refl, sym, ap}
use Rattle.std.proofs.Common.{◌∙◌, zero-add, add-zero, arith, length-append, take_at, get_or-append-add, leb-true, lt-ltb, le-ltb}
use Rattle.std.proofs.Math.Bool.{false, and-false, or-true}
use Rattle.std.proofs.lemmas.Bool.{false≢true}
use Rattle.std.proofs.Math.Dec.{eqb}
use Rattle.std.proofs.Math.ListN.{get_or-append}
use Rattle.std.proofs.lemmas.List.Edits.{sets}
use Rattle.lists.specs.Stores.{sets_front}
use Rattle.lists.specs.Tests.{and_r}
use Rattle.sets.specs.Base.{Val, has}
use Rattle.sets.specs.Laws.{by_b, by_eq}
use Rattle.sets.proofs.Laws.{eqb_same, eqb_yes, ltb_yes, ltb_no}
use Rattle.entries.specs.Entries.{entries_from_lem, entries_of, value_in, Within, FitVal}
use Rattle.entries.proofs.Entries.{entries_size, says}
use Rattle.layout.specs.Record.{Entry, addresses}
use Rattle.record_meaning.proofs.LayoutLaws.{length_bytes_of, addresses_append, length_addresses}
use Rattle.line.specs.Messages.{locking, Commit}
use Rattle.line.specs.Messages as Line
use Rattle.line.specs.Station.{Station, ForCommit, work_of, check_open, own_commit}
use Rattle.line.specs.Fit.{LimitedWork}
use Rattle.message.specs.Number.{kinds_ok}
use Rattle.message_meaning.specs.Numbers.{numbers}
use Rattle.message_meaning.proofs.Numbers.{length_numbers}
use Rattle.message.specs.Stores.{length_up}
use Rattle.message_meaning.specs.Sent.{Reads}
use Rattle.message_meaning.specs.CommitSent.{entry_count, version_bytes, commit_message}
use Rattle.message_meaning.specs.WorkSent.{record_up, WorkFits, versions_up}
use Rattle.message_meaning.proofs.WorkSent.{work_sent}
use Rattle.station_state.specs.Layout.{seen_of, read_value, written_value, read_set_from, written_set_from, member}
use Rattle.station_state.specs.Changes.{used_b}
use Rattle.station_state.specs.Valid.{valid}
use Rattle.station_pages.specs.Pages.{used_pages_b}
use Rattle.station_commit.specs.Commit.{reads_of, writes_of, record_sent, version_sent, versions_for, versions_sent, commit_bytes}
use Rattle.station_answer.specs.Did.{refuses, laid}
use Rattle.station_owner.specs.Owner.{ready, check_open_b, commits, commit_called}
use Rattle.station_meaning.specs.Meant.{Is, value_if}
use Rattle.station_meaning.proofs.Tests.{station_at, kind_at, number_at, number_lt, read_at, wrote_at, read_high, wrote_high, read_value_lt, written_value_lt, seen_at, seen_lt, used_at_lem, used_pages_lt, used_pages_is}
use Rattle.station_meaning.proofs.Changes.{for_commit_is}
use Rattle.call_meaning.specs.Relation.{Sound}
use Rattle.call_meaning.proofs.Callbacks.{sound_wait}
use Rattle.call_meaning.proofs.Owner.{check_open_at, open_passed}
use Rattle.message.specs.Layout.{version_width}
use Rattle.message.specs.Commit.{station_room, commit_room}
use Rattle.call_meaning.specs.Commit.{CommitMeans}

-- a record's entries tell of 256 addresses, and the state's bytes of no more
from_same : (n a : ℕ) (f g : ℕ → Val) → ((b : ℕ) → a ≤ b → b < a + n → f b ≡ g b) → entries_from_lem n a f ≡ entries_from_lem n a g
unfolding entries_from_lem
from_same zero a f g h = refl
from_same (suc n) a f g h = rw (h a (omega arith) (omega arith), from_same n (suc a) f g (λ b p q. h b (omega arith) (omega arith)))

entries_same : (f g : ℕ → Val) → ((a : ℕ) → a < 256 → f a ≡ g a) → entries_of f ≡ entries_of g
unfolding entries_of
entries_same f g h = from_same 256 0 f g (λ a p q. h a (omega arith))

fit_if : (b : Bool) (v : ℕ) → v < 2 ^ 64 → FitVal (value_if b v)
fit_if true v l = l
fit_if false v l = tt

unless_used : (b : Bool) (v : ℕ) → b ≡ false → cond b v 0 ≡ 0
unless_used b v e = rw e

unless_lt : (b : Bool) (v : ℕ) → v < 2 ^ 32 → cond b v 0 < 2 ^ 32
unless_lt true v l = l
unless_lt false v l = omega arith

-- an address of a list of entries has a value there
listed : (es : List Entry) (j : ℕ) → j < length es → has (value_in es (get_or (addresses es) j 0)) ≡ true
listed [] j l = absurd (omega arith)
listed (x ∷ es) zero l = rw (eqb_same x.address)
listed (x ∷ es) (suc j) l = by_b (eqb (get_or (addresses es) j 0) x.address) (λ e. rw e) (λ e. rw e (listed es j (omega arith)))

listed_of : (f : ℕ → Val) → Within f → (j : ℕ) → j < length (entries_of f) → has (f (get_or (addresses (entries_of f)) j 0)) ≡ true
listed_of f w j l = rw (← says f w (get_or (addresses (entries_of f)) j 0)) (listed (entries_of f) j l)

-- the versions of a list of addresses
for_are : (s l : List ℕ) (v : ℕ → ℕ) (e : ℕ) → ((j : ℕ) → j < length l → version_sent s (get_or l j 0) ≡ v (e + j)) → versions_for s l ≡ numbers version_width v (length l) e
unfolding versions_for numbers
for_are s [] v e h = refl
for_are s (a ∷ l) v e h =
    let first : version_sent s a ≡ v e = rw add-zero at (h zero (omega arith)) in
    rw (first, for_are s l v (suc e) (λ j q. let next : e + suc j ≡ suc e + j = omega arith in rw next at (h (suc j) (omega arith))))

module _ {i : ℕ} {s : List ℕ} {m : Station} (h : Is i s m) where
  reads_are : entries_of (reads_of s) ≡ entries_of m.rd
  reads_are = entries_same (reads_of s) m.rd (λ a l. sym (read_at h a l))

  writes_are : entries_of (writes_of s) ≡ entries_of m.wr
  writes_are = entries_same (writes_of s) m.wr (λ a l. sym (wrote_at h a l))

  record_is : record_sent s ≡ record_up i m.kind (work_of m)
  record_is = rw (reads_are, writes_are, number_at h, station_at h, kind_at h)

  -- what is sent for an object that has an entry
  abbrev sent_for : (ℕ → Val) → ℕ → Bool
  sent_for f a = not (locking m.kind) && has (f a)

  below : (f : ℕ → Val) → Within f → (a : ℕ) → has (f a) ≡ true → a < 256
  below f w a t = by_b (ltb a 256) (λ e. ltb_yes a 256 e) (λ e. absurd (false≢true (rw (w a (ltb_no a 256 e)) at t)))

  version_is : (f : ℕ → Val) → Within f → (a : ℕ) → has (f a) ≡ true → used_b s a ≡ true → version_sent s a ≡ cond (sent_for f a) (m.seen a) 0
  unfolding version_sent
  version_is f w a t u =
      rw (kind_at h, t, seen_at h a (below f w a t), u) (by_b (locking m.kind) (λ e. rw e) (λ e. rw e))

  read_used : (a : ℕ) → has (m.rd a) ≡ true → used_b s a ≡ true
  read_used a t = rw (used_at_lem h a (below m.rd (read_high h) a t), t)

  wrote_used : (a : ℕ) → has (m.wr a) ≡ true → used_b s a ≡ true
  wrote_used a t = rw (used_at_lem h a (below m.wr (wrote_high h) a t), t) (or-true (has (m.rd a)))

  first_are : (j : ℕ) → j < length (addresses (entries_of m.rd)) → version_sent s (get_or (addresses (entries_of m.rd)) j 0) ≡ versions_up (work_of m) (0 + j)
  first_are j l =
      let es = entries_of m.rd in
      let k : j < length es = rw length_addresses at l in
      let t = listed_of m.rd (read_high h) j k in
      rw (zero-add, lt-ltb j (length es) k) (version_is m.rd (read_high h) (get_or (addresses es) j 0) t (read_used (get_or (addresses es) j 0) t))

  second_are : (j : ℕ) → j < length (addresses (entries_of m.wr)) → version_sent s (get_or (addresses (entries_of m.wr)) j 0) ≡ versions_up (work_of m) (length (entries_of m.rd) + j)
  second_are j l =
      let n = length (entries_of m.rd) in
      let fs = entries_of m.wr in
      let t = listed_of m.wr (wrote_high h) j (rw length_addresses at l) in
      let less : n + j - n ≡ j = omega arith in
      rw (le-ltb (n + j) n (omega arith), less) (version_is m.wr (wrote_high h) (get_or (addresses fs) j 0) t (wrote_used (get_or (addresses fs) j 0) t))

  -- the reads' addresses, then the writes'
  each_is : (j : ℕ) → j < length (addresses (entries_of m.rd) ++ addresses (entries_of m.wr))
      → version_sent s (get_or (addresses (entries_of m.rd) ++ addresses (entries_of m.wr)) j 0) ≡ versions_up (work_of m) (0 + j)
  each_is j l =
      let x = addresses (entries_of m.rd) in
      let y = addresses (entries_of m.wr) in
      let n = length_addresses (entries_of m.rd) in
      let all = length-append x y in
      by_b (ltb j (length x))
      (λ e. let q = ltb_yes j (length x) e in ap (version_sent s) (get_or-append x y 0 j q) ∙ first_are j q)
      (λ e.
      let q = ltb_no j (length x) e in
      let k = j - length x in
      let place : j ≡ length x + k = omega arith in
      let next : length (entries_of m.rd) + k ≡ 0 + j = omega arith in
      ap (λ (a : ℕ). version_sent s (get_or (x ++ y) a 0)) place ∙ ap (version_sent s) (get_or-append-add x y k 0) ∙ second_are k (omega arith) ∙ ap (versions_up (work_of m)) next)

  versions_are : versions_sent s ≡ version_bytes (versions_up (work_of m)) (entry_count (record_up i m.kind (work_of m)))
  versions_are =
      let es = entries_of m.rd in
      let fs = entries_of m.wr in
      let count : length (addresses es ++ addresses fs) ≡ length es + length fs = length-append (addresses es) (addresses fs) ∙ rw (length_addresses es, length_addresses fs) in
      rw (reads_are, writes_are, addresses_append es fs)
      (for_are s (addresses es ++ addresses fs) (versions_up (work_of m)) 0 each_is ∙ ap (λ (n : ℕ). numbers version_width (versions_up (work_of m)) n 0) count)

  commit_is : commit_bytes s ≡ commit_message (record_up i m.kind (work_of m)) (used_pages_b s) (versions_up (work_of m))
  unfolding commit_bytes
  commit_is = rw (versions_are, record_is, station_at h, number_at h)

  -- "from a locking station all are 0"
  version_none : (f : ℕ → Val) → locking m.kind ≡ true → (a : ℕ) → cond (sent_for f a) (m.seen a) 0 ≡ 0
  version_none f e a = unless_used (sent_for f a) (m.seen a) (rw e)

  version_within : (f : ℕ → Val) (a : ℕ) → has (f a) ≡ false → cond (sent_for f a) (m.seen a) 0 ≡ 0
  version_within f a e = unless_used (sent_for f a) (m.seen a) (rw (e, and-false (not (locking m.kind))))

  version_fits : (f : ℕ → Val) → Within f → (a : ℕ) → cond (sent_for f a) (m.seen a) 0 < 2 ^ 32
  version_fits f w a =
      by_b (ltb a 256)
      (λ e. let l = ltb_yes a 256 e in unless_lt (sent_for f a) (m.seen a) (rw (seen_at h a l) (unless_lt (used_b s a) (seen_of s a) (seen_lt h a l))))
      (λ e. rw (w a (ltb_no a 256 e), and-false (not (locking m.kind))) (omega arith))

  -- "values of 8 bytes"
  read_fits : (a : ℕ) → FitVal (m.rd a)
  read_fits a =
      by_b (ltb a 256)
      (λ e. let l = ltb_yes a 256 e in rw (read_at h a l) (fit_if (member s read_set_from a) (read_value s a) (read_value_lt h a l)))
      (λ e. rw (read_high h a (ltb_no a 256 e)) tt)

  wrote_fits : (a : ℕ) → FitVal (m.wr a)
  wrote_fits a =
      by_b (ltb a 256)
      (λ e. let l = ltb_yes a 256 e in rw (wrote_at h a l) (fit_if (member s written_set_from a) (written_value s a) (written_value_lt h a l)))
      (λ e. rw (wrote_high h a (ltb_no a 256 e)) tt)

  work_fits : Sound i m → LimitedWork (work_of m) → m.opened ≡ true → WorkFits (work_of m)
  work_fits q f o =
      record {
        transaction_not_0 = q.counted o;
        transaction_fits = rw (← number_at h) (number_lt h);
        reads_within = read_high h;
        writes_within = wrote_high h;
        reads_fit = read_fits;
        writes_fit = wrote_fits;
        read_versions_fit = version_fits m.rd (read_high h);
        written_versions_fit = version_fits m.wr (wrote_high h);
        read_versions_within = version_within m.rd;
        written_versions_within = version_within m.wr;
        few = f;
      }

  -- what a server that knows the station's kind reads
  pub work_is : Sound i m → LimitedWork (work_of m) → m.opened ≡ true → (kinds : List ℕ) → kinds_ok kinds ≡ true → get_or kinds i 0 ≡ m.kind
      → Reads kinds i (length (commit_bytes s)) (commit_bytes s) (Commit (work_of m))
  work_is q f o kinds ok k =
      let r = work_sent kinds i m.kind (used_pages_b s) (work_of m) ok q.own k (work_fits q f o) (used_pages_lt s) (λ p l. ap (λ (g : ℕ → Bool). g p) (used_pages_is h)) (λ e b. (version_none m.rd e b, version_none m.wr e b)) in
      rw commit_is
      (record { length_is = refl; bytes_are = r.bytes_are; accepted = r.accepted; station_is = r.station_is; meant = r.meant })

  -- document 02: a commit is "at most 1,408, the station's buffer too"
  pub commit_most : LimitedWork (work_of m) → length (commit_bytes s) ≤ commit_room
  commit_most f =
      let r = record_up i m.kind (work_of m) in
      rw (
        commit_is,
        length-append,
        length-append,
        length_up 3 i 0 0 m.num (used_pages_b s) 0,
        length_numbers version_width (versions_up (work_of m)) (entry_count r) 0,
        length_bytes_of r,
      )
      (omega (arith, entries_size m.rd, entries_size m.wr, f.reads_few, f.writes_few))

  commit_front : LimitedWork (work_of m) → (c : List ℕ) → commit_room ≤ length c → take (length (commit_bytes s)) (sets c 0 (commit_bytes s)) ≡ commit_bytes s
  commit_front f c l =
      let x = commit_bytes s in
      rw (sets_front x c (length x) refl (omega (arith, commit_most f))) (take_at x (drop (length x) c) (length x) refl)

commit_room_lem : (s o c : List ℕ) → ready s o c ≡ true → commit_room ≤ length c
unfolding ready
commit_room_lem s o c r = leb-true commit_room (length c) (and_r (valid s && leb station_room (length o)) (leb commit_room (length c)) r)

module _ {i : ℕ} {s : List ℕ} {m : Station} (h : Is i s m) (q : Sound i m) (f : LimitedWork (work_of m)) (o c : List ℕ) where
  -- "Commit sends 3 and waits for 21 or 22."
  pub commit_means : commit_room ≤ length c → check_open_b s ≡ 0 → CommitMeans i (commits s o c) (own_commit m)
  unfolding own_commit
  commit_means l e =
      let n : check_open m ≡ 0 = sym (check_open_at h) ∙ e in
      rw n
      (record {
        answer = refl;
        state = for_commit_is h;
        sound = sound_wait ForCommit q;
        no_messages = refl;
        sent = λ kinds ok k. rw (commit_front h f c l) (work_is h q f (open_passed m n) kinds ok k);
      })

  -- .. or is refused with 7 or 8
  commit_refused : eqb (check_open_b s) 0 ≡ false → CommitMeans i (laid o c (refuses (check_open_b s) s)) (own_commit m)
  unfolding own_commit
  commit_refused e =
      let n : eqb (check_open m) 0 ≡ false = rw (← check_open_at h) e in
      rw n (record { answer = ap Line.Refused (check_open_at h); state = h; sound = q; no_messages = refl; sent = refl })

  pub commit_called_means : ready s o c ≡ true → CommitMeans i (commit_called s o c) (own_commit m)
  unfolding commit_called
  commit_called_means r =
      rw r
      (by_eq (check_open_b s) 0
      (λ e. rw e (commit_means (commit_room_lem s o c r) (eqb_yes (check_open_b s) 0 e)))
      (λ e. rw e (commit_refused e)))
