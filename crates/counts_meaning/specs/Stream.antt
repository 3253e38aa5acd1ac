-- An archive read through, a record at a time: what the counts reader puts out of a record, and the values and the last commit number
-- that it leaves with its caller, depend on shown fields alone.
use Rattle.std.specs.Prelude.{ℕ, ◌≤◌, ◌≡◌, refl, Bool, true, false, List, length, get_or, ltb}
use Rattle.std.proofs.Common.{sym, ap, ◌∙◌, arith, ext_get_or, le-ltb, ltb-false}
use Rattle.lists.specs.Bytes.{Bytes}
use Rattle.layout.specs.Record.{Record}
use Rattle.layout.specs.Replay.{wrote}
use Rattle.record.specs.Check.{check_of}
use Rattle.record_meaning.specs.Parse.{record_of}
use Rattle.record_meaning.proofs.Meaning.{written_read, same_bytes}
use Rattle.archive.specs.declared.Answer.{Answer}
use Rattle.replay.specs.Replay.{replay_of}
use Rattle.replay.specs.Played.{on_record, record_played}
use Rattle.archive_meaning.specs.Facts.{Begins}
use Rattle.archive_meaning.specs.Stored.{values_of}
use Rattle.archive_meaning.proofs.Playback.{played_record}
use Rattle.counts.specs.Counts.{longest_counts, counts_on}
use Rattle.counts.specs.Record.{shown, on_shown, record_counts}
use Rattle.counts_meaning.specs.View.{Counts, shown_of, AlikeShown, put_out}
use Rattle.counts_meaning.specs.Record.{puts_out}
use Rattle.counts_meaning.specs.Shown.{numbered}

-- an accepted record leaves what playback leaves, and its counts
shows_played : (t : List ℕ) (last : ℕ) (v o : List ℕ) → Bytes t → longest_counts ≤ length o → (record_played t last v).number ≡ 0
    → record_counts t last v o ≡ shown (record_played t last v).values (record_played t last v).last (counts_on t o) 0
unfolding record_counts record_played
shows_played t last v o hs h z = rw (le-ltb (length o) longest_counts h) (on_answer_lem (replay_of t 0 last v).answer refl z)
  where
    w₁ : List ℕ
    w₁ = (replay_of t 0 last v).values

    on_answer_lem : (a : Answer) → (replay_of t 0 last v).answer ≡ a → (on_record last w₁ a).number ≡ 0
        → on_shown t last w₁ o a ≡ shown (on_record last w₁ a).values (on_record last w₁ a).last (counts_on t o) 0
    on_answer_lem (Answer.Record f) e n = refl
    on_answer_lem Answer.End e n = absurd (omega arith)
    on_answer_lem (Answer.Refused k) e n = absurd (omega (arith, numbered t 0 last v hs (omega arith) k e))

-- the record that some bytes begin with is put out as its shown fields
begins_out : (t : List ℕ) (r : Record) (o : List ℕ) → Bytes t → Begins t r → counts_on t o ≡ put_out (shown_of r) o
begins_out t r o hs b =
    let w = written_read r b.tail b.well_formed in
    let check : check_of t ≡ 0 = rw b.bytes at w.accepts in
    let same : record_of t ≡ r = rw b.bytes at w.record_is in
    puts_out t o hs check ∙ rw same

-- what playback leaves of it
record Leaves (t : List ℕ) (r : Record) (last : ℕ) (v : List ℕ) : Type 0 where
  commit_is : (record_played t last v).last ≡ r.commit
  values_are : (a : ℕ) → get_or (record_played t last v).values a 0 ≡ wrote r.writes (values_of v) a
  as_many : length (record_played t last v).values ≡ 256

leaves : (t : List ℕ) (r : Record) (last : ℕ) (v : List ℕ) → Bytes t → length v ≡ 256 → Begins t r → (record_played t last v).number ≡ 0 → Leaves t r last v
leaves t r last v hs hv b z =
    let x = played_record t v last hs hv z in
    let y = x.begins in
    let same : x.record_is ≡ r = (same_bytes x.record_is r y.tail b.tail y.well_formed b.well_formed (y.bytes ∙ sym b.bytes)).0 in
    record {
      commit_is = x.last_is ∙ ap (λ (q : Record). q.commit) same;
      values_are = λ a. x.values a ∙ ap (λ (q : Record). wrote q.writes (values_of v) a) same;
      as_many = x.as_many;
    }

-- two records that differ only in what is hidden, both accepted behind the same commit on the same values: number, output, values
-- and last commit number are the same
pub same_record : (t q : List ℕ) (r p : Record) (last : ℕ) (v o : List ℕ) → Bytes t → Bytes q → length v ≡ 256 → Begins t r → Begins q p
    → (record_played t last v).number ≡ 0 → (record_played q last v).number ≡ 0 → AlikeShown r p → record_counts t last v o ≡ record_counts q last v o
unfolding record_counts
same_record t q r p last v o ht hq hv bt bq zt zq alike = by_room (ltb (length o) longest_counts) refl
  where
    by_room : (b : Bool) → ltb (length o) longest_counts ≡ b → record_counts t last v o ≡ record_counts q last v o
    by_room true e = rw e
    by_room false e =
        let h = ltb-false (length o) longest_counts e in
        let x = leaves t r last v ht hv bt zt in
        let y = leaves q p last v hq hv bq zq in
        let values : (record_played t last v).values ≡ (record_played q last v).values =
        ext_get_or 0 (record_played t last v).values (record_played q last v).values (x.as_many ∙ sym y.as_many)
        (λ i l. x.values_are i ∙ rw alike.writes_same (sym (y.values_are i))) in
        let number : (record_played t last v).last ≡ (record_played q last v).last = x.commit_is ∙ alike.commit_same ∙ sym y.commit_is in
        let fields : shown_of r ≡ shown_of p = λ k. record { commit = alike.commit_same k; writes = alike.writes_same k } in
        let out : counts_on t o ≡ counts_on q o = begins_out t r o ht bt ∙ ap (λ (c : Counts). put_out c o) fields ∙ sym (begins_out q p o hq bq) in
        shows_played t last v o ht h zt ∙ (λ k. shown (values k) (number k) (out k) 0) ∙ sym (shows_played q last v o hq h zq)
