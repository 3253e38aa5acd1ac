-- One record played by itself: "Playback keeps 256 values and the last commit number, changed by each accepted record".
use Rattle.std.specs.Prelude.{ℕ, ◌<◌, ◌≡◌, refl, Bool, true, false, List, length}
use Rattle.std.proofs.Common.{sym, ◌∙◌, arith}
use Rattle.lists.specs.Bytes.{Bytes}
use Rattle.layout.specs.Record.{Record}
use Rattle.record_meaning.specs.Parse.{record_of}
use Rattle.archive.specs.declared.Fields.{Fields}
use Rattle.archive.specs.declared.Answer.{Answer}
use Rattle.archive.specs.Read.{read_of}
use Rattle.replay.specs.Replay.{reads_agree, on_answer, replay_of}
use Rattle.replay.specs.Played.{played, on_record, record_played}
use Rattle.archive_meaning.specs.Facts.{ReadRefusal}
use Rattle.archive_meaning.proofs.Facts.{refused_number, one_read, stands, tells}
use Rattle.archive_meaning.specs.Stored.{values_of}
use Rattle.archive_meaning.proofs.Stored.{replaying}
use Rattle.archive_meaning.specs.Replay.{on_test, unread}
use Rattle.archive_meaning.proofs.Replay.{differs_there}
use Rattle.archive_meaning.specs.Playback.{One, OnePlayed, OneRefusal, OneRefused, no_bytes, refusal}

one_refused : (s v : List ℕ) (last k : ℕ) → 0 < k → OneRefusal s last (values_of v) k → One s v last (played v last k)
one_refused s v last k h reason =
    record { accepted = λ z. absurd (omega arith); refused = λ z. record { values_kept = refl; last_kept = refl; why = reason } }

one : (s v : List ℕ) (last : ℕ) → Bytes s → length v ≡ 256 → One s v last (record_played s last v)
unfolding record_played replay_of
one s v last hs hv = on_answer_lem (read_of s 0 last) refl
  where
    on_agree : (f : Fields) → read_of s 0 last ≡ Answer.Record f → (b : Bool) → reads_agree s v ≡ b
        → One s v last (on_record last (on_test s v f b).values (on_test s v f b).answer)
    on_agree f e true agree =
        let o = one_read s 0 last f hs e in
        let r = replaying s v hv o.well_formed.writes_fit in
        record {
          accepted =
              λ z.
              record {
                record_is = record_of s;
                begins = stands s 0 last f o;
                follows = o.number;
                reads_agree_lem = r.reads_tell agree;
                last_is = o.commit_is ∙ sym o.number;
                values = r.writes_are;
                as_many = r.as_many ∙ hv;
              };
          refused = λ z. absurd (omega arith);
        }
    on_agree f e false agree = one_refused s v last 14 (omega arith) (refusal (differs_there s 0 last v f hv (one_read s 0 last f hs e) agree))

    on_answer_lem : (a : Answer) → read_of s 0 last ≡ a → One s v last (on_record last (on_answer s v a).values (on_answer s v a).answer)
    on_answer_lem (Answer.Record f) e = on_agree f e (reads_agree s v) refl
    on_answer_lem Answer.End e = one_refused s v last 12 (omega arith) (no_bytes (sym (rw e at (tells s 0 last hs (omega arith)))))
    on_answer_lem (Answer.Refused k) e =
        let reason : ReadRefusal s last k = rw e at (tells s 0 last hs (omega arith)) in
        one_refused s v last k (refused_number s last k reason) (refusal (unread reason))

pub played_record : (s v : List ℕ) (last : ℕ) → Bytes s → length v ≡ 256 → (record_played s last v).number ≡ 0
    → OnePlayed s (values_of v) last (record_played s last v)
played_record s v last hs hv z = (one s v last hs hv).accepted z

pub refused_record : (s v : List ℕ) (last : ℕ) → Bytes s → length v ≡ 256 → 0 < (record_played s last v).number
    → OneRefused s v last (record_played s last v)
refused_record s v last hs hv z = (one s v last hs hv).refused z
