-- The replay of an archive means document 01's replay: what is accepted was read and written so, and what is so is accepted.
use Rattle.std.specs.Prelude.{ℕ, zero, suc, ◌+◌, ◌-◌, ◌≤◌, ◌<◌, ◌≡◌, refl, Bool, true, false, List, [], ◌∷◌, ◌++◌, length, drop}
use Rattle.std.proofs.Common.{sym, ap, ◌∙◌, append_assoc, append-nil, add-zero, zero-add, arith, length-append, length-drop, drop_of_length-le}
use Rattle.std.proofs.Math.Path.{fun_ext}
use Rattle.std.proofs.Math.Seq.{drop-append_seam}
use Rattle.lists.specs.Bytes.{Bytes}
use Rattle.lists.specs.Parts.{drop_behind}
use Rattle.layout.specs.Record.{Record, AllWellFormed, Numbered, bytes_of, archive_of}
use Rattle.layout.specs.Replay.{Values, zeros, wrote, left, ReadsAgree, Replays}
use Rattle.record_meaning.specs.Parse.{record_of}
use Rattle.record_meaning.proofs.Meaning.{written_read}
use Rattle.archive.specs.declared.Fields.{Fields}
use Rattle.archive.specs.declared.Answer.{Answer}
use Rattle.archive.specs.Read.{fields_of, read_of}
use Rattle.replay.specs.Replay.{reads_agree, stored, replayed, on_answer, replay_of}
use Rattle.replay.specs.Played.{Played, played, onward, play_from, archive_played}
use Rattle.replay.specs.Fuel.{onwards, turn, turn_record, begins}
use Rattle.archive_meaning.specs.Facts.{ReadRefusal, OneRead}
use Rattle.archive_meaning.proofs.Facts.{fields_said, reads_there, ends_there, refused_number, refuses_there, one_read, stands, tells}
use Rattle.archive_meaning.specs.Stored.{values_of}
use Rattle.archive_meaning.proofs.Stored.{fresh_values, replaying}
use Rattle.archive_meaning.specs.Replay.{PlayRefusal, PlayedTo, Plays, Stretch, Through, Truth, TruthTo, differs, fresh, no_record_yet, on_test, unread}

-- "a read differs from the value left by earlier records": none does, of any of the records
pub each_read : (rs : List Record) (start : Values) → Replays rs start
    → (before behind : List Record) (r : Record) → rs ≡ before ++ (r ∷ behind) → ReadsAgree r.reads (left before start)
each_read rs start h before behind r e = split before start (rw e at h)
  where
    split : (before : List Record) (v : Values) → Replays (before ++ (r ∷ behind)) v → ReadsAgree r.reads (left before v)
    split [] v g = g.0
    split (q ∷ qs) v g = split qs (wrote q.writes v) g.1

pub differs_there : (s : List ℕ) (at last : ℕ) (v : List ℕ) (f : Fields) → length v ≡ 256 → OneRead s at last f → reads_agree (drop at s) v ≡ false
    → PlayRefusal (drop at s) last (values_of v) 14
differs_there s at last v f l one fails =
    let test = replaying (drop at s) v l one.well_formed.writes_fit in
    differs (record_of (drop at s)) (stands s at last f one) one.number
    (λ g. let passes : reads_agree (drop at s) v ≡ true = test.reads_pass g in let z : ◌≡◌ {A = ℕ} 0 1 = cc in omega arith)

-- a record in front
unfoldable pub one_before : (s : List ℕ) (at last : ℕ) (v : List ℕ) (f : Fields) {l : ℕ} {w : List ℕ} → length v ≡ 256 → OneRead s at last f → reads_agree (drop at s) v ≡ true
    → Stretch s f.end (suc last) (stored (drop at s) v) l w → Stretch s at last v l w
unfolding archive_of
one_before s at last v f size one agree more =
    let t = drop at s in
    let r = replaying t v size one.well_formed.writes_fit in
    let after : values_of (stored t v) ≡ wrote (record_of t).writes (values_of v) = fun_ext r.writes_are in
    record {
      records = record_of t ∷ more.records;
      rest = more.rest;
      bytes = rw (append_assoc, more.bytes) one.bytes;
      well_formed = (one.well_formed, more.well_formed);
      numbered = (one.number, more.numbered);
      replays = (r.reads_tell agree, rw after at more.replays);
      last_is = omega (arith, more.last_is);
      values = rw after at more.values;
    }

-- a record in front of a play
play_step : (s : List ℕ) (at last : ℕ) (v : List ℕ) (f : Fields) (p : Played) → length v ≡ 256 → OneRead s at last f → reads_agree (drop at s) v ≡ true
    → PlayedTo s f.end (suc last) (stored (drop at s) v) p → PlayedTo s at last v p
unfolding one_before
play_step s at last v f p l one agree more =
    record { stretch = one_before s at last v f l one agree more.stretch; as_many = more.as_many; whole = more.whole; why = more.why }

-- a play that goes no further
play_stops : (s : List ℕ) (at last : ℕ) (v : List ℕ) (k : ℕ) → length v ≡ 256 → 0 < k → PlayRefusal (drop at s) last (values_of v) k
    → PlayedTo s at last v (played v last k)
unfolding no_record_yet
play_stops s at last v k l h reason =
    record { stretch = no_record_yet s at last v; as_many = l; whole = λ z. absurd (omega arith); why = λ z. reason }

play_to : (turns : ℕ) (s : List ℕ) (at last : ℕ) (v : List ℕ) → Bytes s → length v ≡ 256 → at ≤ length s → length s < at + turns
    → PlayedTo s at last v (play_from turns s at last v)
unfolding play_from replay_of no_record_yet
play_to zero s at last v hs hv h ht = absurd (omega arith)
play_to (suc turns) s at last v hs hv h ht = on_answer_lem (λ p l w a b c. play_to turns s p l w hs a b c) (read_of s at last) refl
  where
    t : List ℕ
    t = drop at s

    Next : Type 0
    Next = (p l : ℕ) (w : List ℕ) → length w ≡ 256 → p ≤ length s → length s < p + turns → PlayedTo s p l w (play_from turns s p l w)

    on_agree : Next → (f : Fields) → read_of s at last ≡ Answer.Record f → (b : Bool) → reads_agree t v ≡ b
        → PlayedTo s at last v (onward (play_from turns s) last (on_test t v f b).values (on_test t v f b).answer)
    on_agree next f e true agree =
        let o = onwards s at last f e in
        let one = one_read s at last f hs e in
        let size = (replaying t v hv one.well_formed.writes_fit).as_many in
        rw one.commit_is (play_step s at last v f _ hv one agree (next f.end (suc last) (stored t v) (size ∙ hv) o.within (omega arith)))
    on_agree next f e false agree = play_stops s at last v 14 hv (omega arith) (differs_there s at last v f hv (one_read s at last f hs e) agree)

    on_answer_lem : Next → (a : Answer) → read_of s at last ≡ a
        → PlayedTo s at last v (onward (play_from turns s) last (on_answer t v a).values (on_answer t v a).answer)
    on_answer_lem next (Answer.Record f) e = on_agree next f e (reads_agree t v) refl
    on_answer_lem next Answer.End e =
        let there : at ≡ length s = rw e at (tells s at last hs h) in
        record {
          stretch = no_record_yet s at last v;
          as_many = hv;
          whole = λ z. drop_of_length-le s {i = at} (omega arith);
          why = λ z. absurd (omega arith);
        }
    on_answer_lem next (Answer.Refused k) e =
        let reason : ReadRefusal t last k = rw e at (tells s at last hs h) in
        play_stops s at last v k hv (refused_number t last k reason) (unread reason)

pub played_archive : (s v : List ℕ) (last : ℕ) → Bytes s → length v ≡ 256 → (archive_played s last v).number ≡ 0
    → Truth s (values_of v) last (archive_played s last v)
unfolding archive_played
played_archive s v last hs hv z =
    let play = play_to (suc (length s)) s 0 last v hs hv (omega arith) (omega arith) in
    let all = play.stretch in
    record {
      records = all.records;
      bytes = sym (append-nil (archive_of all.records)) ∙ rw (play.whole z) at all.bytes;
      well_formed = all.well_formed;
      numbered = all.numbered;
      replays = all.replays;
      each_read_is = each_read all.records (values_of v) all.replays;
      last_is = all.last_is;
      values = λ a. ap (λ (f : Values). f a) all.values;
      as_many = play.as_many;
    }

pub refused_archive : (s v : List ℕ) (last : ℕ) → Bytes s → length v ≡ 256 → 0 < (archive_played s last v).number
    → TruthTo s (values_of v) last (archive_played s last v)
unfolding archive_played
refused_archive s v last hs hv z =
    let play = play_to (suc (length s)) s 0 last v hs hv (omega arith) (omega arith) in
    let all = play.stretch in
    record {
      records = all.records;
      rest = all.rest;
      bytes = all.bytes;
      well_formed = all.well_formed;
      numbered = all.numbered;
      replays = all.replays;
      last_is = all.last_is;
      values = λ a. ap (λ (f : Values). f a) all.values;
      as_many = play.as_many;
      why = rw all.values at (play.why z);
    }

pub fresh_archive : (s : List ℕ) → Bytes s → (archive_played s 0 fresh).number ≡ 0 → Truth s zeros 0 (archive_played s 0 fresh)
fresh_archive s hs z = rw (fresh_values 256) at (played_archive s fresh 0 hs refl z)

pub fresh_refused : (s : List ℕ) → Bytes s → 0 < (archive_played s 0 fresh).number → TruthTo s zeros 0 (archive_played s 0 fresh)
fresh_refused s hs z = rw (fresh_values 256) at (refused_archive s fresh 0 hs refl z)

-- a record in front: w are the values that it leaves
through_step : (r : Record) (rs : List Record) (s : List ℕ) (at last : ℕ) (v w : List ℕ) → values_of w ≡ wrote r.writes (values_of v)
    → play_from (suc (length s) - at) s at last v ≡ play_from (suc (length s) - (at + length (bytes_of r))) s (at + length (bytes_of r)) (suc last) w
    → Through rs s (at + length (bytes_of r)) (suc last) w → Through (r ∷ rs) s at last v
unfolding archive_of
through_step r rs s at last v w after first others =
    let place : at + length (bytes_of r ++ archive_of rs) ≡ at + length (bytes_of r) + length (archive_of rs) = rw length-append (omega arith) in
    let number : last + suc (length rs) ≡ suc last + length rs = omega arith in
    record {
      kept = others.kept;
      kept_length = others.kept_length;
      kept_values = rw after at others.kept_values;
      goes_on = rw (first, others.goes_on, place, number);
    }

play_through : (rs : List Record) (rest s : List ℕ) (at last : ℕ) (v : List ℕ) → at ≤ length s → length v ≡ 256 → drop at s ≡ archive_of rs ++ rest
    → AllWellFormed rs → Numbered last rs → Replays rs (values_of v) → Through rs s at last v
unfolding archive_of replay_of
play_through [] rest s at last v h hv e w n g = record { kept = v; kept_length = hv; kept_values = refl; goes_on = rw (add-zero at, add-zero last) }
play_through (r ∷ rs) rest s at last v h hv e w n g =
    let tail = archive_of rs ++ rest in
    let t = drop at s in
    let e' : t ≡ bytes_of r ++ tail = rw append_assoc at e in
    let said = fields_said r tail at w.0 in
    let next = at + length (bytes_of r) in
    let l = simp (length-drop, length-append) at (ap length e') in
    let same : record_of t ≡ r = rw e' (written_read r tail w.0).record_is in
    let one = replaying t v hv (rw same w.0.writes_fit) in
    let agree : reads_agree t v ≡ true = one.reads_pass (rw same g.0) in
    let after : values_of (stored t v) ≡ wrote r.writes (values_of v) = fun_ext (λ a. rw (← same) (one.writes_are a)) in
    let read = reads_there r tail s at last e' w.0 n.0 in
    let first : play_from (suc (length s) - at) s at last v ≡ play_from (suc (length s) - next) s next (suc last) (stored t v) =
    turn_record s at last v (stored t v) (fields_of (bytes_of r ++ tail) at) h (rw (read, agree)) ∙ rw (said.end_is, said.commit_is, n.0) in
    let behind = drop_behind (bytes_of r) tail s at next e' refl in
    through_step r rs s at last v (stored t v) after first
    (play_through rs rest s next (suc last) (stored t v) (omega arith) (one.as_many ∙ hv) behind w.1 n.1 (rw after g.1))

-- where the play goes no further behind them
play_ends : (rs : List Record) (s v : List ℕ) (last k : ℕ) (t : Through rs s 0 last v)
    → play_from (suc (length s) - length (archive_of rs)) s (length (archive_of rs)) (last + length rs) t.kept ≡ played t.kept (last + length rs) k
    → Plays rs (values_of v) last k (archive_played s last v)
play_ends rs s v last k t e =
    rw (begins s last v, t.goes_on, zero-add (length (archive_of rs)), e)
    (record { number = refl; last_is = refl; values = λ a. ap (λ (f : Values). f a) t.kept_values; as_many = t.kept_length })

-- an archive of true records is accepted
pub true_archive_plays : (rs : List Record) (v : List ℕ) (last : ℕ) → length v ≡ 256 → AllWellFormed rs → Numbered last rs → Replays rs (values_of v)
    → Plays rs (values_of v) last 0 (archive_played (archive_of rs) last v)
unfolding replay_of
true_archive_plays rs v last hv w n g =
    let s = archive_of rs ++ [] in
    let at = length (archive_of rs) in
    let t = play_through rs [] s 0 last v (omega arith) hv refl w n g in
    let there : at ≡ length s = rw append-nil in
    rw append-nil at
    (play_ends rs s v last 0 t (turn s at (last + length rs) t.kept t.kept Answer.End (omega arith) (rw (ends_there s at (last + length rs) there))))

pub archive_plays : (rs : List Record) → AllWellFormed rs → Numbered 0 rs → Replays rs zeros → Plays rs zeros 0 0 (archive_played (archive_of rs) 0 fresh)
archive_plays rs w n g = rw (fresh_values 256) at (true_archive_plays rs fresh 0 refl w n (rw (fresh_values 256) g))

-- what is to be refused is refused, and changes nothing
refuses_play : (t s : List ℕ) (at last : ℕ) (v : List ℕ) (k : ℕ) → drop at s ≡ t → length v ≡ 256 → PlayRefusal t last (values_of v) k
    → replayed v (Answer.Refused k) ≡ replay_of s at last v
unfolding replay_of
refuses_play t s at last v k e l (unread why) = rw (refuses_there t s at last k e why)
refuses_play t s at last v k e l (differs r b c apart) =
    let there : drop at s ≡ bytes_of r ++ b.tail = e ∙ sym b.bytes in
    let same : record_of (drop at s) ≡ r = rw there (written_read r b.tail b.well_formed).record_is in
    let one = replaying (drop at s) v l (rw same b.well_formed.writes_fit) in
    rw (reads_there r b.tail s at last there b.well_formed c) (by_test (reads_agree (drop at s) v) (λ q. apart (rw same at (one.reads_tell q))))
  where
    by_test : (a : Bool) → (a ≡ true → ⊥) → replayed v (Answer.Refused 14) ≡ on_test (drop at s) v (fields_of (bytes_of r ++ b.tail) at) a
    by_test true z = absurd (z refl)
    by_test false z = refl

-- true records with something to be refused behind them: the number, and what the records leave is kept
pub refused_plays : (rs : List Record) (rest v : List ℕ) (last k : ℕ) → length v ≡ 256 → AllWellFormed rs → Numbered last rs → Replays rs (values_of v)
    → PlayRefusal rest (last + length rs) (left rs (values_of v)) k → Plays rs (values_of v) last k (archive_played (archive_of rs ++ rest) last v)
refused_plays rs rest v last k hv w n g why =
    let s = archive_of rs ++ rest in
    let at = length (archive_of rs) in
    let t = play_through rs rest s 0 last v (omega arith) hv refl w n g in
    let sizes = length-append (archive_of rs) rest in
    let there = refuses_play rest s at (last + length rs) t.kept k (drop-append_seam (archive_of rs) rest) t.kept_length (rw t.kept_values why) in
    play_ends rs s v last k t (turn s at (last + length rs) t.kept t.kept (Answer.Refused k) (omega arith) there)
