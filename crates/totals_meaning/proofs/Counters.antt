-- The table of counters (docs/PLAYBACK.md, `--totals` and `--at N`) means document 01's archive: the values are those that the first
-- records leave, and the counts are how many of these records write each counter.
use Rattle.std.specs.Prelude.{ℕ, zero, suc, ◌+◌, ◌^◌, ◌≤◌, ◌<◌, ◌≡◌, refl, Bool, true, false, cond, List, [], length, drop, get_or, eqb}
use Rattle.std.proofs.Common.{sym, ap, ◌∙◌, add-zero, arith, drop_of_length-le, eqb-true}
use Rattle.lists.specs.Bytes.{Bytes}
use Rattle.layout.specs.Record.{Record}
use Rattle.record.specs.Check.{check_of}
use Rattle.record_meaning.specs.Parse.{record_of}
use Rattle.archive.specs.declared.Fields.{Fields}
use Rattle.archive.specs.declared.Answer.{Answer}
use Rattle.archive.specs.Read.{read_of}
use Rattle.archive.specs.Facts.{recorded}
use Rattle.replay.specs.Replay.{reads_agree, stored, on_answer, replay_of}
use Rattle.replay.specs.Fuel.{onwards}
use Rattle.archive_meaning.specs.Facts.{ReadRefusal, OneRead}
use Rattle.archive_meaning.proofs.Facts.{refused_number, one_read, tells}
use Rattle.archive_meaning.proofs.Stored.{fresh_values, replaying}
use Rattle.archive_meaning.specs.Replay.{fresh, on_test, no_record_yet}
use Rattle.archive_meaning.proofs.Replay.{one_before}
use Rattle.totals.specs.Totals.{counted}
use Rattle.totals.specs.Tally.{Tallied, tallied, noted, tally_for, tally_from, tally_of}
use Rattle.totals.specs.Writers.{one_record, length_counted}
use Rattle.totals_meaning.proofs.Whole.{number_fits}
use Rattle.totals_meaning.specs.Written.{writes_to}
use Rattle.totals_meaning.proofs.Written.{written_is}
use Rattle.totals_meaning.specs.Counters.{Counters, Counting, Few, TalliedTo}

-- a tally that goes no further
stops : (s : List ℕ) (until at last : ℕ) (v c : List ℕ) (k : ℕ) → (k ≡ 0 → (last ≡ until → ⊥) → drop at s ≡ []) → TalliedTo s until at last v c (tallied v c at last k)
unfolding no_record_yet
stops s until at last v c k nothing = record { stretch = no_record_yet s at last v; counts = λ a h. sym (add-zero (get_or c a 0)); whole = nothing }

-- a record in front of a tally
step : (s : List ℕ) (until at last : ℕ) (v c : List ℕ) (f : Fields) (t : Tallied) → length v ≡ 256 → OneRead s at last f → reads_agree (drop at s) v ≡ true
    → ((a : ℕ) → a < 256 → get_or (counted (drop at s) c) a 0 ≡ get_or c a 0 + cond (writes_to a (record_of (drop at s)).writes) 1 0)
    → TalliedTo s until f.end (suc last) (stored (drop at s) v) (counted (drop at s) c) t → TalliedTo s until at last v c t
unfolding one_before
step s until at last v c f t l one agree more-counts more =
    record {
      stretch = one_before s at last v f l one agree more.stretch;
      counts = λ a h. omega (arith, more.counts a h, more-counts a h);
      whole = more.whole;
    }

one_or_none : (b : Bool) → cond b 1 0 ≤ 1
one_or_none true = omega arith
one_or_none false = omega arith

counting : (s : List ℕ) (at last : ℕ) (c : List ℕ) (f : Fields) → read_of s at last ≡ Answer.Record f → length c ≡ 256 → Few c last → last < 2 ^ 32
    → Counting (drop at s) c last
counting s at last c f e hc few fits = record { each = each; few = least; as_many = length_counted p c checks ∙ hc }
  where
    p : List ℕ
    p = drop at s

    checks : check_of p ≡ 0
    checks = (recorded s at last f e).checks

    each : (a : ℕ) → a < 256 → get_or (counted p c) a 0 ≡ get_or c a 0 + cond (writes_to a (record_of p).writes) 1 0
    each a h = one_record p c checks a (omega arith) (omega (arith, few a h)) ∙ ap (λ (b : Bool). get_or c a 0 + cond b 1 0) (written_is p a)

    least : Few (counted p c) (suc last)
    least a h = omega (arith, each a h, few a h, one_or_none (writes_to a (record_of p).writes))

tally_to : (turns : ℕ) (s : List ℕ) (until at last : ℕ) (v c : List ℕ) → Bytes s → length v ≡ 256 → length c ≡ 256 → Few c last → last < 2 ^ 32
    → at ≤ length s → length s < at + turns → TalliedTo s until at last v c (tally_from turns true s until at last v c)
unfolding tally_from replay_of noted
tally_to zero s until at last v c hs hv hc few fits h ht = absurd (omega arith)
tally_to (suc turns) s until at last v c hs hv hc few fits h ht =
    by_test (λ p l w d a b e g i j. tally_to turns s until p l w d hs a b e g i j) (eqb last until) refl
  where
    p : List ℕ
    p = drop at s

    Next : Type 0
    Next =
        (q l : ℕ) (w d : List ℕ) → length w ≡ 256 → length d ≡ 256 → Few d l → l < 2 ^ 32 → q ≤ length s → length s < q + turns
        → TalliedTo s until q l w d (tally_from turns true s until q l w d)

    onward : List ℕ → Answer → Tallied
    onward w a = tally_for (tally_from turns true s until) true p at last w c a

    on_agree : Next → (f : Fields) → read_of s at last ≡ Answer.Record f → (b : Bool) → reads_agree p v ≡ b
        → TalliedTo s until at last v c (onward (on_test p v f b).values (on_test p v f b).answer)
    on_agree next f e true agree =
        let o = onwards s at last f e in
        let one = one_read s at last f hs e in
        let more = counting s at last c f e hc few fits in
        let size = (replaying p v hv one.well_formed.writes_fit).as_many in
        let below : suc last < 2 ^ 32 = rw one.commit_is at (number_fits s at last f hs e) in
        rw one.commit_is
        (step s until at last v c f _ hv one agree more.each (next f.end (suc last) (stored p v) (counted p c) (size ∙ hv) more.as_many more.few below o.within (omega arith)))
    on_agree next f e false agree = stops s until at last v c 14 (λ z far. absurd (omega arith))

    on_answer_lem : Next → (a : Answer) → read_of s at last ≡ a → TalliedTo s until at last v c (onward (on_answer p v a).values (on_answer p v a).answer)
    on_answer_lem next (Answer.Record f) e = on_agree next f e (reads_agree p v) refl
    on_answer_lem next Answer.End e =
        let there : at ≡ length s = rw e at (tells s at last hs h) in
        stops s until at last v c 0 (λ z far. drop_of_length-le s {i = at} (omega arith))
    on_answer_lem next (Answer.Refused k) e =
        let reason : ReadRefusal p last k = rw e at (tells s at last hs h) in
        stops s until at last v c k (λ z far. absurd (omega (arith, refused_number p last k reason)))

    by_test : Next → (b : Bool) → eqb last until ≡ b
        → TalliedTo s until at last v c (cond b (tallied v c at last 0) (onward (replay_of s at last v).values (replay_of s at last v).answer))
    by_test next true e = stops s until at last v c 0 (λ z far. absurd (far (eqb-true _ _ e)))
    by_test next false e = on_answer_lem next (read_of s at last) refl

fresh_0 : (a : ℕ) → get_or fresh a 0 ≡ 0
fresh_0 a = ap (λ (f : ℕ → ℕ). f a) (fresh_values 256)

from_fresh : (s : List ℕ) (until : ℕ) (t : Tallied) → TalliedTo s until 0 0 fresh fresh t → Counters s until t
from_fresh s until t tally =
    let all = tally.stretch in
    record {
      records = all.records;
      rest = all.rest;
      bytes = all.bytes;
      well_formed = all.well_formed;
      numbered = all.numbered;
      replays = rw (fresh_values 256) at all.replays;
      as_many = omega (arith, all.last_is);
      values = λ a. ap (λ (f : ℕ → ℕ). f a) (rw (fresh_values 256) at all.values);
      counts = λ a h. omega (arith, tally.counts a h, fresh_0 a);
      whole = tally.whole;
    }

pub table_means : (s : List ℕ) (until : ℕ) → Bytes s → Counters s until (tally_of true s 0 until fresh fresh)
unfolding tally_of
table_means s until hs =
    from_fresh s until _
    (tally_to (suc (length s)) s until 0 0 fresh fresh hs refl refl (λ a h. omega (arith, fresh_0 a)) (omega arith) (omega arith) (omega arith))
