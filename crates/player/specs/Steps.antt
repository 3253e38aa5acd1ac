-- The turns of a play: one more than the bytes that are left is enough, and a turn leaves the play from the record's end on.
use Rattle.std.specs.Prelude.{ℕ, zero, suc, ◌+◌, ◌-◌, ◌≤◌, ◌<◌, ◌≡◌, refl, List, Bool, true, false, cond, length, take, drop, get_or, eqb}
use Rattle.std.proofs.Common.{sym, ap, ◌∙◌, arith, eq-eqb, ne_eqb}
use Rattle.lists.specs.Stores.{to_the_end}
use Rattle.text.specs.Text.{Put, put, has_room_lem}
use Rattle.archive.specs.declared.Fields.{Fields}
use Rattle.archive.specs.declared.Answer.{Answer}
use Rattle.archive.specs.declared.Answer.TheVariants.{Record, End, Refused}
use Rattle.replay.specs.Replay.{replayed, replay_of}
use Rattle.replay.specs.Fuel.{replay_read, onwards, moves}
use Rattle.report.specs.Text.{longest}
use Rattle.player.specs.declared.Job.{Job}
use Rattle.player.specs.Play.{Noted, noted, note_of, Ran, ran, no_room, run_for, run_from, run_of}

-- with turns to spare, how many there are makes no difference
pub run_enough : (m n : ℕ) (job : Job) (base : ℕ) (s : List ℕ) (at last : ℕ) (v c : List ℕ) (p : Put) → at ≤ length s → length s < at + m → length s < at + n
    → run_from m job base s at last v c p ≡ run_from n job base s at last v c p
unfolding run_from
run_enough zero n job base s at last v c p h hm hn = absurd (omega arith)
run_enough (suc m) zero job base s at last v c p h hm hn = absurd (omega arith)
run_enough (suc m) (suc n) job base s at last v c p h hm hn =
    ap (cond (eqb last job.until) (ran v c p at last 0))
    (on_answer_lem (λ q l w d x. run_enough m n job base s q l w d x) (replay_of s at last v).answer refl)
  where
    w₁ : List ℕ
    w₁ = (replay_of s at last v).values

    on_answer_lem : ((q l : ℕ) (w d : List ℕ) (x : Put) → q ≤ length s → length s < q + m → length s < q + n → run_from m job base s q l w d x ≡ run_from n job base s q l w d x)
        → (a : Answer) → (replay_of s at last v).answer ≡ a
        → run_for (run_from m job base s) job base (drop at s) at last v w₁ c p a ≡ run_for (run_from n job base s) job base (drop at s) at last v w₁ c p a
    on_answer_lem rest (Record f) e =
        let o = onwards s at last f (replay_read s at last v f e) in
        let note = note_of job base (drop at s) f (get_or v job.counter 0) (get_or w₁ job.counter 0) c p in
        ap (λ (r : Ran). cond (has_room_lem longest (length note.text.out) note.text.at) r (ran w₁ note.counts note.text f.end f.commit no_room))
        (rest f.end f.commit w₁ note.counts note.text o.within (omega arith) (omega arith))
    on_answer_lem rest End e = refl
    on_answer_lem rest (Refused k) e = refl

-- before the first turn
pub begins : (job : Job) (base : ℕ) (s : List ℕ) (last : ℕ) (v c : List ℕ) (p : Put)
    → run_of job base s last v c p ≡ run_from (suc (length s) - 0) job base s 0 last v c p
unfolding run_of
begins job base s last v c p = ap (λ (k : ℕ). run_from k job base s 0 last v c p) (omega arith)

-- one turn, with the turns that are left counted by the bytes that are left
module _ (job : Job) (base : ℕ) (s : List ℕ) (at last : ℕ) (v c : List ℕ) (p : Put) (inside : at ≤ length s) where
  one_turn : run_from (suc (length s) - at) job base s at last v c p ≡ run_from (suc (length s - at)) job base s at last v c p
  one_turn = let n : suc (length s) - at ≡ suc (length s - at) = omega arith in ap (λ (k : ℕ). run_from k job base s at last v c p) n

  pub reached : last ≡ job.until → run_from (suc (length s) - at) job base s at last v c p ≡ ran v c p at last 0
  unfolding run_from
  reached e = one_turn ∙ rw (eq-eqb last job.until e)

  pub turn : (last ≡ job.until → ⊥) → (w : List ℕ) (a : Answer) → replayed w a ≡ replay_of s at last v
      → run_from (suc (length s) - at) job base s at last v c p ≡ run_for (run_from (length s - at) job base s) job base (drop at s) at last v w c p a
  unfolding run_from
  turn far w a e = one_turn ∙ rw (ne_eqb last job.until far, ← e)

  module _ (far : last ≡ job.until → ⊥) (w : List ℕ) (f : Fields) (e : replayed w (Record f) ≡ replay_of s at last v) (d : List ℕ) (q : Put) where
    -- what a record's note leaves
    abbrev note : Noted
    note = note_of job base (drop at s) f (get_or v job.counter 0) (get_or w job.counter 0) c p

    abbrev behind : Noted → Ran
    behind n =
        cond (has_room_lem longest (length n.text.out) n.text.at) (run_from (length s - at) job base s f.end f.commit w n.counts n.text)
        (ran w n.counts n.text f.end f.commit no_room)

    noted_turn : noted d q ≡ note → run_from (suc (length s) - at) job base s at last v c p ≡ behind (noted d q)
    noted_turn told = turn far w (Record f) e ∙ ap behind (sym told)

    is_note : {before after : ℕ} → noted d q ≡ note_of job base (take (length s - at) (drop at s)) f before after c p
        → before ≡ get_or v job.counter 0 → after ≡ get_or w job.counter 0 → noted d q ≡ note
    is_note en eb ea = rw (to_the_end, eb, ea) at en

    -- a record's turn leaves the play from its end on
    pub turn_record : {before after : ℕ} → noted d q ≡ note_of job base (take (length s - at) (drop at s)) f before after c p
        → before ≡ get_or v job.counter 0 → after ≡ get_or w job.counter 0 → has_room_lem longest (length q.out) q.at ≡ true
        → run_from (suc (length s) - at) job base s at last v c p ≡ run_from (suc (length s) - f.end) job base s f.end f.commit w d q
    turn_record en eb ea room =
        let o = moves s at last v w f e in
        noted_turn (is_note en eb ea)
        ∙ rw room (run_enough (length s - at) (suc (length s) - f.end) job base s f.end f.commit w d q o.within (omega arith) (omega arith))

    -- or the end, where another line has no room
    pub turn_full : {before after : ℕ} → noted d q ≡ note_of job base (take (length s - at) (drop at s)) f before after c p
        → before ≡ get_or v job.counter 0 → after ≡ get_or w job.counter 0 → has_room_lem longest (length q.out) q.at ≡ false
        → run_from (suc (length s) - at) job base s at last v c p ≡ ran w d q f.end f.commit no_room
    turn_full en eb ea room = noted_turn (is_note en eb ea) ∙ rw room
