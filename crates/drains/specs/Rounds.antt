-- Rounds: from a world without messages under way, each owner that does not wait ends its transaction, and what is sent is delivered,
-- in any order, until nothing is under way. Nobody begins, so open transactions only close.
use Rattle.std.specs.Prelude.{◌≡◌, refl, Bool, true, false, cond, ℕ, ◌+◌, ◌≤◌, ◌<◌, eqb, ltb, length}
use Rattle.std.proofs.Common.{sym, ap, ◌∙◌, inl, inr, arith}
use Rattle.std.proofs.lemmas.Bool.{false≢true}
use mathlib.Core.List.{List, [], ◌∷◌}
use Rattle.sets.specs.Base.{upd, any}
use Rattle.sets.specs.Laws.{by_b, by_eq}
use Rattle.sets.proofs.Laws.{eqb_yes, eqb_same, and_l, and_r, any_no, any_some, ltb_no}
use Rattle.line.specs.All.{All}
use Rattle.line.specs.Messages.{locking, Up, Down, Answer, Nothing, Begun, Value, Waits, Written, CommittedAs, AbortedFor, Purged, Refused, Empty}
use Rattle.line.specs.Station.{Station, waiting, for_commit, station_step}
use Rattle.line.specs.Server.{unexpected}
use Rattle.line.specs.Fuel.{sum_to, sum_at, sum_1, nb, nb_1}
use Rattle.line.specs.Truth.{count}
use Rattle.line.specs.Line.{World, Op, Call, Owner, ServerTakes, StationTakes, Broken, perform, tell, carry_up, carry_down, is_refused, owner_acts, station_takes, server_takes, act, run}
use Rattle.truth.proofs.ValidatedMoves.{perform_kind, step_kind}
use Rattle.progress.specs.Out.{Quiet}
use Rattle.drains.specs.Ends.{is_ending, calm, ends_of, Ended, AtWork, step_ended, step_at_work, step_closed, end_ended, end_closed, work_ends}

-- A CALL, seen from station j

tell_station : (i : ℕ) (op : Op) (a : Answer) (w : World) → (tell i op a w).station ≡ w.station
unfolding tell
tell_station i op Nothing w = refl
tell_station i op (Begun t) w = refl
tell_station i op (Value v) w = refl
tell_station i op Waits w = refl
tell_station i op Written w = refl
tell_station i op (CommittedAs n) w = refl
tell_station i op (AbortedFor c) w = refl
tell_station i op Purged w = refl
tell_station i op (Refused n) w = refl
tell_station i op Empty w = refl

module _ (Q : Station → Type 0) (j : ℕ) where
  -- what station i has become
  at_station : (i : ℕ) (s : Station) (w : World) → (eqb i j ≡ true → Q s) → Q (w.station j) → Q (upd w.station i s j)
  at_station i s w h k = by_eq j i (λ e. rw e (h (rw (eqb_yes j i e) (eqb_same i)))) (λ e. rw e k)

  own_call : (i : ℕ) (op : Op) (w : World) → (eqb i j ≡ true → Q (perform op (w.station i)).station) → Q (w.station j) → Q ((owner_acts i op w).world.station j)
  unfolding owner_acts carry_up
  own_call i op w h k = rw tell_station (at_station i (perform op (w.station i)).station w h k)

  station_call : ((m : Down) (s : Station) → Q s → Q (station_step m s).station) → (i : ℕ) (l : List Down) (w : World) → Q (w.station j) → Q ((station_takes i l w).world.station j)
  unfolding station_takes carry_up
  station_call step i [] w k = k
  station_call step i (m ∷ l) w k =
      by_b (is_refused (station_step m (w.station i)).answer) (λ u. rw u k)
      (λ u. rw (u, tell_station) (at_station i (station_step m (w.station i)).station w (λ e. step m (w.station i) (rw (eqb_yes i j e) k)) k))

  server_call : (i : ℕ) (l : List Up) (w : World) → Q (w.station j) → Q ((server_takes i l w).world.station j)
  unfolding server_takes carry_down
  server_call i [] w k = k
  server_call i (m ∷ l) w k = by_b (unexpected i m w.server) (λ u. rw u k) (λ u. rw u k)

  -- .. by a call that is a delivery or an end
  act_station : ((m : Down) (s : Station) → Q s → Q (station_step m s).station) → (c : Call) (w : World) → calm c ≡ true
      → ((op : Op) → ends_of j c ≡ true → is_ending op ≡ true → Q (w.station j) → Q (perform op (w.station j)).station)
      → Q (w.station j) → Q ((act c w).world.station j)
  unfolding act
  act_station step (Owner i op) w c own k =
      by_b (ltb i 8)
      (λ b. rw b (own_call i op w (λ e. rw (eqb_yes i j e) (own op (rw (e, c) refl) c k)) k))
      (λ b. rw b k)
  act_station step (ServerTakes i) w c own k = by_b (ltb i 8) (λ b. rw b (server_call i (w.up i) w k)) (λ b. rw b k)
  act_station step (StationTakes i) w c own k = by_b (ltb i 8) (λ b. rw b (station_call step i (w.down i) w k)) (λ b. rw b k)
  act_station step (Broken n) w c own k = absurd (false≢true c)

-- A LIST of them
abbrev pub Calm : List Call → Type 0
Calm cs = All (λ c. calm c ≡ true) cs

pub closed_stays : (j : ℕ) (cs : List Call) (w : World) → Calm cs → (w.station j).opened ≡ false → ((run cs w).station j).opened ≡ false
unfolding run
closed_stays j [] w h k = k
closed_stays j (c ∷ cs) w h k =
    closed_stays j cs (act c w).world h.1
    (act_station (λ s. s.opened ≡ false) j step_closed c w h.0 (λ op e f. end_closed op (w.station j) f) k)

ended_stays : (j : ℕ) (cs : List Call) (w : World) → Calm cs → Ended (w.station j) → Ended ((run cs w).station j)
unfolding run
ended_stays j [] w h k = k
ended_stays j (c ∷ cs) w h k =
    ended_stays j cs (act c w).world h.1 (act_station Ended j step_ended c w h.0 (λ op e f. end_ended op (w.station j) f) k)

kind_stays : (j k : ℕ) (cs : List Call) (w : World) → Calm cs → (w.station j).kind ≡ k → ((run cs w).station j).kind ≡ k
unfolding run
kind_stays j k [] w h e = e
kind_stays j k (c ∷ cs) w h e =
    kind_stays j k cs (act c w).world h.1
    (act_station (λ s. s.kind ≡ k) j (λ m s q. step_kind m s ∙ q) c w h.0 (λ op f g q. perform_kind op (w.station j) ∙ q) e)

-- the call that ends it
below : (i : ℕ) → i < 8 → ltb i 8 ≡ true
below i b = by_b (ltb i 8) (λ e. e) (λ e. absurd (omega (arith, ltb_no i 8 e)))

ends_here : (j : ℕ) (c : Call) (w : World) → j < 8 → ends_of j c ≡ true → AtWork (w.station j) → Ended ((act c w).world.station j)
unfolding act owner_acts carry_up
ends_here j (Owner i op) w b e k =
    let q : i ≡ j = eqb_yes i j (and_l (eqb i j) _ e) in
    rw (q, below j b, tell_station, eqb_same j) (work_ends op (w.station j) (and_r (eqb i j) (is_ending op) e) k)
ends_here j (ServerTakes i) w b e k = absurd (false≢true e)
ends_here j (StationTakes i) w b e k = absurd (false≢true e)
ends_here j (Broken n) w b e k = absurd (false≢true e)

pub work_over : (j : ℕ) (cs : List Call) (w : World) → j < 8 → Calm cs → 1 ≤ count (ends_of j) cs → AtWork (w.station j) → Ended ((run cs w).station j)
unfolding run
work_over j [] w b h n k = absurd (omega arith)
work_over j (c ∷ cs) w b h n k =
    by_b (ends_of j c)
    (λ e. ended_stays j cs (act c w).world h.1 (ends_here j c w b e k))
    (λ e.
    let rest : 1 ≤ cond {A = ℕ} false 1 0 + count (ends_of j) cs = rw e at n in
    work_over j cs (act c w).world b h.1 (omega arith)
    (act_station AtWork j step_at_work c w h.0 (λ op f g. absurd (false≢true (sym e ∙ f))) k))

-- ROUNDS

pub record Round (w : World) (cs : List Call) : Type 0 where
  pub calls : Calm cs  -- deliveries and ends alone
  pub all_end : (i : ℕ) → i < 8 → (w.station i).opened ≡ true → waiting (w.station i).wait ≡ false → 1 ≤ count (ends_of i) cs  -- each owner that does not wait ends its transaction
  pub quiet : Quiet (run cs w)  -- until nothing is under way

abbrev pub Rounds : List (List Call) → World → Type 0
Rounds [] w = Unit {0}
Rounds (r ∷ rs) w = Round w r × Rounds rs (run r w)

abbrev pub runs : List (List Call) → World → World
runs [] w = w
runs (r ∷ rs) w = runs rs (run r w)

-- somebody waits
abbrev pub some_waits : World → Bool
some_waits w = any 8 (λ i. waiting (w.station i).wait)

-- open transactions
abbrev pub open_now : World → ℕ
open_now w = sum_to 8 (λ i. nb (w.station i).opened)

-- who can act: a locking station with an open transaction whose owner does not wait
pub record CanAct (w : World) : Type 0 where
  pub who : ℕ
  pub station : who < 8
  pub at_work : AtWork (w.station who)

-- what is known of a world without messages under way: if somebody waits, somebody can act; whoever is closed does not wait; no
-- locking station waits for its commit's answer
pub record Known (w : World) : Type 0 where
  pub leads : some_waits w ≡ true → CanAct w
  pub closed_idle : (i : ℕ) → i < 8 → (w.station i).opened ≡ false → waiting (w.station i).wait ≡ false
  pub answered : (i : ℕ) → i < 8 → locking (w.station i).kind ≡ true → for_commit (w.station i).wait ≡ false

closed_or_open : (b : Bool) (o : Bool) → (b ≡ false → o ≡ false) → nb o ≤ nb b
closed_or_open true true h = omega arith
closed_or_open true false h = omega arith
closed_or_open false true h = absurd (false≢true (sym (h refl)))
closed_or_open false false h = omega arith

-- A ROUND between two worlds of which that much is known
module _ (w : World) (cs : List Call) (k : Known w) (k' : Known (run cs w)) (r : Round w cs) where
  kind : (j : ℕ) → ((run cs w).station j).kind ≡ (w.station j).kind
  kind j = kind_stays j (w.station j).kind cs w r.calls refl

  -- who could act is closed
  acted_closed : (j : ℕ) → j < 8 → AtWork (w.station j) → ((run cs w).station j).opened ≡ false
  acted_closed j b a = over (work_over j cs w b r.calls (r.all_end j b a.opened a.idle) a)
    where
      over : Ended ((run cs w).station j) → ((run cs w).station j).opened ≡ false
      over (inl h) = h
      over (inr h) = absurd (false≢true (sym (k'.answered j b (ap locking (kind j) ∙ a.locks)) ∙ h))

  -- if somebody waits, one transaction fewer is open behind the round
  round_less : some_waits w ≡ true → open_now (run cs w) + 1 ≤ open_now w
  round_less e =
      let a : CanAct w = k.leads e in
      let j : ℕ = a.who in
      sum_at 8 (λ i. nb ((run cs w).station i).opened) (λ i. nb (w.station i).opened) 1 j
      (λ i. closed_or_open (w.station i).opened ((run cs w).station i).opened (closed_stays i cs w r.calls)) a.station
      (rw (acted_closed j a.station a.at_work, a.at_work.opened) (omega arith))

  -- if nobody waits, nobody does behind it
  round_none : some_waits w ≡ false → some_waits (run cs w) ≡ false
  round_none e =
      by_b (some_waits (run cs w))
      (λ f.
      let a : CanAct (run cs w) = k'.leads f in
      let j : ℕ = a.who in
      by_b (w.station j).opened
      (λ o.
      let at : AtWork (w.station j) = record { locks = ap locking (sym (kind j)) ∙ a.at_work.locks; opened = o; idle = any_no 8 (λ i. waiting (w.station i).wait) e j a.station } in
      absurd (false≢true (sym (acted_closed j a.station at) ∙ a.at_work.opened)))
      (λ o. absurd (false≢true (sym (closed_stays j cs w r.calls o) ∙ a.at_work.opened))))
      (λ f. f)

-- ROUND AFTER ROUND
abbrev pub AllKnown : List (List Call) → World → Type 0
AllKnown [] w = Known w
AllKnown (r ∷ rs) w = Known w × AllKnown rs (run r w)

known_now : (rs : List (List Call)) (w : World) → AllKnown rs w → Known w
known_now [] w k = k
known_now (r ∷ rs) w k = k.0

none_stays : (rs : List (List Call)) (w : World) → AllKnown rs w → Rounds rs w → some_waits w ≡ false → some_waits (runs rs w) ≡ false
none_stays [] w k h e = e
none_stays (r ∷ rs) w k h e = none_stays rs (run r w) k.1 h.1 (round_none w r k.0 (known_now rs (run r w) k.1) h.0 e)

each_less : (rs : List (List Call)) (w : World) → AllKnown rs w → Rounds rs w → some_waits (runs rs w) ≡ true → open_now (runs rs w) + length rs ≤ open_now w
each_less [] w k h e = omega arith
each_less (r ∷ rs) w k h e =
    let rest = each_less rs (run r w) k.1 h.1 e in
    by_b (some_waits w)
    (λ f. omega (arith, round_less w r k.0 (known_now rs (run r w) k.1) h.0 f))
    (λ f. absurd (false≢true (sym (none_stays (r ∷ rs) w k h f) ∙ e)))

known_last : (rs : List (List Call)) (w : World) → AllKnown rs w → Known (runs rs w)
known_last [] w k = k
known_last (r ∷ rs) w k = known_last rs (run r w) k.1

-- who waits has a transaction open
waits_open : (w : World) → Known w → some_waits w ≡ true → 1 ≤ open_now w
waits_open w k e =
    let a = any_some 8 (λ i. waiting (w.station i).wait) e in
    let i : ℕ = a.0 in
    let o : (w.station i).opened ≡ true = by_b (w.station i).opened (λ q. q) (λ q. absurd (false≢true (sym (k.closed_idle i a.1 q) ∙ a.2))) in
    let z : sum_to 8 (λ j. 0) + 1 ≤ open_now w = sum_at 8 (λ j. 0) (λ j. nb (w.station j).opened) 1 i (λ j. omega arith) a.1 (rw o (omega arith)) in
    omega arith

-- WAITS END: after eight rounds nobody waits
pub waits_end : (rs : List (List Call)) (w : World) → AllKnown rs w → Rounds rs w → 8 ≤ length rs → some_waits (runs rs w) ≡ false
waits_end rs w k h n =
    by_b (some_waits (runs rs w))
    (λ e.
    absurd (omega (arith, each_less rs w k h e, waits_open (runs rs w) (known_last rs w k) e, sum_1 8 (λ i. nb (w.station i).opened) (λ i. nb_1 (w.station i).opened))))
    (λ e. e)
