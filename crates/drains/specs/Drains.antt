-- DRAINS: deliveries alone come to an end, whatever their order. Each that is taken lowers the weight, in every world, so no list of
-- them is longer than the weight of the world that it starts from; and the weight is bounded by the messages under way.
use Rattle.std.specs.Prelude.{◌≡◌, refl, Bool, true, false, List, [], ◌∷◌, ℕ, zero, suc, ◌+◌, ◌*◌, ◌≤◌, ◌<◌, ltb, length}
use Rattle.std.proofs.Common.{sym, ◌∙◌, arith}
use Rattle.std.proofs.lemmas.Bool.{false≢true}
use Rattle.sets.specs.Base.{upd}
use Rattle.sets.specs.Laws.{by_b, by_eq}
use Rattle.sets.proofs.Laws.{eqb_same, eqb_yes, ltb_yes}
use Rattle.line.specs.Messages.{Up, ReadRequest, WriteRequest, Commit, Abort, Purge, Busy, Done, WrittenSet, Down, Answer, Nothing, Begun, Value, Waits, Written, CommittedAs, AbortedFor, Purged, Refused, Empty}
use Rattle.line.specs.Station.{Did, station_step, Kept}
use Rattle.line.specs.Server.{unexpected}
use Rattle.line.specs.Fuel.{sum_to, sum_le, sum_at, sum_1, nb, nb_1}
use Rattle.line.specs.Bounds.{room_104}
use Rattle.line.specs.Line.{World, world_down, Op, Call, Owner, ServerTakes, StationTakes, Broken, tell, carry_up, is_refused, station_takes, server_takes, act, run}
use Rattle.truth.specs.Inv.{after_station}
use Rattle.progress.specs.Clauses.{is_kept}
use Rattle.drains.specs.Weights.{weigh_up, weigh_ups, weigh_kept, weigh_line, weight, ups_append, sum_add, sum_three, sum_most}
use Rattle.drains.specs.Server.{server_lowers}
use Rattle.drains.specs.Station.{step_weighs}

-- the two calls that deliver a message
abbrev pub delivers : Call → Bool
delivers (Owner i op) = false
delivers (ServerTakes i) = true
delivers (StationTakes i) = true
delivers (Broken n) = false

-- to tell an owner weighs nothing
tell_weighs : (i : ℕ) (op : Op) (a : Answer) (w : World) → weight (tell i op a w) ≡ weight w
unfolding tell
tell_weighs i op Nothing w = refl
tell_weighs i op (Begun t) w = refl
tell_weighs i op (Value v) w = refl
tell_weighs i op Waits w = refl
tell_weighs i op Written w = refl
tell_weighs i op (CommittedAs n) w = refl
tell_weighs i op (AbortedFor c) w = refl
tell_weighs i op Purged w = refl
tell_weighs i op (Refused n) w = refl
tell_weighs i op Empty w = refl

-- a station's step
station_lowers : (i : ℕ) (m : Down) (l : List Down) (w : World) → i < 8 → w.down i ≡ m ∷ l → weight (after_station i m l w) + 1 ≤ weight w
unfolding carry_up
station_lowers i m l w b e =
    let d : Did = station_step m (w.station i) in
    let v : World = carry_up i d (world_down w (upd w.down i l)) in
    let did = step_weighs m (w.station i) in
    let lines : sum_to 8 (weigh_line v) + 1 ≤ sum_to 8 (weigh_line w) =
    sum_at 8 (weigh_line v) (weigh_line w) 1 i
    (λ j. by_eq j i (λ q. rw (q, eqb_yes j i q, e, ups_append) (omega arith)) (λ q. rw q (omega arith))) b
    (rw (eqb_same i, e, ups_append) (omega arith)) in
    rw tell_weighs (omega arith)

-- a delivery that is taken lowers the weight, in any world
server_falls : (i : ℕ) (l : List Up) (w : World) → i < 8 → w.up i ≡ l → is_refused (server_takes i l w).reply.answer ≡ false → weight (server_takes i l w).world + 1 ≤ weight w
unfolding server_takes
server_falls i [] w b e r = absurd (false≢true (sym r))
server_falls i (m ∷ l) w b e r =
    by_b (unexpected i m w.server) (λ u. absurd (false≢true (sym (rw u at r)))) (λ u. rw u (server_lowers i m l w b e))

station_falls : (i : ℕ) (l : List Down) (w : World) → i < 8 → w.down i ≡ l → is_refused (station_takes i l w).reply.answer ≡ false → weight (station_takes i l w).world + 1 ≤ weight w
unfolding station_takes
station_falls i [] w b e r = absurd (false≢true (sym r))
station_falls i (m ∷ l) w b e r =
    by_b (is_refused (station_step m (w.station i)).answer)
    (λ u. absurd (false≢true (sym (sym u ∙ (rw u at r)))))
    (λ u. rw u (station_lowers i m l w b e))

pub delivery_falls : (c : Call) (w : World) → delivers c ≡ true → is_refused (act c w).reply.answer ≡ false → weight (act c w).world + 1 ≤ weight w
unfolding act
delivery_falls (Owner i op) w d r = absurd (false≢true d)
delivery_falls (ServerTakes i) w d r =
    by_b (ltb i 8) (λ e. rw e (server_falls i (w.up i) w (ltb_yes i 8 e) refl (rw e at r))) (λ e. absurd (false≢true (sym (rw e at r))))
delivery_falls (StationTakes i) w d r =
    by_b (ltb i 8) (λ e. rw e (station_falls i (w.down i) w (ltb_yes i 8 e) refl (rw e at r))) (λ e. absurd (false≢true (sym (rw e at r))))
delivery_falls (Broken n) w d r = absurd (false≢true d)

-- a list of deliveries, each of them taken when its turn comes
abbrev pub Deliveries : List Call → World → Type 0
Deliveries [] w = Unit {0}
Deliveries (c ∷ cs) w = (delivers c ≡ true) × (is_refused (act c w).reply.answer ≡ false) × Deliveries cs (act c w).world

-- DRAINS: no more of them than the world weighs
pub drains : (cs : List Call) (w : World) → Deliveries cs w → length cs + weight (run cs w) ≤ weight w
unfolding run
drains [] w h = omega arith
drains (c ∷ cs) w h = omega (arith, drains cs (act c w).world h.2, delivery_falls c w h.0 h.1)

-- THE BOUND: 28 for each message up, 3 for each down, 376 for what stations keep and the server still has to send

weigh_28 : (m : Up) → weigh_up m ≤ 28
weigh_28 (ReadRequest a t) = omega arith
weigh_28 (WriteRequest p t set) = omega arith
weigh_28 (Commit w) = omega arith
weigh_28 (Abort t) = omega arith
weigh_28 (Purge p) = omega arith
weigh_28 (Busy r t) = omega arith
weigh_28 (Done r t d) = omega arith
weigh_28 (WrittenSet p t set) = omega arith

ups_most : (l : List Up) → weigh_ups l ≤ 28 * length l
ups_most [] = omega arith
ups_most (m ∷ l) = omega (arith, weigh_28 m, ups_most l)

kept_most : (k : ℕ → Kept) → weigh_kept k ≤ 8
kept_most k = sum_1 8 (λ r. nb (is_kept (k r))) (λ r. nb_1 (is_kept (k r)))

-- messages under way
abbrev pub up_way : World → ℕ
up_way w = sum_to 8 (λ i. length (w.up i))

abbrev pub down_way : World → ℕ
down_way w = sum_to 8 (λ i. length (w.down i))

sum_28 : (n : ℕ) (f : ℕ → ℕ) → sum_to n (λ i. 28 * f i) ≡ 28 * sum_to n f
unfolding sum_to
sum_28 zero f = refl
sum_28 (suc n) f = omega (arith, sum_28 n f)

pub weight_most : (w : World) → weight w ≤ 28 * up_way w + 3 * down_way w + 376
weight_most w =
    let line : (i : ℕ) → ℕ = λ i. 28 * length (w.up i) + (3 * length (w.down i) + 8) in
    let each : sum_to 8 (weigh_line w) ≤ sum_to 8 line =
    sum_le 8 (weigh_line w) line (λ i. omega (arith, ups_most (w.up i), kept_most (w.station i).kept)) in
    omega (arith, room_104 w.server, sum_add 8 (λ i. 28 * length (w.up i)) (λ i. 3 * length (w.down i) + 8), sum_add 8 (λ i. 3 * length (w.down i)) (λ i. 8), sum_28 8 (λ i. length (w.up i)), sum_three 8 (λ i. length (w.down i)), sum_most 8 (λ i. 8) 8 (λ i. omega arith))
