-- What is archived, told, and sent as 21 or 22, is of one of the eight stations.
use Rattle.std.specs.Prelude.{◌≡◌, false, List, [], ◌∷◌, ◌++◌, ℕ, zero, suc, ◌<◌, eqb, ltb}
use Rattle.sets.specs.Laws.{by_b}
use Rattle.sets.proofs.Laws.{ltb_yes}
use Rattle.line.specs.All.{All, all_append}
use Rattle.line.specs.Messages.{last_number, Work, Up, Down, Page, Deescalate, Aborted, Invalidate, Sent, To, Rec, Answer, Nothing, Begun, Value, Waits, Written, CommittedAs, AbortedFor, Purged, Refused, Empty}
use Rattle.line.specs.Station.{station_step}
use Rattle.line.specs.Server.{Server, Serving, notice, finish, join, leave, send_page, abort, write, archive, install, serve_now, join_read, join_write, join_commit, commit_now, unlist, mark_busy, answered, loosen, accept, ask, serve_read, concerned, calls_from, call, grant_page, grant_object, install_waiter, start, unexpected}
use Rattle.line.specs.Line.{World, Op, Call, Owner, ServerTakes, StationTakes, Broken, Told, ToldWrite, writes_of, tell_write, tell_writes, tell, carry_up, carry_down, owner_acts, station_takes, server_takes, act, run, is_refused, fresh}
use Rattle.line.specs.Pass.{Atomic, step_keeps, if_keeps}
use Rattle.truth.proofs.Frame.{all_snoc, installs, accepts, noticed_sent, noticed_recs}
use Rattle.sets.specs.Base.{Val, none, some}
use Rattle.truth.specs.GoalsEight.{AnswerBelow, RecBelow, Serves, Serving8, StationsOf, told_to}

sends_one : {recs : List Rec} {sent : List Sent} (m : Sent) → AnswerBelow m → Serves recs sent → Serves recs (sent ++ (m ∷ []))
sends_one {recs} {sent} m b h = record { records = h.records; sends = all_snoc AnswerBelow sent m h.sends b }

calls_8 : (n j : ℕ) (s : Server) (i : ℕ) → All AnswerBelow (calls_from n j s i)
calls_8 zero j s i = tt
calls_8 (suc n) j s i = let rest = calls_8 n (suc j) s i in by_b (concerned s i j) (λ e. rw e (tt, rest)) (λ e. rw e rest)

abort_8 : (i c : ℕ) (x : Serving) → i < 8 → Serving8 x → Serving8 (abort i c x)
unfolding abort finish leave
abort_8 i c x b h = sends_one (To i (Aborted (x.server.latest i) c)) b h

install_8 : (i : ℕ) (w : Work) (x : Serving) → i < 8 → Serving8 x → Serving8 (install i w x)
unfolding finish archive write leave
install_8 i w x b h =
    installs Serving8 i w (λ j y e g. sends_one {recs = y.recs} {sent = y.sent} (To j (Invalidate _)) tt g) x
    (record { records = all_snoc RecBelow x.recs _ h.records b; sends = all_snoc AnswerBelow x.sent _ h.sends b })

acts_8 : Atomic Serving8
unfolding ask serve_read send_page leave call grant_object grant_page install_waiter
acts_8 =
    record {
      aborts = λ i c x b e h. abort_8 i c x b h;
      asks = λ i g p x b e f h. sends_one {recs = x.recs} {sent = x.sent} (To g (Deescalate _ _)) tt h;
      reads = λ i x b e f h. sends_one {recs = x.recs} {sent = x.sent} (To i (Page _ _ _ _ _ _)) tt h;
      calls = λ i x b e f g k h. record { records = h.records; sends = all_append AnswerBelow x.sent _ h.sends (calls_8 8 0 x.server i) };
      objects = λ i x b e f h. sends_one {recs = x.recs} {sent = x.sent} (To i (Page _ _ _ _ _ _)) tt h;
      pages = λ i x b e f g h. sends_one {recs = x.recs} {sent = x.sent} (To i (Page _ _ _ _ _ _)) tt h;
      installs = λ i x b e f g h. install_8 i (x.server.queue i).work x b h;
    }

module _ (i : ℕ) (b : i < 8) (x : Serving) (h : Serving8 x) where
  noticed_8 : (t : ℕ) → Serving8 (notice i t x)
  noticed_8 t = rw (noticed_recs i t x, noticed_sent i t x) h

  accept_8 : (m : Up) → unexpected i m x.server ≡ false → Serving8 (accept i m x)
  unfolding join_read join_write join_commit join serve_now send_page commit_now finish unlist mark_busy answered loosen
  accept_8 =
      accepts i x (λ m y. Serving8 y)
      (record {
        read_waits = λ a t u e. noticed_8 t;
        read_now = λ a t u e. let y = notice i t x in sends_one {recs = y.recs} {sent = y.sent} (To i (Page _ _ _ _ _ _)) tt (noticed_8 t);
        write_waits = λ p t set u e. noticed_8 t;
        commit_now_lem = λ w u e f. let y = notice i w.transaction x in if_keeps Serving8 (eqb y.server.last last_number) (λ q. abort_8 i 4 y b (noticed_8 w.transaction)) (λ q. install_8 i w y b (noticed_8 w.transaction));
        commit_waits = λ w u e. noticed_8 w.transaction;
        aborts = λ t u e. noticed_8 t;
        purges = λ p e. h;
        busy = λ r t e. h;
        busy_late = λ r t e. h;
        dones = λ r t d e. h;
        done_late = λ r t d e. h;
        loosens = λ p t set e b. h;
        loosens_new = λ p t set e k r. noticed_8 t;
        loosens_late = λ p t set e. h;
      })

writes_8 : (i t n : ℕ) (f : ℕ → Val) (l : List Told) → i < 8 → All (λ e. told_to e < 8) l → All (λ e. told_to e < 8) (tell_writes i t n f l)
unfolding tell_writes
writes_8 i t zero f l b h = h
writes_8 i t (suc n) f l b h = one (tell_writes i t n f l) (f n) (writes_8 i t n f l b h)
  where
    one : (m : List Told) (v : Val) → All (λ e. told_to e < 8) m → All (λ e. told_to e < 8) (tell_write i t n v m)
    one m none k = k
    one m (some v) k = all_snoc (λ e. told_to e < 8) m (ToldWrite i t n v) k b

tell_8 : (i : ℕ) (op : Op) (n : Answer) (w : World) → i < 8 → StationsOf w → StationsOf (tell i op n w)
unfolding tell
tell_8 i op Nothing w b h = h
tell_8 i op (Begun t) w b h = h
tell_8 i op (Value v) w b h = record { records = h.records; tells = all_snoc (λ e. told_to e < 8) w.told _ h.tells b; sends = h.sends }
tell_8 i op Waits w b h = h
tell_8 i op Written w b h = record { records = h.records; tells = writes_8 i (w.number i) 256 (writes_of op) w.told b h.tells; sends = h.sends }
tell_8 i op (CommittedAs n) w b h = record { records = h.records; tells = all_snoc (λ e. told_to e < 8) w.told _ h.tells b; sends = h.sends }
tell_8 i op (AbortedFor c) w b h = record { records = h.records; tells = all_snoc (λ e. told_to e < 8) w.told _ h.tells b; sends = h.sends }
tell_8 i op Purged w b h = h
tell_8 i op (Refused n) w b h = h
tell_8 i op Empty w b h = h

owner_8 : (i : ℕ) (op : Op) (w : World) → i < 8 → StationsOf w → StationsOf (owner_acts i op w).world
unfolding owner_acts carry_up
owner_8 i op w b h = tell_8 i op _ _ b h

server_8 : (i : ℕ) (l : List Up) (w : World) → i < 8 → StationsOf w → StationsOf (server_takes i l w).world
unfolding server_takes carry_down
server_8 i [] w b h = h
server_8 i (m ∷ l) w b h =
    by_b (unexpected i m w.server) (λ u. rw u h)
    (λ u.
    let x = step_keeps Serving8 acts_8 i m w.server (accept_8 i b (start w.server) (record { records = tt; sends = tt }) m u) in
    rw u (record { records = all_append RecBelow w.archive _ h.records x.records; tells = h.tells; sends = all_append AnswerBelow w.sent_down _ h.sends x.sends }))

station_8 : (i : ℕ) (l : List Down) (w : World) → i < 8 → StationsOf w → StationsOf (station_takes i l w).world
unfolding station_takes carry_up
station_8 i [] w b h = h
station_8 i (m ∷ l) w b h = by_b (is_refused (station_step m (w.station i)).answer) (λ u. rw u h) (λ u. rw u (tell_8 i (w.asked i) _ _ b h))

act_8 : (c : Call) (w : World) → StationsOf w → StationsOf (act c w).world
unfolding act
act_8 (Owner i op) w h = by_b (ltb i 8) (λ e. rw e (owner_8 i op w (ltb_yes i 8 e) h)) (λ e. rw e h)
act_8 (ServerTakes i) w h = by_b (ltb i 8) (λ e. rw e (server_8 i (w.up i) w (ltb_yes i 8 e) h)) (λ e. rw e h)
act_8 (StationTakes i) w h = by_b (ltb i 8) (λ e. rw e (station_8 i (w.down i) w (ltb_yes i 8 e) h)) (λ e. rw e h)
act_8 (Broken n) w h = h

run_8 : (cs : List Call) (w : World) → StationsOf w → StationsOf (run cs w)
unfolding run
run_8 [] w h = h
run_8 (c ∷ cs) w h = run_8 cs (act c w).world (act_8 c w h)

pub stations_run : (kinds : ℕ → ℕ) (cs : List Call) → StationsOf (run cs (fresh kinds))
stations_run kinds cs = run_8 cs (fresh kinds) (record { records = tt; tells = tt; sends = tt })
