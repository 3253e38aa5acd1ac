-- "a kept callback from the station itself" is number 1: no run leaves one. So every call of every run keeps the bounds, a station's 8
-- messages among them.
use Rattle.std.specs.Prelude.{◌≡◌, ◌&&◌, List, ◌∷◌, eqb}
use Rattle.std.proofs.Math.Path.{refl}
use Rattle.std.proofs.Math.Bool.{not}
use Prim.Native.Nat.{ℕ, zero, suc}
use Rattle.sets.specs.Base.{Val, none, some, turned}
use Rattle.sets.specs.Laws.{by_b, by_eq}
use Rattle.sets.proofs.Laws.{eqb_yes}
use Rattle.line.specs.Messages.{Lock, NoLock, ObjectLock, WholeLock, Down, Page, Deescalate, Callback, Committed, Aborted, Invalidate}
use Rattle.line.specs.Station.{Station, Did, unless, Wait, Idle, ForRead, ForWrite, ForCommit, NotKept, live, shown, ended, fits, in_use, for_commit, check_begin, check_open, check_read, some_on, check_write, check_purge, drop_pages, mark, record_read, write_local, do_callback, do_kept, do_all_kept, closed, close, own_begin, read_local, read_ask, read_as, own_read, named, write_ask, write_set, of_page, own_write, own_commit, own_abort, own_purge, arrive, take_lock, answer_wait, on_page, on_deescalate, loosen, on_callback, on_committed, on_aborted, on_invalidate, on_down, station_step, gives_up}
use Rattle.line.specs.Server.{server_step}
use Rattle.line.specs.Line.{Op, Begin, Read, WriteSet, Commits, Aborts, Purges, perform, Call, fresh, sent_to, act, run}
use Rattle.line.specs.All.{All, all_append}
use Rattle.line.specs.Runs.{Moves, run_keeps}
use Rattle.line.specs.Bounds.{kept_stays, undo_kept, ReplyBound, call_bound}
use Rattle.line.specs.Says.{Says, step_says, sent_to_says}

-- nothing of its own is kept by the station own
abbrev pub KeepsOthers : ℕ → Did → Type 0
KeepsOthers own d = d.station.kept own ≡ NotKept

module _ (own : ℕ) where
  pub all_kept : (n r : ℕ) (d : Did) → KeepsOthers own d → KeepsOthers own (do_all_kept n r d)
  unfolding do_all_kept
  all_kept zero r d e = e
  all_kept (suc n) r d e = all_kept n (suc r) (do_kept r (d.station.kept r) d) (kept_stays own r (d.station.kept r) d e)

  close_kept : (d : Did) → KeepsOthers own d → KeepsOthers own (close d)
  unfolding close closed
  close_kept d e = all_kept 8 0 _ e

  module _ (s : Station) (e : s.kept own ≡ NotKept) where
    unless_kept : (n : ℕ) (d : Did) → KeepsOthers own d → KeepsOthers own (unless n d s)
    unless_kept n d h = by_b (eqb n 0) (λ q. rw q h) (λ q. rw q e)

    read_kept : (a : ℕ) (v r : Val) → KeepsOthers own (read_as a v r s)
    unfolding read_as read_local read_ask record_read
    read_kept a none none = by_b (shown s a) (λ q. rw q e) (λ q. rw q e)
    read_kept a none (some v) = e
    read_kept a (some v) r = e

    -- an owner's operation
    pub owner_kept : (op : Op) → KeepsOthers own (perform op s)
    unfolding perform own_begin own_read own_write write_set write_local write_ask own_commit own_abort own_purge drop_pages
    owner_kept Begin = unless_kept (check_begin s) _ e
    owner_kept (Read a) = unless_kept (check_read a s) _ (read_kept a (s.wr a) (s.rd a))
    owner_kept (WriteSet p f) = unless_kept (check_write p (of_page p f) s) _ (by_b (some_on p (named (of_page p f) s)) (λ q. rw q e) (λ q. rw q e))
    owner_kept Commits = unless_kept (check_open s) _ e
    owner_kept Aborts = unless_kept (check_open s) _ (close_kept _ (rw (undo_kept s) e))
    owner_kept (Purges p) = unless_kept (check_purge p s) _ e

  answer_kept : (w : Wait) (s : Station) → s.kept own ≡ NotKept → KeepsOthers own (answer_wait w s)
  unfolding answer_wait record_read write_local
  answer_kept Idle s e = e
  answer_kept (ForRead a) s e = e
  answer_kept (ForWrite p f) s e = e
  answer_kept ForCommit s e = e

  lock_kept : (l : Lock) (a : ℕ) (s : Station) → (take_lock l a s).kept ≡ s.kept
  unfolding take_lock
  lock_kept NoLock a s = refl
  lock_kept ObjectLock a s = refl
  lock_kept WholeLock a s = refl

  down_kept : (m : Down) (s : Station) → Says own m → s.kept own ≡ NotKept → KeepsOthers own (on_down m s)
  unfolding on_down on_page arrive on_deescalate loosen on_callback do_callback mark drop_pages on_committed on_aborted on_invalidate
  down_kept (Page l a t v u x) s h e = by_b (ended s t) (λ q. rw q e) (λ q. rw q (answer_kept s.wait _ (rw (lock_kept l a s) e)))
  down_kept (Deescalate p t) s h e = by_b (gives_up p t s) (λ q. rw q e) (λ q. rw q e)
  down_kept (Callback r t set) s h e = by_b (in_use set s) (λ q. rw (q, h) e) (λ q. rw q e)
  down_kept (Committed t n) s h e = close_kept _ e
  down_kept (Aborted t c) s h e = close_kept _ (rw (undo_kept s) e)
  down_kept (Invalidate d) s h e = by_b (in_use d s && not (for_commit s.wait)) (λ q. rw q (close_kept _ (rw (undo_kept (mark d s)) e))) (λ q. rw q e)

  -- a delivery of what the server sends
  pub station_kept : (m : Down) (s : Station) → Says own m → s.kept own ≡ NotKept → KeepsOthers own (station_step m s)
  unfolding station_step
  station_kept m s h e = unless_kept s e (turned (not (fits m s)) 6 0) (on_down m s) (down_kept m s h e)

-- what the down lines say, and what the stations keep of it
record SaidKept (t : ℕ → Station) (d : ℕ → List Down) : Type 0 where
  says : (i : ℕ) → All (Says i) (d i)
  kept : (i : ℕ) → (t i).kept i ≡ NotKept

moves : Moves (λ s t u d. SaidKept t d) (λ s t u d. SaidKept t d)
moves =
    record {
      rests = λ s t u d h. h;
      owner = λ i op s t u d h. record { says = h.says; kept = λ j. by_eq j i (λ k. rw (k, eqb_yes j i k) (owner_kept i (t i) (h.kept i) op)) (λ k. rw k (h.kept j)) };
      server = λ i m l s t u d b e v h. record { says = λ j. all_append (Says j) (d j) (sent_to j (server_step i m s).sent) (h.says j) (sent_to_says j (server_step i m s).sent (step_says i m s)); kept = h.kept };
      station = λ i m l s t u d e h.
          let here : All (Says i) (m ∷ l) = rw e at (h.says i) in
          record {
            says = λ j. by_eq j i (λ k. rw (k, eqb_yes j i k) here.1) (λ k. rw k (h.says j));
            kept = λ j. by_eq j i (λ k. rw (k, eqb_yes j i k) (station_kept i m (t i) here.0 (h.kept i))) (λ k. rw k (h.kept j));
          };
    }

module _ (kinds : ℕ → ℕ) (cs : List Call) where
  both_run : SaidKept (run cs (fresh kinds)).station (run cs (fresh kinds)).down
  both_run = run_keeps (λ s t u d. SaidKept t d) moves cs (fresh kinds) (record { says = λ i. tt; kept = λ i. refl })

  -- every message in a down line, after every list of calls
  pub says_run : (i : ℕ) → All (Says i) ((run cs (fresh kinds)).down i)
  says_run = both_run.says

  pub kept_run : (i : ℕ) → ((run cs (fresh kinds)).station i).kept i ≡ NotKept
  kept_run = both_run.kept

  -- every call: at most 8 messages up, 104 down, 8 records
  pub bound_run : (c : Call) → ReplyBound (act c (run cs (fresh kinds))).reply
  bound_run c = call_bound c (run cs (fresh kinds)) (λ i b. kept_run i)
