-- The layer of locks: every move from an orderly world leads to a world with K1, K2, K3, K7, K9 and N9.
use Rattle.std.specs.Prelude.{◌≡◌, false, List, ◌∷◌, ◌≢◌, eqb}
use Rattle.std.proofs.Math.Path.{refl}
use Rattle.std.proofs.Common.{sym, ◌∙◌, arith}
use Rattle.std.proofs.Math.Bool.{true, false≢true}
use Prim.Native.Nat.{ℕ, zero, suc, ◌≤◌, ◌<◌}
use Rattle.sets.specs.Base.{upd}
use Rattle.sets.specs.Laws.{by_eq}
use Rattle.sets.proofs.Laws.{eqb_same, eqb_yes, eqb_no, and_r}
use Rattle.line.specs.Messages.{page_of, locking, Up, Down}
use Rattle.line.specs.Station.{Station, Did, station_step, writes_to}
use Rattle.line.specs.Server.{Server, Serving, WantWrite, waits, install_waiter}
use Rattle.line.specs.Pass.{Clear}
use Rattle.line.specs.Apart.{passed}
use Rattle.line.specs.Runs.{tell_keeps}
use Rattle.line.specs.Line.{World, world_down, Op, perform, carry_up, carry_down, is_refused, fresh}
use Rattle.line.specs.Truth.{count}
use Rattle.truth.specs.Clauses.{dropped, Shape, FitWaiter}
use Rattle.truth.specs.Inv.{after_owner, after_station, Acts, Over}
use Rattle.truth.proofs.Tokens.{left_quiet, in_page}
use Rattle.truth.specs.Exclusion.{lines, Known}
use Rattle.truth.proofs.Exclusion.{known_in}
use Rattle.truth.proofs.ExclusionPass.{held, write_page, write_some, write_wants}
use Rattle.jams.specs.Clauses.{LocksAt, LocksOf, Orderly, NamesSet}
use Rattle.jams.specs.LocksHeld.{ranged}
use Rattle.jams.specs.LocksStation.{owner_locks, station_locks}
use Rattle.jams.specs.LocksServer.{LocksIn, LineTo, RangedIn, abort_locks, install_locks, ask_locks, read_locks, call_locks, object_locks, whole_locks}
use Rattle.jams.specs.LocksAccept.{around, locks_accepted}
use Rattle.jams.specs.Locks.{NoGrants, quiet_grants}

-- THE START

locks_fresh : (kinds : ℕ → ℕ) → LocksOf (fresh kinds)
locks_fresh kinds i b =
    record {
      K1a = λ a e. absurd (omega arith);
      K1b = λ v p e. absurd (omega arith);
      K2a = λ k o n a e. absurd (false≢true e);
      K2b = λ p e s. absurd (false≢true e);
      K3a = λ a e. absurd (false≢true e);
      K3b = λ v p e. absurd (false≢true e);
      K7 = tt;
      K9 = λ k o a e. absurd (false≢true e);
      N9 = λ p. (λ a f e. tt, λ v e. tt);
    }

-- OWNER AND STATION

-- of all stations
abbrev AllLocks : Server → (ℕ → Station) → (ℕ → List Up) → (ℕ → List Down) → Type 0
AllLocks s t u d = (j : ℕ) → j < 8 → LocksAt s t u d j

locks_owner : (i : ℕ) (op : Op) (w : World) → i < 8 → Orderly w → LocksOf (after_owner i op w)
unfolding carry_up
locks_owner i op w b h =
    let s : Server = w.server in
    let d : Did = perform op (w.station i) in
    tell_keeps AllLocks i op d.answer (carry_up i d w)
    (λ j c.
    by_eq j i
    (λ e. rw (e, eqb_yes j i e) (owner_locks i (s.kind i) (s.queue i) s.ol s.wl (s.latest i) (s.fin i) (w.up i) (w.down i) (w.station i) (around w h i b) op))
    (λ e. rw e (h.locks j c)))

locks_station : (i : ℕ) (m : Down) (l : List Down) (w : World) → i < 8 → w.down i ≡ m ∷ l → is_refused (station_step m (w.station i)).answer ≡ false → Orderly w → LocksOf (after_station i m l w)
unfolding carry_up
locks_station i m l w b q n h =
    let s : Server = w.server in
    let d : Did = station_step m (w.station i) in
    tell_keeps AllLocks i (w.asked i) d.answer (carry_up i d (world_down w (upd w.down i l)))
    (λ j c.
    by_eq j i
    (λ e. rw (e, eqb_yes j i e) (station_locks i (s.kind i) (s.queue i) s.ol s.wl (s.latest i) (s.fin i) (w.up i) l (w.station i) m (rw q at (around w h i b)) n))
    (λ e. rw e (h.locks j c)))

-- THE PASS, in a server's step under way
module _ (w : World) (x : Serving) (h : Orderly (carry_down x w)) where
  under : (j : ℕ) → j < 8 → LocksIn w.station w.up w.down j x
  unfolding carry_down
  under j c = h.locks j c

  range : (j : ℕ) → RangedIn w.station w.up w.down j x
  unfolding carry_down
  range j = ranged (h.inv.tokens j)

  kind_in : (j : ℕ) → x.server.kind j ≡ (w.station j).kind
  unfolding carry_down
  kind_in j = (h.inv.tokens j).kinds

  -- who waits has its only token with the server
  waiter_quiet : (i : ℕ) → waits x.server i ≡ true → NoGrants i (LineTo w.station w.up w.down i x)
  unfolding carry_down
  waiter_quiet i e = quiet_grants (left_quiet e (h.inv.tokens i)) i

  seen : Known x.server w.station w.up (lines w.down x)
  seen = known_in (λ v k. k.apart) w x h.inv

  module _ (i : ℕ) (b : i < 8) (e : (x.server.queue i).want ≡ WantWrite) where
    -- no drop of the page asked for is on its way up
    undropped : count (dropped (page_of (x.server.queue i).req)) (w.up i) ≡ 0
    unfolding carry_down
    undropped =
        let k : locking (w.station i).kind ≡ true = rw (h.inv.tokens i).kinds at ((h.inv.apart.waiting.entry i b).writes_lock e) in
        let p : ℕ = page_of (x.server.queue i).req in
        none (count (dropped p) (w.up i)) (λ n. false≢true (sym (rw e at (((h.inv.coverage i k).page p).C2r_waiter n)) ∙ eqb_same p))
      where
        none : (n : ℕ) → (1 ≤ n → ⊥) → n ≡ 0
        none zero f = refl
        none (suc n) f = absurd (f (omega arith))

    -- no other has one of the objects locked, nor their page
    open_objects : Clear i x → (j : ℕ) → eqb j i ≡ false → (a : ℕ) → (x.server.queue i).writes a ≡ true → a < 256 → x.server.ol a ≢ suc j
    open_objects c j n a v l z =
        held x.server w.station w.up (lines w.down x) i b seen a l (write_wants x.server w.station w.up (lines w.down x) i b seen a v) (rw e refl) c.unblocked j z n

    open_page : Clear i x → (j : ℕ) → eqb j i ≡ false → x.server.wl (page_of (x.server.queue i).req) ≢ suc j
    open_page c j n z =
        let r = write_some x.server w.station w.up (lines w.down x) i b seen e in
        let l = in_page (write_page x.server w.station w.up (lines w.down x) i b seen e) r.2 in
        eqb_no j i n (passed i x b seen.apart c r.0 r.1 l j (rw r.2 z))

    -- its objects are of one page [S7], and they are what is to be written and has no lock yet [S8]
    one_page : (a : ℕ) → (x.server.queue i).writes a ≡ true → page_of a ≡ page_of (x.server.queue i).req
    unfolding carry_down
    one_page a v = let z : Shape WantWrite (x.server.queue i) = rw e at (h.inv.tokens i).S7 in z.1 a v

    asked_page : writes_to (w.station i).wait (page_of (x.server.queue i).req) ≡ true
    unfolding carry_down
    asked_page =
        let z : FitWaiter (w.station i).kind (w.station i).num (w.station i).opened (w.station i).wait (x.server.latest i) WantWrite (x.server.queue i).req = rw e at (h.inv.tokens i).S1b_waiter in
        and_r (locking (w.station i).kind) _ (z.waits refl)

    names : NamesSet (w.station i).wait (w.station i).ol (page_of (x.server.queue i).req) (x.server.queue i).writes
    unfolding carry_down
    names = (h.sets i b).S8_waiter e

locks_acts : (w : World) → Acts (λ x. Orderly (carry_down x w)) (λ x. LocksOf (carry_down x w))
unfolding carry_down install_waiter
locks_acts w =
    let t = w.station in
    let u = w.up in
    let d = w.down in
    record {
      aborts = λ i c x b e h j a. abort_locks t u d j i c x (range w x h j) (kind_in w x h j) (λ q. rw (eqb_yes j i q) (waiter_quiet w x h i e)) (under w x h j a);
      asks = λ i g p x b e f h j a. ask_locks t u d j g p x (under w x h j a);
      reads = λ i x b e c h j a. read_locks t u d j i x (under w x h j a);
      calls = λ i x b e f n c h j a. call_locks t u d j i x (under w x h j a);
      objects = λ i x b e c h j a.
          let q = names w x h i b e (asked_page w x h i b e) in
          object_locks t u d j i x (range w x h j) (undropped w x h i b e) (open_objects w x h i b e c.clear j)
          (one_page w x h i b e) (λ k v. q.0 k (one_page w x h i b e k v) v) q.1 (under w x h j a);
      pages = λ i x b e c f h j a. whole_locks t u d j i x (range w x h j) (undropped w x h i b e) (open_page w x h i b e c.clear j) (under w x h j a);
      installs = λ i x b e f c h j a. install_locks t u d j i (x.server.queue i).work x (range w x h j) (kind_in w x h j) (λ q. rw (eqb_yes j i q) (waiter_quiet w x h i (rw e refl))) (under w x h j a);
    }

-- THE LAYER
pub locks_layer : Over Orderly LocksOf
locks_layer = record { begins = locks_fresh; owner = locks_owner; station = locks_station; accepted = locks_accepted; acts = locks_acts }
