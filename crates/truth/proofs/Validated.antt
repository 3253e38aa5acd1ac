-- The layer of the validating stations: V0 to V5 hold in a fresh line and after every move from a world with the whole invariant.
use Rattle.std.specs.Prelude.{◌≡◌, refl, Bool, true, false, List, [], ◌∷◌, ◌++◌, eqb, ltb}
use Rattle.std.proofs.Common.{sym, ap, ◌∙◌, arith}
use Rattle.std.proofs.lemmas.Bool.{false≢true}
use Rattle.std.proofs.Math.Bool.{cond}
use Prim.Native.Nat.{ℕ, suc, ◌<◌}
use Rattle.sets.specs.Base.{upd, Val, some, has}
use Rattle.sets.specs.Laws.{by_b, by_eq}
use Rattle.sets.proofs.Laws.{eqb_same, eqb_yes, ltb_yes, ltb_no, and_l}
use Rattle.line.specs.All.{All}
use Rattle.line.specs.Messages.{page_of, locking, Up, NoLock, ObjectLock, WholeLock, Down, Answer, Nothing, Begun, Value, Waits, Written, CommittedAs, AbortedFor, Purged, Refused, Empty}
use Rattle.line.specs.Station.{Station, Did, station_step}
use Rattle.line.specs.Server.{Serving, on_server, set_ol, set_wl, set_asked, Waiter, WantRead, WantWrite, unavailable, leave, serve_read, grant_object, grant_page, install_waiter, unexpected, accept, start, set_whole_for}
use Rattle.line.specs.Line.{World, world_down, Op, perform, tell, carry_up, carry_down, is_refused, fresh}
use Rattle.truth.specs.Clauses.{Tokens, Hist, Versions, RecordedDown, ValidatedAt}
use Rattle.truth.proofs.Frame.{append_nil}
use Rattle.truth.specs.Inv.{Inv, ValidatedOf, Acts, Layer, after_owner, after_station, taken}
use Rattle.truth.specs.ValidatedHist.{NumberBelow}
use Rattle.truth.proofs.ValidatedHist.{numbers_below, written_by}
use Rattle.truth.proofs.ValidatedEvents.{taken_up}
use Rattle.truth.proofs.ValidatedStation.{AtStation}
use Rattle.truth.proofs.ValidatedMoves.{perform_kind, step_kind, owner_valid, step_valid}
use Rattle.truth.specs.ValidatedServer.{Within}
use Rattle.truth.proofs.ValidatedServer.{sends_page, leaves, aborts, asks, calls, install_within}
use Rattle.truth.proofs.ValidatedAccept.{accept_within}
use Rattle.truth.specs.Validated.{Before}

-- FRESH
pub validated_begins : (kinds : ℕ → ℕ) → ValidatedOf (fresh kinds)
validated_begins kinds =
    record {
      versions = record { V0_last = λ a. omega arith; V0 = λ n a x y. let z : n ≡ 0 = omega arith in ap (λ m. Hist [] m a) z };
      validated = λ i b f.
          record {
            V1_last = λ a c. absurd (false≢true c);
            V1 = λ a c n. absurd (false≢true c);
            V2 = tt;
            V3_up = tt;
            V3_waiter = tt;
            V5 = λ a v r. absurd (false≢true (ap has r));
          };
    }

-- to tell an owner changes nothing here
tell_valid : (i : ℕ) (op : Op) (n : Answer) (w : World) → ValidatedOf w → ValidatedOf (tell i op n w)
unfolding tell
tell_valid i op Nothing w h = h
tell_valid i op (Begun t) w h = record { versions = h.versions; validated = h.validated }
tell_valid i op (Value v) w h = record { versions = h.versions; validated = h.validated }
tell_valid i op Waits w h = record { versions = h.versions; validated = h.validated }
tell_valid i op Written w h = record { versions = h.versions; validated = h.validated }
tell_valid i op (CommittedAs n) w h = record { versions = h.versions; validated = h.validated }
tell_valid i op (AbortedFor c) w h = record { versions = h.versions; validated = h.validated }
tell_valid i op Purged w h = h
tell_valid i op (Refused n) w h = h
tell_valid i op Empty w h = h

-- station i changed, and no other
carried_valid : (i : ℕ) (d : Did) (w : World) → Versions w.archive w.server.last w.server.ver
    → ((j : ℕ) → j < 8 → eqb j i ≡ false → ValidatedAt w.archive w.server w.station w.up w.down j)
    → (locking d.station.kind ≡ false → AtStation w.archive w.server.last d.station (w.server.queue i) (w.up i ++ d.sent) (w.down i))
    → ValidatedOf (carry_up i d w)
unfolding carry_up
carried_valid i d w v others own =
    record {
      versions = v;
      validated = λ j b. by_eq j i (λ e. rw (e, eqb_yes j i e) own) (λ e. rw e (others j b e));
    }

-- numbers of 21s are given ones
numbers_given : (w : World) → Inv w → (j : ℕ) → j < 8 → All (NumberBelow w.server.last) (w.down j)
numbers_given w h j b =
    let g = h.goals.archived in
    numbers_below j w.server.last w.archive (w.station j).rd (w.station j).wr (w.down j) g.order g.all (h.goals.owned j b).T6

-- an own write stands in the copy
own_copy : (w : World) → Inv w → (j : ℕ) → j < 8 → (a v : ℕ) → (w.station j).wr a ≡ some v → (w.station j).cached (page_of a) ≡ true → (w.station j).copy a ≡ v
own_copy w h j b a v e c =
    let inside : a < 256 = by_b (ltb a 256) (λ t. ltb_yes a 256 t) (λ t. absurd (false≢true (ap has (sym ((h.tokens j).range_used a (ltb_no a 256 t)).1 ∙ e)))) in
    h.values.A2 j a b inside v e c

pub validated_owner : (i : ℕ) (op : Op) (w : World) → i < 8 → Inv w → ValidatedOf (after_owner i op w)
validated_owner i op w b h =
    let s : Station = w.station i in
    tell_valid i op _ _
    (carried_valid i (perform op s) w h.validated.versions (λ j c e. h.validated.validated j c)
    (λ g.
    let f : locking s.kind ≡ false = rw (perform_kind op s) at g in
    owner_valid w.archive w.server.last s (w.server.queue i) (w.up i) (w.down i) f (h.validated.validated i b f) op))

pub validated_station : (i : ℕ) (m : Down) (l : List Down) (w : World) → i < 8 → w.down i ≡ m ∷ l → is_refused (station_step m (w.station i)).answer ≡ false → Inv w → ValidatedOf (after_station i m l w)
validated_station i m l w b e r h =
    let s : Station = w.station i in
    tell_valid i (w.asked i) _ _
    (carried_valid i (station_step m s) (world_down w (upd w.down i l)) h.validated.versions (λ j c n. rw n (h.validated.validated j c))
    (λ g.
    let f : locking s.kind ≡ false = rw (step_kind m s) at g in
    let n : All (NumberBelow w.server.last) (m ∷ l) = rw e at (numbers_given w h i b) in
    let k : All (RecordedDown i w.archive s.rd s.wr) (m ∷ l) = rw e at (h.goals.owned i b).T6 in
    rw (eqb_same i)
    (step_valid w.archive w.server.last s (w.server.queue i) (w.up i) l f (h.tokens i).S5 (own_copy w h i b) m r
    (record { valid = rw e at (h.validated.validated i b f); number = n.0; written = written_by i w.archive s.rd s.wr m h.goals.archived.order k.0 }))))

-- the layer of the world to which a step under way is carried
within_layer : (x : Serving) (w : World) → Within w.archive w.station w.up w.down x → ValidatedOf (carry_down x w)
unfolding carry_down
within_layer x w h = record { versions = h.versions; validated = h.validated }

before : (x : Serving) (w : World) → Inv (carry_down x w) → Before w x
unfolding carry_down
before x w h = record { within = record { versions = h.validated.versions; validated = h.validated.validated }; len = h.goals.archived.all; tokens = h.tokens }

-- a read or a write that waits is a locking station's
waits_lock : {skind kind num : ℕ} {opened : Bool} {rd wr : ℕ → Val} {latest : ℕ} {fin : Bool} (w : _) (q : Waiter) (U : List Up) (D : List Down) → Tokens skind kind num opened rd wr w q latest fin U D
    → (q.want ≡ WantRead → locking kind ≡ true) × (q.want ≡ WantWrite → locking kind ≡ true)
waits_lock {kind} w q U D k =
    (λ e. and_l (locking kind) _ ((rw e at k.S1b_waiter).waits refl), λ e. and_l (locking kind) _ ((rw e at k.S1b_waiter).waits refl))

-- the seven actions of the pass
module _ (w : World) where
  abbrev Under : Serving → Type 0
  Under x = Within w.archive w.station w.up w.down x

  page_waits : (i : ℕ) (x : Serving) → Before w x → (x.server.queue i).want ≡ WantRead → i < 8 → locking (w.station i).kind ≡ false → ⊥
  page_waits i x h e c f = false≢true (sym f ∙ (waits_lock _ _ _ _ (h.tokens i)).0 e)

  lock_waits : (i : ℕ) (x : Serving) → Before w x → (x.server.queue i).want ≡ WantWrite → i < 8 → locking (w.station i).kind ≡ false → ⊥
  lock_waits i x h e c f = false≢true (sym f ∙ (waits_lock _ _ _ _ (h.tokens i)).1 e)

  reads_within : (i : ℕ) (x : Serving) → (x.server.queue i).want ≡ WantRead → Before w x → Under (serve_read i x)
  unfolding serve_read
  reads_within i x e h =
      sends_page w.archive w.station w.up w.down NoLock i (x.server.queue i).req (unavailable x.server i (x.server.queue i).req) (leave i x)
      (page_waits i x h e) (leaves w.archive w.station w.up w.down i x h.within)

  objects_within : (i : ℕ) (x : Serving) → (x.server.queue i).want ≡ WantWrite → Before w x → Under (grant_object i x)
  unfolding grant_object
  objects_within i x e h =
      let a : ℕ = (x.server.queue i).req in
      let g = leaves w.archive w.station w.up w.down i x h.within in
      sends_page w.archive w.station w.up w.down ObjectLock i a (unavailable x.server i a) (on_server (leave i x) (set_ol (leave i x).server (λ c. cond ((x.server.queue i).writes c) (suc i) (x.server.ol c))))
      (lock_waits i x h e) (record { versions = g.versions; validated = g.validated })

  pages_within : (i : ℕ) (x : Serving) → (x.server.queue i).want ≡ WantWrite → Before w x → Under (grant_page i x)
  unfolding grant_page
  pages_within i x e h =
      let a : ℕ = (x.server.queue i).req in
      let g = leaves w.archive w.station w.up w.down i x h.within in
      sends_page w.archive w.station w.up w.down WholeLock i a (unavailable x.server i a)
      (on_server (leave i x) (set_wl (set_whole_for (set_asked (leave i x).server (upd x.server.asked (page_of a) false)) (upd x.server.whole_for (page_of a) (x.server.latest i))) (upd x.server.wl (page_of a) (suc i))))
      (lock_waits i x h e) (record { versions = g.versions; validated = g.validated })

  installs_within : (i : ℕ) (x : Serving) → Before w x → Under (install_waiter i x)
  unfolding install_waiter
  installs_within i x h = install_within w.archive w.station w.up w.down i (x.server.queue i).work x h.len h.within

  pub validated_acts : Acts (λ x. Inv (carry_down x w)) (λ x. ValidatedOf (carry_down x w))
  validated_acts =
      record {
        aborts = λ i c x b t h. within_layer _ w (aborts w.archive w.station w.up w.down i c x (before x w h).within);
        asks = λ i o p x b t u h. within_layer _ w (asks w.archive w.station w.up w.down o p x (before x w h).within);
        reads = λ i x b e c h. within_layer _ w (reads_within i x e (before x w h));
        calls = λ i x b t u n c h. within_layer _ w (calls w.archive w.station w.up w.down i x (before x w h).within);
        objects = λ i x b e r h. within_layer _ w (objects_within i x e (before x w h));
        pages = λ i x b e r n h. within_layer _ w (pages_within i x e (before x w h));
        installs = λ i x b e o r h. within_layer _ w (installs_within i x (before x w h));
      }

-- THE SERVER ACCEPTS the head m of station i's up line
module _ (i : ℕ) (m : Up) (l : List Up) (w : World) (b : i < 8) (e : w.up i ≡ m ∷ l) (h : Inv w) where
  start_within : Within w.archive w.station (upd w.up i l) w.down (start w.server)
  start_within =
      record {
        versions = rw (append_nil w.archive) h.validated.versions;
        validated = λ j c f.
            rw (append_nil w.archive, append_nil (w.down j))
            (by_eq j i
            (λ o. let q : w.up j ≡ m ∷ l = rw (eqb_yes j i o) e in rw o (taken_up (rw q at (h.validated.validated j c f))))
            (λ o. rw o (h.validated.validated j c f)));
      }

  validated_accept : unexpected i m w.server ≡ false → Within w.archive w.station (upd w.up i l) w.down (accept i m (start w.server))
  validated_accept n =
      accept_within w.archive w.station (upd w.up i l) w.down i (start w.server) (h.tokens i).kinds
      (rw (append_nil w.archive) h.goals.archived.all) (λ a. rw (append_nil w.archive) (h.goals.archived.T1_pages a))
      start_within m n
      (λ c f. rw (append_nil w.archive) (rw e at (h.validated.validated i b f).V3_up).0)

pub validated_accepted : (i : ℕ) (m : Up) (l : List Up) (w : World) → i < 8 → w.up i ≡ m ∷ l → unexpected i m w.server ≡ false → Inv w → ValidatedOf (carry_down (accept i m (start w.server)) (taken i l w))
validated_accepted i m l w b e n h = within_layer (accept i m (start w.server)) (taken i l w) (validated_accept i m l w b e h n)

pub validated_layer : Layer ValidatedOf
validated_layer =
    record {
      begins = validated_begins;
      owner = validated_owner;
      station = validated_station;
      accepted = validated_accepted;
      acts = validated_acts;
    }
