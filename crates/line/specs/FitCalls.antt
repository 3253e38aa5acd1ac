-- Every call of a station, an owner's operation or a delivery, leaves a state that number 1 takes, and what it sends fits a station of its
-- kind: from every such state, for every message that number 4 lets pass.
use Rattle.std.proofs.Math.Path.{◌≡◌, refl, sym}
use Rattle.std.proofs.Common.{ap, ◌∙◌, arith}
use Rattle.std.specs.Prelude.{Bool, ◌&&◌, ◌||◌, cond, [], ◌∷◌, ◌≢◌, ltb}
use Rattle.std.proofs.Math.Bool.{true, false, not, or-true}
use Rattle.std.proofs.lemmas.Bool.{false≢true}
use Prim.Native.Nat.{ℕ, zero, suc, ◌+◌, ◌≤◌, ◌<◌}
use Rattle.std.proofs.Math.Dec.{eqb, leb}
use borrow.Author.Tests.{ltb-true, leb-false}
use Rattle.sets.specs.Base.{Val, none, some, has, upd, turned}
use Rattle.sets.specs.Size.{size}
use Rattle.sets.proofs.Size.{size_empty, size_part, size_joined}
use Rattle.limits.specs.Limit.{limit}
use Rattle.sets.specs.Laws.{by_b, by_eq, or_yes}
use Rattle.sets.proofs.Laws.{eqb_same, eqb_yes, eqb_no, and_l, and_r, or_no, not_no, ltb_no, any_some}
use Rattle.line.specs.Messages.{page_of, address, locking, keeps, ReadRequest, WriteRequest, Lock, NoLock, ObjectLock, WholeLock, Down, Page, Deescalate, Callback, Committed, Aborted, Invalidate}
use Rattle.line.specs.Station.{Station, fresh_station, Did, unless, Wait, Idle, ForRead, ForWrite, ForCommit, waiting, Kept, NotKept, KeptCall, shown, used_at, in_use, for_read, for_write, writes_to, for_commit, requested, used_page, live, ended, fits_page, fits, check_begin, open_then, check_open, long_read, long_write, check_read, some_on, lowest_on, bad_set, check_write, check_purge, drop_pages, record_read, or_val, write_local, mark, do_callback, do_kept, do_all_kept, closed, close, undo, own_begin, read_local, read_ask, read_as, own_read, named, write_ask, write_set, of_page, own_write, own_commit, own_abort, own_purge, arrive, take_lock, answer_wait, on_page, on_deescalate, loosen, on_callback, on_committed, on_aborted, on_invalidate, on_down, station_step, kept_whole, answers_for, gives_up, written_on}
use Rattle.line.specs.Line.{Op, Begin, Read, WriteSet, Commits, Aborts, Purges, perform}
use Rattle.line.specs.All.{All, all_append}
use Rattle.line.specs.Bounds.{undo_kept}
use Rattle.line.specs.Kept.{all_kept}
use Rattle.line.specs.Apart.{keeps_locks}
use Rattle.line.specs.Asks.{Asks, set_asks, lowest_in_range}
use Rattle.line.specs.Fit.{DownNames, UpFits, Limited, LimitedStation, Works, Locked, KeptFits, FitStation}

-- a call so far: the station, and what it sends
pub record FitDid (own : ℕ) (d : Did) : Type 0 where
  pub station : FitStation own d.station
  pub sent : All (UpFits d.station.kind) d.sent

if_fit : (P : Did → Type 0) (b : Bool) {d e : Did} → (b ≡ true → P d) → (b ≡ false → P e) → P (cond b d e)
if_fit P true t f = t refl
if_fit P false t f = f refl

-- AN OPEN TRANSACTION

open_works : {opened : Bool} {num : ℕ} {rd wr : ℕ → Val} {wait : Wait} → opened ≡ true → num ≢ 0 → ((a : ℕ) → wait ≡ ForRead a → (rd a ≡ none) × (wr a ≡ none)) → ((p : ℕ) (f : ℕ → Val) → wait ≡ ForWrite p f → Asks p f) → Works opened num rd wr wait
open_works o n f g =
    record {
      numbered = λ e. n;
      idle = λ e. absurd (false≢true (sym e ∙ o));
      unread = λ e a. absurd (false≢true (sym e ∙ o));
      unwritten = λ e a. absurd (false≢true (sym e ∙ o));
      first = f;
      asks = g;
    }

open_locked : {kind : ℕ} {opened : Bool} {ol wl : ℕ → Bool} → opened ≡ true → locking kind ≡ true → Locked kind opened ol wl
open_locked o k =
    record { object_opened = λ a e. o; object_locks = λ a e. k; whole_opened = λ p e n. o; whole_locks = λ p e. k }

abbrev address_in : Wait → ℕ
address_in Idle = 0
address_in (ForRead a) = a
address_in (ForWrite p f) = 0
address_in ForCommit = 0

-- no read is out
abbrev NoRead : Wait → Type 0
NoRead w = (a : ℕ) → w ≡ ForRead a → ⊥

idle_reads : (w : Wait) → waiting w ≡ false → NoRead w
idle_reads w e a q = false≢true (sym e ∙ ap waiting q)

-- no write is out
abbrev NoWrite : Wait → Type 0
NoWrite w = (p : ℕ) (f : ℕ → Val) → w ≡ ForWrite p f → Asks p f

idle_writes : (w : Wait) → waiting w ≡ false → NoWrite w
idle_writes w e p f q = absurd (false≢true (sym e ∙ ap waiting q))

no_write : (w : Wait) → ((p : ℕ) → writes_to w p ≡ false) → NoWrite w
no_write w n p f q = absurd (false≢true (sym (n p) ∙ ap (λ (v : Wait). writes_to v p) q ∙ eqb_same p))

-- THE LIMIT

-- a set with no more members
smaller : (f g : ℕ → Bool) → ((a : ℕ) → f a ≡ true → g a ≡ true) → size 256 g ≤ limit → size 256 f ≤ limit
smaller f g p l = omega (arith, size_part 256 f g (λ a b. p a), l)

-- one member more, that 15 lets pass
one_more : (f : ℕ → Bool) (a : ℕ) → (not (f a) && leb limit (size 256 f)) ≡ false → size 256 f ≤ limit → size 256 (λ b. f b || eqb b a) ≤ limit
one_more f a e l =
    by_b (f a)
    (λ t. omega (arith, l, size_part 256 (λ b. f b || eqb b a) f (λ b c. old b t)))
    (λ t. omega (arith, size_joined 256 f a, leb-false limit (size 256 f) (rw t at e)))
  where
    has_left : (c : Bool) → (c || false) ≡ true → c ≡ true
    has_left true z = refl
    has_left false z = z

    old : (b : ℕ) → f a ≡ true → (f b || eqb b a) ≡ true → f b ≡ true
    old b t = by_eq b a (λ q. rw (eqb_yes b a q, t) (λ z. refl)) (λ q. rw q (λ z. has_left (f b) z))

-- nothing read, written or out
none_few : LimitedStation (λ a. none) (λ a. none) Idle
none_few = record { reads_few = omega (arith, size_empty 256 (λ a. false) (λ a. refl)); writes_few = omega (arith, size_empty 256 (λ a. false) (λ a. refl)) }

-- who waits for nothing waits for no read and no write
idle_none : (w : Wait) → waiting w ≡ false → (b : ℕ) → (for_read w b ≡ false) × (for_write w b ≡ false)
idle_none Idle e b = (refl, refl)
idle_none (ForRead a) e b = absurd (false≢true (sym e))
idle_none (ForWrite p f) e b = absurd (false≢true (sym e))
idle_none ForCommit e b = (refl, refl)

left : (a b : Bool) → a ≡ true → (a || b) ≡ true
left a b e = rw e

alone : (a b : Bool) → b ≡ false → (a || b) ≡ true → a ≡ true
alone true b e h = refl
alone false b e h = absurd (false≢true (sym e ∙ h))

-- a value at a is the set with a
joined : (f : ℕ → Val) (a v : ℕ) (out : ℕ → Bool) → ((b : ℕ) → out b ≡ false) → (b : ℕ) → (has (upd f a (some v) b) || out b) ≡ true → (has (f b) || eqb b a) ≡ true
joined f a v out n b = by_eq b a (λ q. rw q (λ h. or-true (has (f b)))) (λ q. rw (q, n b) (λ h. h))

module _ {rd wr : ℕ → Val} {wait : Wait} (l : LimitedStation rd wr wait) where
  -- what is recorded
  pub recorded : Limited (λ a. has (rd a)) (λ a. has (wr a))
  recorded =
      record {
        reads_few = smaller _ _ (λ a e. left (has (rd a)) (for_read wait a) e) l.reads_few;
        writes_few = smaller _ _ (λ a e. left (has (wr a)) (for_write wait a) e) l.writes_few;
      }

  -- with no read and no write out
  not_out : (w : Wait) → ((b : ℕ) → (for_read w b ≡ false) × (for_write w b ≡ false)) → LimitedStation rd wr w
  not_out w n =
      record {
        reads_few = smaller _ _ (λ a e. alone (has (rd a)) (for_read w a) (n a).0 e) recorded.reads_few;
        writes_few = smaller _ _ (λ a e. alone (has (wr a)) (for_write w a) (n a).1 e) recorded.writes_few;
      }

  -- a read, a write out
  read_out : (a : ℕ) → (not (has (rd a)) && leb limit (size 256 (λ b. has (rd b)))) ≡ false → LimitedStation rd wr (ForRead a)
  read_out a e =
      record {
        reads_few = one_more (λ b. has (rd b)) a e recorded.reads_few;
        writes_few = (not_out Idle (λ b. (refl, refl))).writes_few;
      }

  write_out : (p : ℕ) (f : ℕ → Val) → ltb limit (size 256 (λ b. has (wr b) || has (f b))) ≡ false → LimitedStation rd wr (ForWrite p f)
  write_out p f e = record { reads_few = (not_out Idle (λ b. (refl, refl))).reads_few; writes_few = ltb_no limit _ e }

-- .. and recorded
read_in : {rd wr : ℕ → Val} {a : ℕ} (v : ℕ) (w : Wait) → waiting w ≡ false → LimitedStation rd wr (ForRead a) → LimitedStation (upd rd a (some v)) wr w
read_in {rd} {wr} {a} v w i l =
    record {
      reads_few = smaller _ _ (joined rd a v (for_read w) (λ b. (idle_none w i b).0)) l.reads_few;
      writes_few = smaller _ _ (λ b e. rw (idle_none w i b).1 at e) l.writes_few;
    }

-- what is written then
has_or : (v w : Val) → has (or_val v w) ≡ true → (has w || has v) ≡ true
has_or none w e = left (has w) false e
has_or (some x) w e = or-true (has w)

write_in : {rd wr : ℕ → Val} {p : ℕ} {f : ℕ → Val} (w : Wait) → waiting w ≡ false → LimitedStation rd wr (ForWrite p f) → LimitedStation rd (λ b. or_val (f b) (wr b)) w
write_in {rd} {wr} {p} {f} w i l =
    record {
      reads_few = smaller _ _ (λ b e. rw (idle_none w i b).0 at e) l.reads_few;
      writes_few = smaller _ _ (λ b e. has_or (f b) (wr b) (alone (has (or_val (f b) (wr b))) (for_write w b) (idle_none w i b).1 e)) l.writes_few;
    }

-- ITS END

one_done : (r : ℕ) (k : Kept) (d : Did) → d.station.kept r ≡ k → (do_kept r k d).station.kept r ≡ NotKept
unfolding do_kept do_callback drop_pages mark
one_done r NotKept d e = e
one_done r (KeptCall t set) d e = rw (eqb_same r) refl

all_done : (n r : ℕ) (d : Did) (q : ℕ) → r ≤ q → q < r + n → (do_all_kept n r d).station.kept q ≡ NotKept
unfolding do_all_kept
all_done zero r d q a b = absurd (omega arith)
all_done (suc n) r d q a b =
    let y : Did = do_kept r (d.station.kept r) d in
    let rest : suc r ≤ q → (do_all_kept n (suc r) y).station.kept q ≡ NotKept = λ c. all_done n (suc r) y q c (omega arith) in
    by_eq q r (λ e. all_kept q n (suc r) y (rw (eqb_yes q r e) (one_done r (d.station.kept r) d refl))) (λ e. rest (omega (arith, eqb_no q r e)))

-- kept callbacks under way: the transaction is closed, and some are still kept
record Ending (own : ℕ) (d : Did) : Type 0 where
  closed_is : d.station.opened ≡ false
  works : Works d.station.opened d.station.num d.station.rd d.station.wr d.station.wait
  few : LimitedStation d.station.rd d.station.wr d.station.wait
  locked : Locked d.station.kind d.station.opened d.station.ol d.station.wl
  not_own : d.station.kept own ≡ NotKept
  fit : (r : ℕ) → KeptFits d.station.kind (d.station.kept r)
  sent : All (UpFits d.station.kind) d.sent

module _ (own : ℕ) where
  one_ends : (r : ℕ) (k : Kept) (d : Did) → d.station.kept r ≡ k → Ending own d → Ending own (do_kept r k d)
  unfolding do_kept do_callback drop_pages mark
  one_ends r NotKept d e h = h
  one_ends r (KeptCall t set) d e h =
      let f : KeptFits d.station.kind (KeptCall t set) = rw e at (h.fit r) in
      record {
        closed_is = h.closed_is;
        works = h.works;
        few = h.few;
        locked = h.locked;
        not_own = by_eq own r (λ q. rw q refl) (λ q. rw q h.not_own);
        fit = λ p. by_eq p r (λ q. rw q tt) (λ q. rw q (h.fit p));
        sent = all_append (UpFits d.station.kind) d.sent _ h.sent (record { names = f.1; kind_fits = f.0 }, tt);
      }

  all_end : (n r : ℕ) (d : Did) → Ending own d → Ending own (do_all_kept n r d)
  unfolding do_all_kept
  all_end zero r d h = h
  all_end (suc n) r d h = all_end n (suc r) (do_kept r (d.station.kept r) d) (one_ends r (d.station.kept r) d refl h)

  close_fit : (d : Did) → d.station.kept own ≡ NotKept → ((r : ℕ) → KeptFits d.station.kind (d.station.kept r)) → All (UpFits d.station.kind) d.sent → FitDid own (close d)
  unfolding close closed
  close_fit d e f s =
      let start : Did = record { station = closed d.station; answer = d.answer; sent = d.sent } in
      let h : Ending own start =
      record {
        closed_is = refl;
        works = record { numbered = λ q. absurd (false≢true q); idle = λ q. refl; unread = λ q a. refl; unwritten = λ q a. refl; first = λ a q. (refl, refl); asks = no_write Idle (λ p. refl) };
        few = none_few;
        locked = record { object_opened = λ a q. q; object_locks = λ a q. absurd (false≢true q); whole_opened = λ p q n. absurd (false≢true (sym n ∙ and_l (keeps d.station.kind) _ q)); whole_locks = λ p q. keeps_locks d.station.kind (and_l (keeps d.station.kind) _ q) };
        not_own = e;
        fit = f;
        sent = s;
      } in
      let k = all_end 8 0 start h in
      record {
        station =
            record {
              works = k.works;
              few = k.few;
              locked = k.locked;
              callbacks = record { not_own = k.not_own; done = λ q r l. all_done 8 0 start r (omega arith) (omega arith); fit = k.fit };
            };
        sent = k.sent;
      }

undo_kind : (s : Station) → (undo s).kind ≡ s.kind
unfolding undo mark drop_pages
undo_kind s = by_b (locking s.kind) (λ e. rw e refl) (λ e. rw e refl)

-- WHAT THE CHECKS SAY

-- 7 Waiting, 8 Closed
record Opened (s : Station) : Type 0 where
  idle : waiting s.wait ≡ false
  open_is : s.opened ≡ true

passed : (a b : Bool) (n : ℕ) → eqb (turned a 7 (turned b 8 n)) 0 ≡ true → (a ≡ false) × (b ≡ false) × (eqb n 0 ≡ true)
passed true b n e = absurd (false≢true e)
passed false true n e = absurd (false≢true e)
passed false false n e = (refl, refl, e)

open_ok : (s : Station) (n : ℕ) → eqb (open_then s n) 0 ≡ true → Opened s
open_ok s n e = let u = passed (waiting s.wait) (not s.opened) n e in record { idle = u.0; open_is = not_no s.opened u.1 }

-- 15 Long, behind them
not_long : (s : Station) (b : Bool) → eqb (open_then s (turned b 15 0)) 0 ≡ true → b ≡ false
not_long s b e = short b (passed (waiting s.wait) (not s.opened) (turned b 15 0) e).2
  where
    short : (b : Bool) → eqb (turned b 15 0) 0 ≡ true → b ≡ false
    short true z = absurd (false≢true z)
    short false z = refl

-- 4 Range, before them
ranged : (b : Bool) (n : ℕ) → eqb (turned (not b) 4 n) 0 ≡ true → (b ≡ true) × (eqb n 0 ≡ true)
ranged true n e = (refl, e)
ranged false n e = absurd (false≢true e)

not_bad : (b : Bool) (n : ℕ) → eqb (turned b 4 n) 0 ≡ true → (b ≡ false) × (eqb n 0 ≡ true)
not_bad true n e = absurd (false≢true e)
not_bad false n e = (refl, e)

-- THE OWNER'S OPERATIONS

module _ (own : ℕ) (s : Station) (h : FitStation own s) where
  -- a call that is refused
  unless_fit : (n : ℕ) (d : Did) → (eqb n 0 ≡ true → FitDid own d) → FitDid own (unless n d s)
  unless_fit n d f = if_fit (FitDid own) (eqb n 0) f (λ e. record { station = h; sent = tt })

  -- what the open transaction reads, writes and waits for
  works_as : (rd wr : ℕ → Val) (wait : Wait) → s.opened ≡ true → ((a : ℕ) → wait ≡ ForRead a → (rd a ≡ none) × (wr a ≡ none)) → ((p : ℕ) (f : ℕ → Val) → wait ≡ ForWrite p f → Asks p f) → Works s.opened s.num rd wr wait
  works_as rd wr wait o f g = open_works o (h.works.numbered o) f g

  begin_fit : FitDid own (own_begin s)
  unfolding own_begin
  begin_fit =
      unless_fit (check_begin s) _
      (λ e.
      record {
        station =
            record {
              works = open_works refl (λ z. omega (arith, z)) h.works.first h.works.asks;
              few = h.few;
              locked = record { object_opened = λ a q. refl; object_locks = h.locked.object_locks; whole_opened = λ p q n. refl; whole_locks = h.locked.whole_locks };
              callbacks = record { not_own = h.callbacks.not_own; done = λ q r l. absurd (false≢true (sym q)); fit = h.callbacks.fit };
            };
        sent = tt;
      })

  -- the object's own write and recorded read, as `readAs` looks at them
  read_as_fit : (a : ℕ) (w r : Val) → s.wr a ≡ w → s.rd a ≡ r → a < 256 → Opened s → long_read a s ≡ false → FitDid own (read_as a w r s)
  unfolding read_as read_local record_read read_ask
  read_as_fit a none none p q l o g =
      let full : (not (has (s.rd a)) && leb limit (size 256 (λ b. has (s.rd b)))) ≡ false = rw q (rw (p, q) at g) in
      let out : LimitedStation s.rd s.wr (ForRead a) = read_out h.few a full in
      if_fit (FitDid own) (shown s a)
      (λ e.
      record {
        station = record { works = works_as _ _ _ o.open_is (λ b z. absurd (idle_reads s.wait o.idle b z)) (idle_writes s.wait o.idle); few = read_in _ s.wait o.idle out; locked = h.locked; callbacks = h.callbacks };
        sent = tt;
      })
      (λ e.
      record {
        station = record { works = works_as _ _ _ o.open_is (λ b z. let y : b ≡ a = asked b z in (rw y q, rw y p)) (no_write (ForRead a) (λ k. refl)); few = out; locked = h.locked; callbacks = h.callbacks };
        sent = (record { names = (l, h.works.numbered o.open_is); kind_fits = refl }, tt);
      })
    where
      asked : (b : ℕ) → ForRead a ≡ ForRead b → b ≡ a
      asked b z = sym (ap (λ (w : Wait). address_in w) z)
  read_as_fit a none (some v) p q l o g = record { station = h; sent = tt }
  read_as_fit a (some v) r p q l o g = record { station = h; sent = tt }

  write_local_lem : (p : ℕ) (f : ℕ → Val) → Opened s → LimitedStation s.rd s.wr (ForWrite p f) → FitStation own (write_local f s)
  unfolding write_local
  write_local_lem p f o g = record { works = works_as _ _ _ o.open_is (λ b z. absurd (idle_reads s.wait o.idle b z)) (idle_writes s.wait o.idle); few = write_in s.wait o.idle g; locked = h.locked; callbacks = h.callbacks }

  write_ask_lem : (p : ℕ) (f : ℕ → Val) → Asks p f → some_on p (named f s) ≡ true → Opened s → LimitedStation s.rd s.wr (ForWrite p f) → FitDid own (write_ask p f s)
  unfolding write_ask
  write_ask_lem p f l q o g =
      let n = h.works.numbered o.open_is in
      record {
        station = record { works = works_as _ _ _ o.open_is (λ b z. let y : ◌≡◌ {A = ℕ} 0 1 = cc in absurd (omega arith)) (λ k w z. asked k w z); few = g; locked = h.locked; callbacks = h.callbacks };
        sent = sent (locking s.kind) refl n;
      }
    where
      sent : (b : Bool) → locking s.kind ≡ b → s.num ≢ 0 → All (UpFits s.kind) (cond b (WriteRequest p s.num (named f s)) (ReadRequest (lowest_on p (named f s)) s.num) ∷ [])
      sent true e n = (record { names = (l.in_range, n, q); kind_fits = e }, tt)
      sent false e n = (record { names = (lowest_in_range p (named f s) l.in_range, n); kind_fits = refl }, tt)

      page_in : Wait → ℕ
      page_in Idle = 0
      page_in (ForRead a) = 0
      page_in (ForWrite k w) = k
      page_in ForCommit = 0

      vals_in : Wait → ℕ → Val
      vals_in Idle = λ a. none
      vals_in (ForRead a) = λ a. none
      vals_in (ForWrite k w) = w
      vals_in ForCommit = λ a. none

      asked : (k : ℕ) (w : ℕ → Val) → ForWrite p f ≡ ForWrite k w → Asks k w
      asked k w z =
          let y : k ≡ p = sym (ap page_in z) in
          let v : w ≡ f = sym (ap vals_in z) in
          rw (y, v) l

  commit_fit : FitDid own (own_commit s)
  unfolding own_commit
  commit_fit =
      unless_fit (check_open s) _
      (λ e.
      let o = open_ok s 0 e in
      record {
        station = record { works = works_as _ _ _ o.open_is (λ b z. let y : ◌≡◌ {A = ℕ} 0 1 = cc in absurd (omega arith)) (no_write ForCommit (λ p. refl)); few = not_out h.few ForCommit (λ b. (refl, refl)); locked = h.locked; callbacks = h.callbacks };
        sent = (record { names = (h.works.numbered o.open_is, recorded h.few); kind_fits = refl }, tt);
      })

  abort_fit : FitDid own (own_abort s)
  unfolding own_abort
  abort_fit =
      unless_fit (check_open s) _
      (λ e.
      let n = h.works.numbered (open_ok s 0 e).open_is in
      close_fit own _ (rw (undo_kept s) h.callbacks.not_own) (λ r. rw (undo_kept s, undo_kind s) (h.callbacks.fit r))
      (rw (undo_kind s) (by_b (locking s.kind) (λ k. rw k (record { names = n; kind_fits = k }, tt)) (λ k. rw k tt))))

  -- an owner's operation
  pub owner_fit : (op : Op) → FitDid own (perform op s)
  unfolding perform own_read own_write write_set own_purge drop_pages
  owner_fit Begin = begin_fit
  owner_fit (Read a) =
      unless_fit (check_read a s) _
      (λ e.
      let n = turned (long_read a s) 15 0 in
      let u = ranged (ltb a 256) (open_then s n) e in
      read_as_fit a (s.wr a) (s.rd a) refl refl (ltb-true a 256 u.0) (open_ok s n u.1) (not_long s (long_read a s) u.1))
  owner_fit (WriteSet p w) =
      let f : ℕ → Val = of_page p w in
      unless_fit (check_write p f s) _
      (λ e.
      let n = turned (long_write f s) 15 0 in
      let u = not_bad (bad_set p f s) (open_then s n) e in
      let o = open_ok s n u.1 in
      let g = write_out h.few p f (not_long s (long_write f s) u.1) in
      if_fit (FitDid own) (some_on p (named f s)) (λ k. write_ask_lem p f (set_asks p w s u.0) k o g) (λ k. record { station = write_local_lem p f o g; sent = tt }))
  owner_fit Commits = commit_fit
  owner_fit Aborts = abort_fit
  owner_fit (Purges p) =
      unless_fit (check_purge p s) _
      (λ e.
      let u = ranged (ltb p 32) (turned (requested s.wait p) 7 (turned (used_page s p || not (s.cached p) || kept_whole s p) 10 0)) e in
      record { station = record { works = h.works; few = h.few; locked = h.locked; callbacks = h.callbacks }; sent = (record { names = ltb-true p 32 u.0; kind_fits = refl }, tt) })

-- THE STEP

-- a page that is not for an ended transaction is for the open one, a lock's for a locking station's
live_page : (l : Lock) (a t : ℕ) (s : Station) → ended s t ≡ false → fits_page l a t s ≡ true → s.opened ≡ true
live_page NoLock a t s e f = let g : (live s t && (for_read s.wait a || (not (locking s.kind) && for_write s.wait a))) ≡ true = rw e at f in and_l s.opened _ (and_l (live s t) _ g)
live_page ObjectLock a t s e f = and_l s.opened _ (and_r (locking s.kind) _ (and_l (locking s.kind && live s t) _ f))
live_page WholeLock a t s e f = and_l s.opened _ (and_r (locking s.kind) _ (and_l (locking s.kind && live s t) _ f))

lock_locked : (l : Lock) (a t : ℕ) (s : Station) → s.opened ≡ true → fits_page l a t s ≡ true → Locked s.kind s.opened s.ol s.wl
    → Locked (take_lock l a s).kind (take_lock l a s).opened (take_lock l a s).ol (take_lock l a s).wl
unfolding take_lock
lock_locked NoLock a t s o f h = h
lock_locked ObjectLock a t s o f h = open_locked o (and_l (locking s.kind) _ (and_l (locking s.kind && live s t) _ f))
lock_locked WholeLock a t s o f h = open_locked o (and_l (locking s.kind) _ (and_l (locking s.kind && live s t) _ f))

-- the rest of a station is as it was
record Same (s t : Station) : Type 0 where
  kind : t.kind ≡ s.kind
  num : t.num ≡ s.num
  opened : t.opened ≡ s.opened
  kept : t.kept ≡ s.kept
  rd : t.rd ≡ s.rd
  wr : t.wr ≡ s.wr

lock_same : (l : Lock) (a : ℕ) (s : Station) → Same s (take_lock l a s)
unfolding take_lock
lock_same NoLock a s = record { kind = refl; num = refl; opened = refl; kept = refl; rd = refl; wr = refl }
lock_same ObjectLock a s = record { kind = refl; num = refl; opened = refl; kept = refl; rd = refl; wr = refl }
lock_same WholeLock a s = record { kind = refl; num = refl; opened = refl; kept = refl; rd = refl; wr = refl }

answer_fit : (own : ℕ) (w : Wait) (s : Station) → FitStation own s → s.opened ≡ true → s.wait ≡ Idle → LimitedStation s.rd s.wr w → FitDid own (answer_wait w s)
unfolding answer_wait record_read
answer_fit own Idle s h o i g = record { station = h; sent = tt }
answer_fit own (ForRead a) s h o i g =
    record { station = record { works = works_as own s h _ _ _ o (λ b z. absurd (idle_reads s.wait (ap waiting i) b z)) (idle_writes s.wait (ap waiting i)); few = read_in _ s.wait (ap waiting i) g; locked = h.locked; callbacks = h.callbacks }; sent = tt }
answer_fit own (ForWrite p f) s h o i g = record { station = write_local_lem own s h p f (record { idle = ap waiting i; open_is = o }) g; sent = tt }
answer_fit own ForCommit s h o i g = record { station = h; sent = tt }

-- what is in use is so of an open transaction
used_open : (own : ℕ) (s : Station) → FitStation own s → (a : ℕ) → used_at s a ≡ true → s.opened ≡ true
used_open own s h a e =
    by_b s.opened (λ o. o)
    (λ o. absurd (false≢true (rw (h.works.unread o a, h.works.unwritten o a) at e)))

module _ (own : ℕ) (s : Station) (h : FitStation own s) where
  page_fit : (l : Lock) (a t : ℕ) (v : ℕ → ℕ) (u : ℕ → Bool) (x : ℕ → ℕ) → fits_page l a t s ≡ true → FitDid own (on_page l a t v u x s)
  unfolding on_page arrive
  page_fit l a t v u x f =
      if_fit (FitDid own) (ended s t) (λ e. record { station = h; sent = tt })
      (λ e.
      let o = live_page l a t s e f in
      let q = lock_same l a s in
      answer_fit own s.wait _
      (record {
        works = open_works (q.opened ∙ o) (λ z. h.works.numbered o (sym q.num ∙ z)) (λ b z. let y : ◌≡◌ {A = ℕ} 0 1 = cc in absurd (omega arith)) (no_write Idle (λ p. refl));
        few = rw (q.rd, q.wr) (not_out h.few Idle (λ b. (refl, refl)));
        locked = lock_locked l a t s o f h.locked;
        callbacks = rw (q.kind, q.opened, q.kept) h.callbacks;
      })
      (q.opened ∙ o) refl (rw (q.rd, q.wr) h.few))

  -- an 8 names a transaction: the open one, or the 19's
  answers_named : (t : ℕ) → t ≢ 0 → answers_for t s ≢ 0
  answers_named t n =
      by_b (keeps s.kind && s.opened) (λ e. rw e (h.works.numbered (and_r (keeps s.kind) _ e))) (λ e. rw e n)

  loose_locked : (p : ℕ) (set : ℕ → Bool) → ((a : ℕ) → set a ≡ true → s.opened ≡ true) → locking s.kind ≡ true → Locked s.kind s.opened (λ b. s.ol b || set b) (upd s.wl p false)
  loose_locked p set o k =
      record {
        object_opened = λ a e. or_yes (s.ol a) (set a) e (h.locked.object_opened a) (o a);
        object_locks = λ a e. k;
        whole_opened = λ q e. by_eq q p (λ z. absurd (false≢true (rw z at e))) (λ z. h.locked.whole_opened q (rw z at e));
        whole_locks = λ q e. k;
      }

  deescalate_fit : (p t : ℕ) → t ≢ 0 → locking s.kind ≡ true → FitDid own (on_deescalate p t s)
  unfolding on_deescalate loosen
  deescalate_fit p t n k =
      let u : ℕ = answers_for t s in
      by_b (gives_up p t s)
      (λ e.
      rw e
      (record {
        station = record { works = h.works; few = h.few; locked = loose_locked p (written_on p u s) (λ a q. and_l s.opened _ (and_l (live s u) _ (and_l (live s u && eqb (page_of a) p) _ q))) k; callbacks = h.callbacks };
        sent = (record { names = answers_named t n; kind_fits = k }, tt);
      }))
      (λ e. rw e (record { station = h; sent = (record { names = answers_named t n; kind_fits = k }, tt) }))

  callback_fit : (r t : ℕ) (set : ℕ → Bool) → eqb own r ≡ false → t ≢ 0 → locking s.kind ≡ true → FitDid own (on_callback r t set s)
  unfolding on_callback do_callback drop_pages mark
  callback_fit r t set m n k =
      if_fit (FitDid own) (in_use set s)
      (λ e.
      let z = any_some 256 (λ a. set a && used_at s a) e in
      let o = used_open own s h z.0 (and_r (set z.0) _ z.2) in
      record {
        station =
            record {
              works = h.works;
              few = h.few;
              locked = h.locked;
              callbacks =
                  record {
                    not_own = rw m h.callbacks.not_own;
                    done = λ q. absurd (false≢true (sym q ∙ o));
                    fit = λ p. by_eq p r (λ q. rw q (k, n)) (λ q. rw q (h.callbacks.fit p));
                  };
            };
        sent = (record { names = n; kind_fits = k }, tt);
      })
      (λ e. record { station = record { works = h.works; few = h.few; locked = h.locked; callbacks = h.callbacks }; sent = (record { names = n; kind_fits = k }, tt) })

  invalidate_fit : (d : ℕ → Bool) → FitDid own (on_invalidate d s)
  unfolding on_invalidate mark
  invalidate_fit d =
      let y : Station = mark d s in
      if_fit (FitDid own) (in_use d s && not (for_commit s.wait))
      (λ e. close_fit own _ (rw (undo_kept y) h.callbacks.not_own) (λ r. rw (undo_kept y, undo_kind y) (h.callbacks.fit r)) tt)
      (λ e. record { station = record { works = h.works; few = h.few; locked = h.locked; callbacks = h.callbacks }; sent = tt })

  down_fit : (m : Down) → DownNames own m → fits m s ≡ true → FitDid own (on_down m s)
  unfolding on_down on_committed on_aborted
  down_fit (Page l a t v u x) n f = page_fit l a t v u x f
  down_fit (Deescalate p t) n f = deescalate_fit p t n.1 f
  down_fit (Callback r t set) n f = callback_fit r t set n.0 n.1 f
  down_fit (Committed t c) n f = close_fit own _ h.callbacks.not_own h.callbacks.fit tt
  down_fit (Aborted t c) n f = close_fit own _ (rw (undo_kept s) h.callbacks.not_own) (λ r. rw (undo_kept s, undo_kind s) (h.callbacks.fit r)) tt
  down_fit (Invalidate d) n f = invalidate_fit d

  -- a delivery
  pub station_fit : (m : Down) → DownNames own m → FitDid own (station_step m s)
  unfolding station_step
  station_fit m n = unless_fit own s h (turned (not (fits m s)) 6 0) (on_down m s) (λ e. down_fit m n (taken (fits m s) e))
    where
      taken : (b : Bool) → eqb (turned (not b) 6 0) 0 ≡ true → b ≡ true
      taken true e = refl
      taken false e = absurd (false≢true e)

pub fit_new : (own k : ℕ) → FitStation own (fresh_station k)
fit_new own k =
    record {
      works = record { numbered = λ e. absurd (false≢true e); idle = λ e. refl; unread = λ e a. refl; unwritten = λ e a. refl; first = λ a e. (refl, refl); asks = no_write Idle (λ p. refl) };
      few = none_few;
      locked = record { object_opened = λ a e. e; object_locks = λ a e. absurd (false≢true e); whole_opened = λ p e n. e; whole_locks = λ p e. absurd (false≢true e) };
      callbacks = record { not_own = refl; done = λ e r l. refl; fit = λ r. tt };
    }
