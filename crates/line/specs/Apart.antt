-- What number 1 asks of a server's state, kept by every step: "two holders of one lock, a whole lock beside another's lock on that
-- page, or equal ages or arrivals". Two holders of one lock cannot be written down: a lock's holder is one number.
use Rattle.std.specs.Prelude.{◌≡◌, refl, Bool, true, false, not, ◌&&◌, ◌||◌, cond, List, ◌≢◌, ◌⊎◌, ℕ, zero, suc, ◌+◌, ◌%◌, ◌≤◌, ◌<◌, eqb, ltb}
use Rattle.std.proofs.Common.{sym, ap, ◌∙◌, inl, inr, arith, ltb-true, ltb-false, lt-ltb}
use Rattle.std.proofs.lemmas.Bool.{false≢true}
use Rattle.sets.specs.Base.{upd, any}
use Rattle.sets.specs.Laws.{by_b, by_eq}
use Rattle.sets.proofs.Laws.{eqb_same, eqb_yes, eqb_no, any_no, any_yes}
use Rattle.line.specs.Messages.{page_of, address, last_number, locking, keeps, Work, Up, ReadRequest, WriteRequest, Commit, Abort, Purge, Busy, Done, WrittenSet}
use Rattle.line.specs.Server.{Server, Serving, fresh_server, Aged, aged, End, ByCommit, ByCause, ByMessage, keeps_age, unlocks, Waiter, no_waiter, waiter_pend, waiter_busy, waiter_called, WantRead, WantWrite, WantCommit, is_want, waits, other, wants, wants_page, lock_on, shut, hinders, bad_number, above_open, unexpected, notice, finish, join, leave, send_page, abort, informed, write, archive, inform, inform_from, install, read_waiter, write_waiter, commit_waiter, serve_now, join_read, join_write, join_commit, commit_now, unlist, open_call, mark_busy, answered, open_ask, loosen, meet, heeded, heed, accept, ask, serve_read, concerned, call, grant_page, grant_object, install_waiter, start, server_step}
use Rattle.line.specs.Line.{Call, fresh, run}
use Rattle.line.specs.Pass.{Atomic, Clear, if_keeps, step_keeps}
use Rattle.sets.proofs.Laws.{and_l, and_r, not_yes}
use Rattle.line.specs.Runs.{Moves, run_keeps}

-- the holder of a lock: a station, locking, its transaction unfinished
pub record Holder (kind : ℕ → ℕ) (fin : ℕ → Bool) (h : ℕ) : Type 0 where
  pub station : h < 8
  pub unfinished : fin h ≡ false
  pub locks : locking (kind h) ≡ true

-- of a whole lock: a keeping station's may be finished
pub record WholeHolder (kind : ℕ → ℕ) (fin : ℕ → Bool) (h : ℕ) : Type 0 where
  pub station : h < 8
  pub unfinished : keeps (kind h) ≡ false → fin h ≡ false
  pub locks : locking (kind h) ≡ true

-- the transaction t that a whole lock was given to: one that was seen of its holder, the latest unless the holder keeps it
pub record GivenTo (kind latest t : ℕ) : Type 0 where
  pub seen : t ≤ latest
  pub latest_is : keeps kind ≡ false → t ≡ latest

-- locks. Pages are 0 to 31, addresses 0 to 255: no byte says another, and the gates look at no other.
pub record Locks (kind latest : ℕ → ℕ) (fin : ℕ → Bool) (ol wl whole_for : ℕ → ℕ) (asked : ℕ → Bool) : Type 0 where
  -- no "whole lock beside another's lock on that page"
  pub whole_alone : (g h a : ℕ) → a < 256 → wl (page_of a) ≡ suc h → ol a ≡ suc g → g ≡ h
  pub object_open : (h a : ℕ) → ol a ≡ suc h → Holder kind fin h
  pub whole_open : (h p : ℕ) → wl p ≡ suc h → WholeHolder kind fin h
  pub given : (h p : ℕ) → wl p ≡ suc h → GivenTo (kind h) (latest h) (whole_for p)
  pub none_given : (p : ℕ) → wl p ≡ 0 → whole_for p ≡ 0
  -- 19 was sent for a present 18
  pub asked_held : (p : ℕ) → asked p ≡ true → wl p ≢ 0

-- a station's age age_counts: its transaction is unfinished, or it keeps its age (wish 2)
abbrev pub age_counts : Bool → Bool → Bool
age_counts fin kept = not fin || kept

-- ages of unfinished transactions, and kept ones
pub record Ages (fin kept : ℕ → Bool) (age : ℕ → ℕ) (ages : ℕ) : Type 0 where
  pub ages_apart : (i j : ℕ) → i < 8 → j < 8 → age_counts (fin i) (kept i) ≡ true → age_counts (fin j) (kept j) ≡ true → age i ≡ age j → i ≡ j
  pub ages_given : (i : ℕ) → i < 8 → age i < ages

-- one station's entry in the waiting list
pub record Entry (kind : ℕ) (fin : Bool) (w : Waiter) : Type 0 where
  pub waits_open : is_want w.want ≡ true → fin ≡ false
  pub reads_lock : w.want ≡ WantRead → locking kind ≡ true
  pub writes_lock : w.want ≡ WantWrite → locking kind ≡ true
  pub commits_validate : w.want ≡ WantCommit → locking kind ≡ false

-- the waiting list
pub record Waiting (kind : ℕ → ℕ) (fin : ℕ → Bool) (arrivals : ℕ) (queue : ℕ → Waiter) : Type 0 where
  pub arrivals_apart : (i j : ℕ) → i < 8 → j < 8 → is_want (queue i).want ≡ true → is_want (queue j).want ≡ true → (queue i).arrival ≡ (queue j).arrival → i ≡ j
  pub arrivals_given : (i : ℕ) → i < 8 → is_want (queue i).want ≡ true → (queue i).arrival < arrivals
  pub entry : (i : ℕ) → i < 8 → Entry (kind i) (fin i) (queue i)

-- over fields, so that an action that leaves them is seen to keep this
pub record ApartOf (kind latest : ℕ → ℕ) (fin kept : ℕ → Bool) (ol wl whole_for : ℕ → ℕ) (asked : ℕ → Bool) (age : ℕ → ℕ) (ages arrivals : ℕ) (queue : ℕ → Waiter) : Type 0 where
  pub locks : Locks kind latest fin ol wl whole_for asked
  pub aged : Ages fin kept age ages
  pub waiting : Waiting kind fin arrivals queue

abbrev pub Apart : Server → Type 0
Apart s = ApartOf s.kind s.latest s.fin s.age_kept s.ol s.wl s.whole_for s.asked s.age s.ages s.arrivals s.queue

abbrev pub ApartIn : Serving → Type 0
ApartIn x = Apart x.server

-- tests
pub or_l : (a b : Bool) → (a || b) ≡ false → a ≡ false
or_l true b e = e
or_l false b e = refl

pub or_r : (a b : Bool) → (a || b) ≡ false → b ≡ false
or_r true b e = absurd (false≢true (sym e))
or_r false b e = e

pub not_no : (b : Bool) → not b ≡ false → b ≡ true
not_no true e = refl
not_no false e = absurd (false≢true (sym e))

or_right : (p q : Bool) → q ≡ true → (p || q) ≡ true
or_right true q e = refl
or_right false q e = e

both : (b : Bool) → b ≡ true → b ≡ false → ⊥
both b t f = false≢true (sym f ∙ t)

-- a lock that is not another's is none or its own
other_no : (x h i : ℕ) → other x i ≡ false → x ≡ suc h → h ≡ i
other_no x h i o e =
    by_eq x 0 (λ u. absurd (omega (arith, eqb_yes x 0 u)))
    (λ u. by_eq x (suc i) (λ v. omega (arith, eqb_yes x (suc i) v)) (λ v. absurd (false≢true (sym (rw (u, v) at o)))))

-- a lock left by `finish` was there, and is not the finished station's
pub left_lock : (x i h : ℕ) → cond (eqb x (suc i)) 0 x ≡ suc h → (x ≡ suc h) × (eqb h i ≡ false)
left_lock x i h q =
    by_eq x (suc i) (λ e. let z : 0 ≡ suc h = rw e at q in absurd (omega arith))
    (λ e.
    let z : x ≡ suc h = rw e at q in
    (z, by_eq h i (λ f. absurd (eqb_no x (suc i) e (omega (arith, eqb_yes h i f)))) (λ f. f)))

-- .. a whole lock, unless that station keeps it
pub left_whole : (k x i h : ℕ) → cond (unlocks k i x) 0 x ≡ suc h → (x ≡ suc h) × (keeps k ≡ false → eqb h i ≡ false)
left_whole k x i h q =
    by_b (unlocks k i x) (λ e. let z : 0 ≡ suc h = rw e at q in absurd (omega arith))
    (λ e.
    let z : x ≡ suc h = rw e at q in
    (z, λ n. by_eq h i (λ f. absurd (false≢true (sym (rw (z, eqb_yes h i f, eqb_same (suc i), n) at e)))) (λ f. f)))

-- a kind that keeps its locks has some
pub keeps_locks : (k : ℕ) → keeps k ≡ true → locking k ≡ true
keeps_locks k e = rw (eqb_yes k 2 e) refl

-- an address is one of its page's eight
on_page_lem : (a : ℕ) → address (page_of a) (a % 8) ≡ a
on_page_lem a = omega arith

-- locks

module _ {kind : ℕ → ℕ} {fin : ℕ → Bool} where
  begun_holder : (i h : ℕ) → Holder kind fin h → Holder kind (upd fin i false) h
  begun_holder i h o =
      record { station = o.station; unfinished = by_eq h i (λ e. rw e refl) (λ e. rw e o.unfinished); locks = o.locks }

  begun_whole : (i h : ℕ) → WholeHolder kind fin h → WholeHolder kind (upd fin i false) h
  begun_whole i h o =
      record { station = o.station; unfinished = λ n. by_eq h i (λ e. rw e refl) (λ e. rw e (o.unfinished n)); locks = o.locks }

  ended_holder : (i h : ℕ) → eqb h i ≡ false → Holder kind fin h → Holder kind (upd fin i true) h
  ended_holder i h e o = record { station = o.station; unfinished = rw e o.unfinished; locks = o.locks }

  ended_whole : (i h : ℕ) → (keeps (kind i) ≡ false → eqb h i ≡ false) → WholeHolder kind fin h → WholeHolder kind (upd fin i true) h
  ended_whole i h e o =
      record {
        station = o.station;
        unfinished = λ n. by_eq h i (λ q. absurd (false≢true (sym (e (rw (eqb_yes h i q) at n)) ∙ q))) (λ q. rw q (o.unfinished n));
        locks = o.locks;
      }

  open_whole : (i : ℕ) → Holder kind fin i → WholeHolder kind fin i
  open_whole i o = record { station = o.station; unfinished = λ n. o.unfinished; locks = o.locks }

-- a new number of station i, which ends its transaction before: above it, and a locking station's is finished then
pub record Renews (kind latest t : ℕ) (fin : Bool) : Type 0 where
  pub above : latest < t
  pub over : locking kind ≡ true → fin ≡ true

module _ {kind latest : ℕ → ℕ} {fin : ℕ → Bool} {ol wl whole_for : ℕ → ℕ} {asked : ℕ → Bool} (l : Locks kind latest fin ol wl whole_for asked) where
  -- whoever holds a page whole behind its transaction keeps it
  kept_over : (i p : ℕ) → wl p ≡ suc i → (locking (kind i) ≡ true → fin i ≡ true) → keeps (kind i) ≡ false → ⊥
  kept_over i p e o n = let w = l.whole_open i p e in false≢true (sym (w.unfinished n) ∙ o w.locks)

  begun_locks : (i t : ℕ) → Renews (kind i) (latest i) t (fin i) → Locks kind (upd latest i t) (upd fin i false) ol wl whole_for asked
  begun_locks i t r =
      record {
        whole_alone = l.whole_alone;
        object_open = λ h a e. begun_holder i h (l.object_open h a e);
        whole_open = λ h p e. begun_whole i h (l.whole_open h p e);
        given = λ h p e.
            let g = l.given h p e in
            by_eq h i
            (λ q.
            let z : wl p ≡ suc i = rw (eqb_yes h i q) at e in
            let y : whole_for p ≤ latest i = rw (eqb_yes h i q) at g.seen in
            rw q (record { seen = omega (arith, r.above); latest_is = λ n. absurd (kept_over i p z r.over (rw (eqb_yes h i q) at n)) }))
            (λ q. rw q g);
        none_given = l.none_given;
        asked_held = l.asked_held;
      }

  ended_locks : (i : ℕ) → Locks kind latest (upd fin i true) (λ a. cond (eqb (ol a) (suc i)) 0 (ol a)) (λ p. cond (unlocks (kind i) i (wl p)) 0 (wl p)) (λ p. cond (unlocks (kind i) i (wl p)) 0 (whole_for p)) (λ p. not (unlocks (kind i) i (wl p)) && asked p)
  ended_locks i =
      record {
        whole_alone = λ g h a b p q. l.whole_alone g h a b (left_whole (kind i) (wl (page_of a)) i h p).0 (left_lock (ol a) i g q).0;
        object_open = λ h a e. let u = left_lock (ol a) i h e in ended_holder i h u.1 (l.object_open h a u.0);
        whole_open = λ h p e. let u = left_whole (kind i) (wl p) i h e in ended_whole i h u.1 (l.whole_open h p u.0);
        given = λ h p e.
            by_b (unlocks (kind i) i (wl p)) (λ q. let z : 0 ≡ suc h = rw q at e in absurd (omega arith))
            (λ q. rw q (l.given h p (rw q at e)));
        none_given = λ p e. by_b (unlocks (kind i) i (wl p)) (λ q. rw q refl) (λ q. rw q (l.none_given p (rw q at e)));
        asked_held = λ p t z. l.asked_held p (and_r (not (unlocks (kind i) i (wl p))) _ t) (rw (not_yes (unlocks (kind i) i (wl p)) (and_l (not (unlocks (kind i) i (wl p))) _ t)) at z);
      }

  -- 19
  asked_locks : (p : ℕ) → wl p ≢ 0 → Locks kind latest fin ol wl whole_for (upd asked p true)
  asked_locks p n =
      record {
        whole_alone = l.whole_alone;
        object_open = l.object_open;
        whole_open = l.whole_open;
        given = l.given;
        none_given = l.none_given;
        asked_held = λ q t. by_eq q p (λ e. rw (eqb_yes q p e) n) (λ e. l.asked_held q (rw e at t));
      }

  -- 17
  object_locks : (i : ℕ) (set : ℕ → Bool) → Holder kind fin i → ((a : ℕ) → set a ≡ true → a < 256 → (h : ℕ) → wl (page_of a) ≡ suc h → h ≡ i) → Locks kind latest fin (λ a. cond (set a) (suc i) (ol a)) wl whole_for asked
  object_locks i set o c =
      record {
        whole_alone = λ g h b u p q.
            by_b (set b)
            (λ e.
            let z : suc i ≡ suc g = rw e at q in
            let y : h ≡ i = c b e u h p in
            omega arith)
            (λ e. l.whole_alone g h b u p (rw e at q));
        object_open = λ h b q. by_b (set b) (λ e. let z : suc i ≡ suc h = rw e at q in let y : h ≡ i = omega arith in rw y o) (λ e. l.object_open h b (rw e at q));
        whole_open = l.whole_open;
        given = l.given;
        none_given = l.none_given;
        asked_held = l.asked_held;
      }

  -- 18
  whole_locks : (i p : ℕ) → Holder kind fin i → ((g a : ℕ) → page_of a ≡ p → ol a ≡ suc g → g ≡ i) → Locks kind latest fin ol (upd wl p (suc i)) (upd whole_for p (latest i)) (upd asked p false)
  whole_locks i p o c =
      record {
        whole_alone = λ g h a u q r.
            by_eq (page_of a) p
            (λ e. let z : suc i ≡ suc h = rw e at q in let y : g ≡ i = c g a (eqb_yes (page_of a) p e) r in omega arith)
            (λ e. l.whole_alone g h a u (rw e at q) r);
        object_open = l.object_open;
        whole_open = λ h q r. by_eq q p (λ e. let z : suc i ≡ suc h = rw e at r in let y : h ≡ i = omega arith in rw y (open_whole i o)) (λ e. l.whole_open h q (rw e at r));
        given = λ h q r.
            by_eq q p (λ e. let z : suc i ≡ suc h = rw e at r in let y : h ≡ i = omega arith in rw (e, y) (record { seen = omega arith; latest_is = λ n. refl }))
            (λ e. rw e (l.given h q (rw e at r)));
        none_given = λ q r. by_eq q p (λ e. let z : suc i ≡ 0 = rw e at r in absurd (omega arith)) (λ e. rw e (l.none_given q (rw e at r)));
        asked_held = λ q t z. by_eq q p (λ e. false≢true (rw e at t)) (λ e. l.asked_held q (rw e at t) (rw e at z));
      }

  -- 8: its set is locked if the holder is unfinished
  loose_locks : (i p : ℕ) (set : ℕ → Bool) → wl p ≡ suc i → ((a : ℕ) → set a ≡ true → fin i ≡ false) → Locks kind latest fin (λ a. cond (eqb (page_of a) p && set a) (suc i) (ol a)) (upd wl p 0) (upd whole_for p 0) (upd asked p false)
  loose_locks i p set o f =
      record {
        whole_alone = λ g h a u q r.
            by_eq (page_of a) p (λ e. let z : 0 ≡ suc h = rw e at q in absurd (omega arith))
            (λ e. l.whole_alone g h a u (rw e at q) (rw e at r));
        object_open = λ h a r.
            by_b (eqb (page_of a) p && set a)
            (λ e.
            let z : suc i ≡ suc h = rw e at r in
            let y : h ≡ i = omega arith in
            let w = l.whole_open i p o in
            rw y (record { station = w.station; unfinished = f a (and_r (eqb (page_of a) p) _ e); locks = w.locks }))
            (λ e. l.object_open h a (rw e at r));
        whole_open = λ h q r. by_eq q p (λ e. let z : 0 ≡ suc h = rw e at r in absurd (omega arith)) (λ e. l.whole_open h q (rw e at r));
        given = λ h q r. by_eq q p (λ e. let z : 0 ≡ suc h = rw e at r in absurd (omega arith)) (λ e. rw e (l.given h q (rw e at r)));
        none_given = λ q r. by_eq q p (λ e. rw e refl) (λ e. rw e (l.none_given q (rw e at r)));
        asked_held = λ q t z. by_eq q p (λ e. false≢true (rw e at t)) (λ e. l.asked_held q (rw e at t) (rw e at z));
      }

-- ages

module _ {fin kept : ℕ → Bool} {age : ℕ → ℕ} {ages : ℕ} (l : Ages fin kept age ages) where
  -- "each transaction gets a new age"
  new_ages : (i : ℕ) → Ages (upd fin i false) kept (upd age i ages) (ages + 1)
  new_ages i =
      record {
        ages_apart = λ j k b c p q r.
            by_eq j i
            (λ e.
            by_eq k i (λ f. eqb_yes j i e ∙ sym (eqb_yes k i f))
            (λ f. let z : ages ≡ age k = rw (e, f) at r in absurd (omega (arith, l.ages_given k c))))
            (λ e.
            by_eq k i (λ f. let z : age j ≡ ages = rw (e, f) at r in absurd (omega (arith, l.ages_given j b)))
            (λ f. l.ages_apart j k b c (rw e at p) (rw f at q) (rw (e, f) at r)));
        ages_given = λ j b. by_eq j i (λ e. rw e (omega arith)) (λ e. rw e (omega (arith, l.ages_given j b)));
      }

  -- wish 2: .. or the age that its station keeps, which differed from the others' already
  kept_ages : (i : ℕ) → kept i ≡ true → Ages (upd fin i false) kept (upd age i (age i)) ages
  kept_ages i t =
      record {
        ages_apart = λ j k b c p q r. l.ages_apart j k b c (counted j p) (counted k q) (sym (same j) ∙ r ∙ same k);
        ages_given = λ j b. rw (same j) (l.ages_given j b);
      }
    where
      same : (j : ℕ) → upd age i (age i) j ≡ age j
      same j = by_eq j i (λ e. rw (e, eqb_yes j i e) refl) (λ e. rw e refl)

      counted : (j : ℕ) → age_counts (upd fin i false j) (kept j) ≡ true → age_counts (fin j) (kept j) ≡ true
      counted j p = by_eq j i (λ e. or_right (not (fin j)) (kept j) (rw (eqb_yes j i e) t)) (λ e. rw e at p)

  begun_ages : (i : ℕ) → let g = aged (kept i) (age i) ages in Ages (upd fin i false) kept (upd age i g.age) g.ages
  begun_ages i = by_b (kept i) (λ e. rw e (kept_ages i e)) (λ e. rw e (new_ages i))

  -- an end; who keeps its age behind it had an unfinished transaction
  ended_ages : (i : ℕ) (k : Bool) → (k ≡ true → fin i ≡ false) → Ages (upd fin i true) (upd kept i k) age ages
  ended_ages i k o =
      record {
        ages_apart = λ j h b c p q r. l.ages_apart j h b c (counted j p) (counted h q) r;
        ages_given = l.ages_given;
      }
    where
      counted : (j : ℕ) → age_counts (upd fin i true j) (upd kept i k j) ≡ true → age_counts (fin j) (kept j) ≡ true
      counted j p = by_eq j i (λ e. rw (eqb_yes j i e, o (rw e at p)) refl) (λ e. rw e at p)

-- the waiting list

-- two entries alike in all that is said above
pub record Alike (v w : Waiter) : Type 0 where
  pub want : v.want ≡ w.want
  pub arrival : v.arrival ≡ w.arrival

no_entry : (kind : ℕ) (fin : Bool) → Entry kind fin no_waiter
no_entry kind fin =
    record {
      waits_open = λ e. absurd (false≢true e);
      reads_lock = λ e. absurd (false≢true (ap is_want e));
      writes_lock = λ e. absurd (false≢true (ap is_want e));
      commits_validate = λ e. absurd (false≢true (ap is_want e));
    }

module _ {kind : ℕ → ℕ} {fin : ℕ → Bool} {arrivals : ℕ} {queue : ℕ → Waiter} (l : Waiting kind fin arrivals queue) where
  begun_waiting : (i : ℕ) → Waiting kind (upd fin i false) arrivals queue
  begun_waiting i =
      record {
        arrivals_apart = l.arrivals_apart;
        arrivals_given = l.arrivals_given;
        entry = λ j b.
            let k = l.entry j b in
            record {
              waits_open = λ t. by_eq j i (λ e. rw e refl) (λ e. rw e (k.waits_open t));
              reads_lock = k.reads_lock;
              writes_lock = k.writes_lock;
              commits_validate = k.commits_validate;
            };
      }

  -- a transaction that does not wait may end
  ended_waiting : (i : ℕ) → is_want (queue i).want ≡ false → Waiting kind (upd fin i true) arrivals queue
  ended_waiting i n =
      record {
        arrivals_apart = l.arrivals_apart;
        arrivals_given = l.arrivals_given;
        entry = λ j b.
            let k = l.entry j b in
            record {
              waits_open = λ t. by_eq j i (λ e. absurd (both (is_want (queue j).want) t (rw (eqb_yes j i e) n))) (λ e. rw e (k.waits_open t));
              reads_lock = k.reads_lock;
              writes_lock = k.writes_lock;
              commits_validate = k.commits_validate;
            };
      }

  joined_waiting : (i : ℕ) (w : Waiter) → w.arrival ≡ arrivals → Entry (kind i) (fin i) w → Waiting kind fin (arrivals + 1) (upd queue i w)
  joined_waiting i w n k =
      record {
        arrivals_apart = λ j h b c p q r.
            by_eq j i
            (λ e.
            by_eq h i (λ f. eqb_yes j i e ∙ sym (eqb_yes h i f))
            (λ f. let z : w.arrival ≡ (queue h).arrival = rw (e, f) at r in absurd (omega (arith, l.arrivals_given h c (rw f at q)))))
            (λ e.
            by_eq h i (λ f. let z : (queue j).arrival ≡ w.arrival = rw (e, f) at r in absurd (omega (arith, l.arrivals_given j b (rw e at p))))
            (λ f. l.arrivals_apart j h b c (rw e at p) (rw f at q) (rw (e, f) at r)));
        arrivals_given = λ j b p. by_eq j i (λ e. rw e (omega arith)) (λ e. rw e (omega (arith, l.arrivals_given j b (rw e at p))));
        entry = λ j b. by_eq j i (λ e. rw (e, eqb_yes j i e) k) (λ e. rw e (l.entry j b));
      }

  left_waiting : (i : ℕ) → Waiting kind fin arrivals (upd queue i no_waiter)
  left_waiting i =
      record {
        arrivals_apart = λ j h b c p q r.
            by_eq j i (λ e. absurd (false≢true (rw e at p)))
            (λ e. by_eq h i (λ f. absurd (false≢true (rw f at q))) (λ f. l.arrivals_apart j h b c (rw e at p) (rw f at q) (rw (e, f) at r)));
        arrivals_given = λ j b p. by_eq j i (λ e. absurd (false≢true (rw e at p))) (λ e. rw e (l.arrivals_given j b (rw e at p)));
        entry = λ j b. by_eq j i (λ e. rw e (no_entry (kind j) (fin j))) (λ e. rw e (l.entry j b));
      }

  -- calls and their answers leave all that is said here
  alike_waiting : (q : ℕ → Waiter) → ((j : ℕ) → Alike (q j) (queue j)) → Waiting kind fin arrivals q
  alike_waiting q s =
      record {
        arrivals_apart = λ i j b c p t r. l.arrivals_apart i j b c (rw (s i).want at p) (rw (s j).want at t) (rw ((s i).arrival, (s j).arrival) at r);
        arrivals_given = λ i b p. rw (s i).arrival (l.arrivals_given i b (rw (s i).want at p));
        entry = λ i b.
            let k = l.entry i b in
            record {
              waits_open = λ t. k.waits_open (rw (s i).want at t);
              reads_lock = λ t. k.reads_lock (rw (s i).want at t);
              writes_lock = λ t. k.writes_lock (rw (s i).want at t);
              commits_validate = λ t. k.commits_validate (rw (s i).want at t);
            };
      }

alike_upd : (q : ℕ → Waiter) (r : ℕ) (w : Waiter) → Alike w (q r) → (j : ℕ) → Alike (upd q r w j) (q j)
alike_upd q r w a j = by_eq j r (λ e. rw (e, eqb_yes j r e) a) (λ e. rw e (record { want = refl; arrival = refl }))

-- parts of the actions

module _ (i : ℕ) (x : Serving) (h : ApartIn x) where
  notice_apart : (t : ℕ) → (eqb t (x.server.latest i) ≡ false → Renews (x.server.kind i) (x.server.latest i) t (x.server.fin i)) → ApartIn (notice i t x)
  unfolding notice
  notice_apart t r =
      if_keeps ApartIn (eqb t (x.server.latest i)) (λ e. h)
      (λ e. record { locks = begun_locks h.locks i t (r e); aged = begun_ages h.aged i; waiting = begun_waiting h.waiting i })

  finish_apart : (e : End) → (keeps_age e ≡ true → x.server.fin i ≡ false) → waits x.server i ≡ false → ApartIn (finish i e x)
  unfolding finish
  finish_apart e o n = record { locks = ended_locks h.locks i; aged = ended_ages h.aged i (keeps_age e) o; waiting = ended_waiting h.waiting i n }

  join_apart : (w : Waiter) → w.arrival ≡ x.server.arrivals → Entry (x.server.kind i) (x.server.fin i) w → ApartIn (join i w x)
  unfolding join
  join_apart w n k = record { locks = h.locks; aged = h.aged; waiting = joined_waiting h.waiting i w n k }

  leave_apart : ApartIn (leave i x)
  unfolding leave
  leave_apart = record { locks = h.locks; aged = h.aged; waiting = left_waiting h.waiting i }

leave_waits : (i : ℕ) (x : Serving) → waits (leave i x).server i ≡ false
unfolding leave
leave_waits i x = rw (eqb_same i) refl

left_fin : (i : ℕ) (x : Serving) → (leave i x).server.fin ≡ x.server.fin
unfolding leave
left_fin i x = refl

-- cause 1 comes to an unfinished transaction
abort_apart : (i c : ℕ) (x : Serving) → (eqb c 1 ≡ true → x.server.fin i ≡ false) → ApartIn x → ApartIn (abort i c x)
unfolding abort
abort_apart i c x o h = finish_apart i (leave i x) (leave_apart i x h) (ByCause c) (rw (left_fin i x) o) (leave_waits i x)

inform_apart : (i : ℕ) (w : Work) (j : ℕ) (x : Serving) → ApartIn x → ApartIn (inform i w j x)
unfolding inform
inform_apart i w j x h = if_keeps ApartIn (informed x.server i w j) (λ e. h) (λ e. h)

informs_apart : (n j i : ℕ) (w : Work) (x : Serving) → ApartIn x → ApartIn (inform_from n j i w x)
unfolding inform_from
informs_apart zero j i w x h = h
informs_apart (suc n) j i w x h = informs_apart n (suc j) i w (inform i w j x) (inform_apart i w j x h)

install_apart : (i : ℕ) (w : Work) (x : Serving) → ApartIn x → ApartIn (install i w x)
unfolding install archive write
install_apart i w x h = informs_apart 8 0 i w _ (finish_apart i (archive i w (write w (leave i x))) (leave_apart i x h) ByCommit (λ e. absurd (false≢true e)) (leave_waits i x))

-- the pass

module _ (i : ℕ) (x : Serving) (b : i < 8) (h : ApartIn x) where
  writer : (x.server.queue i).want ≡ WantWrite → Holder x.server.kind x.server.fin i
  writer w =
      let k = h.waiting.entry i b in
      record { station = b; unfinished = k.waits_open (ap is_want w); locks = k.writes_lock w }

  -- a page that a writer has passed is not locked whole by another
  pub passed : Clear i x → (a : ℕ) → (x.server.queue i).writes a ≡ true → a < 256 → (g : ℕ) → x.server.wl (page_of a) ≡ suc g → g ≡ i
  passed c a own u g e =
      let s : Server = x.server in
      let here : wants s i (address (page_of a) (a % 8)) ≡ true = rw (on_page_lem a) (or_right ((s.queue i).reads a) ((s.queue i).writes a) own) in
      let page : wants_page s i (page_of a) ≡ true = any_yes 8 (λ o. wants s i (address (page_of a) o)) (a % 8) (omega arith) here in
      let none : shut s i (page_of a) ≡ false = any_no 32 (shut s i) c.unshut (page_of a) (omega arith) in
      other_no (s.wl (page_of a)) g i (rw page at none) e

  -- a page where nobody hinders has no other's lock
  unhindered : (p : ℕ) → any 8 (hinders x.server i p) ≡ false → (g a : ℕ) → page_of a ≡ p → x.server.ol a ≡ suc g → g ≡ i
  unhindered p n g a e o =
      let s : Server = x.server in
      let free : hinders s i p g ≡ false = any_no 8 (hinders s i p) n g (h.locks.object_open g a o).station in
      by_eq g i (λ f. eqb_yes g i f)
      (λ f.
      let tests = rw f at free in
      let lock : lock_on s g p ≡ false = or_r (locking (s.kind g) && s.listed g p) _ (or_l _ _ tests) in
      let object : eqb (s.ol (address p (a % 8))) (suc g) ≡ false = any_no 8 (λ q. eqb (s.ol (address p q)) (suc g)) (or_r (eqb (s.wl p) (suc g)) _ lock) (a % 8) (omega arith) in
      let here : address p (a % 8) ≡ a = omega arith in
      absurd (eqb_no (s.ol a) (suc g) (rw here at object) o))

pub atomic_apart : Atomic ApartIn
unfolding ask serve_read send_page leave call grant_object grant_page install_waiter
atomic_apart =
    record {
      aborts = λ i c x b t k. abort_apart i c x (λ e. (k.waiting.entry i b).waits_open t) k;
      asks = λ i h p x b t u k.
          record { locks = asked_locks k.locks p (λ z. omega (arith, z, t.held)); aged = k.aged; waiting = k.waiting };
      reads = λ i x b w c k. leave_apart i x k;
      calls = λ i x b t u w c k.
          record {
            locks = k.locks;
            aged = k.aged;
            waiting = alike_waiting k.waiting _ (alike_upd x.server.queue i (waiter_pend (waiter_called (x.server.queue i) true) (concerned x.server i)) (record { want = refl; arrival = refl }));
          };
      objects = λ i x b w r k.
          let y = leave_apart i x k in
          record { locks = object_locks k.locks i (x.server.queue i).writes (writer i x b k w) (passed i x b k r.clear); aged = k.aged; waiting = y.waiting };
      pages = λ i x b w r e k.
          let y = leave_apart i x k in
          let p : ℕ = page_of (x.server.queue i).req in
          record { locks = whole_locks k.locks i p (writer i x b k w) (unhindered i x b k p e); aged = k.aged; waiting = y.waiting };
      installs = λ i x b w f r k. install_apart i (x.server.queue i).work x k;
    }

-- accept

-- what number 6 leaves of 1 to 4: the station does not wait, and its transaction is the latest, unfinished, or a new one
none_of : (a b c d : Bool) → (a || b || c || d) ≡ false → (a ≡ false) × (b ≡ false) × (c ≡ false) × (d ≡ false)
none_of true b c d e = absurd (false≢true (sym e))
none_of false true c d e = absurd (false≢true (sym e))
none_of false false true d e = absurd (false≢true (sym e))
none_of false false false d e = (refl, refl, refl, e)

pub record GoodNumber (t latest : ℕ) (fin wait : Bool) : Type 0 where
  pub next : latest ≤ t
  pub unended : eqb t latest ≡ true → fin ≡ false
  pub idle : wait ≡ false

pub good_number : (s : Server) (i t : ℕ) → bad_number s i t ≡ false → GoodNumber t (s.latest i) (s.fin i) (waits s i)
good_number s i t e =
    let u = none_of (ltb t (s.latest i)) (eqb t (s.latest i) && s.fin i) (ltb (s.latest i) t && not (s.fin i) && locking (s.kind i)) (waits s i) e in
    record { next = ltb-false t (s.latest i) u.0; unended = λ q. rw q at u.1; idle = u.3 }

-- so a number that is not the latest is a new one
pub good_renews : (s : Server) (i t : ℕ) → bad_number s i t ≡ false → eqb t (s.latest i) ≡ false → Renews (s.kind i) (s.latest i) t (s.fin i)
good_renews s i t e q =
    let u = none_of (ltb t (s.latest i)) (eqb t (s.latest i) && s.fin i) (ltb (s.latest i) t && not (s.fin i) && locking (s.kind i)) (waits s i) e in
    let above : s.latest i < t = omega (arith, ltb-false t (s.latest i) u.0, eqb_no t (s.latest i) q) in
    record {
      above = above;
      over = λ k.
          by_b (s.fin i) (λ f. f)
          (λ f. absurd (false≢true (sym u.2 ∙ rw (lt-ltb (s.latest i) t above, f, k) refl)));
    }

-- an 8 that is heeded and names a new number: its station keeps the page, ..
pub heard_keeps : (s : Server) (i p t : ℕ) → open_ask s i p t ≡ true → ltb (s.latest i) t ≡ true → keeps (s.kind i) ≡ true
heard_keeps s i p t o a =
    by_b (keeps (s.kind i)) (λ q. q)
    (λ q.
    let same : eqb t (s.latest i) ≡ true = and_r (not (s.fin i)) _ (rw q at (and_r (eqb (s.wl p) (suc i) && s.asked p) _ o)) in
    absurd (omega (arith, eqb_yes t (s.latest i) same, ltb-true (s.latest i) t a)))

-- .. and what it had before is finished
pub heard_renews : (s : Server) (i p t : ℕ) (set : ℕ → Bool) → unexpected i (WrittenSet p t set) s ≡ false → open_ask s i p t ≡ true → ltb (s.latest i) t ≡ true → Renews (s.kind i) (s.latest i) t (s.fin i)
heard_renews s i p t set u o a =
    let above : s.latest i < t = ltb-true (s.latest i) t a in
    let late : (keeps (s.kind i) && above_open s i t) ≡ false = or_r (not (locking (s.kind i))) _ u in
    record {
      above = above;
      over = λ k.
          by_b (s.fin i) (λ f. f)
          (λ f. absurd (false≢true (sym late ∙ rw (heard_keeps s i p t o a, a, f) refl)));
    }

module _ (i t : ℕ) (x : Serving) where
  pub noticed_open : bad_number x.server i t ≡ false → (notice i t x).server.fin i ≡ false
  unfolding notice
  noticed_open e = by_eq t (x.server.latest i) (λ q. rw q ((good_number x.server i t e).unended q)) (λ q. rw (q, eqb_same i) refl)

  pub noticed_kind : (notice i t x).server.kind ≡ x.server.kind
  unfolding notice
  noticed_kind = by_eq t (x.server.latest i) (λ q. rw q refl) (λ q. rw q refl)

  pub noticed_queue : (notice i t x).server.queue ≡ x.server.queue
  unfolding notice
  noticed_queue = by_eq t (x.server.latest i) (λ q. rw q refl) (λ q. rw q refl)

read_entry : (s : Server) (a : ℕ) {kind : ℕ} {fin : Bool} → fin ≡ false → locking kind ≡ true → Entry kind fin (read_waiter s a)
read_entry s a o k =
    record {
      waits_open = λ e. o;
      reads_lock = λ e. k;
      writes_lock = λ e. k;
      commits_validate = λ e. let z : ◌≡◌ {A = ℕ} 0 1 = cc in absurd (omega arith);
    }

write_entry : (s : Server) (p : ℕ) (set : ℕ → Bool) {kind : ℕ} {fin : Bool} → fin ≡ false → locking kind ≡ true → Entry kind fin (write_waiter s p set)
write_entry s p set o k =
    record {
      waits_open = λ e. o;
      reads_lock = λ e. k;
      writes_lock = λ e. k;
      commits_validate = λ e. let z : ◌≡◌ {A = ℕ} 0 1 = cc in absurd (omega arith);
    }

commit_entry : (s : Server) (w : Work) {kind : ℕ} {fin : Bool} → fin ≡ false → locking kind ≡ false → Entry kind fin (commit_waiter s w)
commit_entry s w o k =
    record {
      waits_open = λ e. o;
      reads_lock = λ e. let z : ◌≡◌ {A = ℕ} 0 1 = cc in absurd (omega arith);
      writes_lock = λ e. let z : ◌≡◌ {A = ℕ} 0 1 = cc in absurd (omega arith);
      commits_validate = λ e. k;
    }

commit_now_apart : (i : ℕ) (w : Work) (x : Serving) → ApartIn x → ApartIn (commit_now i w x)
unfolding commit_now
commit_now_apart i w x h = if_keeps ApartIn (eqb x.server.last last_number) (λ e. abort_apart i 4 x (λ o. absurd (false≢true o)) h) (λ e. install_apart i w x h)

-- a new number of a station that does not wait is a good one
pub renews_good : (s : Server) (i t : ℕ) → Renews (s.kind i) (s.latest i) t (s.fin i) → locking (s.kind i) ≡ true → (waits s i ≡ true → s.fin i ≡ false) → bad_number s i t ≡ false
renews_good s i t r k o =
    let f : s.fin i ≡ true = r.over k in
    let low : ltb t (s.latest i) ≡ false = by_b (ltb t (s.latest i)) (λ e. absurd (omega (arith, ltb-true t (s.latest i) e, r.above))) (λ e. e) in
    let other : eqb t (s.latest i) ≡ false = by_eq t (s.latest i) (λ e. absurd (omega (arith, eqb_yes t (s.latest i) e, r.above))) (λ e. e) in
    let idle : waits s i ≡ false = by_b (waits s i) (λ e. absurd (false≢true (sym (o e) ∙ f))) (λ e. e) in
    rw (low, other, lt-ltb (s.latest i) t r.above, f, idle) refl

-- 8
pub asked_of : (s : Server) (i p t : ℕ) → open_ask s i p t ≡ true → s.wl p ≡ suc i
asked_of s i p t e = eqb_yes (s.wl p) (suc i) (and_l (eqb (s.wl p) (suc i)) _ (and_l (eqb (s.wl p) (suc i) && s.asked p) _ e))

met_wl : (i t : ℕ) (x : Serving) → (meet i t x).server.wl ≡ x.server.wl
unfolding meet notice
met_wl i t x = by_b (ltb (x.server.latest i) t) (λ e. rw e (by_b (eqb t (x.server.latest i)) (λ q. rw q refl) (λ q. rw q refl))) (λ e. rw e refl)

meet_apart : (i p t : ℕ) (set : ℕ → Bool) (x : Serving) → unexpected i (WrittenSet p t set) x.server ≡ false → open_ask x.server i p t ≡ true → ApartIn x → ApartIn (meet i t x)
unfolding meet
meet_apart i p t set x u e h =
    if_keeps ApartIn (ltb (x.server.latest i) t) (λ a. notice_apart i x h t (λ q. heard_renews x.server i p t set u e a)) (λ a. h)

heed_apart : (i p t : ℕ) (set : ℕ → Bool) (x : Serving) → unexpected i (WrittenSet p t set) x.server ≡ false → open_ask x.server i p t ≡ true → ApartIn x → ApartIn (heed i p t set x)
unfolding heed loosen
heed_apart i p t set x u e h =
    let y : Serving = meet i t x in
    let g : ApartIn y = meet_apart i p t set x u e h in
    record {
      locks =
          loose_locks g.locks i p (heeded y.server i t set) (ap (λ f. f p) (met_wl i t x) ∙ asked_of x.server i p t e)
          (λ a q. not_yes (y.server.fin i) (and_l (not (y.server.fin i)) _ (and_l (not (y.server.fin i) && eqb t (y.server.latest i)) _ q)));
      aged = g.aged;
      waiting = g.waiting;
    }

pub accept_apart : (i : ℕ) (m : Up) (x : Serving) → i < 8 → unexpected i m x.server ≡ false → ApartIn x → ApartIn (accept i m x)
unfolding accept join_read join_write join_commit serve_now send_page unlist mark_busy answered loosen
accept_apart i (ReadRequest a t) x b u h =
    let y : Serving = notice i t x in
    let g : ApartIn y = notice_apart i x h t (good_renews x.server i t u) in
    if_keeps ApartIn (locking (x.server.kind i))
    (λ e. join_apart i y g (read_waiter y.server a) refl (read_entry y.server a (noticed_open i t x u) (rw (noticed_kind i t x) e)))
    (λ e. g)
accept_apart i (WriteRequest p t set) x b u h =
    let y : Serving = notice i t x in
    let k : locking (x.server.kind i) ≡ true = not_no (locking (x.server.kind i)) (or_r (bad_number x.server i t) _ u) in
    join_apart i y (notice_apart i x h t (good_renews x.server i t (or_l (bad_number x.server i t) _ u))) (write_waiter y.server p set) refl
    (write_entry y.server p set (noticed_open i t x (or_l (bad_number x.server i t) _ u)) (rw (noticed_kind i t x) k))
accept_apart i (Commit w) x b u h =
    let t : ℕ = w.transaction in
    let y : Serving = notice i t x in
    let g : ApartIn y = notice_apart i x h t (good_renews x.server i t (or_l (bad_number x.server i t) _ u)) in
    if_keeps ApartIn (locking (x.server.kind i)) (λ e. commit_now_apart i w y g)
    (λ e. join_apart i y g (commit_waiter y.server w) refl (commit_entry y.server w (noticed_open i t x (or_l (bad_number x.server i t) _ u)) (rw (noticed_kind i t x) e)))
accept_apart i (Abort t) x b u h = finish_apart i (notice i t x) (notice_apart i x h t (good_renews x.server i t (or_l (bad_number x.server i t) _ u))) ByMessage (λ e. absurd (false≢true e)) (rw (noticed_queue i t x) (good_number x.server i t (or_l (bad_number x.server i t) _ u)).idle)
accept_apart i (Purge p) x b u h = h
accept_apart i (Busy r t) x b u h =
    let q = x.server.queue in
    if_keeps ApartIn (open_call x.server i r t)
    (λ e. record { locks = h.locks; aged = h.aged; waiting = alike_waiting h.waiting _ (alike_upd q r (waiter_busy (q r) (upd (q r).busy i true)) (record { want = refl; arrival = refl })) })
    (λ e. h)
accept_apart i (Done r t d) x b u h =
    let q = x.server.queue in
    if_keeps ApartIn (open_call x.server i r t)
    (λ e. record { locks = h.locks; aged = h.aged; waiting = alike_waiting h.waiting _ (alike_upd q r (waiter_pend (waiter_busy (q r) (upd (q r).busy i false)) (upd (q r).pend i false)) (record { want = refl; arrival = refl })) })
    (λ e. h)
accept_apart i (WrittenSet p t set) x b u h = if_keeps ApartIn (open_ask x.server i p t) (λ e. heed_apart i p t set x u e h) (λ e. h)

-- the step, and the start

pub apart_step : (i : ℕ) (m : Up) (s : Server) → i < 8 → unexpected i m s ≡ false → Apart s → Apart (server_step i m s).server
apart_step i m s b u h = step_keeps ApartIn atomic_apart i m s (accept_apart i m (start s) b u h)

pub apart_fresh : (k : ℕ → ℕ) → Apart (fresh_server k)
apart_fresh k =
    record {
      locks = record { whole_alone = λ g h a b p q. absurd (omega arith); object_open = λ h a e. absurd (omega arith); whole_open = λ h p e. absurd (omega arith); given = λ h p e. absurd (omega arith); none_given = λ p e. refl; asked_held = λ p t. absurd (false≢true t) };
      aged = record { ages_apart = λ i j b c p q r. absurd (false≢true p); ages_given = λ i b. omega arith };
      waiting = record { arrivals_apart = λ i j b c p q r. absurd (false≢true p); arrivals_given = λ i b p. absurd (false≢true p); entry = λ i b. no_entry (k i) true };
    }

pub apart_moves : Moves (λ s t u d. Apart s) (λ s t u d. Apart s)
apart_moves =
    record {
      rests = λ s t u d h. h;
      owner = λ i op s t u d h. h;
      server = λ i m l s t u d b e n h. apart_step i m s b n h;
      station = λ i m l s t u d e h. h;
    }

-- for every list of calls, whatever the kinds
pub apart_run : (kinds : ℕ → ℕ) (cs : List Call) → Apart (run cs (fresh kinds)).server
apart_run kinds cs = run_keeps (λ s t u d. Apart s) apart_moves cs (fresh kinds) (apart_fresh kinds)

-- the same as number 1 says it: on a page locked whole every object lock is none or its holder's
pub whole_own : (s : Server) → Apart s → (p h a : ℕ) → p < 32 → s.wl p ≡ suc h → page_of a ≡ p → (s.ol a ≡ 0) ⊎ (s.ol a ≡ suc h)
whole_own s k p h a b w e = split (s.ol a) refl
  where
    split : (x : ℕ) → s.ol a ≡ x → (x ≡ 0) ⊎ (x ≡ suc h)
    split zero o = inl refl
    split (suc g) o = inr (ap suc (k.locks.whole_alone g h a (omega arith) (rw e w) o))
