-- Exclusion under a change of one field: locks, lists, waiters, lines.
use Rattle.std.specs.Prelude.{◌≡◌, refl, Bool, true, false, cond, List, ◌++◌, ℕ, suc, ◌≤◌, ◌<◌, eqb}
use Rattle.std.proofs.Common.{sym, ◌∙◌, arith}
use Rattle.std.proofs.lemmas.Bool.{false≢true}
use Rattle.sets.specs.Base.{upd, snoc, has}
use Rattle.sets.specs.Laws.{by_b, by_eq}
use Rattle.sets.proofs.Laws.{eqb_yes, eqb_no}
use Rattle.line.specs.Messages.{page_of, locking, Up, Down, Sent, To}
use Rattle.line.specs.Station.{Station}
use Rattle.line.specs.Server.{Waiter, no_waiter, is_want, other, unlocks}
use Rattle.line.specs.Line.{sent_to}
use Rattle.line.specs.Truth.{count}
use Rattle.truth.specs.Clauses.{done_of, shows, Hidden, NoShowBehind}
use Rattle.truth.proofs.Frame.{send_own, send_far}
use Rattle.truth.specs.Exclusion.{Exclusive}
use Rattle.truth.proofs.Exclusion.{shows_snoc, behind_snoc, locked_less, called_less}
use Rattle.truth.specs.ExclusionFields.{SameCall}

-- a lock left by `finish` was another's before
left_by : (b : Bool) (x j : ℕ) → other (cond b 0 x) j ≡ true → other x j ≡ true
left_by true x j o = absurd (false≢true o)
left_by false x j o = o

pub eqb_off : (i r : ℕ) → eqb i r ≡ false → eqb r i ≡ false
eqb_off i r e = by_eq r i (λ f. absurd (eqb_no i r e (sym (eqb_yes r i f)))) (λ f. f)

send_near : (k j : ℕ) (d : List Down) (l : List Sent) (m : Down) → eqb j k ≡ true → d ++ sent_to j (snoc l (To k m)) ≡ snoc (d ++ sent_to j l) m
send_near k j d l m e = rw (← eqb_yes j k e) (send_own j d l m)

module _ {t : ℕ → Station} {u : ℕ → List Up} {ol wl : ℕ → ℕ} {listed : ℕ → ℕ → Bool} {latest : ℕ → ℕ} {queue : ℕ → Waiter} {d : ℕ → List Down}
    (h : Exclusive t u ol wl listed latest queue d) where
  -- object locks: where another has one now, the address is hidden and not read
  pub objects_keep : (f : ℕ → ℕ)
      → ((j a : ℕ) → j < 8 → a < 256 → locking (t j).kind ≡ true → other (f a) j ≡ true → (Hidden a ((t j).cached (page_of a)) ((t j).unav a) (d j)) × (has ((t j).rd a) ≡ false))
      → Exclusive t u f wl listed latest queue d
  objects_keep f k =
      record {
        locked = λ j a b c q.
            let l = h.locked j a b c q in
            record {
              F1 = λ o. (k j a b c q o).0;
              F2a = l.F2a;
              F3a = λ e. by_b (other (f a) j) (λ o. absurd (false≢true (sym (k j a b c q o).1 ∙ e))) (λ o. o);
            };
        called = h.called;
      }

  -- whole locks: where another has one now, the station is not listed
  pub wholes_keep : (f : ℕ → ℕ) → ((j a : ℕ) → j < 8 → a < 256 → locking (t j).kind ≡ true → other (f (page_of a)) j ≡ true → listed j (page_of a) ≡ false) → Exclusive t u ol f listed latest queue d
  wholes_keep f k =
      record {
        locked = λ j a b c q. let l = h.locked j a b c q in record { F1 = l.F1; F2a = k j a b c q; F3a = l.F3a };
        called = h.called;
      }

  pub listed_keeps : (f : ℕ → ℕ → Bool)
      → ((j a : ℕ) → j < 8 → a < 256 → locking (t j).kind ≡ true → other (wl (page_of a)) j ≡ true → listed j (page_of a) ≡ false → f j (page_of a) ≡ false)
      → Exclusive t u ol wl f latest queue d
  listed_keeps f k =
      record {
        locked = λ j a b c q. let l = h.locked j a b c q in record { F1 = l.F1; F2a = λ o. k j a b c q o (l.F2a o); F3a = l.F3a };
        called = h.called;
      }

  pub queue_keeps : (f : ℕ → Waiter) (g : ℕ → ℕ) → ((r : ℕ) → is_want (f r).want ≡ true → (f r).called ≡ true → SameCall (f r) (queue r)) → ((r : ℕ) → is_want (f r).want ≡ true → (f r).called ≡ true → g r ≡ latest r)
      → Exclusive t u ol wl listed g f d
  queue_keeps f g k n =
      record {
        locked = h.locked;
        called = λ r j a b c e q o p v w.
            let s = k r p v in
            rw (n r p v, s.pend j) (h.called r j a b c e q o s.waits s.called (s.writes a w));
      }

  -- the head of an up line is taken
  pub up_keeps : (u' : ℕ → List Up) → ((r n j : ℕ) → count (done_of r n) (u' j) ≤ count (done_of r n) (u j)) → Exclusive t u' ol wl listed latest queue d
  up_keeps u' k =
      record {
        locked = h.locked;
        called = λ r j a b c e q o p v w.
            let l = h.called r j a b c e q o p v w in
            called_less l ((t j).cached (page_of a)) ((t j).unav a) ((t j).rd a) (u' j) (d j) (λ z. z) (λ z. z) (k r (latest r) j) (λ z. z) l.G2a;
      }

  -- down lines that show no more of what others have locked or called
  pub lines_keep : (d' : ℕ → List Down)
      → ((j a : ℕ) → j < 8 → a < 256 → locking (t j).kind ≡ true → other (ol a) j ≡ true → count (shows a) (d j) ≡ 0 → count (shows a) (d' j) ≡ 0)
      → ((r j a : ℕ) → r < 8 → j < 8 → a < 256 → locking (t j).kind ≡ true → eqb j r ≡ false → is_want (queue r).want ≡ true → (queue r).called ≡ true → (queue r).writes a ≡ true
      → (count (shows a) (d j) ≡ 0 → count (shows a) (d' j) ≡ 0) × (NoShowBehind r (latest r) a (d j) → NoShowBehind r (latest r) a (d' j)))
      → Exclusive t u ol wl listed latest queue d'
  lines_keep d' k n =
      record {
        locked = λ j a b c q. locked_less (h.locked j a b c q) ((t j).cached (page_of a)) ((t j).unav a) ((t j).rd a) (d' j) (λ z. z) (λ z. z) (k j a b c q);
        called = λ r j a b c e q o p v w.
            let l = h.called r j a b c e q o p v w in
            let m = n r j a b c e q o p v w in
            called_less l ((t j).cached (page_of a)) ((t j).unav a) ((t j).rd a) (u j) (d' j) (λ z. z) (λ z. z) (omega arith) m.0 (m.1 l.G2a);
      }

  -- "every transaction's end frees its locks"
  pub finish_keeps : (k i : ℕ) → Exclusive t u (λ a. cond (eqb (ol a) (suc i)) 0 (ol a)) (λ p. cond (unlocks k i (wl p)) 0 (wl p)) listed latest queue d
  finish_keeps k i =
      record {
        locked = λ j a b c q.
            let l = h.locked j a b c q in
            record {
              F1 = λ o. l.F1 (left_by (eqb (ol a) (suc i)) (ol a) j o);
              F2a = λ o. l.F2a (left_by (unlocks k i (wl (page_of a))) (wl (page_of a)) j o);
              F3a = λ e. by_b (other (cond (eqb (ol a) (suc i)) 0 (ol a)) j) (λ o. absurd (false≢true (sym (l.F3a e) ∙ left_by (eqb (ol a) (suc i)) (ol a) j o))) (λ o. o);
            };
        called = h.called;
      }

  -- an entry that is not called: a waiter joins, or leaves
  pub entry_keeps : (i : ℕ) (v : Waiter) → v.called ≡ false → Exclusive t u ol wl listed latest (upd queue i v) d
  entry_keeps i v n =
      queue_keeps (upd queue i v) latest
      (λ r p c.
      by_eq r i (λ e. absurd (false≢true (sym n ∙ (rw e at c))))
      (λ e. rw e (record { waits = rw e at p; called = rw e at c; writes = λ a z. z; pend = λ j. refl })))
      (λ r p c. refl)

  pub leave_keeps : (i : ℕ) → Exclusive t u ol wl listed latest (upd queue i no_waiter) d
  leave_keeps i = entry_keeps i no_waiter refl

-- a message is sent to station k
module _ {t : ℕ → Station} {u : ℕ → List Up} {ol wl : ℕ → ℕ} {listed : ℕ → ℕ → Bool} {latest : ℕ → ℕ} {queue : ℕ → Waiter} (e : ℕ → List Down) (l : List Sent)
    (h : Exclusive t u ol wl listed latest queue (λ j. e j ++ sent_to j l)) (k : ℕ) (m : Down) where
  pub send_keeps : ((a : ℕ) → a < 256 → locking (t k).kind ≡ true → other (ol a) k ≡ true → shows a m ≡ false)
      → ((r a : ℕ) → r < 8 → a < 256 → locking (t k).kind ≡ true → eqb k r ≡ false → is_want (queue r).want ≡ true → (queue r).called ≡ true → (queue r).writes a ≡ true → shows a m ≡ false)
      → Exclusive t u ol wl listed latest queue (λ j. e j ++ sent_to j (snoc l (To k m)))
  send_keeps f g =
      lines_keep h (λ j. e j ++ sent_to j (snoc l (To k m)))
      (λ j a b c q o z.
      by_eq j k
      (λ p. rw (send_near k j (e j) l m p) (shows_snoc a (e j ++ sent_to j l) m (f a c (rw (eqb_yes j k p) at q) (rw (eqb_yes j k p) at o)) z))
      (λ p. rw (send_far k j (e j) l m p) z))
      (λ r j a b c n q o w v x.
      by_eq j k
      (λ p.
      let no : shows a m ≡ false = g r a b n (rw (eqb_yes j k p) at q) (rw (eqb_yes j k p) at o) w v x in
      (λ z. rw (send_near k j (e j) l m p) (shows_snoc a (e j ++ sent_to j l) m no z), λ z. rw (send_near k j (e j) l m p) (behind_snoc r (latest r) a (e j ++ sent_to j l) m no z)))
      (λ p. (λ z. rw (send_far k j (e j) l m p) z, λ z. rw (send_far k j (e j) l m p) z)))

  -- no page
  pub tell_keeps : ((a : ℕ) → shows a m ≡ false) → Exclusive t u ol wl listed latest queue (λ j. e j ++ sent_to j (snoc l (To k m)))
  tell_keeps n = send_keeps (λ a b c o. n a) (λ r a b c q o p v w. n a)
