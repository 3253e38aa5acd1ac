-- Exclusion under the pass: the shown rule, the pages sent, the calls. Then the whole layer.
use Rattle.std.specs.Prelude.{◌≡◌, refl, Bool, true, false, not, ◌&&◌, ◌||◌, cond, List, ◌++◌, eqb, ltb}
use Rattle.std.proofs.Common.{sym, ap, ◌∙◌, arith}
use Rattle.std.proofs.lemmas.Bool.{false≢true}
use Prim.Native.Nat.{ℕ, zero, suc, ◌%◌, ◌<◌}
use Rattle.sets.specs.Base.{upd, upd2, snoc, has, any}
use Rattle.sets.specs.Laws.{by_b, by_eq}
use Rattle.sets.proofs.Laws.{eqb_same, eqb_yes, eqb_no, ltb_no, any_no, any_yes, any_some, and_r, or_no, not_yes}
use Rattle.line.specs.Messages.{page_of, address, locking, Up, Lock, NoLock, ObjectLock, WholeLock, Down, Page, Callback, Sent, To}
use Rattle.line.specs.Station.{Station, for_read}
use Rattle.line.specs.Server.{Server, Serving, no_waiter, waiter_pend, waiter_called, WantRead, WantWrite, is_want, waits, other, wants, wants_page, writes_page, blocks, blocked_at, blocked, earlier, shut, hinders, lock_on, leave, send_page, unavailable, abort, ask, serve_read, concerned, call, grant_page, grant_object, all_answered, install_waiter}
use Rattle.line.specs.Line.{World, carry_down, sent_to}
use Rattle.line.specs.Truth.{count}
use Rattle.truth.specs.Clauses.{Shape, FitWaiter, call_tokens, call_of, done_of, shows, NoShowBehind, Called}
use Rattle.truth.proofs.Frame.{call_own, call_far}
use Rattle.truth.proofs.Tokens.{in_page, of_page_lem}
use Rattle.truth.specs.Inv.{Inv, ExclusionOf, Acts, Layer}
use Rattle.truth.specs.Exclusion.{Exclusive, lines, Known, KnownApart}
use Rattle.truth.proofs.Exclusion.{shows_snoc, behind_snoc, behind_uncalled, unlisted_hidden, read_free, known_in, exclusion_in}
use Rattle.truth.proofs.ExclusionFields.{eqb_off, objects_keep, wholes_keep, listed_keeps, leave_keeps, lines_keep, send_keeps, tell_keeps}
use Rattle.truth.proofs.ExclusionStation.{exclusion_owner, exclusion_station}
use Rattle.truth.proofs.ExclusionAccept.{abort_keeps, install_keeps, exclusion_accepted}

or_right : (p q : Bool) → q ≡ true → (p || q) ≡ true
or_right true q e = refl
or_right false q e = e

-- an address is one of its page's eight
on_page_lem : (a : ℕ) → address (page_of a) (a % 8) ≡ a
on_page_lem a = omega arith

-- a lock that is none of station i's is a lock of another
other_holder : (x i : ℕ) → other x i ≡ true → (h : ℕ) × (x ≡ suc h) × (eqb h i ≡ false)
other_holder zero i o = absurd (false≢true o)
other_holder (suc h) i o =
    (h, refl, by_eq h i (λ e. absurd (eqb_no (suc h) (suc i) (not_yes (eqb (suc h) (suc i)) (and_r (not (eqb (suc h) 0)) _ o)) (ap suc (eqb_yes h i e)))) (λ e. e))

-- station i's own lock is another's for the others only
own_other : (i j : ℕ) → other (suc i) j ≡ true → eqb j i ≡ false
own_other i j o = by_eq j i (λ e. absurd (eqb_no (suc i) (suc j) (not_yes (eqb (suc i) (suc j)) (and_r (not (eqb (suc i) 0)) _ o)) (ap suc (sym (eqb_yes j i e))))) (λ e. e)

module _ (s : Server) (t : ℕ → Station) (u : ℕ → List Up) (d : ℕ → List Down) (i : ℕ) (b : i < 8) (k : Known s t u d) where
  -- THE SHOWN RULE: a page sent to waiter i that wants a
  module _ (a : ℕ) (c : a < 256) (wn : wants s i a ≡ true) (wt : waits s i ≡ true) (un : blocked s i ≡ false) where
    unblocked : (j : ℕ) → j < 8 → blocks s i a j ≡ false
    unblocked j e = let z : blocked_at s i a ≡ false = any_no 256 (blocked_at s i) un a c in any_no 8 (blocks s i a) (rw wn at z) j e

    -- no other has a locked
    pub held : (h : ℕ) → s.ol a ≡ suc h → eqb h i ≡ false → ⊥
    held h e n =
        let z : blocks s i a h ≡ false = unblocked h (k.apart.locks.object_open h a e).station in
        let y : (eqb (s.ol a) (suc h) && not (eqb h i)) ≡ false = (or_no (eqb (s.ol a) (suc h) && not (eqb h i)) _ z).0 in
        let x : eqb (s.ol a) (suc h) ≡ true = rw e (eqb_same (suc h)) in
        false≢true (sym (rw (x, n) at y))

    free : other (s.ol a) i ≡ false
    free = by_b (other (s.ol a) i) (λ o. let h = other_holder (s.ol a) i o in absurd (held h.0 h.1 h.2)) (λ o. o)

    -- a is in no other called waiter's writes: an earlier one would block, a later one contradicts its own G4
    unwritten : (r : ℕ) → r < 8 → eqb i r ≡ false → waits s r ≡ true → (s.queue r).called ≡ true → (s.queue r).writes a ≡ true → ⊥
    unwritten r e n v q w =
        let z : (earlier s r i && wants s r a && ((s.queue r).writes a || (s.queue i).writes a)) ≡ false = (or_no (eqb (s.ol a) (suc r) && not (eqb r i)) _ (unblocked r e)).1 in
        by_b (ltb (s.queue r).arrival (s.queue i).arrival)
        (λ p.
        let y : wants s r a ≡ true = or_right ((s.queue r).reads a) _ w in
        let x : ((s.queue r).writes a || (s.queue i).writes a) ≡ true = rw w refl in
        false≢true (sym (rw (v, p, y, x) at z)))
        (λ p.
        by_b (ltb (s.queue i).arrival (s.queue r).arrival)
        (λ f. false≢true (sym (k.G4 r i e b v q wt f a c w) ∙ wn))
        (λ f.
        let same : i ≡ r = k.apart.waiting.arrivals_apart i r b e wt v (omega (arith, ltb_no (s.queue r).arrival (s.queue i).arrival p, ltb_no (s.queue i).arrival (s.queue r).arrival f)) in
        eqb_no i r n same))

    -- the page is not locked whole by another
    pub open_page : any 32 (shut s i) ≡ false → other (s.wl (page_of a)) i ≡ false
    open_page e =
        let here : wants s i (address (page_of a) (a % 8)) ≡ true = rw (on_page_lem a) wn in
        let page : wants_page s i (page_of a) ≡ true = any_yes 8 (λ o. wants s i (address (page_of a) o)) (a % 8) (omega arith) here in
        rw page at (any_no 32 (shut s i) e (page_of a) (omega arith))

  -- what the page for the address a shows: nothing that the waiter does not want and another has
  module _ (a : ℕ) (wt : waits s i ≡ true) (un : blocked s i ≡ false) where
    hides : (x : ℕ) → wants s i x ≡ false → (other (s.ol x) i || any 8 (λ j. not (eqb j i) && (s.queue j).writes x)) ≡ true → (eqb (page_of x) (page_of a) && not (unavailable s i a x)) ≡ false
    hides x e o = by_eq (page_of x) (page_of a) (λ f. rw (f, e, o) refl) (λ f. rw f refl)

    -- it shows no address that another has locked,
    pub hides_locked : (x : ℕ) → x < 256 → other (s.ol x) i ≡ true → (eqb (page_of x) (page_of a) && not (unavailable s i a x)) ≡ false
    hides_locked x c o = by_b (wants s i x) (λ e. absurd (false≢true (sym (free x c e wt un) ∙ o))) (λ e. hides x e (rw o refl))

    -- and none that another called waiter writes
    pub hides_called : (r x : ℕ) → r < 8 → x < 256 → eqb i r ≡ false → waits s r ≡ true → (s.queue r).called ≡ true → (s.queue r).writes x ≡ true → (eqb (page_of x) (page_of a) && not (unavailable s i a x)) ≡ false
    hides_called r x e c n v q w =
        by_b (wants s i x) (λ f. absurd (unwritten x c f wt un r e n v q w))
        (λ f.
        let z : (not (eqb r i) && (s.queue r).writes x) ≡ true = rw (eqb_off i r n, w) refl in
        hides x f (or_right (other (s.ol x) i) _ (any_yes 8 (λ j. not (eqb j i) && (s.queue j).writes x) r e z)))

  -- the page sent: locks as they are after the grant, the waiter gone, the station listed
  module _ (a : ℕ) (wt : waits s i ≡ true) (un : blocked s i ≡ false) (e : ℕ → List Down) (q : List Sent) where
    pub page_keeps : {ol wl : ℕ → ℕ} → Exclusive t u ol wl s.listed s.latest s.queue (λ j. e j ++ sent_to j q)
        → ((x : ℕ) → other (ol x) i ≡ true → other (s.ol x) i ≡ true) → other (wl (page_of a)) i ≡ false
        → (l : Lock) (n : ℕ) (v y : ℕ → ℕ)
        → Exclusive t u ol wl (upd2 s.listed i (page_of a) true) s.latest (upd s.queue i no_waiter) (λ j. e j ++ sent_to j (snoc q (To i (Page l a n v (unavailable s i a) y))))
    page_keeps h f g l n v y =
        send_keeps e q
        (listed_keeps (leave_keeps h i) (upd2 s.listed i (page_of a) true)
        (λ j x o p w z r.
        by_eq j i
        (λ m. by_eq (page_of x) (page_of a) (λ m'. absurd (false≢true (sym g ∙ (rw (eqb_yes j i m, eqb_yes (page_of x) (page_of a) m') at z)))) (λ m'. rw (m, m', r) refl))
        (λ m. rw (m, r) refl)))
        i (Page l a n v (unavailable s i a) y)
        (λ x o p w. hides_locked a wt un x o (f x w))
        (λ r x o p w m z z' z''.
        let m' : eqb r i ≡ false = eqb_off i r m in
        hides_called a wt un r x o p m (rw m' at z) (rw m' at z') (rw m' at z''))

  -- what a waiter asks for is an address, and wanted [S1b, S7]
  read_range : (s.queue i).want ≡ WantRead → (s.queue i).req < 256
  read_range e =
      let z : FitWaiter (t i).kind (t i).num (t i).opened (t i).wait (s.latest i) WantRead (s.queue i).req = rw e at (k.tokens i b).S1b_waiter in
      let f : for_read (t i).wait (s.queue i).req ≡ true = and_r (locking (t i).kind) _ (z.waits refl) in
      (k.tokens i b).range_wait (s.queue i).req (rw f refl)

  read_wants : (s.queue i).want ≡ WantRead → wants s i (s.queue i).req ≡ true
  read_wants e =
      let z : Shape WantRead (s.queue i) = rw e at (k.tokens i b).S7 in
      rw (z.0 (s.queue i).req, eqb_same (s.queue i).req) refl

  -- a write's page is one of the 32, and what it wants is on it
  pub write_page : (s.queue i).want ≡ WantWrite → page_of (s.queue i).req < 32
  write_page e =
      let z : FitWaiter (t i).kind (t i).num (t i).opened (t i).wait (s.latest i) WantWrite (s.queue i).req = rw e at (k.tokens i b).S1b_waiter in
      (k.tokens i b).range_page (page_of (s.queue i).req) (and_r (locking (t i).kind) _ (z.waits refl))

  pub write_some : (s.queue i).want ≡ WantWrite → (a : ℕ) × ((s.queue i).writes a ≡ true) × (page_of a ≡ page_of (s.queue i).req)
  write_some e =
      let z : Shape WantWrite (s.queue i) = rw e at (k.tokens i b).S7 in
      let p : ℕ = page_of (s.queue i).req in
      let y = any_some 8 (λ o. (s.queue i).writes (address p o)) z.2 in
      (address p y.0, y.2, of_page_lem p y.0 y.1)

  pub write_wants : (a : ℕ) → (s.queue i).writes a ≡ true → wants s i a ≡ true
  write_wants a e = or_right ((s.queue i).reads a) _ e

  -- so its page is not locked whole by another
  write_open : (s.queue i).want ≡ WantWrite → blocked s i ≡ false → any 32 (shut s i) ≡ false → other (s.wl (page_of (s.queue i).req)) i ≡ false
  write_open e un z =
      let y = write_some e in
      let page : page_of y.0 ≡ page_of (s.queue i).req = y.2 in
      rw page at (open_page y.0 (in_page (write_page e) page) (write_wants y.0 y.1) (ap is_want e) un z)

  -- P.17: each other station has answered, so all are hidden and unread there [G2d, F3b]
  object_keeps : waits s i ≡ true → (s.queue i).called ≡ true → all_answered s i ≡ true → Exclusive t u (λ a. cond ((s.queue i).writes a) (suc i) (s.ol a)) s.wl s.listed s.latest s.queue d
  object_keeps v q e =
      objects_keep k.exclusive (λ a. cond ((s.queue i).writes a) (suc i) (s.ol a))
      (λ j x o p m z.
      by_b ((s.queue i).writes x)
      (λ f.
      let far : eqb j i ≡ false = own_other i j (rw f at z) in
      let l = k.exclusive.called i j x b o p m far v q f in
      let pend : (s.queue i).pend j ≡ false = any_no 8 (s.queue i).pend (not_yes (any 8 (s.queue i).pend) e) j o in
      (l.G2d pend, by_b (has ((t j).rd x)) (λ g. absurd (false≢true (sym pend ∙ (l.F3b g).0))) (λ g. g)))
      (λ f.
      let l = k.exclusive.locked j x o p m in
      let z' : other (s.ol x) j ≡ true = rw f at z in
      (l.F1 z', read_free l z')))

  -- P.18: no other locking station is listed
  whole_keeps : (p : ℕ) → any 8 (hinders s i p) ≡ false → Exclusive t u s.ol (upd s.wl p (suc i)) s.listed s.latest s.queue d
  whole_keeps p e =
      wholes_keep k.exclusive (upd s.wl p (suc i))
      (λ j x o c m z.
      by_eq (page_of x) p
      (λ f.
      let far : eqb j i ≡ false = own_other i j (rw f at z) in
      let y : hinders s i p j ≡ false = any_no 8 (hinders s i p) e j o in
      let y' : (locking (s.kind j) && s.listed j p) ≡ false = (or_no _ (lock_on s j p) (or_no _ (writes_page s j p) (rw far at y)).0).0 in
      let kind : locking (s.kind j) ≡ true = rw (k.tokens j o).kinds m in
      rw (eqb_yes (page_of x) p f) (rw kind at y'))
      (λ f. (k.exclusive.locked j x o c m).F2a (rw f at z)))

  -- P.call
  module _ (v : waits s i ≡ true) (n : (s.queue i).called ≡ false) where
    -- no callback token of the waiter's transaction yet [G1b, S4]
    untold : (j : ℕ) → j < 8 → call_tokens i (s.latest i) ((t j).kept i) (u j) (d j) ≡ 0
    untold j o = none (call_tokens i (s.latest i) ((t j).kept i) (u j) (d j)) refl
      where
        none : (m : ℕ) → call_tokens i (s.latest i) ((t j).kept i) (u j) (d j) ≡ m → m ≡ 0
        none zero e = refl
        none (suc m) e = absurd (false≢true (sym n ∙ ((k.callbacks i j b o).G1b ((k.tokens i b).S4 v) (omega arith)).1))

    -- a station that is not concerned is not listed for a written page
    unlisted : (j a : ℕ) → j < 8 → a < 256 → locking (t j).kind ≡ true → eqb j i ≡ false → (s.queue i).writes a ≡ true → concerned s i j ≡ false → s.listed j (page_of a) ≡ false
    unlisted j a o c m f w e =
        let kind : locking (s.kind j) ≡ true = rw (k.tokens j o).kinds m in
        let low : ltb j 8 ≡ true = by_b (ltb j 8) (λ z. z) (λ z. absurd (omega (arith, ltb_no j 8 z))) in
        let z : any 32 (λ p. s.listed j p && writes_page s i p) ≡ false = rw (f, low, kind) at e in
        let y : (s.listed j (page_of a) && writes_page s i (page_of a)) ≡ false = any_no 32 (λ p. s.listed j p && writes_page s i p) z (page_of a) (omega arith) in
        let here : (s.queue i).writes (address (page_of a) (a % 8)) ≡ true = rw (on_page_lem a) w in
        let page : writes_page s i (page_of a) ≡ true = any_yes 8 (λ p. (s.queue i).writes (address (page_of a) p)) (a % 8) (omega arith) here in
        by_b (s.listed j (page_of a)) (λ g. absurd (false≢true (sym (rw (g, page) at y)))) (λ g. g)

    module _ (d' : ℕ → List Down)
        (own : (j : ℕ) → concerned s i j ≡ true → d' j ≡ snoc (d j) (Callback i (s.latest i) (s.queue i).writes))
        (far : (j : ℕ) → concerned s i j ≡ false → d' j ≡ d j) where
      longer : (j a : ℕ) → count (shows a) (d j) ≡ 0 → count (shows a) (d' j) ≡ 0
      longer j a z = by_b (concerned s i j) (λ e. rw (own j e) (shows_snoc a (d j) (Callback i (s.latest i) (s.queue i).writes) refl z)) (λ e. rw (far j e) z)

      behind : (r m j a : ℕ) → NoShowBehind r m a (d j) → NoShowBehind r m a (d' j)
      behind r m j a z = by_b (concerned s i j) (λ e. rw (own j e) (behind_snoc r m a (d j) (Callback i (s.latest i) (s.queue i).writes) refl z)) (λ e. rw (far j e) z)

      calls_keep : Exclusive t u s.ol s.wl s.listed s.latest (upd s.queue i (waiter_pend (waiter_called (s.queue i) true) (concerned s i))) d'
      calls_keep =
          let h = lines_keep k.exclusive d' (λ j a o c m z. longer j a) (λ r j a x o c m f g z w. (longer j a, behind r (s.latest r) j a)) in
          record {
            locked = h.locked;
            called = λ r j a x o c m f g z w.
                by_eq r i
                (λ y.
                let y' : r ≡ i = eqb_yes r i y in
                let f' : eqb j i ≡ false = rw y' at f in
                let w' : (s.queue i).writes a ≡ true = rw y at w in
                let none = untold j o in
                let done : count (done_of i (s.latest i)) (u j) ≡ 0 = omega arith in
                let calls : count (call_of i (s.latest i)) (d j) ≡ 0 = omega arith in
                let cover = k.coverage j o m in
                let all = cover.page (page_of a) in
                let z : Called i (s.latest i) a (concerned s i j) ((t j).cached (page_of a)) ((t j).unav a) ((t j).rd a) (u j) (d' j) =
                record {
                  F3b = λ p.
                      (by_b (concerned s i j) (λ q. q) (λ q. absurd (false≢true (sym (unlisted j a o c m f' w' q) ∙ all.C1 (cover.C3 a p)))), done);
                  G2a = behind i (s.latest i) j a (behind_uncalled i (s.latest i) a (d j) calls);
                  G2c = λ p. absurd (omega arith);
                  G2d = λ p. rw (far j p) (unlisted_hidden a ((t j).unav a) refl all (unlisted j a o c m f' w' p));
                } in
                rw (y, y') z)
                (λ y. rw y (h.called r j a x o c m f (rw y at g) (rw y at z) (rw y at w)));
          }

-- the actions of the pass

module _ (apart : KnownApart) (w : World) where
  knows : (x : Serving) → Inv (carry_down x w) → Known x.server w.station w.up (lines w.down x)
  knows x h = known_in apart w x h

  pub exclusion_acts : Acts (λ x. Inv (carry_down x w)) (λ x. ExclusionOf (carry_down x w))
  unfolding ask serve_read send_page leave call grant_object grant_page install_waiter
  exclusion_acts =
      record {
        aborts = λ i c x b o h. exclusion_in w (abort i c x) (abort_keeps w.station w.up w.down i c x (knows x h).exclusive);
        asks = λ i g p x b o q h. exclusion_in w (ask g p x) (tell_keeps w.down x.sent (knows x h).exclusive g _ (λ a. refl));
        reads = λ i x b o c h.
            let s : Server = x.server in
            let k = knows x h in
            let a : ℕ = (s.queue i).req in
            let low = read_range s w.station w.up (lines w.down x) i b k o in
            let wn = read_wants s w.station w.up (lines w.down x) i b k o in
            exclusion_in w (serve_read i x)
            (page_keeps s w.station w.up (lines w.down x) i b k a (ap is_want o) c.unblocked w.down x.sent k.exclusive (λ y z. z)
            (open_page s w.station w.up (lines w.down x) i b k a low wn (ap is_want o) c.unblocked c.unshut) NoLock _ _ _);
        calls = λ i x b o q n c h.
            exclusion_in w (call i x)
            (calls_keep x.server w.station w.up (lines w.down x) i b (knows x h) o q _
            (λ j. call_own x.server i j (w.down j) x.sent) (λ j. call_far x.server i j (w.down j) x.sent));
        objects = λ i x b o r h.
            let s : Server = x.server in
            let k = knows x h in
            let a : ℕ = (s.queue i).req in
            let granted = object_keeps s w.station w.up (lines w.down x) i b k (ap is_want o) r.called r.answered in
            exclusion_in w (grant_object i x)
            (page_keeps s w.station w.up (lines w.down x) i b k a (ap is_want o) r.clear.unblocked w.down x.sent granted
            (λ y z. by_b ((s.queue i).writes y) (λ e. absurd (eqb_no i i (own_other i i (rw e at z)) refl)) (λ e. rw e at z))
            (write_open s w.station w.up (lines w.down x) i b k o r.clear.unblocked r.clear.unshut) ObjectLock _ _ _);
        pages = λ i x b o r n h.
            let s : Server = x.server in
            let k = knows x h in
            let a : ℕ = (s.queue i).req in
            let granted = whole_keeps s w.station w.up (lines w.down x) i b k (page_of a) n in
            exclusion_in w (grant_page i x)
            (page_keeps s w.station w.up (lines w.down x) i b k a (ap is_want o) r.clear.unblocked w.down x.sent granted (λ y z. z)
            (rw (eqb_same (page_of a)) (by_b (other (suc i) i) (λ z. absurd (eqb_no i i (own_other i i z) refl)) (λ z. z))) WholeLock _ _ _);
        installs = λ i x b o f r h. exclusion_in w (install_waiter i x) (install_keeps w.station w.up w.down i (x.server.queue i).work x (knows x h).exclusive);
      }

-- THE LAYER
pub exclusion_layer : KnownApart → Layer ExclusionOf
exclusion_layer apart =
    record {
      begins = λ kinds.
          record {
            locked = λ j a b c q. record { F1 = λ o. absurd (false≢true o); F2a = λ o. refl; F3a = λ o. absurd (false≢true o) };
            called = λ r j a b c e q n v. absurd (false≢true v);
          };
      owner = exclusion_owner apart;
      station = exclusion_station apart;
      accepted = exclusion_accepted apart;
      acts = exclusion_acts apart;
    }
