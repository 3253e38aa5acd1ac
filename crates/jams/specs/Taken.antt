-- In an orderly world no message is refused: the server takes the head of every up line, each station the head of its down line.
use Rattle.std.specs.Prelude.{◌≡◌, refl, Bool, true, false, not, ◌&&◌, ◌||◌, List, ◌∷◌, ℕ, suc, ◌≤◌, ◌<◌, eqb, ltb}
use Rattle.std.proofs.Common.{sym, ap, ◌∙◌, arith}
use Rattle.sets.specs.Base.{Val, has, any}
use Rattle.sets.specs.Laws.{by_b, or_yes}
use Rattle.sets.proofs.Laws.{eqb_same, eqb_yes, ltb_yes, and_l, and_r, not_yes, any_some}
use Rattle.line.specs.All.{All, all_map}
use Rattle.line.specs.Messages.{page_of, address, locking, keeps, Work, Up, ReadRequest, WriteRequest, Commit, Abort, Purge, Busy, Done, WrittenSet, NoLock, ObjectLock, WholeLock, Down, Page, Deescalate, Callback, Committed, Aborted, Invalidate}
use Rattle.line.specs.Station.{Station, Wait, waiting, for_read, for_write, for_commit, ended, live, fits, writes_to}
use Rattle.line.specs.Server.{Server, Waiter, is_want, lock_on, bad_number, unlocked, above_open, unexpected}
use Rattle.line.specs.Line.{World}
use Rattle.line.specs.Truth.{count}
use Rattle.truth.specs.Clauses.{stale, token_up, token_down, Fit, FitDown, dropped, Tokens}
use Rattle.truth.proofs.Frame.{none_count, count_less}
use Rattle.truth.specs.GoalsLists.{either}
use Rattle.truth.specs.Tokens.{both}
use Rattle.truth.proofs.Tokens.{took_up}
use Rattle.jams.specs.Clauses.{KindDown, numbered, named, Above, abort_of, is_end, Numbers, Orderly}
use Rattle.jams.specs.Numbers.{up_below, up_old, end_token, waiter_open}

-- a test that nothing passes
fails : (b : Bool) → (b ≡ true → ⊥) → b ≡ false
fails b n = by_b b (λ e. absurd (n e)) (λ e. e)

-- NUMBERS: "1 to 4 with a number below the station's latest, of a finished transaction, above an unfinished locking one or while it waits"

above_abort : (t : ℕ) (m : Up) → Above t m → abort_of t m ≡ false
above_abort t (ReadRequest a u) h = refl
above_abort t (WriteRequest p' u set) h = refl
above_abort t (Commit w) h = refl
above_abort t (Abort u) h = fails (eqb u t) (λ e. omega (arith, eqb_yes u t e, h refl))
above_abort t (Purge p) h = refl
above_abort t (Busy r u) h = refl
above_abort t (Done r u d) h = refl
above_abort t (WrittenSet p u set) h = refl

module _ {skind kind num : ℕ} {opened : Bool} {rd wr : ℕ → Val} {w : Wait} {q : Waiter} {latest : ℕ} {fin : Bool} {U : List Up} {D : List Down} (m : Up) (n : numbered m ≡ true)
    (k : Tokens skind kind num opened rd wr w q latest fin (m ∷ U) D) (h : Numbers kind num opened latest fin (m ∷ U) D) where
  not_below : latest ≤ named m
  not_below = either (h.N3.0 n) (λ e. omega (arith, e)) (λ e. omega (arith, e.0))

  not_finished : named m ≡ latest → fin ≡ false
  not_finished e = either (h.N3.0 n) (λ f. absurd (omega (arith, e, f))) (λ f. f.1)

  -- the number is not above an unfinished one of a locking station: that is open, with the same number, or its 4 comes first
  not_above : locking kind ≡ true → fin ≡ false → latest < named m → ⊥
  not_above l f b =
      either (h.N4 l f)
      (λ e. omega (arith, b, e.1, up_below kind num opened w m k.S1b_up.0 h.N7.0 n))
      (λ e.
      let none : All (λ x. abort_of latest x ≡ false) (m ∷ U) =
      (above_abort latest m (λ z. b), all_map (Above (named m)) (λ x. abort_of latest x ≡ false) (λ x a. above_abort latest x (λ z. omega (arith, b, a z))) U (h.N2.0 n)) in
      omega (arith, e, none_count (abort_of latest) (m ∷ U) none))

  -- who waits has no other token, and its number is not above
  not_waiting : is_want q.want ≡ false
  not_waiting =
      fails (is_want q.want)
      (λ e.
      let o = waiter_open kind num opened w latest q.want q.req e k.S1b_waiter in
      by_b (token_up (stale kind num opened) m)
      (λ t. both (is_want q.want) e (ap (λ (z : Waiter). is_want z.want) (took_up m t k).empty))
      (λ t. omega (arith, not_below, o.0, up_old kind num opened w o.1 m t k.S1b_up.0 h.N7.0 n)))

-- an 8 is not above an unfinished one: that is open, or its 4 comes behind [N4, N2, N10]
answer_taken : {kind num : ℕ} {opened : Bool} {latest : ℕ} {fin : Bool} {U : List Up} {D : List Down} (p t : ℕ) (set : ℕ → Bool) → Numbers kind num opened latest fin (WrittenSet p t set ∷ U) D → locking kind ≡ true → fin ≡ false → latest < t → ⊥
answer_taken {latest = latest} {U = U} p t set h l f b =
    either (h.N4 l f) (λ e. omega (arith, e.1, b, h.N10a.0))
    (λ e.
    let none : All (λ x. abort_of latest x ≡ false) U = all_map (λ x. numbered x ≡ true → t ≤ named x) (λ x. abort_of latest x ≡ false) (λ x a. above_abort latest x (λ z. omega (arith, b, a z))) U h.N2s.0 in
    omega (arith, e, none_count (abort_of latest) U none))

-- THE SERVER
module _ (w : World) (h : Orderly w) (i : ℕ) (b : i < 8) (m : Up) (l : List Up) (q : w.up i ≡ m ∷ l) where
  tokens : Tokens (w.server.kind i) (w.station i).kind (w.station i).num (w.station i).opened (w.station i).rd (w.station i).wr (w.station i).wait (w.server.queue i) (w.server.latest i) (w.server.fin i) (m ∷ l) (w.down i)
  tokens = rw q at (h.inv.tokens i)

  numbers : Numbers (w.station i).kind (w.station i).num (w.station i).opened (w.server.latest i) (w.server.fin i) (m ∷ l) (w.down i)
  numbers = rw q at (h.numbers i b)

  same_kind : (k : Bool) → locking (w.station i).kind ≡ k → locking (w.server.kind i) ≡ k
  same_kind k e = rw tokens.kinds e

  number_taken : numbered m ≡ true → bad_number w.server i (named m) ≡ false
  number_taken n =
      let s : Server = w.server in
      let t : ℕ = named m in
      let low : ltb t (s.latest i) ≡ false = fails (ltb t (s.latest i)) (λ e. omega (arith, ltb_yes t (s.latest i) e, not_below m n tokens numbers)) in
      let old : (eqb t (s.latest i) && s.fin i) ≡ false =
      fails (eqb t (s.latest i) && s.fin i) (λ e. both (s.fin i) (and_r (eqb t (s.latest i)) (s.fin i) e) (not_finished m n tokens numbers (eqb_yes t (s.latest i) (and_l (eqb t (s.latest i)) (s.fin i) e)))) in
      let high : (ltb (s.latest i) t && not (s.fin i) && locking (s.kind i)) ≡ false =
      fails (ltb (s.latest i) t && not (s.fin i) && locking (s.kind i))
      (λ e.
      let f = and_l (ltb (s.latest i) t && not (s.fin i)) (locking (s.kind i)) e in
      not_above m n tokens numbers (rw (← tokens.kinds) (and_r (ltb (s.latest i) t && not (s.fin i)) (locking (s.kind i)) e)) (not_yes (s.fin i) (and_r (ltb (s.latest i) t) (not (s.fin i)) f)) (ltb_yes (s.latest i) t (and_l (ltb (s.latest i) t) (not (s.fin i)) f))) in
      rw (low, old, high, not_waiting m n tokens numbers) refl

  -- "5 or 7 dropping a page with a lock of its own": its 4 would come first
  unlocked_page : (p : ℕ) → dropped p m ≡ true → lock_on w.server i p ≡ false
  unlocked_page p d =
      let s : Server = w.server in
      let g = rw q at ((h.locks i b).N9 p) in
      fails (lock_on s i p)
      (λ e.
      or_yes (eqb (s.wl p) (suc i)) (any 8 (λ o. eqb (s.ol (address p o)) (suc i))) e
      (λ f.
      let held : s.wl p ≡ suc i = eqb_yes (s.wl p) (suc i) f in
      by_b (keeps (w.station i).kind) (λ v. both (dropped p m) d (rw q at ((h.keeping i p b v).N9 held)).0) (λ v. both (dropped p m) d (g.1 v held).0))
      (λ f.
      let z = any_some 8 (λ o. eqb (s.ol (address p o)) (suc i)) f in
      let r : z.0 < 8 = z.1 in
      both (dropped p m) d (g.0 (address p z.0) (omega arith) (eqb_yes (s.ol (address p z.0)) (suc i) z.2)).0))

  -- "a locking commit that writes an unlocked object": what was written is locked, for the 3 is not yet answered
  locked_work : (k : Work) → m ≡ Commit k → unlocked w.server i k ≡ false
  locked_work k e =
      let s : Server = w.server in
      let old : ℕ → Bool = stale (w.station i).kind (w.station i).num (w.station i).opened in
      let t : Tokens (s.kind i) (w.station i).kind (w.station i).num (w.station i).opened (w.station i).rd (w.station i).wr (w.station i).wait (s.queue i) (s.latest i) (s.fin i) (Commit k ∷ l) (w.down i) = rw e at tokens in
      let none : count is_end (w.down i) ≡ 0 = omega (arith, count_less is_end (token_down old) (end_token old) (w.down i), (took_up (Commit k) refl t).no_down) in
      let bad : ℕ → Bool = λ a. has (k.writes a) && not (eqb (s.ol a) (suc i)) && not (eqb (s.wl (page_of a)) (suc i)) in
      fails (unlocked s i k)
      (λ f.
      let z = any_some 256 bad (and_r (locking (s.kind i)) (any 256 bad) f) in
      let a : ℕ = z.0 in
      let g = and_l (has (k.writes a) && not (eqb (s.ol a) (suc i))) (not (eqb (s.wl (page_of a)) (suc i))) z.2 in
      let wrote : has ((w.station i).wr a) ≡ true = sym (ap (λ (f : ℕ → Val). has (f a)) t.S3_up.0.1) ∙ and_l (has (k.writes a)) (not (eqb (s.ol a) (suc i))) g in
      either ((h.locks i b).K2a (rw (← t.kinds) (and_l (locking (s.kind i)) (any 256 bad) f)) (t.S1b_up.0.alive refl) none a wrote)
      (λ c. both (eqb (s.ol a) (suc i)) (rw c (eqb_same (suc i))) (not_yes (eqb (s.ol a) (suc i)) (and_r (has (k.writes a)) (not (eqb (s.ol a) (suc i))) g)))
      (λ c. both (eqb (s.wl (page_of a)) (suc i)) (rw c (eqb_same (suc i))) (not_yes (eqb (s.wl (page_of a)) (suc i)) (and_r (has (k.writes a) && not (eqb (s.ol a) (suc i))) (not (eqb (s.wl (page_of a)) (suc i))) z.2))))

-- the server takes the head of every up line
pub taken_up : (w : World) → Orderly w → (i : ℕ) → i < 8 → (m : Up) (l : List Up) → w.up i ≡ m ∷ l → unexpected i m w.server ≡ false
taken_up w h i b (ReadRequest a t) l q = number_taken w h i b (ReadRequest a t) l q refl
taken_up w h i b (WriteRequest p' t set) l q =
    rw (number_taken w h i b (WriteRequest p' t set) l q refl, same_kind w h i b (WriteRequest p' t set) l q true (numbers w h i b (WriteRequest p' t set) l q).N1_up.0) refl
taken_up w h i b (Commit k) l q = rw (number_taken w h i b (Commit k) l q refl, locked_work w h i b (Commit k) l q k refl) refl
taken_up w h i b (Abort t) l q = rw (number_taken w h i b (Abort t) l q refl, same_kind w h i b (Abort t) l q true (numbers w h i b (Abort t) l q).N1_up.0) refl
taken_up w h i b (Purge p) l q = unlocked_page w h i b (Purge p) l q p (eqb_same p)
taken_up w h i b (Busy r t) l q = rw (same_kind w h i b (Busy r t) l q true (numbers w h i b (Busy r t) l q).N1_up.0) refl
taken_up w h i b (Done r t d) l q =
    rw (same_kind w h i b (Done r t d) l q true (numbers w h i b (Done r t d) l q).N1_up.0)
    (fails (any 32 (λ p. d p && lock_on w.server i p))
    (λ e.
    let z = any_some 32 (λ p. d p && lock_on w.server i p) e in
    both (lock_on w.server i z.0) (and_r (d z.0) (lock_on w.server i z.0) z.2) (unlocked_page w h i b (Done r t d) l q z.0 (and_l (d z.0) (lock_on w.server i z.0) z.2))))
taken_up w h i b (WrittenSet p t set) l q =
    let m : Up = WrittenSet p t set in
    let k = (numbers w h i b m l q).N1_up.0 in
    rw (same_kind w h i b m l q true k)
    (fails (keeps (w.server.kind i) && above_open w.server i t)
    (λ e.
    let z = and_r (keeps (w.server.kind i)) (above_open w.server i t) e in
    answer_taken p t set (numbers w h i b m l q) k (not_yes (w.server.fin i) (and_r (ltb (w.server.latest i) t) (not (w.server.fin i)) z)) (ltb_yes (w.server.latest i) t (and_l (ltb (w.server.latest i) t) (not (w.server.fin i)) z))))

-- THE STATIONS

-- a message of the open transaction
live_fit : (s : Station) (t : ℕ) (f : Bool) → Fit false t s.num s.opened f → live s t ≡ true
live_fit s t f k = rw (k.alive refl, k.same refl, eqb_same s.num) refl

-- a page that is for nobody any more is taken and ignored; any other is waited for
read_fits : (s : Station) (a t : ℕ) → Fit (stale s.kind s.num s.opened t) t s.num s.opened (for_read s.wait a || (not (locking s.kind) && for_write s.wait a))
    → (ended s t || (live s t && (for_read s.wait a || (not (locking s.kind) && for_write s.wait a)))) ≡ true
read_fits s a t f =
    by_b (stale s.kind s.num s.opened t)
    (λ e.
    let late : ltb s.num t ≡ false = fails (ltb s.num t) (λ z. omega (arith, ltb_yes s.num t z, f.below)) in
    rw (e, late) refl)
    (λ e. rw (f.alive e, f.same e, eqb_same s.num, f.waits e) (by_b (locking s.kind) (λ z. rw z refl) (λ z. rw z refl)))

head_fits : (s : Station) (m : Down) → FitDown s.kind s.num s.opened s.wait m → KindDown s.kind m → fits m s ≡ true
head_fits s (Page NoLock a t v u x) f k = read_fits s a t f
head_fits s (Page ObjectLock a t v u x) f k = rw (k, live_fit s t _ f, and_r (locking s.kind) (writes_to s.wait (page_of a)) (f.waits refl)) refl
head_fits s (Page WholeLock a t v u x) f k = rw (k, live_fit s t _ f, and_r (locking s.kind) (writes_to s.wait (page_of a)) (f.waits refl)) refl
head_fits s (Deescalate p t) f k = k
head_fits s (Callback r t set) f k = k
head_fits s (Committed t n) f k = rw (live_fit s t _ f, f.waits refl) refl
head_fits s (Aborted t c) f k = rw (live_fit s t _ f, and_l (waiting s.wait) (locking s.kind || for_commit s.wait) (f.waits refl)) refl
head_fits s (Invalidate d) f k = rw k refl

-- each station takes the head of its down line
pub taken_down : (w : World) → Orderly w → (i : ℕ) → i < 8 → (m : Down) (l : List Down) → w.down i ≡ m ∷ l → fits m (w.station i) ≡ true
taken_down w h i b m l q =
    let f : All (FitDown (w.station i).kind (w.station i).num (w.station i).opened (w.station i).wait) (m ∷ l) = rw q at (h.inv.tokens i).S1b_down in
    let k : All (KindDown (w.station i).kind) (m ∷ l) = rw q at (h.numbers i b).N1_down in
    head_fits (w.station i) m f.0 k.0
