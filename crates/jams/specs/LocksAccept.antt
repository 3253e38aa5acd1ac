-- The server accepts the head of station i's up line: what becomes of every station's locks.
use Rattle.std.specs.Prelude.{◌≡◌, ◌&&◌, cond, List, [], ◌∷◌, ◌++◌, ◌⊎◌, ◌≢◌, ltb}
use Rattle.std.proofs.Math.Path.{refl, ap}
use Rattle.std.proofs.Common.{sym, ◌∙◌, arith}
use Rattle.std.proofs.Math.Bool.{Bool, true, false, not}
use Rattle.std.proofs.Math.Logic.{inl, inr}
use Prim.Native.Nat.{ℕ, suc, ◌≤◌, ◌<◌}
use Rattle.std.proofs.Math.Dec.{eqb}
use Rattle.sets.specs.Base.{upd, has}
use Rattle.sets.specs.Laws.{by_b, by_eq}
use Rattle.sets.proofs.Laws.{eqb_same, eqb_yes, eqb_no, ltb_yes, ltb_no, or_no, and_l, and_r, not_yes}
use Rattle.line.specs.Messages.{page_of, locking, keeps, Work, Up, ReadRequest, WriteRequest, Commit, Abort, Purge, Busy, Done, WrittenSet, NoLock, ObjectLock, WholeLock, Down, Page, Deescalate, Callback, Committed, Aborted, Invalidate}
use Rattle.line.specs.Station.{Station, Wait, for_write}
use Rattle.line.specs.Server.{ByMessage, Server, Serving, bad_number, notice, finish, join, serve_now, join_read, join_write, join_commit, unlist, commit_now, mark_busy, answered, open_ask, loosen, heeded, accept, unexpected, start}
use Rattle.line.specs.Line.{World, carry_down, sent_to}
use Rattle.line.specs.Apart.{good_number, Renews, asked_of, keeps_locks}
use Rattle.line.specs.Truth.{count}
use Rattle.truth.specs.Clauses.{set_of, dropped, FitDown}
use Rattle.truth.specs.Frame.{Accepts}
use Rattle.truth.proofs.Frame.{append_nil, all_both, none_count, noticed_own, noticed_fin, noticed_kind, noticed_ol, noticed_wl, noticed_sent, accepts}
use Rattle.truth.specs.Inv.{taken}
use Rattle.truth.proofs.Inv.{heard_good}
use Rattle.truth.specs.Tokens.{both}
use Rattle.truth.proofs.Tokens.{took_up}
use Rattle.truth.specs.GoalsLists.{either}
use Rattle.jams.specs.Clauses.{abort_of, is_end, grants_whole, meets, Latest, Granted, Unended, Locks, LocksOf, Orderly}
use Rattle.jams.specs.Until.{until_pop}
use Rattle.jams.specs.Deescalation.{some_or_none}
use Rattle.jams.specs.KeepingStation.{KeAt}
use Rattle.jams.specs.Locks.{bare, renumbered, pop_up, NoGrants, quiet_grants}
use Rattle.jams.specs.Freed.{freed, freed_none, released, released_none, released_kept, new_free, new_whole, answers_open}
use Rattle.jams.specs.LocksHeld.{Ranged, ranged, meets_range, no_far_whole, loosened}
use Rattle.jams.specs.LocksStation.{Around}
use Rattle.jams.specs.DeescalationLayer.{late}
use Rattle.jams.specs.LocksServer.{LocksIn, freed_locks, commit_locks, page_locks, notice_locks, loosen_locks}

-- what is known of station j in an orderly world
pub around : (w : World) → Orderly w → (j : ℕ) → j < 8 → Around j (w.server.kind j) (w.server.queue j) w.server.ol w.server.wl (w.server.latest j) (w.server.fin j) (w.up j) (w.down j) (w.station j)
around w h j b =
    let k = h.inv.tokens j in
    record {
      tokens = k;
      numbers = h.numbers j b;
      sets = h.sets j b;
      locks = h.locks j b;
      object = λ a e. let o = h.inv.apart.locks.object_open j a e in (o.unfinished, rw k.kinds at o.locks);
      whole = λ p e. let o = h.inv.apart.locks.whole_open j p e in (λ v. o.unfinished (rw k.kinds v), rw k.kinds at o.locks);
    }

-- a lock on its way names the latest, so there is none of a transaction that is over
over_granted : (kind num : ℕ) (opened : Bool) (w : Wait) (latest : ℕ) (fin : Bool) (i : ℕ) (OL WL : ℕ → ℕ) (due ol : ℕ → Bool) → (opened ≡ true → latest ≡ num → ⊥) → (m : Down) → FitDown kind num opened w m → Latest num opened latest fin m → Granted i OL WL due ol m
over_granted kind num opened w latest fin i OL WL due ol n (Page NoLock a t v u x) f g = tt
over_granted kind num opened w latest fin i OL WL due ol n (Page ObjectLock a t v u x) f g =
    let e : (opened && eqb t num) ≡ true = rw (f.alive refl, f.same refl, eqb_same num) refl in
    absurd (n (f.alive refl) (sym (g e).0 ∙ f.same refl))
over_granted kind num opened w latest fin i OL WL due ol n (Page WholeLock a t v u x) f g =
    let e : (opened && eqb t num) ≡ true = rw (f.alive refl, f.same refl, eqb_same num) refl in
    absurd (n (f.alive refl) (sym (g e).0 ∙ f.same refl))
over_granted kind num opened w latest fin i OL WL due ol n (Deescalate p t) f g = tt
over_granted kind num opened w latest fin i OL WL due ol n (Callback r t set) f g = tt
over_granted kind num opened w latest fin i OL WL due ol n (Committed t c) f g = tt
over_granted kind num opened w latest fin i OL WL due ol n (Aborted t c) f g = tt
over_granted kind num opened w latest fin i OL WL due ol n (Invalidate d) f g = tt

module _ (i : ℕ) (l : List Up) (w : World) (b : i < 8) (h : Orderly w) where
  abbrev Accepted : Up → Serving → Type 0
  Accepted m x = w.up i ≡ m ∷ l → (j : ℕ) → j < 8 → LocksIn w.station (upd w.up i l) w.down j x

  -- a station's line, in the step and before it
  line_ranged : (j : ℕ) → j < 8 → (x : Serving) → x.sent ≡ [] → Ranged (w.station j).wr (for_write (w.station j).wait) (w.down j ++ sent_to j x.sent)
  line_ranged j c x e = rw (e, append_nil (w.down j)) (ranged (h.inv.tokens j))

  -- the others before the step
  others : (j : ℕ) → j < 8 → LocksIn w.station w.up w.down j (start w.server)
  others j c = rw (append_nil (w.down j)) (h.locks j c)

  abbrev Own : ℕ → List Up → Type 0
  Own T U = Locks i (w.station i).kind (w.station i).num (w.station i).opened (w.station i).wr (w.station i).ol (w.station i).wl (for_write (w.station i).wait) w.server.ol w.server.wl T U (w.down i)

  -- a message that is no 4 of the latest, nor an 8 that a whole lock needs
  popped : (m : Up) → abort_of (w.server.latest i) m ≡ false → (keeps (w.station i).kind ≡ false → (p : ℕ) → w.server.wl p ≡ suc i → meets (w.station i).wr p ≡ true → set_of p (w.server.latest i) m ≡ false) → w.up i ≡ m ∷ l → Own (w.server.latest i) l
  popped m e f q = pop_up m e f (rw q at (h.locks i b))

  lost_head : (m : Up) → abort_of (w.server.latest i) m ≡ false → (keeps (w.station i).kind ≡ false → (p : ℕ) → w.server.wl p ≡ suc i → meets (w.station i).wr p ≡ true → set_of p (w.server.latest i) m ≡ false) → Accepted m (start w.server)
  lost_head m e f q j c = by_eq j i (λ y. rw (y, eqb_yes j i y, append_nil (w.down i)) (popped m e f q)) (λ y. rw y (others j c))

  plain : keeps (w.station i).kind ≡ false → keeps (w.server.kind i) ≡ false
  plain v = rw (h.inv.tokens i).kinds v

  kept : keeps (w.station i).kind ≡ true → keeps (w.server.kind i) ≡ true
  kept v = rw (h.inv.tokens i).kinds v

  -- a 1, 2 or 3 of transaction T
  noted : (m : Up) (T : ℕ) → abort_of (w.server.latest i) m ≡ false → ((p : ℕ) → set_of p (w.server.latest i) m ≡ false) → bad_number w.server i T ≡ false → (w.up i ≡ m ∷ l → locking (w.station i).kind ≡ true → T ≡ (w.station i).num) → Accepted m (notice i T (start w.server))
  noted m T e f n g q j c =
      let s : Server = w.server in
      let k = h.inv.apart.locks in
      let new : eqb T (s.latest i) ≡ false → s.latest i < T = λ x. omega (arith, eqb_no T (s.latest i) x, (good_number s i T n).next) in
      notice_locks w.station (upd w.up i l) w.down j i T (start s)
      (λ y.
      rw (y, eqb_yes j i y, append_nil (w.down i))
      (renumbered T (λ x. (λ r z. new_free s i T n (new x) (k.object_open i r z), λ v p z. new_whole s i T n (new x) (k.whole_open i p z) (plain v))) (λ y o a z. inl (g q y)) (popped m e (λ v p z y. f p) q)))
      (λ y. rw y (others j c))

  -- 3 of a locking station
  commits : (k : Work) → bad_number w.server i k.transaction ≡ false → Accepted (Commit k) (commit_now i k (notice i k.transaction (start w.server)))
  commits k n q j c =
      let s : Server = w.server in
      let T : ℕ = k.transaction in
      let x : Serving = notice i T (start s) in
      let a = around w h i b in
      let g = rw q at a.tokens in
      let none : NoGrants i (w.down i) = quiet_grants (took_up (Commit k) refl g) i in
      commit_locks w.station (upd w.up i l) w.down j i k x (line_ranged j c x (noticed_sent i T (start s))) (rw (noticed_kind i T (start s)) (h.inv.tokens j).kinds)
      (λ y. rw (eqb_yes j i y, noticed_sent i T (start s), append_nil (w.down i)) none)
      (noted (Commit k) T refl (λ p. refl) n (λ z y. g.S1b_up.0.same refl) q j c)

  -- 4
  ends : (T : ℕ) → bad_number w.server i T ≡ false → Accepted (Abort T) (finish i ByMessage (notice i T (start w.server)))
  unfolding finish
  ends T n q j c =
      let s : Server = w.server in
      let x : Serving = notice i T (start s) in
      let t : Station = w.station i in
      let a = around w h i b in
      let g = rw q at a.numbers in
      let over : t.opened ≡ true → s.latest i ≡ t.num → ⊥ =
      λ o e. either g.N7.0 (λ y. absurd (omega (arith, (good_number s i T n).next))) (λ y. both t.opened o y.1) in
      let WL' : ℕ → ℕ = released (x.server.kind i) i x.server.wl in
      let same : keeps t.kind ≡ true → (p : ℕ) → WL' p ≡ s.wl p =
      λ v p. released_kept (x.server.kind i) i x.server.wl p (rw (noticed_kind i T (start s)) (kept v)) ∙ ap (λ f. f p) (noticed_wl i T (start s)) in
      let none : keeps t.kind ≡ false → (p : ℕ) → WL' p ≢ suc i = λ v p. released_none (x.server.kind i) i x.server.wl p (rw (noticed_kind i T (start s)) (plain v)) in
      let held : locking t.kind ≡ true → t.opened ≡ true → (r : ℕ) → has (t.wr r) ≡ true → (keeps t.kind ≡ true) × (WL' (page_of r) ≡ suc i) =
      λ k o r e. either (a.locks.K9 k o r e) (λ z. absurd (over o z)) (λ z. (z.0, same z.0 (page_of r) ∙ z.1)) in
      by_eq j i
      (λ y.
      rw (y, eqb_yes j i y, noticed_own i T (start s), noticed_sent i T (start s), append_nil (w.down i))
      (bare a.locks.K3a a.locks.K3b (freed_none i x.server.ol) none (λ k o z r e. held k o r e)
      (λ v p e. same v p ∙ a.locks.K2b p e (inl v)) (λ k o r e. inr (held k o r e))
      (all_both (FitDown t.kind t.num t.opened t.wait) (Latest t.num t.opened (s.latest i) (s.fin i)) (Granted i (freed i x.server.ol) WL' (for_write t.wait) t.ol)
      (over_granted t.kind t.num t.opened t.wait (s.latest i) (s.fin i) i (freed i x.server.ol) WL' (for_write t.wait) t.ol over) (w.down i) a.tokens.S1b_down a.numbers.N8)))
      (λ y.
      freed_locks w.station (upd w.up i l) w.down j i ByMessage x y (line_ranged j c x (noticed_sent i T (start s)))
      (notice_locks w.station (upd w.up i l) w.down j i T (start s) (λ z. both (eqb j i) z y) (λ z. rw z (others j c))))

  -- 8

  token : (p T : ℕ) (set : ℕ → Bool) → T ≡ w.server.latest i → 1 ≤ count (set_of p (w.server.latest i)) (WrittenSet p T set ∷ l)
  token p T set e = rw (e, eqb_same p, eqb_same (w.server.latest i)) (omega arith)

  -- .. another's locks stay
  spared : (p : ℕ) (set : ℕ → Bool) (x : Serving) (j : ℕ) → j < 8 → eqb j i ≡ false → x.sent ≡ [] → x.server.ol ≡ w.server.ol → x.server.wl ≡ w.server.wl → w.server.wl p ≡ suc i → LocksIn w.station (upd w.up i l) w.down j x → LocksIn w.station (upd w.up i l) w.down j (loosen i p set x)
  spared p set x j c y sent ol wl held g =
      loosen_locks w.station (upd w.up i l) w.down j i p set x y (line_ranged j c x sent) (ap (λ f. f p) wl ∙ held)
      (λ r z e f. h.inv.apart.locks.whole_alone j i r z (ap (λ k. k (page_of r)) (sym wl) ∙ e) (ap (λ k. k r) (sym ol) ∙ f)) g

  -- .. that answers the open 19 of a station that keeps nothing
  split : (p T : ℕ) (set : ℕ → Bool) → keeps (w.station i).kind ≡ false → open_ask w.server i p T ≡ true → Accepted (WrittenSet p T set) (loosen i p (heeded w.server i T set) (start w.server))
  unfolding loosen
  split p T set v' o q j c =
      let s : Server = w.server in
      let t : Station = w.station i in
      let a = around w h i b in
      let k = rw q at a.locks in
      let n = rw q at a.numbers in
      let v = answers_open s i p T (plain v') o in
      let held : s.wl p ≡ suc i = v.0 in
      let unended : s.fin i ≡ false = v.1 in
      let same : T ≡ s.latest i = v.2 in
      let range : Ranged t.wr (for_write t.wait) (w.down i) = ranged a.tokens in
      let said : (r : ℕ) → heeded s i T set r ≡ true → set r ≡ true = λ r e. and_r (not (s.fin i) && eqb T (s.latest i)) _ e in
      let heard : (r : ℕ) → set r ≡ true → heeded s i T set r ≡ true = λ r e. rw (unended, same, eqb_same (s.latest i), e) refl in
      let unheld : t.wl p ≡ false =
      by_b (t.wl p) (λ e. ((rw q at (h.deescalation i p b (meets_range range p (a.locks.K3b v' p e)) v')).K6d_up unended (token p T set same)).0) (λ e. e) in
      let none : count (grants_whole p) (w.down i) ≡ 0 =
      by_b (ltb p 32) (λ e. ((rw q at (h.deescalation i p b (ltb_yes p 32 e) v')).K6d_up unended (token p T set same)).1) (λ e. no_far_whole range p (ltb_no p 32 e)) in
      let sub : (r : ℕ) → heeded s i T set r ≡ true → (1 ≤ count (abort_of (s.latest i)) l) ⊎ ((t.opened ≡ true) × (has (t.wr r) ≡ true)) =
      λ r g.
      either (k.K1b v' p held) (λ x. inl (omega arith))
      (λ x.
      either x
      (λ y.
      either (n.N4 (a.whole p held).1 unended)
      (λ z. inr (z.0, ((rw q at (h.deescalation i p b (meets_range range p y.1) v')).K4b z.0 unended z.1).0 refl same r (said r g)))
      (λ z. inl (omega arith)))
      (λ y. absurd (omega arith))) in
      let known : locking t.kind ≡ true → t.opened ≡ true → (r : ℕ) → has (t.wr r) ≡ true → s.latest i ≡ t.num =
      λ e f r y. either (k.K9 e f r y) (λ z. z) (λ z. both (keeps t.kind) z.0 v') in
      let full : locking t.kind ≡ true → t.opened ≡ true → count is_end (w.down i) ≡ 0 → (r : ℕ) → page_of r ≡ p → has (t.wr r) ≡ true → (heeded s i T set r ≡ true) ⊎ (s.ol r ≡ suc i) =
      λ e f m r x y. either (((rw q at (h.deescalation i p b (omega (arith, range.written r y)) v')).K4 f unended (known e f r y) held).0 refl same r x y) (λ z. inl (heard r z)) (λ z. inr z) in
      by_eq j i
      (λ y.
      rw (y, eqb_yes j i y, append_nil (w.down i))
      (loosened p T set (heeded s i T set) range k held unheld none sub (λ r g x. until_pop (abort_of (s.latest i)) (dropped p) (WrittenSet p T set) l refl ((k.N9 p).1 v' held)) full (λ e f r x z. known e f r z)))
      (λ y. spared p (heeded s i T set) (start s) j c y refl refl refl held (rw y (others j c)))

  -- who is told of its end has ended the latest [N8, S1b]
  ended_latest : 1 ≤ count is_end (w.down i) → w.server.latest i ≡ (w.station i).num
  ended_latest m =
      let s : Station = w.station i in
      by_eq (w.server.latest i) s.num (λ e. eqb_yes (w.server.latest i) s.num e)
      (λ e.
      let none = all_both (FitDown s.kind s.num s.opened s.wait) (Latest s.num s.opened (w.server.latest i) (w.server.fin i)) (λ x. is_end x ≡ false) (unended (w.server.latest i) (eqb_no (w.server.latest i) s.num e)) (w.down i) (h.inv.tokens i).S1b_down (h.numbers i b).N8 in
      absurd (omega (arith, m, none_count is_end (w.down i) none)))
    where
      unended : (L : ℕ) → (L ≡ (w.station i).num → ⊥) → (x : Down) → FitDown (w.station i).kind (w.station i).num (w.station i).opened (w.station i).wait x → Latest (w.station i).num (w.station i).opened L (w.server.fin i) x → is_end x ≡ false
      unended L n (Page k a u v y z) f g = refl
      unended L n (Deescalate r u) f g = refl
      unended L n (Callback r u set) f g = refl
      unended L n (Committed u c) f g = absurd (n (sym g.0 ∙ f.same refl))
      unended L n (Aborted u c) f g = absurd (n (sym g.0 ∙ f.same refl))
      unended L n (Invalidate d) f g = refl

  -- .. of a station that keeps the page: L and F are the server's latest of it and whether that is finished, behind the number of the 8
  split_kept : (p T : ℕ) (set : ℕ → Bool) (L : ℕ) (F : Bool) (said : ℕ → Bool) → keeps (w.station i).kind ≡ true → w.server.wl p ≡ suc i → w.up i ≡ WrittenSet p T set ∷ l
      → ((r : ℕ) → said r ≡ true → (set r ≡ true) × (T ≡ L) × (F ≡ false))
      → (T ≡ L → F ≡ false → (r : ℕ) → set r ≡ true → said r ≡ true)
      → (F ≡ false → T ≡ L → Unended (w.server.latest i) (w.server.fin i) T)
      → (((w.station i).opened ≡ true) → (T ≡ (w.station i).num) ⊎ (w.server.latest i ≡ (w.station i).num) → L ≡ (w.station i).num)
      → (T ≡ (w.station i).num → (w.station i).opened ≡ true → count is_end (w.down i) ≡ 0 → (T ≡ L) × (F ≡ false))
      → (F ≡ false → T ≡ L → (((w.station i).opened ≡ true) × (L ≡ (w.station i).num)) ⊎ (1 ≤ count (abort_of L) l))
      → Own L (WrittenSet p T set ∷ l)
      → Locks i (w.station i).kind (w.station i).num (w.station i).opened (w.station i).wr (w.station i).ol (w.station i).wl (for_write (w.station i).wait) (λ r. cond (eqb (page_of r) p && said r) (suc i) (w.server.ol r)) (upd w.server.wl p 0) L l (w.down i)
  split_kept p T set L F said v held q heard says unended latest_is open_is four k =
      let s : Server = w.server in
      let t : Station = w.station i in
      let range : Ranged t.wr (for_write t.wait) (w.down i) = ranged (h.inv.tokens i) in
      let keep : KeAt s i p t (WrittenSet p T set ∷ l) (w.down i) = rw q at (h.keeping i p b v) in
      let one : cond {A = ℕ} (eqb p p) 1 0 ≡ 1 = rw (eqb_same p) refl in
      let there = keep.K6d_up (omega (arith, one)) in
      loosened p T set said range k held there.0 there.1
      (λ r g.
      let z = heard r g in
      either (four z.2 z.1) (λ y. inr (y.0, (keep.K4b y.0).0 refl (z.1 ∙ y.1) r z.0)) (λ y. inl y))
      (λ r g x.
      let z = heard r g in
      rw (← z.1) (keep.N12.0 refl (unended z.2 z.1) r x z.0).0)
      (λ e f m r x y. either ((keep.K4 f m held).0 refl r x y) (λ z. let u = open_is z.0 f m in inl (says u.0 u.1 r z.1)) (λ z. inr z.0))
      (λ e f r x y. latest_is f (some_or_none (count is_end (w.down i)) (λ m. inr (ended_latest m)) (λ m. either ((keep.K4 f m held).0 refl r x y) (λ z. inl z.0) (λ z. inr z.1))))

  -- .. of a transaction that the server has met
  split_met : (p T : ℕ) (set : ℕ → Bool) → keeps (w.station i).kind ≡ true → open_ask w.server i p T ≡ true → T ≤ w.server.latest i → Accepted (WrittenSet p T set) (loosen i p (heeded w.server i T set) (start w.server))
  unfolding loosen
  split_met p T set v o low q j c =
      let s : Server = w.server in
      let t : Station = w.station i in
      let n = rw q at (h.numbers i b) in
      let held : s.wl p ≡ suc i = asked_of s i p T o in
      by_eq j i
      (λ y.
      rw (y, eqb_yes j i y, append_nil (w.down i))
      (split_kept p T set (s.latest i) (s.fin i) (heeded s i T set) v held q
      (λ r e. let z = and_l (not (s.fin i) && eqb T (s.latest i)) _ e in (and_r (not (s.fin i) && eqb T (s.latest i)) _ e, eqb_yes T (s.latest i) (and_r (not (s.fin i)) _ z), not_yes (s.fin i) (and_l (not (s.fin i)) _ z)))
      (λ e f r g. rw (f, e, eqb_same (s.latest i), g) refl)
      (λ f e. inr (e, f))
      (λ f z. either z (λ e. omega (arith, e, low, n.N6)) (λ e. e))
      (λ e f m. (omega (arith, e, low, n.N6), by_b (s.fin i) (λ g. absurd (omega (arith, m, n.N5 f (omega (arith, e, low, n.N6)) g))) (λ g. g)))
      (λ f e. either (n.N4 (keeps_locks t.kind v) f) (λ z. inl z) (λ z. inr (omega (arith, z))))
      (rw q at (h.locks i b))))
      (λ y. spared p (heeded s i T set) (start s) j c y refl refl refl held (rw y (others j c)))

  -- .. of one that it has not met
  split_new : (p T : ℕ) (set : ℕ → Bool) → open_ask w.server i p T ≡ true → keeps (w.server.kind i) ≡ true → Renews (w.server.kind i) (w.server.latest i) T (w.server.fin i) → Accepted (WrittenSet p T set) (loosen i p (heeded (notice i T (start w.server)).server i T set) (notice i T (start w.server)))
  unfolding loosen
  split_new p T set o a' r q j c =
      let s : Server = w.server in
      let t : Station = w.station i in
      let x : Serving = start s in
      let y : Serving = notice i T x in
      let v : keeps t.kind ≡ true = rw (← (h.inv.tokens i).kinds) a' in
      let n = rw q at (h.numbers i b) in
      let k : Own (s.latest i) (WrittenSet p T set ∷ l) = rw q at (h.locks i b) in
      let held : s.wl p ≡ suc i = asked_of s i p T o in
      let fin : s.fin i ≡ true = r.over (keeps_locks (s.kind i) a') in
      let good = heard_good w h.inv i b T a' r in
      let opened : y.server.fin i ≡ false = noticed_fin i T x good i ∙ rw (eqb_same i) refl in
      let said : ℕ → Bool = λ g. not (y.server.fin i) && eqb T T && set g in
      by_eq j i
      (λ e.
      rw (e, eqb_yes j i e, noticed_ol i T x, noticed_wl i T x, noticed_own i T x, noticed_sent i T x, append_nil (w.down i))
      (split_kept p T set T false said v held q
      (λ g f. (and_r (not (y.server.fin i) && eqb T T) _ f, refl, refl))
      (λ f g z u. rw (opened, eqb_same T, u) refl)
      (λ f g. inl r.above)
      (λ f z. either z (λ g. g) (λ g. absurd (omega (arith, g, r.above, n.N10a.0))))
      (λ f g m. (refl, refl))
      (λ f g. either (n.N10.0 r.above) (λ z. inl z) (λ z. inr (omega (arith, z))))
      (renumbered T (λ z. (λ g f. both (s.fin i) fin (h.inv.apart.locks.object_open i g f).unfinished, λ z. both (keeps t.kind) v z))
      (λ z f g u. either (k.K9 z f g u) (λ d. absurd (omega (arith, d, r.above, n.N10a.0))) (λ d. inr d)) k)))
      (λ e.
      spared p (heeded y.server i T set) y j c e (noticed_sent i T x) (noticed_ol i T x) (noticed_wl i T x) held
      (notice_locks w.station (upd w.up i l) w.down j i T x (λ z. both (eqb j i) z e) (λ z. rw z (others j c))))

  -- .. that answers none: no whole lock of its transaction needs it
  answers_none : (p T : ℕ) (set : ℕ → Bool) → open_ask w.server i p T ≡ false → Accepted (WrittenSet p T set) (start w.server)
  answers_none p T set o q =
      lost_head (WrittenSet p T set) refl
      (λ v r e m. (or_no (set_of r (w.server.latest i) (WrittenSet p T set)) false (late i l w b h p T set i r o q b (meets_range (ranged (h.inv.tokens i)) r m) v (eqb_same i) e)).0) q

  accepts_locks : Accepts i (start w.server) Accepted
  unfolding join_read join_write join_commit join serve_now unlist mark_busy answered
  accepts_locks =
      let s : Server = w.server in
      record {
        read_waits = λ a T n e. noted (ReadRequest a T) T refl (λ p. refl) n (λ q k. (rw q at (h.inv.tokens i)).S1b_up.0.same (rw k refl));
        read_now = λ a T n e q j c.
            page_locks w.station (upd w.up i l) w.down j i a _ (notice i T (start s))
            (noted (ReadRequest a T) T refl (λ p. refl) n (λ z k. (rw z at (h.inv.tokens i)).S1b_up.0.same (rw k refl)) q j c);
        write_waits = λ p T set n e. noted (WriteRequest p T set) T refl (λ p. refl) n (λ q k. (rw q at (h.inv.tokens i)).S1b_up.0.same refl);
        commit_now_lem = λ k n f e. commits k n;
        commit_waits = λ k n e. noted (Commit k) k.transaction refl (λ p. refl) n (λ q z. (rw q at (h.inv.tokens i)).S1b_up.0.same refl);
        aborts = λ T n e. ends T n;
        purges = λ p e. lost_head (Purge p) refl (λ v r x y. refl);
        busy = λ k T e. lost_head (Busy k T) refl (λ v r x y. refl);
        busy_late = λ k T e. lost_head (Busy k T) refl (λ v r x y. refl);
        dones = λ k T p e. lost_head (Done k T p) refl (λ v r x y. refl);
        done_late = λ k T p e. lost_head (Done k T p) refl (λ v r x y. refl);
        loosens = λ p T set e a q j c. by_b (keeps (w.station i).kind) (λ v. split_met p T set v e a q j c) (λ v. split p T set v e q j c);
        loosens_new = λ p T set e a r. split_new p T set e a r;
        loosens_late = λ p T set e. answers_none p T set e;
      }

pub locks_accepted : (i : ℕ) (m : Up) (l : List Up) (w : World) → i < 8 → w.up i ≡ m ∷ l → unexpected i m w.server ≡ false → Orderly w → LocksOf (carry_down (accept i m (start w.server)) (taken i l w))
unfolding carry_down
locks_accepted i m l w b q n h = accepts i (start w.server) (Accepted i l w b h) (accepts_locks i l w b h) m n q
