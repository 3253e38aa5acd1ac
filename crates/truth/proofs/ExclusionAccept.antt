-- Exclusion when the server accepts a message; aborts and installs, in the pass too.
use Rattle.std.specs.Prelude.{◌≡◌, Bool, true, false, ◌&&◌, cond, List, [], ◌∷◌, ◌++◌, ℕ, suc, ◌≤◌, ◌<◌, eqb}
use Rattle.std.proofs.Math.Path.{refl}
use Rattle.std.proofs.Common.{sym, ◌∙◌, arith}
use Rattle.std.proofs.lemmas.Bool.{false≢true}
use Rattle.sets.specs.Base.{upd, has}
use Rattle.sets.specs.Laws.{by_b, by_eq}
use Rattle.sets.proofs.Laws.{eqb_same, eqb_yes, and_l, and_r}
use Rattle.line.specs.Messages.{page_of, last_number, locking, Work, Up, Done, WrittenSet, Down}
use Rattle.line.specs.Station.{Station}
use Rattle.line.specs.Server.{End, ByMessage, Server, Serving, Waiter, waiter_busy, waiter_pend, is_want, waits, other, bad_number, unexpected, notice, finish, join, leave, send_page, abort, write, archive, install, serve_now, join_read, join_write, join_commit, commit_now, unlist, open_call, mark_busy, answered, loosen, accept, start, open_ask, heeded}
use Rattle.line.specs.Line.{World, carry_down}
use Rattle.line.specs.Apart.{good_number, asked_of}
use Rattle.line.specs.Truth.{count}
use Rattle.truth.specs.Clauses.{done_of}
use Rattle.truth.specs.Frame.{Accepts}
use Rattle.truth.proofs.Frame.{append_nil, accepts, if_serving, installs}
use Rattle.truth.specs.Inv.{Inv, ExclusionOf, taken}
use Rattle.truth.proofs.Inv.{heard_good}
use Rattle.truth.specs.Exclusion.{Exclusive, ExclusiveIn, lines, Known, KnownApart}
use Rattle.truth.proofs.Exclusion.{unlisted_hidden, read_free, called_less, known, exclusion_in}
use Rattle.truth.proofs.ExclusionFields.{objects_keep, wholes_keep, listed_keeps, queue_keeps, up_keeps, lines_keep, finish_keeps, entry_keeps, leave_keeps, send_keeps, tell_keeps}

module _ (t : ℕ → Station) (u : ℕ → List Up) (e : ℕ → List Down) where
  -- P of a step under way
  abbrev pub During : Serving → Type 0
  During x = ExclusiveIn t u x.server (lines e x)

  pub abort_keeps : (i c : ℕ) (x : Serving) → During x → During (abort i c x)
  unfolding abort finish leave
  abort_keeps i c x h = tell_keeps e x.sent (finish_keeps (leave_keeps h i) (x.server.kind i) i) i _ (λ a. refl)

  -- a list that loses pages
  fewer : (i : ℕ) (x : Serving) (d : ℕ → Bool) → During x → During (unlist i d x)
  unfolding unlist
  fewer i x d h = listed_keeps h _ (λ j a b c q o n. by_eq j i (λ p. rw (p, n) refl) (λ p. rw (p, n) refl))

  pub install_keeps : (i : ℕ) (w : Work) (x : Serving) → During x → During (install i w x)
  unfolding finish archive write leave
  install_keeps i w x h =
      installs During i w (λ j y o g. tell_keeps e y.sent g j _ (λ a. refl))
      x (tell_keeps e x.sent (finish_keeps (leave_keeps h i) (x.server.kind i) i) i _ (λ a. refl))

  -- a new transaction of a station that does not wait
  notice_keeps : (i n : ℕ) (x : Serving) → waits x.server i ≡ false → During x → During (notice i n x)
  unfolding notice
  notice_keeps i n x o h =
      if_serving During (eqb n (x.server.latest i)) (λ p. h)
      (λ p.
      queue_keeps h x.server.queue (upd x.server.latest i n)
      (λ r v c. record { waits = v; called = c; writes = λ a z. z; pend = λ j. refl })
      (λ r v c. by_eq r i (λ q. absurd (false≢true (sym o ∙ (rw (eqb_yes r i q) at v)))) (λ q. rw q refl)))

  join_keeps : (i : ℕ) (v : Waiter) (x : Serving) → v.called ≡ false → During x → During (join i v x)
  unfolding join
  join_keeps i v x n h = entry_keeps h i v n

  -- 16 at once, to a validating station: no clause speaks of it
  now_keeps : (i a : ℕ) (x : Serving) → locking (t i).kind ≡ false → During x → During (serve_now i a x)
  unfolding serve_now send_page
  now_keeps i a x k h =
      send_keeps e x.sent
      (listed_keeps h _ (λ j c b f q o n. by_eq j i (λ p. absurd (false≢true (sym k ∙ (rw (eqb_yes j i p) at q)))) (λ p. rw (p, n) refl)))
      i _
      (λ c b q. absurd (false≢true (sym k ∙ q)))
      (λ r c b f q. absurd (false≢true (sym k ∙ q)))

  commit_keeps : (i : ℕ) (w : Work) (x : Serving) → During x → During (commit_now i w x)
  unfolding commit_now
  commit_keeps i w x h = if_serving During (eqb x.server.last last_number) (λ p. abort_keeps i 4 x h) (λ p. install_keeps i w x h)

  finished : (i : ℕ) (e : End) (x : Serving) → During x → During (finish i e x)
  unfolding finish
  finished i e x h = finish_keeps h (x.server.kind i) i

  busy_keeps : (i r : ℕ) (x : Serving) → During x → During (mark_busy i r x)
  unfolding mark_busy
  busy_keeps i r x h =
      queue_keeps h _ x.server.latest
      (λ v p c.
      by_eq v r
      (λ q. rw q (record { waits = rw (q, ← eqb_yes v r q) at p; called = rw (q, ← eqb_yes v r q) at c; writes = λ a z. rw (eqb_yes v r q) z; pend = λ j. rw (eqb_yes v r q) refl }))
      (λ q. rw q (record { waits = rw q at p; called = rw q at c; writes = λ a z. z; pend = λ j. refl })))
      (λ v p c. refl)

-- a 7 that is awaited: what it cleared is hidden [G2c]
module _ (s : Server) (t : ℕ → Station) (u : ℕ → List Up) (d : ℕ → List Down) (i : ℕ) (l : List Up) (h : ExclusiveIn t u s d) where
  shorter : (m : Up) → u i ≡ m ∷ l → (r n j : ℕ) → count (done_of r n) (upd u i l j) ≤ count (done_of r n) (u j)
  shorter m q r n j =
      by_eq j i
      (λ p.
      let z : u j ≡ m ∷ l = rw (eqb_yes j i p) q in
      rw (p, z) (omega arith))
      (λ p. rw p (omega arith))

  done_keeps : (r n : ℕ) (x : ℕ → Bool) → u i ≡ Done r n x ∷ l → open_call s i r n ≡ true → Exclusive t (upd u i l) s.ol s.wl s.listed s.latest
      (upd s.queue r (waiter_pend (waiter_busy (s.queue r) (upd (s.queue r).busy i false)) (upd (s.queue r).pend i false))) d
  done_keeps r n x q o =
      record {
        locked = h.locked;
        called = λ v j a b c f k g p w y.
            by_eq v r
            (λ z.
            let z' : v ≡ r = eqb_yes v r z in
            let p' : is_want (s.queue v).want ≡ true = rw (z, ← z') at p in
            let w' : (s.queue v).called ≡ true = rw (z, ← z') at w in
            let y' : (s.queue v).writes a ≡ true = rw (z, ← z') at y in
            let m = h.called v j a b c f k g p' w' y' in
            by_eq j i
            (λ e.
            let m' = rw (eqb_yes j i e, q) at m in
            let latest : eqb n (s.latest v) ≡ true = rw z' (and_r (waits s r) _ (and_l _ ((s.queue r).pend i) o)) in
            let same : eqb r v ≡ true = rw z' (eqb_same r) in
            let one : 1 ≤ count (done_of v (s.latest v)) (Done r n x ∷ l) = rw (same, latest) (omega arith) in
            let hid = m'.G2c one in
            rw (z, e, eqb_yes j i e)
            (record {
              F3b = λ a. let none : count (done_of v (s.latest v)) (Done r n x ∷ l) ≡ 0 = (m'.F3b a).1 in absurd (omega arith);
              G2a = m'.G2a;
              G2c = λ a. hid;
              G2d = λ a. hid;
            }))
            (λ e. rw (z, e, ← z') m))
            (λ z.
            let m = h.called v j a b c f k g (rw z at p) (rw z at w) (rw z at y) in
            rw z (called_less m ((t j).cached (page_of a)) ((t j).unav a) ((t j).rd a) (upd u i l j) (d j) (λ e. e) (λ e. e) (shorter (Done r n x) q v (s.latest v) j) (λ e. e) m.G2a));
      }

-- the 8 of a page held whole: others have nothing of that page [F2a, C1, C3]
module _ (s : Server) (t : ℕ → Station) (u : ℕ → List Up) (d : ℕ → List Down) (i : ℕ) (h : Known s t u d) where
  loosen_keeps : (p : ℕ) (set : ℕ → Bool) → s.wl p ≡ suc i → Exclusive t u (λ a. cond (eqb (page_of a) p && set a) (suc i) (s.ol a)) (upd s.wl p 0) s.listed s.latest s.queue d
  loosen_keeps p set e =
      wholes_keep
      (objects_keep h.exclusive (λ a. cond (eqb (page_of a) p && set a) (suc i) (s.ol a))
      (λ j a b c q o.
      let m = h.exclusive.locked j a b c q in
      by_b (eqb (page_of a) p && set a)
      (λ z.
      let o' : other (suc i) j ≡ true = rw z at o in
      let page : page_of a ≡ p = eqb_yes (page_of a) p (and_l (eqb (page_of a) p) _ z) in
      let off : s.listed j (page_of a) ≡ false = m.F2a (rw (page, e) o') in
      let cover = h.coverage j b q in
      let all = cover.page (page_of a) in (
        unlisted_hidden a ((t j).unav a) refl all off,
        by_b (has ((t j).rd a)) (λ f. absurd (false≢true (sym off ∙ all.C1 (cover.C3 a f)))) (λ f. f),
      ))
      (λ z. let o' : other (s.ol a) j ≡ true = rw z at o in (m.F1 o', read_free m o'))))
      (upd s.wl p 0)
      (λ j a b c q o. by_eq (page_of a) p (λ z. absurd (false≢true (rw z at o))) (λ z. (h.exclusive.locked j a b c q).F2a (rw z at o)))

-- the server accepts

module _ (apart : KnownApart) where
  pub exclusion_accepted : (i : ℕ) (m : Up) (l : List Up) (w : World) → i < 8 → w.up i ≡ m ∷ l → unexpected i m w.server ≡ false → Inv w → ExclusionOf (carry_down (accept i m (start w.server)) (taken i l w))
  unfolding join_read join_write join_commit answered unlist loosen notice
  exclusion_accepted i m l w b q e h =
      exclusion_in (taken i l w) (accept i m (start w.server)) (accepts i x (λ n y. w.up i ≡ n ∷ l → During t u' w.down y) moves m e q)
    where
      s : Server
      s = w.server

      t : ℕ → Station
      t = w.station

      u' : ℕ → List Up
      u' = upd w.up i l

      x : Serving
      x = start s

      g : Known s t w.up w.down
      g = known apart w h

      -- the lines of a step that has sent nothing
      ended : {ol wl : ℕ → ℕ} {listed : ℕ → ℕ → Bool} {latest : ℕ → ℕ} {queue : ℕ → Waiter} {u : ℕ → List Up} → Exclusive t u ol wl listed latest queue w.down → Exclusive t u ol wl listed latest queue (λ j. w.down j ++ [])
      ended k =
          lines_keep k (λ j. w.down j ++ []) (λ j a b c q o z. rw (append_nil (w.down j)) z)
          (λ r j a b c f q o p v y. (λ z. rw (append_nil (w.down j)) z, λ z. rw (append_nil (w.down j)) z))

      base : (n : Up) → w.up i ≡ n ∷ l → During t u' w.down x
      base n p = ended (up_keeps g.exclusive u' (shorter s t w.up w.down i l g.exclusive n p))

      seen : (n : ℕ) (k : Up) → bad_number s i n ≡ false → w.up i ≡ k ∷ l → During t u' w.down (notice i n x)
      seen n k o p = notice_keeps t u' w.down i n x (good_number s i n o).idle (base k p)

      -- an 8: whatever set of it is locked
      loosed : (c n : ℕ) (set v : ℕ → Bool) → open_ask s i c n ≡ true → w.up i ≡ WrittenSet c n set ∷ l → During t u' w.down (loosen i c v x)
      loosed c n set v o p =
          ended (up_keeps (loosen_keeps s t w.up w.down i g c v (asked_of s i c n o)) u' (shorter s t w.up w.down i l g.exclusive (WrittenSet c n set) p))

      loosed_new : (c n : ℕ) (set v : ℕ → Bool) → open_ask s i c n ≡ true → bad_number s i n ≡ false → w.up i ≡ WrittenSet c n set ∷ l → During t u' w.down (loosen i c v (notice i n x))
      loosed_new c n set v o k p =
          let h = loosed c n set v o p in
          if_serving (λ y. During t u' w.down (loosen i c v y)) (eqb n (s.latest i)) (λ q. h)
          (λ q.
          queue_keeps h s.queue (upd s.latest i n)
          (λ r z f. record { waits = z; called = f; writes = λ a y. y; pend = λ j. refl })
          (λ r z f. by_eq r i (λ y. absurd (false≢true (sym (good_number s i n k).idle ∙ (rw (eqb_yes r i y) at z)))) (λ y. rw y refl)))

      moves : Accepts i x (λ n y. w.up i ≡ n ∷ l → During t u' w.down y)
      moves =
          record {
            read_waits = λ a n o k p. join_keeps t u' w.down i _ (notice i n x) refl (seen n _ o p);
            read_now = λ a n o k p. now_keeps t u' w.down i a (notice i n x) (rw (← (g.tokens i b).kinds) k) (seen n _ o p);
            write_waits = λ a n set o k p. join_keeps t u' w.down i _ (notice i n x) refl (seen n _ o p);
            commit_now_lem = λ v o f k p. commit_keeps t u' w.down i v (notice i v.transaction x) (seen v.transaction _ o p);
            commit_waits = λ v o k p. join_keeps t u' w.down i _ (notice i v.transaction x) refl (seen v.transaction _ o p);
            aborts = λ n o k p. finished t u' w.down i ByMessage (notice i n x) (seen n _ o p);
            purges = λ n o p. fewer t u' w.down i x (λ c. eqb c n) (base _ p);
            busy = λ r n o p. busy_keeps t u' w.down i r x (base _ p);
            busy_late = λ r n o p. base _ p;
            dones = λ r n d o p.
                ended (listed_keeps (done_keeps s t w.up w.down i l g.exclusive r n d p o) _
                (λ j a c f k y z. by_eq j i (λ v. rw (v, z) refl) (λ v. rw (v, z) refl)));
            done_late = λ r n d o p. fewer t u' w.down i x d (base _ p);
            loosens = λ c n set o v p. loosed c n set (heeded s i n set) o p;
            loosens_new = λ c n set o k r p. loosed_new c n set (heeded (notice i n x).server i n set) o (heard_good w h i b n k r) p;
            loosens_late = λ c n set o p. base _ p;
          }
