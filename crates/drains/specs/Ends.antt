-- What deliveries and ends do to a station: nobody begins, so who is closed stays closed; a locking station that does not wait goes on
-- so until its owner ends its transaction, and whose owner has ended it is closed or waits for its commit's answer.
use Rattle.std.specs.Prelude.{◌≡◌, refl, Bool, true, false, ◌&&◌, cond, List, [], ◌⊎◌, ℕ, eqb}
use Rattle.std.proofs.Common.{sym, ap, ◌∙◌, inl, inr}
use Rattle.std.proofs.lemmas.Bool.{false≢true}
use Rattle.sets.proofs.Laws.{and_l}
use Rattle.line.specs.Messages.{locking, Lock, NoLock, ObjectLock, WholeLock, Up, Down, Waits, Refused}
use Rattle.line.specs.Station.{Station, Did, does, set_wait, Wait, ForRead, ForWrite, ForCommit, waiting, for_commit, take_lock, loosen, live, drop_pages, mark, do_callback, closed, close, own_commit, own_abort, on_deescalate, on_committed, on_aborted, station_step, gives_up}
use Rattle.line.specs.Line.{Op, Begin, Read, WriteSet, Commits, Aborts, Purges, Call, Owner, ServerTakes, StationTakes, Broken, perform}
use Rattle.truth.proofs.Frame.{performs, closes, takes}
use Rattle.truth.proofs.ValidatedMoves.{step_kind}

-- the ends: commit and abort
abbrev pub is_ending : Op → Bool
is_ending Begin = false
is_ending (Read a) = false
is_ending (WriteSet p f) = false
is_ending Commits = true
is_ending Aborts = true
is_ending (Purges p) = false

-- nobody begins, reads, writes or purges: deliveries and ends alone
abbrev pub calm : Call → Bool
calm (Owner i op) = is_ending op
calm (ServerTakes i) = true
calm (StationTakes i) = true
calm (Broken n) = false

-- station j's owner ends its transaction
abbrev pub ends_of : ℕ → Call → Bool
ends_of j (Owner i op) = eqb i j && is_ending op
ends_of j (ServerTakes i) = false
ends_of j (StationTakes i) = false
ends_of j (Broken n) = false

-- A STATION

done_opened : (r t : ℕ) (set : ℕ → Bool) (d : Did) → (do_callback r t set d).station.opened ≡ d.station.opened
unfolding do_callback drop_pages mark
done_opened r t set d = refl

done_wait : (r t : ℕ) (set : ℕ → Bool) (d : Did) → (do_callback r t set d).station.wait ≡ d.station.wait
unfolding do_callback drop_pages mark
done_wait r t set d = refl

loosen_opened : (b : Bool) (p : ℕ) (set : ℕ → Bool) (s : Station) → (cond b (loosen p set s) s).opened ≡ s.opened
unfolding loosen
loosen_opened true p set s = refl
loosen_opened false p set s = refl

loosen_wait : (b : Bool) (p : ℕ) (set : ℕ → Bool) (s : Station) → (cond b (loosen p set s) s).wait ≡ s.wait
unfolding loosen
loosen_wait true p set s = refl
loosen_wait false p set s = refl

-- what closes is closed
close_closed : (d : Did) → (close d).station.opened ≡ false
unfolding closed
close_closed d = closes (λ e. e.station.opened ≡ false) (λ r t set e q h. done_opened r t set _ ∙ h) d refl

-- live, so not closed
live_open : (s : Station) (t : ℕ) → live s t ≡ true → s.opened ≡ true
live_open s t e = and_l s.opened _ e

-- whose owner has ended it: closed, or it waits for its commit's answer
abbrev pub Ended : Station → Type 0
Ended s = (s.opened ≡ false) ⊎ (for_commit s.wait ≡ true)

-- a page answers another wait than a commit's
not_ended : (s : Station) (t : ℕ) {G : Type 0} → live s t ≡ true → for_commit s.wait ≡ false → Ended s → G
not_ended s t e f (inl h) = absurd (false≢true (sym h ∙ live_open s t e))
not_ended s t e f (inr h) = absurd (false≢true (sym f ∙ h))

same_ended : {o o' : Bool} {v v' : Wait} → o' ≡ o → v' ≡ v → (o ≡ false) ⊎ (for_commit v ≡ true) → (o' ≡ false) ⊎ (for_commit v' ≡ true)
same_ended e f (inl h) = inl (e ∙ h)
same_ended e f (inr h) = inr (ap for_commit f ∙ h)

pub step_ended : (m : Down) (s : Station) → Ended s → Ended (station_step m s).station
unfolding on_deescalate on_committed on_aborted mark
step_ended m s =
    takes s (λ m d. Ended s → Ended d.station)
    (record {
      refused = λ m f h. h;
      old_page = λ a t v u x e h. h;
      page_read = λ a t v u x e w h. not_ended s t e (ap for_commit w) h;
      page_write = λ l a t v u x p y e w o c h. not_ended s t e (ap for_commit w) h;
      deescalates = λ p t o h. same_ended (loosen_opened (gives_up p t s) p _ s) (loosen_wait (gives_up p t s) p _ s) h;
      keeps = λ r t set o f h. h;
      dones = λ r t set o f h. same_ended (done_opened r t set _) (done_wait r t set _) h;
      commits = λ t n e w h. inl (close_closed _);
      aborts = λ t c e w h. inl (close_closed _);
      invalid_ends = λ d o f g h. inl (close_closed _);
      invalid = λ d o f h. h;
    })
    m

-- a locking station at work
pub record AtWork (s : Station) : Type 0 where
  pub locks : locking s.kind ≡ true
  pub opened : s.opened ≡ true
  pub idle : waiting s.wait ≡ false

-- it waits for nothing, so nothing answers it
no_wait : (s : Station) (v : Wait) {G : Type 0} → waiting v ≡ true → s.wait ≡ v → AtWork s → G
no_wait s v f e h = absurd (false≢true (sym h.idle ∙ ap waiting e ∙ f))

no_lock : (s : Station) {G : Type 0} → locking s.kind ≡ false → AtWork s → G
no_lock s e h = absurd (false≢true (sym e ∙ h.locks))

abbrev Still : Station → Station → Type 0
Still s s' = (s'.opened ≡ s.opened) × (s'.wait ≡ s.wait)

step_still : (m : Down) (s : Station) → AtWork s → Still s (station_step m s).station
unfolding on_deescalate
step_still m s =
    takes s (λ m d. AtWork s → Still s d.station)
    (record {
      refused = λ m f h. (refl, refl);
      old_page = λ a t v u x e h. (refl, refl);
      page_read = λ a t v u x e w h. no_wait s (ForRead a) refl w h;
      page_write = λ l a t v u x p y e w o c h. no_wait s (ForWrite p y) refl w h;
      deescalates = λ p t o h. (loosen_opened (gives_up p t s) p _ s, loosen_wait (gives_up p t s) p _ s);
      keeps = λ r t set o f h. (refl, refl);
      dones = λ r t set o f h. (done_opened r t set _, done_wait r t set _);
      commits = λ t n e w h. no_wait s ForCommit refl w h;
      aborts = λ t c e w h. no_wait s s.wait w refl h;
      invalid_ends = λ d o f g h. no_lock s o h;
      invalid = λ d o f h. no_lock s o h;
    })
    m

pub step_at_work : (m : Down) (s : Station) → AtWork s → AtWork (station_step m s).station
step_at_work m s h =
    let e = step_still m s h in
    record { locks = rw (step_kind m s) h.locks; opened = e.0 ∙ h.opened; idle = ap waiting e.1 ∙ h.idle }

-- nobody is opened by a delivery
lock_opened : (l : Lock) (a : ℕ) (s : Station) → (take_lock l a s).opened ≡ s.opened
unfolding take_lock
lock_opened NoLock a s = refl
lock_opened ObjectLock a s = refl
lock_opened WholeLock a s = refl

pub step_closed : (m : Down) (s : Station) → s.opened ≡ false → (station_step m s).station.opened ≡ false
unfolding on_deescalate on_committed on_aborted mark
step_closed m s =
    takes s (λ m d. s.opened ≡ false → d.station.opened ≡ false)
    (record {
      refused = λ m f h. h;
      old_page = λ a t v u x e h. h;
      page_read = λ a t v u x e w h. absurd (false≢true (sym h ∙ live_open s t e));
      page_write = λ l a t v u x p y e w o c h. absurd (false≢true (sym h ∙ live_open s t e));
      deescalates = λ p t o h. loosen_opened (gives_up p t s) p _ s ∙ h;
      keeps = λ r t set o f h. h;
      dones = λ r t set o f h. done_opened r t set _ ∙ h;
      commits = λ t n e w h. close_closed _;
      aborts = λ t c e w h. close_closed _;
      invalid_ends = λ d o f g h. close_closed _;
      invalid = λ d o f h. h;
    })
    m

-- its owner's ends

module _ (s : Station) (P : Did → Type 0) (same : (n : ℕ) → P (does (Refused n) s [])) (asked : (m : List Up) → P (does Waits (set_wait s ForCommit) m)) (over : (d : Did) → P (close d)) where
  pub ending : (op : Op) → is_ending op ≡ true → P (perform op s)
  ending =
      performs s (λ op d. is_ending op ≡ true → P d)
      (record {
        refused = λ op n e. same n;
        begins = λ i o e. absurd (false≢true e);
        reads_own = λ a v b c f e. absurd (false≢true e);
        reads_again = λ a v b c f g e. absurd (false≢true e);
        reads_here = λ a b c f g k e. absurd (false≢true e);
        reads_ask = λ a b c f g k e. absurd (false≢true e);
        writes_here = λ p v b c f e. absurd (false≢true e);
        writes_ask = λ p v b c f e. absurd (false≢true e);
        commits = λ c e. asked _;
        aborts = λ c e. over _;
        purges = λ p b c f g k e. absurd (false≢true e);
      })

pub end_ended : (op : Op) (s : Station) → is_ending op ≡ true → Ended s → Ended (perform op s).station
end_ended op s e h = ending s (λ d. Ended d.station) (λ n. h) (λ m. inr refl) (λ d. inl (close_closed d)) op e

pub end_closed : (op : Op) (s : Station) → is_ending op ≡ true → s.opened ≡ false → (perform op s).station.opened ≡ false
end_closed op s e h = ending s (λ d. d.station.opened ≡ false) (λ n. h) (λ m. h) close_closed op e

-- who is at work ends when its owner ends it
pub work_ends : (op : Op) (s : Station) → is_ending op ≡ true → AtWork s → Ended (perform op s).station
unfolding perform own_commit own_abort
work_ends Begin s e h = absurd (false≢true e)
work_ends (Read a) s e h = absurd (false≢true e)
work_ends (WriteSet p f) s e h = absurd (false≢true e)
work_ends Commits s e h = rw (h.idle, h.opened) (inr refl)
work_ends Aborts s e h = rw (h.idle, h.opened) (inl (close_closed _))
work_ends (Purges p) s e h = absurd (false≢true e)
