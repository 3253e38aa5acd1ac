-- What is kept of the history while calls are made: who is open has begun, whose commit is out has asked for it, every record has both, and
-- what is noted as ended by 23 or by its owner was told as aborted. Over the world of `line`.
use Rattle.std.specs.Prelude.{ℕ, zero, suc, ◌+◌, ◌≤◌, ◌<◌, ◌≡◌, Bool, true, false, not, ◌&&◌, cond, List, [], ◌∷◌, ◌++◌, ◌⊎◌, length}
use Rattle.std.proofs.Math.Path.{refl, sym}
use Rattle.std.proofs.Common.{ap, ◌∙◌, arith, length-append}
use Rattle.std.proofs.lemmas.Bool.{false≢true}
use Rattle.std.proofs.Math.Logic.{inl, inr}
use Rattle.sets.specs.Base.{upd, Val, none, some}
use Rattle.sets.specs.Laws.{by_b, by_eq}
use Rattle.sets.proofs.Laws.{eqb_same, eqb_yes, and_l}
use Rattle.layout.specs.Record.{archive_of}
use Rattle.recs.specs.Recs.{records_of}
use Rattle.line.specs.Messages.{Down, Committed, Sent, To, Rec, Answer, Nothing, Begun, Value, Waits, Written, CommittedAs, AbortedFor, Purged, Refused, Empty}
use Rattle.line.specs.Station.{Station, Did, for_commit, station_step}
use Rattle.line.specs.Line.{World, world_down, Op, Begin, Read, WriteSet, Commits, Aborts, Purges, Told, ToldAbort, writes_of, tell, tell_write, tell_writes, carry_up, perform, sent_to, is_refused}
use Rattle.line.specs.Truth.{In, here, there}
use Rattle.line.specs.All.{All}
use Rattle.truth.proofs.Frame.{append_assoc}
use Rattle.truth.specs.Inv.{Inv}
use Rattle.truth.specs.GoalsLists.{either}
use Rattle.truth.proofs.GoalsLists.{in_none, in_left, in_right, in_append, in_last, in_all, no_split}
use Rattle.line_bytes.specs.Served.{archive_join}
use Rattle.line_host.specs.Line.{Event, Began, Asked, Ended, EndedByOwner, Archived, asked_by, told_by}
use Rattle.line_host.specs.Claim.{Recorded}
use Rattle.line_host.specs.Archives.{Answered}
use Rattle.line_host.specs.Moves.{OwnerMove, stays_so, begins, asks, owner_moves, invalidates, station_moves}

-- LISTS

-- an entry of two lists one behind the other: of the first, or of the second
record Later {A : Type 0} (xs ys before : List A) (x : A) (after : List A) : Type 0 where
  mid : List A
  first : before ≡ xs ++ mid
  rest : ys ≡ mid ++ (x ∷ after)

record Earlier {A : Type 0} (xs before : List A) (x : A) : Type 0 where
  rest : List A
  old : xs ≡ before ++ (x ∷ rest)

abbrev pub tail : {A : Type 0} → List A → List A
tail [] = []
tail (x ∷ l) = l

abbrev pub head_or : {A : Type 0} → A → List A → A
head_or d [] = d
head_or d (x ∷ l) = x

split_append : {A : Type 0} (xs ys before : List A) (x : A) (after : List A) → xs ++ ys ≡ before ++ (x ∷ after) → (Earlier xs before x) ⊎ (Later xs ys before x after)
split_append [] ys before x after e = inr (record { mid = before; first = refl; rest = e })
split_append (y ∷ xs) ys [] x after e = inl (record { rest = xs; old = ap (λ z. z ∷ xs) (ap (head_or y) e) })
split_append (y ∷ xs) ys (b ∷ before) x after e =
    let same : y ≡ b = ap (head_or y) e in
    either (split_append xs ys before x after (ap tail e))
    (λ u. inl (record { rest = u.rest; old = ap (λ z. z ∷ xs) same ∙ ap (λ z. b ∷ z) u.old }))
    (λ u. inr (record { mid = u.mid; first = ap (λ z. b ∷ z) u.first ∙ ap (λ z. z ∷ (xs ++ u.mid)) (sym same); rest = u.rest }))

-- an entry, and what stands before and behind it
pub record Place {A : Type 0} (x : A) (l : List A) : Type 0 where
  pub before : List A
  pub after : List A
  pub there_is : l ≡ before ++ (x ∷ after)

pub place : {A : Type 0} {x : A} {l : List A} → In x l → Place x l
place (here {l}) = record { before = []; after = l; there_is = refl }
place (there {y} k) = let p = place k in record { before = y ∷ p.before; after = p.after; there_is = ap (λ z. y ∷ z) p.there_is }

-- THE HISTORY

-- begun, and behind that asked for
pub record InOrder (i t : ℕ) (h : List Event) : Type 0 where
  pub before : List Event
  pub between : List Event
  pub after : List Event
  pub order : h ≡ before ++ (Began i t ∷ between ++ (Asked i t ∷ after))

order_more : {i t : ℕ} {h : List Event} (l : List Event) → InOrder i t h → InOrder i t (h ++ l)
order_more {i} {t} {h} l k =
    record {
      before = k.before;
      between = k.between;
      after = k.after ++ l;
      order =
          ap (λ (z : List Event). z ++ l) k.order ∙ sym (append_assoc k.before (Began i t ∷ k.between ++ (Asked i t ∷ k.after)) l)
          ∙ ap (λ (z : List Event). k.before ++ (Began i t ∷ z)) (sym (append_assoc k.between (Asked i t ∷ k.after) l));
    }

-- asked for behind what was begun before
order_asked : {i t : ℕ} {h : List Event} (l : List Event) → In (Began i t) h → In (Asked i t) l → InOrder i t (h ++ l)
order_asked {i} {t} {h} l b a =
    let p = place b in
    let q = place a in
    record {
      before = p.before;
      between = p.after ++ q.before;
      after = q.after;
      order =
          ap (λ (z : List Event). z ++ l) p.there_is ∙ sym (append_assoc p.before (Began i t ∷ p.after) l)
          ∙ ap (λ (z : List Event). p.before ++ (Began i t ∷ z)) (ap (λ (z : List Event). p.after ++ z) q.there_is ∙ append_assoc p.after q.before (Asked i t ∷ q.after));
    }

recorded_more : {i t from to : ℕ} {h : List Event} (l : List Event) → Recorded h i t from to → Recorded (h ++ l) i t from to
recorded_more {i} {t} {h = h} l k =
    let last = k.behind ++ (Archived k.start k.end ∷ k.after) in
    record {
      before = k.before;
      between = k.between;
      behind = k.behind;
      after = k.after ++ l;
      start = k.start;
      end = k.end;
      order =
          ap (λ (z : List Event). z ++ l) k.order ∙ sym (append_assoc k.before (Began i t ∷ k.between ++ (Asked i t ∷ last)) l)
          ∙ ap (λ (z : List Event). k.before ++ (Began i t ∷ z)) (sym (append_assoc k.between (Asked i t ∷ last) l)
          ∙ ap (λ (z : List Event). k.between ++ (Asked i t ∷ z)) (sym (append_assoc k.behind (Archived k.start k.end ∷ k.after) l)));
      starts = k.starts;
      ends = k.ends;
    }

-- archived behind that
recorded_now : {i t from to : ℕ} {h : List Event} (start end : ℕ) → InOrder i t h → start ≤ from → to ≤ end → Recorded (h ++ (Archived start end ∷ [])) i t from to
unfolding order_more
recorded_now {i} {t} {h = h} start end k a b =
    let l : List Event = Archived start end ∷ [] in
    let m = order_more l k in
    record { before = k.before; between = k.between; behind = k.after; after = []; start = start; end = end; order = m.order; starts = a; ends = b }

-- WHAT IS KEPT

-- the bytes of these records
abbrev pub size : List Rec → ℕ
size rs = length (archive_of (records_of rs))

pub record Noted (kinds : ℕ → ℕ) (t : ℕ → Station) (archive : List Rec) (told : List Told) (h : List Event) : Type 0 where
  pub begun : (i : ℕ) → i < 8 → (t i).opened ≡ true → In (Began i (t i).num) h
  pub asked : (i : ℕ) → i < 8 → for_commit (t i).wait ≡ true → InOrder i (t i).num h
  pub recorded : (before after : List Rec) (r : Rec) → archive ≡ before ++ (r ∷ after) → Recorded h r.station r.transaction (size before) (size (before ++ (r ∷ [])))
  pub kinds_are : (r : Rec) → In r archive → r.kind ≡ kinds r.station
  pub by_owner_lem : (i n : ℕ) → In (EndedByOwner i n) h → In (ToldAbort i n 0) told
  pub by_23 : (i n : ℕ) → In (Ended i n 23) h → In (ToldAbort i n 2) told

abbrev pub NotedIn : (ℕ → ℕ) → World → List Event → Type 0
NotedIn kinds w h = Noted kinds w.station w.archive w.told h

pub noted_fresh : (kinds : ℕ → ℕ) (t : ℕ → Station) → ((i : ℕ) → (t i).opened ≡ false) → ((i : ℕ) → for_commit (t i).wait ≡ false) → Noted kinds t [] [] []
noted_fresh kinds t o f =
    record {
      begun = λ i l e. absurd (false≢true (sym (o i) ∙ e));
      asked = λ i l e. absurd (false≢true (sym (f i) ∙ e));
      recorded = λ before after r e. absurd (no_split before r after e);
      kinds_are = λ r u. absurd (in_none u);
      by_owner_lem = λ i n u. absurd (in_none u);
      by_23 = λ i n u. absurd (in_none u);
    }

abbrev is_end : Event → Bool
is_end (Began i t) = false
is_end (Asked i t) = false
is_end (Ended i t k) = true
is_end (EndedByOwner i t) = true
is_end (Archived a b) = false

quiet_in : {x : Event} → is_end x ≡ true → (l : List Event) → All (λ e. is_end e ≡ false) l → In x l → ⊥
quiet_in e l q u = false≢true (sym (in_all (λ y. is_end y ≡ false) l q u) ∙ e)

-- A STATION'S MOVE

-- the transaction that was open is no longer: of the stations of `line`
abbrev pub ended_m : (ℕ → Event) → Station → Station → List Event
ended_m e s z = cond (s.opened && not z.opened) (e s.num ∷ []) []

no_end : (a b : Bool) → b ≡ true → (a && not b) ≡ false
no_end true b e = rw e
no_end false b e = refl

-- station i becomes z; told grows, and l is noted
module _ {kinds : ℕ → ℕ} {t : ℕ → Station} {archive : List Rec} {told told' : List Told} {h : List Event} (i : ℕ) (z : Station) (l : List Event)
    (k : Noted kinds t archive told h) (grows : (e : Told) → In e told → In e told') where
  -- what opens it, asks for its commit or ends it is noted
  pub station-noted :
      (z.opened ≡ true → i < 8 → (In (Began i z.num) l) ⊎ (((t i).opened ≡ true) × (z.num ≡ (t i).num)))
      → (for_commit z.wait ≡ true → i < 8 → (InOrder i z.num (h ++ l)) ⊎ ((for_commit (t i).wait ≡ true) × (z.num ≡ (t i).num)))
      → ((j n : ℕ) → In (EndedByOwner j n) l → In (ToldAbort j n 0) told')
      → ((j n : ℕ) → In (Ended j n 23) l → In (ToldAbort j n 2) told')
      → Noted kinds (upd t i z) archive told' (h ++ l)
  station-noted o f q v =
      record {
        begun =
            λ j b. by_eq j i
            (λ e. let b' : i < 8 = rw (← eqb_yes j i e) b in rw (e, eqb_yes j i e) (λ c. either (o c b') (λ u. in_right h l u) (λ u. rw u.1 (in_left h l (k.begun i b' u.0)))))
            (λ e. rw e (λ c. in_left h l (k.begun j b c)));
        asked =
            λ j b. by_eq j i
            (λ e. let b' : i < 8 = rw (← eqb_yes j i e) b in rw (e, eqb_yes j i e) (λ c. either (f c b') (λ u. u) (λ u. rw u.1 (order_more l (k.asked i b' u.0)))))
            (λ e. rw e (λ c. order_more l (k.asked j b c)));
        recorded = λ before after r e. recorded_more l (k.recorded before after r e);
        kinds_are = k.kinds_are;
        by_owner_lem = λ j n u. either (in_append h l u) (λ w. grows (ToldAbort j n 0) (k.by_owner_lem j n w)) (λ w. q j n w);
        by_23 = λ j n u. either (in_append h l u) (λ w. grows (ToldAbort j n 2) (k.by_23 j n w)) (λ w. v j n w);
      }

-- to tell an owner
pub record Grown (w v : World) : Type 0 where
  pub station : v.station ≡ w.station
  pub archive : v.archive ≡ w.archive
  pub told : (e : Told) → In e w.told → In e v.told

write_grows : (i t a : ℕ) (x : Val) {l : List Told} {e : Told} → In e l → In e (tell_write i t a x l)
write_grows i t a none u = u
write_grows i t a (some v) {l} u = in_left l _ u

writes_grow : (i t n : ℕ) (f : ℕ → Val) {l : List Told} {e : Told} → In e l → In e (tell_writes i t n f l)
unfolding tell_writes
writes_grow i t zero f u = u
writes_grow i t (suc n) f u = write_grows i t n (f n) (writes_grow i t n f u)

tell_grows : (i : ℕ) (op : Op) (a : Answer) (w : World) → Grown w (tell i op a w)
unfolding tell
tell_grows i op Nothing w = record { station = refl; archive = refl; told = λ e u. u }
tell_grows i op (Begun t) w = record { station = refl; archive = refl; told = λ e u. u }
tell_grows i op (Value v) w = record { station = refl; archive = refl; told = λ e u. in_left w.told _ u }
tell_grows i op Waits w = record { station = refl; archive = refl; told = λ e u. u }
tell_grows i op Written w = record { station = refl; archive = refl; told = λ e u. writes_grow i (w.number i) 256 (writes_of op) u }
tell_grows i op (CommittedAs n) w = record { station = refl; archive = refl; told = λ e u. in_left w.told _ u }
tell_grows i op (AbortedFor c) w = record { station = refl; archive = refl; told = λ e u. in_left w.told _ u }
tell_grows i op Purged w = record { station = refl; archive = refl; told = λ e u. u }
tell_grows i op (Refused n) w = record { station = refl; archive = refl; told = λ e u. u }
tell_grows i op Empty w = record { station = refl; archive = refl; told = λ e u. u }

told_aborted : (i : ℕ) (op : Op) (c : ℕ) (w : World) → In (ToldAbort i (w.number i) c) (tell i op (AbortedFor c) w).told
unfolding tell
told_aborted i op c w = in_last w.told _

-- what an owner is told notes no end
asked_quiet : (i : ℕ) (op : Op) (m : ℕ) → All (λ e. is_end e ≡ false) (asked_by i op m)
asked_quiet i Begin m = tt
asked_quiet i (Read a) m = tt
asked_quiet i (WriteSet p f) m = tt
asked_quiet i Commits m = (refl, tt)
asked_quiet i Aborts m = tt
asked_quiet i (Purges p) m = tt

told_quiet : (i : ℕ) (op : Op) (m : ℕ) (a : Answer) → All (λ e. is_end e ≡ false) (told_by i op m a)
told_quiet i op m Nothing = tt
told_quiet i op m (Begun t) = (refl, tt)
told_quiet i op m (Value v) = tt
told_quiet i op m Waits = asked_quiet i op m
told_quiet i op m Written = tt
told_quiet i op m (CommittedAs n) = tt
told_quiet i op m (AbortedFor c) = tt
told_quiet i op m Purged = tt
told_quiet i op m (Refused n) = tt
told_quiet i op m Empty = tt

-- what is noted as ended was open, and is no longer
record Closed (s z : Station) (i j n : ℕ) : Type 0 where
  own : j ≡ i
  number_is : n ≡ s.num
  closed : (s.opened && not z.opened) ≡ true

module _ (i : ℕ) (s z : Station) where
  ended_owner : {j n : ℕ} → In (EndedByOwner j n) (ended_m (EndedByOwner i) s z) → Closed s z i j n
  ended_owner u = by_b (s.opened && not z.opened) (λ e. let k = one (rw e at u) in record { own = k.0; number_is = k.1; closed = e }) (λ e. absurd (in_none (rw e at u)))
    where
      one : {j n : ℕ} → In (EndedByOwner j n) (EndedByOwner i s.num ∷ []) → (j ≡ i) × (n ≡ s.num)
      one here = (refl, refl)
      one (there v) = absurd (in_none v)

  owner_no_23 : {j n : ℕ} → In (Ended j n 23) (ended_m (EndedByOwner i) s z) → ⊥
  owner_no_23 u = by_b (s.opened && not z.opened) (λ e. one (rw e at u)) (λ e. in_none (rw e at u))
    where
      one : {j n : ℕ} → In (Ended j n 23) (EndedByOwner i s.num ∷ []) → ⊥
      one (there v) = in_none v

  ended_message : (c : ℕ) {j n k : ℕ} → In (Ended j n k) (ended_m (λ m. Ended i m c) s z) → (k ≡ c) × Closed s z i j n
  ended_message c u = by_b (s.opened && not z.opened) (λ e. let k = one (rw e at u) in (k.2, record { own = k.0; number_is = k.1; closed = e })) (λ e. absurd (in_none (rw e at u)))
    where
      one : {j n k : ℕ} → In (Ended j n k) (Ended i s.num c ∷ []) → (j ≡ i) × (n ≡ s.num) × (k ≡ c)
      one here = (refl, refl, refl)
      one (there v) = absurd (in_none v)

  message_no_owner : (c : ℕ) {j n : ℕ} → In (EndedByOwner j n) (ended_m (λ m. Ended i m c) s z) → ⊥
  message_no_owner c u = by_b (s.opened && not z.opened) (λ e. one (rw e at u)) (λ e. in_none (rw e at u))
    where
      one : {j n : ℕ} → In (EndedByOwner j n) (Ended i s.num c ∷ []) → ⊥
      one (there v) = in_none v

-- THE OWNER'S CALL

abbrev pub owner_notes : ℕ → Op → World → Did → List Event
owner_notes i op w d = told_by i op (w.number i) d.answer ++ ended_m (EndedByOwner i) (w.station i) d.station

module _ {kinds : ℕ → ℕ} {h : List Event} (i : ℕ) (b : i < 8) (op : Op) (w : World) (inv : Inv w) (k : NotedIn kinds w h) where
  abbrev s : Station
  s = w.station i

  noted_number : s.opened ≡ true → w.number i ≡ s.num
  noted_number e = (inv.goals.owned i b).note e

  abbrev behind : Did → World
  behind d = tell i op d.answer (carry_up i d w)

  -- an end is the owner's abort, and it is told
  told_end : (d : Did) → ((s.opened && not d.station.opened) ≡ true → d.answer ≡ AbortedFor 0) → (j n : ℕ) → In (EndedByOwner j n) (owner_notes i op w d) → In (ToldAbort j n 0) (behind d).told
  unfolding carry_up
  told_end d ends j n u =
      either (in_append (told_by i op (w.number i) d.answer) _ u)
      (λ x. absurd (quiet_in refl _ (told_quiet i op (w.number i) d.answer) x))
      (λ x.
      let c = ended_owner i s d.station x in
      let n-is : n ≡ w.number i = c.number_is ∙ sym (noted_number (and_l s.opened _ c.closed)) in
      rw (c.own, n-is, ends c.closed) (told_aborted i op 0 (carry_up i d w)))

  no_23 : (d : Did) (j n : ℕ) → In (Ended j n 23) (owner_notes i op w d) → In (ToldAbort j n 2) (behind d).told
  no_23 d j n u =
      absurd
      (either (in_append (told_by i op (w.number i) d.answer) _ u) (λ x. quiet_in refl _ (told_quiet i op (w.number i) d.answer) x) (λ x. owner_no_23 i s d.station x))

  owner_noted_by : (d : Did) → OwnerMove s op d → NotedIn kinds (behind d) (h ++ owner_notes i op w d)
  unfolding carry_up
  owner_noted_by d (stays_so m) =
      let g = tell_grows i op d.answer (carry_up i d w) in
      rw (g.station, g.archive)
      (station-noted i d.station (owner_notes i op w d) k g.told (λ c q. inr (m.open_before c)) (λ c q. inr (m.out_before c)) (told_end d m.ends) (no_23 d))
  owner_noted_by d (begins a o f) =
      let g = tell_grows i op d.answer (carry_up i d w) in
      let first : In (Began i d.station.num) (told_by i op (w.number i) d.answer) = rw a here in
      rw (g.station, g.archive)
      (station-noted i d.station (owner_notes i op w d) k g.told (λ c q. inl (in_left _ _ first)) (λ c q. absurd (false≢true (sym f ∙ c)))
      (told_end d (λ e. absurd (false≢true (sym (no_end s.opened d.station.opened o) ∙ e)))) (no_23 d))
  owner_noted_by d (asks q a o p n) =
      let g = tell_grows i op d.answer (carry_up i d w) in
      let number : w.number i ≡ d.station.num = noted_number o ∙ sym n in
      let first : In (Asked i d.station.num) (told_by i op (w.number i) d.answer) = rw (q, a, number) here in
      let was : In (Began i d.station.num) h = rw n (k.begun i b o) in
      rw (g.station, g.archive)
      (station-noted i d.station (owner_notes i op w d) k g.told (λ c r. inr (o, n)) (λ c r. inl (order_asked (owner_notes i op w d) was (in_left _ _ first)))
      (told_end d (λ e. absurd (false≢true (sym (no_end s.opened d.station.opened p) ∙ e)))) (no_23 d))

  pub owner_noted : NotedIn kinds (behind (perform op (w.station i))) (h ++ owner_notes i op w (perform op (w.station i)))
  owner_noted = owner_noted_by (perform op (w.station i)) (owner_moves op (w.station i))

-- THE STATION'S STEP on m, which came as a message of kind c

abbrev pub step_notes : ℕ → ℕ → Down → World → List Event
step_notes i c m w = ended_m (λ n. Ended i n c) (w.station i) (station_step m (w.station i)).station

module _ {kinds : ℕ → ℕ} {h : List Event} (i : ℕ) (b : i < 8) (m : Down) (l : List Down) (c : ℕ) (is_23 : c ≡ 23 → invalidates m ≡ true) (w : World) (inv : Inv w) (k : NotedIn kinds w h) where
  abbrev rest : World
  rest = world_down w (upd w.down i l)

  abbrev d : Did
  d = station_step m (w.station i)

  abbrev next : World
  next = tell i (w.asked i) d.answer (carry_up i d rest)

  told_23 : (j n : ℕ) → In (Ended j n 23) (step_notes i c m w) → In (ToldAbort j n 2) next.told
  unfolding carry_up
  told_23 j n u =
      let e = ended_message i (w.station i) d.station c u in
      let o = and_l (w.station i).opened _ e.1.closed in
      let says = ((station_moves m (w.station i)).ends e.1.closed).1 (is_23 (sym e.0)) in
      let n-is : n ≡ w.number i = e.1.number_is ∙ sym ((inv.goals.owned i b).note o) in
      rw (e.1.own, n-is, says) (told_aborted i (w.asked i) 2 (carry_up i d rest))

  pub step_noted : NotedIn kinds next (h ++ step_notes i c m w)
  unfolding carry_up
  step_noted =
      let g = tell_grows i (w.asked i) d.answer (carry_up i d rest) in
      let v = station_moves m (w.station i) in
      rw (g.station, g.archive)
      (station-noted i d.station (step_notes i c m w) k g.told (λ e q. inr (v.open_before e)) (λ e q. inr (v.out_before e))
      (λ j n u. absurd (message_no_owner i (w.station i) d.station c u)) told_23)

-- THE SERVER'S STEP

in_sent_to : (j : ℕ) (m : Down) (l : List Sent) → In (To j m) l → In m (sent_to j l)
in_sent_to j m [] x' = elim x' [ ]
in_sent_to j m (x ∷ l) here = rw (eqb_same j) here
in_sent_to j m (To i x ∷ l) (there u) = let k = in_sent_to j m l u in by_eq j i (λ e. rw e (there k)) (λ e. rw e k)

size_append : (xs ys : List Rec) → size (xs ++ ys) ≡ size xs + size ys
size_append xs ys = ap length (archive_join xs ys) ∙ length-append (archive_of (records_of xs)) (archive_of (records_of ys))

-- a 21 on its way is for a commit that its station waits for
out_21 : (w : World) → Inv w → (j t n : ℕ) → In (Committed t n) (w.down j) → (t ≡ (w.station j).num) × (for_commit (w.station j).wait ≡ true)
out_21 w inv j t n u = let f = in_all _ (w.down j) (inv.tokens j).S1b_down u in (f.same refl, f.waits refl)

-- the world behind it is v; recs is what it archived
module _ {kinds : ℕ → ℕ} {h : List Event} (w v : World) (recs : List Rec) (sent : List Sent) (inv : Inv v) (st : v.station ≡ w.station) (tl : v.told ≡ w.told)
    (ar : v.archive ≡ w.archive ++ recs) (dn : (j : ℕ) → v.down j ≡ w.down j ++ sent_to j sent) (eight : (r : Rec) → In r recs → r.station < 8) (an : Answered kinds recs sent) (k : NotedIn kinds w h) where
  new_ordered : (r : Rec) → In r recs → InOrder r.station r.transaction h
  new_ordered r u =
      let j = r.station in
      let way : In (Committed r.transaction r.number) (v.down j) = rw (dn j) (in_right (w.down j) _ (in_sent_to j _ sent (an r u).1)) in
      let o = out_21 v inv j r.transaction r.number way in
      let e : r.transaction ≡ (w.station j).num = rw st at o.0 in
      rw e (k.asked j (eight r u) (rw st at o.1))

  pub server_noted : NotedIn kinds v (h ++ (Archived (size w.archive) (size (w.archive ++ recs)) ∷ []))
  server_noted =
      let l : List Event = Archived (size w.archive) (size (w.archive ++ recs)) ∷ [] in
      rw (st, tl, ar)
      (record {
        begun = λ i b e. in_left h l (k.begun i b e);
        asked = λ i b e. order_more l (k.asked i b e);
        recorded =
            λ before after r e.
            either (split_append w.archive recs before r after e)
            (λ u. recorded_more l (k.recorded before u.rest r u.old))
            (λ u.
            let was : size before ≡ size w.archive + size u.mid = ap size u.first ∙ size_append w.archive u.mid in
            let new : In r recs = rw u.rest (in_right u.mid _ here) in
            recorded_now (size w.archive) (size (w.archive ++ recs)) (new_ordered r new) (omega (arith, was))
            (omega (arith, ap size e, size_append before (r ∷ after), size_append before (r ∷ []), size_append (r ∷ []) after)));
        kinds_are = λ r u. either (in_append w.archive recs u) (λ x. k.kinds_are r x) (λ x. (an r x).0);
        by_owner_lem = λ i n u. either (in_append h l u) (λ x. k.by_owner_lem i n x) (λ x. absurd (quiet_in refl l (refl, tt) x));
        by_23 = λ i n u. either (in_append h l u) (λ x. k.by_23 i n x) (λ x. absurd (quiet_in refl l (refl, tt) x));
      })

-- A REFUSED STEP

pub refused_ends : (e : ℕ → Event) (m : Down) (s : Station) → is_refused (station_step m s).answer ≡ true → ended_m e s (station_step m s).station ≡ []
refused_ends e m s u =
    by_b (s.opened && not (station_step m s).station.opened)
    (λ q. absurd (false≢true (sym ((station_moves m s).ends q).0 ∙ u)))
    (λ q. rw q)
