-- Every access to a window is, on the line, a call of the station's own functions, or none at all: a run through windows is a run of owner's
-- calls and deliveries.
use Rattle.std.specs.Prelude.{ℕ, ◌≡◌, Bool, true, false, ◌&&◌, cond, set, eqb, ltb}
use Rattle.std.proofs.Math.Path.{refl, sym}
use Rattle.std.proofs.Common.{ap, subst, ◌∙◌, arith, get_or-set_other}
use Rattle.std.proofs.lemmas.Bool.{false≢true}
use mathlib.Core.List.{List, [], ◌∷◌, ◌++◌, append-nil}
use Rattle.sets.specs.Laws.{by_b, by_eq}
use Rattle.sets.proofs.Laws.{eqb_yes, and_l, and_r}
use Rattle.line.specs.Line.{Op, is_refused}
use Rattle.message.specs.Layout.{kind_of}
use Rattle.station_callbacks.specs.Callbacks.{flat}
use Rattle.station_answer.specs.declared.Answer.{Answer}
use Rattle.station_answer.specs.declared.Answer.TheVariants.{Refused, Begun, Value, Waits, Written, Committed, Aborted, Purged, Nothing}
use Rattle.station_answer.specs.Did.{Outcome, outcome, said, refuses, laid}
use Rattle.station_answer.specs.Ask.{open_b}
use Rattle.station_owner.specs.Owner.{ready}
use Rattle.host.specs.Host.{told_length}
use Rattle.call_meaning.specs.Relation.{answer_of}
use Rattle.call_meaning.specs.Buffers.{messages_in, sent_by}
use Rattle.call_meaning.specs.Calls.{perform_b, step_b}
use Rattle.call_meaning.proofs.Calls.{one_called}
use Rattle.line_bytes.specs.Bytes.{WorldB, carry_up_b, tell_b, rest_down, owner_acts_b, station_takes_b}
use Rattle.line_bytes.specs.Simulates.{carry_none}
use Rattle.line_host.specs.Line as Hosts
use Rattle.line_host.specs.Line.{OpH, BeginH, operation, owner_hosted, CallH, OwnerH, StationH, line_h, Event, Ended, EndedByOwner, told_by, ended, owner_events, station_events, WorldH, act_h}
use Rattle.line_host.specs.Refusals.{Said, Sure, delivery_sure}
use Rattle.line_host.specs.Same.{few_values, lent, Found, same_call, owner_found, step_found, carry_up_same, owner_same, station_same}
use Rattle.window_state.specs.Layout.{page_from, object_from, command_from, registers, value}
use Rattle.window_state.specs.Registers.{address_of, stored_of}
use Rattle.window.specs.Window.{Accessed, accessed, ready_w, noted, is_command, performed, taken_as, taken_said, commanded, command_of, stays, refused, write_of, step_of}
use Rattle.window_host.specs.Host.{window_of}
use Rattle.window_meaning.specs.Shows.{value_same}
use Rattle.window_truth.specs.Line.{write_hosted, step_hosted, op_of, CallW, HostW, ReadW, InterruptW, WriteW, StepW, WorldW, writes_w, takes_w, write_events, step_events, write_w, step_w, act_w}

-- THE STATION'S OWN CALL

-- page, object and value are what they were before the command was written
address_same : (b : ℕ) (r : List ℕ) → address_of (set r command_from b) ≡ address_of r
unfolding address_of
address_same b r = rw (get_or-set_other r command_from page_from b 0 (λ z. omega arith), get_or-set_other r command_from object_from b 0 (λ z. omega arith))

performed_own : (b : ℕ) (r s o c : List ℕ) → performed b (set r command_from b) s o c ≡ perform_b (operation (op_of b r)) s o c
unfolding performed
performed_own b r s o c =
    let v : value (set r command_from b) ≡ value r = value_same r (set r command_from b) (λ j l u. get_or-set_other r command_from j b 0 (λ z. omega arith)) in
    by_eq b 1 (λ e. rw e)
    (λ e.
    by_eq b 2 (λ f. rw (e, f, address_same b r))
    (λ f. by_eq b 3 (λ g. rw (e, f, g, address_same b r, v) (one_called (address_of r) (value r) s o c)) (λ g. by_eq b 4 (λ h. rw (e, f, g, h)) (λ h. rw (e, f, g, h)))))

-- no command writes a set
no_set : (b : ℕ) (r : List ℕ) → few_values (op_of b r) ≡ false
no_set b r =
    by_eq b 1 (λ e. rw e)
    (λ e. by_eq b 2 (λ f. rw (e, f)) (λ f. by_eq b 3 (λ g. rw (e, f, g)) (λ g. by_eq b 4 (λ h. rw (e, f, g, h)) (λ h. rw (e, f, g, h)))))

-- WHAT A HOST FINDS

unready : (r s o c : List ℕ) → ready s o c ≡ false → ready_w r s o c ≡ false
unfolding ready_w
unready r s o c e = rw e

taken_sure : (a : Answer) (n k : ℕ) → Said (taken_as a) n k
taken_sure (Refused x) n k = tt
taken_sure (Begun t) n k = tt
taken_sure (Value v) n k = tt
taken_sure Waits n k = tt
taken_sure Written n k = tt
taken_sure (Committed x) n k = tt
taken_sure (Aborted c) n k = tt
taken_sure Purged n k = tt
taken_sure Nothing n k = tt

abbrev written : ℕ → ℕ → List ℕ → List ℕ → List ℕ → List ℕ → Outcome
written k b r s o c = (write_of k b r s o c).outcome

abbrev delivered : List ℕ → List ℕ → List ℕ → List ℕ → List ℕ → Outcome
delivered m r s o c = (step_of m r s o c).outcome

-- a write by its branches
by_write : (k b : ℕ) (r s o c : List ℕ) (P : Accessed → Type 0)
    → (ready_w r s o c ≡ false → P (refused 1 r s o c))
    → P (refused 16 r s o c)
    → (eqb k command_from ≡ false → P (stays (stored_of k b r) s o c))
    → (is_command b ≡ false → P (stays (set r command_from b) s o c))
    → (ready_w r s o c ≡ true → eqb k command_from ≡ true → is_command b ≡ true → P (commanded (set r command_from b) (performed b (set r command_from b) s o c)))
    → P (write_of k b r s o c)
unfolding write_of command_of
by_write k b r s o c P one sixteen stored other command =
    by_b (ready_w r s o c)
    (λ e.
    by_b (ltb k registers)
    (λ f.
    by_eq k command_from
    (λ g. by_b (is_command b) (λ h. rw (e, f, g, h) (command e g h)) (λ h. rw (e, f, g, h) (other h)))
    (λ g. rw (e, f, g) (stored g)))
    (λ f. rw (e, f) sixteen))
    (λ e. rw e (one e))

-- a delivery by its branches
by_step : (m r s o c : List ℕ) (P : Accessed → Type 0)
    → (ready_w r s o c ≡ false → P (refused 1 r s o c))
    → (ready_w r s o c ≡ true → P (accessed (noted (step_b m s o c).said.answer r) (step_b m s o c)))
    → P (step_of m r s o c)
unfolding step_of
by_step m r s o c P one taken = by_b (ready_w r s o c) (λ e. rw e (taken e)) (λ e. rw e (one e))

module _ (k b : ℕ) (r : List ℕ) where
  unready_is : (s o c : List ℕ) → ready_w r s o c ≡ false → (P : Accessed → Type 0) → P (refused 1 r s o c) → P (write_of k b r s o c)
  unfolding write_of
  unready_is s o c e P h = rw e h

  write_sure : (s o c : List ℕ) → Sure (written k b r s o c)
  write_sure s o c =
      by_write k b r s o c (λ a. Sure a.outcome) (λ e. (refl, refl, refl)) (refl, refl, refl) (λ e. tt) (λ e. tt)
      (λ e g h. taken_sure (performed b (set r command_from b) s o c).said.answer _ _)

  write_unready : (s o c : List ℕ) → ready s o c ≡ false → written k b r s o c ≡ laid o c (refuses 1 s)
  unfolding flat
  write_unready s o c e =
      let z = unready r s o c e in
      unready_is s o c z (λ a. a.outcome ≡ laid o c (refuses 1 s)) refl

  write_found : (s o c t : List ℕ) → Found (write_hosted k b r s o c t).hosted (written k b r s (lent told_length t o) (lent told_length t c))
  unfolding window_of
  write_found = same_call (written k b r) write_sure write_unready

module _ (m r : List ℕ) where
  deliver_sure : (s o c : List ℕ) → Sure (delivered m r s o c)
  deliver_sure s o c = by_step m r s o c (λ a. Sure a.outcome) (λ e. (refl, refl, refl)) (λ e. delivery_sure s o c m)

  deliver_unready : (s o c : List ℕ) → ready s o c ≡ false → delivered m r s o c ≡ laid o c (refuses 1 s)
  unfolding flat
  deliver_unready s o c e =
      by_step m r s o c (λ a. a.outcome ≡ laid o c (refuses 1 s)) (λ f. refl) (λ f. absurd (false≢true (sym (unready r s o c e) ∙ f)))

  deliver_found : (s o c t : List ℕ) → Found (step_hosted m r s o c t).hosted (delivered m r s (lent told_length t o) (lent told_length t c))
  unfolding window_of
  deliver_found = same_call (delivered m r) deliver_sure deliver_unready

  -- the station's own step
  deliver_own : (s o c : List ℕ) → ready_w r s o c ≡ true → delivered m r s o c ≡ step_b m s o c
  deliver_own s o c e = by_step m r s o c (λ a. a.outcome ≡ step_b m s o c) (λ f. absurd (false≢true (sym f ∙ e))) (λ f. refl)

-- WHAT IS TOLD: a command that the station refused, and a register that is only stored, tell nothing

tell_taken : (i : ℕ) (op : Op) (a : Answer) (w : WorldB) → tell_b i op (answer_of (taken_as a)) w ≡ tell_b i op (answer_of a) w
unfolding tell_b
tell_taken i op (Refused n) w = refl
tell_taken i op (Begun t) w = refl
tell_taken i op (Value v) w = refl
tell_taken i op Waits w = refl
tell_taken i op Written w = refl
tell_taken i op (Committed n) w = refl
tell_taken i op (Aborted c) w = refl
tell_taken i op Purged w = refl
tell_taken i op Nothing w = refl

told_taken : (i : ℕ) (op : Op) (n : ℕ) (a : Answer) → told_by i op n (answer_of (taken_as a)) ≡ told_by i op n (answer_of a)
told_taken i op n (Refused x) = refl
told_taken i op n (Begun t) = refl
told_taken i op n (Value v) = refl
told_taken i op n Waits = refl
told_taken i op n Written = refl
told_taken i op n (Committed x) = refl
told_taken i op n (Aborted c) = refl
told_taken i op n Purged = refl
told_taken i op n Nothing = refl

ended_same : (e : ℕ → Event) (s : List ℕ) → ended e s s ≡ []
ended_same e s = by_b (open_b s) (λ o. rw o) (λ o. rw o)

-- THE CALL THAT IT IS

-- there is no station 8: nothing is called
abbrev pub no_call : CallH
no_call = OwnerH 8 BeginH [] [] []

-- whether a write is a command that number 1 lets pass
abbrev pub is_live : ℕ → ℕ → List ℕ → List ℕ → List ℕ → List ℕ → List ℕ → Bool
is_live k b r s o c t = ready_w r s (lent told_length t o) (lent told_length t c) && eqb k command_from && is_command b

abbrev pub host_call : CallW → WorldW → CallH
host_call (HostW c) w = c
host_call (ReadW i k b) w = no_call
host_call (InterruptW i b) w = no_call
host_call (WriteW i k b o c t) w =
    let r = w.registers i in
    cond (is_live k b r (w.hosts.line.station i) o c t) (OwnerH i (op_of b r) o c t) no_call
host_call (StepW i o c t) w =
    cond (ready_w (w.registers i) (w.hosts.line.station i) (lent told_length t o) (lent told_length t c)) (StationH i o c t) no_call

none_acts : (h : WorldH) → act_h no_call h ≡ h
unfolding line_h
none_acts h = ap (λ (es : List Event). record_of es) (append-nil h.history)
  where
    record_of : List Event → WorldH
    record_of es = record { line = h.line; history = es }

-- A WRITE THAT IS NO COMMAND

module _ (i k b : ℕ) (o c t r : List ℕ) (w : WorldB) where
  abbrev s : List ℕ
  s = w.station i

  abbrev y : Outcome
  y = written k b r s (lent told_length t o) (lent told_length t c)

  -- nothing is said, and the state stays
  record Still (z : Outcome) : Type 0 where
    state_stays : z.state ≡ s
    none_sent : sent_by z ≡ []
    none_told : (v : WorldB) → tell_b i (operation (op_of b r)) (answer_of z.said.answer) v ≡ v
    none_happened : told_by i (operation (op_of b r)) (w.number i) (answer_of z.said.answer) ≡ []

  quiet : (u : List ℕ) → Still (stays u s (lent told_length t o) (lent told_length t c)).outcome
  unfolding messages_in tell_b
  quiet u = record { state_stays = refl; none_sent = refl; none_told = λ v. refl; none_happened = refl }

  turned : (n : ℕ) → Still (refused n r s (lent told_length t o) (lent told_length t c)).outcome
  unfolding messages_in tell_b
  turned n = record { state_stays = refl; none_sent = refl; none_told = λ v. refl; none_happened = refl }

  still : is_live k b r s o c t ≡ false → Still y
  still d =
      by_write k b r s (lent told_length t o) (lent told_length t c) (λ a. Still a.outcome) (λ e. turned 1) (turned 16) (λ e. quiet (stored_of k b r)) (λ e. quiet (set r command_from b))
      (λ e g h. let live : is_live k b r s o c t ≡ true = rw (e, g, h) in absurd (false≢true (sym d ∙ live)))

  writes_none : is_live k b r s o c t ≡ false → writes_w i k b o c t r w ≡ w
  unfolding writes_w
  writes_none d =
      let f = write_found k b r s o c t in
      let q = still d in
      rw (f.answer, carry_up_same i _ y w f) (q.none_told (carry_up_b i y w) ∙ carry_none i y w q.state_stays q.none_sent)

  events_none : is_live k b r s o c t ≡ false → write_events i k b o c t r w ≡ []
  events_none d =
      let f = write_found k b r s o c t in
      let q = still d in
      rw (f.answer, f.state, q.none_happened, q.state_stays) (ended_same (EndedByOwner i) s)

  -- A COMMAND
  abbrev x : Outcome
  x = perform_b (operation (op_of b r)) s (lent told_length t o) (lent told_length t c)

  live_at : ready_w r s (lent told_length t o) (lent told_length t c) ≡ true → eqb k command_from ≡ true → is_command b ≡ true → (P : Accessed → Type 0)
      → P (commanded (set r command_from b) (performed b (set r command_from b) s (lent told_length t o) (lent told_length t c))) → P (write_of k b r s (lent told_length t o) (lent told_length t c))
  unfolding write_of command_of
  live_at e g h P z = rw (e, eqb_yes k command_from g, h) z

  live_is : is_live k b r s o c t ≡ true → y ≡ outcome x.state x.messages x.commit (taken_said x.said)
  live_is d =
      let e : ready_w r s (lent told_length t o) (lent told_length t c) ≡ true = and_l (ready_w r s (lent told_length t o) (lent told_length t c)) (eqb k command_from) (and_l (ready_w r s (lent told_length t o) (lent told_length t c) && eqb k command_from) (is_command b) d) in
      let g : eqb k command_from ≡ true = and_r (ready_w r s (lent told_length t o) (lent told_length t c)) (eqb k command_from) (and_l (ready_w r s (lent told_length t o) (lent told_length t c) && eqb k command_from) (is_command b) d) in
      let h : is_command b ≡ true = and_r (ready_w r s (lent told_length t o) (lent told_length t c) && eqb k command_from) (is_command b) d in
      live_at e g h (λ a. a.outcome ≡ outcome x.state x.messages x.commit (taken_said x.said))
      (ap (λ (z : Outcome). outcome z.state z.messages z.commit (taken_said z.said)) (performed_own b r s (lent told_length t o) (lent told_length t c)))

  writes_live : is_live k b r s o c t ≡ true → writes_w i k b o c t r w ≡ Hosts.owner_acts_h i (op_of b r) o c t w
  unfolding writes_w owner_acts_b carry_up_b
  writes_live d =
      let f = write_found k b r s o c t in
      rw (f.answer, carry_up_same i _ y w f, live_is d) (tell_taken i (operation (op_of b r)) x.said.answer _ ∙ sym (rw (no_set b r) at (owner_same i (op_of b r) o c t w)))

  events_live : is_live k b r s o c t ≡ true → write_events i k b o c t r w ≡ owner_events i (op_of b r) o c t w
  events_live d =
      let f = write_found k b r s o c t in
      let g : Found (owner_hosted (op_of b r) s o c t) x = rw (no_set b r) at (owner_found (op_of b r) s o c t) in
      rw (f.answer, f.state, live_is d, g.answer, g.state, told_taken i (operation (op_of b r)) (w.number i) x.said.answer)

-- A DELIVERY

module _ (i : ℕ) (o c t r : List ℕ) (w : WorldB) where
  abbrev z : List ℕ
  z = w.station i

  found_own : (m : List ℕ) → ready_w r z (lent told_length t o) (lent told_length t c) ≡ true → Found (step_hosted m r z o c t).hosted (step_b m z (lent told_length t o) (lent told_length t c))
  found_own m e = subst (Found (step_hosted m r z o c t).hosted) (deliver_own m r z (lent told_length t o) (lent told_length t c) e) (deliver_found m r z o c t)

  takes_live : (ms : List (List ℕ)) → ready_w r z (lent told_length t o) (lent told_length t c) ≡ true → takes_w i ms o c t r w ≡ Hosts.station_takes_h i ms o c t w
  unfolding takes_w station_takes_b
  takes_live [] e = sym (station_same i [] o c t w)
  takes_live (m ∷ l) e =
      let f = found_own m e in
      by_b (is_refused (answer_of (step_b m z (lent told_length t o) (lent told_length t c)).said.answer))
      (λ g. rw (f.answer, f.accepted, g, carry_up_same i _ _ w f) (sym (station_same i (m ∷ l) o c t w ∙ rw g)))
      (λ g. rw (f.answer, f.accepted, g, carry_up_same i _ _ (rest_down i l w) f) (sym (station_same i (m ∷ l) o c t w ∙ rw g)))

  takes_events : (ms : List (List ℕ)) → ready_w r z (lent told_length t o) (lent told_length t c) ≡ true → step_events i ms o c t r w ≡ station_events i ms o c t w
  takes_events [] e = refl
  takes_events (m ∷ l) e = rw ((found_own m e).state, (step_found m z o c t).state)

  -- number 1
  found_1 : (m : List ℕ) → ready_w r z (lent told_length t o) (lent told_length t c) ≡ false → Found (step_hosted m r z o c t).hosted (refused 1 r z (lent told_length t o) (lent told_length t c)).outcome
  found_1 m e =
      subst (Found (step_hosted m r z o c t).hosted)
      (by_step m r z (lent told_length t o) (lent told_length t c) (λ a. a.outcome ≡ (refused 1 r z (lent told_length t o) (lent told_length t c)).outcome) (λ f. refl) (λ f. absurd (false≢true (sym e ∙ f))))
      (deliver_found m r z o c t)

  takes_none : (ms : List (List ℕ)) → ready_w r z (lent told_length t o) (lent told_length t c) ≡ false → takes_w i ms o c t r w ≡ w
  unfolding takes_w tell_b messages_in
  takes_none [] e = refl
  takes_none (m ∷ l) e =
      let f = found_1 m e in
      rw (f.answer, f.accepted) (carry_up_same i _ _ w f ∙ carry_none i _ w refl refl)

  none_events : (ms : List (List ℕ)) → ready_w r z (lent told_length t o) (lent told_length t c) ≡ false → step_events i ms o c t r w ≡ []
  none_events [] e = refl
  none_events (m ∷ l) e = rw (found_1 m e).state (ended_same (λ n. Ended i n (kind_of m)) z)

-- EVERY CALL

-- a call of no station of the line
off_acts : (i : ℕ) (op : OpH) (o c t : List ℕ) (h : WorldH) → ltb i 8 ≡ false → act_h (OwnerH i op o c t) h ≡ h
unfolding line_h
off_acts i op o c t h e = rw (e, append-nil h.history)

off_steps : (i : ℕ) (o c t : List ℕ) (h : WorldH) → ltb i 8 ≡ false → act_h (StationH i o c t) h ≡ h
unfolding line_h
off_steps i o c t h e = rw (e, append-nil h.history)

-- a call of one
on_acts : (i : ℕ) (op : OpH) (o c t : List ℕ) (h : WorldH) → ltb i 8 ≡ true
    → act_h (OwnerH i op o c t) h ≡ record { line = Hosts.owner_acts_h i op o c t h.line; history = h.history ++ owner_events i op o c t h.line }
unfolding line_h
on_acts i op o c t h e = rw e

on_steps : (i : ℕ) (o c t : List ℕ) (h : WorldH) → ltb i 8 ≡ true
    → act_h (StationH i o c t) h ≡ record { line = Hosts.station_takes_h i (h.line.down i) o c t h.line; history = h.history ++ station_events i (h.line.down i) o c t h.line }
unfolding line_h
on_steps i o c t h e = rw e

either_call : (b : Bool) (x : CallH) (h : WorldH) → act_h x h ≡ h → act_h (cond b x no_call) h ≡ h
either_call true x h e = e
either_call false x h e = none_acts h

write_same : (i k b : ℕ) (o c t : List ℕ) (w : WorldW) → (cond (ltb i 8) (write_w i k b o c t w) w).hosts ≡ act_h (host_call (WriteW i k b o c t) w) w.hosts
unfolding write_w line_h
write_same i k b o c t w =
    let h = w.hosts in
    let l = h.line in
    let r = w.registers i in
    by_b (ltb i 8)
    (λ e.
    by_b (is_live k b r (l.station i) o c t)
    (λ d. rw (e, d, writes_live i k b o c t r l d, events_live i k b o c t r l d) (sym (on_acts i (op_of b r) o c t h e)))
    (λ d. rw (e, d, writes_none i k b o c t r l d, events_none i k b o c t r l d)))
    (λ e. rw e (sym (either_call (is_live k b r (l.station i) o c t) (OwnerH i (op_of b r) o c t) h (off_acts i (op_of b r) o c t h e))))

step_same : (i : ℕ) (o c t : List ℕ) (w : WorldW) → (cond (ltb i 8) (step_w i o c t w) w).hosts ≡ act_h (host_call (StepW i o c t) w) w.hosts
unfolding step_w line_h
step_same i o c t w =
    let h = w.hosts in
    let l = h.line in
    let r = w.registers i in
    by_b (ltb i 8)
    (λ e.
    by_b (ready_w r (l.station i) (lent told_length t o) (lent told_length t c))
    (λ d. rw (e, d, takes_live i o c t r l (l.down i) d, takes_events i o c t r l (l.down i) d) (sym (on_steps i o c t h e)))
    (λ d. rw (e, d, takes_none i o c t r l (l.down i) d, none_events i o c t r l (l.down i) d)))
    (λ e. rw e (sym (either_call (ready_w r (l.station i) (lent told_length t o) (lent told_length t c)) (StationH i o c t) h (off_steps i o c t h e))))

pub act_same : (c : CallW) (w : WorldW) → (act_w c w).hosts ≡ act_h (host_call c w) w.hosts
unfolding act_w
act_same (HostW c) w = refl
act_same (ReadW i k b) w = sym (none_acts w.hosts)
act_same (InterruptW i b) w = sym (none_acts w.hosts)
act_same (WriteW i k b o c t) w = write_same i k b o c t w
act_same (StepW i o c t) w = step_same i o c t w
