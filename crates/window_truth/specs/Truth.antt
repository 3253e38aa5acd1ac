-- Demand 3 through windows: "a run through the window is a run of owner's calls". For every choice of kinds and every list of register accesses,
-- deliveries and calls of before, from a fresh line and windows that nobody has used, the archive is true; and after it every window of a
-- validating station passes number 1, and its interrupt is up exactly while flags and mask share a bit.
use Rattle.std.specs.Prelude.{ℕ, ◌<◌, ◌≡◌, refl, Bool, true, false, cond, List, [], ◌∷◌, length, get_or, ltb}
use Rattle.std.proofs.Math.Path.{ap}
use Rattle.std.proofs.Common.{◌∙◌}
use borrow.Author.Tests.{eq-eqb, lt-ltb}
use Rattle.sets.specs.Base.{any, upd}
use Rattle.sets.specs.Laws.{by_b, by_eq}
use Rattle.station_state.specs.Layout.{kind}
use Rattle.station_meaning.proofs.Tests.{kind_at}
use Rattle.server_state.specs.Valid.{kinds_ok}
use Rattle.host.specs.Host.{told_length}
use Rattle.line_host.specs.Line.{ArgumentsFit, CallH, OwnerH, StationH, FitsH, AllFitH, run_h}
use Rattle.line_host.specs.Same.{lent}
use Rattle.line_host.specs.Claim.{TrueH}
use Rattle.line_host.specs.Runs.{hosts_simulate}
use Rattle.line_host.specs.Truth.{truth_of_hosts}
use Rattle.window_state.specs.Layout.{registers}
use Rattle.window_state.specs.Registers.{valid, register_of, level, reading, read_of, interrupt_of}
use Rattle.window.specs.Window.{ready_w}
use Rattle.window_host.specs.Host.{window_of}
use Rattle.window_meaning.specs.Flags.{shared_at, interrupt_up}
use Rattle.window_meaning.specs.Changes.{Follows, follows_same}
use Rattle.window_meaning.specs.Shows.{wide_at}
use Rattle.window_meaning.specs.Keeps.{write_keeps, step_keeps, Fine, fine_stays, fresh_fine}
use Rattle.window_truth.specs.Line.{write_hosted, op_of, CallW, HostW, ReadW, InterruptW, WriteW, StepW, FitsW, AllFitW, WorldW, fresh_w, stepped_registers, write_w, step_w, act_w, run_w}
use Rattle.window_truth.specs.Same.{is_live, host_call, no_call, act_same}

-- A RUN IS A RUN OF THE STATION'S OWN CALLS

abbrev pub host_calls : List CallW → WorldW → List CallH
host_calls [] w = []
host_calls (c ∷ cs) w = host_call c w ∷ host_calls cs (act_w c w)

pub run_same : (cs : List CallW) (w : WorldW) → (run_w cs w).hosts ≡ run_h (host_calls cs w) w.hosts
unfolding run_w run_h
run_same [] w = refl
run_same (c ∷ cs) w = run_same cs (act_w c w) ∙ ap (run_h (host_calls cs (act_w c w))) (act_same c w)

-- THE REGISTERS OF A RUN

abbrev pub AllFine : WorldW → Type 0
AllFine w = (i : ℕ) → Fine (w.registers i)

short_follows : (b : Bool) {r t : List ℕ} → Follows r t → Follows r (cond b r t)
short_follows true f = follows_same _
short_follows false f = f

write_follows : (k b : ℕ) (r s o c t : List ℕ) → b < 256 → Follows r (write_hosted k b r s o c t).registers
unfolding window_of
write_follows k b r s o c t l = short_follows (ltb (length t) told_length) (write_keeps r s o c k b l)

step_follows : (ms : List (List ℕ)) (o c t r s : List ℕ) → Follows r (stepped_registers ms o c t r s)
unfolding window_of
step_follows [] o c t r s = follows_same r
step_follows (m ∷ l) o c t r s = short_follows (ltb (length t) told_length) (step_keeps r s o c m)

upd_fine : (f : ℕ → List ℕ) (i : ℕ) (x : List ℕ) → ((j : ℕ) → Fine (f j)) → Fine x → (j : ℕ) → Fine (upd f i x j)
upd_fine f i x h g j = by_eq j i (λ e. rw e g) (λ e. rw e (h j))

act_fine : (c : CallW) (w : WorldW) → FitsW c → AllFine w → AllFine (act_w c w)
unfolding act_w write_w step_w
act_fine (HostW c) w f h = h
act_fine (ReadW i k b) w f h = h
act_fine (InterruptW i b) w f h = h
act_fine (WriteW i k b o c t) w f h =
    by_b (ltb i 8) (λ e. rw e (upd_fine w.registers i _ h (fine_stays (write_follows k b (w.registers i) (w.hosts.line.station i) o c t f) (h i)))) (λ e. rw e h)
act_fine (StepW i o c t) w f h =
    by_b (ltb i 8) (λ e. rw e (upd_fine w.registers i _ h (fine_stays (step_follows (w.hosts.line.down i) o c t (w.registers i) (w.hosts.line.station i)) (h i)))) (λ e. rw e h)

pub run_fine : (cs : List CallW) (w : WorldW) → AllFitW cs → AllFine w → AllFine (run_w cs w)
unfolding run_w
run_fine [] w f h = h
run_fine (c ∷ cs) w f h = run_fine cs (act_w c w) f.1 (act_fine c w f.0 h)

-- "a value of 64 bits": eight registers
op_fits : (b : ℕ) (r : List ℕ) → Fine r → ArgumentsFit (op_of b r)
op_fits b r h =
    by_eq b 1 (λ e. rw e tt)
    (λ e. by_eq b 2 (λ f. rw (e, f) tt) (λ f. by_eq b 3 (λ g. rw (e, f, g) (wide_at r h.all_bytes _)) (λ g. by_eq b 4 (λ k. rw (e, f, g, k) tt) (λ k. rw (e, f, g, k) tt))))

either_fits : (b : Bool) (x : CallH) → FitsH x → FitsH (cond b x no_call)
either_fits true x f = f
either_fits false x f = tt

call_fits : (c : CallW) (w : WorldW) → FitsW c → AllFine w → FitsH (host_call c w)
call_fits (HostW c) w f h = f
call_fits (ReadW i k b) w f h = tt
call_fits (InterruptW i b) w f h = tt
call_fits (WriteW i k b o c t) w f h = either_fits (is_live k b (w.registers i) (w.hosts.line.station i) o c t) (OwnerH i (op_of b (w.registers i)) o c t) (op_fits b (w.registers i) (h i))
call_fits (StepW i o c t) w f h = either_fits (ready_w (w.registers i) (w.hosts.line.station i) (lent told_length t o) (lent told_length t c)) (StationH i o c t) tt

calls_fit : (cs : List CallW) (w : WorldW) → AllFitW cs → AllFine w → AllFitH (host_calls cs w)
calls_fit [] w f h = tt
calls_fit (c ∷ cs) w f h = (call_fits c w f.0 h, calls_fit cs (act_w c w) f.1 (act_fine c w f.0 h))

-- THE THEOREM

module _ (kinds : List ℕ) (ok : kinds_ok kinds ≡ true) (cs : List CallW) (f : AllFitW cs) where
  abbrev after : WorldW
  after = run_w cs (fresh_w kinds)

  abbrev fresh_all : AllFine (fresh_w kinds)
  fresh_all i = fresh_fine

  -- demand 3
  pub window_true : TrueH kinds after.hosts
  window_true =
      rw (run_same cs (fresh_w kinds)) (truth_of_hosts kinds ok (host_calls cs (fresh_w kinds)) (calls_fit cs (fresh_w kinds) f fresh_all))

  module _ (i : ℕ) (l : i < 8) (v : get_or kinds i 0 ≡ 1) where
    abbrev r : List ℕ
    r = after.registers i

    abbrev s : List ℕ
    s = after.hosts.line.station i

    -- number 1 lets every window of a validating station pass
    pub window_of_run : valid r s ≡ true
    unfolding valid
    window_of_run =
        let h = hosts_simulate kinds ok (host_calls cs (fresh_w kinds)) (calls_fit cs (fresh_w kinds) f fresh_all) in
        let st = h.line.stations i l in
        let there : s ≡ (run_h (host_calls cs (fresh_w kinds)) (fresh_w kinds).hosts).line.station i = ap (λ z. z.line.station i) (run_same cs (fresh_w kinds)) in
        let right : kind s ≡ 1 = ap kind there ∙ kind_at st.is ∙ st.kind_is ∙ v in
        rw (eq-eqb (kind s) 1 right, (run_fine cs (fresh_w kinds) f fresh_all i).ok, there, st.valid)

    -- "The interrupt is up exactly while flags and the mask in register 17 share a bit."
    pub interrupt_of_run : (b : ℕ) → interrupt_of r s b ≡ reading (level (any 8 (shared_at r s))) 0
    interrupt_of_run b = interrupt_up r s b window_of_run

    -- every register can be read
    pub read_of_run : (k b : ℕ) → k < registers → read_of k r s b ≡ reading (register_of r s k) 0
    unfolding read_of
    read_of_run k b q = rw (window_of_run, lt-ltb k registers q)
