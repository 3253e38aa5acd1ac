-- A turn that sends nothing changes nothing: whatever changes sends a message.
use Rattle.std.specs.Prelude.{ℕ, zero, suc, ◌+◌, ◌-◌, ◌/◌, ◌≤◌, ◌<◌, ◌≡◌, refl, Bool, true, List, set}
use Rattle.std.proofs.Common.{sym, ◌∙◌, arith, length-append, length-set, get_or-set_same}
use Rattle.std.proofs.Math.Bool.{false}
use Rattle.std.proofs.Math.ListN.{length}
use Rattle.std.proofs.Math.Dec.{eqb}
use Rattle.sets.specs.Laws.{by_b, by_eq}
use Rattle.sets.proofs.Laws.{eqb_yes, eqb_no, any_some}
use Rattle.cells.specs.Bits.{tb}
use Rattle.cells.proofs.Loops.{mask_lt}
use Rattle.cells.proofs.Pages.{any_byte}
use Rattle.station_state.specs.Layout.{has_bit}
use Rattle.server_state.specs.Layout.{server_length, called_from, pend_from, whole_of, written_set, pend_of, called_of_lem, want_of, request_of}
use Rattle.server_tests.specs.Tests.{fault_b, blocked_b, shut_out_b, out_of_time_b, due_b, concerned_b, concerned_set, hindered_b, unavailable_b, written_pages_b}
use Rattle.server_tests.specs.Blockers.{bit_is}
use Rattle.server_changes.specs.Changes.{leave_b, asked_b, called_b, lock_page_b, lock_to}
use Rattle.server_actions.specs.Actions.{Serving, on_state, send, deescalate_b, written_sets, send_page_b, abort_b, install_b}
use Rattle.server_actions.specs.Pass.{ask_b, ask_to, serve_read_b, call_one_b, call_to, call_b, call_once_b, grant_page_b, grant_object_b, grant_b, after_calls_b, proceed_b, gates_b, judge_b, ask_keepers_b, visit_b}
use Rattle.server_actions.specs.Posting.{from, Acts, acts_turns}
use Rattle.server_actions.specs.Parts.{installed_b, turns_informs, install_is, acts_ask, turns_asks, turns_calls, acts_call_once, acts_gates, acts_judge}

-- what was sent stays sent
pub longer : {f : Serving → Serving} → Acts f → (x : Serving) → length x.sent ≤ length (f x).sent
longer {f} a x =
    let y = f (from x.state) in
    rw (a.grows x) (omega (arith, length-append x.sent y.sent))

abbrev Sends : Serving → Serving → Type 0
Sends x y = length x.sent + 1 ≤ length y.sent

-- y is x, if nothing was sent on the way
abbrev pub Rests : Serving → Serving → Type 0
Rests x y = length y.sent ≤ length x.sent → y ≡ x

sends : (x y : Serving) → Sends x y → Rests x y
sends x y h k = absurd (omega arith)

abort_sends : (i c : ℕ) (x : Serving) → Sends x (abort_b i c x)
unfolding abort_b
abort_sends i c x = simp length-append (omega arith)

page_sends : (kind i a u : ℕ) (x : Serving) → Sends x (send_page_b kind i a u x)
unfolding send_page_b
page_sends kind i a u x = simp length-append (omega arith)

read_sends : (i : ℕ) (x : Serving) → Sends x (serve_read_b i x)
unfolding serve_read_b
read_sends i x =
    let s = x.state in
    page_sends 16 i (request_of s i) (unavailable_b s i (request_of s i)) (on_state x (leave_b i s))

grant_sends : (i : ℕ) (x : Serving) → Sends x (grant_b i x)
unfolding grant_b grant_page_b grant_object_b
grant_sends i x =
    let s = x.state in
    let a = request_of s i in
    by_b (hindered_b s i (a / 8)) (λ e. rw e (page_sends 17 i a (unavailable_b s i a) (on_state x (lock_to i (a / 8) (written_set s i (a / 8)) (leave_b i s) 8))))
    (λ e. rw e (page_sends 18 i a (unavailable_b s i a) (on_state x (lock_page_b i (a / 8) (leave_b i s)))))

installed_sends : (i : ℕ) (x : Serving) → Sends x (installed_b i x)
unfolding installed_b
installed_sends i x = simp length-append (omega arith)

install_sends : (i : ℕ) (x : Serving) → Sends x (install_b i x)
install_sends i x =
    let d = written_pages_b x.state i in
    rw (install_is i x) (omega (arith, installed_sends i x, longer (acts_turns (turns_informs i d (written_sets i x.state)) 8) (installed_b i x)))

-- "send 20 .. to each": somebody is to be called, and somebody is
calls_some : (i d : ℕ) (s : List ℕ) (x : Serving) (n k : ℕ) → k < n → has_bit d k ≡ true → Sends x (call_to i d s x n)
unfolding call_to call_one_b
calls_some i d s x zero k l t = absurd (omega arith)
calls_some i d s x (suc n) k l t =
    let y = call_to i d s x n in
    let before : length x.sent ≤ length y.sent = longer (acts_turns (turns_calls i d s) n) x in
    by_eq k n (λ e. let z : has_bit d n ≡ true = rw (eqb_yes k n e) at t in rw z (simp length-append (omega (arith, before))))
    (λ e.
    let rest : Sends x y = calls_some i d s x n k (omega (arith, eqb_no k n e)) t in
    by_b (has_bit d n) (λ z. rw z (simp length-append (omega (arith, rest)))) (λ z. rw z rest))

call_pend : (i d : ℕ) (s : List ℕ) → length s ≡ server_length → i < 8 → pend_of (called_b i d s) i ≡ d
unfolding called_b
call_pend i d s h l = get_or-set_same (set s (called_from + i) 1) (pend_from + i) d 0 (omega (arith, h, length-set s (called_from + i) 1))

concerned_lt : (s : List ℕ) (i : ℕ) → concerned_set s i < 256
unfolding concerned_set
concerned_lt s i = mask_lt (concerned_b s i) 8

ask_rests : (k : Bool) (i p : ℕ) (x : Serving) → Rests x (ask_b k i x p)
unfolding ask_b
ask_rests k i p x =
    let s = x.state in
    by_b (due_b k s i p)
    (λ e. rw e (sends x (send (on_state x (asked_b p s)) (deescalate_b (whole_of s p - 1) p s)) (simp length-append (omega arith)))) (λ e. rw e (λ _. refl))

asks_rest : (k : Bool) (i n : ℕ) (x : Serving) → Rests x (ask_to k i x n)
unfolding ask_to
asks_rest k i zero x m = refl
asks_rest k i (suc n) x m =
    let y = ask_to k i x n in
    let after : length y.sent ≤ length (ask_b k i y n).sent = longer (acts_ask k i n) y in
    ask_rests k i n y (omega (arith, m, longer (acts_turns (turns_asks k i) n) x)) ∙ asks_rest k i n x (omega (arith, m, after))

keepers_rest : (i : ℕ) (x : Serving) → Rests x (ask_keepers_b i x)
unfolding ask_keepers_b
keepers_rest i x = asks_rest true i 32 x

-- one behind the other
rests_then : {g : Serving → Serving} → Acts g → (x y : Serving) → Rests x y → Rests x (g x) → Rests x (g y)
rests_then a x y r q m =
    let same : y ≡ x = r (omega (arith, m, longer a y)) in
    rw same (q (rw same at m))

module _ (i : ℕ) (x : Serving) (h : length x.state ≡ server_length) (l : i < 8) where
  -- a call that leaves somebody to answer was sent
  call_sends : eqb (pend_of (call_b i x).state i) 0 ≡ false → Sends x (call_b i x)
  unfolding call_b
  call_sends e =
      let d = concerned_set x.state i in
      let n : eqb d 0 ≡ false = rw (call_pend i d x.state h l) at e in
      let z = any_some 8 (tb d) (sym (any_byte d (concerned_lt x.state i)) ∙ rw n) in
      calls_some i d x.state x 8 z.0 z.1 (bit_is d z.0 ∙ z.2)

  once_rests : eqb (pend_of (call_once_b i x).state i) 0 ≡ false → Rests x (call_once_b i x)
  unfolding call_once_b
  once_rests e = by_eq (called_of_lem x.state i) 0 (λ t. rw t (sends x (call_b i x) (call_sends (rw t at e)))) (λ t. rw t (λ _. refl))

  proceed_rests : (w : ℕ) → Rests x (proceed_b w i x)
  unfolding proceed_b after_calls_b
  proceed_rests w =
      let y = call_once_b i x in
      let before : length x.sent ≤ length y.sent = longer (acts_call_once i) x in
      by_eq w 1 (λ e. rw e (sends x (serve_read_b i x) (read_sends i x)))
      (λ e. rw e
      (by_eq (pend_of y.state i) 0
      (λ t. rw t
      (by_eq w 2 (λ u. rw u (sends x (grant_b i y) (omega (arith, before, grant_sends i y)))) (λ u. rw u (sends x (install_b i y) (omega (arith, before, install_sends i y))))))
      (λ t. rw t (once_rests t))))

  gates_rest : (w : ℕ) → Rests x (gates_b w i x)
  unfolding gates_b
  gates_rest w =
      by_b (blocked_b x.state i) (λ e. rw e (λ _. refl))
      (λ e. rw e (by_b (shut_out_b x.state i) (λ t. rw t (asks_rest false i 32 x)) (λ t. rw t (proceed_rests w))))

  judge_rests : Rests x (judge_b i x)
  unfolding judge_b
  judge_rests =
      let f = fault_b x.state i in
      by_eq f 0 (λ u. rw u (gates_rest 3)) (λ u. rw u (sends x (abort_b i f x) (abort_sends i f x)))

  pub visit_rests : Rests x (visit_b i x)
  unfolding visit_b
  visit_rests =
      let w = want_of x.state i in
      by_eq w 0 (λ e. rw e (λ _. refl))
      (λ e. rw e
      (by_eq w 3
      (λ t. rw t
      (by_b (out_of_time_b x.state i) (λ u. rw u judge_rests)
      (λ u. rw u (rests_then (acts_judge i) x (ask_keepers_b i x) (keepers_rest i x) judge_rests))))
      (λ t. rw t (rests_then (acts_gates w i) x (ask_keepers_b i x) (keepers_rest i x) (gates_rest w)))))
