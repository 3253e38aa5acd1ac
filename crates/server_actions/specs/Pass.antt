-- The pass: one waiter's turn, the list in order, cycles, until nothing changes.
use Rattle.std.specs.Prelude.{ℕ, zero, suc, ◌+◌, ◌-◌, ◌*◌, ◌/◌, List, [], ◌∷◌, Bool, true, false, not, cond, length, eqb}
use Rattle.station_state.specs.Layout.{has_bit}
use Rattle.server_state.specs.Layout.{arrival_of, latest_of, asked_of, whole_of, written_set, want_of, request_of, called_of_lem, pend_of}
use Rattle.server_tests.specs.Tests.{unexpected_b, fault_b, blocked_b, out_of_time_b, due_b, shut_out_b, concerned_set, hindered_b, unavailable_b}
use Rattle.server_order.specs.Order.{first_to_lem, victim_b}
use Rattle.server_changes.specs.Changes.{leave_b, asked_b, called_b, lock_page_b, lock_to}
use Rattle.server_actions.specs.Actions.{Serving, serving, on_state, send, deescalate_b, callback_b, send_page_b, abort_b, install_b, accept_b}

-- "send 19, once for each 18, pages rising"; k, only to keeping holders
unfoldable pub ask_b : Bool → ℕ → Serving → ℕ → Serving
ask_b k i x p =
    let s = x.state in
    cond (due_b k s i p) (send (on_state x (asked_b p s)) (deescalate_b (whole_of s p - 1) p s)) x

unfoldable pub ask_to : Bool → ℕ → Serving → ℕ → Serving
ask_to k i x zero = x
ask_to k i x (suc p) = ask_b k i (ask_to k i x p) p

-- "Read: send 16."
unfoldable pub serve_read_b : ℕ → Serving → Serving
serve_read_b i x =
    let s = x.state in
    send_page_b 16 i (request_of s i) (unavailable_b s i (request_of s i)) (on_state x (leave_b i s))

-- "Write: once, send 20 .. to each other locking station listed for a page of theirs, stations rising": to the stations of d below n
unfoldable pub call_one_b : ℕ → ℕ → List ℕ → Serving → ℕ → Serving
call_one_b i d s x j = cond (has_bit d j) (send x (callback_b j i s)) x

unfoldable pub call_to : ℕ → ℕ → List ℕ → Serving → ℕ → Serving
call_to i d s x zero = x
call_to i d s x (suc j) = call_one_b i d s (call_to i d s x j) j

unfoldable pub call_b : ℕ → Serving → Serving
call_b i x =
    let s = x.state in
    let d = concerned_set s i in
    on_state (call_to i d s x 8) (called_b i d s)

unfoldable pub call_once_b : ℕ → Serving → Serving
call_once_b i x = cond (eqb (called_of_lem x.state i) 0) (call_b i x) x

-- "The whole page is locked (18) .. ; else the object (17)", document 02, wish 9: all objects of the request in one step
unfoldable pub grant_page_b : ℕ → Serving → Serving
grant_page_b i x =
    let s = x.state in
    let a = request_of s i in
    send_page_b 18 i a (unavailable_b s i a) (on_state x (lock_page_b i (a / 8) (leave_b i s)))

unfoldable pub grant_object_b : ℕ → Serving → Serving
grant_object_b i x =
    let s = x.state in
    let a = request_of s i in
    send_page_b 17 i a (unavailable_b s i a) (on_state x (lock_to i (a / 8) (written_set s i (a / 8)) (leave_b i s) 8))

unfoldable pub grant_b : ℕ → Serving → Serving
grant_b i x = cond (hindered_b x.state i (request_of x.state i / 8)) (grant_object_b i x) (grant_page_b i x)

-- "When each has answered 7, lock or install."
unfoldable pub after_calls_b : ℕ → ℕ → Serving → Serving
after_calls_b w i x = cond (eqb (pend_of x.state i) 0) (cond (eqb w 2) (grant_b i x) (install_b i x)) x

unfoldable pub proceed_b : ℕ → ℕ → Serving → Serving
proceed_b w i x = cond (eqb w 1) (serve_read_b i x) (after_calls_b w i (call_once_b i x))

-- the bullets are gates, looked at anew at every visit
unfoldable pub gates_b : ℕ → ℕ → Serving → Serving
gates_b w i x =
    cond (blocked_b x.state i) x (cond (shut_out_b x.state i) (ask_to false i x 32) (proceed_b w i x))

-- a commit that cannot be installed any more is aborted
unfoldable pub judge_b : ℕ → Serving → Serving
judge_b i x = cond (eqb (fault_b x.state i) 0) (gates_b 3 i x) (abort_b i (fault_b x.state i) x)

-- document 02, wish 10: "The server sends it 19 as soon as another's waiting request or commit wants the page, even one blocked or given
-- cause 3 (19 goes first), not 2 or 4"
unfoldable pub ask_keepers_b : ℕ → Serving → Serving
ask_keepers_b i x = ask_to true i x 32

unfoldable pub visit_b : ℕ → Serving → Serving
visit_b i x =
    let w = want_of x.state i in
    cond (eqb w 0) x
    (cond (eqb w 3) (judge_b i (cond (out_of_time_b x.state i) x (ask_keepers_b i x))) (gates_b w i (ask_keepers_b i x)))

-- "the list is passed in order": the n stations that wait and arrived from b on
unfoldable pub order_b : List ℕ → ℕ → ℕ → List ℕ
order_b s zero b = []
order_b s (suc n) b = let i = first_to_lem s b 8 in cond (eqb i 8) [] (i ∷ order_b s n (arrival_of s i + 1))

unfoldable pub pass_b : List ℕ → Serving → Serving
pass_b [] x = x
pass_b (i ∷ l) x = pass_b l (visit_b i x)

-- "repeated until nothing changes": whatever changes sends a message
abbrev pub moved_b : Serving → Serving → Bool
moved_b x y = not (eqb (length x.sent) (length y.sent))

-- "When the pass rests and edges form a cycle, the youngest in any cycle gets 22, cause 1, .. and the pass runs again."
unfoldable pub settle_b : ℕ → Serving → Serving
settle_b zero x = x
settle_b (suc n) x =
    let y = pass_b (order_b x.state 8 0) x in
    let v = victim_b y.state in
    cond (moved_b x y) (settle_b n y) (cond (eqb v 8) y (settle_b n (abort_b v 1 y)))

unfoldable pub server_step_b : List ℕ → List ℕ → Serving
server_step_b m s = settle_b 64 (accept_b m (serving s [] []))
