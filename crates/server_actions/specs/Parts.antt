-- Each action of the server adds to what was sent and archived, and depends on the state alone.
use Rattle.std.specs.Prelude.{ℕ, ◌-◌, ◌/◌, ◌^◌, ◌≡◌, refl, Bool, true, false, cond, List, [], ◌∷◌, eqb}
use Rattle.sets.specs.Base.{snoc}
use Rattle.message.specs.Layout.{station_of, page_of, requester_of, transaction_of, pages_of, set_of}
use Rattle.message.specs.Layout as Message
use Rattle.station_state.specs.Layout.{has_bit}
use Rattle.server_state.specs.Layout.{last_of, latest_of, work_number, whole_of, written_set, want_of, request_of, called_of_lem, pend_of, locking_b}
use Rattle.server_tests.specs.Tests.{open_call_b, open_ask_b, fault_b, blocked_b, shut_out_b, out_of_time_b, due_b, concerned_set, hindered_b, unavailable_b, written_pages_b, informed_b}
use Rattle.server_changes.specs.Changes.{keeps_age_b, notice_b, finish_b, leave_b, join_read_b, join_write_b, join_commit_b, unpack_b, list_b, unlist_b, mark_busy_b, answered_b, heed_b, asked_b, called_b, lock_page_b, lock_to, write_b}
use Rattle.server_actions.specs.Actions.{Serving, serving, on_state, send, page_b, deescalate_b, callback_b, committed_b, aborted_b, invalidate_b, record_b, send_page_b, abort_b, inform_b, inform_to, install_b, commit_now_b, address_of, noticed_b, on_read_b, on_write_b, on_commit_b, on_abort_b, on_purge_b, on_busy_b, on_done_b, on_written_set_b, accept_b, written_sets}
use Rattle.server_actions.specs.Pass.{ask_b, ask_to, serve_read_b, call_one_b, call_to, call_b, call_once_b, grant_page_b, grant_object_b, grant_b, after_calls_b, proceed_b, gates_b, judge_b, ask_keepers_b, visit_b, pass_b}
use Rattle.server_actions.specs.Posting.{Acts, acts_not, acts_state, acts_send, acts_archive, acts_cond, acts_with, acts_then, Turns, acts_turns}

-- ACTIONS

pub acts_page : (kind i a u : ℕ) → Acts (send_page_b kind i a u)
unfolding send_page_b
acts_page kind i a u =
    acts_with (λ s x. send (on_state x (list_b i (a / 8) x.state)) (page_b kind i a u s)) (λ s. acts_then (acts_state (list_b i (a / 8))) (acts_send (page_b kind i a u s)))

pub acts_abort : (i c : ℕ) → Acts (abort_b i c)
unfolding abort_b
acts_abort i c =
    acts_then (acts_state (λ s. finish_b i (keeps_age_b c) (leave_b i s))) (acts_with (λ s x. send x (aborted_b i (latest_of s i) c)) (λ s. acts_send (aborted_b i (latest_of s i) c)))

pub acts_inform : (i d : ℕ) (y : List ℕ) (j : ℕ) → Acts (λ x. inform_b i d y x j)
unfolding inform_b
acts_inform i d y j = acts_cond (λ s. informed_b s i d j) (acts_send (invalidate_b j y)) acts_not

pub turns_informs : (i d : ℕ) (y : List ℕ) → Turns (inform_to i d y) (inform_b i d y)
unfolding inform_to
turns_informs i d y = record { none = λ x. refl; next = λ x n. refl; acts = acts_inform i d y }

-- an installation as far as its 21
unfoldable pub installed_b : ℕ → Serving → Serving
installed_b i x =
    let s = write_b i x.state in
    let t = finish_b i 0 (leave_b i s) in
    serving t (snoc x.sent (committed_b i (work_number x.state i) (last_of t))) (snoc x.recs (record_b i s))

pub acts_installed : (i : ℕ) → Acts (installed_b i)
unfolding installed_b
acts_installed i =
    acts_with
    (λ s x.
    let y = serving (finish_b i 0 (leave_b i (write_b i s))) x.sent (snoc x.recs (record_b i (write_b i s))) in
    send y (committed_b i (work_number s i) (last_of (finish_b i 0 (leave_b i (write_b i s))))))
    (λ s.
    acts_then (acts_archive (record_b i (write_b i s)))
    (acts_then (acts_state (λ t. finish_b i 0 (leave_b i (write_b i s)))) (acts_send (committed_b i (work_number s i) (last_of (finish_b i 0 (leave_b i (write_b i s))))))))

pub install_is : (i : ℕ) (x : Serving) → install_b i x ≡ inform_to i (written_pages_b x.state i) (written_sets i x.state) (installed_b i x) 8
unfolding install_b installed_b
install_is i x = refl

pub acts_install : (i : ℕ) → Acts (install_b i)
unfolding install_b installed_b
acts_install i =
    acts_with (λ s x. inform_to i (written_pages_b s i) (written_sets i s) (installed_b i x) 8)
    (λ s. acts_then (acts_installed i) (acts_turns (turns_informs i (written_pages_b s i) (written_sets i s)) 8))

-- THE MESSAGE'S OWN EFFECT

pub acts_commit_now : (i : ℕ) (m : List ℕ) → Acts (commit_now_b i m)
unfolding commit_now_b
acts_commit_now i m =
    acts_cond (λ s. eqb (last_of s) 4294967295) (acts_abort i 4) (acts_then (acts_state (λ s. unpack_b i m (leave_b i s))) (acts_install i))

pub acts_noticed : (m : List ℕ) → Acts (noticed_b m)
unfolding noticed_b
acts_noticed m = acts_state (notice_b (station_of m) (transaction_of m))

pub acts_read : (m : List ℕ) → Acts (on_read_b m)
unfolding on_read_b
acts_read m =
    acts_cond (λ s. locking_b s (station_of m)) (acts_then (acts_noticed m) (acts_state (join_read_b (station_of m) (address_of m))))
    (acts_then (acts_noticed m) (acts_page 16 (station_of m) (address_of m) 0))

pub acts_write : (m : List ℕ) → Acts (on_write_b m)
unfolding on_write_b
acts_write m = acts_then (acts_noticed m) (acts_state (join_write_b (station_of m) (page_of m) (set_of m 0)))

pub acts_commit : (m : List ℕ) → Acts (on_commit_b m)
unfolding on_commit_b
acts_commit m =
    acts_cond (λ s. locking_b s (station_of m)) (acts_then (acts_noticed m) (acts_commit_now (station_of m) m))
    (acts_then (acts_noticed m) (acts_state (join_commit_b (station_of m) m)))

acts_on_abort : (m : List ℕ) → Acts (on_abort_b m)
unfolding on_abort_b
acts_on_abort m = acts_then (acts_noticed m) (acts_state (finish_b (station_of m) 0))

acts_purge : (m : List ℕ) → Acts (on_purge_b m)
unfolding on_purge_b
acts_purge m = acts_state (unlist_b (station_of m) (2 ^ page_of m))

acts_busy : (m : List ℕ) → Acts (on_busy_b m)
unfolding on_busy_b
acts_busy m =
    acts_cond (λ s. open_call_b s (station_of m) (requester_of m) (transaction_of m)) (acts_state (mark_busy_b (station_of m) (requester_of m))) acts_not

acts_done : (m : List ℕ) → Acts (on_done_b m)
unfolding on_done_b
acts_done m =
    acts_cond (λ s. open_call_b s (station_of m) (requester_of m) (transaction_of m))
    (acts_state (λ s. answered_b (station_of m) (requester_of m) (unlist_b (station_of m) (pages_of m) s)))
    (acts_state (unlist_b (station_of m) (pages_of m)))

acts_written_set : (m : List ℕ) → Acts (on_written_set_b m)
unfolding on_written_set_b
acts_written_set m =
    acts_cond (λ s. open_ask_b s (station_of m) (page_of m) (transaction_of m)) (acts_state (heed_b (station_of m) (page_of m) (transaction_of m) (set_of m 0))) acts_not

-- a case of what is not in the state
acts_if : (b : Bool) {f g : Serving → Serving} → Acts f → Acts g → Acts (λ x. cond b (f x) (g x))
acts_if b = acts_cond (λ s. b)

pub acts_accept : (m : List ℕ) → Acts (accept_b m)
unfolding accept_b
acts_accept m =
    let k = Message.kind_of m in
    acts_if (eqb k 1) (acts_read m)
    (acts_if (eqb k 2) (acts_write m)
    (acts_if (eqb k 3) (acts_commit m)
    (acts_if (eqb k 4) (acts_on_abort m)
    (acts_if (eqb k 5) (acts_purge m)
    (acts_if (eqb k 6) (acts_busy m)
    (acts_if (eqb k 7) (acts_done m) (acts_written_set m)))))))

-- THE PASS

pub acts_ask : (k : Bool) (i p : ℕ) → Acts (λ x. ask_b k i x p)
unfolding ask_b
acts_ask k i p =
    acts_with
    (λ s x. cond (due_b k x.state i p) (send (on_state x (asked_b p x.state)) (deescalate_b (whole_of s p - 1) p s)) x)
    (λ s. acts_cond (λ t. due_b k t i p) (acts_then (acts_state (asked_b p)) (acts_send (deescalate_b (whole_of s p - 1) p s))) acts_not)

pub turns_asks : (k : Bool) (i : ℕ) → Turns (ask_to k i) (ask_b k i)
unfolding ask_to
turns_asks k i = record { none = λ x. refl; next = λ x n. refl; acts = acts_ask k i }

pub acts_serve_read : (i : ℕ) → Acts (serve_read_b i)
unfolding serve_read_b
acts_serve_read i =
    acts_with (λ s x. send_page_b 16 i (request_of s i) (unavailable_b s i (request_of s i)) (on_state x (leave_b i x.state)))
    (λ s. acts_then (acts_state (leave_b i)) (acts_page 16 i (request_of s i) (unavailable_b s i (request_of s i))))

acts_call_one : (i d : ℕ) (s : List ℕ) (j : ℕ) → Acts (λ x. call_one_b i d s x j)
unfolding call_one_b
acts_call_one i d s j = acts_if (has_bit d j) (acts_send (callback_b j i s)) acts_not

pub turns_calls : (i d : ℕ) (s : List ℕ) → Turns (call_to i d s) (call_one_b i d s)
unfolding call_to
turns_calls i d s = record { none = λ x. refl; next = λ x n. refl; acts = acts_call_one i d s }

pub acts_call : (i : ℕ) → Acts (call_b i)
unfolding call_b
acts_call i =
    acts_with (λ s x. on_state (call_to i (concerned_set s i) s x 8) (called_b i (concerned_set s i) s))
    (λ s. acts_then (acts_turns (turns_calls i (concerned_set s i) s) 8) (acts_state (λ t. called_b i (concerned_set s i) s)))

pub acts_call_once : (i : ℕ) → Acts (call_once_b i)
unfolding call_once_b
acts_call_once i = acts_cond (λ s. eqb (called_of_lem s i) 0) (acts_call i) acts_not

acts_grant_page : (i : ℕ) → Acts (grant_page_b i)
unfolding grant_page_b
acts_grant_page i =
    acts_with (λ s x. send_page_b 18 i (request_of s i) (unavailable_b s i (request_of s i)) (on_state x (lock_page_b i (request_of s i / 8) (leave_b i x.state))))
    (λ s. acts_then (acts_state (λ t. lock_page_b i (request_of s i / 8) (leave_b i t))) (acts_page 18 i (request_of s i) (unavailable_b s i (request_of s i))))

acts_grant_object : (i : ℕ) → Acts (grant_object_b i)
unfolding grant_object_b
acts_grant_object i =
    acts_with (λ s x. send_page_b 17 i (request_of s i) (unavailable_b s i (request_of s i)) (on_state x (lock_to i (request_of s i / 8) (written_set s i (request_of s i / 8)) (leave_b i x.state) 8)))
    (λ s. acts_then (acts_state (λ t. lock_to i (request_of s i / 8) (written_set s i (request_of s i / 8)) (leave_b i t) 8)) (acts_page 17 i (request_of s i) (unavailable_b s i (request_of s i))))

pub acts_grant : (i : ℕ) → Acts (grant_b i)
unfolding grant_b
acts_grant i = acts_cond (λ s. hindered_b s i (request_of s i / 8)) (acts_grant_object i) (acts_grant_page i)

pub acts_after_calls : (w i : ℕ) → Acts (after_calls_b w i)
unfolding after_calls_b
acts_after_calls w i = acts_cond (λ s. eqb (pend_of s i) 0) (acts_if (eqb w 2) (acts_grant i) (acts_install i)) acts_not

pub acts_proceed : (w i : ℕ) → Acts (proceed_b w i)
unfolding proceed_b
acts_proceed w i = acts_if (eqb w 1) (acts_serve_read i) (acts_then (acts_call_once i) (acts_after_calls w i))

pub acts_gates : (w i : ℕ) → Acts (gates_b w i)
unfolding gates_b
acts_gates w i = acts_cond (λ s. blocked_b s i) acts_not (acts_cond (λ s. shut_out_b s i) (acts_turns (turns_asks false i) 32) (acts_proceed w i))

pub acts_judge : (i : ℕ) → Acts (judge_b i)
unfolding judge_b
acts_judge i =
    acts_with (λ s x. cond (eqb (fault_b s i) 0) (gates_b 3 i x) (abort_b i (fault_b s i) x)) (λ s. acts_if (eqb (fault_b s i) 0) (acts_gates 3 i) (acts_abort i (fault_b s i)))

pub acts_ask_keepers : (i : ℕ) → Acts (ask_keepers_b i)
unfolding ask_keepers_b
acts_ask_keepers i = acts_turns (turns_asks true i) 32

pub acts_visit : (i : ℕ) → Acts (visit_b i)
unfolding visit_b
acts_visit i =
    acts_with
    (λ s x.
    let w = want_of s i in
    cond (eqb w 0) x (cond (eqb w 3) (judge_b i (cond (out_of_time_b x.state i) x (ask_keepers_b i x))) (gates_b w i (ask_keepers_b i x))))
    (λ s.
    let w = want_of s i in
    acts_if (eqb w 0) acts_not
    (acts_if (eqb w 3) (acts_then (acts_cond (λ t. out_of_time_b t i) acts_not (acts_ask_keepers i)) (acts_judge i)) (acts_then (acts_ask_keepers i) (acts_gates w i))))

pub acts_pass : (l : List ℕ) → Acts (pass_b l)
unfolding pass_b
acts_pass [] = acts_not
acts_pass (i ∷ l) = acts_then (acts_visit i) (acts_pass l)
