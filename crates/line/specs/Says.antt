-- What every message down a line says. A page message says nothing off its page: values and versions 0, nothing unavailable; so its bytes, which
-- have room for one page, say all of it. A callback goes to another than its requester.
use Rattle.std.specs.Prelude.{◌≡◌, refl, Bool, true, false, cond, List, [], ◌∷◌, ◌++◌, ◌≢◌, ℕ, zero, suc, eqb}
use Rattle.std.proofs.lemmas.Bool.{false≢true}
use Rattle.sets.specs.Base.{nowhere}
use Rattle.sets.specs.Laws.{by_b, by_eq}
use Rattle.sets.proofs.Laws.{eqb_yes}
use Rattle.line.specs.Messages.{page_of, last_number, locking, Work, Lock, NoLock, ObjectLock, WholeLock, Up, ReadRequest, WriteRequest, Commit, Abort, Purge, Busy, Done, WrittenSet, Down, Page, Deescalate, Callback, Committed, Aborted, Invalidate, Sent, To}
use Rattle.line.specs.Server.{Server, Serving, notice, finish, join, leave, send_page, unavailable, abort, informed, write, archive, inform, inform_from, install, serve_now, join_read, join_write, join_commit, commit_now, unlist, open_call, mark_busy, answered, open_ask, loosen, accept, ask, serve_read, concerned, calls_from, call, grant_page, grant_object, install_waiter, start, server_step, heed}
use Rattle.line.specs.Line.{sent_to}
use Rattle.line.specs.Pass.{Atomic, if_keeps, step_keeps, met_keeps}
use Rattle.line.specs.All.{All, all_append}

pub record OnPage (a : ℕ) (v : ℕ → ℕ) (u : ℕ → Bool) (x : ℕ → ℕ) : Type 0 where
  pub versions : (b : ℕ) → page_of b ≢ page_of a → v b ≡ 0
  pub unavailables : (b : ℕ) → page_of b ≢ page_of a → u b ≡ false
  pub values : (b : ℕ) → page_of b ≢ page_of a → x b ≡ 0

-- of a message to station j
abbrev pub Says : ℕ → Down → Type 0
Says j (Page l a t v u x) = OnPage a v u x
Says j (Deescalate p t) = Unit {0}
Says j (Callback r t set) = eqb j r ≡ false
Says j (Committed t n) = Unit {0}
Says j (Aborted t c) = Unit {0}
Says j (Invalidate d) = Unit {0}

abbrev pub SentSays : Sent → Type 0
SentSays (To j m) = Says j m

abbrev pub AllSay : Serving → Type 0
AllSay x = All SentSays x.sent

-- one message more
more : (l : List Sent) (m : Sent) → All SentSays l → SentSays m → All SentSays (l ++ (m ∷ []))
more l m h k = all_append SentSays l (m ∷ []) h (k, tt)

off_page : {A : Type 0} (a b : ℕ) (x y : A) → page_of b ≢ page_of a → cond (eqb (page_of b) (page_of a)) x y ≡ y
off_page a b x y n = by_eq (page_of b) (page_of a) (λ e. absurd (n (eqb_yes (page_of b) (page_of a) e))) (λ e. rw e refl)

page_says : (l : Lock) (i a : ℕ) (u : ℕ → Bool) (x : Serving) → ((b : ℕ) → page_of b ≢ page_of a → u b ≡ false) → AllSay x → AllSay (send_page l i a u x)
unfolding send_page
page_says l i a u x n h = more x.sent _ h (record { versions = λ b k. off_page a b (x.server.ver b) 0 k; unavailables = n; values = λ b k. off_page a b (x.server.val b) 0 k })

-- what `unavailable` gives
unavailable_off : (s : Server) (i a b : ℕ) → page_of b ≢ page_of a → unavailable s i a b ≡ false
unavailable_off s i a b n = by_eq (page_of b) (page_of a) (λ e. absurd (n (eqb_yes (page_of b) (page_of a) e))) (λ e. rw e refl)

abort_says : (i c : ℕ) (x : Serving) → AllSay x → AllSay (abort i c x)
unfolding abort finish leave
abort_says i c x h = more x.sent _ h tt

inform_says : (i : ℕ) (w : Work) (j : ℕ) (x : Serving) → AllSay x → AllSay (inform i w j x)
unfolding inform
inform_says i w j x h = if_keeps AllSay (informed x.server i w j) (λ e. more x.sent _ h tt) (λ e. h)

informs_says : (n j i : ℕ) (w : Work) (x : Serving) → AllSay x → AllSay (inform_from n j i w x)
unfolding inform_from
informs_says zero j i w x h = h
informs_says (suc n) j i w x h = informs_says n (suc j) i w (inform i w j x) (inform_says i w j x h)

install_says : (i : ℕ) (w : Work) (x : Serving) → AllSay x → AllSay (install i w x)
unfolding install finish archive write leave
install_says i w x h = informs_says 8 0 i w _ (more x.sent _ h tt)

called_other : (s : Server) (i j : ℕ) → concerned s i j ≡ true → eqb j i ≡ false
called_other s i j e = by_eq j i (λ q. absurd (false≢true (rw q at e))) (λ q. q)

calls_say : (n j : ℕ) (s : Server) (i : ℕ) → All SentSays (calls_from n j s i)
calls_say zero j s i = tt
calls_say (suc n) j s i =
    let rest : All SentSays (calls_from n (suc j) s i) = calls_say n (suc j) s i in
    by_b (concerned s i j) (λ e. rw e (called_other s i j e, rest)) (λ e. rw e rest)

atomic_says : Atomic AllSay
unfolding ask serve_read leave call grant_object grant_page install_waiter
atomic_says =
    record {
      aborts = λ i c x b t k. abort_says i c x k;
      asks = λ i h p x b t u k. more x.sent _ k tt;
      reads = λ i x b w c k. page_says NoLock i (x.server.queue i).req _ _ (unavailable_off x.server i (x.server.queue i).req) k;
      calls = λ i x b t u w c k. all_append SentSays x.sent (calls_from 8 0 x.server i) k (calls_say 8 0 x.server i);
      objects = λ i x b w r k. page_says ObjectLock i (x.server.queue i).req _ _ (unavailable_off x.server i (x.server.queue i).req) k;
      pages = λ i x b w r e k. page_says WholeLock i (x.server.queue i).req _ _ (unavailable_off x.server i (x.server.queue i).req) k;
      installs = λ i x b w f r k. install_says i (x.server.queue i).work x k;
    }

notice_says : (i t : ℕ) (x : Serving) → AllSay x → AllSay (notice i t x)
unfolding notice
notice_says i t x h = if_keeps AllSay (eqb t (x.server.latest i)) (λ e. h) (λ e. h)

commit_now_says : (i : ℕ) (w : Work) (x : Serving) → AllSay x → AllSay (commit_now i w x)
unfolding commit_now
commit_now_says i w x h = if_keeps AllSay (eqb x.server.last last_number) (λ e. abort_says i 4 x h) (λ e. install_says i w x h)

accept_says : (i : ℕ) (m : Up) (x : Serving) → AllSay x → AllSay (accept i m x)
unfolding accept join_read join_write join_commit join serve_now finish unlist mark_busy answered loosen heed
accept_says i (ReadRequest a t) x h =
    if_keeps AllSay (locking (x.server.kind i)) (λ e. notice_says i t x h) (λ e. page_says NoLock i a nowhere (notice i t x) (λ b n. refl) (notice_says i t x h))
accept_says i (WriteRequest p t set) x h = notice_says i t x h
accept_says i (Commit w) x h =
    let g : AllSay (notice i w.transaction x) = notice_says i w.transaction x h in
    if_keeps AllSay (locking (x.server.kind i)) (λ e. commit_now_says i w (notice i w.transaction x) g) (λ e. g)
accept_says i (Abort t) x h = notice_says i t x h
accept_says i (Purge p) x h = h
accept_says i (Busy r t) x h = if_keeps AllSay (open_call x.server i r t) (λ e. h) (λ e. h)
accept_says i (Done r t d) x h = if_keeps AllSay (open_call x.server i r t) (λ e. h) (λ e. h)
accept_says i (WrittenSet p t set) x h = if_keeps AllSay (open_ask x.server i p t) (λ e. met_keeps AllSay i t x (notice_says i t x h) h) (λ e. h)

-- every message that a server's step sends
pub step_says : (i : ℕ) (m : Up) (s : Server) → All SentSays (server_step i m s).sent
step_says i m s = step_keeps AllSay atomic_says i m s (accept_says i m (start s) tt)

pub sent_to_says : (i : ℕ) (l : List Sent) → All SentSays l → All (Says i) (sent_to i l)
sent_to_says i [] h = tt
sent_to_says i (To j m ∷ l) h =
    let rest : All (Says i) (sent_to i l) = sent_to_says i l h.1 in
    by_eq i j (λ e. rw e (rw (eqb_yes i j e) h.0, rest)) (λ e. rw e rest)
