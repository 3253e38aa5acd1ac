-- The fuel of `settle` always suffices: more fuel changes nothing. So "until nothing changes" is what `settle` does.
use Rattle.std.specs.Prelude.{◌≡◌, refl, Bool, true, false, not, ◌&&◌, cond, ◌≢◌, ℕ, zero, suc, ◌+◌, ◌≤◌, ◌<◌, eqb, length}
use Rattle.std.proofs.Common.{ap, ◌∙◌, arith}
use Rattle.std.proofs.lemmas.Bool.{false≢true}
use Rattle.sets.specs.Base.{upd}
use Rattle.line.specs.Messages.{page_of, Work}
use Rattle.line.specs.Server.{Server, Serving, Waiter, waiter_pend, waiter_called, concerned, no_waiter, is_want, waits, wants_page, other, shut, finish, leave, send_page, abort, write, archive, informed, inform, inform_from, install, ask, serve_read, call, grant_object, grant_page, install_waiter, pass, order, victim, moved, settle, fuel, unlocks}
use Rattle.line.specs.Pass.{Atomic, pass_keeps, order_8, victim_waits}
use Rattle.sets.specs.Laws.{by_b, by_eq}
use Rattle.sets.proofs.Laws.{eqb_same, eqb_yes, eqb_no, and_l, and_r}

unfoldable pub sum_to : ℕ → (ℕ → ℕ) → ℕ
sum_to zero f = 0
sum_to (suc n) f = f n + sum_to n f

abbrev pub nb : Bool → ℕ
nb true = 1
nb false = 0

-- a waiter not yet called weighs 3, a called one 2
abbrev pub weigh : Waiter → ℕ
weigh w = cond (is_want w.want) (cond w.called 2 3) 0

-- a whole lock not yet asked weighs 1
abbrev pub loose_at : ℕ → Bool → ℕ
loose_at h a = nb (not (eqb h 0) && not a)

abbrev pub waiters_cost : Server → ℕ
waiters_cost s = sum_to 8 (λ i. weigh (s.queue i))

abbrev pub pages_cost : Server → ℕ
pages_cost s = sum_to 32 (λ p. loose_at (s.wl p) (s.asked p))

abbrev pub cost : Server → ℕ
cost s = waiters_cost s + pages_cost s

pub sum_le : (n : ℕ) (f g : ℕ → ℕ) → ((i : ℕ) → f i ≤ g i) → sum_to n f ≤ sum_to n g
unfolding sum_to
sum_le zero f g h = omega arith
sum_le (suc n) f g h = omega (arith, h n, sum_le n f g h)

-- less at every place, and by k less at one
pub sum_at : (n : ℕ) (f g : ℕ → ℕ) (k j : ℕ) → ((i : ℕ) → f i ≤ g i) → j < n → f j + k ≤ g j → sum_to n f + k ≤ sum_to n g
unfolding sum_to
sum_at zero f g k j h b e = absurd (omega arith)
sum_at (suc n) f g k j h b e =
    let rest : j < n → sum_to n f + k ≤ sum_to n g = λ c. sum_at n f g k j h c e in
    by_eq j n (λ q. let z : f n + k ≤ g n = rw (eqb_yes j n q) at e in omega (arith, sum_le n f g h))
    (λ q. omega (arith, h n, rest (omega (arith, eqb_no j n q))))

-- one more at one place at most
sum_below : (n : ℕ) (f g : ℕ → ℕ) (j : ℕ) → ((i : ℕ) → i ≢ j → f i ≤ g i) → n ≤ j → sum_to n f ≤ sum_to n g
unfolding sum_to
sum_below zero f g j h b = omega arith
sum_below (suc n) f g j h b = omega (arith, h n (omega arith), sum_below n f g j h (omega arith))

sum_up : (n : ℕ) (f g : ℕ → ℕ) (j : ℕ) → ((i : ℕ) → i ≢ j → f i ≤ g i) → f j ≤ g j + 1 → sum_to n f ≤ sum_to n g + 1
unfolding sum_to
sum_up zero f g j h e = omega arith
sum_up (suc n) f g j h e =
    let rest = sum_up n f g j h e in
    by_eq n j
    (λ q. let z : f n ≤ g n + 1 = rw (← eqb_yes n j q) at e in omega (arith, sum_below n f g j h (omega (arith, eqb_yes n j q))))
    (λ q. omega (arith, h n (eqb_no n j q)))

pub sum_1 : (n : ℕ) (f : ℕ → ℕ) → ((i : ℕ) → f i ≤ 1) → sum_to n f ≤ n
unfolding sum_to
sum_1 zero f h = omega arith
sum_1 (suc n) f h = omega (arith, h n, sum_1 n f h)

sum_3 : (n : ℕ) (f : ℕ → ℕ) → ((i : ℕ) → f i ≤ 3) → sum_to n f ≤ n + n + n
unfolding sum_to
sum_3 zero f h = omega arith
sum_3 (suc n) f h = omega (arith, h n, sum_3 n f h)

pub nb_1 : (b : Bool) → nb b ≤ 1
nb_1 true = omega arith
nb_1 false = omega arith

weigh_3 : (w : Waiter) → weigh w ≤ 3
weigh_3 w = by_b (is_want w.want) (λ e. by_b w.called (λ f. rw (e, f) (omega arith)) (λ f. rw (e, f) (omega arith))) (λ e. rw e (omega arith))

pub cost_56 : (s : Server) → cost s ≤ 56
cost_56 s = omega (arith, sum_3 8 (λ i. weigh (s.queue i)) (λ i. weigh_3 (s.queue i)), sum_1 32 (λ p. loose_at (s.wl p) (s.asked p)) (λ p. nb_1 (not (eqb (s.wl p) 0) && not (s.asked p))))

-- a waiter leaves
gone_le : (q : ℕ → Waiter) (i j : ℕ) → weigh (upd q i no_waiter j) ≤ weigh (q j)
gone_le q i j = by_eq j i (λ e. rw e (omega arith)) (λ e. rw e (omega arith))

waiter_2 : (w : Waiter) → is_want w.want ≡ true → 2 ≤ weigh w
waiter_2 w e = by_b w.called (λ f. rw (e, f) (omega arith)) (λ f. rw (e, f) (omega arith))

leaves : (q : ℕ → Waiter) (i : ℕ) → i < 8 → is_want (q i).want ≡ true → sum_to 8 (λ j. weigh (upd q i no_waiter j)) + 2 ≤ sum_to 8 (λ j. weigh (q j))
leaves q i b t =
    let z : weigh (upd q i no_waiter i) + 2 ≤ weigh (q i) = rw (eqb_same i) (omega (arith, waiter_2 (q i) t)) in
    sum_at 8 (λ j. weigh (upd q i no_waiter j)) (λ j. weigh (q j)) 2 i (gone_le q i) b z

-- an end frees whole locks, or leaves those of a keeping station
freed_le : (k : ℕ) (wl : ℕ → ℕ) (asked : ℕ → Bool) (i p : ℕ) → loose_at (cond (unlocks k i (wl p)) 0 (wl p)) (not (unlocks k i (wl p)) && asked p) ≤ loose_at (wl p) (asked p)
freed_le k wl asked i p = by_b (unlocks k i (wl p)) (λ e. rw e (omega arith)) (λ e. rw e (omega arith))

pub frees : (k : ℕ) (wl : ℕ → ℕ) (asked : ℕ → Bool) (i : ℕ) → sum_to 32 (λ p. loose_at (cond (unlocks k i (wl p)) 0 (wl p)) (not (unlocks k i (wl p)) && asked p)) ≤ sum_to 32 (λ p. loose_at (wl p) (asked p))
frees k wl asked i = sum_le 32 _ (λ p. loose_at (wl p) (asked p)) (freed_le k wl asked i)

pub abort_less : (i c : ℕ) (x : Serving) → i < 8 → waits x.server i ≡ true → cost (abort i c x).server + 2 ≤ cost x.server
unfolding abort finish leave
abort_less i c x b t = omega (arith, leaves x.server.queue i b t, frees (x.server.kind i) x.server.wl x.server.asked i)

inform_cost : (i : ℕ) (w : Work) (j : ℕ) (x : Serving) → cost (inform i w j x).server ≡ cost x.server
unfolding inform
inform_cost i w j x = by_b (informed x.server i w j) (λ e. rw e refl) (λ e. rw e refl)

informs_cost : (n j i : ℕ) (w : Work) (x : Serving) → cost (inform_from n j i w x).server ≡ cost x.server
unfolding inform_from
informs_cost zero j i w x = refl
informs_cost (suc n) j i w x = informs_cost n (suc j) i w (inform i w j x) ∙ inform_cost i w j x

install_less : (i : ℕ) (w : Work) (x : Serving) → i < 8 → waits x.server i ≡ true → cost (install i w x).server + 2 ≤ cost x.server
unfolding install finish archive write leave
install_less i w x b t = rw (informs_cost 8 0 i w) (omega (arith, leaves x.server.queue i b t, frees (x.server.kind i) x.server.wl x.server.asked i))

read_less : (i : ℕ) (x : Serving) → i < 8 → waits x.server i ≡ true → cost (serve_read i x).server + 2 ≤ cost x.server
unfolding serve_read send_page leave
read_less i x b t = omega (arith, leaves x.server.queue i b t)

object_less : (i : ℕ) (x : Serving) → i < 8 → waits x.server i ≡ true → cost (grant_object i x).server + 2 ≤ cost x.server
unfolding grant_object send_page leave
object_less i x b t = omega (arith, leaves x.server.queue i b t)

-- a new whole lock may weigh one more, where its waiter weighed two
pub lock_up : (wl : ℕ → ℕ) (asked : ℕ → Bool) (p h : ℕ) → sum_to 32 (λ q. loose_at (upd wl p h q) (upd asked p false q)) ≤ sum_to 32 (λ q. loose_at (wl q) (asked q)) + 1
lock_up wl asked p h =
    sum_up 32 (λ q. loose_at (upd wl p h q) (upd asked p false q)) (λ q. loose_at (wl q) (asked q)) p
    (λ q n. by_eq q p (λ e. absurd (n (eqb_yes q p e))) (λ e. rw e (omega arith)))
    (omega (arith, nb_1 (not (eqb (upd wl p h p) 0) && not (upd asked p false p))))

page_less : (i : ℕ) (x : Serving) → i < 8 → waits x.server i ≡ true → cost (grant_page i x).server + 1 ≤ cost x.server
unfolding grant_page send_page leave
page_less i x b t = omega (arith, leaves x.server.queue i b t, lock_up x.server.wl x.server.asked (page_of (x.server.queue i).req) (suc i))

loose_asked : (h : ℕ) → loose_at h true ≡ 0
loose_asked h = by_b (eqb h 0) (λ e. rw e refl) (λ e. rw e refl)

loose_free : (h : ℕ) → not (eqb h 0) ≡ true → loose_at h false ≡ 1
loose_free h e = rw e refl

asked_le : (wl : ℕ → ℕ) (asked : ℕ → Bool) (p q : ℕ) → loose_at (wl q) (upd asked p true q) ≤ loose_at (wl q) (asked q)
asked_le wl asked p q = by_eq q p (λ e. rw (e, loose_asked (wl q)) (omega arith)) (λ e. rw e (omega arith))

pub ask_less : (i h p : ℕ) (x : Serving) → p < 32 → shut x.server i p ≡ true → x.server.asked p ≡ false → cost (ask h p x).server + 1 ≤ cost x.server
unfolding ask
ask_less i h p x b t u =
    let s : Server = x.server in
    let held : not (eqb (s.wl p) 0) ≡ true = and_l (not (eqb (s.wl p) 0)) _ (and_r (wants_page s i p) (other (s.wl p) i) t) in
    let one : loose_at (s.wl p) (s.asked p) ≡ 1 = rw u (loose_free (s.wl p) held) in
    let none : loose_at (s.wl p) (upd s.asked p true p) ≡ 0 = rw (eqb_same p) (loose_asked (s.wl p)) in
    let z : loose_at (s.wl p) (upd s.asked p true p) + 1 ≤ loose_at (s.wl p) (s.asked p) = rw (none, one) (omega arith) in
    omega (arith, sum_at 32 (λ q. loose_at (s.wl q) (upd s.asked p true q)) (λ q. loose_at (s.wl q) (s.asked q)) 1 p (asked_le s.wl s.asked p) b z)

-- a waiter that is called weighs one less
abbrev pub marked : Waiter → (ℕ → Bool) → Waiter
marked w d = waiter_pend (waiter_called w true) d

marked_le : (w : Waiter) (d : ℕ → Bool) → weigh (marked w d) ≤ weigh w
marked_le w d = by_b (is_want w.want) (λ e. by_b w.called (λ f. rw (e, f) (omega arith)) (λ f. rw (e, f) (omega arith))) (λ e. rw e (omega arith))

marked_less : (w : Waiter) (d : ℕ → Bool) → is_want w.want ≡ true → w.called ≡ false → weigh (marked w d) + 1 ≤ weigh w
marked_less w d e f = rw (e, f) (omega arith)

marks : (q : ℕ → Waiter) (d : ℕ → Bool) (i : ℕ) → i < 8 → is_want (q i).want ≡ true → (q i).called ≡ false → sum_to 8 (λ j. weigh (upd q i (marked (q i) d) j)) + 1 ≤ sum_to 8 (λ j. weigh (q j))
marks q d i b t c =
    let z : weigh (upd q i (marked (q i) d) i) + 1 ≤ weigh (q i) = rw (eqb_same i) (marked_less (q i) d t c) in
    sum_at 8 (λ j. weigh (upd q i (marked (q i) d) j)) (λ j. weigh (q j)) 1 i
    (λ j. by_eq j i (λ e. rw (e, eqb_yes j i e) (marked_le (q i) d)) (λ e. rw e (omega arith))) b z

call_less : (i : ℕ) (x : Serving) → i < 8 → waits x.server i ≡ true → (x.server.queue i).called ≡ false → cost (call i x).server + 1 ≤ cost x.server
unfolding call
call_less i x b t c = omega (arith, marks x.server.queue (concerned x.server i) i b t c)

-- what a pass keeps, seen from its start: the cost does not rise, and falls if something was sent
pub record Falls (x y : Serving) : Type 0 where
  pub never : cost y.server ≤ cost x.server
  pub less : moved x y ≡ true → cost y.server + 1 ≤ cost x.server

falls : (x y z : Serving) → Falls x y → cost z.server + 1 ≤ cost y.server → Falls x z
falls x y z h l = let n = h.never in record { never = omega arith; less = λ e. omega arith }

atomic_falls : (x : Serving) → Atomic (Falls x)
unfolding install_waiter
atomic_falls x =
    record {
      aborts = λ i c y b t h. let l = abort_less i c y b t in falls x y (abort i c y) h (omega arith);
      asks = λ i g p y b t u h. falls x y (ask g p y) h (ask_less i g p y b t.page u);
      reads = λ i y b w c h. let l = read_less i y b (ap is_want w) in falls x y (serve_read i y) h (omega arith);
      calls = λ i y b t u w c h. falls x y (call i y) h (call_less i y b t u);
      objects = λ i y b w r h. let l = object_less i y b (ap is_want w) in falls x y (grant_object i y) h (omega arith);
      pages = λ i y b w r e h. falls x y (grant_page i y) h (page_less i y b (ap is_want w));
      installs = λ i y b w f r h. let l = install_less i (y.server.queue i).work y b (ap is_want w) in falls x y (install_waiter i y) h (omega arith);
    }

start_falls : (x : Serving) → Falls x x
start_falls x = record { never = omega arith; less = λ e. absurd (false≢true (rw (eqb_same (length x.sent)) at e)) }

cond_same : {A : Type 0} (b : Bool) {x y z w : A} → (b ≡ true → x ≡ z) → (b ≡ false → y ≡ w) → cond b x y ≡ cond b z w
cond_same true t f = t refl
cond_same false t f = f refl

-- a whole pass
pub pass_falls : (x : Serving) → Falls x (pass (order 8 0 x.server) x)
pass_falls x = pass_keeps (Falls x) (atomic_falls x) (order 8 0 x.server) x (order_8 8 0 x.server) (start_falls x)

-- more fuel changes nothing
pub more_fuel : (n m : ℕ) (x : Serving) → cost x.server < n → cost x.server < m → settle n x ≡ settle m x
unfolding settle
more_fuel zero m x a b = absurd (omega arith)
more_fuel (suc n) zero x a b = absurd (omega arith)
more_fuel (suc n) (suc m) x a b =
    let y : Serving = pass (order 8 0 x.server) x in
    let f : Falls x y = pass_falls x in
    let fn = f.never in
    let v : ℕ = victim y.server in
    let again : moved x y ≡ true → settle n y ≡ settle m y = λ e. let l = f.less e in more_fuel n m y (omega arith) (omega arith) in
    let next : eqb v 8 ≡ false → settle n (abort v 1 y) ≡ settle m (abort v 1 y) =
    λ e. let u = victim_waits y.server e in let l = abort_less v 1 y u.0 u.1 in more_fuel n m (abort v 1 y) (omega arith) (omega arith) in
    cond_same (moved x y) again (λ e. cond_same (eqb v 8) (λ g. refl) next)

pub enough : (m : ℕ) (x : Serving) → 56 < m → settle fuel x ≡ settle m x
enough m x b = let c = cost_56 x.server in more_fuel fuel m x (omega arith) (omega arith)
