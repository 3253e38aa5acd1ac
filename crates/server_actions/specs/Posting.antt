-- Actions only add to what was sent and archived, and how a step under way stands in lent bytes: its messages behind the count of those
-- there, its records behind the bytes of those there.
use Rattle.std.specs.Prelude.{ℕ, zero, suc, ◌+◌, ◌*◌, ◌-◌, ◌≤◌, ◌<◌, ◌≡◌, refl, Bool, cond, List, [], ◌∷◌, ◌++◌}
use Rattle.std.proofs.Common.{sym, ◌∙◌, append_assoc, append-nil, add-one, arith}
use Rattle.std.proofs.Math.Path.{ap}
use Rattle.std.proofs.Math.ListN.{length, length-append}
use Rattle.std.proofs.Math.Seq.{sets, length-sets}
use Rattle.lists.specs.Stores.{sets_join}
use Rattle.sets.specs.Base.{snoc}
use Rattle.sets.specs.Laws.{by_b}
use Rattle.message.specs.Layout.{message_length}
use Rattle.station_callbacks.specs.Callbacks.{flat}
use Rattle.server_actions.specs.Actions.{Serving, serving, on_state, send}
use Rattle.server_actions.specs.declared.Counts.{Counts}

-- a step that begins with s: nothing sent, nothing archived
abbrev pub from : List ℕ → Serving
from s = serving s [] []

-- what y sent and archived comes behind what x did
abbrev pub behind : Serving → Serving → Serving
behind x y = serving y.state (x.sent ++ y.sent) (x.recs ++ y.recs)

-- what f does depends on the state alone, and adds to what was sent and archived
pub record Acts (f : Serving → Serving) : Type 0 where
  pub grows : (x : Serving) → f x ≡ behind x (f (from x.state))

pub flat_append : (a b : List (List ℕ)) → flat (a ++ b) ≡ flat a ++ flat b
unfolding flat
flat_append [] b = refl
flat_append (x ∷ a) b = rw (flat_append a b) (sym (append_assoc x (flat a) (flat b)))

behind_behind : (x y z : Serving) → behind (behind x y) z ≡ behind x (behind y z)
behind_behind x y z = rw (append_assoc x.sent y.sent z.sent, append_assoc x.recs y.recs z.recs)

-- HOW ACTIONS ARE MADE

pub acts_not : Acts (λ x. x)
acts_not = record { grows = λ x. rw (append-nil x.sent, append-nil x.recs) }

pub acts_state : (f : List ℕ → List ℕ) → Acts (λ x. on_state x (f x.state))
acts_state f = record { grows = λ x. rw (append-nil x.sent, append-nil x.recs) }

pub acts_send : (m : List ℕ) → Acts (λ x. send x m)
acts_send m = record { grows = λ x. rw (append-nil x.recs) }

pub acts_archive : (r : List ℕ) → Acts (λ x. serving x.state x.sent (snoc x.recs r))
acts_archive r = record { grows = λ x. rw (append-nil x.sent) }

pub acts_cond : (c : List ℕ → Bool) {f g : Serving → Serving} → Acts f → Acts g → Acts (λ x. cond (c x.state) (f x) (g x))
acts_cond c {f} {g} a b =
    record { grows = λ x. by_b (c x.state) (λ e. rw e (a.grows x)) (λ e. rw e (b.grows x)) }

-- where the state before is told
pub acts_with : (g : List ℕ → Serving → Serving) → ((s : List ℕ) → Acts (g s)) → Acts (λ x. g x.state x)
acts_with g h = record { grows = λ x. (h x.state).grows x }

pub acts_then : {f g : Serving → Serving} → Acts f → Acts g → Acts (λ x. g (f x))
acts_then {f} {g} a b =
    record {
      grows =
          λ x.
          let y = f (from x.state) in
          b.grows (f x) ∙ ap (λ (z : Serving). behind z (g (from z.state))) (a.grows x)
          ∙ behind_behind x y (g (from y.state)) ∙ ap (behind x) (sym (b.grows y));
    }

-- THE LENT BYTES

abbrev pub counts : ℕ → ℕ → Counts
counts m r = record { messages = m; records = r }

pub record Posted : Type 0 where
  pub state : List ℕ
  pub messages : List ℕ
  pub records : List ℕ
  pub count : Counts

abbrev pub posted : List ℕ → List ℕ → List ℕ → Counts → Posted
posted s o q c = record { state = s; messages = o; records = q; count = c }

-- messages behind the first n
unfoldable pub mailed : List ℕ → ℕ → List (List ℕ) → List ℕ
mailed o n [] = o
mailed o n (m ∷ ms) = mailed (sets o (n * message_length) m) (n + 1) ms

unfoldable pub post : List ℕ → List ℕ → Counts → Serving → Posted
post o q c y =
    posted y.state (mailed o c.messages y.sent) (sets q c.records (flat y.recs))
    (counts (c.messages + length y.sent) (c.records + length (flat y.recs)))

length_mailed : (o : List ℕ) (n : ℕ) (ms : List (List ℕ)) → length (mailed o n ms) ≡ length o
unfolding mailed
length_mailed o n [] = refl
length_mailed o n (m ∷ ms) = length_mailed (sets o (n * message_length) m) (n + 1) ms ∙ length-sets o (n * message_length) m

mailed_append : (o : List ℕ) (n : ℕ) (a b : List (List ℕ)) → mailed o n (a ++ b) ≡ mailed (mailed o n a) (n + length a) b
unfolding mailed
mailed_append o n [] b = ap (λ (k : ℕ). mailed o k b) (omega arith)
mailed_append o n (m ∷ a) b =
    mailed_append (sets o (n * message_length) m) (n + 1) a b
    ∙ ap (λ (k : ℕ). mailed (mailed (sets o (n * message_length) m) (n + 1) a) k b) (omega arith)

-- every message has a message's length
abbrev pub Whole : List (List ℕ) → Type 0
Whole [] = Unit {0}
Whole (m ∷ ms) = (length m ≡ message_length) × Whole ms

pub mailed_flat : (o : List ℕ) (n : ℕ) (ms : List (List ℕ)) → Whole ms → mailed o n ms ≡ sets o (n * message_length) (flat ms)
unfolding mailed flat
mailed_flat o n [] h = refl
mailed_flat o n (m ∷ ms) h =
    mailed_flat (sets o (n * message_length) m) (n + 1) ms h.1
    ∙ sets_join m (flat ms) o (n * message_length) ((n + 1) * message_length) (omega (arith, h.0))

counts_same : {a b x y : ℕ} → a ≡ x → b ≡ y → counts a b ≡ counts x y
counts_same e f = rw (e, f)

-- nothing done
pub post_none : (o q : List ℕ) (c : Counts) (s : List ℕ) → posted s o q c ≡ post o q c (from s)
unfolding post mailed flat
post_none o q c s = ap (posted s o q) (counts_same (omega arith) (omega arith))

-- one message
pub post_one : (o q : List ℕ) (c : Counts) (s m : List ℕ) → posted s (sets o (c.messages * message_length) m) q (counts (c.messages + 1) c.records) ≡ post o q c (serving s (m ∷ []) [])
unfolding post mailed flat
post_one o q c s m = ap (posted s (sets o (c.messages * message_length) m) q) (counts_same refl (omega arith))

-- one message and one record
pub post_both : (o q : List ℕ) (c : Counts) (s m r : List ℕ)
    → posted s (sets o (c.messages * message_length) m) (sets q c.records r) (counts (c.messages + 1) (c.records + length r)) ≡ post o q c (serving s (m ∷ []) (r ∷ []))
unfolding post mailed flat
post_both o q c s m r = rw (append-nil r)

-- one behind the other
post_behind : (o q : List ℕ) (c : Counts) (x y : Serving) {d : Posted} → d ≡ post o q c x → post o q c (behind x y) ≡ post d.messages d.records d.count y
unfolding post
post_behind o q c x y e =
    let r = flat x.recs in
    let t = flat y.recs in
    rw (
      e,
      mailed_append o c.messages x.sent y.sent,
      flat_append x.recs y.recs,
      ← sets_join r t q c.records (c.records + length r) refl,
      length-append x.sent y.sent,
      length-append r t,
    )
    (ap (posted y.state _ _) (counts_same (omega arith) (omega arith)))

module _ {g : Serving → Serving} (b : Acts g) (o q : List ℕ) (c : Counts) (y : Serving) {s₁ o₁ q₁ : List ℕ} {c₁ : Counts} (e₁ : posted s₁ o₁ q₁ c₁ ≡ post o q c y) where
  state_is : s₁ ≡ y.state
  unfolding post
  state_is = ap (λ (p : Posted). p.state) e₁

  -- g behind what gave y
  pub posted_then : {d : Posted} → d ≡ post o₁ q₁ c₁ (g (from s₁)) → d ≡ post o q c (g y)
  posted_then e₂ =
      e₂ ∙ ap (λ (s : List ℕ). post o₁ q₁ c₁ (g (from s))) state_is
      ∙ sym (post_behind o q c y (g (from y.state)) e₁)
      ∙ ap (post o q c) (sym (b.grows y))

-- the bytes lent have room for all that is sent and archived
pub record Room (o q : List ℕ) (c : Counts) (y : Serving) : Type 0 where
  pub messages : (c.messages + length y.sent) * message_length ≤ length o
  pub records : c.records + length (flat y.recs) ≤ length q

flat_length : (x y : Serving) → length (flat (x.recs ++ y.recs)) ≡ length (flat x.recs) + length (flat y.recs)
flat_length x y = rw (flat_append x.recs y.recs, length-append (flat x.recs) (flat y.recs))

module _ (o q : List ℕ) (c : Counts) where
  room_behind : (x y : Serving) → Room o q c (behind x y) → Room o q c x
  room_behind x y r =
      let n = length-append x.sent y.sent in
      let k = flat_length x y in
      record { messages = omega (arith, n, r.messages); records = omega (arith, k, r.records) }

  -- for the whole, so for what comes first
  pub room_first : {g : Serving → Serving} → Acts g → (y : Serving) → Room o q c (g y) → Room o q c y
  room_first {g} b y r = room_behind y (g (from y.state)) (rw (← b.grows y) r)

  -- .. and for the rest
  pub room_next : {g : Serving → Serving} → Acts g → (y : Serving) → {s₁ o₁ q₁ : List ℕ} {c₁ : Counts} → posted s₁ o₁ q₁ c₁ ≡ post o q c y
      → Room o q c (g y) → Room o₁ q₁ c₁ (g (from s₁))
  unfolding post
  room_next {g} b y {s₁} {o₁} {q₁} {c₁} e r =
      let z = g (from y.state) in
      let es : s₁ ≡ y.state = ap (λ (p : Posted). p.state) e in
      let eo : o₁ ≡ mailed o c.messages y.sent = ap (λ (p : Posted). p.messages) e in
      let eq : q₁ ≡ sets q c.records (flat y.recs) = ap (λ (p : Posted). p.records) e in
      let em : c₁.messages ≡ c.messages + length y.sent = ap (λ (p : Posted). p.count.messages) e in
      let er : c₁.records ≡ c.records + length (flat y.recs) = ap (λ (p : Posted). p.count.records) e in
      let lo : length o₁ ≡ length o = rw eo (length_mailed o c.messages y.sent) in
      let lq : length q₁ ≡ length q = rw eq (length-sets q c.records (flat y.recs)) in
      let n = length-append y.sent z.sent in
      let k = flat_length y z in
      let w : Room o q c (behind y z) = rw (← b.grows y) r in
      rw es
      (record { messages = omega (arith, em, lo, n, w.messages); records = omega (arith, er, lq, k, w.records) })

  pub message_fits : (y : Serving) → Room o q c y → (n : ℕ) → n < length y.sent → (c.messages + n) * message_length + message_length ≤ length o
  message_fits y r n h = omega (arith, h, r.messages)

-- LOOPS

-- f takes turns of g, rising
pub record Turns (f g : Serving → ℕ → Serving) : Type 0 where
  pub none : (x : Serving) → f x 0 ≡ x
  pub next : (x : Serving) (n : ℕ) → f x (suc n) ≡ g (f x n) n
  pub acts : (n : ℕ) → Acts (λ x. g x n)

pub acts_same : {f g : Serving → Serving} → ((x : Serving) → f x ≡ g x) → Acts g → Acts f
acts_same h a = record { grows = λ x. h x ∙ a.grows x ∙ ap (behind x) (sym (h (from x.state))) }

pub acts_turns : {f g : Serving → ℕ → Serving} → Turns f g → (n : ℕ) → Acts (λ x. f x n)
acts_turns t zero = acts_same t.none acts_not
acts_turns t (suc n) = acts_same (λ x. t.next x n) (acts_then (acts_turns t n) (t.acts n))

module _ {f g : Serving → ℕ → Serving} (t : Turns f g) (o q : List ℕ) (c : Counts) (s : List ℕ) where
  -- room for n turns is room for k of them
  room_fewer : (d k n : ℕ) → n ≡ d + k → Room o q c (f (from s) n) → Room o q c (f (from s) k)
  room_fewer zero k n e r = let same : k ≡ n = omega arith in rw same r
  room_fewer (suc d) k zero e r = absurd (omega arith)
  room_fewer (suc d) k (suc n) e r = room_fewer d k n (omega arith) (room_first o q c (t.acts n) (f (from s) n) (rw (← t.next (from s) n) r))

  pub turn_none : posted s o q c ≡ post o q c (f (from s) 0)
  turn_none = post_none o q c s ∙ ap (post o q c) (sym (t.none (from s)))

  module _ (n k : ℕ) {s₁ o₁ q₁ : List ℕ} {c₁ : Counts} (e : posted s₁ o₁ q₁ c₁ ≡ post o q c (f (from s) k)) where
    pub turn_room : k < n → Room o q c (f (from s) n) → Room o₁ q₁ c₁ (g (from s₁) k)
    turn_room h r =
        room_next o q c (t.acts k) (f (from s) k) e
        (rw (← t.next (from s) k) (room_fewer (n - suc k) (suc k) n (omega arith) r))

    pub turn_posted : {d : Posted} → d ≡ post o₁ q₁ c₁ (g (from s₁) k) → d ≡ post o q c (f (from s) (k + 1))
    turn_posted e₂ =
        posted_then (t.acts k) o q c (f (from s) k) e e₂
        ∙ ap (post o q c) (sym (t.next (from s) k) ∙ ap (f (from s)) (sym (add-one k)))

    pub turn_end : k ≡ n → posted s₁ o₁ q₁ c₁ ≡ post o q c (f (from s) n)
    turn_end h = e ∙ ap (λ (m : ℕ). post o q c (f (from s) m)) h
