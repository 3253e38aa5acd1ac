-- Wish 4, third sentence: "only a member of a cycle is ever aborted for cause 1, and never the oldest station on the cycle".
use Rattle.std.specs.Prelude.{◌≡◌, refl, Bool, true, false, cond, List, [], ◌∷◌, ◌++◌, ℕ, zero, suc, ◌≤◌, ◌<◌, eqb}
use Rattle.std.proofs.Common.{sym, ap, subst, ◌∙◌, arith}
use Rattle.sets.specs.Laws.{by_b}
use Rattle.sets.proofs.Laws.{eqb_same, eqb_yes, eqb_no}
use Rattle.sets.specs.Reach.{Path, Last, Then, path_and}
use Rattle.sets.proofs.Reach.{path_from, path_edge}
use Rattle.line.specs.All.{All, all_map}
use Rattle.line.specs.Messages.{Up, Aborted, Sent, To}
use Rattle.line.specs.Server.{Server, Serving, waits, unexpected, finish, leave, abort, order, pass, edge, victim, moved, settle, fuel, accept, start, server_step}
use Rattle.line.specs.Pass.{Atomic, order_8, pass_keeps, victim_waits}
use Rattle.line.specs.Apart.{Apart}
use Rattle.line.specs.Rest.{victim_is}
use Rattle.line.specs.Line.{World, Call, carry_down, run, fresh}
use Rattle.line.specs.Truth.{In, here, there}
use Rattle.truth.specs.Inv.{taken}
use Rattle.truth.proofs.Theorem.{acts_atomic}
use Rattle.truth.proofs.Frame.{append_nil, append_assoc, all_in}
use Rattle.truth.specs.Tokens.{both}
use Rattle.progress.specs.Clauses.{Moving}
use Rattle.progress.specs.Moving.{moving_layer, moving}
use Rattle.progress.specs.Edges.{edge_waits, no_self}
use Rattle.progress.specs.Causes.{beaten_by, beaten, beaten_append, pass_other, accept_other}

-- v is on a cycle of edges, and not the oldest there: edges lead from it to one that is older, and from that one back
pub record Beaten (s : Server) (v : ℕ) : Type 0 where
  pub elder : ℕ
  pub forth : Path 8 (edge s) v elder
  pub back : Path 8 (edge s) elder v
  pub older : s.age elder < s.age v

-- "When the pass rests and edges form a cycle": the step as it stands whenever `settle` chooses a victim
unfoldable pub choices : ℕ → Serving → List Serving
choices zero x = []
choices (suc n) x =
    let y = pass (order 8 0 x.server) x in
    let again = choices n y in
    let v = victim y.server in
    let next = y ∷ choices n (abort v 1 y) in
    cond (moved x y) again (cond (eqb v 8) [] next)

-- .. and whom
abbrev pub chosen : List Serving → List ℕ
chosen [] = []
chosen (y ∷ l) = victim y.server ∷ chosen l

-- THE 22S WITH CAUSE 1 ARE THE VICTIMS'

abort_one : (v : ℕ) (y : Serving) → beaten (abort v 1 y).sent ≡ beaten y.sent ++ (v ∷ [])
unfolding abort finish leave
abort_one v y = beaten_append y.sent (To v (Aborted (y.server.latest v) 1) ∷ [])

-- a step and its choices, by one test
if_both : (G : Serving → List Serving → Type 0) (b : Bool) {x y : Serving} {k l : List Serving} → (b ≡ true → G x k) → (b ≡ false → G y l) → G (cond b x y) (cond b k l)
if_both G true t f = t refl
if_both G false t f = f refl

onto : {a b c : List ℕ} (v : ℕ) (l : List ℕ) → a ≡ b ++ (v ∷ []) → b ≡ c → a ++ l ≡ c ++ (v ∷ l)
onto {a} {b} {c} v l e f = rw (e, f) (sym (append_assoc c (v ∷ []) l))

settle_chosen : (n : ℕ) (x : Serving) → beaten (settle n x).sent ≡ beaten x.sent ++ chosen (choices n x)
unfolding settle choices
settle_chosen zero x = sym (append_nil (beaten x.sent))
settle_chosen (suc n) x =
    let y : Serving = pass (order 8 0 x.server) x in
    let v : ℕ = victim y.server in
    let e : beaten y.sent ≡ beaten x.sent = pass_other (order 8 0 x.server) x in
    let again : beaten (settle n y).sent ≡ beaten x.sent ++ chosen (choices n y) = settle_chosen n y ∙ ap (λ r. r ++ chosen (choices n y)) e in
    let next : beaten (settle n (abort v 1 y)).sent ≡ beaten x.sent ++ (v ∷ chosen (choices n (abort v 1 y))) =
    settle_chosen n (abort v 1 y) ∙ onto v (chosen (choices n (abort v 1 y))) (abort_one v y) e in
    let G : Serving → List Serving → Type 0 = λ z l. beaten z.sent ≡ beaten x.sent ++ chosen l in
    if_both G (moved x y) (λ t. again) (λ t. if_both G (eqb v 8) (λ u. e ∙ sym (append_nil (beaten x.sent))) (λ u. next))

-- of every server state and message: whoever is sent 22 with cause 1 was chosen, in that order
pub step_chosen : (i : ℕ) (m : Up) (s : Server) → beaten (server_step i m s).sent ≡ chosen (choices fuel (accept i m (start s)))
unfolding server_step
step_chosen i m s = let x : Serving = accept i m (start s) in settle_chosen fuel x ∙ ap (λ r. r ++ chosen (choices fuel x)) (accept_other i m (start s))

-- THE VICTIM IS NOT THE OLDEST

-- nobody has sent 6 to itself
abbrev Unself : Server → Type 0
Unself s = (i j : ℕ) → i < 8 → j < 8 → (s.queue i).busy j ≡ true → eqb j i ≡ false

module _ (s : Server) (a : Apart s) (n : Unself s) where
  -- two that wait have different ages
  differ : (i j : ℕ) → i < 8 → j < 8 → waits s i ≡ true → waits s j ≡ true → s.age i ≡ s.age j → i ≡ j
  differ i j b c p q e = a.aged.ages_apart i j b c (rw ((a.waiting.entry i b).waits_open p) refl) (rw ((a.waiting.entry j c).waits_open q) refl) e

  -- its first edge leads to one on the same cycle
  second : (v : ℕ) → v < 8 → ((j : ℕ) → j < 8 → Path 8 (edge s) j j → s.age j ≤ s.age v) → Path 8 (edge s) v v → Beaten s v
  second v b y (Last c d t) = both (eqb v v) (eqb_same v) (no_self s v v (n v v b b) t)
  second v b y (Then {i} {j} {k} c t p) =
      let d : j < 8 = path_from p in
      let far : eqb j v ≡ false = no_self s v j (n v j b d) t in
      let w : waits s j ≡ true = let z = path_edge p in edge_waits s j z.0 z.2 in
      let le = y j d (path_and p (Last c d t)) in
      record {
        elder = j;
        forth = Last c d t;
        back = p;
        older = less le (λ e. eqb_no j v far (differ j v d b w (edge_waits s v j t) e));
      }
    where
      less : {x z : ℕ} → x ≤ z → (x ≡ z → ⊥) → x < z
      less {x} {z} l m = by_b (eqb x z) (λ e. absurd (m (eqb_yes x z e))) (λ e. omega (arith, eqb_no x z e))

  beaten_is : victim s < 8 → Beaten s (victim s)
  beaten_is b = let z = victim_is s (victim s) refl b in second (victim s) b z.youngest_of z.cycle

-- EVERY STEP OF A RUN

if_list : (G : List Serving → Type 0) (b : Bool) {k l : List Serving} → (b ≡ true → G k) → (b ≡ false → G l) → G (cond b k l)
if_list G true t f = t refl
if_list G false t f = f refl

-- what every action keeps holds at each choice
choices_keep : (P : Serving → Type 0) → Atomic P → (n : ℕ) (x : Serving) → P x → All (λ y. P y × (victim y.server < 8)) (choices n x)
unfolding choices
choices_keep P k zero x h = tt
choices_keep P k (suc n) x h =
    let y : Serving = pass (order 8 0 x.server) x in
    let v : ℕ = victim y.server in
    let g : P y = pass_keeps P k (order 8 0 x.server) x (order_8 8 0 x.server) h in
    let G : List Serving → Type 0 = All (λ z. P z × (victim z.server < 8)) in
    let next : eqb v 8 ≡ false → G (y ∷ choices n (abort v 1 y)) =
    λ u. let z = victim_waits y.server u in ((g, z.0), choices_keep P k n (abort v 1 y) (k.aborts v 1 y z.0 z.1 g)) in
    if_list G (moved x y) (λ t. choices_keep P k n y g) (λ t. if_list G (eqb v 8) (λ u. tt) next)

-- at each choice of a step from a world of a run the victim is on a cycle, and not the oldest there
moving_beaten : (w : World) (y : Serving) → Moving (carry_down y w) → victim y.server < 8 → Beaten y.server (victim y.server)
unfolding carry_down
moving_beaten w y h b = beaten_is y.server h.inv.apart (λ i j c d e. let o = h.owed i j c d in (o.P2c (o.P2a e)).0) b

pub all_beaten : (w : World) (i : ℕ) (m : Up) (l : List Up) → Moving w → i < 8 → w.up i ≡ m ∷ l → unexpected i m w.server ≡ false → All (λ y. Beaten y.server (victim y.server)) (choices fuel (accept i m (start w.server)))
all_beaten w i m l h b e u =
    let v : World = taken i l w in
    all_map (λ y. Moving (carry_down y v) × (victim y.server < 8)) (λ y. Beaten y.server (victim y.server)) (λ y g. moving_beaten v y g.0 g.1) (choices fuel (accept i m (start w.server)))
    (choices_keep (λ y. Moving (carry_down y v)) (acts_atomic (moving_layer.acts v)) fuel (accept i m (start w.server)) (moving_layer.accepted i m l w b e u h))

-- whoever is in the list of those sent 22 with cause 1
in_append : {A : Type 0} {x : A} (l k : List A) → In x k → In x (l ++ k)
in_append [] k h = h
in_append (y ∷ l) k h = there (in_append l k h)

is_beaten : (v t : ℕ) (l : List Sent) → In (To v (Aborted t 1)) l → In v (beaten l)
is_beaten v t [] x' = elim x' [ ]
is_beaten v t (m ∷ l) here = here
is_beaten v t (m ∷ l) (there h) = in_append (beaten_by m) (beaten l) (is_beaten v t l h)

-- .. was chosen at one of the choices
chosen_at : (v : ℕ) (l : List Serving) → In v (chosen l) → (y : Serving) × In y l × (victim y.server ≡ v)
chosen_at v [] x' = elim x' [ ]
chosen_at v (y ∷ l) here = (y, here, refl)
chosen_at v (y ∷ l) (there h) = let z = chosen_at v l h in (z.0, there z.1, z.2)

-- THE THIRD SENTENCE: of every server step of a run
pub victims : (kinds : ℕ → ℕ) (cs : List Call) (i : ℕ) (m : Up) (l : List Up) → let w = run cs (fresh kinds) in i < 8 → w.up i ≡ m ∷ l → unexpected i m w.server ≡ false
    → (v t : ℕ) → In (To v (Aborted t 1)) (server_step i m w.server).sent
    → (y : Serving) × In y (choices fuel (accept i m (start w.server))) × (victim y.server ≡ v) × Beaten y.server v
victims kinds cs i m l b e u v t h =
    let w : World = run cs (fresh kinds) in
    let ys : List Serving = choices fuel (accept i m (start w.server)) in
    let z = chosen_at v ys (subst (In v) (step_chosen i m w.server) (is_beaten v t (server_step i m w.server).sent h)) in
    let g = all_in (λ y. Beaten y.server (victim y.server)) ys z.0 z.1 (all_beaten w i m l (moving kinds cs) b e u) in
    (z.0, z.1, z.2, subst (Beaten z.0.server) z.2 g)
