-- Wish 4, second sentence: "when no message is under way, every waiting station leads along edges to a station that isn't waiting".
use Rattle.std.specs.Prelude.{◌≡◌, refl, Bool, true, false, cond, List, [], ◌⊎◌, ℕ, suc, ◌+◌, ◌≤◌, ◌<◌}
use Rattle.std.proofs.lemmas.Bool.{false≢true}
use Rattle.std.proofs.Common.{inl, inr, arith}
use Rattle.sets.specs.Base.{any}
use Rattle.sets.specs.Laws.{by_b}
use Rattle.sets.proofs.Laws.{and_l, and_r, not_no, any_some}
use Rattle.sets.specs.Reach.{Path}
use Rattle.sets.proofs.Reach.{path_last, walks_out}
use Rattle.line.specs.Messages.{locking}
use Rattle.line.specs.Station.{Kept, NotKept, KeptCall, waiting}
use Rattle.line.specs.Server.{Server, waits, wants, holder, blocks, blocked_at, shut, edge, start}
use Rattle.line.specs.Pass.{shut_by}
use Rattle.line.specs.Line.{World, Call, run, fresh}
use Rattle.line.specs.Rest.{AtRest}
use Rattle.truth.specs.Clauses.{kept_of}
use Rattle.truth.specs.Tokens.{both}
use Rattle.truth.proofs.Tokens.{idle_quiet}
use Rattle.progress.specs.Clauses.{is_kept, Moving}
use Rattle.progress.specs.Moving.{moving}
use Rattle.progress.specs.Held.{Held, Blocked, Asking, Unanswered, rested}
use Rattle.progress.specs.Edges.{edge_busy, edge_blocks, edge_is}
use Rattle.progress.specs.Ring.{rest_world}

-- no message is under way
pub record Quiet (w : World) : Type 0 where
  pub ups : (i : ℕ) → i < 8 → w.up i ≡ []
  pub downs : (i : ℕ) → i < 8 → w.down i ≡ []

-- edges lead to a station that does not wait: neither does its owner, nor has it an entry at the server
pub record LeadsOut (w : World) (i : ℕ) : Type 0 where
  pub end : ℕ
  pub below : end < 8
  pub path : Path 8 (edge w.server) i end
  pub owner : waiting (w.station end).wait ≡ false
  pub entry : waits w.server end ≡ false

one_is : (c : Bool) → 1 ≤ 0 + cond c 1 0 + 0 → c ≡ true
one_is true h = refl
one_is false h = absurd (omega arith)

kept_is : (t : ℕ) (k : Kept) → kept_of t k ≡ true → is_kept k ≡ true
kept_is t NotKept e = e
kept_is t (KeptCall u set) e = refl

module _ (w : World) (h : Moving w) (q : Quiet w) where
  -- who waits has its entry, and who has an entry waits
  listed : (i : ℕ) → i < 8 → waiting (w.station i).wait ≡ true → waits w.server i ≡ true
  listed i b e = one_is (waits w.server i) (rw (q.ups i b, q.downs i b) at (h.P1 i b e))

  asks : (i : ℕ) → waits w.server i ≡ true → waiting (w.station i).wait ≡ true
  asks i e =
      by_b (waiting (w.station i).wait) (λ f. f)
      (λ f. absurd (false≢true (rw (idle_quiet f (h.inv.tokens i)).empty at e)))

  -- who owes a 7 keeps the callback, and its 6 came
  keeps : (r j : ℕ) → r < 8 → j < 8 → (w.server.queue r).pend j ≡ true → (is_kept ((w.station j).kept r) ≡ true) × ((w.server.queue r).busy j ≡ true)
  keeps r j a b p =
      let o = h.owed r j a b in
      let t : ℕ = w.server.latest r in
      let k : kept_of t ((w.station j).kept r) ≡ true = one_is (kept_of t ((w.station j).kept r)) (rw (q.ups j b, q.downs j b) at (o.P2c p).1) in
      (kept_is t ((w.station j).kept r) k, came (rw (q.ups j b) at (o.P4 p k)))
    where
      came : ((w.server.queue r).busy j ≡ true) ⊎ (1 ≤ 0) → (w.server.queue r).busy j ≡ true
      came (inl e) = e
      came (inr n) = absurd (omega arith)

  -- whoever waits at a server at rest has an edge
  edge_of : (i : ℕ) → i < 8 → waits w.server i ≡ true → Held w.server i → (j : ℕ) × (j < 8) × (edge w.server i j ≡ true)
  edge_of i b t (Blocked e) =
      let s : Server = w.server in
      let y = any_some 256 (blocked_at s i) e in
      let z = any_some 8 (blocks s i y.0) (and_r (wants s i y.0) _ y.2) in
      (z.0, z.1, edge_blocks s i z.0 y.0 y.1 t (and_l (wants s i y.0) _ y.2) z.2)
  edge_of i b t (Asking e f g) =
      let s : Server = w.server in
      let y = any_some 32 (shut s i) f in
      let p : ℕ = y.0 in
      let k : ℕ = holder (s.wl p) in
      let o : s.wl p ≡ suc k = (shut_by i p (start s) y.2).held in
      let c : k < 8 = (h.inv.apart.locks.whole_open k p o).station in
      absurd (omega (arith, rw (q.ups k c, q.downs k c) at (h.P5 p k y.1 c o (g p y.1 y.2))))
  edge_of i b t (Unanswered e f g c n) =
      let s : Server = w.server in
      let y = any_some 8 (s.queue i).pend (not_no (any 8 (s.queue i).pend) n) in
      (y.0, y.1, edge_busy s i y.0 t (keeps i y.0 b y.1 y.2).1)

  out : AtRest (start w.server) → (i : ℕ) → i < 8 → waiting (w.station i).wait ≡ true → (waits w.server i ≡ true) × LeadsOut w i
  out r i b e =
      let s : Server = w.server in
      let on : (k : ℕ) → k < 8 → waits s k ≡ true → (j : ℕ) × (j < 8) × (edge s k j ≡ true) = λ k c t. edge_of k c t (rested (start s) h.inv.apart.waiting.arrivals_apart r.passed k c t).held in
      let z = walks_out 8 (edge s) r.acyclic (waits s) on i b (listed i b e) in (
        listed i b e,
        record { end = z.0; below = z.1; path = z.2; owner = by_b (waiting (w.station z.0).wait) (λ f. both (waits s z.0) (listed z.0 z.1 f) z.3) (λ f. f); entry = z.3 },
      )

pub leads_out : (kinds : ℕ → ℕ) (cs : List Call) → let w = run cs (fresh kinds) in Quiet w → (i : ℕ) → i < 8 → waiting (w.station i).wait ≡ true → (waits w.server i ≡ true) × LeadsOut w i
leads_out kinds cs q = out (run cs (fresh kinds)) (moving kinds cs) q (rest_world kinds cs)

-- and where edges lead, whoever does not wait has a transaction open and is a locking station, if each unfinished one is open
pub leads_to_open : (w : World) → Moving w → Quiet w → ((k : ℕ) → k < 8 → w.server.fin k ≡ false → locking (w.station k).kind ≡ true → (w.station k).opened ≡ true)
    → (i j : ℕ) → Path 8 (edge w.server) i j → waits w.server j ≡ false → ((w.station j).opened ≡ true) × (locking (w.station j).kind ≡ true)
leads_to_open w h q n i j p e =
    let s : Server = w.server in
    let z = path_last p in
    let k : ℕ = z.0 in
    edge_is s k j z.3
    (λ b. let o = h.owed k j z.1 z.2 in o.P3 (keeps w h q k j z.1 z.2 (o.P2a b)).0)
    (λ a o f.
    let g = h.inv.apart.locks.object_open j a o in
    let l : locking (w.station j).kind ≡ true = rw (← (h.inv.tokens j).kinds) g.locks in
    (n j z.2 g.unfinished l, l))
    (λ f. both (waits s j) (and_l (waits s j) _ f) e)
