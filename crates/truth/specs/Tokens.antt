-- Layer 1: a station has at most one token under way (1, 2, 3 going up, a waiter, 16, 17, 18, 21, 22 coming down), and it fits what the
-- station waits for. After every list of calls; it needs no other layer.
use Rattle.std.specs.Prelude.{◌≡◌, Bool, ◌&&◌, ◌||◌, List, ◌++◌}
use Rattle.std.proofs.Math.Path.{sym}
use Rattle.std.proofs.Common.{◌∙◌}
use Rattle.std.proofs.Math.Bool.{true, false}
use Rattle.std.proofs.lemmas.Bool.{false≢true}
use Prim.Native.Nat.{ℕ, ◌≤◌, ◌<◌}
use Rattle.sets.specs.Base.{Val, none}
use Rattle.line.specs.All.{All}
use Rattle.line.specs.Messages.{locking, Up, Down, Page, Deescalate, Callback, Committed, Aborted, Invalidate}
use Rattle.line.specs.Station.{Station, Did, Wait, ForCommit, waiting, for_read, for_write, writes_to, for_commit}
use Rattle.line.specs.Server.{Server, Waiter, no_waiter, abort}
use Rattle.line.specs.Truth.{count}
use Rattle.truth.specs.Clauses.{stale, token_up, token_down, lock_wait, abort_wait, FitUp, FitDown, Tokens, TokensAt}

pub both : {G : Type 0} (b : Bool) → b ≡ true → b ≡ false → G
both b t f = absurd (false≢true (sym f ∙ t))

pub not_token : {G : Type 0} → true ≡ false → G
not_token e = absurd (false≢true (sym e))

-- a wait that no token but a 1 or 16 fits
pub record Deaf (kind : ℕ) (w : Wait) : Type 0 where
  pub lock : (p : ℕ) → lock_wait kind w p ≡ false
  pub read : (a : ℕ) → (locking kind && for_read w a) ≡ false
  pub commit : for_commit w ≡ false
  pub abort : abort_wait kind w ≡ false

-- A QUIET STATION: no token anywhere. Then its wait, reads and writes may be any
pub record Quiet (skind kind num : ℕ) (opened : Bool) (q : Waiter) (U : List Up) (D : List Down) : Type 0 where
  pub kinds : skind ≡ kind
  pub empty : q ≡ no_waiter
  pub no_up : count (token_up (stale kind num opened)) U ≡ 0
  pub no_down : count (token_down (stale kind num opened)) D ≡ 0
  pub fits_up : (w : Wait) → All (FitUp kind num opened w) U
  pub fits_down : (w : Wait) → All (FitDown kind num opened w) D

-- the clauses of the station alone
pub record Own (opened : Bool) (rd wr : ℕ → Val) (w : Wait) : Type 0 where
  pub S5 : (a : ℕ) → for_read w a ≡ true → (rd a ≡ none) × (wr a ≡ none)
  pub S6 : opened ≡ false → ((a : ℕ) → (rd a ≡ none) × (wr a ≡ none)) × (waiting w ≡ false)
  pub range_wait : (a : ℕ) → (for_read w a || for_write w a) ≡ true → a < 256
  pub range_page : (p : ℕ) → writes_to w p ≡ true → p < 32
  pub range_used : (a : ℕ) → 256 ≤ a → (rd a ≡ none) × (wr a ≡ none)

abbrev pub Range : (ℕ → Val) → (ℕ → Val) → Type 0
Range rd wr = (a : ℕ) → 256 ≤ a → (rd a ≡ none) × (wr a ≡ none)

-- A STATION'S MOVE: what it has done, with the messages it sent at the end of its up line
abbrev pub After : ℕ → Waiter → ℕ → Bool → List Up → List Down → Did → Type 0
After skind q latest fin U D d =
    Tokens skind d.station.kind d.station.num d.station.opened d.station.rd d.station.wr d.station.wait q latest fin (U ++ d.sent) D

abbrev pub Before : ℕ → Waiter → ℕ → Bool → List Up → List Down → Station → Type 0
Before skind q latest fin U D s = Tokens skind s.kind s.num s.opened s.rd s.wr s.wait q latest fin U D

abbrev pub AllTokens : Server → (ℕ → Station) → (ℕ → List Up) → (ℕ → List Down) → Type 0
AllTokens s t u d = (i : ℕ) → TokensAt s t u d i

pub record Frozen (s t : Station) : Type 0 where
  pub num : t.num ≡ s.num
  pub opened : t.opened ≡ s.opened
  pub rd : t.rd ≡ s.rd
  pub wr : t.wr ≡ s.wr
  pub wait : t.wait ≡ s.wait

pub not_idle : {G : Type 0} (w : Wait) → w ≡ ForCommit → waiting w ≡ false → G
not_idle w e f = absurd (false≢true (sym (rw e at f)))

-- the 21 and 22
abbrev pub ends : Down → Bool
ends (Page l a t v u x) = false
ends (Deescalate p t) = false
ends (Callback r t set) = false
ends (Committed t n) = true
ends (Aborted t c) = true
ends (Invalidate d) = false
