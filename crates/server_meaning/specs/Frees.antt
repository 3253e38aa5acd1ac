-- "every transaction's end frees its locks".
use Rattle.std.specs.Prelude.{ℕ, suc, Bool, not, cond, ◌&&◌, eqb}
use Rattle.sets.specs.Base.{nowhere, zeros}
use Rattle.cells.specs.Upd.{bulk}
use Rattle.line.specs.Server.{Server, set_wl, set_whole_for, set_asked, unlocks}

-- station i holds it
abbrev pub own : ℕ → (ℕ → ℕ) → ℕ → Bool
own i f a = eqb (f a) (suc i)

-- pages below n
abbrev pub pages_free : Server → ℕ → ℕ → Server
pages_free m i n =
    set_wl (set_whole_for (set_asked m (bulk m.asked (own i m.wl) nowhere n)) (bulk m.whole_for (own i m.wl) zeros n)) (bulk m.wl (own i m.wl) zeros n)

-- the pages that a transaction's end frees: none of a keeping station
abbrev pub pages_end : Server → ℕ → Server
pages_end m i =
    set_wl (set_whole_for (set_asked m (λ p. not (unlocks (m.kind i) i (m.wl p)) && m.asked p)) (λ p. cond (unlocks (m.kind i) i (m.wl p)) 0 (m.whole_for p)))
    (λ p. cond (unlocks (m.kind i) i (m.wl p)) 0 (m.wl p))
