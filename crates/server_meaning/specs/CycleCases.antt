-- Waits-for edges by example, as rows of one table, computed: eight edge sets, a byte for each station, and the set of those on a cycle, as
-- the definition has it and as the closure of the eight sets in one word.
use Rattle.std.specs.Prelude.{ℕ, ◌≡◌, List, [], ◌∷◌}
use Rattle.le.specs.Le.{u64_at}
use Rattle.cells.specs.Loops.{mask_to}
use Rattle.server_order.specs.Order.{on_cycle_b}
use Rattle.server_order.specs.Words.{edge_in}
use Rattle.server_order.specs.Closure.{close_to}

pub record Case : Type 0 where
  pub edges : List ℕ
  pub cycle : ℕ

abbrev pub case : ℕ → ℕ → ℕ → ℕ → ℕ → ℕ → ℕ → ℕ → ℕ → Case
case a b c d e f g h x = record { edges = a ∷ b ∷ c ∷ d ∷ e ∷ f ∷ g ∷ h ∷ []; cycle = x }

pub record Holds (c : Case) : Type 0 where
  pub cycle_is : mask_to (on_cycle_b c.edges) 8 ≡ c.cycle
  pub closed_is : mask_to (λ i. edge_in (close_to (u64_at c.edges 0) 8) i i) 8 ≡ c.cycle

abbrev pub AllHold : List Case → Type 0
AllHold [] = Unit {0}
AllHold (c ∷ cs) = Holds c × AllHold cs

unfoldable pub table : List Case
table =
    -- nobody waits
    case 0 0 0 0 0 0 0 0 0
    -- 0 waits for 1, 1 for 2, .. 6 for 7, which does not wait
    ∷ case 2 4 8 16 32 64 128 0 0
    -- 0 and 1 wait for each other
    ∷ case 2 1 0 0 0 0 0 0 3
    -- 2, 3 and 5 in a ring; 7 waits for one of it, and 3 also for 0
    ∷ case 0 0 8 33 0 4 0 8 44
    -- two rings, 0 with 7 and 3 with 4, and 1 waits for both
    ∷ case 128 9 0 16 8 0 0 1 153
    -- a ring of all
    ∷ case 2 4 8 16 32 64 128 1 255
    -- everybody waits for everybody else
    ∷ case 254 253 251 247 239 223 191 127 255
    -- whoever is waited for by all, but waits for nobody, is on no cycle
    ∷ case 4 4 0 4 4 4 4 4 0
    ∷ []
