-- The waiting list's order, cycles of edges, and the victim.
use Rattle.std.specs.Prelude.{ℕ, zero, suc, List, Bool, not, ◌&&◌, ◌||◌, cond, get_or, set, replicate, eqb, ltb}
use Rattle.std.specs.Int.Bits.{bit_or}
use Rattle.station_state.specs.Layout.{has_bit}
use Rattle.server_state.specs.Layout.{age_of, arrival_of, waits_b}
use Rattle.server_tests.specs.Tests.{edge_set}

-- "the list is passed in order": the waiter below n that arrived first, not before b; 8 for none
unfoldable pub comes_first : List ℕ → ℕ → ℕ → ℕ → Bool
comes_first s b r n = waits_b s n && not (ltb (arrival_of s n) b) && (eqb r 8 || ltb (arrival_of s n) (arrival_of s r))

unfoldable pub first_to_lem : List ℕ → ℕ → ℕ → ℕ
first_to_lem s b zero = 8
first_to_lem s b (suc n) = cond (comes_first s b (first_to_lem s b n) n) n (first_to_lem s b n)

-- the edges of the first n stations, a station set each
unfoldable pub edges_to : List ℕ → ℕ → List ℕ
edges_to s zero = replicate 8 0
edges_to s (suc i) = set (edges_to s i) i (edge_set s i)

-- the stations that one edge leads to from a set r
unfoldable pub spread_to : List ℕ → ℕ → ℕ → ℕ
spread_to e r zero = r
spread_to e r (suc k) = bit_or (spread_to e r k) (cond (has_bit r k) (get_or e k 0) 0)

-- n times so
unfoldable pub grown_to : List ℕ → ℕ → ℕ → ℕ
grown_to e r zero = r
grown_to e r (suc n) = spread_to e (grown_to e r n) 8

-- a path of edges leads from i back to i
unfoldable pub on_cycle_b : List ℕ → ℕ → Bool
on_cycle_b e i = has_bit (grown_to e (get_or e i 0) 8) i

-- "the youngest in any cycle": 8 for none
unfoldable pub younger_b : List ℕ → List ℕ → ℕ → ℕ → Bool
younger_b s e r n = waits_b s n && on_cycle_b e n && (eqb r 8 || ltb (age_of s r) (age_of s n))

unfoldable pub youngest_to : List ℕ → List ℕ → ℕ → ℕ
youngest_to s e zero = 8
youngest_to s e (suc n) = cond (younger_b s e (youngest_to s e n) n) n (youngest_to s e n)

unfoldable pub victim_b : List ℕ → ℕ
victim_b s = youngest_to s (edges_to s 8) 8
