-- Wish 4, first sentence: "after every server step, from a fresh line, the waits-for edges have no cycle".
use Rattle.std.proofs.lemmas.Bool.{false≢true}
use Rattle.std.specs.Prelude.{List, ℕ}
use Rattle.sets.specs.Reach.{Path}
use Rattle.sets.proofs.Reach.{path_from, path_edge}
use Rattle.line.specs.Server.{Server, fresh_server, edge, order, start, server_step}
use Rattle.line.specs.Pass.{order_8}
use Rattle.line.specs.Line.{Call, run, fresh}
use Rattle.line.specs.Apart.{Apart, apart_fresh, apart_step}
use Rattle.line.specs.Rest.{AtRest, rests}
use Rattle.line.specs.Runs.{Moves, run_keeps}
use Rattle.progress.specs.Held.{rest_start, held_pass}

-- what a step leaves, and every other call leaves alone
record Left (s : Server) : Type 0 where
  apart : Apart s
  rest : AtRest (start s)

-- a fresh line: nobody waits
rest_fresh : (kinds : ℕ → ℕ) → AtRest (start (fresh_server kinds))
rest_fresh kinds =
    record {
      passed = held_pass (order 8 0 (fresh_server kinds)) (start (fresh_server kinds)) (order_8 8 0 (fresh_server kinds)) (λ i b t. absurd (false≢true t));
      acyclic = λ j b p. false≢true (path_edge p).2;
    }

left_moves : Moves (λ s t u d. Left s) (λ s t u d. Left s)
left_moves =
    record {
      rests = λ s t u d h. h;
      owner = λ i op s t u d h. h;
      server = λ i m l s t u d b e n h.
          let a = apart_step i m s b n h.apart in
          record { apart = a; rest = rest_start (server_step i m s) a.waiting.arrivals_apart (rests i m s) };
      station = λ i m l s t u d e h. h;
    }

-- in every world of a run the server is at rest: a further pass would send and change nothing
pub rest_world : (kinds : ℕ → ℕ) (cs : List Call) → AtRest (start (run cs (fresh kinds)).server)
rest_world kinds cs = (run_keeps (λ s t u d. Left s) left_moves cs (fresh kinds) (record { apart = apart_fresh kinds; rest = rest_fresh kinds })).rest

-- .. and no path of edges leads back to where it starts
pub no_ring : (kinds : ℕ → ℕ) (cs : List Call) (j : ℕ) → Path 8 (edge (run cs (fresh kinds)).server) j j → ⊥
no_ring kinds cs j p = (rest_world kinds cs).acyclic j (path_from p) p
