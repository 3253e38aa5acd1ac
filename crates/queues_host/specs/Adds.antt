-- Of every list of calls of the exported functions from a fresh line: the next call, whatever it is, lengthens the line down to a locking
-- station by at most 40 messages, and to a validating one by at most 8.
use Rattle.std.specs.Prelude.{◌≡◌, refl, true, cond, List, [], ◌∷◌, ℕ, suc, ◌+◌, ◌≤◌, ◌<◌, length, get_or}
use Rattle.std.proofs.Common.{sym, ap, ◌∙◌, arith}
use Rattle.line.specs.Messages.{Down, locking}
use Rattle.line.specs.Line.{World, Call, act, fresh, run}
use Rattle.line.specs.Apart.{apart_run}
use Rattle.queues.specs.Most.{call_adds}
use Rattle.server_state.specs.Valid.{kinds_ok}
use Rattle.server_state.specs.Facts.{kinds_length}
use Rattle.line_bytes.specs.Bytes.{WorldB, act_b}
use Rattle.line_bytes.specs.Simulates.{Sim, AllDown, as_call, act_sim}
use Rattle.line_bytes.specs.Runs.{same_kinds}
use Rattle.line_host.specs.Line.{CallH, FitsH, AllFitH, WorldH, fresh_h, act_h, run_h, line_h}
use Rattle.line_host.specs.Same.{plain_of, plain_fits, act_same}
use Rattle.line_host.specs.Runs.{model_calls, hosts_simulate}

-- a line of bytes has as many messages as the line that it means
as_long : (i : ℕ) (ms : List (List ℕ)) (ds : List Down) → AllDown i ms ds → length ms ≡ length ds
as_long i [] [] h = refl
as_long i [] (d ∷ ds) h = absurd h
as_long i (m ∷ ms) [] h = absurd h
as_long i (m ∷ ms) (d ∷ ds) h = omega (arith, as_long i ms ds h.1)

module _ (kinds : List ℕ) (ok : kinds_ok kinds ≡ true) (cs : List CallH) (f : AllFitH cs) where
  -- the line before the call, and the one of `line` that it means
  abbrev before : WorldB
  before = (run_h cs (fresh_h kinds)).line

  abbrev meant : World
  meant = run (model_calls kinds cs) (fresh (λ i. get_or kinds i 0))

  alike : Sim kinds before meant
  alike = hosts_simulate kinds ok cs f

  pub host_adds : (c : CallH) → FitsH c → (j : ℕ) → j < 8
      → length ((act_h c (run_h cs (fresh_h kinds))).line.down j) ≤ length ((run_h cs (fresh_h kinds)).line.down j) + cond (locking (get_or kinds j 0)) 40 8
  host_adds c g j b =
      let m : Call = as_call before (plain_of c) in
      let next : Sim kinds (act_b (plain_of c) before) (act m meant).world = act_sim kinds (kinds_length kinds ok) (same_kinds kinds ok) (plain_of c) before meant (plain_fits c g) alike in
      let more : length ((act m meant).world.down j) ≤ length (meant.down j) + cond (locking (get_or kinds j 0)) 40 8 =
      rw (← alike.line.server_kinds j b) (call_adds meant j m b (apart_run (λ i. get_or kinds i 0) (model_calls kinds cs))) in
      rw (act_same c before)
      (omega (arith, as_long j (before.down j) (meant.down j) (alike.line.downs j), as_long j ((act_b (plain_of c) before).down j) ((act m meant).world.down j) (next.line.downs j)))
