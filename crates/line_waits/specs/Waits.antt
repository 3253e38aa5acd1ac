-- NO RING, LEADS OUT: the waits-for edges of the server's state, as bytes, have no cycle; and when no message is under way, whoever waits
-- leads along them to a station that does not.
use Rattle.std.specs.Prelude.{ℕ, ◌<◌, ◌≡◌, refl, Bool, true, false, not, List, [], ◌∷◌, eqb, get_or}
use Rattle.std.proofs.Common.{sym, ◌∙◌}
use Rattle.sets.specs.Reach.{Path}
use Rattle.sets.proofs.Reach.{path_by}
use Rattle.line.specs.Messages.{Up, Down}
use Rattle.line.specs.Station.{waiting}
use Rattle.line.specs.Server.{Server, edge, waits}
use Rattle.line.specs.Line.{World, Call, run, fresh}
use Rattle.progress.specs.Out.{Quiet}
use Rattle.progress.specs.Out
use Rattle.progress.specs.Ring
use Rattle.station_state.specs.Layout.{wait}
use Rattle.station_meaning.proofs.Tests.{waiting_at}
use Rattle.server_state.specs.Layout.{waits_b}
use Rattle.server_state.specs.Valid.{valid, kinds_ok}
use Rattle.server_tests.specs.Tests.{edge_b, edge_set}
use Rattle.server_sets.specs.Sets as Bytes
use Rattle.server_meaning.proofs.Sets.{edge_set_lem}
use Rattle.server_meaning.proofs.Tests.{wanting, waits_at}
use Rattle.call_meaning.specs.Calls.{AllReads}
use Rattle.line_bytes.specs.Bytes.{WorldB}
use Rattle.line_bytes.specs.Simulates.{Sim, AllDown}
use Rattle.line_bytes.specs.Ready.{valid_of_run}
use Rattle.line_host.specs.Line.{CallH, AllFitH, fresh_h, run_h}
use Rattle.line_host.specs.Same.{plains_of, plains_fit, run_same}
use Rattle.line_host.specs.Runs.{model_calls, hosts_simulate}

-- station i's owner waits, by its state
abbrev pub owner_waits : List ℕ → Bool
owner_waits s = not (eqb (wait s) 0)

-- no message is under way
abbrev pub QuietB : WorldB → Type 0
QuietB w = (i : ℕ) → i < 8 → (w.up i ≡ []) × (w.down i ≡ [])

-- the edges have no cycle
abbrev pub NoRing : WorldB → Type 0
NoRing w = (i : ℕ) → i < 8 → Path 8 (edge_b w.server) i i → ⊥

-- who waits has its entry at the server, and leads along edges to a station that waits neither there nor by its own state
pub record LeadsOut (w : WorldB) (i : ℕ) : Type 0 where
  pub entry : waits_b w.server i ≡ true
  pub end : ℕ
  pub station : end < 8
  pub path : Path 8 (edge_b w.server) i end
  pub idle : owner_waits (w.station end) ≡ false
  pub no_entry : waits_b w.server end ≡ false

-- lines
up_empty : (kinds : List ℕ) (i : ℕ) (us : List Up) → AllReads kinds i [] us → us ≡ []
up_empty kinds i [] h = refl
up_empty kinds i (u ∷ us) h = absurd h

down_empty : (i : ℕ) (ds : List Down) → AllDown i [] ds → ds ≡ []
down_empty i [] h = refl
down_empty i (d ∷ ds) h = absurd h

module _ (kinds : List ℕ) (b : WorldB) (w : World) (h : Sim kinds b w) (v : valid b.server ≡ true) where
  edge_is : (i j : ℕ) → i < 8 → j < 8 → edge_b b.server i j ≡ edge w.server i j
  edge_is i j li lj = sym (Bytes.edge_set_lem b.server i j lj) ∙ edge_set_lem h.line.server (wanting b.server v) i j li lj

  pub no_ring_so : ((i : ℕ) → i < 8 → Path 8 (edge w.server) i i → ⊥) → NoRing b
  no_ring_so k i l p = k i l (path_by (λ a c la lc e. sym (edge_is a c la lc) ∙ e) p)

  pub quiet_so : QuietB b → Quiet w
  quiet_so q =
      record {
        ups = λ i l. up_empty kinds i (w.up i) (rw (q i l).0 at (h.line.ups i));
        downs = λ i l. down_empty i (w.down i) (rw (q i l).1 at (h.line.downs i));
      }

  waits_is : (i : ℕ) → i < 8 → waits_b b.server i ≡ waits w.server i
  waits_is i l = waits_at h.line.server i l (wanting b.server v i l)

  pub owner_is : (i : ℕ) → i < 8 → owner_waits (b.station i) ≡ waiting (w.station i).wait
  owner_is i l = waiting_at (h.line.stations i l).is

  leads_so : (i : ℕ) → i < 8 → waits w.server i ≡ true → Out.LeadsOut w i → LeadsOut b i
  leads_so i l e k =
      record {
        entry = waits_is i l ∙ e;
        end = k.end;
        station = k.below;
        path = path_by (λ a c la lc e. edge_is a c la lc ∙ e) k.path;
        idle = owner_is k.end k.below ∙ k.owner;
        no_entry = waits_is k.end k.below ∙ k.entry;
      }

-- FOR EVERY CHOICE OF KINDS and every list of calls from a fresh line, with any arguments and any buffers
module _ (kinds : List ℕ) (ok : kinds_ok kinds ≡ true) (cs : List CallH) (f : AllFitH cs) where
  abbrev k : ℕ → ℕ
  k i = get_or kinds i 0

  abbrev b : WorldB
  b = (run_h cs (fresh_h kinds)).line

  abbrev calls : List Call
  calls = model_calls kinds cs

  pub valid_then : valid b.server ≡ true
  valid_then = rw (run_same cs (fresh_h kinds)) (valid_of_run kinds ok (plains_of cs) (plains_fit cs f))

  pub no_ring : NoRing b
  no_ring = no_ring_so kinds b (run calls (fresh k)) (hosts_simulate kinds ok cs f) valid_then (λ i l. Ring.no_ring k calls i)

  pub leads_out : QuietB b → (i : ℕ) → i < 8 → owner_waits (b.station i) ≡ true → LeadsOut b i
  leads_out q i l e =
      let w = run calls (fresh k) in
      let h = hosts_simulate kinds ok cs f in
      let z = Out.leads_out k calls (quiet_so kinds b w h valid_then q) i l (sym (owner_is kinds b w h valid_then i l) ∙ e) in
      leads_so kinds b w h valid_then i l z.0 z.1
