-- DRAINS, WAITS END, of the functions that hosts call: deliveries alone come to an end; and from there, if nobody begins and each owner
-- that does not wait ends its transaction, after eight rounds nobody waits.
use Prim.Native.Nat.{ℕ, zero, suc, ◌+◌, ◌*◌, ◌≤◌, ◌<◌}
use Rattle.std.specs.Prelude.{◌≡◌, Bool, true, false, not, cond, eqb, ltb, length, get_or}
use Rattle.std.proofs.Math.Path.{refl, subst}
use Rattle.std.proofs.Common.{sym, ap, ◌∙◌, arith, lt-ltb}
use Rattle.std.proofs.lemmas.Bool.{false≢true}
use mathlib.Core.List.{List, [], ◌∷◌, ◌++◌}
use Rattle.sets.specs.Laws.{by_b}
use Rattle.sets.proofs.Laws.{any_no, ltb_yes}
use Rattle.line.specs.All.{All}
use Rattle.line.specs.Messages.{Up, Down}
use Rattle.line.specs.Station.{waiting}
use Rattle.line.specs.Fuel.{sum_to}
use Rattle.line.specs.Truth.{count}
use Rattle.line.specs.Line.{World, Call, Owner, ServerTakes, StationTakes, Broken, is_refused, act, fresh, run}
use Rattle.jams.specs.Theorem.{NothingJams}
use Rattle.jams.specs.Jams as Model
use Rattle.drains.specs.Drains.{delivers, Deliveries, drains, up_way, down_way, weight_most}
use Rattle.drains.specs.Ends.{calm, ends_of}
use Rattle.drains.specs.Rounds.{Calm, Round, Rounds, runs, some_waits}
use Rattle.drains.specs.Runs.{waits_end_of_run}
use Rattle.station_answer.specs.Ask.{open_b}
use Rattle.station_meaning.proofs.Tests.{open_at}
use Rattle.server_state.specs.Valid.{kinds_ok}
use Rattle.host.specs.Host.{told_length}
use Rattle.server_host.specs.Host.{served_length}
use Rattle.call_meaning.specs.Calls.{AllReads}
use Rattle.line_bytes.specs.Bytes.{WorldB, fresh_b, CallB, AllFit, run_b, act_b}
use Rattle.line_bytes.specs.Simulates.{Sim, AllDown, as_call}
use Rattle.line_bytes.specs.Runs.{calls_of}
use Rattle.line_bytes.specs.Whole.{Room, AllRoom, names_of, same_run}
use Rattle.line_host.specs.Line.{operation, CallH, OwnerH, StationH, ServerH, FitsH, AllFitH, fresh_h, run_h}
use Rattle.line_host.specs.Same.{few_values, plain_of, plains_of, plains_fit, run_same}
use Rattle.line_host.specs.Runs.{model_calls, hosts_simulate}
use Rattle.line_waits.specs.Jams.{EnoughServer, EnoughStation, at_least}
use Rattle.line_waits.specs.Waits.{owner_waits, QuietB, valid_then, quiet_so, owner_is}

-- CALLS THAT ARE LENT ENOUGH

abbrev pub Enough : CallH → Type 0
Enough (OwnerH i op o c t) = EnoughStation o c t × (few_values op ≡ false)
Enough (StationH i o c t) = EnoughStation o c t
Enough (ServerH i o q t) = EnoughServer o q t

abbrev pub AllEnough : List CallH → Type 0
AllEnough [] = Unit {0}
AllEnough (c ∷ cs) = Enough c × AllEnough cs

-- the line's call of its name
abbrev pub name_h : CallH → Call
name_h (OwnerH i op o c t) = Owner i (operation op)
name_h (StationH i o c t) = StationTakes i
name_h (ServerH i o q t) = ServerTakes i

abbrev pub names_h : List CallH → List Call
names_h [] = []
names_h (c ∷ cs) = name_h c ∷ names_h cs

names_plain : (cs : List CallH) → names_of (plains_of cs) ≡ names_h cs
names_plain [] = refl
names_plain (OwnerH i op o c t ∷ cs) = ap (λ (l : List Call). Owner i (operation op) ∷ l) (names_plain cs)
names_plain (StationH i o c t ∷ cs) = ap (λ (l : List Call). StationTakes i ∷ l) (names_plain cs)
names_plain (ServerH i o q t ∷ cs) = ap (λ (l : List Call). ServerTakes i ∷ l) (names_plain cs)

room_of : (c : CallH) → Enough c → Room (plain_of c)
room_of (OwnerH i op o c t) e = rw (e.1, at_least told_length t e.0.told) (e.0.messages, e.0.commit)
room_of (StationH i o c t) e = rw (at_least told_length t e.told) (e.messages, e.commit)
room_of (ServerH i o q t) e = rw (at_least served_length t e.served) (e.messages, e.records)

rooms_of : (cs : List CallH) → AllEnough cs → AllRoom (plains_of cs)
rooms_of [] e = tt
rooms_of (c ∷ cs) e = (room_of c e.0, rooms_of cs e.1)

-- one list behind another
plains_join : (cs ds : List CallH) → plains_of (cs ++ ds) ≡ plains_of cs ++ plains_of ds
plains_join [] ds = refl
plains_join (c ∷ cs) ds = ap (λ (l : List CallB). plain_of c ∷ l) (plains_join cs ds)

pub fits_join : (cs ds : List CallH) → AllFitH cs → AllFitH ds → AllFitH (cs ++ ds)
fits_join [] ds f g = g
fits_join (c ∷ cs) ds f g = (f.0, fits_join cs ds f.1 g)

calls_join : (cs ds : List CallB) (b : WorldB) → calls_of (cs ++ ds) b ≡ calls_of cs b ++ calls_of ds (run_b cs b)
unfolding run_b
calls_join [] ds b = refl
calls_join (c ∷ cs) ds b = ap (λ (l : List Call). as_call b c ∷ l) (calls_join cs ds (act_b c b))

run_join : (cs ds : List Call) (w : World) → run (cs ++ ds) w ≡ run ds (run cs w)
unfolding run
run_join [] ds w = refl
run_join (c ∷ cs) ds w = run_join cs ds (act c w).world

module _ (kinds : List ℕ) (ok : kinds_ok kinds ≡ true) where
  abbrev k : ℕ → ℕ
  k i = get_or kinds i 0

  -- the line as hosts run it, and the world of `line` that it means, behind these calls
  abbrev pub after : List CallH → WorldB
  after cs = (run_h cs (fresh_h kinds)).line

  abbrev meant : List CallH → World
  meant cs = run (model_calls kinds cs) (fresh k)

  -- behind any calls, calls that are lent enough are those of their names
  meant_more : (cs ds : List CallH) → AllFitH cs → AllFitH ds → AllEnough ds → meant (cs ++ ds) ≡ run (names_h ds) (meant cs)
  meant_more cs ds f g e =
      ap (λ (l : List CallB). run (calls_of l (fresh_b kinds)) (fresh k)) (plains_join cs ds)
      ∙ ap (λ (l : List Call). run l (fresh k)) (calls_join (plains_of cs) (plains_of ds) (fresh_b kinds))
      ∙ run_join (model_calls kinds cs) (calls_of (plains_of ds) (run_b (plains_of cs) (fresh_b kinds))) (fresh k)
      ∙ same_run kinds ok (plains_of ds) (plains_of cs) (plains_fit cs f) (plains_fit ds g) (rooms_of ds e)
      ∙ ap (λ (l : List Call). run l (meant cs)) (names_plain ds)

  -- DELIVERIES

  -- the call is a delivery, lent enough, and there is a message to deliver
  abbrev pub DeliversH : CallH → WorldB → Type 0
  DeliversH (OwnerH i op o c t) w = ⊥
  DeliversH (StationH i o c t) w = (i < 8) × EnoughStation o c t × (0 < length (w.down i))
  DeliversH (ServerH i o q t) w = (i < 8) × EnoughServer o q t × (0 < length (w.up i))

  abbrev pub DeliveriesH : List CallH → List CallH → Type 0
  DeliveriesH cs [] = Unit {0}
  DeliveriesH cs (d ∷ ds) = DeliversH d (after cs) × DeliveriesH (cs ++ (d ∷ [])) ds

  -- messages under way
  abbrev pub up_way_b : WorldB → ℕ
  up_way_b w = sum_to 8 (λ i. length (w.up i))

  abbrev pub down_way_b : WorldB → ℕ
  down_way_b w = sum_to 8 (λ i. length (w.down i))

  same_ups : (i : ℕ) (ms : List (List ℕ)) (us : List Up) → AllReads kinds i ms us → length ms ≡ length us
  same_ups i [] [] h = refl
  same_ups i [] (u ∷ us) h = absurd h
  same_ups i (m ∷ ms) [] h = absurd h
  same_ups i (m ∷ ms) (u ∷ us) h = ap suc (same_ups i ms us h.1)

  same_downs : (i : ℕ) (ms : List (List ℕ)) (ds : List Down) → AllDown i ms ds → length ms ≡ length ds
  same_downs i [] [] h = refl
  same_downs i [] (d ∷ ds) h = absurd h
  same_downs i (m ∷ ms) [] h = absurd h
  same_downs i (m ∷ ms) (d ∷ ds) h = ap suc (same_downs i ms ds h.1)

  sum_same : (n : ℕ) (f g : ℕ → ℕ) → ((i : ℕ) → f i ≡ g i) → sum_to n f ≡ sum_to n g
  unfolding sum_to
  sum_same zero f g h = refl
  sum_same (suc n) f g h = rw (h n, sum_same n f g h) refl

  -- a line with a message in it moves
  taken_call : (cs : List CallH) → AllFitH cs → (d : CallH) → DeliversH d (after cs) → (delivers (name_h d) ≡ true) × (is_refused (act (name_h d) (meant cs)).reply.answer ≡ false) × Enough d
  taken_call cs f (OwnerH i op o c t) h = absurd h
  taken_call cs f (StationH i o c t) h =
      let sim = hosts_simulate kinds ok cs f in
      let n : 0 < length ((meant cs).down i) = rw (← same_downs i ((after cs).down i) ((meant cs).down i) (sim.line.downs i)) h.2 in
      (refl, moves ((meant cs).down i) refl n, h.1)
    where
      moves : (l : List Down) → (meant cs).down i ≡ l → 0 < length l → is_refused (act (StationTakes i) (meant cs)).reply.answer ≡ false
      moves [] e n = absurd (omega arith)
      moves (m ∷ l) e n = ((Model.nothing_jams k (model_calls kinds cs)).down i m l h.0 e).0
  taken_call cs f (ServerH i o q t) h =
      let sim = hosts_simulate kinds ok cs f in
      let n : 0 < length ((meant cs).up i) = rw (← same_ups i ((after cs).up i) ((meant cs).up i) (sim.line.ups i)) h.2 in
      (refl, moves ((meant cs).up i) refl n, h.1)
    where
      moves : (l : List Up) → (meant cs).up i ≡ l → 0 < length l → is_refused (act (ServerTakes i) (meant cs)).reply.answer ≡ false
      moves [] e n = absurd (omega arith)
      moves (m ∷ l) e n = ((Model.nothing_jams k (model_calls kinds cs)).up i m l h.0 e).0

  fit_one : (d : CallH) (w : WorldB) → DeliversH d w → AllFitH (d ∷ [])
  fit_one (OwnerH i op o c t) w h = absurd h
  fit_one (StationH i o c t) w h = (tt, tt)
  fit_one (ServerH i o q t) w h = (tt, tt)

  all_taken : (ds cs : List CallH) → AllFitH cs → DeliveriesH cs ds → Deliveries (names_h ds) (meant cs)
  unfolding run
  all_taken [] cs f h = tt
  all_taken (d ∷ ds) cs f h =
      let t = taken_call cs f d h.0 in
      let g = fit_one d (after cs) h.0 in
      (t.0, t.1, subst (Deliveries (names_h ds)) (meant_more cs (d ∷ []) f g (t.2, tt)) (all_taken ds (cs ++ (d ∷ [])) (fits_join cs (d ∷ []) f g) h.1))

  names_length : (ds : List CallH) → length (names_h ds) ≡ length ds
  names_length [] = refl
  names_length (d ∷ ds) = ap suc (names_length ds)

  -- whatever their order, they are at most 28 for each message up, 3 for each down, and 376
  pub drains_of_hosts : (cs ds : List CallH) → AllFitH cs → DeliveriesH cs ds → length ds ≤ 28 * up_way_b (after cs) + 3 * down_way_b (after cs) + 376
  drains_of_hosts cs ds f h =
      let sim = hosts_simulate kinds ok cs f in
      let up : up_way_b (after cs) ≡ up_way (meant cs) = sum_same 8 (λ i. length ((after cs).up i)) (λ i. length ((meant cs).up i)) (λ i. same_ups i ((after cs).up i) ((meant cs).up i) (sim.line.ups i)) in
      let down : down_way_b (after cs) ≡ down_way (meant cs) = sum_same 8 (λ i. length ((after cs).down i)) (λ i. length ((meant cs).down i)) (λ i. same_downs i ((after cs).down i) ((meant cs).down i) (sim.line.downs i)) in
      omega (arith, up, down, drains (names_h ds) (meant cs) (all_taken ds cs f h), weight_most (meant cs), names_length ds)

  -- ROUNDS

  -- behind the calls cs, with nothing under way: each owner that does not wait ends its transaction, and what is sent is delivered, in any
  -- order, until nothing is under way
  pub record RoundH (cs r : List CallH) : Type 0 where
    pub fits : AllFitH r
    pub enough : AllEnough r
    pub calls : All (λ c. calm (name_h c) ≡ true) r
    pub all_end : (i : ℕ) → i < 8 → open_b ((after cs).station i) ≡ true → owner_waits ((after cs).station i) ≡ false → 1 ≤ count (λ c. ends_of i (name_h c)) r
    pub quiet : QuietB (after (cs ++ r))

  abbrev pub RoundsH : List CallH → List (List CallH) → Type 0
  RoundsH cs [] = Unit {0}
  RoundsH cs (r ∷ rs) = RoundH cs r × RoundsH (cs ++ r) rs

  abbrev pub joined : List CallH → List (List CallH) → List CallH
  joined cs [] = cs
  joined cs (r ∷ rs) = joined (cs ++ r) rs

  abbrev all_names : List (List CallH) → List (List Call)
  all_names [] = []
  all_names (r ∷ rs) = names_h r ∷ all_names rs

  calm_names : (r : List CallH) → All (λ c. calm (name_h c) ≡ true) r → Calm (names_h r)
  calm_names [] h = tt
  calm_names (c ∷ r) h = (h.0, calm_names r h.1)

  count_names : (i : ℕ) (r : List CallH) → count (ends_of i) (names_h r) ≡ count (λ c. ends_of i (name_h c)) r
  count_names i [] = refl
  count_names i (c ∷ r) = ap (λ (n : ℕ). cond (ends_of i (name_h c)) 1 0 + n) (count_names i r)

  round_so : (cs r : List CallH) → AllFitH cs → RoundH cs r → Round (meant cs) (names_h r)
  round_so cs r f h =
      let sim = hosts_simulate kinds ok cs f in
      let g = fits_join cs r f h.fits in
      let v = valid_then kinds ok cs f in
      record {
        calls = calm_names r h.calls;
        all_end = λ i l o w. rw (count_names i r) (h.all_end i l (open_at (sim.line.stations i l).is ∙ o) (owner_is kinds (after cs) (meant cs) sim v i l ∙ w));
        quiet = rw (← meant_more cs r f h.fits h.enough) (quiet_so kinds (after (cs ++ r)) (meant (cs ++ r)) (hosts_simulate kinds ok (cs ++ r) g) (valid_then kinds ok (cs ++ r) g) h.quiet);
      }

  rounds_so : (rs : List (List CallH)) (cs : List CallH) → AllFitH cs → RoundsH cs rs → Rounds (all_names rs) (meant cs)
  rounds_so [] cs f h = tt
  rounds_so (r ∷ rs) cs f h =
      (round_so cs r f h.0, subst (Rounds (all_names rs)) (meant_more cs r f h.0.fits h.0.enough) (rounds_so rs (cs ++ r) (fits_join cs r f h.0.fits) h.1))

  all_fit_lem : (rs : List (List CallH)) (cs : List CallH) → AllFitH cs → RoundsH cs rs → AllFitH (joined cs rs)
  all_fit_lem [] cs f h = f
  all_fit_lem (r ∷ rs) cs f h = all_fit_lem rs (cs ++ r) (fits_join cs r f h.0.fits) h.1

  meant_runs : (rs : List (List CallH)) (cs : List CallH) → AllFitH cs → RoundsH cs rs → meant (joined cs rs) ≡ runs (all_names rs) (meant cs)
  meant_runs [] cs f h = refl
  meant_runs (r ∷ rs) cs f h =
      meant_runs rs (cs ++ r) (fits_join cs r f h.0.fits) h.1 ∙ ap (runs (all_names rs)) (meant_more cs r f h.0.fits h.0.enough)

  all_length : (rs : List (List CallH)) → length (all_names rs) ≡ length rs
  all_length [] = refl
  all_length (r ∷ rs) = ap suc (all_length rs)

  -- after eight rounds nobody waits
  pub waits_end_of_hosts : (cs : List CallH) (rs : List (List CallH)) → AllFitH cs → QuietB (after cs) → RoundsH cs rs → 8 ≤ length rs
      → (i : ℕ) → i < 8 → owner_waits ((after (joined cs rs)).station i) ≡ false
  waits_end_of_hosts cs rs f q h n i l =
      let g = all_fit_lem rs cs f h in
      let quiet = quiet_so kinds (after cs) (meant cs) (hosts_simulate kinds ok cs f) (valid_then kinds ok cs f) q in
      let none : some_waits (meant (joined cs rs)) ≡ false = rw (meant_runs rs cs f h) (waits_end_of_run k (model_calls kinds cs) (all_names rs) quiet (rounds_so rs cs f h) (rw (all_length rs) n)) in
      owner_is kinds (after (joined cs rs)) (meant (joined cs rs)) (hosts_simulate kinds ok (joined cs rs) g) (valid_then kinds ok (joined cs rs) g) i l
      ∙ any_no 8 (λ j. waiting ((meant (joined cs rs)).station j).wait) none i l
