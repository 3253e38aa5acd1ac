-- The archive afterwards is the archive before with what the calls showed to be archived, in order.
use Rattle.std.specs.Prelude.{ℕ, ◌<◌, ◌≡◌, refl, true, List, [], ◌∷◌, ◌++◌, eqb}
use Rattle.std.proofs.Common.{sym, ap, ◌∙◌, append-nil, append_assoc, lt-ltb}
use Rattle.sets.specs.Laws.{by_b}
use Rattle.sets.proofs.Laws.{and_l, and_r}
use Rattle.line.specs.Messages.{Answer, Nothing, Begun, Value, Waits, Written, CommittedAs, AbortedFor, Purged, Refused, Empty}
use Rattle.line.specs.Line.{Op, is_refused}
use Rattle.line.specs.Rows.{station_of}
use Rattle.server_actions.specs.Step.{server_called}
use Rattle.call_meaning.specs.Relation.{answer_of}
use Rattle.call_meaning.specs.Calls.{step_b}
use Rattle.line_bytes.specs.Bytes.{WorldB, CallB, OwnerB, ServerTakesB, StationTakesB, tell_b, carry_up_b, carry_down_b, owner_acts_b, station_takes_b, server_takes_b, act_b, run_b}
use Rattle.line_bytes.specs.Whole.{name_of, names_of}
use Rattle.line_cases.specs.Seen.{Step, taken_shows, served_shows, shows, seen_b}
use Rattle.line_cases.specs.Shown.{right, all_right, call_right}

abbrev pub joined : List Step → List ℕ
joined [] = []
joined (s ∷ l) = s.archived ++ joined l

-- telling owners leaves it
told_archive : (i : ℕ) (op : Op) (a : Answer) (b : WorldB) → (tell_b i op a b).archive ≡ b.archive
unfolding tell_b
told_archive i op Nothing b = refl
told_archive i op (Begun t) b = refl
told_archive i op (Value v) b = refl
told_archive i op Waits b = refl
told_archive i op Written b = refl
told_archive i op (CommittedAs n) b = refl
told_archive i op (AbortedFor c) b = refl
told_archive i op Purged b = refl
told_archive i op (Refused n) b = refl
told_archive i op Empty b = refl

taken_archive : (i : ℕ) (ms : List (List ℕ)) (o c : List ℕ) (b : WorldB) → (station_takes_b i ms o c b).archive ≡ b.archive ++ (taken_shows i ms o c b).archived
unfolding station_takes_b carry_up_b
taken_archive i [] o c b = sym (append-nil b.archive)
taken_archive i (x ∷ ms) o c b =
    by_b (is_refused (answer_of (step_b x (b.station i) o c).said.answer)) (λ e. rw e (told_archive i (b.asked i) _ _ ∙ sym (append-nil b.archive)))
    (λ e. rw e (told_archive i (b.asked i) _ _ ∙ sym (append-nil b.archive)))

served_archive : (i : ℕ) (ms : List (List ℕ)) (o q : List ℕ) (b : WorldB) → (server_takes_b i ms o q b).archive ≡ b.archive ++ (served_shows i ms o q b).archived
unfolding server_takes_b carry_down_b
served_archive i [] o q b = sym (append-nil b.archive)
served_archive i (x ∷ ms) o q b = by_b (eqb (server_called x b.server o q).number 0) (λ e. rw e) (λ e. rw e)

call_archive : (c : CallB) (b : WorldB) → station_of (name_of c) < 8 → (act_b c b).archive ≡ b.archive ++ (shows c b).archived
unfolding act_b shows owner_acts_b carry_up_b
call_archive (OwnerB i op o c) b l = rw (lt-ltb i 8 l) (told_archive i op _ _ ∙ sym (append-nil b.archive))
call_archive (ServerTakesB i o q) b l = rw (lt-ltb i 8 l) (served_archive i (b.up i) o q b)
call_archive (StationTakesB i o c) b l = rw (lt-ltb i 8 l) (taken_archive i (b.down i) o c b)

pub archive_is : (cs : List CallB) (b : WorldB) → all_right (names_of cs) ≡ true → (run_b cs b).archive ≡ b.archive ++ joined (seen_b cs b)
unfolding run_b seen_b
archive_is [] b e = sym (append-nil b.archive)
archive_is (c ∷ cs) b e =
    let first = (call_right c (and_l (right (name_of c)) (all_right (names_of cs)) e)).0 in
    archive_is cs (act_b c b) (and_r (right (name_of c)) (all_right (names_of cs)) e)
    ∙ ap (λ (x : List ℕ). x ++ joined (seen_b cs (act_b c b))) (call_archive c b first)
    ∙ append_assoc b.archive (shows c b).archived (joined (seen_b cs (act_b c b)))
