-- What numbers 1 to 6 tell, where none of them is due: all that the step's parts ask for.
use Rattle.std.specs.Prelude.{ℕ, ◌+◌, ◌*◌, ◌≤◌, ◌<◌, ◌≡◌, refl, ◌≢◌, true, false, ◌&&◌, List, [], ◌∷◌, length}
use Rattle.std.proofs.Common.{sym, ◌∙◌, arith}
use Rattle.std.proofs.Math.Dec.{leb}
use borrow.Author.Tests.{leb-true, ne_eqb}
use Rattle.sets.specs.Laws.{by_eq}
use Rattle.sets.proofs.Laws.{eqb_same, eqb_yes, eqb_no, and_l, and_r}
use Rattle.cells.specs.Num.{AllBytes}
use Rattle.cells.proofs.Num.{bytes_all}
use Rattle.line.specs.Messages.{Sent}
use Rattle.line.specs.Server.{no_waiter, start, accept, server_step}
use Rattle.line.specs.Bounds.{step_128, step_8}
use Rattle.message.specs.Layout.{message_length, kind_of, station_of, page_of, requester_of, transaction_of}
use Rattle.message.specs.Commit.{records_room, server_room}
use Rattle.message.specs.Number.{up_number}
use Rattle.message.specs.Accepted.{fields_fit}
use Rattle.server_state.specs.Layout.{server_length}
use Rattle.message_meaning.specs.Meant.{up_of}
use Rattle.message_meaning.specs.UpAccepted.{CommitFields, UpAccepted}
use Rattle.message_meaning.proofs.UpAccepted.{up_accepted}
use Rattle.server_state.specs.Valid.{valid}
use Rattle.server_state.specs.Facts.{valid_ranged}
use Rattle.server_tests.specs.Kinds.{ForServer}
use Rattle.server_tests.specs.Tests.{unexpected_b}
use Rattle.server_changes.specs.Changes.{notice_b}
use Rattle.server_actions.specs.Actions.{accept_b}
use Rattle.server_actions.specs.Pass.{server_step_b}
use Rattle.server_actions.specs.Step.{ready, kinds_of, check_step_b}
use Rattle.station_callbacks.specs.Callbacks.{flat}
use Rattle.server_actions.specs.Posting.{from, counts, Room, Whole}
use Rattle.server_accept.specs.Facts.{Packed, LastKept, Acceptable}
use Rattle.server_meaning.specs.Meant.{meant, Is}
use Rattle.server_meaning.proofs.Tests.{last_at}
use Rattle.server_meaning.proofs.Changes.{notice_is}
use Rattle.server_meaning.proofs.Waiting.{leave_is}
use Rattle.server_meaning.proofs.Commit.{unpack_is}
use Rattle.step_meaning.specs.Relation.{AllSent, Serves}
use Rattle.step_meaning.proofs.Pass.{sent_length}
use Rattle.line_bytes.specs.Served
use Rattle.line_bytes.specs.Stays
use Rattle.server_pass.specs.Sane.{Sane, after}

-- NUMBER 1

module _ (s o q : List ℕ) (e : ready s o q ≡ true) where
  pub ready_valid : valid s ≡ true
  unfolding ready
  ready_valid = and_l (valid s) _ (and_l (valid s && leb server_room (length o)) _ e)

  pub ready_size : length s ≡ server_length
  ready_size = (valid_ranged s ready_valid).size

  messages_fit : server_room ≤ length o
  unfolding ready
  messages_fit = leb-true server_room (length o) (and_r (valid s) (leb server_room (length o)) (and_l (valid s && leb server_room (length o)) (leb records_room (length q)) e))

  records_fit : records_room ≤ length q
  unfolding ready
  records_fit = leb-true records_room (length q) (and_r (valid s && leb server_room (length o)) (leb records_room (length q)) e)

-- NUMBERS 2 TO 5

-- what the test for number 6 asks for
pub record Readable (m : List ℕ) : Type 0 where
  pub length_is : message_length ≤ length m
  pub station : station_of m < 8
  pub kind : ForServer m
  pub commit : kind_of m ≡ 3 → Packed m
  pub page : kind_of m ≡ 5 → page_of m < 32

packed : (kind : ℕ) (m : List ℕ) → CommitFields kind m → Packed m
packed kind m c =
    let p = c.parts_are in
    record { front = omega (arith, p.whole, p.versions); versions = omega (arith, p.whole, p.versions); entries = omega (arith, p.whole) }

module _ (kinds m : List ℕ) (e : up_number kinds m ≡ 0) where
  fields : UpAccepted kinds m
  fields = up_accepted kinds m e

  long : message_length ≤ length m
  long =
      by_eq (kind_of m) 3 (λ k. omega (arith, (packed _ m (fields.commit (eqb_yes (kind_of m) 3 k))).front))
      (λ k. omega (arith, fields.length_is (eqb_no (kind_of m) 3 k)))

  pub readable : Readable m
  readable =
      record {
        length_is = long;
        station = fields.station_is;
        kind = (fields.kind_from_lem, fields.kind_to);
        commit = λ k. packed _ m (fields.commit k);
        page = λ k. (fields.purge k).page_is;
      }

-- NUMBER 6

pub check_up : (m s : List ℕ) {n : ℕ} → n ≡ up_number (kinds_of s) m → n ≢ 0 → n ≡ check_step_b m s
unfolding check_step_b
check_up m s e k = rw (← e, ne_eqb _ 0 k)

pub check_6 : (m s : List ℕ) {n : ℕ} → n ≡ up_number (kinds_of s) m → n ≡ 0 → unexpected_b s m ≡ true → 6 ≡ check_step_b m s
unfolding check_step_b
check_6 m s e k u = rw (← e, k, u)

pub check_0 : (m s : List ℕ) {n : ℕ} → n ≡ up_number (kinds_of s) m → n ≡ 0 → unexpected_b s m ≡ false → 0 ≡ check_step_b m s
unfolding check_step_b
check_0 m s e k u = rw (← e, k, u)

-- NONE OF THEM

every_whole : (ms : List (List ℕ)) (xs : List Sent) → AllSent ms xs → Whole ms
every_whole [] [] h = tt
every_whole [] (x ∷ xs) h = absurd h
every_whole (m ∷ ms) [] h = absurd h
every_whole (m ∷ ms) (x ∷ xs) h = (h.0.length_is, every_whole ms xs h.1)

module _ (m s : List ℕ) (v : valid s ≡ true) (bs : AllBytes s) (bm : AllBytes m) (ok : check_step_b m s ≡ 0) where
  is : Is s (meant s)
  is = Stays.is m s bm bs v ok

  taken : up_number (kinds_of s) m ≡ 0
  taken = Stays.taken m s bm bs v ok

  accepted : Serves (accept_b m (from s)) (accept (station_of m) (up_of m) (start (meant s)))
  accepted = Stays.accepted m s bm bs v ok

  stepped : Serves (server_step_b m s) (server_step (station_of m) (up_of m) (meant s))
  stepped = Stays.stepped m s bm bs v ok

  pub sane_accepted : Sane (accept_b m (from s)).state
  sane_accepted = after accepted

  -- "128 messages" and 7,040 record bytes: for every valid state, also one that no run reaches
  pub step_room : (o q : List ℕ) → ready s o q ≡ true → Room o q (counts 0 0) (server_step_b m s)
  step_room o q e =
      let y = server_step_b m s in
      let z = server_step (station_of m) (up_of m) (meant s) in
      let n : length y.sent ≤ 128 = rw (sent_length y.sent z.sent stepped.sent) (step_128 (station_of m) (up_of m) (meant s)) in
      let k : length (flat y.recs) ≤ records_room =
      Served.records_fit y.recs z.recs stepped.recs (step_8 (station_of m) (up_of m) (meant s) (readable (kinds_of s) m taken).station) (Stays.archives m s bm bs v ok) in
      record { messages = few n (messages_fit s o q e); records = short k (records_fit s o q e) }
    where
      few : {n l : ℕ} → n ≤ 128 → server_room ≤ l → (0 + n) * message_length ≤ l
      few a b = omega arith

      short : {n l : ℕ} → n ≤ records_room → records_room ≤ l → 0 + n ≤ l
      short a b = omega arith

  pub step_whole : Whole (server_step_b m s).sent
  step_whole = every_whole (server_step_b m s).sent (server_step (station_of m) (up_of m) (meant s)).sent stepped.sent

  -- a commit's work leaves the last commit number
  last_kept : kind_of m ≡ 3 → LastKept (station_of m) m (notice_b (station_of m) (transaction_of m) s)
  last_kept k =
      let f = up_accepted (kinds_of s) m taken in
      let i = station_of m in
      let l = f.station_is in
      let c = f.commit k in
      let h = notice_is is i (transaction_of m) l (fields_fit m (bytes_all m bm)).transaction_fits (omega (arith, (valid_ranged s v).ages_fit)) in
      last_at (unpack_is _ m (bytes_all m bm) c (leave_is h i l) i l no_waiter (rw (eqb_same i)) refl refl) ∙ sym (last_at h)

  pub acceptable : Acceptable s m
  acceptable =
      let f = up_accepted (kinds_of s) m taken in
      let r = readable (kinds_of s) m taken in
      record {
        length_is = r.length_is;
        station = f.station_is;
        kind = r.kind;
        address = λ k. small (f.request k).page_is (f.request k).object_is;
        asked = λ k. (f.write_request k).page_is;
        commit = r.commit;
        last = last_kept;
        page = r.page;
        requester = λ a b. asker f a b;
        loosened = λ k. (f.written_set k).page_is;
        ages = (valid_ranged s v).ages_fit;
        arrivals = (valid_ranged s v).arrivals_fit;
      }
    where
      small : {p o : ℕ} → p < 32 → o < 8 → p * 8 + o < 256
      small a b = omega arith

      asker : UpAccepted (kinds_of s) m → 6 ≤ kind_of m → kind_of m ≤ 7 → requester_of m < 8
      asker f a b =
          by_eq (kind_of m) 6 (λ k. (f.busy (eqb_yes (kind_of m) 6 k)).requester_is)
          (λ k. (f.done (omega (arith, eqb_no (kind_of m) 6 k))).requester_is)
