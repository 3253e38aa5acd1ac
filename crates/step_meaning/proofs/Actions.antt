-- The actions over bytes mean document 01's: a page sent, an abort, an install.
use Rattle.std.specs.Prelude.{ℕ, zero, suc, ◌+◌, ◌*◌, ◌/◌, ◌%◌, ◌^◌, ◌≤◌, ◌<◌, ◌≡◌, Bool, true, false, not, ◌&&◌, List, ◌≢◌, eqb, ltb, length}
use Rattle.std.proofs.Math.Path.{refl, ap₂, fun_ext}
use Rattle.std.proofs.Common.{sym, ap, subst, ◌∙◌, arith}
use Rattle.lists.specs.Bytes.{Bytes}
use Rattle.sets.specs.Base.{Val, upd2, has, any}
use Rattle.sets.specs.Laws.{by_b}
use Rattle.sets.proofs.Laws.{ltb_yes, ltb_no, any_ext}
use Rattle.cells.specs.Upd.{cond_rel}
use Rattle.cells.specs.Bits.{tb}
use Rattle.cells.proofs.Loops.{mask_is, mask_lt}
use Rattle.cells.proofs.Pages.{page_any}
use Rattle.cells.specs.Cells.{view}
use Rattle.cells.proofs.Cells.{view_col, get8, get32, get64, cell_lt}
use Rattle.cells.proofs.Sets.{test8}
use Rattle.layout.specs.Record.{bytes_of}
use Rattle.entries.specs.Entries.{entries_from_lem, entries_of}
use Rattle.recs.specs.Recs.{as_record}
use Rattle.line.specs.Messages.{locking, Work, Lock, Invalidate, To}
use Rattle.line.specs.Server.{ByCause, Server, set_listed, wrote_page, informed, send_page, leave, finish, abort, write, archive, inform, inform_from, install, record_of}
use Rattle.line.specs.Server as Model
use Rattle.line.specs.Fit.{Object}
use Rattle.station_state.specs.Layout.{number_width, value_width, has_bit, member}
use Rattle.set_record.specs.Record.{values_at}
use Rattle.server_state.specs.Layout.{read_value_cell, written_value_cell, work_cell, read_set_cell, written_set_cell, table, work_from, read_values_from, written_values_from, work_number, last_of, set_row, read_set_from, written_set_from, written_set}
use Rattle.server_tests.specs.Tests.{written_page_b, written_pages_b, informed_b}
use Rattle.server_changes.specs.Changes.{keeps_age_b, finish_b, leave_b, write_b}
use Rattle.server_actions.specs.Actions.{Serving, record_b, send_page_b, abort_b, written_sets, invalidate_b, inform_b, inform_to, install_b}
use Rattle.message_meaning.specs.Meant.{objects_in}
use Rattle.station_meaning.specs.Meant.{within, value_if}
use Rattle.station_meaning.proofs.Tests.{has_if}
use Rattle.server_meaning.specs.Meant.{Is, start, work_of}
use Rattle.server_meaning.proofs.Tests.{latest_at, latest_lt, last_at, kind_at, informed_at}
use Rattle.server_meaning.proofs.Changes.{list_is}
use Rattle.server_meaning.proofs.Waiting.{leave_is}
use Rattle.server_meaning.proofs.Frees.{finish_is}
use Rattle.server_meaning.proofs.Writes.{write_is, write_work}
use Rattle.step_meaning.specs.Relation.{ReadAs, Serves}
use Rattle.step_meaning.proofs.Relation.{sent_snoc, recs_snoc}
use Rattle.step_meaning.specs.Posts.{kind_for}
use Rattle.step_meaning.proofs.Posts.{aborted_post, committed_post, invalidate_post, page_post, written_has, written_length, written_are}
use Rattle.step_meaning.proofs.Keeps.{wanting_list, wanting_finish, wanting_leave, wanting_write, sound_same, sound_leave, sound_finish}

module _ {b : Serving} {x : Model.Serving} (h : Serves b x) where
  -- "A station is listed as holding a page from the sending of 16, 17 or 18"
  pub send_page_means : (lock : Lock) (i a u : ℕ) → i < 8 → a < 256 → u < 256 → Object lock a → x.server.latest i ≢ 0
      → Serves (send_page_b (kind_for lock) i a u b) (send_page lock i a (λ c. eqb (c / 8) (a / 8) && tb u (c % 8)) x)
  unfolding send_page_b send_page
  send_page_means lock i a u l la lu z n =
      let m = x.server in
      record {
        state = list_is h.state i (a / 8) l (omega arith);
        wanting = wanting_list b.state h.wanting i (a / 8) l;
        sound = sound_same (set_listed m (upd2 m.listed i (a / 8) true)) refl refl refl refl refl h.sound;
        sent = sent_snoc b.sent x.sent _ _ h.sent (page_post h.state lock i a u l la lu z n);
        recs = h.recs;
      }

  -- a transaction's end: its entry goes, then its locks
  pub ended_state : (i c : ℕ) → i < 8 → Is (finish_b i (keeps_age_b c) (leave_b i b.state)) (finish i (ByCause c) (leave i x)).server
  unfolding finish leave keeps_age_b
  ended_state i c l = finish_is (leave_is h.state i l) i (eqb c 1) l

  -- 22: "its locks and request go"
  pub abort_means : (i c : ℕ) → i < 8 → 1 ≤ c → c ≤ 4 → x.server.latest i ≢ 0 → Serves (abort_b i c b) (abort i c x)
  unfolding abort_b abort finish leave
  abort_means i c l c1 c4 n =
      let k = ended_state i c l in
      let s = leave_b i b.state in
      record {
        state = k;
        wanting = wanting_finish s (wanting_leave b.state h.wanting i l) i (keeps_age_b c);
        sound = sound_same _ refl refl refl refl refl (sound_finish (sound_leave h.sound i) i);
        sent =
            sent_snoc b.sent x.sent _ _ h.sent
            (rw (latest_at k i l) (aborted_post i (x.server.latest i) c l n (rw (← latest_at h.state i l) (latest_lt h.state i l)) c1 c4));
        recs = h.recs;
      }

-- INSTALL

-- a record's entries tell of 256 addresses
from_same : (n a : ℕ) (f g : ℕ → Val) → ((c : ℕ) → a ≤ c → c < a + n → f c ≡ g c) → entries_from_lem n a f ≡ entries_from_lem n a g
unfolding entries_from_lem
from_same zero a f g h = refl
from_same (suc n) a f g h = rw (h a (omega arith) (omega arith), from_same n (suc a) f g (λ c p q. h c (omega arith) (omega arith)))

entries_same : (f g : ℕ → Val) → ((a : ℕ) → a < 256 → f a ≡ g a) → entries_of f ≡ entries_of g
unfolding entries_of
entries_same f g h = from_same 256 0 f g (λ a p q. h a (omega arith))

module _ {s : List ℕ} {m : Server} (h : Is s m) (i : ℕ) (l : i < 8) where
  -- the work of i's row, as the bytes tell it

  number_is : work_number s i ≡ (work_of s i).transaction
  number_is = get32 (start h) work_cell i 0 (work_from + i * number_width) refl (omega arith) l (omega arith)

  number_lt : work_number s i < 2 ^ 32
  number_lt = rw number_is (cell_lt (start h) work_cell i 0)

  reads_are : (a : ℕ) → a < 256 → values_at s (read_set_from i) (read_values_from i) a ≡ (work_of s i).reads a
  unfolding member has_bit
  reads_are a la =
      ap₂ value_if (test8 (start h) read_set_cell i (a / 8) (a % 8) (read_set_from i + a / 8) (omega arith) l (omega arith) refl)
      (get64 (start h) read_value_cell i a (read_values_from i + a * value_width) refl (omega arith) l la)

  writes_are : (a : ℕ) → a < 256 → values_at s (written_set_from i) (written_values_from i) a ≡ (work_of s i).writes a
  unfolding member has_bit
  writes_are a la =
      ap₂ value_if (test8 (start h) written_set_cell i (a / 8) (a % 8) (written_set_from i + a / 8) (omega arith) l (omega arith) refl)
      (get64 (start h) written_value_cell i a (written_values_from i + a * value_width) refl (omega arith) l la)

  -- "archive the record"
  pub record_is : record_b i s ≡ bytes_of (as_record (record_of m i (work_of s i)))
  record_is =
      rw (
        entries_same (values_at s (read_set_from i) (read_values_from i)) (work_of s i).reads reads_are,
        entries_same (values_at s (written_set_from i) (written_values_from i)) (work_of s i).writes writes_are,
        last_at h,
        number_is,
        kind_at h i l,
      )

  -- the pages that it writes
  written_cell : (p : ℕ) → p < 32 → written_set s i p ≡ view table 0 s written_set_cell i p
  written_cell p lp = get8 (start h) written_set_cell i p (written_set_from i + p) refl (omega arith) l lp

  wrote_cell : (p : ℕ) → not (eqb (view table 0 s written_set_cell i p) 0) ≡ wrote_page (work_of s i) p
  wrote_cell p =
      sym (page_any (view table 0 s written_set_cell i) p (cell_lt (start h) written_set_cell i p))
      ∙ any_ext 8 (λ o. within (view table 0 s written_set_cell i) (p * 8 + o)) (λ o. has ((work_of s i).writes (p * 8 + o)))
      (λ o. sym (has_if (within (view table 0 s written_set_cell i) (p * 8 + o)) (view table 0 s written_value_cell i (p * 8 + o))))

  pub written_pages_is : ◌≡◌ {A = ℕ → Bool} (tb (written_pages_b s i)) (wrote_page (work_of s i))
  unfolding written_pages_b written_page_b
  written_pages_is =
      fun_ext
      (λ p.
      mask_is (written_page_b s i) 32 p
      ∙ by_b (ltb p 32)
      (λ e. rw (e, written_cell p (ltb_yes p 32 e)) (wrote_cell p))
      (λ e. rw (e, ← wrote_cell p, view_col table 0 s written_set_cell i p (ltb_no p 32 e))))

pub written_pages_lt : (s : List ℕ) (i : ℕ) → written_pages_b s i < 2 ^ 32
unfolding written_pages_b
written_pages_lt s i = mask_lt (written_page_b s i) 32

-- 23 "names objects: object sets by page" to other validating stations listed for one of their pages: to j. y are the sets
pub inform_means : {b : Serving} {x : Model.Serving} → Serves b x → (i d j : ℕ) (y : List ℕ) (w : Work) → j < 8 → length y ≡ set_row → Bytes y → ◌≡◌ {A = ℕ → Bool} (tb d) (wrote_page w)
    → ◌≡◌ {A = ℕ → Bool} (objects_in y) (λ a. has (w.writes a)) → Serves (inform_b i d y b j) (inform i w j x)
unfolding inform_b inform
inform_means {b} {x} h i d j y w l ly hy e g =
    let m = x.server in
    let test : informed_b b.state i d j ≡ informed m i w j =
    informed_at h.state i d j l ∙ ap (λ (f : ℕ → Bool). not (eqb j i) && not (locking (m.kind j)) && any 32 (λ p. f p && m.listed j p)) e in
    cond_rel Serves (informed_b b.state i d j) (informed m i w j) test
    (record {
      state = h.state;
      wanting = h.wanting;
      sound = h.sound;
      sent = sent_snoc b.sent x.sent _ _ h.sent (subst (λ (f : ℕ → Bool). ReadAs (invalidate_b j y) (To j (Invalidate f))) g (invalidate_post j y l ly hy));
      recs = h.recs;
    })
    h

-- "stations rising": the model informs n from j on, the bytes all below k
informs_from : (b : Serving) {x : Model.Serving} (i d : ℕ) (y : List ℕ) (w : Work) (n j k : ℕ) → length y ≡ set_row → Bytes y → ◌≡◌ {A = ℕ → Bool} (tb d) (wrote_page w)
    → ◌≡◌ {A = ℕ → Bool} (objects_in y) (λ a. has (w.writes a)) → j + n ≡ k → k ≤ 8 → Serves (inform_to i d y b j) x → Serves (inform_to i d y b k) (inform_from n j i w x)
unfolding inform_to inform_from
informs_from b {x} i d y w zero j k ly hy f g e l h = let same : j ≡ k = omega arith in subst (λ (q : ℕ). Serves (inform_to i d y b q) x) same h
informs_from b {x = x} i d y w (suc n) j k ly hy f g e l h = informs_from b {x = inform i w j x} i d y w n (suc j) k ly hy f g (omega arith) l (inform_means h i d j y w (omega arith) ly hy f g)

pub informs_means : {b : Serving} {x : Model.Serving} → Serves b x → (i d : ℕ) (y : List ℕ) (w : Work) → length y ≡ set_row → Bytes y → ◌≡◌ {A = ℕ → Bool} (tb d) (wrote_page w)
    → ◌≡◌ {A = ℕ → Bool} (objects_in y) (λ a. has (w.writes a)) → Serves (inform_to i d y b 8) (inform_from 8 0 i w x)
unfolding inform_to
informs_means {b} h i d y w ly hy f g = informs_from b i d y w 8 0 8 ly hy f g refl (omega arith) h

-- "Install: write values, archive the record, free locks, send 21, then .. 23"
pub install_means : {b : Serving} {x : Model.Serving} → Serves b x → (i : ℕ) (w : Work) → i < 8 → work_of b.state i ≡ w → w.transaction ≢ 0 → last_of b.state + 1 < 2 ^ 32
    → Serves (install_b i b) (install i w x)
unfolding install_b install finish archive write leave
install_means {b} {x} h i w l e n ln =
    let m = x.server in
    let s = write_b i b.state in
    let v = work_of b.state i in
    let wrote = write_is h.state i l ln in
    let k = finish_is (leave_is wrote i l) i false l in
    let named : v.transaction ≢ 0 = subst (λ (u : Work). u.transaction ≢ 0) (sym e) n in
    let next : m.last + 1 < 2 ^ 32 = rw (← last_at h.state) ln in
    subst (λ (u : Work). Serves (install_b i b) (install i u x)) e
    (informs_means
    (record {
      state = k;
      wanting = wanting_finish (leave_b i s) (wanting_leave s (wanting_write b.state h.wanting i) i l) i 0;
      sound = sound_same _ refl refl refl refl refl (sound_finish (sound_leave h.sound i) i);
      sent =
          sent_snoc b.sent x.sent _ _ h.sent
          (rw (number_is h.state i l, last_at k)
          (committed_post i v.transaction (m.last + 1) l named (rw (← number_is h.state i l) (number_lt h.state i l)) (λ z. omega arith) next));
      recs =
          recs_snoc b.recs x.recs _ _ h.recs
          (record_is wrote i l ∙ ap (λ (u : Work). bytes_of (as_record (record_of (write v (leave i x)).server i u))) (write_work h.state i l ln i));
    })
    i (written_pages_b b.state i) (written_sets i b.state) v (written_length h.state i l) (written_are h.state i) (written_pages_is h.state i l) (written_has h.state i l))
