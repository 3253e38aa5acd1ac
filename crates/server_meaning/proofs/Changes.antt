-- Each change of the server's bytes means the change of the model that has its name: ages, the pages listed, locks.
use Prim.Native.Nat.{ℕ, suc, ◌+◌, ◌-◌, ◌*◌, ◌<◌, ◌/◌, ◌%◌, ◌^◌}
use Rattle.std.specs.Prelude.{◌≡◌, Bool, ◌&&◌, List, set}
use Rattle.std.proofs.Math.Path.{refl, subst, fun_ext}
use Rattle.std.proofs.Common.{sym, ap, ◌∙◌, add-one, arith}
use Rattle.std.proofs.Math.Bool.{true, false, not, cond, and_comm}
use Rattle.std.proofs.Math.Dec.{eqb}
use Rattle.le.specs.Le.{set_u32}
use Rattle.sets.specs.Base.{upd, upd2}
use Rattle.sets.specs.Laws.{by_b, by_eq}
use Rattle.sets.proofs.Laws.{eqb_yes, not_yes, not_no}
use Rattle.cells.specs.Upd.{cond_rel}
use Rattle.cells.specs.Bits.{tb}
use Rattle.cells.proofs.Bits.{tb_set, tb_mask, tb_clear_all, bit_on}
use Rattle.cells.specs.Cells.{view}
use Rattle.cells.proofs.Cells.{put8, put32, put64, get64, cell_lt}
use Rattle.cells.proofs.Sets.{on32, off32, and32}
use Rattle.line.specs.Server.{aged, Server, set_ol, set_wl, set_whole_for, set_asked, set_listed, set_latest, set_fin, set_age, set_ages}
use Rattle.station_state.specs.Layout.{page_set_width, number_width}
use Rattle.station_state.specs.Changes.{page_on, page_off}
use Rattle.server_state.specs.Layout.{age_width, age_cell, next_age_cell, latest_cell, listed_cell, asked_cell, whole_for_cell, whole_cell, unfinished_cell, table, age_from, next_age_from, latest_from, listed_from, asked_from, whole_for_from, whole_from, unfinished_from, ages_of, latest_of, age_kept_of}
use Rattle.server_changes.specs.Changes.{new_age_b, age_b, notice_b, list_b, unlist_b, hold_b, loosen_b, asked_b, lock_page_b}
use Rattle.server_meaning.specs.Meant.{meant, Is, start, done}
use Rattle.server_meaning.proofs.Tests.{latest_at, latest_lt, age_kept_at}
use Rattle.server_meaning.specs.Changes.{lock_is}

upd_own : (f : ℕ → ℕ) (i : ℕ) → upd f i (f i) ≡ f
upd_own f i = fun_ext (λ j. by_eq j i (λ e. rw (e, eqb_yes j i e) refl) (λ e. rw e refl))

module _ {s : List ℕ} {m : Server} (h : Is s m) where
  -- a new age
  new_age_is : (i : ℕ) → i < 8 → ages_of s + 1 < 2 ^ 64 → Is (new_age_b i s) (set_age (set_ages m (m.ages + 1)) (upd m.age i m.ages))
  unfolding new_age_b
  new_age_is i l la =
      let c : ages_of s ≡ view table 0 s next_age_cell 0 0 = get64 (start h) next_age_cell 0 0 next_age_from refl refl (omega arith) (omega arith) in
      let age = put64 (start h) age_cell i 0 (ages_of s) (age_from + i * age_width) refl (omega arith) l (omega arith) (omega arith) in
      done h (λ (n : Server). set_age (set_ages n (n.ages + 1)) (upd n.age i n.ages))
      (put64 age next_age_cell 0 0 (ages_of s + 1) next_age_from refl refl (omega arith) (omega arith) la)
      (ap (λ (x : ℕ). set_age (set_ages (meant s) (x + 1)) (upd (meant s).age i x)) c)

  -- kept or new
  age_is : (i : ℕ) → i < 8 → ages_of s + 1 < 2 ^ 64 → let g = aged (m.age_kept i) (m.age i) m.ages in Is (age_b i s) (set_age (set_ages m g.ages) (upd m.age i g.age))
  unfolding age_b
  age_is i l la =
      by_b (m.age_kept i)
      (λ e. rw (e, kept e) (subst (Is s) (ap (set_age m) (sym (upd_own m.age i))) h))
      (λ e. rw (e, free e) (new_age_is i l la))
    where
      kept : m.age_kept i ≡ true → eqb (age_kept_of s i) 0 ≡ false
      kept e = not_yes (eqb (age_kept_of s i) 0) (age_kept_at h i l ∙ e)

      free : m.age_kept i ≡ false → eqb (age_kept_of s i) 0 ≡ true
      free e = not_no (eqb (age_kept_of s i) 0) (age_kept_at h i l ∙ e)

  -- its transaction is unfinished, and the latest
  begun_is : (i t : ℕ) → i < 8 → t < 2 ^ 32 → Is (set_u32 (set s (unfinished_from + i) 1) (latest_from + i * number_width) t) (set_latest (set_fin m (upd m.fin i false)) (upd m.latest i t))
  begun_is i t l lt =
      let unfinished = put8 (start h) unfinished_cell i 0 1 (unfinished_from + i) refl (omega arith) l (omega arith) (omega arith) in
      done h (λ (n : Server). set_latest (set_fin n (upd n.fin i false)) (upd n.latest i t))
      (put32 unfinished latest_cell i 0 t (latest_from + i * number_width) refl (omega arith) l (omega arith) lt)
      (ap (λ (f : ℕ → Bool). set_latest (set_fin (meant s) f) (upd (meant s).latest i t)) (fun_ext (λ j. by_eq j i (λ e. rw e) (λ e. rw e))))

  -- which pages a station is listed for

  pub list_is : (i p : ℕ) → i < 8 → p < 32 → Is (list_b i p s) (set_listed m (upd2 m.listed i p true))
  unfolding list_b page_on
  list_is i p l q =
      done h (λ (n : Server). set_listed n (upd2 n.listed i p true))
      (on32 (start h) listed_cell i 0 p (listed_from + i * page_set_width) (omega arith) l (omega arith) refl q)
      (ap (set_listed (meant s)) (bit_on (λ j. view table 0 s listed_cell j 0) i p))

  pub unlist_is : (i d : ℕ) → i < 8 → d < 2 ^ 32
      → Is (unlist_b i d s) (set_listed m (λ j q. cond (eqb j i) (m.listed j q && not (tb d q)) (m.listed j q)))
  unfolding unlist_b
  unlist_is i d l ld =
      let C = view table 0 s in
      done h (λ (n : Server). set_listed n (λ j q. cond (eqb j i) (n.listed j q && not (tb d q)) (n.listed j q)))
      (and32 (start h) listed_cell i 0 (4294967295 - d) (listed_from + i * page_set_width) (omega arith) l (omega arith) refl)
      (ap (set_listed (meant s))
      (fun_ext
      (λ j.
      fun_ext
      (λ q.
      by_eq j i
      (λ e. rw (e, eqb_yes j i e) (tb_mask 32 (C listed_cell i 0) d q (cell_lt (start h) listed_cell i 0) ld ∙ and_comm (not (tb d q)) (tb (C listed_cell i 0) q)))
      (λ e. rw e)))))

  -- locks

  pub asked_is : (p : ℕ) → p < 32 → Is (asked_b p s) (set_asked m (upd m.asked p true))
  unfolding asked_b page_on
  asked_is p q =
      done h (λ (n : Server). set_asked n (upd n.asked p true))
      (on32 (start h) asked_cell 0 0 p asked_from refl (omega arith) (omega arith) refl q)
      (ap (set_asked (meant s)) (fun_ext (tb_set (view table 0 s asked_cell 0 0) p)))

  -- page p is locked whole by x (0 for none), given to transaction t, and no 19 of before counts
  pub hold_is : (p x t : ℕ) → p < 32 → x < 256 → t < 2 ^ 32
      → Is (hold_b p x t s) (set_wl (set_whole_for (set_asked m (upd m.asked p false)) (upd m.whole_for p t)) (upd m.wl p x))
  unfolding hold_b page_off
  hold_is p x t q lx lt =
      let whole = put8 (off32 (start h) asked_cell 0 0 p asked_from refl (omega arith) (omega arith) refl) whole_cell 0 p x (whole_from + p) refl (omega arith) (omega arith) q lx in
      done h (λ (n : Server). set_wl (set_whole_for (set_asked n (upd n.asked p false)) (upd n.whole_for p t)) (upd n.wl p x))
      (put32 whole whole_for_cell 0 p t (whole_for_from + p * number_width) refl (omega arith) (omega arith) q lt)
      (ap (λ (f : ℕ → Bool). set_wl (set_whole_for (set_asked (meant s) f) (upd (meant s).whole_for p t)) (upd (meant s).wl p x))
      (fun_ext (λ k. tb_clear_all 32 (view table 0 s asked_cell 0 0) p k q (cell_lt (start h) asked_cell 0 0))))

  pub lock_page_is : (i p : ℕ) → i < 8 → p < 32
      → Is (lock_page_b i p s) (set_wl (set_whole_for (set_asked m (upd m.asked p false)) (upd m.whole_for p (m.latest i))) (upd m.wl p (suc i)))
  unfolding lock_page_b
  lock_page_is i p l q =
      subst (λ (x : ℕ). Is (hold_b p (i + 1) (latest_of s i) s) (set_wl (set_whole_for (set_asked m (upd m.asked p false)) (upd m.whole_for p (m.latest i))) (upd m.wl p x))) (add-one i)
      (subst (λ (t : ℕ). Is (hold_b p (i + 1) (latest_of s i) s) (set_wl (set_whole_for (set_asked m (upd m.asked p false)) (upd m.whole_for p t)) (upd m.wl p (i + 1)))) (latest_at h i l)
      (hold_is p (i + 1) (latest_of s i) q (omega arith) (latest_lt h i l)))

pub loosen_is : {s : List ℕ} {m : Server} → Is s m → (i p x : ℕ) → i < 8 → p < 32
    → Is (loosen_b i p x s) (set_ol (set_wl (set_whole_for (set_asked m (upd m.asked p false)) (upd m.whole_for p 0)) (upd m.wl p 0)) (λ a. cond (eqb (a / 8) p && tb x (a % 8)) (suc i) (m.ol a)))
unfolding loosen_b
loosen_is h i p x l q = lock_is (hold_is h p 0 0 q (omega arith) (omega arith)) i p x l q

pub notice_is : {s : List ℕ} {m : Server} → Is s m → (i t : ℕ) → i < 8 → t < 2 ^ 32 → ages_of s + 1 < 2 ^ 64
    → let g = aged (m.age_kept i) (m.age i) m.ages in Is (notice_b i t s)
    (cond (eqb t (m.latest i)) m
    (set_latest (set_fin (set_age (set_ages m g.ages) (upd m.age i g.age)) (upd m.fin i false)) (upd m.latest i t)))
unfolding notice_b
notice_is {s} {m} h i t l lt la =
    cond_rel Is (eqb t (latest_of s i)) (eqb t (m.latest i)) (ap (eqb t) (latest_at h i l)) h (begun_is (age_is h i l la) i t l lt)
