-- "every transaction's end frees its locks".
use Rattle.std.specs.Prelude.{ℕ, zero, suc, ◌+◌, ◌≤◌, ◌<◌, ◌≡◌, refl, Bool, true, false, not, cond, ◌&&◌, List, eqb, ltb, set}
use Rattle.std.proofs.Common.{sym, ap, subst, ◌∙◌, add-one, arith, le-ltb}
use Rattle.std.proofs.Math.Path.{fun_ext}
use Rattle.std.proofs.Math.Bool.{and-false}
use Rattle.std.proofs.Math.Dec.{eqb-zero-suc}
use Rattle.sets.specs.Base.{upd, nowhere, zeros}
use Rattle.sets.specs.Laws.{by_b, by_eq}
use Rattle.sets.proofs.Laws.{ltb_no}
use Rattle.cells.specs.Upd.{cond_rel, bulk}
use Rattle.cells.proofs.Upd.{bulk_none, bulk_more}
use Rattle.cells.proofs.Cells.{view_col, put8}
use Rattle.line.specs.Messages.{keeps}
use Rattle.line.specs.Server.{set_age_kept, Server, set_ol, set_wl, set_whole_for, set_asked, set_fin, unlocks}
use Rattle.server_state.specs.Layout.{lock_cell, whole_cell, unfinished_cell, age_kept_cell, table, lock_from, unfinished_from, age_kept_from, lock_of, whole_of, keeps_b}
use Rattle.server_changes.specs.Changes.{free_page_b, free_pages_to, free_pages_b, free_one_b, free_to, finish_b}
use Rattle.server_meaning.specs.Meant.{meant, Is, start, done}
use Rattle.server_meaning.proofs.Tests.{lock_at, whole_at, kind_at}
use Rattle.server_meaning.proofs.Changes.{hold_is}
use Rattle.server_meaning.specs.Frees.{own, pages_end, pages_free}

-- one round more of a loop that changes three functions
bulk_three : {A B C D : Type 0} (F : (ℕ → A) → (ℕ → B) → (ℕ → C) → D) (f : ℕ → A) (u : ℕ → B) (w : ℕ → C) (t : ℕ → Bool) (g : ℕ → A) (v : ℕ → B) (y : ℕ → C) (n : ℕ)
    → cond (t n) (F (upd (bulk f t g n) n (g n)) (upd (bulk u t v n) n (v n)) (upd (bulk w t y n) n (y n))) (F (bulk f t g n) (bulk u t v n) (bulk w t y n))
    ≡ F (bulk f t g (suc n)) (bulk u t v (suc n)) (bulk w t y (suc n))
bulk_three F f u w t g v y n = go (t n) refl
  where
    go : (b : Bool) → t n ≡ b
        → cond b (F (upd (bulk f t g n) n (g n)) (upd (bulk u t v n) n (v n)) (upd (bulk w t y n) n (y n))) (F (bulk f t g n) (bulk u t v n) (bulk w t y n))
        ≡ F (bulk f t g (suc n)) (bulk u t v (suc n)) (bulk w t y (suc n))
    go true h =
        let p : upd (bulk f t g n) n (g n) ≡ bulk f t g (suc n) = rw h at (bulk_more (λ x. x) f t g n) in
        let q : upd (bulk u t v n) n (v n) ≡ bulk u t v (suc n) = rw h at (bulk_more (λ x. x) u t v n) in
        let r : upd (bulk w t y n) n (y n) ≡ bulk w t y (suc n) = rw h at (bulk_more (λ x. x) w t y n) in
        λ τ. F (p τ) (q τ) (r τ)
    go false h =
        let p : bulk f t g n ≡ bulk f t g (suc n) = rw h at (bulk_more (λ x. x) f t g n) in
        let q : bulk u t v n ≡ bulk u t v (suc n) = rw h at (bulk_more (λ x. x) u t v n) in
        let r : bulk w t y n ≡ bulk w t y (suc n) = rw h at (bulk_more (λ x. x) w t y n) in
        λ τ. F (p τ) (q τ) (r τ)

-- a flag's byte
flag_lt : (b : Bool) → cond b 1 0 < 256
flag_lt true = omega arith
flag_lt false = omega arith

flag : (b : Bool) → not (eqb (cond b 1 0) 0) ≡ b
flag true = refl
flag false = refl

module _ {s : List ℕ} {m : Server} (h : Is s m) where
  whole_high : (p : ℕ) → 32 ≤ p → m.wl p ≡ 0
  whole_high p l = sym (ap (λ (n : Server). n.wl p) h.is) ∙ view_col table 0 s whole_cell 0 p l

  lock_high : (a : ℕ) → 256 ≤ a → m.ol a ≡ 0
  lock_high a l = sym (ap (λ (n : Server). n.ol a) h.is) ∙ view_col table 0 s lock_cell 0 a l

  one_free : (a : ℕ) → a < 256 → Is (set s (lock_from + a) 0) (set_ol m (upd m.ol a 0))
  one_free a l =
      done h (λ (n : Server). set_ol n (upd n.ol a 0))
      (put8 (start h) lock_cell 0 a 0 (lock_from + a) refl (omega arith) (omega arith) l (omega arith)) refl

  fin_is : (i : ℕ) → i < 8 → Is (set s (unfinished_from + i) 0) (set_fin m (upd m.fin i true))
  fin_is i l =
      done h (λ (n : Server). set_fin n (upd n.fin i true))
      (put8 (start h) unfinished_cell i 0 0 (unfinished_from + i) refl (omega arith) l (omega arith) (omega arith))
      (ap (set_fin (meant s)) (fun_ext (λ j. by_eq j i (λ e. rw e) (λ e. rw e))))

  kept_is : (i : ℕ) (b : Bool) → i < 8 → Is (set s (age_kept_from + i) (cond b 1 0)) (set_age_kept m (upd m.age_kept i b))
  kept_is i b l =
      done h (λ (n : Server). set_age_kept n (upd n.age_kept i b))
      (put8 (start h) age_kept_cell i 0 (cond b 1 0) (age_kept_from + i) refl (omega arith) l (omega arith) (flag_lt b))
      (ap (set_age_kept (meant s)) (fun_ext (λ j. by_eq j i (λ e. rw (e, flag b)) (λ e. rw e))))

pages_to : {s : List ℕ} {m : Server} → Is s m → (i n : ℕ) → n ≤ 32 → Is (free_pages_to i s n) (pages_free m i n)
unfolding free_pages_to free_page_b
pages_to {s} {m} h i zero q =
    let none : (f : ℕ → ℕ) → f ≡ bulk f (own i m.wl) zeros 0 = λ f. bulk_none f (own i m.wl) zeros in
    let unasked : m.asked ≡ bulk m.asked (own i m.wl) nowhere 0 = bulk_none m.asked (own i m.wl) nowhere in
    subst (Is s) (λ τ. set_wl (set_whole_for (set_asked m (unasked τ)) (none m.whole_for τ)) (none m.wl τ)) h
pages_to {s} {m} h i (suc n) q =
    let r = pages_to h i n (omega arith) in
    let t = free_pages_to i s n in
    let e : whole_of t n ≡ m.wl n = whole_at r n q ∙ rw (le-ltb n n (omega arith)) in
    subst (Is (free_page_b i t n)) (bulk_three (λ f u w. set_wl (set_whole_for (set_asked m f) u) w) m.asked m.whole_for m.wl (own i m.wl) nowhere zeros zeros n)
    (cond_rel Is (eqb (whole_of t n) (i + 1)) (eqb (m.wl n) (suc i)) (rw (e, add-one i)) (hold_is r n 0 0 q (omega arith) (omega arith)) r)

pages_is : {s : List ℕ} {m : Server} → Is s m → (i : ℕ) → i < 8 → Is (free_pages_b i s) (pages_end m i)
unfolding free_pages_b
pages_is {s} {m} h i l =
    by_b (keeps_b s i) (λ k. rw k (subst (Is s) (stay (rw (kind_at h i l) at k)) h))
    (λ k. rw k (subst (Is (free_pages_to i s 32)) (go (rw (kind_at h i l) at k)) (pages_to h i 32 (omega arith))))
  where
    stay : keeps (m.kind i) ≡ true → m ≡ pages_end m i
    stay k =
        let asked : m.asked ≡ (λ p. not (unlocks (m.kind i) i (m.wl p)) && m.asked p) = fun_ext (λ p. rw (k, and-false (eqb (m.wl p) (suc i)))) in
        let given : m.whole_for ≡ (λ p. cond (unlocks (m.kind i) i (m.wl p)) 0 (m.whole_for p)) = fun_ext (λ p. rw (k, and-false (eqb (m.wl p) (suc i)))) in
        let whole : m.wl ≡ (λ p. cond (unlocks (m.kind i) i (m.wl p)) 0 (m.wl p)) = fun_ext (λ p. rw (k, and-false (eqb (m.wl p) (suc i)))) in
        λ τ. set_wl (set_whole_for (set_asked m (asked τ)) (given τ)) (whole τ)

    go : keeps (m.kind i) ≡ false → pages_free m i 32 ≡ pages_end m i
    go k =
        let high : (p : ℕ) → ltb p 32 ≡ false → eqb (m.wl p) (suc i) ≡ false = λ p e. rw (whole_high h p (ltb_no p 32 e), eqb-zero-suc i) in
        let asked : bulk m.asked (own i m.wl) nowhere 32 ≡ (λ p. not (unlocks (m.kind i) i (m.wl p)) && m.asked p) =
        fun_ext (λ p. by_b (ltb p 32) (λ e. by_eq (m.wl p) (suc i) (λ f. rw (k, e, f)) (λ f. rw (k, e, f))) (λ e. rw (k, e, high p e))) in
        let freed : (f : ℕ → ℕ) → bulk f (own i m.wl) zeros 32 ≡ (λ p. cond (unlocks (m.kind i) i (m.wl p)) 0 (f p)) =
        λ f. fun_ext (λ p. by_b (ltb p 32) (λ e. by_eq (m.wl p) (suc i) (λ g. rw (k, e, g)) (λ g. rw (k, e, g))) (λ e. rw (k, e, high p e))) in
        λ τ. set_wl (set_whole_for (set_asked m (asked τ)) (freed m.whole_for τ)) (freed m.wl τ)

-- addresses below n
locks_to : {s : List ℕ} {m : Server} → Is s m → (i n : ℕ) → n ≤ 256 → Is (free_to i s n) (set_ol m (bulk m.ol (own i m.ol) zeros n))
unfolding free_to free_one_b
locks_to {s} {m} h i zero q = subst (Is s) (ap (set_ol m) (bulk_none m.ol (own i m.ol) zeros)) h
locks_to {s} {m} h i (suc n) q =
    let r = locks_to h i n (omega arith) in
    let t = free_to i s n in
    let e : lock_of t n ≡ m.ol n = lock_at r n q ∙ rw (le-ltb n n (omega arith)) in
    subst (Is (free_one_b i t n)) (bulk_more (set_ol m) m.ol (own i m.ol) zeros n)
    (cond_rel Is (eqb (lock_of t n) (i + 1)) (eqb (m.ol n) (suc i)) (rw (e, add-one i)) (one_free r n q) r)

pub finish_is : {s : List ℕ} {m : Server} → Is s m → (i : ℕ) (b : Bool) → i < 8
    → Is (finish_b i (cond b 1 0) s)
    (set_age_kept (set_fin (set_ol (pages_end m i) (λ a. cond (eqb (m.ol a) (suc i)) 0 (m.ol a))) (upd m.fin i true)) (upd m.age_kept i b))
unfolding finish_b
finish_is {s} {m} h i b l =
    subst (λ (f : ℕ → ℕ). Is (finish_b i (cond b 1 0) s) (set_age_kept (set_fin (set_ol (pages_end m i) f) (upd m.fin i true)) (upd m.age_kept i b))) (fun_ext lock)
    (kept_is (fin_is (locks_to (pages_is h i l) i 256 (omega arith)) i l) i b l)
  where
    lock : (a : ℕ) → bulk m.ol (own i m.ol) zeros 256 a ≡ cond (eqb (m.ol a) (suc i)) 0 (m.ol a)
    lock a = by_b (ltb a 256) (λ e. rw e) (λ e. rw (e, lock_high h a (ltb_no a 256 e), eqb-zero-suc i))
