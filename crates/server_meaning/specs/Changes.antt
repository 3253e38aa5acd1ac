-- Each change of the server's bytes means the change of the model that has its name: ages, the pages listed, locks.
use Prim.Native.Nat.{ℕ, zero, suc, ◌+◌, ◌*◌, ◌≤◌, ◌<◌, ◌/◌, ◌%◌}
use Rattle.std.specs.Prelude.{◌≡◌, Bool, ◌&&◌, List, ltb, set}
use Rattle.std.proofs.Math.Path.{refl, subst, fun_ext}
use Rattle.std.proofs.Common.{ap, add-one, arith, lt-ltb, le-ltb}
use Rattle.std.proofs.Math.Bool.{true, false, cond}
use Rattle.std.proofs.Math.Dec.{eqb}
use Rattle.sets.specs.Base.{upd}
use Rattle.sets.specs.Laws.{by_eq}
use Rattle.sets.proofs.Laws.{eqb_same, eqb_yes, eqb_no}
use Rattle.cells.specs.Upd.{cond_rel}
use Rattle.cells.proofs.Upd.{ltb_suc}
use Rattle.cells.specs.Bits.{tb}
use Rattle.cells.specs.Cells.{off}
use Rattle.cells.proofs.Cells.{put8}
use Rattle.line.specs.Server.{Server, set_ol}
use Rattle.station_state.specs.Layout.{has_bit}
use Rattle.server_state.specs.Layout.{lock_cell, lock_from}
use Rattle.server_changes.specs.Changes.{lock_one_b, lock_to}
use Rattle.server_meaning.specs.Meant.{meant, Is, start, done}
use Rattle.server_meaning.specs.Tests.{bit_is}

-- locks on a set: the objects of x on page p, those below n
abbrev locked_to : (ℕ → ℕ) → ℕ → ℕ → ℕ → ℕ → ℕ → ℕ
locked_to f i p x n a = cond (eqb (a / 8) p && (ltb (a % 8) n && tb x (a % 8))) (suc i) (f a)

locked_none : (f : ℕ → ℕ) (i p x : ℕ) → f ≡ locked_to f i p x 0
locked_none f i p x = fun_ext (λ a. rw (le-ltb (a % 8) 0 (omega arith)) (by_eq (a / 8) p (λ e. rw e) (λ e. rw e)))

locked_more : (m : Server) (f : ℕ → ℕ) (i p x n : ℕ) → n < 8
    → cond (tb x n) (set_ol m (upd (locked_to f i p x n) (p * 8 + n) (suc i))) (set_ol m (locked_to f i p x n)) ≡ set_ol m (locked_to f i p x (suc n))
locked_more m f i p x n l = go (tb x n) refl
  where
    d : (p * 8 + n) / 8 ≡ p
    d = omega arith

    r : (p * 8 + n) % 8 ≡ n
    r = omega arith

    on : tb x n ≡ true → (a : ℕ) → upd (locked_to f i p x n) (p * 8 + n) (suc i) a ≡ locked_to f i p x (suc n) a
    on h a =
        by_eq a (p * 8 + n)
        (λ e. rw (e, eqb_yes a (p * 8 + n) e, d, r, eqb_same p, lt-ltb n (suc n) (omega arith), h))
        (λ e.
        by_eq (a / 8) p
        (λ g. rw (e, g, ltb_suc (a % 8) n (λ q. eqb_no a (p * 8 + n) e (omega (arith, eqb_yes (a / 8) p g)))))
        (λ g. rw (e, g)))

    off : tb x n ≡ false → (a : ℕ) → locked_to f i p x n a ≡ locked_to f i p x (suc n) a
    off h a = by_eq (a % 8) n (λ e. rw (eqb_yes (a % 8) n e, le-ltb n n (omega arith), lt-ltb n (suc n) (omega arith), h)) (λ e. rw (ltb_suc (a % 8) n (eqb_no (a % 8) n e)))

    go : (b : Bool) → tb x n ≡ b → cond b (set_ol m (upd (locked_to f i p x n) (p * 8 + n) (suc i))) (set_ol m (locked_to f i p x n)) ≡ set_ol m (locked_to f i p x (suc n))
    go true h = ap (set_ol m) (fun_ext (on h))
    go false h = ap (set_ol m) (fun_ext (off h))

lock_one : {s : List ℕ} {m : Server} → Is s m → (i a : ℕ) → i < 8 → a < 256 → Is (set s (lock_from + a) (i + 1)) (set_ol m (upd m.ol a (suc i)))
lock_one {s} h i a l la =
    done h (λ (n : Server). set_ol n (upd n.ol a (suc i)))
    (put8 (start h) lock_cell 0 a (i + 1) (lock_from + a) refl (omega arith) (omega arith) la (omega arith))
    (ap (λ (x : ℕ). set_ol (meant s) (upd (meant s).ol a x)) (add-one i))

lock_to_lem : {s : List ℕ} {m : Server} → Is s m → (i p x : ℕ) → i < 8 → p < 32 → (n : ℕ) → n ≤ 8 → Is (lock_to i p x s n) (set_ol m (locked_to m.ol i p x n))
unfolding lock_to lock_one_b
lock_to_lem {s} {m} h i p x l lp zero q = subst (Is s) (ap (set_ol m) (locked_none m.ol i p x)) h
lock_to_lem {s} {m} h i p x l lp (suc n) q =
    let r = lock_to_lem h i p x l lp n (omega arith) in
    let t = lock_to i p x s n in
    subst (Is (lock_one_b i p x t n)) (locked_more m m.ol i p x n q)
    (cond_rel Is (has_bit x n) (tb x n) (bit_is x n) (lock_one r i (p * 8 + n) l (omega arith)) r)

-- 17, and "8 makes it locks on its set"
pub lock_is : {s : List ℕ} {m : Server} → Is s m → (i p x : ℕ) → i < 8 → p < 32
    → Is (lock_to i p x s 8) (set_ol m (λ a. cond (eqb (a / 8) p && tb x (a % 8)) (suc i) (m.ol a)))
lock_is {s} {m} h i p x l q =
    subst (Is (lock_to i p x s 8)) (ap (set_ol m) (fun_ext (λ a. rw (lt-ltb (a % 8) 8 (omega arith))))) (lock_to_lem h i p x l q 8 (omega arith))
