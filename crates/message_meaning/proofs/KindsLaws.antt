-- What a message says, kind by kind.
use Rattle.std.specs.Prelude.{ℕ, ◌/◌, ◌%◌, ◌≡◌, refl, Bool, true, false, cond, List, get_or, drop, ltb}
use Rattle.std.proofs.Common.{◌∙◌, arith, length-take, get_or-take, get_or-drop}
use Rattle.std.proofs.Math.ListN.{get_or-eq_default}
use Rattle.sets.specs.Laws.{by_b}
use Rattle.sets.proofs.Laws.{ltb_yes, ltb_no}
use Rattle.cells.specs.Bits.{tb}
use Rattle.cells.proofs.Bits.{tb_zero}
use Rattle.line.specs.Messages.{address, ReadRequest, WriteRequest, Commit, Abort, Purge, Busy, Done, WrittenSet, NoLock, ObjectLock, WholeLock, Deescalate, Callback, Committed, Aborted, Invalidate}
use Rattle.message.specs.Layout.{sets_from, sets_length, kind_of, page_of, requester_of, object_of, cause_of, transaction_of, pages_of, version_of, set_of}
use Rattle.message_meaning.specs.Meant.{objects_on, objects_in, pages_in, sets_of, work_at, up_of, page_at, down_of}

module _ (m : List ℕ) where
  pub up_1 : kind_of m ≡ 1 → up_of m ≡ ReadRequest (address (page_of m) (object_of m)) (transaction_of m)
  unfolding up_of
  up_1 e = rw e

  pub up_2 : kind_of m ≡ 2 → up_of m ≡ WriteRequest (page_of m) (transaction_of m) (objects_on (page_of m) (set_of m 0))
  unfolding up_of
  up_2 e = rw e

  pub up_3 : kind_of m ≡ 3 → up_of m ≡ Commit (work_at m)
  unfolding up_of
  up_3 e = rw e

  pub up_4 : kind_of m ≡ 4 → up_of m ≡ Abort (transaction_of m)
  unfolding up_of
  up_4 e = rw e

  pub up_5 : kind_of m ≡ 5 → up_of m ≡ Purge (page_of m)
  unfolding up_of
  up_5 e = rw e

  pub up_6 : kind_of m ≡ 6 → up_of m ≡ Busy (requester_of m) (transaction_of m)
  unfolding up_of
  up_6 e = rw e

  pub up_7 : kind_of m ≡ 7 → up_of m ≡ Done (requester_of m) (transaction_of m) (pages_in (pages_of m))
  unfolding up_of
  up_7 e = rw e

  pub up_8 : kind_of m ≡ 8 → up_of m ≡ WrittenSet (page_of m) (transaction_of m) (objects_on (page_of m) (set_of m 0))
  unfolding up_of
  up_8 e = rw e

  pub down_16 : kind_of m ≡ 16 → down_of m ≡ page_at NoLock m
  unfolding down_of
  down_16 e = rw e

  pub down_17 : kind_of m ≡ 17 → down_of m ≡ page_at ObjectLock m
  unfolding down_of
  down_17 e = rw e

  pub down_18 : kind_of m ≡ 18 → down_of m ≡ page_at WholeLock m
  unfolding down_of
  down_18 e = rw e

  pub down_19 : kind_of m ≡ 19 → down_of m ≡ Deescalate (page_of m) (transaction_of m)
  unfolding down_of
  down_19 e = rw e

  pub down_20 : kind_of m ≡ 20 → down_of m ≡ Callback (requester_of m) (transaction_of m) (objects_in (sets_of m))
  unfolding down_of
  down_20 e = rw e

  pub down_21 : kind_of m ≡ 21 → down_of m ≡ Committed (transaction_of m) (version_of m)
  unfolding down_of
  down_21 e = rw e

  pub down_22 : kind_of m ≡ 22 → down_of m ≡ Aborted (transaction_of m) (cause_of m)
  unfolding down_of
  down_22 e = rw e

  pub down_23 : kind_of m ≡ 23 → down_of m ≡ Invalidate (objects_in (sets_of m))
  unfolding down_of
  down_23 e = rw e

  -- the set of a page, by its place in the message; there are 32
  pub sets_at_lem : (p : ℕ) → get_or (sets_of m) p 0 ≡ cond (ltb p 32) (set_of m p) 0
  sets_at_lem p =
      by_b (ltb p 32) (λ e. rw e (get_or-take sets_length (drop sets_from m) p 0 (ltb_yes p 32 e) ∙ get_or-drop sets_from m p 0))
      (λ e. rw e (get_or-eq_default (sets_of m) 0 {n = p} (rw length-take (omega (arith, ltb_no p 32 e)))))

  pub objects_at : (a : ℕ) → objects_in (sets_of m) a ≡ cond (ltb (a / 8) 32) (tb (set_of m (a / 8)) (a % 8)) false
  objects_at a = rw (sets_at_lem (a / 8)) (by_test (ltb (a / 8) 32))
    where
      by_test : (b : Bool) → tb (cond b (set_of m (a / 8)) 0) (a % 8) ≡ cond b (tb (set_of m (a / 8)) (a % 8)) false
      by_test true = refl
      by_test false = tb_zero (a % 8)
