-- Nothing is lost where a record of the line is written as document 01's record, and its replay is the line's.
use Rattle.std.specs.Prelude.{ℕ, zero, suc, ◌+◌, ◌≤◌, ◌<◌, ◌≡◌, refl, List, [], ◌∷◌, ltb}
use Rattle.std.proofs.Common.{ap, ◌∙◌, arith}
use Rattle.std.proofs.Math.Path.{fun_ext}
use Rattle.sets.specs.Base.{Val, none, some, val_or}
use Rattle.sets.specs.Laws.{by_b, by_eq}
use Rattle.sets.proofs.Laws.{eqb_same, eqb_yes, eqb_no, ltb_yes, ltb_no}
use Rattle.layout.specs.Record.{Entry}
use Rattle.layout.specs.Replay.{Values, wrote, ReadsAgree, Replays}
use Rattle.layout.specs.Replay as Laid
use Rattle.entries.specs.Entries.{entry_if, entries_from_lem, entries_of, value_in, Within}
use Rattle.entries.proofs.Entries.{says}
use Rattle.recs.specs.Recs.{records_of, Narrow}
use Rattle.line.specs.All.{All}
use Rattle.line.specs.Messages.{Rec}
use Rattle.line.specs.Truth as Line

-- WHAT THE ENTRIES WRITE

-- in rising entries the writes are those that the list says
from_wrote_less : (n a : ℕ) (f : ℕ → Val) (v : Values) (b : ℕ) → b < a → wrote (entries_from_lem n a f) v b ≡ v b
unfolding entries_from_lem
from_wrote_less zero a f v b h = refl
from_wrote_less (suc n) a f v b h = on_value (f a) (λ u. from_wrote_less n (suc a) f u b (omega arith))
  where
    on_value : (c : Val) → ((u : Values) → wrote (entries_from_lem n (suc a) f) u b ≡ u b) → wrote (entry_if a c (entries_from_lem n (suc a) f)) v b ≡ v b
    on_value none k = k v
    on_value (some x) k = k _ ∙ by_eq b a (λ e. absurd (omega (arith, eqb_yes b a e))) (λ e. rw e refl)

from_wrote : (n a : ℕ) (f : ℕ → Val) (v : Values) (b : ℕ) → a ≤ b → b < a + n → wrote (entries_from_lem n a f) v b ≡ val_or (f b) (v b)
unfolding entries_from_lem
from_wrote zero a f v b h k = absurd (omega arith)
from_wrote (suc n) a f v b h k = on_value (f a) refl (λ u l. from_wrote n (suc a) f u b l (omega arith))
  where
    on_value : (c : Val) → f a ≡ c → ((u : Values) → suc a ≤ b → wrote (entries_from_lem n (suc a) f) u b ≡ val_or (f b) (u b))
        → wrote (entry_if a c (entries_from_lem n (suc a) f)) v b ≡ val_or (f b) (v b)
    on_value none e rest =
        by_eq b a (λ q. rw (eqb_yes b a q, e) (from_wrote_less n (suc a) f v a (omega arith))) (λ q. rest v (omega (arith, eqb_no b a q)))
    on_value (some x) e rest =
        by_eq b a (λ q. rw (eqb_yes b a q, e) (from_wrote_less n (suc a) f _ a (omega arith) ∙ rw (eqb_same a) refl))
        (λ q. rest _ (omega (arith, eqb_no b a q)) ∙ rw q refl)

from_wrote_more : (n a : ℕ) (f : ℕ → Val) (v : Values) (b : ℕ) → a + n ≤ b → wrote (entries_from_lem n a f) v b ≡ v b
unfolding entries_from_lem
from_wrote_more zero a f v b h = refl
from_wrote_more (suc n) a f v b h = on_value (f a) (λ u. from_wrote_more n (suc a) f u b (omega arith))
  where
    on_value : (c : Val) → ((u : Values) → wrote (entries_from_lem n (suc a) f) u b ≡ u b) → wrote (entry_if a c (entries_from_lem n (suc a) f)) v b ≡ v b
    on_value none k = k v
    on_value (some x) k = k _ ∙ by_eq b a (λ e. absurd (omega (arith, eqb_yes b a e))) (λ e. rw e refl)

pub wrote_is : (f : ℕ → Val) → Within f → (v : Values) (a : ℕ) → wrote (entries_of f) v a ≡ val_or (f a) (v a)
unfolding entries_of
wrote_is f w v a =
    by_b (ltb a 256) (λ e. let h : a < 256 = ltb_yes a 256 e in from_wrote 256 0 f v a (omega arith) (omega arith))
    (λ e. let h : 256 ≤ a = ltb_no a 256 e in from_wrote_more 256 0 f v a (omega arith) ∙ rw (w a h) refl)

-- THE READS AGREE EXACTLY IF EACH VALUE READ IS THE VALUE THERE

from_agree_of : (n a : ℕ) (f : ℕ → Val) (v : Values) → ((b x : ℕ) → f b ≡ some x → v b ≡ x) → ReadsAgree (entries_from_lem n a f) v
unfolding entries_from_lem
from_agree_of zero a f v h = tt
from_agree_of (suc n) a f v h = on_value (f a) refl (from_agree_of n (suc a) f v h)
  where
    on_value : (c : Val) → f a ≡ c → ReadsAgree (entries_from_lem n (suc a) f) v → ReadsAgree (entry_if a c (entries_from_lem n (suc a) f)) v
    on_value none e k = k
    on_value (some x) e k = (h a x e, k)

agrees : (l : List Entry) (v : Values) → ReadsAgree l v → (a x : ℕ) → value_in l a ≡ some x → v a ≡ x
agrees [] v h a x e = let z : ◌≡◌ {A = ℕ} 0 1 = cc in absurd (omega arith)
agrees (g ∷ l) v h a x e =
    let rest : value_in l a ≡ some x → v a ≡ x = agrees l v h.1 a x in
    by_eq a g.address (λ q. rw (eqb_yes a g.address q) (h.0 ∙ the (rw q at e))) (λ q. rest (rw q at e))
  where
    the : {y z : ℕ} → some y ≡ some z → y ≡ z
    the e = ap (λ (c : Val). val_or c 0) e

pub agree_of : (f : ℕ → Val) (v : Values) → ((a x : ℕ) → f a ≡ some x → v a ≡ x) → ReadsAgree (entries_of f) v
unfolding entries_of
agree_of f v h = from_agree_of 256 0 f v h

pub agree_at : (f : ℕ → Val) (v : Values) → Within f → ReadsAgree (entries_of f) v → (a x : ℕ) → f a ≡ some x → v a ≡ x
agree_at f v w h a x e = agrees (entries_of f) v h a x (says f w a ∙ e)

-- WHAT RECORDS LEAVE, AND THEIR REPLAY

wrote_all : (r : Rec) → Narrow r → (v : Values) → wrote (entries_of r.writes) v ≡ (λ a. val_or (r.writes a) (v a))
wrote_all r n v = fun_ext (wrote_is r.writes n.writes v)

pub left_is : (rs : List Rec) (v : Values) → All Narrow rs → (a : ℕ) → Laid.left (records_of rs) v a ≡ Line.left rs v a
left_is [] v h a = refl
left_is (r ∷ rs) v h a = ap (λ (u : Values). Laid.left (records_of rs) u a) (wrote_all r h.0 v) ∙ left_is rs (λ b. val_or (r.writes b) (v b)) h.1 a

-- each record's reads are what the records before it leave, from v
abbrev pub ReadsLeft : List Rec → (ℕ → ℕ) → Type 0
ReadsLeft [] v = Unit {0}
ReadsLeft (r ∷ rs) v = ((a x : ℕ) → r.reads a ≡ some x → v a ≡ x) × ReadsLeft rs (λ a. val_or (r.writes a) (v a))

pub replays_of : (rs : List Rec) (v : Values) → All Narrow rs → ReadsLeft rs v → Replays (records_of rs) v
replays_of [] v h k = tt
replays_of (r ∷ rs) v h k = (agree_of r.reads v k.0, rw (wrote_all r h.0 v) (replays_of rs (λ a. val_or (r.writes a) (v a)) h.1 k.1))

-- and the other way
pub replays_at : (rs : List Rec) (v : Values) → All Narrow rs → Replays (records_of rs) v → ReadsLeft rs v
replays_at [] v h k = tt
replays_at (r ∷ rs) v h k =
    (agree_at r.reads v h.0.reads k.0, replays_at rs (λ a. val_or (r.writes a) (v a)) h.1 (rw (wrote_all r h.0 v) at k.1))
