-- One record replayed on 256 values: its reads are tested and its writes are stored as document 01's replay says.
use Rattle.std.specs.Prelude.{ℕ, zero, suc, ◌+◌, ◌≤◌, ◌<◌, ◌≡◌, refl, Bool, true, false, cond, List, length, get_or, set, replicate, eqb}
use Rattle.std.proofs.Common.{ap, ◌∙◌, ⊎_elim, add-zero, add-suc, suc-add, eq-or-lt_of_le, arith, length-set, get_or-set_same, get_or-set_other, eq-eqb, eqb-true}
use Rattle.std.proofs.Math.Path.{fun_ext}
use Rattle.std.proofs.lemmas.Bool.{eqb-false}
use Rattle.lists.specs.Tests.{all_to_at, all_to_of}
use Rattle.lists.specs.Bytes.{Bytes}
use Rattle.layout.specs.Record.{AllFit}
use Rattle.layout.specs.Replay.{Values, zeros, wrote, ReadsAgree}
use Rattle.record.specs.Check.{read_count, write_count, check_of}
use Rattle.record_meaning.specs.Parse.{entries_at, record_of}
use Rattle.record_meaning.proofs.Meaning.{read_written}
use Rattle.replay.specs.Replay.{address_at, value_at, read_agrees, reads_agree, stored_to, stored}
use Rattle.archive_meaning.specs.Stored.{Replaying, values_of}

-- the value at each index after one store
get_d_set : (l : List ℕ) (i x j d : ℕ) → i < length l → get_or (set l i x) j d ≡ cond (eqb j i) x (get_or l j d)
get_d_set l i x j d h = by_test (eqb j i) refl
  where
    by_test : (b : Bool) → eqb j i ≡ b → get_or (set l i x) j d ≡ cond b x (get_or l j d)
    by_test true e = rw (eqb-true j i e) (get_or-set_same l i x d h)
    by_test false e = get_or-set_other l i j x d (eqb-false j i e)

get_d_replicate_all : (n i a : ℕ) → get_or (replicate n a) i a ≡ a
get_d_replicate_all zero i a = refl
get_d_replicate_all (suc n) zero a = refl
get_d_replicate_all (suc n) (suc i) a = get_d_replicate_all n i a

-- fresh values are "first 0"
pub fresh_values : (n : ℕ) → values_of (replicate n 0) ≡ zeros
fresh_values n = fun_ext (λ a. get_d_replicate_all n a 0)

-- reads from i on agree if the values at their addresses do
agree_of : (c : ℕ) (t v : List ℕ) (k i : ℕ) → ((j : ℕ) → i ≤ j → j < i + c → get_or v (address_at t j) 0 ≡ value_at t k j)
    → ReadsAgree (entries_at t k i c) (values_of v)
unfolding entries_at
agree_of zero t v k i h = tt
agree_of (suc c) t v k i h = (h i (omega arith) (omega arith), agree_of c t v k (suc i) (λ j lo hi. h j (omega arith) (omega arith)))

agree_at : (c : ℕ) (t v : List ℕ) (k i : ℕ) → ReadsAgree (entries_at t k i c) (values_of v)
    → (j : ℕ) → i ≤ j → j < i + c → get_or v (address_at t j) 0 ≡ value_at t k j
unfolding entries_at
agree_at zero t v k i h j lo hi = absurd (omega arith)
agree_at (suc c) t v k i h j lo hi =
    ⊎_elim (λ e. rw (← e) h.0) (λ l. agree_at c t v k (suc i) h.1 j l (omega arith)) (eq-or-lt_of_le lo)

-- the first store of several comes first
stored_first : (c : ℕ) (t v : List ℕ) (k n : ℕ) → stored_to t v k n (suc c) ≡ stored_to t (set v (address_at t n) (value_at t k n)) k (suc n) c
unfolding stored_to
stored_first zero t v k n = rw add-zero
stored_first (suc c) t v k n = rw (stored_first c t v k n, add-suc n c, suc-add n c)

stored_length : (c : ℕ) (t v : List ℕ) (k n : ℕ) → length (stored_to t v k n c) ≡ length v
unfolding stored_to
stored_length zero t v k n = refl
stored_length (suc c) t v k n = length-set (stored_to t v k n c) _ _ ∙ stored_length c t v k n

stored_wrote : (c : ℕ) (t v : List ℕ) (k n : ℕ) → length v ≡ 256 → AllFit (entries_at t k n c)
    → values_of (stored_to t v k n c) ≡ wrote (entries_at t k n c) (values_of v)
unfolding entries_at stored_to
stored_wrote zero t v k n l h = refl
stored_wrote (suc c) t v k n l h =
    let a = address_at t n in
    let x = value_at t k n in
    let first : values_of (set v a x) ≡ (λ b. cond (eqb b a) x (values_of v b)) = fun_ext (λ b. get_d_set v a x b 0 (omega (arith, h.0.address))) in
    ap values_of (stored_first c t v k n) ∙ stored_wrote c t (set v a x) k (suc n) (length-set v a x ∙ l) h.1 ∙ ap (wrote (entries_at t k (suc n) c)) first

-- only that the addresses are below 256 is needed of the record
pub replaying : (t v : List ℕ) → length v ≡ 256 → AllFit (record_of t).writes → Replaying t v
unfolding record_of reads_agree read_agrees stored
replaying t v l h =
    let n = read_count t in
    let m = write_count t in
    let k = n + m in
    record {
      reads_tell = λ e. agree_of n t v k 0 (λ j lo hi. eqb-true _ _ (all_to_at (read_agrees t v k) n e j (omega arith)));
      reads_pass = λ g. all_to_of (read_agrees t v k) n (λ j hi. eq-eqb _ _ (agree_at n t v k 0 g j (omega arith) (omega arith)));
      writes_are = λ a. ap (λ (f : Values). f a) (stored_wrote m t v k n l h);
      as_many = stored_length m t v k n;
    }

pub replayed_record : (t v : List ℕ) → Bytes t → check_of t ≡ 0 → length v ≡ 256 → Replaying t v
replayed_record t v hs c l = replaying t v l (read_written t hs c).well_formed.writes_fit
