-- What a record adds to the counts: one at each address that it writes.
use Prim.Native.Nat.{ℕ, zero, suc, ◌+◌, ◌-◌, ◌≤◌, ◌<◌}
use Rattle.std.specs.Prelude.{◌≡◌, List, Bool, cond, eqb}
use Rattle.std.proofs.Math.Path.{refl}
use Rattle.std.proofs.Common.{sym, ◌∙◌, ⊎_elim, eq-or-lt_of_le, le_of_suc-le-suc, length-set, get_or-set_other}
use Rattle.std.proofs.Math.Bool.{true, false}
use native.Mathlib.Omega.{arith}
use Rattle.std.proofs.Math.ListN.{length, get_or}
use Rattle.std.proofs.Math.Seq.{get_or-set_same}
use borrow.Author.Tests.{lt-ltb, le-ltb, ltb-true, ne_eqb, eqb-true, eqb-false}
use Rattle.lists.specs.Tests.{all_to_at, and_r}
use Rattle.layout.specs.Record.{header_length}
use Rattle.record.specs.Check.{read_count, write_count, length_of, claimed_length, rise_at, rises, head_at, addresses_rise, check_of}
use Rattle.record.specs.Facts.{accepted}
use Rattle.replay.specs.Replay.{address_from, address_at}
use Rattle.totals.specs.Totals.{most, one_more, counted_to, counted}

-- entry n + i of the record at the start of t is address a
abbrev is_at : List ℕ → ℕ → ℕ → ℕ → Bool
is_at t n a i = eqb (address_at t (n + i)) a

-- one of the c entries from the n-th is
unfoldable pub any_to : List ℕ → ℕ → ℕ → ℕ → Bool
any_to t n a zero = false
any_to t n a (suc c) = cond (is_at t n a c) true (any_to t n a c)

-- the record at the start of t writes address a
abbrev pub writes : List ℕ → ℕ → Bool
writes t a = any_to t (read_count t) a (write_count t)

length_counted_to : (t counts : List ℕ) (n c : ℕ) → length (counted_to t counts n c) ≡ length counts
unfolding counted_to
length_counted_to t counts n zero = refl
length_counted_to t counts n (suc c) = rw (length-set, length_counted_to t counts n c)

-- addresses that rise differ
module _ (t : List ℕ) (n m : ℕ) (rise : rises t (header_length + n) m ≡ true) where
  next_above : (c : ℕ) → suc c < m → address_at t (n + c) < address_at t (n + suc c)
  unfolding rises rise_at
  next_above c h =
      let e : header_length + n + c ≡ address_from (n + c) = omega arith in
      let e1 : header_length + n + c + 1 ≡ address_from (n + suc c) = omega arith in
      ltb-true _ _ (rw (e1, e) at (all_to_at (rise_at t (header_length + n)) (m - 1) rise c (omega arith)))

  below : (c i : ℕ) → c < m → i < c → address_at t (n + i) < address_at t (n + c)
  below zero i hc hi = absurd (omega arith)
  below (suc c) i hc hi =
      let step = next_above c hc in
      ⊎_elim (λ e. rw e step) (λ h. let before = below c i (omega arith) h in omega arith) (eq-or-lt_of_le (le_of_suc-le-suc hi))

none : (t : List ℕ) (n a c : ℕ) → ((i : ℕ) → i < c → address_at t (n + i) < a) → any_to t n a c ≡ false
unfolding any_to
none t n a zero h = refl
none t n a (suc c) h =
    let last = h c (omega arith) in
    rw (ne_eqb (address_at t (n + c)) a (λ e. omega arith), none t n a c (λ i l. h i (omega arith)))

-- the counts after c writes whose addresses rise: each address that is among them has one more
module _ (t counts : List ℕ) (n m a : ℕ) (rise : rises t (header_length + n) m ≡ true) (inside : a < length counts) (few : get_or counts a 0 < most) where
  Counts : ℕ → Type 0
  Counts c = get_or (counted_to t counts n c) a 0 ≡ get_or counts a 0 + cond (any_to t n a c) 1 0

  one_entry : (c : ℕ) → c < m → Counts c → (b : Bool) → is_at t n a c ≡ b → Counts (suc c)
  unfolding counted_to any_to one_more Counts
  one_entry c hc rest true e =
      let is : address_at t (n + c) ≡ a = eqb-true _ _ e in
      let fresh = none t n a c (λ i l. rw is at (below t n m rise c i hc l)) in
      let k = counted_to t counts n c in
      let same : get_or k a 0 ≡ get_or counts a 0 = rest ∙ rw fresh (omega arith) in
      let there : a < length k = rw length_counted_to inside in
      rw (e, is, get_or-set_same k a _ 0 there, same, lt-ltb _ _ few)
  one_entry c hc rest false e =
      rw e (get_or-set_other (counted_to t counts n c) (address_at t (n + c)) a _ 0 (λ q. eqb-false _ _ e (sym q)) ∙ rest)

  all_entries : (c : ℕ) → c ≤ m → Counts c
  unfolding counted_to any_to Counts
  all_entries zero h = omega arith
  all_entries (suc c) h = one_entry c h (all_entries c (omega arith)) (is_at t n a c) refl

-- a record that is accepted adds one at each address that it writes
module _ (t counts : List ℕ) (checks : check_of t ≡ 0) where
  counted_is : counted t counts ≡ counted_to t counts (read_count t) (write_count t)
  unfolding counted claimed_length
  counted_is =
      let r = accepted t checks in
      rw (le-ltb (length t) header_length r.header_there, le-ltb (length t) (length_of t) r.all_there)

  writes_rise : rises t (header_length + read_count t) (write_count t) ≡ true
  unfolding addresses_rise
  writes_rise =
      and_r (rises t header_length (read_count t)) (rises t (header_length + read_count t) (write_count t)) (and_r (head_at t) (addresses_rise t) (accepted t checks).layout)

  pub one_record : (a : ℕ) → a < length counts → get_or counts a 0 < most → get_or (counted t counts) a 0 ≡ get_or counts a 0 + cond (writes t a) 1 0
  unfolding Counts
  one_record a inside few =
      rw counted_is (all_entries t counts (read_count t) (write_count t) a writes_rise inside few (write_count t) (omega arith))

  pub length_counted : length (counted t counts) ≡ length counts
  length_counted = rw counted_is (length_counted_to t counts (read_count t) (write_count t))
