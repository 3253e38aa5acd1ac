-- What an accepted record tells of its bytes.
use Rattle.std.specs.Prelude.{ℕ, ◌+◌, ◌*◌, ◌≤◌, ◌≡◌, refl, List, Bool, true, false, ◌&&◌, not, cond, length, eqb, ltb, leb}
use Rattle.std.proofs.Common.{arith, ltb-false, leb-true, eqb-true}
use Rattle.std.proofs.lemmas.Bool.{not-true}
use Rattle.lists.specs.Tests.{and_l, and_r}
use Rattle.layout.specs.Record.{header_length, value_length, most_entries}
use Rattle.record.specs.Check.{head_ok_lem, rises, length_of, laid_out_lem, check_of}
use Rattle.record.specs.Write.{fits}
use Rattle.kinds.specs.Kinds.{most_kind}

pub record Accepted (s : List ℕ) : Type 0 where
  pub header_there : header_length ≤ length s
  pub all_there : length_of s ≤ length s
  pub layout : laid_out_lem s ≡ true

pub accepted : (s : List ℕ) → check_of s ≡ 0 → Accepted s
unfolding check_of
accepted s h = by_tests (ltb (length s) header_length) (ltb (length s) (length_of s)) (laid_out_lem s) refl refl refl h
  where
    by_tests : (a b l : Bool) → ltb (length s) header_length ≡ a → ltb (length s) (length_of s) ≡ b → laid_out_lem s ≡ l → ◌≡◌ {A = ℕ} (cond a 12 (cond b 12 (cond l 0 5))) 0 → Accepted s
    by_tests true b l ea eb el e = absurd (omega arith)
    by_tests false true l ea eb el e = absurd (omega arith)
    by_tests false false true ea eb el e = record { header_there = ltb-false _ _ ea; all_there = ltb-false _ _ eb; layout = el }
    by_tests false false false ea eb el e = absurd (omega arith)

-- what a header in range tells
pub record HeadFits (n m transaction station kind : ℕ) : Type 0 where
  pub reads_count : n ≤ most_entries
  pub writes_count : m ≤ most_entries
  pub transaction_not_0 : eqb transaction 0 ≡ false
  pub station_is : station ≤ 7
  pub kind_is : kind ≤ most_kind

pub head_fits : (n m transaction station kind : ℕ) → head_ok_lem n m transaction station kind ≡ true → HeadFits n m transaction station kind
unfolding head_ok_lem
head_fits n m t s k h =
    let a = leb n most_entries in
    let b = leb m most_entries in
    let d = not (eqb t 0) in
    let f = leb s 7 in
    let h4 = and_l (a && b && d && f) (leb k most_kind) h in
    let h3 = and_l (a && b && d) f h4 in
    let h2 = and_l (a && b) d h3 in
    record {
      reads_count = leb-true _ _ (and_l a b h2);
      writes_count = leb-true _ _ (and_r a b h2);
      transaction_not_0 = not-true (eqb t 0) (and_r (a && b) d h3);
      station_is = leb-true _ _ (and_r (a && b && d) f h4);
      kind_is = leb-true _ _ (and_r (a && b && d && f) (leb k most_kind) h);
    }

-- what arguments that fit tell
pub record Fit (n m transaction station kind : ℕ) (addrs vals : List ℕ) : Type 0 where
  pub head : head_ok_lem n m transaction station kind ≡ true
  pub addresses_length : length addrs ≡ n + m
  pub values_length : length vals ≡ value_length * (n + m)
  pub reads_rise : rises addrs 0 n ≡ true
  pub writes_rise : rises addrs n m ≡ true

pub fit : (n m transaction station kind : ℕ) (addrs vals : List ℕ) → fits n m transaction station kind addrs vals ≡ true → Fit n m transaction station kind addrs vals
unfolding fits
fit n m t s k addrs vals h =
    let a = eqb (length addrs) (n + m) in
    let b = head_ok_lem n m t s k in
    let d = eqb (length vals) (value_length * (n + m)) in
    let f = rises addrs 0 n in
    let g = rises addrs n m in
    let hr = and_r a (b && d && f && g) h in
    let h3 = and_l (b && d && f) g hr in
    let h2 = and_l (b && d) f h3 in
    record {
      head = and_l b d h2;
      addresses_length = eqb-true _ _ (and_l a (b && d && f && g) h);
      values_length = eqb-true _ _ (and_r b d h2);
      reads_rise = and_r (b && d) f h3;
      writes_rise = and_r (b && d && f) g hr;
    }
