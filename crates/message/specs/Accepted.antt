-- What a message that a station takes tells of its bytes: numbers 2 to 4 are not due.
use Rattle.std.specs.Prelude.{ℕ, suc, ◌+◌, ◌-◌, ◌*◌, ◌^◌, ◌≤◌, ◌<◌, ◌≡◌, refl, Bool, true, false, ◌&&◌, cond, List, ◌≢◌, length, get_or, eqb, leb}
use Rattle.std.proofs.Common.{arith, eqb-true, ne_eqb, leb-true}
use Rattle.std.proofs.lemmas.Bool.{eqb-false, not-true}
use Rattle.lists.specs.Tests.{and_l, and_r, all_to_at}
use Rattle.lists.specs.Bytes.{Bytes, byte_at}
use Rattle.le.specs.Width.{num_at_lt}
use Rattle.le.specs.Laws.{u32_at_is, u64_at_is}
use Rattle.sets.specs.Laws.{by_eq}
use Rattle.sets.proofs.Laws.{eqb_yes, eqb_no}
use Rattle.layout.specs.Record.{value_length}
use Rattle.message.specs.Layout.{page_from, object_from, transaction_from, pages_from, version_from, sets_from, second_set, values_from, message_length, kind_of, station_of, page_of, requester_of, object_of, cause_of, transaction_of, pages_of, version_of, set_of, value_of, page_version_of, page_versions_from, version_width}
use Rattle.message.specs.Range.{zero_at, zeros, station_ok, page_ok, object_ok, requester_ok, transaction_ok, page_message_ok, grant_ok, deescalate_ok, callback_ok, committed_ok, aborted_ok, invalidate_ok, down_fields_ok}
use Rattle.message.specs.Number.{length_ok, down_range, down_number}

-- the n bytes from a are 0
abbrev pub Zero : List ℕ → ℕ → ℕ → Type 0
Zero m a n = (i : ℕ) → i < n → get_or m (a + i) 0 ≡ 0

pub zeros_are : (m : List ℕ) (a n : ℕ) → zeros m a n ≡ true → Zero m a n
unfolding zeros zero_at
zeros_are m a n h i l = eqb-true _ _ (all_to_at (zero_at m a) n h i l)

-- what the fields of any bytes are below
pub record Fits (m : List ℕ) : Type 0 where
  pub page_fits : page_of m < 256
  pub object_fits : object_of m < 256
  pub transaction_fits : transaction_of m < 2 ^ 32
  pub pages_fit : pages_of m < 2 ^ 32
  pub version_fits : version_of m < 2 ^ 32
  pub set_fits : (p : ℕ) → set_of m p < 256
  pub value_fits : (o : ℕ) → value_of m o < 2 ^ 64
  pub page_version_fits : (o : ℕ) → page_version_of m o < 2 ^ 32

pub fields_fit : (m : List ℕ) → Bytes m → Fits m
fields_fit m h =
    record {
      page_fits = byte_at m page_from h;
      object_fits = byte_at m object_from h;
      transaction_fits = rw u32_at_is (num_at_lt 4 m transaction_from h);
      pages_fit = rw u32_at_is (num_at_lt 4 m pages_from h);
      version_fits = rw u32_at_is (num_at_lt 4 m version_from h);
      set_fits = λ p. byte_at m (sets_from + p) h;
      value_fits = λ o. rw u64_at_is (num_at_lt value_length m (values_from + o * value_length) h);
      page_version_fits = λ o. rw u32_at_is (num_at_lt version_width m (page_versions_from + o * version_width) h);
    }

-- what each test of a field tells
module _ (m : List ℕ) where
  pub page_lt : page_ok m ≡ true → page_of m < 32
  page_lt h = omega (arith, leb-true (page_of m) 31 h)

  pub object_lt : object_ok m ≡ true → object_of m < 8
  object_lt h = omega (arith, leb-true (object_of m) 7 h)

  pub requester_lt : requester_ok m ≡ true → requester_of m < 8
  requester_lt h = omega (arith, leb-true (requester_of m) 7 h)

  pub station_lt : station_ok m ≡ true → station_of m < 8
  station_lt h = omega (arith, leb-true (station_of m) 7 h)

  pub transaction_named : transaction_ok m ≡ true → transaction_of m ≢ 0
  transaction_named h = eqb-false (transaction_of m) 0 (not-true (eqb (transaction_of m) 0) h)

-- a number that is 0 comes from a test that passed
pub passed : (b : Bool) (x n : ℕ) → cond b x (suc n) ≡ 0 → (b ≡ true) × (x ≡ 0)
passed true x n e = (refl, e)
passed false x n e = absurd (omega arith)

-- WHAT EACH KIND'S FIELDS ARE

-- "16 page (page, object, transaction, version, unavailable set, values)", the versions behind the values; 17 and 18 the same, without an object
pub record PageFields (m : List ℕ) : Type 0 where
  pub page_is : page_of m < 32
  pub object_is : object_of m < 8
  pub transaction_not_0 : transaction_of m ≢ 0
  pub unnamed_pages : Zero m pages_from (sets_from - pages_from)
  pub unnamed_other_sets : Zero m second_set (values_from - second_set)

page_fields : (m : List ℕ) → page_message_ok m ≡ true → PageFields m
unfolding page_message_ok
page_fields m h =
    record {
      page_is = page_lt m (search (and_l, and_r));
      object_is = object_lt m (search (and_l, and_r));
      transaction_not_0 = transaction_named m (search (and_l, and_r));
      unnamed_pages = zeros_are m pages_from (sets_from - pages_from) (search (and_l, and_r));
      unnamed_other_sets = zeros_are m second_set (values_from - second_set) (search (and_l, and_r));
    }

-- "19 de-escalate (page, transaction)"
pub record DeescalateFields (m : List ℕ) : Type 0 where
  pub page_is : page_of m < 32
  pub transaction_not_0 : transaction_of m ≢ 0
  pub unnamed_object : Zero m object_from 1
  pub unnamed_pages : Zero m pages_from (message_length - pages_from)

deescalate_fields : (m : List ℕ) → deescalate_ok m ≡ true → DeescalateFields m
unfolding deescalate_ok
deescalate_fields m h =
    record {
      page_is = page_lt m (search (and_l, and_r));
      transaction_not_0 = transaction_named m (search (and_l, and_r));
      unnamed_object = zeros_are m object_from 1 (search (and_l, and_r));
      unnamed_pages = zeros_are m pages_from (message_length - pages_from) (search (and_l, and_r));
    }

-- "20 callback (requester, its transaction, object sets by page)": it comes to `at`
pub record CallbackFields (at : ℕ) (m : List ℕ) : Type 0 where
  pub requester_is : requester_of m < 8
  pub requester_other : requester_of m ≢ at
  pub transaction_not_0 : transaction_of m ≢ 0
  pub unnamed_object : Zero m object_from 1
  pub unnamed_pages : Zero m pages_from (sets_from - pages_from)
  pub unnamed_values : Zero m values_from (message_length - values_from)

callback_fields : (at : ℕ) (m : List ℕ) → callback_ok at m ≡ true → CallbackFields at m
unfolding callback_ok
callback_fields at m h =
    record {
      requester_is = requester_lt m (search (and_l, and_r) depth 7);
      requester_other = eqb-false (requester_of m) at (not-true (eqb (requester_of m) at) (search (and_l, and_r) depth 7));
      transaction_not_0 = transaction_named m (search (and_l, and_r));
      unnamed_object = zeros_are m object_from 1 (search (and_l, and_r));
      unnamed_pages = zeros_are m pages_from (sets_from - pages_from) (search (and_l, and_r));
      unnamed_values = zeros_are m values_from (message_length - values_from) (search (and_l, and_r));
    }

-- "21 committed (transaction, commit number)"
pub record CommittedFields (m : List ℕ) : Type 0 where
  pub transaction_not_0 : transaction_of m ≢ 0
  pub number_not_0 : version_of m ≢ 0
  pub unnamed_page : Zero m page_from (transaction_from - page_from)
  pub unnamed_pages : Zero m pages_from (version_from - pages_from)
  pub unnamed_sets : Zero m sets_from (message_length - sets_from)

committed_fields : (m : List ℕ) → committed_ok m ≡ true → CommittedFields m
unfolding committed_ok
committed_fields m h =
    record {
      transaction_not_0 = transaction_named m (search (and_l, and_r));
      number_not_0 = eqb-false (version_of m) 0 (not-true (eqb (version_of m) 0) (search (and_l, and_r)));
      unnamed_page = zeros_are m page_from (transaction_from - page_from) (search (and_l, and_r));
      unnamed_pages = zeros_are m pages_from (version_from - pages_from) (search (and_l, and_r));
      unnamed_sets = zeros_are m sets_from (message_length - sets_from) (search (and_l, and_r));
    }

-- "22 aborted (transaction, cause)"
pub record AbortedFields (m : List ℕ) : Type 0 where
  pub cause_not_0 : cause_of m ≢ 0
  pub cause_is : cause_of m ≤ 4
  pub transaction_not_0 : transaction_of m ≢ 0
  pub unnamed_page : Zero m page_from 1
  pub unnamed_pages : Zero m pages_from (message_length - pages_from)

aborted_fields : (m : List ℕ) → aborted_ok m ≡ true → AbortedFields m
unfolding aborted_ok
aborted_fields m h =
    let low : 1 ≤ cause_of m = leb-true 1 (cause_of m) (search (and_l, and_r)) in
    record {
      cause_not_0 = omega arith;
      cause_is = leb-true (cause_of m) 4 (search (and_l, and_r));
      transaction_not_0 = transaction_named m (search (and_l, and_r));
      unnamed_page = zeros_are m page_from 1 (search (and_l, and_r));
      unnamed_pages = zeros_are m pages_from (message_length - pages_from) (search (and_l, and_r));
    }

-- "Kind 23 carries object sets by page and no page set"
pub record InvalidateFields (m : List ℕ) : Type 0 where
  pub unnamed_page : Zero m page_from (sets_from - page_from)
  pub unnamed_values : Zero m values_from (message_length - values_from)

invalidate_fields : (m : List ℕ) → invalidate_ok m ≡ true → InvalidateFields m
unfolding invalidate_ok
invalidate_fields m h =
    let front = zeros m page_from (sets_from - page_from) in
    let rest = zeros m values_from (message_length - values_from) in
    record { unnamed_page = zeros_are m page_from (sets_from - page_from) (and_l front rest h); unnamed_values = zeros_are m values_from (message_length - values_from) (and_r front rest h) }

-- WHAT A STATION TAKES

pub record DownAccepted (at : ℕ) (m : List ℕ) : Type 0 where
  pub length_is : length m ≡ message_length
  pub at_is : at < 8
  pub station_is : station_of m < 8
  pub kind_from_lem : 16 ≤ kind_of m
  pub kind_to : kind_of m ≤ 23
  -- 16, 17 and 18
  pub page : kind_of m ≤ 18 → PageFields m
  -- 17 and 18
  pub grant : 17 ≤ kind_of m → kind_of m ≤ 18 → object_of m ≡ 0
  pub deescalate : kind_of m ≡ 19 → DeescalateFields m
  pub callback : kind_of m ≡ 20 → CallbackFields at m
  pub committed : kind_of m ≡ 21 → CommittedFields m
  pub aborted : kind_of m ≡ 22 → AbortedFields m
  pub invalidate : kind_of m ≡ 23 → InvalidateFields m

-- no commit comes to a station
length_down : (m : List ℕ) → 16 ≤ kind_of m → length_ok m ≡ true → length m ≡ message_length
unfolding length_ok
length_down m k h = eqb-true (length m) message_length (rw (ne_eqb (kind_of m) 3 (λ e. omega arith)) at h)

grant_kind : (at : ℕ) (m : List ℕ) → 17 ≤ kind_of m → kind_of m ≤ 18 → down_fields_ok at m ≡ true → grant_ok m ≡ true
unfolding down_fields_ok
grant_kind at m from to h =
    by_eq (kind_of m) 17 (λ e. rw (eqb_yes (kind_of m) 17 e) at h)
    (λ e.
    let is : kind_of m ≡ 18 = omega (arith, eqb_no (kind_of m) 17 e) in
    rw is at h)

grant_page : (m : List ℕ) → grant_ok m ≡ true → PageFields m
unfolding grant_ok
grant_page m h = page_fields m (and_l (page_message_ok m) (zeros m object_from 1) h)

grant_object : (m : List ℕ) → grant_ok m ≡ true → object_of m ≡ 0
unfolding grant_ok
grant_object m h = zeros_are m object_from 1 (and_r (page_message_ok m) (zeros m object_from 1) h) 0 (omega arith)

page_kind : (at : ℕ) (m : List ℕ) → 16 ≤ kind_of m → kind_of m ≤ 18 → down_fields_ok at m ≡ true → PageFields m
unfolding down_fields_ok
page_kind at m from to h =
    by_eq (kind_of m) 16 (λ e. page_fields m (rw e at h))
    (λ e. grant_page m (grant_kind at m (omega (arith, eqb_no (kind_of m) 16 e)) to h))

pub down_accepted : (at : ℕ) (m : List ℕ) → down_number at m ≡ 0 → DownAccepted at m
unfolding down_number down_range down_fields_ok
down_accepted at m h =
    let len = passed (length_ok m) (down_range at m) 1 h in
    let kinds = passed (leb 16 (kind_of m) && leb (kind_of m) 23) (cond (leb at 7 && station_ok m && down_fields_ok at m) 0 4) 2 len.1 in
    let ranges = passed (leb at 7 && station_ok m && down_fields_ok at m) 0 3 kinds.1 in
    let from : 16 ≤ kind_of m = leb-true 16 (kind_of m) (and_l _ _ kinds.0) in
    let fields : down_fields_ok at m ≡ true = and_r (leb at 7 && station_ok m) (down_fields_ok at m) ranges.0 in
    let here = and_l (leb at 7 && station_ok m) (down_fields_ok at m) ranges.0 in
    record {
      length_is = length_down m from len.0;
      at_is = omega (arith, leb-true at 7 (and_l (leb at 7) (station_ok m) here));
      station_is = station_lt m (and_r (leb at 7) (station_ok m) here);
      kind_from_lem = from;
      kind_to = leb-true (kind_of m) 23 (and_r (leb 16 (kind_of m)) _ kinds.0);
      page = λ to. page_kind at m from to fields;
      grant = λ low to. grant_object m (grant_kind at m low to fields);
      deescalate = λ e. deescalate_fields m (rw e at fields);
      callback = λ e. callback_fields at m (rw e at fields);
      committed = λ e. committed_fields m (rw e at fields);
      aborted = λ e. aborted_fields m (rw e at fields);
      invalidate = λ e. invalidate_fields m (rw e at fields);
    }
