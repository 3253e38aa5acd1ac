-- What stations send is taken by the server and read as meant: kinds 1, 2 and 4 to 8. (The commit: CommitSent.)
use Rattle.std.specs.Prelude.{ℕ, zero, suc, ◌-◌, ◌^◌, ◌≤◌, ◌<◌, ◌≡◌, true, false, ◌&&◌, List, ◌≢◌, length, replicate, eqb, leb}
use Rattle.std.proofs.Math.Path.{refl}
use Rattle.std.proofs.Common.{◌∙◌, arith}
use borrow.Author.Tests.{eq-eqb, ne_eqb, le-leb}
use Rattle.lists.specs.Tests.{all_to}
use Rattle.lists.specs.Bytes.{Bytes}
use Rattle.le.specs.Width.{bytes}
use Rattle.line.specs.Messages.{address, Up, ReadRequest, WriteRequest, Abort, Purge, Busy, Done, WrittenSet}
use Rattle.message.specs.Stores.{length_up}
use Rattle.message.specs.Layout.{page_from, object_from, transaction_from, pages_from, version_from, sets_from, sets_length, second_set, behind_length, message_length, kind_of, station_of, transaction_of, message, single, up_message}
use Rattle.message.specs.Range.{zero_at, zeros, transaction_ok, request_ok, abort_ok, purge_ok, busy_ok, done_ok_lem, written_set_ok, write_request_ok, up_fields_ok}
use Rattle.message.specs.Number.{length_ok, up_range, kinds_ok, up_number}
use Rattle.message_meaning.specs.Meant.{objects_on, pages_in, up_of}
use Rattle.message_meaning.proofs.KindsLaws.{up_1, up_2, up_4, up_5, up_6, up_7, up_8}
use Rattle.message_meaning.specs.Inverse.{ReadBack}
use Rattle.message_meaning.proofs.Inverse.{written_read, message_are}
use Rattle.message_meaning.specs.Sent.{Reads}

-- numbers 2 to 4 of a message that is no commit
takes : (kinds m : List ℕ) (k : ℕ) → kinds_ok kinds ≡ true → kind_of m ≡ k → eqb k 3 ≡ false → (leb 1 k && leb k 8) ≡ true → length m ≡ message_length → station_of m ≤ 7
    → up_fields_ok m ≡ true → up_number kinds m ≡ 0
unfolding up_number length_ok up_range
takes kinds m k ok is plain range len st fields =
    rw (ok, is, plain, range, eq-eqb (length m) message_length len, le-leb (station_of m) 7 st, fields)

-- "Fields that a kind doesn't name are 0"
module _ (k st p o t pages set : ℕ) where
  zeros_page_object : zeros (up_message k st 0 0 t pages set) page_from (transaction_from - page_from) ≡ true
  unfolding message zeros zero_at all_to
  zeros_page_object = refl

  zeros_object : zeros (up_message k st p 0 t pages set) object_from 1 ≡ true
  unfolding message zeros zero_at all_to
  zeros_object = refl

  zeros_from_object : zeros (up_message k st p 0 0 0 0) object_from (message_length - object_from) ≡ true
  unfolding message bytes zeros zero_at all_to
  zeros_from_object = refl

  zeros_pages_version : zeros (up_message k st p o t 0 set) pages_from (sets_from - pages_from) ≡ true
  unfolding message bytes zeros zero_at all_to
  zeros_pages_version = refl

  zeros_from_pages : zeros (up_message k st p o t 0 0) pages_from (message_length - pages_from) ≡ true
  unfolding message bytes zeros zero_at all_to
  zeros_from_pages = refl

  zeros_from_version : zeros (up_message k st p o t pages 0) version_from (message_length - version_from) ≡ true
  unfolding message bytes zeros zero_at all_to
  zeros_from_version = refl

  zeros_from_second : zeros (up_message k st p o t pages set) second_set (message_length - second_set) ≡ true
  unfolding message bytes zeros zero_at all_to
  zeros_from_second = refl

pub up_are : (k st p o t pages set : ℕ) → k < 256 → st < 256 → p < 256 → o < 256 → set < 256 → Bytes (up_message k st p o t pages set)
up_are k st p o t pages set hk hs hp ho hx =
    message_are k st p o t pages 0 (single set) (replicate behind_length 0) hk hs hp ho (hx, zeros_bytes (sets_length - 1)) (zeros_bytes behind_length)
  where
    zeros_bytes : (n : ℕ) → Bytes (replicate n 0)
    zeros_bytes zero = tt
    zeros_bytes (suc n) = (omega arith, zeros_bytes n)

-- what is read of a message that was sent
pub up_read : (k st p o t pages set : ℕ) → t < 2 ^ 32 → pages < 2 ^ 32
    → ReadBack k st p o t pages 0 (single set) (replicate behind_length 0) (up_message k st p o t pages set)
up_read k st p o t pages set ht hp = written_read k st p o t pages 0 (single set) (replicate behind_length 0) ht hp (omega arith) refl

-- a transaction that is named
named : (m : List ℕ) (t : ℕ) → transaction_of m ≡ t → t ≢ 0 → transaction_ok m ≡ true
named m t e h = rw (e, ne_eqb t 0 h)

module _ (kinds : List ℕ) (ok : kinds_ok kinds ≡ true) (st : ℕ) (hst : st < 8) where
  -- what all have in common
  sent : (k p o t pages set : ℕ) {u : Up} → ReadBack k st p o t pages 0 (single set) (replicate behind_length 0) (up_message k st p o t pages set)
      → k < 256 → eqb k 3 ≡ false → (leb 1 k && leb k 8) ≡ true → p < 32 → o < 8 → set < 256
      → up_fields_ok (up_message k st p o t pages set) ≡ true → up_of (up_message k st p o t pages set) ≡ u
      → Reads kinds st message_length (up_message k st p o t pages set) u
  sent k p o t pages set r hk plain range hp ho hx fields meant =
      let m = up_message k st p o t pages set in
      record {
        length_is = length_up k st p o t pages set;
        bytes_are = up_are k st p o t pages set hk (omega arith) (omega arith) (omega arith) hx;
        accepted = takes kinds m k ok r.kind_is plain range (length_up k st p o t pages set) (rw r.station_is (omega arith)) fields;
        station_is = r.station_is;
        meant = meant;
      }

  request_ok_lem : (p o t : ℕ) → p < 32 → o < 8 → t ≢ 0 → t < 2 ^ 32 → request_ok (up_message 1 st p o t 0 0) ≡ true
  unfolding request_ok
  request_ok_lem p o t hp ho h0 ht =
      let m = up_message 1 st p o t 0 0 in
      let r = up_read 1 st p o t 0 0 ht (omega arith) in
      rw (r.page_is, r.object_is, le-leb p 31 (omega arith), le-leb o 7 (omega arith), named m t r.transaction_is h0, zeros_from_pages 1 st p o t 0 0)

  -- "1 read request (page, object, transaction)"
  pub read_sent : (p o t : ℕ) → p < 32 → o < 8 → t ≢ 0 → t < 2 ^ 32 → Reads kinds st message_length (up_message 1 st p o t 0 0) (ReadRequest (address p o) t)
  unfolding up_fields_ok
  read_sent p o t hp ho h0 ht =
      let r = up_read 1 st p o t 0 0 ht (omega arith) in
      sent 1 p o t 0 0 r (omega arith) refl refl hp ho (omega arith) (rw r.kind_is (request_ok_lem p o t hp ho h0 ht))
      (up_1 _ r.kind_is ∙ rw (r.page_is, r.object_is, r.transaction_is))

  abort_ok_lem : (t : ℕ) → t ≢ 0 → t < 2 ^ 32 → abort_ok (up_message 4 st 0 0 t 0 0) ≡ true
  unfolding abort_ok
  abort_ok_lem t h0 ht =
      let r = up_read 4 st 0 0 t 0 0 ht (omega arith) in
      rw (zeros_page_object 4 st 0 0 t 0 0, named (up_message 4 st 0 0 t 0 0) t r.transaction_is h0, zeros_from_pages 4 st 0 0 t 0 0)

  -- "4 abort (transaction)"
  pub abort_sent : (t : ℕ) → t ≢ 0 → t < 2 ^ 32 → Reads kinds st message_length (up_message 4 st 0 0 t 0 0) (Abort t)
  unfolding up_fields_ok
  abort_sent t h0 ht =
      let r = up_read 4 st 0 0 t 0 0 ht (omega arith) in
      sent 4 0 0 t 0 0 r (omega arith) refl refl (omega arith) (omega arith) (omega arith) (rw r.kind_is (abort_ok_lem t h0 ht))
      (up_4 _ r.kind_is ∙ rw r.transaction_is)

  purge_ok_lem : (p : ℕ) → p < 32 → purge_ok (up_message 5 st p 0 0 0 0) ≡ true
  unfolding purge_ok
  purge_ok_lem p hp =
      let r = up_read 5 st p 0 0 0 0 (omega arith) (omega arith) in
      rw (r.page_is, le-leb p 31 (omega arith), zeros_from_object 5 st p 0 0 0 0)

  -- "5 purge (page)"
  pub purge_sent : (p : ℕ) → p < 32 → Reads kinds st message_length (up_message 5 st p 0 0 0 0) (Purge p)
  unfolding up_fields_ok
  purge_sent p hp =
      let r = up_read 5 st p 0 0 0 0 (omega arith) (omega arith) in
      sent 5 p 0 0 0 0 r (omega arith) refl refl hp (omega arith) (omega arith) (rw r.kind_is (purge_ok_lem p hp)) (up_5 _ r.kind_is ∙ rw r.page_is)

  busy_ok_lem : (q t : ℕ) → q < 8 → t ≢ 0 → t < 2 ^ 32 → busy_ok (up_message 6 st q 0 t 0 0) ≡ true
  unfolding busy_ok
  busy_ok_lem q t hq h0 ht =
      let r = up_read 6 st q 0 t 0 0 ht (omega arith) in
      rw (r.page_is, le-leb q 7 (omega arith), zeros_object 6 st q 0 t 0 0, named (up_message 6 st q 0 t 0 0) t r.transaction_is h0, zeros_from_pages 6 st q 0 t 0 0)

  -- "6 busy (requester, its transaction)"
  pub busy_sent : (q t : ℕ) → q < 8 → t ≢ 0 → t < 2 ^ 32 → Reads kinds st message_length (up_message 6 st q 0 t 0 0) (Busy q t)
  unfolding up_fields_ok
  busy_sent q t hq h0 ht =
      let r = up_read 6 st q 0 t 0 0 ht (omega arith) in
      sent 6 q 0 t 0 0 r (omega arith) refl refl (omega arith) (omega arith) (omega arith) (rw r.kind_is (busy_ok_lem q t hq h0 ht))
      (up_6 _ r.kind_is ∙ rw (r.page_is, r.transaction_is))

  done_ok : (q t pages : ℕ) → q < 8 → t ≢ 0 → t < 2 ^ 32 → pages < 2 ^ 32 → done_ok_lem (up_message 7 st q 0 t pages 0) ≡ true
  unfolding done_ok_lem
  done_ok q t pages hq h0 ht hp =
      let r = up_read 7 st q 0 t pages 0 ht hp in
      rw (
        r.page_is,
        le-leb q 7 (omega arith),
        zeros_object 7 st q 0 t pages 0,
        named (up_message 7 st q 0 t pages 0) t r.transaction_is h0,
        zeros_from_version 7 st q 0 t pages 0,
      )

  -- "7 done (same, and the set of dropped pages)"
  pub done_sent : (q t pages : ℕ) → q < 8 → t ≢ 0 → t < 2 ^ 32 → pages < 2 ^ 32 → Reads kinds st message_length (up_message 7 st q 0 t pages 0) (Done q t (pages_in pages))
  unfolding up_fields_ok
  done_sent q t pages hq h0 ht hp =
      let r = up_read 7 st q 0 t pages 0 ht hp in
      sent 7 q 0 t pages 0 r (omega arith) refl refl (omega arith) (omega arith) (omega arith) (rw r.kind_is (done_ok q t pages hq h0 ht hp))
      (up_7 _ r.kind_is ∙ rw (r.page_is, r.transaction_is, r.pages_are))

  -- a page, a transaction and a set: 2 and 8
  written_set_ok_lem : (k p t set : ℕ) → p < 32 → t ≢ 0 → t < 2 ^ 32 → written_set_ok (up_message k st p 0 t 0 set) ≡ true
  unfolding written_set_ok
  written_set_ok_lem k p t set hp h0 ht =
      let r = up_read k st p 0 t 0 set ht (omega arith) in
      rw (
        r.page_is,
        le-leb p 31 (omega arith),
        zeros_object k st p 0 t 0 set,
        named (up_message k st p 0 t 0 set) t r.transaction_is h0,
        zeros_pages_version k st p 0 t 0 set,
        zeros_from_second k st p 0 t 0 set,
      )

  write_request_ok_lem : (p t set : ℕ) → p < 32 → t ≢ 0 → t < 2 ^ 32 → set ≢ 0 → write_request_ok (up_message 2 st p 0 t 0 set) ≡ true
  unfolding write_request_ok
  write_request_ok_lem p t set hp h0 ht some =
      let r = up_read 2 st p 0 t 0 set ht (omega arith) in
      rw (r.set_is 0 (omega arith), ne_eqb set 0 some, written_set_ok_lem 2 p t set hp h0 ht)

  -- document 02: "The write request (2) carries an object set in byte 16"
  pub write_sent : (p t set : ℕ) → p < 32 → t ≢ 0 → t < 2 ^ 32 → set ≢ 0 → set < 256
      → Reads kinds st message_length (up_message 2 st p 0 t 0 set) (WriteRequest p t (objects_on p set))
  unfolding up_fields_ok
  write_sent p t set hp h0 ht some hx =
      let r = up_read 2 st p 0 t 0 set ht (omega arith) in
      sent 2 p 0 t 0 set r (omega arith) refl refl hp (omega arith) hx (rw r.kind_is (write_request_ok_lem p t set hp h0 ht some))
      (up_2 _ r.kind_is ∙ rw (r.page_is, r.transaction_is, r.set_is 0 (omega arith)))

  -- "8 written set (page, own transaction as named in kind 19, set)"
  pub written_set_sent : (p t set : ℕ) → p < 32 → t ≢ 0 → t < 2 ^ 32 → set < 256
      → Reads kinds st message_length (up_message 8 st p 0 t 0 set) (WrittenSet p t (objects_on p set))
  unfolding up_fields_ok
  written_set_sent p t set hp h0 ht hx =
      let r = up_read 8 st p 0 t 0 set ht (omega arith) in
      sent 8 p 0 t 0 set r (omega arith) refl refl hp (omega arith) hx (rw r.kind_is (written_set_ok_lem 8 p t set hp h0 ht))
      (up_8 _ r.kind_is ∙ rw (r.page_is, r.transaction_is, r.set_is 0 (omega arith)))
