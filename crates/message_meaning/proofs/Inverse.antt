-- A message written from its fields and its fields read: each undoes the other.
use Rattle.std.specs.Prelude.{ℕ, ◌+◌, ◌*◌, ◌^◌, ◌<◌, ◌≡◌, List, [], ◌++◌, length, take, drop, get_or}
use Rattle.std.proofs.Math.Path.{refl, fun_ext}
use Rattle.std.proofs.Common.{sym, ap, ◌∙◌, append_assoc, append-nil, zero-add, arith, length-drop, take-append-drop, get_or-drop, drop-drop, take_at, take_all}
use Rattle.std.proofs.Math.ListN.{length-append, get_or-append}
use Rattle.std.proofs.Math.Seq.{drop-cons}
use Rattle.lists.specs.Bytes.{Bytes, bytes_append}
use Rattle.lists.specs.Parts.{drop_behind}
use Rattle.le.specs.Le.{u32_at, u64_at}
use Rattle.le.specs.Width.{bytes, bytes_are, bytes_num_at, num_at_behind}
use Rattle.le.specs.Laws.{u32_at_is, u64_at_is}
use Rattle.le.specs.Parts.{num_at_drop}
use Rattle.message.specs.Layout.{kind_from, station_from, page_from, object_from, transaction_from, pages_from, version_from, sets_from, sets_length, values_from, values_length, page_versions_from, version_width, message_length, kind_of, station_of, page_of, object_of, transaction_of, pages_of, version_of, set_of, value_of, page_version_of, message}
use Rattle.message_meaning.specs.Meant.{sets_of}
use Rattle.message_meaning.specs.Numbers.{numbers}
use Rattle.message_meaning.proofs.Numbers.{length_numbers, numbers_read, numbers_written}
use Rattle.layout.specs.Record.{value_length}
use Rattle.message_meaning.specs.Inverse.{ReadBack}

-- what stands behind the single fields
module _ (sets values m : List ℕ) (e : drop sets_from m ≡ sets ++ values) (hs : length sets ≡ sets_length) where
  sets_back : sets_of m ≡ sets
  sets_back = rw e (take_at sets values sets_length hs)

  set_back : (p : ℕ) → p < 32 → set_of m p ≡ get_or sets p 0
  set_back p l = sym (get_or-drop sets_from m p 0) ∙ rw e (get_or-append sets values 0 p (omega arith))

  values_back : drop values_from m ≡ values
  values_back = drop_behind sets values m sets_from values_from e (rw hs)

  value_back : (o : ℕ) → value_of m o ≡ u64_at values (o * value_length)
  value_back o = rw (u64_at_is m (values_from + o * value_length), u64_at_is values (o * value_length), ← values_back) (sym (num_at_drop value_length values_from m (o * value_length)))

  page_version_back : (o : ℕ) → page_version_of m o ≡ u32_at values (values_length + o * version_width)
  page_version_back o =
      let place : page_versions_from + o * version_width ≡ values_from + (values_length + o * version_width) = omega arith in
      rw (place, u32_at_is m (values_from + (values_length + o * version_width)), u32_at_is values (values_length + o * version_width), ← values_back)
      (sym (num_at_drop version_width values_from m (values_length + o * version_width)))

module _ (kind station page object transaction pages version : ℕ) (sets values : List ℕ) where
  behind_front : drop sets_from (message kind station page object transaction pages version sets values) ≡ sets ++ values
  unfolding message bytes
  behind_front = refl

  pub written_read : transaction < 2 ^ 32 → pages < 2 ^ 32 → version < 2 ^ 32 → length sets ≡ sets_length
      → ReadBack kind station page object transaction pages version sets values (message kind station page object transaction pages version sets values)
  unfolding message bytes u32_at
  written_read ht hp hv hs =
      let m = message kind station page object transaction pages version sets values in
      record {
        kind_is = refl;
        station_is = refl;
        page_is = refl;
        object_is = refl;
        transaction_is = omega arith;
        pages_are = omega arith;
        version_is = omega arith;
        sets_are = sets_back sets values m behind_front hs;
        set_is = set_back sets values m behind_front hs;
        values_are = values_back sets values m behind_front hs;
        value_is = value_back sets values m behind_front hs;
        page_version_is = page_version_back sets values m behind_front hs;
        length_is = omega (arith, length-append sets values);
      }

  pub message_are : kind < 256 → station < 256 → page < 256 → object < 256 → Bytes sets → Bytes values
      → Bytes (message kind station page object transaction pages version sets values)
  unfolding message
  message_are h0 h1 h2 h3 hs hv =
      let version_on = bytes_append (bytes 4 version) (sets ++ values) (bytes_are 4 version) (bytes_append sets values hs hv) in
      let pages-on = bytes_append (bytes 4 pages) _ (bytes_are 4 pages) version_on in
      (h0, (h1, (h2, (h3, bytes_append (bytes 4 transaction) _ (bytes_are 4 transaction) pages-on))))

  -- what follows a message follows its values
  pub message_more : (rest : List ℕ)
      → message kind station page object transaction pages version sets values ++ rest ≡ message kind station page object transaction pages version sets (values ++ rest)
  unfolding message bytes
  message_more rest = rw (append_assoc sets values rest)

-- "eight values", written one behind the other
pub value_read : (f : ℕ → ℕ) (rest : List ℕ) (o : ℕ) → o < 8 → f o < 2 ^ 64 → u64_at (numbers value_length f 8 0 ++ rest) (o * value_length) ≡ f o
value_read f rest o l h = rw u64_at_is (rw zero-add at (numbers_read value_length f 8 0 rest o l (rw zero-add h)))

-- and the "eight of 4 bytes after the values"
pub page_version_read : (f g : ℕ → ℕ) (o : ℕ) → o < 8 → g o < 2 ^ 32 → u32_at (numbers value_length f 8 0 ++ numbers version_width g 8 0) (values_length + o * version_width) ≡ g o
page_version_read f g o l h =
    let b = numbers value_length f 8 0 in
    let n : values_length + o * version_width ≡ length b + o * version_width = rw length_numbers in
    rw (u32_at_is, n)
    (num_at_behind version_width b (numbers version_width g 8 0) (o * version_width)
    ∙ rw (← append-nil (numbers version_width g 8 0)) (rw zero-add at (numbers_read version_width g 8 0 [] o l (rw zero-add h))))

-- a part, and what stands behind it
part_rest : (k a b : ℕ) (s : List ℕ) → b ≡ a + k → take k (drop a s) ++ drop b s ≡ drop a s
part_rest k a b s e = rw (e, ← drop-drop k a s) (take-append-drop k (drop a s))

module _ (m : List ℕ) (hm : Bytes m) (hl : length m ≡ message_length) where
  -- the message of the fields that are read is the one that they were read from: no byte says nothing
  pub read_written : message (kind_of m) (station_of m) (page_of m) (object_of m) (transaction_of m) (pages_of m) (version_of m) (sets_of m) (drop values_from m) ≡ m
  unfolding message
  read_written =
      rw (
        u32_at_is m transaction_from,
        u32_at_is m pages_from,
        u32_at_is m version_from,
        bytes_num_at 4 m transaction_from hm (omega arith),
        bytes_num_at 4 m pages_from hm (omega arith),
        bytes_num_at 4 m version_from hm (omega arith),
        part_rest sets_length sets_from values_from m refl,
        part_rest 4 version_from sets_from m refl,
        part_rest 4 pages_from version_from m refl,
        part_rest 4 transaction_from pages_from m refl,
        ← drop-cons m object_from 0 (omega arith),
        ← drop-cons m page_from 0 (omega arith),
        ← drop-cons m station_from 0 (omega arith),
        ← drop-cons m kind_from 0 (omega arith),
      )

  pub values_written : numbers value_length (value_of m) 8 0 ≡ take values_length (drop values_from m)
  values_written =
      ap (λ f. numbers value_length f 8 0) (fun_ext (λ o. u64_at_is m (values_from + o * value_length)))
      ∙ numbers_written value_length values_from m 8 0 hm (omega arith)

  pub page_versions_written : numbers version_width (page_version_of m) 8 0 ≡ drop page_versions_from m
  page_versions_written =
      ap (λ f. numbers version_width f 8 0) (fun_ext (λ o. u32_at_is m (page_versions_from + o * version_width)))
      ∙ numbers_written version_width page_versions_from m 8 0 hm (omega arith)
      ∙ take_all (8 * version_width) (drop page_versions_from m) (rw length-drop (omega arith))
