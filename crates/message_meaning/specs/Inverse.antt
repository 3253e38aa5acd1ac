-- A message written from its fields and its fields read: each undoes the other.
use Rattle.std.specs.Prelude.{ℕ, ◌+◌, ◌*◌, ◌<◌, ◌≡◌, List, length, drop, get_or}
use Rattle.le.specs.Le.{u32_at, u64_at}
use Rattle.message.specs.Layout.{values_from, values_length, version_width, kind_of, station_of, page_of, object_of, transaction_of, pages_of, version_of, set_of, value_of, page_version_of}
use Rattle.message_meaning.specs.Meant.{sets_of}
use Rattle.layout.specs.Record.{value_length}

-- m says these fields: `values` are all that stands behind the sets, versions with them
pub record ReadBack (kind station page object transaction pages version : ℕ) (sets values m : List ℕ) : Type 0 where
  pub kind_is : kind_of m ≡ kind
  pub station_is : station_of m ≡ station
  pub page_is : page_of m ≡ page
  pub object_is : object_of m ≡ object
  pub transaction_is : transaction_of m ≡ transaction
  pub pages_are : pages_of m ≡ pages
  pub version_is : version_of m ≡ version
  pub sets_are : sets_of m ≡ sets
  pub set_is : (p : ℕ) → p < 32 → set_of m p ≡ get_or sets p 0
  pub values_are : drop values_from m ≡ values
  pub value_is : (o : ℕ) → value_of m o ≡ u64_at values (o * value_length)
  pub page_version_is : (o : ℕ) → page_version_of m o ≡ u32_at values (values_length + o * version_width)
  pub length_is : length m ≡ values_from + length values
