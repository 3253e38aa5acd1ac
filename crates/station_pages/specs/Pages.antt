-- What a station does page by page. Each definition carries out the one of crate line that has its name; `sets` are 32 object sets by page.
use Rattle.std.specs.Prelude.{ℕ, zero, suc, ◌+◌, ◌-◌, ◌*◌, ◌^◌, List, Bool, not, ◌&&◌, cond, get_or, set, eqb}
use Rattle.std.specs.Int.Bits.{bit_and, bit_or}
use Rattle.le.specs.Le.{u32_at, u64_at, set_u32, set_u64}
use Rattle.cells.specs.Loops.{any_to, mask_to}
use Rattle.station_state.specs.Layout.{cached_from, unavailable_from, copy_from, version_from, value_width, number_width, cached, unavailable, read_set, written_set, written_value, has_bit, requested_b, kept_whole_b}
use Rattle.station_state.specs.Changes.{page_on}
use Rattle.message.specs.Layout.{sets_from, values_from, page_version_of}
use Rattle.layout.specs.Record.{value_length}

-- "on which the transaction has read or written": something on the page
unfoldable pub used_page_b : List ℕ → ℕ → Bool
used_page_b s p = not (eqb (bit_or (read_set s p) (written_set s p)) 0)

unfoldable pub wrote_page_b : List ℕ → ℕ → Bool
wrote_page_b s p = not (eqb (written_set s p) 0)

-- the pages used, and those written, as page sets
unfoldable pub used_pages_b : List ℕ → ℕ
used_pages_b s = mask_to (used_page_b s) 32

unfoldable pub written_pages_b : List ℕ → ℕ
written_pages_b s = mask_to (wrote_page_b s) 32

-- "the open transaction has read or written a named object"
unfoldable pub uses_b : List ℕ → List ℕ → ℕ → Bool
uses_b sets s p = not (eqb (bit_and (get_or sets p 0) (bit_or (read_set s p) (written_set s p))) 0)

unfoldable pub in_use_b : List ℕ → List ℕ → Bool
in_use_b sets s = any_to (uses_b sets s) 32

-- "drop each cached page named on which the transaction has read or written nothing and for which no request is out"
unfoldable pub drops_b : List ℕ → List ℕ → ℕ → Bool
drops_b sets s p = has_bit (cached s) p && not (eqb (get_or sets p 0) 0) && not (used_page_b s p) && not (requested_b s p) && not (kept_whole_b s p)

unfoldable pub dropped_b : List ℕ → List ℕ → ℕ
dropped_b sets s = mask_to (drops_b sets s) 32

-- a dropped page leaves nothing behind: the first n of its values and of its versions, then the unavailable set
unfoldable pub blank_to : List ℕ → ℕ → ℕ → List ℕ
blank_to s p zero = s
blank_to s p (suc o) = set_u64 (blank_to s p o) (copy_from + (p * 8 + o) * value_width) 0

unfoldable pub unversion_to : List ℕ → ℕ → ℕ → List ℕ
unversion_to s p zero = s
unversion_to s p (suc o) = set_u32 (unversion_to s p o) (version_from + (p * 8 + o) * number_width) 0

unfoldable pub drop_page_b : List ℕ → ℕ → List ℕ
drop_page_b s p = set (unversion_to (blank_to s p 8) p 8) (unavailable_from + p) 0

unfoldable pub drop_one_b : List ℕ → ℕ → ℕ → List ℕ
drop_one_b s d p = cond (has_bit d p) (drop_page_b s p) s

unfoldable pub drop_to : List ℕ → ℕ → ℕ → List ℕ
drop_to s d zero = s
drop_to s d (suc p) = drop_one_b (drop_to s d p) d p

-- the pages of set d are dropped
unfoldable pub drop_pages_b : ℕ → List ℕ → List ℕ
drop_pages_b d s = let t = drop_to s d 32 in set_u32 t cached_from (bit_and (u32_at t cached_from) (4294967295 - d))

-- "mark the named objects unavailable" (on cached pages)
unfoldable pub mark_one_b : List ℕ → List ℕ → ℕ → List ℕ
mark_one_b sets s p = cond (has_bit (cached s) p) (set s (unavailable_from + p) (bit_or (unavailable s p) (get_or sets p 0))) s

unfoldable pub mark_to : List ℕ → List ℕ → ℕ → List ℕ
mark_to sets s zero = s
mark_to sets s (suc p) = mark_one_b sets (mark_to sets s p) p

unfoldable pub mark_b : List ℕ → List ℕ → List ℕ
mark_b sets s = mark_to sets s 32

-- "An arriving page replaces the copy save for the transaction's own values": object o of page p, from message m
unfoldable pub arrives_b : List ℕ → List ℕ → ℕ → ℕ → ℕ
arrives_b m s p o = cond (has_bit (written_set s p) o) (written_value s (p * 8 + o)) (u64_at m (values_from + o * value_length))

unfoldable pub arrive_to : List ℕ → List ℕ → ℕ → ℕ → List ℕ
arrive_to m s p zero = s
arrive_to m s p (suc o) = set_u64 (arrive_to m s p o) (copy_from + (p * 8 + o) * value_width) (arrives_b m (arrive_to m s p o) p o)

unfoldable pub arrive_versions_to : List ℕ → List ℕ → ℕ → ℕ → List ℕ
arrive_versions_to m s p zero = s
arrive_versions_to m s p (suc o) = set_u32 (arrive_versions_to m s p o) (version_from + (p * 8 + o) * number_width) (page_version_of m o)

unfoldable pub arrive_b : List ℕ → ℕ → List ℕ → List ℕ
arrive_b m p s = page_on (set (arrive_versions_to m (arrive_to m s p 8) p 8) (unavailable_from + p) (get_or m sets_from 0)) cached_from p

-- "on 21 the written objects, no longer their pages, take the commit number": those of a page that is cached
unfoldable pub version_one_b : ℕ → List ℕ → ℕ → ℕ → List ℕ
version_one_b n s p o = cond (has_bit (written_set s p) o) (set_u32 s (version_from + (p * 8 + o) * number_width) n) s

unfoldable pub version_on_to : ℕ → List ℕ → ℕ → ℕ → List ℕ
version_on_to n s p zero = s
version_on_to n s p (suc o) = version_one_b n (version_on_to n s p o) p o

unfoldable pub version_page_b : ℕ → List ℕ → ℕ → List ℕ
version_page_b n s p = cond (has_bit (cached s) p && wrote_page_b s p) (version_on_to n s p 8) s

unfoldable pub versions_to : ℕ → List ℕ → ℕ → List ℕ
versions_to n s zero = s
versions_to n s (suc p) = version_page_b n (versions_to n s p) p

unfoldable pub versions_b : ℕ → List ℕ → List ℕ
versions_b n s = versions_to n s 32
