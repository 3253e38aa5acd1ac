-- The changes of a state that touch one place or one set. Each carries out the definition of crate line that has its name.
use Rattle.std.specs.Prelude.{ℕ, zero, suc, ◌+◌, ◌-◌, ◌*◌, ◌/◌, ◌%◌, ◌^◌, List, Bool, ◌||◌, cond, get_or, set, replicate}
use Rattle.std.specs.Int.Bits.{bit_and, bit_or}
use Rattle.le.specs.Le.{u32_at, set_u32, set_u64}
use Rattle.station_state.specs.Layout.{set_row, waiting_value_from, number_from, whole_from, open_from, wait_from, address_from, waiting_set_from, copy_from, read_value_from, written_value_from, kept_from, value_width, number_width, seen_from, copy_of, waiting_value, version_of, member, has_bit, number, locks, written_set, waiting_set, keeps_b, read_set_from, written_set_from, locks_from, named_from}

-- address a joins the object sets from `at`
unfoldable pub add_to : List ℕ → ℕ → ℕ → List ℕ
add_to s at a = set s (at + a / 8) (bit_or (get_or s (at + a / 8) 0) (2 ^ (a % 8)))

-- page p joins, or leaves, the page set at `at`
unfoldable pub page_on : List ℕ → ℕ → ℕ → List ℕ
page_on s at p = set_u32 s at (bit_or (u32_at s at) (2 ^ p))

unfoldable pub page_off : List ℕ → ℕ → ℕ → List ℕ
page_off s at p = set_u32 s at (bit_and (u32_at s at) (4294967295 - 2 ^ p))

-- the n object sets from `at` are empty
unfoldable pub clear_to : List ℕ → ℕ → ℕ → List ℕ
clear_to s at zero = s
clear_to s at (suc n) = set (clear_to s at n) (at + n) 0

-- .. or those of `sets`
unfoldable pub copy_to : List ℕ → ℕ → List ℕ → ℕ → List ℕ
copy_to s at sets zero = s
copy_to s at sets (suc n) = set (copy_to s at sets n) (at + n) (get_or sets n 0)

unfoldable pub begin_b : List ℕ → List ℕ
begin_b s = set (set_u32 s number_from (number s + 1)) open_from 1

-- "A transaction's first read of an object is recorded"
unfoldable pub record_read_b : ℕ → List ℕ → List ℕ
record_read_b a s = set_u32 (set_u64 (add_to s read_set_from a) (read_value_from + a * value_width) (copy_of s a)) (seen_from + a * number_width) (version_of s a)

-- the copy's version is kept when the transaction first uses the object
unfoldable pub used_b : List ℕ → ℕ → Bool
used_b s a = member s read_set_from a || member s written_set_from a

unfoldable pub first_use_b : ℕ → List ℕ → List ℕ
first_use_b a s = cond (used_b s a) s (set_u32 s (seen_from + a * number_width) (version_of s a))

unfoldable pub write_local_b : ℕ → ℕ → List ℕ → List ℕ
write_local_b a v s = set_u64 (set_u64 (add_to (first_use_b a s) written_set_from a) (written_value_from + a * value_width) v) (copy_from + a * value_width) v

-- "all are written": the objects of x on page p, rising, with the values of f by object
unfoldable pub write_object_b : ℕ → ℕ → ℕ → ℕ → List ℕ → List ℕ
write_object_b p x o v s = cond (has_bit x o) (write_local_b (p * 8 + o) v s) s

unfoldable pub written_to : ℕ → ℕ → List ℕ → List ℕ → ℕ → List ℕ
written_to p x f s zero = s
written_to p x f s (suc o) = write_object_b p x o (get_or f o 0) (written_to p x f s o)

unfoldable pub write_all_b : ℕ → ℕ → List ℕ → List ℕ → List ℕ
write_all_b p x f s = written_to p x f s 8

-- what is out: nothing, a read, a write, a commit
unfoldable pub idle_b : List ℕ → List ℕ
idle_b s = set s wait_from 0

unfoldable pub for_read_b : ℕ → List ℕ → List ℕ
for_read_b a s = set (set s wait_from 1) address_from a

-- the values of the objects of x are kept; the others' bytes stay
unfoldable pub wait_object_b : ℕ → ℕ → ℕ → List ℕ → List ℕ
wait_object_b x o v s = cond (has_bit x o) (set_u64 s (waiting_value_from + o * value_width) v) s

unfoldable pub waiting_to : ℕ → List ℕ → List ℕ → ℕ → List ℕ
waiting_to x f s zero = s
waiting_to x f s (suc o) = wait_object_b x o (get_or f o 0) (waiting_to x f s o)

unfoldable pub wait_all_b : ℕ → List ℕ → List ℕ → List ℕ
wait_all_b x f s = waiting_to x f s 8

unfoldable pub for_write_b : ℕ → ℕ → List ℕ → List ℕ → List ℕ
for_write_b p x f s = wait_all_b x f (set (set (set s wait_from 2) address_from (p * 8)) waiting_set_from x)

-- eight values by object
unfoldable pub values_to : (ℕ → ℕ) → ℕ → List ℕ
values_to v zero = replicate 8 0
values_to v (suc o) = set (values_to v o) o (v o)

-- what is kept is there when the grant arrives
unfoldable pub waiting_values : List ℕ → List ℕ
waiting_values s = values_to (λ o. waiting_value s o) 8

unfoldable pub for_commit_b : List ℕ → List ℕ
for_commit_b s = set s wait_from 3

-- the objects of the waiting set join the locks on page p
unfoldable pub lock_waiting_b : ℕ → List ℕ → List ℕ
lock_waiting_b p s = set s (locks_from + p) (bit_or (locks s p) (waiting_set s))

-- "the whole lock becomes locks on those objects"
unfoldable pub loosen_b : ℕ → ℕ → List ℕ → List ℕ
loosen_b p x s = page_off (set s (locks_from + p) (bit_or (locks s p) x)) whole_from p

-- "keep the callback, a newer one from that requester replacing it"
unfoldable pub keep_b : ℕ → ℕ → List ℕ → List ℕ → List ℕ
keep_b r t sets s = set_u32 (copy_to s (named_from r) sets set_row) (kept_from + r * number_width) t

unfoldable pub unkeep_b : ℕ → List ℕ → List ℕ
unkeep_b r s = set_u32 s (kept_from + r * number_width) 0

-- the whole locks go that end with their transaction
unfoldable pub unwhole_b : List ℕ → List ℕ
unwhole_b s = cond (keeps_b s) s (set_u32 s whole_from 0)

-- the transaction's end: no lock, no read, no write, nothing out, nothing open
unfoldable pub closed_b : List ℕ → List ℕ
closed_b s =
    set (idle_b (clear_to (clear_to (clear_to (unwhole_b s) locks_from set_row) written_set_from set_row) read_set_from set_row)) open_from 0
