-- The stores of one function, one after the other, are its definition: stated over the states between, so that no proof unfolds a fold.
use Rattle.std.specs.Prelude.{ℕ, ◌≡◌, List, length, replicate}
use Rattle.le.specs.Le.{set_u64}
use Rattle.server_state.specs.Layout.{next_age_from, next_arrival_from, server_length}
use Rattle.server_state.specs.Valid.{kinds_to, fresh_server}

pub fresh_stores : (kinds s : List ℕ) {z t u v : List ℕ} → length s ≡ server_length → z ≡ replicate (length s) 0 → t ≡ set_u64 z next_age_from 1 → u ≡ set_u64 t next_arrival_from 1 → v ≡ kinds_to kinds u 8 → v ≡ fresh_server kinds
unfolding fresh_server
fresh_stores kinds s h ez et eu ev = rw (ev, eu, et, ez, h)
