-- `station_state::limited_ok` meets its contract.
use Rattle.station_state.specs.Valid.{limited_ok}
use Rattle.station_state.specs.Few.{few_limited}
use Rattle.station_state.proofs.limited_ok.Goals as goal

pub returns-then-rest-eq0 : goal.returns-then-rest-eq0
returns-then-rest-eq0 c = few_limited _ (λ i. (c.shared_slice_known-1.given i).fits) c.joined.ensures c.joined-2.ensures c.rest.ensures c.rest-2.ensures c.rest-3.ensures c.if-rest-eq0.true

pub returns : goal.returns
unfolding limited_ok
returns c = cc
