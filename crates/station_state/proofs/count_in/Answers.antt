-- `station_state::count_in` meets its contract.
use Rattle.station_state.specs.Sets.{two_fit, three_fit, four_fit, count_added}
use Rattle.station_state.proofs.count_in.Goals as goal

pub overflow_add-result : goal.overflow_add-result
overflow_add-result c = record { fits = two_fit _ (λ i. (c.shared_slice_known-1.given i).fits) 0 _ _ c.ones_at.ensures c.ones_at-2.ensures }

pub overflow_add-result-2 : goal.overflow_add-result-2
overflow_add-result-2 c = record { fits = three_fit _ (λ i. (c.shared_slice_known-1.given i).fits) 0 _ _ _ c.ones_at.ensures c.ones_at-2.ensures c.ones_at-3.ensures }

pub overflow_add-result-3 : goal.overflow_add-result-3
overflow_add-result-3 c = record { fits = four_fit _ (λ i. (c.shared_slice_known-1.given i).fits) 0 _ _ _ _ c.ones_at.ensures c.ones_at-2.ensures c.ones_at-3.ensures c.ones_at-4.ensures }

pub returns : goal.returns
returns c = count_added _ (λ i. (c.shared_slice_known-1.given i).fits) _ c.ones_at.ensures c.ones_at-2.ensures c.ones_at-3.ensures c.ones_at-4.ensures
