-- `server_changes::new_age` meets its contract. The four calls are the definition by one law (`age-stores`).
use Rattle.server_changes.specs.Stores.{age_stores}
use Rattle.server_changes.proofs.new_age.Goals as goal

pub returns : goal.returns
returns c = age_stores _ _ c.next_age.ensures c.take-aged.ensures c.put_u64.ensures c.put_u64-2.ensures
