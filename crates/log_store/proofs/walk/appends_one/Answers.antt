use Rattle.log_store.specs.Appends.{appended_entries}
use Rattle.log_store.proofs.walk.appends_one.Goals as goal

pub returns : goal.returns
returns c k v bs short = appended_entries k v short bs
