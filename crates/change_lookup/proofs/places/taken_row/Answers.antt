use Rattle.change_lookup.proofs.Coming.{taken_known}
use Rattle.change_lookup.proofs.places.taken_row.Goals as goal

pub returns-clause-value : goal.returns-clause-value
returns-clause-value g c = rw c.exists_row.ensures.value (taken_known (g.C.Lookup.tree c.args.tree.now) (g.C.Lookup.upper c.args.tree.now) c.args.directory c.args.name.now c.in_ok-found.found c.in_ok-found.ensures.value)
