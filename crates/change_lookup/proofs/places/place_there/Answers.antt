use Rattle.change_lookup.proofs.Coming.{name_refused, place_known}
use Rattle.change_lookup.proofs.places.place_there.Goals as goal

pub returns-in-Some-clause-value : goal.returns-in-Some-clause-value
returns-in-Some-clause-value g c = λ path. name_refused (g.C.Lookup.tree c.args.tree.now) (g.C.Lookup.upper c.args.tree.now) path c.args.name c.args.directory c.in-Some.reply (rw c.in-Some.is at c.in_ok-row.ensures.value)

pub returns-in-None-clause-value : goal.returns-in-None-clause-value
returns-in-None-clause-value g c = λ path.
    place_known (g.C.Lookup.tree c.args.tree.now) (g.C.Lookup.upper c.args.tree.now) path c.args.name c.args.directory c.numbered.result (rw c.in-None.is at c.in_ok-row.ensures.value) (rw c.in_ok-row.ensures.asks.same at (c.numbered.ensures.value path))
