use Rattle.change_lookup.proofs.Coming.{are_counts, numbered_known}
use Rattle.change_lookup.proofs.places.numbered.Goals as goal

pub returns-clause-value : goal.returns-clause-value
returns-clause-value g c = λ path.
    numbered_known (g.C.Lookup.tree c.args.tree.now) path c.args.name c.args.directory c.room.result c.count.result c.in_ok-least.least c.in_ok-placed.field-0
    (are_counts (g.C.Lookup.tree c.args.tree.now) c.room.result c.count.result c.in_ok-least.least c.requires.journal (rw c.in_ok-least.ensures.asks.same at c.room.ensures) (rw c.in_ok-least.ensures.asks.same at c.count.ensures) c.in_ok-least.ensures.value)
    (c.in_ok-placed.ensures.value path c.args.directory)
