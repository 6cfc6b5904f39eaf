use Rattle.change_lookup.proofs.Coming.{placed_refused, placed_there}
use Rattle.change_lookup.proofs.places.placed.Goals as goal

pub returns-in-Some-clause-value : goal.returns-in-Some-clause-value
returns-in-Some-clause-value c = λ path node.
    placed_refused c.in_ok-counts.counts c.args.room c.args.count c.args.least path node c.args.directory c.args.name c.in-Some.reply c.in_ok-counts.ensures (c.in-Some.ensures.value path node)

pub returns-in-None-clause-value : goal.returns-in-None-clause-value
returns-in-None-clause-value c = λ path node.
    placed_there c.in_ok-counts.counts c.args.room c.args.count c.args.least path node c.args.directory c.args.name c.number_to_take-number.result c.in_ok-counts.ensures (c.in-None.ensures.value path node) c.number_to_take-number.ensures
