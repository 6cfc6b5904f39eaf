use Rattle.std.proofs.Common.{Bool, List, subst}
use Rattle.place_makes.specs.index_grows.Counted.{CountsOf}
use Rattle.place_raises.proofs.raising.raise_as_counted.Goals as goal

pub raise_counted-requires-clause-counts : goal.raise_counted-requires-clause-counts
raise_counted-requires-clause-counts g c = subst (λ (bits : List Bool). CountsOf bits c.args.file.now 56 c.args.more) c.requires.same (c.in-Ok-true.ensures.counts c.in-Ok-true.field-0-test)
