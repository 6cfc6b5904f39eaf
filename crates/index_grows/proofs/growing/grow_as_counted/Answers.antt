use Rattle.std.proofs.Common.{◌≡◌, Bool, List, sym, subst}
use Rattle.index_grows.specs.Counted.{CountsOf}
use Rattle.index_grows.proofs.growing.grow_as_counted.Goals as goal

pub grow_counted-requires-clause-counts : goal.grow_counted-requires-clause-counts
grow_counted-requires-clause-counts g c = subst (λ (bits : List Bool). CountsOf bits c.args.file.now c.args.root c.args.more) c.requires.same (c.in-Ok-true.ensures.counts c.in-Ok-true.field-0-test)
