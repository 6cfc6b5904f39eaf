use Rattle.std.proofs.Common.{sym, ◌∙◌}
use Rattle.usn_journal.proofs.Shapes.{begins_inside}
use Rattle.usn_journal.proofs.shape.entries_of.Goals as goal

pub returns-in-Placed-clause-first : goal.returns-in-Placed-clause-first
returns-in-Placed-clause-first c = begins_inside c.args.per c.args.flags c.in-Placed.extents (sym c.has_shape.ensures ∙ c.if-has_shape.true)
