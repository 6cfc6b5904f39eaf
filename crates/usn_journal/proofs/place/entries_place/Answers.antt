use Rattle.std.proofs.Common.{sym, ◌∙◌}
use Rattle.usn_journal.proofs.Shapes.{begins_inside}
use Rattle.usn_journal.proofs.place.entries_place.Goals as goal

pub returns-clause-inside : goal.returns-clause-inside
returns-clause-inside c = begins_inside c.args.per c.args.flags c.in-Placed.extents (sym c.has_shape.ensures ∙ c.if-not-has_shape.false)
