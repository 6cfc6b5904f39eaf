use Rattle.std.proofs.Common.{◌∙◌, sym, arith}
use Rattle.names_grow.proofs.Changes.{to_leave}
use Rattle.names_grow.proofs.elsewhere.keep_others.Goals as goal

pub returns-then-not-branch-clause-only : goal.returns-then-not-branch-clause-only
returns-then-not-branch-clause-only c all =
    sym c.if-not-branch.true
    ∙ c.in_ok-keeps_other.ensures.only (to_leave c.args.number c.args.count c.args.records.now c.args.changes.now c.loop-at.at c.index-changes-at.result (omega (arith, c.loop-at-test.true)) c.index-changes-at.is all)
