use Rattle.std.proofs.Common.{◌∙◌, sym, arith}
use Rattle.same_names.proofs.Kept.{to_leave}
use Rattle.same_names.proofs.keeping.keeps_all.Goals as goal

pub returns-then-not-branch-clause-only : goal.returns-then-not-branch-clause-only
returns-then-not-branch-clause-only c all =
    sym c.if-not-branch.true ∙ c.in_ok-keeps_one.ensures.only (to_leave c.args.records.now c.args.changes.now c.loop-at.at c.index-changes-at.result (omega (arith, c.loop-at-test.true)) c.index-changes-at.is all)
