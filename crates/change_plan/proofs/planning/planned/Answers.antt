use Rattle.found_files.specs.change_steps.Changes.{change_reply}
use Rattle.change_plan.proofs.Ending.{answer_sound, kept_on}
use Rattle.change_plan.proofs.Leading.{refused_plans, stays_plans, file_plans, file_known}
use Rattle.change_plan.proofs.planning.planned.Goals as goal

pub returns-in-Refused-clause-plans : goal.returns-in-Refused-clause-plans
returns-in-Refused-clause-plans g c =
    rw c.in-Refused.is (refused_plans c.changes_are_steps.ensures (g.V.View.content c.args.view.now) c.args.map.now c.args.streams.now c.args.op.now c.in-Refused.reply c.args.stamp c.answer.result c.answer.ensures)

pub returns-in-Refused-clause-sound : goal.returns-in-Refused-clause-sound
returns-in-Refused-clause-sound g c = answer_sound (g.V.View.content c.args.view.now) c.args.op.now c.in-Refused.reply c.answer.result (rw c.in-Refused.is at c.requires.given) c.answer.ensures

pub returns-then-changes-clause-plans : goal.returns-then-changes-clause-plans
returns-then-changes-clause-plans g c =
    rw c.in-File.is (file_plans c.found_is_there.ensures (g.V.View.content c.args.view.now) c.args.map.now c.args.streams.now c.args.op.now c.in-File.node c.in-File.changes c.args.stamp c.file_plan.result c.if-changes.true c.file_plan.ensures.plans)

pub returns-then-changes-clause-known : goal.returns-then-changes-clause-known
returns-then-changes-clause-known g c =
    rw c.in-File.is (file_known c.found_is_there.ensures c.files_are_read.ensures (g.V.View.content c.args.view.now) c.args.map.now c.args.streams.now c.args.op.now c.in-File.node c.in-File.changes c.file_plan.result c.if-changes.true c.file_plan.ensures.known)

pub returns-in-File-clause-plans : goal.returns-in-File-clause-plans
returns-in-File-clause-plans g c =
    rw c.in-File.is
    (stays_plans c.changes_are_steps.ensures (g.V.View.content c.args.view.now) c.args.map.now c.args.streams.now c.args.op.now c.in-File.node c.in-File.changes c.args.stamp c.answer-else-changes.result c.if-changes.false (rw c.change_reply.ensures at c.answer-else-changes.ensures))

pub returns-in-File-clause-sound : goal.returns-in-File-clause-sound
returns-in-File-clause-sound g c = answer_sound (g.V.View.content c.args.view.now) c.args.op.now (change_reply c.args.op.now) c.answer-else-changes.result (kept_on c.args.op.now c.requires.changes) (rw c.change_reply.ensures at c.answer-else-changes.ensures)
