use Rattle.std.proofs.Common.{arith, ◌∙◌}
use Rattle.log_recovery.proofs.Stretching.{Parts, none_met, last_met}
use Rattle.log_recovery.proofs.own.is_met.Goals as goal

pub returns-then-count-eq0 : goal.returns-then-count-eq0
returns-then-count-eq0 c =
    let found = c.count_before-count.ensures in
    let parts : Parts c.args.block c.args.stretches.now c.count_before-count.result = record { inside = found.inside; before = found.before; behind = found.behind } in
    λ such stand. none_met c.args.block c.args.stretches.now c.count_before-count.result parts (omega arith) ∙ stand c.args.block (omega arith)

pub returns : goal.returns
returns c =
    let found = c.count_before-count.ensures in
    let parts : Parts c.args.block c.args.stretches.now c.count_before-count.result = record { inside = found.inside; before = found.before; behind = found.behind } in
    λ such stand. last_met c.args.block c.args.stretches.now c.count_before-count.result c.is_reached.result c.requires parts (omega arith) c.is_reached.ensures ∙ stand c.args.block (omega arith)
