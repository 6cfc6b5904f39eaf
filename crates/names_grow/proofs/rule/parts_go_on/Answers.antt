use Rattle.std.proofs.Common.{rules, arith, sym, ◌∙◌}
use Rattle.std.specs.Option.{option_copied}
use Rattle.same_names.specs.map_change.Parts.{live_parts}
use Rattle.names_grow.proofs.Parts.{counted, inside, needs_change, named_there, goes_ok, ok_goes}
use Rattle.names_grow.proofs.rule.parts_go_on.Goals.{then-count-len-via-then-count-len, then-count-len-via-else-count-len+then-count-number}
use Rattle.names_grow.proofs.rule.parts_go_on.Goals as goal

pub returns-then-count-len-clause-only : goal.returns-then-count-len-clause-only
returns-then-count-len-clause-only c goes =
    let long = counted c.args.number c.args.link.now (live_parts c.args.live.now) c.args.parts.now.table c.args.parts.now.records.items goes in
    let within = inside c.args.number c.args.link.now (live_parts c.args.live.now) c.args.parts.now.table c.args.parts.now.records.items goes in
    absurd (elim c.then-count-len.branch [
      | then-count-len-via-then-count-len w ↦ omega (arith, long, c.len.ensures, w.if-count-len.true)
      | then-count-len-via-else-count-len+then-count-number w ↦ omega (arith, within, w.if-count-number.true)
    ])

pub returns-in_default-clause-only : goal.returns-in_default-clause-only
returns-in_default-clause-only c goes = absurd (needs_change c.args.number c.args.link.now (live_parts c.args.live.now) c.args.parts.now.table c.args.parts.now.records.items (search rules) c.requires.none goes)

pub returns-then-not-branch-clause-only : goal.returns-then-not-branch-clause-only
returns-then-not-branch-clause-only c goes =
    sym c.if-not-branch.true
    ∙ c.in_ok-has_one_name.ensures.only (named_there c.args.number c.args.link.now (live_parts c.args.live.now) c.args.parts.now.table c.args.parts.now.records.items c.in-Some.change.now (option_copied c.only_base.result) (search rules) c.only_base.ensures goes)

pub returns-clause-same : goal.returns-clause-same
returns-clause-same c =
    goes_ok c.args.number c.args.link.now (live_parts c.args.live.now) c.args.parts.now.table c.args.parts.now.records.items c.in-Some.change.now (option_copied c.only_base.result) c.deref-2.result.now c.deref-3.result.now c.keep_others.result
    (omega (arith, c.if-count-number.false)) (omega (arith, c.if-count-len.false, c.len.ensures)) (search rules) c.only_base.ensures (c.in_ok-has_one_name.ensures.same c.if-not-branch.false) c.deref-2.ensures.value c.deref-3.ensures.value c.keep_others.ensures.same

pub returns-clause-only : goal.returns-clause-only
returns-clause-only c =
    ok_goes c.args.number c.args.link.now (live_parts c.args.live.now) c.args.parts.now.table c.args.parts.now.records.items c.deref-2.result.now c.deref-3.result.now c.keep_others.result c.deref-2.ensures.value c.deref-3.ensures.value c.keep_others.ensures.only
