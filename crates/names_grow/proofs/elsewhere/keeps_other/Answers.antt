use Rattle.std.proofs.Common.{◌∙◌, sym, arith}
use Rattle.std.specs.Option.{option_copied}
use Rattle.names_grow.proofs.Changes.{leave_own, leave_past, leave_behind, next_same, next_only}
use Rattle.names_grow.proofs.elsewhere.keeps_other.Goals.{then-other-number-via-then-other-number, then-other-number-via-else-other-number+then-count-other, then-other-number-via-else-other-number+else-count-other+then-is_any_of}
use Rattle.names_grow.proofs.elsewhere.keeps_other.Goals as goal

pub returns-then-other-number-clause-same : goal.returns-then-other-number-clause-same
returns-then-other-number-clause-same c _ = elim c.then-other-number.branch [
  | then-other-number-via-then-other-number w ↦ leave_own c.args.number c.args.count c.args.records.now c.args.earlier.now c.args.change.now (omega (arith, w.if-other-number.true)) c.requires
  | then-other-number-via-else-other-number+then-count-other w ↦ leave_past c.args.number c.args.count c.args.records.now c.args.earlier.now c.args.change.now (omega (arith, w.if-count-other.true)) c.requires
  | then-other-number-via-else-other-number+else-count-other+then-is_any_of w ↦ leave_behind c.args.number c.args.count c.args.records.now c.args.earlier.now c.args.change.now (sym w.is_any_of.ensures ∙ w.if-is_any_of.true) c.requires
]

pub returns-clause-same : goal.returns-clause-same
returns-clause-same c =
    next_same c.args.number c.args.count c.args.records.now c.args.earlier.now c.args.change.now (option_copied c.file_at-file.result) (option_copied c.only_base.result) c.are_named_alike.result c.file_at-file.ensures.value c.only_base.ensures c.requires c.are_named_alike.ensures.same

pub returns-clause-only : goal.returns-clause-only
returns-clause-only c =
    next_only c.args.number c.args.count c.args.records.now c.args.earlier.now c.args.change.now (option_copied c.file_at-file.result) (option_copied c.only_base.result) c.are_named_alike.result c.file_at-file.ensures.value c.only_base.ensures
    (λ is. absurd (omega (arith, is, c.if-other-number.false))) (omega (arith, c.if-count-other.false)) (sym c.is_any_of.ensures ∙ c.if-is_any_of.false) c.are_named_alike.ensures.only
