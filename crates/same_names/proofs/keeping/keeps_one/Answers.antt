use Rattle.std.proofs.Common.{◌∙◌, refl, sym, arith}
use Rattle.std.specs.Option.{option_copied}
use Rattle.same_names.proofs.Kept.{leave_past, leave_behind, next_same, next_only}
use Rattle.same_names.proofs.keeping.keeps_one.Goals.{then-records-number-via-then-records-number, then-records-number-via-else-records-number+then-is_any_of}
use Rattle.same_names.proofs.keeping.keeps_one.Goals as goal

pub returns-then-records-number-clause-same : goal.returns-then-records-number-clause-same
returns-then-records-number-clause-same c _ = elim c.then-records-number.branch [
  | then-records-number-via-then-records-number w ↦ leave_past c.args.records.now c.args.earlier.now c.args.change.now c.args.change.now.number refl c.requires (omega (arith, w.if-records-number.true))
  | then-records-number-via-else-records-number+then-is_any_of w ↦ leave_behind c.args.records.now c.args.earlier.now c.args.change.now c.requires (sym w.is_any_of.ensures ∙ w.if-is_any_of.true)
]

pub returns-clause-same : goal.returns-clause-same
returns-clause-same c =
    next_same c.args.records.now c.args.earlier.now c.args.change.now (option_copied c.file_at-file.result) (option_copied c.only_base.result) c.are_named_alike.result c.file_at-file.ensures.value c.only_base.ensures c.requires c.are_named_alike.ensures.same

pub returns-clause-only : goal.returns-clause-only
returns-clause-only c =
    next_only c.args.records.now c.args.earlier.now c.args.change.now (option_copied c.file_at-file.result) (option_copied c.only_base.result) c.are_named_alike.result c.file_at-file.ensures.value c.only_base.ensures
    (omega (arith, c.if-records-number.false)) (sym c.is_any_of.ensures ∙ c.if-is_any_of.false) c.are_named_alike.ensures.only
