use Rattle.std.proofs.Common.{◌≡◌, ℕ, true, [], ◌∷◌, ap, ◌∙◌, arith, rules}
use Rattle.std.proofs.lemmas.Bool.{both_ways}
use Rattle.std.proofs.lemmas.Result.{err_from_is_err_and}
use Rattle.used_laws.specs.record_model.Constants.{data_type}
use Rattle.used_laws.specs.tree_model.Needs.{shrinks}
use Rattle.used_laws.specs.step_model.Used.{used_after, own_attr, value_attr}
use Rattle.data_plan.specs.Changes.{MustLeave}
use Rattle.data_plan.proofs.Cases.{memory_err}
use Rattle.data_plan.proofs.Taking.{kept_after}
use Rattle.data_plan.proofs.held.held_after.Goals.{else-size-gt0-via-then-size-gt0+else-used-gt-MOST_USED, else-size-gt0-via-then-size-gt0+then-used-gt-MOST_USED+else-not-shrinks, else-size-gt0-via-else-size-gt0}
use Rattle.data_plan.proofs.held.held_after.Goals as goal

pub returns-in_err-used-clause-after : goal.returns-in_err-used-clause-after
returns-in_err-used-clause-after g c =
    let p = err_from_is_err_and c.from_residual.result c.from_residual.ensures.1 in
    rw (p.1, p.2) (memory_err (g.B.FreeBits.bits c.args.bits.now) c.args.file.now c.args.op.now c.args.node.now)

pub returns-clause-after : goal.returns-clause-after
returns-clause-after g c =
    let size = c.size_after-size.result in
    let used = c.in_ok-used.used in
    let r = c.args.file.now in
    let same = c.in_ok-used.ensures ∙ ap (λ (n : ℕ). used_after (value_attr n (own_attr data_type [] r) ∷ []) r) c.size_after-size.ensures in
    let never : MustLeave r c.args.op.now c.args.node.now → ⊥ = elim c.else-size-gt0.branch [
      | else-size-gt0-via-then-size-gt0+else-used-gt-MOST_USED w ↦ λ m. (let full = m.full in absurd (omega (arith, full, same)))
      | else-size-gt0-via-then-size-gt0+then-used-gt-MOST_USED+else-not-shrinks w ↦ λ m. (let cut : shrinks c.args.op.now c.args.node.now ≡ true = search rules in absurd (both_ways (shrinks c.args.op.now c.args.node.now) m.grows cut))
      | else-size-gt0-via-else-size-gt0 w ↦ λ m. (let some = m.some in absurd (omega (arith, some)))
    ] in
    kept_after (g.B.FreeBits.bits c.args.bits.now) c.args.file.now c.args.op.now c.args.node.now size used c.stays.result c.requires.has.begins c.requires.held c.size_after-size.ensures c.in_ok-used.ensures never c.stays.ensures.kept
