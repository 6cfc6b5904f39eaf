use Rattle.std.proofs.Common.{arith, ap, ◌∙◌, List, ℕ, ◌+◌}
use Rattle.std.proofs.lemmas.Result.{err_from_is_err_and}
use Rattle.script_text.proofs.Parts.{with_parts, parts_from, went_on, went_wrong, ended}
use Rattle.script_text.proofs.path.parts.Goals as goal

pub returns-in_err-part : goal.returns-in_err-part
returns-in_err-part c =
    let p = err_from_is_err_and c.from_residual.result c.from_residual.ensures.1 in
    rw (p.1, p.2) (went_wrong c.args.texts.now c.loop-text.text-index _ c.in_err-part.field-0.0 c.loop-text.path _ (omega arith) c.in_err-part.ensures c.loop-text.invariant)

pub loop-text-preserved : goal.loop-text-preserved
loop-text-preserved c =
    ap (λ (path : List (List ℕ)). with_parts path (parts_from (c.loop-text.text-index + 1) c.args.texts.now)) c.in_ok-push.ensures.ok
    ∙ went_on c.args.texts.now c.loop-text.text-index _ c.in_ok-part.field-0 c.loop-text.path _ (omega arith) c.in_ok-part.ensures c.loop-text.invariant

pub returns : goal.returns
returns c = ended c.args.texts.now c.loop-text.text-index c.loop-text.path _ (omega arith) c.loop-text.invariant
