use Rattle.std.proofs.Common.{◌≡◌}
use Rattle.draft_runs.specs.draft_streams.Parts.{touch_bytes, IsFrontOf}
use Rattle.draft_resized.specs.Resized.{PutsResized, PutsResizedFront}
use Rattle.draft_resized.proofs.Fronts.{both_put, first_front, either_front, on_err}
use Rattle.draft_resized.proofs.moved.put_moved.Goals as goal

pub returns-in_err-put_resized-clause-front : goal.returns-in_err-put_resized-clause-front
returns-in_err-put_resized-clause-front g c = on_err _ _ (first_front (g.V.View.content c.args.draft.now.view.now) _ _ c.in_err-put_resized.ensures.front)

pub returns-in_err-put_bytes-clause-front : goal.returns-in_err-put_bytes-clause-front
returns-in_err-put_bytes-clause-front g c =
    on_err _ _
    (either_front (g.V.View.content c.args.draft.now.view.now)
    (λ k old new. PutsResizedFront k c.args.per c.args.bitmap.now c.args.table.now c.args.mirror.now c.args.number c.args.resized.now old new)
    (λ k old new. PutsResized k c.args.per c.args.bitmap.now c.args.table.now c.args.mirror.now c.args.number c.args.resized.now old new)
    (λ k old new. IsFrontOf k c.args.per c.args.resized.now.extents.runs 0 0 c.args.value.now old new) c.args.draft.now.touched.items _ _ c.in_ok-put_resized.ensures.put
    (rw c.in_ok-put_resized.ensures.asks.same at c.in_err-put_bytes.ensures.front))

pub returns-clause-put : goal.returns-clause-put
returns-clause-put g c =
    both_put (g.V.View.content c.args.draft.now.view.now)
    (λ k old new. PutsResized k c.args.per c.args.bitmap.now c.args.table.now c.args.mirror.now c.args.number c.args.resized.now old new)
    (λ k old new. new ≡ touch_bytes k c.args.per c.args.resized.now.extents.runs 0 0 c.args.value.now old) c.args.draft.now.touched.items _ _ c.in_ok-put_resized.ensures.put
    (rw c.in_ok-put_resized.ensures.asks.same at c.in_ok-put_bytes.ensures.touched)
