use Rattle.draft_resized.specs.Resized.{with_file, PutsBoth, PutsBothFront}
use Rattle.draft_resized.proofs.Fronts.{any_front, put_behind, front_behind, on_err}
use Rattle.draft_resized.proofs.resized.put_resized.Goals as goal

pub returns-in_err-put_file-clause-front : goal.returns-in_err-put_file-clause-front
returns-in_err-put_file-clause-front g c = on_err _ _ (any_front (g.V.View.content c.args.draft.now.view.now) _ _ c.in_err-put_file.ensures.front)

pub returns-in_err-put_both-clause-front : goal.returns-in_err-put_both-clause-front
returns-in_err-put_both-clause-front g c =
    on_err _ _
    (front_behind (g.V.View.content c.args.draft.now.view.now) _ (λ k. with_file k c.args.per c.args.table.now c.args.mirror.now c.args.number c.args.resized.now c.args.draft.now.touched.items)
    (λ k mid new. PutsBothFront k c.args.per c.args.bitmap.now c.args.resized.now mid new) _ _ c.in_ok-put_file.ensures.touched (rw c.in_ok-put_file.ensures.asks.same at c.in_err-put_both.ensures.front))

pub returns-clause-put : goal.returns-clause-put
returns-clause-put g c =
    put_behind (g.V.View.content c.args.draft.now.view.now) (λ k. with_file k c.args.per c.args.table.now c.args.mirror.now c.args.number c.args.resized.now c.args.draft.now.touched.items)
    (λ k mid new. PutsBoth k c.args.per c.args.bitmap.now c.args.resized.now mid new) _ _ c.in_ok-put_file.ensures.touched (rw c.in_ok-put_file.ensures.asks.same at c.in_ok-put_both.ensures.put)
