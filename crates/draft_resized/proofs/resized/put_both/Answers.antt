use Rattle.std.proofs.Common.{true, false}
use Rattle.draft_runs.specs.Clusters.{PutsRuns, PutsRunsFront}
use Rattle.draft_resized.proofs.Fronts.{first_front, ok_both, err_either, on_err}
use Rattle.draft_resized.proofs.resized.put_both.Goals as goal

pub returns-in_err-put_runs-clause-front : goal.returns-in_err-put_runs-clause-front
returns-in_err-put_runs-clause-front g c =
    on_err _ _
    (first_front (g.V.View.content c.args.draft.now.view.now) (λ k. PutsRunsFront k c.args.per c.args.bitmap.now true c.args.resized.now.taken.items c.args.draft.now.touched.items _) _
    (rw c.deref.ensures.value at c.in_err-put_runs.ensures.front))

pub returns-clause-put : goal.returns-clause-put
returns-clause-put g c =
    ok_both _ (g.V.View.content c.args.draft.now.view.now) (λ k old new. PutsRuns k c.args.per c.args.bitmap.now true c.args.resized.now.taken.items old new)
    (λ k old new. PutsRuns k c.args.per c.args.bitmap.now false c.args.resized.now.freed.items old new) c.args.draft.now.touched.items _ _ (rw c.deref.ensures.value at c.in_ok-put_runs.ensures.put)
    (rw (c.deref-2.ensures.value, c.in_ok-put_runs.ensures.asks.same) at c.put_runs-2.ensures.put)

pub returns-clause-front : goal.returns-clause-front
returns-clause-front g c =
    err_either _ (g.V.View.content c.args.draft.now.view.now) (λ k old new. PutsRunsFront k c.args.per c.args.bitmap.now true c.args.resized.now.taken.items old new)
    (λ k old new. PutsRuns k c.args.per c.args.bitmap.now true c.args.resized.now.taken.items old new)
    (λ k old new. PutsRunsFront k c.args.per c.args.bitmap.now false c.args.resized.now.freed.items old new) c.args.draft.now.touched.items _ _ (rw c.deref.ensures.value at c.in_ok-put_runs.ensures.put)
    (rw (c.deref-2.ensures.value, c.in_ok-put_runs.ensures.asks.same) at c.put_runs-2.ensures.front)
