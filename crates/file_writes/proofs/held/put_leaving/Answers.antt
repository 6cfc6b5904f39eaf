use Rattle.std.proofs.Common.{ℕ, List, ap, ◌∙◌}
use Rattle.tree_model.specs.Effects.{bytes_after}
use Rattle.file_puts.specs.Puts.{with_bytes}
use Rattle.file_writes.proofs.Cases.{leaving_short}
use Rattle.file_writes.proofs.Joins.{leaving_put}
use Rattle.file_writes.proofs.held.put_leaving.Goals as goal

pub put_value_in_runs-requires-clause-short : goal.put_value_in_runs-requires-clause-short
put_value_in_runs-requires-clause-short g c =
    let is = c.deref.ensures.value ∙ c.in_ok-bytes.ensures ∙ ap (λ (l : List ℕ). bytes_after c.args.op.now (with_bytes l c.args.node.now)) c.as_slice.ensures in
    leaving_short c.requires.may.0 c.args.number c.args.streams.now c.args.file.now c.args.op.now c.args.node.now c.in_ok-value.value c.deref.result.now c.requires.may.1 c.in_ok-value.ensures is

pub returns-clause-put : goal.returns-clause-put
returns-clause-put g c =
    let is = c.deref.ensures.value ∙ c.in_ok-bytes.ensures ∙ ap (λ (l : List ℕ). bytes_after c.args.op.now (with_bytes l c.args.node.now)) c.as_slice.ensures in
    leaving_put (g.V.View.content c.args.draft.now.view.now) c.args.streams.now c.args.number c.args.op.now c.args.node.now c.args.stamp c.args.file.now c.args.resized.now c.in_ok-value.value c.deref.result.now c.args.draft.now.touched.items _ _
    c.in_ok-value.ensures is c.in_ok-put_value_in_runs.ensures.put (rw c.in_ok-put_value_in_runs.ensures.asks.same at c.in_ok-put_times_behind.ensures.put)
