use Rattle.std.proofs.Common.{ℕ, List, ap, ◌∙◌}
use Rattle.tree_model.specs.Effects.{bytes_after}
use Rattle.file_puts.specs.Puts.{with_bytes}
use Rattle.file_writes.proofs.Cases.{value_after, valued_room}
use Rattle.file_writes.proofs.Joins.{valued_put}
use Rattle.file_writes.proofs.held.put_value.Goals as goal

pub with_value-requires-clause-short : goal.with_value-requires-clause-short
with_value-requires-clause-short g c =
    let is = c.deref.ensures.value ∙ c.in_ok-bytes.ensures ∙ ap (λ (l : List ℕ). bytes_after c.args.op.now (with_bytes l c.args.node.now)) c.as_slice.ensures in
    (value_after c.requires.may.0 c.args.number c.args.streams.now c.args.file.now c.args.op.now c.args.node.now c.in_ok-value.value c.deref.result.now c.requires.may.1 c.requires.room c.in_ok-value.ensures is).short

pub put_times-requires-clause-room : goal.put_times-requires-clause-room
put_times-requires-clause-room g c =
    let is = c.deref.ensures.value ∙ c.in_ok-bytes.ensures ∙ ap (λ (l : List ℕ). bytes_after c.args.op.now (with_bytes l c.args.node.now)) c.as_slice.ensures in
    valued_room c.args.file.now c.in_ok-valued.valued c.deref.result.now c.requires.may.1.info
    (value_after c.requires.may.0 c.args.number c.args.streams.now c.args.file.now c.args.op.now c.args.node.now c.in_ok-value.value c.deref.result.now c.requires.may.1 c.requires.room c.in_ok-value.ensures is) c.in_ok-valued.ensures.value c.in_ok-valued.ensures.fits

pub returns-clause-put : goal.returns-clause-put
returns-clause-put g c =
    let is = c.deref.ensures.value ∙ c.in_ok-bytes.ensures ∙ ap (λ (l : List ℕ). bytes_after c.args.op.now (with_bytes l c.args.node.now)) c.as_slice.ensures in
    valued_put (g.V.View.content c.args.draft.now.view.now) c.args.streams.now c.args.number c.args.op.now c.args.node.now c.args.stamp c.args.file.now c.in_ok-valued.valued c.in_ok-value.value c.deref.result.now c.args.draft.now.touched.items _
    c.in_ok-value.ensures is c.in_ok-valued.ensures.value c.in_ok-put_times.ensures.put
