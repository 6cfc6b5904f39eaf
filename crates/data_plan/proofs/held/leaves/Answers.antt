use Rattle.std.proofs.Common.{[], ap, ◌∙◌, subst}
use Rattle.std.proofs.lemmas.Result.{err_from_is_err_and}
use Rattle.used_laws.specs.record_model.Constants.{data_type}
use Rattle.used_laws.specs.state_model.declared.stream.Extents.{Extents}
use Rattle.used_laws.specs.tree_model.Needs.{clusters_for}
use Rattle.used_laws.specs.resized_streams.Resizing.{unplaced, IsGrown}
use Rattle.data_plan.specs.declared.change.DataChange.TheVariants as change
use Rattle.data_plan.specs.Changes.{data_in, growth_of}
use Rattle.data_plan.proofs.Taking.{held_of, leaving, grown_ok, grown_err}
use Rattle.data_plan.proofs.held.leaves.Goals as goal

pub returns-in_err-z-clause-after : goal.returns-in_err-z-clause-after
returns-in_err-z-clause-after g c =
    let bits = g.B.FreeBits.bits c.args.bits.now in
    let e = c.unplaced-value.result in
    let wanted = c.clusters_for.result in
    let is = c.unplaced-value.ensures ∙ ap unplaced c.size_after-size.ensures in
    let takes = leaving bits c.args.file.now c.args.op.now c.args.node.now e wanted c.requires.has.begins c.requires.held c.requires.shows c.requires.leaves is (c.clusters_for.ensures.value ∙ ap clusters_for c.size_after-size.ensures) in
    let p = err_from_is_err_and c.from_residual.result c.from_residual.ensures.1 in
    rw (p.1, p.2) (grown_err c.args.per bits (g.B.FreeBits.bits c.grown.new.bits) c.args.file.now c.args.op.now c.args.node.now e wanted c.in_err-z.field-0.0 c.requires.per takes c.in_err-z.ensures.short c.in_err-z.ensures.unchanged c.in_err-z.ensures.room c.in_err-z.ensures.first)

pub returns-clause-after : goal.returns-clause-after
returns-clause-after g c =
    let bits = g.B.FreeBits.bits c.args.bits.now in
    let r = c.args.file.now in
    let e = c.unplaced-value.result in
    let wanted = c.clusters_for.result in
    let is = c.unplaced-value.ensures ∙ ap unplaced c.size_after-size.ensures in
    let takes = leaving bits r c.args.op.now c.args.node.now e wanted c.requires.has.begins c.requires.held c.requires.shows c.requires.leaves is (c.clusters_for.ensures.value ∙ ap clusters_for c.size_after-size.ensures) in
    let h = held_of (data_in r) c.requires.held in
    grown_ok c.args.per bits (g.B.FreeBits.bits c.grown.new.bits) r c.args.op.now c.args.node.now e wanted c.in_ok-z.z (change.Leaves c.in_ok-z.z) c.requires.per takes c.in_ok-z.ensures.value c.in_ok-z.ensures.taken c.in_ok-z.ensures.short c.in_ok-z.ensures.room
    (λ taken grown. record {
      value = h.value;
      held = h.is;
      takes = taken;
      grown = subst (λ (x : Extents). IsGrown 8 data_type [] x r (growth_of bits r c.args.op.now c.args.node.now).runs c.in_ok-z.z) is grown;
    })
