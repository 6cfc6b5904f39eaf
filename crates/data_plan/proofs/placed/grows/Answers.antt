use Rattle.std.proofs.Common.{ℕ, ◌-◌, ap}
use Rattle.std.proofs.lemmas.Result.{err_from_is_err_and}
use Rattle.data_plan.specs.declared.change.DataChange.TheVariants as change
use Rattle.data_plan.proofs.Taking.{growing, growing_more, grown_ok, grown_err}
use Rattle.data_plan.proofs.placed.grows.Goals as goal

pub returns-in_err-z-clause-after : goal.returns-in_err-z-clause-after
returns-in_err-z-clause-after g c =
    let bits = g.B.FreeBits.bits c.args.bits.now in
    let e = c.args.extents.now in
    let wanted = c.clusters_after.result - c.args.node.now.clusters in
    let takes = growing bits c.args.file.now c.args.op.now c.args.node.now e wanted c.requires.has.begins c.requires.shows c.requires.placed c.requires.more (ap (λ (n : ℕ). n - c.args.node.now.clusters) c.clusters_after.ensures) in
    let p = err_from_is_err_and c.from_residual.result c.from_residual.ensures.1 in
    rw (p.1, p.2) (grown_err c.args.per bits (g.B.FreeBits.bits c.grown.new.bits) c.args.file.now c.args.op.now c.args.node.now e wanted c.in_err-z.field-0.0 c.requires.per takes c.in_err-z.ensures.short c.in_err-z.ensures.unchanged c.in_err-z.ensures.room c.in_err-z.ensures.first)

pub returns-clause-after : goal.returns-clause-after
returns-clause-after g c =
    let bits = g.B.FreeBits.bits c.args.bits.now in
    let r = c.args.file.now in
    let e = c.args.extents.now in
    let wanted = c.clusters_after.result - c.args.node.now.clusters in
    let takes = growing bits r c.args.op.now c.args.node.now e wanted c.requires.has.begins c.requires.shows c.requires.placed c.requires.more (ap (λ (n : ℕ). n - c.args.node.now.clusters) c.clusters_after.ensures) in
    grown_ok c.args.per bits (g.B.FreeBits.bits c.grown.new.bits) r c.args.op.now c.args.node.now e wanted c.in_ok-z.z (change.Grows c.in_ok-z.z) c.requires.per takes c.in_ok-z.ensures.value c.in_ok-z.ensures.taken c.in_ok-z.ensures.short c.in_ok-z.ensures.room
    (λ taken grown. record {
      e = e;
      placed = c.requires.placed;
      more = growing_more r c.args.node.now e _ _ takes.clusters c.requires.more c.requires.shows c.requires.placed;
      takes = taken;
      grown = grown;
    })
