use Rattle.std.proofs.Common.{max, Some, refl}
use Rattle.std.proofs.lemmas.Result.{err_from_is_err_and}
use Rattle.state_model.specs.declared.stream.Stream.TheVariants.{Placed}
use Rattle.state_model.specs.Loads.{total_clusters}
use Rattle.tree_model.specs.Needs.{clusters_for}
use Rattle.directory_growth.specs.declared.change.BitsChange.TheVariants as change
use Rattle.directory_growth.proofs.Coming.{at_size, placed_places, placed_ok, placed_err}
use Rattle.directory_growth.proofs.bitmap.placed_after.Goals as goal

pub returns-in_err-x-clause-after : goal.returns-in_err-x-clause-after
returns-in_err-x-clause-after g c = λ n.
    let bits = g.B.FreeBits.bits c.args.bits.now in
    let new = g.B.FreeBits.bits c.in_clusters.new.bits in
    let e = c.args.extents.now in
    let size = c.real_then-size.result in
    let clusters = max (total_clusters e.runs) (clusters_for c.args.least) in
    let places = placed_places bits c.args.beside n size c.args.least c.lacking-wanted.result e c.requires.begins c.requires.placed c.lacking-wanted.ensures.value in
    let p = err_from_is_err_and c.from_residual.result c.from_residual.ensures.1 in
    rw (p.1, p.2)
    (at_size bits new c.args.beside c.args.file.now (Some (Placed e)) n size (max e.real c.args.least) clusters _ c.real_then-size.ensures
    (placed_err c.args.per bits new c.args.beside c.args.file.now (Some (Placed e)) n size clusters c.lacking-wanted.result e c.in_err-x.field-0.0 c.requires.per places c.in_err-x.ensures.short c.in_err-x.ensures.room c.in_err-x.ensures.first))

pub returns-clause-after : goal.returns-clause-after
returns-clause-after g c = λ n.
    let bits = g.B.FreeBits.bits c.args.bits.now in
    let new = g.B.FreeBits.bits c.in_clusters.new.bits in
    let e = c.args.extents.now in
    let size = c.real_then-size.result in
    let clusters = max (total_clusters e.runs) (clusters_for c.args.least) in
    let places = placed_places bits c.args.beside n size c.args.least c.lacking-wanted.result e c.requires.begins c.requires.placed c.lacking-wanted.ensures.value in
    let x = c.in_ok-x.x in
    at_size bits new c.args.beside c.args.file.now (Some (Placed e)) n size (max e.real c.args.least) clusters _ c.real_then-size.ensures
    (placed_ok c.args.per bits new c.args.beside c.args.file.now (Some (Placed e)) n size clusters c.lacking-wanted.result e x.bits (record { bits = change.Placed x.bits; used = x.used }) c.requires.per places c.in_ok-x.ensures.value c.in_ok-x.ensures.used c.in_ok-x.ensures.taken c.in_ok-x.ensures.short c.in_ok-x.ensures.room
    (λ come. record { e = e; placed = refl; come = come }))
