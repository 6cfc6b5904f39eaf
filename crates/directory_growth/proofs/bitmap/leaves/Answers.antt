use Rattle.std.proofs.Common.{◌≡◌, max, length, Some, refl, sym, subst, arith}
use Rattle.std.proofs.lemmas.Result.{err_from_is_err_and}
use Rattle.record_model.specs.Constants.{bitmap_type}
use Rattle.state_model.specs.declared.stream.Extents.{Extents}
use Rattle.data_plan.specs.step_model.Streams.{placed_among}
use Rattle.directory_growth.proofs.Placing.{wanted_in}
use Rattle.state_model.specs.declared.stream.Stream.TheVariants.{Held}
use Rattle.tree_model.specs.Needs.{clusters_for}
use Rattle.directory_growth.specs.declared.change.BitsChange.TheVariants as change
use Rattle.directory_growth.specs.Growing.{ComesInto}
use Rattle.directory_growth.specs.Bitmap.{MustLeave}
use Rattle.directory_growth.proofs.Coming.{at_size, leaves_places, placed_ok, placed_err}
use Rattle.directory_growth.proofs.bitmap.leaves.Goals as goal

pub returns-in_err-x-clause-after : goal.returns-in_err-x-clause-after
returns-in_err-x-clause-after g c = λ n.
    let bits = g.B.FreeBits.bits c.args.bits.now in
    let new = g.B.FreeBits.bits c.in_clusters.new.bits in
    let value = c.args.value.now in
    let size = c.size_then-size.result in
    let clusters = max 0 (clusters_for c.args.least) in
    let wants : c.clusters_for-wanted.result ≡ clusters = omega (arith, c.clusters_for-wanted.ensures.value) in
    let full = subst (MustLeave c.args.beside) (sym c.size_then-size.ensures) c.requires.full in
    let places = leaves_places bits c.args.beside n size clusters c.clusters_for-wanted.result value c.unplaced-none.result c.requires.begins (omega (arith, c.size_then-size.ensures, c.requires.some)) c.requires.held full c.unplaced-none.ensures wants in
    let p = err_from_is_err_and c.from_residual.result c.from_residual.ensures.1 in
    rw (p.1, p.2)
    (at_size bits new c.args.beside c.args.file.now (Some (Held value)) n size (max (length value) c.args.least) clusters _ c.size_then-size.ensures
    (placed_err c.args.per bits new c.args.beside c.args.file.now (Some (Held value)) n size clusters c.clusters_for-wanted.result c.unplaced-none.result c.in_err-x.field-0.0 c.requires.per places c.in_err-x.ensures.short c.in_err-x.ensures.room c.in_err-x.ensures.first))

pub returns-clause-after : goal.returns-clause-after
returns-clause-after g c = λ n.
    let bits = g.B.FreeBits.bits c.args.bits.now in
    let new = g.B.FreeBits.bits c.in_clusters.new.bits in
    let value = c.args.value.now in
    let size = c.size_then-size.result in
    let clusters = max 0 (clusters_for c.args.least) in
    let wants : c.clusters_for-wanted.result ≡ clusters = omega (arith, c.clusters_for-wanted.ensures.value) in
    let full = subst (MustLeave c.args.beside) (sym c.size_then-size.ensures) c.requires.full in
    let places = leaves_places bits c.args.beside n size clusters c.clusters_for-wanted.result value c.unplaced-none.result c.requires.begins (omega (arith, c.size_then-size.ensures, c.requires.some)) c.requires.held full c.unplaced-none.ensures wants in
    let x = c.in_ok-x.x in
    at_size bits new c.args.beside c.args.file.now (Some (Held value)) n size (max (length value) c.args.least) clusters _ c.size_then-size.ensures
    (placed_ok c.args.per bits new c.args.beside c.args.file.now (Some (Held value)) n size clusters c.clusters_for-wanted.result c.unplaced-none.result x.bits (record { bits = change.Leaves x.bits; used = x.used }) c.requires.per places c.in_ok-x.ensures.value c.in_ok-x.ensures.used c.in_ok-x.ensures.taken c.in_ok-x.ensures.short c.in_ok-x.ensures.room
    (λ come. record { value = value; held = refl; come = subst (λ (e : Extents). ComesInto bitmap_type (placed_among bits c.unplaced-none.result.runs (wanted_in n bitmap_type size clusters)) c.args.file.now e size x.bits) c.unplaced-none.ensures come }))
