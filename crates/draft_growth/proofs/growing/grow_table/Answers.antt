use Rattle.std.proofs.Common.{◌≡◌, ℕ, ◌+◌, ◌≤◌, length, refl, sym, ap, subst, ◌∙◌}
use Rattle.std.proofs.lemmas.Result.{err_from_is_err_and}
use Rattle.record_model.specs.Pairs.{cluster_limit}
use Rattle.draft_bitmaps.specs.space_model.Choosing.{chosen}
use Rattle.draft_bitmaps.specs.stream_runs.Runs.{last_cluster}
use Rattle.draft_bitmaps.specs.declared.bitmap.Bitmap.{Bitmap}
use Rattle.draft_bitmaps.specs.Bitmaps.{bit_count}
use Rattle.draft_growth.specs.Growing.{table_clusters, table_records, record_count, numbers_bytes, size_in, standing, more_for, grown_record}
use Rattle.draft_numbers.specs.draft_records.Records.{fits_room}
use Rattle.draft_growth.proofs.Chosen.{chosen_inside}
use Rattle.draft_growth.proofs.Fulls.{other_space, full_told, full_never, record_grown}
use Rattle.draft_growth.proofs.Space.{behind, bitmap_now, table_taken, records_ok, records_err, second_ok, second_err, other_fault}
use Rattle.draft_growth.proofs.Joining.{table_grown}
use Rattle.draft_growth.proofs.Tables.{at_least, length-with_runs, grows_in, has_room, taken_inside, more_inside}
use Rattle.draft_growth.proofs.growing.grow_table.Given.{Over}
use Rattle.draft_growth.proofs.growing.grow_table.Goals as goal

pub returns-clause-put : goal.returns-clause-put
returns-clause-put g c =
    table_grown (g.V.View.content c.args.draft.now.view.now) c.args.per (g.B.FreeBits.bits c.args.bits.now) c.args.mirror.now c.args.table _ c.in_ok-records.records c.in_ok-longer.longer c.args.clusters.now _ c.args.draft.now.touched.items _
    c.in_ok-records.ensures.value
    (rw (c.in_ok-records.ensures.bits, c.in_file-bitmap.ensures) at c.in_ok-longer.ensures.value)
    (rw c.deref.ensures.value at c.in_ok-put_grown.ensures.put)
    refl

same_length : (g : Over) (c : goal.After-bitmap-1 g) → length (g.B.FreeBits.bits c.longer_data.new.bits) ≡ length (g.B.FreeBits.bits c.args.bits.now)
same_length g c = ap length c.in_ok-records.ensures.bits ∙ length-with_runs c.in_ok-records.records.taken.items (g.B.FreeBits.bits c.args.bits.now)

pub longer_bitmap-requires-clause-few : goal.longer_bitmap-requires-clause-few
longer_bitmap-requires-clause-few g c = subst (λ (n : ℕ). n ≤ cluster_limit) (sym (same_length g c)) c.requires.table.few

pub longer_bitmap-requires-clause-stream : goal.longer_bitmap-requires-clause-stream
longer_bitmap-requires-clause-stream g c =
    grows_in _ (length (g.B.FreeBits.bits c.args.bits.now)) (numbers_bytes c.args.table) c.in_file-bitmap.result.stream c.args.table.bitmap.stream (same_length g c) (ap (λ (b : Bitmap). b.stream) c.in_file-bitmap.ensures)
    c.requires.table.stream

pub put_grown-requires-clause-within : goal.put_grown-requires-clause-within
put_grown-requires-clause-within g c =
    has_room c.args.per (size_in c.in_file-bitmap.result.stream (numbers_bytes c.args.table)) (record_count c.args.table.extents + table_records) (g.B.FreeBits.bits c.longer_data.new.bits) c.in_file-bitmap.result c.in_ok-longer.longer
    (at_least (numbers_bytes c.args.table) c.in_file-bitmap.result.stream) c.in_ok-longer.ensures.value

pub put_grown-requires-clause-inside : goal.put_grown-requires-clause-inside
put_grown-requires-clause-inside g c =
    taken_inside (bit_count c.args.clusters.now.stream) c.deref.result.now (chosen (g.B.FreeBits.bits c.args.bits.now) (last_cluster c.args.table.extents.runs) table_clusters) (c.deref.ensures.value ∙ c.in_ok-records.ensures.value.taken)
    (chosen_inside (bit_count c.args.clusters.now.stream) (g.B.FreeBits.bits c.args.bits.now) (last_cluster c.args.table.extents.runs) table_clusters c.requires.within)

pub put_grown-requires-clause-inside_more : goal.put_grown-requires-clause-inside_more
put_grown-requires-clause-inside_more g c =
    let limit = bit_count c.args.clusters.now.stream in
    let size = size_in c.in_file-bitmap.result.stream (numbers_bytes c.args.table) in
    let stands = standing size c.in_file-bitmap.result in
    let now = g.B.FreeBits.bits c.longer_data.new.bits in
    let same = ap length c.in_ok-records.ensures.bits ∙ length-with_runs c.in_ok-records.records.taken.items (g.B.FreeBits.bits c.args.bits.now) in
    taken_inside limit c.in_ok-longer.longer.taken.items (more_for c.args.per size now stands) c.in_ok-longer.ensures.value.taken
    (more_inside limit c.args.per size now stands (subst (λ (n : ℕ). n ≤ limit) (sym same) c.requires.within))

pub returns-clause-bits : goal.returns-clause-bits
returns-clause-bits g c =
    let bits = g.B.FreeBits.bits c.args.bits.now in
    let own = g.B.FreeBits.bits c.longer_data.new.bits in
    let first = behind bits own c.args.table c.in_ok-records.records c.in_ok-records.ensures.value.taken c.in_ok-records.ensures.bits in
    table_taken c.args.per bits own _ c.args.table c.in_file-bitmap.result c.in_ok-longer.longer first (bitmap_now c.args.per bits c.args.table c.in_ok-records.records c.in_file-bitmap.result c.in_ok-records.ensures.value c.in_file-bitmap.ensures) c.in_ok-longer.ensures.value c.in_ok-longer.ensures.bits

pub returns-clause-space : goal.returns-clause-space
returns-clause-space g c =
    let bits = g.B.FreeBits.bits c.args.bits.now in
    let own = g.B.FreeBits.bits c.longer_data.new.bits in
    let first = behind bits own c.args.table c.in_ok-records.records c.in_ok-records.ensures.value.taken c.in_ok-records.ensures.bits in
    let enough = records_ok c.longer_data.result c.in_ok-records.records bits c.in_ok-records.was c.longer_data.ensures.short c.longer_data.ensures.enough in
    second_ok c.args.per bits own c.args.table c.in_file-bitmap.result enough first (bitmap_now c.args.per bits c.args.table c.in_ok-records.records c.in_file-bitmap.result c.in_ok-records.ensures.value c.in_file-bitmap.ensures) c.in_ok-longer.ensures.space

pub returns-in_err-records-clause-space : goal.returns-in_err-records-clause-space
returns-in_err-records-clause-space g c =
    let p = err_from_is_err_and c.from_residual.result c.from_residual.ensures.1 in
    rw (p.1, p.2) (records_err c.longer_data.result c.in_err-records.field-0.0 c.args.per (g.B.FreeBits.bits c.args.bits.now) c.args.table c.in_err-records.was c.longer_data.ensures.short c.longer_data.ensures.enough)

pub returns-in_err-longer-clause-space : goal.returns-in_err-longer-clause-space
returns-in_err-longer-clause-space g c =
    let bits = g.B.FreeBits.bits c.args.bits.now in
    let own = g.B.FreeBits.bits c.longer_data.new.bits in
    let first = behind bits own c.args.table c.in_ok-records.records c.in_ok-records.ensures.value.taken c.in_ok-records.ensures.bits in
    let enough = records_ok c.longer_data.result c.in_ok-records.records bits c.in_ok-records.was c.longer_data.ensures.short c.longer_data.ensures.enough in
    let p = err_from_is_err_and c.from_residual-in_err-longer.result c.from_residual-in_err-longer.ensures.1 in
    rw (p.1, p.2) (second_err c.in_err-longer.field-0.0 c.args.per bits own c.args.table c.in_file-bitmap.result enough first (bitmap_now c.args.per bits c.args.table c.in_ok-records.records c.in_file-bitmap.result c.in_ok-records.ensures.value c.in_file-bitmap.ensures) c.in_err-longer.ensures.space)

pub returns-in_err-put_grown-clause-space : goal.returns-in_err-put_grown-clause-space
returns-in_err-put_grown-clause-space g c =
    let p = err_from_is_err_and c.from_residual-in_err-put_grown.result c.from_residual-in_err-put_grown.ensures.1 in
    rw (p.1, p.2) (other_fault c.in_err-put_grown.field-0.0 _)

pub returns-in_err-records-clause-full : goal.returns-in_err-records-clause-full
returns-in_err-records-clause-full g c =
    let p = err_from_is_err_and c.from_residual.result c.from_residual.ensures.1 in
    rw (p.1, p.2) (other_space c.in_err-records.field-0.0 (fits_room (grown_record c.args.per (g.B.FreeBits.bits c.args.bits.now) c.args.table)))

pub returns-in_err-longer-clause-full : goal.returns-in_err-longer-clause-full
returns-in_err-longer-clause-full g c =
    let p = err_from_is_err_and c.from_residual-in_err-longer.result c.from_residual-in_err-longer.ensures.1 in
    rw (p.1, p.2) (other_space c.in_err-longer.field-0.0 (fits_room (grown_record c.args.per (g.B.FreeBits.bits c.args.bits.now) c.args.table)))

pub returns-in_err-put_grown-clause-full : goal.returns-in_err-put_grown-clause-full
returns-in_err-put_grown-clause-full g c =
    let bits = g.B.FreeBits.bits c.args.bits.now in
    let own = g.B.FreeBits.bits c.longer_data.new.bits in
    let first = behind bits own c.args.table c.in_ok-records.records c.in_ok-records.ensures.value.taken c.in_ok-records.ensures.bits in
    let same = record_grown c.args.per bits own c.args.table c.in_ok-records.records c.in_file-bitmap.result c.in_ok-longer.longer c.in_ok-records.ensures.value first c.in_file-bitmap.ensures c.in_ok-longer.ensures.value in
    let p = err_from_is_err_and c.from_residual-in_err-put_grown.result c.from_residual-in_err-put_grown.ensures.1 in
    rw (p.1, p.2) (full_told c.in_err-put_grown.field-0.0 c.in_ok-longer.longer.bitmap.file (grown_record c.args.per bits c.args.table) same c.in_err-put_grown.ensures.full)

pub returns-clause-full : goal.returns-clause-full
returns-clause-full g c =
    let bits = g.B.FreeBits.bits c.args.bits.now in
    let own = g.B.FreeBits.bits c.longer_data.new.bits in
    let first = behind bits own c.args.table c.in_ok-records.records c.in_ok-records.ensures.value.taken c.in_ok-records.ensures.bits in
    let same = record_grown c.args.per bits own c.args.table c.in_ok-records.records c.in_file-bitmap.result c.in_ok-longer.longer c.in_ok-records.ensures.value first c.in_file-bitmap.ensures c.in_ok-longer.ensures.value in
    full_never _ c.in_ok-longer.longer.bitmap.file (grown_record c.args.per bits c.args.table) same c.in_ok-put_grown.ensures.full
