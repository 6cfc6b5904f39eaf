use Rattle.std.proofs.Common.{rules, ◌≡◌, Some, length}
use Rattle.record_model.specs.Constants.{data_type}
use Rattle.draft_growth.specs.Growing.{IsTable, MayHaveMore}
use Rattle.planned_streams.specs.Planned.{bitmap_in, table_in}
use Rattle.table_makes.specs.Growing.{CountsTheSame}
use Rattle.table_makes.proofs.Putting.{all_grew}
use Rattle.table_makes.proofs.growing.grow_table_first.Goals as goal

pub returns-clause-put : goal.returns-clause-put
returns-clause-put g c =
    let bits = g.B.FreeBits.bits c.args.bits.now in
    let t = c.in-Some.table in
    let is : table_in c.args.file ≡ Some t = search rules in
    let stands : IsTable (length bits) t = search rules in
    let more : MayHaveMore t = search rules in
    let marks : bitmap_in 6 data_type c.args.bits_file ≡ Some c.in-Some-2.marks = search rules in
    let counts : CountsTheSame bits t t.bitmap.stream = search rules in
    all_grew c.put_first.result (g.V.View.content c.args.draft.now.view.now) bits (g.B.FreeBits.bits c.put_first.new.bits) c.args.streams.now c.args.file c.args.bits_file t c.in-Some-2.marks c.args.draft.now.touched.items c.put_first.new.draft.touched.items is stands more marks counts c.put_first.ensures.put
