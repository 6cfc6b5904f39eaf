use Rattle.table_makes.proofs.Putting.{put_first}
use Rattle.table_makes.proofs.growing.put_first.Goals as goal

pub returns-clause-put : goal.returns-clause-put
returns-clause-put g c =
    put_first (g.V.View.content c.args.draft.now.view.now) c.args.per (g.B.FreeBits.bits c.args.bits.now) (g.B.FreeBits.bits c.grow_table.new.bits) c.args.streams.now c.args.table c.in_ok-after.after c.args.marks.now c.grow_table.new.clusters c.args.draft.now.touched.items
    c.grow_table.new.draft.touched.items c.in_ok-grown_of.field-0 c.requires.per c.in_ok-after.ensures.put c.in_ok-after.ensures.space c.in_ok-after.ensures.full c.in_ok-after.ensures.bits c.in_ok-grown_of.ensures.streams c.in_ok-grown_of.ensures.numbers
