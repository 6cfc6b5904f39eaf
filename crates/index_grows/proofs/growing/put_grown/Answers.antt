use Rattle.index_grows.proofs.Putting.{put_into}
use Rattle.index_grows.proofs.growing.put_grown.Goals as goal

pub returns-clause-put : goal.returns-clause-put
returns-clause-put g c =
    put_into (g.V.View.content c.args.draft.now.view.now) c.args.per (g.B.FreeBits.bits c.args.bits.now) c.args.streams.now c.args.index c.args.more c.args.draft.now.touched.items c.grow_blocks.new.draft.touched.items c.in_ok-grown.grown c.in_ok-written.field-0
    c.requires.per c.in_ok-grown.ensures.space c.in_ok-grown.ensures.room c.in_ok-written.ensures.value c.in_ok-written.ensures.fits c.in_ok-grown.ensures.put
