use Rattle.place_raises.proofs.Puts.{raised_into}
use Rattle.place_raises.proofs.raising.put_raised.Goals as goal

pub returns-clause-put : goal.returns-clause-put
returns-clause-put g c =
    raised_into (g.V.View.content c.args.draft.now.view.now) c.args.per (g.B.FreeBits.bits c.args.bits.now) c.args.streams.now c.args.index c.args.more c.as_slice-root.result.now c.args.level.now.root c.as_slice-node.result.now c.args.level.now.node c.args.draft.now.touched.items c.raise_blocks.new.draft.touched.items c.in_ok-raised.raised
    c.in_ok-written.field-0 c.requires.per c.as_slice-root.ensures c.as_slice-node.ensures c.in_ok-raised.ensures.space c.in_ok-raised.ensures.room c.in_ok-written.ensures.value c.in_ok-written.ensures.fits c.in_ok-raised.ensures.put
