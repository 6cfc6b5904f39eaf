use Rattle.written_made.proofs.Calling.{made_changes}
use Rattle.written_made.proofs.changing.change_made.Goals as goal

pub returns-clause-changes : goal.returns-clause-changes
returns-clause-changes g c =
    made_changes c.made_is_counted.ensures c.made_is_step.ensures c.made_is_done.ensures c.changes_are_steps.ensures c.bare_is_enough.ensures c.files_are_ready.ensures (g.V.View.content c.args.draft.now.view.now) c.args.streams.now c.args.op.now c.args.node.now c.args.stamp c.args.file.now c.args.made.now (g.B.FreeBits.bits c.args.bits.now) (g.B.FreeBits.bits c.write_file.new.bits) c.args.draft.now.touched.items c.write_file.new.draft.touched.items c.write_file.result
    (record { none = c.requires.none; fits = c.requires.fits; short = c.requires.attrs; soon = c.ranges.stamp.fits; few = c.requires.may.few; has = c.requires.may.has }) c.requires.made c.write_file.ensures.put c.write_file.ensures.bits c.write_file.ensures.short c.write_file.ensures.full c.write_file.ensures.refused
