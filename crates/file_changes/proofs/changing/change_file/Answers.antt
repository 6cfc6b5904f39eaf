use Rattle.file_changes.proofs.Calling.{call_steps}
use Rattle.file_changes.proofs.Giving.{call_gives}
use Rattle.file_changes.proofs.changing.change_file.Goals as goal

pub returns-clause-changes : goal.returns-clause-changes
returns-clause-changes g c = record {
  step =
      call_steps c.writes_are_steps.ensures c.changes_are_steps.ensures c.bare_is_enough.ensures c.files_are_ready.ensures (g.V.View.content c.args.draft.now.view.now) c.args.streams.now c.args.op.now c.args.node.now c.args.stamp c.args.file.now (g.B.FreeBits.bits c.args.bits.now) c.args.draft.now.touched.items c.write_file.new.draft.touched.items c.write_file.result
      c.ranges.stamp.fits c.requires.may.few c.requires.may.has c.write_file.ensures.put c.write_file.ensures.short c.write_file.ensures.full;
  written =
      call_gives c.writes_are_done.ensures c.bare_is_enough.ensures (g.V.View.content c.args.draft.now.view.now) c.args.streams.now c.args.op.now c.args.node.now c.args.stamp c.args.file.now (g.B.FreeBits.bits c.args.bits.now) c.args.draft.now.touched.items c.write_file.new.draft.touched.items c.write_file.result
      c.ranges.stamp.fits c.requires.may.few c.requires.may.has c.write_file.ensures.put c.write_file.ensures.short c.write_file.ensures.full;
  bits = c.write_file.ensures.bits;
  short = c.write_file.ensures.short;
  refused = c.write_file.ensures.refused;
}
