use Rattle.std.proofs.Common.{arith, None}
use Rattle.volume_model.specs.record_model.declared.runs.Run.{Run}
use Rattle.stream_runs.proofs.Looping.{vcn_at}
use Rattle.stream_runs.proofs.joining.push_moved.Goals as goal

none : Run
none = record { vcn = 0; lcn = None; len = 0 }

pub moved-requires : goal.moved-requires
unfolding none
moved-requires c = omega (arith, vcn_at 0 c.args.more.now c.loop-run.run-index none c.requires.spelled c.loop-run-test.true, c.requires.clusters)
