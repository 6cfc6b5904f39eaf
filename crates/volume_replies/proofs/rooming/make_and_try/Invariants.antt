use Rattle.std.specs.Prelude.{◌^◌, ◌-◌}
use Rattle.volume_replies.specs.Replies.{IsTried}
use Rattle.volume_replies.proofs.rooming.make_and_try.Given as goal

abbrev pub invariant-loop-pages : goal.invariant-loop-pages
invariant-loop-pages g l = IsTried g.D.Device.gives g.D.Device.sector_count g.D.Device.moment_of g.D.Device.fault_count g.D.Device.changes_of l.op l.stamp l.tried l.initial.volume l.volume

abbrev pub decreases-loop-pages : goal.decreases-loop-pages
decreases-loop-pages g l = 2 ^ 64 - l.made
