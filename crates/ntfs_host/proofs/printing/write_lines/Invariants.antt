use Rattle.std.proofs.Common.{◌≡◌, length}
use Rattle.host_base.specs.Causes.{AppendsAllBut}
use Rattle.ntfs_host.proofs.printing.write_lines.Given as goal

-- all but the rest was appended
abbrev pub invariant-loop-rest : goal.invariant-loop-rest
invariant-loop-rest g l = AppendsAllBut (g.K.Sink.taken l.initial.sink) (g.K.Sink.taken l.sink) l.text l.rest × (g.K.Sink.faults l.sink ≡ g.K.Sink.faults l.initial.sink)

abbrev pub decreases-loop-rest : goal.decreases-loop-rest
decreases-loop-rest g l = length l.rest
