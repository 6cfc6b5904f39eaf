use Rattle.std.proofs.Common.{◌≡◌, ◌≤◌, ◌<◌, ◌-◌, length}
use Rattle.std.specs.Io.KnownBytes.{Consumes}
use Rattle.ntfs_host.proofs.reading.read_through.Given as goal

-- the bytes so far were consumed
abbrev pub invariant-loop-bytes : goal.invariant-loop-bytes
invariant-loop-bytes g l = Consumes (g.S.Source.left l.initial.source) (g.S.Source.left l.source) l.bytes.items × (length l.bytes.items ≤ 16777217) × (0 < length l.chunk) × (g.S.Source.faults l.source ≡ g.S.Source.faults l.initial.source)

abbrev pub decreases-loop-bytes : goal.decreases-loop-bytes
decreases-loop-bytes g l = 16777217 - length l.bytes.items
