use Rattle.std.proofs.Common.{◌≡◌, ◌++◌, take, map}
use Rattle.volume_format.specs.Indexes.{entry_of}
use Rattle.volume_format.proofs.indexing.push_entries.Given as goal

abbrev pub invariant-loop-number : goal.invariant-loop-number
invariant-loop-number l = l.entries ≡ l.initial.entries ++ map (entry_of l.v l.time) (take l.number-index l.order)
