use Rattle.std.proofs.Common.{◌≡◌, ◌+◌, take}
use Rattle.record_model.specs.Records.{spelled_bytes}
use Rattle.record_writer.proofs.spelled.have_room.Given as goal

abbrev pub invariant-loop-attr : goal.invariant-loop-attr
invariant-loop-attr l = l.left + spelled_bytes (take l.attr-index l.attrs) ≡ 960
