use Rattle.std.proofs.Common.{◌≡◌, ◌-◌}
use Rattle.record_model.specs.Records.{most_attributes}
use Rattle.file_record.specs.Walks.{attributes_at}
use Rattle.file_record.proofs.Walking.{still}
use Rattle.file_record.proofs.walk.attributes_at.Given as goal

abbrev pub invariant-loop : goal.invariant-loop
invariant-loop l = still (most_attributes - l.counter) l.rest l.found ≡ attributes_at l.bytes
