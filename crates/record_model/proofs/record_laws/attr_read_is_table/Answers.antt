use Rattle.std.proofs.Common.{take}
use Rattle.disk_model.specs.Numbers.{field}
use Rattle.record_model.proofs.Attributes.{own_from_length, table_from_read}
use Rattle.record_model.proofs.record_laws.attr_read_is_table.Goals as goal

pub returns : goal.returns
returns c = λ bytes holds inside. table_from_read (take (field 0x04 4 bytes) bytes) (own_from_length bytes holds).1 inside
