use Rattle.record_model.proofs.FixedValues.{volume_info_table, volume_info_read, volume_info_short}
use Rattle.record_model.proofs.value_laws.volume_info_is_table.Goals as goal

pub returns : goal.returns
returns c = record { read = λ value info. (volume_info_table value info, volume_info_read value info); short = volume_info_short }
