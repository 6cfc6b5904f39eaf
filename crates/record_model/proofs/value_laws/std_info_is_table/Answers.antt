use Rattle.record_model.proofs.FixedValues.{std_info_table, std_info_read, std_info_short, std_info_lawful}
use Rattle.record_model.proofs.value_laws.std_info_is_table.Goals as goal

pub returns : goal.returns
returns c = record { read = λ value info. (std_info_table value info, std_info_read value info); short = std_info_short; lawful = std_info_lawful }
