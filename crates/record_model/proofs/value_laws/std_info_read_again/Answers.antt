use Rattle.record_model.specs.StdValues.{std_info_over}
use Rattle.record_model.proofs.FixedValues.{std_info_read, std_info_spelled, length-std_info_over, std_info_others}
use Rattle.record_model.proofs.value_laws.std_info_read_again.Goals as goal

pub returns : goal.returns
returns c = record { size = length-std_info_over; spelled = std_info_spelled; read = λ info value fits long. std_info_read (std_info_over info value) info (std_info_spelled info value fits long); others = std_info_others }
