use Rattle.record_model.specs.StdValues.{volume_info_over}
use Rattle.record_model.proofs.FixedValues.{volume_info_read, volume_info_spelled, length-volume_info_over, volume_info_others}
use Rattle.record_model.proofs.value_laws.volume_info_read_again.Goals as goal

pub returns : goal.returns
returns c = record { size = length-volume_info_over; spelled = volume_info_spelled; read = λ info value fits long. volume_info_read (volume_info_over info value) info (volume_info_spelled info value fits long); others = volume_info_others }
