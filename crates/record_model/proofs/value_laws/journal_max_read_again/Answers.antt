use Rattle.record_model.specs.StdValues.{journal_max_over}
use Rattle.record_model.proofs.FixedValues.{journal_max_read, journal_max_spelled, length-journal_max_over, journal_max_others}
use Rattle.record_model.proofs.value_laws.journal_max_read_again.Goals as goal

pub returns : goal.returns
returns c = record { size = length-journal_max_over; spelled = journal_max_spelled; read = λ limits value fits long. journal_max_read (journal_max_over limits value) limits (journal_max_spelled limits value fits long); others = journal_max_others }
