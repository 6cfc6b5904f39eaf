use Rattle.record_model.proofs.FixedValues.{journal_max_table, journal_max_read, journal_max_short}
use Rattle.record_model.proofs.value_laws.journal_max_is_table.Goals as goal

pub returns : goal.returns
returns c = record { read = λ value limits. (journal_max_table value limits, journal_max_read value limits); short = journal_max_short }
