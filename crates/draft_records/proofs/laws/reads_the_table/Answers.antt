use Rattle.draft_records.proofs.TableReads.{table_read}
use Rattle.draft_records.proofs.laws.reads_the_table.Goals as goal

pub returns : goal.returns
returns c = table_read
