use Rattle.table_edits.proofs.Edit.{new_sequences}
use Rattle.table_edits.proofs.laws.new_sequences_are_one.Goals as goal

pub returns : goal.returns
returns c = new_sequences
