use Rattle.table_edits.proofs.Edit.{longer_lies}
use Rattle.table_edits.proofs.laws.longer_table_lies.Goals as goal

pub returns : goal.returns
returns c = longer_lies
