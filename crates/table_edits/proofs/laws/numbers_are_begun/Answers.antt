use Rattle.table_edits.proofs.Edit.{numbers_begun}
use Rattle.table_edits.proofs.laws.numbers_are_begun.Goals as goal

pub returns : goal.returns
returns c = numbers_begun
