use Rattle.tree_laws.proofs.Planning.{planned_bytes, planned_index, planned_record, planned_agree, planned_agrees, planned_upper, planned_shown, journal_agrees}
use Rattle.tree_laws.proofs.Sparing.{planned_lists, planned_rewrites}
use Rattle.tree_laws.proofs.laws.planned_writes.Goals as goal

pub returns : goal.returns
returns c = record { bytes = planned_bytes; index = planned_index; record_of = planned_record; agree = planned_agree; agrees = planned_agrees; upper = planned_upper; shown = planned_shown; entries = journal_agrees; lists = planned_lists; rewrites = planned_rewrites }
