-- The causes of errors.
use Rattle.host_base.specs.Answers.{Cause, no_memory, failed}
use Rattle.index_tree.specs.index_model.Walks.{Broken}
use Rattle.directory_index.specs.declared.fault.IndexFault.{IndexFault}
use Rattle.directory_index.specs.declared.fault.IndexFault.TheVariants as faults

-- no node is refused
abbrev pub index_cause : IndexFault → Cause Broken
index_cause faults.View = failed
index_cause faults.Memory = no_memory
