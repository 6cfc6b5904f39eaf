-- Where an error of a node's calls comes from.
use Rattle.std.specs.Prelude.{ℕ}
use Rattle.disk_model.specs.host_base.Answers.{Cause, refused, no_memory, never}
use Rattle.index_node.specs.declared.fault.NodeFault.{NodeFault}
use Rattle.index_node.specs.declared.fault.NodeFault.TheVariants.{Rule, Full, Memory}

-- of a reader: a refusal is the number of the rule that is broken
abbrev pub rule_cause : NodeFault → Cause ℕ
rule_cause (Rule rule) = refused rule
rule_cause (Full used) = never
rule_cause Memory = no_memory

-- of an insertion: a refusal is the number of the used bytes
abbrev pub full_cause : NodeFault → Cause ℕ
full_cause (Rule rule) = never
full_cause (Full used) = refused used
full_cause Memory = no_memory
