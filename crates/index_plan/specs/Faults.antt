-- Why no plan is made.
use Rattle.std.specs.Prelude.{◌≡◌, ℕ, ◌≤◌, Option, Some, None, Result, Ok, Err, nat_eq, if◌then◌else◌}
use Rattle.index_model.specs.Walks.{Broken}
use Rattle.index_model.specs.host_base.Answers.{Cause, refused, no_memory, failed, never}
use Rattle.index_model.specs.host_base.Causes.{Counts}
use Rattle.index_plan.specs.declared.fault.PlanFault.{PlanFault}
use Rattle.index_plan.specs.declared.fault.PlanFault.TheVariants.{Node, Absent, Deep, Failed, Memory}
use Rattle.index_plan.specs.declared.fault.ReadFault.{ReadFault}
use Rattle.index_plan.specs.declared.fault.ReadFault.TheVariants as reading

-- of a call that reads one node: a refusal is the rule that it breaks
abbrev pub read_cause : ReadFault → Cause ℕ
read_cause (reading.Rule rule) = refused rule
read_cause reading.Failed = failed
read_cause reading.Memory = no_memory

-- of a call that reads nodes alone: a refusal is the node that breaks a rule
abbrev pub way_cause : PlanFault → Cause Broken
way_cause (Node vcn rule) = refused (record { vcn = vcn; rule = rule })
way_cause Absent = never
way_cause (Deep height) = never
way_cause Failed = failed
way_cause Memory = no_memory

-- what is said of a node v below the node above that was not read
abbrev pub told : ℕ → ℕ → ReadFault → PlanFault
told above v (reading.Rule rule) = Node (if nat_eq rule 7 then above else v) rule
told above v reading.Failed = Failed
told above v reading.Memory = Memory

-- what a plan along a way answers: it is made, or needs a level too many, only where no node on the way breaks a rule; and the
-- node that it names is the first one that does
abbrev pub AlongWay : {T A : Type 0} → Result T PlanFault → Result A Broken → Type 0
AlongWay {A = A} (Ok x) way = (spots : A) × (way ≡ Ok spots)
AlongWay (Err (Node vcn rule)) way = way ≡ Err (record { vcn = vcn; rule = rule })
AlongWay (Err Absent) way = ⊥
AlongWay {A = A} (Err (Deep height)) way = (spots : A) × (way ≡ Ok spots)
AlongWay (Err Failed) way = Unit {0}
AlongWay (Err Memory) way = Unit {0}

-- the same of a plan after a search, which says that the key is absent exactly where the search finds none
abbrev pub AfterSearch : {T A : Type 0} → Result T PlanFault → Result (Option A) Broken → Type 0
AfterSearch {A = A} (Ok x) found = (p : A) × (found ≡ Ok (Some p))
AfterSearch (Err (Node vcn rule)) found = found ≡ Err (record { vcn = vcn; rule = rule })
AfterSearch (Err Absent) found = found ≡ Ok None
AfterSearch {A = A} (Err (Deep height)) found = (p : A) × (found ≡ Ok (Some p))
AfterSearch (Err Failed) found = Unit {0}
AfterSearch (Err Memory) found = Unit {0}

abbrev pub OnAbsent : PlanFault → Type 0 → Type 0
OnAbsent Absent P = P
OnAbsent (Node vcn rule) P = Unit {0}
OnAbsent (Deep height) P = Unit {0}
OnAbsent Failed P = Unit {0}
OnAbsent Memory P = Unit {0}

abbrev pub OnDeep : PlanFault → (ℕ → Type 0) → Type 0
OnDeep (Deep height) P = P height
OnDeep (Node vcn rule) P = Unit {0}
OnDeep Absent P = Unit {0}
OnDeep Failed P = Unit {0}
OnDeep Memory P = Unit {0}

-- of a call that reads no node: there is one level too many, or no memory
abbrev pub OnlyDeep : PlanFault → (ℕ → Type 0) → Type 0
OnlyDeep (Deep height) P = P height
OnlyDeep (Node vcn rule) P = ⊥
OnlyDeep Absent P = ⊥
OnlyDeep Failed P = ⊥
OnlyDeep Memory P = Unit {0}

-- of a call that reads nodes alone
abbrev pub OnlyReading : PlanFault → Type 0
OnlyReading (Node vcn rule) = Unit {0}
OnlyReading Absent = ⊥
OnlyReading (Deep height) = ⊥
OnlyReading Failed = Unit {0}
OnlyReading Memory = Unit {0}

-- of each call of a plan: a refusal is any other error than a failure of the nodes or want of memory
abbrev pub plan_cause : PlanFault → Cause PlanFault
plan_cause (Node vcn rule) = refused (Node vcn rule)
plan_cause Absent = refused Absent
plan_cause (Deep height) = refused (Deep height)
plan_cause Failed = failed
plan_cause Memory = no_memory

-- a count of faults rose where a node could not be read, and is as it was in each other answer
pub record ReadFails {T : Type 0} (before now : ℕ) (result : Result T ReadFault) : Type 0 where
  pub later : before ≤ now
  pub counted : Counts read_cause before now result

pub record Fails {T : Type 0} (before now : ℕ) (result : Result T PlanFault) : Type 0 where
  pub later : before ≤ now
  pub counted : Counts plan_cause before now result
