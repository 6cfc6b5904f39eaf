-- Where an error of a plan comes from.
use Rattle.std.specs.Prelude.{◌≡◌, ℕ, ◌≤◌, ⊤, Result, Ok, Err, IfErr, OnOk}
use Rattle.index_tree.specs.host_base.Causes.{CountsCause}
use Rattle.index_tree.specs.declared.fault.TreeFault.{TreeFault}
use Rattle.index_tree.specs.declared.fault.TreeFault.TheVariants.{Node, Present, Absent, Deep, View}
use Rattle.index_tree.specs.Faults.{view_cause}
use Rattle.index_tree.specs.index_model.Walks.{Broken}

-- the error is of a view, or want of memory
abbrev pub IsOfView : TreeFault → Type 0
IsOfView (Node vcn rule) = ⊥
IsOfView Present = ⊥
IsOfView Absent = ⊥
IsOfView (Deep height) = ⊥
IsOfView (View cause) = ⊤

-- What a plan says of the search before it: where that names a node, the plan names this one, unless the view failed or memory was
-- wanting; so a plan, and an answer of the index, come only where it names none.
abbrev pub AfterFind : {T A : Type 0} → Result T TreeFault → Result A Broken → Type 0
AfterFind {A = A} (Ok x) found = (a : A) × (found ≡ Ok a)
AfterFind (Err (Node vcn rule)) found = IfErr found (λ broken. broken ≡ record { vcn = vcn; rule = rule })
AfterFind {A = A} (Err Present) found = (a : A) × (found ≡ Ok a)
AfterFind {A = A} (Err Absent) found = (a : A) × (found ≡ Ok a)
AfterFind {A = A} (Err (Deep height)) found = (a : A) × (found ≡ Ok a)
AfterFind (Err (View cause)) found = ⊤

-- that there are too many levels is said only of an index whose walk meets no broken node
abbrev pub DeepAfterWalk : {T A : Type 0} → Result T TreeFault → Result A Broken → Type 0
DeepAfterWalk (Ok x) walked = ⊤
DeepAfterWalk (Err (Node vcn rule)) walked = ⊤
DeepAfterWalk (Err Present) walked = ⊤
DeepAfterWalk (Err Absent) walked = ⊤
DeepAfterWalk {A = A} (Err (Deep height)) walked = (a : A) × (walked ≡ Ok a)
DeepAfterWalk (Err (View cause)) walked = ⊤

-- the view's faults at an error of a plan: they rose where it failed, and else are as they were
abbrev pub PlanCounts : ℕ → ℕ → TreeFault → Type 0
PlanCounts before now (Node vcn rule) = now ≡ before
PlanCounts before now Present = now ≡ before
PlanCounts before now Absent = now ≡ before
PlanCounts before now (Deep height) = now ≡ before
PlanCounts before now (View cause) = CountsCause before now (view_cause cause)

-- the view's faults rose where a plan failed by them, and are as they were in each other answer
pub record Planned {T : Type 0} (before now : ℕ) (result : Result T TreeFault) : Type 0 where
  pub later : before ≤ now
  pub unfailed : OnOk result (now ≡ before)
  pub counted : IfErr result (PlanCounts before now)
