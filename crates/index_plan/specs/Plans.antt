-- What the code keeps while it plans.
use Rattle.std.specs.Prelude.{ℕ, List}
use Rattle.record_model.specs.declared.entry.Entry.{Entry as Raw}
use Rattle.index_plan.specs.declared.write.Write.{Write}

-- a node on the way, and the place in it that the way goes through
pub record Spot : Type 0 where
  pub vcn : ℕ
  pub node : List Raw
  pub at : ℕ

-- the nodes that are written, the last one first, and the fresh numbers that are left
pub record Plan : Type 0 where
  pub writes : List Write
  pub fresh : List ℕ

-- the nodes on the way to a key, and the chain of nodes that lead to the last keys below it
pub record Trail : Type 0 where
  pub path : List Spot
  pub chain : List Write
