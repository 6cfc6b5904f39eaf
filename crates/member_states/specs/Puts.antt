-- What a list of changes leaves of the states in a store's window.
use Rattle.std.specs.Prelude.{◌≡◌, ℕ, ◌^◌, ◌≤◌, List, Result}
use Rattle.std.specs.List.{AllByRecursion}
use Rattle.disk_model.specs.declared.block.Block.{Block}
use Rattle.disk_model.specs.declared.block.Change.{Change}
use Rattle.disk_model.specs.Content.{Content}
use Rattle.state_store.specs.state_model.declared.geometry.Geometry.{Geometry}
use Rattle.state_store.specs.volume_model.Volumes.{Volume}
use Rattle.state_store.specs.plan_owners.States.{Stands}
use Rattle.state_store.specs.state_blocks.Drafts.{DraftIn}
use Rattle.state_store.specs.store_claims.Windows.{StoreWindow}
use Rattle.state_store.specs.txn_model.Values.{StoreFacts}
use Rattle.state_store.specs.declared.fault.PutFault.{PutFault}
use Rattle.state_store.specs.Changes.{MayLog, AreApart}
use Rattle.state_store.specs.Windows.{changed_by, AfterPut, StaysWindow, AfterPutting}
use Rattle.member_states.specs.Members.{base_of, MembersAre}

-- The changes may be put into a store with this window as one transaction: each lies on the device, no two are of one block or of rivals, and they lead from the present content, which
-- is the newest of those that a crash may bring back, to a state as those of a plan do.
pub record MayPut (f : StoreFacts) (g : Geometry) (clusters : ℕ) (changes : List Change) (w : StoreWindow) : Type 0 where
  pub near : f.place.device ≤ 2 ^ 62
  pub each : AllByRecursion (MayLog f) changes
  pub apart : AreApart changes
  pub newest : (b : Block) → w.before 0 b ≡ w.present b
  pub volume : Volume
  pub stands : Stands w.present g clusters volume
  pub next : Volume
  pub leads : Stands (changed_by changes w.present) g clusters next
  pub draft : DraftIn w.present volume changes (changed_by changes w.present) next

-- Such changes leave states in the window, whether they were put, or none was, or some were and were given up: the states of before stay, each one more commit back, and the content
-- with the changes is the newest one.
pub record PutsKeepStates : Type 0 where
  pub put : (f : StoreFacts) (lies : Content) (g : Geometry) (clusters : ℕ) (changes : List Change) (w u : StoreWindow) → MayPut f g clusters changes w → AfterPut changes w u → MembersAre (base_of f lies g clusters) w → MembersAre (base_of f lies g clusters) u
  pub left : (f : StoreFacts) (lies : Content) (g : Geometry) (clusters : ℕ) (changes : List Change) (w u : StoreWindow) → MayPut f g clusters changes w → StaysWindow changes w u → MembersAre (base_of f lies g clusters) w → MembersAre (base_of f lies g clusters) u
  pub putting : (result : Result (Unit {0}) PutFault) (f : StoreFacts) (lies : Content) (g : Geometry) (clusters : ℕ) (changes : List Change) (w u : StoreWindow) → MayPut f g clusters changes w → AfterPutting result changes w u → MembersAre (base_of f lies g clusters) w
      → MembersAre (base_of f lies g clusters) u
