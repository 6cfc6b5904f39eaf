-- A store begins on a device.
use Rattle.std.proofs.Common.{◌≡◌, subst, Bool, true, false, Some, sym, ap, ◌∙◌}
use Rattle.std.specs.Prelude.{is_some}
use Rattle.device_blocks.specs.disk_model.declared.block.Block.{Block}
use Rattle.device_blocks.specs.disk_model.Content.{content_of}
use Rattle.txn_laws.specs.sector_device.Disks.{Disk, seen}
use Rattle.txn_laws.specs.sector_device.Moments.{Changes}
use Rattle.txn_laws.specs.txn_model.Values.{StoreFacts}
use Rattle.txn_laws.specs.txn_model.Calls.{first_facts}
use Rattle.txn_state.specs.States.{StateOf, facts_of}
use Rattle.txn_laws.specs.Windows.{HasMachine, HasStart}
use Rattle.txn_laws.proofs.Telling.{machine_of}
use Rattle.txn_core.specs.Openings.{StartsThen}

-- its window's present content is what is seen of the disk
pub has_start : {D : Type 0} (changes : D → Changes) (device : D) (state : StateOf) → facts_of state ≡ first_facts state.place state.log state.found → StartsThen changes state.place state.log device
    → (disk : Disk) → (changes device).disk ≡ Some disk → HasStart (changes device) (facts_of state) (content_of (seen disk))
has_start changes device state first starts disk is =
    let there = starts state.found disk is in
    let same : there.disk ≡ disk = some_inj there.disk disk (sym there.known ∙ is) in
    subst (λ (f : StoreFacts). HasStart (changes device) f (content_of (seen disk))) (sym first)
    (subst (λ (d : Disk). HasStart (changes device) (first_facts state.place state.log state.found) (content_of (seen d))) same there.start)
  where
    some_inj : (a b : Disk) → Some a ≡ Some b → a ≡ b
    some_inj a b e = cc

pub has_machine : {D : Type 0} (changes : D → Changes) (device : D) (state : StateOf) → facts_of state ≡ first_facts state.place state.log state.found → StartsThen changes state.place state.log device → HasMachine (changes device) (facts_of state)
has_machine changes device state first starts disk is =
    let start = has_start changes device state first starts disk is in
    machine_of (changes device) (facts_of state) start.window start.has disk is

pub no_body : (state : StateOf) (b : Block) (v : Bool) → facts_of state ≡ first_facts state.place state.log state.found → is_some ((facts_of state).body b) ≡ true → v ≡ true
no_body state b v first is = let none : is_some ((facts_of state).body b) ≡ false = ap (λ (f : StoreFacts). is_some (f.body b)) first in absurd cc
