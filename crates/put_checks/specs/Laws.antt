-- What is tried of changes is what a store asks of them.
use Rattle.std.specs.Prelude.{◌≡◌, ◌^◌, ◌≤◌, true, false, All, List}
use Rattle.std.specs.List.{AllByRecursion, list_any}
use Rattle.disk_model.specs.declared.block.Change.{Change}
use Rattle.log_reading.specs.Rings.{IsRingPlace}
use Rattle.plan_draft.specs.Touching.{rises}
use Rattle.plan_draft.specs.Finishing.{change_keys}
use Rattle.state_store.specs.txn_model.Values.{StoreFacts}
use Rattle.state_store.specs.Changes.{MayLog, AreApart}
use Rattle.put_checks.specs.Checks.{meets_run, may_put}

-- Changes that pass are such as a store asks for, which may log each, and of which no two are of one block or of rivals.
abbrev pub ChecksAreEnough : Type 0
ChecksAreEnough = (f : StoreFacts) (xs : List Change) → IsRingPlace f.place → f.place.device ≤ 2 ^ 62 → may_put f.place f.found xs ≡ true → All (MayLog f) xs × AreApart xs

-- And such changes pass, where they stand in the order of their blocks, of which none shares a sector with a run of the log.
abbrev pub ChecksAreMet : Type 0
ChecksAreMet = (f : StoreFacts) (xs : List Change) → f.place.device ≤ 2 ^ 62 → All (MayLog f) xs → AreApart xs → rises 0 (change_keys xs) ≡ true → AllByRecursion (λ x. list_any (meets_run x.block) f.place.runs ≡ false) xs → may_put f.place f.found xs ≡ true
