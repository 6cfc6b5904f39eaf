-- What each stage of a load has for the first so many records.
use Rattle.std.specs.Prelude.{◌≡◌, ℕ, List, [], ◌∷◌, ◌++◌, map, Option, None, Result, Ok, Err}
use Rattle.volume_model.specs.host_base.Answers.{ExplainsOrFails}
use Rattle.std.specs.List.{range_with_len}
use Rattle.state_model.specs.Loads.{Slot, broken_rule, torn_refusal, first_of, records_of, used_record, unless}
use Rattle.volume_map.specs.declared.fault.MapFault.{MapFault}
use Rattle.volume_map.specs.declared.walk.Walk.{Walk}
use Rattle.volume_map.specs.Errors.{map_cause}

-- the rule of 1 to 8 that each of the first so many records breaks, if it does
unfoldable pub rules_of : (ℕ → Slot) → ℕ → List (Option ℕ)
rules_of slot count = map (λ n. broken_rule (slot n)) (range_with_len 0 count)

-- the first so many records were read, and none of them is torn
pub record WalkedBelow (slot : ℕ → Slot) (count : ℕ) (walk : Walk) : Type 0 where
  pub whole : first_of (λ n. torn_refusal n (slot n)) count ≡ None
  pub records : walk.records.items ≡ records_of slot count
  pub rules : walk.rules.items ≡ rules_of slot count

-- one record more was noted
pub record Notes (slot : Slot) (old new : Walk) : Type 0 where
  pub records : new.records.items ≡ old.records.items ++ used_record slot ∷ []
  pub rules : new.rules.items ≡ old.rules.items ++ broken_rule slot ∷ []

-- the first so many were read, or one of them is torn, or the view failed
abbrev pub WalksOrFails : (ℕ → Slot) → ℕ → Result (Unit {0}) MapFault → Walk → Type 0
WalksOrFails slot count (Ok x) walk = WalkedBelow slot count walk
WalksOrFails slot count (Err e) walk = ExplainsOrFails (map_cause e) (unless (first_of (λ n. torn_refusal n (slot n)) count))

abbrev pub WalksAll : (ℕ → Slot) → ℕ → Result Walk MapFault → Type 0
WalksAll slot count (Ok walk) = WalkedBelow slot count walk
WalksAll slot count (Err e) = ExplainsOrFails (map_cause e) (unless (first_of (λ n. torn_refusal n (slot n)) count))
