-- What a list of changes makes of what a store keeps, in one transaction.
use Rattle.std.specs.Prelude.{◌≡◌, ◌⊎◌, ℕ, true, List, [], ◌∷◌, Option, None, Result, Ok, Err, IfSome}
use Rattle.std.specs.List.{AllByRecursion}
use Rattle.disk_model.specs.declared.block.Block.{Block}
use Rattle.disk_model.specs.declared.block.Body.{Body}
use Rattle.disk_model.specs.declared.block.Change.{Change}
use Rattle.disk_model.specs.Sectors.{are_rivals}
use Rattle.fixup_record.specs.Spellings.{has_spelling}
use Rattle.block_view.specs.Changes.{content_after}
use Rattle.turn_laws.specs.txn_model.Values.{StoreFacts}
use Rattle.turn_laws.specs.txn_model.Calls.{begun_facts, changed_facts, committed_facts, given_up_facts}
use Rattle.turn_laws.specs.txn_log.Laws.{HasRoom}
use Rattle.turn_laws.specs.txn_core.Changes.{IsPresent}
use Rattle.turn_laws.specs.txn_core.Views.{present_on}
use Rattle.state_store.specs.Changes.{MayLog, AreApart}
use Rattle.state_store.specs.Rooms.{pages_of_changes}

-- after all of the changes each of their blocks has a body with a spelling
abbrev pub AreSpelled : StoreFacts → List Change → List (List ℕ) → Type 0
AreSpelled f changes disk = AllByRecursion (λ x. has_spelling x.block.kind (content_after changes (present_on disk f) x.block).bytes ≡ true) changes

-- The open transaction may make these changes, one after the other.
pub record MayLogAll (gives : Option (List (List ℕ))) (f : StoreFacts) (changes : List Change) : Type 0 where
  pub opened : f.is_open ≡ true
  pub each : AllByRecursion (MayLog f) changes
  pub apart : AreApart changes
  pub alone : AllByRecursion (λ x. (b : Block) → are_rivals x.block b ≡ true → f.before b ≡ None) changes
  pub spelled : IfSome gives (AreSpelled f changes)
  pub room : HasRoom f.log f.tx f.last (pages_of_changes f changes)

-- all of them were made
abbrev pub ChangedBy : Option (List (List ℕ)) → List Change → (f g : StoreFacts) → Type 0
ChangedBy gives [] f g = g ≡ f
ChangedBy gives (x ∷ xs) f g = (p : Body) × IsPresent gives f x.block p × ChangedBy gives xs (changed_facts x.block x.offset x.new p f) g

-- some of them were made, and then the transaction was given up
abbrev pub StoppedBy : Option (List (List ℕ)) → List Change → (f g : StoreFacts) → Type 0
StoppedBy gives [] f g = g ≡ given_up_facts f
StoppedBy gives (x ∷ xs) f g = (g ≡ given_up_facts f) ⊎ ((p : Body) × IsPresent gives f x.block p × StoppedBy gives xs (changed_facts x.block x.offset x.new p f) g)

-- all of them were made, or the transaction was given up
abbrev pub HasLogged : {E : Type 0} → Result (Unit {0}) E → Option (List (List ℕ)) → List Change → (f g : StoreFacts) → Type 0
HasLogged (Ok u) gives changes f g = ChangedBy gives changes f g
HasLogged (Err e) gives changes f g = StoppedBy gives changes f g

-- the same of a transaction that is begun for them, and committed behind them
abbrev pub HasCommitted : {E : Type 0} → Result (Unit {0}) E → Option (List (List ℕ)) → List Change → (f g : StoreFacts) → Type 0
HasCommitted (Ok u) gives changes f g = (h : StoreFacts) × ChangedBy gives changes (begun_facts f) h × (g ≡ committed_facts h)
HasCommitted (Err e) gives changes f g = StoppedBy gives changes (begun_facts f) g
