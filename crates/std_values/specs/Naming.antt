-- The name in a file-name value.
use Rattle.std.specs.Prelude.{List, ℕ, Result, Ok, Err}
use Rattle.record_model.specs.utf16_name.declared.name.NameFault.{NameFault}
use Rattle.record_model.specs.utf16_name.Names.{name_of}
use Rattle.record_model.specs.declared.values.ValueFault.{ValueFault}
use Rattle.record_model.specs.declared.values.ValueFault.TheVariants.{Shape}

abbrev pub shaped : Result (List ℕ) NameFault → Result (List ℕ) ValueFault
shaped (Ok name) = Ok name
shaped (Err fault) = Err Shape

-- the name of these units; whatever refuses them, the value is out of shape
abbrev pub lawful_name : List ℕ → Result (List ℕ) ValueFault
lawful_name units = shaped (name_of units)
