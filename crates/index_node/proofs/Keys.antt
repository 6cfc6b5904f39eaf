-- Keys of entries, and where they lie.
use Rattle.std.proofs.Common.{◌≡◌, ℕ, ◌+◌, ◌*◌, ◌≤◌, true, false, List, length, Result, Ok, Err, sym, ap, ◌∙◌, arith}
use Rattle.std.specs.Prelude.{is_ok}
use Rattle.disk_model.specs.Numbers.{field}
use Rattle.record_model.specs.declared.values.FileNameValue.{FileNameValue}
use Rattle.record_model.specs.declared.values.ValueFault.{ValueFault}
use Rattle.record_model.specs.declared.values.ValueFault.TheVariants.{Length, Shape}
use Rattle.record_model.specs.Values.{is_file_name}
use Rattle.record_model.specs.StdValues.{file_name_of}
use Rattle.record_model.specs.Nodes.{child_flag, is_last, has_entry_length, has_key}
use Rattle.record_model.proofs.FileNames.{file_name_lawful}
use Rattle.record_model.proofs.NodePieces.{front_length, front_key}

-- whether a value is read says whether it is a file name
pub is_read : (value : List ℕ) (f : FileNameValue) → file_name_of value ≡ Ok f → is_file_name value ≡ true
is_read value f e = sym (file_name_lawful value) ∙ ap (λ (r : Result FileNameValue ValueFault). is_ok r) e

pub wrong_length : (value : List ℕ) (len : ℕ) → file_name_of value ≡ Err (Length len) → is_file_name value ≡ false
wrong_length value len e = sym (file_name_lawful value) ∙ ap (λ (r : Result FileNameValue ValueFault). is_ok r) e

pub wrong_shape : (value : List ℕ) → file_name_of value ≡ Err Shape → is_file_name value ≡ false
wrong_shape value e = sym (file_name_lawful value) ∙ ap (λ (r : Result FileNameValue ValueFault). is_ok r) e

pub ruleset lawful = (is_read, wrong_length, wrong_shape)

-- an entry with a lawful length lies inside the bytes
pub entry_inside : (bytes : List ℕ) → has_entry_length bytes ≡ true → field 0x08 2 bytes ≤ length bytes
entry_inside bytes h = (front_length bytes h).inside

-- a lawful key lies inside its entry
pub key_inside : (e : List ℕ) → is_last e ≡ false → has_key e ≡ true → 0x10 + field 0x0A 2 e + 8 * child_flag e ≤ field 0x08 2 e
key_inside e last h = (front_key e last h).inside

pub own_key_inside : (e : List ℕ) → is_last e ≡ false → has_key e ≡ true → field 0x08 2 e ≡ length e → field 0x0A 2 e + 0x10 ≤ length e
own_key_inside e last h own = omega (arith, key_inside e last h, own)

pub ruleset bounds = (entry_inside, key_inside, own_key_inside)
