-- The key of a new file is a lawful one.
use Rattle.std.proofs.Common.{◌≡◌, ℕ, true, List, Result, Ok, Err, IfOk, ap, ◌∙◌}
use Rattle.host_base.specs.declared.file_ref.FileRef.{FileRef}
use Rattle.record_model.specs.Values.{is_file_name}
use Rattle.index_model.specs.declared.key.Key.{Key}
use Rattle.new_files.specs.NewFiles.{new_key}
use Rattle.new_files.specs.Laws.{HasFields, NewFileReads}

pub key_lawful : {E : Type 0} (reads : NewFileReads) (file parent : FileRef) (name : List ℕ) (stamp : ℕ) (result : Result Key E) → HasFields 0 file parent name stamp → IfOk result (λ (k : Key). k ≡ new_key file parent name stamp) → IfOk result (λ (k : Key). is_file_name k.value ≡ true)
key_lawful reads file parent name stamp (Ok k) has is = ap (λ (x : Key). is_file_name x.value) is ∙ (reads 0 file parent name stamp has).key.lawful
key_lawful reads file parent name stamp (Err e) has is = tt
