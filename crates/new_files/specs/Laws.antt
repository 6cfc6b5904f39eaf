-- What the record of a new file stands for.
use Rattle.std.specs.Prelude.{◌≡◌, ℕ, ◌<◌, ◌^◌, true, false, List, [], ◌∷◌, Option, Some}
use Rattle.std.specs.List.{list_all}
use Rattle.host_base.specs.declared.file_ref.FileRef.{FileRef}
use Rattle.utf16_name.specs.Lawful.{IsName}
use Rattle.record_model.specs.Constants.{attribute_list}
use Rattle.record_model.specs.Records.{Record, record_spelling, used_of, FitsRecord}
use Rattle.state_model.specs.declared.stream.Stream.{Stream}
use Rattle.state_model.specs.declared.stream.Stream.TheVariants.{Held}
use Rattle.state_model.specs.Files.{record_links, is_base_record, is_directory_record, has_type, info_of}
use Rattle.state_model.specs.Loads.{Used, slot_of}
use Rattle.state_model.specs.Rules.{keeps_names}
use Rattle.state_model.specs.Trees.{is_system}
use Rattle.volume_model.specs.Volumes.{Volume, files_by_number, count_of}
use Rattle.volume_model.specs.Nodes.{node_by}
use Rattle.volume_model.specs.Owners.{file_runs}
use Rattle.volume_model.specs.Sizes.{keeps_stream}
use Rattle.tree_model.specs.Effects.{new_file}
use Rattle.plan_edits.specs.draft_records.Records.{written_record}
use Rattle.step_model.specs.Spreads.{IsKeyOf}
use Rattle.step_model.specs.Plans.{new_file_attrs}
use Rattle.new_files.specs.NewFiles.{new_info, new_record, new_key, link_in}

-- what the record is made of has room in its fields
pub record HasFields (lsn : ℕ) (file parent : FileRef) (name : List ℕ) (stamp : ℕ) : Type 0 where
  pub lsn_small : lsn < 2 ^ 64
  pub number : file.number < 2 ^ 32
  pub seq : file.seq < 2 ^ 16
  pub directory : parent.number < 2 ^ 48
  pub directory_seq : parent.seq < 2 ^ 16
  pub is_name : IsName name
  pub stamp_small : stamp < 2 ^ 64

-- The record has a spelling, is written as it is, and read so.
pub record IsSpelled (f : Record) : Type 0 where
  pub fits : FitsRecord f
  pub written : written_record f ≡ f
  pub slot : slot_of (record { bytes = record_spelling f; torn = false }) ≡ Used f

-- It is the record of this number of a file with this link alone, and without clusters, that keeps the rules of names and sizes by itself.
pub record IsFile (f : Record) (file parent : FileRef) (name : List ℕ) : Type 0 where
  pub base : is_base_record f ≡ true
  pub no_list : has_type attribute_list f ≡ false
  pub no_directory : is_directory_record f ≡ false
  pub links : record_links file.number f ≡ link_in parent name file ∷ []
  pub names : keeps_names file.number f (link_in parent name file ∷ []) ≡ true
  pub no_clusters : file_runs (Some f) ≡ []
  pub sizes : (per clusters : ℕ) → list_all (keeps_stream per clusters f.attrs) f.attrs ≡ true

-- Its node is that of a new file, where no directory of the volume itself, but the root, stands above it.
abbrev pub IsNode : Record → FileRef → ℕ → Type 0
IsNode f file stamp =
    (bytes : Option Stream → List ℕ) (v : Volume) → is_system (files_by_number v) (count_of v) file.number (record_links file.number f) ≡ false → bytes (Some (Held [])) ≡ [] → node_by bytes v file.number f ≡ new_file file stamp

-- The record of a new file is spelled, a file by itself, and stands for the node, the link and the key; its used bytes are those of a plan.
pub record ReadsNewFile (lsn : ℕ) (file parent : FileRef) (name : List ℕ) (stamp : ℕ) : Type 0 where
  pub spelled : IsSpelled (new_record lsn file parent name stamp)
  pub is_file : IsFile (new_record lsn file parent name stamp) file parent name
  pub info : info_of (new_record lsn file parent name stamp) ≡ new_info stamp
  pub node : IsNode (new_record lsn file parent name stamp) file stamp
  pub used : used_of (new_record lsn file parent name stamp).attrs ≡ used_of (new_file_attrs name)
  pub key : IsKeyOf (link_in parent name file) (new_key file parent name stamp)

abbrev pub NewFileReads : Type 0
NewFileReads = (lsn : ℕ) (file parent : FileRef) (name : List ℕ) (stamp : ℕ) → HasFields lsn file parent name stamp → ReadsNewFile lsn file parent name stamp
