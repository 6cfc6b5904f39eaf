-- Records in which values are written anew.
use Rattle.std.specs.Prelude.{◌≡◌, ◌⊎◌, ◌==◌, ℕ, Bool, true, false, List, [], ◌∷◌, Some, ⊤}
use Rattle.std.specs.List.{list_all}
use Rattle.index_change.specs.record_model.declared.attribute.OwnForm.{OwnForm}
use Rattle.index_change.specs.record_model.declared.attribute.OwnForm.TheVariants.{Resident, Mapped}
use Rattle.index_change.specs.record_model.declared.attribute.Attr.{Attr}
use Rattle.index_change.specs.record_model.Records.{Record}
use Rattle.index_change.specs.record_model.Constants.{file_name, standard_information}
use Rattle.index_change.specs.file_tree.declared.link.Link.{Link}
use Rattle.index_change.specs.state_model.Files.{record_links, is_directory_record, has_type, info_of}
use Rattle.index_change.specs.state_model.Indexes.{is_names_root}
use Rattle.index_change.specs.state_model.Rules.{keeps_names}
use Rattle.index_change.specs.state_model.Streams.{is_attribute_of, attributes_of, stream_of}
use Rattle.index_change.specs.volume_model.Indexes.{root_value}
use Rattle.index_change.specs.volume_model.Owners.{file_runs}
use Rattle.index_change.specs.volume_model.Sizes.{keeps_stream}
use Rattle.plan_owners.specs.stream_laws.Sharing.{runs_in}

-- the value stands in the record
abbrev pub IsValue : OwnForm → Type 0
IsValue (Resident value indexed) = ⊤
IsValue (Mapped sizes pairs) = ⊥

-- a value of one type and name in a record, written anew
pub record IsRewritten (a b : Attr) : Type 0 where
  pub kind : b.head.kind ≡ a.head.kind
  pub name : b.name ≡ a.name
  pub old : IsValue a.form
  pub new : IsValue b.form

-- each attribute stays, or passes the test and is a value that is written anew
abbrev pub AreRewritten : (Attr → Bool) → List Attr → List Attr → Type 0
AreRewritten may [] [] = ⊤
AreRewritten may [] (b ∷ others) = ⊥
AreRewritten may (a ∷ attrs) [] = ⊥
AreRewritten may (a ∷ attrs) (b ∷ others) = ((b ≡ a) ⊎ ((may a ≡ true) × IsRewritten a b)) × AreRewritten may attrs others

-- the record keeps its sequence, its flags and its base, and these of its values are written anew
pub record RewritesValues (may : Attr → Bool) (r s : Record) : Type 0 where
  pub seq : s.head.seq ≡ r.head.seq
  pub flags : s.head.flags ≡ r.head.flags
  pub base : s.head.base ≡ r.head.base
  pub attrs : AreRewritten may r.attrs s.attrs

-- no attribute that passes the second test passes the first
abbrev pub SparesAll : (Attr → Bool) → (Attr → Bool) → Type 0
SparesAll may test = (a : Attr) → test a ≡ true → may a ≡ false

-- Then the runs of its streams and of all its attributes stay, its types, and whether its streams keep their rule. A stream, the
-- names, the standard information and the root of the index stay where none of their attributes is written anew.
pub record ValuesRewritten : Type 0 where
  pub itself : (may : Attr → Bool) (r : Record) → RewritesValues may r r
  pub runs : (may : Attr → Bool) (r s : Record) (kind : ℕ) (name : List ℕ) → RewritesValues may r s → runs_in (stream_of kind name s.attrs) ≡ runs_in (stream_of kind name r.attrs)
  pub uses : (may : Attr → Bool) (r s : Record) → RewritesValues may r s → file_runs (Some s) ≡ file_runs (Some r)
  pub types : (may : Attr → Bool) (r s : Record) (kind : ℕ) → RewritesValues may r s → has_type kind s ≡ has_type kind r
  pub directory : (may : Attr → Bool) (r s : Record) → RewritesValues may r s → is_directory_record s ≡ is_directory_record r
  pub sizes : (may : Attr → Bool) (r s : Record) (per clusters : ℕ) → RewritesValues may r s → list_all (keeps_stream per clusters s.attrs) s.attrs ≡ list_all (keeps_stream per clusters r.attrs) r.attrs
  pub attributes : (may : Attr → Bool) (r s : Record) (kind : ℕ) (name : List ℕ) → RewritesValues may r s → SparesAll may (is_attribute_of kind name) → attributes_of kind name s.attrs ≡ attributes_of kind name r.attrs
  pub stream : (may : Attr → Bool) (r s : Record) (kind : ℕ) (name : List ℕ) → RewritesValues may r s → SparesAll may (is_attribute_of kind name) → stream_of kind name s.attrs ≡ stream_of kind name r.attrs
  pub links : (may : Attr → Bool) (n : ℕ) (r s : Record) → RewritesValues may r s → SparesAll may (λ a. a.head.kind == file_name) → record_links n s ≡ record_links n r
  pub names : (may : Attr → Bool) (n : ℕ) (r s : Record) (links : List Link) → RewritesValues may r s → keeps_names n s links ≡ keeps_names n r links
  pub info : (may : Attr → Bool) (r s : Record) → RewritesValues may r s → SparesAll may (λ a. a.head.kind == standard_information) → info_of s ≡ info_of r
  pub root : (may : Attr → Bool) (r s : Record) → RewritesValues may r s → SparesAll may is_names_root → root_value s ≡ root_value r
