-- The streams that stay where one stream of a file comes to have other clusters or sizes, or where its times change.
use Rattle.std.proofs.Common.{◌≡◌, ◌≢◌, ◌⊎◌, ℕ, ◌*◌, true, List, [], ◌∷◌, Option, Some, sym, ap, ◌∙◌, inl, inr}
use Rattle.std.specs.Prelude.{All}
use Rattle.std.specs.List.{list_all}
use Rattle.std.proofs.lemmas.Bool.{cases_eq}
use Rattle.disk_model.specs.declared.block.BlockKind.TheVariants.{FileRec}
use Rattle.disk_model.specs.Content.{Content}
use Rattle.record_model.specs.declared.attribute.Attr.{Attr}
use Rattle.record_model.specs.Pairs.{HasSpelling}
use Rattle.record_model.specs.Records.{Record}
use Rattle.state_model.specs.declared.geometry.Geometry.{Geometry}
use Rattle.state_model.specs.declared.stream.Extents.{Extents}
use Rattle.state_model.specs.declared.stream.Stream.{Stream}
use Rattle.state_model.specs.Files.{has_type}
use Rattle.state_model.specs.Loads.{table_in, has_fitting_pairs}
use Rattle.state_model.specs.Streams.{attributes_of, stream_of, block_at}
use Rattle.written_values.specs.volume_model.Volumes.{Volume, file_in, file_stream}
use Rattle.written_values.specs.stream_laws.Replacing.{FileEdit, with_edits}
use Rattle.written_values.specs.stream_laws.Sharing.{StreamKey, stream_at, runs_in}
use Rattle.written_values.proofs.stream_laws.Editing.{other_file}
use Rattle.written_values.proofs.stream_laws.Sharing.{same_key}
use Rattle.written_values.proofs.tree_laws.Naming.{file_elsewhere}
use Rattle.written_values.specs.plan_owners.States.{Stands}
use Rattle.written_values.specs.plan_model.Attributes.{RewritesValues}
use Rattle.written_values.specs.plan_model.Informed.{is_info, with_record}
use Rattle.written_values.proofs.plan_model.OneRecord.{OwnRecord, own_record}
use Rattle.written_values.proofs.plan_model.Rewriting.{same_runs}
use Rattle.written_values.specs.record_streams.Placing.{placed_record}
use Rattle.state_streams.specs.plan_growth.Streams.{IsOwnStream, IsWritten, key_of}
use Rattle.state_streams.proofs.plan_growth.Placed.{same_or_other, some_attributes, placed_types, other_stream, placed_all}
use Rattle.state_streams.proofs.plan_growth.Resizing.{slot_open, used_pairs}
use Rattle.state_streams.proofs.plan_growth.Written.{Reads, all_read, placed_reads, written_types, written_stream}

-- the streams of other files
pub elsewhere : (v : Volume) (n : ℕ) (s : Record) (t : StreamKey) → t.file ≢ n → stream_at (with_record v n s) t ≡ stream_at v t
elsewhere v n s t other =
    let edits : List FileEdit = record { number = n; file = Some s } ∷ [] in
    ap (file_stream t.kind t.name) (file_elsewhere (table_in v.files) (table_in (with_edits edits v.files)) n t.file (λ m differ. other_file v.files edits m ((λ same. differ (sym same)), tt)) other)

-- ---- a stream in other extents

module _ (c : Content) (g : Geometry) (clusters : ℕ) (v : Volume) (n kind : ℕ) (name : List ℕ) (r s : Record) (old : Stream) (f : Extents) (state : Stands c g clusters v) (own : IsOwnStream v n kind name r old) (spelled : HasSpelling 0 f.runs) (written : IsWritten (placed_record v.per kind name f r) s)
    (now : file_in (with_record v n s) n ≡ Some s) where
  abbrev p : Record
  p = placed_record v.per kind name f r

  its : OwnRecord c v n r
  its = own_record c g clusters v n r state own.file own.no_list

  some : (a : Attr) × (others : List Attr) × (attributes_of kind name r.attrs ≡ a ∷ others)
  unfolding stream_of
  some = some_attributes (attributes_of kind name r.attrs) old own.stream

  fit : list_all has_fitting_pairs r.attrs ≡ true
  fit = used_pairs v.table.initialised (1024 * n) c (block_at v.per v.table.runs FileRec n) r (slot_open c v n r its.slot)

  reads : All Reads p.attrs
  reads = placed_all v.per kind name f r some.0 some.1 some.2 spelled Reads (placed_reads v.per f some.0 spelled) (all_read r.attrs fit)

  -- its record has the same types
  pub types_stay : (t : ℕ) → has_type t s ≡ has_type t r
  types_stay t = written_types p s written reads t ∙ placed_types v.per kind name f r some.0 some.1 some.2 spelled t

  others_stay : (other : ℕ) (alias : List ℕ) → (other ≢ kind) ⊎ (alias ≢ name) → stream_of other alias s.attrs ≡ stream_of other alias r.attrs
  others_stay other alias differ = written_stream p s written reads other alias ∙ other_stream v.per kind name f r some.0 some.1 some.2 spelled other alias differ

  -- each stream is the one that changes, or stays
  pub which_stays : (t : StreamKey) → (t ≡ key_of n kind name) ⊎ (stream_at (with_record v n s) t ≡ stream_at v t)
  which_stays t = elim (cases_eq t.file n) [
    | inl file ↦ elim (same_or_other kind t.kind name t.name) [
      | inl same ↦ inl (same_key t (key_of n kind name) file same.0 same.1)
      | inr differ ↦
          inr
          (ap (λ (m : ℕ). file_stream t.kind t.name (file_in (with_record v n s) m)) file
          ∙ ap (file_stream t.kind t.name) now
          ∙ others_stay t.kind t.name differ
          ∙ sym (ap (λ (m : ℕ). file_stream t.kind t.name (file_in v m)) file ∙ ap (file_stream t.kind t.name) own.file))
    ]
    | inr other ↦ inr (elsewhere v n s t other)
  ]

-- ---- a record with other times

pub times_stay : (v : Volume) (n : ℕ) (r p s : Record) → file_in v n ≡ Some r → file_in (with_record v n s) n ≡ Some s → RewritesValues is_info r p → ((kind : ℕ) (name : List ℕ) → stream_of kind name s.attrs ≡ stream_of kind name p.attrs)
    → (t : StreamKey) → runs_in (stream_at (with_record v n s) t) ≡ runs_in (stream_at v t)
times_stay v n r p s was now values streams t = elim (cases_eq t.file n) [
  | inl file ↦
      ap (λ (m : ℕ). runs_in (file_stream t.kind t.name (file_in (with_record v n s) m))) file
      ∙ ap (λ (o : Option Record). runs_in (file_stream t.kind t.name o)) now
      ∙ ap runs_in (streams t.kind t.name)
      ∙ same_runs is_info r p t.kind t.name values
      ∙ sym (ap (λ (m : ℕ). runs_in (file_stream t.kind t.name (file_in v m))) file ∙ ap (λ (o : Option Record). runs_in (file_stream t.kind t.name o)) was)
  | inr other ↦ ap runs_in (elsewhere v n s t other)
]
