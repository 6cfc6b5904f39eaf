-- Behind an edit the file is one of its own again.
use Rattle.std.proofs.Common.{◌≡◌, ◌≢◌, ℕ, ◌*◌, ◌≤◌, true, ◌&&◌, eqb, List, [], ◌∷◌, get_or, Some, None, sym, ap, subst, ◌∙◌, arith}
use Rattle.std.specs.Prelude.{All}
use Rattle.std.specs.List.{list_all}
use Rattle.std.proofs.lemmas.Bool.{both_ways, eq-eqb}
use Rattle.host_base.specs.declared.file_ref.FileRef.{FileRef}
use Rattle.disk_model.specs.Content.{Content}
use Rattle.disk_model.specs.declared.block.BlockKind.TheVariants.{FileRec}
use Rattle.plan_informed.specs.record_model.declared.attribute.Attr.{Attr}
use Rattle.plan_informed.specs.record_model.declared.record.RecHead.{RecHead}
use Rattle.plan_informed.specs.record_model.declared.runs.Run.{Run}
use Rattle.plan_informed.specs.record_model.Constants.{attribute_list, standard_information}
use Rattle.plan_informed.specs.record_model.Pairs.{cluster_limit, HasSpelling}
use Rattle.plan_informed.specs.record_model.Records.{Record}
use Rattle.plan_informed.specs.state_model.declared.geometry.Geometry.{Geometry}
use Rattle.plan_informed.specs.state_model.declared.stream.Extents.{Extents}
use Rattle.plan_informed.specs.state_model.declared.stream.Stream.{Stream}
use Rattle.plan_informed.specs.state_model.declared.stream.Stream.TheVariants.{Placed}
use Rattle.plan_informed.specs.state_model.Files.{file_at, is_base_record}
use Rattle.plan_informed.specs.state_model.Loads.{total_clusters, has_fitting_pairs}
use Rattle.plan_informed.specs.state_model.Streams.{attributes_of, stream_of, block_at}
use Rattle.plan_informed.specs.volume_model.Volumes.{Volume, file_in}
use Rattle.plan_informed.specs.stream_laws.Replacing.{FileEdit, with_edits}
use Rattle.plan_informed.proofs.stream_laws.Editing.{edited_files}
use Rattle.plan_informed.proofs.stream_laws.Tabling.{inside_list}
use Rattle.plan_informed.specs.stream_runs.Runs.{front, grown}
use Rattle.plan_informed.proofs.stream_runs.Merging.{follow-merged, follow-grown}
use Rattle.plan_informed.proofs.stream_runs.Parts.{follow-front}
use Rattle.plan_informed.specs.plan_owners.States.{Stands}
use Rattle.plan_informed.proofs.plan_owners.Standing.{some_file, as_file}
use Rattle.plan_informed.specs.plan_bodies.Bodies.{NewBody}
use Rattle.plan_informed.specs.plan_model.Informed.{with_record}
use Rattle.plan_informed.proofs.plan_model.OneRecord.{OwnRecord, own_record}
use Rattle.plan_informed.specs.record_streams.Placing.{placed_record}
use Rattle.plan_informed.specs.resized_streams.declared.resized.Resized.{Resized}
use Rattle.plan_informed.specs.resized_streams.Resizing.{clusters_for}
use Rattle.plan_informed.specs.plan_growth.Streams.{IsOwnStream, IsWritten}
use Rattle.plan_informed.proofs.plan_growth.Placed.{some_attributes, placed_head, placed_types, placed_info, placed_is_there, placed_all}
use Rattle.plan_informed.proofs.plan_growth.Resizing.{slot_open, used_pairs}
use Rattle.plan_informed.proofs.plan_growth.Written.{Reads, all_read, placed_reads, written_types, written_info, written_stream}
use Rattle.plan_informed.specs.plan_values.Values.{IsOwnFile, PutsWritten}
use Rattle.plan_informed.proofs.plan_values.Staying.{Stays}
use Rattle.plan_informed.proofs.plan_values.Valued.{value_stays}
use Rattle.plan_informed.proofs.plan_values.Made.{made_stays}
use Rattle.plan_changes.specs.Going.{GoesOnIn, StandsAs, FilesGoOn}

-- a record of a base that is put in the place of a file's is that of the file
file_now : (v : Volume) (n : ℕ) (r s : Record) → file_in v n ≡ Some r → is_base_record s ≡ true → file_in (with_record v n s) n ≡ Some s
unfolding file_at
file_now v n r s file base =
    let edits : List FileEdit = record { number = n; file = Some s } ∷ [] in
    as_file (get_or (with_edits edits v.files) n None) s (edited_files v.files edits (inside_list v.files n r (some_file v n r file), tt, tt)).0 base

module _ (c : Content) (g : Geometry) (clusters : ℕ) (v : Volume) (n kind : ℕ) (name : List ℕ) (r s : Record) (old : Stream) (f : Extents) (state : Stands c g clusters v) (own : IsOwnStream v n kind name r old) (spelled : HasSpelling 0 f.runs) (written : IsWritten (placed_record v.per kind name f r) s) where
  abbrev p : Record
  p = placed_record v.per kind name f r

  its : OwnRecord c v n r
  its = own_record c g clusters v n r state own.file own.no_list

  some : (a : Attr) × (others : List Attr) × (attributes_of kind name r.attrs ≡ a ∷ others)
  unfolding stream_of
  some = some_attributes (attributes_of kind name r.attrs) old own.stream

  fit : list_all has_fitting_pairs r.attrs ≡ true
  fit = used_pairs v.table.initialised (1024 * n) c (block_at v.per v.table.runs FileRec n) r (slot_open c v n r its.slot)

  reads : All Reads p.attrs
  reads = placed_all v.per kind name f r some.0 some.1 some.2 spelled Reads (placed_reads v.per f some.0 spelled) (all_read r.attrs fit)

  base : is_base_record s ≡ true
  base =
      ap (λ (x : FileRef). eqb x.number 0 && eqb x.seq 0) written.base
      ∙ ap (λ (h : RecHead). eqb h.base.number 0 && eqb h.base.seq 0) (placed_head v.per kind name f r some.0 some.1 some.2 spelled)
      ∙ its.base

  not_info : standard_information ≢ kind
  not_info same = both_ways (eqb kind standard_information) own.placeable.not_info (eq-eqb kind standard_information (sym same))

  own_again : GoesOnIn v n kind name r s (Placed f)
  own_again = record {
    own = record {
      file = file_now v n r s own.file base;
      apart = own.apart;
      no_list = written_types p s written reads attribute_list ∙ placed_types v.per kind name f r some.0 some.1 some.2 spelled attribute_list ∙ own.no_list;
      placeable = own.placeable;
      no_root = own.no_root;
      no_entries = own.no_entries;
      stream = written_stream p s written reads kind name ∙ placed_is_there v.per kind name f r some.0 some.1 some.2 spelled;
    };
    info = written_info p s written reads ∙ placed_info v.per kind name f r some.0 some.1 some.2 spelled not_info;
  }

-- the same by what a call has made of the stream
made_again : (c : Content) (g : Geometry) (clusters : ℕ) (v : Volume) (n kind : ℕ) (name : List ℕ) (r s : Record) (old : Stream) (f : Extents) (z : Resized) → Stands c g clusters v → IsOwnStream v n kind name r old → HasSpelling 0 f.runs → z.extents ≡ f → z.file ≡ placed_record v.per kind name f r → IsWritten z.file s
    → GoesOnIn v n kind name r s (Placed z.extents)
made_again c g clusters v n kind name r s old f z state own spelled extents file written =
    subst (λ (x : Extents). GoesOnIn v n kind name r s (Placed x)) (sym extents) (own_again c g clusters v n kind name r s old f state own spelled (subst (λ (x : Record). IsWritten x s) file written))

-- ---- a record with other values

module _ (c : Content) (g : Geometry) (clusters : ℕ) (v : Volume) (n : ℕ) (r p s : Record) (bodies : List NewBody) (state : Stands c g clusters v) (own : IsOwnFile v n r) (stays : Stays v n r p) (put : PutsWritten c v n p s bodies) where
  value_base : is_base_record s ≡ true
  value_base = ap (λ (x : FileRef). eqb x.number 0 && eqb x.seq 0) (put.written.base ∙ stays.base) ∙ (own_record c g clusters v n r state own.file own.no_list).base

  stands_as : StandsAs v n p s
  stands_as = record {
    own = record {
      file = file_now v n r s own.file value_base;
      apart = own.apart;
      no_list = written_types p s put.written stays.reads attribute_list ∙ stays.list ∙ own.no_list;
    };
    info = written_info p s put.written stays.reads;
    streams = written_stream p s put.written stays.reads;
  }

grown_from_none : (more : List Run) → HasSpelling 0 more → total_clusters more ≤ cluster_limit → HasSpelling 0 (grown [] more)
grown_from_none more spelled room = follow-grown [] more tt spelled (omega (arith, room))

pub files_going : FilesGoOn
files_going = record {
  grown = λ c g clusters v n kind name e r more z s bodies state k. made_again c g clusters v n kind name r s (Placed e) _ z state k.own (follow-grown e.runs more k.spelled k.taken.spelled k.room) k.grown.extents k.grown.file k.written;
  cut = λ c g clusters v n kind name e r size z s bodies state k. made_again c g clusters v n kind name r s (Placed e) _ z state k.own (follow-merged 0 0 (front (clusters_for v.per size) e.runs) (follow-front 0 0 (clusters_for v.per size) e.runs k.spelled)) k.cut.extents k.cut.file k.written;
  sized = λ c g clusters v n kind name e r real initialised z s bodies state k. made_again c g clusters v n kind name r s (Placed e) _ z state k.own k.spelled k.sized.extents k.sized.file k.written;
  moved = λ c g clusters v n kind name value r more z s bodies state k. made_again c g clusters v n kind name r s _ _ z state k.own (grown_from_none more k.taken.spelled k.room) k.grown.extents k.grown.file k.written;
  written = λ c g clusters v n r p s bodies sized state k. stands_as c g clusters v n r p s bodies state k.own (value_stays c g clusters v n r p s bodies sized state k) k.put;
  made = λ c g clusters v n r p s one bodies sized state k. stands_as c g clusters v n r p s bodies state k.own (made_stays c g clusters v n r p s one bodies sized state k) k.put;
}
