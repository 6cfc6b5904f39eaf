-- What the rules of a state say of a stream of a file.
use Rattle.std.proofs.Common.{◌≡◌, ◌≢◌, ℕ, ◌*◌, ◌≤◌, true, ◌&&◌, eqb, leb, List, ◌∷◌, Some, sym, ap, subst, ◌∙◌}
use Rattle.std.specs.List.{list_all, flat_map}
use Rattle.std.proofs.lemmas.Bool.{and_parts, both_ways, leb-true, eqb-true, eq-eqb}
use Rattle.plan_model.specs.disk_model.Content.{Content}
use Rattle.plan_model.specs.record_model.declared.attribute.Attr.{Attr}
use Rattle.plan_model.specs.record_model.declared.runs.Run.{Run}
use Rattle.plan_model.specs.record_model.Constants.{file_name}
use Rattle.plan_model.specs.record_model.Records.{Record}
use Rattle.plan_model.specs.state_model.declared.geometry.Geometry.{Geometry}
use Rattle.plan_model.specs.state_model.declared.stream.Extents.{Extents}
use Rattle.plan_model.specs.state_model.declared.stream.Stream.{Stream}
use Rattle.plan_model.specs.state_model.declared.stream.Stream.TheVariants.{Placed}
use Rattle.plan_model.specs.state_model.Loads.{total_clusters}
use Rattle.plan_model.specs.state_model.Streams.{attributes_of, attribute_runs, stream_of}
use Rattle.plan_model.specs.volume_model.Volumes.{Volume}
use Rattle.plan_model.specs.volume_model.Owners.{uses}
use Rattle.plan_model.specs.volume_model.Sizes.{are_joined, lies_inside, has_sizes, fits_volume, keeps_streams}
use Rattle.plan_model.specs.plan_owners.States.{Stands}
use Rattle.plan_model.proofs.plan_owners.Standing.{streams_at}
use Rattle.plan_growth.specs.Streams.{IsOwnStream}
use Rattle.plan_growth.proofs.Placed.{some_attributes, runs_of_attributes, stream_rule}

module _ (c : Content) (g : Geometry) (clusters : ℕ) (v : Volume) (n kind : ℕ) (name : List ℕ) (r : Record) (old : Stream) (state : Stands c g clusters v) (own : IsOwnStream v n kind name r old) where
  some : (a : Attr) × (others : List Attr) × (attributes_of kind name r.attrs ≡ a ∷ others)
  unfolding stream_of
  some = some_attributes (attributes_of kind name r.attrs) old own.stream

  rule : (are_joined (attributes_of kind name r.attrs) ≡ true) × (fits_volume v.per v.clusters (stream_of kind name r.attrs) ≡ true)
  unfolding keeps_streams
  rule =
      let all = (and_parts _ _ (and_parts _ _ (and_parts _ _ (streams_at c g clusters v n r state own.file)).0).0).0 in
      let not_name : file_name ≢ kind = λ same. both_ways (eqb kind file_name) own.placeable.not_name (eq-eqb kind file_name (sym same)) in
      stream_rule v.per v.clusters kind name r some.0 some.1 not_name some.2 all

  pub stream_joined : are_joined (attributes_of kind name r.attrs) ≡ true
  stream_joined = rule.0

  pub stream_fits : fits_volume v.per v.clusters (Some old) ≡ true
  stream_fits = sym (ap (fits_volume v.per v.clusters) own.stream) ∙ rule.1

pub sizes_lawful : (per clusters : ℕ) (e : Extents) → fits_volume per clusters (Some (Placed e)) ≡ true → (e.initialised ≤ e.real) × (e.real ≤ total_clusters e.runs * (512 * per))
sizes_lawful per clusters e fits =
    let sizes = (and_parts (list_all (lies_inside clusters) e.runs) (has_sizes per e) fits).1 in
    let lower = and_parts (leb e.initialised e.real && leb e.real e.allocated) (eqb e.allocated (total_clusters e.runs * (512 * per))) sizes in
    let two = and_parts (leb e.initialised e.real) (leb e.real e.allocated) lower.0 in
    (leb-true _ _ two.0, subst (λ (x : ℕ). e.real ≤ x) (eqb-true _ _ lower.1) (leb-true _ _ two.1))

pub runs_before : (kind : ℕ) (name : List ℕ) (r : Record) (e : Extents) → stream_of kind name r.attrs ≡ Some (Placed e) → (x : ℕ) → uses (flat_map attribute_runs (attributes_of kind name r.attrs)) x ≡ uses e.runs x
unfolding stream_of
runs_before kind name r e is x = ap (λ (l : List Run). uses l x) (sym (runs_of_attributes (attributes_of kind name r.attrs) e is))
