-- The unnamed data of a file in a state.
use Rattle.std.proofs.Common.{◌≡◌, ℕ, ◌+◌, ◌*◌, ◌<◌, ◌≤◌, true, false, ◌&&◌, eqb, ltb, List, [], ◌∷◌, Some, sym, ap, subst, ◌∙◌, arith}
use Rattle.std.specs.Prelude.{IfSome}
use Rattle.std.proofs.lemmas.Bool.{and_parts, eqb-true}
use Rattle.disk_model.specs.declared.block.BlockKind.TheVariants.{FileRec}
use Rattle.disk_model.specs.Content.{Content}
use Rattle.record_model.specs.declared.attribute.Attr.{Attr}
use Rattle.record_model.specs.Constants.{attribute_list, data_type}
use Rattle.record_model.specs.Pairs.{cluster_limit}
use Rattle.record_model.specs.Records.{Record}
use Rattle.state_model.specs.declared.geometry.Geometry.{Geometry}
use Rattle.state_model.specs.declared.stream.Stream.{Stream}
use Rattle.state_model.specs.declared.stream.Stream.TheVariants.{Held, Placed}
use Rattle.state_model.specs.Files.{has_type}
use Rattle.state_model.specs.Loads.{total_clusters, has_all_pairs}
use Rattle.state_model.specs.Streams.{first_vcn, attribute_runs, attributes_of, stream_of, block_at}
use Rattle.data_plan.specs.volume_model.Sizes.{are_joined, follow, has_hole, keeps_streams}
use Rattle.data_plan.specs.volume_model.Volumes.{Volume, file_in}
use Rattle.data_plan.specs.stream_runs.Runs.{last_cluster}
use Rattle.data_plan.specs.plan_owners.States.{Stands}
use Rattle.data_plan.proofs.stream_laws.Rewriting.{volume_parts}
use Rattle.data_plan.proofs.plan_owners.Standing.{streams_at}
use Rattle.data_plan.proofs.plan_model.Drafting.{per_is}
use Rattle.data_plan.proofs.plan_model.OneRecord.{own_record}
use Rattle.state_streams.proofs.plan_growth.Placed.{some_attributes, stream_rule}
use Rattle.state_streams.proofs.plan_growth.Resizing.{slot_open, used_pairs}
use Rattle.data_plan.specs.record_streams.Fitting.{FitsButRoom}
use Rattle.state_streams.specs.Streams.{IsPlacedIn, StreamsOfStates}
use Rattle.data_plan.specs.Changes.{data_in, BeginsAtZero, StandsBelow, HasData}
use Rattle.state_files.specs.Files.{HasFewRuns, FilesHaveData}

pairs_read : (c : Content) (g : Geometry) (clusters : ℕ) (v : Volume) (n : ℕ) (r : Record) → Stands c g clusters v → file_in v n ≡ Some r → has_type attribute_list r ≡ false → has_all_pairs r ≡ true
unfolding has_all_pairs
pairs_read c g clusters v n r state file no_list =
    used_pairs v.table.initialised (1024 * n) c (block_at v.per v.table.runs FileRec n) r (slot_open c v n r (own_record c g clusters v n r state file no_list).slot)

begins_by : (attributes : List Attr) (a : Attr) (others : List Attr) → attributes ≡ a ∷ others → are_joined attributes ≡ true → BeginsAtZero attributes
begins_by [] a others is joined = absurd cc
begins_by (b ∷ []) a others is joined = eqb-true (first_vcn b) 0 joined
begins_by (b ∷ d ∷ attributes) a others is joined =
    let parts = and_parts (eqb (first_vcn b) 0 && ltb 0 (total_clusters (attribute_runs b))) (follow (0 + total_clusters (attribute_runs b)) (d ∷ attributes)) joined in
    eqb-true (first_vcn b) 0 (and_parts (eqb (first_vcn b) 0) (ltb 0 (total_clusters (attribute_runs b))) parts.0).0

module _ (streams : StreamsOfStates) (c : Content) (g : Geometry) (clusters : ℕ) (v : Volume) (n : ℕ) (r : Record) (state : Stands c g clusters v) (eight : g.per_cluster ≡ 8) (few : clusters ≤ cluster_limit) (file : file_in v n ≡ Some r) (whole : has_hole (data_in r) ≡ false) (runs : HasFewRuns r) where
  count : clusters ≡ v.clusters
  count = (volume_parts c g clusters v state.loaded).count

  lies_by : (s : Stream) → data_in r ≡ Some s → StandsBelow clusters (Some s)
  lies_by (Held value) is = tt
  lies_by (Placed e) is =
      let there : IsPlacedIn v n data_type [] e = record { file = r; is_file = file; no_name = λ same. omega (arith, same); stream = is } in
      let total = streams.total c g clusters v n data_type [] e state there (ap has_hole (sym is) ∙ whole) in
      let low : total_clusters e.runs ≤ cluster_limit = omega (arith, total, few, count) in
      let sizes = streams.sizes c g clusters v n data_type [] e state there in
      let allocated : e.allocated ≡ total_clusters e.runs * (512 * 8) = sizes.allocated ∙ ap (λ (per : ℕ). total_clusters e.runs * (512 * per)) (per_is c g clusters v eight state) in
      record {
        spelled = streams.spelled c g clusters v n data_type [] e state there low;
        few = runs e is;
        last = subst (λ (x : ℕ). IfSome (last_cluster e.runs) (λ at. at < x)) (sym count) (streams.last c g clusters v n data_type [] e state there low);
        enough = omega (arith, sizes.real, allocated);
      }

  joined_there : (s : Stream) → data_in r ≡ Some s → BeginsAtZero (attributes_of data_type [] r.attrs)
  unfolding keeps_streams stream_of
  joined_there s is =
      let some = some_attributes (attributes_of data_type [] r.attrs) s is in
      let all = (and_parts _ _ (and_parts _ _ (and_parts _ _ (streams_at c g clusters v n r state file)).0).0).0 in
      begins_by (attributes_of data_type [] r.attrs) some.0 some.1 some.2 (stream_rule v.per v.clusters data_type [] r some.0 some.1 (λ same. omega (arith, same)) some.2 all).0

  has_data : (s : Stream) → has_type attribute_list r ≡ false → data_in r ≡ Some s → FitsButRoom r → HasData clusters r
  has_data s no_list is fits = record {
    fits = fits;
    pairs = pairs_read c g clusters v n r state file no_list;
    begins = joined_there s is;
    stands = subst (StandsBelow clusters) (sym is) (lies_by s is);
  }

pub have_data : StreamsOfStates → FilesHaveData
have_data streams = record {
  pairs = pairs_read;
  has = λ c g clusters v n r s state eight few file no_list whole is fits runs. has_data streams c g clusters v n r state eight few file whole runs s no_list is fits;
}
