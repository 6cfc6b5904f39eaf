-- What a write or a cut asks of a file, whether its record has unnamed data or not.
use Rattle.std.proofs.Common.{◌≡◌, ℕ, ◌<◌, ◌≤◌, ◌^◌, Bool, true, false, ◌||◌, cond, List, [], ◌∷◌, length, Some, refl, ap, ◌∙◌}
use Rattle.std.specs.List.{list_any, flat_map, AllByRecursion}
use Rattle.std.specs.Prelude.{filter}
use Rattle.std.proofs.lemmas.Bool.{both_ways}
use Rattle.disk_model.specs.Content.{Content}
use Rattle.record_model.specs.declared.attribute.Attr.{Attr}
use Rattle.record_model.specs.Constants.{data_type, standard_information}
use Rattle.record_model.specs.Pairs.{cluster_limit}
use Rattle.record_model.specs.Records.{Record}
use Rattle.file_tree.specs.declared.node.Node.{Node}
use Rattle.state_model.specs.declared.geometry.Geometry.{Geometry}
use Rattle.state_model.specs.declared.stream.Stream.{Stream}
use Rattle.state_model.specs.Files.{has_type}
use Rattle.state_model.specs.Streams.{is_attribute_of, sorted_into, attributes_of, attribute_runs, joined, form_stream, stream_of}
use Rattle.volume_model.specs.Volumes.{Volume}
use Rattle.file_changes.specs.plan_owners.States.{Stands}
use Rattle.file_changes.proofs.plan_values.Made.{some_sorted, none_pass}
use Rattle.file_changes.specs.plan_changes.Files.{IsChangeable}
use Rattle.file_changes.specs.record_streams.Fitting.{FitsButRoom}
use Rattle.made_data.specs.data_plan.Changes.{data_in, ShowsData, HasData}
use Rattle.made_data.specs.Laws.{MadeIsCounted}
use Rattle.made_data.specs.Made.{has_data, made_record}
use Rattle.state_files.specs.Files.{HasFewRuns, FilesHaveData}
use Rattle.file_changes.proofs.written_values.Owning.{IsOwned, is_owned}
use Rattle.written_made.specs.Ready.{AnyFileIsReady}

-- ---- a record that has unnamed data has a stream of it

none_any : (test : Attr → Bool) (attrs : List Attr) → AllByRecursion (λ a. test a ≡ false) attrs → list_any test attrs ≡ false
none_any test [] none = refl
none_any test (a ∷ attrs) none = ap (λ (t : Bool). t || list_any test attrs) none.0 ∙ none_any test attrs none.1

none_sorted : (attrs : List Attr) → sorted_into [] attrs ≡ [] → attrs ≡ []
none_sorted [] none = refl
none_sorted (a ∷ attrs) none = absurd (some_sorted a [] attrs none)

some_joined : (attributes : List Attr) → (attributes ≡ [] → ⊥) → (s : Stream) × (joined attributes ≡ Some s)
some_joined [] some = absurd (some refl)
some_joined (a ∷ attributes) some = (form_stream a.form (flat_map attribute_runs (a ∷ attributes)), refl)

some_stream : (r : Record) → has_data r ≡ true → (s : Stream) × (data_in r ≡ Some s)
unfolding has_data attributes_of stream_of
some_stream r has =
    some_joined (attributes_of data_type [] r.attrs)
    (λ none. both_ways (list_any (is_attribute_of data_type []) r.attrs) (none_any (is_attribute_of data_type []) r.attrs (none_pass (is_attribute_of data_type []) r.attrs (none_sorted (filter (is_attribute_of data_type []) r.attrs) none))) has)

-- ---- by whether it has

module _ (counted : MadeIsCounted) (files : FilesHaveData) (c : Content) (g : Geometry) (clusters : ℕ) (v : Volume) (n : ℕ) (r : Record) (a : Node) (state : Stands c g clusters v) (file : IsChangeable c v n r a) where
  owned : IsOwned v n r
  owned = is_owned c g clusters v n r a state file

  has_by : (t : Bool) → has_data r ≡ t → g.per_cluster ≡ 8 → clusters ≤ cluster_limit → FitsButRoom r → length r.attrs < 2 ^ 10 → HasFewRuns r → HasData clusters (cond t r (made_record r))
  has_by true is eight few fits short runs = (let s = some_stream r is in files.has c g clusters v n r s.0 state eight few file.file owned.own.no_list owned.whole s.1 fits runs)
  has_by false is eight few fits short runs = counted.has clusters r is fits short (files.pairs c g clusters v n r state file.file owned.own.no_list)

  info_by : (t : Bool) → has_data r ≡ t → has_type standard_information (cond t r (made_record r)) ≡ true
  info_by true is = owned.info
  info_by false is = counted.types r standard_information owned.info

shows_by : MadeIsCounted → (node : Node) (r : Record) (t : Bool) → has_data r ≡ t → ShowsData node r → ShowsData node (cond t r (made_record r))
shows_by counted node r true is shows = shows
shows_by counted node r false is shows = counted.shows node r is shows

pub any_ready : MadeIsCounted → FilesHaveData → AnyFileIsReady
any_ready counted files = record {
  has = λ c g clusters v n r a state eight few file fits short runs. has_by counted files c g clusters v n r a state file (has_data r) refl eight few fits short runs;
  shows = λ node r shows. shows_by counted node r (has_data r) refl shows;
  info = λ c g clusters v n r a state file. info_by counted files c g clusters v n r a state file (has_data r) refl;
}
