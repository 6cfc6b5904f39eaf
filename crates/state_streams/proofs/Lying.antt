-- What the rules of a state say of a stream in clusters.
use Rattle.std.proofs.Common.{◌≡◌, ℕ, ◌+◌, ◌-◌, ◌*◌, ◌^◌, ◌<◌, ◌≤◌, true, false, ◌&&◌, eqb, leb, List, [], ◌∷◌, Option, Some, None, sym, ap, subst, ◌∙◌, arith}
use Rattle.std.specs.Prelude.{All, IfSome, option_map}
use Rattle.std.specs.List.{list_all, flat_map}
use Rattle.std.proofs.lemmas.Bool.{and_parts, eqb-true, leb-true}
use Rattle.std.proofs.lemmas.List.Elements.{All-nil, All-cons}
use Rattle.disk_model.specs.Content.{Content}
use Rattle.plan_growth.specs.record_model.declared.attribute.Attr.{Attr}
use Rattle.plan_growth.specs.record_model.declared.runs.Run.{Run}
use Rattle.plan_growth.specs.record_model.Pairs.{cluster_limit, Follow, HasSpelling}
use Rattle.plan_growth.specs.record_model.Records.{Record}
use Rattle.plan_growth.specs.state_model.declared.geometry.Geometry.{Geometry}
use Rattle.plan_growth.specs.state_model.declared.stream.Extents.{Extents}
use Rattle.plan_growth.specs.state_model.declared.stream.Stream.TheVariants.{Placed}
use Rattle.plan_growth.specs.state_model.Loads.{total_clusters}
use Rattle.plan_growth.specs.state_model.Streams.{attributes_of, attribute_runs, stream_of}
use Rattle.plan_growth.specs.volume_model.Volumes.{Volume, file_stream}
use Rattle.plan_growth.specs.volume_model.Sizes.{are_joined, has_hole, lies_below, lies_inside, has_sizes, fits_volume, keeps_streams}
use Rattle.plan_growth.specs.stream_laws.Places.{AreOnce}
use Rattle.plan_growth.specs.stream_laws.Sharing.{StreamKey, stream_at, runs_in}
use Rattle.plan_growth.proofs.stream_laws.Sharing.{stream_once}
use Rattle.plan_growth.specs.stream_runs.Runs.{last_cluster, IsNear}
use Rattle.plan_growth.specs.plan_owners.States.{Stands}
use Rattle.plan_growth.proofs.plan_owners.Outside.{once}
use Rattle.plan_growth.proofs.plan_owners.Standing.{streams_at}
use Rattle.plan_growth.proofs.Placed.{some_attributes, runs_of_attributes, stream_rule}
use Rattle.state_streams.specs.Streams.{IsPlacedIn, HasLawfulSizes}
use Rattle.state_streams.proofs.Following.{joined_follow}
use Rattle.state_streams.proofs.Counting.{few_clusters}

module _ (c : Content) (g : Geometry) (clusters : ℕ) (v : Volume) (n kind : ℕ) (name : List ℕ) (e : Extents) (state : Stands c g clusters v) (is : IsPlacedIn v n kind name e) where
  abbrev own : List Attr
  own = attributes_of kind name is.file.attrs

  some : (a : Attr) × (others : List Attr) × (own ≡ a ∷ others)
  unfolding stream_of
  some = some_attributes own (Placed e) is.stream

  rule : (are_joined own ≡ true) × (fits_volume v.per v.clusters (stream_of kind name is.file.attrs) ≡ true)
  unfolding keeps_streams
  rule =
      let all = (and_parts _ _ (and_parts _ _ (and_parts _ _ (streams_at c g clusters v n is.file state is.is_file)).0).0).0 in
      stream_rule v.per v.clusters kind name is.file some.0 some.1 is.no_name some.2 all

  fits : (list_all (lies_inside v.clusters) e.runs && has_sizes v.per e) ≡ true
  fits = sym (ap (fits_volume v.per v.clusters) is.stream) ∙ rule.1

  runs_are : e.runs ≡ flat_map attribute_runs own
  unfolding stream_of
  runs_are = runs_of_attributes own e is.stream

  pub all_inside : list_all (lies_inside v.clusters) e.runs ≡ true
  all_inside = (and_parts (list_all (lies_inside v.clusters) e.runs) (has_sizes v.per e) fits).0

  pub sizes_are : HasLawfulSizes v.per e
  sizes_are =
      let sizes = (and_parts (list_all (lies_inside v.clusters) e.runs) (has_sizes v.per e) fits).1 in
      let lower = and_parts (leb e.initialised e.real && leb e.real e.allocated) (eqb e.allocated (total_clusters e.runs * (512 * v.per))) sizes in
      let two = and_parts (leb e.initialised e.real) (leb e.real e.allocated) lower.0 in
      record { initialised = leb-true _ _ two.0; real = leb-true _ _ two.1; allocated = eqb-true _ _ lower.1 }

  pub spelled_is : total_clusters e.runs ≤ cluster_limit → HasSpelling 0 e.runs
  spelled_is few = subst (HasSpelling 0) (sym runs_are) (joined_follow own rule.0 (subst (λ (l : List Run). total_clusters l ≤ cluster_limit) runs_are few))

  abbrev key : StreamKey
  key = record { file = n; kind = kind; name = name }

  runs_there : runs_in (stream_at v key) ≡ e.runs
  runs_there = ap (λ (o : Option Record). runs_in (file_stream kind name o)) is.is_file ∙ ap runs_in is.stream

  once_there : AreOnce e.runs
  once_there = subst AreOnce runs_there (stream_once v key (once c g clusters v state))

  pub few_there : has_hole (Some (Placed e)) ≡ false → total_clusters e.runs ≤ v.clusters
  few_there whole = few_clusters v.clusters e.runs whole all_inside once_there

-- ---- each run

near_by : (clusters : ℕ) (len : ℕ) (lcn : Option ℕ) → clusters ≤ cluster_limit → lies_below clusters len lcn ≡ true → IfSome lcn (λ first. first + len < 2 ^ 34)
near_by clusters len None few is = tt
near_by clusters len (Some first) few is = (let ends : first + len ≤ clusters = leb-true (first + len) clusters is in omega (arith, ends, few))

pub all_near : (clusters : ℕ) (runs : List Run) → clusters ≤ cluster_limit → list_all (lies_inside clusters) runs ≡ true → All IsNear runs
all_near clusters [] few all = All-nil IsNear
all_near clusters (r ∷ runs) few all = (let parts = and_parts (lies_inside clusters r) (list_all (lies_inside clusters) runs) all in All-cons IsNear r runs (near_by clusters r.len r.lcn few parts.0) (all_near clusters runs few parts.1))

last_by : (clusters len : ℕ) (lcn : Option ℕ) → 0 < len → lies_below clusters len lcn ≡ true → IfSome (option_map (λ first. first + len - 1) lcn) (λ at. at < clusters)
last_by clusters len None some is = tt
last_by clusters len (Some first) some is = (let ends : first + len ≤ clusters = leb-true (first + len) clusters is in omega (arith, ends, some))

pub last_inside : (clusters n : ℕ) (runs : List Run) → Follow 0 n runs → list_all (lies_inside clusters) runs ≡ true → IfSome (last_cluster runs) (λ at. at < clusters)
last_inside clusters n [] follow all = tt
last_inside clusters n (r ∷ []) follow all = (let parts = and_parts (lies_inside clusters r) true all in last_by clusters r.len r.lcn follow.0.some parts.0)
last_inside clusters n (r ∷ s ∷ runs) follow all = (let parts = and_parts (lies_inside clusters r) (list_all (lies_inside clusters) (s ∷ runs)) all in last_inside clusters (n + r.len) (s ∷ runs) follow.1 parts.1)
