-- The clusters of a file's data and those that are clear are no more than the volume has.
use Rattle.std.proofs.Common.{◌≡◌, ℕ, ◌+◌, ◌<◌, ◌≤◌, Bool, true, false, not, List, [], ◌++◌, length, Option, Some, None, ap, subst, ◌∙◌, inl, inr, arith}
use Rattle.std.specs.Prelude.{count_by}
use Rattle.std.specs.List.{list_all, list_any}
use Rattle.std.proofs.lemmas.Bool.{cases_lt, and_from, or_from, le-leb}
use Rattle.std.proofs.lemmas.List.Folds.{list_all-append, list_any-append}
use Rattle.std.proofs.lemmas.List.Sums.{count_by-le-length}
use Rattle.disk_model.specs.Content.{Content}
use Rattle.record_model.specs.declared.runs.Run.{Run}
use Rattle.record_model.specs.Constants.{data_type}
use Rattle.record_model.specs.Pairs.{cluster_limit}
use Rattle.record_model.specs.Records.{Record}
use Rattle.bit_set.specs.Bits.{bit}
use Rattle.bit_set.proofs.Views.{length-bits_of_bytes}
use Rattle.state_model.specs.declared.geometry.Geometry.{Geometry}
use Rattle.state_model.specs.declared.stream.Extents.{Extents}
use Rattle.state_model.specs.declared.stream.Stream.TheVariants.{Placed}
use Rattle.state_model.specs.Loads.{total_clusters}
use Rattle.volume_model.specs.Owners.{uses, volume_runs}
use Rattle.volume_model.specs.Sizes.{lies_inside, is_hole}
use Rattle.volume_model.specs.Volumes.{Volume, file_in, file_stream, bytes_or, cluster_bitmap, cluster_bits}
use Rattle.stream_laws.specs.Sharing.{StreamKey, stream_at, runs_in}
use Rattle.stream_laws.proofs.Placing.{uses-append, once_inside}
use Rattle.stream_laws.proofs.Rewriting.{volume_parts}
use Rattle.stream_laws.proofs.Sharing.{stream_of_volume}
use Rattle.stream_runs.proofs.Merging.{total-append}
use Rattle.written_made.specs.plan_owners.States.{Stands}
use Rattle.written_made.proofs.plan_owners.ByKind.{marked_if_used}
use Rattle.written_made.proofs.plan_owners.Outside.{once}
use Rattle.written_made.specs.plan_growth.Streams.{MayTake}
use Rattle.written_made.proofs.plan_growth.Choosing.{may_be_taken}
use Rattle.written_made.proofs.resized_streams.Chosen.{total_chosen}
use Rattle.space_model.specs.Choosing.{chosen}
use Rattle.written_made.proofs.state_streams.Counting.{few_clusters}
use Rattle.written_made.specs.data_plan.Changes.{data_in}

clash : (b : Bool) → b ≡ false → b ≡ true → ⊥
clash b first second = cc

module _ (c : Content) (g : Geometry) (clusters : ℕ) (v : Volume) (n : ℕ) (r : Record) (e : Extents) (state : Stands c g clusters v) (file : file_in v n ≡ Some r) (is : data_in r ≡ Some (Placed e)) (whole : list_any is_hole e.runs ≡ false) (inside : list_all (lies_inside v.clusters) e.runs ≡ true) where
  key : StreamKey
  key = record { file = n; kind = data_type; name = [] }

  own : (x : ℕ) → uses e.runs x ≤ uses (volume_runs v.files) x
  unfolding key
  own x =
      let there : runs_in (stream_at v key) ≡ e.runs = ap (λ (o : Option Record). runs_in (file_stream data_type [] o)) file ∙ ap runs_in is in
      subst (λ (l : List Run). uses l x ≤ uses (volume_runs v.files) x) there (stream_of_volume v key x)

  unowned : (x : ℕ) → x < v.clusters → bit (cluster_bits c v) x ≡ false → uses (volume_runs v.files) x ≡ 0
  unowned x below clear = elim (cases_lt 0 (uses (volume_runs v.files) x)) [
    | inl some ↦ absurd (clash (bit (cluster_bits c v) x) clear (marked_if_used c g clusters v x state below some))
    | inr none ↦ omega (arith, none)
  ]

  -- clusters that may be taken lie beside those of the data
  both_in : (more : List Run) → MayTake v.clusters (cluster_bits c v) more → total_clusters e.runs + total_clusters more ≤ v.clusters
  both_in more take =
      let all : list_all (lies_inside v.clusters) (e.runs ++ more) ≡ true = list_all-append (lies_inside v.clusters) e.runs more ∙ and_from _ _ inside take.inside in
      let none : list_any is_hole (e.runs ++ more) ≡ false = list_any-append is_hole e.runs more ∙ or_from _ _ whole take.whole in
      let few = few_clusters v.clusters (e.runs ++ more) none all (once_inside v.clusters (e.runs ++ more) all (λ x below. le-leb (uses (e.runs ++ more) x) 1 (one_at x below))) in
      omega (arith, few, total-append e.runs more)
    where
      one_at : (x : ℕ) → x < v.clusters → uses (e.runs ++ more) x ≤ 1
      one_at x below = elim (cases_lt 0 (uses more x)) [
        | inl taken ↦
            (let none = unowned x below (take.clear x taken) in
            let mine = own x in
            let one = take.once x in
            let sum = uses-append e.runs more x in
            omega (arith, sum, none, mine, one))
        | inr none ↦
            (let mine = own x in
            let one = once c g clusters v state x in
            let sum = uses-append e.runs more x in
            omega (arith, sum, none, mine, one))
      ]

size : (c : Content) (v : Volume) → length (cluster_bits c v) ≡ v.clusters
unfolding cluster_bits
size c v = length-bits_of_bytes (bytes_or c v.per (cluster_bitmap v)) v.clusters

clear_taken : (bits : List Bool) → length bits ≤ cluster_limit → MayTake (length bits) bits (chosen bits None (count_by not bits))
clear_taken bits limit =
    let total = total_chosen bits None (count_by not bits) (omega arith) in
    let low = count_by-le-length not bits in
    may_be_taken bits bits None (count_by not bits) (λ x clear. clear) limit (omega (arith, total, low, limit))

pub room_beside : (c : Content) (g : Geometry) (clusters : ℕ) (v : Volume) (n : ℕ) (r : Record) (e : Extents) → Stands c g clusters v → clusters ≤ cluster_limit → file_in v n ≡ Some r → data_in r ≡ Some (Placed e) → list_any is_hole e.runs ≡ false → list_all (lies_inside v.clusters) e.runs ≡ true
    → total_clusters e.runs + count_by not (cluster_bits c v) ≤ v.clusters
room_beside c g clusters v n r e state few file is whole inside =
    let count = (volume_parts c g clusters v state.loaded).count in
    let long = size c v in
    let take = subst (λ (k : ℕ). MayTake k (cluster_bits c v) (chosen (cluster_bits c v) None (count_by not (cluster_bits c v)))) long (clear_taken (cluster_bits c v) (omega (arith, long, count, few))) in
    let both = both_in c g clusters v n r e state file is whole inside (chosen (cluster_bits c v) None (count_by not (cluster_bits c v))) take in
    let total = total_chosen (cluster_bits c v) None (count_by not (cluster_bits c v)) (omega arith) in
    omega (arith, both, total)
