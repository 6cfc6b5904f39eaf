-- What a draft in which streams have grown leaves clear.
use Rattle.std.proofs.Common.{◌≡◌, ℕ, zero, suc, ◌+◌, ◌<◌, ◌≤◌, Bool, true, false, List, [], ◌∷◌, ◌++◌, length, refl, sym, ap, subst, ◌∙◌, inl, inr, arith}
use Rattle.std.specs.List.{list_all}
use Rattle.std.proofs.lemmas.Bool.{cases_lt, and_parts, and_from, both_ways, le-leb}
use Rattle.disk_model.specs.Content.{Content}
use Rattle.record_model.specs.declared.runs.Run.{Run}
use Rattle.record_model.specs.Records.{Record}
use Rattle.bit_set.specs.Bits.{bit}
use Rattle.state_model.specs.declared.geometry.Geometry.{Geometry}
use Rattle.space_model.specs.Choosing.{with_run, with_runs}
use Rattle.space_model.specs.Laws.{AreFree}
use Rattle.space_model.proofs.Lawful.{chosen_are_free}
use Rattle.space_model.proofs.Searching.{length-with_run}
use Rattle.stream_runs.specs.Runs.{last_cluster}
use Rattle.volume_model.specs.Owners.{uses, volume_runs}
use Rattle.volume_model.specs.Sizes.{lies_below, lies_inside}
use Rattle.volume_model.specs.Volumes.{Volume, cluster_bits}
use Rattle.stream_laws.specs.Owners.{stream_kind}
use Rattle.stream_laws.specs.Sharing.{StreamKey, stream_at, runs_in}
use Rattle.stream_laws.proofs.Bitmapping.{past_clusters}
use Rattle.plan_owners.specs.States.{Stands}
use Rattle.plan_owners.proofs.ByKind.{marked}
use Rattle.plan_draft.specs.declared.touched.Touched.{Touched}
use Rattle.plan_draft.specs.Drafts.{drafted}
use Rattle.table_steps.specs.made_trees.step_model.Placing.{Growth, AllPlaced, more_of, taken_runs}
use Rattle.table_steps.specs.made_trees.Grown.{HasGrownBefore}
use Rattle.draft_growth.proofs.Tables.{length-with_runs}
use Rattle.table_edits.proofs.Taken.{clear_before, runs_set}
use Rattle.writes_keep.proofs.Used.{unused}
use Rattle.written_clusters.proofs.Taking.{length-cluster_bits}

-- ---- what streams take lies inside the bits

free_inside : (bits : List Bool) (n clusters : ℕ) (runs : List Run) → length bits ≡ clusters → AreFree bits n runs → list_all (lies_inside clusters) runs ≡ true
free_inside bits n clusters [] same free = refl
free_inside bits n clusters (r ∷ runs) same free =
    let inside : free.0 + r.len ≤ length bits = free.1.clear.inside in
    and_from _ _ (ap (lies_below clusters r.len) free.1.lcn ∙ le-leb (free.0 + r.len) clusters (omega (arith, inside, same)))
    (free_inside (with_run free.0 r.len bits) (n + r.len) clusters runs (length-with_run free.0 r.len bits ∙ same) free.2)

all_append : (n : ℕ) (xs ys : List Run) → list_all (lies_inside n) xs ≡ true → list_all (lies_inside n) ys ≡ true → list_all (lies_inside n) (xs ++ ys) ≡ true
all_append n [] ys all more = more
all_append n (x ∷ xs) ys all more = (let parts = and_parts (lies_inside n x) (list_all (lies_inside n) xs) all in and_from _ _ parts.0 (all_append n xs ys parts.1 more))

taken_inside : (n : ℕ) (bits : List Bool) (l : List Growth) → length bits ≡ n → AllPlaced bits l → list_all (lies_inside n) (taken_runs l) ≡ true
taken_inside n bits [] same placed = refl
taken_inside n bits (h ∷ l) same placed =
    all_append n h.runs (taken_runs l) (free_inside bits 0 n h.runs same (subst (AreFree bits 0) (sym placed.0) (chosen_are_free.free bits (last_cluster h.old) (more_of h))))
    (taken_inside n (with_runs h.runs bits) l (length-with_runs h.runs bits ∙ same) placed.1)

none_or_some : (n : ℕ) → (0 < n → ⊥) → n ≡ 0
none_or_some zero never = refl
none_or_some (suc n) never = absurd (never (omega arith))

module _ (c : Content) (g : Geometry) (clusters : ℕ) (v : Volume) (n : ℕ) (r : Record) (growths : List Growth) (u : Volume) (q : Record) (grown : List Touched) (state : Stands c g clusters v) (k : HasGrownBefore c g clusters v n r growths u q grown) (count : u.clusters ≡ v.clusters) (all : v.clusters ≡ clusters) where
  abbrev first : Content
  first = drafted grown c

  abbrev bits : List Bool
  bits = with_runs (taken_runs growths) (cluster_bits c v)

  state_u : Stands first g clusters u
  state_u = subst (λ (y : Content). Stands y g clusters u) k.content k.draft.stands

  inside : list_all (lies_inside (length (cluster_bits c v))) (taken_runs growths) ≡ true
  inside = taken_inside (length (cluster_bits c v)) (cluster_bits c v) growths refl k.left.placed

  module _ (j : ℕ) (clear : bit bits j ≡ false) (low : j < v.clusters) where
    was_clear : bit (cluster_bits c v) j ≡ false
    was_clear = (let long = length-cluster_bits c v in clear_before (taken_runs growths) (cluster_bits c v) j (omega (arith, low, long)) clear)

    not_taken : 0 < uses (taken_runs growths) j → ⊥
    not_taken some = both_ways (bit bits j) clear (runs_set (taken_runs growths) (cluster_bits c v) j inside some)

    nobody : (o : StreamKey) → 0 < uses (runs_in (stream_at u o)) j → ⊥
    nobody o has = elim (k.draft.kinds (stream_kind o) j (record { stream = o; is_kind = refl; has = has })) [
      | inl owned ↦ both_ways (bit (cluster_bits c v) j) was_clear (marked c g clusters v (stream_kind o) j state owned)
      | inr gave ↦ not_taken (k.given (stream_kind o) j gave)
    ]

    nowhere : uses (volume_runs u.files) j ≡ 0
    nowhere = unused first g clusters u state_u j (λ o. none_or_some (uses (runs_in (stream_at u o)) j) (nobody o))

    still : bit (cluster_bits first u) j ≡ false
    still = elim (cases_lt (uses (volume_runs u.files) j) (uses (volume_runs v.files) j)) [
      | inl less ↦ k.left.bits.cleared j (omega (arith, low, all)) less
      | inr not_less ↦ k.left.bits.others j (omega (arith, low, all)) (let zero_u = nowhere in omega (arith, zero_u, not_less)) ∙ was_clear
    ]

  pub left_clear : (j : ℕ) → bit (with_runs (taken_runs growths) (cluster_bits c v)) j ≡ false → bit (cluster_bits (drafted grown c) u) j ≡ false
  left_clear j clear = elim (cases_lt j v.clusters) [
    | inl low ↦ still j clear low
    | inr past ↦ past_clusters first u j (omega (arith, past, count))
  ]
