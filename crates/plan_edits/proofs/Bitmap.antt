-- What a state says of the bitmap of clusters.
use Rattle.std.proofs.Common.{◌≡◌, ℕ, ◌+◌, ◌-◌, ◌*◌, ◌/◌, ◌%◌, ◌<◌, ◌≤◌, Bool, true, false, not, cond, leb, ltb, List, [], ◌∷◌, Option, Some, None, refl, sym, ap, subst, ◌∙◌, inl, inr, arith}
use Rattle.std.specs.Prelude.{is_some, option_map, find}
use Rattle.std.specs.List.{list_any}
use Rattle.std.proofs.lemmas.Bool.{cases_lt, and_parts, and_from, or_parts, le-leb, lt-ltb, false_from_ne_true}
use Rattle.disk_model.specs.declared.block.Block.{Block}
use Rattle.disk_model.specs.declared.block.BlockKind.TheVariants.{Plain}
use Rattle.disk_model.specs.Content.{Content}
use Rattle.disk_model.specs.Sectors.{sectors, same_block, overlap}
use Rattle.disk_model.proofs.Frames.{same_block-is}
use Rattle.plan_values.specs.record_model.declared.attribute.Attr.{Attr}
use Rattle.plan_values.specs.record_model.declared.runs.Run.{Run}
use Rattle.plan_values.specs.record_model.Constants.{data_type}
use Rattle.plan_values.specs.record_model.Pairs.{Follow, HasSpelling}
use Rattle.plan_values.specs.record_model.Records.{Record}
use Rattle.plan_values.specs.state_model.declared.geometry.Geometry.{Geometry}
use Rattle.plan_values.specs.state_model.declared.stream.Extents.{Extents}
use Rattle.plan_values.specs.state_model.declared.stream.Stream.{Stream}
use Rattle.plan_values.specs.state_model.declared.stream.Stream.TheVariants.{Placed}
use Rattle.plan_values.specs.state_model.Loads.{total_clusters}
use Rattle.plan_values.specs.state_model.Streams.{attributes_of, stream_of, holds, lcn_in, block_at}
use Rattle.plan_values.specs.volume_model.Volumes.{Volume, bitmap_file, file_in, file_stream}
use Rattle.plan_values.specs.volume_model.Sizes.{fits_volume, is_hole, has_hole, keeps_streams, keeps_whole}
use Rattle.plan_values.specs.stream_laws.Places.{AreOnce}
use Rattle.plan_values.specs.stream_laws.Sharing.{stream_at, runs_in}
use Rattle.plan_values.proofs.stream_laws.Changing.{has_sectors}
use Rattle.plan_values.proofs.stream_laws.Placing.{one_place}
use Rattle.plan_values.proofs.stream_laws.Sharing.{stream_once}
use Rattle.plan_values.specs.plan_owners.States.{Stands}
use Rattle.plan_values.proofs.plan_owners.Outside.{once}
use Rattle.plan_values.proofs.plan_owners.Standing.{streams_at}
use Rattle.plan_values.proofs.plan_model.Drafting.{per_is}
use Rattle.draft_resized.specs.draft_streams.Effects.{HasOwnSectors}
use Rattle.plan_values.proofs.plan_growth.Placed.{some_attributes, stream_rule}
use Rattle.plan_values.proofs.plan_growth.Ruled.{sizes_lawful}
use Rattle.plan_edits.specs.Edits.{bitmap_key, HasBitmap, StateHasBitmap}

-- ---- sectors in clusters that lie once

pub shares_itself : (a b : Block) → same_block a b ≡ true → overlap a b ≡ true
shares_itself a b same =
    let some = has_sectors a.kind in
    ap (overlap a) (sym (same_block-is a b same)) ∙ and_from (ltb a.first (a.first + sectors a.kind)) (ltb a.first (a.first + sectors a.kind)) (lt-ltb a.first (a.first + sectors a.kind) (omega (arith, some))) (lt-ltb a.first (a.first + sectors a.kind) (omega (arith, some)))

pub own_by : (per : ℕ) (runs : List Run) → 0 < per → AreOnce runs → HasOwnSectors per runs
own_by per runs some all s t a b other first second = false_from_ne_true (same_block a b) (λ same. other (one_place per runs Plain s t a b some all first second (shares_itself a b same)))

own_sectors : (c : Content) (g : Geometry) (clusters : ℕ) (v : Volume) (bitmap : Extents) → Stands c g clusters v → stream_at v bitmap_key ≡ Some (Placed bitmap) → HasOwnSectors v.per bitmap.runs
own_sectors c g clusters v bitmap state is = own_by v.per bitmap.runs state.some (subst (λ (o : Option Stream). AreOnce (runs_in o)) is (stream_once v bitmap_key (once c g clusters v state)))

-- ---- a place in runs that follow one another, none of them sparse

pub is_there : (v : ℕ) (r : Run) → is_hole r ≡ false → is_some (lcn_in v (Some r)) ≡ true
is_there v r whole = by_lcn r.lcn whole
  where
    by_lcn : (o : Option ℕ) → not (is_some o) ≡ false → is_some (option_map (λ (lcn : ℕ). lcn + (v - r.vcn)) o) ≡ true
    by_lcn None is = absurd cc
    by_lcn (Some lcn) is = refl

pub taken_here : (v : ℕ) (r : Run) (t : Bool) (rest : Option Run) → t ≡ true → is_hole r ≡ false → is_some (lcn_in v (cond t (Some r) rest)) ≡ true
taken_here v r true rest here whole = is_there v r whole
taken_here v r false rest here whole = absurd cc

pub taken_there : (v : ℕ) (r : Run) (t : Bool) (rest : Option Run) → is_hole r ≡ false → is_some (lcn_in v rest) ≡ true → is_some (lcn_in v (cond t (Some r) rest)) ≡ true
taken_there v r true rest whole there = is_there v r whole
taken_there v r false rest whole there = there

pub found_in : (runs : List Run) (n v : ℕ) → Follow 0 n runs → list_any is_hole runs ≡ false → n ≤ v → v < n + total_clusters runs → is_some (lcn_in v (find (holds v v) runs)) ≡ true
found_in [] n v follow whole low high = absurd (omega (arith, low, high))
found_in (r ∷ runs) n v follow whole low high =
    let parts = or_parts (is_hole r) (list_any is_hole runs) whole in
    let within = follow.0.within in
    let begins : r.vcn ≡ n = follow.0.vcn ∙ omega (arith, within) in
    elim (cases_lt v (n + r.len)) [
      | inl less ↦ taken_here v r (holds v v r) (find (holds v v) runs) (and_from (leb r.vcn v) (ltb v (r.vcn + r.len)) (le-leb r.vcn v (omega (arith, begins, low))) (lt-ltb v (r.vcn + r.len) (omega (arith, begins, less)))) parts.0
      | inr ge ↦ taken_there v r (holds v v r) (find (holds v v) runs) parts.0 (found_in runs (n + r.len) v follow.1 parts.1 ge (omega (arith, high)))
    ]

pub mapped : (f : ℕ → Block) (o : Option ℕ) → is_some o ≡ true → is_some (option_map f o) ≡ true
mapped f None is = absurd cc
mapped f (Some x) is = refl

pub lies_by : (per s : ℕ) (runs : List Run) → HasSpelling 0 runs → list_any is_hole runs ≡ false → 1 * s / per < total_clusters runs → is_some (block_at per runs Plain s) ≡ true
unfolding block_at
lies_by per s runs spelled whole below =
    let last : 1 * s + 1 - 1 ≡ 1 * s = omega arith in
    mapped (λ lcn. record { first = lcn * per + 1 * s % per; kind = Plain }) (lcn_in (1 * s / per) (find (holds (1 * s / per) ((1 * s + 1 - 1) / per)) runs))
    (ap (λ (x : ℕ). is_some (lcn_in (1 * s / per) (find (holds (1 * s / per) (x / per)) runs))) last ∙ found_in runs 0 (1 * s / per) spelled whole (omega arith) (omega (arith, below)))

pub in_total : (per total initialised s : ℕ) → per ≡ 8 → initialised ≤ total * (512 * per) → 512 * s < initialised → 1 * s / per < total
in_total per total initialised s eight = subst (λ (p : ℕ). initialised ≤ total * (512 * p) → 512 * s < initialised → 1 * s / p < total) (sym eight) (λ least begins. omega (arith, least, begins))

-- ---- the rules of a state

file_of : (o : Option Record) (e : Extents) → file_stream data_type [] o ≡ Some (Placed e) → (r : Record) × ((o ≡ Some r) × (stream_of data_type [] r.attrs ≡ Some (Placed e)))
file_of None e is = absurd cc
file_of (Some r) e is = (r, (refl, is))

module _ (c : Content) (g : Geometry) (clusters : ℕ) (v : Volume) (bitmap : Extents) (eight : g.per_cluster ≡ 8) (state : Stands c g clusters v) (is : stream_at v bitmap_key ≡ Some (Placed bitmap)) where
  file : (r : Record) × ((file_in v bitmap_file ≡ Some r) × (stream_of data_type [] r.attrs ≡ Some (Placed bitmap)))
  file = file_of (file_in v bitmap_file) bitmap is

  some : (a : Attr) × (others : List Attr) × (attributes_of data_type [] file.0.attrs ≡ a ∷ others)
  unfolding stream_of
  some = some_attributes (attributes_of data_type [] file.0.attrs) (Placed bitmap) file.1.1

  fits : fits_volume v.per v.clusters (Some (Placed bitmap)) ≡ true
  unfolding keeps_streams
  fits =
      let all = (and_parts _ _ (and_parts _ _ (and_parts _ _ (streams_at c g clusters v bitmap_file file.0 state file.1.0)).0).0).0 in
      sym (ap (fits_volume v.per v.clusters) file.1.1) ∙ (stream_rule v.per v.clusters data_type [] file.0 some.0 some.1 (λ e. omega (arith, e)) some.2 all).1

  negated : (t : Bool) → not t ≡ true → t ≡ false
  negated true none = absurd cc
  negated false none = refl

  whole : list_any is_hole bitmap.runs ≡ false
  unfolding keeps_streams keeps_whole
  whole =
      let holes = (and_parts _ _ (and_parts _ _ (and_parts _ _ (streams_at c g clusters v bitmap_file file.0 state file.1.0)).0).0).1 in
      sym (ap has_hole file.1.1) ∙ negated (has_hole (stream_of data_type [] file.0.attrs)) (and_parts _ _ (and_parts _ _ holes).0).0

  bits_stand : HasSpelling 0 bitmap.runs → v.clusters ≤ 8 * bitmap.initialised → HasBitmap v bitmap
  bits_stand spelled below =
      let sizes = sizes_lawful v.per v.clusters bitmap fits in
      let low = sizes.0 in
      let high = sizes.1 in
      record {
        stream = is;
        lawful = low;
        below = below;
        lies = λ s begins. lies_by v.per s bitmap.runs spelled whole (in_total v.per (total_clusters bitmap.runs) bitmap.initialised s (per_is c g clusters v eight state) (omega (arith, low, high)) begins);
      }

pub state_bitmap : StateHasBitmap
state_bitmap = record {
  own = own_sectors;
  bits = λ c g clusters v bitmap eight state is spelled below. bits_stand c g clusters v bitmap eight state is spelled below;
}
