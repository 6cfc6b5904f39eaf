-- A bitmap of numbers that stands in record 0, where the file table grows: it stays, or leaves for clusters, as a step counts it.
use Rattle.std.proofs.Common.{◌≡◌, ℕ, ◌+◌, ◌-◌, ◌*◌, ◌/◌, ◌<◌, ◌≤◌, max, Bool, true, false, ◌||◌, cond, leb, List, [], ◌∷◌, ◌++◌, length, Option, Some, None, Result, refl, sym, ap, ap₂, subst, ◌∙◌, inl, inr, arith}
use Rattle.std.proofs.lemmas.Bool.{cases_Bool, leb-true, ne_eqb}
use Rattle.std.proofs.lemmas.List.{length-append}
use Rattle.host_base.specs.Answers.{needs}
use Rattle.disk_model.specs.Bytes.{zeros}
use Rattle.disk_model.specs.Content.{Content}
use Rattle.record_model.specs.declared.attribute.Attr.{Attr}
use Rattle.record_model.specs.declared.runs.Run.{Run}
use Rattle.record_model.specs.Constants.{bitmap_type, data_type}
use Rattle.record_model.specs.Records.{Record}
use Rattle.space_model.specs.Choosing.{chosen, with_runs}
use Rattle.state_model.specs.declared.geometry.Geometry.{Geometry}
use Rattle.state_model.specs.declared.stream.Extents.{Extents}
use Rattle.state_model.specs.declared.stream.Stream.{Stream}
use Rattle.state_model.specs.declared.stream.Stream.TheVariants.{Held, Placed}
use Rattle.state_model.specs.Loads.{record_count, total_clusters}
use Rattle.state_model.specs.Streams.{real_size}
use Rattle.volume_model.specs.Nodes.{clusters_or}
use Rattle.volume_model.specs.Volumes.{Volume, cluster_bits, count_of, file_in, file_stream, record_bitmap, size_or, table_file}
use Rattle.volume_state.specs.Trees.{tree_of}
use Rattle.stream_laws.specs.Sharing.{runs_in, stream_at}
use Rattle.tree_model.specs.Needs.{clusters_for}
use Rattle.stream_runs.specs.Runs.{grown}
use Rattle.plan_owners.specs.States.{Stands}
use Rattle.plan_owners.proofs.Standing.{records_marked}
use Rattle.plan_draft.specs.declared.touched.Touched.{Touched}
use Rattle.plan_draft.specs.Drafts.{drafted}
use Rattle.plan_draft.proofs.Parts.{zeros_long}
use Rattle.plan_table.specs.Growing.{longer_table, BitmapBecomes}
use Rattle.plan_table.specs.record_values.Values.{valued_record}
use Rattle.plan_table.proofs.Table.{table_records}
use Rattle.table_edits.specs.draft_growth.draft_bitmaps.declared.bitmap.Bitmap.{Bitmap}
use Rattle.table_edits.specs.draft_growth.draft_bitmaps.Bitmaps.{with_value}
use Rattle.table_edits.specs.draft_growth.declared.table.Table.{Table}
use Rattle.table_edits.specs.draft_growth.Growing.{behind_records, bitmap_behind, bitmap_size, filled_up, more_for, numbers_bytes, numbers_in, size_in, standing_in, stays_or_leaves}
use Rattle.table_edits.specs.draft_growth.record_streams.Placing.{placed_record}
use Rattle.table_edits.specs.draft_growth.resized_streams.Resizing.{clusters_for as clusters_in, unplaced}
use Rattle.table_edits.specs.plan_edits.draft_records.Records.{fits_room, written_bytes}
use Rattle.table_edits.specs.Grown.{table_runs, numbers_runs, GrowsOfVolume}
use Rattle.table_edits.proofs.Chosen.{numbers_size}
use Rattle.table_edits.proofs.plan_growth.Growing.{total-grown}
use Rattle.used_laws.specs.Laws.{IsOther}
use Rattle.used_laws.proofs.Beside.{together, used}
use Rattle.made_trees.proofs.plan_model.Drafting.{per_is}
use Rattle.made_trees.specs.step_model.Placing.{Growth, runs_after, wanted_by}
use Rattle.made_trees.specs.step_model.Used.{is_in_record, most_used, own_attr, placed_attr, stays_in, used_after, value_attr}
use Rattle.made_trees.specs.step_model.Streams.{Comes, as_value, attrs_placed, bits_key, comes, in_clusters, in_record, placed_among, placed_by, stream_in, table_comes, wanted_bits, wanted_table}
use Rattle.made_trees.specs.step_model.Plans.{full_row, grows_table, table_change, table_in, used_if, used_in}
use Rattle.made_steps.specs.Behind.{table_used}
use Rattle.grown_tables.specs.First.{table_volume}
use Rattle.grown_tables.proofs.Counted.{records_by, runs_more, none_chosen}
use Rattle.grown_tables.proofs.First.{CountsNumbers, same_for, becomes, enough, numbers_is, more_is}
use Rattle.grown_tables.proofs.Full.{records_are, at_first, counted, some_data, some_bits, records_file, data_attr, own_kind, more_bits, not_full}

-- what has no clusters has no room for a number
none_in : (n room clusters bytes : ℕ) → clusters ≡ 0 → room ≤ clusters * bytes → n ≤ 8 * room → n ≡ 0
none_in n room clusters bytes none fits most = subst (λ (x : ℕ). room ≤ x * bytes → n ≡ 0) (sym none) (λ low. omega (arith, low, most)) fits

-- a value that takes no clusters stays one
still_held : (per count : ℕ) (value : List ℕ) (more : List Run) (x y : Stream) → x ≡ Held value → more ≡ [] → 0 < count → BitmapBecomes per more x y → count ≤ 8 * real_size y → (bytes : List ℕ) × (y ≡ Held bytes)
still_held per count value more (Placed e) y is none some come most = absurd cc
still_held per count value more (Held bytes) (Held now) is none some come most = (now, refl)
still_held per count value more (Held bytes) (Placed f) is none some come most =
    let grown_by = ap total_clusters come.runs in
    let total = total-grown [] more in
    let nothing = ap total_clusters none in
    let no_runs : total_clusters f.runs ≡ 0 = omega (arith, grown_by, total, nothing) in
    let room = come.room in
    let all = come.allocated in
    let zero_count = none_in count f.real (total_clusters f.runs) (512 * per) no_runs (omega (arith, room, all)) most in
    absurd (omega (arith, zero_count, some))

-- a value that takes clusters is in these
in_clusters_now : (per : ℕ) (value : List ℕ) (more : List Run) (x y : Stream) → x ≡ Held value → 0 < total_clusters more → BitmapBecomes per more x y → (f : Extents) × (y ≡ Placed f) × (f.runs ≡ grown [] more)
in_clusters_now per value more (Placed e) y is some come = absurd cc
in_clusters_now per value more (Held bytes) (Held now) is some come = (let none = ap total_clusters come in absurd (omega (arith, none, some)))
in_clusters_now per value more (Held bytes) (Placed f) is some come = (f, refl, come.runs)

none_after : [] ≡ runs_after (in_record bits_key)
unfolding runs_after
none_after = refl

module _ (c : Content) (g : Geometry) (clusters : ℕ) (v : Volume) (bitmap mirror : Extents) (t : Table) (b : Bitmap) (new : List Touched) (after : Table) (marked : Bitmap) (eight : g.per_cluster ≡ 8) (state : Stands c g clusters v) (none : grows_table (tree_of c v) ≡ true)
    (k : GrowsOfVolume c v (cluster_bits c v) bitmap mirror t b [] new after marked) (value : List ℕ) (at : t.bitmap.stream ≡ Held value) (short : length value ≤ 1024) where
  abbrev bits : List Bool
  bits = cluster_bits c v

  abbrev more : List Run
  more = table_runs (cluster_bits c v) t

  abbrev bits_more : List Run
  bits_more = numbers_runs v.per (cluster_bits c v) t

  abbrev r : Record
  r = t.bitmap.file

  abbrev f : Extents
  f = longer_table v.per (table_runs (cluster_bits c v) t) v.table

  abbrev q : Record
  q = placed_record v.per data_type [] (longer_table v.per (table_runs (cluster_bits c v) t) v.table) t.bitmap.file

  abbrev own_data : Attr
  own_data = placed_attr f.real f.initialised f.runs (own_attr data_type [] r)

  abbrev u : Volume
  u = table_volume c v t after

  abbrev G : Growth
  G = records_by (cluster_bits c v) v v.table

  abbrev count : ℕ
  count = (count_of v + 256 + 7) / 8

  abbrev bb : Bitmap
  bb = bitmap_behind v.per (cluster_bits c v) t

  abbrev filled : List ℕ
  filled = filled_up (bitmap_size t) value

  abbrev held : Bitmap
  held = with_value (filled_up (bitmap_size t) value) (bitmap_behind v.per (cluster_bits c v) t)

  all_counted : count_of v ≡ record_count v.table
  all_counted = counted c g clusters v bitmap mirror t b new after marked eight state none k

  numbers_were : stream_in r bits_key ≡ Some (Held value)
  numbers_were = k.stream ∙ ap Some at

  numbers_at : stream_at v bits_key ≡ Some (Held value)
  numbers_at = ap (file_stream bitmap_type []) k.file ∙ numbers_were

  real_is : (wanted_bits v).real ≡ max (length value) count
  real_is = ap (λ (o : Option Stream). max (size_or o) count) numbers_at

  has_clusters : (wanted_bits v).clusters ≡ clusters_for count
  has_clusters = ap (λ (o : Option Stream). max (clusters_or o) (clusters_for count)) numbers_at ∙ omega arith

  size_is : bitmap_size t ≡ max (length value) count
  size_is =
      ap (λ (x : Stream). size_in x (numbers_bytes t)) at
      ∙ ap (λ (x : Extents). max (length value) ((record_count x + 256 + 7) / 8)) k.table
      ∙ ap (λ (m : ℕ). max (length value) ((m + 256 + 7) / 8)) (sym all_counted)

  -- ---- the record with the value, as both count it

  abbrev table : Comes
  table = in_clusters (cluster_bits c v) t.bitmap.file (wanted_table v)

  abbrev bytes : ℕ
  bytes = used_after (value_attr (wanted_bits v).real (own_attr bitmap_type [] t.bitmap.file) ∷ (in_clusters (cluster_bits c v) t.bitmap.file (wanted_table v)).attrs) t.bitmap.file

  table_is : table ≡ placed_by r (wanted_table v) G
  table_is = records_are bits r (wanted_table v) v.table (table_records (drafted [] c) g clusters v r (at_first c g clusters v bitmap mirror t b new after marked eight state none k) k.file)

  table_attrs : table.attrs ≡ own_data ∷ []
  table_attrs = ap (λ (x : Comes). x.attrs) table_is ∙ data_attr c g clusters v bitmap mirror t b new after marked eight state none k

  filled_length : length filled ≡ (wanted_bits v).real
  filled_length = (let total = length-append value (zeros (bitmap_size t - length value)) in let behind = zeros_long (bitmap_size t - length value) in let size = size_is in let real = real_is in omega (arith, total, behind, size, real))

  held_file : held.file ≡ valued_record bitmap_type [] filled q
  held_file = ap₂ (λ (kind : ℕ) (x : Record). valued_record kind [] filled x) k.kind (records_file c g clusters v bitmap mirror t b new after marked eight state none k)

  other_kind : (n : ℕ) → IsOther data_type [] (value_attr n (own_attr bitmap_type [] r))
  other_kind n = inl (λ same. (let kind = own_kind c g clusters v bitmap mirror t b new after marked eight state none k in omega (arith, same, kind)))

  bytes_are : bytes ≡ written_bytes held.file
  bytes_are =
      let its = some_data c g clusters v bitmap mirror t b new after marked eight state none k in
      let own = some_bits c g clusters v bitmap mirror t b new after marked eight state none k in
      ap (λ (l : List Attr). used_after (value_attr (wanted_bits v).real (own_attr bitmap_type [] r) ∷ l) r) table_attrs
      ∙ ap (λ (n : ℕ). used_after (value_attr n (own_attr bitmap_type [] r) ∷ own_data ∷ []) r) (sym filled_length)
      ∙ sym (together.placed v.per data_type [] f r its.0 its.1 (value_attr (length filled) (own_attr bitmap_type [] r) ∷ []) its.2 (other_kind (length filled), tt))
      ∙ ap (λ (x : Attr). used_after (value_attr (length filled) x ∷ []) q) (sym (together.own_placed v.per data_type bitmap_type [] [] f r (inl (λ same. omega (arith, same)))))
      ∙ sym (used.valued bitmap_type [] filled q own.0 own.1 own.2)
      ∙ sym (ap written_bytes held_file)

  -- ---- what a step counts

  growths_by : (table_change c v).growths ≡ G ∷ (comes (with_runs table.growth.runs bits) r table.attrs (wanted_bits v)).growth ∷ []
  unfolding table_comes
  growths_by =
      ap (λ (x : Bool). (table_in x bits v (file_in v table_file)).growths) none
      ∙ ap (λ (o : Option Record). (table_in true bits v o).growths) k.file
      ∙ ap (λ (x : Growth). x ∷ (comes (with_runs table.growth.runs bits) r table.attrs (wanted_bits v)).growth ∷ []) (ap (λ (x : Comes). x.growth) table_is)

  stands_by : (low : Bool) → leb bytes most_used ≡ low → stays_in (stream_in r bits_key) (wanted_bits v).real bytes ≡ low
  stands_by low is =
      ap (λ (o : Option Stream). stays_in o (wanted_bits v).real bytes) numbers_were
      ∙ ap (λ (x : Bool). x || leb bytes most_used) (ne_eqb (wanted_bits v).real 0 (λ same. (let real = real_is in omega (arith, same, real))))
      ∙ is

  comes_by : (low : Bool) → leb bytes most_used ≡ low → (comes (with_runs table.growth.runs bits) r table.attrs (wanted_bits v)).growth ≡ (cond low (as_value r (wanted_bits v)) (in_clusters (with_runs table.growth.runs bits) r (wanted_bits v))).growth
  unfolding comes
  comes_by low is = ap (λ (x : Bool). (cond x (as_value r (wanted_bits v)) (in_clusters (with_runs table.growth.runs bits) r (wanted_bits v))).growth) (stands_by low is)

  numbers_by_room : numbers_in v.per bits t ≡ stays_or_leaves (fits_room held.file) value (bitmap_size t)
  numbers_by_room = ap (λ (x : Stream). standing_in x (bitmap_size t) bb) at

  room_by : (low : Bool) → leb bytes most_used ≡ low → fits_room held.file ≡ needs low (written_bytes held.file)
  room_by low is = ap (λ (x : Bool). needs x (written_bytes held.file)) (ap (λ (n : ℕ). leb n 1024) (sym bytes_are) ∙ is)

  -- ---- it stays

  stays : leb bytes most_used ≡ true → CountsNumbers c v u bits_more (in_record bits_key)
  stays is =
      let numbers : numbers_in v.per bits t ≡ Held value = numbers_by_room ∙ ap (λ (m : Result (Unit {0}) ℕ). stays_or_leaves m value (bitmap_size t)) (room_by true is) in
      let no_more : bits_more ≡ [] = ap (more_for v.per (bitmap_size t) (behind_records bits t)) numbers in
      let now = still_held v.per (record_count v.table + 256) value bits_more t.bitmap.stream after.bitmap.stream at no_more (omega arith) (becomes c g clusters v bitmap mirror t b new after marked eight state none k) (enough c g clusters v bitmap mirror t b new after marked eight state none k) in
      let there : stream_at u bits_key ≡ Some (Held now.0) = numbers_is c g clusters v bitmap mirror t b new after marked eight state none k ∙ ap Some now.1 in
      record {
        growths = growths_by ∙ ap (λ (x : Growth). G ∷ x ∷ []) (comes_by true is);
        key = refl;
        runs = no_more;
        placed = sym (none_chosen (with_runs G.runs bits) None);
        grown = record { stands = ap is_in_record there; old = sym (ap runs_in numbers_at); runs = ap runs_in there ∙ none_after };
        came = (let nothing = ap total_clusters no_more in omega (arith, nothing));
      }

  -- ---- it leaves

  abbrev H : Growth
  H = placed_among (with_runs (records_by (cluster_bits c v) v v.table).runs (cluster_bits c v)) [] (wanted_bits v)

  leaves : leb bytes most_used ≡ false → CountsNumbers c v u bits_more H
  unfolding in_clusters
  leaves is =
      let numbers : numbers_in v.per bits t ≡ Placed (unplaced (bitmap_size t)) = numbers_by_room ∙ ap (λ (m : Result (Unit {0}) ℕ). stays_or_leaves m value (bitmap_size t)) (room_by false is) in
      let wanted : clusters_in v.per (bitmap_size t) ≡ (wanted_bits v).clusters =
      (same_for v.per (bitmap_size t) (per_is c g clusters v eight state) ∙ (let size = size_is in let has = has_clusters in let most = short in omega (arith, size, has, most)))
      in
      let are : bits_more ≡ H.runs =
      (ap (more_for v.per (bitmap_size t) (behind_records bits t)) numbers
      ∙ ap₂ (λ (l : List Run) (m : ℕ). chosen (with_runs l bits) None m) (more_is c g clusters v bitmap mirror t b new after marked eight state none k) (let same = wanted in omega (arith, same)))
      in
      let came : total_clusters bits_more ≡ (wanted_bits v).clusters =
      (ap (λ (x : Stream). total_clusters (more_for v.per (bitmap_size t) (behind_records bits t) x)) numbers
      ∙ numbers_size v.per bits (cluster_bits (drafted [] c) v) t k.stands.few k.free k.space k.stands (unplaced (bitmap_size t)) numbers
      ∙ (let same = wanted in omega (arith, same)))
      in
      let some : 0 < (wanted_bits v).clusters = (let has = has_clusters in omega (arith, has)) in
      let now = in_clusters_now v.per value bits_more t.bitmap.stream after.bitmap.stream at (omega (arith, came, some)) (becomes c g clusters v bitmap mirror t b new after marked eight state none k) in
      let there : stream_at u bits_key ≡ Some (Placed now.0) = numbers_is c g clusters v bitmap mirror t b new after marked eight state none k ∙ ap Some now.1 in
      record {
        growths = growths_by ∙ ap (λ (x : Growth). G ∷ x ∷ []) (comes_by false is ∙ ap₂ (λ (o : Option Stream) (x : Comes). placed_among (with_runs x.growth.runs bits) (runs_in o) (wanted_bits v)) numbers_were table_is);
        key = refl;
        runs = are;
        placed = refl;
        grown = record { stands = ap is_in_record there; old = sym (ap runs_in numbers_at); runs = ap runs_in there ∙ now.2 ∙ ap (grown []) are ∙ sym (runs_more H some) };
        came = (let all = came in omega (arith, all));
      }

  pub counts_held : (H : Growth) × CountsNumbers c v (table_volume c v t after) (numbers_runs v.per (cluster_bits c v) t) H
  counts_held = elim (cases_Bool (leb bytes most_used)) [
    | inl is ↦ (in_record bits_key, stays is)
    | inr is ↦ (placed_among (with_runs (records_by (cluster_bits c v) v v.table).runs (cluster_bits c v)) [] (wanted_bits v), leaves is)
  ]

  -- ---- record 0 isn't too full

  comes_attrs : (low : Bool) → leb bytes most_used ≡ low → (comes (with_runs table.growth.runs bits) r table.attrs (wanted_bits v)).attrs ≡ (cond low (as_value r (wanted_bits v)) (in_clusters (with_runs table.growth.runs bits) r (wanted_bits v))).attrs
  unfolding comes
  comes_attrs low is = ap (λ (x : Bool). (cond x (as_value r (wanted_bits v)) (in_clusters (with_runs table.growth.runs bits) r (wanted_bits v))).attrs) (stands_by low is)

  low_by : leb bytes most_used ≡ true → used_after ((comes (with_runs table.growth.runs bits) r table.attrs (wanted_bits v)).attrs ++ table.attrs) r ≤ most_used
  low_by is =
      let attrs = ap (λ (l : List Attr). used_after (l ++ table.attrs) r) (comes_attrs true is) in
      let low = leb-true bytes most_used is in
      omega (arith, attrs, low)

  high_by : leb bytes most_used ≡ false → used_after ((comes (with_runs table.growth.runs bits) r table.attrs (wanted_bits v)).attrs ++ table.attrs) r ≤ most_used
  unfolding in_clusters
  high_by is =
      let attrs : (comes (with_runs table.growth.runs bits) r table.attrs (wanted_bits v)).attrs ≡ attrs_placed r (wanted_bits v) H =
      (comes_attrs false is ∙ ap₂ (λ (o : Option Stream) (x : Comes). attrs_placed r (wanted_bits v) (placed_among (with_runs x.growth.runs bits) (runs_in o) (wanted_bits v))) numbers_were table_is)
      in
      let both = ap₂ (λ (l m : List Attr). used_after (l ++ m) r) attrs (ap (λ (x : Comes). x.attrs) table_is) in
      let numbers : numbers_in v.per bits t ≡ Placed (unplaced (bitmap_size t)) = numbers_by_room ∙ ap (λ (m : Result (Unit {0}) ℕ). stays_or_leaves m value (bitmap_size t)) (room_by false is) in
      let some : 0 < (wanted_bits v).clusters = (let has = has_clusters in omega (arith, has)) in
      let low = more_bits c g clusters v bitmap mirror t b new after marked eight state none k (unplaced (bitmap_size t)) numbers (leaves is).runs some in
      omega (arith, both, low)

  pub held_room : full_row (table_used c v) ≡ None
  unfolding table_comes
  held_room =
      ap (λ (x : Bool). full_row (used_if x (used_in (file_in v table_file) (table_in x bits v (file_in v table_file))))) none
      ∙ ap (λ (o : Option Record). full_row (used_in o (table_in true bits v o))) k.file
      ∙ not_full (used_after (table_comes bits v r).attrs r) (elim (cases_Bool (leb bytes most_used)) [
        | inl is ↦ low_by is
        | inr is ↦ high_by is
      ])

  -- ---- its clusters

  pub held_little : wanted_by (table_change c v).growths ≤ 65
  held_little =
      let marked_all = records_marked c g clusters v state in
      let size : size_or (record_bitmap v) ≡ length value = ap size_or numbers_at in
      let has = has_clusters in
      let most = short in
      elim (cases_Bool (leb bytes most_used)) [
        | inl is ↦ subst (λ (l : List Growth). wanted_by l ≤ 65) (sym (stays is).growths) (omega arith)
        | inr is ↦ subst (λ (l : List Growth). wanted_by l ≤ 65) (sym (leaves is).growths) (omega (arith, marked_all, size, has, most))
      ]
