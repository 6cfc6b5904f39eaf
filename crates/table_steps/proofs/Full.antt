-- Record 0 is too full where the file table would grow.
use Rattle.std.proofs.Common.{◌≡◌, ℕ, ◌+◌, ◌-◌, ◌/◌, ◌%◌, ◌<◌, max, Bool, true, false, cond, leb, List, [], ◌∷◌, ◌++◌, Option, Some, None, Err, refl, sym, ap, ap₂, ◌∙◌, inl, inr, arith}
use Rattle.std.proofs.lemmas.Bool.{cases_lt, both_ways, eq-eqb, ne_eqb, le-leb, lt-ltb}
use Rattle.host_base.specs.Answers.{needs}
use Rattle.disk_model.specs.Content.{Content}
use Rattle.record_model.specs.declared.attribute.Attr.{Attr}
use Rattle.record_model.specs.declared.runs.Run.{Run}
use Rattle.record_model.specs.Constants.{bitmap_type, data_type}
use Rattle.record_model.specs.Records.{Record}
use Rattle.space_model.specs.Choosing.{chosen, with_runs}
use Rattle.state_model.specs.declared.geometry.Geometry.{Geometry}
use Rattle.state_model.specs.declared.stream.Extents.{Extents}
use Rattle.state_model.specs.declared.stream.Stream.{Stream}
use Rattle.state_model.specs.declared.stream.Stream.TheVariants.{Placed}
use Rattle.state_model.specs.Loads.{record_count, total_clusters}
use Rattle.state_model.specs.Streams.{attributes_of, stream_of}
use Rattle.volume_model.specs.Nodes.{clusters_or}
use Rattle.volume_model.specs.Volumes.{Volume, cluster_bits, count_of, file_in, file_stream, table_file}
use Rattle.volume_state.specs.Trees.{tree_of}
use Rattle.stream_laws.specs.Sharing.{runs_in, stream_at}
use Rattle.stream_laws.proofs.Rewriting.{count_is}
use Rattle.tree_model.specs.Needs.{clusters_for}
use Rattle.tree_model.specs.declared.reply.Reply.TheVariants.{RecordFull}
use Rattle.stream_runs.specs.Runs.{grown, last_cluster}
use Rattle.plan_owners.specs.States.{Stands}
use Rattle.plan_table.specs.Growing.{longer_table}
use Rattle.plan_table.proofs.Table.{table_records, table_initialised}
use Rattle.table_edits.specs.draft_growth.declared.table.Table.{Table}
use Rattle.table_edits.specs.draft_growth.Growing.{behind_records, bitmap_behind, bitmap_size, grown_record, larger, more_for, numbers_bytes, numbers_in, roomier, size_in, standing_in, with_records, with_room}
use Rattle.table_edits.specs.draft_growth.record_streams.Placing.{placed_record}
use Rattle.table_edits.specs.draft_growth.resized_streams.Resizing.{clusters_for as clusters_in, lengthened}
use Rattle.table_edits.specs.plan_edits.draft_records.Records.{fits_room, written_bytes}
use Rattle.table_edits.specs.Grown.{table_runs, numbers_runs}
use Rattle.table_edits.proofs.Again.{placed_again}
use Rattle.table_edits.proofs.plan_growth.Placed.{some_attributes}
use Rattle.table_edits.proofs.plan_edits.record_streams.Streams.{attribute_kind, first_passes, placed_others}
use Rattle.used_laws.specs.Laws.{IsOther}
use Rattle.used_laws.proofs.Beside.{together, used}
use Rattle.used_laws.proofs.Staying.{sizes}
use Rattle.made_trees.proofs.plan_model.Drafting.{per_is}
use Rattle.made_trees.specs.step_model.Placing.{Growth, runs_after}
use Rattle.made_trees.specs.step_model.Used.{first_or, most_used, new_attr, own_attr, placed_attr, stays_in, used_after, value_attr}
use Rattle.made_trees.specs.step_model.Streams.{Comes, Wanted, as_value, attr_in, attrs_placed, bits_key, comes, in_clusters, placed_among, placed_by, stream_in, table_comes, wanted_bits, wanted_table}
use Rattle.made_trees.specs.step_model.Plans.{full_row, grows_table, table_in, used_if, used_in}
use Rattle.made_steps.specs.Behind.{table_used}
use Rattle.table_makes.proofs.grown_tables.Counted.{records_by, numbers_by, runs_more}
use Rattle.table_makes.proofs.grown_tables.First.{same_for}
use Rattle.table_makes.proofs.grown_tables.Full.{records_are}

-- ---- what comes into record 0

placed_is : (bits : List Bool) (r : Record) (others : List Attr) (w : Wanted) (e : Extents) → stream_in r w.stream ≡ Some (Placed e) → (comes bits r others w).attrs ≡ attrs_placed r w (placed_among bits e.runs w)
unfolding comes in_clusters
placed_is bits r others w e is = ap (λ (o : Option Stream). (cond (stays_in o w.real (used_after (value_attr w.real (attr_in r w.stream) ∷ others) r)) (as_value r w) (placed_by r w (placed_among bits (runs_in o) w))).attrs) is

table_attrs : (bits : List Bool) (v : Volume) (r : Record) (e f : Extents) → stream_of data_type [] r.attrs ≡ Some (Placed e) → stream_of bitmap_type [] r.attrs ≡ Some (Placed f) → (table_comes bits v r).attrs ≡ attrs_placed r (wanted_bits v) (numbers_by bits v e f) ++ attrs_placed r (wanted_table v) (records_by bits v e)
unfolding table_comes
table_attrs bits v r e f records numbers =
    let first : Comes = in_clusters bits r (wanted_table v) in
    let own : first ≡ placed_by r (wanted_table v) (records_by bits v e) = records_are bits r (wanted_table v) e records in
    ap₂ (λ (x y : List Attr). x ++ y) (placed_is (with_runs first.growth.runs bits) r first.attrs (wanted_bits v) f numbers ∙ ap (λ (x : Comes). attrs_placed r (wanted_bits v) (placed_among (with_runs x.growth.runs bits) f.runs (wanted_bits v))) own) (ap (λ (x : Comes). x.attrs) own)

no_attr : (r : Record) (w : Wanted) (g : Growth) → w.clusters ≡ total_clusters g.old → attrs_placed r w g ≡ []
no_attr r w g same = ap (λ (t : Bool). cond t [] (placed_attr w.real w.initialised (runs_after g) (attr_in r w.stream) ∷ [])) (eq-eqb w.clusters (total_clusters g.old) same)

one_attr : (r : Record) (w : Wanted) (g : Growth) → total_clusters g.old < w.clusters → attrs_placed r w g ≡ placed_attr w.real w.initialised (runs_after g) (attr_in r w.stream) ∷ []
one_attr r w g more = ap (λ (t : Bool). cond t [] (placed_attr w.real w.initialised (runs_after g) (attr_in r w.stream) ∷ [])) (ne_eqb w.clusters (total_clusters g.old) (λ same. omega (arith, same, more)))

-- ---- want of room

needs_no : (t : Bool) (bytes n : ℕ) → needs {F = ℕ} t bytes ≡ Err n → (t ≡ false) × (bytes ≡ n)
needs_no true bytes n is = absurd cc
needs_no false bytes n is = (refl, (let same : bytes ≡ n = cc in same))

past_room : (bytes : ℕ) → leb bytes 1024 ≡ false → 1024 < bytes
past_room bytes is = elim (cases_lt 1024 bytes) [
  | inl past ↦ past
  | inr low ↦ absurd (both_ways (leb bytes 1024) is (le-leb bytes 1024 low))
]

full_at : (bytes : ℕ) → 1024 < bytes → full_row (bytes ∷ []) ≡ Some (RecordFull bytes)
full_at bytes past = ap (λ (t : Bool). cond t (Some (RecordFull bytes)) None) (lt-ltb most_used bytes past)

-- the record that would have so many used bytes as this one as it is written
pub full_by : (bytes n : ℕ) (p : Record) → bytes ≡ written_bytes p → fits_room p ≡ Err n → full_row (bytes ∷ []) ≡ Some (RecordFull n)
full_by bytes n p same full =
    let no = needs_no (leb (written_bytes p) 1024) (written_bytes p) n full in
    full_at bytes (let past = past_room (written_bytes p) no.0 in omega (arith, same, past)) ∙ ap (λ (m : ℕ). Some (RecordFull m)) (same ∙ no.1)

module _ (c : Content) (g : Geometry) (clusters : ℕ) (v : Volume) (t : Table) (e : Extents) (eight : g.per_cluster ≡ 8) (state : Stands c g clusters v) (none : grows_table (tree_of c v) ≡ true) (file : file_in v table_file ≡ Some t.bitmap.file) (kind : t.bitmap.kind ≡ bitmap_type) (at : t.bitmap.stream ≡ Placed e)
    (numbers_were : stream_of bitmap_type [] t.bitmap.file.attrs ≡ Some (Placed e)) (table : t.extents ≡ v.table) (whole : v.table.real % 1024 ≡ 0) where
  abbrev bits : List Bool
  bits = cluster_bits c v

  abbrev more : List Run
  more = table_runs (cluster_bits c v) t

  abbrev bits_more : List Run
  bits_more = numbers_runs v.per (cluster_bits c v) t

  abbrev r : Record
  r = t.bitmap.file

  abbrev f : Extents
  f = longer_table v.per (table_runs (cluster_bits c v) t) v.table

  abbrev G : Growth
  G = records_by (cluster_bits c v) v v.table

  abbrev H : Growth
  H = numbers_by (cluster_bits c v) v v.table e

  per_8 : v.per ≡ 8
  per_8 = per_is c g clusters v eight state

  records_were : stream_of data_type [] r.attrs ≡ Some (Placed v.table)
  records_were = table_records c g clusters v r state file

  counted : count_of v ≡ record_count v.table
  counted = count_is c g clusters v state.loaded

  some_data : (a : Attr) × (others : List Attr) × (attributes_of data_type [] r.attrs ≡ a ∷ others)
  unfolding stream_of
  some_data = some_attributes (attributes_of data_type [] r.attrs) (Placed v.table) records_were

  own_bitmap : (a : Attr) × (others : List Attr) × (attributes_of bitmap_type [] r.attrs ≡ a ∷ others)
  unfolding stream_of
  own_bitmap = some_attributes (attributes_of bitmap_type [] r.attrs) (Placed e) numbers_were

  -- record 0 with the longer table
  abbrev q : Record
  q = placed_record v.per data_type [] (longer_table v.per (table_runs (cluster_bits c v) t) v.table) t.bitmap.file

  some_bits : (a : Attr) × (others : List Attr) × (attributes_of bitmap_type [] q.attrs ≡ a ∷ others)
  some_bits = (own_bitmap.0, own_bitmap.1, placed_others v.per data_type bitmap_type [] [] f r (inl (λ same. omega (arith, same))) ∙ own_bitmap.2)

  records_file : with_records v.per more t ≡ q
  records_file =
      ap (λ (x : Extents). placed_record v.per data_type [] (larger (lengthened v.per more x)) (placed_record v.per data_type [] (lengthened v.per more x) r)) table
      ∙ placed_again v.per data_type [] (lengthened v.per more v.table) f r some_data.0 some_data.1 some_data.2

  more_is : more ≡ G.runs
  more_is = ap (λ (x : Extents). chosen bits (last_cluster x.runs) 64) table ∙ ap (chosen bits (last_cluster v.table.runs)) (omega arith)

  -- ---- the bitmap's clusters

  numbers_at : stream_at v bits_key ≡ Some (Placed e)
  numbers_at = ap (file_stream bitmap_type []) file ∙ numbers_were

  numbers_as : numbers_in v.per bits t ≡ Placed e
  numbers_as = ap (λ (x : Stream). standing_in x (bitmap_size t) (bitmap_behind v.per bits t)) at

  size_is : bitmap_size t ≡ (count_of v + 256 + 7) / 8
  size_is = ap (λ (x : Stream). size_in x (numbers_bytes t)) at ∙ ap (λ (x : Extents). (record_count x + 256 + 7) / 8) table ∙ ap (λ (m : ℕ). (m + 256 + 7) / 8) (sym counted)

  has_clusters : (wanted_bits v).clusters ≡ max (total_clusters e.runs) (clusters_for ((count_of v + 256 + 7) / 8))
  has_clusters = ap (λ (o : Option Stream). max (clusters_or o) (clusters_for ((count_of v + 256 + 7) / 8))) numbers_at

  wanted_is : clusters_in v.per (bitmap_size t) ≡ clusters_for ((count_of v + 256 + 7) / 8)
  wanted_is = ap (clusters_in v.per) size_is ∙ same_for v.per ((count_of v + 256 + 7) / 8) per_8

  bits_are : bits_more ≡ H.runs
  bits_are =
      ap (more_for v.per (bitmap_size t) (behind_records bits t)) numbers_as
      ∙ ap₂ (λ (l : List Run) (m : ℕ). chosen (with_runs l bits) (last_cluster e.runs) m) more_is (let all = has_clusters in let wants = wanted_is in omega (arith, all, wants))

  pub lacks : clusters_in v.per (bitmap_size t) - total_clusters e.runs ≡ (wanted_bits v).clusters - total_clusters e.runs
  lacks = (let all = has_clusters in let wants = wanted_is in omega (arith, all, wants))

  -- ---- the attributes

  abbrev own_data : Attr
  own_data = placed_attr f.real f.initialised f.runs (own_attr data_type [] r)

  data_attr : attrs_placed r (wanted_table v) G ≡ own_data ∷ []
  data_attr =
      one_attr r (wanted_table v) G (omega arith)
      ∙ ap (λ (l : List Run). placed_attr (wanted_table v).real (wanted_table v).initialised l (own_attr data_type [] r) ∷ []) (runs_more G (omega arith) ∙ ap (grown v.table.runs) (sym more_is))
      ∙ ap₂ (λ (x y : ℕ). placed_attr x y f.runs (own_attr data_type [] r) ∷ [])
      (let size = counted in omega (arith, whole, size))
      (let size = counted in let begun = table_initialised c g clusters v r state file in omega (arith, whole, size, begun))

  own_kind : (own_attr bitmap_type [] r).head.kind ≡ bitmap_type
  unfolding own_attr
  own_kind = ap (λ (l : List Attr). (first_or (new_attr bitmap_type []) l).head.kind) own_bitmap.2 ∙ (attribute_kind bitmap_type [] own_bitmap.0 (first_passes bitmap_type [] r.attrs own_bitmap.0 own_bitmap.1 own_bitmap.2)).0

  other_kind : (real initialised : ℕ) (runs : List Run) → IsOther data_type [] (placed_attr real initialised runs (own_attr bitmap_type [] r))
  other_kind real initialised runs = inl (λ same. (let its = own_kind in omega (arith, same, its)))

  -- ---- what a step counts

  abbrev roomy : Extents
  roomy = roomier v.per (bitmap_size t) (numbers_runs v.per (cluster_bits c v) t) e

  abbrev wide : Extents
  wide = record { runs = grown e.runs (numbers_runs v.per (cluster_bits c v) t); allocated = 0; real = (wanted_bits v).real; initialised = (wanted_bits v).initialised }

  grown_file : grown_record v.per bits t ≡ placed_record v.per bitmap_type [] roomy q
  grown_file =
      ap (λ (x : Stream). (with_room v.per (bitmap_size t) bits_more x (bitmap_behind v.per bits t)).file) numbers_as
      ∙ ap₂ (λ (n : ℕ) (x : Record). placed_record v.per n [] roomy (placed_record v.per n [] (lengthened v.per bits_more e) x)) kind records_file
      ∙ placed_again v.per bitmap_type [] (lengthened v.per bits_more e) roomy q some_bits.0 some_bits.1 some_bits.2

  with_bitmap : total_clusters e.runs < (wanted_bits v).clusters → used_after (attrs_placed r (wanted_bits v) H ++ attrs_placed r (wanted_table v) G) r ≡ written_bytes (grown_record v.per bits t)
  with_bitmap up =
      let runs : runs_after H ≡ wide.runs = runs_more H up ∙ ap (grown e.runs) (sym bits_are) in
      let own_bits : Attr = placed_attr wide.real wide.initialised wide.runs (own_attr bitmap_type [] r) in
      let attrs : attrs_placed r (wanted_bits v) H ++ attrs_placed r (wanted_table v) G ≡ own_bits ∷ own_data ∷ [] =
      ap₂ (λ (x y : List Attr). x ++ y) (one_attr r (wanted_bits v) H up ∙ ap (λ (l : List Run). placed_attr wide.real wide.initialised l (own_attr bitmap_type [] r) ∷ []) runs) data_attr
      in
      let beside : used_after (own_bits ∷ []) q ≡ used_after (own_bits ∷ own_data ∷ []) r = together.placed v.per data_type [] f r some_data.0 some_data.1 (own_bits ∷ []) some_data.2 (other_kind wide.real wide.initialised wide.runs, tt) in
      let own_is : used_after (placed_attr wide.real wide.initialised wide.runs (own_attr bitmap_type [] q) ∷ []) q ≡ used_after (own_bits ∷ []) q =
      ap (λ (x : Attr). used_after (placed_attr wide.real wide.initialised wide.runs x ∷ []) q) (together.own_placed v.per data_type bitmap_type [] [] f r (inl (λ same. omega (arith, same))))
      in
      let written : written_bytes (placed_record v.per bitmap_type [] wide q) ≡ used_after (placed_attr wide.real wide.initialised wide.runs (own_attr bitmap_type [] q) ∷ []) q = used.placed v.per bitmap_type [] wide q some_bits.0 some_bits.1 some_bits.2 in
      let again : written_bytes (placed_record v.per bitmap_type [] wide (placed_record v.per bitmap_type [] roomy q)) ≡ written_bytes (placed_record v.per bitmap_type [] roomy q) = sizes.again v.per bitmap_type [] roomy wide q some_bits.0 some_bits.1 some_bits.2 refl in
      let over : placed_record v.per bitmap_type [] wide (placed_record v.per bitmap_type [] roomy q) ≡ placed_record v.per bitmap_type [] wide q = placed_again v.per bitmap_type [] roomy wide q some_bits.0 some_bits.1 some_bits.2 in
      ap (λ (l : List Attr). used_after l r) attrs ∙ sym beside ∙ sym own_is ∙ sym written ∙ sym (ap written_bytes over) ∙ again ∙ sym (ap written_bytes grown_file)

  table_alone : (wanted_bits v).clusters ≡ total_clusters e.runs → used_after (attrs_placed r (wanted_bits v) H ++ attrs_placed r (wanted_table v) G) r ≡ written_bytes (with_records v.per more t)
  table_alone same =
      let attrs : attrs_placed r (wanted_bits v) H ++ attrs_placed r (wanted_table v) G ≡ own_data ∷ [] = ap₂ (λ (x y : List Attr). x ++ y) (no_attr r (wanted_bits v) H same) data_attr in
      ap (λ (l : List Attr). used_after l r) attrs ∙ sym (used.placed v.per data_type [] f r some_data.0 some_data.1 some_data.2) ∙ sym (ap written_bytes records_file)

  row_of : (n : ℕ) → full_row (used_after (attrs_placed r (wanted_bits v) H ++ attrs_placed r (wanted_table v) G) r ∷ []) ≡ Some (RecordFull n) → full_row (table_used c v) ≡ Some (RecordFull n)
  row_of n is =
      ap (λ (x : Bool). full_row (used_if x (used_in (file_in v table_file) (table_in x bits v (file_in v table_file))))) none
      ∙ ap (λ (o : Option Record). full_row (used_in o (table_in true bits v o))) file
      ∙ ap (λ (l : List Attr). full_row (used_after l r ∷ [])) (table_attrs bits v r v.table e records_were numbers_were)
      ∙ is

  pub full_alone : (n : ℕ) → clusters_in v.per (bitmap_size t) - total_clusters e.runs ≡ 0 → fits_room (with_records v.per (table_runs (cluster_bits c v) t) t) ≡ Err n → full_row (table_used c v) ≡ Some (RecordFull n)
  full_alone n lacks_none full = row_of n (full_by _ n (with_records v.per more t) (table_alone (let lack = lacks in let all = has_clusters in omega (arith, lack, all, lacks_none))) full)

  pub full_with_bitmap : (n : ℕ) → 0 < clusters_in v.per (bitmap_size t) - total_clusters e.runs → fits_room (grown_record v.per (cluster_bits c v) t) ≡ Err n → full_row (table_used c v) ≡ Some (RecordFull n)
  full_with_bitmap n some full = row_of n (full_by _ n (grown_record v.per bits t) (with_bitmap (let lack = lacks in omega (arith, lack, some))) full)
