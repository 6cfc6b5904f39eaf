-- Record 0 isn't too full where the file table grows.
use Rattle.std.proofs.Common.{◌≡◌, ℕ, ◌<◌, ◌≤◌, Bool, true, false, cond, leb, List, [], ◌∷◌, ◌++◌, Option, Some, None, Ok, refl, sym, ap, ap₂, subst, ◌∙◌, inl, inr, arith}
use Rattle.std.proofs.lemmas.Bool.{cases_lt, eq-eqb, ne_eqb, leb-true, le-ltb}
use Rattle.host_base.specs.Answers.{needs}
use Rattle.disk_model.specs.Content.{Content}
use Rattle.record_model.specs.declared.attribute.Attr.{Attr}
use Rattle.record_model.specs.declared.runs.Run.{Run}
use Rattle.record_model.specs.Constants.{bitmap_type, data_type}
use Rattle.record_model.specs.Records.{Record}
use Rattle.space_model.specs.Choosing.{chosen, with_runs}
use Rattle.state_model.specs.declared.geometry.Geometry.{Geometry}
use Rattle.state_model.specs.declared.stream.Extents.{Extents}
use Rattle.state_model.specs.declared.stream.Stream.{Stream}
use Rattle.state_model.specs.declared.stream.Stream.TheVariants.{Placed}
use Rattle.state_model.specs.Loads.{record_count, total_clusters}
use Rattle.state_model.specs.Streams.{attributes_of, stream_of}
use Rattle.volume_model.specs.Volumes.{Volume, cluster_bits, count_of, file_in, table_file}
use Rattle.volume_state.specs.Trees.{tree_of}
use Rattle.stream_laws.specs.Sharing.{runs_in}
use Rattle.stream_laws.proofs.Rewriting.{count_is}
use Rattle.tree_model.specs.declared.reply.Reply.TheVariants.{RecordFull}
use Rattle.stream_runs.specs.Runs.{grown, last_cluster}
use Rattle.plan_owners.specs.States.{Stands}
use Rattle.plan_draft.specs.declared.touched.Touched.{Touched}
use Rattle.plan_draft.specs.Drafts.{drafted}
use Rattle.plan_table.specs.Growing.{longer_table}
use Rattle.plan_table.proofs.Table.{table_records, table_initialised}
use Rattle.table_edits.specs.draft_growth.draft_bitmaps.declared.bitmap.Bitmap.{Bitmap}
use Rattle.table_edits.specs.draft_growth.declared.table.Table.{Table}
use Rattle.table_edits.specs.draft_growth.Growing.{bitmap_behind, bitmap_size, grown_record, numbers_in, larger, roomier, with_records, with_room}
use Rattle.table_edits.specs.draft_growth.record_streams.Placing.{placed_record}
use Rattle.table_edits.specs.draft_growth.resized_streams.Resizing.{lengthened}
use Rattle.table_edits.specs.plan_edits.draft_records.Records.{fits_room, written_bytes}
use Rattle.table_edits.specs.Grown.{table_runs, numbers_runs, GrowsOfVolume}
use Rattle.table_edits.proofs.Again.{placed_again}
use Rattle.table_edits.proofs.plan_growth.Placed.{some_attributes}
use Rattle.table_edits.proofs.plan_edits.record_streams.Streams.{attribute_kind, first_passes, placed_others}
use Rattle.used_laws.specs.Laws.{IsOther}
use Rattle.used_laws.proofs.Beside.{together, used}
use Rattle.used_laws.proofs.Staying.{sizes}
use Rattle.made_trees.specs.step_model.Placing.{Growth, runs_after}
use Rattle.made_trees.specs.step_model.Used.{first_or, most_used, new_attr, own_attr, placed_attr, stays_in, used_after, value_attr}
use Rattle.made_trees.specs.step_model.Streams.{Comes, Wanted, as_value, attr_in, attrs_placed, comes, in_clusters, placed_among, placed_by, stream_in, table_comes, wanted_bits, wanted_table}
use Rattle.made_trees.specs.step_model.Plans.{full_row, grows_table, table_in, used_if, used_in}
use Rattle.made_steps.specs.Behind.{table_used}
use Rattle.grown_tables.proofs.Counted.{records_by, numbers_by, runs_more, none_chosen}
use Rattle.grown_tables.proofs.First.{state_first, more_is, bits_are, numbers_as, has_clusters}

-- ---- what comes into record 0

placed_is : (bits : List Bool) (r : Record) (others : List Attr) (w : Wanted) (e : Extents) → stream_in r w.stream ≡ Some (Placed e) → (comes bits r others w).attrs ≡ attrs_placed r w (placed_among bits e.runs w)
unfolding comes in_clusters
placed_is bits r others w e is = ap (λ (o : Option Stream). (cond (stays_in o w.real (used_after (value_attr w.real (attr_in r w.stream) ∷ others) r)) (as_value r w) (placed_by r w (placed_among bits (runs_in o) w))).attrs) is

pub records_are : (bits : List Bool) (r : Record) (w : Wanted) (e : Extents) → stream_in r w.stream ≡ Some (Placed e) → in_clusters bits r w ≡ placed_by r w (placed_among bits e.runs w)
unfolding in_clusters
records_are bits r w e is = ap (λ (o : Option Stream). placed_by r w (placed_among bits (runs_in o) w)) is

table_attrs : (bits : List Bool) (v : Volume) (r : Record) (e f : Extents) → stream_of data_type [] r.attrs ≡ Some (Placed e) → stream_of bitmap_type [] r.attrs ≡ Some (Placed f) → (table_comes bits v r).attrs ≡ attrs_placed r (wanted_bits v) (numbers_by bits v e f) ++ attrs_placed r (wanted_table v) (records_by bits v e)
unfolding table_comes
table_attrs bits v r e f records numbers =
    let first : Comes = in_clusters bits r (wanted_table v) in
    let own : first ≡ placed_by r (wanted_table v) (records_by bits v e) = records_are bits r (wanted_table v) e records in
    ap₂ (λ (x y : List Attr). x ++ y) (placed_is (with_runs first.growth.runs bits) r first.attrs (wanted_bits v) f numbers ∙ ap (λ (x : Comes). attrs_placed r (wanted_bits v) (placed_among (with_runs x.growth.runs bits) f.runs (wanted_bits v))) own) (ap (λ (x : Comes). x.attrs) own)

no_attr : (r : Record) (w : Wanted) (g : Growth) → w.clusters ≡ total_clusters g.old → attrs_placed r w g ≡ []
no_attr r w g same = ap (λ (t : Bool). cond t [] (placed_attr w.real w.initialised (runs_after g) (attr_in r w.stream) ∷ [])) (eq-eqb w.clusters (total_clusters g.old) same)

one_attr : (r : Record) (w : Wanted) (g : Growth) → total_clusters g.old < w.clusters → attrs_placed r w g ≡ placed_attr w.real w.initialised (runs_after g) (attr_in r w.stream) ∷ []
one_attr r w g more = ap (λ (t : Bool). cond t [] (placed_attr w.real w.initialised (runs_after g) (attr_in r w.stream) ∷ [])) (ne_eqb w.clusters (total_clusters g.old) (λ same. omega (arith, same, more)))

-- ---- room

fits_by : (t : Bool) (bytes : ℕ) → needs t bytes ≡ Ok tt → t ≡ true
fits_by true bytes is = refl
fits_by false bytes is = absurd cc

has_room : (p : Record) → fits_room p ≡ Ok tt → written_bytes p ≤ 1024
has_room p is = leb-true (written_bytes p) 1024 (fits_by (leb (written_bytes p) 1024) (written_bytes p) is)

pub not_full : (bytes : ℕ) → bytes ≤ most_used → full_row (bytes ∷ []) ≡ None
not_full bytes low = ap (λ (t : Bool). cond t (Some (RecordFull bytes)) None) (le-ltb most_used bytes low)

module _ (c : Content) (g : Geometry) (clusters : ℕ) (v : Volume) (bitmap mirror : Extents) (t : Table) (b : Bitmap) (new : List Touched) (after : Table) (marked : Bitmap) (eight : g.per_cluster ≡ 8) (state : Stands c g clusters v) (none : grows_table (tree_of c v) ≡ true)
    (k : GrowsOfVolume c v (cluster_bits c v) bitmap mirror t b [] new after marked) where
  abbrev first : Content
  first = drafted [] c

  abbrev bits : List Bool
  bits = cluster_bits c v

  abbrev more : List Run
  more = table_runs (cluster_bits c v) t

  abbrev bits_more : List Run
  bits_more = numbers_runs v.per (cluster_bits c v) t

  abbrev r : Record
  r = t.bitmap.file

  abbrev f : Extents
  f = longer_table v.per (table_runs (cluster_bits c v) t) v.table

  abbrev G : Growth
  G = records_by (cluster_bits c v) v v.table

  pub at_first : Stands first g clusters v
  at_first = state_first c g clusters v bitmap mirror t b new after marked eight state none k

  records_were : stream_of data_type [] r.attrs ≡ Some (Placed v.table)
  records_were = table_records first g clusters v r at_first k.file

  pub counted : count_of v ≡ record_count v.table
  counted = count_is c g clusters v state.loaded

  pub some_data : (a : Attr) × (others : List Attr) × (attributes_of data_type [] r.attrs ≡ a ∷ others)
  unfolding stream_of
  some_data = some_attributes (attributes_of data_type [] r.attrs) (Placed v.table) records_were

  -- record 0 with the longer table
  abbrev q : Record
  q = placed_record v.per data_type [] (longer_table v.per (table_runs (cluster_bits c v) t) v.table) t.bitmap.file

  pub some_bits : (a : Attr) × (others : List Attr) × (attributes_of bitmap_type [] q.attrs ≡ a ∷ others)
  unfolding stream_of
  some_bits =
      let own : (a : Attr) × (others : List Attr) × (attributes_of bitmap_type [] r.attrs ≡ a ∷ others) = some_attributes (attributes_of bitmap_type [] r.attrs) t.bitmap.stream k.stream in
      (own.0, own.1, placed_others v.per data_type bitmap_type [] [] f r (inl (λ same. omega (arith, same))) ∙ own.2)

  pub records_file : with_records v.per more t ≡ q
  records_file =
      ap (λ (x : Extents). placed_record v.per data_type [] (larger (lengthened v.per more x)) (placed_record v.per data_type [] (lengthened v.per more x) r)) k.table
      ∙ placed_again v.per data_type [] (lengthened v.per more v.table) f r some_data.0 some_data.1 some_data.2

  -- ---- the attribute of the records

  abbrev own_data : Attr
  own_data = placed_attr f.real f.initialised f.runs (own_attr data_type [] r)

  pub data_attr : attrs_placed r (wanted_table v) G ≡ own_data ∷ []
  data_attr =
      one_attr r (wanted_table v) G (omega arith)
      ∙ ap (λ (l : List Run). placed_attr (wanted_table v).real (wanted_table v).initialised l (own_attr data_type [] r) ∷ []) (runs_more G (omega arith) ∙ ap (grown v.table.runs) (sym (more_is c g clusters v bitmap mirror t b new after marked eight state none k)))
      ∙ ap₂ (λ (x y : ℕ). placed_attr x y f.runs (own_attr data_type [] r) ∷ [])
      (let whole = k.whole in let size = counted in omega (arith, whole, size))
      (let whole = k.whole in let size = counted in let begun = table_initialised first g clusters v r at_first k.file in omega (arith, whole, size, begun))

  pub own_kind : (own_attr bitmap_type [] r).head.kind ≡ bitmap_type
  unfolding stream_of own_attr
  own_kind =
      let own : (a : Attr) × (others : List Attr) × (attributes_of bitmap_type [] r.attrs ≡ a ∷ others) = some_attributes (attributes_of bitmap_type [] r.attrs) t.bitmap.stream k.stream in
      ap (λ (l : List Attr). (first_or (new_attr bitmap_type []) l).head.kind) own.2 ∙ (attribute_kind bitmap_type [] own.0 (first_passes bitmap_type [] r.attrs own.0 own.1 own.2)).0

  other_kind : (real initialised : ℕ) (runs : List Run) → IsOther data_type [] (placed_attr real initialised runs (own_attr bitmap_type [] r))
  other_kind real initialised runs = inl (λ same. (let kind = own_kind in omega (arith, same, kind)))

  -- ---- where the bitmap comes to have clusters

  module _ (e : Extents) (stands_as : numbers_in v.per (cluster_bits c v) t ≡ Placed e) (are : numbers_runs v.per (cluster_bits c v) t ≡ (numbers_by (cluster_bits c v) v v.table e).runs) where
    abbrev K : Growth
    K = numbers_by (cluster_bits c v) v v.table e

    -- ---- with another bitmap

    abbrev roomy : Extents
    roomy = roomier v.per (bitmap_size t) (numbers_runs v.per (cluster_bits c v) t) e

    -- of the sizes that a step counts
    abbrev wide : Extents
    wide = record { runs = grown e.runs (numbers_runs v.per (cluster_bits c v) t); allocated = 0; real = (wanted_bits v).real; initialised = (wanted_bits v).initialised }

    grown_file : grown_record v.per bits t ≡ placed_record v.per bitmap_type [] roomy q
    grown_file =
        ap (λ (x : Stream). (with_room v.per (bitmap_size t) bits_more x (bitmap_behind v.per bits t)).file) stands_as
        ∙ ap₂ (λ (kind : ℕ) (x : Record). placed_record v.per kind [] roomy (placed_record v.per kind [] (lengthened v.per bits_more e) x)) k.kind records_file
        ∙ placed_again v.per bitmap_type [] (lengthened v.per bits_more e) roomy q some_bits.0 some_bits.1 some_bits.2

    pub more_bits : total_clusters e.runs < (wanted_bits v).clusters → used_after (attrs_placed r (wanted_bits v) K ++ attrs_placed r (wanted_table v) G) r ≤ most_used
    more_bits up =
        let runs : runs_after K ≡ wide.runs = runs_more K up ∙ ap (grown e.runs) (sym are) in
        let own_bits : Attr = placed_attr wide.real wide.initialised wide.runs (own_attr bitmap_type [] r) in
        let attrs : attrs_placed r (wanted_bits v) K ++ attrs_placed r (wanted_table v) G ≡ own_bits ∷ own_data ∷ [] =
        ap₂ (λ (x y : List Attr). x ++ y) (one_attr r (wanted_bits v) K up ∙ ap (λ (l : List Run). placed_attr wide.real wide.initialised l (own_attr bitmap_type [] r) ∷ []) runs) data_attr
        in
        let beside : used_after (own_bits ∷ []) q ≡ used_after (own_bits ∷ own_data ∷ []) r = together.placed v.per data_type [] f r some_data.0 some_data.1 (own_bits ∷ []) some_data.2 (other_kind wide.real wide.initialised wide.runs, tt) in
        let own_is : used_after (placed_attr wide.real wide.initialised wide.runs (own_attr bitmap_type [] q) ∷ []) q ≡ used_after (own_bits ∷ []) q =
        ap (λ (x : Attr). used_after (placed_attr wide.real wide.initialised wide.runs x ∷ []) q) (together.own_placed v.per data_type bitmap_type [] [] f r (inl (λ same. omega (arith, same))))
        in
        let written : written_bytes (placed_record v.per bitmap_type [] wide q) ≡ used_after (placed_attr wide.real wide.initialised wide.runs (own_attr bitmap_type [] q) ∷ []) q = used.placed v.per bitmap_type [] wide q some_bits.0 some_bits.1 some_bits.2 in
        let again : written_bytes (placed_record v.per bitmap_type [] wide (placed_record v.per bitmap_type [] roomy q)) ≡ written_bytes (placed_record v.per bitmap_type [] roomy q) = sizes.again v.per bitmap_type [] roomy wide q some_bits.0 some_bits.1 some_bits.2 refl in
        let over : placed_record v.per bitmap_type [] wide (placed_record v.per bitmap_type [] roomy q) ≡ placed_record v.per bitmap_type [] wide q = placed_again v.per bitmap_type [] roomy wide q some_bits.0 some_bits.1 some_bits.2 in
        let bytes : used_after (attrs_placed r (wanted_bits v) K ++ attrs_placed r (wanted_table v) G) r ≡ written_bytes (grown_record v.per bits t) =
        (ap (λ (l : List Attr). used_after l r) attrs ∙ sym beside ∙ sym own_is ∙ sym written ∙ sym (ap written_bytes over) ∙ again ∙ sym (ap written_bytes grown_file))
        in
        let room = has_room (grown_record v.per bits t) k.room in
        omega (arith, bytes, room)

  -- ---- where the bitmap stands in clusters

  module _ (e : Extents) (at : t.bitmap.stream ≡ Placed e) (fits : numbers_runs v.per (cluster_bits c v) t ≡ [] → fits_room (with_records v.per (table_runs (cluster_bits c v) t) t) ≡ Ok tt) where
    abbrev H : Growth
    H = numbers_by (cluster_bits c v) v v.table e

    numbers_were : stream_of bitmap_type [] r.attrs ≡ Some (Placed e)
    numbers_were = k.stream ∙ ap Some at

    -- ---- record 0 without another bitmap

    same_bits : (wanted_bits v).clusters ≡ total_clusters e.runs → used_after (attrs_placed r (wanted_bits v) H ++ attrs_placed r (wanted_table v) G) r ≤ most_used
    same_bits same =
        let no_more : bits_more ≡ [] = bits_are c g clusters v bitmap mirror t b new after marked eight state none k e at ∙ ap (chosen (with_runs G.runs bits) (last_cluster e.runs)) (omega (arith, same)) ∙ none_chosen (with_runs G.runs bits) (last_cluster e.runs) in
        let attrs : attrs_placed r (wanted_bits v) H ++ attrs_placed r (wanted_table v) G ≡ own_data ∷ [] = ap₂ (λ (x y : List Attr). x ++ y) (no_attr r (wanted_bits v) H same) data_attr in
        let bytes : used_after (attrs_placed r (wanted_bits v) H ++ attrs_placed r (wanted_table v) G) r ≡ written_bytes (with_records v.per more t) =
        (ap (λ (l : List Attr). used_after l r) attrs ∙ sym (used.placed v.per data_type [] f r some_data.0 some_data.1 some_data.2) ∙ sym (ap written_bytes records_file))
        in
        let room = has_room (with_records v.per more t) (fits no_more) in
        omega (arith, bytes, room)

    low : used_after (table_comes bits v r).attrs r ≤ most_used
    low =
        let attrs = table_attrs bits v r v.table e records_were numbers_were in
        subst (λ (l : List Attr). used_after l r ≤ most_used) (sym attrs)
        (elim (cases_lt (total_clusters e.runs) (wanted_bits v).clusters) [
          | inl up ↦ more_bits e (numbers_as c g clusters v bitmap mirror t b new after marked eight state none k e at) (bits_are c g clusters v bitmap mirror t b new after marked eight state none k e at) up
          | inr least ↦ same_bits (let all = has_clusters c g clusters v bitmap mirror t b new after marked eight state none k e at in omega (arith, all, least))
        ])

    pub room_left : full_row (table_used c v) ≡ None
    room_left =
        ap (λ (x : Bool). full_row (used_if x (used_in (file_in v table_file) (table_in x bits v (file_in v table_file))))) none
        ∙ ap (λ (o : Option Record). full_row (used_in o (table_in true bits v o))) k.file
        ∙ not_full (used_after (table_comes bits v r).attrs r) low
