-- A file table that has grown first, of which the bitmap of numbers stands in clusters.
use Rattle.std.proofs.Common.{◌≡◌, ◌≢◌, ◌⊎◌, inl, inr, ℕ, zero, suc, ◌+◌, ◌-◌, ◌*◌, ◌/◌, ◌<◌, ◌≤◌, max, Bool, true, false, not, ◌&&◌, ◌||◌, cond, eqb, leb, ltb, nat_eq, List, [], ◌∷◌, ◌++◌, length, Option, Some, None, refl, sym, ap, ap₂, subst, ◌∙◌, arith}
use Rattle.std.specs.Prelude.{is_some, map}
use Rattle.std.specs.List.{range_with_len, AllByRecursion}
use Rattle.std.specs.Cmp.Lexicographic.{pointwise}
use Rattle.std.proofs.lemmas.Bool.{cases_lt, and_parts, and_from, or_cases, both_ways, eqb-true, ne_eqb, leb-true, ltb-true, cases_Bool}
use Rattle.host_base.specs.declared.file_ref.FileRef.{FileRef}
use Rattle.disk_model.specs.declared.block.Block.{Block}
use Rattle.disk_model.specs.declared.block.BlockKind.{BlockKind}
use Rattle.disk_model.specs.declared.block.BlockKind.TheVariants.{FileRec, Plain}
use Rattle.disk_model.specs.Content.{Content, HasSizes}
use Rattle.disk_model.specs.Sectors.{overlap}
use Rattle.record_model.specs.declared.runs.Run.{Run}
use Rattle.record_model.specs.Constants.{bitmap_type, data_type}
use Rattle.record_model.specs.Pairs.{HasSpelling}
use Rattle.record_model.specs.Records.{Record}
use Rattle.file_tree.specs.declared.node.Node.{Node}
use Rattle.file_tree.specs.declared.tree.Tree.{Tree}
use Rattle.file_tree.specs.Trees.{node_at as node_by_number}
use Rattle.file_tree.specs.Walks.{first_user_record}
use Rattle.bit_set.specs.Bits.{bit}
use Rattle.index_model.specs.Indexes.{node_of_block, nodes_of, some_entries}
use Rattle.space_model.specs.Choosing.{chosen, with_runs}
use Rattle.state_model.specs.declared.geometry.Geometry.{Geometry}
use Rattle.state_model.specs.declared.stream.Extents.{Extents}
use Rattle.state_model.specs.declared.stream.Stream.{Stream}
use Rattle.state_model.specs.declared.stream.Stream.TheVariants.{Held, Placed}
use Rattle.state_model.specs.Files.{is_directory_record, links_at}
use Rattle.state_model.specs.Loads.{extents_or, record_count, total_clusters}
use Rattle.state_model.specs.Rules.{implies, at_file, keeps_8}
use Rattle.state_model.specs.Streams.{real_size, stream_of, block_at}
use Rattle.state_model.specs.Trees.{is_in_system, leads}
use Rattle.volume_model.specs.Indexes.{index_place}
use Rattle.volume_model.specs.Nodes.{clusters_or}
use Rattle.volume_model.specs.Owners.{uses}
use Rattle.volume_model.specs.Sizes.{fits_volume}
use Rattle.volume_model.specs.Volumes.{Volume, bytes_or, count_of, file_in, file_stream, files_by_number, table_or_standard, table_file, bitmap_file, mirror_file, upcase_file, upper_of, cluster_bits, record_bitmap, size_or}
use Rattle.volume_state.specs.Rules.{broken_8}
use Rattle.volume_state.specs.Trees.{tree_of, tree_with}
use Rattle.upcase_order.specs.Tables.{upcase_of}
use Rattle.stream_laws.specs.Owners.{stream_kind}
use Rattle.stream_laws.specs.Sharing.{StreamKey, stream_at, runs_in}
use Rattle.stream_laws.specs.Tables.{table_key}
use Rattle.stream_laws.proofs.Framing.{same_node, same_place}
use Rattle.stream_laws.proofs.Placing.{uses-append}
use Rattle.stream_laws.proofs.Rewriting.{count_is}
use Rattle.stream_laws.proofs.Sharing.{uses-none}
use Rattle.stream_laws.proofs.Tabling.{inside_list}
use Rattle.tree_laws.specs.Contents.{SameUpper, SameIndexAt}
use Rattle.tree_laws.specs.Growth.{new_number, new_numbers}
use Rattle.tree_laws.proofs.Agreeing.{same_upper}
use Rattle.tree_laws.proofs.Ascending.{all_by, in_system_kept}
use Rattle.tree_laws.proofs.Keeping.{rules_of, passes_below}
use Rattle.tree_laws.proofs.Shortening.{steady}
use Rattle.tree_model.specs.Needs.{clusters_for}
use Rattle.tree_model.specs.Effects.{ref_at, numbers_to_take, count_to_take, new_numbers as numbers_from, least_ref, lesser_ref}
use Rattle.tree_model.specs.Refusals.{more_records}
use Rattle.stream_runs.specs.Runs.{grown, last_cluster, merged}
use Rattle.plan_owners.specs.States.{Stands}
use Rattle.plan_owners.proofs.Standing.{records_marked, some_file}
use Rattle.plan_bodies.specs.Bodies.{NewBody, content_with, put_bodies}
use Rattle.plan_bodies.proofs.Putting.{contents_put, sized_with}
use Rattle.plan_draft.specs.declared.touched.Touched.{Touched}
use Rattle.plan_draft.specs.Touching.{bodies_of}
use Rattle.plan_draft.specs.Drafts.{drafted}
use Rattle.plan_table.specs.Growing.{longer_table, BitmapBecomes, IsOfTable as IsOfGrown, GrowsVolumeTable, HasLongerTable, gives_table}
use Rattle.plan_table.proofs.Bits.{IsWider, becomes_wider}
use Rattle.plan_table.proofs.Grown.{table_grows}
use Rattle.plan_table.proofs.Table.{table_records, table_whole, table_fits, numbers_fit, numbers_whole}
use Rattle.table_edits.specs.draft_growth.draft_bitmaps.declared.bitmap.Bitmap.{Bitmap}
use Rattle.table_edits.specs.draft_growth.declared.table.Table.{Table}
use Rattle.table_edits.specs.draft_growth.Growing.{behind_records, bitmap_behind, bitmap_size, more_for, numbers_bytes, numbers_in, size_in, standing_in}
use Rattle.table_edits.specs.draft_growth.resized_streams.Resizing.{clusters_for as clusters_in}
use Rattle.table_edits.specs.plan_edits.Moves.{EditsDraft}
use Rattle.table_edits.specs.plan_edits.draft_records.Records.{written_record}
use Rattle.table_edits.specs.Grown.{table_runs, numbers_runs, AreBegun, GrowsOfVolume}
use Rattle.table_edits.proofs.Chosen.{numbers_size}
use Rattle.table_edits.proofs.Edit.{grown_edit, grown_kept, longer_lies, numbers_begun}
use Rattle.table_edits.proofs.plan_edits.Bitmap.{lies_by, in_total}
use Rattle.table_edits.proofs.plan_edits.Putting.{drafts_put}
use Rattle.table_edits.proofs.plan_growth.Growing.{uses-grown}
use Rattle.table_edits.proofs.plan_growth.Ruled.{sizes_lawful}
use Rattle.stream_runs.proofs.Merging.{follow-grown}
use Rattle.made_trees.specs.plan_model.Drafts.{DraftIn, GoesOn, FollowsOwners, gives_none}
use Rattle.made_trees.specs.plan_model.Edits.{IsOwnedIn}
use Rattle.made_trees.proofs.plan_model.Drafting.{begins_empty, goes_on, per_is}
use Rattle.made_trees.specs.made_files.plan_growth.Growing.{MayGive}
use Rattle.made_trees.specs.made_files.plan_growth.Streams.{marks_streams}
use Rattle.made_trees.specs.made_files.plan_values.Values.{IsOwnFile}
use Rattle.made_trees.specs.made_files.Made.{HasNumbers, IsSpare}
use Rattle.made_trees.specs.file_puts.declared.streams.VolumeStreams.{VolumeStreams}
use Rattle.made_trees.specs.file_puts.Written.{AreStreamsOf}
use Rattle.found_places.proofs.Numbers.{number_clear, record_lies}
use Rattle.made_trees.specs.step_model.Placing.{Growth, more_of, runs_after, taken_runs, wanted_by}
use Rattle.made_trees.specs.step_model.Streams.{bits_key, wanted_bits}
use Rattle.made_trees.specs.step_model.Used.{is_in_record}
use Rattle.made_trees.specs.step_model.Plans.{grows_table, table_in, table_change}
use Rattle.made_trees.specs.step_model.Contents.{same_key, is_among, is_touched, touched_streams, HasGrown, MayDiffer, IsLeft}
use Rattle.made_trees.proofs.step_model.Leaving.{contents_left}
use Rattle.made_trees.proofs.written_values.Joining.{nothing_put}
use Rattle.made_trees.specs.Grown.{IsOfTable, KeepsIndex, TableCame, HasGrownBefore}
use Rattle.grown_tables.specs.First.{table_volume}
use Rattle.grown_tables.specs.Ready.{IsReady, TableIsReady}
use Rattle.grown_tables.proofs.Counted.{records_by, numbers_by, table_growths, runs_more, runs_same, none_grown, none_chosen}

-- ---- numbers

none_left : (l : List FileRef) → eqb (length l) 0 ≡ true → l ≡ []
none_left [] is = refl
none_left (x ∷ l) is = (let none : length (x ∷ l) ≡ 0 = eqb-true (length (x ∷ l)) 0 is in absurd (omega (arith, none)))

none_spare : (t : Tree) → grows_table t ≡ true → t.spare ≡ []
unfolding grows_table
none_spare t none = none_left t.spare none

numbers_are : (t : Tree) → grows_table t ≡ true → numbers_to_take t ≡ new_numbers t.count (t.count + 256)
unfolding grows_table numbers_from
numbers_are t none = ap (λ (b : Bool). cond b (numbers_from t.count) t.spare) none

count_is_then : (t : Tree) → grows_table t ≡ true → count_to_take t ≡ t.count + 256
unfolding grows_table
count_is_then t none = ap (λ (b : Bool). cond b (t.count + more_records) t.count) none

spare_from : (came : ℕ) (t u : Tree) → grows_table t ≡ true → HasLongerTable came t u → u.spare ≡ numbers_to_take t
spare_from came t u none has = has.spare ∙ ap₂ (λ (l : List FileRef) (n : ℕ). l ++ new_numbers t.count n) (none_spare t none) has.count ∙ sym (numbers_are t none)

came_from : (came : ℕ) (t u : Tree) → grows_table t ≡ true → HasLongerTable came t u → TableCame t u
came_from came t u none has = record {
  none = none;
  nodes = λ m. ap (λ (l : List Node). node_by_number l m) has.nodes;
  links = has.links;
  spare = λ m. ap (λ (l : List FileRef). ref_at l m) (spare_from came t u none has);
  count = has.count ∙ sym (count_is_then t none);
  journal = has.journal;
}

-- the least number of a list is no greater than its first
lesser_low : (ref : FileRef) (o : Option FileRef) → (lesser_ref ref o).number ≤ ref.number
lesser_low ref None = omega arith
lesser_low ref (Some other) = elim (cases_Bool (ltb other.number ref.number)) [
  | inl less ↦ subst (λ (y : FileRef). y.number ≤ ref.number) (sym (ap (λ (t : Bool). cond t other ref) less)) (let low = ltb-true other.number ref.number less in omega (arith, low))
  | inr more ↦ subst (λ (y : FileRef). y.number ≤ ref.number) (sym (ap (λ (t : Bool). cond t other ref) more)) (omega arith)
]

head_low : (a n : ℕ) (x : FileRef) → least_ref (map new_number (range_with_len a n)) ≡ Some x → (x.number ≤ a) × (0 < n)
unfolding least_ref
head_low a zero x is = absurd cc
head_low a (suc n) x is = (let same : lesser_ref (new_number a) (least_ref (map new_number (range_with_len (a + 1) n))) ≡ x = cc in subst (λ (y : FileRef). y.number ≤ a) same (lesser_low (new_number a) (least_ref (map new_number (range_with_len (a + 1) n)))), omega arith)

least_within : (count n : ℕ) (x : FileRef) → least_ref (new_numbers count (count + n)) ≡ Some x → x.number < count + n
least_within count n x is = (let low = head_low (max first_user_record count) (count + n - max first_user_record count) x is in let first = low.0 in let some = low.1 in omega (arith, first, some))

some_least : (l : List FileRef) (x : FileRef) → least_ref l ≡ Some x → eqb (length l) 0 ≡ false
unfolding least_ref
some_least [] x is = absurd cc
some_least (y ∷ l) x is = ne_eqb (length (y ∷ l)) 0 (λ same. omega (arith, same))

still_to_take : (t : Tree) (x : FileRef) → least_ref t.spare ≡ Some x → numbers_to_take t ≡ t.spare
still_to_take t x least = ap (λ (b : Bool). cond b (numbers_from t.count) t.spare) (some_least t.spare x least)

-- ---- clusters

pub same_for : (per size : ℕ) → per ≡ 8 → clusters_in per size ≡ clusters_for size
same_for per size eight = ap (λ (p : ℕ). clusters_in p size) eight ∙ omega arith

-- what becomes of a bitmap in clusters stands in clusters
placed_now : (per : ℕ) (more : List Run) (e : Extents) (x y : Stream) → x ≡ Placed e → BitmapBecomes per more x y → (f : Extents) × (y ≡ Placed f) × (f.runs ≡ grown e.runs more)
placed_now per more e (Held value) y is come = absurd cc
placed_now per more e (Placed d) (Held bytes) is come = absurd come
placed_now per more e (Placed d) (Placed f) is come = (f, refl, come.runs ∙ ap (λ (x : Extents). grown x.runs more) (let same : d ≡ e = cc in same))

-- clusters in which it stands then have a spelling
spelled_now : (per : ℕ) (more : List Run) (x y : Stream) (f : Extents) → y ≡ Placed f → BitmapBecomes per more x y → HasSpelling 0 more → HasSpelling 0 f.runs
spelled_now per more x (Held bytes) f is come spelled = absurd cc
spelled_now per more (Held value) (Placed d) f is come spelled = (let same : d ≡ f = cc in subst (λ (z : Extents). HasSpelling 0 z.runs) same (subst (HasSpelling 0) (sym come.runs) (follow-grown [] more tt spelled come.few)))
spelled_now per more (Placed e) (Placed d) f is come spelled = (let same : d ≡ f = cc in subst (λ (z : Extents). HasSpelling 0 z.runs) same (subst (HasSpelling 0) (sym come.runs) (follow-grown e.runs more come.spelled spelled come.few)))

table_kind : stream_kind table_key ≡ FileRec
unfolding stream_kind
table_kind = refl

numbers_kind : stream_kind bits_key ≡ Plain
unfolding stream_kind
numbers_kind = refl

upper_by : (c d : Content) (v w : Volume) → w.per ≡ v.per → file_in w upcase_file ≡ file_in v upcase_file → SameUpper c d v → upper_of d w ≡ upper_of c v
unfolding upper_of
upper_by c d v w per same bytes =
    ap (λ (o : Option Record). table_or_standard (upcase_of (bytes_or d w.per (file_stream data_type [] o)))) same
    ∙ ap (λ (e : ℕ). table_or_standard (upcase_of (bytes_or d e (file_stream data_type [] (file_in v upcase_file))))) per
    ∙ same_upper c d v bytes

-- ---- which streams are touched

chosen_by : (files : List ℕ) (o : StreamKey) → is_touched files o.file ≡ true → same_key o table_key ≡ false → touched_streams files o ≡ true
chosen_by files o there other = and_from (is_touched files o.file) (not (same_key o table_key)) there (ap not other)

no_table : (o : StreamKey) → eqb o.file table_file ≡ false → same_key o table_key ≡ false
no_table o other = ap (λ (b : Bool). (b && eqb o.kind data_type) && pointwise nat_eq o.name []) other

if_directory : (t : Bool) (way : Bool) → t ≡ true → implies t way ≡ true → way ≡ true
if_directory true way is holds = holds
if_directory false way is holds = absurd cc

-- ---- what a step counts for the bitmap of numbers

-- It is this growth: the bitmap takes these runs, and no more than are wanted, and has grown by them.
pub record CountsNumbers (c : Content) (v u : Volume) (bits_more : List Run) (H : Growth) : Type 0 where
  pub growths : (table_change c v).growths ≡ records_by (cluster_bits c v) v v.table ∷ H ∷ []
  pub key : H.stream ≡ bits_key
  pub runs : bits_more ≡ H.runs
  pub placed : H.runs ≡ chosen (with_runs (records_by (cluster_bits c v) v v.table).runs (cluster_bits c v)) (last_cluster H.old) (more_of H)
  pub grown : HasGrown v u H
  pub came : total_clusters bits_more ≤ more_of H

module _ (c : Content) (g : Geometry) (clusters : ℕ) (v : Volume) (bitmap mirror : Extents) (t : Table) (b : Bitmap) (new : List Touched) (after : Table) (marked : Bitmap) (eight : g.per_cluster ≡ 8) (state : Stands c g clusters v) (none : grows_table (tree_of c v) ≡ true)
    (k : GrowsOfVolume c v (cluster_bits c v) bitmap mirror t b [] new after marked) where
  abbrev first : Content
  first = drafted [] c

  abbrev last : Content
  last = drafted new c

  abbrev bits : List Bool
  bits = cluster_bits c v

  abbrev more : List Run
  more = table_runs (cluster_bits c v) t

  abbrev bits_more : List Run
  bits_more = numbers_runs v.per (cluster_bits c v) t

  abbrev file_0 : Record
  file_0 = t.bitmap.file

  abbrev s : Record
  s = written_record after.bitmap.file

  abbrev is : Stream
  is = after.bitmap.stream

  abbrev u : Volume
  u = table_volume c v t after

  abbrev f : Extents
  f = longer_table v.per more v.table

  same : first ≡ c
  same = nothing_put c k.sized

  sized_first : HasSizes first
  sized_first = sized_with c (bodies_of []) k.sized

  pub state_first : Stands first g clusters v
  state_first = subst (λ (y : Content). Stands y g clusters v) (sym same) state

  edit : (others : List NewBody) × (EditsDraft c [] new others × GrowsVolumeTable first v file_0 more t.bitmap.stream bits_more is s others)
  edit = grown_edit c g clusters v bits bitmap mirror t b [] new after marked eight state_first k

  abbrev bodies : List NewBody
  bodies = edit.0

  its : GrowsVolumeTable first v file_0 more t.bitmap.stream bits_more is s bodies
  its = edit.1.1

  pub per_8 : v.per ≡ 8
  per_8 = per_is c g clusters v eight state

  pub counted : count_of v ≡ record_count v.table
  counted = count_is c g clusters v state.loaded

  -- ---- the draft

  may_give : MayGive c v FileRec more gives_none
  may_give = record {
    taken = λ x some. subst (λ (y : Content). bit (cluster_bits y v) x ≡ false) same (its.taken.clear x some);
    same = λ x other some given. absurd cc;
    before = λ other x given. absurd cc;
  }

  bits_may : MayGive c v Plain bits_more gives_none
  bits_may = record {
    taken = λ x some. subst (λ (y : Content). bit (cluster_bits y v) x ≡ false) same (its.bits_taken.clear x some);
    same = λ x other some given. absurd cc;
    before = λ other x given. absurd cc;
  }

  abbrev gives : ℕ → Option BlockKind
  gives = gives_table more bits_more gives_none

  goes : GoesOn c v first g clusters v bodies u gives_none gives
  goes = table_grows.goes_on c v first g clusters v file_0 more t.bitmap.stream bits_more is s bodies gives_none sized_first eight state_first its may_give bits_may

  draft : DraftIn c g clusters v (put_bodies bodies []) u gives
  draft = goes_on c g clusters v v u [] bodies gives_none gives k.sized eight state (begins_empty c g clusters v k.sized state) goes

  content : content_with c (put_bodies bodies []) ≡ last
  content = contents_put c [] bodies k.sized (begins_empty c g clusters v k.sized state).whole goes.whole ∙ edit.1.0.content

  -- ---- the streams of the table

  records_at : stream_at v table_key ≡ Some (Placed v.table)
  records_at = ap (file_stream data_type []) k.file ∙ table_records first g clusters v file_0 state_first k.file

  records_now : stream_at u table_key ≡ Some (Placed f)
  records_now = table_grows.table first g clusters v file_0 more t.bitmap.stream bits_more is s bodies sized_first eight state_first its

  pub numbers_is : stream_at u bits_key ≡ Some is
  numbers_is = table_grows.bitmap first g clusters v file_0 more t.bitmap.stream bits_more is s bodies sized_first eight state_first its

  numbers_fitted : fits_volume v.per v.clusters (Some t.bitmap.stream) ≡ true
  numbers_fitted = (numbers_fit first g clusters v file_0 state_first k.file t.bitmap.stream k.stream).1

  wider : IsWider v bits_more t.bitmap.stream is
  wider = becomes_wider first g clusters v bits_more eight state_first its.bits_taken t.bitmap.stream is its.becomes numbers_fitted

  pub becomes : BitmapBecomes v.per bits_more t.bitmap.stream is
  becomes = its.becomes

  pub enough : record_count v.table + 256 ≤ 8 * real_size is
  enough = its.enough

  which : (o : StreamKey) → (o ≡ table_key) ⊎ (o ≡ bits_key) ⊎ (stream_at u o ≡ stream_at v o)
  which o = table_grows.streams first g clusters v file_0 more t.bitmap.stream bits_more is s bodies o sized_first eight state_first its

  other_files : (m : ℕ) → m ≢ table_file → file_in u m ≡ file_in v m
  other_files m other = table_grows.others first g clusters v file_0 more t.bitmap.stream bits_more is s bodies m sized_first eight state_first its other

  -- ---- the clusters of its records, as a step counts them

  abbrev G : Growth
  G = records_by (cluster_bits c v) v v.table

  pub more_is : more ≡ G.runs
  more_is = ap (λ (x : Extents). chosen bits (last_cluster x.runs) 64) k.table ∙ ap (chosen bits (last_cluster v.table.runs)) (omega arith)

  grown_records : HasGrown v u G
  grown_records = record {
    stands = ap is_in_record records_now;
    old = sym (ap runs_in records_at);
    runs = ap runs_in records_now ∙ ap (grown v.table.runs) more_is ∙ sym (runs_more G (omega arith));
  }

  -- ---- the tree

  longer : HasLongerTable (64 + total_clusters bits_more) (tree_of c v) (tree_of last u)
  longer =
      let raw = table_grows.tree first g clusters v file_0 more t.bitmap.stream bits_more is s bodies sized_first eight state_first its in
      let there = subst (λ (y : Content). HasLongerTable (64 + total_clusters bits_more) (tree_of first v) (tree_of y u)) edit.1.0.content raw in
      subst (λ (y : Content). HasLongerTable (64 + total_clusters bits_more) (tree_of y v) (tree_of last u)) same there

  count_now : count_of u ≡ count_of v + 256
  unfolding tree_of tree_with
  count_now = longer.count

  -- ---- its streams

  state_u : Stands last g clusters u
  state_u = subst (λ (y : Content). Stands y g clusters u) content draft.stands

  file_u : file_in u table_file ≡ Some s
  file_u = table_grows.file first g clusters v file_0 more t.bitmap.stream bits_more is s bodies sized_first eight state_first its

  longer_streams : (streams : VolumeStreams) → AreStreamsOf v streams → AreStreamsOf u (record { table = after.extents; mirror = streams.mirror; bitmap = streams.bitmap })
  longer_streams streams are = record {
    table = longer_lies c v bits bitmap mirror t b [] new after marked k;
    mirror = ap (λ (o : Option Record). extents_or (file_stream data_type [] o)) (other_files mirror_file (λ same_number. omega (arith, same_number))) ∙ are.mirror;
    bitmap = record {
      stream = ap (file_stream data_type []) (other_files bitmap_file (λ same_number. omega (arith, same_number))) ∙ are.bitmap.stream;
      lawful = are.bitmap.lawful;
      below = are.bitmap.below;
      lies = are.bitmap.lies;
    };
  }

  -- ---- the number that is taken

  spare_is : (tree_of last u).spare ≡ numbers_to_take (tree_of c v)
  spare_is = spare_from (64 + total_clusters bits_more) (tree_of c v) (tree_of last u) none longer

  taken_within : (x : FileRef) → least_ref (numbers_to_take (tree_of c v)) ≡ Some x → x.number < count_of u
  unfolding tree_of tree_with
  taken_within x least = (let low = least_within (count_of v) 256 x (ap least_ref (sym (numbers_are (tree_of c v) none)) ∙ least) in let all = count_now in omega (arith, low, all))

  table_lies : (m : ℕ) → m < count_of u → is_some (block_at u.per u.table.runs FileRec m) ≡ true
  table_lies m low =
      record_lies u.per u.table m per_8 (follow-grown v.table.runs more its.spelled its.taken.spelled (let size = its.size in let all = its.room in omega (arith, size, all)))
      (table_whole last g clusters u s state_u file_u) (sizes_lawful u.per u.clusters u.table (table_fits last g clusters u s state_u file_u)).1
      (let count = count_is last g clusters u state_u.loaded in omega (arith, low, count))

  spare_there : (x : FileRef) → least_ref (numbers_to_take (tree_of c v)) ≡ Some x → IsSpare last u x.number
  spare_there x least =
      let same_numbers : numbers_to_take (tree_of last u) ≡ numbers_to_take (tree_of c v) = still_to_take (tree_of last u) x (ap least_ref spare_is ∙ least) ∙ spare_is in
      let within = taken_within x least in
      let clear = number_clear last u x (ap least_ref same_numbers ∙ least) within in
      record { user = clear.user; within = within; clear = clear.clear; lies = table_lies x.number within }

  -- ---- where its bits stand in clusters

  module _ (numbers : Extents) (stands_in : after.bitmap.stream ≡ Placed numbers) where
    numbers_of : stream_of bitmap_type [] s.attrs ≡ Some (Placed numbers)
    numbers_of = sym (ap (file_stream bitmap_type []) file_u) ∙ numbers_is ∙ ap Some stands_in

    begun_now : record_count v.table + 256 ≤ 8 * numbers.initialised
    begun_now = subst (AreBegun (record_count v.table + 256)) stands_in (numbers_begun c g clusters v bits bitmap mirror t b [] new after marked eight state_first k)

    numbers_sizes : (numbers.initialised ≤ numbers.real) × (numbers.real ≤ total_clusters numbers.runs * (512 * u.per))
    numbers_sizes = sizes_lawful u.per u.clusters numbers (numbers_fit last g clusters u s state_u file_u (Placed numbers) numbers_of).1

    numbers_spelled : HasSpelling 0 numbers.runs
    numbers_spelled = spelled_now v.per bits_more t.bitmap.stream is numbers stands_in its.becomes its.bits_taken.spelled

    numbers_stand : HasNumbers u numbers
    numbers_stand = record {
      stream = numbers_is ∙ ap Some stands_in;
      lawful = numbers_sizes.0;
      below = (let least = begun_now in let size = counted in let all = count_now in omega (arith, least, size, all));
      lies = λ i low.
          lies_by u.per i numbers.runs numbers_spelled (numbers_whole last g clusters u s state_u file_u (Placed numbers) numbers_of)
          (in_total u.per (total_clusters numbers.runs) numbers.initialised i per_8 (let lawful = numbers_sizes.0 in let fits = numbers_sizes.1 in omega (arith, lawful, fits)) low);
    }

    pub ready : (streams : VolumeStreams) → AreStreamsOf v streams → IsReady c v streams after numbers u new
    ready streams are = record { streams = longer_streams streams are; bits = numbers_stand; spare = spare_there }

  -- ---- where the bitmap of numbers stands in clusters

  module _ (e : Extents) (at : t.bitmap.stream ≡ Placed e) where
    numbers_at : stream_at v bits_key ≡ Some (Placed e)
    numbers_at = ap (file_stream bitmap_type []) k.file ∙ k.stream ∙ ap Some at

    now : (x : Extents) × (is ≡ Placed x) × (x.runs ≡ grown e.runs bits_more)
    now = placed_now v.per bits_more e t.bitmap.stream is at its.becomes

    numbers_now : stream_at u bits_key ≡ Some (Placed now.0)
    numbers_now = numbers_is ∙ ap Some now.1

    -- ---- the clusters of the bitmap, as a step counts them

    abbrev H : Growth
    H = numbers_by (cluster_bits c v) v v.table e

    abbrev growths : List Growth
    growths = records_by (cluster_bits c v) v v.table ∷ numbers_by (cluster_bits c v) v v.table e ∷ []

    growths_are : (table_change c v).growths ≡ growths
    growths_are =
        ap (λ (x : Bool). (table_in x bits v (file_in v table_file)).growths) none
        ∙ ap (λ (o : Option Record). (table_in true bits v o).growths) k.file
        ∙ table_growths bits v file_0 v.table e (table_records first g clusters v file_0 state_first k.file) (k.stream ∙ ap Some at)

    pub numbers_as : numbers_in v.per bits t ≡ Placed e
    numbers_as = ap (λ (x : Stream). standing_in x (bitmap_size t) (bitmap_behind v.per bits t)) at

    size_is : bitmap_size t ≡ (count_of v + 256 + 7) / 8
    size_is = ap (λ (x : Stream). size_in x (numbers_bytes t)) at ∙ ap (λ (x : Extents). (record_count x + 256 + 7) / 8) k.table ∙ ap (λ (m : ℕ). (m + 256 + 7) / 8) (sym counted)

    pub has_clusters : (wanted_bits v).clusters ≡ max (total_clusters e.runs) (clusters_for ((count_of v + 256 + 7) / 8))
    has_clusters = ap (λ (o : Option Stream). max (clusters_or o) (clusters_for ((count_of v + 256 + 7) / 8))) numbers_at

    wanted_is : clusters_in v.per (bitmap_size t) ≡ clusters_for ((count_of v + 256 + 7) / 8)
    wanted_is = ap (clusters_in v.per) size_is ∙ same_for v.per ((count_of v + 256 + 7) / 8) per_8

    pub bits_are : bits_more ≡ H.runs
    bits_are =
        ap (more_for v.per (bitmap_size t) (behind_records bits t)) numbers_as
        ∙ ap₂ (λ (l : List Run) (m : ℕ). chosen (with_runs l bits) (last_cluster e.runs) m) more_is (let all = has_clusters in let wants = wanted_is in omega (arith, all, wants))

    came_bits : total_clusters bits_more ≡ (wanted_bits v).clusters - total_clusters e.runs
    came_bits =
        ap (λ (x : Stream). total_clusters (more_for v.per (bitmap_size t) (behind_records bits t) x)) numbers_as
        ∙ numbers_size v.per bits (cluster_bits first v) t k.stands.few k.free k.space k.stands e numbers_as
        ∙ (let all = has_clusters in let wants = wanted_is in omega (arith, all, wants))

    -- the bitmap had room for the old numbers, so it takes one cluster at most
    pub little : wanted_by (table_change c v).growths ≤ 65
    little =
        let marked_all = records_marked c g clusters v state in
        let real : size_or (record_bitmap v) ≡ e.real = ap size_or numbers_at in
        let fits = (sizes_lawful v.per v.clusters e (numbers_fit first g clusters v file_0 state_first k.file (Placed e) (k.stream ∙ ap Some at)).1).1 in
        let room : e.real ≤ total_clusters e.runs * 4096 = subst (λ (per : ℕ). e.real ≤ total_clusters e.runs * (512 * per)) per_8 fits in
        let has = has_clusters in
        subst (λ (l : List Growth). wanted_by l ≤ 65) (sym growths_are) (omega (arith, marked_all, real, room, has))

    runs_then : (numbers_runs v.per (cluster_bits c v) t ≡ [] → merged e.runs ≡ e.runs) → grown e.runs bits_more ≡ runs_after H
    runs_then may = elim (cases_lt (total_clusters e.runs) (wanted_bits v).clusters) [
      | inl up ↦ ap (grown e.runs) bits_are ∙ sym (runs_more H up)
      | inr least ↦
          (let all = has_clusters in
          let equal : (wanted_bits v).clusters ≡ total_clusters e.runs = omega (arith, all, least) in
          let no_more : bits_more ≡ [] = bits_are ∙ ap (chosen (with_runs G.runs bits) (last_cluster e.runs)) (omega (arith, equal)) ∙ none_chosen (with_runs G.runs bits) (last_cluster e.runs) in
          ap (grown e.runs) no_more ∙ none_grown e.runs ∙ may no_more ∙ sym (runs_same H equal))
    ]

    grown_numbers : (numbers_runs v.per (cluster_bits c v) t ≡ [] → merged e.runs ≡ e.runs) → HasGrown v u H
    grown_numbers may = record {
      stands = ap is_in_record numbers_now;
      old = sym (ap runs_in numbers_at);
      runs = ap runs_in numbers_now ∙ now.2 ∙ runs_then may;
    }

    pub counts_placed : (numbers_runs v.per (cluster_bits c v) t ≡ [] → merged e.runs ≡ e.runs) → CountsNumbers c v u bits_more H
    counts_placed may = record { growths = growths_are; key = refl; runs = bits_are; placed = refl; grown = grown_numbers may; came = (let came = came_bits in omega (arith, came)) }

  -- ---- behind it a file may be made in a directory

  module _ (n : ℕ) (r : Record) (own : IsOwnFile v n r) (directory : is_directory_record r ≡ true) (K : Growth) (counts : CountsNumbers c v (table_volume c v t after) (numbers_runs v.per (cluster_bits c v) t) K) where
    abbrev both : List Growth
    both = records_by (cluster_bits c v) v v.table ∷ K ∷ []

    room : (tree_of c v).room ≤ (tree_of last u).room + wanted_by both
    room = (let fell = longer.room in let came = counts.came in omega (arith, fell, came))

    names : (m : ℕ) → links_at (files_by_number u) m ≡ links_at (files_by_number v) m
    names m = table_grows.names first g clusters v file_0 more t.bitmap.stream bits_more is s bodies m sized_first eight state_first its

    below : n < count_of v
    below = inside_list v.files n r (some_file v n r own.file)

    leads_up : leads (files_by_number v) (count_of v) n ≡ true
    unfolding keeps_8 broken_8
    leads_up =
        if_directory (is_directory_record r) (leads (files_by_number v) (count_of v) n) directory
        (sym (ap (at_file (λ (q : Record). implies (is_directory_record q) (leads (files_by_number v) (count_of v) n))) own.file) ∙ passes_below (keeps_8 (files_by_number v) (count_of v)) (count_of v) (rules_of c v state.kept).rule_8 n below)

    system : is_in_system (files_by_number u) (count_of u) n ≡ is_in_system (files_by_number v) (count_of v) n
    system =
        in_system_kept (λ i. true) (files_by_number v) (files_by_number u) (count_of u) n (record { names = λ i within. names i; up = λ i j within up. refl }) refl
        ∙ steady (files_by_number v) (count_of v) (count_of u) n (let size = count_now in omega (arith, size)) leads_up

    -- ---- the index

    upper : upper_of last u ≡ upper_of c v
    upper =
        let raw = table_grows.upper first g clusters v file_0 more t.bitmap.stream bits_more is s bodies sized_first eight state_first its in
        let bytes : SameUpper first last v = subst (λ (y : Content). SameUpper first y v) edit.1.0.content raw in
        upper_by first last v u refl (other_files upcase_file (λ same_number. omega (arith, same_number))) bytes ∙ ap (λ (y : Content). upper_of y v) same

    nodes : (i : ℕ) → nodes_of (node_of_block last (index_place u.per r)) i ≡ nodes_of (node_of_block c (index_place v.per r)) i
    nodes i =
        let raw = table_grows.indexes first g clusters v file_0 more t.bitmap.stream bits_more is s bodies n sized_first eight state_first its in
        let blocks : SameIndexAt first last v n = subst (λ (y : Content). SameIndexAt first y v n) edit.1.0.content raw in
        ap some_entries (same_node first last (index_place v.per r) i (same_place first last v.per r (blocks r own.file directory)))
        ∙ ap (λ (y : Content). some_entries (node_of_block y (index_place v.per r) i)) same

    pub index : KeepsIndex c v r last u r
    index = record { upper = upper; root = refl; nodes = nodes }

    -- ---- the streams

    among_records : (o : StreamKey) → o ≡ table_key → is_among both o ≡ true
    among_records o own_key = subst (λ (x : StreamKey). is_among both x ≡ true) (sym own_key) refl

    among_numbers : (o : StreamKey) → o ≡ bits_key → is_among both o ≡ true
    among_numbers o own_key = subst (λ (x : StreamKey). is_among both x ≡ true) (sym own_key) (ap (λ (x : StreamKey). same_key table_key bits_key || (same_key x bits_key || false)) counts.key)

    others : (o : StreamKey) → is_among both o ≡ false → runs_in (stream_at u o) ≡ runs_in (stream_at v o)
    others o apart = elim (which o) [
      | inl own_key ↦ absurd (both_ways (is_among both o) apart (among_records o own_key))
      | inr (inl own_key) ↦ absurd (both_ways (is_among both o) apart (among_numbers o own_key))
      | inr (inr stays) ↦ ap runs_in stays
    ]

    takes : (o : StreamKey) (x : ℕ) → uses (runs_in (stream_at v o)) x < uses (runs_in (stream_at u o)) x → bit (cluster_bits c v) x ≡ false
    takes o x rise = elim (which o) [
      | inl own_key ↦
          (let was = ap (λ (y : StreamKey). uses (runs_in (stream_at v y)) x) own_key ∙ ap (λ (y : Option Stream). uses (runs_in y) x) records_at in
          let then = ap (λ (y : StreamKey). uses (runs_in (stream_at u y)) x) own_key ∙ ap (λ (y : Option Stream). uses (runs_in y) x) records_now ∙ uses-grown v.table.runs more x in
          may_give.taken x (omega (arith, was, then, rise)))
      | inr (inl own_key) ↦
          (let was = ap (λ (y : StreamKey). uses (runs_in (stream_at v y)) x) own_key ∙ ap (λ (y : Option Stream). uses (runs_in y) x) (ap (file_stream bitmap_type []) k.file ∙ k.stream) in
          let then = ap (λ (y : StreamKey). uses (runs_in (stream_at u y)) x) own_key ∙ ap (λ (y : Option Stream). uses (runs_in y) x) numbers_is ∙ wider.balance x in
          bits_may.taken x (omega (arith, was, then, rise)))
      | inr (inr stays) ↦ (let equal = ap (λ (y : Option Stream). uses (runs_in y) x) stays in absurd (omega (arith, equal, rise)))
    ]

    given : (kind : BlockKind) (x : ℕ) → gives x ≡ Some kind → 0 < uses (taken_runs both) x
    given kind x gave =
        let sums : uses (taken_runs both) x ≡ uses more x + uses bits_more x =
        (uses-append G.runs (K.runs ++ []) x ∙ ap (λ (m : ℕ). uses G.runs x + m) (uses-append K.runs [] x)
        ∙ (let one = ap (λ (l : List Run). uses l x) more_is in let two = ap (λ (l : List Run). uses l x) counts.runs in let nothing = uses-none x in omega (arith, one, two, nothing)))
        in
        by (leb 1 (uses bits_more x)) (leb 1 (uses more x)) refl refl sums gave
      where
        by : (p q : Bool) → leb 1 (uses bits_more x) ≡ p → leb 1 (uses more x) ≡ q → uses (taken_runs both) x ≡ uses more x + uses bits_more x → cond p (Some Plain) (cond q (Some FileRec) None) ≡ Some kind → 0 < uses (taken_runs both) x
        by true q some other sum kind_is = (let one = leb-true 1 (uses bits_more x) some in omega (arith, one, sum))
        by false true other some sum kind_is = (let one = leb-true 1 (uses more x) some in omega (arith, one, sum))
        by false false one two sum kind_is = absurd cc

    -- ---- the blocks

    abbrev Differs : Block → Type 0
    Differs y = MayDiffer (n ∷ []) v u y

    owned_differs : (y : Block) → IsOwnedIn marks_streams v y → Differs y
    owned_differs y owned =
        let o : StreamKey = owned.stream in
        let files = (and_parts (eqb o.file bitmap_file || eqb o.file mirror_file) (eqb o.kind data_type) (and_parts ((eqb o.file bitmap_file || eqb o.file mirror_file) && eqb o.kind data_type) (pointwise nat_eq o.name []) owned.chosen).0).0 in
        elim (or_cases (eqb o.file bitmap_file) (eqb o.file mirror_file) files) [
          | inl bits_file ↦
              (let file = eqb-true o.file bitmap_file bits_file in
              inr (inl (record { stream = o; chosen = chosen_by (n ∷ []) o (ap (is_touched (n ∷ [])) file) (no_table o (ap (λ (i : ℕ). eqb i table_file) file)); number = owned.number; lies = owned.lies })))
          | inr mirror_own ↦
              (let file = eqb-true o.file mirror_file mirror_own in
              inr (inl (record { stream = o; chosen = chosen_by (n ∷ []) o (ap (is_touched (n ∷ [])) file) (no_table o (ap (λ (i : ℕ). eqb i table_file) file)); number = owned.number; lies = owned.lies })))
        ]

    some_records : 0 < record_count v.table
    some_records = (let low = below in let size = counted in omega (arith, low, size))

    put_differs : (p : NewBody) → IsOfGrown v more is p.block → Differs p.block
    put_differs p (inl owned) = owned_differs p.block owned
    put_differs p (inr (inl first_record)) = inl (record {
      number = table_file;
      touched = inl refl;
      place = table_grows.places first g clusters v file_0 more t.bitmap.stream bits_more is s bodies table_file sized_first eight state_first its some_records ∙ first_record;
    })
    put_differs p (inr (inr (inl fresh))) = inl (record {
      number = fresh.0;
      touched = inr ((let past = fresh.1 in let size = counted in omega (arith, past, size)), (let low = fresh.2 in let size = counted in let all = count_now in omega (arith, low, size, all)));
      place = fresh.3;
    })
    put_differs p (inr (inr (inr sector))) =
        inr (inr (record {
          stream = bits_key;
          chosen = chosen_by (n ∷ []) bits_key refl refl;
          number = sector.0;
          lies = ap (λ (kind : BlockKind). block_at v.per (runs_in (stream_at u bits_key)) kind sector.0) numbers_kind ∙ ap (λ (o : Option Stream). block_at v.per (runs_in o) Plain sector.0) numbers_is ∙ sector.1;
        }))

    stays_at : (y : Block) → ((x : Block) → Differs x → overlap y x ≡ false) → last y ≡ c y
    stays_at y far =
        ap (λ (x : Content). x y) (sym edit.1.0.content)
        ∙ contents_left.stays first v u (n ∷ []) bodies sized_first its.whole (all_by (λ (p : NewBody). IsOfGrown v more is p.block) (λ (p : NewBody). Differs p.block) put_differs bodies its.each) y far
        ∙ ap (λ (x : Content). x y) same

    -- ---- all of it

    left : IsLeft c v clusters (n ∷ []) both last u
    left = record {
      placed = (refl, (counts.placed, tt));
      grown = (grown_records, (counts.grown, tt));
      others = others;
      bits = subst (λ (y : Content). FollowsOwners clusters (cluster_bits c v) (cluster_bits y u) v.files u.files) content draft.marks;
      takes = takes;
      stays = stays_at;
    }

    has_grown : HasGrownBefore c g clusters v n r both u r new
    has_grown = record {
      kept = grown_kept c g clusters v bits bitmap mirror t b [] new after marked eight state_first k;
      gave = gives;
      bodies = put_bodies bodies [];
      same = drafts_put.kept [] bodies [] new goes.whole (λ y. refl) edit.1.0.same;
      content = content;
      draft = draft;
      given = given;
      own = record { file = other_files n own.apart.table ∙ own.file; apart = own.apart; no_list = own.no_list };
      names = names;
      system = system;
      tree = inr (came_from (64 + total_clusters bits_more) (tree_of c v) (tree_of last u) none longer);
      room = room;
      streams = (inr (inl refl), (inr (inr counts.key), tt));
      left = left;
    }

    pub all_grown : HasGrownBefore c g clusters v n r (table_change c v).growths u r new × KeepsIndex c v r last u r × AllByRecursion IsOfTable (table_change c v).growths
    all_grown = (
      subst (λ (l : List Growth). HasGrownBefore c g clusters v n r l u r new) (sym counts.growths) has_grown,
      index,
      subst (AllByRecursion IsOfTable) (sym counts.growths) (inl refl, (inr counts.key, tt)),
    )

pub is_ready : TableIsReady
is_ready c g clusters v streams bitmap mirror t b new after marked numbers eight state none k stands_in are = ready c g clusters v bitmap mirror t b new after marked eight state none k numbers stands_in streams are
