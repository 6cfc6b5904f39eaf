-- Data gets a lesser size in the clusters that it has.
use Rattle.std.proofs.Common.{◌≡◌, ℕ, ◌*◌, ◌<◌, ◌≤◌, min, Bool, true, false, ◌&&◌, ◌||◌, cond, eqb, nat_eq, leb, List, [], ◌∷◌, take, Option, Some, refl, sym, ap, ap₂, subst, ◌∙◌, arith}
use Rattle.std.specs.Cmp.Lexicographic.{pointwise}
use Rattle.std.specs.List.{list_all}
use Rattle.std.proofs.lemmas.Bool.{and_parts, leb-true, ne_eqb}
use Rattle.disk_model.specs.declared.block.Block.{Block}
use Rattle.disk_model.specs.declared.block.BlockKind.TheVariants.{Plain, FileRec, Index}
use Rattle.disk_model.specs.Bodies.{BodyOf}
use Rattle.disk_model.specs.Sectors.{overlap}
use Rattle.disk_model.specs.Content.{Content, HasSizes as HasBlockSizes}
use Rattle.record_model.specs.declared.runs.Run.{Run}
use Rattle.record_model.specs.Constants.{data_type, index_allocation}
use Rattle.record_model.specs.Records.{Record}
use Rattle.bit_set.specs.Bits.{bit}
use Rattle.file_tree.specs.declared.node.Node.{Node}
use Rattle.file_tree.specs.Walks.{first_user_record}
use Rattle.change_steps.specs.state_model.declared.geometry.Geometry.{Geometry}
use Rattle.change_steps.specs.state_model.declared.stream.Extents.{Extents}
use Rattle.change_steps.specs.state_model.declared.stream.Stream.{Stream}
use Rattle.change_steps.specs.state_model.declared.stream.Stream.TheVariants.{Placed}
use Rattle.change_steps.specs.state_model.Loads.{total_clusters}
use Rattle.change_steps.specs.volume_model.Volumes.{Volume, bytes_or, size_or, cluster_bits, table_file, mirror_file}
use Rattle.change_steps.specs.volume_model.Nodes.{valid_or}
use Rattle.change_steps.specs.volume_model.Owners.{uses}
use Rattle.change_steps.specs.volume_model.Sizes.{has_hole, has_sizes, lies_inside}
use Rattle.change_steps.specs.stream_laws.Frames.{SameBytesIn}
use Rattle.change_steps.specs.stream_laws.Owners.{stream_kind}
use Rattle.change_steps.specs.stream_laws.Sharing.{runs_in}
use Rattle.change_steps.proofs.stream_laws.Framing.{same_extents}
use Rattle.change_steps.proofs.stream_laws.Growing.{stream_cut}
use Rattle.change_steps.proofs.stream_map.Reading.{kind-block_at}
use Rattle.tree_model.specs.declared.script.Op.{Op}
use Rattle.tree_model.specs.Needs.{size_after, shrinks}
use Rattle.tree_model.specs.Effects.{valid_after}
use Rattle.change_steps.specs.plan_owners.States.{Stands}
use Rattle.plan_bodies.specs.Bodies.{NewBody}
use Rattle.plan_bodies.proofs.Putting.{sized_with}
use Rattle.change_steps.specs.plan_draft.declared.touched.Touched.{Touched}
use Rattle.change_steps.specs.plan_draft.Touching.{bodies_of}
use Rattle.change_steps.specs.plan_draft.Drafts.{drafted}
use Rattle.change_steps.specs.plan_model.Informed.{with_record}
use Rattle.change_steps.proofs.plan_model.Drafting.{per_is}
use Rattle.change_steps.proofs.plan_model.OneRecord.{OwnRecord, own_record}
use Rattle.change_steps.specs.record_streams.Placing.{placed_record}
use Rattle.change_steps.specs.record_times.Laws.{TimesAreSet}
use Rattle.change_steps.specs.draft_bits.Effects.{IsKept}
use Rattle.change_steps.proofs.draft_bits.BitEffects.{drafted_same}
use Rattle.change_steps.specs.draft_records.Records.{written_record}
use Rattle.change_steps.specs.draft_streams.Parts.{touch_sectors, touch_bytes}
use Rattle.change_steps.specs.resized_streams.declared.resized.Resized.{Resized}
use Rattle.change_steps.specs.resized_streams.Resizing.{with_sizes, IsSized}
use Rattle.change_steps.specs.plan_growth.Sizing.{SizesStream}
use Rattle.change_steps.specs.plan_growth.Streams.{IsOwnStream, IsWritten, key_of}
use Rattle.change_steps.specs.plan_growth.Trees.{TreeFollows}
use Rattle.change_steps.proofs.plan_growth.Ruled.{stream_fits}
use Rattle.change_steps.proofs.plan_growth.Sizing.{sized_leads, sized_goes_on, sized_tree}
use Rattle.change_steps.specs.plan_edits.Moves.{EditsDraft}
use Rattle.change_steps.specs.plan_edits.Records.{PutsRecordOf, IsRecordEdit}
use Rattle.change_steps.specs.plan_edits.Sizes.{SizesWith, SizesOfVolume}
use Rattle.change_steps.specs.plan_edits.Written.{IsInUse}
use Rattle.change_steps.proofs.plan_edits.Reading.{written_read}
use Rattle.change_steps.proofs.plan_edits.Recording.{record_edit, new_kept, sectors_stay}
use Rattle.change_steps.proofs.plan_edits.Sizing.{sized_edit}
use Rattle.change_steps.specs.plan_changes.Changes.{IsDataAfter}
use Rattle.change_steps.specs.plan_changes.Files.{IsChangeable, Shows, with_own, Follows}
use Rattle.change_steps.specs.plan_changes.Going.{GoesOnIn}
use Rattle.change_steps.proofs.plan_changes.Falling.{rooms_are}
use Rattle.change_steps.proofs.plan_changes.Going.{files_going}
use Rattle.change_steps.proofs.plan_changes.Showing.{files_are}
use Rattle.change_steps.specs.step_model.Contents.{MayDiffer}
use Rattle.change_steps.specs.data_plan.declared.change.DataChange.TheVariants as change
use Rattle.change_steps.specs.data_plan.Changes.{data_in, growth_of, StandsBelow, LiesBelow}
use Rattle.change_steps.specs.file_puts.declared.streams.VolumeStreams.{VolumeStreams}
use Rattle.change_steps.specs.file_puts.Puts.{PutsSized, PutsShorter}
use Rattle.change_steps.specs.file_puts.Written.{WritesFile, HasWritten}
use Rattle.written_values.specs.Laws.{ShorterAreDone}
use Rattle.written_values.proofs.Owning.{IsOwned, is_owned, own_stream}
use Rattle.written_values.proofs.Growths.{same_clusters}
use Rattle.written_values.proofs.Becoming.{shrinks_less, valid_is, shorter_after}
use Rattle.written_values.proofs.Joining.{nothing_put, nothing_kept, Reaches, begins, goes_behind, puts_record}
use Rattle.written_values.proofs.Sparing.{other_streams, same_types, beside_itself, IsBeside, others_stay}
use Rattle.written_values.proofs.Timing.{written_fits, HasResized, timed_done}

-- no bytes are put
nothing_more : (c : Content) (per fresh : ℕ) (e : Extents) (touched : List Touched) → touched ≡ touch_bytes c per e.runs fresh 0 [] touched
unfolding touch_sectors
nothing_more c per fresh e touched = refl

-- data of a file of a user is read by sectors
user_plain : (n : ℕ) → first_user_record ≤ n → stream_kind (key_of n data_type []) ≡ Plain
unfolding stream_kind
user_plain n low =
    ap₂ (λ (x y : Bool). cond ((x || y) && eqb data_type data_type && pointwise nat_eq [] []) FileRec (cond (eqb data_type index_allocation) Index Plain)) (ne_eqb n table_file (λ same. omega (arith, same, low)))
    (ne_eqb n mirror_file (λ same. omega (arith, same, low)))

module _ (times_set : TimesAreSet) (c : Content) (g : Geometry) (clusters : ℕ) (v : Volume) (s : VolumeStreams) (op : Op) (n stamp : ℕ) (a : Node) (r : Record) (z : Resized) (new : List Touched) (less : shrinks op a ≡ true) (k : WritesFile c g clusters v s op n stamp a r (change.Sized z) new) where
  shorter : PutsShorter c s n stamp z [] new
  shorter = subst (λ (t : Bool). PutsSized t c s n op a stamp r z [] new) less k.put

  abbrev first : Content
  first = drafted [] c

  abbrev mid : List Touched
  mid = shorter.mid

  abbrev behind : Content
  behind = drafted mid c

  abbrev q : Record
  q = written_record z.file

  abbrev x : Volume
  x = with_record v n (written_record z.file)

  abbrev e : Extents
  e = k.is.e

  abbrev size : ℕ
  size = size_after op a

  abbrev valid : ℕ
  valid = valid_after op a

  abbrev f : Extents
  f = with_sizes (size_after op a) (valid_after op a) e

  start : first ≡ c
  start = nothing_put c k.sized

  first_sized : HasBlockSizes first
  first_sized = sized_with c (bodies_of []) k.sized

  state : Stands first g clusters v
  state = subst (λ (y : Content). Stands y g clusters v) (sym start) k.stands

  file : IsChangeable first v n r a
  file = subst (λ (y : Content). IsChangeable y v n r a) (sym start) k.file

  owned : IsOwned v n r
  owned = is_owned first g clusters v n r a state file

  shows : Shows first v n r a
  shows = files_are.shows first v n r a file

  eight : v.per ≡ 8
  eight = per_is c g clusters v k.eight k.stands

  -- ---- the data

  placed : data_in r ≡ Some (Placed e)
  placed = k.is.placed

  own : IsOwnStream v n data_type [] r (Placed e)
  own = own_stream v n r (Placed e) owned placed

  lies : LiesBelow clusters e
  lies = subst (StandsBelow clusters) placed k.has.stands

  room : e.real ≤ e.allocated
  room =
      let fits = (and_parts (list_all (lies_inside v.clusters) e.runs) (has_sizes v.per e) (stream_fits first g clusters v n data_type [] r (Placed e) state own)).1 in
      let sizes = (and_parts (leb e.initialised e.real && leb e.real e.allocated) (eqb e.allocated (total_clusters e.runs * (512 * v.per))) fits).0 in
      leb-true e.real e.allocated (and_parts (leb e.initialised e.real) (leb e.real e.allocated) sizes).1

  real_is : a.size ≡ e.real
  real_is = shows.size ∙ ap size_or placed

  valid_was : a.valid ≡ e.initialised
  valid_was = shows.valid ∙ ap valid_or placed

  below : size < e.real
  below = subst (λ (y : ℕ). size < y) real_is (shrinks_less op a less)

  valid_now : valid ≡ min e.initialised size
  valid_now = valid_is op a less ∙ ap (λ (y : ℕ). min y size) valid_was

  sized : IsSized v.per data_type [] e r size valid z
  sized = subst (λ (y : ℕ). IsSized y data_type [] e r size valid z) (sym eight) k.is.sized

  -- ---- the edit

  puts : PutsRecordOf c v s.mirror n z.file [] mid
  puts = puts_record c v s n z.file [] mid k.sized nothing_kept eight k.streams.table k.streams.mirror shorter.file

  mid_kept : IsKept mid
  mid_kept = new_kept c v s.mirror n z.file [] mid puts

  sizes : SizesWith v n data_type [] e r size valid z 0 0
  sizes = (let up = room in record {
    own = own;
    plain = user_plain n owned.user;
    spelled = lies.spelled;
    sized = sized;
    lawful = omega (arith, valid_now);
    room = omega (arith, below, up);
    begins = omega arith;
    reaches = omega (arith, valid_now);
  })

  puts_sizes : SizesOfVolume c v s.mirror n z 0 0 [] [] mid
  puts_sizes = record { mid = mid; file = puts; put = nothing_more c v.per 0 z.extents mid }

  edit : (bodies : List NewBody) × (EditsDraft c [] mid bodies × SizesStream first v n data_type [] e r size valid z q bodies)
  edit = sized_edit.edit c g clusters v s.mirror n data_type [] e r size valid z 0 0 [] [] mid state sizes puts_sizes

  stands_then : Stands behind g clusters x
  stands_then = subst (λ (y : Content). Stands y g clusters x) edit.1.0.content (sized_leads first g clusters v n data_type [] e r size valid z q edit.0 first_sized k.eight state edit.1.1).stands

  tree_then : TreeFollows first behind v n r q
  tree_then = subst (λ (y : Content). TreeFollows first y v n r q) edit.1.0.content (sized_tree first g clusters v n data_type [] e r size valid z q edit.0 first_sized k.eight state edit.1.1 (sym (ap has_hole placed) ∙ owned.whole))

  goes : GoesOnIn v n data_type [] r q (Placed z.extents)
  goes = files_going.sized first g clusters v n data_type [] e r size valid z q edit.0 state edit.1.1

  follows : Follows first v n a behind q (with_own behind v q a)
  follows = files_are.data_follows first behind v n r q a file tree_then

  reaches : Reaches c g clusters v mid x
  reaches = goes_behind c g clusters v v x [] mid edit.0 k.sized k.eight k.stands (begins c g clusters v k.sized k.stands) edit.1.0 (λ gave clear. sized_goes_on first g clusters v n data_type [] e r size valid z q edit.0 first_sized k.eight state edit.1.1 c v gave clear)

  -- ---- the bytes

  -- what the record puts spares the sectors
  same_bytes : SameBytesIn first behind v.per e
  same_bytes b read = ap (λ (y : BodyOf). y.bytes) (drafted_same c [] mid b k.sized nothing_kept mid_kept (sectors_stay c v s.mirror n z.file [] mid puts b (kind-block_at v.per e.runs Plain read.sector b (sym read.lies))))

  reads : bytes_or behind v.per (Some (Placed z.extents)) ≡ take size a.bytes
  reads =
      ap (λ (y : Extents). bytes_or behind v.per (Some (Placed y))) k.is.sized.extents
      ∙ stream_cut behind v.per e f (record { real = omega (arith, below); initialised = valid_now; places = λ m held. refl })
      ∙ ap (take size) (same_extents first behind v.per e same_bytes)
      ∙ ap (take size) (sym (shows.bytes ∙ ap (bytes_or first v.per) placed))

  runs_are : z.extents.runs ≡ e.runs
  runs_are = ap (λ (y : Extents). y.runs) k.is.sized.extents

  after : IsDataAfter false op a (Some (Placed z.extents)) (bytes_or behind v.per (Some (Placed z.extents)))
  after =
      let clusters_are = same_clusters (cluster_bits c v) r op a e placed less below lies.enough (sym runs_are ∙ k.is.takes.runs) in
      let whole = shorter_after op e a less clusters_are in
      subst (λ (l : List ℕ). IsDataAfter false op a (Some (Placed z.extents)) l) (sym reads)
      (subst (λ (y : Extents). IsDataAfter false op a (Some (Placed y)) (take size a.bytes)) (sym k.is.sized.extents) whole)

  -- ---- the clusters

  bits : (y : ℕ) → y < v.clusters → bit (cluster_bits first v) y ≡ false → bit (cluster_bits behind v) y ≡ false
  bits y low clear = sym (ap (λ (d : Content). bit (cluster_bits d v) y) edit.1.0.content) ∙ edit.1.1.marked y low ∙ clear

  written : IsWritten (placed_record v.per data_type [] f r) q
  written = subst (λ (y : Record). IsWritten y q) sized.file edit.1.1.written

  fewer : (y : ℕ) → uses z.extents.runs y ≤ uses (runs_in (data_in r)) y
  fewer y = (let now = ap (λ (l : List Run). uses l y) runs_are in let was = ap (λ (o : Option Stream). uses (runs_in o) y) placed in omega (arith, now, was))

  -- the record alone is put
  its : OwnRecord first v n r
  its = own_record first g clusters v n r state owned.own.file owned.own.no_list

  in_use : IsInUse z.file
  in_use = subst IsInUse (sym sized.file) (written_read.placed v.per data_type [] f r lies.spelled (written_read.used first v.per v.table n r its.slot))

  alone : IsRecordEdit c v n z.file [] mid
  alone = record_edit.edit c g clusters v s.mirror n r z.file [] mid state owned.own.file owned.own.no_list in_use puts

  stays : (w : Volume) → IsBeside n v w → (b : Block) → ((y : Block) → MayDiffer (n ∷ []) v w y → overlap b y ≡ false) → behind b ≡ first b
  stays w beside b apart = ap (λ (y : Content). y b) (sym alone.edits.content) ∙ others_stay n v v w owned.user (beside_itself n v) beside first alone.bodies first_sized alone.puts.whole alone.puts.each b apart

  has_resized : HasResized c g clusters v op n a r z mid
  has_resized = record {
    kept = mid_kept;
    fits = written_fits z.file shorter.file.fits shorter.file.room;
    reaches = reaches;
    stands = stands_then;
    goes = goes;
    follows = follows;
    after = after;
    room = rooms_are.kept first behind v n q owned.own.apart.bitmap bits;
    types = same_types first g clusters v n r q (Placed e) f state own lies.spelled written;
    others = other_streams first g clusters v n r q (Placed e) f state own lies.spelled written;
    taken = k.is.takes;
    fewer = fewer;
    stays = stays;
  }

  shorter_is_done : HasWritten c g clusters v op n stamp a (growth_of (cluster_bits c v) r op a) new
  shorter_is_done =
      timed_done times_set c g clusters v s op n stamp a r z mid new (record { sized = k.sized; eight = k.eight; stands = k.stands; streams = k.streams; file = k.file }) k.soon has_resized shorter.times

pub shorter_done : TimesAreSet → ShorterAreDone
shorter_done times_set c g clusters v s op n stamp a r z new less k = shorter_is_done times_set c g clusters v s op n stamp a r z new less k
