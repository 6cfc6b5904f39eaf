-- Data that is cut gives clusters back.
use Rattle.std.proofs.Common.{◌≡◌, ℕ, ◌*◌, ◌<◌, ◌≤◌, Bool, false, not, ◌&&◌, leb, List, [], ◌∷◌, take, Option, Some, sym, ap, subst, ◌∙◌, arith}
use Rattle.std.proofs.lemmas.Bool.{and_right}
use Rattle.disk_model.specs.declared.block.Block.{Block}
use Rattle.disk_model.specs.Sectors.{overlap}
use Rattle.disk_model.specs.Content.{Content, HasSizes as HasBlockSizes}
use Rattle.record_model.specs.Constants.{data_type}
use Rattle.record_model.specs.Pairs.{HasSpelling}
use Rattle.record_model.specs.Records.{Record}
use Rattle.bit_set.specs.Bits.{bit}
use Rattle.file_tree.specs.declared.node.Node.{Node}
use Rattle.change_steps.specs.state_model.declared.geometry.Geometry.{Geometry}
use Rattle.change_steps.specs.state_model.declared.stream.Extents.{Extents}
use Rattle.change_steps.specs.state_model.declared.stream.Stream.{Stream}
use Rattle.change_steps.specs.state_model.declared.stream.Stream.TheVariants.{Placed}
use Rattle.change_steps.specs.state_model.Loads.{total_clusters}
use Rattle.change_steps.specs.volume_model.Volumes.{Volume, file_stream, bytes_or, size_or, cluster_bits}
use Rattle.change_steps.specs.volume_model.Nodes.{valid_or}
use Rattle.change_steps.specs.volume_model.Owners.{uses}
use Rattle.change_steps.specs.volume_model.Sizes.{has_hole}
use Rattle.change_steps.specs.stream_laws.Sharing.{stream_at, runs_in}
use Rattle.change_steps.specs.stream_runs.Runs.{front}
use Rattle.change_steps.proofs.stream_runs.Merging.{uses-merged, follow-merged}
use Rattle.change_steps.proofs.stream_runs.Parts.{uses_parts, follow-front}
use Rattle.tree_model.specs.declared.script.Op.{Op}
use Rattle.tree_model.specs.Needs.{size_after}
use Rattle.change_steps.specs.plan_owners.States.{Stands}
use Rattle.plan_bodies.specs.Bodies.{NewBody}
use Rattle.plan_bodies.proofs.Putting.{sized_with}
use Rattle.change_steps.specs.plan_draft.declared.touched.Touched.{Touched}
use Rattle.change_steps.specs.plan_draft.Touching.{bodies_of}
use Rattle.change_steps.specs.plan_draft.Drafts.{drafted}
use Rattle.change_steps.specs.plan_model.Informed.{with_record}
use Rattle.change_steps.proofs.plan_model.Drafting.{per_is}
use Rattle.change_steps.specs.record_streams.Placing.{placed_record}
use Rattle.change_steps.specs.record_times.Laws.{TimesAreSet}
use Rattle.change_steps.specs.draft_records.Records.{written_record}
use Rattle.change_steps.specs.draft_resized.Effects.{PutsWhole}
use Rattle.change_steps.specs.draft_resized.Resized.{PutsResized}
use Rattle.change_steps.proofs.draft_resized.FileEffects.{resized_put}
use Rattle.change_steps.specs.resized_streams.declared.resized.Resized.{Resized}
use Rattle.change_steps.specs.resized_streams.Resizing.{clusters_for, shortened, IsCut}
use Rattle.change_steps.specs.plan_growth.Cutting.{CutsStream}
use Rattle.change_steps.specs.plan_growth.Streams.{IsOwnStream, IsWritten, key_of, marks_streams}
use Rattle.change_steps.specs.plan_growth.Trees.{TreeFollows}
use Rattle.change_steps.proofs.plan_growth.Cutting.{cut_leads, cut_goes_on, cut_bytes, cut_tree}
use Rattle.change_steps.proofs.plan_growth.Resizing.{not_marked}
use Rattle.change_steps.proofs.plan_growth.Ruled.{stream_fits, sizes_lawful}
use Rattle.change_steps.specs.plan_edits.Edits.{PutsOfVolume, IsEdit}
use Rattle.change_steps.specs.plan_edits.Moves.{EditsDraft}
use Rattle.change_steps.proofs.plan_edits.Bitmap.{state_bitmap}
use Rattle.change_steps.proofs.plan_edits.Editing.{resized_edit}
use Rattle.change_steps.specs.plan_changes.Changes.{IsDataAfter}
use Rattle.change_steps.specs.plan_changes.Files.{IsChangeable, Shows, with_own, Follows}
use Rattle.change_steps.specs.plan_changes.Going.{GoesOnIn}
use Rattle.change_steps.proofs.plan_changes.Falling.{rooms_are}
use Rattle.change_steps.proofs.plan_changes.Going.{files_going}
use Rattle.change_steps.proofs.plan_changes.Showing.{files_are}
use Rattle.change_steps.specs.step_model.Contents.{MayDiffer}
use Rattle.change_steps.specs.data_plan.declared.change.DataChange.TheVariants as change
use Rattle.change_steps.specs.data_plan.Changes.{data_in, growth_of, StandsBelow, LiesBelow}
use Rattle.change_steps.specs.file_puts.declared.streams.VolumeStreams.{VolumeStreams}
use Rattle.change_steps.specs.file_puts.Written.{WritesFile, HasWritten}
use Rattle.written_values.specs.Laws.{CutsAreDone}
use Rattle.written_values.proofs.Owning.{IsOwned, is_owned, own_stream}
use Rattle.written_values.proofs.Becoming.{cut_after}
use Rattle.written_values.proofs.Joining.{nothing_put, nothing_kept, Reaches, begins, goes_behind}
use Rattle.written_values.proofs.Sparing.{other_streams, same_types, beside_itself, IsBeside, others_stay}
use Rattle.written_values.proofs.Timing.{written_fits, HasResized, timed_done}

module _ (times_set : TimesAreSet) (c : Content) (g : Geometry) (clusters : ℕ) (v : Volume) (s : VolumeStreams) (op : Op) (n stamp : ℕ) (a : Node) (r : Record) (z : Resized) (new : List Touched) (k : WritesFile c g clusters v s op n stamp a r (change.Cut z) new) where
  abbrev first : Content
  first = drafted [] c

  abbrev mid : List Touched
  mid = k.put.mid

  abbrev behind : Content
  behind = drafted k.put.mid c

  abbrev q : Record
  q = written_record z.file

  abbrev x : Volume
  x = with_record v n (written_record z.file)

  abbrev e : Extents
  e = k.is.e

  abbrev size : ℕ
  size = size_after op a

  start : first ≡ c
  start = nothing_put c k.sized

  first_sized : HasBlockSizes first
  first_sized = sized_with c (bodies_of []) k.sized

  state : Stands first g clusters v
  state = subst (λ (y : Content). Stands y g clusters v) (sym start) k.stands

  file : IsChangeable first v n r a
  file = subst (λ (y : Content). IsChangeable y v n r a) (sym start) k.file

  owned : IsOwned v n r
  owned = is_owned first g clusters v n r a state file

  shows : Shows first v n r a
  shows = files_are.shows first v n r a file

  eight : v.per ≡ 8
  eight = per_is c g clusters v k.eight k.stands

  -- ---- the data

  placed : data_in r ≡ Some (Placed e)
  placed = k.is.placed

  own : IsOwnStream v n data_type [] r (Placed e)
  own = own_stream v n r (Placed e) owned placed

  lies : LiesBelow clusters e
  lies = subst (StandsBelow clusters) placed k.has.stands

  lawful : (e.initialised ≤ e.real) × (e.real ≤ total_clusters e.runs * (512 * v.per))
  lawful = sizes_lawful v.per v.clusters e (stream_fits first g clusters v n data_type [] r (Placed e) state own)

  real_is : a.size ≡ e.real
  real_is = shows.size ∙ ap size_or placed

  valid_is : a.valid ≡ e.initialised
  valid_is = shows.valid ∙ ap valid_or placed

  cut : IsCut v.per data_type [] e r size z
  cut = subst (λ (y : ℕ). IsCut y data_type [] e r size z) (sym eight) k.is.cut

  -- ---- the edit

  resized : PutsResized c v.per s.bitmap v.table s.mirror n z [] mid
  resized = subst (λ (y : ℕ). PutsResized c y s.bitmap v.table s.mirror n z [] mid) (sym eight) (subst (λ (t : Extents). PutsResized c 8 s.bitmap t s.mirror n z [] mid) k.streams.table k.put.cut.put)

  whole : PutsWhole c v.per s.bitmap v.table s.mirror n z [] mid
  whole = record { sized = k.sized; kept = nothing_kept; fits = k.put.cut.fits; room = k.put.cut.room; own = state_bitmap.own c g clusters v s.bitmap k.stands k.streams.bitmap.stream; put = resized }

  puts : PutsOfVolume c v s.bitmap s.mirror n z [] mid
  puts = record { bits = k.streams.bitmap; mirror_is = k.streams.mirror; put = whole }

  edit : (is : IsEdit c v n z [] mid) × CutsStream first v n data_type [] e r size z q is.bodies
  edit = (let less = k.is.less in resized_edit.cut c g clusters v s.bitmap s.mirror n data_type [] e r size z [] mid state own (λ same. omega (arith, same)) lies.spelled cut (omega (arith, less)) puts)

  abbrev bodies : List NewBody
  bodies = edit.0.bodies

  edits : EditsDraft c [] mid bodies
  edits = record { same = edit.0.same; content = edit.0.content }

  stands_then : Stands behind g clusters x
  stands_then = subst (λ (y : Content). Stands y g clusters x) edit.0.content (cut_leads first g clusters v n data_type [] e r size z q bodies first_sized k.eight state edit.1).stands

  tree_then : TreeFollows first behind v n r q
  tree_then = subst (λ (y : Content). TreeFollows first y v n r q) edit.0.content (cut_tree first g clusters v n data_type [] e r size z q bodies first_sized k.eight state edit.1 (sym (ap has_hole placed) ∙ owned.whole))

  goes : GoesOnIn v n data_type [] r q (Placed z.extents)
  goes = files_going.cut first g clusters v n data_type [] e r size z q bodies state edit.1

  follows : Follows first v n a behind q (with_own behind v q a)
  follows = files_are.data_follows first behind v n r q a file tree_then

  reaches : Reaches c g clusters v mid x
  reaches = goes_behind c g clusters v v x [] mid bodies k.sized k.eight k.stands (begins c g clusters v k.sized k.stands) edits (λ gave clear. cut_goes_on first g clusters v n data_type [] e r size z q bodies first_sized k.eight state edit.1 c v gave clear)

  -- ---- the bytes

  no_marks : marks_streams (key_of n data_type []) ≡ false
  no_marks = (let low = owned.user in not_marked n [] (λ same. omega (arith, same, low)) (λ same. omega (arith, same, low)))

  reads : bytes_or behind v.per (Some (Placed z.extents)) ≡ take size a.bytes
  reads =
      sym (ap (bytes_or behind v.per) (ap (file_stream data_type []) goes.own.file ∙ goes.own.stream))
      ∙ ap (λ (y : Content). bytes_or y v.per (stream_at x (key_of n data_type []))) (sym edit.0.content)
      ∙ cut_bytes first g clusters v n data_type [] e r size z q bodies first_sized k.eight state edit.1 no_marks
      ∙ ap (λ (o : Option Record). take size (bytes_or first v.per (file_stream data_type [] o))) owned.own.file
      ∙ ap (take size) (sym shows.bytes)

  within : e.real ≤ total_clusters e.runs * 4096
  within = subst (λ (y : ℕ). e.real ≤ total_clusters e.runs * (512 * y)) eight lawful.1

  after : IsDataAfter false op a (Some (Placed z.extents)) (bytes_or behind v.per (Some (Placed z.extents)))
  after =
      let less : size < a.size = subst (λ (y : ℕ). size < y) (sym real_is) k.is.less in
      let shorter = cut_after op e a less real_is valid_is within in
      subst (λ (l : List ℕ). IsDataAfter false op a (Some (Placed z.extents)) l) (sym reads)
      (subst (λ (y : Extents). IsDataAfter false op a (Some (Placed y)) (take size a.bytes)) (sym k.is.cut.extents) shorter)

  -- ---- the clusters

  still_clear : (t : Bool) (was : Bool) → was ≡ false → (t && was) ≡ false
  still_clear t was is = and_right t was is

  bits : (y : ℕ) → y < v.clusters → bit (cluster_bits first v) y ≡ false → bit (cluster_bits behind v) y ≡ false
  bits y low clear =
      sym (ap (λ (d : Content). bit (cluster_bits d v) y) edit.0.content) ∙ edit.1.marked y low ∙ still_clear (not (leb 1 (uses z.freed.items y))) (bit (cluster_bits first v) y) clear

  spelled : HasSpelling 0 (shortened v.per size e).runs
  spelled = follow-merged 0 0 (front (clusters_for v.per size) e.runs) (follow-front 0 0 (clusters_for v.per size) e.runs lies.spelled)

  written : IsWritten (placed_record v.per data_type [] (shortened v.per size e) r) q
  written = subst (λ (y : Record). IsWritten y q) edit.1.cut.file edit.1.written

  fewer : (y : ℕ) → uses z.extents.runs y ≤ uses (runs_in (data_in r)) y
  fewer y =
      let now = ap (λ (f : Extents). uses f.runs y) k.is.cut.extents in
      let was = ap (λ (o : Option Stream). uses (runs_in o) y) placed in
      let merge = uses-merged (front (clusters_for 8 size) e.runs) y in
      let parts = uses_parts (clusters_for 8 size) e.runs y in
      omega (arith, now, was, merge, parts)

  stays : (w : Volume) → IsBeside n v w → (b : Block) → ((y : Block) → MayDiffer (n ∷ []) v w y → overlap b y ≡ false) → behind b ≡ first b
  stays w beside b apart = ap (λ (y : Content). y b) (sym edit.0.content) ∙ others_stay n v v w owned.user (beside_itself n v) beside first bodies first_sized edit.1.puts.whole edit.1.puts.each b apart

  has_resized : HasResized c g clusters v op n a r z mid
  has_resized = record {
    kept = resized_put.whole c v.per s.bitmap v.table s.mirror n z [] mid whole;
    fits = written_fits z.file k.put.cut.fits k.put.cut.room;
    reaches = reaches;
    stands = stands_then;
    goes = goes;
    follows = follows;
    after = after;
    room = rooms_are.kept first behind v n q owned.own.apart.bitmap bits;
    types = same_types first g clusters v n r q (Placed e) (shortened v.per size e) state own spelled written;
    others = other_streams first g clusters v n r q (Placed e) (shortened v.per size e) state own spelled written;
    taken = k.is.takes;
    fewer = fewer;
    stays = stays;
  }

  cut_done : HasWritten c g clusters v op n stamp a (growth_of (cluster_bits c v) r op a) new
  cut_done =
      timed_done times_set c g clusters v s op n stamp a r z mid new (record { sized = k.sized; eight = k.eight; stands = k.stands; streams = k.streams; file = k.file }) k.soon has_resized k.put.times

pub cuts_done : TimesAreSet → CutsAreDone
cuts_done times_set c g clusters v s op n stamp a r z new k = cut_done times_set c g clusters v s op n stamp a r z new k
