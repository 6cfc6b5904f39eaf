-- What comes of a file's data keeps the blocks from which a state is read.
use Rattle.std.proofs.Common.{◌≡◌, ◌≢◌, subst, ℕ, ◌+◌, ◌*◌, ◌/◌, ◌<◌, ◌≤◌, Bool, false, ◌&&◌, ltb, leb, List, [], ◌∷◌, length, Option, Some, None, refl, sym, ap, ap₂, ◌∙◌, inl, inr, arith}
use Rattle.std.specs.Prelude.{◌⊎◌, All}
use Rattle.std.specs.List.{AllByRecursion}
use Rattle.std.proofs.lemmas.Bool.{le-ltb, leb-false}
use Rattle.std.proofs.lemmas.List.Elements.{All-head, All-tail}
use Rattle.disk_model.specs.declared.block.Block.{Block}
use Rattle.disk_model.specs.declared.block.BlockKind.{BlockKind}
use Rattle.disk_model.specs.declared.block.BlockKind.TheVariants.{Plain, FileRec}
use Rattle.disk_model.specs.declared.block.Change.{Change}
use Rattle.disk_model.specs.Bodies.{BodyOf}
use Rattle.disk_model.specs.Content.{Content}
use Rattle.disk_model.specs.Sectors.{sectors}
use Rattle.record_model.specs.declared.runs.Run.{Run}
use Rattle.record_model.specs.Constants.{data_type, file_name}
use Rattle.record_model.specs.Pairs.{cluster_limit, HasSpelling}
use Rattle.record_model.specs.Records.{Record}
use Rattle.record_model.specs.RecordLaws.{RecordIsBody}
use Rattle.file_tree.specs.declared.node.Node.{Node}
use Rattle.file_tree.specs.Walks.{first_user_record}
use Rattle.bit_set.proofs.Views.{length-bits_of_bytes}
use Rattle.state_model.specs.declared.geometry.Geometry.{Geometry}
use Rattle.state_model.specs.declared.stream.Extents.{Extents}
use Rattle.state_model.specs.declared.stream.Stream.{Stream}
use Rattle.state_model.specs.declared.stream.Stream.TheVariants.{Held, Placed}
use Rattle.state_model.specs.Loads.{Used, slot_of, whole_record, is_used, extents_or, total_clusters}
use Rattle.state_model.specs.Streams.{block_at}
use Rattle.volume_model.specs.Volumes.{Volume, file_in, file_stream, cluster_bits, cluster_bitmap, bytes_or, log_file}
use Rattle.volume_model.specs.Sizes.{has_hole}
use Rattle.stream_laws.specs.Owners.{initialised_in}
use Rattle.stream_laws.specs.Sharing.{StreamKey, stream_at, runs_in}
use Rattle.stream_laws.specs.Tables.{table_key}
use Rattle.stream_laws.proofs.Placing.{lies}
use Rattle.stream_laws.proofs.Recording.{record_read}
use Rattle.stream_laws.proofs.Rewriting.{volume_parts}
use Rattle.stream_laws.proofs.Tabling.{read_in_use, table_extents_is, table_runs}
use Rattle.stream_runs.specs.Runs.{grown, last_cluster}
use Rattle.space_model.specs.Choosing.{chosen}
use Rattle.state_streams.specs.Streams.{IsPlacedIn}
use Rattle.state_streams.proofs.Lying.{sizes_are, few_there}
use Rattle.names_stay.proofs.tree_laws.Ascending.{all_by}
use Rattle.tree_model.specs.declared.script.Op.{Op}
use Rattle.names_stay.specs.plan_owners.Agreeing.{IsJudged, log_key}
use Rattle.names_stay.proofs.plan_owners.Standing.{begins}
use Rattle.plans_keep.specs.state_blocks.Needing.{IsNeeded}
use Rattle.plans_keep.proofs.state_blocks.Needing.{listed_judged}
use Rattle.plan_bodies.specs.Bodies.{NewBody, content_with}
use Rattle.plan_draft.specs.declared.touched.Touched.{Touched}
use Rattle.plan_draft.specs.Touching.{bodies_of, IsOldOf}
use Rattle.plan_draft.proofs.Same.{all_same}
use Rattle.names_stay.proofs.plan_model.OneRecord.{OwnRecord, own_record, slot_begins}
use Rattle.names_stay.specs.draft_bits.Filling.{first_past}
use Rattle.names_stay.specs.draft_records.Records.{record_block, is_past, has_mirror}
use Rattle.names_stay.specs.resized_streams.declared.resized.Resized.{Resized}
use Rattle.state_streams.proofs.plan_growth.Choosing.{may_be_taken}
use Rattle.state_streams.proofs.plan_growth.Growing.{total-grown}
use Rattle.names_stay.specs.plan_edits.Edits.{bitmap_key}
use Rattle.names_stay.specs.step_model.Placing.{Growth, more_of, runs_after}
use Rattle.names_stay.specs.step_model.Streams.{data_of}
use Rattle.names_stay.specs.data_plan.declared.change.DataChange.{DataChange}
use Rattle.names_stay.specs.data_plan.Changes.{data_in, growth_of, Grows, StandsBelow, IsChange}
use Rattle.names_stay.specs.made_data.Laws.{MadeIsCounted}
use Rattle.names_stay.specs.made_data.Made.{record_with_data}
use Rattle.names_stay.specs.file_puts.declared.streams.VolumeStreams.{VolumeStreams}
use Rattle.names_stay.specs.file_puts.Puts.{first_fresh}
use Rattle.names_stay.specs.file_puts.Written.{WritesBy, HasWritten}
use Rattle.names_stay.proofs.written_values.Growths.{growth_is}
use Rattle.plans_keep.specs.plan_spares.Plans.{HasOwnLists}
use Rattle.plans_keep.specs.Keeping.{AreFinished, TouchesWell, PlansKeep}
use Rattle.writes_keep.specs.Writes.{HasWholeSectors, IsWritten, WriteKeeps, WritesKeep}
use Rattle.writes_keep.proofs.Given.{IsDataOf, is_data_of}
use Rattle.writes_keep.proofs.Touching.{IsWell, AreSectors, IsRecord}
use Rattle.writes_keep.proofs.Putting.{judged_sector, grown_sector, GoesTo, AllWell, change_well}
use Rattle.writes_keep.proofs.Behind.{IsTouched, table_kind, bitmap_kind, other_file, user_is, v_per, same_clusters, not_user, same_runs, data_after, data_kind, is_touched, q, q_file, q_user, lists_after, upper_stays, streams_after, journal_after, same_file, count_after}
use Rattle.writes_keep.proofs.Leaving.{IsWrittenAt, Leads, IsAsked, all_led}

few_runs : (o : Option Stream) (runs : List Run) (most : ℕ) → ((e : Extents) → o ≡ Some (Placed e) → total_clusters e.runs ≤ most) → runs_in o ≡ runs → total_clusters runs ≤ most
few_runs None runs most each is = subst (λ (l : List Run). total_clusters l ≤ most) is (omega arith)
few_runs (Some (Held value)) runs most each is = subst (λ (l : List Run). total_clusters l ≤ most) is (omega arith)
few_runs (Some (Placed e)) runs most each is = subst (λ (l : List Run). total_clusters l ≤ most) is (each e refl)

goes_in : (P : Block → Type 0) (Q : Touched → Type 0) (touched : List Touched) → ((t : Touched) → Q t → P t.block) → AllByRecursion Q touched → AllByRecursion (λ (p : NewBody). P p.block) (bodies_of touched)
goes_in P Q [] f all = tt
goes_in P Q (t ∷ touched) f all = (f t all.0, goes_in P Q touched f all.1)

is_data_name : file_name ≢ data_type
is_data_name is = omega (arith, is)

module _ (keeps : PlansKeep) (body : RecordIsBody) (c : Content) (g : Geometry) (clusters : ℕ) (v : Volume) (s : VolumeStreams) (op : Op) (n stamp : ℕ) (a : Node) (r via : Record) (x : DataChange) (new : List Touched) (changes : List Change) (k : WritesBy c g clusters v s op n stamp a r via x new)
    (h : HasWritten c g clusters v op n stamp a (growth_of (cluster_bits c v) r op a) new) (given : IsDataOf (cluster_bits c v) op a r via) (done : AreFinished c new changes) (lists : HasOwnLists c v) (sectors_whole : HasWholeSectors c v) where
  abbrev w : Volume
  w = h.after

  abbrev d : Content
  d = content_with c h.bodies

  abbrev growth : Growth
  growth = growth_of (cluster_bits c v) r op a

  abbrev runs_now : List Run
  runs_now = runs_after (growth_of (cluster_bits c v) r op a)

  eight : v.per ≡ 8
  eight = v_per c g clusters v s op n stamp a r via x new k h

  user : first_user_record ≤ n
  user = (user_is c g clusters v s op n stamp a r via x new k h).user

  other_number : (m : ℕ) → m < 16 → m ≢ n
  other_number m low = not_user c g clusters v s op n stamp a r via x new k h m (omega (arith, low))

  -- ---- blocks by which the state before is judged

  table_was : runs_in (stream_at v table_key) ≡ v.table.runs
  table_was = table_runs c g clusters v (begins c g clusters v k.stands)

  table_size : initialised_in (stream_at v table_key) ≡ v.table.initialised
  table_size = of_extents (stream_at v table_key) ∙ ap (λ (e : Extents). e.initialised) (table_extents_is c g clusters v (begins c g clusters v k.stands))
    where
      of_extents : (o : Option Stream) → initialised_in o ≡ (extents_or o).initialised
      of_extents None = refl
      of_extents (Some (Held value)) = refl
      of_extents (Some (Placed e)) = refl

  lies_there : (b : Block) → record_block 8 s.table n ≡ Some b → block_at v.per v.table.runs FileRec n ≡ Some b
  lies_there b at = ap₂ (λ (p : ℕ) (e : Extents). block_at p e.runs FileRec n) eight (sym k.streams.table) ∙ at

  record_begun : (b : Block) → record_block 8 s.table n ≡ Some b → is_past s.table n ≡ false → IsJudged v b
  unfolding lies_there
  record_begun b at begun =
      let below : 1024 * n < v.table.initialised = leb-false v.table.initialised (1024 * n) (ap (λ (e : Extents). leb e.initialised (1024 * n)) (sym k.streams.table) ∙ begun) in
      record {
        live = record {
          owned = record { stream = table_key; number = n; lies = ap₂ (λ (l : List Run) (y : BlockKind). block_at v.per l y n) table_was table_kind ∙ lies_there b at };
          begins = subst (λ (y : BlockKind). 512 * (sectors y * n) < initialised_in (stream_at v table_key)) (sym table_kind) (subst (λ (i : ℕ). 512 * (2 * n) < i) (sym table_size) (omega (arith, below)));
        };
        other = other_file table_key log_key (λ is. omega (arith, is));
      }

  no_mirror : has_mirror s.mirror n ≡ false
  no_mirror = (let high = user in ap (λ (t : Bool). t && ltb n (s.mirror.real / 1024)) (le-ltb n 4 (omega (arith, high))))

  record_is : IsRecord (GoesTo s n runs_now) (IsJudged v) s.table s.mirror n
  record_is = record { alone = no_mirror; goes = λ b at. inl at; begun = record_begun }

  bits_are : AreSectors (GoesTo s n runs_now) (IsJudged v) s.bitmap.runs (first_past s.bitmap)
  bits_are i b at = (inr (inl (i, at)), λ lt. judged_sector v bitmap_key s.bitmap i b eight k.streams.bitmap.stream bitmap_kind (other_file bitmap_key log_key (λ is. omega (arith, is))) at (omega (arith, lt)))

  fresh_are : AreSectors (GoesTo s n runs_now) (IsJudged v) runs_now 0
  fresh_are i b at = (inr (inr (i, at)), λ lt. absurd (omega (arith, lt)))

  data_at : (e : Extents) → data_in via ≡ Some (Placed e) → stream_at v (data_of n) ≡ Some (Placed e)
  data_at e placed = ap (file_stream data_type []) k.file.file ∙ given.placed e placed

  data_judged : (e : Extents) (i : ℕ) (b : Block) → data_in via ≡ Some (Placed e) → block_at 8 e.runs Plain i ≡ Some b → 512 * i < e.initialised → IsJudged v b
  data_judged e i b placed at below = judged_sector v (data_of n) e i b eight (data_at e placed) (data_kind c g clusters v s op n stamp a r via x new k h) (other_file (data_of n) log_key (λ is. other_number log_file (omega arith) (sym is))) at below

  stays_are : (e : Extents) → data_in via ≡ Some (Placed e) → e.runs ≡ runs_now → AreSectors (GoesTo s n runs_now) (IsJudged v) runs_now (first_fresh e)
  stays_are e placed runs i b at = (inr (inr (i, at)), λ lt. data_judged e i b placed (ap (λ (l : List Run). block_at 8 l Plain i) runs ∙ at) (omega (arith, lt)))

  -- ---- data that takes clusters

  same_count : clusters ≡ v.clusters
  same_count = (volume_parts c g clusters v k.stands.loaded).count

  placed_in : (e : Extents) → data_in via ≡ Some (Placed e) → IsPlacedIn v n data_type [] e
  placed_in e placed = record { file = r; is_file = k.file.file; no_name = is_data_name; stream = given.placed e placed }

  high : (e : Extents) → data_in via ≡ Some (Placed e) → e.initialised ≤ total_clusters e.runs * 4096
  high e placed =
      let sizes = sizes_are c g clusters v n data_type [] e k.stands (placed_in e placed) in
      let one = sizes.initialised in
      let two = sizes.real in
      let three : e.allocated ≡ total_clusters e.runs * (512 * 8) = sizes.allocated ∙ ap (λ (p : ℕ). total_clusters e.runs * (512 * p)) eight in
      omega (arith, one, two, three)

  length_bits : length (cluster_bits c v) ≡ v.clusters
  unfolding cluster_bits
  length_bits = length-bits_of_bytes (bytes_or c v.per (cluster_bitmap v)) v.clusters

  after_file : file_in w n ≡ Some (q c g clusters v s op n stamp a r via x new k h)
  after_file = q_file c g clusters v s op n stamp a r via x new k h

  few_data : total_clusters runs_now ≤ cluster_limit
  few_data =
      let most : total_clusters runs_now ≤ w.clusters =
      few_runs (file_stream data_type [] (file_in w n)) runs_now w.clusters
      (λ e is. few_there d g clusters w n data_type [] e h.draft.stands
      (record { file = q c g clusters v s op n stamp a r via x new k h; is_file = after_file; no_name = is_data_name; stream = sym (ap (file_stream data_type []) after_file) ∙ is })
      (ap has_hole (sym is ∙ ap (file_stream data_type []) after_file) ∙ (q_user c g clusters v s op n stamp a r via x new k h).whole))
      (data_after c g clusters v s op n stamp a r via x new k h)
      in
      let same = same_clusters c g clusters v s op n stamp a r via x new k h in
      let count = same_count in
      let few = k.few in
      omega (arith, most, same, count, few)

  grows_are : (z : Resized) → Grows growth via z → AreSectors (GoesTo s n runs_now) (IsJudged v) runs_now (first_fresh z.extents)
  grows_are z is i b at = (inr (inr (i, at)), λ lt. data_judged is.e i b is.placed (sym (grown_sector is.e growth.runs i spelled more_spelled room (high is.e is.placed) (omega (arith, lt, begun))) ∙ ap (λ (l : List Run). block_at 8 l Plain i) (sym runs) ∙ at) (omega (arith, lt, begun)))
    where
      runs : runs_now ≡ grown is.e.runs growth.runs
      runs = sym is.takes.runs ∙ ap (λ (e : Extents). e.runs) is.grown.extents

      begun : z.extents.initialised ≡ is.e.initialised
      begun = ap (λ (e : Extents). e.initialised) is.grown.extents

      total : total_clusters runs_now ≡ total_clusters is.e.runs + total_clusters growth.runs
      total = ap total_clusters runs ∙ total-grown is.e.runs growth.runs

      room : total_clusters is.e.runs + total_clusters growth.runs ≤ cluster_limit
      room = (let few = few_data in let sum = total in omega (arith, few, sum))

      spelled : HasSpelling 0 is.e.runs
      spelled = (subst (StandsBelow clusters) is.placed k.has.stands).spelled

      chosen_is : growth.runs ≡ chosen (cluster_bits c v) (last_cluster growth.old) (more_of growth)
      chosen_is = (growth_is (cluster_bits c v) r op a).placed

      few_bits : length (cluster_bits c v) ≤ cluster_limit
      few_bits = (let long = length_bits in let count = same_count in let few = k.few in omega (arith, long, count, few))

      few_more : total_clusters (chosen (cluster_bits c v) (last_cluster growth.old) (more_of growth)) ≤ cluster_limit
      few_more = subst (λ (l : List Run). total_clusters l ≤ cluster_limit) chosen_is (let all = room in omega (arith, all))

      more_spelled : HasSpelling 0 growth.runs
      more_spelled = subst (HasSpelling 0) (sym chosen_is) (may_be_taken (cluster_bits c v) (cluster_bits c v) (last_cluster growth.old) (more_of growth) (λ y clear. clear) few_bits few_more).spelled

  -- ---- what is touched

  change_is : IsChange growth via op a x
  change_is = subst (λ (y : Growth). IsChange y via op a x) given.growth k.is

  all_well : AllWell v s n runs_now new
  all_well = change_well body v s n runs_now record_is bits_are c op a stamp via growth refl fresh_are grows_are stays_are x change_is [] new k.put tt

  each : AllByRecursion (λ (p : NewBody). GoesTo s n runs_now p.block) h.bodies
  each = all_same (GoesTo s n runs_now) h.bodies (bodies_of new) (λ b. sym (h.same b)) (goes_in (GoesTo s n runs_now) (IsWell (GoesTo s n runs_now) (IsJudged v)) new (λ t is. is.goes) all_well)

  judged_of : (b : Block) → IsNeeded c v b → IsJudged v b
  judged_of b (inl judged) = judged
  judged_of b (inr listed) = listed_judged c v b listed (lists listed.number listed.file listed.is_file)

  own : OwnRecord c v n r
  own = own_record c g clusters v n r k.stands k.file.file (user_is c g clusters v s op n stamp a r via x new k h).own.no_list

  whole_record_at : (b : Block) → record_block 8 s.table n ≡ Some b → (c b).torn ≡ false
  unfolding slot_of
  whole_record_at b at =
      let read : slot_of (c b) ≡ Used r = sym (record_read c v.per v.table n b (slot_begins c v n r own.slot) (lies_there b at)) ∙ own.slot in
      (read_in_use (c b).torn (is_used (c b).bytes) (whole_record (c b).bytes) r read).0

  whole_at : (b : Block) → GoesTo s n runs_now b → IsNeeded c v b → (c b).torn ≡ false
  whole_at b (inl its) needed = whole_record_at b its
  whole_at b (inr (inl bits)) needed = sectors_whole b (judged_of b needed) (sym (lies 8 s.bitmap.runs Plain bits.0 b bits.1).kind_is)
  whole_at b (inr (inr there)) needed = sectors_whole b (judged_of b needed) (sym (lies 8 runs_now Plain there.0 b there.1).kind_is)

  touches_well : (touched : List Touched) → All (IsOldOf c) touched → AllWell v s n runs_now touched → AllByRecursion (TouchesWell c v) touched
  touches_well [] olds well = tt
  touches_well (t ∷ touched) olds well = (
    record {
      spelled = well.0.spelled;
      begun = well.0.begun;
      whole = λ needed. sym (ap (λ (y : BodyOf). y.torn) (All-head (IsOldOf c) t touched olds)) ∙ whole_at t.block well.0.goes needed;
    },
    touches_well touched (All-tail (IsOldOf c) t touched olds) well.1,
  )

  lists_then : HasOwnLists d w
  lists_then = lists_after c g clusters v s op n stamp a r via x new k h each lists

  -- ---- all of it

  leads : Leads c g clusters v h.bodies w
  leads = record {
    sized = k.sized;
    eight = k.eight;
    stands = k.stands;
    gave = h.gave;
    draft = h.draft;
    quiet = λ t quiet. same_runs c g clusters v s op n stamp a r via x new k h t (λ is. quiet (inr (inr (inr (inr (subst (λ (i : ℕ). first_user_record ≤ i) (sym is) user))))));
    takes = h.left.takes;
  }

  written_at : (b : Block) → IsTouched w n b → IsWrittenAt w b
  written_at b touched = record { own = touched.own; written = of_file touched.own.stream touched.own.number touched.which; second = not_second touched.own.stream touched.own.number touched.which }
    where
      of_file : (t : StreamKey) (i : ℕ) → ((t ≡ table_key) × (i ≡ n)) ⊎ ((t ≡ bitmap_key) ⊎ (t ≡ data_of n)) → IsWritten t.file
      of_file t i (inl its) = inl (ap (λ (y : StreamKey). y.file) its.0)
      of_file t i (inr (inl bits)) = inr (inr (inr (inl (ap (λ (y : StreamKey). y.file) bits))))
      of_file t i (inr (inr there)) = inr (inr (inr (inr (subst (λ (y : StreamKey). first_user_record ≤ y.file) (sym there) user))))

      not_second : (t : StreamKey) (i : ℕ) → ((t ≡ table_key) × (i ≡ n)) ⊎ ((t ≡ bitmap_key) ⊎ (t ≡ data_of n)) → t ≡ table_key → i ≢ 2
      not_second t i (inl its) is second = (let own : n ≡ 2 = sym its.1 ∙ second in omega (arith, own, user))
      not_second t i (inr (inl bits)) is second = other_file bitmap_key table_key (λ e. omega (arith, e)) (sym bits ∙ is)
      not_second t i (inr (inr there)) is second = other_file (data_of n) table_key (λ e. omega (arith, e, user)) (sym there ∙ is)

  each_written : AllByRecursion (λ (t : Touched). IsWrittenAt w t.block) new
  each_written = all_by (IsWell (GoesTo s n runs_now) (IsJudged v)) (λ (t : Touched). IsWrittenAt w t.block) (λ t is. written_at t.block (is_touched c g clusters v s op n stamp a r via x new k h t.block is.goes)) new all_well

  asked : IsAsked c v d w s
  asked = record {
    lists = lists_then;
    upper = upper_stays c g clusters v s op n stamp a r via x new k h each lists;
    streams = streams_after c g clusters v s op n stamp a r via x new k h each lists;
    journal = journal_after c g clusters v s op n stamp a r via x new k h;
    count = (let same = count_after c g clusters v s op n stamp a r via x new k h each lists in omega (arith, same));
    files = λ m own no_table no_root. same_file c g clusters v s op n stamp a r via x new k h each lists m (not_user c g clusters v s op n stamp a r via x new k h m own);
  }

  kept : WriteKeeps c g v s h.bodies changes w
  kept = all_led c g clusters v h.bodies w leads keeps s new changes h.same done each_written (touches_well new done.olds all_well) lists asked

pub all_kept : MadeIsCounted → PlansKeep → RecordIsBody → WritesKeep
all_kept counted keeps body c g clusters v s op n stamp a r x new changes k h =
    kept keeps body c g clusters v s op n stamp a r (record_with_data r) x new changes k h (is_data_of counted (cluster_bits c v) op a r)
