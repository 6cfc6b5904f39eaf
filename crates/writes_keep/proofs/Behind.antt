-- What a file that was written or cut leaves of a volume: its other files, and the blocks of their streams.
use Rattle.std.proofs.Common.{◌≡◌, ◌≢◌, subst, ℕ, ◌*◌, ◌<◌, ◌≤◌, Bool, true, false, ◌&&◌, ◌||◌, cond, eqb, nat_eq, List, [], ◌∷◌, Option, Some, None, Ok, refl, sym, ap, ap₂, ◌∙◌, inl, inr, arith}
use Rattle.std.specs.Prelude.{◌⊎◌, is_some}
use Rattle.std.specs.List.{AllByRecursion}
use Rattle.std.specs.Cmp.Lexicographic.{pointwise}
use Rattle.std.proofs.lemmas.Bool.{cases_eq, both_ways, eqb-true, eq-eqb, ne_eqb}
use Rattle.host_base.specs.Answers.{◌>>=◌}
use Rattle.disk_model.specs.declared.block.Block.{Block}
use Rattle.disk_model.specs.declared.block.Body.{Body}
use Rattle.disk_model.specs.declared.block.BlockKind.{BlockKind}
use Rattle.disk_model.specs.declared.block.BlockKind.TheVariants.{Plain, FileRec}
use Rattle.disk_model.specs.Content.{Content}
use Rattle.record_model.specs.declared.runs.Run.{Run}
use Rattle.record_model.specs.Constants.{attribute_list, data_type}
use Rattle.record_model.specs.Records.{Record, record_at}
use Rattle.file_tree.specs.declared.node.Node.{Node}
use Rattle.file_tree.specs.declared.node.Kind.TheVariants.{File}
use Rattle.file_tree.specs.Trees.{node_at as node_by_number}
use Rattle.file_tree.specs.Walks.{first_user_record}
use Rattle.state_model.specs.declared.geometry.Geometry.{Geometry}
use Rattle.state_model.specs.declared.stream.Extents.{Extents}
use Rattle.state_model.specs.declared.stream.Stream.{Stream}
use Rattle.state_model.specs.declared.stream.Stream.TheVariants.{Held, Placed}
use Rattle.state_model.specs.Files.{file_at}
use Rattle.state_model.specs.Loads.{Used, extents_or, slot_by, boot_block, judged, extents_in, record_count, table_of, table_slot, used_record, list_stream, cuts_index}
use Rattle.state_model.specs.Streams.{block_at}
use Rattle.volume_model.specs.Volumes.{Volume, volume_of, count_of, file_in, file_stream, bytes_or, table_file, mirror_file, log_file, bitmap_file, upcase_file, cluster_bits, upper_of, table_or_standard}
use Rattle.volume_model.specs.Nodes.{some_node, node_at}
use Rattle.volume_model.specs.Owners.{volume_runs}
use Rattle.names_stay.specs.volume_state.Trees.{tree_of}
use Rattle.upcase_order.specs.Tables.{upcase_of}
use Rattle.stream_laws.specs.Frames.{SameBytesInSome, SameRecordIn}
use Rattle.stream_laws.specs.Owners.{stream_kind, Owns}
use Rattle.stream_laws.specs.Places.{AreOnce}
use Rattle.stream_laws.specs.Replacing.{FileEdit}
use Rattle.stream_laws.specs.Rewrites.{StandsAlone, ChangesRecords, is_edited, changed_volume}
use Rattle.stream_laws.specs.Sharing.{StreamKey, stream_at, runs_in}
use Rattle.stream_laws.specs.Tables.{table_key}
use Rattle.stream_laws.specs.Volumes.{base_record}
use Rattle.stream_laws.proofs.Editing.{length-with_edits}
use Rattle.stream_laws.proofs.Framing.{same_slot}
use Rattle.stream_laws.proofs.Owning.{one_owner}
use Rattle.stream_laws.proofs.Rewriting.{volume_parts, volume_now, goes_on_itself, edits_in_place, count_is}
use Rattle.stream_laws.proofs.Tabling.{inside_list, table_runs}
use Rattle.names_stay.proofs.tree_laws.Agreeing.{same_upper}
use Rattle.tree_model.specs.declared.script.Op.{Op}
use Rattle.tree_model.specs.Effects.{changed_node, file_after}
use Rattle.names_stay.specs.plan_owners.States.{IsOwnRecord}
use Rattle.names_stay.specs.plan_owners.Agreeing.{log_key, list_key}
use Rattle.names_stay.proofs.plan_owners.Outside.{once}
use Rattle.names_stay.proofs.plan_owners.Standing.{slots, slot_record, some_file, as_file, is_base, begins}
use Rattle.names_stay.proofs.plan_owners.Unnamed.{slot_of_base, unnamed}
use Rattle.plan_bodies.specs.Bodies.{NewBody, content_with, body_in, body_or}
use Rattle.plan_bodies.proofs.Putting.{body_put}
use Rattle.plan_draft.specs.declared.touched.Touched.{Touched}
use Rattle.names_stay.specs.plan_model.Informed.{with_record}
use Rattle.names_stay.proofs.plan_model.Drafting.{per_is}
use Rattle.names_stay.proofs.plan_model.OneRecord.{OwnRecord, own_record, uncut, file_slot}
use Rattle.names_stay.proofs.plan_model.Stepping.{tree_nodes}
use Rattle.names_stay.specs.plan_edits.Edits.{bitmap_key}
use Rattle.names_stay.proofs.plan_changes.Showing.{files_are}
use Rattle.names_stay.specs.step_model.Contents.{same_key, is_among}
use Rattle.names_stay.specs.step_model.Placing.{Growth, runs_after}
use Rattle.names_stay.specs.step_model.Streams.{data_of}
use Rattle.names_stay.specs.data_plan.declared.change.DataChange.{DataChange}
use Rattle.names_stay.specs.data_plan.Changes.{growth_of}
use Rattle.names_stay.specs.file_puts.declared.streams.VolumeStreams.{VolumeStreams}
use Rattle.names_stay.specs.file_puts.Written.{AreStreamsOf, WritesBy, HasWritten}
use Rattle.names_stay.proofs.written_values.Growths.{growth_is}
use Rattle.names_stay.proofs.written_values.Owning.{IsOwned, is_owned}
use Rattle.names_stay.proofs.written_values.Sparing.{elsewhere}
use Rattle.plans_keep.specs.plan_spares.Plans.{HasOwnLists}
use Rattle.plans_keep.proofs.Keeping.{put_found}
use Rattle.writes_keep.proofs.Putting.{GoesTo, data_plain}

pub list_plain : (n : ℕ) (q : Record) → stream_kind (list_key n q) ≡ Plain
unfolding stream_kind
list_plain n q = no_records ((eqb n table_file) || (eqb n mirror_file)) (pointwise nat_eq (list_key n q).name [])
  where
    no_records : (a b : Bool) → cond (a && false && b) FileRec Plain ≡ Plain
    no_records true b = refl
    no_records false b = refl

pub table_kind : stream_kind table_key ≡ FileRec
unfolding stream_kind
table_kind = refl

pub bitmap_kind : stream_kind bitmap_key ≡ Plain
unfolding stream_kind
bitmap_kind = refl

pub other_file : (t u : StreamKey) → t.file ≢ u.file → t ≢ u
other_file t u differ is = differ (ap (λ (x : StreamKey). x.file) is)

other_kind : (t u : StreamKey) → t.kind ≢ u.kind → t ≢ u
other_kind t u differ is = differ (ap (λ (x : StreamKey). x.kind) is)

is_list_kind : attribute_list ≢ data_type
is_list_kind is = omega (arith, is)

-- a block that is owned behind the operation as one of the file's record, of the bitmap, or of the file's data
pub record IsTouched (w : Volume) (n : ℕ) (b : Block) : Type 0 where
  pub own : Owns w b
  pub which : ((own.stream ≡ table_key) × (own.number ≡ n)) ⊎ ((own.stream ≡ bitmap_key) ⊎ (own.stream ≡ data_of n))

module _ (c : Content) (g : Geometry) (clusters : ℕ) (v : Volume) (s : VolumeStreams) (op : Op) (n stamp : ℕ) (a : Node) (r via : Record) (x : DataChange) (new : List Touched) (k : WritesBy c g clusters v s op n stamp a r via x new) (h : HasWritten c g clusters v op n stamp a (growth_of (cluster_bits c v) r op a) new) where
  abbrev w : Volume
  w = h.after

  abbrev d : Content
  d = content_with c h.bodies

  abbrev growth : Growth
  growth = growth_of (cluster_bits c v) r op a

  abbrev runs_now : List Run
  runs_now = runs_after (growth_of (cluster_bits c v) r op a)

  pub user_is : IsOwned v n r
  user_is = is_owned c g clusters v n r a k.stands k.file

  pub v_per : v.per ≡ 8
  v_per = per_is c g clusters v k.eight k.stands

  pub w_per : w.per ≡ 8
  w_per = per_is d g clusters w k.eight h.draft.stands

  pub w_once : AreOnce (volume_runs w.files)
  w_once = once d g clusters w h.draft.stands

  pub same_clusters : w.clusters ≡ v.clusters
  same_clusters = sym (volume_parts d g clusters w h.draft.stands.loaded).count ∙ (volume_parts c g clusters v k.stands.loaded).count

  pub not_user : (m : ℕ) → m < first_user_record → m ≢ n
  not_user m low is = (let user = user_is.user in omega (arith, user, low, is))

  number : a.number ≡ n
  number = (files_are.shows c v n r a k.file).number

  own_key : growth.stream ≡ data_of n
  own_key = (growth_is (cluster_bits c v) r op a).stream ∙ ap data_of number

  -- ---- streams

  apart : (t : StreamKey) → t.file ≢ n → is_among (growth ∷ []) t ≡ false
  apart t other = ap (λ (u : StreamKey). same_key u t || false) own_key ∙ ap (λ (y : Bool). (y && eqb data_type t.kind && pointwise nat_eq [] t.name) || false) (ne_eqb n t.file (λ is. other (sym is)))

  pub same_runs : (t : StreamKey) → t.file ≢ n → runs_in (stream_at w t) ≡ runs_in (stream_at v t)
  same_runs t other = h.left.others t (apart t other)

  pub log_stays : runs_in (stream_at w log_key) ≡ runs_in (stream_at v log_key)
  log_stays = same_runs log_key (not_user log_file (omega arith))

  pub data_after : runs_in (stream_at w (data_of n)) ≡ runs_now
  data_after = ap (λ (u : StreamKey). runs_in (stream_at w u)) (sym own_key) ∙ h.left.grown.0.runs

  table_was : runs_in (stream_at v table_key) ≡ v.table.runs
  table_was = table_runs c g clusters v (begins c g clusters v k.stands)

  table_after : runs_in (stream_at w table_key) ≡ s.table.runs
  table_after = same_runs table_key (not_user table_file (omega arith)) ∙ table_was ∙ sym (ap (λ (e : Extents). e.runs) k.streams.table)

  bitmap_after : runs_in (stream_at w bitmap_key) ≡ s.bitmap.runs
  bitmap_after = same_runs bitmap_key (not_user bitmap_file (omega arith)) ∙ ap runs_in k.streams.bitmap.stream

  pub data_kind : stream_kind (data_of n) ≡ Plain
  data_kind = (let user = user_is.user in data_plain n (λ is. omega (arith, user, is)) (λ is. omega (arith, user, is)))

  lies_in : (t : StreamKey) (kind : BlockKind) (runs : List Run) (m : ℕ) (b : Block) → runs_in (stream_at w t) ≡ runs → stream_kind t ≡ kind → block_at 8 runs kind m ≡ Some b → block_at w.per (runs_in (stream_at w t)) (stream_kind t) m ≡ Some b
  lies_in t kind runs m b is_runs is_kind lies = ap (λ (p : ℕ). block_at p (runs_in (stream_at w t)) (stream_kind t) m) w_per ∙ ap₂ (λ (l : List Run) (y : BlockKind). block_at 8 l y m) is_runs is_kind ∙ lies

  pub is_touched : (b : Block) → GoesTo s n runs_now b → IsTouched w n b
  unfolding lies_in
  is_touched b (inl its) = record { own = record { stream = table_key; number = n; lies = lies_in table_key FileRec s.table.runs n b table_after table_kind its }; which = inl (refl, refl) }
  is_touched b (inr (inl bits)) = record { own = record { stream = bitmap_key; number = bits.0; lies = lies_in bitmap_key Plain s.bitmap.runs bits.0 b bitmap_after bitmap_kind bits.1 }; which = inr (inl refl) }
  is_touched b (inr (inr there)) = record { own = record { stream = data_of n; number = there.0; lies = lies_in (data_of n) Plain runs_now there.0 b data_after data_kind there.1 }; which = inr (inr refl) }

  -- ---- the file behind the operation

  node_there : node_by_number (tree_of d w).nodes n ≡ Some (file_after h.tree.stands op a stamp)
  unfolding changed_node
  node_there =
      ap (λ (y : Content). node_by_number (tree_of y w).nodes n) h.content
      ∙ h.tree.after.node n
      ∙ ap (λ (t : Bool). cond t (Some (file_after h.tree.stands op a stamp)) (node_by_number (tree_of c v).nodes n)) (eq-eqb n a.number (sym number))

  file_there : (o : Option Record) → file_in w n ≡ o → (q : Record) × (file_in w n ≡ Some q)
  unfolding node_at
  file_there None is = (let clash : None ≡ Some (file_after h.tree.stands op a stamp) = sym (tree_nodes d w n ∙ ap (some_node (bytes_or d w.per) w n) is) ∙ node_there in absurd cc)
  file_there (Some q) is = (q, is)

  pub q : Record
  q = (file_there (file_in w n) refl).0

  pub q_file : file_in w n ≡ Some q
  unfolding q
  q_file = (file_there (file_in w n) refl).1

  after_kind : (file_after h.tree.stands op a stamp).kind ≡ File
  unfolding changed_node
  after_kind = k.file.kind

  pub q_user : IsOwned w n q
  q_user = is_owned d g clusters w n q (file_after h.tree.stands op a stamp) h.draft.stands (record { file = q_file; node = node_there; kind = after_kind })

  -- ---- blocks that stay

  module _ (each : AllByRecursion (λ (p : NewBody). GoesTo s n runs_now p.block) h.bodies) where
    never : (b : Block) (own : Owns w b) → (own.stream ≡ table_key → own.number ≢ n) → own.stream ≢ bitmap_key → own.stream ≢ data_of n → IsTouched w n b → ⊥
    never b own no_record no_bits no_data touched =
        let one = one_owner w b h.draft.stands.some w_once own touched.own in
        by one.0 one.1 touched.which
      where
        by : own.stream ≡ touched.own.stream → own.number ≡ touched.own.number → ((touched.own.stream ≡ table_key) × (touched.own.number ≡ n)) ⊎ ((touched.own.stream ≡ bitmap_key) ⊎ (touched.own.stream ≡ data_of n)) → ⊥
        by stream place (inl its) = no_record (stream ∙ its.0) (place ∙ its.1)
        by stream place (inr (inl bits)) = no_bits (stream ∙ bits)
        by stream place (inr (inr there)) = no_data (stream ∙ there)

    body_stays : (b : Block) (own : Owns w b) → (own.stream ≡ table_key → own.number ≢ n) → own.stream ≢ bitmap_key → own.stream ≢ data_of n → d b ≡ c b
    body_stays b own no_record no_bits no_data = by (body_in h.bodies b) refl
      where
        by : (o : Option (List ℕ)) → body_in h.bodies b ≡ o → d b ≡ c b
        by None is = body_put c h.bodies b k.sized h.draft.whole ∙ ap (body_or (c b)) is
        by (Some bytes) is = absurd (never b own no_record no_bits no_data (is_touched b (put_found (GoesTo s n runs_now) h.bodies b each (bytes, is))))

    -- a block that a stream of another file had
    pub stays_at : (t : StreamKey) (m : ℕ) (b : Block) → t.file ≢ n → (t ≡ table_key → m ≢ n) → t ≢ bitmap_key → block_at v.per (runs_in (stream_at v t)) (stream_kind t) m ≡ Some b → d b ≡ c b
    stays_at t m b other no_record no_bits lies =
        body_stays b
        (record { stream = t; number = m; lies = ap₂ (λ (p : ℕ) (l : List Run). block_at p l (stream_kind t) m) (w_per ∙ sym v_per) (same_runs t other) ∙ lies })
        no_record no_bits (λ is. other (ap (λ (u : StreamKey). u.file) is))

    record_at_stays : (m : ℕ) (b : Block) → m ≢ n → block_at v.per v.table.runs FileRec m ≡ Some b → d b ≡ c b
    record_at_stays m b other lies =
        stays_at table_key m b (not_user table_file (omega arith)) (λ is. other) (other_file table_key bitmap_key (λ is. omega (arith, is)))
        (ap₂ (λ (l : List Run) (y : BlockKind). block_at v.per l y m) table_was table_kind ∙ lies)

    pub records_same : (m : ℕ) → m ≢ n → SameRecordIn c d v.per v.table m
    records_same m other b at = record_at_stays m b other at.lies

    list_same : (m : ℕ) (q : Record) → m ≢ n → base_record c v.per v.table m ≡ Some q → HasOwnLists c v → (o : Option Stream) → list_stream q ≡ o → SameBytesInSome c d v.per o
    list_same m q other is lists None none = tt
    list_same m q other is lists (Some (Held value)) held = tt
    list_same m q other is lists (Some (Placed e)) placed = λ b read.
        ap (λ (y : Body). y.bytes)
        (stays_at (list_key m q) read.sector b other (λ same. absurd (other_kind (list_key m q) table_key is_list_kind same)) (other_kind (list_key m q) bitmap_key is_list_kind)
        (ap₂ (λ (l : List Run) (y : BlockKind). block_at v.per l y read.sector) (ap runs_in (lists m q is ∙ placed)) (list_plain m q) ∙ read.lies))

    boot_same : d (boot_block g 0) ≡ c (boot_block g 0)
    boot_same = record_at_stays 0 (boot_block g 0) (not_user 0 (omega arith)) (begins c g clusters v k.stands).first

    table_same : table_of d g ≡ Ok v.table
    unfolding table_of
    table_same = ap (λ (y : Body). judged 0 (slot_by record_at y) >>= extents_in) boot_same ∙ (volume_parts c g clusters v k.stands.loaded).table

    w_table : w.table ≡ v.table
    w_table = (let is : Ok w.table ≡ Ok v.table = sym (volume_parts d g clusters w h.draft.stands.loaded).table ∙ table_same in cc)

    own : OwnRecord d w n q
    own = own_record d g clusters w n q h.draft.stands q_file q_user.own.no_list

    slot_now : table_slot d v.per v.table n ≡ Used q
    slot_now = ap₂ (λ (p : ℕ) (e : Extents). table_slot d p e n) (v_per ∙ sym w_per) (sym w_table) ∙ own.slot

    -- ---- the volume behind it

    abbrev edits : List FileEdit
    edits = record { number = n; file = Some q } ∷ []

    edited_is : (m : ℕ) → is_edited edits m ≡ true → m ≡ n
    edited_is m is = (let parts = sym (eqb-true n m (from_or (eqb n m) is)) in parts)
      where
        from_or : (t : Bool) → (t || false) ≡ true → t ≡ true
        from_or true e = refl
        from_or false e = e

    not_edited : (m : ℕ) → is_edited edits m ≡ false → m ≢ n
    not_edited m is same = both_ways (is_edited edits m) is (ap (λ (t : Bool). t || false) (eq-eqb n m (sym same)))

    below : n < count_of v
    below = inside_list v.files n r (some_file v n r k.file.file)

    own_numbers : (m : ℕ) → is_edited edits m ≡ true → IsOwnRecord c v m
    own_numbers m is = inl (r, ap (file_in v) (edited_is m is) ∙ k.file.file)

    changes_records : HasOwnLists c v → ChangesRecords c d v.per v.table v.table (is_edited edits)
    changes_records lists = record {
      grows = goes_on_itself c g clusters v k.stands.loaded;
      others = λ m low is. records_same m (not_edited m is);
      lists = λ m f is base. list_same m f (not_edited m is) base lists (list_stream f) refl;
      unnamed = λ m f is base. unnamed c g clusters v (is_edited edits) m f k.stands own_numbers is base;
      alone = λ m low is. subst (StandsAlone v.per) (sym (ap (table_slot d v.per v.table) (edited_is m is) ∙ slot_now)) (own.alone, ap (λ (p : ℕ). cuts_index p (Some q)) (v_per ∙ sym w_per) ∙ uncut d g clusters w n q h.draft.stands q_file own.below);
      fresh = λ m high low. absurd (omega (arith, high, low));
    }

    pub volume_is : HasOwnLists c v → w ≡ with_record v n q
    volume_is lists =
        let edited_now : changed_volume d v v.table (is_edited edits) ≡ with_record v n q = edits_in_place d v edits (count_is c g clusters v k.stands.loaded) (below, tt, tt) (sym (file_slot d v n q slot_now own.base), tt) in
        let loaded : volume_of d g clusters ≡ Ok (with_record v n q) = volume_now c d g clusters v v.table (is_edited edits) k.stands.loaded table_same (changes_records lists) ∙ ap (λ (y : Volume). Ok y) edited_now in
        let is : Ok w ≡ Ok (with_record v n q) = sym h.draft.stands.loaded ∙ loaded in
        cc

    pub same_file : HasOwnLists c v → (m : ℕ) → m ≢ n → file_in w m ≡ file_in v m
    same_file lists m other = ap (λ (y : Volume). file_in y m) (volume_is lists) ∙ elsewhere v n m q other

    pub count_after : HasOwnLists c v → count_of w ≡ count_of v
    count_after lists = ap count_of (volume_is lists) ∙ length-with_edits v.files edits

    -- ---- attribute lists

    own_list : stream_at w (list_key n q) ≡ list_stream q
    unfolding list_stream
    own_list = ap (file_stream attribute_list (list_key n q).name) q_file

    pub lists_after : HasOwnLists c v → HasOwnLists d w
    unfolding file_at
    lists_after lists m f is =
        let at = slot_of_base d w m f is in
        elim (cases_eq m n) [
          | inl same ↦
              (let here : Used q ≡ Used f = sym own.slot ∙ ap (table_slot d w.per w.table) (sym same) ∙ at.1 in
              let equal : q ≡ f = cc in
              ap₂ (λ (i : ℕ) (y : Record). stream_at w (list_key i y)) same (sym equal) ∙ own_list ∙ ap list_stream equal)
          | inr other ↦
              (let slot : table_slot c v.per v.table m ≡ Used f = sym (same_slot c d v.per v.table m (records_same m other)) ∙ ap₂ (λ (p : ℕ) (e : Extents). table_slot d p e m) (v_per ∙ sym w_per) (sym w_table) ∙ at.1 in
              let below_v : m < record_count v.table = subst (λ (e : Extents). m < record_count e) w_table at.0 in
              let held : slots c v m ≡ Some f = slot_record c v m below_v ∙ ap used_record slot in
              let base : base_record c v.per v.table m ≡ Some f = as_file (slots c v m) f held (is_base (slots d w m) f is) in
              ap (file_stream attribute_list (list_key m f).name) (same_file lists m other) ∙ lists m f base)
        ]

    -- ---- the table of upper-case units

    upper_same_in : (o : Option Stream) → file_stream data_type [] (file_in v upcase_file) ≡ o → SameBytesInSome c d v.per o
    upper_same_in None is = tt
    upper_same_in (Some (Held value)) is = tt
    upper_same_in (Some (Placed e)) is = λ b read.
        ap (λ (y : Body). y.bytes)
        (stays_at (data_of upcase_file) read.sector b (not_user upcase_file (omega arith)) (λ same. absurd (other_file (data_of upcase_file) table_key (λ e. omega (arith, e)) same)) (other_file (data_of upcase_file) bitmap_key (λ e. omega (arith, e)))
        (ap₂ (λ (l : List Run) (y : BlockKind). block_at v.per l y read.sector) (ap runs_in is) (data_plain upcase_file (λ e. omega (arith, e)) (λ e. omega (arith, e))) ∙ read.lies))

    upper_of_file : HasOwnLists c v → upper_of d w ≡ upper_of d v
    unfolding upper_of
    upper_of_file lists = ap₂ (λ (p : ℕ) (o : Option Record). table_or_standard (upcase_of (bytes_or d p (file_stream data_type [] o)))) (w_per ∙ sym v_per) (same_file lists upcase_file (not_user upcase_file (omega arith)))

    pub upper_stays : HasOwnLists c v → upper_of d w ≡ upper_of c v
    upper_stays lists = upper_of_file lists ∙ same_upper c d v (upper_same_in (file_stream data_type [] (file_in v upcase_file)) refl)

    -- ---- what a draft asks of a state

    pub streams_after : HasOwnLists c v → AreStreamsOf w s
    streams_after lists = record {
      table = k.streams.table ∙ sym w_table;
      mirror = ap (λ (o : Option Record). extents_or (file_stream data_type [] o)) (same_file lists mirror_file (not_user mirror_file (omega arith))) ∙ k.streams.mirror;
      bitmap = record {
        stream = ap (file_stream data_type []) (same_file lists bitmap_file (not_user bitmap_file (omega arith))) ∙ k.streams.bitmap.stream;
        lawful = k.streams.bitmap.lawful;
        below = subst (λ (x : ℕ). x ≤ 8 * s.bitmap.initialised) (sym same_clusters) k.streams.bitmap.below;
        lies = λ i begun. ap (λ (p : ℕ). is_some (block_at p s.bitmap.runs Plain i)) (w_per ∙ sym v_per) ∙ k.streams.bitmap.lies i begun;
      };
    }

  pub journal_after : (tree_of d w).journal ≡ None
  journal_after = ap (λ (y : Content). (tree_of y w).journal) h.content ∙ h.tree.after.journal ∙ k.journal
