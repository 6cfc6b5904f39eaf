-- The volume behind an operation that writes or cuts a file has the file's new record, which keeps its names, and its other files.
use Rattle.std.proofs.Common.{◌≡◌, ◌≢◌, subst, ℕ, ◌+◌, ◌/◌, ◌<◌, ◌≤◌, Bool, true, false, ◌&&◌, ◌||◌, cond, eqb, ltb, List, [], ◌∷◌, length, Option, Some, None, Result, Ok, Err, refl, sym, ap, ap₂, ◌∙◌, inl, inr, arith}
use Rattle.std.specs.List.{AllByRecursion}
use Rattle.std.proofs.lemmas.Bool.{cases_Bool, cases_eq, cases_lt, both_ways, eqb-true, eq-eqb, le-ltb}
use Rattle.host_base.specs.Answers.{◌>>=◌, needs}
use Rattle.disk_model.specs.declared.block.Block.{Block}
use Rattle.disk_model.specs.declared.block.Body.{Body}
use Rattle.disk_model.specs.declared.block.BlockKind.{BlockKind}
use Rattle.disk_model.specs.declared.block.BlockKind.TheVariants.{Plain, FileRec}
use Rattle.disk_model.specs.Content.{Content}
use Rattle.disk_model.specs.Sectors.{sectors, same_block}
use Rattle.disk_model.proofs.Frames.{same_block-is}
use Rattle.record_model.specs.declared.runs.Run.{Run}
use Rattle.record_model.specs.Constants.{attribute_list, data_type}
use Rattle.record_model.specs.Records.{Record, record_at, shaped_at, record_spelling, has_lawful_values}
use Rattle.record_model.proofs.Shapes.{is_shaped}
use Rattle.written_values.proofs.record_writer.Again.{read_again}
use Rattle.bit_set.specs.Bits.{bit}
use Rattle.file_tree.specs.declared.node.Node.{Node}
use Rattle.file_tree.specs.declared.node.Kind.TheVariants.{File}
use Rattle.file_tree.specs.Trees.{node_at as node_by_number}
use Rattle.file_tree.specs.Walks.{first_user_record}
use Rattle.state_model.specs.declared.geometry.Geometry.{Geometry}
use Rattle.state_model.specs.declared.stream.Extents.{Extents}
use Rattle.state_model.specs.declared.stream.Stream.{Stream}
use Rattle.state_model.specs.declared.stream.Stream.TheVariants.{Held, Placed}
use Rattle.state_model.specs.Loads.{Used, slot_by, slot_of, boot_block, judged, extents_in, table_of, table_slot, list_stream, cuts_index, is_used, whole_record, has_all_pairs}
use Rattle.state_model.specs.Streams.{block_at}
use Rattle.volume_model.specs.Volumes.{Volume, volume_of, count_of, file_in, bytes_or, cluster_bits}
use Rattle.volume_model.specs.Nodes.{some_node, node_at}
use Rattle.volume_model.specs.Owners.{volume_runs, uses}
use Rattle.written_values.specs.volume_state.Trees.{tree_of}
use Rattle.stream_laws.specs.Frames.{IsRead, SameBytesInSome}
use Rattle.stream_laws.specs.Owners.{stream_kind, Owns}
use Rattle.stream_laws.specs.Replacing.{FileEdit}
use Rattle.stream_laws.specs.Rewrites.{StandsAlone, ChangesRecords, is_edited, changed_volume}
use Rattle.stream_laws.specs.Sharing.{StreamKey, stream_at, runs_in}
use Rattle.stream_laws.specs.Tables.{table_key}
use Rattle.stream_laws.specs.Volumes.{base_record}
use Rattle.stream_laws.proofs.Editing.{length-with_edits}
use Rattle.stream_laws.proofs.Owning.{one_owner}
use Rattle.stream_laws.proofs.Placing.{lies, lies_in_used}
use Rattle.stream_laws.proofs.Recording.{record_read}
use Rattle.stream_laws.proofs.Rewriting.{volume_parts, volume_now, goes_on_itself, edits_in_place, count_is}
use Rattle.stream_laws.proofs.Tabling.{inside_list, table_runs, read_in_use}
use Rattle.tree_model.specs.declared.script.Op.{Op}
use Rattle.tree_model.specs.Effects.{changed_node, file_after}
use Rattle.written_values.specs.plan_owners.States.{IsOwnRecord}
use Rattle.written_values.proofs.plan_owners.ByKind.{marked_if_used}
use Rattle.written_values.proofs.plan_owners.Outside.{once, unused_outside}
use Rattle.written_values.proofs.plan_owners.Standing.{some_file, begins}
use Rattle.written_values.proofs.plan_owners.Unnamed.{unnamed}
use Rattle.plan_bodies.specs.Bodies.{NewBody, content_with, body_in, body_or}
use Rattle.plan_bodies.proofs.Putting.{block_itself, body_put}
use Rattle.plan_draft.specs.declared.touched.Touched.{Touched}
use Rattle.plan_draft.specs.Touching.{bodies_of}
use Rattle.plan_draft.proofs.Puts.{bodies_touch}
use Rattle.plan_draft.proofs.Same.{all_same, one_in_order}
use Rattle.written_values.specs.plan_model.Informed.{with_record}
use Rattle.written_values.proofs.plan_model.Drafting.{per_is}
use Rattle.written_values.proofs.plan_model.OneRecord.{OwnRecord, own_record, uncut, file_slot, slot_begins}
use Rattle.written_values.proofs.plan_model.Stepping.{tree_nodes}
use Rattle.written_values.specs.draft_records.Records.{record_block, is_past, has_mirror, written_record, written_bytes, fits_room, touch_if, touch_record}
use Rattle.written_values.proofs.draft_records.Written.{fits_written, room_full}
use Rattle.written_values.specs.plan_edits.Edits.{bitmap_key}
use Rattle.written_values.proofs.plan_edits.Editing.{some_of, used_block}
use Rattle.written_values.proofs.plan_changes.Showing.{files_are}
use Rattle.written_values.specs.step_model.Placing.{Growth, runs_after}
use Rattle.written_values.specs.step_model.Streams.{data_of}
use Rattle.made_data.specs.Laws.{MadeIsCounted}
use Rattle.made_data.specs.Made.{has_data, made_record, record_with_data}
use Rattle.made_data.specs.data_plan.declared.change.DataChange.{DataChange}
use Rattle.made_data.specs.data_plan.Changes.{growth_of}
use Rattle.written_values.specs.file_puts.declared.streams.VolumeStreams.{VolumeStreams}
use Rattle.written_values.specs.file_puts.Written.{WritesBy, HasWritten}
use Rattle.written_values.proofs.Growths.{growth_is}
use Rattle.written_values.proofs.Owning.{IsOwned, is_owned}
use Rattle.written_values.proofs.Sparing.{elsewhere}
use Rattle.same_names.specs.Names.{IsNamedAlike, SameNames}
use Rattle.names_stay.specs.Lists.{lists_in, WritesKeepLists}
use Rattle.names_stay.specs.Writes.{WritesKeepNames}
use Rattle.names_stay.proofs.Kept.{KeepsNames, kept_links, twice, written_kept, by_kept, LastPut, change_last}
use Rattle.names_stay.proofs.Going.{GoesTo, bodies_go, change_goes}
use Rattle.names_stay.proofs.Listing.{list_in_volume, list_alone}

-- ---- bodies that are put

put_found : (P : Block → Type 0) (bodies : List NewBody) (b : Block) (bytes : List ℕ) → AllByRecursion (λ (p : NewBody). P p.block) bodies → body_in bodies b ≡ Some bytes → P b
put_found P [] b bytes all is = absurd cc
put_found P (p ∷ bodies) b bytes all is = elim (cases_Bool (same_block b p.block)) [
  | inl same ↦ subst P (sym (same_block-is b p.block same)) all.0
  | inr other ↦ put_found P bodies b bytes all.1 (rw other at is)
]

-- a record without a mirror that is put last has this body
record_put : (c : Content) (table mirror : Extents) (n : ℕ) (bytes : List ℕ) (old : List Touched) (b : Block) → has_mirror mirror n ≡ false → record_block 8 table n ≡ Some b → body_in (bodies_of (touch_record c 8 table mirror n bytes old)) b ≡ Some bytes
record_put c table mirror n bytes old b alone lies_there = rw alone (put_at (record_block 8 table n) lies_there)
  where
    put_at : (o : Option Block) → o ≡ Some b → body_in (bodies_of (touch_if c o (is_past table n) bytes old)) b ≡ Some bytes
    put_at o is =
        ap (λ (p : Option Block). body_in (bodies_of (touch_if c p (is_past table n) bytes old)) b) is
        ∙ ap (λ (l : List NewBody). body_in l b) (bodies_touch old b (is_past table n) bytes (c b))
        ∙ one_in_order (record { block = b; bytes = bytes }) (bodies_of old) b
        ∙ ap (λ (t : Bool). cond t (Some bytes) (body_in (bodies_of old) b)) (block_itself b)

-- ---- a record that is read

-- with all its rules it is read as the same record as without the seventh
read_alike : (o : Result Record ℕ) (p q : Record) → (o >>= λ x. needs {F = ℕ} (has_lawful_values x) 8 >>= λ _. Ok x) ≡ Ok p → (o >>= λ x. needs {F = ℕ} (has_all_pairs x) 7 >>= λ _. needs {F = ℕ} (has_lawful_values x) 8 >>= λ _. Ok x) ≡ Ok q → q ≡ p
read_alike (Err rule) p q one all = absurd cc
read_alike (Ok x) p q one all = by (has_all_pairs x) (has_lawful_values x) one all
  where
    by : (s t : Bool) → (needs {F = ℕ} t 8 >>= λ _. Ok x) ≡ Ok p → (needs {F = ℕ} s 7 >>= λ _. needs {F = ℕ} t 8 >>= λ _. Ok x) ≡ Ok q → q ≡ p
    by true true one all = cc
    by true false one all = absurd cc
    by false t one all = absurd cc

has_room : (p : Record) → fits_room p ≡ Ok tt → written_bytes p ≤ 1024
has_room p room = elim (cases_lt 1024 (written_bytes p)) [
  | inl over ↦ (let clash : Err (written_bytes p) ≡ Ok tt = sym (room_full p (written_bytes p) refl over) ∙ room in absurd cc)
  | inr short ↦ short
]

-- ---- kinds of blocks

table_kind : stream_kind table_key ≡ FileRec
unfolding stream_kind
table_kind = refl

no_sector : (runs others : List Run) (per n k : ℕ) (b : Block) → block_at per runs FileRec n ≡ Some b → block_at 8 others Plain k ≡ Some b → ⊥
no_sector runs others per n k b lies_as at = (let clash : FileRec ≡ Plain = (lies per runs FileRec n b lies_as).kind_is ∙ sym (lies 8 others Plain k b at).kind_is in absurd cc)

is_list_kind : data_type ≢ attribute_list
is_list_kind is = omega (arith, is)

-- ---- alike

alike_itself : (n : ℕ) (o : Option Record) → IsNamedAlike n o o
alike_itself n None = tt
alike_itself n (Some r) = (refl, refl)

module _ (counted : MadeIsCounted) (c : Content) (g : Geometry) (clusters : ℕ) (v : Volume) (s : VolumeStreams) (op : Op) (n stamp : ℕ) (a : Node) (r : Record) (x : DataChange) (new : List Touched) (k : WritesBy c g clusters v s op n stamp a r (record_with_data r) x new)
    (h : HasWritten c g clusters v op n stamp a (growth_of (cluster_bits c v) r op a) new) where
  abbrev w : Volume
  w = h.after

  abbrev d : Content
  d = content_with c h.bodies

  abbrev growth : Growth
  growth = growth_of (cluster_bits c v) r op a

  abbrev runs_now : List Run
  runs_now = runs_after (growth_of (cluster_bits c v) r op a)

  user_is : IsOwned v n r
  user_is = is_owned c g clusters v n r a k.stands k.file

  v_per : v.per ≡ 8
  v_per = per_is c g clusters v k.eight k.stands

  w_per : w.per ≡ 8
  w_per = per_is d g clusters w k.eight h.draft.stands

  not_user : (m : ℕ) → m < first_user_record → m ≢ n
  not_user m low is = (let user = user_is.user in omega (arith, user, low, is))

  no_mirror : has_mirror s.mirror n ≡ false
  no_mirror = (let user = user_is.user in ap (λ (t : Bool). t && ltb n (s.mirror.real / 1024)) (le-ltb n 4 (omega (arith, user))))

  number : a.number ≡ n
  number = (files_are.shows c v n r a k.file).number

  own_key : growth.stream ≡ data_of n
  own_key = (growth_is (cluster_bits c v) r op a).stream ∙ ap data_of number

  data_after : runs_in (stream_at w (data_of n)) ≡ runs_now
  data_after = ap (λ (u : StreamKey). runs_in (stream_at w u)) (sym own_key) ∙ h.left.grown.0.runs

  -- ---- where the bodies go

  by_growth : growth_of (cluster_bits c v) (record_with_data r) op a ≡ growth
  by_growth = elim (cases_Bool (has_data r)) [
    | inl is ↦ ap (λ (t : Bool). growth_of (cluster_bits c v) (cond t r (made_record r)) op a) is
    | inr none ↦ ap (λ (t : Bool). growth_of (cluster_bits c v) (cond t r (made_record r)) op a) none ∙ counted.growth (cluster_bits c v) r op a none
  ]

  each : AllByRecursion (λ (p : NewBody). GoesTo s n runs_now p.block) h.bodies
  each =
      all_same (GoesTo s n runs_now) h.bodies (bodies_of new) (λ b. sym (h.same b))
      (bodies_go (GoesTo s n runs_now) new
      (change_goes s n runs_now no_mirror c op a stamp (record_with_data r) (growth_of (cluster_bits c v) (record_with_data r) op a) (ap runs_after (sym by_growth)) x k.is [] new k.put tt))

  body_stays : (b : Block) → (GoesTo s n runs_now b → ⊥) → d b ≡ c b
  body_stays b never = by (body_in h.bodies b) refl
    where
      by : (o : Option (List ℕ)) → body_in h.bodies b ≡ o → d b ≡ c b
      by None is = body_put c h.bodies b k.sized h.draft.whole ∙ ap (body_or (c b)) is
      by (Some bytes) is = absurd (never (put_found (GoesTo s n runs_now) h.bodies b bytes each is))

  -- ---- the records of other files

  table_was : runs_in (stream_at v table_key) ≡ v.table.runs
  table_was = table_runs c g clusters v (begins c g clusters v k.stands)

  in_table : (m : ℕ) (b : Block) → block_at v.per v.table.runs FileRec m ≡ Some b → Owns v b
  in_table m b at = record { stream = table_key; number = m; lies = ap₂ (λ (l : List Run) (y : BlockKind). block_at v.per l y m) table_was table_kind ∙ at }

  its_block : (b : Block) → record_block 8 s.table n ≡ Some b → block_at v.per v.table.runs FileRec n ≡ Some b
  its_block b at = ap₂ (λ (p : ℕ) (e : Extents). block_at p e.runs FileRec n) v_per (sym k.streams.table) ∙ at

  never_record : (m : ℕ) (b : Block) → m ≢ n → block_at v.per v.table.runs FileRec m ≡ Some b → GoesTo s n runs_now b → ⊥
  unfolding in_table
  never_record m b other at (inl its) = other (one_owner v b k.stands.some (once c g clusters v k.stands) (in_table m b at) (in_table n b (its_block b its))).1
  never_record m b other at (inr (inl bits)) = no_sector v.table.runs s.bitmap.runs v.per m bits.0 b at bits.1
  never_record m b other at (inr (inr there)) = no_sector v.table.runs runs_now v.per m there.0 b at there.1

  record_stays : (m : ℕ) (b : Block) → m ≢ n → block_at v.per v.table.runs FileRec m ≡ Some b → d b ≡ c b
  record_stays m b other at = body_stays b (never_record m b other at)

  -- ---- their attribute lists

  module _ (m : ℕ) (f : Record) (base : base_record c v.per v.table m ≡ Some f) (e : Extents) (placed : list_stream f ≡ Some (Placed e)) (b : Block) (read : IsRead v.per e b) where
    abbrev at : ℕ
    at = b.first / 8

    first_there : b.first < b.first + sectors b.kind
    first_there = subst (λ (y : BlockKind). b.first < b.first + sectors y) (lies v.per e.runs Plain read.sector b read.lies).kind_is (omega arith)

    has_by : (per : ℕ) (runs : List Run) (i : ℕ) → per ≡ 8 → block_at per runs Plain i ≡ Some b → 1 ≤ uses runs at
    has_by per runs i eight there = subst (λ (p : ℕ). 1 ≤ uses runs (b.first / p)) eight (lies_in_used per runs Plain i b (omega (arith, eight)) there b.first (omega arith, first_there))

    mine : 1 ≤ uses (runs_in (list_stream f)) at
    mine = subst (λ (o : Option Stream). 1 ≤ uses (runs_in o) at) (sym placed) (has_by v.per e.runs read.sector v_per read.lies)

    alone : (t : StreamKey) → t.kind ≢ attribute_list → uses (runs_in (stream_at v t)) at ≡ 0
    alone t differ = (let one = list_alone c g clusters v k.stands m f base t at differ in let own = mine in omega (arith, one, own))

    used : 0 < uses (volume_runs v.files) at
    used = (let all = list_in_volume c g clusters v k.stands m f base at in let own = mine in omega (arith, all, own))

    below : at < v.clusters
    below = elim (cases_lt at v.clusters) [
      | inl low ↦ low
      | inr past ↦ (let none = unused_outside c g clusters v at k.stands past in let some = used in absurd (omega (arith, none, some)))
    ]

    never_list : GoesTo s n runs_now b → ⊥
    never_list (inl its) = no_sector s.table.runs e.runs 8 n read.sector b its (ap (λ (p : ℕ). block_at p e.runs Plain read.sector) (sym v_per) ∙ read.lies)
    never_list (inr (inl bits)) =
        let none : uses s.bitmap.runs at ≡ 0 = ap (λ (o : Option Stream). uses (runs_in o) at) (sym k.streams.bitmap.stream) ∙ alone bitmap_key is_list_kind in
        let some = has_by 8 s.bitmap.runs bits.0 refl bits.1 in
        omega (arith, none, some)
    never_list (inr (inr there)) =
        let none : uses (runs_in (stream_at v (data_of n))) at ≡ 0 = alone (data_of n) is_list_kind in
        let now : uses (runs_in (stream_at w (data_of n))) at ≡ uses runs_now at = ap (λ (l : List Run). uses l at) data_after in
        let some = has_by 8 runs_now there.0 refl there.1 in
        both_ways (bit (cluster_bits c v) at) (h.left.takes (data_of n) at (omega (arith, none, now, some))) (marked_if_used c g clusters v at k.stands below used)

    list_bytes : (d b).bytes ≡ (c b).bytes
    list_bytes = ap (λ (y : Body). y.bytes) (body_stays b never_list)

  list_same : (m : ℕ) (f : Record) → base_record c v.per v.table m ≡ Some f → (o : Option Stream) → list_stream f ≡ o → SameBytesInSome c d v.per o
  list_same m f base None is = tt
  list_same m f base (Some (Held value)) is = tt
  list_same m f base (Some (Placed e)) is = λ b read. list_bytes m f base e is b read

  -- ---- the file behind the operation

  node_there : node_by_number (tree_of d w).nodes n ≡ Some (file_after h.tree.stands op a stamp)
  unfolding changed_node
  node_there =
      ap (λ (y : Content). node_by_number (tree_of y w).nodes n) h.content
      ∙ h.tree.after.node n
      ∙ ap (λ (t : Bool). cond t (Some (file_after h.tree.stands op a stamp)) (node_by_number (tree_of c v).nodes n)) (eq-eqb n a.number (sym number))

  file_there : (o : Option Record) → file_in w n ≡ o → (q : Record) × (file_in w n ≡ Some q)
  unfolding node_at
  file_there None is = (let clash : None ≡ Some (file_after h.tree.stands op a stamp) = sym (tree_nodes d w n ∙ ap (some_node (bytes_or d w.per) w n) is) ∙ node_there in absurd cc)
  file_there (Some q) is = (q, is)

  q : Record
  q = (file_there (file_in w n) refl).0

  q_file : file_in w n ≡ Some q
  unfolding q
  q_file = (file_there (file_in w n) refl).1

  after_kind : (file_after h.tree.stands op a stamp).kind ≡ File
  unfolding changed_node
  after_kind = k.file.kind

  q_user : IsOwned w n q
  q_user = is_owned d g clusters w n q (file_after h.tree.stands op a stamp) h.draft.stands (record { file = q_file; node = node_there; kind = after_kind })

  -- ---- the volume behind it

  boot_same : d (boot_block g 0) ≡ c (boot_block g 0)
  boot_same = record_stays 0 (boot_block g 0) (not_user 0 (omega arith)) (begins c g clusters v k.stands).first

  table_same : table_of d g ≡ Ok v.table
  unfolding table_of
  table_same = ap (λ (y : Body). judged 0 (slot_by record_at y) >>= extents_in) boot_same ∙ (volume_parts c g clusters v k.stands.loaded).table

  w_table : w.table ≡ v.table
  w_table = (let is : Ok w.table ≡ Ok v.table = sym (volume_parts d g clusters w h.draft.stands.loaded).table ∙ table_same in cc)

  own : OwnRecord d w n q
  own = own_record d g clusters w n q h.draft.stands q_file q_user.own.no_list

  slot_now : table_slot d v.per v.table n ≡ Used q
  slot_now = ap₂ (λ (p : ℕ) (e : Extents). table_slot d p e n) (v_per ∙ sym w_per) (sym w_table) ∙ own.slot

  abbrev edits : List FileEdit
  edits = record { number = n; file = Some q } ∷ []

  edited_is : (m : ℕ) → is_edited edits m ≡ true → m ≡ n
  edited_is m is = sym (eqb-true n m (from_or (eqb n m) is))
    where
      from_or : (t : Bool) → (t || false) ≡ true → t ≡ true
      from_or true e = refl
      from_or false e = e

  not_edited : (m : ℕ) → is_edited edits m ≡ false → m ≢ n
  not_edited m is same = both_ways (is_edited edits m) is (ap (λ (t : Bool). t || false) (eq-eqb n m (sym same)))

  below_count : n < count_of v
  below_count = inside_list v.files n r (some_file v n r k.file.file)

  own_numbers : (m : ℕ) → is_edited edits m ≡ true → IsOwnRecord c v m
  own_numbers m is = inl (r, ap (file_in v) (edited_is m is) ∙ k.file.file)

  changes_records : ChangesRecords c d v.per v.table v.table (is_edited edits)
  changes_records = record {
    grows = goes_on_itself c g clusters v k.stands.loaded;
    others = λ m low is b at. record_stays m b (not_edited m is) at.lies;
    lists = λ m f is base. list_same m f base (list_stream f) refl;
    unnamed = λ m f is base. unnamed c g clusters v (is_edited edits) m f k.stands own_numbers is base;
    alone = λ m low is. subst (StandsAlone v.per) (sym (ap (table_slot d v.per v.table) (edited_is m is) ∙ slot_now)) (own.alone, ap (λ (p : ℕ). cuts_index p (Some q)) (v_per ∙ sym w_per) ∙ uncut d g clusters w n q h.draft.stands q_file own.below);
    fresh = λ m high low. absurd (omega (arith, high, low));
  }

  volume_is : w ≡ with_record v n q
  volume_is =
      let edited_now : changed_volume d v v.table (is_edited edits) ≡ with_record v n q = edits_in_place d v edits (count_is c g clusters v k.stands.loaded) (below_count, tt, tt) (sym (file_slot d v n q slot_now own.base), tt) in
      let loaded : volume_of d g clusters ≡ Ok (with_record v n q) = volume_now c d g clusters v v.table (is_edited edits) k.stands.loaded table_same changes_records ∙ ap (λ (y : Volume). Ok y) edited_now in
      let is : Ok w ≡ Ok (with_record v n q) = sym h.draft.stands.loaded ∙ loaded in
      cc

  -- ---- its record

  last : LastPut c s n (record_with_data r) new
  last = change_last c s n op a stamp (record_with_data r) (growth_of (cluster_bits c v) (record_with_data r) op a) x k.is [] new k.put

  abbrev bytes : List ℕ
  bytes = record_spelling (written_record last.last)

  block_there : (b : Block) × (record_block v.per v.table n ≡ Some b)
  block_there = some_of (record_block v.per v.table n) (used_block d v.per v.table n q slot_now)

  put_there : body_in h.bodies block_there.0 ≡ Some bytes
  put_there =
      sym (h.same block_there.0)
      ∙ ap (λ (l : List Touched). body_in (bodies_of l) block_there.0) last.put.put
      ∙ record_put c s.table s.mirror n bytes last.before block_there.0 no_mirror (ap₂ (λ (p : ℕ) (e : Extents). block_at p e.runs FileRec n) (sym v_per) k.streams.table ∙ block_there.1)

  slot_put : slot_of (record { bytes = bytes; torn = false }) ≡ Used q
  slot_put =
      sym (record_read d v.per v.table n block_there.0 (slot_begins d v n q slot_now) block_there.1 ∙ ap slot_of (body_put c h.bodies block_there.0 k.sized h.draft.whole ∙ ap (body_or (c block_there.0)) put_there)) ∙ slot_now

  q_is : q ≡ written_record last.last
  unfolding slot_of whole_record
  q_is =
      let whole : whole_record bytes ≡ Ok q = (read_in_use false (is_used bytes) (whole_record bytes) q slot_put).2 in
      let as_put : record_at bytes ≡ Ok (written_record last.last) = (read_again (written_record last.last) (fits_written last.last last.put.fits (has_room last.last last.put.room))).read in
      read_alike (shaped_at bytes) (written_record last.last) q (sym (is_shaped bytes) ∙ as_put) whole

  q_keeps : KeepsNames r q
  q_keeps =
      subst (KeepsNames r) (sym q_is)
      (twice r (record_with_data r) (written_record last.last) (by_kept r) (twice (record_with_data r) last.last (written_record last.last) last.keeps (written_kept last.last)))

  -- ---- all files

  each_alike : (m : ℕ) → IsNamedAlike m (file_in v m) (file_in w m)
  each_alike m = elim (cases_eq m n) [
    | inl same ↦
        subst (λ (i : ℕ). IsNamedAlike i (file_in v i) (file_in w i)) (sym same)
        (subst (λ (o : Option Record). IsNamedAlike n o (file_in w n)) (sym k.file.file) (subst (λ (o : Option Record). IsNamedAlike n (Some r) o) (sym q_file) (q_keeps.seq, kept_links n r q q_keeps)))
    | inr other ↦
        (let stays : file_in w m ≡ file_in v m = ap (λ (y : Volume). file_in y m) volume_is ∙ elsewhere v n m q other in
        subst (λ (o : Option Record). IsNamedAlike m (file_in v m) o) (sym stays) (alike_itself m (file_in v m)))
  ]

  lists_same : (m : ℕ) → lists_in (file_in w m) ≡ lists_in (file_in v m)
  lists_same m = elim (cases_eq m n) [
    | inl same ↦ ap (λ (i : ℕ). lists_in (file_in w i)) same ∙ ap lists_in q_file ∙ q_keeps.lists ∙ sym (ap lists_in k.file.file) ∙ ap (λ (i : ℕ). lists_in (file_in v i)) (sym same)
    | inr other ↦ ap (λ (y : Volume). lists_in (file_in y m)) volume_is ∙ ap lists_in (elsewhere v n m q other)
  ]

  names_stay : SameNames v.files w.files
  names_stay = record { count = ap (λ (y : Volume). length y.files) volume_is ∙ length-with_edits v.files edits; each = each_alike }

pub names_kept : MadeIsCounted → WritesKeepNames
names_kept counted c g clusters v s op n stamp a r x new k h = names_stay counted c g clusters v s op n stamp a r x new k h

pub lists_kept : MadeIsCounted → WritesKeepLists
lists_kept counted c g clusters v s op n stamp a r x new k h = lists_same counted c g clusters v s op n stamp a r x new k h
