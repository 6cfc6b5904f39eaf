-- What a new file leaves behind a draft in which the index of its directory has grown: the runs of all streams, and all bodies but those that it puts.
use Rattle.std.proofs.Common.{◌≡◌, ◌≢◌, ◌⊎◌, ℕ, ◌<◌, Bool, true, false, not, ◌&&◌, ◌||◌, eqb, nat_eq, List, [], ◌∷◌, ◌++◌, Option, Some, None, refl, sym, ap, subst, ◌∙◌, inl, inr, arith}
use Rattle.std.specs.Prelude.{All}
use Rattle.std.specs.List.{flat_map, list_any, AllByRecursion}
use Rattle.std.specs.Cmp.Lexicographic.{pointwise}
use Rattle.std.proofs.lemmas.Bool.{cases_eq, and_parts, and_from, and_right, or_cases, or_left, or_right, eqb-true, eq-eqb, both_ways}
use Rattle.std.proofs.lemmas.List.Elements.{All-nil, All-cons, All-head, All-tail, All-filter}
use Rattle.disk_model.specs.declared.block.Block.{Block}
use Rattle.disk_model.specs.declared.block.BlockKind.TheVariants.{FileRec}
use Rattle.disk_model.specs.Sectors.{overlap}
use Rattle.disk_model.specs.Content.{Content, HasSizes}
use Rattle.record_model.specs.declared.attribute.Attr.{Attr}
use Rattle.record_model.specs.declared.attribute.OwnForm.{OwnForm}
use Rattle.record_model.specs.declared.attribute.OwnForm.TheVariants.{Resident, Mapped}
use Rattle.record_model.specs.declared.runs.Run.{Run}
use Rattle.record_model.specs.Constants.{standard_information, data_type, bitmap_type, index_root, index_allocation, names_index}
use Rattle.record_model.specs.Records.{Record}
use Rattle.bit_set.specs.Bits.{bit}
use Rattle.file_tree.specs.declared.node.Node.{Node}
use Rattle.index_model.specs.Trees.{Tree}
use Rattle.made_files.specs.index_change.declared.nodes_plan.NodesPlan.{NodesPlan}
use Rattle.state_model.specs.declared.geometry.Geometry.{Geometry}
use Rattle.state_model.specs.declared.stream.Extents.{Extents}
use Rattle.state_model.specs.Streams.{is_attribute_of, attributes_of, attribute_runs, form_stream, joined, stream_of, block_at}
use Rattle.volume_model.specs.Owners.{file_runs, uses}
use Rattle.volume_model.specs.Volumes.{Volume, count_of, file_in, file_stream, table_file, bitmap_file, mirror_file, cluster_bits, record_bits}
use Rattle.stream_laws.specs.Owners.{stream_kind}
use Rattle.stream_laws.specs.Replacing.{FileEdit, AreEdits}
use Rattle.stream_laws.specs.Rewrites.{is_edited}
use Rattle.stream_laws.specs.Sharing.{StreamKey, stream_at, runs_in}
use Rattle.stream_laws.specs.Tables.{table_key}
use Rattle.stream_laws.proofs.Editing.{edited_files, length-with_edits}
use Rattle.stream_laws.proofs.Tabling.{inside_list}
use Rattle.tree_laws.specs.Planned.{IsInRecord}
use Rattle.tree_laws.proofs.Ascending.{all_by}
use Rattle.tree_laws.proofs.Keeping.{rules_of}
use Rattle.plan_owners.specs.States.{Stands}
use Rattle.plan_owners.proofs.Standing.{as_file, some_file, file_parts}
use Rattle.plan_bodies.specs.Bodies.{NewBody, whole_write}
use Rattle.plan_draft.specs.declared.touched.Touched.{Touched}
use Rattle.plan_draft.specs.Drafts.{drafted}
use Rattle.written_values.specs.plan_model.Attributes.{RewritesValues}
use Rattle.written_values.specs.plan_model.Drafts.{FollowsOwners}
use Rattle.written_values.specs.plan_model.Edits.{IsOwnedIn}
use Rattle.written_values.specs.plan_model.Informed.{is_info, with_record}
use Rattle.written_values.proofs.plan_model.OneRecord.{own_record, small_base}
use Rattle.written_values.specs.plan_edits.Moves.{EditsDraft}
use Rattle.made_files.specs.plan_values.Values.{WritesValues}
use Rattle.state_model.specs.Files.{file_at, is_base_record}
use Rattle.state_model.specs.Loads.{table_in}
use Rattle.written_values.proofs.Joining.{Reaches}
use Rattle.written_values.specs.plan_model.Made.{is_info_or_root, made_streams, made_edits}
use Rattle.written_values.proofs.plan_model.Informing.{slot_in_use, marked_in_use}
use Rattle.written_values.proofs.plan_model.Rewriting.{same_runs, same_stream}
use Rattle.written_values.proofs.record_streams.Kept.{all_of_stream}
use Rattle.written_values.proofs.record_streams.Streams.{attribute_kind}
use Rattle.made_files.specs.record_times.Times.{timed_record}
use Rattle.made_files.specs.record_times.Laws.{TimesAreSet}
use Rattle.made_files.specs.plan_growth.Streams.{marks_streams}
use Rattle.written_values.specs.plan_changes.Going.{StandsAs}
use Rattle.written_values.proofs.plan_changes.Going.{files_going}
use Rattle.made_files.specs.new_files.Laws.{NewFileReads}
use Rattle.written_values.specs.step_model.Placing.{Growth}
use Rattle.written_values.specs.step_model.Streams.{blocks_key, used_key, bits_key}
use Rattle.written_values.specs.step_model.Used.{is_in_record}
use Rattle.written_values.specs.step_model.Contents.{same_key, is_touched, touched_streams, HasGrown, MayDiffer, IsLeft}
use Rattle.made_files.proofs.step_model.Leaving.{contents_left}
use Rattle.written_values.specs.file_puts.declared.streams.VolumeStreams.{VolumeStreams}
use Rattle.written_values.proofs.Sparing.{elsewhere}
use Rattle.made_files.specs.file_makes.declared.newfile.NewFile.{NewFile}
use Rattle.made_files.specs.file_makes.Making.{made_record}
use Rattle.made_files.specs.Made.{rooted_directory, IsMadeEdit}
use Rattle.made_trees.specs.Created.{timed_directory, timed_volume, made_volume}
use Rattle.made_trees.specs.Grown.{IsOfGrowth}
use Rattle.made_trees.specs.Behind.{MakesFileBehind, MadeBehindAreLeft}
use Rattle.made_trees.proofs.Going.{first_sized, middle_sized, first_stands, anew, edit, stands, made, reaches}

-- ---- a record without clusters

abbrev HasNone : Attr → Type 0
HasNone a = attribute_runs a ≡ []

no_front : (xs ys : List Run) → xs ++ ys ≡ [] → (xs ≡ []) × (ys ≡ [])
no_front [] ys is = (refl, is)
no_front (x ∷ xs) ys is = absurd cc

all_none : (attrs : List Attr) → flat_map attribute_runs attrs ≡ [] → All HasNone attrs
all_none [] is = All-nil HasNone
all_none (a ∷ attrs) is = (let parts = no_front (attribute_runs a) (flat_map attribute_runs attrs) is in All-cons HasNone a attrs parts.0 (all_none attrs parts.1))

none_all : (attrs : List Attr) → All HasNone attrs → flat_map attribute_runs attrs ≡ []
none_all [] all = refl
none_all (a ∷ attrs) all = ap (λ (l : List Run). l ++ flat_map attribute_runs attrs) (All-head HasNone a attrs all) ∙ none_all attrs (All-tail HasNone a attrs all)

runs_of_form : (form : OwnForm) (runs : List Run) → runs ≡ [] → runs_in (Some (form_stream form runs)) ≡ []
runs_of_form (Resident value indexed) runs is = refl
runs_of_form (Mapped sizes pairs) runs is = is

none_joined : (attributes : List Attr) → All HasNone attributes → runs_in (joined attributes) ≡ []
none_joined [] all = refl
none_joined (a ∷ attributes) all = runs_of_form a.form (flat_map attribute_runs (a ∷ attributes)) (none_all (a ∷ attributes) all)

no_runs : (f : Record) (kind : ℕ) (name : List ℕ) → file_runs (Some f) ≡ [] → runs_in (stream_of kind name f.attrs) ≡ []
unfolding stream_of
no_runs f kind name none = none_joined (attributes_of kind name f.attrs) (all_of_stream HasNone kind name f.attrs (All-filter (is_attribute_of kind name) HasNone f.attrs (all_none f.attrs none)))

none_if : (o : Option Record) → ((q : Record) → o ≡ Some q → ⊥) → o ≡ None
none_if None never = refl
none_if (Some q) never = absurd (never q refl)

-- ---- streams that aren't standard information or a root

spared : (kind : ℕ) (name : List ℕ) → eqb kind standard_information ≡ false → (a : Attr) → is_attribute_of kind name a ≡ true → is_info a ≡ false
spared kind name other a is = ap (λ (x : ℕ). eqb x standard_information) (attribute_kind kind name a is).0 ∙ other

spared_both : (kind : ℕ) (name : List ℕ) → (eqb kind standard_information || eqb kind index_root) ≡ false → (a : Attr) → is_attribute_of kind name a ≡ true → is_info_or_root a ≡ false
spared_both kind name other a is = ap (λ (x : ℕ). eqb x standard_information || eqb x index_root) (attribute_kind kind name a is).0 ∙ other

-- ---- which streams and records are touched

no_data : (t : StreamKey) → eqb t.kind data_type ≡ false → same_key t table_key ≡ false
no_data t other = ap (λ (b : Bool). b && pointwise nat_eq t.name []) (and_right (eqb t.file table_file) (eqb t.kind data_type) other)

no_table : (t : StreamKey) → eqb t.file table_file ≡ false → same_key t table_key ≡ false
no_table t other = ap (λ (b : Bool). (b && eqb t.kind data_type) && pointwise nat_eq t.name []) other

chosen_by : (files : List ℕ) (t : StreamKey) → is_touched files t.file ≡ true → same_key t table_key ≡ false → touched_streams files t ≡ true
chosen_by files t there other = and_from (is_touched files t.file) (not (same_key t table_key)) there (ap not other)

among_files : (n : ℕ) (files : List ℕ) → list_any (λ (m : ℕ). eqb n m) files ≡ true → is_touched files n ≡ true
among_files n files there = or_right _ (list_any (λ (m : ℕ). eqb n m) files) there

one_more : (n m i : ℕ) → is_touched (m ∷ []) i ≡ true → is_touched (n ∷ m ∷ []) i ≡ true
one_more n m i touched = elim (or_cases (eqb i table_file || eqb i mirror_file || eqb i bitmap_file) (list_any (λ (j : ℕ). eqb i j) (m ∷ [])) touched) [
  | inl own ↦ or_left _ (list_any (λ (j : ℕ). eqb i j) (n ∷ m ∷ [])) own
  | inr among ↦ among_files i (n ∷ m ∷ []) (or_right (eqb i n) (list_any (λ (j : ℕ). eqb i j) (m ∷ [])) among)
]

module _ (times_set : TimesAreSet) (reads : NewFileReads) (c : Content) (g : Geometry) (clusters : ℕ) (v : Volume) (s : VolumeStreams) (numbers : Extents) (m : NewFile) (a : Node) (r : Record) (growths : List Growth) (u : Volume) (now : Record) (grown : List Touched) (value : List ℕ) (used : ℕ) (t : Tree) (fresh : List ℕ) (nodes : NodesPlan) (timed new : List Touched)
    (k : MakesFileBehind c g clusters v s numbers m a r growths u now grown value used t fresh nodes timed new) where
  abbrev n : ℕ
  n = m.file.number

  abbrev dir : ℕ
  dir = m.parent.number

  abbrev files : List ℕ
  files = m.file.number ∷ m.parent.number ∷ []

  abbrev first : Content
  first = drafted grown c

  abbrev middle : Content
  middle = drafted timed c

  abbrev last : Content
  last = drafted new c

  abbrev p : Record
  p = timed_record m.stamp now

  abbrev q : Record
  q = timed_directory m.stamp now

  abbrev x : Volume
  x = timed_volume u m now

  abbrev z : Record
  z = rooted_directory k.made.put.plan (timed_directory m.stamp now)

  abbrev f : Record
  f = made_record (drafted timed c) s.table m

  abbrev w : Volume
  w = made_volume c u s m now k.made.put.plan timed

  abbrev edits : List FileEdit
  edits = made_edits m.file.number (made_record (drafted timed c) s.table m) m.parent.number (rooted_directory k.made.put.plan (timed_directory m.stamp now))

  pub one : (bodies : List NewBody) × (EditsDraft c grown timed bodies × WritesValues first u dir now p q bodies)
  one = edit times_set reads c g clusters v s numbers m a r growths u now grown value used t fresh nodes timed new k

  pub two : IsMadeEdit c x s m q value used t fresh k.made.put.plan timed new
  two = made times_set reads c g clusters v s numbers m a r growths u now grown value used t fresh nodes timed new k

  pub sized_first : HasSizes first
  sized_first = first_sized times_set reads c g clusters v s numbers m a r growths u now grown value used t fresh nodes timed new k

  pub sized_middle : HasSizes middle
  sized_middle = middle_sized times_set reads c g clusters v s numbers m a r growths u now grown value used t fresh nodes timed new k

  pub state_x : Stands middle g clusters x
  state_x = stands times_set reads c g clusters v s numbers m a r growths u now grown value used t fresh nodes timed new k

  pub rewritten : RewritesValues is_info now p
  rewritten = anew times_set reads c g clusters v s numbers m a r growths u now grown value used t fresh nodes timed new k

  pub stands_as : StandsAs u dir p q
  stands_as = files_going.written first g clusters u dir now p q one.0 sized_first (first_stands times_set reads c g clusters v s numbers m a r growths u now grown value used t fresh nodes timed new k) one.1.1

  -- ---- the files

  dir_x : file_in x dir ≡ Some q
  dir_x = stands_as.own.file

  dir_below : dir < count_of x
  dir_below = inside_list x.files dir q (some_file x dir q dir_x)

  none_x : file_in x n ≡ None
  none_x = none_if (file_in x n) never
    where
      never : (o : Record) → file_in x n ≡ Some o → ⊥
      never o is =
          let parts = file_parts middle g clusters x n o state_x.loaded (some_file x n o is) in
          both_ways (bit (record_bits middle x) n) two.makes.clear (marked_in_use middle x n (rules_of middle x state_x.kept).rule_7 two.makes.within (slot_in_use middle x n parts.base parts.slot))

  clash : (o : Option Record) → o ≡ None → o ≡ Some q → ⊥
  clash o none some = (let same : None ≡ Some q = sym none ∙ some in absurd cc)

  apart : n ≢ dir
  apart same = clash (file_in x n) none_x (ap (file_in x) same ∙ dir_x)

  pub none_u : file_in u n ≡ None
  none_u = sym (elsewhere u dir n q apart) ∙ none_x

  distinct : AreEdits (count_of x) edits
  distinct = (two.makes.within, ((λ same. apart (sym same)), tt), (dir_below, tt, tt))

  base_z : is_base_record z ≡ true
  base_z = small_base is_info_or_root q z two.makes.values (own_record middle g clusters x dir q state_x dir_x two.makes.lists_none).base

  pub file_w : file_in w n ≡ Some f
  unfolding file_at
  file_w = as_file (table_in w.files n) f (edited_files x.files edits distinct).0 two.makes.base

  pub dir_w : file_in w dir ≡ Some z
  unfolding file_at
  dir_w = as_file (table_in w.files dir) z (edited_files x.files edits distinct).1.0 base_z

  pub others_w : (i : ℕ) → i ≢ n → i ≢ dir → file_in w i ≡ file_in u i
  others_w i other more = elsewhere (with_record x n f) dir i z more ∙ elsewhere x n i f other ∙ elsewhere u dir i q more

  -- ---- the streams

  -- a stream of the directory's record where its index has grown
  in_u : (o : StreamKey) → o.file ≡ dir → file_stream o.kind o.name (Some now) ≡ stream_at u o
  in_u o is = sym (ap (λ (i : ℕ). file_stream o.kind o.name (file_in u i)) is ∙ ap (file_stream o.kind o.name) k.before.own.file)

  pub x_runs : (o : StreamKey) → runs_in (stream_at x o) ≡ runs_in (stream_at u o)
  x_runs o = elim (cases_eq o.file dir) [
    | inl is ↦
        ap (λ (i : ℕ). runs_in (file_stream o.kind o.name (file_in x i))) is
        ∙ ap (λ (y : Option Record). runs_in (file_stream o.kind o.name y)) dir_x
        ∙ ap runs_in (stands_as.streams o.kind o.name)
        ∙ same_runs is_info now p o.kind o.name rewritten
        ∙ ap runs_in (in_u o is)
    | inr other ↦ ap (λ (y : Option Record). runs_in (file_stream o.kind o.name y)) (elsewhere u dir o.file q other)
  ]

  pub w_runs : (o : StreamKey) → runs_in (stream_at w o) ≡ runs_in (stream_at u o)
  w_runs o = elim (cases_eq o.file n) [
    | inl is ↦
        ap (λ (i : ℕ). runs_in (file_stream o.kind o.name (file_in w i))) is
        ∙ ap (λ (y : Option Record). runs_in (file_stream o.kind o.name y)) file_w
        ∙ no_runs f o.kind o.name two.makes.no_clusters
        ∙ sym (ap (λ (i : ℕ). runs_in (file_stream o.kind o.name (file_in u i))) is ∙ ap (λ (y : Option Record). runs_in (file_stream o.kind o.name y)) none_u)
    | inr other ↦ elim (cases_eq o.file dir) [
      | inl is ↦
          ap (λ (i : ℕ). runs_in (file_stream o.kind o.name (file_in w i))) is
          ∙ ap (λ (y : Option Record). runs_in (file_stream o.kind o.name y)) dir_w
          ∙ same_runs is_info_or_root q z o.kind o.name two.makes.values
          ∙ ap runs_in (stands_as.streams o.kind o.name)
          ∙ same_runs is_info now p o.kind o.name rewritten
          ∙ ap runs_in (in_u o is)
      | inr more ↦ ap (λ (y : Option Record). runs_in (file_stream o.kind o.name y)) (others_w o.file other more)
    ]
  ]

  -- a stream of the directory's index is the same
  dir_stream : (kind : ℕ) (name : List ℕ) → (eqb kind standard_information || eqb kind index_root) ≡ false → eqb kind standard_information ≡ false → stream_at w (record { file = dir; kind = kind; name = name }) ≡ stream_at u (record { file = dir; kind = kind; name = name })
  dir_stream kind name neither other =
      ap (file_stream kind name) dir_w
      ∙ same_stream is_info_or_root q z kind name two.makes.values (spared_both kind name neither)
      ∙ stands_as.streams kind name
      ∙ same_stream is_info now p kind name rewritten (spared kind name other)
      ∙ in_u (record { file = dir; kind = kind; name = name }) refl

  index_stream_is : (o : StreamKey) → (o ≡ blocks_key dir) ⊎ (o ≡ used_key dir) → stream_at w o ≡ stream_at u o
  index_stream_is o (inl is) = ap (stream_at w) is ∙ dir_stream index_allocation names_index refl refl ∙ sym (ap (stream_at u) is)
  index_stream_is o (inr is) = ap (stream_at w) is ∙ dir_stream bitmap_type names_index refl refl ∙ sym (ap (stream_at u) is)

  -- so are those of the file table, whose file is neither the new one nor the directory
  table_stays : file_in w table_file ≡ file_in u table_file
  table_stays = (let user = two.makes.user in others_w table_file (λ same. omega (arith, same, user)) (λ same. two.makes.apart.table (sym same)))

  table_stream_is : (o : StreamKey) → (o ≡ table_key) ⊎ (o ≡ bits_key) → stream_at w o ≡ stream_at u o
  table_stream_is o (inl is) = ap (stream_at w) is ∙ ap (file_stream data_type []) table_stays ∙ sym (ap (stream_at u) is)
  table_stream_is o (inr is) = ap (stream_at w) is ∙ ap (file_stream bitmap_type []) table_stays ∙ sym (ap (stream_at u) is)

  grown_stream_is : (h : Growth) → IsOfGrowth dir h → stream_at w h.stream ≡ stream_at u h.stream
  grown_stream_is h (inl its) = index_stream_is h.stream its
  grown_stream_is h (inr its) = table_stream_is h.stream its

  all_grown : (l : List Growth) → AllByRecursion (IsOfGrowth dir) l → AllByRecursion (λ h. HasGrown v u h) l → AllByRecursion (λ h. HasGrown v w h) l
  all_grown [] streams all = tt
  all_grown (h ∷ l) streams all = (
    record {
      stands = ap is_in_record (grown_stream_is h streams.0) ∙ all.0.stands;
      old = all.0.old;
      runs = w_runs h.stream ∙ all.0.runs;
    },
    all_grown l streams.1 all.1,
  )

  -- ---- the blocks

  in_record : (i : ℕ) (b : Block) → is_touched files i ≡ true → block_at u.per u.table.runs FileRec i ≡ Some b → MayDiffer files v w b
  in_record i b there lies = inl (record { number = i; touched = inl there; place = lies })

  file_touched : is_touched files n ≡ true
  file_touched = among_files n files (or_left (eqb n n) (eqb n dir || false) (eq-eqb n n refl))

  dir_touched : is_touched files dir ≡ true
  dir_touched = among_files dir files (or_right (eqb dir n) (eqb dir dir || false) (or_left (eqb dir dir) false (eq-eqb dir dir refl)))

  in_stream : (o : StreamKey) (number : ℕ) (b : Block) → is_touched files o.file ≡ true → same_key o table_key ≡ false → block_at u.per (runs_in (stream_at u o)) (stream_kind o) number ≡ Some b → MayDiffer files v w b
  in_stream o number b there other lies =
      inr (inr (record { stream = o; chosen = chosen_by files o there other; number = number; lies = ap (λ (l : List Run). block_at u.per l (stream_kind o) number) (w_runs o) ∙ lies }))

  owned_x : (b : Block) → IsOwnedIn (made_streams dir) x b → MayDiffer files v w b
  owned_x b owned =
      let o : StreamKey = owned.stream in
      let lies : block_at u.per (runs_in (stream_at u o)) (stream_kind o) owned.number ≡ Some b = ap (λ (l : List Run). block_at u.per l (stream_kind o) owned.number) (sym (x_runs o)) ∙ owned.lies in
      elim (or_cases (eqb o.file table_file && eqb o.kind bitmap_type) (eqb o.file dir && eqb o.kind index_allocation) owned.chosen) [
        | inl bits ↦
            (let parts = and_parts (eqb o.file table_file) (eqb o.kind bitmap_type) bits in
            in_stream o owned.number b (ap (is_touched files) (eqb-true o.file table_file parts.0)) (no_data o (ap (λ (i : ℕ). eqb i data_type) (eqb-true o.kind bitmap_type parts.1))) lies)
        | inr blocks ↦
            (let parts = and_parts (eqb o.file dir) (eqb o.kind index_allocation) blocks in
            in_stream o owned.number b (ap (is_touched files) (eqb-true o.file dir parts.0) ∙ dir_touched) (no_data o (ap (λ (i : ℕ). eqb i data_type) (eqb-true o.kind index_allocation parts.1))) lies)
      ]

  owned_u : (b : Block) → IsOwnedIn marks_streams u b → MayDiffer files v w b
  owned_u b owned =
      let o : StreamKey = owned.stream in
      let which = (and_parts (eqb o.file bitmap_file || eqb o.file mirror_file) (eqb o.kind data_type) (and_parts ((eqb o.file bitmap_file || eqb o.file mirror_file) && eqb o.kind data_type) (pointwise nat_eq o.name []) owned.chosen).0).0 in
      elim (or_cases (eqb o.file bitmap_file) (eqb o.file mirror_file) which) [
        | inl bits ↦ (let file = eqb-true o.file bitmap_file bits in in_stream o owned.number b (ap (is_touched files) file) (no_table o (ap (λ (i : ℕ). eqb i table_file) file)) owned.lies)
        | inr mirror ↦ (let file = eqb-true o.file mirror_file mirror in in_stream o owned.number b (ap (is_touched files) file) (no_table o (ap (λ (i : ℕ). eqb i table_file) file)) owned.lies)
      ]

  first_block : (h : NewBody) → IsOwnedIn marks_streams u h.block ⊎ (block_at u.per u.table.runs FileRec dir ≡ Some h.block) → MayDiffer files v w h.block
  first_block h (inl owned) = owned_u h.block owned
  first_block h (inr its) = in_record dir h.block dir_touched its

  second_block : (h : NewBody) → IsOwnedIn (made_streams dir) x h.block ⊎ IsInRecord (is_edited edits) x (whole_write h) → MayDiffer files v w h.block
  second_block h (inl owned) = owned_x h.block owned
  second_block h (inr its) = elim (or_cases (eqb n its.number) (eqb dir its.number || false) its.chosen) [
    | inl file ↦ in_record n h.block file_touched (ap (block_at u.per u.table.runs FileRec) (eqb-true n its.number file) ∙ its.lies)
    | inr rest ↦ elim (or_cases (eqb dir its.number) false rest) [
      | inl own ↦ in_record dir h.block dir_touched (ap (block_at u.per u.table.runs FileRec) (eqb-true dir its.number own) ∙ its.lies)
      | inr never ↦ absurd cc
    ]
  ]

  -- a block that may differ where the index has grown may differ behind it
  dir_first : (o : StreamKey) → touched_streams (dir ∷ []) o ≡ true → touched_streams files o ≡ true
  dir_first o chosen =
      let parts = and_parts (is_touched (dir ∷ []) o.file) (not (same_key o table_key)) chosen in
      and_from (is_touched files o.file) (not (same_key o table_key)) (one_more n dir o.file parts.0) parts.1

  count_w : count_of w ≡ count_of u
  count_w = length-with_edits x.files edits ∙ length-with_edits u.files (record { number = dir; file = Some q } ∷ [])

  before_differs : (b : Block) → MayDiffer (dir ∷ []) v u b → MayDiffer files v w b
  before_differs b (inl its) = inl (record {
    number = its.number;
    touched = elim its.touched [
      | inl here ↦ inl (one_more n dir its.number here)
      | inr behind ↦ inr (behind.0, subst (λ (i : ℕ). its.number < i) (sym count_w) behind.1)
    ];
    place = its.place;
  })
  before_differs b (inr (inl owned)) = inr (inl (record { stream = owned.stream; chosen = dir_first owned.stream owned.chosen; number = owned.number; lies = owned.lies }))
  before_differs b (inr (inr owned)) =
      inr (inr (record { stream = owned.stream; chosen = dir_first owned.stream owned.chosen; number = owned.number; lies = ap (λ (l : List Run). block_at u.per l (stream_kind owned.stream) owned.number) (w_runs owned.stream) ∙ owned.lies }))

  body_stays : (b : Block) → ((y : Block) → MayDiffer files v w y → overlap b y ≡ false) → last b ≡ c b
  body_stays b far =
      ap (λ (y : Content). y b) (sym two.edits.content)
      ∙ contents_left.stays middle v w files two.bodies sized_middle two.makes.whole (all_by (λ (h : NewBody). IsOwnedIn (made_streams dir) x h.block ⊎ IsInRecord (is_edited edits) x (whole_write h)) (λ (h : NewBody). MayDiffer files v w h.block) second_block two.bodies two.makes.each) b far
      ∙ ap (λ (y : Content). y b) (sym one.1.0.content)
      ∙ contents_left.stays first v w files one.0 sized_first one.1.1.put.puts.whole (all_by (λ (h : NewBody). IsOwnedIn marks_streams u h.block ⊎ (block_at u.per u.table.runs FileRec dir ≡ Some h.block)) (λ (h : NewBody). MayDiffer files v w h.block) first_block one.0 one.1.1.put.puts.each) b far
      ∙ k.before.left.stays b (λ y differs. far y (before_differs y differs))

  -- ---- what is left

  pub reached : Reaches c g clusters v new w
  reached = reaches times_set reads c g clusters v s numbers m a r growths u now grown value used t fresh nodes timed new k

  pub left : IsLeft c v clusters files growths last w
  left = record {
    placed = k.before.left.placed;
    grown = all_grown growths k.before.streams k.before.left.grown;
    others = λ o apart. w_runs o ∙ k.before.left.others o apart;
    bits = subst (λ (y : Content). FollowsOwners clusters (cluster_bits c v) (cluster_bits y w) v.files w.files) reached.content reached.draft.marks;
    takes = λ o i more. k.before.left.takes o i (subst (λ (l : List Run). uses (runs_in (stream_at v o)) i < uses l i) (w_runs o) more);
    stays = body_stays;
  }

pub behind_leaves : TimesAreSet → NewFileReads → MadeBehindAreLeft
behind_leaves times_set reads c g clusters v s numbers m a r growths u now grown value used t fresh nodes timed new k = left times_set reads c g clusters v s numbers m a r growths u now grown value used t fresh nodes timed new k
