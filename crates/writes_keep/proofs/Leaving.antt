-- What an operation leaves that goes from a state to a state as a plan does, and puts all into streams in which operations write.
use Rattle.std.proofs.Common.{◌≡◌, ◌≢◌, subst, ℕ, ◌+◌, ◌/◌, ◌<◌, ◌≤◌, true, false, List, Option, None, sym, ap, ◌∙◌, inl, inr, arith}
use Rattle.std.specs.Prelude.{◌⊎◌}
use Rattle.std.specs.List.{AllByRecursion}
use Rattle.std.proofs.lemmas.Bool.{cases_eq, cases_lt, both_ways}
use Rattle.disk_model.specs.declared.block.Block.{Block}
use Rattle.disk_model.specs.declared.block.BlockKind.{BlockKind}
use Rattle.disk_model.specs.declared.block.BlockKind.TheVariants.{Plain, FileRec, Index}
use Rattle.disk_model.specs.declared.block.Change.{Change}
use Rattle.disk_model.specs.Content.{Content, HasSizes}
use Rattle.disk_model.specs.Sectors.{sectors, overlap}
use Rattle.record_model.specs.declared.runs.Run.{Run}
use Rattle.file_tree.specs.Walks.{root, first_user_record}
use Rattle.bit_set.specs.Bits.{bit}
use Rattle.state_model.specs.declared.geometry.Geometry.{Geometry}
use Rattle.state_model.specs.Loads.{boot_block}
use Rattle.volume_model.specs.Volumes.{Volume, count_of, file_in, table_file, mirror_file, log_file, bitmap_file, cluster_bits, upper_of}
use Rattle.volume_model.specs.Owners.{volume_runs, uses}
use Rattle.names_stay.specs.volume_state.Trees.{tree_of}
use Rattle.stream_laws.specs.Owners.{Owns, stream_kind}
use Rattle.stream_laws.specs.Places.{AreOnce}
use Rattle.stream_laws.specs.Sharing.{StreamKey, stream_at, runs_in}
use Rattle.stream_laws.specs.Tables.{table_key}
use Rattle.stream_laws.proofs.Placing.{lies_in_used}
use Rattle.stream_laws.proofs.Rewriting.{volume_parts}
use Rattle.stream_laws.proofs.Sharing.{stream_of_volume, streams_apart}
use Rattle.names_stay.proofs.tree_laws.Ascending.{all_by}
use Rattle.names_stay.specs.plan_owners.States.{Stands}
use Rattle.names_stay.specs.plan_owners.Agreeing.{log_key}
use Rattle.names_stay.specs.plan_owners.Kinds.{cluster_of}
use Rattle.names_stay.proofs.plan_owners.ByKind.{in_grid, owned_as, inside}
use Rattle.names_stay.proofs.plan_owners.Outside.{once}
use Rattle.names_stay.proofs.plan_model.Drafting.{per_is}
use Rattle.names_stay.specs.plan_model.Drafts.{DraftIn}
use Rattle.names_stay.specs.file_puts.declared.streams.VolumeStreams.{VolumeStreams}
use Rattle.names_stay.specs.file_puts.Written.{AreStreamsOf}
use Rattle.plans_keep.proofs.state_blocks.Needing.{listed_judged}
use Rattle.plan_bodies.specs.Bodies.{NewBody, content_with}
use Rattle.plan_draft.specs.declared.touched.Touched.{Touched}
use Rattle.plan_draft.specs.Touching.{bodies_of}
use Rattle.plan_draft.specs.Finishing.{change_start, change_end, changes_of}
use Rattle.plan_draft.specs.Same.{PutSame}
use Rattle.plans_keep.specs.plan_spares.Plans.{HasOwnLists}
use Rattle.plans_keep.specs.Keeping.{AreFinished, TouchesWell, ChangesKeep, PlansKeep}
use Rattle.plans_keep.proofs.Keeping.{each_change}
use Rattle.writes_keep.specs.Writes.{IsOffLog, IsWritten, IsQuiet, IsSetAside, WriteKeeps}
use Rattle.writes_keep.proofs.Second.{off_second}
use Rattle.writes_keep.proofs.Used.{unused}

-- a file is one in which operations write, or none
pub written_or_quiet : (m : ℕ) → IsWritten m ⊎ IsQuiet m
written_or_quiet m = elim (cases_lt m first_user_record) [
  | inr user ↦ inl (inr (inr (inr (inr user))))
  | inl low ↦ elim (cases_eq m table_file) [
    | inl is ↦ inl (inl is)
    | inr no_table ↦ elim (cases_eq m mirror_file) [
      | inl is ↦ inl (inr (inl is))
      | inr no_mirror ↦ elim (cases_eq m root) [
        | inl is ↦ inl (inr (inr (inl is)))
        | inr no_root ↦ elim (cases_eq m bitmap_file) [
          | inl is ↦ inl (inr (inr (inr (inl is))))
          | inr no_bits ↦ inr (none m low no_table no_mirror no_root no_bits)
        ]
      ]
    ]
  ]
]
  where
    none : (k : ℕ) → k < first_user_record → k ≢ table_file → k ≢ mirror_file → k ≢ root → k ≢ bitmap_file → IsWritten k → ⊥
    none k low no_table no_mirror no_root no_bits (inl is) = no_table is
    none k low no_table no_mirror no_root no_bits (inr (inl is)) = no_mirror is
    none k low no_table no_mirror no_root no_bits (inr (inr (inl is))) = no_root is
    none k low no_table no_mirror no_root no_bits (inr (inr (inr (inl is)))) = no_bits is
    none k low no_table no_mirror no_root no_bits (inr (inr (inr (inr user)))) = omega (arith, low, user)

-- the log is one in which none writes
pub quiet_log : IsQuiet log_file
quiet_log (inl is) = omega (arith, is)
quiet_log (inr (inl is)) = omega (arith, is)
quiet_log (inr (inr (inl is))) = omega (arith, is)
quiet_log (inr (inr (inr (inl is)))) = omega (arith, is)
quiet_log (inr (inr (inr (inr user)))) = omega (arith, user)

-- a block that is owned by a stream in which operations write, but for record 2
pub record IsWrittenAt (w : Volume) (b : Block) : Type 0 where
  pub own : Owns w b
  pub written : IsWritten own.stream.file
  pub second : own.stream ≡ table_key → own.number ≢ 2

-- The bodies lead from the one state to the other as a plan's do. Streams in which no operation writes keep their clusters, and none takes one that wasn't clear.
pub record Leads (c : Content) (g : Geometry) (clusters : ℕ) (v : Volume) (bodies : List NewBody) (w : Volume) : Type 0 where
  pub sized : HasSizes c
  pub eight : g.per_cluster ≡ 8
  pub stands : Stands c g clusters v
  pub gave : ℕ → Option BlockKind
  pub draft : DraftIn c g clusters v bodies w gave
  pub quiet : (t : StreamKey) → IsQuiet t.file → runs_in (stream_at w t) ≡ runs_in (stream_at v t)
  pub takes : (t : StreamKey) (x : ℕ) → uses (runs_in (stream_at v t)) x < uses (runs_in (stream_at w t)) x → bit (cluster_bits c v) x ≡ false

-- what else a volume asks of the state behind it
pub record IsAsked (c : Content) (v : Volume) (d : Content) (w : Volume) (s : VolumeStreams) : Type 0 where
  pub lists : HasOwnLists d w
  pub upper : upper_of d w ≡ upper_of c v
  pub streams : AreStreamsOf w s
  pub journal : (tree_of d w).journal ≡ None
  pub count : count_of v ≤ count_of w
  pub files : (m : ℕ) → m < first_user_record → m ≢ table_file → m ≢ root → file_in w m ≡ file_in v m

some_sectors : (y : BlockKind) → 0 < sectors y
some_sectors Plain = omega arith
some_sectors FileRec = omega arith
some_sectors Index = omega arith

-- a stream has the cluster of each block that it owns
pub has_cluster : (w : Volume) (b : Block) (own : Owns w b) → w.per ≡ 8 → 0 < w.per → 1 ≤ uses (runs_in (stream_at w own.stream)) (cluster_of b)
has_cluster w b own eight some =
    let first : b.first < b.first + sectors b.kind = (let more = some_sectors b.kind in omega (arith, more)) in
    subst (λ (p : ℕ). 1 ≤ uses (runs_in (stream_at w own.stream)) (b.first / p)) eight (lies_in_used w.per (runs_in (stream_at w own.stream)) (stream_kind own.stream) own.number b some own.lies b.first (omega arith, first))

module _ (c : Content) (g : Geometry) (clusters : ℕ) (v : Volume) (bodies : List NewBody) (w : Volume) (k : Leads c g clusters v bodies w) where
  abbrev d : Content
  d = content_with c bodies

  w_per : w.per ≡ 8
  w_per = per_is d g clusters w k.eight k.draft.stands

  w_once : AreOnce (volume_runs w.files)
  w_once = once d g clusters w k.draft.stands

  same_clusters : w.clusters ≡ v.clusters
  same_clusters = sym (volume_parts d g clusters w k.draft.stands.loaded).count ∙ (volume_parts c g clusters v k.stands.loaded).count

  same_count : clusters ≡ v.clusters
  same_count = (volume_parts c g clusters v k.stands.loaded).count

  pub log_stays : runs_in (stream_at w log_key) ≡ runs_in (stream_at v log_key)
  log_stays = k.quiet log_key quiet_log

  -- no stream takes a cluster of which the bit was set
  pub takes_clear : (t : StreamKey) (i : ℕ) → bit (cluster_bits c v) i ≡ true → uses (runs_in (stream_at w t)) i ≤ uses (runs_in (stream_at v t)) i
  takes_clear t i set = elim (cases_lt (uses (runs_in (stream_at v t)) i) (uses (runs_in (stream_at w t)) i)) [
    | inl more ↦ absurd (both_ways (bit (cluster_bits c v) i) (k.takes t i more) set)
    | inr less ↦ less
  ]

  -- ---- clusters that were set aside

  module _ (i : ℕ) (below : i < v.clusters) (aside : IsSetAside c v i) where
    none_behind : (t : StreamKey) → IsWritten t.file → uses (runs_in (stream_at w t)) i ≡ 0
    none_behind t written = (let most = takes_clear t i aside.marked in let none = aside.others t written in omega (arith, most, none))

    -- where no file has it behind, none had it
    none_before : uses (volume_runs w.files) i ≡ 0 → (t : StreamKey) → uses (runs_in (stream_at v t)) i ≡ 0
    none_before none t = elim (written_or_quiet t.file) [
      | inl written ↦ aside.others t written
      | inr quiet ↦
          (let same : uses (runs_in (stream_at w t)) i ≡ uses (runs_in (stream_at v t)) i = ap (λ (l : List Run). uses l i) (k.quiet t quiet) in
          let most = stream_of_volume w t i in
          omega (arith, same, most, none))
    ]

    never_less : uses (volume_runs w.files) i < uses (volume_runs v.files) i → ⊥
    never_less less =
        let one = once c g clusters v k.stands i in
        let none = unused c g clusters v k.stands i (none_before (omega (arith, less, one))) in
        omega (arith, less, none)

    low : i < clusters
    low = (let count = same_count in omega (arith, below, count))

    marked_behind : bit (cluster_bits d w) i ≡ true
    marked_behind = elim (cases_lt (uses (volume_runs w.files) i) (uses (volume_runs v.files) i)) [
      | inl less ↦ absurd (never_less less)
      | inr most ↦
          elim (cases_lt (uses (volume_runs v.files) i) (uses (volume_runs w.files) i)) [
            | inl more ↦ (k.draft.marks.set i low more).1
            | inr least ↦ k.draft.marks.others i low (omega (arith, most, least)) ∙ aside.marked
          ]
    ]

    pub still_aside : IsSetAside d w i
    still_aside = record { marked = marked_behind; others = none_behind }

    pub off_cluster : (b : Block) → IsWrittenAt w b → cluster_of b ≢ i
    off_cluster b touched same =
        let has = has_cluster w b touched.own w_per k.draft.stands.some in
        let there : uses (runs_in (stream_at w touched.own.stream)) (cluster_of b) ≡ uses (runs_in (stream_at w touched.own.stream)) i = ap (uses (runs_in (stream_at w touched.own.stream))) same in
        let none = none_behind touched.own.stream touched.written in
        omega (arith, has, there, none)

  -- ---- off other streams

  -- the cluster of a block into which is written is none of a stream in which no operation writes
  none_there : (t : StreamKey) (b : Block) → IsQuiet t.file → IsWrittenAt w b → uses (runs_in (stream_at v t)) (cluster_of b) ≡ 0
  none_there t b quiet touched =
      let used : 1 ≤ uses (runs_in (stream_at w touched.own.stream)) (b.first / 8) = has_cluster w b touched.own w_per k.draft.stands.some in
      let apart : uses (runs_in (stream_at w touched.own.stream)) (b.first / 8) + uses (runs_in (stream_at w t)) (b.first / 8) ≤ 1 = streams_apart w touched.own.stream t w_once (λ is. quiet (subst (λ (y : StreamKey). IsWritten y.file) is touched.written)) (b.first / 8) in
      let same : uses (runs_in (stream_at w t)) (b.first / 8) ≡ uses (runs_in (stream_at v t)) (b.first / 8) = ap (λ (l : List Run). uses l (b.first / 8)) (k.quiet t quiet) in
      omega (arith, used, apart, same)

  off : (b : Block) → IsWrittenAt w b → IsOffLog v b
  off b touched =
      let low = inside d g clusters w b.kind (cluster_of b) k.draft.stands (owned_as w b w_per touched.own) in
      let count = same_clusters in
      record {
        grid = in_grid w b w_per touched.own;
        inside = omega (arith, low, count);
        apart = none_there log_key b quiet_log touched;
      }

  other_cluster : (t : StreamKey) (i : ℕ) → IsQuiet t.file → 0 < uses (runs_in (stream_at v t)) i → (b : Block) → IsWrittenAt w b → cluster_of b ≢ i
  other_cluster t i quiet has b touched same =
      let none = none_there t b quiet touched in
      let there : uses (runs_in (stream_at v t)) (cluster_of b) ≡ uses (runs_in (stream_at v t)) i = ap (uses (runs_in (stream_at v t))) same in
      omega (arith, has, none, there)

  off_record : (b : Block) → IsWrittenAt w b → overlap b (boot_block g 2) ≡ false
  off_record b touched = off_second d g clusters w k.draft.stands b touched.own touched.second

  -- ---- all of it

  module _ (keeps : PlansKeep) (s : VolumeStreams) (new : List Touched) (changes : List Change) (same : PutSame (bodies_of new) bodies) (done : AreFinished c new changes) (each : AllByRecursion (λ (t : Touched). IsWrittenAt w t.block) new) (well : AllByRecursion (TouchesWell c v) new) (lists : HasOwnLists c v) (asked : IsAsked c v d w s) where
    -- what holds of each block into which is written holds of each that is changed
    each_block : (P : Block → Type 0) → ((b : Block) → IsWrittenAt w b → P b) → AllByRecursion (λ (y : Change). P y.block) (changes_of new)
    each_block P holds = each_change (λ (y : Change). P y.block) new (all_by (λ (t : Touched). IsWrittenAt w t.block) (λ (t : Touched). change_start t < change_end t → P t.block) (λ t is lt. holds t.block is) new each)

    kept_of : WriteKeeps c g v s bodies (changes_of new) w
    kept_of = record {
      keeps = subst (λ (xs : List Change). ChangesKeep c v bodies xs w) done.are
          (keeps c g clusters v w bodies k.gave new changes k.sized k.eight k.stands k.draft same done well log_stays lists
          (λ b listed. inr (listed_judged d w b listed (asked.lists listed.number listed.file listed.is_file))));
      lists = asked.lists;
      upper = asked.upper;
      streams = asked.streams;
      journal = asked.journal;
      boot = k.quiet;
      log = log_stays;
      off = each_block (IsOffLog v) off;
      others = λ t i quiet has. each_block (λ (b : Block). cluster_of b ≢ i) (other_cluster t i quiet has);
      second = each_block (λ (b : Block). overlap b (boot_block g 2) ≡ false) off_record;
      count = asked.count;
      files = asked.files;
      takes = takes_clear;
      aside = still_aside;
      spares = λ i below aside. each_block (λ (b : Block). cluster_of b ≢ i) (off_cluster i below aside);
    }

    pub all_led : WriteKeeps c g v s bodies changes w
    all_led = subst (λ (xs : List Change). WriteKeeps c g v s bodies xs w) (sym done.are) kept_of
