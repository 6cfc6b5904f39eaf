-- Where the bodies go that come of a file's data, whatever comes of it.
use Rattle.std.proofs.Common.{◌≡◌, subst, ℕ, zero, suc, ◌+◌, ◌/◌, Bool, true, false, leb, List, [], ◌∷◌, length, Option, Some, None, refl, sym, ap, ◌∙◌, inl, inr}
use Rattle.std.specs.Prelude.{◌⊎◌}
use Rattle.std.specs.List.{AllByRecursion}
use Rattle.std.proofs.lemmas.Bool.{cases_Bool, cases_lt, lt-ltb, le-ltb}
use Rattle.disk_model.specs.declared.block.Block.{Block}
use Rattle.disk_model.specs.declared.block.BlockKind.TheVariants.{Plain}
use Rattle.disk_model.specs.Bodies.{BodyOf}
use Rattle.disk_model.specs.Content.{Content}
use Rattle.disk_model.specs.Sectors.{same_block}
use Rattle.record_model.specs.declared.runs.Run.{Run}
use Rattle.record_model.specs.Records.{Record}
use Rattle.file_tree.specs.declared.node.Node.{Node}
use Rattle.state_model.specs.declared.stream.Extents.{Extents}
use Rattle.state_model.specs.declared.stream.Stream.TheVariants.{Placed}
use Rattle.state_model.specs.Streams.{block_at}
use Rattle.tree_model.specs.declared.script.Op.{Op}
use Rattle.tree_model.specs.Needs.{shrinks}
use Rattle.plan_bodies.specs.Bodies.{NewBody}
use Rattle.plan_draft.specs.declared.touched.Touched.{Touched}
use Rattle.plan_draft.specs.Touching.{block_key, bodies_of, touch}
use Rattle.written_values.specs.draft_streams.Parts.{touch_part, touch_sectors, touch_bytes, offset_in, bytes_in, first_sector, sector_count}
use Rattle.written_values.specs.draft_bits.Filling.{first_past}
use Rattle.written_values.specs.draft_runs.Clusters.{PutsClusters, PutsRuns}
use Rattle.written_values.specs.draft_records.Records.{record_block, is_past, has_mirror, touch_if, touch_record}
use Rattle.written_values.specs.resized_streams.declared.resized.Resized.{Resized}
use Rattle.written_values.specs.draft_resized.Resized.{resized_bytes, with_file, PutsResized}
use Rattle.written_values.specs.draft_resized.Moved.{PutsMoved}
use Rattle.written_values.specs.step_model.Placing.{Growth, runs_after}
use Rattle.made_data.specs.data_plan.declared.change.DataChange.{DataChange}
use Rattle.made_data.specs.data_plan.declared.change.DataChange.TheVariants as change
use Rattle.made_data.specs.data_plan.Changes.{IsChange}
use Rattle.written_values.specs.file_puts.declared.streams.VolumeStreams.{VolumeStreams}
use Rattle.written_values.specs.file_puts.Puts.{PutsFileRecord, PutsSizes, PutsSized, PutsChange}

-- a block of the file's record, of the bitmap, or of the file's data in these runs
abbrev pub GoesTo : VolumeStreams → ℕ → List Run → Block → Type 0
GoesTo s n runs b = (record_block 8 s.table n ≡ Some b) ⊎ (((k : ℕ) × (block_at 8 s.bitmap.runs Plain k ≡ Some b)) ⊎ ((k : ℕ) × (block_at 8 runs Plain k ≡ Some b)))

module _ (Goes : Block → Type 0) where
  abbrev pub AllGo : List Touched → Type 0
  AllGo touched = AllByRecursion (λ (t : Touched). Goes t.block) touched

  pub bodies_go : (touched : List Touched) → AllGo touched → AllByRecursion (λ (p : NewBody). Goes p.block) (bodies_of touched)
  bodies_go [] all = tt
  bodies_go (t ∷ touched) all = (all.0, bodies_go touched all.1)

  touch_goes : (touched : List Touched) (b : Block) (fresh : Bool) (bytes : List ℕ) (old : BodyOf) → Goes b → AllGo touched → AllGo (touch b fresh bytes old touched)
  touch_goes [] b fresh bytes old new all = (new, tt)
  touch_goes (t ∷ touched) b fresh bytes old new all =
      let rest : AllGo (touch b fresh bytes old touched) = touch_goes touched b fresh bytes old new all.1 in
      elim (cases_lt (block_key t.block) (block_key b)) [
        | inl less ↦ rw (lt-ltb (block_key t.block) (block_key b) less) (all.0, rest)
        | inr ge ↦ rw (le-ltb (block_key t.block) (block_key b) ge) (elim (cases_Bool (same_block b t.block)) [
          | inl same ↦ rw same (all.0, all.1)
          | inr other ↦ rw other (new, all)
        ])
      ]

  -- ---- sectors

  -- the sectors of these runs go there
  abbrev pub SectorsGo : List Run → Type 0
  SectorsGo runs = (s : ℕ) (b : Block) → block_at 8 runs Plain s ≡ Some b → Goes b

  part_goes : (c : Content) (o : Option Block) (fresh : Bool) (offset : ℕ) (bytes : List ℕ) (touched : List Touched) → ((b : Block) → o ≡ Some b → Goes b) → AllGo touched → AllGo (touch_part c o fresh offset bytes touched)
  part_goes c None fresh offset bytes touched each all = all
  part_goes c (Some b) fresh offset bytes touched each all = touch_goes touched b fresh _ (c b) (each b refl) all

  sectors_go : (c : Content) (runs : List Run) (fresh at : ℕ) (bytes : List ℕ) (first n : ℕ) (touched : List Touched) → SectorsGo runs → AllGo touched → AllGo (touch_sectors c 8 runs fresh at bytes first n touched)
  unfolding touch_sectors
  sectors_go c runs fresh at bytes first zero touched each all = all
  sectors_go c runs fresh at bytes first (suc n) touched each all =
      part_goes c (block_at 8 runs Plain (first + n)) (leb fresh (first + n)) (offset_in at (first + n)) (bytes_in at (first + n) bytes) (touch_sectors c 8 runs fresh at bytes first n touched) (each (first + n)) (sectors_go c runs fresh at bytes first n touched each all)

  bytes_go : (c : Content) (runs : List Run) (fresh at : ℕ) (bytes : List ℕ) (touched : List Touched) → SectorsGo runs → AllGo touched → AllGo (touch_bytes c 8 runs fresh at bytes touched)
  bytes_go c runs fresh at bytes touched each all = sectors_go c runs fresh at bytes (first_sector at) (sector_count at (length bytes)) touched each all

  -- ---- bits

  clusters_go : (c : Content) (bitmap : Extents) (value : Bool) (o : Option ℕ) (len : ℕ) (old new : List Touched) → SectorsGo bitmap.runs → PutsClusters c 8 bitmap value o len old new → AllGo old → AllGo new
  clusters_go c bitmap value None len old new each put all = subst AllGo (sym put) all
  clusters_go c bitmap value (Some first) len old new each put all = subst AllGo (sym put.1.1) (bytes_go c bitmap.runs (first_past bitmap) (first / 8) put.0 old each all)

  runs_go : (c : Content) (bitmap : Extents) (value : Bool) (runs : List Run) (old new : List Touched) → SectorsGo bitmap.runs → PutsRuns c 8 bitmap value runs old new → AllGo old → AllGo new
  unfolding PutsRuns
  runs_go c bitmap value [] old new each put all = subst AllGo (sym put) all
  runs_go c bitmap value (r ∷ runs) old new each put all = runs_go c bitmap value runs put.0 new each put.1.1 (clusters_go c bitmap value r.lcn r.len old put.0 each put.1.0 all)

  -- ---- records

  if_goes : (c : Content) (o : Option Block) (fresh : Bool) (bytes : List ℕ) (touched : List Touched) → ((b : Block) → o ≡ Some b → Goes b) → AllGo touched → AllGo (touch_if c o fresh bytes touched)
  if_goes c None fresh bytes touched each all = all
  if_goes c (Some b) fresh bytes touched each all = touch_goes touched b fresh bytes (c b) (each b refl) all

  record_goes : (c : Content) (table mirror : Extents) (n : ℕ) (bytes : List ℕ) (touched : List Touched) → has_mirror mirror n ≡ false → ((b : Block) → record_block 8 table n ≡ Some b → Goes b) → AllGo touched → AllGo (touch_record c 8 table mirror n bytes touched)
  record_goes c table mirror n bytes touched alone each all = rw alone (if_goes c (record_block 8 table n) (is_past table n) bytes touched each all)

module _ (s : VolumeStreams) (n : ℕ) (runs_now : List Run) (alone : has_mirror s.mirror n ≡ false) (c : Content) where
  abbrev Here : Block → Type 0
  Here = GoesTo s n runs_now

  its : (b : Block) → record_block 8 s.table n ≡ Some b → GoesTo s n runs_now b
  its b at = inl at

  bits : (k : ℕ) (b : Block) → block_at 8 s.bitmap.runs Plain k ≡ Some b → GoesTo s n runs_now b
  bits k b at = inr (inl (k, at))

  there : (runs : List Run) → runs ≡ runs_now → (k : ℕ) (b : Block) → block_at 8 runs Plain k ≡ Some b → GoesTo s n runs_now b
  there runs is k b at = inr (inr (k, sym (ap (λ (l : List Run). block_at 8 l Plain k) is) ∙ at))

  file_goes : (p : Record) (old new : List Touched) → PutsFileRecord c s n p old new → AllGo Here old → AllGo Here new
  file_goes p old new put all = subst (AllGo Here) (sym put.put) (record_goes Here c s.table s.mirror n _ old alone its all)

  resized_goes : (z : Resized) (old new : List Touched) → PutsResized c 8 s.bitmap s.table s.mirror n z old new → AllGo Here old → AllGo Here new
  resized_goes z old new put all =
      runs_go Here c s.bitmap false z.freed.items put.0 new bits put.1.1
      (runs_go Here c s.bitmap true z.taken.items (with_file c 8 s.table s.mirror n z old) put.0 bits put.1.0 (record_goes Here c s.table s.mirror n (resized_bytes z) old alone its all))

  moved_goes : (z : Resized) (value : List ℕ) (old new : List Touched) → z.extents.runs ≡ runs_now → PutsMoved c 8 s.bitmap s.table s.mirror n z value old new → AllGo Here old → AllGo Here new
  moved_goes z value old new is put all = subst (AllGo Here) (sym put.1.1) (bytes_go Here c z.extents.runs 0 0 value put.0 (there z.extents.runs is) (resized_goes z old put.0 put.1.0 all))

  module _ (op : Op) (a : Node) (stamp : ℕ) (r : Record) (g : Growth) (after : runs_now ≡ runs_after g) where
    sizes_go : (e : Extents) (q : Record) (old new : List Touched) → e.runs ≡ runs_now → PutsSizes c s n op a stamp e q old new → AllGo Here old → AllGo Here new
    sizes_go e q old new is put all =
        let runs : put.z.extents.runs ≡ runs_now = ap (λ (x : Extents). x.runs) put.sized.extents ∙ is in
        file_goes _ put.far new put.times (subst (AllGo Here) (sym put.bytes) (bytes_go Here c put.z.extents.runs _ _ _ put.mid (there put.z.extents.runs runs) (file_goes put.z.file old put.mid put.file all)))

    sized_goes : (t : Bool) (z : Resized) → IsChange g r op a (change.Sized z) → (old new : List Touched) → PutsSized t c s n op a stamp r z old new → AllGo Here old → AllGo Here new
    sized_goes true z is old new put all = file_goes _ put.mid new put.times (file_goes z.file old put.mid put.file all)
    sized_goes false z is old new put all =
        let same : is.e ≡ put.e = one is.e put.e (sym is.placed ∙ put.placed) in
        let runs : put.e.runs ≡ runs_now = sym (ap (λ (x : Extents). x.runs) same) ∙ sym (ap (λ (x : Extents). x.runs) is.sized.extents) ∙ is.takes.runs ∙ sym after in
        sizes_go put.e r old new runs put.sizes all
      where
        one : (x y : Extents) → Some (Placed x) ≡ Some (Placed y) → x ≡ y
        one x y e = cc

    pub change_goes : (x : DataChange) → IsChange g r op a x → (old new : List Touched) → PutsChange c s n op a stamp r x old new → AllGo Here old → AllGo Here new
    change_goes (change.Stays size) is old new put all = file_goes _ old new put.put all
    change_goes (change.Leaves z) is old new put all = file_goes _ put.mid new put.times (moved_goes z _ old put.mid (is.takes.runs ∙ sym after) put.moved.put all)
    change_goes (change.Grows z) is old new put all = sizes_go z.extents _ put.mid new (is.takes.runs ∙ sym after) put.sizes (resized_goes z old put.mid put.grown.put all)
    change_goes (change.Cut z) is old new put all = file_goes _ put.mid new put.times (resized_goes z old put.mid put.cut.put all)
    change_goes (change.Sized z) is old new put all = sized_goes (shrinks op a) z is old new put all
