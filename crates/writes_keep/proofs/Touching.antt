-- What is put into a draft, block by block.
use Rattle.std.proofs.Common.{◌≡◌, subst, ℕ, zero, suc, ◌+◌, ◌/◌, ◌<◌, Bool, true, false, leb, List, [], ◌∷◌, length, Option, Some, None, refl, sym, inl, inr}
use Rattle.std.specs.List.{AllByRecursion}
use Rattle.std.proofs.lemmas.Bool.{cases_Bool, cases_lt, lt-ltb, le-ltb, leb-false, or_parts}
use Rattle.disk_model.specs.declared.block.Block.{Block}
use Rattle.disk_model.specs.declared.block.BlockKind.{BlockKind}
use Rattle.disk_model.specs.declared.block.BlockKind.TheVariants.{Plain, FileRec}
use Rattle.disk_model.specs.Bodies.{BodyOf}
use Rattle.disk_model.specs.Content.{Content}
use Rattle.disk_model.specs.Sectors.{same_block}
use Rattle.disk_model.proofs.Frames.{same_block-is}
use Rattle.fixup_record.specs.Spellings.{has_spelling}
use Rattle.record_model.specs.declared.runs.Run.{Run}
use Rattle.state_model.specs.declared.stream.Extents.{Extents}
use Rattle.state_model.specs.Streams.{block_at}
use Rattle.stream_laws.proofs.Placing.{lies}
use Rattle.plan_draft.specs.declared.touched.Touched.{Touched}
use Rattle.plan_draft.specs.Touching.{block_key, touch_again, touch}
use Rattle.names_stay.specs.draft_streams.Parts.{touch_part, touch_sectors, touch_bytes, offset_in, bytes_in, first_sector, sector_count}
use Rattle.names_stay.specs.draft_bits.Filling.{PutsBits, first_past}
use Rattle.names_stay.specs.draft_runs.Clusters.{PutsClusters, PutsRuns}
use Rattle.names_stay.specs.draft_records.Records.{record_block, is_past, has_mirror, touch_if, touch_record}
use Rattle.names_stay.specs.resized_streams.declared.resized.Resized.{Resized}
use Rattle.names_stay.specs.draft_resized.Resized.{resized_bytes, with_file, PutsResized}

-- where a body goes that is put, what holds where its block isn't fresh, and that it has a spelling
pub record IsWellPut (Goes Judged : Block → Type 0) (b : Block) (fresh : Bool) (bytes : List ℕ) : Type 0 where
  pub goes : Goes b
  pub begun : fresh ≡ false → Judged b
  pub spelled : has_spelling b.kind bytes ≡ true

module _ (Goes Judged : Block → Type 0) where
  abbrev pub IsWell : Touched → Type 0
  IsWell t = IsWellPut Goes Judged t.block t.fresh t.new

  again_well : (t : Touched) (b : Block) (fresh : Bool) (bytes : List ℕ) → same_block b t.block ≡ true → IsWell t → IsWellPut Goes Judged b fresh bytes → IsWell (touch_again t fresh bytes)
  again_well t b fresh bytes same old new = record {
    goes = old.goes;
    begun = λ is. old.begun (or_parts fresh t.fresh is).1;
    spelled = subst (λ (x : Block). has_spelling x.kind bytes ≡ true) (same_block-is b t.block same) new.spelled;
  }

  pub touch_well : (touched : List Touched) (b : Block) (fresh : Bool) (bytes : List ℕ) (old : BodyOf) → IsWellPut Goes Judged b fresh bytes → AllByRecursion IsWell touched → AllByRecursion IsWell (touch b fresh bytes old touched)
  touch_well [] b fresh bytes old new all = (new, tt)
  touch_well (t ∷ touched) b fresh bytes old new all =
      let rest : AllByRecursion IsWell (touch b fresh bytes old touched) = touch_well touched b fresh bytes old new all.1 in
      elim (cases_lt (block_key t.block) (block_key b)) [
        | inl less ↦ rw (lt-ltb (block_key t.block) (block_key b) less) (all.0, rest)
        | inr ge ↦ rw (le-ltb (block_key t.block) (block_key b) ge) (elim (cases_Bool (same_block b t.block)) [
          | inl same ↦ rw same (again_well t b fresh bytes same all.0 new, all.1)
          | inr other ↦ rw other (new, all)
        ])
      ]

  -- ---- sectors

  -- where the sectors of these runs go, and what holds of those before the first fresh one
  abbrev pub AreSectors : List Run → ℕ → Type 0
  AreSectors runs fresh = (s : ℕ) (b : Block) → block_at 8 runs Plain s ≡ Some b → Goes b × (s < fresh → Judged b)

  part_well : (c : Content) (o : Option Block) (fresh : Bool) (offset : ℕ) (bytes : List ℕ) (touched : List Touched) → ((b : Block) (x : List ℕ) → o ≡ Some b → IsWellPut Goes Judged b fresh x) → AllByRecursion IsWell touched → AllByRecursion IsWell (touch_part c o fresh offset bytes touched)
  part_well c None fresh offset bytes touched each all = all
  part_well c (Some b) fresh offset bytes touched each all = touch_well touched b fresh _ (c b) (each b _ refl) all

  plain_spelled : (kind : BlockKind) (x : List ℕ) → Plain ≡ kind → has_spelling kind x ≡ true
  unfolding has_spelling
  plain_spelled kind x is = subst (λ (k : BlockKind). has_spelling k x ≡ true) is refl

  sectors_well : (c : Content) (runs : List Run) (fresh at : ℕ) (bytes : List ℕ) (first n : ℕ) (touched : List Touched) → AreSectors runs fresh → AllByRecursion IsWell touched → AllByRecursion IsWell (touch_sectors c 8 runs fresh at bytes first n touched)
  unfolding touch_sectors
  sectors_well c runs fresh at bytes first zero touched are all = all
  sectors_well c runs fresh at bytes first (suc n) touched are all =
      part_well c (block_at 8 runs Plain (first + n)) (leb fresh (first + n)) (offset_in at (first + n)) (bytes_in at (first + n) bytes) (touch_sectors c 8 runs fresh at bytes first n touched)
      (λ b x is. record { goes = (are (first + n) b is).0; begun = λ before. (are (first + n) b is).1 (leb-false fresh (first + n) before); spelled = plain_spelled b.kind x (lies 8 runs Plain (first + n) b is).kind_is })
      (sectors_well c runs fresh at bytes first n touched are all)

  pub bytes_well : (c : Content) (runs : List Run) (fresh at : ℕ) (bytes : List ℕ) (touched : List Touched) → AreSectors runs fresh → AllByRecursion IsWell touched → AllByRecursion IsWell (touch_bytes c 8 runs fresh at bytes touched)
  bytes_well c runs fresh at bytes touched are all = sectors_well c runs fresh at bytes (first_sector at) (sector_count at (length bytes)) touched are all

  -- ---- records

  if_well : (c : Content) (o : Option Block) (fresh : Bool) (bytes : List ℕ) (touched : List Touched) → ((b : Block) → o ≡ Some b → IsWellPut Goes Judged b fresh bytes) → AllByRecursion IsWell touched → AllByRecursion IsWell (touch_if c o fresh bytes touched)
  if_well c None fresh bytes touched each all = all
  if_well c (Some b) fresh bytes touched each all = touch_well touched b fresh bytes (c b) (each b refl) all

  -- where its record goes, which the mirror hasn't, and what holds where it isn't past the end
  pub record IsRecord (table mirror : Extents) (n : ℕ) : Type 0 where
    pub alone : has_mirror mirror n ≡ false
    pub goes : (b : Block) → record_block 8 table n ≡ Some b → Goes b
    pub begun : (b : Block) → record_block 8 table n ≡ Some b → is_past table n ≡ false → Judged b

  pub record_well : (c : Content) (table mirror : Extents) (n : ℕ) (bytes : List ℕ) (touched : List Touched) → IsRecord table mirror n → has_spelling FileRec bytes ≡ true → AllByRecursion IsWell touched → AllByRecursion IsWell (touch_record c 8 table mirror n bytes touched)
  record_well c table mirror n bytes touched is spelled all =
      rw is.alone
      (if_well c (record_block 8 table n) (is_past table n) bytes touched
      (λ b at. record { goes = is.goes b at; begun = is.begun b at; spelled = subst (λ (k : BlockKind). has_spelling k bytes ≡ true) (lies 8 table.runs FileRec n b at).kind_is spelled }) all)

  -- ---- bits

  pub bits_well : (c : Content) (bitmap : Extents) (first len : ℕ) (value : Bool) (old new : List Touched) → AreSectors bitmap.runs (first_past bitmap) → PutsBits c 8 bitmap first len value old new → AllByRecursion IsWell old → AllByRecursion IsWell new
  bits_well c bitmap first len value old new are put all = subst (AllByRecursion IsWell) (sym put.1.1) (bytes_well c bitmap.runs (first_past bitmap) (first / 8) put.0 old are all)

  clusters_well : (c : Content) (bitmap : Extents) (value : Bool) (o : Option ℕ) (len : ℕ) (old new : List Touched) → AreSectors bitmap.runs (first_past bitmap) → PutsClusters c 8 bitmap value o len old new → AllByRecursion IsWell old → AllByRecursion IsWell new
  clusters_well c bitmap value None len old new are put all = subst (AllByRecursion IsWell) (sym put) all
  clusters_well c bitmap value (Some first) len old new are put all = bits_well c bitmap first len value old new are put all

  runs_well : (c : Content) (bitmap : Extents) (value : Bool) (runs : List Run) (old new : List Touched) → AreSectors bitmap.runs (first_past bitmap) → PutsRuns c 8 bitmap value runs old new → AllByRecursion IsWell old → AllByRecursion IsWell new
  unfolding PutsRuns
  runs_well c bitmap value [] old new are put all = subst (AllByRecursion IsWell) (sym put) all
  runs_well c bitmap value (r ∷ runs) old new are put all = runs_well c bitmap value runs put.0 new are put.1.1 (clusters_well c bitmap value r.lcn r.len old put.0 are put.1.0 all)

  -- ---- a file with its clusters

  pub resized_well : (c : Content) (bitmap table mirror : Extents) (n : ℕ) (z : Resized) (old new : List Touched) → AreSectors bitmap.runs (first_past bitmap) → IsRecord table mirror n → has_spelling FileRec (resized_bytes z) ≡ true → PutsResized c 8 bitmap table mirror n z old new
      → AllByRecursion IsWell old → AllByRecursion IsWell new
  resized_well c bitmap table mirror n z old new are is spelled put all =
      runs_well c bitmap false z.freed.items put.0 new are put.1.1 (runs_well c bitmap true z.taken.items (with_file c 8 table mirror n z old) put.0 are put.1.0 (record_well c table mirror n (resized_bytes z) old is spelled all))
