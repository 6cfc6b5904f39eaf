-- What a draft's call has put of an index that grows is what a file may be made behind.
use Rattle.std.proofs.Common.{◌≡◌, ◌⊎◌, inl, inr, ℕ, zero, suc, ◌+◌, ◌-◌, ◌*◌, ◌/◌, ◌<◌, ◌≤◌, Bool, true, false, not, ◌&&◌, cond, eqb, List, [], ◌++◌, length, Option, Some, None, refl, sym, ap, subst, ◌∙◌, arith}
use Rattle.std.specs.List.{AllByRecursion}
use Rattle.std.proofs.lemmas.Bool.{cases_eq, and_right}
use Rattle.disk_model.specs.declared.block.Block.{Block}
use Rattle.disk_model.specs.declared.block.BlockKind.TheVariants.{Index}
use Rattle.disk_model.specs.Bytes.{zeros}
use Rattle.disk_model.specs.Content.{Content, is_signed}
use Rattle.disk_model.specs.Sectors.{same_block}
use Rattle.record_model.specs.declared.runs.Run.{Run}
use Rattle.record_model.specs.Records.{Record}
use Rattle.index_model.specs.Indexes.{is_index_body}
use Rattle.state_model.specs.declared.geometry.Geometry.{Geometry}
use Rattle.state_model.specs.declared.stream.Extents.{Extents}
use Rattle.state_model.specs.Loads.{total_clusters}
use Rattle.state_model.specs.Streams.{block_at}
use Rattle.volume_model.specs.Volumes.{Volume, cluster_bits}
use Rattle.plan_owners.specs.States.{Stands}
use Rattle.plan_bodies.specs.Bodies.{body_in}
use Rattle.plan_bodies.proofs.Putting.{block_itself}
use Rattle.plan_draft.specs.declared.touched.Touched.{Touched}
use Rattle.plan_draft.specs.Touching.{bodies_of}
use Rattle.plan_draft.specs.Drafts.{drafted}
use Rattle.draft_bits.specs.Effects.{IsKept}
use Rattle.draft_bits.proofs.BitEffects.{drafted_body}
use Rattle.space_model.specs.Choosing.{chosen, with_runs}
use Rattle.stream_runs.specs.Runs.{last_cluster}
use Rattle.draft_records.specs.Records.{touch_if, written_record}
use Rattle.resized_streams.specs.declared.resized.Resized.{Resized}
use Rattle.resized_streams.specs.Resizing.{lengthened, with_sizes}
use Rattle.resized_streams.proofs.Chosen.{total_chosen}
use Rattle.draft_indexes.specs.declared.blocks.IndexBlocks.{IndexBlocks}
use Rattle.draft_indexes.specs.Growing.{blocks_in, size_with, wanted_clusters, with_blocks}
use Rattle.plan_blocks.specs.Blocks.{blocks_before, blocks_behind}
use Rattle.plan_blocks.specs.Drafted.{IsBegunBlock}
use Rattle.index_edits.specs.Grown.{GrowsOfVolume, index_runs}
use Rattle.index_edits.proofs.Grown.{grown_is}
use Rattle.made_trees.proofs.made_files.Nodes.{after_touch}
use Rattle.made_trees.proofs.Nothing.{none_grown, index_stays}
use Rattle.made_trees.specs.step_model.Placing.{Growth, taken_runs}
use Rattle.made_trees.specs.Grown.{IsOfTable, KeepsIndex, HasGrownBefore}
use Rattle.made_trees.specs.plan_model.Informed.{with_record}
use Rattle.grown_indexes.specs.First.{growths_by}
use Rattle.grown_indexes.specs.Next.{GrowsNext}
use Rattle.grown_indexes.specs.Put.{PutGrowsFirst, PutGrowsNext}
use Rattle.grown_indexes.proofs.First.{no_runs}
use Rattle.grown_indexes.proofs.Next.{grows_next}

-- ---- blocks that are put as zeros

put_there : (c : Content) (o : Option Block) (body : List ℕ) (old : List Touched) (b : Block) → (o ≡ Some b) ⊎ (body_in (bodies_of old) b ≡ Some body) → body_in (bodies_of (touch_if c o true body old)) b ≡ Some body
put_there c None body old b (inl is) = absurd cc
put_there c None body old b (inr here) = here
put_there c (Some a) body old b (inl is) = after_touch old a b true body (c a) ∙ ap (λ (t : Bool). cond t (Some body) (body_in (bodies_of old) b)) (ap (same_block b) (let same : a ≡ b = cc in same) ∙ block_itself b)
put_there c (Some a) body old b (inr here) = after_touch old a b true body (c a) ∙ either (same_block b a)
  where
    either : (t : Bool) → cond t (Some body) (body_in (bodies_of old) b) ≡ Some body
    either true = refl
    either false = here

all_put : (c : Content) (per : ℕ) (e : Extents) (body : List ℕ) (first n : ℕ) (old : List Touched) (m : ℕ) (b : Block) → block_at per e.runs Index m ≡ Some b → first ≤ m → m < first + n → body_in (bodies_of (with_blocks c per e body first n old)) b ≡ Some body
unfolding with_blocks
all_put c per e body first zero old m b lies low high = absurd (omega (arith, low, high))
all_put c per e body first (suc n) old m b lies low high =
    let before : List Touched = with_blocks c per e body first n old in
    put_there c (block_at per e.runs Index (first + n)) body before b
    (elim (cases_eq m (first + n)) [
      | inl is ↦ inl (sym (ap (block_at per e.runs Index) is) ∙ lies)
      | inr other ↦ inr (all_put c per e body first n old m b lies low (omega (arith, low, high, other)))
    ])

unsigned : is_signed Index (zeros 4096) ≡ false
unfolding zeros
unsigned = refl

no_index : (bytes : List ℕ) (torn : Bool) → bytes ≡ zeros 4096 → (eqb (length bytes) 4096 && not torn && is_signed Index bytes) ≡ false
no_index bytes torn is = and_right (eqb (length bytes) 4096 && not torn) (is_signed Index bytes) (ap (is_signed Index) is ∙ unsigned)

module _ (c : Content) (g : Geometry) (clusters : ℕ) (v : Volume) (growths : List Growth) (u : Volume) (grown : List Touched) (bitmap mirror : Extents) (r : Record) (i : IndexBlocks) (more : ℕ) (new : List Touched) (z : Resized) (eight : g.per_cluster ≡ 8) (state : Stands c g clusters v)
    (b : HasGrownBefore c g clusters v i.number r growths u r grown) (stays : KeepsIndex c v r (drafted grown c) u r) (table : AllByRecursion IsOfTable growths)
    (k : GrowsOfVolume c u (with_runs (taken_runs growths) (cluster_bits c v)) bitmap mirror r i more grown new z) (some : 0 < wanted_clusters u.per more i.extents) (whole : i.extents.real ≡ 4096 * (i.extents.real / 4096)) where
  abbrev bits : List Bool
  bits = with_runs (taken_runs growths) (cluster_bits c v)

  abbrev e : Extents
  e = i.extents

  abbrev wanted : ℕ
  wanted = wanted_clusters u.per more i.extents

  abbrev runs : List Run
  runs = index_runs u.per (with_runs (taken_runs growths) (cluster_bits c v)) more i

  abbrev size : ℕ
  size = size_with more i.extents

  abbrev q : Record
  q = written_record z.file

  before : blocks_before r ≡ e
  before = k.streams.before

  count : total_clusters runs ≡ wanted
  count = total_chosen bits (last_cluster e.runs) wanted k.space

  extents_are : z.extents ≡ blocks_behind u.per r runs size size
  extents_are = k.grows.longer.extents ∙ ap (λ (x : Extents). with_sizes size size (lengthened u.per runs x)) (sym before)

  state_grown : Stands (drafted grown c) g clusters u
  state_grown = subst (λ (y : Content). Stands y g clusters u) b.content b.draft.stands

  kept : IsKept new
  kept = (grown_is c g clusters u bits bitmap mirror r i more grown new z eight state_grown k).0

  empty : (y : Block) → IsBegunBlock u r (blocks_behind u.per r runs size size) y → is_index_body (drafted new c y) ≡ false
  empty y is =
      let past : e.initialised ≤ 4096 * is.0 = subst (λ (x : Extents). x.initialised ≤ 4096 * is.0) before is.1.1 in
      let low : 4096 * is.0 < size = is.1.2 in
      let lies : block_at u.per z.extents.runs Index is.0 ≡ Some y = ap (λ (x : Extents). block_at u.per x.runs Index is.0) extents_are ∙ is.1.0 in
      let first : ℕ = blocks_in e.initialised in
      let put : body_in (bodies_of (with_blocks c u.per z.extents (zeros 4096) first (blocks_in size - first) k.grows.put.0)) y ≡ Some (zeros 4096) = all_put c u.per z.extents (zeros 4096) first (blocks_in size - first) k.grows.put.0 is.0 y lies (omega (arith, past)) (omega (arith, past, low)) in
      let there : body_in (bodies_of new) y ≡ Some (zeros 4096) = ap (λ (l : List Touched). body_in (bodies_of l) y) k.grows.put.1.1 ∙ put in
      no_index (drafted new c y).bytes (drafted new c y).torn (drafted_body c new y (zeros 4096) k.sized kept there)

  pub put_next : HasGrownBefore c g clusters v i.number r (growths ++ growths_by i.number r runs) (with_record u i.number q) q new × KeepsIndex c v r (drafted new c) (with_record u i.number q) q
  put_next =
      let is = grown_is c g clusters u bits bitmap mirror r i more grown new z eight state_grown k in
      let next : GrowsNext c g clusters v i.number r growths u grown runs size q is.1.0 new = record {
        before = b;
        index = stays;
        table = table;
        kept = is.0;
        edits = is.1.1.0;
        grows = is.1.1.1;
        some = (let all = count in omega (arith, all, some));
        are_chosen = ap (λ (x : Extents). chosen bits (last_cluster x.runs) wanted) (sym before) ∙ ap (chosen bits (last_cluster (blocks_before r).runs)) (sym count);
        no_place = k.streams.no_place;
        whole = subst (λ (x : Extents). x.real ≡ 4096 * (x.real / 4096)) (sym before) whole;
        empty = empty;
      }
      in
      grows_next c g clusters v i.number r growths u grown runs size q is.1.0 new k.sized eight (let same = k.count in let few = k.stands.clusters_few in omega (arith, same, few)) state next

pub put_grows_next : PutGrowsNext
put_grows_next c g clusters v growths u grown bitmap mirror r i more new z eight state b stays table k some whole = put_next c g clusters v growths u grown bitmap mirror r i more new z eight state b stays table k some whole

pub put_grows_first : PutGrowsFirst
put_grows_first c g clusters v bitmap mirror r i more new z eight state k some whole =
    let none : HasGrownBefore c g clusters v i.number r [] v r [] = none_grown c g clusters v i.number r [] k.sized state (record { file = k.file; apart = k.apart; no_list = k.no_list }) tt tt in
    subst
    (λ (l : List Bool). GrowsOfVolume c v l bitmap mirror r i more [] new z
    → HasGrownBefore c g clusters v i.number r (growths_by i.number r (index_runs v.per l more i)) (with_record v i.number (written_record z.file)) (written_record z.file) new × KeepsIndex c v r (drafted new c) (with_record v i.number (written_record z.file)) (written_record z.file))
    (no_runs (cluster_bits c v)) (λ grows. put_next c g clusters v [] v [] bitmap mirror r i more new z eight state none (index_stays c v r k.sized) tt grows some whole) k
