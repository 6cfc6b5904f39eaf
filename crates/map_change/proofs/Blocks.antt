-- Blocks that changes leave.
use Rattle.std.proofs.Common.{◌≡◌, ℕ, ◌+◌, ◌-◌, ◌*◌, ◌/◌, ◌<◌, Bool, true, false, cond, ltb, List, [], ◌∷◌, Option, Some, None, refl, sym, ap, ◌∙◌, arith}
use Rattle.std.specs.List.{list_any, filter_map, flat_map}
use Rattle.std.proofs.lemmas.Bool.{or_parts, both_ways, false_from_ne_true, lt-ltb, eq-eqb}
use Rattle.std.proofs.lemmas.List.Folds.{list_any-append}
use Rattle.disk_model.specs.declared.block.Block.{Block}
use Rattle.disk_model.specs.declared.block.Change.{Change}
use Rattle.disk_model.specs.declared.block.BlockKind.{BlockKind}
use Rattle.disk_model.specs.declared.block.BlockKind.TheVariants.{Plain, FileRec, Index}
use Rattle.disk_model.specs.Sectors.{sectors, same_block, same_kind}
use Rattle.disk_model.proofs.Frames.{same_block-is}
use Rattle.volume_map.specs.record_model.declared.runs.Run.{Run}
use Rattle.volume_map.specs.state_model.Streams.{block_at}
use Rattle.volume_map.specs.volume_model.Owners.{covers}
use Rattle.volume_map.specs.block_view.Changes.{writes_of}
use Rattle.stream_laws.specs.Changes.{AreElsewhere}
use Rattle.stream_laws.proofs.Changing.{has_sectors}
use Rattle.stream_laws.proofs.Placing.{Lies, lies, lies_straight, lies_in_cluster}
use Rattle.map_change.specs.Touching.{number_by, number_at, numbers_of, touched_numbers, is_number}
use Rattle.map_change.proofs.Lists.{any_mapped}

-- a block of a stream lies in a cluster of its runs
first_covered : (per : ℕ) (runs : List Run) (kind : BlockKind) (n : ℕ) (b : Block) (l : Lies per runs kind n b) → 0 < per → covers (b.first / per) l.run ≡ true
first_covered per runs kind n b l some =
    let size = has_sectors b.kind in
    lies_in_cluster per runs kind n b l b.first some (omega arith) (omega (arith, size))

-- the place of a block by its run
numbered_by : (kind : BlockKind) (per count first vcn lcn m : ℕ) (o : Option ℕ) → o ≡ Some lcn → first + vcn * per ≡ lcn * per + sectors kind * m → m < count → number_by (sectors kind) per count first vcn o ≡ Some m
numbered_by kind per count first vcn lcn m None is place below = absurd cc
numbered_by kind per count first vcn lcn m (Some k) is place below =
    let same : k ≡ lcn = cc in
    let lcns : k * per ≡ lcn * per = ap (λ (x : ℕ). x * per) same in
    let all : vcn * per + first - k * per ≡ sectors kind * m = omega (arith, place, lcns) in
    let part : (vcn * per + first - k * per) / sectors kind ≡ m = ap (λ (x : ℕ). x / sectors kind) all ∙ parted kind m in
    ap (λ (x : ℕ). cond (ltb x count) (Some x) None) part ∙ ap (λ (t : Bool). cond t (Some m) None) (lt-ltb m count below)
  where
    parted : (kind : BlockKind) (m : ℕ) → sectors kind * m / sectors kind ≡ m
    parted Plain m = omega arith
    parted FileRec m = omega arith
    parted Index m = omega arith

numbered : (kind : BlockKind) (per count : ℕ) (runs : List Run) (m : ℕ) (b : Block) (l : Lies per runs kind m b) → 0 < per → m < count → number_at per count b l.run ≡ Some m
unfolding number_at
numbered kind per count runs m b l some below =
    ap (λ (t : Bool). cond t (number_by (sectors b.kind) per count b.first l.run.vcn l.run.lcn) None) (first_covered per runs kind m b l some)
    ∙ ap (λ (k : BlockKind). number_by (sectors k) per count b.first l.run.vcn l.run.lcn) (sym l.kind_is)
    ∙ numbered_by kind per count b.first l.run.vcn l.lcn m l.run.lcn l.placed (lies_straight per runs kind m b l) below

same_kind_itself : (k : BlockKind) → same_kind k k ≡ true
same_kind_itself Plain = refl
same_kind_itself FileRec = refl
same_kind_itself Index = refl

-- a change of a stream's block has its place
has_its_number : (kind : BlockKind) (per count : ℕ) (runs : List Run) (m : ℕ) (b : Block) (x : Change) → 0 < per → m < count → block_at per runs kind m ≡ Some b → b ≡ x.block → list_any (is_number m) (numbers_of kind per count runs x) ≡ true
unfolding numbers_of
has_its_number kind per count runs m b x some below at is =
    let l = lies per runs kind m b at in
    ap (λ (y : Block). list_any (is_number m) (cond (same_kind y.kind kind) (filter_map (number_at per count y) runs) [])) (sym is)
    ∙ ap (λ (k : BlockKind). list_any (is_number m) (cond (same_kind k kind) (filter_map (number_at per count b) runs) [])) (sym l.kind_is)
    ∙ ap (λ (t : Bool). list_any (is_number m) (cond t (filter_map (number_at per count b) runs) [])) (same_kind_itself kind)
    ∙ any_mapped _ (number_at per count b) (is_number m) runs l.run m l.found (numbered kind per count runs m b l some below) (eq-eqb m m refl)

-- changes that aren't of a place leave the block there
pub leaves_block : (kind : BlockKind) (per count : ℕ) (runs : List Run) (m : ℕ) (b : Block) (changes : List Change) → 0 < per → m < count → block_at per runs kind m ≡ Some b → list_any (is_number m) (touched_numbers kind per count runs changes) ≡ false
    → AreElsewhere (writes_of changes) b
unfolding touched_numbers
leaves_block kind per count runs m b [] some below at none = tt
leaves_block kind per count runs m b (x ∷ xs) some below at none =
    let parts = or_parts _ _ (sym (list_any-append (is_number m) (numbers_of kind per count runs x) (flat_map (numbers_of kind per count runs) xs)) ∙ none) in (
      false_from_ne_true (same_block b x.block) (λ same. both_ways _ parts.0 (has_its_number kind per count runs m b x some below at (same_block-is b x.block same))),
      leaves_block kind per count runs m b xs some below at parts.1,
    )
