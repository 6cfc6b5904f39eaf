-- The blocks by which the log is found, in what a store reads and in what a crash leaves.
use Rattle.std.proofs.Common.{◌≡◌, subst, ℕ, Bool, true, false, ◌||◌, List, [], ◌∷◌, Option, Some, None, refl, sym, ap, ◌∙◌, inl, inr, arith}
use Rattle.std.specs.Prelude.{◌⊎◌, IfSome, Contains, is_some, unwrap_or}
use Rattle.std.specs.List.{list_any, range_with_len}
use Rattle.disk_model.specs.declared.block.Block.{Block}
use Rattle.disk_model.specs.declared.block.Body.{Body}
use Rattle.disk_model.specs.Sectors.{sectors, sector_of, same_block}
use Rattle.disk_model.specs.Content.{content_of}
use Rattle.disk_model.proofs.Frames.{same_block-is}
use Rattle.sector_device.specs.Disks.{Disk, MayLeave, SeesDisk, newest, seen, is_within}
use Rattle.sector_device.specs.Moments.{Changes}
use Rattle.sector_device.specs.KeptLaws.{none_in}
use Rattle.member_states.specs.log_area.Areas.{page_first}
use Rattle.store_model.specs.Geometry.{SectorBytes}
use Rattle.store_model.specs.Stores.{Store}
use Rattle.store_model.proofs.Told.{true≢false}
use Rattle.store_model.proofs.Known.{own_content, is_in as within_from}
use Rattle.store_claims.specs.Windows.{StoreWindow}
use Rattle.member_states.proofs.stream_laws.Changing.{has_sectors}
use Rattle.member_states.proofs.ring_laws.SeenDisks.{not_own}
use Rattle.member_states.specs.txn_model.Values.{StoreFacts, own_of}
use Rattle.member_states.specs.txn_laws.Standing.{StandsBehind}
use Rattle.member_states.specs.txn_laws.Windows.{HasWindow}
use Rattle.found_stays.specs.txn_core.Views.{present_on}
use Rattle.found_stays.specs.Found.{is_in, HasFirst, StaysFirst, BearsFirst}

or_later : (t u : Bool) → u ≡ true → (t || u) ≡ true
or_later true u is = refl
or_later false u is = is

-- the sectors of a block that is one of them
in_found : (found : List Block) (b : Block) (s : ℕ) → list_any (same_block b) found ≡ true → is_within b.first (sectors b.kind) s ≡ true → is_in found s ≡ true
in_found [] b s some within = absurd (true≢false (sym some))
in_found (x ∷ xs) b s some within = by (same_block b x) refl some (λ later. in_found xs b s later within)
  where
    by : (t : Bool) → same_block b x ≡ t → (t || list_any (same_block b) xs) ≡ true → (list_any (same_block b) xs ≡ true → is_in xs s ≡ true) → is_in (x ∷ xs) s ≡ true
    by true is some later = ap (λ (t : Bool). t || is_in xs s) (subst (λ (c : Block). is_within c.first (sectors c.kind) s ≡ true) (same_block-is b x is) within)
    by false is some later = or_later (is_within x.first (sectors x.kind) s) (is_in xs s) (later some)

-- sectors in which they are as they were at first
bears_by : (found : List Block) (first image : SectorBytes) → ((s : ℕ) → is_in found s ≡ true → image s ≡ first s) → BearsFirst found first image
bears_by found first image same b some = own_content b image first (λ s within. same s (in_found found b s some within))

one_left : (ws : List (List ℕ)) (durable value : List ℕ) → ws ≡ [] → (value ≡ durable) ⊎ Contains ws value → value ≡ durable
one_left ws durable value none (inl is) = is
one_left ws durable value none (inr among) = absurd (none_in value (subst (λ (l : List (List ℕ)). Contains l value) none among))

pub image_bears : (count : ℕ) (found : List Block) (first : SectorBytes) (disk : Disk) (image : List (List ℕ)) → HasFirst found first disk → MayLeave count disk image → BearsFirst found first (sector_of image)
image_bears count found first disk image has left = bears_by found first (sector_of image) (λ s some. (let is = has s some in one_left (disk.written s) (disk.durable s) (sector_of image s) is.0 (left.each s) ∙ is.1))

-- ---- what a store reads

-- no body is kept of such a block
unkept : (f : StoreFacts) (raw : Disk) (m : Store) → StandsBehind f raw m → (b : Block) → list_any (same_block b) f.found ≡ true → f.body b ≡ None
unkept f raw m h b some = by (f.body b) refl
  where
    own : own_of f b.first ≡ true
    own = or_later (list_any (λ k. is_within (page_first f.place k) 8 b.first) (range_with_len 0 f.place.pages)) (is_in f.found b.first)
        (in_found f.found b b.first some (within_from b.first (sectors b.kind) b.first (omega arith) (let more = has_sectors b.kind in omega (arith, more))))

    by : (o : Option Body) → f.body b ≡ o → f.body b ≡ None
    by None is = is
    by (Some x) is =
        absurd (true≢false (sym own ∙ not_own (own_of f) b b.first (h.marks.known b (ap (λ (o : Option Body). is_some o) is)) (within_from b.first (sectors b.kind) b.first (omega arith) (let more = has_sectors b.kind in omega (arith, more)))))

pub found_body : (changes : Changes) (f : StoreFacts) (first : SectorBytes) (disk : List (List ℕ)) (w : StoreWindow) → HasWindow changes f w → SeesDisk (Some disk) changes.disk → StaysFirst f.found first changes → (b : Block) → list_any (same_block b) f.found ≡ true → present_on disk f b ≡ content_of first b
found_body changes f first disk w has sees stays b some =
    ap (λ (o : Option Body). unwrap_or o (content_of (sector_of disk) b)) (unkept f has.0 has.2 has.3 b some) ∙ bears_by f.found first (sector_of disk) same b some
  where
    firsts : HasFirst f.found first has.0
    firsts = subst (λ (o : Option Disk). IfSome o (HasFirst f.found first)) has.1 stays

    saw : (s : ℕ) → sector_of disk s ≡ seen has.0 s
    saw = subst (λ (o : Option Disk). SeesDisk (Some disk) o) has.1 sees

    same : (s : ℕ) → is_in f.found s ≡ true → sector_of disk s ≡ first s
    same s there = (let is = firsts s there in saw s ∙ ap (λ (vs : List (List ℕ)). newest vs (has.0.durable s)) is.0 ∙ is.1)
