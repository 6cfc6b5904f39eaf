-- A list that updates known blocks alone shadows none of the log's own.
use Rattle.std.proofs.Common.{◌≡◌, ℕ, ◌*◌, ◌/◌, ◌<◌, Bool, true, false, ◌&&◌, cond, List, [], ◌∷◌, Option, Some, None, refl, sym, ap, ◌∙◌, arith}
use Rattle.std.specs.Prelude.{unwrap_or}
use Rattle.std.specs.Option.{option_or}
use Rattle.std.proofs.lemmas.Bool.{and_parts, false_from_ne_true}
use Rattle.disk_model.specs.declared.block.Block.{Block}
use Rattle.disk_model.specs.declared.block.BlockKind.{BlockKind}
use Rattle.disk_model.specs.declared.block.BlockKind.TheVariants.{Plain, FileRec, Index}
use Rattle.disk_model.specs.Sectors.{sectors, are_rivals}
use Rattle.mount_laws.proofs.plan_owners.ByKind.{in_grid, one_cluster}
use Rattle.log_model.specs.declared.entry.Entry.{Entry}
use Rattle.log_model.specs.declared.entry.Act.{Act}
use Rattle.log_model.specs.declared.entry.Act.TheVariants.{Update, Commit}
use Rattle.log_model.specs.Logs.{block_of_kind, is_in_grid, updates, updates_rival, act_says, last_said, is_ended, is_shadowed}
use Rattle.log_page.specs.declared.places.LogPlace.{LogPlace}
use Rattle.log_reading.specs.LogPages.{log_sector}
use Rattle.log_reading.specs.Rings.{IsPageAt, IsRingPlace}
use Rattle.member_states.specs.log_area.Areas.{page_first}
use Rattle.member_states.specs.ring_laws.PageBytes.{page_sector}
use Rattle.member_states.proofs.ring_laws.SeenDisks.{not_own}
use Rattle.store_model.specs.Logs.{has_update}
use Rattle.store_model.specs.Volumes.{is_known, is_free}
use Rattle.store_model.proofs.Known.{is_in}
use Rattle.store_model.proofs.Told.{true≢false, same_self}
use Rattle.member_states.specs.txn_model.Values.{is_own}
use Rattle.member_states.proofs.txn_laws.PageWrites.{page_is_own}
use Rattle.crash_mounts.specs.Clearing.{LogsStayClear}
use Rattle.crash_mounts.proofs.Opening.{or_first, or_second}

-- ---- what shadows a block

rival_here : (b : Block) (ended : Bool) (act : Act) → act_says b ended act ≡ Some true → updates_rival b act ≡ true
rival_here b ended act is = go (updates_rival b act) (updates b act && ended) refl is
  where
    go : (r u : Bool) → updates_rival b act ≡ r → cond r (Some true) (cond u (Some false) None) ≡ Some true → updates_rival b act ≡ true
    go true u same is = same
    go false true same is = absurd cc
    go false false same is = absurd cc

rival_block : (b : Block) (act : Act) → updates_rival b act ≡ true → (c : Block) × (updates c act ≡ true) × (are_rivals b c ≡ true)
rival_block b (Update first kind at redo undo) is = (block_of_kind first kind, same_self (block_of_kind first kind), is)
rival_block b Commit is = absurd cc

-- a rival of the block that the list updates
record HasRival (list : List Entry) (b : Block) : Type 0 where
  block : Block
  has : has_update list block ≡ true
  rivals : are_rivals b block ≡ true

some_rival : (ended : ℕ → Bool) (list : List Entry) (b : Block) → last_said ended list b ≡ Some true → HasRival list b
some_rival ended [] b is = absurd cc
some_rival ended (e ∷ list) b is = go (last_said ended list b) (λ more. some_rival ended list b more) refl is
  where
    go : (o : Option Bool) → (last_said ended list b ≡ Some true → HasRival list b) → last_said ended list b ≡ o → option_or o (act_says b (ended e.tx) e.act) ≡ Some true → HasRival (e ∷ list) b
    go (Some true) more same is = let r = more same in record { block = r.block; has = or_second (updates r.block e.act) (has_update list r.block) r.has; rivals = r.rivals }
    go (Some false) more same is = absurd cc
    go None more same is = let r = rival_block b e.act (rival_here b (ended e.tx) e.act is) in record { block = r.0; has = or_first (updates r.0 e.act) (has_update list r.0) r.1; rivals = r.2 }

said_true : (o : Option Bool) → unwrap_or o false ≡ true → o ≡ Some true
said_true (Some true) is = refl
said_true (Some false) is = absurd cc
said_true None is = absurd cc

shadowed_rival : (list : List Entry) (b : Block) → is_shadowed list b ≡ true → HasRival list b
unfolding is_shadowed
shadowed_rival list b is = some_rival (is_ended list) list b (said_true (last_said (is_ended list) list b) is)

-- ---- a page of the log

sector_is : (place : LogPlace) (k : ℕ) → page_sector place k ≡ page_first place k
unfolding page_sector
sector_is place k = refl

pub first_at : (place : LogPlace) (k first : ℕ) → IsPageAt place k first → page_first place k ≡ first
first_at place k first at = (let is : log_sector place (8 * k) ≡ Some first = ap (log_sector place) (omega arith) ∙ at.row 0 (omega arith) ∙ ap (λ (i : ℕ). Some i) (omega arith) in ap (λ (o : Option ℕ). unwrap_or o 0) is)

some_sectors : (kind : BlockKind) → 0 < sectors kind
some_sectors Plain = omega arith
some_sectors FileRec = omega arith
some_sectors Index = omega arith

-- a known block lies in no cluster of a page
off_page : (place : LogPlace) (found : List Block) (c : Block) (k : ℕ) → IsRingPlace place → k < place.pages → page_first place k / 8 ≡ c.first / 8 → is_known (is_own place found) c ≡ true → ⊥
off_page place found c k ring below same known =
    let page = ring.pages k below in
    let begun = page.1.begun in
    let first = first_at place k page.0 page.1 in
    let sector = sector_is place k in
    let some = some_sectors c.kind in
    let mine = page_is_own place found k c.first below (is_in (page_sector place k) 8 c.first (omega (arith, begun, first, sector, same)) (omega (arith, begun, first, sector, same))) in
    true≢false (sym mine ∙ not_own (is_own place found) c c.first known (is_in c.first (sectors c.kind) c.first (omega arith) (omega (arith, some))))

pub logs_stay_clear : LogsStayClear
logs_stay_clear place found list v per ring holds known b live log = false_from_ne_true (is_shadowed list b) (λ shadowed.
    let r = shadowed_rival list b shadowed in
    let is = known r.block r.has in
    let grid = (and_parts (is_in_grid r.block) (is_free (is_own place found) r.block) is).0 in
    let one = one_cluster b r.block (in_grid v b per live.owned) grid r.rivals in
    let page = holds b live log in
    off_page place found r.block page.0 ring page.1 (page.2 ∙ one) is)
