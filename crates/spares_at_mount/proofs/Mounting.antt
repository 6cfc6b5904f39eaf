-- Blocks from which a state is read lie off the log, and are spared by a store at its start.
use Rattle.std.proofs.Common.{◌≡◌, ◌≢◌, subst, ℕ, zero, suc, ◌+◌, ◌*◌, ◌/◌, ◌%◌, ◌<◌, ◌≤◌, Bool, true, false, not, ◌&&◌, ◌||◌, eqb, leb, ltb, List, [], ◌∷◌, Option, Some, None, refl, sym, ap, ◌∙◌, inl, inr, arith}
use mathlib.Core.Path.{fun_ext}
use Rattle.std.specs.Prelude.{◌⊎◌, is_some, unwrap_or, IfSome}
use Rattle.std.specs.List.{AllByRecursion, list_all, list_any, range_with_len}
use Rattle.std.proofs.lemmas.Bool.{cases_Bool, and_parts, and_from, both_ways, false_from_ne_true, leb-true, ltb-true, eqb-true, lt-ltb}
use Rattle.disk_model.specs.declared.block.Block.{Block}
use Rattle.disk_model.specs.declared.block.Body.{Body}
use Rattle.disk_model.specs.declared.block.BlockKind.{BlockKind}
use Rattle.disk_model.specs.declared.block.BlockKind.TheVariants.{Plain, FileRec, Index}
use Rattle.disk_model.specs.Sectors.{sectors, sector_of, overlap}
use Rattle.disk_model.specs.Content.{Content, content_of}
use Rattle.sector_device.specs.Disks.{Disk, SeesDisk, seen, is_within}
use Rattle.sector_device.specs.Moments.{Changes}
use Rattle.log_model.specs.Logs.{is_in_grid, may_begin}
use Rattle.mount_laws.specs.log_page.declared.places.LogPlace.{LogPlace}
use Rattle.mount_laws.specs.log_reading.LogPages.{log_sector}
use Rattle.mount_laws.specs.log_reading.Rings.{IsPageAt, IsRingPlace}
use Rattle.state_store.specs.log_area.Areas.{LogAreaOf, page_first}
use Rattle.state_model.specs.declared.geometry.Geometry.{Geometry}
use Rattle.mount_laws.specs.volume_model.Volumes.{Volume}
use Rattle.mount_laws.specs.volume_model.Owners.{uses}
use Rattle.mount_laws.specs.stream_laws.Owners.{stream_kind}
use Rattle.mount_laws.specs.stream_laws.Sharing.{stream_at, runs_in}
use Rattle.mount_laws.proofs.stream_laws.Placing.{lies_in_used}
use Rattle.mount_laws.proofs.stream_laws.Sharing.{streams_apart}
use Rattle.mount_laws.specs.plan_owners.States.{Stands}
use Rattle.mount_laws.specs.plan_owners.Agreeing.{IsJudged, log_key}
use Rattle.mount_laws.proofs.plan_owners.ByKind.{in_grid}
use Rattle.mount_laws.proofs.plan_owners.Outside.{once}
use Rattle.plan_growth.proofs.plan_model.Drafting.{per_is}
use Rattle.plan_spares.specs.Plans.{HasOwnLists}
use Rattle.state_store.specs.state_blocks.Needing.{IsNeeded}
use Rattle.state_store.proofs.state_blocks.Needing.{listed_judged}
use Rattle.store_model.specs.Volumes.{is_known, is_free}
use Rattle.state_store.specs.txn_model.Values.{is_own}
use Rattle.state_store.specs.txn_model.Calls.{first_facts}
use Rattle.state_store.specs.txn_laws.Windows.{HasStart}
use Rattle.state_store.specs.turn_laws.Sparing.{IsSpared}
use Rattle.state_store.specs.map_change.Parts.{MapParts}
use Rattle.state_store.specs.txn_model.Values.{StoreFacts}
use Rattle.state_store.specs.txn_state.States.{StateOf, facts_of}
use Rattle.state_store.specs.txn_core.Views.{present_on, present_content}
use Rattle.state_store.specs.Volumes.{geometry_of, IsStateOf, SparesState}
use Rattle.spares_at_mount.specs.Mounts.{LiesInLog, IsApart}

-- ---- lists

all_range : (p : ℕ → Bool) (a n : ℕ) → ((i : ℕ) → a ≤ i → i < a + n → p i ≡ true) → list_all p (range_with_len a n) ≡ true
all_range p a zero each = refl
all_range p a (suc n) each = ap (λ (t : Bool). t && list_all p (range_with_len (a + 1) n)) (each a (omega arith) (omega arith)) ∙ all_range p (a + 1) n (λ i low high. each i (omega (arith, low)) (omega (arith, high)))

none_range : (p : ℕ → Bool) (a n : ℕ) → ((i : ℕ) → a ≤ i → i < a + n → p i ≡ false) → list_any p (range_with_len a n) ≡ false
none_range p a zero each = refl
none_range p a (suc n) each = ap (λ (t : Bool). t || list_any p (range_with_len (a + 1) n)) (each a (omega arith) (omega arith)) ∙ none_range p (a + 1) n (λ i low high. each i (omega (arith, low)) (omega (arith, high)))

-- ---- where a block lies

some_sectors : (kind : BlockKind) → 0 < sectors kind
some_sectors Plain = omega arith
some_sectors FileRec = omega arith
some_sectors Index = omega arith

-- the sectors of a block in the grid lie in one cluster
one_cluster : (kind : BlockKind) (first i : ℕ) → may_begin kind first ≡ true → first ≤ i → i < first + sectors kind → i / 8 ≡ first / 8
one_cluster Plain first i grid low high = omega (arith, low, high)
one_cluster FileRec first i grid low high = (let even : first % 2 ≡ 0 = eqb-true (first % 2) 0 grid in omega (arith, even, low, high))
one_cluster Index first i grid low high = (let even : first % 8 ≡ 0 = eqb-true (first % 8) 0 grid in omega (arith, even, low, high))

pub judged_apart : (c : Content) (g : Geometry) (clusters : ℕ) (v : Volume) (b : Block) → g.per_cluster ≡ 8 → Stands c g clusters v → IsJudged v b → IsApart v b
judged_apart c g clusters v b eight s judged =
    let per : v.per ≡ 8 = per_is c g clusters v eight s in
    let own = judged.live.owned in
    let some = some_sectors b.kind in
    let first : b.first < b.first + sectors b.kind = omega (arith, some) in
    let used : 1 ≤ uses (runs_in (stream_at v own.stream)) (b.first / 8) =
    subst (λ (p : ℕ). 1 ≤ uses (runs_in (stream_at v own.stream)) (b.first / p)) per (lies_in_used v.per (runs_in (stream_at v own.stream)) (stream_kind own.stream) own.number b s.some own.lies b.first (omega arith, first))
    in
    let two : uses (runs_in (stream_at v own.stream)) (b.first / 8) + uses (runs_in (stream_at v log_key)) (b.first / 8) ≤ 1 = streams_apart v own.stream log_key (once c g clusters v s) judged.other (b.first / 8) in
    record { grid = in_grid v b per own; apart = omega (arith, used, two) }

-- ---- none of its sectors is the log's

page_at : (place : LogPlace) (k first : ℕ) → IsPageAt place k first → page_first place k ≡ first
page_at place k first at = (let is : log_sector place (8 * k) ≡ Some first = ap (log_sector place) (omega arith) ∙ at.row 0 (omega arith) ∙ ap (λ (i : ℕ). Some i) (omega arith) in ap (λ (o : Option ℕ). unwrap_or o 0) is)

module _ (place : LogPlace) (v : Volume) (b : Block) (ring : IsRingPlace place) (lies : LiesInLog place v) (is : IsApart v b) where
  off_page : (i k : ℕ) → b.first ≤ i → i < b.first + sectors b.kind → k < place.pages → is_within (page_first place k) 8 i ≡ false
  off_page i k low high inside = false_from_ne_true (is_within (page_first place k) 8 i) (λ within.
      let parts = and_parts (leb (page_first place k) i) (ltb i (page_first place k + 8)) within in
      let from = leb-true (page_first place k) i parts.0 in
      let below = ltb-true i (page_first place k + 8) parts.1 in
      let page = ring.pages k inside in
      let at = page_at place k page.0 page.1 in
      let begun = page.1.begun in
      let here : i / 8 ≡ b.first / 8 = one_cluster b.kind b.first i is.grid low high in
      let same : page_first place k / 8 ≡ b.first / 8 = omega (arith, at, begun, from, below, here) in
      let used = lies k inside in
      let none : uses (runs_in (stream_at v log_key)) (page_first place k / 8) ≡ 0 = ap (uses (runs_in (stream_at v log_key))) same ∙ is.apart in
      omega (arith, used, none))

  off_found : (i : ℕ) → b.first ≤ i → i < b.first + sectors b.kind → (found : List Block) → AllByRecursion (λ (x : Block). overlap b x ≡ false) found → list_any (λ (x : Block). is_within x.first (sectors x.kind) i) found ≡ false
  off_found i low high [] none = refl
  off_found i low high (x ∷ found) none = ap (λ (t : Bool). t || list_any (λ (y : Block). is_within y.first (sectors y.kind) i) found) (here none.0) ∙ off_found i low high found none.1
    where
      here : overlap b x ≡ false → is_within x.first (sectors x.kind) i ≡ false
      here apart = false_from_ne_true (is_within x.first (sectors x.kind) i) (λ within.
          let parts = and_parts (leb x.first i) (ltb i (x.first + sectors x.kind)) within in
          let from = leb-true x.first i parts.0 in
          let below = ltb-true i (x.first + sectors x.kind) parts.1 in
          both_ways (overlap b x) apart (and_from (ltb b.first (x.first + sectors x.kind)) (ltb x.first (b.first + sectors b.kind)) (lt-ltb b.first (x.first + sectors x.kind) (omega (arith, low, below))) (lt-ltb x.first (b.first + sectors b.kind) (omega (arith, from, high)))))

  known_off : (found : List Block) → AllByRecursion (λ (x : Block). overlap b x ≡ false) found → is_known (is_own place found) b ≡ true
  known_off found none =
      and_from (is_in_grid b) (is_free (is_own place found) b) is.grid
      (all_range (λ i. not (is_own place found i)) b.first (sectors b.kind) (λ i low high.
      ap not (ap (λ (t : Bool). t || list_any (λ (x : Block). is_within x.first (sectors x.kind) i) found) (none_range (λ k. is_within (page_first place k) 8 i) 0 place.pages (λ k from below. off_page i k low high (omega (arith, below)))) ∙ off_found i low high found none)))

pub apart_known : (place : LogPlace) (found : List Block) (v : Volume) (b : Block) → IsRingPlace place → LiesInLog place v → IsApart v b → AllByRecursion (λ x. overlap b x ≡ false) found → is_known (is_own place found) b ≡ true
apart_known place found v b ring lies is none = known_off place v b ring lies is found none

-- ---- at the start

never_some : (o : Option Body) → o ≡ None → is_some o ≡ true → ⊥
never_some None none is = absurd cc
never_some (Some y) none is = absurd cc

module _ (changes : Changes) (place : LogPlace) (log : LogAreaOf) (found : List Block) (g : Geometry) (clusters : ℕ) (v : Volume) (disk : List (List ℕ)) (start : HasStart changes (first_facts place log found) (content_of (sector_of disk))) (eight : g.per_cluster ≡ 8)
    (s : Stands (content_of (sector_of disk)) g clusters v) (lists : HasOwnLists (content_of (sector_of disk)) v) (ring : IsRingPlace place) (lies : LiesInLog place v) where
  judged_of : (b : Block) → IsNeeded (content_of (sector_of disk)) v b → IsJudged v b
  judged_of b (inl judged) = judged
  judged_of b (inr listed) = listed_judged (content_of (sector_of disk)) v b listed (lists listed.number listed.file listed.is_file)

  spared : (b : Block) → IsNeeded (content_of (sector_of disk)) v b → IsSpared (first_facts place log found) start.window disk b
  spared b needed = record {
    known = apart_known place [] v b ring lies (judged_apart (content_of (sector_of disk)) g clusters v b eight s (judged_of b needed)) tt;
    alive = refl;
    alone = λ c rivals. refl;
    whole = λ kept. absurd (never_some None refl kept);
    shown = λ torn. sym (ap (λ (y : Body). y.torn) (start.present b)) ∙ torn;
  }

  pub spared_at_start : SparesState changes (first_facts place log found) v disk
  spared_at_start = record { window = start.window; has = start.has; spared = spared }

pub stores : (gives : Option (List (List ℕ))) (changes : Changes) (state : StateOf) (m : MapParts) (table : List ℕ) → SeesDisk gives changes.disk → ((disk : Disk) → changes.disk ≡ Some disk → HasStart changes (facts_of state) (content_of (seen disk))) → facts_of state ≡ first_facts state.place state.log state.found
    → m.volume.per ≡ 8 → IsRingPlace state.place → LiesInLog state.place m.volume → IfSome (present_content gives state) (IsStateOf m table) → IfSome (present_content gives state) (λ c. HasOwnLists c m.volume) → IfSome gives (SparesState changes (facts_of state) m.volume)
stores None changes state m table sees starts first eight ring lies shown lists = tt
stores (Some disk) changes state m table sees starts first eight ring lies shown lists = by changes.disk refl sees
  where
    by : (o : Option Disk) → changes.disk ≡ o → SeesDisk (Some disk) o → SparesState changes (facts_of state) m.volume disk
    by None is sees = absurd sees
    by (Some e) is sees =
        let same : content_of (seen e) ≡ content_of (sector_of disk) = ap content_of (fun_ext (λ s. sym (sees s))) in
        let start : HasStart changes (first_facts state.place state.log state.found) (content_of (sector_of disk)) = subst (λ (f : StoreFacts). HasStart changes f (content_of (sector_of disk))) first (subst (HasStart changes (facts_of state)) same (starts e is)) in
        let content : present_on disk (facts_of state) ≡ content_of (sector_of disk) = ap (present_on disk) first in
        subst (λ (f : StoreFacts). SparesState changes f m.volume disk) (sym first)
        (spared_at_start changes state.place state.log state.found (geometry_of m) m.volume.clusters m.volume disk start eight (subst (λ (c : Content). Stands c (geometry_of m) m.volume.clusters m.volume) content shown.stands) (subst (λ (c : Content). HasOwnLists c m.volume) content lists) ring lies)
