-- Blocks of clusters in which no page of a log lies have no sector of its pages.
use Rattle.std.proofs.Common.{◌≡◌, ℕ, ◌+◌, ◌*◌, ◌/◌, ◌%◌, ◌<◌, ◌≤◌, true, false, leb, ltb, List, [], ◌∷◌, Option, Some, sym, ap, ◌∙◌, inl, inr, arith}
use Rattle.std.specs.Prelude.{unwrap_or}
use Rattle.std.specs.List.{AllByRecursion}
use Rattle.std.proofs.lemmas.Bool.{true≢false, and_parts, or_cases, false_from_ne_true, leb-true, ltb-true, eqb-true}
use Rattle.disk_model.specs.declared.block.Block.{Block}
use Rattle.disk_model.specs.declared.block.BlockKind.{BlockKind}
use Rattle.disk_model.specs.declared.block.BlockKind.TheVariants.{Plain, FileRec, Index}
use Rattle.disk_model.specs.Sectors.{sectors}
use Rattle.sector_device.specs.Disks.{Disk, IsSettled, is_within, newest, seen}
use Rattle.log_model.specs.Logs.{may_begin}
use Rattle.txn_core.specs.log_page.declared.places.LogPlace.{LogPlace}
use Rattle.txn_core.specs.log_reading.LogPages.{log_sector}
use Rattle.txn_core.specs.log_reading.Rings.{IsPageAt, IsRingPlace}
use Rattle.txn_core.specs.log_area.Areas.{page_first}
use Rattle.found_stays.specs.Found.{is_in, HasFirst, AreOffLog}
use Rattle.found_stays.specs.Laws.{LiesBeside}

pub settled_has : (found : List Block) (disk : Disk) → IsSettled disk → HasFirst found (seen disk) disk
settled_has found disk still s inside = (still s, sym (ap (λ (values : List (List ℕ)). newest values (disk.durable s)) (still s)))

-- the sectors of a block in the grid lie in one cluster
one_cluster : (kind : BlockKind) (first s : ℕ) → may_begin kind first ≡ true → first ≤ s → s < first + sectors kind → s / 8 ≡ first / 8
one_cluster Plain first s grid low high = omega (arith, low, high)
one_cluster FileRec first s grid low high = (let even : first % 2 ≡ 0 = eqb-true (first % 2) 0 grid in omega (arith, even, low, high))
one_cluster Index first s grid low high = (let even : first % 8 ≡ 0 = eqb-true (first % 8) 0 grid in omega (arith, even, low, high))

page_at : (place : LogPlace) (k first : ℕ) → IsPageAt place k first → page_first place k ≡ first
page_at place k first at = (let is : log_sector place (8 * k) ≡ Some first = ap (log_sector place) (omega arith) ∙ at.row 0 (omega arith) ∙ ap (λ (i : ℕ). Some i) (omega arith) in ap (λ (o : Option ℕ). unwrap_or o 0) is)

module _ (place : LogPlace) (ring : IsRingPlace place) where
  one_off : (b : Block) → LiesBeside place b → (s k : ℕ) → is_within b.first (sectors b.kind) s ≡ true → k < place.pages → is_within (page_first place k) 8 s ≡ false
  one_off b beside s k inside lt = false_from_ne_true (is_within (page_first place k) 8 s) (λ within.
      let parts = and_parts (leb (page_first place k) s) (ltb s (page_first place k + 8)) within in
      let from = leb-true (page_first place k) s parts.0 in
      let below = ltb-true s (page_first place k + 8) parts.1 in
      let own = and_parts (leb b.first s) (ltb s (b.first + sectors b.kind)) inside in
      let page = ring.pages k lt in
      let at = page_at place k page.0 page.1 in
      let begun = page.1.begun in
      let here : s / 8 ≡ b.first / 8 = one_cluster b.kind b.first s beside.grid (leb-true b.first s own.0) (ltb-true s (b.first + sectors b.kind) own.1) in
      let same : page_first place k / 8 ≡ b.first / 8 = omega (arith, at, begun, from, below, here) in
      absurd (beside.apart k lt same))

  each_off : (found : List Block) → AllByRecursion (LiesBeside place) found → AreOffLog place found
  each_off [] all s k inside lt = absurd (true≢false (sym inside))
  each_off (b ∷ found) all s k inside lt = elim (or_cases (is_within b.first (sectors b.kind) s) (is_in found s) inside) [
    | inl here ↦ one_off b all.0 s k here lt
    | inr rest ↦ each_off found all.1 s k rest lt
  ]

pub all_off : (place : LogPlace) (found : List Block) → IsRingPlace place → AllByRecursion (LiesBeside place) found → AreOffLog place found
all_off place found ring all = each_off place ring found all
