-- The log's sectors are those that its stream has.
use Rattle.std.proofs.Common.{◌≡◌, ℕ, ◌+◌, ◌-◌, ◌*◌, ◌/◌, ◌%◌, ◌<◌, min, Bool, true, false, cond, ltb, List, Option, Some, None, refl, sym, ap, ◌∙◌, arith}
use Rattle.std.specs.Prelude.{option_map, find}
use Rattle.std.proofs.lemmas.Bool.{ltb-true, lt-ltb}
use Rattle.disk_model.specs.declared.block.Block.{Block}
use Rattle.disk_model.specs.declared.block.BlockKind.TheVariants.{Plain}
use Rattle.disk_model.specs.Sectors.{sectors}
use Rattle.state_model.specs.record_model.declared.runs.Run.{Run}
use Rattle.state_model.specs.declared.stream.Extents.{Extents}
use Rattle.state_model.specs.declared.stream.Stream.TheVariants.{Placed}
use Rattle.state_model.specs.Streams.{holds, lcn_in, block_at}
use Rattle.log_recovery.specs.log_page.Places.{page_bytes}
use Rattle.log_recovery.specs.log_reading.LogPages.{sector_in, sector_below, log_sector}
use Rattle.image_open.specs.LogPlaces.{nowhere, first_of, stream_sector, stream_sectors, stream_place}
use Rattle.image_open.specs.LogLaws.{LogLiesInStream}
use Rattle.image_open.proofs.Alike.{in_stream}

first_is : (per : ℕ) (runs : List Run) (n : ℕ) (o : Option Block) → block_at per runs Plain n ≡ o → stream_sector per runs n ≡ first_of o
unfolding stream_sector
first_is per runs n o is = ap first_of is

abbrev sector_by : ℕ → ℕ → ℕ → Block
sector_by per n lcn = record { first = lcn * per + sectors Plain * n % per; kind = Plain }

abbrev some_block : Block → Option Block
some_block b = Some b

-- what begins at a sector of a device is the block there
block_there : (per n s : ℕ) (o : Option ℕ) → first_of (option_map (sector_by per n) o) ≡ s → s < nowhere → option_map (sector_by per n) o ≡ Some (record { first = s; kind = Plain })
block_there per n s None is low = absurd (omega arith)
block_there per n s (Some lcn) is low = ap (λ (first : ℕ). some_block (record { first = first; kind = Plain })) is

block_is : (per : ℕ) (runs : List Run) (n s : ℕ) → stream_sector per runs n ≡ s → s < nowhere → block_at per runs Plain n ≡ Some (record { first = s; kind = Plain })
unfolding stream_sector block_at
block_is per runs n s =
    let v = sectors Plain * n / per in
    let w = (sectors Plain * n + sectors Plain - 1) / per in
    block_there per n s (lcn_in v (find (holds v w) runs))

module _ (per clusters device : ℕ) (e : Extents) (n : ℕ) where
  abbrev count : ℕ
  count = e.real / page_bytes

  abbrev end : ℕ
  end = min nowhere device

  abbrev bytes : ℕ
  bytes = min e.initialised (page_bytes * count)

  within : 512 * n < bytes → n < 8 * count
  within lt = omega arith

  sector_is : 512 * n < bytes → sector_in (stream_sectors per (8 * count) e.runs) n ≡ Some (stream_sector per e.runs n)
  sector_is lt = in_stream per (8 * count) e.runs n (within lt)

  pub each : (b : Block) → block_at per e.runs Plain n ≡ Some b → b.first < end → 512 * n < bytes → log_sector (stream_place per clusters device (Placed e)) n ≡ Some b.first
  unfolding stream_place
  each b is low lt =
      ap (λ (t : Bool). cond t (sector_below end (sector_in (stream_sectors per (8 * count) e.runs) n)) None) (lt-ltb (512 * n) bytes lt)
      ∙ ap (sector_below end) (sector_is lt ∙ ap (λ (s : ℕ). Some s) (first_is per e.runs n (Some b) is))
      ∙ ap (λ (t : Bool). cond t (Some b.first) None) (lt-ltb b.first end low)

  below_is : (first s : ℕ) (t : Bool) → ltb first end ≡ t → cond t (Some first) None ≡ Some s → (first ≡ s) × (s < end)
  below_is first s true low is = (let same : first ≡ s = cc in (same, omega (arith, ltb-true first end low)))
  below_is first s false low is = absurd (cc)

  only_by : (s : ℕ) (t : Bool) → ltb (512 * n) bytes ≡ t → cond t (sector_below end (sector_in (stream_sectors per (8 * count) e.runs) n)) None ≡ Some s → block_at per e.runs Plain n ≡ Some (record { first = s; kind = Plain })
  only_by s true lt is =
      let here = sector_is (ltb-true (512 * n) bytes lt) in
      let at = below_is (stream_sector per e.runs n) s (ltb (stream_sector per e.runs n) end) refl (sym (ap (sector_below end) here) ∙ is) in
      block_is per e.runs n s at.0 (omega (arith, at.1))
  only_by s false lt is = absurd (cc)

  pub only : (s : ℕ) → log_sector (stream_place per clusters device (Placed e)) n ≡ Some s → block_at per e.runs Plain n ≡ Some (record { first = s; kind = Plain })
  unfolding stream_place
  only s is = only_by s (ltb (512 * n) bytes) refl is

pub log_lies_in_stream : LogLiesInStream
log_lies_in_stream = record { each = each; only = only }
