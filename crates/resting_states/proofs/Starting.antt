-- A volume over a store that begins on a state rests.
use Rattle.std.proofs.Common.{◌≡◌, subst, ℕ, ◌^◌, ◌≤◌, true, List, length, Option, Some, None, refl, sym, ap, ◌∙◌, inl, inr, arith}
use mathlib.Core.Path.{fun_ext}
use Rattle.std.specs.Prelude.{◌⊎◌, unwrap_or}
use Rattle.std.specs.List.{list_any}
use Rattle.disk_model.specs.declared.block.Block.{Block}
use Rattle.disk_model.specs.declared.block.Body.{Body}
use Rattle.disk_model.specs.Sectors.{sector_of, same_block}
use Rattle.disk_model.specs.Content.{content_of}
use Rattle.sector_device.specs.Disks.{Disk, SeesDisk, seen}
use Rattle.sector_device.specs.Moments.{Changes}
use Rattle.member_states.specs.map_change.Parts.{MapParts}
use Rattle.member_states.specs.state_blocks.Needing.{IsNeeded}
use Rattle.store_model.specs.Geometry.{SectorBytes}
use Rattle.store_model.specs.Volumes.{is_known}
use Rattle.member_states.specs.txn_model.Values.{StoreFacts, own_of}
use Rattle.member_states.specs.txn_laws.Windows.{HasStart}
use Rattle.member_states.specs.txn_state.States.{StateOf, facts_of}
use Rattle.found_stays.specs.txn_core.Sizes.{sized_present}
use Rattle.found_stays.specs.txn_core.Views.{present_on}
use Rattle.found_stays.proofs.txn_core.PresentSizes.{keeps_sizes}
use Rattle.member_states.specs.turn_laws.Sparing.{IsSpared}
use Rattle.member_states.specs.state_store.Volumes.{geometry_of}
use Rattle.member_states.specs.Members.{IsSafe}
use Rattle.member_states.specs.Starts.{StartsHoldStates}
use Rattle.resting_states.specs.Resting.{base_from, RestsBy}
use Rattle.resting_states.specs.Starts.{IsAlone, BeginsAtRest, StartsRest}
use Rattle.resting_states.proofs.Finding.{found_body}
use Rattle.resting_states.proofs.Turning.{void_read}

module _ (law : StartsHoldStates) (count : ℕ) (changes : Changes) (state : StateOf) (first : SectorBytes) (m : MapParts) (table : List ℕ) (disk : List (List ℕ)) (begins : BeginsAtRest count changes state first m table disk) where
  abbrev f : StoreFacts
  f = facts_of state

  -- ---- the store keeps no body

  no_body : (b : Block) → f.body b ≡ None
  no_body b = ap (λ (h : StoreFacts). h.body b) begins.facts

  read_is : (b : Block) → present_on disk f b ≡ content_of (sector_of disk) b
  read_is b = ap (λ (o : Option Body). unwrap_or o (content_of (sector_of disk) b)) (no_body b)

  few : length disk ≤ 2 ^ 62
  few = (let counted = begins.whole.counted in let most = begins.few in omega (arith, counted, most))

  module _ (raw : Disk) (is : changes.disk ≡ Some raw) where
    start : HasStart changes f (content_of (seen raw))
    start = begins.start raw is

    saw : sector_of disk ≡ seen raw
    saw = fun_ext (subst (λ (o : Option Disk). SeesDisk (Some disk) o) is begins.sees)

    shown : (b : Block) → start.window.present b ≡ present_on disk f b
    shown b = start.present b ∙ ap (λ (at : SectorBytes). content_of at b) (sym saw) ∙ sym (read_is b)

    begun : HasStart changes f (present_on disk f)
    begun = record { window = start.window; has = start.has; closed = start.closed; none = start.none; present = shown; claimed = start.claimed }

    spared : (b : Block) → IsNeeded (present_on disk f) m.volume b → IsSpared f start.window disk b
    spared b needed =
        let one = begins.spares.spared b needed in
        record { known = one.known; alive = one.alive; alone = one.alone; whole = one.whole; shown = λ torn. ap (λ (y : Body). y.torn) (sym (shown b)) ∙ torn }

    safe : (b : Block) → IsNeeded (present_on disk f) m.volume b → IsSafe (base_from f first m) (present_on disk f) b
    safe b needed = by (begins.safe b needed)
      where
        by : (is_known (own_of f) b ≡ true) ⊎ (list_any (same_block b) f.found ≡ true) → IsSafe (base_from f first m) (present_on disk f) b
        by (inl known) = inl known
        by (inr found) = inr (found, found_body changes f first disk start.window start.has begins.sees begins.stays b found)

    rests_then : RestsBy count changes f first m table disk IsAlone
    unfolding start begun
    rests_then =
        let void = void_read f disk begins.store begins.device few in
        record {
          window = start.window;
          follows = record { none = start.none; claimed = start.claimed };
          rests = record {
            store = begins.store;
            rest = record {
              has = start.has;
              sees = begins.sees;
              closed = ap (λ (h : StoreFacts). h.is_open) begins.facts;
              near = begins.device;
              sized = sized_present (Some disk) count state (keeps_sizes state begins.store) begins.whole;
              void = void;
              found = found_body changes f first disk start.window start.has begins.sees begins.stays;
              spared = spared;
              members = law.content changes f (present_on disk f) (content_of first) (geometry_of m) m.volume.clusters m.volume begun begins.shown.stands safe void;
            };
            state = begins.shown;
            whole = begins.whole;
            few = begins.few;
            near = begins.clusters;
            stays = begins.stays;
            off = begins.off;
          };
        }

  rests_first : RestsBy count changes f first m table disk IsAlone
  rests_first = by changes.disk refl begins.sees
    where
      by : (o : Option Disk) → changes.disk ≡ o → SeesDisk (Some disk) o → RestsBy count changes f first m table disk IsAlone
      by (Some raw) is sees = rests_then raw is
      by None is sees = absurd sees

pub all_start : StartsHoldStates → StartsRest
all_start law count changes state first m table disk begins = rests_first law count changes state first m table disk begins
