-- The trees of a volume behind a step of its store.
use Rattle.std.proofs.Common.{◌≡◌, ℕ, ◌≤◌, Bool, true, List, Option, Result, Ok, Err, subst, sym, ap, ◌∙◌, arith}
use Rattle.host_base.specs.declared.outside.Failed.{Failed}
use Rattle.disk_model.specs.declared.block.Block.{Block}
use Rattle.disk_model.specs.declared.block.Body.{Body}
use Rattle.disk_model.specs.Sectors.{sector_of}
use Rattle.sector_device.specs.Moments.{Changes}
use Rattle.file_tree.specs.declared.tree.Tree.{Tree}
use Rattle.volume_model.specs.Indexes.{void_block}
use Rattle.volume_model.specs.Volumes.{Volume}
use Rattle.crash_mounts.specs.map_change.Parts.{MapParts}
use Rattle.crash_mounts.specs.state_blocks.Needing.{AgreeOnNeeded, NeededIsAll}
use Rattle.log_page.specs.declared.places.LogPlace.{LogPlace}
use Rattle.log_reading.specs.Rings.{IsRingPlace}
use Rattle.crash_mounts.specs.image_open.LogPlaces.{LieAlike}
use Rattle.crash_mounts.specs.volume_mount.Mounts.{MountedVolume}
use Rattle.store_claims.specs.Windows.{StoreWindow}
use Rattle.flush_policy.specs.declared.facts.StoreStep.{StoreStep}
use Rattle.flush_policy.specs.declared.facts.StoreStep.TheVariants.{SealPage, WritePage, SyncDevice, WriteOut, BeginCheckpoint, WriteRestart}
use Rattle.crash_mounts.specs.txn_model.Values.{StoreFacts}
use Rattle.crash_mounts.specs.txn_laws.Windows.{AfterWrite, MovesTo}
use Rattle.crash_mounts.specs.txn_state.States.{facts_of}
use Rattle.crash_mounts.specs.txn_core.Seen.{Seen}
use Rattle.crash_mounts.specs.txn_core.Steps.{AfterTurn}
use Rattle.crash_mounts.specs.member_states.Members.{VolumeBase}
use Rattle.crash_mounts.proofs.member_states.Staying.{kept}
use Rattle.crash_mounts.specs.Mounting.{base_behind}
use Rattle.resting_states.specs.Resting.{RestsOn}
use Rattle.resting_states.specs.Turns.{IsTurned, TurnsRest}
use Rattle.crash_trees.specs.Trees.{StandsForTree, AreTrees, ClaimsLog, IsMountedOn, HoldsTrees, HoldsTreesOn}
use Rattle.crash_trees.specs.Turns.{TreesTurn}
use Rattle.crash_trees.proofs.Reading.{welcome_now}
use Rattle.crash_trees.proofs.Claiming.{still_claimed}

-- ---- the window behind it

-- as many commits count, or fewer, with the same trees, and the log's own sectors are claimed
pub record StayTrees (base : VolumeBase) (mounted : MountedVolume) (trees : List Tree) (w u : StoreWindow) : Type 0 where
  pub fewer : u.waiting ≤ w.waiting
  pub each : AreTrees base mounted w trees → AreTrees base mounted u trees
  pub claims : (v : Volume) → ClaimsLog v w.claimed → ClaimsLog v u.claimed

module _ (law : NeededIsAll) (base : VolumeBase) (mounted : MountedVolume) (trees : List Tree) (w u : StoreWindow) where
  pub stands_still : (k : ℕ) (t : Tree) → StandsForTree base mounted w k t → ((b : Block) → w.claimed.claims k b ≡ true → u.before k b ≡ w.before k b) → ((b : Block) → w.claimed.claims k b ≡ true → u.claimed.claims k b ≡ true) → StandsForTree base mounted u k t
  stands_still k t x same more =
      let agree : AgreeOnNeeded (w.before k) (u.before k) x.volume =
      record { bodies = λ b needed. (let e = same b (x.member.claimed b needed) in (ap (λ (y : Body). y.bytes) e, λ torn. ap (λ (y : Body). y.torn) (sym e) ∙ torn)); void = same void_block x.member.past } in
      record {
        volume = x.volume;
        member = kept base (w.claimed.claims k) (u.claimed.claims k) (w.before k) (u.before k) x.volume x.member same more;
        welcome = welcome_now law (w.before k) (u.before k) x.volume agree x.welcome;
        log = x.log;
        is_tree = law.tree (w.before k) (u.before k) base.geometry base.clusters x.volume x.member.stands agree ∙ x.is_tree;
      }

  moves : (lost : Block → Bool) → MovesTo lost w u → StayTrees base mounted trees w u
  moves lost after = record {
    fewer = after.waiting;
    each = λ are k low. (let fewer = after.waiting in let x = are k (omega (arith, low, fewer)) in (x.0, x.1, stands_still k x.0 x.2 (after.kept k low) (after.claimed.claims k)));
    claims = λ v log. still_claimed v w.claimed u.claimed after.claimed log;
  }

  writes : AfterWrite w u → StayTrees base mounted trees w u
  writes after = subst (λ (x : StoreWindow). StayTrees base mounted trees w x) (sym after.same) (record { fewer = omega arith; each = λ are. are; claims = λ v log. log })

pub turned : NeededIsAll → (base : VolumeBase) (mounted : MountedVolume) (trees : List Tree) (step : StoreStep) (result : Result (Unit {0}) Failed) (f : StoreFacts) (w u : StoreWindow) → AfterTurn step result f w u → StayTrees base mounted trees w u
turned law base mounted trees SealPage result f w u after = writes law base mounted trees w u after
turned law base mounted trees WritePage result f w u after = writes law base mounted trees w u after
turned law base mounted trees SyncDevice (Ok x) f w u after = moves law base mounted trees w u _ after
turned law base mounted trees SyncDevice (Err e) f w u after = writes law base mounted trees w u after
turned law base mounted trees (WriteOut b) result f w u after = moves law base mounted trees w u _ after
turned law base mounted trees BeginCheckpoint result f w u after = writes law base mounted trees w u after
turned law base mounted trees WriteRestart result f w u after = writes law base mounted trees w u after

-- ---- the whole

mount_still : (count many : ℕ) (f g : StoreFacts) (first : List (List ℕ)) (mounted : MountedVolume) (m : MapParts) → many ≡ count → g.place ≡ f.place → g.found ≡ f.found → IsMountedOn count f first mounted m → IsMountedOn many g first mounted m
mount_still count many f g first mounted m same place found k = record {
  mounts = k.mounts;
  counted = k.counted ∙ sym same;
  geometry = k.geometry;
  clusters = k.clusters;
  found = found ∙ k.found;
  alike = subst (λ (p : LogPlace). LieAlike p mounted.opened.place) (sym place) k.alike;
  ring = subst IsRingPlace (sym place) k.ring;
}

module _ {D : Type 0} (gives : D → Option (List (List ℕ))) (count moment : D → ℕ) (changes : D → Changes) (law : NeededIsAll) (step : StoreStep) (result : Result (Unit {0}) Failed) (old new : Seen D) (first : List (List ℕ)) (mounted : MountedVolume) (m : MapParts) (table : List ℕ) (disk : List (List ℕ)) (trees : List Tree) (w : StoreWindow)
    (holds : HoldsTrees (count old.device) (changes old.device) (facts_of old.state) first mounted m table disk trees w) (turns : IsTurned gives count moment changes step result old new) (r : RestsOn gives count changes new (sector_of first) m table (AfterTurn step result (facts_of old.state) w)) where
  abbrev f : StoreFacts
  f = facts_of old.state

  abbrev g : StoreFacts
  g = facts_of new.state

  abbrev u : StoreWindow
  u = r.behind.window

  stay : StayTrees (base_behind first mounted f.place) mounted trees w u
  stay = turned law (base_behind first mounted f.place) mounted trees step result f w u r.behind.follows

  held : HoldsTreesOn gives count changes new first mounted m table trees (AfterTurn step result (facts_of old.state) w)
  held = record {
    disk = r.disk;
    given = r.given;
    behind = record {
      window = u;
      follows = r.behind.follows;
      holds = record {
        rests = r.behind.rests;
        mount = mount_still (count old.device) (count new.device) f g first mounted m turns.sectors turns.step_is.place turns.step_is.found holds.mount;
        each = subst (λ (p : LogPlace). AreTrees (base_behind first mounted p) mounted u trees) (sym turns.step_is.place) (stay.each holds.each);
        claims = stay.claims mounted.volume holds.claims;
      };
    };
  }

pub trees_turn : {D : Type 0} (gives : D → Option (List (List ℕ))) (count moment : D → ℕ) (changes : D → Changes) → NeededIsAll → TurnsRest gives count moment changes → TreesTurn gives count moment changes
trees_turn gives count moment changes law rest step result old new first mounted m table disk trees w holds given turns over =
    held gives count moment changes law step result old new first mounted m table disk trees w holds turns (rest step result old new (sector_of first) m table disk w holds.rests given turns over)
