-- States in the window of a store at its start.
use Rattle.std.proofs.Common.{◌≡◌, ℕ, zero, suc, ◌^◌, ◌≤◌, Bool, true, subst, List, length, refl, sym, ◌∙◌, inl, inr, arith}
use mathlib.Core.Path.{fun_ext}
use Rattle.std.specs.Prelude.{◌⊎◌}
use Rattle.disk_model.specs.declared.block.Block.{Block}
use Rattle.disk_model.specs.Sectors.{sector_of}
use Rattle.disk_model.specs.Content.{Content, content_of}
use Rattle.sector_device.specs.Moments.{Changes}
use Rattle.state_store.specs.state_model.declared.geometry.Geometry.{Geometry}
use Rattle.state_store.specs.volume_model.Volumes.{Volume}
use Rattle.state_store.specs.volume_model.Indexes.{void_block}
use Rattle.state_store.specs.plan_owners.States.{Stands}
use Rattle.state_store.specs.state_blocks.Needing.{IsNeeded}
use Rattle.state_store.specs.store_model.Volumes.{is_known}
use Rattle.state_store.specs.txn_model.Values.{StoreFacts, own_of}
use Rattle.state_store.specs.txn_laws.Windows.{HasStart}
use Rattle.state_store.proofs.txn_laws.Telling.{is_open_of}
use Rattle.state_store.proofs.Windowed.{newest_is_present}
use Rattle.member_states.specs.Members.{base_of, is_found, IsSafe, void_body, IsClaimedState, MembersAre}
use Rattle.member_states.proofs.Recovering.{void_is}

module _ (changes : Changes) (f : StoreFacts) (content lies : Content) (g : Geometry) (clusters : ℕ) (v : Volume) (start : HasStart changes f content) (s : Stands content g clusters v) (safe : (b : Block) → IsNeeded content v b → IsSafe (base_of f lies g clusters) content b)
    (void : content void_block ≡ void_body) where
  -- the content, by whatever claims each block
  state_by : (claims : Block → Bool) → ((b : Block) → claims b ≡ true) → IsClaimedState (base_of f lies g clusters) claims content v
  state_by claims all = record { stands = s; claimed = λ b needed. all b; safe = safe; past = all void_block; void = void }

  newest : (b : Block) → start.window.before 0 b ≡ content b
  newest b = newest_is_present changes f start.window start.has (sym (is_open_of changes f start.window start.has) ∙ start.closed) b ∙ start.present b

  pub holds_content : MembersAre (base_of f lies g clusters) start.window
  holds_content = record {
    volume = v;
    present = subst (λ (c : Content). IsClaimedState (base_of f lies g clusters) start.window.claimed.will c v) (sym (fun_ext start.present)) (state_by start.window.claimed.will start.claimed.will);
    members = each;
  }
    where
      each : (k : ℕ) → k ≤ start.window.waiting → (x : Volume) × IsClaimedState (base_of f lies g clusters) (start.window.claimed.claims k) (start.window.before k) x
      each zero fits = (v, subst (λ (c : Content). IsClaimedState (base_of f lies g clusters) (start.window.claimed.claims 0) c v) (sym (fun_ext newest)) (state_by (start.window.claimed.claims 0) (start.claimed.claims 0)))
      each (suc k) fits = (let none = start.none in absurd (omega (arith, fits, none)))

pub holds_sectors : (changes : Changes) (f : StoreFacts) (disk : List (List ℕ)) (g : Geometry) (clusters : ℕ) (v : Volume) (start : HasStart changes f (content_of (sector_of disk))) → Stands (content_of (sector_of disk)) g clusters v
    → ((b : Block) → IsNeeded (content_of (sector_of disk)) v b → (is_known (own_of f) b ≡ true) ⊎ (is_found (base_of f (content_of (sector_of disk)) g clusters) b ≡ true)) → length disk ≤ 2 ^ 62 → MembersAre (base_of f (content_of (sector_of disk)) g clusters) start.window
holds_sectors changes f disk g clusters v start s each few = holds_content changes f (content_of (sector_of disk)) (content_of (sector_of disk)) g clusters v start s (λ b needed. by b (each b needed)) (void_is disk few)
  where
    by : (b : Block) → (is_known (own_of f) b ≡ true) ⊎ (is_found (base_of f (content_of (sector_of disk)) g clusters) b ≡ true) → IsSafe (base_of f (content_of (sector_of disk)) g clusters) (content_of (sector_of disk)) b
    by b (inl known) = inl known
    by b (inr found) = inr (found, refl)
