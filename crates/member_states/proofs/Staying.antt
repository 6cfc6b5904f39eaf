-- States that stay in a window.
use Rattle.std.proofs.Common.{◌≡◌, Bool, true, subst, Result, Ok, Err, sym, ap, ◌∙◌, inl, inr, arith}
use Rattle.host_base.specs.declared.outside.Failed.{Failed}
use Rattle.disk_model.specs.declared.block.Block.{Block}
use Rattle.disk_model.specs.declared.block.Body.{Body}
use Rattle.disk_model.specs.Content.{Content}
use Rattle.state_store.specs.volume_model.Volumes.{Volume}
use Rattle.state_store.specs.volume_model.Indexes.{void_block}
use Rattle.state_store.proofs.plan_owners.Agreed.{stands_now}
use Rattle.state_store.specs.state_blocks.Needing.{IsNeeded, AgreeOnNeeded}
use Rattle.state_store.proofs.state_blocks.Needing.{agree_owned, needed_before}
use Rattle.state_store.specs.store_claims.Windows.{StoreWindow}
use Rattle.flush_policy.specs.declared.facts.StoreStep.{StoreStep}
use Rattle.flush_policy.specs.declared.facts.StoreStep.TheVariants.{SealPage, WritePage, SyncDevice, WriteOut, BeginCheckpoint, WriteRestart}
use Rattle.state_store.specs.txn_model.Values.{StoreFacts}
use Rattle.state_store.specs.txn_laws.Windows.{AfterWrite, MovesTo}
use Rattle.state_store.specs.txn_core.Steps.{AfterTurn}
use Rattle.member_states.specs.Members.{VolumeBase, IsSafe, IsClaimedState, MembersAre}

-- ---- one content

module _ (base : VolumeBase) (old new : Block → Bool) (c d : Content) (v : Volume) (is : IsClaimedState base old c v) where
  -- the other content has the same bodies there
  agreeing : ((b : Block) → IsNeeded c v b → d b ≡ c b) → d void_block ≡ c void_block → AgreeOnNeeded c d v
  agreeing same void = record { bodies = λ b needed. (ap (λ (y : Body). y.bytes) (same b needed), λ torn. ap (λ (y : Body). y.torn) (sym (same b needed)) ∙ torn); void = void }

  -- the bodies stay, and so do the claims
  pub stays : ((b : Block) → IsNeeded c v b → d b ≡ c b) → d void_block ≡ c void_block → ((b : Block) → IsNeeded c v b → new b ≡ true) → new void_block ≡ true → IsClaimedState base new d v
  stays same void claimed past =
      let agree = agreeing same void in
      let before : (b : Block) → IsNeeded d v b → IsNeeded c v b = λ b needed. needed_before c d base.geometry base.clusters v is.stands agree b needed in
      record {
        stands = stands_now c d base.geometry base.clusters v is.stands (agree_owned c d v agree);
        claimed = λ b needed. claimed b (before b needed);
        safe = λ b needed. safe_still b (before b needed) (is.safe b (before b needed));
        past = past;
        void = void ∙ is.void;
      }
    where
      safe_still : (b : Block) → IsNeeded c v b → IsSafe base c b → IsSafe base d b
      safe_still b needed (inl known) = inl known
      safe_still b needed (inr lies) = inr (lies.0, same b needed ∙ lies.1)

  -- all that is claimed stays
  pub kept : ((b : Block) → old b ≡ true → d b ≡ c b) → ((b : Block) → old b ≡ true → new b ≡ true) → IsClaimedState base new d v
  kept same more = stays (λ b needed. same b (is.claimed b needed)) (same void_block is.past) (λ b needed. more b (is.claimed b needed)) (more void_block is.past)

-- ---- the windows behind the steps of a store

module _ (base : VolumeBase) where
  pub write_stays : (w u : StoreWindow) → AfterWrite w u → MembersAre base w → MembersAre base u
  write_stays w u after are = subst (MembersAre base) (sym after.same) are

  pub moves_stay : (lost : Block → Bool) (w u : StoreWindow) → MovesTo lost w u → MembersAre base w → MembersAre base u
  moves_stay lost w u moves are = record {
    volume = are.volume;
    present = kept base w.claimed.will u.claimed.will w.present u.present are.volume are.present moves.shown moves.claimed.will;
    members = λ k low.
        (let fewer = moves.waiting in let old = are.members k (omega (arith, low, fewer)) in
        (old.0, kept base (w.claimed.claims k) (u.claimed.claims k) (w.before k) (u.before k) old.0 old.1 (moves.kept k low) (moves.claimed.claims k)));
  }

  pub turn_stays : (step : StoreStep) (result : Result (Unit {0}) Failed) (f : StoreFacts) (w u : StoreWindow) → AfterTurn step result f w u → MembersAre base w → MembersAre base u
  turn_stays SealPage result f w u after are = write_stays w u after are
  turn_stays WritePage result f w u after are = write_stays w u after are
  turn_stays SyncDevice (Ok x) f w u after are = moves_stay _ w u after are
  turn_stays SyncDevice (Err e) f w u after are = write_stays w u after are
  turn_stays (WriteOut b) result f w u after are = moves_stay _ w u after are
  turn_stays BeginCheckpoint result f w u after are = write_stays w u after are
  turn_stays WriteRestart result f w u after are = write_stays w u after are
