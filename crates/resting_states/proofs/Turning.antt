-- A volume at rest rests behind a step of its store; and a step adds no state.
use Rattle.std.proofs.Common.{◌≡◌, subst, ℕ, ◌^◌, ◌<◌, ◌≤◌, List, length, Option, Some, None, Result, refl, sym, ap, ◌∙◌, arith}
use Rattle.std.specs.Prelude.{IfSome, is_some, unwrap_or}
use Rattle.host_base.specs.declared.outside.Failed.{Failed}
use Rattle.disk_model.specs.declared.block.Block.{Block}
use Rattle.disk_model.specs.declared.block.Body.{Body}
use Rattle.disk_model.specs.Sectors.{sector_of}
use Rattle.disk_model.specs.Content.{content_of}
use Rattle.sector_device.specs.Disks.{SeesDisk}
use Rattle.sector_device.specs.Moments.{Changes}
use Rattle.sector_device.specs.Sectors.{IsDiskOf}
use Rattle.log_page.specs.declared.places.LogPlace.{LogPlace}
use Rattle.volume_model.specs.Indexes.{void_block}
use Rattle.member_states.specs.map_change.Parts.{MapParts}
use Rattle.store_model.specs.Geometry.{SectorBytes}
use Rattle.store_claims.specs.Windows.{StoreWindow}
use Rattle.flush_policy.specs.declared.facts.StoreStep.{StoreStep}
use Rattle.member_states.specs.state_blocks.Needing.{AgreeOnNeeded, NeededIsAll}
use Rattle.member_states.specs.txn_model.Values.{StoreFacts}
use Rattle.member_states.specs.txn_state.States.{facts_of, IsStore}
use Rattle.found_stays.specs.txn_core.Seen.{Seen}
use Rattle.found_stays.specs.txn_core.Sizes.{sized_present}
use Rattle.found_stays.specs.txn_core.Steps.{AfterTurn}
use Rattle.found_stays.specs.txn_core.Views.{present_on, present_content}
use Rattle.found_stays.proofs.txn_core.PresentSizes.{keeps_sizes}
use Rattle.member_states.specs.turn_laws.Sparing.{StepSpares, StepsSpare}
use Rattle.member_states.specs.state_store.Volumes.{geometry_of, IsStateOf, SparesState}
use Rattle.member_states.specs.state_store.Turns.{AgreeWhereKnown, TurnsVolume}
use Rattle.member_states.proofs.state_store.Turned.{turns_volume}
use Rattle.member_states.specs.Members.{VolumeBase, void_body, MembersAre}
use Rattle.member_states.specs.Steps.{StepsKeepStates}
use Rattle.member_states.proofs.Recovering.{void_is}
use Rattle.found_stays.specs.Found.{StaysFirst, AreOffLog, StaysOver}
use Rattle.resting_states.specs.Resting.{base_from, Rests, RestsOn}
use Rattle.resting_states.specs.Turns.{IsTurned}
use Rattle.resting_states.proofs.Finding.{found_body}
use Rattle.resting_states.proofs.Storing.{turned_store}
use Rattle.resting_states.proofs.Putting.{same_base}

-- ---- the block past the end of every disk

pub void_read : (f : StoreFacts) (disk : List (List ℕ)) → IsStore f → f.place.device ≤ 2 ^ 62 → length disk ≤ 2 ^ 62 → present_on disk f void_block ≡ void_body
void_read f disk k near few = ap (λ (o : Option Body). unwrap_or o (content_of (sector_of disk) void_block)) (by (f.body void_block) refl) ∙ void_is disk few
  where
    by : (o : Option Body) → f.body void_block ≡ o → f.body void_block ≡ None
    by None is = is
    by (Some x) is = (let inside = k.blocks.inside void_block (ap (λ (o : Option Body). is_some o) is) in absurd (omega (arith, inside, near)))

-- ---- the whole

module _ {D : Type 0} (gives : D → Option (List (List ℕ))) (count moment : D → ℕ) (changes : D → Changes) (needed : NeededIsAll) (steps : StepsSpare gives count moment changes) (keep : StepsKeepStates) (whole : (d : D) → IfSome (gives d) (IsDiskOf (count d))) (seen : (d : D) → SeesDisk (gives d) (changes d).disk)
    (bound : (d : D) → count d < 2 ^ 55) (step : StoreStep) (result : Result (Unit {0}) Failed) (old new : Seen D) (first : SectorBytes) (m : MapParts) (table : List ℕ) (disk : List (List ℕ)) (w : StoreWindow) (rests : Rests (count old.device) (changes old.device) (facts_of old.state) first m table disk w)
    (given : gives old.device ≡ Some disk) (turned : IsTurned gives count moment changes step result old new) (over : StaysOver (count old.device) (facts_of old.state).found first (changes old.device) (changes new.device)) where
  abbrev f : StoreFacts
  f = facts_of old.state

  abbrev g : StoreFacts
  g = facts_of new.state

  store : IsStore g
  store = turned_store step result f g rests.store turned.may turned.facts

  spares : StepSpares gives changes (AfterTurn step result f) w disk old new
  spares = steps.turn step result old new w disk rests.store given rests.rest.has turned.may turned.facts turned.sent turned.step_is

  volume : TurnsVolume (gives old.device) (gives new.device) (changes new.device) old.state new.state m table
  volume =
      turns_volume gives count moment changes needed steps step result old new m table rests.store store (whole old.device) (whole new.device) (bound old.device) turned.sectors
      (record {
        closed = rests.rest.closed;
        near = rests.rest.near;
        shown = subst (λ (o : Option (List (List ℕ))). IfSome (present_content o old.state) (IsStateOf m table)) (sym given) rests.state;
        spares = subst (λ (o : Option (List (List ℕ))). IfSome o (SparesState (changes old.device) f m.volume)) (sym given) (record { window = w; has = rests.rest.has; spared = rests.rest.spared });
      })
      turned.may turned.facts turned.sent turned.step_is

  place : g.place ≡ f.place
  place = turned.step_is.place

  found : g.found ≡ f.found
  found = turned.step_is.found

  stays : StaysFirst g.found first (changes new.device)
  stays = subst (λ (l : List Block). StaysFirst l first (changes new.device)) (sym found) (over.stays rests.stays)

  behind : StepSpares gives changes (AfterTurn step result f) w disk old new → RestsOn gives count changes new first m table (AfterTurn step result f w)
  behind s =
      let entire : IsDiskOf (count new.device) s.now = subst (λ (o : Option (List (List ℕ))). IfSome o (IsDiskOf (count new.device))) s.given (whole new.device) in
      let counted = entire.counted in
      let same = turned.sectors in
      let few = rests.few in
      let sees : SeesDisk (Some s.now) (changes new.device).disk = subst (λ (o : Option (List (List ℕ))). SeesDisk o (changes new.device).disk) s.given (seen new.device) in
      let near : g.place.device ≤ 2 ^ 62 = subst (λ (p : LogPlace). p.device ≤ 2 ^ 62) (sym place) rests.rest.near in
      let agree : AgreeOnNeeded (present_on disk f) (present_on s.now g) m.volume =
      subst (λ (o : Option (List (List ℕ))). AgreeWhereKnown m.volume (Some (present_on disk f)) (present_content o new.state)) s.given
      (subst (λ (o : Option (List (List ℕ))). AgreeWhereKnown m.volume (present_content o old.state) (present_content (gives new.device) new.state)) given volume.content) in
      record {
        disk = s.now;
        given = s.given;
        behind = record {
          window = s.window;
          follows = s.follows;
          rests = record {
            store = store;
            rest = record {
              has = s.has;
              sees = sees;
              closed = (steps.rest step result f g turned.facts).1 ∙ rests.rest.closed;
              near = near;
              sized = sized_present (Some s.now) (count new.device) new.state (keeps_sizes new.state store) entire;
              void = void_read g s.now store near (omega (arith, counted, same, few));
              found = found_body (changes new.device) g first s.now s.window s.has sees stays;
              spared = λ b is. s.spared b (rests.rest.spared b (needed.needed (present_on disk f) (present_on s.now g) (geometry_of m) m.volume.clusters m.volume b rests.state.stands agree is));
              members = subst (λ (base : VolumeBase). MembersAre base s.window) (same_base f g first m place found) (keep.turn (base_from f first m) step result f w s.window s.follows rests.rest.members);
            };
            state = subst (λ (o : Option (List (List ℕ))). IfSome (present_content o new.state) (IsStateOf m table)) s.given volume.holds.shown;
            whole = entire;
            few = omega (arith, same, few);
            near = subst (λ (p : LogPlace). p.clusters ≤ 2 ^ 59) (sym place) rests.near;
            stays = stays;
            off = subst (λ (p : LogPlace). AreOffLog p g.found) (sym place) (subst (AreOffLog f.place) (sym found) rests.off);
          };
        };
      }

  pub rests_turned : RestsOn gives count changes new first m table (AfterTurn step result f w)
  rests_turned = behind spares
