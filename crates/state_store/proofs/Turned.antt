-- The state of a volume behind a step of its store.
use Rattle.std.proofs.Common.{◌≡◌, subst, ℕ, ◌*◌, ◌^◌, ◌<◌, ◌≤◌, Bool, false, List, map, Option, Some, None, Result, refl, sym, ap, ap₂, ◌∙◌, inl, inr, arith}
use mathlib.Core.Path.{fun_ext}
use Rattle.std.specs.Prelude.{IfSome, is_some, unwrap_or}
use Rattle.std.specs.List.{range_with_len}
use Rattle.std.proofs.lemmas.Bool.{cases_Bool}
use Rattle.host_base.specs.declared.outside.Failed.{Failed}
use Rattle.disk_model.specs.declared.block.Body.{Body}
use Rattle.disk_model.specs.declared.block.BlockKind.TheVariants.{Index}
use Rattle.disk_model.specs.Bytes.{zeros}
use Rattle.disk_model.specs.Content.{Content, body_of, content_of}
use Rattle.disk_model.specs.Sectors.{sector_of}
use Rattle.sector_device.specs.Moments.{Changes}
use Rattle.sector_device.specs.Sectors.{IsDiskOf}
use Rattle.turn_laws.proofs.device_view.SectorsRead.{raw_from-past}
use Rattle.turn_laws.specs.log_page.declared.places.LogPlace.{LogPlace}
use Rattle.flush_policy.specs.declared.facts.StoreStep.{StoreStep}
use Rattle.turn_laws.proofs.store_model.Told.{true≢false}
use Rattle.same_names.specs.volume_model.Volumes.{Volume, count_of, record_bytes, record_bits, cluster_bits}
use Rattle.same_names.specs.volume_model.Indexes.{void_block}
use Rattle.same_names.specs.volume_map.declared.head.Head.{Head}
use Rattle.same_names.specs.volume_map.Heads.{head_of, head_at, heads_of}
use Rattle.same_names.specs.map_change.Parts.{MapParts, parts_of}
use Rattle.state_blocks.specs.Needing.{AgreeOnNeeded, NeededIsAll}
use Rattle.turn_laws.specs.txn_model.Values.{StoreFacts}
use Rattle.turn_laws.specs.txn_state.States.{facts_of, IsStore}
use Rattle.turn_laws.specs.txn_core.Seen.{Seen, TakesStep}
use Rattle.turn_laws.specs.txn_core.Steps.{MayTurn, HasTurned, TurnsDevice, AfterTurn}
use Rattle.turn_laws.specs.txn_core.Views.{present_on, present_content}
use Rattle.turn_laws.specs.Sparing.{StepSpares, StepsSpare}
use Rattle.state_store.specs.Volumes.{geometry_of, IsStateOf, SparesState, HoldsState}
use Rattle.state_store.specs.Turns.{TurnsVolume}

-- ---- the block past the end of every disk

none_some : (o : Option Body) → is_some o ≡ false → o ≡ None
none_some (Some x) is = absurd (true≢false is)
none_some None is = refl

void_unkept : (f : StoreFacts) → IsStore f → f.place.device ≤ 2 ^ 62 → f.body void_block ≡ None
void_unkept f k near = none_some (f.body void_block) unkept
  where
    unkept : is_some (f.body void_block) ≡ false
    unkept = elim (cases_Bool (is_some (f.body void_block))) [
      | inl some ↦ (let inside = k.blocks.inside void_block some in absurd (omega (arith, inside, near)))
      | inr none ↦ none
    ]

void_shown : (disk : List (List ℕ)) (count : ℕ) (f : StoreFacts) → IsStore f → f.place.device ≤ 2 ^ 62 → IsDiskOf count disk → count < 2 ^ 55 → present_on disk f void_block ≡ body_of Index (zeros (512 * 8))
void_shown disk count f k near whole few =
    let counted = whole.counted in
    ap (λ (o : Option Body). unwrap_or o (content_of (sector_of disk) void_block)) (void_unkept f k near) ∙ ap (body_of Index) (raw_from-past disk (2 ^ 62) 8 (omega (arith, counted, few)))

-- ---- the parts of the map

parts_with : Volume → List Head → List Bool → List Bool → MapParts
parts_with v heads records clusters = record { volume = v; heads = heads; records = records; clusters = clusters }

module _ (law : NeededIsAll) (c d : Content) (m : MapParts) (table : List ℕ) (state : IsStateOf m table c) (agree : AgreeOnNeeded c d m.volume) where
  heads_same : heads_of d m.volume ≡ heads_of c m.volume
  unfolding heads_of head_at
  heads_same =
      let each : (n : ℕ) → head_of (record_bytes d m.volume n) ≡ head_of (record_bytes c m.volume n) = λ n. ap head_of (law.bytes c d (geometry_of m) m.volume.clusters m.volume n state.stands agree) in
      ap (λ (f : ℕ → Head). map f (range_with_len 0 (count_of m.volume))) (fun_ext each)

  parts_same : parts_of d m.volume ≡ parts_of c m.volume
  unfolding parts_with
  parts_same =
      ap₂ (λ (x : List Head) (y : List Bool). parts_with m.volume x y (cluster_bits d m.volume)) heads_same (law.records c d m.volume agree) ∙ ap (parts_with m.volume (heads_of c m.volume) (record_bits c m.volume)) (law.clusters c d m.volume agree)

  state_stays : IsStateOf m table d
  state_stays = record {
    stands = law.stands c d (geometry_of m) m.volume.clusters m.volume state.stands agree;
    map = state.map ∙ sym parts_same;
    upper = state.upper ∙ sym (law.upper c d m.volume agree);
  }

-- ---- the volume behind a step

module _ {D : Type 0} (gives : D → Option (List (List ℕ))) (count moment : D → ℕ) (changes : D → Changes) (law : NeededIsAll) (steps : StepsSpare gives count moment changes) (step : StoreStep) (result : Result (Unit {0}) Failed) (old new : Seen D) (m : MapParts) (table : List ℕ) (k : IsStore (facts_of old.state))
    (j : IsStore (facts_of new.state)) (was : IfSome (gives old.device) (IsDiskOf (count old.device))) (is : IfSome (gives new.device) (IsDiskOf (count new.device))) (few : count old.device < 2 ^ 55) (counted : count new.device ≡ count old.device)
    (holds : HoldsState (gives old.device) (changes old.device) old.state m table) (may : MayTurn (facts_of old.state) step) (turned : HasTurned step result (facts_of old.state) (facts_of new.state))
    (sent : TurnsDevice gives changes moment step result (facts_of old.state) (facts_of new.state) old.words new.words old.device new.device) (takes : TakesStep count moment changes (AfterTurn step result (facts_of old.state)) old new) where
  closed : new.state.is_open ≡ false
  closed = (steps.rest step result (facts_of old.state) (facts_of new.state) turned).1 ∙ holds.closed

  commits : new.state.commits ≡ old.state.commits
  commits = (steps.rest step result (facts_of old.state) (facts_of new.state) turned).2

  near : new.state.place.device ≤ 2 ^ 62
  near = subst (λ (p : LogPlace). p.device ≤ 2 ^ 62) (sym (steps.rest step result (facts_of old.state) (facts_of new.state) turned).0) holds.near

  unknown : gives old.device ≡ None → TurnsVolume (gives old.device) (gives new.device) (changes new.device) old.state new.state m table
  unknown none =
      let still = steps.unknown step result old new takes none in
      subst (λ (o : Option (List (List ℕ))). TurnsVolume o (gives new.device) (changes new.device) old.state new.state m table) (sym none)
      (subst (λ (o : Option (List (List ℕ))). TurnsVolume None o (changes new.device) old.state new.state m table) (sym still)
      (record { holds = record { closed = closed; near = near; shown = tt; spares = tt }; content = tt; commits = commits }))

  known : (disk : List (List ℕ)) → gives old.device ≡ Some disk → TurnsVolume (gives old.device) (gives new.device) (changes new.device) old.state new.state m table
  known disk given = behind spared
    where
      state : IsStateOf m table (present_on disk (facts_of old.state))
      state = subst (λ (o : Option (List (List ℕ))). IfSome (present_content o old.state) (IsStateOf m table)) given holds.shown

      spares : SparesState (changes old.device) (facts_of old.state) m.volume disk
      spares = subst (λ (o : Option (List (List ℕ))). IfSome o (SparesState (changes old.device) (facts_of old.state) m.volume)) given holds.spares

      spared : StepSpares gives changes (AfterTurn step result (facts_of old.state)) spares.window disk old new
      spared = steps.turn step result old new spares.window disk k given spares.has may turned sent takes

      behind : StepSpares gives changes (AfterTurn step result (facts_of old.state)) spares.window disk old new → TurnsVolume (gives old.device) (gives new.device) (changes new.device) old.state new.state m table
      behind s =
          let whole : IsDiskOf (count old.device) disk = subst (λ (o : Option (List (List ℕ))). IfSome o (IsDiskOf (count old.device))) given was in
          let entire : IsDiskOf (count new.device) s.now = subst (λ (o : Option (List (List ℕ))). IfSome o (IsDiskOf (count new.device))) s.given is in
          let agree : AgreeOnNeeded (present_on disk (facts_of old.state)) (present_on s.now (facts_of new.state)) m.volume = record {
            bodies = λ b needed. (let kept = s.bodies b (spares.spared b needed) in (kept.bytes, kept.torn));
            void = void_shown s.now (count new.device) (facts_of new.state) j near entire (omega (arith, counted, few)) ∙ sym (void_shown disk (count old.device) (facts_of old.state) k holds.near whole few);
          } in
          subst (λ (o : Option (List (List ℕ))). TurnsVolume o (gives new.device) (changes new.device) old.state new.state m table) (sym given)
          (subst (λ (o : Option (List (List ℕ))). TurnsVolume (Some disk) o (changes new.device) old.state new.state m table) (sym s.given)
          (record {
            holds = record {
              closed = closed;
              near = near;
              shown = state_stays law (present_on disk (facts_of old.state)) (present_on s.now (facts_of new.state)) m table state agree;
              spares = record {
                window = s.window;
                has = s.has;
                spared = λ b needed. s.spared b (spares.spared b (law.needed (present_on disk (facts_of old.state)) (present_on s.now (facts_of new.state)) (geometry_of m) m.volume.clusters m.volume b state.stands agree needed));
              };
            };
            content = agree;
            commits = commits;
          }))

  pub turns_volume : TurnsVolume (gives old.device) (gives new.device) (changes new.device) old.state new.state m table
  turns_volume = by (gives old.device) refl
    where
      by : (o : Option (List (List ℕ))) → gives old.device ≡ o → TurnsVolume (gives old.device) (gives new.device) (changes new.device) old.state new.state m table
      by None none = unknown none
      by (Some disk) given = known disk given
