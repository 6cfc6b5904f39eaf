-- Steps of an opening for a mount that writes, one after the other, over a content that may be known.
use Rattle.std.proofs.Common.{◌≡◌, ℕ, List, Option, Result, Ok, Err, refl, ap, subst}
use Rattle.std.specs.Prelude.{IfSome}
use Rattle.host_base.specs.Answers.{◌>>=◌, ExplainsOrFails}
use Rattle.host_base.proofs.Known.{both, one}
use Rattle.disk_model.specs.declared.block.Block.{Block}
use Rattle.disk_model.specs.Content.{Content}
use Rattle.state_model.specs.record_model.Records.{Record}
use Rattle.state_model.specs.declared.geometry.Geometry.{Geometry}
use Rattle.log_recovery.specs.log_page.declared.places.LogPlace.{LogPlace}
use Rattle.log_recovery.specs.log_reading.declared.fault.LogRefusal.{LogRefusal}
use Rattle.log_recovery.specs.log_reading.declared.fault.RecoveryFault.{RecoveryFault}
use Rattle.log_recovery.specs.log_reading.declared.fault.RecoveryFault.TheVariants as recoveries
use Rattle.log_recovery.specs.log_reading.Views.{recovery_cause}
use Rattle.log_recovery.specs.declared.writing.ToWrite.{ToWrite}
use Rattle.log_recovery.specs.LogStates.{LogState}
use Rattle.log_recovery.specs.Writing.{to_write_in, IsToWriteBy, RecoversToWrite}
use Rattle.image_open.specs.declared.refusal.Refusal.{Refusal}
use Rattle.image_open.specs.declared.refusal.MountFault.{MountFault}
use Rattle.image_open.specs.declared.writing.OpeningToWrite.{OpeningToWrite}
use Rattle.image_open.specs.Errors.{scan_cause, log_refusal, refused_as, error_of_log}
use Rattle.image_open.specs.LogPlaces.{LieAlike}
use Rattle.image_open.specs.Volumes.{log_record, log_place}
use Rattle.image_open.specs.Writing.{found_by, log_to_write, OpenedToWrite, opened_at, opened_of, IsFoundToWrite, FindsToWrite, IsOpenedAs, OpensToWrite}
use Rattle.image_open.proofs.Alike.{to_write_alike}
use Rattle.image_open.proofs.Steps.{failed_error}

-- ---- the log

to_write_failed : (e : RecoveryFault) (meant : Result LogState LogRefusal) → ExplainsOrFails (recovery_cause e) meant → ExplainsOrFails (scan_cause (error_of_log e)) (refused_as log_refusal meant)
to_write_failed (recoveries.Refused refusal) meant h = ap (refused_as log_refusal) h
to_write_failed recoveries.Fault meant h = tt
to_write_failed recoveries.Memory meant h = tt

-- an error of recovery, as one of the image
pub to_write_error : (known : Option Content) (place : LogPlace) (kept : List Block) (e : RecoveryFault) (e' : MountFault) → e' ≡ error_of_log e
    → IfSome known (λ c. RecoversToWrite c (to_write_in c place kept) (Err e)) → IfSome known (λ c. FindsToWrite c (log_to_write c place kept) (Err e'))
to_write_error known place kept e e' is h = one known _ _ (λ c p. rw is (to_write_failed e (to_write_in c place kept) p)) h

found_is : (c : Content) (meant : Result LogState LogRefusal) (found : ToWrite) → IsToWriteBy c meant found → IsFoundToWrite c (refused_as log_refusal meant) found
found_is c (Ok state) found h = h
found_is c (Err e) found h = absurd h

-- and its answer
pub to_write_value : (known : Option Content) (place : LogPlace) (kept : List Block) (found : ToWrite)
    → IfSome known (λ c. RecoversToWrite c (to_write_in c place kept) (Ok found)) → IfSome known (λ c. FindsToWrite c (log_to_write c place kept) (Ok found))
to_write_value known place kept found h = one known _ _ (λ c p. found_is c (to_write_in c place kept) found p) h

-- ---- the volume

-- what follows the log
abbrev opened_by : Geometry → ℕ → LogPlace → LogState → Result OpenedToWrite Refusal
opened_by g total place state = Ok (record { geometry = g; total = total; place = place; state = state })

opened_is : (c : Content) (g : Geometry) (total : ℕ) (p q : LogPlace) (meant : Result LogState Refusal) (found : ToWrite) → LieAlike p q → IsFoundToWrite c meant found
    → IsOpenedAs c (meant >>= opened_by g total q) (record { geometry = g; total = total; place = p; found = found })
opened_is c g total p q (Ok state) found alike h = record { geometry = refl; total = refl; place = alike; found = h }
opened_is c g total p q (Err e) found alike h = absurd h

-- places that lie alike say one thing
log_alike : (c : Content) (p q : LogPlace) (kept : List Block) → LieAlike p q → log_to_write c p kept ≡ log_to_write c q kept
log_alike c p q kept alike = ap (refused_as log_refusal) (to_write_alike c p q alike kept)

module _ (known : Option Content) (g : Geometry) (total sectors : ℕ) (file : Option Record) (place : LogPlace) (alike : LieAlike place (log_place g total sectors file)) where
  -- a volume whose log isn't refused is opened
  pub opened : (found : ToWrite) → IfSome known (λ c. log_record c g ≡ Ok file) → IfSome known (λ c. FindsToWrite c (log_to_write c place (found_by g)) (Ok found))
      → IfSome known (λ c. OpensToWrite c (opened_of c g total sectors) (Ok (record { geometry = g; total = total; place = place; found = found })))
  unfolding opened_of opened_at
  opened found first second =
      let q = log_place g total sectors file in
      both known _ _ _
      (λ c is h. rw is (opened_is c g total place q (log_to_write c q (found_by g)) found alike (subst (λ (r : Result LogState Refusal). IsFoundToWrite c r found) (log_alike c place q (found_by g) alike) h)))
      first second

  -- and an error of the log is its error
  pub log_fails : (e : MountFault) → IfSome known (λ c. log_record c g ≡ Ok file) → IfSome known (λ c. FindsToWrite c (log_to_write c place (found_by g)) (Err e))
      → IfSome known (λ c. OpensToWrite c (opened_of c g total sectors) (Err e))
  unfolding opened_of opened_at
  log_fails e first second =
      let q = log_place g total sectors file in
      both known _ _ _
      (λ c is h. rw is (failed_error e (log_to_write c q (found_by g)) (opened_by g total q) (subst (λ (r : Result LogState Refusal). ExplainsOrFails (scan_cause e) r) (log_alike c place q (found_by g) alike) h)))
      first second

-- the second step goes on with the value of the first
pub goes_on_opening : {A : Type 0} (known : Option Content) (x : A) (result : Result OpeningToWrite MountFault) (f : Content → Result A Refusal) (g : Content → A → Result OpenedToWrite Refusal)
    → IfSome known (λ c. f c ≡ Ok x) → IfSome known (λ c. OpensToWrite c (g c x) result) → IfSome known (λ c. OpensToWrite c (f c >>= g c) result)
goes_on_opening known x result f g first second = both known _ _ _ (λ c e h. rw e h) first second
