-- What a command leaves, once its text or the line of its refusal was written, or not to its end.
use Rattle.std.proofs.Common.{◌≡◌, ℕ, ◌⊎◌, List, Option, Some, None, Result, Ok, Err, refl, inl, inr}
use Rattle.std.specs.Prelude.{IfSome, IsOk, IsErr}
use Rattle.sector_device.specs.Moments.{Changes}
use Rattle.volume_run.specs.image_open.declared.refusal.Refusal.{Refusal}
use Rattle.ntfs_host.specs.declared.command.Quiet.{Quiet}
use Rattle.ntfs_host.specs.declared.command.Quiet.TheVariants.{Scan, Dump, Check, Journal, Format}
use Rattle.ntfs_host.specs.declared.command.Asked.TheVariants.{Quietly}
use Rattle.ntfs_host.specs.declared.write_error.WriteError.{WriteError}
use Rattle.ntfs_host.specs.declared.write_error.WriteError.TheVariants.{Memory, Sink}
use Rattle.ntfs_host.specs.Answers.{known_answer, format_line}
use Rattle.ntfs_host.specs.Statuses.{written_status}
use Rattle.ntfs_host.specs.Outcomes.{Formats, LeavesBy, LeavesDevice}

never_both : {A E : Type 0} (r : Result A E) → IsErr r → IsOk r → ⊥
never_both (Ok x) e o = absurd cc
never_both (Err x) e o = absurd cc

-- a format that is refused
format_refused : {D : Type 0} (seed time status : ℕ) (sector_count : D → ℕ) (gives : D → Option (List (List ℕ))) (moment_of : D → ℕ) (changes_of : D → Changes) (old new : D)
    → (status ≡ 3) ⊎ (status ≡ 6) ⊎ (status ≡ 7) → IsErr (format_line (sector_count old)) → Formats seed time 3 sector_count gives moment_of changes_of old new → Formats seed time status sector_count gives moment_of changes_of old new
format_refused seed time status sector_count gives moment_of changes_of old new ends unfit f = record {
  done = λ e. elim ends [ inl a ↦ absurd cc | inr b ↦ elim b [ inl a ↦ absurd cc | inr a ↦ absurd cc ] ];
  refused = λ e. f.refused refl;
  untold = λ e. inl (f.refused refl);
  part = λ e ok. absurd (never_both (format_line (sector_count old)) unfit ok);
  unfit = f.unfit;
  stopped = λ e. elim ends [ inl a ↦ absurd cc | inr b ↦ elim b [ inl a ↦ absurd cc | inr a ↦ absurd cc ] ];
  rest = f.rest;
  rest_left = f.rest_left;
}

by_command : {D : Type 0} (command : Quiet) (status : ℕ) (sector_count : D → ℕ) (gives : D → Option (List (List ℕ))) (moment_of : D → ℕ) (changes_of : D → Changes) (old new : D)
    → (status ≡ 3) ⊎ (status ≡ 6) ⊎ (status ≡ 7) → IfSome (known_answer command (sector_count old) (gives old)) IsErr → LeavesBy (Quietly command) 3 sector_count gives moment_of changes_of old new
    → LeavesBy (Quietly command) status sector_count gives moment_of changes_of old new
unfolding known_answer
by_command Scan status sector_count gives moment_of changes_of old new ends refused left = left
by_command Dump status sector_count gives moment_of changes_of old new ends refused left = left
by_command Check status sector_count gives moment_of changes_of old new ends refused left = left
by_command Journal status sector_count gives moment_of changes_of old new ends refused left = left
by_command (Format seed time) status sector_count gives moment_of changes_of old new ends refused left = format_refused seed time status sector_count gives moment_of changes_of old new ends refused left

refused_known : (answer : Option (Result (List ℕ) Refusal)) (refusal : Refusal) → IfSome answer (λ a. a ≡ Err refusal) → IfSome answer IsErr
refused_known None refusal e = tt
refused_known (Some a) refusal e = rw e refl

written_ends : {A : Type 0} (written : Result A WriteError) → (written_status written 3 ≡ 3) ⊎ (written_status written 3 ≡ 6) ⊎ (written_status written 3 ≡ 7)
written_ends (Ok x) = inl refl
written_ends (Err Memory) = inr (inl refl)
written_ends (Err Sink) = inr (inr refl)

-- what a refusal leaves, whatever comes of its line
pub refused_leaves : {D A : Type 0} (command : Quiet) (status : ℕ) (written : Result A WriteError) (refusal : Refusal) (sector_count : D → ℕ) (gives : D → Option (List (List ℕ))) (moment_of : D → ℕ) (changes_of : D → Changes) (old new : D)
    → status ≡ written_status written 3 → IfSome (known_answer command (sector_count old) (gives old)) (λ a. a ≡ Err refusal)
    → LeavesDevice (Quietly command) 3 sector_count gives moment_of changes_of old new → LeavesDevice (Quietly command) status sector_count gives moment_of changes_of old new
refused_leaves command status written refusal sector_count gives moment_of changes_of old new is refused left = record {
  device = by_command command status sector_count gives moment_of changes_of old new (rw is (written_ends written)) (refused_known (known_answer command (sector_count old) (gives old)) refusal refused) left.device;
  sectors = left.sectors;
}
