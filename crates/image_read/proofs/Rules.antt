-- The rules that a check judges, as one step of it.
use Rattle.std.proofs.Common.{◌≡◌, Option, Result, Ok, Err, ap}
use Rattle.std.specs.Prelude.{IfSome}
use Rattle.host_base.specs.Answers.{ExplainsOrFails, GivesOrFails}
use Rattle.host_base.proofs.Known.{one}
use Rattle.disk_model.specs.Content.{Content}
use Rattle.image_open.specs.state_model.declared.broken.Broken.{Broken}
use Rattle.volume_check.specs.declared.fault.CheckFault.{CheckFault}
use Rattle.volume_check.specs.declared.fault.CheckFault.TheVariants as faults
use Rattle.volume_check.specs.Errors.{check_cause}
use Rattle.image_open.specs.declared.refusal.MountFault.{MountFault}
use Rattle.image_open.specs.Errors.{scan_cause, refused_as}
use Rattle.image_read.specs.Errors.{broken_refusal, error_of_check}

check_failed : {A : Type 0} (e : CheckFault) (meant : Result A Broken) → ExplainsOrFails (check_cause e) meant → ExplainsOrFails (scan_cause (error_of_check e)) (refused_as broken_refusal meant)
check_failed (faults.Broken b) meant h = ap (refused_as broken_refusal) h
check_failed faults.View meant h = tt
check_failed faults.Memory meant h = tt

-- an error of the rules, as one of the image, where the content keeps a premise
pub check_error : {X Y A : Type 0} (known : Option Content) (P : Content → Type 0) (view : X → A) (view' : Y → A) (e : CheckFault) (e' : MountFault) (f : Content → Result A Broken) → e' ≡ error_of_check e
    → IfSome known (λ c. P c → GivesOrFails {X = X} view check_cause (Err e) (f c)) → IfSome known (λ c. P c → GivesOrFails {X = Y} view' scan_cause (Err e') (refused_as broken_refusal (f c)))
check_error {X = X} {Y = Y} known P view view' e e' f is h =
    one known (λ c. P c → GivesOrFails {X = X} view check_cause (Err e) (f c)) (λ c. P c → GivesOrFails {X = Y} view' scan_cause (Err e') (refused_as broken_refusal (f c))) (λ c p are. rw is (check_failed e (f c) (p are))) h

-- and their answer
pub check_value : {A : Type 0} (known : Option Content) (P : Content → Type 0) (x : A) (f : Content → Result A Broken) → IfSome known (λ c. P c → f c ≡ Ok x) → IfSome known (λ c. P c → refused_as broken_refusal (f c) ≡ Ok x)
check_value known P x f h = one known (λ c. P c → f c ≡ Ok x) (λ c. P c → refused_as broken_refusal (f c) ≡ Ok x) (λ c e are. ap (refused_as broken_refusal) (e are)) h
