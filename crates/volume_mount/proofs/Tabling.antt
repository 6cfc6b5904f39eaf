-- The table of upper-case units, over a content that may be known.
use Rattle.std.proofs.Common.{◌≡◌, ℕ, List, Option, Ok, Err, sym, ap}
use Rattle.std.specs.Prelude.{IfSome}
use Rattle.host_base.specs.Answers.{GivesOrFails}
use Rattle.host_base.proofs.Known.{one, always}
use Rattle.disk_model.specs.Content.{Content}
use Rattle.volume_state.specs.volume_model.Volumes.{Volume, upper_of}
use Rattle.block_view.specs.declared.fault.ViewFault.{ViewFault}
use Rattle.block_view.specs.declared.fault.ViewFault.TheVariants.{Fault, Memory}
use Rattle.image_read.specs.image_open.declared.refusal.Refusal.{Refusal}
use Rattle.image_read.specs.image_open.declared.refusal.MountFault.{MountFault}
use Rattle.image_read.specs.image_open.Errors.{scan_cause, error_of_view}
use Rattle.image_read.proofs.image_open.Steps.{okay}

fails : (e : ViewFault) (upper : List ℕ) → GivesOrFails {X = List ℕ} {E = MountFault} {F = Refusal} (λ u. u) scan_cause (Err (error_of_view e)) (Ok upper)
fails Fault upper = tt
fails Memory upper = tt

-- a call that refuses nothing fails as a mount does
pub table_fails : (known : Option Content) (v : Volume) (e : ViewFault) (e' : MountFault) → e' ≡ error_of_view e
    → IfSome known (λ c. GivesOrFails {X = List ℕ} {E = MountFault} {F = Refusal} (λ u. u) scan_cause (Err e') (Ok (upper_of c v)))
table_fails known v e e' is = always known _ (λ c. rw is (fails e (upper_of c v)))

-- and gives the table
pub table_read : (known : Option Content) (v : Volume) (upper : List ℕ) → IfSome known (λ c. upper ≡ upper_of c v)
    → IfSome known (λ c. GivesOrFails {X = List ℕ} {E = MountFault} {F = Refusal} (λ u. u) scan_cause (Ok upper) (Ok (upper_of c v)))
table_read known v upper h = one known _ _ (λ c e. ap (λ (u : List ℕ). okay u) (sym e)) h
