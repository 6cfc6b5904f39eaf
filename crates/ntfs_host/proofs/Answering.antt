-- The text of an answer, on a device whose sectors may be known.
use Rattle.std.proofs.Common.{◌≡◌, ℕ, zero, suc, List, [], Option, Some, None, Result, Ok, Err, refl, ap, sym}
use Rattle.std.specs.Option.{option_map}
use Rattle.std.specs.Global.{Global}
use Rattle.std.specs.Prelude.{IfSome, IsErr, String, string_bytes}
use Rattle.host_base.specs.Answers.{◌>>=◌, GivesOrFails}
use Rattle.host_base.proofs.Known.{one}
use Rattle.volume_run.specs.image_open.declared.refusal.Refusal.{Refusal}
use Rattle.volume_run.specs.image_open.declared.refusal.MountFault.{MountFault}
use Rattle.volume_run.specs.image_open.declared.refusal.MountFault.TheVariants as errors
use Rattle.volume_run.specs.image_open.Errors.{scan_cause, refused_as}
use Rattle.volume_format.specs.declared.fault.FormatRefusal.{FormatRefusal}
use Rattle.volume_format.specs.declared.fault.Formatted.{Formatted}
use Rattle.volume_format.specs.Answers.{format_answer}
use Rattle.volume_run.specs.image_open.declared.refusal.Refusal.TheVariants.{Short}
use Rattle.tree_model.specs.declared.script.Command.{Command}
use Rattle.volume_run.specs.image_read.Scans.{scan_of}
use Rattle.volume_run.specs.image_read.Checks.{check_of}
use Rattle.volume_run.specs.image_read.Records.{journal_of}
use Rattle.volume_run.specs.volume_mount.Mounts.{mounted_of}
use Rattle.volume_run.specs.Prints.{Counted, RunsAs}
use Rattle.ntfs_host.specs.declared.command.Quiet.TheVariants.{Scan, Dump, Check, Journal, Format}
use Rattle.ntfs_host.specs.Answers.{format_refusal, format_line, known_disk, known_answer, known_mount, scan_answer, dump_answer, check_answer, journal_answer}
use Rattle.ntfs_host.specs.Text.{formatted_line}

bound : {X Y A B : Type 0} (view : X → A) (view' : Y → B) (e : MountFault) (f : Result A Refusal) (g : A → Result B Refusal) → GivesOrFails {X = X} {E = MountFault} view scan_cause (Err e) f
    → GivesOrFails {X = Y} {E = MountFault} view' scan_cause (Err e) (f >>= g)
bound view view' errors.Memory f g h = h
bound view view' errors.Device f g h = h
bound view view' (errors.Refused r) f g h = ap (λ x. x >>= g) h

-- an error of the first step is that of both
pub fails_first : {X Y A B : Type 0} (known : Option (List (List ℕ))) (view : X → A) (view' : Y → B) (e : MountFault) (f : List (List ℕ) → Result A Refusal) (g : List (List ℕ) → A → Result B Refusal)
    → IfSome known (λ disk. GivesOrFails {X = X} {E = MountFault} view scan_cause (Err e) (f disk)) → IfSome known (λ disk. GivesOrFails {X = Y} {E = MountFault} view' scan_cause (Err e) (f disk >>= g disk))
fails_first known view view' e f g h = one known _ _ (λ disk p. bound view view' e (f disk) (g disk) p) h

-- the value is known, and the text is printed of it
pub text_is : {A : Type 0} (known : Option (List (List ℕ))) (x : A) (text : String Global) (f : List (List ℕ) → Result A Refusal) (print : A → List ℕ)
    → IfSome known (λ disk. f disk ≡ Ok x) → string_bytes text ≡ print x
    → IfSome known (λ disk. GivesOrFails {X = String Global} {E = MountFault} (λ t. string_bytes t) scan_cause (Ok text) (f disk >>= λ y. Ok (print y)))
text_is known x text f print value is = one known _ _ (λ disk e. rw e (ap (λ t. Ok t) (sym is))) value

-- a format whose line is that of a refusal is refused
refused_line : (answer : Result Formatted FormatRefusal) → IsErr (refused_as format_refusal answer >>= λ f. Ok (formatted_line f)) → IsErr answer
refused_line (Ok f) e = absurd cc
refused_line (Err fault) e = refl

pub line_is_refused : (sectors : ℕ) → IsErr (format_line sectors) → IsErr (format_answer sectors)
line_is_refused sectors e = refused_line (format_answer sectors) e

-- ---- a device without sectors

abbrev fails : {A : Type 0} → MountFault → Result A MountFault
fails e = Err e

abbrev succeeds : {A : Type 0} → A → Result A MountFault
succeeds x = Ok x

abbrev fault_or : {A : Type 0} → MountFault → Result A MountFault → MountFault
fault_or d (Ok x) = d
fault_or d (Err e) = e

-- what answers on sectors that are known answers the command; on a device without sectors it is the refusal that says so
of_disk : (sectors : ℕ) (gives : Option (List (List ℕ))) (f : List (List ℕ) → Result (List ℕ) Refusal) (r : Result (String Global) MountFault)
    → f [] ≡ Err (Short 1 0) → (sectors ≡ 0 → r ≡ Err (errors.Refused (Short 1 0))) → IfSome gives (λ disk. GivesOrFails (λ t. string_bytes t) scan_cause r (f disk))
    → IfSome (option_map f (known_disk sectors gives)) (GivesOrFails (λ t. string_bytes t) scan_cause r)
of_disk zero gives f r empty none known = rw (none refl) empty
of_disk (suc n) None f r empty none known = tt
of_disk (suc n) (Some disk) f r empty none known = known

pub scan_is : (sectors : ℕ) (gives : Option (List (List ℕ))) (r : Result (String Global) MountFault) → (sectors ≡ 0 → r ≡ Err (errors.Refused (Short 1 0)))
    → IfSome gives (λ disk. GivesOrFails (λ t. string_bytes t) scan_cause r (scan_answer disk)) → IfSome (known_answer Scan sectors gives) (GivesOrFails (λ t. string_bytes t) scan_cause r)
unfolding known_answer scan_of
scan_is sectors gives r none known = of_disk sectors gives scan_answer r refl none known

pub dump_is : (sectors : ℕ) (gives : Option (List (List ℕ))) (r : Result (String Global) MountFault) → (sectors ≡ 0 → r ≡ Err (errors.Refused (Short 1 0)))
    → IfSome gives (λ disk. GivesOrFails (λ t. string_bytes t) scan_cause r (dump_answer disk)) → IfSome (known_answer Dump sectors gives) (GivesOrFails (λ t. string_bytes t) scan_cause r)
unfolding known_answer check_of
dump_is sectors gives r none known = of_disk sectors gives dump_answer r refl none known

pub check_is : (sectors : ℕ) (gives : Option (List (List ℕ))) (r : Result (String Global) MountFault) → (sectors ≡ 0 → r ≡ Err (errors.Refused (Short 1 0)))
    → IfSome gives (λ disk. GivesOrFails (λ t. string_bytes t) scan_cause r (check_answer disk)) → IfSome (known_answer Check sectors gives) (GivesOrFails (λ t. string_bytes t) scan_cause r)
unfolding known_answer check_of
check_is sectors gives r none known = of_disk sectors gives check_answer r refl none known

pub journal_is : (sectors : ℕ) (gives : Option (List (List ℕ))) (r : Result (String Global) MountFault) → (sectors ≡ 0 → r ≡ Err (errors.Refused (Short 1 0)))
    → IfSome gives (λ disk. GivesOrFails (λ t. string_bytes t) scan_cause r (journal_answer disk)) → IfSome (known_answer Journal sectors gives) (GivesOrFails (λ t. string_bytes t) scan_cause r)
unfolding known_answer journal_of
journal_is sectors gives r none known = of_disk sectors gives journal_answer r refl none known

-- the line of a format is known by the number of sectors
pub format_is : (seed time sectors : ℕ) (gives : Option (List (List ℕ))) (r : Result (String Global) MountFault) → GivesOrFails (λ t. string_bytes t) scan_cause r (format_line sectors)
    → IfSome (known_answer (Format seed time) sectors gives) (GivesOrFails (λ t. string_bytes t) scan_cause r)
unfolding known_answer
format_is seed time sectors gives r is = is

-- the same of a run
pub run_is : (sectors : ℕ) (gives : Option (List (List ℕ))) (script : List Command) (time : ℕ) (before : Counted) (now : ℕ) (r : Result (String Global) MountFault) → (sectors ≡ 0 → r ≡ Err (errors.Refused (Short 1 0)))
    → IfSome gives (λ disk. RunsAs (mounted_of disk) script time before now r) → IfSome (known_mount sectors gives) (λ m. RunsAs m script time before now r)
unfolding known_mount mounted_of
run_is zero gives script time before now r none known = rw (none refl) refl
run_is (suc n) None script time before now r none known = tt
run_is (suc n) (Some disk) script time before now r none known = known

-- a first step that is refused so is both
pub refused_first : {A B : Type 0} (sectors : ℕ) (e : MountFault) → (sectors ≡ 0 → fails {A = A} e ≡ fails {A = A} (errors.Refused (Short 1 0)))
    → sectors ≡ 0 → fails {A = B} e ≡ fails {A = B} (errors.Refused (Short 1 0))
refused_first {A = A} {B = B} sectors e none empty = ap (λ (f : MountFault). fails {A = B} f) (ap (λ (r : Result A MountFault). fault_or (errors.Refused (Short 1 0)) r) (none empty))

-- and one that isn't has sectors
pub never_empty : {A B : Type 0} (sectors : ℕ) (x : A) (y : B) → (sectors ≡ 0 → succeeds x ≡ fails {A = A} (errors.Refused (Short 1 0)))
    → sectors ≡ 0 → succeeds y ≡ fails {A = B} (errors.Refused (Short 1 0))
never_empty sectors x y none empty = let bad = none empty in absurd cc
