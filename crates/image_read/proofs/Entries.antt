-- Steps of the reading of a journal, one after the other, over a content that may be known.
use Rattle.std.proofs.Common.{◌≡◌, ℕ, ◌<◌, List, length, take, Option, Result, Ok, Err, sym, ap, ◌∙◌}
use Rattle.std.specs.Prelude.{IfSome, IfOk}
use Rattle.host_base.specs.Answers.{Gives, GivesOrFails}
use Rattle.host_base.proofs.Known.{one}
use Rattle.disk_model.specs.Content.{Content}
use Rattle.file_tree.specs.declared.journal.Usn.{Usn}
use Rattle.image_open.specs.state_model.declared.stream.Extents.{Extents}
use Rattle.volume_check.specs.volume_model.Volumes.{Volume, upper_of}
use Rattle.volume_check.specs.usn_journal.Places.{journal_place}
use Rattle.volume_check.specs.volume_state.Journals.{journal_first, journal_entries}
use Rattle.volume_check.specs.usn_journal.declared.pull_fault.PageFault.{PageFault}
use Rattle.volume_check.specs.usn_journal.declared.pulling.Pulled.{Pulled}
use Rattle.volume_check.specs.usn_journal.Pulls.{from_on, read_entries, pulled_in}
use Rattle.image_open.specs.declared.refusal.Refusal.TheVariants.{NoJournal}
use Rattle.image_open.specs.declared.refusal.MountFault.{MountFault}
use Rattle.image_open.specs.declared.refusal.MountFault.TheVariants as errors
use Rattle.image_open.specs.Errors.{scan_cause, refused_as}
use Rattle.image_open.proofs.Steps.{gives_or_fails, okay}
use Rattle.image_read.specs.Records.{place_on}
use Rattle.image_read.proofs.Begins.{all_read}

-- ---- the place

place_answer : (r : Result Extents ℕ) (e : Extents) → refused_as NoJournal r ≡ Ok e → r ≡ Ok e
place_answer (Ok x) e is = cc
place_answer (Err why) e is = absurd cc

-- the place that was found is that of the volume
pub is_placed : (known : Option Content) (v : Volume) (e : Extents) → IfSome known (λ c. place_on c v ≡ Ok e) → IfSome known (λ c. journal_place (upper_of c v) v ≡ Ok e)
unfolding place_on
is_placed known v e h = one known _ _ (λ c is. place_answer (journal_place (upper_of c v) v) e is) h

-- the place that a table of upper-case units gives, where it is the volume's
pub placed : (known : Option Content) (v : Volume) (upper : List ℕ) (result : Result Extents MountFault) → IfSome known (λ c. upper ≡ upper_of c v) → Gives (λ e. e) scan_cause result (refused_as NoJournal (journal_place upper v))
    → IfSome known (λ c. GivesOrFails (λ e. e) scan_cause result (place_on c v))
unfolding place_on
placed known v upper result same h = one known _ _ (λ c is. rw (← is) (gives_or_fails (λ (e : Extents). e) result (refused_as NoJournal (journal_place upper v)) h)) same

-- ---- the records

abbrev pages_given : Pulled → Result Pulled PageFault
pages_given p = Ok p

-- what is pulled from a position on
abbrev pulled_at : Content → ℕ → Extents → ℕ → ℕ → Result Pulled PageFault
pulled_at c per e first most = Ok (pulled_in e.real first most (read_entries (journal_entries c per e)))

pulled_is : (p pulled : Pulled) → pages_given p ≡ pages_given pulled → p ≡ pulled
pulled_is p pulled e = cc

entries_are : (c : Content) (per : ℕ) (e : Extents) (first most : ℕ) (pulled : Pulled) → pulled_at c per e first most ≡ Ok pulled → pulled.entries ≡ take most (from_on first (read_entries (journal_entries c per e)))
entries_are c per e first most pulled is = ap (λ (p : Pulled). p.entries) (sym (pulled_is (pulled_in e.real first most (read_entries (journal_entries c per e))) pulled is))

abbrev AreFew : ℕ → Result (List Usn) MountFault → Type 0
AreFew most result = IfOk result (λ (kept : List Usn). length kept < most)

okay_is : {A : Type 0} (x y : A) → okay x ≡ okay y → x ≡ y
okay_is x y e = cc

given : (c : Content) (per : ℕ) (e : Extents) (first most : ℕ) (pulled : Pulled) (result : Result (List Usn) MountFault) → first ≡ journal_first per e → pulled_at c per e first most ≡ Ok pulled
    → Gives (λ (l : List Usn). l) scan_cause result (okay pulled.entries) → AreFew most result → GivesOrFails (λ (l : List Usn). l) scan_cause result (okay (read_entries (journal_entries c per e)))
given c per e first most pulled (Ok kept) begin is h few =
    let same : pulled.entries ≡ kept = okay_is pulled.entries kept h in
    ap okay (all_read c per e most first kept begin (sym same ∙ entries_are c per e first most pulled is) few)
given c per e first most pulled (Err errors.Memory) begin is h few = tt
given c per e first most pulled (Err errors.Device) begin is h few = tt
given c per e first most pulled (Err (errors.Refused r)) begin is h few = absurd cc

-- all records are given, where fewer were pulled than were asked for
pub entries_given : (known : Option Content) (per : ℕ) (e : Extents) (first most : ℕ) (pulled : Pulled) (result : Result (List Usn) MountFault) → first ≡ journal_first per e → IfSome known (λ c. pulled_at c per e first most ≡ Ok pulled)
    → Gives (λ (l : List Usn). l) scan_cause result (okay pulled.entries) → AreFew most result → IfSome known (λ c. GivesOrFails (λ (l : List Usn). l) scan_cause result (okay (read_entries (journal_entries c per e))))
entries_given known per e first most pulled result begin is h few = one known _ _ (λ c p. given c per e first most pulled result begin p h few) is
