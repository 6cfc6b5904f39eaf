-- When record 0 is too full.
use Rattle.std.proofs.Common.{◌≡◌, ℕ, Bool, List, sym, ap, ap₂, subst, ◌∙◌}
use Rattle.std.specs.Prelude.{Result, Ok, Err, IfErr}
use Rattle.host_base.specs.Answers.{ExplainsOrFails}
use Rattle.record_model.specs.declared.runs.Run.{Run}
use Rattle.record_model.specs.Records.{Record}
use Rattle.draft_bitmaps.specs.space_model.Choosing.{chosen}
use Rattle.draft_bitmaps.specs.stream_runs.Runs.{last_cluster}
use Rattle.draft_bitmaps.specs.plan_space.declared.fault.SpaceFault.{SpaceFault}
use Rattle.draft_bitmaps.specs.plan_space.declared.fault.SpaceFault.TheVariants.{Short, Memory}
use Rattle.draft_bitmaps.specs.resized_streams.declared.resized.Resized.{Resized}
use Rattle.draft_numbers.specs.draft_records.declared.fault.DraftFault.{DraftFault}
use Rattle.draft_numbers.specs.draft_records.declared.fault.DraftFault.TheVariants as draft
use Rattle.draft_numbers.specs.draft_records.Faults.{draft_cause}
use Rattle.draft_numbers.specs.draft_records.Records.{fits_room}
use Rattle.draft_bitmaps.specs.declared.bitmap.Bitmap.{Bitmap}
use Rattle.draft_growth.specs.declared.longer.Longer.{Longer}
use Rattle.draft_growth.specs.declared.table.Table.{Table}
use Rattle.draft_growth.specs.Faults.{growth_room, of_space, of_draft}
use Rattle.draft_growth.specs.Growing.{table_clusters, more_for, with_room, in_file, size_in, standing, numbers_bytes, bitmap_behind, behind_records, grown_record, IsLongerData, IsLonger}

-- what fits isn't refused
pub fitted : (m : Result (Unit {0}) ℕ) (P : ℕ → Type 0) → m ≡ Ok tt → IfErr m P
fitted m P is = subst (λ (r : Result (Unit {0}) ℕ). IfErr r P) (sym is) tt

-- nor is it where a call that would refuse it went well
pub never : (m : Result (Unit {0}) ℕ) (P : ℕ → Type 0) → IfErr m (λ (used : ℕ). Err used ≡ Ok (tt {0})) → IfErr m P
never (Ok x) P is = tt
never (Err used) P is = absurd (let e = is in cc)

pub told : (e : DraftFault) (m : Result (Unit {0}) ℕ) → ExplainsOrFails (draft_cause e) m → IfErr m (λ (used : ℕ). ExplainsOrFails {Y = Unit {0}} (draft_cause e) (Err used))
told e (Ok x) is = tt
told e (Err used) is = is

pub other_space : (e : SpaceFault) (m : Result (Unit {0}) ℕ) → IfErr m (λ (used : ℕ). ExplainsOrFails {Y = Unit {0}} (growth_room (of_space e)) (Err used))
other_space (Short room) (Ok x) = tt
other_space (Short room) (Err used) = tt
other_space Memory (Ok x) = tt
other_space Memory (Err used) = tt

of_full : (e : DraftFault) (m : Result (Unit {0}) ℕ) → IfErr m (λ (used : ℕ). ExplainsOrFails {Y = Unit {0}} (draft_cause e) (Err used)) → IfErr m (λ (used : ℕ). ExplainsOrFails {Y = Unit {0}} (growth_room (of_draft e)) (Err used))
of_full (draft.Full used) m is = is
of_full draft.Fault (Ok x) is = tt
of_full draft.Fault (Err used) is = tt
of_full draft.Memory (Ok x) is = tt
of_full draft.Memory (Err used) is = tt

pub full_told : (e : DraftFault) (f r : Record) → f ≡ r → IfErr (fits_room f) (λ (used : ℕ). ExplainsOrFails {Y = Unit {0}} (draft_cause e) (Err used)) → IfErr (fits_room r) (λ (used : ℕ). ExplainsOrFails {Y = Unit {0}} (growth_room (of_draft e)) (Err used))
full_told e f r is full = subst (λ (x : Record). IfErr (fits_room x) (λ (used : ℕ). ExplainsOrFails {Y = Unit {0}} (growth_room (of_draft e)) (Err used))) is (of_full e (fits_room f) full)

pub full_never : (P : ℕ → Type 0) (f r : Record) → f ≡ r → IfErr (fits_room f) P → IfErr (fits_room r) P
full_never P f r is = subst (λ (x : Record). IfErr (fits_room x) P) is

-- the bitmap with room for the new numbers
abbrev with_now : ℕ → Table → List Run → Bitmap → Bitmap
with_now per t more b = with_room per (size_in b.stream (numbers_bytes t)) more (standing (size_in b.stream (numbers_bytes t)) b) b

-- record 0 as both steps make it
pub record_grown : (per : ℕ) (bits own : List Bool) (t : Table) (records : Resized) (b : Bitmap) (l : Longer) → IsLongerData per t (chosen bits (last_cluster t.extents.runs) table_clusters) records → own ≡ behind_records bits t → b ≡ in_file records.file t.bitmap
    → IsLonger per (size_in b.stream (numbers_bytes t)) own b l → l.bitmap.file ≡ grown_record per bits t
record_grown per bits own t records b l grown first is longer =
    let now : b ≡ bitmap_behind per bits t = is ∙ ap (λ (r : Record). in_file r t.bitmap) grown.file in
    ap (λ (x : Bitmap). x.file) longer.bitmap ∙ ap₂ (λ (o : List Bool) (x : Bitmap). (with_now per t (more_for per (size_in x.stream (numbers_bytes t)) o (standing (size_in x.stream (numbers_bytes t)) x)) x).file) first now
