-- When clusters are too few.
use Rattle.std.proofs.Common.{◌≡◌, ℕ, ◌<◌, ◌≤◌, Bool, not, nat_le, sym, ap, ap₂, subst, ◌∙◌, inl, inr}
use Rattle.std.specs.Prelude.{Result, Ok, Err, IfErr, List, [], count_by}
use Rattle.std.proofs.lemmas.Bool.{cases_lt, le-leb, lt-leb}
use Rattle.host_base.specs.Answers.{◌>>=◌, needs, ExplainsOrFails, GivesOrFails}
use Rattle.record_model.specs.declared.runs.Run.{Run}
use Rattle.record_model.specs.Records.{Record}
use Rattle.draft_bitmaps.specs.space_model.Choosing.{with_runs, chosen}
use Rattle.draft_bitmaps.specs.stream_runs.Runs.{last_cluster}
use Rattle.draft_bitmaps.specs.state_model.declared.stream.Stream.{Stream}
use Rattle.draft_bitmaps.specs.plan_space.declared.fault.SpaceFault.{SpaceFault}
use Rattle.draft_bitmaps.specs.plan_space.declared.fault.SpaceFault.TheVariants.{Short, Memory}
use Rattle.draft_numbers.specs.draft_records.declared.fault.DraftFault.{DraftFault}
use Rattle.draft_numbers.specs.draft_records.declared.fault.DraftFault.TheVariants as draft
use Rattle.draft_bitmaps.specs.declared.bitmap.Bitmap.{Bitmap}
use Rattle.draft_bitmaps.specs.resized_streams.declared.resized.Resized.{Resized}
use Rattle.draft_growth.specs.Faults.{space_cause, growth_space, of_space, of_draft}
use Rattle.draft_growth.specs.declared.longer.Longer.{Longer}
use Rattle.draft_growth.specs.declared.table.Table.{Table}
use Rattle.draft_growth.specs.Growing.{table_clusters, more_for, in_file, size_in, standing, numbers_bytes, numbers_in, bitmap_behind, bitmap_size, behind_records, behind_table, wanted_for, space_for, space_of, IsLongerData, IsLonger}

few_left : (wanted clear : ℕ) → clear < wanted → needs (nat_le wanted clear) clear ≡ Err clear
few_left wanted clear few = ap (λ (t : Bool). needs t clear) (lt-leb wanted clear few)

enough_left : (wanted clear : ℕ) → wanted ≤ clear → needs (nat_le wanted clear) clear ≡ Ok tt
enough_left wanted clear enough = ap (λ (t : Bool). needs t clear) (le-leb wanted clear enough)

-- a call that refuses what is too little, and nothing else
pub spaced : {T : Type 0} (r : Result T SpaceFault) (wanted clear : ℕ) → (clear < wanted → r ≡ Err (Short clear)) → (wanted ≤ clear → IfErr r (λ e. e ≡ Memory)) → GivesOrFails (λ (x : T). tt) space_cause r (needs (nat_le wanted clear) clear)
spaced (Ok x) wanted clear short enough = elim (cases_lt clear wanted) [
  | inl less ↦ absurd (let e = short less in cc)
  | inr ge ↦ enough_left wanted clear ge
]
spaced (Err (Short room)) wanted clear short enough = elim (cases_lt clear wanted) [
  | inl less ↦
      (let e = short less in
      let same : clear ≡ room = cc in
      few_left wanted clear less ∙ ap Err same)
  | inr ge ↦ absurd (let e = enough ge in cc)
]
spaced (Err Memory) wanted clear short enough = tt

pub spaced_as : {T : Type 0} (r : Result T SpaceFault) (wanted asked clear : ℕ) → asked ≡ wanted → (clear < asked → r ≡ Err (Short clear)) → (asked ≤ clear → IfErr r (λ e. e ≡ Memory)) → GivesOrFails (λ (x : T). tt) space_cause r (needs (nat_le wanted clear) clear)
spaced_as {T} r wanted asked clear is short enough = subst (λ (n : ℕ). GivesOrFails (λ (x : T). tt) space_cause r (needs (nat_le n clear) clear)) is (spaced {T = T} r asked clear short enough)

pub none_taken : (runs : List Run) (bits : List Bool) → runs ≡ [] → bits ≡ with_runs runs bits
unfolding with_runs
none_taken runs bits is = ap (λ (r : List Run). with_runs r bits) (sym is)

-- ---- of one part and then the other

pub at_err : {T : Type 0} (r : Result T SpaceFault) (e : SpaceFault) (meant : Result (Unit {0}) ℕ) → r ≡ Err e → GivesOrFails (λ (x : T). tt) space_cause r meant → ExplainsOrFails (space_cause e) meant
at_err {T} r e meant is = subst (λ (r : Result T SpaceFault). GivesOrFails (λ (x : T). tt) space_cause r meant) is

pub at_ok : {T : Type 0} (r : Result T SpaceFault) (x : T) (meant : Result (Unit {0}) ℕ) → r ≡ Ok x → GivesOrFails (λ (x : T). tt) space_cause r meant → meant ≡ Ok tt
at_ok {T} r x meant is = subst (λ (r : Result T SpaceFault). GivesOrFails (λ (x : T). tt) space_cause r meant) is

pub first_short : (e : SpaceFault) (first second : Result (Unit {0}) ℕ) → ExplainsOrFails (space_cause e) first → ExplainsOrFails (growth_space (of_space e)) (first >>= λ _. second)
first_short (Short room) first second is = ap (λ (r : Result (Unit {0}) ℕ). r >>= λ _. second) is
first_short Memory first second is = tt

pub both : (first second last : Result (Unit {0}) ℕ) → first ≡ Ok tt → second ≡ last → (first >>= λ _. second) ≡ last
both first second last ok is = ap (λ (r : Result (Unit {0}) ℕ). r >>= λ _. second) ok ∙ is

pub second_short : (e : SpaceFault) (first second : Result (Unit {0}) ℕ) → first ≡ Ok tt → ExplainsOrFails (space_cause e) second → ExplainsOrFails (growth_space (of_space e)) (first >>= λ _. second)
second_short (Short room) first second ok is = both first second (Err room) ok is
second_short Memory first second ok is = tt

-- how many clusters a bitmap wants for the new numbers
abbrev pub wanted_now : ℕ → Table → Bitmap → ℕ
wanted_now per t b = wanted_for per (size_in b.stream (numbers_bytes t)) (standing (size_in b.stream (numbers_bytes t)) b)

pub same_space : (per : ℕ) (bits own : List Bool) (t : Table) (b : Bitmap) → own ≡ behind_records bits t → b ≡ bitmap_behind per bits t → space_for (wanted_now per t b) own ≡ space_for (wanted_for per (bitmap_size t) (numbers_in per bits t)) (behind_records bits t)
same_space per bits own t b first is = ap₂ (λ (x : Bitmap) (o : List Bool). space_for (wanted_now per t x) o) is first

-- what is said of the bits at hand holds of those behind the records
pub second_err : (e : SpaceFault) (per : ℕ) (bits own : List Bool) (t : Table) (b : Bitmap) → space_for table_clusters bits ≡ Ok tt → own ≡ behind_records bits t → b ≡ bitmap_behind per bits t
    → ExplainsOrFails (space_cause e) (space_for (wanted_now per t b) own) → ExplainsOrFails (growth_space (of_space e)) (space_of per bits t)
second_err e per bits own t b ok first stream is =
    second_short e (space_for table_clusters bits) (space_for (wanted_for per (bitmap_size t) (numbers_in per bits t)) (behind_records bits t)) ok
    (subst (λ (m : Result (Unit {0}) ℕ). ExplainsOrFails (space_cause e) m) (same_space per bits own t b first stream) is)

pub second_ok : (per : ℕ) (bits own : List Bool) (t : Table) (b : Bitmap) → space_for table_clusters bits ≡ Ok tt → own ≡ behind_records bits t → b ≡ bitmap_behind per bits t → space_for (wanted_now per t b) own ≡ Ok tt → space_of per bits t ≡ Ok tt
second_ok per bits own t b ok first stream is =
    both (space_for table_clusters bits) (space_for (wanted_for per (bitmap_size t) (numbers_in per bits t)) (behind_records bits t)) (Ok tt) ok (sym (same_space per bits own t b first stream) ∙ is)

-- the records' clusters, by what a call says of too little and of enough
pub records_ok : {T : Type 0} (r : Result T SpaceFault) (x : T) (bits : List Bool) → r ≡ Ok x → (count_by not bits < table_clusters → r ≡ Err (Short (count_by not bits))) → (table_clusters ≤ count_by not bits → IfErr r (λ e. e ≡ Memory))
    → space_for table_clusters bits ≡ Ok tt
records_ok {T} r x bits is short enough = at_ok {T = T} r x (space_for table_clusters bits) is (spaced {T = T} r table_clusters (count_by not bits) short enough)

pub records_err : {T : Type 0} (r : Result T SpaceFault) (e : SpaceFault) (per : ℕ) (bits : List Bool) (t : Table) → r ≡ Err e → (count_by not bits < table_clusters → r ≡ Err (Short (count_by not bits)))
    → (table_clusters ≤ count_by not bits → IfErr r (λ e. e ≡ Memory)) → ExplainsOrFails (growth_space (of_space e)) (space_of per bits t)
records_err {T} r e per bits t is short enough =
    first_short e (space_for table_clusters bits) (space_for (wanted_for per (bitmap_size t) (numbers_in per bits t)) (behind_records bits t))
    (at_err {T = T} r e (space_for table_clusters bits) is (spaced {T = T} r table_clusters (count_by not bits) short enough))

pub other_fault : (e : DraftFault) (meant : Result (Unit {0}) ℕ) → ExplainsOrFails (growth_space (of_draft e)) meant
other_fault (draft.Full used) meant = tt
other_fault draft.Fault meant = tt
other_fault draft.Memory meant = tt

-- ---- the bits

pub behind : (bits own : List Bool) (t : Table) (records : Resized) → records.taken.items ≡ chosen bits (last_cluster t.extents.runs) table_clusters → own ≡ with_runs records.taken.items bits → own ≡ behind_records bits t
behind bits own t records taken is = is ∙ ap (λ (r : List Run). with_runs r bits) taken

-- the bitmap in record 0 that has the longer table
pub bitmap_now : (per : ℕ) (bits : List Bool) (t : Table) (records : Resized) (b : Bitmap) → IsLongerData per t (chosen bits (last_cluster t.extents.runs) table_clusters) records → b ≡ in_file records.file t.bitmap → b ≡ bitmap_behind per bits t
bitmap_now per bits t records b grown is = is ∙ ap (λ (r : Record). in_file r t.bitmap) grown.file

pub table_taken : (per : ℕ) (bits own now : List Bool) (t : Table) (b : Bitmap) (l : Longer) → own ≡ behind_records bits t → b ≡ bitmap_behind per bits t → IsLonger per (size_in b.stream (numbers_bytes t)) own b l → now ≡ with_runs l.taken.items own → now ≡ behind_table per bits t
table_taken per bits own now t b l first stream longer is =
    is ∙ ap₂ (λ (r : List Run) (o : List Bool). with_runs r o) (longer.taken ∙ ap₂ (λ (o : List Bool) (x : Bitmap). more_for per (size_in x.stream (numbers_bytes t)) o (standing (size_in x.stream (numbers_bytes t)) x)) first stream) first
