-- A journal without its records.
use Rattle.std.proofs.Common.{◌≡◌, ℕ, Bool, List, [], Ok, Err, Some, None, sym, ap}
use Rattle.std.specs.Prelude.{IfSome, Option, Result}
use Rattle.host_base.specs.Answers.{◌>>=◌, Cause, refused, no_memory, failed, never, ExplainsOrFails}
use Rattle.host_base.proofs.Known.{one}
use Rattle.disk_model.specs.Content.{Content}
use Rattle.volume_map.specs.record_model.declared.values.JournalMax.{JournalMax}
use Rattle.file_tree.specs.declared.journal.Usn.{Usn}
use Rattle.file_tree.specs.declared.journal.Journal.{Journal}
use Rattle.record_rules.specs.state_model.declared.stream.Extents.{Extents}
use Rattle.volume_state.specs.Journals.{journal_entries, journal_owned, journal_with}
use Rattle.volume_state.specs.Trees.{without_records}
use Rattle.usn_journal.specs.Judging.{judged, owned_in, bare, journal_in_place}

-- a refusal with no journal
abbrev refusal_of : Result Bool ℕ → Result (Option Journal) ℕ
refusal_of (Ok x) = Ok None
refusal_of (Err place) = Err place

good_entries : (c : Content) (per : ℕ) (limits : JournalMax) (e : Extents) (r : Result (List Usn) ℕ) (owned : Bool) (j : Journal) → (owned ≡ journal_owned c per e → j ≡ without_records (journal_with c per limits e []))
    → (judged r >>= λ _. Ok (journal_owned c per e)) ≡ Ok owned → bare (r >>= λ entries. Ok (Some (journal_with c per limits e entries))) ≡ Ok (Some j)
good_entries c per limits e (Ok entries) owned j made is = let same : owned ≡ journal_owned c per e = cc in ap (λ (x : Journal). Ok (Some x)) (sym (made same))
good_entries c per limits e (Err place) owned j made is = absurd cc

bad_entries : (cause : Cause ℕ) (c : Content) (per : ℕ) (limits : JournalMax) (e : Extents) (r : Result (List Usn) ℕ) → ExplainsOrFails cause (judged r >>= λ _. Ok (journal_owned c per e))
    → ExplainsOrFails cause (bare (r >>= λ entries. Ok (Some (journal_with c per limits e entries))))
bad_entries (refused place) c per limits e (Ok entries) is = absurd cc
bad_entries (refused place) c per limits e (Err other) is = ap (λ (r : Result Bool ℕ). refusal_of r) is
bad_entries no_memory c per limits e r is = tt
bad_entries failed c per limits e r is = tt
bad_entries never c per limits e r is = is

pub journal_kept : (known : Option Content) (per : ℕ) (limits : JournalMax) (e : Extents) (owned : Bool) (j : Journal) → ((c : Content) → owned ≡ journal_owned c per e → j ≡ without_records (journal_with c per limits e []))
    → IfSome known (λ c. owned_in c per e ≡ Ok owned) → IfSome known (λ c. journal_in_place c per limits e ≡ Ok (Some j))
journal_kept known per limits e owned j made judgement = one known _ _ (λ c is. good_entries c per limits e (journal_entries c per e) owned j (made c) is) judgement

pub journal_broken : (known : Option Content) (per : ℕ) (limits : JournalMax) (e : Extents) (cause : Cause ℕ) → IfSome known (λ c. ExplainsOrFails cause (owned_in c per e))
    → IfSome known (λ c. ExplainsOrFails cause (journal_in_place c per limits e))
journal_broken known per limits e cause judgement = one known _ _ (λ c is. bad_entries cause c per limits e (journal_entries c per e) is) judgement
