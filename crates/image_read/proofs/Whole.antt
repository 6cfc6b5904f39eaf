-- The records of a volume that keeps its rules are whole.
use Rattle.std.proofs.Common.{◌≡◌, ℕ, Bool, true, false, not, List, Option, Some, None, Result, Ok, Err, refl, subst}
use Rattle.std.specs.Prelude.{IfSome, IsOk}
use Rattle.host_base.specs.Answers.{◌>>=◌, needs}
use Rattle.host_base.proofs.Known.{both}
use Rattle.disk_model.specs.Content.{Content}
use Rattle.volume_links.specs.record_model.declared.values.JournalMax.{JournalMax}
use Rattle.volume_links.specs.record_model.Records.{Record}
use Rattle.volume_links.specs.record_model.Constants.{attribute_list, data_type}
use Rattle.file_tree.specs.declared.journal.Usn.{Usn}
use Rattle.file_tree.specs.declared.tree.Tree.{Tree}
use Rattle.image_open.specs.state_model.declared.broken.Broken.{Broken}
use Rattle.image_open.specs.state_model.declared.stream.Extents.{Extents}
use Rattle.image_open.specs.state_model.declared.stream.Stream.{Stream}
use Rattle.image_open.specs.state_model.Files.{has_type}
use Rattle.image_open.specs.state_model.Streams.{stream_of}
use Rattle.image_open.specs.state_model.Rules.{broken_or}
use Rattle.volume_check.specs.volume_model.Volumes.{Volume, upper_of}
use Rattle.volume_check.specs.volume_state.Journals.{limits_name, entries_name, limits_in, entries_in, entries_flags, journal_file, journal_entries, journal_with, journal_of_streams, journal_of_file, journal_of, fault_of}
use Rattle.volume_check.specs.volume_state.Rules.{broken_1, broken_2, broken_3, broken_4, broken_5, broken_6, broken_7, broken_8, broken_9, first_broken}
use Rattle.volume_check.specs.volume_state.Trees.{reported, checked}
use Rattle.volume_check.specs.usn_journal.Places.{in_shape, place_of_streams, place_of_file, journal_place}
use Rattle.image_open.specs.Errors.{refused_as}
use Rattle.image_read.specs.Errors.{broken_refusal}
use Rattle.image_read.specs.Checks.{tree_on}

-- ---- no rule is broken

later_none : (rule : ℕ) (o : Option ℕ) (rest : Option Broken) → broken_or rule o rest ≡ None → rest ≡ None
later_none rule None rest e = e
later_none rule (Some n) rest e = absurd cc

own_none : (rule : ℕ) (o : Option ℕ) (rest : Option Broken) → broken_or rule o rest ≡ None → o ≡ None
own_none rule None rest e = refl
own_none rule (Some n) rest e = absurd cc

ninth_none : (c : Content) (v : Volume) → first_broken c v ≡ None → broken_9 c v ≡ None
unfolding first_broken
ninth_none c v e =
    own_none 9 (broken_9 c v) None
    (later_none 8 (broken_8 v) _ (later_none 7 (broken_7 c v) _ (later_none 6 (broken_6 c v) _ (later_none 5 (broken_5 v) _
    (later_none 4 (broken_4 c v) _ (later_none 3 (broken_3 c v) _ (later_none 2 (broken_2 v) _ (later_none 1 (broken_1 v) _ e))))))))

none_broken : (c : Content) (v : Volume) (b : Option Broken) (t : Tree) → reported c v b ≡ Ok t → b ≡ None
none_broken c v None t e = refl
none_broken c v (Some broken) t e = absurd cc

answer_of : (r : Result Tree Broken) (t : Tree) → refused_as broken_refusal r ≡ Ok t → r ≡ Ok t
answer_of (Ok x) t e = cc
answer_of (Err broken) t e = absurd cc

keeps_ninth : (c : Content) (v : Volume) (t : Tree) → tree_on c v ≡ Ok t → broken_9 c v ≡ None
unfolding tree_on checked
keeps_ninth c v t e = ninth_none c v (none_broken c v (first_broken c v) t (answer_of (reported c v (first_broken c v)) t e))

-- ---- so no record is at fault

made : (c : Content) (per : ℕ) (l : JournalMax) (e : Extents) (r : Result (List Usn) ℕ) → fault_of (r >>= λ entries. Ok (Some (journal_with c per l e entries))) ≡ None → IsOk r
made c per l e (Ok entries) none = refl
made c per l e (Err place) none = absurd cc

parts : (c : Content) (per : ℕ) (l : Result JournalMax ℕ) (x : Result Extents ℕ) (e : Extents) → in_shape (l >>= λ _. x) ≡ Ok e
    → fault_of (l >>= λ limits. x >>= λ e. journal_entries c per e >>= λ entries. Ok (Some (journal_with c per limits e entries))) ≡ None → IsOk (journal_entries c per e)
parts c per (Ok l) (Ok x) e place none =
    let is : x ≡ e = cc in
    subst (λ (e : Extents). IsOk (journal_entries c per e)) is (made c per l x (journal_entries c per x) none)
parts c per (Ok l) (Err p) e place none = absurd cc
parts c per (Err p) x e place none = absurd cc

streams : (c : Content) (per flags : ℕ) (max j : Option Stream) (e : Extents) → place_of_streams per flags max j ≡ Ok e → fault_of (journal_of_streams c per flags max j) ≡ None → IsOk (journal_entries c per e)
streams c per flags None j e place none = absurd cc
streams c per flags (Some max) None e place none = absurd cc
streams c per flags (Some max) (Some j) e place none = parts c per (limits_in max) (entries_in per flags j) e place none

passed : (b : Bool) (x : Result Extents ℕ) (e : Extents) → (needs b 2 >>= λ _. x) ≡ Ok e → x ≡ Ok e
passed true x e is = is
passed false x e is = absurd cc

file : (c : Content) (per : ℕ) (r : Option Record) (e : Extents) → place_of_file per r ≡ Ok e → fault_of (journal_of_file c per r) ≡ None → IsOk (journal_entries c per e)
file c per None e place none = absurd cc
file c per (Some r) e place none =
    streams c per (entries_flags r) (stream_of data_type limits_name r.attrs) (stream_of data_type entries_name r.attrs) e
    (passed (not (has_type attribute_list r)) (place_of_streams per (entries_flags r) (stream_of data_type limits_name r.attrs) (stream_of data_type entries_name r.attrs)) e place) none

volume : (c : Content) (v : Volume) (e : Extents) → journal_place (upper_of c v) v ≡ Ok e → broken_9 c v ≡ None → IsOk (journal_entries c v.per e)
unfolding journal_place broken_9 journal_of
volume c v e place none = file c v.per (journal_file (upper_of c v) v) e place none

pub are_whole : (known : Option Content) (v : Volume) (e : Extents) (t : Tree) → IfSome known (λ c. journal_place (upper_of c v) v ≡ Ok e) → IfSome known (λ c. tree_on c v ≡ Ok t)
    → IfSome known (λ c. IsOk (journal_entries c v.per e))
are_whole known v e t place tree = both known _ _ _ (λ c p is. volume c v e p (keeps_ninth c v t is)) place tree
