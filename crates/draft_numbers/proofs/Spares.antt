-- Spare numbers and their sequences.
use Rattle.std.proofs.Common.{◌≡◌, ℕ, Bool, true, false, cond, List, [], Option, Some, None, refl, sym, ap, ◌∙◌}
use Rattle.std.specs.Prelude.{IfSome}
use Rattle.host_base.specs.declared.file_ref.FileRef.{FileRef}
use Rattle.disk_model.specs.declared.block.Block.{Block}
use Rattle.disk_model.specs.Content.{Content}
use Rattle.bit_set.specs.Bits.{bit}
use Rattle.draft_records.specs.state_model.declared.stream.Extents.{Extents}
use Rattle.volume_model.specs.Volumes.{Volume, record_bits, record_block as volume_block, record_bytes, block_bytes}
use Rattle.volume_model.specs.Nodes.{spare_sequence, spare_at}
use Rattle.draft_records.specs.plan_draft.declared.touched.Touched.{Touched}
use Rattle.draft_records.specs.plan_draft.Drafts.{drafted}
use Rattle.draft_records.specs.Records.{record_block, is_past}
use Rattle.draft_numbers.specs.Numbers.{number_bytes, new_sequence, SparesAreThose}

pub none_written : spare_sequence [] ≡ 1
unfolding spare_sequence
none_written = refl

past_or : (past : Bool) (c : Content) (o : Option Block) → block_bytes c (cond past None o) ≡ cond past [] (block_bytes c o)
past_or true c o = refl
past_or false c o = refl

same_bytes : (c : Content) (v : Volume) (n : ℕ) → record_bytes c v n ≡ number_bytes c v.per v.table n
unfolding record_bytes volume_block
same_bytes c v n = past_or (is_past v.table n) c (record_block v.per v.table n)

clear_is_spare : (set : Bool) (x : FileRef) → set ≡ false → cond set None (Some x) ≡ Some x
clear_is_spare true x is = absurd cc
clear_is_spare false x is = refl

pub spares : SparesAreThose
unfolding spare_at
spares c v n clear =
    clear_is_spare (bit (record_bits c v) n) (record { number = n; seq = spare_sequence (record_bytes c v n) }) clear
    ∙ ap (λ (bytes : List ℕ). Some (record { number = n; seq = spare_sequence bytes })) (same_bytes c v n)

-- ---- the sequence that is read

yes : (past : Bool) (bytes : List ℕ) → past ≡ true → [] ≡ cond past [] bytes
yes true bytes is = refl
yes false bytes is = absurd cc

not_so : (past : Bool) (bytes : List ℕ) → past ≡ false → bytes ≡ cond past [] bytes
not_so true bytes is = absurd cc
not_so false bytes is = refl

pub at_past : (content : Option Content) (touched : List Touched) (per : ℕ) (e : Extents) (n : ℕ) → is_past e n ≡ true → IfSome content (λ c. 1 ≡ new_sequence (drafted touched c) per e n)
at_past None touched per e n is = tt
at_past (Some c) touched per e n is = sym none_written ∙ ap spare_sequence (yes (is_past e n) (block_bytes (drafted touched c) (record_block per e n)) is)

pub at_none : (content : Option Content) (touched : List Touched) (per : ℕ) (e : Extents) (n : ℕ) → is_past e n ≡ false → None ≡ record_block per e n → IfSome content (λ c. 1 ≡ new_sequence (drafted touched c) per e n)
at_none None touched per e n is none = tt
at_none (Some c) touched per e n is none =
    sym none_written
    ∙ ap spare_sequence (ap (block_bytes (drafted touched c)) none ∙ not_so (is_past e n) (block_bytes (drafted touched c) (record_block per e n)) is)
