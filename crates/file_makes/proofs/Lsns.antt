-- The LSN of a record that no block has.
use Rattle.std.proofs.Common.{◌≡◌, ℕ, Bool, true, false, cond, List, [], Option, Some, None, refl, sym, ap, ◌∙◌}
use Rattle.std.specs.Prelude.{IfSome}
use Rattle.disk_model.specs.Content.{Content}
use Rattle.state_model.specs.declared.stream.Extents.{Extents}
use Rattle.volume_model.specs.Volumes.{block_bytes}
use Rattle.plan_draft.specs.declared.touched.Touched.{Touched}
use Rattle.plan_draft.specs.Drafts.{drafted}
use Rattle.draft_numbers.specs.Numbers.{number_bytes}
use Rattle.file_puts.specs.draft_records.Records.{record_block, is_past}
use Rattle.file_makes.specs.Making.{kept_lsn}

none_written : kept_lsn [] ≡ 0
unfolding kept_lsn
none_written = refl

yes : (past : Bool) (bytes : List ℕ) → past ≡ true → [] ≡ cond past [] bytes
yes true bytes is = refl
yes false bytes is = absurd cc

not_so : (past : Bool) (bytes : List ℕ) → past ≡ false → bytes ≡ cond past [] bytes
not_so true bytes is = absurd cc
not_so false bytes is = refl

pub at_past : (content : Option Content) (touched : List Touched) (per : ℕ) (e : Extents) (n : ℕ) → is_past e n ≡ true → IfSome content (λ c. 0 ≡ kept_lsn (number_bytes (drafted touched c) per e n))
at_past None touched per e n is = tt
at_past (Some c) touched per e n is = sym none_written ∙ ap kept_lsn (yes (is_past e n) (block_bytes (drafted touched c) (record_block per e n)) is)

pub at_none : (content : Option Content) (touched : List Touched) (per : ℕ) (e : Extents) (n : ℕ) → is_past e n ≡ false → None ≡ record_block per e n → IfSome content (λ c. 0 ≡ kept_lsn (number_bytes (drafted touched c) per e n))
at_none None touched per e n is none = tt
at_none (Some c) touched per e n is none =
    sym none_written
    ∙ ap kept_lsn (ap (block_bytes (drafted touched c)) none ∙ not_so (is_past e n) (block_bytes (drafted touched c) (record_block per e n)) is)
