-- What a table has as a record in use is read as this record.
use Rattle.std.proofs.Common.{◌≡◌, ℕ, Bool, true, false, cond, List, Option, Some, None, Result, Ok, Err, ap, ◌∙◌}
use Rattle.resized_streams.specs.host_base.Answers.{◌>>=◌, needs}
use Rattle.record_model.specs.disk_model.declared.block.Block.{Block}
use Rattle.record_model.specs.disk_model.Bodies.{BodyOf}
use Rattle.record_model.specs.disk_model.Content.{Content}
use Rattle.record_model.specs.Records.{Record, record_at, shaped_at, has_lawful_values}
use Rattle.record_model.proofs.Shapes.{is_shaped}
use Rattle.state_model.specs.Loads.{Slot, Torn, Free, slot_in, slot_by, slot_of, slot_at, is_used, used_record, whole_record, has_all_pairs, table_slot}
use Rattle.draft_records.specs.Records.{record_block, is_past, file_in, ReadsTheTable}

-- rule 7 is the only one more
chosen : (pairs lawful : Bool) (s r : Record) → used_record (slot_in (needs pairs 7 >>= λ x. needs lawful 8 >>= λ y. Ok s)) ≡ Some r → used_record (slot_in (needs lawful 8 >>= λ y. Ok s)) ≡ Some r
chosen true true s r is = is
chosen true false s r is = is
chosen false true s r is = let clash : None ≡ Some r = is in absurd cc
chosen false false s r is = is

shaped : (o : Result Record ℕ) (r : Record) → used_record (slot_in (o >>= λ s. needs (has_all_pairs s) 7 >>= λ x. needs (has_lawful_values s) 8 >>= λ y. Ok s)) ≡ Some r → used_record (slot_in (o >>= λ s. needs (has_lawful_values s) 8 >>= λ y. Ok s)) ≡ Some r
shaped (Ok s) r is = chosen (has_all_pairs s) (has_lawful_values s) s r is
shaped (Err rule) r is = is

whole_is_read : (body : List ℕ) (r : Record) → used_record (slot_in (whole_record body)) ≡ Some r → used_record (slot_in (record_at body)) ≡ Some r
unfolding whole_record
whole_is_read body r is = ap (λ (o : Result Record ℕ). used_record (slot_in o)) (is_shaped body) ∙ shaped (shaped_at body) r is

by_flags : (torn used : Bool) (x y : Slot) (r : Record) → (used_record x ≡ Some r → used_record y ≡ Some r) → used_record (cond torn Torn (cond used x Free)) ≡ Some r → used_record (cond torn Torn (cond used y Free)) ≡ Some r
by_flags true used x y r step is = is
by_flags false true x y r step is = step is
by_flags false false x y r step is = is

of_body : (body : BodyOf) (r : Record) → used_record (slot_of body) ≡ Some r → used_record (slot_by record_at body) ≡ Some r
unfolding slot_of
of_body body r is = by_flags body.torn (is_used body.bytes) (slot_in (whole_record body.bytes)) (slot_in (record_at body.bytes)) r (whole_is_read body.bytes r) is

at_block : (c : Content) (o : Option Block) (r : Record) → used_record (slot_at c o) ≡ Some r → file_in c o ≡ Some r
at_block c None r is = is
at_block c (Some b) r is = of_body (c b) r is

past_or : (past : Bool) (x : Slot) (o : Option Record) (r : Record) → (used_record x ≡ Some r → o ≡ Some r) → used_record (cond past Free x) ≡ Some r → cond past None o ≡ Some r
past_or true x o r step is = is
past_or false x o r step is = step is

pub table_read : ReadsTheTable
unfolding table_slot
table_read c per e n r is = past_or (is_past e n) (slot_at c (record_block per e n)) (file_in c (record_block per e n)) r (at_block c (record_block per e n) r) is
