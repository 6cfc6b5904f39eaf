-- The base records of two contents that agree on the blocks from which a state is read.
use Rattle.std.proofs.Common.{◌≡◌, ◌≢◌, ℕ, ◌*◌, ◌<◌, Bool, true, false, subst, Option, Some, None, List, refl, sym, ap, ap₂, ◌∙◌, inl, inr, arith}
use Rattle.std.proofs.lemmas.Bool.{cases_Bool, both_ways, false_from_ne_true}
use Rattle.disk_model.specs.declared.block.Block.{Block}
use Rattle.disk_model.specs.declared.block.Body.{Body}
use Rattle.disk_model.specs.declared.block.BlockKind.TheVariants.{FileRec}
use Rattle.disk_model.specs.Content.{Content}
use Rattle.record_model.specs.Records.{Record}
use Rattle.state_model.specs.declared.geometry.Geometry.{Geometry}
use Rattle.state_model.specs.declared.stream.Extents.{Extents}
use Rattle.state_model.specs.declared.stream.Stream.{Stream}
use Rattle.state_model.specs.declared.stream.Stream.TheVariants.{Held, Placed}
use Rattle.state_model.specs.Files.{file_at}
use Rattle.state_model.specs.Loads.{Torn, slot_of, record_count, torn_refusal, extents_or, table_in}
use Rattle.state_model.specs.Streams.{block_at}
use Rattle.volume_model.specs.Volumes.{Volume, log_file}
use Rattle.stream_laws.specs.Frames.{SameRecordIn}
use Rattle.stream_laws.specs.Owners.{stream_kind, initialised_in}
use Rattle.stream_laws.specs.Sharing.{StreamKey, stream_at}
use Rattle.stream_laws.specs.Tables.{table_key}
use Rattle.stream_laws.specs.Volumes.{base_record}
use Rattle.stream_laws.proofs.Framing.{same_records}
use Rattle.stream_laws.proofs.Recording.{record_read}
use Rattle.stream_laws.proofs.Rewriting.{parts_of_files}
use Rattle.stream_laws.proofs.Tabling.{table_extents_is, table_runs}
use Rattle.working_volume.specs.plan_owners.States.{Stands}
use Rattle.working_volume.specs.plan_owners.Agreeing.{IsJudged, log_key}
use Rattle.working_volume.proofs.plan_owners.Standing.{loaded_files, begins}
use Rattle.working_volume.specs.state_blocks.Needing.{AgreeOnNeeded}

body_with : List ℕ → Bool → Body
body_with bytes torn = record { bytes = bytes; torn = torn }

other_file : (s : StreamKey) → s.file ≢ log_file → s ≢ log_key
other_file s not same = not (ap (λ (k : StreamKey). k.file) same)

whole_body : (x y : Body) → y.bytes ≡ x.bytes → (y.torn ≡ true → x.torn ≡ true) → x.torn ≡ false → y ≡ x
unfolding body_with
whole_body x y bytes torn whole =
    let also : y.torn ≡ false = false_from_ne_true y.torn (λ is. both_ways x.torn whole (torn is)) in
    ap₂ body_with bytes (also ∙ sym whole)

whole_slot : (c : Content) (b : Block) (n : ℕ) → torn_refusal n (slot_of (c b)) ≡ None → (c b).torn ≡ false
unfolding slot_of
whole_slot c b n none = elim (cases_Bool (c b).torn) [
  | inl torn ↦ absurd (refused n (rw torn at none))
  | inr whole ↦ whole
]
  where
    refused : (n : ℕ) → torn_refusal n Torn ≡ None → ⊥
    refused n is = absurd cc

module _ (c d : Content) (g : Geometry) (clusters : ℕ) (v : Volume) (s : Stands c g clusters v) (k : AgreeOnNeeded c d v) where
  table_size : initialised_in (stream_at v table_key) ≡ v.table.initialised
  table_size = of_extents (stream_at v table_key) ∙ ap (λ (e : Extents). e.initialised) (table_extents_is c g clusters v (begins c g clusters v s))
    where
      of_extents : (o : Option Stream) → initialised_in o ≡ (extents_or o).initialised
      of_extents None = refl
      of_extents (Some (Held value)) = refl
      of_extents (Some (Placed e)) = refl

  record_live : (n : ℕ) (b : Block) → 1024 * n < v.table.initialised → block_at v.per v.table.runs FileRec n ≡ Some b → IsJudged v b
  unfolding stream_kind
  record_live n b below place = record {
    live = record {
      owned = record { stream = table_key; number = n; lies = ap (λ l. block_at v.per l FileRec n) (table_runs c g clusters v (begins c g clusters v s)) ∙ place };
      begins = subst (λ (x : ℕ). 512 * (2 * n) < x) (sym table_size) (omega arith);
    };
    other = other_file table_key (λ e. omega (arith, e));
  }

  same_record : (n : ℕ) → n < record_count v.table → SameRecordIn c d v.per v.table n
  same_record n below b at =
      let kept = k.bodies b (inl (record_live n b at.below at.lies)) in
      let none = (parts_of_files c v.per v.table v.files (loaded_files c g clusters v s.loaded)).0 n below in
      whole_body (c b) (d b) kept.0 kept.1 (whole_slot c b n (sym (ap (torn_refusal n) (record_read c v.per v.table n b at.below at.lies)) ∙ none))

  pub base_same : (n : ℕ) → base_record d v.per v.table n ≡ base_record c v.per v.table n
  base_same n = ap (λ (l : List (Option Record)). file_at (table_in l) n) (same_records c d v.per v.table (record_count v.table) same_record)
