-- In a state the record of a file that can be changed is read as it stands.
use Rattle.std.proofs.Common.{◌≡◌, ℕ, ◌<◌, ◌≤◌, ◌^◌, ◌/◌, Bool, true, false, leb, Option, Some, None, Result, Ok, Err, refl, ap, subst, arith}
use Rattle.std.specs.Prelude.{not}
use Rattle.std.proofs.lemmas.Bool.{leb-true}
use Rattle.host_base.specs.Answers.{◌>>=◌, needs}
use Rattle.disk_model.specs.Content.{Content}
use Rattle.record_model.specs.Constants.{attribute_list}
use Rattle.record_model.specs.Records.{Record}
use Rattle.file_tree.specs.declared.node.Node.{Node}
use Rattle.state_model.specs.declared.geometry.Geometry.{Geometry}
use Rattle.state_model.specs.declared.geometry.MapRefusal.{MapRefusal}
use Rattle.state_model.specs.declared.geometry.MapRefusal.TheVariants.{BadRecord, MftList, MftLarge}
use Rattle.state_model.specs.declared.stream.Extents.{Extents}
use Rattle.state_model.specs.Files.{has_type}
use Rattle.state_model.specs.Loads.{has_all_pairs, used_record, record_count, most_records, no_extents, table_extents, extents_in, table_of}
use Rattle.volume_model.specs.Volumes.{Volume}
use Rattle.stream_laws.proofs.Rewriting.{volume_parts}
use Rattle.found_files.specs.plan_owners.States.{Stands}
use Rattle.found_files.proofs.plan_model.OneRecord.{own_record}
use Rattle.found_files.specs.plan_changes.Files.{IsChangeable}
use Rattle.found_files.proofs.written_values.Owning.{is_owned}
use Rattle.found_files.specs.draft_records.Records.{ReadsTheTable}
use Rattle.change_plan.specs.Laws.{FilesAreRead}

-- ---- a file table has not too many records

few_by : (listed few fit : Bool) (x e : Extents) (large : MapRefusal) → (few ≡ true → record_count x ≤ most_records) → (needs (not listed) MftList >>= λ _. needs few large >>= λ _. needs fit (BadRecord 0 7) >>= λ _. Ok x) ≡ Ok e → record_count e ≤ most_records
few_by true few fit x e large small is = absurd cc
few_by false false fit x e large small is = absurd cc
few_by false true false x e large small is = absurd cc
few_by false true true x e large small is = let same : x ≡ e = cc in subst (λ (k : Extents). record_count k ≤ most_records) same (small refl)

few_in : (o : Option Record) (e : Extents) → extents_in o ≡ Ok e → record_count e ≤ most_records
unfolding extents_in
few_in None e is = let same : no_extents ≡ e = cc in subst (λ (k : Extents). record_count k ≤ most_records) same (omega arith)
few_in (Some r) e is =
    few_by (has_type attribute_list r) (leb (record_count (table_extents r)) most_records) (has_all_pairs r) (table_extents r) e (MftLarge (record_count (table_extents r))) (leb-true (record_count (table_extents r)) most_records) is

few_behind : (o : Result (Option Record) MapRefusal) (e : Extents) → (o >>= extents_in) ≡ Ok e → record_count e ≤ most_records
few_behind (Ok o) e is = few_in o e is
few_behind (Err refusal) e is = absurd cc

few_records : (c : Content) (g : Geometry) (e : Extents) → table_of c g ≡ Ok e → record_count e ≤ most_records
unfolding table_of
few_records c g e is = few_behind _ e is

-- ---- the record

pub files_are_read : ReadsTheTable → FilesAreRead
files_are_read reads c g clusters v n r a state k =
    let own = (is_owned c g clusters v n r a state k).own in
    let its = own_record c g clusters v n r state k.file own.no_list in
    let few = few_records c g v.table (volume_parts c g clusters v state.loaded).table in
    let below = its.below in
    (reads c v.per v.table n r (ap used_record its.slot), omega (arith, few, below))
