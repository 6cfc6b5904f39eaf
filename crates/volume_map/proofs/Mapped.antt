-- A table that was read, with the bits of the bitmaps, is the map of a volume.
use Rattle.std.proofs.Common.{◌≡◌, ℕ, List, length, Option, Result, Ok, Err, refl, sym, ap, ◌∙◌}
use Rattle.std.specs.Prelude.{IfSome, IfOk}
use Rattle.std.proofs.lemmas.List.FromFn.{length-map-range_with_len}
use Rattle.volume_model.specs.host_base.Answers.{◌>>=◌, GivesOrFails}
use Rattle.volume_model.proofs.host_base.Known.{both}
use Rattle.stream_map.specs.disk_model.Content.{Content}
use Rattle.record_model.specs.Records.{Record}
use Rattle.record_model.proofs.Answering.{steps_from_ok}
use Rattle.state_model.specs.declared.geometry.Geometry.{Geometry}
use Rattle.state_model.specs.declared.geometry.MapRefusal.{MapRefusal}
use Rattle.state_model.specs.declared.stream.Extents.{Extents}
use Rattle.state_model.specs.Loads.{table_slot, table_in, records_of, record_count, torn_refusal, rule_refusal, rule_at, first_of, unless, joined_file, files_of, files_in, table_of}
use Rattle.volume_model.specs.Volumes.{Volume, volume_of, record_block, record_bytes, record_bits, cluster_bits}
use Rattle.volume_map.specs.declared.fault.MapFault.{MapFault}
use Rattle.volume_map.specs.declared.head.Head.{Head}
use Rattle.volume_map.specs.declared.loading.TableRead.{TableRead}
use Rattle.volume_map.specs.declared.map.VolumeMap.{VolumeMap}
use Rattle.volume_map.specs.Errors.{map_cause, NeverRefused}
use Rattle.volume_map.specs.Heads.{head_at, heads_of, table_head, table_heads}
use Rattle.volume_map.specs.Maps.{volume_in, IsMapOf}
use Rattle.volume_map.proofs.Steps.{okay, okay_is}
use Rattle.volume_map.proofs.Loaded.{never}

abbrev Files : Type 0
Files = List (Option Record)

-- ---- there are as many files as records

files_counted : (c : Content) (per : ℕ) (e : Extents) (files : Files) → files_in c per e ≡ Ok files → length files ≡ record_count e
unfolding files_in files_of
files_counted c per e files is =
    let p = table_in (records_of (table_slot c per e) (record_count e)) in
    let whole = steps_from_ok (unless (first_of (λ n. torn_refusal n (table_slot c per e n)) (record_count e))) (λ _. unless (first_of (λ n. rule_refusal n (rule_at c per e n)) (record_count e)) >>= λ _. okay (files_of c per p (record_count e))) files is in
    let lawful = steps_from_ok (unless (first_of (λ n. rule_refusal n (rule_at c per e n)) (record_count e))) (λ _. okay (files_of c per p (record_count e))) files whole.2 in
    ap (λ (xs : Files). length xs) (sym (okay_is (files_of c per p (record_count e)) files lawful.2)) ∙ length-map-range_with_len (joined_file c per p (record_count e)) 0 (record_count e)

abbrev given_files : ℕ → Extents → Result TableRead MapFault → Content → Type 0
given_files per e result c = GivesOrFails (λ (r : TableRead). r.files.items) map_cause result (files_in c per e)

abbrev has_heads : ℕ → Extents → Result TableRead MapFault → Content → Type 0
has_heads per e result c = IfOk result (λ (r : TableRead). r.heads.items ≡ table_heads c per e (length r.files.items))

counted_by : (c : Content) (per : ℕ) (e : Extents) (result : Result TableRead MapFault) (walked : List Head) → IfOk result (λ (r : TableRead). r.heads.items ≡ walked) → given_files per e result c → walked ≡ table_heads c per e (record_count e) → has_heads per e result c
counted_by c per e (Ok r) walked same given read = same ∙ read ∙ ap (table_heads c per e) (sym (files_counted c per e r.files.items given))
counted_by c per e (Err fault) walked same given read = tt

-- the heads are those of as many records as there are files
pub heads_counted : (known : Option Content) (per : ℕ) (e : Extents) (result : Result TableRead MapFault) (walked : List Head) → IfOk result (λ (r : TableRead). r.heads.items ≡ walked) → IfSome known (given_files per e result)
    → IfSome known (λ c. walked ≡ table_heads c per e (record_count e)) → IfSome known (has_heads per e result)
heads_counted known per e result walked same given read = both known (given_files per e result) (λ c. walked ≡ table_heads c per e (record_count e)) (has_heads per e result) (λ c f h. counted_by c per e result walked same f h) given read

-- ---- the volume

abbrev with_files : Geometry → ℕ → Extents → Files → Volume
with_files g clusters e files = record { per = g.per_cluster; clusters = clusters; mft = g.mft; table = e; files = files }

volume_by : (c : Content) (g : Geometry) (clusters : ℕ) (e : Extents) (files : Files) → table_of c g ≡ Ok e → files_in c g.per_cluster e ≡ Ok files → volume_of c g clusters ≡ Ok (with_files g clusters e files)
unfolding volume_of
volume_by c g clusters e files table read =
    ap (λ (r : Result Extents MapRefusal). r >>= λ e. files_in c g.per_cluster e >>= λ files. okay (with_files g clusters e files)) table
    ∙ ap (λ (r : Result Files MapRefusal). r >>= λ files. okay (with_files g clusters e files)) read

answer_by : (c : Content) (g : Geometry) (clusters : ℕ) (v : Volume) (result : Result VolumeMap MapFault) → NeverRefused result → IfOk result (λ (m : VolumeMap). volume_in m ≡ v) → volume_of c g clusters ≡ Ok v → GivesOrFails volume_in map_cause result (volume_of c g clusters)
answer_by c g clusters v (Ok m) certain same is = is ∙ ap okay (sym same)
answer_by c g clusters v (Err fault) certain same is = never VolumeMap fault (volume_of c g clusters) certain

-- the answer by the table, the files, and a map of these
pub map_answered : (known : Option Content) (g : Geometry) (clusters : ℕ) (e : Extents) (files : Files) (result : Result VolumeMap MapFault) → NeverRefused result → IfOk result (λ (m : VolumeMap). volume_in m ≡ with_files g clusters e files)
    → IfSome known (λ c. table_of c g ≡ Ok e) → IfSome known (λ c. files_in c g.per_cluster e ≡ Ok files) → IfSome known (λ c. GivesOrFails volume_in map_cause result (volume_of c g clusters))
map_answered known g clusters e files result certain same table read =
    both known (λ c. table_of c g ≡ Ok e) (λ c. files_in c g.per_cluster e ≡ Ok files) (λ c. GivesOrFails volume_in map_cause result (volume_of c g clusters))
    (λ c t f. answer_by c g clusters (with_files g clusters e files) result certain same (volume_by c g clusters e files t f)) table read

-- ---- its heads and its bits

heads_are : (c : Content) (g : Geometry) (clusters : ℕ) (e : Extents) (files : Files) → table_heads c g.per_cluster e (length files) ≡ heads_of c (with_files g clusters e files)
unfolding table_heads table_head heads_of head_at record_bytes record_block
heads_are c g clusters e files = refl

abbrev has_record_bits : Result VolumeMap MapFault → Content → Type 0
has_record_bits result c = IfOk result (λ (m : VolumeMap). m.record_bits ≡ record_bits c (volume_in m))

abbrev has_cluster_bits : Result VolumeMap MapFault → Content → Type 0
has_cluster_bits result c = IfOk result (λ (m : VolumeMap). m.cluster_bits ≡ cluster_bits c (volume_in m))

parts_by : (c : Content) (g : Geometry) (clusters : ℕ) (e : Extents) (files : Files) (heads : List Head) (result : Result VolumeMap MapFault) → IfOk result (λ (m : VolumeMap). volume_in m ≡ with_files g clusters e files) → IfOk result (λ (m : VolumeMap). m.heads.items ≡ heads)
    → heads ≡ table_heads c g.per_cluster e (length files) → has_record_bits result c → has_cluster_bits result c → IfOk result (IsMapOf c)
parts_by c g clusters e files heads (Ok m) same held read records marked = record {
  heads = held ∙ read ∙ heads_are c g clusters e files ∙ ap (heads_of c) (sym same);
  records = records;
  clusters = marked;
}
parts_by c g clusters e files heads (Err fault) same held read records marked = tt

-- the map has them
pub map_parts : (known : Option Content) (g : Geometry) (clusters : ℕ) (e : Extents) (files : Files) (heads : List Head) (result : Result VolumeMap MapFault) → IfOk result (λ (m : VolumeMap). volume_in m ≡ with_files g clusters e files) → IfOk result (λ (m : VolumeMap). m.heads.items ≡ heads)
    → IfSome known (λ c. heads ≡ table_heads c g.per_cluster e (length files)) → IfSome known (has_record_bits result) → IfSome known (has_cluster_bits result) → IfSome known (λ c. IfOk result (IsMapOf c))
map_parts known g clusters e files heads result same held read records marked =
    both known (λ c. heads ≡ table_heads c g.per_cluster e (length files)) (λ c. has_record_bits result c × has_cluster_bits result c) (λ c. IfOk result (IsMapOf c))
    (λ c h bits. parts_by c g clusters e files heads result same held h bits.0 bits.1) read
    (both known (has_record_bits result) (has_cluster_bits result) (λ c. has_record_bits result c × has_cluster_bits result c) (λ c r k. (r, k)) records marked)

-- ---- a map as a premise

-- what a premise that is kept gives
pub met : (known : Option Content) (P Q : Content → Type 0) → IfSome known P → IfSome known (λ c. P c → Q c) → IfSome known Q
met known P Q are h = both known P (λ c. P c → Q c) Q (λ c p f. f p) are h
