-- The data of record 2, as it is found where the boot sector says, is of a file of the volume, and lies in clusters that the volume has once.
use Rattle.std.proofs.Common.{◌≡◌, ℕ, ◌+◌, ◌*◌, ◌<◌, ◌≤◌, Bool, true, false, List, [], ◌++◌, Option, Some, None, Result, Ok, refl, sym, ap, ◌∙◌, inl, inr, arith}
use Rattle.std.specs.List.{sum_by, flat_map, range_with_len}
use Rattle.std.proofs.lemmas.Bool.{cases_lt, and_parts, eqb-true}
use Rattle.std.proofs.lemmas.List.Sums.{sum_by-append}
use Rattle.disk_model.specs.declared.block.Block.{Block}
use Rattle.disk_model.specs.declared.block.Body.{Body}
use Rattle.disk_model.specs.declared.block.BlockKind.{BlockKind}
use Rattle.disk_model.specs.declared.block.BlockKind.TheVariants.{FileRec}
use Rattle.disk_model.specs.Content.{Content}
use Rattle.record_model.specs.declared.attribute.Attr.{Attr}
use Rattle.record_model.specs.Records.{Record}
use Rattle.record_model.specs.Constants.{data_type}
use Rattle.volume_mount.specs.state_model.declared.geometry.Geometry.{Geometry}
use Rattle.volume_mount.specs.state_model.declared.geometry.MapRefusal.{MapRefusal}
use Rattle.volume_mount.specs.state_model.declared.stream.Extents.{Extents}
use Rattle.volume_mount.specs.state_model.declared.stream.Stream.{Stream}
use Rattle.volume_mount.specs.state_model.declared.stream.Stream.TheVariants.{Placed}
use Rattle.volume_mount.specs.state_model.Streams.{attribute_runs, block_at, stream_of}
use Rattle.volume_mount.specs.state_model.Loads.{Slot, Used, slot_of, slot_by, slot_at, table_slot, judged, boot_block, data_stream, record_count, entries_of, named_attrs, all_attrs, whole_record}
use Rattle.volume_mount.specs.volume_model.Volumes.{Volume, file_in, log_file}
use Rattle.volume_mount.specs.volume_model.Owners.{volume_runs, uses}
use Rattle.volume_mount.specs.volume_model.Sizes.{is_at, placed_record, keeps_place}
use Rattle.volume_mount.specs.stream_laws.Places.{AreOnce}
use Rattle.volume_mount.specs.stream_laws.Sharing.{runs_in}
use Rattle.volume_mount.proofs.stream_laws.Placing.{lies}
use Rattle.volume_mount.proofs.stream_laws.Sharing.{attr_uses, file_uses, uses-flat_map, volume_sum, stream_of_file, file_weight}
use Rattle.volume_mount.proofs.stream_laws.Counting.{one_of_all}
use Rattle.volume_mount.proofs.stream_laws.Rewriting.{volume_parts}
use Rattle.volume_mount.proofs.stream_laws.Tabling.{used_part}
use Rattle.plan_owners.proofs.tree_laws.Keeping.{rules_of}
use Rattle.plan_owners.specs.States.{Stands}
use Rattle.plan_owners.proofs.Standing.{slots, FileParts, file_parts, some_file, rule_4_parts}
use Rattle.plan_owners.proofs.Outside.{unused_outside, once}

-- ---- clusters

less_of_more : (base f : Record) (more : List Attr) (x : ℕ) → f.attrs ≡ base.attrs ++ more → file_uses x (Some base) ≤ file_uses x (Some f)
less_of_more base f more x is =
    let all : file_uses x (Some f) ≡ sum_by (attr_uses x) (base.attrs ++ more) = uses-flat_map attribute_runs f.attrs x ∙ ap (sum_by (attr_uses x)) is in
    omega (arith, all, sum_by-append (attr_uses x) base.attrs more, uses-flat_map attribute_runs base.attrs x)

record_with : Record → List Attr → Record
record_with r attrs = record { head = r.head; attrs = attrs }

module _ (c : Content) (g : Geometry) (clusters : ℕ) (v : Volume) (s : Stands c g clusters v) (f : Record) (is : file_in v log_file ≡ Some f) where
  abbrev pub parts : FileParts c v log_file f
  parts = file_parts c g clusters v log_file f s.loaded (some_file v log_file f is)

  abbrev pub more : List Attr
  more = flat_map (λ m. named_attrs (entries_of c v.per parts.base).entries log_file parts.base m (slots c v m)) (range_with_len 0 (record_count v.table))

  pub own_attrs : f.attrs ≡ parts.base.attrs ++ more
  unfolding all_attrs
  own_attrs = ap (λ (r : Record). r.attrs) parts.whole

  in_volume : (x : ℕ) → file_uses x (Some parts.base) ≤ uses (volume_runs v.files) x
  in_volume x =
      let mine = less_of_more parts.base f more x own_attrs in
      let there : file_uses x (file_in v log_file) ≡ file_uses x (Some f) = ap (file_uses x) is in
      omega (arith, mine, there, file_weight v log_file x, one_of_all (file_uses x) v.files log_file, volume_sum v.files x)

  data_uses : (e : Extents) (x : ℕ) → data_stream parts.base ≡ Some (Placed e) → uses e.runs x ≤ uses (volume_runs v.files) x
  unfolding data_stream
  data_uses e x placed =
      let runs : uses (runs_in (stream_of data_type [] parts.base.attrs)) x ≡ uses e.runs x = ap (λ (o : Option Stream). uses (runs_in o) x) placed in
      omega (arith, runs, stream_of_file data_type [] (Some parts.base) x, in_volume x)

  pub data_once : (e : Extents) → data_stream parts.base ≡ Some (Placed e) → AreOnce e.runs
  data_once e placed x = omega (arith, data_uses e x placed, once c g clusters v s x)

  pub data_inside : (e : Extents) (x : ℕ) → data_stream parts.base ≡ Some (Placed e) → 1 ≤ uses e.runs x → x < v.clusters
  data_inside e x placed some = elim (cases_lt x v.clusters) [
    | inl below ↦ below
    | inr past ↦ (let none = unused_outside c g clusters v x s past in absurd (omega (arith, some, data_uses e x placed, none)))
  ]

  -- ---- the record

  second_place : keeps_place v ≡ true → is_at (v.mft * v.per + 2 * 2) (placed_record v 2) ≡ true
  unfolding keeps_place
  second_place placed = (and_parts _ _ (and_parts _ _ (and_parts _ _ placed).1).1).0

  at_place : (first : ℕ) (o : Option Block) → is_at first o ≡ true → (b : Block) × (o ≡ Some b) × (b.first ≡ first)
  at_place first None at = absurd cc
  at_place first (Some b) at = (b, refl, eqb-true b.first first at)

  block_with : ℕ → BlockKind → Block
  block_with first kind = record { first = first; kind = kind }

  its_block : block_at v.per v.table.runs FileRec 2 ≡ Some (boot_block g 2)
  unfolding block_with
  its_block =
      let p = volume_parts c g clusters v s.loaded in
      let at = at_place (v.mft * v.per + 2 * 2) (placed_record v 2) (second_place (rule_4_parts c v (rules_of c v s.kept).rule_4).0) in
      let kind = (lies v.per v.table.runs FileRec 2 at.0 at.1).kind_is in
      let first : at.0.first ≡ g.mft * g.per_cluster + 2 * 2 = at.2 ∙ ap (λ (x : ℕ). x * v.per + 2 * 2) (sym p.place) ∙ ap (λ (x : ℕ). g.mft * x + 2 * 2) (sym p.per) in
      at.1 ∙ ap (λ (x : ℕ). Some (block_with x at.0.kind)) first ∙ ap (λ (k : BlockKind). Some (block_with (g.mft * g.per_cluster + 2 * 2) k)) (sym kind)

  pub its_slot : slot_of (c (boot_block g 2)) ≡ Used parts.base
  unfolding table_slot
  its_slot = sym (ap (slot_at c) its_block) ∙ used_part v.table.initialised (1024 * 2) (slot_at c (block_at v.per v.table.runs FileRec 2)) parts.base parts.slot

-- ---- a record that is read alone

torn_refused : (torn : Bool) (slot : Slot) (bytes : List ℕ) (file : Option Record) → judged 2 (slot_by whole_record (record { bytes = bytes; torn = torn })) ≡ Ok file → torn ≡ false
torn_refused true slot bytes file is = absurd cc
torn_refused false slot bytes file is = refl

pub not_torn : (b : Body) (file : Option Record) → judged 2 (slot_of b) ≡ Ok file → b.torn ≡ false
unfolding slot_of
not_torn b file is = torn_refused b.torn (slot_of b) b.bytes file is

pub judged_used : (slot : Slot) (r : Record) (file : Option Record) → slot ≡ Used r → judged 2 slot ≡ Ok file → file ≡ Some r
judged_used slot r file used is = let j : judged 2 slot ≡ Ok (Some r) = ap (judged 2) used in let both : ◌≡◌ {A = Result (Option Record) MapRefusal} (Ok file) (Ok (Some r)) = sym is ∙ j in cc
