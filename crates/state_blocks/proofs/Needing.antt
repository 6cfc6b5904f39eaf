-- Two contents that agree on the blocks from which a state is read.
use Rattle.std.proofs.Common.{◌≡◌, ◌≢◌, subst, ℕ, ◌*◌, ◌<◌, Bool, true, false, ◌&&◌, ◌||◌, cond, eqb, nat_eq, List, [], Option, Some, None, refl, sym, ap, ap₂, ◌∙◌, inl, inr, arith}
use Rattle.std.specs.Cmp.Lexicographic.{pointwise}
use Rattle.std.proofs.lemmas.Bool.{cases_Bool, cases_lt, both_ways, false_from_ne_true, le-leb, lt-leb, ne_eqb}
use Rattle.disk_model.specs.declared.block.Block.{Block}
use Rattle.disk_model.specs.declared.block.Body.{Body}
use Rattle.disk_model.specs.declared.block.BlockKind.{BlockKind}
use Rattle.disk_model.specs.declared.block.BlockKind.TheVariants.{Plain, FileRec}
use Rattle.disk_model.specs.Sectors.{sectors}
use Rattle.disk_model.specs.Content.{Content}
use Rattle.plan_owners.specs.record_model.Records.{Record}
use Rattle.plan_owners.specs.record_model.Constants.{attribute_list, data_type, bitmap_type}
use Rattle.plan_owners.specs.state_model.declared.geometry.Geometry.{Geometry}
use Rattle.plan_owners.specs.state_model.declared.stream.Extents.{Extents}
use Rattle.plan_owners.specs.state_model.declared.stream.Stream.{Stream}
use Rattle.plan_owners.specs.state_model.declared.stream.Stream.TheVariants.{Held, Placed}
use Rattle.plan_owners.specs.state_model.Files.{file_at}
use Rattle.plan_owners.specs.state_model.Loads.{Torn, slot_of, record_count, torn_refusal, list_stream, extents_or, table_in}
use Rattle.plan_owners.specs.state_model.Streams.{block_at}
use Rattle.plan_owners.specs.volume_model.Volumes.{Volume, file_in, file_stream, block_bytes, record_block, record_bytes, record_bits, cluster_bits, record_bitmap, table_file, mirror_file, log_file, bitmap_file, upcase_file, upper_of}
use Rattle.plan_owners.specs.stream_laws.Frames.{SameBytesInSome, SameRecordIn}
use Rattle.plan_owners.specs.stream_laws.Owners.{stream_kind, initialised_in}
use Rattle.plan_owners.specs.stream_laws.Sharing.{StreamKey, stream_at, runs_in}
use Rattle.plan_owners.specs.stream_laws.Tables.{table_key}
use Rattle.plan_owners.specs.stream_laws.Volumes.{base_record}
use Rattle.plan_owners.proofs.stream_laws.Framing.{same_records}
use Rattle.plan_owners.proofs.stream_laws.Loading.{same_cluster_bits, same_record_bits}
use Rattle.plan_owners.proofs.stream_laws.Recording.{record_read}
use Rattle.plan_owners.proofs.stream_laws.Rewriting.{parts_of_files}
use Rattle.plan_owners.proofs.stream_laws.Tabling.{table_extents_is, table_runs}
use Rattle.plan_owners.proofs.tree_laws.Agreeing.{same_upper}
use Rattle.plan_owners.specs.States.{Stands}
use Rattle.plan_owners.specs.Agreeing.{AgreeOnOwned, IsJudged, list_key, log_key}
use Rattle.plan_owners.proofs.Standing.{loaded_files, begins}
use Rattle.state_blocks.specs.Needing.{IsListed, IsNeeded, AgreeOnNeeded}

body_with : List ℕ → Bool → Body
body_with bytes torn = record { bytes = bytes; torn = torn }

-- ---- attribute lists

listed_bytes : (c d : Content) (v : Volume) (n : ℕ) (r : Record) → AgreeOnNeeded c d v → base_record c v.per v.table n ≡ Some r → (o : Option Stream) → list_stream r ≡ o → SameBytesInSome c d v.per o
listed_bytes c d v n r k file None is = tt
listed_bytes c d v n r k file (Some (Held value)) is = tt
listed_bytes c d v n r k file (Some (Placed e)) is = λ b read. (k.bodies b (inr (record { number = n; file = r; is_file = file; list = e; is_list = is; read = read }))).0

pub agree_owned : (c d : Content) (v : Volume) → AgreeOnNeeded c d v → AgreeOnOwned c d v
agree_owned c d v k = record {
  bytes = λ b judged. (k.bodies b (inl judged)).0;
  torn = λ b judged. (k.bodies b (inl judged)).1;
  lists = λ n r file. listed_bytes c d v n r k file (list_stream r) refl;
  void = k.void;
}

-- ---- streams of sectors

plain_data : (n : ℕ) → n ≢ table_file → n ≢ mirror_file → stream_kind (record { file = n; kind = data_type; name = [] }) ≡ Plain
unfolding stream_kind
plain_data n one two = ap₂ (λ (a b : Bool). cond ((a || b) && true && true) FileRec Plain) (ne_eqb n table_file one) (ne_eqb n mirror_file two)

plain_bitmap : stream_kind (record { file = table_file; kind = bitmap_type; name = [] }) ≡ Plain
unfolding stream_kind
plain_bitmap = refl

other_file : (s : StreamKey) → s.file ≢ log_file → s ≢ log_key
other_file s not same = not (ap (λ (k : StreamKey). k.file) same)

live_block : (v : Volume) (s : StreamKey) (e : Extents) (n : ℕ) (b : Block) → stream_at v s ≡ Some (Placed e) → stream_kind s ≡ Plain → s ≢ log_key → block_at v.per e.runs Plain n ≡ Some b → 512 * n < e.initialised → IsJudged v b
live_block v s e n b is plain other place below = record {
  live = record {
    owned = record { stream = s; number = n; lies = ap₂ (λ (o : Option Stream) (k : BlockKind). block_at v.per (runs_in o) k n) is plain ∙ place };
    begins = subst (λ (k : BlockKind). 512 * (sectors k * n) < initialised_in (stream_at v s)) (sym plain) (subst (λ (x : ℕ). 512 * (1 * n) < x) (sym (ap initialised_in is)) (omega arith));
  };
  other = other;
}

-- the block of an attribute list of which no other record has a part is owned as the others are
plain_list : (n : ℕ) (name : List ℕ) → stream_kind (record { file = n; kind = attribute_list; name = name }) ≡ Plain
unfolding stream_kind
plain_list n name = no_records ((eqb n table_file) || (eqb n mirror_file)) (pointwise nat_eq name [])
  where
    no_records : (a b : Bool) → cond (a && false && b) FileRec Plain ≡ Plain
    no_records true b = refl
    no_records false b = refl

pub listed_judged : (c : Content) (v : Volume) (b : Block) (listed : IsListed c v b) → stream_at v (list_key listed.number listed.file) ≡ list_stream listed.file → IsJudged v b
listed_judged c v b listed same =
    let key = list_key listed.number listed.file in
    let low = listed.read.below in
    live_block v key listed.list listed.read.sector b (same ∙ listed.is_list) (plain_list listed.number key.name) (λ is. other_kind (ap (λ (k : StreamKey). k.kind) is)) listed.read.lies (omega arith)
  where
    other_kind : attribute_list ≡ data_type → ⊥
    other_kind is = omega (arith, is)

module _ (c d : Content) (v : Volume) (k : AgreeOnNeeded c d v) where
  same_in : (key : StreamKey) (o : Option Stream) → stream_kind key ≡ Plain → key ≢ log_key → stream_at v key ≡ o → SameBytesInSome c d v.per o
  same_in key None plain other is = tt
  same_in key (Some (Held value)) plain other is = tt
  same_in key (Some (Placed e)) plain other is = λ b read. (let low = read.below in (k.bodies b (inl (live_block v key e read.sector b is plain other read.lies (omega arith)))).0)

  same_data : (n : ℕ) → n ≢ table_file → n ≢ mirror_file → n ≢ log_file → SameBytesInSome c d v.per (file_stream data_type [] (file_in v n))
  same_data n one two three = same_in (record { file = n; kind = data_type; name = [] }) (file_stream data_type [] (file_in v n)) (plain_data n one two) (other_file (record { file = n; kind = data_type; name = [] }) three) refl

  pub units_same : upper_of d v ≡ upper_of c v
  units_same = same_upper c d v (same_data upcase_file (λ e. omega (arith, e)) (λ e. omega (arith, e)) (λ e. omega (arith, e)))

  pub clusters_same : cluster_bits d v ≡ cluster_bits c v
  clusters_same = same_cluster_bits c d v (same_data bitmap_file (λ e. omega (arith, e)) (λ e. omega (arith, e)) (λ e. omega (arith, e)))

  pub records_same : record_bits d v ≡ record_bits c v
  records_same = same_record_bits c d v (same_in (record { file = table_file; kind = bitmap_type; name = [] }) (record_bitmap v) plain_bitmap (other_file (record { file = table_file; kind = bitmap_type; name = [] }) (λ e. omega (arith, e))) refl)

-- ---- records

whole_body : (x y : Body) → y.bytes ≡ x.bytes → (y.torn ≡ true → x.torn ≡ true) → x.torn ≡ false → y ≡ x
unfolding body_with
whole_body x y bytes torn whole =
    let also : y.torn ≡ false = false_from_ne_true y.torn (λ is. both_ways x.torn whole (torn is)) in
    ap₂ body_with bytes (also ∙ sym whole)

whole_slot : (c : Content) (b : Block) (n : ℕ) → torn_refusal n (slot_of (c b)) ≡ None → (c b).torn ≡ false
unfolding slot_of
whole_slot c b n none = elim (cases_Bool (c b).torn) [
  | inl torn ↦ absurd (refused n (rw torn at none))
  | inr whole ↦ whole
]
  where
    refused : (n : ℕ) → torn_refusal n Torn ≡ None → ⊥
    refused n is = absurd cc

module _ (c d : Content) (g : Geometry) (clusters : ℕ) (v : Volume) (s : Stands c g clusters v) (k : AgreeOnNeeded c d v) where
  table_size : initialised_in (stream_at v table_key) ≡ v.table.initialised
  table_size = of_extents (stream_at v table_key) ∙ ap (λ (e : Extents). e.initialised) (table_extents_is c g clusters v (begins c g clusters v s))
    where
      of_extents : (o : Option Stream) → initialised_in o ≡ (extents_or o).initialised
      of_extents None = refl
      of_extents (Some (Held value)) = refl
      of_extents (Some (Placed e)) = refl

  record_live : (n : ℕ) (b : Block) → 1024 * n < v.table.initialised → block_at v.per v.table.runs FileRec n ≡ Some b → IsJudged v b
  unfolding stream_kind
  record_live n b below place = record {
    live = record {
      owned = record { stream = table_key; number = n; lies = ap (λ l. block_at v.per l FileRec n) (table_runs c g clusters v (begins c g clusters v s)) ∙ place };
      begins = subst (λ (x : ℕ). 512 * (2 * n) < x) (sym table_size) (omega arith);
    };
    other = other_file table_key (λ e. omega (arith, e));
  }

  same_record : (n : ℕ) → n < record_count v.table → SameRecordIn c d v.per v.table n
  same_record n below b at =
      let kept = k.bodies b (inl (record_live n b at.below at.lies)) in
      let none = (parts_of_files c v.per v.table v.files (loaded_files c g clusters v s.loaded)).0 n below in
      whole_body (c b) (d b) kept.0 kept.1 (whole_slot c b n (sym (ap (torn_refusal n) (record_read c v.per v.table n b at.below at.lies)) ∙ none))

  base_same : (n : ℕ) → base_record d v.per v.table n ≡ base_record c v.per v.table n
  base_same n = ap (λ (l : List (Option Record)). file_at (table_in l) n) (same_records c d v.per v.table (record_count v.table) same_record)

  pub needed_before : (b : Block) → IsNeeded d v b → IsNeeded c v b
  needed_before b (inl judged) = inl judged
  needed_before b (inr listed) = inr (record { number = listed.number; file = listed.file; is_file = sym (base_same listed.number) ∙ listed.is_file; list = listed.list; is_list = listed.is_list; read = listed.read })

  pub bytes_same : (n : ℕ) → record_bytes d v n ≡ record_bytes c v n
  unfolding record_bytes record_block
  bytes_same n = elim (cases_lt (1024 * n) v.table.initialised) [
    | inl below ↦ ap (λ (t : Bool). block_bytes d (cond t None (block_at v.per v.table.runs FileRec n))) (lt-leb v.table.initialised (1024 * n) below)
        ∙ at_block (block_at v.per v.table.runs FileRec n) refl below
        ∙ sym (ap (λ (t : Bool). block_bytes c (cond t None (block_at v.per v.table.runs FileRec n))) (lt-leb v.table.initialised (1024 * n) below))
    | inr past ↦ ap (λ (t : Bool). block_bytes d (cond t None (block_at v.per v.table.runs FileRec n))) (le-leb v.table.initialised (1024 * n) past)
        ∙ sym (ap (λ (t : Bool). block_bytes c (cond t None (block_at v.per v.table.runs FileRec n))) (le-leb v.table.initialised (1024 * n) past))
  ]
    where
      at_block : (o : Option Block) → block_at v.per v.table.runs FileRec n ≡ o → 1024 * n < v.table.initialised → block_bytes d o ≡ block_bytes c o
      at_block None is below = refl
      at_block (Some b) is below = (k.bodies b (inl (record_live n b below is))).0
