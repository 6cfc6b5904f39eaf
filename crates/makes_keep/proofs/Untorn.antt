-- No file record of a state is torn that it is judged by, and no block of a directory's index.
use Rattle.std.proofs.Common.{◌≡◌, subst, ℕ, zero, suc, ◌+◌, ◌*◌, ◌<◌, Bool, true, false, not, cond, ◌&&◌, ◌||◌, eqb, nat_eq, List, [], Option, Some, None, refl, sym, ap, ap₂, ◌∙◌, arith}
use Rattle.std.specs.List.{list_any, range_with_len}
use Rattle.std.specs.Cmp.Lexicographic.{pointwise}
use Rattle.std.proofs.lemmas.Bool.{and_parts, or_parts, eqb-true}
use Rattle.disk_model.specs.declared.block.Block.{Block}
use Rattle.disk_model.specs.declared.block.BlockKind.{BlockKind}
use Rattle.disk_model.specs.declared.block.BlockKind.TheVariants.{Plain, FileRec, Index}
use Rattle.disk_model.specs.Content.{Content}
use Rattle.disk_model.specs.Sectors.{sectors}
use Rattle.record_model.specs.Constants.{data_type, index_allocation, names_index}
use Rattle.record_model.specs.Records.{Record}
use Rattle.state_model.specs.declared.geometry.Geometry.{Geometry}
use Rattle.state_model.specs.declared.stream.Extents.{Extents}
use Rattle.state_model.specs.declared.stream.Stream.{Stream}
use Rattle.state_model.specs.declared.stream.Stream.TheVariants.{Held, Placed}
use Rattle.state_model.specs.Files.{is_directory_record}
use Rattle.state_model.specs.Rules.{implies}
use Rattle.state_model.specs.Streams.{block_at, stream_of}
use Rattle.volume_model.specs.Volumes.{Volume, file_in, file_stream, table_file, mirror_file}
use Rattle.volume_model.specs.Sizes.{is_torn_at, begun, has_torn, stream_has_torn, keeps_untorn, keeps_streams}
use Rattle.stream_laws.specs.Owners.{holds_records, stream_kind, initialised_in, IsLive}
use Rattle.stream_laws.specs.Sharing.{StreamKey, stream_at, runs_in}
use Rattle.stream_laws.proofs.Placing.{lies}
use Rattle.stream_laws.proofs.Sharing.{same_from_test}
use Rattle.plan_owners.specs.States.{Stands}
use Rattle.plan_owners.proofs.Standing.{streams_at}

any_at : (f : ℕ → Bool) (a n i : ℕ) → list_any f (range_with_len a n) ≡ false → i < n → f (a + i) ≡ false
any_at f a zero i none lt = absurd (omega (arith, lt))
any_at f a (suc n) zero none lt = ap f (omega arith) ∙ (or_parts (f a) (list_any f (range_with_len (a + 1) n)) none).0
any_at f a (suc n) (suc i) none lt = ap f (omega arith) ∙ any_at f (a + 1) n i (or_parts (f a) (list_any f (range_with_len (a + 1) n)) none).1 (omega (arith, lt))

untorn_at : (c : Content) (per : ℕ) (kind : BlockKind) (size : ℕ) (e : Extents) (i : ℕ) (b : Block) → has_torn c per kind size e ≡ false → i < begun size e.initialised → block_at per e.runs kind i ≡ Some b → (c b).torn ≡ false
unfolding has_torn
untorn_at c per kind size e i b none lt at =
    let same : i ≡ 0 + i = omega arith in
    sym (ap (is_torn_at c) at) ∙ ap (λ (k : ℕ). is_torn_at c (block_at per e.runs kind k)) same ∙ any_at (λ (k : ℕ). is_torn_at c (block_at per e.runs kind k)) 0 (begun size e.initialised) i none lt

asked : (a x : Bool) → implies a (not x) ≡ true → a ≡ true → x ≡ false
asked true false is holds = refl
asked true true is holds = absurd cc
asked false x is holds = absurd cc

-- ---- a stream in clusters

placed_of : (o : Option Stream) (x : ℕ) → x < initialised_in o → (e : Extents) × (o ≡ Some (Placed e))
placed_of None x lt = absurd (omega (arith, lt))
placed_of (Some (Held value)) x lt = absurd (omega (arith, lt))
placed_of (Some (Placed e)) x lt = (e, refl)

file_of : (kind : ℕ) (name : List ℕ) (o : Option Record) (s : Stream) → file_stream kind name o ≡ Some s → (r : Record) × (o ≡ Some r)
file_of kind name None s is = absurd cc
file_of kind name (Some r) s is = (r, refl)

untorn_stream : (c : Content) (per : ℕ) (kind : BlockKind) (size : ℕ) (o : Option Stream) (i : ℕ) (b : Block) → stream_has_torn c per kind size o ≡ false → i < begun size (initialised_in o) → block_at per (runs_in o) kind i ≡ Some b → (c b).torn ≡ false
untorn_stream c per kind size None i b none lt at = absurd (nothing at)
  where
    nothing : block_at per [] kind i ≡ Some b → ⊥
    nothing is = (let there = (lies per [] kind i b is).found in absurd cc)
untorn_stream c per kind size (Some (Held value)) i b none lt at = absurd (nothing at)
  where
    nothing : block_at per [] kind i ≡ Some b → ⊥
    nothing is = (let there = (lies per [] kind i b is).found in absurd cc)
untorn_stream c per kind size (Some (Placed e)) i b none lt at = untorn_at c per kind size e i b none lt at

-- ---- the kind of a stream's blocks

of_records : (h k : Bool) → cond h FileRec (cond k Index Plain) ≡ FileRec → h ≡ true
of_records true k is = refl
of_records false true is = absurd cc
of_records false false is = absurd cc

pub of_indexes : (h k : Bool) → cond h FileRec (cond k Index Plain) ≡ Index → k ≡ true
of_indexes true k is = absurd cc
of_indexes false true is = refl
of_indexes false false is = absurd cc

pub index_type : (t : StreamKey) → stream_kind t ≡ Index → t.kind ≡ index_allocation
unfolding stream_kind
index_type t is = eqb-true t.kind index_allocation (of_indexes (holds_records t) (eqb t.kind index_allocation) is)

module _ (c : Content) (g : Geometry) (clusters : ℕ) (v : Volume) (state : Stands c g clusters v) where
  rule : (n : ℕ) (r : Record) → file_in v n ≡ Some r → keeps_untorn c v.per n r ≡ true
  unfolding keeps_streams
  rule n r is = (and_parts _ _ (streams_at c g clusters v n r state is)).1

  of_file : (n : ℕ) (r : Record) → file_in v n ≡ Some r → (implies ((eqb n table_file) || (eqb n mirror_file)) (not (stream_has_torn c v.per FileRec 1024 (stream_of data_type [] r.attrs))) ≡ true) × (implies (is_directory_record r) (not (stream_has_torn c v.per Index 4096 (stream_of index_allocation names_index r.attrs))) ≡ true)
  unfolding keeps_untorn
  of_file n r is = and_parts _ _ (rule n r is)

  records_kept : (t : StreamKey) (e : Extents) → stream_kind t ≡ FileRec → stream_at v t ≡ Some (Placed e) → stream_has_torn c v.per FileRec 1024 (stream_at v t) ≡ false
  unfolding stream_kind
  records_kept t e is placed =
      let file = file_of t.kind t.name (file_in v t.file) (Placed e) placed in
      let holds = and_parts ((eqb t.file table_file || eqb t.file mirror_file) && eqb t.kind data_type) (pointwise nat_eq t.name []) (of_records (holds_records t) (eqb t.kind index_allocation) is) in
      let parts = and_parts (eqb t.file table_file || eqb t.file mirror_file) (eqb t.kind data_type) holds.0 in
      let kind : t.kind ≡ data_type = eqb-true t.kind data_type parts.1 in
      let name : t.name ≡ [] = same_from_test t.name [] holds.1 in
      ap (stream_has_torn c v.per FileRec 1024) (ap (file_stream t.kind t.name) file.1 ∙ ap₂ (λ (k : ℕ) (l : List ℕ). stream_of k l file.0.attrs) kind name)
      ∙ asked (eqb t.file table_file || eqb t.file mirror_file) (stream_has_torn c v.per FileRec 1024 (stream_of data_type [] file.0.attrs)) (of_file t.file file.0 file.1).0 parts.0

  -- a record of the file table or of its mirror
  pub record_untorn : (b : Block) → IsLive v b → b.kind ≡ FileRec → (c b).torn ≡ false
  record_untorn b live kind =
      let t : StreamKey = live.owned.stream in
      let is : stream_kind t ≡ FileRec = (lies v.per (runs_in (stream_at v t)) (stream_kind t) live.owned.number b live.owned.lies).kind_is ∙ kind in
      let begins : 512 * (2 * live.owned.number) < initialised_in (stream_at v t) = subst (λ (k : BlockKind). 512 * (sectors k * live.owned.number) < initialised_in (stream_at v t)) is live.begins in
      let e = placed_of (stream_at v t) (512 * (2 * live.owned.number)) begins in
      untorn_stream c v.per FileRec 1024 (stream_at v t) live.owned.number b (records_kept t e.0 is e.1) (omega (arith, begins)) (subst (λ (k : BlockKind). block_at v.per (runs_in (stream_at v t)) k live.owned.number ≡ Some b) is live.owned.lies)

  -- a block of a directory's index
  pub node_untorn : (n : ℕ) (r : Record) (b : Block) (live : IsLive v b) → file_in v n ≡ Some r → is_directory_record r ≡ true → live.owned.stream ≡ record { file = n; kind = index_allocation; name = names_index } → b.kind ≡ Index → (c b).torn ≡ false
  node_untorn n r b live file directory stream kind =
      let t : StreamKey = live.owned.stream in
      let is : stream_kind t ≡ Index = (lies v.per (runs_in (stream_at v t)) (stream_kind t) live.owned.number b live.owned.lies).kind_is ∙ kind in
      let begins : 512 * (8 * live.owned.number) < initialised_in (stream_at v t) = subst (λ (k : BlockKind). 512 * (sectors k * live.owned.number) < initialised_in (stream_at v t)) is live.begins in
      let here : stream_at v t ≡ stream_of index_allocation names_index r.attrs = ap (stream_at v) stream ∙ ap (file_stream index_allocation names_index) file in
      let none : stream_has_torn c v.per Index 4096 (stream_at v t) ≡ false = ap (stream_has_torn c v.per Index 4096) here ∙ asked (is_directory_record r) (stream_has_torn c v.per Index 4096 (stream_of index_allocation names_index r.attrs)) (of_file n r file).1 directory in
      untorn_stream c v.per Index 4096 (stream_at v t) live.owned.number b none (omega (arith, begins)) (subst (λ (k : BlockKind). block_at v.per (runs_in (stream_at v t)) k live.owned.number ≡ Some b) is live.owned.lies)
