-- What writes leave that go to the blocks of a few streams and of a few file records.
use Rattle.std.proofs.Common.{◌≡◌, ◌≢◌, ◌⊎◌, ℕ, ◌<◌, Bool, true, false, cond, eqb, List, [], ◌∷◌, Option, Some, None, refl, sym, ap, subst, ◌∙◌, inl, inr, arith}
use Rattle.std.proofs.lemmas.Bool.{cases_Bool, both_ways, eqb-true, ne_eqb}
use Rattle.volume_state.specs.disk_model.declared.block.Block.{Block}
use Rattle.volume_state.specs.disk_model.declared.block.BlockKind.TheVariants.{FileRec}
use Rattle.volume_state.specs.disk_model.Content.{Content, HasSizes}
use Rattle.volume_state.specs.disk_model.Laws.{IsElsewhere}
use Rattle.volume_state.specs.disk_model.Writes.{Write, overlay}
use Rattle.volume_state.specs.record_model.declared.runs.Run.{Run}
use Rattle.volume_state.specs.record_model.Records.{Record}
use Rattle.volume_state.specs.record_model.Constants.{data_type, names_index, index_allocation, bitmap_type}
use Rattle.volume_state.specs.file_tree.declared.node.Kind.TheVariants.{Directory, System}
use Rattle.volume_state.specs.bit_set.Bits.{bit}
use Rattle.volume_state.specs.state_model.declared.geometry.Geometry.{Geometry}
use Rattle.volume_state.specs.state_model.declared.stream.Stream.{Stream}
use Rattle.volume_state.specs.state_model.declared.stream.Stream.TheVariants.{Held, Placed}
use Rattle.volume_state.specs.state_model.Files.{is_directory_record}
use Rattle.volume_state.specs.state_model.Loads.{data_stream}
use Rattle.volume_state.specs.state_model.Streams.{stream_of, block_at}
use Rattle.volume_state.specs.state_model.Trees.{is_system}
use Rattle.volume_state.specs.volume_model.Volumes.{Volume, count_of, file_in, file_stream, table_file, upcase_file, record_bits, upper_of}
use Rattle.volume_state.specs.volume_model.Indexes.{void_block, index_block, index_stream}
use Rattle.volume_state.specs.volume_model.Nodes.{kind_in, shows_data}
use Rattle.volume_state.specs.Journals.{entries_name, file_or_none, journal_file}
use Rattle.stream_laws.specs.Changes.{AreElsewhere, LeavesBytes, LeavesRecord, LeavesIndex}
use Rattle.stream_laws.specs.Frames.{IsRecordBlock, SameRecordIn, SameIndexIn}
use Rattle.stream_laws.specs.Leaving.{IsInAnother, LiesFree, SpareStream}
use Rattle.stream_laws.specs.Sharing.{StreamKey, stream_at, runs_in}
use Rattle.stream_laws.specs.Tables.{table_key}
use Rattle.stream_laws.proofs.Changing.{body_elsewhere, bytes_agree, record_agrees}
use Rattle.stream_laws.proofs.Leaving.{bytes_left, index_left, record_left}
use Rattle.stream_laws.proofs.Recording.{leaves}
use Rattle.stream_laws.proofs.Tabling.{table_runs, table_once}
use Rattle.tree_laws.specs.Contents.{SameUpper, SameIndexAt, SameShownAt, SameEntries, AgreeBut}
use Rattle.tree_laws.specs.Changed.{AgreesElsewhere}
use Rattle.tree_laws.specs.Parts.{journal_number}
use Rattle.tree_laws.specs.Planned.{IsInStream, IsInRecord, WritesWithin, SparesOthers}
use Rattle.tree_laws.proofs.Ascending.{all_by}
use Rattle.tree_laws.proofs.Agreeing.{no_more_torn}

-- ---- streams and records that aren't written to

another : (streams : StreamKey → Bool) (s t : StreamKey) → streams s ≡ false → streams t ≡ true → s ≢ t
another streams s t not_s is_t same = both_ways (streams t) (sym (ap streams same) ∙ not_s) is_t

module _ (streams : StreamKey → Bool) (records : ℕ → Bool) (c : Content) (g : Geometry) (clusters : ℕ) (v : Volume) (writes : List Write) (k : WritesWithin streams records c g clusters v writes) where
  -- a block of a record is one of the file table
  in_table : (w : Write) (n : ℕ) → block_at v.per v.table.runs FileRec n ≡ Some w.block → block_at v.per (runs_in (stream_at v table_key)) FileRec n ≡ Some w.block
  in_table w n lies = ap (λ (runs : List Run). block_at v.per runs FileRec n) (table_runs c g clusters v k.begins) ∙ lies

  elsewhere : (s : StreamKey) → streams s ≡ false → table_key ≢ s → (w : Write) → IsInStream streams v w ⊎ IsInRecord records v w ⊎ LiesFree v w.block → IsInAnother v s w ⊎ LiesFree v w.block
  elsewhere s other no_table w (inl is) = inl (record { stream = is.stream; differs = another streams s is.stream other is.chosen; kind = is.kind; number = is.number; lies = is.lies })
  elsewhere s other no_table w (inr (inl is)) = inl (record { stream = table_key; differs = λ same. no_table (sym same); kind = FileRec; number = is.number; lies = in_table w is.number is.lies })
  elsewhere s other no_table w (inr (inr free)) = inr free

  all_elsewhere : (s : StreamKey) → streams s ≡ false → table_key ≢ s → SpareStream v s writes
  all_elsewhere s other no_table = all_by (λ w. IsInStream streams v w ⊎ IsInRecord records v w ⊎ LiesFree v w.block) (λ w. IsInAnother v s w ⊎ LiesFree v w.block) (elsewhere s other no_table) writes k.each

  stream_left : (s : StreamKey) → streams s ≡ false → table_key ≢ s → LeavesBytes writes v.per (stream_at v s)
  stream_left s other no_table = bytes_left v s writes k.some k.once (all_elsewhere s other no_table)

  allocation_left : (s : StreamKey) → streams s ≡ false → table_key ≢ s → AreElsewhere writes void_block → LeavesIndex writes v.per (stream_at v s)
  allocation_left s other no_table void = index_left v s writes k.some k.once (all_elsewhere s other no_table) void

  one_elsewhere : (n : ℕ) → records n ≡ false → (b : Block) → IsRecordBlock v.per v.table n b → (w : Write) → IsInStream streams v w ⊎ IsInRecord records v w ⊎ LiesFree v w.block → IsElsewhere b w
  one_elsewhere n other b lies w (inl is) =
      let in_other : IsInAnother v table_key w = record { stream = is.stream; differs = another streams table_key is.stream k.no_table is.chosen; kind = is.kind; number = is.number; lies = is.lies } in
      (record_left c g clusters v (w ∷ []) n k.begins k.some k.once (inl in_other, tt) b lies).0
  one_elsewhere n other b lies w (inr (inl is)) =
      (leaves v.per v.table n (w ∷ []) k.some (table_once c g clusters v k.begins k.once) (record { number = is.number; differs = λ same. both_ways (records n) other (ap records (sym same) ∙ is.chosen); lies = is.lies }, tt) b lies).0
  one_elsewhere n other b lies w (inr (inr free)) = (record_left c g clusters v (w ∷ []) n k.begins k.some k.once (inr free, tt) b lies).0

  pub file_record_left : (n : ℕ) → records n ≡ false → LeavesRecord writes v.per v.table n
  file_record_left n other b lies = all_by (λ w. IsInStream streams v w ⊎ IsInRecord records v w ⊎ LiesFree v w.block) (IsElsewhere b) (one_elsewhere n other b lies) writes k.each

pub planned_bytes : (streams : StreamKey → Bool) (records : ℕ → Bool) (c : Content) (g : Geometry) (clusters : ℕ) (v : Volume) (writes : List Write) (s : StreamKey) → WritesWithin streams records c g clusters v writes → streams s ≡ false → table_key ≢ s → LeavesBytes writes v.per (stream_at v s)
planned_bytes streams records c g clusters v writes s k = stream_left streams records c g clusters v writes k s

pub planned_index : (streams : StreamKey → Bool) (records : ℕ → Bool) (c : Content) (g : Geometry) (clusters : ℕ) (v : Volume) (writes : List Write) (s : StreamKey) → WritesWithin streams records c g clusters v writes → streams s ≡ false → table_key ≢ s → AreElsewhere writes void_block → LeavesIndex writes v.per (stream_at v s)
planned_index streams records c g clusters v writes s k = allocation_left streams records c g clusters v writes k s

pub planned_record : (streams : StreamKey → Bool) (records : ℕ → Bool) (c : Content) (g : Geometry) (clusters : ℕ) (v : Volume) (writes : List Write) (n : ℕ) → WritesWithin streams records c g clusters v writes → records n ≡ false → LeavesRecord writes v.per v.table n
planned_record streams records c g clusters v writes n k = file_record_left streams records c g clusters v writes k n

-- ---- streams other than the file table

other_file : (m : ℕ) (name : List ℕ) → table_file ≢ m → table_key ≢ record { file = m; kind = data_type; name = name }
other_file m name other same = other (ap (λ (s : StreamKey). s.file) same)

other_kind : (m kind : ℕ) (name : List ℕ) → data_type ≢ kind → table_key ≢ record { file = m; kind = kind; name = name }
other_kind m kind name other same = other (ap (λ (s : StreamKey). s.kind) same)

other_name : (m kind x : ℕ) (name : List ℕ) → table_key ≢ record { file = m; kind = kind; name = x ∷ name }
other_name m kind x name same = let names : [] ≡ x ∷ name = ap (λ (s : StreamKey). s.name) same in absurd cc

-- $MFT shows no data
shows_none : (t : Bool) → shows_data (cond t Directory System) ≡ true → ⊥
shows_none true is = both_ways false refl is
shows_none false is = both_ways false refl is

table_kind : (v : Volume) (r : Record) → kind_in v table_file r ≡ cond (is_directory_record r) Directory System
unfolding kind_in is_system
table_kind v r = refl

no_table_shown : (v : Volume) (m : ℕ) (r : Record) → shows_data (kind_in v m r) ≡ true → table_file ≢ m
no_table_shown v m r shown same =
    shows_none (is_directory_record r) (ap shows_data (sym (table_kind v r) ∙ ap (λ (k : ℕ). kind_in v k r) same) ∙ shown)

-- ---- the content after the writes

index_agrees : (c : Content) (writes : List Write) (per : ℕ) (s : Option Stream) → HasSizes c → LeavesIndex writes per s → SameIndexIn c (overlay c writes) per s
index_agrees c writes per None sized left = tt
index_agrees c writes per (Some (Held value)) sized left = tt
index_agrees c writes per (Some (Placed e)) sized left = λ i below. body_elsewhere c writes (index_block per e i) sized (left i below)

of_file : (P : Option Stream → Type 0) (kind : ℕ) (name : List ℕ) (o : Option Record) (r : Record) → o ≡ Some r → P (file_stream kind name o) → P (stream_of kind name r.attrs)
of_file P kind name o r is have = subst (λ (x : Option Record). P (file_stream kind name x)) is have

when_shown : (P : Option Stream → Type 0) (t : Bool) (s : Option Stream) → P None → (t ≡ true → P s) → P (cond t s None)
when_shown P true s none some = some refl
when_shown P false s none some = none

by_number : (v : Volume) (r : Record) (o : Option ℕ) → file_or_none v o ≡ Some r → (m : ℕ) × (o ≡ Some m) × (file_in v m ≡ Some r)
by_number v r None is = absurd cc
by_number v r (Some m) is = (m, refl, is)

pub holder_number : (v : Volume) (upper : List ℕ) (r : Record) → journal_file upper v ≡ Some r → (m : ℕ) × (journal_number upper v ≡ Some m) × (file_in v m ≡ Some r)
unfolding journal_file
holder_number v upper r is = by_number v r (journal_number upper v) is

module _ (touched : ℕ → Bool) (streams : StreamKey → Bool) (records : ℕ → Bool) (c : Content) (g : Geometry) (clusters : ℕ) (v : Volume) (writes : List Write) (k : WritesWithin streams records c g clusters v writes) (spares : SparesOthers touched streams records c v writes) where
  same_upper : SameUpper c (overlay c writes) v
  same_upper = bytes_agree c writes v.per _ (planned_bytes streams records c g clusters v writes (record { file = upcase_file; kind = data_type; name = [] }) k spares.upcase (other_file upcase_file [] (λ is. omega (arith, is))))

  same_record : (m : ℕ) → m < count_of v → touched m ≡ false → bit (record_bits c v) m ≡ false → SameRecordIn c (overlay c writes) v.per v.table m
  same_record m below other clear = record_agrees c writes v.per v.table m spares.sized (planned_record streams records c g clusters v writes m k (spares.free m below other clear))

  pub same_index_at : (m : ℕ) → touched m ≡ false → SameIndexAt c (overlay c writes) v m
  unfolding index_stream
  same_index_at m other r is directory =
      let s : StreamKey = record { file = m; kind = index_allocation; name = names_index } in
      index_agrees c writes v.per _ spares.sized
      (of_file (LeavesIndex writes v.per) index_allocation names_index (file_in v m) r is
      (planned_index streams records c g clusters v writes s k (spares.indexes m r other is directory) (other_kind m index_allocation names_index (λ equal. omega (arith, equal))) spares.void))

  pub same_shown_at : (m : ℕ) → touched m ≡ false → SameShownAt c (overlay c writes) v m
  unfolding data_stream
  same_shown_at m other r is =
      let s : StreamKey = record { file = m; kind = data_type; name = [] } in
      bytes_agree c writes v.per _
      (when_shown (LeavesBytes writes v.per) (shows_data (kind_in v m r)) (stream_of data_type [] r.attrs) tt
      (λ shown. of_file (LeavesBytes writes v.per) data_type [] (file_in v m) r is
      (planned_bytes streams records c g clusters v writes s k (spares.shown m r other is shown) (other_file m [] (no_table_shown v m r shown)))))

pub planned_agrees : (touched : ℕ → Bool) (streams : StreamKey → Bool) (records : ℕ → Bool) (c : Content) (g : Geometry) (clusters : ℕ) (v w : Volume) (writes : List Write) → WritesWithin streams records c g clusters v writes → SparesOthers touched streams records c v writes
    → ((m : ℕ) → m < count_of v → touched m ≡ false → bit (record_bits (overlay c writes) w) m ≡ bit (record_bits c v) m) → AgreesElsewhere touched c (overlay c writes) v w
planned_agrees touched streams records c g clusters v w writes k spares bits = record {
  torn = no_more_torn c writes;
  upper = same_upper touched streams records c g clusters v writes k spares;
  indexes = same_index_at touched streams records c g clusters v writes k spares;
  bits = bits;
  free = same_record touched streams records c g clusters v writes k spares;
}

pub journal_agrees : (streams : StreamKey → Bool) (records : ℕ → Bool) (c : Content) (g : Geometry) (clusters : ℕ) (v : Volume) (writes : List Write) → WritesWithin streams records c g clusters v writes
    → ((m : ℕ) → journal_number (upper_of c v) v ≡ Some m → streams (record { file = m; kind = data_type; name = entries_name }) ≡ false) → SameEntries c (overlay c writes) (upper_of c v) v
unfolding entries_name
journal_agrees streams records c g clusters v writes k apart r is =
    let holder = holder_number v (upper_of c v) r is in
    let s : StreamKey = record { file = holder.0; kind = data_type; name = entries_name } in
    bytes_agree c writes v.per _
    (of_file (LeavesBytes writes v.per) data_type entries_name (file_in v holder.0) r holder.2
    (planned_bytes streams records c g clusters v writes s k (apart holder.0 holder.1) (other_name holder.0 data_type _ _)))

pub planned_agree : (n : ℕ) (streams : StreamKey → Bool) (records : ℕ → Bool) (c : Content) (g : Geometry) (clusters : ℕ) (v : Volume) (writes : List Write) → WritesWithin streams records c g clusters v writes → SparesOthers (λ m. eqb m n) streams records c v writes
    → bit (record_bits c v) n ≡ true → streams (record { file = table_file; kind = bitmap_type; name = [] }) ≡ false
    → ((m : ℕ) → journal_number (upper_of c v) v ≡ Some m → streams (record { file = m; kind = data_type; name = entries_name }) ≡ false) → AgreeBut n c (overlay c writes) v
planned_agree n streams records c g clusters v writes k spares marked bitmap apart =
    let touched : ℕ → Bool = λ m. eqb m n in
    let other : (m : ℕ) → m ≢ n → touched m ≡ false = λ m is. ne_eqb m n is in
    record {
      torn = no_more_torn c writes;
      upper = same_upper touched streams records c g clusters v writes k spares;
      bits = bytes_agree c writes v.per _ (planned_bytes streams records c g clusters v writes (record { file = table_file; kind = bitmap_type; name = [] }) k bitmap (other_kind table_file bitmap_type [] (λ equal. omega (arith, equal))));
      free = λ m below clear. elim (cases_Bool (eqb m n)) [
        | inl is ↦ absurd (both_ways (bit (record_bits c v) m) clear (ap (bit (record_bits c v)) (eqb-true m n is) ∙ marked))
        | inr apart_from ↦ same_record touched streams records c g clusters v writes k spares m below apart_from clear
      ];
      journal = journal_agrees streams records c g clusters v writes k apart;
      indexes = λ m is. same_index_at touched streams records c g clusters v writes k spares m (other m is);
      shown = λ m is. same_shown_at touched streams records c g clusters v writes k spares m (other m is);
    }

pub planned_upper : (touched : ℕ → Bool) (streams : StreamKey → Bool) (records : ℕ → Bool) (c : Content) (g : Geometry) (clusters : ℕ) (v : Volume) (writes : List Write) → WritesWithin streams records c g clusters v writes → SparesOthers touched streams records c v writes → SameUpper c (overlay c writes) v
planned_upper touched streams records c g clusters v writes k spares = same_upper touched streams records c g clusters v writes k spares

pub planned_shown : (touched : ℕ → Bool) (streams : StreamKey → Bool) (records : ℕ → Bool) (c : Content) (g : Geometry) (clusters : ℕ) (v : Volume) (writes : List Write) (m : ℕ) → WritesWithin streams records c g clusters v writes → SparesOthers touched streams records c v writes → touched m ≡ false → SameShownAt c (overlay c writes) v m
planned_shown touched streams records c g clusters v writes m k spares other = same_shown_at touched streams records c g clusters v writes k spares m other
