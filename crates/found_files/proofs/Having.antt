-- A file that was found may be written.
use Rattle.std.proofs.Common.{◌≡◌, ℕ, ◌+◌, ◌-◌, ◌*◌, ◌<◌, ◌≤◌, ◌^◌, Bool, true, false, not, cond, leb, List, [], ◌∷◌, Option, Some, None, Ok, refl, sym, ap, subst, ◌∙◌, inl, inr, arith}
use Rattle.std.specs.Prelude.{filter}
use Rattle.std.specs.List.{sum_by, list_any}
use Rattle.std.proofs.lemmas.Bool.{cases_Bool, cases_lt, and_parts, leb-true}
use Rattle.std.proofs.lemmas.List.Sums.{sum_by-cons}
use Rattle.host_base.specs.Answers.{◌>>=◌, needs}
use Rattle.disk_model.specs.declared.block.Block.{Block}
use Rattle.disk_model.specs.declared.block.BlockKind.TheVariants.{FileRec}
use Rattle.disk_model.specs.Content.{Content}
use Rattle.record_model.specs.declared.attribute.Attr.{Attr}
use Rattle.record_model.specs.Constants.{attribute_list, standard_information, data_type}
use Rattle.record_model.specs.Pairs.{cluster_limit}
use Rattle.record_model.specs.Records.{Record, record_at}
use Rattle.record_model.proofs.Answering.{steps_from_ok, needs_from_ok}
use Rattle.file_tree.specs.declared.node.Node.{Node}
use Rattle.state_model.specs.declared.geometry.Geometry.{Geometry}
use Rattle.state_model.specs.declared.geometry.MapRefusal.TheVariants.{BadRecord, MftList, MftLarge}
use Rattle.state_model.specs.declared.stream.Extents.{Extents}
use Rattle.state_model.specs.declared.stream.Stream.{Stream}
use Rattle.state_model.specs.declared.stream.Stream.TheVariants.{Held, Placed}
use Rattle.state_model.specs.Files.{has_type}
use Rattle.state_model.specs.Loads.{Free, Used, slot_by, slot_at, slot_of, is_used, whole_record, has_all_pairs, judged, boot_block, no_extents, total_clusters, record_count, most_records, table_extents, extents_in, table_of}
use Rattle.state_model.specs.Streams.{is_attribute_of, attributes_of, joined, stream_of, block_at}
use Rattle.volume_model.specs.Volumes.{Volume, file_in, file_stream, bitmap_file, cluster_bits, size_or}
use Rattle.volume_model.specs.Nodes.{valid_or, clusters_or}
use Rattle.volume_model.specs.Sizes.{has_hole, keeps_whole, keeps_streams}
use Rattle.stream_laws.proofs.Rewriting.{volume_parts, count_is}
use Rattle.stream_laws.proofs.Sharing.{attributes_sum}
use Rattle.stream_laws.proofs.Tabling.{read_in_use, inside_list}
use Rattle.tree_model.specs.declared.script.Op.{Op}
use Rattle.written_made.specs.plan_owners.States.{Stands}
use Rattle.written_made.proofs.plan_owners.Standing.{some_file, streams_at}
use Rattle.written_made.proofs.plan_model.Drafting.{per_is}
use Rattle.written_made.proofs.plan_model.OneRecord.{own_record}
use Rattle.written_made.proofs.plan_growth.Resizing.{slot_open}
use Rattle.written_made.specs.state_streams.Streams.{IsPlacedIn, StreamsOfStates}
use Rattle.written_made.specs.state_files.Files.{FilesHaveData}
use Rattle.written_made.specs.data_plan.Changes.{data_in, ShowsData, HasData, GrowsLittle, growth_of}
use Rattle.written_made.proofs.data_plan.Cases.{placed_comes}
use Rattle.written_made.specs.step_model.Placing.{more_of}
use Rattle.written_made.specs.step_model.Streams.{Comes}
use Rattle.tree_model.specs.Effects.{clusters_after}
use Rattle.written_made.specs.made_data.Made.{with_empty_data, made_record, has_data}
use Rattle.written_made.specs.made_data.Laws.{MadeIsCounted}
use Rattle.written_made.proofs.made_data.Having.{made_fits}
use Rattle.written_made.proofs.made_data.Standing.{written_fits}
use Rattle.written_made.specs.file_puts.declared.streams.VolumeStreams.{VolumeStreams}
use Rattle.written_made.specs.file_puts.Written.{AreStreamsOf}
use Rattle.written_made.specs.file_writes.Writing.{MayWrite}
use Rattle.written_made.proofs.written_values.Owning.{IsOwned, is_owned}
use Rattle.written_made.specs.change_steps.Ready.{FilesAreReady}
use Rattle.found_files.specs.Found.{HasFewParts, IsFoundFile, FoundMayWrite}
use Rattle.found_files.proofs.Beside.{room_beside}
use Rattle.found_files.proofs.Few.{whole_made_of, few_attrs, few_runs}

-- ---- few parts

few_by : (initialised at : ℕ) (c : Content) (o : Option Block) (r : Record) → cond (leb initialised at) Free (slot_at c o) ≡ Used r → HasFewParts r
unfolding slot_of
few_by initialised at c o r is = by_test (leb initialised at) o is
  where
    by_test : (t : Bool) (b : Option Block) → cond t Free (slot_at c b) ≡ Used r → HasFewParts r
    by_test true b same = absurd cc
    by_test false None same = absurd cc
    by_test false (Some b) same =
        let made = whole_made_of (c b).bytes r (read_in_use (c b).torn (is_used (c b).bytes) (whole_record (c b).bytes) r same).2 in
        record { attrs = few_attrs (c b).bytes r made; runs = λ e is. few_runs (c b).bytes r data_type [] e made is }

few_parts : (c : Content) (g : Geometry) (clusters : ℕ) (v : Volume) (n : ℕ) (r : Record) → Stands c g clusters v → file_in v n ≡ Some r → has_type attribute_list r ≡ false → HasFewParts r
few_parts c g clusters v n r state file no_list = few_by v.table.initialised (1024 * n) c (block_at v.per v.table.runs FileRec n) r (slot_open c v n r (own_record c g clusters v n r state file no_list).slot)

-- ---- its number

count_low : (o : Option Record) (e : Extents) → extents_in o ≡ Ok e → record_count e ≤ most_records
unfolding extents_in
count_low None e is = (let same : no_extents ≡ e = cc in subst (λ (x : Extents). record_count x ≤ most_records) same (omega arith))
count_low (Some r) e is =
    let count = record_count (table_extents r) in
    let unlisted = needs_from_ok (not (has_type attribute_list r)) MftList (λ _. needs (leb count most_records) (MftLarge count) >>= λ _. needs (has_all_pairs r) (BadRecord 0 7) >>= λ _. Ok (table_extents r)) e is in
    let low = needs_from_ok (leb count most_records) (MftLarge count) (λ _. needs (has_all_pairs r) (BadRecord 0 7) >>= λ _. Ok (table_extents r)) e unlisted.1 in
    let pairs = needs_from_ok (has_all_pairs r) (BadRecord 0 7) (λ _. Ok (table_extents r)) e low.1 in
    let same : table_extents r ≡ e = (let x = pairs.1 in cc) in
    subst (λ (x : Extents). record_count x ≤ most_records) same (leb-true count most_records low.0)

table_low : (c : Content) (g : Geometry) (e : Extents) → table_of c g ≡ Ok e → record_count e ≤ most_records
unfolding table_of
table_low c g e is = (let read = steps_from_ok (judged 0 (slot_by record_at (c (boot_block g 0)))) extents_in e is in count_low read.0 e read.2)

number_low : (c : Content) (g : Geometry) (clusters : ℕ) (v : Volume) (n : ℕ) (r : Record) → Stands c g clusters v → file_in v n ≡ Some r → n < 2 ^ 48
number_low c g clusters v n r state file =
    let within = inside_list v.files n r (some_file v n r file) in
    let count = count_is c g clusters v state.loaded in
    let low = table_low c g v.table (volume_parts c g clusters v state.loaded).table in
    omega (arith, within, count, low)

-- ---- its data

abbrev one : Attr → ℕ
one a = 1

some_there : (p : Attr → Bool) (attrs : List Attr) → list_any p attrs ≡ true → 1 ≤ sum_by one (filter p attrs)
some_there p [] is = absurd cc
some_there p (a ∷ attrs) is = elim (cases_Bool (p a)) [
  | inl own ↦ rw own (omega (arith, sum_by-cons one a (filter p attrs)))
  | inr other ↦ rw other (some_there p attrs (rw other at is))
]

none_joined : (attributes : List Attr) → joined attributes ≡ None → sum_by one attributes ≡ 0
none_joined [] is = refl
none_joined (a ∷ attributes) is = absurd cc

data_by : (r : Record) (o : Option Stream) → data_in r ≡ o → has_data r ≡ true → (s : Stream) × (data_in r ≡ Some s)
unfolding stream_of has_data
data_by r (Some s) is there = (s, is)
data_by r None is there =
    let none = none_joined (attributes_of data_type [] r.attrs) is in
    let all = attributes_sum one data_type [] r.attrs in
    let some = some_there (is_attribute_of data_type []) r.attrs there in
    absurd (omega (arith, none, all, some))

module _ (streams : StreamsOfStates) (c : Content) (g : Geometry) (clusters : ℕ) (v : Volume) (n : ℕ) (r : Record) (state : Stands c g clusters v) (file : file_in v n ≡ Some r) where
  there : (e : Extents) → data_in r ≡ Some (Placed e) → IsPlacedIn v n data_type [] e
  there e is = record { file = r; is_file = file; no_name = λ same. omega (arith, same); stream = is }

  valid_low : (s : Option Stream) → data_in r ≡ s → valid_or s ≤ size_or s
  valid_low None is = omega arith
  valid_low (Some (Held value)) is = omega arith
  valid_low (Some (Placed e)) is = (streams.sizes c g clusters v n data_type [] e state (there e is)).initialised

-- data in clusters takes those that it comes to have and hasn't
placed_more : (bits : List Bool) (r : Record) (o : Op) (a : Node) (e : Extents) → data_in r ≡ Some (Placed e) → more_of (growth_of bits r o a) ≡ clusters_after false o a - total_clusters e.runs
placed_more bits r o a e is = ap (λ (z : Comes). more_of z.growth) (placed_comes bits r o a e is)

-- ---- the bits of the clusters

negated : (t : Bool) → not t ≡ true → t ≡ false
negated true none = absurd cc
negated false none = refl

-- the data of $Bitmap has no sparse run
bits_whole : (c : Content) (g : Geometry) (clusters : ℕ) (v : Volume) (r : Record) → Stands c g clusters v → file_in v bitmap_file ≡ Some r → has_hole (stream_of data_type [] r.attrs) ≡ false
unfolding keeps_streams keeps_whole
bits_whole c g clusters v r state file =
    let holes = (and_parts _ _ (and_parts _ _ (and_parts _ _ (streams_at c g clusters v bitmap_file r state file)).0).0).1 in
    negated (has_hole (stream_of data_type [] r.attrs)) (and_parts _ _ (and_parts _ _ holes).0).0

file_by : (o : Option Record) (e : Extents) → file_stream data_type [] o ≡ Some (Placed e) → (r : Record) × (o ≡ Some r) × (stream_of data_type [] r.attrs ≡ Some (Placed e))
file_by None e is = absurd cc
file_by (Some r) e is = (r, refl, is)

bits_low : StreamsOfStates → (c : Content) (g : Geometry) (clusters : ℕ) (v : Volume) (s : VolumeStreams) → Stands c g clusters v → g.per_cluster ≡ 8 → clusters ≤ cluster_limit → AreStreamsOf v s → s.bitmap.initialised < 2 ^ 63
bits_low streams c g clusters v s state eight few k =
    let e : Extents = s.bitmap in
    let f = file_by (file_in v bitmap_file) e k.bitmap.stream in
    let placed : IsPlacedIn v bitmap_file data_type [] e = record { file = f.0; is_file = f.1; no_name = λ same. omega (arith, same); stream = f.2 } in
    let sizes = streams.sizes c g clusters v bitmap_file data_type [] e state placed in
    let total = streams.total c g clusters v bitmap_file data_type [] e state placed (ap has_hole (sym f.2) ∙ bits_whole c g clusters v f.0 state f.1) in
    let allocated : e.allocated ≡ total_clusters e.runs * (512 * 8) = sizes.allocated ∙ ap (λ (per : ℕ). total_clusters e.runs * (512 * per)) (per_is c g clusters v eight state) in
    let count = (volume_parts c g clusters v state.loaded).count in
    omega (arith, sizes.initialised, sizes.real, allocated, total, count, few)

-- ---- all of it

module _ (ready : FilesAreReady) (counted : MadeIsCounted) (files : FilesHaveData) (streams : StreamsOfStates) (c : Content) (g : Geometry) (clusters : ℕ) (v : Volume) (s : VolumeStreams) (op : Op) (node a : Node) (r : Record) (k : IsFoundFile c g clusters v s op node a r) where
  state : Stands c g clusters v
  state = k.has.stands

  owned : IsOwned v node.number r
  owned = is_owned c g clusters v node.number r a state k.file

  parts : HasFewParts r
  parts = few_parts c g clusters v node.number r state k.file.file owned.own.no_list

  shown : ShowsData node r
  shown = ready.shows c g clusters v op node a r true k.has k.finds k.file

  little : GrowsLittle op node
  little = by (data_in r) refl
    where
      small : node.clusters ≡ 0 → GrowsLittle op node
      small none = ready.little c g clusters v op node a r k.has k.finds k.file k.fits (omega (arith, none))

      by : (o : Option Stream) → data_in r ≡ o → GrowsLittle op node
      by None is = small (shown.clusters ∙ ap clusters_or is)
      by (Some (Held value)) is = small (shown.clusters ∙ ap clusters_or is)
      by (Some (Placed e)) is = elim (cases_lt cluster_limit (node.clusters + 2 ^ 15)) [
        | inl above ↦
            (let own : node.clusters ≡ total_clusters e.runs = shown.clusters ∙ ap clusters_or is in
            let come = placed_more (cluster_bits c v) r op node e is in
            let room = ready.room c g clusters v op node a r k.has k.finds k.file in
            let inside = streams.inside c g clusters v node.number data_type [] e state (there streams c g clusters v node.number r state k.file.file e is) in
            let beside = room_beside c g clusters v node.number r e state k.few k.file.file is (ap has_hole (sym is) ∙ owned.whole) inside in
            let count = (volume_parts c g clusters v state.loaded).count in
            let few = k.few in
            record { few = omega (arith, come, room, beside, count, few); more = omega (arith, come, room, beside, count, few, own, above) })
        | inr fits ↦ ready.little c g clusters v op node a r k.has k.finds k.file k.fits fits
      ]

  valid : node.valid ≤ node.size
  valid =
      let low = valid_low streams c g clusters v node.number r state k.file.file (data_in r) refl in
      let initialised = shown.valid in
      let size = shown.size in
      omega (arith, low, initialised, size)

  may_by : (x : Record) → HasData clusters x → ShowsData node x → has_type standard_information x ≡ true → MayWrite clusters node.number s x op node
  may_by x has shows info = record {
    few = k.few;
    number = number_low c g clusters v node.number r state k.file.file;
    bitmap = k.bitmap;
    bounds = k.bounds;
    has = has;
    shows = shows;
    little = little;
    valid = valid;
    info = info;
  }

  may_there : has_data r ≡ true → MayWrite clusters node.number s r op node
  may_there some =
      let some_data = data_by r (data_in r) refl some in
      may_by r
      (files.has c g clusters v node.number r some_data.0 state k.has.eight k.few k.file.file owned.own.no_list owned.whole some_data.1 k.fits (λ e is. (let low = parts.runs e is in omega (arith, low))))
      shown owned.info

  may_made : has_data r ≡ false → MayWrite clusters node.number s (made_record r) op node
  may_made none =
      may_by (made_record r)
      (counted.has clusters r none k.fits (let low = parts.attrs in omega (arith, low)) (files.pairs c g clusters v node.number r state k.file.file owned.own.no_list))
      (counted.shows node r none shown) (counted.types r standard_information owned.info)

pub found_may_write : FilesAreReady → MadeIsCounted → FilesHaveData → StreamsOfStates → FoundMayWrite
found_may_write ready counted files streams = record {
  few = few_parts;
  has = may_there ready counted files streams;
  made = may_made ready counted files streams;
  fits = λ r fits few. written_fits (with_empty_data r) (made_fits r fits few);
  bits = bits_low streams;
}
