-- What two contents share, where they agree on blocks.
use Rattle.std.proofs.Common.{◌≡◌, ℕ, zero, suc, ◌+◌, ◌*◌, ◌/◌, ◌%◌, ◌<◌, ◌≤◌, min, Bool, true, false, cond, ◌&&◌, ltb, leb, eqb, List, ◌∷◌, length, get_or, map, Option, Some, None, Result, refl, sym, ap, subst, ◌∙◌, inl, inr, arith}
use mathlib.Core.Path.{fun_ext}
use Rattle.std.specs.Prelude.{slice_get}
use Rattle.std.specs.List.{range_with_len}
use Rattle.std.proofs.lemmas.Bool.{leb-false, cases_lt, le-ltb, le-leb}
use Rattle.std.proofs.lemmas.Option.{slice_get_within, get_or_from_slice_get}
use Rattle.std.proofs.lemmas.List.FromFn.{length-map-range_with_len, get_or-map-range_with_len}
use Rattle.volume_model.specs.disk_model.declared.block.Block.{Block}
use Rattle.volume_model.specs.disk_model.declared.block.Body.{Body}
use Rattle.volume_model.specs.disk_model.declared.block.BlockKind.TheVariants.{Plain, FileRec}
use Rattle.volume_model.specs.disk_model.Content.{Content}
use Rattle.volume_model.specs.record_model.declared.entry.Entry.{Entry}
use Rattle.volume_model.specs.record_model.Nodes.{root_at}
use Rattle.volume_model.specs.record_model.Records.{Record}
use Rattle.volume_model.specs.index_model.Indexes.{Place, number_of, node_of_body, node_of_part, node_of_block}
use Rattle.volume_model.specs.index_model.Indexes.{node_block as block_of_vcn}
use Rattle.volume_model.specs.index_model.Walks.{root_vcn, met_in, sought_in, met_from, walk_of, find_of}
use Rattle.volume_model.specs.state_model.declared.stream.Extents.{Extents}
use Rattle.volume_model.specs.state_model.declared.stream.Stream.{Stream}
use Rattle.volume_model.specs.state_model.declared.stream.Stream.TheVariants.{Held, Placed}
use Rattle.volume_model.specs.state_model.Streams.{block_at, sector_bytes, byte_at, extent_bytes, stream_bytes}
use Rattle.volume_model.specs.state_model.Loads.{Slot, Free, is_used, slot_at, slot_of, table_slot, used_record, records_of}
use Rattle.volume_model.specs.Volumes.{Volume, bytes_or, block_bytes, record_block, record_bytes, is_in_use}
use Rattle.volume_model.specs.Indexes.{block_count, index_block, blocks_of, stream_blocks, index_stream, index_place, root_value, links_read, links_below, index_links}
use Rattle.stream_laws.specs.Frames.{SameBytesIn, SameBytesInStream, SameBytesInSome, SameRecordIn, SameNodesIn, SameIndexIn}

-- two functions that agree below a number give the same list of values
pub same_map : {X : Type 0} (f g : ℕ → X) (a n : ℕ) → ((i : ℕ) → a ≤ i → i < a + n → f i ≡ g i) → map f (range_with_len a n) ≡ map g (range_with_len a n)
same_map f g a zero each = refl
same_map {X} f g a (suc n) each =
    ap (λ (x : X). x ∷ map f (range_with_len (a + 1) n)) (each a (omega arith) (omega arith))
    ∙ ap (λ (l : List X). g a ∷ l) (same_map f g (a + 1) n (λ i low high. each i (omega arith) (omega arith)))

-- ---- streams

-- a sector has the same bytes where they agree on its block
pub same_sector : (c d : Content) (o : Option Block) → ((b : Block) → o ≡ Some b → (d b).bytes ≡ (c b).bytes) → sector_bytes d o ≡ sector_bytes c o
same_sector c d None same = refl
same_sector c d (Some b) same = same b refl

pub same_byte : (c d : Content) (per : ℕ) (e : Extents) (i : ℕ) → i < e.real → SameBytesIn c d per e → byte_at d per e i ≡ byte_at c per e i
unfolding byte_at
same_byte c d per e i within same =
    elim (cases_lt i e.initialised) [
      | inl below ↦
          (let sector : 512 * (i / 512) < min e.initialised e.real = omega arith in
          ap (λ (l : List ℕ). cond (ltb i e.initialised) (get_or l (i % 512) 0) 0) (same_sector c d (block_at per e.runs Plain (i / 512)) (λ b lies. same b (record { sector = i / 512; below = sector; lies = lies }))))
      | inr past ↦ rw (le-ltb i e.initialised past) refl
    ]

pub same_extents : (c d : Content) (per : ℕ) (e : Extents) → SameBytesIn c d per e → extent_bytes d per e ≡ extent_bytes c per e
unfolding extent_bytes
same_extents c d per e same = same_map (byte_at d per e) (byte_at c per e) 0 e.real (λ i low high. same_byte c d per e i (omega arith) same)

pub same_stream : (c d : Content) (per : ℕ) (s : Stream) → SameBytesInStream c d per s → stream_bytes d per s ≡ stream_bytes c per s
same_stream c d per (Held value) same = refl
same_stream c d per (Placed e) same = same_extents c d per e same

pub same_file : (c d : Content) (per : ℕ) (s : Option Stream) → SameBytesInSome c d per s → bytes_or d per s ≡ bytes_or c per s
same_file c d per None same = refl
same_file c d per (Some s) same = same_stream c d per s same

-- ---- file records

same_slot_in : (c d : Content) (o : Option Block) → ((b : Block) → o ≡ Some b → d b ≡ c b) → slot_at d o ≡ slot_at c o
same_slot_in c d None same = refl
same_slot_in c d (Some b) same = ap slot_of (same b refl)

pub same_slot : (c d : Content) (per : ℕ) (e : Extents) (n : ℕ) → SameRecordIn c d per e n → table_slot d per e n ≡ table_slot c per e n
unfolding table_slot
same_slot c d per e n same =
    elim (cases_lt (1024 * n) e.initialised) [
      | inl below ↦ ap (λ (x : Slot). cond (leb e.initialised (1024 * n)) Free x) (same_slot_in c d (block_at per e.runs FileRec n) (λ b lies. same b (record { below = below; lies = lies })))
      | inr past ↦ rw (le-leb e.initialised (1024 * n) past) refl
    ]

pub same_records : (c d : Content) (per : ℕ) (e : Extents) (count : ℕ) → ((n : ℕ) → n < count → SameRecordIn c d per e n) → records_of (table_slot d per e) count ≡ records_of (table_slot c per e) count
unfolding records_of
same_records c d per e count same =
    same_map (λ n. used_record (table_slot d per e n)) (λ n. used_record (table_slot c per e n)) 0 count (λ n low high. ap used_record (same_slot c d per e n (same n (omega arith))))

same_body_bytes : (c d : Content) (o : Option Block) → ((b : Block) → o ≡ Some b → d b ≡ c b) → block_bytes d o ≡ block_bytes c o
same_body_bytes c d None same = refl
same_body_bytes c d (Some b) same = ap (λ (x : Body). x.bytes) (same b refl)

same_chosen_bytes : (c d : Content) (t : Bool) (o : Option Block) → (t ≡ false → (b : Block) → o ≡ Some b → d b ≡ c b) → block_bytes d (cond t None o) ≡ block_bytes c (cond t None o)
same_chosen_bytes c d true o same = refl
same_chosen_bytes c d false o same = same_body_bytes c d o (same refl)

pub same_record_bytes : (c d : Content) (v : Volume) (n : ℕ) → SameRecordIn c d v.per v.table n → record_bytes d v n ≡ record_bytes c v n
unfolding record_bytes record_block
same_record_bytes c d v n same =
    same_chosen_bytes c d (leb v.table.initialised (1024 * n)) (block_at v.per v.table.runs FileRec n) (λ under b lies. same b (record { below = leb-false v.table.initialised (1024 * n) under; lies = lies }))

pub same_in_use : (c d : Content) (v : Volume) (n : ℕ) → SameRecordIn c d v.per v.table n → is_in_use d v n ≡ is_in_use c v n
unfolding is_in_use
same_in_use c d v n same = ap is_used (same_record_bytes c d v n same)

-- ---- indexes

same_part : (c d : Content) (v : ℕ) (o : Option Block) → ((b : Block) → o ≡ Some b → d b ≡ c b) → node_of_part d v o ≡ node_of_part c v o
same_part c d v None same = refl
same_part c d v (Some b) same = ap (node_of_body v) (same b refl)

chosen_some : {X : Type 0} (t : Bool) (o : Option X) (x : X) → cond t o None ≡ Some x → o ≡ Some x
chosen_some true o x is = is
chosen_some false o x is = absurd cc

pub same_node : (c d : Content) (p : Place) (v : ℕ) → SameNodesIn c d p → node_of_block d p v ≡ node_of_block c p v
unfolding node_of_block block_of_vcn
same_node c d p v same =
    same_part c d v (block_of_vcn p v) (λ b is. same (number_of p v) b (chosen_some (ltb 0 p.step && eqb (v % p.step) 0) (slice_get p.blocks (number_of p v)) b is))

same_nodes : (c d : Content) (p : Place) → SameNodesIn c d p → node_of_block d p ≡ node_of_block c p
same_nodes c d p same = fun_ext (λ v. same_node c d p v same)

pub same_walk : (c d : Content) (p : Place) (upper value : List ℕ) → SameNodesIn c d p → walk_of d p upper value ≡ walk_of c p upper value
unfolding walk_of
same_walk c d p upper value same = ap (λ (read : ℕ → Result (List Entry) ℕ). met_from p upper (met_in read 15 root_vcn) (root_at value)) (same_nodes c d p same)

pub same_search : (c d : Content) (p : Place) (upper name value : List ℕ) → SameNodesIn c d p → find_of d p upper name value ≡ find_of c p upper name value
unfolding find_of
same_search c d p upper name value same = ap (λ (read : ℕ → Result (List Entry) ℕ). met_from p upper (sought_in upper name read 15 root_vcn) (root_at value)) (same_nodes c d p same)

-- an element of a list of values is the value at its place
element : {X : Type 0} (f : ℕ → X) (n i : ℕ) (x : X) → slice_get (map f (range_with_len 0 n)) i ≡ Some x → (i < n) × (x ≡ f i)
element f n i x is =
    let within : i < length (map f (range_with_len 0 n)) = slice_get_within (map f (range_with_len 0 n)) i x is in
    let size = length-map-range_with_len f 0 n in
    let below : i < n = omega (arith, size) in
    (below, sym (get_or_from_slice_get (map f (range_with_len 0 n)) i x x is) ∙ get_or-map-range_with_len f 0 n i i x below (omega arith))

same_blocks : (c d : Content) (per : ℕ) (s : Option Stream) → SameIndexIn c d per s → (i : ℕ) (b : Block) → slice_get (stream_blocks per s) i ≡ Some b → d b ≡ c b
unfolding blocks_of
same_blocks c d per None same i b is = absurd cc
same_blocks c d per (Some (Held value)) same i b is = absurd cc
same_blocks c d per (Some (Placed e)) same i b is =
    let at = element (index_block per e) (block_count per e) i b is in
    subst (λ (x : Block). d x ≡ c x) (sym at.1) (same i at.0)

pub same_place : (c d : Content) (per : ℕ) (r : Record) → SameIndexIn c d per (index_stream r) → SameNodesIn c d (index_place per r)
unfolding index_place
same_place c d per r same = same_blocks c d per (index_stream r) same

same_below : (c d : Content) (p : Place) (upper : List ℕ) (value : Option (List ℕ)) → SameNodesIn c d p → links_below d p upper value ≡ links_below c p upper value
same_below c d p upper None same = refl
same_below c d p upper (Some value) same = ap links_read (same_walk c d p upper value same)

pub same_links : (c d : Content) (per : ℕ) (upper : List ℕ) (r : Record) → SameIndexIn c d per (index_stream r) → index_links d per upper r ≡ index_links c per upper r
unfolding index_links
same_links c d per upper r same = same_below c d (index_place per r) upper (root_value r) (same_place c d per r same)
