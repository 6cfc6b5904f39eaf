-- What writes put into a stream, and what they leave.
use Rattle.std.proofs.Common.{◌≡◌, ℕ, ◌+◌, ◌/◌, ◌%◌, ◌<◌, ◌≤◌, true, false, List, length, get_or, Option, Some, None, refl, sym, ap, ◌∙◌, inl, inr, arith}
use Rattle.std.specs.Prelude.{unwrap_or}
use Rattle.std.proofs.lemmas.Bool.{cases_lt, lt-ltb, le-ltb, and_from, false_from_ne_true}
use Rattle.std.proofs.lemmas.List.{get_or_past}
use Rattle.std.proofs.lemmas.List.FromFn.{length-map-range_with_len, get_or-map-range_with_len}
use Rattle.volume_model.specs.disk_model.declared.block.Block.{Block}
use Rattle.volume_model.specs.disk_model.declared.block.BlockKind.{BlockKind}
use Rattle.volume_model.specs.disk_model.declared.block.BlockKind.TheVariants.{Plain, FileRec, Index}
use Rattle.volume_model.specs.disk_model.Sectors.{sectors, same_block, overlap}
use Rattle.volume_model.specs.disk_model.Content.{Content, HasSizes}
use Rattle.volume_model.specs.disk_model.Writes.{Write, overlay}
use Rattle.volume_model.specs.disk_model.Laws.{IsElsewhere}
use Rattle.volume_model.proofs.disk_model.Frames.{same_block-is, byte_after, bytes_elsewhere, overlay_elsewhere}
use Rattle.volume_model.specs.record_model.Records.{Record}
use Rattle.volume_model.specs.state_model.declared.stream.Extents.{Extents}
use Rattle.volume_model.specs.state_model.declared.stream.Stream.{Stream}
use Rattle.volume_model.specs.state_model.declared.stream.Stream.TheVariants.{Held, Placed}
use Rattle.volume_model.specs.state_model.Streams.{block_at, sector_bytes, byte_at, extent_bytes}
use Rattle.volume_model.specs.state_model.Loads.{table_slot, records_of}
use Rattle.volume_model.specs.Volumes.{Volume, bytes_or, record_bytes, is_in_use}
use Rattle.volume_model.specs.Indexes.{index_block, index_stream, index_links}
use Rattle.stream_laws.specs.Frames.{SameBytesInSome, SameRecordIn, SameIndexIn}
use Rattle.stream_laws.specs.Changes.{put_in, stream_put, AreElsewhere, LeavesBytes, LeavesRecord, LeavesIndex}
use Rattle.stream_laws.proofs.Framing.{same_file, same_slot, same_records, same_record_bytes, same_in_use, same_links}

pub has_sectors : (k : BlockKind) → 0 < sectors k
has_sectors Plain = omega arith
has_sectors FileRec = omega arith
has_sectors Index = omega arith

-- a block shares each of its sectors with itself
pub itself : (b : Block) → overlap b b ≡ true
itself b =
    let some = has_sectors b.kind in
    let below : b.first < b.first + sectors b.kind = omega (arith, some) in
    and_from _ _ (lt-ltb _ _ below) (lt-ltb _ _ below)

-- blocks that share no sector aren't the same
pub apart_elsewhere : (b : Block) (w : Write) → overlap b w.block ≡ false → IsElsewhere b w
apart_elsewhere b w apart = false_from_ne_true (same_block b w.block) (λ same.
    let both : overlap b w.block ≡ true = ap (overlap b) (sym (same_block-is b w.block same)) ∙ itself b in
    clash (sym both ∙ apart))
  where
    clash : true ≡ false → ⊥
    clash e = cc

-- ---- bytes

pub length-extent_bytes : (c : Content) (per : ℕ) (e : Extents) → length (extent_bytes c per e) ≡ e.real
unfolding extent_bytes
length-extent_bytes c per e = length-map-range_with_len (byte_at c per e) 0 e.real

pub byte_of_extents : (c : Content) (per : ℕ) (e : Extents) (i : ℕ) → i < e.real → get_or (extent_bytes c per e) i 0 ≡ byte_at c per e i
unfolding extent_bytes
byte_of_extents c per e i within = get_or-map-range_with_len (byte_at c per e) 0 e.real i i 0 within (omega arith)

put_in_sector : (c : Content) (writes : List Write) (o : Option Block) (k : ℕ) → HasSizes c → k < 512 → get_or (sector_bytes (overlay c writes) o) k 0 ≡ unwrap_or (put_in writes o k) (get_or (sector_bytes c o) k 0)
put_in_sector c writes None k sized lt = refl
put_in_sector c writes (Some b) k sized lt =
    let within : k < length (c b).bytes = omega (arith, sized b, has_sectors b.kind) in
    byte_after writes b (c b).bytes k within

pub byte_below : (c : Content) (writes : List Write) (per : ℕ) (e : Extents) (i : ℕ) → HasSizes c → i < e.initialised → byte_at (overlay c writes) per e i ≡ unwrap_or (stream_put writes per e.runs i) (byte_at c per e i)
unfolding byte_at
byte_below c writes per e i sized below =
    let o = block_at per e.runs Plain (i / 512) in
    let place : i % 512 < 512 = omega arith in
    rw (lt-ltb i e.initialised below) (put_in_sector c writes o (i % 512) sized place)

pub byte_past : (c d : Content) (per : ℕ) (e : Extents) (i : ℕ) → e.initialised ≤ i → byte_at d per e i ≡ byte_at c per e i
unfolding byte_at
byte_past c d per e i past = rw (le-ltb i e.initialised past) refl

pub put_below : (c : Content) (writes : List Write) (per : ℕ) (e : Extents) (i : ℕ) → HasSizes c → i < e.real → i < e.initialised → get_or (extent_bytes (overlay c writes) per e) i 0 ≡ unwrap_or (stream_put writes per e.runs i) (get_or (extent_bytes c per e) i 0)
put_below c writes per e i sized within below =
    byte_of_extents (overlay c writes) per e i within
    ∙ byte_below c writes per e i sized below
    ∙ ap (λ (x : ℕ). unwrap_or (stream_put writes per e.runs i) x) (sym (byte_of_extents c per e i within))

pub stays_past : (c : Content) (writes : List Write) (per : ℕ) (e : Extents) (i : ℕ) → e.initialised ≤ i → get_or (extent_bytes (overlay c writes) per e) i 0 ≡ get_or (extent_bytes c per e) i 0
stays_past c writes per e i past =
    elim (cases_lt i e.real) [
      | inl within ↦ byte_of_extents (overlay c writes) per e i within ∙ byte_past c (overlay c writes) per e i past ∙ sym (byte_of_extents c per e i within)
      | inr behind ↦
          (let now : length (extent_bytes (overlay c writes) per e) ≤ i = omega (arith, length-extent_bytes (overlay c writes) per e) in
          let before : length (extent_bytes c per e) ≤ i = omega (arith, length-extent_bytes c per e) in
          get_or_past (extent_bytes (overlay c writes) per e) i 0 now ∙ sym (get_or_past (extent_bytes c per e) i 0 before))
    ]

-- ---- what stays

pub body_elsewhere : (c : Content) (writes : List Write) (b : Block) → HasSizes c → AreElsewhere writes b → overlay c writes b ≡ c b
body_elsewhere c writes b sized all = overlay_elsewhere c writes b (omega (arith, sized b, has_sectors b.kind)) all

pub bytes_agree : (c : Content) (writes : List Write) (per : ℕ) (s : Option Stream) → LeavesBytes writes per s → SameBytesInSome c (overlay c writes) per s
bytes_agree c writes per None leaves = tt
bytes_agree c writes per (Some (Held value)) leaves = tt
bytes_agree c writes per (Some (Placed e)) leaves = λ b is. bytes_elsewhere writes b (c b).bytes (leaves b is)

pub bytes_stay : (c : Content) (writes : List Write) (per : ℕ) (s : Option Stream) → LeavesBytes writes per s → bytes_or (overlay c writes) per s ≡ bytes_or c per s
bytes_stay c writes per s leaves = same_file c (overlay c writes) per s (bytes_agree c writes per s leaves)

pub record_agrees : (c : Content) (writes : List Write) (per : ℕ) (e : Extents) (n : ℕ) → HasSizes c → LeavesRecord writes per e n → SameRecordIn c (overlay c writes) per e n
record_agrees c writes per e n sized leaves = λ b is. body_elsewhere c writes b sized (leaves b is)

pub slot_stays : (c : Content) (writes : List Write) (per : ℕ) (e : Extents) (n : ℕ) → HasSizes c → LeavesRecord writes per e n → table_slot (overlay c writes) per e n ≡ table_slot c per e n
slot_stays c writes per e n sized leaves = same_slot c (overlay c writes) per e n (record_agrees c writes per e n sized leaves)

pub records_stay : (c : Content) (writes : List Write) (per : ℕ) (e : Extents) (count : ℕ) → HasSizes c → ((n : ℕ) → n < count → LeavesRecord writes per e n) → records_of (table_slot (overlay c writes) per e) count ≡ records_of (table_slot c per e) count
records_stay c writes per e count sized leaves = same_records c (overlay c writes) per e count (λ n below. record_agrees c writes per e n sized (leaves n below))

pub record_bytes_stay : (c : Content) (writes : List Write) (v : Volume) (n : ℕ) → HasSizes c → LeavesRecord writes v.per v.table n → record_bytes (overlay c writes) v n ≡ record_bytes c v n
record_bytes_stay c writes v n sized leaves = same_record_bytes c (overlay c writes) v n (record_agrees c writes v.per v.table n sized leaves)

pub in_use_stays : (c : Content) (writes : List Write) (v : Volume) (n : ℕ) → HasSizes c → LeavesRecord writes v.per v.table n → is_in_use (overlay c writes) v n ≡ is_in_use c v n
in_use_stays c writes v n sized leaves = same_in_use c (overlay c writes) v n (record_agrees c writes v.per v.table n sized leaves)

index_agrees : (c : Content) (writes : List Write) (per : ℕ) (s : Option Stream) → HasSizes c → LeavesIndex writes per s → SameIndexIn c (overlay c writes) per s
index_agrees c writes per None sized leaves = tt
index_agrees c writes per (Some (Held value)) sized leaves = tt
index_agrees c writes per (Some (Placed e)) sized leaves = λ i below. body_elsewhere c writes (index_block per e i) sized (leaves i below)

pub links_stay : (c : Content) (writes : List Write) (per : ℕ) (upper : List ℕ) (r : Record) → HasSizes c → LeavesIndex writes per (index_stream r) → index_links (overlay c writes) per upper r ≡ index_links c per upper r
links_stay c writes per upper r sized leaves = same_links c (overlay c writes) per upper r (index_agrees c writes per (index_stream r) sized leaves)
