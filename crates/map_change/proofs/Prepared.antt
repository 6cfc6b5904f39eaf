-- What was prepared is the map after the changes.
use Rattle.std.proofs.Common.{◌≡◌, ℕ, ◌<◌, Bool, true, List, Option, Some, None, Result, Ok, Err, refl, sym, ap, subst, ◌∙◌}
use Rattle.std.specs.Prelude.{IfSome, IfOk}
use Rattle.std.specs.Prelude.{Vec}
use Rattle.std.specs.Global.{Global}
use Rattle.std.specs.Option.{option_map}
use Rattle.std.specs.List.{list_any}
use Rattle.host_base.specs.Answers.{◌>>=◌, ExplainsOrFails, GivesOrFails}
use Rattle.host_base.proofs.Known.{both, one, always}
use Rattle.disk_model.specs.declared.block.Change.{Change}
use Rattle.disk_model.specs.Content.{Content, HasSizes}
use Rattle.volume_map.specs.record_model.Records.{Record}
use Rattle.volume_map.specs.state_model.declared.geometry.Geometry.{Geometry}
use Rattle.volume_map.specs.state_model.declared.geometry.MapRefusal.{MapRefusal}
use Rattle.volume_map.specs.state_model.declared.stream.Extents.{Extents}
use Rattle.volume_map.specs.state_model.Loads.{table_slot, record_count}
use Rattle.bit_set.specs.Words.{byte_bit, bits_of_bytes}
use Rattle.volume_map.specs.state_model.declared.stream.Stream.{Stream}
use Rattle.volume_map.specs.state_model.Streams.{stream_bytes}
use Rattle.volume_map.specs.volume_model.Volumes.{Volume, volume_of, count_of, bytes_or, record_bitmap, cluster_bitmap, record_bits, cluster_bits}
use Rattle.volume_map.specs.declared.fault.MapFault.{MapFault}
use Rattle.volume_map.specs.declared.fault.MapFault.TheVariants as faults
use Rattle.volume_map.specs.declared.head.Head.{Head}
use Rattle.volume_map.specs.declared.map.VolumeMap.{VolumeMap}
use Rattle.volume_map.specs.Errors.{map_cause, NeverRefused}
use Rattle.volume_map.specs.Heads.{heads_of, table_head, no_head}
use Rattle.volume_map.specs.Maps.{volume_in, IsMapOf}
use Rattle.volume_map.proofs.Loaded.{never}
use Rattle.volume_map.specs.block_view.Changes.{content_after}
use Rattle.stream_laws.specs.Rewrites.{StandsAlone, with_table}
use Rattle.map_change.specs.declared.live.LiveMap.{LiveMap}
use Rattle.map_change.specs.declared.change.BitRun.{BitRun}
use Rattle.map_change.specs.declared.change.BitsChange.{BitsChange}
use Rattle.map_change.specs.declared.change.BitsChange.TheVariants.{Whole, Runs}
use Rattle.map_change.specs.declared.change.PartsChange.{PartsChange}
use Rattle.map_change.specs.declared.change.MapChange.{MapChange}
use Rattle.map_change.specs.declared.change.MapChange.TheVariants.{Parts}
use Rattle.map_change.specs.Parts.{MapParts, parts_of, map_of, parts_in, live_parts, geometry_in}
use Rattle.map_change.specs.Applying.{resized, tabled, records_applied, bits_put, bits_applied, applied}
use Rattle.map_change.specs.Touching.{is_number, KeepsPlaces, changed_numbers}
use Rattle.map_change.specs.Reading.{AreRead, TellBits, touched_sectors, IsBits, AreFound}
use Rattle.map_change.specs.Preparing.{IsTable, IsPrepared}
use Rattle.map_change.proofs.Lists.{put_numbers}
use Rattle.map_change.proofs.Marked.{bits_after}
use Rattle.map_change.proofs.Standing.{volume_after, heads_after}
use Rattle.map_change.proofs.Applied.{file_by, all_applied, all_alone}

abbrev okay : {A : Type 0} → A → Result A MapRefusal
okay x = Ok x

abbrev made : Content → Result Volume MapRefusal → Result MapParts MapRefusal
made c r = r >>= λ v. okay (parts_of c v)

-- ---- a map of a content

-- the volume of a map, and its parts
map_parts : (c : Content) (r : Result Volume MapRefusal) (p : MapParts) → made c r ≡ okay p → (r ≡ okay p.volume) × (parts_of c p.volume ≡ p)
map_parts c (Ok v) p is =
    let same : parts_of c v ≡ p = cc in
    let volume : v ≡ p.volume = ap (λ (x : MapParts). x.volume) same in
    (ap okay volume, ap (parts_of c) (sym volume) ∙ same)
map_parts c (Err refusal) p is = absurd cc

abbrev parts_by : Volume → List Head → List Bool → List Bool → MapParts
parts_by v heads records clusters = record { volume = v; heads = heads; records = records; clusters = clusters }

-- ---- a load

loaded_answer : (c : Content) (result : Result VolumeMap MapFault) (meant : Result Volume MapRefusal) → GivesOrFails volume_in map_cause result meant → IfOk result (IsMapOf c) → GivesOrFails parts_in map_cause result (made c meant)
loaded_answer c (Ok m) meant is parts =
    ap (made c) is
    ∙ ap (λ (heads : List Head). okay (parts_by (volume_in m) heads (record_bits c (volume_in m)) (cluster_bits c (volume_in m)))) (sym parts.heads)
    ∙ ap (λ (bits : List Bool). okay (parts_by (volume_in m) m.heads.items bits (cluster_bits c (volume_in m)))) (sym parts.records)
    ∙ ap (λ (bits : List Bool). okay (parts_by (volume_in m) m.heads.items m.record_bits bits)) (sym parts.clusters)
loaded_answer c (Err (faults.Refused r)) meant is parts = ap (made c) is
loaded_answer c (Err faults.View) meant is parts = tt
loaded_answer c (Err faults.Memory) meant is parts = tt

pub load_fails : (known : Option Content) (g : Geometry) (clusters : ℕ) (e : MapFault) → IfSome known (λ c. ExplainsOrFails (map_cause e) (volume_of c g clusters)) → IfSome known (λ c. ExplainsOrFails (map_cause e) (map_of c g clusters))
load_fails known g clusters e h = one known _ _ (λ c is. loaded_answer c (Err e) (volume_of c g clusters) is tt) h

pub load_answers : (known : Option Content) (g : Geometry) (clusters : ℕ) (m : VolumeMap) → IfSome known (λ c. volume_of c g clusters ≡ Ok (volume_in m)) → IfSome known (λ c. IsMapOf c m) → IfSome known (λ c. map_of c g clusters ≡ Ok (parts_in m))
load_answers known g clusters m first second = both known _ _ _ (λ c is parts. loaded_answer c (Ok m) (volume_of c g clusters) is parts) first second

-- ---- parts put in place

-- the bits of a bitmap after the changes
bits_are : (c : Content) (per : ℕ) (changes : List Change) (s : Option Stream) (n : ℕ) (now : Option Stream) (count : ℕ) (new : BitsChange) → HasSizes c → 0 < per → IsBits (content_after changes c) per s n now count changes new
    → bits_put new (bits_of_bytes (bytes_or c per s) n) ≡ bits_of_bytes (bytes_or (content_after changes c) per now) count
bits_are c per changes s n now count (Whole bits) sized some is = is
bits_are c per changes s n now count (Runs runs) sized some is =
    bits_after c per changes sized some s n runs.items is.2
    ∙ ap (λ (o : Option Stream). bits_of_bytes (bytes_or (content_after changes c) per o) n) (sym is.0)
    ∙ ap (λ (k : ℕ). bits_of_bytes (bytes_or (content_after changes c) per now) k) (sym is.1)

module _ (c : Content) (g : Geometry) (clusters : ℕ) (p : MapParts) (changes : List Change) (x : PartsChange) (sized : HasSizes c) (is : map_of c g clusters ≡ okay p) (found : AreFound (content_after changes c) p g changes x) where
  abbrev d : Content
  d = content_after changes c

  abbrev per : ℕ
  per = p.volume.per

  abbrev count : ℕ
  count = record_count x.table

  abbrev numbers : List ℕ
  numbers = changed_numbers per p.volume.table x.table found.same changes

  parts : (volume_of c g clusters ≡ okay p.volume) × (parts_of c p.volume ≡ p)
  parts = map_parts c (volume_of c g clusters) p is

  alone : (m : ℕ) → list_any (is_number m) numbers ≡ true → StandsAlone per (table_slot d per x.table m)
  alone m touched = all_alone d per x.table numbers x.records.items m found.read touched

  abbrev files : List (Option Record)
  files = put_numbers (file_by d per x.table) numbers (resized count None p.volume.files)

  abbrev heads : List Head
  heads = put_numbers (table_head d per x.table) numbers (resized count no_head p.heads)

  abbrev new : Volume
  new = with_table p.volume x.table files

  applied_is : records_applied x p ≡ parts_by new heads p.records p.clusters
  applied_is = all_applied d per x.table numbers x.records.items (tabled x.table p) found.read

  volume_is : volume_of d g clusters ≡ okay new
  volume_is = volume_after c g clusters p.volume x.table found.same changes sized parts.0 found.some found.plain found.table found.uncut found.keeps alone

  heads_are : heads ≡ heads_of d new
  heads_are =
      ap (λ (q : MapParts). put_numbers (table_head d per x.table) numbers (resized count no_head q.heads)) (sym parts.1)
      ∙ heads_after c g clusters p.volume x.table found.same changes sized parts.0 found.some found.plain found.table found.uncut found.keeps alone

  marked : bits_put x.record_bits p.records ≡ record_bits d new
  unfolding record_bits
  marked =
      ap (λ (q : MapParts). bits_put x.record_bits q.records) (sym parts.1)
      ∙ bits_are c per changes (record_bitmap p.volume) (count_of p.volume) (record_bitmap (records_applied x p).volume) (count_of (records_applied x p).volume) x.record_bits sized found.some found.records
      ∙ ap (λ (q : MapParts). bits_of_bytes (bytes_or d per (record_bitmap q.volume)) (count_of q.volume)) applied_is

  clustered : bits_put x.cluster_bits p.clusters ≡ cluster_bits d new
  unfolding cluster_bits
  clustered =
      ap (λ (q : MapParts). bits_put x.cluster_bits q.clusters) (sym parts.1)
      ∙ bits_are c per changes (cluster_bitmap p.volume) p.volume.clusters (cluster_bitmap (records_applied x p).volume) p.volume.clusters x.cluster_bits sized found.some found.clusters
      ∙ ap (λ (q : MapParts). bits_of_bytes (bytes_or d per (cluster_bitmap q.volume)) p.volume.clusters) applied_is

  put_is : map_of d g clusters ≡ okay (bits_applied x (records_applied x p))
  put_is =
      ap (made d) volume_is
      ∙ ap (λ (hs : List Head). okay (parts_by new hs (record_bits d new) (cluster_bits d new))) (sym heads_are)
      ∙ ap (λ (bits : List Bool). okay (parts_by new heads bits (cluster_bits d new))) (sym marked)
      ∙ ap (λ (bits : List Bool). okay (parts_by new heads (bits_put x.record_bits p.records) bits)) (sym clustered)
      ∙ ap (λ (q : MapParts). okay (bits_applied x q)) (sym applied_is)

pub parts_prepared : (d : Content) (live : LiveMap) (changes : List Change) (x : PartsChange) → AreFound d (live_parts live) (geometry_in live.map) changes x → (c : Content) → HasSizes c → d ≡ content_after changes c
    → map_of c (geometry_in live.map) live.map.clusters ≡ okay (live_parts live) → map_of d (geometry_in live.map) live.map.clusters ≡ okay (bits_applied x (records_applied x (live_parts live)))
parts_prepared d live changes x found c sized is stands =
    let there : AreFound (content_after changes c) (live_parts live) (geometry_in live.map) changes x = subst (λ (y : Content). AreFound y (live_parts live) (geometry_in live.map) changes x) is found in
    ap (λ (y : Content). map_of y (geometry_in live.map) live.map.clusters) is ∙ put_is c (geometry_in live.map) live.map.clusters (live_parts live) changes x sized stands there

-- ---- what was found, one part after the other

abbrev are_records : MapParts → List Change → PartsChange → ℕ → Content → Type 0
are_records p changes x n d = AreRead d p.volume.per x.table (changed_numbers p.volume.per p.volume.table x.table n changes) x.records.items

abbrev are_marked : MapParts → List Change → PartsChange → Content → Type 0
are_marked p changes x d = IsBits d p.volume.per (record_bitmap p.volume) (count_of p.volume) (record_bitmap (records_applied x p).volume) (count_of (records_applied x p).volume) changes x.record_bits

abbrev are_clustered : MapParts → List Change → PartsChange → Content → Type 0
are_clustered p changes x d = IsBits d p.volume.per (cluster_bitmap p.volume) p.volume.clusters (cluster_bitmap (records_applied x p).volume) p.volume.clusters changes x.cluster_bits

abbrev both_bits : MapParts → List Change → PartsChange → Content → Type 0
both_bits p changes x d = are_marked p changes x d × are_clustered p changes x d

-- where these are the extents of the table, they are found
abbrev found_by : MapParts → Geometry → List Change → PartsChange → Content → Type 0
found_by p g changes x d = IsTable d g x.table → AreFound d p g changes x

pub parts_found : (known : Option Content) (live : LiveMap) (changes : List Change) (x : PartsChange) (n : ℕ) → 0 < live.map.per_cluster → live.plain ≡ true → KeepsPlaces live.map.per_cluster live.map.table x.table n → IfSome known (are_records (live_parts live) changes x n)
    → IfSome known (are_marked (live_parts live) changes x) → IfSome known (are_clustered (live_parts live) changes x) → IfSome known (found_by (live_parts live) (geometry_in live.map) changes x)
parts_found known live changes x n some plain keeps read records clusters =
    let p = live_parts live in
    both known (are_records p changes x n) (both_bits p changes x) (found_by p (geometry_in live.map) changes x)
    (λ d are bits is. record { some = some; plain = live.listless plain; table = is.table; uncut = is.uncut; same = n; keeps = keeps; read = are; records = bits.0; clusters = bits.1 }) read
    (both known (are_marked p changes x) (are_clustered p changes x) (both_bits p changes x) (λ d r k. (r, k)) records clusters)

abbrev is_table : Geometry → Extents → Content → Type 0
is_table g e d = IsTable d g e

abbrev parts_are : LiveMap → List Change → Extents → Option PartsChange → Content → Type 0
parts_are live changes e found d = IsTable d (geometry_in live.map) e → IfSome found (AreFound d (live_parts live) (geometry_in live.map) changes)

abbrev all_found : LiveMap → List Change → Option PartsChange → Content → Type 0
all_found live changes found d = IfSome found (AreFound d (live_parts live) (geometry_in live.map) changes)

-- over the extents that were found
pub found_over : (known : Option Content) (live : LiveMap) (changes : List Change) (e : Extents) (found : Option PartsChange) → IfSome known (is_table (geometry_in live.map) e) → IfSome known (parts_are live changes e found) → IfSome known (all_found live changes found)
found_over known live changes e found table are = both known (is_table (geometry_in live.map) e) (parts_are live changes e found) (all_found live changes found) (λ d is f. f is) table are

-- ---- the bits of a stream that was read

abbrev are_bits : ℕ → Option Stream → ℕ → Option Stream → ℕ → List Change → BitsChange → Content → Type 0
are_bits per s n now count changes bits d = IsBits d per s n now count changes bits

pub whole_read : (known : Option Content) (per : ℕ) (s : Option Stream) (n : ℕ) (now : Option Stream) (stream : Stream) (count : ℕ) (changes : List Change) (bits : List Bool) → ((c : Content) (p : ℕ) → stream_bytes c p stream ≡ bytes_or c p now)
    → IfSome known (λ d. bits ≡ bits_of_bytes (stream_bytes d per stream) count) → IfSome known (are_bits per s n now count changes (Whole bits))
whole_read known per s n now stream count changes bits same read =
    one known (λ d. bits ≡ bits_of_bytes (stream_bytes d per stream) count) (are_bits per s n now count changes (Whole bits)) (λ d is. is ∙ ap (λ (bytes : List ℕ). bits_of_bytes bytes count) (same d per)) read

abbrev tell_stream : ℕ → Stream → ℕ → List ℕ → List BitRun → Content → Type 0
tell_stream per stream count sectors xs d = TellBits (byte_bit (stream_bytes d per stream)) count sectors xs

pub sectors_read : (known : Option Content) (per : ℕ) (s : Option Stream) (n : ℕ) (now : Option Stream) (stream : Stream) (count : ℕ) (changes : List Change) (sectors : List ℕ) (runs : Vec BitRun Global) → ((c : Content) (p : ℕ) → stream_bytes c p stream ≡ bytes_or c p now)
    → s ≡ now → n ≡ count → sectors ≡ touched_sectors per s count changes → IfSome known (tell_stream per stream count sectors runs.items) → IfSome known (are_bits per s n now count changes (Runs runs))
sectors_read known per s n now stream count changes sectors runs same stays size are read =
    one known (tell_stream per stream count sectors runs.items) (are_bits per s n now count changes (Runs runs)) (λ d tell. (
      sym stays,
      sym size,
      subst (λ (k : ℕ). TellBits (byte_bit (bytes_or d per s)) k (touched_sectors per s k changes) runs.items) (sym size)
          (subst (λ (l : List ℕ). TellBits (byte_bit (bytes_or d per s)) count l runs.items) are
          (subst (λ (bytes : List ℕ). TellBits (byte_bit bytes) count sectors runs.items) (same d per ∙ ap (bytes_or d per) (sym stays)) tell)),
    )) read

-- ---- what is prepared

abbrev prepared_as : LiveMap → List Change → Result MapChange MapFault → Content → Type 0
prepared_as live changes result d = IsPrepared d live changes result

pub never_refused : (Z : Type 0) (known : Option Content) (live : LiveMap) (changes : List Change) (e : MapFault) → NeverRefused {X = Z} (Err e) → IfSome known (prepared_as live changes (Err e))
never_refused Z known live changes e h = always known (prepared_as live changes (Err e)) (λ d c sized is stands. never Z e (map_of d (geometry_in live.map) live.map.clusters) h)

pub found_prepared : (known : Option Content) (live : LiveMap) (changes : List Change) (x : PartsChange) → IfSome known (λ d. AreFound d (live_parts live) (geometry_in live.map) changes x) → IfSome known (prepared_as live changes (Ok (Parts x)))
found_prepared known live changes x found =
    one known (λ d. AreFound d (live_parts live) (geometry_in live.map) changes x) (prepared_as live changes (Ok (Parts x))) (λ d f c sized is stands. parts_prepared d live changes x f c sized is stands) found

abbrev anew_fails : Geometry → ℕ → MapFault → Content → Type 0
anew_fails g clusters e d = ExplainsOrFails (map_cause e) (map_of d g clusters)

pub fails_prepared : (known : Option Content) (live : LiveMap) (changes : List Change) (g : Geometry) (e : MapFault) → g ≡ geometry_in live.map → IfSome known (anew_fails g live.map.clusters e) → IfSome known (prepared_as live changes (Err e))
fails_prepared known live changes g e is h =
    one known (anew_fails g live.map.clusters e) (prepared_as live changes (Err e)) (λ d f c sized after stands. subst (λ (x : Geometry). ExplainsOrFails (map_cause e) (map_of d x live.map.clusters)) is f) h

pub anew_prepared : (known : Option Content) (live : LiveMap) (changes : List Change) (g : Geometry) (change : MapChange) (p : MapParts) → g ≡ geometry_in live.map → applied change (live_parts live) ≡ p → IfSome known (λ d. map_of d g live.map.clusters ≡ okay p) → IfSome known (prepared_as live changes (Ok change))
anew_prepared known live changes g change p is same h =
    one known (λ d. map_of d g live.map.clusters ≡ okay p) (prepared_as live changes (Ok change)) (λ d f c sized after stands. ap (λ (x : Geometry). map_of d x live.map.clusters) (sym is) ∙ f ∙ ap okay (sym same)) h

-- over the view after the changes
pub over_changes : (known over : Option Content) (live : LiveMap) (changes : List Change) (result : Result MapChange MapFault) → IfSome known HasSizes → over ≡ option_map (content_after changes) known → IfSome over (prepared_as live changes result)
    → IfSome known (λ c. map_of c (geometry_in live.map) live.map.clusters ≡ okay (live_parts live) → GivesOrFails (λ change. applied change (live_parts live)) map_cause result (map_of (content_after changes c) (geometry_in live.map) live.map.clusters))
over_changes None over live changes result sized is h = tt
over_changes (Some c) over live changes result sized is h = λ stands. subst (λ (o : Option Content). IfSome o (prepared_as live changes result)) is h c sized refl stands

-- with the same change
pub over_ready : (known over : Option Content) (live : LiveMap) (changes : List Change) (change ready : MapChange) → IfSome known HasSizes → over ≡ option_map (content_after changes) known → IfSome over (prepared_as live changes (Ok change)) → ready ≡ change
    → IfSome known (λ c. map_of c (geometry_in live.map) live.map.clusters ≡ okay (live_parts live) → map_of (content_after changes c) (geometry_in live.map) live.map.clusters ≡ okay (applied ready (live_parts live)))
over_ready known over live changes change ready sized is h same =
    subst (λ (x : MapChange). IfSome known (λ c. map_of c (geometry_in live.map) live.map.clusters ≡ okay (live_parts live) → map_of (content_after changes c) (geometry_in live.map) live.map.clusters ≡ okay (applied x (live_parts live)))) (sym same)
    (over_changes known over live changes (Ok change) sized is h)
