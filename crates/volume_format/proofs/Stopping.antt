-- What stands where the writing of regions stops.
use Rattle.std.proofs.Common.{◌≡◌, ◌⊎◌, ℕ, zero, suc, ◌+◌, ◌-◌, ◌*◌, ◌/◌, ◌%◌, ◌≤◌, List, [], ◌∷◌, ◌++◌, length, get_or, Option, Some, None, Result, Ok, Err, refl, sym, ap, subst, ◌∙◌, inl, inr, arith}
use Rattle.std.specs.Prelude.{⊤, OnErr}
use Rattle.std.specs.Option.{option_map}
use Rattle.std.proofs.lemmas.List.{length-replicate}
use Rattle.std.proofs.lemmas.List.FromFn.{length-map-range_with_len}
use Rattle.disk_model.specs.Bytes.{written}
use Rattle.disk_model.specs.Sectors.{sector_of, zero_sector}
use Rattle.disk_model.proofs.Frames as frames
use Rattle.sector_device.specs.Sectors.{sectors_of, IsMixOf, IsTornBy}
use Rattle.sector_device.specs.WholeSectors.{length-sectors_of}
use Rattle.sector_device.proofs.SectorParts.{outside_stays}
use Rattle.upcase_order.specs.Tables.{standard_table}
use Rattle.volume_format.specs.declared.layout.Layout.{Layout}
use Rattle.volume_format.specs.declared.parts.Parts.{Parts}
use Rattle.volume_format.specs.declared.filling.Filling.{Filling}
use Rattle.volume_format.specs.declared.filling.Filling.TheVariants.{UpperCase}
use Rattle.volume_format.specs.Layouts.{used_clusters, block_first, table_first, mirror_first, record_bits_first, upper_case_first, log_first, cluster_bits_first}
use Rattle.volume_format.specs.Fillings.{filling_bytes}
use Rattle.volume_format.specs.Images.{Region, put_region, put_regions, Puts, upper_case_bytes, log_bytes, cluster_bits, cluster_bits_byte, regions}
use Rattle.volume_format.specs.Parts.{HaveSizes, ArePartsOf, regions_of}
use Rattle.volume_format.specs.Stopping.{StandInFront, PutsFront, PutsTorn, KeepsFrom, KeepsOthers}
use Rattle.volume_format.proofs.Pieces.{region, sectors_append, filling_front, on_disk, length-filling_bytes, upper_filled}

-- the bytes of a vector, lent as a slice
pub torn_as : (cluster : ℕ) (lent items : List ℕ) (gives now : Option (List (List ℕ))) → lent ≡ items → PutsTorn (record { cluster = cluster; bytes = lent }) gives now → PutsTorn (record { cluster = cluster; bytes = items }) gives now
torn_as cluster lent items gives now e torn = subst (λ (bytes : List ℕ). PutsTorn (record { cluster = cluster; bytes = bytes }) gives now) e torn

pub put_as : (cluster : ℕ) (lent items : List ℕ) (gives now : Option (List (List ℕ))) → lent ≡ items → Puts (record { cluster = cluster; bytes = lent } ∷ []) gives now → Puts (record { cluster = cluster; bytes = items } ∷ []) gives now
put_as cluster lent items gives now e put = subst (λ (bytes : List ℕ). Puts (record { cluster = cluster; bytes = bytes } ∷ []) gives now) e put

-- what is known of each error, whichever it is
pub any_err : {T E P : Type 0} (result : Result T E) → P → OnErr result P
any_err (Ok x) p = tt
any_err (Err e) p = p

-- ---- a region in pieces

-- a value after a front was written is old, or that after all was written
front_or : {X : Type 0} (at : ℕ) (xs ys disk : List X) (s : ℕ) (d : X) → (get_or (written at xs disk) s d ≡ get_or disk s d) ⊎ (get_or (written at xs disk) s d ≡ get_or (written at (xs ++ ys) disk) s d)
front_or at xs ys [] s d = inl refl
front_or zero [] ys (b ∷ disk) s d = inl refl
front_or zero (x ∷ xs) ys (b ∷ disk) zero d = inr refl
front_or zero (x ∷ xs) ys (b ∷ disk) (suc s) d = front_or zero xs ys disk s d
front_or (suc at) xs ys (b ∷ disk) zero d = inl refl
front_or (suc at) xs ys (b ∷ disk) (suc s) d = front_or at xs ys disk s d

-- the sectors of a front, and those behind it
two_parts : (f : Filling) (k all : ℕ) → k % 512 ≡ 0 → k ≤ all → sectors_of (filling_bytes f 0 k) ++ sectors_of (filling_bytes f k (all - k)) ≡ sectors_of (filling_bytes f 0 all)
two_parts f k all whole le =
    let size = length-filling_bytes f 0 k in
    sym (sectors_append (filling_bytes f 0 k) (filling_bytes f k (all - k)) (omega (arith, size, whole))) ∙ ap (λ (bytes : List ℕ). sectors_of bytes) (filling_front f k (all - k) all (omega arith))

filling_or : (f : Filling) (cluster k all : ℕ) (disk : List (List ℕ)) (s : ℕ) → k % 512 ≡ 0 → k ≤ all
    → (sector_of (written (8 * cluster) (sectors_of (filling_bytes f 0 k)) disk) s ≡ sector_of disk s) ⊎ (sector_of (written (8 * cluster) (sectors_of (filling_bytes f 0 k)) disk) s ≡ sector_of (written (8 * cluster) (sectors_of (filling_bytes f 0 all)) disk) s)
filling_or f cluster k all disk s whole le =
    subst (λ (l : List (List ℕ)). (sector_of (written (8 * cluster) (sectors_of (filling_bytes f 0 k)) disk) s ≡ sector_of disk s) ⊎ (sector_of (written (8 * cluster) (sectors_of (filling_bytes f 0 k)) disk) s ≡ sector_of (written (8 * cluster) l disk) s))
    (two_parts f k all whole le)
    (front_or (8 * cluster) (sectors_of (filling_bytes f 0 k)) (sectors_of (filling_bytes f k (all - k))) disk s zero_sector)

-- a sector that is as after a front of a region
as_front : (f : Filling) (cluster k all : ℕ) (disk now : List (List ℕ)) (s : ℕ) → k % 512 ≡ 0 → k ≤ all → sector_of now s ≡ sector_of (written (8 * cluster) (sectors_of (filling_bytes f 0 k)) disk) s
    → (sector_of now s ≡ sector_of disk s) ⊎ (sector_of now s ≡ sector_of (written (8 * cluster) (sectors_of (filling_bytes f 0 all)) disk) s)
as_front f cluster k all disk now s whole le e =
    elim (filling_or f cluster k all disk s whole le) [ inl a ↦ inl (e ∙ a) | inr b ↦ inr (e ∙ b) ]

piece_mix : (f : Filling) (cluster at n all : ℕ) (disk now : List (List ℕ)) → at % 512 ≡ 0 → n % 512 ≡ 0 → at + n ≤ all
    → IsMixOf (written (8 * cluster) (sectors_of (filling_bytes f 0 at)) disk) (written (8 * cluster + at / 512) (sectors_of (filling_bytes f at n)) (written (8 * cluster) (sectors_of (filling_bytes f 0 at)) disk)) now
    → IsMixOf disk (written (8 * cluster) (sectors_of (filling_bytes f 0 all)) disk) now
piece_mix f cluster at n all disk now whole whole' le mix =
    let more = on_disk f cluster at n (at + n) disk whole refl in
    record {
      counted = mix.counted ∙ frames.length-written (8 * cluster) (sectors_of (filling_bytes f 0 at)) disk;
      each = λ s. elim (mix.each s) [
        | inl old ↦ as_front f cluster at all disk now s whole (omega (arith, le)) old
        | inr new ↦ as_front f cluster (at + n) all disk now s (omega (arith, whole, whole')) le (new ∙ ap (λ (d : List (List ℕ)). sector_of d s) more)
      ];
    }

front_mix : (f : Filling) (cluster k all : ℕ) (disk now : List (List ℕ)) → k % 512 ≡ 0 → k ≤ all → IsMixOf disk (written (8 * cluster) (sectors_of (filling_bytes f 0 k)) disk) now → IsMixOf disk (written (8 * cluster) (sectors_of (filling_bytes f 0 all)) disk) now
front_mix f cluster k all disk now whole le mix = record {
  counted = mix.counted;
  each = λ s. elim (mix.each s) [
    | inl old ↦ inl old
    | inr new ↦ as_front f cluster k all disk now s whole le new
  ];
}

piece_known : (f : Filling) (cluster at n all : ℕ) (gives now : Option (List (List ℕ))) → at % 512 ≡ 0 → n % 512 ≡ 0 → at + n ≤ all
    → IsTornBy (8 * cluster + at / 512) (sectors_of (filling_bytes f at n)) (option_map (put_regions (region cluster (filling_bytes f 0 at))) gives) now → PutsTorn (record { cluster = cluster; bytes = filling_bytes f 0 all }) gives now
piece_known f cluster at n all None None whole whole' le torn = tt
piece_known f cluster at n all None (Some now) whole whole' le torn = torn
piece_known f cluster at n all (Some disk) None whole whole' le torn = torn
piece_known f cluster at n all (Some disk) (Some now) whole whole' le torn = piece_mix f cluster at n all disk now whole whole' le torn

-- a piece that failed, behind those before it
pub piece_torn : (f : Filling) (cluster at n all : ℕ) (gives mid now : Option (List (List ℕ))) → at % 512 ≡ 0 → n % 512 ≡ 0 → at + n ≤ all → Puts (region cluster (filling_bytes f 0 at)) gives mid
    → IsTornBy (8 * cluster + at / 512) (sectors_of (filling_bytes f at n)) mid now → PutsTorn (record { cluster = cluster; bytes = filling_bytes f 0 all }) gives now
piece_torn f cluster at n all gives mid now whole whole' le put torn =
    piece_known f cluster at n all gives now whole whole' le (subst (λ (m : Option (List (List ℕ))). IsTornBy (8 * cluster + at / 512) (sectors_of (filling_bytes f at n)) m now) put torn)

-- a front that failed
pub front_torn : (f : Filling) (cluster k all : ℕ) (gives now : Option (List (List ℕ))) → k % 512 ≡ 0 → k ≤ all → PutsTorn (record { cluster = cluster; bytes = filling_bytes f 0 k }) gives now → PutsTorn (record { cluster = cluster; bytes = filling_bytes f 0 all }) gives now
front_torn f cluster k all None None whole le torn = tt
front_torn f cluster k all None (Some now) whole le torn = torn
front_torn f cluster k all (Some disk) None whole le torn = torn
front_torn f cluster k all (Some disk) (Some now) whole le torn = front_mix f cluster k all disk now whole le torn

-- ---- regions one after the other

-- the first region failed
pub stops_in : (r : Region) (rs : List Region) (gives now : Option (List (List ℕ))) → PutsTorn r gives now → PutsFront (r ∷ rs) gives now
stops_in r rs None None torn = tt
stops_in r rs None (Some now) torn = torn
stops_in r rs (Some old) None torn = torn
stops_in r rs (Some old) (Some now) torn = inl torn

behind_more : (front rs : List Region) (old now : List (List ℕ)) → StandInFront rs (put_regions front old) now → StandInFront (front ++ rs) old now
behind_more [] rs old now rest = rest
behind_more (r ∷ front) rs old now rest = inr (behind_more front rs (put_region r old) now rest)

behind_known : (front rs : List Region) (gives now : Option (List (List ℕ))) → PutsFront rs (option_map (put_regions front) gives) now → PutsFront (front ++ rs) gives now
behind_known front rs None None rest = tt
behind_known front rs None (Some now) rest = rest
behind_known front rs (Some old) None rest = rest
behind_known front rs (Some old) (Some now) rest = behind_more front rs old now rest

-- these regions stand, and those behind them stop
pub stops_behind : (front rs : List Region) (gives mid now : Option (List (List ℕ))) → Puts front gives mid → PutsFront rs mid now → PutsFront (front ++ rs) gives now
stops_behind front rs gives mid now put rest = behind_known front rs gives now (subst (λ (m : Option (List (List ℕ))). PutsFront rs m now) put rest)

earlier : (front rs : List Region) (old now : List (List ℕ)) → StandInFront front old now → StandInFront (front ++ rs) old now
earlier [] [] old now same = same
earlier [] (r ∷ rs) old now same = inl (record { counted = ap (λ (d : List (List ℕ)). length d) same; each = λ s. inl (ap (λ (d : List (List ℕ)). sector_of d s) same) })
earlier (r ∷ front) rs old now (inl mix) = inl mix
earlier (r ∷ front) rs old now (inr rest) = inr (earlier front rs (put_region r old) now rest)

-- the writing stopped before the other regions
pub stops_before : (front rs : List Region) (gives now : Option (List (List ℕ))) → PutsFront front gives now → PutsFront (front ++ rs) gives now
stops_before front rs None None stopped = tt
stops_before front rs None (Some now) stopped = stopped
stops_before front rs (Some old) None stopped = stopped
stops_before front rs (Some old) (Some now) stopped = earlier front rs old now stopped

all_stand : (rs : List Region) (old : List (List ℕ)) → StandInFront rs old (put_regions rs old)
all_stand [] old = refl
all_stand (r ∷ rs) old = inr (all_stand rs (put_region r old))

all_known : (rs : List Region) (gives : Option (List (List ℕ))) → PutsFront rs gives (option_map (put_regions rs) gives)
all_known rs None = tt
all_known rs (Some old) = all_stand rs old

-- all regions stand
pub stops_after : (rs : List Region) (gives now : Option (List (List ℕ))) → Puts rs gives now → PutsFront rs gives now
stops_after rs gives now put = subst (λ (n : Option (List (List ℕ))). PutsFront rs gives n) (sym put) (all_known rs gives)

-- one region stands, and those behind it stop
pub stops_next : (r : Region) (rs : List Region) (gives mid now : Option (List (List ℕ))) → Puts (r ∷ []) gives mid → PutsFront rs mid now → PutsFront (r ∷ rs) gives now
stops_next r rs gives mid now put rest = stops_behind (r ∷ []) rs gives mid now put rest

-- ---- the places at which the writing of an image stops

abbrev pub records_of : Parts → List Region
records_of p =
    record { cluster = table_first; bytes = p.table.items }
    ∷ record { cluster = mirror_first; bytes = p.mirror.items }
    ∷ record { cluster = record_bits_first; bytes = p.record_bits.items }
    ∷ []

abbrev pub long_of : Layout → List Region
long_of v =
    record { cluster = upper_case_first; bytes = upper_case_bytes }
    ∷ record { cluster = log_first; bytes = log_bytes v }
    ∷ record { cluster = cluster_bits_first v; bytes = cluster_bits v }
    ∷ []

abbrev pub last_of : Layout → Parts → List Region
last_of v p = record { cluster = block_first v; bytes = p.block.items } ∷ record { cluster = 0; bytes = p.boot.items } ∷ []

pub in_records : (v : Layout) (p : Parts) (gives now : Option (List (List ℕ))) → PutsFront (records_of p) gives now → PutsFront (regions_of v p) gives now
in_records v p gives now stopped = stops_before (records_of p) (long_of v ++ last_of v p) gives now stopped

pub in_long : (v : Layout) (p : Parts) (gives a now : Option (List (List ℕ))) → Puts (records_of p) gives a → PutsFront (long_of v) a now → PutsFront (regions_of v p) gives now
in_long v p gives a now records stopped = stops_behind (records_of p) (long_of v ++ last_of v p) gives a now records (stops_before (long_of v) (last_of v p) a now stopped)

in_last : (v : Layout) (p : Parts) (gives a b now : Option (List (List ℕ))) → Puts (records_of p) gives a → Puts (long_of v) a b → PutsFront (last_of v p) b now → PutsFront (regions_of v p) gives now
in_last v p gives a b now records long rest =
    stops_behind (records_of p) (long_of v ++ last_of v p) gives a now records (stops_behind (long_of v) (last_of v p) a b now long rest)

pub in_block : (v : Layout) (p : Parts) (k : ℕ) (gives a b now : Option (List (List ℕ))) → k ≡ block_first v → Puts (records_of p) gives a → Puts (long_of v) a b
    → PutsTorn (record { cluster = k; bytes = p.block.items }) b now → PutsFront (regions_of v p) gives now
in_block v p k gives a b now e records long torn =
    in_last v p gives a b now records long
    (stops_in (record { cluster = block_first v; bytes = p.block.items }) (record { cluster = 0; bytes = p.boot.items } ∷ []) b now
    (subst (λ (j : ℕ). PutsTorn (record { cluster = j; bytes = p.block.items }) b now) e torn))

in_boot_or_behind : (v : Layout) (p : Parts) (k : ℕ) (gives a b d now : Option (List (List ℕ))) → k ≡ block_first v → Puts (records_of p) gives a → Puts (long_of v) a b → Puts (record { cluster = k; bytes = p.block.items } ∷ []) b d
    → PutsFront (record { cluster = 0; bytes = p.boot.items } ∷ []) d now → PutsFront (regions_of v p) gives now
in_boot_or_behind v p k gives a b d now e records long block rest =
    in_last v p gives a b now records long
    (stops_next (record { cluster = block_first v; bytes = p.block.items }) (record { cluster = 0; bytes = p.boot.items } ∷ []) b d now
    (subst (λ (j : ℕ). Puts (record { cluster = j; bytes = p.block.items } ∷ []) b d) e block) rest)

pub in_boot : (v : Layout) (p : Parts) (k : ℕ) (gives a b d now : Option (List (List ℕ))) → k ≡ block_first v → Puts (records_of p) gives a → Puts (long_of v) a b → Puts (record { cluster = k; bytes = p.block.items } ∷ []) b d
    → PutsTorn (record { cluster = 0; bytes = p.boot.items }) d now → PutsFront (regions_of v p) gives now
in_boot v p k gives a b d now e records long block torn =
    in_boot_or_behind v p k gives a b d now e records long block (stops_in (record { cluster = 0; bytes = p.boot.items }) [] d now torn)

pub in_sync : (v : Layout) (p : Parts) (k : ℕ) (gives a b d s now : Option (List (List ℕ))) → k ≡ block_first v → Puts (records_of p) gives a → Puts (long_of v) a b → Puts (record { cluster = k; bytes = p.block.items } ∷ []) b d
    → Puts (record { cluster = 0; bytes = p.boot.items } ∷ []) d s → now ≡ s → PutsFront (regions_of v p) gives now
in_sync v p k gives a b d s now e records long block boot same =
    in_boot_or_behind v p k gives a b d now e records long block (stops_after (record { cluster = 0; bytes = p.boot.items } ∷ []) d now (same ∙ boot))

-- ---- the sectors behind the regions

-- each region ends at or before this sector
abbrev EndBy : ℕ → List Region → Type 0
EndBy end [] = ⊤
EndBy end (r ∷ rs) = (8 * r.cluster + length (sectors_of r.bytes) ≤ end) × EndBy end rs

front_keeps : (end : ℕ) (rs : List Region) (old now : List (List ℕ)) → EndBy end rs → StandInFront rs old now → KeepsFrom end old now
front_keeps end [] old now ends same = record { counted = ap (λ (d : List (List ℕ)). length d) same; others = λ s le. ap (λ (d : List (List ℕ)). sector_of d s) same }
front_keeps end (r ∷ rs) old now ends (inl mix) = record {
  counted = mix.counted;
  others = λ s le. outside_stays old (sectors_of r.bytes) now (8 * r.cluster) s mix (inr (omega (arith, le, ends.0)));
}
front_keeps end (r ∷ rs) old now ends (inr rest) =
    let kept = front_keeps end rs (put_region r old) now ends.1 rest in
    record {
      counted = kept.counted ∙ frames.length-written (8 * r.cluster) (sectors_of r.bytes) old;
      others = λ s le. kept.others s le ∙ frames.written_behind (8 * r.cluster) (sectors_of r.bytes) old s zero_sector (omega (arith, le, ends.0));
    }

length-upper_case : length upper_case_bytes ≡ 131072
unfolding upper_case_bytes standard_table
length-upper_case = ap (λ (l : List ℕ). length l) (upper_filled 65536 131072 (omega arith) (omega arith)) ∙ length-filling_bytes UpperCase 0 131072

length-log : (v : Layout) → length (log_bytes v) ≡ 4096 * v.log_pages
unfolding log_bytes
length-log v = length-replicate {A = ℕ} (4096 * v.log_pages) 0xFF

length-bits : (v : Layout) → length (cluster_bits v) ≡ 4096 * v.bitmap_clusters
unfolding cluster_bits
length-bits v = length-map-range_with_len (cluster_bits_byte v) 0 (4096 * v.bitmap_clusters)

end_of : (end cluster size : ℕ) (bytes : List ℕ) → length bytes ≡ size → 8 * cluster + size / 512 ≤ end → 8 * cluster + length (sectors_of bytes) ≤ end
end_of end cluster size bytes e le = let count : length (sectors_of bytes) ≡ length bytes / 512 = length-sectors_of bytes in omega (arith, count, e, le)

regions_end : (v : Layout) (p : Parts) → HaveSizes p → EndBy (8 * used_clusters v) (regions_of v p)
regions_end v p sizes =
    let table : 8 * table_first + length (sectors_of p.table.items) ≤ 8 * used_clusters v = end_of (8 * used_clusters v) table_first 65536 p.table.items sizes.table (omega arith) in
    let mirror : 8 * mirror_first + length (sectors_of p.mirror.items) ≤ 8 * used_clusters v = end_of (8 * used_clusters v) mirror_first 4096 p.mirror.items sizes.mirror (omega arith) in
    let record_bits : 8 * record_bits_first + length (sectors_of p.record_bits.items) ≤ 8 * used_clusters v = end_of (8 * used_clusters v) record_bits_first 4096 p.record_bits.items sizes.record_bits (omega arith) in
    let upper_case : 8 * upper_case_first + length (sectors_of upper_case_bytes) ≤ 8 * used_clusters v = end_of (8 * used_clusters v) upper_case_first 131072 upper_case_bytes length-upper_case (omega arith) in
    let log : 8 * log_first + length (sectors_of (log_bytes v)) ≤ 8 * used_clusters v = end_of (8 * used_clusters v) log_first (4096 * v.log_pages) (log_bytes v) (length-log v) (omega arith) in
    let bits : 8 * cluster_bits_first v + length (sectors_of (cluster_bits v)) ≤ 8 * used_clusters v = end_of (8 * used_clusters v) (cluster_bits_first v) (4096 * v.bitmap_clusters) (cluster_bits v) (length-bits v) (omega arith) in
    let block : 8 * block_first v + length (sectors_of p.block.items) ≤ 8 * used_clusters v = end_of (8 * used_clusters v) (block_first v) 4096 p.block.items sizes.block (omega arith) in
    let boot : 8 * 0 + length (sectors_of p.boot.items) ≤ 8 * used_clusters v = end_of (8 * used_clusters v) 0 8192 p.boot.items sizes.boot (omega arith) in
    (table, (mirror, (record_bits, (upper_case, (log, (bits, (block, (boot, tt))))))))

-- wherever the writing stopped, the sectors behind the regions stay
pub stopped_keeps : (v : Layout) (p : Parts) (gives now : Option (List (List ℕ))) → HaveSizes p → PutsFront (regions_of v p) gives now → KeepsOthers v gives now
stopped_keeps v p None None sizes stopped = tt
stopped_keeps v p None (Some now) sizes stopped = stopped
stopped_keeps v p (Some old) None sizes stopped = stopped
stopped_keeps v p (Some old) (Some now) sizes stopped = front_keeps (8 * used_clusters v) (regions_of v p) old now (regions_end v p sizes) stopped

-- ---- the answers of the calls above

abbrev error_or : {T E : Type 0} → E → Result T E → E
error_or d (Ok x) = d
error_or d (Err e) = e

-- a result is one error at most
pub same_error : {T E : Type 0} (result : Result T E) (e d : E) → result ≡ Err e → result ≡ Err d → e ≡ d
same_error result e d is was = ap (error_or d) (sym is ∙ was)

pub keeps_all : (v : Layout) (gives : Option (List (List ℕ))) → KeepsOthers v gives gives
keeps_all v None = tt
keeps_all v (Some old) = record { counted = refl; others = λ s le. refl }

-- a device that wasn't called
pub untouched_keeps : (v : Layout) (gives now : Option (List (List ℕ))) → now ≡ gives → KeepsOthers v gives now
untouched_keeps v gives now same = subst (λ (n : Option (List (List ℕ))). KeepsOthers v gives n) (sym same) (keeps_all v gives)

-- the regions that were made are those that are meant
same_regions : (v : Layout) (seed time : ℕ) (p : Parts) → ArePartsOf v seed time p → regions_of v p ≡ regions v seed time
same_regions v seed time p are = rw (are.table, are.mirror, are.record_bits, are.block, are.boot) refl

pub stopped_as : (v : Layout) (seed time : ℕ) (p : Parts) (gives now : Option (List (List ℕ))) → ArePartsOf v seed time p → PutsFront (regions_of v p) gives now → PutsFront (regions v seed time) gives now
stopped_as v seed time p gives now are stopped = subst (λ (rs : List Region). PutsFront rs gives now) (same_regions v seed time p are) stopped

-- the layout is that of the device
pub stopped_on : (v w : Layout) (seed time : ℕ) (gives now : Option (List (List ℕ))) → v ≡ w → PutsFront (regions v seed time) gives now → PutsFront (regions w seed time) gives now
stopped_on v w seed time gives now e stopped = subst (λ (u : Layout). PutsFront (regions u seed time) gives now) e stopped

pub keeps_on : (v w : Layout) (gives now : Option (List (List ℕ))) → v ≡ w → KeepsOthers v gives now → KeepsOthers w gives now
keeps_on v w gives now e kept = subst (λ (u : Layout). KeepsOthers u gives now) e kept
