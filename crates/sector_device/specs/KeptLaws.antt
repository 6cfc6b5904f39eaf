-- The disk that kept calls say is one: lemmas. They stand in specs/ since the laws of `Device` at a
-- device in memory are given by them.
use Rattle.std.proofs.Common.{◌≡◌, ◌⊎◌, ℕ, zero, suc, ◌+◌, ◌-◌, ◌≤◌, ◌<◌, Bool, true, false, cond, List, [], ◌∷◌, length, get_or, refl, sym, ap, ◌∙◌, inl, inr, arith}
use Rattle.std.specs.Prelude.{Contains, nat_le, nat_lt, ◌&&◌}
use Rattle.std.proofs.lemmas.Bool.{le-ltb}
use Rattle.disk_model.specs.Sectors.{sector_of, IsDisk}
use Rattle.sector_device.specs.Sectors.{sectors_of}
use Rattle.disk_model.specs.Bytes.{written}
use Rattle.sector_device.specs.WholeSectors.{IsDiskOf-sectors_of}
use Rattle.sector_device.specs.Disks.{newest, seen, is_within, IsSized, AreOver}
use Rattle.sector_device.specs.Kept.{written_by, durable_by, disk_by, past_by, AreKept}
use Rattle.sector_device.specs.declared.memory.KeptCall.{KeptCall}
use Rattle.sector_device.specs.declared.memory.KeptCall.TheVariants.{Read, Write, Sync, Failed}

pub cons_cases : (head x : List ℕ) (rest : List (List ℕ)) → Contains (head ∷ rest) x → (head ≡ x) ⊎ Contains rest x
cons_cases head x rest p = by_index p.0 p.1 p.2
  where
    by_index : (k : ℕ) → k < suc (length rest) → get_or (head ∷ rest) k x ≡ x → (head ≡ x) ⊎ Contains rest x
    by_index zero within found = inl found
    by_index (suc k) within found = inr (k, omega arith, found)

pub none_in : (x : List ℕ) → Contains [] x → ⊥
none_in x p = omega (arith, p.1)

newest_by : (s : ℕ) (now : List ℕ) (calls : List KeptCall) → newest (written_by s now calls) (durable_by s now calls) ≡ now
newest_by s now [] = refl
newest_by s now (Read ∷ calls) = newest_by s now calls
newest_by s now (Failed ∷ calls) = newest_by s now calls
newest_by s now (Sync at ∷ calls) = refl
newest_by s now (Write at first old ∷ calls) = go (is_within first (length (sectors_of old)) s) (newest_by s now calls)
  where
    go : (within : Bool) → newest (written_by s now calls) (durable_by s now calls) ≡ now → newest (cond within (now ∷ written_by s (sector_of (sectors_of old) (s - first)) calls) (written_by s now calls)) (cond within (durable_by s (sector_of (sectors_of old) (s - first)) calls) (durable_by s now calls)) ≡ now
    go true rest = refl
    go false rest = rest

pub seen_by : (gives : List (List ℕ)) (calls : List KeptCall) (s : ℕ) → sector_of gives s ≡ seen (disk_by gives calls) s
seen_by gives calls s = sym (newest_by s (sector_of gives s) calls)

durable_sized : (s : ℕ) (now : List ℕ) (calls : List KeptCall) → length now ≡ 512 → length (durable_by s now calls) ≡ 512
durable_sized s now [] sized = sized
durable_sized s now (Read ∷ calls) sized = durable_sized s now calls sized
durable_sized s now (Failed ∷ calls) sized = durable_sized s now calls sized
durable_sized s now (Sync at ∷ calls) sized = sized
durable_sized s now (Write at first old ∷ calls) sized =
    go (is_within first (length (sectors_of old)) s) (durable_sized s (sector_of (sectors_of old) (s - first)) calls ((IsDiskOf-sectors_of old).whole (s - first))) (durable_sized s now calls sized)
  where
    go : (within : Bool) → length (durable_by s (sector_of (sectors_of old) (s - first)) calls) ≡ 512 → length (durable_by s now calls) ≡ 512 → length (cond within (durable_by s (sector_of (sectors_of old) (s - first)) calls) (durable_by s now calls)) ≡ 512
    go true a b = a
    go false a b = b

written_sized : (s : ℕ) (now : List ℕ) (calls : List KeptCall) → length now ≡ 512 → (value : List ℕ) → Contains (written_by s now calls) value → length value ≡ 512
written_sized s now [] sized value among = absurd (none_in value among)
written_sized s now (Read ∷ calls) sized value among = written_sized s now calls sized value among
written_sized s now (Failed ∷ calls) sized value among = written_sized s now calls sized value among
written_sized s now (Sync at ∷ calls) sized value among = absurd (none_in value among)
written_sized s now (Write at first old ∷ calls) sized value among =
    go (is_within first (length (sectors_of old)) s) (written_sized s (sector_of (sectors_of old) (s - first)) calls ((IsDiskOf-sectors_of old).whole (s - first)) value) (written_sized s now calls sized value) among
  where
    go : (within : Bool) → (Contains (written_by s (sector_of (sectors_of old) (s - first)) calls) value → length value ≡ 512) → (Contains (written_by s now calls) value → length value ≡ 512)
        → Contains (cond within (now ∷ written_by s (sector_of (sectors_of old) (s - first)) calls) (written_by s now calls)) value → length value ≡ 512
    go true a b among =
        elim (cons_cases now value (written_by s (sector_of (sectors_of old) (s - first)) calls) among) [
          | inl is ↦ ap (λ (v : List ℕ). length v) (sym is) ∙ sized
          | inr rest ↦ a rest
        ]
    go false a b among = b among

pub sized_by : (gives : List (List ℕ)) (calls : List KeptCall) → IsDisk gives → IsSized (disk_by gives calls)
sized_by gives calls disk = record { durable = λ s. durable_sized s (sector_of gives s) calls (disk s); written = λ s value among. written_sized s (sector_of gives s) calls (disk s) value among }

within_less : (first n s : ℕ) → first + n ≤ s → is_within first n s ≡ false
within_less first n s le = go (nat_le first s) (nat_lt s (first + n)) (le-ltb s (first + n) le)
  where
    go : (a b : Bool) → b ≡ false → (a && b) ≡ false
    go true b e = e
    go false b e = refl

pub ends_by : (moment count s : ℕ) (now : List ℕ) (calls : List KeptCall) → AreKept moment count calls → count ≤ s → written_by s now calls ≡ []
ends_by moment count s now [] kept le = refl
ends_by moment count s now (Read ∷ calls) kept le = ends_by moment count s now calls kept le
ends_by moment count s now (Failed ∷ calls) kept le = ends_by moment count s now calls kept le
ends_by moment count s now (Sync at ∷ calls) kept le = refl
ends_by moment count s now (Write at first old ∷ calls) kept le =
    rw (within_less first (length (sectors_of old)) s (omega (arith, kept.1.0))) (ends_by moment count s now calls kept.1.1 le)

pub over_by : (moment count : ℕ) (gives : List (List ℕ)) (calls : List KeptCall) → AreKept moment count calls → AreOver moment (past_by gives calls)
over_by moment count gives [] kept = tt
over_by moment count gives (Read ∷ calls) kept = over_by moment count gives calls kept
over_by moment count gives (Failed ∷ calls) kept = over_by moment count gives calls kept
over_by moment count gives (Sync at ∷ calls) kept = (omega (arith, kept.0), over_by moment count gives calls kept.1)
over_by moment count gives (Write at first old ∷ calls) kept = (omega (arith, kept.0), over_by moment count (written first (sectors_of old) gives) calls kept.1.1)

pub kept_later : (moment later count : ℕ) (calls : List KeptCall) → AreKept moment count calls → moment ≤ later → AreKept later count calls
kept_later moment later count [] kept le = tt
kept_later moment later count (Read ∷ calls) kept le = kept_later moment later count calls kept le
kept_later moment later count (Failed ∷ calls) kept le = kept_later moment later count calls kept le
kept_later moment later count (Sync at ∷ calls) kept le = (omega (arith, kept.0), kept_later moment later count calls kept.1 le)
kept_later moment later count (Write at first old ∷ calls) kept le = (omega (arith, kept.0), (kept.1.0, kept_later moment later count calls kept.1.1 le))
