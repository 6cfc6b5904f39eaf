-- What the machine says of bytes, in the words of contents.
use Rattle.std.proofs.Common.{◌≡◌, ℕ, zero, suc, ◌+◌, ◌*◌, ◌<◌, Bool, true, false, not, List, [], ◌∷◌, length, slice_index, Option, None, refl, sym, ◌∙◌, ap, arith}
use Rattle.std.specs.Prelude.{if◌then◌else◌, unwrap_or, nat_eq, All}
use Rattle.std.specs.List.{list_any, list_all, range_with_len}
use Rattle.std.specs.Cmp.Lexicographic.{pointwise}
use Rattle.std.proofs.lemmas.Bool.{and_parts, eq-eqb}
use Rattle.std.proofs.lemmas.List.{ext_get_or}
use Rattle.std.proofs.lemmas.List.FromFn.{length-map-range_with_len, get_or-map-range_with_len}
use Rattle.log_model.specs.disk_model.declared.block.Block.{Block}
use Rattle.log_model.specs.disk_model.Sectors.{sectors, raw_from}
use Rattle.log_model.specs.disk_model.Content.{Content, content_of}
use Rattle.fixup_record.proofs.disk_model.Sectors.{length-body_of, length-raw_from}
use Rattle.fixup_record.specs.Spellings.{has_spelling}
use Rattle.sector_device.specs.Disks.{Disk, is_within}
use Rattle.log_model.specs.declared.entry.Entry.{Entry}
use Rattle.log_model.specs.Logs.{covers, IsLevel, is_ended, first_undo, told, is_shadowed, recovered, is_covered_whole, is_other}
use Rattle.log_model.proofs.Recovering.{recovered_at, length-recovered, torn_after}
use Rattle.log_model.proofs.Telling.{silent}
use Rattle.store_model.specs.Logs.{AllBytes, BodyBytes, IsClaimed}
use Rattle.store_model.specs.Geometry.{SectorBytes, Geometry}
use Rattle.store_model.specs.Stores.{Restores}
use Rattle.store_model.specs.Runs.{Bears}
use Rattle.store_model.specs.Volumes.{is_free, is_known, known_size, first_bytes, IsVolume, content_with, bytes_in, BearsContent, AreWhole, IsRecovered}
use Rattle.store_model.proofs.Told.{true≢false, or_left, or_right}
use Rattle.store_model.proofs.Known.{known_apart, own_byte, own_torn}

pub volume_geometry : (ℕ → Bool) → Geometry
volume_geometry own = record {
  has = λ b s. is_within b.first (sectors b.kind) s;
  size = known_size own;
  decode = λ b at i. slice_index (content_of at b).bytes i;
  torn = λ b at. (content_of at b).torn;
  has_spelling = λ b bytes. has_spelling b.kind (first_bytes (512 * sectors b.kind) bytes);
  off = λ b c known known' far other s here. known_apart (is_free own) b c s known known' far other here;
  own = own_byte;
  own_torn = own_torn;
}

pub is_volume : (own : ℕ → Bool) → IsVolume own (volume_geometry own)
unfolding volume_geometry
is_volume own = record { has = λ b s. refl; size = λ b. refl; decode = λ b at i. refl; torn = λ b at. refl; has_spelling = λ b bytes. refl }

-- ---- bytes as bodies

pub length-first_bytes : (n : ℕ) (f : BodyBytes) → length (first_bytes n f) ≡ n
unfolding first_bytes
length-first_bytes n f = length-map-range_with_len f 0 n

pub first_at : (n : ℕ) (f : BodyBytes) (i : ℕ) → i < n → slice_index (first_bytes n f) i ≡ f i
unfolding first_bytes
first_at n f i lt = get_or-map-range_with_len f 0 n i i 0 lt (omega arith)

pub content_size : (at : SectorBytes) (b : Block) → AreWhole at → length (content_of at b).bytes ≡ 512 * sectors b.kind
content_size at b whole = length-body_of b.kind (raw_from at b.first (sectors b.kind)) ∙ length-raw_from at b.first (sectors b.kind) whole

-- a known block has the bytes of its kind
pub size_known : (own : ℕ → Bool) (geometry : Geometry) → IsVolume own geometry → (b : Block) → is_known own b ≡ true → geometry.size b ≡ 512 * sectors b.kind
size_known own geometry volume b known = volume.size b ∙ ap (λ (v : Bool). if v then 512 * sectors b.kind else 0) known

pub known_sized : (own : ℕ → Bool) (geometry : Geometry) → IsVolume own geometry → (b : Block) (i : ℕ) → i < geometry.size b → is_known own b ≡ true
known_sized own geometry volume b i lt = go (is_known own b) refl
  where
    go : (v : Bool) → is_known own b ≡ v → is_known own b ≡ true
    go true h = h
    go false h = let none : known_size own b ≡ 0 = ap (λ (v : Bool). if v then 512 * sectors b.kind else 0) h in absurd (omega (arith, lt, volume.size b, none))

pub claimed_is : (l : List Entry) (b : Block) → is_shadowed l b ≡ false → IsClaimed l b
unfolding is_shadowed
claimed_is l b h is = true≢false (sym (ap (λ (o : Option Bool). unwrap_or o false) is) ∙ h)

-- ---- a byte that no update covers

not_all : (p : ℕ → Bool) (a n : ℕ) → list_all p (range_with_len a n) ≡ false → (i : ℕ) × (i < a + n) × (p i ≡ false)
not_all p a zero h = absurd (true≢false h)
not_all p a (suc n) h = go (λ k. not_all p (a + 1) n k) (p a) refl
  where
    go : (list_all p (range_with_len (a + 1) n) ≡ false → (i : ℕ) × (i < a + 1 + n) × (p i ≡ false)) → (v : Bool) → p a ≡ v → (i : ℕ) × (i < a + suc n) × (p i ≡ false)
    go rest false k = (a, omega arith, k)
    go rest true k = let r = rest (rw k at h) in (r.0, omega (arith, r.1), r.2)

pub none_covers : (l : List Entry) (b : Block) (i : ℕ) → list_any (λ (e : Entry). covers b i e.act) l ≡ false → first_undo l b i ≡ None
none_covers [] b i h = refl
none_covers (e ∷ l) b i h =
    rw (or_left (covers b i e.act) (list_any (λ (e : Entry). covers b i e.act) l) h) (none_covers l b i (or_right (covers b i e.act) (list_any (λ (e : Entry). covers b i e.act) l) h))

pub uncovered_byte : (l : List Entry) (b : Block) → is_covered_whole l b ≡ false → (i : ℕ) × (i < 512 * sectors b.kind) × (told l b i ≡ None)
unfolding is_covered_whole
uncovered_byte l b h =
    let r = not_all (λ i. list_any (λ (e : Entry). covers b i e.act) l) 0 (512 * sectors b.kind) h in
    (r.0, omega (arith, r.1), silent (is_ended l) l b r.0 (none_covers l b r.0 r.2))

-- ---- recovery byte by byte is recovery of the content

pub recovered_bytes : (own : ℕ → Bool) (geometry : Geometry) → IsVolume own geometry → (l : List Entry) (at : SectorBytes) (b : Block) (bytes : AllBytes) (torn : Block → Bool) → All IsLevel l → AreWhole at
    → Restores geometry l at b bytes torn → is_known own b ≡ true → is_shadowed l b ≡ false → IsRecovered l at (content_with bytes torn) b
recovered_bytes own geometry volume l at b bytes torn level whole r known claimed = record { bytes = same; torn = torn_most }
  where
    n : ℕ
    n = 512 * sectors b.kind

    size : length (content_of at b).bytes ≡ 512 * sectors b.kind
    size = content_size at b whole

    size_now : length (recovered (content_of at) l b).bytes ≡ 512 * sectors b.kind
    size_now = length-recovered (content_of at) l b ∙ size

    sized : geometry.size b ≡ 512 * sectors b.kind
    sized = size_known own geometry volume b known

    at_byte : (i : ℕ) → i < 512 * sectors b.kind → slice_index (recovered (content_of at) l b).bytes i ≡ bytes b i
    at_byte i lt =
        recovered_at (content_of at) l b i level claimed (omega (arith, lt, size))
        ∙ ap (λ (x : ℕ). unwrap_or (told l b i) x) (sym (volume.decode b at i))
        ∙ r.same i (omega (arith, lt, sized)) (claimed_is l b claimed)

    same : (recovered (content_of at) l b).bytes ≡ first_bytes (512 * sectors b.kind) (bytes b)
    same = ext_get_or 0 (recovered (content_of at) l b).bytes (first_bytes (512 * sectors b.kind) (bytes b)) (size_now ∙ sym (length-first_bytes (512 * sectors b.kind) (bytes b)))
        (λ i lt. let short : i < 512 * sectors b.kind = omega (arith, lt, size_now) in at_byte i short ∙ sym (first_at (512 * sectors b.kind) (bytes b) i short))

    torn_most : (recovered (content_of at) l b).torn ≡ true → torn b ≡ true
    torn_most h =
        let parts = and_parts (content_of at b).torn (not (is_covered_whole l b)) (sym (torn_after (content_of at) l b (λ c. content_size at c whole) level claimed) ∙ h) in
        let hole = uncovered_byte l b (not_is (is_covered_whole l b) parts.1) in
        r.torn_most hole.0 (omega (arith, hole.1, sized)) (claimed_is l b claimed) hole.2 (volume.torn b at ∙ parts.0)
      where
        not_is : (v : Bool) → not v ≡ true → v ≡ false
        not_is true e = sym e
        not_is false e = refl

-- a disk that bears a content bears its bytes
pub bears_bytes : (own : ℕ → Bool) (geometry : Geometry) → IsVolume own geometry → (disk : Disk) (content : Content) → BearsContent own disk content → Bears geometry disk (bytes_in content) (λ b. (content b).torn)
bears_bytes own geometry volume disk content bears at b i left lt =
    let x = bears at b left (known_sized own geometry volume b i lt) in
    (volume.decode b at i ∙ ap (λ (bytes : List ℕ). slice_index bytes i) x.0, λ torn. x.1 (sym (volume.torn b at) ∙ torn))

-- ---- no partial block

same_bytes : (xs : List ℕ) → pointwise nat_eq xs xs ≡ true
same_bytes [] = refl
same_bytes (x ∷ xs) = rw (eq-eqb x x refl) (same_bytes xs)

-- a block that is recovered as it stands on the disk
pub not_other : (own : ℕ → Bool) (geometry : Geometry) → IsVolume own geometry → (l : List Entry) (at : SectorBytes) (b : Block) → All IsLevel l → AreWhole at → is_known own b ≡ true → is_shadowed l b ≡ false
    → ((i : ℕ) → i < geometry.size b → unwrap_or (told l b i) (geometry.decode b at i) ≡ geometry.decode b at i) → is_other (content_of at) l b ≡ false
unfolding is_other
not_other own geometry volume l at b level whole known claimed stands = ap not (ap (λ (bytes : List ℕ). pointwise nat_eq bytes (content_of at b).bytes) same ∙ same_bytes (content_of at b).bytes)
  where
    size : length (content_of at b).bytes ≡ 512 * sectors b.kind
    size = content_size at b whole

    same : (recovered (content_of at) l b).bytes ≡ (content_of at b).bytes
    same = ext_get_or 0 (recovered (content_of at) l b).bytes (content_of at b).bytes (length-recovered (content_of at) l b)
        (λ i lt. let short : i < length (content_of at b).bytes = omega (arith, lt, length-recovered (content_of at) l b) in
        recovered_at (content_of at) l b i level claimed short
        ∙ ap (λ (x : ℕ). unwrap_or (told l b i) x) (sym (volume.decode b at i))
        ∙ stands i (omega (arith, short, size, size_known own geometry volume b known)) ∙ volume.decode b at i)
