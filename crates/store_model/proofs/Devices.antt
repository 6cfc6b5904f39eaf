-- The device's writes in the words of the machine, and the sectors by which a body is written.
use Rattle.std.proofs.Common.{◌≡◌, ◌⊎◌, inl, inr, ⊎_elim, ℕ, zero, suc, ◌+◌, ◌-◌, ◌*◌, ◌^◌, ◌<◌, Bool, true, false, List, [], ◌∷◌, ◌++◌, length, get_or, refl, sym, ◌∙◌, ap, subst, arith}
use Rattle.std.specs.Prelude.{if◌then◌else◌, Contains, slice_index}
use Rattle.std.proofs.lemmas.List.{take_all}
use Rattle.log_model.specs.disk_model.declared.block.Block.{Block}
use Rattle.log_model.specs.disk_model.declared.block.Body.{Body}
use Rattle.log_model.specs.disk_model.declared.block.BlockKind.{BlockKind}
use Rattle.log_model.specs.disk_model.Sectors.{sector_of, sectors, raw_from}
use Rattle.log_model.specs.disk_model.Content.{content_of, body_of, plain_body}
use Rattle.fixup_record.specs.Spellings.{is_sequenced, spelled}
use Rattle.fixup_record.proofs.Protected.{length-protected}
use Rattle.fixup_record.proofs.Spelled.{read_spelled, tested}
use Rattle.fixup_record.specs.Protecting.{protected_bytes}
use Rattle.sector_device.specs.Sectors.{sectors_of}
use Rattle.sector_device.specs.Disks.{Disk, newest, seen, put, is_within, IsBetween, IsSettled}
use Rattle.sector_device.proofs.SectorParts.{raw_from_is_part}
use Rattle.store_model.specs.Geometry.{Geometry, Puts, PutsAll}
use Rattle.store_model.specs.Stores.{Window}
use Rattle.store_model.specs.Events.{Spells, StandsAs}
use Rattle.store_model.specs.Volumes.{first_bytes, IsVolume, BearsContent, sectors_from, body_sectors}
use Rattle.store_model.proofs.Told.{true≢false}
use Rattle.store_model.proofs.Known.{is_in, own_content}
use Rattle.store_model.proofs.Volumes.{length-first_bytes, first_at, size_known, known_sized}

-- ---- writes

-- inside the block, and outside of it
put_here : (first : ℕ) (new : List (List ℕ)) (disk : Disk) (s : ℕ) → is_within first (length new) s ≡ true → (put first new disk).written s ≡ sectors_from first new s ∷ disk.written s
put_here first new disk s h = ap (λ (v : Bool). if v then sectors_from first new s ∷ disk.written s else disk.written s) h

put_there : (first : ℕ) (new : List (List ℕ)) (disk : Disk) (s : ℕ) → is_within first (length new) s ≡ false → (put first new disk).written s ≡ disk.written s
put_there first new disk s h = ap (λ (v : Bool). if v then sectors_from first new s ∷ disk.written s else disk.written s) h

has_is : (own : ℕ → Bool) (geometry : Geometry) → IsVolume own geometry → (b : Block) (new : List (List ℕ)) → length new ≡ sectors b.kind → (s : ℕ) → is_within b.first (length new) s ≡ geometry.has b s
has_is own geometry volume b new sized s = ap (λ (n : ℕ). is_within b.first n s) sized ∙ sym (volume.has b s)

pub put_is : (own : ℕ → Bool) (geometry : Geometry) → IsVolume own geometry → (b : Block) (new : List (List ℕ)) (disk : Disk) → length new ≡ sectors b.kind → PutsAll geometry b (sectors_from b.first new) disk (put b.first new disk)
put_is own geometry volume b new disk sized = record {
  durable = λ s. refl;
  own = λ s h. put_here b.first new disk s (has_is own geometry volume b new sized s ∙ h);
  other = λ s h. put_there b.first new disk s (has_is own geometry volume b new sized s ∙ h);
}

pub torn_is : (own : ℕ → Bool) (geometry : Geometry) → IsVolume own geometry → (b : Block) (new : List (List ℕ)) (disk now : Disk) → length new ≡ sectors b.kind → IsBetween disk (put b.first new disk) now → Puts geometry b (sectors_from b.first new) disk now
torn_is own geometry volume b new disk now sized between = record {
  durable = between.durable;
  own = λ s h. ⊎_elim (λ e. inl e) (λ e. inr (e ∙ put_here b.first new disk s (has_is own geometry volume b new sized s ∙ h))) (between.written s);
  other = λ s h. ⊎_elim (λ e. e) (λ e. e ∙ put_there b.first new disk s (has_is own geometry volume b new sized s ∙ h)) (between.written s);
}

-- sectors that are written as they stand, also by a write that failed
pub again_is : (first : ℕ) (new : List (List ℕ)) (disk now : Disk) → ((s : ℕ) → is_within first (length new) s ≡ true → sectors_from first new s ≡ seen disk s) → IsBetween disk (put first new disk) now → StandsAs disk now
again_is first new disk now same between = record { seen = λ s. (at s).0; leaves = λ image left s. (at s).1 (image s) (left s) }
  where
    held : (vs : List (List ℕ)) (s : ℕ) → disk.written s ≡ vs → (x : List ℕ) → x ≡ newest vs (disk.durable s) → (x ≡ disk.durable s) ⊎ Contains (disk.written s) x
    held [] s h x e = inl e
    held (v ∷ vs) s h x e = inr (subst (λ (us : List (List ℕ)). Contains us x) (sym h) (0, omega arith, sym e))

    -- the newest value is the one that stood there
    older : (s : ℕ) (v x : List ℕ) → v ≡ seen disk s → Contains (v ∷ disk.written s) x → (x ≡ disk.durable s) ⊎ Contains (disk.written s) x
    older s v x is m = found m.0 m.1 m.2
      where
        found : (i : ℕ) → i < length (v ∷ disk.written s) → get_or (v ∷ disk.written s) i x ≡ x → (x ≡ disk.durable s) ⊎ Contains (disk.written s) x
        found zero lt e = held (disk.written s) s refl x (sym e ∙ is)
        found (suc i) lt e = inr (i, omega (arith, lt), e)

    unchanged : (s : ℕ) → now.written s ≡ disk.written s → (seen now s ≡ seen disk s) × ((x : List ℕ) → (x ≡ now.durable s) ⊎ Contains (now.written s) x → (x ≡ disk.durable s) ⊎ Contains (disk.written s) x)
    unchanged s e = (
      ap (λ (vs : List (List ℕ)). newest vs (now.durable s)) e ∙ ap (newest (disk.written s)) (between.durable s),
      λ x left. ⊎_elim (λ is. inl (is ∙ between.durable s)) (λ m. inr (subst (λ (vs : List (List ℕ)). Contains vs x) e m)) left,
    )

    changed : (s : ℕ) → now.written s ≡ sectors_from first new s ∷ disk.written s → sectors_from first new s ≡ seen disk s
        → (seen now s ≡ seen disk s) × ((x : List ℕ) → (x ≡ now.durable s) ⊎ Contains (now.written s) x → (x ≡ disk.durable s) ⊎ Contains (disk.written s) x)
    changed s e is = (
      ap (λ (vs : List (List ℕ)). newest vs (now.durable s)) e ∙ is,
      λ x left. ⊎_elim (λ h. inl (h ∙ between.durable s)) (λ m. older s (sectors_from first new s) x is (subst (λ (vs : List (List ℕ)). Contains vs x) e m)) left,
    )

    at : (s : ℕ) → (seen now s ≡ seen disk s) × ((x : List ℕ) → (x ≡ now.durable s) ⊎ Contains (now.written s) x → (x ≡ disk.durable s) ⊎ Contains (disk.written s) x)
    at s = go (is_within first (length new) s) refl (between.written s)
      where
        go : (v : Bool) → is_within first (length new) s ≡ v → (now.written s ≡ disk.written s) ⊎ (now.written s ≡ (put first new disk).written s)
            → (seen now s ≡ seen disk s) × ((x : List ℕ) → (x ≡ now.durable s) ⊎ Contains (now.written s) x → (x ≡ disk.durable s) ⊎ Contains (disk.written s) x)
        go v h (inl e) = unchanged s e
        go true h (inr e) = changed s (e ∙ put_here first new disk s h) (same s h)
        go false h (inr e) = unchanged s (e ∙ put_there first new disk s h)

-- ---- a disk that bears what is read of it

pub settled_bears : (own : ℕ → Bool) (disk : Disk) → IsSettled disk → BearsContent own disk (content_of (seen disk))
settled_bears own disk still at b left known = let same = own_content b at (seen disk) (λ s h. one s) in (ap (λ (body : Body). body.bytes) same, λ torn. sym (ap (λ (body : Body). body.torn) same) ∙ torn)
  where
    one : (s : ℕ) → at s ≡ seen disk s
    one s = go (left s)
      where
        durable : seen disk s ≡ disk.durable s
        durable = ap (λ (vs : List (List ℕ)). newest vs (disk.durable s)) (still s)

        go : (at s ≡ disk.durable s) ⊎ Contains (disk.written s) (at s) → at s ≡ seen disk s
        go (inl e) = e ∙ sym durable
        go (inr m) = let m' = subst (λ (vs : List (List ℕ)). Contains vs (at s)) (still s) m in absurd (omega (arith, m'.1))

-- ---- the sectors of a body

raw_shift : (f g : ℕ → List ℕ) (a c n : ℕ) → ((k : ℕ) → k < n → f (a + k) ≡ g (c + k)) → raw_from f a n ≡ raw_from g c n
unfolding raw_from
raw_shift f g a c zero same = refl
raw_shift f g a c (suc n) same =
    let here : f a ≡ g c = ap f (let e : a ≡ a + 0 = omega arith in e) ∙ same 0 (omega arith) ∙ ap g (let e : c + 0 ≡ c = omega arith in e) in
    let rest : raw_from f (a + 1) n ≡ raw_from g (c + 1) n = raw_shift f g (a + 1) (c + 1) n
    (λ k lt. ap f (let e : a + 1 + k ≡ a + suc k = omega arith in e) ∙ same (suc k) (omega (arith, lt)) ∙ ap g (let e : c + suc k ≡ c + 1 + k = omega arith in e)) in
    ap (λ (x : List ℕ). x ++ raw_from f (a + 1) n) here ∙ ap (λ (x : List ℕ). g c ++ x) rest

length-spelled : (kind : BlockKind) (check : ℕ) (bytes : List ℕ) → length (spelled kind check bytes) ≡ length bytes
unfolding spelled
length-spelled kind check bytes = go (is_sequenced kind bytes)
  where
    go : (v : Bool) → length (if v then protected_bytes bytes check else bytes) ≡ length bytes
    go true = length-protected bytes check
    go false = refl

pub spells_body : (own : ℕ → Bool) (geometry : Geometry) → IsVolume own geometry → (w : Window) (b : Block) (check : ℕ) → geometry.has_spelling b (w.body b) ≡ true → check < 2 ^ 16
    → Spells geometry w b (sectors_from b.first (body_sectors b.kind check (w.body b)))
spells_body own geometry volume w b check has small f i lt agree = (volume.decode b f i ∙ ap (λ (body : Body). slice_index body.bytes i) here ∙ first_at n (w.body b) i short, λ torn. absurd (true≢false (sym torn ∙ volume.torn b f ∙ ap (λ (body : Body). body.torn) here)))
  where
    n : ℕ
    n = 512 * sectors b.kind

    bytes : List ℕ
    bytes = first_bytes (512 * sectors b.kind) (w.body b)

    raw : List ℕ
    raw = spelled b.kind check bytes

    sized : length bytes ≡ 512 * sectors b.kind
    sized = length-first_bytes (512 * sectors b.kind) (w.body b)

    raw_size : length raw ≡ 512 * sectors b.kind
    raw_size = length-spelled b.kind check bytes ∙ sized

    short : i < 512 * sectors b.kind
    short = omega (arith, lt, size_known own geometry volume b (known_sized own geometry volume b i lt))

    at_sector : (k : ℕ) → k < sectors b.kind → f (b.first + k) ≡ sector_of (sectors_of raw) (0 + k)
    at_sector k in_block = agree (b.first + k) (volume.has b (b.first + k) ∙ is_in b.first (sectors b.kind) (b.first + k) (omega arith) (omega (arith, in_block)))
        ∙ ap (sector_of (sectors_of raw)) (let e : b.first + k - b.first ≡ 0 + k = omega arith in e)

    is_raw : raw_from f b.first (sectors b.kind) ≡ raw
    is_raw = raw_shift f (sector_of (sectors_of raw)) b.first 0 (sectors b.kind) at_sector
        ∙ raw_from_is_part raw 0 (sectors b.kind) (omega (arith, raw_size))
        ∙ take_all (512 * sectors b.kind) raw (omega (arith, raw_size))

    here : content_of f b ≡ plain_body bytes
    here = ap (body_of b.kind) is_raw ∙ read_spelled b.kind check bytes sized ((tested b.kind bytes sized).0 (sym (volume.has_spelling b (w.body b)) ∙ has)) small
