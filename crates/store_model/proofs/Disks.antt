-- What a write and a sync make of the images.
use Rattle.std.proofs.Common.{◌≡◌, ◌⊎◌, inl, inr, ⊎_elim, ℕ, Bool, true, false, List, [], ◌∷◌, refl, sym, ◌∙◌, subst, arith}
use Rattle.std.specs.Prelude.{if◌then◌else◌, Contains}
use Rattle.log_model.specs.disk_model.declared.block.Block.{Block}
use Rattle.sector_device.specs.Disks.{Disk, newest, seen, settled}
use Rattle.store_model.specs.Geometry.{SectorBytes, Geometry, CanLeave, Puts, PutsAll, AreApart}

-- what a read gives is one of the images
pub leaves_seen : (disk : Disk) → CanLeave disk (seen disk)
leaves_seen disk s = go (disk.written s)
  where
    go : (vs : List (List ℕ)) → (newest vs (disk.durable s) ≡ disk.durable s) ⊎ Contains vs (newest vs (disk.durable s))
    go [] = inl refl
    go (v ∷ vs) = inr (0, omega arith, refl)

-- after a sync there is one image
pub leaves_synced : (disk : Disk) (sectors : SectorBytes) → CanLeave (settled disk) sectors → (s : ℕ) → sectors s ≡ seen disk s
leaves_synced disk sectors left s = go (left s)
  where
    go : (sectors s ≡ seen disk s) ⊎ Contains [] (sectors s) → sectors s ≡ seen disk s
    go (inl e) = e
    go (inr m) = absurd (omega (arith, m.1))

-- all that is written anyway
pub puts_all : (geometry : Geometry) (b : Block) (new : SectorBytes) (before after : Disk) → PutsAll geometry b new before after → Puts geometry b new before after
puts_all geometry b new before after puts = record { durable = puts.durable; own = λ s h. inr (puts.own s h); other = puts.other }

module _ (geometry : Geometry) (b : Block) (new : SectorBytes) (before after : Disk) (puts : Puts geometry b new before after) (c : Block) (apart : AreApart geometry b c) where
  -- the image as it could have been before, with the same sectors of another block
  abbrev pub earlier : SectorBytes → SectorBytes
  earlier image s = if geometry.has c s then image s else before.durable s

  off : (s : ℕ) → geometry.has c s ≡ true → geometry.has b s ≡ false
  off s h = go (geometry.has b s) refl
    where
      clash : true ≡ false → ⊥
      clash e = cc

      go : (v : Bool) → geometry.has b s ≡ v → geometry.has b s ≡ false
      go true k = absurd (clash (sym h ∙ apart s k))
      go false k = k

  pub leaves_earlier : (image : SectorBytes) → CanLeave after image → CanLeave before (earlier image)
  leaves_earlier image left s = go (geometry.has c s) refl
    where
      go : (v : Bool) → geometry.has c s ≡ v → (earlier image s ≡ before.durable s) ⊎ Contains (before.written s) (earlier image s)
      go true h = rw h (⊎_elim (λ e. inl (e ∙ puts.durable s)) (λ m. inr (subst (λ (vs : List (List ℕ)). Contains vs (image s)) (puts.other s (off s h)) m)) (left s))
      go false h = rw h (inl refl)

  pub decode_earlier : (image : SectorBytes) (i : ℕ) → geometry.decode c image i ≡ geometry.decode c (earlier image) i
  decode_earlier image i = geometry.own c image (earlier image) i (λ s h. rw h refl)

  pub torn_earlier : (image : SectorBytes) → geometry.torn c image ≡ geometry.torn c (earlier image)
  torn_earlier image = geometry.own_torn c image (earlier image) (λ s h. rw h refl)

  pub torn_seen : geometry.torn c (seen after) ≡ geometry.torn c (seen before)
  torn_seen = geometry.own_torn c (seen after) (seen before) (λ s h. rw (puts.other s (off s h), puts.durable s) refl)

  pub decode_seen : (i : ℕ) → geometry.decode c (seen after) i ≡ geometry.decode c (seen before) i
  decode_seen i = geometry.own c (seen after) (seen before) i (λ s h. rw (puts.other s (off s h), puts.durable s) refl)
