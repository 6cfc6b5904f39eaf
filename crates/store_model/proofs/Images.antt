-- The list of an image: what it is of the store's, and that no block is covered by it in part.
use Rattle.std.proofs.Common.{◌≡◌, ⊎_elim, ℕ, ◌-◌, ◌<◌, ◌≤◌, Bool, true, false, not, ◌&&◌, List, [], ◌∷◌, length, take, drop, Option, None, refl, sym, ◌∙◌, ap, subst, arith, length-drop}
use Rattle.std.specs.Prelude.{unwrap_or, find, All}
use Rattle.std.specs.List.{AllByRecursion}
use Rattle.std.specs.Option.{option_map}
use Rattle.std.proofs.lemmas.List.Elements.{All-from_recursion}
use Rattle.log_model.specs.disk_model.declared.block.Block.{Block}
use Rattle.log_model.specs.disk_model.declared.block.BlockKind.TheVariants.{Plain}
use Rattle.log_model.specs.disk_model.Sectors.{same_kind}
use Rattle.log_model.specs.disk_model.Content.{Content, content_of}
use Rattle.log_model.specs.declared.entry.Entry.{Entry}
use Rattle.log_model.specs.declared.entry.Act.{Act}
use Rattle.log_model.specs.declared.entry.Act.TheVariants.{Update, Commit}
use Rattle.log_model.specs.Logs.{block_of_kind, updates, IsLevel, told, is_shadowed, is_covered_whole, is_other, is_partial, updates_partial, first_partial}
use Rattle.store_model.specs.Logs.{IsClaimed}
use Rattle.store_model.specs.Geometry.{Geometry}
use Rattle.store_model.specs.Stores.{Tells, Backs, Store, IsSound, IsStored, Image, MayLeave, list_of}
use Rattle.store_model.specs.Volumes.{is_known, IsVolume, AreWhole}
use Rattle.store_model.proofs.Told.{same_self, all_take, all_drop}
use Rattle.store_model.proofs.Main.{uncovered}
use Rattle.store_model.proofs.Volumes.{size_known, known_sized, claimed_is, uncovered_byte, not_other}

-- the list of an image is a beginning of one whose facts the store keeps
record Source (geometry : Geometry) (s : Store) (image : Image) (b : Block) : Type 0 where
  list : List Entry
  durable : ℕ
  upto : ℕ
  is : list_of s image ≡ take upto list
  tells : Tells geometry s.window list durable
  backs : Backs geometry s.window list durable image.sectors b
  low : durable ≤ upto
  high : upto ≤ length list

source : (geometry : Geometry) (s : Store) → IsSound geometry s → (image : Image) → MayLeave s image → (b : Block) → Source geometry s image b
source geometry s sound image left b = ⊎_elim from_oldest (λ h. from_next h.0 h.1) left.from
  where
    upto : image.upto ≤ length s.log
    upto = omega (arith, left.high, sound.sent)

    from_oldest : image.from ≡ 0 → Source geometry s image b
    from_oldest e = record {
      list = s.log;
      durable = s.synced;
      upto = image.upto;
      is = ap (λ (n : ℕ). take (image.upto - n) (drop n s.log)) e ∙ ap (λ (n : ℕ). take n s.log) (let z : image.upto - 0 ≡ image.upto = omega arith in z);
      tells = sound.oldest.tells;
      backs = sound.oldest.backs image.sectors b refl refl left.disk;
      low = left.low;
      high = upto;
    }

    from_next : s.renamed ≡ true → image.from ≡ s.place → Source geometry s image b
    from_next r e =
        let next = sound.next (sound.renamed r).0 in
        let paid = sound.paid r b in
        record {
          list = drop s.place s.log;
          durable = s.synced - s.place;
          upto = image.upto - s.place;
          is = ap (λ (n : ℕ). take (image.upto - n) (drop n s.log)) e;
          tells = next.tells;
          backs = next.backs image.sectors b paid.0 paid.1 left.disk;
          low = omega (arith, left.low);
          high = omega (arith, length-drop s.place s.log, upto);
        }

-- A block that the list doesn't cover whole, and that isn't shadowed, stands on the image as it is recovered.
stands_alone : (geometry : Geometry) (s : Store) → IsSound geometry s → (image : Image) → MayLeave s image → (b : Block) (j : ℕ) → j < geometry.size b → IsClaimed (list_of s image) b → told (list_of s image) b j ≡ None
    → (i : ℕ) → i < geometry.size b → unwrap_or (told (list_of s image) b i) (geometry.decode b image.sectors i) ≡ geometry.decode b image.sectors i
stands_alone geometry s sound image left b j inside claimed none i within =
    let src = source geometry s sound image left b in
    ap (λ (l : List Entry). unwrap_or (told l b i) (geometry.decode b image.sectors i)) src.is
    ∙ uncovered geometry s.window src.list src.durable image.sectors src.tells b src.upto j src.backs src.low src.high inside (subst (λ (l : List Entry). IsClaimed l b) src.is claimed) (ap (λ (l : List Entry). told l b j) (sym src.is) ∙ none) i within

pub image_entries : (geometry : Geometry) (s : Store) → IsSound geometry s → (image : Image) → AllByRecursion (IsStored geometry) (list_of s image)
image_entries geometry s sound image = all_take (IsStored geometry) (image.upto - image.from) (drop image.from s.log) (all_drop (IsStored geometry) image.from s.log sound.entries)

are_level : (geometry : Geometry) (l : List Entry) → AllByRecursion (IsStored geometry) l → AllByRecursion IsLevel l
are_level geometry [] stored = tt
are_level geometry (e ∷ l) stored = (stored.0.level, are_level geometry l stored.1)

pub image_level : (geometry : Geometry) (s : Store) → IsSound geometry s → (image : Image) → All IsLevel (list_of s image)
image_level geometry s sound image = All-from_recursion IsLevel (list_of s image) (are_level geometry (list_of s image) (image_entries geometry s sound image))

-- ---- no block is covered in part

pub not_partial : (own : ℕ → Bool) (geometry : Geometry) → IsVolume own geometry → (s : Store) → IsSound geometry s → (image : Image) → MayLeave s image → AreWhole image.sectors → (b : Block) → is_known own b ≡ true
    → is_partial (content_of image.sectors) (list_of s image) b ≡ false
unfolding is_partial
not_partial own geometry volume s sound image left whole b known =
    part (same_kind b.kind Plain) (is_shadowed (list_of s image) b) (is_covered_whole (list_of s image) b) (is_other (content_of image.sectors) (list_of s image) b) stands
  where
    part : (a s c o : Bool) → (s ≡ false → c ≡ false → o ≡ false) → (not a && not s && not c && o) ≡ false
    part true s c o h = refl
    part false true c o h = refl
    part false false true o h = refl
    part false false false true h = h refl refl
    part false false false false h = refl

    stands : is_shadowed (list_of s image) b ≡ false → is_covered_whole (list_of s image) b ≡ false → is_other (content_of image.sectors) (list_of s image) b ≡ false
    stands claimed hole =
        let j = uncovered_byte (list_of s image) b hole in
        not_other own geometry volume (list_of s image) image.sectors b (image_level geometry s sound image) whole known claimed
        (stands_alone geometry s sound image left b j.0 (omega (arith, j.1, size_known own geometry volume b known)) (claimed_is (list_of s image) b claimed) j.2)

pub none_partial : (own : ℕ → Bool) (geometry : Geometry) → IsVolume own geometry → (disk : Content) (log l : List Entry) → ((b : Block) → is_known own b ≡ true → is_partial disk log b ≡ false) → AllByRecursion (IsStored geometry) l
    → find (λ (e : Entry). updates_partial disk log e.act) l ≡ None
none_partial own geometry volume disk log [] never stored = refl
none_partial own geometry volume disk log (e ∷ l) never stored = rw (here e.act stored.0.known) (none_partial own geometry volume disk log l never stored.1)
  where
    here : (act : Act) → ((b : Block) → updates b act ≡ true → 0 < geometry.size b) → updates_partial disk log act ≡ false
    here (Update first kind at redo undo) known = never (block_of_kind first kind) (known_sized own geometry volume (block_of_kind first kind) 0 (known (block_of_kind first kind) (same_self (block_of_kind first kind))))
    here Commit known = refl

pub no_partial : (own : ℕ → Bool) (geometry : Geometry) → IsVolume own geometry → (s : Store) → IsSound geometry s → (image : Image) → MayLeave s image → AreWhole image.sectors
    → first_partial (content_of image.sectors) (list_of s image) ≡ None
no_partial own geometry volume s sound image left whole =
    ap (λ (o : Option Entry). option_map (λ (e : Entry). e.lsn) o)
    (none_partial own geometry volume (content_of image.sectors) (list_of s image) (list_of s image) (λ b known. not_partial own geometry volume s sound image left whole b known) (image_entries geometry s sound image))
