-- What recovery writes out of an image of a store.
use Rattle.std.specs.Prelude.{unwrap_or, All, nat_eq}
use Rattle.std.proofs.Common.{◌≡◌, ◌≢◌, ◌⊎◌, inl, inr, ⊎_elim, ℕ, zero, suc, ◌+◌, ◌*◌, ◌<◌, Bool, true, false, not, ◌&&◌, ◌||◌, List, [], ◌∷◌, Some, None, refl, sym, ◌∙◌, ap, subst, arith, slice_index}
use Rattle.std.specs.List.{list_any, list_all, range_with_len, AllByRecursion}
use Rattle.std.specs.Cmp.Lexicographic.{pointwise}
use Rattle.std.proofs.lemmas.Bool.{eqb-true, and_parts, and_from}
use Rattle.std.proofs.lemmas.List.Elements.{All-from_recursion}
use Rattle.log_model.specs.disk_model.declared.block.Block.{Block}
use Rattle.log_model.specs.disk_model.declared.block.BlockKind.{BlockKind}
use Rattle.log_model.specs.disk_model.declared.block.BlockKind.TheVariants.{Plain, FileRec, Index}
use Rattle.log_model.specs.disk_model.Sectors.{sectors, same_kind}
use Rattle.log_model.specs.disk_model.Content.{Content, content_of}
use Rattle.fixup_record.specs.Spellings.{has_spelling}
use Rattle.log_model.specs.declared.entry.Entry.{Entry}
use Rattle.log_model.specs.Logs.{recovered, IsLevel, updates, covers, undo_byte, is_ended, first_undo, told, last_said, is_shadowed, is_covered_whole, is_other, is_partial, is_written_out}
use Rattle.log_model.proofs.Telling.{silent, silent_rest}
use Rattle.store_model.specs.Logs.{AllBytes, IsClaimed, has_update}
use Rattle.store_model.specs.Geometry.{Geometry}
use Rattle.store_model.specs.Stores.{Store, member, IsSound, IsStored, Image, MayLeave, RecoversTo, CanRestore, list_of}
use Rattle.store_model.specs.Recovery.{Recovering, IsRestored, IsWhole}
use Rattle.store_model.specs.Volumes.{is_known, IsVolume, AreWhole, window_of, first_bytes}
use Rattle.store_model.specs.Laws.{WritesBack, IsRecoverable, StandsRecovered, StoppedRecovery, WordsAgree}
use Rattle.store_model.proofs.Told.{true≢false, Said, last_said_is}
use Rattle.store_model.proofs.Told.Said.{nothing, own as own_said, rivals}
use Rattle.store_model.proofs.Known.{within_is, is_in}
use Rattle.store_model.proofs.Main.{refines, restorable}
use Rattle.store_model.proofs.Stopping.{stops_restore}
use Rattle.store_model.proofs.Volumes.{size_known, known_sized, claimed_is, none_covers, first_at, recovered_bytes, not_other}
use Rattle.store_model.proofs.Images.{image_entries, image_level, not_partial}

-- a block with an update in the list of a store is known
pub some_known : (geometry : Geometry) (l : List Entry) (b : Block) → AllByRecursion (IsStored geometry) l → has_update l b ≡ true → 0 < geometry.size b
some_known geometry [] b stored has = absurd (true≢false (sym has))
some_known geometry (e ∷ l) b stored has = go (λ h. some_known geometry l b stored.1 h) (updates b e.act) refl
  where
    go : (has_update l b ≡ true → 0 < geometry.size b) → (v : Bool) → updates b e.act ≡ v → 0 < geometry.size b
    go rest true h = stored.0.known b h
    go rest false h = rest (rw h at has)

all_at : (p : ℕ → Bool) (a n i : ℕ) → list_all p (range_with_len a n) ≡ true → i < n → p (a + i) ≡ true
all_at p a zero i h lt = absurd (omega (arith, lt))
all_at p a (suc n) zero h lt = ap p (let e : a + 0 ≡ a = omega arith in e) ∙ (and_parts (p a) (list_all p (range_with_len (a + 1) n)) h).0
all_at p a (suc n) (suc i) h lt = ap p (let e : a + suc i ≡ a + 1 + i = omega arith in e) ∙ all_at p (a + 1) n i (and_parts (p a) (list_all p (range_with_len (a + 1) n)) h).1 (omega (arith, lt))

some_undo : (l : List Entry) (b : Block) (i : ℕ) → list_any (λ (e : Entry). covers b i e.act) l ≡ true → first_undo l b i ≢ None
some_undo [] b i h none = true≢false (sym h)
some_undo (e ∷ l) b i h none = go (λ k n. some_undo l b i k n) (covers b i e.act) refl
  where
    go : (list_any (λ (e : Entry). covers b i e.act) l ≡ true → first_undo l b i ≢ None) → (v : Bool) → covers b i e.act ≡ v → ⊥
    go rest true k = let n : Some (undo_byte e.act i) ≡ None = (rw k at none) in absurd cc
    go rest false k = rest (rw k at h) (rw k at none)

-- a list that covers the block whole tells each byte
told_whole : (l : List Entry) (b : Block) → is_covered_whole l b ≡ true → (i : ℕ) → i < 512 * sectors b.kind → told l b i ≢ None
unfolding is_covered_whole
told_whole l b h i lt none = some_undo l b i (subst (λ (j : ℕ). list_any (λ (e : Entry). covers b j e.act) l ≡ true) (let z : 0 + i ≡ i = omega arith in z) (all_at (λ j. list_any (λ (e : Entry). covers b j e.act) l) 0 (512 * sectors b.kind) i h lt)) (silent_rest (is_ended l) l b i none)

plain_is : (kind : BlockKind) → same_kind kind Plain ≡ true → sectors kind ≡ 1
plain_is Plain h = refl
plain_is FileRec h = absurd (true≢false (sym h))
plain_is Index h = absurd (true≢false (sym h))

-- a plain block is a single sector
plain_whole : (own : ℕ → Bool) (geometry : Geometry) → IsVolume own geometry → (b : Block) → same_kind b.kind Plain ≡ true → IsWhole geometry b
plain_whole own geometry volume b plain = (b.first, volume.has b b.first ∙ is_in b.first (sectors b.kind) b.first (omega arith) (omega (arith, plain_is b.kind plain)), only)
  where
    only : (t : ℕ) → geometry.has b t ≡ true → t ≡ b.first
    only t h = let p = within_is b.first (sectors b.kind) t (sym (volume.has b t) ∙ h) in omega (arith, p.0, p.1, plain_is b.kind plain)

-- the three conditions of a block that is written out
written_parts : (l : List Entry) (disk : Content) (b : Block) → is_written_out disk l b ≡ true → (has_update l b ≡ true) × (is_shadowed l b ≡ false) × ((is_other disk l b || ((disk b).torn && is_covered_whole l b)) ≡ true)
unfolding is_written_out
written_parts l disk b h = three (has_update l b) (is_shadowed l b) (is_other disk l b || ((disk b).torn && is_covered_whole l b)) h
  where
    three : (u s o : Bool) → (u && not s && o) ≡ true → (u ≡ true) × (s ≡ false) × (o ≡ true)
    three true false true e = (refl, refl, refl)
    three true false false e = absurd (true≢false (sym e))
    three true true o e = absurd (true≢false (sym e))
    three false s o e = absurd (true≢false (sym e))

partial_whole : (disk : Content) (l : List Entry) (b : Block) → is_partial disk l b ≡ false → is_shadowed l b ≡ false → is_other disk l b ≡ true → (is_covered_whole l b ≡ true) ⊎ (same_kind b.kind Plain ≡ true)
unfolding is_partial
partial_whole disk l b h = go (same_kind b.kind Plain) (is_shadowed l b) (is_covered_whole l b) (is_other disk l b) h
  where
    go : (a s c o : Bool) → (not a && not s && not c && o) ≡ false → s ≡ false → o ≡ true → (c ≡ true) ⊎ (a ≡ true)
    go true s c o e f g = inr refl
    go false s true o e f g = inl refl
    go false true false o e f g = absurd (true≢false f)
    go false false false true e f g = absurd (true≢false e)
    go false false false false e f g = absurd (true≢false (sym g))

writes_back : (own : ℕ → Bool) (geometry : Geometry) → IsVolume own geometry → (s : Store) → IsSound geometry s → (image : Image) → MayLeave s image → AreWhole image.sectors → (k : ℕ)
    → RecoversTo geometry s image (member s.window k) (s.window.was_torn k) → CanRestore geometry s image (member s.window k) → (b : Block) → is_written_out (content_of image.sectors) (list_of s image) b ≡ true → WritesBack own geometry s image k b
writes_back own geometry volume s sound image left whole k recovers can b written = record {
  known = known;
  restores = λ disk. record {
    early = refl;
    known = sized;
    updated = parts.0;
    claimed = claimed;
    covered = covered (is_covered_whole (list_of s image) b) refl (is_other (content_of image.sectors) (list_of s image) b) refl parts.2;
  };
  spelled = spelled;
}
  where
    parts : (has_update (list_of s image) b ≡ true) × (is_shadowed (list_of s image) b ≡ false)
        × ((is_other (content_of image.sectors) (list_of s image) b || ((content_of image.sectors b).torn && is_covered_whole (list_of s image) b)) ≡ true)
    parts = written_parts (list_of s image) (content_of image.sectors) b written

    sized : 0 < geometry.size b
    sized = some_known geometry (list_of s image) b (image_entries geometry s sound image) parts.0

    known : is_known own b ≡ true
    known = known_sized own geometry volume b 0 sized

    claimed : IsClaimed (list_of s image) b
    claimed = claimed_is (list_of s image) b parts.1

    told_all : is_covered_whole (list_of s image) b ≡ true → (i : ℕ) → i < geometry.size b → told (list_of s image) b i ≢ None
    told_all c i lt = told_whole (list_of s image) b c i (omega (arith, lt, size_known own geometry volume b known))

    covered : (c : Bool) → is_covered_whole (list_of s image) b ≡ c → (o : Bool) → is_other (content_of image.sectors) (list_of s image) b ≡ o
        → (is_other (content_of image.sectors) (list_of s image) b || ((content_of image.sectors b).torn && is_covered_whole (list_of s image) b)) ≡ true
        → ((i : ℕ) → i < geometry.size b → told (list_of s image) b i ≢ None) ⊎ IsWhole geometry b
    covered true c o other h = inl (told_all c)
    covered false c true other h = ⊎_elim (λ e. inl (told_all e)) (λ plain. inr (plain_whole own geometry volume b plain))
        (partial_whole (content_of image.sectors) (list_of s image) b (not_partial own geometry volume s sound image left whole b known) parts.1 other)
    covered false c false other h = absurd (none (content_of image.sectors b).torn (is_covered_whole (list_of s image) b) c (is_other (content_of image.sectors) (list_of s image) b) other h)
      where
        none : (t c : Bool) → c ≡ false → (o : Bool) → o ≡ false → (o || (t && c)) ≡ true → ⊥
        none t true e o f h = true≢false e
        none t false e true f h = true≢false f
        none true false e false f h = true≢false (sym h)
        none false false e false f h = true≢false (sym h)

    spelled : is_other (content_of image.sectors) (list_of s image) b ≡ true → has_spelling b.kind ((window_of s.window).before k b).bytes ≡ true
    spelled other = ⊎_elim (λ has. sym (volume.has_spelling b (member s.window k b)) ∙ has) (λ same. absurd (true≢false (sym other ∙ stands same))) (can b claimed)
      where
        stands : ((i : ℕ) → i < geometry.size b → geometry.decode b image.sectors i ≡ member s.window k b i) → is_other (content_of image.sectors) (list_of s image) b ≡ false
        stands same = not_other own geometry volume (list_of s image) image.sectors b (image_level geometry s sound image) whole known parts.1 (λ i lt. (recovers b).same i lt claimed ∙ sym (same i lt))

level_of : (s : Store) (image : Image) → All IsLevel (list_of s image) → (list : List Entry) → (list ≡ list_of s image) ⊎ (list ≡ []) → All IsLevel list
level_of s image level list (inl e) = subst (λ (l : List Entry). All IsLevel l) (sym e) level
level_of s image level list (inr e) = subst (λ (l : List Entry). All IsLevel l) (sym e) (All-from_recursion IsLevel [] tt)

recoverable : (own : ℕ → Bool) (geometry : Geometry) → IsVolume own geometry → (s : Store) → IsSound geometry s → (image : Image) → MayLeave s image → AreWhole image.sectors → (k : ℕ) × IsRecoverable own geometry s image k
recoverable own geometry volume s sound image left whole =
    let r = refines geometry s sound image left in
    let level : All IsLevel (list_of s image) = image_level geometry s sound image in (
      r.0,
      record {
        within = r.1;
        recovers = λ b known claimed. recovered_bytes own geometry volume (list_of s image) image.sectors b (member s.window r.0) (s.window.was_torn r.0) level whole (r.2 b) known claimed;
        writes = λ b written. writes_back own geometry volume s sound image left whole r.0 r.2 (restorable geometry s sound image left) b written;
        stopped = λ list at stops at_whole b known claimed claimed_now.
            let x = stops_restore geometry (member s.window r.0) (s.window.was_torn r.0) (list_of s image) image.sectors r.2 list at stops in
            recovered_bytes own geometry volume list at b (member s.window r.0) (s.window.was_torn r.0) (level_of s image level list x.1) at_whole (x.0 b (claimed_is (list_of s image) b claimed)) known claimed_now;
      },
    )

unclaimed : (list : List Entry) (b : Block) → IsClaimed list b → is_shadowed list b ≡ false
unfolding is_shadowed
unclaimed list b claimed = go (last_said_is (is_ended list) list b)
  where
    go : Said (last_said (is_ended list) list b) → unwrap_or (last_said (is_ended list) list b) false ≡ false
    go (nothing h) = rw h refl
    go (own_said h) = rw h refl
    go (rivals h) = absurd (claimed h)

-- ---- the end of a recovery

same_list : (xs ys : List ℕ) → pointwise nat_eq xs ys ≡ true → xs ≡ ys
same_list [] [] h = refl
same_list [] (y ∷ ys) h = absurd (true≢false (sym h))
same_list (x ∷ xs) [] h = absurd (true≢false (sym h))
same_list (x ∷ xs) (y ∷ ys) h =
    let p = and_parts (nat_eq x y) (pointwise nat_eq xs ys) h in
    ap (λ (n : ℕ). n ∷ xs) (eqb-true x y p.0) ∙ ap (λ (l : List ℕ). y ∷ l) (same_list xs ys p.1)

no_other : (disk : Content) (l : List Entry) (b : Block) → is_other disk l b ≡ false → (recovered disk l b).bytes ≡ (disk b).bytes
unfolding is_other
no_other disk l b h = same_list (recovered disk l b).bytes (disk b).bytes (go (pointwise nat_eq (recovered disk l b).bytes (disk b).bytes) h)
  where
    go : (v : Bool) → not v ≡ false → v ≡ true
    go true e = refl
    go false e = absurd (true≢false e)

restored : (own : ℕ → Bool) (geometry : Geometry) → IsVolume own geometry → (r : Recovering) (bytes : AllBytes) (torn : Block → Bool) → StandsRecovered own r bytes torn → IsRestored geometry r bytes torn
restored own geometry volume r bytes torn stands at b i left lt claimed =
    let known : is_known own b ≡ true = known_sized own geometry volume b i lt in
    let x = stands at left b known (unclaimed r.list b claimed) in
    let same : (content_of at b).bytes ≡ first_bytes (512 * sectors b.kind) (bytes b) = sym (no_other (content_of at) r.list b x.1) ∙ x.0.bytes in (
      volume.decode b at i ∙ ap (λ (l : List ℕ). slice_index l i) same ∙ first_at (512 * sectors b.kind) (bytes b) i (omega (arith, lt, size_known own geometry volume b known)),
      λ t. x.2 (sym (volume.torn b at) ∙ t),
    )

pub stopped_recovery_law : StoppedRecovery
stopped_recovery_law = record { found = recoverable; restored = restored }

-- ---- words

all_from : (p : ℕ → Bool) (a n : ℕ) → ((i : ℕ) → i < n → p (a + i) ≡ true) → list_all p (range_with_len a n) ≡ true
all_from p a zero h = refl
all_from p a (suc n) h = and_from (p a) (list_all p (range_with_len (a + 1) n)) (ap p (let e : a ≡ a + 0 = omega arith in e) ∙ h 0 (omega arith))
    (all_from p (a + 1) n (λ i lt. ap p (let e : a + 1 + i ≡ a + suc i = omega arith in e) ∙ h (suc i) (omega (arith, lt))))

covered_from : (list : List Entry) (b : Block) → ((i : ℕ) → i < 512 * sectors b.kind → first_undo list b i ≢ None) → is_covered_whole list b ≡ true
unfolding is_covered_whole
covered_from list b some = all_from (λ j. list_any (λ (e : Entry). covers b j e.act) list) 0 (512 * sectors b.kind) (λ i lt. at (0 + i) (omega (arith, lt)))
  where
    at : (i : ℕ) → i < 512 * sectors b.kind → list_any (λ (e : Entry). covers b i e.act) list ≡ true
    at i lt = go (list_any (λ (e : Entry). covers b i e.act) list) refl
      where
        go : (v : Bool) → list_any (λ (e : Entry). covers b i e.act) list ≡ v → list_any (λ (e : Entry). covers b i e.act) list ≡ true
        go true h = h
        go false h = absurd (some i lt (none_covers list b i h))

undo_whole : (list : List Entry) (b : Block) → is_covered_whole list b ≡ true → (i : ℕ) → i < 512 * sectors b.kind → first_undo list b i ≢ None
undo_whole list b h i lt none = told_whole list b h i lt (silent (is_ended list) list b i none)

pub words_agree_law : WordsAgree
words_agree_law = record {
  claimed = λ list b. (claimed_is list b, unclaimed list b);
  whole = λ own geometry volume list b known. (
    λ h i lt. undo_whole list b h i (omega (arith, lt, size_known own geometry volume b known)),
    λ some. covered_from list b (λ i lt. some i (omega (arith, lt, size_known own geometry volume b known))),
  );
}
