-- The main lemma: each image that a crash may leave recovers to a member of the window.
use Rattle.std.proofs.Common.{◌≡◌, ◌⊎◌, inl, inr, ⊎_elim, Bool, false, ℕ, ◌+◌, ◌-◌, ◌<◌, ◌≤◌, true, List, length, take, drop, Option, Some, None, refl, sym, ◌∙◌, ap, arith, length-drop}
use Rattle.std.specs.Prelude.{unwrap_or}
use Rattle.std.proofs.lemmas.List.{drop-drop}
use Rattle.log_model.specs.disk_model.declared.block.Block.{Block}
use Rattle.log_model.specs.declared.entry.Entry.{Entry}
use Rattle.log_model.specs.Logs.{told}
use Rattle.store_model.specs.Logs.{commits, IsClaimed}
use Rattle.store_model.specs.Geometry.{SectorBytes, Geometry}
use Rattle.store_model.specs.Stores.{Window, member, Tells, Backs, Fits, Image, MayLeave, CanRestore, Store, IsSound, Restores, RecoversTo, Refines}
use Rattle.store_model.proofs.Told.{true≢false}
use Rattle.store_model.proofs.Ends.{commits-drop_le}

-- what is told is right, and what isn't told stands on the disk
pub recovers : (geometry : Geometry) (w : Window) (l : List Entry) (d : ℕ) (sectors : SectorBytes) → Tells geometry w l d
    → (b : Block) (i p : ℕ) → Backs geometry w l d sectors b → d ≤ p → p ≤ length l → i < geometry.size b → IsClaimed (take p l) b
    → unwrap_or (told (take p l) b i) (geometry.decode b sectors i) ≡ member w (commits (drop p l)) b i
recovers geometry w l d sectors tells b i p backs low high within claimed = go (told (take p l) b i) refl
  where
    go : (o : Option ℕ) → told (take p l) b i ≡ o → unwrap_or (told (take p l) b i) (geometry.decode b sectors i) ≡ member w (commits (drop p l)) b i
    go (Some v) e = rw e (sym (tells.right p b i v low high within claimed e))
    go None e = rw e (backs p i i low high within within claimed e).0

-- a block is recovered as it is in the member, and torn at most where it is there
pub restores : (geometry : Geometry) (w : Window) (l : List Entry) (d : ℕ) (sectors : SectorBytes) → Tells geometry w l d → (b : Block) (p k : ℕ) → Backs geometry w l d sectors b → d ≤ p → p ≤ length l → commits (drop p l) ≡ k
    → Restores geometry (take p l) sectors b (member w k) (w.was_torn k)
restores geometry w l d sectors tells b p k backs low high is = record {
  same = λ i within claimed. recovers geometry w l d sectors tells b i p backs low high within claimed ∙ ap (λ (n : ℕ). member w n b i) is;
  torn_most = λ i within claimed none torn. ap (λ (n : ℕ). w.was_torn n b) (sym is) ∙ (backs p i i low high within within claimed none).1 torn;
}

-- a list from a place on, cut at an entry
cut_place : (l : List Entry) (o p : ℕ) → o ≤ p → commits (drop (p - o) (drop o l)) ≡ commits (drop p l)
cut_place l o p le = ap commits (drop-drop (p - o) o l) ∙ ap (λ (n : ℕ). commits (drop n l)) (let e : o + (p - o) ≡ p = omega arith in e)

pub refines : (geometry : Geometry) (s : Store) → IsSound geometry s → Refines geometry s
refines geometry s sound image left = (commits (drop image.upto s.log), few, right)
  where
    few : commits (drop image.upto s.log) ≤ length s.window.waiting
    few = omega (arith, sound.counts, commits-drop_le s.log s.synced image.upto left.low)

    upto : image.upto ≤ length s.log
    upto = omega (arith, left.high, sound.sent)

    from_oldest : image.from ≡ 0 → RecoversTo geometry s image (member s.window (commits (drop image.upto s.log))) (s.window.was_torn (commits (drop image.upto s.log)))
    from_oldest e b = let z : image.upto - 0 ≡ image.upto = omega arith in
        rw (e, z) (restores geometry s.window s.log s.synced image.sectors sound.oldest.tells b image.upto (commits (drop image.upto s.log)) (sound.oldest.backs image.sectors b refl refl left.disk) left.low upto refl)

    from_next : s.renamed ≡ true → image.from ≡ s.place → RecoversTo geometry s image (member s.window (commits (drop image.upto s.log))) (s.window.was_torn (commits (drop image.upto s.log)))
    from_next r e b =
        let place_low : s.place ≤ s.synced = (sound.renamed r).1 in
        let next = sound.next (sound.renamed r).0 in
        let paid = sound.paid r b in
        let inside : image.upto - s.place ≤ length (drop s.place s.log) = omega (arith, length-drop s.place s.log, upto) in
        rw e (restores geometry s.window (drop s.place s.log) (s.synced - s.place) image.sectors next.tells b (image.upto - s.place) (commits (drop image.upto s.log)) (next.backs image.sectors b paid.0 paid.1 left.disk) (omega (arith, left.low)) inside
        (cut_place s.log s.place image.upto (omega (arith, left.low))))

    right : RecoversTo geometry s image (member s.window (commits (drop image.upto s.log))) (s.window.was_torn (commits (drop image.upto s.log)))
    right = ⊎_elim from_oldest (λ h. from_next h.0 h.1) left.from

-- The list of an image asks recovery for no body that can't be written: it can be spelled, or stands there.
can_restore : (geometry : Geometry) (w : Window) (l : List Entry) (d : ℕ) (sectors : SectorBytes) (b : Block) (p k : ℕ) → Fits geometry w l d sectors b → d ≤ p → p ≤ length l → commits (drop p l) ≡ k → IsClaimed (take p l) b
    → (geometry.has_spelling b (member w k b) ≡ true) ⊎ ((i : ℕ) → i < geometry.size b → geometry.decode b sectors i ≡ member w k b i)
can_restore geometry w l d sectors b p k fits low high is claimed = go (geometry.has_spelling b (member w k b)) refl
  where
    none : geometry.has_spelling b (member w k b) ≡ false → (i : ℕ) → (geometry.has_spelling b (member w (commits (drop p l)) b) ≡ true) ⊎ (geometry.decode b sectors i ≡ member w (commits (drop p l)) b i) → geometry.decode b sectors i ≡ member w k b i
    none h i (inl s) = absurd (true≢false (sym s ∙ ap (λ (n : ℕ). geometry.has_spelling b (member w n b)) is ∙ h))
    none h i (inr e) = e ∙ ap (λ (n : ℕ). member w n b i) is

    go : (v : Bool) → geometry.has_spelling b (member w k b) ≡ v → (geometry.has_spelling b (member w k b) ≡ true) ⊎ ((i : ℕ) → i < geometry.size b → geometry.decode b sectors i ≡ member w k b i)
    go true h = inl h
    go false h = inr (λ i within. none h i (fits p i low high within claimed))

-- the content is the one that `refines` finds
pub restorable : (geometry : Geometry) (s : Store) (sound : IsSound geometry s) (image : Image) (left : MayLeave s image) → CanRestore geometry s image (member s.window (refines geometry s sound image left).0)
unfolding refines
restorable geometry s sound image left b claimed = ⊎_elim (λ e. from_oldest e) (λ h. from_next h.0 h.1) left.from
  where
    upto : image.upto ≤ length s.log
    upto = omega (arith, left.high, sound.sent)

    from_oldest : image.from ≡ 0 → (geometry.has_spelling b (member s.window (commits (drop image.upto s.log)) b) ≡ true) ⊎ ((i : ℕ) → i < geometry.size b → geometry.decode b image.sectors i ≡ member s.window (commits (drop image.upto s.log)) b i)
    from_oldest e = let z : image.upto - 0 ≡ image.upto = omega arith in let claimed' : IsClaimed (take image.upto s.log) b = (rw (e, z) at claimed) in
        can_restore geometry s.window s.log s.synced image.sectors b image.upto (commits (drop image.upto s.log)) (sound.oldest.fits image.sectors b refl refl left.disk) left.low upto refl claimed'

    from_next : s.renamed ≡ true → image.from ≡ s.place → (geometry.has_spelling b (member s.window (commits (drop image.upto s.log)) b) ≡ true) ⊎ ((i : ℕ) → i < geometry.size b → geometry.decode b image.sectors i ≡ member s.window (commits (drop image.upto s.log)) b i)
    from_next r e =
        let claimed' : IsClaimed (take (image.upto - s.place) (drop s.place s.log)) b = (rw e at claimed) in
        let place_low : s.place ≤ s.synced = (sound.renamed r).1 in
        let next = sound.next (sound.renamed r).0 in
        let paid = sound.paid r b in
        can_restore geometry s.window (drop s.place s.log) (s.synced - s.place) image.sectors b (image.upto - s.place) (commits (drop image.upto s.log)) (next.fits image.sectors b paid.0 paid.1 left.disk) (omega (arith, left.low)) (omega (arith, length-drop s.place s.log, upto))
        (cut_place s.log s.place image.upto (omega (arith, left.low))) claimed'

-- A block that the list doesn't cover whole, and that isn't shadowed, already stands on the disk as it is recovered.
pub uncovered : (geometry : Geometry) (w : Window) (l : List Entry) (d : ℕ) (sectors : SectorBytes) → Tells geometry w l d → (b : Block) (p j : ℕ) → Backs geometry w l d sectors b → d ≤ p → p ≤ length l → j < geometry.size b → IsClaimed (take p l) b
    → told (take p l) b j ≡ None → (i : ℕ) → i < geometry.size b → unwrap_or (told (take p l) b i) (geometry.decode b sectors i) ≡ geometry.decode b sectors i
uncovered geometry w l d sectors tells b p j backs low high within claimed none i inside =
    recovers geometry w l d sectors tells b i p backs low high inside claimed ∙ sym (backs p i j low high inside within claimed none).0
