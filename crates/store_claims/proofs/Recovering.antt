-- An image that a crash leaves recovers to a content of the window on all that is claimed there.
use Rattle.std.proofs.Common.{◌≡◌, ◌⊎◌, inl, inr, ⊎_elim, ℕ, ◌+◌, ◌-◌, ◌≤◌, Bool, true, false, List, [], length, drop, refl, sym, ◌∙◌, ap, subst, arith, length-drop}
use Rattle.std.specs.Prelude.{All}
use Rattle.std.proofs.lemmas.List.{drop-drop}
use Rattle.std.proofs.lemmas.List.Elements.{All-from_recursion}
use Rattle.store_model.specs.disk_model.declared.block.Block.{Block}
use Rattle.store_model.specs.disk_model.Content.{content_of}
use Rattle.store_model.specs.fixup_record.Spellings.{has_spelling}
use Rattle.store_model.specs.log_model.declared.entry.Entry.{Entry}
use Rattle.store_model.specs.log_model.Logs.{IsLevel, is_shadowed, is_written_out}
use Rattle.store_model.specs.Logs.{commits, IsClaimed}
use Rattle.store_model.specs.Geometry.{SectorBytes, Geometry}
use Rattle.store_model.specs.Stores.{Store, member, IsSound, Image, MayLeave, list_of, Restores, RecoversTo}
use Rattle.store_model.specs.Recovery.{IsStopped}
use Rattle.store_model.specs.Volumes.{is_known, IsVolume, window_of, AreWhole, IsRecovered, RecoversToContent}
use Rattle.store_model.specs.Laws.{WritesBack, IsRecoverable}
use Rattle.store_model.proofs.Ends.{commits-drop_le}
use Rattle.store_model.proofs.Main.{restores}
use Rattle.store_model.proofs.Volumes.{recovered_bytes}
use Rattle.store_model.proofs.Images.{image_level}
use Rattle.store_model.proofs.Stopping.{stops_restore}
use Rattle.store_model.proofs.Writes.{stopped_recovery_law, words_agree_law}
use Rattle.store_claims.specs.Claims.{claims, IsClaimedBack, commits_behind}
use Rattle.store_claims.specs.Laws.{RefinesClaimed, RecoversClaimed, ClaimedRecovers}
use Rattle.store_claims.proofs.Agreeing.{back_gives}

-- a list from a place on, cut at an entry
cut_place : (l : List Entry) (o p : ℕ) → o ≤ p → commits (drop (p - o) (drop o l)) ≡ commits (drop p l)
cut_place l o p le = ap commits (drop-drop (p - o) o l) ∙ ap (λ (n : ℕ). commits (drop n l)) (let e : o + (p - o) ≡ p = omega arith in e)

-- any list that recoveries leave is that of the image, or empty
clear_stopped : (first list : List Entry) (b : Block) → (list ≡ first) ⊎ (list ≡ []) → is_shadowed first b ≡ false → is_shadowed list b ≡ false
unfolding is_shadowed
clear_stopped first list b (inl e) h = subst (λ (l : List Entry). is_shadowed l b ≡ false) (sym e) h
clear_stopped first list b (inr e) h = subst (λ (l : List Entry). is_shadowed l b ≡ false) (sym e) refl

module _ (geometry : Geometry) (s : Store) (sound : IsSound geometry s) (image : Image) (left : MayLeave s image) where
  upto : image.upto ≤ length s.log
  upto = omega (arith, left.high, sound.sent)

  few : commits_behind s image ≤ length s.window.waiting
  few = omega (arith, sound.counts, commits-drop_le s.log s.synced image.upto left.low)

  -- the list of the image is one of those by which the claims are
  claimed_list : (b : Block) → IsClaimedBack s (commits_behind s image) b → IsClaimed (list_of s image) b
  claimed_list b x = ⊎_elim from_oldest (λ h. from_next h.0 h.1) left.from
    where
      from_oldest : image.from ≡ 0 → IsClaimed (list_of s image) b
      from_oldest e = let z : image.upto - 0 ≡ image.upto = omega arith in rw (e, z) (x.0 image.upto left.low upto refl)

      from_next : s.renamed ≡ true → image.from ≡ s.place → IsClaimed (list_of s image) b
      from_next r e =
          let low : s.place ≤ image.upto = omega (arith, (sound.renamed r).1, left.low) in
          rw e (x.1 (sound.renamed r).0 (image.upto - s.place) (omega (arith, left.low)) (omega (arith, length-drop s.place s.log, upto)) (cut_place s.log s.place image.upto low))

  recovers_to : RecoversTo geometry s image (member s.window (commits_behind s image)) (s.window.was_torn (commits_behind s image))
  recovers_to b = ⊎_elim from_oldest (λ h. from_next h.0 h.1) left.from
    where
      from_oldest : image.from ≡ 0 → Restores geometry (list_of s image) image.sectors b (member s.window (commits_behind s image)) (s.window.was_torn (commits_behind s image))
      from_oldest e = let z : image.upto - 0 ≡ image.upto = omega arith in
          rw (e, z) (restores geometry s.window s.log s.synced image.sectors sound.oldest.tells b image.upto (commits_behind s image) (sound.oldest.backs image.sectors b refl refl left.disk) left.low upto refl)

      from_next : s.renamed ≡ true → image.from ≡ s.place → Restores geometry (list_of s image) image.sectors b (member s.window (commits_behind s image)) (s.window.was_torn (commits_behind s image))
      from_next r e =
          let low : s.place ≤ image.upto = omega (arith, (sound.renamed r).1, left.low) in
          let next = sound.next (sound.renamed r).0 in
          let paid = sound.paid r b in
          rw e (restores geometry s.window (drop s.place s.log) (s.synced - s.place) image.sectors next.tells b (image.upto - s.place) (commits_behind s image) (next.backs image.sectors b paid.0 paid.1 left.disk) (omega (arith, left.low))
          (omega (arith, length-drop s.place s.log, upto)) (cut_place s.log s.place image.upto low))

  refines_claimed : RefinesClaimed geometry s image (commits_behind s image)
  refines_claimed = record { within = few; recovers = recovers_to; claimed = λ b h. claimed_list b (back_gives s (commits_behind s image) b h) }

module _ (own : ℕ → Bool) (geometry : Geometry) (volume : IsVolume own geometry) (s : Store) (sound : IsSound geometry s) (image : Image) (left : MayLeave s image) (whole : AreWhole image.sectors) where
  abbrev k : ℕ
  k = commits_behind s image

  abbrev list : List Entry
  list = list_of s image

  it : RefinesClaimed geometry s image (commits_behind s image)
  it = refines_claimed geometry s sound image left

  level : All IsLevel (list_of s image)
  level = image_level geometry s sound image

  level_of : (l : List Entry) → (l ≡ list_of s image) ⊎ (l ≡ []) → All IsLevel l
  level_of l (inl e) = subst (λ (l : List Entry). All IsLevel l) (sym e) level
  level_of l (inr e) = subst (λ (l : List Entry). All IsLevel l) (sym e) (All-from_recursion IsLevel [] tt)

  recovers : RecoversToContent own (list_of s image) image.sectors ((window_of s.window).before (commits_behind s image))
  recovers b known clear = recovered_bytes own geometry volume list image.sectors b (member s.window k) (s.window.was_torn k) level whole (it.recovers b) known clear

  claimed_clear : (l : List Entry) (b : Block) → IsClaimed l b → is_shadowed l b ≡ false
  claimed_clear l b = (words_agree_law.claimed l b).1

  -- some content is known to be recoverable, and its recovered bytes are those of this one
  found : (n : ℕ) × IsRecoverable own geometry s image n
  found = stopped_recovery_law.found own geometry volume s sound image left whole

  writes : (b : Block) → is_written_out (content_of image.sectors) (list_of s image) b ≡ true → WritesBack own geometry s image (commits_behind s image) b
  writes b out = record {
    known = one.known;
    restores = one.restores;
    spelled = λ other. subst (λ (bytes : List ℕ). has_spelling b.kind bytes ≡ true) same (one.spelled other);
  }
    where
      one : WritesBack own geometry s image found.0 b
      one = found.1.writes b out

      clear : is_shadowed (list_of s image) b ≡ false
      clear = claimed_clear list b (one.restores s.disk).claimed

      same : ((window_of s.window).before found.0 b).bytes ≡ ((window_of s.window).before (commits_behind s image) b).bytes
      same = sym (found.1.recovers b one.known clear).bytes ∙ (recovers b one.known clear).bytes

  stopped : (l : List Entry) (at : SectorBytes) → IsStopped geometry (member s.window (commits_behind s image)) (s.window.was_torn (commits_behind s image)) (list_of s image) image.sectors l at → AreWhole at
      → (b : Block) → is_known own b ≡ true → is_shadowed (list_of s image) b ≡ false → is_shadowed l b ≡ false → IsRecovered l at ((window_of s.window).before (commits_behind s image)) b
  stopped l at stops at_whole b known clear clear_now =
      let x = stops_restore geometry (member s.window k) (s.window.was_torn k) list image.sectors it.recovers l at stops in
      recovered_bytes own geometry volume l at b (member s.window k) (s.window.was_torn k) (level_of l x.1) at_whole (x.0 b ((words_agree_law.claimed list b).0 clear)) known clear_now

  clear_of : (b : Block) → claims s (commits_behind s image) b ≡ true → is_shadowed (list_of s image) b ≡ false
  clear_of b h = claimed_clear list b (it.claimed b h)

  recovers_claimed : RecoversClaimed own geometry s image (commits_behind s image)
  recovers_claimed = record {
    recoverable = record { within = it.within; recovers = recovers; writes = writes; stopped = stopped };
    clear = clear_of;
    stopped = λ l at stops b h. clear_stopped list l b (stops_restore geometry (member s.window k) (s.window.was_torn k) list image.sectors it.recovers l at stops).1 (clear_of b h);
    exact = λ b known h. recovers b known (clear_of b h);
  }

pub claimed_recovers : ClaimedRecovers
claimed_recovers = record { bytes = refines_claimed; contents = recovers_claimed }
