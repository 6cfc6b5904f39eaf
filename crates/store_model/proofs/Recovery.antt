-- A recovery that is stopped is the recovery.
use Rattle.std.proofs.Common.{◌≡◌, ◌≢◌, ◌⊎◌, inl, inr, ⊎_elim, ℕ, zero, suc, ◌<◌, Bool, true, false, List, [], ◌∷◌, Option, Some, None, length, get_or, refl, sym, ◌∙◌, ap, subst, arith}
use Rattle.std.specs.Prelude.{Contains, if◌then◌else◌, ◌||◌, unwrap_or}
use Rattle.std.specs.Option.{option_or}
use Rattle.log_model.specs.disk_model.declared.block.Block.{Block}
use Rattle.log_model.specs.disk_model.Sectors.{same_block, are_rivals}
use Rattle.fixup_record.proofs.disk_model.Frames.{same_block-is}
use Rattle.sector_device.specs.Disks.{Disk, seen}
use Rattle.log_model.specs.declared.entry.Entry.{Entry}
use Rattle.log_model.specs.Logs.{updates, is_ended, told, last_said}
use Rattle.store_model.specs.Logs.{AllBytes, has_update, IsClaimed}
use Rattle.store_model.specs.Geometry.{SectorBytes, Geometry, Shows, CanLeave, Puts, AreApart}
use Rattle.store_model.specs.Stores.{Restores}
use Rattle.store_model.specs.Recovery.{Recovering, StillRecovers, IsWhole, IsRestored, Recovers, Recovery, Begins, recovering}
use Rattle.store_model.specs.Recovery.Recovers.{restore, settle, rename, replace}
use Rattle.store_model.specs.Recovery.Recovery.{start, on}
use Rattle.store_model.proofs.Told.{true≢false, says, Said, last_said_is, rivals_both}
use Rattle.store_model.proofs.Told.Said.{nothing, own as own_said, rivals}
use Rattle.store_model.proofs.Lost.{no_own, own_update, is_rival}
use Rattle.store_model.proofs.Disks.{leaves_seen, leaves_synced, leaves_earlier, earlier}

some_none : (o : Option Bool) → option_or o (Some true) ≡ None → ⊥
some_none (Some x) e = absurd cc
some_none None e = absurd cc

-- of a block something is said where a rival has an update
rival_said : (f : ℕ → Bool) (l : List Entry) (b c : Block) → has_update l c ≡ true → are_rivals b c ≡ true → last_said f l b ≢ None
rival_said f [] b c has rival = absurd (true≢false (sym has))
rival_said f (e ∷ l) b c has rival = go (λ h. rival_said f l b c h rival) (updates c e.act) refl
  where
    go : (has_update l c ≡ true → last_said f l b ≢ None) → (v : Bool) → updates c e.act ≡ v → last_said f (e ∷ l) b ≢ None
    go more true h none = some_none (last_said f l b) (ap (option_or (last_said f l b)) (sym (is_rival f e c b h rival)) ∙ none)
    go more false h none = more (rw h at has) (left (last_said f l b) (says f e b) none)
      where
        left : (o v : Option Bool) → option_or o v ≡ None → o ≡ None
        left (Some x) v e = absurd cc
        left None v e = refl

-- Of two rivals one at most isn't shadowed, of those that have an update.
pub one_claimed : (f : ℕ → Bool) (l : List Entry) (b c : Block) → has_update l b ≡ true → last_said f l b ≢ Some true → are_rivals c b ≡ true → are_rivals b c ≡ true → last_said f l c ≡ Some true
one_claimed f [] b c has claimed rival rival' = absurd (true≢false (sym has))
one_claimed f (e ∷ l) b c has claimed rival rival' = go (λ h k. one_claimed f l b c h k rival rival') (has_update l b) refl
  where
    shorter : last_said f l b ≢ Some true
    shorter is = claimed (rw is refl)

    go : (has_update l b ≡ true → last_said f l b ≢ Some true → last_said f l c ≡ Some true) → (v : Bool) → has_update l b ≡ v → last_said f (e ∷ l) c ≡ Some true
    go more true h = rw (more h shorter) refl
    go more false h = last (last_said_is f l c)
      where
        is : updates b e.act ≡ true
        is = first (updates b e.act) (has_update l b) has h
          where
            first : (x y : Bool) → (x || y) ≡ true → y ≡ false → x ≡ true
            first true y e k = refl
            first false y e k = absurd (true≢false (sym e ∙ k))

        here : says f e c ≡ Some true
        here = is_rival f e b c is rival

        last : Said (last_said f l c) → last_said f (e ∷ l) c ≡ Some true
        last (nothing k) = rw k here
        last (rivals k) = rw k refl
        last (own_said k) = ⊎_elim (λ n. absurd (rival_said f l b c (own_update f l c k) rival' n)) (λ n. absurd (shorter n)) (no_own f l b h)

-- what a recovery keeps
pub record Keeps (geometry : Geometry) (content : AllBytes) (torn : Block → Bool) (r : Recovering) : Type 0 where
  pub same : (sectors : SectorBytes) → CanLeave r.disk sectors → (b : Block) → IsClaimed r.list b → Restores geometry r.list sectors b content torn
  pub restored : r.renamed ≡ true → IsRestored geometry r content torn

pub still : (geometry : Geometry) (content : AllBytes) (torn : Block → Bool) (r : Recovering) → Keeps geometry content torn r → StillRecovers geometry r content torn
still geometry content torn r keeps l sectors stop b claimed = go stop.list
  where
    go : ((r.replaced ≡ false) × (l ≡ r.list)) ⊎ ((r.renamed ≡ true) × (l ≡ [])) → Restores geometry l sectors b content torn
    go (inl old) = rw old.1 (keeps.same sectors stop.disk b claimed)
    go (inr new) = rw new.1 (record { same = λ i within c. (keeps.restored new.0 sectors b i stop.disk within claimed).0; torn_most = λ i within c none. (keeps.restored new.0 sectors b i stop.disk within claimed).1 })

-- what is recovered doesn't hang on the disk where it is told, and else it is as the disk shows it
told_or : (geometry : Geometry) (l : List Entry) (content : AllBytes) (torn : Block → Bool) (b : Block) (f g : SectorBytes) → Restores geometry l f b content torn → ((i : ℕ) → i < geometry.size b → told l b i ≡ None → Shows geometry g b i content torn)
    → Restores geometry l g b content torn
told_or geometry l content torn b f g was shows = record {
  same = λ i within claimed. go (told l b i) refl i within claimed;
  torn_most = λ i within claimed none. (shows i within none).1;
}
  where
    go : (o : Option ℕ) {i : ℕ} → told l b i ≡ o → (j : ℕ) → i < geometry.size b → IsClaimed l b → unwrap_or (told l b i) (geometry.decode b g i) ≡ content b i
    go (Some v) {i} e j within claimed = rw e (let k : unwrap_or (told l b i) (geometry.decode b f i) ≡ content b i = was.same i within claimed in rw e at k)
    go None {i} e j within claimed = rw e (shows i within e).0

-- sectors that are equal as far as the block goes
pub alike : (geometry : Geometry) (l : List Entry) (content : AllBytes) (torn : Block → Bool) (b : Block) (f g : SectorBytes) → ((s : ℕ) → geometry.has b s ≡ true → g s ≡ f s) → Restores geometry l f b content torn → Restores geometry l g b content torn
alike geometry l content torn b f g same was = record {
  same = λ i within claimed. ap (unwrap_or (told l b i)) (geometry.own b g f i same) ∙ was.same i within claimed;
  torn_most = λ i within claimed none t. was.torn_most i within claimed none (sym (geometry.own_torn b g f same) ∙ t);
}

-- an image after a write has the new value of a sector or one that it could have had before
pub old_or_new : (geometry : Geometry) (b : Block) (new : SectorBytes) (before after : Disk) → Puts geometry b new before after → (s : ℕ) → geometry.has b s ≡ true → (x : List ℕ)
    → (x ≡ after.durable s) ⊎ Contains (after.written s) x → ((x ≡ before.durable s) ⊎ Contains (before.written s) x) ⊎ (x ≡ new s)
old_or_new geometry b new before after puts s own x left = go (puts.own s own) left
  where
    newest_or : (vs : List (List ℕ)) (k : ℕ) → k < length (new s ∷ vs) → get_or (new s ∷ vs) k x ≡ x → ((x ≡ before.durable s) ⊎ Contains vs x) ⊎ (x ≡ new s)
    newest_or vs zero lt e = inr (sym e)
    newest_or vs (suc k) lt e = inl (inr (k, omega arith, e))

    go : (after.written s ≡ before.written s) ⊎ (after.written s ≡ new s ∷ before.written s) → (x ≡ after.durable s) ⊎ Contains (after.written s) x → ((x ≡ before.durable s) ⊎ Contains (before.written s) x) ⊎ (x ≡ new s)
    go h (inl e) = inl (inl (e ∙ puts.durable s))
    go (inl same) (inr m) = inl (inr (subst (λ (vs : List (List ℕ)). Contains vs x) same m))
    go (inr more) (inr m) = let m' = subst (λ (vs : List (List ℕ)). Contains vs x) more m in newest_or (before.written s) m'.0 m'.1 m'.2

pub keeps-step : (geometry : Geometry) (content : AllBytes) (torn : Block → Bool) (r r' : Recovering) → Recovers geometry content torn r r' → Keeps geometry content torn r → Keeps geometry content torn r'
keeps-step geometry content torn r r' (restore b new disk may spells puts) keeps = record {
  same = λ sectors left c claimed. same sectors left c claimed (same_block c b) refl (are_rivals b c) refl;
  restored = λ renamed. absurd (true≢false (sym renamed ∙ may.early));
}
  where
    was : Restores geometry r.list (seen r.disk) b content torn
    was = keeps.same (seen r.disk) (leaves_seen r.disk) b may.claimed

    own : (sectors : SectorBytes) → CanLeave disk sectors → ((j : ℕ) → j < geometry.size b → told r.list b j ≢ None) ⊎ IsWhole geometry b → Restores geometry r.list sectors b content torn
    own sectors left (inl covered) = told_or geometry r.list content torn b (seen r.disk) sectors was (λ i within none. absurd (covered i within none))
    own sectors left (inr whole) = one (old_or_new geometry b new r.disk disk puts whole.0 whole.1 (sectors whole.0) (left whole.0))
      where
        only : SectorBytes
        only s = if geometry.has b s then sectors s else r.disk.durable s

        one : ((sectors whole.0 ≡ r.disk.durable whole.0) ⊎ Contains (r.disk.written whole.0) (sectors whole.0)) ⊎ (sectors whole.0 ≡ new whole.0) → Restores geometry r.list sectors b content torn
        one (inl old) = alike geometry r.list content torn b only sectors (λ s h. rw h refl) (keeps.same only could b may.claimed)
          where
            could : CanLeave r.disk only
            could s = pick (geometry.has b s) refl
              where
                pick : (v : Bool) → geometry.has b s ≡ v → (only s ≡ r.disk.durable s) ⊎ Contains (r.disk.written s) (only s)
                pick true h = rw h (let e : s ≡ whole.0 = whole.2 s h in subst (λ (n : ℕ). (sectors n ≡ r.disk.durable n) ⊎ Contains (r.disk.written n) (sectors n)) (sym e) old)
                pick false h = rw h (inl refl)
        one (inr is_new) = told_or geometry r.list content torn b (seen r.disk) sectors was (λ i within none. spells sectors i within (λ s h. let e : s ≡ whole.0 = whole.2 s h in ap sectors e ∙ is_new ∙ ap new (sym e)))

    same : (sectors : SectorBytes) → CanLeave disk sectors → (c : Block) → IsClaimed r.list c → (v : Bool) → same_block c b ≡ v → (w : Bool) → are_rivals b c ≡ w → Restores geometry r.list sectors c content torn
    same sectors left c claimed true is w k = let e : c ≡ b = same_block-is c b is in subst (λ (n : Block). Restores geometry r.list sectors n content torn) (sym e) (own sectors left may.covered)
    same sectors left c claimed false is true k = absurd (claimed (one_claimed (is_ended r.list) r.list b c may.updated may.claimed (rivals_both c b ∙ k) k))
    same sectors left c claimed false is false k = record { same = λ i within cl. (far i within).same i within cl; torn_most = λ i within cl. (far i within).torn_most i within cl }
      where
        far : (i : ℕ) → i < geometry.size c → Restores geometry r.list sectors c content torn
        far i within = let apart : AreApart geometry b c = geometry.off b c may.known (omega (arith, within)) k is in
            alike geometry r.list content torn c (earlier geometry b new r.disk disk puts c apart sectors) sectors (λ s h. rw h refl)
            (keeps.same (earlier geometry b new r.disk disk puts c apart sectors) (leaves_earlier geometry b new r.disk disk puts c apart sectors left) c claimed)
keeps-step geometry content torn r r' settle keeps = record {
  same = λ sectors left b claimed. alike geometry r.list content torn b (seen r.disk) sectors (λ s h. leaves_synced r.disk sectors left s) (keeps.same (seen r.disk) (leaves_seen r.disk) b claimed);
  restored = λ renamed sectors b i left within claimed. was_settled geometry content torn r keeps renamed sectors left b i within claimed;
}
  where
    was_settled : (geometry : Geometry) (content : AllBytes) (torn : Block → Bool) (r : Recovering) → Keeps geometry content torn r → r.renamed ≡ true → (sectors : SectorBytes) → CanLeave (record { durable = seen r.disk; written = λ n. [] }) sectors → (b : Block) (i : ℕ) → i < geometry.size b → IsClaimed r.list b → Shows geometry sectors b i content torn
    was_settled geometry content torn r keeps renamed sectors left b i within claimed = let x = keeps.restored renamed (seen r.disk) b i (leaves_seen r.disk) within claimed in
        (geometry.own b sectors (seen r.disk) i (λ s h. leaves_synced r.disk sectors left s) ∙ x.0, λ t. x.1 (sym (geometry.own_torn b sectors (seen r.disk) (λ s h. leaves_synced r.disk sectors left s)) ∙ t))
keeps-step geometry content torn r r' (rename restored) keeps = record { same = keeps.same; restored = λ renamed. restored }
keeps-step geometry content torn r r' (replace renamed) keeps = record {
  same = λ sectors left b claimed. alike geometry r.list content torn b (seen r.disk) sectors (λ s h. leaves_synced r.disk sectors left s) (keeps.same (seen r.disk) (leaves_seen r.disk) b claimed);
  restored = λ h sectors b i left within claimed. let x = keeps.restored renamed (seen r.disk) b i (leaves_seen r.disk) within claimed in
      (geometry.own b sectors (seen r.disk) i (λ s h. leaves_synced r.disk sectors left s) ∙ x.0, λ t. x.1 (sym (geometry.own_torn b sectors (seen r.disk) (λ s h. leaves_synced r.disk sectors left s)) ∙ t));
}

keeps-run : (geometry : Geometry) (content : AllBytes) (torn : Block → Bool) (r t : Recovering) → Recovery geometry content torn r t → Keeps geometry content torn r → Keeps geometry content torn t
keeps-run geometry content torn r t start keeps = keeps
keeps-run geometry content torn r t (on u v run step) keeps = keeps-step geometry content torn u t step (keeps-run geometry content torn r u run keeps)

pub stopped_recovery_lem : (geometry : Geometry) (content : AllBytes) (torn : Block → Bool) (l : List Entry) (disk : Disk) → Begins geometry l disk content torn → (r : Recovering) → Recovery geometry content torn (recovering l disk) r → StillRecovers geometry r content torn
stopped_recovery_lem geometry content torn l disk begins r run =
    still geometry content torn r (keeps-run geometry content torn (recovering l disk) r run (record { same = begins; restored = λ renamed. absurd (true≢false (sym renamed)) }))
