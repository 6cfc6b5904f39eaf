-- Of two rivals one at most is held, and its last update stands behind the other's.
use Rattle.std.proofs.Common.{◌≡◌, ◌⊎◌, inl, inr, ⊎_elim, ℕ, ◌<◌, Bool, true, false, List, [], ◌∷◌, ◌++◌, refl, sym, ◌∙◌, ap, subst}
use Rattle.std.specs.Prelude.{◌||◌, ◌&&◌, not}
use Rattle.log_model.specs.disk_model.declared.block.Block.{Block}
use Rattle.log_model.specs.disk_model.Sectors.{same_block, are_rivals}
use Rattle.fixup_record.proofs.disk_model.Frames.{same_block-is}
use Rattle.log_model.specs.declared.entry.Entry.{Entry}
use Rattle.store_model.specs.Logs.{AreUpdates, commit_by, has_update, is_behind, IsOusted}
use Rattle.store_model.specs.Geometry.{Geometry}
use Rattle.store_model.specs.Stores.{Shades, none, Store, is_held}
use Rattle.store_model.specs.Events.{MayChange, changed_store}
use Rattle.store_model.proofs.Told.{true≢false, or-false, rival_apart, rivals_both, rivals_other}
use Rattle.store_model.proofs.Lost.{has_update-append, has_none, or_second, behind_more, behind_now, updates_only, ousted_more, ousted_now}
use Rattle.store_model.proofs.Pieces.{are_updates}

-- fewer dirty and dead blocks, of which as many are owed
pub shades-fewer : (geometry : Geometry) (draft : List Entry) (dirty dead owed dirty' dead' owed' : Block → Bool) (l : List Entry) → Shades draft dirty dead owed l
    → ((b : Block) → dirty' b ≡ true → (dirty b ≡ true) × (owed b ≡ true → owed' b ≡ true)) → ((x : Block) → dead' x ≡ true → (dead x ≡ true) × (owed x ≡ true → owed' x ≡ true))
    → Shades draft dirty' dead' owed' l
shades-fewer geometry draft dirty dead owed dirty' dead' owed' l sh dirties deads = record {
  of_draft = sh.of_draft;
  of_dirty = λ b x rival h. ⊎_elim (λ k. inl k) (λ k. inr ((dirties b h).1 k.0, k.1)) (sh.of_dirty b x rival (dirties b h).0);
  of_dead = λ x h. ⊎_elim (λ k. inl k) (λ k. inr ((deads x h).1 k.0, k.1)) (sh.of_dead x (deads x h).0);
}

pub shades-give_up : (geometry : Geometry) (draft : List Entry) (dirty dirty' dead owed : Block → Bool) (l : List Entry) → ((b : Block) → dirty' b ≡ true → (dirty b || has_update draft b) ≡ true) → Shades draft dirty dead owed l
    → Shades [] dirty' dead owed l
shades-give_up geometry draft dirty dirty' dead owed l only sh = record {
  of_draft = λ b x rival h. absurd (true≢false (sym h));
  of_dirty = λ b x rival h. go b x rival (dirty b) refl (only b h);
  of_dead = sh.of_dead;
}
  where
    go : (b x : Block) → are_rivals b x ≡ true → (v : Bool) → dirty b ≡ v → (dirty b || has_update draft b) ≡ true → (is_behind l b x ≡ true) ⊎ ((owed b ≡ true) × (has_update l x ≡ false))
    go b x rival true k h = sh.of_dirty b x rival k
    go b x rival false k h = inl (sh.of_draft b x rival (rw k at h))

pub shades-commit : (geometry : Geometry) (draft : List Entry) (dirty dead owed : Block → Bool) (l : List Entry) (lsn previous t : ℕ) → Shades draft dirty dead owed l
    → Shades [] dirty dead owed (l ++ commit_by lsn previous t ∷ [])
shades-commit geometry draft dirty dead owed l lsn previous t sh = record {
  of_draft = λ b x rival h. absurd (true≢false (sym h));
  of_dirty = λ b x rival h. ⊎_elim (λ k. inl (behind_more l (commit_by lsn previous t ∷ []) b x k refl)) (λ k. inr (k.0, has_none l (commit_by lsn previous t ∷ []) x k.1 refl)) (sh.of_dirty b x rival h);
  of_dead = λ x h. ⊎_elim (λ k. inl (more x k.0, ousted_more l (commit_by lsn previous t ∷ []) x k.1 refl)) (λ k. inr (k.0, has_none l (commit_by lsn previous t ∷ []) x k.1 refl)) (sh.of_dead x h);
}
  where
    more : (x : Block) → has_update l x ≡ true → has_update (l ++ commit_by lsn previous t ∷ []) x ≡ true
    more x h = has_update-append l (commit_by lsn previous t ∷ []) x ∙ rw h refl

-- the list of a checkpoint is born empty, and all is owed
pub shades-nothing : (geometry : Geometry) (dirty dead : Block → Bool) → Shades [] dirty dead (λ b. dirty b || dead b) []
shades-nothing geometry dirty dead = record {
  of_draft = λ b x rival h. absurd (true≢false (sym h));
  of_dirty = λ b x rival h. inr (rw h refl, refl);
  of_dead = λ x h. inr (or_second (dirty x) (dead x) h, refl);
}

-- A change makes its block the one that is held.
module _ (geometry : Geometry) (s : Store) (c : Block) (us : List Entry) (may : MayChange geometry s c us) where
  are : AreUpdates s.window.tx c us
  are = are_updates s.window c us may.old

  no_update : (x : Block) → same_block x c ≡ false → has_update us x ≡ false
  no_update x apart = updates_only s.window.tx c us x are apart

  -- what the draft had of another block
  drafted : (x : Block) → same_block x c ≡ false → has_update (s.window.draft ++ us) x ≡ has_update s.window.draft x
  drafted x apart = has_update-append s.window.draft us x ∙ rw (no_update x apart) (or-false (has_update s.window.draft x))

  more : (l : List Entry) (x : Block) → has_update l x ≡ true → has_update (l ++ us) x ≡ true
  more l x h = has_update-append l us x ∙ rw h refl

  -- another block, of which the transaction has an update, is no rival of the changed one
  no_rival : (b : Block) → has_update s.window.draft b ≡ true → are_rivals c b ≡ false
  no_rival b h = go (are_rivals c b) refl
    where
      go : (v : Bool) → are_rivals c b ≡ v → are_rivals c b ≡ false
      go true k = absurd (true≢false (sym h ∙ may.alone b k))
      go false k = k

  is_other : (b x : Block) → are_rivals b x ≡ true → are_rivals c b ≡ false → same_block x c ≡ false
  is_other b x rival none = go (same_block x c) refl
    where
      go : (v : Bool) → same_block x c ≡ v → same_block x c ≡ false
      go true h = let e : x ≡ c = same_block-is x c h in absurd (true≢false (sym (rivals_both c b ∙ subst (λ (n : Block). are_rivals b n ≡ true) e rival) ∙ none))
      go false h = h

  first : (x y : Bool) → (x && y) ≡ true → x ≡ true
  first true y e = refl
  first false y e = e

  second : (x y : Bool) → (x && not y) ≡ true → y ≡ false
  second true true e = sym e
  second true false e = refl
  second false y e = absurd (true≢false (sym e))

  now : (l : List Entry) (b x : Block) → same_block b c ≡ true → are_rivals b x ≡ true → is_behind (l ++ us) b x ≡ true
  now l b x is rival = let e : b ≡ c = same_block-is b c is in subst (λ (n : Block). is_behind (l ++ us) n x ≡ true) (sym e)
      (behind_now l s.window.tx c us x are may.some (rival_apart x c (rivals_both x c ∙ subst (λ (n : Block). are_rivals n x ≡ true) e rival)))

  abbrev dirty' : Block → Bool
  dirty' = (changed_store s c us).dirty

  abbrev dead' : Block → Bool
  dead' = (changed_store s c us).dead

  -- of a block that was dirty
  kept : (l : List Entry) (owed : Block → Bool) (b x : Block) → same_block x c ≡ false → (is_behind l b x ≡ true) ⊎ ((owed b ≡ true) × (has_update l x ≡ false)) → (is_behind (l ++ us) b x ≡ true) ⊎ ((owed b ≡ true) × (has_update (l ++ us) x ≡ false))
  kept l owed b x apart (inl k) = inl (behind_more l us b x k (no_update x apart))
  kept l owed b x apart (inr k) = inr (k.0, has_none l us x k.1 (no_update x apart))

  pub shades-change : (l : List Entry) (owed : Block → Bool) → ((b : Block) → s.dirty b ≡ true → owed b ≡ false → has_update l b ≡ true) → Shades s.window.draft s.dirty s.dead owed l
      → Shades (s.window.draft ++ us) dirty' dead' owed (l ++ us)
  shades-change l owed holds sh = record {
    of_draft = λ b x rival h. of_draft (same_block b c) b x refl rival h;
    of_dirty = λ b x rival h. of_dirty (same_block b c) b x refl rival h;
    of_dead = λ x h. of_dead (same_block x c) x refl h;
  }
    where
      of_draft : (v : Bool) (b x : Block) → same_block b c ≡ v → are_rivals b x ≡ true → has_update (s.window.draft ++ us) b ≡ true → is_behind (l ++ us) b x ≡ true
      of_draft true b x is rival h = now l b x is rival
      of_draft false b x is rival h = let h' : has_update s.window.draft b ≡ true = sym (drafted b is) ∙ h in
          behind_more l us b x (sh.of_draft b x rival h') (no_update x (is_other b x rival (no_rival b h')))

      of_dirty : (v : Bool) (b x : Block) → same_block b c ≡ v → are_rivals b x ≡ true → dirty' b ≡ true → (is_behind (l ++ us) b x ≡ true) ⊎ ((owed b ≡ true) × (has_update (l ++ us) x ≡ false))
      of_dirty true b x is rival h = inl (now l b x is rival)
      of_dirty false b x is rival h = let h' : (s.dirty b && not (are_rivals c b)) ≡ true = (rw is at h) in
          kept l owed b x (is_other b x rival (second (s.dirty b) (are_rivals c b) h')) (sh.of_dirty b x rival (first (s.dirty b) (not (are_rivals c b)) h'))

      died : (x : Block) → same_block x c ≡ false → are_rivals c x ≡ true → s.dirty x ≡ true → (v : Bool) → has_update l x ≡ v → (o : Bool) → owed x ≡ o → ((has_update (l ++ us) x ≡ true) × IsOusted (l ++ us) x) ⊎ ((owed x ≡ true) × (has_update (l ++ us) x ≡ false))
      died x apart rival h true has o k = inl (more l x has, ousted_now l s.window.tx c us x are may.some apart (rivals_both x c ∙ rival))
      died x apart rival h false has true k = inr (k, has_none l us x has (no_update x apart))
      died x apart rival h false has false k = absurd (true≢false (sym (holds x h k) ∙ has))

      was_dead : (x : Block) → same_block x c ≡ false → ((has_update l x ≡ true) × IsOusted l x) ⊎ ((owed x ≡ true) × (has_update l x ≡ false)) → ((has_update (l ++ us) x ≡ true) × IsOusted (l ++ us) x) ⊎ ((owed x ≡ true) × (has_update (l ++ us) x ≡ false))
      was_dead x apart (inl k) = inl (more l x k.0, ousted_more l us x k.1 (no_update x apart))
      was_dead x apart (inr k) = inr (k.0, has_none l us x k.1 (no_update x apart))

      both_true : (r d : Bool) → (r && d) ≡ true → (r ≡ true) × (d ≡ true)
      both_true true d e = (refl, e)
      both_true false d e = absurd (true≢false (sym e))

      of_dead : (v : Bool) (x : Block) → same_block x c ≡ v → dead' x ≡ true → ((has_update (l ++ us) x ≡ true) × IsOusted (l ++ us) x) ⊎ ((owed x ≡ true) × (has_update (l ++ us) x ≡ false))
      of_dead true x is h = absurd (true≢false (sym h ∙ (rw is refl)))
      of_dead false x is h = go (s.dead x) refl
        where
          h' : (s.dead x || (are_rivals c x && s.dirty x)) ≡ true
          h' = (rw is at h)

          go : (v : Bool) → s.dead x ≡ v → ((has_update (l ++ us) x ≡ true) × IsOusted (l ++ us) x) ⊎ ((owed x ≡ true) × (has_update (l ++ us) x ≡ false))
          go true k = was_dead x is (sh.of_dead x k)
          go false k = let h'' : (are_rivals c x && s.dirty x) ≡ true = (rw k at h') in let both = both_true (are_rivals c x) (s.dirty x) h'' in
              died x is both.0 both.1 (has_update l x) refl (owed x) refl

  -- held after the change, with the draft as it is then
  abbrev held' : Block → Bool
  held' b = dirty' b || has_update (s.window.draft ++ us) b

  held_other : (b : Block) → same_block b c ≡ false → held' b ≡ true → (is_held s b ≡ true) × (are_rivals c b ≡ false)
  held_other b is h = go (has_update s.window.draft b) refl
    where
      h' : ((s.dirty b && not (are_rivals c b)) || has_update s.window.draft b) ≡ true
      h' = sym (ap (λ (v : Bool). (s.dirty b && not (are_rivals c b)) || v) (drafted b is)) ∙ (rw is at h)

      or_second : (a : Bool) (v : Bool) → v ≡ true → (a || v) ≡ true
      or_second true v k = refl
      or_second false v k = k

      or_none : (a : Bool) (v : Bool) → v ≡ false → (a || v) ≡ true → a ≡ true
      or_none true v k e = refl
      or_none false v k e = sym k ∙ e

      go : (v : Bool) → has_update s.window.draft b ≡ v → (is_held s b ≡ true) × (are_rivals c b ≡ false)
      go true k = (or_second (s.dirty b) (has_update s.window.draft b) k, no_rival b k)
      go false k = let d = or_none (s.dirty b && not (are_rivals c b)) (has_update s.window.draft b) k h' in
          (rw (first (s.dirty b) (not (are_rivals c b)) d) refl, second (s.dirty b) (are_rivals c b) d)

  pub lone-change : ((b x : Block) → are_rivals b x ≡ true → is_held s b ≡ true → is_held s x ≡ false) → (b x : Block) → are_rivals b x ≡ true → held' b ≡ true → held' x ≡ false
  lone-change lone b x rival h = go (held' x) refl
    where
      clash : held' x ≡ true → (v w : Bool) → same_block b c ≡ v → same_block x c ≡ w → ⊥
      clash k true true i j = let e : b ≡ c = same_block-is b c i in let e' : x ≡ c = same_block-is x c j in
          true≢false (sym (subst (λ (n : Block). are_rivals c n ≡ true) e' (subst (λ (n : Block). are_rivals n x ≡ true) e rival)) ∙ rivals_other c)
      clash k true false i j = let e : b ≡ c = same_block-is b c i in true≢false (sym (subst (λ (n : Block). are_rivals n x ≡ true) e rival) ∙ (held_other x j k).1)
      clash k false true i j = let e : x ≡ c = same_block-is x c j in true≢false (sym (rivals_both c b ∙ subst (λ (n : Block). are_rivals b n ≡ true) e rival) ∙ (held_other b i h).1)
      clash k false false i j = true≢false (sym (held_other x j k).0 ∙ lone b x rival (held_other b i h).0)

      go : (v : Bool) → held' x ≡ v → held' x ≡ false
      go true k = absurd (clash k (same_block b c) (same_block x c) refl refl)
      go false k = k

  pub known-change : ((b : Block) → is_held s b ≡ true → 0 < geometry.size b) → (b : Block) → held' b ≡ true → 0 < geometry.size b
  known-change known b h = go (same_block b c) refl
    where
      go : (v : Bool) → same_block b c ≡ v → 0 < geometry.size b
      go true is = let e : b ≡ c = same_block-is b c is in subst (λ (n : Block). 0 < geometry.size n) (sym e) may.known
      go false is = known b (held_other b is h).0

  pub still-change : ((x : Block) → s.dead x ≡ true → is_held s x ≡ false) → (x : Block) → dead' x ≡ true → held' x ≡ false
  still-change still x h = go (held' x) refl
    where
      dies : same_block x c ≡ false → are_rivals c x ≡ false → s.dead x ≡ true
      dies is none = pick (s.dead x) (s.dirty x) (rw (is, none) at h)
        where
          pick : (d e : Bool) → (d || false) ≡ true → d ≡ true
          pick true e k = refl
          pick false e k = k

      clash : held' x ≡ true → (v : Bool) → same_block x c ≡ v → ⊥
      clash k true is = true≢false (sym h ∙ (rw is refl))
      clash k false is = let o = held_other x is k in true≢false (sym o.0 ∙ still x (dies is o.1))

      go : (v : Bool) → held' x ≡ v → held' x ≡ false
      go true k = absurd (clash k (same_block x c) refl)
      go false k = k

  pub owing-change : (b : Block) → (s.dirty b || s.dead b) ≡ true → (dirty' b || dead' b) ≡ true
  owing-change b h = go (same_block b c) (s.dirty b) (s.dead b) (are_rivals c b) h
    where
      go : (v d e r : Bool) → (d || e) ≡ true → ((v || (d && not r)) || (not v && (e || (r && d)))) ≡ true
      go true d e r h = refl
      go false true e false h = refl
      go false true true true h = refl
      go false true false true h = refl
      go false false true r h = refl
      go false false false r h = absurd (true≢false (sym h))
