-- What lists of entries claim.
use Rattle.std.proofs.Common.{◌≡◌, ◌⊎◌, inl, inr, ℕ, zero, suc, ◌+◌, ◌-◌, ◌<◌, ◌≤◌, Bool, true, false, List, [], ◌∷◌, ◌++◌, length, take, drop, Option, Some, None, refl, sym, ◌∙◌, ap, subst, arith}
use Rattle.std.specs.Prelude.{◌||◌, ◌==◌, if◌then◌else◌}
use Rattle.std.specs.Option.{option_or}
use Rattle.std.proofs.lemmas.List.{take_all, take-append-le, drop-append-le}
use mathlib.Core.Path.{fun_ext}
use Rattle.store_model.specs.disk_model.declared.block.Block.{Block}
use Rattle.store_model.specs.disk_model.Sectors.{same_block, are_rivals}
use Rattle.store_model.specs.log_model.declared.entry.Entry.{Entry}
use Rattle.store_model.specs.log_model.Logs.{updates, is_commit, is_ended, last_said}
use Rattle.store_model.specs.log_model.StoreLaws.{is_named}
use Rattle.store_model.proofs.log_model.Telling.{last_said-append}
use Rattle.store_model.specs.Logs.{IsUpdate, AreUpdates, commit_by, commits, IsClaimed, ended_with}
use Rattle.store_model.proofs.Told.{false_true, none_true, and-false, same_self, rivals_other, updates_is, rival_is, no_commit, all_take, commits-append, ends-commit, ends_own, said_unnamed, says}
use Rattle.store_model.proofs.Change.{longer, commits-drop_all}
use Rattle.store_model.proofs.Ends.{commits-drop_commit, commits-drop_le}
use Rattle.store_model.proofs.Pieces.{ends-updates}
use Rattle.store_claims.specs.Claims.{IsClaimedIn, IsClaimedWith}

-- ---- places

-- a place with so many commits behind it
pub place_of : (l : List Entry) (d k : ℕ) → d ≤ length l → k ≤ commits (drop d l) → (p : ℕ) × (d ≤ p) × (p ≤ length l) × (commits (drop p l) ≡ k)
place_of [] zero k le few = (0, omega arith, omega arith, let e : 0 ≡ k = omega (arith, few) in e)
place_of [] (suc d) k le few = absurd (omega (arith, le))
place_of (e ∷ l) (suc d) k le few = let r = place_of l d k (omega (arith, le)) few in (suc r.0, omega (arith, r.1), omega (arith, r.2), r.3)
place_of (e ∷ l) zero k le few = pick (λ rest. place_of l 0 k (omega arith) rest) (cases (if is_commit e.act then 1 else 0) (commits l) few (at_most (is_commit e.act)))
  where
    cases : (n m : ℕ) → k ≤ n + m → n ≤ 1 → (k ≡ n + m) ⊎ (k ≤ m)
    cases n m low one = grind arith

    at_most : (v : Bool) → (if v then 1 else 0) ≤ 1
    at_most true = omega arith
    at_most false = omega arith

    pick : (k ≤ commits l → (p : ℕ) × (0 ≤ p) × (p ≤ length l) × (commits (drop p l) ≡ k)) → (k ≡ (if is_commit e.act then 1 else 0) + commits l) ⊎ (k ≤ commits l) → (p : ℕ) × (0 ≤ p) × (p ≤ length (e ∷ l)) × (commits (drop p (e ∷ l)) ≡ k)
    pick later (inl all) = (0, omega arith, omega arith, sym all)
    pick later (inr rest) = let r = later rest in (suc r.0, omega arith, omega (arith, r.2), r.3)

take_behind : (p : ℕ) (xs ys : List Entry) → length xs ≤ p → take p (xs ++ ys) ≡ xs ++ take (p - length xs) ys
take_behind p [] ys le = ap (λ (n : ℕ). take n ys) (let e : p ≡ p - 0 = omega arith in e)
take_behind zero (x ∷ xs) ys le = absurd (omega (arith, le))
take_behind (suc p) (x ∷ xs) ys le =
    ap (λ (l : List Entry). x ∷ l) (take_behind p xs ys (omega (arith, le)))
    ∙ ap (λ (n : ℕ). x ∷ (xs ++ take n ys)) (let e : p - length xs ≡ suc p - suc (length xs) = omega arith in e)

-- ---- updates of one block

pub no_commits : (t : ℕ) (c : Block) (us : List Entry) → AreUpdates t c us → commits us ≡ 0
no_commits t c [] are = refl
no_commits t c (e ∷ us) are = omega (arith, one, no_commits t c us are.1)
  where
    one : ◌≡◌ {A = ℕ} (if is_commit e.act then 1 else 0) 0
    one = rw (no_commit e.act c are.0.block) refl

-- of a block that is no rival an update says nothing, if it is another one or the transaction hasn't ended
says_nothing : (f : ℕ → Bool) (t : ℕ) (c : Block) (e : Entry) (b : Block) → IsUpdate t c e → are_rivals b c ≡ false → (same_block b c ≡ false) ⊎ (f t ≡ false) → says f e b ≡ None
says_nothing f t c e b is apart (inl other) = rw (rival_is e.act b c is.block ∙ apart, updates_is e.act b c is.block ∙ other) refl
says_nothing f t c e b is apart (inr open_) = rw (rival_is e.act b c is.block ∙ apart, ap f is.by ∙ open_, and-false (updates b e.act)) refl

pub updates_silent : (f : ℕ → Bool) (t : ℕ) (c : Block) (us : List Entry) (b : Block) → AreUpdates t c us → are_rivals b c ≡ false → (same_block b c ≡ false) ⊎ (f t ≡ false) → last_said f us b ≡ None
updates_silent f t c [] b are apart which = refl
updates_silent f t c (e ∷ us) b are apart which = rw (updates_silent f t c us b are.1 apart which) (says_nothing f t c e b are.0 apart which)

-- of its own block an update says so, where its transaction ends
says_own : (f : ℕ → Bool) (t : ℕ) (c : Block) (e : Entry) → IsUpdate t c e → f t ≡ true → says f e c ≡ Some false
says_own f t c e is ended = rw (rival_is e.act c c is.block ∙ rivals_other c, updates_is e.act c c is.block ∙ same_self c, ap f is.by ∙ ended) refl

pub updates_own : (f : ℕ → Bool) (t : ℕ) (c : Block) (us : List Entry) → AreUpdates t c us → f t ≡ true → 0 < length us → last_said f us c ≡ Some false
updates_own f t c [] are ended some = absurd (omega (arith, some))
updates_own f t c (e ∷ []) are ended some = says_own f t c e are.0 ended
updates_own f t c (e ∷ u ∷ us) are ended some = rw (updates_own f t c (u ∷ us) are.1 ended (omega arith)) refl

-- ---- claims of lists

module _ (l : List Entry) (d k : ℕ) (b : Block) where
  -- more is durable
  pub claimed_later : (d' : ℕ) → d ≤ d' → IsClaimedIn l d k b → IsClaimedIn l d' k b
  claimed_later d' le claimed p low high e = claimed p (omega (arith, le, low)) high e

  -- the empty list claims all
  pub claimed_empty : l ≡ [] → IsClaimedIn l d k b
  claimed_empty empty p low high e is = none_true (sym none ∙ is)
    where
      taken : take p l ≡ []
      taken = take_all p l (let z : length l ≤ p = omega (arith, ap length empty) in z) ∙ empty

      none : last_said (is_ended (take p l)) (take p l) b ≡ None
      none = ap (λ (xs : List Entry). last_said (is_ended xs) xs b) taken

-- all of the list
pub claimed_whole : (l : List Entry) (d : ℕ) (b : Block) → d ≤ length l → IsClaimedIn l d 0 b → IsClaimed l b
claimed_whole l d b within claimed = subst (λ (xs : List Entry). IsClaimed xs b) (take_all (length l) l (omega arith)) (claimed (length l) within (omega arith) (commits-drop_all l (length l) (omega arith)))

-- a transaction with no entry says nothing more
pub with_unnamed : (t : ℕ) (l : List Entry) (b : Block) → is_named l t ≡ false → IsClaimed l b → IsClaimedWith t l b
with_unnamed t l b unnamed claimed is = claimed (sym (said_unnamed t l b unnamed) ∙ is)

pub with_empty : (t : ℕ) (l : List Entry) (b : Block) → l ≡ [] → IsClaimedWith t l b
with_empty t l b empty is = none_true (sym (ap (λ (xs : List Entry). last_said (ended_with t xs) xs b) empty) ∙ is)

-- ---- a commit

module _ (l : List Entry) (lsn previous t d : ℕ) (b : Block) where
  abbrev ended : List Entry
  ended = l ++ commit_by lsn previous t ∷ []

  -- what was claimed is so one more commit back
  pub commit_older : (k : ℕ) → IsClaimedIn l d k b → IsClaimedIn (l ++ commit_by lsn previous t ∷ []) d (suc k) b
  commit_older k claimed p low high = longer (λ p. commits (drop p ended) ≡ suc k → IsClaimed (take p ended) b) l (commit_by lsn previous t) p high
      (λ h e. subst (λ (xs : List Entry). IsClaimed xs b) (sym (take-append-le p l (commit_by lsn previous t ∷ []) h)) (claimed p low h (omega (arith, commits-drop_commit l lsn previous t p h, e))))
      (λ h e. absurd (omega (arith, e, commits-drop_all ended p (omega (arith, h)))))

  -- and what was to be claimed is claimed of the newest content
  pub commit_newest : IsClaimedWith t l b → IsClaimedIn (l ++ commit_by lsn previous t ∷ []) d 0 b
  commit_newest claimed p low high = longer (λ p. commits (drop p ended) ≡ 0 → IsClaimed (take p ended) b) l (commit_by lsn previous t) p high
      (λ h e. absurd (omega (arith, e, commits-drop_commit l lsn previous t p h)))
      (λ h e. subst (λ (xs : List Entry). IsClaimed xs b) (sym (take_all p ended (omega (arith, h)))) whole)
    where
      whole : IsClaimed ended b
      whole is = claimed (ap (λ (f : ℕ → Bool). last_said f l b) (sym (ends-commit l lsn previous t)) ∙ sym (last_said-append (is_ended ended) l (commit_by lsn previous t ∷ []) b) ∙ is)

-- ---- a change

module _ (l : List Entry) (t : ℕ) (c : Block) (us : List Entry) (are : AreUpdates t c us) where
  -- before the change all is as it was
  cut_commits : (p : ℕ) → p ≤ length l → commits (drop p (l ++ us)) ≡ commits (drop p l)
  cut_commits p le = ap commits (drop-append-le p l us le) ∙ commits-append (drop p l) us ∙ omega (arith, no_commits t c us are)

  -- and behind it no commit stands
  behind_commits : (p : ℕ) → length l ≤ p → commits (drop p (l ++ us)) ≡ 0
  behind_commits p le = omega (arith, commits-drop_le (l ++ us) (length l) p le, cut_commits (length l) (omega arith), commits-drop_all l (length l) (omega arith))

  change_behind : (b : Block) (p : ℕ) → length l ≤ p → is_ended l t ≡ false → are_rivals b c ≡ false → IsClaimed l b → IsClaimed (take p (l ++ us)) b
  change_behind b p le open_ apart claimed = subst (λ (xs : List Entry). IsClaimed xs b) (sym (take_behind p l us le)) whole
    where
      some : List Entry
      some = take (p - length l) us

      they : AreUpdates t c some
      they = all_take (IsUpdate t c) (p - length l) us are

      same : is_ended (l ++ some) ≡ is_ended l
      same = ends-updates l t c some they

      said : last_said (is_ended (l ++ some)) (l ++ some) b ≡ last_said (is_ended l) l b
      said = ap (λ (f : ℕ → Bool). last_said f (l ++ some) b) same ∙ last_said-append (is_ended l) l some b ∙ ap (λ (o : Option Bool). option_or o (last_said (is_ended l) l b)) (updates_silent (is_ended l) t c some b they apart (inr open_))

      whole : IsClaimed (l ++ some) b
      whole is = claimed (sym said ∙ is)

  -- older contents stay claimed, and the newest but for rivals
  pub change_claimed : (d k : ℕ) (b : Block) → d ≤ length l → is_ended l t ≡ false → (k ≡ 0 → are_rivals b c ≡ false) → IsClaimedIn l d k b → IsClaimedIn (l ++ us) d k b
  change_claimed d k b within open_ apart claimed p low high e = go order
    where
      order : (p ≤ length l) ⊎ (length l ≤ p)
      order = grind arith

      go : (p ≤ length l) ⊎ (length l ≤ p) → IsClaimed (take p (l ++ us)) b
      go (inl le) = subst (λ (xs : List Entry). IsClaimed xs b) (sym (take-append-le p l us le)) (claimed p low le (sym (cut_commits p le) ∙ e))
      go (inr le) =
          let none : k ≡ 0 = sym e ∙ behind_commits p le in
          change_behind b p le open_ (apart none) (claimed_whole l d b within (subst (λ (n : ℕ). IsClaimedIn l d n b) none claimed))

  ended_same : ended_with t (l ++ us) ≡ ended_with t l
  ended_same = fun_ext (λ u. ap (λ (g : ℕ → Bool). g u || (u == t)) (ends-updates l t c us are))

  -- the changed block will be claimed
  pub change_own : 0 < length us → IsClaimedWith t (l ++ us) c
  change_own some is = false_true (sym said ∙ is)
    where
      said : last_said (ended_with t (l ++ us)) (l ++ us) c ≡ Some false
      said = last_said-append (ended_with t (l ++ us)) l us c ∙ ap (λ (o : Option Bool). option_or o (last_said (ended_with t (l ++ us)) l c)) (updates_own (ended_with t (l ++ us)) t c us are (ends_own (l ++ us) t) some)

  -- and another one that isn't a rival as before
  pub change_other : (b : Block) → are_rivals b c ≡ false → same_block b c ≡ false → IsClaimedWith t l b → IsClaimedWith t (l ++ us) b
  change_other b apart other claimed is = claimed (sym said ∙ is)
    where
      said : last_said (ended_with t (l ++ us)) (l ++ us) b ≡ last_said (ended_with t l) l b
      said = ap (λ (f : ℕ → Bool). last_said f (l ++ us) b) ended_same ∙ last_said-append (ended_with t l) l us b
          ∙ ap (λ (o : Option Bool). option_or o (last_said (ended_with t l) l b)) (updates_silent (ended_with t l) t c us b are apart (inl other))
