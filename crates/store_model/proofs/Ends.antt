-- A commit, a begin, a give-up and a sync keep what the log tells.
use Rattle.std.proofs.Common.{◌≡◌, ◌≢◌, ◌⊎◌, inl, ⊎_elim, ℕ, zero, suc, ◌<◌, ◌≤◌, Bool, true, false, List, [], ◌∷◌, ◌++◌, length, take, drop, Option, Some, None, refl, sym, ◌∙◌, ap, subst, arith}
use Rattle.std.specs.Prelude.{◌==◌, unwrap_or}
use Rattle.std.proofs.lemmas.List.{take_all, take-append-le, drop-append-le}
use Rattle.log_model.specs.disk_model.declared.block.Block.{Block}
use Rattle.log_model.specs.declared.entry.Entry.{Entry}
use Rattle.log_model.specs.Logs.{is_ended, first_undo, told, last_said}
use Rattle.log_model.specs.StoreLaws.{is_named}
use Rattle.log_model.proofs.Telling.{told_longer, silent, silent_rest, none_left, first_undo-append}
use Rattle.store_model.specs.Logs.{AllBytes, commit_by, commits, undone, back, IsClaimed, has_update, ended_with}
use Rattle.store_model.specs.Geometry.{SectorBytes, Geometry, Shows}
use Rattle.store_model.specs.Stores.{Window, member, Tells, Backs, Fits, IsReadyAt, CoversWhole}
use Rattle.store_model.specs.Events.{before, after_commit, after_begin, after_give_up, after_sync}
use Rattle.store_model.proofs.Told.{true≢false, names_more, apart, commits-append, or_left, or_right, ends-commit, told_commit, claimed_shorter, ended_shorter, still_shadowed}
use Rattle.store_model.proofs.Lost.{has_front, none_covered, untouched, unnamed_by, said_unmine, moved_fit}
use Rattle.store_model.proofs.Window.{back-zero, back_at, window-sync}
use Rattle.store_model.proofs.Change.{longer, commits-drop_all}

-- no entry of a transaction, no commit of it
pub ends_unnamed : (l : List Entry) (u : ℕ) → is_named l u ≡ false → is_ended l u ≡ false
ends_unnamed [] u n = refl
ends_unnamed (e ∷ l) u n = rw (or_left (e.tx == u) (is_named l u) n) (ends_unnamed l u (or_right (e.tx == u) (is_named l u) n))

pub member-commit : (w : Window) (k : ℕ) (b : Block) (i : ℕ) → member (after_commit w) (suc k) b i ≡ member w k b i
member-commit w k b i = refl

pub commits-drop_commit : (l : List Entry) (lsn previous t p : ℕ) → p ≤ length l → commits (drop p (l ++ commit_by lsn previous t ∷ [])) ≡ suc (commits (drop p l))
commits-drop_commit l lsn previous t p le = ap commits (drop-append-le p l (commit_by lsn previous t ∷ []) le) ∙ commits-append (drop p l) (commit_by lsn previous t ∷ []) ∙ omega arith

-- the byte's updates of an ended transaction cover the whole block, at its commit
abbrev pub CoversEnded : Geometry → List Entry → ℕ → Type 0
CoversEnded geometry l tx = (b : Block) (i : ℕ) → i < geometry.size b → last_said (ended_with tx l) l b ≡ Some false → first_undo l b i ≢ None

module _ (geometry : Geometry) (w : Window) (l : List Entry) (lsn previous d : ℕ) (le : d ≤ length l) (t : Tells geometry w l d)
    (ready : (b : Block) (i : ℕ) → i < geometry.size b → last_said (ended_with w.tx l) l b ≢ Some true → IsReadyAt w l b i) (covered : CoversEnded geometry l w.tx) where
  abbrev m : List Entry
  m = l ++ commit_by lsn previous w.tx ∷ []

  m_ends : is_ended m ≡ ended_with w.tx l
  m_ends = ends-commit l lsn previous w.tx

  -- what isn't shadowed with the commit isn't where its transaction has ended
  claimed_now : (b : Block) → IsClaimed m b → last_said (ended_with w.tx l) l b ≢ Some true
  claimed_now b claimed = subst (λ (f : ℕ → Bool). last_said f l b ≢ Some true) m_ends (claimed_shorter (is_ended m) l (commit_by lsn previous w.tx) b (inl refl) claimed)

  commit_before : (p : ℕ) (b : Block) (i : ℕ) → p ≤ length l → member (after_commit w) (commits (drop p m)) b i ≡ member w (commits (drop p l)) b i
  commit_before p b i h = ap (λ (n : ℕ). member (after_commit w) n b i) (commits-drop_commit l lsn previous w.tx p h) ∙ member-commit w (commits (drop p l)) b i

  commit_now : (p : ℕ) (b : Block) (i : ℕ) → p ≡ length m → member (after_commit w) (commits (drop p m)) b i ≡ w.body b i
  commit_now p b i h = ap (λ (n : ℕ). member (after_commit w) n b i) (commits-drop_all m p (omega arith))

  cut : (p : ℕ) → p ≤ length l → take p m ≡ take p l
  cut p h = take-append-le p l (commit_by lsn previous w.tx ∷ []) h

  whole_list : (p : ℕ) → p ≡ length m → take p m ≡ m
  whole_list p h = take_all p m (omega arith)

  pub tells-commit : Tells geometry (after_commit w) (l ++ commit_by lsn previous w.tx ∷ []) d
  tells-commit = record {
    right = λ p b i v low high within. longer (λ p. IsClaimed (take p m) b → told (take p m) b i ≡ Some v → member (after_commit w) (commits (drop p m)) b i ≡ v) l (commit_by lsn previous w.tx) p high
        (λ h claimed e. commit_before p b i h ∙ t.right p b i v low h within (subst (λ (xs : List Entry). IsClaimed xs b) (cut p h) claimed) (ap (λ (xs : List Entry). told xs b i) (sym (cut p h)) ∙ e))
        (λ h claimed e. commit_now p b i h ∙ ready b i within (claimed_now b (subst (λ (xs : List Entry). IsClaimed xs b) (whole_list p h) claimed)) v (sym (told_commit l lsn previous w.tx b i) ∙ ap (λ (xs : List Entry). told xs b i) (sym (whole_list p h)) ∙ e));
    quiet = λ b i e. refl;
    still = λ p b i content low high e. let none : told l b i ≡ None = told_longer l (commit_by lsn previous w.tx ∷ []) b i e in longer (λ p. back (w.draft ∷ w.waiting) (commits (drop p m)) content b i ≡ content b i) l (commit_by lsn previous w.tx) p high
        (λ h. ap (λ (n : ℕ). back (w.draft ∷ w.waiting) n content b i) (commits-drop_commit l lsn previous w.tx p h) ∙ t.still p b i content low h none)
        (λ h. ap (λ (n : ℕ). back (w.draft ∷ w.waiting) n content b i) (commits-drop_all m p (omega arith)));
    even = λ p b low high free. longer (λ p. before w.is_torn w.was_torn (commits (drop p m)) b ≡ w.is_torn b) l (commit_by lsn previous w.tx) p high
        (λ h. ap (λ (n : ℕ). before w.is_torn w.was_torn n b) (commits-drop_commit l lsn previous w.tx p h) ∙ t.even p b low h (has_front l (commit_by lsn previous w.tx ∷ []) b free))
        (λ h. ap (λ (n : ℕ). before w.is_torn w.was_torn n b) (commits-drop_all m p (omega arith)));
    ended = λ p b i low high within. longer (λ p. last_said (is_ended (take p m)) (take p m) b ≡ Some false → first_undo (take p m) b i ≢ None) l (commit_by lsn previous w.tx) p high
        (λ h is none. t.ended p b i low h within (ap (λ (xs : List Entry). last_said (is_ended xs) xs b) (sym (cut p h)) ∙ is) (ap (λ (xs : List Entry). first_undo xs b i) (sym (cut p h)) ∙ none))
        (λ h is none. covered b i within (ap (λ (f : ℕ → Bool). last_said f l b) (sym m_ends) ∙ ended_shorter (is_ended m) l (commit_by lsn previous w.tx) b (inl refl) (ap (λ (xs : List Entry). last_said (is_ended xs) xs b) (sym (whole_list p h)) ∙ is))
        (none_left (first_undo l b i) None (sym (first_undo-append l (commit_by lsn previous w.tx ∷ []) b i) ∙ ap (λ (xs : List Entry). first_undo xs b i) (sym (whole_list p h)) ∙ none)));
    unended = ends_unnamed m (suc w.tx) (unused_next (suc w.tx) (omega arith));
    mine = λ b free. unnamed_by m (suc w.tx) b (unused_next (suc w.tx) (omega arith));
    unused = λ closed. unused_next (suc w.tx) (omega arith);
    fresh = λ u lt. unused_next u (omega arith);
  }
    where
      unused_next : (u : ℕ) → w.tx < u → is_named (l ++ commit_by lsn previous w.tx ∷ []) u ≡ false
      unused_next u lt = names_more l (commit_by lsn previous w.tx) u (t.fresh u lt) (apart u w.tx lt)

  pub backs-commit : CoversWhole geometry l → (sectors : SectorBytes) (b : Block) → Backs geometry w l d sectors b → Backs geometry (after_commit w) (l ++ commit_by lsn previous w.tx ∷ []) d sectors b
  backs-commit whole sectors b backs = λ p i j low high within inside. longer (λ p. IsClaimed (take p m) b → told (take p m) b j ≡ None → Shows geometry sectors b i (member (after_commit w) (commits (drop p m))) (before w.is_torn w.was_torn (commits (drop p m)))) l (commit_by lsn previous w.tx) p high
      (λ h claimed e. let x = backs p i j low h within inside (subst (λ (xs : List Entry). IsClaimed xs b) (cut p h) claimed) (ap (λ (xs : List Entry). told xs b j) (sym (cut p h)) ∙ e) in
      (x.0 ∙ sym (commit_before p b i h), λ torn. ap (λ (n : ℕ). before w.is_torn w.was_torn n b) (commits-drop_commit l lsn previous w.tx p h) ∙ x.1 torn))
      (λ h claimed e. let none : told l b j ≡ None = told_longer l (commit_by lsn previous w.tx ∷ []) b j (ap (λ (xs : List Entry). told xs b j) (sym (whole_list p h)) ∙ e) in
      let free : has_update l b ≡ false = untouched geometry l b j whole inside (silent_rest (is_ended l) l b j none) in
      let none_here : told l b i ≡ None = silent (is_ended l) l b i (none_covered l b i free) in
      let all : take (length l) l ≡ l = take_all (length l) l (omega arith) in
      let claimed' : IsClaimed l b = unended_claim b i within (claimed_now b (subst (λ (xs : List Entry). IsClaimed xs b) (whole_list p h) claimed)) none_here in
      let x = backs (length l) i j le (omega arith) within inside (subst (λ (xs : List Entry). IsClaimed xs b) (sym all) claimed') (ap (λ (xs : List Entry). told xs b j) all ∙ none) in (
        x.0 ∙ t.still (length l) b i w.body le (omega arith) none_here ∙ sym (commit_now p b i h),
        λ torn. ap (λ (n : ℕ). before w.is_torn w.was_torn n b) (commits-drop_all m p (omega arith)) ∙ sym (t.even (length l) b le (omega arith) free) ∙ x.1 torn,
      ))
    where
      unended_claim : (b : Block) (i : ℕ) → i < geometry.size b → last_said (ended_with w.tx l) l b ≢ Some true → told l b i ≡ None → IsClaimed l b
      unended_claim b i within claimed none shadowed = ⊎_elim (λ is. covered b i within is (silent_rest (is_ended l) l b i none)) claimed (still_shadowed (is_ended l) (ended_with w.tx l) l b shadowed)

  pub fits-commit : ((b : Block) → has_update w.draft b ≡ true → geometry.has_spelling b (w.body b) ≡ true) → (sectors : SectorBytes) (b : Block) → Fits geometry w l d sectors b → Fits geometry (after_commit w) (l ++ commit_by lsn previous w.tx ∷ []) d sectors b
  fits-commit spells sectors b fits = λ p i low high within. longer (λ p. IsClaimed (take p m) b → (geometry.has_spelling b (member (after_commit w) (commits (drop p m)) b) ≡ true) ⊎ (geometry.decode b sectors i ≡ member (after_commit w) (commits (drop p m)) b i)) l (commit_by lsn previous w.tx) p high
      (λ h claimed. moved_fit geometry b i (geometry.decode b sectors i) (member w (commits (drop p l)) b) (member (after_commit w) (commits (drop p m)) b) (λ j. commit_before p b j h)
      (fits p i low h within (subst (λ (xs : List Entry). IsClaimed xs b) (cut p h) claimed)))
      (λ h claimed. moved_fit geometry b i (geometry.decode b sectors i) (w.body b) (member (after_commit w) (commits (drop p m)) b) (λ j. commit_now p b j h)
      (now (has_update w.draft b) refl i within (subst (λ (xs : List Entry). IsClaimed xs b) (whole_list p h) claimed)))
    where
      now : (v : Bool) → has_update w.draft b ≡ v → (i : ℕ) → i < geometry.size b → IsClaimed m b → (geometry.has_spelling b (w.body b) ≡ true) ⊎ (geometry.decode b sectors i ≡ w.body b i)
      now true k i within claimed = inl (spells b k)
      now false k i within claimed = moved_fit geometry b i (geometry.decode b sectors i) (member w (commits (drop (length l) l)) b) (w.body b)
          (λ j. sym (ap (λ (n : ℕ). member w n b j) (commits-drop_all l (length l) (omega arith)) ∙ ap (λ (content : AllBytes). content b j) (back-zero w.waiting (undone w.draft w.body)) ∙ ap (λ (o : Option ℕ). unwrap_or o (w.body b j)) (none_covered w.draft b j k)))
          (fits (length l) i le (omega arith) within (subst (λ (xs : List Entry). IsClaimed xs b) (sym (take_all (length l) l (omega arith)))
          (λ is. claimed_now b claimed (said_unmine w.tx l b (t.mine b k) ∙ is))))

pub tells-begin : (geometry : Geometry) (w : Window) (l : List Entry) (d : ℕ) → d ≤ length l → Tells geometry w l d → w.is_open ≡ false → w.draft ≡ [] → Tells geometry (after_begin w) l d
tells-begin geometry w l d le t closed empty = record { right = t.right; quiet = t.quiet; still = t.still; even = t.even; ended = t.ended; unended = t.unended; mine = t.mine; unused = λ shut. absurd (true≢false shut); fresh = t.fresh }

pub member-give_up : (w : Window) (k : ℕ) (b : Block) (i : ℕ) → member (after_give_up w) k b i ≡ member w k b i
member-give_up w k b i = refl

pub tells-give_up : (geometry : Geometry) (w : Window) (l : List Entry) (d : ℕ) → d ≤ length l → Tells geometry w l d → Tells geometry (after_give_up w) l d
tells-give_up geometry w l d le t = record {
  right = t.right;
  even = λ p b low high free. t.even p b low high free ∙ sym (t.even (length l) b le (omega arith) free) ∙ ap (λ (n : ℕ). w.was_torn n b) (commits-drop_all l (length l) (omega arith));
  quiet = λ b i e. refl;
  still = λ p b i content low high e. back_at w.waiting (commits (drop p l)) content (undone w.draft content) b i (sym (ap (λ (o : Option ℕ). unwrap_or o (content b i)) (t.quiet b i e))) ∙ t.still p b i content low high e;
  ended = t.ended;
  unended = ends_unnamed l (suc w.tx) (t.fresh (suc w.tx) (omega arith));
  mine = λ b free. unnamed_by l (suc w.tx) b (t.fresh (suc w.tx) (omega arith));
  unused = λ closed. t.fresh (suc w.tx) (omega arith);
  fresh = λ u lt. t.fresh u (omega arith);
}

pub commits-drop_le : (l : List Entry) (p q : ℕ) → p ≤ q → commits (drop q l) ≤ commits (drop p l)
commits-drop_le [] zero zero le = omega arith
commits-drop_le [] zero (suc q) le = omega arith
commits-drop_le [] (suc p) zero le = omega arith
commits-drop_le [] (suc p) (suc q) le = omega arith
commits-drop_le (e ∷ l) zero zero le = omega arith
commits-drop_le (e ∷ l) zero (suc q) le = omega (arith, commits-drop_le l zero q (omega arith))
commits-drop_le (e ∷ l) (suc p) zero le = absurd (omega arith)
commits-drop_le (e ∷ l) (suc p) (suc q) le = commits-drop_le l p q (omega arith)

pub member-sync : (w : Window) (m k : ℕ) (b : Block) (i : ℕ) → k ≤ m → member (after_sync w m) k b i ≡ member w k b i
member-sync w m k b i le = ap (λ (c : AllBytes). c b i) (window-sync m w.waiting k (undone w.draft w.body) le)

-- fewer waiting commits, and more entries that are known durable
pub tells-sync : (geometry : Geometry) (w : Window) (m : ℕ) (l : List Entry) (d d' : ℕ) → d ≤ d' → ((p : ℕ) → d' ≤ p → commits (drop p l) ≤ m) → Tells geometry w l d → Tells geometry (after_sync w m) l d'
tells-sync geometry w m l d d' le few t = record {
  right = λ p b i v low high within claimed e. member-sync w m (commits (drop p l)) b i (few p low) ∙ t.right p b i v (omega arith) high within claimed e;
  quiet = t.quiet;
  still = λ p b i content low high e. ap (λ (c : AllBytes). c b i) (window-sync m w.waiting (commits (drop p l)) (undone w.draft content) (few p low)) ∙ t.still p b i content (omega arith) high e;
  even = λ p b low high free. t.even p b (omega arith) high free;
  ended = λ p b i low high within. t.ended p b i (omega arith) high within;
  unended = t.unended;
  mine = t.mine;
  unused = t.unused;
  fresh = t.fresh;
}

pub backs-sync : (geometry : Geometry) (w : Window) (m : ℕ) (l : List Entry) (d d' : ℕ) (sectors : SectorBytes) (b : Block) → d ≤ d' → ((p : ℕ) → d' ≤ p → commits (drop p l) ≤ m) → Backs geometry w l d sectors b → Backs geometry (after_sync w m) l d' sectors b
backs-sync geometry w m l d d' sectors b le few backs = λ p i j low high within inside claimed e. let x = backs p i j (omega arith) high within inside claimed e in (x.0 ∙ sym (member-sync w m (commits (drop p l)) b i (few p low)), x.1)

pub fits-sync : (geometry : Geometry) (w : Window) (m : ℕ) (l : List Entry) (d d' : ℕ) (sectors : SectorBytes) (b : Block) → d ≤ d' → ((p : ℕ) → d' ≤ p → commits (drop p l) ≤ m) → Fits geometry w l d sectors b → Fits geometry (after_sync w m) l d' sectors b
fits-sync geometry w m l d d' sectors b le few fits p i low high within claimed =
    moved_fit geometry b i (geometry.decode b sectors i) (member w (commits (drop p l)) b) (member (after_sync w m) (commits (drop p l)) b) (λ j. member-sync w m (commits (drop p l)) b j (few p low)) (fits p i (omega arith) high within claimed)
