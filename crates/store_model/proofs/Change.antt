-- A change keeps what the log tells.
use Rattle.std.proofs.Common.{◌≡◌, ◌≢◌, ◌⊎◌, inl, inr, ℕ, ◌<◌, ◌≤◌, Bool, true, false, List, [], ◌∷◌, ◌++◌, length, take, drop, Option, Some, None, refl, sym, ◌∙◌, ap, subst, arith, length-append}
use Rattle.std.specs.Prelude.{◌||◌, ◌&&◌, ◌==◌, not, unwrap_or}
use Rattle.std.specs.Option.{option_or}
use Rattle.std.proofs.lemmas.List.{take_all, drop_all, take-append-le, drop-append-le}
use mathlib.Core.Path.{fun_ext}
use Rattle.log_model.specs.disk_model.declared.block.Block.{Block}
use Rattle.log_model.specs.disk_model.Sectors.{same_block}
use Rattle.log_model.specs.declared.entry.Entry.{Entry}
use Rattle.log_model.specs.Logs.{updates, covers, redo_byte, undo_byte, is_ended, first_undo, told, last_said}
use Rattle.log_model.specs.StoreLaws.{told_with, is_named}
use Rattle.log_model.proofs.Telling.{told_with-redo, told_with-other, told_with-open, told_longer, silent_rest, none_left, none_right, none_both, first_undo-append}
use Rattle.store_model.specs.Logs.{AllBytes, IsUpdate, commits, undone, back, changed, IsClaimed, has_update, has_by, ended_with}
use Rattle.store_model.specs.Geometry.{SectorBytes, Geometry, Shows}
use Rattle.store_model.specs.Stores.{Window, member, Tells, Backs, Fits, IsReadyAt}
use Rattle.store_model.specs.Events.{after_change, IsChange}
use Rattle.store_model.proofs.Told.{true≢false, ends-update, ends_own, names_more, apart, commits-append, says, says_open, claimed_shorter, ended_shorter, or_left, updates_is, no_commit}
use Rattle.store_model.proofs.Lost.{has_front, has_back, has_by-append, moved_fit}
use Rattle.store_model.proofs.Window.{window-change, back-zero, undone-append, back_at}

-- a beginning of a list that is one longer is a beginning of the list, or all of it
pub longer : (P : ℕ → Type 0) (l : List Entry) (e : Entry) (p : ℕ) → p ≤ length (l ++ e ∷ []) → (p ≤ length l → P p) → (p ≡ length (l ++ e ∷ []) → P p) → P p
longer P l e p high before all = elim cases [ inl h ↦ before h | inr h ↦ all h ]
  where
    cases : (p ≤ length l) ⊎ (p ≡ length (l ++ e ∷ []))
    cases = grind (arith, length-append l (e ∷ []))

-- what the whole list tells is the content now
pub right_now : (geometry : Geometry) (w : Window) (l : List Entry) (d : ℕ) → Tells geometry w l d → d ≤ length l → (b : Block) (i v : ℕ) → i < geometry.size b → IsClaimed l b → told l b i ≡ Some v → undone w.draft w.body b i ≡ v
right_now geometry w l d tells le b i v within claimed e =
    let all : take (length l) l ≡ l = take_all (length l) l (omega arith) in
    let told' : told (take (length l) l) b i ≡ Some v = ap (λ (xs : List Entry). told xs b i) all ∙ e in
    let claimed' : IsClaimed (take (length l) l) b = subst (λ (xs : List Entry). IsClaimed xs b) (sym all) claimed in
    let none : commits (drop (length l) l) ≡ 0 = ap commits (drop_all (length l) l (omega arith)) in
    sym (ap (λ (c : AllBytes). c b i) (back-zero w.waiting (undone w.draft w.body))) ∙ ap (λ (n : ℕ). member w n b i) (sym none) ∙ tells.right (length l) b i v le (omega arith) within claimed' told'

pub member-change : (w : Window) (c : Block) (up : Entry) → IsChange w c up → (k : ℕ) (b : Block) (i : ℕ) → member (after_change w c up) k b i ≡ member w k b i
member-change w c up old k b i = ap (λ (content : AllBytes). back w.waiting k content b i) (window-change w.draft up w.body old.old)

pub commits-drop_update : (l : List Entry) (t : ℕ) (c : Block) (up : Entry) → IsUpdate t c up → (p : ℕ) → p ≤ length l → commits (drop p (l ++ up ∷ [])) ≡ commits (drop p l)
commits-drop_update l t c up is p le = ap commits (drop-append-le p l (up ∷ []) le) ∙ commits-append (drop p l) (up ∷ []) ∙ omega (arith, none)
  where
    none : commits (up ∷ []) ≡ 0
    none = rw (no_commit up.act c is.block) refl

pub commits-drop_all : (l : List Entry) (p : ℕ) → length l ≤ p → commits (drop p l) ≡ 0
commits-drop_all l p le = ap commits (drop_all p l le)

module _ (geometry : Geometry) (w : Window) (l : List Entry) (d : ℕ) (le : d ≤ length l) (t : Tells geometry w l d) (is_open : w.is_open ≡ true) (c : Block) (up : Entry) (old : IsChange w c up) where
  -- the longer list has the same ended transactions
  ended_same : is_ended (l ++ up ∷ []) ≡ is_ended l
  ended_same = ends-update l w.tx c up old.update

  unended_up : is_ended l up.tx ≡ false
  unended_up = ap (is_ended l) old.update.by ∙ t.unended

  open_says : (b : Block) → (says (is_ended l) up b ≡ None) ⊎ (says (is_ended l) up b ≡ Some true)
  open_says b = says_open (is_ended l) up b unended_up

  same_as : (b : Block) → updates b up.act ≡ same_block b c
  same_as b = updates_is up.act b c old.update.block

  claimed_before : (b : Block) → IsClaimed (l ++ up ∷ []) b → IsClaimed l b
  claimed_before b claimed = claimed_shorter (is_ended l) l up b (open_says b)
      (λ is. claimed (ap (λ (f : ℕ → Bool). last_said f (l ++ up ∷ []) b) ended_same ∙ is))

  -- and tells what the list told, or the byte before the change
  told_all : (b : Block) (i v : ℕ) → i < geometry.size b → IsClaimed (l ++ up ∷ []) b → told (l ++ up ∷ []) b i ≡ Some v → undone w.draft w.body b i ≡ v
  told_all b i v within claimed e = go (covers b i up.act) refl
    where
      e' : told_with (is_ended l) (l ++ up ∷ []) b i ≡ Some v
      e' = sym (ap (λ (f : ℕ → Bool). told_with f (l ++ up ∷ []) b i) ended_same) ∙ e

      went : (o : Option ℕ) → told l b i ≡ o → option_or o (Some (undo_byte up.act i)) ≡ Some v → (first_undo w.draft b i ≡ None → undo_byte up.act i ≡ w.body b i) → undone w.draft w.body b i ≡ v
      went (Some x) h k o = right_now geometry w l d t le b i v within (claimed_before b claimed) (h ∙ k)
      went None h k o = let value : undo_byte up.act i ≡ v = cc in rw (t.quiet b i h) (sym (o (t.quiet b i h)) ∙ value)

      go : (v' : Bool) → covers b i up.act ≡ v' → undone w.draft w.body b i ≡ v
      go true h = went (told l b i) refl (sym (told_with-open (is_ended l) l up b i h unended_up) ∙ e') (old.old b i h)
      go false h = right_now geometry w l d t le b i v within (claimed_before b claimed) (sym (told_with-other (is_ended l) l up b i h) ∙ e')

  still_told : (b : Block) (i : ℕ) → told (l ++ up ∷ []) b i ≡ None → told l b i ≡ None
  still_told b i e = told_longer l (up ∷ []) b i e

  undo_silent : (b : Block) (i : ℕ) → told (l ++ up ∷ []) b i ≡ None → first_undo (up ∷ []) b i ≡ None
  undo_silent b i e = none_right (first_undo l b i) (first_undo (up ∷ []) b i)
      (sym (first_undo-append l (up ∷ []) b i) ∙ silent_rest (is_ended (l ++ up ∷ [])) (l ++ up ∷ []) b i e)

  quiet_all : (b : Block) (i : ℕ) → told (l ++ up ∷ []) b i ≡ None → first_undo (w.draft ++ up ∷ []) b i ≡ None
  quiet_all b i e = first_undo-append w.draft (up ∷ []) b i ∙ none_both _ _ (t.quiet b i (still_told b i e)) (undo_silent b i e)

  members : (k : ℕ) (b : Block) (i : ℕ) → member (after_change w c up) k b i ≡ member w k b i
  members = member-change w c up old

  now : (b : Block) (i : ℕ) → member (after_change w c up) (commits (drop (length (l ++ up ∷ [])) (l ++ up ∷ []))) b i ≡ undone w.draft w.body b i
  now b i = ap (λ (n : ℕ). member (after_change w c up) n b i) (commits-drop_all (l ++ up ∷ []) (length (l ++ up ∷ [])) (omega arith))
      ∙ members 0 b i ∙ ap (λ (content : AllBytes). content b i) (back-zero w.waiting (undone w.draft w.body))

  before : (p : ℕ) (b : Block) (i : ℕ) → p ≤ length l → member (after_change w c up) (commits (drop p (l ++ up ∷ []))) b i ≡ member w (commits (drop p l)) b i
  before p b i h = ap (λ (n : ℕ). member (after_change w c up) n b i) (commits-drop_update l w.tx c up old.update p h) ∙ members (commits (drop p l)) b i

  -- the members are those of a body that the update hasn't touched
  still_all : (k : ℕ) (b : Block) (i : ℕ) (content : AllBytes) → first_undo (up ∷ []) b i ≡ None → back w.waiting k (undone (w.draft ++ up ∷ []) content) b i ≡ back w.waiting k (undone w.draft content) b i
  still_all k b i content none = ap (λ (x : AllBytes). back w.waiting k x b i) (undone-append w.draft (up ∷ []) content)
      ∙ back_at w.waiting k (undone w.draft (undone (up ∷ []) content)) (undone w.draft content) b i (rw none refl)

  f_same : ended_with w.tx (l ++ up ∷ []) ≡ ended_with w.tx l
  f_same = fun_ext (λ u. ap (λ (g : ℕ → Bool). g u || (u == w.tx)) ended_same)

  -- a byte that is ready stays so, and a byte that is changed becomes so
  pub ready-change : (b : Block) (i : ℕ) → IsReadyAt w l b i ⊎ (covers b i up.act ≡ true) → IsReadyAt (after_change w c up) (l ++ up ∷ []) b i
  ready-change b i was v e = go (covers b i up.act) refl was
    where
      f : ℕ → Bool
      f = ended_with w.tx (l ++ up ∷ [])

      e' : told_with f (l ++ up ∷ []) b i ≡ Some v
      e' = e

      f_own : f up.tx ≡ true
      f_own = ap f old.update.by ∙ ends_own (l ++ up ∷ []) w.tx

      same_some : Some (redo_byte up.act i) ≡ Some v → redo_byte up.act i ≡ v
      same_some k = cc

      go : (v' : Bool) → covers b i up.act ≡ v' → IsReadyAt w l b i ⊎ (covers b i up.act ≡ true) → changed up w.body b i ≡ v
      go true h x = let k : Some (redo_byte up.act i) ≡ Some v = sym (told_with-redo f l up b i h f_own) ∙ e' in rw h (same_some k)
      go false h (inl ready) = rw h (ready v (ap (λ (g : ℕ → Bool). told_with g l b i) (sym f_same) ∙ sym (told_with-other f l up b i h) ∙ e'))
      go false h (inr k) = absurd (true≢false (sym k ∙ h))

  abbrev l' : List Entry
  l' = l ++ up ∷ []

  cut : (p : ℕ) → p ≤ length l → take p l' ≡ take p l
  cut p h = take-append-le p l (up ∷ []) h

  whole_list : (p : ℕ) → p ≡ length l' → take p l' ≡ l'
  whole_list p h = take_all p l' (omega arith)

  pub tells-change : Tells geometry (after_change w c up) (l ++ up ∷ []) d
  tells-change = record {
    right = λ p b i v low high within. longer (λ p. IsClaimed (take p l') b → told (take p l') b i ≡ Some v → member (after_change w c up) (commits (drop p l')) b i ≡ v) l up p high
        (λ h claimed e. before p b i h ∙ t.right p b i v low h within (subst (λ (xs : List Entry). IsClaimed xs b) (cut p h) claimed) (ap (λ (xs : List Entry). told xs b i) (sym (cut p h)) ∙ e))
        (λ h claimed e. ap (λ (p : ℕ). member (after_change w c up) (commits (drop p l')) b i) h ∙ now b i
        ∙ told_all b i v within (subst (λ (xs : List Entry). IsClaimed xs b) (whole_list p h) claimed) (ap (λ (xs : List Entry). told xs b i) (sym (whole_list p h)) ∙ e));
    quiet = quiet_all;
    still = λ p b i content low high e. still_all (commits (drop p l')) b i content (undo_silent b i e) ∙ longer (λ p. back w.waiting (commits (drop p l')) (undone w.draft content) b i ≡ content b i) l up p high
        (λ h. ap (λ (n : ℕ). back w.waiting n (undone w.draft content) b i) (commits-drop_update l w.tx c up old.update p h) ∙ t.still p b i content low h (still_told b i e))
        (λ h. ap (λ (n : ℕ). back w.waiting n (undone w.draft content) b i) (commits-drop_all l' p (omega arith)) ∙ ap (λ (x : AllBytes). x b i) (back-zero w.waiting (undone w.draft content)) ∙ ap (λ (o : Option ℕ). unwrap_or o (content b i)) (t.quiet b i (still_told b i e)));
    even = λ p b low high free. longer (λ p. w.was_torn (commits (drop p l')) b ≡ (not (same_block b c) && w.is_torn b)) l up p high
        (λ h. ap (λ (n : ℕ). w.was_torn n b) (commits-drop_update l w.tx c up old.update p h) ∙ t.even p b low h (has_front l (up ∷ []) b free) ∙ same_torn b free)
        (λ h. ap (λ (n : ℕ). w.was_torn n b) (commits-drop_all l' p (omega arith) ∙ sym (commits-drop_all l (length l) (omega arith))) ∙ t.even (length l) b le (omega arith) (has_front l (up ∷ []) b free) ∙ same_torn b free);
    ended = λ p b i low high within. longer (λ p. last_said (is_ended (take p l')) (take p l') b ≡ Some false → first_undo (take p l') b i ≢ None) l up p high
        (λ h is none. t.ended p b i low h within (ap (λ (xs : List Entry). last_said (is_ended xs) xs b) (sym (cut p h)) ∙ is) (ap (λ (xs : List Entry). first_undo xs b i) (sym (cut p h)) ∙ none))
        (λ h is none. t.ended (length l) b i le (omega arith) within
        (ap (λ (xs : List Entry). last_said (is_ended xs) xs b) (take_all (length l) l (omega arith)) ∙ ended_shorter (is_ended l) l up b (open_says b)
        (sym (ap (λ (f : ℕ → Bool). last_said f l' b) ended_same) ∙ ap (λ (xs : List Entry). last_said (is_ended xs) xs b) (sym (whole_list p h)) ∙ is))
        (ap (λ (xs : List Entry). first_undo xs b i) (take_all (length l) l (omega arith)) ∙ none_left (first_undo l b i) (first_undo (up ∷ []) b i) (sym (first_undo-append l (up ∷ []) b i) ∙ ap (λ (xs : List Entry). first_undo xs b i) (sym (whole_list p h)) ∙ none)));
    unended = ap (λ (f : ℕ → Bool). f w.tx) ended_same ∙ t.unended;
    mine = λ b free. mine b (t.mine b (has_front w.draft (up ∷ []) b free)) (or_left (updates b up.act) false (has_back w.draft (up ∷ []) b free));
    unused = λ closed. absurd (true≢false (sym is_open ∙ closed));
    fresh = λ u lt. names-update u lt;
  }
    where
      mine : (b : Block) → has_by l w.tx b ≡ false → updates b up.act ≡ false → has_by (l ++ up ∷ []) w.tx b ≡ false
      mine b h k = has_by-append l (up ∷ []) w.tx b ∙ rw (h, k) (none (up.tx == w.tx))
        where
          none : (v : Bool) → ((v && false) || false) ≡ false
          none true = refl
          none false = refl

      same_torn : (b : Block) → has_update l' b ≡ false → w.is_torn b ≡ (not (same_block b c) && w.is_torn b)
      same_torn b free = rw (sym (same_as b) ∙ or_left (updates b up.act) false (has_back l (up ∷ []) b free)) refl

      names-update : (u : ℕ) → w.tx < u → is_named (l ++ up ∷ []) u ≡ false
      names-update u lt = names_more l up u (t.fresh u lt) (ap (λ (n : ℕ). n == u) old.update.by ∙ apart u w.tx lt)

  pub backs-change : (sectors : SectorBytes) (b : Block) → Backs geometry w l d sectors b → Backs geometry (after_change w c up) (l ++ up ∷ []) d sectors b
  backs-change sectors b backs = λ p i j low high within inside. longer (λ p. IsClaimed (take p l') b → told (take p l') b j ≡ None → Shows geometry sectors b i (member (after_change w c up) (commits (drop p l'))) (w.was_torn (commits (drop p l')))) l up p high
      (λ h claimed e. let x = backs p i j low h within inside (subst (λ (xs : List Entry). IsClaimed xs b) (cut p h) claimed) (ap (λ (xs : List Entry). told xs b j) (sym (cut p h)) ∙ e) in
      (x.0 ∙ sym (before p b i h), λ torn. ap (λ (n : ℕ). w.was_torn n b) (commits-drop_update l w.tx c up old.update p h) ∙ x.1 torn))
      (λ h claimed e. let none : told l b j ≡ None = still_told b j (ap (λ (xs : List Entry). told xs b j) (sym (whole_list p h)) ∙ e) in
      let all : take (length l) l ≡ l = take_all (length l) l (omega arith) in
      let x = backs (length l) i j le (omega arith) within inside (subst (λ (xs : List Entry). IsClaimed xs b) (sym all) (claimed_before b (subst (λ (xs : List Entry). IsClaimed xs b) (whole_list p h) claimed))) (ap (λ (xs : List Entry). told xs b j) all ∙ none) in (
        x.0 ∙ ap (λ (n : ℕ). member w n b i) (commits-drop_all l (length l) (omega arith)) ∙ ap (λ (content : AllBytes). content b i) (back-zero w.waiting (undone w.draft w.body))
            ∙ sym (now b i) ∙ ap (λ (p : ℕ). member (after_change w c up) (commits (drop p l')) b i) (sym h),
        λ torn. ap (λ (n : ℕ). w.was_torn n b) (commits-drop_all l' p (omega arith) ∙ sym (commits-drop_all l (length l) (omega arith))) ∙ x.1 torn,
      ))

  pub fits-change : (sectors : SectorBytes) (b : Block) → Fits geometry w l d sectors b → Fits geometry (after_change w c up) (l ++ up ∷ []) d sectors b
  fits-change sectors b fits = λ p i low high within. longer (λ p. IsClaimed (take p l') b → (geometry.has_spelling b (member (after_change w c up) (commits (drop p l')) b) ≡ true) ⊎ (geometry.decode b sectors i ≡ member (after_change w c up) (commits (drop p l')) b i)) l up p high
      (λ h claimed. moved_fit geometry b i (geometry.decode b sectors i) (member w (commits (drop p l)) b) (member (after_change w c up) (commits (drop p l')) b) (λ j. before p b j h)
      (fits p i low h within (subst (λ (xs : List Entry). IsClaimed xs b) (cut p h) claimed)))
      (λ h claimed. moved_fit geometry b i (geometry.decode b sectors i) (member w (commits (drop (length l) l)) b) (member (after_change w c up) (commits (drop p l')) b)
      (λ j. ap (λ (p : ℕ). member (after_change w c up) (commits (drop p l')) b j) h ∙ now b j ∙ sym (ap (λ (content : AllBytes). content b j) (back-zero w.waiting (undone w.draft w.body))) ∙ ap (λ (n : ℕ). member w n b j) (sym (commits-drop_all l (length l) (omega arith))))
      (fits (length l) i le (omega arith) within (subst (λ (xs : List Entry). IsClaimed xs b) (sym (take_all (length l) l (omega arith))) (claimed_before b (subst (λ (xs : List Entry). IsClaimed xs b) (whole_list p h) claimed)))))
