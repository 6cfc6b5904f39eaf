-- What changes in a transaction make of which blocks are dirty or dead.
use Rattle.std.proofs.Common.{◌≡◌, subst, ℕ, Bool, true, false, cond, ◌||◌, List, [], ◌∷◌, Option, Some, None, refl, sym, ap, ◌∙◌, inl, inr}
use Rattle.std.specs.Prelude.{is_some}
use Rattle.std.specs.Option.{option_or}
use Rattle.std.specs.List.{AllByRecursion}
use Rattle.std.proofs.lemmas.Bool.{cases_Bool, or_from}
use Rattle.disk_model.specs.declared.block.Block.{Block}
use Rattle.disk_model.specs.declared.block.Body.{Body}
use Rattle.disk_model.specs.declared.block.Change.{Change}
use Rattle.disk_model.specs.Sectors.{same_block, are_rivals}
use Rattle.disk_model.proofs.Frames.{same_block-is}
use Rattle.turn_laws.proofs.store_model.Told.{true≢false, rivals_both, rivals_other}
use Rattle.turn_laws.specs.txn_model.declared.mark.Mark.{Mark}
use Rattle.turn_laws.specs.txn_model.Values.{StoreFacts}
use Rattle.turn_laws.specs.txn_model.Calls.{begun_facts, changed_facts, committed_facts, given_up_facts}
use Rattle.state_blocks.specs.Drafts.{is_changed}
use Rattle.state_store.specs.Changes.{AreBeside, AreApart}
use Rattle.state_store.specs.Logging.{ChangedBy, StoppedBy}
use Rattle.state_store.proofs.Lists.{each_weaker, or_parts}
use Rattle.state_store.specs.Claims.{NoRival}

-- so a rival of it isn't changed
pub rivals_unchanged : (xs : List Change) (b c : Block) → NoRival xs b → are_rivals b c ≡ true → is_changed xs c ≡ false
rivals_unchanged [] b c none rivals = refl
rivals_unchanged (x ∷ xs) b c none rivals = or_from (same_block c x.block) (is_changed xs c) other (rivals_unchanged xs b c none.1 rivals)
  where
    other : same_block c x.block ≡ false
    other = elim (cases_Bool (same_block c x.block)) [
      | inl same ↦ absurd (true≢false (sym rivals ∙ ap (are_rivals b) (same_block-is c x.block same) ∙ rivals_both b x.block ∙ none.0))
      | inr apart ↦ apart
    ]

-- ---- a mark by whether the block is this one, or a rival

spared_mark : (test : Mark → Bool) (s r : Bool) (one two m : Mark) → test one ≡ false → r ≡ false → test m ≡ false → test (cond s one (cond r two m)) ≡ false
spared_mark test true r one two m first none third = first
spared_mark test false true one two m first none third = absurd (true≢false none)
spared_mark test false false one two m first none third = third

other_mark : (test : Mark → Bool) (s r : Bool) (one two m : Mark) → s ≡ false → test two ≡ false → test m ≡ false → test (cond s one (cond r two m)) ≡ false
other_mark test true r one two m none second third = absurd (true≢false none)
other_mark test false true one two m none second third = second
other_mark test false false one two m none second third = third

rival_mark : (test : Mark → Bool) (s r : Bool) (one two m : Mark) → s ≡ false → r ≡ true → test two ≡ false → test (cond s one (cond r two m)) ≡ false
rival_mark test true r one two m none some second = absurd (true≢false none)
rival_mark test false true one two m none some second = second
rival_mark test false false one two m none some second = absurd (true≢false (sym some))

own_mark : (test : Mark → Bool) (s r : Bool) (one two m : Mark) → s ≡ true → test one ≡ false → test (cond s one (cond r two m)) ≡ false
own_mark test true r one two m some first = first
own_mark test false r one two m some first = absurd (true≢false (sym some))

other_body : (s : Bool) (x : Body) (o : Option Body) → s ≡ false → cond s (Some x) o ≡ o
other_body true x o none = absurd (true≢false none)
other_body false x o none = refl

-- ---- changes that were made

pub record Marked (xs : List Change) (f g : StoreFacts) : Type 0 where
  pub place : g.place ≡ f.place
  pub dead : (b : Block) → NoRival xs b → (f.mark b).dead ≡ false → (g.mark b).dead ≡ false
  pub dirty : (b : Block) → is_changed xs b ≡ false → (f.mark b).dirty ≡ false → (g.mark b).dirty ≡ false
  pub body : (b : Block) → is_changed xs b ≡ false → g.body b ≡ f.body b

marked_as : (xs : List Change) (f g h : StoreFacts) → g ≡ h → Marked xs f h → Marked xs f g
marked_as xs f g h same marked = subst (λ (x : StoreFacts). Marked xs f x) (sym same) marked

pub marked_by : (gives : Option (List (List ℕ))) (xs : List Change) (f g : StoreFacts) → ChangedBy gives xs f g → Marked xs f g
marked_by gives [] f g is = marked_as [] f g f is (record { place = refl; dead = λ b none d. d; dirty = λ b none d. d; body = λ b none. refl })
marked_by gives (x ∷ xs) f g is =
    let more = marked_by gives xs (changed_facts x.block x.offset x.new is.0 f) g is.2 in
    record {
      place = more.place;
      dead = λ b none d. more.dead b none.1 (spared_mark (λ m. m.dead) (same_block b x.block) (are_rivals x.block b) _ _ (f.mark b) refl none.0 d);
      dirty = λ b none d. (let parts = or_parts (same_block b x.block) (is_changed xs b) none in more.dirty b parts.1 (other_mark (λ m. m.dirty) (same_block b x.block) (are_rivals x.block b) _ _ (f.mark b) parts.0 refl d));
      body = λ b none. (let parts = or_parts (same_block b x.block) (is_changed xs b) none in more.body b parts.1 ∙ other_body (same_block b x.block) _ (f.body b) parts.0);
    }

commit_mark : (test : Mark → Bool) (t : Bool) (one m : Mark) → test one ≡ false → test m ≡ false → test (cond t one m) ≡ false
commit_mark test true one m first second = first
commit_mark test false one m first second = second

pub marked_committed : (gives : Option (List (List ℕ))) (xs : List Change) (f g : StoreFacts) → ((h : StoreFacts) × ChangedBy gives xs (begun_facts f) h × (g ≡ committed_facts h)) → Marked xs f g
marked_committed gives xs f g done =
    let more = marked_by gives xs (begun_facts f) done.0 done.1 in
    marked_as xs f g (committed_facts done.0) done.2
    (record {
      place = more.place;
      dead = λ b none d. commit_mark (λ m. m.dead) (is_some (done.0.before b)) _ (done.0.mark b) (more.dead b none d) (more.dead b none d);
      dirty = λ b none d. commit_mark (λ m. m.dirty) (is_some (done.0.before b)) _ (done.0.mark b) (more.dirty b none d) (more.dirty b none d);
      body = λ b none. more.body b none;
    })

-- ---- a block that was changed isn't dead, and no rival is dirty

pub record IsFresh (g : StoreFacts) (b : Block) : Type 0 where
  pub alive : (g.mark b).dead ≡ false
  pub alone : (c : Block) → are_rivals b c ≡ true → (g.mark c).dirty ≡ false

beside_none : (x : Change) (b : Block) (xs : List Change) → b ≡ x.block → AllByRecursion (λ (y : Change). AreBeside x.block y.block) xs → NoRival xs b
beside_none x b xs is all =
    each_weaker (λ (y : Change). AreBeside x.block y.block) (λ (y : Change). are_rivals y.block b ≡ false) (λ y beside. rivals_both y.block b ∙ ap (λ (c : Block). are_rivals c y.block) is ∙ beside.no_rival) xs all

pub fresh_by : (gives : Option (List (List ℕ))) (xs : List Change) (f g : StoreFacts) (b : Block) → AreApart xs → ChangedBy gives xs f g → is_changed xs b ≡ true → IsFresh g b
fresh_by gives [] f g b apart is some = absurd (true≢false (sym some))
fresh_by gives (x ∷ xs) f g b apart is some = by (same_block b x.block) refl some (λ changed. fresh_by gives xs (changed_facts x.block x.offset x.new is.0 f) g b apart.1 is.2 changed)
  where
    here : same_block b x.block ≡ true → IsFresh g b
    here same =
        let one = same_block-is b x.block same in
        let none = beside_none x b xs one apart.0 in
        let more = marked_by gives xs (changed_facts x.block x.offset x.new is.0 f) g is.2 in
        record {
          alive = more.dead b none (own_mark (λ m. m.dead) (same_block b x.block) (are_rivals x.block b) _ _ (f.mark b) same refl);
          alone = λ c rivals. more.dirty c (rivals_unchanged xs b c none rivals)
              (rival_mark (λ m. m.dirty) (same_block c x.block) (are_rivals x.block c) _ _ (f.mark c) (other c one rivals) (ap (λ (d : Block). are_rivals d c) (sym one) ∙ rivals) refl);
        }
      where
        other : (c : Block) → b ≡ x.block → are_rivals b c ≡ true → same_block c x.block ≡ false
        other c one rivals = elim (cases_Bool (same_block c x.block)) [
          | inl equal ↦ (let two : c ≡ b = same_block-is c x.block equal ∙ sym one in absurd (true≢false (sym rivals ∙ ap (are_rivals b) two ∙ rivals_other b)))
          | inr apart ↦ apart
        ]

    by : (t : Bool) → same_block b x.block ≡ t → (t || is_changed xs b) ≡ true → (is_changed xs b ≡ true → IsFresh g b) → IsFresh g b
    by true same changed more = here same
    by false same changed more = more changed

pub fresh_committed : (gives : Option (List (List ℕ))) (xs : List Change) (f g : StoreFacts) (b : Block) → AreApart xs → ((h : StoreFacts) × ChangedBy gives xs (begun_facts f) h × (g ≡ committed_facts h)) → is_changed xs b ≡ true → IsFresh g b
fresh_committed gives xs f g b apart done some =
    let fresh = fresh_by gives xs (begun_facts f) done.0 b apart done.1 some in
    subst (λ (h : StoreFacts). IsFresh h b) (sym done.2)
    (record {
      alive = commit_mark (λ m. m.dead) (is_some (done.0.before b)) _ (done.0.mark b) fresh.alive fresh.alive;
      alone = λ c rivals. commit_mark (λ m. m.dirty) (is_some (done.0.before c)) _ (done.0.mark c) (fresh.alone c rivals) (fresh.alone c rivals);
    })

-- ---- a transaction that was given up

pub record Stopped (xs : List Change) (f g : StoreFacts) : Type 0 where
  pub place : g.place ≡ f.place
  pub dead : (b : Block) → NoRival xs b → (f.mark b).dead ≡ false → (g.mark b).dead ≡ false
  pub dirty : (b : Block) → is_changed xs b ≡ false → f.before b ≡ None → (f.mark b).dirty ≡ false → (g.mark b).dirty ≡ false
  pub body : (b : Block) → is_changed xs b ≡ false → f.before b ≡ None → g.body b ≡ f.body b

none_before : (o : Option Body) → o ≡ None → is_some o ≡ false
none_before None is = refl
none_before (Some x) is = absurd cc

none_or : (o p : Option Body) → o ≡ None → option_or o p ≡ p
none_or None p is = refl
none_or (Some x) p is = absurd cc

kept_mark : (test : Mark → Bool) (t : Bool) (one m : Mark) → t ≡ false → test m ≡ false → test (cond t one m) ≡ false
kept_mark test true one m none second = absurd (true≢false none)
kept_mark test false one m none second = second

given_up : (xs : List Change) (f : StoreFacts) → Stopped xs f (given_up_facts f)
given_up xs f = record {
  place = refl;
  dead = λ b none d. commit_mark (λ m. m.dead) (is_some (f.before b)) _ (f.mark b) refl d;
  dirty = λ b none before d. kept_mark (λ m. m.dirty) (is_some (f.before b)) _ (f.mark b) (none_before (f.before b) before) d;
  body = λ b none before. none_or (f.before b) (f.body b) before;
}

stopped_as : (xs : List Change) (f g h : StoreFacts) → g ≡ h → Stopped xs f h → Stopped xs f g
stopped_as xs f g h same stopped = subst (λ (x : StoreFacts). Stopped xs f x) (sym same) stopped

pub stopped_by : (gives : Option (List (List ℕ))) (xs : List Change) (f g : StoreFacts) → StoppedBy gives xs f g → Stopped xs f g
stopped_by gives [] f g is = stopped_as [] f g (given_up_facts f) is (given_up [] f)
stopped_by gives (x ∷ xs) f g (inl is) = stopped_as (x ∷ xs) f g (given_up_facts f) is (given_up (x ∷ xs) f)
stopped_by gives (x ∷ xs) f g (inr is) =
    let more = stopped_by gives xs (changed_facts x.block x.offset x.new is.0 f) g is.2 in
    record {
      place = more.place;
      dead = λ b none d. more.dead b none.1 (spared_mark (λ m. m.dead) (same_block b x.block) (are_rivals x.block b) _ _ (f.mark b) refl none.0 d);
      dirty = λ b none before d.
          (let parts = or_parts (same_block b x.block) (is_changed xs b) none in
          more.dirty b parts.1 (other_body (same_block b x.block) _ (f.before b) parts.0 ∙ before) (other_mark (λ m. m.dirty) (same_block b x.block) (are_rivals x.block b) _ _ (f.mark b) parts.0 refl d));
      body = λ b none before.
          (let parts = or_parts (same_block b x.block) (is_changed xs b) none in
          more.body b parts.1 (other_body (same_block b x.block) _ (f.before b) parts.0 ∙ before) ∙ other_body (same_block b x.block) _ (f.body b) parts.0);
    }
