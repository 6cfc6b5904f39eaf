-- Blocks that are counted, and what a store tells of them.
use Rattle.std.proofs.Common.{◌≡◌, ℕ, ◌+◌, ◌<◌, ◌≤◌, Bool, true, false, cond, List, [], ◌∷◌, length, Some, None, refl, sym, ap, ◌∙◌, inl, inr, arith}
use Rattle.std.specs.Prelude.{◌==◌, ◌&&◌, ◌||◌, not, nat_le, count_by, is_some}
use Rattle.std.proofs.lemmas.Bool.{cases_Bool, eq-eqb, and_from, le-leb}
use Rattle.std.proofs.lemmas.List.Sums.{sum_by-cons}
use Rattle.area_laws.specs.disk_model.declared.block.Block.{Block}
use Rattle.area_laws.specs.disk_model.declared.block.BlockKind.{BlockKind}
use Rattle.area_laws.specs.disk_model.declared.block.BlockKind.TheVariants.{Plain, FileRec, Index}
use Rattle.area_laws.specs.disk_model.Sectors.{same_block, same_kind}
use Rattle.area_laws.proofs.disk_model.Frames.{same_block-is}
use Rattle.store_claims.proofs.store_model.Told.{true≢false}
use Rattle.txn_model.specs.flush_policy.declared.facts.Facts.{Facts}
use Rattle.txn_model.specs.flush_policy.Steps.{IsSynced, CanBe}
use Rattle.txn_model.specs.Values.{StoreFacts}
use Rattle.txn_model.specs.Calls.{is_ready}
use Rattle.txn_model.specs.Told.{is_left, pages_end, AreDirty, FactsTold, KeepsMarked}
use Rattle.txn_laws.proofs.Choosing.{first_of}

abbrev count : Block → List Block → ℕ
count b xs = count_by (same_block b) xs

count_cons : (b x : Block) (xs : List Block) → count b (x ∷ xs) ≡ cond (same_block b x) 1 0 + count b xs
count_cons b x xs = sum_by-cons (λ (y : Block). cond {A = ℕ} (same_block b y) 1 0) x xs

-- the list without the block's first place
abbrev pub take_out : Block → List Block → List Block
take_out b [] = []
take_out b (y ∷ ys) = cond (same_block b y) ys (y ∷ take_out b ys)

behind : (v : Bool) (n : ℕ) → v ≡ false → 0 < cond v 1 0 + n → 0 < n
behind true n e lt = absurd (true≢false e)
behind false n e lt = omega (arith, lt)

pub out_length : (b : Block) (ys : List Block) → 0 < count b ys → length (take_out b ys) + 1 ≡ length ys
out_length b [] lt = absurd (omega (arith, lt))
out_length b (y ∷ ys) lt = by (λ less. out_length b ys less) (same_block b y) refl
  where
    by : (0 < count b ys → length (take_out b ys) + 1 ≡ length ys) → (v : Bool) → same_block b y ≡ v → length (cond v ys (y ∷ take_out b ys)) + 1 ≡ length (y ∷ ys)
    by more true e = omega arith
    by more false e = let rest = more (behind (same_block b y) (count b ys) e (omega (arith, lt, count_cons b y ys))) in omega (arith, rest)

pub out_count : (b c : Block) (ys : List Block) → 0 < count b ys → count c (take_out b ys) + cond (same_block c b) 1 0 ≡ count c ys
out_count b c [] lt = absurd (omega (arith, lt))
out_count b c (y ∷ ys) lt = by (λ less. out_count b c ys less) (same_block b y) refl
  where
    by : (0 < count b ys → count c (take_out b ys) + cond (same_block c b) 1 0 ≡ count c ys) → (v : Bool) → same_block b y ≡ v → count c (cond v ys (y ∷ take_out b ys)) + cond (same_block c b) 1 0 ≡ count c (y ∷ ys)
    by more true e = let same : ◌≡◌ {A = ℕ} (cond (same_block c b) 1 0) (cond (same_block c y) 1 0) = ap (λ (z : Block). cond (same_block c z) 1 0) (same_block-is b y e) in omega (arith, same, count_cons c y ys)
    by more false e = let rest = more (behind (same_block b y) (count b ys) e (omega (arith, lt, count_cons b y ys))) in omega (arith, rest, count_cons c y ys, count_cons c y (take_out b ys))

same_as_itself : (b : Block) → same_block b b ≡ true
same_as_itself b = and_from (b.first == b.first) (same_kind b.kind b.kind) (eq-eqb b.first b.first refl) (self b.kind)
  where
    self : (k : BlockKind) → same_kind k k ≡ true
    self Plain = refl
    self FileRec = refl
    self Index = refl

counted_here : (x : Block) (xs : List Block) → 0 < count x (x ∷ xs)
counted_here x xs = let one : ◌≡◌ {A = ℕ} (cond (same_block x x) 1 0) 1 = ap (λ (v : Bool). cond v 1 0) (same_as_itself x) in omega (arith, one, count_cons x x xs)

-- a list that has no block more often than another one isn't longer
pub fewer : (xs ys : List Block) → ((b : Block) → count b xs ≤ count b ys) → length xs ≤ length ys
fewer [] ys le = omega arith
fewer (x ∷ xs) ys le =
    let own = le x in
    let here : 0 < count x ys = omega (arith, own, counted_here x xs) in
    let rest = fewer xs (take_out x ys) (λ b. let more = le b in omega (arith, more, out_count x b ys here, count_cons b x xs)) in
    omega (arith, rest, out_length x ys here)

some_long : (b : Block) (xs : List Block) → 0 < count b xs → 0 < length xs
some_long b [] lt = absurd (omega (arith, lt))
some_long b (x ∷ xs) lt = omega arith

one_of : (v : Bool) → v ≡ true → ◌≡◌ {A = ℕ} (cond v 1 0) 1
one_of true e = refl
one_of false e = absurd (true≢false (sym e))

at_least : (v : Bool) → 0 < cond v 1 0 → v ≡ true
at_least true lt = refl
at_least false lt = absurd (omega (arith, lt))

module _ (f : StoreFacts) (told : Facts) (dirty : List Block) (keeps : KeepsMarked f) (says : FactsTold f told) (are : AreDirty f dirty) (shut : f.is_open ≡ false) where
  no_page : told.filling ≡ false → pages_end f ≡ f.log.sealed
  no_page filling = ap (λ (v : Bool). f.log.sealed + cond v 1 0) (sym says.filling ∙ filling) ∙ (let e : f.log.sealed + 0 ≡ f.log.sealed = omega arith in e)

  all_durable : IsSynced told → f.log.sealed ≤ f.log.synced
  all_durable synced = let pages = (says.synced synced.unsynced).pages in omega (arith, pages, synced.sealed, says.sealed)

  ready_is : told.filling ≡ false → IsSynced told → (b : Block) → (f.mark b).dirty ≡ true → is_ready f b ≡ true
  ready_is filling synced b is =
      let durable = keeps.all (sym says.filling ∙ filling) (all_durable synced) in
      let commit : (f.mark b).commit ≤ f.durable = omega (arith, durable, keeps.commit b) in
      let until : (f.mark b).until ≤ f.log.synced = omega (arith, all_durable synced, no_page filling, keeps.until b) in
      and_from ((f.mark b).dirty && not (is_some (f.before b)) && nat_le (f.mark b).commit f.durable) (nat_le (f.mark b).until f.log.synced)
      (and_from ((f.mark b).dirty && not (is_some (f.before b))) (nat_le (f.mark b).commit f.durable)
      (and_from (f.mark b).dirty (not (is_some (f.before b))) is (ap not (keeps.closed shut b))) (le-leb (f.mark b).commit f.durable commit))
      (le-leb (f.mark b).until f.log.synced until)

  ready_some : (b : Block) → told.ready ≡ Some b → 0 < length dirty
  ready_some b is =
      let marked = first_of (f.mark b).dirty (not (is_some (f.before b))) (nat_le (f.mark b).commit f.durable) (nat_le (f.mark b).until f.log.synced) (says.ready b is) in
      let one = one_of (f.mark b).dirty marked in
      some_long b dirty (omega (arith, one, are b))

  none_waits : told.filling ≡ false → IsSynced told → told.ready ≡ None → (xs : List Block) → AreDirty f xs → length xs ≡ 0
  none_waits filling synced none [] counts = refl
  none_waits filling synced none (x ∷ xs) counts =
      let marked = at_least (f.mark x).dirty (omega (arith, counts x, counted_here x xs)) in
      absurd (true≢false (sym (ready_is filling synced x marked) ∙ says.none_ready none x))

  left_dirty : told.filling ≡ false → IsSynced told → (b : Block) → is_left (f.mark b) ≡ true → (f.mark b).dirty ≡ true
  left_dirty filling synced b is = by_owed (f.mark b).owed refl (f.mark b).dead refl
    where
      or_none : (u v : Bool) → u ≡ false → (u || v) ≡ true → v ≡ true
      or_none true v e is = absurd (true≢false e)
      or_none false v e is = is

      or_other : (u v : Bool) → v ≡ false → (u || v) ≡ true → u ≡ true
      or_other true v e is = refl
      or_other false v e is = absurd (true≢false (sym is ∙ e))

      by_owed : (v : Bool) → (f.mark b).owed ≡ v → (u : Bool) → (f.mark b).dead ≡ u → (f.mark b).dirty ≡ true
      by_owed true owed true dead = let killed = keeps.killed b dead in absurd (omega (arith, killed.0, killed.1, all_durable synced, no_page filling))
      by_owed true owed false alive = or_other (f.mark b).dirty (f.mark b).dead alive (keeps.owed b owed)
      by_owed false none u dead = absurd (true≢false (sym (keeps.due b (or_none (f.mark b).owed (f.mark b).due none is)) ∙ (says.synced synced.unsynced).dry b))

  few_left : told.filling ≡ false → IsSynced told → told.noted_left ≤ length dirty
  few_left filling synced = let few = fewer says.left dirty each in omega (arith, few, says.noted_left)
    where
      each : (b : Block) → count b says.left ≤ count b dirty
      each b = elim (cases_Bool (is_left (f.mark b))) [
        | inl is ↦ (let one = one_of (f.mark b).dirty (left_dirty filling synced b is) in let left : ◌≡◌ {A = ℕ} (cond (is_left (f.mark b)) 1 0) 1 = ap (λ (v : Bool). cond v 1 0) is in omega (arith, one, left, says.are_left b, are b))
        | inr none ↦ (let left : ◌≡◌ {A = ℕ} (cond (is_left (f.mark b)) 1 0) 0 = ap (λ (v : Bool). cond v 1 0) none in omega (arith, left, says.are_left b))
      ]

  pub told_can_be : CanBe (length dirty) told
  told_can_be = record { ready = ready_some; waits = λ filling synced none. none_waits filling synced none dirty are; noted = λ filling synced begun. few_left filling synced }
