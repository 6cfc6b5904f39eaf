-- Walks over the blocks that have marks, in their order.
use Rattle.std.proofs.Common.{◌≡◌, subst, ℕ, ◌+◌, ◌-◌, ◌^◌, ◌<◌, ◌≤◌, Bool, true, false, not, cond, List, [], ◌∷◌, length, Option, Some, None, refl, sym, ap, ◌∙◌, inl, inr, arith}
use Rattle.std.specs.Prelude.{◌&&◌, nat_le, nat_lt, min, count_by, is_some, unwrap_or}
use Rattle.std.proofs.lemmas.Bool.{cases_Bool, cases_lt, lt-ltb, le-ltb}
use Rattle.std.proofs.lemmas.List.Sums.{sum_by-cons}
use Rattle.device_blocks.specs.disk_model.declared.block.Block.{Block}
use Rattle.device_blocks.specs.disk_model.Sectors.{same_block}
use Rattle.device_blocks.proofs.disk_model.Frames.{same_block-is}
use Rattle.txn_state.proofs.txn_log.Sharing.{same_self}
use Rattle.txn_laws.proofs.store_model.Told.{true≢false}
use Rattle.txn_laws.specs.block_pool.Numbers.{block_number, block_at}
use Rattle.txn_laws.specs.block_pool.Pools.{held, passes, IsNextFrom, NoneFrom}
use Rattle.txn_laws.proofs.block_pool.Ordering.{at_number}
use Rattle.txn_state.specs.store_pools.Pools.{marks_of}
use Rattle.txn_laws.specs.txn_model.declared.mark.Mark.{Mark}
use Rattle.txn_laws.specs.txn_model.Values.{no_mark, StoreFacts}
use Rattle.txn_laws.specs.txn_model.Calls.{is_ready}
use Rattle.txn_laws.specs.txn_model.Told.{is_left}
use Rattle.txn_core.specs.Tells.{is_durable, TellsLeft, IsLowestFrom, IsLowest}

-- blocks with one number are the same
one_number : (b c : Block) → block_number b ≡ block_number c → b ≡ c
one_number b c e = sym (at_number b) ∙ ap block_at e ∙ at_number c

-- ---- blocks whose marks don't pass

-- a mark that passes
marked : (test : Mark → Bool) (o : Option Mark) → passes test o ≡ true → test (unwrap_or o no_mark) ≡ true
marked test (Some m) is = is
marked test None is = absurd (true≢false (sym is))

unmarked : (test : Mark → Bool) → test no_mark ≡ false → (o : Option Mark) → passes test o ≡ false → test (unwrap_or o no_mark) ≡ false
unmarked test clean (Some m) isnt = isnt
unmarked test clean None isnt = clean

-- a block that is ready has a mark of which the changes are durable
four : (t u v w : Bool) → (t && v && w) ≡ false → (t && u && v && w) ≡ false
four false u v w e = refl
four true false v w e = refl
four true true v w e = e

all_four : (t u v w : Bool) → (t && v && w) ≡ true → u ≡ true → (t && u && v && w) ≡ true
all_four t true v w e is = four_on t v w ∙ e
  where
    four_on : (t v w : Bool) → (t && true && v && w) ≡ (t && v && w)
    four_on true v w = refl
    four_on false v w = refl
all_four t false v w e is = absurd (true≢false (sym is))

module _ (f : StoreFacts) (es : List (Block × Mark)) (c : Block) (marks : f.mark ≡ marks_of es) where
  mark_is : f.mark c ≡ marks_of es c
  mark_is = ap (λ (g : Block → Mark). g c) marks

  pub ready_held : passes (is_durable f.durable f.log.synced) (held es c) ≡ false → is_ready f c ≡ false
  ready_held isnt = four (f.mark c).dirty (not (is_some (f.before c))) (nat_le (f.mark c).commit f.durable) (nat_le (f.mark c).until f.log.synced) (ap (is_durable f.durable f.log.synced) mark_is ∙ unmarked (is_durable f.durable f.log.synced) refl (held es c) isnt)

  pub held_ready : passes (is_durable f.durable f.log.synced) (held es c) ≡ true → is_some (f.before c) ≡ false → is_ready f c ≡ true
  held_ready is unchanged =
      all_four (f.mark c).dirty (not (is_some (f.before c))) (nat_le (f.mark c).commit f.durable) (nat_le (f.mark c).until f.log.synced)
      (ap (is_durable f.durable f.log.synced) mark_is ∙ marked (is_durable f.durable f.log.synced) (held es c) is) (ap not unchanged)

  changed_not_ready : (t u v w : Bool) → u ≡ true → (t && not u && v && w) ≡ false
  changed_not_ready false u v w e = refl
  changed_not_ready true true v w e = refl
  changed_not_ready true false v w e = absurd (true≢false (sym e))

  pub changed_isnt : is_some (f.before c) ≡ true → is_ready f c ≡ false
  changed_isnt changed = changed_not_ready (f.mark c).dirty (is_some (f.before c)) (nat_le (f.mark c).commit f.durable) (nat_le (f.mark c).until f.log.synced) changed

pub left_held : (es : List (Block × Mark)) (c : Block) → passes is_left (held es c) ≡ false → is_left (marks_of es c) ≡ false
left_held es c isnt = unmarked is_left refl (held es c) isnt

pub held_left : (es : List (Block × Mark)) (c : Block) → passes is_left (held es c) ≡ true → is_left (marks_of es c) ≡ true
held_left es c is = marked is_left (held es c) is

-- ---- the lowest block that is ready

-- no block that passes lies from the one number on and before the other
abbrev pub NoneBetween : (Block → Bool) → ℕ → ℕ → Type 0
NoneBetween ready n m = (n ≤ m) × ((c : Block) → ready c ≡ true → n ≤ block_number c → m ≤ block_number c)

pub none_yet : (ready : Block → Bool) (n : ℕ) → NoneBetween ready n n
none_yet ready n = (omega arith, λ c is le. le)

module _ (test : Mark → Bool) (ready : Block → Bool) (es : List (Block × Mark)) (n m : ℕ) (bare : (c : Block) → passes test (held es c) ≡ false → ready c ≡ false) (so_far : NoneBetween ready n m) where
  below : (b c : Block) → IsNextFrom test es m b → ready c ≡ true → n ≤ block_number c → block_number b ≤ block_number c
  below b c next is le = elim (cases_lt (block_number c) (block_number b)) [
    | inl lt ↦ absurd (true≢false (sym is ∙ bare c (next.none c (so_far.1 c is le) lt)))
    | inr from ↦ from
  ]

  pub found_lowest : (b : Block) → IsNextFrom test es m b → ready b ≡ true → IsLowestFrom ready n (Some b)
  found_lowest b next is = (let first = so_far.0 in let from = next.from in omega (arith, first, from), is, λ c le ready_c. below b c next ready_c le)

  pub passed_over : (b : Block) → IsNextFrom test es m b → ready b ≡ false → NoneBetween ready n (block_number b + 1)
  passed_over b next not_ready = (let first = so_far.0 in let from = next.from in omega (arith, first, from), behind)
    where
      behind : (c : Block) → ready c ≡ true → n ≤ block_number c → block_number b + 1 ≤ block_number c
      behind c is le = elim (cases_lt (block_number b) (block_number c)) [
        | inl lt ↦ omega (arith, lt)
        | inr upto ↦ (
            let from = below b c next is le in
            let same : c ≡ b = one_number c b (omega (arith, from, upto)) in
            absurd (true≢false (sym is ∙ ap ready same ∙ not_ready)))
      ]

  pub none_found : NoneFrom test es m → IsLowestFrom ready n None
  none_found none c le = elim (cases_Bool (ready c)) [
    | inl is ↦ absurd (true≢false (sym is ∙ bare c (none c (so_far.1 c is le))))
    | inr not_ready ↦ not_ready
  ]

-- the walk's measure falls
pub walk_falls : (test : Mark → Bool) (es : List (Block × Mark)) (m limit : ℕ) (b : Block) → IsNextFrom test es m b → block_number b < limit → limit - (block_number b + 1) < limit - m
walk_falls test es m limit b next lt = let from = next.from in omega (arith, from, lt)

-- ---- from one lowest block to the next

pub stays_there : (ready : Block → Bool) (b : Block) → ready b ≡ true → (before : Block → Bool) → IsLowest before (Some b) → ((c : Block) → ready c ≡ true → before c ≡ true) → IsLowest ready (Some b)
stays_there ready b is before lowest fewer = (omega arith, is, λ c le ready_c. lowest.2 c (omega arith) (fewer c ready_c))

pub goes_on : (ready : Block → Bool) (b : Block) (next : Option Block) → ready b ≡ false → IsLowestFrom ready (block_number b + 1) next
    → (before : Block → Bool) → IsLowest before (Some b) → ((c : Block) → ready c ≡ true → before c ≡ true) → IsLowest ready next
goes_on ready b next not_ready found before lowest fewer = by_next next found
  where
    behind : (c : Block) → ready c ≡ true → block_number b + 1 ≤ block_number c
    behind c is = elim (cases_lt (block_number b) (block_number c)) [
      | inl lt ↦ omega (arith, lt)
      | inr upto ↦ (
          let from = lowest.2 c (omega arith) (fewer c is) in
          let same : c ≡ b = one_number c b (omega (arith, from, upto)) in
          absurd (true≢false (sym is ∙ ap ready same ∙ not_ready)))
    ]

    by_next : (o : Option Block) → IsLowestFrom ready (block_number b + 1) o → IsLowest ready o
    by_next (Some x) there = (omega arith, there.1, λ c le is. there.2 c (behind c is) is)
    by_next None there = λ c le. elim (cases_Bool (ready c)) [
      | inl is ↦ absurd (true≢false (sym is ∙ there c (behind c is)))
      | inr isnt ↦ isnt
    ]

pub none_stays : (ready before : Block → Bool) → IsLowest before None → ((c : Block) → ready c ≡ true → before c ≡ true) → IsLowest ready None
none_stays ready before none fewer c le = elim (cases_Bool (ready c)) [
  | inl is ↦ absurd (true≢false (sym (fewer c is) ∙ none c (omega arith)))
  | inr isnt ↦ isnt
]

-- ---- blocks that a checkpoint waits for

-- so many of them have a number below this one
pub record LeftBelow (mark : Block → Mark) (n count : ℕ) : Type 0 where
  pub blocks : List Block
  pub each : (b : Block) → count_by (same_block b) blocks ≡ cond (is_left (mark b) && nat_lt (block_number b) n) 1 0
  pub counted : count ≡ min (length blocks) (2 ^ 64 - 1)

and_none : (t : Bool) → ◌≡◌ {A = ℕ} 0 (cond (t && false) 1 0)
and_none true = refl
and_none false = refl

pub none_counted : (mark : Block → Mark) → LeftBelow mark 0 0
none_counted mark = record { blocks = []; each = λ b. and_none (is_left (mark b)) ∙ ap (λ (t : Bool). cond {A = ℕ} (is_left (mark b) && t) 1 0) (sym (le-ltb (block_number b) 0 (omega arith))); counted = omega arith }

and_left_none : (t u v : Bool) → t ≡ false → ◌≡◌ {A = ℕ} (cond (t && u) 1 0) (cond (t && v) 1 0)
and_left_none true u v e = absurd (true≢false e)
and_left_none false u v e = refl

-- a number that isn't the next one's is counted behind that exactly where it was before, or isn't left
same_below : (mark : Block → Mark) (es : List (Block × Mark)) (n : ℕ) (b c : Block) → ((x : Block) → passes is_left (held es x) ≡ false → is_left (mark x) ≡ false) → IsNextFrom is_left es n b → same_block c b ≡ false
    → ◌≡◌ {A = ℕ} (cond (is_left (mark c) && nat_lt (block_number c) (block_number b + 1)) 1 0) (cond (is_left (mark c) && nat_lt (block_number c) n) 1 0)
same_below mark es n b c bare next apart = elim (cases_lt (block_number c) n) [
  | inl low ↦ ap (λ (t : Bool). cond {A = ℕ} (is_left (mark c) && t) 1 0) (lt-ltb (block_number c) (block_number b + 1) (let from = next.from in omega (arith, low, from)) ∙ sym (lt-ltb (block_number c) n low))
  | inr from ↦ elim (cases_lt (block_number b) (block_number c)) [
    | inl above ↦ ap (λ (t : Bool). cond {A = ℕ} (is_left (mark c) && t) 1 0) (le-ltb (block_number c) (block_number b + 1) (omega (arith, above)) ∙ sym (le-ltb (block_number c) n from))
    | inr upto ↦ and_left_none (is_left (mark c)) (nat_lt (block_number c) (block_number b + 1)) (nat_lt (block_number c) n) (bare c (next.none c from (between upto)))
  ]
]
  where
    between : block_number c ≤ block_number b → block_number c < block_number b
    between upto = elim (cases_lt (block_number c) (block_number b)) [
      | inl lt ↦ lt
      | inr over ↦ (
          let same : c ≡ b = one_number c b (omega (arith, over, upto)) in
          absurd (true≢false (sym (same_self b) ∙ ap (λ (x : Block). same_block x b) (sym same) ∙ apart)))
    ]

module _ (mark : Block → Mark) (es : List (Block × Mark)) (n count : ℕ) (b : Block) (bare : (x : Block) → passes is_left (held es x) ≡ false → is_left (mark x) ≡ false) (next : IsNextFrom is_left es n b) (so_far : LeftBelow mark n count) where
  -- the next one is left
  pub one_more : is_left (mark b) ≡ true → LeftBelow mark (block_number b + 1) (min (count + 1) (2 ^ 64 - 1))
  one_more is = record {
    blocks = b ∷ so_far.blocks;
    each = λ c. sum_by-cons (λ (y : Block). cond {A = ℕ} (same_block c y) 1 0) b so_far.blocks ∙ by_same c (same_block c b) refl;
    counted = (let old = so_far.counted in omega (arith, old));
  }
    where
      by_same : (c : Block) (t : Bool) → same_block c b ≡ t → cond (same_block c b) 1 0 + count_by (same_block c) so_far.blocks ≡ cond (is_left (mark c) && nat_lt (block_number c) (block_number b + 1)) 1 0
      by_same c true e =
          let same : c ≡ b = same_block-is c b e in
          let old : count_by (same_block c) so_far.blocks ≡ cond (is_left (mark c) && nat_lt (block_number c) n) 1 0 = so_far.each c in
          let high : n ≤ block_number c = subst (λ (x : Block). n ≤ block_number x) (sym same) next.from in
          let none : ◌≡◌ {A = ℕ} (cond (is_left (mark c) && nat_lt (block_number c) n) 1 0) 0 = ap (λ (t : Bool). cond {A = ℕ} (is_left (mark c) && t) 1 0) (le-ltb (block_number c) n high) ∙ sym (and_none (is_left (mark c))) in
          let one : ◌≡◌ {A = ℕ} (cond (same_block c b) 1 0) 1 = ap (λ (t : Bool). cond {A = ℕ} t 1 0) e in
          let here : ◌≡◌ {A = ℕ} (cond (is_left (mark c) && nat_lt (block_number c) (block_number b + 1)) 1 0) 1 =
          ap (λ (t : Bool). cond {A = ℕ} (t && nat_lt (block_number c) (block_number b + 1)) 1 0) (ap (λ (x : Block). is_left (mark x)) same ∙ is)
          ∙ ap (λ (t : Bool). cond {A = ℕ} (true && t) 1 0) (lt-ltb (block_number c) (block_number b + 1) (let at = ap block_number same in omega (arith, at))) in
          omega (arith, old, none, one, here)
      by_same c false e =
          let old = so_far.each c in
          let none : ◌≡◌ {A = ℕ} (cond (same_block c b) 1 0) 0 = ap (λ (t : Bool). cond {A = ℕ} t 1 0) e in
          let same = same_below mark es n b c bare next e in
          omega (arith, old, none, same)

pub all_counted : (mark : Block → Mark) (es : List (Block × Mark)) (n count : ℕ) → ((x : Block) → passes is_left (held es x) ≡ false → is_left (mark x) ≡ false) → NoneFrom is_left es n → LeftBelow mark n count → TellsLeft mark count
all_counted mark es n count bare none so_far = record { blocks = so_far.blocks; each = λ b. so_far.each b ∙ at b; counted = so_far.counted }
  where
    and_yes : (t : Bool) → ◌≡◌ {A = ℕ} (cond (t && true) 1 0) (cond t 1 0)
    and_yes true = refl
    and_yes false = refl

    off : (t u : Bool) → t ≡ false → ◌≡◌ {A = ℕ} (cond (t && u) 1 0) (cond t 1 0)
    off true u e = absurd (true≢false e)
    off false u e = refl

    at : (b : Block) → ◌≡◌ {A = ℕ} (cond (is_left (mark b) && nat_lt (block_number b) n) 1 0) (cond (is_left (mark b)) 1 0)
    at b = elim (cases_lt (block_number b) n) [
      | inl low ↦ ap (λ (t : Bool). cond {A = ℕ} (is_left (mark b) && t) 1 0) (lt-ltb (block_number b) n low) ∙ and_yes (is_left (mark b))
      | inr from ↦ off (is_left (mark b)) (nat_lt (block_number b) n) (bare b (none b from))
    ]
