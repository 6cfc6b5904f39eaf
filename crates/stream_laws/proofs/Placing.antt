-- Where a block of a stream lies, and which clusters it has.
use Rattle.std.proofs.Common.{◌≡◌, ℕ, ◌+◌, ◌-◌, ◌*◌, ◌/◌, ◌%◌, ◌<◌, ◌≤◌, max, Bool, true, false, cond, leb, ltb, List, [], ◌∷◌, ◌++◌, Option, Some, None, ◌⊎◌, inl, inr, refl, sym, ap, ◌∙◌, arith}
use Rattle.std.specs.Prelude.{option_map, find}
use Rattle.std.proofs.Math.Nat.{div-add-mod', div-lt_iff_lt-mul, le-div_iff_mul-le}
use Rattle.std.proofs.lemmas.Bool.{cases_lt, and_right, le-ltb, and_parts, and_from, leb-true, ltb-true, le-leb, lt-ltb, false_from_ne_true}
use Rattle.std.proofs.lemmas.List.Sums.{sum_by-cons, sum_by-append}
use Rattle.volume_model.specs.disk_model.declared.block.Block.{Block}
use Rattle.volume_model.specs.disk_model.declared.block.BlockKind.{BlockKind}
use Rattle.volume_model.specs.disk_model.declared.block.BlockKind.TheVariants.{Plain, FileRec, Index}
use Rattle.volume_model.specs.disk_model.Sectors.{sectors, overlap, HasSector}
use Rattle.volume_model.specs.record_model.declared.runs.Run.{Run}
use Rattle.volume_model.specs.state_model.Streams.{holds, lcn_in, block_at}
use Rattle.volume_model.specs.Sizes.{lies_below, lies_inside}
use Rattle.volume_model.specs.Owners.{covers, covers_from, uses, keeps_owner}
use Rattle.std.specs.List.{list_all}
use Rattle.stream_laws.specs.Places.{AreOnce, AreApart, place}
use Rattle.stream_laws.proofs.Changing.{has_sectors}

-- ---- what is found

option_map_some : {A B : Type 0} (f : A → B) (o : Option A) (y : B) → option_map f o ≡ Some y → (x : A) × (o ≡ Some x) × (f x ≡ y)
option_map_some f None y is = absurd cc
option_map_some f (Some x) y is = (x, refl, cc)

-- the first element that passes is the head, or the first of the rest
find_cases : {A : Type 0} (t : Bool) (a x : A) (rest : Option A) → cond t (Some a) rest ≡ Some x → ((t ≡ true) × (a ≡ x)) ⊎ (rest ≡ Some x)
find_cases true a x rest is = inl (refl, cc)
find_cases false a x rest is = inr is

pub find_passes : {A : Type 0} (p : A → Bool) (xs : List A) (x : A) → find p xs ≡ Some x → p x ≡ true
find_passes p [] x is = absurd cc
find_passes p (a ∷ xs) x is = elim (find_cases (p a) a x (find p xs) is) [
  | inl here ↦ ap p (sym here.1) ∙ here.0
  | inr later ↦ find_passes p xs x later
]

-- ---- how often a cluster is used

pub uses-cons : (r : Run) (runs : List Run) (x : ℕ) → uses (r ∷ runs) x ≡ cond (covers x r) 1 0 + uses runs x
unfolding uses
uses-cons r runs x = sum_by-cons (λ (q : Run). cond (covers x q) 1 0) r runs

pub uses-append : (runs others : List Run) (x : ℕ) → uses (runs ++ others) x ≡ uses runs x + uses others x
unfolding uses
uses-append runs others x = sum_by-append (λ (q : Run). cond (covers x q) 1 0) runs others

uses_one : (r : Run) (runs : List Run) (x : ℕ) → covers x r ≡ true → uses (r ∷ runs) x ≡ 1 + uses runs x
uses_one r runs x covered = uses-cons r runs x ∙ ap (λ (t : Bool). cond t 1 0 + uses runs x) covered

pub uses_more : (r : Run) (runs : List Run) (x : ℕ) → uses runs x ≤ uses (r ∷ runs) x
uses_more r runs x = omega (arith, uses-cons r runs x)

-- a cluster of a run that is found is used
pub is_used : (p : Run → Bool) (runs : List Run) (r : Run) (x : ℕ) → find p runs ≡ Some r → covers x r ≡ true → 1 ≤ uses runs x
is_used p [] r x is covered = absurd cc
is_used p (a ∷ runs) r x is covered =
    elim (find_cases (p a) a r (find p runs) is) [
      | inl here ↦ (let one = uses_one a runs x (ap (covers x) here.1 ∙ covered) in omega (arith, one))
      | inr later ↦ (let rest = is_used p runs r x later covered in let more = uses_more a runs x in omega (arith, rest, more))
    ]

-- two runs that are found and have a cluster in common are one
pub same_run : (p q : Run → Bool) (runs : List Run) (r s : Run) (x : ℕ) → uses runs x ≤ 1 → find p runs ≡ Some r → find q runs ≡ Some s → covers x r ≡ true → covers x s ≡ true → r ≡ s
same_run p q [] r s x once first second has_first has_second = absurd cc
same_run p q (a ∷ runs) r s x once first second has_first has_second =
    elim (find_cases (p a) a r (find p runs) first) [
      | inl here ↦ elim (find_cases (q a) a s (find q runs) second) [
        | inl there ↦ sym here.1 ∙ there.1
        | inr later ↦
            (let one = uses_one a runs x (ap (covers x) here.1 ∙ has_first) in
            let rest = is_used q runs s x later has_second in
            absurd (omega (arith, one, rest)))
      ]
      | inr after ↦ elim (find_cases (q a) a s (find q runs) second) [
        | inl there ↦
            (let one = uses_one a runs x (ap (covers x) there.1 ∙ has_second) in
            let rest = is_used p runs r x after has_first in
            absurd (omega (arith, one, rest)))
        | inr later ↦ (let less : uses runs x ≤ 1 = omega (arith, uses_more a runs x) in same_run p q runs r s x less after later has_first has_second)
      ]
    ]

-- ---- rule 5

uncovered : (clusters x len : ℕ) (lcn : Option ℕ) → lies_below clusters len lcn ≡ true → clusters ≤ x → covers_from x len lcn ≡ false
uncovered clusters x len None inside past = refl
uncovered clusters x len (Some lcn) inside past =
    let end = leb-true (lcn + len) clusters inside in
    and_right (leb lcn x) (ltb x (lcn + len)) (le-ltb x (lcn + len) (omega arith))

pub unused : (clusters x : ℕ) (runs : List Run) → list_all (lies_inside clusters) runs ≡ true → clusters ≤ x → uses runs x ≡ 0
unfolding uses
unused clusters x [] inside past = refl
unused clusters x (r ∷ runs) inside past =
    let parts = and_parts (lies_inside clusters r) (list_all (lies_inside clusters) runs) inside in
    let here = uncovered clusters x r.len r.lcn parts.0 past in
    uses-cons r runs x ∙ ap (λ (t : Bool). cond t 1 0 + uses runs x) here ∙ unused_rest (unused clusters x runs parts.1 past)
  where
    unused_rest : uses runs x ≡ 0 → 0 + uses runs x ≡ 0
    unused_rest none = omega arith

pub once_everywhere : (runs : List Run) → ((x : ℕ) → keeps_owner runs x ≡ true) → AreOnce runs
once_everywhere runs keeps x = leb-true (uses runs x) 1 (keeps x)

pub once_inside : (clusters : ℕ) (runs : List Run) → list_all (lies_inside clusters) runs ≡ true → ((x : ℕ) → x < clusters → keeps_owner runs x ≡ true) → AreOnce runs
once_inside clusters runs inside keeps x = elim (cases_lt x clusters) [
  | inl below ↦ leb-true (uses runs x) 1 (keeps x below)
  | inr past ↦ omega (arith, unused clusters x runs inside past)
]

-- ---- where a block lies

-- the block lies in this run of the stream, which begins at this cluster
pub record Lies (per : ℕ) (runs : List Run) (kind : BlockKind) (n : ℕ) (b : Block) : Type 0 where
  pub run : Run
  pub lcn : ℕ
  pub found : find (holds (sectors kind * n / per) ((sectors kind * n + sectors kind - 1) / per)) runs ≡ Some run
  pub placed : run.lcn ≡ Some lcn
  pub kind_is : kind ≡ b.kind
  pub first_is : (lcn + (sectors kind * n / per - run.vcn)) * per + sectors kind * n % per ≡ b.first

run_in : (v : ℕ) (o : Option Run) (x : ℕ) → lcn_in v o ≡ Some x → (r : Run) × (lcn : ℕ) × (o ≡ Some r) × (r.lcn ≡ Some lcn) × (lcn + (v - r.vcn) ≡ x)
run_in v None x is = absurd cc
run_in v (Some r) x is =
    let at = option_map_some (λ (lcn : ℕ). lcn + (v - r.vcn)) r.lcn x is in
    (r, at.0, refl, at.1, at.2)

pub lies : (per : ℕ) (runs : List Run) (kind : BlockKind) (n : ℕ) (b : Block) → block_at per runs kind n ≡ Some b → Lies per runs kind n b
unfolding block_at
lies per runs kind n b is =
    let first = sectors kind * n in
    let v = first / per in
    let w = (first + sectors kind - 1) / per in
    let block : ℕ → Block = λ lcn. record { first = lcn * per + first % per; kind = kind } in
    let at = option_map_some block (lcn_in v (find (holds v w) runs)) b is in
    let in_run = run_in v (find (holds v w) runs) at.0 at.1 in
    record {
      run = in_run.0;
      lcn = in_run.1;
      found = in_run.2;
      placed = in_run.3;
      kind_is = ap (λ (x : Block). x.kind) at.2;
      first_is = ap (λ (x : ℕ). x * per + first % per) in_run.4 ∙ ap (λ (x : Block). x.first) at.2;
    }

-- a place in a run, by products alone
straight : (per lcn vcn v place first : ℕ) → vcn ≤ v → v ≡ place / per → (lcn + (v - vcn)) * per + place % per ≡ first → first + vcn * per ≡ lcn * per + place
straight per lcn vcn v place first low is at =
    let behind : vcn + (v - vcn) ≡ v = omega arith in
    let parts : vcn * per + (v - vcn) * per ≡ v * per = omega (arith, ap (λ (x : ℕ). x * per) behind) in
    let whole : v * per + place % per ≡ place = ap (λ (x : ℕ). x * per + place % per) is ∙ div-add-mod' place per in
    omega (arith, parts, whole, at)

-- a sector of a block lies in a cluster of its run
inside : (per lcn vcn len place count first d : ℕ) → 0 < per → vcn ≤ place / per → (place + count - 1) / per < vcn + len → first + vcn * per ≡ lcn * per + place → first ≤ d → d < first + count → (lcn ≤ d / per) × (d / per < lcn + len)
inside per lcn vcn len place count first d some low high at from to =
    let begins : vcn * per ≤ place = (le-div_iff_mul-le {k = per} {x = vcn} {y = place} some).0 low in
    let ends : place + count - 1 < (vcn + len) * per = (div-lt_iff_lt-mul {k = per} {x = place + count - 1} {y = vcn + len} some).0 high in
    let above : lcn * per ≤ d = omega arith in
    let below : d < (lcn + len) * per = omega arith in
    ((le-div_iff_mul-le {k = per} {x = lcn} {y = d} some).1 above, (div-lt_iff_lt-mul {k = per} {x = d} {y = lcn + len} some).1 below)

module _ (per : ℕ) (runs : List Run) (kind : BlockKind) (n : ℕ) (b : Block) (l : Lies per runs kind n b) where
  bounds : (leb l.run.vcn (sectors kind * n / per) ≡ true) × (ltb ((sectors kind * n + sectors kind - 1) / per) (l.run.vcn + l.run.len) ≡ true)
  bounds = and_parts (leb l.run.vcn (sectors kind * n / per)) (ltb ((sectors kind * n + sectors kind - 1) / per) (l.run.vcn + l.run.len)) (find_passes (holds (sectors kind * n / per) ((sectors kind * n + sectors kind - 1) / per)) runs l.run l.found)

  -- the first sector, by products alone
  pub lies_straight : b.first + l.run.vcn * per ≡ l.lcn * per + sectors kind * n
  lies_straight = straight per l.lcn l.run.vcn (sectors kind * n / per) (sectors kind * n) b.first (leb-true _ _ bounds.0) refl l.first_is

  -- each of its sectors lies in a cluster of its run
  pub lies_in_cluster : (d : ℕ) → 0 < per → b.first ≤ d → d < b.first + sectors b.kind → covers (d / per) l.run ≡ true
  lies_in_cluster d some from to =
      let count : sectors kind ≡ sectors b.kind = ap sectors l.kind_is in
      let end : d < b.first + sectors kind = omega (arith, count) in
      let at = inside per l.lcn l.run.vcn l.run.len (sectors kind * n) (sectors kind) b.first d some (leb-true _ _ bounds.0) (ltb-true _ _ bounds.1) lies_straight from end in
      ap (covers_from (d / per) l.run.len) l.placed ∙ and_from _ _ (le-leb _ _ at.0) (lt-ltb _ _ at.1)

-- ---- blocks that share a sector

-- a sector that both have
shared : (a b : Block) → overlap a b ≡ true → (d : ℕ) × (a.first ≤ d) × (d < a.first + sectors a.kind) × (b.first ≤ d) × (d < b.first + sectors b.kind)
shared a b both =
    let parts = and_parts (ltb a.first (b.first + sectors b.kind)) (ltb b.first (a.first + sectors a.kind)) both in
    let left = ltb-true _ _ parts.0 in
    let right = ltb-true _ _ parts.1 in
    let some = has_sectors a.kind in
    let other = has_sectors b.kind in
    (max a.first b.first, omega arith, omega (arith, left, right, some), omega arith, omega (arith, left, right, other))

pub overlapping_places : (per : ℕ) (runs : List Run) (kind other : BlockKind) (n m : ℕ) (a b : Block) → 0 < per → AreOnce runs → block_at per runs kind n ≡ Some a → block_at per runs other m ≡ Some b → overlap a b ≡ true → overlap (place kind n) (place other m) ≡ true
overlapping_places per runs kind other n m a b some once at_n at_m both =
    let k = lies per runs kind n a at_n in
    let l = lies per runs other m b at_m in
    let d = shared a b both in
    let first = lies_in_cluster per runs kind n a k d.0 some d.1 d.2 in
    let second = lies_in_cluster per runs other m b l d.0 some d.3 d.4 in
    let run : k.run ≡ l.run = same_run _ _ runs k.run l.run (d.0 / per) (once (d.0 / per)) k.found l.found first second in
    let cluster : k.lcn ≡ l.lcn = some_is (sym k.placed ∙ ap (λ (r : Run). r.lcn) run ∙ l.placed) in
    let vcn : k.run.vcn * per ≡ l.run.vcn * per = ap (λ (r : Run). r.vcn * per) run in
    let lcn : k.lcn * per ≡ l.lcn * per = ap (λ (x : ℕ). x * per) cluster in
    let here = lies_straight per runs kind n a k in
    let there = lies_straight per runs other m b l in
    let mine : sectors kind ≡ sectors a.kind = ap sectors k.kind_is in
    let its : sectors other ≡ sectors b.kind = ap sectors l.kind_is in
    let parts = and_parts (ltb a.first (b.first + sectors b.kind)) (ltb b.first (a.first + sectors a.kind)) both in
    let left = ltb-true _ _ parts.0 in
    let right = ltb-true _ _ parts.1 in
    let before : sectors kind * n < sectors other * m + sectors other = omega (arith, vcn, lcn, here, there, its, left) in
    let behind : sectors other * m < sectors kind * n + sectors kind = omega (arith, vcn, lcn, here, there, mine, right) in
    and_from _ _ (lt-ltb _ _ before) (lt-ltb _ _ behind)
  where
    some_is : {x y : ℕ} → Some x ≡ Some y → x ≡ y
    some_is e = cc

same_number : (kind : BlockKind) (n m : ℕ) → sectors kind * n < sectors kind * m + sectors kind → sectors kind * m < sectors kind * n + sectors kind → n ≡ m
same_number Plain n m left right = omega arith
same_number FileRec n m left right = omega arith
same_number Index n m left right = omega arith

pub one_place : (per : ℕ) (runs : List Run) (kind : BlockKind) (n m : ℕ) (a b : Block) → 0 < per → AreOnce runs → block_at per runs kind n ≡ Some a → block_at per runs kind m ≡ Some b → overlap a b ≡ true → n ≡ m
one_place per runs kind n m a b some once at_n at_m both =
    let parts = and_parts _ _ (overlapping_places per runs kind kind n m a b some once at_n at_m both) in
    same_number kind n m (ltb-true _ _ parts.0) (ltb-true _ _ parts.1)

pub lists_apart : (per : ℕ) (runs others : List Run) (kind other : BlockKind) (n m : ℕ) (a b : Block) → 0 < per → AreApart runs others → block_at per runs kind n ≡ Some a → block_at per others other m ≡ Some b → overlap a b ≡ false
lists_apart per runs others kind other n m a b some apart at_n at_m = false_from_ne_true (overlap a b) (λ both.
    let k = lies per runs kind n a at_n in
    let l = lies per others other m b at_m in
    let d = shared a b both in
    let first = is_used _ runs k.run (d.0 / per) k.found (lies_in_cluster per runs kind n a k d.0 some d.1 d.2) in
    let second = is_used _ others l.run (d.0 / per) l.found (lies_in_cluster per others other m b l d.0 some d.3 d.4) in
    omega (arith, first, second, apart (d.0 / per)))

-- ---- clusters that runs don't have

-- each sector of a block lies in a cluster of its runs
pub lies_in_used : (per : ℕ) (runs : List Run) (kind : BlockKind) (n : ℕ) (b : Block) → 0 < per → block_at per runs kind n ≡ Some b → (d : ℕ) → HasSector b d → 1 ≤ uses runs (d / per)
lies_in_used per runs kind n b some at d has =
    let k = lies per runs kind n b at in
    is_used _ runs k.run (d / per) k.found (lies_in_cluster per runs kind n b k d some has.0 has.1)

pub apart_from_unused : (per : ℕ) (runs : List Run) (kind : BlockKind) (n : ℕ) (b free : Block) → 0 < per → block_at per runs kind n ≡ Some b → ((d : ℕ) → HasSector free d → uses runs (d / per) ≡ 0) → overlap b free ≡ false
apart_from_unused per runs kind n b free some at unused = false_from_ne_true (overlap b free) (λ both.
    let d = shared b free both in
    omega (arith, lies_in_used per runs kind n b some at d.0 (d.1, d.2), unused d.0 (d.3, d.4)))
