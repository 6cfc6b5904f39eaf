-- Runs that put the first clusters of a stream at the same places.
use Rattle.std.proofs.Common.{◌≡◌, ℕ, zero, suc, ◌+◌, ◌-◌, ◌*◌, ◌/◌, ◌%◌, ◌<◌, ◌≤◌, min, Bool, true, false, ◌&&◌, cond, leb, ltb, List, [], ◌∷◌, ◌++◌, take, drop, get_or, length, Option, Some, None, refl, sym, ap, ◌∙◌, inl, inr, arith}
use Rattle.std.specs.Prelude.{find, option_map}
use Rattle.std.specs.List.{range_with_len}
use Rattle.std.proofs.lemmas.Bool.{cases_Bool, cases_lt, lt-ltb, le-leb, lt-leb}
use Rattle.std.proofs.Math.Nat.{div-lt_iff_lt-mul, div-mul-le_self}
use Rattle.std.proofs.lemmas.Nat.{le-div}
use Rattle.std.proofs.lemmas.List.{take_more, append_assoc}
use Rattle.disk_model.specs.declared.block.BlockKind.TheVariants.{FileRec}
use Rattle.volume_map.specs.record_model.declared.runs.Run.{Run}
use Rattle.volume_map.specs.state_model.declared.stream.Extents.{Extents}
use Rattle.volume_map.specs.state_model.Streams.{holds, lcn_in, block_at}
use Rattle.map_change.specs.Touching.{AgreeBelow, NoneBelow, KeepsPlaces}

-- ---- no run

not_held : (v w : ℕ) (r : Run) → v < r.vcn → holds v w r ≡ false
not_held v w r low = ap (λ (t : Bool). t && ltb w (r.vcn + r.len)) (lt-leb r.vcn v low)

pub none_yet : (n : ℕ) → NoneBelow [] n
none_yet n v w order below = refl

find_more : (q : Run → Bool) (xs : List Run) (x : Run) → find q xs ≡ None → q x ≡ false → find q (xs ++ x ∷ []) ≡ None
find_more q [] x none fails = ap (λ (t : Bool). cond t (Some x) None) fails
find_more q (a ∷ xs) x none fails = elim (cases_Bool (q a)) [
  | inl hit ↦ (let here : Some a ≡ None = rw hit at none in absurd cc)
  | inr miss ↦ (let later : find q xs ≡ None = rw miss at none in ap (λ (t : Bool). cond t (Some a) (find q (xs ++ x ∷ []))) miss ∙ find_more q xs x later fails)
]

-- with one run more
pub none_more : (runs : List Run) (i : ℕ) (d : Run) (least now : ℕ) → i < length runs → now ≡ min least (get_or runs i d).vcn → NoneBelow (take i runs) least → NoneBelow (take (i + 1) runs) now
none_more runs i d least now inside is none v w order below =
    let r = get_or runs i d in
    let low : w < least = omega (arith, is, below) in
    let high : v < r.vcn = omega (arith, is, below, order) in
    ap (find (holds v w)) (take_more runs i d inside) ∙ find_more (holds v w) (take i runs) r (none v w order low) (not_held v w r high)

-- ---- two lists

pub both_none : (old new : List Run) (n a b : ℕ) → NoneBelow old a → NoneBelow new b → n ≤ a → n ≤ b → AgreeBelow old new n
both_none old new n a b first second less other v w order below = ap (lcn_in v) (second v w order (omega (arith, below, other)) ∙ sym (first v w order (omega (arith, below, less))))

lcn_by : ℕ → ℕ → Option ℕ → Option ℕ
lcn_by v vcn lcn = option_map (λ k. k + (v - vcn)) lcn

held_alike : (v w : ℕ) (r : Run) (rest : List Run) → r.vcn ≤ v → w < r.vcn + r.len → lcn_in v (find (holds v w) (r ∷ rest)) ≡ lcn_by v r.vcn r.lcn
unfolding lcn_by
held_alike v w r rest low high =
    let is : holds v w r ≡ true = ap (λ (t : Bool). t && ltb w (r.vcn + r.len)) (le-leb r.vcn v low) ∙ lt-ltb w (r.vcn + r.len) high in
    ap (λ (t : Bool). lcn_in v (cond t (Some r) (find (holds v w) rest))) is

missed : (v w : ℕ) (r : Run) (rest : List Run) → v < r.vcn → find (holds v w) rest ≡ None → lcn_in v (find (holds v w) (r ∷ rest)) ≡ None
missed v w r rest low none = ap (λ (t : Bool). lcn_in v (cond t (Some r) (find (holds v w) rest))) (not_held v w r low) ∙ ap (lcn_in v) none

pub alike : (first other : Run) (old new : List Run) (n end a b : ℕ) → first.vcn ≡ other.vcn → first.lcn ≡ other.lcn → end ≤ first.vcn + min first.len other.len → NoneBelow old a → NoneBelow new b → n ≤ end → n ≤ a → n ≤ b → AgreeBelow (first ∷ old) (other ∷ new) n
alike first other old new n end a b vcn lcn ends none none' e1 e2 e3 v w order below = elim (cases_lt v first.vcn) [
  | inl before ↦
      missed v w other new (omega (arith, before, vcn)) (none' v w order (omega (arith, below, e3)))
      ∙ sym (missed v w first old before (none v w order (omega (arith, below, e2))))
  | inr from ↦
      held_alike v w other new (omega (arith, from, vcn)) (omega (arith, below, e1, ends, vcn))
      ∙ ap (λ (k : ℕ). lcn_by v k other.lcn) (sym vcn)
      ∙ ap (lcn_by v first.vcn) (sym lcn)
      ∙ sym (held_alike v w first old from (omega (arith, below, e1, ends)))
]

with_front : (v : ℕ) (q : Run → Bool) (p xs ys : List Run) → lcn_in v (find q ys) ≡ lcn_in v (find q xs) → lcn_in v (find q (p ++ ys)) ≡ lcn_in v (find q (p ++ xs))
with_front v q [] xs ys same = same
with_front v q (a ∷ p) xs ys same = elim (cases_Bool (q a)) [
  | inl hit ↦ ap (λ (t : Bool). lcn_in v (cond t (Some a) (find q (p ++ ys)))) hit ∙ sym (ap (λ (t : Bool). lcn_in v (cond t (Some a) (find q (p ++ xs)))) hit)
  | inr miss ↦
      ap (λ (t : Bool). lcn_in v (cond t (Some a) (find q (p ++ ys)))) miss
      ∙ with_front v q p xs ys same
      ∙ sym (ap (λ (t : Bool). lcn_in v (cond t (Some a) (find q (p ++ xs)))) miss)
]

-- lists with the same front agree where what is left agrees
pub behind_front : (old new : List Run) (i n : ℕ) → take i new ≡ take i old → AgreeBelow (drop i old) (drop i new) n → AgreeBelow old new n
behind_front old new i n same agree v w order below =
    ap (λ (l : List Run). lcn_in v (find (holds v w) l)) (sym (parts i new))
    ∙ with_front v (holds v w) (take i new) (drop i old) (drop i new) (agree v w order below)
    ∙ ap (λ (l : List Run). lcn_in v (find (holds v w) (l ++ drop i old))) same
    ∙ ap (λ (l : List Run). lcn_in v (find (holds v w) l)) (parts i old)
  where
    parts : {A : Type 0} (k : ℕ) (xs : List A) → take k xs ++ drop k xs ≡ xs
    parts zero xs = refl
    parts (suc k) [] = refl
    parts {A} (suc k) (x ∷ xs) = ap (λ (l : List A). x ∷ l) (parts k xs)

pub same_front : (old new : List Run) (i : ℕ) (d : Run) → i < length old → i < length new → take i new ≡ take i old → get_or old i d ≡ get_or new i d → take (i + 1) new ≡ take (i + 1) old
same_front old new i d first second same one =
    take_more new i d second
    ∙ ap (λ (l : List Run). l ++ get_or new i d ∷ []) same
    ∙ ap (λ (r : Run). take i old ++ r ∷ []) (sym one)
    ∙ sym (take_more old i d first)

-- ---- records

two_clusters : (per m n : ℕ) → 0 < per → m < n * per / 2 → (2 * m + 2 - 1) / per < n
two_clusters per m n some below =
    let place : 2 * m + 2 - 1 < n * per = omega (arith, below) in
    (div-lt_iff_lt-mul {k = per} {x = 2 * m + 2 - 1} {y = n} some).1 place

rising : (per m : ℕ) → 0 < per → 2 * m / per ≤ (2 * m + 2 - 1) / per
rising per m some = le-div (2 * m / per) (2 * m + 2 - 1) per some (omega (arith, div-mul-le_self (2 * m) per))

pub same_place : (per : ℕ) (old new : List Run) (n m : ℕ) → 0 < per → AgreeBelow old new n → m < n * per / 2 → block_at per new FileRec m ≡ block_at per old FileRec m
unfolding block_at
same_place per old new n m some agree below = ap (option_map (λ lcn. record { first = lcn * per + 2 * m % per; kind = FileRec })) (agree (2 * m / per) ((2 * m + 2 - 1) / per) (rising per m some) (two_clusters per m n some below))

pub keeps_places : (per : ℕ) (e f : Extents) (n clusters vcns : ℕ) → 0 < per → AgreeBelow e.runs f.runs vcns → clusters ≤ vcns → n ≤ e.real / 1024 → n ≤ f.real / 1024 → n ≤ clusters * per / 2
    → ((m : ℕ) → m < n → leb f.initialised (1024 * m) ≡ leb e.initialised (1024 * m)) → KeepsPlaces per e f n
keeps_places per e f n clusters vcns some agree less old new placed begun = record {
  old = old;
  new = new;
  places = λ m below. same_place per e.runs f.runs clusters m some (λ v w order low. agree v w order (omega (arith, low, less))) (omega (arith, below, placed));
  begun = begun;
}

-- records below both initialised sizes
pub both_begun : (e f : Extents) (n m : ℕ) → n ≤ e.initialised / 1024 → n ≤ f.initialised / 1024 → m < n → leb f.initialised (1024 * m) ≡ leb e.initialised (1024 * m)
both_begun e f n m old new below = lt-leb f.initialised (1024 * m) (omega (arith, below, new)) ∙ sym (lt-leb e.initialised (1024 * m) (omega (arith, below, old)))

-- ---- extents

whole : {A : Type 0} (n : ℕ) (xs : List A) → length xs ≤ n → take n xs ≡ xs
whole zero [] le = refl
whole zero (x ∷ xs) le = absurd (omega (arith, le))
whole (suc n) [] le = refl
whole {A} (suc n) (x ∷ xs) le = ap (λ (l : List A). x ∷ l) (whole n xs (omega (arith, le)))

-- lists that are the same as far as one of them goes, and as long
pub all_shared : (xs ys : List Run) (n : ℕ) → length xs ≤ n → length xs ≡ length ys → take n ys ≡ take n xs → xs ≡ ys
all_shared xs ys n long size same = sym (whole n xs long) ∙ sym same ∙ whole n ys (omega (arith, long, size))

made : List Run → ℕ → ℕ → ℕ → Extents
made runs allocated real initialised = record { runs = runs; allocated = allocated; real = real; initialised = initialised }

pub same_extents : (e f : Extents) → e.runs ≡ f.runs → e.allocated ≡ f.allocated → e.real ≡ f.real → e.initialised ≡ f.initialised → e ≡ f
unfolding made
same_extents e f runs allocated real initialised =
    ap (λ (r : List Run). made r e.allocated e.real e.initialised) runs
    ∙ ap (λ (n : ℕ). made f.runs n e.real e.initialised) allocated
    ∙ ap (λ (n : ℕ). made f.runs f.allocated n e.initialised) real
    ∙ ap (λ (n : ℕ). made f.runs f.allocated f.real n) initialised

-- ---- numbers

pub pushed_range : (xs ys start : List ℕ) (n e : ℕ) → n < e → ys ≡ xs ++ n ∷ [] → xs ++ range_with_len n (e - n) ≡ start → ys ++ range_with_len (n + 1) (e - (n + 1)) ≡ start
pushed_range xs ys start n e below pushed before =
    let more : e - n ≡ suc (e - (n + 1)) = omega (arith, below) in
    ap (λ (l : List ℕ). l ++ range_with_len (n + 1) (e - (n + 1))) pushed
    ∙ append_assoc xs (n ∷ []) (range_with_len (n + 1) (e - (n + 1)))
    ∙ ap (λ (l : List ℕ). xs ++ l) (sym (ap (range_with_len n) more))
    ∙ before
