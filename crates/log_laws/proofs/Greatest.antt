-- The greatest LSN of those that are said.
use Rattle.std.proofs.Common.{◌≡◌, ◌⊎◌, ℕ, zero, suc, ◌+◌, ◌-◌, ◌<◌, ◌≤◌, max, List, Option, Some, None, refl, sym, ap, ◌∙◌, inl, inr, arith}
use Rattle.std.specs.List.{range_with_len, fold}
use Rattle.std.specs.Option.{option_map}
use Rattle.std.proofs.lemmas.Bool.{cases_lt, cases_eq}
use Rattle.log_page.specs.declared.restart.Restart.{Restart}
use Rattle.log_page.specs.Places.{first_page}
use Rattle.log_page.specs.LiveLogs.{said_lsn, greater, greatest_lsn}
use Rattle.log_laws.specs.NextLaps.{IsRestartSaid, IsSaid, IsGreatest}

-- there is one, and it isn't less than this
abbrev pub AtLeast : Option ℕ → ℕ → Type 0
AtLeast o a = (g : ℕ) × (o ≡ Some g) × (a ≤ g)

-- ---- of two

first_kept : (o p : Option ℕ) (a : ℕ) → AtLeast o a → AtLeast (greater o p) a
first_kept None p a (g, is, le) = absurd cc
first_kept (Some x) None a (g, is, le) = (g, is, le)
first_kept (Some x) (Some y) a (g, is, le) = let same : x ≡ g = cc in (max x y, refl, omega arith)

second_kept : (o p : Option ℕ) (a : ℕ) → p ≡ Some a → AtLeast (greater o p) a
second_kept None p a is = (a, is, omega arith)
second_kept (Some x) None a is = absurd cc
second_kept (Some x) (Some y) a is = let same : y ≡ a = cc in (max x y, refl, omega arith)

one_of : (o p : Option ℕ) (g : ℕ) → greater o p ≡ Some g → (o ≡ Some g) ⊎ (p ≡ Some g)
one_of None p g is = inr is
one_of (Some x) None g is = inl is
one_of (Some x) (Some y) g is = let same : max x y ≡ g = cc in elim (cases_lt x y) [
  | inl lt ↦ (let second : y ≡ g = omega arith in inr (ap Some second))
  | inr le ↦ (let first : x ≡ g = omega arith in inl (ap Some first))
]

-- ---- of those that the pages from one on say

module _ (said : ℕ → Option ℕ) where
  abbrev rest : ℕ → ℕ → Option ℕ → Option ℕ
  rest count page lsn = fold (λ o n. greater o (said n)) lsn (range_with_len page count)

  kept : (count page : ℕ) (o : Option ℕ) (a : ℕ) → AtLeast o a → AtLeast (rest count page o) a
  kept zero page o a least = least
  kept (suc count) page o a least = kept count (page + 1) (greater o (said page)) a (first_kept o (said page) a least)

  pub reached : (count page : ℕ) (o : Option ℕ) (n a : ℕ) → page ≤ n → n < page + count → said n ≡ Some a → AtLeast (rest count page o) a
  reached zero page o n a le lt is = absurd (omega arith)
  reached (suc count) page o n a le lt is = elim (cases_eq n page) [
    | inl here ↦ kept count (page + 1) (greater o (said page)) a (second_kept o (said page) a (ap said (sym here) ∙ is))
    | inr other ↦ reached count (page + 1) (greater o (said page)) n a (later other) (omega arith) is
  ]
    where
      later : (n ≡ page → ⊥) → page + 1 ≤ n
      later other = elim (cases_lt page n) [
        | inl lt ↦ omega arith
        | inr past ↦ absurd (other (omega arith))
      ]

  pub begun_at : (count page : ℕ) (o : Option ℕ) (a : ℕ) → o ≡ Some a → AtLeast (rest count page o) a
  begun_at count page o a is = kept count page o a (a, is, omega arith)

  pub origin_of : (count page : ℕ) (o : Option ℕ) (g : ℕ) → rest count page o ≡ Some g → (o ≡ Some g) ⊎ ((n : ℕ) × (page ≤ n) × (n < page + count) × (said n ≡ Some g))
  origin_of zero page o g is = inl is
  origin_of (suc count) page o g is = by (origin_of count (page + 1) (greater o (said page)) g is)
    where
      by : (greater o (said page) ≡ Some g) ⊎ ((n : ℕ) × (page + 1 ≤ n) × (n < page + 1 + count) × (said n ≡ Some g)) → (o ≡ Some g) ⊎ ((n : ℕ) × (page ≤ n) × (n < page + suc count) × (said n ≡ Some g))
      by (inl here) = elim (one_of o (said page) g here) [
        | inl before ↦ inl before
        | inr own ↦ inr (page, omega arith, omega arith, own)
      ]
      by (inr (n, le, lt, own)) = inr (n, omega arith, omega arith, own)

-- ---- of the log

restart_says : (chosen : Option Restart) (restart : Restart) (lsn : ℕ) → chosen ≡ Some restart → restart.current ≡ lsn → option_map (λ (r : Restart). r.current) chosen ≡ Some lsn
restart_says chosen restart lsn is says = ap (option_map (λ (r : Restart). r.current)) is ∙ ap Some says

restart_said : (chosen : Option Restart) (lsn : ℕ) → option_map (λ (r : Restart). r.current) chosen ≡ Some lsn → IsRestartSaid chosen lsn
restart_said None lsn is = absurd cc
restart_said (Some r) lsn is = record { restart = r; is = refl; says = cc }

module _ (pages : ℕ) (raw : ℕ → List ℕ) (chosen : Option Restart) where
  pub all_below : (lsn : ℕ) → IsSaid pages raw chosen lsn → AtLeast (greatest_lsn pages raw chosen) lsn
  unfolding greatest_lsn
  all_below lsn (inl r) = begun_at (λ n. said_lsn (raw n)) (pages - first_page) first_page _ lsn (restart_says chosen r.restart lsn r.is r.says)
  all_below lsn (inr p) =
      let begun = p.begun in
      let inside = p.inside in
      reached (λ n. said_lsn (raw n)) (pages - first_page) first_page _ p.page lsn begun (omega arith) p.says

  pub is_said : (g : ℕ) → greatest_lsn pages raw chosen ≡ Some g → IsSaid pages raw chosen g
  unfolding greatest_lsn
  is_said g is = by (origin_of (λ n. said_lsn (raw n)) (pages - first_page) first_page (option_map (λ (r : Restart). r.current) chosen) g is)
    where
      by : (option_map (λ (r : Restart). r.current) chosen ≡ Some g) ⊎ ((n : ℕ) × (first_page ≤ n) × (n < first_page + (pages - first_page)) × (said_lsn (raw n) ≡ Some g)) → IsSaid pages raw chosen g
      by (inl own) = inl (restart_said chosen g own)
      by (inr (n, le, lt, says)) = inr (record { page = n; begun = le; inside = omega arith; says = says })

  pub greatest_found : (lsn : ℕ) → greatest_lsn pages raw chosen ≡ Some lsn → IsGreatest pages raw chosen lsn
  greatest_found lsn is = record { said = is_said lsn is; most = λ other s. below other (all_below other s) }
    where
      below : (other : ℕ) → AtLeast (greatest_lsn pages raw chosen) other → other ≤ lsn
      below other (g, e, le) = let same : g ≡ lsn = cc in omega arith

  pub found_greatest : (lsn : ℕ) → IsGreatest pages raw chosen lsn → greatest_lsn pages raw chosen ≡ Some lsn
  found_greatest lsn most = by (all_below lsn most.said)
    where
      by : AtLeast (greatest_lsn pages raw chosen) lsn → greatest_lsn pages raw chosen ≡ Some lsn
      by (g, e, le) =
          let other = most.most g (is_said g e) in
          let same : g ≡ lsn = omega arith in
          e ∙ ap Some same

  pub none_found : greatest_lsn pages raw chosen ≡ None → (lsn : ℕ) → IsSaid pages raw chosen lsn → ⊥
  none_found none lsn s = by (all_below lsn s)
    where
      by : AtLeast (greatest_lsn pages raw chosen) lsn → ⊥
      by (g, e, le) = cc

  pub found_none : ((lsn : ℕ) → IsSaid pages raw chosen lsn → ⊥) → greatest_lsn pages raw chosen ≡ None
  found_none none = by (greatest_lsn pages raw chosen) refl
    where
      by : (o : Option ℕ) → greatest_lsn pages raw chosen ≡ o → greatest_lsn pages raw chosen ≡ None
      by None is = is
      by (Some g) is = absurd (none g (is_said g is))
