-- The places of pages in the ring, by how many pages they stand behind the first one that is read.
use Rattle.std.proofs.Common.{◌≡◌, ◌≢◌, ℕ, suc, ◌+◌, ◌-◌, ◌*◌, ◌/◌, ◌^◌, ◌<◌, ◌≤◌, Bool, cond, sym, ap, ◌∙◌, inl, inr, arith}
use Rattle.std.proofs.lemmas.Bool.{cases_lt, eq-eqb, ne_eqb, le-leb, lt-leb}
use Rattle.log_page.specs.Places.{page_bytes, first_page, entries_at, place_bits, page_lsn, page_after, lap_after}
use Rattle.log_page.proofs.PlacesFit.{log_fits}
use Rattle.log_laws.specs.Tables.{page_behind, lap_behind}

-- ---- the ring's last page, and the others

after_last : (pages lap page : ℕ) → page + 1 ≡ pages → (page_after pages page ≡ first_page) × (lap_after pages lap page ≡ lap + 1)
after_last pages lap page e =
    let last = eq-eqb (page + 1) pages e in
    (ap (λ (b : Bool). cond b first_page (page + 1)) last, ap (λ (b : Bool). cond b (lap + 1) lap) last)

after_other : (pages lap page : ℕ) → page + 1 < pages → (page_after pages page ≡ page + 1) × (lap_after pages lap page ≡ lap)
after_other pages lap page lt =
    let other = ne_eqb (page + 1) pages (λ e. omega arith) in
    (ap (λ (b : Bool). cond b first_page (page + 1)) other, ap (λ (b : Bool). cond b (lap + 1) lap) other)

-- ---- before the ring's first page comes again, and behind it

early : (pages lap page k : ℕ) → page + k < pages → (page_behind pages page k ≡ page + k) × (lap_behind pages lap page k ≡ lap)
early pages lap page k lt =
    let less = lt-leb pages (page + k) lt in
    (ap (λ (b : Bool). cond b (page + k - (pages - first_page)) (page + k)) less, ap (λ (b : Bool). cond b (lap + 1) lap) less)

late : (pages lap page k : ℕ) → pages ≤ page + k → (page_behind pages page k ≡ page + k - (pages - first_page)) × (lap_behind pages lap page k ≡ lap + 1)
late pages lap page k le =
    let more = le-leb pages (page + k) le in
    (ap (λ (b : Bool). cond b (page + k - (pages - first_page)) (page + k)) more, ap (λ (b : Bool). cond b (lap + 1) lap) more)

-- none behind it stands the page itself
pub none_behind : (pages lap page : ℕ) → page < pages → (page_behind pages page 0 ≡ page) × (lap_behind pages lap page 0 ≡ lap)
none_behind pages lap page lt =
    let here = early pages lap page 0 (omega arith) in
    (here.0 ∙ omega arith, here.1)

-- and one more behind it stands the page after
pub one_behind : (pages lap page k : ℕ) → first_page ≤ page → page < pages → k < pages - first_page
    → (page_after pages (page_behind pages page k) ≡ page_behind pages page (suc k)) × (lap_after pages (lap_behind pages lap page k) (page_behind pages page k) ≡ lap_behind pages lap page (suc k))
one_behind pages lap page k begun inside few = elim (cases_lt (page + k) pages) [
  | inl before ↦
      let here = early pages lap page k before in
      elim (cases_lt (page + suc k) pages) [
        | inl more ↦
            let next = early pages lap page (suc k) more in
            let after = after_other pages lap (page + k) (omega arith) in
            (ap (page_after pages) here.0 ∙ after.0 ∙ omega arith ∙ sym next.0, ap (λ (l : ℕ). lap_after pages l (page_behind pages page k)) here.1 ∙ ap (lap_after pages lap) here.0 ∙ after.1 ∙ sym next.1)
        | inr round ↦
            let next = late pages lap page (suc k) round in
            let after = after_last pages lap (page + k) (omega arith) in
            let first : first_page ≡ page + suc k - (pages - first_page) = omega arith in
            (ap (page_after pages) here.0 ∙ after.0 ∙ first ∙ sym next.0, ap (λ (l : ℕ). lap_after pages l (page_behind pages page k)) here.1 ∙ ap (lap_after pages lap) here.0 ∙ after.1 ∙ sym next.1)
      ]
  | inr behind ↦
      let here = late pages lap page k behind in
      let next = late pages lap page (suc k) (omega arith) in
      let n = page + k - (pages - first_page) in
      let after = after_other pages (lap + 1) n (omega arith) in
      let one : n + 1 ≡ page + suc k - (pages - first_page) = omega arith in
      (ap (page_after pages) here.0 ∙ after.0 ∙ one ∙ sym next.0, ap (λ (l : ℕ). lap_after pages l (page_behind pages page k)) here.1 ∙ ap (lap_after pages (lap + 1)) here.0 ∙ after.1 ∙ sym next.1)
]

-- ---- once round

module _ (pages lap page : ℕ) (begun : first_page ≤ page) (inside : page < pages) where
  pub in_ring : (k : ℕ) → k < pages - first_page → (first_page ≤ page_behind pages page k) × (page_behind pages page k < pages)
  in_ring k few = elim (cases_lt (page + k) pages) [
    | inl before ↦ (let here = (early pages lap page k before).0 in (omega arith, omega arith))
    | inr behind ↦ (let here = (late pages lap page k behind).0 in (omega arith, omega arith))
  ]

  pub met_once : (i j : ℕ) → i < j → j < pages - first_page → page_behind pages page i ≢ page_behind pages page j
  met_once i j lt few same = elim (cases_lt (page + j) pages) [
    | inl before ↦
        let there = (early pages lap page j before).0 in
        let here = (early pages lap page i (omega arith)).0 in
        omega arith
    | inr behind ↦
        let there = (late pages lap page j behind).0 in
        elim (cases_lt (page + i) pages) [
          | inl early_one ↦ (let here = (early pages lap page i early_one).0 in omega arith)
          | inr late_one ↦ (let here = (late pages lap page i late_one).0 in omega arith)
        ]
  ]

  abbrev lsn_behind : ℕ → ℕ
  lsn_behind k = page_lsn pages (lap_behind pages lap page k) (page_behind pages page k)

  early_lsn : (k : ℕ) → page + k < pages → lsn_behind k ≡ lap * 2 ^ place_bits pages + (512 * (page + k) + 8)
  early_lsn k lt =
      let at = early pages lap page k lt in
      let eights : (page_bytes * (page + k) + entries_at) / 8 ≡ 512 * (page + k) + 8 = omega arith in
      ap (λ (l : ℕ). page_lsn pages l (page_behind pages page k)) at.1 ∙ ap (page_lsn pages lap) at.0 ∙ ap (λ (n : ℕ). lap * 2 ^ place_bits pages + n) eights

  late_lsn : (k : ℕ) → pages ≤ page + k → lsn_behind k ≡ (lap + 1) * 2 ^ place_bits pages + (512 * (page + k - (pages - first_page)) + 8)
  late_lsn k le =
      let at = late pages lap page k le in
      let n = page + k - (pages - first_page) in
      let eights : (page_bytes * n + entries_at) / 8 ≡ 512 * n + 8 = omega arith in
      ap (λ (l : ℕ). page_lsn pages l (page_behind pages page k)) at.1 ∙ ap (page_lsn pages (lap + 1)) at.0 ∙ ap (λ (n : ℕ). (lap + 1) * 2 ^ place_bits pages + n) eights

  pub lsns_rise : (i j : ℕ) → page_bytes * pages < 2 ^ 64 → i < j → j < pages - first_page → lsn_behind i + 512 ≤ lsn_behind j
  lsns_rise i j small lt few = elim (cases_lt (page + j) pages) [
    | inl before ↦
        let there = early_lsn j before in
        let here = early_lsn i (omega arith) in
        omega arith
    | inr behind ↦
        let there = late_lsn j behind in
        elim (cases_lt (page + i) pages) [
          | inl early_one ↦
              let here = early_lsn i early_one in
              let w = 2 ^ place_bits pages in
              let fits : 512 * pages < w = log_fits pages (omega arith) small in
              let next : (lap + 1) * w ≡ lap * w + w = omega arith in
              omega arith
          | inr late_one ↦ (let here = late_lsn i late_one in omega arith)
        ]
  ]
