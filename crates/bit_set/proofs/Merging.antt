-- Two parts that meet have the summary that is merged from theirs.
use Rattle.std.proofs.Common.{◌≡◌, ℕ, ◌+◌, ◌-◌, ◌<◌, ◌≤◌, ◌⊎◌, Bool, ◌∙◌, inl, inr, arith}
use Rattle.std.proofs.lemmas.Bool.{cases_lt}
use Rattle.bit_set.specs.Summaries.{IsClear, IsFront, IsBack, IsLongest}

-- ---- the run at the begin

front_joined : (f : ℕ → Bool) (from middle to end more : ℕ) → IsFront f from middle end → IsFront f middle to more → middle ≤ end → IsFront f from to more
front_joined f from middle to end more left right whole = record {
  behind = omega (arith, left.behind, left.inside, right.behind);
  inside = right.inside;
  clear = λ j le lt. elim (cases_lt j middle) [ inl low ↦ left.clear j le (omega arith) | inr high ↦ right.clear j high lt ];
  most = λ e le clear. elim (cases_lt e middle) [
    | inl low ↦ omega (arith, right.behind)
    | inr high ↦ right.most e le (λ j ge lt. clear j (omega (arith, left.behind, left.inside)) lt)
  ];
}

front_kept : (f : ℕ → Bool) (from middle to end more : ℕ) → IsFront f from middle end → IsFront f middle to more → end < middle → IsFront f from to end
front_kept f from middle to end more left right part = record {
  behind = left.behind;
  inside = omega (arith, right.behind, right.inside);
  clear = left.clear;
  most = λ e le clear. elim (cases_lt middle e) [
    | inl past ↦ (let whole = left.most middle (omega arith) (λ j ge lt. clear j ge (omega arith)) in absurd (omega arith))
    | inr low ↦ left.most e low clear
  ];
}

pub front_merged : (f : ℕ → Bool) (from middle to end more result : ℕ) → IsFront f from middle end → IsFront f middle to more → (end ≡ middle → result ≡ more) → ((end < middle) ⊎ (middle < end) → result ≡ end) → IsFront f from to result
front_merged f from middle to end more result left right same other =
    elim (cases_lt end middle) [
      | inl lt ↦ (let e = other (inl lt) in rw e (front_kept f from middle to end more left right lt))
      | inr ge ↦ (let e = same (omega (arith, left.inside)) in rw e (front_joined f from middle to end more left right ge))
    ]

-- ---- the run at the end

back_joined : (f : ℕ → Bool) (from middle to less first : ℕ) → IsBack f from middle less → IsBack f middle to first → first ≤ middle → IsBack f from to less
back_joined f from middle to less first left right whole = record {
  behind = left.behind;
  inside = omega (arith, left.inside, right.behind, right.inside);
  clear = λ j le lt. elim (cases_lt j middle) [ inl low ↦ left.clear j le low | inr high ↦ right.clear j (omega arith) lt ];
  most = λ i le clear. elim (cases_lt i middle) [
    | inl low ↦ left.most i le (λ j ge lt. clear j ge (omega (arith, right.behind, right.inside)))
    | inr high ↦ omega (arith, left.inside)
  ];
}

back_kept : (f : ℕ → Bool) (from middle to less first : ℕ) → IsBack f from middle less → IsBack f middle to first → middle < first → IsBack f from to first
back_kept f from middle to less first left right part = record {
  behind = omega (arith, left.behind, left.inside);
  inside = right.inside;
  clear = right.clear;
  most = λ i le clear. elim (cases_lt i middle) [
    | inl low ↦ (let whole = right.most middle (omega arith) (λ j ge lt. clear j (omega arith) lt) in absurd (omega arith))
    | inr high ↦ right.most i high clear
  ];
}

pub back_merged : (f : ℕ → Bool) (from middle to less first result : ℕ) → IsBack f from middle less → IsBack f middle to first → (first ≡ middle → result ≡ less) → ((first < middle) ⊎ (middle < first) → result ≡ first) → IsBack f from to result
back_merged f from middle to less first result left right same other =
    elim (cases_lt middle first) [
      | inl lt ↦ (let e = other (inr lt) in rw e (back_kept f from middle to less first left right lt))
      | inr ge ↦ (let e = same (omega (arith, right.behind)) in rw e (back_joined f from middle to less first left right ge))
    ]

-- ---- the longest run

-- two parts that meet, by the run at the left one's end, the run at the right one's begin, and the longest runs of both
record AreParts (f : ℕ → Bool) (from middle to less more first₁ len₁ first₂ len₂ : ℕ) : Type 0 where
  back : IsBack f from middle less
  front : IsFront f middle to more
  left : IsLongest f from middle first₁ len₁
  right : IsLongest f middle to first₂ len₂

bounded : (f : ℕ → Bool) (from middle to less more first₁ len₁ first₂ len₂ len : ℕ) → AreParts f from middle to less more first₁ len₁ first₂ len₂ → len₁ ≤ len → more - less ≤ len → len₂ ≤ len → (i n : ℕ) → from ≤ i → i + n ≤ to → IsClear f i (i + n) → n ≤ len
bounded f from middle to less more first₁ len₁ first₂ len₂ len parts h₁ h h₂ i n le inside clear =
    elim (cases_lt middle (i + n)) [
      | inl past ↦ elim (cases_lt i middle) [
        | inl before ↦ (
            let low = parts.back.most i le (λ j ge lt. clear j ge (omega arith)) in
            let high = parts.front.most (i + n) inside (λ j ge lt. clear j (omega arith) lt) in
            omega arith)
        | inr behind ↦ (let short = parts.right.longest i n behind inside clear in omega arith)
      ]
      | inr within ↦ (let short = parts.left.longest i n le within clear in omega arith)
    ]

lowest_of : (f : ℕ → Bool) (from middle to less more first₁ len₁ first₂ len₂ first len : ℕ) → AreParts f from middle to less more first₁ len₁ first₂ len₂ → len₁ ≤ len → more - less ≤ len → len₂ ≤ len → (len ≤ len₁ → first ≤ first₁) → (len ≤ more - less → first ≤ less) → (len ≤ len₂ → first ≤ first₂) → (i : ℕ) → 0 < len → from ≤ i → i + len ≤ to → IsClear f i (i + len) → first ≤ i
lowest_of f from middle to less more first₁ len₁ first₂ len₂ first len parts h₁ h h₂ q₁ q q₂ i some le inside clear =
    elim (cases_lt middle (i + len)) [
      | inl past ↦ elim (cases_lt i middle) [
        | inl before ↦ (
            let low = parts.back.most i le (λ j ge lt. clear j ge (omega arith)) in
            let high = parts.front.most (i + len) inside (λ j ge lt. clear j (omega arith) lt) in
            let first_low = q (omega arith) in
            omega arith)
        | inr behind ↦ (
            let long = parts.right.longest i len behind inside clear in
            let low = parts.right.lowest i (omega arith) behind (omega arith) (λ j ge lt. clear j ge (omega arith)) in
            let first_low = q₂ long in
            omega arith)
      ]
      | inr within ↦ (
          let long = parts.left.longest i len le within clear in
          let low = parts.left.lowest i (omega arith) le (omega arith) (λ j ge lt. clear j ge (omega arith)) in
          let first_low = q₁ long in
          omega arith)
    ]

left_longest : (f : ℕ → Bool) (from middle to less more first₁ len₁ first₂ len₂ : ℕ) → AreParts f from middle to less more first₁ len₁ first₂ len₂ → more - less ≤ len₁ → len₂ ≤ len₁ → IsLongest f from to first₁ len₁
left_longest f from middle to less more first₁ len₁ first₂ len₂ parts h h₂ =
    let back = parts.left.longest less (middle - less) parts.back.behind (omega (arith, parts.back.inside)) (λ j ge lt. parts.back.clear j ge (omega (arith, parts.back.inside))) in
    let early : first₁ ≤ less = omega (arith, parts.left.inside, parts.back.inside) in
    record {
      behind = parts.left.behind;
      inside = omega (arith, parts.left.inside, parts.front.behind, parts.front.inside);
      clear = parts.left.clear;
      longest = bounded f from middle to less more first₁ len₁ first₂ len₂ len₁ parts (omega arith) h h₂;
      lowest = lowest_of f from middle to less more first₁ len₁ first₂ len₂ first₁ len₁ parts (omega arith) h h₂ (λ q. omega arith) (λ q. early) (λ q. omega (arith, parts.left.inside, parts.right.behind));
    }

across_longest : (f : ℕ → Bool) (from middle to less more first₁ len₁ first₂ len₂ : ℕ) → AreParts f from middle to less more first₁ len₁ first₂ len₂ → len₁ < more - less → len₂ ≤ more - less → IsLongest f from to less (more - less)
across_longest f from middle to less more first₁ len₁ first₂ len₂ parts h h₂ = record {
  behind = parts.back.behind;
  inside = omega (arith, parts.front.inside);
  clear = λ j ge lt. elim (cases_lt j middle) [ inl low ↦ parts.back.clear j ge low | inr high ↦ parts.front.clear j high (omega arith) ];
  longest = bounded f from middle to less more first₁ len₁ first₂ len₂ (more - less) parts (omega arith) (omega arith) h₂;
  lowest = lowest_of f from middle to less more first₁ len₁ first₂ len₂ less (more - less) parts (omega arith) (omega arith) h₂ (λ q. absurd (omega arith)) (λ q. omega arith) (λ q. omega (arith, parts.back.inside, parts.right.behind));
}

right_longest : (f : ℕ → Bool) (from middle to less more first₁ len₁ first₂ len₂ : ℕ) → AreParts f from middle to less more first₁ len₁ first₂ len₂ → len₁ < len₂ → more - less < len₂ → IsLongest f from to first₂ len₂
right_longest f from middle to less more first₁ len₁ first₂ len₂ parts h₁ h = record {
  behind = omega (arith, parts.right.behind, parts.back.behind, parts.back.inside);
  inside = parts.right.inside;
  clear = parts.right.clear;
  longest = bounded f from middle to less more first₁ len₁ first₂ len₂ len₂ parts (omega arith) (omega arith) (omega arith);
  lowest = lowest_of f from middle to less more first₁ len₁ first₂ len₂ first₂ len₂ parts (omega arith) (omega arith) (omega arith) (λ q. absurd (omega arith)) (λ q. absurd (omega arith)) (λ q. omega arith);
}

pub record Takes (first₁ len₁ first₂ len₂ first len : ℕ) : Type 0 where
  pub second : len₁ < len₂ → (first ≡ first₂) × (len ≡ len₂)
  pub kept : len₂ ≤ len₁ → (first ≡ first₁) × (len ≡ len₁)

put_in : (f : ℕ → Bool) (from to first len first' len' : ℕ) → (first ≡ first') × (len ≡ len') → IsLongest f from to first' len' → IsLongest f from to first len
put_in f from to first len first' len' e h = rw (e.0, e.1) h

-- the longer of the left one and the one across, and of that and the right one
pub longest_merged : (f : ℕ → Bool) (from middle to less more first₁ len₁ first₂ len₂ first' len' first len : ℕ) → IsBack f from middle less → IsFront f middle to more → IsLongest f from middle first₁ len₁ → IsLongest f middle to first₂ len₂ → Takes first₁ len₁ less (more - less) first' len' → Takes first' len' first₂ len₂ first len → IsLongest f from to first len
longest_merged f from middle to less more first₁ len₁ first₂ len₂ first' len' first len back front left right one two =
    let parts : AreParts f from middle to less more first₁ len₁ first₂ len₂ = record { back = back; front = front; left = left; right = right } in
    elim (cases_lt len₁ (more - less)) [
      | inl longer ↦ (
          let e = one.second longer in
          elim (cases_lt len' len₂) [
            | inl right_one ↦ put_in f from to first len first₂ len₂ (two.second right_one) (right_longest f from middle to less more first₁ len₁ first₂ len₂ parts (omega (arith, e.1)) (omega (arith, e.1)))
            | inr kept ↦ (let k = two.kept kept in put_in f from to first len less (more - less) (k.0 ∙ e.0, k.1 ∙ e.1) (across_longest f from middle to less more first₁ len₁ first₂ len₂ parts longer (omega (arith, e.1))))
          ])
      | inr shorter ↦ (
          let e = one.kept shorter in
          elim (cases_lt len' len₂) [
            | inl right_one ↦ put_in f from to first len first₂ len₂ (two.second right_one) (right_longest f from middle to less more first₁ len₁ first₂ len₂ parts (omega (arith, e.1)) (omega (arith, e.1)))
            | inr kept ↦ (let k = two.kept kept in put_in f from to first len first₁ len₁ (k.0 ∙ e.0, k.1 ∙ e.1) (left_longest f from middle to less more first₁ len₁ first₂ len₂ parts shorter (omega (arith, e.1))))
          ])
    ]
