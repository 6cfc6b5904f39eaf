-- The tree of summaries: what a change of one part leaves, and what is mended.
use Rattle.std.proofs.Common.{◌≡◌, ℕ, zero, suc, ◌+◌, ◌-◌, ◌*◌, ◌/◌, ◌^◌, ◌<◌, ◌≤◌, ◌⊎◌, Bool, List, length, slice_index_or, slice_set, refl, sym, ap, ◌∙◌, inl, inr, arith}
use Rattle.std.proofs.lemmas.Grind.{common_steps}
use lib.Pow.{pow_pos, pow_mono}
use Rattle.bit_set.specs.declared.summary.Summary.{Summary}
use Rattle.bit_set.specs.declared.summary.Met.{Met}
use Rattle.bit_set.specs.Summaries.{IsSummary, IsMet}
use Rattle.bit_set.specs.Trees.{nothing, node, IsNode, IsTree}

pub pow_suc : (k : ℕ) → 2 ^ suc k ≡ 2 ^ k + 2 ^ k
pow_suc k = omega arith

pub pow_level : (level k : ℕ) → level ≡ suc k → 2 ^ level ≡ 2 ^ k + 2 ^ k
pow_level level k e = ap (λ (x : ℕ). 2 ^ x) e ∙ pow_suc k

pub pow_small : (level : ℕ) → level ≤ 54 → 2 ^ level ≤ 2 ^ 54
pow_small level h = pow_mono {i = level} {j = 54} h

pub summary_at : (f : ℕ → Bool) (tree : List Summary) (place place' from from' to to' : ℕ) → place ≡ place' → from ≡ from' → to ≡ to' → IsSummary f from' to' (slice_index_or tree place' nothing) → IsSummary f from to (slice_index_or tree place nothing)
summary_at f tree place place' from from' to to' e e' e'' h = rw (e, e', e'') h

-- ---- the same bits

pub summary_same : (f g : ℕ → Bool) (from to : ℕ) (s : Summary) → ((i : ℕ) → from ≤ i → i < to → g i ≡ f i) → IsSummary f from to s → IsSummary g from to s
summary_same f g from to s same is = record {
  front = record {
    behind = is.front.behind;
    inside = is.front.inside;
    clear = λ j ge lt. same j ge (omega (arith, is.front.inside)) ∙ is.front.clear j ge lt;
    most = λ e le clear. is.front.most e le (λ j ge lt. sym (same j ge (omega arith)) ∙ clear j ge lt);
  };
  back = record {
    behind = is.back.behind;
    inside = is.back.inside;
    clear = λ j ge lt. same j (omega (arith, is.back.behind)) lt ∙ is.back.clear j ge lt;
    most = λ i le clear. is.back.most i le (λ j ge lt. sym (same j (omega arith) lt) ∙ clear j ge lt);
  };
  longest = record {
    behind = is.longest.behind;
    inside = is.longest.inside;
    clear = λ j ge lt. same j (omega (arith, is.longest.behind)) (omega (arith, is.longest.inside)) ∙ is.longest.clear j ge lt;
    longest = λ i n le within clear. is.longest.longest i n le within (λ j ge lt. sym (same j (omega arith) (omega arith)) ∙ clear j ge lt);
    lowest = λ i some le within clear. is.longest.lowest i some le within (λ j ge lt. sym (same j (omega arith) (omega arith)) ∙ clear j ge lt);
  };
}

pub summary_of_part : (f : ℕ → Bool) (from to from' to' : ℕ) (s : Summary) → from ≡ from' → to ≡ to' → IsSummary f from to s → IsSummary f from' to' s
summary_of_part f from to from' to' s e e' is = rw (← e, ← e') is

-- a block was scanned whole
pub scanned : (f : ℕ → Bool) (from len to : ℕ) (met : Met) → IsMet f from len met → met.to ≤ from + len → (met.to ≡ from + len) ⊎ (len ≤ met.runs.longest.len) → from + len ≡ to → IsSummary f from to met.runs
scanned f from len to met is inside done e =
    let all : met.to ≡ to = elim done [ inl whole ↦ omega arith | inr long ↦ omega (arith, is.runs.longest.behind, is.runs.longest.inside) ] in
    summary_of_part f from met.to from to met.runs refl all is.runs

-- ---- parts of a tree

pub tree_single : (f : ℕ → Bool) (tree : List Summary) (first end level start : ℕ) → level ≡ 0 → IsNode f tree first end start 1 → IsTree f tree first end level start
unfolding IsTree
tree_single f tree first end level start e h = rw e h

pub tree_split : (f : ℕ → Bool) (tree : List Summary) (first end level k start half : ℕ) → level ≡ suc k → 2 ^ k ≡ half → IsTree f tree first end level start → IsTree f tree first end k start × IsTree f tree first end k (start + half) × IsNode f tree first end start (half + half)
unfolding IsTree
tree_split f tree first end level k start half e e' h =
    let parts : IsTree f tree first end k start × IsTree f tree first end k (start + 2 ^ k) × IsNode f tree first end start (2 ^ k + 2 ^ k) = rw e at h in
    rw (← e') parts

pub tree_join : (f : ℕ → Bool) (tree : List Summary) (first end level k start half : ℕ) → level ≡ suc k → 2 ^ k ≡ half → IsTree f tree first end k start → IsTree f tree first end k (start + half) → IsNode f tree first end start (half + half) → IsTree f tree first end level start
unfolding IsTree
tree_join f tree first end level k start half e e' left right root =
    let parts : IsTree f tree first end k start × IsTree f tree first end k (start + 2 ^ k) × IsNode f tree first end start (2 ^ k + 2 ^ k) = rw e' (left, right, root) in
    rw e parts

pub tree_root : (f : ℕ → Bool) (tree : List Summary) (first end k start size : ℕ) → 2 ^ k ≡ size → IsTree f tree first end k start → IsNode f tree first end start size
unfolding IsTree
tree_root f tree first end zero start size e h = (let one : size ≡ 1 = omega arith in rw one h)
tree_root f tree first end (suc k) start size e h = (let two : size ≡ 2 ^ k + 2 ^ k = omega (arith, pow_suc k) in rw two h.2)

-- ---- a part in which no block has changed

apart_left : (first end start half : ℕ) → (start + (half + half) ≤ first) ⊎ (end ≤ start) → (start + half ≤ first) ⊎ (end ≤ start)
apart_left first end start half (inl low) = inl (omega arith)
apart_left first end start half (inr high) = inr high

apart_right : (first end start half : ℕ) → (start + (half + half) ≤ first) ⊎ (end ≤ start) → (start + half + half ≤ first) ⊎ (end ≤ start + half)
apart_right first end start half (inl low) = inl (omega arith)
apart_right first end start half (inr high) = inr (omega arith)

apart_two : (first end start size size' : ℕ) → size ≡ size' → (start + size ≤ first) ⊎ (end ≤ start) → (start + size' ≤ first) ⊎ (end ≤ start)
apart_two first end start size size' e (inl low) = inl (omega arith)
apart_two first end start size size' e (inr high) = inr high

pub tree_apart : (f : ℕ → Bool) (tree : List Summary) (first end level start : ℕ) → (start + 2 ^ level ≤ first) ⊎ (end ≤ start) → IsTree f tree first end level start → IsTree f tree 0 0 level start
unfolding IsTree
tree_apart f tree first end zero start apart h = λ fits out. h fits (apart_two first end start (2 ^ 0) 1 (omega arith) apart)
tree_apart f tree first end (suc k) start apart h =
    let two : (start + (2 ^ k + 2 ^ k) ≤ first) ⊎ (end ≤ start) = apart_two first end start (2 ^ suc k) (2 ^ k + 2 ^ k) (pow_suc k) apart in (
      tree_apart f tree first end k start (apart_left first end start (2 ^ k) two) h.0,
      tree_apart f tree first end k (start + 2 ^ k) (apart_right first end start (2 ^ k) two) h.1,
      λ fits out. h.2 fits two,
    )

-- ---- a part whose summaries stay

node_same : (f : ℕ → Bool) (t u : List Summary) (first end start size : ℕ) → length u ≡ length t → slice_index_or u (2 * start + size - 1) nothing ≡ slice_index_or t (2 * start + size - 1) nothing → IsNode f t first end start size → IsNode f u first end start size
node_same f t u first end start size e same h = λ fits out. rw same (h (omega arith) out)

pub tree_same : (f : ℕ → Bool) (t u : List Summary) (first end level start : ℕ) → length u ≡ length t → ((i : ℕ) → 2 * start ≤ i → i + 1 < 2 * start + 2 * 2 ^ level → slice_index_or u i nothing ≡ slice_index_or t i nothing) → IsTree f t first end level start → IsTree f u first end level start
unfolding IsTree
tree_same f t u first end zero start e same h = node_same f t u first end start 1 e (same (2 * start + 1 - 1) (omega arith) (omega arith)) h
tree_same f t u first end (suc k) start e same h =
    let two = pow_suc k in
    let some = pow_pos k in (
      tree_same f t u first end k start e (λ i ge lt. same i ge (omega arith)) h.0,
      tree_same f t u first end k (start + 2 ^ k) e (λ i ge lt. same i (omega arith) (omega arith)) h.1,
      node_same f t u first end start (2 ^ k + 2 ^ k) e (same (2 * start + (2 ^ k + 2 ^ k) - 1) (omega arith) (omega arith)) h.2,
    )

-- ---- bits that change in some blocks

node_moved : (f g : ℕ → Bool) (tree : List Summary) (first end start size : ℕ) → ((i : ℕ) → i < 1024 * (length tree / 2) → (i < 1024 * first) ⊎ (1024 * end ≤ i) → g i ≡ f i) → IsNode f tree 0 0 start size → IsNode g tree first end start size
node_moved f g tree first end start size same h = λ fits out.
    summary_same f g (1024 * start) (1024 * (start + size)) (node tree start size)
    (elim out [
      | inl low ↦ (λ i ge lt. same i (omega arith) (inl (omega arith)))
      | inr high ↦ (λ i ge lt. same i (omega arith) (inr (omega arith)))
    ])
    (h fits (inr (omega arith)))

pub tree_moved : (f g : ℕ → Bool) (tree : List Summary) (first end level start : ℕ) → ((i : ℕ) → i < 1024 * (length tree / 2) → (i < 1024 * first) ⊎ (1024 * end ≤ i) → g i ≡ f i) → IsTree f tree 0 0 level start → IsTree g tree first end level start
unfolding IsTree
tree_moved f g tree first end zero start same h = node_moved f g tree first end start 1 same h
tree_moved f g tree first end (suc k) start same h = (tree_moved f g tree first end k start same h.0, tree_moved f g tree first end k (start + 2 ^ k) same h.1, node_moved f g tree first end start (2 ^ k + 2 ^ k) same h.2)

-- where all blocks have changed, nothing is asked
node_new : (f : ℕ → Bool) (tree : List Summary) (blocks start size : ℕ) → 0 < size → length tree / 2 ≤ blocks → IsNode f tree 0 blocks start size
node_new f tree blocks start size some all = λ fits out. elim out [ inl none ↦ absurd (omega arith) | inr past ↦ absurd (omega arith) ]

pub tree_new : (f : ℕ → Bool) (tree : List Summary) (blocks level start : ℕ) → length tree / 2 ≤ blocks → IsTree f tree 0 blocks level start
unfolding IsTree
tree_new f tree blocks zero start all = node_new f tree blocks start 1 (omega arith) all
tree_new f tree blocks (suc k) start all =
    let some = pow_pos k in
    (tree_new f tree blocks k start all, tree_new f tree blocks k (start + 2 ^ k) all, node_new f tree blocks start (2 ^ k + 2 ^ k) (omega arith) all)

-- ---- a node that is mended, after its halves

-- all but the summaries of these blocks stays
abbrev pub Stays : List Summary → List Summary → ℕ → ℕ → Type 0
Stays t u start size = (i : ℕ) → (i < 2 * start) ⊎ (2 * start + 2 * size ≤ i + 1) → slice_index_or u i nothing ≡ slice_index_or t i nothing

-- all but this place stays
abbrev pub StaysBut : List Summary → List Summary → ℕ → Type 0
StaysBut t u place = (i : ℕ) → (i < place) ⊎ (place < i) → slice_index_or u i nothing ≡ slice_index_or t i nothing

pub stays : (t₀ t₁ t₂ t₃ : List Summary) (k start half size : ℕ) → 2 ^ k ≡ half → size ≡ half + half → Stays t₀ t₁ start (2 ^ k) → Stays t₁ t₂ (start + half) (2 ^ k) → StaysBut t₂ t₃ (2 * start + (half + half) - 1) → Stays t₀ t₃ start size
stays t₀ t₁ t₂ t₃ k start half size e e' one two three = λ i out.
    let some = pow_pos k in
    elim out [
      | inl low ↦ three i (inl (omega arith)) ∙ two i (inl (omega arith)) ∙ one i (inl low)
      | inr high ↦ three i (inr (omega arith)) ∙ two i (inr (omega arith)) ∙ one i (inr (omega arith))
    ]

pub mended : (f : ℕ → Bool) (t₀ t₁ t₂ t₃ : List Summary) (first end level k start half : ℕ) → level ≡ suc k → 2 ^ k ≡ half → length t₁ ≡ length t₀ → length t₂ ≡ length t₁ → length t₃ ≡ length t₂ → Stays t₀ t₁ start (2 ^ k) → Stays t₁ t₂ (start + half) (2 ^ k) → StaysBut t₂ t₃ (2 * start + (half + half) - 1) → (IsTree f t₀ first end k start → IsTree f t₁ 0 0 k start) → (IsTree f t₁ first end k (start + half) → IsTree f t₂ 0 0 k (start + half)) → (start + (half + half) ≤ length t₂ / 2 → IsSummary f (1024 * start) (1024 * (start + half)) (node t₂ start half) → IsSummary f (1024 * (start + half)) (1024 * (start + half + half)) (node t₂ (start + half) half) → IsSummary f (1024 * start) (1024 * (start + (half + half))) (node t₃ start (half + half))) → IsTree f t₀ first end level start → IsTree f t₃ 0 0 level start
mended f t₀ t₁ t₂ t₃ first end level k start half e e' n₁ n₂ n₃ one two three left right root tree =
    let some = pow_pos k in
    let parts = tree_split f t₀ first end level k start half e e' tree in
    let left₂ = tree_same f t₁ t₂ 0 0 k start n₂ (λ i ge lt. two i (inl (omega arith))) (left parts.0) in
    let right₁ = tree_same f t₀ t₁ first end k (start + half) n₁ (λ i ge lt. one i (inr (omega arith))) parts.1 in
    let right₂ = right right₁ in
    let left₃ = tree_same f t₂ t₃ 0 0 k start n₃ (λ i ge lt. three i (inl (omega arith))) left₂ in
    let right₃ = tree_same f t₂ t₃ 0 0 k (start + half) n₃ (λ i ge lt. three i (inr (omega arith))) right₂ in
    let low = tree_root f t₂ 0 0 k start half e' left₂ in
    let high = tree_root f t₂ 0 0 k (start + half) half e' right₂ in
    let here : IsNode f t₃ 0 0 start (half + half) = (λ fits out. root (omega arith) (low (omega arith) (inr (omega arith))) (high (omega arith) (inr (omega arith)))) in
    tree_join f t₃ 0 0 level k start half e e' left₃ right₃ here

-- ---- a summary that is written

pub summary_put : (f : ℕ → Bool) (tree : List Summary) (place place' from to : ℕ) (s : Summary) → place ≡ place' → place' < length tree → IsSummary f from to s → IsSummary f from to (slice_index_or (slice_set tree place s) place' nothing)
summary_put f tree place place' from to s e inside h =
    let there : slice_index_or (slice_set tree place s) place' nothing ≡ s = grind (arith, common_steps) in
    rw there h
