-- Where the bytes of a touched block differ.
use Rattle.std.proofs.Common.{◌≡◌, ℕ, zero, suc, ◌+◌, ◌-◌, ◌*◌, ◌<◌, ◌≤◌, ◌⊎◌, Bool, true, false, cond, ltb, eqb, List, [], ◌∷◌, length, get_or, take, drop, refl, sym, ap, ◌∙◌, inl, inr, arith}
use Rattle.std.specs.Prelude.{◌||◌}
use Rattle.std.proofs.lemmas.Bool.{cases_lt, cases_Bool, eqb-true, eq-eqb, ne_eqb}
use Rattle.std.proofs.lemmas.Grind.{same_number_lists}
use Rattle.std.proofs.lemmas.List.{length-take, length-drop, get_or-take, get_or-drop}
use Rattle.plan_bodies.specs.disk_model.Bytes.{part, written}
use Rattle.block_view.proofs.disk_model.Frames.{written_within, written_before, written_behind, length-written}
use Rattle.plan_bodies.specs.disk_model.Sectors.{sectors}
use Rattle.plan_draft.specs.declared.touched.Touched.{Touched}
use Rattle.plan_draft.specs.Touching.{IsWhole}
use Rattle.plan_draft.specs.Finishing.{same_front, differ_end, is_whole_change, change_start, change_end}

pub front_within : (olds news : List ℕ) → same_front olds news ≤ length news
unfolding same_front
front_within [] news = omega arith
front_within (x ∷ olds) [] = omega arith
front_within (x ∷ olds) (y ∷ news) = elim (cases_Bool (eqb x y)) [
  | inl same ↦ rw same (let rest = front_within olds news in omega (arith, rest))
  | inr other ↦ rw other (omega arith)
]

front_at : (x y : ℕ) (olds news : List ℕ) (i : ℕ) → y ≡ x → ((k : ℕ) → suc k ≡ i → get_or news k 0 ≡ get_or olds k 0) → get_or (y ∷ news) i 0 ≡ get_or (x ∷ olds) i 0
front_at x y olds news zero same rest = same
front_at x y olds news (suc i) same rest = rest i refl

front_same : (olds news : List ℕ) (i : ℕ) → i < same_front olds news → get_or news i 0 ≡ get_or olds i 0
unfolding same_front
front_same [] news i lt = absurd (omega arith)
front_same (x ∷ olds) [] i lt = absurd (omega arith)
front_same (x ∷ olds) (y ∷ news) i lt = elim (cases_Bool (eqb x y)) [
  | inl same ↦ (let more : i < suc (same_front olds news) = rw same at lt in front_at x y olds news i (sym (eqb-true x y same)) (λ k next. front_same olds news k (omega (arith, more, next))))
  | inr other ↦ (let none : i < 0 = rw other at lt in absurd (omega (arith, none)))
]

end_within : (olds news : List ℕ) (n : ℕ) → differ_end olds news n ≤ n
unfolding differ_end
end_within olds news zero = omega arith
end_within olds news (suc n) = elim (cases_Bool (eqb (get_or olds n 0) (get_or news n 0))) [
  | inl same ↦ rw same (let rest = end_within olds news n in omega (arith, rest))
  | inr other ↦ rw other (omega arith)
]

end_same : (olds news : List ℕ) (n i : ℕ) → differ_end olds news n ≤ i → i < n → get_or news i 0 ≡ get_or olds i 0
unfolding differ_end
end_same olds news zero i le lt = absurd (omega arith)
end_same olds news (suc n) i le lt = elim (cases_Bool (eqb (get_or olds n 0) (get_or news n 0))) [
  | inl same ↦ elim (cases_lt i n) [
    | inl below ↦ end_same olds news n i (rw same at le) below
    | inr above ↦ (let last : i ≡ n = omega (arith, above, lt) in rw last (sym (eqb-true (get_or olds n 0) (get_or news n 0) same)))
  ]
  | inr other ↦ (let high : suc n ≤ i = rw other at le in absurd (omega (arith, high, lt)))
]

-- outside of these places nothing differs
pub record Spans (olds news : List ℕ) (start end : ℕ) : Type 0 where
  pub within : end ≤ length news
  pub size : length news ≡ length olds
  pub before : (i : ℕ) → i < start → get_or news i 0 ≡ get_or olds i 0
  pub behind : (i : ℕ) → end ≤ i → i < length news → get_or news i 0 ≡ get_or olds i 0

pub spans : (t : Touched) → IsWhole t → Spans t.old t.new (change_start t) (change_end t)
spans t whole = elim (cases_Bool (is_whole_change t)) [
  | inl all ↦ rw all (record {
    within = omega arith;
    size = whole.new ∙ sym whole.old;
    before = λ i lt. absurd (omega (arith, lt));
    behind = λ i le lt. absurd (omega (arith, le, lt));
  })
  | inr some ↦ rw some (record {
    within = end_within t.old t.new (length t.new);
    size = whole.new ∙ sym whole.old;
    before = front_same t.old t.new;
    behind = end_same t.old t.new (length t.new);
  })
]

-- ---- what the change puts

part_at : (bytes : List ℕ) (start end i : ℕ) → start ≤ i → i < end → end ≤ length bytes → get_or (part start (end - start) bytes) (i - start) 0 ≡ get_or bytes i 0
part_at bytes start end i low high within =
    get_or-take (end - start) (drop start bytes) (i - start) 0 (omega (arith, low, high))
    ∙ get_or-drop start bytes (i - start) 0
    ∙ ap (λ (k : ℕ). get_or bytes k 0) (omega (arith, low))

pub length-part : (bytes : List ℕ) (start end : ℕ) → end ≤ length bytes → length (part start (end - start) bytes) ≡ end - start
length-part bytes start end within =
    let a = length-take (end - start) (drop start bytes) in
    let b = length-drop start bytes in
    omega (arith, a, b, within)

pub all_put : (olds news : List ℕ) (start end : ℕ) → Spans olds news start end → start < end → written start (part start (end - start) news) olds ≡ news
all_put olds news start end spans order =
    let size = spans.size in
    let long = length-written start (part start (end - start) news) olds in
    same_number_lists (written start (part start (end - start) news) olds) news (omega (arith, size, long)) (λ i lt. elim (cases_lt i start) [
      | inl low ↦ written_before start (part start (end - start) news) olds i 0 low ∙ sym (spans.before i low)
      | inr from ↦ elim (cases_lt i end) [
        | inl high ↦
            (let len = length-part news start end spans.within in
            let within = spans.within in
            written_within start (part start (end - start) news) olds i (i - start) 0 (omega (arith, from)) (omega (arith, len, from, high)) (omega (arith, high, within, size))
            ∙ part_at news start end i from high spans.within)
        | inr past ↦
            (let len = length-part news start end spans.within in
            written_behind start (part start (end - start) news) olds i 0 (omega (arith, len, past, order)) ∙ sym (spans.behind i past (omega (arith, lt, long, size))))
      ]
    ])

pub none_put : (olds news : List ℕ) (start end : ℕ) → Spans olds news start end → end ≤ start → olds ≡ news
none_put olds news start end spans order = same_number_lists olds news (sym spans.size) (λ i lt.
    let size = spans.size in
    elim (cases_lt i start) [
      | inl low ↦ sym (spans.before i low)
      | inr from ↦ sym (spans.behind i (omega (arith, from, order)) (omega (arith, lt, size)))
    ])

-- ---- one step of the walks

pub front_more : (olds news : List ℕ) (at : ℕ) → at < length olds → at < length news → get_or olds at 0 ≡ get_or news at 0 → same_front (drop at olds) (drop at news) ≡ suc (same_front (drop (suc at) olds) (drop (suc at) news))
unfolding same_front
front_more [] news at lt lt' same = absurd (omega arith)
front_more (x ∷ olds) [] at lt lt' same = absurd (omega arith)
front_more (x ∷ olds) (y ∷ news) zero lt lt' same = rw (eq-eqb x y same) refl
front_more (x ∷ olds) (y ∷ news) (suc at) lt lt' same = front_more olds news at (omega (arith, lt)) (omega (arith, lt')) same

pub front_ended : (olds news : List ℕ) (at : ℕ) → at < length olds → at < length news → (get_or olds at 0 ≡ get_or news at 0 → ⊥) → same_front (drop at olds) (drop at news) ≡ 0
unfolding same_front
front_ended [] news at lt lt' other = absurd (omega arith)
front_ended (x ∷ olds) [] at lt lt' other = absurd (omega arith)
front_ended (x ∷ olds) (y ∷ news) zero lt lt' other = rw (ne_eqb x y other) refl
front_ended (x ∷ olds) (y ∷ news) (suc at) lt lt' other = front_ended olds news at (omega (arith, lt)) (omega (arith, lt')) other

pub front_past : (olds news : List ℕ) (at : ℕ) → length news ≤ at → same_front (drop at olds) (drop at news) ≡ 0
front_past olds news at le =
    let short = front_within (drop at olds) (drop at news) in
    let none = length-drop at news in
    omega (arith, short, none, le)
