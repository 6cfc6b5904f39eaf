-- Marks of the blocks that were met.
use Rattle.std.proofs.Common.{◌≡◌, ◌≢◌, ℕ, zero, suc, ◌+◌, ◌*◌, ◌/◌, ◌%◌, ◌<◌, ◌≤◌, Bool, true, false, List, [], ◌∷◌, length, get_or, Option, None, refl, sym, ap, ◌∙◌, subst, inl, inr, arith}
use Rattle.std.specs.Prelude.{◌&&◌, ◌==◌, not, nat_lt, slice_get, is_some, if◌then◌else◌}
use Rattle.std.proofs.lemmas.Bool.{and_parts, ltb-true, eqb-true, eq-eqb, ne_eqb, not-true, cases_eq}
use Rattle.std.proofs.lemmas.List.{get_or-set_same, get_or-set_other, get_or-replicate}
use Rattle.std.proofs.lemmas.Nat.{div-add-mod'}
use Rattle.state_model.specs.disk_model.declared.block.Block.{Block}
use Rattle.index_model.specs.Trees.{one_if, same}
use Rattle.index_model.specs.Indexes.{Place, number_of, node_block}
use Rattle.index_model.specs.Walks.{Met, is_fresh, with_mark, nothing_met}

-- the block with this VCN was met
abbrev pub met_before : Place → Met → ℕ → Bool
met_before p m v = is_some (node_block p v) && get_or m.marks (number_of p v) true

test_held : (b : Bool) (o : Option Block) → is_some (if b then o else None) ≡ true → b ≡ true
test_held true o h = refl
test_held false o h = absurd cc

pub inside : (p : Place) (v : ℕ) → is_some (node_block p v) ≡ true → (0 < p.step) × (v % p.step ≡ 0)
unfolding node_block
inside p v h =
    let a = and_parts (nat_lt 0 p.step) (v % p.step == 0) (test_held (nat_lt 0 p.step && v % p.step == 0) (slice_get p.blocks (number_of p v)) h) in
    (ltb-true 0 p.step a.0, eqb-true (v % p.step) 0 a.1)

number_is : (p : Place) (v : ℕ) → 0 < p.step → number_of p v ≡ v / p.step
number_is p v h = let e : (p.step == 0) ≡ false = ne_eqb p.step 0 (λ z. omega arith) in rw e

pub one_number : (p : Place) (v w : ℕ) → is_some (node_block p v) ≡ true → is_some (node_block p w) ≡ true → number_of p v ≡ number_of p w → v ≡ w
one_number p v w hv hw e =
    let a = inside p v hv in
    let b = inside p w hw in
    let f : v / p.step ≡ w / p.step = sym (number_is p v a.0) ∙ e ∙ number_is p w a.0 in
    let va = div-add-mod' v p.step in
    let wa = div-add-mod' w p.step in
    let both : v / p.step * p.step ≡ w / p.step * p.step = ap (λ n. n * p.step) f in
    omega arith

not_past : (marks : List Bool) (k : ℕ) → get_or marks k true ≡ false → k < length marks
not_past [] k h = absurd cc
not_past (b ∷ marks) zero h = omega arith
not_past (b ∷ marks) (suc k) h = let r = not_past marks k h in omega arith

fresh_parts : (p : Place) (m : Met) (v : ℕ) → is_fresh p m v ≡ true → (is_some (node_block p v) ≡ true) × (get_or m.marks (number_of p v) true ≡ false)
fresh_parts p m v h = let a = and_parts (is_some (node_block p v)) (not (get_or m.marks (number_of p v) true)) h in (a.0, not-true _ a.1)

same_is : (x v : ℕ) → x ≡ v → same x v ≡ 1
unfolding same
same_is x v e = ap one_if (eq-eqb x v e)

pub same_not : (x v : ℕ) → (x ≡ v → ⊥) → same x v ≡ 0
unfolding same
same_not x v e = ap one_if (ne_eqb x v e)

mark_here : (p : Place) (m : Met) (v : ℕ) → is_fresh p m v ≡ true → (met_before p m v ≡ false) × (met_before p (with_mark p m v) v ≡ true)
mark_here p m v h =
    let a = fresh_parts p m v h in
    (rw (a.0, a.1) refl, rw (a.0) (get_or-set_same m.marks (number_of p v) true true (not_past m.marks (number_of p v) a.1)))

mark_other : (p : Place) (m : Met) (v x : ℕ) → is_fresh p m v ≡ true → (x ≡ v → ⊥) → (b : Bool) → is_some (node_block p x) ≡ b → met_before p (with_mark p m v) x ≡ met_before p m x
mark_other p m v x h ne true has =
    let a = fresh_parts p m v h in
    let other : number_of p x ≢ number_of p v = (λ e. ne (one_number p x v has a.0 e)) in
    ap (λ b. is_some (node_block p x) && b) (get_or-set_other m.marks (number_of p v) (number_of p x) true true other)
mark_other p m v x h ne false has = rw has refl

-- one block more was met
pub marked : (p : Place) (m : Met) (v x : ℕ) → is_fresh p m v ≡ true → one_if (met_before p (with_mark p m v) x) ≡ one_if (met_before p m x) + same x v
marked p m v x h = elim (cases_eq x v) [
  | inl e ↦
      let a = mark_here p m v h in
      let P : ℕ → Type 0 = λ y. one_if (met_before p (with_mark p m v) y) ≡ one_if (met_before p m y) + same y v in
      subst P (sym e) (ap one_if a.1 ∙ sym (ap (λ b. one_if b + same v v) a.0 ∙ ap (λ n. 0 + n) (same_is v v refl)))
  | inr ne ↦ ap one_if (mark_other p m v x h ne _ refl) ∙ sym (ap (λ n. one_if (met_before p m x) + n) (same_not x v ne) ∙ omega arith)
]

-- a VCN that may be met
pub may_meet : (p : Place) (m : Met) (v : ℕ) → is_some (node_block p v) ≡ true → one_if (met_before p m v) + same v v ≤ 1 → is_fresh p m v ≡ true
may_meet p m v has few = rw has (not_met (get_or m.marks (number_of p v) true) (rw has at few))
  where
    not_met : (b : Bool) → one_if (true && b) + same v v ≤ 1 → not b ≡ true
    not_met true h = absurd (let one = same_is v v refl in omega arith)
    not_met false h = refl

held_by : (b : Bool) (o : Option Block) → is_some (if b then o else None) ≡ true → is_some o ≡ true
held_by true o h = h
held_by false o h = absurd cc

in_list : (bs : List Block) (k : ℕ) → is_some (slice_get bs k) ≡ true → k < length bs
in_list [] k h = absurd cc
in_list (b ∷ bs) zero h = omega arith
in_list (b ∷ bs) (suc k) h = let r = in_list bs k h in omega arith

in_blocks : (p : Place) (v : ℕ) → is_some (node_block p v) ≡ true → number_of p v < length p.blocks
unfolding node_block
in_blocks p v h = in_list p.blocks (number_of p v) (held_by (nat_lt 0 p.step && v % p.step == 0) (slice_get p.blocks (number_of p v)) h)

none_at_first : (p : Place) (v : ℕ) (b : Bool) → is_some (node_block p v) ≡ b → met_before p (nothing_met p) v ≡ false
none_at_first p v true has = rw has (get_or-replicate (length p.blocks) (number_of p v) false true (in_blocks p v has))
none_at_first p v false has = rw has refl

pub nothing_before : (p : Place) (v : ℕ) → one_if (met_before p (nothing_met p) v) ≡ 0
nothing_before p v = ap one_if (none_at_first p v _ refl)
