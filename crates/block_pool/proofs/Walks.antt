-- What a walk over all values leaves.
use Rattle.std.proofs.Common.{◌≡◌, ℕ, Bool, true, false, not, cond, List, [], ◌∷◌, map, filter, Option, refl, sym, ap, subst, ◌∙◌}
use Rattle.std.specs.Prelude.{All}
use Rattle.std.specs.Map.{lookup, keys_of}
use Rattle.std.specs.Map.Calls.{RetainsPairs}
use Rattle.std.specs.Ordering.{is_eq, nat_cmp}
use Rattle.std.proofs.lemmas.List.Elements.{All-cons, All-head, All-tail}
use Rattle.std.proofs.lemmas.Map.Entries.{filter_from_retain_pairs}
use Rattle.disk_model.specs.declared.block.Block.{Block}
use Rattle.block_pool.specs.Numbers.{block_at, shown}
use Rattle.block_pool.specs.Pools.{held, kept_blocks, turned_values, passes}
use Rattle.block_pool.proofs.Ordering.{number_at}
use Rattle.block_pool.proofs.Shown.{found}

module _ {X F : Type 0} (T : F → ℕ → X → Bool → X → F → Type 0) where
  kept_all : (t : Bool) (es fs : List (ℕ × X)) → t ≡ true → cond t es fs ≡ es
  kept_all true es fs e = refl
  kept_all false es fs e = absurd cc

  turned_entries : (turn : X → X) (f : F) → ((k : ℕ) (v : X) (b : Bool) (w : X) (f' : F) → T f k v b w f' → (b ≡ true) × (w ≡ turn v) × (f' ≡ f))
      → (es kept : List (ℕ × X)) → RetainsPairs T f es kept → kept ≡ map (λ e. (e.0, turn e.1)) es
  turned_entries turn f told [] kept s = s
  turned_entries turn f told (e ∷ es) kept s =
      let t = told e.0 e.1 s.0 s.1 s.2 s.4 in
      s.6 ∙ kept_all s.0 ((e.0, s.1) ∷ s.3) s.3 t.0 ∙ ap (λ (w : X). (e.0, w) ∷ s.3) t.1
      ∙ ap (λ (rest : List (ℕ × X)). (e.0, turn e.1) ∷ rest) (turned_entries turn f told es s.3 (subst (λ (g : F). RetainsPairs T g es s.3) t.2 s.5))

  shown_turned : (turn : X → X) (es : List (ℕ × X)) → shown (map (λ e. (e.0, turn e.1)) es) ≡ turned_values turn (shown es)
  shown_turned turn [] = refl
  shown_turned turn (e ∷ es) = ap (λ (rest : List (Block × X)). (block_at e.0, turn e.1) ∷ rest) (shown_turned turn es)

  pub turned_pairs : (turn : X → X) (f : F) → ((k : ℕ) (v : X) (b : Bool) (w : X) (f' : F) → T f k v b w f' → (b ≡ true) × (w ≡ turn v) × (f' ≡ f))
      → (es kept : List (ℕ × X)) (now : List (Block × X)) → RetainsPairs T f es kept → shown es ≡ now → shown kept ≡ turned_values turn now
  turned_pairs turn f told es kept now s shows = ap shown (turned_entries turn f told es kept s) ∙ shown_turned turn es ∙ ap (turned_values turn) shows

  turned_keys : (turn : X → X) (es : List (ℕ × X)) → keys_of (map (λ e. (e.0, turn e.1)) es) ≡ keys_of es
  turned_keys turn [] = refl
  turned_keys turn (e ∷ es) = ap (λ (ks : List ℕ). e.0 ∷ ks) (turned_keys turn es)

  pub turned_small : (P : ℕ → Type 0) (turn : X → X) (f : F) → ((k : ℕ) (v : X) (b : Bool) (w : X) (f' : F) → T f k v b w f' → (b ≡ true) × (w ≡ turn v) × (f' ≡ f))
      → (es kept : List (ℕ × X)) → RetainsPairs T f es kept → All P (keys_of es) → All P (keys_of kept)
  turned_small P turn f told es kept s small = subst (λ (ks : List ℕ). All P ks) (sym (ap keys_of (turned_entries turn f told es kept s) ∙ turned_keys turn es)) small

  filtered_step : (P : ℕ → Type 0) (t : Bool) (e : ℕ × X) (rest : List (ℕ × X)) → P e.0 → All P (keys_of rest) → All P (keys_of (cond t (e ∷ rest) rest))
  filtered_step P true e rest first small = All-cons P e.0 (keys_of rest) first small
  filtered_step P false e rest first small = small

  filtered_keys : (P : ℕ → Type 0) (p : ℕ → Bool) (es : List (ℕ × X)) → All P (keys_of es) → All P (keys_of (filter (λ e. p e.0) es))
  filtered_keys P p [] small = small
  filtered_keys P p (e ∷ es) small = filtered_step P (p e.0) e (filter (λ e. p e.0) es) (All-head P _ _ small) (filtered_keys P p es (All-tail P _ _ small))

  filter_step : (t u : Bool) (e : ℕ × X) (es : List (ℕ × X)) (rest : List (Block × X)) → t ≡ u → shown es ≡ rest → shown (cond t (e ∷ es) es) ≡ cond u ((block_at e.0, e.1) ∷ rest) rest
  filter_step true true e es rest same shows = ap (λ (xs : List (Block × X)). (block_at e.0, e.1) ∷ xs) shows
  filter_step true false e es rest same shows = absurd cc
  filter_step false true e es rest same shows = absurd cc
  filter_step false false e es rest same shows = shows

  shown_filtered : (p : ℕ → Bool) (q : Block → Bool) → ((n : ℕ) → p n ≡ q (block_at n)) → (es : List (ℕ × X)) → shown (filter (λ e. p e.0) es) ≡ kept_blocks q (shown es)
  shown_filtered p q same [] = refl
  shown_filtered p q same (e ∷ es) = filter_step (p e.0) (q (block_at e.0)) e (filter (λ e. p e.0) es) (kept_blocks q (shown es)) (same e.0) (shown_filtered p q same es)

  module _ {S : Type 0} (test : S → Bool) (others : List (ℕ × S)) (other : List (Block × S)) (shows_other : shown others ≡ other) where
    abbrev stays : ℕ → Bool
    stays n = not (passes test (lookup (λ m. is_eq (nat_cmp n m)) others))

    stays_there : (n : ℕ) → stays n ≡ not (passes test (held other (block_at n)))
    stays_there n = ap (λ (o : Option S). not (passes test o)) (found (block_at n) n others other (sym (number_at n)) shows_other)

    pub kept_pairs : (f : F) → ((k : ℕ) (v : X) (b : Bool) (w : X) (f' : F) → T f k v b w f' → (b ≡ not (passes test (lookup (λ m. is_eq (nat_cmp k m)) others))) × (w ≡ v) × (f' ≡ f))
        → (es kept : List (ℕ × X)) (now : List (Block × X)) → RetainsPairs T f es kept → shown es ≡ now → shown kept ≡ kept_blocks (λ b. not (passes test (held other b))) now
    kept_pairs f told es kept now s shows =
        ap shown (filter_from_retain_pairs T (λ g. g ≡ f) (λ e. stays e.0) (λ g k v b w g' is call. let t = told k v b w g' (subst (λ (h : F). T h k v b w g') is call) in t) f es kept refl s)
        ∙ shown_filtered stays (λ b. not (passes test (held other b))) stays_there es ∙ ap (kept_blocks (λ b. not (passes test (held other b)))) shows

    pub kept_small : (P : ℕ → Type 0) (f : F) → ((k : ℕ) (v : X) (b : Bool) (w : X) (f' : F) → T f k v b w f' → (b ≡ not (passes test (lookup (λ m. is_eq (nat_cmp k m)) others))) × (w ≡ v) × (f' ≡ f))
        → (es kept : List (ℕ × X)) → RetainsPairs T f es kept → All P (keys_of es) → All P (keys_of kept)
    kept_small P f told es kept s small =
        subst (λ (rest : List (ℕ × X)). All P (keys_of rest))
        (sym (filter_from_retain_pairs T (λ g. g ≡ f) (λ e. stays e.0) (λ g k v b w g' is call. let t = told k v b w g' (subst (λ (h : F). T h k v b w g') is call) in t) f es kept refl s))
        (filtered_keys P stays es small)
