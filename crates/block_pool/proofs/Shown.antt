-- What a map has by numbers, and by block.
use Rattle.std.proofs.Common.{◌≡◌, ℕ, Bool, true, false, not, cond, List, [], ◌∷◌, Option, Some, None, refl, sym, ap, ◌∙◌}
use Rattle.std.specs.Map.{lookup, remove_entry}
use Rattle.std.specs.declared.cmp.Ordering.{Ordering}
use Rattle.std.specs.declared.cmp.Ordering.TheVariants.{Less, Equal, Greater}
use Rattle.std.specs.Ordering.{is_eq, match_ordering, nat_cmp}
use Rattle.std.specs.BTreeMap.{insert_entry}
use Rattle.disk_model.specs.declared.block.Block.{Block}
use Rattle.disk_model.specs.Sectors.{same_block}
use Rattle.block_pool.specs.Numbers.{block_number, block_at, shown}
use Rattle.block_pool.specs.Pools.{held, with_block, without_block}
use Rattle.block_pool.proofs.Ordering.{order_equal, number_at, at_number}

-- a number is that of the block exactly where its block is the same
is_there : (b : Block) (n : ℕ) → is_eq (nat_cmp (block_number b) n) ≡ same_block b (block_at n)
is_there b n = ap (λ (m : ℕ). is_eq (nat_cmp (block_number b) m)) (sym (number_at n)) ∙ order_equal b (block_at n)

module _ {X : Type 0} where
  pub lookup_shown : (b : Block) (es : List (ℕ × X)) → lookup (λ n. is_eq (nat_cmp (block_number b) n)) es ≡ held (shown es) b
  lookup_shown b [] = refl
  lookup_shown b (e ∷ es) =
      ap (λ (t : Bool). cond t (Some e.1) (lookup (λ n. is_eq (nat_cmp (block_number b) n)) es)) (is_there b e.0)
      ∙ ap (λ (o : Option X). cond (same_block b (block_at e.0)) (Some e.1) o) (lookup_shown b es)

  insert_step : (b : Block) (x : X) (e : ℕ × X) (es : List (ℕ × X)) → shown (insert_entry nat_cmp es (block_number b) x) ≡ with_block b x (shown es) → (o : Ordering)
      → shown (match_ordering o ((block_number b, x) ∷ e ∷ es) ((e.0, x) ∷ es) (e ∷ insert_entry nat_cmp es (block_number b) x))
      ≡ match_ordering o ((b, x) ∷ (block_at e.0, e.1) ∷ shown es) ((block_at e.0, x) ∷ shown es) ((block_at e.0, e.1) ∷ with_block b x (shown es))
  insert_step b x e es rest Less = ap (λ (c : Block). (c, x) ∷ (block_at e.0, e.1) ∷ shown es) (at_number b)
  insert_step b x e es rest Equal = refl
  insert_step b x e es rest Greater = ap (λ (es : List (Block × X)). (block_at e.0, e.1) ∷ es) rest

  pub insert_shown : (b : Block) (x : X) (es : List (ℕ × X)) → shown (insert_entry nat_cmp es (block_number b) x) ≡ with_block b x (shown es)
  insert_shown b x [] = ap (λ (c : Block). (c, x) ∷ []) (at_number b)
  insert_shown b x (e ∷ es) =
      insert_step b x e es (insert_shown b x es) (nat_cmp (block_number b) e.0)
      ∙ ap (λ (n : ℕ). match_ordering (nat_cmp (block_number b) n) ((b, x) ∷ (block_at e.0, e.1) ∷ shown es) ((block_at e.0, x) ∷ shown es) ((block_at e.0, e.1) ∷ with_block b x (shown es))) (sym (number_at e.0))

  -- ---- what is taken out

  -- nothing is taken where the block isn't there
  nothing_step : (b : Block) (e : Block × X) (es : List (Block × X)) (t : Bool) → (held es b ≡ None → without_block b es ≡ es) → cond t (Some e.1) (held es b) ≡ None → cond (not t) (e ∷ without_block b es) (without_block b es) ≡ e ∷ es
  nothing_step b e es true rest none = absurd cc
  nothing_step b e es false rest none = ap (λ (es : List (Block × X)). e ∷ es) (rest none)

  nothing_there : (b : Block) (es : List (Block × X)) → held es b ≡ None → without_block b es ≡ es
  nothing_there b [] none = refl
  nothing_there b (e ∷ es) none = nothing_step b e es (same_block b e.0) (nothing_there b es) none

  take_step : (b : Block) (e : ℕ × X) (es rest : List (ℕ × X)) (t u : Bool) → t ≡ u → lookup (λ n. is_eq (nat_cmp (block_number b) n)) es ≡ held (shown es) b
      → (lookup (λ n. is_eq (nat_cmp (block_number b) n)) rest ≡ None → shown rest ≡ without_block b (shown es))
      → cond t (lookup (λ n. is_eq (nat_cmp (block_number b) n)) es) (lookup (λ n. is_eq (nat_cmp (block_number b) n)) rest) ≡ None
      → shown (cond t es (e ∷ rest)) ≡ cond (not u) ((block_at e.0, e.1) ∷ without_block b (shown es)) (without_block b (shown es))
  take_step b e es rest true true same here below none = sym (nothing_there b (shown es) (sym here ∙ none))
  take_step b e es rest true false same here below none = absurd cc
  take_step b e es rest false true same here below none = absurd cc
  take_step b e es rest false false same here below none = ap (λ (es : List (Block × X)). (block_at e.0, e.1) ∷ es) (below none)

  -- what stays once the entry of a block was taken out, where none of it is left
  pub take_shown : (b : Block) (es : List (ℕ × X)) → lookup (λ n. is_eq (nat_cmp (block_number b) n)) (remove_entry (λ n. is_eq (nat_cmp (block_number b) n)) es) ≡ None
      → shown (remove_entry (λ n. is_eq (nat_cmp (block_number b) n)) es) ≡ without_block b (shown es)
  take_shown b [] none = refl
  take_shown b (e ∷ es) none =
      take_step b e es (remove_entry (λ n. is_eq (nat_cmp (block_number b) n)) es) (is_eq (nat_cmp (block_number b) e.0)) (same_block b (block_at e.0)) (is_there b e.0) (lookup_shown b es) (take_shown b es)
      (below (is_eq (nat_cmp (block_number b) e.0)) refl none)
    where
      test : ℕ → Bool
      test n = is_eq (nat_cmp (block_number b) n)

      below : (t : Bool) → test e.0 ≡ t → lookup test (cond t es (e ∷ remove_entry test es)) ≡ None → cond t (lookup test es) (lookup test (remove_entry test es)) ≡ None
      below true h none = none
      below false h none = sym (ap (λ (t : Bool). cond t (Some e.1) (lookup test (remove_entry test es))) h) ∙ none

  -- ---- the same at a number that is the block's

  pub found : (b : Block) (n : ℕ) (es : List (ℕ × X)) (now : List (Block × X)) → n ≡ block_number b → shown es ≡ now → lookup (λ m. is_eq (nat_cmp n m)) es ≡ held now b
  found b n es now is shows = ap (λ (k : ℕ). lookup (λ m. is_eq (nat_cmp k m)) es) is ∙ lookup_shown b es ∙ ap (λ (xs : List (Block × X)). held xs b) shows

  pub put_in : (b : Block) (x : X) (n : ℕ) (es new : List (ℕ × X)) (now : List (Block × X)) → n ≡ block_number b → shown es ≡ now → new ≡ insert_entry nat_cmp es n x → shown new ≡ with_block b x now
  put_in b x n es new now is shows made = ap shown (made ∙ ap (λ (k : ℕ). insert_entry nat_cmp es k x) is) ∙ insert_shown b x es ∙ ap (with_block b x) shows

  pub taken_out : (b : Block) (n : ℕ) (es new : List (ℕ × X)) (now : List (Block × X)) → n ≡ block_number b → shown es ≡ now → new ≡ remove_entry (λ m. is_eq (nat_cmp n m)) es → lookup (λ m. is_eq (nat_cmp n m)) new ≡ None
      → shown new ≡ without_block b now
  taken_out b n es new now is shows made none =
      let made_so : new ≡ remove_entry (λ m. is_eq (nat_cmp (block_number b) m)) es = made ∙ ap (λ (k : ℕ). remove_entry (λ m. is_eq (nat_cmp k m)) es) is in
      let none_so : lookup (λ m. is_eq (nat_cmp (block_number b) m)) (remove_entry (λ m. is_eq (nat_cmp (block_number b) m)) es) ≡ None =
      ap (λ (xs : List (ℕ × X)). lookup (λ m. is_eq (nat_cmp (block_number b) m)) xs) (sym made_so) ∙ ap (λ (k : ℕ). lookup (λ m. is_eq (nat_cmp k m)) new) (sym is) ∙ none in
      ap shown made_so ∙ take_shown b es none_so ∙ ap (without_block b) shows
