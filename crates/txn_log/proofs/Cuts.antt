-- Pieces, one behind the other.
use Rattle.std.proofs.Common.{◌≡◌, ℕ, zero, suc, ◌+◌, ◌-◌, ◌<◌, min, Bool, cond, List, [], ◌∷◌, ◌++◌, map, refl, sym, ap, ap₂, ◌∙◌, append_assoc, arith}
use Rattle.std.proofs.lemmas.Bool.{eq-eqb, ne_eqb}
use Rattle.store_pools.specs.txn_model.Pieces.{Piece, cut}

-- the first piece of these, and the others
pub cut_first : (most at n : ℕ) → 0 < n → cut (suc most) at n ≡ record { at = at; count = min 1900 n } ∷ cut most (at + min 1900 n) (n - min 1900 n)
cut_first most at n some = ap (λ (b : Bool). cond b [] (record { at = at; count = min 1900 n } ∷ cut most (at + min 1900 n) (n - min 1900 n))) (ne_eqb n 0 (λ e. omega (arith, some, e)))

-- of no bytes there is none
pub cut_none : (most at n : ℕ) → n ≡ 0 → cut most at n ≡ []
cut_none zero at n none = refl
cut_none (suc most) at n none = ap (λ (b : Bool). cond b [] (record { at = at; count = min 1900 n } ∷ cut most (at + min 1900 n) (n - min 1900 n))) (eq-eqb n 0 none)

module _ {X : Type 0} (make : Piece → X) (all done : List X) (most from left : ℕ) where
  -- what is made of one piece more
  pub one_more : (more : List X) (item : X) (rest from' left' count : ℕ) → most ≡ suc rest → 0 < left → count ≡ min 1900 left → from' ≡ from + count → left' ≡ left - count
      → item ≡ make (record { at = from; count = count }) → more ≡ done ++ item ∷ [] → done ++ map make (cut most from left) ≡ all → more ++ map make (cut rest from' left') ≡ all
  one_more more item rest from' left' count fuel some count_is from_is left_is item_is is before =
      let first : Piece = record { at = from; count = min 1900 left } in
      let made : item ≡ make first = item_is ∙ ap (λ (n : ℕ). make (record { at = from; count = n })) count_is in
      ap (λ (xs : List X). xs ++ map make (cut rest from' left')) (is ∙ ap (λ (x : X). done ++ x ∷ []) made)
      ∙ ap₂ (λ (at n : ℕ). (done ++ make first ∷ []) ++ map make (cut rest at n)) (from_is ∙ ap (λ (n : ℕ). from + n) count_is) (left_is ∙ ap (λ (n : ℕ). left - n) count_is)
      ∙ append_assoc done (make first ∷ []) (map make (cut rest (from + min 1900 left) (left - min 1900 left)))
      ∙ ap (λ (ps : List Piece). done ++ map make ps) (sym (ap (λ (k : ℕ). cut k from left) fuel ∙ cut_first rest from left some))
      ∙ before

  -- and of none
  pub no_more : (more : List X) (rest from' left' : ℕ) → left ≡ 0 → from' ≡ from → left' ≡ left → more ≡ done → done ++ map make (cut most from left) ≡ all → more ++ map make (cut rest from' left') ≡ all
  no_more more rest from' left' none from_is left_is is before =
      ap (λ (xs : List X). xs ++ map make (cut rest from' left')) is
      ∙ ap (λ (ps : List Piece). done ++ map make ps) (cut_none rest from' left' (left_is ∙ none) ∙ sym (cut_none most from left none))
      ∙ before
