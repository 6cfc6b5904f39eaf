-- A list from a later place on: where it tells the same as the whole.
use Rattle.std.proofs.Common.{◌≡◌, ℕ, Bool, true, false, List, [], ◌∷◌, ◌++◌, Option, Some, None, refl, sym, ◌∙◌, ap, eq-eqb}
use Rattle.std.specs.Prelude.{◌||◌, ◌==◌}
use Rattle.std.specs.Option.{option_or}
use Rattle.log_model.specs.disk_model.declared.block.Block.{Block}
use Rattle.log_model.specs.declared.entry.Entry.{Entry}
use Rattle.log_model.specs.Logs.{covers, undo_byte, is_ended, last_redo, first_undo, told}
use Rattle.log_model.specs.StoreLaws.{is_named}
use Rattle.log_model.proofs.Telling.{or_assoc, or_none, none_left, silent, first_undo-append, last_redo-append}
use Rattle.store_model.specs.Rests.{EndsLater, AreOver, AreOverAt}

redo_silent : (f : ℕ → Bool) (xs : List Entry) (b : Block) (i : ℕ) → first_undo xs b i ≡ None → last_redo f xs b i ≡ None
redo_silent f xs b i e = none_left (last_redo f xs b i) (first_undo xs b i) (silent f xs b i e)

last_redo_named : (f g : ℕ → Bool) (ys : List Entry) (b : Block) (i : ℕ) → ((u : ℕ) → is_named ys u ≡ true → f u ≡ g u) → last_redo f ys b i ≡ last_redo g ys b i
last_redo_named f g [] b i same = refl
last_redo_named f g (y ∷ ys) b i same =
    rw (last_redo_named f g ys b i (λ u n. same u (or_later (y.tx == u) (is_named ys u) n)), same y.tx (or_first (y.tx == y.tx) (is_named ys y.tx) (eq-eqb y.tx y.tx refl))) refl
  where
    or_later : (x y : Bool) → y ≡ true → (x || y) ≡ true
    or_later true y e = refl
    or_later false y e = e

    or_first : (x y : Bool) → x ≡ true → (x || y) ≡ true
    or_first true y e = refl
    or_first false y e = cc

-- the first entry that covers a byte, and what stands before it
first_split : (ys : List Entry) (b : Block) (i u : ℕ) → first_undo ys b i ≡ Some u → (us : List Entry) × (e : Entry) × (vs : List Entry) × (ys ≡ us ++ e ∷ vs) × (first_undo us b i ≡ None) × (covers b i e.act ≡ true) × (undo_byte e.act i ≡ u)
first_split [] b i u f = absurd (clash f)
  where
    clash : ◌≡◌ {A = Option ℕ} None (Some u) → ⊥
    clash e = cc
first_split (y ∷ ys) b i u f = go (covers b i y.act) refl (first_split ys b i u)
  where
    go : (v : Bool) → covers b i y.act ≡ v → (first_undo ys b i ≡ Some u → (us : List Entry) × (e : Entry) × (vs : List Entry) × (ys ≡ us ++ e ∷ vs) × (first_undo us b i ≡ None) × (covers b i e.act ≡ true) × (undo_byte e.act i ≡ u))
        → (us : List Entry) × (e : Entry) × (vs : List Entry) × (y ∷ ys ≡ us ++ e ∷ vs) × (first_undo us b i ≡ None) × (covers b i e.act ≡ true) × (undo_byte e.act i ≡ u)
    go true h ih = let k : Some (undo_byte y.act i) ≡ Some u = (rw h at f) in ([], y, ys, refl, refl, h, same_some k)
      where
        same_some : Some (undo_byte y.act i) ≡ Some u → undo_byte y.act i ≡ u
        same_some e = cc
    go false h ih = let k : first_undo ys b i ≡ Some u = (rw h at f) in let s = ih k in
        (y ∷ s.0, s.1, s.2, ap (λ (zs : List Entry). y ∷ zs) s.3, rw h s.4, s.5, s.6)

-- Where undo bytes are those before the transaction, what the rest of a log tells is what the log tells, also from a place that given-up transactions straddle.
pub rest_tells : (xs ys : List Entry) (b : Block) (i u v : ℕ) → EndsLater xs ys
    → AreOverAt xs ys b i
    → told ys b i ≡ Some u → told (xs ++ ys) b i ≡ Some v → u ≡ v
rest_tells xs ys b i u v later over rest whole = go (last_redo (is_ended (xs ++ ys)) ys b i) refl
  where
    same_some : (m n : ℕ) → ◌≡◌ {A = Option ℕ} (Some m) (Some n) → m ≡ n
    same_some m n e = cc

    rest' : option_or (last_redo (is_ended (xs ++ ys)) ys b i) (first_undo ys b i) ≡ Some u
    rest' = ap (λ (o : Option ℕ). option_or o (first_undo ys b i)) (last_redo_named (is_ended (xs ++ ys)) (is_ended ys) ys b i later) ∙ rest

    whole' : option_or (option_or (last_redo (is_ended (xs ++ ys)) ys b i) (last_redo (is_ended (xs ++ ys)) xs b i)) (option_or (first_undo xs b i) (first_undo ys b i)) ≡ Some v
    whole' = sym (ap (λ (o : Option ℕ). option_or o (option_or (first_undo xs b i) (first_undo ys b i))) (last_redo-append (is_ended (xs ++ ys)) xs ys b i))
        ∙ sym (ap (λ (o : Option ℕ). option_or (last_redo (is_ended (xs ++ ys)) (xs ++ ys) b i) o) (first_undo-append xs ys b i)) ∙ whole

    go : (o : Option ℕ) → last_redo (is_ended (xs ++ ys)) ys b i ≡ o → u ≡ v
    go (Some r) h = let p : Some r ≡ Some u = (rw h at rest') in let q : Some r ≡ Some v = (rw h at whole') in sym (same_some r u p) ∙ same_some r v q
    go None h = let p : first_undo ys b i ≡ Some u = (rw h at rest') in
        let q : option_or (last_redo (is_ended (xs ++ ys)) xs b i) (option_or (first_undo xs b i) (first_undo ys b i)) ≡ Some v = (rw h at whole') in
        let s = first_split ys b i u p in let o = over s.0 s.2 s.1 s.3 s.4 s.5 in
        before s.0 s.1 s.4 s.6 o p (or_assoc (last_redo (is_ended (xs ++ ys)) xs b i) (first_undo xs b i) (first_undo ys b i) ∙ q)
      where
        before : (us : List Entry) (e : Entry) → first_undo us b i ≡ None → undo_byte e.act i ≡ u → AreOver xs ys us e b i → first_undo ys b i ≡ Some u
            → option_or (option_or (last_redo (is_ended (xs ++ ys)) xs b i) (first_undo xs b i)) (first_undo ys b i) ≡ Some v → u ≡ v
        before us e silent_us is o p q = cases (option_or (last_redo (is_ended (xs ++ ys)) xs b i) (first_undo xs b i)) refl
          where
            front : told (xs ++ us) b i ≡ option_or (last_redo (is_ended (xs ++ ys)) xs b i) (first_undo xs b i)
            front = ap (λ (x : Option ℕ). option_or x (first_undo (xs ++ us) b i)) (last_redo-append (is_ended (xs ++ us)) xs us b i
                ∙ ap (λ (x : Option ℕ). option_or x (last_redo (is_ended (xs ++ us)) xs b i)) (redo_silent (is_ended (xs ++ us)) us b i silent_us) ∙ o.over)
                ∙ ap (λ (x : Option ℕ). option_or (last_redo (is_ended (xs ++ ys)) xs b i) x) (first_undo-append xs us b i ∙ ap (λ (x : Option ℕ). option_or (first_undo xs b i) x) silent_us ∙ or_none (first_undo xs b i))

            cases : (x : Option ℕ) → option_or (last_redo (is_ended (xs ++ ys)) xs b i) (first_undo xs b i) ≡ x → u ≡ v
            cases (Some w) k = let q' : Some w ≡ Some v = (rw k at q) in sym is ∙ o.agrees w (front ∙ k) ∙ same_some w v q'
            cases None k = let q' : first_undo ys b i ≡ Some v = (rw k at q) in same_some u v (sym p ∙ q')
