-- What a longer log tells, and which blocks it shadows.
use Rattle.std.proofs.Common.{◌≡◌, ℕ, Bool, true, false, List, [], ◌∷◌, ◌++◌, Option, Some, None, refl, sym, ◌∙◌, ap, eq-eqb}
use Rattle.std.specs.Prelude.{if◌then◌else◌, ◌&&◌, ◌||◌, ◌==◌}
use Rattle.std.specs.Option.{option_or}
use Rattle.std.proofs.lemmas.Bool.{eqb-true}
use Rattle.std.proofs.lemmas.List.Folds.{list_any-append}
use mathlib.Core.Path.{fun_ext}
use Rattle.disk_model.specs.declared.block.Block.{Block}
use Rattle.log_model.specs.declared.entry.Entry.{Entry}
use Rattle.log_model.specs.declared.entry.Act.{Act}
use Rattle.log_model.specs.declared.entry.Act.TheVariants.{Update, Commit}
use Rattle.log_model.specs.Logs.{covers, redo_byte, undo_byte, is_commit, is_ended, last_redo, first_undo, told, act_says, last_said}
use Rattle.log_model.specs.StoreLaws.{told_with, is_named}

-- ---- options

module _ {A : Type 0} where
  pub or_assoc : (a b c : Option A) → option_or (option_or a b) c ≡ option_or a (option_or b c)
  or_assoc (Some x) b c = refl
  or_assoc None b c = refl

  pub or_none : (a : Option A) → option_or a None ≡ a
  or_none (Some x) = refl
  or_none None = refl

  pub none_right : (a b : Option A) → option_or a b ≡ None → b ≡ None
  none_right (Some x) b e = absurd cc
  none_right None b e = e

  pub none_left : (a b : Option A) → option_or a b ≡ None → a ≡ None
  none_left (Some x) b e = absurd cc
  none_left None b e = refl

  pub none_both : (a b : Option A) → a ≡ None → b ≡ None → option_or a b ≡ None
  none_both a b p q = rw p q

-- ---- lists one after the other

pub first_undo-append : (xs ys : List Entry) (b : Block) (i : ℕ) → first_undo (xs ++ ys) b i ≡ option_or (first_undo xs b i) (first_undo ys b i)
first_undo-append [] ys b i = refl
first_undo-append (x ∷ xs) ys b i = cases (covers b i x.act) (first_undo-append xs ys b i)
  where
    cases : (c : Bool) → first_undo (xs ++ ys) b i ≡ option_or (first_undo xs b i) (first_undo ys b i) → (if c then Some (undo_byte x.act i) else first_undo (xs ++ ys) b i) ≡ option_or (if c then Some (undo_byte x.act i) else first_undo xs b i) (first_undo ys b i)
    cases true rest = refl
    cases false rest = rest

pub last_redo-append : (f : ℕ → Bool) (xs ys : List Entry) (b : Block) (i : ℕ) → last_redo f (xs ++ ys) b i ≡ option_or (last_redo f ys b i) (last_redo f xs b i)
last_redo-append f [] ys b i = sym (or_none (last_redo f ys b i))
last_redo-append f (x ∷ xs) ys b i =
    let own = if covers b i x.act && f x.tx then Some (redo_byte x.act i) else None in
    ap (λ (o : Option ℕ). option_or o own) (last_redo-append f xs ys b i) ∙ or_assoc (last_redo f ys b i) (last_redo f xs b i) own

pub last_said-append : (f : ℕ → Bool) (xs ys : List Entry) (b : Block) → last_said f (xs ++ ys) b ≡ option_or (last_said f ys b) (last_said f xs b)
last_said-append f [] ys b = sym (or_none (last_said f ys b))
last_said-append f (x ∷ xs) ys b =
    let own = act_says b (f x.tx) x.act in
    ap (λ (o : Option Bool). option_or o own) (last_said-append f xs ys b) ∙ or_assoc (last_said f ys b) (last_said f xs b) own

pub is_ended-append : (xs ys : List Entry) (tx : ℕ) → is_ended (xs ++ ys) tx ≡ (is_ended xs tx || is_ended ys tx)
is_ended-append xs ys tx = list_any-append (λ (e : Entry). (e.tx == tx) && is_commit e.act) xs ys

pub is_named-append : (xs ys : List Entry) (tx : ℕ) → is_named (xs ++ ys) tx ≡ (is_named xs tx || is_named ys tx)
is_named-append xs ys tx = list_any-append (λ (e : Entry). e.tx == tx) xs ys

-- ---- one update more

pub told_with-redo : (f : ℕ → Bool) (xs : List Entry) (e : Entry) (b : Block) (i : ℕ) → covers b i e.act ≡ true → f e.tx ≡ true → told_with f (xs ++ e ∷ []) b i ≡ Some (redo_byte e.act i)
told_with-redo f xs e b i c d = rw (last_redo-append f xs (e ∷ []) b i, c, d) refl

pub told_with-other : (f : ℕ → Bool) (xs : List Entry) (e : Entry) (b : Block) (i : ℕ) → covers b i e.act ≡ false → told_with f (xs ++ e ∷ []) b i ≡ told_with f xs b i
told_with-other f xs e b i c = rw (last_redo-append f xs (e ∷ []) b i, first_undo-append xs (e ∷ []) b i, c, or_none (first_undo xs b i)) refl

pub told_with-open : (f : ℕ → Bool) (xs : List Entry) (e : Entry) (b : Block) (i : ℕ) → covers b i e.act ≡ true → f e.tx ≡ false → told_with f (xs ++ e ∷ []) b i ≡ option_or (told_with f xs b i) (Some (undo_byte e.act i))
told_with-open f xs e b i c d = rw (last_redo-append f xs (e ∷ []) b i, first_undo-append xs (e ∷ []) b i, c, d) (sym (or_assoc (last_redo f xs b i) (first_undo xs b i) (Some (undo_byte e.act i))))

or_false : (a : Bool) → (a || false) ≡ a
or_false true = refl
or_false false = refl

and_false : (a : Bool) → (a && false) ≡ false
and_false true = refl
and_false false = refl

-- an update ends no transaction
pub is_ended-update : (xs : List Entry) (e : Entry) → is_commit e.act ≡ false → is_ended (xs ++ e ∷ []) ≡ is_ended xs
is_ended-update xs e update = fun_ext (λ tx.
    is_ended-append xs (e ∷ []) tx
    ∙ ap (λ (c : Bool). is_ended xs tx || (((e.tx == tx) && c) || false)) update
    ∙ ap (λ (c : Bool). is_ended xs tx || (c || false)) (and_false (e.tx == tx))
    ∙ or_false (is_ended xs tx))

commit_covers : (act : Act) (b : Block) (i : ℕ) → is_commit act ≡ true → covers b i act ≡ false
commit_covers (Update first kind at redo undo) b i h = absurd cc
commit_covers Commit b i h = refl

-- a commit tells what the log tells where its transaction has ended
pub told-commit : (xs : List Entry) (e : Entry) (b : Block) (i : ℕ) → is_commit e.act ≡ true → told (xs ++ e ∷ []) b i ≡ told_with (is_ended (xs ++ e ∷ [])) xs b i
told-commit xs e b i h = told_with-other (is_ended (xs ++ e ∷ [])) xs e b i (commit_covers e.act b i h)

-- ---- silence

last_redo_silent : (f : ℕ → Bool) (xs : List Entry) (b : Block) (i : ℕ) → first_undo xs b i ≡ None → last_redo f xs b i ≡ None
last_redo_silent f [] b i e = refl
last_redo_silent f (x ∷ xs) b i e = go (covers b i x.act) refl (last_redo_silent f xs b i)
  where
    go : (c : Bool) → covers b i x.act ≡ c → (first_undo xs b i ≡ None → last_redo f xs b i ≡ None) → last_redo f (x ∷ xs) b i ≡ None
    go true c ih = let h : Some (undo_byte x.act i) ≡ None = (rw c at e) in absurd cc
    go false c ih = let h : first_undo xs b i ≡ None = (rw c at e) in rw (c, ih h) refl

pub silent : (f : ℕ → Bool) (xs : List Entry) (b : Block) (i : ℕ) → first_undo xs b i ≡ None → told_with f xs b i ≡ None
silent f xs b i e = none_both (last_redo f xs b i) (first_undo xs b i) (last_redo_silent f xs b i e) e

pub silent_rest : (f : ℕ → Bool) (xs : List Entry) (b : Block) (i : ℕ) → told_with f xs b i ≡ None → first_undo xs b i ≡ None
silent_rest f xs b i e = none_right (last_redo f xs b i) (first_undo xs b i) e

-- what a longer log doesn't tell, its beginning doesn't
pub told_longer : (xs ys : List Entry) (b : Block) (i : ℕ) → told (xs ++ ys) b i ≡ None → told xs b i ≡ None
told_longer xs ys b i e =
    silent (is_ended xs) xs b i (none_left (first_undo xs b i) (first_undo ys b i) (sym (first_undo-append xs ys b i) ∙ silent_rest (is_ended (xs ++ ys)) (xs ++ ys) b i e))

-- ---- a transaction with no entry so far

or_left : (a b : Bool) → (a || b) ≡ false → a ≡ false
or_left true b e = e
or_left false b e = refl

or_right : (a b : Bool) → (a || b) ≡ false → b ≡ false
or_right true b e = absurd cc
or_right false b e = e

-- these transactions, and one more
abbrev and_this : (ℕ → Bool) → ℕ → ℕ → Bool
and_this f t u = f u || (u == t)

last_redo_fresh : (f : ℕ → Bool) (t : ℕ) (xs : List Entry) (b : Block) (i : ℕ) → is_named xs t ≡ false → last_redo (and_this f t) xs b i ≡ last_redo f xs b i
last_redo_fresh f t [] b i n = refl
last_redo_fresh f t (x ∷ xs) b i n = rw (last_redo_fresh f t xs b i (or_right (x.tx == t) (is_named xs t) n), or_left (x.tx == t) (is_named xs t) n, or_false (f x.tx)) refl

said_fresh : (f : ℕ → Bool) (t : ℕ) (xs : List Entry) (b : Block) → is_named xs t ≡ false → last_said (and_this f t) xs b ≡ last_said f xs b
said_fresh f t [] b n = refl
said_fresh f t (x ∷ xs) b n = rw (said_fresh f t xs b (or_right (x.tx == t) (is_named xs t) n), or_left (x.tx == t) (is_named xs t) n, or_false (f x.tx)) refl

swapped : (m n : ℕ) → (m == n) ≡ (n == m)
swapped m n = go (m == n) refl (n == m) refl
  where
    go : (v : Bool) → (m == n) ≡ v → (w : Bool) → (n == m) ≡ w → v ≡ w
    go true h true k = refl
    go false h false k = refl
    go true h false k = sym (eq-eqb n m (sym (eqb-true m n h))) ∙ k
    go false h true k = sym h ∙ eq-eqb m n (sym (eqb-true n m k))

and_true : (a : Bool) → (a && true) ≡ a
and_true true = refl
and_true false = refl

-- the transactions that have ended with one commit more
pub is_ended-commit : (xs : List Entry) (e : Entry) → is_commit e.act ≡ true → is_ended (xs ++ e ∷ []) ≡ and_this (is_ended xs) e.tx
is_ended-commit xs e h = fun_ext (λ u.
    is_ended-append xs (e ∷ []) u
    ∙ ap (λ (c : Bool). is_ended xs u || (((e.tx == u) && c) || false)) h
    ∙ ap (λ (c : Bool). is_ended xs u || (c || false)) (and_true (e.tx == u))
    ∙ ap (λ (c : Bool). is_ended xs u || c) (or_false (e.tx == u) ∙ swapped e.tx u))

-- the commit of a transaction with no entry so far tells nothing new, and shadows nothing new
pub told_fresh : (xs : List Entry) (e : Entry) (b : Block) (i : ℕ) → is_commit e.act ≡ true → is_named xs e.tx ≡ false → told (xs ++ e ∷ []) b i ≡ told xs b i
told_fresh xs e b i h n =
    told-commit xs e b i h
    ∙ ap (λ (f : ℕ → Bool). told_with f xs b i) (is_ended-commit xs e h)
    ∙ ap (λ (o : Option ℕ). option_or o (first_undo xs b i)) (last_redo_fresh (is_ended xs) e.tx xs b i n)

pub last_said_fresh : (xs : List Entry) (e : Entry) (b : Block) → is_commit e.act ≡ true → is_named xs e.tx ≡ false → last_said (is_ended (xs ++ e ∷ [])) xs b ≡ last_said (is_ended xs) xs b
last_said_fresh xs e b h n = ap (λ (f : ℕ → Bool). last_said f xs b) (is_ended-commit xs e h) ∙ said_fresh (is_ended xs) e.tx xs b n
