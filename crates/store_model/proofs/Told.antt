-- What a longer list tells, and which blocks it shadows.
use Rattle.std.proofs.Common.{◌≡◌, ◌≢◌, ◌⊎◌, ⊎_elim, inl, inr, ℕ, zero, suc, ◌+◌, ◌<◌, Bool, true, false, not, List, [], ◌∷◌, ◌++◌, length, take, drop, Option, Some, None, refl, sym, ◌∙◌, ap, subst, arith, eq-eqb}
use Rattle.std.proofs.lemmas.Bool.{eqb-true, and_from}
use Rattle.std.specs.Prelude.{if◌then◌else◌, ◌&&◌, ◌||◌, ◌==◌, nat_le, nat_lt, unwrap_or}
use Rattle.std.specs.List.{AllByRecursion}
use Rattle.std.specs.Option.{option_or}
use Rattle.log_model.specs.disk_model.declared.block.Block.{Block}
use Rattle.log_model.specs.disk_model.declared.block.BlockKind.{BlockKind}
use Rattle.log_model.specs.disk_model.declared.block.BlockKind.TheVariants.{Plain, FileRec, Index}
use Rattle.log_model.specs.disk_model.Sectors.{sectors, same_kind, same_block, are_rivals, overlap}
use Rattle.fixup_record.proofs.disk_model.Frames.{same_block-is}
use Rattle.log_model.specs.declared.entry.Entry.{Entry}
use Rattle.log_model.specs.declared.entry.Act.{Act}
use Rattle.log_model.specs.declared.entry.Act.TheVariants.{Update, Commit}
use Rattle.log_model.specs.Logs.{block_of_kind, updates, updates_rival, covers, is_commit, is_ended, told, act_says, last_said}
use Rattle.log_model.specs.StoreLaws.{told_with, is_named}
use Rattle.log_model.proofs.Telling.{told-commit, told_fresh, is_ended-commit, is_ended-update, is_named-append, last_said-append, last_said_fresh}
use Rattle.store_model.specs.Logs.{updated, IsUpdate, commit_by, commits, ended_with}

-- ---- truth values

pub true≢false : true ≡ false → ⊥
true≢false e = cc

pub or_left : (a b : Bool) → (a || b) ≡ false → a ≡ false
or_left true b e = e
or_left false b e = refl

pub or_right : (a b : Bool) → (a || b) ≡ false → b ≡ false
or_right true b e = absurd (true≢false e)
or_right false b e = e

pub or-false : (a : Bool) → (a || false) ≡ a
or-false true = refl
or-false false = refl

pub or-true : (a b : Bool) → b ≡ true → (a || b) ≡ true
or-true true b e = refl
or-true false b e = e

pub and-false : (a : Bool) → (a && false) ≡ false
and-false true = refl
and-false false = refl

pub false_true : ◌≡◌ {A = Option Bool} (Some false) (Some true) → ⊥
false_true e = true≢false (sym (ap (λ (o : Option Bool). unwrap_or o true) e))

pub none_true : ◌≡◌ {A = Option Bool} None (Some true) → ⊥
none_true e = true≢false (sym (ap (λ (o : Option Bool). unwrap_or o false) e))

pub none_false : ◌≡◌ {A = Option Bool} None (Some false) → ⊥
none_false e = true≢false (ap (λ (o : Option Bool). unwrap_or o true) e)

-- ---- blocks

pub same_self : (b : Block) → same_block b b ≡ true
same_self b = and_from (b.first == b.first) (same_kind b.kind b.kind) (eq-eqb b.first b.first refl) (kind_self b.kind)
  where
    kind_self : (k : BlockKind) → same_kind k k ≡ true
    kind_self Plain = refl
    kind_self FileRec = refl
    kind_self Index = refl

pub apart_swap : (b c : Block) → same_block b c ≡ false → same_block c b ≡ false
apart_swap b c e = go (same_block c b) refl
  where
    go : (v : Bool) → same_block c b ≡ v → same_block c b ≡ false
    go true h = absurd (true≢false (sym (subst (λ (n : Block). same_block b n ≡ true) (sym (same_block-is c b h)) (same_self b)) ∙ e))
    go false h = h

kind_swap : (j k : BlockKind) → same_kind j k ≡ same_kind k j
kind_swap Plain Plain = refl
kind_swap Plain FileRec = refl
kind_swap Plain Index = refl
kind_swap FileRec Plain = refl
kind_swap FileRec FileRec = refl
kind_swap FileRec Index = refl
kind_swap Index Plain = refl
kind_swap Index FileRec = refl
kind_swap Index Index = refl

and_swap : (a b : Bool) → (a && b) ≡ (b && a)
and_swap true true = refl
and_swap true false = refl
and_swap false true = refl
and_swap false false = refl

pub rivals_both : (b c : Block) → are_rivals b c ≡ are_rivals c b
rivals_both b c = ap (λ (s : Bool). not s && overlap b c) (kind_swap b.kind c.kind) ∙ ap (λ (o : Bool). not (same_kind c.kind b.kind) && o) (and_swap (nat_lt b.first (c.first + sectors c.kind)) (nat_lt c.first (b.first + sectors b.kind)))

-- rivals are different blocks
pub rival_apart : (b x : Block) → are_rivals b x ≡ true → same_block b x ≡ false
rival_apart b x rival = go (b.first == x.first) (same_kind b.kind x.kind) (overlap b x) rival
  where
    go : (f k o : Bool) → (not k && o) ≡ true → (f && k) ≡ false
    go f true o h = absurd (true≢false (sym h))
    go true false o h = refl
    go false false o h = refl

pub rivals_other : (b : Block) → are_rivals b b ≡ false
rivals_other b = go (are_rivals b b) refl
  where
    go : (v : Bool) → are_rivals b b ≡ v → are_rivals b b ≡ false
    go true h = absurd (true≢false (sym (same_self b) ∙ rival_apart b b h))
    go false h = h

-- ---- updates

pub some_block : (c d : Block) → Some c ≡ Some d → c ≡ d
some_block c d e = ap (λ (o : Option Block). unwrap_or o c) e

pub updates_is : (act : Act) (b c : Block) → updated act ≡ Some c → updates b act ≡ same_block b c
updates_is (Update first kind at redo undo) b c is = ap (same_block b) (some_block (block_of_kind first kind) c is)
updates_is Commit b c is = absurd cc

pub rival_is : (act : Act) (b c : Block) → updated act ≡ Some c → updates_rival b act ≡ are_rivals b c
rival_is (Update first kind at redo undo) b c is = ap (are_rivals b) (some_block (block_of_kind first kind) c is)
rival_is Commit b c is = absurd cc

pub no_commit : (act : Act) (c : Block) → updated act ≡ Some c → is_commit act ≡ false
no_commit (Update first kind at redo undo) c is = refl
no_commit Commit c is = absurd cc

pub not_covered : (act : Act) (b : Block) (i : ℕ) → updates b act ≡ false → covers b i act ≡ false
not_covered (Update first kind at redo undo) b i h = go (same_block b (block_of_kind first kind)) h
  where
    go : (v : Bool) → v ≡ false → (v && nat_le at i && nat_lt i (at + length redo)) ≡ false
    go v h = rw h refl
not_covered Commit b i h = refl

-- an update of a block is one of a rival of its rivals
pub rival_update : (act : Act) (b x : Block) → updates b act ≡ true → are_rivals x b ≡ true → updates_rival x act ≡ true
rival_update (Update first kind at redo undo) b x is rival = subst (λ (c : Block). are_rivals x c ≡ true) (same_block-is b (block_of_kind first kind) is) rival
rival_update Commit b x is rival = absurd (true≢false (sym is))

-- ---- lists

module _ {X : Type 0} (P : X → Type 0) where
  pub all_append : (xs ys : List X) → AllByRecursion P xs → AllByRecursion P ys → AllByRecursion P (xs ++ ys)
  all_append [] ys a b = b
  all_append (x ∷ xs) ys a b = (a.0, all_append xs ys a.1 b)

  pub all_drop : (n : ℕ) (xs : List X) → AllByRecursion P xs → AllByRecursion P (drop n xs)
  all_drop zero xs a = a
  all_drop (suc n) [] a = tt
  all_drop (suc n) (x ∷ xs) a = all_drop n xs a.1

  pub all_take : (n : ℕ) (xs : List X) → AllByRecursion P xs → AllByRecursion P (take n xs)
  all_take zero [] a = tt
  all_take zero (x ∷ xs) a = tt
  all_take (suc n) [] a = tt
  all_take (suc n) (x ∷ xs) a = (a.0, all_take n xs a.1)

pub commits-append : (xs ys : List Entry) → commits (xs ++ ys) ≡ commits xs + commits ys
commits-append [] ys = omega arith
commits-append (x ∷ xs) ys = omega (arith, commits-append xs ys)

pub ends-update : (xs : List Entry) (t : ℕ) (c : Block) (e : Entry) → IsUpdate t c e → is_ended (xs ++ e ∷ []) ≡ is_ended xs
ends-update xs t c e is = is_ended-update xs e (no_commit e.act c is.block)

-- with a commit more
pub ends-commit : (xs : List Entry) (n m t : ℕ) → is_ended (xs ++ commit_by n m t ∷ []) ≡ ended_with t xs
ends-commit xs n m t = is_ended-commit xs (commit_by n m t) refl

pub told_commit : (xs : List Entry) (n m t : ℕ) (b : Block) (i : ℕ) → told (xs ++ commit_by n m t ∷ []) b i ≡ told_with (ended_with t xs) xs b i
told_commit xs n m t b i = told-commit xs (commit_by n m t) b i refl ∙ ap (λ (f : ℕ → Bool). told_with f xs b i) (ends-commit xs n m t)

pub ends_own : (xs : List Entry) (t : ℕ) → ended_with t xs t ≡ true
ends_own xs t = or-true (is_ended xs t) (t == t) (eq-eqb t t refl)

-- the end of a transaction with no entry so far tells nothing new, and shadows nothing new
pub told_unnamed : (t : ℕ) (xs : List Entry) (b : Block) (i : ℕ) → is_named xs t ≡ false → told_with (ended_with t xs) xs b i ≡ told xs b i
told_unnamed t xs b i n = sym (told_commit xs 0 0 t b i) ∙ told_fresh xs (commit_by 0 0 t) b i refl n

pub said_unnamed : (t : ℕ) (l : List Entry) (b : Block) → is_named l t ≡ false → last_said (ended_with t l) l b ≡ last_said (is_ended l) l b
said_unnamed t l b n = ap (λ (f : ℕ → Bool). last_said f l b) (sym (ends-commit l 0 0 t)) ∙ last_said_fresh l (commit_by 0 0 t) b refl n

-- numbers that are apart
pub apart : (m n : ℕ) → n < m → (n == m) ≡ false
apart m n lt = go (n == m) refl
  where
    go : (w : Bool) → (n == m) ≡ w → (n == m) ≡ false
    go true h = absurd (omega (arith, eqb-true n m h))
    go false h = h

pub names_more : (xs : List Entry) (e : Entry) (u : ℕ) → is_named xs u ≡ false → (e.tx == u) ≡ false → is_named (xs ++ e ∷ []) u ≡ false
names_more xs e u p q = is_named-append xs (e ∷ []) u ∙ rw (p, q) refl

-- ---- what an entry says of a block

abbrev pub says : (ℕ → Bool) → Entry → Block → Option Bool
says f e b = act_says b (f e.tx) e.act

-- an update of a transaction that hasn't ended says nothing of its own block, and shadows its rivals
pub says_open : (f : ℕ → Bool) (e : Entry) (b : Block) → f e.tx ≡ false → (says f e b ≡ None) ⊎ (says f e b ≡ Some true)
says_open f e b open_ = go (updates_rival b e.act) refl
  where
    go : (v : Bool) → updates_rival b e.act ≡ v → (says f e b ≡ None) ⊎ (says f e b ≡ Some true)
    go true h = inr (rw h refl)
    go false h = inl (rw (h, open_, and-false (updates b e.act)) refl)

-- so does any entry that isn't an update of the block
pub says_other : (f : ℕ → Bool) (e : Entry) (b : Block) → updates b e.act ≡ false → (says f e b ≡ None) ⊎ (says f e b ≡ Some true)
says_other f e b none = go (updates_rival b e.act) refl
  where
    go : (v : Bool) → updates_rival b e.act ≡ v → (says f e b ≡ None) ⊎ (says f e b ≡ Some true)
    go true h = inr (rw h refl)
    go false h = inl (rw (h, none) refl)

-- what isn't shadowed with it isn't shadowed without it
pub claimed_shorter : (f : ℕ → Bool) (l : List Entry) (e : Entry) (b : Block) → (says f e b ≡ None) ⊎ (says f e b ≡ Some true)
    → last_said f (l ++ e ∷ []) b ≢ Some true → last_said f l b ≢ Some true
claimed_shorter f l e b (inl none) claimed is = claimed (last_said-append f l (e ∷ []) b ∙ rw none is)
claimed_shorter f l e b (inr one) claimed is = absurd (claimed (last_said-append f l (e ∷ []) b ∙ rw one refl))

-- an ended update of the block in the longer list is in the shorter one
pub ended_shorter : (f : ℕ → Bool) (l : List Entry) (e : Entry) (b : Block) → (says f e b ≡ None) ⊎ (says f e b ≡ Some true)
    → last_said f (l ++ e ∷ []) b ≡ Some false → last_said f l b ≡ Some false
ended_shorter f l e b (inl none) is = let e' = sym (last_said-append f l (e ∷ []) b) ∙ is in (rw none at e')
ended_shorter f l e b (inr one) is = let e' = sym (last_said-append f l (e ∷ []) b) ∙ is in let e'' : Some true ≡ Some false = (rw one at e') in absurd (false_true (sym e''))

-- the last is an update of the block or of a rival, or there is none
pub data Said (o : Option Bool) : Type 0 where
  nothing : o ≡ None → Said o
  own : o ≡ Some false → Said o
  rivals : o ≡ Some true → Said o

says_is : (f : ℕ → Bool) (e : Entry) (b : Block) → Said (says f e b)
says_is f e b = go (updates_rival b e.act) (updates b e.act && f e.tx)
  where
    go : (v w : Bool) → Said (if v then Some true else (if w then Some false else None))
    go true w = rivals refl
    go false true = own refl
    go false false = nothing refl

pub last_said_is : (f : ℕ → Bool) (l : List Entry) (b : Block) → Said (last_said f l b)
last_said_is f [] b = nothing refl
last_said_is f (e ∷ l) b = go (last_said_is f l b) (says_is f e b)
  where
    go : Said (last_said f l b) → Said (says f e b) → Said (last_said f (e ∷ l) b)
    go (own h) v = own (rw h refl)
    go (rivals h) v = rivals (rw h refl)
    go (nothing h) (nothing k) = nothing (rw (h, k) refl)
    go (nothing h) (own k) = own (rw (h, k) refl)
    go (nothing h) (rivals k) = rivals (rw (h, k) refl)

-- an update of a rival counts whichever transactions have ended
pub says_rival : (f g : ℕ → Bool) (e : Entry) (b : Block) → says f e b ≡ Some true → says g e b ≡ Some true
says_rival f g e b is = go (updates_rival b e.act) (updates b e.act && f e.tx) (updates b e.act && g e.tx) is
  where
    go : (v w z : Bool) → (if v then Some true else (if w then Some false else None)) ≡ Some true → (if v then Some true else (if z then Some false else None)) ≡ Some true
    go true w z h = refl
    go false true z h = absurd (false_true h)
    go false false z h = absurd (none_true h)

-- With more ended transactions, a block that was shadowed is so still, or has an ended update of its own.
pub still_shadowed : (f g : ℕ → Bool) (l : List Entry) (b : Block) → last_said f l b ≡ Some true → (last_said g l b ≡ Some false) ⊎ (last_said g l b ≡ Some true)
still_shadowed f g [] b is = inr is
still_shadowed f g (e ∷ l) b is = go (last_said f l b) refl (last_said_is g l b) (still_shadowed f g l b)
  where
    go : (o : Option Bool) → last_said f l b ≡ o → Said (last_said g l b) → (last_said f l b ≡ Some true → (last_said g l b ≡ Some false) ⊎ (last_said g l b ≡ Some true))
        → (last_said g (e ∷ l) b ≡ Some false) ⊎ (last_said g (e ∷ l) b ≡ Some true)
    go o h (own k) ih = inl (rw k refl)
    go o h (rivals k) ih = inr (rw k refl)
    go (Some x) h (nothing k) ih = let was : option_or (last_said f l b) (says f e b) ≡ Some true = is in let last : last_said f l b ≡ Some true = h ∙ (let e' : Some x ≡ Some true = (rw h at was) in e') in
        ⊎_elim (λ z. inl (rw z refl)) (λ z. inr (rw z refl)) (ih last)
    go None h (nothing k) ih = let was : option_or (last_said f l b) (says f e b) ≡ Some true = is in let v : says f e b ≡ Some true = (rw h at was) in inr (rw (k, says_rival f g e b v) refl)
