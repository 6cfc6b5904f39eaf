-- One entry more: its block is added to what was found, or was found before.
use Rattle.std.proofs.Common.{◌≡◌, ℕ, ◌+◌, ◌<◌, Bool, true, false, ◌||◌, List, [], ◌∷◌, ◌++◌, length, take, drop, get_or, Option, Some, None, refl, sym, ap, ◌∙◌, subst}
use Rattle.std.specs.Prelude.{if◌then◌else◌, map, find, ◌==◌}
use Rattle.std.proofs.lemmas.Bool.{eq-eqb, and_from}
use Rattle.std.specs.List.{AllByRecursion, IsDistinct}
use Rattle.std.specs.Option.{option_or, option_map}
use Rattle.std.proofs.lemmas.List.Folds.{list_any-append}
use Rattle.log_reading.specs.disk_model.declared.block.Block.{Block}
use Rattle.log_reading.specs.disk_model.Bodies.{BodyOf}
use Rattle.log_reading.specs.disk_model.declared.block.BlockKind.{BlockKind}
use Rattle.log_reading.specs.disk_model.declared.block.BlockKind.TheVariants.{Plain, FileRec, Index}
use Rattle.log_reading.specs.disk_model.Sectors.{same_block, same_kind}
use Rattle.log_reading.specs.disk_model.Content.{Content}
use Rattle.log_reading.proofs.disk_model.Frames.{same_block-is}
use Rattle.log_model.specs.declared.entry.Entry.{Entry}
use Rattle.log_model.specs.declared.entry.Act.{Act}
use Rattle.log_model.specs.declared.entry.Act.TheVariants.{Update, Commit}
use Rattle.log_model.specs.Logs.{updates, is_partial, updates_partial, first_partial}
use Rattle.log_recovery.specs.declared.found.RecoveredBlock.{RecoveredBlock}
use Rattle.log_recovery.specs.declared.found.Judged.{Judged}
use Rattle.log_recovery.specs.declared.found.Judged.TheVariants.{Shadowed, Partial, Kept, Made}
use Rattle.log_recovery.specs.Recovering.{is_updated, held, written_body, body_block}
use Rattle.log_recovery.specs.Finding.{bodies_with, is_part, Adds, Found, update_block}
use Rattle.log_recovery.proofs.Walking.{rest_is, front_is}
use Rattle.log_recovery.proofs.Saying.{Says, made_of}

-- ---- blocks

same_self : (a b : Block) → same_block b a ≡ true → same_block a b ≡ true
same_self a b h =
    let p = same_block-is b a h in
    ap (λ (x : Block). same_block x b) (sym p) ∙ ap (λ (x : Block). same_block b x) p ∙ h

-- in either order
pub same_block-swap : (a b : Block) → same_block a b ≡ same_block b a
same_block-swap a b = by_cases (same_block a b) (same_block b a) refl refl
  where
    by_cases : (s t : Bool) → same_block a b ≡ s → same_block b a ≡ t → s ≡ t
    by_cases true true p q = refl
    by_cases true false p q = sym (sym q ∙ same_self b a p)
    by_cases false true p q = sym p ∙ same_self a b q
    by_cases false false p q = refl

flip : (a b : Block) → same_block a b ≡ false → same_block b a ≡ false
flip a b e = cases (same_block b a) refl
  where
    cases : (s : Bool) → same_block b a ≡ s → same_block b a ≡ false
    cases false h = h
    cases true h = absurd (clash (sym e ∙ same_self a b h))
      where
        clash : false ≡ true → ⊥
        clash x = cc

pub same_self_block : (b : Block) → same_block b b ≡ true
same_self_block b = both_same (eq-eqb b.first b.first refl) (kind_self b.kind)
  where
    kind_self : (k : BlockKind) → same_kind k k ≡ true
    kind_self Plain = refl
    kind_self FileRec = refl
    kind_self Index = refl

    both_same : (b.first == b.first) ≡ true → same_kind b.kind b.kind ≡ true → same_block b b ≡ true
    both_same p q = and_from (b.first == b.first) (same_kind b.kind b.kind) p q

pub distinct_none : IsDistinct same_block []
unfolding IsDistinct
distinct_none = tt

-- ---- what is held

one_or : {X : Type 0} (s : Bool) (x : X) (o p q : Option X) → o ≡ option_or p q → (if s then Some x else o) ≡ option_or (if s then Some x else p) q
one_or true x o p q e = refl
one_or false x o p q e = e

pub held-push : {R X : Type 0} (at : R → Block) (of : R → X) (rs : List R) (r : R) (b : Block) → held at of (rs ++ r ∷ []) b ≡ option_or (held at of rs b) (if same_block b (at r) then Some (of r) else None)
held-push at of [] r b = refl
held-push at of (x ∷ rs) r b = one_or (same_block b (at x)) (of x) _ _ _ (held-push at of rs r b)

none_or : {X : Type 0} (o : Option X) (s : Bool) (w : Option X) → w ≡ None → o ≡ option_or o (if s then w else None)
none_or None true w e = sym e
none_or None false w e = refl
none_or (Some x) s w e = refl

-- with what was found of the block
pub held-bodies_with : (judged : Judged) (b0 : Block) (bodies : List RecoveredBlock) (b : Block) → held body_block (λ r. r.body) (bodies_with judged b0 bodies) b ≡ option_or (held body_block (λ r. r.body) bodies b) (if same_block b b0 then made_of judged else None)
held-bodies_with (Made body) b0 bodies b = held-push body_block (λ (r : RecoveredBlock). r.body) bodies (record { block = b0; body = body }) b
held-bodies_with Shadowed b0 bodies b = none_or (held body_block (λ (r : RecoveredBlock). r.body) bodies b) (same_block b b0) None refl
held-bodies_with Partial b0 bodies b = none_or (held body_block (λ (r : RecoveredBlock). r.body) bodies b) (same_block b b0) None refl
held-bodies_with Kept b0 bodies b = none_or (held body_block (λ (r : RecoveredBlock). r.body) bodies b) (same_block b b0) None refl

-- ---- each once

all_push : (x : Block) (xs : List Block) (y : Block) → AllByRecursion (λ z. same_block x z ≡ false) xs → same_block x y ≡ false → AllByRecursion (λ z. same_block x z ≡ false) (xs ++ y ∷ [])
all_push x [] y all last = (last, tt)
all_push x (z ∷ xs) y all last = (all.0, all_push x xs y all.1 last)

distinct_push : (xs : List Block) (y : Block) → IsDistinct same_block xs → AllByRecursion (λ x. same_block x y ≡ false) xs → IsDistinct same_block (xs ++ y ∷ [])
unfolding IsDistinct
distinct_push [] y distinct all = (tt, tt)
distinct_push (x ∷ xs) y distinct all = (all_push x xs y distinct.0 all.0, distinct_push xs y distinct.1 all.1)

none_here : {X : Type 0} (s : Bool) (x : X) (o : Option X) → (if s then Some x else o) ≡ None → (s ≡ false) × (o ≡ None)
none_here true x o e = absurd cc
none_here false x o e = (refl, e)

-- where nothing is held of a block, each that is held is another
others : {R X : Type 0} (at : R → Block) (of : R → X) (rs : List R) (b : Block) → held at of rs b ≡ None → AllByRecursion (λ x. same_block x b ≡ false) (map at rs)
others at of [] b e = tt
others at of (r ∷ rs) b e =
    let parts = none_here (same_block b (at r)) (of r) (held at of rs b) e in
    (flip b (at r) parts.0, others at of rs b parts.1)

map-push : {R : Type 0} (at : R → Block) (rs : List R) (r : R) → map at (rs ++ r ∷ []) ≡ map at rs ++ at r ∷ []
map-push at [] r = refl
map-push at (x ∷ rs) r = ap (λ (l : List Block). at x ∷ l) (map-push at rs r)

pub pushed_once : {R X : Type 0} (at : R → Block) (of : R → X) (rs : List R) (r : R) → IsDistinct same_block (map at rs) → held at of rs (at r) ≡ None → IsDistinct same_block (map at (rs ++ r ∷ []))
pushed_once at of rs r distinct none = subst (IsDistinct same_block) (sym (map-push at rs r)) (distinct_push (map at rs) (at r) distinct (others at of rs (at r) none))

pub bodies_once : (judged : Judged) (b0 : Block) (bodies : List RecoveredBlock) → IsDistinct same_block (map body_block bodies) → held body_block (λ r. r.body) bodies b0 ≡ None → IsDistinct same_block (map body_block (bodies_with judged b0 bodies))
bodies_once (Made body) b0 bodies distinct none = pushed_once body_block (λ (r : RecoveredBlock). r.body) bodies (record { block = b0; body = body }) distinct none
bodies_once Shadowed b0 bodies distinct none = distinct
bodies_once Partial b0 bodies distinct none = distinct
bodies_once Kept b0 bodies distinct none = distinct

-- ---- one block more

or_false : (a : Bool) → (a || false) ≡ a
or_false true = refl
or_false false = refl

pub updated_more : (log : List Entry) (k : ℕ) (e : Entry) (b : Block) → k < length log → e ≡ get_or log k e → is_updated (take (k + 1) log) b ≡ (is_updated (take k log) b || updates b e.act)
updated_more log k e b lt is =
    ap (λ (xs : List Entry). is_updated xs b) (front_is log k e lt is)
    ∙ list_any-append (λ (x : Entry). updates b x.act) (take k log) (e ∷ [])
    ∙ ap (λ (t : Bool). is_updated (take k log) b || t) (or_false (updates b e.act))

finish : {X : Type 0} (u s : Bool) (w w0 n : Option X) → n ≡ option_or (if u then w else None) (if s then w0 else None) → (s ≡ true → u ≡ false) → (s ≡ true → w ≡ w0) → n ≡ (if (u || s) then w else None)
finish true true w w0 n e h k = absurd (clash (h refl))
  where
    clash : true ≡ false → ⊥
    clash x = cc
finish true false None w0 n e h k = e
finish true false (Some x) w0 n e h k = e
finish false true w w0 n e h k = e ∙ sym (k refl)
finish false false w w0 n e h k = e

-- what is held of each block that was updated, where what is meant of this one is added
pub grows : {X : Type 0} (before after : Block → Bool) (b0 : Block) (w : Block → Option X) (old new : Block → Option X) → ((b : Block) → after b ≡ (before b || same_block b b0)) → before b0 ≡ false
    → ((b : Block) → new b ≡ option_or (old b) (if same_block b b0 then w b0 else None)) → ((b : Block) → old b ≡ (if before b then w b else None)) → (b : Block) → new b ≡ (if after b then w b else None)
grows before after b0 w old new more first grown so_far b =
    finish (before b) (same_block b b0) (w b) (w b0) (new b)
    (grown b ∙ ap (λ o. option_or o (if same_block b b0 then w b0 else None)) (so_far b))
    (λ e. ap before (same_block-is b b0 e) ∙ first) (λ e. ap w (same_block-is b b0 e))
    ∙ ap (λ (t : Bool). if t then w b else None) (sym (more b))

same_or : (u s : Bool) → (s ≡ true → u ≡ true) → (u || s) ≡ u
same_or true s h = refl
same_or false true h = sym (h refl)
same_or false false h = refl

-- ---- blocks of entries

block_none : (act : Act) (b : Block) → update_block act ≡ None → updates b act ≡ false
block_none (Update first kind at redo undo) b e = absurd cc
block_none Commit b e = refl

pub block_some : (act : Act) (b0 b : Block) → update_block act ≡ Some b0 → updates b act ≡ same_block b b0
block_some (Update first kind at redo undo) b0 b e = ap (λ (o : Option Block). same_block b (the o b)) e
  where
    the : Option Block → Block → Block
    the None x = x
    the (Some x) y = x
block_some Commit b0 b e = absurd cc

partial_none : (c : Content) (log : List Entry) (act : Act) → update_block act ≡ None → updates_partial c log act ≡ false
partial_none c log (Update first kind at redo undo) e = absurd cc
partial_none c log Commit e = refl

partial_some : (c : Content) (log : List Entry) (act : Act) (b0 : Block) → update_block act ≡ Some b0 → updates_partial c log act ≡ is_partial c log b0
partial_some c log (Update first kind at redo undo) b0 e = ap (λ (o : Option Block). is_partial c log (the o b0)) e
  where
    the : Option Block → Block → Block
    the None x = x
    the (Some x) y = x
partial_some c log Commit b0 e = absurd cc

find_here : (p : Entry → Bool) (e : Entry) (rest : List Entry) → p e ≡ true → find p (e ∷ rest) ≡ Some e
find_here p e rest is = ap (λ (t : Bool). if t then Some e else find p rest) is

find_after : (p : Entry → Bool) (e : Entry) (rest : List Entry) → p e ≡ false → find p (e ∷ rest) ≡ find p rest
find_after p e rest is = ap (λ (t : Bool). if t then Some e else find p rest) is

rest_more : (p : Entry → Bool) (log : List Entry) (k : ℕ) (e : Entry) → k < length log → e ≡ get_or log k e → p e ≡ false → find p (drop k log) ≡ find p log → find p (drop (k + 1) log) ≡ find p log
rest_more p log k e lt is fails so_far = sym (find_after p e (drop (k + 1) log) fails) ∙ sym (ap (find p) (rest_is log k e lt is)) ∙ so_far

-- ---- the steps

same_found : (c : Content) (log : List Entry) (k : ℕ) (e : Entry) (found : List RecoveredBlock) → ((b : Block) → is_updated (take (k + 1) log) b ≡ is_updated (take k log) b) → k < length log → e ≡ get_or log k e → updates_partial c log e.act ≡ false → Found c log k found → Found c log (k + 1) found
same_found c log k e found same lt is fails f = record {
  held = λ b. f.held b ∙ ap (λ (t : Bool). if t then written_body c log b else None) (sym (same b));
  once = f.once;
  whole = λ b u. f.whole b (sym (same b) ∙ u);
  rest = rest_more (λ (x : Entry). updates_partial c log x.act) log k e lt is fails f.rest;
}

-- an entry that is no update
pub no_update : (c : Content) (log : List Entry) (k : ℕ) (e : Entry) (found : List RecoveredBlock) → k < length log → e ≡ get_or log k e → update_block e.act ≡ None → Found c log k found → Found c log (k + 1) found
no_update c log k e found lt is none f =
    same_found c log k e found (λ b. updated_more log k e b lt is ∙ ap (λ (t : Bool). is_updated (take k log) b || t) (block_none e.act b none) ∙ or_false (is_updated (take k log) b)) lt is (partial_none c log e.act none) f

-- an update of a block that was updated before
pub updated_again : (c : Content) (log : List Entry) (k : ℕ) (e : Entry) (b0 : Block) (found : List RecoveredBlock) → k < length log → e ≡ get_or log k e → update_block e.act ≡ Some b0 → is_updated (take k log) b0 ≡ true → Found c log k found → Found c log (k + 1) found
updated_again c log k e b0 found lt is some again f =
    same_found c log k e found
    (λ b. updated_more log k e b lt is ∙ ap (λ (t : Bool). is_updated (take k log) b || t) (block_some e.act b0 b some) ∙ same_or (is_updated (take k log) b) (same_block b b0) (λ same. ap (is_updated (take k log)) (same_block-is b b0 same) ∙ again))
    lt is (partial_some c log e.act b0 some ∙ f.whole b0 again) f

split_or : (u s : Bool) → (u || s) ≡ true → s ≡ false → u ≡ true
split_or true s e n = refl
split_or false s e n = absurd cc

-- the first update of a block
pub added : (c : Content) (log : List Entry) (k : ℕ) (e : Entry) (b0 : Block) (judged : Judged) (old new : List RecoveredBlock) → k < length log → e ≡ get_or log k e → update_block e.act ≡ Some b0 → is_updated (take k log) b0 ≡ false
    → Says c log b0 judged → Adds judged b0 old new → Found c log k old → Found c log (k + 1) new
added c log k e b0 judged old new lt is some first said adds f =
    let part = said.part ∙ adds.whole in
    let more = λ (b : Block). updated_more log k e b lt is ∙ ap (λ (t : Bool). is_updated (take k log) b || t) (block_some e.act b0 b some) in
    record {
      held = grows (is_updated (take k log)) (is_updated (take (k + 1) log)) b0 (written_body c log) (held body_block (λ (r : RecoveredBlock). r.body) old) (held body_block (λ (r : RecoveredBlock). r.body) new) more first
          (λ b. ap (λ (rs : List RecoveredBlock). held body_block (λ (r : RecoveredBlock). r.body) rs b) adds.bodies ∙ held-bodies_with judged b0 old b
          ∙ ap (λ (o : Option BodyOf). option_or (held body_block (λ (r : RecoveredBlock). r.body) old b) (if same_block b b0 then o else None)) (sym (said.body adds.whole)))
          f.held;
      once = subst (λ (rs : List RecoveredBlock). IsDistinct same_block (map body_block rs)) (sym adds.bodies)
          (bodies_once judged b0 old f.once (f.held b0 ∙ ap (λ (t : Bool). if t then written_body c log b0 else None) first));
      whole = λ b u. whole_more b (same_block b b0) refl u;
      rest = rest_more (λ (x : Entry). updates_partial c log x.act) log k e lt is (partial_some c log e.act b0 some ∙ part) f.rest;
    }
  where
    whole_more : (b : Block) (s : Bool) → same_block b b0 ≡ s → is_updated (take (k + 1) log) b ≡ true → is_partial c log b ≡ false
    whole_more b true same u = ap (is_partial c log) (same_block-is b b0 same) ∙ said.part ∙ adds.whole
    whole_more b false same u = f.whole b (split_or (is_updated (take k log) b) (same_block b b0) (sym (updated_more log k e b lt is ∙ ap (λ (t : Bool). is_updated (take k log) b || t) (block_some e.act b0 b some)) ∙ u) same)

-- a block that is recovered in part
pub refused : (c : Content) (log : List Entry) (k : ℕ) (e : Entry) (b0 : Block) (judged : Judged) (found : List RecoveredBlock) → k < length log → e ≡ get_or log k e → update_block e.act ≡ Some b0
    → Says c log b0 judged → is_part judged ≡ true → Found c log k found → first_partial c log ≡ Some e.lsn
refused c log k e b0 judged found lt is some said part f =
    let p = λ (x : Entry). updates_partial c log x.act in
    ap (option_map (λ (x : Entry). x.lsn)) (sym f.rest ∙ ap (find p) (rest_is log k e lt is) ∙ find_here p e (drop (k + 1) log) (partial_some c log e.act b0 some ∙ said.part ∙ part))
