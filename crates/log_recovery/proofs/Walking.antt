-- One entry more of a list of entries.
use Rattle.std.proofs.Common.{◌≡◌, ℕ, suc, ◌+◌, ◌-◌, ◌<◌, Bool, true, false, ◌||◌, ◌&&◌, List, [], ◌∷◌, ◌++◌, length, take, drop, get_or, Option, Some, None, refl, sym, ap, ◌∙◌, append_assoc, cond, arith}
use Rattle.std.specs.Ordering.{eq_by_cmp, nat_cmp}
use Rattle.std.proofs.lemmas.Bool.Decides.{nat_tests}
use Rattle.std.specs.Prelude.{unwrap_or, ◌==◌}
use Rattle.std.specs.Option.{option_or}
use Rattle.std.specs.Borrow.{Bor}
use Rattle.std.proofs.Math.Seq.{drop-cons}
use Rattle.std.proofs.lemmas.List.{take_more}
use Rattle.std.proofs.lemmas.List.Folds.{list_any-append}
use Rattle.log_reading.specs.disk_model.declared.block.Block.{Block}
use Rattle.log_reading.specs.disk_model.Writes.{Write, bytes_after}
use Rattle.log_reading.proofs.disk_model.Frames.{bytes_after-append}
use Rattle.log_model.specs.declared.entry.Entry.{Entry}
use Rattle.log_model.specs.Logs.{act_says, last_said, undo_of, redo_of, undos_back, redos, is_ended, is_commit}
use Rattle.log_recovery.specs.Groups.{lent}

-- the items from this place on
pub rest_is : {X : Type 0} (xs : List X) (k : ℕ) (x : X) → k < length xs → x ≡ get_or xs k x → drop k xs ≡ x ∷ drop (k + 1) xs
rest_is {X} xs k x lt is =
    let next : suc k ≡ k + 1 = omega arith in
    drop-cons xs k x lt ∙ ap (λ (y : X). y ∷ drop (suc k) xs) (sym is) ∙ ap (λ (j : ℕ). x ∷ drop j xs) next

-- and those up to it
pub front_is : {X : Type 0} (xs : List X) (k : ℕ) (x : X) → k < length xs → x ≡ get_or xs k x → take (k + 1) xs ≡ take k xs ++ x ∷ []
front_is {X} xs k x lt is = take_more xs k x lt ∙ ap (λ (y : X). take k xs ++ y ∷ []) (sym is)

pub lent-append : (xs ys : List (Bor Entry)) → lent (xs ++ ys) ≡ lent xs ++ lent ys
lent-append [] ys = refl
lent-append (x ∷ xs) ys = ap (λ (es : List Entry). x.now ∷ es) (lent-append xs ys)

lent_rest : (group : List (Bor Entry)) (k : ℕ) (e : Bor Entry) → k < length group → e ≡ get_or group k e → lent (drop k group) ≡ e.now ∷ lent (drop (k + 1) group)
lent_rest group k e lt is = ap lent (rest_is group k e lt is)

pub lent_front : (group : List (Bor Entry)) (k : ℕ) (e : Bor Entry) → k < length group → e ≡ get_or group k e → lent (take (k + 1) group) ≡ lent (take k group) ++ e.now ∷ []
lent_front group k e lt is = ap lent (front_is group k e lt is) ∙ lent-append (take k group) (e ∷ [])

unwrap_or-or : (o p : Option Bool) (d : Bool) → unwrap_or (option_or o p) d ≡ unwrap_or o (unwrap_or p d)
unwrap_or-or None p d = refl
unwrap_or-or (Some x) p d = refl

pub said_more : (ended : ℕ → Bool) (group : List (Bor Entry)) (k : ℕ) (e : Bor Entry) (b : Block) (before now all : Bool) → k < length group → e ≡ get_or group k e → now ≡ unwrap_or (act_says b (ended e.now.tx) e.now.act) before
    → unwrap_or (last_said ended (lent (drop k group)) b) before ≡ all → unwrap_or (last_said ended (lent (drop (k + 1) group)) b) now ≡ all
said_more ended group k e b before now all lt is said so_far =
    let rest = lent (drop (k + 1) group) in
    ap (unwrap_or (last_said ended rest b)) said
    ∙ sym (unwrap_or-or (last_said ended rest b) (act_says b (ended e.now.tx) e.now.act) before)
    ∙ sym (ap (λ (xs : List Entry). unwrap_or (last_said ended xs b) before) (lent_rest group k e lt is))
    ∙ so_far

pub redone_more : (ended : ℕ → Bool) (group : List (Bor Entry)) (k : ℕ) (e : Bor Entry) (b : Block) (bytes now all : List ℕ) → k < length group → e ≡ get_or group k e → now ≡ bytes_after (redo_of (ended e.now.tx) e.now.act) b bytes
    → bytes_after (redos ended (lent (drop k group))) b bytes ≡ all → bytes_after (redos ended (lent (drop (k + 1) group))) b now ≡ all
redone_more ended group k e b bytes now all lt is made so_far =
    let rest = lent (drop (k + 1) group) in
    ap (bytes_after (redos ended rest) b) made
    ∙ sym (bytes_after-append (redo_of (ended e.now.tx) e.now.act) (redos ended rest) b bytes)
    ∙ sym (ap (λ (xs : List Entry). bytes_after (redos ended xs) b bytes) (lent_rest group k e lt is))
    ∙ so_far

-- the last entry is undone first
undos_back-push : (log : List Entry) (e : Entry) → undos_back (log ++ e ∷ []) ≡ undo_of e.act ++ undos_back log
undos_back-push [] e = sym (append-none (undo_of e.act))
  where
    append-none : (ws : List Write) → ws ++ [] ≡ ws
    append-none [] = refl
    append-none (w ∷ ws) = ap (λ (l : List Write). w ∷ l) (append-none ws)
undos_back-push (x ∷ log) e =
    ap (λ (ws : List Write). ws ++ undo_of x.act) (undos_back-push log e) ∙ append_assoc (undo_of e.act) (undos_back log) (undo_of x.act)

pub undone_more : (group : List (Bor Entry)) (k i : ℕ) (e : Bor Entry) (b : Block) (bytes now all : List ℕ) → length group ≡ i + k + 1 → e ≡ get_or group i e → now ≡ bytes_after (undo_of e.now.act) b bytes
    → bytes_after (undos_back (lent (take (length group - k) group))) b bytes ≡ all → bytes_after (undos_back (lent (take (length group - (k + 1)) group))) b now ≡ all
undone_more group k i e b bytes now all size is made so_far =
    let here : length group - k ≡ i + 1 = omega arith in
    let next : length group - (k + 1) ≡ i = omega arith in
    let lt : i < length group = omega arith in
    let front = lent (take i group) in
    ap (λ (n : ℕ). bytes_after (undos_back (lent (take n group))) b now) next
    ∙ ap (bytes_after (undos_back front) b) made
    ∙ sym (bytes_after-append (undo_of e.now.act) (undos_back front) b bytes)
    ∙ sym (ap (λ (ws : List Write). bytes_after ws b bytes) (undos_back-push front e.now))
    ∙ sym (ap (λ (xs : List Entry). bytes_after (undos_back xs) b bytes) (lent_front group i e lt is))
    ∙ sym (ap (λ (n : ℕ). bytes_after (undos_back (lent (take n group))) b bytes) here)
    ∙ so_far

or_false : (a : Bool) → (a || false) ≡ a
or_false true = refl
or_false false = refl

and_true : (a : Bool) → (a && true) ≡ a
and_true true = refl
and_true false = refl

or_nothing : (a t : Bool) → (a || ((t && false) || false)) ≡ a
or_nothing true t = refl
or_nothing false true = refl
or_nothing false false = refl

-- one more entry ends its transaction, or none
pub ended_more : (log : List Entry) (k : ℕ) (e : Entry) (tx : ℕ) → k < length log → e ≡ get_or log k e → is_ended (take (k + 1) log) tx ≡ (is_ended (take k log) tx || (((e.tx == tx) && is_commit e.act) || false))
ended_more log k e tx lt is =
    ap (λ (xs : List Entry). is_ended xs tx) (front_is log k e lt is) ∙ list_any-append (λ (x : Entry). (x.tx == tx) && is_commit x.act) (take k log) (e ∷ [])

-- after an entry that is a commit, or none
pub ended_with : (log : List Entry) (k : ℕ) (e : Entry) (tx : ℕ) (old new : Bool) → k < length log → e ≡ get_or log k e → is_commit e.act ≡ true → new ≡ (old || (e.tx == tx)) → old ≡ is_ended (take k log) tx → new ≡ is_ended (take (k + 1) log) tx
ended_with log k e tx old new lt is commit made so_far =
    made ∙ ap (λ (t : Bool). t || (e.tx == tx)) so_far ∙ ap (λ (t : Bool). is_ended (take k log) tx || t) (sym (or_false (e.tx == tx)) ∙ sym (ap (λ (t : Bool). ((e.tx == tx) && t) || false) commit ∙ ap (λ (t : Bool). t || false) (and_true (e.tx == tx)))) ∙ sym (ended_more log k e tx lt is)

pub ended_without : (log : List Entry) (k : ℕ) (e : Entry) (tx : ℕ) (old : Bool) → k < length log → e ≡ get_or log k e → is_commit e.act ≡ false → old ≡ is_ended (take k log) tx → old ≡ is_ended (take (k + 1) log) tx
ended_without log k e tx old lt is none so_far =
    so_far ∙ sym (ended_more log k e tx lt is ∙ ap (λ (t : Bool). is_ended (take k log) tx || (((e.tx == tx) && t) || false)) none ∙ or_nothing (is_ended (take k log) tx) (e.tx == tx))

-- ---- places in maps of numbers

pub number_equal : (x y : ℕ) → eq_by_cmp nat_cmp x y ≡ (x == y)
number_equal x y = grind (arith, nat_tests)

-- after a number is put into a set
pub after_put : (old now : Bool) (key q : ℕ) → now ≡ cond (eq_by_cmp nat_cmp key q) true old → now ≡ (old || (key == q))
after_put old now key q made = made ∙ ap (λ (t : Bool). cond t true old) (number_equal key q) ∙ swap (key == q) old
  where
    swap : (t o : Bool) → cond t true o ≡ (o || t)
    swap true true = refl
    swap true false = refl
    swap false true = refl
    swap false false = refl
