-- What is found by all entries is what is meant.
use Rattle.std.proofs.Common.{◌≡◌, ℕ, ◌+◌, ◌*◌, ◌/◌, ◌<◌, ◌≤◌, Bool, true, false, not, ◌||◌, ◌&&◌, List, [], ◌∷◌, ◌++◌, length, take, drop, get_or, Option, Some, None, refl, sym, ap, ◌∙◌, subst, arith}
use Rattle.std.specs.Prelude.{if◌then◌else◌, All, nat_eq, nat_le, nat_lt, find, unwrap_or, IfSome, OnOk, IfErr, map, Result, Ok, Err}
use Rattle.std.specs.List.{AllByRecursion, IsDistinct}
use Rattle.std.specs.Option.{option_map, option_or}
use Rattle.std.specs.Cmp.Lexicographic.{pointwise}
use Rattle.std.proofs.lemmas.List.{take_all, drop_all, take-append-drop}
use Rattle.std.proofs.lemmas.List.Folds.{list_any-append}
use Rattle.std.proofs.lemmas.Bool.{and_parts, eqb-true, ltb-false}
use Rattle.std.proofs.lemmas.List.Elements.{recursion_from_All, All-from_recursion}
use mathlib.Core.Path.{fun_ext}
use Rattle.log_reading.specs.disk_model.declared.block.Block.{Block}
use Rattle.log_reading.specs.disk_model.declared.block.BlockKind.{BlockKind}
use Rattle.log_reading.specs.disk_model.declared.block.BlockKind.TheVariants.{Plain, FileRec, Index}
use Rattle.log_reading.specs.disk_model.Bodies.{BodyOf}
use Rattle.log_reading.specs.disk_model.Sectors.{sectors, same_block}
use Rattle.log_reading.specs.disk_model.Content.{Content, HasSizes}
use Rattle.log_reading.specs.disk_model.Writes.{Write}
use Rattle.log_reading.specs.disk_model.Laws.{IsElsewhere}
use Rattle.log_reading.proofs.disk_model.Frames.{overlay_elsewhere}
use Rattle.log_model.specs.declared.entry.Entry.{Entry}
use Rattle.log_model.specs.declared.entry.Act.{Act}
use Rattle.log_model.specs.declared.entry.Act.TheVariants.{Update, Commit}
use Rattle.log_model.specs.Logs.{kind_of, AreLevel, is_misplaced, first_misplaced, updates, IsLevel, is_ended, is_shadowed, undo_of, redo_of, undos_back, redos, recovery_of, recovered, is_covered_whole, is_other, is_written_out, updates_partial, first_partial}
use Rattle.log_model.proofs.Recovering.{stays, changes, torn_after}
use Rattle.log_recovery.specs.declared.found.RecoveredBlock.{RecoveredBlock}
use Rattle.log_recovery.specs.declared.found.Shadow.{Shadow}
use Rattle.log_recovery.specs.declared.found.RecoveredBlocks.{RecoveredBlocks}
use Rattle.log_recovery.specs.declared.found.Judged.{Judged}
use Rattle.log_reading.specs.declared.fault.RecoveryFault.{RecoveryFault}
use Rattle.log_reading.specs.declared.fault.LogRefusal.TheVariants.{LogVersion, NoRestart, ForeignLog}
use Rattle.log_reading.specs.declared.fault.RecoveryFault.TheVariants.{Refused, Fault, Memory}
use Rattle.log_recovery.specs.Blocks.{LiesInside, Lies, Judges}
use Rattle.log_recovery.specs.Recovering.{is_updated, held_body, held_lsn, shadow_lsn, written_body, body_block, shadow_block, AreRecovered, foreign_entry, Recovers}
use Rattle.log_recovery.specs.Finding.{is_part, Found, Adds, Refuses, IsFirstPartial, update_block, RecoversPlaced}
use Rattle.log_recovery.proofs.Saying.{body_of_parts, says}
use Rattle.log_recovery.proofs.Steps.{added, refused, no_update, updated_again, block_some, same_self_block, distinct_none}
use Rattle.log_recovery.proofs.Walking.{rest_is}

-- ---- a block that isn't written out

all_append : (b : Block) (xs ys : List Write) → AllByRecursion (IsElsewhere b) xs → AllByRecursion (IsElsewhere b) ys → AllByRecursion (IsElsewhere b) (xs ++ ys)
all_append b [] ys all more = more
all_append b (x ∷ xs) ys all more = (all.0, all_append b xs ys all.1 more)

or_none : (u v : Bool) → (u || v) ≡ false → (u ≡ false) × (v ≡ false)
or_none true v e = absurd cc
or_none false v e = (refl, e)

undo_elsewhere : (b : Block) (act : Act) → updates b act ≡ false → AllByRecursion (IsElsewhere b) (undo_of act)
undo_elsewhere b (Update first kind at redo undo) e = (e, tt)
undo_elsewhere b Commit e = tt

redo_elsewhere : (b : Block) (ended : Bool) (act : Act) → updates b act ≡ false → AllByRecursion (IsElsewhere b) (redo_of ended act)
redo_elsewhere b true (Update first kind at redo undo) e = (e, tt)
redo_elsewhere b true Commit e = tt
redo_elsewhere b false act e = tt

undos_elsewhere : (log : List Entry) (b : Block) → is_updated log b ≡ false → AllByRecursion (IsElsewhere b) (undos_back log)
undos_elsewhere [] b e = tt
undos_elsewhere (x ∷ log) b e =
    let parts = or_none (updates b x.act) (is_updated log b) e in
    all_append b (undos_back log) (undo_of x.act) (undos_elsewhere log b parts.1) (undo_elsewhere b x.act parts.0)

redos_elsewhere : (ended : ℕ → Bool) (log : List Entry) (b : Block) → is_updated log b ≡ false → AllByRecursion (IsElsewhere b) (redos ended log)
redos_elsewhere ended [] b e = tt
redos_elsewhere ended (x ∷ log) b e =
    let parts = or_none (updates b x.act) (is_updated log b) e in
    all_append b (redo_of (ended x.tx) x.act) (redos ended log) (redo_elsewhere b (ended x.tx) x.act parts.0) (redos_elsewhere ended log b parts.1)

some_bytes : (kind : BlockKind) → 0 < 512 * sectors kind
some_bytes Plain = omega arith
some_bytes FileRec = omega arith
some_bytes Index = omega arith

not_updated : (c : Content) (log : List Entry) (b : Block) → HasSizes c → is_shadowed log b ≡ false → is_updated log b ≡ false → recovered c log b ≡ c b
not_updated c log b sized seen none =
    let some : 0 < length (c b).bytes = subst (λ (n : ℕ). 0 < n) (sym (sized b)) (some_bytes b.kind) in
    changes c log b seen ∙ overlay_elsewhere c (recovery_of log) b some (all_append b (undos_back log) (redos (is_ended log) log) (undos_elsewhere log b none) (redos_elsewhere (is_ended log) log b none))

same_from_test : (xs ys : List ℕ) → pointwise nat_eq xs ys ≡ true → xs ≡ ys
same_from_test [] [] e = refl
same_from_test [] (y ∷ ys) e = absurd cc
same_from_test (x ∷ xs) [] e = absurd cc
same_from_test (x ∷ xs) (y ∷ ys) e =
    let parts = and_parts (nat_eq x y) (pointwise nat_eq xs ys) e in
    ap (λ (n : ℕ). n ∷ xs) (eqb-true x y parts.0) ∙ ap (λ (l : List ℕ). y ∷ l) (same_from_test xs ys parts.1)

not_not : (t : Bool) → not t ≡ false → t ≡ true
not_not true e = refl
not_not false e = absurd cc

still_torn : (torn whole : Bool) → (torn && whole) ≡ false → (torn && not whole) ≡ torn
still_torn true true e = sym e
still_torn true false e = refl
still_torn false whole e = refl

same_bytes : (c : Content) (log : List Entry) (b : Block) → is_other c log b ≡ false → (recovered c log b).bytes ≡ (c b).bytes
unfolding is_other
same_bytes c log b e = same_from_test (recovered c log b).bytes (c b).bytes (not_not (pointwise nat_eq (recovered c log b).bytes (c b).bytes) e)

not_changed : (c : Content) (log : List Entry) (b : Block) → HasSizes c → All IsLevel log → is_shadowed log b ≡ false → is_other c log b ≡ false → ((c b).torn && is_covered_whole log b) ≡ false → recovered c log b ≡ c b
not_changed c log b sized level seen same whole =
    ap (λ (x : List ℕ). body_of_parts x (recovered c log b).torn) (same_bytes c log b same)
    ∙ ap (λ (t : Bool). body_of_parts (c b).bytes t) (torn_after c log b sized level seen ∙ still_torn (c b).torn (is_covered_whole log b) whole)

-- with these bools a block is written out
abbrev out_of : Bool → Bool → Bool → Bool → Bool
out_of updated shadowed other whole = updated && not shadowed && (other || whole)

written-is : (c : Content) (log : List Entry) (b : Block) → is_written_out c log b ≡ out_of (is_updated log b) (is_shadowed log b) (is_other c log b) ((c b).torn && is_covered_whole log b)
unfolding is_written_out
written-is c log b = refl

by_cases : {X : Type 0} (u s o w : Bool) (x y : X) → out_of u s o w ≡ false → (s ≡ true → x ≡ y) → (s ≡ false → u ≡ false → x ≡ y) → (s ≡ false → o ≡ false → w ≡ false → x ≡ y) → x ≡ y
by_cases u true o w x y e shadowed none same = shadowed refl
by_cases false false o w x y e shadowed none same = none refl refl
by_cases true false true w x y e shadowed none same = absurd cc
by_cases true false false true x y e shadowed none same = absurd cc
by_cases true false false false x y e shadowed none same = same refl refl refl

pub not_written : (c : Content) (log : List Entry) (b : Block) → HasSizes c → All IsLevel log → is_written_out c log b ≡ false → recovered c log b ≡ c b
not_written c log b sized level e =
    by_cases (is_updated log b) (is_shadowed log b) (is_other c log b) ((c b).torn && is_covered_whole log b) (recovered c log b) (c b) (sym (written-is c log b) ∙ e)
    (λ s. stays c log b s) (λ s u. not_updated c log b sized s u) (λ s o w. not_changed c log b sized level s o w)

-- ---- all blocks

none_else : {X : Type 0} (u s o w : Bool) (x : X) → (if u then (if out_of u s o w then Some x else None) else None) ≡ (if out_of u s o w then Some x else None)
none_else true s o w x = refl
none_else false s o w x = refl

written_all : (c : Content) (log : List Entry) (b : Block) → (if is_updated log b then written_body c log b else None) ≡ written_body c log b
written_all c log b =
    let test = written-is c log b in
    let s = is_shadowed log b in
    let o = is_other c log b in
    let w = (c b).torn && is_covered_whole log b in
    ap (λ (t : Bool). if is_updated log b then (if t then Some (recovered c log b) else None) else None) test
    ∙ none_else (is_updated log b) s o w (recovered c log b)
    ∙ ap (λ (t : Bool). if t then Some (recovered c log b) else None) (sym test)

or_own : (w : Bool) (x own : BodyOf) → (w ≡ false → x ≡ own) → unwrap_or (if w then Some x else None) own ≡ x
or_own true x own h = refl
or_own false x own h = sym (h refl)

-- these are the shadowed blocks
pub record AreShadows (log : List Entry) (shadows : List Shadow) : Type 0 where
  pub held : (b : Block) → held_lsn shadows b ≡ shadow_lsn log b
  pub once : IsDistinct same_block (map shadow_block shadows)

pub all_found : (c : Content) (log : List Entry) (k : ℕ) (found : RecoveredBlocks) → HasSizes c → All IsLevel log → length log ≤ k → AreShadows log found.shadows.items → Found c log k found.bodies.items → (first_partial c log ≡ None) × AreRecovered c log found
all_found c log k found sized level past shadows f =
    let all = take_all k log past in
    let bodies = λ (b : Block). f.held b ∙ ap (λ (xs : List Entry). if is_updated xs b then written_body c log b else None) all ∙ written_all c log b in (
      ap (option_map (λ (x : Entry). x.lsn)) (sym f.rest ∙ ap (find (λ (x : Entry). updates_partial c log x.act)) (drop_all k log past)),
      record {
        bodies = bodies;
        once = f.once;
        shadows = shadows.held;
        shadowed_once = shadows.once;
        content = fun_ext (λ b. ap (λ (o : Option BodyOf). unwrap_or o (c b)) (bodies b) ∙ or_own (is_written_out c log b) (recovered c log b) (c b) (not_written c log b sized level));
      },
    )

-- ---- under a content that may be known

pub again_known : (content : Option Content) (log : List Entry) (k : ℕ) (e : Entry) (b0 : Block) (found : List RecoveredBlock) → k < length log → e ≡ get_or log k e → update_block e.act ≡ Some b0 → is_updated (take k log) b0 ≡ true
    → IfSome content (λ c. Found c log k found → Found c log (k + 1) found)
again_known None log k e b0 found lt is some again = tt
again_known (Some c) log k e b0 found lt is some again = updated_again c log k e b0 found lt is some again

pub none_known : (content : Option Content) (log : List Entry) (k : ℕ) (e : Entry) (found : List RecoveredBlock) → k < length log → e ≡ get_or log k e → update_block e.act ≡ None
    → IfSome content (λ c. Found c log k found → Found c log (k + 1) found)
none_known None log k e found lt is none = tt
none_known (Some c) log k e found lt is none = no_update c log k e found lt is none

-- an update of the block stands at this index
updated_here : (log : List Entry) (k : ℕ) (e : Entry) (b0 : Block) → k < length log → e ≡ get_or log k e → updates b0 e.act ≡ true → is_updated log b0 ≡ true
updated_here log k e b0 lt is own = ap (λ (xs : List Entry). is_updated xs b0) (sym (take-append-drop k log)) ∙ list_any-append (λ (x : Entry). updates b0 x.act) (take k log) (drop k log)
    ∙ ap (λ (xs : List Entry). is_updated (take k log) b0 || is_updated xs b0) (rest_is log k e lt is)
    ∙ ap (λ (t : Bool). is_updated (take k log) b0 || (t || is_updated (drop (k + 1) log) b0)) own ∙ or_true (is_updated (take k log) b0)
  where
    or_true : (a : Bool) → (a || true) ≡ true
    or_true true = refl
    or_true false = refl

own_block : (act : Act) (b0 : Block) → update_block act ≡ Some b0 → updates b0 act ≡ true
own_block act b0 e = block_some act b0 b0 e ∙ same_self_block b0

pub added_known : {T : Type 0} (content : Option Content) (log : List Entry) (k : ℕ) (e : Entry) (b0 : Block) (judged : Judged) (ended : ℕ → Bool) (old new : List RecoveredBlock) (result : Result T RecoveryFault) → ended ≡ is_ended log → All IsLevel log
    → k < length log → e ≡ get_or log k e → update_block e.act ≡ Some b0 → is_updated (take k log) b0 ≡ false → IfSome content HasSizes → IfSome content (λ c. Judges ended log b0 (c b0) judged) → OnOk result (Adds judged b0 old new)
    → IfSome content (λ c. Found c log k old → OnOk result (Found c log (k + 1) new))
added_known None log k e b0 judged ended old new result same level lt is some first sized judges adds = tt
added_known (Some c) log k e b0 judged ended old new (Err x) same level lt is some first sized judges adds = λ f. tt
added_known (Some c) log k e b0 judged ended old new (Ok x) same level lt is some first sized judges adds = λ f.
    added c log k e b0 judged old new lt is some first
    (says c log b0 judged sized level (updated_here log k e b0 lt is (own_block e.act b0 some)) (subst (λ (t : ℕ → Bool). Judges t log b0 (c b0) judged) same judges)) adds f

refused_as : (c : Content) (log : List Entry) (lsn : ℕ) (judged : Judged) (x : RecoveryFault) → Refuses judged lsn x → (is_part judged ≡ true → first_partial c log ≡ Some lsn) → IsFirstPartial c log x
refused_as c log lsn judged (Refused (LogVersion major minor)) r h = r
refused_as c log lsn judged (Refused NoRestart) r h = r
refused_as c log lsn judged (Refused (ForeignLog l)) r h = h r.0 ∙ ap (λ (n : ℕ). Some n) (sym r.1)
refused_as c log lsn judged Fault r h = tt
refused_as c log lsn judged Memory r h = tt

pub refused_known : {T : Type 0} (content : Option Content) (log : List Entry) (k : ℕ) (e : Entry) (b0 : Block) (judged : Judged) (ended : ℕ → Bool) (old : List RecoveredBlock) (result : Result T RecoveryFault) → ended ≡ is_ended log → All IsLevel log
    → k < length log → e ≡ get_or log k e → update_block e.act ≡ Some b0 → IfSome content HasSizes → IfSome content (λ c. Judges ended log b0 (c b0) judged) → IfErr result (Refuses judged e.lsn)
    → IfSome content (λ c. Found c log k old → IfErr result (IsFirstPartial c log))
refused_known None log k e b0 judged ended old result same level lt is some sized judges refuses = tt
refused_known (Some c) log k e b0 judged ended old (Ok x) same level lt is some sized judges refuses = λ f. tt
refused_known (Some c) log k e b0 judged ended old (Err x) same level lt is some sized judges refuses = λ f.
    refused_as c log e.lsn judged x refuses (λ part. refused c log k e b0 judged old lt is some
    (says c log b0 judged sized level (updated_here log k e b0 lt is (own_block e.act b0 some)) (subst (λ (t : ℕ → Bool). Judges t log b0 (c b0) judged) same judges)) part f)

-- ---- entries that aren't misplaced

no_entry : (o : Option Entry) → option_map (λ (x : Entry). x.lsn) o ≡ None → o ≡ None
no_entry None e = refl
no_entry (Some x) e = absurd cc

none_first : (t : Bool) (x : Entry) (o : Option Entry) → (if t then Some x else o) ≡ None → (t ≡ false) × (o ≡ None)
none_first true x o e = absurd cc
none_first false x o e = (refl, e)

placed_lies : (clusters : ℕ) (act : Act) → AreLevel act → is_misplaced clusters act ≡ false → LiesInside act
unfolding is_misplaced
placed_lies clusters (Update first kind at redo undo) level e =
    let parts = or_none (nat_le clusters (first / 8)) (nat_lt (512 * sectors (kind_of kind)) (at + length redo)) e in
    (level, ltb-false _ _ parts.1)
placed_lies clusters Commit level e = tt

lies_by : (clusters : ℕ) (log : List Entry) → AllByRecursion IsLevel log → find (λ (e : Entry). is_misplaced clusters e.act) log ≡ None → AllByRecursion Lies log
lies_by clusters [] level e = tt
lies_by clusters (x ∷ log) level e =
    let parts = none_first (is_misplaced clusters x.act) x (find (λ (y : Entry). is_misplaced clusters y.act) log) e in
    (placed_lies clusters x.act level.0 parts.0, lies_by clusters log level.1 parts.1)

pub all_lies : (clusters : ℕ) (log : List Entry) → All IsLevel log → first_misplaced log clusters ≡ None → All Lies log
all_lies clusters log level e = All-from_recursion Lies log (lies_by clusters log (recursion_from_All IsLevel log level) (no_entry (find (λ (x : Entry). is_misplaced clusters x.act) log) e))

foreign-misplaced : (c : Content) (log : List Entry) (clusters lsn : ℕ) → first_misplaced log clusters ≡ Some lsn → foreign_entry c log clusters ≡ Some lsn
unfolding foreign_entry
foreign-misplaced c log clusters lsn e = ap (λ (o : Option ℕ). option_or o (first_partial c log)) e

foreign-placed : (c : Content) (log : List Entry) (clusters : ℕ) → first_misplaced log clusters ≡ None → foreign_entry c log clusters ≡ first_partial c log
unfolding foreign_entry
foreign-placed c log clusters e = ap (λ (o : Option ℕ). option_or o (first_partial c log)) e

pub misplaced_known : (content : Option Content) (log : List Entry) (clusters lsn : ℕ) → first_misplaced log clusters ≡ Some lsn → IfSome content (λ c. Recovers c log clusters (Err (Refused (ForeignLog lsn))))
misplaced_known None log clusters lsn e = tt
misplaced_known (Some c) log clusters lsn e = foreign-misplaced c log clusters lsn e

placed_result : (c : Content) (log : List Entry) (clusters : ℕ) (result : Result RecoveredBlocks RecoveryFault) → first_misplaced log clusters ≡ None → RecoversPlaced c log result → Recovers c log clusters result
placed_result c log clusters (Ok found) e r = (foreign-placed c log clusters e ∙ r.0, r.1)
placed_result c log clusters (Err (Refused (LogVersion major minor))) e r = r
placed_result c log clusters (Err (Refused NoRestart)) e r = r
placed_result c log clusters (Err (Refused (ForeignLog lsn))) e r = foreign-placed c log clusters e ∙ r
placed_result c log clusters (Err Fault) e r = tt
placed_result c log clusters (Err Memory) e r = tt

pub placed_known : (content : Option Content) (log : List Entry) (clusters : ℕ) (result : Result RecoveredBlocks RecoveryFault) → first_misplaced log clusters ≡ None → IfSome content (λ c. RecoversPlaced c log result) → IfSome content (λ c. Recovers c log clusters result)
placed_known None log clusters result e r = tt
placed_known (Some c) log clusters result e r = placed_result c log clusters result e r

-- nothing is found before the first entry
pub found_none : (content : Option Content) (log : List Entry) (bodies : List RecoveredBlock) → bodies ≡ [] → IfSome content (λ c. Found c log 0 bodies)
found_none None log bodies none = tt
found_none (Some c) log bodies none = record {
  held = λ b. ap (λ (rs : List RecoveredBlock). held_body rs b) none;
  once = subst (λ (rs : List RecoveredBlock). IsDistinct same_block (map body_block rs)) (sym none) distinct_none;
  whole = λ b e. absurd cc;
  rest = refl;
}

pub done_known : (content : Option Content) (log : List Entry) (k : ℕ) (found : RecoveredBlocks) → IfSome content HasSizes → All IsLevel log → length log ≤ k → AreShadows log found.shadows.items → IfSome content (λ c. Found c log k found.bodies.items) → IfSome content (λ c. RecoversPlaced c log (Ok found))
done_known None log k found sized level past shadows f = tt
done_known (Some c) log k found sized level past shadows f = all_found c log k found sized level past shadows f
