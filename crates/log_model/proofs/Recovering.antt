-- Recovery byte by byte.
use Rattle.std.proofs.Common.{◌≡◌, ℕ, ◌+◌, ◌-◌, ◌*◌, ◌<◌, Bool, true, false, not, ◌&&◌, ◌||◌, List, [], ◌∷◌, ◌++◌, length, slice_index, Option, Some, None, refl, sym, ap, ◌∙◌}
use Rattle.std.specs.Prelude.{unwrap_or, if◌then◌else◌, nat_le, nat_lt, All}
use Rattle.std.specs.List.{list_any, list_all, range_with_len, AllByRecursion}
use Rattle.std.specs.Option.{option_or}
use Rattle.std.proofs.lemmas.List.Elements.{recursion_from_All}
use Rattle.std.proofs.lemmas.List.Folds.{list_any-append}
use mathlib.Core.Path.{fun_ext}
use Rattle.disk_model.specs.declared.block.Block.{Block}
use Rattle.disk_model.specs.declared.block.Body.{Body}
use Rattle.disk_model.specs.Sectors.{sectors, same_block}
use Rattle.disk_model.specs.Content.{Content, HasSizes}
use Rattle.disk_model.specs.Writes.{Write, overlay, covers as write_covers, is_covered, cover_all, put, later, last_put}
use Rattle.disk_model.proofs.Frames.{byte_after, length-bytes_after}
use Rattle.log_model.specs.declared.entry.Entry.{Entry}
use Rattle.log_model.specs.declared.entry.Act.{Act}
use Rattle.log_model.specs.declared.entry.Act.TheVariants.{Update, Commit}
use Rattle.log_model.specs.Logs.{block_of_kind, covers, redo_byte, undo_byte, AreLevel, IsLevel, is_ended, last_redo, first_undo, told, recovered_byte, is_shadowed, redo_of, undo_of, redos, undos_back, recovery_of, recovered, is_covered_whole}

-- ---- what the last of two lists puts

later_none : (o : Option ℕ) → later o None ≡ o
later_none None = refl
later_none (Some v) = refl

later_assoc : (o p q : Option ℕ) → later (later o p) q ≡ later o (later p q)
later_assoc None p q = refl
later_assoc (Some v) p q = refl

later_or : (o p : Option ℕ) → later o p ≡ option_or o p
later_or None p = refl
later_or (Some v) p = refl

pub last_put-append : (xs ys : List Write) (b : Block) (i : ℕ) → last_put (xs ++ ys) b i ≡ later (last_put ys b i) (last_put xs b i)
last_put-append [] ys b i = sym (later_none (last_put ys b i))
last_put-append (x ∷ xs) ys b i = ap (λ (o : Option ℕ). later o (put x b i)) (last_put-append xs ys b i) ∙ later_assoc (last_put ys b i) (last_put xs b i) (put x b i)

-- ---- undone

abbrev undo_put : Act → Block → ℕ → Option ℕ
undo_put act b i = if covers b i act then Some (undo_byte act i) else None

undo_is : (act : Act) (b : Block) (i : ℕ) → AreLevel act → last_put (undo_of act) b i ≡ undo_put act b i
undo_is (Update first kind at redo undo) b i level = ap (λ (n : ℕ). if same_block b (block_of_kind first kind) && nat_le at i && nat_lt i (at + n) then Some (slice_index undo (i - at)) else None) level
undo_is Commit b i level = refl

first_of : (c : Bool) (x : ℕ) (o : Option ℕ) → later (if c then Some x else None) o ≡ (if c then Some x else o)
first_of true x o = refl
first_of false x o = refl

pub last_put-undos_back : (log : List Entry) (b : Block) (i : ℕ) → AllByRecursion IsLevel log → last_put (undos_back log) b i ≡ first_undo log b i
last_put-undos_back [] b i level = refl
last_put-undos_back (e ∷ log) b i level =
    last_put-append (undos_back log) (undo_of e.act) b i
    ∙ ap (λ (o : Option ℕ). later o (last_put (undos_back log) b i)) (undo_is e.act b i level.0)
    ∙ ap (λ (o : Option ℕ). later (undo_put e.act b i) o) (last_put-undos_back log b i level.1)
    ∙ first_of (covers b i e.act) (undo_byte e.act i) (first_undo log b i)

-- ---- redone

and_true : (c : Bool) → (c && true) ≡ c
and_true true = refl
and_true false = refl

and_false : (c : Bool) → (c && false) ≡ false
and_false true = refl
and_false false = refl

pub redo_is : (ended : Bool) (act : Act) (b : Block) (i : ℕ) → last_put (redo_of ended act) b i ≡ (if covers b i act && ended then Some (redo_byte act i) else None)
redo_is true (Update first kind at redo undo) b i =
    let c = covers b i (Update first kind at redo undo) in
    ap (λ (t : Bool). if t then Some (slice_index redo (i - at)) else None) (sym (and_true c))
redo_is true Commit b i = refl
redo_is false act b i = ap (λ (t : Bool). if t then Some (redo_byte act i) else None) (sym (and_false (covers b i act)))

pub last_put-redos : (ended : ℕ → Bool) (log : List Entry) (b : Block) (i : ℕ) → last_put (redos ended log) b i ≡ last_redo ended log b i
last_put-redos ended [] b i = refl
last_put-redos ended (e ∷ log) b i =
    let own = if covers b i e.act && ended e.tx then Some (redo_byte e.act i) else None in
    last_put-append (redo_of (ended e.tx) e.act) (redos ended log) b i
    ∙ ap (λ (o : Option ℕ). later (last_put (redos ended log) b i) o) (redo_is (ended e.tx) e.act b i)
    ∙ ap (λ (o : Option ℕ). later o own) (last_put-redos ended log b i)
    ∙ later_or (last_redo ended log b i) own

pub last_put-recovery_of : (log : List Entry) (b : Block) (i : ℕ) → AllByRecursion IsLevel log → last_put (recovery_of log) b i ≡ told log b i
last_put-recovery_of log b i level =
    last_put-append (undos_back log) (redos (is_ended log) log) b i
    ∙ ap (λ (o : Option ℕ). later o (last_put (undos_back log) b i)) (last_put-redos (is_ended log) log b i)
    ∙ ap (λ (o : Option ℕ). later (last_redo (is_ended log) log b i) o) (last_put-undos_back log b i level)
    ∙ later_or (last_redo (is_ended log) log b i) (first_undo log b i)

-- ---- the recovered content

pub stays : (disk : Content) (log : List Entry) (b : Block) → is_shadowed log b ≡ true → recovered disk log b ≡ disk b
unfolding recovered
stays disk log b e = ap (λ (s : Bool). if s then disk b else overlay disk (recovery_of log) b) e

pub changes : (disk : Content) (log : List Entry) (b : Block) → is_shadowed log b ≡ false → recovered disk log b ≡ overlay disk (recovery_of log) b
unfolding recovered
changes disk log b e = ap (λ (s : Bool). if s then disk b else overlay disk (recovery_of log) b) e

pub recovered_at : (disk : Content) (log : List Entry) (b : Block) (i : ℕ) → All IsLevel log → is_shadowed log b ≡ false → i < length (disk b).bytes → slice_index (recovered disk log b).bytes i ≡ recovered_byte disk log b i
recovered_at disk log b i level e lt =
    ap (λ (body : Body). slice_index body.bytes i) (changes disk log b e)
    ∙ byte_after (recovery_of log) b (disk b).bytes i lt
    ∙ ap (λ (o : Option ℕ). unwrap_or o (slice_index (disk b).bytes i)) (last_put-recovery_of log b i (recursion_from_All IsLevel log level))

pub length-recovered : (disk : Content) (log : List Entry) (b : Block) → length (recovered disk log b).bytes ≡ length (disk b).bytes
length-recovered disk log b = cases (is_shadowed log b) refl
  where
    cases : (s : Bool) → is_shadowed log b ≡ s → length (recovered disk log b).bytes ≡ length (disk b).bytes
    cases true e = ap (λ (body : Body). length body.bytes) (stays disk log b e)
    cases false e = ap (λ (body : Body). length body.bytes) (changes disk log b e) ∙ length-bytes_after (recovery_of log) b (disk b).bytes

-- ---- what it covers

or_swap : (a b : Bool) → (a || b) ≡ (b || a)
or_swap true true = refl
or_swap true false = refl
or_swap false true = refl
or_swap false false = refl

or_false : (a : Bool) → (a || false) ≡ a
or_false true = refl
or_false false = refl

abbrev touches : List Entry → Block → ℕ → Bool
touches log b i = list_any (λ (e : Entry). covers b i e.act) log

undo_covers : (act : Act) (b : Block) (i : ℕ) → AreLevel act → list_any (write_covers b i) (undo_of act) ≡ covers b i act
undo_covers (Update first kind at redo undo) b i level =
    or_false (same_block b (block_of_kind first kind) && nat_le at i && nat_lt i (at + length undo)) ∙ ap (λ (n : ℕ). same_block b (block_of_kind first kind) && nat_le at i && nat_lt i (at + n)) level
undo_covers Commit b i level = refl

undos_cover : (log : List Entry) (b : Block) (i : ℕ) → AllByRecursion IsLevel log → list_any (write_covers b i) (undos_back log) ≡ touches log b i
undos_cover [] b i level = refl
undos_cover (e ∷ log) b i level =
    list_any-append (write_covers b i) (undos_back log) (undo_of e.act)
    ∙ ap (λ (t : Bool). t || list_any (write_covers b i) (undo_of e.act)) (undos_cover log b i level.1)
    ∙ ap (λ (t : Bool). touches log b i || t) (undo_covers e.act b i level.0)
    ∙ or_swap (touches log b i) (covers b i e.act)

redo_covers : (ended : Bool) (act : Act) (b : Block) (i : ℕ) → list_any (write_covers b i) (redo_of ended act) ≡ (covers b i act && ended)
redo_covers true (Update first kind at redo undo) b i =
    let c = covers b i (Update first kind at redo undo) in
    or_false c ∙ sym (and_true c)
redo_covers true Commit b i = refl
redo_covers false act b i = sym (and_false (covers b i act))

within : (c t r all : Bool) → (r ≡ true → all ≡ true) → ((c && t) || r) ≡ true → (c || all) ≡ true
within true t r all rest e = refl
within false t r all rest e = rest e

redos_within : (ended : ℕ → Bool) (log : List Entry) (b : Block) (i : ℕ) → list_any (write_covers b i) (redos ended log) ≡ true → touches log b i ≡ true
redos_within ended [] b i e = e
redos_within ended (x ∷ log) b i e =
    let parts = list_any-append (write_covers b i) (redo_of (ended x.tx) x.act) (redos ended log) in
    let own = ap (λ (t : Bool). t || list_any (write_covers b i) (redos ended log)) (redo_covers (ended x.tx) x.act b i) in
    within (covers b i x.act) (ended x.tx) (list_any (write_covers b i) (redos ended log)) (touches log b i) (redos_within ended log b i) (sym own ∙ sym parts ∙ e)

absorbs : (a r : Bool) → (r ≡ true → a ≡ true) → (a || r) ≡ a
absorbs true r h = refl
absorbs false true h = sym (h refl)
absorbs false false h = refl

pub recovery_covers : (log : List Entry) (b : Block) (i : ℕ) → AllByRecursion IsLevel log → is_covered (recovery_of log) b i ≡ touches log b i
recovery_covers log b i level =
    let re = list_any (write_covers b i) (redos (is_ended log) log) in
    list_any-append (write_covers b i) (undos_back log) (redos (is_ended log) log)
    ∙ ap (λ (t : Bool). t || re) (undos_cover log b i level)
    ∙ absorbs (touches log b i) re (redos_within (is_ended log) log b i)

pub cover_all-recovery_of : (log : List Entry) (b : Block) (n : ℕ) → AllByRecursion IsLevel log → n ≡ 512 * sectors b.kind → cover_all (recovery_of log) b n ≡ is_covered_whole log b
unfolding cover_all is_covered_whole
cover_all-recovery_of log b n level e =
    ap (λ (test : ℕ → Bool). list_all test (range_with_len 0 n)) (fun_ext (λ i. recovery_covers log b i level)) ∙ ap (λ (m : ℕ). list_all (touches log b) (range_with_len 0 m)) e

pub torn_after : (disk : Content) (log : List Entry) (b : Block) → HasSizes disk → All IsLevel log → is_shadowed log b ≡ false → (recovered disk log b).torn ≡ ((disk b).torn && not (is_covered_whole log b))
torn_after disk log b sized level e =
    ap (λ (body : Body). body.torn) (changes disk log b e)
    ∙ ap (λ (t : Bool). (disk b).torn && not t) (cover_all-recovery_of log b (length (disk b).bytes) (recursion_from_All IsLevel log level) (sized b))
