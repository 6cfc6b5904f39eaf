-- The content after a plan's changes is the one with its bodies.
use Rattle.std.proofs.Common.{◌≡◌, ℕ, zero, suc, ◌+◌, ◌-◌, ◌*◌, ◌<◌, ◌≤◌, Bool, true, false, not, ◌&&◌, cond, ltb, leb, List, [], ◌∷◌, ◌++◌, length, get_or, take, Option, Some, None, Result, Ok, Err, refl, sym, ap, subst, ◌∙◌, inl, inr, arith}
use mathlib.Core.Path.{fun_ext}
use Rattle.std.specs.Prelude.{◌||◌, All, IfOk, IfSome}
use Rattle.std.specs.List.{AllByRecursion, list_all, range_with_len}
use Rattle.std.specs.Option.{option_map, ForSome}
use Rattle.std.proofs.lemmas.Bool.{cases_lt, cases_Bool, and_from, or_left, or_right, lt-ltb, le-ltb, le-leb}
use Rattle.std.proofs.lemmas.List.{append-nil, take_more}
use Rattle.std.proofs.lemmas.Grind.{flat_map-append}
use Rattle.std.proofs.lemmas.List.Elements.{All-head, All-tail, All-cons, All-nil, All-append}
use Rattle.plan_bodies.specs.disk_model.declared.block.Block.{Block}
use Rattle.plan_bodies.specs.disk_model.declared.block.BlockKind.{BlockKind}
use Rattle.plan_bodies.specs.disk_model.declared.block.BlockKind.TheVariants.{Plain, FileRec, Index}
use Rattle.plan_bodies.specs.disk_model.declared.block.Change.{Change}
use Rattle.plan_bodies.specs.disk_model.Bodies.{BodyOf}
use Rattle.plan_bodies.specs.disk_model.Bytes.{part, written}
use Rattle.plan_bodies.specs.disk_model.Content.{Content, HasSizes}
use Rattle.plan_bodies.specs.disk_model.Laws.{IsElsewhere}
use Rattle.plan_bodies.specs.disk_model.Sectors.{sectors, same_block}
use Rattle.plan_bodies.specs.disk_model.Writes.{bytes_after, covers, is_covered, cover_all}
use Rattle.block_view.proofs.disk_model.Frames.{bytes_elsewhere, overlay_elsewhere, same_block-is}
use Rattle.block_view.specs.Changes.{Fits, write_of, writes_of, content_after}
use Rattle.plan_bodies.specs.Bodies.{body_or}
use Rattle.plan_draft.specs.declared.touched.Touched.{Touched}
use Rattle.plan_draft.specs.Touching.{block_key, keys_of, rises, touched_at, IsWhole, IsOldOf, old_body}
use Rattle.plan_draft.specs.Drafts.{drafted}
use Rattle.plan_draft.specs.Finishing.{is_whole_change, change_start, change_end, change_of, changes_in, changes_of, change_keys, WasOld}
use Rattle.plan_draft.proofs.Placing.{rises_head, rises_tail, none_behind, other_block}
use Rattle.plan_draft.proofs.Touching.{drafted_at}
use Rattle.plan_draft.proofs.Ranges.{Spans, spans, all_put, none_put, length-part}

-- ---- one block's changes, and the others'

-- a change more, or none
with_change : (t : Touched) (changes : List Change) (P : List Change → Type 0) → (change_start t < change_end t → P (change_of t (change_start t) (change_end t) ∷ changes)) → (change_end t ≤ change_start t → P changes) → P (changes_in t ++ changes)
with_change t changes P some none = elim (cases_lt (change_start t) (change_end t)) [
  | inl lt ↦ rw (lt-ltb (change_start t) (change_end t) lt) (some lt)
  | inr le ↦ rw (le-ltb (change_start t) (change_end t) le) (none le)
]

elsewhere : (touched : List Touched) (b : Block) → touched_at touched b ≡ None → AllByRecursion (IsElsewhere b) (writes_of (changes_of touched))
elsewhere [] b none = tt
elsewhere (t ∷ touched) b none = elim (cases_Bool (same_block b t.block)) [
  | inl same ↦ (let some : Some t ≡ None = rw same at none in absurd cc)
  | inr other ↦
      (let rest = elsewhere touched b (rw other at none) in
      with_change t (changes_of touched) (λ changes. AllByRecursion (IsElsewhere b) (writes_of changes)) (λ lt. (other, rest)) (λ le. rest))
]

-- ---- the bytes

bytes_finished : (least : ℕ) (touched : List Touched) (b : Block) (t : Touched) → rises least (keys_of touched) ≡ true → touched_at touched b ≡ Some t → IsWhole t → bytes_after (writes_of (changes_of touched)) b t.old ≡ t.new
bytes_finished least [] b t up is whole = absurd cc
bytes_finished least (x ∷ touched) b t up is whole = elim (cases_Bool (same_block b x.block)) [
  | inl same ↦
      (let here : Some x ≡ Some t = rw same at is in
      let equal : x ≡ t = cc in
      let block : b ≡ x.block = same_block-is b x.block same in
      let others : touched_at touched b ≡ None = none_behind (suc (block_key x.block)) touched b (rises_tail least (block_key x.block) (keys_of touched) up) (rw block (omega arith)) in
      let quiet = elsewhere touched b others in
      let whole_x : IsWhole x = rw equal whole in
      rw (← equal) (with_change x (changes_of touched) (λ changes. bytes_after (writes_of changes) b x.old ≡ x.new)
      (λ lt. ap (λ (s : Bool). bytes_after (writes_of (changes_of touched)) b (cond s (written (change_start x) (part (change_start x) (change_end x - change_start x) x.new) x.old) x.old)) same
      ∙ bytes_elsewhere (writes_of (changes_of touched)) b (written (change_start x) (part (change_start x) (change_end x - change_start x) x.new) x.old) quiet
      ∙ all_put x.old x.new (change_start x) (change_end x) (spans x whole_x) lt)
      (λ le. bytes_elsewhere (writes_of (changes_of touched)) b x.old quiet ∙ none_put x.old x.new (change_start x) (change_end x) (spans x whole_x) le)))
  | inr other ↦
      (let rest = bytes_finished (suc (block_key x.block)) touched b t (rises_tail least (block_key x.block) (keys_of touched) up) (rw other at is) whole in
      with_change x (changes_of touched) (λ changes. bytes_after (writes_of changes) b t.old ≡ t.new)
      (λ lt. ap (λ (s : Bool). bytes_after (writes_of (changes_of touched)) b (cond s (written (change_start x) (part (change_start x) (change_end x - change_start x) x.new) t.old) t.old)) other ∙ rest)
      (λ le. rest))
]

-- ---- a torn block

has_sectors : (k : BlockKind) → 0 < sectors k
has_sectors Plain = omega arith
has_sectors FileRec = omega arith
has_sectors Index = omega arith

whole_range : (t : Touched) → t.torn ≡ true → (change_start t ≡ 0) × (change_end t ≡ length t.new)
whole_range t torn = let all : is_whole_change t ≡ true = or_right t.fresh t.torn torn in (rw all refl, rw all refl)

covered_finished : (touched : List Touched) (b : Block) (t : Touched) (i : ℕ) → touched_at touched b ≡ Some t → IsWhole t → t.torn ≡ true → i < 512 * sectors b.kind → is_covered (writes_of (changes_of touched)) b i ≡ true
covered_finished [] b t i is whole torn lt = absurd cc
covered_finished (x ∷ touched) b t i is whole torn lt = elim (cases_Bool (same_block b x.block)) [
  | inl same ↦
      (let here : Some x ≡ Some t = rw same at is in
      let equal : x ≡ t = cc in
      let whole_x : IsWhole x = rw equal whole in
      let torn_x : x.torn ≡ true = rw equal torn in
      let range = whole_range x torn_x in
      let start = range.0 in
      let end = range.1 in
      let size : length x.new ≡ 512 * sectors b.kind = whole_x.new ∙ ap (λ (y : Block). 512 * sectors y.kind) (sym (same_block-is b x.block same)) in
      let len = length-part x.new (change_start x) (change_end x) (omega (arith, end)) in
      with_change x (changes_of touched) (λ changes. is_covered (writes_of changes) b i ≡ true)
      (λ order. or_left (covers b i (write_of (change_of x (change_start x) (change_end x)))) (is_covered (writes_of (changes_of touched)) b i)
      (and_from _ _ (and_from _ _ same (le-leb (change_start x) i (omega (arith, start)))) (lt-ltb i (change_start x + length (part (change_start x) (change_end x - change_start x) x.new)) (omega (arith, len, start, end, size, lt)))))
      (λ le. absurd (omega (arith, start, end, size, le, lt))))
  | inr other ↦
      (let rest = covered_finished touched b t i (rw other at is) whole torn lt in
      with_change x (changes_of touched) (λ changes. is_covered (writes_of changes) b i ≡ true)
      (λ order. or_right (covers b i (write_of (change_of x (change_start x) (change_end x)))) (is_covered (writes_of (changes_of touched)) b i) rest)
      (λ le. rest))
]

all_range : (p : ℕ → Bool) (a n : ℕ) → ((i : ℕ) → a ≤ i → i < a + n → p i ≡ true) → list_all p (range_with_len a n) ≡ true
all_range p a zero each = refl
all_range p a (suc n) each = and_from _ _ (each a (omega arith) (omega arith)) (all_range p (a + 1) n (λ i low high. each i (omega arith) (omega arith)))

all_covered : (touched : List Touched) (b : Block) (t : Touched) (n : ℕ) → touched_at touched b ≡ Some t → IsWhole t → t.torn ≡ true → n ≡ 512 * sectors b.kind → cover_all (writes_of (changes_of touched)) b n ≡ true
unfolding cover_all
all_covered touched b t n is whole torn size = all_range (is_covered (writes_of (changes_of touched)) b) 0 n (λ i low high. covered_finished touched b t i is whole torn (omega (arith, high, size)))

torn_no_more : (t x : Bool) → (t ≡ true → x ≡ true) → (t && not x) ≡ false
torn_no_more false x cover = refl
torn_no_more true x cover = ap not (cover refl)

-- ---- the content

found_whole : (touched : List Touched) (b : Block) (t : Touched) → touched_at touched b ≡ Some t → All IsWhole touched → IsWhole t
found_whole [] b t is all = absurd cc
found_whole (x ∷ touched) b t is all = elim (cases_Bool (same_block b x.block)) [
  | inl same ↦ (let here : Some x ≡ Some t = rw same at is in let equal : x ≡ t = cc in rw (← equal) (All-head IsWhole x touched all))
  | inr other ↦ found_whole touched b t (rw other at is) (All-tail IsWhole x touched all)
]

found_old : (c : Content) (touched : List Touched) (b : Block) (t : Touched) → touched_at touched b ≡ Some t → All (IsOldOf c) touched → c b ≡ old_body t
found_old c [] b t is all = absurd cc
found_old c (x ∷ touched) b t is all = elim (cases_Bool (same_block b x.block)) [
  | inl same ↦ (let here : Some x ≡ Some t = rw same at is in let equal : x ≡ t = cc in ap c (same_block-is b x.block same) ∙ All-head (IsOldOf c) x touched all ∙ ap old_body equal)
  | inr other ↦ found_old c touched b t (rw other at is) (All-tail (IsOldOf c) x touched all)
]

body_with : List ℕ → Bool → BodyOf
body_with bytes torn = record { bytes = bytes; torn = torn }

at_block : (c : Content) (touched : List Touched) (b : Block) (o : Option Touched) → HasSizes c → rises 0 (keys_of touched) ≡ true → All IsWhole touched → All (IsOldOf c) touched → touched_at touched b ≡ o → content_after (changes_of touched) c b ≡ body_or (c b) (option_map (λ (t : Touched). t.new) o)
unfolding body_with
at_block c touched b None sized up whole olds is =
    let some = has_sectors b.kind in
    let size = sized b in
    overlay_elsewhere c (writes_of (changes_of touched)) b (omega (arith, some, size)) (elsewhere touched b is)
at_block c touched b (Some t) sized up whole olds is =
    let old : c b ≡ old_body t = found_old c touched b t is olds in
    let old_bytes : (c b).bytes ≡ t.old = ap (λ (x : BodyOf). x.bytes) old in
    let old_torn : (c b).torn ≡ t.torn = ap (λ (x : BodyOf). x.torn) old in
    let whole_t = found_whole touched b t is whole in
    ap (λ (l : List ℕ). body_with l ((c b).torn && not (cover_all (writes_of (changes_of touched)) b (length (c b).bytes)))) (ap (bytes_after (writes_of (changes_of touched)) b) old_bytes ∙ bytes_finished 0 touched b t up is whole_t)
    ∙ ap (body_with t.new) (torn_no_more (c b).torn (cover_all (writes_of (changes_of touched)) b (length (c b).bytes)) (λ torn. all_covered touched b t (length (c b).bytes) is whole_t (sym old_torn ∙ torn) (sized b)))

pub finished : (c : Content) (touched : List Touched) → HasSizes c → rises 0 (keys_of touched) ≡ true → All IsWhole touched → All (IsOldOf c) touched → content_after (changes_of touched) c ≡ drafted touched c
finished c touched sized up whole olds = fun_ext (λ b. at_block c touched b (touched_at touched b) sized up whole olds refl ∙ sym (drafted_at touched c b (touched_at touched b) sized up whole refl))

-- ---- the changes

pub fits : (touched : List Touched) → All IsWhole touched → All Fits (changes_of touched)
fits [] whole = All-nil Fits
fits (t ∷ touched) whole =
    let rest = fits touched (All-tail IsWhole t touched whole) in
    let whole_t = All-head IsWhole t touched whole in
    let span = spans t whole_t in
    let within = span.within in
    let size = span.size in
    let full = whole_t.new in
    let news = length-part t.new (change_start t) (change_end t) within in
    let olds = length-part t.old (change_start t) (change_end t) (omega (arith, within, size)) in
    with_change t (changes_of touched) (λ changes. All Fits changes)
    (λ lt. All-cons Fits (change_of t (change_start t) (change_end t)) (changes_of touched) (record { same_length = news ∙ sym olds; inside = omega (arith, olds, within, full, lt) }) rest)
    (λ le. rest)

pub were_old : (c : Content) (touched : List Touched) → All (IsOldOf c) touched → All IsWhole touched → All (WasOld c) (changes_of touched)
were_old c [] olds whole = All-nil (WasOld c)
were_old c (t ∷ touched) olds whole =
    let rest = were_old c touched (All-tail (IsOldOf c) t touched olds) (All-tail IsWhole t touched whole) in
    let old : (c t.block).bytes ≡ t.old = ap (λ (x : BodyOf). x.bytes) (All-head (IsOldOf c) t touched olds) in
    let span = spans t (All-head IsWhole t touched whole) in
    let within = span.within in
    let size = span.size in
    let len = length-part t.old (change_start t) (change_end t) (omega (arith, within, size)) in
    with_change t (changes_of touched) (λ changes. All (WasOld c) changes)
    (λ lt. All-cons (WasOld c) (change_of t (change_start t) (change_end t)) (changes_of touched) (ap (λ (k : ℕ). part (change_start t) k (c t.block).bytes) len ∙ ap (part (change_start t) (change_end t - change_start t)) old) rest)
    (λ le. rest)

pub in_order : (least : ℕ) (touched : List Touched) → rises least (keys_of touched) ≡ true → rises least (change_keys (changes_of touched)) ≡ true
unfolding rises
in_order least [] up = refl
in_order least (t ∷ touched) up =
    let head = rises_head least (block_key t.block) (keys_of touched) up in
    let rest = in_order (suc (block_key t.block)) touched (rises_tail least (block_key t.block) (keys_of touched) up) in
    with_change t (changes_of touched) (λ changes. rises least (change_keys changes) ≡ true)
    (λ lt. and_from (leb least (block_key t.block)) _ (le-leb least (block_key t.block) head) rest)
    (λ le. from_less (suc (block_key t.block)) least (change_keys (changes_of touched)) (omega (arith, head)) rest)
  where
    from_less : (high low : ℕ) (keys : List ℕ) → low ≤ high → rises high keys ≡ true → rises low keys ≡ true
    from_less high low [] le up = refl
    from_less high low (k ∷ keys) le up =
        let head = rises_head high k keys up in
        and_from (leb low k) _ (le-leb low k (omega (arith, head, le))) (rises_tail high k keys up)

-- ---- the walk over the touched blocks

pub changes_more : (touched : List Touched) (i : ℕ) (t : Touched) (old new : List Change) → i < length touched → t ≡ get_or touched i t → old ≡ changes_of (take i touched) → new ≡ old ++ changes_in t → new ≡ changes_of (take (i + 1) touched)
changes_more touched i t old new lt is before after =
    after
    ∙ ap (λ (l : List Change). l ++ changes_in t) before
    ∙ ap (λ (y : Touched). changes_of (take i touched) ++ changes_in y) is
    ∙ ap (λ (l : List Change). changes_of (take i touched) ++ l) (sym (append-nil (changes_in (get_or touched i t))))
    ∙ sym (ap changes_of (take_more touched i t lt) ∙ flat_map-append changes_in (take i touched) (get_or touched i t ∷ []))

pub if_ok : {T E : Type 0} (r : Result T E) (P Q : T → Type 0) → ((x : T) → P x → Q x) → IfOk r P → IfOk r Q
if_ok (Ok x) P Q f p = f x p
if_ok (Err e) P Q f p = tt

pub finished_known : (content : Option Content) (touched : List Touched) (changes : List Change) → IfSome content HasSizes → rises 0 (keys_of touched) ≡ true → All IsWhole touched → ForSome content (λ c. All (IsOldOf c) touched) → changes ≡ changes_of touched
    → IfSome content (λ c. content_after changes c ≡ drafted touched c)
finished_known None touched changes sized up whole olds is = tt
finished_known (Some c) touched changes sized up whole olds is = ap (λ (l : List Change). content_after l c) is ∙ finished c touched sized up whole (olds c refl)

pub old_known : (content : Option Content) (touched : List Touched) (changes : List Change) → All IsWhole touched → ForSome content (λ c. All (IsOldOf c) touched) → changes ≡ changes_of touched → IfSome content (λ c. All (WasOld c) changes)
old_known None touched changes whole olds is = tt
old_known (Some c) touched changes whole olds is = subst (λ (l : List Change). All (WasOld c) l) (sym is) (were_old c touched (olds c refl) whole)
