-- Bodies that are put whole into blocks.
use Rattle.std.proofs.Common.{◌≡◌, ℕ, zero, suc, ◌+◌, ◌*◌, ◌<◌, ◌≤◌, Bool, true, false, not, ◌&&◌, cond, List, [], ◌∷◌, length, Option, Some, None, refl, sym, ap, ◌∙◌, inl, inr, arith}
use mathlib.Core.Path.{fun_ext}
use Rattle.std.specs.Option.{option_or}
use Rattle.std.specs.List.{list_all, range_with_len, AllByRecursion}
use Rattle.std.proofs.lemmas.Bool.{cases_Bool, and_from, or_left, or_right, le-leb, lt-ltb, eq-eqb}
use Rattle.disk_model.specs.declared.block.Block.{Block}
use Rattle.disk_model.specs.declared.block.Body.{Body}
use Rattle.disk_model.specs.declared.block.BlockKind.{BlockKind}
use Rattle.disk_model.specs.declared.block.BlockKind.TheVariants.{Plain, FileRec, Index}
use Rattle.disk_model.specs.Bytes.{written}
use Rattle.disk_model.specs.Sectors.{sectors, same_kind, same_block}
use Rattle.disk_model.specs.Content.{Content, HasSizes}
use Rattle.disk_model.specs.Laws.{IsElsewhere}
use Rattle.disk_model.specs.Writes.{bytes_after, covers, is_covered, cover_all}
use Rattle.disk_model.proofs.Frames.{length-bytes_after, bytes_elsewhere, overlay_elsewhere, same_block-is}
use Rattle.plan_bodies.specs.Bodies.{NewBody, whole_write, writes_in, content_with, AreWhole, AreOfOwnBlocks, AreBodies, body_in, body_or, put_body, put_bodies}

has_sectors : (k : BlockKind) → 0 < sectors k
has_sectors Plain = omega arith
has_sectors FileRec = omega arith
has_sectors Index = omega arith

-- ---- one block

pub same_through : (a b x : Block) → same_block a b ≡ true → same_block a x ≡ same_block b x
same_through a b x same = ap (λ (y : Block). same_block y x) (same_block-is a b same)

pub same_to : (a b x : Block) → same_block a b ≡ true → same_block x a ≡ same_block x b
same_to a b x same = ap (same_block x) (same_block-is a b same)

kind_itself : (k : BlockKind) → same_kind k k ≡ true
kind_itself Plain = refl
kind_itself FileRec = refl
kind_itself Index = refl

pub block_itself : (b : Block) → same_block b b ≡ true
block_itself b = and_from _ _ (eq-eqb b.first b.first refl) (kind_itself b.kind)

-- bodies of other blocks are elsewhere
others_elsewhere : (b : Block) (w : NewBody) (bodies : List NewBody) → same_block b w.block ≡ true → AllByRecursion (λ x. same_block w.block x.block ≡ false) bodies → AllByRecursion (IsElsewhere b) (writes_in bodies)
others_elsewhere b w [] same all = tt
others_elsewhere b w (x ∷ bodies) same all = (same_through b w.block x.block same ∙ all.0, others_elsewhere b w bodies same all.1)

pub none_elsewhere : (bodies : List NewBody) (b : Block) → body_in bodies b ≡ None → AllByRecursion (IsElsewhere b) (writes_in bodies)
none_elsewhere [] b none = tt
none_elsewhere (w ∷ bodies) b none = elim (cases_Bool (same_block b w.block)) [
  | inl same ↦ (let some : Some w.bytes ≡ None = rw same at none in absurd cc)
  | inr other ↦ (other, none_elsewhere bodies b (rw other at none))
]

written_whole : (new old : List ℕ) → length new ≡ length old → written 0 new old ≡ new
written_whole [] [] size = refl
written_whole [] (y ∷ old) size = absurd (omega arith)
written_whole (x ∷ new) [] size = absurd (omega arith)
written_whole (x ∷ new) (y ∷ old) size = ap (λ (l : List ℕ). x ∷ l) (written_whole new old (omega arith))

size_of : (b : Block) (w : NewBody) → same_block b w.block ≡ true → length w.bytes ≡ 512 * sectors w.block.kind → length w.bytes ≡ 512 * sectors b.kind
size_of b w same size = size ∙ ap (λ (x : Block). 512 * sectors x.kind) (sym (same_block-is b w.block same))

bytes_put : (bodies : List NewBody) (b : Block) (old bytes : List ℕ) → AreWhole bodies → AreOfOwnBlocks bodies → length old ≡ 512 * sectors b.kind → body_in bodies b ≡ Some bytes → bytes_after (writes_in bodies) b old ≡ bytes
bytes_put [] b old bytes whole own sized is = absurd cc
bytes_put (w ∷ bodies) b old bytes whole own sized is = elim (cases_Bool (same_block b w.block)) [
  | inl same ↦
      (let put : Some w.bytes ≡ Some bytes = rw same at is in
      let equal : w.bytes ≡ bytes = cc in
      ap (λ (t : Bool). bytes_after (writes_in bodies) b (cond t (written 0 w.bytes old) old)) same
      ∙ bytes_elsewhere (writes_in bodies) b (written 0 w.bytes old) (others_elsewhere b w bodies same own.0)
      ∙ written_whole w.bytes old (size_of b w same whole.0 ∙ sym sized)
      ∙ equal)
  | inr other ↦ ap (λ (t : Bool). bytes_after (writes_in bodies) b (cond t (written 0 w.bytes old) old)) other ∙ bytes_put bodies b old bytes whole.1 own.1 sized (rw other at is)
]

covered_at : (bodies : List NewBody) (b : Block) (bytes : List ℕ) (i : ℕ) → AreWhole bodies → body_in bodies b ≡ Some bytes → i < 512 * sectors b.kind → is_covered (writes_in bodies) b i ≡ true
covered_at [] b bytes i whole is below = absurd cc
covered_at (w ∷ bodies) b bytes i whole is below = elim (cases_Bool (same_block b w.block)) [
  | inl same ↦
      (let size = size_of b w same whole.0 in
      or_left (covers b i (whole_write w)) (is_covered (writes_in bodies) b i) (and_from _ _ (and_from _ _ same (le-leb 0 i (omega arith))) (lt-ltb i (0 + length w.bytes) (omega arith))))
  | inr other ↦ or_right (covers b i (whole_write w)) (is_covered (writes_in bodies) b i) (covered_at bodies b bytes i whole.1 (rw other at is) below)
]

all_range : (p : ℕ → Bool) (a n : ℕ) → ((i : ℕ) → a ≤ i → i < a + n → p i ≡ true) → list_all p (range_with_len a n) ≡ true
all_range p a zero each = refl
all_range p a (suc n) each = and_from _ _ (each a (omega arith) (omega arith)) (all_range p (a + 1) n (λ i low high. each i (omega arith) (omega arith)))

covered_whole : (bodies : List NewBody) (b : Block) (bytes : List ℕ) (n : ℕ) → AreWhole bodies → body_in bodies b ≡ Some bytes → n ≡ 512 * sectors b.kind → cover_all (writes_in bodies) b n ≡ true
unfolding cover_all
covered_whole bodies b bytes n whole is size = all_range (is_covered (writes_in bodies) b) 0 n (λ i low high. covered_at bodies b bytes i whole is (omega arith))

body_with : List ℕ → Bool → Body
body_with bytes torn = record { bytes = bytes; torn = torn }

untorn : (t cover : Bool) → cover ≡ true → (t && not cover) ≡ false
untorn true cover is = ap not is
untorn false cover is = refl

at_block : (c : Content) (bodies : List NewBody) (b : Block) (o : Option (List ℕ)) → HasSizes c → AreBodies bodies → body_in bodies b ≡ o → content_with c bodies b ≡ body_or (c b) o
unfolding body_with
at_block c bodies b None sized are is =
    let some = has_sectors b.kind in
    let size = sized b in
    overlay_elsewhere c (writes_in bodies) b (omega arith) (none_elsewhere bodies b is)
at_block c bodies b (Some bytes) sized are is =
    ap (λ (l : List ℕ). body_with l ((c b).torn && not (cover_all (writes_in bodies) b (length (c b).bytes)))) (bytes_put bodies b (c b).bytes bytes are.whole are.own (sized b) is)
    ∙ ap (body_with bytes) (untorn (c b).torn _ (covered_whole bodies b bytes (length (c b).bytes) are.whole is (sized b)))

pub body_put : (c : Content) (bodies : List NewBody) (b : Block) → HasSizes c → AreBodies bodies → content_with c bodies b ≡ body_or (c b) (body_in bodies b)
body_put c bodies b sized are = at_block c bodies b (body_in bodies b) sized are refl

pub sized_with : (c : Content) (bodies : List NewBody) → HasSizes c → HasSizes (content_with c bodies)
sized_with c bodies sized b = length-bytes_after (writes_in bodies) b (c b).bytes ∙ sized b

-- ---- more bodies

choose : {X : Type 0} (s t : Bool) (x y z : X) → (s ≡ true → t ≡ false) → cond s x (cond t y z) ≡ cond t y (cond s x z)
choose true true x y z apart = let clash = apart refl in absurd cc
choose true false x y z apart = refl
choose false true x y z apart = refl
choose false false x y z apart = refl

passed_over : {X : Type 0} (s t : Bool) (x y z : X) → s ≡ t → cond t x z ≡ cond t x (cond s y z)
passed_over true true x y z same = refl
passed_over true false x y z same = absurd cc
passed_over false true x y z same = refl
passed_over false false x y z same = refl

one_put : (w : NewBody) (bodies : List NewBody) (b : Block) → body_in (put_body w bodies) b ≡ cond (same_block b w.block) (Some w.bytes) (body_in bodies b)
one_put w [] b = refl
one_put w (x ∷ bodies) b = elim (cases_Bool (same_block x.block w.block)) [
  | inl same ↦ ap (λ (t : Bool). body_in (cond t (w ∷ bodies) (x ∷ put_body w bodies)) b) same ∙ passed_over (same_block b x.block) (same_block b w.block) (Some w.bytes) (Some x.bytes) (body_in bodies b) (same_to x.block w.block b same)
  | inr other ↦
      ap (λ (t : Bool). body_in (cond t (w ∷ bodies) (x ∷ put_body w bodies)) b) other
      ∙ ap (λ (o : Option (List ℕ)). cond (same_block b x.block) (Some x.bytes) o) (one_put w bodies b)
      ∙ choose (same_block b x.block) (same_block b w.block) (Some x.bytes) (Some w.bytes) (body_in bodies b) (λ here. same_through b x.block w.block here ∙ other)
]

not_in : (w : NewBody) (more : List NewBody) (b : Block) → AllByRecursion (λ x. same_block w.block x.block ≡ false) more → same_block b w.block ≡ true → body_in more b ≡ None
not_in w [] b all same = refl
not_in w (x ∷ more) b all same = ap (λ (t : Bool). cond t (Some x.bytes) (body_in more b)) (same_through b w.block x.block same ∙ all.0) ∙ not_in w more b all.1 same

either_one : (s : Bool) (x : List ℕ) (o p : Option (List ℕ)) → (s ≡ true → o ≡ None) → option_or o (cond s (Some x) p) ≡ option_or (cond s (Some x) o) p
either_one true x o p none = ap (λ (q : Option (List ℕ)). option_or q (Some x)) (none refl)
either_one false x o p none = refl

pub either : (bodies more : List NewBody) (b : Block) → AreOfOwnBlocks more → body_in (put_bodies more bodies) b ≡ option_or (body_in more b) (body_in bodies b)
either bodies [] b own = refl
either bodies (w ∷ more) b own =
    either (put_body w bodies) more b own.1
    ∙ ap (option_or (body_in more b)) (one_put w bodies b)
    ∙ either_one (same_block b w.block) w.bytes (body_in more b) (body_in bodies b) (not_in w more b own.0)

pub all_put : (P : NewBody → Type 0) (w : NewBody) (bodies : List NewBody) → P w → AllByRecursion P bodies → AllByRecursion P (put_body w bodies)
all_put P w [] one all = (one, tt)
all_put P w (x ∷ bodies) one all = elim (cases_Bool (same_block x.block w.block)) [
  | inl same ↦ rw same ((one, all.1))
  | inr other ↦ rw other ((all.0, all_put P w bodies one all.1))
]

pub all_in_both : (P : NewBody → Type 0) (bodies more : List NewBody) → AllByRecursion P bodies → AllByRecursion P more → AllByRecursion P (put_bodies more bodies)
all_in_both P bodies [] all rest = all
all_in_both P bodies (w ∷ more) all rest = all_in_both P (put_body w bodies) more (all_put P w bodies rest.0 all) rest.1

from_same : (x w : NewBody) (bodies : List NewBody) → same_block x.block w.block ≡ true → AllByRecursion (λ y. same_block x.block y.block ≡ false) bodies → AllByRecursion (λ y. same_block w.block y.block ≡ false) bodies
from_same x w [] same all = tt
from_same x w (y ∷ bodies) same all = (sym (same_through x.block w.block y.block same) ∙ all.0, from_same x w bodies same all.1)

own_put : (w : NewBody) (bodies : List NewBody) → AreOfOwnBlocks bodies → AreOfOwnBlocks (put_body w bodies)
own_put w [] own = (tt, tt)
own_put w (x ∷ bodies) own = elim (cases_Bool (same_block x.block w.block)) [
  | inl same ↦ rw same ((from_same x w bodies same own.0, own.1))
  | inr other ↦ rw other ((all_put (λ y. same_block x.block y.block ≡ false) w bodies other own.0, own_put w bodies own.1))
]

own_all : (bodies more : List NewBody) → AreOfOwnBlocks bodies → AreOfOwnBlocks (put_bodies more bodies)
own_all bodies [] own = own
own_all bodies (w ∷ more) own = own_all (put_body w bodies) more (own_put w bodies own)

pub are_bodies : (bodies more : List NewBody) → AreBodies bodies → AreBodies more → AreBodies (put_bodies more bodies)
are_bodies bodies more are rest = record {
  whole = all_in_both (λ w. length w.bytes ≡ 512 * sectors w.block.kind) bodies more are.whole rest.whole;
  own = own_all bodies more are.own;
}

of_either : (old : Body) (o p : Option (List ℕ)) → body_or old (option_or o p) ≡ body_or (body_or old p) o
of_either old None p = refl
of_either old (Some bytes) p = refl

pub contents_put : (c : Content) (bodies more : List NewBody) → HasSizes c → AreBodies bodies → AreBodies more → content_with c (put_bodies more bodies) ≡ content_with (content_with c bodies) more
contents_put c bodies more sized are rest =
    let each : (b : Block) → content_with c (put_bodies more bodies) b ≡ content_with (content_with c bodies) more b = λ b.
    body_put c (put_bodies more bodies) b sized (are_bodies bodies more are rest)
    ∙ ap (body_or (c b)) (either bodies more b rest.own)
    ∙ of_either (c b) (body_in more b) (body_in bodies b)
    ∙ ap (λ (x : Body). body_or x (body_in more b)) (sym (body_put c bodies b sized are))
    ∙ sym (body_put (content_with c bodies) more b (sized_with c bodies sized) rest)
    in
    fun_ext each
