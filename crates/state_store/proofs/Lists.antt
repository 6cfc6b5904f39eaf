-- Facts about each change of a list, and the bodies that changes leave.
use Rattle.std.proofs.Common.{◌≡◌, ℕ, ◌<◌, Bool, true, false, cond, ◌||◌, List, [], ◌∷◌, length, refl, sym, ap, ap₂, subst, ◌∙◌, inl, inr, arith}
use mathlib.Core.Path.{fun_ext}
use Rattle.std.specs.List.{AllByRecursion, list_any}
use Rattle.std.proofs.lemmas.Bool.{cases_Bool}
use Rattle.disk_model.specs.declared.block.Block.{Block}
use Rattle.disk_model.specs.declared.block.Body.{Body}
use Rattle.disk_model.specs.declared.block.Change.{Change}
use Rattle.disk_model.specs.Bytes.{written}
use Rattle.disk_model.specs.Content.{Content, HasSizes}
use Rattle.disk_model.specs.Laws.{IsElsewhere}
use Rattle.disk_model.specs.Sectors.{same_block}
use Rattle.disk_model.specs.Writes.{bytes_after}
use Rattle.disk_model.proofs.Frames.{same_block-is, overlay_elsewhere}
use Rattle.block_view.specs.Changes.{writes_of, content_after}
use Rattle.turn_laws.proofs.store_model.Told.{true≢false}
use Rattle.same_names.proofs.stream_laws.Changing.{has_sectors}
use Rattle.state_blocks.specs.Drafts.{is_changed}
use Rattle.state_store.specs.Changes.{IsWritable}
use Rattle.state_store.specs.Windows.{changed_content, changed_by}

-- ---- each of a list

pub each_weaker : {X : Type 0} (P Q : X → Type 0) → ((x : X) → P x → Q x) → (xs : List X) → AllByRecursion P xs → AllByRecursion Q xs
each_weaker P Q f [] all = tt
each_weaker P Q f (x ∷ xs) all = (f x all.0, each_weaker P Q f xs all.1)

pub each_both : {X : Type 0} (P Q R : X → Type 0) → ((x : X) → P x → Q x → R x) → (xs : List X) → AllByRecursion P xs → AllByRecursion Q xs → AllByRecursion R xs
each_both P Q R f [] one two = tt
each_both P Q R f (x ∷ xs) one two = (f x one.0 two.0, each_both P Q R f xs one.1 two.1)

-- ---- bodies

unfoldable pub body_with : List ℕ → Bool → Body
body_with bytes torn = record { bytes = bytes; torn = torn }

pub same_body : (x y : Body) → x.bytes ≡ y.bytes → x.torn ≡ y.torn → x ≡ y
unfolding body_with
same_body x y bytes torn = ap₂ body_with bytes torn

cond_bytes : (t : Bool) (x y : Body) → (cond t x y).bytes ≡ cond t x.bytes y.bytes
cond_bytes true x y = refl
cond_bytes false x y = refl

-- the bytes after one change are those of a write
pub bytes_changed : (x : Change) (c : Content) (b : Block) → (changed_content x c b).bytes ≡ cond (same_block b x.block) (written x.offset x.new (c b).bytes) (c b).bytes
bytes_changed x c b = cond_bytes (same_block b x.block) (record { bytes = written x.offset x.new (c b).bytes; torn = false }) (c b)

pub bytes_by : (xs : List Change) (c : Content) (b : Block) → (changed_by xs c b).bytes ≡ bytes_after (writes_of xs) b (c b).bytes
bytes_by [] c b = refl
bytes_by (x ∷ xs) c b = bytes_by xs (changed_content x c) b ∙ ap (bytes_after (writes_of xs) b) (bytes_changed x c b)

-- ---- which blocks they touch

touches : List Change → Block → Bool
touches xs b = list_any (λ (x : Change). same_block b x.block) xs

pub or_parts : (s t : Bool) → (s || t) ≡ false → (s ≡ false) × (t ≡ false)
or_parts true t is = absurd (true≢false is)
or_parts false t is = (refl, is)

elsewhere : (xs : List Change) (b : Block) → touches xs b ≡ false → AllByRecursion (IsElsewhere b) (writes_of xs)
unfolding touches
elsewhere [] b none = tt
elsewhere (x ∷ xs) b none = let parts = or_parts (same_block b x.block) (touches xs b) none in (parts.0, elsewhere xs b parts.1)

unchanged : (x : Change) (c : Content) (b : Block) → same_block b x.block ≡ false → changed_content x c b ≡ c b
unchanged x c b is = ap (λ (t : Bool). cond t (record { bytes = written x.offset x.new (c b).bytes; torn = false }) (c b)) is

untouched : (xs : List Change) (c : Content) (b : Block) → touches xs b ≡ false → changed_by xs c b ≡ c b
unfolding touches
untouched [] c b none = refl
untouched (x ∷ xs) c b none =
    let parts = or_parts (same_block b x.block) (touches xs b) none in
    untouched xs (changed_content x c) b parts.1 ∙ unchanged x c b parts.0

whole_now : (x : Change) (c : Content) (b : Block) → same_block b x.block ≡ true → (changed_content x c b).torn ≡ false
unfolding body_with
whole_now x c b is = ap (λ (t : Bool). (cond t (body_with (written x.offset x.new (c b).bytes) false) (c b)).torn) is

touched : (xs : List Change) (c : Content) (b : Block) → touches xs b ≡ true → (changed_by xs c b).torn ≡ false
unfolding touches
touched [] c b some = absurd (true≢false (sym some))
touched (x ∷ xs) c b some = elim (cases_Bool (touches xs b)) [
  | inl later ↦ touched xs (changed_content x c) b later
  | inr none ↦ ap (λ (y : Body). y.torn) (untouched xs (changed_content x c) b none) ∙ whole_now x c b (last (same_block b x.block) (touches xs b) none some)
]
  where
    last : (s t : Bool) → t ≡ false → (s || t) ≡ true → s ≡ true
    last true t none some = refl
    last false t none some = absurd (true≢false (sym some ∙ none))

found : (P : Block → Type 0) (xs : List Change) (b : Block) → touches xs b ≡ true → AllByRecursion (λ x. P x.block) xs → P b
unfolding touches
found P [] b some all = absurd (true≢false (sym some))
found P (x ∷ xs) b some all = by (same_block b x.block) refl some (λ later. found P xs b later all.1)
  where
    by : (t : Bool) → same_block b x.block ≡ t → (t || touches xs b) ≡ true → (touches xs b ≡ true → P b) → P b
    by true is some later = subst P (sym (same_block-is b x.block is)) all.0
    by false is some later = later some

-- So the content is the one after the changes, where each body that was changed is whole in that.
pub same_after : (xs : List Change) (c : Content) → HasSizes c → AllByRecursion (λ x. IsWritable (content_after xs c) x.block) xs → changed_by xs c ≡ content_after xs c
same_after xs c sized writable = fun_ext (λ b. elim (cases_Bool (touches xs b)) [
  | inl some ↦
      same_body (changed_by xs c b) (content_after xs c b) (bytes_by xs c b)
      (touched xs c b some ∙ sym (found (IsWritable (content_after xs c)) xs b some writable).untorn)
  | inr none ↦ untouched xs c b none ∙ sym (overlay_elsewhere c (writes_of xs) b (some_bytes b) (elsewhere xs b none))
])
  where
    some_bytes : (b : Block) → 0 < length (c b).bytes
    some_bytes b = let size = sized b in let some = has_sectors b.kind in omega (arith, size, some)

-- ---- the same of which blocks are changed

pub unchanged_by : (xs : List Change) (c : Content) (b : Block) → is_changed xs b ≡ false → changed_by xs c b ≡ c b
unfolding touches
unchanged_by xs c b none = untouched xs c b none

pub changed_whole : (xs : List Change) (c : Content) (b : Block) → is_changed xs b ≡ true → (changed_by xs c b).torn ≡ false
unfolding touches
changed_whole xs c b some = touched xs c b some

pub changed_found : (P : Block → Type 0) (xs : List Change) (b : Block) → is_changed xs b ≡ true → AllByRecursion (λ x. P x.block) xs → P b
unfolding touches
changed_found P xs b some all = found P xs b some all
