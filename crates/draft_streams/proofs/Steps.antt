-- The steps of putting bytes.
use Rattle.std.proofs.Common.{◌≡◌, ℕ, suc, ◌+◌, ◌-◌, ◌*◌, ◌/◌, ◌≤◌, ◌==◌, Bool, cond, List, length, take, min, Option, Some, None, refl, sym, ap, subst, ◌∙◌, inl, inr, arith}
use Rattle.std.specs.Prelude.{IfSome, nat_le}
use Rattle.std.proofs.lemmas.Bool.{cases_lt, ne_eqb}
use Rattle.std.proofs.lemmas.List.{take_all}
use Rattle.stream_map.specs.disk_model.declared.block.Block.{Block}
use Rattle.stream_map.specs.disk_model.declared.block.BlockKind.{BlockKind}
use Rattle.stream_map.specs.disk_model.declared.block.BlockKind.TheVariants.{Plain}
use Rattle.stream_map.specs.disk_model.Bytes.{written}
use Rattle.stream_map.specs.disk_model.Content.{Content}
use Rattle.stream_map.specs.disk_model.Sectors.{sectors}
use Rattle.stream_map.specs.record_model.declared.runs.Run.{Run}
use Rattle.stream_map.specs.state_model.Streams.{block_at}
use Rattle.plan_draft.specs.declared.touched.Touched.{Touched}
use Rattle.plan_draft.specs.Touching.{bodies_of, touch}
use Rattle.plan_draft.specs.Writing.{present}
use Rattle.draft_streams.specs.Parts.{offset_in, bytes_in, touch_part, touch_sector, touch_sectors, touch_bytes, first_sector, sector_count, IsFrontOf}

-- ---- one sector

pub take_min : (n : ℕ) (xs : List ℕ) → take (min n (length xs)) xs ≡ take n xs
take_min n xs = elim (cases_lt (length xs) n) [
  | inl less ↦
      (let all : min n (length xs) ≡ length xs = omega (arith, less) in
      ap (λ (k : ℕ). take k xs) all ∙ take_all (length xs) xs (omega arith) ∙ sym (take_all n xs (omega (arith, less))))
  | inr ge ↦ (let same : min n (length xs) ≡ n = omega (arith, ge) in ap (λ (k : ℕ). take k xs) same)
]

pub inside_kind : (n : ℕ) (kind : BlockKind) → kind ≡ Plain → n ≤ 512 → n ≤ 512 * sectors kind
inside_kind n kind is le = subst (λ (k : BlockKind). n ≤ 512 * sectors k) (sym is) le

pub part_nowhere : (content : Option Content) (o : Option Block) (fresh : Bool) (offset : ℕ) (bytes : List ℕ) (old new : List Touched) → None ≡ o → new ≡ old → IfSome content (λ c. new ≡ touch_part c o fresh offset bytes old)
part_nowhere None o fresh offset bytes old new none same = tt
part_nowhere (Some c) o fresh offset bytes old new none same = same ∙ ap (λ (p : Option Block). touch_part c p fresh offset bytes old) none

pub part_here : (content : Option Content) (o : Option Block) (b : Block) (fresh : Bool) (offset : ℕ) (bytes : List ℕ) (old new : List Touched) → Some b ≡ o → IfSome content (λ c. new ≡ touch b fresh (written offset bytes (present c (bodies_of old) b fresh)) (c b) old) → IfSome content (λ c. new ≡ touch_part c o fresh offset bytes old)
part_here None o b fresh offset bytes old new here put = tt
part_here (Some c) o b fresh offset bytes old new here put = put ∙ ap (λ (p : Option Block). touch_part c p fresh offset bytes old) here

-- ---- one sector more

none_yet : (c : Content) (per : ℕ) (runs : List Run) (fresh at : ℕ) (bytes : List ℕ) (first : ℕ) (touched : List Touched) → touch_sectors c per runs fresh at bytes first 0 touched ≡ touched
unfolding touch_sectors
none_yet c per runs fresh at bytes first touched = refl

one_more : (c : Content) (per : ℕ) (runs : List Run) (fresh at : ℕ) (bytes : List ℕ) (first n : ℕ) (touched : List Touched) → touch_sectors c per runs fresh at bytes first (suc n) touched ≡ touch_sector c per runs fresh at bytes (first + n) (touch_sectors c per runs fresh at bytes first n touched)
unfolding touch_sectors
one_more c per runs fresh at bytes first n touched = refl

pub begins : (content : Option Content) (per : ℕ) (runs : List Run) (fresh at : ℕ) (bytes : List ℕ) (first s : ℕ) (touched : List Touched) → s ≡ first → IfSome content (λ c. touched ≡ touch_sectors c per runs fresh at bytes first (s - first) touched)
begins None per runs fresh at bytes first s touched is = tt
begins (Some c) per runs fresh at bytes first s touched is =
    let none : s - first ≡ 0 = omega (arith, is) in
    sym (ap (λ (n : ℕ). touch_sectors c per runs fresh at bytes first n touched) none ∙ none_yet c per runs fresh at bytes first touched)

pub step : (content : Option Content) (per : ℕ) (runs : List Run) (fresh at : ℕ) (bytes : List ℕ) (first s : ℕ) (flag : Bool) (offset : ℕ) (piece : List ℕ) (old mid new : List Touched) → first ≤ s → flag ≡ nat_le fresh s → offset ≡ offset_in at s → piece ≡ bytes_in at s bytes
    → IfSome content (λ c. mid ≡ touch_sectors c per runs fresh at bytes first (s - first) old) → IfSome content (λ c. new ≡ touch_part c (block_at per runs Plain s) flag offset piece mid)
    → IfSome content (λ c. new ≡ touch_sectors c per runs fresh at bytes first (s + 1 - first) old)
step None per runs fresh at bytes first s flag offset piece old mid new le is_flag is_offset is_piece before after = tt
step (Some c) per runs fresh at bytes first s flag offset piece old mid new le is_flag is_offset is_piece before after =
    let next : suc (s - first) ≡ s + 1 - first = omega (arith, le) in
    let here : s ≡ first + (s - first) = omega (arith, le) in
    after
    ∙ ap (λ (f : Bool). touch_part c (block_at per runs Plain s) f offset piece mid) is_flag
    ∙ ap (λ (o : ℕ). touch_part c (block_at per runs Plain s) (nat_le fresh s) o piece mid) is_offset
    ∙ ap (λ (p : List ℕ). touch_part c (block_at per runs Plain s) (nat_le fresh s) (offset_in at s) p mid) is_piece
    ∙ ap (touch_sector c per runs fresh at bytes s) before
    ∙ ap (λ (k : ℕ). touch_sector c per runs fresh at bytes k (touch_sectors c per runs fresh at bytes first (s - first) old)) here
    ∙ sym (one_more c per runs fresh at bytes first (s - first) old)
    ∙ ap (λ (n : ℕ). touch_sectors c per runs fresh at bytes first n old) next

-- ---- the end

pub no_sector : (at n : ℕ) → n ≡ 0 → at / 512 ≡ first_sector at + sector_count at n
no_sector at n is = sym (ap (λ (k : ℕ). at / 512 + cond (k == 0) 0 ((at + k + 511) / 512 - at / 512)) is ∙ nothing (at / 512))
  where
    nothing : (a : ℕ) → a + 0 ≡ a
    nothing a = omega arith

pub some_sectors : (at n : ℕ) → (n ≡ 0 → ⊥) → (at + n + 511) / 512 ≡ first_sector at + sector_count at n
some_sectors at n some = sym (ap (λ (t : Bool). at / 512 + cond t 0 ((at + n + 511) / 512 - at / 512)) (ne_eqb n 0 some) ∙ whole at n)
  where
    whole : (a m : ℕ) → a / 512 + ((a + m + 511) / 512 - a / 512) ≡ (a + m + 511) / 512
    whole a m = omega arith

pub all_put : (content : Option Content) (per : ℕ) (runs : List Run) (fresh at : ℕ) (bytes : List ℕ) (s : ℕ) (old new : List Touched) → s ≡ first_sector at + sector_count at (length bytes) → IfSome content (λ c. new ≡ touch_sectors c per runs fresh at bytes (first_sector at) (s - first_sector at) old) → IfSome content (λ c. new ≡ touch_bytes c per runs fresh at bytes old)
all_put None per runs fresh at bytes s old new is put = tt
all_put (Some c) per runs fresh at bytes s old new is put =
    let count : s - first_sector at ≡ sector_count at (length bytes) = ap (λ (k : ℕ). k - first_sector at) is ∙ left (first_sector at) (sector_count at (length bytes)) in
    put ∙ ap (λ (n : ℕ). touch_sectors c per runs fresh at bytes (first_sector at) n old) count
  where
    left : (a b : ℕ) → a + b - a ≡ b
    left a b = omega arith

pub front_put : (content : Option Content) (per : ℕ) (runs : List Run) (fresh at : ℕ) (bytes : List ℕ) (s : ℕ) (old mid new : List Touched) → s - first_sector at ≤ sector_count at (length bytes) → new ≡ mid → IfSome content (λ c. mid ≡ touch_sectors c per runs fresh at bytes (first_sector at) (s - first_sector at) old) → IfSome content (λ c. IsFrontOf c per runs fresh at bytes old new)
front_put None per runs fresh at bytes s old mid new le same put = tt
front_put (Some c) per runs fresh at bytes s old mid new le same put = (s - first_sector at, (le, same ∙ put))
