-- Blocks in the grid: two of them that are neither equal nor rivals share no sector; and a block hangs on its own sectors alone.
use Rattle.std.proofs.Common.{◌≡◌, ℕ, ◌+◌, ◌*◌, ◌%◌, ◌<◌, ◌≤◌, Bool, true, false, refl, sym, ◌∙◌, ap, subst, arith}
use Rattle.std.specs.Prelude.{◌&&◌, ◌==◌, not, nat_le, nat_lt, if◌then◌else◌, slice_index}
use Rattle.std.proofs.lemmas.Bool.{ltb-true, leb-true, le-leb, lt-ltb, eqb-true, eq-eqb, and_parts, and_from}
use Rattle.log_model.specs.disk_model.declared.block.Block.{Block}
use Rattle.log_model.specs.disk_model.declared.block.Body.{Body}
use Rattle.log_model.specs.disk_model.declared.block.BlockKind.{BlockKind}
use Rattle.log_model.specs.disk_model.declared.block.BlockKind.TheVariants.{Plain, FileRec, Index}
use Rattle.log_model.specs.disk_model.Sectors.{sectors, same_kind, same_block, are_rivals, overlap}
use Rattle.log_model.specs.disk_model.Content.{content_of, body_of}
use Rattle.fixup_record.proofs.disk_model.Frames.{raw_frame}
use Rattle.log_model.specs.Logs.{may_begin, is_in_grid}
use Rattle.sector_device.specs.Disks.{is_within}
use Rattle.store_model.specs.Geometry.{SectorBytes}

true≢false : true ≡ false → ⊥
true≢false e = cc

-- a sector of so many from a place on
pub within_is : (first n s : ℕ) → is_within first n s ≡ true → (first ≤ s) × (s < first + n)
within_is first n s h = let p = and_parts (nat_le first s) (nat_lt s (first + n)) h in (leb-true first s p.0, ltb-true s (first + n) p.1)

pub is_in : (first n s : ℕ) → first ≤ s → s < first + n → is_within first n s ≡ true
is_in first n s le lt = and_from (nat_le first s) (nat_lt s (first + n)) (le-leb first s le) (lt-ltb s (first + n) lt)

-- blocks of one kind in the grid that share a sector begin in the same one
same_first : (k : BlockKind) (m n s : ℕ) → may_begin k m ≡ true → may_begin k n ≡ true → m ≤ s → s < m + sectors k → n ≤ s → s < n + sectors k → m ≡ n
same_first Plain m n s p q a b c d = omega (arith, b, d)
same_first FileRec m n s p q a b c d = let e : m % 2 ≡ 0 = eqb-true (m % 2) 0 p in let f : n % 2 ≡ 0 = eqb-true (n % 2) 0 q in omega (arith, e, f, b, d)
same_first Index m n s p q a b c d = let e : m % 8 ≡ 0 = eqb-true (m % 8) 0 p in let f : n % 8 ≡ 0 = eqb-true (n % 8) 0 q in omega (arith, e, f, b, d)

kind_is : (j k : BlockKind) → same_kind j k ≡ true → j ≡ k
kind_is Plain Plain e = refl
kind_is FileRec FileRec e = refl
kind_is Index Index e = refl
kind_is Plain FileRec e = absurd (true≢false (sym e))
kind_is Plain Index e = absurd (true≢false (sym e))
kind_is FileRec Plain e = absurd (true≢false (sym e))
kind_is FileRec Index e = absurd (true≢false (sym e))
kind_is Index Plain e = absurd (true≢false (sym e))
kind_is Index FileRec e = absurd (true≢false (sym e))

kind_swap : (j k : BlockKind) → same_kind j k ≡ true → same_kind k j ≡ true
kind_swap j k e = subst (λ (i : BlockKind). same_kind k i ≡ true) (sym (kind_is j k e)) (self k)
  where
    self : (k : BlockKind) → same_kind k k ≡ true
    self Plain = refl
    self FileRec = refl
    self Index = refl

pub grid_apart : (b c : Block) (s : ℕ) → may_begin b.kind b.first ≡ true → may_begin c.kind c.first ≡ true → are_rivals b c ≡ false → same_block c b ≡ false
    → is_within b.first (sectors b.kind) s ≡ true → is_within c.first (sectors c.kind) s ≡ false
grid_apart b c s in_b in_c no_rivals other here = go (is_within c.first (sectors c.kind) s) refl
  where
    at_b : (b.first ≤ s) × (s < b.first + sectors b.kind)
    at_b = within_is b.first (sectors b.kind) s here

    clash : (v : Bool) → same_kind b.kind c.kind ≡ v → (c.first ≤ s) × (s < c.first + sectors c.kind) → ⊥
    clash true k at_c =
        let kinds : b.kind ≡ c.kind = kind_is b.kind c.kind k in
        let in_c' : may_begin b.kind c.first ≡ true = subst (λ (i : BlockKind). may_begin i c.first ≡ true) (sym kinds) in_c in
        let upto : s < c.first + sectors b.kind = subst (λ (i : BlockKind). s < c.first + sectors i) (sym kinds) at_c.1 in
        let first : c.first ≡ b.first = sym (same_first b.kind b.first c.first s in_b in_c' at_b.0 at_b.1 at_c.0 upto) in
        true≢false (sym (and_from (c.first == b.first) (same_kind c.kind b.kind) (eq-eqb c.first b.first first) (kind_swap b.kind c.kind k)) ∙ other)
    clash false k at_c =
        let meet : overlap b c ≡ true = and_from (nat_lt b.first (c.first + sectors c.kind)) (nat_lt c.first (b.first + sectors b.kind))
        (lt-ltb b.first (c.first + sectors c.kind) (omega (arith, at_b.0, at_c.1))) (lt-ltb c.first (b.first + sectors b.kind) (omega (arith, at_c.0, at_b.1))) in
        true≢false (sym (and_from (not (same_kind b.kind c.kind)) (overlap b c) (ap not k) meet) ∙ no_rivals)

    go : (v : Bool) → is_within c.first (sectors c.kind) s ≡ v → is_within c.first (sectors c.kind) s ≡ false
    go false h = h
    go true h = absurd (clash (same_kind b.kind c.kind) refl (within_is c.first (sectors c.kind) s h))

-- equal sectors of a block, equal content of it
pub own_content : (b : Block) (f g : SectorBytes) → ((s : ℕ) → is_within b.first (sectors b.kind) s ≡ true → f s ≡ g s) → content_of f b ≡ content_of g b
own_content b f g same = ap (body_of b.kind) (raw_frame g f b.first (sectors b.kind) (λ k le lt. same k (is_in b.first (sectors b.kind) k le lt)))

pub own_byte : (b : Block) (f g : SectorBytes) (i : ℕ) → ((s : ℕ) → is_within b.first (sectors b.kind) s ≡ true → f s ≡ g s) → slice_index (content_of f b).bytes i ≡ slice_index (content_of g b).bytes i
own_byte b f g i same = ap (λ (body : Body). slice_index body.bytes i) (own_content b f g same)

pub own_torn : (b : Block) (f g : SectorBytes) → ((s : ℕ) → is_within b.first (sectors b.kind) s ≡ true → f s ≡ g s) → (content_of f b).torn ≡ (content_of g b).torn
own_torn b f g same = ap (λ (body : Body). body.torn) (own_content b f g same)

-- a block with a size is in the grid
sized_in_grid : (grid free : Bool) (n : ℕ) → 0 < (if grid && free then n else 0) → grid ≡ true
sized_in_grid true free n h = refl
sized_in_grid false free n h = absurd (omega (arith, h))

-- two blocks with a size, by whatever else is asked of a known block
pub known_apart : (free : Block → Bool) (b c : Block) (s : ℕ) → 0 < (if is_in_grid b && free b then 512 * sectors b.kind else 0) → 0 < (if is_in_grid c && free c then 512 * sectors c.kind else 0) → are_rivals b c ≡ false → same_block c b ≡ false
    → is_within b.first (sectors b.kind) s ≡ true → is_within c.first (sectors c.kind) s ≡ false
known_apart free b c s known known' = grid_apart b c s (sized_in_grid (is_in_grid b) (free b) (512 * sectors b.kind) known) (sized_in_grid (is_in_grid c) (free c) (512 * sectors c.kind) known')
