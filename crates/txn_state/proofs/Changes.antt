-- What a store keeps of bodies and marks once a block was changed.
use Rattle.std.proofs.Common.{◌≡◌, ◌⊎◌, ℕ, ◌+◌, ◌≤◌, Bool, true, false, cond, Option, Some, None, refl, sym, ap, ap₂, subst, ◌∙◌, inl, inr}
use Rattle.std.specs.Prelude.{◌||◌, is_some, IfSome, unwrap_or}
use Rattle.std.proofs.lemmas.Bool.{cases_Bool}
use Rattle.txn_log.specs.disk_model.declared.block.Block.{Block}
use Rattle.txn_log.specs.disk_model.declared.block.Body.{Body}
use Rattle.txn_log.specs.disk_model.Sectors.{sectors, same_block, are_rivals}
use Rattle.txn_log.proofs.disk_model.Frames.{same_block-is}
use Rattle.txn_log.specs.log_model.Logs.{is_in_grid}
use Rattle.txn_log.specs.txn_model.declared.mark.Mark.{Mark}
use Rattle.txn_log.specs.txn_model.Values.{put_at}
use Rattle.txn_log.specs.txn_model.Calls.{changed_mark, rival_mark, changed_marks}
use Rattle.txn_state.specs.States.{HasSize, KeepsBlocks}
use Rattle.txn_state.proofs.Bools.{clash, or_comm, rivals_turn, same_no_rival}

-- the mark of a block after a change: of the block itself, of a rival, and of another one
abbrev pub mark_by : ℕ → Mark → Bool → Bool → Mark
mark_by until m t r = cond t (changed_mark until m) (cond r (rival_mark until m) m)

-- which of them a block is
pub record IsOther (c b : Block) : Type 0 where
  pub apart_from : same_block b c ≡ false
  pub no_rival : are_rivals c b ≡ false

pub record IsRival (c b : Block) : Type 0 where
  pub apart_from : same_block b c ≡ false
  pub rival : are_rivals c b ≡ true

pub which : (c b : Block) → (same_block b c ≡ true) ⊎ (IsRival c b ⊎ IsOther c b)
which c b = elim (cases_Bool (same_block b c)) [
  | inl e ↦ inl e
  | inr e ↦ elim (cases_Bool (are_rivals c b)) [
    | inl r ↦ inr (inl (record { apart_from = e; rival = r }))
    | inr r ↦ inr (inr (record { apart_from = e; no_rival = r }))
  ]
]

put_sized : (b : Block) (t : Bool) (x : Body) (o : Option Body) → (t ≡ true → HasSize b x) → IfSome o (HasSize b) → IfSome (cond t (Some x) o) (HasSize b)
put_sized b true x o here there = here refl
put_sized b false x o here there = there

first_sized : (b : Block) (o : Option Body) (x : Body) → IfSome o (HasSize b) → HasSize b x → HasSize b (unwrap_or o x)
first_sized b (Some y) x here there = here
first_sized b None x here there = there

module _ (device : ℕ) (body : Block → Option Body) (mark : Block → Mark) (before : Block → Option Body) (k : KeepsBlocks device body mark before) (c : Block) (until : ℕ) (x present : Body) (grid : is_in_grid c ≡ true)
    (inside : c.first + sectors c.kind ≤ device) (size : HasSize c x) (size_before : HasSize c present) (alone : (b : Block) → are_rivals c b ≡ true → before b ≡ None) where
  abbrev marks : Block → Mark
  marks = changed_marks c until mark

  at_own : (b : Block) → same_block b c ≡ true → marks b ≡ changed_mark until (mark b)
  at_own b e = ap (λ (t : Bool). mark_by until (mark b) t (are_rivals c b)) e

  at_rival : (b : Block) → IsRival c b → marks b ≡ rival_mark until (mark b)
  at_rival b is = ap₂ (λ (t : Bool) (r : Bool). mark_by until (mark b) t r) is.apart_from is.rival

  at_other : (b : Block) → IsOther c b → marks b ≡ mark b
  at_other b is = ap₂ (λ (t : Bool) (r : Bool). mark_by until (mark b) t r) is.apart_from is.no_rival

  abbrev is_dirty : Mark → Bool
  is_dirty m = m.dirty

  abbrev is_dead : Mark → Bool
  is_dead m = m.dead

  abbrev either : Mark → Bool
  either m = m.dirty || m.dead

  abbrev now : Block → Option Body
  now = put_at c x body

  stays : (b : Block) → same_block b c ≡ false → is_some (now b) ≡ is_some (body b)
  stays b e = ap (λ (t : Bool). is_some (cond t (Some x) (body b))) e

  abbrev later : Block → Option Body
  later = put_at c (unwrap_or (before c) present) before

  stays_before : (b : Block) → same_block b c ≡ false → is_some (later b) ≡ is_some (before b)
  stays_before b e = ap (λ (t : Bool). is_some (cond t (Some (unwrap_or (before c) present)) (before b))) e

  -- a rival of the block that was changed isn't dirty
  clean_rival : (b : Block) → are_rivals c b ≡ true → (marks b).dirty ≡ false
  clean_rival b r = elim (which c b) [
    | inl e ↦ clash (are_rivals c b) r (same_no_rival b c e)
    | inr (inl is) ↦ ap is_dirty (at_rival b is)
    | inr (inr is) ↦ clash (are_rivals c b) r is.no_rival
  ]

  -- what was clean stays so, but for the block itself
  clean_other : (b : Block) → same_block b c ≡ false → (mark b).dirty ≡ false → (marks b).dirty ≡ false
  clean_other b off e = elim (which c b) [
    | inl own ↦ clash (same_block b c) own off
    | inr (inl is) ↦ ap is_dirty (at_rival b is)
    | inr (inr is) ↦ ap is_dirty (at_other b is) ∙ e
  ]

  lone_own : (b y : Block) → same_block b c ≡ true → are_rivals b y ≡ true → (marks y).dirty ≡ false
  lone_own b y e rivals = clean_rival y (ap (λ (z : Block). are_rivals z y) (sym (same_block-is b c e)) ∙ rivals)

  lone_other : (b y : Block) → IsOther c b → are_rivals b y ≡ true → (mark b).dirty ≡ true → (marks y).dirty ≡ false
  lone_other b y is rivals e = elim (cases_Bool (same_block y c)) [
    | inl own ↦ clash (are_rivals c b) (rivals_turn c b ∙ ap (λ (z : Block). are_rivals b z) (sym (same_block-is y c own)) ∙ rivals) is.no_rival
    | inr off ↦ clean_other y off (k.lone b y rivals e)
  ]

  pub changed_blocks : KeepsBlocks device (put_at c x body) (changed_marks c until mark) (put_at c (unwrap_or (before c) present) before)
  changed_blocks = record {
    kept = λ b. elim (which c b) [
      | inl e ↦ ap (λ (t : Bool). is_some (cond t (Some x) (body b))) e ∙ sym (ap either (at_own b e))
      | inr (inl is) ↦ stays b is.apart_from ∙ k.kept b ∙ or_comm (mark b).dirty (mark b).dead ∙ sym (ap either (at_rival b is))
      | inr (inr is) ↦ stays b is.apart_from ∙ k.kept b ∙ sym (ap either (at_other b is))
    ];
    apart = λ b e. elim (which c b) [
      | inl own ↦ clash (marks b).dead e (ap is_dead (at_own b own))
      | inr (inl is) ↦ ap is_dirty (at_rival b is)
      | inr (inr is) ↦ ap is_dirty (at_other b is) ∙ k.apart b (sym (ap is_dead (at_other b is)) ∙ e)
    ];
    lone = λ b y rivals e. elim (which c b) [
      | inl own ↦ lone_own b y own rivals
      | inr (inl is) ↦ clash (marks b).dirty e (ap is_dirty (at_rival b is))
      | inr (inr is) ↦ lone_other b y is rivals (sym (ap is_dirty (at_other b is)) ∙ e)
    ];
    changed = λ b e. elim (which c b) [
      | inl own ↦ ap is_dirty (at_own b own)
      | inr (inl is) ↦ clash (is_some (before b)) (sym (stays_before b is.apart_from) ∙ e) (ap (λ (o : Option Body). is_some o) (alone b is.rival))
      | inr (inr is) ↦ ap is_dirty (at_other b is) ∙ k.changed b (sym (stays_before b is.apart_from) ∙ e)
    ];
    marked = λ b off. elim (which c b) [
      | inl own ↦ clash (is_in_grid b) (ap is_in_grid (same_block-is b c own) ∙ grid) off
      | inr (inl is) ↦ at_rival b is ∙ ap (rival_mark until) (k.marked b off)
      | inr (inr is) ↦ at_other b is ∙ k.marked b off
    ];
    inside = λ b e. elim (cases_Bool (same_block b c)) [
      | inl own ↦ subst (λ (z : Block). z.first + sectors z.kind ≤ device) (sym (same_block-is b c own)) inside
      | inr off ↦ k.inside b (sym (stays b off) ∙ e)
    ];
    sized = λ b. put_sized b (same_block b c) x (body b) (λ own. subst (λ (z : Block). HasSize z x) (sym (same_block-is b c own)) size) (k.sized b);
    sized_before = λ b.
        put_sized b (same_block b c) (unwrap_or (before c) present) (before b) (λ own. subst (λ (z : Block). HasSize z (unwrap_or (before c) present)) (sym (same_block-is b c own)) (first_sized c (before c) present (k.sized_before c) size_before))
        (k.sized_before b);
  }
