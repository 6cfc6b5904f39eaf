-- Truth values, blocks that are the same, and rivals.
use Rattle.std.proofs.Common.{◌≡◌, ◌+◌, Bool, true, false, not, refl, sym, ap, ap₂, ◌∙◌}
use Rattle.std.specs.Prelude.{◌&&◌, ◌||◌, nat_lt}
use Rattle.txn_log.specs.disk_model.declared.block.Block.{Block}
use Rattle.txn_log.specs.disk_model.declared.block.BlockKind.{BlockKind}
use Rattle.txn_log.specs.disk_model.declared.block.BlockKind.TheVariants.{Plain, FileRec, Index}
use Rattle.txn_log.specs.disk_model.Sectors.{sectors, same_kind, same_block, overlap, are_rivals}
use Rattle.txn_log.proofs.disk_model.Frames.{same_block-is}

pub true≢false : {X : Type 0} → true ≡ false → X
true≢false e = absurd cc

-- both can't be
pub clash : {X : Type 0} (t : Bool) → t ≡ true → t ≡ false → X
clash t is not_is = true≢false (sym is ∙ not_is)

pub and_left : (u v : Bool) → (u && v) ≡ true → u ≡ true
and_left true v e = refl
and_left false v e = true≢false (sym e)

pub and_comm : (u v : Bool) → (u && v) ≡ (v && u)
and_comm true true = refl
and_comm true false = refl
and_comm false true = refl
and_comm false false = refl

pub and_true : (u : Bool) → (u && true) ≡ u
and_true true = refl
and_true false = refl

pub and_false : (u : Bool) → (u && false) ≡ false
and_false true = refl
and_false false = refl

pub or_comm : (u v : Bool) → (u || v) ≡ (v || u)
or_comm true true = refl
or_comm true false = refl
or_comm false true = refl
or_comm false false = refl

pub or_false : (u : Bool) → (u || false) ≡ u
or_false true = refl
or_false false = refl

-- what isn't true is false
pub unless : (t : Bool) → (t ≡ true → true ≡ false) → t ≡ false
unless true never = never refl
unless false never = refl

-- ---- blocks

self_kind : (k : BlockKind) → same_kind k k ≡ true
self_kind Plain = refl
self_kind FileRec = refl
self_kind Index = refl

kinds_turn : (j k : BlockKind) → same_kind j k ≡ same_kind k j
kinds_turn Plain Plain = refl
kinds_turn Plain FileRec = refl
kinds_turn Plain Index = refl
kinds_turn FileRec Plain = refl
kinds_turn FileRec FileRec = refl
kinds_turn FileRec Index = refl
kinds_turn Index Plain = refl
kinds_turn Index FileRec = refl
kinds_turn Index Index = refl

-- rivals are rivals of one another, and no block is a rival of itself
pub rivals_turn : (b c : Block) → are_rivals b c ≡ are_rivals c b
rivals_turn b c = ap₂ (λ (u : Bool) (v : Bool). not u && v) (kinds_turn b.kind c.kind) (and_comm (nat_lt b.first (c.first + sectors c.kind)) (nat_lt c.first (b.first + sectors b.kind)))

pub no_rival_of_itself : (b : Block) → are_rivals b b ≡ false
no_rival_of_itself b = ap (λ (u : Bool). not u && overlap b b) (self_kind b.kind)

pub same_no_rival : (b c : Block) → same_block b c ≡ true → are_rivals c b ≡ false
same_no_rival b c same = ap (λ (x : Block). are_rivals x b) (sym (same_block-is b c same)) ∙ no_rival_of_itself b
