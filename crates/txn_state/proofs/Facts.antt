-- The facts of a store, field by field.
use Rattle.std.proofs.Common.{◌≡◌, ℕ, ◌+◌, suc, Bool, true, false, cond, List, [], Option, None, refl, sym, ap, ◌∙◌, arith}
use Rattle.std.specs.Prelude.{◌||◌}
use Rattle.std.proofs.Math.Path.{fun_ext}
use Rattle.txn_log.specs.disk_model.declared.block.Block.{Block}
use Rattle.txn_log.specs.disk_model.declared.block.Body.{Body}
use Rattle.txn_log.specs.disk_model.Sectors.{same_block, are_rivals}
use Rattle.txn_log.proofs.disk_model.Frames.{same_block-is}
use Rattle.txn_log.specs.log_page.declared.places.LogPlace.{LogPlace}
use Rattle.txn_log.specs.log_area.Areas.{LogAreaOf}
use Rattle.txn_log.specs.store_pools.declared.kept.KeptBody.{KeptBody}
use Rattle.txn_log.specs.store_pools.Pools.{bodies_of}
use Rattle.txn_log.specs.txn_model.declared.mark.Mark.{Mark}
use Rattle.txn_log.specs.txn_model.Values.{StoreFacts, take_at}

-- the facts of these fields
abbrev pub facts_by : (place : LogPlace) (found : List Block) (is_open : Bool) (log : LogAreaOf) (body : Block → Option Body) (mark : Block → Mark) (before : Block → Option Body) (tx last commits durable : ℕ) (ends : List ℕ) (noted : Option ℕ) → StoreFacts
facts_by place found is_open log body mark before tx last commits durable ends noted = record {
  place = place;
  log = log;
  found = found;
  body = body;
  mark = mark;
  before = before;
  is_open = is_open;
  tx = tx;
  last = last;
  commits = commits;
  durable = durable;
  ends = ends;
  noted = noted;
}

-- equal fields, equal facts
pub same_facts : (place : LogPlace) (found : List Block) (is_open : Bool) (log log' : LogAreaOf) (body body' : Block → Option Body) (mark mark' : Block → Mark) (before before' : Block → Option Body) (tx tx' last last' commits commits' durable durable' : ℕ) (ends ends' : List ℕ)
    (noted noted' : Option ℕ) → log ≡ log' → body ≡ body' → mark ≡ mark' → before ≡ before' → tx ≡ tx' → last ≡ last' → commits ≡ commits' → durable ≡ durable' → ends ≡ ends' → noted ≡ noted'
    → facts_by place found is_open log body mark before tx last commits durable ends noted ≡ facts_by place found is_open log' body' mark' before' tx' last' commits' durable' ends' noted'
same_facts place found is_open log log' body body' mark mark' before before' tx tx' last last' commits commits' durable durable' ends ends' noted noted' on_log on_body on_mark on_before on_tx on_last on_commits on_durable on_ends on_noted =
    ap (λ (x : LogAreaOf). facts_by place found is_open x body mark before tx last commits durable ends noted) on_log
    ∙ ap (λ (x : Block → Option Body). facts_by place found is_open log' x mark before tx last commits durable ends noted) on_body
    ∙ ap (λ (x : Block → Mark). facts_by place found is_open log' body' x before tx last commits durable ends noted) on_mark
    ∙ ap (λ (x : Block → Option Body). facts_by place found is_open log' body' mark' x tx last commits durable ends noted) on_before
    ∙ ap (λ (x : ℕ). facts_by place found is_open log' body' mark' before' x last commits durable ends noted) on_tx
    ∙ ap (λ (x : ℕ). facts_by place found is_open log' body' mark' before' tx' x commits durable ends noted) on_last
    ∙ ap (λ (x : ℕ). facts_by place found is_open log' body' mark' before' tx' last' x durable ends noted) on_commits
    ∙ ap (λ (x : ℕ). facts_by place found is_open log' body' mark' before' tx' last' commits' x ends noted) on_durable
    ∙ ap (λ (x : List ℕ). facts_by place found is_open log' body' mark' before' tx' last' commits' durable' x noted) on_ends
    ∙ ap (λ (x : Option ℕ). facts_by place found is_open log' body' mark' before' tx' last' commits' durable' ends' x) on_noted

pub one_more : (n : ℕ) → n + 1 ≡ suc n
one_more n = omega arith

-- a pool that is empty looks up nothing
pub none_left : (es : List (Block × KeptBody)) → es ≡ [] → bodies_of es ≡ (λ b. None)
none_left es is = ap bodies_of is

-- ---- write-outs

either_gone : (t r : Bool) (o : Option Body) → cond t None (cond r None o) ≡ cond (t || r) None o
either_gone true true o = refl
either_gone true false o = refl
either_gone false true o = refl
either_gone false false o = refl

pub both_gone : (b : Block) (body now : Block → Option Body) → now ≡ (λ c. cond (are_rivals b c) None (body c)) → take_at b now ≡ (λ c. cond (same_block c b || are_rivals b c) None (body c))
both_gone b body now is = ap (take_at b) is ∙ fun_ext (λ c. either_gone (same_block c b) (are_rivals b c) (body c))

-- the mark of the block itself is made of its own
own_made : (own : Mark → Mark) (b c : Block) (t : Bool) (marks : Block → Mark) (other : Mark) → (t ≡ true → c ≡ b) → cond t (own (marks b)) other ≡ cond t (own (marks c)) other
own_made own b c true marks other same = ap (λ (x : Block). own (marks x)) (sym (same refl))
own_made own b c false marks other same = refl

pub out_marks : (own : Mark → Mark) (b : Block) (mark : Mark) (marks turned now : Block → Mark) → mark ≡ own (marks b) → now ≡ (λ c. cond (same_block c b) mark (turned c)) → now ≡ (λ c. cond (same_block c b) (own (marks c)) (turned c))
out_marks own b mark marks turned now made is =
    is ∙ ap (λ (m : Mark). (λ (c : Block). cond (same_block c b) m (turned c))) made ∙ fun_ext (λ c. own_made own b c (same_block c b) marks (turned c) (same_block-is c b))

-- behind it the marks of rivals are those that were turned before
pub over_turned : (f : Block → Mark → Mark) (now turned turned' : Block → Mark) → now ≡ (λ c. f c (turned c)) → turned ≡ turned' → now ≡ (λ c. f c (turned' c))
over_turned f now turned turned' is same = is ∙ ap (λ (g : Block → Mark). (λ (c : Block). f c (g c))) same
