-- No step of a store makes a block dirty or dead, or keeps a body that wasn't kept before.
use Rattle.std.proofs.Common.{◌≡◌, subst, Bool, true, false, cond, Option, None, Result, Ok, Err, refl, sym, ap, ◌∙◌}
use Rattle.std.specs.Prelude.{◌&&◌, not, is_ok}
use Rattle.host_base.specs.declared.outside.Failed.{Failed}
use Rattle.disk_model.specs.declared.block.Block.{Block}
use Rattle.disk_model.specs.declared.block.Body.{Body}
use Rattle.disk_model.specs.Sectors.{same_block, are_rivals}
use Rattle.flush_policy.specs.declared.facts.StoreStep.{StoreStep}
use Rattle.flush_policy.specs.declared.facts.StoreStep.TheVariants.{SealPage, WritePage, SyncDevice, WriteOut, BeginCheckpoint, WriteRestart}
use Rattle.txn_core.specs.device_blocks.declared.word.CheckWord.{CheckWord}
use Rattle.txn_core.specs.device_blocks.declared.word.CheckWord.TheVariants.{Unread, Missing, Stands, Sent}
use Rattle.txn_core.specs.txn_model.declared.mark.Mark.{Mark}
use Rattle.txn_core.specs.txn_model.Values.{StoreFacts}
use Rattle.txn_core.specs.txn_model.Calls.{sealed_facts, noted_facts, is_buried, synced_facts, written_out_facts, sent_out_facts, again_facts}
use Rattle.txn_core.specs.Calls.{page_facts, is_spelled, out_facts}
use Rattle.txn_core.specs.Steps.{HasTurned}
use Rattle.txn_core.specs.Turns.{restart_facts}

pub record Falls (f g : StoreFacts) : Type 0 where
  pub place : g.place ≡ f.place
  pub is_open : g.is_open ≡ f.is_open
  pub commits : g.commits ≡ f.commits
  pub dead : (b : Block) → (f.mark b).dead ≡ false → (g.mark b).dead ≡ false
  pub dirty : (b : Block) → (f.mark b).dirty ≡ false → (g.mark b).dirty ≡ false
  pub body : (b : Block) → f.body b ≡ None → g.body b ≡ None

-- the bodies and the marks stay
stays_same : (f g : StoreFacts) → g.place ≡ f.place → g.is_open ≡ f.is_open → g.commits ≡ f.commits → g.mark ≡ f.mark → g.body ≡ f.body → Falls f g
stays_same f g place is_open commits marks bodies = record {
  place = place;
  is_open = is_open;
  commits = commits;
  dead = λ b is. ap (λ (m : Block → Mark). (m b).dead) marks ∙ is;
  dirty = λ b is. ap (λ (m : Block → Mark). (m b).dirty) marks ∙ is;
  body = λ b is. ap (λ (o : Block → Option Body). o b) bodies ∙ is;
}

-- ---- syncs

falls_synced : (f : StoreFacts) → Falls f (synced_facts f)
falls_synced f = record {
  place = refl;
  is_open = refl;
  commits = refl;
  dead = λ b is. ap (λ (t : Bool). t && not (is_buried f.log.done (f.mark b))) is;
  dirty = λ b is. is;
  body = λ b is. by (is_buried f.log.done (f.mark b)) (f.body b) is;
}
  where
    by : (t : Bool) (o : Option Body) → o ≡ None → cond t None o ≡ None
    by true o is = refl
    by false o is = is

-- ---- write-outs

-- the mark by which a block is that one, or a rival of it
by_mark : (test : Mark → Bool) (s r : Bool) (one two m : Mark) → test one ≡ false → test two ≡ false → test m ≡ false → test (cond s one (cond r two m)) ≡ false
by_mark test true r one two m first second third = first
by_mark test false true one two m first second third = second
by_mark test false false one two m first second third = third

no_body : (t : Bool) (o : Option Body) → o ≡ None → cond t None o ≡ None
no_body true o is = refl
no_body false o is = is

falls_out : (f : StoreFacts) (b : Block) → Falls f (written_out_facts b f)
falls_out f b = record {
  place = refl;
  is_open = refl;
  commits = refl;
  dead = λ c is. by_mark (λ m. m.dead) (same_block c b) (are_rivals b c) _ _ (f.mark c) is refl is;
  dirty = λ c is. by_mark (λ m. m.dirty) (same_block c b) (are_rivals b c) _ _ (f.mark c) refl is is;
  body = λ c is. no_body _ (f.body c) is;
}

falls_sent : (f : StoreFacts) (b : Block) → Falls f (sent_out_facts b f)
falls_sent f b = record {
  place = refl;
  is_open = refl;
  commits = refl;
  dead = λ c is. by_mark (λ m. m.dead) (same_block c b) (are_rivals b c) _ _ (f.mark c) is refl is;
  dirty = λ c is. by_mark (λ m. m.dirty) (same_block c b) (are_rivals b c) _ _ (f.mark c) is is is;
  body = λ c is. no_body _ (f.body c) is;
}

falls_again : (f : StoreFacts) (b : Block) → Falls f (again_facts b f)
falls_again f b = record {
  place = refl;
  is_open = refl;
  commits = refl;
  dead = λ c is. by_one (λ m. m.dead) (same_block c b) _ (f.mark c) is is;
  dirty = λ c is. by_one (λ m. m.dirty) (same_block c b) _ (f.mark c) refl is;
  body = λ c is. no_body _ (f.body c) is;
}
  where
    by_one : (test : Mark → Bool) (s : Bool) (one m : Mark) → test one ≡ false → test m ≡ false → test (cond s one m) ≡ false
    by_one test true one m first second = first
    by_one test false one m first second = second

falls_by : (spelled ok : Bool) (now : CheckWord) (b : Block) (f : StoreFacts) → Falls f (out_facts spelled ok now b f)
falls_by true true now b f = falls_out f b
falls_by true false (Sent check) b f = falls_sent f b
falls_by true false Unread b f = stays_same f f refl refl refl refl refl
falls_by true false Missing b f = stays_same f f refl refl refl refl refl
falls_by true false (Stands check) b f = stays_same f f refl refl refl refl refl
falls_by false true now b f = falls_again f b
falls_by false false now b f = stays_same f f refl refl refl refl refl

-- ---- each step

falls_as : (f g h : StoreFacts) → g ≡ h → Falls f h → Falls f g
falls_as f g h same falls = subst (λ (x : StoreFacts). Falls f x) (sym same) falls

pub falls : (step : StoreStep) (result : Result (Unit {0}) Failed) (f g : StoreFacts) → HasTurned step result f g → Falls f g
falls SealPage result f g turned = falls_as f g (sealed_facts f) turned.1 (stays_same f (sealed_facts f) refl refl refl refl refl)
falls WritePage (Ok x) f g turned = falls_as f g (page_facts (Ok x) g.log.check f) turned (stays_same f (page_facts (Ok x) g.log.check f) refl refl refl refl refl)
falls WritePage (Err e) f g turned = falls_as f g (page_facts (Err e) g.log.check f) turned (stays_same f (page_facts (Err e) g.log.check f) refl refl refl refl refl)
falls SyncDevice (Ok x) f g turned = falls_as f g (synced_facts f) turned (falls_synced f)
falls SyncDevice (Err e) f g turned = falls_as f g f turned (stays_same f f refl refl refl refl refl)
falls (WriteOut b) result f g turned = falls_as f g (out_facts (is_spelled f b) (is_ok result) turned.0 b f) turned.1 (falls_by (is_spelled f b) (is_ok result) turned.0 b f)
falls BeginCheckpoint result f g turned = falls_as f g (noted_facts f) turned.1 (record { place = refl; is_open = refl; commits = refl; dead = λ b is. is; dirty = λ b is. is; body = λ b is. is })
falls WriteRestart (Ok x) f g turned = falls_as f g (restart_facts (Ok x) g.log.sent f) turned (stays_same f (restart_facts (Ok x) g.log.sent f) refl refl refl refl refl)
falls WriteRestart (Err e) f g turned = falls_as f g (restart_facts (Err e) g.log.sent f) turned (stays_same f (restart_facts (Err e) g.log.sent f) refl refl refl refl refl)
