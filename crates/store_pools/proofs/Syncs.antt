-- What a sync makes of the pools.
use Rattle.std.proofs.Common.{◌≡◌, ℕ, Bool, true, false, not, cond, List, Option, Some, None, refl, sym, ap, ◌∙◌}
use Rattle.std.specs.Prelude.{is_some, unwrap_or, ◌↔◌}
use Rattle.std.proofs.Math.Path.{fun_ext}
use Rattle.std.specs.Option.{option_map}
use Rattle.txn_model.specs.disk_model.declared.block.Block.{Block}
use Rattle.txn_model.specs.block_pool.Pools.{held, kept_blocks, turned_values, passes}
use Rattle.txn_model.proofs.block_pool.LookUps.{looks_up}
use Rattle.txn_model.specs.declared.mark.Mark.{Mark}
use Rattle.txn_model.specs.Values.{no_mark}
use Rattle.txn_model.specs.Calls.{is_buried, synced_mark}
use Rattle.store_pools.specs.declared.kept.KeptBody.{KeptBody}
use Rattle.store_pools.specs.Pools.{body_of_kept, bodies_of, marks_of}

by_mark : (test : Mark → Bool) (t : Bool) (m : Mark) (h : Option KeptBody) → test m ≡ t → option_map body_of_kept (cond (not (test m)) h None) ≡ cond (test m) None (option_map body_of_kept h)
by_mark test true m h e = ap (λ (u : Bool). option_map body_of_kept (cond (not u) h None)) e ∙ sym (ap (λ (u : Bool). cond u None (option_map body_of_kept h)) e)
by_mark test false m h e = ap (λ (u : Bool). option_map body_of_kept (cond (not u) h None)) e ∙ sym (ap (λ (u : Bool). cond u None (option_map body_of_kept h)) e)

by_marks : (synced : ℕ) (o : Option Mark) (h : Option KeptBody)
    → option_map body_of_kept (cond (not (passes (is_buried synced) o)) h None) ≡ cond (is_buried synced (unwrap_or o no_mark)) None (option_map body_of_kept h)
by_marks synced (Some m) h = by_mark (is_buried synced) (is_buried synced m) m h refl
by_marks synced None h = refl

-- the dead bodies leave whose rivals' changes are durable
pub buried_bodies : (synced : ℕ) (marks : List (Block × Mark)) (bodies : List (Block × KeptBody))
    → bodies_of (kept_blocks (λ b. not (passes (is_buried synced) (held marks b))) bodies) ≡ (λ b. cond (is_buried synced (marks_of marks b)) None (bodies_of bodies b))
buried_bodies synced marks bodies =
    fun_ext (λ b. ap (λ (f : Block → Option KeptBody). option_map body_of_kept (f b)) ((looks_up KeptBody).kept (λ c. not (passes (is_buried synced) (held marks c))) bodies) ∙ by_marks synced (held marks b) (held bodies b))

synced_there : (synced : ℕ) (o : Option Mark) → unwrap_or (option_map (synced_mark synced) o) no_mark ≡ synced_mark synced (unwrap_or o no_mark)
synced_there synced (Some m) = refl
synced_there synced None = refl

-- and each mark is that after the sync
pub synced_marks : (synced : ℕ) (marks : List (Block × Mark)) → marks_of (turned_values (synced_mark synced) marks) ≡ (λ b. synced_mark synced (marks_of marks b))
synced_marks synced marks = fun_ext (λ b. ap (λ (f : Block → Option Mark). unwrap_or (f b) no_mark) ((looks_up Mark).turned (synced_mark synced) marks) ∙ synced_there synced (held marks b))

-- whether a restart page was written
pub named_so : {X : Type 0} (t : Bool) (o : Option X) → (t ≡ false) ↔ (o ≡ None) → t ≡ is_some o
named_so true (Some x) is = refl
named_so true None is = is.1 refl
named_so false (Some x) is = let clash : Some x ≡ None = is.0 refl in absurd cc
named_so false None is = refl
