-- The present content of a store after changes in a transaction, and after it was given up.
use Rattle.std.proofs.Common.{◌≡◌, ℕ, Bool, true, false, cond, List, [], ◌∷◌, Option, Some, None, refl, sym, ap, ◌∙◌, inl, inr}
use mathlib.Core.Path.{fun_ext}
use Rattle.std.specs.Prelude.{is_some, unwrap_or, suc}
use Rattle.std.specs.Option.{option_or}
use Rattle.disk_model.specs.declared.block.Block.{Block}
use Rattle.disk_model.specs.declared.block.Body.{Body}
use Rattle.disk_model.specs.declared.block.Change.{Change}
use Rattle.disk_model.specs.Bytes.{written}
use Rattle.disk_model.specs.Content.{Content, content_of}
use Rattle.disk_model.specs.Sectors.{sector_of, same_block}
use Rattle.disk_model.proofs.Frames.{same_block-is}
use Rattle.turn_laws.proofs.store_model.Told.{true≢false}
use Rattle.turn_laws.specs.txn_model.Values.{StoreFacts}
use Rattle.turn_laws.specs.txn_model.Calls.{begun_facts, changed_facts, committed_facts, body_before}
use Rattle.turn_laws.specs.txn_core.Changes.{IsPresent}
use Rattle.turn_laws.specs.txn_core.Views.{present_on}
use Rattle.state_store.specs.Windows.{changed_content, changed_by}
use Rattle.state_store.specs.Logging.{ChangedBy, StoppedBy}
use Rattle.state_store.proofs.Lists.{body_with}

-- ---- changes that were made

module _ (disk : List (List ℕ)) where
  changed_body : (f : StoreFacts) (x : Change) (p : Body) (b : Block) → IsPresent (Some disk) f x.block p → present_on disk (changed_facts x.block x.offset x.new p f) b ≡ changed_content x (present_on disk f) b
  unfolding body_with
  changed_body f x p b present = by (same_block b x.block) refl
    where
      by : (t : Bool) → same_block b x.block ≡ t → unwrap_or (cond t (Some (body_with (written x.offset x.new p.bytes) false)) (f.body b)) (content_of (sector_of disk) b) ≡ cond t (body_with (written x.offset x.new (present_on disk f b).bytes) false) (present_on disk f b)
      by true is = ap (λ (y : Body). body_with (written x.offset x.new y.bytes) false) (sym present ∙ ap (present_on disk f) (sym (same_block-is b x.block is)))
      by false is = refl

  pub content_changed : (f : StoreFacts) (x : Change) (p : Body) → IsPresent (Some disk) f x.block p → present_on disk (changed_facts x.block x.offset x.new p f) ≡ changed_content x (present_on disk f)
  content_changed f x p present = fun_ext (λ b. changed_body f x p b present)

  pub content_by : (xs : List Change) (f g : StoreFacts) → ChangedBy (Some disk) xs f g → present_on disk g ≡ changed_by xs (present_on disk f)
  content_by [] f g is = ap (present_on disk) is
  content_by (x ∷ xs) f g is = content_by xs (changed_facts x.block x.offset x.new is.0 f) g is.2 ∙ ap (changed_by xs) (content_changed f x is.0 is.1)

  -- ---- the content from before the transaction

  base_on : StoreFacts → Content
  base_on f b = unwrap_or (option_or (f.before b) (f.body b)) (content_of (sector_of disk) b)

  base_kept : (f : StoreFacts) (x : Change) (p : Body) (b : Block) → IsPresent (Some disk) f x.block p → base_on (changed_facts x.block x.offset x.new p f) b ≡ base_on f b
  unfolding base_on body_with
  base_kept f x p b present = by (same_block b x.block) refl
    where
      own : (before body : Option Body) (d : Body) → unwrap_or body d ≡ p → unwrap_or before p ≡ unwrap_or (option_or before body) d
      own (Some y) body d is = refl
      own None body d is = sym is

      by : (t : Bool) → same_block b x.block ≡ t
          → unwrap_or (option_or (cond t (Some (body_before f x.block p)) (f.before b)) (cond t (Some (body_with (written x.offset x.new p.bytes) false)) (f.body b))) (content_of (sector_of disk) b) ≡ unwrap_or (option_or (f.before b) (f.body b)) (content_of (sector_of disk) b)
      by true is =
          let same = same_block-is b x.block is in
          own (f.before x.block) (f.body x.block) (content_of (sector_of disk) x.block) present
          ∙ ap (λ (c : Block). unwrap_or (option_or (f.before c) (f.body c)) (content_of (sector_of disk) c)) (sym same)
      by false is = refl

  base_stopped : (xs : List Change) (f g : StoreFacts) → StoppedBy (Some disk) xs f g → (b : Block) → present_on disk g b ≡ base_on f b
  unfolding base_on
  base_stopped [] f g is b = ap (λ (h : StoreFacts). present_on disk h b) is
  base_stopped (x ∷ xs) f g (inl is) b = ap (λ (h : StoreFacts). present_on disk h b) is
  base_stopped (x ∷ xs) f g (inr more) b = base_stopped xs (changed_facts x.block x.offset x.new more.0 f) g more.2 b ∙ base_kept f x more.0 b more.1

  none_some : (o : Option Body) → is_some o ≡ false → o ≡ None
  none_some (Some x) is = absurd (true≢false is)
  none_some None is = refl

  pub content_stopped : (xs : List Change) (f g : StoreFacts) → ((b : Block) → is_some (f.before b) ≡ false) → StoppedBy (Some disk) xs f g → present_on disk g ≡ present_on disk f
  unfolding base_on
  content_stopped xs f g shut is = fun_ext (λ b. base_stopped xs f g is b ∙ ap (λ (o : Option Body). unwrap_or (option_or o (f.body b)) (content_of (sector_of disk) b)) (none_some (f.before b) (shut b)))

-- ---- counts

same_commits : (gives : Option (List (List ℕ))) (xs : List Change) (f g : StoreFacts) → ChangedBy gives xs f g → (g.commits ≡ f.commits) × (g.durable ≡ f.durable) × (g.is_open ≡ f.is_open)
same_commits gives [] f g is = (ap (λ (h : StoreFacts). h.commits) is, ap (λ (h : StoreFacts). h.durable) is, ap (λ (h : StoreFacts). h.is_open) is)
same_commits gives (x ∷ xs) f g is = same_commits gives xs (changed_facts x.block x.offset x.new is.0 f) g is.2

stopped_commits : (gives : Option (List (List ℕ))) (xs : List Change) (f g : StoreFacts) → StoppedBy gives xs f g → (g.commits ≡ f.commits) × (g.durable ≡ f.durable) × (g.is_open ≡ false)
stopped_commits gives [] f g is = (ap (λ (h : StoreFacts). h.commits) is, ap (λ (h : StoreFacts). h.durable) is, ap (λ (h : StoreFacts). h.is_open) is)
stopped_commits gives (x ∷ xs) f g (inl is) = (ap (λ (h : StoreFacts). h.commits) is, ap (λ (h : StoreFacts). h.durable) is, ap (λ (h : StoreFacts). h.is_open) is)
stopped_commits gives (x ∷ xs) f g (inr more) = stopped_commits gives xs (changed_facts x.block x.offset x.new more.0 f) g more.2

pub still_open : (gives : Option (List (List ℕ))) (xs : List Change) (f g : StoreFacts) → ChangedBy gives xs f g → g.is_open ≡ f.is_open
still_open gives xs f g is = (same_commits gives xs f g is).2

-- ---- of a whole transaction

pub committed_content : (disk : List (List ℕ)) (xs : List Change) (f g : StoreFacts) → ((h : StoreFacts) × ChangedBy (Some disk) xs (begun_facts f) h × (g ≡ committed_facts h)) → present_on disk g ≡ changed_by xs (present_on disk f)
committed_content disk xs f g is = ap (present_on disk) is.2 ∙ content_by disk xs (begun_facts f) is.0 is.1

pub stopped_content : (disk : List (List ℕ)) (xs : List Change) (f g : StoreFacts) → ((b : Block) → is_some (f.before b) ≡ false) → StoppedBy (Some disk) xs (begun_facts f) g → present_on disk g ≡ present_on disk f
stopped_content disk xs f g shut is = content_stopped disk xs (begun_facts f) g shut is

pub committed_counts : (gives : Option (List (List ℕ))) (xs : List Change) (f g : StoreFacts) → ((h : StoreFacts) × ChangedBy gives xs (begun_facts f) h × (g ≡ committed_facts h)) → (g.commits ≡ suc f.commits) × (g.durable ≡ f.durable) × (g.is_open ≡ false)
committed_counts gives xs f g is =
    let same = same_commits gives xs (begun_facts f) is.0 is.1 in (
      ap (λ (h : StoreFacts). h.commits) is.2 ∙ ap suc same.0,
      ap (λ (h : StoreFacts). h.durable) is.2 ∙ same.1,
      ap (λ (h : StoreFacts). h.is_open) is.2,
    )

pub stopped_counts : (gives : Option (List (List ℕ))) (xs : List Change) (f g : StoreFacts) → StoppedBy gives xs (begun_facts f) g → (g.commits ≡ f.commits) × (g.durable ≡ f.durable) × (g.is_open ≡ false)
stopped_counts gives xs f g is = stopped_commits gives xs (begun_facts f) g is
