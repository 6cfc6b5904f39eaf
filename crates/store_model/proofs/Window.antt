-- The window of contents under each event.
use Rattle.std.proofs.Common.{◌≡◌, ℕ, zero, suc, ◌≤◌, Bool, true, false, List, [], ◌∷◌, ◌++◌, take, Option, Some, None, refl, sym, ◌∙◌, ap, arith}
use Rattle.std.specs.Prelude.{unwrap_or}
use Rattle.std.specs.Option.{option_or}
use mathlib.Core.Path.{fun_ext}
use Rattle.log_model.specs.disk_model.declared.block.Block.{Block}
use Rattle.log_model.specs.declared.entry.Entry.{Entry}
use Rattle.log_model.specs.Logs.{covers, undo_byte, first_undo}
use Rattle.log_model.proofs.Telling.{first_undo-append}
use Rattle.store_model.specs.Logs.{AllBytes, undone, back, changed}

pub unwrap_or-option_or : (a b : Option ℕ) (y : ℕ) → unwrap_or (option_or a b) y ≡ unwrap_or a (unwrap_or b y)
unwrap_or-option_or (Some x) b y = refl
unwrap_or-option_or None b y = refl

pub undone-append : (us vs : List Entry) (c : AllBytes) → undone (us ++ vs) c ≡ undone us (undone vs c)
undone-append us vs c = fun_ext (λ b. fun_ext (λ i. ap (λ (o : Option ℕ). unwrap_or o (c b i)) (first_undo-append us vs b i) ∙ unwrap_or-option_or (first_undo us b i) (first_undo vs b i) (c b i)))

-- A change moves no member of the window. Of a byte that the draft has changed before, any undo byte will do.
pub window-change : (draft : List Entry) (e : Entry) (c : AllBytes) → ((b : Block) (i : ℕ) → covers b i e.act ≡ true → first_undo draft b i ≡ None → undo_byte e.act i ≡ c b i)
    → undone (draft ++ e ∷ []) (changed e c) ≡ undone draft c
window-change draft e c old = fun_ext (λ b. fun_ext (λ i. rw (first_undo-append draft (e ∷ []) b i) (go b i (first_undo draft b i) refl (covers b i e.act) refl)))
  where
    go : (b : Block) (i : ℕ) (o : Option ℕ) → first_undo draft b i ≡ o → (v : Bool) → covers b i e.act ≡ v → unwrap_or (option_or (first_undo draft b i) (first_undo (e ∷ []) b i)) (changed e c b i) ≡ unwrap_or (first_undo draft b i) (c b i)
    go b i (Some x) h v k = rw h refl
    go b i None h true k = rw (h, k) (old b i k h)
    go b i None h false k = rw (h, k) refl

pub undone-nil : (c : AllBytes) → undone [] c ≡ c
undone-nil c = refl

pub back-zero : (ws : List (List Entry)) (c : AllBytes) → back ws 0 c ≡ c
back-zero [] c = refl
back-zero (w ∷ ws) c = refl

-- a commit adds a member and moves none
pub window-commit : (ws : List (List Entry)) (draft : List Entry) (k : ℕ) (c : AllBytes) → back (draft ∷ ws) (suc k) c ≡ back ws k (undone draft c)
window-commit ws draft k c = refl

-- a sync drops members from the far end
pub window-sync : (m : ℕ) (ws : List (List Entry)) (k : ℕ) (c : AllBytes) → k ≤ m → back (take m ws) k c ≡ back ws k c
window-sync m ws zero c le = back-zero (take m ws) c ∙ sym (back-zero ws c)
window-sync zero ws (suc k) c le = absurd (omega arith)
window-sync (suc m) [] (suc k) c le = refl
window-sync (suc m) (w ∷ ws) (suc k) c le = window-sync m ws k (undone w c) (omega arith)

-- a member's byte depends on that byte alone
pub back_at : (ws : List (List Entry)) (k : ℕ) (c c' : AllBytes) (b : Block) (i : ℕ) → c b i ≡ c' b i → back ws k c b i ≡ back ws k c' b i
back_at [] k c c' b i e = e
back_at (w ∷ ws) zero c c' b i e = e
back_at (w ∷ ws) (suc k) c c' b i e = back_at ws k (undone w c) (undone w c') b i (ap (unwrap_or (first_undo w b i)) e)
