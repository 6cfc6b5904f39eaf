-- What a list of changes makes of the claims of a store.
use Rattle.std.proofs.Common.{◌≡◌, ◌⊎◌, inl, inr, ℕ, suc, Bool, true, false, List, [], ◌∷◌, refl, sym, ◌∙◌, ap, subst}
use Rattle.std.specs.Prelude.{◌||◌}
use Rattle.disk_model.specs.declared.block.Block.{Block}
use Rattle.disk_model.specs.declared.block.Change.{Change}
use Rattle.disk_model.specs.Sectors.{same_block}
use Rattle.disk_model.proofs.Frames.{same_block-is}
use Rattle.state_blocks.specs.Drafts.{is_changed}
use Rattle.turn_laws.proofs.store_model.Told.{true≢false}
use Rattle.turn_laws.specs.store_claims.Claims.{ClaimWindow}
use Rattle.turn_laws.specs.store_claims.Moves.{Keeps, ClaimsAfterChange, ClaimsAfterCommit, ClaimsAfterGiveUp}
use Rattle.state_store.specs.Claims.{NoRival, ClaimsAfterLogged, ClaimsAfterStop, ClaimsAfterLeft, ClaimsAfterPut}

pub logged_claims : (x : Change) (xs : List Change) (a b c : ClaimWindow) → ClaimsAfterChange x.block a b → ClaimsAfterLogged xs b c → ClaimsAfterLogged (x ∷ xs) a c
logged_claims x xs a b c one two = record {
  older = λ k e h. two.older k e (one.older k e h);
  newest = λ e free h. two.newest e free.1 (one.newest e free.0 h);
  will = λ e free which. two.will e free.1 (go e free (same_block e x.block) refl which);
}
  where
    go : (e : Block) → NoRival (x ∷ xs) e → (v : Bool) → same_block e x.block ≡ v → (a.will e ≡ true) ⊎ ((same_block e x.block || is_changed xs e) ≡ true) → (b.will e ≡ true) ⊎ (is_changed xs e ≡ true)
    go e free true is which = inl (subst (λ (n : Block). b.will n ≡ true) (sym (same_block-is e x.block is)) one.own)
    go e free false is (inl h) = inl (one.others e free.0 h)
    go e free false is (inr h) = inr (rw is at h)

pub none_logged : (a : ClaimWindow) → ClaimsAfterLogged [] a a
none_logged a = record { older = λ k e h. h; newest = λ e free h. h; will = λ e free which. go e which }
  where
    go : (e : Block) → (a.will e ≡ true) ⊎ (false ≡ true) → a.will e ≡ true
    go e (inl h) = h
    go e (inr h) = absurd (true≢false (sym h))

pub stopped_claims : (x : Change) (xs : List Change) (a b c : ClaimWindow) → ClaimsAfterChange x.block a b → ClaimsAfterStop xs b c → ClaimsAfterStop (x ∷ xs) a c
stopped_claims x xs a b c one two = record {
  older = λ k e h. two.older k e (one.older k e h);
  newest = λ e free h. two.newest e free.1 (one.newest e free.0 h);
  will = λ e free h. two.will e free.1 (one.newest e free.0 h);
}

pub given_up_claims : (xs : List Change) (a b : ClaimWindow) → ClaimsAfterGiveUp a b → ClaimsAfterStop xs a b
given_up_claims xs a b one = record {
  older = λ k e h. ap (λ (c : ℕ → Block → Bool). c (suc k) e) one.claims ∙ h;
  newest = λ e free h. ap (λ (c : ℕ → Block → Bool). c 0 e) one.claims ∙ h;
  will = λ e free h. one.will e h;
}

-- ---- a whole transaction

pub put_claims : (xs : List Change) (a b c d : ClaimWindow) → b ≡ a → Keeps (a.claims 0) b.will → ClaimsAfterLogged xs b c → ClaimsAfterCommit c d → ClaimsAfterPut xs a d
put_claims xs a b c d same begun logged committed = record {
  older = λ k e h. committed.older (suc k) e (logged.older k e (ap (λ (w : ClaimWindow). w.claims (suc k) e) same ∙ h));
  before = λ e free h. committed.older 0 e (logged.newest e free (ap (λ (w : ClaimWindow). w.claims 0 e) same ∙ h));
  newest = λ e free which. committed.newest e (logged.will e free (go e which));
  will = λ e free which. committed.will e (logged.will e free (go e which));
}
  where
    go : (e : Block) → (a.claims 0 e ≡ true) ⊎ (is_changed xs e ≡ true) → (b.will e ≡ true) ⊎ (is_changed xs e ≡ true)
    go e (inl h) = inl (begun e h)
    go e (inr h) = inr h

pub left_claims : (xs : List Change) (a b c : ClaimWindow) → b ≡ a → ClaimsAfterStop xs b c → ClaimsAfterLeft xs a c
left_claims xs a b c same stopped = record {
  older = λ k e h. stopped.older k e (ap (λ (w : ClaimWindow). w.claims (suc k) e) same ∙ h);
  newest = λ e free h. stopped.newest e free (ap (λ (w : ClaimWindow). w.claims 0 e) same ∙ h);
  will = λ e free h still. stopped.will e free (ap (λ (w : ClaimWindow). w.claims 0 e) same ∙ h);
}

pub untouched_claims : (xs : List Change) (a : ClaimWindow) → ClaimsAfterLeft xs a a
untouched_claims xs a = record { older = λ k e h. h; newest = λ e free h. h; will = λ e free h still. still }
