-- Windows that follow one another.
use Rattle.std.proofs.Common.{◌≡◌, subst, ℕ, suc, ◌+◌, ◌-◌, ◌≤◌, Bool, true, false, List, refl, sym, ap, ◌∙◌, inl, inr, arith}
use Rattle.std.specs.Prelude.{◌||◌}
use Rattle.std.proofs.lemmas.Bool.{cases_lt}
use Rattle.area_laws.specs.disk_model.declared.block.Block.{Block}
use Rattle.area_laws.specs.log_page.declared.places.LogPlace.{LogPlace}
use Rattle.store_claims.specs.store_model.Geometry.{SectorBytes}
use Rattle.store_claims.specs.store_model.Volumes.{IsRecovered}
use Rattle.store_claims.specs.Windows.{StoreWindow}
use Rattle.area_laws.specs.disk_model.declared.block.Body.{Body}
use Rattle.area_laws.specs.disk_model.Content.{Content}
use Rattle.area_laws.specs.log_model.declared.entry.Entry.{Entry}
use Rattle.store_claims.proofs.store_model.Told.{or_left, or_right}
use Rattle.txn_laws.specs.Windows.{RecoversWithin, AfterBegin, AfterCommit, AfterWrite}
use Rattle.txn_laws.specs.Following.{Follows, RecoversSince, WindowsFollow}

-- a content by its number, where the number is known otherwise
at_number : (w : StoreWindow) (j k : ℕ) (b : Block) → j ≡ k → w.before j b ≡ w.before k b
at_number w j k b is = ap (λ (i : ℕ). w.before i b) is

stays : (lost : Block → Bool) (old new : StoreWindow) → new.waiting ≤ old.waiting → ((k : ℕ) → k ≤ new.waiting → (b : Block) → lost b ≡ false → new.before k b ≡ old.before k b) → Follows 0 lost old new
stays lost old new few same = record {
  waiting = omega (arith, few);
  others = λ k b le spared. (omega (arith, le, few), at_number new (0 + k) k b (omega arith) ∙ same k (omega (arith, le)) b spared);
}

written : (old new : StoreWindow) → AfterWrite old new → Follows 0 (λ b. false) old new
written old new after = subst (λ (w : StoreWindow). Follows 0 (λ b. false) old w) (sym after.same) (stays (λ b. false) old old (omega arith) (λ k le b spared. refl))

begun : (old new : StoreWindow) → AfterBegin old new → Follows 0 (λ b. false) old new
begun old new after = subst (λ (w : StoreWindow). Follows 0 (λ b. false) old w) (sym after.same) (stays (λ b. false) old (record old { is_open = true }) (omega arith) (λ k le b spared. refl))

committed : (old new : StoreWindow) → AfterCommit old new → Follows 1 (λ b. false) old new
committed old new after = record {
  waiting = omega (arith, after.waiting);
  others = λ k b le spared. (omega (arith, le, after.waiting), at_number new (1 + k) (suc k) b (omega arith) ∙ after.others k b);
}

one_behind : (m n : ℕ) (lost gone : Block → Bool) (old mid new : StoreWindow) → Follows m lost old mid → Follows n gone mid new → Follows (n + m) (λ b. lost b || gone b) old new
one_behind m n lost gone old mid new first second = record {
  waiting = omega (arith, first.waiting, second.waiting);
  others = λ k b le spared.
      let late = second.others (m + k) b (omega (arith, le)) (or_right (lost b) (gone b) spared) in
      let early = first.others k b (omega (arith, late.0)) (or_left (lost b) (gone b) spared) in
      (early.0, at_number new (n + m + k) (n + (m + k)) b (omega arith) ∙ late.1 ∙ early.1);
}

recovers_since : (place : LogPlace) (own : ℕ → Bool) (commits : ℕ) (lost : Block → Bool) (old new : StoreWindow) (image : SectorBytes) → Follows commits lost old new → RecoversWithin place own new image
    → RecoversSince place own commits lost old new image
recovers_since place own commits lost old new image follows x = record {
  restart = x.restart;
  chosen = x.chosen;
  list = x.list;
  reads = x.reads;
  closed = x.closed;
  recovers = elim (cases_lt x.back commits) [
    | inl newer ↦ inl (x.back, newer, x.within, x.recovers)
    | inr older ↦
        let k = x.back - commits in
        let n : commits + (x.back - commits) ≡ x.back = omega (arith, older) in
        inr (
          x.back - commits,
          back_then older,
          λ b spared known claimed.
              as_content (new.before x.back) (old.before (x.back - commits)) x.list b
              (at_number new x.back (commits + (x.back - commits)) b (sym n) ∙ (follows.others (x.back - commits) b (omega (arith, older, x.within)) spared).1) (x.recovers b known claimed),
        )
  ];
}
  where
    back_then : commits ≤ x.back → x.back - commits ≤ old.waiting
    back_then older = omega (arith, older, x.within, follows.waiting)

    as_content : (c d : Content) (list : List Entry) (b : Block) → c b ≡ d b → IsRecovered list image c b → IsRecovered list image d b
    as_content c d list b same is = record { bytes = is.bytes ∙ ap (λ (y : Body). y.bytes) same; torn = λ torn. ap (λ (y : Body). y.torn) (sym same) ∙ is.torn torn }

pub windows_follow_law : WindowsFollow
windows_follow_law = record {
  write = written;
  begin = begun;
  change = λ c at put old new after. stays (λ b. false) old new (omega (arith, after.waiting)) (λ k le b spared. after.others k le b);
  commit = committed;
  give_up = λ old new after. stays (λ b. false) old new (omega (arith, after.waiting)) (λ k le b spared. after.others k b);
  move = λ lost old new after. stays lost old new after.waiting (λ k le b spared. after.others k le b spared);
  joined = one_behind;
  since = recovers_since;
}
