-- The claims, place by place.
use Rattle.std.proofs.Common.{◌≡◌, ℕ, zero, suc, ◌+◌, ◌-◌, ◌<◌, ◌≤◌, Bool, true, false, not, List, length, take, drop, Option, refl, sym, ◌∙◌, ap, subst, arith, eq-eqb}
use Rattle.std.specs.Prelude.{◌&&◌, ◌||◌, ◌==◌, unwrap_or}
use Rattle.std.specs.List.{list_all, range_with_len}
use Rattle.std.proofs.lemmas.Bool.{eqb-true, and_parts, and_from}
use Rattle.store_model.specs.disk_model.declared.block.Block.{Block}
use Rattle.store_model.specs.log_model.declared.entry.Entry.{Entry}
use Rattle.store_model.specs.log_model.Logs.{last_said, is_shadowed}
use Rattle.store_model.specs.Logs.{commits, ended_with}
use Rattle.store_model.specs.Stores.{Store}
use Rattle.store_model.proofs.Told.{true≢false, Said, last_said_is}
use Rattle.store_model.proofs.Told.Said.{nothing, own as own_said, rivals}
use Rattle.store_model.proofs.Writes.{words_agree_law}
use Rattle.store_claims.specs.Claims.{claims_in, IsClaimedIn, claims_with, IsClaimedWith, claims, IsClaimedBack, will, WillBeClaimed}
use Rattle.store_claims.specs.Laws.{ClaimsAgree}

all_at : (p : ℕ → Bool) (a n i : ℕ) → list_all p (range_with_len a n) ≡ true → i < n → p (a + i) ≡ true
all_at p a zero i h lt = absurd (omega (arith, lt))
all_at p a (suc n) zero h lt = ap p (let e : a + 0 ≡ a = omega arith in e) ∙ (and_parts (p a) (list_all p (range_with_len (a + 1) n)) h).0
all_at p a (suc n) (suc i) h lt = ap p (let e : a + suc i ≡ a + 1 + i = omega arith in e) ∙ all_at p (a + 1) n i (and_parts (p a) (list_all p (range_with_len (a + 1) n)) h).1 (omega (arith, lt))

all_from : (p : ℕ → Bool) (a n : ℕ) → ((i : ℕ) → i < n → p (a + i) ≡ true) → list_all p (range_with_len a n) ≡ true
all_from p a zero h = refl
all_from p a (suc n) h = and_from (p a) (list_all p (range_with_len (a + 1) n)) (ap p (let e : a ≡ a + 0 = omega arith in e) ∙ h 0 (omega arith))
    (all_from p (a + 1) n (λ i lt. ap p (let e : a + 1 + i ≡ a + suc i = omega arith in e) ∙ h (suc i) (omega (arith, lt))))

-- ---- lists

pub in_gives : (l : List Entry) (d k : ℕ) (b : Block) → claims_in l d k b ≡ true → IsClaimedIn l d k b
unfolding claims_in
in_gives l d k b h p low high e = (words_agree_law.claimed (take p l) b).0 (second (commits (drop p l) == k) (is_shadowed (take p l) b) (eq-eqb (commits (drop p l)) k e) here)
  where
    test : ℕ → Bool
    test n = not (commits (drop n l) == k) || not (is_shadowed (take n l) b)

    here : test p ≡ true
    here = subst (λ (n : ℕ). test n ≡ true) (let z : d + (p - d) ≡ p = omega (arith, low) in z) (all_at test d (suc (length l) - d) (p - d) h (omega (arith, low, high)))

    second : (x y : Bool) → x ≡ true → (not x || not y) ≡ true → y ≡ false
    second true true e h = absurd (true≢false (sym h))
    second true false e h = refl
    second false y e h = absurd (true≢false (sym e))

pub in_from : (l : List Entry) (d k : ℕ) (b : Block) → IsClaimedIn l d k b → claims_in l d k b ≡ true
unfolding claims_in
in_from l d k b claimed = all_from (λ p. not (commits (drop p l) == k) || not (is_shadowed (take p l) b)) d (suc (length l) - d) (λ i lt. here (d + i) (omega arith) (omega (arith, lt)))
  where
    here : (p : ℕ) → d ≤ p → p ≤ length l → (not (commits (drop p l) == k) || not (is_shadowed (take p l) b)) ≡ true
    here p low high = go (commits (drop p l) == k) refl
      where
        go : (v : Bool) → (commits (drop p l) == k) ≡ v → (not (commits (drop p l) == k) || not (is_shadowed (take p l) b)) ≡ true
        go true h = rw (h, (words_agree_law.claimed (take p l) b).1 (claimed p low high (eqb-true (commits (drop p l)) k h))) refl
        go false h = rw h refl

pub with_gives : (tx : ℕ) (l : List Entry) (b : Block) → claims_with tx l b ≡ true → IsClaimedWith tx l b
unfolding claims_with
with_gives tx l b h is = true≢false (sym h ∙ ap (λ (o : Option Bool). not (unwrap_or o false)) is)

pub with_from : (tx : ℕ) (l : List Entry) (b : Block) → IsClaimedWith tx l b → claims_with tx l b ≡ true
unfolding claims_with
with_from tx l b claimed = go (last_said_is (ended_with tx l) l b)
  where
    go : Said (last_said (ended_with tx l) l b) → not (unwrap_or (last_said (ended_with tx l) l b) false) ≡ true
    go (nothing h) = rw h refl
    go (own_said h) = rw h refl
    go (rivals h) = absurd (claimed h)

-- ---- stores

-- a fact of the first list, and of the second one where there is one
both_give : (x begun y : Bool) → (x && (not begun || y)) ≡ true → (x ≡ true) × (begun ≡ true → y ≡ true)
both_give true true y h = (refl, λ e. h)
both_give true false y h = (refl, λ e. absurd (true≢false (sym e)))
both_give false begun y h = absurd (true≢false (sym h))

both_from : (x begun y : Bool) → x ≡ true → (begun ≡ true → y ≡ true) → (x && (not begun || y)) ≡ true
both_from true true y h k = k refl
both_from true false y h k = refl
both_from false begun y h k = absurd (true≢false (sym h))

pub back_gives : (s : Store) (k : ℕ) (b : Block) → claims s k b ≡ true → IsClaimedBack s k b
unfolding claims
back_gives s k b h =
    let x = both_give (claims_in s.log s.synced k b) s.begun (claims_in (drop s.place s.log) (s.synced - s.place) k b) h in
    (in_gives s.log s.synced k b x.0, λ begun. in_gives (drop s.place s.log) (s.synced - s.place) k b (x.1 begun))

pub back_from : (s : Store) (k : ℕ) (b : Block) → IsClaimedBack s k b → claims s k b ≡ true
unfolding claims
back_from s k b x =
    both_from (claims_in s.log s.synced k b) s.begun (claims_in (drop s.place s.log) (s.synced - s.place) k b) (in_from s.log s.synced k b x.0) (λ begun. in_from (drop s.place s.log) (s.synced - s.place) k b (x.1 begun))

pub will_gives : (s : Store) (b : Block) → will s b ≡ true → WillBeClaimed s b
unfolding will
will_gives s b h =
    let x = both_give (claims_with s.window.tx s.log b) s.begun (claims_with s.window.tx (drop s.place s.log) b) h in
    (with_gives s.window.tx s.log b x.0, λ begun. with_gives s.window.tx (drop s.place s.log) b (x.1 begun))

pub will_from : (s : Store) (b : Block) → WillBeClaimed s b → will s b ≡ true
unfolding will
will_from s b x =
    both_from (claims_with s.window.tx s.log b) s.begun (claims_with s.window.tx (drop s.place s.log) b) (with_from s.window.tx s.log b x.0) (λ begun. with_from s.window.tx (drop s.place s.log) b (x.1 begun))

pub claims_agree : ClaimsAgree
claims_agree = record {
  in_list = λ l d k b. (in_gives l d k b, in_from l d k b);
  with_end = λ tx l b. (with_gives tx l b, with_from tx l b);
  of_store = λ s k b. (back_gives s k b, back_from s k b);
  of_present = λ s b. (will_gives s b, will_from s b);
}
