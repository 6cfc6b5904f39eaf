-- Steps of a walk, one after the other.
use Rattle.std.proofs.Common.{◌≡◌, ℕ, zero, suc, Bool, true, false, List, [], ◌∷◌, ◌++◌, Result, Ok, Err, refl, sym, ap, ◌∙◌}
use Rattle.state_model.specs.host_base.Answers.{◌>>=◌, needs}
use Rattle.state_model.specs.record_model.declared.entry.Entry.{Entry}
use Rattle.index_model.specs.Indexes.{Place}
use Rattle.index_model.specs.Walks.{Broken, Event, Met, judged, all_judged, entry_met, kid_met, met_in}

pub bind_ok : {A B : Type 0} (r : Result A Broken) (f : A → Result B Broken) (y : B) → (r >>= f) ≡ Ok y → (x : A) × (r ≡ Ok x) × (f x ≡ Ok y)
bind_ok (Ok x) f y e = (x, refl, e)
bind_ok (Err b) f y e = absurd cc

pub needs_true : {A : Type 0} (b : Bool) (rule : Broken) (r : Result A Broken) (y : A) → (needs b rule >>= λ _. r) ≡ Ok y → (b ≡ true) × (r ≡ Ok y)
needs_true true rule r y h = (refl, h)
needs_true false rule r y h = absurd cc

pub all_judged-append : (p : Place) (upper : List ℕ) (m : Met) (xs ys : List Event) → all_judged p upper m (xs ++ ys) ≡ all_judged p upper m xs >>= λ n. all_judged p upper n ys
all_judged-append p upper m [] ys = refl
all_judged-append p upper m (x ∷ xs) ys = after (λ n. all_judged-append p upper n xs ys) (judged p upper m x)
  where
    after : ((n : Met) → all_judged p upper n (xs ++ ys) ≡ all_judged p upper n xs >>= λ k. all_judged p upper k ys) → (r : Result Met Broken) → (r >>= λ n. all_judged p upper n (xs ++ ys)) ≡ ((r >>= λ n. all_judged p upper n xs) >>= λ k. all_judged p upper k ys)
    after rec (Ok n) = rec n
    after rec (Err b) = refl

-- what passes the first events and then the second ones passes both
pub pass_both : (p : Place) (upper : List ℕ) (m k n : Met) (xs ys : List Event) → all_judged p upper m xs ≡ Ok k → all_judged p upper k ys ≡ Ok n → all_judged p upper m (xs ++ ys) ≡ Ok n
pass_both p upper m k n xs ys e f = all_judged-append p upper m xs ys ∙ ap (λ (r : Result Met Broken). r >>= λ k. all_judged p upper k ys) e ∙ f

pub passed_both : (p : Place) (upper : List ℕ) (m n : Met) (xs ys : List Event) → all_judged p upper m (xs ++ ys) ≡ Ok n → (k : Met) × (all_judged p upper m xs ≡ Ok k) × (all_judged p upper k ys ≡ Ok n)
passed_both p upper m n xs ys e = bind_ok (all_judged p upper m xs) (λ k. all_judged p upper k ys) n (sym (all_judged-append p upper m xs ys) ∙ e)

pub met_in_next : (read : ℕ → Result (List Entry) ℕ) (levels v : ℕ) (e : Entry) (entries : List Entry) → met_in read levels v (e ∷ entries) ≡ entry_met (kid_met read levels v) v e ++ met_in read levels v entries
unfolding met_in
met_in_next read zero v e entries = refl
met_in_next read (suc levels) v e entries = refl

pub met_in_end : (read : ℕ → Result (List Entry) ℕ) (levels v : ℕ) → met_in read levels v [] ≡ []
unfolding met_in
met_in_end read zero v = refl
met_in_end read (suc levels) v = refl
