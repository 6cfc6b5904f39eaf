-- The states of a run in which no sync is undone.
use Rattle.std.proofs.Common.{◌≡◌, subst, ℕ, ◌≤◌, List, [], ◌∷◌, ◌++◌, length, take, drop, All, refl, sym, arith}
use Rattle.std.proofs.lemmas.List.{take_all, drop_all, take-append-drop, take-append-le, drop-append-le, length-append}
use Rattle.std.proofs.lemmas.List.Elements.{All-push}
use Rattle.tree_model.specs.declared.reply.Reply.{Reply}
use Rattle.tree_model.specs.declared.reply.Reply.TheVariants.{Synced}
use Rattle.run_model.specs.declared.turn.Turn.{Turn}
use Rattle.run_model.specs.Runs.{Segment}
use Rattle.run_model.specs.Leaving.{HoldsSynced, SomeState, TellsNoSync, IsSyncedState}
use Rattle.run_model.proofs.Segments.{segment_join}

-- ---- what is said

quiet : (k : ℕ) (reply : Reply) → TellsNoSync reply → HoldsSynced k reply
quiet k (Synced turns) none = absurd none
quiet k other none = tt

holds_on : (k n : ℕ) (reply : Reply) → k ≤ n → HoldsSynced k reply → HoldsSynced n reply
holds_on k n (Synced turns) le holds = omega (arith, le, holds)
holds_on k n other le holds = tt

all_on : (k n : ℕ) (turns : List Turn) → k ≤ n → All (λ (t : Turn). HoldsSynced k t.reply) turns → All (λ (t : Turn). HoldsSynced n t.reply) turns
all_on k n turns le all = λ i d lt. holds_on k n _ le (all i d lt)

-- and one turn more, which says this
pub all_more : (turns : List Turn) (t : Turn) → HoldsSynced (length (turns ++ t ∷ [])) t.reply → All (λ (u : Turn). HoldsSynced (length turns) u.reply) turns → All (λ (u : Turn). HoldsSynced (length (turns ++ t ∷ [])) u.reply) (turns ++ t ∷ [])
all_more turns t said all =
    All-push (λ (u : Turn). HoldsSynced (length (turns ++ t ∷ [])) u.reply) turns t (all_on (length turns) (length (turns ++ t ∷ [])) turns (let more = length-append turns (t ∷ []) in omega (arith, more)) all) said

pub quiet_more : (turns : List Turn) (t : Turn) → TellsNoSync t.reply → HoldsSynced (length (turns ++ t ∷ [])) t.reply
quiet_more turns t none = quiet (length (turns ++ t ∷ [])) t.reply none

module _ {S : Type 0} (step : List Turn → Turn → S → S → Type 0) where
  -- ---- a state

  -- one turn more, which tells of no sync
  pub goes_on : (turns : List Turn) (t : Turn) (first now next state : S) → IsSyncedState step turns first now state → step turns t now next → TellsNoSync t.reply → IsSyncedState step (turns ++ t ∷ []) first next state
  goes_on turns t first now next state s turn none =
      let le : s.k ≤ length turns = s.within in
      let front : take s.k (turns ++ t ∷ []) ≡ take s.k turns = take-append-le s.k turns (t ∷ []) le in
      let back : drop s.k (turns ++ t ∷ []) ≡ drop s.k turns ++ t ∷ [] = drop-append-le s.k turns (t ∷ []) le in
      let whole : take s.k turns ++ drop s.k turns ≡ turns = take-append-drop s.k turns in
      let one : Segment step turns (t ∷ []) now next = (next, turn, refl) in
      let there : Segment step (take s.k turns ++ drop s.k turns) (t ∷ []) now next = subst (λ (p : List Turn). Segment step p (t ∷ []) now next) (sym whole) one in
      let after : Segment step (take s.k turns) (drop s.k turns ++ t ∷ []) state next = segment_join step (take s.k turns) (drop s.k turns) (t ∷ []) state now next s.after there in
      let more = length-append turns (t ∷ []) in
      record {
        k = s.k;
        within = omega (arith, le, more);
        synced = All-push (λ (u : Turn). HoldsSynced s.k u.reply) turns t s.synced (quiet s.k t.reply none);
        before = subst (λ (p : List Turn). Segment step [] p first state) (sym front) s.before;
        after = subst (λ (p : List Turn). Segment step p (drop s.k (turns ++ t ∷ [])) state next) (sym front) (subst (λ (p : List Turn). Segment step (take s.k turns) p state next) (sym back) after);
      }

  pub all_taken : (turns : List Turn) (first now : S) → Segment step [] turns first now → Segment step [] (take (length turns) turns) first now
  all_taken turns first now run = subst (λ (p : List Turn). Segment step [] p first now) (sym (take_all (length turns) turns (omega arith))) run

  pub none_left : (turns : List Turn) (now : S) → Segment step (take (length turns) turns) (drop (length turns) turns) now now
  none_left turns now = subst (λ (p : List Turn). Segment step (take (length turns) turns) p now now) (sym (drop_all (length turns) turns (omega arith))) refl

  -- the present one, after all turns
  pub present_state : (turns : List Turn) (first now : S) → Segment step [] turns first now → All (λ (t : Turn). HoldsSynced (length turns) t.reply) turns → IsSyncedState step turns first now now
  present_state turns first now run synced = record {
    k = length turns;
    within = omega arith;
    synced = synced;
    before = all_taken turns first now run;
    after = none_left turns now;
  }

  abbrev pub present_left : (turns : List Turn) (first now : S) (t : ℕ) (Has : S → Type 0) → Segment step [] turns first now → All (λ (u : Turn). HoldsSynced (length turns) u.reply) turns → Has now → SomeState step turns first now t Has
  present_left turns first now t Has run synced has = record {
    k = length turns;
    prefix = record { within = omega arith; synced = λ i d lt at. synced i d lt };
    state = now;
    before = all_taken turns first now run;
    after = none_left turns now;
    has = has;
  }
