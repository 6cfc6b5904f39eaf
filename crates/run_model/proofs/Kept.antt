-- What keeps the images that a run leaves.
use Rattle.std.proofs.Common.{◌≡◌, ◌⊎◌, ℕ, ◌≤◌, ◌<◌, Bool, true, false, List, [], ◌∷◌, ◌++◌, length, take, drop, refl, sym, subst, inl, inr, arith}
use Rattle.std.specs.Prelude.{All, nat_lt, slice_index_or}
use Rattle.std.proofs.Math.Logic.{∥∥₁_map}
use Rattle.std.proofs.lemmas.List.{take-append-drop, take-append-le, drop-append-le, length-append}
use Rattle.std.proofs.lemmas.Bool.Decides.{nat_tests}
use Rattle.std.proofs.lemmas.List.Elements.{All-append, All-nil, All-push}
use Rattle.tree_model.specs.declared.reply.Reply.{Reply}
use Rattle.tree_model.specs.declared.reply.Reply.TheVariants.{Synced}
use Rattle.run_model.specs.declared.turn.Turn.{Turn}
use Rattle.run_model.specs.Runs.{Segment}
use Rattle.run_model.specs.Leaving.{HoldsSynced, HoldsSaid, SomeState, LeavesStates, TellsNoSync, BearsSynced}
use Rattle.run_model.specs.LeavingLaws.{TurnsKeepStates, TurnKeepsStates, StoreKeepsStates, RunKeepsStates}
use Rattle.run_model.proofs.Segments.{segment_join}

-- turns more, with what they say
pub some_state_goes_on : {S : Type 0} (step : List Turn → Turn → S → S → Type 0) (turns more : List Turn) (first now next : S) (t : ℕ) (Has : S → Type 0)
    → Segment step turns more now next → (s : SomeState step turns first now t Has) → All (HoldsSaid t s.k) more → SomeState step (turns ++ more) first next t Has
some_state_goes_on {S} step turns more first now next t Has run s said =
    let le : s.k ≤ length turns = s.prefix.within in
    let front : take s.k (turns ++ more) ≡ take s.k turns = take-append-le s.k turns more le in
    let back : drop s.k (turns ++ more) ≡ drop s.k turns ++ more = drop-append-le s.k turns more le in
    let whole : take s.k turns ++ drop s.k turns ≡ turns = take-append-drop s.k turns in
    let there : Segment step (take s.k turns ++ drop s.k turns) more now next = subst (λ (p : List Turn). Segment step p more now next) (sym whole) run in
    let after : Segment step (take s.k turns) (drop s.k turns ++ more) s.state next = segment_join step (take s.k turns) (drop s.k turns) more s.state now next s.after there in
    record {
      k = s.k;
      prefix = record { within = omega (arith, length-append turns more); synced = All-append (HoldsSaid t s.k) turns more s.prefix.synced said };
      state = s.state;
      before = subst (λ (p : List Turn). Segment step [] p first s.state) (sym front) s.before;
      after = subst (λ (p : List Turn). Segment step p (drop s.k (turns ++ more)) s.state next) (sym front) (subst (λ (p : List Turn). Segment step (take s.k turns) p s.state next) (sym back) after);
      has = s.has;
    }

quiet : (k : ℕ) (reply : Reply) → TellsNoSync reply → HoldsSynced k reply
quiet k (Synced turns) none = absurd none
quiet k other none = tt

all_quiet : (t k : ℕ) (more : List Turn) → All (λ (turn : Turn). TellsNoSync turn.reply) more → All (HoldsSaid t k) more
all_quiet t k more none = λ i d lt at. quiet k (slice_index_or more i d).reply (none i d lt)

pub turns_keep_states : {S I : Type 0} (step : List Turn → Turn → S → S → Type 0) (Bears : I → S → Type 0) (left left_then : ℕ → I → Type 0) → TurnsKeepStates step Bears left left_then
turns_keep_states step Bears left left_then turns more first now next since states run none old t image le is =
    ∥∥₁_map (states t image le (old t image is)) (λ s. some_state_goes_on step turns more first now next t (Bears image) run s (all_quiet t s.k more none))

pub turn_keeps_states : {S I : Type 0} (step : List Turn → Turn → S → S → Type 0) (Bears : I → S → Type 0) (left_then : ℕ → I → Type 0) → TurnKeepsStates step Bears left_then
turn_keeps_states step Bears left_then turns turn first now next since taken bears t image le is =
    ∥∥₁_map (bears t image le is) (λ b. some_state_goes_on step turns (turn ∷ []) first now next t (Bears image) (next, taken, refl) b.some (All-push (HoldsSaid t b.some.k) [] turn (All-nil (HoldsSaid t b.some.k)) b.said))

-- a state in which no sync is undone serves every moment
synced_serves : {S : Type 0} (step : List Turn → Turn → S → S → Type 0) (turns : List Turn) (first now : S) (t : ℕ) (Has : S → Type 0) → BearsSynced step turns first now Has → SomeState step turns first now t Has
synced_serves step turns first now t Has b = record {
  k = b.is_synced.k;
  prefix = record { within = b.is_synced.within; synced = λ i d lt at. b.is_synced.synced i d lt };
  state = b.state;
  before = b.is_synced.before;
  after = b.is_synced.after;
  has = b.has;
}

by_image : {S : Type 0} {Old : Type 0} (step : List Turn → Turn → S → S → Type 0) (turns : List Turn) (first now : S) (t : ℕ) (Has : S → Type 0)
    → (Old → ∥ SomeState step turns first now t Has ∥₁) → Old ⊎ ∥ BearsSynced step turns first now Has ∥₁ → ∥ SomeState step turns first now t Has ∥₁
by_image step turns first now t Has old (inl is) = old is
by_image step turns first now t Has old (inr bears) = ∥∥₁_map bears (synced_serves step turns first now t Has)

pub store_keeps_states : {S I : Type 0} (step : List Turn → Turn → S → S → Type 0) (Bears : I → S → Type 0) (left left_then : ℕ → I → Type 0) → StoreKeepsStates step Bears left left_then
store_keeps_states step Bears left left_then turns first now since states bears t image le is =
    by_image step turns first now t (Bears image) (states t image le) (bears t image le is)

-- no turn yet
first_serves : {S : Type 0} (step : List Turn → Turn → S → S → Type 0) (turns : List Turn) (first now : S) (since t : ℕ) (Has : S → Type 0)
    → Segment step [] turns first now → All (λ (turn : Turn). since ≤ turn.moment) turns → t < since → Has first → SomeState step turns first now t Has
first_serves step turns first now since t Has run late lt has = record {
  k = 0;
  prefix = record { within = omega arith; synced = λ i d below at. absurd (let m = late i d below in omega (arith, m, at, lt)) };
  state = first;
  before = refl;
  after = run;
  has = has;
}

by_moment : {S I : Type 0} (step : List Turn → Turn → S → S → Type 0) (Bears : I → S → Type 0) (left : ℕ → I → Type 0) (turns : List Turn) (first now : S) (entry since t : ℕ) (image : I) (b : Bool) → nat_lt t since ≡ b
    → LeavesStates step Bears first since left turns now → Segment step [] turns first now → All (λ (turn : Turn). since ≤ turn.moment) turns
    → ((t : ℕ) (image : I) → entry ≤ t → t < since → left t image → ∥ Bears image first ∥₁)
    → entry ≤ t → left t image → ∥ SomeState step turns first now t (Bears image) ∥₁
by_moment step Bears left turns first now entry since t image true e states run late early le is =
    let lt : t < since = grind (arith, nat_tests) in
    ∥∥₁_map (early t image le lt is) (first_serves step turns first now since t (Bears image) run late lt)
by_moment step Bears left turns first now entry since t image false e states run late early le is =
    let ge : since ≤ t = grind (arith, nat_tests) in
    states t image ge is

pub run_keeps_states : {S I : Type 0} (step : List Turn → Turn → S → S → Type 0) (Bears : I → S → Type 0) (left : ℕ → I → Type 0) → RunKeepsStates step Bears left
run_keeps_states step Bears left turns first now entry since states run late early t image le is =
    by_moment step Bears left turns first now entry since t image (nat_lt t since) refl states run late early le is
