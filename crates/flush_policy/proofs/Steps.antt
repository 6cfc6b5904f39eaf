-- The next step by cases.
use Rattle.std.proofs.Common.{◌≡◌, ◌≢◌, ◌↔◌, ◌⊎◌, ℕ, zero, suc, ◌+◌, ◌-◌, ◌*◌, ◌<◌, ◌≤◌, Bool, true, false, cond, Option, Some, None, refl, sym, ap, ◌∙◌, subst, inl, inr, arith}
use Rattle.std.specs.Prelude.{◌==◌, ◌&&◌, not}
use Rattle.std.proofs.lemmas.Bool.Decides.{nat_tests}
use Rattle.disk_model.specs.declared.block.Block.{Block}
use Rattle.flush_policy.specs.declared.facts.Facts.{Facts}
use Rattle.flush_policy.specs.declared.facts.StoreStep.{StoreStep}
use Rattle.flush_policy.specs.declared.facts.StoreStep.TheVariants.{SealPage, WritePage, SyncDevice, WriteOut, BeginCheckpoint, WriteRestart}
use Rattle.flush_policy.specs.Choice.{is_half_used, step_of_ring, step_of_blocks, next_step}
use Rattle.flush_policy.specs.Steps.{IsSynced, MayTake, CanBe, IsDone, Becomes, so_many, to_do}

-- How the next step comes about.
pub data Comes (f : Facts) : Option StoreStep → Type 0 where
  writes : 0 < f.sealed → Comes f (Some WritePage)
  writes_out : (b : Block) → f.sealed ≡ 0 → f.ready ≡ Some b → Comes f (Some (WriteOut b))
  syncs : f.unsynced ≡ true → Comes f (Some SyncDevice)
  names : IsSynced f → f.begun ≡ true → f.noted_left ≡ 0 → Comes f (Some WriteRestart)
  begins : IsSynced f → f.begun ≡ false → f.fresh ≡ true → Comes f (Some BeginCheckpoint)
  seals : f.filling ≡ true → Comes f (Some SealPage)
  rests : IsSynced f → f.ready ≡ None → f.filling ≡ false → ((f.begun ≡ true) × (0 < f.noted_left)) ⊎ ((f.begun ≡ false) × (f.fresh ≡ false)) → Comes f None

zero_is : (n : ℕ) → (n == 0) ≡ true → n ≡ 0
zero_is n e = grind (arith, nat_tests, e)

some_is : (n : ℕ) → (n == 0) ≡ false → 0 < n
some_is n e = grind (arith, nat_tests, e)

-- the steps where all that was written is durable
ring_of : (begun nothing fresh half filling : Bool) → Option StoreStep
ring_of begun nothing fresh half filling =
    cond (begun && nothing) (Some WriteRestart) (cond ((fresh && not begun) && half) (Some BeginCheckpoint) (cond filling (Some SealPage) (cond (fresh && not begun) (Some BeginCheckpoint) None)))

ring_comes : (f : Facts) → IsSynced f → f.ready ≡ None → (begun nothing fresh half filling : Bool) → f.begun ≡ begun → (f.noted_left == 0) ≡ nothing → f.fresh ≡ fresh → f.filling ≡ filling
    → Comes f (ring_of begun nothing fresh half filling)
unfolding ring_of
ring_comes f synced ready true true fresh half filling b n s l = names synced b (zero_is f.noted_left n)
ring_comes f synced ready true false true half true b n s l = seals l
ring_comes f synced ready true false true half false b n s l = rests synced ready l (inl (b, some_is f.noted_left n))
ring_comes f synced ready true false false half true b n s l = seals l
ring_comes f synced ready true false false half false b n s l = rests synced ready l (inl (b, some_is f.noted_left n))
ring_comes f synced ready false nothing true true filling b n s l = begins synced b s
ring_comes f synced ready false nothing true false true b n s l = seals l
ring_comes f synced ready false nothing true false false b n s l = begins synced b s
ring_comes f synced ready false nothing false half true b n s l = seals l
ring_comes f synced ready false nothing false half false b n s l = rests synced ready l (inr (b, s))

step_of_ring-comes : (f : Facts) → IsSynced f → f.ready ≡ None → Comes f (step_of_ring f)
unfolding step_of_ring ring_of
step_of_ring-comes f synced ready = ring_comes f synced ready f.begun (f.noted_left == 0) f.fresh (is_half_used f) f.filling refl refl refl refl

step_of_blocks-comes : (f : Facts) (ready : Option Block) (unsynced : Bool) → f.sealed ≡ 0 → f.ready ≡ ready → f.unsynced ≡ unsynced → Comes f (step_of_blocks ready f)
unfolding step_of_blocks
step_of_blocks-comes f (Some b) unsynced sealed ready u = writes_out b sealed ready
step_of_blocks-comes f None true sealed ready u = subst (λ (x : Bool). Comes f (cond x (Some SyncDevice) (step_of_ring f))) (sym u) (syncs u)
step_of_blocks-comes f None false sealed ready u = subst (λ (x : Bool). Comes f (cond x (Some SyncDevice) (step_of_ring f))) (sym u) (step_of_ring-comes f (record { sealed = sealed; unsynced = u }) ready)

-- so the next step comes about in one of these ways
pub next_comes : (f : Facts) → Comes f (next_step f)
unfolding next_step
next_comes f = either (f.sealed == 0) refl
  where
    either : (nothing : Bool) → (f.sealed == 0) ≡ nothing → Comes f (cond nothing (step_of_blocks f.ready f) (Some WritePage))
    either true e = step_of_blocks-comes f f.ready f.unsynced (zero_is f.sealed e) refl refl
    either false e = writes (some_is f.sealed e)

abbrev some_step : StoreStep → Option StoreStep → StoreStep
some_step d (Some x) = x
some_step d None = d

pub may_be_taken : (f : Facts) (step : StoreStep) → next_step f ≡ Some step → MayTake f step
may_be_taken f step e = by (next_step f) (next_comes f) e
  where
    by : (o : Option StoreStep) → Comes f o → o ≡ Some step → MayTake f step
    by _ (writes lt) is = subst (λ (x : StoreStep). MayTake f x) (ap (some_step step) is) lt
    by _ (writes_out b sealed ready) is = subst (λ (x : StoreStep). MayTake f x) (ap (some_step step) is) ready
    by _ (syncs u) is = subst (λ (x : StoreStep). MayTake f x) (ap (some_step step) is) tt
    by _ (names synced begun left) is = subst (λ (x : StoreStep). MayTake f x) (ap (some_step step) is) (begun, left, synced)
    by _ (begins synced begun fresh) is = subst (λ (x : StoreStep). MayTake f x) (ap (some_step step) is) (fresh, begun, synced.unsynced)
    by _ (seals filling) is = subst (λ (x : StoreStep). MayTake f x) (ap (some_step step) is) filling
    by _ (rests synced ready filling why) is = absurd cc

only_when_done : (dirty : ℕ) (f : Facts) → CanBe dirty f → next_step f ≡ None → IsDone dirty f
only_when_done dirty f can e = by (next_step f) (next_comes f) e
  where
    by : (o : Option StoreStep) → Comes f o → o ≡ None → IsDone dirty f
    by _ (writes lt) is = absurd cc
    by _ (writes_out b sealed ready) is = absurd cc
    by _ (syncs u) is = absurd cc
    by _ (names synced begun left) is = absurd cc
    by _ (begins synced begun fresh) is = absurd cc
    by _ (seals filling) is = absurd cc
    by _ (rests synced ready filling (inl x)) is = let none = can.waits filling synced ready in let few = can.noted filling synced x.0 in let lt = x.1 in absurd (omega (arith, none, few, lt))
    by _ (rests synced ready filling (inr x)) is = record { filling = filling; synced = synced; clean = can.waits filling synced ready; begun = x.0; fresh = x.1 }

when_done : (dirty : ℕ) (f : Facts) → CanBe dirty f → IsDone dirty f → next_step f ≡ None
when_done dirty f can done = by (next_step f) (next_comes f)
  where
    both : (b : Bool) → b ≡ true → b ≡ false → ⊥
    both b one other = let e : true ≡ false = sym one ∙ other in absurd cc

    by : (o : Option StoreStep) → Comes f o → o ≡ None
    by _ (writes lt) = let none = done.synced.sealed in absurd (omega (arith, none, lt))
    by _ (writes_out b sealed ready) = let some = can.ready b ready in let none = done.clean in absurd (omega (arith, none, some))
    by _ (syncs u) = absurd (both f.unsynced u done.synced.unsynced)
    by _ (names synced begun left) = absurd (both f.begun begun done.begun)
    by _ (begins synced begun fresh) = absurd (both f.fresh fresh done.fresh)
    by _ (seals filling) = absurd (both f.filling filling done.filling)
    by _ (rests synced ready filling why) = refl

pub rests_only_when_done : (dirty : ℕ) (f : Facts) → CanBe dirty f → (next_step f ≡ None) ↔ IsDone dirty f
rests_only_when_done dirty f can = (only_when_done dirty f can, when_done dirty f can)

at_most_one : (b : Bool) → so_many b ≤ 1
at_most_one true = omega arith
at_most_one false = omega arith

pub leaves_less : (step : StoreStep) (dirty left : ℕ) (f g : Facts) → CanBe dirty f → next_step f ≡ Some step → Becomes step dirty f left g → to_do left g < to_do dirty f
leaves_less step dirty left f g can e b = by step (subst (λ (o : Option StoreStep). Comes f o) e (next_comes f)) b
  where
    count : (x y : Bool) → x ≡ y → so_many x ≡ so_many y
    count x y is = ap so_many is

    by : (s : StoreStep) → Comes f (Some s) → Becomes s dirty f left g → to_do left g < to_do dirty f
    by _ (writes lt) b = let one = at_most_one f.unsynced in let fresh = count _ _ b.fresh in let filling = count _ _ b.filling in let begun = count _ _ b.begun in let unsynced = count _ _ b.unsynced in let sealed = b.sealed in let counts = b.counts in omega (arith, one, fresh, filling, begun, unsynced, sealed, counts, lt)
    by _ (writes_out block none ready) b = let one = at_most_one f.unsynced in let some = can.ready block ready in let fresh = count _ _ b.fresh in let filling = count _ _ b.filling in let begun = count _ _ b.begun in let unsynced = count _ _ b.unsynced in let sealed = b.sealed in let counts = b.counts in omega (arith, one, some, fresh, filling, begun, unsynced, sealed, counts)
    by _ (syncs u) b = let was = count _ _ u in let fresh = count _ _ b.fresh in let filling = count _ _ b.filling in let begun = count _ _ b.begun in let unsynced = count _ _ b.unsynced in let sealed = b.sealed in let counts = b.counts in omega (arith, was, fresh, filling, begun, unsynced, sealed, counts)
    by _ (names synced begun_before none) b = let was = count _ _ begun_before in let one = count _ _ synced.unsynced in let fresh = count _ _ b.fresh in let filling = count _ _ b.filling in let begun = count _ _ b.begun in let unsynced = count _ _ b.unsynced in let sealed = b.sealed in let counts = b.counts in omega (arith, was, one, fresh, filling, begun, unsynced, sealed, counts)
    by _ (begins synced begun_before fresh_before) b = let was = count _ _ begun_before in let used = count _ _ fresh_before in let fresh = count _ _ b.fresh in let filling = count _ _ b.filling in let begun = count _ _ b.begun in let unsynced = count _ _ b.unsynced in let sealed = sealed_by f.filling in let seal = b.sealed in let counts = b.counts in omega (arith, was, used, fresh, filling, begun, unsynced, sealed, seal, counts)
      where
        sealed_by : (x : Bool) → cond x (f.sealed + 1) f.sealed ≡ f.sealed + so_many x
        sealed_by true = omega arith
        sealed_by false = omega arith
    by _ (seals filling_before) b = let was = count _ _ filling_before in let fresh = count _ _ b.fresh in let filling = count _ _ b.filling in let begun = count _ _ b.begun in let unsynced = count _ _ b.unsynced in let sealed = b.sealed in let counts = b.counts in omega (arith, was, fresh, filling, begun, unsynced, sealed, counts)
