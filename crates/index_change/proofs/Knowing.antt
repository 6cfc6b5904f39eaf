-- What is known of a content, and of a function of it.
use Rattle.std.proofs.Common.{◌≡◌, ℕ, ◌≤◌, List, [], Option, Some, None, Result, Ok, Err, ap, ◌∙◌, subst}
use Rattle.std.specs.Prelude.{IfErr, IfOk, IfSome}
use Rattle.std.specs.Option.{option_map}
use Rattle.index_plan.specs.declared.fault.PlanFault.{PlanFault}
use Rattle.index_plan.specs.declared.fault.PlanFault.TheVariants.{Node, Absent, Deep, Failed, Memory}
use Rattle.index_plan.specs.Faults.{OnDeep}
use Rattle.index_plan.specs.Plans.{Plan}
use Rattle.index_plan.specs.declared.write.Write.{Write}

pub mapped : {A B : Type 0} (o : Option A) (f : A → B) (P : B → Type 0) → IfSome (option_map f o) P → IfSome o (λ a. P (f a))
mapped None f P h = tt
mapped (Some a) f P h = h

pub swap : {A B X E : Type 0} (o : Option A) (f : A → B) (r : Result X E) (P : B → X → Type 0) → IfOk r (λ x. IfSome (option_map f o) (λ b. P b x)) → IfSome o (λ a. IfOk r (P (f a)))
swap None f r P h = tt
swap (Some a) f (Ok x) P h = h
swap (Some a) f (Err e) P h = tt

pub deep_mapped : {A B : Type 0} (o : Option A) (f : A → B) (e : PlanFault) (height : ℕ) (P : B → Type 0) → OnDeep e (λ h. (h ≡ height) × (16 ≤ height) × IfSome (option_map f o) P) → OnDeep e (λ h. (h ≡ height) × (16 ≤ height) × IfSome o (λ a. P (f a)))
deep_mapped o f (Deep h) height P (a, b, c) = (a, b, mapped o f P c)
deep_mapped o f (Node vcn rule) height P h = tt
deep_mapped o f Absent height P h = tt
deep_mapped o f Failed height P h = tt
deep_mapped o f Memory height P h = tt

pub err_mapped : {A B X : Type 0} (o : Option A) (f : A → B) (r : Result X PlanFault) (height : ℕ) (P : B → Type 0) → IfErr r (λ e. OnDeep e (λ h. (h ≡ height) × (16 ≤ height) × IfSome (option_map f o) P)) → IfErr r (λ e. OnDeep e (λ h. (h ≡ height) × (16 ≤ height) × IfSome o (λ a. P (f a))))
err_mapped o f (Ok x) height P h = tt
err_mapped o f (Err e) height P h = deep_mapped o f e height P h

pub swap_if : {A B X E : Type 0} (o : Option A) (f : A → B) (r : Result X E) (Q : Type 0) (P : B → X → Type 0) → IfOk r (λ x. Q → IfSome (option_map f o) (λ b. P b x)) → IfSome o (λ a. IfOk r (λ x. Q → P (f a) x))
swap_if None f r Q P h = tt
swap_if (Some a) f (Ok x) Q P h = h
swap_if (Some a) f (Err e) Q P h = tt

draft : List Write → List ℕ → Plan
draft writes fresh = record { writes = writes; fresh = fresh }

-- a plan that writes nothing yet
pub draft_is : (d : Plan) (fresh : List ℕ) → d.writes ≡ [] → d.fresh ≡ fresh → d ≡ record { writes = []; fresh = fresh }
unfolding draft
draft_is d fresh none is = ap (λ (w : List Write). draft w d.fresh) none ∙ ap (λ (f : List ℕ). draft [] f) is

-- a fact of three values that are others
pub along : {A B C : Type 0} (P : A → B → C → Type 0) (a a' : A) (b b' : B) (d d' : C) → a ≡ a' → b ≡ b' → d ≡ d' → P a b d → P a' b' d'
along P a a' b b' d d' e f g h = subst (P a' b') g (subst (λ y. P a' y d) f (subst (λ x. P x b d) e h))
