-- Two steps one after the other, and what stands where the second one fails.
use Rattle.std.proofs.Common.{◌≡◌, ◌⊎◌, List, Option, Some, None, inl, inr, subst}
use Rattle.std.specs.Prelude.{IfSome, Result, Ok, Err, OnOk, OnErr}
use Rattle.draft_records.specs.disk_model.Content.{Content}
use Rattle.draft_records.specs.plan_draft.declared.touched.Touched.{Touched}

-- ---- where the content is known

pub both_put : (content : Option Content) (P Q : Content → List Touched → List Touched → Type 0) (old mid new : List Touched) → IfSome content (λ c. P c old mid) → IfSome content (λ c. Q c mid new)
    → IfSome content (λ c. (between : List Touched) × (P c old between × Q c between new))
both_put None P Q old mid new first second = tt
both_put (Some c) P Q old mid new first second = (mid, (first, second))

pub either_front : (content : Option Content) (F P Q : Content → List Touched → List Touched → Type 0) (old mid new : List Touched) → IfSome content (λ c. P c old mid) → IfSome content (λ c. Q c mid new)
    → IfSome content (λ c. F c old new ⊎ ((between : List Touched) × (P c old between × Q c between new)))
either_front None F P Q old mid new first second = tt
either_front (Some c) F P Q old mid new first second = inr (mid, (first, second))

pub first_front : (content : Option Content) (F G : Content → Type 0) → IfSome content F → IfSome content (λ c. F c ⊎ G c)
first_front None F G first = tt
first_front (Some c) F G first = inl first

pub any_front : (content : Option Content) (F : Type 0) (G : Content → Type 0) → F → IfSome content (λ c. F ⊎ G c)
any_front None F G first = tt
any_front (Some c) F G first = inl first

-- ---- behind a step that is a function of the content

pub put_behind : (content : Option Content) (made : Content → List Touched) (Q : Content → List Touched → List Touched → Type 0) (mid new : List Touched) → IfSome content (λ c. mid ≡ made c) → IfSome content (λ c. Q c mid new)
    → IfSome content (λ c. Q c (made c) new)
put_behind None made Q mid new is put = tt
put_behind (Some c) made Q mid new is put = subst (λ (t : List Touched). Q c t new) is put

pub front_behind : (content : Option Content) (F : Type 0) (made : Content → List Touched) (Q : Content → List Touched → List Touched → Type 0) (mid new : List Touched) → IfSome content (λ c. mid ≡ made c) → IfSome content (λ c. Q c mid new)
    → IfSome content (λ c. F ⊎ Q c (made c) new)
front_behind None F made Q mid new is put = tt
front_behind (Some c) F made Q mid new is put = inr (subst (λ (t : List Touched). Q c t new) is put)

-- ---- by what a call answered

pub on_err : {T E : Type 0} (r : Result T E) (P : Type 0) → P → OnErr r P
on_err (Ok x) P holds = tt
on_err (Err e) P holds = holds

pub ok_both : {T E : Type 0} (r : Result T E) (content : Option Content) (P Q : Content → List Touched → List Touched → Type 0) (old mid new : List Touched) → IfSome content (λ c. P c old mid) → OnOk r (IfSome content (λ c. Q c mid new))
    → OnOk r (IfSome content (λ c. (between : List Touched) × (P c old between × Q c between new)))
ok_both (Ok x) content P Q old mid new first second = both_put content P Q old mid new first second
ok_both (Err e) content P Q old mid new first second = tt

pub err_either : {T E : Type 0} (r : Result T E) (content : Option Content) (F P Q : Content → List Touched → List Touched → Type 0) (old mid new : List Touched) → IfSome content (λ c. P c old mid) → OnErr r (IfSome content (λ c. Q c mid new))
    → OnErr r (IfSome content (λ c. F c old new ⊎ ((between : List Touched) × (P c old between × Q c between new))))
err_either (Ok x) content F P Q old mid new first second = tt
err_either (Err e) content F P Q old mid new first second = either_front content F P Q old mid new first second
