-- What a plan says of the search before it.
use Rattle.std.proofs.Common.{◌≡◌, ℕ, List, Option, Some, None, Result, Ok, Err, refl, sym, subst}
use Rattle.std.specs.Prelude.{IfSome, IfErr}
use Rattle.index_tree.specs.host_base.Answers.{ExplainsOrFails}
use Rattle.index_tree.proofs.host_base.Known.{one}
use Rattle.record_model.specs.disk_model.Content.{Content}
use Rattle.index_tree.specs.index_model.Walks.{Broken}
use Rattle.index_tree.specs.declared.fault.TreeFault.{TreeFault}
use Rattle.index_tree.specs.declared.fault.TreeFault.TheVariants.{Node, Present, Absent, Deep, View}
use Rattle.index_tree.specs.Faults.{tree_cause}
use Rattle.index_tree.specs.file_tree.declared.link.Link.{Link}
use Rattle.index_change.specs.Faults.{AfterFind, DeepAfterWalk, IsOfView}

broken_of : ℕ → ℕ → Broken
broken_of vcn rule = record { vcn = vcn; rule = rule }

stopped : (T : Type 0) {A : Type 0} (e : TreeFault) (found : Result A Broken) → ExplainsOrFails (tree_cause e) found → AfterFind {T = T} (Err e) found
unfolding broken_of
stopped T {A = A} (Node vcn rule) found h = subst (λ (x : Result A Broken). IfErr x (λ b. b ≡ broken_of vcn rule)) (sym h) refl
stopped T Present found h = absurd h
stopped T Absent found h = absurd h
stopped T (Deep height) found h = absurd h
stopped T (View cause) found h = tt

passed : {T A : Type 0} (r : Result T TreeFault) (found : Result A Broken) (a : A) → found ≡ Ok a → AfterFind r found
unfolding broken_of
passed (Ok x) found a is = (a, is)
passed {A = A} (Err (Node vcn rule)) found a is = subst (λ (x : Result A Broken). IfErr x (λ b. b ≡ broken_of vcn rule)) (sym is) tt
passed (Err Present) found a is = (a, is)
passed (Err Absent) found a is = (a, is)
passed (Err (Deep height)) found a is = (a, is)
passed (Err (View cause)) found a is = tt

-- a search for a name that named a node, and one that named none
pub search_stopped : (T : Type 0) {A : Type 0} (known : Option Content) (f : Content → List ℕ → Result A Broken) (m n : List ℕ) (e : TreeFault) → m ≡ n → IfSome known (λ c. ExplainsOrFails (tree_cause e) (f c m)) → IfSome known (λ c. AfterFind {T = T} (Err e) (f c n))
search_stopped T known f m n e same h =
    subst (λ (x : List ℕ). IfSome known (λ c. AfterFind {T = T} (Err e) (f c x))) same (one known (λ c. ExplainsOrFails (tree_cause e) (f c m)) (λ c. AfterFind {T = T} (Err e) (f c m)) (λ c p. stopped T e (f c m) p) h)

pub search_passed : {T A : Type 0} (known : Option Content) (r : Result T TreeFault) (f : Content → List ℕ → Result A Broken) (m n : List ℕ) (a : A) → m ≡ n → IfSome known (λ c. f c m ≡ Ok a) → IfSome known (λ c. AfterFind r (f c n))
search_passed known r f m n a same h =
    subst (λ (x : List ℕ). IfSome known (λ c. AfterFind r (f c x))) same (one known (λ c. f c m ≡ Ok a) (λ c. AfterFind r (f c m)) (λ c is. passed r (f c m) a is) h)

-- an index that was walked may be too deep
pub deep_walked : (T : Type 0) (known : Option Content) (height : ℕ) (f : Content → Result (List Link) Broken) (links : List Link)
    → IfSome known (λ c. f c ≡ Ok links) → IfSome known (λ c. DeepAfterWalk {T = T} (Err (Deep height)) (f c))
deep_walked T known height f links h = one known (λ c. f c ≡ Ok links) (λ c. DeepAfterWalk {T = T} (Err (Deep height)) (f c)) (λ c e. (links, e)) h

-- a plan, and a failure of the view, say nothing of a walk
pub view_walked : {T A : Type 0} (known : Option Content) (r : Result T TreeFault) (f : Content → Result A Broken) → IfErr r IsOfView → IfSome known (λ c. DeepAfterWalk r (f c))
view_walked None r f h = tt
view_walked (Some c) (Ok x) f h = tt
view_walked (Some c) (Err (View cause)) f h = tt
view_walked (Some c) (Err (Node vcn rule)) f h = absurd h
view_walked (Some c) (Err Present) f h = absurd h
view_walked (Some c) (Err Absent) f h = absurd h
view_walked (Some c) (Err (Deep height)) f h = absurd h

-- ---- what two plans say alike

after_as : (T S : Type 0) {A : Type 0} (e : TreeFault) (found : Result A Broken) → AfterFind {T = T} (Err e) found → AfterFind {T = S} (Err e) found
after_as T S (Node vcn rule) found h = h
after_as T S Present found h = h
after_as T S Absent found h = h
after_as T S (Deep height) found h = h
after_as T S (View cause) found h = h

pub search_as : (T S : Type 0) {A : Type 0} (known : Option Content) (e : TreeFault) (f : Content → Result A Broken) → IfSome known (λ c. AfterFind {T = T} (Err e) (f c)) → IfSome known (λ c. AfterFind {T = S} (Err e) (f c))
search_as T S known e f h = one known (λ c. AfterFind {T = T} (Err e) (f c)) (λ c. AfterFind {T = S} (Err e) (f c)) (λ c p. after_as T S e (f c) p) h

deep_as : (T S : Type 0) {A : Type 0} (e : TreeFault) (walked : Result A Broken) → DeepAfterWalk {T = T} (Err e) walked → DeepAfterWalk {T = S} (Err e) walked
deep_as T S (Node vcn rule) walked h = h
deep_as T S Present walked h = h
deep_as T S Absent walked h = h
deep_as T S (Deep height) walked h = h
deep_as T S (View cause) walked h = h

pub walk_as : (T S : Type 0) {A : Type 0} (known : Option Content) (e : TreeFault) (f : Content → Result A Broken) → IfSome known (λ c. DeepAfterWalk {T = T} (Err e) (f c)) → IfSome known (λ c. DeepAfterWalk {T = S} (Err e) (f c))
walk_as T S known e f h = one known (λ c. DeepAfterWalk {T = T} (Err e) (f c)) (λ c. DeepAfterWalk {T = S} (Err e) (f c)) (λ c p. deep_as T S e (f c) p) h
