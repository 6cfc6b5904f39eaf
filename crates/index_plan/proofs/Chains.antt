-- The deepest node of a chain, and the deepest one on the way.
use Rattle.std.proofs.Common.{◌≡◌, ℕ, ◌≤◌, ◌<◌, Bool, List, [], ◌∷◌, ◌++◌, Option, Some, None, refl, sym, ap, ◌∙◌, length, if◌then◌else◌}
use Rattle.index_model.specs.declared.key.Key.{Key}
use Rattle.record_model.specs.declared.entry.Entry.{Entry as Raw}
use Rattle.index_plan.specs.declared.write.Write.{Write}
use Rattle.index_plan.specs.Plans.{Plan, Spot}
use Rattle.index_plan.specs.Lists.{Rise, settle, step, rise, rooted, overfull}
use Rattle.index_plan.specs.Takings.{Taken, Drawn, taken_from, drawn_by, drawn, instead, climbed, removed, too_full}
use Rattle.index_plan.proofs.Mirror.{lt_test, ge_test}

abbrev pub begun : List ℕ → Drawn
begun freed = record { taken = None; freed = freed }

drawn_last : (d : Drawn) (chain : List Write) (n : Write) → drawn d (chain ++ n ∷ []) ≡ drawn (drawn_by n d.freed d.taken) chain
drawn_last d [] n = refl
drawn_last d (m ∷ chain) n = ap (λ (x : Drawn). drawn_by m x.freed x.taken) (drawn_last d chain n)

drawn_done : (k : Taken) (freed : List ℕ) (chain : List Write) → drawn (record { taken = Some k; freed = freed }) chain ≡ record { taken = Some k; freed = freed }
drawn_done k freed [] = refl
drawn_done k freed (m ∷ chain) = ap (λ (x : Drawn). drawn_by m x.freed x.taken) (drawn_done k freed chain)

abbrev if_drawn : Bool → Drawn → Drawn → Drawn
if_drawn b x y = if b then x else y

pub more : (freed : List ℕ) (chain front : List Write) (n : Write) → 1 < length n.entries → chain ≡ front ++ n ∷ [] → drawn (begun freed) chain ≡ record { taken = Some (taken_from n); freed = freed }
more freed chain front n h e =
    ap (drawn (begun freed)) e ∙ drawn_last (begun freed) front n
    ∙ ap (λ (b : Bool). drawn (if_drawn b (record { taken = Some (taken_from n); freed = freed }) (begun (n.vcn ∷ freed))) front) (lt_test 1 (length n.entries) h)
    ∙ drawn_done (taken_from n) freed front

pub less : (freed : List ℕ) (chain front : List Write) (n : Write) → length n.entries ≤ 1 → chain ≡ front ++ n ∷ [] → drawn (begun freed) chain ≡ drawn (begun (n.vcn ∷ freed)) front
less freed chain front n h e =
    ap (drawn (begun freed)) e ∙ drawn_last (begun freed) front n
    ∙ ap (λ (b : Bool). drawn (if_drawn b (record { taken = Some (taken_from n); freed = freed }) (begun (n.vcn ∷ freed))) front) (ge_test 1 (length n.entries) h)

-- ---- the way

climbed_last : (key : Option Key) (plan : Plan) (n m : Spot) (front : List Spot) → climbed key plan n (front ++ m ∷ []) ≡ step n (rise front (settle m.vcn (instead m.at m.node key) plan))
climbed_last key plan n m [] = refl
climbed_last key plan n m (q ∷ front) = ap (step n) (climbed_last key plan q m front)

removed_last : (room : ℕ) (root : List Raw) (at : ℕ) (front : List Spot) (m : Spot) (key : Option Key) (plan : Plan) → removed room root at (front ++ m ∷ []) key plan ≡ rooted room root at (rise front (settle m.vcn (instead m.at m.node key) plan))
unfolding removed
removed_last room root at [] m key plan = refl
removed_last room root at (n ∷ front) m key plan = ap (rooted room root at) (climbed_last key plan n m front)

full_last : (room : ℕ) (root : List Raw) (at : ℕ) (front : List Spot) (m : Spot) (key : Option Key) (plan : Plan) → too_full room root at (front ++ m ∷ []) key plan ≡ overfull room root at (rise front (settle m.vcn (instead m.at m.node key) plan))
unfolding too_full
full_last room root at [] m key plan = refl
full_last room root at (n ∷ front) m key plan = ap (overfull room root at) (climbed_last key plan n m front)

pub removed_is : (room : ℕ) (root : List Raw) (at : ℕ) (path front : List Spot) (m : Spot) (key : Option Key) (plan : Plan) (r s : Rise) → path ≡ front ++ m ∷ [] → settle m.vcn (instead m.at m.node key) plan ≡ r → rise front r ≡ s → rooted room root at s ≡ removed room root at path key plan
removed_is room root at path front m key plan r s e f g = ap (rooted room root at) (sym (ap (rise front) f ∙ g)) ∙ sym (removed_last room root at front m key plan) ∙ ap (λ (l : List Spot). removed room root at l key plan) (sym e)

pub full_is : (room : ℕ) (root : List Raw) (at : ℕ) (path front : List Spot) (m : Spot) (key : Option Key) (plan : Plan) (r s : Rise) → path ≡ front ++ m ∷ [] → settle m.vcn (instead m.at m.node key) plan ≡ r → rise front r ≡ s → overfull room root at s ≡ too_full room root at path key plan
full_is room root at path front m key plan r s e f g = ap (overfull room root at) (sym (ap (rise front) f ∙ g)) ∙ sym (full_last room root at front m key plan) ∙ ap (λ (l : List Spot). too_full room root at l key plan) (sym e)
