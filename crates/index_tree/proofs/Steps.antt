-- Steps of a walk, one after the other, over a content that may be known.
use Rattle.std.proofs.Common.{◌≡◌, ℕ, zero, suc, ◌+◌, ◌<◌, ◌≤◌, List, [], ◌∷◌, ◌++◌, length, get_or, drop, drop-cons, Option, Result, Ok, Err, refl, sym, ap, ◌∙◌, subst, add-one, arith}
use Rattle.std.specs.Prelude.{IfSome}
use Rattle.volume_model.specs.host_base.Answers.{◌>>=◌, Cause, refused, no_memory, failed, never, Explains, ExplainsOrFails, Gives, GivesOrFails}
use Rattle.volume_model.specs.host_base.Causes.{CountsCause}
use Rattle.volume_model.proofs.host_base.Known.{both, one, always}
use Rattle.stream_map.specs.disk_model.Content.{Content}
use Rattle.stream_map.specs.record_model.declared.entry.Entry.{Entry}
use Rattle.index_model.specs.Indexes.{Place}
use Rattle.index_model.specs.Walks.{Broken, Event, Met, all_judged, entry_met, kid_met, met_in, met_from, nothing_met, root_vcn}
use Rattle.index_model.proofs.Steps.{all_judged-append, met_in_next, met_in_end}
use Rattle.index_tree.specs.declared.fault.TreeFault.{TreeFault}
use Rattle.index_tree.specs.Faults.{tree_cause, broken_at, FailsByView}

-- ---- errors

pub err_bound : {A B : Type 0} (cause : Cause Broken) (f : Result A Broken) (g : A → Result B Broken) → ExplainsOrFails cause f → ExplainsOrFails cause (f >>= g)
err_bound (refused b) f g h = ap (λ x. x >>= g) h
err_bound no_memory f g h = h
err_bound failed f g h = h
err_bound never f g h = h

pub or_fails : {A : Type 0} (cause : Cause Broken) (meant : Result A Broken) → Explains cause meant → ExplainsOrFails cause meant
or_fails (refused b) meant h = h
or_fails no_memory meant h = h
or_fails failed meant h = absurd h
or_fails never meant h = absurd h

-- a call that reads no view fails by none
no_view : {A : Type 0} (before now : ℕ) (cause : Cause Broken) (meant : Result A Broken) → now ≡ before → Explains cause meant → CountsCause before now cause
no_view before now (refused b) meant same h = same
no_view before now no_memory meant same h = same
no_view before now failed meant same h = absurd h
no_view before now never meant same h = absurd h

pub quiet : {X A : Type 0} (before now : ℕ) (view : X → A) (result : Result X TreeFault) (meant : Result A Broken) → now ≡ before → Gives view tree_cause result meant → FailsByView before now result
quiet before now view (Ok x) meant same h = record { later = omega arith; counted = same }
quiet before now view (Err e) meant same h = record { later = omega arith; counted = no_view before now (tree_cause e) meant same h }

pub quiet_err : {X A : Type 0} (before now : ℕ) (e : TreeFault) (meant : Result A Broken) → now ≡ before → Explains (tree_cause e) meant → FailsByView {T = X} before now (Err e)
quiet_err before now e meant same h = record { later = omega arith; counted = no_view before now (tree_cause e) meant same h }

-- ---- events one after the other

-- the event of the entry at a place, and then those behind it
entry_next : (p : Place) (upper : List ℕ) (m : Met) (read : ℕ → Result (List Entry) ℕ) (levels v : ℕ) (entries : List Entry) (k : ℕ) (e : Entry) → k < length entries → e ≡ get_or entries k e
    → all_judged p upper m (met_in read levels v (drop k entries)) ≡ all_judged p upper m (entry_met (kid_met read levels v) v e) >>= λ n. all_judged p upper n (met_in read levels v (drop (k + 1) entries))
entry_next p upper m read levels v entries k e inside is =
    let here : drop k entries ≡ e ∷ drop (k + 1) entries = rw (add-one) (drop-cons entries k e inside ∙ ap (λ x. x ∷ drop (suc k) entries) (sym is)) in
    ap (λ es. all_judged p upper m (met_in read levels v es)) here
    ∙ ap (all_judged p upper m) (met_in_next read levels v e (drop (k + 1) entries))
    ∙ all_judged-append p upper m (entry_met (kid_met read levels v) v e) (met_in read levels v (drop (k + 1) entries))

-- ---- of a content that may be known

pub entry_fails : (known now : Option Content) (p : Place) (upper : List ℕ) (m first : Met) (read : Content → ℕ → Result (List Entry) ℕ) (levels v : ℕ) (entries : List Entry) (k : ℕ) (e : Entry) (fault : TreeFault) → now ≡ known → k < length entries → e ≡ get_or entries k e
    → IfSome known (λ c. all_judged p upper m (met_in (read c) levels v (drop k entries)) ≡ all_judged p upper first (met_in (read c) levels v entries))
    → IfSome now (λ c. ExplainsOrFails (tree_cause fault) (all_judged p upper m (entry_met (kid_met (read c) levels v) v e)))
    → IfSome known (λ c. ExplainsOrFails (tree_cause fault) (all_judged p upper first (met_in (read c) levels v entries)))
entry_fails known now p upper m first read levels v entries k e fault same inside is rest fails =
    both known _ _ _ (λ c r f. subst (λ x. ExplainsOrFails (tree_cause fault) x) (sym (entry_next p upper m (read c) levels v entries k e inside is) ∙ r) (err_bound (tree_cause fault) _ _ f)) rest
    (subst (λ x. IfSome x (λ c. ExplainsOrFails (tree_cause fault) (all_judged p upper m (entry_met (kid_met (read c) levels v) v e)))) same fails)

pub entry_passes : (known now : Option Content) (p : Place) (upper : List ℕ) (m n first : Met) (read : Content → ℕ → Result (List Entry) ℕ) (levels v : ℕ) (entries : List Entry) (k : ℕ) (e : Entry) → now ≡ known → k < length entries → e ≡ get_or entries k e
    → IfSome known (λ c. all_judged p upper m (met_in (read c) levels v (drop k entries)) ≡ all_judged p upper first (met_in (read c) levels v entries))
    → IfSome now (λ c. all_judged p upper m (entry_met (kid_met (read c) levels v) v e) ≡ Ok n)
    → IfSome known (λ c. all_judged p upper n (met_in (read c) levels v (drop (k + 1) entries)) ≡ all_judged p upper first (met_in (read c) levels v entries))
entry_passes known now p upper m n first read levels v entries k e same inside is rest passes =
    both known _ _ _ (λ c r f. ap (λ (x : Result Met Broken). x >>= λ i. all_judged p upper i (met_in (read c) levels v (drop (k + 1) entries))) (sym f) ∙ sym (entry_next p upper m (read c) levels v entries k e inside is) ∙ r) rest
    (subst (λ x. IfSome x (λ c. all_judged p upper m (entry_met (kid_met (read c) levels v) v e) ≡ Ok n)) same passes)

pub none_left : (entries : List Entry) (k : ℕ) → length entries ≤ k → drop k entries ≡ []
none_left [] zero h = refl
none_left [] (suc k) h = refl
none_left (e ∷ entries) zero h = absurd (omega arith)
none_left (e ∷ entries) (suc k) h = none_left entries k (omega arith)

pub entries_done : (known : Option Content) (p : Place) (upper : List ℕ) (m first : Met) (read : Content → ℕ → Result (List Entry) ℕ) (levels v : ℕ) (entries : List Entry) (k : ℕ) → length entries ≤ k
    → IfSome known (λ c. all_judged p upper m (met_in (read c) levels v (drop k entries)) ≡ all_judged p upper first (met_in (read c) levels v entries))
    → IfSome known (λ c. all_judged p upper first (met_in (read c) levels v entries) ≡ Ok m)
entries_done known p upper m first read levels v entries k end rest =
    one known _ _ (λ c r. sym r ∙ ap (λ es. all_judged p upper m (met_in (read c) levels v es)) (none_left entries k end) ∙ ap (all_judged p upper m) (met_in_end (read c) levels v)) rest

-- two lists of events, one after the other
pub first_fails : (known : Option Content) (p : Place) (upper : List ℕ) (m : Met) (xs ys : Content → List Event) (fault : TreeFault)
    → IfSome known (λ c. ExplainsOrFails (tree_cause fault) (all_judged p upper m (xs c))) → IfSome known (λ c. ExplainsOrFails (tree_cause fault) (all_judged p upper m (xs c ++ ys c)))
first_fails known p upper m xs ys fault h =
    one known _ _ (λ c f. subst (λ x. ExplainsOrFails (tree_cause fault) x) (sym (all_judged-append p upper m (xs c) (ys c))) (err_bound (tree_cause fault) _ _ f)) h

pub second_gives : {X : Type 0} (known : Option Content) (p : Place) (upper : List ℕ) (m n : Met) (xs : Content → List Event) (ys : List Event) (view : X → Met) (result : Result X TreeFault)
    → IfSome known (λ c. all_judged p upper m (xs c) ≡ Ok n) → Gives view tree_cause result (all_judged p upper n ys) → IfSome known (λ c. GivesOrFails view tree_cause result (all_judged p upper m (xs c ++ ys)))
second_gives {X} known p upper m n xs ys view result first second =
    one known _ _ (λ c f. subst (λ x. GivesOrFails view tree_cause result x) (sym (all_judged-append p upper m (xs c) ys ∙ ap (λ (x : Result Met Broken). x >>= λ i. all_judged p upper i ys) f)) (or_gives result second)) first
  where
    or_gives : (r : Result X TreeFault) → Gives view tree_cause r (all_judged p upper n ys) → GivesOrFails view tree_cause r (all_judged p upper n ys)
    or_gives (Ok x) h = h
    or_gives (Err e) h = or_fails (tree_cause e) _ h

pub second_fails : (known : Option Content) (p : Place) (upper : List ℕ) (m n : Met) (xs : Content → List Event) (ys : List Event) (fault : TreeFault)
    → IfSome known (λ c. all_judged p upper m (xs c) ≡ Ok n) → Explains (tree_cause fault) (all_judged p upper n ys) → IfSome known (λ c. ExplainsOrFails (tree_cause fault) (all_judged p upper m (xs c ++ ys)))
second_fails known p upper m n xs ys fault first second =
    one known _ _ (λ c f. subst (λ x. ExplainsOrFails (tree_cause fault) x) (sym (all_judged-append p upper m (xs c) ys ∙ ap (λ (x : Result Met Broken). x >>= λ i. all_judged p upper i ys) f)) (or_fails (tree_cause fault) _ second)) first

pub second_passes : (known : Option Content) (p : Place) (upper : List ℕ) (m n k : Met) (xs : Content → List Event) (ys : List Event)
    → IfSome known (λ c. all_judged p upper m (xs c) ≡ Ok n) → all_judged p upper n ys ≡ Ok k → IfSome known (λ c. all_judged p upper m (xs c ++ ys) ≡ Ok k)
second_passes known p upper m n k xs ys first second =
    one known _ _ (λ c f. all_judged-append p upper m (xs c) ys ∙ ap (λ (x : Result Met Broken). x >>= λ i. all_judged p upper i ys) f ∙ second) first

-- ---- from the root

root_explained : (p : Place) (upper : List ℕ) (met : List Entry → List Event) (cause : Cause Broken) (root : Result (List Entry) ℕ) → Explains cause (broken_at root_vcn root) → ExplainsOrFails cause (met_from p upper met root)
root_explained p upper met (refused b) (Ok entries) h = absurd cc
root_explained p upper met (refused b) (Err rule) h = cc
root_explained p upper met no_memory root h = h
root_explained p upper met failed root h = absurd h
root_explained p upper met never root h = absurd h

pub root_fails : (known : Option Content) (p : Place) (upper : List ℕ) (met : Content → List Entry → List Event) (fault : TreeFault) (root : Result (List Entry) ℕ) → Explains (tree_cause fault) (broken_at root_vcn root) → IfSome known (λ c. ExplainsOrFails (tree_cause fault) (met_from p upper (met c) root))
root_fails known p upper met fault root h = always known _ (λ c. root_explained p upper (met c) (tree_cause fault) root h)

met_of_root : (p : Place) (upper : List ℕ) (met : List Entry → List Event) (root : Result (List Entry) ℕ) (entries : List Entry) → broken_at root_vcn root ≡ Ok entries → met_from p upper met root ≡ all_judged p upper (nothing_met p) (met entries) >>= λ m. Ok m.links
met_of_root p upper met (Ok others) entries e = let same : others ≡ entries = cc in ap (λ es. all_judged p upper (nothing_met p) (met es) >>= λ m. Ok m.links) same
met_of_root p upper met (Err rule) entries e = absurd cc

pub below_root_fails : (known : Option Content) (p : Place) (upper : List ℕ) (met : Content → List Entry → List Event) (fault : TreeFault) (root : Result (List Entry) ℕ) (entries : List Entry) (start : Met) → broken_at root_vcn root ≡ Ok entries → start ≡ nothing_met p
    → IfSome known (λ c. ExplainsOrFails (tree_cause fault) (all_judged p upper start (met c entries))) → IfSome known (λ c. ExplainsOrFails (tree_cause fault) (met_from p upper (met c) root))
below_root_fails known p upper met fault root entries start is starts fails =
    one known _ _ (λ c f. subst (λ x. ExplainsOrFails (tree_cause fault) x) (ap (λ n. all_judged p upper n (met c entries) >>= λ m. Ok m.links) starts ∙ sym (met_of_root p upper (met c) root entries is)) (err_bound (tree_cause fault) _ _ f)) fails

pub all_met : (known : Option Content) (p : Place) (upper : List ℕ) (met : Content → List Entry → List Event) (root : Result (List Entry) ℕ) (entries : List Entry) (start m : Met) → broken_at root_vcn root ≡ Ok entries → start ≡ nothing_met p
    → IfSome known (λ c. all_judged p upper start (met c entries) ≡ Ok m) → IfSome known (λ c. met_from p upper (met c) root ≡ Ok m.links)
all_met known p upper met root entries start m is starts passes =
    one known _ _ (λ c f. met_of_root p upper (met c) root entries is ∙ ap (λ n. all_judged p upper n (met c entries) >>= λ m. Ok m.links) (sym starts) ∙ ap (λ (x : Result Met Broken). x >>= λ m. Ok m.links) f) passes
