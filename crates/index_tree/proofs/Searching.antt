-- Steps of a search, one after the other, over a content that may be known.
use Rattle.std.proofs.Common.{◌≡◌, ℕ, zero, suc, ◌+◌, ◌<◌, ◌≤◌, true, false, List, [], ◌∷◌, ◌++◌, length, get_or, drop, drop-cons, Option, Result, Ok, refl, sym, ap, ◌∙◌, subst, add-one}
use Rattle.std.specs.Prelude.{IfSome}
use Rattle.volume_model.specs.host_base.Answers.{◌>>=◌, ExplainsOrFails}
use Rattle.volume_model.proofs.host_base.Known.{both, one}
use Rattle.stream_map.specs.disk_model.Content.{Content}
use Rattle.stream_map.specs.record_model.declared.entry.Entry.{Entry}
use Rattle.index_model.specs.declared.side.Side.{Side}
use Rattle.index_model.specs.declared.side.Side.TheVariants.{Unnamed, Before, Same, Behind}
use Rattle.index_model.specs.Indexes.{Place, entry_link}
use Rattle.index_model.specs.Walks.{Broken, Event, Met, all_judged, below, behind, side_of, entry_sought, kid_sought, sought_in}
use Rattle.index_model.proofs.Steps.{all_judged-append}
use Rattle.index_tree.specs.declared.fault.TreeFault.{TreeFault}
use Rattle.index_tree.specs.Faults.{tree_cause, is_behind}
use Rattle.index_tree.proofs.Steps.{err_bound, none_left}

abbrev pub Reader : Type 0
Reader = ℕ → Result (List Entry) ℕ

-- the side of an entry
abbrev pub side_at : List ℕ → List ℕ → Entry → Side
side_at upper name e = side_of upper name (entry_link e)

-- what is met at an entry
abbrev pub met_at : List ℕ → List ℕ → Reader → ℕ → ℕ → Entry → List Event
met_at upper name read levels v e = entry_sought (side_of upper name (entry_link e)) (entry_link e) (below (kid_sought upper name read levels v) e.down)

pub sought_next : (upper name : List ℕ) (read : Reader) (levels v : ℕ) (e : Entry) (entries : List Entry) → sought_in upper name read levels v (e ∷ entries) ≡ met_at upper name read levels v e ++ behind (side_at upper name e) (sought_in upper name read levels v entries)
unfolding sought_in
sought_next upper name read zero v e entries = refl
sought_next upper name read (suc levels) v e entries = refl

pub sought_end : (upper name : List ℕ) (read : Reader) (levels v : ℕ) → sought_in upper name read levels v [] ≡ []
unfolding sought_in
sought_end upper name read zero v = refl
sought_end upper name read (suc levels) v = refl

behind_on : (s : Side) (later : List Event) → is_behind s ≡ false → behind s later ≡ later
behind_on Unnamed later h = refl
behind_on Before later h = refl
behind_on Same later h = refl
behind_on Behind later h = absurd cc

behind_off : (s : Side) (later : List Event) → is_behind s ≡ true → behind s later ≡ []
behind_off Unnamed later h = absurd cc
behind_off Before later h = absurd cc
behind_off Same later h = absurd cc
behind_off Behind later h = refl

-- the events of the entry at a place, and then those behind it
place_next : (p : Place) (upper name : List ℕ) (m : Met) (read : Reader) (levels v : ℕ) (entries : List Entry) (k : ℕ) (e : Entry) → k < length entries → e ≡ get_or entries k e
    → all_judged p upper m (sought_in upper name read levels v (drop k entries)) ≡ all_judged p upper m (met_at upper name read levels v e) >>= λ n. all_judged p upper n (behind (side_at upper name e) (sought_in upper name read levels v (drop (k + 1) entries)))
place_next p upper name m read levels v entries k e inside is =
    let here : drop k entries ≡ e ∷ drop (k + 1) entries = rw (add-one) (drop-cons entries k e inside ∙ ap (λ x. x ∷ drop (suc k) entries) (sym is)) in
    ap (λ es. all_judged p upper m (sought_in upper name read levels v es)) here
    ∙ ap (all_judged p upper m) (sought_next upper name read levels v e (drop (k + 1) entries))
    ∙ all_judged-append p upper m (met_at upper name read levels v e) (behind (side_at upper name e) (sought_in upper name read levels v (drop (k + 1) entries)))

-- what the entries that are left give is what all give
abbrev Rest : Option Content → Place → List ℕ → List ℕ → Met → Met → (Content → Reader) → ℕ → ℕ → List Entry → ℕ → Type 0
Rest known p upper name m first read levels v entries k = IfSome known (λ c. all_judged p upper m (sought_in upper name (read c) levels v (drop k entries)) ≡ all_judged p upper first (sought_in upper name (read c) levels v entries))

pub place_fails : (known now : Option Content) (p : Place) (upper name : List ℕ) (m first : Met) (read : Content → Reader) (levels v : ℕ) (entries : List Entry) (k : ℕ) (e : Entry) (fault : TreeFault) → now ≡ known → k < length entries → e ≡ get_or entries k e
    → Rest known p upper name m first read levels v entries k
    → IfSome now (λ c. ExplainsOrFails (tree_cause fault) (all_judged p upper m (met_at upper name (read c) levels v e)))
    → IfSome known (λ c. ExplainsOrFails (tree_cause fault) (all_judged p upper first (sought_in upper name (read c) levels v entries)))
place_fails known now p upper name m first read levels v entries k e fault same inside is rest fails =
    both known _ _ _ (λ c r f. subst (λ x. ExplainsOrFails (tree_cause fault) x) (sym (place_next p upper name m (read c) levels v entries k e inside is) ∙ r) (err_bound (tree_cause fault) _ _ f)) rest
    (subst (λ x. IfSome x (λ c. ExplainsOrFails (tree_cause fault) (all_judged p upper m (met_at upper name (read c) levels v e)))) same fails)

gone : (p : Place) (upper name : List ℕ) (m n : Met) (read : Reader) (levels v : ℕ) (entries : List Entry) (k : ℕ) (e : Entry) (later : List Event) → k < length entries → e ≡ get_or entries k e
    → behind (side_at upper name e) (sought_in upper name read levels v (drop (k + 1) entries)) ≡ later → all_judged p upper m (met_at upper name read levels v e) ≡ Ok n → all_judged p upper n later ≡ all_judged p upper m (sought_in upper name read levels v (drop k entries))
gone p upper name m n read levels v entries k e later inside is end passes =
    ap (all_judged p upper n) (sym end)
    ∙ ap (λ (x : Result Met Broken). x >>= λ i. all_judged p upper i (behind (side_at upper name e) (sought_in upper name read levels v (drop (k + 1) entries)))) (sym passes)
    ∙ sym (place_next p upper name m read levels v entries k e inside is)

pub place_passes : (known now : Option Content) (p : Place) (upper name : List ℕ) (m n first : Met) (read : Content → Reader) (levels v : ℕ) (entries : List Entry) (k : ℕ) (e : Entry) → now ≡ known → k < length entries → e ≡ get_or entries k e → is_behind (side_at upper name e) ≡ false
    → Rest known p upper name m first read levels v entries k
    → IfSome now (λ c. all_judged p upper m (met_at upper name (read c) levels v e) ≡ Ok n)
    → Rest known p upper name n first read levels v entries (k + 1)
place_passes known now p upper name m n first read levels v entries k e same inside is on rest passes =
    both known _ _ _ (λ c r f. gone p upper name m n (read c) levels v entries k e _ inside is (behind_on (side_at upper name e) _ on) f ∙ r) rest
    (subst (λ x. IfSome x (λ c. all_judged p upper m (met_at upper name (read c) levels v e) ≡ Ok n)) same passes)

pub place_ends : (known now : Option Content) (p : Place) (upper name : List ℕ) (m n first : Met) (read : Content → Reader) (levels v : ℕ) (entries : List Entry) (k : ℕ) (e : Entry) → now ≡ known → k < length entries → e ≡ get_or entries k e → is_behind (side_at upper name e) ≡ true
    → Rest known p upper name m first read levels v entries k
    → IfSome now (λ c. all_judged p upper m (met_at upper name (read c) levels v e) ≡ Ok n)
    → IfSome known (λ c. all_judged p upper first (sought_in upper name (read c) levels v entries) ≡ Ok n)
place_ends known now p upper name m n first read levels v entries k e same inside is off rest passes =
    both known _ _ _ (λ c r f. sym (gone p upper name m n (read c) levels v entries k e [] inside is (behind_off (side_at upper name e) _ off) f ∙ r)) rest
    (subst (λ x. IfSome x (λ c. all_judged p upper m (met_at upper name (read c) levels v e) ≡ Ok n)) same passes)

pub places_done : (known : Option Content) (p : Place) (upper name : List ℕ) (m first : Met) (read : Content → Reader) (levels v : ℕ) (entries : List Entry) (k : ℕ) → length entries ≤ k
    → Rest known p upper name m first read levels v entries k
    → IfSome known (λ c. all_judged p upper first (sought_in upper name (read c) levels v entries) ≡ Ok m)
places_done known p upper name m first read levels v entries k end rest =
    one known _ _ (λ c r. sym r ∙ ap (λ es. all_judged p upper m (sought_in upper name (read c) levels v es)) (none_left entries k end) ∙ ap (all_judged p upper m) (sought_end upper name (read c) levels v)) rest
