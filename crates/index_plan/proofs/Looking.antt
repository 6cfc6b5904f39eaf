-- The search for a key, step by step.
use Rattle.std.proofs.Common.{◌≡◌, ℕ, suc, ◌+◌, ◌≤◌, ◌<◌, length, drop, Bool, true, false, List, Option, Some, None, Result, Ok, Err, refl, sym, ap, ◌∙◌, add-one, if◌then◌else◌}
use Rattle.std.specs.Prelude.{IfSome}
use Rattle.std.proofs.lemmas.List.{drop_all}
use Rattle.index_model.specs.host_base.Answers.{◌>>=◌, ExplainsOrFails}
use Rattle.record_model.specs.declared.entry.Entry.{Entry as Raw}
use Rattle.index_model.specs.declared.key.Key.{Key}
use Rattle.index_model.specs.Walks.{Broken}
use Rattle.index_plan.specs.declared.fault.PlanFault.{PlanFault}
use Rattle.index_plan.specs.declared.write.Write.{Write}
use Rattle.index_plan.specs.declared.side.KeySide.{KeySide}
use Rattle.index_plan.specs.declared.look.Look.{Look}
use Rattle.index_plan.specs.declared.look.Look.TheVariants as looks
use Rattle.index_plan.specs.declared.place.Place.{Place}
use Rattle.index_plan.specs.Plans.{Trail}
use Rattle.index_plan.specs.Lists.{entry_at}
use Rattle.index_plan.specs.Faults.{way_cause}
use Rattle.index_plan.specs.Reading.{NodeReads, read_by}
use Rattle.index_plan.specs.Seeking.{is_behind, side_of, own_look, look_by, look_at, after_look, seek_from, with_spot, seek_down, seek_in, chain_down}
use Rattle.index_plan.proofs.Entries.{at_front}
use Rattle.index_plan.proofs.Steps.{ends, by_one, by_two}

-- ---- one entry

abbrev pub Below : Type 0
Below = Result (Option Trail) Broken

abbrev pub Chain : Type 0
Chain = Result (List Write) Broken

pub behind_on : (s : KeySide) (below : Below) (chain : Chain) → is_behind s ≡ true → look_at s below chain ≡ Ok looks.On
behind_on s below chain e = ap (λ (b : Bool). if b then Ok looks.On else below >>= look_by s chain) e

other_by : (s : KeySide) (below : Below) (chain : Chain) → is_behind s ≡ false → look_at s below chain ≡ below >>= look_by s chain
other_by s below chain e = ap (λ (b : Bool). if b then Ok looks.On else below >>= look_by s chain) e

pub look_found : (s : KeySide) (below : Below) (chain : Chain) (trail : Trail) → is_behind s ≡ false → below ≡ Ok (Some trail) → look_at s below chain ≡ Ok (looks.Found trail)
look_found s below chain trail e is = other_by s below chain e ∙ ap (λ (o : Below). o >>= look_by s chain) is

pub look_own : (s : KeySide) (below : Below) (chain : Chain) → is_behind s ≡ false → below ≡ Ok None → look_at s below chain ≡ own_look s chain
look_own s below chain e is = other_by s below chain e ∙ ap (λ (o : Below). o >>= look_by s chain) is

pub look_err : (s : KeySide) (below : Below) (chain : Chain) (broken : Broken) → is_behind s ≡ false → below ≡ Err broken → look_at s below chain ≡ Err broken
look_err s below chain broken e is = other_by s below chain e ∙ ap (λ (o : Below). o >>= look_by s chain) is

-- what the entry at i of a node says
abbrev pub look_of : NodeReads → (Key → KeySide) → ℕ → ℕ → List Raw → ℕ → Result Look Broken
look_of reads side n v node i = look_at (side_of side (entry_at i node) (drop (i + 1) node)) (seek_down reads side n v (entry_at i node).down) (chain_down reads n v (entry_at i node).down)

-- the search from the entry at i on
abbrev pub rest_of : NodeReads → (Key → KeySide) → ℕ → ℕ → List Raw → ℕ → Result (Option Place) Broken
rest_of reads side n v node i = seek_from side (seek_down reads side n v) (chain_down reads n v) i (drop i node)

pub rest_step : (reads : NodeReads) (side : Key → KeySide) (n v : ℕ) (node : List Raw) (i : ℕ) → i < length node → rest_of reads side n v node i ≡ look_of reads side n v node i >>= λ look. after_look i look (rest_of reads side n v node (i + 1))
rest_step reads side n v node i h =
    ap (seek_from side (seek_down reads side n v) (chain_down reads n v) i) (at_front node i h)
    ∙ ap (λ (j : ℕ). look_at (side_of side (entry_at i node) (drop j node)) (seek_down reads side n v (entry_at i node).down) (chain_down reads n v (entry_at i node).down) >>= λ look. after_look i look (rest_of reads side n v node j)) (sym (add-one i))

abbrev pub after : NodeReads → (Key → KeySide) → ℕ → ℕ → List Raw → ℕ → Result Look Broken → Result (Option Place) Broken
after reads side n v node i r = r >>= λ look. after_look i look (rest_of reads side n v node (i + 1))

-- ---- the search in a node

-- the search so far, and what is left of it
abbrev pub SeekIs : Option NodeReads → (Key → KeySide) → ℕ → ℕ → List Raw → ℕ → Type 0
SeekIs known side n v node i = IfSome known (λ reads. seek_in reads side n v node ≡ rest_of reads side n v node i)

abbrev pub LookIs : Option NodeReads → (Key → KeySide) → ℕ → ℕ → List Raw → ℕ → Look → Type 0
LookIs known side n v node i look = IfSome known (λ reads. look_of reads side n v node i ≡ Ok look)

pub seek_look : (known known' : Option NodeReads) (side : Key → KeySide) (n v : ℕ) (node : List Raw) (i : ℕ) (look : Look) → known' ≡ known → i < length node → LookIs known' side n v node i look → SeekIs known side n v node i → IfSome known (λ reads. seek_in reads side n v node ≡ after_look i look (rest_of reads side n v node (i + 1)))
seek_look known known' side n v node i look same h is before =
    by_two known known' known (λ reads. look_of reads side n v node i ≡ Ok look) (λ reads. seek_in reads side n v node ≡ rest_of reads side n v node i) (λ reads. seek_in reads side n v node ≡ after_look i look (rest_of reads side n v node (i + 1))) same refl
    (λ reads l b. b ∙ rest_step reads side n v node i h ∙ ap (after reads side n v node i) l) is before

pub seek_err : (known known' : Option NodeReads) (side : Key → KeySide) (n v : ℕ) (node : List Raw) (i : ℕ) (e : PlanFault) → known' ≡ known → i < length node → IfSome known' (λ reads. ExplainsOrFails (way_cause e) (look_of reads side n v node i)) → SeekIs known side n v node i → IfSome known (λ reads. ExplainsOrFails (way_cause e) (seek_in reads side n v node))
seek_err known known' side n v node i e same h is before =
    by_two known known' known (λ reads. ExplainsOrFails (way_cause e) (look_of reads side n v node i)) (λ reads. seek_in reads side n v node ≡ rest_of reads side n v node i) (λ reads. ExplainsOrFails (way_cause e) (seek_in reads side n v node)) same refl
    (λ reads l b. ends e (look_of reads side n v node i) (seek_in reads side n v node) (λ broken is_err. b ∙ rest_step reads side n v node i h ∙ ap (after reads side n v node i) is_err) l) is before

pub seek_none : (known : Option NodeReads) (side : Key → KeySide) (n v : ℕ) (node : List Raw) (i : ℕ) → length node ≤ i → SeekIs known side n v node i → IfSome known (λ reads. seek_in reads side n v node ≡ Ok None)
seek_none known side n v node i h before =
    by_one known known (λ reads. seek_in reads side n v node ≡ rest_of reads side n v node i) (λ reads. seek_in reads side n v node ≡ Ok None) refl
    (λ reads b. b ∙ ap (seek_from side (seek_down reads side n v) (chain_down reads n v) i) (drop_all i node h)) before

-- ---- the search below an entry

abbrev pub down_by : NodeReads → (Key → KeySide) → ℕ → ℕ → Result (List Raw) Broken → Below
down_by reads side n v r = r >>= λ node. seek_in reads side n v node >>= λ o. Ok (with_spot v node o)

pub down_is : (reads : NodeReads) (side : Key → KeySide) (levels n above v : ℕ) (down : Option ℕ) → levels ≡ suc n → down ≡ Some v → seek_down reads side levels above down ≡ down_by reads side n v (read_by above v (reads v))
down_is reads side levels n above v down is_suc is_down = ap (λ (d : Option ℕ). seek_down reads side levels above d) is_down ∙ ap (λ (m : ℕ). seek_down reads side m above (Some v)) is_suc

pub down_unread : (known known' : Option NodeReads) (side : Key → KeySide) (levels n above v : ℕ) (down : Option ℕ) (e : PlanFault) → known' ≡ known → levels ≡ suc n → down ≡ Some v → IfSome known' (λ r. ExplainsOrFails (way_cause e) (read_by above v (r v))) → IfSome known (λ reads. ExplainsOrFails (way_cause e) (seek_down reads side levels above down))
down_unread known known' side levels n above v down e same is_suc is_down is_err =
    by_one known known' (λ r. ExplainsOrFails (way_cause e) (read_by above v (r v))) (λ reads. ExplainsOrFails (way_cause e) (seek_down reads side levels above down)) same
    (λ reads h. ends e (read_by above v (reads v)) (seek_down reads side levels above down) (λ broken is. down_is reads side levels n above v down is_suc is_down ∙ ap (down_by reads side n v) is) h) is_err

pub down_err : (known first second : Option NodeReads) (side : Key → KeySide) (levels n above v : ℕ) (down : Option ℕ) (node : List Raw) (e : PlanFault) → first ≡ known → second ≡ known → levels ≡ suc n → down ≡ Some v → IfSome first (λ r. read_by above v (r v) ≡ Ok node) → IfSome second (λ r. ExplainsOrFails (way_cause e) (seek_in r side n v node)) → IfSome known (λ reads. ExplainsOrFails (way_cause e) (seek_down reads side levels above down))
down_err known first second side levels n above v down node e same same' is_suc is_down is_node is_err =
    by_two known first second (λ r. read_by above v (r v) ≡ Ok node) (λ r. ExplainsOrFails (way_cause e) (seek_in r side n v node)) (λ reads. ExplainsOrFails (way_cause e) (seek_down reads side levels above down)) same same'
    (λ reads is h. ends e (seek_in reads side n v node) (seek_down reads side levels above down) (λ broken b. down_is reads side levels n above v down is_suc is_down ∙ ap (down_by reads side n v) is ∙ ap (λ (o : Result (Option Place) Broken). o >>= λ p. Ok (with_spot v node p)) b) h) is_node is_err

pub down_ok : (known first second : Option NodeReads) (side : Key → KeySide) (levels n above v : ℕ) (down : Option ℕ) (node : List Raw) (place : Option Place) → first ≡ known → second ≡ known → levels ≡ suc n → down ≡ Some v → IfSome first (λ r. read_by above v (r v) ≡ Ok node) → IfSome second (λ r. seek_in r side n v node ≡ Ok place) → IfSome known (λ reads. seek_down reads side levels above down ≡ Ok (with_spot v node place))
down_ok known first second side levels n above v down node place same same' is_suc is_down is_node is_place =
    by_two known first second (λ r. read_by above v (r v) ≡ Ok node) (λ r. seek_in r side n v node ≡ Ok place) (λ reads. seek_down reads side levels above down ≡ Ok (with_spot v node place)) same same'
    (λ reads is h. down_is reads side levels n above v down is_suc is_down ∙ ap (down_by reads side n v) is ∙ ap (λ (o : Result (Option Place) Broken). o >>= λ p. Ok (with_spot v node p)) h) is_node is_place
