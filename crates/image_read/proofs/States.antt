-- What a check of an image says of the tree that the image stands for.
use Rattle.std.proofs.Common.{◌≡◌, ℕ, ◌<◌, Bool, true, nat_lt, List, length, Result, Ok, Err, sym, ap, ◌∙◌, subst, arith}
use Rattle.std.proofs.lemmas.Bool.Decides.{nat_tests}
use Rattle.host_base.specs.Answers.{◌>>=◌, needs}
use Rattle.disk_model.specs.Sectors.{sector_of}
use Rattle.disk_model.specs.Content.{Content, content_of}
use Rattle.volume_links.proofs.record_model.Answering.{steps_from_ok, needs_from_ok}
use Rattle.file_tree.specs.declared.tree.Tree.{Tree}
use Rattle.image_open.specs.state_model.declared.geometry.Geometry.{Geometry}
use Rattle.volume_check.specs.volume_model.Volumes.{Volume, volume_of}
use Rattle.volume_check.specs.volume_state.Laws.{bare}
use Rattle.volume_check.specs.volume_state.Trees.{IsState, checked}
use Rattle.volume_check.specs.volume_state.Versions.{volume_info, is_known}
use Rattle.volume_check.proofs.volume_state.Reports.{reports, one_tree, state_reported}
use Rattle.image_open.specs.declared.refusal.Refusal.{Refusal}
use Rattle.image_open.specs.declared.refusal.Refusal.TheVariants.{Short, Version}
use Rattle.image_open.specs.Errors.{map_refusal, refused_as}
use Rattle.image_open.specs.Volumes.{Opened, opened_in}
use Rattle.image_read.specs.Errors.{broken_refusal}
use Rattle.image_read.specs.Checks.{volume_on, has_version, tree_on, volume_tree, loaded_in, check_in, check_of}
use Rattle.image_read.specs.States.{StandsFor}

unrefused : {A F : Type 0} (kind : F → Refusal) (read : Result A F) (x : A) → refused_as kind read ≡ Ok x → read ≡ Ok x
unrefused kind (Ok y) x e = cc
unrefused kind (Err f) x e = absurd cc

goes_on : {A B : Type 0} (first : Result A Refusal) (x : A) (next : A → Result B Refusal) → first ≡ Ok x → (first >>= next) ≡ next x
goes_on first x next e = ap (λ r. r >>= next) e

-- ---- one tree

one_by : (c : Content) (device : ℕ) (o p : Opened) (t u : Tree) → opened_in c device ≡ Ok o → opened_in c device ≡ Ok p → IsState o.content o.geometry o.total t → IsState p.content p.geometry p.total u → t ≡ u
one_by c device o p t u opened again s r =
    let same : o ≡ p = cc in
    one_tree o.content o.geometry o.total t u s (subst (λ (q : Opened). IsState q.content q.geometry q.total u) (sym same) r)

pub one : (disk : List (List ℕ)) (t u : Tree) → StandsFor disk t → StandsFor disk u → t ≡ u
one disk t u s r = one_by (content_of (sector_of disk)) (length disk) s.opening r.opening t u s.opened r.opened s.state r.state

-- ---- what is answered is the tree

volume_says : (c : Content) (g : Geometry) (clusters : ℕ) (v : Volume) (t : Tree) → volume_of c g clusters ≡ Ok v → volume_tree c v ≡ Ok t → (u : Tree) × (s : IsState c g clusters u) × (is_known (volume_info s.volume) ≡ true) × (t ≡ bare u)
unfolding volume_tree has_version tree_on
volume_says c g clusters v t loaded is =
    let info = volume_info v in
    let p = needs_from_ok (is_known info) (Version info.major info.minor) (λ _. refused_as broken_refusal (checked c v)) t is in
    let r = reports c v t (unrefused broken_refusal (checked c v) t p.1) in
    (r.0, record { volume = v; loaded = loaded; holds = r.1 }, p.0, r.2)

content_says : (c : Content) (g : Geometry) (clusters : ℕ) (t : Tree) → loaded_in volume_tree c g clusters ≡ Ok t → (u : Tree) × (s : IsState c g clusters u) × (is_known (volume_info s.volume) ≡ true) × (t ≡ bare u)
unfolding volume_on
content_says c g clusters t is =
    let p = steps_from_ok (refused_as map_refusal (volume_of c g clusters)) (volume_tree c) t is in
    volume_says c g clusters p.0 t (unrefused map_refusal (volume_of c g clusters) p.0 p.1) p.2

pub stands : (disk : List (List ℕ)) (t : Tree) → check_of disk ≡ Ok t → (u : Tree) × (s : StandsFor disk u) × (is_known (volume_info s.state.volume) ≡ true) × (t ≡ bare u)
unfolding check_of check_in
stands disk t is =
    let c = content_of (sector_of disk) in
    let tried = needs_from_ok (nat_lt 0 (length disk)) (Short 1 0) (λ _. opened_in c (length disk) >>= λ o. loaded_in volume_tree o.content o.geometry o.total) t is in
    let p = steps_from_ok (opened_in c (length disk)) (λ o. loaded_in volume_tree o.content o.geometry o.total) t tried.1 in
    let r = content_says p.0.content p.0.geometry p.0.total t p.2 in
    (r.0, record { opening = p.0; opened = p.1; state = r.1 }, r.2, r.3)

-- ---- the tree is answered

volume_answers : (c : Content) (g : Geometry) (clusters : ℕ) (t : Tree) (s : IsState c g clusters t) → is_known (volume_info s.volume) ≡ true → volume_tree c s.volume ≡ Ok (bare t)
unfolding volume_tree has_version tree_on
volume_answers c g clusters t s known =
    let info = volume_info s.volume in
    ap (λ (b : Bool). needs b (Version info.major info.minor) >>= λ _. refused_as broken_refusal (checked c s.volume)) known ∙ ap (refused_as broken_refusal) (state_reported c g clusters t s)

content_answers : (c : Content) (g : Geometry) (clusters : ℕ) (t : Tree) (s : IsState c g clusters t) → is_known (volume_info s.volume) ≡ true → loaded_in volume_tree c g clusters ≡ Ok (bare t)
unfolding volume_on
content_answers c g clusters t s known = goes_on _ s.volume (volume_tree c) (ap (refused_as map_refusal) s.loaded) ∙ volume_answers c g clusters t s known

some_sector : (n : ℕ) → 0 < n → nat_lt 0 n ≡ true
some_sector n lt = grind (arith, nat_tests)

pub answered : (disk : List (List ℕ)) (t : Tree) (s : StandsFor disk t) → 0 < length disk → is_known (volume_info s.state.volume) ≡ true → check_of disk ≡ Ok (bare t)
unfolding check_of check_in
answered disk t s some known =
    ap (λ (b : Bool). needs b (Short 1 0) >>= λ _. opened_in (content_of (sector_of disk)) (length disk) >>= λ o. loaded_in volume_tree o.content o.geometry o.total) (some_sector (length disk) some)
    ∙ goes_on _ s.opening (λ (o : Opened). loaded_in volume_tree o.content o.geometry o.total) s.opened
    ∙ content_answers s.opening.content s.opening.geometry s.opening.total t s.state known
