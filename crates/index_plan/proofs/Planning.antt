-- What a plan of one entry does to an index.
use Rattle.std.proofs.Common.{◌≡◌, ℕ, ◌+◌, ◌*◌, ◌≤◌, Bool, List, ◌∷◌, ◌++◌, Some, ap, ◌∙◌, subst, arith, length}
use Rattle.std.proofs.lemmas.List.{append_assoc}
use Rattle.index_model.specs.declared.key.Key.{Key}
use Rattle.index_model.specs.Trees.{Tree, Leaf, Down, Entry, DownEntry, walk, held, times, levels, Stands}
use Rattle.index_plan.specs.Paths.{Path, Here, Below, Behind, subtree, graft}
use Rattle.index_plan.specs.Growth.{Grown, regrown}
use Rattle.index_plan.specs.Removal.{fresh_start, Removed, without_first}
use Rattle.index_plan.specs.Search.{path_to, put, Rises}
use Rattle.index_plan.proofs.Growing.{some_is, level_one, regrown_walk, regrown_held, regrown_levels, regrown_count}
use Rattle.index_plan.proofs.Standing.{Nodes, Sound, Once, regrown_sound, start_sound}
use Rattle.index_plan.proofs.Grafting.{grafts, graft_held, graft_levels, steps_levels}
use Rattle.index_plan.proofs.Placing.{Placed, regrown_placed}
use Rattle.index_plan.proofs.Removing.{first_law}
use Rattle.index_plan.specs.Takings.{StartsWith}
use Rattle.index_plan.proofs.Searching.{placed}

sub_stands : (nodes : Nodes) (p : Path) (t s : Tree) → subtree p t ≡ Some s → Stands nodes t → Stands nodes s
sub_stands nodes Here t s e st = subst (λ (x : Tree). Stands nodes x) (some_is t s e) st
sub_stands nodes (Below p) Leaf s e st = absurd cc
sub_stands nodes (Below p) (Down v t) s e st = sub_stands nodes p t s e st.1
sub_stands nodes (Below p) (Entry key rest) s e st = absurd cc
sub_stands nodes (Below p) (DownEntry v t key rest) s e st = sub_stands nodes p t s e st.1
sub_stands nodes (Behind p) Leaf s e st = absurd cc
sub_stands nodes (Behind p) (Down v t) s e st = absurd cc
sub_stands nodes (Behind p) (Entry key rest) s e st = sub_stands nodes p rest s e st
sub_stands nodes (Behind p) (DownEntry v t key rest) s e st = sub_stands nodes p rest s e st.2

-- what stays the same of any plan: the nodes are those of the new tree, numbers go over, no way gets longer, few nodes are written
pub record Meets (nodes : Nodes) (fresh : List ℕ) (t : Tree) (freed : ℕ → ℕ) (below : ℕ) (g : Grown) : Type 0 where
  pub sound : Sound nodes g t
  pub numbers : (x : ℕ) → held x g.tree + times x g.fresh + freed x ≡ held x t + times x fresh
  pub height : levels g.tree ≤ levels t
  pub written : length g.writes + 2 ≤ 2 * levels t + below
  pub taken : length fresh + 1 ≤ length g.fresh + levels t

pub record Inserts (nodes : Nodes) (goes : Key → Bool) (new : Key) (fresh : List ℕ) (t : Tree) (g : Grown) : Type 0 where
  pub keys : walk g.tree ≡ put goes new (walk t)
  pub meets : Meets nodes fresh t (λ x. 0) 0 g

-- a plan of insertion
pub insertion : (nodes : Nodes) (goes : Key → Bool) (new : Key) (fresh : List ℕ) (t : Tree) → Stands nodes t → Once t fresh → Rises goes (walk t) → (s : Tree) × (subtree (path_to goes t) t ≡ Some s) × Inserts nodes goes new fresh t (regrown (path_to goes t) (fresh_start (Entry new s) fresh) t)
insertion nodes goes new fresh t st once rises =
    let at = placed goes new t rises in
    let p : Path = path_to goes t in
    let s : Tree = at.0 in
    let start : Grown = fresh_start (Entry new s) fresh in
    let same_numbers : (x : ℕ) → held x (graft p (Entry new s) t) ≡ held x t = λ x. let h = graft_held x p t s (Entry new s) at.1 in omega arith in (
      s,
      at.1,
      record {
        keys = regrown_walk p start t ∙ at.2;
        meets = record {
          sound = regrown_sound nodes p start t s at.1 st (start_sound nodes (Entry new s) s fresh (sub_stands nodes p t s at.1 st)) (λ x. let m = same_numbers x in let o = once x in omega arith);
          numbers = λ x. let h = regrown_held p start t x in let m = same_numbers x in omega arith;
          height = let l = regrown_levels p start t in let m = graft_levels p t s (Entry new s) at.1 (omega arith) in omega arith;
          written = let c = regrown_count p start t in let d = steps_levels p t s at.1 in let one = level_one s in omega arith;
          taken = let c = regrown_count p start t in let d = steps_levels p t s at.1 in let one = level_one s in omega arith;
        };
      },
    )

pub record Removes (nodes : Nodes) (k : Key) (fresh : List ℕ) (t : Tree) (r : Removed) (g : Grown) : Type 0 where
  pub before : List Key
  pub behind : List Key
  pub had : walk t ≡ before ++ k ∷ behind
  pub has : walk g.tree ≡ before ++ behind
  pub placed : Placed g
  pub meets : Meets nodes fresh t (λ x. times x r.freed) (length r.start.writes) g

joined : (a b c d : List Key) (k : Key) → a ++ (b ++ k ∷ c) ++ d ≡ (a ++ b) ++ k ∷ (c ++ d)
joined a b c d k = simp append_assoc

joined_without : (a b c d : List Key) → a ++ (b ++ c) ++ d ≡ (a ++ b) ++ (c ++ d)
joined_without a b c d = simp append_assoc

-- a plan of removal
pub removal : (nodes : Nodes) (k : Key) (fresh : List ℕ) (p : Path) (t s : Tree) → Stands nodes t → Once t fresh → subtree p t ≡ Some s → StartsWith k s → Removes nodes k fresh t (without_first fresh s) (regrown p (without_first fresh s).start t)
removal nodes k fresh p t s st once at starts =
    let within : (x : ℕ) → held x s + times x fresh ≤ 1 = λ x. let h = graft_held x p t s Leaf at in let o = once x in omega arith in
    let law = first_law nodes fresh k s starts (sub_stands nodes p t s at st) within in
    let start : Grown = (without_first fresh s).start in
    let around = grafts p t s at in
    let numbers : (x : ℕ) → held x (graft p start.tree t) + times x (without_first fresh s).freed ≡ held x t = λ x. let h = graft_held x p t s start.tree at in let n = law.numbers x in omega arith in
    record {
      before = around.0 ++ law.before;
      behind = law.behind ++ around.1;
      had = around.2 ∙ ap (λ (l : List Key). around.0 ++ l ++ around.1) law.had ∙ joined around.0 law.before law.behind around.1 k;
      has = regrown_walk p start t ∙ around.3 start.tree ∙ ap (λ (l : List Key). around.0 ++ l ++ around.1) law.has ∙ joined_without around.0 law.before law.behind around.1;
      placed = regrown_placed p start t law.placed;
      meets = record {
        sound = regrown_sound nodes p start t s at st law.sound (λ x. let m = numbers x in let o = once x in let f : times x start.fresh ≡ times x fresh = ap (times x) law.takes_none in omega arith);
        numbers = λ x. let h = regrown_held p start t x in let m = numbers x in let f : times x start.fresh ≡ times x fresh = ap (times x) law.takes_none in omega arith;
        height = let l = regrown_levels p start t in let m = graft_levels p t s start.tree at law.height in omega arith;
        written = let c = regrown_count p start t in let d = steps_levels p t s at in let one = level_one s in omega arith;
        taken = let c = regrown_count p start t in let d = steps_levels p t s at in let one = level_one s in let f : length start.fresh ≡ length fresh = ap (λ (l : List ℕ). length l) law.takes_none in omega arith;
      };
    }
