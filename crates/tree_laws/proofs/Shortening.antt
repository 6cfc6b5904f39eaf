-- A way up that reaches the root passes no file twice.
use Rattle.std.proofs.Common.{◌≡◌, ◌≢◌, ℕ, zero, suc, ◌<◌, ◌≤◌, Bool, true, false, not, ◌&&◌, ◌||◌, eqb, ltb, List, [], ◌∷◌, length, Option, Some, None, refl, sym, ap, subst, ◌∙◌, inl, inr, arith}
use Rattle.std.specs.List.{IsDistinct, list_any, AllByRecursion}
use Rattle.std.proofs.lemmas.Bool.{cases_Bool, cases_lt, or_left, or_right, both_ways, eqb-true, ne_eqb}
use Rattle.std.proofs.lemmas.Map.Steps.{length-le_from_distinct_below}
use Rattle.volume_state.specs.record_model.Records.{Record}
use Rattle.volume_state.specs.file_tree.Walks.{root, at_some, first_user_record, passes_system}
use Rattle.volume_state.specs.state_model.Files.{Table, file_at, links_at, is_directory_record}
use Rattle.volume_state.specs.state_model.Loads.{table_in}
use Rattle.volume_state.specs.state_model.Rules.{implies, at_file, keeps_8}
use Rattle.volume_state.specs.state_model.Trees.{first_parent, parent_at, leads, is_in_system}
use Rattle.tree_laws.proofs.Naming.{no_names}

-- ---- more steps

or_more : (a b c : Bool) → (b ≡ true → c ≡ true) → (a || b) ≡ true → (a || c) ≡ true
or_more true b c more is = refl
or_more false b c more is = more is

at_more : (f g : ℕ → Bool) → ((m : ℕ) → f m ≡ true → g m ≡ true) → (o : Option ℕ) → at_some f o ≡ true → at_some g o ≡ true
at_more f g more None is = absurd cc
at_more f g more (Some m) is = more m is

module _ (p : Table) where
  one_more : (k m : ℕ) → leads p k m ≡ true → leads p (suc k) m ≡ true
  unfolding leads
  one_more zero m is = or_left (eqb m root) (at_some (leads p zero) (parent_at p m)) is
  one_more (suc k) m is = or_more (eqb m root) (at_some (leads p k) (parent_at p m)) (at_some (leads p (suc k)) (parent_at p m)) (at_more (leads p k) (leads p (suc k)) (one_more k) (parent_at p m)) is

  pub more_steps : (j k m : ℕ) → j ≤ k → leads p j m ≡ true → leads p k m ≡ true
  more_steps j zero m le is = let same : j ≡ zero = omega arith in subst (λ (x : ℕ). leads p x m ≡ true) same is
  more_steps j (suc k) m le is = elim (cases_lt k j) [
    | inl last ↦ (let same : j ≡ suc k = omega arith in subst (λ (x : ℕ). leads p x m ≡ true) same is)
    | inr less ↦ one_more k m (more_steps j k m less is)
  ]

  -- the root is so many steps away, and no fewer
  record IsAway (k m : ℕ) : Type 0 where
    reaches : leads p k m ≡ true
    no_sooner : (j : ℕ) → j < k → leads p j m ≡ false

  away : (most m : ℕ) → leads p most m ≡ true → (k : ℕ) × (k ≤ most) × IsAway k m
  away zero m is = (zero, omega arith, record { reaches = is; no_sooner = λ j less. absurd (omega arith) })
  away (suc most) m is = elim (cases_Bool (leads p most m)) [
    | inl sooner ↦ (let rest = away most m sooner in (rest.0, (let le = rest.1 in omega arith), rest.2))
    | inr later ↦ (
      suc most,
      omega arith,
      record {
        reaches = is;
        no_sooner = λ j less. elim (cases_Bool (leads p j m)) [
          | inl there ↦ absurd (both_ways (leads p most m) later (more_steps j most m (omega arith) there))
          | inr none ↦ none
        ];
      },
    )
  ]

  -- a file that isn't the root has a directory, which is one step nearer
  next_up : (k m : ℕ) (o : Option ℕ) → parent_at p m ≡ o → IsAway (suc k) m → (d : ℕ) × (o ≡ Some d) × IsAway k d
  unfolding leads
  next_up k m None is far = absurd (both_ways (leads p (suc k) m) (ap (λ (t : Bool). t || at_some (leads p k) (parent_at p m)) (far.no_sooner 0 (omega arith)) ∙ ap (at_some (leads p k)) is) far.reaches)
  next_up k m (Some d) is far =
      let not_root : eqb m root ≡ false = far.no_sooner 0 (omega arith) in
      let up : (j : ℕ) → leads p (suc j) m ≡ leads p j d = λ j. ap (λ (t : Bool). t || at_some (leads p j) (parent_at p m)) not_root ∙ ap (at_some (leads p j)) is in
      (d, refl, record { reaches = sym (up k) ∙ far.reaches; no_sooner = λ j less. sym (up j) ∙ far.no_sooner (suc j) (omega arith) })

  -- the files on a way
  record IsWay (count k : ℕ) (files : List ℕ) : Type 0 where
    size : length files ≡ k
    apart : IsDistinct eqb files
    nearer : AllByRecursion (λ x. (i : ℕ) × (i ≤ k) × IsAway i x) files
    within : AllByRecursion (λ x. x < count) files

  has_names : (count m d : ℕ) → ((n : ℕ) → count ≤ n → links_at p n ≡ []) → parent_at p m ≡ Some d → m < count
  unfolding parent_at
  has_names count m d none is = elim (cases_lt m count) [
    | inl less ↦ less
    | inr past ↦ (let empty : None ≡ Some d = sym (ap first_parent (none m past)) ∙ is in absurd cc)
  ]

  not_again : (k m : ℕ) → IsAway (suc k) m → (files : List ℕ) → AllByRecursion (λ x. (i : ℕ) × (i ≤ k) × IsAway i x) files → AllByRecursion (λ x. eqb m x ≡ false) files
  not_again k m far [] near = tt
  not_again k m far (x ∷ files) near =
      let i = near.0.0 in
      let le = near.0.1 in
      let there = near.0.2 in
      (ne_eqb m x (λ same. both_ways (leads p i m) (far.no_sooner i (omega arith)) (ap (leads p i) same ∙ there.reaches)), not_again k m far files near.1)

  farther : (k : ℕ) (files : List ℕ) → AllByRecursion (λ x. (i : ℕ) × (i ≤ k) × IsAway i x) files → AllByRecursion (λ x. (i : ℕ) × (i ≤ suc k) × IsAway i x) files
  farther k [] near = tt
  farther k (x ∷ files) near = (let le = near.0.1 in (near.0.0, omega arith, near.0.2), farther k files near.1)

  way_of : (count : ℕ) → ((n : ℕ) → count ≤ n → links_at p n ≡ []) → (k m : ℕ) → IsAway k m → (files : List ℕ) × IsWay count k files
  unfolding IsDistinct
  way_of count none zero m far = ([], record { size = refl; apart = tt; nearer = tt; within = tt })
  way_of count none (suc k) m far =
      let up = next_up k m (parent_at p m) refl far in
      let rest = way_of count none k up.0 up.2 in
      let size = rest.1.size in (
        m ∷ rest.0,
        record {
          size = omega arith;
          apart = (not_again k m far rest.0 rest.1.nearer, rest.1.apart);
          nearer = ((suc k, omega arith, far), farther k rest.0 rest.1.nearer);
          within = (has_names count m up.0 none up.1, rest.1.within);
        },
      )

each_below : (count : ℕ) (files : List ℕ) → AllByRecursion (λ x. x < count) files → (q : ℕ) → list_any (eqb q) files ≡ true → q < count
each_below count [] within q is = absurd cc
each_below count (x ∷ files) within q is = elim (cases_Bool (eqb q x)) [
  | inl here ↦ (let same = eqb-true q x here in let less = within.0 in omega arith)
  | inr other ↦ each_below count files within.1 q (sym (ap (λ (t : Bool). t || list_any (eqb q) files) other) ∙ is)
]

short_way : (p : Table) (count most m : ℕ) → ((n : ℕ) → count ≤ n → links_at p n ≡ []) → leads p most m ≡ true → leads p count m ≡ true
short_way p count most m none is =
    let far = away p most m is in
    let way = way_of p count none far.0 m far.2 in
    let few = length-le_from_distinct_below way.0 count way.1.apart (each_below count way.0 way.1.within) in
    let size = way.1.size in
    more_steps p far.0 count m (omega arith) far.2.reaches

pub short : (files : List (Option Record)) (most m : ℕ) → leads (table_in files) most m ≡ true → leads (table_in files) (length files) m ≡ true
short files most m is = short_way (table_in files) (length files) most m (no_names files) is

leads_below : (p : Table) (most m d : ℕ) → parent_at p m ≡ Some d → leads p most d ≡ true → leads p (suc most) m ≡ true
unfolding leads
leads_below p most m d is up = or_right (eqb m root) (at_some (leads p most) (parent_at p m)) (ap (at_some (leads p most)) is ∙ up)

pub leads_by_parent : (files : List (Option Record)) (most m d : ℕ) → parent_at (table_in files) m ≡ Some d → leads (table_in files) most d ≡ true → leads (table_in files) (length files) m ≡ true
leads_by_parent files most m d is up = short files (suc most) m (leads_below (table_in files) most m d is up)

asked_way : (o : Option Record) (t : Bool) → t ≡ true → at_file (λ r. implies (is_directory_record r) t) o ≡ true
asked_way None t is = refl
asked_way (Some r) t is = or_right (not (is_directory_record r)) t is

pub way_keeps_8 : (p : Table) (count m : ℕ) → leads p count m ≡ true → keeps_8 p count m ≡ true
unfolding keeps_8
way_keeps_8 p count m is = asked_way (file_at p m) (leads p count m) is

-- ---- directories of the volume itself

-- at the root nothing is in one
root_outside : (p : Table) (most m : ℕ) → eqb m root ≡ true → is_in_system p most m ≡ false
unfolding passes_system
root_outside p zero m is = refl
root_outside p (suc most) m is = ap (λ (t : Bool). not t && ((ltb m first_user_record) || at_some (is_in_system p most) (parent_at p m))) is

leads_on : (a b : Bool) → a ≡ false → (a || b) ≡ true → b ≡ true
leads_on true b none is = absurd cc
leads_on false b none is = is

same_up : (lead f g : ℕ → Bool) → ((m : ℕ) → lead m ≡ true → g m ≡ f m) → (o : Option ℕ) → at_some lead o ≡ true → at_some g o ≡ at_some f o
same_up lead f g same None is = refl
same_up lead f g same (Some m) is = same m is

one_step_more : (p : Table) (most m : ℕ) → leads p most m ≡ true → is_in_system p (suc most) m ≡ is_in_system p most m
unfolding leads passes_system
one_step_more p zero m is = ap (λ (t : Bool). not t && ((ltb m first_user_record) || at_some (is_in_system p zero) (parent_at p m))) is
one_step_more p (suc most) m is = elim (cases_Bool (eqb m root)) [
  | inl at_root ↦
      ap (λ (t : Bool). not t && ((ltb m first_user_record) || at_some (is_in_system p (suc most)) (parent_at p m))) at_root
      ∙ sym (ap (λ (t : Bool). not t && ((ltb m first_user_record) || at_some (is_in_system p most) (parent_at p m))) at_root)
  | inr below ↦
      ap (λ (t : Bool). not (eqb m root) && ((ltb m first_user_record) || t))
      (same_up (leads p most) (is_in_system p most) (is_in_system p (suc most)) (one_step_more p most) (parent_at p m) (leads_on (eqb m root) (at_some (leads p most) (parent_at p m)) below is))
]

pub steady : (p : Table) (most more m : ℕ) → most ≤ more → leads p most m ≡ true → is_in_system p more m ≡ is_in_system p most m
steady p most zero m le is = let same : most ≡ zero = omega arith in ap (λ (x : ℕ). is_in_system p x m) (sym same)
steady p most (suc more) m le is = elim (cases_lt more most) [
  | inl last ↦ (let same : suc more ≡ most = omega arith in ap (λ (x : ℕ). is_in_system p x m) same)
  | inr less ↦ one_step_more p more m (more_steps p most more m less is) ∙ steady p most more m less is
]

in_system_step : (p : Table) (most m d : ℕ) → eqb m root ≡ false → parent_at p m ≡ Some d → is_in_system p (suc most) m ≡ ((ltb m first_user_record) || is_in_system p most d)
unfolding passes_system
in_system_step p most m d below is =
    ap (λ (t : Bool). not t && ((ltb m first_user_record) || at_some (is_in_system p most) (parent_at p m))) below
    ∙ ap (λ (o : Option ℕ). (ltb m first_user_record) || at_some (is_in_system p most) o) is

pub in_system_by : (p : Table) (most m d : ℕ) → m ≢ root → parent_at p m ≡ Some d → leads p most m ≡ true → is_in_system p most m ≡ ((ltb m first_user_record) || is_in_system p most d)
in_system_by p most m d other is reaches = sym (one_step_more p most m reaches) ∙ in_system_step p most m d (ne_eqb m root other) is
