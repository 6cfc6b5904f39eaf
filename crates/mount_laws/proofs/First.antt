-- The least LSN that is said of a live block is that of the first entry by which the log shadows one.
use Rattle.std.proofs.Common.{◌≡◌, ℕ, suc, ◌≤◌, Bool, true, false, ◌&&◌, cond, List, [], ◌∷◌, find, option_map, Option, Some, None, refl, sym, ap, ◌∙◌, inl, inr, arith}
use Rattle.std.proofs.lemmas.Bool.{and_from}
use Rattle.disk_model.specs.declared.block.Block.{Block}
use Rattle.volume_mount.specs.volume_model.Volumes.{Volume}
use Rattle.volume_mount.specs.stream_laws.Owners.{IsLive}
use Rattle.log_model.specs.declared.entry.Entry.{Entry}
use Rattle.log_model.specs.Logs.{updates_rival, is_in_grid, is_shadowed, first_rival}
use Rattle.volume_mount.specs.log_recovery.Recovering.{shadow_lsn}
use Rattle.volume_mount.proofs.volume_shadows.Listing.{least_is_of, least_below}
use Rattle.mount_laws.specs.Firsts.{Rise, ShadowsLive, IsFirst, LeastIsFirst}

-- the LSN of the first entry that passes
abbrev found_lsn : (Entry → Bool) → List Entry → Option ℕ
found_lsn p entries = option_map (λ (e : Entry). e.lsn) (find p entries)

later : (t : Bool) (e : Entry) (rest : Option Entry) → t ≡ false → option_map (λ (x : Entry). x.lsn) (cond t (Some e) rest) ≡ option_map (λ (x : Entry). x.lsn) rest
later t e rest is = ap (λ (u : Bool). option_map (λ (x : Entry). x.lsn) (cond u (Some e) rest)) is

here : (t : Bool) (e : Entry) (rest : Option Entry) → t ≡ true → option_map (λ (x : Entry). x.lsn) (cond t (Some e) rest) ≡ Some e.lsn
here t e rest is = ap (λ (u : Bool). option_map (λ (x : Entry). x.lsn) (cond u (Some e) rest)) is

some_same : {x y : ℕ} → Some x ≡ Some y → x ≡ y
some_same q = cc

behind_one : (p : Entry → Bool) (low lsn : ℕ) (e : Entry) (entries : List Entry) → Rise low (e ∷ entries) → found_lsn p (e ∷ entries) ≡ Some lsn → (found_lsn p entries ≡ Some lsn → suc e.lsn ≤ lsn) → (t : Bool) → p e ≡ t → low ≤ lsn
behind_one p low lsn e entries rise is after true passes = let same : e.lsn ≡ lsn = some_same (sym (here (p e) e (find p entries) passes) ∙ is) in omega (arith, rise.0, same)
behind_one p low lsn e entries rise is after false fails = let above = after (sym (later (p e) e (find p entries) fails) ∙ is) in omega (arith, rise.0, above)

-- what is found behind has no lower LSN
found_behind : (p : Entry → Bool) (low lsn : ℕ) (entries : List Entry) → Rise low entries → found_lsn p entries ≡ Some lsn → low ≤ lsn
found_behind p low lsn [] rise is = absurd cc
found_behind p low lsn (e ∷ entries) rise is = behind_one p low lsn e entries rise is (λ rest. found_behind p (suc e.lsn) lsn entries rise.1 rest) (p e) refl

-- ---- along the list

module _ (v : Volume) (list : List Entry) (lsn : ℕ) (b : Block) (live : IsLive v b) (grid : is_in_grid b ≡ true) (shadowed : is_shadowed list b ≡ true) where
  -- of the entries that are left none says less of a live block
  abbrev NoneLess : List Entry → Type 0
  NoneLess entries = (c : Block) (other : ℕ) → IsLive v c → is_in_grid c ≡ true → is_shadowed list c ≡ true → found_lsn (λ e. updates_rival c e.act) entries ≡ Some other → lsn ≤ other

  left : (e : Entry) (entries : List Entry) → NoneLess (e ∷ entries) → (ShadowsLive v list e → ⊥) → (c : Block) (other : ℕ) → IsLive v c → is_in_grid c ≡ true → is_shadowed list c ≡ true → found_lsn (λ x. updates_rival c x.act) entries ≡ Some other
      → (t : Bool) → updates_rival c e.act ≡ t → lsn ≤ other
  left e entries least none c other is_live in_grid is_shadow found true passes = absurd (none (c, is_live, in_grid, is_shadow, passes))
  left e entries least none c other is_live in_grid is_shadow found false fails = least c other is_live in_grid is_shadow (later (updates_rival c e.act) e (find (λ x. updates_rival c x.act) entries) fails ∙ found)

  first_of : (low : ℕ) (e : Entry) (entries : List Entry) → Rise low (e ∷ entries) → found_lsn (λ x. updates_rival b x.act) (e ∷ entries) ≡ Some lsn → NoneLess (e ∷ entries)
      → (found_lsn (λ x. updates_rival b x.act) entries ≡ Some lsn → NoneLess entries → IsFirst v list entries lsn) → (t : Bool) → updates_rival b e.act ≡ t → IsFirst v list (e ∷ entries) lsn
  first_of low e entries rise is least next true passes = inl (some_same (sym (here (updates_rival b e.act) e (find (λ x. updates_rival b x.act) entries) passes) ∙ is), (b, live, grid, shadowed, passes))
  first_of low e entries rise is least next false fails =
      let rest : found_lsn (λ x. updates_rival b x.act) entries ≡ Some lsn = sym (later (updates_rival b e.act) e (find (λ x. updates_rival b x.act) entries) fails) ∙ is in
      let above = found_behind (λ x. updates_rival b x.act) (suc e.lsn) lsn entries rise.1 rest in
      let none : ShadowsLive v list e → ⊥ = λ s. (let less = least s.0 e.lsn s.1 s.2 s.3 (here (updates_rival s.0 e.act) e (find (λ x. updates_rival s.0 x.act) entries) s.4) in omega (arith, less, above)) in
      inr (none, next rest (λ c other is_live in_grid is_shadow found. left e entries least none c other is_live in_grid is_shadow found (updates_rival c e.act) refl))

  first_along : (low : ℕ) (entries : List Entry) → Rise low entries → found_lsn (λ e. updates_rival b e.act) entries ≡ Some lsn → NoneLess entries → IsFirst v list entries lsn
  first_along low [] rise is least = absurd cc
  first_along low (e ∷ entries) rise is least = first_of low e entries rise is least (λ rest fewer. first_along (suc e.lsn) entries rise.1 rest fewer) (updates_rival b e.act) refl

-- ---- all of it

said_parts : (list : List Entry) (b : Block) (lsn : ℕ) → shadow_lsn list b ≡ Some lsn → (is_in_grid b ≡ true) × (is_shadowed list b ≡ true) × (first_rival list b ≡ Some lsn)
said_parts list b lsn is = go (is_in_grid b) (is_shadowed list b) refl refl is
  where
    go : (g s : Bool) → is_in_grid b ≡ g → is_shadowed list b ≡ s → cond (g && s) (first_rival list b) None ≡ Some lsn → (is_in_grid b ≡ true) × (is_shadowed list b ≡ true) × (first_rival list b ≡ Some lsn)
    go true true p q e = (p, q, e)
    go true false p q e = absurd cc
    go false s p q e = absurd cc

said_from : (list : List Entry) (b : Block) (lsn : ℕ) → is_in_grid b ≡ true → is_shadowed list b ≡ true → first_rival list b ≡ Some lsn → shadow_lsn list b ≡ Some lsn
said_from list b lsn grid shadowed is = ap (λ (t : Bool). cond t (first_rival list b) None) (and_from _ _ grid shadowed) ∙ is

pub least_first : LeastIsFirst
least_first v list lsn rise is =
    let s = least_is_of (shadow_lsn list) v lsn is in
    let parts = said_parts list s.0 lsn s.2 in
    first_along v list lsn s.0 s.1 parts.0 parts.1 0 list rise parts.2 (λ c other live grid shadowed found. least_below (shadow_lsn list) v lsn other c is live (said_from list c other grid shadowed found))
