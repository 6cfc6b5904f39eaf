-- Blocks beside a log of one run, and blocks without changed rivals.
use Rattle.std.proofs.Common.{◌≡◌, ◌⊎◌, subst, ℕ, zero, suc, ◌+◌, ◌*◌, ◌<◌, ◌≤◌, Bool, true, false, not, cond, List, [], ◌∷◌, length, get_or, Option, Some, None, refl, sym, ap, ◌∙◌, inl, inr, arith}
use Rattle.std.specs.Prelude.{◌&&◌, ◌||◌, nat_le, nat_lt, IfSome, is_some, unwrap_or}
use Rattle.std.specs.List.{list_any, list_all, range_with_len}
use Rattle.std.proofs.lemmas.Bool.{cases_Bool, le-ltb, lt-leb, ltb-true, and_right}
use Rattle.disk_model.specs.declared.block.Block.{Block}
use Rattle.disk_model.specs.Sectors.{sectors, same_block, are_rivals}
use Rattle.disk_model.proofs.Frames.{same_block-is}
use Rattle.sector_device.specs.Disks.{is_within}
use Rattle.log_model.specs.Logs.{is_in_grid}
use Rattle.log_page.specs.declared.places.Extent.{Extent}
use Rattle.log_page.specs.declared.places.LogPlace.{LogPlace}
use Rattle.log_reading.specs.LogPages.{sector_in, sector_below, log_sector}
use Rattle.log_area.specs.Areas.{page_first}
use Rattle.store_model.specs.Volumes.{is_free, is_known}
use Rattle.txn_core.specs.txn_model.declared.mark.Mark.{Mark}
use Rattle.txn_core.specs.txn_model.Values.{StoreFacts, own_of, is_own}
use Rattle.txn_core.specs.txn_model.Calls.{rivals_of}
use Rattle.txn_core.specs.txn_state.States.{IsStore}
use Rattle.txn_core.proofs.txn_log.Sharing.{among_is}
use Rattle.store_images.specs.Running.{IsBeside}

-- ---- sectors that no page of the log has

outside : (p s : ℕ) → (s < p) ⊎ (p + 8 ≤ s) → is_within p 8 s ≡ false
outside p s (inl lt) = ap (λ (t : Bool). t && nat_lt s (p + 8)) (lt-leb p s lt)
outside p s (inr le) = and_right (nat_le p s) (nat_lt s (p + 8)) (le-ltb s (p + 8) le)

abbrev pub IsOff : ℕ → Option ℕ → Type 0
IsOff s o = IfSome o (λ p. is_within p 8 s ≡ false)

off_below : (device s : ℕ) (o : Option ℕ) → IsOff s o → IsOff s (sector_below device o)
off_below device s None off = tt
off_below device s (Some p) off = by_test (nat_lt p device)
  where
    by_test : (t : Bool) → IsOff s (cond t (Some p) None)
    by_test true = off
    by_test false = tt

off_run : (run : Extent) (n s : ℕ) → (s < run.first) ⊎ (run.first + run.sectors + 8 ≤ s) → IsOff s (sector_in (run ∷ []) n)
off_run run n s away = by_test (nat_lt n run.sectors) (ltb-true n run.sectors) away
  where
    by_test : (t : Bool) → (t ≡ true → n < run.sectors) → (s < run.first) ⊎ (run.first + run.sectors + 8 ≤ s) → IsOff s (cond t (Some (run.first + n)) None)
    by_test true lt (inl low) = let below = lt refl in outside (run.first + n) s (inl (omega arith))
    by_test true lt (inr high) = let below = lt refl in outside (run.first + n) s (inr (omega arith))
    by_test false lt far = tt

off_log : (place : LogPlace) (run : Extent) (n s : ℕ) → place.runs ≡ run ∷ [] → (s < run.first) ⊎ (run.first + run.sectors + 8 ≤ s) → IsOff s (log_sector place n)
off_log place run n s one away = by_test (nat_lt (512 * n) place.initialised)
  where
    by_test : (t : Bool) → IsOff s (cond t (sector_below place.device (sector_in place.runs n)) None)
    by_test true = off_below place.device s (sector_in place.runs n) (subst (λ (runs : List Extent). IsOff s (sector_in runs n)) (sym one) (off_run run n s away))
    by_test false = tt

off_page : (s : ℕ) (o : Option ℕ) → 8 ≤ s → IsOff s o → is_within (unwrap_or o 0) 8 s ≡ false
off_page s (Some p) above off = off
off_page s None above off = outside 0 s (inr (omega arith))

none_any : {X : Type 0} (test : X → Bool) (xs : List X) → ((x : X) → test x ≡ false) → list_any test xs ≡ false
none_any test [] none = refl
none_any test (x ∷ xs) none = ap (λ (t : Bool). t || list_any test xs) (none x) ∙ none_any test xs none

not_own : (place : LogPlace) (found : List Block) (run : Extent) (s : ℕ) → found ≡ [] → place.runs ≡ run ∷ [] → 8 ≤ s → (s < run.first) ⊎ (run.first + run.sectors + 8 ≤ s) → is_own place found s ≡ false
not_own place found run s none one above away =
    ap (λ (bs : List Block). list_any (λ k. is_within (page_first place k) 8 s) (range_with_len 0 place.pages) || list_any (λ (b : Block). is_within b.first (sectors b.kind) s) bs) none
    ∙ ap (λ (t : Bool). t || false) (none_any (λ k. is_within (page_first place k) 8 s) (range_with_len 0 place.pages) (λ k. off_page s (log_sector place (8 * k)) above (off_log place run (8 * k) s one away)))

all_free : (own : ℕ → Bool) (first n : ℕ) → ((s : ℕ) → first ≤ s → s < first + n → own s ≡ false) → list_all (λ s. not (own s)) (range_with_len first n) ≡ true
all_free own first zero none = refl
all_free own first (suc n) none =
    ap (λ (t : Bool). not t && list_all (λ s. not (own s)) (range_with_len (first + 1) n)) (none first (omega arith) (omega arith))
    ∙ all_free own (first + 1) n (λ s low high. none s (omega arith) (omega arith))

beside_away : (first n s : ℕ) (run : Extent) → first ≤ s → s < first + n → (first + n ≤ run.first) ⊎ (run.first + run.sectors + 8 ≤ first) → (s < run.first) ⊎ (run.first + run.sectors + 8 ≤ s)
beside_away first n s run low high (inl le) = inl (omega arith)
beside_away first n s run low high (inr le) = inr (omega arith)

pub known_beside : (f : StoreFacts) (b : Block) → f.found ≡ [] → is_in_grid b ≡ true → IsBeside f.place.runs b → is_known (own_of f) b ≡ true
known_beside f b none grid k =
    let above = k.above in
    ap (λ (t : Bool). t && is_free (own_of f) b) grid
    ∙ all_free (own_of f) b.first (sectors b.kind) (λ s low high. not_own f.place f.found k.run s none k.one (omega arith) (beside_away b.first (sectors b.kind) s k.run low high k.away))

-- ---- rivals

found_or : (test : Block → Bool) (x b : Block) (t u some rest : Bool) → (some ≡ false → rest ≡ true → test x ≡ false) → test b ≡ t → (u ≡ true → x ≡ b) → (t || some) ≡ false → (u || rest) ≡ true → test x ≡ false
found_or test x b true u some rest more at same none it = absurd (let e = none in cc)
found_or test x b false true some rest more at same none it = ap test (same refl) ∙ at
found_or test x b false false some rest more at same none it = more none it

not_among : (test : Block → Bool) (x : Block) (bs : List Block) → list_any test bs ≡ false → list_any (same_block x) bs ≡ true → test x ≡ false
not_among test x [] none is = absurd (let e = is in cc)
not_among test x (b ∷ bs) none is =
    found_or test x b (test b) (same_block x b) (list_any test bs) (list_any (same_block x) bs) (λ behind it. not_among test x bs behind it) refl (same_block-is x b) none is

none_there : {X : Type 0} (o : Option X) → is_some o ≡ false → o ≡ None
none_there (Some x) e = absurd (let t = e in cc)
none_there None e = refl

dirty_not : (some dirty : Bool) → (some ≡ true → dirty ≡ true) → dirty ≡ false → some ≡ false
dirty_not true dirty is not_it = absurd (let e = is refl in cc)
dirty_not false dirty is not_it = refl

pub alone_by : (f : StoreFacts) (b : Block) → IsStore f → is_in_grid b ≡ true → list_any (λ c. is_some (f.before c)) (rivals_of b) ≡ false → (x : Block) → are_rivals b x ≡ true → f.before x ≡ None
alone_by f b k grid none x rival = none_there (f.before x) (elim (cases_Bool (is_in_grid x)) [
  | inl e ↦ not_among (λ c. is_some (f.before c)) x (rivals_of b) none (among_is b x grid e ∙ rival)
  | inr e ↦ dirty_not (is_some (f.before x)) (f.mark x).dirty (k.blocks.changed x) (ap (λ (m : Mark). m.dirty) (k.blocks.marked x e))
])

-- ---- lists of one

pub lone : {X : Type 0} (d : X) (xs : List X) → 1 ≤ length xs → length xs < 2 → xs ≡ get_or xs 0 d ∷ []
lone d [] some few = absurd (omega arith)
lone d (x ∷ []) some few = refl
lone d (x ∷ y ∷ xs) some few = absurd (omega arith)

pub no_items : {X : Type 0} (xs : List X) → length xs ≡ 0 → xs ≡ []
no_items [] none = refl
no_items (x ∷ xs) none = absurd (omega (arith, none))

pub denied : (t : Bool) → not t ≡ true → t ≡ false
denied true e = absurd (let is = e in cc)
denied false e = refl
