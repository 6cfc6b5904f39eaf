-- Marks of bytes that are covered.
use Rattle.std.proofs.Common.{◌≡◌, ℕ, zero, suc, ◌+◌, ◌*◌, ◌<◌, ◌≤◌, Bool, true, false, ◌||◌, ◌&&◌, List, [], ◌∷◌, length, take, get_or, set, replicate, refl, sym, ap, ◌∙◌, arith}
use Rattle.std.specs.Prelude.{nat_le, nat_lt, ◌==◌}
use Rattle.std.proofs.lemmas.Bool.{eq-eqb, eqb-true}
use Rattle.std.specs.List.{list_any, list_all, range_with_len}
use Rattle.std.specs.Borrow.{Bor}
use Rattle.std.proofs.lemmas.List.{get_or-set_same, get_or-set_other, take_all}
use Rattle.std.proofs.lemmas.List.Folds.{list_any-append}
use Rattle.log_reading.specs.disk_model.declared.block.Block.{Block}
use Rattle.log_reading.specs.disk_model.Sectors.{sectors}
use Rattle.log_model.specs.declared.entry.Entry.{Entry}
use Rattle.log_model.specs.Logs.{covers, is_covered_whole}
use Rattle.log_recovery.specs.Groups.{lent}
use Rattle.log_recovery.proofs.Walking.{lent_front}

-- ---- one place more

or_true : (a : Bool) → (a || true) ≡ true
or_true true = refl
or_true false = refl

or_false : (a : Bool) → (a || false) ≡ a
or_false true = refl
or_false false = refl

clash : true ≡ false → ⊥
clash e = cc

inside : (at i j : ℕ) → at ≤ i → j ≡ i → (nat_le at j && nat_lt j (i + 1)) ≡ true
inside at i j low is = grind arith

beside : (at i j : ℕ) → (j ≡ i → ⊥) → (nat_le at j && nat_lt j (i + 1)) ≡ (nat_le at j && nat_lt j i)
beside at i j other = grind arith

-- the place with this number is marked
pub marked_more : (marks : List Bool) (at i : ℕ) (old : ℕ → Bool) → at ≤ i → i < length marks → ((j : ℕ) → get_or marks j false ≡ (old j || (nat_le at j && nat_lt j i)))
    → (j : ℕ) → get_or (set marks i true) j false ≡ (old j || (nat_le at j && nat_lt j (i + 1)))
marked_more marks at i old low lt so_far j = by (j == i) refl
  where
    by : (t : Bool) → (j == i) ≡ t → get_or (set marks i true) j false ≡ (old j || (nat_le at j && nat_lt j (i + 1)))
    by true e =
        let is = eqb-true j i e in
        ap (λ (k : ℕ). get_or (set marks i true) k false) is ∙ get_or-set_same marks i true false lt
        ∙ sym (or_true (old j)) ∙ ap (λ (t : Bool). old j || t) (sym (inside at i j low is))
    by false e =
        let differ : j ≡ i → ⊥ = λ is. clash (sym (eq-eqb j i is) ∙ e) in
        get_or-set_other marks i j true false differ ∙ so_far j ∙ ap (λ (t : Bool). old j || t) (sym (beside at i j differ))

-- ---- all places

and_both : (s t u v : Bool) → s ≡ t → u ≡ v → (s && u) ≡ (t && v)
and_both s t u v e f = ap (λ (x : Bool). x && u) e ∙ ap (λ (x : Bool). t && x) f

all_from : (p : ℕ → Bool) (marks : List Bool) (at : ℕ) → ((i : ℕ) → get_or marks i false ≡ p (at + i)) → list_all (λ (m : Bool). m) marks ≡ list_all p (range_with_len at (length marks))
all_from p [] at is = refl
all_from p (m ∷ marks) at is =
    let here : at + 0 ≡ at = omega arith in
    and_both m (p at) _ _ (is 0 ∙ ap p here) (all_from p marks (at + 1) (λ i. let next : at + suc i ≡ (at + 1) + i = omega arith in is (suc i) ∙ ap p next))

abbrev any_covers : List Entry → Block → ℕ → Bool
any_covers log b i = list_any (λ (e : Entry). covers b i e.act) log

-- one entry more
pub covered_more : (group : List (Bor Entry)) (k : ℕ) (e : Bor Entry) (b : Block) (old new : List Bool) → k < length group → e ≡ get_or group k e → ((i : ℕ) → get_or new i false ≡ (get_or old i false || covers b i e.now.act))
    → ((i : ℕ) → get_or old i false ≡ list_any (λ (x : Entry). covers b i x.act) (lent (take k group))) → (i : ℕ) → get_or new i false ≡ list_any (λ (x : Entry). covers b i x.act) (lent (take (k + 1) group))
covered_more group k e b old new lt is made so_far i =
    made i ∙ ap (λ (t : Bool). t || covers b i e.now.act) (so_far i) ∙ ap (λ (t : Bool). any_covers (lent (take k group)) b i || t) (sym (or_false (covers b i e.now.act)))
    ∙ sym (list_any-append (λ (x : Entry). covers b i x.act) (lent (take k group)) (e.now ∷ [])) ∙ sym (ap (λ (xs : List Entry). any_covers xs b i) (lent_front group k e lt is))

-- where all entries were looked at
pub all_marked : (group : List (Bor Entry)) (k : ℕ) (b : Block) (marks : List Bool) → length group ≤ k → length marks ≡ 512 * sectors b.kind → ((i : ℕ) → get_or marks i false ≡ list_any (λ (x : Entry). covers b i x.act) (lent (take k group)))
    → list_all (λ m. m) marks ≡ is_covered_whole (lent group) b
unfolding is_covered_whole
all_marked group k b marks past size so_far =
    all_from (any_covers (lent group) b) marks 0 (λ i. let here : i ≡ 0 + i = omega arith in so_far i ∙ ap (λ (xs : List (Bor Entry)). any_covers (lent xs) b i) (take_all k group past) ∙ ap (any_covers (lent group) b) here)
    ∙ ap (λ (n : ℕ). list_all (any_covers (lent group) b) (range_with_len 0 n)) size

-- no place is marked
pub none_marked : (n i : ℕ) → get_or (replicate n false) i false ≡ false
none_marked zero i = refl
none_marked (suc n) zero = refl
none_marked (suc n) (suc i) = none_marked n i
