-- What the steps of restart pages are proved by.
use Rattle.std.proofs.Common.{◌≡◌, ◌≢◌, ◌⊎◌, ℕ, suc, ◌<◌, ◌≤◌, max, Bool, true, false, cond, List, [], ◌∷◌, Option, Some, None, Result, Ok, Err, refl, sym, ap, ◌∙◌, inl, inr, arith}
use Rattle.std.specs.Prelude.{Contains, nat_lt, ◌==◌, ◌&&◌, ◌||◌, is_ok}
use Rattle.std.proofs.lemmas.Bool.{cases_eq, cases_lt, eq-eqb, lt-ltb, le-ltb, ne_eqb, and_parts}
use Rattle.log_reading.specs.disk_model.Fixups.{fixup_of, restored}
use Rattle.log_reading.specs.log_page.declared.restart.Restart.{Restart}
use Rattle.log_reading.specs.log_page.declared.fault.PageFault.{PageFault}
use Rattle.log_reading.specs.log_page.Restarts.{is_restart_page, is_whole_restart, restart_of, is_newer, whole_one, chosen}
use Rattle.store_model.specs.Rings.{PagePlaces, newest_page, PlaceMayHold, Restarts, restart_place, AreRestarts, greater_page}
use Rattle.store_model.specs.Rings.RestartStep.{write_page, write_page_fails}
use Rattle.store_model.proofs.Rings.{restarts-step}
use Rattle.ring_laws.specs.RestartPages.{IsBelow, said_restart, restart_written, restart_sent}
use Rattle.ring_laws.proofs.RingFacts.{put_value, puts_value, with_page}

-- ---- the two places

pub other_place : (n : ℕ) → restart_place n ≢ restart_place (suc n)
other_place n e = omega (arith, e)

pub one_of_two : (n k : ℕ) → k < 2 → (k ≡ restart_place n) ⊎ (k ≡ restart_place (suc n))
one_of_two n k lt = grind (arith, lt)

pub place_below : (n : ℕ) → restart_place n < 2
place_below n = omega arith

pub place_again : (n : ℕ) → restart_place (suc (suc n)) ≡ restart_place n
place_again n = omega arith

pub newest_held : (p : PagePlaces) (k : ℕ) → PlaceMayHold p k (newest_page (p.written k) (p.durable k))
newest_held p k = go (p.written k)
  where
    go : (vs : List (Option ℕ)) → (newest_page vs (p.durable k) ≡ p.durable k) ⊎ Contains vs (newest_page vs (p.durable k))
    go [] = inl refl
    go (v ∷ vs) = inr (0, omega arith, refl)

-- ---- which page is chosen

newer_current : (a b : Restart) → a.current < b.current → is_newer a b ≡ true
newer_current a b lt = ap (λ (v : Bool). v || ((a.current == b.current) && nat_lt a.opens b.opens)) (lt-ltb a.current b.current lt)

pub newer_opens : (a b : Restart) → a.current ≡ b.current → a.opens < b.opens → is_newer a b ≡ true
newer_opens a b same lt = rw (le-ltb a.current b.current (omega (arith, same)), eq-eqb a.current b.current same, lt-ltb a.opens b.opens lt) refl

not_newer : (a b : Restart) → is_newer b a ≡ true → is_newer a b ≡ false
not_newer a b newer = elim (cases_lt a.current b.current) [
  | inl less ↦ absurd (clash (sym newer ∙ older b a less))
  | inr more ↦ elim (cases_eq a.current b.current) [
    | inr apart ↦ rw (le-ltb a.current b.current more, ne_eqb a.current b.current apart) refl
    | inl same ↦ elim (cases_lt a.opens b.opens) [
      | inl few ↦ absurd (clash (sym newer ∙ fewer b a (sym same) (omega (arith, few))))
      | inr many ↦ fewer a b same many
    ]
  ]
]
  where
    clash : true ≢ false
    clash e = cc

    older : (a b : Restart) → b.current < a.current → is_newer a b ≡ false
    older a b less = rw (le-ltb a.current b.current (omega (arith, less)), ne_eqb a.current b.current (λ e. omega (arith, less, e))) refl

    fewer : (a b : Restart) → a.current ≡ b.current → b.opens ≤ a.opens → is_newer a b ≡ false
    fewer a b same le = rw (le-ltb a.current b.current (omega (arith, same)), eq-eqb a.current b.current same, le-ltb a.opens b.opens le) refl

pub picks_first : (a b : Result Restart PageFault) → IsBelow (whole_one b) (whole_one a) → chosen a b ≡ whole_one a
picks_first (Ok a) (Ok b) below = ap (λ (v : Bool). cond v (Some b) (Some a)) (not_newer a b below)
picks_first (Ok a) (Err e) below = refl
picks_first (Err e) (Ok b) below = absurd below
picks_first (Err e) (Err f) below = refl

pub picks_second : (a b : Result Restart PageFault) → IsBelow (whole_one b) (whole_one a) → chosen b a ≡ whole_one a
picks_second (Ok a) (Ok b) below = ap (λ (v : Bool). cond v (Some a) (Some b)) below
picks_second (Ok a) (Err e) below = refl
picks_second (Err e) (Ok b) below = absurd below
picks_second (Err e) (Err f) below = refl

-- ---- pages that aren't whole

pub not_whole : (raw : List ℕ) → is_whole_restart raw ≡ false → said_restart raw ≡ None
unfolding restart_of
not_whole raw torn = rw torn refl

pub restart_fixups : (raw : List ℕ) → is_whole_restart raw ≡ true → is_ok (fixup_of raw) ≡ true
unfolding is_whole_restart
restart_fixups raw whole = (and_parts (is_ok (fixup_of raw)) (is_restart_page (restored raw)) whole).0

-- ---- numbers of two places

greater_swap : (a b : Option ℕ) → greater_page a b ≡ greater_page b a
greater_swap None None = refl
greater_swap None (Some n) = refl
greater_swap (Some m) None = refl
greater_swap (Some m) (Some n) = ap (λ (k : ℕ). Some k) (let e : max m n ≡ max n m = omega arith in e)

pub chosen_of_two : (numbers : ℕ → Option ℕ) (n : ℕ) → greater_page (numbers 0) (numbers 1) ≡ greater_page (numbers (restart_place n)) (numbers (restart_place (suc n)))
chosen_of_two numbers n = elim (one_of_two n 0 (omega arith)) [
  | inl here ↦ ap (λ (k : ℕ). greater_page (numbers k) (numbers 1)) here ∙ ap (λ (k : ℕ). greater_page (numbers (restart_place n)) (numbers k)) (let e : 1 ≡ restart_place (suc n) = omega (arith, here) in e)
  | inr there ↦ greater_swap (numbers 0) (numbers 1) ∙ ap (λ (k : ℕ). greater_page (numbers k) (numbers 0)) (let e : 1 ≡ restart_place n = omega (arith, there) in e)
      ∙ ap (λ (k : ℕ). greater_page (numbers (restart_place n)) (numbers k)) there
]

-- ---- the next page is begun

module _ (q : Restarts) (are : AreRestarts q) (early : q.done ≡ false) (x : Option ℕ) where
  abbrev k : ℕ
  k = restart_place (suc q.sure)

  abbrev one : PagePlaces
  one = put_value q.places k (Some (suc q.sure))

  abbrev two : PagePlaces
  two = put_value one k None

  twice : AreRestarts (restart_sent q two)
  twice = restarts-step (restart_sent q one) (restart_sent q two) (write_page_fails None two early (puts_value restart_place (suc q.sure) None one (inr refl)))
      (restarts-step q (restart_sent q one) (write_page_fails (Some (suc q.sure)) one early (puts_value restart_place (suc q.sure) (Some (suc q.sure)) q.places (inl refl))) are)

  pub restart_fails : (x ≡ Some (suc q.sure)) ⊎ (x ≡ None) → AreRestarts (restart_sent q (with_page q.places k (suc q.sure) x))
  restart_fails whole = restarts-step (restart_sent q two) (restart_sent q (with_page q.places k (suc q.sure) x))
      (write_page_fails x (with_page q.places k (suc q.sure) x) early (puts_value restart_place (suc q.sure) x two whole)) twice

  pub restart_is_written : AreRestarts (restart_written q (with_page q.places k (suc q.sure) (Some (suc q.sure))))
  restart_is_written = restarts-step (restart_sent q two) (restart_written q (with_page q.places k (suc q.sure) (Some (suc q.sure))))
      (write_page (with_page q.places k (suc q.sure) (Some (suc q.sure))) early (puts_value restart_place (suc q.sure) (Some (suc q.sure)) two (inl refl))) twice
