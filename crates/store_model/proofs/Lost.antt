-- Which lists have an update of a block, and why nothing is claimed of the rivals of a block whose updates are durable.
use Rattle.std.proofs.Common.{◌≡◌, ◌⊎◌, inl, inr, ⊎_elim, ℕ, zero, suc, ◌+◌, ◌-◌, ◌<◌, ◌≤◌, Bool, true, false, List, [], ◌∷◌, ◌++◌, length, take, drop, Option, Some, None, refl, sym, ◌∙◌, ap, arith, take-append-drop}
use Rattle.std.specs.Prelude.{◌||◌, ◌&&◌, ◌==◌, not, if◌then◌else◌}
use Rattle.std.specs.Option.{option_or}
use Rattle.std.proofs.lemmas.List.{drop-drop, take_all, drop_all, take-take}
use Rattle.std.proofs.lemmas.List.Folds.{list_any-append}
use mathlib.Core.Path.{fun_ext}
use Rattle.log_model.specs.disk_model.declared.block.Block.{Block}
use Rattle.log_model.specs.disk_model.Sectors.{same_block, are_rivals}
use Rattle.log_model.specs.declared.entry.Entry.{Entry}
use Rattle.log_model.specs.Logs.{updates, updates_rival, is_ended, first_undo, last_said}
use Rattle.log_model.specs.StoreLaws.{is_named}
use Rattle.log_model.proofs.Telling.{last_said-append, none_left, none_right}
use Rattle.store_model.specs.Logs.{BodyBytes, AreUpdates, has_update, has_by, is_behind, ended_with, IsOusted}
use Rattle.store_model.specs.Geometry.{Geometry}
use Rattle.store_model.specs.Stores.{CoversWhole}
use Rattle.store_model.specs.Events.{Loses}
use Rattle.store_model.proofs.Told.{true≢false, or_left, or_right, or-false, false_true, none_false, same_self, updates_is, not_covered, rival_update, says, says_other, says_rival, Said, last_said_is}
use Rattle.store_model.proofs.Told.Said.{nothing, own as own_said, rivals}

pub has_update-append : (xs ys : List Entry) (b : Block) → has_update (xs ++ ys) b ≡ (has_update xs b || has_update ys b)
has_update-append xs ys b = list_any-append (λ (e : Entry). updates b e.act) xs ys

-- neither part has one
pub has_none : (xs ys : List Entry) (b : Block) → has_update xs b ≡ false → has_update ys b ≡ false → has_update (xs ++ ys) b ≡ false
has_none xs ys b h k = has_update-append xs ys b ∙ rw (h, k) refl

pub has_front : (xs ys : List Entry) (b : Block) → has_update (xs ++ ys) b ≡ false → has_update xs b ≡ false
has_front xs ys b h = or_left (has_update xs b) (has_update ys b) (sym (has_update-append xs ys b) ∙ h)

pub has_back : (xs ys : List Entry) (b : Block) → has_update (xs ++ ys) b ≡ false → has_update ys b ≡ false
has_back xs ys b h = or_right (has_update xs b) (has_update ys b) (sym (has_update-append xs ys b) ∙ h)

pub has_take : (n : ℕ) (l : List Entry) (b : Block) → has_update l b ≡ false → has_update (take n l) b ≡ false
has_take n l b h = has_front (take n l) (drop n l) b (ap (λ (xs : List Entry). has_update xs b) (take-append-drop n l) ∙ h)

pub has_drop : (n : ℕ) (l : List Entry) (b : Block) → has_update l b ≡ false → has_update (drop n l) b ≡ false
has_drop n l b h = has_back (take n l) (drop n l) b (ap (λ (xs : List Entry). has_update xs b) (take-append-drop n l) ∙ h)

-- a block with no update has no byte covered
pub none_covered : (l : List Entry) (b : Block) (i : ℕ) → has_update l b ≡ false → first_undo l b i ≡ None
none_covered [] b i h = refl
none_covered (e ∷ l) b i h = rw (not_covered e.act b i (or_left (updates b e.act) (has_update l b) h)) (none_covered l b i (or_right (updates b e.act) (has_update l b) h))

-- a block with a byte that isn't covered has no update
pub untouched : (geometry : Geometry) (l : List Entry) (b : Block) (j : ℕ) → CoversWhole geometry l → j < geometry.size b → first_undo l b j ≡ None → has_update l b ≡ false
untouched geometry l b j whole inside none = go (has_update l b) refl
  where
    go : (v : Bool) → has_update l b ≡ v → has_update l b ≡ false
    go true h = absurd (whole b j inside h none)
    go false h = h

-- of a block with no update nothing is said, or a rival's
pub no_own : (f : ℕ → Bool) (l : List Entry) (x : Block) → has_update l x ≡ false → (last_said f l x ≡ None) ⊎ (last_said f l x ≡ Some true)
no_own f [] x h = inl refl
no_own f (e ∷ l) x h = go (no_own f l x (or_right (updates x e.act) (has_update l x) h)) (says_other f e x (or_left (updates x e.act) (has_update l x) h))
  where
    go : (last_said f l x ≡ None) ⊎ (last_said f l x ≡ Some true) → (says f e x ≡ None) ⊎ (says f e x ≡ Some true)
        → (last_said f (e ∷ l) x ≡ None) ⊎ (last_said f (e ∷ l) x ≡ Some true)
    go (inr e) v = inr (rw e refl)
    go (inl e) (inl k) = inl (rw (e, k) refl)
    go (inl e) (inr k) = inr (rw (e, k) refl)

-- an ended update of a block is one of its updates
pub own_update : (f : ℕ → Bool) (l : List Entry) (x : Block) → last_said f l x ≡ Some false → has_update l x ≡ true
own_update f l x is = go (has_update l x) refl
  where
    go : (v : Bool) → has_update l x ≡ v → has_update l x ≡ true
    go true h = h
    go false h = ⊎_elim (λ e. absurd (none_false (sym e ∙ is))) (λ e. absurd (false_true (sym is ∙ e))) (no_own f l x h)

-- ---- which block's last update stands behind

pub or_second : (a b : Bool) → b ≡ true → (a || b) ≡ true
or_second true b h = refl
or_second false b h = h

and_left : (a b : Bool) → (a && b) ≡ true → a ≡ true
and_left true b h = refl
and_left false b h = h

and_right : (a b : Bool) → (a && b) ≡ true → b ≡ true
and_right true b h = h
and_right false b h = absurd (true≢false (sym h))

not_is : (a : Bool) → not a ≡ true → a ≡ false
not_is true h = sym h
not_is false h = refl

-- whatever is appended, but for an update of the other block, keeps this
pub behind_more : (l zs : List Entry) (b x : Block) → is_behind l b x ≡ true → has_update zs x ≡ false → is_behind (l ++ zs) b x ≡ true
behind_more [] zs b x h free = absurd (true≢false (sym h))
behind_more (e ∷ l) zs b x h free = go (λ k. behind_more l zs b x k free) (is_behind l b x) refl
  where
    same : has_update (l ++ zs) x ≡ has_update l x
    same = has_update-append l zs x ∙ rw free (or-false (has_update l x))

    go : (is_behind l b x ≡ true → is_behind (l ++ zs) b x ≡ true) → (v : Bool) → is_behind l b x ≡ v → is_behind ((e ∷ l) ++ zs) b x ≡ true
    go more true k = rw (more k) refl
    go more false k = or_second (is_behind (l ++ zs) b x) (updates b e.act && not (has_update (l ++ zs) x)) (ap (λ (v : Bool). updates b e.act && not v) same ∙ (rw k at h))

behind_back : (xs ys : List Entry) (b x : Block) → is_behind ys b x ≡ true → is_behind (xs ++ ys) b x ≡ true
behind_back [] ys b x h = h
behind_back (e ∷ xs) ys b x h = rw (behind_back xs ys b x h) refl

-- the updates of a change are of its block alone
pub updates_only : (t : ℕ) (c : Block) (us : List Entry) (b : Block) → AreUpdates t c us → same_block b c ≡ false → has_update us b ≡ false
updates_only t c [] b are apart = refl
updates_only t c (e ∷ us) b are apart = rw (updates_is e.act b c are.0.block ∙ apart) (updates_only t c us b are.1 apart)

pub updates_some : (t : ℕ) (c : Block) (us : List Entry) → AreUpdates t c us → 0 < length us → has_update us c ≡ true
updates_some t c [] are some = absurd (omega arith)
updates_some t c (e ∷ us) are some = rw (updates_is e.act c c are.0.block ∙ same_self c) refl

-- a change makes it so
pub behind_now : (l : List Entry) (t : ℕ) (c : Block) (us : List Entry) (x : Block) → AreUpdates t c us → 0 < length us → same_block x c ≡ false → is_behind (l ++ us) c x ≡ true
behind_now l t c [] x are some apart = absurd (omega arith)
behind_now l t c (e ∷ us) x are some apart = behind_back l (e ∷ us) c x
    (or_second (is_behind us c x) (updates c e.act && not (has_update us x)) (rw (updates_is e.act c c are.0.block ∙ same_self c, updates_only t c us x are.1 apart) refl))

pub behind_has : (l : List Entry) (b x : Block) → is_behind l b x ≡ true → has_update l b ≡ true
behind_has [] b x h = absurd (true≢false (sym h))
behind_has (e ∷ l) b x h = go (λ k. behind_has l b x k) (is_behind l b x) refl
  where
    go : (is_behind l b x ≡ true → has_update l b ≡ true) → (v : Bool) → is_behind l b x ≡ v → (updates b e.act || has_update l b) ≡ true
    go has true k = or_second (updates b e.act) (has_update l b) (has k)
    go has false k = rw (and_left (updates b e.act) (not (has_update l x)) (rw k at h)) refl

-- ---- what is claimed of a rival

-- an update of a block is said of its rivals
pub is_rival : (f : ℕ → Bool) (e : Entry) (b x : Block) → updates b e.act ≡ true → are_rivals x b ≡ true → says f e x ≡ Some true
is_rival f e b x is rival = rw (rival_update e.act b x is rival) refl

last_one : (o v : Option Bool) → (o ≡ None) ⊎ (o ≡ Some true) → v ≡ Some true → option_or o v ≡ Some true
last_one o v (inl k) one = rw k one
last_one o v (inr k) one = rw k refl

after_rival : (f : ℕ → Bool) (e : Entry) (l : List Entry) (x : Block) → says f e x ≡ Some true → has_update l x ≡ false → last_said f (e ∷ l) x ≡ Some true
after_rival f e l x one quiet = last_one (last_said f l x) (says f e x) (no_own f l x quiet) one

-- Of a rival nothing is claimed once the block's own updates are durable.
pub loses_behind : (l : List Entry) (d : ℕ) (b x : Block) → is_behind l b x ≡ true → has_update (drop d l) b ≡ false → are_rivals x b ≡ true → Loses l d x
loses_behind [] d b x h logged rival = absurd (true≢false (sym h))
loses_behind (e ∷ l) zero b x h logged rival = absurd (true≢false (sym (behind_has (e ∷ l) b x h) ∙ logged))
loses_behind (e ∷ l) (suc d) b x h logged rival = go (λ k. loses_behind l d b x k logged rival) (is_behind l b x) refl
  where
    go : (is_behind l b x ≡ true → Loses l d x) → (v : Bool) → is_behind l b x ≡ v → Loses (e ∷ l) (suc d) x
    go loses true k = let rest = loses k in record { ousted = rw rest.ousted refl; quiet = rest.quiet }
    go loses false k =
        let both : (updates b e.act && not (has_update l x)) ≡ true = (rw k at h) in
        let quiet : has_update l x ≡ false = not_is (has_update l x) (and_right (updates b e.act) (not (has_update l x)) both) in
        record {
          ousted = after_rival (λ t. true) e (take d l) x (is_rival (λ t. true) e b x (and_left (updates b e.act) (not (has_update l x)) both) rival) (has_take d l x quiet);
          quiet = has_drop d l x quiet;
        }

-- where all transactions count as ended, nothing said means no update
all_none : (l : List Entry) (x : Block) → last_said (λ t. true) l x ≡ None → has_update l x ≡ false
all_none [] x h = refl
all_none (e ∷ l) x h = go (all_none l x (none_left (last_said (λ t. true) l x) (says (λ t. true) e x) h)) (updates_rival x e.act) (updates x e.act) (none_right (last_said (λ t. true) l x) (says (λ t. true) e x) h)
  where
    go : has_update l x ≡ false → (v w : Bool) → ◌≡◌ {A = Option Bool} (if v then Some true else (if w && true then Some false else None)) None → (w || has_update l x) ≡ false
    go rest true w h = absurd cc
    go rest false true h = absurd (none_false (sym h))
    go rest false false h = rest

-- a block that is ousted is shadowed, whichever transactions have ended
ousted_any : (g : ℕ → Bool) (l : List Entry) (x : Block) → IsOusted l x → last_said g l x ≡ Some true
ousted_any g [] x is = is
ousted_any g (e ∷ l) x is = go (λ h. ousted_any g l x h) (last_said_is (λ t. true) l x)
  where
    is' : option_or (last_said (λ t. true) l x) (says (λ t. true) e x) ≡ Some true
    is' = is

    go : (IsOusted l x → last_said g l x ≡ Some true) → Said (last_said (λ t. true) l x) → last_said g (e ∷ l) x ≡ Some true
    go any (nothing h) = after_rival g e l x (says_rival (λ t. true) g e x (rw h at is')) (all_none l x h)
    go any (own_said h) = absurd (false_true (rw h at is'))
    go any (rivals h) = rw (any h) refl

pub ousted_more : (l zs : List Entry) (x : Block) → IsOusted l x → has_update zs x ≡ false → IsOusted (l ++ zs) x
ousted_more l zs x is quiet = last_said-append (λ t. true) l zs x ∙ ⊎_elim (λ k. rw k is) (λ k. rw k refl) (no_own (λ t. true) zs x quiet)

pub ousted_now : (l : List Entry) (t : ℕ) (c : Block) (us : List Entry) (x : Block) → AreUpdates t c us → 0 < length us → same_block x c ≡ false → are_rivals x c ≡ true → IsOusted (l ++ us) x
ousted_now l t c [] x are some apart rival = absurd (omega arith)
ousted_now l t c (e ∷ us) x are some apart rival = last_said-append (λ t. true) l (e ∷ us) x
    ∙ ap (λ (o : Option Bool). option_or o (last_said (λ t. true) l x))
    (after_rival (λ t. true) e us x (is_rival (λ t. true) e c x (updates_is e.act c c are.0.block ∙ same_self c) rival) (updates_only t c us x are.1 apart))

quiet_inside : (d p : ℕ) (l : List Entry) (x : Block) → has_update (drop d l) x ≡ false → has_update (drop d (take p l)) x ≡ false
quiet_inside zero p l x h = has_take p l x h
quiet_inside (suc d) zero l x h = refl
quiet_inside (suc d) (suc p) [] x h = refl
quiet_inside (suc d) (suc p) (e ∷ l) x h = quiet_inside d p l x h

-- what a list loses is claimed in no beginning of it that a crash may leave
pub loses_at : (l : List Entry) (d : ℕ) (x : Block) → Loses l d x → (p : ℕ) (g : ℕ → Bool) → d ≤ p → last_said g (take p l) x ≡ Some true
loses_at l d x lose p g low =
    ap (λ (xs : List Entry). last_said g xs x) (sym (take-append-drop d (take p l)))
    ∙ last_said-append g (take d (take p l)) (drop d (take p l)) x
    ∙ ⊎_elim (λ k. rw k front) (λ k. rw k refl) (no_own g (drop d (take p l)) x (quiet_inside d p l x lose.quiet))
  where
    front : last_said g (take d (take p l)) x ≡ Some true
    front = ap (λ (xs : List Entry). last_said g xs x) (take-take d p l low) ∙ ousted_any g (take d l) x lose.ousted

nothing_left : (n : ℕ) → ◌≡◌ {A = List Entry} [] (take n [])
nothing_left zero = refl
nothing_left (suc n) = refl

drop_take : (o d : ℕ) (l : List Entry) → drop o (take d l) ≡ take (d - o) (drop o l)
drop_take zero d l = ap (λ (n : ℕ). take n l) (let e : d ≡ d - 0 = omega arith in e)
drop_take (suc o) zero [] = nothing_left (0 - suc o)
drop_take (suc o) (suc d) [] = nothing_left (suc d - suc o)
drop_take (suc o) zero (e ∷ l) = ap (λ (n : ℕ). take n (drop o l)) (let k : 0 ≡ 0 - suc o = omega arith in k)
drop_take (suc o) (suc d) (e ∷ l) = drop_take o d l ∙ ap (λ (n : ℕ). take n (drop o l)) (let k : d - o ≡ suc d - suc o = omega arith in k)

-- what the whole list loses, the rest of it from a later place does, if it has an update of the block
pub loses_rest : (l : List Entry) (o d : ℕ) (x : Block) → has_update (drop o l) x ≡ true → Loses l d x → Loses (drop o l) (d - o) x
loses_rest l o d x some lose = record { ousted = ousted; quiet = quiet }
  where
    low : (o ≤ d) ⊎ (d < o)
    low = grind arith

    quiet : has_update (drop (d - o) (drop o l)) x ≡ false
    quiet = ⊎_elim (λ le. ap (λ (xs : List Entry). has_update xs x) (drop-drop (d - o) o l ∙ ap (λ (n : ℕ). drop n l) (let e : o + (d - o) ≡ d = omega (arith, le) in e)) ∙ lose.quiet)
        (λ lt. absurd (true≢false (sym some ∙ ap (λ (xs : List Entry). has_update xs x) (sym (drop-drop (o - d) d l ∙ ap (λ (n : ℕ). drop n l) (let e : d + (o - d) ≡ o = omega (arith, lt) in e))) ∙ has_drop (o - d) (drop d l) x lose.quiet))) low

    tail : List Entry
    tail = take (d - o) (drop o l)

    split : option_or (last_said (λ t. true) tail x) (last_said (λ t. true) (take o (take d l)) x) ≡ Some true
    split = ap (λ (xs : List Entry). option_or (last_said (λ t. true) xs x) (last_said (λ t. true) (take o (take d l)) x)) (sym (drop_take o d l))
        ∙ sym (last_said-append (λ t. true) (take o (take d l)) (drop o (take d l)) x)
        ∙ ap (λ (xs : List Entry). last_said (λ t. true) xs x) (take-append-drop o (take d l)) ∙ lose.ousted

    ousted : last_said (λ t. true) tail x ≡ Some true
    ousted = go (last_said_is (λ t. true) tail x)
      where
        go : Said (last_said (λ t. true) tail x) → last_said (λ t. true) tail x ≡ Some true
        go (nothing h) = absurd (true≢false (sym some ∙ ap (λ (xs : List Entry). has_update xs x) (sym (take-append-drop (d - o) (drop o l))) ∙ has_none tail (drop (d - o) (drop o l)) x (all_none tail x h) quiet))
        go (own_said h) = absurd (false_true (rw h at split))
        go (rivals h) = h

-- where all is durable, what is ousted is lost
pub loses_all : (l : List Entry) (d : ℕ) (x : Block) → d ≡ length l → IsOusted l x → Loses l d x
loses_all l d x all is = record {
  ousted = ap (λ (xs : List Entry). last_said (λ t. true) xs x) (take_all d l (omega (arith, all))) ∙ is;
  quiet = ap (λ (xs : List Entry). has_update xs x) (drop_all d l (omega (arith, all)));
}

-- ---- a transaction's updates of a block

pub has_by-append : (xs ys : List Entry) (t : ℕ) (b : Block) → has_by (xs ++ ys) t b ≡ (has_by xs t b || has_by ys t b)
has_by-append xs ys t b = list_any-append (λ (e : Entry). (e.tx == t) && updates b e.act) xs ys

pub unnamed_by : (l : List Entry) (t : ℕ) (b : Block) → is_named l t ≡ false → has_by l t b ≡ false
unnamed_by [] t b h = refl
unnamed_by (x ∷ l) t b h = rw (or_left (x.tx == t) (is_named l t) h) (unnamed_by l t b (or_right (x.tx == t) (is_named l t) h))

-- where a transaction has no update of the block, its end says nothing of it
pub said_unmine : (t : ℕ) (l : List Entry) (b : Block) → has_by l t b ≡ false → last_said (ended_with t l) l b ≡ last_said (is_ended l) l b
said_unmine t l b n = go (is_ended l) l n
  where
    pick : (r u k f : Bool) → (k && u) ≡ false → ◌≡◌ {A = Option Bool} (if r then Some true else (if u && (f || k) then Some false else None)) (if r then Some true else (if u && f then Some false else None))
    pick true u k f h = refl
    pick false false k f h = refl
    pick false true true f h = absurd (true≢false h)
    pick false true false f h = rw (or-false f) refl

    go : (f : ℕ → Bool) (l : List Entry) → has_by l t b ≡ false → last_said (λ u. f u || (u == t)) l b ≡ last_said f l b
    go f [] n = refl
    go f (x ∷ l) n =
        let one : says (λ u. f u || (u == t)) x b ≡ says f x b = pick (updates_rival b x.act) (updates b x.act) (x.tx == t) (f x.tx) (or_left ((x.tx == t) && updates b x.act) (has_by l t b) n) in
        rw (go f l (or_right ((x.tx == t) && updates b x.act) (has_by l t b) n), one) refl

-- the same body in other words
pub moved_fit : (geometry : Geometry) (b : Block) (i x : ℕ) (f g : BodyBytes) → ((j : ℕ) → g j ≡ f j) → (geometry.has_spelling b f ≡ true) ⊎ (x ≡ f i) → (geometry.has_spelling b g ≡ true) ⊎ (x ≡ g i)
moved_fit geometry b i x f g same (inl k) = inl (ap (geometry.has_spelling b) (fun_ext same) ∙ k)
moved_fit geometry b i x f g same (inr k) = inr (k ∙ sym (same i))
