-- A shadowed block, by the entries after the update of a rival.
use Rattle.std.proofs.Common.{◌≡◌, ℕ, Bool, true, false, List, [], ◌∷◌, ◌++◌, Option, Some, None, refl, sym, ap, ◌∙◌}
use Rattle.std.specs.Prelude.{◌&&◌, if◌then◌else◌, unwrap_or}
use Rattle.std.specs.List.{AllByRecursion}
use Rattle.std.specs.Option.{option_or}
use Rattle.disk_model.specs.declared.block.Block.{Block}
use Rattle.log_model.specs.declared.entry.Entry.{Entry}
use Rattle.log_model.specs.Logs.{updates, updates_rival, is_ended, act_says, last_said, is_shadowed}
use Rattle.log_model.specs.LogLaws.{RivalBehind}

-- what an entry says, by its two tests
says_nothing : (r o : Bool) → (if r then Some true else (if o then Some false else None)) ≡ None → o ≡ false
says_nothing true o h = absurd cc
says_nothing false true h = absurd cc
says_nothing false false h = refl

says_rival : (r o : Bool) → (if r then Some true else (if o then Some false else None)) ≡ Some true → r ≡ true
says_rival true o h = refl
says_rival false true h = absurd (true_false (ap (λ (x : Option Bool). unwrap_or x true) h))
  where
    true_false : false ≡ true → ⊥
    true_false e = cc
says_rival false false h = absurd cc

no_own : (r o : Bool) → o ≡ false → (w : Bool) → (if r then Some true else (if o then Some false else None)) ≡ Some w → w ≡ true
no_own true o e w h = sym (ap (λ (x : Option Bool). unwrap_or x true) h)
no_own false true e w h = absurd cc
no_own false false e w h = absurd cc

module _ (ended : ℕ → Bool) (b : Block) where
  abbrev IsNotOwn : Entry → Type 0
  IsNotOwn x = (updates b x.act && ended x.tx) ≡ false

  -- where no entry says anything, none is an ended update of the block
  none_said : (log : List Entry) → last_said ended log b ≡ None → AllByRecursion IsNotOwn log
  none_said [] h = tt
  none_said (x ∷ log) h = go (last_said ended log b) refl h (none_said log)
    where
      go : (o : Option Bool) → last_said ended log b ≡ o → option_or o (act_says b (ended x.tx) x.act) ≡ None → (last_said ended log b ≡ None → AllByRecursion IsNotOwn log) → AllByRecursion IsNotOwn (x ∷ log)
      go (Some w) is h rest = absurd cc
      go None is h rest = (says_nothing (updates_rival b x.act) (updates b x.act && ended x.tx) h, rest is)

  -- where none is, the last that says anything is an update of a rival
  rival_said : (log : List Entry) (w : Bool) → AllByRecursion IsNotOwn log → last_said ended log b ≡ Some w → w ≡ true
  rival_said [] w none h = absurd cc
  rival_said (x ∷ log) w none h = go (last_said ended log b) refl h (λ v. rival_said log v none.1)
    where
      go : (o : Option Bool) → last_said ended log b ≡ o → option_or o (act_says b (ended x.tx) x.act) ≡ Some w → ((v : Bool) → last_said ended log b ≡ Some v → v ≡ true) → w ≡ true
      go (Some v) is h rest = let same : v ≡ w = ap (λ (o : Option Bool). unwrap_or o v) h in sym same ∙ rest v is
      go None is h rest = no_own (updates_rival b x.act) (updates b x.act && ended x.tx) none.0 w h

  record Found (log : List Entry) : Type 0 where
    front : List Entry
    rival : Entry
    after : List Entry
    whole : log ≡ front ++ rival ∷ after
    is_rival : updates_rival b rival.act ≡ true
    no_own_after : AllByRecursion IsNotOwn after

  found : (log : List Entry) → last_said ended log b ≡ Some true → Found log
  found [] h = absurd cc
  found (x ∷ log) h = go (last_said ended log b) refl h (found log)
    where
      go : (o : Option Bool) → last_said ended log b ≡ o → option_or o (act_says b (ended x.tx) x.act) ≡ Some true → (last_said ended log b ≡ Some true → Found log) → Found (x ∷ log)
      go (Some w) is h rest =
          let same : w ≡ true = ap (λ (o : Option Bool). unwrap_or o w) h in
          let f = rest (is ∙ ap (λ (v : Bool). Some v) same) in
          record { front = x ∷ f.front; rival = f.rival; after = f.after; whole = ap (λ (l : List Entry). x ∷ l) f.whole; is_rival = f.is_rival; no_own_after = f.no_own_after }
      go None is h rest =
          record { front = []; rival = x; after = log; whole = refl; is_rival = says_rival (updates_rival b x.act) (updates b x.act && ended x.tx) h; no_own_after = none_said log is }

  said_here : (front : List Entry) (x : Entry) (after : List Entry) → updates_rival b x.act ≡ true → AllByRecursion IsNotOwn after → last_said ended (front ++ x ∷ after) b ≡ Some true
  said_here [] x after is none = go (last_said ended after b) refl
    where
      own : act_says b (ended x.tx) x.act ≡ Some true
      own = ap (λ (r : Bool). if r then Some true else (if updates b x.act && ended x.tx then Some false else None)) is

      go : (o : Option Bool) → last_said ended after b ≡ o → option_or (last_said ended after b) (act_says b (ended x.tx) x.act) ≡ Some true
      go (Some w) h = ap (λ (o : Option Bool). option_or o (act_says b (ended x.tx) x.act)) h ∙ ap (λ (v : Bool). Some v) (rival_said after w none h)
      go None h = ap (λ (o : Option Bool). option_or o (act_says b (ended x.tx) x.act)) h ∙ own
  said_here (y ∷ front) x after is none = ap (λ (o : Option Bool). option_or o (act_says b (ended y.tx) y.act)) (said_here front x after is none)

shadow_said : (o : Option Bool) → unwrap_or o false ≡ true → o ≡ Some true
shadow_said (Some w) h = ap (λ (v : Bool). Some v) h
shadow_said None h = absurd cc

pub shadow_found : (log : List Entry) (b : Block) → is_shadowed log b ≡ true → RivalBehind log b
unfolding is_shadowed
shadow_found log b h =
    let f = found (is_ended log) b log (shadow_said (last_said (is_ended log) log b) h) in
    record { front = f.front; rival = f.rival; after = f.after; whole = f.whole; is_rival = f.is_rival; no_own_after = f.no_own_after }

pub found_shadow : (log : List Entry) (b : Block) → RivalBehind log b → is_shadowed log b ≡ true
unfolding is_shadowed
found_shadow log b f =
    ap (λ (o : Option Bool). unwrap_or o false)
    (ap (λ (l : List Entry). last_said (is_ended log) l b) f.whole ∙ said_here (is_ended log) b f.front f.rival f.after f.is_rival f.no_own_after)
