-- A log that isn't refused leaves the blocks by which it is found.
use Rattle.std.proofs.Common.{◌≡◌, ℕ, Bool, true, false, not, ◌&&◌, ◌||◌, cond, List, [], ◌∷◌, ◌++◌, find, Option, Some, None, Ok, refl, sym, ap, ◌∙◌, subst, inl, inr}
use Rattle.std.specs.Prelude.{nat_eq, ⊤}
use Rattle.std.specs.List.{list_any}
use Rattle.std.specs.Option.{option_map}
use Rattle.std.specs.Cmp.Lexicographic.{pointwise}
use Rattle.std.proofs.lemmas.Bool.{cases_Bool, and_parts, eqb-true}
use Rattle.disk_model.specs.declared.block.Block.{Block}
use Rattle.disk_model.specs.Sectors.{same_block}
use Rattle.disk_model.specs.Bodies.{BodyOf}
use Rattle.disk_model.specs.Content.{Content}
use Rattle.disk_model.specs.Writes.{Write, bytes_after}
use Rattle.disk_model.proofs.Frames.{same_block-is}
use Rattle.record_model.proofs.Answering.{steps_from_ok}
use Rattle.log_model.specs.declared.entry.Entry.{Entry}
use Rattle.log_model.specs.declared.entry.Act.{Act}
use Rattle.log_model.specs.declared.entry.Act.TheVariants.{Update, Commit}
use Rattle.log_model.specs.Logs.{updates, block_of_kind, is_shadowed, is_ended, is_other, is_written_out, redo_of, undo_of, redos, undos_back, recovery_of, recovered}
use Rattle.log_model.proofs.Recovering.{stays, changes}
use Rattle.log_laws.specs.log_page.declared.places.LogPlace.{LogPlace}
use Rattle.volume_mount.specs.log_recovery.LogStates.{LogState, recovery_in}
use Rattle.volume_mount.specs.log_recovery.Own.{is_own}
use Rattle.volume_mount.specs.log_recovery.Writing.{is_spelled, is_put_out, is_barred, updates_such, first_update, unless_foreign, to_write_in}

-- ---- no update of a barred block

abbrev pub is_updated : List Entry → Block → Bool
is_updated log b = list_any (λ (e : Entry). updates b e.act) log

or_none : (t u : Bool) → (t || u) ≡ false → (t ≡ false) × (u ≡ false)
or_none true u e = absurd cc
or_none false u e = (refl, e)

act_such : (such : Block → Bool) (b : Block) (act : Act) → updates b act ≡ true → updates_such such act ≡ false → such b ≡ false
act_such such b (Update first kind at redo undo) is none = ap such (same_block-is b (block_of_kind first kind) is) ∙ none
act_such such b Commit is none = absurd cc

found_none : (t : Bool) (e : Entry) (rest : Option Entry) → option_map (λ (x : Entry). x.lsn) (cond t (Some e) rest) ≡ None → (t ≡ false) × (option_map (λ (x : Entry). x.lsn) rest ≡ None)
found_none true e rest is = absurd cc
found_none false e rest is = (refl, is)

any_of : (such : Block → Bool) (b : Block) (act : Act) (t rest : Bool) → updates b act ≡ t → (t || rest) ≡ true → updates_such such act ≡ false → (rest ≡ true → such b ≡ false) → such b ≡ false
any_of such b act true rest is some none later = act_such such b act is none
any_of such b act false rest is some none later = later some

pub not_such : (such : Block → Bool) (log : List Entry) (b : Block) → first_update such log ≡ None → is_updated log b ≡ true → such b ≡ false
not_such such [] b none is = absurd cc
not_such such (e ∷ log) b none is =
    let parts = found_none (updates_such such e.act) e (find (λ (x : Entry). updates_such such x.act) log) none in
    any_of such b e.act (updates b e.act) (is_updated log b) refl is parts.0 (λ later. not_such such log b parts.1 later)

unless_ok : (lsn : Option ℕ) (x y : LogState) → unless_foreign lsn x ≡ Ok y → (lsn ≡ None) × (x ≡ y)
unless_ok None x y e = (refl, cc)
unless_ok (Some lsn) x y e = absurd cc

pub none_barred : (c : Content) (place : LogPlace) (kept : List Block) (state : LogState) → to_write_in c place kept ≡ Ok state → first_update (is_barred (is_own place kept) c state.log) state.log ≡ None
unfolding to_write_in
none_barred c place kept state is =
    let read = steps_from_ok (recovery_in c place) (λ (s : LogState). unless_foreign (first_update (is_barred (is_own place kept) c s.log) s.log) s) state is in
    let u = unless_ok (first_update (is_barred (is_own place kept) c read.0.log) read.0.log) read.0 state read.2 in
    subst (λ (s : LogState). first_update (is_barred (is_own place kept) c s.log) s.log ≡ None) u.1 u.0

-- ---- its bytes stay

others_say : (updated shadowed other whole spelled own : Bool) → updated ≡ true → shadowed ≡ false → own ≡ true → ((updated && not shadowed && (other || whole)) && (spelled || other)) && (own || not spelled) ≡ false → other ≡ false
others_say true false false whole spelled true u s o e = refl
others_say true false true whole true true u s o e = absurd cc
others_say true false true whole false true u s o e = absurd cc
others_say true true other whole spelled own u s o e = absurd cc
others_say false shadowed other whole spelled own u s o e = absurd cc
others_say true false other whole spelled false u s o e = absurd cc

-- an update of a block that is kept changes nothing
same_told : (c : Content) (place : LogPlace) (kept : List Block) (log : List Entry) (b : Block) → first_update (is_barred (is_own place kept) c log) log ≡ None → is_own place kept b ≡ true → is_updated log b ≡ true → is_shadowed log b ≡ false → is_other c log b ≡ false
unfolding is_barred is_put_out is_written_out
same_told c place kept log b none own updated seen = others_say (is_updated log b) (is_shadowed log b) (is_other c log b) _ (is_spelled c log b) (is_own place kept b) updated seen own (not_such (is_barred (is_own place kept) c log) log b none updated)

same_from_test : (xs ys : List ℕ) → pointwise nat_eq xs ys ≡ true → xs ≡ ys
same_from_test [] [] e = refl
same_from_test [] (y ∷ ys) e = absurd cc
same_from_test (x ∷ xs) [] e = absurd cc
same_from_test (x ∷ xs) (y ∷ ys) e =
    let parts = and_parts (nat_eq x y) (pointwise nat_eq xs ys) e in
    ap (λ (n : ℕ). n ∷ xs) (eqb-true x y parts.0) ∙ ap (λ (l : List ℕ). y ∷ l) (same_from_test xs ys parts.1)

not_not : (t : Bool) → not t ≡ false → t ≡ true
not_not true e = refl
not_not false e = absurd cc

told_bytes : (c : Content) (log : List Entry) (b : Block) → is_other c log b ≡ false → (recovered c log b).bytes ≡ (c b).bytes
unfolding is_other
told_bytes c log b e = same_from_test (recovered c log b).bytes (c b).bytes (not_not (pointwise nat_eq (recovered c log b).bytes (c b).bytes) e)

-- ---- no write to a block without an update

abbrev AreElsewhere : Block → List Write → Type 0
AreElsewhere b [] = ⊤
AreElsewhere b (w ∷ ws) = (same_block b w.block ≡ false) × AreElsewhere b ws

both_elsewhere : (b : Block) (ws more : List Write) → AreElsewhere b ws → AreElsewhere b more → AreElsewhere b (ws ++ more)
both_elsewhere b [] more h k = k
both_elsewhere b (w ∷ ws) more h k = (h.0, both_elsewhere b ws more h.1 k)

undo_elsewhere : (b : Block) (act : Act) → updates b act ≡ false → AreElsewhere b (undo_of act)
undo_elsewhere b (Update first kind at redo undo) e = (e, tt)
undo_elsewhere b Commit e = tt

redo_elsewhere : (b : Block) (ended : Bool) (act : Act) → updates b act ≡ false → AreElsewhere b (redo_of ended act)
redo_elsewhere b true (Update first kind at redo undo) e = (e, tt)
redo_elsewhere b true Commit e = tt
redo_elsewhere b false act e = tt

undos_elsewhere : (log : List Entry) (b : Block) → is_updated log b ≡ false → AreElsewhere b (undos_back log)
undos_elsewhere [] b e = tt
undos_elsewhere (x ∷ log) b e =
    let parts = or_none (updates b x.act) (is_updated log b) e in
    both_elsewhere b (undos_back log) (undo_of x.act) (undos_elsewhere log b parts.1) (undo_elsewhere b x.act parts.0)

redos_elsewhere : (ended : ℕ → Bool) (log : List Entry) (b : Block) → is_updated log b ≡ false → AreElsewhere b (redos ended log)
redos_elsewhere ended [] b e = tt
redos_elsewhere ended (x ∷ log) b e =
    let parts = or_none (updates b x.act) (is_updated log b) e in
    both_elsewhere b (redo_of (ended x.tx) x.act) (redos ended log) (redo_elsewhere b (ended x.tx) x.act parts.0) (redos_elsewhere ended log b parts.1)

bytes_elsewhere : (writes : List Write) (b : Block) (bytes : List ℕ) → AreElsewhere b writes → bytes_after writes b bytes ≡ bytes
bytes_elsewhere [] b bytes h = refl
bytes_elsewhere (w ∷ writes) b bytes h = rw h.0 (bytes_elsewhere writes b bytes h.1)

not_updated : (c : Content) (log : List Entry) (b : Block) → is_shadowed log b ≡ false → is_updated log b ≡ false → (recovered c log b).bytes ≡ (c b).bytes
not_updated c log b seen none =
    ap (λ (x : BodyOf). x.bytes) (changes c log b seen)
    ∙ bytes_elsewhere (recovery_of log) b (c b).bytes (both_elsewhere b (undos_back log) (redos (is_ended log) log) (undos_elsewhere log b none) (redos_elsewhere (is_ended log) log b none))

-- ---- the block stays

torn_stays : (c : Content) (log : List Entry) (b : Block) → (c b).torn ≡ false → is_shadowed log b ≡ false → (recovered c log b).torn ≡ false
torn_stays c log b whole seen = ap (λ (x : BodyOf). x.torn) (changes c log b seen) ∙ rw whole refl

abbrev body_of : List ℕ → Bool → BodyOf
body_of bytes torn = record { bytes = bytes; torn = torn }

-- A block that has a sector of those by which the log is found, and isn't torn, is the same after recovery.
pub kept_stays : (c : Content) (place : LogPlace) (kept : List Block) (state : LogState) (b : Block) → to_write_in c place kept ≡ Ok state → is_own place kept b ≡ true → (c b).torn ≡ false → recovered c state.log b ≡ c b
kept_stays c place kept state b is own whole =
    elim (cases_Bool (is_shadowed state.log b)) [
      | inl shadowed ↦ stays c state.log b shadowed
      | inr seen ↦ (let torn = torn_stays c state.log b whole seen in
          let same : (recovered c state.log b).bytes ≡ (c b).bytes = elim (cases_Bool (is_updated state.log b)) [
            | inl updated ↦ told_bytes c state.log b (same_told c place kept state.log b (none_barred c place kept state is) own updated seen)
            | inr none ↦ not_updated c state.log b seen none
          ] in
          ap (λ (x : List ℕ). body_of x (recovered c state.log b).torn) same ∙ ap (λ (t : Bool). body_of (c b).bytes t) (torn ∙ sym whole))
    ]
