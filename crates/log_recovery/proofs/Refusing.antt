-- The blocks that a mount may not write out, by the bodies that were made.
use Rattle.std.proofs.Common.{◌≡◌, ℕ, ◌+◌, ◌<◌, length, take, get_or, Bool, true, false, not, ◌||◌, ◌&&◌, List, [], ◌∷◌, Option, Some, None, Result, Ok, Err, refl, sym, ap, ◌∙◌, subst}
use Rattle.std.specs.Prelude.{if◌then◌else◌, nat_eq, map, find, IfSome, IfOk}
use Rattle.std.specs.List.{list_any, AllByRecursion, IsDistinct}
use Rattle.std.specs.Option.{option_map}
use Rattle.std.proofs.lemmas.List.Folds.{list_any-append}
use Rattle.std.specs.BTreeSet.{BTreeSet, contains}
use Rattle.std.specs.Cmp.Lexicographic.{pointwise}
use mathlib.Core.Path.{fun_ext}
use Rattle.host_base.specs.Answers.{◌>>=◌, ExplainsOrFails, Gives, Explains}
use Rattle.host_base.proofs.Known.{both, one, always}
use Rattle.log_reading.specs.disk_model.declared.block.Block.{Block}
use Rattle.log_reading.specs.disk_model.Bodies.{BodyOf}
use Rattle.log_reading.specs.disk_model.Sectors.{same_block}
use Rattle.log_reading.specs.disk_model.Content.{Content}
use Rattle.log_reading.proofs.disk_model.Frames.{same_block-is}
use Rattle.log_reading.specs.fixup_record.Spellings.{has_spelling}
use Rattle.log_model.specs.declared.entry.Entry.{Entry}
use Rattle.log_model.specs.declared.entry.Act.{Act}
use Rattle.log_model.specs.declared.entry.Act.TheVariants.{Update, Commit}
use Rattle.log_model.specs.Logs.{block_of_kind, updates, is_shadowed, is_covered_whole, recovered, is_other, is_written_out}
use Rattle.log_reading.specs.log_page.declared.places.LogPlace.{LogPlace}
use Rattle.log_reading.specs.declared.fault.LogRefusal.{LogRefusal}
use Rattle.log_reading.specs.declared.fault.RecoveryFault.{RecoveryFault}
use Rattle.log_reading.specs.declared.fault.LogRefusal.TheVariants.{ForeignLog}
use Rattle.log_reading.specs.declared.fault.RecoveryFault.TheVariants.{Refused, Fault, Memory}
use Rattle.log_reading.specs.Views.{NeverForeign, recovery_cause}
use Rattle.log_recovery.specs.declared.found.RecoveredBlock.{RecoveredBlock}
use Rattle.log_recovery.specs.declared.whole.Recovered.{Recovered}
use Rattle.log_recovery.specs.declared.whole.RecoveredLog.{RecoveredLog}
use Rattle.log_recovery.specs.declared.writing.ToWrite.{ToWrite}
use Rattle.log_recovery.specs.Places.{key_of, key_order}
use Rattle.log_recovery.specs.Recovering.{is_updated, held_body, written_body, body_block}
use Rattle.log_recovery.specs.LogStates.{LogState, recovery_in, IsRecovered}
use Rattle.log_recovery.specs.Own.{is_own}
use Rattle.log_recovery.specs.Writing.{is_spelled, is_put_out, is_barred, updates_such, first_update, unless_foreign, to_write_in, places_where, RecoversToWrite, has_spelled, state_with, RecoversWith, bars, is_barred_among, HasBarred}
use Rattle.log_recovery.proofs.Steps.{same_self_block}
use Rattle.log_recovery.proofs.Walking.{front_is}

-- ---- among blocks that stand once

clash : {X : Type 0} → true ≡ false → X
clash e = absurd cc

-- what a test says of the body that is held
abbrev of_held : (Block → BodyOf → Bool) → Block → Option BodyOf → Bool
of_held test b None = false
of_held test b (Some body) = test b body

-- none of these is the block
no_more : (test : Block → BodyOf → Bool) (b first : Block) (rs : List RecoveredBlock) → same_block b first ≡ true → AllByRecursion (λ x. same_block first x ≡ false) (map body_block rs)
    → list_any (λ (r : RecoveredBlock). same_block b r.block && test r.block r.body) rs ≡ false
no_more test b first [] same others = refl
no_more test b first (r ∷ rs) same others =
    ap (λ (x : Block). (same_block x r.block && test r.block r.body) || list_any (λ (y : RecoveredBlock). same_block b y.block && test y.block y.body) rs) (same_block-is b first same)
    ∙ ap (λ (t : Bool). (t && test r.block r.body) || list_any (λ (y : RecoveredBlock). same_block b y.block && test y.block y.body) rs) others.0
    ∙ no_more test b first rs same others.1

any_held : (test : Block → BodyOf → Bool) (b : Block) (rs : List RecoveredBlock) → IsDistinct same_block (map body_block rs)
    → list_any (λ (r : RecoveredBlock). same_block b r.block && test r.block r.body) rs ≡ of_held test b (held_body rs b)
unfolding IsDistinct
any_held test b [] distinct = refl
any_held test b (r ∷ rs) distinct = by_test (any_held test b rs distinct.1) (same_block b r.block) refl
  where
    rest : Bool
    rest = list_any (λ (y : RecoveredBlock). same_block b y.block && test y.block y.body) rs

    or_false : (a : Bool) → (a || false) ≡ a
    or_false true = refl
    or_false false = refl

    by_test : rest ≡ of_held test b (held_body rs b) → (t : Bool) → same_block b r.block ≡ t → ((t && test r.block r.body) || rest) ≡ of_held test b (if t then Some r.body else held_body rs b)
    by_test again true same =
        ap (λ (u : Bool). test r.block r.body || u) (no_more test b r.block rs same distinct.0) ∙ or_false (test r.block r.body)
        ∙ ap (λ (x : Block). test x r.body) (sym (same_block-is b r.block same))
    by_test again false same = again

-- one more of them
pub barred_more : (such : Block → Bool) (c : Content) (bodies : List RecoveredBlock) (i : ℕ) (made : RecoveredBlock) (is : Bool) (old now : BTreeSet (ℕ × ℕ)) → i < length bodies → made ≡ get_or bodies i made → is ≡ bars such c made.block made.body
    → ((b : Block) → contains key_order now (key_of b) ≡ (contains key_order old (key_of b) || (same_block b made.block && is))) → HasBarred (is_barred_among such c (take i bodies)) old → HasBarred (is_barred_among such c (take (i + 1) bodies)) now
barred_more such c bodies i made is old now lt item said grown so_far b =
    grown b
    ∙ ap (λ (t : Bool). t || (same_block b made.block && is)) (so_far b)
    ∙ ap (λ (t : Bool). is_barred_among such c (take i bodies) b || t) (ap (λ (t : Bool). same_block b made.block && t) said ∙ sym (or_none (same_block b made.block && bars such c made.block made.body)))
    ∙ sym (list_any-append (λ (r : RecoveredBlock). same_block b r.block && bars such c r.block r.body) (take i bodies) (made ∷ []))
    ∙ sym (ap (λ (rs : List RecoveredBlock). is_barred_among such c rs b) (front_is bodies i made lt item))
  where
    or_none : (a : Bool) → (a || false) ≡ a
    or_none true = refl
    or_none false = refl

pub bars_spelled : (such : Block → Bool) (c : Content) (b : Block) (body : BodyOf) → has_spelling b.kind body.bytes ≡ true → such b ≡ bars such c b body
bars_spelled such c b body is = sym (ap (λ (t : Bool). if t then such b else not (pointwise nat_eq body.bytes (c b).bytes)) is)

-- ---- what is barred

abbrev barred_of : Bool → Bool → Bool → Bool → Bool
barred_of out spelled other own = out && (spelled || other) && (own || not spelled)

barred-is : (own : Block → Bool) (c : Content) (log : List Entry) (b : Block) → is_barred own c log b ≡ barred_of (is_written_out c log b) (is_spelled c log b) (is_other c log b) (own b)
unfolding is_barred is_put_out
barred-is own c log b = refl

other-is : (c : Content) (log : List Entry) (b : Block) → not (pointwise nat_eq (recovered c log b).bytes (c b).bytes) ≡ is_other c log b
unfolding is_other
other-is c log b = refl

by_tests : (spelled other own : Bool) → (if spelled then own else other) ≡ barred_of true spelled other own
by_tests true other true = refl
by_tests true other false = refl
by_tests false true own = sym (or_true own)
  where
    or_true : (a : Bool) → (a || true) ≡ true
    or_true true = refl
    or_true false = refl
by_tests false false own = refl

bars_written : (own : Block → Bool) (c : Content) (log : List Entry) (b : Block) → of_held (bars own c) b (written_body c log b) ≡ is_barred own c log b
bars_written own c log b = by_out (is_written_out c log b) ∙ sym (barred-is own c log b)
  where
    by_out : (out : Bool) → of_held (bars own c) b (if out then Some (recovered c log b) else None) ≡ barred_of out (is_spelled c log b) (is_other c log b) (own b)
    by_out true = ap (λ (t : Bool). if is_spelled c log b then own b else t) (other-is c log b) ∙ by_tests (is_spelled c log b) (is_other c log b) (own b)
    by_out false = refl

-- the blocks that are barred among the bodies are those that are meant
barred_alike : (own : Block → Bool) (c : Content) (log : List Entry) (bodies : List RecoveredBlock) → ((b : Block) → held_body bodies b ≡ written_body c log b) → IsDistinct same_block (map body_block bodies)
    → (b : Block) → is_barred_among own c bodies b ≡ is_barred own c log b
barred_alike own c log bodies held once b = any_held (bars own c) b bodies once ∙ ap (of_held (bars own c) b) (held b) ∙ bars_written own c log b

-- ---- an entry of a barred block

unless_same : {A B : Type 0} (o : Option ℕ) (x : A) (y : B) (e : LogRefusal) → unless_foreign o x ≡ Err e → unless_foreign o y ≡ Err e
unless_same (Some lsn) x y e is = let same : ForeignLog lsn ≡ e = cc in ap (λ (f : LogRefusal). Err f) same
unless_same None x y e is = absurd cc

unless_none : {A : Type 0} (o : Option ℕ) (x y : A) → unless_foreign o x ≡ Ok y → (o ≡ None) × (x ≡ y)
unless_none (Some lsn) x y is = absurd cc
unless_none None x y is = let same : x ≡ y = cc in (refl, same)

explained : {A B : Type 0} (o : Option ℕ) (x : A) (y : B) (e : RecoveryFault) → Explains (recovery_cause e) (unless_foreign o x) → ExplainsOrFails (recovery_cause e) (unless_foreign o y)
explained o x y (Refused refusal) h = unless_same o x y refusal h
explained o x y Fault h = absurd h
explained o x y Memory h = tt

-- ---- what is put out

-- a block of these is updated in the log, and its body is the recovered one
pub record IsMade (c : Content) (log : List Entry) (r : RecoveredBlock) : Type 0 where
  pub out : is_written_out c log r.block ≡ true
  pub body : r.body ≡ recovered c log r.block

some_out : (c : Content) (log : List Entry) (r : RecoveredBlock) → Some r.body ≡ written_body c log r.block → IsMade c log r
some_out c log r is = by_out (is_written_out c log r.block) refl is
  where
    by_out : (out : Bool) → is_written_out c log r.block ≡ out → Some r.body ≡ (if out then Some (recovered c log r.block) else None) → IsMade c log r
    by_out true o e = record { out = o; body = (let same : r.body ≡ recovered c log r.block = cc in same) }
    by_out false o e = absurd cc

-- the block is one of these
abbrev among : Block → List RecoveredBlock → Bool
among b rs = list_any (λ (r : RecoveredBlock). same_block b r.block && true) rs

each_made : (c : Content) (log : List Entry) (rs : List RecoveredBlock) → IsDistinct same_block (map body_block rs) → ((b : Block) → among b rs ≡ true → held_body rs b ≡ written_body c log b) → AllByRecursion (IsMade c log) rs
unfolding IsDistinct
each_made c log [] distinct held = tt
each_made c log (r ∷ rs) distinct held = (some_out c log r first, each_made c log rs distinct.1 (λ b there. later b there (same_block b r.block) refl))
  where
    own : same_block r.block r.block ≡ true
    own = same_self_block r.block

    first : Some r.body ≡ written_body c log r.block
    first = sym (ap (λ (t : Bool). if t then Some r.body else held_body rs r.block) own) ∙ held r.block (ap (λ (t : Bool). (t && true) || among r.block rs) own)

    or_true : (a : Bool) → (a || true) ≡ true
    or_true true = refl
    or_true false = refl

    later : (b : Block) → among b rs ≡ true → (t : Bool) → same_block b r.block ≡ t → held_body rs b ≡ written_body c log b
    later b there true same = clash (sym there ∙ no_more (λ _ _. true) b r.block rs same distinct.0)
    later b there false same =
        sym (ap (λ (t : Bool). if t then Some r.body else held_body rs b) same)
        ∙ held b (ap (λ (t : Bool). (same_block b r.block && true) || t) there ∙ or_true (same_block b r.block && true))

-- without an update of a barred block no block with an update is barred
none_first : (t : Bool) (x : Entry) (o : Option Entry) → option_map (λ (e : Entry). e.lsn) (if t then Some x else o) ≡ None → (t ≡ false) × (option_map (λ (e : Entry). e.lsn) o ≡ None)
none_first true x o e = absurd cc
none_first false x o e = (refl, e)

not_such : (such : Block → Bool) (act : Act) (b : Block) → updates_such such act ≡ false → updates b act ≡ true → such b ≡ false
not_such such (Update first kind at redo undo) b none own = ap such (same_block-is b (block_of_kind first kind) own) ∙ none
not_such such Commit b none own = absurd cc

none_updated : (such : Block → Bool) (log : List Entry) (b : Block) → first_update such log ≡ None → is_updated log b ≡ true → such b ≡ false
none_updated such [] b none updated = absurd cc
none_updated such (e ∷ log) b none updated = by_test (none_updated such log b parts.1) (updates b e.act) refl updated
  where
    parts : (updates_such such e.act ≡ false) × (first_update such log ≡ None)
    parts = none_first (updates_such such e.act) e (find (λ (x : Entry). updates_such such x.act) log) none

    by_test : (is_updated log b ≡ true → such b ≡ false) → (t : Bool) → updates b e.act ≡ t → (t || is_updated log b) ≡ true → such b ≡ false
    by_test later true own all = not_such such e.act b parts.0 own
    by_test later false own all = later all

-- with these bools a block is written out
abbrev out_of : Bool → Bool → Bool → Bool
out_of updated shadowed changed = updated && not shadowed && changed

updated_of : (updated shadowed changed : Bool) → out_of updated shadowed changed ≡ true → updated ≡ true
updated_of true shadowed changed e = refl
updated_of false shadowed changed e = absurd cc

written-is : (c : Content) (log : List Entry) (b : Block) → is_written_out c log b ≡ out_of (is_updated log b) (is_shadowed log b) (is_other c log b || ((c b).torn && is_covered_whole log b))
unfolding is_written_out
written-is c log b = refl

out_updated : (c : Content) (log : List Entry) (b : Block) → is_written_out c log b ≡ true → is_updated log b ≡ true
out_updated c log b out = updated_of (is_updated log b) (is_shadowed log b) (is_other c log b || ((c b).torn && is_covered_whole log b)) (sym (written-is c log b) ∙ out)

put_out-is : (c : Content) (log : List Entry) (b : Block) → is_put_out c log b ≡ (is_written_out c log b && (is_spelled c log b || is_other c log b))
unfolding is_put_out
put_out-is c log b = refl

spelled_or : (spelled other own : Bool) → barred_of true spelled other own ≡ false → spelled ≡ (true && (spelled || other))
spelled_or true other own e = refl
spelled_or false true true e = absurd cc
spelled_or false true false e = absurd cc
spelled_or false false own e = refl

put_out : (own : Block → Bool) (c : Content) (log : List Entry) (r : RecoveredBlock) → first_update (is_barred own c log) log ≡ None → IsMade c log r → has_spelled r ≡ is_put_out c log r.block
put_out own c log r none made =
    let free = none_updated (is_barred own c log) log r.block none (out_updated c log r.block made.out) in
    ap (λ (x : BodyOf). has_spelling r.block.kind x.bytes) made.body
    ∙ spelled_or (is_spelled c log r.block) (is_other c log r.block) (own r.block) (ap (λ (t : Bool). barred_of t (is_spelled c log r.block) (is_other c log r.block) (own r.block)) (sym made.out) ∙ sym (barred-is own c log r.block) ∙ free)
    ∙ ap (λ (t : Bool). t && (is_spelled c log r.block || is_other c log r.block)) (sym made.out)
    ∙ sym (put_out-is c log r.block)

same_places : (p q : RecoveredBlock → Bool) (i : ℕ) (rs : List RecoveredBlock) (P : RecoveredBlock → Type 0) → ((r : RecoveredBlock) → P r → p r ≡ q r) → AllByRecursion P rs → places_where p i rs ≡ places_where q i rs
same_places p q i [] P alike all = refl
same_places p q i (r ∷ rs) P alike all =
    ap (λ (t : Bool). if t then i ∷ places_where p (i + 1) rs else places_where p (i + 1) rs) (alike r all.0)
    ∙ ap (λ (l : List ℕ). if q r then i ∷ l else l) (same_places p q (i + 1) rs P alike all.1)

-- ---- all of it

to_write-is : (c : Content) (place : LogPlace) (kept : List Block) (state : LogState) → recovery_in c place ≡ Ok state
    → to_write_in c place kept ≡ unless_foreign (first_update (is_barred (is_own place kept) c state.log) state.log) state
unfolding to_write_in
to_write-is c place kept state is = ap (λ (r : Result LogState LogRefusal). r >>= λ s. unless_foreign (first_update (is_barred (is_own place kept) c s.log) s.log) s) is

to_write : (c : Content) (place : LogPlace) (kept : List Block) (found : RecoveredLog) (met : BTreeSet (ℕ × ℕ)) (result : Result ToWrite RecoveryFault) → RecoversWith c (recovery_in c place) (Ok found)
    → HasBarred (is_barred_among (is_own place kept) c found.recovered.blocks.bodies.items) met
    → Gives (λ (m : ToWrite). m.recovered) recovery_cause result (unless_foreign (first_update (λ b. contains key_order met (key_of b)) found.entries.items) found.recovered)
    → IfOk result (λ m. m.written.items ≡ places_where has_spelled 0 m.recovered.blocks.bodies.items) → RecoversToWrite c (to_write_in c place kept) result
to_write c place kept found met result whole barred gives written = by_result result (subst (λ (such : Block → Bool). Gives (λ (m : ToWrite). m.recovered) recovery_cause result (unless_foreign (first_update such log) found.recovered)) alike gives) written
  where
    log : List Entry
    log = found.entries.items

    own : Block → Bool
    own = is_own place kept

    alike : (λ (b : Block). contains key_order met (key_of b)) ≡ is_barred own c log
    alike = fun_ext (λ b. barred b ∙ barred_alike own c log found.recovered.blocks.bodies.items whole.1.bodies whole.1.once b)

    state : LogState
    state = state_with log found.recovered

    meant : to_write_in c place kept ≡ unless_foreign (first_update (is_barred own c log) log) state
    meant = to_write-is c place kept state whole.0

    by_result : (r : Result ToWrite RecoveryFault) → Gives (λ (m : ToWrite). m.recovered) recovery_cause r (unless_foreign (first_update (is_barred own c log) log) found.recovered)
        → IfOk r (λ m. m.written.items ≡ places_where has_spelled 0 m.recovered.blocks.bodies.items) → RecoversToWrite c (to_write_in c place kept) r
    by_result (Ok m) is places =
        let parts = unless_none (first_update (is_barred own c log) log) found.recovered m.recovered is in
        let blocks = whole.1 in
        let all = each_made c log found.recovered.blocks.bodies.items blocks.once (λ b _. blocks.bodies b) in
        subst (λ (s : Result LogState LogRefusal). RecoversToWrite c s (Ok m)) (sym (meant ∙ ap (λ (o : Option ℕ). unless_foreign o state) parts.0))
        record {
          recovered = subst (λ (x : Recovered). IsRecovered c state x) parts.1 (record { blocks = blocks; next_lap = refl; restart = refl; opens = refl });
          written = places ∙ subst (λ (x : Recovered). places_where has_spelled 0 x.blocks.bodies.items ≡ places_where (λ (r : RecoveredBlock). is_put_out c log r.block) 0 x.blocks.bodies.items) parts.1
              (same_places has_spelled (λ (r : RecoveredBlock). is_put_out c log r.block) 0 found.recovered.blocks.bodies.items (IsMade c log) (λ r made. put_out own c log r parts.0 made) all);
        }
    by_result (Err e) is places =
        subst (λ (s : Result LogState LogRefusal). ExplainsOrFails (recovery_cause e) s) (sym meant) (explained (first_update (is_barred own c log) log) found.recovered state e is)

pub to_write_known : (known : Option Content) (place : LogPlace) (kept : List Block) (found : RecoveredLog) (met : BTreeSet (ℕ × ℕ)) (result : Result ToWrite RecoveryFault) → IfSome known (λ c. RecoversWith c (recovery_in c place) (Ok found))
    → IfSome known (λ c. HasBarred (is_barred_among (is_own place kept) c found.recovered.blocks.bodies.items) met)
    → Gives (λ (m : ToWrite). m.recovered) recovery_cause result (unless_foreign (first_update (λ b. contains key_order met (key_of b)) found.entries.items) found.recovered)
    → IfOk result (λ m. m.written.items ≡ places_where has_spelled 0 m.recovered.blocks.bodies.items) → IfSome known (λ c. RecoversToWrite c (to_write_in c place kept) result)
to_write_known known place kept found met result whole barred gives written = both known _ _ _ (λ c w b. to_write c place kept found met result w b gives written) whole barred

-- ---- errors that are no refusals

pub never_refused : {A : Type 0} (known : Option Content) (e : RecoveryFault) (meant : Content → Result A LogRefusal) → NeverForeign e → IfSome known (λ c. ExplainsOrFails (recovery_cause e) (meant c))
never_refused known (Refused refusal) meant h = absurd h
never_refused known Fault meant h = always known _ (λ c. tt)
never_refused known Memory meant h = always known _ (λ c. tt)

-- an error of the log for reading is one of the log for writing
failed_too : {A B : Type 0} (e : RecoveryFault) (r : Result A LogRefusal) (g : A → Result B LogRefusal) → ExplainsOrFails (recovery_cause e) r → ExplainsOrFails (recovery_cause e) (r >>= g)
failed_too (Refused refusal) r g h = ap (λ (x : Result _ LogRefusal). x >>= g) h
failed_too Fault r g h = tt
failed_too Memory r g h = tt

refused_too : (c : Content) (place : LogPlace) (kept : List Block) (e : RecoveryFault) → ExplainsOrFails (recovery_cause e) (recovery_in c place) → ExplainsOrFails (recovery_cause e) (to_write_in c place kept)
unfolding to_write_in
refused_too c place kept e h = failed_too e (recovery_in c place) _ h

pub refused_known : (known : Option Content) (place : LogPlace) (kept : List Block) (e : RecoveryFault) → IfSome known (λ c. ExplainsOrFails (recovery_cause e) (recovery_in c place))
    → IfSome known (λ c. ExplainsOrFails (recovery_cause e) (to_write_in c place kept))
refused_known known place kept e h = one known _ _ (λ c p. refused_too c place kept e p) h
