-- Steps of a load, one after the other, over a content that may be known.
use Rattle.std.proofs.Common.{◌≡◌, ℕ, zero, suc, ◌+◌, ◌-◌, ◌<◌, ◌≤◌, List, [], Option, Some, None, Result, Ok, Err, refl, sym, ap, ◌∙◌, arith}
use Rattle.std.specs.Prelude.{IfSome, OnOk, option_map}
use Rattle.std.proofs.lemmas.List.FromFn.{map-range_with_len_more}
use Rattle.volume_model.specs.host_base.Answers.{◌>>=◌, Explains, ExplainsOrFails, Gives, GivesOrFails}
use Rattle.volume_model.proofs.host_base.Known.{both, one, always}
use Rattle.stream_map.specs.disk_model.declared.block.Block.{Block}
use Rattle.stream_map.specs.disk_model.declared.block.BlockKind.{BlockKind}
use Rattle.stream_map.specs.disk_model.Content.{Content}
use Rattle.record_model.specs.declared.runs.Run.{Run}
use Rattle.record_model.specs.Records.{Record, record_at}
use Rattle.state_model.specs.declared.geometry.Geometry.{Geometry}
use Rattle.state_model.specs.declared.stream.Extents.{Extents}
use Rattle.state_model.specs.declared.geometry.MapRefusal.{MapRefusal}
use Rattle.state_model.specs.declared.geometry.MapRefusal.TheVariants.{BadRecord}
use Rattle.state_model.specs.Streams.{block_at}
use Rattle.state_model.specs.Loads.{Slot, first_of, torn_refusal, unless, records_of, used_record, broken_rule, rule_refusal, slot_by, boot_block, judged, extents_in, table_of}
use Rattle.volume_map.specs.declared.fault.MapFault.{MapFault}
use Rattle.volume_map.specs.declared.fault.MapFault.TheVariants as faults
use Rattle.volume_map.specs.declared.walk.Walk.{Walk}
use Rattle.volume_map.specs.Errors.{map_cause}
use Rattle.volume_map.specs.Stages.{rules_of, WalkedBelow, Notes, WalksOrFails, WalksAll}

-- ---- causes

abbrev pub okay : {Y : Type 0} → Y → Result Y MapRefusal
okay x = Ok x

pub later_error : {A B : Type 0} (e : MapFault) (f : Result A MapRefusal) (g : A → Result B MapRefusal) → Explains (map_cause e) f → ExplainsOrFails (map_cause e) (f >>= g)
later_error (faults.Refused r) f g h = ap (λ x. x >>= g) h
later_error faults.View f g h = absurd h
later_error faults.Memory f g h = tt

failed_error : {A B : Type 0} (e : MapFault) (f : Result A MapRefusal) (g : A → Result B MapRefusal) → ExplainsOrFails (map_cause e) f → ExplainsOrFails (map_cause e) (f >>= g)
failed_error (faults.Refused r) f g h = ap (λ x. x >>= g) h
failed_error faults.View f g h = tt
failed_error faults.Memory f g h = tt

or_fails : {Y : Type 0} (e : MapFault) (meant : Result Y MapRefusal) → Explains (map_cause e) meant → ExplainsOrFails (map_cause e) meant
or_fails (faults.Refused r) meant h = h
or_fails faults.View meant h = absurd h
or_fails faults.Memory meant h = tt

pub gives_or_fails : {X Y : Type 0} (view : X → Y) (result : Result X MapFault) (meant : Result Y MapRefusal) → Gives view map_cause result meant → GivesOrFails view map_cause result meant
gives_or_fails view (Ok x) meant h = h
gives_or_fails view (Err e) meant h = or_fails e meant h

-- a value that is certain is met by no refusal
pub certain : {Y B : Type 0} (e : MapFault) (x : Y) (f : Result B MapRefusal) → ExplainsOrFails (map_cause e) (okay x) → ExplainsOrFails (map_cause e) f
certain (faults.Refused r) x f h = absurd cc
certain faults.View x f h = tt
certain faults.Memory x f h = tt

pub okay_is : {A : Type 0} (x y : A) → okay x ≡ okay y → x ≡ y
okay_is x y e = cc

-- an error of the first step is that of both
pub fails_first : {X Y A B : Type 0} (known : Option Content) (view : X → A) (view' : Y → B) (e : MapFault) (f : Content → Result A MapRefusal) (g : Content → A → Result B MapRefusal)
    → IfSome known (λ c. GivesOrFails {X = X} view map_cause (Err e) (f c)) → IfSome known (λ c. GivesOrFails {X = Y} view' map_cause (Err e) (f c >>= g c))
fails_first known view view' e f g h = one known _ _ (λ c p. failed_error e (f c) (g c) p) h

-- the second step goes on with the value of the first
pub goes_on : {Y A B : Type 0} (known : Option Content) (view : Y → B) (x : A) (result : Result Y MapFault) (f : Content → Result A MapRefusal) (g : Content → A → Result B MapRefusal)
    → IfSome known (λ c. f c ≡ Ok x) → IfSome known (λ c. GivesOrFails view map_cause result (g c x)) → IfSome known (λ c. GivesOrFails view map_cause result (f c >>= g c))
goes_on known view x result f g first second = both known _ _ _ (λ c e h. rw e h) first second

-- ---- record 0

-- the file table by what record 0 is
table_by : (c : Content) (g : Geometry) (slot : Slot) → okay (slot_by record_at (c (boot_block g 0))) ≡ okay slot → table_of c g ≡ (judged 0 slot >>= extents_in)
unfolding table_of
table_by c g slot is = ap (λ p. judged 0 p >>= extents_in) (okay_is (slot_by record_at (c (boot_block g 0))) slot is)

pub table_refused : {X : Type 0} (known : Option Content) (view : X → Extents) (g : Geometry) (slot : Slot) (e : MapFault)
    → IfSome known (λ c. okay (slot_by record_at (c (boot_block g 0))) ≡ okay slot) → Explains (map_cause e) (judged 0 slot) → IfSome known (λ c. GivesOrFails {X = X} view map_cause (Err e) (table_of c g))
table_refused known view g slot e is h = one known _ _ (λ c p. rw (table_by c g slot p) (later_error e (judged 0 slot) extents_in h)) is

pub table_goes_on : {X : Type 0} (known : Option Content) (view : X → Extents) (g : Geometry) (slot : Slot) (file : Option Record) (result : Result X MapFault)
    → IfSome known (λ c. okay (slot_by record_at (c (boot_block g 0))) ≡ okay slot) → judged 0 slot ≡ Ok file → Gives view map_cause result (extents_in file) → IfSome known (λ c. GivesOrFails view map_cause result (table_of c g))
table_goes_on known view g slot file result is first h = one known _ _ (λ c p. rw (table_by c g slot p, first) (gives_or_fails view result (extents_in file) h)) is

-- a record that is read alone, by what it is
pub alone : {X : Type 0} (known : Option Content) (view : X → Option Record) (at : Content → Slot) (n : ℕ) (slot : Slot) (result : Result X MapFault)
    → IfSome known (λ c. okay (at c) ≡ okay slot) → Gives view map_cause result (judged n slot) → IfSome known (λ c. GivesOrFails view map_cause result (judged n (at c)))
alone known view at n slot result is h = one known _ _ (λ c p. rw (okay_is (at c) slot p) (gives_or_fails view result (judged n slot) h)) is

-- ---- blocks

kind_in : (f : ℕ → Block) (kind : BlockKind) → ((lcn : ℕ) → (f lcn).kind ≡ kind) → (o : Option ℕ) (b : Block) → option_map f o ≡ Some b → b.kind ≡ kind
kind_in f kind each None b e = absurd cc
kind_in f kind each (Some lcn) b e = let same : f lcn ≡ b = cc e in ap (λ (x : Block). x.kind) (sym same) ∙ each lcn

-- a block of a stream has the kind that is asked for
pub block_kind : (per : ℕ) (runs : List Run) (kind : BlockKind) (n : ℕ) (b : Block) → block_at per runs kind n ≡ Some b → b.kind ≡ kind
unfolding block_at
block_kind per runs kind n b e = kind_in _ kind (λ lcn. refl) _ b e

-- ---- the walk

suc_is : (n : ℕ) → n + 1 ≡ suc n
suc_is n = omega arith

none_more : (k : ℕ) → 0 + k ≡ k
none_more k = omega arith

more_suc : (k more : ℕ) → suc more + k ≡ suc (more + k)
more_suc k more = omega arith

pub first_more : {A : Type 0} (at : ℕ → Option A) (k more : ℕ) (x : A) → first_of at k ≡ Some x → first_of at (more + k) ≡ Some x
unfolding first_of
first_more at k zero x e = ap (first_of at) (none_more k) ∙ e
first_more at k (suc more) x e = ap (first_of at) (more_suc k more) ∙ rw (first_more at k more x e) refl

not_torn : (o : Option MapRefusal) (x : Unit {0}) → unless o ≡ Ok x → o ≡ None
not_torn None x e = refl
not_torn (Some r) x e = absurd cc

torn_error : (at : ℕ → Option MapRefusal) (n : ℕ) (e : MapFault) → first_of at n ≡ None → Explains (map_cause e) (unless (at n)) → ExplainsOrFails (map_cause e) (unless (first_of at (n + 1)))
unfolding first_of
torn_error at n e none h = rw (suc_is n, none) (or_fails e (unless (at n)) h)

pub first_step : (slot : ℕ → Slot) (n : ℕ) (p : Slot) (result : Result (Unit {0}) MapFault) (old new : Walk) → slot n ≡ p → WalkedBelow slot n old
    → Gives (λ x. x) map_cause result (unless (torn_refusal n p)) → OnOk result (Notes p old new) → WalksOrFails slot (n + 1) result new
unfolding records_of rules_of first_of
first_step slot n p (Ok x) old new is below given noted = record {
  whole = rw (suc_is n, below.whole, is) (not_torn (torn_refusal n p) x given);
  records = noted.records ∙ rw (below.records, ← is) (sym (map-range_with_len_more (λ k. used_record (slot k)) 0 n n (omega arith)));
  rules = noted.rules ∙ rw (below.rules, ← is) (sym (map-range_with_len_more (λ k. broken_rule (slot k)) 0 n n (omega arith)));
}
first_step slot n p (Err e) old new is below given noted = torn_error (λ k. torn_refusal k (slot k)) n e below.whole (rw is given)

pub walks_on : (known : Option Content) (slot : Content → ℕ → Slot) (n : ℕ) (p : Slot) (result : Result (Unit {0}) MapFault) (old new : Walk) → IfSome known (λ c. okay (slot c n) ≡ okay p)
    → Gives (λ x. x) map_cause result (unless (torn_refusal n p)) → OnOk result (Notes p old new) → IfSome known (λ c. WalkedBelow (slot c) n old → WalksOrFails (slot c) (n + 1) result new)
walks_on known slot n p result old new is given noted = one known _ _ (λ c e. λ below. first_step (slot c) n p result old new (okay_is (slot c n) p e) below given noted) is

-- nothing was read yet
pub none_read : (slot : ℕ → Slot) (walk : Walk) → walk.records.items ≡ [] → walk.rules.items ≡ [] → WalkedBelow slot 0 walk
unfolding records_of rules_of first_of
none_read slot walk records rules = record { whole = refl; records = records; rules = rules }

refused_is : (o : Option MapRefusal) (r : MapRefusal) → unless o ≡ Err r → o ≡ Some r
refused_is None r h = absurd cc
refused_is (Some q) r h = cc

more_by : (k count : ℕ) → k ≤ count → (more : ℕ) × (count ≡ more + k)
more_by k count le = (count - k, omega arith)

pub refused_more : (e : MapFault) (at : ℕ → Option MapRefusal) (k count : ℕ) → k ≤ count → ExplainsOrFails (map_cause e) (unless (first_of at k)) → ExplainsOrFails (map_cause e) (unless (first_of at count))
refused_more (faults.Refused r) at k count le h =
    let m = more_by k count le in
    let found = refused_is (first_of at k) r h in
    rw (m.1, first_more at k m.0 r found) refl
refused_more faults.View at k count le h = tt
refused_more faults.Memory at k count le h = tt

-- a record that is torn refuses the whole
pub walk_refused : (slot : ℕ → Slot) (n count : ℕ) (e : MapFault) (walk : Walk) → n < count → WalksOrFails slot (n + 1) (Err e) walk → ExplainsOrFails (map_cause e) (unless (first_of (λ k. torn_refusal k (slot k)) count))
walk_refused slot n count e walk lt h = refused_more e (λ k. torn_refusal k (slot k)) (n + 1) count (omega arith) h

pub walk_ends : (known : Option Content) (slot : Content → ℕ → Slot) (n count : ℕ) (e : MapFault) (old new : Walk) → n < count → IfSome known (λ c. WalkedBelow (slot c) n old)
    → IfSome known (λ c. WalkedBelow (slot c) n old → WalksOrFails (slot c) (n + 1) (Err e) new) → IfSome known (λ c. WalksAll (slot c) count (Err e))
walk_ends known slot n count e old new lt below next = both known _ _ _ (λ c b f. walk_refused (slot c) n count e new lt (f b)) below next

pub walk_more : (known : Option Content) (slot : Content → ℕ → Slot) (n : ℕ) (x : Unit {0}) (old new : Walk) → IfSome known (λ c. WalkedBelow (slot c) n old)
    → IfSome known (λ c. WalkedBelow (slot c) n old → WalksOrFails (slot c) (n + 1) (Ok x) new) → IfSome known (λ c. WalkedBelow (slot c) (n + 1) new)
walk_more known slot n x old new below next = both known _ _ _ (λ c b f. f b) below next

pub walk_begins : (known : Option Content) (slot : Content → ℕ → Slot) (walk : Walk) → walk.records.items ≡ [] → walk.rules.items ≡ [] → IfSome known (λ c. WalkedBelow (slot c) 0 walk)
walk_begins known slot walk records rules = always known _ (λ c. none_read (slot c) walk records rules)

-- ---- rules

pub no_rules : (at : ℕ → Option MapRefusal) → first_of at 0 ≡ None
unfolding first_of
no_rules at = refl

pub no_rule : (rule : ℕ → Option ℕ) (n : ℕ) → first_of (λ k. rule_refusal k (rule k)) n ≡ None → rule n ≡ None → first_of (λ k. rule_refusal k (rule k)) (n + 1) ≡ None
unfolding first_of
no_rule rule n none is = rw (suc_is n, none, is) refl

found_rule : (rule : ℕ → Option ℕ) (n number : ℕ) → first_of (λ k. rule_refusal k (rule k)) n ≡ None → rule n ≡ Some number → first_of (λ k. rule_refusal k (rule k)) (n + 1) ≡ Some (BadRecord n number)
unfolding first_of
found_rule rule n number none is = rw (suc_is n, none, is) refl

-- the first rule that is broken refuses the whole
pub one_rule : (rule : ℕ → Option ℕ) (n count number : ℕ) → n < count → first_of (λ k. rule_refusal k (rule k)) n ≡ None → rule n ≡ Some number → unless (first_of (λ k. rule_refusal k (rule k)) count) ≡ Err (BadRecord n number)
one_rule rule n count number lt none is =
    let m = more_by (n + 1) count (omega arith) in
    ap (λ k. unless (first_of (λ k. rule_refusal k (rule k)) k)) m.1 ∙ ap unless (first_more (λ k. rule_refusal k (rule k)) (n + 1) m.0 (BadRecord n number) (found_rule rule n number none is))
