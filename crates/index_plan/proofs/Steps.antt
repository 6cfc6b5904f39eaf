-- Steps of a search, one after the other, over nodes that may be known.
use Rattle.std.proofs.Common.{◌≡◌, ℕ, ◌≤◌, Option, Some, None, Result, Ok, Err, ap, subst}
use Rattle.std.specs.Prelude.{IfSome, IfOk, IfErr, OnOk, List}
use Rattle.index_model.specs.Walks.{Broken}
use Rattle.record_model.specs.declared.entry.Entry.{Entry as Raw}
use Rattle.index_model.specs.host_base.Answers.{ExplainsOrFails}
use Rattle.index_model.proofs.host_base.Known.{one, both}
use Rattle.index_plan.specs.declared.fault.PlanFault.{PlanFault}
use Rattle.index_plan.specs.declared.fault.PlanFault.TheVariants.{Node, Absent, Deep, Failed, Memory}
use Rattle.index_plan.specs.declared.fault.ReadFault.{ReadFault}
use Rattle.index_plan.specs.declared.fault.ReadFault.TheVariants as reading
use Rattle.index_plan.specs.Faults.{read_cause, way_cause, told, AlongWay, AfterSearch, OnDeep, OnlyDeep, OnlyReading, ReadFails, Fails}
use Rattle.index_plan.specs.Reading.{NodeReads, read_by}

-- a node that was not read, as the node that breaks a rule
pub told_of : (above v : ℕ) (e : ReadFault) (r : Result (List Raw) ℕ) → ExplainsOrFails (read_cause e) r → ExplainsOrFails (way_cause (told above v e)) (read_by above v r)
told_of above v (reading.Rule rule) r h = ap (read_by above v) h
told_of above v reading.Failed r h = tt
told_of above v reading.Memory r h = tt

pub told_known : (known : Option NodeReads) (above v : ℕ) (e : ReadFault) → IfSome known (λ r. ExplainsOrFails (read_cause e) (r v)) → IfSome known (λ r. ExplainsOrFails (way_cause (told above v e)) (read_by above v (r v)))
told_known known above v e h = one known (λ r. ExplainsOrFails (read_cause e) (r v)) (λ r. ExplainsOrFails (way_cause (told above v e)) (read_by above v (r v))) (λ r p. told_of above v e (r v) p) h

pub fails_told : {T : Type 0} (before now above v : ℕ) (e : ReadFault) → ReadFails {T = T} before now (Err e) → Fails {T = T} before now (Err (told above v e))
fails_told before now above v (reading.Rule rule) h = record { later = h.later; counted = h.counted }
fails_told before now above v reading.Failed h = record { later = h.later; counted = h.counted }
fails_told before now above v reading.Memory h = record { later = h.later; counted = h.counted }

-- an error that ends the whole
pub ends : {A B : Type 0} (e : PlanFault) (part : Result A Broken) (whole : Result B Broken) → ((broken : Broken) → part ≡ Err broken → whole ≡ Err broken) → ExplainsOrFails (way_cause e) part → ExplainsOrFails (way_cause e) whole
ends (Node vcn rule) part whole f h = f (record { vcn = vcn; rule = rule }) h
ends Absent part whole f h = absurd h
ends (Deep height) part whole f h = absurd h
ends Failed part whole f h = tt
ends Memory part whole f h = tt

-- ---- what a plan answers after its nodes were read

way_stopped : (T : Type 0) {A : Type 0} (e : PlanFault) (way : Result A Broken) → OnlyReading e → ExplainsOrFails (way_cause e) way → AlongWay {T = T} (Err e) way
way_stopped T (Node vcn rule) way only h = h
way_stopped T Absent way only h = absurd only
way_stopped T (Deep height) way only h = absurd only
way_stopped T Failed way only h = tt
way_stopped T Memory way only h = tt

pub way_failed : (T : Type 0) {A : Type 0} (known : Option NodeReads) (e : PlanFault) (way : NodeReads → Result A Broken) → OnlyReading e → IfSome known (λ r. ExplainsOrFails (way_cause e) (way r)) → IfSome known (λ r. AlongWay {T = T} (Err e) (way r))
way_failed T known e way only h = one known (λ r. ExplainsOrFails (way_cause e) (way r)) (λ r. AlongWay {T = T} (Err e) (way r)) (λ r p. way_stopped T e (way r) only p) h

way_end : {T A : Type 0} (r : Result T PlanFault) (P : ℕ → Type 0) (way : Result A Broken) (spots : A) → IfErr r (λ e. OnlyDeep e P) → way ≡ Ok spots → AlongWay r way
way_end (Ok x) P way spots deep is = (spots, is)
way_end (Err (Deep height)) P way spots deep is = (spots, is)
way_end (Err (Node vcn rule)) P way spots deep is = absurd deep
way_end (Err Absent) P way spots deep is = absurd deep
way_end (Err Failed) P way spots deep is = absurd deep
way_end (Err Memory) P way spots deep is = tt

pub way_ended : {T A : Type 0} (known : Option NodeReads) (r : Result T PlanFault) (P : ℕ → Type 0) (way : NodeReads → Result A Broken) (spots : A) → IfErr r (λ e. OnlyDeep e P) → IfSome known (λ x. way x ≡ Ok spots) → IfSome known (λ x. AlongWay r (way x))
way_ended known r P way spots deep h = one known (λ x. way x ≡ Ok spots) (λ x. AlongWay r (way x)) (λ x is. way_end r P (way x) spots deep is) h

search_stopped : (T : Type 0) {A : Type 0} (e : PlanFault) (found : Result (Option A) Broken) → OnlyReading e → ExplainsOrFails (way_cause e) found → AfterSearch {T = T} (Err e) found
search_stopped T (Node vcn rule) found only h = h
search_stopped T Absent found only h = absurd only
search_stopped T (Deep height) found only h = absurd only
search_stopped T Failed found only h = tt
search_stopped T Memory found only h = tt

pub search_failed : (T : Type 0) {A : Type 0} (known : Option NodeReads) (e : PlanFault) (found : NodeReads → Result (Option A) Broken) → OnlyReading e → IfSome known (λ r. ExplainsOrFails (way_cause e) (found r)) → IfSome known (λ r. AfterSearch {T = T} (Err e) (found r))
search_failed T known e found only h = one known (λ r. ExplainsOrFails (way_cause e) (found r)) (λ r. AfterSearch {T = T} (Err e) (found r)) (λ r p. search_stopped T e (found r) only p) h

found_as : {A : Type 0} (found : Result (Option A) Broken) (o p : Option A) → o ≡ p → found ≡ Ok o → found ≡ Ok p
found_as found o p is h = subst (λ x. found ≡ Ok x) is h

pub search_none : {A : Type 0} (known : Option NodeReads) (found : NodeReads → Result (Option A) Broken) (o : Option A) → o ≡ None → IfSome known (λ r. found r ≡ Ok o) → IfSome known (λ r. found r ≡ Ok None)
search_none known found o none h = one known (λ r. found r ≡ Ok o) (λ r. found r ≡ Ok None) (λ r is. found_as (found r) o None none is) h

search_end : {T A : Type 0} (r : Result T PlanFault) (P : ℕ → Type 0) (found : Result (Option A) Broken) (p : A) → IfErr r (λ e. OnlyDeep e P) → found ≡ Ok (Some p) → AfterSearch r found
search_end (Ok x) P found p deep is = (p, is)
search_end (Err (Deep height)) P found p deep is = (p, is)
search_end (Err (Node vcn rule)) P found p deep is = absurd deep
search_end (Err Absent) P found p deep is = absurd deep
search_end (Err Failed) P found p deep is = absurd deep
search_end (Err Memory) P found p deep is = tt

pub search_some : {T A : Type 0} (known : Option NodeReads) (r : Result T PlanFault) (P : ℕ → Type 0) (found : NodeReads → Result (Option A) Broken) (o : Option A) (p : A) → o ≡ Some p → IfErr r (λ e. OnlyDeep e P) → IfSome known (λ x. found x ≡ Ok o) → IfSome known (λ x. AfterSearch r (found x))
search_some known r P found o p some deep h = one known (λ x. found x ≡ Ok o) (λ x. AfterSearch r (found x)) (λ x is. search_end r P (found x) p deep (found_as (found x) o (Some p) some is)) h

-- ---- what is weaker

pub weaker : {T : Type 0} (r : Result T PlanFault) (P Q : T → Type 0) → ((x : T) → P x → Q x) → IfOk r P → IfOk r Q
weaker (Ok x) P Q step p = step x p
weaker (Err e) P Q step p = tt

pub on_ok : {T : Type 0} (r : Result T PlanFault) (P Q : Type 0) → (P → Q) → OnOk r P → IfOk r (λ x. Q)
on_ok (Ok x) P Q step p = step p
on_ok (Err e) P Q step p = tt

abbrev pub TooDeep : ℕ → Type 0 → ℕ → Type 0
TooDeep height P h = (h ≡ height) × (16 ≤ height) × P

pub deeper : {T : Type 0} (r : Result T PlanFault) (height : ℕ) (P Q : Type 0) → (P → Q) → IfErr r (λ e. OnlyDeep e (TooDeep height P)) → IfErr r (λ e. OnDeep e (TooDeep height Q))
deeper (Ok x) height P Q f p = tt
deeper (Err (Deep h)) height P Q f p = (p.0, p.1, f p.2)
deeper (Err (Node vcn rule)) height P Q f p = tt
deeper (Err Absent) height P Q f p = tt
deeper (Err Failed) height P Q f p = tt
deeper (Err Memory) height P Q f p = tt

-- ---- over nodes that may be known

pub by_one : (known known' : Option NodeReads) (P R : NodeReads → Type 0) → known' ≡ known → ((r : NodeReads) → P r → R r) → IfSome known' P → IfSome known R
by_one known known' P R same f p = one known P R f (subst (λ (o : Option NodeReads). IfSome o P) same p)

pub by_two : (known first second : Option NodeReads) (P Q R : NodeReads → Type 0) → first ≡ known → second ≡ known → ((r : NodeReads) → P r → Q r → R r) → IfSome first P → IfSome second Q → IfSome known R
by_two known first second P Q R same same' f p q = both known P Q R f (subst (λ (o : Option NodeReads). IfSome o P) same p) (subst (λ (o : Option NodeReads). IfSome o Q) same' q)
