-- Recovery by a log as steps, one after the other, over a content that may be known.
use Rattle.std.proofs.Common.{◌≡◌, ℕ, ◌+◌, ◌^◌, ◌≤◌, false, List, Option, None, Result, Ok, Err, Vec, refl, sym, ap, ◌∙◌, subst, arith}
use Rattle.std.specs.Prelude.{IfSome}
use Rattle.std.specs.Global.{Global}
use Rattle.std.specs.Option.{option_or}
use Rattle.std.proofs.lemmas.Bool.{le-ltb}
use Rattle.std.proofs.Math.Nat.{le_trans}
use Rattle.std.proofs.Math.Pow.{pow_mono}
use Rattle.host_base.specs.Answers.{◌>>=◌, ExplainsOrFails}
use Rattle.host_base.proofs.Known.{both, one, always}
use Rattle.log_reading.specs.disk_model.Content.{Content}
use Rattle.log_model.specs.declared.entry.Entry.{Entry}
use Rattle.log_model.specs.Logs.{first_misplaced, first_partial}
use Rattle.log_reading.specs.log_page.declared.places.LogPlace.{LogPlace}
use Rattle.log_reading.specs.log_page.Places.{sequence_bits}
use Rattle.log_reading.specs.declared.fault.LogRefusal.{LogRefusal}
use Rattle.log_reading.specs.declared.fault.RecoveryFault.{RecoveryFault}
use Rattle.log_reading.specs.declared.fault.LogRefusal.TheVariants.{LogVersion, NoRestart, ForeignLog}
use Rattle.log_reading.specs.declared.fault.RecoveryFault.TheVariants.{Refused, Fault, Memory}
use Rattle.log_reading.specs.declared.front.RestartFront.{RestartFront}
use Rattle.log_reading.specs.Views.{recovery_cause}
use Rattle.log_reading.specs.LogPages.{page_in}
use Rattle.log_reading.specs.Fronts.{front_in}
use Rattle.log_recovery.specs.declared.found.RecoveredBlocks.{RecoveredBlocks}
use Rattle.log_recovery.specs.declared.whole.Recovered.{Recovered}
use Rattle.log_recovery.specs.declared.whole.RecoveredLog.{RecoveredLog}
use Rattle.log_recovery.specs.Recovering.{foreign_entry, Recovers}
use Rattle.log_recovery.specs.LogStates.{all_or_refused, live_entries_in, whole_entries, has_lap, lap_in, FoundLog, log_in, LogState, recovery_in, IsRecoveredBy, RecoversLog}
use Rattle.log_recovery.specs.Writing.{RecoversWith}

-- ---- causes

-- an error of the first step is that of both
failed_error : {A B : Type 0} (e : RecoveryFault) (f : Result A LogRefusal) (g : A → Result B LogRefusal) → ExplainsOrFails (recovery_cause e) f → ExplainsOrFails (recovery_cause e) (f >>= g)
failed_error (Refused refusal) f g h = ap (λ x. x >>= g) h
failed_error Fault f g h = tt
failed_error Memory f g h = tt

-- ---- steps

first_failed : {A B : Type 0} (known : Option Content) (e : RecoveryFault) (f : Content → Result A LogRefusal) (g : Content → A → Result B LogRefusal)
    → IfSome known (λ c. ExplainsOrFails (recovery_cause e) (f c)) → IfSome known (λ c. ExplainsOrFails (recovery_cause e) (f c >>= g c))
first_failed known e f g h = one known _ _ (λ c p. failed_error e (f c) (g c) p) h

-- the second step goes on with the value of the first
then_on : {A B : Type 0} (known : Option Content) (x : A) (f : Content → Result A LogRefusal) (g : Content → A → Result B LogRefusal) (P : Content → Result B LogRefusal → Type 0)
    → IfSome known (λ c. f c ≡ Ok x) → IfSome known (λ c. P c (g c x)) → IfSome known (λ c. P c (f c >>= g c))
then_on known x f g P first second = both known _ _ _ (λ c e h. subst (λ (r : Result _ LogRefusal). P c (r >>= g c)) (sym e) h) first second

-- ---- blocks

first_or : (c : Content) (log : List Entry) (clusters : ℕ) → first_misplaced log clusters ≡ None → foreign_entry c log clusters ≡ first_partial c log
unfolding foreign_entry
first_or c log clusters e = ap (λ (o : Option ℕ). option_or o (first_partial c log)) e

whole_failed : (c : Content) (log : List Entry) (clusters : ℕ) (e : RecoveryFault) → first_misplaced log clusters ≡ None → Recovers c log clusters (Err e) → ExplainsOrFails (recovery_cause e) (whole_entries c log)
whole_failed c log clusters (Refused (LogVersion major minor)) placed h = absurd h
whole_failed c log clusters (Refused NoRestart) placed h = absurd h
whole_failed c log clusters (Refused (ForeignLog lsn)) placed h = ap (λ (o : Option ℕ). all_or_refused o log) (sym (first_or c log clusters placed) ∙ h)
whole_failed c log clusters Fault placed h = tt
whole_failed c log clusters Memory placed h = tt

-- no entry is misplaced, so a block in part is refused
in_part : (known : Option Content) (log : List Entry) (clusters : ℕ) (e : RecoveryFault) → first_misplaced log clusters ≡ None
    → IfSome known (λ c. Recovers c log clusters (Err e)) → IfSome known (λ c. ExplainsOrFails (recovery_cause e) (whole_entries c log))
in_part known log clusters e placed h = one known _ _ (λ c p. whole_failed c log clusters e placed p) h

-- or all entries are taken
all_whole : (known : Option Content) (log : List Entry) (clusters : ℕ) (found : RecoveredBlocks) → first_misplaced log clusters ≡ None
    → IfSome known (λ c. Recovers c log clusters (Ok found)) → IfSome known (λ c. whole_entries c log ≡ Ok log)
all_whole known log clusters found placed h = one known _ _ (λ c p. ap (λ (o : Option ℕ). all_or_refused o log) (sym (first_or c log clusters placed) ∙ p.0)) h

-- of the same entries
pub same_entries : (known : Option Content) (given entries : List Entry) (clusters : ℕ) (result : Result RecoveredBlocks RecoveryFault) → given ≡ entries
    → IfSome known (λ c. Recovers c given clusters result) → IfSome known (λ c. Recovers c entries clusters result)
same_entries known given entries clusters result is h = subst (λ (es : List Entry). IfSome known (λ c. Recovers c es clusters result)) is h

-- ---- all steps

abbrev state_of : RestartFront → List Entry → ℕ → LogState
state_of front log lap = record { log = log; next_lap = lap; restart = front.restart; opens = front.opens }

abbrev with_lap : LogPlace → RestartFront → Content → List Entry → Result LogState LogRefusal
with_lap place front c log = lap_in c place front.chosen >>= λ lap. Ok (state_of front log lap)

abbrev with_blocks : LogPlace → RestartFront → Content → List Entry → Result LogState LogRefusal
with_blocks place front c entries = whole_entries c entries >>= with_lap place front c

abbrev with_entries : LogPlace → Content → RestartFront → Result LogState LogRefusal
with_entries place c front = live_entries_in c place front.chosen >>= with_blocks place front c

abbrev fronts : LogPlace → Content → Result RestartFront LogRefusal
fronts place c = front_in (page_in c place 0) (page_in c place 1)

-- the blocks, and what the front said
abbrev found_log : RestartFront → List Entry → Result FoundLog LogRefusal
found_log front log = Ok (record { log = log; front = front })

abbrev log_by : LogPlace → Content → RestartFront → Result FoundLog LogRefusal
log_by place c front = live_entries_in c place front.chosen >>= λ entries. whole_entries c entries >>= found_log front

-- the lap after them
abbrev state_by : LogPlace → Content → FoundLog → Result LogState LogRefusal
state_by place c found = with_lap place found.front c found.log

after_whole : (c : Content) (place : LogPlace) (front : RestartFront) (r : Result (List Entry) LogRefusal) → ((r >>= found_log front) >>= state_by place c) ≡ (r >>= with_lap place front c)
after_whole c place front (Ok log) = refl
after_whole c place front (Err e) = refl

after_list : (c : Content) (place : LogPlace) (front : RestartFront) (r : Result (List Entry) LogRefusal) → ((r >>= λ entries. whole_entries c entries >>= found_log front) >>= state_by place c) ≡ (r >>= with_blocks place front c)
after_list c place front (Ok entries) = after_whole c place front (whole_entries c entries)
after_list c place front (Err e) = refl

after_pages : (c : Content) (place : LogPlace) (r : Result RestartFront LogRefusal) → ((r >>= log_by place c) >>= state_by place c) ≡ (r >>= with_entries place c)
after_pages c place (Ok front) = after_list c place front (live_entries_in c place front.chosen)
after_pages c place (Err e) = refl

-- the log and then its lap are these steps one after the other
in_steps : (c : Content) (place : LogPlace) → recovery_in c place ≡ (fronts place c >>= with_entries place c)
unfolding recovery_in log_in
in_steps c place = after_pages c place (fronts place c)

by_steps : (known : Option Content) (place : LogPlace) (result : Result Recovered RecoveryFault) → IfSome known (λ c. RecoversLog c (fronts place c >>= with_entries place c) result)
    → IfSome known (λ c. RecoversLog c (recovery_in c place) result)
by_steps known place result h = one known _ _ (λ c p. subst (λ (meant : Result LogState LogRefusal). RecoversLog c meant result) (sym (in_steps c place)) p) h

pub front_failed : (known : Option Content) (place : LogPlace) (e : RecoveryFault) → IfSome known (λ c. ExplainsOrFails (recovery_cause e) (front_in (page_in c place 0) (page_in c place 1)))
    → IfSome known (λ c. RecoversLog c (recovery_in c place) (Err e))
front_failed known place e h = by_steps known place (Err e) (first_failed known e (fronts place) (with_entries place) h)

-- after a front that was read
after_front : (known : Option Content) (place : LogPlace) (front : RestartFront) (result : Result Recovered RecoveryFault) → IfSome known (λ c. front_in (page_in c place 0) (page_in c place 1) ≡ Ok front)
    → IfSome known (λ c. RecoversLog c (with_entries place c front) result) → IfSome known (λ c. RecoversLog c (recovery_in c place) result)
after_front known place front result is h = by_steps known place result (then_on known front (fronts place) (with_entries place) (λ c meant. RecoversLog c meant result) is h)

pub entries_failed : (known : Option Content) (place : LogPlace) (front : RestartFront) (e : RecoveryFault) → IfSome known (λ c. front_in (page_in c place 0) (page_in c place 1) ≡ Ok front)
    → IfSome known (λ c. ExplainsOrFails (recovery_cause e) (live_entries_in c place front.chosen)) → IfSome known (λ c. RecoversLog c (recovery_in c place) (Err e))
entries_failed known place front e is h = after_front known place front (Err e) is (first_failed known e (λ c. live_entries_in c place front.chosen) (with_blocks place front) h)

-- what was read: the front and the entries, none of which is misplaced
pub record WasRead (known : Option Content) (place : LogPlace) (front : RestartFront) (entries : List Entry) : Type 0 where
  pub front_is : IfSome known (λ c. front_in (page_in c place 0) (page_in c place 1) ≡ Ok front)
  pub entries_are : IfSome known (λ c. live_entries_in c place front.chosen ≡ Ok entries)
  pub placed : first_misplaced entries place.clusters ≡ None

after_entries : (known : Option Content) (place : LogPlace) (front : RestartFront) (entries : List Entry) (result : Result Recovered RecoveryFault) → WasRead known place front entries
    → IfSome known (λ c. RecoversLog c (with_blocks place front c entries) result) → IfSome known (λ c. RecoversLog c (recovery_in c place) result)
after_entries known place front entries result read h =
    after_front known place front result read.front_is
    (then_on known entries (λ c. live_entries_in c place front.chosen) (with_blocks place front) (λ c meant. RecoversLog c meant result) read.entries_are h)

pub blocks_failed : (known : Option Content) (place : LogPlace) (front : RestartFront) (entries : List Entry) (e : RecoveryFault) → WasRead known place front entries
    → IfSome known (λ c. Recovers c entries place.clusters (Err e)) → IfSome known (λ c. RecoversLog c (recovery_in c place) (Err e))
blocks_failed known place front entries e read h =
    after_entries known place front entries (Err e) read
    (first_failed known e (λ c. whole_entries c entries) (with_lap place front) (in_part known entries place.clusters e read.placed h))

after_blocks : (known : Option Content) (place : LogPlace) (front : RestartFront) (entries : List Entry) (blocks : RecoveredBlocks) (result : Result Recovered RecoveryFault) → WasRead known place front entries
    → IfSome known (λ c. Recovers c entries place.clusters (Ok blocks)) → IfSome known (λ c. RecoversLog c (with_lap place front c entries) result)
    → IfSome known (λ c. RecoversLog c (recovery_in c place) result)
after_blocks known place front entries blocks result read found h =
    after_entries known place front entries result read
    (then_on known entries (λ c. whole_entries c entries) (with_lap place front) (λ c meant. RecoversLog c meant result) (all_whole known entries place.clusters blocks read.placed found) h)

pub lap_failed : (known : Option Content) (place : LogPlace) (front : RestartFront) (entries : List Entry) (blocks : RecoveredBlocks) (e : RecoveryFault) → WasRead known place front entries
    → IfSome known (λ c. Recovers c entries place.clusters (Ok blocks)) → IfSome known (λ c. ExplainsOrFails (recovery_cause e) (lap_in c place front.chosen))
    → IfSome known (λ c. RecoversLog c (recovery_in c place) (Err e))
lap_failed known place front entries blocks e read found h =
    after_blocks known place front entries blocks (Err e) read found (first_failed known e (λ c. lap_in c place front.chosen) (λ _ lap. Ok (state_of front entries lap)) h)

-- all steps went well
recovered_state : (known : Option Content) (place : LogPlace) (front : RestartFront) (entries : List Entry) (blocks : RecoveredBlocks) (lap : ℕ) → WasRead known place front entries
    → IfSome known (λ c. Recovers c entries place.clusters (Ok blocks)) → IfSome known (λ c. lap_in c place front.chosen ≡ Ok lap) → IfSome known (λ c. recovery_in c place ≡ Ok (state_of front entries lap))
recovered_state known place front entries blocks lap read found lap_is =
    one known _ _ (λ c p. in_steps c place ∙ p)
    (then_on known front (fronts place) (with_entries place) IsState read.front_is
    (then_on known entries (λ c. live_entries_in c place front.chosen) (with_blocks place front) IsState read.entries_are
    (then_on known entries (λ c. whole_entries c entries) (with_lap place front) IsState (all_whole known entries place.clusters blocks read.placed found)
    (then_on known lap (λ c. lap_in c place front.chosen) (λ _ n. Ok (state_of front entries n)) IsState lap_is (always known _ (λ c. refl))))))
  where
    IsState : Content → Result LogState LogRefusal → Type 0
    IsState c r = r ≡ Ok (state_of front entries lap)

pub recovered_whole : (known : Option Content) (place : LogPlace) (front : RestartFront) (entries : Vec Entry Global) (blocks : RecoveredBlocks) (lap : ℕ) → WasRead known place front entries.items
    → IfSome known (λ c. Recovers c entries.items place.clusters (Ok blocks)) → IfSome known (λ c. lap_in c place front.chosen ≡ Ok lap)
    → IfSome known (λ c. RecoversWith c (recovery_in c place) (Ok (record { entries = entries; recovered = record { blocks = blocks; next_lap = lap; restart = front.restart; opens = front.opens } })))
recovered_whole known place front entries blocks lap read found lap_is =
    both known _ _ _ (λ c p q. (p, q.1)) (recovered_state known place front entries.items blocks lap read found lap_is) found

-- without its entries
forgets_entries : (c : Content) (meant : Result LogState LogRefusal) (found : RecoveredLog) → RecoversWith c meant (Ok found) → RecoversLog c meant (Ok found.recovered)
forgets_entries c meant found h = subst (λ (m : Result LogState LogRefusal). IsRecoveredBy c m found.recovered) (sym h.0) (record { blocks = h.1; next_lap = refl; restart = refl; opens = refl })

pub forgets_known : (known : Option Content) (place : LogPlace) (found : RecoveredLog) → IfSome known (λ c. RecoversWith c (recovery_in c place) (Ok found)) → IfSome known (λ c. RecoversLog c (recovery_in c place) (Ok found.recovered))
forgets_known known place found h = one known _ _ (λ c p. forgets_entries c (recovery_in c place) found p) h

-- ---- laps

-- past all numbers of 64 bits no laps are left
pub no_lap : (pages last : ℕ) → 2 ^ 64 ≤ last + 65537 → false ≡ has_lap pages (1 + last)
no_lap pages last past =
    let most : 2 ^ sequence_bits pages ≤ 2 ^ 64 = pow_mono {j = 64} (omega arith) in
    sym (le-ltb (1 + last + 65536) (2 ^ sequence_bits pages) (le_trans most (omega (arith, past))))
