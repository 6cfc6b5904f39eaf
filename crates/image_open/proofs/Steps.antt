-- Steps of an opening, one after the other, over a content that may be known.
use Rattle.std.proofs.Common.{◌≡◌, ℕ, List, Option, Result, Ok, Err, refl, sym, ap, ◌∙◌, subst}
use Rattle.std.specs.Prelude.{IfSome}
use Rattle.host_base.specs.Answers.{◌>>=◌, Explains, ExplainsOrFails, Gives, GivesOrFails}
use Rattle.host_base.proofs.Known.{both, one, always}
use Rattle.disk_model.specs.Numbers.{field}
use Rattle.disk_model.specs.Bodies.{BodyOf}
use Rattle.disk_model.specs.Content.{Content}
use Rattle.state_model.specs.declared.geometry.MapRefusal.{MapRefusal}
use Rattle.boot_sector.specs.declared.boot.Boot.{Boot}
use Rattle.boot_sector.specs.BootSectors.{boot_of, clusters}
use Rattle.volume_map.specs.declared.fault.MapFault.{MapFault}
use Rattle.volume_map.specs.declared.fault.MapFault.TheVariants as faults
use Rattle.volume_map.specs.Errors.{map_cause}
use Rattle.image_open.specs.declared.opening.Opening.{Opening}
use Rattle.image_open.specs.declared.refusal.Refusal.{Refusal}
use Rattle.image_open.specs.declared.refusal.MountFault.{MountFault}
use Rattle.image_open.specs.declared.refusal.MountFault.TheVariants as errors
use Rattle.log_model.specs.Logs.{recovered}
use Rattle.log_recovery.specs.log_page.declared.places.LogPlace.{LogPlace}
use Rattle.log_recovery.specs.log_reading.declared.fault.LogRefusal.{LogRefusal}
use Rattle.log_recovery.specs.log_reading.declared.fault.RecoveryFault.{RecoveryFault}
use Rattle.log_recovery.specs.log_reading.declared.fault.RecoveryFault.TheVariants as recoveries
use Rattle.log_recovery.specs.log_reading.Views.{recovery_cause}
use Rattle.log_recovery.specs.declared.whole.Recovered.{Recovered}
use Rattle.log_recovery.specs.Recovering.{content_with}
use Rattle.log_recovery.specs.LogStates.{LogState, recovery_in, IsRecoveredBy, RecoversLog}
use Rattle.image_open.specs.Errors.{scan_cause, boot_refusal, map_refusal, log_refusal, refused_as, error_of_map, error_of_log}
use Rattle.image_open.specs.Volumes.{boot_place, boot_in, geometry_of, recovered_at, recovered_in, Opened, opened_by}
use Rattle.image_open.specs.Clusters.{eight_sectors, clusters_in}
use Rattle.image_open.specs.Openings.{content_after, opened_as, AreFoundBy}

-- ---- causes

pub failed_error : {A B : Type 0} (e : MountFault) (f : Result A Refusal) (g : A → Result B Refusal) → ExplainsOrFails (scan_cause e) f → ExplainsOrFails (scan_cause e) (f >>= g)
failed_error errors.Memory f g h = tt
failed_error errors.Device f g h = tt
failed_error (errors.Refused r) f g h = ap (λ x. x >>= g) h

or_fails : {A : Type 0} (e : MountFault) (meant : Result A Refusal) → Explains (scan_cause e) meant → ExplainsOrFails (scan_cause e) meant
or_fails errors.Memory meant h = tt
or_fails errors.Device meant h = absurd h
or_fails (errors.Refused r) meant h = h

pub gives_or_fails : {X A : Type 0} (view : X → A) (result : Result X MountFault) (meant : Result A Refusal) → Gives view scan_cause result meant → GivesOrFails view scan_cause result meant
gives_or_fails view (Ok x) meant h = h
gives_or_fails view (Err e) meant h = or_fails e meant h

abbrev pub okay : {A : Type 0} → A → Result A Refusal
okay x = Ok x

-- an error of the first step is that of both
pub fails_first : {X Y A B : Type 0} (known : Option Content) (view : X → A) (view' : Y → B) (e : MountFault) (f : Content → Result A Refusal) (g : Content → A → Result B Refusal)
    → IfSome known (λ c. GivesOrFails {X = X} view scan_cause (Err e) (f c)) → IfSome known (λ c. GivesOrFails {X = Y} view' scan_cause (Err e) (f c >>= g c))
fails_first known view view' e f g h = one known _ _ (λ c p. failed_error e (f c) (g c) p) h

-- the second step goes on with the value of the first
pub goes_on : {Y A B : Type 0} (known : Option Content) (view : Y → B) (x : A) (result : Result Y MountFault) (f : Content → Result A Refusal) (g : Content → A → Result B Refusal)
    → IfSome known (λ c. f c ≡ Ok x) → IfSome known (λ c. GivesOrFails view scan_cause result (g c x)) → IfSome known (λ c. GivesOrFails view scan_cause result (f c >>= g c))
goes_on known view x result f g first second = both known _ _ _ (λ c e h. rw e h) first second

-- the same where the value of the first is one of the content
pub goes_on_by : {Y A B : Type 0} (known : Option Content) (view : Y → B) (x : Content → A) (result : Result Y MountFault) (f : Content → Result A Refusal) (g : Content → A → Result B Refusal)
    → IfSome known (λ c. f c ≡ Ok (x c)) → IfSome known (λ c. GivesOrFails view scan_cause result (g c (x c))) → IfSome known (λ c. GivesOrFails view scan_cause result (f c >>= g c))
goes_on_by known view x result f g first second = both known _ _ _ (λ c e h. rw e h) first second

-- a second step whose value is one of the content too
pub goes_on_as : {Y A B : Type 0} (known : Option Content) (view : Content → Y → B) (x : A) (result : Result Y MountFault) (f : Content → Result A Refusal) (g : Content → A → Result B Refusal)
    → IfSome known (λ c. f c ≡ Ok x) → IfSome known (λ c. GivesOrFails (view c) scan_cause result (g c x)) → IfSome known (λ c. GivesOrFails (view c) scan_cause result (f c >>= g c))
goes_on_as known view x result f g first second = both known _ _ _ (λ c e h. rw e h) first second

-- a second step that reaches nothing outside
pub then_gives : {Y A B : Type 0} (known : Option Content) (view : Y → B) (x : A) (result : Result Y MountFault) (f : Content → Result A Refusal) (g : A → Result B Refusal)
    → IfSome known (λ c. f c ≡ Ok x) → Gives view scan_cause result (g x) → IfSome known (λ c. GivesOrFails view scan_cause result (f c >>= g))
then_gives known view x result f g first second = one known _ _ (λ c e. rw e (gives_or_fails view result (g x) second)) first

-- ---- a first step that reaches nothing outside

explained : {A B : Type 0} (e : MountFault) (f : Result A Refusal) (g : A → Result B Refusal) → Explains (scan_cause e) f → ExplainsOrFails (scan_cause e) (f >>= g)
explained errors.Memory f g h = tt
explained errors.Device f g h = absurd h
explained (errors.Refused r) f g h = ap (λ x. x >>= g) h

-- its error is that of both steps
pub fails_at_once : {X Y A B : Type 0} (known : Option Content) (view : X → A) (view' : Y → B) (e : MountFault) (f : Result A Refusal) (g : Content → A → Result B Refusal)
    → Gives {X = X} view scan_cause (Err e) f → IfSome known (λ c. GivesOrFails {X = Y} view' scan_cause (Err e) (f >>= g c))
fails_at_once known view view' e f g h = always known _ (λ c. explained e f (g c) h)

-- the second step goes on with its value
pub goes_on_at_once : {Y A B : Type 0} (known : Option Content) (view : Y → B) (x : A) (result : Result Y MountFault) (f : Result A Refusal) (g : Content → A → Result B Refusal)
    → f ≡ Ok x → IfSome known (λ c. GivesOrFails view scan_cause result (g c x)) → IfSome known (λ c. GivesOrFails view scan_cause result (f >>= g c))
goes_on_at_once known view x result f g first second = one known _ _ (λ c p. rw first p) second

-- ---- the boot sector

pub boot_read : (known : Option Content) (body : BodyOf) (bytes : List ℕ) (result : Result Boot MountFault) → bytes ≡ body.bytes → IfSome known (λ c. body ≡ c boot_place)
    → Gives (λ b. b) scan_cause result (refused_as boot_refusal (boot_of bytes)) → IfSome known (λ c. GivesOrFails (λ b. b) scan_cause result (boot_in c))
unfolding boot_in
boot_read known body bytes result is read h =
    let P : List ℕ → Type 0 = λ bs. GivesOrFails (λ b. b) scan_cause result (refused_as boot_refusal (boot_of bs)) in
    one known _ _ (λ c e. subst P (is ∙ ap (λ (b : BodyOf). b.bytes) e) (gives_or_fails (λ b. b) result _ h)) read

-- ---- the sectors of a cluster

-- those of the first sector that was read
pub clusters_read : (known : Option Content) (body : BodyOf) (bytes : List ℕ) (result : Result (Unit {0}) MountFault) → bytes ≡ body.bytes → IfSome known (λ c. body ≡ c boot_place)
    → Gives (λ (x : Unit {0}). x) scan_cause result (eight_sectors (boot_of bytes) (field 0x0D 1 bytes)) → IfSome known (λ c. GivesOrFails (λ (x : Unit {0}). x) scan_cause result (clusters_in c))
unfolding clusters_in
clusters_read known body bytes result is read h =
    let P : List ℕ → Type 0 = λ bs. GivesOrFails (λ (x : Unit {0}). x) scan_cause result (eight_sectors (boot_of bs) (field 0x0D 1 bs)) in
    one known _ _ (λ c e. subst P (is ∙ ap (λ (b : BodyOf). b.bytes) e) (gives_or_fails (λ (x : Unit {0}). x) result _ h)) read

-- ---- the file table

map_failed : {A : Type 0} (e : MapFault) (meant : Result A MapRefusal) → ExplainsOrFails (map_cause e) meant → ExplainsOrFails (scan_cause (error_of_map e)) (refused_as map_refusal meant)
map_failed (faults.Refused r) meant h = ap (refused_as map_refusal) h
map_failed faults.View meant h = tt
map_failed faults.Memory meant h = tt

-- an error of the file table, as one of the scan
pub map_error : {X Y A : Type 0} (known : Option Content) (view : X → A) (view' : Y → A) (e : MapFault) (e' : MountFault) (f : Content → Result A MapRefusal) → e' ≡ error_of_map e
    → IfSome known (λ c. GivesOrFails {X = X} view map_cause (Err e) (f c)) → IfSome known (λ c. GivesOrFails {X = Y} view' scan_cause (Err e') (refused_as map_refusal (f c)))
map_error known view view' e e' f is h = one known _ _ (λ c p. rw is (map_failed e (f c) p)) h

-- and its answer
pub map_value : {A : Type 0} (known : Option Content) (x : A) (f : Content → Result A MapRefusal) → IfSome known (λ c. f c ≡ Ok x) → IfSome known (λ c. refused_as map_refusal (f c) ≡ Ok x)
map_value known x f h = one known _ _ (λ c e. ap (refused_as map_refusal) e) h

-- ---- the log

log_failed : {A : Type 0} (e : RecoveryFault) (meant : Result LogState LogRefusal) (g : LogState → Result A Refusal)
    → ExplainsOrFails (recovery_cause e) meant → ExplainsOrFails (scan_cause (error_of_log e)) (refused_as log_refusal meant >>= g)
log_failed (recoveries.Refused refusal) meant g h = ap (λ (r : Result LogState LogRefusal). refused_as log_refusal r >>= g) h
log_failed recoveries.Fault meant g h = tt
log_failed recoveries.Memory meant g h = tt

-- an error of recovery, as one of the scan
pub log_error : {X : Type 0} (known : Option Content) (view : X → Content) (place : LogPlace) (e : RecoveryFault) (e' : MountFault) → e' ≡ error_of_log e
    → IfSome known (λ c. RecoversLog c (recovery_in c place) (Err e)) → IfSome known (λ c. GivesOrFails {X = X} view scan_cause (Err e') (recovered_at c place))
unfolding recovered_at
log_error known view place e e' is h = one known _ _ (λ c p. rw is (log_failed e (recovery_in c place) (λ state. Ok (recovered c state.log)) p)) h

log_content : (c : Content) (meant : Result LogState LogRefusal) (found : Recovered) → IsRecoveredBy c meant found
    → (refused_as log_refusal meant >>= λ state. okay (recovered c state.log)) ≡ okay (content_with found.blocks.bodies.items c)
log_content c (Ok state) found h = ap okay (sym h.blocks.content)
log_content c (Err e) found h = absurd h

-- and its answer
pub log_value : (known : Option Content) (place : LogPlace) (found : Recovered) → IfSome known (λ c. RecoversLog c (recovery_in c place) (Ok found))
    → IfSome known (λ c. recovered_at c place ≡ Ok (content_with found.blocks.bodies.items c))
unfolding recovered_at
log_value known place found h = one known _ _ (λ c p. log_content c (recovery_in c place) found p) h

log_blocks : (c : Content) (meant : Result LogState LogRefusal) (found : Recovered) → IsRecoveredBy c meant found → AreFoundBy c meant found.blocks
log_blocks c (Ok state) found h = h.blocks
log_blocks c (Err e) found h = absurd h

-- and its blocks
pub log_found : (known : Option Content) (place : LogPlace) (found : Recovered) → IfSome known (λ c. RecoversLog c (recovery_in c place) (Ok found))
    → IfSome known (λ c. AreFoundBy c (recovery_in c place) found.blocks)
log_found known place found h = one known _ _ (λ c p. log_blocks c (recovery_in c place) found p) h

-- ---- the front

-- a volume whose log isn't refused is opened
pub opened : (known : Option Content) (o : Opening) (b : Boot) (sectors : ℕ) → o.geometry ≡ geometry_of b → o.total ≡ clusters b
    → IfSome known (λ c. recovered_in c o.geometry o.total sectors ≡ Ok (content_after o c)) → IfSome known (λ c. opened_by c sectors b ≡ Ok (opened_as c o))
unfolding opened_by
opened known o b sectors same size h =
    one known _ _ (λ c e. ap (λ (r : Result Content Refusal). r >>= λ content. okay (made content)) (rw (same, size) at e) ∙ ap okay (parts c)) h
  where
    made : Content → Opened
    made content = record { geometry = geometry_of b; total = clusters b; content = content }

    parts : (c : Content) → made (content_after o c) ≡ opened_as c o
    parts c = rw (same, size) refl
