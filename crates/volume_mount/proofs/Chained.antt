-- Steps of a loading, one after the other, over a content that may be known.
use Rattle.std.proofs.Common.{◌≡◌, Option, Result, Ok, Err, refl}
use Rattle.std.specs.Prelude.{IfSome}
use Rattle.host_base.specs.Answers.{◌>>=◌, Gives, GivesOrFails}
use Rattle.host_base.proofs.Known.{both, one}
use Rattle.disk_model.specs.Content.{Content}
use Rattle.file_tree.specs.declared.tree.Tree.{Tree}
use Rattle.volume_state.specs.volume_model.Volumes.{Volume}
use Rattle.image_read.specs.image_open.declared.refusal.Refusal.{Refusal}
use Rattle.image_read.specs.image_open.declared.refusal.MountFault.{MountFault}
use Rattle.image_read.specs.image_open.Errors.{scan_cause}
use Rattle.image_read.proofs.image_open.Steps.{gives_or_fails}
use Rattle.image_read.specs.Checks.{tree_on}
use Rattle.volume_mount.specs.Mounts.{ruled}

-- an error behind a first step that gave a value
pub fails_behind : {X Y A B : Type 0} (known : Option Content) (view : X → B) (view' : Y → B) (e : MountFault) (x : A) (f : Content → Result A Refusal) (g : Content → A → Result B Refusal)
    → IfSome known (λ c. f c ≡ Ok x) → IfSome known (λ c. GivesOrFails {X = X} view scan_cause (Err e) (g c x)) → IfSome known (λ c. GivesOrFails {X = Y} view' scan_cause (Err e) (f c >>= g c))
fails_behind {X = X} {Y = Y} known view view' e x f g first second =
    both known _ (λ c. GivesOrFails {X = X} view scan_cause (Err e) (g c x)) (λ c. GivesOrFails {X = Y} view' scan_cause (Err e) (f c >>= g c)) (λ c is h. rw is h) first second

-- a value behind it
pub gives_behind : {A B : Type 0} (known : Option Content) (x : A) (y : B) (f : Content → Result A Refusal) (g : Content → A → Result B Refusal)
    → IfSome known (λ c. f c ≡ Ok x) → IfSome known (λ c. g c x ≡ Ok y) → IfSome known (λ c. (f c >>= g c) ≡ Ok y)
gives_behind known x y f g first second = both known _ _ (λ c. (f c >>= g c) ≡ Ok y) (λ c is h. rw is h) first second

-- a second step that reaches nothing outside, by what is known of the content
pub then_gives_by : {Y A B : Type 0} (known : Option Content) (view : Y → B) (x : A) (result : Result Y MountFault) (P : Content → Type 0) (f : Content → Result A Refusal) (g : Content → A → Result B Refusal)
    → ((c : Content) → P c → Gives view scan_cause result (g c x)) → IfSome known P → IfSome known (λ c. f c ≡ Ok x) → IfSome known (λ c. GivesOrFails view scan_cause result (f c >>= g c))
then_gives_by known view x result P f g second there first = both known P _ (λ c. GivesOrFails view scan_cause result (f c >>= g c)) (λ c p e. rw e (gives_or_fails view result (g c x) (second c p))) there first

-- a volume that has a tree keeps the rules
pub ruled_is : (known : Option Content) (v : Volume) (t : Tree) → IfSome known (λ c. tree_on c v ≡ Ok t) → IfSome known (λ c. ruled c v ≡ Ok v)
unfolding ruled
ruled_is known v t h = one known _ (λ c. ruled c v ≡ Ok v) (λ c is. rw is refl) h
