-- A volume that was opened and loaded is the mounted one that is meant.
use Rattle.std.proofs.Common.{◌≡◌, ℕ, List, Option, Some, None, Result, Ok, Err, refl, sym, ap, ◌∙◌, subst}
use Rattle.std.proofs.Math.Path.{fun_ext}
use Rattle.std.specs.Prelude.{Bool, is_some, IfSome}
use Rattle.std.specs.Int.{div_ceil}
use Rattle.host_base.specs.Answers.{◌>>=◌, ExplainsOrFails, GivesOrFails}
use Rattle.host_base.proofs.Known.{both, one}
use Rattle.disk_model.specs.Content.{Content}
use Rattle.state_model.proofs.record_model.Answering.{steps_from_ok}
use Rattle.state_model.specs.declared.geometry.Geometry.{Geometry}
use Rattle.state_model.specs.Rules.{first_failing}
use Rattle.volume_state.specs.volume_model.Volumes.{Volume, cluster_bits, upper_of}
use Rattle.volume_state.specs.Rules.{first_broken}
use Rattle.volume_state.specs.Trees.{tree_of, checked}
use Rattle.volume_state.proofs.Reports.{reports}
use Rattle.image_read.specs.volume_map.Maps.{IsMapOf, volume_in}
use Rattle.image_read.specs.log_page.declared.places.LogPlace.{LogPlace}
use Rattle.volume_shadows.specs.log_recovery.Recovering.{content_with, shadow_lsn}
use Rattle.volume_shadows.specs.Live.{least_lsn, least_live}
use Rattle.volume_shadows.proofs.Holding.{least_held}
use Rattle.volume_lookup.proofs.Asking.{known_where}
use Rattle.image_read.specs.image_open.declared.refusal.Refusal.{Refusal}
use Rattle.image_read.specs.image_open.declared.refusal.MountFault.{MountFault}
use Rattle.image_read.specs.image_open.declared.writing.OpeningToWrite.{OpeningToWrite}
use Rattle.image_read.specs.image_open.Errors.{scan_cause, refused_as}
use Rattle.image_read.specs.image_open.LogPlaces.{LieAlike}
use Rattle.image_read.specs.image_open.Writing.{OpenedToWrite, opened_to_write_in, IsOpenedToWrite, IsOpenedAs, OpensToWrite}
use Rattle.image_read.proofs.image_open.Steps.{failed_error}
use Rattle.image_read.specs.Errors.{broken_refusal}
use Rattle.image_read.specs.Checks.{volume_on, has_version, tree_on}
use Rattle.volume_mount.specs.declared.loading.LoadedVolume.{LoadedVolume}
use Rattle.volume_mount.specs.declared.mounted.Mounted.{Mounted}
use Rattle.volume_mount.specs.Mounts.{Said, unless_said, unshadowed, placed, has_no_journal, is_there, begun_sectors, or_all, front_sectors, has_pages, pages_lie, changeable, ruled, settled, paged, unjournaled, tried, loaded_on, MountedVolume, content_behind, mounted_as, mounted_by, mounted_in}
use Rattle.volume_mount.specs.Trees.{content_of_mounted}
use Rattle.volume_mount.specs.Answers.{IsMounted, IsMountedAs, MountsAs}

-- ---- what was loaded breaks no rule

unrefused : {A F : Type 0} (kind : F → Refusal) (read : Result A F) (x : A) → refused_as kind read ≡ Ok x → read ≡ Ok x
unrefused kind (Ok y) x e = cc
unrefused kind (Err f) x e = absurd cc

okay_alike : (v w : Volume) → ◌≡◌ {A = Result Volume Refusal} (Ok v) (Ok w) → v ≡ w
okay_alike v w e = cc

ruled_unbroken : (c : Content) (w v : Volume) → ruled c w ≡ Ok v → first_broken c v ≡ None
unfolding ruled tree_on
ruled_unbroken c w v is =
    let t = steps_from_ok (tree_on c w) (λ _. Ok w) v is in
    let u = reports c w t.0 (unrefused broken_refusal (checked c w) t.0 t.1) in
    subst (λ (x : Volume). first_broken c x ≡ None) (okay_alike w v t.2) u.1.kept

same_unless : (said : Option ℕ) (w v : Volume) → unless_said said w ≡ Ok v → w ≡ v
same_unless None w v e = okay_alike w v e
same_unless (Some lsn) w v e = absurd cc

settled_unbroken : (said : Said) (place : LogPlace) (c : Content) (w v : Volume) → settled said place c w ≡ Ok v → first_broken c v ≡ None
unfolding settled placed unshadowed
settled_unbroken said place c w v is =
    let s = steps_from_ok (ruled c w) (λ x. placed said place (cluster_bits c x) x) v is in
    let l = steps_from_ok (changeable place (cluster_bits c s.0) s.0) (λ _. unshadowed said s.0) v s.2 in
    subst (λ (x : Volume). first_broken c x ≡ None) (same_unless (least_live said s.0) s.0 v l.2) (ruled_unbroken c w s.0 s.1)

tried_unbroken : (said : Said) (place : LogPlace) (c : Content) (w v : Volume) → tried said place c w ≡ Ok v → first_broken c v ≡ None
unfolding tried unjournaled paged
tried_unbroken said place c w v is =
    let q = steps_from_ok (has_version w) (λ _. unjournaled said (upper_of c w) place c w) v is in
    let r = steps_from_ok (has_no_journal (upper_of c w) w) (λ _. paged said place c w) v q.2 in
    let s = steps_from_ok (has_pages place) (λ _. settled said place c w) v r.2 in
    settled_unbroken said place c w v s.2

pub unbroken : (said : Said) (place : LogPlace) (c : Content) (g : Geometry) (total : ℕ) (v : Volume) → loaded_on said place c g total ≡ Ok v → first_broken c v ≡ None
unfolding loaded_on
unbroken said place c g total v is =
    let p = steps_from_ok (volume_on c g total) (tried said place c) v is in
    tried_unbroken said place c p.0 v p.2

-- ---- places that lie alike

front_alike : (p q : LogPlace) → LieAlike p q → front_sectors p ≡ front_sectors q
unfolding front_sectors
front_alike p q alike =
    let there : is_there p ≡ is_there q = fun_ext (λ (n : ℕ). ap (λ (o : Option ℕ). is_some o) (alike.sectors n)) in
    ap (λ (f : ℕ → Bool). or_all (begun_sectors p) (first_failing f (begun_sectors p))) there
    ∙ ap (λ (size : ℕ). or_all (div_ceil size 512) (first_failing (is_there q) (div_ceil size 512))) alike.initialised

pages_alike : (p q : LogPlace) → LieAlike p q → has_pages p ≡ has_pages q
unfolding has_pages
pages_alike p q alike = rw (alike.pages, alike.initialised, alike.clusters) refl

whole_alike : (p q : LogPlace) (bits : List Bool) (v : Volume) → LieAlike p q → changeable p bits v ≡ changeable q bits v
unfolding changeable pages_lie
whole_alike p q bits v alike = rw (front_alike p q alike, alike.pages, alike.clusters) refl

then_alike : {A B : Type 0} (first : Result A Refusal) (f g : A → Result B Refusal) → ((x : A) → f x ≡ g x) → (first >>= f) ≡ (first >>= g)
then_alike (Ok x) f g same = same x
then_alike (Err e) f g same = refl

settled_alike : (said : Said) (p q : LogPlace) (c : Content) (v : Volume) → LieAlike p q → settled said p c v ≡ settled said q c v
unfolding settled placed
settled_alike said p q c v alike =
    then_alike (ruled c v) (λ w. changeable p (cluster_bits c w) w >>= λ _. unshadowed said w) (λ w. changeable q (cluster_bits c w) w >>= λ _. unshadowed said w)
    (λ w. ap (λ (r : Result (Unit {0}) Refusal). r >>= λ _. unshadowed said w) (whole_alike p q (cluster_bits c w) w alike))

tried_alike : (said : Said) (p q : LogPlace) (c : Content) (v : Volume) → LieAlike p q → tried said p c v ≡ tried said q c v
unfolding tried unjournaled paged
tried_alike said p q c v alike =
    ap (λ (r : Result (Unit {0}) Refusal). has_version v >>= λ _. has_no_journal (upper_of c v) v >>= λ _. r >>= λ _. settled said p c v) (pages_alike p q alike)
    ∙ ap (λ (r : Result Volume Refusal). has_version v >>= λ _. has_no_journal (upper_of c v) v >>= λ _. has_pages q >>= λ _. r) (settled_alike said p q c v alike)

loaded_alike : (said : Said) (p q : LogPlace) (c : Content) (g : Geometry) (total : ℕ) → LieAlike p q → loaded_on said p c g total ≡ loaded_on said q c g total
unfolding loaded_on
loaded_alike said p q c g total alike = then_alike (volume_on c g total) (tried said p c) (tried said q c) (λ v. tried_alike said p q c v alike)

-- ---- a volume that was opened

-- what its shadows say is what its log says
said_as : (c : Content) (meant : OpenedToWrite) (o : OpeningToWrite) → IsOpenedToWrite c meant o → least_lsn o.found.recovered.blocks.shadows.items ≡ shadow_lsn meant.state.log
said_as c meant o h = fun_ext (λ b. least_held o.found.recovered.blocks.shadows.items h.found.recovered.blocks.shadowed_once b ∙ h.found.recovered.blocks.shadows b)

-- what is loaded of it is what is meant
loaded_as : (c : Content) (meant : OpenedToWrite) (o : OpeningToWrite) → IsOpenedToWrite c meant o
    → loaded_on (least_lsn o.found.recovered.blocks.shadows.items) o.place (content_with o.found.recovered.blocks.bodies.items c) o.geometry o.total ≡ loaded_on (shadow_lsn meant.state.log) meant.place (content_behind c meant) meant.geometry meant.total
loaded_as c meant o h =
    let r : Content = content_with o.found.recovered.blocks.bodies.items c in
    ap (λ (said : Said). loaded_on said o.place r o.geometry o.total) (said_as c meant o h)
    ∙ ap (λ (g : Geometry). loaded_on (shadow_lsn meant.state.log) o.place r g o.total) h.geometry
    ∙ ap (λ (n : ℕ). loaded_on (shadow_lsn meant.state.log) o.place r meant.geometry n) h.total
    ∙ ap (λ (x : Content). loaded_on (shadow_lsn meant.state.log) o.place x meant.geometry meant.total) h.found.recovered.blocks.content
    ∙ loaded_alike (shadow_lsn meant.state.log) o.place meant.place (content_behind c meant) meant.geometry meant.total h.place

loading_fails : (c : Content) (meant : OpenedToWrite) (o : OpeningToWrite) (e : MountFault) → IsOpenedToWrite c meant o
    → ExplainsOrFails (scan_cause e) (loaded_on (least_lsn o.found.recovered.blocks.shadows.items) o.place (content_with o.found.recovered.blocks.bodies.items c) o.geometry o.total) → MountsAs c (mounted_by c meant) (Err e)
unfolding mounted_by
loading_fails c meant o e h fails =
    failed_error e (loaded_on (shadow_lsn meant.state.log) meant.place (content_behind c meant) meant.geometry meant.total) (λ v. Ok (mounted_as c meant v))
    (subst (λ (r : Result Volume Refusal). ExplainsOrFails (scan_cause e) r) (loaded_as c meant o h) fails)

module _ (c : Content) (meant : OpenedToWrite) (m : Mounted) (h : IsOpenedToWrite c meant m.opening) where
  shown : Content
  shown = content_of_mounted m c

  module _ (is : loaded_on (least_lsn m.opening.found.recovered.blocks.shadows.items) m.opening.place (content_of_mounted m c) m.opening.geometry m.opening.total ≡ Ok (volume_in m.map)) (upper : m.upper ≡ upper_of (content_of_mounted m c) (volume_in m.map)) (of : IsMapOf (content_of_mounted m c) m.map) where
    parts : IsMounted c (mounted_as c meant (volume_in m.map)) m
    parts = record {
      opened = h;
      content = h.found.recovered.blocks.content;
      volume = refl;
      parts = subst (λ (x : Content). IsMapOf x m.map) h.found.recovered.blocks.content of;
      upper = upper ∙ ap (λ (x : Content). upper_of x (volume_in m.map)) h.found.recovered.blocks.content;
      tree = known_where (Some (content_of_mounted m c)) m.upper (volume_in m.map) (unbroken (least_lsn m.opening.found.recovered.blocks.shadows.items) m.opening.place (content_of_mounted m c) m.opening.geometry m.opening.total (volume_in m.map) is) upper
          ∙ ap (λ (x : Content). Some (tree_of x (volume_in m.map))) h.found.recovered.blocks.content;
    }

    loaded : IsMountedAs c (mounted_by c meant) m
    unfolding mounted_by
    loaded =
        subst (λ (x : Result MountedVolume Refusal). IsMountedAs c x m) (sym (ap (λ (r : Result Volume Refusal). r >>= λ v. mounted (mounted_as c meant v)) (sym (loaded_as c meant m.opening h) ∙ is))) parts
      where
        mounted : MountedVolume → Result MountedVolume Refusal
        mounted x = Ok x

-- ---- over a content that may be known

-- an error of the loading is that of the mount
pub opening_fails : (known : Option Content) (o : OpeningToWrite) (e : MountFault)
    → IfSome known (λ c. GivesOrFails {X = LoadedVolume} (λ l. volume_in l.map) scan_cause (Err e) (loaded_on (least_lsn o.found.recovered.blocks.shadows.items) o.place (content_with o.found.recovered.blocks.bodies.items c) o.geometry o.total))
    → IfSome known (λ c. (meant : OpenedToWrite) → IsOpenedToWrite c meant o → MountsAs c (mounted_by c meant) (Err e))
opening_fails known o e h = one known _ (λ c. (meant : OpenedToWrite) → IsOpenedToWrite c meant o → MountsAs c (mounted_by c meant) (Err e)) (λ c p meant is. loading_fails c meant o e is p) h

-- and what was loaded is mounted
pub opening_is : (known : Option Content) (m : Mounted)
    → IfSome known (λ c. loaded_on (least_lsn m.opening.found.recovered.blocks.shadows.items) m.opening.place (content_of_mounted m c) m.opening.geometry m.opening.total ≡ Ok (volume_in m.map))
    → IfSome known (λ c. m.upper ≡ upper_of (content_of_mounted m c) (volume_in m.map)) → IfSome known (λ c. IsMapOf (content_of_mounted m c) m.map)
    → IfSome known (λ c. (meant : OpenedToWrite) → IsOpenedToWrite c meant m.opening → MountsAs c (mounted_by c meant) (Ok m))
opening_is None m first second third = tt
opening_is (Some c) m first second third = λ meant is. loaded c meant m is first second third

opened_then : (c : Content) (o : OpeningToWrite) (result : Result Mounted MountFault) (opened : Result OpenedToWrite Refusal) → IsOpenedAs c opened o
    → ((meant : OpenedToWrite) → IsOpenedToWrite c meant o → MountsAs c (mounted_by c meant) result) → MountsAs c (opened >>= mounted_by c) result
opened_then c o result (Ok meant) h f = f meant h
opened_then c o result (Err e) h f = absurd h

-- a volume that was opened is mounted so
pub mounts_on : (known : Option Content) (sectors : ℕ) (o : OpeningToWrite) (result : Result Mounted MountFault) → IfSome known (λ c. OpensToWrite c (opened_to_write_in c sectors) (Ok o))
    → IfSome known (λ c. (meant : OpenedToWrite) → IsOpenedToWrite c meant o → MountsAs c (mounted_by c meant) result) → IfSome known (λ c. MountsAs c (mounted_in c sectors) result)
unfolding mounted_in
mounts_on known sectors o result first second = both known _ _ (λ c. MountsAs c (opened_to_write_in c sectors >>= mounted_by c) result) (λ c h f. opened_then c o result (opened_to_write_in c sectors) h f) first second
