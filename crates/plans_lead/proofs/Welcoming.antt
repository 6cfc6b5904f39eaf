-- A state that a mount takes leads to one that it takes too.
use Rattle.std.proofs.Common.{◌≡◌, ◌≢◌, ℕ, ◌<◌, ◌≤◌, not, leb, List, Option, Some, None, Ok, refl, sym, ap, ap₂, ◌∙◌, inl, inr, arith}
use Rattle.std.specs.Prelude.{is_some}
use Rattle.std.specs.List.{flat_map, range_with_len}
use Rattle.std.proofs.lemmas.Bool.{cases_lt, leb-true, le-leb}
use Rattle.std.proofs.lemmas.List.{get_or_past}
use mathlib.Core.Path.{fun_ext}
use Rattle.host_base.specs.Answers.{needs}
use Rattle.disk_model.specs.declared.block.Change.{Change}
use Rattle.disk_model.specs.Content.{Content}
use Rattle.record_model.specs.Records.{Record}
use Rattle.file_tree.specs.declared.link.Link.{Link}
use Rattle.file_tree.specs.Walks.{child_in}
use Rattle.state_model.specs.declared.geometry.Geometry.{Geometry}
use Rattle.state_model.specs.Files.{file_at, file_links, links_at, only_base}
use Rattle.state_model.specs.Rules.{first_failing}
use Rattle.state_model.specs.Trees.{all_links}
use Rattle.volume_model.specs.Volumes.{Volume, files_by_number, count_of, file_in, log_file, upper_of}
use Rattle.volume_model.specs.Owners.{uses}
use Rattle.spares_at_mount.specs.volume_state.Journals.{extend_file, journal_name}
use Rattle.spares_at_mount.specs.volume_state.Versions.{volume_info, file_info, volume_file}
use Rattle.stream_laws.specs.Sharing.{StreamKey, stream_at, runs_in}
use Rattle.spares_at_mount.specs.image_open.declared.refusal.Refusal.{Refusal}
use Rattle.spares_at_mount.specs.image_open.declared.refusal.Refusal.TheVariants.{Unbuilt}
use Rattle.spares_at_mount.specs.image_read.Checks.{judged_version, has_version}
use Rattle.spares_at_mount.proofs.tree_laws.Keeping.{passes_below, fails_nowhere}
use Rattle.plan_bodies.specs.Bodies.{NewBody, content_with}
use Rattle.writes_keep.specs.file_puts.declared.streams.VolumeStreams.{VolumeStreams}
use Rattle.writes_keep.specs.Writes.{IsWritten, IsSetAside, WriteKeeps}
use Rattle.spares_at_mount.specs.same_names.Names.{IsNamedAlike, SameNames}
use Rattle.writes_keep.specs.names_stay.Lists.{lists_in}
use Rattle.spares_at_mount.specs.volume_mount.Boot.{boot_key, KeepsBoot}
use Rattle.spares_at_mount.specs.volume_mount.Mounts.{has_no_journal, has_single_list, unless_failing, has_single_lists}
use Rattle.spares_at_mount.specs.volume_mount.Welcome.{IsWelcome}
use Rattle.plans_lead.specs.Welcoming.{KeptIsWelcome}

links_alike : (n : ℕ) (o p : Option Record) → IsNamedAlike n o p → file_links n p ≡ file_links n o
links_alike n None None alike = refl
links_alike n None (Some s) alike = absurd alike
links_alike n (Some r) None alike = absurd alike
links_alike n (Some r) (Some s) alike = alike.1

single_is : (o : Option Record) → has_single_list o ≡ leb (lists_in o) 1
single_is None = refl
single_is (Some r) = refl

boot_quiet : (n : ℕ) → n ≡ 7 → IsWritten n → ⊥
boot_quiet n seven (inl is) = omega (arith, seven, is)
boot_quiet n seven (inr (inl is)) = omega (arith, seven, is)
boot_quiet n seven (inr (inr (inl is))) = omega (arith, seven, is)
boot_quiet n seven (inr (inr (inr (inl is)))) = omega (arith, seven, is)
boot_quiet n seven (inr (inr (inr (inr user)))) = omega (arith, seven, user)

not_boot : (t : StreamKey) → IsWritten t.file → t ≢ boot_key
not_boot t written is = boot_quiet t.file (ap (λ (y : StreamKey). y.file) is) written

-- where the boot sector is kept the first cluster is set aside
pub boot_aside : (c : Content) (v : Volume) → KeepsBoot c v → IsSetAside c v 0
boot_aside c v boot = record { marked = boot.marked; others = λ t written. boot.others t (not_boot t written) }

none_by : (o : Option ℕ) → needs {F = Refusal} (not (is_some o)) (Unbuilt 6) ≡ Ok tt → o ≡ None
none_by None is = refl
none_by (Some n) is = absurd cc

passed_by : (o : Option ℕ) → unless_failing o ≡ Ok tt → o ≡ None
passed_by None is = refl
passed_by (Some n) is = absurd cc

none_past : (v : Volume) (m : ℕ) → count_of v ≤ m → lists_in (file_in v m) ≡ 0
unfolding file_at
none_past v m past = ap (λ (o : Option Record). lists_in (only_base o)) (get_or_past v.files m None past)

module _ (c : Content) (g : Geometry) (v : Volume) (s : VolumeStreams) (bodies : List NewBody) (changes : List Change) (w : Volume) (kept : WriteKeeps c g v s bodies changes w) (some : 0 < v.clusters) (lists : (m : ℕ) → lists_in (file_in w m) ≤ lists_in (file_in v m))
    (journal : (upper : List ℕ) → child_in upper (all_links (files_by_number v) (count_of v)) extend_file journal_name ≡ None → child_in upper (all_links (files_by_number w) (count_of w)) extend_file journal_name ≡ None) where
  abbrev d : Content
  d = content_with c bodies

  version_after : has_version v ≡ Ok tt → has_version w ≡ Ok tt
  unfolding has_version volume_info
  version_after is = ap (λ (o : Option Record). judged_version (file_info o)) (kept.files volume_file (omega arith) (λ e. omega (arith, e)) (λ e. omega (arith, e))) ∙ is

  journal_after : has_no_journal (upper_of c v) v ≡ Ok tt → has_no_journal (upper_of d w) w ≡ Ok tt
  unfolding has_no_journal
  journal_after is =
      let none = journal (upper_of c v) (none_by (child_in (upper_of c v) (all_links (files_by_number v) (count_of v)) extend_file journal_name) is) in
      ap (λ (upper : List ℕ). needs {F = Refusal} (not (is_some (child_in upper (all_links (files_by_number w) (count_of w)) extend_file journal_name))) (Unbuilt 6)) kept.upper ∙ ap (λ (o : Option ℕ). needs {F = Refusal} (not (is_some o)) (Unbuilt 6)) none

  single_after : has_single_lists v ≡ Ok tt → (m : ℕ) → lists_in (file_in w m) ≤ 1
  unfolding has_single_lists
  single_after is m = elim (cases_lt m (count_of v)) [
    | inl low ↦
        (let was = leb-true (lists_in (file_in v m)) 1 (sym (single_is (file_in v m)) ∙ passes_below (λ i. has_single_list (file_in v i)) (count_of v) (passed_by (first_failing (λ i. has_single_list (file_in v i)) (count_of v)) is) m low) in
        let less = lists m in
        omega (arith, was, less))
    | inr past ↦ (let none = none_past v m past in let less = lists m in omega (arith, none, less))
  ]

  lists_after : has_single_lists v ≡ Ok tt → has_single_lists w ≡ Ok tt
  unfolding has_single_lists
  lists_after is = ap unless_failing (fails_nowhere (λ i. has_single_list (file_in w i)) (count_of w) (λ m low. single_is (file_in w m) ∙ le-leb (lists_in (file_in w m)) 1 (single_after is m)))

  boot_after : KeepsBoot c v → KeepsBoot d w
  boot_after boot = record { others = others; marked = still.marked }
    where
      still : IsSetAside d w 0
      still = kept.aside 0 some (boot_aside c v boot)

      others : (t : StreamKey) → t ≢ boot_key → uses (runs_in (stream_at w t)) 0 ≡ 0
      others t other = (let most = kept.takes t 0 boot.marked in let none = boot.others t other in omega (arith, most, none))

  pub welcome_by : IsWelcome c v → IsWelcome d w
  welcome_by is = record {
    version = version_after is.version;
    no_journal = journal_after is.no_journal;
    lists = lists_after is.lists;
    log = ap (λ (o : Option Record). is_some o) (kept.files log_file (omega arith) (λ e. omega (arith, e)) (λ e. omega (arith, e))) ∙ is.log;
    boot = boot_after is.boot;
  }

-- where the files are named as before
module _ (v w : Volume) (names : SameNames v.files w.files) where
  links_same : (n : ℕ) → links_at (files_by_number w) n ≡ links_at (files_by_number v) n
  unfolding links_at
  links_same n = links_alike n (file_in v n) (file_in w n) (names.each n)

  all_same : all_links (files_by_number w) (count_of w) ≡ all_links (files_by_number v) (count_of v)
  unfolding all_links
  all_same = ap₂ (λ (f : ℕ → List Link) (count : ℕ). flat_map f (range_with_len 0 count)) (fun_ext links_same) names.count

  pub no_journal_still : (upper : List ℕ) → child_in upper (all_links (files_by_number v) (count_of v)) extend_file journal_name ≡ None → child_in upper (all_links (files_by_number w) (count_of w)) extend_file journal_name ≡ None
  no_journal_still upper none = ap (λ (links : List Link). child_in upper links extend_file journal_name) all_same ∙ none

pub welcome_after : (c : Content) (g : Geometry) (v : Volume) (s : VolumeStreams) (bodies : List NewBody) (changes : List Change) (w : Volume) → WriteKeeps c g v s bodies changes w → SameNames v.files w.files → ((m : ℕ) → lists_in (file_in w m) ≡ lists_in (file_in v m)) → 0 < v.clusters → IsWelcome c v → IsWelcome (content_with c bodies) w
welcome_after c g v s bodies changes w kept names lists some is = welcome_by c g v s bodies changes w kept some (λ m. (let same = lists m in omega (arith, same))) (no_journal_still v w names) is

pub kept_welcome : KeptIsWelcome
kept_welcome c g v s bodies changes w kept some lists journal is = welcome_by c g v s bodies changes w kept some lists journal is
