-- What a scan sees of one record.
use Rattle.std.proofs.Common.{◌≡◌, ℕ, Bool, true, false, ◌&&◌, List, ◌++◌, Option, Some, None, Result, Ok, Err, refl, sym, ap, ◌∙◌}
use Rattle.std.specs.Prelude.{IfOk, IfSome, if◌then◌else◌}
use Rattle.std.specs.List.{filter}
use Rattle.std.proofs.lemmas.List.{append-nil}
use Rattle.host_base.specs.Answers.{Explains}
use Rattle.host_base.proofs.Known.{one}
use Rattle.file_record.specs.declared.fault.RecFault.{RecFault}
use Rattle.file_record.specs.declared.fault.RecFault.TheVariants.{Rule, Memory as no_memory}
use Rattle.file_record.specs.Faults.{rec_cause}
use Rattle.disk_model.specs.Bodies.{BodyOf}
use Rattle.disk_model.specs.Content.{Content}
use Rattle.record_model.specs.Records.{Record}
use Rattle.record_model.specs.Constants.{attribute_list, names_index, index_allocation}
use Rattle.file_tree.specs.declared.link.Link.{Link}
use Rattle.file_tree.specs.Trees.{is_long}
use Rattle.state_model.specs.declared.stream.Stream.{Stream}
use Rattle.state_model.specs.Files.{is_base_record, is_directory_record, record_links, has_type}
use Rattle.state_model.specs.Loads.{Slot, Free, Broken, Used, slot_in, is_used, slot_of, whole_record, has_cut_index_block, cuts_index, or_rule}
use Rattle.volume_links.specs.Plain.{IsPlain}
use Rattle.volume_links.specs.declared.scanning.Seen.{Seen}
use Rattle.volume_links.specs.Scans.{names_of, own_rule, IsJudged, IsSeen, IsUnread}
use Rattle.volume_links.proofs.Scanned.{no_stream}

-- one that isn't in use
pub free : (per n : ℕ) (links : List Link) → IsJudged per n Free None links links
unfolding own_rule names_of
free per n links = record { whole = refl; unlisted = refl; rule_is = refl; links = sym (append-nil links) }

-- one that breaks a rule of its own
pub broken : (per n rule : ℕ) (links : List Link) → IsJudged per n (Broken rule) (Some rule) links links
unfolding own_rule names_of
broken per n rule links = record { whole = refl; unlisted = refl; rule_is = refl; links = sym (append-nil links) }

unread_seen : (per n : ℕ) (fault : RecFault) (body : List ℕ) (links : List Link) (seen : Seen) → IsUnread fault seen → Explains (rec_cause fault) (whole_record body) → IsSeen per n (slot_in (whole_record body)) links links seen
unread_seen per n (Rule rule) body links seen is h = rw (is, h) (broken per n rule links)
unread_seen per n no_memory body links seen is h = absurd is

pub unread : {E : Type 0} (per n : ℕ) (fault : RecFault) (body : List ℕ) (links : List Link) (result : Result Seen E) → IfOk result (IsUnread fault) → Explains (rec_cause fault) (whole_record body) → IfOk result (IsSeen per n (slot_in (whole_record body)) links links)
unread per n fault body links (Ok seen) is h = unread_seen per n fault body links seen is h
unread per n fault body links (Err e) is h = tt

-- one that is no base record
pub no_file : (per n : ℕ) (r : Record) (links : List Link) → is_base_record r ≡ false → IsJudged per n (Used r) None links links
unfolding own_rule names_of
no_file per n r links isnt = record { whole = refl; unlisted = rw isnt refl; rule_is = rw isnt refl; links = rw isnt (sym (append-nil links)) }

-- a file with no attribute list
pub file : (per n : ℕ) (r : Record) (cuts : Bool) (rule : Option ℕ) (old new : List Link) → is_base_record r ≡ true → has_type attribute_list r ≡ false → new ≡ old ++ filter is_long (record_links n r) → cuts ≡ cuts_index per (Some r) → rule ≡ or_rule None cuts false
    → IsJudged per n (Used r) rule old new
unfolding own_rule names_of
file per n r cuts rule old new base unlisted links cut is = record {
  whole = refl;
  unlisted = rw base unlisted;
  rule_is = is ∙ ap (λ (b : Bool). or_rule None b false) cut ∙ rw base refl;
  links = links ∙ rw base refl;
}

and_false : (b : Bool) → (b && false) ≡ false
and_false true = refl
and_false false = refl

-- a file with no index in clusters has no block of it in two runs
no_cut : (per : ℕ) (r : Record) → has_type index_allocation r ≡ false → cuts_index per (Some r) ≡ false
unfolding has_type
no_cut per r none = ap (λ (s : Option Stream). is_directory_record r && has_cut_index_block per s) (no_stream index_allocation names_index r.attrs none) ∙ and_false (is_directory_record r)

pub plain : (per n : ℕ) (body : List ℕ) (old new : List Link) → IsPlain n body old new → IsJudged per n (slot_in (whole_record body)) None old new
plain per n body old new is = rw is.is_read (file per n is.file false None old new is.base is.unlisted is.links (sym (no_cut per is.file is.unindexed)) refl)

-- a body that isn't in use
pub unused : (per n : ℕ) (body : BodyOf) (links : List Link) → body.torn ≡ false → is_used body.bytes ≡ false → IsJudged per n (slot_of body) None links links
unfolding slot_of
unused per n body links whole isnt = rw (whole, isnt) (free per n links)

-- a record that has no place
pub nowhere : (known : Option Content) (slot : Content → Slot) (per n : ℕ) (links : List Link) → IfSome known (λ c. slot c ≡ Free) → IfSome known (λ c. IsJudged per n (slot c) None links links)
nowhere known slot per n links is = one known _ _ (λ c e. rw e (free per n links)) is

pub not_there : (known : Option Content) (slot : Content → Slot) (there : Bool) (other : Slot) → there ≡ false → IfSome known (λ c. slot c ≡ (if there then other else Free)) → IfSome known (λ c. slot c ≡ Free)
not_there known slot true other isnt is = absurd cc
not_there known slot false other isnt is = is
