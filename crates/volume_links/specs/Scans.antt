-- What a scan makes of records: the long names of files, and the rules that the records break.
use Rattle.std.specs.Prelude.{◌≡◌, ℕ, ◌==◌, ◌&&◌, ◌<◌, Bool, true, false, List, ◌++◌, Option, Some, None, Result, Ok, Err}
use Rattle.std.specs.List.{filter, flat_map, range_with_len}
use Rattle.host_base.specs.Answers.{◌>>=◌, ExplainsOrFails}
use Rattle.record_model.specs.Records.{Record}
use Rattle.record_model.specs.Constants.{attribute_list}
use Rattle.file_record.specs.declared.fault.RecFault.{RecFault}
use Rattle.file_record.specs.declared.fault.RecFault.TheVariants.{Rule, Memory as no_memory}
use Rattle.file_tree.specs.declared.link.Link.{Link}
use Rattle.file_tree.specs.Trees.{is_long}
use Rattle.state_model.specs.Files.{only_base, file_links, has_type}
use Rattle.state_model.specs.Loads.{Slot, Torn as torn, used_record, broken_rule, cuts_index, or_rule, torn_refusal, rule_refusal, first_of, first_some, unless}
use Rattle.state_model.specs.declared.geometry.MapRefusal.{MapRefusal}
use Rattle.state_model.specs.declared.geometry.MapRefusal.TheVariants.{BadFixup}
use Rattle.volume_map.specs.declared.fault.MapFault.{MapFault}
use Rattle.volume_map.specs.declared.fault.MapFault.TheVariants.{Refused}
use Rattle.volume_links.specs.declared.scanning.Scan.{Scan}
use Rattle.volume_links.specs.declared.scanning.Seen.{Seen}
use Rattle.volume_links.specs.declared.scanning.Seen.TheVariants.{Torn, Listed, Judged}
use Rattle.volume_map.specs.Errors.{map_cause}

abbrev pub has_list : Option Record → Bool
has_list None = false
has_list (Some r) = has_type attribute_list r

-- the file that a slot is, if it is one
abbrev pub file_of : Slot → Option Record
file_of slot = only_base (used_record slot)

-- the long names of a slot with this number
unfoldable pub names_of : ℕ → Slot → List Link
names_of n slot = filter is_long (file_links n (file_of slot))

-- the least rule that it breaks, as a file with no attribute list
unfoldable pub own_rule : ℕ → Slot → Option ℕ
own_rule per slot = or_rule (broken_rule slot) (cuts_index per (file_of slot)) false

-- the same at a number, where a record of the table lies in two runs or doesn't
unfoldable pub full_rule : ℕ → Bool → (ℕ → Slot) → ℕ → Option ℕ
full_rule per cut slot n = or_rule (own_rule per (slot n)) ((n == 0) && cut) false

-- a slot that isn't torn, and no file with an attribute list; its long names were added
pub record IsJudged (per n : ℕ) (slot : Slot) (rule : Option ℕ) (old new : List Link) : Type 0 where
  pub whole : torn_refusal n slot ≡ None
  pub unlisted : has_list (file_of slot) ≡ false
  pub rule_is : rule ≡ own_rule per slot
  pub links : new ≡ old ++ names_of n slot

-- what was seen of a slot
abbrev pub IsSeen : ℕ → ℕ → Slot → List Link → List Link → Seen → Type 0
IsSeen per n slot old new Torn = slot ≡ torn
IsSeen per n slot old new Listed = has_list (file_of slot) ≡ true
IsSeen per n slot old new (Judged rule) = IsJudged per n slot rule old new

-- what was seen of a record that can't be read
abbrev pub IsUnread : RecFault → Seen → Type 0
IsUnread (Rule rule) seen = seen ≡ Judged (Some rule)
IsUnread no_memory seen = ⊥

-- what was seen was judged: a rule that was broken was noted, unless one was noted before
abbrev pub Judges : Bool → ℕ → Seen → Result Bool MapFault → Option MapRefusal → Option MapRefusal → Type 0
Judges cut n Torn result old new = result ≡ Err (Refused (BadFixup n))
Judges cut n Listed result old new = result ≡ Ok false
Judges cut n (Judged rule) result old new = (result ≡ Ok true) × (new ≡ first_some old (rule_refusal n (or_rule rule ((n == 0) && cut) false)))

-- the first so many records were taken: none of them is torn, and no file among them has an attribute list
pub record ScannedBelow (per : ℕ) (cut : Bool) (slot : ℕ → Slot) (count : ℕ) (scan : Scan) : Type 0 where
  pub whole : first_of (λ n. torn_refusal n (slot n)) count ≡ None
  pub unlisted : (n : ℕ) → n < count → has_list (file_of (slot n)) ≡ false
  pub refusal_is : scan.refusal ≡ first_of (λ n. rule_refusal n (full_rule per cut slot n)) count
  pub links_are : scan.links.items ≡ flat_map (λ n. names_of n (slot n)) (range_with_len 0 count)

-- one of the first so many is a file with an attribute list
pub record HasListBelow (slot : ℕ → Slot) (count : ℕ) : Type 0 where
  pub number : ℕ
  pub below : number < count
  pub listed : has_list (file_of (slot number)) ≡ true

-- the first so many were taken, or one of them has an attribute list or is torn, or the view failed
abbrev pub ScansOrFails : ℕ → Bool → (ℕ → Slot) → ℕ → Result Bool MapFault → Scan → Type 0
ScansOrFails per cut slot count (Ok true) scan = ScannedBelow per cut slot count scan
ScansOrFails per cut slot count (Ok false) scan = HasListBelow slot count
ScansOrFails per cut slot count (Err e) scan = ExplainsOrFails (map_cause e) (unless (first_of (λ n. torn_refusal n (slot n)) count))

-- all were taken, or the same
abbrev pub ScansAll : ℕ → Bool → (ℕ → Slot) → ℕ → Result (Option Scan) MapFault → Type 0
ScansAll per cut slot count (Ok None) = HasListBelow slot count
ScansAll per cut slot count (Ok (Some scan)) = ScannedBelow per cut slot count scan
ScansAll per cut slot count (Err e) = ExplainsOrFails (map_cause e) (unless (first_of (λ n. torn_refusal n (slot n)) count))

-- what a scan of the whole table says: the long names, or the refusal that was noted
abbrev pub verdict_of : Scan → Result (List Link) MapRefusal
verdict_of scan = unless scan.refusal >>= λ _. Ok scan.links.items
