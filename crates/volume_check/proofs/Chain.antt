-- A check in steps is the check.
use Rattle.std.proofs.Common.{◌≡◌, ℕ, List, Option, Some, None, Result, Ok, Err, refl, sym, ap, ◌∙◌}
use Rattle.std.specs.Prelude.{IfSome}
use Rattle.std.specs.Option.{option_map}
use Rattle.host_base.specs.Answers.{GivesOrFails}
use Rattle.host_base.proofs.Known.{both, one}
use Rattle.disk_model.specs.Content.{Content}
use Rattle.file_tree.specs.declared.journal.Journal.{Journal}
use Rattle.file_tree.specs.declared.tree.Tree.{Tree}
use Rattle.volume_tree.specs.state_model.declared.broken.Broken.{Broken}
use Rattle.volume_tree.specs.state_model.Rules.{broken_or}
use Rattle.volume_model.specs.Volumes.{Volume, upper_of}
use Rattle.volume_model.specs.Nodes.{bare_nodes}
use Rattle.volume_state.specs.Journals.{journal_of, fault_of, some_journal}
use Rattle.volume_state.specs.Rules.{broken_1, broken_2, broken_3, broken_4, broken_5, broken_6, broken_7, broken_8, broken_9, first_broken}
use Rattle.volume_state.specs.Trees.{volume_journal, tree_with, without_records, report_of, reported, checked}
use Rattle.usn_journal.specs.Judging.{bare, bare_journal}
use Rattle.volume_check.specs.declared.fault.CheckFault.{CheckFault}
use Rattle.volume_tree.specs.volume_map.declared.map.VolumeMap.{VolumeMap}
use Rattle.volume_tree.specs.volume_map.Maps.{volume_in, IsMapOf}
use Rattle.volume_check.specs.Errors.{check_cause}
use Rattle.volume_check.specs.Parts.{AreParts}
use Rattle.volume_check.specs.Steps.{from_1, from_2, from_3, from_4, from_5, from_6, from_7, from_8, tree_or, ninth}

-- the first of two
abbrev or_else : Option Broken → Option Broken → Option Broken
or_else (Some b) rest = Some b
or_else None rest = rest

broken_or-else : (rule : ℕ) (o : Option ℕ) (x y : Option Broken) → broken_or rule o (or_else x y) ≡ or_else (broken_or rule o x) y
broken_or-else rule (Some n) x y = refl
broken_or-else rule None x y = refl

abbrev nine : Content → Volume → Option Broken
nine c v = broken_or 9 (broken_9 c v) None

-- a step put before the steps behind it
before : (rule : ℕ) (o : Option ℕ) (rest x y : Option Broken) → rest ≡ or_else x y → broken_or rule o rest ≡ or_else (broken_or rule o x) y
before rule o rest x y e = ap (broken_or rule o) e ∙ broken_or-else rule o x y

first_is : (c : Content) (v : Volume) → first_broken c v ≡ or_else (from_1 c v) (nine c v)
unfolding first_broken from_1 from_2 from_3 from_4 from_5 from_6 from_7 from_8
first_is c v =
    before 1 (broken_1 v) _ (from_2 c v) (nine c v)
    (before 2 (broken_2 v) _ (from_3 c v) (nine c v)
    (before 3 (broken_3 c v) _ (from_4 c v) (nine c v)
    (before 4 (broken_4 c v) _ (from_5 c v) (nine c v)
    (before 5 (broken_5 v) _ (from_6 c v) (nine c v)
    (before 6 (broken_6 c v) _ (from_7 c v) (nine c v)
    (before 7 (broken_7 c v) _ (from_8 v) (nine c v)
    (before 8 (broken_8 v) (nine c v) None (nine c v) refl)))))))

-- a rule before the ninth is broken
breaks : (c : Content) (v : Volume) (b : Broken) → Some b ≡ from_1 c v → checked c v ≡ Err b
unfolding checked
breaks c v b e = ap (reported c v) (first_is c v ∙ ap (λ (o : Option Broken). or_else o (nine c v)) (sym e))

abbrev okay : Tree → Result Tree Broken
okay t = Ok t

ninth_by : (c : Content) (v : Volume) (j : Result (Option Journal) ℕ) → journal_of c (upper_of c v) v ≡ j → tree_or c v (bare j) ≡ reported c v (broken_or 9 (fault_of j) None)
unfolding report_of volume_journal
ninth_by c v (Ok journal) e = ap (λ (j : Result (Option Journal) ℕ). okay (tree_with c v (bare_nodes v) (option_map without_records (some_journal j)))) (sym e)
ninth_by c v (Err place) e = refl

-- they are kept
goes_on : (c : Content) (v : Volume) → None ≡ from_1 c v → checked c v ≡ ninth c v
unfolding checked ninth bare_journal broken_9
goes_on c v e =
    ap (reported c v) (first_is c v ∙ ap (λ (o : Option Broken). or_else o (nine c v)) (sym e)) ∙ sym (ninth_by c v (journal_of c (upper_of c v) v) refl)

-- what was found where the content keeps a premise
abbrev first_found : (Content → Type 0) → Volume → Option Broken → Content → Type 0
first_found P v found c = P c → found ≡ from_1 c v

-- over a content that may be known: a rule before the ninth is broken
pub known_breaks : (known : Option Content) (P : Content → Type 0) (v : Volume) (found : Option Broken) (b : Broken) → found ≡ Some b → IfSome known (first_found P v found)
    → IfSome known (λ c. P c → checked c v ≡ Err b)
known_breaks known P v found b is h = one known (first_found P v found) (λ c. P c → checked c v ≡ Err b) (λ c first are. breaks c v b (sym is ∙ first are)) h

abbrev ninth_given : (Content → Type 0) → Volume → Result Tree CheckFault → Content → Type 0
ninth_given P v result c = P c → GivesOrFails (λ (t : Tree). t) check_cause result (ninth c v)

-- they are kept, and the ninth is judged
pub known_goes_on : (known : Option Content) (P : Content → Type 0) (v : Volume) (found : Option Broken) (result : Result Tree CheckFault) → found ≡ None → IfSome known (first_found P v found)
    → IfSome known (ninth_given P v result) → IfSome known (λ c. P c → GivesOrFails (λ (t : Tree). t) check_cause result (checked c v))
known_goes_on known P v found result is h ninth =
    both known (first_found P v found) (ninth_given P v result) (λ c. P c → GivesOrFails (λ (t : Tree). t) check_cause result (checked c v)) (λ c first given are. rw (goes_on c v (sym is ∙ first are)) (given are)) h ninth

-- ---- the parts

-- with the table of upper-case units that was read, the map alone is the premise
pub known_parts : (known : Option Content) (m : VolumeMap) (upper : List ℕ) (Q : Content → Type 0) → IfSome known (λ c. upper ≡ upper_of c (volume_in m)) → IfSome known (λ c. AreParts c m upper → Q c) → IfSome known (λ c. IsMapOf c m → Q c)
known_parts known m upper Q read h =
    both known (λ c. upper ≡ upper_of c (volume_in m)) (λ c. AreParts c m upper → Q c) (λ c. IsMapOf c m → Q c) (λ c u f are. f (record { map = are; upper = u })) read h
