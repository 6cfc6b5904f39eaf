-- Steps of a check, by what the parts found.
use Rattle.std.proofs.Common.{◌≡◌, ℕ, Bool, true, cond, List, Option, Some, None, Result, Ok, sym, ap, ◌∙◌, length}
use Rattle.std.specs.Prelude.{IfSome}
use Rattle.bit_set.proofs.Views.{length-bits_of_bytes}
use Rattle.host_base.proofs.Known.{one}
use Rattle.disk_model.specs.Content.{Content}
use Rattle.volume_tree.specs.record_model.declared.runs.Run.{Run}
use Rattle.volume_tree.specs.state_model.declared.broken.Broken.{Broken}
use Rattle.volume_tree.specs.state_model.Rules.{broken_or, first_failing}
use Rattle.volume_model.specs.Volumes.{Volume, cluster_bits, cluster_bitmap, bytes_or}
use Rattle.volume_model.specs.Owners.{volume_runs, keeps_cluster_bit}
use Rattle.volume_model.specs.Sizes.{keeps_place, keeps_sizes}
use Rattle.volume_state.specs.Rules.{broken_4, broken_6, file_count}
use Rattle.volume_tree.specs.volume_map.declared.map.VolumeMap.{VolumeMap}
use Rattle.volume_tree.specs.volume_map.Maps.{volume_in, IsMapOf}
use Rattle.volume_check.specs.Steps.{from_4, from_5}

-- a number was found: the rule is broken there
pub stops : (rule n : ℕ) (found meant : Option ℕ) (rest : Option Broken) → found ≡ Some n → found ≡ meant → Some (record { rule = rule; number = n }) ≡ broken_or rule meant rest
stops rule n found meant rest is same = ap (λ (o : Option ℕ). broken_or rule o rest) (sym is ∙ same)

-- none was found: the rest decides
pub goes_on : (rule : ℕ) (found meant : Option ℕ) (rest broken : Option Broken) → found ≡ None → found ≡ meant → broken ≡ rest → broken ≡ broken_or rule meant rest
goes_on rule found meant rest broken is same e = e ∙ ap (λ (o : Option ℕ). broken_or rule o rest) (sym is ∙ same)

has_all_bits : (c : Content) (v : Volume) → length (cluster_bits c v) ≡ v.clusters
unfolding cluster_bits
has_all_bits c v = length-bits_of_bytes (bytes_or c v.per (cluster_bitmap v)) v.clusters

-- a cluster that is owned and not marked, by the bits of the map
pub six_is : (c : Content) (m : VolumeMap) (runs : List Run) (found : Option ℕ) → IsMapOf c m → runs ≡ volume_runs m.files.items
    → found ≡ first_failing (keeps_cluster_bit m.cluster_bits runs) (length m.cluster_bits) → found ≡ broken_6 c (volume_in m)
unfolding broken_6
six_is c m runs found are own is =
    let v = volume_in m in
    is ∙ ap (λ bits. first_failing (keeps_cluster_bit bits runs) (length bits)) are.clusters
    ∙ ap (λ (xs : List Run). first_failing (keeps_cluster_bit (cluster_bits c v) xs) (length (cluster_bits c v))) own
    ∙ ap (first_failing (keeps_cluster_bit (cluster_bits c v) (volume_runs v.files))) (has_all_bits c v)

abbrev okay : Option ℕ → Result (Option ℕ) ⊥
okay o = Ok o

okay_is : (x y : Option ℕ) → okay x ≡ okay y → x ≡ y
okay_is x y e = cc

abbrev where_placed : Bool → Option ℕ → Option ℕ
where_placed placed found = cond placed found (Some 0)

-- it begins where the boot sector says, and what streams keep decides
pub in_place : (known : Option Content) (v : Volume) (found : Option ℕ) → keeps_place v ≡ true
    → IfSome known (λ c. okay (first_failing (keeps_sizes c v) (file_count v)) ≡ okay found) → IfSome known (λ c. found ≡ broken_4 c v)
unfolding broken_4
in_place known v found is h = one known (λ c. okay (first_failing (keeps_sizes c v) (file_count v)) ≡ okay found) (λ c. found ≡ where_placed (keeps_place v) (first_failing (keeps_sizes c v) (file_count v)))
    (λ c e. sym (okay_is (first_failing (keeps_sizes c v) (file_count v)) found e) ∙ ap (λ (t : Bool). where_placed t (first_failing (keeps_sizes c v) (file_count v))) (sym is)) h

abbrev four_found : Volume → Option ℕ → Content → Type 0
four_found v found c = found ≡ broken_4 c v

-- rule 4 is broken, over a content that may be known
pub four_stops : (known : Option Content) (m : VolumeMap) (found : Option ℕ) (n : ℕ) → found ≡ Some n → IfSome known (four_found (volume_in m) found)
    → IfSome known (λ c. IsMapOf c m → Some (record { rule = 4; number = n }) ≡ from_4 c (volume_in m))
unfolding from_4
four_stops known m found n is h = one known (four_found (volume_in m) found) _ (λ c e are. stops 4 n found (broken_4 c (volume_in m)) (from_5 c (volume_in m)) is e) h

-- and kept
pub four_goes_on : (known : Option Content) (m : VolumeMap) (found : Option ℕ) (broken : Option Broken) → found ≡ None → ((c : Content) → IsMapOf c m → broken ≡ from_5 c (volume_in m)) → IfSome known (four_found (volume_in m) found)
    → IfSome known (λ c. IsMapOf c m → broken ≡ from_4 c (volume_in m))
unfolding from_4
four_goes_on known m found broken is rest h = one known (four_found (volume_in m) found) _ (λ c e are. goes_on 4 found (broken_4 c (volume_in m)) (from_5 c (volume_in m)) broken is e (rest c are)) h
