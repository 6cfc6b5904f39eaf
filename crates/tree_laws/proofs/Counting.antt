-- How many clusters are free after some were taken and some given back.
use Rattle.std.proofs.Common.{◌≡◌, ℕ, zero, suc, ◌+◌, ◌<◌, ◌≤◌, Bool, true, false, not, cond, ◌&&◌, List, [], ◌∷◌, map, refl, sym, ap, ◌∙◌, arith}
use Rattle.std.specs.Prelude.{count_by}
use Rattle.std.specs.List.{range_with_len}
use Rattle.std.proofs.lemmas.List.Sums.{sum_by-cons}
use Rattle.volume_state.specs.disk_model.Content.{Content}
use Rattle.volume_state.specs.bit_set.Bits.{bit}
use Rattle.volume_state.specs.bit_set.Words.{byte_bit, bits_of_bytes}
use Rattle.volume_state.proofs.bit_set.Views.{bit-bits_of_bytes}
use Rattle.volume_state.specs.volume_model.Volumes.{Volume, bytes_or, cluster_bitmap, cluster_bits}
use Rattle.volume_state.specs.volume_model.Nodes.{free_clusters}
use Rattle.tree_laws.specs.Room.{newly_set, newly_clear}

abbrev tally : Bool → ℕ
tally t = cond t 1 0

counted : {X : Type 0} (p : X → Bool) (x : X) (xs : List X) → count_by p (x ∷ xs) ≡ tally (p x) + count_by p xs
counted p x xs = sum_by-cons (λ y. cond (p y) 1 0) x xs

-- the clear ones among values at numbers
clear_among : (f : ℕ → Bool) (numbers : List ℕ) → count_by not (map f numbers) ≡ count_by (λ x. not (f x)) numbers
clear_among f [] = refl
clear_among f (n ∷ numbers) = omega (arith, counted not (f n) (map f numbers), counted (λ x. not (f x)) n numbers, clear_among f numbers)

same_tests : (p q : ℕ → Bool) (a n : ℕ) → ((x : ℕ) → a ≤ x → x < a + n → p x ≡ q x) → count_by p (range_with_len a n) ≡ count_by q (range_with_len a n)
same_tests p q a zero each = refl
same_tests p q a (suc n) each =
    let here : tally (p a) ≡ tally (q a) = ap tally (each a (omega arith) (omega arith)) in
    omega (arith, counted p a (range_with_len (a + 1) n), counted q a (range_with_len (a + 1) n), here, same_tests p q (a + 1) n (λ x low high. each x (omega arith) (omega arith)))

one_bit : (old new : Bool) → tally (not new) + tally (not old && new) ≡ tally (not old) + tally (old && not new)
one_bit true true = refl
one_bit true false = refl
one_bit false true = refl
one_bit false false = refl

all_bits : (f g : ℕ → Bool) (numbers : List ℕ) → count_by (λ x. not (g x)) numbers + count_by (λ x. not (f x) && g x) numbers ≡ count_by (λ x. not (f x)) numbers + count_by (λ x. f x && not (g x)) numbers
all_bits f g [] = refl
all_bits f g (n ∷ numbers) =
    omega (
      arith,
      one_bit (f n) (g n),
      counted (λ x. not (g x)) n numbers,
      counted (λ x. not (f x) && g x) n numbers,
      counted (λ x. not (f x)) n numbers,
      counted (λ x. f x && not (g x)) n numbers,
      all_bits f g numbers,
    )

-- the free clusters by their numbers
free_by_number : (c : Content) (v : Volume) → free_clusters c v ≡ count_by (λ x. not (bit (cluster_bits c v) x)) (range_with_len 0 v.clusters)
unfolding free_clusters cluster_bits bits_of_bytes
free_by_number c v =
    let bytes = bytes_or c v.per (cluster_bitmap v) in
    clear_among (byte_bit bytes) (range_with_len 0 v.clusters)
    ∙ same_tests (λ x. not (byte_bit bytes x)) (λ x. not (bit (bits_of_bytes bytes v.clusters) x)) 0 v.clusters (λ x low high. ap not (sym (bit-bits_of_bytes bytes v.clusters x (omega arith))))

pub room_balance : (c d : Content) (v w : Volume) → w.clusters ≡ v.clusters → free_clusters d w + newly_set v.clusters (cluster_bits c v) (cluster_bits d w) ≡ free_clusters c v + newly_clear v.clusters (cluster_bits c v) (cluster_bits d w)
room_balance c d v w same =
    let now : free_clusters d w ≡ count_by (λ x. not (bit (cluster_bits d w) x)) (range_with_len 0 v.clusters) = free_by_number d w ∙ ap (λ (k : ℕ). count_by (λ x. not (bit (cluster_bits d w) x)) (range_with_len 0 k)) same in
    omega (arith, now, free_by_number c v, all_bits (bit (cluster_bits c v)) (bit (cluster_bits d w)) (range_with_len 0 v.clusters))
