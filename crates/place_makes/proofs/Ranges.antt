-- VCNs from one on.
use Rattle.std.proofs.Common.{◌≡◌, ℕ, zero, suc, ◌+◌, ◌/◌, ◌%◌, ◌≤◌, ◌<◌, ◌==◌, nat_lt, ◌&&◌, Bool, true, false, List, [], ◌∷◌, ◌++◌, length, Option, None, slice_get, if◌then◌else◌, refl, sym, ap, ◌∙◌, subst, inl, inr, arith}
use Rattle.std.specs.List.{range_with_len}
use Rattle.std.proofs.lemmas.Bool.{cases_eq, eq-eqb}
use Rattle.std.proofs.lemmas.Option.{slice_get_past}
use Rattle.state_model.specs.disk_model.declared.block.Block.{Block}
use Rattle.record_model.specs.Records.{Record}
use Rattle.index_model.specs.Trees.{one_if, same, times}
use Rattle.index_model.specs.Indexes.{Place, number_of, node_block}
use Rattle.index_model.proofs.Marks.{same_not}
use Rattle.volume_model.specs.Indexes.{index_place, index_stream, stream_blocks}
use Rattle.found_places.specs.Places.{LieBehind}

pub one_more : (a n : ℕ) → range_with_len a n ++ (a + n) ∷ [] ≡ range_with_len a (suc n)
one_more a zero = ap (λ (x : ℕ). x ∷ []) (omega arith)
one_more a (suc n) = ap (λ (l : List ℕ). a ∷ l) (ap (λ (x : ℕ). range_with_len (a + 1) n ++ x ∷ []) (omega arith) ∙ one_more (a + 1) n)

same_is : (x v : ℕ) → x ≡ v → same x v ≡ 1
unfolding same
same_is x v e = ap one_if (eq-eqb x v e)

below : (w a n : ℕ) → w < a → times w (range_with_len a n) ≡ 0
below w a zero low = refl
below w a (suc n) low =
    let here : same w a ≡ 0 = same_not w a (λ is. omega (arith, low, is)) in
    let rest : times w (range_with_len (a + 1) n) ≡ 0 = below w (a + 1) n (omega (arith, low)) in
    omega (arith, here, rest)

once : (w a n : ℕ) → times w (range_with_len a n) ≤ 1
once w a zero = omega arith
once w a (suc n) = elim (cases_eq w a) [
  | inl e ↦
      let here : same w a ≡ 1 = same_is w a e in
      let rest : times w (range_with_len (a + 1) n) ≡ 0 = below w (a + 1) n (omega (arith, e)) in
      omega (arith, here, rest)
  | inr ne ↦
      let here : same w a ≡ 0 = same_not w a ne in
      let rest : times w (range_with_len (a + 1) n) ≤ 1 = once w (a + 1) n in
      omega (arith, here, rest)
]

from : (w a n : ℕ) → 0 < times w (range_with_len a n) → a ≤ w
from w a zero some = absurd (omega (arith, some))
from w a (suc n) some = elim (cases_eq w a) [
  | inl e ↦ omega (arith, e)
  | inr ne ↦
      let here : same w a ≡ 0 = same_not w a ne in
      let more : a + 1 ≤ w = from w (a + 1) n (omega (arith, here, some)) in
      omega (arith, more)
]

test_none : (b : Bool) (o : Option Block) → o ≡ None → (if b then o else None) ≡ None
test_none true o is = is
test_none false o is = refl

none_past : (p : Place) (w : ℕ) → number_of p w ≡ w → length p.blocks ≤ w → node_block p w ≡ None
unfolding node_block
none_past p w number past =
    test_none (nat_lt 0 p.step && w % p.step == 0) (slice_get p.blocks (number_of p w)) (ap (slice_get p.blocks) number ∙ slice_get_past p.blocks w past)

number_one : (per : ℕ) (blocks : List Block) (w : ℕ) → per ≡ 8 → number_of (record { blocks = blocks; step = 8 / per }) w ≡ w
number_one per blocks w eight = subst (λ (p : ℕ). number_of (record { blocks = blocks; step = 8 / p }) w ≡ w) (sym eight) (omega arith)

number_there : (r : Record) (w : ℕ) → number_of (index_place 8 r) w ≡ w
unfolding index_place
number_there r w = number_one 8 (stream_blocks 8 (index_stream r)) w refl

pub lie : (r : Record) (n : ℕ) → length (index_place 8 r).blocks ≤ n → LieBehind 8 r (range_with_len n 17)
lie r n long =
    record {
      enough = omega arith;
      single = λ w. once w n 17;
      behind = λ w some. (let low : n ≤ w = from w n 17 some in none_past (index_place 8 r) w (number_there r w) (omega (arith, long, low)));
    }

-- Seventeen VCNs behind the blocks of the index that lies there.
pub lie_behind : (p : Place) (r : Record) (n : ℕ) (fresh : List ℕ) → p ≡ index_place 8 r → n ≡ length p.blocks → fresh ≡ range_with_len n 17 → LieBehind 8 r fresh
lie_behind p r n fresh place count is =
    let long : length (index_place 8 r).blocks ≤ n = subst (λ (q : Place). length q.blocks ≤ n) place (omega (arith, count)) in
    subst (LieBehind 8 r) (sym is) (lie r n long)
