-- Clusters that were taken out of a bitmap which stays as it is.
use Rattle.std.specs.Prelude.{ℕ, ◌<◌, Bool, false, ◌&&◌, ◌||◌, nat_le, nat_lt, if◌then◌else◌, List, [], ◌∷◌, length, map, All, Option, Some, None}
use Rattle.std.specs.List.{range_with_len}
use Rattle.space_model.specs.bit_set.Bits.{bit}
use Rattle.plan_space.specs.declared.taken.Span.{Span}

-- the clusters of a span
abbrev pub is_inside : Span → ℕ → Bool
is_inside s i = nat_le s.first i && nat_lt i s.end

-- the clusters of some span
unfoldable pub is_taken : List Span → ℕ → Bool
is_taken [] i = false
is_taken (s ∷ spans) i = is_inside s i || is_taken spans i

-- the bits where the clusters of the spans are set
unfoldable pub with_spans : List Span → List Bool → List Bool
with_spans spans bits = map (λ i. is_taken spans i || bit bits i) (range_with_len 0 (length bits))

-- each span has a cluster
abbrev pub AreSome : List Span → Type 0
AreSome spans = All (λ (s : Span). s.first < s.end) spans

-- the end of the first span that has a cluster from this one on, below end
unfoldable pub barrier : ℕ → ℕ → List Span → Option ℕ
barrier first end [] = None
barrier first end (s ∷ spans) = if nat_lt s.first end && nat_lt first s.end then Some s.end else barrier first end spans
