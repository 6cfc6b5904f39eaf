-- What the bits of runs make of the bitmap.
use Rattle.std.proofs.Common.{◌≡◌, ◌⊎◌, ℕ, suc, ◌+◌, ◌-◌, ◌/◌, ◌<◌, ◌≤◌, Bool, true, false, cond, List, [], ◌∷◌, Option, Some, None, refl, sym, ap, subst, ◌∙◌, inl, inr, arith}
use Rattle.std.specs.Prelude.{nat_le, nat_lt}
use Rattle.std.proofs.lemmas.Bool.{cases_Bool, cases_lt, and_parts, and_cases, ltb-true, ltb-false, leb-true, leb-false}
use Rattle.draft_bits.specs.disk_model.declared.block.Block.{Block}
use Rattle.draft_bits.specs.disk_model.declared.block.BlockKind.TheVariants.{Plain}
use Rattle.draft_bits.specs.disk_model.Content.{Content, HasSizes}
use Rattle.draft_bits.specs.record_model.declared.runs.Run.{Run}
use Rattle.draft_bits.specs.state_model.declared.stream.Extents.{Extents}
use Rattle.draft_bits.specs.state_model.Streams.{block_at}
use Rattle.stream_runs.specs.volume_model.Owners.{covers, covers_from, uses}
use Rattle.draft_bits.specs.plan_bodies.Bodies.{body_in}
use Rattle.draft_bits.specs.plan_draft.declared.touched.Touched.{Touched}
use Rattle.draft_bits.specs.plan_draft.Touching.{bodies_of}
use Rattle.draft_bits.specs.plan_draft.Drafts.{drafted}
use Rattle.draft_bits.specs.draft_streams.Effects.{HasOwnSectors}
use Rattle.draft_bits.specs.Effects.{stream_bit, IsKept, IsNoSector}
use Rattle.draft_bits.proofs.BitEffects.{bits_put}
use Rattle.stream_runs.proofs.Merging.{uses-cons}
use Rattle.draft_runs.specs.Clusters.{PutsClusters, PutsRuns}
use Rattle.draft_runs.specs.Effects.{RunsArePut}

uses-nil : (x : ℕ) → uses [] x ≡ 0
unfolding uses
uses-nil x = refl

-- ---- one run

outside : (x first len : ℕ) → (nat_le first x ≡ false) ⊎ (nat_lt x (first + len) ≡ false) → (x < first) ⊎ (first + len ≤ x)
outside x first len (inl not_le) = inl (leb-false first x not_le)
outside x first len (inr not_lt) = inr (ltb-false x (first + len) not_lt)

none_here : (t : Bool) (n : ℕ) → cond t 1 0 + n ≡ 0 → (t ≡ false) × (n ≡ 0)
none_here true n is = absurd (omega (arith, is))
none_here false n is = (refl, omega (arith, is))

some_here : (t : Bool) (n : ℕ) → 0 < cond t 1 0 + n → n ≡ 0 → t ≡ true
some_here true n some none = refl
some_here false n some none = absurd (omega (arith, some, none))

module _ (c : Content) (per : ℕ) (e : Extents) (i : ℕ) (value : Bool) (sized : HasSizes c) where
  abbrev bit_of : List Touched → Bool
  bit_of touched = stream_bit (drafted touched c) per e i

  one_kept : (o : Option ℕ) (len : ℕ) (old new : List Touched) → IsKept old → PutsClusters c per e value o len old new → IsKept new
  one_kept None len old new is put = subst IsKept (sym put) is
  one_kept (Some first) len old new is put = bits_put.kept c per e first len value old new sized is put

  one_inside : (o : Option ℕ) (len : ℕ) (old new : List Touched) (b : Block) → IsKept old → HasOwnSectors per e.runs → PutsClusters c per e value o len old new → i / 8 < e.initialised → block_at per e.runs Plain (i / 8 / 512) ≡ Some b → covers_from i len o ≡ true → bit_of new ≡ value
  one_inside None len old new b is own put below lies there = (let clash : false ≡ true = there in absurd cc)
  one_inside (Some first) len old new b is own put below lies there =
      let parts = and_parts (nat_le first i) (nat_lt i (first + len)) there in
      bits_put.inside c per e first len i value old new b sized is (bits_put.kept c per e first len value old new sized is put) own put below lies (leb-true first i parts.0) (ltb-true i (first + len) parts.1)

  one_outside : (o : Option ℕ) (len : ℕ) (old new : List Touched) → IsKept old → HasOwnSectors per e.runs → PutsClusters c per e value o len old new → i / 8 < e.initialised → covers_from i len o ≡ false → bit_of new ≡ bit_of old
  one_outside None len old new is own put below there = ap bit_of put
  one_outside (Some first) len old new is own put below there =
      bits_put.others c per e first len i value old new sized is (bits_put.kept c per e first len value old new sized is put) own put below (outside i first len (and_cases (nat_le first i) (nat_lt i (first + len)) there))

  -- ---- all runs

  all_kept : (runs : List Run) (old new : List Touched) → IsKept old → PutsRuns c per e value runs old new → IsKept new
  unfolding PutsRuns
  all_kept [] old new is put = subst IsKept (sym put) is
  all_kept (r ∷ runs) old new is put = all_kept runs put.0 new (one_kept r.lcn r.len old put.0 is put.1.0) put.1.1

  all_others : (runs : List Run) (old new : List Touched) → IsKept old → HasOwnSectors per e.runs → PutsRuns c per e value runs old new → i / 8 < e.initialised → uses runs i ≡ 0 → bit_of new ≡ bit_of old
  unfolding PutsRuns
  all_others [] old new is own put below none = ap bit_of put
  all_others (r ∷ runs) old new is own put below none =
      let parts = none_here (covers i r) (uses runs i) (sym (uses-cons r runs i) ∙ none) in
      all_others runs put.0 new (one_kept r.lcn r.len old put.0 is put.1.0) own put.1.1 below parts.1
      ∙ one_outside r.lcn r.len old put.0 is own put.1.0 below parts.0

  all_inside : (runs : List Run) (old new : List Touched) (b : Block) → IsKept old → HasOwnSectors per e.runs → PutsRuns c per e value runs old new → i / 8 < e.initialised → block_at per e.runs Plain (i / 8 / 512) ≡ Some b → 0 < uses runs i → bit_of new ≡ value
  unfolding PutsRuns
  all_inside [] old new b is own put below lies some = absurd (omega (arith, some, uses-nil i))
  all_inside (r ∷ runs) old new b is own put below lies some = elim (cases_lt 0 (uses runs i)) [
    | inl more ↦ all_inside runs put.0 new b (one_kept r.lcn r.len old put.0 is put.1.0) own put.1.1 below lies more
    | inr none ↦
        (let zero : uses runs i ≡ 0 = omega (arith, none) in
        let here = some_here (covers i r) (uses runs i) (subst (λ (n : ℕ). 0 < n) (uses-cons r runs i) some) zero in
        all_others runs put.0 new (one_kept r.lcn r.len old put.0 is put.1.0) own put.1.1 below zero
        ∙ one_inside r.lcn r.len old put.0 b is own put.1.0 below lies here)
  ]

one_elsewhere : (c : Content) (per : ℕ) (e : Extents) (value : Bool) (o : Option ℕ) (len : ℕ) (old new : List Touched) (b : Block) → PutsClusters c per e value o len old new → IsNoSector per e.runs b → body_in (bodies_of new) b ≡ body_in (bodies_of old) b
one_elsewhere c per e value None len old new b put apart = ap (λ (t : List Touched). body_in (bodies_of t) b) put
one_elsewhere c per e value (Some first) len old new b put apart = bits_put.elsewhere c per e first len value old new b put apart

elsewhere_of : (c : Content) (per : ℕ) (e : Extents) (value : Bool) (runs : List Run) (old new : List Touched) (b : Block) → PutsRuns c per e value runs old new → IsNoSector per e.runs b → body_in (bodies_of new) b ≡ body_in (bodies_of old) b
unfolding PutsRuns
elsewhere_of c per e value [] old new b put apart = ap (λ (t : List Touched). body_in (bodies_of t) b) put
elsewhere_of c per e value (r ∷ runs) old new b put apart = elsewhere_of c per e value runs put.0 new b put.1.1 apart ∙ one_elsewhere c per e value r.lcn r.len old put.0 b put.1.0 apart

pub runs_put : RunsArePut
runs_put = record {
  inside = λ c per e i value runs old new b sized is own put below lies some. all_inside c per e i value sized runs old new b is own put below lies some;
  others = λ c per e i value runs old new sized is own put below none. all_others c per e i value sized runs old new is own put below none;
  elsewhere = λ c per e value runs old new b put apart. elsewhere_of c per e value runs old new b put apart;
  kept = λ c per e value runs old new sized is put. all_kept c per e 0 value sized runs old new is put;
}
