-- The bit of a number that a draft puts.
use Rattle.std.proofs.Common.{◌≡◌, ◌≢◌, ℕ, ◌/◌, ◌%◌, ◌<◌, Bool, true, ◌||◌, eqb, List, [], Option, Some, sym, ap, subst, ◌∙◌, inl, inr, arith}
use Rattle.std.proofs.lemmas.Bool.{cases_lt, cases_eq, eq-eqb, ne_eqb}
use Rattle.std.proofs.lemmas.List.FromFn.{get_or-map-range_with_len}
use Rattle.disk_model.specs.declared.block.BlockKind.TheVariants.{Plain}
use Rattle.disk_model.specs.Content.{Content, HasSizes}
use Rattle.record_model.specs.Constants.{bitmap_type}
use Rattle.bit_set.specs.Bits.{bit}
use Rattle.bit_set.specs.Words.{is_one, byte_bit}
use Rattle.state_model.specs.declared.geometry.Geometry.{Geometry}
use Rattle.state_model.specs.declared.stream.Extents.{Extents}
use Rattle.state_model.specs.declared.stream.Stream.{Stream}
use Rattle.state_model.specs.declared.stream.Stream.TheVariants.{Placed}
use Rattle.state_model.specs.Streams.{block_at, byte_at, extent_bytes}
use Rattle.volume_model.specs.Volumes.{Volume, count_of, table_file, bytes_or, record_bits, record_bitmap}
use Rattle.stream_laws.specs.Places.{AreOnce}
use Rattle.stream_laws.specs.Sharing.{StreamKey, runs_in}
use Rattle.stream_laws.proofs.Bitmapping.{record_bit}
use Rattle.stream_laws.proofs.Sharing.{stream_once}
use Rattle.file_makes.specs.plan_owners.States.{Stands}
use Rattle.file_makes.proofs.plan_owners.Outside.{once}
use Rattle.plan_draft.specs.declared.touched.Touched.{Touched}
use Rattle.plan_draft.specs.Drafts.{drafted}
use Rattle.draft_streams.specs.Effects.{HasOwnSectors}
use Rattle.draft_bits.specs.Filling.{PutsBits}
use Rattle.draft_bits.specs.Effects.{stream_bit, IsKept}
use Rattle.draft_bits.proofs.BitEffects.{bits_put}
use Rattle.file_makes.proofs.plan_edits.Bitmap.{own_by}
use Rattle.file_makes.proofs.plan_edits.Editing.{some_of}
use Rattle.made_files.specs.Made.{HasNumbers}

bit_in : (c : Content) (per : ℕ) (e : Extents) (o : Option Stream) (x : ℕ) → o ≡ Some (Placed e) → x / 8 < e.real → byte_bit (bytes_or c per o) x ≡ stream_bit c per e x
unfolding extent_bytes
bit_in c per e o x is within =
    ap (λ (s : Option Stream). byte_bit (bytes_or c per s) x) is
    ∙ ap (λ (y : ℕ). is_one y (x % 8)) (get_or-map-range_with_len (byte_at c per e) 0 e.real (x / 8) (x / 8) 0 within (omega arith))

abbrev pub numbers_key : StreamKey
numbers_key = record { file = table_file; kind = bitmap_type; name = [] }

pub own_numbers : (c : Content) (g : Geometry) (clusters : ℕ) (v : Volume) (numbers : Extents) → Stands c g clusters v → record_bitmap v ≡ Some (Placed numbers) → HasOwnSectors v.per numbers.runs
own_numbers c g clusters v numbers state is = own_by v.per numbers.runs state.some (subst (λ (o : Option Stream). AreOnce (runs_in o)) is (stream_once v numbers_key (once c g clusters v state)))

module _ (c : Content) (v : Volume) (numbers : Extents) (n : ℕ) (mid new : List Touched) (has : HasNumbers v numbers) (own : HasOwnSectors v.per numbers.runs) (sized : HasSizes c) (kept : IsKept mid) (put : PutsBits c v.per numbers n 1 true mid new) where
  bit_is : (d : Content) (i : ℕ) → i < count_of v → bit (record_bits d v) i ≡ stream_bit d v.per numbers i
  bit_is d i low =
      let below = has.below in
      let lawful = has.lawful in
      record_bit d v i low ∙ bit_in d v.per numbers (record_bitmap v) i has.stream (omega (arith, below, lawful, low))

  new_kept : IsKept new
  new_kept = bits_put.kept c v.per numbers n 1 true mid new sized kept put

  set : (m : ℕ) → m < count_of v → m ≡ n → stream_bit (drafted new c) v.per numbers m ≡ true
  set m low is =
      let below = has.below in
      let at = some_of (block_at v.per numbers.runs Plain (m / 8 / 512)) (has.lies (m / 8 / 512) (omega (arith, below, low))) in
      bits_put.inside c v.per numbers n 1 m true mid new at.0 sized kept new_kept own put (omega (arith, below, low)) at.1 (omega (arith, is)) (omega (arith, is))

  stays : (m : ℕ) → m < count_of v → m ≢ n → stream_bit (drafted new c) v.per numbers m ≡ stream_bit (drafted mid c) v.per numbers m
  stays m low other =
      let below = has.below in
      bits_put.others c v.per numbers n 1 m true mid new sized kept new_kept own put (omega (arith, below, low)) (elim (cases_lt m n) [
        | inl less ↦ inl less
        | inr ge ↦ elim (cases_eq m n) [
          | inl is ↦ absurd (other is)
          | inr differ ↦ inr (omega (arith, ge, differ))
        ]
      ])

  pub bit_marked : (m : ℕ) → m < count_of v → bit (record_bits (drafted new c) v) m ≡ (eqb m n || bit (record_bits (drafted mid c) v) m)
  bit_marked m low = elim (cases_eq m n) [
    | inl is ↦ bit_is (drafted new c) m low ∙ set m low is ∙ sym (ap (λ (t : Bool). t || bit (record_bits (drafted mid c) v) m) (eq-eqb m n is))
    | inr other ↦ bit_is (drafted new c) m low ∙ stays m low other ∙ sym (bit_is (drafted mid c) m low) ∙ sym (ap (λ (t : Bool). t || bit (record_bits (drafted mid c) v) m) (ne_eqb m n other))
  ]
