-- Writes that put bytes into a stream.
use Rattle.std.proofs.Common.{◌≡◌, ℕ, ◌+◌, ◌-◌, ◌/◌, ◌%◌, ◌<◌, ◌≤◌, Bool, true, false, cond, ◌&&◌, leb, ltb, List, [], ◌∷◌, length, get_or, Option, Some, None, refl, sym, ap, ◌∙◌, inl, inr, arith}
use Rattle.std.specs.Prelude.{unwrap_or}
use Rattle.std.proofs.lemmas.Bool.{cases_eq, cases_lt, and_from, eq-eqb, le-leb, lt-leb, lt-ltb, le-ltb, false_from_ne_true}
use Rattle.std.proofs.lemmas.List.{get_or_past}
use Rattle.volume_model.specs.disk_model.declared.block.Block.{Block}
use Rattle.volume_model.specs.disk_model.declared.block.BlockKind.{BlockKind}
use Rattle.volume_model.specs.disk_model.declared.block.BlockKind.TheVariants.{Plain, FileRec, Index}
use Rattle.volume_model.specs.disk_model.Bytes.{written}
use Rattle.volume_model.specs.disk_model.Sectors.{same_kind, same_block, overlap}
use Rattle.volume_model.specs.disk_model.Content.{Content, HasSizes}
use Rattle.volume_model.specs.disk_model.Writes.{Write, overlay, put}
use Rattle.volume_model.proofs.disk_model.Frames.{written_within, written_before, written_behind, length-written, length-bytes_after, bytes_elsewhere}
use Rattle.volume_model.specs.state_model.declared.stream.Extents.{Extents}
use Rattle.volume_model.specs.state_model.Streams.{block_at, extent_bytes}
use Rattle.stream_laws.specs.Changes.{put_in}
use Rattle.stream_laws.specs.Places.{AreOnce}
use Rattle.stream_laws.specs.Puts.{Put, all_put, IsPut, ArePuts, none, inside, outside}
use Rattle.stream_laws.proofs.Framing.{same_extents}
use Rattle.stream_laws.proofs.Changing.{apart_elsewhere, length-extent_bytes, put_below, stays_past}
use Rattle.stream_laws.proofs.Placing.{one_place}
use Rattle.stream_laws.proofs.Counting.{same_list}

kind_itself : (k : BlockKind) → same_kind k k ≡ true
kind_itself Plain = refl
kind_itself FileRec = refl
kind_itself Index = refl

block_itself : (b : Block) → same_block b b ≡ true
block_itself b = and_from _ _ (eq-eqb b.first b.first refl) (kind_itself b.kind)

-- what a write puts at a byte of its own block
put_here : (w : Write) (k : ℕ) → put w w.block k ≡ cond (leb w.at k && ltb k (w.at + length w.bytes)) (Some (get_or w.bytes (k - w.at) 0)) None
put_here w k = ap (λ (t : Bool). cond (t && leb w.at k && ltb k (w.at + length w.bytes)) (Some (get_or w.bytes (k - w.at) 0)) None) (block_itself w.block)

-- nothing is put into the other sectors
put_apart : (per : ℕ) (e : Extents) (w : Write) (p : Put) (s k : ℕ) → 0 < per → AreOnce e.runs → IsPut per e w p → (s ≡ p.at / 512 → ⊥) → (o : Option Block) → block_at per e.runs Plain s ≡ o → put_in (w ∷ []) o k ≡ None
put_apart per e w p s k some once is differ None at = refl
put_apart per e w p s k some once is differ (Some b) at =
    let apart : overlap b w.block ≡ false = false_from_ne_true (overlap b w.block) (λ both. differ (one_place per e.runs Plain s (p.at / 512) b w.block some once at is.lies both)) in
    ap (λ (t : Bool). cond (t && leb w.at k && ltb k (w.at + length w.bytes)) (Some (get_or w.bytes (k - w.at) 0)) None) (apart_elsewhere b w apart)

-- a byte of the put's own sector
byte_here : (w : Write) (p : Put) (old : List ℕ) (m : ℕ) → w.at ≡ p.at % 512 → w.bytes ≡ p.bytes → m / 512 ≡ p.at / 512 → m < length old → unwrap_or (put w w.block (m % 512)) (get_or old m 0) ≡ get_or (written p.at p.bytes old) m 0
byte_here w p old m place bytes sector within =
    let k = m % 512 in
    let size : length w.bytes ≡ length p.bytes = ap length bytes in
    ap (λ (o : Option ℕ). unwrap_or o (get_or old m 0)) (put_here w k)
    ∙ elim (cases_lt k w.at) [
      | inl before ↦
          (let low : m < p.at = omega arith in
          ap (λ (t : Bool). unwrap_or (cond (t && ltb k (w.at + length w.bytes)) (Some (get_or w.bytes (k - w.at) 0)) None) (get_or old m 0)) (lt-leb w.at k before) ∙ sym (written_before p.at p.bytes old m 0 low))
      | inr from ↦ elim (cases_lt k (w.at + length w.bytes)) [
        | inl to ↦
            (let both : (leb w.at k && ltb k (w.at + length w.bytes)) ≡ true = and_from _ _ (le-leb w.at k from) (lt-ltb k (w.at + length w.bytes) to) in
            let there : m ≡ p.at + (k - w.at) = omega arith in
            let inner : k - w.at < length p.bytes = omega arith in
            ap (λ (t : Bool). unwrap_or (cond t (Some (get_or w.bytes (k - w.at) 0)) None) (get_or old m 0)) both
            ∙ ap (λ (l : List ℕ). get_or l (k - w.at) 0) bytes
            ∙ sym (written_within p.at p.bytes old m (k - w.at) 0 there inner within))
        | inr behind ↦
            (let both : (leb w.at k && ltb k (w.at + length w.bytes)) ≡ false = ap (λ (t : Bool). t && ltb k (w.at + length w.bytes)) (le-leb w.at k from) ∙ le-ltb k (w.at + length w.bytes) behind in
            let high : p.at + length p.bytes ≤ m = omega arith in
            ap (λ (t : Bool). unwrap_or (cond t (Some (get_or w.bytes (k - w.at) 0)) None) (get_or old m 0)) both ∙ sym (written_behind p.at p.bytes old m 0 high))
      ]
    ]

-- the write leaves the places outside the put's sector
written_apart : (p : Put) (old : List ℕ) (m : ℕ) → p.at % 512 + length p.bytes ≤ 512 → (m / 512 ≡ p.at / 512 → ⊥) → get_or (written p.at p.bytes old) m 0 ≡ get_or old m 0
written_apart p old m fits differ = elim (cases_lt m p.at) [
  | inl before ↦ written_before p.at p.bytes old m 0 before
  | inr from ↦ elim (cases_lt m (p.at + length p.bytes)) [
    | inl to ↦ absurd (differ (omega arith))
    | inr behind ↦ written_behind p.at p.bytes old m 0 behind
  ]
]

module _ (c : Content) (w : Write) (per : ℕ) (e : Extents) (p : Put) (sized : HasSizes c) (some : 0 < per) (once : AreOnce e.runs) (is : IsPut per e w p) where
  -- a byte below the sizes
  byte_put : (m : ℕ) → m < e.real → m < e.initialised → get_or (extent_bytes (overlay c (w ∷ [])) per e) m 0 ≡ get_or (written p.at p.bytes (extent_bytes c per e)) m 0
  byte_put m within below =
      let old = get_or (extent_bytes c per e) m 0 in
      put_below c (w ∷ []) per e m sized within below
      ∙ elim (cases_eq (m / 512) (p.at / 512)) [
        | inl sector ↦
            (let lies : block_at per e.runs Plain (m / 512) ≡ Some w.block = ap (block_at per e.runs Plain) sector ∙ is.lies in
            let short : m < length (extent_bytes c per e) = omega (arith, length-extent_bytes c per e) in
            ap (λ (o : Option Block). unwrap_or (put_in (w ∷ []) o (m % 512)) old) lies ∙ byte_here w p (extent_bytes c per e) m is.place is.bytes sector short)
        | inr differ ↦
            ap (λ (o : Option ℕ). unwrap_or o old) (put_apart per e w p (m / 512) (m % 512) some once is differ (block_at per e.runs Plain (m / 512)) refl)
            ∙ sym (written_apart p (extent_bytes c per e) m is.in_sector differ)
      ]

  every_byte : (m : ℕ) → get_or (extent_bytes (overlay c (w ∷ [])) per e) m 0 ≡ get_or (written p.at p.bytes (extent_bytes c per e)) m 0
  every_byte m = elim (cases_lt m e.initialised) [
    | inl below ↦ elim (cases_lt m e.real) [
      | inl within ↦ byte_put m within below
      | inr past ↦
          (let now : length (extent_bytes (overlay c (w ∷ [])) per e) ≤ m = omega (arith, length-extent_bytes (overlay c (w ∷ [])) per e) in
          let then : length (written p.at p.bytes (extent_bytes c per e)) ≤ m = omega (arith, length-written p.at p.bytes (extent_bytes c per e), length-extent_bytes c per e) in
          get_or_past (extent_bytes (overlay c (w ∷ [])) per e) m 0 now ∙ sym (get_or_past (written p.at p.bytes (extent_bytes c per e)) m 0 then))
    ]
    | inr past ↦
        (let high : p.at + length p.bytes ≤ m = omega (arith, is.below) in
        stays_past c (w ∷ []) per e m past ∙ sym (written_behind p.at p.bytes (extent_bytes c per e) m 0 high))
  ]

  -- one put
  pub one_put : extent_bytes (overlay c (w ∷ [])) per e ≡ written p.at p.bytes (extent_bytes c per e)
  one_put =
      same_list 0 (written p.at p.bytes (extent_bytes c per e)) (extent_bytes (overlay c (w ∷ [])) per e)
      (omega (arith, length-extent_bytes (overlay c (w ∷ [])) per e, length-written p.at p.bytes (extent_bytes c per e), length-extent_bytes c per e))
      every_byte

-- one write, and then the others
in_turn : (c : Content) (w : Write) (writes : List Write) (per : ℕ) (e : Extents) → extent_bytes (overlay c (w ∷ writes)) per e ≡ extent_bytes (overlay (overlay c (w ∷ [])) writes) per e
in_turn c w writes per e = same_extents (overlay (overlay c (w ∷ [])) writes) (overlay c (w ∷ writes)) per e (λ b read. refl)

sized_after : (c : Content) (w : Write) → HasSizes c → HasSizes (overlay c (w ∷ []))
sized_after c w sized b = length-bytes_after (w ∷ []) b (c b).bytes ∙ sized b

pub puts_written : (c : Content) (writes : List Write) (per : ℕ) (e : Extents) (puts : List Put) → HasSizes c → 0 < per → AreOnce e.runs → ArePuts per e writes puts → extent_bytes (overlay c writes) per e ≡ all_put puts (extent_bytes c per e)
puts_written c [] per e [] sized some once none = same_extents c (overlay c []) per e (λ b read. refl)
puts_written c [] per e (p ∷ puts) sized some once are = elim are [ ]
puts_written c (w ∷ writes) per e (p ∷ puts) sized some once (inside _ _ _ _ is rest) =
    in_turn c w writes per e
    ∙ puts_written (overlay c (w ∷ [])) writes per e puts (sized_after c w sized) some once rest
    ∙ ap (all_put puts) (one_put c w per e p sized some once is)
puts_written c (w ∷ writes) per e puts sized some once (outside _ _ _ elsewhere rest) =
    in_turn c w writes per e
    ∙ puts_written (overlay c (w ∷ [])) writes per e puts (sized_after c w sized) some once rest
    ∙ ap (all_put puts) (same_extents c (overlay c (w ∷ [])) per e (λ b read. bytes_elsewhere (w ∷ []) b (c b).bytes (elsewhere b read, tt)))
