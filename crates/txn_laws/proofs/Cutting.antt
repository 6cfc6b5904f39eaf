-- The pieces of a change as updates: they are changes of the block, cover its bytes, and leave the body after it.
use Rattle.std.proofs.Common.{◌≡◌, ◌≢◌, ◌⊎◌, subst, ℕ, zero, suc, ◌+◌, ◌-◌, ◌*◌, ◌<◌, ◌≤◌, min, Bool, true, false, cond, List, [], ◌∷◌, length, map, drop, get_or, Option, Some, None, refl, sym, ap, ap₂, ◌∙◌, inl, inr, arith}
use Rattle.std.specs.Prelude.{◌&&◌, nat_le, nat_lt, slice_index, unwrap_or}
use Rattle.std.specs.List.{AllByRecursion}
use Rattle.std.proofs.lemmas.Bool.{cases_Bool, cases_lt, eq-eqb, ne_eqb, lt-ltb, le-leb, leb-true, ltb-true}
use Rattle.std.proofs.lemmas.List.{length-take-le, length-drop, get_or-take, get_or-drop}
use Rattle.area_laws.specs.disk_model.declared.block.Block.{Block}
use Rattle.area_laws.specs.disk_model.declared.block.BlockKind.{BlockKind}
use Rattle.area_laws.specs.disk_model.declared.block.BlockKind.TheVariants.{Plain, FileRec, Index}
use Rattle.area_laws.specs.disk_model.Bytes.{part}
use Rattle.area_laws.specs.disk_model.Sectors.{same_block}
use Rattle.area_laws.proofs.disk_model.Frames.{same_block-is}
use Rattle.txn_model.specs.block_pool.Numbers.{kind_number}
use Rattle.area_laws.specs.log_model.declared.entry.Entry.{Entry}
use Rattle.area_laws.specs.log_model.declared.entry.Act.{Act}
use Rattle.area_laws.specs.log_model.Logs.{kind_of, block_of_kind, covers, redo_byte, undo_byte, first_undo}
use Rattle.area_laws.specs.log_area.Areas.{LogAreaOf, appended}
use Rattle.store_claims.specs.store_model.Logs.{AllBytes, undone, changed}
use Rattle.store_claims.specs.store_model.Stores.{Window}
use Rattle.store_claims.specs.store_model.Events.{after_change, after_changes, IsChange, AreChanges}
use Rattle.store_claims.proofs.store_model.Told.{true≢false, same_self}
use Rattle.store_claims.proofs.store_model.Window.{window-change}
use Rattle.txn_model.specs.Pieces.{Piece, cut, update_of_piece, next_entry, entries_of}

-- ---- pieces

-- a piece between these bytes
pub record IsPiece (from to : ℕ) (p : Piece) : Type 0 where
  pub low : from ≤ p.at
  pub some : 0 < p.count
  pub high : p.at + p.count ≤ to

cut_step : (most at n : ℕ) → 0 < n → cut (suc most) at n ≡ record { at = at; count = min 1900 n } ∷ cut most (at + min 1900 n) (n - min 1900 n)
cut_step most at n some = ap (λ (b : Bool). cond b [] (record { at = at; count = min 1900 n } ∷ cut most (at + min 1900 n) (n - min 1900 n))) (ne_eqb n 0 (λ e. omega (arith, some, e)))

cut_nothing : (most at n : ℕ) → n ≡ 0 → cut (suc most) at n ≡ []
cut_nothing most at n none = ap (λ (b : Bool). cond b [] (record { at = at; count = min 1900 n } ∷ cut most (at + min 1900 n) (n - min 1900 n))) (eq-eqb n 0 none)

pub cut_within : (most at n from to : ℕ) → from ≤ at → at + n ≤ to → AllByRecursion (IsPiece from to) (cut most at n)
cut_within zero at n from to low high = tt
cut_within (suc most) at n from to low high =
    let rest : AllByRecursion (IsPiece from to) (cut most (at + min 1900 n) (n - min 1900 n)) = cut_within most (at + min 1900 n) (n - min 1900 n) from to (omega (arith, low)) (omega (arith, high)) in
    elim (cases_lt 0 n) [
      | inl some ↦ subst (λ (qs : List Piece). AllByRecursion (IsPiece from to) qs) (sym (cut_step most at n some)) (record { low = low; some = omega (arith, some); high = omega (arith, high) }, rest)
      | inr none ↦ subst (λ (qs : List Piece). AllByRecursion (IsPiece from to) qs) (sym (cut_nothing most at n (omega (arith, none)))) tt
    ]

-- one of the pieces has this byte
abbrev pub Has : ℕ → List Piece → Type 0
Has i [] = ⊥
Has i (p ∷ ps) = ((p.at ≤ i) × (i < p.at + p.count)) ⊎ Has i ps

pub cut_has : (most at n i : ℕ) → n ≤ 1900 * most → at ≤ i → i < at + n → Has i (cut most at n)
cut_has zero at n i few low high = absurd (omega (arith, few, low, high))
cut_has (suc most) at n i few low high =
    let rest : at + min 1900 n ≤ i → Has i (cut most (at + min 1900 n) (n - min 1900 n)) = λ more. cut_has most (at + min 1900 n) (n - min 1900 n) i (omega (arith, few)) more (omega (arith, high, more)) in
    subst (λ (qs : List Piece). Has i qs) (sym (cut_step most at n (omega (arith, low, high)))) (by_place rest (cases_lt i (at + min 1900 n)))
  where
    by_place : (at + min 1900 n ≤ i → Has i (cut most (at + min 1900 n) (n - min 1900 n))) → (i < at + min 1900 n) ⊎ (at + min 1900 n ≤ i)
        → ((at ≤ i) × (i < at + min 1900 n)) ⊎ Has i (cut most (at + min 1900 n) (n - min 1900 n))
    by_place rest (inl less) = inl (low, less)
    by_place rest (inr more) = inr (rest more)

pub cut_some : (at n : ℕ) → 0 < n → 0 < length (cut 3 at n)
cut_some at n some = subst (λ (qs : List Piece). 0 < length qs) (sym (cut_step 2 at n some)) (omega arith)

-- ---- bytes of a part

pub length-part : (at n : ℕ) (xs : List ℕ) → at + n ≤ length xs → length (part at n xs) ≡ n
length-part at n xs le = length-take-le n (drop at xs) (omega (arith, le, length-drop at xs))

part_byte : (at n : ℕ) (xs : List ℕ) (i : ℕ) → at ≤ i → i < at + n → slice_index (part at n xs) (i - at) ≡ slice_index xs i
part_byte at n xs i low high =
    get_or-take n (drop at xs) (i - at) 0 (omega (arith, low, high)) ∙ get_or-drop at xs (i - at) 0 ∙ ap (λ (k : ℕ). get_or xs k 0) (let e : at + (i - at) ≡ i = omega (arith, low) in e)

pub same_kind_of : (kind : BlockKind) → kind_of (kind_number kind) ≡ kind
same_kind_of Plain = refl
same_kind_of FileRec = refl
same_kind_of Index = refl

and_parts : (a b : Bool) → (a && b) ≡ true → (a ≡ true) × (b ≡ true)
and_parts true b is = (refl, is)
and_parts false b is = absurd cc

-- ---- the updates of a body's pieces

module _ (c : Block) (before after : List ℕ) (n : ℕ) (size_before : length before ≡ n) (size_after : length after ≡ n) where
  abbrev act : Piece → Act
  act p = update_of_piece c before after p

  abbrev us : LogAreaOf → ℕ → ℕ → List Piece → List Entry
  us log tx last ps = entries_of log tx last (map (update_of_piece c before after) ps)

  pub block_is : block_of_kind c.first (kind_number c.kind) ≡ c
  block_is = ap (λ (kind : BlockKind). record { first = c.first; kind = kind }) (same_kind_of c.kind)

  redo_size : (p : Piece) → IsPiece 0 n p → length (part p.at p.count after) ≡ p.count
  redo_size p is = length-part p.at p.count after (omega (arith, is.high, size_after))

  undo_size : (p : Piece) → IsPiece 0 n p → length (part p.at p.count before) ≡ p.count
  undo_size p is = length-part p.at p.count before (omega (arith, is.high, size_before))

  -- what a piece covers
  pub covered_by : (p : Piece) → IsPiece 0 n p → (b : Block) (i : ℕ) → covers b i (act p) ≡ true → (same_block b c ≡ true) × (p.at ≤ i) × (i < p.at + p.count)
  covered_by p is b i cov =
      let all = and_parts (same_block b (block_of_kind c.first (kind_number c.kind)) && nat_le p.at i) (nat_lt i (p.at + length (part p.at p.count after))) cov in
      let two = and_parts (same_block b (block_of_kind c.first (kind_number c.kind))) (nat_le p.at i) all.0 in
      let high : i < p.at + length (part p.at p.count after) = ltb-true i (p.at + length (part p.at p.count after)) all.1 in
      (ap (λ (d : Block). same_block b d) (sym block_is) ∙ two.0, leb-true p.at i two.1, omega (arith, high, redo_size p is))

  pub covers_byte : (p : Piece) → IsPiece 0 n p → (i : ℕ) → p.at ≤ i → i < p.at + p.count → covers c i (act p) ≡ true
  covers_byte p is i low high =
      ap₂ (λ (u : Bool) (v : Bool). (u && nat_le p.at i) && v) (ap (λ (d : Block). same_block c d) block_is ∙ same_self c) (lt-ltb i (p.at + length (part p.at p.count after)) (omega (arith, high, redo_size p is)))
      ∙ ap (λ (v : Bool). v && true) (le-leb p.at i low)

  redo_is : (p : Piece) → IsPiece 0 n p → (i : ℕ) → p.at ≤ i → i < p.at + p.count → redo_byte (act p) i ≡ slice_index after i
  redo_is p is i low high = part_byte p.at p.count after i low high

  undo_is : (p : Piece) → IsPiece 0 n p → (i : ℕ) → p.at ≤ i → i < p.at + p.count → undo_byte (act p) i ≡ slice_index before i
  undo_is p is i low high = part_byte p.at p.count before i low high

  -- ---- they are changes

  is_change : (p : Piece) → IsPiece 0 n p → (w : Window) (log : LogAreaOf) (last : ℕ) → ((i : ℕ) → i < n → slice_index before i ≡ undone w.draft w.body c i) → IsChange w c (next_entry log w.tx last (act p))
  is_change p is w log last old = record {
    update = record { by = refl; block = ap (λ (d : Block). Some d) block_is; level = undo_size p is ∙ sym (redo_size p is) };
    old = λ b i cov none.
        let at = covered_by p is b i cov in
        let same : b ≡ c = same_block-is b c at.0 in
        undo_is p is i at.1 at.2 ∙ old i (omega (arith, at.2, is.high))
        ∙ ap (λ (o : Option ℕ). unwrap_or o (w.body c i)) (ap (λ (d : Block). first_undo w.draft d i) (sym same) ∙ none) ∙ ap (λ (d : Block). w.body d i) (sym same);
  }

  pub are_changes : (ps : List Piece) → AllByRecursion (IsPiece 0 n) ps → (w : Window) (log : LogAreaOf) (last : ℕ) → ((i : ℕ) → i < n → slice_index before i ≡ undone w.draft w.body c i)
      → AreChanges w c (entries_of log w.tx last (map (update_of_piece c before after) ps))
  are_changes [] all w log last old = tt
  are_changes (p ∷ ps) (is, all) w log last old =
      let e = next_entry log w.tx last (act p) in
      let one = is_change p is w log last old in
      (one, are_changes ps all (after_change w c e) (appended e log) e.lsn (λ i lt. old i lt ∙ ap (λ (bytes : AllBytes). bytes c i) (sym (window-change w.draft e w.body one.old))))

  -- ---- the body after them

  one_more : (p : Piece) → IsPiece 0 n p → (w : Window) (log : LogAreaOf) (tx last i : ℕ) → w.body c i ≡ slice_index after i → changed (next_entry log tx last (act p)) w.body c i ≡ slice_index after i
  one_more p is w log tx last i same = elim (cases_Bool (covers c i (act p))) [
    | inl cov ↦ (let at = covered_by p is c i cov in ap (λ (v : Bool). cond v (redo_byte (act p) i) (w.body c i)) cov ∙ redo_is p is i at.1 at.2)
    | inr none ↦ ap (λ (v : Bool). cond v (redo_byte (act p) i) (w.body c i)) none ∙ same
  ]

  -- a byte that is that of the body after the change stays so
  pub stays_after : (ps : List Piece) → AllByRecursion (IsPiece 0 n) ps → (w : Window) (log : LogAreaOf) (tx last i : ℕ) → w.body c i ≡ slice_index after i
      → (after_changes w c (entries_of log tx last (map (update_of_piece c before after) ps))).body c i ≡ slice_index after i
  stays_after [] all w log tx last i same = same
  stays_after (p ∷ ps) (is, all) w log tx last i same =
      let e = next_entry log tx last (act p) in stays_after ps all (after_change w c e) (appended e log) tx e.lsn i (one_more p is w log tx last i same)

  -- and a byte that a piece has becomes so
  pub gets_after : (ps : List Piece) → AllByRecursion (IsPiece 0 n) ps → (w : Window) (log : LogAreaOf) (tx last i : ℕ) → Has i ps
      → (after_changes w c (entries_of log tx last (map (update_of_piece c before after) ps))).body c i ≡ slice_index after i
  gets_after [] all w log tx last i has = absurd has
  gets_after (p ∷ ps) (is, all) w log tx last i (inl at) =
      let e = next_entry log tx last (act p) in
      stays_after ps all (after_change w c e) (appended e log) tx e.lsn i
      (ap (λ (v : Bool). cond v (redo_byte (act p) i) (w.body c i)) (covers_byte p is i at.0 at.1) ∙ redo_is p is i at.0 at.1)
  gets_after (p ∷ ps) (is, all) w log tx last i (inr rest) =
      let e = next_entry log tx last (act p) in gets_after ps all (after_change w c e) (appended e log) tx e.lsn i rest

  -- ---- what they cover

  pub has_undo : (ps : List Piece) → AllByRecursion (IsPiece 0 n) ps → (log : LogAreaOf) (tx last i : ℕ) → Has i ps → first_undo (entries_of log tx last (map (update_of_piece c before after) ps)) c i ≢ None
  has_undo [] all log tx last i has none = absurd has
  has_undo (p ∷ ps) (is, all) log tx last i has none = elim (cases_Bool (covers c i (act p))) [
    | inl cov ↦ some_none (undo_byte (act p) i) (sym (ap (λ (v : Bool). cond v (Some (undo_byte (act p) i)) (first_undo (rest) c i)) cov) ∙ none)
    | inr away ↦ has_undo ps all (appended e log) tx e.lsn i (behind away has) (sym (ap (λ (v : Bool). cond v (Some (undo_byte (act p) i)) (first_undo (rest) c i)) away) ∙ none)
  ]
    where
      e : Entry
      e = next_entry log tx last (act p)

      rest : List Entry
      rest = entries_of (appended (next_entry log tx last (act p)) log) tx (next_entry log tx last (act p)).lsn (map (update_of_piece c before after) ps)

      some_none : (x : ℕ) → ◌≡◌ {A = Option ℕ} (Some x) None → ⊥
      some_none x is = cc

      behind : covers c i (act p) ≡ false → ((p.at ≤ i) × (i < p.at + p.count)) ⊎ Has i ps → Has i ps
      behind away (inl at) = absurd (true≢false (sym (covers_byte p is i at.0 at.1) ∙ away))
      behind away (inr there) = there
