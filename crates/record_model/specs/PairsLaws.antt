-- The laws of mapping pairs.
use Rattle.std.specs.Prelude.{◌≡◌, ℕ, List, [], ◌∷◌, ◌++◌, Ok, Err, Some, None, length, slice_index, ◌<◌, ◌≤◌}
use Rattle.record_model.specs.declared.runs.Run.{Run}
use Rattle.record_model.specs.declared.runs.PairsFault.TheVariants.{Header, Cut, Range}
use Rattle.record_model.specs.Pairs.{runs_of, pairs_of, HasSpelling, SpellsRuns}

-- bytes that spell runs, in whatever widths, are read as these runs, whatever stands behind
abbrev pub SpelledIsRead : Type 0
SpelledIsRead = (first : ℕ) (runs : List Run) (bytes : List ℕ) → HasSpelling first runs → SpellsRuns 0 runs bytes → runs_of first bytes ≡ Ok runs

-- bytes that are read spell the runs that were read, and these runs have a spelling
abbrev pub ReadIsSpelled : Type 0
ReadIsSpelled = (first : ℕ) (runs : List Run) (bytes : List ℕ) → runs_of first bytes ≡ Ok runs → HasSpelling first runs × SpellsRuns 0 runs bytes

-- what is written spells the runs, whatever stands behind
abbrev pub WrittenIsSpelled : Type 0
WrittenIsSpelled = (first : ℕ) (runs : List Run) (rest : List ℕ) → HasSpelling first runs → SpellsRuns 0 runs (pairs_of runs ++ rest)

-- what is written is read again as the same runs, whatever stands behind
abbrev pub WrittenIsRead : Type 0
WrittenIsRead = (first : ℕ) (runs : List Run) (rest : List ℕ) → HasSpelling first runs → runs_of first (pairs_of runs ++ rest) ≡ Ok runs

-- no bytes that spell the runs are fewer than those that are written
abbrev pub WrittenIsShortest : Type 0
WrittenIsShortest = (runs : List Run) (bytes : List ℕ) → ((i : ℕ) → slice_index bytes i < 256) → SpellsRuns 0 runs bytes → length (pairs_of runs) ≤ length bytes

-- Examples, the first of them from the Linux-NTFS documentation: runs that are read, the limits of widths, lengths and
-- LCNs from both sides, and bytes with two faults, of which the header's comes first, then the end, then the range.
pub record PairsVectors : Type 0 where
  pub four : runs_of 0 (0x11 ∷ 0x30 ∷ 0x60 ∷ 0x21 ∷ 0x10 ∷ 0x00 ∷ 0x01 ∷ 0x01 ∷ 0x08 ∷ 0x11 ∷ 0x20 ∷ 0xe0 ∷ 0x00 ∷ []) ≡ Ok (record { vcn = 0; lcn = Some 96; len = 48 } ∷ record { vcn = 48; lcn = Some 352; len = 16 } ∷ record { vcn = 64; lcn = None; len = 8 } ∷ record { vcn = 72; lcn = Some 320; len = 32 } ∷ [])
  pub two : runs_of 0 (0x31 ∷ 0x38 ∷ 0x73 ∷ 0x25 ∷ 0x34 ∷ 0x32 ∷ 0x14 ∷ 0x01 ∷ 0xe5 ∷ 0x11 ∷ 0x02 ∷ 0x00 ∷ []) ≡ Ok (record { vcn = 0; lcn = Some 3417459; len = 56 } ∷ record { vcn = 56; lcn = Some 3553112; len = 276 } ∷ [])
  pub cut_at_bytes : runs_of 0 (0x11 ∷ 0x30 ∷ []) ≡ Err (Cut 0)
  pub cut_at_header : runs_of 0 (0x11 ∷ 0x30 ∷ 0x60 ∷ []) ≡ Err (Cut 3)
  pub header : runs_of 0 (0x10 ∷ 0x05 ∷ 0x00 ∷ []) ≡ Err (Header 0)
  pub range : runs_of 0 (0x11 ∷ 0x01 ∷ 0x80 ∷ 0x00 ∷ []) ≡ Err (Range 0)
  pub header_of_nine : runs_of 0 (0x09 ∷ 0x01 ∷ 0x00 ∷ 0x00 ∷ 0x00 ∷ 0x00 ∷ 0x00 ∷ 0x00 ∷ 0x00 ∷ 0x00 ∷ 0x00 ∷ []) ≡ Err (Header 0)
  pub header_of_nine_more : runs_of 0 (0x91 ∷ 0x01 ∷ 0x05 ∷ 0x00 ∷ 0x00 ∷ 0x00 ∷ 0x00 ∷ 0x00 ∷ 0x00 ∷ 0x00 ∷ 0x00 ∷ 0x00 ∷ []) ≡ Err (Header 0)
  pub eight_and_eight : runs_of 0 (0x88 ∷ 0x01 ∷ 0x00 ∷ 0x00 ∷ 0x00 ∷ 0x00 ∷ 0x00 ∷ 0x00 ∷ 0x00 ∷ 0x05 ∷ 0x00 ∷ 0x00 ∷ 0x00 ∷ 0x00 ∷ 0x00 ∷ 0x00 ∷ 0x00 ∷ 0x00 ∷ []) ≡ Ok (record { vcn = 0; lcn = Some 5; len = 1 } ∷ [])
  pub header_before_cut : runs_of 0 (0x19 ∷ []) ≡ Err (Header 0)
  pub delta_header_before_cut : runs_of 0 (0x91 ∷ []) ≡ Err (Header 0)
  pub no_length_before_cut : runs_of 0 (0x20 ∷ []) ≡ Err (Header 0)
  pub header_before_range : runs_of 0 (0x91 ∷ 0x00 ∷ 0x00 ∷ 0x00 ∷ 0x00 ∷ 0x00 ∷ 0x00 ∷ 0x00 ∷ 0x00 ∷ 0x00 ∷ 0x80 ∷ 0x00 ∷ []) ≡ Err (Header 0)
  pub cut_before_length : runs_of 0 (0x11 ∷ 0x00 ∷ []) ≡ Err (Cut 0)
  pub cut_before_lcn : runs_of 0 (0x21 ∷ 0x01 ∷ 0x80 ∷ []) ≡ Err (Cut 0)
  pub earlier_pair_first : runs_of 0 (0x11 ∷ 0x01 ∷ 0x80 ∷ 0x10 ∷ []) ≡ Err (Range 0)
  pub length_zero : runs_of 0 (0x11 ∷ 0x00 ∷ 0x05 ∷ 0x00 ∷ []) ≡ Err (Range 0)
  pub length_negative : runs_of 0 (0x11 ∷ 0xff ∷ 0x05 ∷ 0x00 ∷ []) ≡ Err (Range 0)
  pub lcn_negative : runs_of 0 (0x11 ∷ 0x01 ∷ 0x05 ∷ 0x11 ∷ 0x01 ∷ 0xfa ∷ 0x00 ∷ []) ≡ Err (Range 3)
  pub lcn_zero : runs_of 0 (0x11 ∷ 0x01 ∷ 0x05 ∷ 0x11 ∷ 0x01 ∷ 0xfb ∷ 0x00 ∷ []) ≡ Ok (record { vcn = 0; lcn = Some 5; len = 1 } ∷ record { vcn = 1; lcn = Some 0; len = 1 } ∷ [])
  pub lcn_last : runs_of 0 (0x51 ∷ 0x01 ∷ 0xff ∷ 0xff ∷ 0xff ∷ 0xff ∷ 0x00 ∷ 0x00 ∷ []) ≡ Ok (record { vcn = 0; lcn = Some 4294967295; len = 1 } ∷ [])
  pub lcn_behind : runs_of 0 (0x51 ∷ 0x01 ∷ 0x00 ∷ 0x00 ∷ 0x00 ∷ 0x00 ∷ 0x01 ∷ 0x00 ∷ []) ≡ Err (Range 0)
  pub sum_full : runs_of 0 (0x05 ∷ 0xff ∷ 0xff ∷ 0xff ∷ 0xff ∷ 0x00 ∷ 0x01 ∷ 0x01 ∷ 0x00 ∷ []) ≡ Ok (record { vcn = 0; lcn = None; len = 4294967295 } ∷ record { vcn = 4294967295; lcn = None; len = 1 } ∷ [])
  pub sum_above : runs_of 0 (0x05 ∷ 0xff ∷ 0xff ∷ 0xff ∷ 0xff ∷ 0x00 ∷ 0x01 ∷ 0x02 ∷ 0x00 ∷ []) ≡ Err (Range 6)
  pub written : pairs_of (record { vcn = 0; lcn = Some 5; len = 200 } ∷ []) ≡ 0x12 ∷ 0xc8 ∷ 0x00 ∷ 0x05 ∷ 0x00 ∷ []
