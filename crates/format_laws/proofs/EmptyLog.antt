-- A log whose bytes are all FF is emptied: recovery by it finds no entry, and changes nothing.
use Rattle.std.proofs.Common.{◌≡◌, ℕ, zero, suc, ◌+◌, ◌-◌, ◌*◌, ◌^◌, ◌<◌, ◌≤◌, Bool, true, false, cond, List, [], ◌++◌, length, take, drop, Option, Some, None, Result, Ok, Err, inl, inr, refl, ap, ◌∙◌, arith}
use Rattle.std.specs.Prelude.{replicate, ◌==◌, is_ok}
use Rattle.std.specs.List.{fold, range_with_len}
use Rattle.std.proofs.lemmas.Bool.{and_left, ne_eqb, lt-ltb, cases_lt}
use Rattle.std.proofs.lemmas.List.{length-replicate, get_or-replicate, drop-replicate, take-replicate, replicate-append-replicate}
use Rattle.std.proofs.Math.Path.{fun_ext}
use Rattle.std.proofs.Math.Pow.{pow_mono}
use Rattle.host_base.specs.Answers.{◌>>=◌, needs}
use Rattle.disk_model.specs.declared.block.Block.{Block}
use Rattle.disk_model.specs.declared.block.BlockKind.{BlockKind}
use Rattle.disk_model.specs.declared.block.BlockKind.TheVariants.{Plain, FileRec, Index}
use Rattle.disk_model.specs.declared.fixups.FixupFault.TheVariants.{Shape}
use Rattle.disk_model.specs.Numbers.{field}
use Rattle.disk_model.specs.Sectors.{raw_from, sectors}
use Rattle.disk_model.specs.Fixups.{array_count, sector_count, check_word, is_in_shape, first_torn, torn_or_check, fixup_of, restored}
use Rattle.disk_model.specs.Content.{Content, HasSizes}
use Rattle.disk_model.proofs.Fields.{field_word}
use Rattle.disk_model.proofs.Frames.{overlay_elsewhere}
use Rattle.log_model.specs.Logs.{recovered, is_shadowed}
use Rattle.log_page.specs.declared.fault.PageFault.TheVariants.{NotWhole}
use Rattle.log_page.specs.declared.places.LogPlace.{LogPlace}
use Rattle.log_page.specs.Places.{digits, place_bits}
use Rattle.log_page.specs.Restarts.{is_whole_restart, restart_in, restart_of, is_blank}
use Rattle.log_page.specs.LiveLogs.{said_lsn, greater, greatest_lsn}
use Rattle.log_page.proofs.PlacesFit.{has_digits}
use Rattle.log_reading.specs.declared.fault.LogRefusal.{LogRefusal}
use Rattle.log_reading.specs.declared.fault.LogRefusal.TheVariants.{ForeignLog}
use Rattle.log_reading.specs.declared.front.RestartFront.{RestartFront}
use Rattle.log_reading.specs.LogPages.{sector_in, sector_below, log_sector, log_bytes, page_in}
use Rattle.log_reading.specs.Fronts.{next_restart, front_in}
use Rattle.log_recovery.specs.LogStates.{FoundLog, LogState, live_entries_in, whole_entries, has_lap, lap_by, lap_in, log_in, recovery_in}
use Rattle.format_rules.proofs.format_files.Loading.{passes, goes_on}

-- ---- bytes that are all FF

-- so many of them
unfoldable pub filler : ℕ → List ℕ
filler n = replicate n 0xFF

length-filler : (n : ℕ) → length (filler n) ≡ n
unfolding filler
length-filler n = length-replicate n 0xFF

filler_joined : (n m : ℕ) → filler n ++ filler m ≡ filler (n + m)
unfolding filler
filler_joined n m = replicate-append-replicate n m 0xFF

-- those from a place on
pub filler_part : (at n m : ℕ) → at + n ≤ m → take n (drop at (filler m)) ≡ filler n
unfolding filler
filler_part at n m le = ap (take n) (drop-replicate at m 0xFF) ∙ take-replicate n (m - at) 0xFF (omega arith)

word_is : (at n : ℕ) → at + 2 ≤ n → field at 2 (filler n) ≡ 0xFFFF
unfolding filler
word_is at n le =
    let low = get_or-replicate {A = ℕ} n at 0xFF 0 (omega arith) in
    let high = get_or-replicate {A = ℕ} n (at + 1) 0xFF 0 (omega arith) in
    let both = field_word at (replicate n 0xFF) in
    omega (arith, both, low, high)

-- ---- a page of them

-- their update sequence would have 65,535 words
shapeless : (n : ℕ) → 8 ≤ n → n ≤ 4096 → is_in_shape (filler n) ≡ false
shapeless n long short =
    let raw = filler n in
    and_left _ _ (and_left (array_count raw == sector_count raw + 1) _ (ne_eqb (array_count raw) (sector_count raw + 1) (λ same.
    let count = word_is 6 n (omega arith) in
    let size = length-filler n in
    omega (arith, same, count, size))))

not_whole : (n : ℕ) → 8 ≤ n → n ≤ 4096 → is_ok (fixup_of (filler n)) ≡ false
not_whole n long short = ap (λ (b : Bool). is_ok (cond b (torn_or_check (first_torn (filler n)) (check_word (filler n))) (Err Shape))) (shapeless n long short)

pub no_restart : (n : ℕ) → 8 ≤ n → n ≤ 4096 → restart_of (filler n) ≡ Err NotWhole
unfolding restart_of is_whole_restart
no_restart n long short = ap (λ (b : Bool). needs b NotWhole >>= λ _. Ok (restart_in (restored (filler n)))) (and_left _ _ (not_whole n long short))

pub blank : (n : ℕ) → is_blank (filler n) ≡ true
unfolding is_blank filler
blank zero = refl
blank (suc n) = blank n

pub unsaid : (n : ℕ) → 0 < n → said_lsn (filler n) ≡ None
unfolding filler
unsaid zero lt = absurd (omega arith)
unsaid (suc n) lt = refl

-- ---- two restart pages

-- what they say where neither is whole and both are all FF
empty_front : RestartFront
empty_front = record { chosen = None; restart = 0; opens = 0 }

front_by : (raw : List ℕ) → restart_of raw ≡ Err NotWhole → is_blank raw ≡ true → front_in raw raw ≡ Ok empty_front
unfolding front_in next_restart empty_front
front_by raw none all = rw (none, all) (rw none refl)

-- ---- laps

-- a log of 8 MiB or less has 43 bits or more for its laps
pub lap_left : (pages : ℕ) → 0 < pages → pages ≤ 2048 → has_lap pages 1 ≡ true
unfolding place_bits
lap_left pages some few =
    let d = digits (4096 * pages) in
    let low : 2 ^ (d - 1) ≤ 4096 * pages = (has_digits (4096 * pages) (omega arith) (omega arith)).0 in
    let few_digits : d ≤ 24 = elim (cases_lt 24 d) [
      | inl more ↦ let top : 2 ^ 24 ≤ 2 ^ (d - 1) = pow_mono {i = 24} {j = d - 1} (omega arith) in absurd (omega arith)
      | inr le ↦ le
    ] in
    let wide : 2 ^ 17 ≤ 2 ^ (64 - (d - 3)) = pow_mono {i = 17} {j = 64 - (d - 3)} (omega arith) in
    lt-ltb (1 + 2 ^ 16) (2 ^ (64 - (d - 3))) (omega arith)

none_said : (raw : ℕ → List ℕ) (a n : ℕ) → ((i : ℕ) → a ≤ i → i < a + n → said_lsn (raw i) ≡ None)
    → fold (λ (lsn : Option ℕ) (page : ℕ). greater lsn (said_lsn (raw page))) None (range_with_len a n) ≡ None
none_said raw a zero each = refl
none_said raw a (suc n) each =
    ap (λ (found : Option ℕ). fold (λ (lsn : Option ℕ) (page : ℕ). greater lsn (said_lsn (raw page))) found (range_with_len (a + 1) n)) (each a (omega arith) (omega arith))
    ∙ none_said raw (a + 1) n (λ i low high. each i (omega arith) (omega arith))

-- ---- recovery

-- no entry, the first lap, and the first restart page
unfoldable pub empty_state : LogState
empty_state = record { log = []; next_lap = 1; restart = 0; opens = 0 }

-- no entry, and no restart page that is chosen
empty_log : FoundLog
empty_log = record { log = []; front = empty_front }

module _ (c : Content) (place : LogPlace) (size : ℕ) (long : 8 ≤ size) (short : size ≤ 4096) (some : 2 ≤ place.pages) (few : place.pages ≤ 2048) (empty : (i : ℕ) → i < place.pages → page_in c place i ≡ filler size) where
  front_here : front_in (page_in c place 0) (page_in c place 1) ≡ Ok empty_front
  front_here =
      ap (λ (raw : List ℕ). front_in raw (page_in c place 1)) (empty 0 (omega arith))
      ∙ ap (front_in (filler size)) (empty 1 (omega arith))
      ∙ front_by (filler size) (no_restart size long short) (blank size)

  greatest_here : greatest_lsn place.pages (page_in c place) None ≡ None
  unfolding greatest_lsn
  greatest_here = none_said (page_in c place) 4 (place.pages - 4) (λ i low high. ap said_lsn (empty i (omega arith)) ∙ unsaid size (omega arith))

  lap_here : lap_in c place None ≡ Ok 1
  unfolding lap_in lap_by
  lap_here = ap (lap_by place.pages) greatest_here ∙ passes (has_lap place.pages 1) (ForeignLog 0) (Ok 1) (lap_left place.pages (omega arith) few)

  log_by : RestartFront → Result FoundLog LogRefusal
  log_by front =
      live_entries_in c place front.chosen
      >>= λ entries. whole_entries c entries
      >>= λ log. Ok (record { log = log; front = front })

  log_here : log_in c place ≡ Ok empty_log
  unfolding log_in log_by empty_front empty_log
  log_here = goes_on _ empty_front log_by front_here

  state_by : FoundLog → Result LogState LogRefusal
  state_by found =
      lap_in c place found.front.chosen
      >>= λ lap. Ok (record { log = found.log; next_lap = lap; restart = found.front.restart; opens = found.front.opens })

  pub recovery_here : recovery_in c place ≡ Ok empty_state
  unfolding recovery_in state_by empty_front empty_log empty_state
  recovery_here =
      goes_on _ empty_log state_by log_here
      ∙ goes_on _ 1 (λ (lap : ℕ). Ok (record { log = []; next_lap = lap; restart = 0; opens = 0 })) lap_here

-- ---- the content

some_sector : (kind : BlockKind) → 0 < sectors kind
some_sector Plain = omega arith
some_sector FileRec = omega arith
some_sector Index = omega arith

pub same_content : (c : Content) → HasSizes c → recovered c [] ≡ c
unfolding recovered is_shadowed
same_content c sized = fun_ext (λ (b : Block). overlay_elsewhere c [] b (omega (arith, sized b, some_sector b.kind)) tt)

-- ---- the pages by their sectors

no_filler : [] ≡ filler 0
unfolding filler
no_filler = refl

raw_is : (at : ℕ → List ℕ) (s n : ℕ) → ((j : ℕ) → s ≤ j → j < s + n → at j ≡ filler 512) → raw_from at s n ≡ filler (512 * n)
unfolding raw_from
raw_is at s zero each = no_filler
raw_is at s (suc n) each =
    let size : 512 + 512 * n ≡ 512 * suc n = omega arith in
    ap (λ (front : List ℕ). front ++ raw_from at (s + 1) n) (each s (omega arith) (omega arith))
    ∙ ap (λ (back : List ℕ). filler 512 ++ back) (raw_is at (s + 1) n (λ j low high. each j (omega arith) (omega arith)))
    ∙ filler_joined 512 (512 * n)
    ∙ ap filler size

pub page_is : (c : Content) (place : LogPlace) → ((s : ℕ) → s < 8 * place.pages → log_bytes c place s ≡ filler 512) → (i : ℕ) → i < place.pages → page_in c place i ≡ filler 4096
unfolding page_in
page_is c place each i inside = raw_is (log_bytes c place) (8 * i) 8 (λ j low high. each j (omega arith))

pub sector_is : (place : LogPlace) (s at : ℕ) → 512 * s < place.initialised → at < place.device → sector_in place.runs s ≡ Some at → log_sector place s ≡ Some at
sector_is place s at known inside is =
    ap (λ (b : Bool). cond b (sector_below place.device (sector_in place.runs s)) None) (lt-ltb (512 * s) place.initialised known)
    ∙ ap (sector_below place.device) is
    ∙ ap (λ (b : Bool). cond b (Some at) None) (lt-ltb at place.device inside)
