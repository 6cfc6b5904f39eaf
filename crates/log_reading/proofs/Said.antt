-- What the pages of a ring say, those passed over that say nothing.
use Rattle.std.proofs.Common.{◌≡◌, ℕ, zero, suc, ◌+◌, ◌-◌, ◌*◌, ◌<◌, ◌≤◌, Bool, List, ◌++◌, length, Option, Some, None, refl, sym, ap, ◌∙◌, arith}
use Rattle.std.specs.Prelude.{if◌then◌else◌, nat_eq, IfSome}
use Rattle.std.specs.List.{range_with_len, starts_with, fold}
use Rattle.std.specs.Cmp.Lexicographic.{pointwise}
use Rattle.std.specs.Option.{option_map}
use Rattle.std.proofs.lemmas.List.{take-append-le, length-replicate}
use Rattle.disk_model.specs.declared.block.Block.{Block}
use Rattle.disk_model.specs.declared.block.BlockKind.TheVariants.{Plain}
use Rattle.disk_model.specs.Bytes.{zeros}
use Rattle.disk_model.specs.Numbers.{field}
use Rattle.disk_model.specs.Sectors.{raw_from, zero_sector}
use Rattle.disk_model.specs.Content.{Content, HasSizes}
use Rattle.disk_model.proofs.Fields.{field-append}
use Rattle.disk_model.proofs.Frames.{length-written}
use Rattle.log_page.specs.declared.places.LogPlace.{LogPlace}
use Rattle.log_page.specs.declared.restart.Restart.{Restart}
use Rattle.log_page.specs.RecordPages.{record_signature}
use Rattle.log_page.specs.LiveLogs.{said_lsn, greater, greatest_lsn}
use Rattle.log_reading.specs.declared.laps.PageStart.{PageStart}
use Rattle.log_reading.specs.LogPages.{log_sector, initialised_bytes, sector_bytes, log_bytes, page_in}
use Rattle.log_reading.specs.Laps.{NoneBetween, IsNext}

-- ---- the rest of the pages

-- what the pages from one on make of the greatest one so far
abbrev pub rest_of : ℕ → (ℕ → Option ℕ) → ℕ → Option ℕ → Option ℕ
rest_of pages said page lsn = fold (λ lsn n. greater lsn (said n)) lsn (range_with_len page (pages - page))

one_more : (pages : ℕ) (said : ℕ → Option ℕ) (page : ℕ) (lsn : Option ℕ) → page < pages → rest_of pages said page lsn ≡ rest_of pages said (page + 1) (greater lsn (said page))
one_more pages said page lsn lt =
    let count : pages - page ≡ suc (pages - (page + 1)) = omega arith in
    ap (λ (k : ℕ). fold (λ lsn n. greater lsn (said n)) lsn (range_with_len page k)) count

no_greater : (lsn : Option ℕ) → greater lsn None ≡ lsn
no_greater None = refl
no_greater (Some n) = refl

silent : (pages : ℕ) (said : ℕ → Option ℕ) (page : ℕ) (lsn : Option ℕ) → page < pages → said page ≡ None → rest_of pages said page lsn ≡ rest_of pages said (page + 1) lsn
silent pages said page lsn lt none = one_more pages said page lsn lt ∙ ap (rest_of pages said (page + 1)) (ap (greater lsn) none ∙ no_greater lsn)

-- pages that say nothing change nothing
skipped : (pages : ℕ) (said : ℕ → Option ℕ) (gap page next : ℕ) (lsn : Option ℕ) → page + gap ≡ next → next ≤ pages → ((n : ℕ) → page ≤ n → n < next → said n ≡ None) → rest_of pages said page lsn ≡ rest_of pages said next lsn
skipped pages said zero page next lsn e le none =
    let same : page ≡ next = omega arith in
    ap (λ (n : ℕ). rest_of pages said n lsn) same
skipped pages said (suc gap) page next lsn e le none =
    silent pages said page lsn (omega arith) (none page (omega arith) (omega arith))
    ∙ skipped pages said gap (page + 1) next lsn (omega arith) le (λ n more lt. none n (omega arith) lt)

-- up to the next one that speaks
next_one : (pages : ℕ) (said : ℕ → Option ℕ) (page next : ℕ) (lsn : Option ℕ) → page ≤ next → next < pages → ((n : ℕ) → page ≤ n → n < next → said n ≡ None) → rest_of pages said page lsn ≡ rest_of pages said (next + 1) (greater lsn (said next))
next_one pages said page next lsn le lt none = skipped pages said (next - page) page next lsn (omega arith) (omega arith) none ∙ one_more pages said next lsn lt

-- and where none does
no_next : (pages : ℕ) (said : ℕ → Option ℕ) (page : ℕ) (lsn : Option ℕ) → ((n : ℕ) → page ≤ n → n < pages → said n ≡ None) → rest_of pages said page lsn ≡ lsn
no_next pages said page lsn none = by_count (pages - page) page refl none
  where
    by_count : (count page : ℕ) → pages - page ≡ count → ((n : ℕ) → page ≤ n → n < pages → said n ≡ None) → rest_of pages said page lsn ≡ lsn
    by_count zero page e none = ap (λ (k : ℕ). fold (λ lsn n. greater lsn (said n)) lsn (range_with_len page k)) e
    by_count (suc count) page e none = silent pages said page lsn (omega arith) (none page (omega arith) (omega arith)) ∙ by_count count (page + 1) (omega arith) (λ n le lt. none n (omega arith) lt)

-- ---- a page by its first sector

said-append : (front rest : List ℕ) → 16 ≤ length front → said_lsn (front ++ rest) ≡ said_lsn front
said-append front rest le =
    let begins : starts_with nat_eq (front ++ rest) record_signature ≡ starts_with nat_eq front record_signature = ap (pointwise nat_eq record_signature) (take-append-le 4 front rest (omega arith)) in
    ap (λ (b : Bool). if b then Some (field 0x08 8 (front ++ rest)) else None) begins
    ∙ ap (λ (n : ℕ). if starts_with nat_eq front record_signature then Some n else None) (field-append 8 8 front rest le)

sector_size : (c : Content) (valid : ℕ) (o : Option ℕ) → HasSizes c → length (sector_bytes c valid o) ≡ 512
unfolding zero_sector initialised_bytes
sector_size c valid None sized = length-replicate {A = ℕ} 512 0
sector_size c valid (Some s) sized =
    let b : Block = record { first = s; kind = Plain } in
    length-written valid (zeros (512 - valid)) (c b).bytes ∙ sized b

said_in : (c : Content) (place : LogPlace) (n : ℕ) → HasSizes c → said_lsn (page_in c place n) ≡ said_lsn (log_bytes c place (8 * n))
unfolding page_in raw_from
said_in c place n sized =
    let size = sector_size c (place.initialised - 512 * (8 * n)) (log_sector place (8 * n)) sized in
    said-append (log_bytes c place (8 * n)) (raw_from (log_bytes c place) (8 * n + 1) 7) (omega arith)

zeros_silent : said_lsn zero_sector ≡ None
unfolding zero_sector
zeros_silent = refl

-- one that begins nowhere on the device
none_said : (c : Content) (place : LogPlace) (n : ℕ) → HasSizes c → log_sector place (8 * n) ≡ None → said_lsn (page_in c place n) ≡ None
none_said c place n sized none = said_in c place n sized ∙ ap (λ (o : Option ℕ). said_lsn (sector_bytes c (place.initialised - 512 * (8 * n)) o)) none ∙ zeros_silent

-- ---- over a content that may be known

-- what the ring's pages from one on say
abbrev pub left_of : LogPlace → ℕ → Option ℕ → Content → Option ℕ
left_of place page lsn c = rest_of place.pages (λ n. said_lsn (page_in c place n)) page lsn

pub all_left : (known : Option Content) (place : LogPlace) (chosen : Option Restart) (lsn : Option ℕ) → lsn ≡ option_map (λ (r : Restart). r.current) chosen → IfSome known (λ c. left_of place 4 lsn c ≡ greatest_lsn place.pages (page_in c place) chosen)
unfolding greatest_lsn
all_left None place chosen lsn e = tt
all_left (Some c) place chosen lsn e = ap (λ (o : Option ℕ). left_of place 4 o c) e

-- one more page was read
pub next_said : (known : Option Content) (place : LogPlace) (chosen : Option Restart) (page : ℕ) (next : PageStart) (old said new : Option ℕ) → IfSome known HasSizes → IsNext place page next → new ≡ greater old said → IfSome known (λ c. said ≡ said_lsn (sector_bytes c (place.initialised - 4096 * next.page) (Some next.sector)))
    → IfSome known (λ c. left_of place page old c ≡ greatest_lsn place.pages (page_in c place) chosen) → IfSome known (λ c. left_of place (next.page + 1) new c ≡ greatest_lsn place.pages (page_in c place) chosen)
next_said None place chosen page next old said new sized found is read left = tt
next_said (Some c) place chosen page next old said new sized found is read left =
    let valid : place.initialised - 512 * (8 * next.page) ≡ place.initialised - 4096 * next.page = omega arith in
    let page_said : said_lsn (page_in c place next.page) ≡ said =
    said_in c place next.page sized ∙ ap (λ (o : Option ℕ). said_lsn (sector_bytes c (place.initialised - 512 * (8 * next.page)) o)) found.sector ∙ ap (λ (n : ℕ). said_lsn (sector_bytes c n (Some next.sector))) valid ∙ sym read in
    let step = next_one place.pages (λ n. said_lsn (page_in c place n)) page next.page old found.later found.inside (λ n le lt. none_said c place n sized (found.between n le lt)) in
    ap (λ (lsn : Option ℕ). left_of place (next.page + 1) lsn c) (is ∙ ap (greater old) (sym page_said)) ∙ sym step ∙ left

-- no page is left
pub all_said : (known : Option Content) (place : LogPlace) (chosen : Option Restart) (page : ℕ) (lsn : Option ℕ) → IfSome known HasSizes → NoneBetween place page place.pages
    → IfSome known (λ c. left_of place page lsn c ≡ greatest_lsn place.pages (page_in c place) chosen) → IfSome known (λ c. lsn ≡ greatest_lsn place.pages (page_in c place) chosen)
all_said None place chosen page lsn sized none left = tt
all_said (Some c) place chosen page lsn sized none left =
    sym (no_next place.pages (λ n. said_lsn (page_in c place n)) page lsn (λ n le lt. none_said c place n sized (none n le lt))) ∙ left
