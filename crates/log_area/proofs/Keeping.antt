-- The calls keep what a ring keeps.
use Rattle.std.proofs.Common.{◌≡◌, ℕ, ◌+◌, ◌-◌, ◌/◌, ◌^◌, ◌<◌, ◌≤◌, true, List, length, map, slice_index, None, ap, ◌∙◌, arith}
use Rattle.std.specs.Prelude.{replicate}
use Rattle.std.specs.List.{range_with_len}
use Rattle.std.proofs.Math.Nat.{div-eq_of_lt}
use Rattle.std.proofs.lemmas.List.{length-replicate}
use Rattle.std.proofs.lemmas.List.FromFn.{length-map-range_with_len, get_or-map-range_with_len}
use Rattle.log_reading.specs.log_page.declared.places.LogPlace.{LogPlace}
use Rattle.log_reading.specs.log_page.Places.{sequence_bits}
use Rattle.log_reading.specs.Rings.{IsRingPlace}
use Rattle.log_area.specs.Areas.{RingPageOf, LogAreaOf, IsLogArea, ring_size, is_filling, no_page, page_first, area_of}
use Rattle.log_area.proofs.Numbering.{next_turn}
use Rattle.log_area.proofs.Firsts.{ends_inside}

pub seal_keeps : (a : LogAreaOf) → IsLogArea a → is_filling a ≡ true → IsLogArea (record a { free = 64; sealed = a.sealed + 1 })
seal_keeps a k filling =
    let some = k.some in
    let turn = next_turn a.sealed (ring_size a) (omega arith) in
    let own = k.own_page filling in
    let lap = k.own_lap filling in
    record {
      some = k.some;
      few = k.few;
      counted = k.counted;
      inside = k.inside;
      places = k.places;
      begun = k.begun;
      above = omega arith;
      below = omega arith;
      durable_pages = k.durable_pages;
      written_pages = k.written_pages;
      sealed_pages = omega (arith, k.sealed_pages);
      room = omega (arith, own);
      own_page = λ e. absurd cc;
      laps = omega (arith, lap, turn);
      own_lap = λ e. absurd cc;
      two = k.two;
      word = k.word;
      spelled = k.spelled;
      names = k.names;
    }

pub start_keeps : (place : LogPlace) (firsts : List ℕ) (ring : List RingPageOf) (lap restart opens : ℕ) → IsRingPlace place → 1 ≤ lap → lap < 2 ^ sequence_bits place.pages → restart ≤ 1
    → firsts ≡ map (page_first place) (range_with_len 0 place.pages) → ring ≡ replicate (place.pages - 4) no_page
    → IsLogArea (area_of place.pages place.device firsts lap ring 64 0 0 None 0 0 0 0 restart opens None None)
start_keeps place firsts ring lap restart opens lies begun less two firsts_are ring_is =
    let some = lies.ring in
    let none : 0 / (place.pages - 4) ≡ 0 = div-eq_of_lt (omega arith) in
    record {
      some = lies.ring;
      few = lies.small;
      counted = ap length firsts_are ∙ length-map-range_with_len (page_first place) 0 place.pages;
      inside = λ n lt.
          let here : slice_index firsts n ≡ page_first place n = ap (λ (xs : List ℕ). slice_index xs n) firsts_are ∙ get_or-map-range_with_len (page_first place) 0 place.pages n n 0 lt (omega arith) in
          let ends = ends_inside place n lies lt in
          omega arith;
      places = ap length ring_is ∙ length-replicate (place.pages - 4) no_page;
      begun = begun;
      above = omega arith;
      below = omega arith;
      durable_pages = omega arith;
      written_pages = omega arith;
      sealed_pages = omega arith;
      room = omega arith;
      own_page = λ e. absurd cc;
      laps = omega (arith, none, less);
      own_lap = λ e. absurd cc;
      two = two;
      word = tt;
      spelled = tt;
      names = tt;
    }
