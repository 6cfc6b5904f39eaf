-- What a ring keeps when an entry is appended.
use Rattle.std.proofs.Common.{◌≡◌, ◌⊎◌, ℕ, ◌+◌, ◌-◌, ◌^◌, ◌<◌, ◌≤◌, Bool, true, false, cond, ap, ◌∙◌, inl, inr, arith}
use Rattle.std.specs.Prelude.{not, ◌&&◌}
use Rattle.std.proofs.lemmas.Bool.{cases_lt, lt-ltb, le-ltb, lt-leb, le-leb}
use Rattle.std.proofs.lemmas.List.{length-set}
use Rattle.ring_laws.specs.log_model.declared.entry.Entry.{Entry}
use Rattle.ring_laws.specs.log_model.declared.entry.Act.{Act}
use Rattle.ring_laws.specs.log_model.declared.entry.Act.TheVariants.{Update, Commit}
use Rattle.ring_laws.specs.log_model.Entries.{act_size, entry_size, FitsAct, FitsEntry}
use Rattle.ring_laws.specs.log_page.Places.{sequence_bits}
use Rattle.ring_laws.proofs.log_page.Readings.{size_some}
use Rattle.log_area.specs.Areas.{LogAreaOf, IsLogArea, ring_size, lap_at, place_at, is_filling, fits, next_number, next_at, used_pages, free_pages, needs_page, held_page, page_with, appended}

small_act : (act : Act) → FitsAct act → act_size act ≤ 4032
small_act (Update first kind at redo undo) fit = let few = fit.1.few in omega arith
small_act Commit fit = omega arith

pub small_entry : (e : Entry) → FitsEntry e → entry_size e ≤ 4032
small_entry e fit = small_act e.act fit.act

-- Where an entry of so many bytes goes: behind the entries of the page that is filled, or to the front of a page that is the next one.
pub record IsPlaced (a : LogAreaOf) (bytes number at : ℕ) : Type 0 where
  pub above : 0x40 ≤ at
  pub below : at + bytes ≤ 4096
  pub from : a.sealed ≤ number
  pub room : number < a.oldest + ring_size a
  pub where_is : ((at ≡ 0x40) × (number ≡ a.oldest + used_pages a)) ⊎ ((0x40 < at) × (at ≡ a.free) × (number ≡ a.sealed) × (is_filling a ≡ true) × (used_pages a ≡ a.sealed - a.oldest + 1))

-- so many pages are used
used_filling : (a : LogAreaOf) → is_filling a ≡ true → used_pages a ≡ a.sealed - a.oldest + 1
used_filling a filling = ap (λ (b : Bool). a.sealed - a.oldest + cond b 1 0) filling

used_empty : (a : LogAreaOf) → is_filling a ≡ false → used_pages a ≡ a.sealed - a.oldest + 0
used_empty a empty = ap (λ (b : Bool). a.sealed - a.oldest + cond b 1 0) empty

-- an entry has room
abbrev pub HasRoom : LogAreaOf → ℕ → Type 0
HasRoom a bytes = (needs_page a bytes ≡ false) ⊎ (0 < free_pages a)

pub is_placed : (a : LogAreaOf) (bytes : ℕ) → IsLogArea a → bytes ≤ 4032 → 0 < bytes → HasRoom a bytes → IsPlaced a bytes (next_number a bytes) (next_at a bytes)
is_placed a bytes k few some room =
    elim (cases_lt 0x40 a.free) [
      | inl filling ↦ by_fit (lt-ltb 0x40 a.free filling) (cases_lt 4096 (a.free + bytes))
      | inr empty ↦
          let at : a.free ≡ 0x40 = omega (arith, k.above) in
          let none : is_filling a ≡ false = le-ltb 0x40 a.free empty in
          let used = used_empty a none in
          let fit : fits a bytes ≡ true = le-leb (a.free + bytes) 4096 (omega arith) in
          let number : next_number a bytes ≡ a.sealed = ap (λ (b : Bool). cond b a.sealed (a.sealed + 1)) fit in
          let place : next_at a bytes ≡ a.free = ap (λ (b : Bool). cond b a.free 0x40) fit in
          let low = k.durable_pages in
          let mid = k.written_pages in
          let high = k.sealed_pages in
          record {
            above = omega arith;
            below = omega arith;
            from = omega arith;
            room = elim room [
              | inl needs ↦ absurd (let e : needs_page a bytes ≡ true = ap (λ (b : Bool). not (b && fits a bytes)) none in cc)
              | inr free ↦ omega arith
            ];
            where_is = inl (omega arith, omega arith);
          }
    ]
  where
    above_front : is_filling a ≡ true → next_at a bytes ≡ a.free → 0x40 < next_at a bytes
    above_front filling place = elim (cases_lt 0x40 a.free) [
      | inl lt ↦ omega arith
      | inr le ↦ absurd (let e = le-ltb 0x40 a.free le in cc)
    ]

    by_fit : is_filling a ≡ true → (4096 < a.free + bytes) ⊎ (a.free + bytes ≤ 4096) → IsPlaced a bytes (next_number a bytes) (next_at a bytes)
    by_fit filling (inr le) =
        let fit : fits a bytes ≡ true = le-leb (a.free + bytes) 4096 le in
        let number : next_number a bytes ≡ a.sealed = ap (λ (b : Bool). cond b a.sealed (a.sealed + 1)) fit in
        let place : next_at a bytes ≡ a.free = ap (λ (b : Bool). cond b a.free 0x40) fit in
        let own = k.own_page filling in
        let used = used_filling a filling in
        record {
          above = omega (arith, k.above);
          below = omega arith;
          from = omega arith;
          room = omega arith;
          where_is = inr (above_front filling place, place, number, filling, used);
        }
    by_fit filling (inl lt) =
        let fit : fits a bytes ≡ false = lt-leb (a.free + bytes) 4096 lt in
        let number : next_number a bytes ≡ a.sealed + 1 = ap (λ (b : Bool). cond b a.sealed (a.sealed + 1)) fit in
        let place : next_at a bytes ≡ 0x40 = ap (λ (b : Bool). cond b a.free 0x40) fit in
        let used = used_filling a filling in
        let low = k.durable_pages in
        let mid = k.written_pages in
        let high = k.sealed_pages in
        record {
          above = omega arith;
          below = omega arith;
          from = omega arith;
          room = elim room [
            | inl needs ↦ absurd (let e : needs_page a bytes ≡ true = ap (λ (b : Bool). not (is_filling a && b)) fit ∙ ap (λ (b : Bool). not (b && false)) filling in cc)
            | inr free ↦ omega arith
          ];
          where_is = inl (place, omega arith);
        }

-- the page with the entry is filled
pub filling_then : (a : LogAreaOf) (e : Entry) → 0x40 ≤ next_at a (entry_size e) → is_filling (appended e a) ≡ true
filling_then a e above = let some = size_some e in lt-ltb 0x40 (next_at a (entry_size e) + entry_size e) (omega arith)

pub append_keeps : (a : LogAreaOf) (e : Entry) → IsLogArea a → lap_at a (next_number a (entry_size e)) < 2 ^ sequence_bits a.pages → IsPlaced a (entry_size e) (next_number a (entry_size e)) (next_at a (entry_size e))
    → IsLogArea (appended e a)
append_keeps a e k lap p = record {
  some = k.some;
  few = k.few;
  counted = k.counted;
  inside = k.inside;
  places = length-set a.ring (place_at a (next_number a (entry_size e))) (page_with e (next_at a (entry_size e)) (held_page a (next_number a (entry_size e)))) ∙ k.places;
  begun = k.begun;
  above = omega (arith, p.above);
  below = p.below;
  durable_pages = k.durable_pages;
  written_pages = k.written_pages;
  sealed_pages = omega (arith, k.sealed_pages, p.from);
  room = omega (arith, p.room);
  own_page = λ e'. p.room;
  laps = omega (arith, lap);
  own_lap = λ e'. lap;
  two = k.two;
  word = k.word;
  spelled = k.spelled;
  names = k.names;
}
