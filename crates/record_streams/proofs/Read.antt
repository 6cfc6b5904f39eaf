-- A record that is read has a spelling but for its room.
use Rattle.std.proofs.Common.{◌≡◌, ℕ, ◌+◌, ◌*◌, ◌^◌, ◌<◌, ◌≤◌, List, [], ◌∷◌, length, Ok, sym, ap, ◌∙◌, subst, arith}
use Rattle.std.specs.Prelude.{map, All, IsTrue}
use Rattle.std.specs.List.{AllByRecursion}
use Rattle.std.proofs.lemmas.List.Elements.{All-nil, All-cons, All-head, All-tail}
use Rattle.record_writer.specs.disk_model.Bytes.{AreBytes}
use Rattle.record_writer.specs.record_model.declared.attribute.Attr.{Attr}
use Rattle.record_writer.specs.record_model.Attributes.{spelling, FitsAttr}
use Rattle.record_writer.specs.record_model.Constants.{end_mark}
use Rattle.record_writer.specs.record_model.Records.{Record, record_at, spelled_bytes, FitsHead}
use Rattle.record_writer.specs.record_model.Values.{has_lawful_value}
use Rattle.record_writer.proofs.record_model.Records.{read_is_table}
use Rattle.record_writer.specs.Normal.{normal}
use Rattle.record_writer.proofs.NormalRoom.{head_fits, lawful_stays, read_fits}
use Rattle.record_streams.specs.Fitting.{IsShort, FitsButRoom}

abbrev pub HasKind : Attr → Type 0
HasKind a = a.head.kind < end_mark

abbrev pub IsLawful : Attr → Type 0
IsLawful a = IsTrue (has_lawful_value a)

pub shorts : (attrs : List Attr) → AllByRecursion FitsAttr (map normal attrs) → All HasKind attrs → All IsLawful attrs → spelled_bytes (map normal attrs) ≤ 2 ^ 21 → All IsShort attrs
shorts [] fits kinds lawful bytes = All-nil IsShort
shorts (a ∷ attrs) fits kinds lawful bytes =
    All-cons IsShort a attrs
    (record {
      fits = fits.0;
      kind = All-head HasKind a attrs kinds;
      lawful = lawful_stays a ∙ All-head IsLawful a attrs lawful;
      short = omega (arith, bytes);
    })
    (shorts attrs fits.1 (All-tail HasKind a attrs kinds) (All-tail IsLawful a attrs lawful) (omega (arith, bytes)))

pub read_but_room : (body : List ℕ) (r : Record) → length body ≡ 1024 → AreBytes body → record_at body ≡ Ok r → FitsButRoom r
read_but_room body r long each e =
    let t = read_is_table body r each e in
    let fit = read_fits body r long each t in
    record {
      head = subst FitsHead t.head (head_fits body each);
      attrs = shorts r.attrs fit.fits t.kinds t.lawful (omega (arith, fit.bytes));
      rise = t.rise;
      few = omega (arith, fit.few);
    }
