use Rattle.std.proofs.Common.{◌≡◌, List, sym, ap, ◌∙◌, subst}
use Rattle.record_writer.specs.record_model.declared.attribute.Attr.{Attr}
use Rattle.stream_map.specs.state_model.Streams.{attributes_of}
use Rattle.stream_map.specs.Attributes.{behind}
use Rattle.record_streams.specs.Placing.{placed_first}
use Rattle.record_streams.specs.Fitting.{FitsButRoom}
use Rattle.record_streams.proofs.Fits.{fits_placed, fits_answer}
use Rattle.record_streams.proofs.records.placed_record.Goals as goal

pub returns-clause-fits : goal.returns-clause-fits
returns-clause-fits c =
    let r = c.args.file.now in
    let own : behind c.deref.result.now ≡ attributes_of c.args.kind c.args.name.now r.attrs = ap behind c.deref.ensures.value ∙ c.in_ok-attributes.ensures ∙ ap (attributes_of c.args.kind c.args.name.now) (c.as_slice.ensures ∙ c.attrs.ensures.value) in
    let fits = fits_placed c.args.per c.args.kind c.args.name.now c.args.extents.now r c.bounds.ensures.few c.requires.spelled c.requires.few c.bounds.ensures.fields c.requires.kind c.requires.fits in
    let here = subst (λ (l : List Attr). FitsButRoom (placed_first c.args.per c.args.kind c.args.name.now c.args.extents.now r l)) (sym own) fits in
    fits_answer c.placed_first.result (placed_first c.args.per c.args.kind c.args.name.now c.args.extents.now r (behind c.deref.result.now)) c.placed_first.ensures here
