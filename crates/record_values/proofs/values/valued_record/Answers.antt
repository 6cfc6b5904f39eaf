use Rattle.std.proofs.Common.{◌≡◌, List, sym, ap, ◌∙◌, subst}
use Rattle.record_streams.specs.record_model.declared.attribute.Attr.{Attr}
use Rattle.record_streams.specs.state_model.Streams.{attributes_of}
use Rattle.record_streams.specs.stream_map.Attributes.{behind}
use Rattle.record_streams.specs.Fitting.{FitsButRoom}
use Rattle.record_values.specs.Values.{valued_first}
use Rattle.record_values.proofs.Valued.{fits_valued}
use Rattle.record_values.proofs.values.valued_record.Goals as goal

pub returns-clause-fits : goal.returns-clause-fits
returns-clause-fits c =
    let r = c.args.file.now in
    let own : behind c.deref.result.now ≡ attributes_of c.args.kind c.args.name.now r.attrs = ap behind c.deref.ensures.value ∙ c.in_ok-attributes.ensures ∙ ap (attributes_of c.args.kind c.args.name.now) (c.as_slice.ensures ∙ c.attrs.ensures.value) in
    let fits = fits_valued c.args.kind c.args.name.now c.args.value.now r c.requires.short c.requires.kind c.requires.fits in
    let here = subst (λ (l : List Attr). FitsButRoom (valued_first c.args.kind c.args.name.now c.args.value.now r l)) (sym own) fits in
    subst FitsButRoom (sym c.in_ok-valued_first.ensures) here
