use Rattle.std.proofs.Common.{◌≡◌, Some, sym, ap, ◌∙◌}
use Rattle.record_model.specs.Constants.{bitmap_type, index_allocation, names_index}
use Rattle.state_model.specs.declared.stream.Stream.{Stream}
use Rattle.state_model.specs.declared.stream.Stream.TheVariants.{Held, Placed}
use Rattle.state_model.specs.Streams.{stream_of}
use Rattle.index_grows.proofs.Standing.{streams_there}
use Rattle.index_grows.proofs.streams.index_blocks.Goals as goal

pub returns-clause-streams : goal.returns-clause-streams
returns-clause-streams c =
    let attrs = c.as_slice.ensures ∙ c.attrs.ensures.value in
    let again = c.as_slice-2.ensures ∙ c.attrs-2.ensures.value in
    let blocks : stream_of index_allocation names_index c.in_ok-file.file.attrs ≡ Some (Placed c.in-Some-Placed.extents) =
    sym (c.in_ok-blocks.ensures.value ∙ ap (stream_of index_allocation names_index) attrs) ∙ c.in-Some-Placed.is ∙ ap (λ (s : Stream). Some s) c.in-Some-Placed.field-0-is in
    let bits : stream_of bitmap_type names_index c.in_ok-file.file.attrs ≡ Some (Held c.in-Some-Held.bits) =
    sym (c.in_ok-bits.ensures.value ∙ ap (stream_of bitmap_type names_index) again) ∙ c.in-Some-Held.is ∙ ap (λ (s : Stream). Some s) c.in-Some-Held.field-0-is in
    streams_there c.index_streams_stand.ensures c.index_is_counted.ensures c.requires.may.0 c.args.file.now
    (record { number = c.args.number; file = c.in_ok-file.file; extents = c.in-Some-Placed.extents; bits = c.in-Some-Held.bits })
    c.requires.may.1 c.in_ok-file.ensures.value blocks bits
