use Rattle.std.proofs.Common.{ℕ, ◌+◌, ◌-◌, List, ap, ◌∙◌}
use Rattle.std.specs.List.{flat_map}
use Rattle.disk_model.specs.Bytes.{written, zeros}
use Rattle.record_model.specs.declared.attribute.Attr.{Attr}
use Rattle.record_model.specs.declared.record.RecHead.{RecHead}
use Rattle.record_model.specs.Attributes.{spelling}
use Rattle.record_model.specs.Records.{spelled_bytes, head_spelling}
use Rattle.record_writer.proofs.Whole.{record_put}
use Rattle.record_writer.proofs.written.put_record.Goals as goal

pub returns : goal.returns
returns c =
    let attrs = c.as_slice.ensures ∙ c.attrs.ensures.value in
    record_put
    c.args.file.now
    c.put_attrs-end.result
    c.args.out.now
    c.put_head.new.out
    c.put_attrs-end.new.out
    c.put_u32.new.bytes
    c.put_zeros.new.out
    c.put_zeros-2.new.out
    c.requires.fits
    c.requires.whole
    (c.put_attrs-end.ensures.place ∙ ap (λ (l : List Attr). 0x38 + spelled_bytes l) attrs)
    (c.put_head.ensures ∙ ap (λ (h : RecHead). written 0 (head_spelling h c.args.used) c.args.out.now) c.head.ensures.value ∙ ap (λ (n : ℕ). written 0 (head_spelling c.args.file.now.head n) c.args.out.now) c.requires.used)
    (c.put_attrs-end.ensures.bytes ∙ ap (λ (l : List Attr). written 0x38 (flat_map spelling l) c.put_head.new.out) attrs)
    c.put_u32.ensures
    c.put_zeros.ensures
    (c.put_zeros-2.ensures ∙ ap (λ (n : ℕ). written (c.put_attrs-end.result + 8) (zeros (1024 - n)) c.put_zeros.new.out) c.requires.used)
