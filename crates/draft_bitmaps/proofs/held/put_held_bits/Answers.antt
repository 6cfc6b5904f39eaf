use Rattle.std.proofs.Common.{rules, [], sym, ap, ◌∙◌}
use Rattle.draft_resized.specs.draft_records.Records.{fits_room}
use Rattle.draft_bitmaps.specs.declared.bitmap.Bitmap.{Bitmap}
use Rattle.draft_bitmaps.proofs.Room.{same_room}
use Rattle.draft_bitmaps.proofs.held.put_held_bits.Goals as goal

pub returns-in_err-put_file-clause-room : goal.returns-in_err-put_file-clause-room
returns-in_err-put_file-clause-room g c =
    let same = ap (λ (b : Bitmap). fits_room b.file) c.in_ok-new.ensures.value ∙ same_room c.args.bitmap.now.kind [] c.in_ok-bytes.bytes c.args.value.now c.args.bitmap.now.file c.in_ok-bytes.ensures.same_count in
    rw (sym same) (search rules)

pub returns-clause-room : goal.returns-clause-room
returns-clause-room g c =
    let same = ap (λ (b : Bitmap). fits_room b.file) c.in_ok-new.ensures.value ∙ same_room c.args.bitmap.now.kind [] c.in_ok-bytes.bytes c.args.value.now c.args.bitmap.now.file c.in_ok-bytes.ensures.same_count in
    sym same ∙ c.in_ok-put_file.ensures.room
