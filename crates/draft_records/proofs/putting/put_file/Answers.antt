use Rattle.std.proofs.Common.{length, ap, ◌∙◌}
use Rattle.draft_records.proofs.Written.{body_long}
use Rattle.draft_records.proofs.putting.put_file.Goals as goal

pub put_both-requires-clause-size : goal.put_both-requires-clause-size
put_both-requires-clause-size g c = ap length c.as_slice.ensures ∙ body_long c.args.file.now c.in_ok-bytes.bytes c.requires.fits c.in_ok-bytes.ensures.value
