use Rattle.stream_rules.proofs.Steps.{file_kept}
use Rattle.stream_rules.proofs.volume.keeps_file.Goals as goal

pub returns-in-Some-clause-value : goal.returns-in-Some-clause-value
returns-in-Some-clause-value g c = file_kept _ c.args.per c.args.clusters c.args.number c.args.files.now c.in-Some.file.now c.keeps_streams.result c.in-Some.ensures.value c.keeps_streams.ensures.value
