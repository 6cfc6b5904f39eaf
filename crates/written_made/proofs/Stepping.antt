-- A write of a file without unnamed data that is done is a step.
use Rattle.plan_draft.specs.Drafts.{drafted}
use Rattle.file_changes.specs.change_steps.Changes.{ChangesAreSteps, DraftsAreWritten}
use Rattle.written_made.specs.Made.{MadeIsDone}
use Rattle.written_made.specs.Steps.{MadeIsStep}

pub made_step : MadeIsDone → DraftsAreWritten → ChangesAreSteps → MadeIsStep
made_step done drafts steps c g clusters v s op stamp node a r what new has finds row enough w =
    steps.written c g clusters v op stamp node a r (drafted new c) has finds w.puts.file row (drafts c g clusters v op node.number stamp r a new w.puts.file (done c g clusters v s op node.number stamp a r what new enough w))
