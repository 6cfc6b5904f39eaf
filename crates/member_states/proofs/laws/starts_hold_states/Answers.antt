use Rattle.member_states.proofs.Starting.{holds_content, holds_sectors}
use Rattle.member_states.proofs.laws.starts_hold_states.Goals as goal

pub returns : goal.returns
returns c = record { content = holds_content; sectors = holds_sectors }
