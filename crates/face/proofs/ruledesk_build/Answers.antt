-- `ruledesk_build` meets its statement: what goes out is what the desk's call says.
use Rattle.std.proofs.Common.{rules}
use Rattle.face.proofs.HandsLaws.{hands_call}
use Rattle.face.proofs.ruledesk_build.Goals as goal

pub returns-clause-hands : goal.returns-clause-hands
returns-clause-hands c = hands_call _ _ c.build.ensures.answer (λ x h. search rules) (λ e h. search rules) c.map_or_else.ensures
