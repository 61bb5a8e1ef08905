-- `ruledesk_lookup` meets its statement: what goes out is what the desk's call says.
use Rattle.std.proofs.Common.{rules}
use Rattle.face.proofs.HandsLaws.{hands_call}
use Rattle.face.proofs.ruledesk_lookup.Goals as goal

pub returns : goal.returns
returns c = hands_call _ _ c.lookup.ensures.answer (λ x h. search rules) (λ e h. search rules) c.map_or_else.ensures
