-- `put_decimal` meets its contract: the digits are the number's decimal text, at most 20.
use mathlib.Core.Path.{ap, ◌∙◌}
use mathlib.Core.List.{List, ◌++◌}
use Prim.Native.Nat.{ℕ}
use Rattle.ruledesk.proofs.DecimalLaws.{decimal_printed}
use Rattle.ruledesk.proofs.lines.put_decimal.Goals as goal

pub returns : goal.returns
returns c =
    let digits = c.format.ensures.text ∙ decimal_printed c.args.number c.ranges.number.fits in
    record { behind = c.push_str.ensures.bytes ∙ ap (λ (l : List ℕ). c.args.line.now.bytes ++ l) digits; few = rw (← digits) c.format.ensures.fits }
