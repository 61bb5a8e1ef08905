-- `intersect` meets its contract: the five words of block b are the vectors' at b.
use mathlib.Core.Path.{ap, ◌∙◌}
use borrow.Author.Rules.{rules}
use Rattle.bits.specs.Word.{and_all}
use Rattle.lookup.specs.Scan.{meet}
use Rattle.lookup.proofs.BlockTurns.{column_five}
use Rattle.lookup.proofs.scan.intersect.Goals as goal

pub returns : goal.returns
unfolding meet
returns c =
    let a = c.args in
    c.common_bits.ensures ∙ ap (and_all 32) (column_five a.vectors a.b (search rules))
