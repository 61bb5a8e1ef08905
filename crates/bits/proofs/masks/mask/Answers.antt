-- `mask` meets its contract: antt computes the rule's 33 numbers and compares them with the table's.
use borrow.Author.Rules.{rules}
use Rattle.bits.specs.Mask.{mask_of}
use Rattle.bits.specs.Tests.{up_from}
use Rattle.bits.proofs.EachLaws.{tabled}
use Rattle.bits.proofs.masks.mask.Goals as goal

pub returns : goal.returns
unfolding up_from
returns c = tabled mask_of 33 c.args.len 0 (search rules)
