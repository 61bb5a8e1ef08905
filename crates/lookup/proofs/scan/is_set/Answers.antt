-- `is_set` meets its contract: the lowest bit of the shifted word.
use Rattle.bits.proofs.CodeWordLaws.{bit_read}
use Rattle.lookup.proofs.scan.is_set.Goals as goal

pub returns : goal.returns
returns c = bit_read c.args.word c.args.b
