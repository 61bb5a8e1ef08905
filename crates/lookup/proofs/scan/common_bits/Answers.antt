-- `common_bits` meets its contract: each word fits, so the last needs no mask.
use lib.ListN.{get_or}
use borrow.Author.Rules.{rules}
use mir.Syntax.{w32}
use mir.Val.{Fits}
use Rattle.bits.proofs.CodeWordLaws.{and_five}
use Rattle.lookup.proofs.scan.common_bits.Goals as goal

pub returns : goal.returns
returns c =
    let words = c.args.words in
    let last : Fits w32 (get_or words 4 0) = search rules in
    and_five 32 words (search rules) last.fits
