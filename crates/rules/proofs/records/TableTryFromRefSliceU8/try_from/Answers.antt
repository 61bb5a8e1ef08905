-- `try_from` meets its contract: it says what the check of the table does.
use mathlib.Core.Path.{sym}
use Rattle.std.proofs.lemmas.Result.{err_from_is_err_and}
use Rattle.rules.specs.Refusal.{told}
use Rattle.rules.proofs.records.TableTryFromRefSliceU8.try_from.Goals as goal

pub returns-in_err-check_table-clause-said : goal.returns-in_err-check_table-clause-said
unfolding told
returns-in_err-check_table-clause-said c =
    let p = err_from_is_err_and c.from_residual.result c.from_residual.ensures.1 in
    rw (p.1, p.2) c.in_err-check_table.ensures

pub invariant_of-result : goal.invariant_of-result
unfolding told
invariant_of-result c = record { accepted = sym c.in_ok-check_table.ensures }

pub returns-clause-said : goal.returns-clause-said
unfolding told
returns-clause-said c = c.in_ok-check_table.ensures
