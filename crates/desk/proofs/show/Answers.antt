-- `show` meets its statement: a whole record stands at each place below the count, and nowhere else.
use Prim.Native.Nat.{◌/◌}
use lib.ListN.{length}
use borrow.Author.Rules.{rules}
use borrow.Author.Tests.{lt-ltb, le-ltb}
use Rattle.desk.specs.Show.{shown_part}
use Rattle.desk.proofs.show.Goals as goal

pub returns-then-place-table : goal.returns-then-place-table
unfolding shown_part
returns-then-place-table c =
    let a = c.args in
    record { answer = rw (lt-ltb a.place (length a.table.now / 24) (search rules)) c.record_at.ensures }

pub returns-else-place-table : goal.returns-else-place-table
unfolding shown_part
returns-else-place-table c =
    let a = c.args in
    record { answer = rw (le-ltb a.place (length a.table.now / 24) (search rules)) }
