-- `try_from` meets its contract: 8, or each field's value.
use mathlib.Core.List.{[], ◌∷◌}
use lib.ListN.{length}
use borrow.Author.Rules.{rules}
use borrow.Author.Tests.{eq-eqb, ne_eqb}
use Rattle.rules.specs.Refusal.{said, told}
use Rattle.rules.specs.Header.{header_values, header_said}
use Rattle.rules.proofs.headers.HeaderTryFromRefSliceU8.try_from.Goals as goal

pub returns-then-header-ne-HEADER_BYTES : goal.returns-then-header-ne-HEADER_BYTES
unfolding told said header_said
returns-then-header-ne-HEADER_BYTES c = rw (ne_eqb (length c.args.header.now) 13 (search rules))

pub returns : goal.returns
unfolding told header_said header_values
returns c =
    let s = c.args.header in
    rw (eq-eqb (length s.now) 13 (search rules))
    (λ i.
    0
    ∷ c.value_of.ensures.0 i
    ∷ c.value_of-2.ensures.0 i
    ∷ c.value_of-3.ensures.0 i
    ∷ c.value_of-4.ensures.0 i
    ∷ c.value_of-5.ensures.0 i
    ∷ [])
