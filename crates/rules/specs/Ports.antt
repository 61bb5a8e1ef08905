-- Ports, and the protocols that have them (02, Q-1), said of what a rule means, whatever way its fields are written.
-- Assumes nothing.
use Rattle.std.specs.Prelude.{Bool, not, ◌&&◌, [], ◌∷◌, ℕ, ◌+◌, ◌-◌, ◌^◌, eqb}
use Rattle.bits.specs.Tests.{any}
use Rattle.rules.specs.Field.{field_at, source_port, destination_port, protocol}
use Rattle.rules.specs.Rule.{Span, Rule, span_in}

-- how many values a span has
unfoldable pub size_of : Span → ℕ
size_of s = (s.high + 1) - s.low

-- in a field of w bits it takes every value: there are 2^w (`takes_all_lem`)
unfoldable pub takes_all : ℕ → Span → Bool
takes_all w s = eqb (size_of s) (2 ^ w)

-- it takes v alone (`takes_only_lem`)
unfoldable pub takes_only : ℕ → Span → Bool
takes_only v s = eqb s.low v && eqb s.high v

-- some port field does not take every value; of a record, "a port length above 0" (`asks_length`)
unfoldable pub asks_port : Rule → Bool
asks_port r = any (λ f. not (takes_all (field_at f).width (span_in r f))) (source_port ∷ destination_port ∷ [])

-- "its protocol is exactly 6 or exactly 17"; of a record, with "length 8" (`has_length`)
unfoldable pub has_ports : Rule → Bool
has_ports r = any (λ v. takes_only v (span_in r protocol)) (6 ∷ 17 ∷ [])
