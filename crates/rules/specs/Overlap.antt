-- Two rules against each other: what they share, and whether one covers the other.
-- Assumes nothing.
use Rattle.std.specs.Prelude.{Bool, ◌&&◌, ℕ, max, min, leb}
use mathlib.Core.List.{List, zip_with}
use Rattle.bits.specs.Tests.{each}
use Rattle.rules.specs.Rule.{Span, Rule}

-- "Two rules share a header when, in each field, one prefix is a leading part of the other" (`share_leads`)
unfoldable pub span_share : Span → Span → Bool
span_share s t = leb (max s.low t.low) (min s.high t.high)

unfoldable pub share : Rule → Rule → Bool
share a b = each span_share a.spans b.spans

-- "One covers another when each of its prefixes is a leading part of the other's" (`covers_leads`)
unfoldable pub span_covers : Span → Span → Bool
span_covers s t = leb s.low t.low && leb t.high s.high

unfoldable pub covers : Rule → Rule → Bool
covers a b = each span_covers a.spans b.spans

-- "their lowest shared header: in each field, the value of the longer prefix" (`low_longer`)
unfoldable pub span_low : Span → Span → ℕ
span_low s t = max s.low t.low

unfoldable pub lowest_shared : Rule → Rule → List ℕ
lowest_shared a b = zip_with span_low a.spans b.spans
