-- Host pages, a span of each segment.
use Rattle.std.specs.Prelude.{◌≡◌, ◌≤◌, Option, MatchOption}
use Rattle.tables.specs.declared.spans.Span.{Span}
use Rattle.tables.specs.declared.spans.Spans.{Spans}

-- the next span begins where the pages left begin, and those left after it begin where it ends; none is left where they are none
abbrev pub SpanTaken : Spans → Option Span → Spans → Type 0
SpanTaken old span new =
    (new.to ≡ old.to) × MatchOption span (old.to ≤ old.from) (λ span. (span.from ≡ old.from) × (span.to ≡ new.from) × (new.from ≤ old.to))
