-- A collector, of its parts.
use Rattle.std.specs.Prelude.{ℕ, Bool}
use Rattle.lexis.specs.Text.{Text}
use Rattle.collector.specs.declared.Collector.{Collector}

abbrev pub of_parts : Text → ℕ → Bool → Collector
of_parts bytes len over = record { bytes = bytes; len = len; over = over }
