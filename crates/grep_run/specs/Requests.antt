-- What a request selects.
use Rattle.std.specs.Prelude.{ℕ, Bool, List}
use Rattle.line_pick.specs.Matching.{selects as picks_of}
use Rattle.grep_run.specs.declared.compiled_patterns.CompiledPatterns.{CompiledPatterns}
use Rattle.grep_run.specs.declared.options.GrepOptions.{GrepOptions}
use Rattle.grep_run.specs.declared.request.Request.{Request}

-- the test for a selected line, by what stands for the patterns
abbrev pub tested_by : GrepOptions → CompiledPatterns → List ℕ → Bool
tested_by o patterns = picks_of patterns.plan patterns.has_empty (record { invert = o.invert; whole = o.whole })

-- the test of a request
abbrev pub test_of : Request → List ℕ → Bool
test_of r = tested_by r.options.now r.patterns.now
