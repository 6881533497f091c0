-- The request in clap's matches.
use Rattle.std.specs.Prelude.{◌≡◌, codes, false, true}
use Rattle.clap.specs.declared.parser.matches.ArgMatches.{ArgMatches}
use Rattle.program_words.specs.Matches.{IsNumber, is_used, texts_of}
use Rattle.scan_run.specs.LoadingFiles.{names_of}
use Rattle.scand.specs.declared.words.Request.{Request}
use Rattle.scand.specs.declared.words.Service.{Service}
use Rattle.scand.specs.declared.words.Service.TheVariants.{Alone, Listen}

-- one client is served where --stdio was used, and otherwise a number of connections to a port
abbrev pub IsServiceOf : ArgMatches → Service → Type 0
IsServiceOf m Alone = is_used m (codes "stdio") ≡ true
IsServiceOf m (Listen port connections) =
    (is_used m (codes "stdio") ≡ false) × IsNumber m (codes "port") port × IsNumber m (codes "connections") connections.count

-- the request in the matches, each argument under its name as id
pub record IsRequestOf (m : ArgMatches) (request : Request) : Type 0 where
  pub plans : names_of request.plans.items ≡ texts_of m (codes "plans")
  pub service : IsServiceOf m request.service
