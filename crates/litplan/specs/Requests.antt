-- The request in clap's matches of a subcommand.
use Rattle.std.specs.Prelude.{◌≡◌, ◌⊎◌, ℕ, Bool, List, [], None, Some, codes, false, if◌then◌else◌, is_some, map, string_bytes, true, unwrap_or}
use Rattle.std.specs.Str.{bytes_eq}
use Rattle.clap.specs.Words.{first_value, found_of, matched_of, one_text}
use Rattle.clap.specs.declared.parser.matches.ArgMatches.{ArgMatches}
use Rattle.lit_base.specs.declared.fold.Fold.{Fold}
use Rattle.lit_base.specs.declared.fold.Fold.TheVariants.{Ascii, No}
use Rattle.lit_base.specs.declared.profile.Profile.{Profile}
use Rattle.lit_base.specs.declared.profile.Profile.TheVariants.{Eight, Sixteen}
use Rattle.plan_pack.specs.declared.notation.Notation.{Notation}
use Rattle.plan_pack.specs.declared.notation.Notation.TheVariants.{Bytes, Hex}
use Rattle.plan_pack.specs.declared.notation.Reading.{Reading}
use Rattle.plan_run.specs.declared.request.HitLine.TheVariants.{End, Literal}
use Rattle.plan_run.specs.declared.request.Listing.{Listing}
use Rattle.plan_run.specs.declared.request.Listing.TheVariants.{Count, Lines}
use Rattle.plan_run.specs.declared.request.Request.{Request}
use Rattle.plan_run.specs.declared.request.Request.TheVariants.{Check, CheckPlan, Explain, ExplainCertificate, ExplainPlan, Migrate, Pack, Plan, Scan}
use Rattle.plan_run.specs.declared.request.View.{View}
use Rattle.plan_run.specs.declared.request.View.TheVariants.{Drawing, Text}
use Rattle.program_words.specs.Matches.{IsNumber, texts_of}

-- the text of an argument, empty where it has none
abbrev pub text_of : ArgMatches → List ℕ → List ℕ
text_of m id = unwrap_or (first_value (found_of m) id) []

-- whether an argument was given
abbrev pub is_given : ArgMatches → List ℕ → Bool
is_given m id = is_some (matched_of (found_of m) id)

-- the number of a plan, which stands where a file of patterns else does: 0 where there is none
abbrev pub IsPlace : ArgMatches → ℕ → Type 0
IsPlace m place = ((is_given m (codes "file") ≡ false) × (place ≡ 0)) ⊎ IsNumber m (codes "file") place

-- whether a flag was set
pub record IsFlag (m : ArgMatches) (id : List ℕ) (set : Bool) : Type 0 where
  pub yes : one_text (found_of m) id ≡ Some (codes "true") → set ≡ true
  pub no : one_text (found_of m) id ≡ Some (codes "false") → set ≡ false
  pub unused : one_text (found_of m) id ≡ None → set ≡ false

-- the fold, by the flag that asks for one
pub record IsFold (m : ArgMatches) (fold : Fold) : Type 0 where
  pub yes : one_text (found_of m) (codes "fold") ≡ Some (codes "true") → fold ≡ Ascii
  pub no : one_text (found_of m) (codes "fold") ≡ Some (codes "false") → fold ≡ No
  pub unused : one_text (found_of m) (codes "fold") ≡ None → fold ≡ No

-- how a line writes a pattern, by the flag that asks for hexadecimal
pub record IsNotation (m : ArgMatches) (notation : Notation) : Type 0 where
  pub yes : one_text (found_of m) (codes "hex") ≡ Some (codes "true") → notation ≡ Hex
  pub no : one_text (found_of m) (codes "hex") ≡ Some (codes "false") → notation ≡ Bytes
  pub unused : one_text (found_of m) (codes "hex") ≡ None → notation ≡ Bytes

-- how a plan is shown, by the flag that asks for a drawing
pub record IsView (m : ArgMatches) (view : View) : Type 0 where
  pub yes : one_text (found_of m) (codes "svg") ≡ Some (codes "true") → view ≡ Drawing
  pub no : one_text (found_of m) (codes "svg") ≡ Some (codes "false") → view ≡ Text
  pub unused : one_text (found_of m) (codes "svg") ≡ None → view ≡ Text

-- what is written of hits: their number, or lines with their literals, or lines with their ends
abbrev pub listing_of : Bool → Bool → Listing
listing_of true names = Count
listing_of false true = Lines Literal
listing_of false false = Lines End

-- what is written of hits, by the flags that ask for it
pub record IsListing (m : ArgMatches) (listing : Listing) : Type 0 where
  pub count : Bool
  pub names : Bool
  pub counts : IsFlag m (codes "count") count
  pub named : IsFlag m (codes "names") names
  pub is : listing ≡ listing_of count names

-- how files of patterns are read
pub record IsReading (m : ArgMatches) (reading : Reading) : Type 0 where
  pub notation : IsNotation m reading.notation
  pub fold : IsFold m reading.fold

-- the profile, by its number of buckets: eight, unless it is sixteen. clap lets no other number through
abbrev pub profile_of : ArgMatches → Profile
profile_of m = if bytes_eq (text_of m (codes "buckets")) (codes "16") then Sixteen else Eight

-- the request in the matches of the subcommand of a name, each argument under its name as id
abbrev pub IsRequestOf : List ℕ → ArgMatches → Request → Type 0
IsRequestOf name m (Plan r) = (name ≡ codes "plan") × IsReading m r.reading × (r.profile ≡ profile_of m) × (string_bytes r.file ≡ text_of m (codes "file"))
IsRequestOf name m (Check r) = (name ≡ codes "check") × (is_given m (codes "plan") ≡ false) × IsReading m r.reading × (string_bytes r.file ≡ text_of m (codes "file"))
    × (string_bytes r.certificate ≡ text_of m (codes "certificate"))
IsRequestOf name m (CheckPlan file place) = (name ≡ codes "check") × (is_given m (codes "plan") ≡ true) × (string_bytes file ≡ text_of m (codes "plan")) × IsPlace m place
IsRequestOf name m (Pack r) = (name ≡ codes "pack") × IsReading m r.reading × (r.profile ≡ profile_of m) × (map string_bytes r.files.names.items ≡ texts_of m (codes "file"))
    × (string_bytes r.output ≡ text_of m (codes "output"))
IsRequestOf name m (Explain r) = (name ≡ codes "explain") × (is_given m (codes "plan") ≡ false) × (is_given m (codes "certificate") ≡ false) × IsReading m r.reading × (r.profile ≡ profile_of m) × IsView m r.view × (string_bytes r.file ≡ text_of m (codes "file"))
IsRequestOf name m (ExplainPlan view file place) = (name ≡ codes "explain") × (is_given m (codes "plan") ≡ true) × IsView m view × (string_bytes file ≡ text_of m (codes "plan")) × IsPlace m place
IsRequestOf name m (ExplainCertificate certificate) = (name ≡ codes "explain") × (is_given m (codes "plan") ≡ false) × (is_given m (codes "certificate") ≡ true)
    × (string_bytes certificate ≡ text_of m (codes "certificate"))
IsRequestOf name m (Migrate input output) = (name ≡ codes "migrate") × (string_bytes input ≡ text_of m (codes "input")) × (string_bytes output ≡ text_of m (codes "output"))
IsRequestOf name m (Scan scan) = (name ≡ codes "scan") × IsReading m scan.reading × IsNumber m (codes "workers") scan.workers.count × IsListing m scan.listing
    × (string_bytes scan.file ≡ text_of m (codes "file")) × (string_bytes scan.input ≡ text_of m (codes "input"))
