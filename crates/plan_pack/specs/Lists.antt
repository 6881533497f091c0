-- What a file gives: the list of its lines' literals, its plan, a text to search, or a message.
use Rattle.std.specs.Prelude.{◌≡◌, ◌⊎◌, ℕ, List, [], ◌∷◌, length, ⊤, nat_eq, nat_lt, if◌then◌else◌, Option, Some, None}
use Rattle.std.specs.List.{AllZip}
use Rattle.std.specs.Option.{option_map, option_or}
use Rattle.byte_io.specs.Sources.{Content, Sources, after, ask_of, taken_by}
use Rattle.lit_plan.specs.Plans.{Plan}
use Rattle.lit_base.specs.Faults.{number_of}
use Rattle.lit_base.specs.Literals.{Literals}
use Rattle.lit_base.specs.NormalForm.{IsPlaceOf, normal_form}
use Rattle.lit_base.specs.declared.fault.Fault.TheVariants.{ListTooLarge}
use Rattle.lit_base.specs.declared.profile.Profile.{Profile}
use Rattle.list_plan.specs.Planned.{IsPlanned}
use Rattle.plan_pack.specs.Messages.{not_hex, refused, unusable}
use Rattle.plan_pack.specs.Notations.{list_refusal, most_bytes, patterns_of}
use Rattle.plan_pack.specs.declared.notation.Reading.{Reading}
use Rattle.plan_pack.specs.declared.patterns.Unlisted.{Unlisted}
use Rattle.plan_pack.specs.declared.patterns.Unlisted.TheVariants.{BadHex, BadPatterns}
use Rattle.plan_pack.specs.declared.stop.Refusal.{Refusal}
use Rattle.plan_pack.specs.declared.stop.Refusal.TheVariants.{NoCertificate, NoLiterals, NoPlan, NoPlanFile, NotHex, Patterns, Unusable}

-- the literals of a text's lines
abbrev pub literals_of : Reading → List ℕ → List (List ℕ)
literals_of reading text = normal_form reading.fold (patterns_of reading.notation text)

-- the message where a file's lines give no list
abbrev pub unlisted : List ℕ → Unlisted → List ℕ
unlisted name (BadPatterns fault) = refused (number_of fault)
unlisted name (BadHex line) = not_hex name line

-- the message where a file's content gives no list: it is too large, it cannot be read to its end, or it is refused
abbrev pub content_message : Reading → List ℕ → Content → Option (List ℕ)
content_message reading name c =
    if nat_lt (most_bytes reading.notation) (length c.text) then Some (refused 7)
    else if c.is_faulty then Some (unusable name)
    else option_map (unlisted name) (list_refusal reading.notation c.text)

-- the message where a content gives no list
abbrev pub list_message : Reading → List ℕ → Option Content → Option (List ℕ)
list_message reading name None = Some (unusable name)
list_message reading name (Some c) = content_message reading name c

-- the list of a content
abbrev pub list_in : Reading → Option Content → Literals
list_in reading None = record { folding = reading.fold; texts = [] }
list_in reading (Some c) = record { folding = reading.fold; texts = literals_of reading c.text }

-- the message where a list has no literal
abbrev pub empty_message : Literals → Option (List ℕ)
empty_message list = if nat_eq (length list.texts) 0 then Some (refused 5) else None

-- the message where a content gives no plan: it has no list, or there is no literal in it
abbrev pub plan_message : Reading → List ℕ → Option Content → Option (List ℕ)
plan_message reading name source = option_or (list_message reading name source) (empty_message (list_in reading source))

-- the plan is the list's of the profile
pub record IsPlanOf (profile : Profile) (list : Literals) (plan : Plan) : Type 0 where
  pub literals : plan.literals ≡ list
  pub planned : IsPlanned list profile plan.certificate

-- of files of patterns that are read in order: the message of the first that gives no plan, if one gives none
abbrev pub plan_messages : Reading → List (List ℕ) → Sources → Option (List ℕ)
plan_messages reading [] s = None
plan_messages reading (name ∷ names) s =
    option_or (plan_message reading name (taken_by (ask_of name) s)) (plan_messages reading names (after (ask_of name) s))

-- the plans are the plans of the files' lists, in order
abbrev pub ArePlansOf : Reading → Profile → List (List ℕ) → Sources → List Plan → Type 0
ArePlansOf reading profile [] s plans = plans ≡ []
ArePlansOf reading profile (name ∷ names) s [] = ⊥
ArePlansOf reading profile (name ∷ names) s (plan ∷ plans) =
    IsPlanOf profile (list_in reading (taken_by (ask_of name) s)) plan × ArePlansOf reading profile names (after (ask_of name) s) plans

-- the text of a content
abbrev pub text_in : Option Content → List ℕ
text_in None = []
text_in (Some c) = c.text

-- a refusal of patterns is the refusal of the first line that is refused; where the list is too large, it names no line
abbrev pub NamesRefused : Reading → Option Content → Refusal → Type 0
NamesRefused reading source (Patterns fault) = (fault ≡ ListTooLarge) ⊎ (list_refusal reading.notation (text_in source) ≡ Some (BadPatterns fault))
NamesRefused reading source (NotHex name line) = list_refusal reading.notation (text_in source) ≡ Some (BadHex line)
NamesRefused reading source (Unusable name) = ⊤
NamesRefused reading source NoLiterals = ⊤
NamesRefused reading source (NoCertificate line) = ⊤
NamesRefused reading source (NoPlanFile place cause) = ⊤
NamesRefused reading source (NoPlan name place) = ⊤

-- the message where a content cannot be searched: it cannot be opened, or not be read to its end
abbrev pub input_message : List ℕ → Option Content → Option (List ℕ)
input_message name None = Some (unusable name)
input_message name (Some c) = if c.is_faulty then Some (unusable name) else None

-- the patterns of a content
abbrev pub patterns_in : Reading → Option Content → List (List ℕ)
patterns_in reading None = []
patterns_in reading (Some c) = patterns_of reading.notation c.text

-- where these patterns stand in the list: a null one nowhere, another where its folded text does
abbrev pub ArePlaces : Literals → List (List ℕ) → List (Option ℕ) → Type 0
ArePlaces list patterns places = AllZip (IsPlaceOf list.folding list.texts) patterns places
