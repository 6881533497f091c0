-- Which line of a text is the first that is wrong.
use Rattle.std.specs.Prelude.{◌≡◌, ◌≢◌, ℕ, ◌+◌, ◌-◌, ◌*◌, ◌^◌, ◌<◌, ◌≤◌, List, [], ◌++◌, length, take, map, All, ⊤}
use Rattle.std.specs.List.{flat_map, join_with_byte}
use Rattle.std.specs.Fmt.{decimal}
use Rattle.lit_cert.specs.declared.fault.Fault.{Fault}
use Rattle.lit_cert.specs.declared.fault.Fault.TheVariants.{OutOfMemory, BadCertText, ReadFault, WriteFault}
use Rattle.lit_cert.specs.Certificates.{CertificateNumbers}
use Rattle.lit_base.specs.Profiles.{buckets}
use Rattle.lit_base.specs.declared.profile.Profile.{Profile}
use Rattle.lit_cert.specs.Spelling.{head_lines, lines_of, line_text, row_words, rows_of, IsCount, HasEnds, HasTextFor}

-- the text begins with the first k lines of the certificate's text; nothing stands after its last line, if k is past
-- that
pub record Follows (most : ℕ) (text : List ℕ) (k : ℕ) (c : CertificateNumbers) : Type 0 where
  pub has_text : HasTextFor most c
  pub rest : List ℕ
  pub lines : text ≡ flat_map line_text (take k (lines_of most c)) ++ rest
  pub whole : length (lines_of most c) < k → rest ≡ []

-- the lines up to line k, from 1, are lines of a certificate's text
abbrev pub IsRightFor : ℕ → List ℕ → ℕ → Type 0
IsRightFor most text k = (c : CertificateNumbers) × Follows most text k c

-- line k, from 1, is not of its form, not ended by a newline, missing, or past the end; the lines before it are right
pub record IsFirstBadFor (most : ℕ) (text : List ℕ) (k : ℕ) : Type 0 where
  pub from_one : 1 ≤ k
  pub before : IsRightFor most text (k - 1)
  pub wrong : IsRightFor most text k → ⊥

-- ---- reading one line

-- no line of such words stands at the start of the text
abbrev pub NoLine : {V : Type 0} → (V → Type 0) → (V → List (List ℕ)) → List ℕ → Type 0
NoLine {V} fits words text = (v : V) (rest : List ℕ) → fits v → text ≢ line_text (words v) ++ rest

-- want of memory, or this line is wrong in this way
abbrev pub IsBadLine : ℕ → Type 0 → Fault → Type 0
IsBadLine line so OutOfMemory = ⊤
IsBadLine line so (BadCertText k) = (k ≡ line) × so
IsBadLine line so ReadFault = ⊥
IsBadLine line so WriteFault = ⊥

-- numbers of 64 bits
abbrev pub AreNumbers : List ℕ → Type 0
AreNumbers xs = All (λ x. x < 2 ^ 64) xs

-- the line is these numbers with single spaces between them, at least one and at most `most`
pub record HasNumbers (most : ℕ) (line numbers : List ℕ) : Type 0 where
  pub some : 1 ≤ length numbers
  pub few : length numbers ≤ most
  pub small : AreNumbers numbers
  pub line_is : line ≡ join_with_byte 32 (map decimal numbers)

-- the lines before the rows stand at the start of the text
pub record StartsWithHead (most n cost : ℕ) (ends text rest : List ℕ) : Type 0 where
  pub count : IsCount n
  pub has_ends : HasEnds most ends
  pub small_cost : cost < 2 ^ 64
  pub lines : text ≡ flat_map line_text (head_lines most n ends cost) ++ rest

-- n numbers of 64 bits
pub record IsRow (n : ℕ) (row : List ℕ) : Type 0 where
  pub len : length row ≡ n
  pub numbers : AreNumbers row

-- the first rows stand at the start of the text
pub record StartsWithRows (count n : ℕ) (text potentials rest : List ℕ) : Type 0 where
  pub row : IsRow (count * n) potentials
  pub lines : text ≡ flat_map line_text (rows_of count n potentials) ++ rest

-- want of memory, or a row is wrong, and those before it are right
abbrev pub IsBadRow : ℕ → ℕ → List ℕ → Fault → Type 0
IsBadRow most n text OutOfMemory = ⊤
IsBadRow most n text (BadCertText k) =
    (r : ℕ) × (r < most) × (k ≡ r + 5) × (potentials : List ℕ) × (rest : List ℕ)
    × StartsWithRows r n text potentials rest × NoLine (IsRow n) (row_words (r + 1)) rest
IsBadRow most n text ReadFault = ⊥
IsBadRow most n text WriteFault = ⊥

-- ---- of a text, whatever its profile

-- the lines up to line k are lines of the text of a certificate of some profile
abbrev pub IsRightTo : List ℕ → ℕ → Type 0
IsRightTo text k = (profile : Profile) × IsRightFor (buckets profile) text k

-- line k is not of its form, not ended by a newline, missing, or past the end; the lines before it are right
pub record IsFirstBad (text : List ℕ) (k : ℕ) : Type 0 where
  pub from_one : 1 ≤ k
  pub before : IsRightTo text (k - 1)
  pub wrong : IsRightTo text k → ⊥

-- want of memory, or the first bad line of the text
abbrev pub IsBadText : List ℕ → Fault → Type 0
IsBadText text OutOfMemory = ⊤
IsBadText text (BadCertText k) = IsFirstBad text k
IsBadText text ReadFault = ⊥
IsBadText text WriteFault = ⊥
