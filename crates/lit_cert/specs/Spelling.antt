-- The text of a certificate, version 1 or 2: lines of words. Version 2 has up to sixteen runs in place of eight.
use Rattle.std.specs.Prelude.{◌≡◌, ℕ, ◌+◌, ◌*◌, ◌/◌, ◌^◌, ◌<◌, ◌≤◌, List, [], ◌∷◌, ◌++◌, length, take, drop, map, codes, All, ◌==◌, if◌then◌else◌}
use Rattle.std.specs.List.{flat_map, join_with_byte, range_with_len}
use Rattle.std.specs.Fmt.{decimal}
use Rattle.lit_cert.specs.Certificates.{CertificateNumbers, CertificateParts, numbers_of}
use Rattle.lit_base.specs.Profiles.{buckets}

-- how many literals the certificate is for, where its potentials stand in that many rows
abbrev pub literals_in : ℕ → CertificateNumbers → ℕ
literals_in most c = length c.potentials / most

-- the words of the line with the number of literals
abbrev pub literals_words : ℕ → List (List ℕ)
literals_words n = codes "literals" ∷ decimal n ∷ []

-- the words of the line of ends
abbrev pub ends_words : List ℕ → List (List ℕ)
ends_words ends = codes "ends" ∷ map decimal ends

-- the words of the line of the price
abbrev pub cost_words : ℕ → List (List ℕ)
cost_words cost = codes "cost" ∷ decimal cost ∷ []

-- the words of a row of potentials: its number, from 1, and the potentials
abbrev pub row_words : ℕ → List ℕ → List (List ℕ)
row_words number row = decimal number ∷ map decimal row

-- the first rows of n potentials each, as the words of their lines
unfoldable pub rows_of : ℕ → ℕ → List ℕ → List (List (List ℕ))
rows_of count n potentials = map (λ r. row_words (r + 1) (take n (drop (r * n) potentials))) (range_with_len 0 count)

-- the version of a text with at most `most` runs
abbrev pub version_of : ℕ → ℕ
version_of most = if most == 8 then 1 else 2

-- the words of the line with the version
abbrev pub version_words : ℕ → List (List ℕ)
version_words most = codes "litcert" ∷ decimal (version_of most) ∷ []

-- the lines before the rows, each as its words
abbrev pub head_lines : ℕ → ℕ → List ℕ → ℕ → List (List (List ℕ))
head_lines most n ends cost = version_words most ∷ literals_words n ∷ ends_words ends ∷ cost_words cost ∷ []

-- the lines of the text, each as its words
abbrev pub lines_of : ℕ → CertificateNumbers → List (List (List ℕ))
lines_of most c =
    let n = literals_in most c in
    head_lines most n c.ends c.cost ++ (rows_of most n c.potentials ++ (codes "end" ∷ []) ∷ [])

-- a line: its words with single spaces between them, and a newline
abbrev pub line_text : List (List ℕ) → List ℕ
line_text words = join_with_byte 32 words ++ 10 ∷ []

-- the text: its lines, and nothing after them
abbrev pub spelling_for : ℕ → CertificateNumbers → List ℕ
spelling_for most c = flat_map line_text (lines_of most c)

-- 1 to 4,096 literals
pub record IsCount (n : ℕ) : Type 0 where
  pub some : 1 ≤ n
  pub few : n ≤ 4096

-- `most` rows, each with a potential for each literal, and one to `most` ends
pub record IsShapedFor (most : ℕ) (c : CertificateNumbers) : Type 0 where
  pub rows : length c.potentials ≡ most * literals_in most c
  pub literals : IsCount (literals_in most c)
  pub ends : 1 ≤ length c.ends
  pub few_ends : length c.ends ≤ most

-- one to `most` ends of 16 bits
pub record HasEnds (most : ℕ) (ends : List ℕ) : Type 0 where
  pub some : 1 ≤ length ends
  pub few : length ends ≤ most
  pub small : All (λ e. e < 2 ^ 16) ends

-- a certificate with a text: of that shape, with numbers within their limits
pub record HasTextFor (most : ℕ) (c : CertificateNumbers) : Type 0 where
  pub rows : length c.potentials ≡ most * literals_in most c
  pub literals : IsCount (literals_in most c)
  pub ends : HasEnds most c.ends
  pub small_cost : c.cost < 2 ^ 64
  pub small_potentials : All (λ h. h < 2 ^ 64) c.potentials

-- ---- of a certificate, by its profile

-- it can be written: its rows are complete, and it has at least one end and no more than its profile allows
abbrev pub IsShaped : CertificateParts → Type 0
IsShaped c = IsShapedFor (buckets c.profile) (numbers_of c)

-- it has a text
abbrev pub HasText : CertificateParts → Type 0
HasText c = HasTextFor (buckets c.profile) (numbers_of c)

-- its text
abbrev pub spelling : CertificateParts → List ℕ
spelling c = spelling_for (buckets c.profile) (numbers_of c)
