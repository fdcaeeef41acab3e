-- What words mean, said without clap.
use Rattle.std.specs.Prelude.{◌≡◌, ◌≢◌, ◌⊎◌, ◌↔◌, ◌<◌, ◌≤◌, ◌^◌, ◌==◌, ◌++◌, ℕ, Bool, true, not, List, [], ◌∷◌}
use Rattle.std.specs.Prelude.{Option, None, Some, codes, decimal}
use Rattle.std.specs.List.{AllByRecursion}
use Rattle.clap.specs.Words.{Text}
use Rattle.sd_words.specs.Numbers.{number_to}
use Rattle.sd_words.specs.Words.{JobNames, verify, replay, job_of}

-- the word doesn't begin with a hyphen
abbrev pub is_plain : Text → Bool
is_plain [] = true
is_plain (first ∷ rest) = not (first == 45)

abbrev pub IsPlain : Text → Type 0
IsPlain word = is_plain word ≡ true

abbrev pub compared : Text → Text → ℕ → ℕ → Option Text → Option JobNames
compared old new workers leaves certificate =
    Some (record { old = old; new = new; task = verify workers leaves certificate })

abbrev pub replayed : Text → Text → Text → Option JobNames
replayed old new certificate = Some (record { old = old; new = new; task = replay certificate })

-- `verify OLD NEW`
abbrev pub PlainVerify : Type 0
PlainVerify = (old new : Text) → IsPlain old → IsPlain new
    → job_of (codes "verify" ∷ old ∷ new ∷ []) ≡ compared old new 1 2000 None

-- `verify OLD NEW --certificate FILE`
abbrev pub certificate_words : Text → Text → Text → List Text
certificate_words old new file = codes "verify" ∷ old ∷ new ∷ codes "--certificate" ∷ file ∷ []

abbrev pub PlainCertificate : Type 0
PlainCertificate = (old new file : Text) → IsPlain old → IsPlain new → IsPlain file
    → (file ≢ old → file ≢ new → job_of (certificate_words old new file) ≡ compared old new 1 2000 (Some file))
    × ((file ≡ old) ⊎ (file ≡ new) → job_of (certificate_words old new file) ≡ None)

-- `replay OLD NEW CERTIFICATE`
abbrev pub PlainReplay : Type 0
PlainReplay = (old new file : Text) → IsPlain old → IsPlain new → IsPlain file
    → job_of (codes "replay" ∷ old ∷ new ∷ file ∷ []) ≡ replayed old new file

-- `verify -- OLD NEW`, `verify --certificate=FILE -- OLD NEW` and `replay -- OLD NEW CERTIFICATE`, whatever the names
abbrev pub AnyNames : Type 0
AnyNames = (old new file : Text)
    → (job_of (codes "verify" ∷ codes "--" ∷ old ∷ new ∷ []) ≡ compared old new 1 2000 None)
    × (file ≢ old → file ≢ new
    → job_of (codes "verify" ∷ (codes "--certificate=" ++ file) ∷ codes "--" ∷ old ∷ new ∷ [])
    ≡ compared old new 1 2000 (Some file))
    × (job_of (codes "replay" ∷ codes "--" ∷ old ∷ new ∷ file ∷ []) ≡ replayed old new file)

-- a word is read as a number exactly where it is the number's decimal text, and the number is within the bounds
abbrev pub NumbersAreSpelled : Type 0
NumbersAreSpelled = (most n : ℕ) (word : Text) → most < 2 ^ 64
    → number_to most word ≡ Some n ↔ (word ≡ decimal n) × (1 ≤ n) × (n ≤ most)

-- `verify OLD NEW --leaves WORD` and `verify OLD NEW --workers WORD`
abbrev pub PlainLeaves : Type 0
PlainLeaves = (old new word : Text) (n : ℕ) → IsPlain old → IsPlain new → IsPlain word
    → job_of (codes "verify" ∷ old ∷ new ∷ codes "--leaves" ∷ word ∷ []) ≡ compared old new 1 n None
    ↔ (word ≡ decimal n) × (1 ≤ n) × (n ≤ 20000)

abbrev pub PlainWorkers : Type 0
PlainWorkers = (old new word : Text) (n : ℕ) → IsPlain old → IsPlain new → IsPlain word
    → job_of (codes "verify" ∷ old ∷ new ∷ codes "--workers" ∷ word ∷ []) ≡ compared old new n 2000 None
    ↔ (word ≡ decimal n) × (1 ≤ n) × (n ≤ 64)

-- ---- odd words

-- `verify a b` with these words after it
abbrev pub after_texts : List Text → List Text
after_texts words = codes "verify" ∷ codes "a" ∷ codes "b" ∷ words

-- what is done with the texts `a` and `b`
abbrev pub with_certificate : Text → Option JobNames
with_certificate file = compared (codes "a") (codes "b") 1 2000 (Some file)

abbrev pub with_leaves : ℕ → Option JobNames
with_leaves n = compared (codes "a") (codes "b") 1 n None

abbrev pub Lines : Type 0
Lines = List (List Text × Option JobNames)

-- An option takes the next word, unless that begins with a hyphen and is longer than that; after `=` it takes what
-- follows, whatever that is, also nothing. It may stand anywhere and comes once.
abbrev pub certificate_lines : Lines
certificate_lines =
    (after_texts (codes "--certificate" ∷ codes "-x" ∷ []), None)
    ∷ (after_texts (codes "--certificate" ∷ codes "--" ∷ codes "c" ∷ []), None)
    ∷ (after_texts (codes "--certificate" ∷ codes "-" ∷ []), with_certificate (codes "-"))
    ∷ (after_texts (codes "--certificate" ∷ [] ∷ []), with_certificate [])
    ∷ (after_texts (codes "--certificate=" ∷ []), with_certificate [])
    ∷ (after_texts (codes "--certificate=-x" ∷ []), with_certificate (codes "-x"))
    ∷ (after_texts (codes "--certificate=x=y" ∷ []), with_certificate (codes "x=y"))
    ∷ (after_texts (codes "--certificate" ∷ []), None)
    ∷ (after_texts (codes "--certificate" ∷ codes "c" ∷ codes "--certificate" ∷ codes "c" ∷ []), None)
    ∷ (after_texts (codes "--certificate=./a" ∷ []), with_certificate (codes "./a"))
    ∷ (after_texts (codes "--cert" ∷ codes "c" ∷ []), None)
    ∷ (after_texts (codes "-certificate" ∷ codes "c" ∷ []), None)
    ∷ (codes "verify" ∷ codes "--certificate" ∷ codes "c" ∷ codes "a" ∷ codes "b" ∷ [], with_certificate (codes "c"))
    ∷ (codes "verify" ∷ codes "a" ∷ codes "--certificate=c" ∷ codes "b" ∷ [], with_certificate (codes "c"))
    ∷ []

abbrev pub number_lines : Lines
number_lines =
    (after_texts (codes "--leaves" ∷ codes "1" ∷ []), with_leaves 1)
    ∷ (after_texts (codes "--leaves=20000" ∷ []), with_leaves 20000)
    ∷ (after_texts (codes "--leaves=20001" ∷ []), None)
    ∷ (after_texts (codes "--leaves" ∷ codes "007" ∷ []), None)
    ∷ (after_texts (codes "--leaves" ∷ codes "0" ∷ []), None)
    ∷ (after_texts (codes "--leaves" ∷ codes "+7" ∷ []), None)
    ∷ (after_texts (codes "--leaves=-7" ∷ []), None)
    ∷ (after_texts (codes "--leaves" ∷ codes "0x7" ∷ []), None)
    ∷ (after_texts (codes "--leaves" ∷ [] ∷ []), None)
    ∷ (after_texts (codes "--leaves" ∷ codes "7" ∷ codes "--leaves" ∷ codes "8" ∷ []), None)
    ∷ (after_texts (codes "--workers" ∷ codes "64" ∷ []), compared (codes "a") (codes "b") 64 2000 None)
    ∷ (after_texts (codes "--workers" ∷ codes "65" ∷ []), None)
    ∷ []

-- After `--` each word stands in its place, whatever it is. Before, a word that begins with a hyphen and is longer
-- than that is no name of a file.
abbrev pub place_lines : Lines
place_lines =
    (codes "verify" ∷ codes "--" ∷ codes "-a" ∷ codes "--" ∷ [], compared (codes "-a") (codes "--") 1 2000 None)
    ∷ (codes "verify" ∷ codes "a" ∷ codes "--" ∷ codes "--help" ∷ [], compared (codes "a") (codes "--help") 1 2000 None)
    ∷ (after_texts (codes "--" ∷ []), with_leaves 2000)
    ∷ (after_texts (codes "--" ∷ codes "--leaves=7" ∷ []), None)
    ∷ (codes "verify" ∷ codes "-" ∷ [] ∷ [], compared (codes "-") [] 1 2000 None)
    ∷ (codes "verify" ∷ codes "help" ∷ codes "b" ∷ [], compared (codes "help") (codes "b") 1 2000 None)
    ∷ (codes "verify" ∷ codes "a" ∷ codes "-b" ∷ [], None)
    ∷ (codes "verify" ∷ codes "a" ∷ [], None)
    ∷ (after_texts ([] ∷ []), None)
    ∷ (
      codes "replay" ∷ codes "--" ∷ codes "a" ∷ codes "b" ∷ codes "-c" ∷ [],
      replayed (codes "a") (codes "b") (codes "-c"),
    )
    ∷ (codes "replay" ∷ codes "a" ∷ codes "a" ∷ codes "a" ∷ [], replayed (codes "a") (codes "a") (codes "a"))
    ∷ (codes "replay" ∷ codes "a" ∷ codes "b" ∷ [], None)
    ∷ (codes "replay" ∷ codes "a" ∷ codes "b" ∷ codes "c" ∷ codes "d" ∷ [], None)
    ∷ []

-- a request for help or for the version, and what comes later or never
abbrev pub other_lines : Lines
other_lines =
    (after_texts (codes "--help" ∷ []), None)
    ∷ (after_texts (codes "-h" ∷ []), None)
    ∷ (after_texts (codes "--version" ∷ []), None)
    ∷ (after_texts (codes "--settings" ∷ codes "s" ∷ []), None)
    ∷ (codes "replay" ∷ codes "a" ∷ codes "b" ∷ codes "c" ∷ codes "--help" ∷ [], None)
    ∷ (codes "replay" ∷ codes "a" ∷ codes "b" ∷ codes "c" ∷ codes "--leaves=7" ∷ [], None)
    ∷ (codes "--help" ∷ [], None)
    ∷ (codes "help" ∷ [], None)
    ∷ (codes "gen" ∷ codes "3" ∷ [], None)
    ∷ (codes "Verify" ∷ codes "a" ∷ codes "b" ∷ [], None)
    ∷ ([] ∷ codes "a" ∷ codes "b" ∷ [], None)
    ∷ []

-- the words of each line name this job, or none
abbrev pub Tell : Lines → Type 0
Tell lines = AllByRecursion (λ line. job_of line.0 ≡ line.1) lines

abbrev pub OddWords : Type 0
OddWords = Tell certificate_lines × Tell number_lines × Tell place_lines × Tell other_lines
